-- The lines of an outside solver's answer, in the layout of the solver competitions (document 02, slip 7): what they say.
use Rattle.std.specs.Prelude.{ℕ, ◌+◌, ◌*◌, ◌-◌, Bool, true, false, cond, not, ◌&&◌, List, [], ◌∷◌, ◌++◌, eqb}
use Rattle.std.proofs.Math.Option.{Option, none, some}
use Rattle.theory.specs.Lists.{select, same, prefix}
use Rattle.theory.specs.Bytes.{bytes, LF, zero_digit, is_digit}
use Rattle.theory.specs.Lines.{after_key, cut_words}
use Rattle.theory.specs.Propositional.{PropLiteral}
use Rattle.theory.specs.Dimacs.{minus}
use Rattle.theory.specs.Program.{◌>>?◌}

-- the byte b in front of the first line; none where no LF ends that line
abbrev pub onto_line : ℕ → Option (List (List ℕ)) → Option (List (List ℕ))
onto_line b none = none
onto_line b (some []) = none
onto_line b (some (l ∷ ls)) = some ((b ∷ l) ∷ ls)

-- the lines of a text, without their LFs; none where no LF ends the last
abbrev pub cut_lines : List ℕ → Option (List (List ℕ))
cut_lines [] = some []
cut_lines (b ∷ bs) = let r = cut_lines bs in cond (eqb b LF) (prefix [] r) (onto_line b r)

-- a line that is ignored: it begins with c
abbrev pub is_comment : List ℕ → Bool
is_comment [] = false
is_comment (b ∷ bs) = eqb b 99

-- the number n with these digits behind its own; none where a byte is no digit
abbrev pub with_digits : ℕ → List ℕ → Option ℕ
with_digits n [] = some n
with_digits n (b ∷ bs) = cond (is_digit b) (with_digits (n * 10 + (b - zero_digit)) bs) none

-- a number of at least 1: digits, without leading zero
unfoldable pub read_positive : List ℕ → Option ℕ
read_positive [] = none
read_positive (b ∷ bs) = cond (eqb b zero_digit) none (with_digits 0 (b ∷ bs))

-- the literal with this sign and number
abbrev pub with_sign : Bool → Option ℕ → Option PropLiteral
with_sign b none = none
with_sign b (some n) = some (record { positive = b; number = n })

-- a number that is not 0: n or -n
unfoldable pub read_literal : List ℕ → Option PropLiteral
read_literal [] = none
read_literal (b ∷ bs) = cond (eqb b minus) (with_sign false (read_positive bs)) (with_sign true (read_positive (b ∷ bs)))

-- the number that ends the last v line
abbrev pub end_word : List ℕ
end_word = zero_digit ∷ []

-- numbers, 0 last of all and only there: the literals before the 0
abbrev pub read_numbers : List (List ℕ) → Option (List PropLiteral)
read_numbers [] = none
read_numbers (w ∷ []) = cond (same w end_word) (some []) none
read_numbers (w ∷ x ∷ ws) = read_literal w >>? λ l. prefix l (read_numbers (x ∷ ws))

-- the words of v lines, in order; one space parts them, and a line has one or more
abbrev pub value_words : List (List ℕ) → Option (List (List ℕ))
value_words [] = some []
value_words (l ∷ ls) = after_key (bytes "v ") l >>? λ r. value_words ls >>? λ ws. some (cut_words r ++ ws)

-- what a solver says: there is no model, or there is one with these literals
pub data Claim : Type 0 where
  unsatisfiable : Claim
  satisfiable : List PropLiteral → Claim

-- the line that says that there is a model
abbrev pub satisfiable_line : List ℕ
satisfiable_line = bytes "s SATISFIABLE"

-- the line that says that there is none
abbrev pub unsatisfiable_line : List ℕ
unsatisfiable_line = bytes "s UNSATISFIABLE"

-- no line
abbrev pub is_empty : List (List ℕ) → Bool
is_empty [] = true
is_empty (l ∷ ls) = false

-- the lines that are no comments: one s line, then v lines; no v lines where there is no model
unfoldable pub claim_of : List (List ℕ) → Option Claim
claim_of [] = none
claim_of (l ∷ ls) =
    let model : Option Claim = value_words ls >>? λ ws. read_numbers ws >>? λ numbers. some (satisfiable numbers) in
    cond (same l satisfiable_line) model (cond (same l unsatisfiable_line && is_empty ls) (some unsatisfiable) none)

-- what a text says; none where its lines are not as laid out
unfoldable pub read_claim : List ℕ → Option Claim
read_claim text = cut_lines text >>? λ ls. claim_of (select (λ l. not (is_comment l)) ls)
