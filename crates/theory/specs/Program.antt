-- The parts of the finder program: its lines and what it prints. The program is `allowance/specs/FinderProgram`.
use Rattle.std.specs.Prelude.{ℕ, ◌-◌, Bool, true, false, cond, List, [], ◌∷◌, ◌++◌}
use Rattle.std.proofs.Math.Option.{Option, none, some}
use Rattle.theory.specs.Bytes.{bytes, LF, zero_digit, is_digit, decimal}
use Rattle.theory.specs.Lines.{cut_line, after_key}
use Rattle.theory.specs.Refusals.{Refusal, Answer, answer, refused}
use Rattle.theory.specs.Least.{or_else}
use Rattle.theory.specs.Operations.{Search, found, nothing}

-- the numbers of work
abbrev pub program_work : ℕ
program_work = 16000

-- the bytes of output: the length of the longest case
abbrev pub program_output : ℕ
program_output = 24902

-- one digit
abbrev pub digit_of : List ℕ → Option ℕ
digit_of [] = none
digit_of (b ∷ []) = cond (is_digit b) (some (b - zero_digit)) none
digit_of (b ∷ c ∷ bs) = none

-- go on with what was read, if anything was
infixl 20 ◌>>?◌
unfoldable pub ◌>>?◌ : {A B : Type 0} → Option A → (A → Option B) → Option B
◌>>?◌ none k = none
◌>>?◌ (some a) k = k a

-- a line of a key and one digit: the digit, and the text after the line
unfoldable pub digit_line : List ℕ → List ℕ → Option (ℕ × List ℕ)
digit_line key text = cut_line text >>? λ p. after_key key p.0 >>? λ v. digit_of v >>? λ d. some (d, p.1)

-- the line that says yes or no to the constant clauses, and the text after it
unfoldable pub switch_line : List ℕ → Option (Bool × List ℕ)
switch_line text = or_else (after_key (bytes "sym=yes\n") text >>? λ rest. some (true, rest)) (after_key (bytes "sym=no\n") text >>? λ rest. some (false, rest))

-- yes or no
abbrev pub yes_no : Bool → List ℕ
yes_no true = bytes "yes"
yes_no false = bytes "no"

-- what is printed for a refusal
unfoldable pub refusal_text : Refusal → List ℕ
refusal_text r =
    bytes "answer=refused\nreason=" ++ (decimal r.number ++ (bytes "\nline=" ++ (decimal r.place.line ++ (bytes "\ncolumn=" ++ (decimal r.place.column ++ (LF ∷ []))))))

-- what the program prints for an answer
unfoldable pub printed : Answer Search → List ℕ
printed (answer (found s text)) = bytes "answer=found\n" ++ text
printed (answer (nothing b)) = bytes "answer=none\nsettled=" ++ (yes_no b ++ (LF ∷ []))
printed (refused r) = refusal_text r
