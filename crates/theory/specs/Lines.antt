-- Lines and words of a text: lines are ended by LF, words are parted by one space.
use Rattle.std.specs.Prelude.{ℕ, ◌+◌, ◌*◌, ◌-◌, cond, not, ◌&&◌, List, [], ◌∷◌, eqb}
use Rattle.std.proofs.Math.Option.{Option, none, some}
use Rattle.theory.specs.Bytes.{LF, space, zero_digit, is_digit}

-- a line without its LF, and the text after it
abbrev pub Cut : Type 0
Cut = (List ℕ) × List ℕ

-- the byte b in front of a line
abbrev pub add_front : ℕ → Option Cut → Option Cut
add_front b none = none
add_front b (some p) = some (b ∷ p.0, p.1)

-- the first line of a text; none where no LF ends it
abbrev pub cut_line : List ℕ → Option Cut
cut_line [] = none
cut_line (b ∷ bs) = let r = cut_line bs in cond (eqb b LF) (some ([], bs)) (add_front b r)

-- what follows a key
abbrev pub after_key : List ℕ → List ℕ → Option (List ℕ)
after_key [] bs = some bs
after_key (k ∷ ks) [] = none
after_key (k ∷ ks) (b ∷ bs) = cond (eqb k b) (after_key ks bs) none

-- the number of one or two digits without leading zero
abbrev pub count_of : List ℕ → Option ℕ
count_of [] = none
count_of (a ∷ []) = cond (is_digit a) (some (a - zero_digit)) none
count_of (a ∷ b ∷ []) = cond (is_digit a && is_digit b && not (eqb a zero_digit)) (some ((a - zero_digit) * 10 + (b - zero_digit))) none
count_of (a ∷ b ∷ c ∷ ds) = none

-- the byte b in front of the first word
abbrev pub add_byte : ℕ → List (List ℕ) → List (List ℕ)
add_byte b [] = (b ∷ []) ∷ []
add_byte b (w ∷ ws) = (b ∷ w) ∷ ws

-- the pieces between single spaces: one more than there are spaces
abbrev pub cut_words : List ℕ → List (List ℕ)
cut_words [] = [] ∷ []
cut_words (b ∷ bs) = let r = cut_words bs in cond (eqb b space) ([] ∷ r) (add_byte b r)

-- the words of what follows a key: none where nothing follows it
abbrev pub words_of : List ℕ → List (List ℕ)
words_of [] = []
words_of (b ∷ bs) = cut_words (b ∷ bs)
