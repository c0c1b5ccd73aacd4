-- What a line must be, whether it is so, and how many of its bytes are good.
use Rattle.std.specs.Prelude.{ℕ, zero, suc, Bool, true, false, cond, ◌&&◌, List, [], ◌∷◌, eqb, ltb, leb, length}
use Rattle.std.proofs.Math.Option.{Option, none, some}
use Rattle.theory.specs.Lists.{all, same}
use Rattle.theory.specs.Bytes.{space, zero_digit, is_digit}
use Rattle.theory.specs.Lines.{Cut, cut_line, after_key, count_of}
use Rattle.theory.specs.Syntax.{Kind, function}
use Rattle.theory.specs.Problem.{symbol_of}
use Rattle.theory.specs.CaseText.{unjoined, is_value_byte, size_of}

-- what follows a line's key
pub data ValueForm : Type 0 where
  -- no byte
  no_bytes : ValueForm
  -- one or two digits, no leading zero
  count_digits : ValueForm
  -- any bytes, then / and one digit
  declaration : ValueForm
  -- any bytes: the words of a clause
  any_words : ValueForm
  -- a digit, 1 to 8
  size_digit : ValueForm
  -- so many values of the kind at a size, one space between
  cell_values : ℕ → Kind → ℕ → ValueForm

-- what a line must be: a key and what follows it, ended by LF; or no line stands there
pub data LineForm : Type 0 where
  keyed : List ℕ → ValueForm → LineForm
  no_line : LineForm

-- there is a value
abbrev pub is_some : {A : Type 0} → Option A → Bool
is_some none = false
is_some (some a) = true

-- the values that were read are so many, and each is one of the kind at the size
abbrev pub are_cells : ℕ → Kind → ℕ → Option (List ℕ) → Bool
are_cells s k n none = false
are_cells s k n (some bs) = eqb (length bs) n && all (is_value_byte s k) bs

-- the bytes after the key are of the form
unfoldable pub has_form : ValueForm → List ℕ → Bool
has_form no_bytes v = same v []
has_form count_digits v = is_some (count_of v)
has_form declaration v = is_some (symbol_of function v)
has_form any_words v = true
has_form size_digit v = is_some (size_of v)
has_form (cell_values s k n) v = are_cells s k n (unjoined v)

-- and so is what follows the key, if it follows
abbrev pub value_has_form : ValueForm → Option (List ℕ) → Bool
value_has_form v none = false
value_has_form v (some bs) = has_form v bs

-- and so is the line that was cut from a text, if an LF ends it
abbrev pub line_has_form : List ℕ → ValueForm → Option Cut → Bool
line_has_form key v none = false
line_has_form key v (some p) = value_has_form v (after_key key p.0)

-- the text begins with a line as laid out; where no line stands, it is empty
unfoldable pub is_laid_out : LineForm → List ℕ → Bool
is_laid_out (keyed key v) text = line_has_form key v (cut_line text)
is_laid_out no_line text = same text []

-- how many bytes, from the first on, pass each its own test
abbrev pub passing : List (ℕ → Bool) → List ℕ → ℕ
passing [] bs = 0
passing (t ∷ ts) [] = 0
passing (t ∷ ts) (b ∷ bs) = cond (t b) (suc (passing ts bs)) 0

-- the byte is the space
abbrev pub is_space : ℕ → Bool
is_space b = eqb b space

-- the byte is a digit from 1 to 8
abbrev pub is_size_byte : ℕ → Bool
is_size_byte b = leb 49 b && ltb b 57

-- a space and a value, n times
abbrev pub spaced_tests : ℕ → Kind → ℕ → List (ℕ → Bool)
spaced_tests s k zero = []
spaced_tests s k (suc n) = is_space ∷ is_value_byte s k ∷ spaced_tests s k n

-- n values, one space between
abbrev pub cell_tests : ℕ → Kind → ℕ → List (ℕ → Bool)
cell_tests s k zero = []
cell_tests s k (suc n) = is_value_byte s k ∷ spaced_tests s k n

-- the tests of a count: after 0 nothing, after another digit one digit
abbrev pub count_tests : List ℕ → List (ℕ → Bool)
count_tests [] = []
count_tests (b ∷ bs) = is_digit ∷ cond (eqb b zero_digit) [] (is_digit ∷ [])

-- how many bytes after the key are good: with them, something after them makes the line as laid out
unfoldable pub good_value : ValueForm → List ℕ → ℕ
good_value no_bytes v = 0
good_value count_digits v = passing (count_tests v) v
good_value declaration v = length v
good_value any_words v = length v
good_value size_digit v = passing (is_size_byte ∷ []) v
good_value (cell_values s k n) v = passing (cell_tests s k n) v

-- the same of a line: the bytes of its key, and behind the whole key those of its value
unfoldable pub good_line : List ℕ → ValueForm → List ℕ → ℕ
good_line [] v bs = good_value v bs
good_line (k ∷ ks) v [] = 0
good_line (k ∷ ks) v (b ∷ bs) = cond (eqb k b) (suc (good_line ks v bs)) 0

-- how many bytes of a line are good; none where no line stands
abbrev pub good_bytes : LineForm → List ℕ → ℕ
good_bytes (keyed key v) l = good_line key v l
good_bytes no_line l = 0
