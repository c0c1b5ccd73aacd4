-- The text of an interpretation (document 01: a case), and reading it: 12 at the first line that is not exactly as laid out.
use Rattle.std.specs.Prelude.{ℕ, suc, ◌+◌, ◌*◌, ◌-◌, Bool, cond, ◌&&◌, List, [], ◌∷◌, ◌++◌, map, eqb, ltb, leb, length, take, drop}
use Rattle.std.proofs.Math.Option.{Option, none, some}
use Rattle.theory.specs.Lists.{all, concat_map, same, sum, prefix}
use Rattle.theory.specs.Bytes.{bytes, LF, space, zero_digit}
use Rattle.theory.specs.Lines.{cut_line, after_key}
use Rattle.theory.specs.Syntax.{Kind, function, predicate, Symbol, Signature}
use Rattle.theory.specs.Cells.{table_size, value_count}
use Rattle.theory.specs.Refusals.{Answer, answer, at_line, ◌>>=◌, check, or_refuse}

-- the byte of a cell's least value: elements are written from 1, truth values from 0
abbrev pub least_byte : Kind → ℕ
least_byte function = 49
least_byte predicate = 48

-- values with one space between
abbrev pub joined : List ℕ → List ℕ
joined [] = []
joined (b ∷ bs) = b ∷ concat_map (λ c. space ∷ c ∷ []) bs

-- the byte that parts a name from its values
abbrev pub equals_sign : ℕ
equals_sign = 61

-- a symbol's line: name=values
unfoldable pub table_text : Symbol → List ℕ → List ℕ
table_text f vs = (f.name ++ (equals_sign ∷ [])) ++ (joined (map (λ v. least_byte f.kind + v) vs) ++ (LF ∷ []))

-- a line for each symbol, in order
unfoldable pub tables_text : ℕ → Signature → List ℕ → List ℕ
tables_text s [] vs = []
tables_text s (f ∷ fs) vs = table_text f (take (table_size s f) vs) ++ tables_text s fs (drop (table_size s f) vs)

-- case=1, size=s, the tables
unfoldable pub case_text : ℕ → Signature → List ℕ → List ℕ
case_text s g vs = bytes "case=1\nsize=" ++ ((zero_digit + s) ∷ LF ∷ tables_text s g vs)

-- its length: 14, and for each symbol name length + 1 + 2·s^arity
unfoldable pub case_length : ℕ → Signature → ℕ
case_length s g = 14 + sum (map (λ (f : Symbol). length f.name + 1 + 2 * table_size s f) g)

-- bytes that each follow one space
abbrev pub spaced : List ℕ → Option (List ℕ)
spaced [] = some []
spaced (c ∷ []) = none
spaced (c ∷ b ∷ bs) = cond (eqb c space) (prefix b (spaced bs)) none

-- bytes with one space between
abbrev pub unjoined : List ℕ → Option (List ℕ)
unjoined [] = none
unjoined (b ∷ bs) = prefix b (spaced bs)

-- the byte is that of a value of the kind
abbrev pub is_value_byte : ℕ → Kind → ℕ → Bool
is_value_byte s k b = leb (least_byte k) b && ltb (b - least_byte k) (value_count s k)

-- a symbol's values, from line l, and the text after it
unfoldable pub read_table : ℕ → Symbol → ℕ → List ℕ → Answer ((List ℕ) × List ℕ)
read_table s f l text = do
  p ← or_refuse (cut_line text) (at_line 12 l)
  v ← or_refuse (after_key (f.name ++ (equals_sign ∷ [])) p.0) (at_line 12 l)
  bs ← or_refuse (unjoined v) (at_line 12 l)
  _ ← check (eqb (length bs) (table_size s f) && all (is_value_byte s f.kind) bs) (at_line 12 l)
  answer (map (λ b. b - least_byte f.kind) bs, p.1)

-- the values of the symbols' lines from line l on, and the text after them
unfoldable pub read_tables : ℕ → Signature → ℕ → List ℕ → Answer ((List ℕ) × List ℕ)
read_tables s [] l text = answer ([], text)
read_tables s (f ∷ fs) l text = do
  p ← read_table s f l text
  r ← read_tables s fs (suc l) p.1
  answer (p.0 ++ r.0, r.1)

-- a size of 1 to 8 and the cell values at that size
pub record Case : Type 0 where
  pub size : ℕ
  pub values : List ℕ

-- the size that a line's value is
abbrev pub size_of : List ℕ → Option ℕ
size_of [] = none
size_of (b ∷ []) = cond (leb 49 b && ltb b 57) (some (b - zero_digit)) none
size_of (b ∷ c ∷ bs) = none

-- the case of a text, every line exactly as laid out and nothing after the last
unfoldable pub read_case : Signature → List ℕ → Answer Case
read_case g text = do
  a ← or_refuse (cut_line text) (at_line 12 1)
  _ ← check (same a.0 (bytes "case=1")) (at_line 12 1)
  b ← or_refuse (cut_line a.1) (at_line 12 2)
  v ← or_refuse (after_key (bytes "size=") b.0) (at_line 12 2)
  s ← or_refuse (size_of v) (at_line 12 2)
  t ← read_tables s g 3 b.1
  _ ← check (same t.1 []) (at_line 12 (3 + length g))
  answer (record { size = s; values = t.0 })
