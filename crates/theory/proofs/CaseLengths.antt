-- The text of an interpretation has the length that document 01 gives, and no sheet has a longer one than 24,902 bytes.
use Prim.Native.Nat.{ℕ, zero, suc, ◌+◌, ◌*◌, ◌≤◌, ◌<◌}
use mathlib.Core.Path.{◌≡◌, refl, ◌∙◌}
use mathlib.Core.Bool.{true}
use mathlib.Core.List.{List, [], ◌∷◌, ◌++◌, map}
use native.Mathlib.Nat.{one-le-pow}
use native.Mathlib.Omega.{arith}
use lib.Dec.{leb}
use lib.ListN.{length, take, drop, length-append, length-map}
use Rattle.theory.specs.Lists.{concat_map, sum}
use Rattle.theory.specs.Bytes.{LF, space}
use Rattle.theory.specs.Syntax.{Symbol, Signature}
use Rattle.theory.specs.Cells.{table_size, is_interpretation}
use Rattle.theory.specs.Refusals.{answer}
use Rattle.theory.specs.Problem.{is_name, Problem, read_problem}
use Rattle.theory.specs.CaseText.{least_byte, joined, equals_sign, table_text, tables_text, case_text, case_length}
use Rattle.theory.specs.WellFormed.{symbol_ok, WellFormed}
use Rattle.theory.proofs.Tests.{and_right}
use Rattle.theory.proofs.Lists.{sum-within}
use Rattle.theory.proofs.Limits.{table_size-within}
use Rattle.theory.proofs.Names.{name-length}
use Rattle.theory.proofs.Parsing.{read_problem-well_formed, at-most-24}
use Rattle.theory.proofs.Tables.{Table, interpretation-split}

spaced-length : (bs : List ℕ) → length (concat_map (λ c. space ∷ c ∷ []) bs) ≡ 2 * length bs
spaced-length [] = refl
spaced-length (b ∷ bs) = omega (arith, spaced-length bs)

joined_length : (bs : List ℕ) → zero < length bs → suc (length (joined bs)) ≡ 2 * length bs
joined_length [] h = absurd (omega arith)
joined_length (b ∷ bs) h = omega (arith, spaced-length bs)

-- the length of a symbol's line
abbrev pub line_length : ℕ → Symbol → ℕ
line_length s f = length f.name + 1 + 2 * table_size s f

pub table-length : (s : ℕ) (f : Symbol) (us : List ℕ) → zero < s → Table s f.kind (table_size s f) us → length (table_text f us) ≡ line_length s f
unfolding table_text
table-length s f us pos t =
    let bs : List ℕ = map (λ v. least_byte f.kind + v) us in
    let one : 1 ≤ table_size s f = one-le-pow f.arity s pos in
    let lb : length bs ≡ table_size s f = length-map us (λ v. least_byte f.kind + v) ∙ t.counted in
    omega (
      arith,
      length-append (f.name ++ (equals_sign ∷ [])) (joined bs ++ (LF ∷ [])),
      length-append f.name (equals_sign ∷ []),
      length-append (joined bs) (LF ∷ []),
      joined_length bs (omega arith),
    )

pub tables-length : (s : ℕ) (g : Signature) (vs : List ℕ) → zero < s → is_interpretation s g vs ≡ true → length (tables_text s g vs) ≡ sum (map (line_length s) g)
unfolding tables_text
tables-length s [] vs pos h = refl
tables-length s (f ∷ g) vs pos h =
    let m : ℕ = table_size s f in
    let r = interpretation-split s f g vs h in
    length-append (table_text f (take m vs)) (tables_text s g (drop m vs)) ∙ omega (arith, table-length s f (take m vs) pos r.0, tables-length s g (drop m vs) pos r.1)

-- a case has the length that document 01 gives
pub case-lengths : (s : ℕ) (g : Signature) (vs : List ℕ) → zero < s → is_interpretation s g vs ≡ true → length (case_text s g vs) ≡ case_length s g
unfolding case_text case_length
case-lengths s g vs pos h = omega (arith, tables-length s g vs pos h)

line-within : (s : ℕ) (f : Symbol) → s ≤ 8 → symbol_ok f ≡ true → line_length s f ≤ 1037
line-within s f le h = omega (arith, (name-length f.name (and_right (leb f.arity 3) (is_name f.name) h)).1, table_size-within s f le h)

-- no case of a sheet is longer than 24,902 bytes
pub longest-case : (sheet : List ℕ) (p : Problem) (s : ℕ) → read_problem sheet ≡ answer p → s ≤ 8 → case_length s p.symbols ≤ 24902
unfolding case_length
longest-case sheet p s e le =
    let w : WellFormed p = read_problem-well_formed sheet p e in
    omega (arith, at-most-24 p w, sum-within (line_length s) symbol_ok 1037 p.symbols (λ f. line-within s f le) w.symbols-ok)
