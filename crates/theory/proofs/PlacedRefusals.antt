-- A sheet's refusal with its column names one of the first 93 lines, and a column of at most 16,385.
use Prim.Native.Nat.{ℕ, zero, suc, ◌+◌, ◌≤◌, ◌<◌}
use mathlib.Core.Path.{◌≡◌, refl, sym, ap, ◌∙◌}
use mathlib.Core.Bool.{Bool, true, false}
use mathlib.Core.Option.{Option, none, some}
use mathlib.Core.List.{List, ◌∷◌}
use native.Mathlib.Omega.{arith}
use lib.Dec.{leb}
use lib.ListN.{length, length-append}
use Rattle.theory.specs.Bytes.{LF}
use Rattle.theory.specs.Lines.{Cut, cut_line}
use Rattle.theory.specs.Refusals.{Refusal, refused, at_line, unplaced, check}
use Rattle.theory.specs.Problem.{max_bytes, read_problem}
use Rattle.theory.specs.DueLines.{cut_or, rest_or, first_line, from_line}
use Rattle.theory.specs.Columns.{sheet_column, placed_problem}
use Rattle.theory.proofs.Tests.{leb-true, leb-of-<}
use Rattle.theory.proofs.Answers.{unrefused, bind-refused, check-true, check-of-false, answer≢refused, refused-inj}
use Rattle.theory.proofs.Lines.{cut-only}
use Rattle.theory.proofs.PlacedReading.{plain-problem, problem-refused}
use Rattle.theory.proofs.SheetRefusals.{OfSheet, sheet-refusal}
use Rattle.theory.proofs.ColumnsWithin.{within}

line-short : (text : List ℕ) → length (first_line text) ≤ length text
line-short text = go (cut_line text) refl
  where
    go : (o : Option Cut) → cut_line text ≡ o → length (cut_or text o) ≤ length text
    go none e = omega arith
    go (some p) e = let n : length p.0 + length (LF ∷ p.1) ≡ length text = sym (length-append p.0 (LF ∷ p.1)) ∙ ap length (cut-only text p e) in omega (arith, n)

rest-short : (text : List ℕ) → length (rest_or (cut_line text)) ≤ length text
rest-short text = go (cut_line text) refl
  where
    go : (o : Option Cut) → cut_line text ≡ o → length (rest_or o) ≤ length text
    go none e = omega arith
    go (some p) e = let n : length p.0 + length (LF ∷ p.1) ≡ length text = sym (length-append p.0 (LF ∷ p.1)) ∙ ap length (cut-only text p e) in omega (arith, n)

from-short : (l : ℕ) (text : List ℕ) → length (from_line l text) ≤ length text
from-short zero text = omega arith
from-short (suc l) text = omega (arith, from-short l (rest_or (cut_line text)), rest-short text)

-- a sheet that is refused on a line is not too long
not-too-long : (sheet : List ℕ) (n l : ℕ) → read_problem sheet ≡ refused (at_line n (suc l)) → length sheet ≤ max_bytes
unfolding read_problem
not-too-long sheet n l e =
    unrefused (check (leb (length sheet) max_bytes) (unplaced 1)) _ (at_line n (suc l)) e
    (λ h. absurd (unlined (leb (length sheet) max_bytes) h))
    (λ (u : Unit {0}) h _. leb-true (length sheet) max_bytes (check-true (leb (length sheet) max_bytes) (unplaced 1) u h))
  where
    unlined : (b : Bool) → check b (unplaced 1) ≡ refused (at_line n (suc l)) → ⊥
    unlined true h = answer≢refused tt (at_line n (suc l)) h
    unlined false h =
        let z : ◌≡◌ {A = ℕ} 0 (suc l) = ap (λ (r : Refusal). r.place.line) (refused-inj {A = Unit {0}} (unplaced 1) (at_line n (suc l)) h) in
        omega (arith, z)

-- a sheet that is too long is refused, whatever else it is
pub too_long : (sheet : List ℕ) → max_bytes < length sheet → placed_problem sheet ≡ refused (unplaced 1)
unfolding read_problem sheet_column
too_long sheet h =
    problem-refused sheet (unplaced 1)
    (bind-refused (check (leb (length sheet) max_bytes) (unplaced 1)) _ (unplaced 1) (check-of-false (leb (length sheet) max_bytes) (unplaced 1) (leb-of-< (length sheet) max_bytes h)))

-- a refusal without column and length is one at its line
pub at-its-line : (r : Refusal) → r.place.column ≡ 0 → r.needed ≡ 0 → r ≡ at_line r.number r.place.line
at-its-line r c n =
    ap (λ (c : ℕ). record { number = r.number; place = record { line = r.place.line; column = c }; needed = r.needed }) c
    ∙ ap (λ (m : ℕ). record { number = r.number; place = record { line = r.place.line; column = 0 }; needed = m }) n

column-near : (sheet : List ℕ) (n l : ℕ) → read_problem sheet ≡ refused (at_line n l) → sheet_column sheet n l ≤ 16385
unfolding sheet_column
column-near sheet n zero e = omega arith
column-near sheet n (suc l) e =
    omega (arith, (within sheet n l e).1, line-short (from_line l sheet), from-short l sheet, not-too-long sheet n l e)

-- a refusal with its column, and what reading without columns says
pub refusal-told : (sheet : List ℕ) (r : Refusal) → placed_problem sheet ≡ refused r
    → (read_problem sheet ≡ refused (at_line r.number r.place.line)) × (sheet_column sheet r.number r.place.line ≡ r.place.column)
refusal-told sheet r e =
    let q = plain-problem sheet r e in
    let number : q.plain.number ≡ r.number = ap (λ (r : Refusal). r.number) q.placed in
    let line : q.plain.place.line ≡ r.place.line = ap (λ (r : Refusal). r.place.line) q.placed in
    let column : sheet_column sheet q.plain.number q.plain.place.line ≡ r.place.column = ap (λ (r : Refusal). r.place.column) q.placed in
    let of : OfSheet q.plain = sheet-refusal sheet q.plain q.refuses in (
      q.refuses ∙ ap refused (at-its-line q.plain of.column of.needed) ∙ ap (λ (n : ℕ). refused (at_line n q.plain.place.line)) number
          ∙ ap (λ (l : ℕ). refused (at_line r.number l)) line,
      ap (λ (l : ℕ). sheet_column sheet r.number l) (sym line) ∙ ap (λ (n : ℕ). sheet_column sheet n q.plain.place.line) (sym number) ∙ column,
    )

pub placed-near : (sheet : List ℕ) (r : Refusal) → placed_problem sheet ≡ refused r → (r.place.line ≤ 93) × (r.place.column ≤ 16385)
placed-near sheet r e =
    let t = refusal-told sheet r e in
    let h = sheet-refusal sheet (at_line r.number r.place.line) t.0 in
    (h.line, omega (arith, t.1, column-near sheet r.number r.place.line t.0))
