-- Filling all cells from the first on finds the least model.
use Prim.Native.Nat.{ℕ, ◌+◌, ◌-◌, ◌≤◌}
use mathlib.Core.Path.{◌≡◌, refl, sym, ap, ◌∙◌}
use mathlib.Core.Option.{Option, none, some}
use mathlib.Core.List.{List, [], map, map-map}
use native.Mathlib.Omega.{arith}
use lib.ListN.{length, take, length-take, length-map}
use Rattle.theory.specs.Lists.{sum, up_to}
use Rattle.theory.specs.Syntax as theory
use Rattle.theory.specs.Problem as theory-problem
use Rattle.theory.specs.Cells.{table_size, cell_count, cell_kinds, value_count, is_model}
use Rattle.theory.specs.Least.{first_list, least_model}
use Rattle.theory.proofs.Numbering.{length-cell_kinds}
use Rattle.theory.proofs.Interpretations.{length-interpretation}
use Rattle.theory.proofs.Least.{least}
use Rattle.syntax.specs.declared.limits.Problem.{Problem}
use Rattle.syntax.specs.declared.signature.Symbol.{Symbol}
use Rattle.syntax.specs.declared.signature.Signature.{Signature}
use Rattle.syntax.specs.Signatures.{symbol_in, signature_in}
use Rattle.problem.specs.Problems.{problem_in}
use Rattle.judging.specs.Cases.{cells_of}
use Rattle.text.specs.Put.{put, take_put}
use Rattle.std.specs.Prelude as rust
use Rattle.std.specs.Result.{result_ok}
use Rattle.plain.specs.declared.cells.PlainCells.{PlainCells}
use Rattle.plain.specs.Filling.{choices_of, Searchable, Fillable, filled_from, filling, model_in}

-- the number of cells does not hang on the names
cells-counted : (s : ℕ) (sheet : List ℕ) (y : Signature) → cell_count s (signature_in sheet y) ≡ sum (map (λ (f : Symbol). table_size s (symbol_in [] f)) (take y.count y.symbols))
unfolding signature_in
cells-counted s sheet y = ap sum (map-map (table_size s) (symbol_in sheet) (take y.count y.symbols))

pub cells-alike : (s : ℕ) (sheet text : List ℕ) (y : Signature) → cell_count s (signature_in text y) ≡ cell_count s (signature_in sheet y)
cells-alike s sheet text y = cells-counted s text y ∙ sym (cells-counted s sheet y)

-- the choices as they are lent
pub choices-lent : (values cs : List ℕ) (n : ℕ) → take n values ≡ cs → take (n - 0) values ≡ cs
choices-lent values cs n e = let z : n - 0 ≡ n = omega arith in ap (λ (m : ℕ). take m values) z ∙ e

choices-counted : (s : ℕ) (g : theory.Signature) → length (choices_of s g) ≡ cell_count s g
unfolding choices_of
choices-counted s g = length-map (cell_kinds s g) (value_count s) ∙ length-cell_kinds s g

pub choices-held : (values : List ℕ) (s : ℕ) (g : theory.Signature) (n : ℕ) → n ≡ cell_count s g → take n values ≡ choices_of s g → n ≤ length values
choices-held values s g n e k = omega (arith, e, ap length k, length-take n values, choices-counted s g)

module _ (sheet : List ℕ) (p : Problem) (s : ℕ) (h : Searchable sheet p s) (choices : List ℕ) (e : choices ≡ choices_of s (signature_in sheet p.signature)) (values : List ℕ) (long : length values ≡ 64) where
  abbrev q : theory-problem.Problem
  q = problem_in sheet p

  pub first-fillable : Fillable sheet p s choices values 0
  first-fillable =
      record {
        positive = h.positive;
        size = h.size;
        accepted = h.accepted;
        counted = e;
        few = omega (arith, ap length e, choices-counted s (signature_in sheet p.signature), h.few);
        held = long;
        reached = omega arith;
        before = refl;
      }

  all-filled : filled_from sheet p s choices values 0 ≡ least_model s q
  unfolding filled_from least_model choices_of problem_in
  all-filled = ap (λ (l : List ℕ). first_list (map up_to l) (is_model s q.symbols q.clauses)) e ∙ ap (λ (dss : List (List ℕ)). first_list dss (is_model s q.symbols q.clauses)) (map-map up_to (value_count s) (cell_kinds s q.symbols))

  sized : (v : List ℕ) → least_model s q ≡ some v → length v ≡ cell_count s (signature_in sheet p.signature)
  unfolding problem_in
  sized v m = length-interpretation s q.symbols v ((least q).is_least s v m).0.interpretation

  taken : (v : List ℕ) → length v ≡ cell_count s (signature_in sheet p.signature) → cells_of sheet p (put values 0 v) s ≡ v
  taken v l =
      let n : cell_count s (signature_in sheet p.signature) ≡ 0 + length v = omega (arith, l) in
      ap (λ (n : ℕ). take n (put values 0 v)) n ∙ take_put values 0 v (omega (arith, l, h.few, long))

  pub least-filled : (r : rust.Result PlainCells PlainCells) → r ≡ filling (record { values = values }) 0 (filled_from sheet p s choices values 0) → model_in sheet p s (result_ok r) ≡ least_model s q
  least-filled r k = go (least_model s q) refl (k ∙ ap (filling (record { values = values }) 0) all-filled)
    where
      go : (x : Option (List ℕ)) → least_model s q ≡ x → r ≡ filling (record { values = values }) 0 x → model_in sheet p s (result_ok r) ≡ x
      go none m j = ap (λ (o : rust.Result PlainCells PlainCells). model_in sheet p s (result_ok o)) j
      go (some v) m j = ap (λ (o : rust.Result PlainCells PlainCells). model_in sheet p s (result_ok o)) j ∙ ap some (taken v (sized v m))
