-- The cells filled so far: their values are in range, and so they are with one guess more; when all are filled they are a case.
use Prim.Native.Nat.{ℕ, zero, suc, ◌+◌, ◌≤◌, ◌<◌}
use mathlib.Core.Path.{◌≡◌, sym, ap, ◌∙◌}
use mathlib.Core.Bool.{Bool, true, ◌&&◌, false≢true}
use mathlib.Core.List.{List, [], ◌∷◌, ◌++◌}
use native.Mathlib.Omega.{arith}
use lib.Dec.{ltb}
use lib.ListN.{length, get_or, set, take, length-set, length-map}
use lib.Seq.{take-length}
use borrow.Author.Tests.{lt-ltb}
use Rattle.theory.specs.Syntax.{Kind, function, predicate, Signature}
use Rattle.theory.specs.Cells.{cell_count, cell_kinds, value_count, in_range, is_interpretation, is_model}
use Rattle.theory.proofs.Tests.{and_left, and_right}
use Rattle.theory.proofs.Lists.{map_at}
use Rattle.theory.proofs.Numbering.{length-cell_kinds}
use Rattle.syntax.specs.declared.limits.Problem.{Problem}
use Rattle.syntax.specs.Signatures.{signature_in}
use Rattle.problem.specs.Problems.{problem_in}
use Rattle.judging.specs.Cases.{CellsLent, is_model_in}
use Rattle.plain.specs.Filling.{choices_of, Fillable}
use Rattle.plain.proofs.Guesses.{guess-taken}

-- a value in range after those that are
in_range-more : (s : ℕ) (ks : List Kind) (i : ℕ) (vs : List ℕ) (d : ℕ) → in_range s (take i ks) vs ≡ true → i < length ks → d < value_count s (get_or ks i predicate)
    → in_range s (take (suc i) ks) (vs ++ (d ∷ [])) ≡ true
in_range-more s [] i vs d e h l = absurd (omega arith)
in_range-more s (k ∷ ks) zero [] d e h l = ap (λ (b : Bool). b && true) (lt-ltb d (value_count s k) l)
in_range-more s (k ∷ ks) zero (x ∷ vs) d e h l = absurd (false≢true e)
in_range-more s (k ∷ ks) (suc i) [] d e h l = absurd (false≢true e)
in_range-more s (k ∷ ks) (suc i) (x ∷ vs) d e h l =
    let a : Bool = ltb x (value_count s k) in
    let b : Bool = in_range s (take i ks) vs in
    let here : a ≡ true = and_left a b e in
    let there : in_range s (take (suc i) ks) (vs ++ (d ∷ [])) ≡ true = in_range-more s ks i vs d (and_right a b e) (omega arith) l in
    ap (λ (c : Bool). c && in_range s (take (suc i) ks) (vs ++ (d ∷ []))) here ∙ there

-- a cell has at most 8 values
values-few : (s : ℕ) (k : Kind) → s ≤ 8 → value_count s k ≤ 8
values-few s function h = h
values-few s predicate h = omega arith

module _ (sheet : List ℕ) (p : Problem) (s : ℕ) (choices values : List ℕ) (at : ℕ) (h : Fillable sheet p s choices values at) where
  abbrev g : Signature
  g = signature_in sheet p.signature

  abbrev kinds : List Kind
  kinds = cell_kinds s g

  kinds-counted : length kinds ≡ length choices
  unfolding choices_of
  kinds-counted = sym (ap length h.counted ∙ length-map kinds (value_count s))

  choice-is : at < length choices → get_or choices at 0 ≡ value_count s (get_or kinds at predicate)
  unfolding choices_of
  choice-is l = ap (λ (cs : List ℕ). get_or cs at 0) h.counted ∙ map_at (value_count s) kinds at predicate 0 (omega (arith, kinds-counted))

  pub choice-few : at < length choices → get_or choices at 0 ≤ 8
  choice-few l = omega (arith, choice-is l, values-few s (get_or kinds at predicate) h.size)

  -- one guess more
  pub guessed : (d : ℕ) → at < length choices → d < get_or choices at 0 → Fillable sheet p s choices (set values at d) (at + 1)
  guessed d l lt =
      let e : suc at ≡ at + 1 = omega arith in
      record {
        positive = h.positive;
        size = h.size;
        accepted = h.accepted;
        counted = h.counted;
        few = h.few;
        held = length-set values at d ∙ h.held;
        reached = omega arith;
        before =
            sym (ap (λ (n : ℕ). in_range s (take n kinds) (take (at + 1) (set values at d))) e)
            ∙ ap (in_range s (take (suc at) kinds)) (guess-taken values at d (omega (arith, h.few, h.held)))
            ∙ in_range-more s kinds at (take at values) d h.before (omega (arith, kinds-counted)) (omega (arith, choice-is l));
      }

  -- no cell is left
  module _ (l : length choices ≤ at) where
    all-cells : at ≡ cell_count s g
    all-cells = omega (arith, kinds-counted, length-cell_kinds s g, h.reached)

    pub cells-lent : CellsLent sheet p values s
    unfolding is_interpretation
    cells-lent =
        record {
          positive = h.positive;
          size = h.size;
          accepted = h.accepted;
          held = omega (arith, all-cells, h.few, h.held, h.reached);
          values =
              ap (λ (n : ℕ). in_range s kinds (take n values)) (sym all-cells)
              ∙ sym (ap (λ (ks : List Kind). in_range s ks (take at values)) (ap (λ (n : ℕ). take n kinds) (all-cells ∙ sym (length-cell_kinds s g)) ∙ take-length kinds))
              ∙ h.before;
        }

    pub case-judged : (b : Bool) → b ≡ is_model_in sheet p values s → b ≡ is_model s (problem_in sheet p).symbols (problem_in sheet p).clauses (take at values)
    case-judged b e = e ∙ ap (λ (n : ℕ). is_model s (problem_in sheet p).symbols (problem_in sheet p).clauses (take n values)) (sym all-cells)
