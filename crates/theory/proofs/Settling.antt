-- Settling: without functions that take arguments, the elements that the constants name would be a model where there is one; so the sizes up to the number of constants settle all.
use Prim.Native.Nat.{ℕ, zero, ◌≤◌, ◌<◌}
use mathlib.Core.Path.{◌≡◌, refl, sym, ap, ◌∙◌}
use mathlib.Core.Bool.{Bool, true, false, not, ◌&&◌, false≢true}
use mathlib.Core.Option.{Option, none, some}
use mathlib.Core.List.{List, []}
use native.Mathlib.Omega.{arith}
use lib.Dec.{eqb, ltb, leb}
use lib.ListN.{length, get_or}
use Rattle.theory.specs.Lists.{all}
use Rattle.theory.specs.Syntax.{Symbol, Signature, functions, Clause, variables, clause_ok}
use Rattle.theory.specs.Truth.{Interpretation, clause_true, assign, Failure, no_failure}
use Rattle.theory.specs.Cells.{interpretation, judged, is_model}
use Rattle.theory.specs.Problem.{Problem}
use Rattle.theory.specs.CaseText.{Case}
use Rattle.theory.specs.Least.{smallest_model, settled}
use Rattle.theory.specs.Operations.{nothing, search_of}
use Rattle.theory.specs.Claims.Settling.{Falsifies, Unsatisfiable, SettlingHolds}
use Rattle.theory.proofs.Tests.{not-true, eqb-true, ltb-true, leb-true, and_left, and_right}
use Rattle.theory.proofs.Lists.{all_get_d}
use Rattle.theory.proofs.Truth.{assign-lt, judged-some, failing_choice-false}
use Rattle.theory.proofs.FirstChoice.{first-choice}
use Rattle.theory.proofs.Interpretations.{interpretation-closed}
use Rattle.theory.proofs.Least.{least}
use Rattle.theory.proofs.Parsing.{read_problem-well_formed, clauses-ok}
use Rattle.theory.proofs.FindsLeast.{Searched, searched}
use Rattle.theory.proofs.Embeddings.{falsified-up}
use Rattle.theory.proofs.Substructures.{element_at, restricted, restricted-closed, restricted-embedding}
use Rattle.theory.proofs.InterpretationCells.{interpretation_cells, cells-in_range, cells-embedding}
use Rattle.theory.proofs.NamedElements.{named_elements, named_count, named-once, named-under, named-below}

-- cell values that are no model falsify the problem
no-model-falsifies : (p : Problem) (s : ℕ) (vs : List ℕ) → zero < s → is_model s p.symbols p.clauses vs ≡ false → Falsifies p (λ d. d < s) (interpretation s p.symbols vs)
unfolding is_model
no-model-falsifies p s vs pos h = go (judged s p.symbols p.clauses vs) refl h
  where
    go : (o : Option Failure) → judged s p.symbols p.clauses vs ≡ o → no_failure o ≡ false → Falsifies p (λ d. d < s) (interpretation s p.symbols vs)
    go none e k = absurd (false≢true (sym k))
    go (some f) e k =
        let I : Interpretation = interpretation s p.symbols vs in
        let c : Clause = get_or p.clauses f.clause [] in
        let r = judged-some s p.symbols p.clauses vs f e in
        let chosen = first-choice s (length (variables c)) (λ v. not (clause_true I (assign (variables c) v) c)) f.choice r.1 in
        record {
          clause = f.clause;
          among = r.0;
          assignment = assign (variables c) f.choice;
          elements = λ x. assign-lt s (variables c) f.choice x pos chosen.1;
          fails = failing_choice-false I s c f.choice r.1;
        }

-- what a settled search that found nothing says: no function takes arguments, there are no more constants than high, and no size from 1 to high has a model
record SettledSearch (p : Problem) (high : ℕ) : Type 0 where
  constants : all (λ (f : Symbol). eqb f.arity 0) (functions p.symbols) ≡ true
  few : length (functions p.symbols) ≤ high
  sized : 1 ≤ high
  empty : smallest_model p 1 high ≡ none

module _ (p : Problem) (ok : all (clause_ok p.symbols) p.clauses ≡ true) (high : ℕ) (t : SettledSearch p high) where
  abbrev g : Signature
  g = p.symbols

  -- the elements that the constants name are no model, so there are values among these under which a clause is false
  named-falsify : (I : Interpretation) (E : ℕ → Type 0) → ((d : ℕ) → d < length (named_elements I g) → E (element_at (named_elements I g) d)) → Falsifies p E I
  named-falsify I E named =
      let es : List ℕ = named_elements I g in
      let k : ℕ = length es in
      let count = named_count I g high t.sized t.few in
      let J : Interpretation = restricted es I in
      let closed = restricted-closed g I es (named-under g t.constants I) in
      let vs : List ℕ = interpretation_cells k g J in
      let inside = cells-in_range k g J closed in
      let no_model : is_model k g p.clauses vs ≡ false =
      not-true (is_model k g p.clauses vs) (λ m. ((least p).no_smallest 1 high).0 t.empty k vs count.0 count.1 (record { interpretation = inside; model = m })) in
      falsified-up p ok k J closed E I (element_at es) (restricted-embedding g I es (named-under g t.constants I) (named-once I g)) named
      (falsified-up p ok k (interpretation k g vs) (interpretation-closed k g vs inside) (λ d. d < k) J (λ d. d) (cells-embedding k g J) (λ d h. h)
      (no-model-falsifies p k vs count.0 no_model))

  unsatisfiable : Unsatisfiable p
  unsatisfiable =
      record {
        sizes = λ s I sized closed.
            named-falsify I (λ d. d < s)
            (λ d h. ltb-true (element_at (named_elements I g) d) s (all_get_d (λ d. ltb d s) (named_elements I g) d (named-below g t.constants I s sized closed) h));
        infinite = λ I. named-falsify I (λ d. Unit {0}) (λ d h. tt);
      }

settled-search : (p : Problem) (low high : ℕ) → low ≤ high → (o : Option Case) → smallest_model p low high ≡ o → search_of p low high o ≡ nothing true → SettledSearch p high
unfolding settled
settled-search p low high le none h e =
    let a : Bool = eqb low 1 in
    let b : Bool = all (λ (f : Symbol). eqb f.arity 0) (functions p.symbols) in
    let c : Bool = leb (length (functions p.symbols)) high in
    let abc : (a && b && c) ≡ true = cc in
    let ab : (a && b) ≡ true = and_left (a && b) c abc in
    let one : low ≡ 1 = eqb-true low 1 (and_left a b ab) in
    record {
      constants = and_right a b ab;
      few = leb-true (length (functions p.symbols)) high (and_right (a && b) c abc);
      sized = omega arith;
      empty = ap (λ (n : ℕ). smallest_model p n high) (sym one) ∙ h;
    }
settled-search p low high le (some k) h e = let z : ◌≡◌ {A = ℕ} 0 1 = cc in absurd (omega arith)

-- a search that found none and is settled
pub none-settled : (p : Problem) (low high : ℕ) → all (clause_ok p.symbols) p.clauses ≡ true → Searched p low high (nothing true) → Unsatisfiable p
none-settled p low high ok r = unsatisfiable p ok high (settled-search p low high r.ordered (smallest_model p low high) refl r.result)

-- the theorem
pub settling : SettlingHolds
settling sheet p low high work room read e =
    none-settled p low high (clauses-ok p (read_problem-well_formed sheet p read)) (searched sheet p low high work room (nothing true) read e)
