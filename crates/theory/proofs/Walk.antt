-- The walk finds the valuation of the least model, or nothing exactly if there is no model: the theorem Walk.
use Prim.Native.Nat.{ℕ, zero, ◌<◌}
use mathlib.Core.Path.{◌≡◌, refl, sym, ap, ◌∙◌, subst}
use mathlib.Core.Bool.{true}
use mathlib.Core.Option.{Option, none, some, map}
use mathlib.Core.List.{List}
use lib.ListN.{replicate, length-replicate}
use Rattle.theory.specs.Lists.{all}
use Rattle.theory.specs.Syntax.{Signature, clause_ok}
use Rattle.theory.specs.Cells.{cell_kinds, is_model}
use Rattle.theory.specs.Propositional.{prop_count}
use Rattle.theory.specs.PropClauses.{prop_clauses}
use Rattle.theory.specs.Valuation.{satisfies, is_valuation, is_functional, read_back}
use Rattle.theory.specs.Problem.{Problem}
use Rattle.theory.specs.Least.{first_list, least_model}
use Rattle.theory.specs.Walk.{yes_first, searched}
use Rattle.theory.specs.Claims.Walk.{read_back_found, Walk}
use Rattle.theory.proofs.First.{In}
use Rattle.theory.proofs.Numbering.{widths-total}
use Rattle.theory.proofs.Valuations.{is_valuation←}
use Rattle.theory.proofs.Encoding.{encoding}
use Rattle.theory.proofs.Completions.{completions, completion-bits}
use Rattle.theory.proofs.Propagation.{any_order}
use Rattle.theory.proofs.Walking.{walked-first}
use Rattle.theory.proofs.Chunks.{chunks, chunks-first, completions-chunks}

pub read_back_found-map : (s : ℕ) (p : Problem) (o : Option (List ℕ)) → read_back_found s p o ≡ map (read_back s p.symbols) o
read_back_found-map s p none = refl
read_back_found-map s p (some σ) = refl

module _ (s : ℕ) (g : Signature) where
  -- the valuations that the walk tries
  pub walk-order : completions (yes_first s g) (replicate (prop_count s g) none) ≡ chunks s (cell_kinds s g)
  unfolding yes_first
  walk-order =
      ap (λ (n : ℕ). completions (yes_first s g) (replicate n none)) (sym (widths-total s g)) ∙ completions-chunks s (cell_kinds s g)

  pub tried-is-valuation : (σ : List ℕ) → In σ (chunks s (cell_kinds s g)) → is_valuation s g σ ≡ true
  tried-is-valuation σ m =
      let r = completion-bits (yes_first s g) (replicate (prop_count s g) none) σ (subst (In σ) (sym walk-order) m) in
      is_valuation← s g σ (r.0 ∙ length-replicate (prop_count s g) none ∙ sym (widths-total s g)) r.1

-- what the walk finds is read back as the least model, since the valuations that satisfy the clauses are the models
walk-least : (s : ℕ) (p : Problem) → zero < s → all (clause_ok p.symbols) p.clauses ≡ true → read_back_found s p (searched s p).answer ≡ least_model s p
unfolding searched least_model read_back is_functional
walk-least s p pos ok =
    let g : Signature = p.symbols in
    let cs = prop_clauses s g p.clauses in
    read_back_found-map s p (searched s p).answer
    ∙ ap (map (read_back s g)) (walked-first cs (yes_first s g) (prop_count s g) ∙ ap (λ (dss : List (List ℕ)). first_list dss (λ σ. satisfies σ cs)) (walk-order s g))
    ∙ chunks-first s (cell_kinds s g) (λ σ. satisfies σ cs) (is_model s g p.clauses)
    (λ σ m. (encoding s g p.clauses pos ok).satisfying σ (tried-is-valuation s g σ m))

-- the theorem
pub walk : Walk
walk = record { least = walk-least; any_order = any_order }
