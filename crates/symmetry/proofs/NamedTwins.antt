-- NamedTwins: helpers are no declared constants and their cells come last, so in the mode of named terms the sheet's own constants obey or not.
use Prim.Native.Nat.{ℕ, zero, suc, ◌+◌, ◌-◌, ◌<◌}
use mathlib.Core.Path.{◌≡◌, refl, sym, ap, ◌∙◌}
use mathlib.Core.Bool.{Bool, true, false, cond, not, ◌&&◌}
use mathlib.Core.List.{List, [], ◌∷◌, map}
use native.Mathlib.Omega.{arith}
use lib.ListN.{get_or, take}
use lib.Seq.{get_or-take}
use Rattle.theory.specs.Lists.{up_from}
use Rattle.theory.specs.Vectors.{rank}
use Rattle.theory.specs.Syntax.{Symbol, Signature, Term}
use Rattle.theory.specs.Cells.{cell_count, cell, is_model}
use Rattle.theory.specs.Problem.{Problem}
use Rattle.theory.specs.Least.{candidates, with_size}
use Rattle.theory.specs.Operations.{search_of}
use Rattle.theory.specs.Claims.Walk.{read_back_found}
use Rattle.theory.proofs.Lists.{all_map, all-every, map-all, elem-up_from}
use Rattle.theory.proofs.First.{first_cong}
use Rattle.theory.proofs.Numbering.{cell_below}
use Rattle.naming.specs.FixedTerms.{named_terms}
use Rattle.naming.specs.NamedProblem.{helper_constant, helper_symbols, in_mode, shown_values}
use Rattle.naming.specs.NamedOperations.{mode_problem}
use Rattle.naming.specs.Claims.Naming.{Sheet}
use Rattle.naming.specs.Claims.Finding.{shown_found}
use Rattle.naming.proofs.Helpers.{with_helpers, cell_base-declared}
use Rattle.naming.proofs.Naming.{shown-values, naming}
use Rattle.naming.proofs.Settled.{same-mark}
use Rattle.naming.proofs.Finding.{obeying-shown, shown_case, shown_case-sized, shown_case-first, shown-search, finding}
use Rattle.symmetry.specs.ConstantClauses.{is_constant, constant_places}
use Rattle.symmetry.specs.Obeying.{stepwise, constant_values, obeys, least_obeying, least_with, smallest_with, searched_with}
use Rattle.symmetry.specs.SymmetricOperations.{search_in}
use Rattle.symmetry.specs.Claims.NamedTwins.{NamedTwinsHold}
use Rattle.symmetry.proofs.Constants.{constant_at, constant_at→, constant_places-are, constant_places-cons, no-constants}
use Rattle.symmetry.proofs.ConstantClauses.{constant_clauses}

-- the declared constants stand where they stand without helpers
pub constants-with : (g : Signature) (ts : List Term) → constant_places (with_helpers g ts) ≡ constant_places g
constants-with [] ts = no-constants (helper_symbols ts) (all_map (λ (h : Symbol). not (is_constant h)) (λ t. helper_constant) ts ∙ all-every (λ t. true) ts (λ t. refl))
constants-with (f ∷ g) ts =
    constant_places-cons f (with_helpers g ts)
    ∙ ap (λ (l : List ℕ). cond (is_constant f) (0 ∷ map suc l) (map suc l)) (constants-with g ts)
    ∙ sym (constant_places-cons f g)

-- and have the values of the first cells
values-with : (s : ℕ) (g : Signature) (ts : List Term) (ws : List ℕ) → constant_values s (with_helpers g ts) ws ≡ constant_values s g (take (cell_count s g) ws)
values-with s g ts ws =
    ap (map (λ c. get_or ws (cell s (with_helpers g ts) c []) 0)) (constants-with g ts)
    ∙ map-all (constant_at g) (λ c. get_or ws (cell s (with_helpers g ts) c []) 0) (λ c. get_or (take (cell_count s g) ws) (cell s g c []) 0) (constant_places g) (constant_places-are g)
    (λ c t.
    let d = constant_at→ g c t in
    let below : cell s g c [] < cell_count s g = cell_below s g c [] d.below d.arity tt in
    ap (λ (b : ℕ). get_or ws (b + rank s []) 0) (cell_base-declared g ts s c d.below)
    ∙ sym (get_or-take (cell_count s g) ws (cell s g c []) 0 below))

module _ (p : Problem) (sheet : Sheet p) where
  abbrev g⁺ : Signature
  g⁺ = (in_mode p).symbols

  mode-constants : constant_places g⁺ ≡ constant_places p.symbols
  unfolding in_mode
  mode-constants = constants-with p.symbols (named_terms p.clauses)

  pub obeys-shown : (s : ℕ) (ws : List ℕ) → obeys s g⁺ ws ≡ obeys s p.symbols (shown_values s g⁺ ws)
  unfolding in_mode obeys
  obeys-shown s ws =
      ap (stepwise 0) (values-with s p.symbols (named_terms p.clauses) ws)
      ∙ ap (λ (vs : List ℕ). stepwise 0 (constant_values s p.symbols vs)) (sym (shown-values s p ws sheet.declared))

  -- with and without the constant clauses
  least-shown : (used : Bool) (s : ℕ) → zero < s → shown_found s g⁺ (least_with used s (in_mode p)) ≡ least_with used s p
  unfolding least_obeying
  least-shown true s pos =
      let tests : List ℕ → Bool = λ ws. is_model s g⁺ (in_mode p).clauses ws in
      ap (shown_found s g⁺)
      (first_cong (candidates s g⁺) (λ ws. tests ws && obeys s g⁺ ws) (λ ws. tests ws && obeys s p.symbols (shown_values s g⁺ ws)) (λ ws i. ap (λ (b : Bool). tests ws && b) (obeys-shown s ws)))
      ∙ obeying-shown p sheet s pos (obeys s p.symbols)
  least-shown false s pos = (finding p sheet).least s pos

  walk-shown : (used : Bool) (s : ℕ) → zero < s → shown_found s g⁺ (read_back_found s (in_mode p) (searched_with used s (in_mode p)).answer) ≡ least_with used s p
  walk-shown used s pos = ap (shown_found s g⁺) (constant_clauses.walk used s (in_mode p) pos (naming p s pos sheet).clauses) ∙ least-shown used s pos

  smallest-shown : (used : Bool) (low high : ℕ) → zero < low → shown_case g⁺ (smallest_with used (in_mode p) low high) ≡ smallest_with used p low high
  unfolding smallest_with
  smallest-shown used low high h =
      shown_case-first g⁺ (λ s. with_size s (least_with used s (in_mode p))) (λ s. with_size s (least_with used s p)) (up_from low (suc high - low))
      (λ s k.
      let r = elem-up_from s low (suc high - low) k in
      shown_case-sized g⁺ s (least_with used s (in_mode p)) ∙ ap (with_size s) (least-shown used s (omega (arith, r.0))))

  search-shown : (named used : Bool) (low high : ℕ) → zero < low
      → search_in named (mode_problem named p) low high (smallest_with used (mode_problem named p) low high) ≡ search_of p low high (smallest_with used p low high)
  search-shown false used low high h = refl
  search-shown true used low high h =
      shown-search p (in_mode p) low high (naming p 1 (omega arith) sheet).symbols (same-mark p sheet.clauses low high) (smallest_with used (in_mode p) low high)
      ∙ ap (search_of p low high) (smallest-shown used low high h)

-- the theorem
pub named_twins : NamedTwinsHold
named_twins p sheet =
    record {
      constants = mode-constants p sheet;
      obeying = obeys-shown p sheet;
      least = least-shown p sheet;
      walk = walk-shown p sheet;
      search = search-shown p sheet;
    }
