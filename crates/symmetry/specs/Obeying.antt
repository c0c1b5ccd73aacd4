-- What the constant clauses mean on cell values (document 02, slip 10), and the least model among those that obey them.
use Rattle.std.specs.Prelude.{ℕ, suc, ◌-◌, max, Bool, true, false, cond, not, ◌&&◌, List, [], ◌∷◌, map, leb, get_or}
use Rattle.std.proofs.Math.Option.{Option}
use Rattle.theory.specs.Lists.{all, up_from}
use Rattle.theory.specs.Syntax.{is_function, is_predicate, Symbol, Signature}
use Rattle.theory.specs.Cells.{cell, is_model}
use Rattle.theory.specs.Problem.{Problem}
use Rattle.theory.specs.CaseText.{Case}
use Rattle.theory.specs.Least.{first_of, first_list, candidates, least_model, with_size}
use Rattle.theory.specs.Propositional.{prop_count}
use Rattle.theory.specs.Walk.{Walked, walked, yes_first}
use Rattle.symmetry.specs.ConstantClauses.{is_constant, constant_places, prop_clauses_with}

-- each value is at most one above the largest before it; n is one above the largest before, or 0 where there is none
abbrev pub stepwise : ℕ → List ℕ → Bool
stepwise n [] = true
stepwise n (d ∷ ds) = leb d n && stepwise (max n (suc d)) ds

-- the values of the declared constants, in order
abbrev pub constant_values : ℕ → Signature → List ℕ → List ℕ
constant_values s g vs = map (λ c. get_or vs (cell s g c []) 0) (constant_places g)

-- the cell values obey the constant clauses
unfoldable pub obeys : ℕ → Signature → List ℕ → Bool
obeys s g vs = stepwise 0 (constant_values s g vs)

-- the least model of size s among those that obey
unfoldable pub least_obeying : ℕ → Problem → Option (List ℕ)
least_obeying s p = first_list (candidates s p.symbols) (λ v. is_model s p.symbols p.clauses v && obeys s p.symbols v)

-- the least model that is searched: where the constant clauses are used, among those that obey
abbrev pub least_with : Bool → ℕ → Problem → Option (List ℕ)
least_with true s p = least_obeying s p
least_with false s p = least_model s p

-- it at the smallest of the sizes low to high that has one
unfoldable pub smallest_with : Bool → Problem → ℕ → ℕ → Option Case
smallest_with used p low high = first_of (λ s. with_size s (least_with used s p)) (up_from low (suc high - low))

-- the walk over a problem's clauses at size s, with the constant clauses where they are used
unfoldable pub searched_with : Bool → ℕ → Problem → Walked
searched_with used s p = walked (prop_count s p.symbols) (prop_clauses_with used s p.symbols p.clauses) (yes_first s p.symbols)

-- all constants are declared before other functions
abbrev pub constants_first : Signature → Bool
constants_first [] = true
constants_first (f ∷ g) = cond (is_function f.kind && not (is_constant f)) (all (λ (h : Symbol). not (is_constant h)) g) (constants_first g)

-- no function stands after a predicate: so it is in every sheet
abbrev pub functions_first : Signature → Bool
functions_first [] = true
functions_first (f ∷ g) = cond (is_function f.kind) (functions_first g) (all (λ (h : Symbol). is_predicate h.kind) g)
