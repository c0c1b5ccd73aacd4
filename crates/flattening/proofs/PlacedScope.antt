-- A flattened clause with places for variables is over the same signature, and its variables are the new ones below their number.
use Prim.Native.Nat.{ℕ, ◌+◌, ◌<◌}
use mathlib.Core.Path.{◌≡◌, refl, ap, ◌∙◌}
use mathlib.Core.Bool.{true}
use mathlib.Core.List.{List, [], map}
use native.Mathlib.Omega.{arith}
use lib.ListN.{length, length-map}
use Rattle.theory.specs.Lists.{all}
use Rattle.theory.specs.Syntax.{Signature, Clause, predicate_of, function_of, clause_ok}
use Rattle.theory.specs.Flattening.{FlatVariable, own, new, place_or0, FlatAtom, flat_predicate, flat_result, flat_equality, FlatLiteral, FlatClause, flatten, variable_count}
use Rattle.theory.specs.Lifted.{flat_atom_ok, flat_ok, scoped, flat_atom_scoped, flat_scoped}
use Rattle.theory.proofs.Tests.{ltb-true, ltb-of-<, and_left, and_right, and-join}
use Rattle.theory.proofs.Lists.{all_map, all-imply}
use Rattle.theory.proofs.FlatForm.{flatten-ok, flatten-scoped}
use Rattle.lifting.specs.Places.{place_in}
use Rattle.lifting.proofs.Standing.{own-place}
use Rattle.shallow.specs.Placed.{placed_variable, placed_atom, placed_literal, placed}

module _ (owns : List ℕ) (n : ℕ) where
  -- a place is below the number of variables
  pub place_in-below : (y : FlatVariable) → scoped owns n y ≡ true → place_in owns y < length owns + n
  place_in-below (own x) h = let p = own-place owns x h in omega (arith, ap place_or0 p.found, p.below)
  place_in-below (new i) h = omega (arith, ltb-true i n h)

  variable-scoped : (y : FlatVariable) → scoped owns n y ≡ true → scoped [] (length owns + n) (placed_variable owns y) ≡ true
  variable-scoped y h = ltb-of-< (place_in owns y) (length owns + n) (place_in-below y h)

  variables-scoped : (ys : List FlatVariable) → all (scoped owns n) ys ≡ true → all (scoped [] (length owns + n)) (map (placed_variable owns) ys) ≡ true
  variables-scoped ys h =
      all_map (scoped [] (length owns + n)) (placed_variable owns) ys
      ∙ all-imply (scoped owns n) (λ y. scoped [] (length owns + n) (placed_variable owns y)) ys variable-scoped h

  atom-scoped : (a : FlatAtom) → flat_atom_scoped owns n a ≡ true → flat_atom_scoped [] (length owns + n) (placed_atom owns a) ≡ true
  atom-scoped (flat_predicate p ys) h = variables-scoped ys h
  atom-scoped (flat_result f ys y) h =
      and-join (all (scoped [] (length owns + n)) (map (placed_variable owns) ys)) (scoped [] (length owns + n) (placed_variable owns y))
      (variables-scoped ys (and_left (all (scoped owns n) ys) (scoped owns n y) h)) (variable-scoped y (and_right (all (scoped owns n) ys) (scoped owns n y) h))
  atom-scoped (flat_equality x y) h =
      and-join (scoped [] (length owns + n) (placed_variable owns x)) (scoped [] (length owns + n) (placed_variable owns y))
      (variable-scoped x (and_left (scoped owns n x) (scoped owns n y) h)) (variable-scoped y (and_right (scoped owns n x) (scoped owns n y) h))

pub placed-scoped : (c : FlatClause) → flat_scoped c.owns c.news c.literals ≡ true → flat_scoped [] (placed c).news (placed c).literals ≡ true
unfolding placed variable_count
placed-scoped c h =
    all_map (λ (l : FlatLiteral). flat_atom_scoped [] (length c.owns + c.news) l.atom) (placed_literal c.owns) c.literals
    ∙ all-imply (λ (l : FlatLiteral). flat_atom_scoped c.owns c.news l.atom) (λ (l : FlatLiteral). flat_atom_scoped [] (length c.owns + c.news) (placed_atom c.owns l.atom))
    c.literals (λ l. atom-scoped c.owns c.news l.atom) h

atom-ok : (g : Signature) (owns : List ℕ) (a : FlatAtom) → flat_atom_ok g a ≡ true → flat_atom_ok g (placed_atom owns a) ≡ true
atom-ok g owns (flat_predicate p ys) h = ap (predicate_of g p) (length-map ys (placed_variable owns)) ∙ h
atom-ok g owns (flat_result f ys y) h = ap (function_of g f) (length-map ys (placed_variable owns)) ∙ h
atom-ok g owns (flat_equality x y) h = refl

pub placed-ok : (g : Signature) (c : FlatClause) → flat_ok g c.literals ≡ true → flat_ok g (placed c).literals ≡ true
unfolding placed
placed-ok g c h =
    all_map (λ (l : FlatLiteral). flat_atom_ok g l.atom) (placed_literal c.owns) c.literals
    ∙ all-imply (λ (l : FlatLiteral). flat_atom_ok g l.atom) (λ (l : FlatLiteral). flat_atom_ok g (placed_atom c.owns l.atom)) c.literals (λ l. atom-ok g c.owns l.atom) h

-- so of every clause flattened
pub flattened-scoped : (c : Clause) → flat_scoped [] (placed (flatten c)).news (placed (flatten c)).literals ≡ true
flattened-scoped c = placed-scoped (flatten c) (flatten-scoped c)

pub flattened-ok : (g : Signature) (c : Clause) → clause_ok g c ≡ true → flat_ok g (placed (flatten c)).literals ≡ true
flattened-ok g c h = placed-ok g (flatten c) (flatten-ok g c h)
