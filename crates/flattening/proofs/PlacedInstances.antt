-- A flattened clause with places for variables has the same instances.
use Prim.Native.Nat.{ℕ, ◌+◌}
use mathlib.Core.Path.{◌≡◌, refl, sym, ap, ◌∙◌}
use mathlib.Core.Bool.{true}
use mathlib.Core.Option.{Option}
use mathlib.Core.List.{List, [], ◌∷◌, map}
use native.Mathlib.Nat.{zero-add}
use lib.Dec.{eqb}
use lib.ListN.{length, get_or}
use lib.Seq.{get_or-drop}
use Rattle.theory.specs.Lists.{all, concat_map}
use Rattle.theory.specs.Vectors.{vectors}
use Rattle.theory.specs.Syntax.{Signature, Clause}
use Rattle.theory.specs.Flattening.{FlatVariable, own, new, place_or0, FlatAtom, flat_predicate, flat_result, flat_equality, FlatLiteral, FlatClause, flatten, variable_count}
use Rattle.theory.specs.Lifted.{scoped, flat_atom_scoped, flat_scoped}
use Rattle.theory.specs.Propositional.{prop_variable}
use Rattle.theory.specs.Instances.{flat_value, Ground, known, variable, ground, add_literal, instance, kept, instances}
use Rattle.theory.proofs.Tests.{and_left, and_right}
use Rattle.theory.proofs.Lists.{concat_map-cong}
use Rattle.theory.proofs.Truth.{assign-place}
use Rattle.theory.proofs.FlatForm.{flatten-scoped}
use Rattle.lifting.proofs.Standing.{own-place}
use Rattle.shallow.specs.Placed.{placed_variable, placed_atom, placed_literal, placed}

module _ (owns : List ℕ) (n : ℕ) (v : List ℕ) where
  -- the value at a variable's place is the variable's
  value-placed : (y : FlatVariable) → scoped owns n y ≡ true → flat_value [] v (placed_variable owns y) ≡ flat_value owns v y
  value-placed (own x) h =
      let p = own-place owns x h in
      ap (λ (o : Option ℕ). get_or v (place_or0 o) 0) p.found ∙ sym (assign-place owns v x p.at p.found)
  value-placed (new i) h = sym (get_or-drop (length owns) v i 0)

  values-placed : (ys : List FlatVariable) → all (scoped owns n) ys ≡ true → map (flat_value [] v) (map (placed_variable owns) ys) ≡ map (flat_value owns v) ys
  values-placed [] h = refl
  values-placed (y ∷ ys) h =
      let p : flat_value [] v (placed_variable owns y) ≡ flat_value owns v y = value-placed y (and_left (scoped owns n y) (all (scoped owns n) ys) h) in
      let q : map (flat_value [] v) (map (placed_variable owns) ys) ≡ map (flat_value owns v) ys = values-placed ys (and_right (scoped owns n y) (all (scoped owns n) ys) h) in
      ap (λ (d : ℕ). d ∷ map (flat_value [] v) (map (placed_variable owns) ys)) p ∙ ap (λ (ds : List ℕ). flat_value owns v y ∷ ds) q

  ground-placed : (s : ℕ) (g : Signature) (a : FlatAtom) → flat_atom_scoped owns n a ≡ true → ground s g (flat_value [] v) (placed_atom owns a) ≡ ground s g (flat_value owns v) a
  ground-placed s g (flat_predicate p ys) h = ap (λ (ds : List ℕ). variable (prop_variable s g p ds 0)) (values-placed ys h)
  ground-placed s g (flat_result f ys y) h =
      ap (λ (ds : List ℕ). variable (prop_variable s g f ds (flat_value [] v (placed_variable owns y)))) (values-placed ys (and_left (all (scoped owns n) ys) (scoped owns n y) h))
      ∙ ap (λ (d : ℕ). variable (prop_variable s g f (map (flat_value owns v) ys) d)) (value-placed y (and_right (all (scoped owns n) ys) (scoped owns n y) h))
  ground-placed s g (flat_equality x y) h =
      ap (λ (d : ℕ). known (eqb d (flat_value [] v (placed_variable owns y)))) (value-placed x (and_left (scoped owns n x) (scoped owns n y) h))
      ∙ ap (λ (d : ℕ). known (eqb (flat_value owns v x) d)) (value-placed y (and_right (scoped owns n x) (scoped owns n y) h))

  instance-placed : (s : ℕ) (g : Signature) (ls : List FlatLiteral) → flat_scoped owns n ls ≡ true
      → instance s g (flat_value [] v) (map (placed_literal owns) ls) ≡ instance s g (flat_value owns v) ls
  instance-placed s g [] h = refl
  instance-placed s g (l ∷ ls) h =
      ap (λ (a : Ground). add_literal l.sign a (instance s g (flat_value [] v) (map (placed_literal owns) ls))) (ground-placed s g l.atom (and_left (flat_atom_scoped owns n l.atom) (flat_scoped owns n ls) h))
      ∙ ap (add_literal l.sign (ground s g (flat_value owns v) l.atom)) (instance-placed s g ls (and_right (flat_atom_scoped owns n l.atom) (flat_scoped owns n ls) h))

-- for every flattened clause whose variables are its own and its new ones
pub instances-placed : (s : ℕ) (g : Signature) (c : FlatClause) → flat_scoped c.owns c.news c.literals ≡ true → instances s g (placed c) ≡ instances s g c
unfolding instances placed variable_count
instances-placed s g c h =
    ap (λ (n : ℕ). concat_map (λ v. kept (instance s g (flat_value [] v) (map (placed_literal c.owns) c.literals))) (vectors s n)) (zero-add (length c.owns + c.news))
    ∙ concat_map-cong (λ v. kept (instance s g (flat_value [] v) (map (placed_literal c.owns) c.literals))) (λ v. kept (instance s g (flat_value c.owns v) c.literals))
    (vectors s (length c.owns + c.news)) (λ v. ap kept (instance-placed c.owns c.news v s g c.literals h))

-- so of every clause flattened
pub instances-flattened : (s : ℕ) (g : Signature) (c : Clause) → instances s g (placed (flatten c)) ≡ instances s g (flatten c)
instances-flattened s g c = instances-placed s g (flatten c) (flatten-scoped c)
