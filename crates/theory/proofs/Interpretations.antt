-- Interpretations: one value for each cell, in the range of its kind; so functions have values in the domain.
use Prim.Native.Nat.{ℕ, zero, suc, ◌<◌}
use mathlib.Core.Path.{◌≡◌, refl, ap, ◌∙◌}
use mathlib.Core.Bool.{true, false≢true}
use mathlib.Core.List.{List, [], ◌∷◌}
use native.Mathlib.Omega.{arith}
use lib.Dec.{ltb}
use lib.ListN.{length, get_or}
use Rattle.theory.specs.Syntax.{Kind, predicate, Signature}
use Rattle.theory.specs.Cells.{cell_count, cell, cell_kinds, value_count, in_range, is_interpretation, interpretation}
use Rattle.theory.specs.Claims.Flattening.{Closed}
use Rattle.theory.proofs.Tests.{ltb-true, and_left, and_right}
use Rattle.theory.proofs.Numbering.{length-cell_kinds, cell_below, kind-at-cell}
use Rattle.theory.proofs.Declared.{function_of→}

in_range-length : (s : ℕ) (ks : List Kind) (vs : List ℕ) → in_range s ks vs ≡ true → length vs ≡ length ks
in_range-length s [] [] h = refl
in_range-length s [] (d ∷ ds) h = absurd (false≢true h)
in_range-length s (k ∷ ks) [] h = absurd (false≢true h)
in_range-length s (k ∷ ks) (d ∷ ds) h = ap suc (in_range-length s ks ds (and_right (ltb d (value_count s k)) (in_range s ks ds) h))

in_range-at : (s : ℕ) (ks : List Kind) (vs : List ℕ) → in_range s ks vs ≡ true → (c : ℕ) → c < length ks → get_or vs c 0 < value_count s (get_or ks c predicate)
in_range-at s [] vs h c lt = absurd (omega arith)
in_range-at s (k ∷ ks) [] h c lt = absurd (false≢true h)
in_range-at s (k ∷ ks) (d ∷ ds) h zero lt = ltb-true d (value_count s k) (and_left (ltb d (value_count s k)) (in_range s ks ds) h)
in_range-at s (k ∷ ks) (d ∷ ds) h (suc c) lt = in_range-at s ks ds (and_right (ltb d (value_count s k)) (in_range s ks ds) h) c (omega arith)

pub length-interpretation : (s : ℕ) (g : Signature) (vs : List ℕ) → is_interpretation s g vs ≡ true → length vs ≡ cell_count s g
unfolding is_interpretation
length-interpretation s g vs h = in_range-length s (cell_kinds s g) vs h ∙ length-cell_kinds s g

pub value-below : (s : ℕ) (g : Signature) (vs : List ℕ) → is_interpretation s g vs ≡ true → (c : ℕ) → c < cell_count s g
    → get_or vs c 0 < value_count s (get_or (cell_kinds s g) c predicate)
unfolding is_interpretation
value-below s g vs h c lt = in_range-at s (cell_kinds s g) vs h c (omega (arith, length-cell_kinds s g))

pub interpretation-closed : (s : ℕ) (g : Signature) (vs : List ℕ) → is_interpretation s g vs ≡ true → Closed g s (interpretation s g vs)
interpretation-closed s g vs h f v o b =
    let d = function_of→ g f (length v) o in
    let c : ℕ = cell s g f v in
    let k : value_count s (get_or (cell_kinds s g) c predicate) ≡ s = ap (value_count s) (kind-at-cell s g f v d.below d.arity b ∙ d.kind) in
    omega (arith, value-below s g vs h c (cell_below s g f v d.below d.arity b))
