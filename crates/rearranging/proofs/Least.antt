-- The least that is kept one by one is the least form.
use Prim.Native.Nat.{ℕ}
use mathlib.Core.Path.{◌≡◌, refl, sym, ap, ◌∙◌}
use mathlib.Core.Bool.{true, cond, ◌&&◌}
use mathlib.Core.List.{List, [], ◌∷◌, map}
use Rattle.theory.specs.Lists.{all}
use Rattle.theory.specs.Syntax.{Signature}
use Rattle.theory.specs.Claims.Least.{NotAfter}
use Rattle.theory.proofs.Tests.{and_left, and_right, and-join}
use Rattle.renumbering.specs.Rearrangements.{continued}
use Rattle.renumbering.specs.Renumbering.{renumbered}
use Rattle.renumbering.specs.LeastForm.{not_after, least_of, least_form}
use Rattle.renumbering.proofs.Rearrangements as rearranging
use Rattle.renumbering.proofs.ValueOrder.{not_after→, not_after-antisym, least_of-first, least_of-each, least_of-holds}
use Rattle.rearranging.specs.All.{lesser_of}

-- the lesser of two
abbrev lesser : List ℕ → List ℕ → List ℕ
lesser u w = cond (not_after u w) u w

-- of three, in any order
not-after-other : (x u w : List ℕ) → NotAfter (lesser x (lesser u w)) (lesser u (lesser x w))
not-after-other x u w =
    let l : List ℕ = least_of w (x ∷ u ∷ []) in
    let each : all (not_after l) (x ∷ u ∷ []) ≡ true = least_of-each w (x ∷ u ∷ []) in
    least_of-holds (λ z. NotAfter l z) w (λ z. z) (not_after l) (u ∷ x ∷ [])
    (and-join (not_after l u) (not_after l x && true) (and_left (not_after l u) true (and_right (not_after l x) (not_after l u && true) each))
    (and-join (not_after l x) true (and_left (not_after l x) (not_after l u && true) each) refl))
    (least_of-first w (x ∷ u ∷ [])) (λ z k. not_after→ l z k)

lesser-swap : (x u w : List ℕ) → lesser x (lesser u w) ≡ lesser u (lesser x w)
lesser-swap x u w = not_after-antisym (lesser x (lesser u w)) (lesser u (lesser x w)) (not-after-other x u w) (not-after-other u x w)

least_on : (u w : List ℕ) (us : List (List ℕ)) → least_of (lesser u w) us ≡ lesser u (least_of w us)
least_on u w [] = refl
least_on u w (x ∷ us) = ap (lesser x) (least_on u w us) ∙ lesser-swap x u (least_of w us)

lesser-least : (w : List ℕ) (us : List (List ℕ)) → lesser_of w us ≡ least_of w us
lesser-least w [] = refl
lesser-least w (u ∷ us) = lesser-least (lesser u w) us ∙ least_on u w us

-- of all rearrangements, from the interpretation itself on
pub least-of-all : (s : ℕ) (g : Signature) (vs : List ℕ) → lesser_of vs (map (λ p. renumbered s g p vs) (continued s s [])) ≡ least_form s g vs
unfolding least_form
least-of-all s g vs =
    lesser-least vs (map (λ p. renumbered s g p vs) (continued s s []))
    ∙ ap (λ (ps : List (List ℕ)). least_of vs (map (λ p. renumbered s g p vs) ps)) (sym (rearranging.rearrangements s).one_by_one)
