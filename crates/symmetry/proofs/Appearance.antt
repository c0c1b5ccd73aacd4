-- Numbers in order of first appearance: each new name is at most one above those before, and no later than any other naming.
use Prim.Native.Nat.{ℕ, suc, ◌≤◌, ◌<◌, max}
use mathlib.Core.Path.{◌≡◌, refl, sym, ap, ◌∙◌, subst}
use mathlib.Core.Logic.{◌⊎◌, inl, inr}
use mathlib.Core.Bool.{Bool, true, false, cond, ◌&&◌, ◌||◌, false≢true}
use mathlib.Core.List.{List, [], ◌∷◌, ◌++◌, map, append_assoc, append-nil}
use native.Mathlib.Nat.{zero-add}
use native.Mathlib.Numerals.{add-one}
use native.Mathlib.Omega.{arith}
use lib.Dec.{eqb, ltb, leb}
use lib.ListN.{length, length-append}
use Rattle.theory.specs.Lists.{all, elem, up_to, distinct}
use Rattle.theory.specs.Vectors.{AllBelow}
use Rattle.theory.specs.Claims.Least.{NotAfter}
use Rattle.theory.proofs.Tests.{true-or-false, both_false, eqb-of-≡, and-join, or_right, or-false-left, or-false-right, leb-true, leb-of-≤, leb-false, ltb-of-<}
use Rattle.theory.proofs.Lists.{all_append, elem-append, elem-up_from, up_from-elem, elem-distinct, up_from-append, length-up_from, up_to-all}
use Rattle.theory.proofs.Vectors.{AllBelow→all}
use Rattle.theory.proofs.Distinct.{distinct-new, distinct-old, distinct-elem, length-distinct}
use Rattle.renumbering.specs.Rearrangements.{is_rearrangement, comes_from}
use Rattle.symmetry.specs.Obeying.{stepwise}
use Rattle.renumbering.proofs.Places.{place_found, covers-length}
use Rattle.renumbering.proofs.Rearrangements.{from-unchanged}

-- places in one list after another
from-left : (xs ys : List ℕ) (x : ℕ) → elem x xs ≡ true → comes_from (xs ++ ys) x ≡ comes_from xs x
from-left [] ys x h = absurd (false≢true h)
from-left (y ∷ xs) ys x h = go (eqb x y) h (λ k. from-left xs ys x k)
  where
    go : (b : Bool) → (b || elem x xs) ≡ true → (elem x xs ≡ true → comes_from (xs ++ ys) x ≡ comes_from xs x) → cond b 0 (suc (comes_from (xs ++ ys) x)) ≡ cond b 0 (suc (comes_from xs x))
    go true k ih = refl
    go false k ih = ap suc (ih k)

from-seam : (xs ys : List ℕ) (x : ℕ) → elem x xs ≡ false → comes_from (xs ++ (x ∷ ys)) x ≡ length xs
from-seam [] ys x h = ap (λ (b : Bool). cond b 0 (suc (comes_from ys x))) (eqb-of-≡ x x refl)
from-seam (y ∷ xs) ys x h =
    ap (λ (b : Bool). cond b 0 (suc (comes_from (xs ++ (x ∷ ys)) x))) (or-false-left (eqb x y) (elem x xs) h) ∙ ap suc (from-seam xs ys x (or-false-right (eqb x y) (elem x xs) h))

-- further numbers come after those that have appeared
distinct-grows : (ws zs : List ℕ) → (t : List ℕ) × (distinct (zs ++ ws) ≡ distinct zs ++ t)
distinct-grows [] zs = ([], ap distinct (append-nil zs) ∙ sym (append-nil (distinct zs)))
distinct-grows (w ∷ ws) zs = go (elem w zs) refl (distinct-grows ws (zs ++ (w ∷ [])))
  where
    go : (b : Bool) → elem w zs ≡ b → (t : List ℕ) × (distinct ((zs ++ (w ∷ [])) ++ ws) ≡ distinct (zs ++ (w ∷ [])) ++ t) → (t : List ℕ) × (distinct (zs ++ (w ∷ ws)) ≡ distinct zs ++ t)
    go true e r = (r.0, ap distinct (sym (append_assoc zs (w ∷ []) ws)) ∙ r.1 ∙ ap (λ (l : List ℕ). l ++ r.0) (distinct-old zs w e))
    go false e r =
        (w ∷ r.0, ap distinct (sym (append_assoc zs (w ∷ []) ws)) ∙ r.1 ∙ ap (λ (l : List ℕ). l ++ r.0) (distinct-new zs w e) ∙ append_assoc (distinct zs) (w ∷ []) r.0)

-- the place of a number by first appearance: among those before it, or right after them
place-old : (ws zs : List ℕ) (x : ℕ) → elem x zs ≡ true → comes_from (distinct (zs ++ ws)) x ≡ comes_from (distinct zs) x
place-old ws zs x h =
    let r = distinct-grows ws zs in
    ap (λ (l : List ℕ). comes_from l x) r.1 ∙ from-left (distinct zs) r.0 x (elem-distinct x zs h)

place-new : (ws zs : List ℕ) (x : ℕ) → elem x zs ≡ false → comes_from (distinct (zs ++ (x ∷ ws))) x ≡ length (distinct zs)
place-new ws zs x h =
    let r = distinct-grows ws (zs ++ (x ∷ [])) in
    ap (λ (l : List ℕ). comes_from l x)
    (ap distinct (sym (append_assoc zs (x ∷ []) ws)) ∙ r.1 ∙ ap (λ (l : List ℕ). l ++ r.0) (distinct-new zs x h) ∙ append_assoc (distinct zs) (x ∷ []) r.0)
    ∙ from-seam (distinct zs) r.0 x (distinct-elem x zs h)

-- the order of first appearance in xs, then all others
abbrev pub appearance : ℕ → List ℕ → List ℕ
appearance s xs = distinct (xs ++ up_to s)

pub appearance-is : (s : ℕ) (xs : List ℕ) → AllBelow s xs → is_rearrangement s (appearance s xs) ≡ true
unfolding is_rearrangement
appearance-is s xs b =
    let o : List ℕ = appearance s xs in
    let c : (d : ℕ) → d < s → elem d o ≡ true =
    λ d h. elem-distinct d (xs ++ up_to s) (elem-append d xs (up_to s) ∙ or_right (elem d xs) (elem d (up_to s)) (up_from-elem d 0 s (omega arith) (omega arith))) in
    let small : all (λ x. ltb x s) (xs ++ up_to s) ≡ true =
    all_append (λ x. ltb x s) xs (up_to s) ∙ and-join (all (λ x. ltb x s) xs) (all (λ x. ltb x s) (up_to s)) (AllBelow→all s xs b) (up_to-small s) in
    let l : length o ≡ s = omega (arith, length-distinct s (xs ++ up_to s) small, covers-length s o c) in
    and-join (eqb (length o) s) (all (λ d. elem d o) (up_to s)) (eqb-of-≡ (length o) s l) (up_to-all (λ d. elem d o) s c)
  where
    up_to-small : (s : ℕ) → all (λ x. ltb x s) (up_to s) ≡ true
    up_to-small s = up_to-all (λ x. ltb x s) s (λ i h. ltb-of-< i s h)

-- renamed in order of first appearance, numbers rise by one at most; zs have appeared
renamed-stepwise : (ys xs zs : List ℕ) → stepwise (length (distinct zs)) (map (comes_from (distinct (zs ++ (xs ++ ys)))) xs) ≡ true
renamed-stepwise ys [] zs = refl
renamed-stepwise ys (x ∷ xs) zs = go (elem x zs) refl (renamed-stepwise ys xs (zs ++ (x ∷ [])))
  where
    o : List ℕ
    o = distinct (zs ++ (x ∷ (xs ++ ys)))

    n : ℕ
    n = length (distinct zs)

    go : (b : Bool) → elem x zs ≡ b → stepwise (length (distinct (zs ++ (x ∷ [])))) (map (comes_from (distinct ((zs ++ (x ∷ [])) ++ (xs ++ ys)))) xs) ≡ true
        → (leb (comes_from (distinct (zs ++ (x ∷ (xs ++ ys)))) x) (length (distinct zs))
        && stepwise (max (length (distinct zs)) (suc (comes_from (distinct (zs ++ (x ∷ (xs ++ ys)))) x))) (map (comes_from (distinct (zs ++ (x ∷ (xs ++ ys))))) xs))
        ≡ true
    go true e ih =
        let d : ℕ = comes_from o x in
        let p : d ≡ comes_from (distinct zs) x = place-old (x ∷ (xs ++ ys)) zs x e in
        let l : d < n = omega (arith, (place_found (distinct zs) x (elem-distinct x zs e)).0) in
        let m : length (distinct (zs ++ (x ∷ []))) ≡ max n (suc d) = ap length (distinct-old zs x e) ∙ omega arith in
        and-join (leb d n) (stepwise (max n (suc d)) (map (comes_from o) xs)) (leb-of-≤ d n (omega arith))
        (ap (λ (k : ℕ). stepwise k (map (comes_from o) xs)) (sym m) ∙ ap (λ (l : List ℕ). stepwise (length (distinct (zs ++ (x ∷ [])))) (map (comes_from (distinct l)) xs)) (sym (append_assoc zs (x ∷ []) (xs ++ ys))) ∙ ih)
    go false e ih =
        let d : ℕ = comes_from o x in
        let p : d ≡ n = place-new (xs ++ ys) zs x e in
        let m : length (distinct (zs ++ (x ∷ []))) ≡ max n (suc d) = ap length (distinct-new zs x e) ∙ length-append (distinct zs) (x ∷ []) ∙ omega arith in
        and-join (leb d n) (stepwise (max n (suc d)) (map (comes_from o) xs)) (leb-of-≤ d n (omega arith))
        (ap (λ (k : ℕ). stepwise k (map (comes_from o) xs)) (sym m) ∙ ap (λ (l : List ℕ). stepwise (length (distinct (zs ++ (x ∷ [])))) (map (comes_from (distinct l)) xs)) (sym (append_assoc zs (x ∷ []) (xs ++ ys))) ∙ ih)

pub appearance-stepwise : (s : ℕ) (xs : List ℕ) → stepwise 0 (map (comes_from (appearance s xs)) xs) ≡ true
appearance-stepwise s xs = renamed-stepwise (up_to s) xs []

-- numbers that do not rise so are after their renaming; zs, which are 0 to n - 1, have appeared
renamed-before : (ys us ws xs zs : List ℕ) (n : ℕ) → distinct zs ≡ up_to n → stepwise n xs ≡ false
    → NotAfter (xs ++ us) (map (comes_from (distinct (zs ++ (xs ++ ys)))) xs ++ ws) → ⊥
renamed-before ys us ws [] zs n z f a = both_false refl f
renamed-before ys us ws (x ∷ xs) zs n z f a = go (true-or-false (leb x n)) (true-or-false (elem x zs)) (λ m y g b. renamed-before ys us ws xs (zs ++ (x ∷ [])) m y g b) a
  where
    appeared : elem x zs ≡ true → x < n
    appeared e = let r = elem-up_from x 0 n (ap (elem x) (sym z) ∙ elem-distinct x zs e) in omega (arith, r.1)

    new : elem x zs ≡ false → n ≤ x
    new e = go' (true-or-false (leb n x))
      where
        go' : (leb n x ≡ true) ⊎ (leb n x ≡ false) → n ≤ x
        go' (inl k) = leb-true n x k
        go' (inr k) =
            let l : x < n = leb-false n x k in
            absurd (both_false (ap (elem x) z ∙ up_from-elem x 0 n (omega arith) (omega arith)) (distinct-elem x zs e))

    size : length (distinct zs) ≡ n
    size = ap length z ∙ length-up_from 0 n

    -- the first number stays, and the rest is compared
    next : (m : ℕ) → comes_from (distinct (zs ++ (x ∷ (xs ++ ys)))) x ≡ x → max n (suc x) ≡ m → leb x n ≡ true → distinct (zs ++ (x ∷ [])) ≡ up_to m
        → ((m : ℕ) → distinct (zs ++ (x ∷ [])) ≡ up_to m → stepwise m xs ≡ false
        → NotAfter (xs ++ us) (map (comes_from (distinct ((zs ++ (x ∷ [])) ++ (xs ++ ys)))) xs ++ ws) → ⊥)
        → (x < comes_from (distinct (zs ++ (x ∷ (xs ++ ys)))) x) ⊎ ((x ≡ comes_from (distinct (zs ++ (x ∷ (xs ++ ys)))) x) × NotAfter (xs ++ us) (map (comes_from (distinct (zs ++ (x ∷ (xs ++ ys))))) xs ++ ws))
        → ⊥
    next m p q k y ih (inl b) = omega arith
    next m p q k y ih (inr b) =
        ih m y (ap (λ (j : ℕ). stepwise j xs) (sym q) ∙ ap (λ (t : Bool). t && stepwise (max n (suc x)) xs) (sym k) ∙ f)
        (subst (λ (l : List ℕ). NotAfter (xs ++ us) (map (comes_from (distinct l)) xs ++ ws)) (sym (append_assoc zs (x ∷ []) (xs ++ ys))) b.1)

    later : comes_from (distinct (zs ++ (x ∷ (xs ++ ys)))) x < x
        → (x < comes_from (distinct (zs ++ (x ∷ (xs ++ ys)))) x) ⊎ ((x ≡ comes_from (distinct (zs ++ (x ∷ (xs ++ ys)))) x) × NotAfter (xs ++ us) (map (comes_from (distinct (zs ++ (x ∷ (xs ++ ys))))) xs ++ ws))
        → ⊥
    later l (inl b) = omega arith
    later l (inr b) = omega (arith, b.0)

    go : (leb x n ≡ true) ⊎ (leb x n ≡ false) → (elem x zs ≡ true) ⊎ (elem x zs ≡ false)
        → ((m : ℕ) → distinct (zs ++ (x ∷ [])) ≡ up_to m → stepwise m xs ≡ false
        → NotAfter (xs ++ us) (map (comes_from (distinct ((zs ++ (x ∷ [])) ++ (xs ++ ys)))) xs ++ ws) → ⊥)
        → (x < comes_from (distinct (zs ++ (x ∷ (xs ++ ys)))) x) ⊎ ((x ≡ comes_from (distinct (zs ++ (x ∷ (xs ++ ys)))) x) × NotAfter (xs ++ us) (map (comes_from (distinct (zs ++ (x ∷ (xs ++ ys))))) xs ++ ws))
        → ⊥
    go (inl k) (inl e) ih b =
        let l : x < n = appeared e in
        next n (place-old (x ∷ (xs ++ ys)) zs x e ∙ ap (λ (l : List ℕ). comes_from l x) z ∙ from-unchanged n x l) (omega arith) k (distinct-old zs x e ∙ z) ih b
    go (inl k) (inr e) ih b =
        let l : x ≡ n = omega (arith, leb-true x n k, new e) in
        next (suc n) (place-new (xs ++ ys) zs x e ∙ size ∙ sym l) (omega arith) k
        (distinct-new zs x e ∙ ap (λ (l : List ℕ). l ++ (x ∷ [])) z ∙ ap (λ (j : ℕ). up_to n ++ (j ∷ [])) (l ∙ sym (zero-add n)) ∙ up_from-append 0 n 1 ∙ ap up_to (add-one n)) ih b
    go (inr k) (inl e) ih b = absurd (omega (arith, leb-false x n k, appeared e))
    go (inr k) (inr e) ih b = later (omega (arith, leb-false x n k, place-new (xs ++ ys) zs x e, size)) b

pub appearance-before : (s : ℕ) (xs us ws : List ℕ) → stepwise 0 xs ≡ false → NotAfter (xs ++ us) (map (comes_from (appearance s xs)) xs ++ ws) → ⊥
appearance-before s xs us ws f a = renamed-before (up_to s) us ws xs [] 0 refl f a
