-- Laws of argument vectors: a test on all of them, and their ranks.
use Prim.Native.Nat.{ℕ, zero, suc, ◌+◌, ◌*◌, ◌^◌, ◌/◌, ◌%◌, ◌≤◌, ◌<◌}
use mathlib.Core.Path.{◌≡◌, refl, sym, ap, ◌∙◌, subst}
use mathlib.Core.Bool.{Bool, true}
use mathlib.Core.List.{List, [], ◌∷◌, ◌++◌, map, map-map}
use native.Mathlib.Nat.{add-zero, suc_inj, pow-zero, pow-succ', pow-suc, zero-lt-suc, zero-mul, mul-one, mul_assoc, add-mul}
use native.Mathlib.Omega.{arith}
use lib.Dec.{ltb}
use lib.Arith.{digits_lt, digits_div, digits_mod}
use lib.ListN.{length, get_or, drop, length-append, length-map}
use Rattle.theory.specs.Lists.{all, up_from, up_to}
use Rattle.theory.specs.Vectors.{vectors, rank, AllBelow}
use Rattle.theory.proofs.Tests.{and_left, and_right, and-join, ltb-true, ltb-of-<}
use Rattle.theory.proofs.Lists.{all_map, all-concat_map, all-up_to, up_to-all, map-concat_map, concat_map-cong, map-add-up_from, length-up_from, blocks}

pub all-vectors : (s k : ℕ) (p : List ℕ → Bool) → all p (vectors s k) ≡ true → (v : List ℕ) → length v ≡ k → AllBelow s v → p v ≡ true
all-vectors s zero p h [] e b = and_left (p []) true h
all-vectors s zero p h (d ∷ v) e b = let z : ◌≡◌ {A = ℕ} (suc (length v)) 0 = e in absurd (omega arith)
all-vectors s (suc k) p h [] e b = let z : ◌≡◌ {A = ℕ} 0 (suc k) = e in absurd (omega arith)
all-vectors s (suc k) p h (d ∷ v) e b =
    let h₁ : all (λ d. all p (map (λ v. d ∷ v) (vectors s k))) (up_to s) ≡ true = rw all-concat_map at h in
    let h₂ : all p (map (λ v. d ∷ v) (vectors s k)) ≡ true = all-up_to (λ d. all p (map (λ v. d ∷ v) (vectors s k))) s h₁ d b.0 in
    all-vectors s k (λ v. p (d ∷ v)) (sym (all_map p (λ v. d ∷ v) (vectors s k)) ∙ h₂) v (suc_inj e) b.1

pub vectors-all : (s k : ℕ) (p : List ℕ → Bool) → ((v : List ℕ) → length v ≡ k → AllBelow s v → p v ≡ true) → all p (vectors s k) ≡ true
vectors-all s zero p h = and-join (p []) true (h [] refl tt) refl
vectors-all s (suc k) p h =
    all-concat_map p (λ d. map (λ v. d ∷ v) (vectors s k)) (up_to s)
    ∙ up_to-all (λ d. all p (map (λ v. d ∷ v) (vectors s k))) s
    (λ d hd. all_map p (λ v. d ∷ v) (vectors s k) ∙ vectors-all s k (λ v. p (d ∷ v)) (λ v e b. h (d ∷ v) (ap suc e) (hd, b)))

pub rank_lt : (s : ℕ) (v : List ℕ) → AllBelow s v → rank s v < s ^ length v
rank_lt s [] b = rw pow-zero (zero-lt-suc 0)
rank_lt s (d ∷ v) b = rw pow-succ' (digits_lt b.0 (rank_lt s v b.1))

pub rank-inj : (s : ℕ) (u v : List ℕ) → length u ≡ length v → AllBelow s u → AllBelow s v → rank s u ≡ rank s v → u ≡ v
rank-inj s [] [] e a b h = refl
rank-inj s [] (d ∷ v) e a b h = absurd (omega arith)
rank-inj s (d ∷ u) [] e a b h = absurd (omega arith)
rank-inj s (d ∷ u) (d' ∷ v) e a b h =
    let l : length u ≡ length v = suc_inj e in
    let m : ℕ = s ^ length v in
    let hu : rank s u < m = subst (λ (n : ℕ). rank s u < s ^ n) l (rank_lt s u a.1) in
    let hv : rank s v < m = rank_lt s v b.1 in
    let h₂ : d * m + rank s u ≡ d' * m + rank s v = subst (λ (n : ℕ). d * s ^ n + rank s u ≡ d' * s ^ length v + rank s v) l h in
    let p : d ≡ d' = sym (digits_div d hu) ∙ ap (λ (n : ℕ). n / m) h₂ ∙ digits_div d' hv in
    let q : rank s u ≡ rank s v = sym (digits_mod d hu) ∙ ap (λ (n : ℕ). n % m) h₂ ∙ digits_mod d' hv in
    let r : u ≡ v = rank-inj s u v l a.1 b.1 q in
    cc

pub map-vectors : {A : Type 0} (s k : ℕ) (f g : List ℕ → A) → ((v : List ℕ) → length v ≡ k → f v ≡ g v) → map f (vectors s k) ≡ map g (vectors s k)
map-vectors s zero f g h = ap (λ a. a ∷ []) (h [] refl)
map-vectors s (suc k) f g h =
    map-concat_map f (λ d. map (λ v. d ∷ v) (vectors s k)) (up_to s)
    ∙ concat_map-cong (λ d. map f (map (λ v. d ∷ v) (vectors s k))) (λ d. map g (map (λ v. d ∷ v) (vectors s k))) (up_to s)
    (λ d. map-map f (λ v. d ∷ v) (vectors s k) ∙ map-vectors s k (λ v. f (d ∷ v)) (λ v. g (d ∷ v)) (λ v e. h (d ∷ v) (ap suc e)) ∙ sym (map-map g (λ v. d ∷ v) (vectors s k)))
    ∙ sym (map-concat_map g (λ d. map (λ v. d ∷ v) (vectors s k)) (up_to s))

pub rank-vectors : (s k : ℕ) → map (rank s) (vectors s k) ≡ up_to (s ^ k)
rank-vectors s zero = rw pow-zero
rank-vectors s (suc k) =
    let m : ℕ = s ^ k in
    let row : (d : ℕ) → map (rank s) (map (λ v. d ∷ v) (vectors s k)) ≡ up_from (d * m) m =
    λ d. map-map (rank s) (λ v. d ∷ v) (vectors s k)
    ∙ map-vectors s k (λ v. rank s (d ∷ v)) (λ v. d * m + rank s v) (λ v e. ap (λ (n : ℕ). d * s ^ n + rank s v) e)
    ∙ sym (map-map (λ (i : ℕ). d * m + i) (rank s) (vectors s k))
    ∙ ap (map (λ (i : ℕ). d * m + i)) (rank-vectors s k)
    ∙ map-add-up_from (d * m) 0 m
    ∙ ap (λ (b : ℕ). up_from b m) (add-zero (d * m)) in
    map-concat_map (rank s) (λ d. map (λ v. d ∷ v) (vectors s k)) (up_to s)
    ∙ concat_map-cong (λ d. map (rank s) (map (λ v. d ∷ v) (vectors s k))) (λ d. up_from (d * m) m) (up_to s) row
    ∙ blocks m 0 s ∙ ap (λ (b : ℕ). up_from b (s * m)) (zero-mul m) ∙ ap up_to (sym (pow-succ' s k))

pub length-vectors : (s k : ℕ) → length (vectors s k) ≡ s ^ k
length-vectors s k = sym (length-map (vectors s k) (rank s)) ∙ ap length (rank-vectors s k) ∙ length-up_from 0 (s ^ k)

pub rank-snoc : (s : ℕ) (v : List ℕ) (d : ℕ) → rank s (v ++ (d ∷ [])) ≡ rank s v * s + d
rank-snoc s [] d = omega (arith, ap (λ (n : ℕ). d * n) (pow-zero s), mul-one d, zero-mul s)
rank-snoc s (e ∷ v) d =
    let n : ℕ = length v in
    let l : length (v ++ (d ∷ [])) ≡ suc n = length-append v (d ∷ []) ∙ omega arith in
    let p : e * s ^ length (v ++ (d ∷ [])) ≡ e * s ^ n * s = ap (λ (m : ℕ). e * s ^ m) l ∙ ap (λ (m : ℕ). e * m) (pow-suc s n) ∙ sym (mul_assoc e (s ^ n) s) in
    omega (arith, p, rank-snoc s v d, add-mul (e * s ^ n) (rank s v) s)

-- numbers below s
pub all_below-map : {A : Type 0} (s : ℕ) (f : A → ℕ) → ((x : A) → f x < s) → (xs : List A) → AllBelow s (map f xs)
all_below-map s f h [] = tt
all_below-map s f h (x ∷ xs) = (h x, all_below-map s f h xs)

pub all_below-append : (s : ℕ) (u v : List ℕ) → AllBelow s u → AllBelow s v → AllBelow s (u ++ v)
all_below-append s [] v a b = b
all_below-append s (d ∷ u) v a b = (a.0, all_below-append s u v a.1 b)

pub all_below-drop : (s n : ℕ) (v : List ℕ) → AllBelow s v → AllBelow s (drop n v)
all_below-drop s zero v b = b
all_below-drop s (suc n) [] b = b
all_below-drop s (suc n) (d ∷ v) b = all_below-drop s n v b.1

pub all_below-get_d : (s : ℕ) (v : List ℕ) (i : ℕ) → zero < s → AllBelow s v → get_or v i 0 < s
all_below-get_d s [] i h b = h
all_below-get_d s (d ∷ v) zero h b = b.0
all_below-get_d s (d ∷ v) (suc i) h b = all_below-get_d s v i h b.1

pub all→AllBelow : (s : ℕ) (v : List ℕ) → all (λ d. ltb d s) v ≡ true → AllBelow s v
all→AllBelow s [] h = tt
all→AllBelow s (d ∷ v) h = (ltb-true d s (and_left (ltb d s) (all (λ d. ltb d s) v) h), all→AllBelow s v (and_right (ltb d s) (all (λ d. ltb d s) v) h))

pub AllBelow→all : (s : ℕ) (v : List ℕ) → AllBelow s v → all (λ d. ltb d s) v ≡ true
AllBelow→all s [] b = refl
AllBelow→all s (d ∷ v) b = and-join (ltb d s) (all (λ d. ltb d s) v) (ltb-of-< d s b.0) (AllBelow→all s v b.1)

pub all_below-within : (s t : ℕ) (v : List ℕ) → s ≤ t → AllBelow s v → AllBelow t v
all_below-within s t [] h b = tt
all_below-within s t (d ∷ v) h b = (omega (arith, b.0), all_below-within s t v h b.1)
