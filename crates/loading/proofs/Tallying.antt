-- A turn of counting: one literal more of the clause.
use mathlib.Core.Path.{◌≡◌, refl, sym, ap, ◌∙◌}
use mathlib.Core.Bool.{Bool, true, false, cond}
use mathlib.Core.List.{List, [], ◌∷◌, ◌++◌}
use Prim.Native.Nat.{ℕ, ◌+◌, ◌*◌, ◌≤◌, ◌<◌}
use native.Mathlib.Numerals.{add-one}
use native.Mathlib.Omega.{arith}
use lib.Dec.{eqb}
use lib.ListN.{length, get_or, set, take}
use lib.Seq.{get_or-set_same, get_or-set_other, length-take-le}
use Rattle.theory.proofs.Tests.{eqb-true, eqb-ne}
use Rattle.loading.specs.Filling.{occurs, occurrences, literals}
use Rattle.loading.specs.Loading.{InRange, Tallied}
use Rattle.loading.proofs.Occurrences.{occurs-≤, occurrences-≤, occurrences-snoc, occurs-take}

-- zeros: no clause is counted
pub tallied-none : (v : ℕ) (w : List ℕ) → ((i : ℕ) → get_or w i 0 ≡ 0) → Tallied v [] w
tallied-none v w z = record { counts = λ x h. z (2 * v + 2 * x + 1); values = λ i h. z i; rest = λ i h. z i }

-- the first i literals of the clause are counted
abbrev pub Tallying : ℕ → List ℕ → List ℕ → List ℕ → ℕ → Type 0
Tallying v clause w₀ w i = (seen : List (List ℕ)) → Tallied v seen w₀ → Tallied v (seen ++ (take i clause ∷ [])) w

pub tallying-start : (v : ℕ) (clause w : List ℕ) → Tallying v clause w w 0
tallying-start v clause w seen t =
    record { counts = λ x h. t.counts x h ∙ omega (arith, occurrences-snoc x seen []); values = t.values; rest = t.rest }

module _ (v : ℕ) (clause w₀ w : List ℕ) (i : ℕ) (go : i < length clause) (range : InRange v clause) (size : 7 * v ≤ length w) where
  abbrev u : ℕ
  u = get_or clause i 0

  abbrev at : ℕ
  at = 2 * v + 2 * u + 1

  -- a count fits
  pub count_fits : (seen : List (List ℕ)) → Tallied v seen w₀ → Tallying v clause w₀ w i → get_or w at 0 + 1 ≤ literals seen + length clause
  count_fits seen t g =
      omega (arith, (g seen t).counts u (range i go), occurrences-snoc u seen (take i clause), occurrences-≤ u seen, occurs-≤ u (take i clause), length-take-le i clause (omega arith))

  pub tallying-turn : Tallying v clause w₀ w i → Tallying v clause w₀ (set w at (get_or w at 0 + 1)) (i + 1)
  tallying-turn g seen t =
      record {
        counts = λ x h. by x h (eqb x u) refl;
        values = λ j h. other j (λ e. omega (arith, e, h)) ∙ (g seen t).values j h;
        rest = λ j h. other j (λ e. omega (arith, e, h, range i go)) ∙ (g seen t).rest j h;
      }
    where
      w' : List ℕ
      w' = set w at (get_or w at 0 + 1)

      other : (j : ℕ) → (j ≡ at → ⊥) → get_or w' j 0 ≡ get_or w j 0
      other j n = get_or-set_other w at j (get_or w at 0 + 1) 0 n

      counted : (x : ℕ) → occurrences x (seen ++ (take (i + 1) clause ∷ [])) ≡ occurrences x (seen ++ (take i clause ∷ [])) + cond (eqb x u) 1 0
      counted x =
          omega (arith, occurrences-snoc x seen (take (i + 1) clause), occurrences-snoc x seen (take i clause), ap (λ (k : ℕ). occurs x (take k clause)) (add-one i), occurs-take x clause i go)

      by : (x : ℕ) → x < 2 * v → (b : Bool) → eqb x u ≡ b → get_or w' (2 * v + 2 * x + 1) 0 ≡ occurrences x (seen ++ (take (i + 1) clause ∷ []))
      by x h true e =
          let s : 2 * v + 2 * x + 1 ≡ at = omega (arith, eqb-true x u e) in
          let k : ◌≡◌ {A = ℕ} (cond (eqb x u) 1 0) 1 = ap (λ (b : Bool). cond b 1 0) e in
          let n : get_or w at 0 ≡ occurrences x (seen ++ (take i clause ∷ [])) = ap (λ (k : ℕ). get_or w k 0) (sym s) ∙ (g seen t).counts x h in
          ap (λ (k : ℕ). get_or w' k 0) s ∙ get_or-set_same w at (get_or w at 0 + 1) 0 (omega (arith, size, range i go)) ∙ omega (arith, n, k, counted x)
      by x h false e =
          let k : ◌≡◌ {A = ℕ} (cond (eqb x u) 1 0) 0 = ap (λ (b : Bool). cond b 1 0) e in
          other (2 * v + 2 * x + 1) (λ z. omega (arith, z, eqb-ne x u e)) ∙ (g seen t).counts x h ∙ omega (arith, k, counted x)
