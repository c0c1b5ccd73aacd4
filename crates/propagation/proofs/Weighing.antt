-- Lowering the weights at the addresses of the clauses that have a literal makes them the weights with that literal false too; raising them undoes it.
use mathlib.Core.Path.{◌≡◌, refl, sym, ap, ◌∙◌}
use mathlib.Core.Bool.{Bool, true, false, cond, ◌||◌, false≢true}
use mathlib.Core.List.{List, [], ◌∷◌, ◌++◌, map}
use Prim.Native.Nat.{ℕ, suc, ◌+◌, ◌*◌}
use native.Mathlib.Numerals.{add-one}
use native.Mathlib.Omega.{arith}
use borrow.Author.Tests.{eqb-true, eq-eqb}
use lib.Dec.{eqb}
use lib.ListN.{length, get_or, set, length-append}
use lib.Seq.{set_at, get_or_at, append_snoc}
use Rattle.propagation.specs.Weights.{changed, less, more}
use Rattle.theory.specs.Lists.{elem}
use Rattle.theory.proofs.Tests.{eqb-sym, or-false-left, or-false-right}
use Rattle.propagation.specs.Clauses.{Distinct, All, weight, holders}

-- a literal that the clause lacks adds nothing
pub weight-miss : (x : ℕ) (falses c : List ℕ) → elem x c ≡ false → weight (x ∷ falses) c ≡ weight falses c
weight-miss x falses [] h = refl
weight-miss x falses (y ∷ ys) h =
    rw (eqb-sym y x, or-false-left (eqb x y) (elem x ys) h, weight-miss x falses ys (or-false-right (eqb x y) (elem x ys) h)) refl

hit-step : (x y : ℕ) (falses ys : List ℕ) (b : Bool) → eqb x y ≡ b → elem y ys ≡ false → elem x falses ≡ false → (b || elem x ys) ≡ true
    → (elem x ys ≡ true → weight (x ∷ falses) ys + (64 * x + 1) ≡ weight falses ys) → weight (x ∷ falses) (y ∷ ys) + (64 * x + 1) ≡ weight falses (y ∷ ys)
hit-step x y falses ys true e d n h again =
    let same : x ≡ y = eqb-true x y e in
    let n' : elem y falses ≡ false = rw same at n in
    let m : weight (x ∷ falses) ys ≡ weight falses ys = weight-miss x falses ys (rw same d) in
    rw (eq-eqb y x (sym same), n') (omega (arith, m, same))
hit-step x y falses ys false e d n h again =
    rw (eqb-sym y x, e) (omega (arith, again h))

-- a literal that the clause has, and that was not false, takes its part away
pub weight-hit : (x : ℕ) (falses c : List ℕ) → Distinct c → elem x falses ≡ false → elem x c ≡ true → weight (x ∷ falses) c + (64 * x + 1) ≡ weight falses c
weight-hit x falses [] d n h = absurd (false≢true h)
weight-hit x falses (y ∷ ys) d n h =
    hit-step x y falses ys (eqb x y) refl d.0 n h (weight-hit x falses ys d.1 n)

snoc-length : (pre : List ℕ) (y a : ℕ) → length pre ≡ a → length (pre ++ (y ∷ [])) ≡ suc a
snoc-length pre y a l = length-append pre (y ∷ []) ∙ rw l (add-one a)

-- f at the addresses of the clauses that have x takes the numbers A of the clauses to the numbers B, where it does so at a clause that has x, and A and B agree at one that lacks it
module _ (x : ℕ) (f : ℕ → ℕ) (A B : List ℕ → ℕ) (post : List ℕ) (Fit : List ℕ → Type 0)
    (hit : (c : List ℕ) → Fit c → elem x c ≡ true → f (A c) ≡ B c) (miss : (c : List ℕ) → elem x c ≡ false → A c ≡ B c) where
  abbrev Changes : List (List ℕ) → ℕ → Type 0
  Changes cs a =
      (pre : List ℕ) → length pre ≡ a → changed f (holders a x cs) (pre ++ (map A cs ++ post)) ≡ pre ++ (map B cs ++ post)

  change-step : (c : List ℕ) (cs : List (List ℕ)) (a : ℕ) → Fit c → Changes cs (suc a) → (b : Bool) → elem x c ≡ b → (pre : List ℕ) → length pre ≡ a
      → changed f (cond b (a ∷ holders (suc a) x cs) (holders (suc a) x cs)) (pre ++ (map A (c ∷ cs) ++ post)) ≡ pre ++ (map B (c ∷ cs) ++ post)
  change-step c cs a d again true h pre l =
      let rest = map A cs ++ post in
      let w = pre ++ (A c ∷ rest) in
      let new : f (get_or w a 0) ≡ B c = ap f (get_or_at pre (A c) rest 0 a l) ∙ hit c d h in
      ap (λ (u : List ℕ). changed f (holders (suc a) x cs) u)
      (ap (λ (z : ℕ). set w a z) new ∙ set_at pre (A c) rest (B c) a l ∙ sym (append_snoc pre (B c) rest))
      ∙ again (pre ++ (B c ∷ [])) (snoc-length pre (B c) a l)
      ∙ append_snoc pre (B c) (map B cs ++ post)
  change-step c cs a d again false h pre l =
      let rest = map A cs ++ post in
      ap (λ (u : List ℕ). changed f (holders (suc a) x cs) u) (sym (append_snoc pre (A c) rest))
      ∙ again (pre ++ (A c ∷ [])) (snoc-length pre (A c) a l)
      ∙ append_snoc pre (A c) (map B cs ++ post)
      ∙ ap (λ (z : ℕ). pre ++ (z ∷ (map B cs ++ post))) (miss c h)

  change-weights : (cs : List (List ℕ)) (a : ℕ) → All Fit cs → Changes cs a
  change-weights [] a d pre l = refl
  change-weights (c ∷ cs) a d pre l =
      change-step c cs a d.0 (change-weights cs (suc a) d.1) (elem x c) refl pre l

-- where x was not false: lowering the clauses that have x by x's part makes it false, and raising them takes that back
module _ (x : ℕ) (falses : List ℕ) (n : elem x falses ≡ false) (cs : List (List ℕ)) (d : All Distinct cs) (pre post : List ℕ) where
  pub lower-weights : changed (less (64 * x + 1)) (holders (length pre) x cs) (pre ++ (map (weight falses) cs ++ post)) ≡ pre ++ (map (weight (x ∷ falses)) cs ++ post)
  lower-weights =
      change-weights x (less (64 * x + 1)) (weight falses) (weight (x ∷ falses)) post Distinct
      (λ c u h. omega (arith, weight-hit x falses c u n h))
      (λ c h. sym (weight-miss x falses c h))
      cs (length pre) d pre refl

  pub raise-weights : changed (more (64 * x + 1)) (holders (length pre) x cs) (pre ++ (map (weight (x ∷ falses)) cs ++ post)) ≡ pre ++ (map (weight falses) cs ++ post)
  raise-weights =
      change-weights x (more (64 * x + 1)) (weight (x ∷ falses)) (weight falses) post Distinct
      (λ c u h. weight-hit x falses c u n h)
      (λ c h. weight-miss x falses c h)
      cs (length pre) d pre refl
