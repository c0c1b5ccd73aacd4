-- A new clause; a literal that a clause has already; and what a filled work area holds.
use mathlib.Core.Path.{◌≡◌, refl, sym, ap, ◌∙◌, subst⁻¹}
use mathlib.Core.Bool.{Bool, true, false, cond}
use mathlib.Core.List.{append-nil, List, [], ◌∷◌, ◌++◌, map}
use Prim.Native.Nat.{ℕ, ◌+◌, ◌-◌, ◌*◌, ◌≤◌, ◌<◌}
use native.Mathlib.Omega.{arith}
use borrow.Author.Tests.{eqb-true, eqb-false, eq-eqb, ne_eqb, ltb-true, ltb-false, lt-ltb}
use lib.Dec.{eqb, ltb}
use lib.ListN.{length, get_or, take, drop, replicate, length-append, length-map, length-drop, length-replicate, take-append-drop, get_or-replicate, get_or-append, get_or-map}
use lib.Seq.{slice, length-slice, length-take-le, ext_get_or, get_or-take, get_or-drop, get_or-append_seam, get_or-append-add}
use Rattle.theory.specs.Lists.{elem}
use Rattle.propagation.specs.Clauses.{weight, holders}
use Rattle.propagation.specs.WorkArea.{ShortClause, WorkHeld}
use Rattle.propagation.proofs.Frames.{get_d-slice}
use Rattle.loading.specs.Filling.{from, to, occurrences, Filling, entered, ends_with, enters}
use Rattle.propagation.proofs.Lives.{holder-at}
use Rattle.loading.proofs.Entering.{all-last, all_snoc, holders-snoc, entered-filling}

-- a new, empty clause
pub opened : (v : ℕ) (cs es : List (List ℕ)) (w : List ℕ) → Filling v cs es w → length es < length cs → Filling v cs (es ++ ([] ∷ [])) w
opened v cs es w f h =
    record {
      small = f.small;
      clauses = all_snoc (ShortClause v) es [] f.clauses (record { distinct = tt; within = tt; short = omega arith });
      size = f.size;
      count = omega (arith, n);
      values = f.values;
      weights = λ i k. by i k (eqb i (length es)) refl;
      zeros = λ i a b. f.zeros i (omega (arith, a, n)) b;
      after = f.after;
      ordered = f.ordered;
      within = f.within;
      room = f.room;
      inner = f.inner;
      apart = f.apart;
      rest = f.rest;
      holds = λ x k. f.holds x k ∙ sym (holders-snoc x es [] (7 * v) ∙ append-nil (holders (7 * v) x es));
    }
  where
    n : length (es ++ ([] ∷ [])) ≡ length es + 1
    n = length-append es ([] ∷ [])

    by : (i : ℕ) → i < length (es ++ ([] ∷ [])) → (b : Bool) → eqb i (length es) ≡ b → get_or w (7 * v + i) 0 ≡ weight [] (get_or (es ++ ([] ∷ [])) i [])
    by i k true e =
        subst⁻¹ (λ (j : ℕ). get_or w (7 * v + j) 0 ≡ weight [] (get_or (es ++ ([] ∷ [])) j [])) (eqb-true i (length es) e)
        (f.zeros (length es) (omega arith) h ∙ ap (weight []) (sym (get_or-append_seam es [] [] [])))
    by i k false e =
        let l : i < length es = omega (arith, eqb-false i (length es) e, k, n) in
        f.weights i l ∙ ap (weight []) (sym (get_or-append es ([] ∷ []) [] i l))

-- the last clause has u exactly if the block of u ends with its address
module _ (v : ℕ) (cs es : List (List ℕ)) (d w : List ℕ) (f : Filling v cs (es ++ (d ∷ [])) w) (u : ℕ) (is : u < 2 * v) where
  abbrev c : ℕ
  c = 7 * v + length es

  abbrev a : ℕ
  a = from v u w

  abbrev b : ℕ
  b = to v u w

  inside : b ≤ length w
  inside = omega (arith, f.within u is, f.room u is)

  size : length (slice a b w) ≡ b - a
  size = length-slice a b w inside

  whole : slice a b w ≡ holders (7 * v) u es ++ cond (elem u d) (c ∷ []) []
  whole = f.holds u is ∙ holders-snoc u es d (7 * v)

  final : a < b → get_or w (b - 1) 0 ≡ get_or (slice a b w) (b - a - 1) 0
  final h =
      let e : a + (b - a - 1) ≡ b - 1 = omega (arith, h) in
      ap (λ (n : ℕ). get_or w n 0) (sym e) ∙ sym (get_d-slice a b w (b - a - 1) (omega (arith, h)))

  pub test : (k : Bool) → elem u d ≡ k → ends_with a b c w ≡ k
  test true e =
      let s : slice a b w ≡ holders (7 * v) u es ++ (c ∷ []) = whole ∙ ap (λ (k : Bool). holders (7 * v) u es ++ cond k (c ∷ []) []) e in
      let n : b - a ≡ length (holders (7 * v) u es) + 1 = sym size ∙ ap length s ∙ length-append (holders (7 * v) u es) (c ∷ []) in
      let h : a < b = omega (arith, n) in
      let i : b - a - 1 ≡ length (holders (7 * v) u es) = omega (arith, n) in
      let l : get_or w (b - 1) 0 ≡ c = final h ∙ ap (λ (q : List ℕ). get_or q (b - a - 1) 0) s ∙ ap (λ (j : ℕ). get_or (holders (7 * v) u es ++ (c ∷ [])) j 0) i ∙ get_or-append_seam (holders (7 * v) u es) c [] 0 in
      rw (lt-ltb a b h, eq-eqb (get_or w (b - 1) 0) c l) refl
  test false e = by (ltb a b) refl
    where
      s : slice a b w ≡ holders (7 * v) u es
      s = whole ∙ ap (λ (k : Bool). holders (7 * v) u es ++ cond k (c ∷ []) []) e ∙ append-nil (holders (7 * v) u es)

      by : (k : Bool) → ltb a b ≡ k → ends_with a b c w ≡ false
      by false k = rw k refl
      by true k =
          let h = ltb-true a b k in
          let n : b - a ≡ length (holders (7 * v) u es) = sym size ∙ ap length s in
          let o = holder-at u es (7 * v) (b - a - 1) (omega (arith, n, h)) in
          let l : get_or w (b - 1) 0 ≡ 7 * v + o.0 = final h ∙ ap (λ (q : List ℕ). get_or q (b - a - 1) 0) s ∙ o.2 in
          rw (k, ne_eqb (get_or w (b - 1) 0) c (λ z. omega (arith, z, l, o.1))) refl

  -- so entering keeps the filling, with u in the last clause
  pub enters-filling : (elem u d ≡ false → b < a + occurrences u cs) → length d < 63 → (k : Bool) → elem u d ≡ k
      → Filling v cs (es ++ (cond k d (u ∷ d) ∷ [])) (enters v u c w)
  enters-filling space short true e = subst⁻¹ (λ (q : Bool). Filling v cs (es ++ (d ∷ [])) (cond q w (entered v u c w))) (test true e) f
  enters-filling space short false e =
      let k = all-last (ShortClause v) es d f.clauses in
      let k' : ShortClause v (u ∷ d) = record { distinct = (e, k.distinct); within = (omega arith, k.within); short = omega arith } in
      subst⁻¹ (λ (q : Bool). Filling v cs (es ++ ((u ∷ d) ∷ [])) (cond q w (entered v u c w))) (test false e) (entered-filling v cs es d w f u is e (space e) k')

-- a filled work area with no value set holds its clauses
module _ (v : ℕ) (cs ds : List (List ℕ)) (w : List ℕ) (f : Filling v cs ds w) (all : length ds ≡ length cs) where
  values-zero : take v w ≡ replicate v 0
  values-zero =
      let l = length-take-le v w (omega (arith, f.size, all)) in
      ext_get_or 0 (take v w) (replicate v 0) (l ∙ sym (length-replicate v 0))
      (λ i h. get_or-take v w i 0 (omega (arith, h, l)) ∙ f.values i (omega (arith, h, l)) ∙ sym (get_or-replicate v i 0 0 (omega (arith, h, l))))

  abbrev ms : List ℕ
  ms = map (weight []) ds

  lm : length ms ≡ length ds
  lm = length-map ds (weight [])

  weights-drop : drop (7 * v) w ≡ ms ++ drop (7 * v + length ds) w
  weights-drop =
      ext_get_or 0 (drop (7 * v) w) (ms ++ drop (7 * v + length ds) w)
      (omega (arith, length-drop (7 * v) w, length-append ms (drop (7 * v + length ds) w), length-drop (7 * v + length ds) w, lm, f.size, all))
      (λ i h. get_or-drop (7 * v) w i 0 ∙ by i (ltb i (length ds)) refl)
    where
      by : (i : ℕ) → (k : Bool) → ltb i (length ds) ≡ k → get_or w (7 * v + i) 0 ≡ get_or (ms ++ drop (7 * v + length ds) w) i 0
      by i true k =
          let h = ltb-true i (length ds) k in
          f.weights i h ∙ sym (get_or-map (weight []) ds i []) ∙ sym (get_or-append ms (drop (7 * v + length ds) w) 0 i (omega (arith, h, lm)))
      by i false k =
          let j = i - length ds in
          let e : i ≡ length ms + j = omega (arith, ltb-false i (length ds) k, lm) in
          let e' : 7 * v + length ds + j ≡ 7 * v + i = omega (arith, ltb-false i (length ds) k) in
          sym (ap (λ (n : ℕ). get_or (ms ++ drop (7 * v + length ds) w) n 0) e ∙ get_or-append-add ms (drop (7 * v + length ds) w) j 0 ∙ get_or-drop (7 * v + length ds) w j 0 ∙ ap (λ (n : ℕ). get_or w n 0) e')

  pub filled-held : WorkHeld v ds 0 0 w
  filled-held =
      record {
        small = f.small;
        clauses = f.clauses;
        room = omega (arith, f.size, all);
        head-len = omega arith;
        len-v = omega arith;
        gives = values-zero;
        fresh = tt;
        weights = sym (take-append-drop (7 * v) w) ∙ ap (λ (l : List ℕ). take (7 * v) w ++ l) weights-drop;
        blocks = λ x h. record { after = omega (arith, f.after x h, all); ordered = f.ordered x h; within = omega (arith, f.within x h, f.room x h); holds = f.holds x h };
      }
