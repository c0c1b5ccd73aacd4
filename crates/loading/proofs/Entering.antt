-- One more literal in the last clause.
use mathlib.Core.Path.{◌≡◌, refl, sym, ap, ◌∙◌, subst⁻¹}
use mathlib.Core.Bool.{Bool, true, false, cond, ◌||◌}
use mathlib.Core.List.{append-nil, List, [], ◌∷◌, ◌++◌}
use Prim.Native.Nat.{ℕ, suc, ◌+◌, ◌*◌, ◌≤◌, ◌<◌}
use native.Mathlib.Numerals.{add-one}
use native.Mathlib.Omega.{arith}
use borrow.Author.Tests.{eqb-true, eqb-false, eq-eqb, ne_eqb, ltb-true, ltb-false}
use lib.Dec.{eqb, ltb}
use lib.ListN.{length, get_or, set, take, drop, length-set, length-append, get_or-append}
use lib.Seq.{slice, length-slice, length-take-le, take-suc, drop-append-le, ext_get_or, get_or-set_same, get_or-set_other, get_or-append_seam}
use Rattle.theory.specs.Lists.{elem}
use Rattle.propagation.specs.Clauses.{All, weight, holders}
use Rattle.propagation.specs.WorkArea.{ShortClause}
use Rattle.propagation.proofs.Frames.{get_d-slice}
use Rattle.loading.specs.Filling.{from, to, occurrences, Filling, entered}

slice_range : (f t : ℕ) (w w' : List ℕ) → length w' ≡ length w → t ≤ length w → ((i : ℕ) → f ≤ i → i < t → get_or w' i 0 ≡ get_or w i 0)
    → slice f t w' ≡ slice f t w
slice_range f t w w' l h same =
    let a = length-slice f t w h in
    let b = length-slice f t w' (omega (arith, l)) in
    ext_get_or 0 (slice f t w') (slice f t w) (b ∙ sym a)
    (λ i k. get_d-slice f t w' i (omega (arith, b)) ∙ same (f + i) (omega arith) (omega (arith, b)) ∙ sym (get_d-slice f t w i (omega (arith, b))))

slice_snoc : (f t : ℕ) (w : List ℕ) → f ≤ t → t < length w → slice f (t + 1) w ≡ slice f t w ++ (get_or w t 0 ∷ [])
slice_snoc f t w h l =
    ap (λ (n : ℕ). drop f (take n w)) (add-one t)
    ∙ ap (drop f) (take-suc w t 0 l)
    ∙ drop-append-le f (take t w) (get_or w t 0 ∷ []) (omega (arith, length-take-le t w (omega arith)))

-- the last clause's address is last, where it has x
pub holders-snoc : (x : ℕ) (es : List (List ℕ)) (d : List ℕ) (a : ℕ)
    → holders a x (es ++ (d ∷ [])) ≡ holders a x es ++ cond (elem x d) ((a + length es) ∷ []) []
holders-snoc x [] d a = by (elem x d)
  where
    by : (b : Bool) → cond b (a ∷ []) [] ≡ cond b ((a + 0) ∷ []) []
    by true = let e : a ≡ a + 0 = omega arith in ap (λ (n : ℕ). n ∷ []) e
    by false = refl
holders-snoc x (e ∷ es) d a = by (holders-snoc x es d (suc a)) (elem x e)
  where
    shift : suc a + length es ≡ a + suc (length es)
    shift = omega arith

    by : holders (suc a) x (es ++ (d ∷ [])) ≡ holders (suc a) x es ++ cond (elem x d) ((suc a + length es) ∷ []) [] → (b : Bool)
        → cond b (a ∷ holders (suc a) x (es ++ (d ∷ []))) (holders (suc a) x (es ++ (d ∷ []))) ≡ cond b (a ∷ holders (suc a) x es) (holders (suc a) x es) ++ cond (elem x d) ((a + suc (length es)) ∷ []) []
    by again true = ap (λ (l : List ℕ). a ∷ l) (again ∙ ap (λ (n : ℕ). holders (suc a) x es ++ cond (elem x d) (n ∷ []) []) shift)
    by again false = again ∙ ap (λ (n : ℕ). holders (suc a) x es ++ cond (elem x d) (n ∷ []) []) shift

all-init : (P : List ℕ → Type 0) (es : List (List ℕ)) (d : List ℕ) → All P (es ++ (d ∷ [])) → All P es
all-init P [] d a = tt
all-init P (e ∷ es) d a = (a.0, all-init P es d a.1)

pub all-last : (P : List ℕ → Type 0) (es : List (List ℕ)) (d : List ℕ) → All P (es ++ (d ∷ [])) → P d
all-last P [] d a = a.0
all-last P (e ∷ es) d a = all-last P es d a.1

pub all_snoc : (P : List ℕ → Type 0) (es : List (List ℕ)) (d : List ℕ) → All P es → P d → All P (es ++ (d ∷ []))
all_snoc P [] d a p = (p, tt)
all_snoc P (e ∷ es) d a p = (a.0, all_snoc P es d a.1 p)

module _ (v : ℕ) (cs es : List (List ℕ)) (d w : List ℕ) (fill : Filling v cs (es ++ (d ∷ [])) w) (u : ℕ) (is : u < 2 * v) (new : elem u d ≡ false)
    (space : to v u w < from v u w + occurrences u cs) (clause : ShortClause v (u ∷ d)) where
  abbrev m : ℕ
  m = length cs

  abbrev lim : ℕ → ℕ
  lim x = from v x w + occurrences x cs

  abbrev c : ℕ
  c = 7 * v + length es

  abbrev t : ℕ
  t = to v u w

  abbrev w₁ : List ℕ
  w₁ = set w t c

  abbrev w₂ : List ℕ
  w₂ = set w₁ (2 * v + 2 * u + 1) (t + 1)

  abbrev w₃ : List ℕ
  w₃ = entered v u c w

  many : length (es ++ (d ∷ [])) ≡ length es + 1
  many = length-append es (d ∷ [])

  many' : length (es ++ ((u ∷ d) ∷ [])) ≡ length es + 1
  many' = length-append es ((u ∷ d) ∷ [])

  c-in : c < 7 * v + m
  c-in = omega (arith, many, fill.count)

  t-in : 7 * v + m ≤ t
  t-in = omega (arith, fill.after u is, fill.ordered u is)

  long : length w₃ ≡ length w
  long = simp length-set

  -- elsewhere all is as it was
  other : (j : ℕ) → (j ≡ t → ⊥) → (j ≡ 2 * v + 2 * u + 1 → ⊥) → (j ≡ c → ⊥) → get_or w₃ j 0 ≡ get_or w j 0
  other j a b e =
      get_or-set_other w₂ c j (get_or w c 0 + 64 * u + 1) 0 e
      ∙ get_or-set_other w₁ (2 * v + 2 * u + 1) j (t + 1) 0 b
      ∙ get_or-set_other w t j c 0 a

  at-t : get_or w₃ t 0 ≡ c
  at-t =
      get_or-set_other w₂ c t (get_or w c 0 + 64 * u + 1) 0 (λ e. omega (arith, e, c-in, t-in))
      ∙ get_or-set_other w₁ (2 * v + 2 * u + 1) t (t + 1) 0 (λ e. omega (arith, e, t-in, is))
      ∙ get_or-set_same w t c 0 (omega (arith, space, fill.room u is))

  at-end : to v u w₃ ≡ t + 1
  at-end =
      get_or-set_other w₂ c (2 * v + 2 * u + 1) (get_or w c 0 + 64 * u + 1) 0 (λ e. omega (arith, e, is))
      ∙ get_or-set_same w₁ (2 * v + 2 * u + 1) (t + 1) 0 (simp length-set (omega (arith, fill.size, is)))

  at_c : get_or w₃ c 0 ≡ get_or w c 0 + 64 * u + 1
  at_c = get_or-set_same w₂ c (get_or w c 0 + 64 * u + 1) 0 (simp length-set (omega (arith, c-in, fill.size)))

  from-same : (x : ℕ) → x < 2 * v → from v x w₃ ≡ from v x w
  from-same x h = other (2 * v + 2 * x) (λ e. omega (arith, e, t-in, h)) (λ e. omega (arith, e)) (λ e. omega (arith, e, h))

  to_same : (x : ℕ) → x < 2 * v → (x ≡ u → ⊥) → to v x w₃ ≡ to v x w
  to_same x h n = other (2 * v + 2 * x + 1) (λ e. omega (arith, e, t-in, h)) (λ e. omega (arith, e, n)) (λ e. omega (arith, e, h))

  weight-same : (i : ℕ) → i < m → (i ≡ length es → ⊥) → get_or w₃ (7 * v + i) 0 ≡ get_or w (7 * v + i) 0
  weight-same i h n = other (7 * v + i) (λ e. omega (arith, e, t-in, h)) (λ e. omega (arith, e, is)) (λ e. omega (arith, e, n))

  old : (i : ℕ) (k : List ℕ) → i < length es → get_or (es ++ (k ∷ [])) i [] ≡ get_or es i []
  old i k h = get_or-append es (k ∷ []) [] i h

  last : (k : List ℕ) → get_or (es ++ (k ∷ [])) (length es) [] ≡ k
  last k = get_or-append_seam es k [] []

  weights' : (i : ℕ) → i < length (es ++ ((u ∷ d) ∷ [])) → (b : Bool) → eqb i (length es) ≡ b
      → get_or w₃ (7 * v + i) 0 ≡ weight [] (get_or (es ++ ((u ∷ d) ∷ [])) i [])
  weights' i h true e =
      let same = eqb-true i (length es) e in
      let o : get_or w c 0 ≡ weight [] d = fill.weights (length es) (omega (arith, many)) ∙ ap (weight []) (last d) in
      ap (λ (n : ℕ). get_or w₃ (7 * v + n) 0) same
      ∙ at_c
      ∙ omega (arith, o)
      ∙ ap (weight []) (sym (last (u ∷ d)))
      ∙ ap (λ (n : ℕ). weight [] (get_or (es ++ ((u ∷ d) ∷ [])) n [])) (sym same)
  weights' i h false e =
      let n = eqb-false i (length es) e in
      let k : i < length es = omega (arith, n, h, many') in
      weight-same i (omega (arith, k, c-in)) n
      ∙ fill.weights i (omega (arith, k, many))
      ∙ ap (weight []) (old i d k ∙ sym (old i (u ∷ d) k))

  has_same : (x : ℕ) → (x ≡ u → ⊥) → elem x (u ∷ d) ≡ elem x d
  has_same x n = rw (ne_eqb x u n) refl

  -- the other blocks do not hold the place t
  not_t : (x : ℕ) → x < 2 * v → (x ≡ u → ⊥) → (i : ℕ) → from v x w ≤ i → i < to v x w → i ≡ t → ⊥
  not_t x h n i a b e = by (ltb x u) refl
    where
      by : (k : Bool) → ltb x u ≡ k → ⊥
      by true q = omega (arith, fill.within x h, fill.apart x u (ltb-true x u q) is, fill.ordered u is, a, b, e)
      by false q = omega (arith, fill.apart u x (omega (arith, ltb-false x u q, n)) h, space, a, b, e)

  own : slice (from v u w₃) (to v u w₃) w₃ ≡ holders (7 * v) u (es ++ ((u ∷ d) ∷ []))
  own =
      let part : slice (from v u w) t w₃ ≡ holders (7 * v) u es =
      slice_range (from v u w) t w w₃ long (omega (arith, space, fill.room u is))
      (λ i a b. other i (λ z. omega (arith, z, b)) (λ z. omega (arith, z, a, fill.after u is, is)) (λ z. omega (arith, z, a, fill.after u is, c-in)))
      ∙ fill.holds u is
      ∙ holders-snoc u es d (7 * v)
      ∙ ap (λ (b : Bool). holders (7 * v) u es ++ cond b ((7 * v + length es) ∷ []) []) new
      ∙ append-nil (holders (7 * v) u es) in
      ap (λ (k : ℕ). slice k (to v u w₃) w₃) (from-same u is)
      ∙ ap (λ (k : ℕ). slice (from v u w) k w₃) at-end
      ∙ slice_snoc (from v u w) t w₃ (fill.ordered u is) (omega (arith, long, space, fill.room u is))
      ∙ ap (λ (k : ℕ). slice (from v u w) t w₃ ++ (k ∷ [])) at-t
      ∙ ap (λ (l : List ℕ). l ++ (c ∷ [])) part
      ∙ ap (λ (b : Bool). holders (7 * v) u es ++ cond (b || elem u d) ((7 * v + length es) ∷ []) []) (sym (eq-eqb u u refl))
      ∙ sym (holders-snoc u es (u ∷ d) (7 * v))

  holds' : (x : ℕ) → x < 2 * v → (b : Bool) → eqb x u ≡ b → slice (from v x w₃) (to v x w₃) w₃ ≡ holders (7 * v) x (es ++ ((u ∷ d) ∷ []))
  holds' x h true e = subst⁻¹ (λ (y : ℕ). slice (from v y w₃) (to v y w₃) w₃ ≡ holders (7 * v) y (es ++ ((u ∷ d) ∷ []))) (eqb-true x u e) own
  holds' x h false e =
      let n = eqb-false x u e in
      ap (λ (k : ℕ). slice k (to v x w₃) w₃) (from-same x h)
      ∙ ap (λ (k : ℕ). slice (from v x w) k w₃) (to_same x h n)
      ∙ slice_range (from v x w) (to v x w) w w₃ long (omega (arith, fill.within x h, fill.room x h))
      (λ i a b. other i (not_t x h n i a b) (λ z. omega (arith, z, a, fill.after x h, is)) (λ z. omega (arith, z, a, fill.after x h, c-in)))
      ∙ fill.holds x h
      ∙ holders-snoc x es d (7 * v)
      ∙ ap (λ (b : Bool). holders (7 * v) x es ++ cond b ((7 * v + length es) ∷ []) []) (sym (has_same x n))
      ∙ sym (holders-snoc x es (u ∷ d) (7 * v))

  to-within : (x : ℕ) → x < 2 * v → (b : Bool) → eqb x u ≡ b → (from v x w₃ ≤ to v x w₃) × (to v x w₃ ≤ from v x w₃ + occurrences x cs)
  to-within x h true e =
      subst⁻¹ (λ (y : ℕ). (from v y w₃ ≤ to v y w₃) × (to v y w₃ ≤ from v y w₃ + occurrences y cs)) (eqb-true x u e)
      (omega (arith, at-end, from-same u is, fill.ordered u is), omega (arith, at-end, space, from-same u is))
  to-within x h false e =
      let q = to_same x h (eqb-false x u e) in
      (omega (arith, q, from-same x h, fill.ordered x h), omega (arith, q, fill.within x h, from-same x h))

  -- the last clause has one literal more
  pub entered-filling : Filling v cs (es ++ ((u ∷ d) ∷ [])) w₃
  entered-filling =
      record {
        small = fill.small;
        clauses = all_snoc (ShortClause v) es (u ∷ d) (all-init (ShortClause v) es d fill.clauses) clause;
        size = omega (arith, fill.size, long);
        count = omega (arith, fill.count, many, many');
        values = λ i h. other i (λ e. omega (arith, e, t-in, h)) (λ e. omega (arith, e, h)) (λ e. omega (arith, e, h)) ∙ fill.values i h;
        weights = λ i h. weights' i h (eqb i (length es)) refl;
        zeros = λ i a b. weight-same i b (λ e. omega (arith, e, a, many')) ∙ fill.zeros i (omega (arith, a, many, many')) b;
        after = λ x h. omega (arith, from-same x h, fill.after x h);
        ordered = λ x h. (to-within x h (eqb x u) refl).0;
        within = λ x h. (to-within x h (eqb x u) refl).1;
        room = λ x h. omega (arith, fill.room x h, long, from-same x h);
        inner = λ x h. omega (arith, fill.inner x h, from-same x h);
        apart = λ x y k h. omega (arith, fill.apart x y k h, from-same x (omega arith), from-same y h);
        holds = λ x h. holds' x h (eqb x u) refl;
        rest = λ i h.
            other i (λ e. omega (arith, e, h, space, fill.inner u is)) (λ e. omega (arith, e, h, is)) (λ e. omega (arith, e, h, c-in)) ∙ fill.rest i h;
      }
