-- Rearrangements: nothing comes from two things, everything comes from one; so they compose and have a reverse.
use Prim.Native.Nat.{ℕ, zero, suc, ◌+◌, ◌<◌}
use mathlib.Core.Path.{◌≡◌, refl, sym, ap, ◌∙◌, fun_ext}
use mathlib.Core.Logic.{◌⊎◌, inl, inr, ◌≢◌}
use mathlib.Core.Bool.{Bool, true, false, cond, not, ◌&&◌, ◌||◌}
use mathlib.Core.List.{List, [], ◌∷◌, ◌++◌, map, map-map, append_assoc, append-nil}
use native.Mathlib.Nat.{zero-add}
use native.Mathlib.Omega.{arith}
use lib.Dec.{eqb, ltb}
use lib.ListN.{length, length-append, length-map, get_or-append}
use lib.Seq.{ext_get_or, get_or-append_seam}
use Rattle.theory.specs.Lists.{all, elem, select, concat_map, remove, distinct, up_from, up_to}
use Rattle.theory.specs.Vectors.{vectors}
use Rattle.theory.proofs.Tests.{true-or-false, both_false, and_left, and_right, and-join, eqb-true, eqb-of-≡, ltb-true, ltb-of-<, eqb-sym, not-true, false_of_not, or-false-left, or-false-right, or-false-join}
use Rattle.theory.proofs.Lists.{all_append, all-every, elem-append, select-append, select-map, select-none, map-concat_map, all-up_to, up_to-all, length-up_from, get_d-up_from, get_d_map}
use Rattle.theory.proofs.Distinct.{once, remove-none, length-distinct}
use Rattle.renumbering.specs.Rearrangements.{is_rearrangement, becomes, comes_from, unchanged, composed, reversed, rearrangements as all-rearrangements, continued}
use Rattle.renumbering.specs.Claims.Renumbering as claims
use Rattle.renumbering.proofs.Places.{place_found, elem_at, without, length_without, elem-without, covers-length}

-- what the test says
pub record Rearranged (s : ℕ) (p : List ℕ) : Type 0 where
  pub sized : length p ≡ s
  pub below : (d : ℕ) → d < s → becomes p d < s
  pub from_below : (e : ℕ) → e < s → comes_from p e < s
  pub there : (e : ℕ) → e < s → becomes p (comes_from p e) ≡ e
  pub back : (d : ℕ) → d < s → comes_from p (becomes p d) ≡ d

module _ (s : ℕ) where
  -- an entry that is too large, or stands at two places, could be left out
  distinct-entry : (p : List ℕ) → length p ≡ s → ((e : ℕ) → e < s → elem e p ≡ true) → (d : ℕ) → d < s → (ltb (becomes p d) s && eqb (comes_from p (becomes p d)) d) ≡ true
  distinct-entry p l c d h = go (true-or-false (ltb (becomes p d) s && eqb (comes_from p (becomes p d)) d))
    where
      covered : (ltb (becomes p d) s && eqb (comes_from p (becomes p d)) d) ≡ false → (e : ℕ) → e < s → elem e (without d p) ≡ true
      covered f e k =
          let r = place_found p e (c e k) in
          let n : comes_from p e ≢ d =
          λ z. let b : becomes p d ≡ e = ap (becomes p) (sym z) ∙ r.1 in
          both_false (and-join (ltb (becomes p d) s) (eqb (comes_from p (becomes p d)) d) (ltb-of-< (becomes p d) s (omega arith))
          (eqb-of-≡ (comes_from p (becomes p d)) d (ap (comes_from p) b ∙ z))) f in
          ap (λ (x : ℕ). elem x (without d p)) (sym r.1) ∙ elem-without d (comes_from p e) p r.0 n

      go : ((ltb (becomes p d) s && eqb (comes_from p (becomes p d)) d) ≡ true) ⊎ ((ltb (becomes p d) s && eqb (comes_from p (becomes p d)) d) ≡ false)
          → (ltb (becomes p d) s && eqb (comes_from p (becomes p d)) d) ≡ true
      go (inl t) = t
      go (inr f) = absurd (omega (arith, covers-length s (without d p) (covered f), length_without d p (omega arith)))

  pub is_rearrangement→ : (p : List ℕ) → is_rearrangement s p ≡ true → Rearranged s p
  unfolding is_rearrangement
  is_rearrangement→ p h =
      let l : length p ≡ s = eqb-true (length p) s (and_left (eqb (length p) s) (all (λ d. elem d p) (up_to s)) h) in
      let c : (e : ℕ) → e < s → elem e p ≡ true = all-up_to (λ d. elem d p) s (and_right (eqb (length p) s) (all (λ d. elem d p) (up_to s)) h) in
      record {
        sized = l;
        below = λ d k. ltb-true (becomes p d) s (and_left (ltb (becomes p d) s) (eqb (comes_from p (becomes p d)) d) (distinct-entry p l c d k));
        from_below = λ e k. omega (arith, (place_found p e (c e k)).0);
        there = λ e k. (place_found p e (c e k)).1;
        back = λ d k. eqb-true (comes_from p (becomes p d)) d (and_right (ltb (becomes p d) s) (eqb (comes_from p (becomes p d)) d) (distinct-entry p l c d k));
      }

  -- enough for the test: s entries, and each number is the entry of some place
  pub is_rearrangement← : (p : List ℕ) (f : ℕ → ℕ) → length p ≡ s → ((e : ℕ) → e < s → (f e < s) × (becomes p (f e) ≡ e)) → is_rearrangement s p ≡ true
  unfolding is_rearrangement
  is_rearrangement← p f l h =
      and-join (eqb (length p) s) (all (λ d. elem d p) (up_to s)) (eqb-of-≡ (length p) s l)
      (up_to-all (λ d. elem d p) s (λ e k. let r = h e k in ap (λ (x : ℕ). elem x p) (sym r.1) ∙ elem_at p (f e) (omega (arith, r.0))))

  pub unchanged-at : (d : ℕ) → d < s → becomes (unchanged s) d ≡ d
  unchanged-at d h = get_d-up_from 0 s d h ∙ zero-add d

  pub composed-at : (p q : List ℕ) → Rearranged s p → (d : ℕ) → d < s → becomes (composed p q) d ≡ becomes q (becomes p d)
  composed-at p q r d h = get_d_map (becomes q) p d (omega (arith, r.sized))

  length-reversed : (p : List ℕ) → length (reversed s p) ≡ s
  length-reversed p = length-map (up_to s) (comes_from p) ∙ length-up_from 0 s

  pub reversed-at : (p : List ℕ) (e : ℕ) → e < s → becomes (reversed s p) e ≡ comes_from p e
  reversed-at p e h = get_d_map (comes_from p) (up_to s) e (omega (arith, length-up_from 0 s)) ∙ ap (comes_from p) (unchanged-at e h)

  pub unchanged-is : is_rearrangement s (unchanged s) ≡ true
  unchanged-is = is_rearrangement← (unchanged s) (λ e. e) (length-up_from 0 s) (λ e k. (k, unchanged-at e k))

  pub composed-is : (p q : List ℕ) → is_rearrangement s p ≡ true → is_rearrangement s q ≡ true → is_rearrangement s (composed p q) ≡ true
  composed-is p q h k =
      let a = is_rearrangement→ p h in
      let b = is_rearrangement→ q k in
      is_rearrangement← (composed p q) (λ e. comes_from p (comes_from q e)) (length-map p (becomes q) ∙ a.sized)
      (λ e l. let m : comes_from q e < s = b.from_below e l in
      (a.from_below (comes_from q e) m, composed-at p q a (comes_from p (comes_from q e)) (a.from_below (comes_from q e) m) ∙ ap (becomes q) (a.there (comes_from q e) m) ∙ b.there e l))

  pub reversed-is : (p : List ℕ) → is_rearrangement s p ≡ true → is_rearrangement s (reversed s p) ≡ true
  reversed-is p h =
      let a = is_rearrangement→ p h in
      is_rearrangement← (reversed s p) (becomes p) (length-reversed p) (λ d l. (a.below d l, reversed-at p (becomes p d) (a.below d l) ∙ a.back d l))

  there_and_back : (p : List ℕ) → is_rearrangement s p ≡ true → composed p (reversed s p) ≡ unchanged s
  there_and_back p h =
      let a = is_rearrangement→ p h in
      let l : length (composed p (reversed s p)) ≡ s = length-map p (becomes (reversed s p)) ∙ a.sized in
      ext_get_or 0 (composed p (reversed s p)) (unchanged s) (l ∙ sym (length-up_from 0 s))
      (λ d k. let m : d < s = omega arith in
      composed-at p (reversed s p) a d m ∙ reversed-at p (becomes p d) (a.below d m) ∙ a.back d m ∙ sym (unchanged-at d m))

  back-and-there : (p : List ℕ) → is_rearrangement s p ≡ true → composed (reversed s p) p ≡ unchanged s
  back-and-there p h =
      let a = is_rearrangement→ p h in
      let b = is_rearrangement→ (reversed s p) (reversed-is p h) in
      let l : length (composed (reversed s p) p) ≡ s = length-map (reversed s p) (becomes p) ∙ length-reversed p in
      ext_get_or 0 (composed (reversed s p) p) (unchanged s) (l ∙ sym (length-up_from 0 s))
      (λ d k. let m : d < s = omega arith in
      composed-at (reversed s p) p b d m ∙ ap (becomes p) (reversed-at p d m) ∙ a.there d m ∙ sym (unchanged-at d m))

  -- what comes from where, after a composition and a reverse
  pub from-unchanged : (e : ℕ) → e < s → comes_from (unchanged s) e ≡ e
  from-unchanged e h = let a = is_rearrangement→ (unchanged s) unchanged-is in ap (comes_from (unchanged s)) (sym (unchanged-at e h)) ∙ a.back e h

  pub from-composed : (p q : List ℕ) → is_rearrangement s p ≡ true → is_rearrangement s q ≡ true → (e : ℕ) → e < s → comes_from (composed p q) e ≡ comes_from p (comes_from q e)
  from-composed p q h k e l =
      let a = is_rearrangement→ p h in
      let b = is_rearrangement→ q k in
      let c = is_rearrangement→ (composed p q) (composed-is p q h k) in
      let d : ℕ = comes_from p (comes_from q e) in
      let m : d < s = a.from_below (comes_from q e) (b.from_below e l) in
      let t : becomes (composed p q) d ≡ e = composed-at p q a d m ∙ ap (becomes q) (a.there (comes_from q e) (b.from_below e l)) ∙ b.there e l in
      ap (comes_from (composed p q)) (sym t) ∙ c.back d m

-- One entry at a time.
once-distinct : (xs : List ℕ) → once xs ≡ true → distinct xs ≡ xs
once-distinct [] h = refl
once-distinct (x ∷ xs) h =
    ap (λ (l : List ℕ). x ∷ remove x l) (once-distinct xs (and_right (not (elem x xs)) (once xs) h))
    ∙ ap (λ (l : List ℕ). x ∷ l) (remove-none x xs (false_of_not (elem x xs) (and_left (not (elem x xs)) (once xs) h)))

once_more : (x : ℕ) (xs : List ℕ) → once xs ≡ true → elem x xs ≡ false → once (xs ++ (x ∷ [])) ≡ true
once_more x [] h k = refl
once_more x (y ∷ xs) h k =
    let n : elem y (xs ++ (x ∷ [])) ≡ false =
    elem-append y xs (x ∷ [])
    ∙ or-false-join (elem y xs) (eqb y x || false) (false_of_not (elem y xs) (and_left (not (elem y xs)) (once xs) h))
    (or-false-join (eqb y x) false (eqb-sym y x ∙ or-false-left (eqb x y) (elem x xs) k) refl) in
    and-join (not (elem y (xs ++ (x ∷ [])))) (once (xs ++ (x ∷ []))) (ap not n) (once_more x xs (and_right (not (elem y xs)) (once xs) h) (or-false-right (eqb x y) (elem x xs) k))

select-concat_map : {A B : Type 0} (q : B → Bool) (f : A → List B) (xs : List A) → select q (concat_map f xs) ≡ concat_map (λ x. select q (f x)) xs
select-concat_map q f [] = refl
select-concat_map {B = B} q f (x ∷ xs) = select-append q (f x) (concat_map f xs) ∙ ap (λ (l : List B). select q (f x) ++ l) (select-concat_map q f xs)

concat_map-up_from : {B : Type 0} (f h : ℕ → List B) (a n : ℕ) → ((i : ℕ) → i < a + n → f i ≡ h i) → concat_map f (up_from a n) ≡ concat_map h (up_from a n)
concat_map-up_from f h a zero e = refl
concat_map-up_from {B = B} f h a (suc n) e =
    ap (λ (l : List B). l ++ concat_map f (up_from (suc a) n)) (e a (omega arith)) ∙ ap (λ (l : List B). h a ++ l) (concat_map-up_from f h (suc a) n (λ i k. e i (omega arith)))

module _ (s : ℕ) where
  -- s different numbers below s are a rearrangement
  once_is : (p : List ℕ) → length p ≡ s → all (λ d. ltb d s) p ≡ true → once p ≡ true → is_rearrangement s p ≡ true
  unfolding is_rearrangement
  once_is p l b o =
      and-join (eqb (length p) s) (all (λ d. elem d p) (up_to s)) (eqb-of-≡ (length p) s l) (up_to-all (λ d. elem d p) s (λ d k. go d k (true-or-false (elem d p))))
    where
      go : (d : ℕ) → d < s → (elem d p ≡ true) ⊎ (elem d p ≡ false) → elem d p ≡ true
      go d k (inl t) = t
      go d k (inr f) =
          let e : distinct (d ∷ p) ≡ d ∷ p = once-distinct (d ∷ p) (and-join (not (elem d p)) (once p) (ap not f) o) in
          absurd (omega (arith, length-distinct s (d ∷ p) (and-join (ltb d s) (all (λ d. ltb d s) p) (ltb-of-< d s k) b), ap length e))

  -- a number that stands twice
  twice-is-not : (p : List ℕ) (d : ℕ) (w : List ℕ) → length p < s → elem d p ≡ true → is_rearrangement s (p ++ (d ∷ w)) ≡ false
  twice-is-not p d w l h = not-true (is_rearrangement s (p ++ (d ∷ w))) (λ t.
      let r = is_rearrangement→ s (p ++ (d ∷ w)) t in
      let f = place_found p d h in
      let i : ℕ = comes_from p d in
      let a : becomes (p ++ (d ∷ w)) i ≡ d = get_or-append p (d ∷ w) 0 i f.0 ∙ f.1 in
      let b : becomes (p ++ (d ∷ w)) (length p) ≡ d = get_or-append_seam p d w 0 in
      let e : i ≡ length p = sym (r.back i (omega (arith, f.0))) ∙ ap (comes_from (p ++ (d ∷ w))) (a ∙ sym b) ∙ r.back (length p) l in
      omega (arith, f.0))

  continues : (k : ℕ) (p : List ℕ) → length p + k ≡ s → all (λ d. ltb d s) p ≡ true → once p ≡ true
      → map (λ w. p ++ w) (select (λ w. is_rearrangement s (p ++ w)) (vectors s k)) ≡ continued s k p
  continues zero p l b o =
      ap (λ (q : List ℕ). map (λ w. p ++ w) (cond (is_rearrangement s q) ([] ∷ []) [])) (append-nil p)
      ∙ ap (λ (t : Bool). map (λ w. p ++ w) (cond t ([] ∷ []) [])) (once_is p (omega arith) b o)
      ∙ ap (λ (q : List ℕ). q ∷ []) (append-nil p)
  continues (suc k) p l b o =
      let q : List ℕ → Bool = λ w. is_rearrangement s (p ++ w) in
      let row : ℕ → List (List ℕ) = λ d. map (λ v. d ∷ v) (vectors s k) in
      ap (map (λ w. p ++ w)) (select-concat_map q row (up_to s))
      ∙ map-concat_map (λ w. p ++ w) (λ d. select q (row d)) (up_to s)
      ∙ concat_map-up_from (λ d. map (λ w. p ++ w) (select q (row d))) (λ d. cond (elem d p) [] (continued s k (p ++ (d ∷ [])))) 0 s
      (λ d lt.
      ap (map (λ w. p ++ w)) (select-map q (λ v. d ∷ v) (vectors s k))
      ∙ map-map (λ w. p ++ w) (λ v. d ∷ v) (select (λ v. q (d ∷ v)) (vectors s k))
      ∙ go d (elem d p) refl
      (λ n. continues k (p ++ (d ∷ [])) (ap (λ (m : ℕ). m + k) (length-append p (d ∷ [])) ∙ omega arith)
      (all_append (λ d. ltb d s) p (d ∷ []) ∙ and-join (all (λ d. ltb d s) p) (ltb d s && true) b (and-join (ltb d s) true (ltb-of-< d s (omega arith)) refl))
      (once_more d p o n)))
    where
      go : (d : ℕ) (t : Bool) → elem d p ≡ t
          → (elem d p ≡ false → map (λ w. (p ++ (d ∷ [])) ++ w) (select (λ w. is_rearrangement s ((p ++ (d ∷ [])) ++ w)) (vectors s k)) ≡ continued s k (p ++ (d ∷ [])))
          → map (λ v. p ++ (d ∷ v)) (select (λ v. is_rearrangement s (p ++ (d ∷ v))) (vectors s k)) ≡ cond t [] (continued s k (p ++ (d ∷ [])))
      go d true e ih =
          ap (map (λ v. p ++ (d ∷ v)))
          (select-none (λ v. is_rearrangement s (p ++ (d ∷ v))) (vectors s k)
          (all-every (λ v. not (is_rearrangement s (p ++ (d ∷ v)))) (vectors s k) (λ v. ap not (twice-is-not p d v (omega arith) e))))
      go d false e ih =
          let h : ◌≡◌ {A = List ℕ → List ℕ} (λ v. p ++ (d ∷ v)) (λ v. (p ++ (d ∷ [])) ++ v) = fun_ext (λ v. sym (append_assoc p (d ∷ []) v)) in
          ap (λ (j : List ℕ → List ℕ). map j (select (λ v. is_rearrangement s (j v)) (vectors s k))) h ∙ ih e

  pub one_by_one : all-rearrangements s ≡ continued s s []
  unfolding all-rearrangements
  one_by_one = sym (map-itself (select (is_rearrangement s) (vectors s s))) ∙ continues s [] (zero-add s) refl refl
    where
      map-itself : (ps : List (List ℕ)) → map (λ w. w) ps ≡ ps
      map-itself [] = refl
      map-itself (p ∷ ps) = ap (λ l. p ∷ l) (map-itself ps)

pub rearrangements : (s : ℕ) → claims.Rearrangements s
rearrangements s =
    record { unchanged_is = unchanged-is s; composed_is = composed-is s; reversed_is = reversed-is s; there_and_back = there_and_back s; back_and_there = back-and-there s; one_by_one = one_by_one s }
