-- Telling first values; the clauses are as they were.
use mathlib.Core.Path.{◌≡◌, refl, sym, ap, ◌∙◌}
use mathlib.Core.Bool.{Bool, true, false, cond}
use mathlib.Core.List.{List, ◌++◌}
use Prim.Native.Nat.{ℕ, ◌+◌, ◌-◌, ◌*◌, ◌≤◌, ◌<◌}
use native.Mathlib.Omega.{arith}
use borrow.Rule.Slice.PartMut.{put_mid, post_of}
use lib.Dec.{ltb}
use lib.ListN.{length, get_or, take, drop, replicate, length-append, length-replicate, length-drop, get_or-append}
use lib.Seq.{length-take-le, get_or-take, get_or-drop, get_or-append-add}
use Rattle.std.proofs.lemmas.List.{get_or-replicate}
use Rattle.std.proofs.lemmas.Slice.{drop-put_mid}
use Rattle.theory.proofs.Tests.{ltb-true, ltb-false}
use Rattle.propagation.proofs.Frames.{slice-agree}
use Rattle.loading.specs.Filling.{from, to, Filling}
use Rattle.loading.specs.Loading.{PrefersMore}

-- from w to w', nothing changes but first values
pub record Told (v : ℕ) (w w' : List ℕ) : Type 0 where
  pub long : length w' ≡ length w
  pub before : (i : ℕ) → i < 6 * v → get_or w' i 0 ≡ get_or w i 0
  pub behind : (i : ℕ) → 7 * v ≤ i → get_or w' i 0 ≡ get_or w i 0

pub told-filling : (v : ℕ) (cs ds : List (List ℕ)) (w w' : List ℕ) → Told v w w' → Filling v cs ds w → Filling v cs ds w'
told-filling v cs ds w w' t f =
    record {
      small = f.small;
      clauses = f.clauses;
      size = rw t.long f.size;
      count = f.count;
      values = λ i h. t.before i (omega arith) ∙ f.values i h;
      weights = λ i h. t.behind (7 * v + i) (omega arith) ∙ f.weights i h;
      zeros = λ i h k. t.behind (7 * v + i) (omega arith) ∙ f.zeros i h k;
      after = λ x h. rw (starts x h) (f.after x h);
      ordered = λ x h. rw (starts x h, ends x h) (f.ordered x h);
      within = λ x h. rw (starts x h, ends x h) (f.within x h);
      room = λ x h. rw (starts x h, t.long) (f.room x h);
      inner = λ x h. rw (starts x h) (f.inner x h);
      apart = λ x y h k. rw (starts x (omega arith), starts y k) (f.apart x y h k);
      holds = λ x h.
          rw (starts x h, ends x h)
          (slice-agree (from v x w) (to v x w) w w' t.long (omega (arith, f.within x h, f.room x h)) (λ i k. t.behind i (omega (arith, f.after x h))) ∙ f.holds x h);
      rest = λ i h. t.behind i (omega (arith, h)) ∙ f.rest i h;
    }
  where
    starts : (x : ℕ) → x < 2 * v → from v x w' ≡ from v x w
    starts x h = t.before (2 * v + 2 * x) (omega arith)

    ends : (x : ℕ) → x < 2 * v → to v x w' ≡ to v x w
    ends x h = t.before (2 * v + 2 * x + 1) (omega arith)

-- w with as many b as it had numbers from s up to s + k, in their place
module _ (s k b : ℕ) (w : List ℕ) (fits : s + k ≤ length w) where
  abbrev w' : List ℕ
  w' = put_mid s k w (replicate k b)

  many : length (replicate k b) ≡ k
  many = length-replicate k b

  front : length (take s w) ≡ s
  front = length-take-le s w (omega arith)

  pub filled-before : (i : ℕ) → i < s → get_or w' i 0 ≡ get_or w i 0
  filled-before i h = get_or-append (take s w) (replicate k b ++ post_of s k w) 0 i (omega (arith, front)) ∙ get_or-take s w i 0 h

  pub filled-at : (i : ℕ) → i < k → get_or w' (s + i) 0 ≡ b
  filled-at i h =
      ap (λ (n : ℕ). get_or w' (n + i) 0) (sym front)
      ∙ get_or-append-add (take s w) (replicate k b ++ post_of s k w) i 0
      ∙ get_or-append (replicate k b) (post_of s k w) 0 i (omega (arith, many))
      ∙ get_or-replicate k i b 0 h

  pub filled-behind : (i : ℕ) → s + k ≤ i → get_or w' i 0 ≡ get_or w i 0
  filled-behind i h =
      let at : s + k + (i - (s + k)) ≡ i = omega arith in
      ap (λ (n : ℕ). get_or w' n 0) (sym at)
      ∙ sym (get_or-drop (s + k) w' (i - (s + k)) 0)
      ∙ ap (λ (l : List ℕ). get_or l (i - (s + k)) 0) (drop-put_mid s k w (replicate k b) (s + k) (omega arith) (omega arith) many)
      ∙ get_or-drop (s + k) w (i - (s + k)) 0
      ∙ ap (λ (n : ℕ). get_or w n 0) at

  pub filled-length : length w' ≡ length w
  filled-length =
      omega (arith, length-append (take s w) (replicate k b ++ post_of s k w), length-append (replicate k b) (post_of s k w), front, many, length-drop k (drop s w), length-drop s w)

-- the variables from a to e are told
module _ (v a e : ℕ) (value : Bool) (w : List ℕ) (room : 7 * v ≤ length w) (up : a ≤ e) (within : e ≤ v) (b : ℕ) (is : b ≡ cond value 1 0) where
  abbrev k : ℕ
  k = 6 * v + e - (6 * v + a)

  abbrev told : List ℕ
  told = put_mid (6 * v + a) k w (replicate k b)

  pub prefer-told : Told v w told
  prefer-told =
      record {
        long = filled-length (6 * v + a) k b w (omega arith);
        before = λ i h. filled-before (6 * v + a) k b w (omega arith) i (omega arith);
        behind = λ i h. filled-behind (6 * v + a) k b w (omega arith) i (omega arith);
      }

  pub prefer-more : PrefersMore v a e value w told
  prefer-more first p same x h = by (ltb x a) refl
    where
      by : (t : Bool) → ltb x a ≡ t → get_or told (6 * v + x) 0 ≡ cond (first x) 1 0
      by true q = filled-before (6 * v + a) k b w (omega arith) (6 * v + x) (omega (arith, ltb-true x a q)) ∙ p x (ltb-true x a q)
      by false q =
          let here : 6 * v + a + (x - a) ≡ 6 * v + x = omega (arith, ltb-false x a q) in
          ap (λ (n : ℕ). get_or told n 0) (sym here)
          ∙ filled-at (6 * v + a) k b w (omega arith) (x - a) (omega (arith, ltb-false x a q))
          ∙ is
          ∙ ap (λ (t : Bool). cond t 1 0) (sym (same x (omega (arith, ltb-false x a q)) h))
