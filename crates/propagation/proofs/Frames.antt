-- What is kept where the work area changes in its weights alone, or in its values and its trail alone.
use mathlib.Core.Path.{◌≡◌, refl, sym, ap, ◌∙◌}
use mathlib.Core.List.{List, ◌++◌}
use Prim.Native.Nat.{ℕ, zero, suc, ◌+◌, ◌-◌, ◌*◌, ◌≤◌, ◌<◌}
use native.Mathlib.Omega.{arith}
use lib.ListN.{length, get_or, take, drop, length-append, length-drop, get_or-append}
use lib.Seq.{slice, length-slice, length-take-le, ext_get_or, get_or-take, get_or-drop, get_or-append-add, take_at}
use Rattle.propagation.specs.WorkArea.{Frame, trail, Block}

pub get_d-slice : (f t : ℕ) (w : List ℕ) (i : ℕ) → f + i < t → get_or (slice f t w) i 0 ≡ get_or w (f + i) 0
get_d-slice f t w i h = get_or-drop f (take t w) i 0 ∙ get_or-take t w (f + i) 0 h

-- two lists that agree from f on have the same part from f
pub slice-agree : (f t : ℕ) (w w' : List ℕ) → length w' ≡ length w → t ≤ length w → ((i : ℕ) → f ≤ i → get_or w' i 0 ≡ get_or w i 0) → slice f t w' ≡ slice f t w
slice-agree f t w w' l h same =
    let a = length-slice f t w h in
    let b = length-slice f t w' (omega (arith, l)) in
    ext_get_or 0 (slice f t w') (slice f t w) (b ∙ sym a)
    (λ i k. get_d-slice f t w' i (omega (arith, b)) ∙ same (f + i) (omega arith) ∙ sym (get_d-slice f t w i (omega (arith, b))))

pub take-agree : (n : ℕ) (w w' : List ℕ) → length w' ≡ length w → n ≤ length w → ((i : ℕ) → i < n → get_or w' i 0 ≡ get_or w i 0) → take n w' ≡ take n w
take-agree n w w' l h same =
    let a = length-take-le n w h in
    let b = length-take-le n w' (omega (arith, l)) in
    ext_get_or 0 (take n w') (take n w) (b ∙ sym a)
    (λ i k. get_or-take n w' i 0 (omega (arith, b)) ∙ same i (omega (arith, b)) ∙ sym (get_or-take n w i 0 (omega (arith, b))))

pub trail-agree : (v : ℕ) (w w' : List ℕ) (n : ℕ) → ((i : ℕ) → i < n → get_or w' (v + i) 0 ≡ get_or w (v + i) 0) → trail w' v n ≡ trail w v n
trail-agree v w w' zero same = refl
trail-agree v w w' (suc n) same =
    rw (same n (omega arith), trail-agree v w w' n (λ i h. same i (omega arith))) refl

pub trail-length : (v : ℕ) (w : List ℕ) (n : ℕ) → length (trail w v n) ≡ n
trail-length v w zero = refl
trail-length v w (suc n) = ap suc (trail-length v w n)

pub frame-none : (v m : ℕ) (w : List ℕ) → Frame v m w w
frame-none v m w = record { long = refl; bounds = λ i a b. refl; rest = λ i a. refl }

pub frame-trans : {v m : ℕ} {a b c : List ℕ} → Frame v m a b → Frame v m b c → Frame v m a c
frame-trans f g =
    record {
      long = g.long ∙ f.long;
      bounds = λ i h k. g.bounds i h k ∙ f.bounds i h k;
      rest = λ i h. g.rest i h ∙ f.rest i h;
    }

-- the blocks are as they were
pub block-frame : (v : ℕ) (cs : List (List ℕ)) (w w' : List ℕ) → Frame v (length cs) w w' → (x : ℕ) → x < 2 * v → Block v cs w x → Block v cs w' x
block-frame v cs w w' f x h b =
    let p = f.bounds (2 * v + 2 * x) (omega arith) (omega arith) in
    let q = f.bounds (2 * v + 2 * x + 1) (omega arith) (omega arith) in
    record {
      after = rw p b.after;
      ordered = rw (p, q) b.ordered;
      within = rw (q, f.long) b.within;
      holds =
          rw (p, q)
          (slice-agree (get_or w (2 * v + 2 * x) 0) (get_or w (2 * v + 2 * x + 1) 0) w w' f.long b.within
          (λ i k. f.rest i (omega (arith, b.after)))
          ∙ b.holds);
    }

-- a work area whose weights are another list
module _ (v m : ℕ) (w ms : List ℕ) (lm : length ms ≡ m) (h : 7 * v + m ≤ length w) where
  abbrev pub reweighed : List ℕ
  reweighed = take (7 * v) w ++ (ms ++ drop (7 * v + m) w)

  pub front_length : length (take (7 * v) w) ≡ 7 * v
  front_length = length-take-le (7 * v) w (omega arith)

  pub reweighed-length : length reweighed ≡ length w
  reweighed-length =
      rw (length-append (take (7 * v) w) (ms ++ drop (7 * v + m) w), length-append ms (drop (7 * v + m) w), length-drop (7 * v + m) w)
      (omega (arith, front_length, lm))

  pub reweighed-front : (i : ℕ) → i < 7 * v → get_or reweighed i 0 ≡ get_or w i 0
  reweighed-front i k =
      get_or-append (take (7 * v) w) (ms ++ drop (7 * v + m) w) 0 i (omega (arith, front_length)) ∙ get_or-take (7 * v) w i 0 k

  pub reweighed-weight : (c : ℕ) → c < m → get_or reweighed (7 * v + c) 0 ≡ get_or ms c 0
  reweighed-weight c k =
      ap (λ (n : ℕ). get_or reweighed (n + c) 0) (sym front_length)
      ∙ get_or-append-add (take (7 * v) w) (ms ++ drop (7 * v + m) w) c 0
      ∙ get_or-append ms (drop (7 * v + m) w) 0 c (omega (arith, lm))

  pub reweighed-rest : (i : ℕ) → 7 * v + m ≤ i → get_or reweighed i 0 ≡ get_or w i 0
  reweighed-rest i k =
      let j = i - (7 * v + m) in
      let e : i ≡ length (take (7 * v) w) + (length ms + j) = omega (arith, front_length, lm) in
      let e' : 7 * v + m + j ≡ i = omega arith in
      ap (λ (n : ℕ). get_or reweighed n 0) e
      ∙ get_or-append-add (take (7 * v) w) (ms ++ drop (7 * v + m) w) (length ms + j) 0
      ∙ get_or-append-add ms (drop (7 * v + m) w) j 0
      ∙ get_or-drop (7 * v + m) w j 0
      ∙ ap (λ (n : ℕ). get_or w n 0) e'

  pub reweighed-take : take (7 * v) reweighed ≡ take (7 * v) w
  reweighed-take = take_at (take (7 * v) w) (ms ++ drop (7 * v + m) w) (7 * v) front_length

  pub reweighed-frame : Frame v m w reweighed
  reweighed-frame =
      record { long = reweighed-length; bounds = λ i a b. reweighed-front i b; rest = reweighed-rest }

  pub reweighed-drop : drop (7 * v + m) reweighed ≡ drop (7 * v + m) w
  reweighed-drop =
      ext_get_or 0 (drop (7 * v + m) reweighed) (drop (7 * v + m) w)
      (rw (length-drop (7 * v + m) reweighed, length-drop (7 * v + m) w, reweighed-length) refl)
      (λ i k. get_or-drop (7 * v + m) reweighed i 0 ∙ reweighed-rest (7 * v + m + i) (omega arith) ∙ sym (get_or-drop (7 * v + m) w i 0))
