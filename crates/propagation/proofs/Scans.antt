-- One turn of a scan: what a visit leaves can be scanned on.
use mathlib.Core.Path.{◌≡◌, refl, sym, ap, ◌∙◌, subst⁻¹}
use mathlib.Core.Bool.{Bool, true, false}
use mathlib.Core.Logic.{◌⊎◌, inl, inr, ⊎_elim}
use mathlib.Core.List.{List, ◌∷◌}
use Prim.Native.Nat.{ℕ, ◌+◌, ◌*◌, ◌/◌, ◌%◌, ◌≤◌, ◌<◌}
use native.Mathlib.Numerals.{add-one}
use native.Mathlib.Omega.{arith}
use borrow.Author.Tests.{eqb-true, eqb-false}
use lib.Dec.{eqb}
use lib.ListN.{length, get_or, set, take, length-set}
use lib.Seq.{slice, slice-cons, drop-set-lt, take-set-lt, get_or-set_other}
use Rattle.propagation.specs.Units.{Visit, pushed, stays, visited, scanned, Visitable, Scannable}
use Rattle.propagation.proofs.Visited.{room, pushed-count, visit-none, visit-many, visit-new, visit-true, visit-false}

-- a visit leaves all as it is, or pushes a literal of an unset variable
abbrev pub Stays : ℕ → ℕ → ℕ → List ℕ → Type 0
Stays v q n w = (b : Bool) × (visited v q n w ≡ stays n b w)

abbrev pub Pushes : ℕ → ℕ → ℕ → List ℕ → Type 0
Pushes v q n w =
    (u : ℕ) × (u / 2 < v) × (get_or w (u / 2) 0 ≡ 0) × (visited v q n w ≡ record { len = n + 1; clash = false; mem = pushed v n u 0 w })

module _ (v q n : ℕ) (w : List ℕ) (a : Visitable v q n w) where
  by-truth : get_or w q 0 % 64 ≡ 1 → (get_or w (get_or w q 0 / 64 / 2) 0 ≡ 0 → ⊥) → (b : Bool) → eqb (get_or w (get_or w q 0 / 64 / 2) 0) (1 + get_or w q 0 / 64 % 2) ≡ b
      → Stays v q n w ⊎ Pushes v q n w
  by-truth e z true h = inl (false, visit-true v q n w e z (eqb-true _ _ h))
  by-truth e z false h = inl (true, visit-false v q n w e z (eqb-false _ _ h))

  by_value : get_or w q 0 % 64 ≡ 1 → (b : Bool) → eqb (get_or w (get_or w q 0 / 64 / 2) 0) 0 ≡ b → Stays v q n w ⊎ Pushes v q n w
  by_value e true h = inr (get_or w q 0 / 64, a.names e, eqb-true _ _ h, visit-new v q n w e (eqb-true _ _ h))
  by_value e false h = by-truth e (eqb-false _ _ h) (eqb (get_or w (get_or w q 0 / 64 / 2) 0) (1 + get_or w q 0 / 64 % 2)) refl

  by_one : (get_or w q 0 % 64 ≡ 0 → ⊥) → (b : Bool) → eqb (get_or w q 0 % 64) 1 ≡ b → Stays v q n w ⊎ Pushes v q n w
  by_one z true h = by_value (eqb-true _ _ h) (eqb (get_or w (get_or w q 0 / 64 / 2) 0) 0) refl
  by_one z false h = inl (false, visit-many v q n w z (eqb-false _ _ h))

  by-none : (b : Bool) → eqb (get_or w q 0 % 64) 0 ≡ b → Stays v q n w ⊎ Pushes v q n w
  by-none true h = inl (true, visit-none v q n w (eqb-true _ _ h))
  by-none false h = by_one (eqb-false _ _ h) (eqb (get_or w q 0 % 64) 1) refl

  pub visit-cases : Stays v q n w ⊎ Pushes v q n w
  visit-cases = by-none (eqb (get_or w q 0 % 64) 0) refl

-- a store before a part leaves the part
slice_set : (f t j z : ℕ) (w : List ℕ) → j < f → f ≤ t → slice f t (set w j z) ≡ slice f t w
slice_set f t j z w h l = rw (take-set-lt t w j z (omega arith)) (drop-set-lt f (take t w) j z h)

module _ (v base k to n : ℕ) (w : List ℕ) (s : Scannable v base k to n w) where
  pub visitable : k < to → (q : ℕ) → q ≡ get_or w k 0 → Visitable v q n w
  visitable go q at =
      record {
        within = omega (arith, at, s.below k (omega arith) go, s.based, s.ordered, s.within);
        lists = omega (arith, s.lists, s.based, s.ordered, s.within);
        variables = s.variables;
        names = λ e. rw at (s.names k (omega arith) go (rw at at e));
        counts = s.counts;
      }

  -- what a push keeps, changes and counts
  module _ (u : ℕ) (named : u / 2 < v) (unset : get_or w (u / 2) 0 ≡ 0) where
    long : 2 * v ≤ length w
    long = omega (arith, s.lists, s.based, s.ordered, s.within)

    free : n < v
    free = omega (arith, s.counts, room v (u / 2) w (omega (arith, long)) named unset)

    kept : (i : ℕ) → 2 * v ≤ i → get_or (pushed v n u 0 w) i 0 ≡ get_or w i 0
    kept i h =
        get_or-set_other (set w (u / 2) (1 + u % 2)) (v + n) i (2 * u + 0) 0 (λ e. omega (arith, free))
        ∙ get_or-set_other w (u / 2) i (1 + u % 2) 0 (λ e. omega (arith, named))

    pushed-scannable : Scannable v base k to (n + 1) (pushed v n u 0 w)
    pushed-scannable =
        record {
          based = s.based;
          ordered = s.ordered;
          within = simp length-set s.within;
          variables = s.variables;
          after = λ i h l. rw (kept i (omega (arith, s.lists, s.based))) (s.after i h l);
          below = λ i h l. rw (kept i (omega (arith, s.lists, s.based))) (s.below i h l);
          names = λ i h l. rw (kept i (omega (arith, s.lists, s.based)), kept (get_or w i 0) (s.after i h l)) (s.names i h l);
          lists = s.lists;
          counts = pushed-count v n u 0 w long named unset ∙ ap (λ (m : ℕ). m + 1) s.counts;
        }

    pushed-slice : slice k to (pushed v n u 0 w) ≡ slice k to w
    pushed-slice =
        slice_set k to (v + n) (2 * u + 0) (set w (u / 2) (1 + u % 2)) (omega (arith, free, s.lists, s.based)) s.ordered
        ∙ slice_set k to (u / 2) (1 + u % 2) w (omega (arith, named, s.lists, s.based)) s.ordered

    pushed-length : length (pushed v n u 0 w) ≡ length w
    pushed-length = simp length-set

-- what can be scanned from k can be scanned from k + 1
next : (v base k to n : ℕ) (w : List ℕ) → Scannable v base k to n w → k < to → Scannable v base (k + 1) to n w
next v base k to n w s go =
    record {
      based = omega (arith, s.based);
      ordered = omega arith;
      within = s.within;
      variables = s.variables;
      after = λ i h l. s.after i (omega arith) l;
      below = λ i h l. s.below i (omega arith) l;
      names = λ i h l. s.names i (omega arith) l;
      lists = s.lists;
      counts = s.counts;
    }

-- after a visit: the rest can be scanned, and is as it was
abbrev pub Onward : ℕ → ℕ → ℕ → ℕ → List ℕ → Visit → Type 0
Onward v base k to w r =
    Scannable v base k to r.len r.mem × (slice k to r.mem ≡ slice k to w) × (length r.mem ≡ length w)

module _ (v base k to n : ℕ) (w : List ℕ) (s : Scannable v base k to n w) (go : k < to) (q : ℕ) (at : q ≡ get_or w k 0) where
  pub onward : Onward v base (k + 1) to w (visited v q n w)
  onward =
      ⊎_elim
      (λ c. rw c.1 (next v base k to n w s go, refl, refl))
      (λ c.
      let t = next v base k to n w s go in
      rw c.3 (
        pushed-scannable v base (k + 1) to n w t c.0 c.1 c.2,
        pushed-slice v base (k + 1) to n w t c.0 c.1 c.2,
        pushed-length v base (k + 1) to n w t c.0 c.1 c.2,
      ))
      (visit-cases v q n w (visitable v base k to n w s go q at))

  first : slice k to w ≡ q ∷ slice (k + 1) to w
  first = rw (at, add-one) (slice-cons k to w 0 go s.within)

  pub scan-stops : (visited v q n w).clash ≡ true → scanned v (slice k to w) n w ≡ visited v q n w
  scan-stops e = rw (first, e) refl

  pub scan-goes : (visited v q n w).clash ≡ false
      → scanned v (slice k to w) n w ≡ scanned v (slice (k + 1) to (visited v q n w).mem) (visited v q n w).len (visited v q n w).mem
  scan-goes e = rw (first, e, onward.1) refl

-- what holds at the head of the loop of `scan`: w and n are now, w₀ and len as it began
abbrev pub Scanning : List ℕ → ℕ → ℕ → ℕ → ℕ → List ℕ → ℕ → ℕ → Type 0
Scanning w₀ v from to len w n k =
    Scannable v from k to n w × (scanned v (slice k to w) n w ≡ scanned v (slice from to w₀) len w₀)

module _ (w₀ : List ℕ) (v from to len : ℕ) (w : List ℕ) (n k : ℕ) (now : Scanning w₀ v from to len w n k) where
  module _ (go : k < to) (n' : ℕ) (w' : List ℕ) where
    pub scanning-turn : record { len = n'; clash = false; mem = w' } ≡ visited v (get_or w k 0) n w → Scanning w₀ v from to len w' n' (k + 1)
    scanning-turn r =
        let o = onward v from k to n w now.0 go (get_or w k 0) refl in
        let goes = ap (λ (z : Visit). z.clash) (sym r) in
        let whole = sym (scan-goes v from k to n w now.0 go (get_or w k 0) refl goes) ∙ now.1 in
        subst⁻¹ (λ (z : Visit). Scanning w₀ v from to len z.mem z.len (k + 1)) r (o.0, whole)

    pub scanning-stop : record { len = n'; clash = true; mem = w' } ≡ visited v (get_or w k 0) n w
        → record { len = n'; clash = true; mem = w' } ≡ scanned v (slice from to w₀) len w₀
    scanning-stop r = r ∙ sym (scan-stops v from k to n w now.0 go (get_or w k 0) refl (ap (λ (z : Visit). z.clash) (sym r))) ∙ now.1
