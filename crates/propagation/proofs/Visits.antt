-- What looking at a clause, and at the clauses of a block, means.
use mathlib.Core.Path.{◌≡◌, refl, sym, ap, ◌∙◌}
use mathlib.Core.Bool.{Bool, true, false, ◌||◌, false≢true, true≢false}
use mathlib.Core.List.{List, [], ◌∷◌}
use Prim.Native.Nat.{ℕ, suc, ◌+◌, ◌-◌, ◌*◌, ◌/◌, ◌%◌, ◌<◌}
use native.Mathlib.Omega.{arith}
use borrow.Author.Tests.{eqb-true, eqb-false}
use lib.Dec.{eqb}
use lib.ListN.{length, get_or}
use lib.Seq.{get_or-take}
use Rattle.theory.specs.Lists.{elem}
use Rattle.propagation.specs.Clauses.{weight}
use Rattle.propagation.specs.Units.{Visit, stays, visited, scanned}
use Rattle.propagation.proofs.Visited.{visit-none, visit-many, visit-new, visit-true, visit-false}
use Rattle.propagation.specs.WorkArea.{trail, values, Fresh, falses, live, ShortClause, WorkHeld, Frame}
use Rattle.propagation.specs.Forcing.{Forces, no_more, one_more, Void, Quiet}
use Rattle.propagation.proofs.Trails.{set-nonzero, values_length}
use Rattle.propagation.proofs.Lives.{none_left, one_left, one-names, left-none, left_one, all-at}
use Rattle.propagation.proofs.Truths.{value-own, unset-live, value-false, value-small, falses-down, live-live}
use Rattle.propagation.proofs.Holds.{weight-at}
use Rattle.propagation.proofs.Pushing.{pushed-held, pushed-trail, pushed-frame, older}
use Rattle.propagation.proofs.Frames.{frame-none, frame-trans}

-- The outcome r of looking, from a state whose first head entries are hs: `Good` is what holds where nothing clashes.
pub record Looked (v : ℕ) (cs : List (List ℕ)) (w : List ℕ) (head : ℕ) (hs ts : List ℕ) (Good : List ℕ → Type 0) (r : Visit) : Type 0 where
  pub held : WorkHeld v cs head r.len r.mem
  pub frame : Frame v (length cs) w r.mem
  pub first : trail r.mem v head ≡ hs
  pub forces : Forces v cs ts (trail r.mem v r.len)
  pub good : r.clash ≡ false → Good (values v (trail r.mem v r.len))
  pub void : r.clash ≡ true → Void cs (falses (trail r.mem v r.len))

cons_same : (a b : ℕ) (xs ys : List ℕ) → a ∷ xs ≡ b ∷ ys → a ≡ b
cons_same a b xs ys e = cc

module _ (v : ℕ) (cs : List (List ℕ)) (head n : ℕ) (w hs : List ℕ) (held : WorkHeld v cs head n w) (first : trail w v head ≡ hs) (i : ℕ) (is : i < length cs) where
  abbrev ts : List ℕ
  ts = trail w v n

  abbrev c : List ℕ
  c = get_or cs i []

  abbrev q : ℕ
  q = 7 * v + i

  abbrev D : List ℕ
  D = falses (trail w v head)

  clause : ShortClause v c
  clause = all-at (ShortClause v) cs i held.clauses is

  at : get_or w q 0 ≡ weight D c
  at = weight-at v cs head n w held i is

  sub : (x : ℕ) → elem x D ≡ true → elem x (falses ts) ≡ true
  sub x h = falses-down v w x head n held.head-len h

  value : (x : ℕ) → x / 2 < v → get_or w (x / 2) 0 ≡ get_or (values v ts) (x / 2) 0
  value x h = sym (get_or-take v w (x / 2) 0 h) ∙ ap (λ (l : List ℕ). get_or l (x / 2) 0) held.gives

  -- nothing is done
  stay-good : Quiet (falses hs) (values v ts) c → Looked v cs w head hs ts (λ l. Quiet (falses hs) l c) (stays n false w)
  stay-good g =
      record { held = held; frame = frame-none v (length cs) w; first = first; forces = no_more; good = λ e. g; void = λ e. absurd (false≢true e) }

  stay-void : Void cs (falses ts) → Looked v cs w head hs ts (λ l. Quiet (falses hs) l c) (stays n true w)
  stay-void g =
      record { held = held; frame = frame-none v (length cs) w; first = first; forces = no_more; good = λ e. absurd (true≢false e); void = λ e. g }

  abbrev Goal : Type 0
  Goal = Looked v cs w head hs ts (λ l. Quiet (falses hs) l c) (visited v q n w)

  on_none : get_or w q 0 % 64 ≡ 0 → Goal
  on_none e =
      let l : live D c ≡ [] = none_left v D c clause (rw at at e) in
      rw (visit-none v q n w e) (stay-void (i, is, sym (live-live D (falses ts) sub c) ∙ ap (live (falses ts)) l))

  on-many : (get_or w q 0 % 64 ≡ 0 → ⊥) → (get_or w q 0 % 64 ≡ 1 → ⊥) → Goal
  on-many a b =
      rw (visit-many v q n w a b)
      (stay-good
      (rw (sym first) (
        (λ l. a (ap (λ (m : ℕ). m % 64) at ∙ left-none v D c clause l)),
        (λ u l e. b (ap (λ (m : ℕ). m % 64) at ∙ left_one v D c clause u l)),
      )))

  module _ (e : get_or w q 0 % 64 ≡ 1) where
    abbrev u : ℕ
    u = get_or w q 0 / 64

    lives : live D c ≡ u ∷ []
    lives = one_left v D c clause (rw at at e) ∙ ap (λ (m : ℕ). m / 64 ∷ []) (sym at)

    named : u / 2 < v
    named = rw (sym at) at (one-names v D c clause (rw at at e))

    set-good : (l : List ℕ) → (get_or l (u / 2) 0 ≡ 0 → ⊥) → Quiet (falses hs) l c
    set-good l s =
        rw (sym first) (
          (λ z. let k : ◌≡◌ {A = ℕ} 0 1 = ap length (sym z ∙ lives) in omega (arith, k)),
          (λ x z o. s (ap (λ (m : ℕ). get_or l (m / 2) 0) (cons_same u x [] [] (sym lives ∙ z)) ∙ o)),
        )

    on-new : get_or w (u / 2) 0 ≡ 0 → Goal
    on-new z =
        let h = pushed-held v cs head n w held u 0 (omega arith) named z in
        let s = pushed-trail v cs head n w held u 0 (omega arith) named z in
        let half : (2 * u + 0) / 2 ≡ u = omega arith in
        let unset = sym (value u named) ∙ z in
        let now : live (falses ts) c ≡ u ∷ [] = sym (live-live D (falses ts) sub c) ∙ ap (live (falses ts)) lives ∙ rw (unset-live v u ts held.fresh unset) refl in
        let f : Fresh v ((2 * u + 0) ∷ ts) = rw s at h.fresh in
        rw (visit-new v q n w e z)
        (record {
          held = h;
          frame = pushed-frame v cs head n w held u 0 (omega arith) named z;
          first = older v cs head n w held u 0 (omega arith) named z head held.head-len ∙ first;
          forces = rw s (one_more {v = v} {cs = cs} {ts' = ts} i (2 * u + 0) no_more is (omega arith) (rw half now) (rw half named) (rw half unset));
          good = λ k. rw s (set-good (values v ((2 * u + 0) ∷ ts)) (λ o. omega (arith, value-own v (2 * u + 0) ts f, ap (λ (m : ℕ). get_or (values v ((2 * u + 0) ∷ ts)) (m / 2) 0) half, o)));
          void = λ k. absurd (false≢true k);
        })

    on-true : (get_or w (u / 2) 0 ≡ 0 → ⊥) → get_or w (u / 2) 0 ≡ 1 + u % 2 → Goal
    on-true z s =
        rw (visit-true v q n w e z s) (stay-good (set-good (values v ts) (λ o. z (value u named ∙ o))))

    on-false : (get_or w (u / 2) 0 ≡ 0 → ⊥) → (get_or w (u / 2) 0 ≡ 1 + u % 2 → ⊥) → Goal
    on-false z s =
        let k = value-small v ts (u / 2) held.fresh in
        let o : get_or (values v ts) (u / 2) 0 ≡ 2 - u % 2 = omega (arith, k, z, s, value u named) in
        let f = value-false v u ts held.fresh o in
        rw (visit-false v q n w e z s)
        (stay-void (i, is, sym (live-live D (falses ts) sub c) ∙ ap (live (falses ts)) lives ∙ rw f refl))

  by-truth : (e : get_or w q 0 % 64 ≡ 1) → (get_or w (get_or w q 0 / 64 / 2) 0 ≡ 0 → ⊥) → (b : Bool)
      → eqb (get_or w (get_or w q 0 / 64 / 2) 0) (1 + get_or w q 0 / 64 % 2) ≡ b → Goal
  by-truth e z true h = on-true e z (eqb-true _ _ h)
  by-truth e z false h = on-false e z (eqb-false _ _ h)

  by_value : (e : get_or w q 0 % 64 ≡ 1) → (b : Bool) → eqb (get_or w (get_or w q 0 / 64 / 2) 0) 0 ≡ b → Goal
  by_value e true h = on-new e (eqb-true _ _ h)
  by_value e false h = by-truth e (eqb-false _ _ h) (eqb (get_or w (get_or w q 0 / 64 / 2) 0) (1 + get_or w q 0 / 64 % 2)) refl

  by_one : (get_or w q 0 % 64 ≡ 0 → ⊥) → (b : Bool) → eqb (get_or w q 0 % 64) 1 ≡ b → Goal
  by_one z true h = by_value (eqb-true _ _ h) (eqb (get_or w (get_or w q 0 / 64 / 2) 0) 0) refl
  by_one z false h = on-many z (eqb-false _ _ h)

  by-none : (b : Bool) → eqb (get_or w q 0 % 64) 0 ≡ b → Goal
  by-none true h = on_none (eqb-true _ _ h)
  by-none false h = by_one (eqb-false _ _ h) (eqb (get_or w q 0 % 64) 1) refl

  -- what looking at the clause i means
  pub visit-meaning : Goal
  visit-meaning = by-none (eqb (get_or w q 0 % 64) 0) refl

pub forces-trans : {v : ℕ} {cs : List (List ℕ)} {a b c : List ℕ} → Forces v cs a b → Forces v cs b c → Forces v cs a c
forces-trans f no_more = f
forces-trans f (one_more i t g is even l named unset) = one_more i t (forces-trans f g) is even l named unset

-- what is set stays set
pub forces-set : {v : ℕ} {cs : List (List ℕ)} {a b : List ℕ} (k : ℕ) → Forces v cs a b → (get_or (values v a) k 0 ≡ 0 → ⊥) → get_or (values v b) k 0 ≡ 0 → ⊥
forces-set k no_more n = n
forces-set {v} k (one_more {ts' = ts'} i t g is even l named unset) n =
    set-nonzero (values v ts') (t / 2 / 2) (1 + t / 2 % 2) k (omega (arith, values_length v ts', named)) (omega arith) (forces-set k g n)

pub quiet-on : {v : ℕ} {cs : List (List ℕ)} {a b : List ℕ} (D c : List ℕ) → Forces v cs a b → Quiet D (values v a) c → Quiet D (values v b) c
quiet-on D c f g = (g.0, λ u l. forces-set (u / 2) f (g.1 u l))

abbrev pub AllQuiet : ℕ → List (List ℕ) → List ℕ → List ℕ → List ℕ → Type 0
AllQuiet v cs hs qs l = (i : ℕ) → i < length cs → elem (7 * v + i) qs ≡ true → Quiet (falses hs) l (get_or cs i [])

pub visit-at : (v : ℕ) (cs : List (List ℕ)) (head n : ℕ) (w hs : List ℕ) → WorkHeld v cs head n w → trail w v head ≡ hs → (q i : ℕ) → i < length cs → q ≡ 7 * v + i
    → Looked v cs w head hs (trail w v n) (λ l. Quiet (falses hs) l (get_or cs i [])) (visited v q n w)
visit-at v cs head n w hs held first q i is e = rw e (visit-meaning v cs head n w hs held first i is)

-- one clause, and then the rest
module _ (v : ℕ) (cs : List (List ℕ)) (head : ℕ) (hs : List ℕ) (q : ℕ) (qs : List ℕ) (n : ℕ) (w : List ℕ) (i₀ : ℕ) (at₀ : q ≡ 7 * v + i₀)
    (one : Looked v cs w head hs (trail w v n) (λ l. Quiet (falses hs) l (get_or cs i₀ [])) (visited v q n w)) where
  abbrev r : Visit
  r = visited v q n w

  abbrev Next : Type 0
  Next =
      WorkHeld v cs head r.len r.mem → trail r.mem v head ≡ hs → Looked v cs r.mem head hs (trail r.mem v r.len) (AllQuiet v cs hs qs) (scanned v qs r.len r.mem)

  this : r.clash ≡ false → (ls : List ℕ) → Forces v cs (trail r.mem v r.len) ls → (i : ℕ)
      → ((elem (7 * v + i) qs) ≡ true → Quiet (falses hs) (values v ls) (get_or cs i [])) → (b : Bool) → eqb (7 * v + i) q ≡ b → (b || elem (7 * v + i) qs) ≡ true
      → Quiet (falses hs) (values v ls) (get_or cs i [])
  this e ls f i rest true k h =
      let same : i₀ ≡ i = omega (arith, eqb-true (7 * v + i) q k, at₀) in
      quiet-on (falses hs) (get_or cs i []) f (rw same at (one.good e))
  this e ls f i rest false k h = rest h

  pub joined : (b : Bool) → r.clash ≡ b → Next → Looked v cs w head hs (trail w v n) (AllQuiet v cs hs (q ∷ qs)) (scanned v (q ∷ qs) n w)
  joined true e next =
      rw e
      (record { held = one.held; frame = one.frame; first = one.first; forces = one.forces; good = λ k. absurd (true≢false (sym e ∙ k)); void = one.void })
  joined false e next =
      let two = next one.held one.first in
      rw e
      (record {
        held = two.held;
        frame = frame-trans one.frame two.frame;
        first = two.first;
        forces = forces-trans one.forces two.forces;
        good = λ k i is h. this e _ two.forces i (two.good k i is) (eqb (7 * v + i) q) refl h;
        void = two.void;
      })

-- what looking at the clauses of a list of addresses means
pub scan-meaning : (v : ℕ) (cs : List (List ℕ)) (head : ℕ) (hs qs : List ℕ) (n : ℕ) (w : List ℕ)
    → ((j : ℕ) → j < length qs → (i : ℕ) × (i < length cs) × (get_or qs j 0 ≡ 7 * v + i)) → WorkHeld v cs head n w → trail w v head ≡ hs
    → Looked v cs w head hs (trail w v n) (AllQuiet v cs hs qs) (scanned v qs n w)
scan-meaning v cs head hs [] n w a held first =
    record { held = held; frame = frame-none v (length cs) w; first = first; forces = no_more; good = λ e i is h. absurd (false≢true h); void = λ e. absurd (false≢true e) }
scan-meaning v cs head hs (q ∷ qs) n w a held first =
    let at₀ = a 0 (omega arith) in
    joined v cs head hs q qs n w at₀.0 at₀.2 (visit-at v cs head n w hs held first q at₀.0 at₀.1 at₀.2) (visited v q n w).clash refl
    (λ held' first'. scan-meaning v cs head hs qs (visited v q n w).len (visited v q n w).mem (λ j l. a (suc j) (omega arith)) held' first')
