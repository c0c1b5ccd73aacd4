-- A turn of the search, and its ends.
use mathlib.Core.Path.{◌≡◌, refl, sym, ap, ◌∙◌, subst, subst⁻¹}
use mathlib.Core.Bool.{Bool, true, false, cond}
use mathlib.Core.Option.{Option, none, some}
use mathlib.Core.List.{List, [], ◌∷◌}
use Prim.Native.Nat.{ℕ, ◌+◌, ◌*◌, ◌/◌, ◌%◌, ◌≤◌, ◌<◌}
use native.Mathlib.Numerals.{add-one}
use native.Mathlib.Omega.{arith}
use lib.Dec.{eqb}
use lib.ListN.{length, get_or, take}
use lib.Seq.{get_or-take}
use Rattle.theory.specs.Lists.{all}
use Rattle.theory.specs.Propositional.{PropClause}
use Rattle.theory.specs.Walk.{lowest, walked}
use Rattle.theory.specs.Claims.Counts.{is_numbered}
use Rattle.theory.specs.Valuation.{setting_of}
use Rattle.allowance.specs.AllowedWalk.{ended}
use Rattle.allowance.specs.Claims.AllowedWalk.{cut}
use Rattle.allowance.proofs.AllowedWalk.{cut-enough, cut-stopped}
use Rattle.propagation.specs.Clauses.{coded}
use Rattle.propagation.specs.Units.{pushed, Pushable}
use Rattle.propagation.specs.WorkArea.{negated, trail, values, Fresh, falses, WorkHeld, Regions, Prefers, Frame}
use Rattle.propagation.specs.Forcing.{Forces, no_more, one_more, Quiet}
use Rattle.propagation.specs.Advance.{Calm, Propagated}
use Rattle.propagation.proofs.Frames.{trail-length, frame-none, frame-trans}
use Rattle.propagation.proofs.Trails.{set-nonzero, values_length}
use Rattle.propagation.proofs.Pushing.{free, pushed-held, pushed-frame, pushed-trail, older}
use Rattle.search.specs.declared.Outcome.TheVariants.{Found, Exhausted, Stopped}
use Rattle.search.specs.Moves.{BackTo, flips, pops, NoneOpen, OpenUnder}
use Rattle.search.specs.Search.{partial_of, preferred, Returned, Started, Solved}
use Rattle.search.proofs.LowestUnset.{lowest-is}
use Rattle.search.proofs.Partials.{partial}
use Rattle.search.proofs.Kept.{frame-coded, frame-prefers}
use Rattle.search.proofs.Walks.{AllQuiet, from_start}
use Rattle.search.proofs.Resuming.{Whole, whole-start, whole-forces, whole_back, whole-none, whole-found, whole-choice, whole-more}
use Rattle.search.proofs.Potential.{potential, forced-falls, choice-falls, back-falls}

-- every open choice was made where no clause forced anything
abbrev Grounded : ℕ → List (List ℕ) → List ℕ → Type 0
Grounded v ds [] = Unit
Grounded v ds (t ∷ ts) = (t % 2 ≡ 1 → AllQuiet v ds ts) × Grounded v ds ts

-- What holds at the head of the loop: `whole` says that the whole walk has made so many choices, and goes on from the trail and its open choices.
pub record Searching (v : ℕ) (cs : List PropClause) (first : ℕ → Bool) (w₀ : List ℕ) (head n choices : ℕ) (w : List ℕ) : Type 0 where
  pub numbered : all (all (is_numbered v)) cs ≡ true
  pub held : WorkHeld v (coded cs) head n w
  pub frame : Frame v (length (coded cs)) w₀ w
  pub prefers : Prefers v v first w
  pub calm : Calm v (coded cs) head n w
  pub under : OpenUnder (head + 1) (trail w v n)
  pub grounded : Grounded v (coded cs) (trail w v n)
  pub whole : Whole v cs first numbered choices (trail w v n)

-- the end of a walk that makes k choices, which are allowed
pub ends_so : (v : ℕ) (cs : List PropClause) (first : ℕ → Bool) (allowed k : ℕ) (o : Option (List ℕ)) → walked v cs first ≡ record { answer = o; choices = k } → k ≤ allowed
    → ended o k ≡ cut allowed (walked v cs first)
ends_so v cs first allowed k o e h = sym (ap (cut allowed) e ∙ cut-enough allowed (record { answer = o; choices = k }) h)

forces-closed : {v : ℕ} {ds : List (List ℕ)} {ts us : List ℕ} → Forces v ds ts us → NoneOpen ts → NoneOpen us
forces-closed no_more c = c
forces-closed (one_more i t g is even l named unset) c = (even, forces-closed g c)

under-closed : (h : ℕ) (ts : List ℕ) → NoneOpen ts → OpenUnder h ts
under-closed h [] c = tt
under-closed h (t ∷ ts) c = (λ e. absurd (omega (arith, e, c.0)), under-closed h ts c.1)

under_more : (g h : ℕ) (ts : List ℕ) → g ≤ h → OpenUnder g ts → OpenUnder h ts
under_more g h [] l u = tt
under_more g h (t ∷ ts) l u = (λ e. omega (arith, u.0 e), under_more g h ts l u.1)

under_all : (h : ℕ) (ts : List ℕ) → length ts ≤ h → OpenUnder h ts
under_all h [] l = tt
under_all h (t ∷ ts) l = (λ e. omega arith, under_all h ts (omega arith))

under-forced : {v : ℕ} {ds : List (List ℕ)} {ts us : List ℕ} (h : ℕ) → Forces v ds ts us → OpenUnder h ts → OpenUnder h us
under-forced h no_more u = u
under-forced h (one_more i t g is even l named unset) u = (λ e. absurd (omega (arith, e, even)), under-forced h g u)

grounded-closed : (v : ℕ) (ds : List (List ℕ)) (ts : List ℕ) → NoneOpen ts → Grounded v ds ts
grounded-closed v ds [] c = tt
grounded-closed v ds (t ∷ ts) c = (λ e. absurd (omega (arith, e, c.0)), grounded-closed v ds ts c.1)

grounded-forced : {v : ℕ} {ds : List (List ℕ)} {ts us : List ℕ} → Forces v ds ts us → Grounded v ds ts → Grounded v ds us
grounded-forced no_more u = u
grounded-forced (one_more i t g is even l named unset) u = (λ e. absurd (omega (arith, e, even)), grounded-forced g u)

pub searching-start : (v : ℕ) (cs : List PropClause) (first : ℕ → Bool) (len : ℕ) (w : List ℕ) → Started v cs first len w → Searching v cs first w 0 len 0 w
searching-start v cs first len w s =
    let c : NoneOpen (trail w v len) = forces-closed s.forces tt in
    record {
      numbered = s.numbered;
      held = s.held;
      frame = frame-none v (length (coded cs)) w;
      prefers = s.prefers;
      calm = s.calm;
      under = under-closed (0 + 1) (trail w v len) c;
      grounded = grounded-closed v (coded cs) (trail w v len) c;
      whole = whole-start v cs first s.numbered (trail w v len) c (from_start v cs first s.numbered (trail w v len) s.forces s.held.fresh);
    }

pub regions : {v head n : ℕ} {ds : List (List ℕ)} {w : List ℕ} → WorkHeld v ds head n w → Regions v w
regions h = record { small = h.small; room = omega (arith, h.room) }

-- what was quiet stays so with one entry one_more
quiet-push : (v t : ℕ) (ts D c : List ℕ) → t / 2 / 2 < v → Quiet D (values v ts) c → Quiet D (values v (t ∷ ts)) c
quiet-push v t ts D c h q =
    (q.0, λ u l. set-nonzero (values v ts) (t / 2 / 2) (1 + t / 2 % 2) (u / 2) (omega (arith, values_length v ts, h)) (omega arith) (q.1 u l))

-- where going back ends: an entry that is no choice, on a trail where every clause was quiet
abbrev Ground : ℕ → List (List ℕ) → List ℕ → Type 0
Ground v ds us = (t : ℕ) × (ts : List ℕ) × (us ≡ t ∷ ts) × (t % 2 ≡ 0) × AllQuiet v ds ts × Grounded v ds ts

back-ground : (v : ℕ) (ds : List (List ℕ)) {ts us : List ℕ} → BackTo ts us → Grounded v ds ts → Ground v ds us
back-ground v ds (flips {ts} t e) g = (2 * negated (t / 2) + 0, ts, refl, omega arith, g.0 e, g.1)
back-ground v ds (pops t e b) g = back-ground v ds b g.1

module _ (v : ℕ) (cs : List PropClause) (first : ℕ → Bool) (w₀ : List ℕ) (head n k : ℕ) (w : List ℕ) (s : Searching v cs first w₀ head n k w)
    (head₁ n₁ : ℕ) (clash : Bool) (w₁ : List ℕ) (p : Propagated v (coded cs) head n w head₁ n₁ clash w₁) where
  abbrev ds : List (List ℕ)
  ds = coded cs

  abbrev us : List ℕ
  us = trail w₁ v n₁

  frame₁ : Frame v (length ds) w₀ w₁
  frame₁ = frame-trans s.frame p.frame

  prefers₁ : Prefers v v first w₁
  prefers₁ = frame-prefers first s.prefers p.frame

  grounded₁ : Grounded v ds us
  grounded₁ = grounded-forced p.forces s.grounded

  whole₁ : Whole v cs first s.numbered k us
  whole₁ = whole-forces v cs first s.numbered k p.forces p.held.fresh s.whole

  falls₁ : potential v us ≤ potential v (trail w v n)
  falls₁ = forced-falls v p.forces

  -- a clash, and back to the latest open choice
  module _ (clashes : clash ≡ true) (head₂ n₂ : ℕ) (back : Bool) (w₂ : List ℕ) (r : Returned v ds head₁ n₁ w₁ head₂ n₂ back w₂) where
    frame₂ : Frame v (length ds) w₀ w₂
    frame₂ = frame-trans frame₁ r.frame

    pub search-none : back ≡ false → (allowed : ℕ) → k ≤ allowed → Solved v cs first allowed (Exhausted k) w₀ w₂
    search-none e allowed h =
        record {
          ends = ends_so v cs first allowed k none (whole-none v cs first s.numbered k us p.held.fresh (p.void clashes) (r.closed e) whole₁) h;
          frame = frame-coded cs frame₂;
        }

    module _ (b : back ≡ true) where
      level : head₂ + 1 ≡ n₂
      level = r.level b (under_more (head + 1) head₁ us (omega (arith, p.ahead clashes)) (under-forced (head + 1) p.forces s.under))

      pub back-falls₁ : potential v (trail w₂ v n₂) < potential v (trail w v n)
      back-falls₁ = omega (arith, back-falls v (r.back b), falls₁)

      abbrev g : Ground v ds (trail w₂ v n₂)
      g = back-ground _ _ (r.back b) grounded₁

      trail₂ : trail w₂ v n₂ ≡ get_or w₂ (v + head₂) 0 ∷ trail w₂ v head₂
      trail₂ = ap (trail w₂ v) (sym level ∙ add-one head₂)

      tail : trail w₂ v head₂ ≡ g.1
      tail = cons_tail (sym trail₂ ∙ g.2)
        where
          cons_tail : {a b : ℕ} {xs ys : List ℕ} → a ∷ xs ≡ b ∷ ys → xs ≡ ys
          cons_tail e = cc

      calm₂ : Calm v ds head₂ n₂ w₂
      calm₂ i h =
          subst⁻¹ (λ (l : List ℕ). Quiet (falses (trail w₂ v head₂)) (values v l) (get_or ds i [])) trail₂
          (quiet-push v (get_or w₂ (v + head₂) 0) (trail w₂ v head₂) (falses (trail w₂ v head₂)) (get_or ds i []) (subst (λ (l : List ℕ). Fresh v l) trail₂ r.held.fresh).0
          (subst⁻¹ (λ (l : List ℕ). Quiet (falses l) (values v l) (get_or ds i [])) tail (g.4 i h)))

      pub search-back : Searching v cs first w₀ head₂ n₂ k w₂
      search-back =
          record {
            numbered = s.numbered;
            held = r.held;
            frame = frame₂;
            prefers = frame-prefers first prefers₁ r.frame;
            calm = calm₂;
            under = under_all (head₂ + 1) (trail w₂ v n₂) (omega (arith, level, trail-length v w₂ n₂));
            grounded = subst⁻¹ (Grounded v ds) g.2 (λ e. absurd (omega (arith, e, g.3)), g.5);
            whole = whole_back v cs first s.numbered k us (trail w₂ v n₂) p.held.fresh (p.void clashes) (r.back b) whole₁;
          }

  -- no clash: every clause is quiet
  module _ (calm : clash ≡ false) where
    quiet : AllQuiet v ds us
    quiet i h = subst (λ (k : ℕ). Quiet (falses (trail w₁ v k)) (values v us) (get_or ds i [])) (p.calm calm).0 ((p.calm calm).1 i h)

    value : (y : ℕ) → y < v → get_or w₁ y 0 ≡ get_or (values v us) y 0
    value y h = sym (get_or-take v w₁ y 0 h) ∙ ap (λ (l : List ℕ). get_or l y 0) p.held.gives

    -- what is the lowest unset variable of the values is that of the trail
    lowest-given : lowest (partial v us) ≡ lowest (partial_of (take v w₁))
    lowest-given = ap (λ (l : List ℕ). lowest (partial_of l)) (sym p.held.gives)

    pub search-found : lowest (partial_of (take v w₁)) ≡ none → (allowed : ℕ) → k ≤ allowed → Solved v cs first allowed (Found k) w₀ w₁
    search-found low allowed h =
        record {
          ends = ap (λ (zs : List ℕ). ended (some (setting_of zs)) k) p.held.gives
              ∙ ends_so v cs first allowed k (some (setting_of (values v us))) (whole-found v cs first s.numbered k us p.held.fresh quiet (lowest-given ∙ low) whole₁) h;
          frame = frame-coded cs frame₁;
        }

    module _ (x : ℕ) (low : lowest (partial_of (take v w₁)) ≡ some x) where
      -- a choice is needed, and none is left
      pub search-stopped : (allowed : ℕ) → allowed ≤ k → Solved v cs first allowed Stopped w₀ w₁
      search-stopped allowed h =
          let more = whole-more v cs first s.numbered k us p.held.fresh quiet x (lowest-given ∙ low) whole₁ in
          record { ends = sym (cut-stopped allowed (walked v cs first) (omega (arith, more, h))); frame = frame-coded cs frame₁ }

      pub inside : x < v
      inside = omega (arith, (lowest-is (values v us) x (lowest-given ∙ low)).0, values_length v us)

      no_value : get_or w₁ x 0 ≡ 0
      no_value = value x inside ∙ (lowest-is (values v us) x (lowest-given ∙ low)).1

      -- the literal that is tried first
      abbrev l : ℕ
      l = cond (first x) (2 * x) (2 * x + 1)

      prefers-is : preferred v x w₁ ≡ l
      prefers-is = ap (λ (k : ℕ). 2 * x + cond (eqb k 1) 0 1) (prefers₁ x inside) ∙ by (first x)
        where
          by : (b : Bool) → 2 * x + cond (eqb (cond b 1 0) 1) 0 1 ≡ cond b (2 * x) (2 * x + 1)
          by true = omega arith
          by false = refl

      half : (b : Bool) → cond b (2 * x) (2 * x + 1) / 2 ≡ x
      half true = omega arith
      half false = omega arith

      module _ (u : ℕ) (ue : u ≡ preferred v x w₁) where
        is : u ≡ l
        is = ue ∙ prefers-is

        variable : u / 2 ≡ x
        variable = ap (λ (k : ℕ). k / 2) is ∙ half (first x)

        named : u / 2 < v
        named = rw variable inside

        unset : get_or w₁ (u / 2) 0 ≡ 0
        unset = ap (λ (k : ℕ). get_or w₁ k 0) variable ∙ no_value

        choice-free : n₁ < v
        choice-free = free v ds head₁ n₁ w₁ p.held u 1 (omega arith) named unset

        pub choice-pushable : (mark : ℕ) → mark < 2 → Pushable v n₁ u mark w₁
        choice-pushable mark h =
            record {
              variable = named;
              entry = choice-free;
              small = omega (arith, named, p.held.small);
              marked = h;
              within = omega (arith, p.held.room);
            }

        module _ (w₂ : List ℕ) (e₂ : w₂ ≡ pushed v n₁ u 1 w₁) where
          trail-new : trail w₂ v (n₁ + 1) ≡ (2 * l + 1) ∷ us
          trail-new =
              ap (λ (l : List ℕ). trail l v (n₁ + 1)) e₂
              ∙ pushed-trail v ds head₁ n₁ w₁ p.held u 1 (omega arith) named unset
              ∙ ap (λ (k : ℕ). (2 * k + 1) ∷ us) is

          trail-head : trail w₂ v head₁ ≡ trail w₁ v head₁
          trail-head = ap (λ (l : List ℕ). trail l v head₁) e₂ ∙ older v ds head₁ n₁ w₁ p.held u 1 (omega arith) named unset head₁ p.held.head-len

          held₂ : WorkHeld v ds head₁ (n₁ + 1) w₂
          held₂ = subst⁻¹ (λ (l : List ℕ). WorkHeld v ds head₁ (n₁ + 1) l) e₂ (pushed-held v ds head₁ n₁ w₁ p.held u 1 (omega arith) named unset)

          frame₃ : Frame v (length ds) w₁ w₂
          frame₃ = subst⁻¹ (λ (l : List ℕ). Frame v (length ds) w₁ l) e₂ (pushed-frame v ds head₁ n₁ w₁ p.held u 1 (omega arith) named unset)

          pub choice-falls₁ : potential v (trail w₂ v (n₁ + 1)) < potential v (trail w v n)
          choice-falls₁ =
              subst⁻¹ (λ (l : List ℕ). potential v l < potential v (trail w v n)) trail-new
              (omega (arith, choice-falls v l us (omega (arith, trail-length v w₁ n₁, choice-free)), falls₁))

          pub search-choice : Searching v cs first w₀ head₁ (n₁ + 1) (k + 1) w₂
          search-choice =
              record {
                numbered = s.numbered;
                held = held₂;
                frame = frame-trans frame₁ frame₃;
                prefers = frame-prefers first prefers₁ frame₃;
                calm = λ i h.
                    subst⁻¹ (λ (l : List ℕ). Quiet (falses (trail w₂ v head₁)) (values v l) (get_or ds i [])) trail-new
                    (subst⁻¹ (λ (k : List ℕ). Quiet (falses k) (values v ((2 * l + 1) ∷ us)) (get_or ds i [])) trail-head
                    (quiet-push v (2 * l + 1) us (falses (trail w₁ v head₁)) (get_or ds i []) (subst (λ (l : List ℕ). Fresh v l) trail-new held₂.fresh).0 ((p.calm calm).1 i h)));
                under = under_all (head₁ + 1) (trail w₂ v (n₁ + 1)) (omega (arith, (p.calm calm).0, trail-length v w₂ (n₁ + 1)));
                grounded = subst⁻¹ (Grounded v ds) trail-new (λ e. quiet, grounded₁);
                whole =
                    subst⁻¹ (Whole v cs first s.numbered (k + 1)) trail-new
                    (whole-choice v cs first s.numbered k us p.held.fresh quiet x (lowest-given ∙ low) whole₁);
              }
