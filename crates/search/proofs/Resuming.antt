-- What is left of the whole walk at a trail with open choices, and how each move of the search changes it.
use mathlib.Core.Path.{◌≡◌, refl, sym, ap, ◌∙◌}
use mathlib.Core.Bool.{Bool, true, false, cond}
use mathlib.Core.Option.{Option, none, some}
use mathlib.Core.List.{List, [], ◌∷◌}
use Prim.Native.Nat.{ℕ, suc, ◌+◌, ◌*◌, ◌/◌, ◌%◌, ◌<◌}
use native.Mathlib.Omega.{arith}
use borrow.Author.Tests.{eq-eqb, ne_eqb}
use lib.Dec.{eqb}
use Rattle.theory.specs.Lists.{all}
use Rattle.theory.specs.Propositional.{PropClause}
use Rattle.theory.specs.Claims.Counts.{is_numbered}
use Rattle.theory.specs.Walk.{lowest, bytes_of, Walked, choose, walked}
use Rattle.theory.specs.Valuation.{setting_of}
use Rattle.propagation.specs.Clauses.{coded}
use Rattle.propagation.specs.WorkArea.{negated, values, Fresh, falses}
use Rattle.propagation.specs.Forcing.{Forces, no_more, one_more, Void}
use Rattle.search.specs.Moves.{BackTo, flips, pops, NoneOpen}
use Rattle.search.proofs.Partials.{partial, partial-bytes}
use Rattle.search.proofs.Walks.{AllQuiet, nothing, from, from-forces, from-void, from_end, from-choice}

-- the walk with k choices one_more
abbrev pub added : ℕ → Walked → Walked
added k r = record { answer = r.answer; choices = k + r.choices }

-- the second walk, where the first one, whose answer this is, finds nothing
abbrev or_else : Option (List ℕ) → Walked → Walked → Walked
or_else (some σ) a b = a
or_else none a b = record { answer = b.answer; choices = a.choices + b.choices }

choose-added : (o : Option (List ℕ)) (a b : Walked) → a.answer ≡ o → choose o a b ≡ added 1 (or_else o a b)
choose-added (some σ) a b e =
    let n : suc a.choices ≡ 1 + a.choices = omega arith in
    ap (λ (o : Option (List ℕ)). record { answer = o; choices = suc a.choices }) (sym e) ∙ ap (λ (k : ℕ). record { answer = a.answer; choices = k }) n
choose-added none a b e =
    let n : suc (a.choices + b.choices) ≡ 1 + (a.choices + b.choices) = omega arith in
    ap (λ (k : ℕ). record { answer = b.answer; choices = k }) n

or_else-added : (k : ℕ) (o : Option (List ℕ)) (a b : Walked) → or_else o (added k a) b ≡ added k (or_else o a b)
or_else-added k (some σ) a b = refl
or_else-added k none a b =
    let n : k + a.choices + b.choices ≡ k + (a.choices + b.choices) = omega arith in
    ap (λ (k : ℕ). record { answer = b.answer; choices = k }) n

or_else-nothing : (b : Walked) → or_else none nothing b ≡ b
or_else-nothing b =
    let n : 0 + b.choices ≡ b.choices = omega arith in
    ap (λ (k : ℕ). record { answer = b.answer; choices = k }) n

added_none : (r : Walked) → added 0 r ≡ r
added_none r =
    let n : 0 + r.choices ≡ r.choices = omega arith in
    ap (λ (k : ℕ). record { answer = r.answer; choices = k }) n

added-end : (k : ℕ) (o : Option (List ℕ)) → added k (record { answer = o; choices = 0 }) ≡ record { answer = o; choices = k }
added-end k o =
    let n : k + 0 ≡ k = omega arith in
    ap (λ (k : ℕ). record { answer = o; choices = k }) n

added-added : (k : ℕ) (r : Walked) → added k (added 1 r) ≡ added (k + 1) r
added-added k r =
    let n : k + (1 + r.choices) ≡ k + 1 + r.choices = omega arith in
    ap (λ (k : ℕ). record { answer = r.answer; choices = k }) n

module _ (v : ℕ) (cs : List PropClause) (first : ℕ → Bool) (numbered : all (all (is_numbered v)) cs ≡ true) where
  abbrev go : List ℕ → Walked
  go = from v cs first numbered

  -- what the whole walk gives where the walk from the trail gives r: the open choices' other values are tried, the latest first
  abbrev pub later : List ℕ → Walked → Walked
  later [] r = r
  later (t ∷ ts) r = cond (eqb (t % 2) 1) (later ts (or_else r.answer r (go ((2 * negated (t / 2) + 0) ∷ ts)))) (later ts r)

  -- The whole walk has made k choices so far, and goes on from the trail.
  abbrev pub Whole : ℕ → List ℕ → Type 0
  Whole k ts = walked v cs first ≡ added k (later ts (go ts))

  later-shut : (t : ℕ) (ts : List ℕ) (r : Walked) → t % 2 ≡ 0 → later (t ∷ ts) r ≡ later ts r
  later-shut t ts r e =
      ap (λ (b : Bool). cond b (later ts (or_else r.answer r (go ((2 * negated (t / 2) + 0) ∷ ts)))) (later ts r)) (ne_eqb (t % 2) 1 (λ k. omega (arith, e, k)))

  later-open : (t : ℕ) (ts : List ℕ) (r : Walked) → t % 2 ≡ 1 → later (t ∷ ts) r ≡ later ts (or_else r.answer r (go ((2 * negated (t / 2) + 0) ∷ ts)))
  later-open t ts r e =
      ap (λ (b : Bool). cond b (later ts (or_else r.answer r (go ((2 * negated (t / 2) + 0) ∷ ts)))) (later ts r)) (eq-eqb (t % 2) 1 e)

  later-added : (k : ℕ) (ts : List ℕ) (r : Walked) → later ts (added k r) ≡ added k (later ts r)
  later-added k [] r = refl
  later-added k (t ∷ ts) r = by (eqb (t % 2) 1) (later-added k ts (or_else r.answer r o)) (later-added k ts r)
    where
      o : Walked
      o = go ((2 * negated (t / 2) + 0) ∷ ts)

      by : (b : Bool) → later ts (added k (or_else r.answer r o)) ≡ added k (later ts (or_else r.answer r o)) → later ts (added k r) ≡ added k (later ts r)
          → cond b (later ts (or_else r.answer (added k r) o)) (later ts (added k r)) ≡ added k (cond b (later ts (or_else r.answer r o)) (later ts r))
      by true p q = ap (later ts) (or_else-added k r.answer r o) ∙ p
      by false p q = q

  later-closed : (ts : List ℕ) (r : Walked) → NoneOpen ts → later ts r ≡ r
  later-closed [] r c = refl
  later-closed (t ∷ ts) r c = later-shut t ts r c.0 ∙ later-closed ts r c.1

  later-forces : {ts us : List ℕ} (r : Walked) → Forces v (coded cs) ts us → later us r ≡ later ts r
  later-forces r no_more = refl
  later-forces r (one_more {ts' = ts'} i t g is even l named unset) = later-shut t ts' r even ∙ later-forces r g

  later-found : (σ : List ℕ) (ts : List ℕ) (r : Walked) → r.answer ≡ some σ → later ts r ≡ r
  later-found σ [] r e = refl
  later-found σ (t ∷ ts) r e = by (eqb (t % 2) 1) (later-found σ ts r e)
    where
      o : Walked
      o = go ((2 * negated (t / 2) + 0) ∷ ts)

      by : (b : Bool) → later ts r ≡ r → cond b (later ts (or_else r.answer r o)) (later ts r) ≡ r
      by true p = ap (λ (a : Option (List ℕ)). later ts (or_else a r o)) e ∙ p
      by false p = p

  -- where nothing was found, the latest open choice's other value is tried
  later-back : {ts us : List ℕ} → BackTo ts us → later ts nothing ≡ later us (go us)
  later-back (flips {ts} t e) =
      later-open t ts nothing e
      ∙ ap (later ts) (or_else-nothing (go ((2 * negated (t / 2) + 0) ∷ ts)))
      ∙ sym (later-shut (2 * negated (t / 2) + 0) ts (go ((2 * negated (t / 2) + 0) ∷ ts)) (omega arith))
  later-back (pops {ts} t e b) = later-shut t ts nothing e ∙ later-back b

  pub whole-start : (ts : List ℕ) → NoneOpen ts → walked v cs first ≡ go ts → Whole 0 ts
  whole-start ts c e = e ∙ sym (added_none (go ts)) ∙ ap (added 0) (sym (later-closed ts (go ts) c))

  pub whole-forces : (k : ℕ) {ts us : List ℕ} → Forces v (coded cs) ts us → Fresh v us → Whole k ts → Whole k us
  whole-forces k {ts} {us} f fresh e =
      e ∙ ap (added k) (ap (later ts) (from-forces v cs first numbered f fresh) ∙ sym (later-forces (go us) f))

  pub whole_back : (k : ℕ) (ts us : List ℕ) → Fresh v ts → Void (coded cs) (falses ts) → BackTo ts us → Whole k ts → Whole k us
  whole_back k ts us f z b e = e ∙ ap (added k) (ap (later ts) (from-void v cs first numbered ts f z) ∙ later-back b)

  pub whole-none : (k : ℕ) (ts : List ℕ) → Fresh v ts → Void (coded cs) (falses ts) → NoneOpen ts → Whole k ts → walked v cs first ≡ record { answer = none; choices = k }
  whole-none k ts f z c e = e ∙ ap (added k) (ap (later ts) (from-void v cs first numbered ts f z) ∙ later-closed ts nothing c) ∙ added-end k none

  module _ (k : ℕ) (ts : List ℕ) (f : Fresh v ts) (q : AllQuiet v (coded cs) ts) where
    pub whole-found : lowest (partial v ts) ≡ none → Whole k ts → walked v cs first ≡ record { answer = some (setting_of (values v ts)); choices = k }
    whole-found low e =
        let r : Walked = record { answer = some (bytes_of (partial v ts)); choices = 0 } in
        e
        ∙ ap (added k) (ap (later ts) (from_end v cs first numbered ts f q low) ∙ later-found (bytes_of (partial v ts)) ts r refl)
        ∙ added-end k (some (bytes_of (partial v ts)))
        ∙ ap (λ (σ : List ℕ). record { answer = some σ; choices = k }) (partial-bytes (values v ts))

    -- a choice is one one_more, and leaves its other value open
    pub whole-choice : (x : ℕ) → lowest (partial v ts) ≡ some x → Whole k ts
        → Whole (k + 1) ((2 * cond (first x) (2 * x) (2 * x + 1) + 1) ∷ ts)
    whole-choice x low e =
        let u = cond (first x) (2 * x) (2 * x + 1) in
        let one = go ((2 * u + 1) ∷ ts) in
        let half : (2 * u + 1) / 2 ≡ u = omega arith in
        e
        ∙ ap (added k)
        (ap (later ts) (from-choice v cs first numbered ts f q x low ∙ choose-added one.answer one (go ((2 * negated u + 0) ∷ ts)) refl)
        ∙ later-added 1 ts (or_else one.answer one (go ((2 * negated u + 0) ∷ ts))))
        ∙ added-added k (later ts (or_else one.answer one (go ((2 * negated u + 0) ∷ ts))))
        ∙ ap (added (k + 1))
        (ap (λ (n : ℕ). later ts (or_else one.answer one (go ((2 * negated n + 0) ∷ ts)))) (sym half)
        ∙ sym (later-open (2 * u + 1) ts one (omega arith)))

    -- where a choice is needed, the whole walk makes more than k
    pub whole-more : (x : ℕ) → lowest (partial v ts) ≡ some x → Whole k ts → k < (walked v cs first).choices
    whole-more x low e =
        let us : List ℕ = (2 * cond (first x) (2 * x) (2 * x + 1) + 1) ∷ ts in
        let made : (walked v cs first).choices ≡ k + 1 + (later us (go us)).choices = ap (λ (r : Walked). r.choices) (whole-choice x low e) in
        omega (arith, made)
