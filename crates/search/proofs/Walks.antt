-- The theory's walk from the partial valuation of a trail: forced entries change nothing, a wholly false clause ends it, and where every clause is quiet it ends or chooses.
use mathlib.Core.Path.{◌≡◌, refl, sym, ap, ◌∙◌, subst}
use mathlib.Core.Bool.{Bool, true, false, cond, not}
use mathlib.Core.Option.{none, some}
use mathlib.Core.List.{List, [], ◌∷◌}
use Prim.Native.Nat.{ℕ, zero, suc, ◌+◌, ◌*◌, ◌/◌, ◌%◌, ◌<◌}
use native.Mathlib.Nat.{not-suc-le-zero, le_of_suc-le-suc}
use native.Mathlib.Omega.{arith}
use borrow.Author.Tests.{eq-eqb, ne_eqb}
use lib.Dec.{eqb}
use lib.ListN.{length, get_or, set, length-map}
use Rattle.theory.specs.Lists.{all}
use Rattle.theory.specs.Propositional.{PropClause}
use Rattle.theory.specs.Claims.Counts.{is_numbered}
use Rattle.theory.specs.Claims.Walk.{Member, here, there}
use Rattle.theory.specs.Walk.{Partial, status, quiet, lowest, bytes_of, Walked, choose, walk_step, walked}
use Rattle.theory.proofs.Lists.{all-at, map_at}
use Rattle.theory.proofs.Propagation.{Stable}
use Rattle.theory.proofs.AnyOrder.{walk_from, walked_from, walk-failed, walk-forced, walk-stable}
use Rattle.propagation.specs.Clauses.{codes, once, coded}
use Rattle.propagation.specs.WorkArea.{negated, values, Fresh, falses, live}
use Rattle.propagation.specs.Forcing.{Forces, no_more, one_more, Void, Quiet}
use Rattle.propagation.proofs.Trails.{negated-half, negated-sign}
use Rattle.search.proofs.Partials.{partial, literal_of, partial-push, partial-none}
use Rattle.search.proofs.Statuses.{failed-status, forces-status, quiet-status}

-- no clause forces a literal, and none is wholly false
abbrev pub AllQuiet : ℕ → List (List ℕ) → List ℕ → Type 0
AllQuiet v ds ts = (i : ℕ) → i < length ds → Quiet (falses ts) (values v ts) (get_or ds i [])

-- a walk that finds nothing and makes no choice
abbrev pub nothing : Walked
nothing = record { answer = none; choices = 0 }

member-at : (cs : List PropClause) (i : ℕ) → i < length cs → Member (get_or cs i []) cs
member-at [] i h = absurd (not-suc-le-zero h)
member-at (c ∷ cs) zero h = here
member-at (c ∷ cs) (suc i) h = there (member-at cs i (le_of_suc-le-suc h))

member-place : (c : PropClause) (cs : List PropClause) → Member c cs → (i : ℕ) × (i < length cs) × (get_or cs i [] ≡ c)
member-place c [] m = elim m [ ]
member-place c (d ∷ cs) here = (0, omega arith, refl)
member-place c (d ∷ cs) (there m) = let p = member-place c cs m in (suc p.0, omega (arith, p.1), p.2)

module _ (v : ℕ) (cs : List PropClause) (first : ℕ → Bool) (numbered : all (all (is_numbered v)) cs ≡ true) where
  abbrev ds : List (List ℕ)
  ds = coded cs

  clauses : length ds ≡ length cs
  clauses = length-map cs (λ c. once (codes c))

  -- the walk from a trail
  abbrev pub from : List ℕ → Walked
  from ts = walk_from cs first (partial v ts)

  module _ (i : ℕ) (is : i < length ds) where
    abbrev c : PropClause
    c = get_or cs i []

    in-cs : i < length cs
    in-cs = omega (arith, clauses, is)

    is-coded : get_or ds i [] ≡ once (codes c)
    is-coded = map_at (λ c. once (codes c)) cs i [] [] in-cs

    is-numbered : all (is_numbered v) c ≡ true
    is-numbered = all-at (all (is_numbered v)) [] cs i numbered in-cs

    is_member : Member c cs
    is_member = member-at cs i in-cs

  -- forced entries change nothing
  pub from-forces : {ts us : List ℕ} → Forces v ds ts us → Fresh v us → from ts ≡ from us
  from-forces no_more f = refl
  from-forces (one_more {ts' = ts'} i t g is even l named unset) f =
      from-forces g f.2
      ∙ walk-forced cs first (partial v ts') (c i is) (literal_of (t / 2)) (is_member i is)
      (forces-status v ts' f.2 (c i is) (is-numbered i is) (t / 2) (ap (λ (d : List ℕ). live (falses ts') d) (sym (is-coded i is)) ∙ l) named unset)
      ∙ ap (walk_from cs first) (sym (partial-push v t ts'))

  -- the whole walk is the walk from what is forced
  pub from_start : (ts : List ℕ) → Forces v ds [] ts → Fresh v ts → walked v cs first ≡ from ts
  from_start ts f fresh = walked_from cs first v ∙ ap (walk_from cs first) (sym (partial-none v)) ∙ from-forces f fresh

  -- at a wholly false clause the walk ends
  pub from-void : (ts : List ℕ) → Fresh v ts → Void ds (falses ts) → from ts ≡ nothing
  from-void ts f (i, is, e) =
      walk-failed cs first (partial v ts) (c i is) (is_member i is)
      (failed-status v ts f (c i is) (is-numbered i is) (ap (λ (d : List ℕ). live (falses ts) d) (sym (is-coded i is)) ∙ e))

  module _ (ts : List ℕ) (f : Fresh v ts) (q : AllQuiet v ds ts) where
    stable : Stable cs (partial v ts)
    stable d m =
        let p = member-place d cs m in
        let is : p.0 < length ds = omega (arith, clauses, p.1) in
        ap (status (partial v ts)) (sym p.2)
        ∙ quiet-status v ts f (c p.0 is) (is-numbered p.0 is)
        (subst (λ (d : List ℕ). Quiet (falses ts) (values v ts) d) (is-coded p.0 is) (q p.0 is))

    -- where all variables are set, the walk has found them
    pub from_end : lowest (partial v ts) ≡ none → from ts ≡ record { answer = some (bytes_of (partial v ts)); choices = 0 }
    from_end low = walk-stable cs first (partial v ts) stable ∙ ap (walk_step (walk_from cs first) first (partial v ts) quiet) low

    -- a choice for the lowest unset variable
    module _ (x : ℕ) (low : lowest (partial v ts) ≡ some x) where
      abbrev u : ℕ
      u = cond (first x) (2 * x) (2 * x + 1)

      half : (b : Bool) → cond b (2 * x) (2 * x + 1) / 2 ≡ x
      half true = omega arith
      half false = omega arith

      sign : (b : Bool) → eqb (cond b (2 * x) (2 * x + 1) % 2) 0 ≡ b
      sign true = eq-eqb (2 * x % 2) 0 (omega arith)
      sign false = ne_eqb ((2 * x + 1) % 2) 0 (λ e. omega (arith, e))

      other_sign : (b : Bool) → eqb (negated (cond b (2 * x) (2 * x + 1)) % 2) 0 ≡ not b
      other_sign true = ne_eqb (negated (2 * x) % 2) 0 (λ e. omega (arith, e, negated-sign (2 * x)))
      other_sign false = eq-eqb (negated (2 * x + 1) % 2) 0 (omega (arith, negated-sign (2 * x + 1)))

      with-entry : (t w : ℕ) (b : Bool) → t / 2 ≡ w → w / 2 ≡ x → eqb (w % 2) 0 ≡ b → partial v (t ∷ ts) ≡ set (partial v ts) x (some b)
      with-entry t w b e h s =
          partial-push v t ts
          ∙ ap (λ (k : ℕ). set (partial v ts) (k / 2) (some (eqb (k % 2) 0))) e
          ∙ ap (λ (k : ℕ). set (partial v ts) k (some (eqb (w % 2) 0))) h
          ∙ ap (λ (b : Bool). set (partial v ts) x (some b)) s

      pub from-choice : from ts ≡ choose (from ((2 * u + 1) ∷ ts)).answer (from ((2 * u + 1) ∷ ts)) (from ((2 * negated u + 0) ∷ ts))
      from-choice =
          let one : partial v ((2 * u + 1) ∷ ts) ≡ set (partial v ts) x (some (first x)) = with-entry (2 * u + 1) u (first x) (omega arith) (half (first x)) (sign (first x)) in
          let two : partial v ((2 * negated u + 0) ∷ ts) ≡ set (partial v ts) x (some (not (first x))) =
          with-entry (2 * negated u + 0) (negated u) (not (first x)) (omega arith) (negated-half u ∙ half (first x)) (other_sign (first x)) in
          walk-stable cs first (partial v ts) stable
          ∙ ap (walk_step (walk_from cs first) first (partial v ts) quiet) low
          ∙ ap (λ (π : Partial). choose (walk_from cs first π).answer (walk_from cs first π) (walk_from cs first (set (partial v ts) x (some (not (first x)))))) (sym one)
          ∙ ap (λ (π : Partial). choose (from ((2 * u + 1) ∷ ts)).answer (from ((2 * u + 1) ∷ ts)) (walk_from cs first π)) (sym two)
