-- AllowedFind: Find with an allowance, on bytes.
use Prim.Native.Nat.{ℕ, zero, ◌≤◌, ◌<◌}
use mathlib.Core.Path.{◌≡◌, refl, sym, ap, ◌∙◌, subst}
use mathlib.Core.Logic.{◌⊎◌, inl, inr}
use mathlib.Core.Bool.{Bool, true, false, ◌&&◌}
use mathlib.Core.Option.{Option}
use mathlib.Core.List.{List}
use native.Mathlib.Omega.{arith}
use lib.Dec.{leb}
use Rattle.theory.specs.Refusals.{Refusal, answer, refused, unplaced, needing, check}
use Rattle.theory.specs.Problem.{Problem}
use Rattle.theory.specs.CaseText.{Case, case_length}
use Rattle.theory.specs.Operations.{max_size, max_instances, Search}
use Rattle.theory.proofs.Tests.{leb-true, leb-of-≤, leb-of-<, and_left}
use Rattle.theory.proofs.Answers.{unbind, unrefused, bind-step, bind-refused, answer-inj, answer≢refused, check-true, check-of-true, check-of-false, check-so, refused-so}
use Rattle.theory.proofs.PlacedReading.{placed-problem}
use Rattle.naming.specs.NamedOperations.{read_problem_in, placed_in, mode_problem}
use Rattle.naming.proofs.Naming.{naming}
use Rattle.naming.proofs.Reading.{placed-named}
use Rattle.symmetry.specs.ConstantClauses.{instance_count_with, work_needed_with}
use Rattle.symmetry.specs.Obeying.{smallest_with}
use Rattle.symmetry.specs.SymmetricOperations.{shown_in, search_in, find_result_with}
use Rattle.symmetry.proofs.Chains.{find_chain, find-chain}
use Rattle.symmetry.proofs.Searched.{Read, read-in}
use Rattle.allowance.specs.AllowedSearch.{counted_search, Allowed, answered, stopped_at, search_within}
use Rattle.allowance.specs.AllowedFind.{max_allowance, Stoppable, finished, stopped, within_in, find_within}
use Rattle.allowance.specs.Claims.Allowance.{UsedUp, Allowance}
use Rattle.allowance.specs.Claims.AllowedFind.{choices_needed, AllowedFindHolds, SameRefusals}
use Rattle.allowance.proofs.AllowedWalk.{at-most-or-more}
use Rattle.allowance.proofs.Allowance.{allowance}

finished-inj : (r s : Search) (m n : ℕ) → finished r m ≡ finished s n → (r ≡ s) × (m ≡ n)
finished-inj r s m n e = (cc, cc)

stopped_inj : (s t m n : ℕ) → ◌≡◌ {A = Stoppable Search} (stopped s m) (stopped t n) → (s ≡ t) × (m ≡ n)
stopped_inj s t m n e = (cc, cc)

stopped≢finished : (s m : ℕ) (r : Search) (n : ℕ) → stopped s m ≡ finished r n → ⊥
stopped≢finished s m r n e = let z : ◌≡◌ {A = ℕ} 0 1 = cc in omega arith

check-not-refused : (b : Bool) (r s : Refusal) → b ≡ true → check b s ≡ refused r → ⊥
check-not-refused b r s h e = answer≢refused tt r (sym (check-of-true b s h) ∙ e)

-- what is read is read with columns too
placed-in : (named : Bool) (sheet : List ℕ) (p : Problem) → read_problem_in named sheet ≡ answer p → placed_in named sheet ≡ answer p
placed-in false sheet p e = placed-problem sheet p e
placed-in true sheet p e = placed-named sheet p e

-- the search without an allowance is Find's
searched-is : (named symmetry : Bool) (p : Problem) (low high : ℕ) → Read p → zero < low
    → (counted_search symmetry (mode_problem named p) low high).case ≡ smallest_with symmetry (mode_problem named p) low high
searched-is false symmetry p low high r pos = (allowance symmetry p low high).plain pos r.sheet.clauses
searched-is true symmetry p low high r pos = (allowance symmetry (mode_problem true p) low high).plain pos (naming p low pos r.sheet).clauses

module _ (named symmetry : Bool) (sheet : List ℕ) (p : Problem) (low high work room : ℕ) (read : read_problem_in named sheet ≡ answer p) where
  abbrev q : Problem
  q = mode_problem named p

  -- nothing is refused but perhaps the allowance
  record Accepted : Type 0 where
    sizes : (leb 1 low && leb high max_size && leb low high) ≡ true
    count : leb (instance_count_with symmetry high q.symbols q.clauses) max_instances ≡ true
    space : leb (work_needed_with symmetry high q.symbols q.clauses) work ≡ true
    output : leb (case_length high (shown_in named q.symbols)) room ≡ true

  placed : placed_in named sheet ≡ answer p
  placed = placed-in named sheet p read

  law : Allowance symmetry q low high
  law = allowance symmetry q low high

  -- the problem that was read is p
  module _ (t : Problem) (h : placed_in named sheet ≡ answer t) where
    same-problem : p ≡ t
    same-problem = answer-inj p t (sym placed ∙ h)

    accepted : (leb 1 low && leb high max_size && leb low high) ≡ true
        → leb (instance_count_with symmetry high (mode_problem named t).symbols (mode_problem named t).clauses) max_instances ≡ true
        → leb (work_needed_with symmetry high (mode_problem named t).symbols (mode_problem named t).clauses) work ≡ true
        → leb (case_length high (shown_in named (mode_problem named t).symbols)) room ≡ true → Accepted
    accepted a b c d =
        record {
          sizes = a;
          count = ap (λ (t : Problem). leb (instance_count_with symmetry high (mode_problem named t).symbols (mode_problem named t).clauses) max_instances) same-problem ∙ b;
          space = ap (λ (t : Problem). leb (work_needed_with symmetry high (mode_problem named t).symbols (mode_problem named t).clauses) work) same-problem ∙ c;
          output = ap (λ (t : Problem). leb (case_length high (shown_in named (mode_problem named t).symbols)) room) same-problem ∙ d;
        }

  -- a result of Find
  has_result : (r : Search) → find_result_with named symmetry sheet low high work room ≡ answer r → Accepted × (search_in named q low high (smallest_with symmetry q low high) ≡ r)
  unfolding find_chain
  has_result r e =
      unbind _ _ r (sym (find-chain named symmetry sheet low high work room) ∙ e) λ (t : Problem) h₁ e₁.
      unbind _ _ r e₁ λ (u₁ : Unit {0}) h₂ e₂.
      unbind _ _ r e₂ λ (u₂ : Unit {0}) h₃ e₃.
      unbind _ _ r e₃ λ (u₃ : Unit {0}) h₄ e₄.
      unbind _ _ r e₄ λ (u₄ : Unit {0}) h₅ e₅.
      let of : Problem → Search = λ t. search_in named (mode_problem named t) low high (smallest_with symmetry (mode_problem named t) low high) in (
        accepted t h₁ (check-true _ (unplaced 8) u₁ h₂) (check-true _ (unplaced 9) u₂ h₃)
            (check-true _ (needing 10 (work_needed_with symmetry high (mode_problem named t).symbols (mode_problem named t).clauses)) u₃ h₄)
            (check-true _ (needing 11 (case_length high (shown_in named (mode_problem named t).symbols))) u₄ h₅),
        ap of (same-problem t h₁) ∙ answer-inj (of t) r e₅,
      )

  gives-result : Accepted → find_result_with named symmetry sheet low high work room ≡ answer (search_in named q low high (smallest_with symmetry q low high))
  unfolding find_chain
  gives-result k =
      find-chain named symmetry sheet low high work room
      ∙ bind-step _ _ p _ placed (bind-step _ _ tt _ (check-of-true _ (unplaced 8) k.sizes) (bind-step _ _ tt _ (check-of-true _ (unplaced 9) k.count)
      (bind-step _ _ tt _ (check-of-true _ (needing 10 (work_needed_with symmetry high q.symbols q.clauses)) k.space)
      (bind-step _ _ tt _ (check-of-true _ (needing 11 (case_length high (shown_in named q.symbols))) k.output) refl))))

  -- a result of Find with an allowance
  has_within : (a : ℕ) (w : Stoppable Search) → find_within named symmetry sheet low high a work room ≡ answer w
      → Accepted × (a ≤ max_allowance) × (within_in named q low high a (search_within symmetry q low high a) ≡ w)
  unfolding find_within
  has_within a w e =
      unbind _ _ w e λ (t : Problem) h₁ e₁.
      unbind _ _ w e₁ λ (u₁ : Unit {0}) h₂ e₂.
      unbind _ _ w e₂ λ (u₀ : Unit {0}) h₀ e₀.
      unbind _ _ w e₀ λ (u₂ : Unit {0}) h₃ e₃.
      unbind _ _ w e₃ λ (u₃ : Unit {0}) h₄ e₄.
      unbind _ _ w e₄ λ (u₄ : Unit {0}) h₅ e₅.
      let of : Problem → Stoppable Search = λ t. within_in named (mode_problem named t) low high a (search_within symmetry (mode_problem named t) low high a) in (
        accepted t h₁ (check-true _ (unplaced 8) u₁ h₂) (check-true _ (unplaced 9) u₂ h₃)
            (check-true _ (needing 10 (work_needed_with symmetry high (mode_problem named t).symbols (mode_problem named t).clauses)) u₃ h₄)
            (check-true _ (needing 11 (case_length high (shown_in named (mode_problem named t).symbols))) u₄ h₅),
        leb-true a max_allowance (check-true (leb a max_allowance) (unplaced 24) u₀ h₀),
        ap of (same-problem t h₁) ∙ answer-inj (of t) w e₅,
      )

  gives-within : (a : ℕ) → Accepted → a ≤ max_allowance → find_within named symmetry sheet low high a work room ≡ answer (within_in named q low high a (search_within symmetry q low high a))
  unfolding find_within
  gives-within a k h =
      bind-step _ _ p _ placed (bind-step _ _ tt _ (check-of-true _ (unplaced 8) k.sizes) (bind-step _ _ tt _ (check-of-true (leb a max_allowance) (unplaced 24) (leb-of-≤ a max_allowance h))
      (bind-step _ _ tt _ (check-of-true _ (unplaced 9) k.count) (bind-step _ _ tt _ (check-of-true _ (needing 10 (work_needed_with symmetry high q.symbols q.clauses)) k.space)
      (bind-step _ _ tt _ (check-of-true _ (needing 11 (case_length high (shown_in named q.symbols))) k.output) refl)))))

  -- the search without an allowance is Find's
  plain : Accepted → (counted_search symmetry q low high).case ≡ smallest_with symmetry q low high
  plain k =
      searched-is named symmetry p low high (read-in named sheet p read)
      (leb-true 1 low (and_left (leb 1 low) (leb high max_size) (and_left (leb 1 low && leb high max_size) (leb low high) k.sizes)))

  same : (a n : ℕ) (r : Search) → find_within named symmetry sheet low high a work room ≡ answer (finished r n)
      → (find_result_with named symmetry sheet low high work room ≡ answer r) × (n ≡ choices_needed named symmetry p low high) × (n ≤ a)
  same a n r e = let k = has_within a (finished r n) e in go (search_within symmetry q low high a) refl k.0 k.2
    where
      go : (w : Allowed) → search_within symmetry q low high a ≡ w → Accepted → within_in named q low high a (search_within symmetry q low high a) ≡ finished r n
          → (find_result_with named symmetry sheet low high work room ≡ answer r) × (n ≡ choices_needed named symmetry p low high) × (n ≤ a)
      go (stopped_at s) h k i = absurd (stopped≢finished s a r n (ap (within_in named q low high a) (sym h) ∙ i))
      go (answered o m) h k i =
          let f = finished-inj (search_in named q low high o) r m n (ap (within_in named q low high a) (sym h) ∙ i) in
          let l = law.only a o m h in
          let number : m ≡ n = f.1 in
          let most : m ≤ a = l.2 in (
            gives-result k ∙ ap (λ (o : Option Case). answer (search_in named q low high o)) (sym (plain k) ∙ sym l.0) ∙ ap answer f.0,
            sym number ∙ l.1,
            omega (arith, number, most),
          )

  enough : (a : ℕ) (r : Search) → find_result_with named symmetry sheet low high work room ≡ answer r → choices_needed named symmetry p low high ≤ a → a ≤ max_allowance
      → find_within named symmetry sheet low high a work room ≡ answer (finished r (choices_needed named symmetry p low high))
  enough a r e h l =
      let k = has_result r e in
      let n : ℕ = choices_needed named symmetry p low high in
      gives-within a k.0 l
      ∙ ap (λ (w : Allowed). answer (within_in named q low high a w)) (law.enough a h)
      ∙ ap (λ (o : Option Case). answer (finished (search_in named q low high o) n)) (plain k.0)
      ∙ ap (λ (r : Search). answer (finished r n)) k.1

  too_few : (a : ℕ) (r : Search) → find_result_with named symmetry sheet low high work room ≡ answer r → a < choices_needed named symmetry p low high → a ≤ max_allowance
      → (s : ℕ) × (find_within named symmetry sheet low high a work room ≡ answer (stopped s a)) × UsedUp symmetry q low high a s
  too_few a r e h l =
      let k = has_result r e in
      let t = law.too_few a h in
      (t.0, gives-within a k.0 l ∙ ap (λ (w : Allowed). answer (within_in named q low high a w)) t.1, t.2)

  only-too-few : (a s n : ℕ) → find_within named symmetry sheet low high a work room ≡ answer (stopped s n)
      → (n ≡ a) × (a < choices_needed named symmetry p low high) × UsedUp symmetry q low high a s
  only-too-few a s n e = go (at-most-or-more (choices_needed named symmetry p low high) a)
    where
      i : within_in named q low high a (search_within symmetry q low high a) ≡ stopped s n
      i = (has_within a (stopped s n) e).2

      go : (choices_needed named symmetry p low high ≤ a) ⊎ (a < choices_needed named symmetry p low high) → (n ≡ a) × (a < choices_needed named symmetry p low high) × UsedUp symmetry q low high a s
      go (inl h) = absurd (stopped≢finished s n _ _ (sym i ∙ ap (within_in named q low high a) (law.enough a h)))
      go (inr h) =
          let t = law.too_few a h in
          let same_stop = stopped_inj t.0 s a n (ap (within_in named q low high a) (sym t.1) ∙ i) in
          (sym same_stop.1, h, subst (UsedUp symmetry q low high a) same_stop.0 t.2)

  larger : (a b n : ℕ) (r : Search) → find_within named symmetry sheet low high a work room ≡ answer (finished r n) → a ≤ b → b ≤ max_allowance
      → find_within named symmetry sheet low high b work room ≡ answer (finished r n)
  larger a b n r e le lim =
      let s = same a n r e in
      let number : n ≡ choices_needed named symmetry p low high = s.1 in
      let most : n ≤ a = s.2 in
      enough b r s.0 (omega (arith, number, most, le)) lim ∙ ap (λ (n : ℕ). answer (finished r n)) (sym number)

  too_large : (a : ℕ) → max_allowance < a → (leb 1 low && leb high max_size && leb low high) ≡ true → find_within named symmetry sheet low high a work room ≡ refused (unplaced 24)
  unfolding find_within
  too_large a h e =
      bind-step _ _ p _ placed (bind-step _ _ tt _ (check-of-true _ (unplaced 8) e)
      (bind-refused _ _ (unplaced 24) (check-of-false (leb a max_allowance) (unplaced 24) (leb-of-< a max_allowance h))))

  sizes-first : (a : ℕ) → (leb 1 low && leb high max_size && leb low high) ≡ false → find_within named symmetry sheet low high a work room ≡ refused (unplaced 8)
  unfolding find_within
  sizes-first a e = bind-step _ _ p _ placed (bind-refused _ _ (unplaced 8) (check-of-false _ (unplaced 8) e))

-- the theorem
pub allowed-find : AllowedFindHolds
allowed-find named symmetry sheet p low high work room read =
    record {
      same = same named symmetry sheet p low high work room read;
      enough = enough named symmetry sheet p low high work room read;
      too_few = too_few named symmetry sheet p low high work room read;
      only_too_few = only-too-few named symmetry sheet p low high work room read;
      larger = larger named symmetry sheet p low high work room read;
      too_large = too_large named symmetry sheet p low high work room read;
      sizes_first = sizes-first named symmetry sheet p low high work room read;
    }

-- the chain with the check of the allowance, and without it
module _ (named symmetry : Bool) (sheet : List ℕ) (low high a work room : ℕ) (r : Refusal) (lim : a ≤ max_allowance) where
  within-limit : leb a max_allowance ≡ true
  within-limit = leb-of-≤ a max_allowance lim

  refused-before : find_within named symmetry sheet low high a work room ≡ refused r → find_result_with named symmetry sheet low high work room ≡ refused r
  unfolding find_within find_chain
  refused-before e =
      find-chain named symmetry sheet low high work room
      ∙ (unrefused _ _ r e (λ m. bind-refused _ _ r m) λ (q : Problem) h₁ e₁.
      unrefused _ _ r e₁ (λ m. bind-step _ _ q _ h₁ (bind-refused _ _ r m)) λ (u₁ : Unit {0}) h₂ e₂.
      unrefused _ _ r e₂ (λ m. absurd (check-not-refused (leb a max_allowance) r (unplaced 24) within-limit m)) λ (u₀ : Unit {0}) h₀ e₀.
      unrefused _ _ r e₀ (λ m. bind-step _ _ q _ h₁ (bind-step _ _ u₁ _ h₂ (bind-refused _ _ r m))) λ (u₂ : Unit {0}) h₃ e₃.
      unrefused _ _ r e₃ (λ m. bind-step _ _ q _ h₁ (bind-step _ _ u₁ _ h₂ (bind-step _ _ u₂ _ h₃ (bind-refused _ _ r m)))) λ (u₃ : Unit {0}) h₄ e₄.
      unrefused _ _ r e₄ (λ m. bind-step _ _ q _ h₁ (bind-step _ _ u₁ _ h₂ (bind-step _ _ u₂ _ h₃ (bind-step _ _ u₃ _ h₄ (bind-refused _ _ r m))))) λ (u₄ : Unit {0}) h₅ e₅.
      absurd (answer≢refused (within_in named (mode_problem named q) low high a (search_within symmetry (mode_problem named q) low high a)) r e₅))

  refused-too : find_result_with named symmetry sheet low high work room ≡ refused r → find_within named symmetry sheet low high a work room ≡ refused r
  unfolding find_within find_chain
  refused-too e =
      let allowed : check (leb a max_allowance) (unplaced 24) ≡ answer tt = check-of-true (leb a max_allowance) (unplaced 24) within-limit in
      unrefused _ _ r (sym (find-chain named symmetry sheet low high work room) ∙ e) (λ m. bind-refused _ _ r m) λ (q : Problem) h₁ e₁.
      unrefused _ _ r e₁ (λ m. bind-step _ _ q _ h₁ (bind-refused _ _ r m)) λ (u₁ : Unit {0}) h₂ e₂.
      unrefused _ _ r e₂ (λ m. bind-step _ _ q _ h₁ (bind-step _ _ u₁ _ h₂ (bind-step _ _ tt _ allowed (bind-refused _ _ r m)))) λ (u₂ : Unit {0}) h₃ e₃.
      unrefused _ _ r e₃ (λ m. bind-step _ _ q _ h₁ (bind-step _ _ u₁ _ h₂ (bind-step _ _ tt _ allowed (bind-step _ _ u₂ _ h₃ (bind-refused _ _ r m))))) λ (u₃ : Unit {0}) h₄ e₄.
      unrefused _ _ r e₄ (λ m. bind-step _ _ q _ h₁ (bind-step _ _ u₁ _ h₂ (bind-step _ _ tt _ allowed (bind-step _ _ u₂ _ h₃ (bind-step _ _ u₃ _ h₄ (bind-refused _ _ r m)))))) λ (u₄ : Unit {0}) h₅ e₅.
      absurd (answer≢refused (search_in named (mode_problem named q) low high (smallest_with symmetry (mode_problem named q) low high)) r e₅)

pub same-refusals : SameRefusals
same-refusals named symmetry sheet low high a work room r lim = (refused-before named symmetry sheet low high a work room r lim, refused-too named symmetry sheet low high a work room r lim)

-- whatever the allowance: what is refused is refused without it, but for 24
pub refused-or-24 : (named symmetry : Bool) (sheet : List ℕ) (low high a work room : ℕ) (r : Refusal) → find_within named symmetry sheet low high a work room ≡ refused r
    → (find_result_with named symmetry sheet low high work room ≡ refused r) ⊎ (r ≡ unplaced 24)
unfolding find_within find_chain
refused-or-24 named symmetry sheet low high a work room r e =
    let chain = find-chain named symmetry sheet low high work room in
    unrefused _ _ r e (λ m. inl (chain ∙ bind-refused _ _ r m)) λ (q : Problem) h₁ e₁.
    unrefused _ _ r e₁ (λ m. inl (chain ∙ bind-step _ _ q _ h₁ (bind-refused _ _ r m))) λ (u₁ : Unit {0}) h₂ e₂.
    unrefused _ _ r e₂ (λ m. inr (refused-so (λ (q : Refusal). q ≡ unplaced 24) (check (leb a max_allowance) (unplaced 24)) r (check-so (λ (q : Refusal). q ≡ unplaced 24) (leb a max_allowance) (unplaced 24) (λ _. refl)) m)) λ (u₀ : Unit {0}) h₀ e₀.
    inl ((same-refusals named symmetry sheet low high a work room r (leb-true a max_allowance (check-true (leb a max_allowance) (unplaced 24) u₀ h₀))).0 e)
