-- Switches: how the answers under different switches compare.
use Prim.Native.Nat.{ℕ, zero, ◌≤◌, ◌<◌}
use mathlib.Core.Path.{◌≡◌, refl, sym, ap, ◌∙◌}
use mathlib.Core.Logic.{◌⊎◌, inl, inr}
use mathlib.Core.Bool.{Bool, true, false}
use mathlib.Core.Option.{Option, none, some}
use mathlib.Core.List.{List, []}
use native.Mathlib.Omega.{arith}
use lib.Dec.{leb}
use Rattle.theory.specs.Refusals.{Refusal, Answer, answer, refused, unplaced, needing, check}
use Rattle.theory.specs.Problem.{Problem}
use Rattle.theory.specs.CaseText.{Case, case_length}
use Rattle.theory.specs.Least.{smallest_model}
use Rattle.theory.specs.Operations.{max_instances, Search, found, search_of}
use Rattle.theory.proofs.Tests.{leb-true, leb-of-≤, lt-or-eq-or-gt}
use Rattle.theory.proofs.Answers.{answer-inj, refused-inj, answer≢refused, unbind, unrefused, bind-step, check-true, check-of-true}
use Rattle.theory.proofs.Least.{least}
use Rattle.naming.specs.NamedOperations.{mode_problem, read_problem_in}
use Rattle.naming.proofs.Reading.{reading}
use Rattle.symmetry.specs.ConstantClauses.{instance_count_with, work_needed_with}
use Rattle.symmetry.specs.Obeying.{smallest_with, constants_first}
use Rattle.symmetry.specs.SymmetricOperations.{shown_in, search_in, content_of_with, find_result_with}
use Rattle.symmetry.specs.Claims.Obeying.{Twins}
use Rattle.symmetry.specs.Claims.Switches.{without_case, Told, Switches}
use Rattle.symmetry.proofs.ConstantCounts.{instances-more, work-more}
use Rattle.symmetry.proofs.Obeying.{twins}
use Rattle.symmetry.proofs.Chains.{content_chain, content-chain, find_chain, find-chain}
use Rattle.symmetry.proofs.Searched.{Read, read_first, read-in, SearchedWith, chain-reads, searched-with}

-- plain and mode, one switch on both sides
same-in-both : (symmetry : Bool) (sheet : List ℕ) (low high work room work⁺ room⁺ : ℕ) (r r⁺ : Search)
    → find_result_with false symmetry sheet low high work room ≡ answer r → find_result_with true symmetry sheet low high work⁺ room⁺ ≡ answer r⁺ → r ≡ r⁺
same-in-both symmetry sheet low high work room work⁺ room⁺ r r⁺ e e⁺ =
    let a = chain-reads false symmetry sheet low high work room r e in
    let b = chain-reads true symmetry sheet low high work⁺ room⁺ r⁺ e⁺ in
    sym (searched-with false symmetry sheet a.0 low high work room r a.1 e).result
    ∙ ap (λ (p : Problem). search_of p low high (smallest_with symmetry p low high)) ((reading sheet).same a.0 b.0 a.1 b.1)
    ∙ (searched-with true symmetry sheet b.0 low high work⁺ room⁺ r⁺ b.1 e⁺).result

-- the two results of one sheet
module _ (p : Problem) (read : Read p) (low high : ℕ) (pos : zero < low) where
  t : Twins p
  t = twins.problems p read.sheet.clauses

  -- the sizes are the same, since both are the smallest that has a model
  same-sizes : (o o⁺ : Option Case) → smallest_model p low high ≡ o → smallest_with true p low high ≡ o⁺ → without_case (search_of p low high o) ≡ without_case (search_of p low high o⁺)
  same-sizes none none e e⁺ = refl
  same-sizes none (some k) e e⁺ = let z : none ≡ some k = sym ((t.none_alike low high pos).1 e) ∙ e⁺ in let n : ◌≡◌ {A = ℕ} 0 1 = cc in absurd (omega arith)
  same-sizes (some k) none e e⁺ = let z : none ≡ some k = sym ((t.none_alike low high pos).0 e⁺) ∙ e in let n : ◌≡◌ {A = ℕ} 0 1 = cc in absurd (omega arith)
  same-sizes (some k) (some k⁺) e e⁺ = ap (λ (s : ℕ). found s []) (go (lt-or-eq-or-gt k.size k⁺.size))
    where
      go : (k.size < k⁺.size) ⊎ ((k.size ≡ k⁺.size) ⊎ (k⁺.size < k.size)) → k.size ≡ k⁺.size
      go (inl lt) =
          let h = (least p).smallest low high k e in
          absurd ((t.found low high k⁺ pos e⁺).3 k.size k.values h.0 lt ((least p).is_least k.size k.values h.2).0)
      go (inr (inl q)) = q
      go (inr (inr lt)) =
          let h = t.found low high k⁺ pos e⁺ in
          absurd (((least p).smallest low high k e).3 k⁺.size k⁺.values h.0 lt (t.is_least k⁺.size k⁺.values h.2).0.model)

-- what two searches that are not refused found
module _ (named : Bool) (sheet : List ℕ) (p : Problem) (low high : ℕ) (r r⁺ : Search) (read : read_problem_in named sheet ≡ answer p) (told : Told sheet named low high r r⁺) where
  got : Read p
  got = read-in named sheet p read

  no_found : SearchedWith false p low high r
  no_found = searched-with named false sheet p low high told.work told.room r read told.no

  yes-found : SearchedWith true p low high r⁺
  yes-found = searched-with named true sheet p low high told.work⁺ told.room⁺ r⁺ read told.yes

  -- told no, the search of document 01
  plain-result : search_of p low high (smallest_model p low high) ≡ r
  plain-result = ap (search_of p low high) (sym ((t p got low high no_found.from_one).not_used low high)) ∙ no_found.result

  same_size : without_case r ≡ without_case r⁺
  same_size =
      ap without_case (sym plain-result) ∙ same-sizes p got low high no_found.from_one (smallest_model p low high) (smallest_with true p low high) refl refl ∙ ap without_case yes-found.result

  same_case : constants_first p.symbols ≡ true → r ≡ r⁺
  same_case first =
      sym plain-result ∙ ap (search_of p low high) (sym ((t p got low high no_found.from_one).same_case low high no_found.from_one (read_first p got) first)) ∙ yes-found.result

-- what is no more is within a bound too
still-within : (a b n : ℕ) → a ≤ b → leb b n ≡ true → leb a n ≡ true
still-within a b n h k = let l : b ≤ n = leb-true b n k in leb-of-≤ a n (omega arith)

-- a check that refuses gives its own refusal
check-refuses : (b : Bool) (r e : Refusal) → check b r ≡ refused e → e ≡ r
check-refuses true r e k = absurd (answer≢refused tt e k)
check-refuses false r e k = sym (refused-inj {A = Unit {0}} r e k)

module _ (named : Bool) (sheet : List ℕ) (low high work room : ℕ) where
  -- the check of the output
  abbrev fits : Problem → Answer (Unit {0})
  fits p = check (leb (case_length high (shown_in named (mode_problem named p).symbols)) room) (needing 11 (case_length high (shown_in named (mode_problem named p).symbols)))

  not-refused : (r⁺ : Search) → find_result_with named true sheet low high work room ≡ answer r⁺ → (r : Search) × (find_result_with named false sheet low high work room ≡ answer r)
  unfolding find_chain
  not-refused r⁺ e =
      unbind _ _ r⁺ (sym (find-chain named true sheet low high work room) ∙ e) λ (p : Problem) h₁ e₁.
      unbind _ _ r⁺ e₁ λ (u₁ : Unit {0}) h₂ e₂.
      unbind _ _ r⁺ e₂ λ (u₂ : Unit {0}) h₃ e₃.
      unbind _ _ r⁺ e₃ λ (u₃ : Unit {0}) h₄ e₄.
      unbind _ _ r⁺ e₄ λ (u₄ : Unit {0}) h₅ e₅.
      let q : Problem = mode_problem named p in
      let i : leb (instance_count_with false high q.symbols q.clauses) max_instances ≡ true = still-within _ _ max_instances (instances-more high q.symbols q.clauses) (check-true _ (unplaced 9) u₂ h₃) in
      let w : leb (work_needed_with false high q.symbols q.clauses) work ≡ true =
      still-within _ _ work (work-more high q.symbols q.clauses) (check-true _ (needing 10 (work_needed_with true high q.symbols q.clauses)) u₃ h₄) in
      let r : Search = search_in named q low high (smallest_with false q low high) in (
        r,
        find-chain named false sheet low high work room
            ∙ bind-step _ _ p (answer r) h₁
            (bind-step _ _ u₁ (answer r) h₂
            (bind-step _ _ tt (answer r) (check-of-true _ (unplaced 9) i)
            (bind-step _ _ tt (answer r) (check-of-true _ (needing 10 (work_needed_with false high q.symbols q.clauses)) w)
            (bind-step _ _ u₄ (answer r) h₅ refl)))),
      )

  refused-more : (r : Search) (e : Refusal) → find_result_with named false sheet low high work room ≡ answer r → find_result_with named true sheet low high work room ≡ refused e
      → (e ≡ unplaced 9) ⊎ ((w : ℕ) × (e ≡ needing 10 w))
  unfolding find_chain
  refused-more r e told-no told-yes =
      unbind _ _ r (sym (find-chain named false sheet low high work room) ∙ told-no) λ (p : Problem) h₁ e₁.
      unbind _ _ r e₁ λ (u₁ : Unit {0}) h₂ e₂.
      unbind _ _ r e₂ λ (u₂ : Unit {0}) _ e₃.
      unbind _ _ r e₃ λ (u₃ : Unit {0}) _ e₄.
      unbind _ _ r e₄ λ (u₄ : Unit {0}) h₅ _.
      unrefused _ _ e (sym (find-chain named true sheet low high work room) ∙ told-yes) (λ k. absurd (answer≢refused p e (sym h₁ ∙ k))) λ (q : Problem) k₁ f₁.
      unrefused _ _ e f₁ (λ k. absurd (answer≢refused u₁ e (sym h₂ ∙ k))) λ (v₁ : Unit {0}) _ f₂.
      unrefused _ _ e f₂ (λ k. inl (check-refuses (leb (instance_count_with true high (mode_problem named q).symbols (mode_problem named q).clauses) max_instances) (unplaced 9) e k)) λ (v₂ : Unit {0}) _ f₃.
      let w : ℕ = work_needed_with true high (mode_problem named q).symbols (mode_problem named q).clauses in
      unrefused _ _ e f₃ (λ k. inr (w, check-refuses (leb w work) (needing 10 w) e k)) λ (v₃ : Unit {0}) _ f₄.
      let same : q ≡ p = answer-inj q p (sym k₁ ∙ h₁) in
      unrefused _ _ e f₄ (λ k. absurd (answer≢refused u₄ e (sym (ap fits same ∙ h₅) ∙ k))) λ (v₄ : Unit {0}) _ f₅.
      absurd (answer≢refused (search_in named (mode_problem named q) low high (smallest_with true (mode_problem named q) low high)) e f₅)

-- Write's content
module _ (named : Bool) (sheet : List ℕ) (size : ℕ) (p : Problem) where
  content-taken : content_of_with named true sheet size ≡ answer p → content_of_with named false sheet size ≡ answer p
  unfolding content_chain
  content-taken e =
      unbind _ _ p (sym (content-chain named true sheet size) ∙ e) λ (t : Problem) h₁ e₁.
      unbind _ _ p e₁ λ (u₁ : Unit {0}) h₂ e₂.
      unbind _ _ p e₂ λ (u₂ : Unit {0}) h₃ e₃.
      let q : Problem = mode_problem named t in
      let i : leb (instance_count_with false size q.symbols q.clauses) max_instances ≡ true = still-within _ _ max_instances (instances-more size q.symbols q.clauses) (check-true _ (unplaced 9) u₂ h₃) in
      content-chain named false sheet size
      ∙ bind-step _ _ t (answer p) h₁
      (bind-step _ _ u₁ (answer p) h₂
      (bind-step _ _ tt (answer p) (check-of-true _ (unplaced 9) i) e₃))

  content-refused : (e : Refusal) → content_of_with named false sheet size ≡ answer p → content_of_with named true sheet size ≡ refused e → e ≡ unplaced 9
  unfolding content_chain
  content-refused e told-no told-yes =
      unbind _ _ p (sym (content-chain named false sheet size) ∙ told-no) λ (t : Problem) h₁ e₁.
      unbind _ _ p e₁ λ (u₁ : Unit {0}) h₂ _.
      unrefused _ _ e (sym (content-chain named true sheet size) ∙ told-yes) (λ k. absurd (answer≢refused t e (sym h₁ ∙ k))) λ (q : Problem) _ f₁.
      unrefused _ _ e f₁ (λ k. absurd (answer≢refused u₁ e (sym h₂ ∙ k))) λ (v₁ : Unit {0}) _ f₂.
      unrefused _ _ e f₂ (λ k. check-refuses (leb (instance_count_with true size (mode_problem named q).symbols (mode_problem named q).clauses) max_instances) (unplaced 9) e k) λ (v₂ : Unit {0}) _ f₃.
      absurd (answer≢refused q e f₃)

-- the theorem
pub switches : Switches
switches =
    record {
      same_in_both_modes = same-in-both;
      same_size = λ named sheet low high r r⁺ told.
          let a = chain-reads named false sheet low high told.work told.room r told.no in
          same_size named sheet a.0 low high r r⁺ a.1 told;
      same_case = λ named sheet p low high r r⁺ read first told. same_case named sheet p low high r r⁺ read told first;
      not_refused = not-refused;
      refused_more = refused-more;
      content_taken = content-taken;
      content_refused = content-refused;
    }
