-- Symmetry, of the calls, from what is proved of the definitions.
use Prim.Native.Nat.{ℕ, ◌≤◌}
use mathlib.Core.Path.{◌≡◌, refl, sym, ap, subst, ◌∙◌}
use mathlib.Core.Logic.{◌⊎◌, ◌↔◌, inl, inr, ⊎_elim}
use mathlib.Core.Bool.{Bool, true, false, ◌&&◌}
use mathlib.Core.List.{List}
use lib.ListN.{length, take}
use Rattle.std.specs.Prelude.{Ok, Err}
use Rattle.theory.specs.Valuation.{satisfies_text, is_valuation, read_back}
use Rattle.theory.specs.Refusals as theory
use Rattle.theory.specs.Refusals.{Answer, answer, refused}
use Rattle.theory.specs.Problem.{Problem}
use Rattle.theory.specs.Operations.{Search, found, nothing, find_answer}
use Rattle.theory.specs.Claims.ReadingBack.{Satisfying}
use Rattle.theory.proofs.Tests.{and_left, and_right, and-join}
use Rattle.theory.proofs.Answers.{answer≢refused}
use Rattle.naming.specs.NamedOperations.{read_problem_in, mode_problem}
use Rattle.symmetry.specs.Obeying.{obeys, constants_first}
use Rattle.symmetry.specs.SymmetricOperations.{written_text_with, find_result_with}
use Rattle.symmetry.specs.Claims.FindsObeying as texts
use Rattle.symmetry.specs.Claims.Switches.{without_case, Told}
use Rattle.symmetry.proofs.FindsObeying.{finds-obeying, every-model}
use Rattle.symmetry.proofs.Switches.{switches}
use Rattle.symmetry.proofs.Asked.{asked}
use Rattle.allowance.specs.AllowedFind.{max_allowance, find_within, allowed_answer}
use Rattle.allowance.proofs.AllowedFind.{same-refusals}
use Rattle.syntax.specs.Faults.{number_of}
use Rattle.answers.specs.declared.Refusal as answers
use Rattle.answers.specs.declared.PlainResult.TheVariants.{Found, Nothing}
use Rattle.answers.specs.Answers.{FindAnswer, WriteAnswer, refusal_in, find_in}
use Rattle.answers.specs.Calls.{WriteCall}
use Rattle.finding.specs.declared.allowed.FindResult.TheVariants as allowed
use Rattle.finding.specs.Calls.{AllowedAnswer, allowed_in, FindCall}
use Rattle.theorems.specs.Leaving.{Leaves}
use Rattle.theorems.specs.Unstopped.{UnstoppedCall}
use Rattle.theorems.specs.Allowance.{Unrefused}
use Rattle.theorems.specs.Demand2.{NoModel}
use Rattle.theorems.specs.SameAnswers.{NotRefused}
use Rattle.theorems.specs.Named.{AnswersAlike}
use Rattle.theorems.specs.Symmetry.{LeastObeyingModel, FindsToldYes, RenumberedModel, Answers, size_of, Symmetry}
use Rattle.theorems.proofs.Leaving.{left-text}
use Rattle.theorems.proofs.Models.{sheet-model-is, is-sheet-model}
use Rattle.theorems.proofs.Unstopped.{SearchingCall, unstopped, found-taken, none-taken, answered, allowed-refused, limit-kept, answered-without}
use Rattle.theorems.proofs.Demand2.{no-case, case-stands}
use Rattle.theorems.proofs.SameAnswers.{taken, case-answered, none-answered}
use Rattle.theorems.proofs.Named.{alike}

-- models that obey, as the theorem on texts has them
least-obeying : (p : Problem) (low high size : ℕ) (text : List ℕ) → texts.LeastObeyingText p low high size text → LeastObeyingModel p low high size text
unfolding sheet-model-is is-sheet-model
least-obeying p low high size text h =
    record {
      obeying = record { model = sheet-model-is p size text h.text.model; obeying = h.text.obeying };
      searched = h.searched;
      smallest = λ t d le lt m. h.smallest t d le lt (is-sheet-model p t d m);
      least = λ d m. h.least d (record { model = is-sheet-model p size d m.model; obeying = m.obeying });
    }

renumbered-model : (p : Problem) (size : ℕ) (values : List ℕ) → texts.RenumberedText p size values → RenumberedModel p size values
unfolding sheet-model-is
renumbered-model p size values m =
    record {
      by = m.by;
      rearrangement = m.rearrangement;
      text = m.text;
      obeying = record { model = sheet-model-is p size m.text m.obeying.model; obeying = m.obeying.obeying };
      turned = m.turned;
    }

-- Find told yes
module _ (sheet : List ℕ) (p : Problem) (low high : ℕ) (named : Bool) (read : read_problem_in named sheet ≡ answer p) (r : FindAnswer) (work work' output output' : List ℕ)
    (f : UnstoppedCall sheet low high named true r work work' output output') where
  abbrev result : Answer Search
  result = find_result_with named true sheet low high (length work) (length output)

  call : NotRefused r → SearchingCall result r work work' output output'
  call = unstopped sheet low high named true r work work' output output' f

  d : texts.FindsObeying p low high result
  d = finds-obeying named sheet p low high (length work) (length output) read

  finds-found : (size n : ℕ) → r ≡ Ok (Found size n) → LeastObeyingModel p low high size (take n output')
  finds-found size n e =
      let c = case-stands result r work work' output output' (call (found-taken r size n e)) size n e in
      subst (LeastObeyingModel p low high size) (sym c.2) (least-obeying p low high size c.0 (d.finds size c.0 c.1))

  finds-told-yes : FindsToldYes p low high r output'
  finds-told-yes =
      record {
        found = finds-found;
        says_none = λ b e t c le₁ le₂ m. d.finds_none b (no-case result b (sym (call (none-taken r b e)).answer ∙ ap find_in e)) t c le₁ le₂ (is-sheet-model p t c m);
        none_if = go r refl;
      }
    where
      go : (a : FindAnswer) → r ≡ a → NoModel p low high → NotRefused r → (b : Bool) × (r ≡ Ok (Nothing b))
      go (Ok (Found size n)) e none unrefused = let l = finds-found size n e in absurd (none size (take n output') l.searched.0 l.searched.1 l.obeying.model)
      go (Ok (Nothing b)) e none unrefused = (b, e)
      go (Err q) e none unrefused = absurd (unrefused q e)

-- the answer to a result
abbrev sized : Search → FindAnswer
sized (found s c) = Ok (Found s 0)
sized (nothing b) = Ok (Nothing b)

size-answered : (r : FindAnswer) (x : Search) → find_in r ≡ find_answer (answer x) → size_of r ≡ sized (without_case x)
size-answered r (found s c) e = ap size_of (case-answered r s (length c) e)
size-answered r (nothing b) e = ap size_of (none-answered r b e)

-- told no and told yes, where neither is refused
module _ (sheet : List ℕ) (low high : ℕ) (named : Bool) (r s : FindAnswer) (output other : List ℕ) (a : Answers sheet low high named false r output) (b : Answers sheet low high named true s other) where
  no_call : SearchingCall (find_result_with named false sheet low high (length a.work) (length a.output)) r a.work a.work' a.output output
  no_call = unstopped sheet low high named false r a.work a.work' a.output output a.call a.taken

  yes-call : SearchingCall (find_result_with named true sheet low high (length b.work) (length b.output)) s b.work b.work' b.output other
  yes-call = unstopped sheet low high named true s b.work b.work' b.output other b.call b.taken

  no_result : (x : Search) × (find_result_with named false sheet low high (length a.work) (length a.output) ≡ answer x)
  no_result = taken (find_result_with named false sheet low high (length a.work) (length a.output)) r no_call.answer a.taken

  yes-result : (x : Search) × (find_result_with named true sheet low high (length b.work) (length b.output) ≡ answer x)
  yes-result = taken (find_result_with named true sheet low high (length b.work) (length b.output)) s yes-call.answer b.taken

  told : Told sheet named low high no_result.0 yes-result.0
  told = record { work = length a.work; room = length a.output; no = no_result.1; work⁺ = length b.work; room⁺ = length b.output; yes = yes-result.1 }

  same_size : size_of r ≡ size_of s
  same_size =
      size-answered r no_result.0 (no_call.answer ∙ ap find_answer no_result.1)
      ∙ ap sized (switches.same_size named sheet low high no_result.0 yes-result.0 told)
      ∙ sym (size-answered s yes-result.0 (yes-call.answer ∙ ap find_answer yes-result.1))

  same_case : (p : Problem) → read_problem_in named sheet ≡ answer p → constants_first p.symbols ≡ true → AnswersAlike r output s other
  same_case p read first =
      let same : no_result.0 ≡ yes-result.0 = switches.same_case named sheet p low high no_result.0 yes-result.0 read first told in
      alike (find_result_with named false sheet low high (length a.work) (length a.output)) (find_result_with named true sheet low high (length b.work) (length b.output))
      (no_result.1 ∙ ap answer same ∙ sym yes-result.1) r a.work a.work' a.output output no_call a.taken s b.work b.work' b.output other yes-call

-- told no and told yes with the same allowance, work and output
module _ (sheet : List ℕ) (low high : ℕ) (named : Bool) (a : ℕ) (r s : AllowedAnswer) (work work' work⁺ output output' output⁺ : List ℕ)
    (f : FindCall sheet low high named false a r work work' output output') (g : FindCall sheet low high named true a s work work⁺ output output⁺) where
  -- a refusal where the allowance is within its limit is one without an allowance
  refused-without : (symmetry : Bool) → a ≤ max_allowance → (q : answers.Refusal) → allowed_answer (find_within named symmetry sheet low high a (length work) (length output)) ≡ refused (refusal_in q)
      → find_result_with named symmetry sheet low high (length work) (length output) ≡ refused (refusal_in q)
  refused-without symmetry limit q e = (same-refusals named symmetry sheet low high a (length work) (length output) (refusal_in q) limit).0 (allowed-refused _ (refusal_in q) e)

  no-refusal : Unrefused s → Unrefused r
  no-refusal h q e =
      let w = answered _ s g.answer h in
      let y = answered-without named true sheet low high a (length work) (length output) w.0 w.1 in
      let x = switches.not_refused named sheet low high (length work) (length output) y.0 y.1 in
      let limit : a ≤ max_allowance = limit-kept named true sheet low high a (length work) (length output) w.0 w.1 in
      answer≢refused x.0 (refusal_in q) (sym x.1 ∙ refused-without false limit q (sym f.answer ∙ ap allowed_in e))

  refused-more : Unrefused r → (q : answers.Refusal) → s ≡ Err q → (number_of q.fault ≡ 9) ⊎ (number_of q.fault ≡ 10)
  refused-more h q e =
      let w = answered _ r f.answer h in
      let x = answered-without named false sheet low high a (length work) (length output) w.0 w.1 in
      let limit : a ≤ max_allowance = limit-kept named false sheet low high a (length work) (length output) w.0 w.1 in
      let z = refused-without true limit q (sym g.answer ∙ ap allowed_in e) in
      let number : theory.Refusal → ℕ = λ (q : theory.Refusal). q.number in
      ⊎_elim (λ h. inl (ap number h)) (λ h. inr (ap number h.1)) (switches.refused_more named sheet low high (length work) (length output) x.0 (refusal_in q) x.1 z)

-- Write asked and not asked
module _ (sheet : List ℕ) (p : Problem) (size : ℕ) (named : Bool) (read : read_problem_in named sheet ≡ answer p) (r : WriteAnswer) (output output' text : List ℕ)
    (c : WriteCall sheet size named false r output output') (l : Leaves r output' text) (s : WriteAnswer) (other other' more : List ℕ)
    (d : WriteCall sheet size named true s other other') (m : Leaves s other' more) (σ : List ℕ) where
  abbrev q : Problem
  q = mode_problem named p

  abbrev obeyed : Bool
  obeyed = obeys size q.symbols (read_back size q.symbols σ)

  both : is_valuation size q.symbols σ ≡ true → satisfies_text σ more ≡ (satisfies_text σ text && obeyed)
  both =
      asked named sheet p size (length output) (length other) text more σ read
      (left-text (written_text_with named false sheet size (length output)) r output output' c text l)
      (left-text (written_text_with named true sheet size (length other)) s other other' d more m)

  asked-exactly : Satisfying q size more σ ↔ (Satisfying q size text σ × (obeyed ≡ true))
  asked-exactly = (
    λ z.
        let e : (satisfies_text σ text && obeyed) ≡ true = sym (both z.setting) ∙ z.satisfied in
        (record { setting = z.setting; satisfied = and_left (satisfies_text σ text) obeyed e }, and_right (satisfies_text σ text) obeyed e),
    λ z. record { setting = z.0.setting; satisfied = both z.0.setting ∙ and-join (satisfies_text σ text) obeyed z.0.satisfied z.1 },
  )

-- the theorem
pub symmetry-of-calls : Symmetry
unfolding is-sheet-model
symmetry-of-calls =
    record {
      find = finds-told-yes;
      every_model = λ sheet p named read size text m. renumbered-model p size m.case.values (every-model named sheet p read size text (is-sheet-model p size text m));
      same_size = same_size;
      same_case = λ sheet p low high named read first r s output other a b. same_case sheet low high named r s output other a b p read first;
      not_refused = λ sheet low high named a r s work work' work⁺ output output' output⁺ f g h. no-refusal sheet low high named a r s work work' work⁺ output output' output⁺ f g h;
      refused_more = λ sheet low high named a r s work work' work⁺ output output' output⁺ f g h. refused-more sheet low high named a r s work work' work⁺ output output' output⁺ f g h;
      write = asked-exactly;
    }
