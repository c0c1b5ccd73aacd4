-- The reply that was read with a mark for each variable, and the setting that the marks are.
use Prim.Native.Nat.{ℕ, ◌-◌, ◌^◌, ◌≤◌, ◌<◌}
use mathlib.Core.Path.{◌≡◌, sym, ap, ◌∙◌, subst}
use mathlib.Core.Bool.{true}
use mathlib.Core.List.{List, ◌++◌}
use native.Mathlib.Omega.{arith}
use lib.Dec.{eqb, ltb}
use lib.ListN.{length, take, length-append}
use Rattle.theory.specs.Lists.{all}
use Rattle.theory.specs.Syntax.{Signature}
use Rattle.theory.specs.Propositional.{prop_count}
use Rattle.theory.specs.Valuation.{is_valuation}
use Rattle.theory.specs.Refusals.{answer, refused, unplaced}
use Rattle.theory.proofs.Tests.{eqb-of-≡, and-join}
use Rattle.syntax.specs.declared.limits.Problem.{Problem}
use Rattle.syntax.specs.Signatures.{signature_in}
use Rattle.problem.specs.Problems.{problem_in}
use Rattle.valuations.specs.declared.numbering.Numbering.{Numbering}
use Rattle.valuations.specs.Numbers.{NumberingOf}
use Rattle.reading_back.proofs.Bits.{part_length, front-again}
use Rattle.solver.specs.Replies.{read_reply}
use Rattle.solver.specs.SolverText.{claimed_none, stated_case}
use Rattle.solver.proofs.Stating.{stating}
use Rattle.replies.specs.declared.Reply.{Reply}
use Rattle.replies.specs.declared.Reply.TheVariants.{ClaimsNone, States, Bad}
use Rattle.replies.specs.Hearing.{reply_in}
use Rattle.accepting.specs.Calls.{SolverAnswer}
use Rattle.accepting.specs.Accepting.{reply_outcome, ReplyCall, StatedCall, SizedProblem, SettingLent}
use Rattle.accepting.proofs.Outcomes.{same_outcome}
use Rattle.accepting.proofs.Chain.{unread, claimed, stated}

module _ (sheet : List ℕ) (p : Problem) (n : Numbering) (s : ℕ) (h : SizedProblem sheet p s) (numbered : (sheet : List ℕ) → NumberingOf (signature_in sheet p.signature) s n) (marks : List ℕ) (room : 55296 ≤ length marks) where
  abbrev g : Signature
  g = signature_in sheet p.signature

  -- a mark for each variable
  pub marks-fit : n.count ≤ length marks
  marks-fit = omega (arith, (numbered sheet).count, h.few, room)

  long : length (take (n.count - 0) marks) ≡ n.count
  long = part_length n.count marks marks-fit

  pub marks-few : length (take (n.count - 0) marks) < 2 ^ 28
  marks-few = omega (arith, long, (numbered sheet).small)

  module _ (text after : List ℕ) (r : Reply) (read : reply_in r after ≡ read_reply (length (take (n.count - 0) marks)) text) where
    -- what was read, at the problem's own number of variables
    told : (k : Reply) → r ≡ k → read_reply (prop_count s g) text ≡ reply_in k after
    told k e = ap (λ (v : ℕ). read_reply v text) (sym (long ∙ (numbered sheet).count)) ∙ sym read ∙ ap (λ (k : Reply). reply_in k after) e

    pub is-unread : (room : ℕ) → r ≡ Bad → reply_outcome (problem_in sheet p) s text room ≡ refused (unplaced 18)
    unfolding problem_in
    is-unread room e = unread (problem_in sheet p) s text room (told Bad e)

    pub is-claimed : (room : ℕ) → r ≡ ClaimsNone → reply_outcome (problem_in sheet p) s text room ≡ answer claimed_none
    unfolding problem_in
    is-claimed room e = claimed (problem_in sheet p) s text room (told ClaimsNone e)

    module _ (e : r ≡ States) where
      is-setting : (length after ≡ prop_count s g) × (all (λ b. ltb b 2) after ≡ true)
      is-setting = (stating (prop_count s g) text).is_setting after (told States e)

      -- the marks afterwards are as many, and stand at the front
      pub again-fits : (rest : List ℕ) → n.count ≤ length (after ++ rest)
      again-fits rest = omega (arith, length-append after rest, is-setting.0, (numbered sheet).count)

      again : (rest : List ℕ) → take (n.count - 0) (after ++ rest) ≡ after
      again rest = front-again n.count after rest (is-setting.0 ∙ sym (numbered sheet).count)

      pub setting-lent : (rest : List ℕ) → SettingLent sheet p n s (take (n.count - 0) (after ++ rest))
      unfolding is_valuation
      setting-lent rest =
          subst (SettingLent sheet p n s) (sym (again rest))
          (record {
            sized = h;
            numbered = numbered;
            valuation = and-join (eqb (length after) (prop_count s g)) (all (λ b. ltb b 2) after) (eqb-of-≡ (length after) (prop_count s g) is-setting.0) is-setting.1;
          })

      pub is-stated : (rest : List ℕ) (a : SolverAnswer) (out out' : List ℕ) → StatedCall sheet p s (take (n.count - 0) (after ++ rest)) a out out' → ReplyCall sheet p s text a out out'
      unfolding problem_in
      is-stated rest a out out' c =
          same_outcome _ (stated_case (problem_in sheet p) s (length out) (take (n.count - 0) (after ++ rest))) a out out'
          (stated (problem_in sheet p) s text (length out) after (told States e) ∙ ap (stated_case (problem_in sheet p) s (length out)) (sym (again rest))) c
