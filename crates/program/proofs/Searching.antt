-- What a search in the output from place 13 on leaves.
use Prim.Native.Nat.{ℕ, ◌-◌}
use mathlib.Core.Path.{◌≡◌, ap, ◌∙◌}
use mathlib.Core.Bool.{Bool, false}
use mathlib.Core.List.{List, [], ◌++◌, append-nil}
use native.Mathlib.Omega.{arith}
use lib.ListN.{length, take, drop, length-drop, length-append, drop_of_length-le}
use lib.Seq.{take_all, length-take-le}
use Rattle.theory.specs.Refusals.{Answer}
use Rattle.theory.specs.Operations.{Search}
use Rattle.allowance.specs.AllowedFind.{Stoppable, find_within, allowed_answer, allowed_output}
use Rattle.finding.specs.Calls.{AllowedAnswer, allowed_in}
use Rattle.printing.specs.Reports.{Reportable}
use Rattle.program.proofs.RefusalLines.{refusal-near, size-near}

module _ (out : List ℕ) (h : length out ≡ 24915) where
  -- what is lent to the search
  abbrev lent : List ℕ
  lent = take (length out - 13) (drop 13 out)

  pub lent-rest : lent ≡ drop 13 out
  lent-rest = take_all (length out - 13) (drop 13 out) (omega (arith, length-drop 13 out))

  pub lent-long : length lent ≡ 24902
  lent-long = ap length lent-rest ∙ length-drop 13 out ∙ omega arith

  unfoldable pub reportable : (sheet : List ℕ) (low high : ℕ) (symmetry : Bool) (c work : ℕ) → work ≡ 16000 → (a : AllowedAnswer) (left : List ℕ) → length left ≡ length lent
      → allowed_in a ≡ allowed_answer (find_within false symmetry sheet low high c work (length lent)) → left ≡ allowed_output (find_within false symmetry sheet low high c work (length lent)) lent
      → Reportable a (take 13 out ++ (left ++ drop (length out - 13) (drop 13 out)))
  reportable sheet low high symmetry c work w a left n e l =
      let result : Answer (Stoppable Search) = find_within false symmetry sheet low high c 16000 24902 in
      let same : find_within false symmetry sheet low high c work (length lent) ≡ result =
      ap (λ (k : ℕ). find_within false symmetry sheet low high c k (length lent)) w ∙ ap (find_within false symmetry sheet low high c 16000) lent-long in
      let nothing_left : drop (length out - 13) (drop 13 out) ≡ [] = drop_of_length-le (drop 13 out) {i = length out - 13} (omega (arith, length-drop 13 out)) in
      let whole : left ++ drop (length out - 13) (drop 13 out) ≡ allowed_output result (drop 13 out) =
      ap (λ (t : List ℕ). left ++ t) nothing_left ∙ append-nil left ∙ l ∙ ap (λ (r : Answer (Stoppable Search)). allowed_output r lent) same ∙ ap (allowed_output result) lent-rest in
      record {
        result = result;
        answered = e ∙ ap allowed_answer same;
        before = out;
        left = ap (λ (t : List ℕ). take 13 out ++ t) whole;
        long =
            length-append (take 13 out) (left ++ drop (length out - 13) (drop 13 out))
            ∙ omega (arith, length-take-le 13 out (omega arith), length-append left (drop (length out - 13) (drop 13 out)), ap length nothing_left, n, lent-long);
        kept = h;
        placed = refusal-near symmetry sheet low high c 16000 24902;
        sized = size-near symmetry sheet low high c 16000 24902;
      }
