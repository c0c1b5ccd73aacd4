-- `nk_merge` says what the call says.
use mathlib.Core.Path.{ap, ◌∙◌}
use Prim.Native.Nat.{ℕ}
use lib.ListN.{length}
use Rattle.theory.specs.Refusals.{Answer}
use Rattle.theory.specs.Operations.{length_answer}
use Rattle.sheet_merging.specs.Merging.{merged_text}
use Rattle.uniting.specs.Calls.{sheet_told}
use Rattle.layouts.specs.Layouts.{merge_out}
use Rattle.exports.proofs.nk_merge.Goals as goal

pub returns : goal.returns
returns c = let a = c.args in
    let m = c.merge in
    let said : Answer ℕ = length_answer (merged_text a.first.now a.second.now (length a.output.now)) in
    record {
      answer = c.merge_out.ensures ∙ ap (λ (l : Answer ℕ). merge_out l (sheet_told m.result)) m.ensures.call.answer ∙ ap (merge_out said) m.ensures.sheet;
      left = m.ensures.call.left;
    }
