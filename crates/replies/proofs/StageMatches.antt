-- Going on from a stage, by which one it is.
use Prim.Native.Nat.{ℕ}
use mathlib.Core.Path.{◌≡◌, sym, ap}
use mathlib.Core.Option.{Option, none}
use mathlib.Core.List.{List}
use Rattle.theory.specs.Program.{◌>>?◌}
use Rattle.solver.specs.OnePass.{unanswered, refuted, listing, complete, Heard, heard}
use Rattle.replies.specs.Hearing.{values_in, heard_in}
use Rattle.replies.specs.declared.stages.Stage.{Stage}
use Rattle.replies.specs.declared.stages.Stage.TheVariants.{Unanswered, Refuted, Listing, Complete, Fault}

module _ {A : Type 0} (stage : Stage) (marks : List ℕ) (k : Heard → Option A) where
  pub on-unanswered : stage ≡ Unanswered → k (heard unanswered (values_in marks)) ≡ (heard_in stage marks >>? k)
  unfolding ◌>>?◌
  on-unanswered e = sym (ap (λ (t : Stage). heard_in t marks >>? k) e)

  pub on-refuted : stage ≡ Refuted → k (heard refuted (values_in marks)) ≡ (heard_in stage marks >>? k)
  unfolding ◌>>?◌
  on-refuted e = sym (ap (λ (t : Stage). heard_in t marks >>? k) e)

  pub on-listing : stage ≡ Listing → k (heard listing (values_in marks)) ≡ (heard_in stage marks >>? k)
  unfolding ◌>>?◌
  on-listing e = sym (ap (λ (t : Stage). heard_in t marks >>? k) e)

  pub on-complete : stage ≡ Complete → k (heard complete (values_in marks)) ≡ (heard_in stage marks >>? k)
  unfolding ◌>>?◌
  on-complete e = sym (ap (λ (t : Stage). heard_in t marks >>? k) e)

  pub on-fault : stage ≡ Fault → none ≡ (heard_in stage marks >>? k)
  unfolding ◌>>?◌
  on-fault e = sym (ap (λ (t : Stage). heard_in t marks >>? k) e)
