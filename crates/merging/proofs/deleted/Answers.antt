use Prim.Native.Nat.{ℕ, ◌+◌, ◌-◌}
use mathlib.Core.Path.{◌≡◌, sym, ap, ◌∙◌}
use native.Mathlib.Omega.{arith}
use lib.ListN.{length, take}
use borrow.Author.Rules.{rules}
use Rattle.std.specs.List.{copy_within}
use Rattle.merging.specs.Merged.{deleted_at}
use Rattle.merging.proofs.Deleting.{moved_all}
use Rattle.merging.proofs.deleted.Goals as goal

pub returns-clause-words : goal.returns-clause-words
returns-clause-words c =
    let a = c.args in
    let n : length a.w.words ≡ 64 = search rules in
    let k : a.w.count - 4 + 4 ≡ a.w.count = omega (arith, c.requires) in
    ap (take (a.w.count - 4)) (c.copy_within.ensures.after ∙ ap (λ (e : ℕ). copy_within a.w.words (a.at + 4) e a.at) (sym k))
    ∙ moved_all a.w.words a.at (a.w.count - 4) (omega (arith, c.requires)) (omega (arith, c.requires))
    ∙ ap (λ (i : ℕ). deleted_at (take i a.w.words) a.at) k
