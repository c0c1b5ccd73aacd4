-- `set_once`: a mark below 2 is of a variable that is set.
use mathlib.Core.Path.{◌∙◌}
use Rattle.replies.proofs.Marks.{set_before, set-now}
use Prim.Native.Nat.{ℕ}
use mathlib.Core.Path.{◌≡◌, ap}
use mathlib.Core.Bool.{cond}
use Rattle.std.proofs.Common.{rules}
use mathlib.Core.Option.{some}
use lib.ListN.{set}
use Rattle.solver.specs.OnePass.{listing, heard}
use Rattle.replies.specs.Hearing.{values_in}
use Rattle.replies.proofs.words.set_once.Goals as goal

pub returns-then-marks-i-lt-UNSET : goal.returns-then-marks-i-lt-UNSET
returns-then-marks-i-lt-UNSET c = let a = c.args in set_before a.marks.now a.variable.0 a.yes c.requires c.if-marks-i-lt-UNSET.true

pub returns : goal.returns
returns c = let a = c.args in
    let mark-is : c.from.result ≡ cond a.yes 1 0 = search rules in
    ap (λ (m : ℕ). some (heard listing (values_in (set a.marks.now a.variable.0 m)))) mark-is
    ∙ set-now a.marks.now a.variable.0 a.yes c.requires c.if-marks-i-lt-UNSET.false
