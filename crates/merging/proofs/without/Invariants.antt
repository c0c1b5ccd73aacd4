use mathlib.Core.Path.{◌≡◌}
use lib.ListN.{length}
use Rattle.merging.specs.Merged.{renamed_code}
use Rattle.merging.proofs.Deleting.{renamed_to}
use Rattle.merging.proofs.without.Given as goal

-- `without` meets its contract: the first i codes are renamed.
abbrev pub invariant-loop-i : goal.invariant-loop-i
invariant-loop-i l =
    (l.w.count ≡ l.initial.w.count) × (length l.w.words ≡ 64) × (l.w.words ≡ renamed_to (renamed_code l.x l.y) l.initial.w.words l.i)
