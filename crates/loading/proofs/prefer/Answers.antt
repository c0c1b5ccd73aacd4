use mathlib.Core.Path.{◌≡◌}
use mathlib.Core.List.{map}
use Prim.Native.Nat.{◌+◌, ◌-◌, ◌*◌}
use lib.ListN.{replicate}
use Rattle.std.proofs.Common.{rules}
use Rattle.propagation.specs.Clauses.{once}
use Rattle.loading.proofs.Preferring.{told-filling, prefer-told, prefer-more}
use Rattle.loading.proofs.prefer.Goals as goal

pub returns-clause-clauses : goal.returns-clause-clauses
returns-clause-clauses c cs es =
    let a = c.args in
    let is : c.fill.new.self ≡ replicate (6 * a.v + a.to.0 - (6 * a.v + a.from.0)) c.from.result = search rules in
    rw is (told-filling a.v cs (map once es) _ _ (prefer-told a.v a.from.0 a.to.0 a.value a.work.now c.requires.regions.room c.requires.from_le_to c.requires.to_le_v c.from.result (search rules)))

pub returns-clause-values : goal.returns-clause-values
returns-clause-values c =
    let a = c.args in
    let is : c.fill.new.self ≡ replicate (6 * a.v + a.to.0 - (6 * a.v + a.from.0)) c.from.result = search rules in
    rw is (prefer-more a.v a.from.0 a.to.0 a.value a.work.now c.requires.regions.room c.requires.from_le_to c.requires.to_le_v c.from.result (search rules))
