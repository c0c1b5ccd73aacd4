use Rattle.shortening.specs.HelperWords.{HelpersBehind}
use Rattle.shortening.proofs.helpers.with_helpers.Given as goal

-- `with_helpers` puts one helper after the other behind the symbols.
abbrev pub invariant-loop : goal.invariant-loop
invariant-loop l =
    HelpersBehind l.initial.all l.counter l.all
