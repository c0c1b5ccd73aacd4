use mathlib.Core.Path.{◌≡◌}
use Rattle.std.specs.Prelude.{None}
use Rattle.judging.proofs.ClausesLent.{ClauseHeld}
use Rattle.judging.proofs.Unfailed.{Unfailed, Passed}
use Rattle.judging.proofs.failures.first_failure.Given as goal

-- `first_failure` meets its contract: no clause before clause k fails, nor does clause k under the choices before choice i.
abbrev pub invariant-loop-i : goal.invariant-loop-i
invariant-loop-i l =
    (l.failure ≡ None) × ClauseHeld l.sheet l.p l.arities l.functions l.bases l.cells l.size.0 l.k l.words l.length l.place l.count l.choices × Passed l.sheet l.p l.cells l.size.0 l.k l.values l._i

abbrev pub invariant-walk : goal.invariant-walk
invariant-walk l = (l.failure ≡ None) × Unfailed l.sheet l.p l.cells l.size.0 l.k
