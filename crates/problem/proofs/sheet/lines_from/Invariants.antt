use Rattle.syntax.specs.Signatures.{signature_in}
use Rattle.problem.proofs.ClauseTaking.{Taken}
use Rattle.problem.proofs.sheet.lines_from.Given as goal

-- `lines_from` reads one clause line after the other.
abbrev pub invariant-loop-i : goal.invariant-loop-i
invariant-loop-i l =
    Taken l.named l.sheet l.at l.line l.n (signature_in l.sheet l.signature) l.starts l.next l.i
