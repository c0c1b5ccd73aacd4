use Rattle.syntax.specs.Signatures.{kind_of}
use Rattle.problem.proofs.SectionLines.{Reached}
use Rattle.problem.proofs.sections.symbol_lines.Given as goal

-- `symbol_lines` reads one symbol line after the other.
abbrev pub invariant-loop-i : goal.invariant-loop-i
invariant-loop-i l =
    Reached l.sheet l.at l.line l.key (kind_of l.function) l.n l.initial.signature l.signature l.next l.i
