use Rattle.syntax.specs.Signatures.{signature_in}
use Rattle.problem.specs.Problems.{handed_in}
use Rattle.problem.proofs.NamedWalk.{TermsTo}
use Rattle.problem.proofs.named_lines.named_terms.Given as goal

-- `named_terms` collects the terms of one clause line after the other.
abbrev pub invariant-loop-k : goal.invariant-loop-k
invariant-loop-k l =
    TermsTo (signature_in l.sheet l.p.signature) (signature_in l.sheet l.all) l.sheet (handed_in l.sheet l.p).clauses l.terms l.k
