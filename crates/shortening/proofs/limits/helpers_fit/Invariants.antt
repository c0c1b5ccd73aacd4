use Prim.Native.Nat.{◌+◌}
use mathlib.Core.Path.{◌≡◌}
use lib.ListN.{length, drop}
use Rattle.theory.specs.Lists as lists
use Rattle.syntax.specs.Signatures.{signature_in}
use Rattle.naming.specs.FixedTerms.{helper_clauses}
use Rattle.naming.specs.NamedReading.{is_within}
use Rattle.shortening.specs.Tables.{terms_in}
use Rattle.shortening.proofs.limits.helpers_fit.Given as goal

-- `helpers_fit` measures one helper's clause after the other: those left decide what all do.
abbrev pub invariant-loop-i : goal.invariant-loop-i
invariant-loop-i l =
    let g = signature_in l.sheet l.signature in
    let T = terms_in g l.sheet l.terms in
    lists.all is_within (helper_clauses (length g) T) ≡ lists.all is_within (helper_clauses (length g + l.i) (drop l.i T))
