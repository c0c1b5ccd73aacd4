use Rattle.forms.proofs.Gathering.{Gathered}
use Rattle.forms.proofs.linear.forms_of.Given as goal

-- `forms_of` meets its contract: the forms of the first i literals are written.
abbrev pub invariant-loop-i : goal.invariant-loop-i
invariant-loop-i l =
    Gathered l.arities l.flat l.n l.size.0 l.i l.forms
