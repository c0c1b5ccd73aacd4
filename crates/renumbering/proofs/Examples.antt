-- Every line of the table of examples holds by computation. It stands first, so that a wrong definition is refused for what it computes.
use mathlib.Core.Path.{refl}
use Rattle.theory.specs.Cells.{tabulated}
use Rattle.renumbering.specs.Rearrangements.{is_rearrangement, rearrangements}
use Rattle.renumbering.specs.Renumbering.{renumbered}
use Rattle.renumbering.specs.LeastForm.{least_form}
use Rattle.renumbering.specs.Examples.{Examples}

pub examples : Examples
unfolding is_rearrangement rearrangements tabulated renumbered least_form
examples =
    record { rearranged = refl; twice = refl; too_large = refl; too_short = refl; renumbered = refl; reversed = refl; composed = refl; all = refl; least_form = refl }
