-- `with_term` puts the term behind those of the table.
use mathlib.Core.Path.{refl, ◌∙◌}
use native.Mathlib.Numerals.{add-one}
use native.Mathlib.Omega.{arith}
use lib.ListN.{length-set}
use lib.Seq.{take-suc-set}
use Rattle.shortening.proofs.table.with_term.Goals as goal

pub returns : goal.returns
returns c = let a = c.args in record { held = length-set a.terms.spans a.terms.count a.term ∙ c.requires.0; count = refl; spans = rw add-one (take-suc-set a.terms.spans a.terms.count a.term (omega (arith, c.requires.0))) }
