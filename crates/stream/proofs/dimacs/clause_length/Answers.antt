use mathlib.Core.Path.{ap}
use mathlib.Core.List.{◌∷◌, []}
use native.Mathlib.Omega.{arith}
use lib.ListN.{length, take, length-append}
use Rattle.stream.specs.Literals.{prop_clause_of}
use Rattle.stream.proofs.Texts.{body, body-fits, body-all}
use Rattle.stream.proofs.dimacs.clause_length.Goals as goal

pub overflow_add-n : goal.overflow_add-n
overflow_add-n c = omega (arith, c.requires, body-fits c.args.clause.now c.loop-l.l-index c.loop-l-test.true, c.literal_length-n.ensures)

pub returns : goal.returns
returns c =
    omega (
      arith,
      ap length (body-all c.args.clause.now c.loop-l.l-index (omega arith)),
      length-append (body (prop_clause_of (take c.loop-l.l-index c.args.clause.now))) (48 ∷ 10 ∷ []),
    )
