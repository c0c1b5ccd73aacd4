-- `read_in` chooses the reader.
use mathlib.Core.Path.{sym, ap, ◌∙◌}
use mathlib.Core.Bool.{Bool}
use Rattle.problem.specs.Modes.{read_in}
use Rattle.problem.proofs.ModeRead.{plain_in}
use Rattle.problem.proofs.modes.read_in.Goals as goal

pub returns-then-named : goal.returns-then-named
returns-then-named c = let r = c.read_named in
    let sheet = c.args.sheet.now in record { read = r.ensures.read ∙ ap (λ (b : Bool). read_in b sheet) (sym c.if-named.true); accepted = r.ensures.accepted }

pub returns : goal.returns
returns c = let r = c.read_problem in
    let sheet = c.args.sheet.now in record { read = r.ensures.read ∙ sym (plain_in sheet) ∙ ap (λ (b : Bool). read_in b sheet) (sym c.if-named.false); accepted = r.ensures.accepted }
