-- `switch_line` meets its contract: one of the two lines stands at the place, or neither.
use Rattle.input_lines.proofs.SwitchLines.{says-yes, says-no, says-neither}
use Rattle.input_lines.proofs.switches.switch_line.Goals as goal

pub returns-then-starts_with : goal.returns-then-starts_with
returns-then-starts_with c = let z = c in
    let y = c.starts_with in
    says-yes z.args.input.now z.args.at z.requires y.result y.ensures c.if-starts_with.true

pub returns-then-starts_with-2 : goal.returns-then-starts_with-2
returns-then-starts_with-2 c = let z = c in
    let y = c.starts_with in
    let n = c.starts_with-2 in
    says-no z.args.input.now z.args.at z.requires y.result y.ensures c.if-starts_with.false n.result n.ensures c.if-starts_with-2.true

pub returns : goal.returns
returns c = let z = c in
    let y = c.starts_with in
    let n = c.starts_with-2 in
    says-neither z.args.input.now z.args.at z.requires y.result y.ensures c.if-starts_with.false n.result n.ensures c.if-starts_with-2.false
