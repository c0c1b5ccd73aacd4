use native.Mathlib.Omega.{arith}
use mathlib.Core.Path.{sym, ◌∙◌}
use Rattle.problem.proofs.NameBytes.{name-empty, name-long, name-begins-otherwise, name-begins, name-on, name-other, name-whole}
use Rattle.problem.proofs.symbols.is_name.Goals as goal

pub returns-then-name-eq0 : goal.returns-then-name-eq0
returns-then-name-eq0 c = let v = c.args.name.now in name-empty v c.if-name-eq0.true

pub returns-then-name-gt-MAX_NAME : goal.returns-then-name-gt-MAX_NAME
returns-then-name-gt-MAX_NAME c = let v = c.args.name.now in name-long v c.if-name-gt-MAX_NAME.true

pub returns-then-not-is_lower : goal.returns-then-not-is_lower
returns-then-not-is_lower c = let v = c.args.name.now in name-begins-otherwise v c.if-name-eq0.false (sym c.is_lower.ensures ∙ c.if-not-is_lower.true)

pub loop-i-init : goal.loop-i-init
loop-i-init c = let v = c.args.name.now in name-begins v c.if-name-eq0.false c.if-name-gt-MAX_NAME.false (sym c.is_lower.ensures ∙ c.if-not-is_lower.false)

pub returns-then-not-is_name_byte : goal.returns-then-not-is_name_byte
returns-then-not-is_name_byte c = let v = c.args.name.now in let l = c.loop-i in name-other v l.i l.invariant (omega arith) (sym c.is_name_byte.ensures ∙ c.if-not-is_name_byte.true)

pub loop-i-preserved : goal.loop-i-preserved
loop-i-preserved c = let v = c.args.name.now in let l = c.loop-i in name-on v l.i l.invariant (omega arith) (sym c.is_name_byte.ensures ∙ c.if-not-is_name_byte.false)

pub returns : goal.returns
returns c = let v = c.args.name.now in let l = c.loop-i in name-whole v l.i l.invariant (omega arith)
