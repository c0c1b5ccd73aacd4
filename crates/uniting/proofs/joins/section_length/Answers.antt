-- `section_length` adds the length of the count's line.
use native.Mathlib.Omega.{arith}
use Rattle.sheet_text.proofs.HeadParts.{count-line-short}
use Rattle.uniting.proofs.joins.section_length.Goals as goal

pub count_line_length-requires : goal.count_line_length-requires
count_line_length-requires c = let s = c in
    omega (arith, s.requires.0, count-line-short s.args.key.now s.args.lines.count (omega (arith, s.requires.1.0)))

pub overflow_add-result : goal.overflow_add-result
overflow_add-result c = let s = c in
    omega (arith, s.requires.0, s.requires.1.1, c.count_line_length.ensures, count-line-short s.args.key.now s.args.lines.count (omega (arith, s.requires.1.0)))

pub returns : goal.returns
returns c = let s = c in record { length = omega (arith, c.count_line_length.ensures); short = omega (arith, s.requires.0, s.requires.1.1, c.count_line_length.ensures, count-line-short s.args.key.now s.args.lines.count (omega (arith, s.requires.1.0))) }
