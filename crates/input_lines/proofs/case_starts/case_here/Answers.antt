-- `case_here` meets its contract: a case's first line at the text's front, where a line starts.
use Rattle.input_lines.proofs.CaseStarts.{begins}
use borrow.Author.Rules.{rules}
use Rattle.input_lines.proofs.case_starts.case_here.Goals as goal

pub returns-then-fresh : goal.returns-then-fresh
returns-then-fresh c = let a = c.args in
    begins a.fresh a.text.now c.starts_with.result (search rules) c.starts_with.ensures
