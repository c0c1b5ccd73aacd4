use borrow.Author.Rules.{rules}
use Rattle.text.proofs.Keys.{key_met}
use Rattle.text.proofs.lines.starts_with.Goals as goal

pub returns : goal.returns
returns c = key_met _ _ _ c.starts_with.ensures.value (search rules)
