-- `read_reply`: no variable is set before the first line.
use mathlib.Core.Path.{◌≡◌, ◌∙◌}
use lib.ListN.{length, replicate}
use Rattle.std.proofs.Common.{rules}
use Rattle.replies.proofs.LinesHeard.{from-none}
use Rattle.replies.proofs.read_reply.Goals as goal

pub returns : goal.returns
returns c =
    let a = c.args in
    let unset : c.fill.new.self ≡ replicate (length a.marks.now) 2 = search rules in
    c.reply_at.ensures ∙ c.hear_lines-stage.ensures ∙ from-none a.text.now a.marks.now _ unset
