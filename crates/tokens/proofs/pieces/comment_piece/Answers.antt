-- `comment_piece` counts the /* too.
use native.Mathlib.Omega.{arith}
use lib.ListN.{drop, length-drop}
use Rattle.tokens.proofs.PieceStarts.{comment-room}
use Rattle.tokens.proofs.pieces.comment_piece.Goals as goal

pub overflow_add-result : goal.overflow_add-result
overflow_add-result c = let a = c.args in omega (arith, comment-room _ (drop a.at a.text.now) c.in-Some.ensures, length-drop a.at a.text.now, c.well_formed)
