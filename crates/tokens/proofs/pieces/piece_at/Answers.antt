-- `piece_at` goes by the first byte.
use borrow.Author.Tests.{eq-eqb, ne_eqb}
use mathlib.Core.Path.{refl, sym, ap}
use mathlib.Core.Bool.{true, false, not}
use lib.Dec.{eqb}
use Rattle.theory.specs.Bytes.{LF}
use Rattle.tptp.specs.Tokens.{gap, token, lower_word, upper_word, is_word_byte}
use Rattle.tokens.proofs.PieceStarts.{one_more, comment-body, piece-by}
use Rattle.tokens.proofs.pieces.piece_at.Goals as goal

pub returns-then-is_blank : goal.returns-then-is_blank
returns-then-is_blank c = let a = c.args in piece-by a.text.now a.at _ true _ _ _ _ _ _ (sym c.if-is_blank.ensures) refl refl refl refl refl refl refl

pub returns-then-b-eq37 : goal.returns-then-b-eq37
returns-then-b-eq37 c = let a = c.args in piece-by a.text.now a.at _ false true _ _ _ _ _ (sym c.if-is_blank.ensures) (eq-eqb _ 37 c.if-b-eq37.true) refl refl refl refl refl (ap gap (one_more (λ x. not (eqb x LF)) a.text.now a.at _ c.line_run.ensures.value))

pub returns-then-opens_comment : goal.returns-then-opens_comment
returns-then-opens_comment c = let a = c.args in piece-by a.text.now a.at _ false false true _ _ _ _ (sym c.if-is_blank.ensures) (ne_eqb _ 37 c.if-b-eq37.false) (sym c.if-opens_comment.ensures) refl refl refl refl (comment-body a.text.now a.at _ c.comment_piece.ensures)

pub returns-then-is_lower : goal.returns-then-is_lower
returns-then-is_lower c = let a = c.args in piece-by a.text.now a.at _ false false false true _ _ _ (sym c.if-is_blank.ensures) (ne_eqb _ 37 c.if-b-eq37.false) (sym c.if-opens_comment.ensures) (sym c.if-is_lower.ensures) refl refl refl (ap (token lower_word) (one_more is_word_byte a.text.now a.at _ c.word_run.ensures.value))

pub returns-then-is_upper : goal.returns-then-is_upper
returns-then-is_upper c = let a = c.args in piece-by a.text.now a.at _ false false false false true _ _ (sym c.if-is_blank.ensures) (ne_eqb _ 37 c.if-b-eq37.false) (sym c.if-opens_comment.ensures) (sym c.if-is_lower.ensures) (sym c.if-is_upper.ensures) refl refl (ap (token upper_word) (one_more is_word_byte a.text.now a.at _ c.word_run-then-is_upper.ensures.value))

pub returns-then-is_digit : goal.returns-then-is_digit
returns-then-is_digit c = let a = c.args in piece-by a.text.now a.at _ false false false false false true _ (sym c.if-is_blank.ensures) (ne_eqb _ 37 c.if-b-eq37.false) (sym c.if-opens_comment.ensures) (sym c.if-is_lower.ensures) (sym c.if-is_upper.ensures) (sym c.if-is_digit.ensures) refl c.number_piece.ensures

pub returns-then-b-eq36 : goal.returns-then-b-eq36
returns-then-b-eq36 c = let a = c.args in piece-by a.text.now a.at _ false false false false false false true (sym c.if-is_blank.ensures) (ne_eqb _ 37 c.if-b-eq37.false) (sym c.if-opens_comment.ensures) (sym c.if-is_lower.ensures) (sym c.if-is_upper.ensures) (sym c.if-is_digit.ensures) (eq-eqb _ 36 c.if-b-eq36.true) c.dollar_piece.ensures

pub returns : goal.returns
returns c = let a = c.args in piece-by a.text.now a.at _ false false false false false false false (sym c.if-is_blank.ensures) (ne_eqb _ 37 c.if-b-eq37.false) (sym c.if-opens_comment.ensures) (sym c.if-is_lower.ensures) (sym c.if-is_upper.ensures) (sym c.if-is_digit.ensures) (ne_eqb _ 36 c.if-b-eq36.false) c.sign_piece.ensures
