-- What the code's kinds and pieces stand for.
use Rattle.std.specs.Prelude.{ℕ, suc, List, take, drop}
use Rattle.theory.specs.Bytes.{is_digit}
use Rattle.tptp.specs.Tokens.{TokenKind, lower_word, upper_word, digits, falsum, left_paren, right_paren, comma, full_stop, bar, tilde, equal_sign, unequal_sign, foreign, open_comment, gap, token, unclosed}
use Rattle.tptp.specs.Tokens as tokens
use Rattle.tokens.specs.declared.pieces.Kind.{Kind}
use Rattle.tokens.specs.declared.pieces.Kind.TheVariants.{LowerWord, UpperWord, Digits, Falsum, LeftParen, RightParen, Comma, FullStop, Bar, Tilde, EqualSign, UnequalSign, Foreign, OpenComment}
use Rattle.tokens.specs.declared.pieces.Piece.{Piece}
use Rattle.tokens.specs.declared.pieces.Piece.TheVariants.{Gap, Token, Unclosed}

abbrev pub kind_in : Kind → TokenKind
kind_in LowerWord = lower_word
kind_in UpperWord = upper_word
kind_in Digits = digits
kind_in Falsum = falsum
kind_in LeftParen = left_paren
kind_in RightParen = right_paren
kind_in Comma = comma
kind_in FullStop = full_stop
kind_in Bar = bar
kind_in Tilde = tilde
kind_in EqualSign = equal_sign
kind_in UnequalSign = unequal_sign
kind_in Foreign = foreign
kind_in OpenComment = open_comment

abbrev pub piece_in : Piece → tokens.Piece
piece_in (Gap n) = gap n
piece_in (Token k n) = token (kind_in k) n
piece_in Unclosed = unclosed

-- the piece that begins with a digit before these bytes
abbrev pub number_piece_of : List ℕ → tokens.Piece
number_piece_of bs = tokens.digits_piece (suc (tokens.run is_digit bs)) (drop (tokens.run is_digit bs) bs)

-- the piece that begins with $ before these bytes
abbrev pub dollar_piece_of : List ℕ → tokens.Piece
dollar_piece_of bs = tokens.dollar_piece (take (tokens.run tokens.is_word_byte bs) bs)
