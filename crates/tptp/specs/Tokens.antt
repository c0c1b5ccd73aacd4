-- The tokens of a TPTP text, each with the place where it starts. Blanks and comments are no tokens.
use Rattle.std.specs.Prelude.{ℕ, zero, suc, ◌+◌, ◌-◌, Bool, true, false, cond, not, ◌&&◌, ◌||◌, List, [], ◌∷◌, ◌++◌, eqb, ltb, leb, length, take, drop}
use Rattle.std.proofs.Math.Option.{Option, none, some}
use Rattle.theory.specs.Lists.{same}
use Rattle.theory.specs.Bytes.{bytes, LF, is_digit}
use Rattle.theory.specs.Problem.{is_lower}

-- what a token is; foreign: a token of TPTP that this part of it lacks, or a byte that begins no token; open_comment: a comment without its end
pub data TokenKind : Type 0 where
  lower_word upper_word digits falsum left_paren right_paren comma full_stop bar tilde equal_sign unequal_sign foreign open_comment : TokenKind

-- a token: its kind, its bytes, and how many bytes of the text stand before it
pub record TptpToken : Type 0 where
  pub kind : TokenKind
  pub name : List ℕ
  pub place : ℕ

-- an upper-case letter
abbrev pub is_upper : ℕ → Bool
is_upper b = leb 65 b && ltb b 91

-- a byte that goes on with a word: a letter, a digit or an underscore
abbrev pub is_word_byte : ℕ → Bool
is_word_byte b = is_lower b || is_upper b || is_digit b || eqb b 95

-- space, tab, CR or LF
abbrev pub is_blank : ℕ → Bool
is_blank b = eqb b 32 || eqb b 9 || eqb b 13 || eqb b LF

-- how many bytes at the front pass the test
abbrev pub run : (ℕ → Bool) → List ℕ → ℕ
run p [] = 0
run p (b ∷ bs) = elim (p b) [ true ↦ suc (run p bs) | false ↦ 0 ]

-- the first byte passes the test
abbrev pub starts_with : (ℕ → Bool) → List ℕ → Bool
starts_with p [] = false
starts_with p (b ∷ bs) = p b

-- how many bytes there are to the end of the first */
abbrev pub to_comment_end : List ℕ → Option ℕ
to_comment_end [] = none
to_comment_end (b ∷ bs) = elim (eqb b 42 && starts_with (eqb 47) bs) [ true ↦ some 2 | false ↦ elim (to_comment_end bs) [ some n ↦ some (suc n) | none ↦ none ] ]

-- the length of what makes the digits before it a rational: / and digits, the first not 0
abbrev pub ratio : List ℕ → ℕ
ratio [] = 0
ratio (b ∷ bs) = cond (eqb b 47 && starts_with is_digit bs && not (starts_with (eqb 48) bs)) (suc (run is_digit bs)) 0

-- the length of a real's fraction: . and digits
abbrev pub fraction : List ℕ → ℕ
fraction [] = 0
fraction (b ∷ bs) = cond (eqb b 46 && starts_with is_digit bs) (suc (run is_digit bs)) 0

-- the length of an exponent's sign
abbrev pub sign_length : List ℕ → ℕ
sign_length bs = cond (starts_with (λ b. eqb b 43 || eqb b 45) bs) 1 0

-- the length of a real's exponent: e or E, perhaps a sign, and digits
abbrev pub exponent : List ℕ → ℕ
exponent [] = 0
exponent (b ∷ bs) = let n = sign_length bs in cond ((eqb b 101 || eqb b 69) && starts_with is_digit (drop n bs)) (suc (n + run is_digit (drop n bs))) 0

-- the length of what makes the digits before it a rational or a real
abbrev pub number_rest : List ℕ → ℕ
number_rest bs = ratio bs + (fraction bs + exponent (drop (fraction bs) bs))

-- the first piece of a text: blanks and comments of so many bytes, a token of so many bytes, or a comment that does not end
pub data Piece : Type 0 where
  gap : ℕ → Piece
  token : TokenKind → ℕ → Piece
  unclosed : Piece

-- the piece that begins with /* and goes on with these bytes
abbrev pub comment_piece : Option ℕ → Piece
comment_piece (some n) = gap (2 + n)
comment_piece none = unclosed

-- the piece that begins with n digits, before these bytes: digits, or with what follows a number
abbrev pub digits_piece : ℕ → List ℕ → Piece
digits_piece n bs = cond (eqb (number_rest bs) 0) (token digits n) (token foreign (n + number_rest bs))

-- the piece that begins with $ and these word bytes
abbrev pub dollar_piece : List ℕ → Piece
dollar_piece w = cond (same w (bytes "false")) (token falsum 6) (token foreign (suc (length w)))

-- the piece that begins with a byte that begins no blank, comment, word, number or $: punctuation; =>, ~| and ~& are tokens of TPTP
abbrev pub sign_piece : ℕ → List ℕ → Piece
sign_piece b bs =
    cond (eqb b 40) (token left_paren 1)
    (cond (eqb b 41) (token right_paren 1)
    (cond (eqb b 44) (token comma 1)
    (cond (eqb b 46) (token full_stop 1)
    (cond (eqb b 124) (token bar 1)
    (cond (eqb b 126) (cond (starts_with (λ c. eqb c 124 || eqb c 38) bs) (token foreign 2) (token tilde 1))
    (cond (eqb b 61) (cond (starts_with (eqb 62) bs) (token foreign 2) (token equal_sign 1))
    (cond (eqb b 33 && starts_with (eqb 61) bs) (token unequal_sign 2)
    (token foreign 1))))))))

-- the first piece of the text that begins with the byte b and goes on with bs
unfoldable pub piece_of : ℕ → List ℕ → Piece
piece_of b bs =
    let line_comment = gap (suc (run (λ c. not (eqb c LF)) bs)) in
    let comment = comment_piece (to_comment_end (drop 1 bs)) in
    let lower = token lower_word (suc (run is_word_byte bs)) in
    let upper = token upper_word (suc (run is_word_byte bs)) in
    let number = digits_piece (suc (run is_digit bs)) (drop (run is_digit bs) bs) in
    let dollar = dollar_piece (take (run is_word_byte bs) bs) in
    let other = sign_piece b bs in
    cond (is_blank b) (gap 1)
    (cond (eqb b 37) line_comment
    (cond (eqb b 47 && starts_with (eqb 42) bs) comment
    (cond (is_lower b) lower
    (cond (is_upper b) upper
    (cond (is_digit b) number
    (cond (eqb b 36) dollar other))))))

-- how many more bytes a piece has after its first; a comment without end has all
abbrev pub more_bytes : Piece → List ℕ → ℕ
more_bytes (gap n) bs = n - 1
more_bytes (token k n) bs = n - 1
more_bytes unclosed bs = length bs

-- the tokens of the first piece of a text that starts at place i: one or none; a comment without end is missing text at the text's end
abbrev pub piece_tokens : Piece → ℕ → List ℕ → List TptpToken
piece_tokens (gap n) i text = []
piece_tokens (token k n) i text = record { kind = k; name = take n text; place = i } ∷ []
piece_tokens unclosed i text = record { kind = open_comment; name = []; place = i + length text } ∷ []

-- the tokens from place i on, where the first n bytes belong to a piece that began before
abbrev pub tokens_from : List ℕ → ℕ → ℕ → List TptpToken
tokens_from [] zero i = []
tokens_from [] (suc n) i = []
tokens_from (b ∷ bs) zero i = let p = piece_of b bs in piece_tokens p i (b ∷ bs) ++ tokens_from bs (more_bytes p bs) (suc i)
tokens_from (b ∷ bs) (suc n) i = tokens_from bs n (suc i)

-- the tokens of a text
unfoldable pub tokens : List ℕ → List TptpToken
tokens text = tokens_from text 0 0

-- the token is of this kind
abbrev pub kind_number : TokenKind → ℕ
kind_number lower_word = 0
kind_number upper_word = 1
kind_number digits = 2
kind_number falsum = 3
kind_number left_paren = 4
kind_number right_paren = 5
kind_number comma = 6
kind_number full_stop = 7
kind_number bar = 8
kind_number tilde = 9
kind_number equal_sign = 10
kind_number unequal_sign = 11
kind_number foreign = 12
kind_number open_comment = 13

abbrev pub is : TokenKind → TptpToken → Bool
is k t = eqb (kind_number k) (kind_number t.kind)
