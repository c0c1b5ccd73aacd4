-- The tokens of a text from a place on, by the piece that begins there.
use Prim.Native.Nat.{ℕ, suc, ◌+◌, ◌-◌, ◌≤◌, ◌<◌}
use mathlib.Core.Path.{◌≡◌, sym, ap, ◌∙◌, subst}
use mathlib.Core.List.{List, [], ◌∷◌, ◌++◌}
use native.Mathlib.Omega.{arith}
use lib.ListN.{length, get_or, take, drop, length-drop, drop_of_length-le}
use lib.Seq.{drop-cons, drop-drop}
use Rattle.text.specs.Lines.{part}
use Rattle.tptp.specs.Tokens.{Piece, gap, token, unclosed, TokenKind, open_comment, TptpToken, piece_of, piece_tokens, more_bytes, tokens_from}
use Rattle.tptp.proofs.Stepping.{next-piece}
use Rattle.tptp.proofs.PieceSizes.{Sized, piece-sized}
use Rattle.tokens.specs.NextTokens.{tokens_at, NextFound}
use Rattle.tokens.specs.Pieces.{kind_in}
use Rattle.tokens.specs.declared.pieces.Kind.{Kind}
use Rattle.tokens.specs.declared.pieces.Kind.TheVariants.{OpenComment}
use Rattle.std.specs.Prelude.{Some}

-- a token in front of others
abbrev front : TokenKind → List ℕ → ℕ → List TptpToken → List TptpToken
front k w p ts = record { kind = k; name = w; place = p } ∷ ts

-- no tokens are left at the text's end
pub none_left : (text : List ℕ) (i : ℕ) → length text ≤ i → tokens_at text i ≡ []
none_left text i h = ap (λ (l : List ℕ). tokens_from l 0 i) (drop_of_length-le text {i = i} h)

module _ (text : List ℕ) (i : ℕ) (h : i < length text) where
  -- the piece that begins at the place
  abbrev pub piece_here : Piece
  piece_here = piece_of (get_or text i 0) (drop (suc i) text)

  -- what follows a piece of n bytes
  after : (n : ℕ) → 1 ≤ n → tokens_from (drop (n - 1) (drop (suc i) text)) 0 (suc i + (n - 1)) ≡ tokens_at text (i + n)
  after n k =
      let e : suc i + (n - 1) ≡ i + n = omega arith in
      ap (λ (l : List ℕ). tokens_from l 0 (suc i + (n - 1))) (drop-drop (n - 1) (suc i) text) ∙ ap (λ (j : ℕ). tokens_from (drop j text) 0 j) e

  -- the tokens from here on, if this is the piece
  abbrev split : Piece → List TptpToken
  split p = piece_tokens p i (drop i text) ++ tokens_from (drop (more_bytes p (drop (suc i) text)) (drop (suc i) text)) 0 (suc i + more_bytes p (drop (suc i) text))

  step : (p : Piece) → piece_here ≡ p → tokens_at text i ≡ split p
  step p e =
      ap (λ (l : List ℕ). tokens_from l 0 i) d
      ∙ next-piece (get_or text i 0) (drop (suc i) text) i
      ∙ ap (λ (l : List ℕ). piece_tokens piece_here i l ++ tokens_from (drop (more_bytes piece_here (drop (suc i) text)) (drop (suc i) text)) 0 (suc i + more_bytes piece_here (drop (suc i) text))) (sym d)
      ∙ ap split e
    where
      d : drop i text ≡ get_or text i 0 ∷ drop (suc i) text
      d = drop-cons text i 0 h

  sized : (p : Piece) → piece_here ≡ p → Sized (suc (length (drop (suc i) text))) p
  sized p e = subst (Sized (suc (length (drop (suc i) text)))) e (piece-sized (get_or text i 0) (drop (suc i) text))

  pub gap-size : (n : ℕ) → gap n ≡ piece_here → (1 ≤ n) × (i + n ≤ length text)
  gap-size n e = let s = sized (gap n) (sym e) in (s.0, omega (arith, s.1, length-drop (suc i) text))

  pub token-size : (k : TokenKind) (n : ℕ) → token k n ≡ piece_here → (1 ≤ n) × (i + n ≤ length text)
  token-size k n e = let s = sized (token k n) (sym e) in (s.0, omega (arith, s.1, length-drop (suc i) text))

  -- a gap is passed
  pub gap-passed : (n : ℕ) → gap n ≡ piece_here → tokens_at text i ≡ tokens_at text (i + n)
  gap-passed n e = step (gap n) (sym e) ∙ after n (gap-size n e).0

  -- a token is the first
  token-first : (k : TokenKind) (n : ℕ) → token k n ≡ piece_here → tokens_at text i ≡ record { kind = k; name = take n (drop i text); place = i } ∷ tokens_at text (i + n)
  token-first k n e =
      step (token k n) (sym e)
      ∙ ap (λ (ts : List TptpToken). front k (take n (drop i text)) i ts) (after n (token-size k n e).0)

  -- a comment without end is missing text at the text's end
  open-last : unclosed ≡ piece_here → tokens_at text i ≡ record { kind = open_comment; name = part text (length text) (length text); place = length text } ∷ tokens_at text (length text)
  open-last e =
      step unclosed (sym e)
      ∙ ap (λ (ts : List TptpToken). front open_comment [] (i + length (drop i text)) ts)
      (ap (λ (l : List ℕ). tokens_from l 0 (suc i + length (drop (suc i) text))) (drop_of_length-le (drop (suc i) text) {i = length (drop (suc i) text)} (omega arith)) ∙ sym (none_left text (length text) (omega arith)))
      ∙ ap (λ (j : ℕ). front open_comment [] j (tokens_at text (length text))) l
      ∙ ap (λ (w : List ℕ). front open_comment w (length text) (tokens_at text (length text))) w
    where
      l : i + length (drop i text) ≡ length text
      l = omega (arith, length-drop i text)

      w : [] ≡ part text (length text) (length text)
      w = let e : 0 ≡ length text - length text = omega arith in ap (λ (n : ℕ). take n (drop (length text) text)) e

-- from `at` on all was passed up to place i
pub record Passed (text : List ℕ) (at i : ℕ) : Type 0 where
  pub from : at ≤ i
  pub within : i ≤ length text
  pub same : tokens_at text at ≡ tokens_at text i

module _ (text : List ℕ) (at i : ℕ) where
  pub passed-gap : (n : ℕ) → i < length text → gap n ≡ piece_of (get_or text i 0) (drop (suc i) text) → Passed text at i → Passed text at (i + n)
  passed-gap n h e p =
      let s = gap-size text i h n e in
      record { from = omega (arith, p.from); within = s.1; same = p.same ∙ gap-passed text i h n e }

  pub found-token : (k : Kind) (n : ℕ) → i < length text → token (kind_in k) n ≡ piece_of (get_or text i 0) (drop (suc i) text) → Passed text at i → NextFound text at (Some (record { kind = k; start = i; end = i + n }))
  found-token k n h e p =
      let s = token-size text i h (kind_in k) n e in
      let m : n ≡ i + n - i = omega arith in
      record {
        listed = p.same ∙ token-first text i h (kind_in k) n e
            ∙ ap (λ (j : ℕ). front (kind_in k) (take j (drop i text)) i (tokens_at text (i + n))) m;
        within = (p.from, (omega arith, (omega (arith, s.0, p.from), s.1)));
      }

  pub found-open : i < length text → unclosed ≡ piece_of (get_or text i 0) (drop (suc i) text) → Passed text at i → NextFound text at (Some (record { kind = OpenComment; start = length text; end = length text }))
  found-open h e p =
      record {
        listed = p.same ∙ open-last text i h e;
        within = (omega (arith, p.from), (omega arith, (omega (arith, p.from), omega arith)));
      }
