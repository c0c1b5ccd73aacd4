-- The piece that begins at a place of a text, by its first byte.
use Prim.Native.Nat.{ℕ, suc, ◌+◌, ◌≤◌}
use mathlib.Core.Path.{◌≡◌, sym, ap, ◌∙◌}
use mathlib.Core.Bool.{Bool, cond, not, ◌&&◌}
use mathlib.Core.Option.{Option, none, some}
use mathlib.Core.List.{List}
use native.Mathlib.Numerals.{add-one}
use native.Mathlib.Omega.{arith}
use lib.Dec.{eqb}
use lib.ListN.{length, get_or, take, drop, length-drop}
use lib.Seq.{drop-drop}
use Rattle.theory.specs.Bytes.{LF, is_digit}
use Rattle.theory.specs.Problem.{is_lower}
use Rattle.tptp.specs.Tokens.{Piece, gap, token, lower_word, upper_word, run, starts_with, is_word_byte, is_upper, is_blank, to_comment_end, comment_piece, digits_piece, dollar_piece, sign_piece, piece_of}
use Rattle.tptp.proofs.PieceSizes.{run-within, Counted, comment-within}

-- a run lies within the text
pub run_room : (p : ℕ → Bool) (text : List ℕ) (at r : ℕ) → at ≤ length text → r ≡ run p (drop at text) → at + r ≤ length text
run_room p text at r h e = omega (arith, run-within p (drop at text), length-drop at text)

-- the piece by the tests of its first bytes, in their order
abbrev pub chain : (blank percent slash lower upper digit dollar : Bool) → ℕ → List ℕ → Piece
chain q r s t u v w b bs =
    cond q (gap 1)
    (cond r (gap (suc (run (λ c. not (eqb c LF)) bs)))
    (cond s (comment_piece (to_comment_end (drop 1 bs)))
    (cond t (token lower_word (suc (run is_word_byte bs)))
    (cond u (token upper_word (suc (run is_word_byte bs)))
    (cond v (digits_piece (suc (run is_digit bs)) (drop (run is_digit bs) bs)) (cond w (dollar_piece (take (run is_word_byte bs) bs)) (sign_piece b bs)))))))

module _ (text : List ℕ) (at : ℕ) (p : Piece) (q r s t u v w : Bool) where
  pub piece-by : is_blank (get_or text at 0) ≡ q → eqb (get_or text at 0) 37 ≡ r → (eqb (get_or text at 0) 47 && starts_with (eqb 42) (drop (suc at) text)) ≡ s
      → is_lower (get_or text at 0) ≡ t → is_upper (get_or text at 0) ≡ u → is_digit (get_or text at 0) ≡ v → eqb (get_or text at 0) 36 ≡ w
      → p ≡ chain q r s t u v w (get_or text at 0) (drop (at + 1) text) → p ≡ piece_of (get_or text at 0) (drop (suc at) text)
  unfolding piece_of
  piece-by e₁ e₂ e₃ e₄ e₅ e₆ e₇ h =
      h
      ∙ ap (λ (j : ℕ). chain q r s t u v w (get_or text at 0) (drop j text)) (add-one at)
      ∙ sym (
      ap (λ (x : Bool). chain x (eqb b 37) (eqb b 47 && starts_with (eqb 42) bs) (is_lower b) (is_upper b) (is_digit b) (eqb b 36) b bs) e₁
      ∙ ap (λ (x : Bool). chain q x (eqb b 47 && starts_with (eqb 42) bs) (is_lower b) (is_upper b) (is_digit b) (eqb b 36) b bs) e₂
      ∙ ap (λ (x : Bool). chain q r x (is_lower b) (is_upper b) (is_digit b) (eqb b 36) b bs) e₃
      ∙ ap (λ (x : Bool). chain q r s x (is_upper b) (is_digit b) (eqb b 36) b bs) e₄
      ∙ ap (λ (x : Bool). chain q r s t x (is_digit b) (eqb b 36) b bs) e₅
      ∙ ap (λ (x : Bool). chain q r s t u x (eqb b 36) b bs) e₆
      ∙ ap (λ (x : Bool). chain q r s t u v x b bs) e₇
      )
    where
      b : ℕ
      b = get_or text at 0

      bs : List ℕ
      bs = drop (suc at) text

-- one byte more than a run
pub one_more : (p : ℕ → Bool) (text : List ℕ) (at r : ℕ) → r ≡ run p (drop (at + 1) text) → 1 + r ≡ suc (run p (drop (at + 1) text))
one_more p text at r e = omega arith

-- what follows /*
pub comment-body : (text : List ℕ) (at : ℕ) (p : Piece) → p ≡ comment_piece (to_comment_end (drop (at + 2) text)) → p ≡ comment_piece (to_comment_end (drop 1 (drop (at + 1) text)))
comment-body text at p h =
    let e : at + 2 ≡ at + 1 + 1 = omega arith in
    h ∙ ap (λ (l : List ℕ). comment_piece (to_comment_end l)) (ap (λ (j : ℕ). drop j text) e ∙ sym (drop-drop 1 (at + 1) text))

-- a comment's end lies within the text
pub comment-room : (n : ℕ) (bs : List ℕ) → some n ≡ to_comment_end bs → n ≤ length bs
comment-room n bs e = go (to_comment_end bs) e (comment-within bs)
  where
    go : (o : Option ℕ) → some n ≡ o → Counted (length bs) o → n ≤ length bs
    go none e h = cc
    go (some m) e h = let k : n ≡ m = cc in omega (arith, h.1)
