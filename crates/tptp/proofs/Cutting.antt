-- A text cut at the end of a piece and continued otherwise: the piece stays the same, where what follows cannot belong to it.
use Prim.Native.Nat.{ℕ, suc, ◌+◌, ◌≤◌}
use mathlib.Core.Path.{◌≡◌, refl, sym, ap, ◌∙◌}
use mathlib.Core.Bool.{Bool, true, false, cond, not, ◌&&◌, ◌||◌, false≢true}
use mathlib.Core.Option.{Option, none, some, some-injective}
use mathlib.Core.List.{List, [], ◌∷◌, ◌++◌}
use native.Mathlib.Omega.{arith}
use lib.Dec.{eqb}
use lib.ListN.{length, take, drop, length-drop}
use lib.Seq.{length-take-le, take-append-le, drop-append-le}
use Rattle.theory.specs.Lists.{same}
use Rattle.theory.specs.Bytes.{bytes, LF, is_digit}
use Rattle.theory.specs.Problem.{is_lower}
use Rattle.theory.proofs.Tests.{eqb-true}
use Rattle.theory.proofs.Lists.{same_true}
use Rattle.tptp.specs.Tokens.{TokenKind, lower_word, upper_word, digits, falsum, tilde, equal_sign, unequal_sign, foreign, is_upper, is_word_byte, is_blank, run, starts_with, to_comment_end, ratio, fraction, sign_length, exponent, number_rest, Piece, gap, token, unclosed, comment_piece, digits_piece, dollar_piece, sign_piece, piece_of}
use Rattle.tptp.proofs.PieceSizes.{run-within}

-- a piece ends within m bytes after its first; blanks and comments end j bytes before the last of them
abbrev pub fits : ℕ → ℕ → Piece → Type 0
fits j m (gap n) = n + j ≤ suc m
fits j m (token k n) = n ≤ suc m
fits j m unclosed = ⊥

-- a byte that ends no line
abbrev pub in_line : ℕ → Bool
in_line b = not (eqb b LF)

-- what cannot belong to a token before it: it passes no test of bytes that blanks and / do not pass, and with / it goes on as no rational
pub record Parted (c : List ℕ) : Type 0 where
  pub first_byte : (p : ℕ → Bool) → p 32 ≡ false → p 9 ≡ false → p 13 ≡ false → p LF ≡ false → p 47 ≡ false → starts_with p c ≡ false
  pub no-ratio : ratio c ≡ 0

-- a % comment that ends j bytes before a cut stays as long, r or c being after the cut
abbrev pub Lines : ℕ → List ℕ → List ℕ → Type 0
Lines j r c = (x : List ℕ) → run in_line (x ++ r) + j ≤ length x → run in_line (x ++ c) ≡ run in_line (x ++ r)

length_run : (p : ℕ → Bool) (bs : List ℕ) → length (take (run p bs) bs) ≡ run p bs
length_run p bs = length-take-le (run p bs) bs (run-within p bs)

-- a comment's end has two bytes
end-two : (bs : List ℕ) (n : ℕ) → to_comment_end bs ≡ some n → 2 ≤ n
end-two [] n e = let z : ◌≡◌ {A = ℕ} 0 1 = cc in absurd (omega arith)
end-two (b ∷ bs) n e = go (eqb b 42 && starts_with (eqb 47) bs) (to_comment_end bs) (λ m k. end-two bs m k) e
  where
    go : (q : Bool) (o : Option ℕ) → ((m : ℕ) → o ≡ some m → 2 ≤ m)
        → (elim q as (λ _. Option ℕ) [ true ↦ some 2 | false ↦ elim o as (λ _. Option ℕ) [ some m ↦ some (suc m) | none ↦ none ] ]) ≡ some n → 2 ≤ n
    go true o ih e = let k : 2 ≡ n = some-injective 2 n e in omega (arith, k)
    go false (some m) ih e = let k : suc m ≡ n = some-injective (suc m) n e in omega (arith, k, ih m refl)
    go false none ih e = let z : ◌≡◌ {A = ℕ} 0 1 = cc in absurd (omega arith)

-- after a cut r may stand, or c
module _ (r c : List ℕ) where
  run_none : (p : ℕ → Bool) (bs : List ℕ) → starts_with p bs ≡ false → run p bs ≡ 0
  run_none p [] h = refl
  run_none p (b ∷ bs) h = ap (λ (q : Bool). elim q as (λ _. ℕ) [ true ↦ suc (run p bs) | false ↦ 0 ]) h

  pub run-cut : (j : ℕ) (p : ℕ → Bool) (x : List ℕ) → (j ≡ 0 → starts_with p c ≡ false) → run p (x ++ r) + j ≤ length x → run p (x ++ c) ≡ run p (x ++ r)
  run-cut j p [] h le = let z : run p r ≡ 0 = omega (arith, le) in run_none p c (h (omega (arith, le))) ∙ sym z
  run-cut j p (b ∷ x) h le = go (p b) le (λ k. run-cut j p x h k)
    where
      long : Bool → List ℕ → ℕ
      long q bs = elim q as (λ _. ℕ) [ true ↦ suc (run p bs) | false ↦ 0 ]

      go : (q : Bool) → long q (x ++ r) + j ≤ suc (length x) → (run p (x ++ r) + j ≤ length x → run p (x ++ c) ≡ run p (x ++ r)) → long q (x ++ c) ≡ long q (x ++ r)
      go true le ih = ap suc (ih (omega (arith, le)))
      go false le ih = refl

  comment-cut : (x : List ℕ) (n : ℕ) → to_comment_end (x ++ r) ≡ some n → n ≤ length x → to_comment_end (x ++ c) ≡ some n
  comment-cut [] n e le = absurd (omega (arith, end-two r n e, le))
  comment-cut (b ∷ []) n e le = absurd (omega (arith, end-two (b ∷ r) n e, le))
  comment-cut (b ∷ d ∷ x) n e le = go (eqb b 42 && eqb 47 d) (to_comment_end (d ∷ (x ++ r))) (λ m k l. comment-cut (d ∷ x) m k l) e
    where
      go : (q : Bool) (o : Option ℕ) → ((m : ℕ) → o ≡ some m → m ≤ suc (length x) → to_comment_end (d ∷ (x ++ c)) ≡ some m)
          → (elim q as (λ _. Option ℕ) [ true ↦ some 2 | false ↦ elim o as (λ _. Option ℕ) [ some m ↦ some (suc m) | none ↦ none ] ]) ≡ some n
          → (elim q as (λ _. Option ℕ) [ true ↦ some 2 | false ↦ elim (to_comment_end (d ∷ (x ++ c))) as (λ _. Option ℕ) [ some m ↦ some (suc m) | none ↦ none ] ]) ≡ some n
      go true o ih e = e
      go false (some m) ih e =
          let k : suc m ≡ n = some-injective (suc m) n e in
          ap (λ (o : Option ℕ). elim o as (λ _. Option ℕ) [ some m ↦ some (suc m) | none ↦ none ]) (ih m refl (omega (arith, k, le))) ∙ e
      go false none ih e = let z : ◌≡◌ {A = ℕ} 0 1 = cc in absurd (omega arith)

-- nothing of c belongs to a token before it, and a % comment stays as it was
module _ (r c : List ℕ) (j : ℕ) (parted : Parted c) (line : Lines j r c) where
  no_digit : starts_with is_digit c ≡ false
  no_digit = parted.first_byte is_digit refl refl refl refl refl

  no_sign : sign_length c ≡ 0
  no_sign = ap (λ (q : Bool). cond q 1 0) (parted.first_byte _ refl refl refl refl refl)

  -- bytes that pass a test
  passing-cut : (p : ℕ → Bool) (x : List ℕ) → starts_with p c ≡ false → run p (x ++ r) ≤ length x → run p (x ++ c) ≡ run p (x ++ r)
  passing-cut p x h le = run-cut r c 0 p x (λ _. h) (omega (arith, le))

  -- what digits after a mark are long, if the test q of the mark passes
  abbrev tail : Bool → (ℕ → ℕ) → List ℕ → ℕ
  tail q f bs = cond (q && starts_with is_digit bs) (f (run is_digit bs)) 0

  tail-cut : (q : Bool) (f : ℕ → ℕ) (k : ℕ) → ((n : ℕ) → f n ≡ k + n) → (z : List ℕ) → tail q f (z ++ r) ≤ k + length z → tail q f (z ++ c) ≡ tail q f (z ++ r)
  tail-cut false f k e z le = refl
  tail-cut true f k e [] le = ap (λ (q : Bool). cond q (f (run is_digit c)) 0) no_digit ∙ go r le
    where
      step : (r : List ℕ) (q : Bool) → cond q (f (elim q as (λ _. ℕ) [ true ↦ suc (run is_digit r) | false ↦ 0 ])) 0 ≤ k + 0 → 0 ≡ cond q (f (elim q as (λ _. ℕ) [ true ↦ suc (run is_digit r) | false ↦ 0 ])) 0
      step r true le = absurd (omega (arith, le, e (suc (run is_digit r))))
      step r false le = refl

      go : (r : List ℕ) → tail true f r ≤ k + 0 → 0 ≡ tail true f r
      go [] le = refl
      go (d ∷ r) le = step r (is_digit d) le
  tail-cut true f k e (d ∷ z) le = go (is_digit d) le
    where
      long : Bool → List ℕ → ℕ
      long q bs = cond q (f (elim q as (λ _. ℕ) [ true ↦ suc (run is_digit bs) | false ↦ 0 ])) 0

      go : (q : Bool) → long q (z ++ r) ≤ k + suc (length z) → long q (z ++ c) ≡ long q (z ++ r)
      go true le = ap (λ (n : ℕ). f (suc n)) (passing-cut is_digit z no_digit (omega (arith, le, e (suc (run is_digit (z ++ r))))))
      go false le = refl

  fraction-cut : (z : List ℕ) → fraction (z ++ r) ≤ length z → fraction (z ++ c) ≡ fraction (z ++ r)
  fraction-cut [] le = let z : fraction r ≡ 0 = omega (arith, le) in go c (parted.first_byte (λ b. eqb b 46) refl refl refl refl refl) ∙ sym z
    where
      go : (c : List ℕ) → starts_with (λ b. eqb b 46) c ≡ false → fraction c ≡ 0
      go [] h = refl
      go (b ∷ c) h = ap (λ (q : Bool). cond (q && starts_with is_digit c) (suc (run is_digit c)) 0) h
  fraction-cut (b ∷ z) le = tail-cut (eqb b 46) suc 1 (λ n. omega arith) z (omega (arith, le))

  ratio-cut : (z : List ℕ) → ratio (z ++ r) ≤ length z → ratio (z ++ c) ≡ ratio (z ++ r)
  ratio-cut [] le = let z : ratio r ≡ 0 = omega (arith, le) in parted.no-ratio ∙ sym z
  ratio-cut (b ∷ z) le = go (eqb b 47) z le
    where
      long : Bool → List ℕ → ℕ
      long q bs = cond (q && starts_with is_digit bs && not (starts_with (eqb 48) bs)) (suc (run is_digit bs)) 0

      first : Bool → Bool → List ℕ → ℕ
      first q s bs = cond (true && q && not s) (suc (elim q as (λ _. ℕ) [ true ↦ suc (run is_digit bs) | false ↦ 0 ])) 0

      none_left : (q s : Bool) (bs : List ℕ) → first q s bs ≤ 1 → 0 ≡ first q s bs
      none_left true true bs le = refl
      none_left true false bs le = absurd (omega (arith, le))
      none_left false s bs le = refl

      more : (q s : Bool) (z : List ℕ) → first q s (z ++ r) ≤ suc (suc (length z)) → first q s (z ++ c) ≡ first q s (z ++ r)
      more true true z le = refl
      more true false z le = ap (λ (n : ℕ). suc (suc n)) (passing-cut is_digit z no_digit (omega (arith, le)))
      more false s z le = refl

      at_cut : (r : List ℕ) → long true r ≤ 1 → 0 ≡ long true r
      at_cut [] le = refl
      at_cut (d ∷ r) le = none_left (is_digit d) (eqb 48 d) r le

      go : (q : Bool) (z : List ℕ) → long q (z ++ r) ≤ suc (length z) → long q (z ++ c) ≡ long q (z ++ r)
      go false z le = refl
      go true [] le = ap (λ (q : Bool). cond (q && not (starts_with (eqb 48) c)) (suc (run is_digit c)) 0) no_digit ∙ at_cut r le
      go true (d ∷ z) le = more (is_digit d) (eqb 48 d) z le

  exponent-cut : (z : List ℕ) → exponent (z ++ r) ≤ length z → exponent (z ++ c) ≡ exponent (z ++ r)
  exponent-cut [] le = let z : exponent r ≡ 0 = omega (arith, le) in go c (parted.first_byte (λ b. eqb b 101 || eqb b 69) refl refl refl refl refl) ∙ sym z
    where
      go : (c : List ℕ) → starts_with (λ b. eqb b 101 || eqb b 69) c ≡ false → exponent c ≡ 0
      go [] h = refl
      go (b ∷ c) h = ap (λ (q : Bool). cond (q && starts_with is_digit (drop (sign_length c) c)) (suc (sign_length c + run is_digit (drop (sign_length c) c))) 0) h
  exponent-cut (b ∷ []) le = go (eqb b 101 || eqb b 69) le
    where
      step : (n : ℕ) (y : List ℕ) (q : Bool) → cond q (suc (n + (elim q as (λ _. ℕ) [ true ↦ suc (run is_digit y) | false ↦ 0 ]))) 0 ≤ 1 → 0 ≡ cond q (suc (n + (elim q as (λ _. ℕ) [ true ↦ suc (run is_digit y) | false ↦ 0 ]))) 0
      step n y true le = absurd (omega (arith, le))
      step n y false le = refl

      short : (n : ℕ) (y : List ℕ) → cond (starts_with is_digit y) (suc (n + run is_digit y)) 0 ≤ 1 → 0 ≡ cond (starts_with is_digit y) (suc (n + run is_digit y)) 0
      short n [] le = refl
      short n (d ∷ y) le = step n y (is_digit d) le

      none_after : cond (starts_with is_digit (drop (sign_length c) c)) (suc (sign_length c + run is_digit (drop (sign_length c) c))) 0 ≡ 0
      none_after =
          ap (λ (n : ℕ). cond (starts_with is_digit (drop n c)) (suc (n + run is_digit (drop n c))) 0) no_sign
          ∙ ap (λ (q : Bool). cond q (suc (0 + run is_digit c)) 0) no_digit

      go : (q : Bool) → cond (q && starts_with is_digit (drop (sign_length r) r)) (suc (sign_length r + run is_digit (drop (sign_length r) r))) 0 ≤ 1
          → cond (q && starts_with is_digit (drop (sign_length c) c)) (suc (sign_length c + run is_digit (drop (sign_length c) c))) 0 ≡ cond (q && starts_with is_digit (drop (sign_length r) r)) (suc (sign_length r + run is_digit (drop (sign_length r) r))) 0
      go false le = refl
      go true le = none_after ∙ short (sign_length r) (drop (sign_length r) r) le
  exponent-cut (b ∷ d ∷ z) le = go (eqb d 43 || eqb d 45) le
    where
      q : Bool
      q = eqb b 101 || eqb b 69

      long : Bool → List ℕ → ℕ
      long s y = cond (q && starts_with is_digit (drop (cond s 1 0) (d ∷ y))) (suc (cond s 1 0 + run is_digit (drop (cond s 1 0) (d ∷ y)))) 0

      go : (s : Bool) → long s (z ++ r) ≤ suc (suc (length z)) → long s (z ++ c) ≡ long s (z ++ r)
      go true le = tail-cut q (λ n. suc (1 + n)) 2 (λ n. omega arith) z (omega (arith, le))
      go false le = tail-cut q (λ n. suc (0 + n)) 1 (λ n. omega arith) (d ∷ z) (omega (arith, le))

  rest-cut : (y : List ℕ) → number_rest (y ++ r) ≤ length y → number_rest (y ++ c) ≡ number_rest (y ++ r)
  rest-cut y le =
      let f : ℕ = fraction (y ++ r) in
      let k : f ≤ length y = omega (arith, le) in
      let a : drop f (y ++ r) ≡ drop f y ++ r = drop-append-le f y r k in
      let e : exponent (drop f y ++ r) ≡ exponent (drop f (y ++ r)) = ap exponent (sym a) in
      let l : exponent (drop f y ++ r) ≤ length (drop f y) = omega (arith, le, e, length-drop f y) in
      ap (λ (n : ℕ). n + (fraction (y ++ c) + exponent (drop (fraction (y ++ c)) (y ++ c)))) (ratio-cut y (omega (arith, le)))
      ∙ ap (λ (n : ℕ). ratio (y ++ r) + (n + exponent (drop n (y ++ c)))) (fraction-cut y k)
      ∙ ap (λ (n : ℕ). ratio (y ++ r) + (f + n)) (ap exponent (drop-append-le f y c k) ∙ exponent-cut (drop f y) l ∙ e)

  no_word : starts_with is_word_byte c ≡ false
  no_word = parted.first_byte is_word_byte refl refl refl refl refl

  -- one of two pieces
  choose : (m : ℕ) (q : Bool) (p p' s s' : Piece) → (fits j m p → p' ≡ p) → (fits j m s → s' ≡ s) → fits j m (cond q p s) → cond q p' s' ≡ cond q p s
  choose m true p p' s s' f g h = f h
  choose m false p p' s s' f g h = g h

  word_cut : (k : TokenKind) (x : List ℕ) → fits j (length x) (token k (suc (run is_word_byte (x ++ r)))) → token k (suc (run is_word_byte (x ++ c))) ≡ token k (suc (run is_word_byte (x ++ r)))
  word_cut k x h = ap (λ (n : ℕ). token k (suc n)) (passing-cut is_word_byte x no_word (omega (arith, h)))

  line-cut : (x : List ℕ) → fits j (length x) (gap (suc (run in_line (x ++ r)))) → gap (suc (run in_line (x ++ c))) ≡ gap (suc (run in_line (x ++ r)))
  line-cut x h = ap (λ (n : ℕ). gap (suc n)) (line x (omega (arith, h)))

  number_fits : (m n : ℕ) (rest : List ℕ) → fits j m (digits_piece (suc n) rest) → n + number_rest rest ≤ m
  number_fits m n rest h = go (eqb (number_rest rest) 0) refl h
    where
      go : (b : Bool) → eqb (number_rest rest) 0 ≡ b → fits j m (cond b (token digits (suc n)) (token foreign (suc n + number_rest rest))) → n + number_rest rest ≤ m
      go true e h = omega (arith, h, eqb-true (number_rest rest) 0 e)
      go false e h = omega (arith, h)

  digits-cut : (x : List ℕ) → fits j (length x) (digits_piece (suc (run is_digit (x ++ r))) (drop (run is_digit (x ++ r)) (x ++ r)))
      → digits_piece (suc (run is_digit (x ++ c))) (drop (run is_digit (x ++ c)) (x ++ c)) ≡ digits_piece (suc (run is_digit (x ++ r))) (drop (run is_digit (x ++ r)) (x ++ r))
  digits-cut x h =
      let n : ℕ = run is_digit (x ++ r) in
      let k : n + number_rest (drop n (x ++ r)) ≤ length x = number_fits (length x) n (drop n (x ++ r)) h in
      let le : n ≤ length x = omega (arith, k) in
      let e : number_rest (drop n x ++ r) ≡ number_rest (drop n (x ++ r)) = ap number_rest (sym (drop-append-le n x r le)) in
      let l : number_rest (drop n x ++ r) ≤ length (drop n x) = omega (arith, k, e, length-drop n x) in
      ap (λ (j : ℕ). digits_piece (suc j) (drop j (x ++ c))) (passing-cut is_digit x no_digit le)
      ∙ ap (λ (j : ℕ). cond (eqb j 0) (token digits (suc n)) (token foreign (suc n + j))) (ap number_rest (drop-append-le n x c le) ∙ rest-cut (drop n x) l ∙ e)

  dollar-fits : (m : ℕ) (w : List ℕ) → fits j m (dollar_piece w) → length w ≤ m
  dollar-fits m w h = go (same w (bytes "false")) refl h
    where
      go : (b : Bool) → same w (bytes "false") ≡ b → fits j m (cond b (token falsum 6) (token foreign (suc (length w)))) → length w ≤ m
      go true e h = let k : length w ≡ 5 = ap length (same_true w (bytes "false") e) in omega (arith, h, k)
      go false e h = omega (arith, h)

  dollar-cut : (x : List ℕ) → fits j (length x) (dollar_piece (take (run is_word_byte (x ++ r)) (x ++ r)))
      → dollar_piece (take (run is_word_byte (x ++ c)) (x ++ c)) ≡ dollar_piece (take (run is_word_byte (x ++ r)) (x ++ r))
  dollar-cut x h =
      let n : ℕ = run is_word_byte (x ++ r) in
      let le : n ≤ length x = omega (arith, dollar-fits (length x) (take n (x ++ r)) h, length_run is_word_byte (x ++ r)) in
      ap (λ (j : ℕ). dollar_piece (take j (x ++ c))) (passing-cut is_word_byte x no_word le)
      ∙ ap dollar_piece (take-append-le n x c le ∙ sym (take-append-le n x r le))

  -- a sign of two bytes or of one
  pair-cut : (p : ℕ → Bool) → starts_with p c ≡ false → (k l : TokenKind) (x : List ℕ) → fits j (length x) (cond (starts_with p (x ++ r)) (token k 2) (token l 1))
      → cond (starts_with p (x ++ c)) (token k 2) (token l 1) ≡ cond (starts_with p (x ++ r)) (token k 2) (token l 1)
  pair-cut p h k l (d ∷ x) f = refl
  pair-cut p h k l [] f = ap (λ (b : Bool). cond b (token k 2) (token l 1)) h ∙ go (starts_with p r) f
    where
      go : (b : Bool) → fits j 0 (cond b (token k 2) (token l 1)) → token l 1 ≡ cond b (token k 2) (token l 1)
      go true f = absurd (omega (arith, f))
      go false f = refl

  unequal-cut : (q : Bool) (x : List ℕ) → fits j (length x) (cond (q && starts_with (eqb 61) (x ++ r)) (token unequal_sign 2) (token foreign 1))
      → cond (q && starts_with (eqb 61) (x ++ c)) (token unequal_sign 2) (token foreign 1) ≡ cond (q && starts_with (eqb 61) (x ++ r)) (token unequal_sign 2) (token foreign 1)
  unequal-cut true x f = pair-cut (eqb 61) (parted.first_byte (eqb 61) refl refl refl refl refl) unequal_sign foreign x f
  unequal-cut false x f = refl

  sign-cut : (b : ℕ) (x : List ℕ) → fits j (length x) (sign_piece b (x ++ r)) → sign_piece b (x ++ c) ≡ sign_piece b (x ++ r)
  sign-cut b x h =
      choose (length x) (eqb b 40) _ _ _ _ (λ _. refl)
      (choose (length x) (eqb b 41) _ _ _ _ (λ _. refl)
      (choose (length x) (eqb b 44) _ _ _ _ (λ _. refl)
      (choose (length x) (eqb b 46) _ _ _ _ (λ _. refl)
      (choose (length x) (eqb b 124) _ _ _ _ (λ _. refl)
      (choose (length x) (eqb b 126) _ _ _ _ (pair-cut (λ c. eqb c 124 || eqb c 38) (parted.first_byte (λ c. eqb c 124 || eqb c 38) refl refl refl refl refl) foreign tilde x)
      (choose (length x) (eqb b 61) _ _ _ _ (pair-cut (eqb 62) (parted.first_byte (eqb 62) refl refl refl refl refl) foreign equal_sign x)
      (unequal-cut (eqb b 33) x))))))) h

  star-cut : (q : Bool) (x : List ℕ) (s s' : Piece) → (fits j (length x) s → s' ≡ s) → fits j (length x) (cond (q && starts_with (eqb 42) (x ++ r)) (comment_piece (to_comment_end (drop 1 (x ++ r)))) s)
      → cond (q && starts_with (eqb 42) (x ++ c)) (comment_piece (to_comment_end (drop 1 (x ++ c)))) s' ≡ cond (q && starts_with (eqb 42) (x ++ r)) (comment_piece (to_comment_end (drop 1 (x ++ r)))) s
  star-cut false x s s' f h = f h
  star-cut true [] s s' f h = ap (λ (q : Bool). cond q (comment_piece (to_comment_end (drop 1 c))) s') (parted.first_byte (eqb 42) refl refl refl refl refl) ∙ go (starts_with (eqb 42) r) h
    where
      over : (o : Option ℕ) → fits j 0 (comment_piece o) → ⊥
      over (some n) h = omega (arith, h)
      over none h = h

      go : (b : Bool) → fits j 0 (cond b (comment_piece (to_comment_end (drop 1 r))) s) → s' ≡ cond b (comment_piece (to_comment_end (drop 1 r))) s
      go true h = absurd (over (to_comment_end (drop 1 r)) h)
      go false h = f h
  star-cut true (d ∷ x) s s' f h = go (eqb 42 d) h
    where
      inside : (o : Option ℕ) → to_comment_end (x ++ r) ≡ o → fits j (suc (length x)) (comment_piece o) → comment_piece (to_comment_end (x ++ c)) ≡ comment_piece o
      inside (some n) e h = ap comment_piece (comment-cut r c x n e (omega (arith, h)))
      inside none e h = absurd h

      go : (b : Bool) → fits j (suc (length x)) (cond b (comment_piece (to_comment_end (x ++ r))) s) → cond b (comment_piece (to_comment_end (x ++ c))) s' ≡ cond b (comment_piece (to_comment_end (x ++ r))) s
      go true h = inside (to_comment_end (x ++ r)) refl h
      go false h = f h

  -- the law: a piece that ends before the cut
  pub piece_cut : (b : ℕ) (x : List ℕ) → fits j (length x) (piece_of b (x ++ r)) → piece_of b (x ++ c) ≡ piece_of b (x ++ r)
  unfolding piece_of
  piece_cut b x h =
      choose (length x) (is_blank b) _ _ _ _ (λ _. refl)
      (choose (length x) (eqb b 37) _ _ _ _ (line-cut x)
      (star-cut (eqb b 47) x _ _
      (choose (length x) (is_lower b) _ _ _ _ (word_cut lower_word x)
      (choose (length x) (is_upper b) _ _ _ _ (word_cut upper_word x)
      (choose (length x) (is_digit b) _ _ _ _ (digits-cut x)
      (choose (length x) (eqb b 36) _ _ _ _ (dollar-cut x)
      (sign-cut b x))))))) h

-- a test that no blank passes
by-blank : (p : ℕ → Bool) → p 32 ≡ false → p 9 ≡ false → p 13 ≡ false → p LF ≡ false → (b : ℕ) → is_blank b ≡ true → p b ≡ false
by-blank p h₁ h₂ h₃ h₄ b e = go (eqb b 32) (eqb b 9) (eqb b 13) (eqb b LF) refl refl refl refl e
  where
    at : (n : ℕ) → p n ≡ false → eqb b n ≡ true → p b ≡ false
    at n h q = ap p (eqb-true b n q) ∙ h

    go : (q₁ q₂ q₃ q₄ : Bool) → eqb b 32 ≡ q₁ → eqb b 9 ≡ q₂ → eqb b 13 ≡ q₃ → eqb b LF ≡ q₄ → (q₁ || q₂ || q₃ || q₄) ≡ true → p b ≡ false
    go true q₂ q₃ q₄ e₁ e₂ e₃ e₄ e = at 32 h₁ e₁
    go false true q₃ q₄ e₁ e₂ e₃ e₄ e = at 9 h₂ e₂
    go false false true q₄ e₁ e₂ e₃ e₄ e = at 13 h₃ e₃
    go false false false true e₁ e₂ e₃ e₄ e = at LF h₄ e₄
    go false false false false e₁ e₂ e₃ e₄ e = absurd (false≢true e)

pub nothing-parted : Parted []
nothing-parted = record { first_byte = λ p _ _ _ _ _. refl; no-ratio = refl }

pub blank-parted : (b : ℕ) (c : List ℕ) → is_blank b ≡ true → Parted (b ∷ c)
blank-parted b c h =
    record {
      first_byte = λ p h₁ h₂ h₃ h₄ _. by-blank p h₁ h₂ h₃ h₄ b h;
      no-ratio = ap (λ (q : Bool). cond (q && starts_with is_digit c && not (starts_with (eqb 48) c)) (suc (run is_digit c)) 0) (by-blank (λ b. eqb b 47) refl refl refl refl b h);
    }

pub comment-parted : (c : List ℕ) → Parted (47 ∷ 42 ∷ c)
comment-parted c = record { first_byte = λ p _ _ _ _ h. h; no-ratio = refl }

-- a % comment stays where it ends before the cut
pub line_before : (r c : List ℕ) → Lines 1 r c
line_before r c x le = run-cut r c 1 in_line x (λ e. absurd (omega (arith, e))) le

-- and where a line ends after the cut, or the text
pub line-ends : (r c : List ℕ) → starts_with in_line c ≡ false → Lines 0 r c
line-ends r c h x le = run-cut r c 0 in_line x (λ _. h) le

-- and where a line went on after the cut, so that the comment ended before it
pub line-goes-on : (r c : List ℕ) → starts_with in_line r ≡ true → Lines 0 r c
line-goes-on r c h x le = line_before r c x (earlier x r h (omega (arith, le)))
  where
    starts : (r : List ℕ) → starts_with in_line r ≡ true → 1 ≤ run in_line r
    starts [] h = absurd (false≢true h)
    starts (b ∷ r) h = let e : run in_line (b ∷ r) ≡ suc (run in_line r) = ap (λ (q : Bool). elim q as (λ _. ℕ) [ true ↦ suc (run in_line r) | false ↦ 0 ]) h in omega (arith, e)

    earlier : (x r : List ℕ) → starts_with in_line r ≡ true → run in_line (x ++ r) ≤ length x → run in_line (x ++ r) + 1 ≤ length x
    earlier [] r h le = absurd (omega (arith, starts r h, le))
    earlier (b ∷ x) r h le = go (in_line b) (λ k. earlier x r h k) le
      where
        long : Bool → ℕ
        long q = elim q as (λ _. ℕ) [ true ↦ suc (run in_line (x ++ r)) | false ↦ 0 ]

        go : (q : Bool) → (run in_line (x ++ r) ≤ length x → run in_line (x ++ r) + 1 ≤ length x) → long q ≤ suc (length x) → long q + 1 ≤ suc (length x)
        go true ih le = omega (arith, ih (omega (arith, le)))
        go false ih le = omega arith
