-- A piece has at least one byte and lies within the text; which piece is a comment without end.
use Prim.Native.Nat.{ℕ, suc, ◌+◌, ◌≤◌}
use mathlib.Core.Path.{◌≡◌, refl, sym, ap}
use mathlib.Core.Bool.{Bool, true, false, cond, not, ◌&&◌, ◌||◌, false≢true}
use mathlib.Core.Option.{Option, none, some}
use mathlib.Core.List.{List, [], ◌∷◌}
use native.Mathlib.Omega.{arith}
use lib.Dec.{eqb}
use lib.ListN.{length, take, drop, length-drop}
use lib.Seq.{length-take-le}
use Rattle.theory.specs.Lists.{same}
use Rattle.theory.specs.Bytes.{bytes, LF, is_digit}
use Rattle.theory.specs.Problem.{is_lower}
use Rattle.theory.proofs.Tests.{eqb-true, and_left, and_right}
use Rattle.theory.proofs.Lists.{same_true}
use Rattle.tptp.specs.Tokens.{Piece, gap, token, unclosed, digits, foreign, open_comment, kind_number, run, starts_with, is_word_byte, is_upper, is_blank, to_comment_end, ratio, fraction, sign_length, exponent, number_rest, comment_piece, digits_piece, dollar_piece, sign_piece, piece_of}

pub run-within : (p : ℕ → Bool) (bs : List ℕ) → run p bs ≤ length bs
run-within p [] = omega arith
run-within p (b ∷ bs) = go (p b) (run-within p bs)
  where
    go : (q : Bool) → run p bs ≤ length bs → (elim q as (λ _. ℕ) [ true ↦ suc (run p bs) | false ↦ 0 ]) ≤ suc (length bs)
    go true h = omega arith
    go false h = omega arith

-- a number that both ways keep within a bound
cond-within : (c : Bool) (x y m : ℕ) → x ≤ m → y ≤ m → cond c x y ≤ m
cond-within true x y m h k = h
cond-within false x y m h k = k

ratio-within : (bs : List ℕ) → ratio bs ≤ length bs
ratio-within [] = omega arith
ratio-within (b ∷ bs) = cond-within (eqb b 47 && starts_with is_digit bs && not (starts_with (eqb 48) bs)) _ _ _ (omega (arith, run-within is_digit bs)) (omega arith)

pub fraction-within : (bs : List ℕ) → fraction bs ≤ length bs
fraction-within [] = omega arith
fraction-within (b ∷ bs) = cond-within (eqb b 46 && starts_with is_digit bs) _ _ _ (omega (arith, run-within is_digit bs)) (omega arith)

-- a test of the first byte that passes shows that there is one
pub starts-some : (p : ℕ → Bool) (bs : List ℕ) → starts_with p bs ≡ true → 1 ≤ length bs
starts-some p [] h = let z : ◌≡◌ {A = ℕ} 0 1 = cc in absurd (omega arith)
starts-some p (b ∷ bs) h = omega arith

pub sign-within : (bs : List ℕ) → sign_length bs ≤ length bs
sign-within [] = omega arith
sign-within (b ∷ bs) = cond-within (eqb b 43 || eqb b 45) 1 0 _ (omega arith) (omega arith)

exponent-within : (bs : List ℕ) → exponent bs ≤ length bs
exponent-within [] = omega arith
exponent-within (b ∷ bs) =
    let n = sign_length bs in
    cond-within ((eqb b 101 || eqb b 69) && starts_with is_digit (drop n bs)) _ _ _ (omega (arith, run-within is_digit (drop n bs), length-drop n bs, sign-within bs)) (omega arith)

-- what makes digits a number lies within the text: what begins with / has no fraction and no exponent
pub number-within : (bs : List ℕ) → number_rest bs ≤ length bs
number-within [] = omega arith
number-within (b ∷ bs) = go (eqb b 47) refl
  where
    slash : (c : ℕ) → c ≡ 47 → number_rest (c ∷ bs) ≤ suc (length bs)
    slash c e = rw e (omega (arith, ratio-within (47 ∷ bs)))

    go : (q : Bool) → eqb b 47 ≡ q → number_rest (b ∷ bs) ≤ suc (length bs)
    go true e = slash b (eqb-true b 47 e)
    go false e =
        let r : ratio (b ∷ bs) ≡ 0 = ap (λ (q : Bool). cond (q && starts_with is_digit bs && not (starts_with (eqb 48) bs)) (suc (run is_digit bs)) 0) e in
        omega (arith, fraction-within (b ∷ bs), exponent-within (drop (fraction (b ∷ bs)) (b ∷ bs)), length-drop (fraction (b ∷ bs)) (b ∷ bs))

-- a piece of a text of m bytes has at least one byte and at most those
abbrev pub Sized : ℕ → Piece → Type 0
Sized m (gap n) = (1 ≤ n) × (n ≤ m)
Sized m (token k n) = (1 ≤ n) × (n ≤ m)
Sized m unclosed = 1 ≤ m

module _ (m : ℕ) where
  either : (c : Bool) (x y : Piece) → (c ≡ true → Sized m x) → Sized m y → Sized m (cond c x y)
  either true x y h k = h refl
  either false x y h k = k

-- a count, if there is one, is at least 1 and at most m
abbrev pub Counted : ℕ → Option ℕ → Type 0
Counted m none = Unit {0}
Counted m (some n) = (1 ≤ n) × (n ≤ m)

pub comment-within : (bs : List ℕ) → Counted (length bs) (to_comment_end bs)
comment-within [] = tt
comment-within (b ∷ bs) = go (eqb b 42 && starts_with (eqb 47) bs) (λ e. starts-some (eqb 47) bs (and_right (eqb b 42) (starts_with (eqb 47) bs) e)) (to_comment_end bs) (comment-within bs)
  where
    more : (o : Option ℕ) → Counted (length bs) o → Counted (suc (length bs)) (elim o as (λ _. Option ℕ) [ some n ↦ some (suc n) | none ↦ none ])
    more none h = tt
    more (some n) h = (omega arith, omega arith)

    go : (q : Bool) → (q ≡ true → 1 ≤ length bs) → (o : Option ℕ) → Counted (length bs) o
        → Counted (suc (length bs)) (elim q as (λ _. Option ℕ) [ true ↦ some 2 | false ↦ elim o as (λ _. Option ℕ) [ some n ↦ some (suc n) | none ↦ none ] ])
    go true k o h = (omega arith, omega (arith, k refl))
    go false k o h = more o h

-- the piece that begins with one byte before these has them all at most
pub piece-sized : (b : ℕ) (bs : List ℕ) → Sized (suc (length bs)) (piece_of b bs)
unfolding piece_of
piece-sized b bs =
    either m (is_blank b) _ _ (λ e. one)
    (either m (eqb b 37) _ _ (λ e. (omega arith, omega (arith, run-within (λ c. not (eqb c LF)) bs)))
    (either m (eqb b 47 && starts_with (eqb 42) bs) _ _ (λ e. comment (to_comment_end (drop 1 bs)) (comment-within (drop 1 bs)))
    (either m (is_lower b) _ _ (λ e. (omega arith, omega (arith, run-within is_word_byte bs)))
    (either m (is_upper b) _ _ (λ e. (omega arith, omega (arith, run-within is_word_byte bs)))
    (either m (is_digit b) _ _ (λ e. number) (either m (eqb b 36) _ _ (λ e. dollar) sign))))))
  where
    m : ℕ
    m = suc (length bs)

    one : (1 ≤ 1) × (1 ≤ suc (length bs))
    one = (omega arith, omega arith)

    comment : (o : Option ℕ) → Counted (length (drop 1 bs)) o → Sized (suc (length bs)) (comment_piece o)
    comment none h = omega arith
    comment (some n) h = (omega arith, omega (arith, h.0, h.1, length-drop 1 bs))

    number : Sized (suc (length bs)) (digits_piece (suc (run is_digit bs)) (drop (run is_digit bs) bs))
    number =
        let n = run is_digit bs in
        let rest = drop n bs in
        either (suc (length bs)) (eqb (number_rest rest) 0) (token digits (suc n)) (token foreign (suc n + number_rest rest)) (λ e. (omega arith, omega (arith, run-within is_digit bs)))
        (omega arith, omega (arith, run-within is_digit bs, number-within rest, length-drop n bs))

    dollar : Sized (suc (length bs)) (dollar_piece (take (run is_word_byte bs) bs))
    dollar =
        let n = run is_word_byte bs in
        let w = take n bs in
        let l : length w ≡ n = length-take-le n bs (run-within is_word_byte bs) in
        either (suc (length bs)) (same w (bytes "false")) _ _
        (λ e. (omega arith, omega (arith, run-within is_word_byte bs, ap length (same_true w (bytes "false") e))))
        (omega arith, omega (arith, run-within is_word_byte bs))

    sign : Sized (suc (length bs)) (sign_piece b bs)
    sign =
        either m (eqb b 40) _ _ (λ e. one)
        (either m (eqb b 41) _ _ (λ e. one)
        (either m (eqb b 44) _ _ (λ e. one)
        (either m (eqb b 46) _ _ (λ e. one)
        (either m (eqb b 124) _ _ (λ e. one)
        (either m (eqb b 126) _ _ (λ e. either m (starts_with (λ c. eqb c 124 || eqb c 38) bs) _ _ (λ f. two (λ c. eqb c 124 || eqb c 38) f) one)
        (either m (eqb b 61) _ _ (λ e. either m (starts_with (eqb 62) bs) _ _ (λ f. two (eqb 62) f) one)
        (either m (eqb b 33 && starts_with (eqb 61) bs) _ _ (λ e. two (eqb 61) (and_right (eqb b 33) (starts_with (eqb 61) bs) e)) one)))))))
      where
        two : (p : ℕ → Bool) → starts_with p bs ≡ true → (1 ≤ 2) × (2 ≤ suc (length bs))
        two p f = (omega arith, omega (arith, starts-some p bs f))

-- a comment without end is no token, and begins with /* before bytes without */
abbrev pub Opening : ℕ → List ℕ → Piece → Type 0
Opening b bs (gap n) = Unit {0}
Opening b bs (token k n) = eqb (kind_number open_comment) (kind_number k) ≡ false
Opening b bs unclosed = (y : List ℕ) × (b ≡ 47) × (bs ≡ 42 ∷ y) × (to_comment_end y ≡ none)

pub piece-opening : (b : ℕ) (bs : List ℕ) → Opening b bs (piece_of b bs)
unfolding piece_of
piece-opening b bs =
    one_of (is_blank b) _ _ (λ e. tt)
    (one_of (eqb b 37) _ _ (λ e. tt)
    (one_of (eqb b 47 && starts_with (eqb 42) bs) _ _ (λ e. comment bs (and_right (eqb b 47) (starts_with (eqb 42) bs) e) (eqb-true b 47 (and_left (eqb b 47) (starts_with (eqb 42) bs) e)))
    (one_of (is_lower b) _ _ (λ e. refl)
    (one_of (is_upper b) _ _ (λ e. refl)
    (one_of (is_digit b) _ _ (λ e. one_of (eqb (number_rest (drop (run is_digit bs) bs)) 0) _ _ (λ e. refl) refl)
    (one_of (eqb b 36) _ _ (λ e. one_of (same (take (run is_word_byte bs) bs) (bytes "false")) _ _ (λ e. refl) refl) sign))))))
  where
    one_of : (c : Bool) (x y : Piece) → (c ≡ true → Opening b bs x) → Opening b bs y → Opening b bs (cond c x y)
    one_of true x y h k = h refl
    one_of false x y h k = k

    comment : (cs : List ℕ) → starts_with (eqb 42) cs ≡ true → b ≡ 47 → Opening b cs (comment_piece (to_comment_end (drop 1 cs)))
    comment [] e k = absurd (false≢true e)
    comment (c ∷ cs) e k = go (to_comment_end cs) refl
      where
        go : (o : Option ℕ) → to_comment_end cs ≡ o → Opening b (c ∷ cs) (comment_piece o)
        go (some n) q = tt
        go none q = (cs, k, ap (λ (d : ℕ). d ∷ cs) (sym (eqb-true 42 c e)), q)

    sign : Opening b bs (sign_piece b bs)
    sign =
        one_of (eqb b 40) _ _ (λ e. refl)
        (one_of (eqb b 41) _ _ (λ e. refl)
        (one_of (eqb b 44) _ _ (λ e. refl)
        (one_of (eqb b 46) _ _ (λ e. refl)
        (one_of (eqb b 124) _ _ (λ e. refl)
        (one_of (eqb b 126) _ _ (λ e. one_of (starts_with (λ c. eqb c 124 || eqb c 38) bs) _ _ (λ f. refl) refl)
        (one_of (eqb b 61) _ _ (λ e. one_of (starts_with (eqb 62) bs) _ _ (λ f. refl) refl)
        (one_of (eqb b 33 && starts_with (eqb 61) bs) _ _ (λ e. refl) refl)))))))
