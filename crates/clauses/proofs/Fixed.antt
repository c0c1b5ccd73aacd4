-- Laws of the words that are no names: +, -, = and the variable letters.
use Prim.Native.Nat.{ℕ, ◌-◌, ◌≤◌, ◌<◌}
use mathlib.Core.Path.{◌≡◌, refl, ap}
use mathlib.Core.Logic.{◌⊎◌, inl, inr}
use mathlib.Core.Bool.{Bool, true, false, cond, ◌&&◌, ◌||◌, true≢false, false≢true}
use mathlib.Core.Option.{Option, none, some}
use mathlib.Core.List.{List, [], ◌∷◌}
use native.Mathlib.Omega.{arith}
use lib.Dec.{eqb, ltb, leb}
use lib.ListN.{length, get_or}
use borrow.Author.Tests.{lt-ltb, le-ltb, le-leb, lt-leb, eq-eqb, ne_eqb, ltb-true, ltb-false, leb-true, leb-false, eqb-true}
use Rattle.theory.specs.Syntax.{Signature}
use Rattle.theory.specs.Grammar.{Word, sign, equals, symbol, letter}
use Rattle.theory.specs.Problem.{place_of_name, name_word, word_of}
use Rattle.theory.proofs.Tests.{and_left, and_right, or_cases, eqb-ne}
use Rattle.syntax.specs.Codes.{fixed_code, letter_code, code_word}
use Rattle.clauses.specs.Words.{is_fixed, is_fixed_code, is_fixed_word}

pub fixed-length : (w : List ℕ) → is_fixed_word w ≡ true → length w ≡ 1
fixed-length [] e = absurd (false≢true e)
fixed-length (b ∷ []) e = refl
fixed-length (b ∷ c ∷ w) e = absurd (false≢true e)

pub fixed-one : (w : List ℕ) → length w ≡ 1 → is_fixed (get_or w 0 0) ≡ is_fixed_word w
fixed-one [] e = absurd (omega arith)
fixed-one (b ∷ []) e = refl
fixed-one (b ∷ c ∷ w) e = absurd (omega arith)

-- their bytes are below that of I
pub fixed-below : (w : List ℕ) → is_fixed_word w ≡ true → get_or w 0 0 < 73
fixed-below [] e = absurd (false≢true e)
fixed-below (b ∷ c ∷ w) e = absurd (false≢true e)
fixed-below (b ∷ []) e = first (or_cases (eqb b 43) (eqb b 45 || (eqb b 61 || (leb 65 b && ltb b 73))) e)
  where
    third : (eqb b 61 ≡ true) ⊎ ((leb 65 b && ltb b 73) ≡ true) → b < 73
    third (inl e) = omega (arith, eqb-true b 61 e)
    third (inr e) = ltb-true b 73 (and_right (leb 65 b) (ltb b 73) e)

    second : (eqb b 45 ≡ true) ⊎ ((eqb b 61 || (leb 65 b && ltb b 73)) ≡ true) → b < 73
    second (inl e) = omega (arith, eqb-true b 45 e)
    second (inr e) = third (or_cases (eqb b 61) (leb 65 b && ltb b 73) e)

    first : (eqb b 43 ≡ true) ⊎ ((eqb b 45 || (eqb b 61 || (leb 65 b && ltb b 73))) ≡ true) → b < 73
    first (inl e) = omega (arith, eqb-true b 43 e)
    first (inr e) = second (or_cases (eqb b 45) (eqb b 61 || (leb 65 b && ltb b 73)) e)

-- numbers compare as they do behind the places
eqb-behind : (m n : ℕ) → eqb (fixed_code m) (fixed_code n) ≡ eqb m n
eqb-behind m n = go (eqb m n) refl
  where
    go : (b : Bool) → eqb m n ≡ b → eqb (fixed_code m) (fixed_code n) ≡ b
    go true e = eq-eqb (fixed_code m) (fixed_code n) (ap fixed_code (eqb-true m n e))
    go false e = ne_eqb (fixed_code m) (fixed_code n) (λ k. let same : m ≡ n = omega arith in eqb-ne m n e same)

ltb-behind : (m n : ℕ) → ltb (fixed_code m) (fixed_code n) ≡ ltb m n
ltb-behind m n = go (ltb m n) refl
  where
    go : (b : Bool) → ltb m n ≡ b → ltb (fixed_code m) (fixed_code n) ≡ b
    go true e = let l : m < n = ltb-true m n e in lt-ltb (fixed_code m) (fixed_code n) (omega arith)
    go false e = let l : n ≤ m = ltb-false m n e in le-ltb (fixed_code m) (fixed_code n) (omega arith)

leb-behind : (m n : ℕ) → leb (fixed_code m) (fixed_code n) ≡ leb m n
leb-behind m n = go (leb m n) refl
  where
    go : (b : Bool) → leb m n ≡ b → leb (fixed_code m) (fixed_code n) ≡ b
    go true e = let l : m ≤ n = leb-true m n e in le-leb (fixed_code m) (fixed_code n) (omega arith)
    go false e = let l : n < m = leb-false m n e in lt-leb (fixed_code m) (fixed_code n) (omega arith)

-- the code of such a byte is such a code
pub fixed-behind : (b : ℕ) → is_fixed_code (fixed_code b) ≡ is_fixed b
fixed-behind b = rw (eqb-behind b 43, eqb-behind b 45, eqb-behind b 61, leb-behind 65 b, ltb-behind b 73)

-- the code of such a word stands for it
pub fixed_word : (g : Signature) (w : List ℕ) → is_fixed_word w ≡ true → some (code_word (fixed_code (get_or w 0 0))) ≡ word_of g w
unfolding word_of
fixed_word g [] e = absurd (false≢true e)
fixed_word g (b ∷ c ∷ w) e = absurd (false≢true e)
fixed_word g (b ∷ []) e =
    let x : fixed_code b - letter_code ≡ b - 65 = omega arith in
    rw (eqb-behind b 43, eqb-behind b 45, eqb-behind b 61, ltb-behind b 65, x)
    (plus (eqb b 43) (eqb b 45) (eqb b 61) (leb 65 b && ltb b 73) (ltb b 65) (λ h. le-ltb b 65 (leb-true 65 b (and_left (leb 65 b) (ltb b 73) h))) e)
  where
    plus : (p m q l s : Bool) → (l ≡ true → s ≡ false) → (p || (m || (q || l))) ≡ true
        → some (cond p (sign true) (cond m (sign false) (cond q equals (cond s (symbol (fixed_code b)) (letter (b - 65))))))
        ≡ cond p (some (sign true)) (cond m (some (sign false)) (cond q (some equals) (cond l (some (letter (b - 65))) (name_word (place_of_name (b ∷ []) g)))))
    plus true m q l s h e = refl
    plus false true q l s h e = refl
    plus false false true l s h e = refl
    plus false false false true s h e = ap (λ (t : Bool). some (cond t (symbol (fixed_code b)) (letter (b - 65)))) (h refl)
    plus false false false false s h e = absurd (false≢true e)

-- any other word that is not empty is a name
pub name-word : (g : Signature) (w : List ℕ) → (length w ≡ 0 → ⊥) → is_fixed_word w ≡ false → name_word (place_of_name w g) ≡ word_of g w
unfolding word_of
name-word g [] h e = absurd (h refl)
name-word g (b ∷ c ∷ w) h e = refl
name-word g (b ∷ []) h e = other (eqb b 43) (eqb b 45) (eqb b 61) (leb 65 b && ltb b 73) e
  where
    name : Option Word
    name = name_word (place_of_name (b ∷ []) g)

    other : (p m q l : Bool) → (p || (m || (q || l))) ≡ false → name ≡ cond p (some (sign true)) (cond m (some (sign false)) (cond q (some equals) (cond l (some (letter (b - 65))) name)))
    other true m q l e = absurd (true≢false e)
    other false true q l e = absurd (true≢false e)
    other false false true l e = absurd (true≢false e)
    other false false false true e = absurd (true≢false e)
    other false false false false e = refl

pub empty-word : (g : Signature) (w : List ℕ) → length w ≡ 0 → none ≡ word_of g w
unfolding word_of
empty-word g [] e = refl
empty-word g (b ∷ w) e = absurd (omega arith)
