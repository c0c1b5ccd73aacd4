-- What follows a key: with its good bytes something after them makes it as laid out, with one byte more nothing does.
use Prim.Native.Nat.{ℕ, zero, suc, ◌+◌, ◌*◌, ◌-◌, ◌≤◌, ◌<◌}
use mathlib.Core.Path.{◌≡◌, refl, ap, ◌∙◌}
use mathlib.Core.Bool.{Bool, true, false, cond, not, ◌&&◌}
use mathlib.Core.Option.{none, some}
use mathlib.Core.List.{List, [], ◌∷◌, ◌++◌}
use native.Mathlib.Omega.{arith}
use lib.Dec.{eqb}
use lib.ListN.{length, take}
use lib.Seq.{take-length}
use Rattle.theory.specs.Lists.{all}
use Rattle.theory.specs.Bytes.{zero_digit, is_digit}
use Rattle.theory.specs.Syntax.{function}
use Rattle.theory.specs.Lines.{count_of}
use Rattle.theory.specs.Problem.{symbol_of}
use Rattle.theory.specs.LineForms.{ValueForm, no_bytes, count_digits, declaration, any_words, size_digit, cell_values, is_some, has_form, passing, is_size_byte, cell_tests, count_tests, good_value}
use Rattle.theory.proofs.Tests.{and-join}
use Rattle.theory.proofs.Lines.{in_line}
use Rattle.theory.proofs.SheetRead.{symbol-made}
use Rattle.theory.proofs.LineMatching.{passing-within, passing-stays, passing-clears, size-matches, cells-match, cells-passed}

-- something is so laid out: a table has a value at least, and its size is 1 at least
abbrev pub CanHaveForm : ValueForm → Type 0
CanHaveForm no_bytes = Unit {0}
CanHaveForm count_digits = Unit {0}
CanHaveForm declaration = Unit {0}
CanHaveForm any_words = Unit {0}
CanHaveForm size_digit = Unit {0}
CanHaveForm (cell_values s k n) = (1 ≤ s) × (1 ≤ n)

-- counts
and_none : (p q : Bool) (n : ℕ) → is_some (cond (p && q && false) (some n) none) ≡ false
and_none true true n = refl
and_none true false n = refl
and_none false q n = refl

-- after 0 nothing can follow
zero-alone : (b c : ℕ) (rest : List ℕ) → eqb b zero_digit ≡ true → is_some (count_of (b ∷ c ∷ rest)) ≡ false
zero-alone b c [] e =
    ap (λ (q : Bool). is_some (cond (is_digit b && is_digit c && not q) (some ((b - zero_digit) * 10 + (c - zero_digit))) none)) e ∙ and_none (is_digit b) (is_digit c) ((b - zero_digit) * 10 + (c - zero_digit))
zero-alone b c (d ∷ rest) e = refl

first-bad : (b : ℕ) (rest : List ℕ) → is_digit b ≡ false → is_some (count_of (b ∷ rest)) ≡ false
first-bad b [] e = ap (λ (q : Bool). is_some (cond q (some (b - zero_digit)) none)) e
first-bad b (c ∷ []) e = ap (λ (q : Bool). is_some (cond (q && is_digit c && not (eqb b zero_digit)) (some ((b - zero_digit) * 10 + (c - zero_digit))) none)) e
first-bad b (c ∷ d ∷ rest) e = refl

second-bad : (b c : ℕ) (rest : List ℕ) → is_digit b ≡ true → is_digit c ≡ false → is_some (count_of (b ∷ c ∷ rest)) ≡ false
second-bad b c [] e h =
    ap (λ (q : Bool). is_some (cond (q && is_digit c && not (eqb b zero_digit)) (some ((b - zero_digit) * 10 + (c - zero_digit))) none)) e
    ∙ ap (λ (q : Bool). is_some (cond (q && not (eqb b zero_digit)) (some ((b - zero_digit) * 10 + (c - zero_digit))) none)) h
second-bad b c (d ∷ rest) e h = refl

one-digit : (b : ℕ) → is_digit b ≡ true → is_some (count_of (b ∷ [])) ≡ true
one-digit b e = ap (λ (q : Bool). is_some (cond q (some (b - zero_digit)) none)) e

two_digits : (b c : ℕ) → is_digit b ≡ true → is_digit c ≡ true → eqb b zero_digit ≡ false → is_some (count_of (b ∷ c ∷ [])) ≡ true
two_digits b c e h k =
    ap (λ (q : Bool). is_some (cond q (some ((b - zero_digit) * 10 + (c - zero_digit))) none))
    (and-join (is_digit b && is_digit c) (not (eqb b zero_digit)) (and-join (is_digit b) (is_digit c) e h) (ap not k))

-- the good bytes of a count
abbrev good_count : List ℕ → ℕ
good_count v = passing (count_tests v) v

count-stays : (bs rest : List ℕ) → good_count bs < length bs → is_some (count_of (take (suc (good_count bs)) bs ++ rest)) ≡ false
count-stays [] rest h = absurd (omega arith)
count-stays (b ∷ bs) rest h = first (is_digit b) refl h
  where
    tests : Bool → List (ℕ → Bool)
    tests z = cond z [] (is_digit ∷ [])

    third : (c : ℕ) (cs : List ℕ) (q : Bool) → is_digit b ≡ true → is_digit c ≡ q → eqb b zero_digit ≡ false → suc (cond q 1 0) < suc (suc (length cs))
        → is_some (count_of (take (suc (suc (cond q 1 0))) (b ∷ c ∷ cs) ++ rest)) ≡ false
    third c cs false e d z k = second-bad b c rest e d
    third c [] true e d z k = absurd (omega arith)
    third c (x ∷ cs) true e d z k = refl

    second : (z : Bool) (cs : List ℕ) → is_digit b ≡ true → eqb b zero_digit ≡ z → suc (passing (tests z) cs) < suc (length cs)
        → is_some (count_of (take (suc (suc (passing (tests z) cs))) (b ∷ cs) ++ rest)) ≡ false
    second true [] e z k = absurd (omega arith)
    second true (c ∷ cs) e z k = zero-alone b c rest z
    second false [] e z k = absurd (omega arith)
    second false (c ∷ cs) e z k = third c cs (is_digit c) e refl z k

    first : (q : Bool) → is_digit b ≡ q → cond q (suc (passing (tests (eqb b zero_digit)) bs)) 0 < suc (length bs)
        → is_some (count_of (take (suc (cond q (suc (passing (tests (eqb b zero_digit)) bs)) 0)) (b ∷ bs) ++ rest)) ≡ false
    first true e k = second (eqb b zero_digit) bs e refl k
    first false e k = first-bad b rest e

count-clears : (bs : List ℕ) → (rest : List ℕ) × (all in_line rest ≡ true) × (is_some (count_of (take (good_count bs) bs ++ rest)) ≡ true)
count-clears [] = (48 ∷ [], refl, refl)
count-clears (b ∷ bs) = first (is_digit b) refl
  where
    tests : Bool → List (ℕ → Bool)
    tests z = cond z [] (is_digit ∷ [])

    Clears : ℕ → List ℕ → Type 0
    Clears n cs = (rest : List ℕ) × (all in_line rest ≡ true) × (is_some (count_of (take n cs ++ rest)) ≡ true)

    third : (c : ℕ) (cs : List ℕ) (q : Bool) → is_digit b ≡ true → is_digit c ≡ q → eqb b zero_digit ≡ false → Clears (suc (cond q 1 0)) (b ∷ c ∷ cs)
    third c cs true e d z = ([], refl, two_digits b c e d z)
    third c cs false e d z = ([], refl, one-digit b e)

    second : (z : Bool) (cs : List ℕ) → is_digit b ≡ true → eqb b zero_digit ≡ z → Clears (suc (passing (tests z) cs)) (b ∷ cs)
    second true cs e z = ([], refl, one-digit b e)
    second false [] e z = ([], refl, one-digit b e)
    second false (c ∷ cs) e z = third c cs (is_digit c) e refl z

    first : (q : Bool) → is_digit b ≡ q → Clears (cond q (suc (passing (tests (eqb b zero_digit)) bs)) 0) (b ∷ bs)
    first true e = second (eqb b zero_digit) bs e refl
    first false e = (48 ∷ [], refl, refl)

-- any bytes, then / and 0
slash-declares : (bs : List ℕ) → is_some (symbol_of function (bs ++ (47 ∷ 48 ∷ []))) ≡ true
slash-declares bs = ap is_some (symbol-made function bs 48 (omega arith) (omega arith))

pub value-within : (v : ValueForm) (bs : List ℕ) → good_value v bs ≤ length bs
unfolding good_value
value-within no_bytes bs = omega arith
value-within count_digits bs = passing-within (count_tests bs) bs
value-within declaration bs = omega arith
value-within any_words bs = omega arith
value-within size_digit bs = passing-within (is_size_byte ∷ []) bs
value-within (cell_values s k n) bs = passing-within (cell_tests s k n) bs

pub value_stays : (v : ValueForm) (bs rest : List ℕ) → CanHaveForm v → good_value v bs < length bs → has_form v (take (suc (good_value v bs)) bs ++ rest) ≡ false
unfolding good_value has_form
value_stays no_bytes [] rest c h = absurd (omega arith)
value_stays no_bytes (b ∷ bs) rest c h = refl
value_stays count_digits bs rest c h = count-stays bs rest h
value_stays declaration bs rest c h = absurd (omega arith)
value_stays any_words bs rest c h = absurd (omega arith)
value_stays size_digit bs rest c h = size-matches (take (suc (passing (is_size_byte ∷ []) bs)) bs ++ rest) ∙ passing-stays (is_size_byte ∷ []) bs rest h
value_stays (cell_values s k zero) bs rest c h = let z : 1 ≤ 0 = c.1 in absurd (omega arith)
value_stays (cell_values s k (suc n)) bs rest c h = cells-match s k n (take (suc (passing (cell_tests s k (suc n)) bs)) bs ++ rest) ∙ passing-stays (cell_tests s k (suc n)) bs rest h

pub value-clears : (v : ValueForm) (bs : List ℕ) → CanHaveForm v → (rest : List ℕ) × (all in_line rest ≡ true) × (has_form v (take (good_value v bs) bs ++ rest) ≡ true)
unfolding good_value has_form
value-clears no_bytes bs c = ([], refl, refl)
value-clears count_digits bs c = count-clears bs
value-clears declaration bs c = (47 ∷ 48 ∷ [], refl, ap (λ (l : List ℕ). is_some (symbol_of function (l ++ (47 ∷ 48 ∷ [])))) (take-length bs) ∙ slash-declares bs)
value-clears any_words bs c = ([], refl, refl)
value-clears size_digit bs c =
    let r = passing-clears (is_size_byte ∷ []) bs (49 ∷ []) refl refl in
    (r.0, r.1, size-matches (take (passing (is_size_byte ∷ []) bs) bs ++ r.0) ∙ r.2)
value-clears (cell_values s k zero) bs c = let z : 1 ≤ 0 = c.1 in absurd (omega arith)
value-clears (cell_values s k (suc n)) bs c =
    let w = cells-passed s k n c.0 in
    let r = passing-clears (cell_tests s k (suc n)) bs w.0 w.1 w.2 in
    (r.0, r.1, cells-match s k n (take (passing (cell_tests s k (suc n)) bs) bs ++ r.0) ∙ r.2)
