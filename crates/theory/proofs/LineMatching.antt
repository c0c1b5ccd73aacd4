-- Laws of bytes that pass each its own test: how many pass tells which beginnings can go on.
use Prim.Native.Nat.{ℕ, zero, suc, ◌-◌, ◌≤◌, ◌<◌}
use mathlib.Core.Path.{◌≡◌, refl, sym, ap, ◌∙◌}
use mathlib.Core.Bool.{Bool, true, false, cond, ◌&&◌}
use mathlib.Core.Option.{Option, none, some}
use mathlib.Core.List.{List, [], ◌∷◌, ◌++◌}
use native.Mathlib.Omega.{arith}
use lib.Dec.{eqb, ltb, leb, eqb-zero-suc, eqb-suc-zero, eqb-suc-suc}
use lib.ListN.{length, take}
use Rattle.theory.specs.Lists.{all, prefix}
use Rattle.theory.specs.Bytes.{space}
use Rattle.theory.specs.Syntax.{Kind, function, predicate}
use Rattle.theory.specs.CaseText.{least_byte, spaced, unjoined, is_value_byte, size_of}
use Rattle.theory.specs.LineForms.{is_some, are_cells, passing, is_space, is_size_byte, spaced_tests, cell_tests}
use Rattle.theory.proofs.Tests.{and_right, and-false, and-join, ltb-of-<}
use Rattle.theory.proofs.Lines.{in_line}

-- every byte passes its test, and there is one for each
abbrev pub matches : List (ℕ → Bool) → List ℕ → Bool
matches [] [] = true
matches [] (b ∷ bs) = false
matches (t ∷ ts) [] = false
matches (t ∷ ts) (b ∷ bs) = t b && matches ts bs

pub passing-within : (ts : List (ℕ → Bool)) (bs : List ℕ) → passing ts bs ≤ length bs
passing-within [] bs = omega arith
passing-within (t ∷ ts) [] = omega arith
passing-within (t ∷ ts) (b ∷ bs) = go (t b) (passing-within ts bs)
  where
    go : (q : Bool) → passing ts bs ≤ length bs → cond q (suc (passing ts bs)) 0 ≤ suc (length bs)
    go true h = omega arith
    go false h = omega arith

-- with the first byte that does not pass, nothing after it matches
pub passing-stays : (ts : List (ℕ → Bool)) (bs rest : List ℕ) → passing ts bs < length bs → matches ts (take (suc (passing ts bs)) bs ++ rest) ≡ false
passing-stays [] [] rest h = absurd (omega arith)
passing-stays [] (b ∷ bs) rest h = refl
passing-stays (t ∷ ts) [] rest h = absurd (omega arith)
passing-stays (t ∷ ts) (b ∷ bs) rest h = go (t b) refl h (λ k. passing-stays ts bs rest k)
  where
    go : (q : Bool) → t b ≡ q → cond q (suc (passing ts bs)) 0 < suc (length bs) → (passing ts bs < length bs → matches ts (take (suc (passing ts bs)) bs ++ rest) ≡ false)
        → (t b && matches ts (take (cond q (suc (passing ts bs)) 0) bs ++ rest)) ≡ false
    go true e k ih = ap (λ (a : Bool). t b && a) (ih (omega arith)) ∙ and-false (t b)
    go false e k ih = ap (λ (a : Bool). a && matches ts rest) e

-- with those before it, something after them does, if the tests can be passed at all
pub passing-clears : (ts : List (ℕ → Bool)) (bs ws : List ℕ) → matches ts ws ≡ true → all in_line ws ≡ true
    → (rest : List ℕ) × (all in_line rest ≡ true) × (matches ts (take (passing ts bs) bs ++ rest) ≡ true)
passing-clears [] bs ws m h = ([], refl, refl)
passing-clears (t ∷ ts) [] ws m h = (ws, h, m)
passing-clears (t ∷ ts) (b ∷ bs) [] m h = let z : ◌≡◌ {A = ℕ} 0 1 = cc in absurd (omega arith)
passing-clears (t ∷ ts) (b ∷ bs) (w ∷ ws) m h =
    go (t b) refl (passing-clears ts bs ws (and_right (t w) (matches ts ws) m) (and_right (in_line w) (all in_line ws) h))
  where
    go : (q : Bool) → t b ≡ q → (rest : List ℕ) × (all in_line rest ≡ true) × (matches ts (take (passing ts bs) bs ++ rest) ≡ true)
        → (rest : List ℕ) × (all in_line rest ≡ true) × (matches (t ∷ ts) (take (cond q (suc (passing ts bs)) 0) (b ∷ bs) ++ rest) ≡ true)
    go true e r = (r.0, r.1, and-join (t b) (matches ts (take (passing ts bs) bs ++ r.0)) e r.2)
    go false e r = (w ∷ ws, h, m)

-- a size is a byte that passes
pub size-matches : (v : List ℕ) → is_some (size_of v) ≡ matches (is_size_byte ∷ []) v
size-matches [] = refl
size-matches (b ∷ []) = go (leb 49 b && ltb b 57)
  where
    go : (q : Bool) → is_some (cond q (some (b - 48)) none) ≡ (q && true)
    go true = refl
    go false = refl
size-matches (b ∷ c ∷ bs) = sym (and-false (is_size_byte b))

module _ (s : ℕ) (k : Kind) where
  -- one value more in front
  prefix-cells : (n b : ℕ) (o : Option (List ℕ)) → are_cells s k (suc n) (prefix b o) ≡ (is_value_byte s k b && are_cells s k n o)
  prefix-cells n b none = sym (and-false (is_value_byte s k b))
  prefix-cells n b (some r) = ap (λ (q : Bool). q && (is_value_byte s k b && all (is_value_byte s k) r)) (eqb-suc-suc (length r) n) ∙ go (eqb (length r) n) (is_value_byte s k b) (all (is_value_byte s k) r)
    where
      go : (p q r : Bool) → (p && (q && r)) ≡ (q && (p && r))
      go true q r = refl
      go false q r = sym (and-false q)

  none_left : (b : ℕ) (o : Option (List ℕ)) → are_cells s k 0 (prefix b o) ≡ false
  none_left b none = refl
  none_left b (some r) = ap (λ (q : Bool). q && (is_value_byte s k b && all (is_value_byte s k) r)) (eqb-suc-zero (length r))

  -- values that each follow a space are bytes that pass
  spaced-matches : (n : ℕ) (bs : List ℕ) → are_cells s k n (spaced bs) ≡ matches (spaced_tests s k n) bs
  spaced-matches zero [] = refl
  spaced-matches zero (c ∷ []) = refl
  spaced-matches zero (c ∷ b ∷ bs) = go (eqb c space)
    where
      go : (q : Bool) → are_cells s k 0 (cond q (prefix b (spaced bs)) none) ≡ false
      go true = none_left b (spaced bs)
      go false = refl
  spaced-matches (suc n) [] = ap (λ (q : Bool). q && true) (eqb-zero-suc n)
  spaced-matches (suc n) (c ∷ []) = sym (and-false (is_space c))
  spaced-matches (suc n) (c ∷ b ∷ bs) = go (eqb c space) (spaced-matches n bs)
    where
      go : (q : Bool) → are_cells s k n (spaced bs) ≡ matches (spaced_tests s k n) bs
          → are_cells s k (suc n) (cond q (prefix b (spaced bs)) none) ≡ (q && (is_value_byte s k b && matches (spaced_tests s k n) bs))
      go true ih = prefix-cells n b (spaced bs) ∙ ap (λ (a : Bool). is_value_byte s k b && a) ih
      go false ih = refl

  -- so are values with one space between, where there is one at least
  pub cells-match : (n : ℕ) (v : List ℕ) → are_cells s k (suc n) (unjoined v) ≡ matches (cell_tests s k (suc n)) v
  cells-match n [] = refl
  cells-match n (b ∷ bs) = prefix-cells n b (spaced bs) ∙ ap (λ (a : Bool). is_value_byte s k b && a) (spaced-matches n bs)

-- the least value of a kind is a value at every size from 1 on
least-passes : (s : ℕ) (k : Kind) → 1 ≤ s → is_value_byte s k (least_byte k) ≡ true
least-passes s function h = and-join true (ltb 0 s) refl (ltb-of-< 0 s (omega arith))
least-passes s predicate h = refl

least-in_line : (k : Kind) → in_line (least_byte k) ≡ true
least-in_line function = refl
least-in_line predicate = refl

-- the least values, each after a space
abbrev least_spaced : Kind → ℕ → List ℕ
least_spaced k zero = []
least_spaced k (suc n) = space ∷ least_byte k ∷ least_spaced k n

spaced-passed : (s : ℕ) (k : Kind) (n : ℕ) → 1 ≤ s → matches (spaced_tests s k n) (least_spaced k n) ≡ true
spaced-passed s k zero h = refl
spaced-passed s k (suc n) h = and-join (is_value_byte s k (least_byte k)) (matches (spaced_tests s k n) (least_spaced k n)) (least-passes s k h) (spaced-passed s k n h)

spaced-in_line : (k : Kind) (n : ℕ) → all in_line (least_spaced k n) ≡ true
spaced-in_line k zero = refl
spaced-in_line k (suc n) = and-join (in_line (least_byte k)) (all in_line (least_spaced k n)) (least-in_line k) (spaced-in_line k n)

-- a table's tests can be passed
pub cells-passed : (s : ℕ) (k : Kind) (n : ℕ) → 1 ≤ s → (ws : List ℕ) × (matches (cell_tests s k (suc n)) ws ≡ true) × (all in_line ws ≡ true)
cells-passed s k n h = (
  least_byte k ∷ least_spaced k n,
  and-join (is_value_byte s k (least_byte k)) (matches (spaced_tests s k n) (least_spaced k n)) (least-passes s k h) (spaced-passed s k n h),
  and-join (in_line (least_byte k)) (all in_line (least_spaced k n)) (least-in_line k) (spaced-in_line k n),
)
