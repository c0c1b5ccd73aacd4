-- Laws of the bytes of cells: one byte, one cell, one table at a time.
use Prim.Native.Nat.{ℕ, zero, suc, ◌+◌, ◌*◌, ◌≤◌, ◌<◌}
use mathlib.Core.Path.{◌≡◌, refl, sym, ap, ◌∙◌}
use mathlib.Core.Bool.{Bool, true, false, cond, ◌&&◌}
use mathlib.Core.List.{List, [], ◌∷◌, ◌++◌}
use native.Mathlib.Nat.{suc-mul, zero-mul, mul-le-mul}
use native.Mathlib.Omega.{arith}
use borrow.Author.Tests.{eq-eqb, ne_eqb}
use lib.Dec.{eqb, ltb}
use Rattle.std.specs.Prelude.{unwrap_or}
use Rattle.std.specs.List.{count_by, position}
use Rattle.std.proofs.lemmas.List.Recursion.{is_count_by, is_position_or_len}
use lib.ListN.{length, set, take, drop, replicate}
use lib.Seq.{drop-drop, take-suc-set}
use Rattle.theory.specs.Lists.{all, select}
use Rattle.theory.specs.Syntax.{Kind, function, predicate, Signature}
use Rattle.theory.specs.Propositional.{width, prop_count}
use Rattle.theory.specs.Valuation.{is_valuation, has_value, first_one, value_of, all_have_values, values_of}
use Rattle.theory.proofs.Tests.{eqb-sym, eqb-true, and_left, and_right}
use Rattle.text.proofs.Ends.{place-or-length}
use Rattle.valuations.specs.Cells.{bits_at, ones}

-- the theory's words are the library's: how many bytes are 1, and the place of the first
pub ones-count_by : (bs : List ℕ) → ones bs ≡ count_by (λ b. eqb b 1) bs
ones-count_by bs = is_count_by ones (λ b. eqb b 1) refl step bs
  where
    either : (b : Bool) (x : ℕ) (xs : List ℕ) → length (cond b (x ∷ xs) xs) ≡ cond b (1 + length xs) (length xs)
    either true x xs = omega arith
    either false x xs = refl

    step : (x : ℕ) (xs : List ℕ) → ones (x ∷ xs) ≡ cond (eqb x 1) (1 + ones xs) (ones xs)
    step x xs = either (eqb 1 x) x (select (eqb 1) xs) ∙ ap (λ (b : Bool). cond b (1 + ones xs) (ones xs)) (eqb-sym 1 x)

pub first_one-position : (bs : List ℕ) → first_one bs ≡ unwrap_or (position (λ b. eqb b 1) bs) (length bs)
first_one-position bs =
    is_position_or_len first_one (λ b. eqb b 1) refl (λ x xs. ap (λ (n : ℕ). cond (eqb x 1) 0 n) (omega arith)) bs ∙ sym (place-or-length (λ b. eqb b 1) bs)

-- a valuation: a byte for each variable, and every byte 0 or 1
module _ (s : ℕ) (g : Signature) (σ : List ℕ) where
  pub uncounted : (length σ ≡ prop_count s g → ⊥) → is_valuation s g σ ≡ false
  unfolding is_valuation
  uncounted h = ap (λ (b : Bool). b && all (λ b. ltb b 2) σ) (ne_eqb (length σ) (prop_count s g) h)

  pub counted : length σ ≡ prop_count s g → is_valuation s g σ ≡ all (λ b. ltb b 2) σ
  unfolding is_valuation
  counted h = ap (λ (b : Bool). b && all (λ b. ltb b 2) σ) (eq-eqb (length σ) (prop_count s g) h)

  pub is-counted : is_valuation s g σ ≡ true → length σ ≡ prop_count s g
  unfolding is_valuation
  is-counted h = eqb-true (length σ) (prop_count s g) (and_left (eqb (length σ) (prop_count s g)) (all (λ b. ltb b 2) σ) h)

  pub is-binary : is_valuation s g σ ≡ true → all (λ b. ltb b 2) σ ≡ true
  unfolding is_valuation
  is-binary h = and_right (eqb (length σ) (prop_count s g)) (all (λ b. ltb b 2) σ) h

-- Cells of one kind k, one after the other.
module _ (s : ℕ) (k : Kind) where
  -- the bytes of the cells behind the first
  behind : (n : ℕ) (σ : List ℕ) → drop (n * width s k) (drop (width s k) σ) ≡ drop (suc n * width s k) σ
  behind n σ =
      let e : width s k + n * width s k ≡ suc n * width s k = omega (arith, suc-mul n (width s k)) in
      drop-drop (n * width s k) (width s k) σ ∙ ap (λ (j : ℕ). drop j σ) e

  -- one cell more behind the others
  pub values-snoc : (n : ℕ) (σ : List ℕ) → values_of s (replicate (suc n) k) σ ≡ values_of s (replicate n k) σ ++ (value_of k (bits_at σ (n * width s k) (width s k)) ∷ [])
  values-snoc zero σ = ap (λ (j : ℕ). value_of k (bits_at σ j (width s k)) ∷ []) (sym (zero-mul (width s k)))
  values-snoc (suc n) σ =
      ap (λ (l : List ℕ). value_of k (take (width s k) σ) ∷ l)
      (values-snoc n (drop (width s k) σ) ∙ ap (λ (l : List ℕ). values_of s (replicate n k) (drop (width s k) σ) ++ (value_of k (take (width s k) l) ∷ [])) (behind n σ))

  -- a loop's turn: the value of the next cell is stored
  pub value-stored : (σ table : List ℕ) (from r x : ℕ) → r < length table → take r table ≡ values_of s (replicate r k) (drop from σ)
      → x ≡ value_of k (bits_at σ (from + r * width s k) (width s k)) → take (suc r) (set table r x) ≡ values_of s (replicate (suc r) k) (drop from σ)
  value-stored σ table from r x h e v =
      take-suc-set table r x h
      ∙ ap (λ (l : List ℕ). l ++ (x ∷ [])) e
      ∙ ap (λ (y : ℕ). values_of s (replicate r k) (drop from σ) ++ (y ∷ [])) (v ∙ ap (λ (l : List ℕ). value_of k (take (width s k) l)) (sym (drop-drop (r * width s k) from σ)))
      ∙ sym (values-snoc r (drop from σ))

  -- a table, and the cells of other kinds behind it
  pub values-behind : (n : ℕ) (ks : List Kind) (σ : List ℕ) → values_of s (replicate n k ++ ks) σ ≡ values_of s (replicate n k) σ ++ values_of s ks (drop (n * width s k) σ)
  values-behind zero ks σ = ap (λ (j : ℕ). values_of s ks (drop j σ)) (sym (zero-mul (width s k)))
  values-behind (suc n) ks σ =
      ap (λ (l : List ℕ). value_of k (take (width s k) σ) ∷ l)
      (values-behind n ks (drop (width s k) σ) ∙ ap (λ (l : List ℕ). values_of s (replicate n k) (drop (width s k) σ) ++ values_of s ks l) (behind n σ))

  pub have-values-behind : (n : ℕ) (ks : List Kind) (σ : List ℕ)
      → all_have_values s (replicate n k ++ ks) σ ≡ (all_have_values s (replicate n k) σ && all_have_values s ks (drop (n * width s k) σ))
  have-values-behind zero ks σ = ap (λ (j : ℕ). all_have_values s ks (drop j σ)) (sym (zero-mul (width s k)))
  have-values-behind (suc n) ks σ =
      ap (λ (b : Bool). has_value k (take (width s k) σ) && b)
      (have-values-behind n ks (drop (width s k) σ) ∙ ap (λ (l : List ℕ). all_have_values s (replicate n k) (drop (width s k) σ) && all_have_values s ks l) (behind n σ))
      ∙ and_assoc (has_value k (take (width s k) σ)) (all_have_values s (replicate n k) (drop (width s k) σ)) (all_have_values s ks (drop (suc n * width s k) σ))
    where
      and_assoc : (a b c : Bool) → (a && (b && c)) ≡ ((a && b) && c)
      and_assoc true b c = refl
      and_assoc false b c = refl

  pub length-values : (n : ℕ) (σ : List ℕ) → length (values_of s (replicate n k) σ) ≡ n
  length-values zero σ = refl
  length-values (suc n) σ = ap suc (length-values n (drop (width s k) σ))

-- a predicate's cells have values
pub predicates-have-values : (s n : ℕ) (σ : List ℕ) → all_have_values s (replicate n predicate) σ ≡ true
predicates-have-values s zero σ = refl
predicates-have-values s (suc n) σ = predicates-have-values s n (drop 1 σ)

-- the values of a predicate's cells are their bytes
pub predicate-values : (s n : ℕ) (σ : List ℕ) → n ≤ length σ → values_of s (replicate n predicate) σ ≡ take n σ
predicate-values s zero σ h = refl
predicate-values s (suc n) [] h = absurd (omega arith)
predicate-values s (suc n) (x ∷ σ) h = ap (λ (l : List ℕ). x ∷ l) (predicate-values s n σ (omega arith))

-- the next function cell has one result, and so have those behind it
pub next-result : (s m from : ℕ) (σ : List ℕ) → all_have_values s (replicate (suc m) function) (drop from σ) ≡ (eqb (ones (bits_at σ from s)) 1 && all_have_values s (replicate m function) (drop (from + s) σ))
next-result s m from σ = ap (λ (l : List ℕ). eqb (ones (bits_at σ from s)) 1 && all_have_values s (replicate m function) l) (drop-drop s from σ)

-- the r-th of n blocks of w bytes is within them
pub block-fits : (r n w : ℕ) → r < n → r * w + w ≤ n * w
block-fits r n w h = omega (arith, mul-le-mul {n₁ = suc r} {m₁ = w} {n₂ = n} {m₂ = w} h (omega arith), suc-mul r w)
