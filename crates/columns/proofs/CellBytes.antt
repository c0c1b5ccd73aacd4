-- The good bytes of a symbol's values, one value after the other with the space behind it.
use Prim.Native.Nat.{ℕ, suc, ◌+◌, ◌*◌, ◌-◌, ◌≤◌, ◌<◌}
use mathlib.Core.Path.{◌≡◌, refl, sym, ap, ◌∙◌}
use mathlib.Core.Bool.{Bool, true, false, cond, ◌&&◌}
use mathlib.Core.List.{List, [], ◌∷◌}
use native.Mathlib.Omega.{arith}
use lib.Dec.{eqb, leb, ltb}
use lib.ListN.{length, get_or, drop, drop_of_length-le}
use lib.Seq.{drop-cons}
use borrow.Author.Tests.{eq-eqb, ne_eqb}
use Rattle.theory.specs.Bytes.{space}
use Rattle.theory.specs.Syntax.{Kind}
use Rattle.theory.specs.Cells.{value_count}
use Rattle.theory.specs.CaseText.{least_byte, equals_sign, is_value_byte}
use Rattle.theory.specs.LineForms.{cell_values, passing, is_space, spaced_tests, cell_tests, good_value, good_line}

module _ (s : ℕ) (k : Kind) (n : ℕ) (bytes : List ℕ) where
  -- i values of n are passed, each with the space behind it: what is left gives what all give
  pub record CellsGone (i : ℕ) : Type 0 where
    pub before : i ≤ n
    pub within : 2 * i ≤ length bytes
    pub same : good_value (cell_values s k n) bytes ≡ 2 * i + passing (cell_tests s k (n - i)) (drop (2 * i) bytes)

  pub none-gone : CellsGone 0
  unfolding good_value
  none-gone =
      let e : n ≡ n - 0 = omega arith in
      let z : passing (cell_tests s k (n - 0)) bytes ≡ 0 + passing (cell_tests s k (n - 0)) bytes = omega arith in
      record { before = omega arith; within = omega arith; same = ap (λ (m : ℕ). passing (cell_tests s k m) bytes) e ∙ z }

  module _ (i : ℕ) (g : CellsGone i) where
    pub all-gone : n ≤ i → 2 * i ≡ good_value (cell_values s k n) bytes
    all-gone h =
        let e : n - i ≡ 0 = omega arith in
        let z : 2 * i ≡ 2 * i + 0 = omega arith in
        sym (g.same ∙ ap (λ (m : ℕ). 2 * i + passing (cell_tests s k m) (drop (2 * i) bytes)) e ∙ sym z)

    module _ (more : i < n) where
      -- the bytes from this value on, of which m are good
      here : (m r : ℕ) → passing (cell_tests s k (suc (n - (i + 1)))) (drop (2 * i) bytes) ≡ m → r ≡ 2 * i + m → r ≡ good_value (cell_values s k n) bytes
      here m r e z =
          let w : n - i ≡ suc (n - (i + 1)) = omega arith in
          sym (g.same ∙ ap (λ (m : ℕ). 2 * i + passing (cell_tests s k m) (drop (2 * i) bytes)) w ∙ ap (λ (k : ℕ). 2 * i + k) e ∙ sym z)

      pub value-missing : length bytes ≤ 2 * i → 2 * i ≡ good_value (cell_values s k n) bytes
      value-missing h = here 0 (2 * i) (ap (passing (cell_tests s k (suc (n - (i + 1))))) (drop_of_length-le bytes {i = 2 * i} h)) (omega arith)

      module _ (room : 2 * i < length bytes) where
        value : (q : Bool) → q ≡ is_value_byte s k (get_or bytes (2 * i) 0)
            → passing (cell_tests s k (suc (n - (i + 1)))) (drop (2 * i) bytes) ≡ cond q (suc (passing (spaced_tests s k (n - (i + 1))) (drop (suc (2 * i)) bytes))) 0
        value q e =
            ap (passing (cell_tests s k (suc (n - (i + 1))))) (drop-cons bytes (2 * i) 0 room)
            ∙ ap (λ (q : Bool). cond q (suc (passing (spaced_tests s k (n - (i + 1))) (drop (suc (2 * i)) bytes))) 0) (sym e)

        pub value-bad : false ≡ is_value_byte s k (get_or bytes (2 * i) 0) → 2 * i ≡ good_value (cell_values s k n) bytes
        value-bad e = here 0 (2 * i) (value false e) (omega arith)

        module _ (good : true ≡ is_value_byte s k (get_or bytes (2 * i) 0)) where
          pub last-value : i + 1 ≡ n → 2 * i + 1 ≡ good_value (cell_values s k n) bytes
          last-value e =
              let z : n - (i + 1) ≡ 0 = omega arith in
              here 1 (2 * i + 1) (value true good ∙ ap (λ (m : ℕ). suc (passing (spaced_tests s k m) (drop (suc (2 * i)) bytes))) z) refl

          module _ (another : i + 1 ≡ n → ⊥) where
            spaced : passing (cell_tests s k (suc (n - (i + 1)))) (drop (2 * i) bytes) ≡ suc (passing (is_space ∷ cell_tests s k (suc (n - (i + 2)))) (drop (suc (2 * i)) bytes))
            spaced = let z : n - (i + 1) ≡ suc (n - (i + 2)) = omega arith in value true good ∙ ap (λ (m : ℕ). suc (passing (spaced_tests s k m) (drop (suc (2 * i)) bytes))) z

            pub space-missing : length bytes ≡ 2 * i + 1 → 2 * i + 1 ≡ good_value (cell_values s k n) bytes
            space-missing e =
                here 1 (2 * i + 1)
                (spaced ∙ ap (λ (bs : List ℕ). suc (passing (is_space ∷ cell_tests s k (suc (n - (i + 2)))) bs)) (drop_of_length-le bytes {i = suc (2 * i)} (omega arith))) refl

            module _ (longer : length bytes ≡ 2 * i + 1 → ⊥) where
              behind : (q : Bool) → eqb (get_or bytes (2 * i + 1) 0) space ≡ q
                  → passing (cell_tests s k (suc (n - (i + 1)))) (drop (2 * i) bytes) ≡ suc (cond q (suc (passing (cell_tests s k (suc (n - (i + 2)))) (drop (suc (suc (2 * i))) bytes))) 0)
              behind q e =
                  let p : suc (2 * i) ≡ 2 * i + 1 = omega arith in
                  spaced
                  ∙ ap (λ (bs : List ℕ). suc (passing (is_space ∷ cell_tests s k (suc (n - (i + 2)))) bs)) (drop-cons bytes (suc (2 * i)) 0 (omega arith))
                  ∙ ap (λ (q : Bool). suc (cond q (suc (passing (cell_tests s k (suc (n - (i + 2)))) (drop (suc (suc (2 * i))) bytes))) 0)) (ap (λ (j : ℕ). eqb (get_or bytes j 0) space) p ∙ e)

              pub no-space : (get_or bytes (2 * i + 1) 0 ≡ 32 → ⊥) → 2 * i + 1 ≡ good_value (cell_values s k n) bytes
              no-space e = here 1 (2 * i + 1) (behind false (ne_eqb _ _ e)) refl

              pub value_gone : get_or bytes (2 * i + 1) 0 ≡ 32 → CellsGone (i + 1)
              value_gone e =
                  let rest : ℕ → ℕ → ℕ = λ m j. passing (cell_tests s k m) (drop j bytes) in
                  let m : suc (n - (i + 2)) ≡ n - (i + 1) = omega arith in
                  let j : suc (suc (2 * i)) ≡ 2 * (i + 1) = omega arith in
                  let q : rest (suc (n - (i + 2))) (suc (suc (2 * i))) ≡ rest (n - (i + 1)) (2 * (i + 1)) = ap (λ (m : ℕ). rest m (suc (suc (2 * i)))) m ∙ ap (rest (n - (i + 1))) j in
                  let w : good_value (cell_values s k n) bytes ≡ 2 * i + suc (suc (rest (suc (n - (i + 2))) (suc (suc (2 * i))))) = sym (here _ _ (behind true (eq-eqb _ _ e)) refl) in
                  record { before = omega arith; within = omega arith; same = w ∙ omega (arith, q) }

-- the byte is a value, as the code tests it
pub value-test : (s : ℕ) (k : Kind) (b least most : ℕ) (r : Bool) → r ≡ (leb least b && ltb (b - least) most) → least ≡ least_byte k → most ≡ value_count s k → r ≡ is_value_byte s k b
value-test s k b least most r e l m = e ∙ ap (λ (n : ℕ). leb n b && ltb (b - n) most) l ∙ ap (λ (n : ℕ). leb (least_byte k) b && ltb (b - least_byte k) n) m

-- `=` in front of the values
module _ (s : ℕ) (k : Kind) (n : ℕ) where
  pub no-equals : (bytes : List ℕ) → length bytes ≡ 0 → 0 ≡ good_line (equals_sign ∷ []) (cell_values s k n) bytes
  unfolding good_line
  no-equals [] e = refl
  no-equals (b ∷ bs) e = absurd (omega arith)

  module _ (bytes : List ℕ) (filled : length bytes ≡ 0 → ⊥) where
    first : (q : Bool) → eqb equals_sign (get_or bytes 0 0) ≡ q → good_line (equals_sign ∷ []) (cell_values s k n) bytes ≡ cond q (suc (good_value (cell_values s k n) (drop 1 bytes))) 0
    unfolding good_line
    first q e = go bytes filled e
      where
        go : (bytes : List ℕ) → (length bytes ≡ 0 → ⊥) → eqb equals_sign (get_or bytes 0 0) ≡ q
            → good_line (equals_sign ∷ []) (cell_values s k n) bytes ≡ cond q (suc (good_value (cell_values s k n) (drop 1 bytes))) 0
        go [] h e = absurd (h refl)
        go (b ∷ bs) h e = ap (λ (q : Bool). cond q (suc (good_value (cell_values s k n) bs)) 0) e

    pub other_byte : (get_or bytes 0 0 ≡ 61 → ⊥) → 0 ≡ good_line (equals_sign ∷ []) (cell_values s k n) bytes
    other_byte ne = sym (first false (ne_eqb equals_sign (get_or bytes 0 0) (λ e. ne (sym e))))

    pub equals-met : (r : ℕ) → get_or bytes 0 0 ≡ 61 → r ≡ good_value (cell_values s k n) (drop 1 bytes) → 1 + r ≡ good_line (equals_sign ∷ []) (cell_values s k n) bytes
    equals-met r e h = let z : 1 + r ≡ suc r = omega arith in z ∙ ap suc h ∙ sym (first true (eq-eqb equals_sign (get_or bytes 0 0) (sym e)))
