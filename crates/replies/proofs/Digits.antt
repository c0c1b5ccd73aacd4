-- A number's digits from left to right, given up where it is above what is asked for.
use Prim.Native.Nat.{ℕ, suc, ◌+◌, ◌*◌, ◌-◌, ◌≤◌, ◌<◌}
use mathlib.Core.Path.{◌≡◌, refl, sym, ap, ◌∙◌}
use mathlib.Core.Bool.{Bool, true, false, cond}
use mathlib.Core.Option.{Option, none, some}
use mathlib.Core.List.{List, ◌∷◌}
use native.Mathlib.Numerals.{add-one}
use native.Mathlib.Omega.{arith}
use lib.Dec.{leb}
use lib.ListN.{length, get_or, drop, drop_of_length-le}
use lib.Seq.{drop-cons}
use Rattle.theory.specs.Bytes.{is_digit}
use Rattle.theory.specs.Program.{◌>>?◌}
use Rattle.theory.proofs.Tests.{eqb-of-≡, eqb-false, leb-true, leb-false, leb-of-≤, leb-of-<}
use Rattle.solver.specs.SolverLines.{with_digits, read_positive}
use Rattle.solver.proofs.Decimals.{digit-is, with_digits-≤}
use Rattle.replies.specs.Hearing.{read_within}

-- the number, if it is at most v
abbrev pub within : ℕ → Option ℕ → Option ℕ
within v o = o >>? λ n. cond (leb n v) (some n) none

module _ (word : List ℕ) (at v : ℕ) where
  -- the digits before place i make the number n; the rest gives what the whole gives
  pub record Read (n i : ℕ) : Type 0 where
    pub from : at ≤ i
    pub until : i ≤ length word
    pub small : n ≤ v
    pub positive : at < i → 1 ≤ n
    pub rest : read_within v (drop at word) ≡ within v (with_digits n (drop i word))

  -- no word, no number
  pub no_word : length word ≤ at → none ≡ read_within v (drop at word)
  unfolding read_within read_positive ◌>>?◌
  no_word h = sym (ap (λ (w : List ℕ). read_within v w) (drop_of_length-le word {i = at} h))

  module _ (h : at < length word) where
    first : drop at word ≡ get_or word at 0 ∷ drop (suc at) word
    first = drop-cons word at 0 h

    pub leading-zero : get_or word at 0 ≡ 48 → none ≡ read_within v (drop at word)
    unfolding read_within read_positive ◌>>?◌
    leading-zero e =
        sym (ap (λ (w : List ℕ). read_within v w) first
        ∙ ap (λ (q : Bool). within v (cond q none (with_digits 0 (get_or word at 0 ∷ drop (suc at) word)))) (eqb-of-≡ (get_or word at 0) 48 e))

    pub begins : (get_or word at 0 ≡ 48 → ⊥) → Read 0 at
    unfolding read_within read_positive
    begins ne =
        record {
          from = omega arith;
          until = omega arith;
          small = omega arith;
          positive = λ l. absurd (omega arith);
          rest = ap (λ (w : List ℕ). read_within v w) first
              ∙ ap (λ (q : Bool). within v (cond q none (with_digits 0 (get_or word at 0 ∷ drop (suc at) word)))) (eqb-false (get_or word at 0) 48 ne)
              ∙ ap (λ (w : List ℕ). within v (with_digits 0 w)) (sym first);
        }

  module _ (n i : ℕ) (z : Read n i) (h : i < length word) where
    abbrev pub byte : ℕ
    byte = get_or word i 0

    next : with_digits n (drop i word) ≡ cond (is_digit byte) (with_digits (n * 10 + (byte - 48)) (drop (suc i) word)) none
    next = ap (with_digits n) (drop-cons word i 0 h)

    -- a byte that is no digit
    pub no_digit : is_digit byte ≡ false → none ≡ read_within v (drop at word)
    unfolding ◌>>?◌
    no_digit e = sym (z.rest ∙ ap (within v) (next ∙ ap (λ (q : Bool). cond q (with_digits (n * 10 + (byte - 48)) (drop (suc i) word)) none) e))

    module _ (e : is_digit byte ≡ true) (d : ℕ) (is : d ≡ byte - 48) where
      one_more : read_within v (drop at word) ≡ within v (with_digits (n * 10 + d) (drop (suc i) word))
      one_more =
          z.rest ∙ ap (within v) (next ∙ ap (λ (q : Bool). cond q (with_digits (n * 10 + (byte - 48)) (drop (suc i) word)) none) e)
          ∙ ap (λ (d : ℕ). within v (with_digits (n * 10 + d) (drop (suc i) word))) (sym is)

      -- the digit takes the number above v
      pub above : v < n * 10 + d → none ≡ read_within v (drop at word)
      unfolding ◌>>?◌
      above lt = sym (one_more ∙ go (with_digits (n * 10 + d) (drop (suc i) word)) refl)
        where
          go : (o : Option ℕ) → with_digits (n * 10 + d) (drop (suc i) word) ≡ o → within v o ≡ none
          go none k = refl
          go (some m) k = ap (λ (q : Bool). cond q (some m) none) (leb-of-< m v (omega (arith, with_digits-≤ (n * 10 + d) (drop (suc i) word) m k)))

      -- the number goes on
      pub goes_on : (get_or word at 0 ≡ 48 → ⊥) → n * 10 + d ≤ v → Read (n * 10 + d) (i + 1)
      goes_on ne le =
          record {
            from = omega (arith, z.from);
            until = omega arith;
            small = le;
            positive = λ _. go (leb i at) refl;
            rest = one_more ∙ ap (λ (k : ℕ). within v (with_digits (n * 10 + d) (drop k word))) (sym (add-one i));
          }
        where
          go : (q : Bool) → leb i at ≡ q → 1 ≤ n * 10 + d
          go true k =
              let here : i ≡ at = omega (arith, leb-true i at k, z.from) in
              let off : byte ≡ 48 → ⊥ = λ b. ne (ap (λ (j : ℕ). get_or word j 0) (sym here) ∙ b) in
              let r = digit-is byte e in
              omega (arith, r.0, r.1)
          go false k = let p : 1 ≤ n = z.positive (leb-false i at k) in omega arith

      -- it has room
      pub small-digit : d < 10
      small-digit = let r = digit-is byte e in omega (arith, r.0, r.1)

  -- the end of the word
  pub ends : (n i : ℕ) → Read n i → at < length word → length word ≤ i → some n ≡ read_within v (drop at word)
  unfolding ◌>>?◌
  ends n i z h l =
      sym (z.rest ∙ ap (λ (w : List ℕ). within v (with_digits n w)) (drop_of_length-le word {i = i} l) ∙ ap (λ (q : Bool). cond q (some n) none) (leb-of-≤ n v z.small))
