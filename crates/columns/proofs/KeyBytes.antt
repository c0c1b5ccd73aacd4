-- The bytes of a line that are those of its key, one after the other; and what follows the key.
use Prim.Native.Nat.{ℕ, suc, ◌+◌, ◌-◌, ◌≤◌, ◌<◌}
use mathlib.Core.Path.{◌≡◌, refl, sym, ap, ◌∙◌, subst}
use mathlib.Core.Bool.{Bool, true, false, cond}
use mathlib.Core.List.{List, [], ◌∷◌, ◌++◌, append-nil}
use native.Mathlib.Omega.{arith}
use lib.Dec.{eqb, ltb}
use lib.ListN.{length, drop, length-drop}
use lib.Seq.{take_all}
use Rattle.std.specs.List.{prefix_len, zip}
use Rattle.theory.specs.LineForms.{ValueForm, no_bytes, declaration, any_words, good_value, good_line}
use Rattle.theory.proofs.Tests.{eqb-sym, ltb-true, ltb-false}
use Rattle.text.specs.Lines.{part}
use Rattle.columns.specs.Good.{KeyMet}

-- what `&l[n..]` lends
pub lent-rest : (l : List ℕ) (n : ℕ) → part l n (length l) ≡ drop n l
lent-rest l n = take_all (length l - n) (drop n l) (omega (arith, length-drop n l))

-- a byte of both
abbrev pub alike : ℕ × ℕ → Bool
alike p = eqb p.0 p.1

-- how many bytes of both are the same from the first on
abbrev pub bytes_met : List ℕ → List ℕ → ℕ
bytes_met line key = prefix_len alike (zip line key)

pub key-met : (line key : List ℕ) → KeyMet line key (bytes_met line key)
unfolding good_line
key-met [] [] = record { within = omega arith; short = λ k. absurd (omega arith); whole = λ _ more v. omega arith }
key-met [] (k ∷ ks) = record { within = omega arith; short = λ _ more v. refl; whole = λ l. absurd (omega arith) }
key-met (b ∷ bs) [] = record { within = omega arith; short = λ k. absurd (omega arith); whole = λ _ more v. omega arith }
key-met (b ∷ bs) (k ∷ ks) = go (eqb b k) (eqb-sym k b) (key-met bs ks)
  where
    go : (q : Bool) → eqb k b ≡ q → KeyMet bs ks (bytes_met bs ks) → KeyMet (b ∷ bs) (k ∷ ks) (cond q (1 + bytes_met bs ks) 0)
    go false e m =
        record {
          within = omega arith;
          short = λ _ more v. ap (λ (q : Bool). cond q (suc (good_line (ks ++ more) v bs)) 0) e;
          whole = λ l. absurd (omega arith);
        }
    go true e m =
        let r : ℕ = bytes_met bs ks in
        let n : suc r ≡ 1 + r = omega arith in
        subst (λ (n : ℕ). KeyMet (b ∷ bs) (k ∷ ks) n) n
        record {
          within = omega (arith, m.within);
          short = λ l more v. ap (λ (q : Bool). cond q (suc (good_line (ks ++ more) v bs)) 0) e ∙ ap suc (m.short (omega (arith, l)) more v);
          whole = λ l more v.
              let h = m.whole (omega (arith, l)) more v in
              let z : suc (good_line (ks ++ more) v bs) ≡ suc r + good_line more v (drop r bs) = omega (arith, h) in
              ap (λ (q : Bool). cond q (suc (good_line (ks ++ more) v bs)) 0) e ∙ z;
        }

module _ (line key : List ℕ) where
  -- the good bytes of the line, by how many are the key's
  module _ (r : ℕ) (m : KeyMet line key r) where
    pub key-short : r < length key → (v : ValueForm) → r ≡ good_line key v line
    key-short h v = sym (ap (λ (ks : List ℕ). good_line ks v line) (sym (append-nil key)) ∙ m.short h [] v)

    pub key-whole : length key ≤ r → (v : ValueForm) (n : ℕ) → n ≡ good_value v (drop r line) → r + n ≡ good_line key v line
    unfolding good_line
    key-whole h v n e = sym (ap (λ (ks : List ℕ). good_line ks v line) (sym (append-nil key)) ∙ m.whole h [] v ∙ ap (λ (k : ℕ). r + k) (sym e))

    -- a line that is its key alone
    pub key-alone : r ≡ good_line key no_bytes line
    unfolding good_value
    key-alone = go (ltb r (length key)) refl
      where
        go : (q : Bool) → ltb r (length key) ≡ q → r ≡ good_line key no_bytes line
        go true e = key-short (ltb-true r (length key) e) no_bytes
        go false e = let z : r ≡ r + 0 = omega arith in z ∙ key-whole (ltb-false r (length key) e) no_bytes 0 refl

    -- any bytes behind the key
    pub any-bytes : length key ≤ r → (length line ≡ good_line key declaration line) × (length line ≡ good_line key any_words line)
    unfolding good_value
    any-bytes h =
        let n : length line ≡ r + length (drop r line) = omega (arith, length-drop r line, m.within) in
        (n ∙ key-whole h declaration (length (drop r line)) refl, n ∙ key-whole h any_words (length (drop r line)) refl)
