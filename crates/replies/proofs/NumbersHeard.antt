-- A word among the numbers: a number is read with its sign, and one above the variables is none.
use Prim.Native.Nat.{ℕ}
use mathlib.Core.Path.{◌≡◌, refl, sym, ap, ◌∙◌}
use mathlib.Core.Bool.{Bool, true, false, cond}
use mathlib.Core.Option.{Option, none, some}
use mathlib.Core.List.{List, [], ◌∷◌}
use native.Mathlib.Omega.{arith}
use lib.Dec.{eqb, leb}
use lib.ListN.{length, drop, length-map}
use Rattle.theory.specs.Lists.{same}
use Rattle.theory.specs.Propositional.{PropLiteral}
use Rattle.theory.specs.Dimacs.{minus}
use Rattle.theory.specs.Walk.{Partial}
use Rattle.theory.specs.Program.{◌>>?◌}
use Rattle.theory.proofs.Tests.{eqb-sym, leb-false}
use Rattle.text.specs.Lines.{StartsWith}
use Rattle.solver.specs.SolverLines.{read_positive, with_sign, read_literal, end_word}
use Rattle.solver.specs.OnePass.{listing, complete, Heard, heard, hear_literal, hear_number}
use Rattle.solver.proofs.Options.{none≢some}
use Rattle.solver.proofs.Setting.{set-above}
use Rattle.replies.specs.Hearing.{value_in, values_in, literal_for, read_within}

-- a literal above the variables sets none of them, so its number need not be read
bounded : (π : Partial) (v : ℕ) → length π ≡ v → (b : Bool) (word : List ℕ) → (read_within v word >>? λ k. hear_literal π (literal_for b k)) ≡ (with_sign b (read_positive word) >>? hear_literal π)
unfolding read_within ◌>>?◌
bounded π v e b word = go (read_positive word)
  where
    by : (k : ℕ) (q : Bool) → leb k v ≡ q → (cond q (some k) none >>? λ k. hear_literal π (literal_for b k)) ≡ hear_literal π (literal_for b k)
    by k true h = refl
    by k false h = sym (ap (λ (o : Option Partial). o >>? λ τ. some (heard listing τ)) (set-above π (literal_for b k) (omega (arith, leb-false k v h))))

    go : (o : Option ℕ) → ((o >>? λ n. cond (leb n v) (some n) none) >>? λ k. hear_literal π (literal_for b k)) ≡ (with_sign b o >>? hear_literal π)
    go none = refl
    go (some k) = by k (leb k v) refl

-- the sign tells where the digits begin
read-signed : (word : List ℕ) (r : Bool) → StartsWith word (minus ∷ []) r → read_literal word ≡ cond r (with_sign false (read_positive (drop 1 word))) (with_sign true (read_positive word))
unfolding read_literal read_positive
read-signed [] true s = absurd (none≢some [] s.found)
read-signed [] false s = refl
read-signed (b ∷ bs) r s = go (eqb minus b) refl r s.found
  where
    go : (q : Bool) → eqb minus b ≡ q → (r : Bool) → cond q (some bs) none ≡ cond r (some bs) none
        → cond (eqb b minus) (with_sign false (read_positive bs)) (with_sign true (read_positive (b ∷ bs))) ≡ cond r (with_sign false (read_positive bs)) (with_sign true (read_positive (b ∷ bs)))
    go true h true e = ap (λ (q : Bool). cond q (with_sign false (read_positive bs)) (with_sign true (read_positive (b ∷ bs)))) (eqb-sym b minus ∙ h)
    go true h false e = absurd (none≢some bs (sym e))
    go false h true e = absurd (none≢some bs e)
    go false h false e = ap (λ (q : Bool). cond q (with_sign false (read_positive bs)) (with_sign true (read_positive (b ∷ bs)))) (eqb-sym b minus ∙ h)

module _ (marks word : List ℕ) where
  -- the 0
  pub last-number : same word end_word ≡ true → some (heard complete (values_in marks)) ≡ hear_number (values_in marks) word
  unfolding hear_number
  last-number e = sym (ap (λ (q : Bool). cond q (some (heard complete (values_in marks))) (read_literal word >>? hear_literal (values_in marks))) e)

  -- any other number, read after its sign
  module _ (e : same word end_word ≡ false) (o : Option Heard) (n : Option ℕ) where
    signed-number : (b : Bool) (digits : List ℕ) → read_literal word ≡ with_sign b (read_positive digits) → n ≡ read_within (length marks) digits
        → o ≡ (n >>? λ k. hear_literal (values_in marks) (literal_for b k)) → o ≡ hear_number (values_in marks) word
    unfolding hear_number
    signed-number b digits r w h =
        h ∙ ap (λ (m : Option ℕ). m >>? λ k. hear_literal (values_in marks) (literal_for b k)) w
        ∙ bounded (values_in marks) (length marks) (length-map marks value_in) b digits
        ∙ ap (λ (l : Option PropLiteral). l >>? hear_literal (values_in marks)) (sym r)
        ∙ sym (ap (λ (q : Bool). cond q (some (heard complete (values_in marks))) (read_literal word >>? hear_literal (values_in marks))) e)

    pub negative-number : (q : Bool) → StartsWith word (minus ∷ []) q → q ≡ true → n ≡ read_within (length marks) (drop 1 word)
        → o ≡ (n >>? λ k. hear_literal (values_in marks) (literal_for false k)) → o ≡ hear_number (values_in marks) word
    negative-number q s h = signed-number false (drop 1 word) (read-signed word q s ∙ ap (λ (q : Bool). cond q (with_sign false (read_positive (drop 1 word))) (with_sign true (read_positive word))) h)

    pub positive-number : (q : Bool) → StartsWith word (minus ∷ []) q → q ≡ false → n ≡ read_within (length marks) word
        → o ≡ (n >>? λ k. hear_literal (values_in marks) (literal_for true k)) → o ≡ hear_number (values_in marks) word
    positive-number q s h = signed-number true word (read-signed word q s ∙ ap (λ (q : Bool). cond q (with_sign false (read_positive (drop 1 word))) (with_sign true (read_positive word))) h)
