-- Marks: the values that they say, before any variable is set, after one more, and at the end.
use Prim.Native.Nat.{ℕ, zero, suc, ◌+◌, ◌≤◌, ◌<◌}
use mathlib.Core.Path.{◌≡◌, refl, sym, ap, ap₂, ◌∙◌}
use mathlib.Core.Bool.{Bool, true, false, cond, ◌&&◌}
use mathlib.Core.Option.{Option, none, some}
use mathlib.Core.List.{List, [], ◌∷◌}
use native.Mathlib.Numerals.{add-one}
use native.Mathlib.Omega.{arith}
use lib.Dec.{eqb, ltb}
use lib.ListN.{length, get_or, set, drop, replicate}
use lib.Seq.{drop-cons}
use Rattle.theory.specs.Lists.{all}
use Rattle.theory.specs.Walk.{Partial, is_unset, byte_of, bytes_of}
use Rattle.theory.specs.Program.{◌>>?◌}
use Rattle.theory.proofs.Tests.{ltb-true, ltb-of-<, ltb-of-≤, and_left, and_right}
use Rattle.theory.proofs.Lists.{map_at}
use Rattle.solver.specs.Replies.{states}
use Rattle.solver.specs.OnePass.{all_set, listing, complete, heard, hear_literal, reply_at}
use Rattle.replies.specs.Hearing.{value_in, values_in, reply_in, literal_for}
use Rattle.replies.specs.declared.Reply.TheVariants.{States, Bad}

-- no variable is set
pub none-set : (v : ℕ) → values_in (replicate v 2) ≡ replicate v none
none-set zero = refl
none-set (suc v) = ap (λ (π : Partial). none ∷ π) (none-set v)

-- one more is set
values-set : (marks : List ℕ) (i : ℕ) (b : Bool) → values_in (set marks i (cond b 1 0)) ≡ set (values_in marks) i (some b)
values-set [] i b = refl
values-set (m ∷ marks) zero true = refl
values-set (m ∷ marks) zero false = refl
values-set (m ∷ marks) (suc i) b = ap (λ (π : Partial). value_in m ∷ π) (values-set marks i b)

module _ (marks : List ℕ) (i : ℕ) (b : Bool) (h : i < length marks) where
  at-place : get_or (values_in marks) i (some false) ≡ value_in (get_or marks i 0)
  at-place = map_at value_in marks i 0 (some false) h

  -- a variable that is set is not set again
  pub set_before : get_or marks i 0 < 2 → none ≡ hear_literal (values_in marks) (literal_for b (suc i))
  unfolding ◌>>?◌
  set_before lt = sym (ap (λ (o : Option Bool). cond (is_unset o) (some (set (values_in marks) i (some b))) none >>? λ τ. some (heard listing τ)) told)
    where
      told : get_or (values_in marks) i (some false) ≡ some (eqb (get_or marks i 0) 1)
      told = at-place ∙ ap (λ (q : Bool). cond q (some (eqb (get_or marks i 0) 1)) none) (ltb-of-< (get_or marks i 0) 2 lt)

  -- any other is
  pub set-now : 2 ≤ get_or marks i 0 → some (heard listing (values_in (set marks i (cond b 1 0)))) ≡ hear_literal (values_in marks) (literal_for b (suc i))
  unfolding ◌>>?◌
  set-now le =
      ap (λ (π : Partial). some (heard listing π)) (values-set marks i b)
      ∙ sym (ap (λ (o : Option Bool). cond (is_unset o) (some (set (values_in marks) i (some b))) none >>? λ τ. some (heard listing τ)) told)
    where
      told : get_or (values_in marks) i (some false) ≡ none
      told = at-place ∙ ap (λ (q : Bool). cond q (some (eqb (get_or marks i 0) 1)) none) (ltb-of-≤ (get_or marks i 0) 2 le)

-- all are set exactly if each mark is 0 or 1
all_set-is : (marks : List ℕ) → all_set (values_in marks) ≡ all (λ b. ltb b 2) marks
all_set-is [] = refl
all_set-is (m ∷ marks) = go (ltb m 2) (all_set-is marks)
  where
    go : (q : Bool) → all_set (values_in marks) ≡ all (λ b. ltb b 2) marks → all_set (cond q (some (eqb m 1)) none ∷ values_in marks) ≡ (q && all (λ b. ltb b 2) marks)
    go true e = e
    go false e = refl

-- and then the marks are the setting's bytes
set-bytes : (marks : List ℕ) → all (λ b. ltb b 2) marks ≡ true → bytes_of (values_in marks) ≡ marks
set-bytes [] h = refl
set-bytes (m ∷ marks) h =
    ap₂ (λ (b : ℕ) (bs : List ℕ). b ∷ bs) (byte m (and_left (ltb m 2) (all (λ b. ltb b 2) marks) h)) (set-bytes marks (and_right (ltb m 2) (all (λ b. ltb b 2) marks) h))
  where
    byte : (m : ℕ) → ltb m 2 ≡ true → byte_of (value_in m) ≡ m
    byte zero e = refl
    byte (suc zero) e = refl
    byte (suc (suc m)) e = let lt : suc (suc m) < 2 = ltb-true (suc (suc m)) 2 e in absurd (omega arith)

module _ (marks : List ℕ) where
  pub all-stated : all (λ b. ltb b 2) marks ≡ true → reply_in States marks ≡ reply_at complete (values_in marks)
  all-stated h = ap (λ (σ : List ℕ). some (states σ)) (sym (set-bytes marks h)) ∙ sym (ap (λ (q : Bool). cond q (some (states (bytes_of (values_in marks)))) none) (all_set-is marks ∙ h))

  pub not-all : all (λ b. ltb b 2) marks ≡ false → reply_in Bad marks ≡ reply_at complete (values_in marks)
  not-all h = sym (ap (λ (q : Bool). cond q (some (states (bytes_of (values_in marks)))) none) (all_set-is marks ∙ h))

-- The marks from a place on, one by one: a mark over 1 ends it,
pub unset-there : (marks : List ℕ) (i : ℕ) → i < length marks → 1 < get_or marks i 0 → all (λ b. ltb b 2) (drop i marks) ≡ false
unset-there marks i h l = ap (all (λ b. ltb b 2)) (drop-cons marks i 0 h) ∙ ap (λ (q : Bool). q && all (λ b. ltb b 2) (drop (suc i) marks)) (ltb-of-≤ (get_or marks i 0) 2 l)

-- any other goes on
pub set_there : (marks : List ℕ) (i : ℕ) → i < length marks → get_or marks i 0 ≤ 1 → all (λ b. ltb b 2) (drop i marks) ≡ all (λ b. ltb b 2) (drop (i + 1) marks)
set_there marks i h l =
    ap (all (λ b. ltb b 2)) (drop-cons marks i 0 h)
    ∙ ap (λ (q : Bool). q && all (λ b. ltb b 2) (drop (suc i) marks)) (ltb-of-< (get_or marks i 0) 2 (omega arith))
    ∙ ap (λ (k : ℕ). all (λ b. ltb b 2) (drop k marks)) (sym (add-one i))
