-- The valuations that complete a partial one, and what a status under it says of all of them.
use Prim.Native.Nat.{ℕ, zero, suc, ◌<◌}
use mathlib.Core.Path.{◌≡◌, refl, sym, ap, ◌∙◌}
use mathlib.Core.Logic.{◌⊎◌, inl, inr}
use mathlib.Core.Bool.{Bool, true, false, cond, not, beq, true≢false, false≢true}
use mathlib.Core.Option.{Option, none, some, some-injective}
use mathlib.Core.List.{List, [], ◌∷◌}
use native.Mathlib.Omega.{arith}
use lib.Dec.{eqb, ltb}
use lib.ListN.{length, get_or}
use Rattle.theory.specs.Lists.{any, all, elem, select}
use Rattle.theory.specs.Propositional.{PropLiteral, PropClause}
use Rattle.theory.specs.Valuation.{says, satisfies_literal, satisfies_clause, satisfies}
use Rattle.theory.specs.Walk.{Partial, lookup, is_unset, is_set_to, literal_is_true, literal_is_unset, same_literal, failed, forces, quiet, status}
use Rattle.theory.specs.Claims.Walk.{Member, here, there}
use Rattle.theory.proofs.Tests.{not-true, both_false, eqb-true, ltb-of-<, and_left, and_right, and-join, or_cases, or-false-left, or-false-right, byte-is}
use Rattle.theory.proofs.Lists.{elem-single, any-cong}
use Rattle.theory.proofs.OneHot.{are_bits}
use Rattle.theory.proofs.First.{In}
use Rattle.theory.proofs.Status.{same_literal-parts, OnlyUnset, status-failed, status-forces, status-quiet}

-- the bytes that a variable may have, in the order in which they are tried; b is tried first
abbrev pub options : Bool → Option Bool → List ℕ
options b none = cond b 1 0 ∷ cond (not b) 1 0 ∷ []
options b (some v) = cond v 1 0 ∷ []

-- the bytes that each variable may have in a completion of π
abbrev pub completions : (ℕ → Bool) → Partial → List (List ℕ)
completions first [] = []
completions first (o ∷ π) = options (first 0) o ∷ completions (λ i. first (suc i)) π

-- a completion has the values that are set
completion-get_d : (first : ℕ → Bool) (π : Partial) (v : List ℕ) (i : ℕ) (b : Bool) → In v (completions first π) → get_or π i (some false) ≡ some b
    → eqb (get_or v i 0) 1 ≡ b
completion-get_d first [] [] i b m e = some-injective false b e
completion-get_d first [] (d ∷ v) i b m e = absurd m
completion-get_d first (o ∷ π) [] i b m e = absurd m
completion-get_d first (o ∷ π) (d ∷ v) zero b m e =
    let k : elem d (options (first 0) (some b)) ≡ true = ap (λ (o : Option Bool). elem d (options (first 0) o)) (sym e) ∙ m.0 in
    ap (λ (n : ℕ). eqb n 1) (elem-single d (cond b 1 0) k) ∙ byte-is b
completion-get_d first (o ∷ π) (d ∷ v) (suc i) b m e = completion-get_d (λ i. first (suc i)) π v i b m.1 e

completion-says : (first : ℕ → Bool) (π : Partial) (v : List ℕ) (n : ℕ) (b : Bool) → In v (completions first π) → lookup π n ≡ some b → says v n ≡ b
completion-says first π v zero b m e = some-injective false b e
completion-says first π v (suc i) b m e = completion-get_d first π v i b m e

-- a byte of a completion is 0 or 1
option-byte : (a : Bool) (o : Option Bool) (d : ℕ) → elem d (options a o) ≡ true → d ≡ cond (eqb d 1) 1 0
option-byte a o d h = pick o h
  where
    one : (v : Bool) → d ≡ cond v 1 0 → d ≡ cond (eqb d 1) 1 0
    one true e = e ∙ ap (λ (n : ℕ). cond (eqb n 1) 1 0) (sym e)
    one false e = e ∙ ap (λ (n : ℕ). cond (eqb n 1) 1 0) (sym e)

    two : (eqb d (cond a 1 0) ≡ true) ⊎ (elem d (cond (not a) 1 0 ∷ []) ≡ true) → d ≡ cond (eqb d 1) 1 0
    two (inl k) = one a (eqb-true d (cond a 1 0) k)
    two (inr k) = one (not a) (elem-single d (cond (not a) 1 0) k)

    pick : (o : Option Bool) → elem d (options a o) ≡ true → d ≡ cond (eqb d 1) 1 0
    pick (some v) h = one v (elem-single d (cond v 1 0) h)
    pick none h = two (or_cases (eqb d (cond a 1 0)) (elem d (cond (not a) 1 0 ∷ [])) h)

pub completion-byte : (first : ℕ → Bool) (π : Partial) (v : List ℕ) (i : ℕ) → In v (completions first π) → get_or v i 0 ≡ cond (eqb (get_or v i 0) 1) 1 0
completion-byte first [] [] i m = refl
completion-byte first [] (d ∷ v) i m = absurd m
completion-byte first (o ∷ π) [] i m = absurd m
completion-byte first (o ∷ π) (d ∷ v) zero m = option-byte (first 0) o d m.0
completion-byte first (o ∷ π) (d ∷ v) (suc i) m = completion-byte (λ i. first (suc i)) π v i m.1

-- a completion has a byte, 0 or 1, for each variable
pub completion-bits : (first : ℕ → Bool) (π : Partial) (v : List ℕ) → In v (completions first π) → (length v ≡ length π) × (are_bits v ≡ true)
completion-bits first [] [] m = (refl, refl)
completion-bits first [] (d ∷ v) m = absurd m
completion-bits first (o ∷ π) [] m = absurd m
completion-bits first (o ∷ π) (d ∷ v) m =
    let r = completion-bits (λ i. first (suc i)) π v m.1 in
    (ap suc r.0, and-join (ltb d 2) (are_bits v) (ltb-of-< d 2 (bit (eqb d 1) (option-byte (first 0) o d m.0))) r.1)
  where
    bit : (b : Bool) → d ≡ cond b 1 0 → d < 2
    bit true e = omega arith
    bit false e = omega arith

-- a valuation satisfies clauses exactly if it satisfies each of them
pub satisfies-member : (v : List ℕ) (cs : List PropClause) (c : PropClause) → satisfies v cs ≡ true → Member c cs → satisfies_clause v c ≡ true
unfolding satisfies
satisfies-member v [] c h m = elim m [ ]
satisfies-member v (d ∷ cs) c h m =
    go c m (and_left (satisfies_clause v d) (satisfies v cs) h) (λ k. satisfies-member v cs c (and_right (satisfies_clause v d) (satisfies v cs) h) k)
  where
    go : (c : PropClause) → Member c (d ∷ cs) → satisfies_clause v d ≡ true → (Member c cs → satisfies_clause v c ≡ true) → satisfies_clause v c ≡ true
    go c here e ih = e
    go c (there k) e ih = ih k

pub member-satisfies : (v : List ℕ) (cs : List PropClause) → ((c : PropClause) → Member c cs → satisfies_clause v c ≡ true) → satisfies v cs ≡ true
unfolding satisfies
member-satisfies v [] h = refl
member-satisfies v (d ∷ cs) h = and-join (satisfies_clause v d) (satisfies v cs) (h d here) (member-satisfies v cs (λ c m. h c (there m)))

module _ (first : ℕ → Bool) (π : Partial) (v : List ℕ) (m : In v (completions first π)) where
  -- a literal that is set has its value in every completion
  set-literal : (l : PropLiteral) → literal_is_unset π l ≡ false → satisfies_literal v l ≡ literal_is_true π l
  set-literal l h = go (lookup π l.number) refl h
    where
      go : (o : Option Bool) → lookup π l.number ≡ o → is_unset o ≡ false → beq l.positive (says v l.number) ≡ is_set_to l.positive o
      go none e k = absurd (true≢false k)
      go (some b) e k = ap (beq l.positive) (completion-says first π v l.number b m e)

  same-satisfied : (l n : PropLiteral) → same_literal l n ≡ true → satisfies_literal v n ≡ true → satisfies_literal v l ≡ true
  same-satisfied l n h k =
      let p = same_literal-parts l n h in
      ap (λ (b : Bool). beq b (says v l.number)) p.0 ∙ ap (λ (i : ℕ). beq n.positive (says v i)) p.1 ∙ k

  -- where the clause is false but for l, whatever satisfies it makes l true
  only-unset : (l : PropLiteral) (c : PropClause) → OnlyUnset π l c → satisfies_clause v c ≡ true → satisfies_literal v l ≡ true
  only-unset l [] o t = absurd (false≢true t)
  only-unset l (n ∷ c) o t =
      go (literal_is_unset π n) refl o.1 (or_cases (satisfies_literal v n) (satisfies_clause v c) t)
      (λ k t. only-unset l c (or-false-right (literal_is_true π n) (any (literal_is_true π) c) o.0, k) t)
    where
      rest : PropClause
      rest = select (literal_is_unset π) c

      go : (u : Bool) → literal_is_unset π n ≡ u → all (same_literal l) (cond u (n ∷ rest) rest) ≡ true → (satisfies_literal v n ≡ true) ⊎ (satisfies_clause v c ≡ true)
          → (all (same_literal l) rest ≡ true → satisfies_clause v c ≡ true → satisfies_literal v l ≡ true) → satisfies_literal v l ≡ true
      go true e k (inl t) ih = same-satisfied l n (and_left (same_literal l n) (all (same_literal l) rest) k) t
      go true e k (inr t) ih = ih (and_right (same_literal l n) (all (same_literal l) rest) k) t
      go false e k (inl t) ih = absurd (both_false (sym (set-literal n e) ∙ t) (or-false-left (literal_is_true π n) (any (literal_is_true π) c) o.0))
      go false e k (inr t) ih = ih k t

  -- no completion satisfies a clause that failed
  pub failed-not-satisfied : (c : PropClause) → status π c ≡ failed → satisfies_clause v c ≡ false
  failed-not-satisfied c e =
      let l : PropLiteral = record { positive = true; number = 0 } in
      not-true (satisfies_clause v c) (λ t. false≢true (only-unset l c (status-failed π c e l) t))

  -- a completion that satisfies a clause makes the literal true that the clause forces
  pub forced-satisfied : (c : PropClause) (l : PropLiteral) → status π c ≡ forces l → satisfies_clause v c ≡ true → satisfies_literal v l ≡ true
  forced-satisfied c l e t = only-unset l c (status-forces π c l e).0 t

  -- with all variables set, a quiet clause is satisfied
  pub quiet-satisfied : ((l : PropLiteral) → literal_is_unset π l ≡ false) → (c : PropClause) → status π c ≡ quiet → satisfies_clause v c ≡ true
  quiet-satisfied set c e =
      any-cong (satisfies_literal v) (literal_is_true π) c (λ l. set-literal l (set l)) ∙ go (any (literal_is_true π) c) refl
    where
      select-none : (c : PropClause) → select (literal_is_unset π) c ≡ []
      select-none [] = refl
      select-none (l ∷ c) = ap (λ (b : Bool). cond b (l ∷ select (literal_is_unset π) c) (select (literal_is_unset π) c)) (set l) ∙ select-none c

      go : (b : Bool) → any (literal_is_true π) c ≡ b → b ≡ true
      go true h = refl
      go false h = let l : PropLiteral = record { positive = true; number = 0 } in absurd (status-quiet π c e l (h, ap (all (same_literal l)) (select-none c)))
