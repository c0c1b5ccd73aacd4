-- What the status of a clause says of its literals, and what the first status of a list of clauses says of them.
use Prim.Native.Nat.{ℕ}
use mathlib.Core.Path.{◌≡◌, refl, sym, ap, ◌∙◌, subst}
use mathlib.Core.Bool.{Bool, true, false, cond, ◌&&◌, beq, true≢false}
use mathlib.Core.List.{List, [], ◌∷◌, cons≢nil, head-eq_of_cons-eq}
use lib.Dec.{eqb}
use Rattle.theory.specs.Lists.{any, all, select}
use Rattle.theory.specs.Propositional.{PropLiteral, PropClause}
use Rattle.theory.specs.Walk.{Partial, literal_is_true, literal_is_unset, same_literal, Status, failed, forces, quiet, status_of, status, first_status, event}
use Rattle.theory.specs.Claims.Walk.{Member, here, there}
use Rattle.theory.proofs.Tests.{beq-≡, beq_same, eqb-true, eqb_same, and_left, and_right, and-join}

pub same_literal-parts : (l m : PropLiteral) → same_literal l m ≡ true → (l.positive ≡ m.positive) × (l.number ≡ m.number)
same_literal-parts l m h = (
  beq-≡ l.positive m.positive (and_left (beq l.positive m.positive) (eqb l.number m.number) h),
  eqb-true l.number m.number (and_right (beq l.positive m.positive) (eqb l.number m.number) h),
)

pub same_literal-self : (l : PropLiteral) → same_literal l l ≡ true
same_literal-self l = and-join (beq l.positive l.positive) (eqb l.number l.number) (beq_same l.positive) (eqb_same l.number)

same_literal-trans : (l m n : PropLiteral) → same_literal l m ≡ true → same_literal l n ≡ true → same_literal m n ≡ true
same_literal-trans l m n p q =
    let a = same_literal-parts l m p in
    ap (λ (b : Bool). beq b n.positive && eqb m.number n.number) (sym a.0)
    ∙ ap (λ (k : ℕ). beq l.positive n.positive && eqb k n.number) (sym a.1) ∙ q

all-same_literal-trans : (l m : PropLiteral) (c : PropClause) → same_literal l m ≡ true → all (same_literal l) c ≡ true → all (same_literal m) c ≡ true
all-same_literal-trans l m [] p q = refl
all-same_literal-trans l m (n ∷ c) p q =
    and-join (same_literal m n) (all (same_literal m) c) (same_literal-trans l m n p (and_left (same_literal l n) (all (same_literal l) c) q))
    (all-same_literal-trans l m c p (and_right (same_literal l n) (all (same_literal l) c) q))

select-head : (p : PropLiteral → Bool) (c : PropClause) (l : PropLiteral) (ls : PropClause) → select p c ≡ l ∷ ls → p l ≡ true
select-head p [] l ls e = absurd (cons≢nil (sym e))
select-head p (m ∷ c) l ls e = go (p m) refl e (λ k. select-head p c l ls k)
  where
    go : (b : Bool) → p m ≡ b → cond b (m ∷ select p c) (select p c) ≡ l ∷ ls → (select p c ≡ l ∷ ls → p l ≡ true) → p l ≡ true
    go true h k ih = ap p (sym (head-eq_of_cons-eq k)) ∙ h
    go false h k ih = ih k

module _ (π : Partial) where
  -- the clause has no true literal, and its unset ones are all l
  abbrev pub OnlyUnset : PropLiteral → PropClause → Type 0
  OnlyUnset l c = (any (literal_is_true π) c ≡ false) × (all (same_literal l) (select (literal_is_unset π) c) ≡ true)

  -- what the status of a clause says
  abbrev pub Means : Status → PropClause → Type 0
  Means failed c = (l : PropLiteral) → OnlyUnset l c
  Means (forces l) c = OnlyUnset l c × (literal_is_unset π l ≡ true)
  Means quiet c = (l : PropLiteral) → OnlyUnset l c → ⊥

  pub status-means : (c : PropClause) → Means (status π c) c
  status-means c = go (any (literal_is_true π) c) refl (select (literal_is_unset π) c) refl
    where
      one : (l : PropLiteral) (ls : PropClause) (b : Bool) → all (same_literal l) ls ≡ b → any (literal_is_true π) c ≡ false → select (literal_is_unset π) c ≡ l ∷ ls
          → Means (cond b (forces l) quiet) c
      one l ls true e h k =
          ((h, ap (all (same_literal l)) k ∙ and-join (same_literal l l) (all (same_literal l) ls) (same_literal-self l) e), select-head (literal_is_unset π) c l ls k)
      one l ls false e h k =
          λ m o.
          let a : all (same_literal m) (l ∷ ls) ≡ true = ap (all (same_literal m)) (sym k) ∙ o.1 in
          let t : all (same_literal l) ls ≡ true =
          all-same_literal-trans m l ls (and_left (same_literal m l) (all (same_literal m) ls) a) (and_right (same_literal m l) (all (same_literal m) ls) a) in
          true≢false (sym t ∙ e)

      go : (b : Bool) → any (literal_is_true π) c ≡ b → (us : PropClause) → select (literal_is_unset π) c ≡ us → Means (cond b quiet (status_of us)) c
      go true h us k = λ m o. true≢false (sym h ∙ o.0)
      go false h [] k = λ l. (h, ap (all (same_literal l)) k)
      go false h (l ∷ ls) k = one l ls (all (same_literal l) ls) refl h k

  pub status-failed : (c : PropClause) → status π c ≡ failed → (l : PropLiteral) → OnlyUnset l c
  status-failed c e = subst (λ (t : Status). Means t c) e (status-means c)

  pub status-forces : (c : PropClause) (l : PropLiteral) → status π c ≡ forces l → OnlyUnset l c × (literal_is_unset π l ≡ true)
  status-forces c l e = subst (λ (t : Status). Means t c) e (status-means c)

  pub status-quiet : (c : PropClause) → status π c ≡ quiet → (l : PropLiteral) → OnlyUnset l c → ⊥
  status-quiet c e = subst (λ (t : Status). Means t c) e (status-means c)

  -- what the first status that is not quiet says of the clauses
  abbrev pub EventMeans : Status → List PropClause → Type 0
  EventMeans failed cs = (c : PropClause) × Member c cs × (status π c ≡ failed)
  EventMeans (forces l) cs = (c : PropClause) × Member c cs × (status π c ≡ forces l)
  EventMeans quiet cs = (c : PropClause) → Member c cs → status π c ≡ quiet

  pub event-means : (cs : List PropClause) → EventMeans (event π cs) cs
  event-means [] = λ c m. elim m [ ]
  event-means (d ∷ cs) = go (status π d) refl (event π cs) (event-means cs)
    where
      both : status π d ≡ quiet → ((c : PropClause) → Member c cs → status π c ≡ quiet) → (c : PropClause) → Member c (d ∷ cs) → status π c ≡ quiet
      both h k c here = h
      both h k c (there m) = k c m

      go : (t : Status) → status π d ≡ t → (r : Status) → EventMeans r cs → EventMeans (first_status t r) (d ∷ cs)
      go failed h r k = (d, here, h)
      go (forces l) h r k = (d, here, h)
      go quiet h failed k = (k.0, there k.1, k.2)
      go quiet h (forces l) k = (k.0, there k.1, k.2)
      go quiet h quiet k = both h k
