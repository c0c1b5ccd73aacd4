-- Limit 7 of the mode, measured line by line, is the plain limit measured on the clauses that the mode has.
use Prim.Native.Nat.{ℕ, zero, suc, ◌+◌, ◌-◌, ◌≤◌, ◌<◌}
use mathlib.Core.Path.{◌≡◌, refl, sym, ap, ◌∙◌}
use mathlib.Core.Bool.{Bool, true, false, cond, not, ◌&&◌}
use mathlib.Core.Option.{Option, some, some-injective}
use mathlib.Core.List.{List, [], ◌∷◌, map, append-nil}
use native.Mathlib.Omega.{arith}
use lib.Dec.{eqb, ltb}
use lib.ListN.{length, get_or}
use Rattle.theory.specs.Lists.{all, concat_map, place_at, place_that}
use Rattle.theory.specs.Syntax.{Signature, Term, variable, apply, Terms, empty, cons, Atom, equal, holds, Literal, Clause, count, function_of, predicate_of, term_ok, terms_ok, atom_ok, clause_ok}
use Rattle.theory.specs.Flattening.{same_term, add_terms, place_or0}
use Rattle.theory.specs.Lifted.{among, different}
use Rattle.theory.proofs.Tests.{both_false, not-true, iff→≡, eqb-true, eqb_same, eqb-false, ltb-true, ltb-of-<, ltb-of-≤, ltb-false, and_left, and_right, and-join, false_of_not}
use Rattle.theory.proofs.Lists.{all_append, all_map, all-concat_map, all-imply, all-at, any_at}
use Rattle.theory.proofs.LiftedTerms.{same_term-true, same_term-same, same_term-of-≡, add_terms-adds, add_terms-all, Place, place, add_terms-different}
use Rattle.theory.proofs.Declared.{function_of→}
use Rattle.theory.proofs.Renamed.{renamed_term, renamed_terms}
use Rattle.naming.specs.FixedTerms.{is_nameable, term_named, terms_named, atom_named, clause_named, named_terms, name_of, short_term, short_terms, short_atom, short_literal, short_clause, helper_clause, helper_clauses, named_clauses}
use Rattle.naming.specs.NamedReading.{is_within, is_within_named}
use Rattle.naming.proofs.Renamed.{renamed_atom, renamed_clause, within-renamed}
use Rattle.naming.proofs.NamedTerms.{literal-covers, named_ok, named-covers}

-- Places in a list of different terms.

-- a term of such a list is found at its own place
pub own-place : (ts : List Term) (i : ℕ) → different ts ≡ true → i < length ts → place_that (same_term (get_or ts i (variable 0))) ts ≡ some i
own-place [] i d h = absurd (omega arith)
own-place (t ∷ ts) zero d h = ap (λ (b : Bool). place_at b (place_that (same_term t) ts)) (same_term-same t)
own-place (t ∷ ts) (suc i) d h =
    let u : Term = get_or ts i (variable 0) in
    let lt : i < length ts = omega arith in
    let other : same_term u t ≡ false =
    not-true (same_term u t)
    λ e. both_false (any_at (same_term t) (variable 0) ts i lt (same_term-of-≡ t u (sym (same_term-true u t e)))) (false_of_not (among ts t) (and_left (not (among ts t)) (different ts) d)) in
    ap (λ (b : Bool). place_at b (place_that (same_term u) ts)) other ∙ ap (place_at false) (own-place ts i (and_right (not (among ts t)) (different ts) d) lt)

-- the named terms are different
pub named-different : (cs : List Clause) → different (named_terms cs) ≡ true
unfolding named_terms
named-different cs = add_terms-different [] (concat_map clause_named cs) refl

-- what all terms of a list pass, a term among them passes
among-passes : (p : Term → Bool) (ts : List Term) (t : Term) → all p ts ≡ true → among ts t ≡ true → p t ≡ true
among-passes p ts t h k =
    let q : Place ts t = place ts t k in
    ap p (sym q.there) ∙ all-at p (variable 0) ts q.at h q.below

-- terms and the same terms each once pass the same tests
added-all : (p : Term → Bool) (ts : List Term) → all p (add_terms [] ts) ≡ all p ts
added-all p ts =
    iff→≡ (all p (add_terms [] ts)) (all p ts) (λ h. all-imply (among (add_terms [] ts)) p ts (λ t. among-passes p (add_terms [] ts) t h) (add_terms-adds [] ts))
    (add_terms-all p [] ts refl)

-- tests that agree where a third passes
all-where : {A : Type 0} (q p r : A → Bool) (xs : List A) → all q xs ≡ true → ((x : A) → q x ≡ true → p x ≡ r x) → all p xs ≡ all r xs
all-where q p r [] h e = refl
all-where q p r (x ∷ xs) h e =
    ap (λ (b : Bool). b && all p xs) (e x (and_left (q x) (all q xs) h)) ∙ ap (λ (b : Bool). r x && b) (all-where q p r xs (and_right (q x) (all q xs) h) e)

all_both : {A : Type 0} (p q : A → Bool) (xs : List A) → (all p xs && all q xs) ≡ all (λ x. p x && q x) xs
all_both p q [] = refl
all_both p q (x ∷ xs) = shuffle (p x) (q x) (all p xs) (all q xs) ∙ ap (λ (b : Bool). (p x && q x) && b) (all_both p q xs)
  where
    shuffle : (a b c d : Bool) → ((a && c) && (b && d)) ≡ ((a && b) && (c && d))
    shuffle true true c d = refl
    shuffle true false true d = refl
    shuffle true false false d = refl
    shuffle false b c d = refl

-- A renaming that leaves the symbols of the signature alone leaves their terms alone.
module _ (g : Signature) (ρ : ℕ → ℕ) (fixes : (f : ℕ) → f < length g → ρ f ≡ f) where
  mutual
    term-fixed : (t : Term) → term_ok g t ≡ true → renamed_term ρ t ≡ t
    term-fixed (variable x) h = refl
    term-fixed (apply f ts) h =
        ap (λ (i : ℕ). apply i (renamed_terms ρ ts)) (fixes f (function_of→ g f (count ts) (and_left (function_of g f (count ts)) (terms_ok g ts) h)).below)
        ∙ ap (apply f) (terms-fixed ts (and_right (function_of g f (count ts)) (terms_ok g ts) h))

    terms-fixed : (ts : Terms) → terms_ok g ts ≡ true → renamed_terms ρ ts ≡ ts
    terms-fixed empty h = refl
    terms-fixed (cons t ts) h =
        ap (λ (u : Term). cons u (renamed_terms ρ ts)) (term-fixed t (and_left (term_ok g t) (terms_ok g ts) h)) ∙ ap (cons t) (terms-fixed ts (and_right (term_ok g t) (terms_ok g ts) h))

-- Helpers' own clauses: which constant stands there makes no difference.

-- i and j exchanged
abbrev swapped : ℕ → ℕ → ℕ → ℕ
swapped i j f = cond (eqb f i) j (cond (eqb f j) i f)

swapped-first : (i j : ℕ) → swapped i j i ≡ j
swapped-first i j = ap (λ (b : Bool). cond b j (cond (eqb i j) i i)) (eqb_same i)

swapped-second : (i j : ℕ) → swapped i j j ≡ i
swapped-second i j = go (eqb j i) refl
  where
    go : (b : Bool) → eqb j i ≡ b → cond b j (cond (eqb j j) i j) ≡ i
    go true e = eqb-true j i e
    go false e = ap (λ (b : Bool). cond b i j) (eqb_same j)

swapped_other : (i j f : ℕ) → eqb f i ≡ false → eqb f j ≡ false → swapped i j f ≡ f
swapped_other i j f a b = ap (λ (x : Bool). cond x j (cond (eqb f j) i f)) a ∙ ap (λ (x : Bool). cond x i f) b

swapped-back : (i j f : ℕ) → swapped i j (swapped i j f) ≡ f
swapped-back i j f = go (eqb f i) (eqb f j) refl refl
  where
    go : (a b : Bool) → eqb f i ≡ a → eqb f j ≡ b → swapped i j (cond a j (cond b i f)) ≡ f
    go true b p q = swapped-second i j ∙ sym (eqb-true f i p)
    go false true p q = swapped-first i j ∙ sym (eqb-true f j q)
    go false false p q = swapped_other i j f p q

module _ (g : Signature) where
  helper-within : (t : Term) (i j : ℕ) → term_ok g t ≡ true → length g ≤ i → length g ≤ j → is_within (helper_clause i t) ≡ is_within (helper_clause j t)
  helper-within t i j ok hi hj =
      let ρ : ℕ → ℕ = swapped i j in
      let apart : (f h : ℕ) → ρ f ≡ ρ h → f ≡ h = λ f h e. sym (swapped-back i j f) ∙ ap ρ e ∙ swapped-back i j h in
      let fixes : (f : ℕ) → f < length g → ρ f ≡ f = λ f lt. swapped_other i j f (eqb-false f i (λ e. omega (arith, e, lt, hi))) (eqb-false f j (λ e. omega (arith, e, lt, hj))) in
      let is : renamed_clause ρ (helper_clause i t) ≡ helper_clause j t =
      ap (λ (k : ℕ). helper_clause k (renamed_term ρ t)) (swapped-first i j) ∙ ap (helper_clause j) (term-fixed g ρ fixes t ok) in
      sym (within-renamed ρ apart (helper_clause i t)) ∙ ap is_within is

  -- a term's own clause is within the limits
  abbrev own_within : Term → Bool
  own_within t = is_within (helper_clause (length g) t)

  helpers-within : (i : ℕ) (ts : List Term) → all (term_ok g) ts ≡ true → length g ≤ i → all is_within (helper_clauses i ts) ≡ all own_within ts
  helpers-within i [] ok h = refl
  helpers-within i (t ∷ ts) ok h =
      ap (λ (b : Bool). b && all is_within (helper_clauses (suc i) ts)) (helper-within t i (length g) (and_left (term_ok g t) (all (term_ok g) ts) ok) h (omega arith))
      ∙ ap (λ (b : Bool). own_within t && b) (helpers-within (suc i) ts (and_right (term_ok g t) (all (term_ok g) ts) ok) (omega arith))

-- Shortened clauses: names from one list of terms, or from another that has them.
module _ (n : ℕ) (own all' : List Term) (apart : different own ≡ true) (inside : all (among all') own ≡ true) where
  -- the place in the second list of the i-th term of the first; what no term stands for goes behind
  abbrev moved : ℕ → ℕ
  moved i = cond (ltb i (length own)) (place_or0 (place_that (same_term (get_or own i (variable 0))) all')) (length all' + i)

  -- functions below n stay, the names after them are moved
  abbrev placed : ℕ → ℕ
  placed f = cond (ltb f n) f (n + moved (f - n))

  at : (i : ℕ) → i < length own → Place all' (get_or own i (variable 0))
  at i h = place all' (get_or own i (variable 0)) (all-at (among all') (variable 0) own i inside h)

  moved-own : (i : ℕ) (h : i < length own) → moved i ≡ (at i h).at
  moved-own i h =
      ap (λ (b : Bool). cond b (place_or0 (place_that (same_term (get_or own i (variable 0))) all')) (length all' + i)) (ltb-of-< i (length own) h) ∙ ap place_or0 (at i h).found

  moved-behind : (i : ℕ) → length own ≤ i → moved i ≡ length all' + i
  moved-behind i h = ap (λ (b : Bool). cond b (place_or0 (place_that (same_term (get_or own i (variable 0))) all')) (length all' + i)) (ltb-of-≤ i (length own) h)

  moved_apart : (i j : ℕ) → moved i ≡ moved j → i ≡ j
  moved_apart i j e = go (ltb i (length own)) (ltb j (length own)) refl refl
    where
      go : (a b : Bool) → ltb i (length own) ≡ a → ltb j (length own) ≡ b → i ≡ j
      go true true p q =
          let hi : i < length own = ltb-true i (length own) p in
          let hj : j < length own = ltb-true j (length own) q in
          let s : (at i hi).at ≡ (at j hj).at = sym (moved-own i hi) ∙ e ∙ moved-own j hj in
          let t : get_or own i (variable 0) ≡ get_or own j (variable 0) = sym (at i hi).there ∙ ap (λ (k : ℕ). get_or all' k (variable 0)) s ∙ (at j hj).there in
          some-injective i j (sym (own-place own i apart hi) ∙ ap (λ (u : Term). place_that (same_term u) own) t ∙ own-place own j apart hj)
      go true false p q =
          let hi : i < length own = ltb-true i (length own) p in
          absurd (omega (arith, e, moved-own i hi, (at i hi).below, moved-behind j (ltb-false j (length own) q)))
      go false true p q =
          let hj : j < length own = ltb-true j (length own) q in
          absurd (omega (arith, e, moved-own j hj, (at j hj).below, moved-behind i (ltb-false i (length own) p)))
      go false false p q = omega (arith, e, moved-behind i (ltb-false i (length own) p), moved-behind j (ltb-false j (length own) q))

  placed_below : (f : ℕ) → f < n → placed f ≡ f
  placed_below f h = ap (λ (b : Bool). cond b f (n + moved (f - n))) (ltb-of-< f n h)

  placed-from : (f : ℕ) → n ≤ f → placed f ≡ n + moved (f - n)
  placed-from f h = ap (λ (b : Bool). cond b f (n + moved (f - n))) (ltb-of-≤ f n h)

  placed-apart : (f h : ℕ) → placed f ≡ placed h → f ≡ h
  placed-apart f h e = go (ltb f n) (ltb h n) refl refl
    where
      go : (a b : Bool) → ltb f n ≡ a → ltb h n ≡ b → f ≡ h
      go true true p q = sym (placed_below f (ltb-true f n p)) ∙ e ∙ placed_below h (ltb-true h n q)
      go true false p q = absurd (omega (arith, e, placed_below f (ltb-true f n p), placed-from h (ltb-false h n q), ltb-true f n p))
      go false true p q = absurd (omega (arith, e, placed_below h (ltb-true h n q), placed-from f (ltb-false f n p), ltb-true h n q))
      go false false p q =
          let a : n ≤ f = ltb-false f n p in
          let b : n ≤ h = ltb-false h n q in
          let s : f - n ≡ h - n = moved_apart (f - n) (h - n) (omega (arith, e, placed-from f a, placed-from h b)) in
          omega (arith, a, b, s)

  -- the name of a term of the first list goes to its name in the second
  name-placed : (t : Term) → among own t ≡ true → renamed_term placed (name_of n own t) ≡ name_of n all' t
  name-placed t h =
      let q : Place own t = place own t h in
      let k : ℕ = q.at in
      let less : n + k - n ≡ k = omega arith in
      let there : moved k ≡ place_or0 (place_that (same_term t) all') =
      ap (λ (b : Bool). cond b (place_or0 (place_that (same_term (get_or own k (variable 0))) all')) (length all' + k)) (ltb-of-< k (length own) q.below)
      ∙ ap (λ (u : Term). place_or0 (place_that (same_term u) all')) q.there in
      ap (λ (o : Option ℕ). apply (placed (n + place_or0 o)) empty) q.found
      ∙ ap (λ (i : ℕ). apply i empty) (placed-from (n + k) (omega arith) ∙ ap (λ (i : ℕ). n + moved i) less ∙ ap (λ (i : ℕ). n + i) there)

module _ (g : Signature) (own all' : List Term) (apart : different own ≡ true) (inside : all (among all') own ≡ true) where
  abbrev n : ℕ
  n = length g

  -- from names of the first list to names of the second
  abbrev ρ : ℕ → ℕ
  ρ = placed n own all' apart inside

  mutual
    term-short : (t : Term) → term_ok g t ≡ true → all (among own) (term_named t) ≡ true → renamed_term ρ (short_term n own t) ≡ short_term n all' t
    term-short (variable x) h k = refl
    term-short (apply f ts) h k =
        go (is_nameable (apply f ts)) k (placed_below n own all' apart inside f (function_of→ g f (count ts) (and_left (function_of g f (count ts)) (terms_ok g ts) h)).below)
        (λ c. terms-short ts (and_right (function_of g f (count ts)) (terms_ok g ts) h) c)
      where
        go : (b : Bool) → all (among own) (cond b (apply f ts ∷ []) (terms_named ts)) ≡ true → ρ f ≡ f → (all (among own) (terms_named ts) ≡ true → renamed_terms ρ (short_terms n own ts) ≡ short_terms n all' ts)
            → renamed_term ρ (cond b (name_of n own (apply f ts)) (apply f (short_terms n own ts))) ≡ cond b (name_of n all' (apply f ts)) (apply f (short_terms n all' ts))
        go true c e ih = name-placed n own all' apart inside (apply f ts) (and_left (among own (apply f ts)) true c)
        go false c e ih = ap (λ (i : ℕ). apply i (renamed_terms ρ (short_terms n own ts))) e ∙ ap (apply f) (ih c)

    terms-short : (ts : Terms) → terms_ok g ts ≡ true → all (among own) (terms_named ts) ≡ true → renamed_terms ρ (short_terms n own ts) ≡ short_terms n all' ts
    terms-short empty h k = refl
    terms-short (cons t ts) h k =
        let both : (all (among own) (term_named t) && all (among own) (terms_named ts)) ≡ true = sym (all_append (among own) (term_named t) (terms_named ts)) ∙ k in
        let a : renamed_term ρ (short_term n own t) ≡ short_term n all' t = term-short t (and_left (term_ok g t) (terms_ok g ts) h) (and_left (all (among own) (term_named t)) (all (among own) (terms_named ts)) both) in
        let b : renamed_terms ρ (short_terms n own ts) ≡ short_terms n all' ts = terms-short ts (and_right (term_ok g t) (terms_ok g ts) h) (and_right (all (among own) (term_named t)) (all (among own) (terms_named ts)) both) in
        cc

  atom-short : (a : Atom) → atom_ok g a ≡ true → all (among own) (atom_named a) ≡ true → renamed_atom ρ (short_atom n own a) ≡ short_atom n all' a
  atom-short (equal t u) h k =
      let both : (all (among own) (term_named t) && all (among own) (term_named u)) ≡ true = sym (all_append (among own) (term_named t) (term_named u)) ∙ k in
      let a : renamed_term ρ (short_term n own t) ≡ short_term n all' t = term-short t (and_left (term_ok g t) (term_ok g u) h) (and_left (all (among own) (term_named t)) (all (among own) (term_named u)) both) in
      let b : renamed_term ρ (short_term n own u) ≡ short_term n all' u = term-short u (and_right (term_ok g t) (term_ok g u) h) (and_right (all (among own) (term_named t)) (all (among own) (term_named u)) both) in
      cc
  atom-short (holds p ts) h k = ap (holds p) (terms-short ts (and_right (predicate_of g p (count ts)) (terms_ok g ts) h) k)

  literals-short : (c : Clause) → clause_ok g c ≡ true → all (λ (l : Literal). all (among own) (atom_named l.atom)) c ≡ true → renamed_clause ρ (short_clause n own c) ≡ short_clause n all' c
  literals-short [] h k = refl
  literals-short (l ∷ c) h k =
      let here : Bool = all (among own) (atom_named l.atom) in
      let rest : Bool = all (λ (l : Literal). all (among own) (atom_named l.atom)) c in
      ap (λ (a : Atom). record { sign = l.sign; atom = a } ∷ renamed_clause ρ (short_clause n own c)) (atom-short l.atom (and_left (atom_ok g l.atom) (clause_ok g c) h) (and_left here rest k))
      ∙ ap (λ (d : Clause). short_literal n all' l ∷ d) (literals-short c (and_right (atom_ok g l.atom) (clause_ok g c) h) (and_right here rest k))

  short-within : (c : Clause) → clause_ok g c ≡ true → all (among own) (clause_named c) ≡ true → is_within (short_clause n all' c) ≡ is_within (short_clause n own c)
  short-within c h k =
      sym (ap is_within (literals-short c h (literal-covers own c k))) ∙ within-renamed ρ (placed-apart n own all' apart inside) (short_clause n own c)

pub and-true : (b : Bool) → (b && true) ≡ b
and-true true = refl
and-true false = refl

-- A clause alone.
alone : (c : Clause) → named_terms (c ∷ []) ≡ add_terms [] (clause_named c)
unfolding named_terms
alone c = ap (add_terms []) (append-nil (clause_named c))

module _ (g : Signature) where
  -- what a line's clause is measured by: its terms' own clauses, and the clause shortened with names of its own
  abbrev line_within : Clause → Bool
  line_within c = all (own_within g) (clause_named c) && is_within (short_clause (length g) (named_terms (c ∷ [])) c)

  line-within : (c : Clause) → clause_ok g c ≡ true → is_within_named (length g) c ≡ line_within c
  unfolding is_within_named named_clauses
  line-within c ok =
      let ts : List Term = named_terms (c ∷ []) in
      all_append is_within (helper_clauses (length g) ts) (short_clause (length g) ts c ∷ [])
      ∙ ap (λ (b : Bool). b && (is_within (short_clause (length g) ts c) && true))
      (helpers-within g (length g) ts (named_ok g (c ∷ []) (and-join (clause_ok g c) true ok refl)) (omega arith) ∙ ap (all (own_within g)) (alone c) ∙ added-all (own_within g) (clause_named c))
      ∙ ap (λ (b : Bool). all (own_within g) (clause_named c) && b) (and-true (is_within (short_clause (length g) ts c)))

  -- with the names of all clauses
  short-all : (cs : List Clause) (c : Clause) → (clause_ok g c && all (among (named_terms cs)) (clause_named c)) ≡ true
      → is_within (short_clause (length g) (named_terms cs) c) ≡ is_within (short_clause (length g) (named_terms (c ∷ [])) c)
  short-all cs c h =
      let covered : all (among (named_terms cs)) (clause_named c) ≡ true = and_right (clause_ok g c) (all (among (named_terms cs)) (clause_named c)) h in
      short-within g (named_terms (c ∷ [])) (named_terms cs) (named-different (c ∷ []))
      (ap (all (among (named_terms cs))) (alone c) ∙ add_terms-all (among (named_terms cs)) [] (clause_named c) refl covered)
      c (and_left (clause_ok g c) (all (among (named_terms cs)) (clause_named c)) h)
      (ap (λ (ts : List Term). all (among ts) (clause_named c)) (alone c) ∙ add_terms-adds [] (clause_named c))

  -- the named terms and the nameable terms of the clauses pass the same tests
  terms-own : (cs : List Clause) → all (own_within g) (named_terms cs) ≡ all (λ c. all (own_within g) (clause_named c)) cs
  unfolding named_terms
  terms-own cs = added-all (own_within g) (concat_map clause_named cs) ∙ all-concat_map (own_within g) clause_named cs

  -- all clauses that the mode has are within the limits exactly if each line is
  pub lines-within : (cs : List Clause) → all (clause_ok g) cs ≡ true → all is_within (named_clauses (length g) cs) ≡ all (is_within_named (length g)) cs
  unfolding named_clauses
  lines-within cs ok =
      let ts : List Term = named_terms cs in
      let n : ℕ = length g in
      let both : all (λ c. clause_ok g c && all (among ts) (clause_named c)) cs ≡ true = sym (all_both (clause_ok g) (λ c. all (among ts) (clause_named c)) cs) ∙ and-join (all (clause_ok g) cs) _ ok (named-covers cs) in
      all_append is_within (helper_clauses n ts) (map (short_clause n ts) cs)
      ∙ ap (λ (b : Bool). b && all is_within (map (short_clause n ts) cs)) (helpers-within g n ts (named_ok g cs ok) (omega arith) ∙ terms-own cs)
      ∙ ap (λ (b : Bool). all (λ c. all (own_within g) (clause_named c)) cs && b)
      (all_map is_within (short_clause n ts) cs
      ∙ all-where (λ c. clause_ok g c && all (among ts) (clause_named c)) (λ c. is_within (short_clause n ts c)) (λ c. is_within (short_clause n (named_terms (c ∷ [])) c)) cs both (short-all cs))
      ∙ all_both (λ c. all (own_within g) (clause_named c)) (λ c. is_within (short_clause n (named_terms (c ∷ [])) c)) cs
      ∙ all-where (clause_ok g) line_within (is_within_named n) cs ok (λ c h. sym (line-within c h))
