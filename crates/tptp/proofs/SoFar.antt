-- A symbol's entry and place do not change when more clauses come: faults of 16 and 17 can be told by the symbols so far.
use Prim.Native.Nat.{ℕ, zero, suc, ◌+◌, ◌<◌}
use mathlib.Core.Path.{◌≡◌, refl, sym, ap, ◌∙◌, subst}
use mathlib.Core.Logic.{◌⊎◌, inl, inr}
use mathlib.Core.Bool.{Bool, true, false, cond, not, ◌&&◌, ◌||◌, false≢true}
use mathlib.Core.Option.{Option, some}
use mathlib.Core.List.{List, [], ◌∷◌, ◌++◌}
use native.Mathlib.Omega.{arith}
use lib.Dec.{eqb, ltb, leb}
use lib.ListN.{length, length-append, get_or-append}
use Rattle.theory.specs.Lists.{all, same, select, concat_map, or_zero}
use Rattle.theory.specs.Syntax.{Kind, function, predicate, is_function, is_predicate, Symbol, Signature, no_symbol, symbol_at, functions, predicates}
use Rattle.theory.specs.Problem.{is_name, is_named, place_of_name, within_limits}
use Rattle.theory.proofs.Tests.{true-or-false, and_left, and_right, or-false-join, or-false-right}
use Rattle.theory.proofs.Lists.{any_append, same_refl, same_true}
use Rattle.theory.proofs.Finding.{any→place_that, any→place_that-none, place_that-append}
use Rattle.theory.proofs.Names.{named-place}
use Rattle.theory.specs.Syntax as sheet
use Rattle.theory.specs.Grammar as words
use Rattle.theory.specs.WellFormed.{NamesDiffer}
use Rattle.tptp.specs.Trees.{NameTerm, name_variable, name_apply, NameTerms, no_terms, term_and, NameAtom, name_holds, name_equal, NameLiteral, never, plain, tilded, unequal, NameClause}
use Rattle.tptp.specs.Symbols.{Occurrence, of_variable, of_symbol, term_occurrences, terms_occurrences, atom_occurrences, literal_occurrences, clause_occurrences, variables_of, term_over, terms_over, atom_over, literal_as_written, clause_over, declares, first_of_name, symbol_of_name}
use Rattle.tptp.specs.Tptp.{place_in_kind, occurrence_faults, fault_if, same_symbol_kind, Fault}
use Rattle.tptp.specs.Claims.Order.{signature_by}
use Rattle.theory.proofs.SheetWords.{place-of-name}
use Rattle.theory.proofs.SheetRead.{select-all, select-none, function-only, predicate-only}
use Rattle.tptp.proofs.Models.{first-has}
use Rattle.tptp.proofs.Skeletons.{blank_atom, skeleton, limits-same}
use Rattle.tptp.proofs.Fresh.{select-passes, Fresh, select-unnamed, first-fresh, parts-fresh, fresh-differ}
use Rattle.theory.proofs.Lists as lists

select-append : {A : Type 0} (q : A → Bool) (xs ys : List A) → select q (xs ++ ys) ≡ select q xs ++ select q ys
select-append q [] ys = refl
select-append q (x ∷ xs) ys = go (q x) (select-append q xs ys)
  where
    go : (b : Bool) → select q (xs ++ ys) ≡ select q xs ++ select q ys → cond b (x ∷ select q (xs ++ ys)) (select q (xs ++ ys)) ≡ cond b (x ∷ select q xs) (select q xs) ++ select q ys
    go true ih = ap (λ l. x ∷ l) ih
    go false ih = ih

-- the first symbols of a longer list begin with those of the shorter
pub first-append : {A : Type 0} (name : A → List ℕ) (xs ys : List A) → (zs : List A) × (first_of_name name (xs ++ ys) ≡ first_of_name name xs ++ zs)
first-append name [] ys = (first_of_name name ys, refl)
first-append name (x ∷ xs) ys =
    let r = first-append name xs ys in (
      select (λ y. not (same (name x) (name y))) r.0,
      ap (λ l. x ∷ select (λ y. not (same (name x) (name y))) l) r.1 ∙ ap (λ l. x ∷ l) (select-append (λ y. not (same (name x) (name y))) (first_of_name name xs) r.0),
    )

-- an element of a list stands in what is selected, if it passes
select-member : (q : Symbol → Bool) (fs : List Symbol) (i : ℕ) → i < length fs → q (symbol_at fs i) ≡ true → (j : ℕ) × (j < length (select q fs)) × (symbol_at (select q fs) j ≡ symbol_at fs i)
select-member q [] i lt h = absurd (omega arith)
select-member q (f ∷ fs) zero lt h = (0, subst (λ (b : Bool). 0 < length (cond b (f ∷ select q fs) (select q fs))) (sym h) (omega arith), ap (λ (b : Bool). symbol_at (cond b (f ∷ select q fs) (select q fs)) 0) h)
select-member q (f ∷ fs) (suc i) lt h = go (q f) (select-member q fs i (omega arith) h)
  where
    go : (b : Bool) → (j : ℕ) × (j < length (select q fs)) × (symbol_at (select q fs) j ≡ symbol_at fs i)
        → (j : ℕ) × (j < length (cond b (f ∷ select q fs) (select q fs))) × (symbol_at (cond b (f ∷ select q fs) (select q fs)) j ≡ symbol_at fs i)
    go true r = (suc r.0, omega (arith, r.1), r.2)
    go false r = r

at_right : (xs ys : List Symbol) (j : ℕ) → symbol_at (xs ++ ys) (length xs + j) ≡ symbol_at ys j
at_right [] ys j = let e : 0 + j ≡ j = omega arith in ap (symbol_at ys) e
at_right (x ∷ xs) ys j = let e : suc (length xs) + j ≡ suc (length xs + j) = omega arith in ap (symbol_at (x ∷ (xs ++ ys))) e ∙ at_right xs ys j

-- functions before predicates have the same elements
parts-member : (fs : List Symbol) (i : ℕ) → i < length fs → (j : ℕ) × (j < length (functions fs ++ predicates fs)) × (symbol_at (functions fs ++ predicates fs) j ≡ symbol_at fs i)
parts-member fs i lt = go (symbol_at fs i).kind refl
  where
    F : List Symbol
    F = functions fs

    P : List Symbol
    P = predicates fs

    n : length (F ++ P) ≡ length F + length P
    n = length-append F P

    go : (k : Kind) → (symbol_at fs i).kind ≡ k → (j : ℕ) × (j < length (F ++ P)) × (symbol_at (F ++ P) j ≡ symbol_at fs i)
    go function e =
        let r = select-member (λ (f : Symbol). is_function f.kind) fs i lt (ap is_function e) in
        (r.0, omega (arith, n, r.1), get_or-append F P no_symbol r.0 r.1 ∙ r.2)
    go predicate e =
        let r = select-member (λ (f : Symbol). is_predicate f.kind) fs i lt (ap is_predicate e) in
        (length F + r.0, omega (arith, n, r.1), at_right F P r.0 ∙ r.2)

-- the symbol with this name
abbrev pub entry : Signature → List ℕ → Symbol
entry g w = symbol_at g (symbol_of_name g w)

-- it is the one at any place with that name
entry_at : (g : Signature) → NamesDiffer g → (w : List ℕ) (j : ℕ) → j < length g → w ≡ (symbol_at g j).name → entry g w ≡ symbol_at g j
entry_at g d w j lt e = ap (λ (u : List ℕ). entry g u) e ∙ ap (λ (o : Option ℕ). symbol_at g (or_zero o)) (place-of-name g d j lt)

-- in a list of first symbols A and in a longer one A ++ Z: the same entry
module _ (A Z : List Symbol) (fresh : Fresh (A ++ Z)) (fresh_a : Fresh A) (w : List ℕ) (named : is_named w A ≡ true) where
  abbrev small : Signature
  small = functions A ++ predicates A

  abbrev large : Signature
  large = functions (A ++ Z) ++ predicates (A ++ Z)

  pub same-entry : entry large w ≡ entry small w
  same-entry =
      let r = any→place_that (λ (f : Symbol). same w f.name) A named in
      let s = named-place A w r.0 r.1 in
      let n : length (A ++ Z) ≡ length A + length Z = length-append A Z in
      let inside : symbol_at (A ++ Z) r.0 ≡ symbol_at A r.0 = get_or-append A Z no_symbol r.0 s.0 in
      let a = parts-member A r.0 s.0 in
      let b = parts-member (A ++ Z) r.0 (omega (arith, n, s.0)) in
      entry_at large (fresh-differ large (parts-fresh (A ++ Z) fresh)) w b.0 b.1 (s.1 ∙ ap (λ (f : Symbol). f.name) (sym (b.2 ∙ inside)))
      ∙ b.2 ∙ inside ∙ sym a.2
      ∙ sym (entry_at small (fresh-differ small (parts-fresh A fresh_a)) w a.0 a.1 (s.1 ∙ ap (λ (f : Symbol). f.name) (sym a.2)))

  -- no later symbol has the name
  later : (A Z : List Symbol) → Fresh (A ++ Z) → is_named w A ≡ true → is_named w Z ≡ false
  later [] Z d h = absurd (false≢true h)
  later (f ∷ A) Z d h = go (true-or-false (same w f.name)) h (λ k. later A Z d.1 k)
    where
      go : (same w f.name ≡ true) ⊎ (same w f.name ≡ false) → is_named w (f ∷ A) ≡ true → (is_named w A ≡ true → is_named w Z ≡ false) → is_named w Z ≡ false
      go (inl e) h ih =
          let both : (is_named f.name A || is_named f.name Z) ≡ false = sym (any_append (λ (u : Symbol). same f.name u.name) A Z) ∙ d.0 in
          ap (λ (v : List ℕ). is_named v Z) (same_true w f.name e) ∙ or-false-right (is_named f.name A) (is_named f.name Z) both
      go (inr e) h ih = ih (sym (ap (λ (b : Bool). b || is_named w A) e) ∙ h)

  -- the place among the symbols of one kind stays
  kept-place : (q : Symbol → Bool) → or_zero (place_of_name w (select q (A ++ Z))) ≡ or_zero (place_of_name w (select q A))
  kept-place q = ap (λ (l : List Symbol). or_zero (place_of_name w l)) (select-append q A Z) ∙ go (true-or-false (is_named w (select q A)))
    where
      F : List Symbol
      F = select q A

      G : List Symbol
      G = select q Z

      go : (is_named w F ≡ true) ⊎ (is_named w F ≡ false) → or_zero (place_of_name w (F ++ G)) ≡ or_zero (place_of_name w F)
      go (inl h) =
          let r = any→place_that (λ (f : Symbol). same w f.name) F h in
          ap or_zero (place_that-append (λ (f : Symbol). same w f.name) F G r.0 r.1 ∙ sym r.1)
      go (inr h) =
          let k : is_named w G ≡ false = select-unnamed w q Z (later A Z fresh named) in
          let both : is_named w (F ++ G) ≡ false = any_append (λ (f : Symbol). same w f.name) F G ∙ or-false-join (is_named w F) (is_named w G) h k in
          ap or_zero (any→place_that-none (λ (f : Symbol). same w f.name) (F ++ G) both ∙ sym (any→place_that-none (λ (f : Symbol). same w f.name) F h))

-- functions and predicates of a signature so made
pub functions-back : (fs : List Symbol) → functions (functions fs ++ predicates fs) ≡ functions fs
functions-back fs =
    select-all (λ (f : Symbol). is_function f.kind) (functions fs) (predicates fs) (select-passes (λ (f : Symbol). is_function f.kind) fs)
    (lists.all-imply (λ (f : Symbol). is_predicate f.kind) (λ (f : Symbol). not (is_function f.kind)) (predicates fs) predicate-only (select-passes (λ (f : Symbol). is_predicate f.kind) fs))

pub predicates-back : (fs : List Symbol) → predicates (functions fs ++ predicates fs) ≡ predicates fs
predicates-back fs =
    select-none (λ (f : Symbol). is_predicate f.kind) (functions fs) (predicates fs)
    (lists.all-imply (λ (f : Symbol). is_function f.kind) (λ (f : Symbol). not (is_predicate f.kind)) (functions fs) function-only (select-passes (λ (f : Symbol). is_function f.kind) fs))
    (select-passes (λ (f : Symbol). is_predicate f.kind) fs)

same_place : (A Z : List Symbol) → Fresh (A ++ Z) → Fresh A → (w : List ℕ) → is_named w A ≡ true → (k : Kind)
    → place_in_kind (functions (A ++ Z) ++ predicates (A ++ Z)) k w ≡ place_in_kind (functions A ++ predicates A) k w
same_place A Z fr fr_a w h function =
    ap (λ (l : List Symbol). or_zero (place_of_name w l)) (functions-back (A ++ Z)) ∙ kept-place A Z fr fr_a w h (λ (f : Symbol). is_function f.kind)
    ∙ ap (λ (l : List Symbol). or_zero (place_of_name w l)) (sym (functions-back A))
same_place A Z fr fr_a w h predicate =
    ap (λ (l : List Symbol). or_zero (place_of_name w l)) (predicates-back (A ++ Z)) ∙ kept-place A Z fr fr_a w h (λ (f : Symbol). is_predicate f.kind)
    ∙ ap (λ (l : List Symbol). or_zero (place_of_name w l)) (sym (predicates-back A))

module _ (X Y : List Symbol) where
  abbrev by_name : Symbol → List ℕ
  by_name f = f.name

  abbrev A₁ : List Symbol
  A₁ = first_of_name by_name X

  abbrev now : Signature
  now = signature_by X

  abbrev all-of-it : Signature
  all-of-it = signature_by (X ++ Y)

  abbrev Z₁ : List Symbol
  Z₁ = (first-append by_name X Y).0

  whole : first_of_name by_name (X ++ Y) ≡ A₁ ++ Z₁
  whole = (first-append by_name X Y).1

  fresh-whole : Fresh (A₁ ++ Z₁)
  fresh-whole = subst Fresh whole (first-fresh (X ++ Y))

  made : all-of-it ≡ functions (A₁ ++ Z₁) ++ predicates (A₁ ++ Z₁)
  made = ap (λ (fs : List Symbol). functions fs ++ predicates fs) whole

  module _ (w : List ℕ) (h : is_named w X ≡ true) where
    named-first : is_named w A₁ ≡ true
    named-first = first-has by_name w X h

    -- a name that has appeared keeps its entry and its place among its kind
    pub entry-so-far : entry all-of-it w ≡ entry now w
    entry-so-far = ap (λ (g : Signature). entry g w) made ∙ same-entry A₁ Z₁ fresh-whole (first-fresh X) w named-first

    pub place-so-far : (k : Kind) → place_in_kind all-of-it k w ≡ place_in_kind now k w
    place-so-far k = ap (λ (g : Signature). place_in_kind g k w) made ∙ same_place A₁ Z₁ fresh-whole (first-fresh X) w named-first k

    -- a function keeps its number in the signature
    pub number-so-far : is_function (entry now w).kind ≡ true → symbol_of_name all-of-it w ≡ symbol_of_name now w
    number-so-far fn =
        let r = any→place_that (λ (f : Symbol). same w f.name) A₁ named-first in
        let s = named-place A₁ w r.0 r.1 in
        let a = parts-member A₁ r.0 s.0 in
        let e : entry now w ≡ symbol_at A₁ r.0 = entry_at now (fresh-differ now (parts-fresh A₁ (first-fresh X))) w a.0 a.1 (s.1 ∙ ap (λ (f : Symbol). f.name) (sym a.2)) ∙ a.2 in
        let m = select-member (λ (f : Symbol). is_function f.kind) A₁ r.0 s.0 (ap (λ (f : Symbol). is_function f.kind) (sym e) ∙ fn) in
        let F : List Symbol = functions A₁ in
        let in_f : is_named w F ≡ true =
        lists.any_at (λ (f : Symbol). same w f.name) no_symbol F m.0 m.1 (ap (same w) (ap (λ (f : Symbol). f.name) m.2 ∙ sym s.1) ∙ same_refl w) in
        let p = any→place_that (λ (f : Symbol). same w f.name) F in_f in
        let in_now : place_of_name w now ≡ some p.0 = place_that-append (λ (f : Symbol). same w f.name) F (predicates A₁) p.0 p.1 in
        let longer : place_of_name w (functions (A₁ ++ Z₁)) ≡ some p.0 =
        ap (place_of_name w) (select-append (λ (f : Symbol). is_function f.kind) A₁ Z₁) ∙ place_that-append (λ (f : Symbol). same w f.name) F (functions Z₁) p.0 p.1 in
        let in_all : place_of_name w all-of-it ≡ some p.0 =
        ap (place_of_name w) made ∙ place_that-append (λ (f : Symbol). same w f.name) (functions (A₁ ++ Z₁)) (predicates (A₁ ++ Z₁)) p.0 longer in
        ap or_zero (in_all ∙ sym in_now)

  -- so an occurrence has the same faults
  pub occurrence-so-far : (xs : List (List ℕ)) (o : Occurrence) → all (λ (f : Symbol). is_named f.name X) (declares o) ≡ true → occurrence_faults all-of-it xs o ≡ occurrence_faults now xs o
  occurrence-so-far xs (of_variable x) h = refl
  occurrence-so-far xs (of_symbol f k n) h =
      let w : List ℕ = f.bytes in
      let nm : is_named w X ≡ true = and_left (is_named w X) true h in
      ap (λ (e : Symbol). fault_if (not (same_symbol_kind k e.kind) || not (eqb n e.arity)) 16 f.place ++ fault_if (ltb 3 n || not (is_name w) || leb 12 (place_in_kind all-of-it k w)) 17 f.place) (entry-so-far w nm)
      ∙ ap (λ (p : ℕ). fault_if (not (same_symbol_kind k (entry now w).kind) || not (eqb n (entry now w).arity)) 16 f.place ++ fault_if (ltb 3 n || not (is_name w) || leb 12 p) 17 f.place) (place-so-far w nm k)

  pub occurrences-so-far : (xs : List (List ℕ)) (os : List Occurrence) → all (λ (f : Symbol). is_named f.name X) (concat_map declares os) ≡ true
      → concat_map (occurrence_faults all-of-it xs) os ≡ concat_map (occurrence_faults now xs) os
  occurrences-so-far xs [] h = refl
  occurrences-so-far xs (o ∷ os) h =
      let p : Symbol → Bool = λ f. is_named f.name X in
      let k : (all p (declares o) && all p (concat_map declares os)) ≡ true = sym (lists.all_append p (declares o) (concat_map declares os)) ∙ h in
      ap (λ (l : List Fault). l ++ concat_map (occurrence_faults all-of-it xs) os) (occurrence-so-far xs o (and_left (all p (declares o)) (all p (concat_map declares os)) k))
      ∙ ap (λ (l : List Fault). occurrence_faults now xs o ++ l) (occurrences-so-far xs os (and_right (all p (declares o)) (all p (concat_map declares os)) k))

  -- a function that is one in the signature so far
  abbrev pub settled_at : Occurrence → Bool
  settled_at (of_variable x) = true
  settled_at (of_symbol f function n) = is_named f.bytes X && is_function (entry now f.bytes).kind
  settled_at (of_symbol f predicate n) = true

  module _ (xs : List (List ℕ)) where
    mutual
      term-so-far : (t : NameTerm) → all settled_at (term_occurrences t) ≡ true → term_over all-of-it xs t ≡ term_over now xs t
      term-so-far (name_variable x) h = refl
      term-so-far (name_apply f ts) h =
          let one : Bool = is_named f.bytes X && is_function (entry now f.bytes).kind in
          let k : one ≡ true = and_left one (all settled_at (terms_occurrences ts)) h in
          let e : symbol_of_name all-of-it f.bytes ≡ symbol_of_name now f.bytes =
          number-so-far f.bytes (and_left (is_named f.bytes X) (is_function (entry now f.bytes).kind) k) (and_right (is_named f.bytes X) (is_function (entry now f.bytes).kind) k) in
          let q : terms_over all-of-it xs ts ≡ terms_over now xs ts = terms-so-far ts (and_right one (all settled_at (terms_occurrences ts)) h) in
          ap (λ (i : ℕ). sheet.apply i (terms_over all-of-it xs ts)) e ∙ ap (sheet.apply (symbol_of_name now f.bytes)) q

      terms-so-far : (ts : NameTerms) → all settled_at (terms_occurrences ts) ≡ true → terms_over all-of-it xs ts ≡ terms_over now xs ts
      terms-so-far no_terms h = refl
      terms-so-far (term_and t ts) h =
          let k : (all settled_at (term_occurrences t) && all settled_at (terms_occurrences ts)) ≡ true = sym (lists.all_append settled_at (term_occurrences t) (terms_occurrences ts)) ∙ h in
          ap (λ (u : sheet.Term). sheet.cons u (terms_over all-of-it xs ts)) (term-so-far t (and_left (all settled_at (term_occurrences t)) (all settled_at (terms_occurrences ts)) k))
          ∙ ap (sheet.cons (term_over now xs t)) (terms-so-far ts (and_right (all settled_at (term_occurrences t)) (all settled_at (terms_occurrences ts)) k))

    pair-so-far : (t u : NameTerm) → all settled_at (term_occurrences t ++ term_occurrences u) ≡ true → sheet.equal (term_over all-of-it xs t) (term_over all-of-it xs u) ≡ sheet.equal (term_over now xs t) (term_over now xs u)
    pair-so-far t u h =
        let k : (all settled_at (term_occurrences t) && all settled_at (term_occurrences u)) ≡ true = sym (lists.all_append settled_at (term_occurrences t) (term_occurrences u)) ∙ h in
        ap (λ (v : sheet.Term). sheet.equal v (term_over all-of-it xs u)) (term-so-far t (and_left (all settled_at (term_occurrences t)) (all settled_at (term_occurrences u)) k))
        ∙ ap (sheet.equal (term_over now xs t)) (term-so-far u (and_right (all settled_at (term_occurrences t)) (all settled_at (term_occurrences u)) k))

    atom-so-far : (a : NameAtom) → all settled_at (atom_occurrences a) ≡ true → blank_atom (atom_over all-of-it xs a) ≡ blank_atom (atom_over now xs a)
    atom-so-far (name_holds p ts) h = ap (sheet.holds 0) (terms-so-far ts h)
    atom-so-far (name_equal t u) h = ap blank_atom (pair-so-far t u h)

    literals-so-far : (c : NameClause) → all settled_at (clause_occurrences c) ≡ true → skeleton (concat_map (literal_as_written all-of-it xs) c) ≡ skeleton (concat_map (literal_as_written now xs) c)
    literals-so-far [] h = refl
    literals-so-far (l ∷ c) h =
        let k : (all settled_at (literal_occurrences l) && all settled_at (clause_occurrences c)) ≡ true = sym (lists.all_append settled_at (literal_occurrences l) (clause_occurrences c)) ∙ h in
        go l (and_left (all settled_at (literal_occurrences l)) (all settled_at (clause_occurrences c)) k) (literals-so-far c (and_right (all settled_at (literal_occurrences l)) (all settled_at (clause_occurrences c)) k))
      where
        go : (l : NameLiteral) → all settled_at (literal_occurrences l) ≡ true → skeleton (concat_map (literal_as_written all-of-it xs) c) ≡ skeleton (concat_map (literal_as_written now xs) c)
            → skeleton (literal_as_written all-of-it xs l ++ concat_map (literal_as_written all-of-it xs) c) ≡ skeleton (literal_as_written now xs l ++ concat_map (literal_as_written now xs) c)
        go never h ih = ih
        go (plain a) h ih =
            let e : blank_atom (atom_over all-of-it xs a) ≡ blank_atom (atom_over now xs a) = atom-so-far a h in
            ap (λ (b : sheet.Atom). record { sign = true; atom = b } ∷ skeleton (concat_map (literal_as_written all-of-it xs) c)) e ∙ ap (λ (d : sheet.Clause). record { sign = true; atom = blank_atom (atom_over now xs a) } ∷ d) ih
        go (tilded a) h ih =
            let e : blank_atom (atom_over all-of-it xs a) ≡ blank_atom (atom_over now xs a) = atom-so-far a h in
            ap (λ (b : sheet.Atom). record { sign = false; atom = b } ∷ skeleton (concat_map (literal_as_written all-of-it xs) c)) e ∙ ap (λ (d : sheet.Clause). record { sign = false; atom = blank_atom (atom_over now xs a) } ∷ d) ih
        go (unequal t u) h ih =
            let e : sheet.equal (term_over all-of-it xs t) (term_over all-of-it xs u) ≡ sheet.equal (term_over now xs t) (term_over now xs u) = pair-so-far t u h in
            ap (λ (b : sheet.Atom). record { sign = false; atom = b } ∷ skeleton (concat_map (literal_as_written all-of-it xs) c)) e
            ∙ ap (λ (d : sheet.Clause). record { sign = false; atom = sheet.equal (term_over now xs t) (term_over now xs u) } ∷ d) ih

  -- and a clause without faults has the same limits
  pub limits-so-far : (c : NameClause) → all settled_at (clause_occurrences c) ≡ true
      → within_limits (words.clause_words (clause_over all-of-it c)) (clause_over all-of-it c) ≡ within_limits (words.clause_words (clause_over now c)) (clause_over now c)
  unfolding clause_over
  limits-so-far c h = limits-same (clause_over all-of-it c) (clause_over now c) (literals-so-far (variables_of c) c h)
