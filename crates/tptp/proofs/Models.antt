-- A clause over names is true exactly if the clause of the sheet that it becomes is.
use Prim.Native.Nat.{ℕ, zero, ◌<◌}
use mathlib.Core.Path.{◌≡◌, refl, sym, ap, ◌∙◌}
use mathlib.Core.Logic.{◌↔◌}
use mathlib.Core.Bool.{Bool, true, false, cond, not, ◌&&◌, ◌||◌, beq, false≢true}
use mathlib.Core.Option.{Option}
use mathlib.Core.List.{List, [], ◌∷◌, ◌++◌, map}
use lib.Dec.{eqb}
use lib.ListN.{get_or}
use Rattle.theory.specs.Lists.{any, all, same, select, concat_map, place_that, or_zero}
use Rattle.theory.specs.Syntax.{Signature}
use Rattle.theory.specs.Truth.{Interpretation}
use Rattle.theory.specs.Truth as sheet
use Rattle.theory.specs.Claims.Truth as sheets
use Rattle.theory.specs.Cells.{interpretation, is_model}
use Rattle.theory.proofs.Tests.{eqb-true, eqb-of-≡, and_left, and_right, and-join, or_left, or_right, beq-true, beq-not, both_false}
use Rattle.theory.proofs.Lists.{all_append, any_append, same_refl, same_true}
use Rattle.theory.proofs.Finding.{place_that-some, any→place_that}
use Rattle.theory.proofs.Truth.{truth}
use Rattle.tptp.specs.Trees.{NameTerm, name_variable, name_apply, NameTerms, no_terms, term_and, NameAtom, name_holds, name_equal, NameLiteral, never, plain, tilded, unequal, NameClause}
use Rattle.tptp.specs.Truth.{Meaning, NameAssignment, name_value, name_values, name_atom_true, name_literal_true, name_clause_true, NamesValid, AllNamesValid}
use Rattle.tptp.specs.Symbols.{Occurrence, of_variable, of_symbol, term_occurrences, terms_occurrences, atom_occurrences, literal_occurrences, clause_occurrences, names, first_of_name, letter_of_name, variables_of, signature_of, term_over, terms_over, atom_over, literal_as_written, clause_over, problem_of}
use Rattle.tptp.specs.Claims.Models.{meaning}

-- The first elements of each name have every name.
module _ {A : Type 0} (name : A → List ℕ) where
  abbrev has_name : List ℕ → A → Bool
  has_name w x = same w (name x)

  -- an element of another name than x is kept
  kept : (w : List ℕ) (x : A) (ys : List A) → same w (name x) ≡ false → any (has_name w) ys ≡ true → any (has_name w) (select (λ y. not (same (name x) (name y))) ys) ≡ true
  kept w x [] n h = absurd (false≢true h)
  kept w x (y ∷ ys) n h = go (same w (name y)) refl (same (name x) (name y)) refl h (λ k. kept w x ys n k)
    where
      rest : List A
      rest = select (λ y. not (same (name x) (name y))) ys

      go : (b : Bool) → same w (name y) ≡ b → (c : Bool) → same (name x) (name y) ≡ c → (b || any (has_name w) ys) ≡ true → (any (has_name w) ys ≡ true → any (has_name w) rest ≡ true)
          → any (has_name w) (cond (not c) (y ∷ rest) rest) ≡ true
      go true e true f k ih =
          absurd (both_false (ap (same w) (same_true (name x) (name y) f ∙ sym (same_true w (name y) e)) ∙ same_refl w) n)
      go true e false f k ih = or_left (same w (name y)) (any (has_name w) rest) e
      go false e true f k ih = ih k
      go false e false f k ih = or_right (same w (name y)) (any (has_name w) rest) (ih k)

  pub first-has : (w : List ℕ) (xs : List A) → any (has_name w) xs ≡ true → any (has_name w) (first_of_name name xs) ≡ true
  first-has w [] h = absurd (false≢true h)
  first-has w (x ∷ xs) h = go (same w (name x)) refl h (λ k. first-has w xs k)
    where
      go : (b : Bool) → same w (name x) ≡ b → (b || any (has_name w) xs) ≡ true → (any (has_name w) xs ≡ true → any (has_name w) (first_of_name name xs) ≡ true)
          → any (has_name w) (first_of_name name (x ∷ xs)) ≡ true
      go true e k ih = or_left (same w (name x)) (any (has_name w) (select (λ y. not (same (name x) (name y))) (first_of_name name xs))) e
      go false e k ih = or_right (same w (name x)) (any (has_name w) (select (λ y. not (same (name x) (name y))) (first_of_name name xs))) (kept w x (first_of_name name xs) e (ih k))

-- a variable of the list stands at its letter's place
letter-place : (xs : List (List ℕ)) (x : List ℕ) → any (same x) xs ≡ true → get_or xs (letter_of_name xs x) [] ≡ x
letter-place xs x h =
    let r = any→place_that (same x) xs h in
    let s = place_that-some (same x) xs r.0 [] r.1 in
    ap (λ (o : Option ℕ). get_or xs (or_zero o) []) r.1 ∙ sym (same_true x (get_or xs r.0 []) s.1)

or_right_false : (q : Bool) → (q || false) ≡ q
or_right_false true = refl
or_right_false false = refl

module _ (I : Interpretation) (g : Signature) (xs : List (List ℕ)) (τ : sheet.Assignment) (ρ : NameAssignment) where
  abbrev M : Meaning
  M = meaning I g

  -- the two assignments agree at a variable
  abbrev agrees : Occurrence → Bool
  agrees (of_variable x) = eqb (τ (letter_of_name xs x.bytes)) (ρ x.bytes)
  agrees (of_symbol f k n) = true

  agree-all : (os : List Occurrence) → ((x : List ℕ) → any (same x) (concat_map names os) ≡ true → τ (letter_of_name xs x) ≡ ρ x) → all agrees os ≡ true
  agree-all [] h = refl
  agree-all (of_variable x ∷ os) h =
      and-join (agrees (of_variable x)) (all agrees os)
      (eqb-of-≡ (τ (letter_of_name xs x.bytes)) (ρ x.bytes) (h x.bytes (or_left (same x.bytes x.bytes) (any (same x.bytes) (concat_map names os)) (same_refl x.bytes))))
      (agree-all os (λ y e. h y (or_right (same y x.bytes) (any (same y) (concat_map names os)) e)))
  agree-all (of_symbol f k n ∷ os) h = agree-all os h

  mutual
    value-over : (t : NameTerm) → all agrees (term_occurrences t) ≡ true → sheet.value I τ (term_over g xs t) ≡ name_value M ρ t
    value-over (name_variable x) h = eqb-true (τ (letter_of_name xs x.bytes)) (ρ x.bytes) (and_left (agrees (of_variable x)) true h)
    value-over (name_apply f ts) h = ap (M.function f.bytes) (values-over ts h)

    values-over : (ts : NameTerms) → all agrees (terms_occurrences ts) ≡ true → sheet.values I τ (terms_over g xs ts) ≡ name_values M ρ ts
    values-over no_terms h = refl
    values-over (term_and t ts) h =
        let k : (all agrees (term_occurrences t) && all agrees (terms_occurrences ts)) ≡ true = sym (all_append agrees (term_occurrences t) (terms_occurrences ts)) ∙ h in
        let p : sheet.value I τ (term_over g xs t) ≡ name_value M ρ t = value-over t (and_left (all agrees (term_occurrences t)) (all agrees (terms_occurrences ts)) k) in
        let q : sheet.values I τ (terms_over g xs ts) ≡ name_values M ρ ts = values-over ts (and_right (all agrees (term_occurrences t)) (all agrees (terms_occurrences ts)) k) in
        cc

  equal_over : (t u : NameTerm) → all agrees (term_occurrences t ++ term_occurrences u) ≡ true → eqb (sheet.value I τ (term_over g xs t)) (sheet.value I τ (term_over g xs u)) ≡ eqb (name_value M ρ t) (name_value M ρ u)
  equal_over t u h =
      let k : (all agrees (term_occurrences t) && all agrees (term_occurrences u)) ≡ true = sym (all_append agrees (term_occurrences t) (term_occurrences u)) ∙ h in
      ap (λ (n : ℕ). eqb n (sheet.value I τ (term_over g xs u))) (value-over t (and_left (all agrees (term_occurrences t)) (all agrees (term_occurrences u)) k))
      ∙ ap (eqb (name_value M ρ t)) (value-over u (and_right (all agrees (term_occurrences t)) (all agrees (term_occurrences u)) k))

  atom-over : (a : NameAtom) → all agrees (atom_occurrences a) ≡ true → sheet.atom_true I τ (atom_over g xs a) ≡ name_atom_true M ρ a
  atom-over (name_holds p ts) h = ap (M.relation p.bytes) (values-over ts h)
  atom-over (name_equal t u) h = equal_over t u h

  literal-over : (l : NameLiteral) (b : Bool) → all agrees (literal_occurrences l) ≡ true → (any (sheet.literal_true I τ) (literal_as_written g xs l) || b) ≡ (name_literal_true M ρ l || b)
  literal-over never b h = refl
  literal-over (plain a) b h = ap (λ (q : Bool). q || b) (or_right_false (beq true (sheet.atom_true I τ (atom_over g xs a))) ∙ beq-true (sheet.atom_true I τ (atom_over g xs a)) ∙ atom-over a h)
  literal-over (tilded a) b h = ap (λ (q : Bool). q || b) (or_right_false (beq false (sheet.atom_true I τ (atom_over g xs a))) ∙ beq-not (sheet.atom_true I τ (atom_over g xs a)) ∙ ap not (atom-over a h))
  literal-over (unequal t u) b h =
      ap (λ (q : Bool). q || b)
      (or_right_false (beq false (eqb (sheet.value I τ (term_over g xs t)) (sheet.value I τ (term_over g xs u))))
      ∙ beq-not (eqb (sheet.value I τ (term_over g xs t)) (sheet.value I τ (term_over g xs u))) ∙ ap not (equal_over t u h))

  literals-over : (c : NameClause) → all agrees (clause_occurrences c) ≡ true → any (sheet.literal_true I τ) (concat_map (literal_as_written g xs) c) ≡ name_clause_true M ρ c
  literals-over [] h = refl
  literals-over (l ∷ c) h =
      let k : (all agrees (literal_occurrences l) && all agrees (clause_occurrences c)) ≡ true = sym (all_append agrees (literal_occurrences l) (clause_occurrences c)) ∙ h in
      any_append (sheet.literal_true I τ) (literal_as_written g xs l) (concat_map (literal_as_written g xs) c)
      ∙ ap (λ (b : Bool). any (sheet.literal_true I τ) (literal_as_written g xs l) || b) (literals-over c (and_right (all agrees (literal_occurrences l)) (all agrees (clause_occurrences c)) k))
      ∙ literal-over l (name_clause_true M ρ c) (and_left (all agrees (literal_occurrences l)) (all agrees (clause_occurrences c)) k)

module _ (I : Interpretation) (g : Signature) (s : ℕ) where
  -- every assignment of letters is one of names, and the other way round
  valid→ : (c : NameClause) → sheets.Valid I s (clause_over g c) → NamesValid (meaning I g) s c
  unfolding clause_over variables_of
  valid→ c h ρ below =
      let xs : List (List ℕ) = variables_of c in
      let τ : sheet.Assignment = λ i. ρ (get_or xs i []) in
      sym (literals-over I g xs τ ρ c
      (agree-all I g xs τ ρ (clause_occurrences c) (λ x e. ap ρ (letter-place xs x (first-has (λ (y : List ℕ). y) x (concat_map names (clause_occurrences c)) e)))))
      ∙ h τ (λ i. below (get_or xs i []))

  valid← : (c : NameClause) → NamesValid (meaning I g) s c → sheets.Valid I s (clause_over g c)
  unfolding clause_over
  valid← c h τ below =
      let xs : List (List ℕ) = variables_of c in
      let ρ : NameAssignment = λ x. τ (letter_of_name xs x) in
      literals-over I g xs τ ρ c (agree-all I g xs τ ρ (clause_occurrences c) (λ x e. refl)) ∙ h ρ (λ x. below (letter_of_name xs x))

  all-valid→ : (cs : List NameClause) → sheets.AllValid I s (map (clause_over g) cs) → AllNamesValid (meaning I g) s cs
  all-valid→ [] h = tt
  all-valid→ (c ∷ cs) h = (valid→ c h.0, all-valid→ cs h.1)

  all-valid← : (cs : List NameClause) → AllNamesValid (meaning I g) s cs → sheets.AllValid I s (map (clause_over g) cs)
  all-valid← [] h = tt
  all-valid← (c ∷ cs) h = (valid← c h.0, all-valid← cs h.1)

pub same-models : (cs : List NameClause) (s : ℕ) (vs : List ℕ) → zero < s
    → (is_model s (problem_of cs).symbols (problem_of cs).clauses vs ≡ true) ↔ AllNamesValid (meaning (interpretation s (problem_of cs).symbols vs) (problem_of cs).symbols) s cs
unfolding problem_of
same-models cs s vs h =
    let g : Signature = signature_of cs in
    let I : Interpretation = interpretation s g vs in
    let m = truth.model s g (map (clause_over g) cs) vs h in
    (λ e. all-valid→ I g s cs (m.0 e), λ v. m.1 (all-valid← I g s cs v))
