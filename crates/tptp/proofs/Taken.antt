-- A TPTP text without faults is left as a sheet that is read as the problem of its clauses.
use Prim.Native.Nat.{ℕ, suc, ◌+◌, ◌≤◌, ◌<◌}
use mathlib.Core.Path.{◌≡◌, refl, sym, ap, ◌∙◌}
use mathlib.Core.Logic.{◌⊎◌, inl, inr, ◌↔◌}
use mathlib.Core.Bool.{Bool, true, false, cond, not, ◌&&◌, ◌||◌, false≢true}
use mathlib.Core.Option.{Option}
use mathlib.Core.List.{List, [], ◌∷◌, ◌++◌, map}
use native.Mathlib.Omega.{arith}
use lib.Dec.{eqb, ltb, leb}
use lib.ListN.{length, length-map}
use Rattle.theory.specs.Lists.{all, same, concat_map, or_zero}
use Rattle.theory.specs.Syntax.{Kind, function, predicate, is_function, is_predicate, Symbol, Signature, no_symbol, symbol_at, function_of, predicate_of, functions, predicates}
use Rattle.theory.specs.Syntax as sheet
use Rattle.theory.specs.Grammar as words
use Rattle.theory.specs.Problem.{is_name, is_named, place_of_name, within_limits, Problem, read_problem}
use Rattle.theory.proofs.PlacedReading.{placed-problem, placed-case}
use Rattle.theory.proofs.Tests.{true-or-false, ltb-true, ltb-false, ltb-of-<, leb-false, leb-of-≤, and_left, and_right, and-join, or-false-left, or-false-right, beq-true, beq-not, false_of_not}
use Rattle.theory.proofs.Lists.{all_append, all_map, all-concat_map, all-and, all-imply, all-every, all-at}
use Rattle.theory.proofs.Finding.{any→place_that}
use Rattle.theory.proofs.Names.{named-place}
use Rattle.theory.specs.Cells.{interpretation, is_model}
use Rattle.theory.specs.CaseText.{Case, read_case}
use Rattle.theory.specs.Operations.{judge_answer}
use Rattle.theory.specs.Refusals as base
use Rattle.theory.specs.Refusals.{answer, refused}
use Rattle.theory.specs.WellFormed.{symbol_ok, is_known_letter, clause_accepted, WellFormed, NamesDiffer}
use Rattle.theory.proofs.Answers.{bind-step, answer-inj}
use Rattle.theory.proofs.CaseText.{read-exactly}
use Rattle.tptp.specs.Trees.{Name, NameTerm, name_variable, name_apply, NameTerms, no_terms, term_and, NameAtom, name_holds, name_equal, never, plain, tilded, unequal, NameClause, Statement}
use Rattle.tptp.specs.Symbols.{Occurrence, of_variable, of_symbol, term_count, term_occurrences, terms_occurrences, atom_occurrences, clause_occurrences, declares, declared, first_of_name, signature_of, variables_of, letter_of_name, symbol_of_name, term_over, terms_over, atom_over, literal_as_written, clause_over, problem_of}
use Rattle.theory.specs.SheetText.{sheet_text}
use Rattle.tptp.specs.Tptp.{File, read_file, clauses_of_file, Fault, fault_if, same_symbol_kind, place_in_kind, occurrence_faults, faults_from, foreign_fault, faults, sheet_in, tptp_text}
use Rattle.tptp.specs.Truth.{AllNamesValid}
use Rattle.tptp.specs.Claims.Models.{meaning}
use Rattle.tptp.specs.Claims.Models as claims
use Rattle.theory.proofs.SheetWords.{place-of-name}
use Rattle.theory.proofs.SheetRead.{select-all, select-none, function-only, predicate-only, sheet-read}
use Rattle.tptp.proofs.Models.{first-has, same-models}
use Rattle.tptp.proofs.Fresh.{select-keeps, first-keeps, select-passes, Fresh, select-fresh, first-fresh, parts-fresh, fresh-differ, parts-have, self-named}

-- no faults: each part has none
empty_left : (xs ys : List Fault) → xs ++ ys ≡ [] → xs ≡ []
empty_left [] ys e = refl
empty_left (x ∷ xs) ys e = let z : ◌≡◌ {A = ℕ} 0 1 = cc in absurd (omega arith)

empty_right : (xs ys : List Fault) → xs ++ ys ≡ [] → ys ≡ []
empty_right [] ys e = e
empty_right (x ∷ xs) ys e = let z : ◌≡◌ {A = ℕ} 0 1 = cc in absurd (omega arith)

no-fault : (b : Bool) (n i : ℕ) → fault_if b n i ≡ [] → b ≡ false
no-fault true n i e = let z : ◌≡◌ {A = ℕ} 0 1 = cc in absurd (omega arith)
no-fault false n i e = refl

not-false : (b : Bool) → not b ≡ false → b ≡ true
not-false true e = refl
not-false false e = absurd (false≢true (sym e))

count-over : (g : Signature) (xs : List (List ℕ)) (ts : NameTerms) → sheet.count (terms_over g xs ts) ≡ term_count ts
count-over g xs no_terms = refl
count-over g xs (term_and t ts) = ap suc (count-over g xs ts)

both_ok : (p : Bool) (us : List words.Word) (q : Bool) (vs : List words.Word) → (p && all is_known_letter us) ≡ true → (q && all is_known_letter vs) ≡ true → ((p && q) && all is_known_letter (us ++ vs)) ≡ true
both_ok p us q vs a b =
    and-join (p && q) (all is_known_letter (us ++ vs)) (and-join p q (and_left p (all is_known_letter us) a) (and_left q (all is_known_letter vs) b))
    (all_append is_known_letter us vs ∙ and-join (all is_known_letter us) (all is_known_letter vs) (and_right p (all is_known_letter us) a) (and_right q (all is_known_letter vs) b))

module _ (g : Signature) where
  -- an occurrence without faults
  abbrev pub sound : List (List ℕ) → Occurrence → Bool
  sound xs (of_variable x) = ltb (letter_of_name xs x.bytes) 8
  sound xs (of_symbol f k n) = same_symbol_kind k (symbol_at g (symbol_of_name g f.bytes)).kind && eqb n (symbol_at g (symbol_of_name g f.bytes)).arity

  -- a symbol within the limits
  abbrev pub limited : Symbol → Bool
  limited f = symbol_ok f && ltb (place_in_kind g f.kind f.name) 12

  abbrev pub clean : List (List ℕ) → List Occurrence → Bool
  clean xs os = all (sound xs) os && all limited (concat_map declares os)

  pub occurrences-clean : (xs : List (List ℕ)) (os : List Occurrence) → concat_map (occurrence_faults g xs) os ≡ [] → clean xs os ≡ true
  occurrences-clean xs [] e = refl
  occurrences-clean xs (of_variable x ∷ os) e =
      let one : List Fault = occurrence_faults g xs (of_variable x) in
      let rest : List Fault = concat_map (occurrence_faults g xs) os in
      let ih : clean xs os ≡ true = occurrences-clean xs os (empty_right one rest e) in
      let lt : letter_of_name xs x.bytes < 8 = leb-false 8 (letter_of_name xs x.bytes) (no-fault (leb 8 (letter_of_name xs x.bytes)) 17 x.place (empty_left one rest e)) in
      and-join (sound xs (of_variable x) && all (sound xs) os) (all limited (concat_map declares os))
      (and-join (sound xs (of_variable x)) (all (sound xs) os) (ltb-of-< (letter_of_name xs x.bytes) 8 lt) (and_left (all (sound xs) os) (all limited (concat_map declares os)) ih))
      (and_right (all (sound xs) os) (all limited (concat_map declares os)) ih)
  occurrences-clean xs (of_symbol f k n ∷ os) e =
      let h : Symbol = symbol_at g (symbol_of_name g f.bytes) in
      let w : List ℕ = f.bytes in
      let first : List Fault = fault_if (not (same_symbol_kind k h.kind) || not (eqb n h.arity)) 16 f.place in
      let second : List Fault = fault_if (ltb 3 n || not (is_name w) || leb 12 (place_in_kind g k w)) 17 f.place in
      let rest : List Fault = concat_map (occurrence_faults g xs) os in
      let ih : clean xs os ≡ true = occurrences-clean xs os (empty_right (first ++ second) rest e) in
      let both : first ++ second ≡ [] = empty_left (first ++ second) rest e in
      let no16 : (not (same_symbol_kind k h.kind) || not (eqb n h.arity)) ≡ false = no-fault (not (same_symbol_kind k h.kind) || not (eqb n h.arity)) 16 f.place (empty_left first second both) in
      let no17 : (ltb 3 n || not (is_name w) || leb 12 (place_in_kind g k w)) ≡ false = no-fault (ltb 3 n || not (is_name w) || leb 12 (place_in_kind g k w)) 17 f.place (empty_right first second both) in
      let no17₁ : (ltb 3 n || not (is_name w)) ≡ false = or-false-left (ltb 3 n || not (is_name w)) (leb 12 (place_in_kind g k w)) no17 in
      let low : place_in_kind g k w < 12 = leb-false 12 (place_in_kind g k w) (or-false-right (ltb 3 n || not (is_name w)) (leb 12 (place_in_kind g k w)) no17) in
      let self : Symbol = record { kind = k; name = w; arity = n; origin = sheet.declared } in
      let ok : limited self ≡ true =
      and-join (leb n 3 && is_name w) (ltb (place_in_kind g k w) 12)
      (and-join (leb n 3) (is_name w) (leb-of-≤ n 3 (ltb-false 3 n (or-false-left (ltb 3 n) (not (is_name w)) no17₁))) (not-false (is_name w) (or-false-right (ltb 3 n) (not (is_name w)) no17₁)))
      (ltb-of-< (place_in_kind g k w) 12 low) in
      let good : sound xs (of_symbol f k n) ≡ true =
      and-join (same_symbol_kind k h.kind) (eqb n h.arity) (not-false (same_symbol_kind k h.kind) (or-false-left (not (same_symbol_kind k h.kind)) (not (eqb n h.arity)) no16))
      (not-false (eqb n h.arity) (or-false-right (not (same_symbol_kind k h.kind)) (not (eqb n h.arity)) no16)) in
      and-join (sound xs (of_symbol f k n) && all (sound xs) os) (limited self && all limited (concat_map declares os))
      (and-join (sound xs (of_symbol f k n)) (all (sound xs) os) good (and_left (all (sound xs) os) (all limited (concat_map declares os)) ih))
      (and-join (limited self) (all limited (concat_map declares os)) ok (and_right (all (sound xs) os) (all limited (concat_map declares os)) ih))

  -- a clause without faults
  abbrev clean_clause : NameClause → Bool
  clean_clause c = clean (variables_of c) (clause_occurrences c) && within_limits (words.clause_words (clause_over g c)) (clause_over g c)

  statements-clean : (ss : List Statement) (i : ℕ) → i ≤ 64 → faults_from g i ss ≡ [] → (i + length ss ≤ 64) × (all clean_clause (map (λ (s : Statement). s.clause) ss) ≡ true)
  statements-clean [] i h e = (omega arith, refl)
  statements-clean (s ∷ ss) i h e =
      let c : sheet.Clause = clause_over g s.clause in
      let a : List Fault = fault_if (leb 64 i) 17 s.start in
      let b : List Fault = concat_map (occurrence_faults g (variables_of s.clause)) (clause_occurrences s.clause) in
      let d : List Fault = fault_if (not (within_limits (words.clause_words c) c)) 17 s.stop in
      let rest : List Fault = faults_from g (suc i) ss in
      let own : a ++ (b ++ d) ≡ [] = empty_left (a ++ (b ++ d)) rest e in
      let lt : i < 64 = leb-false 64 i (no-fault (leb 64 i) 17 s.start (empty_left a (b ++ d) own)) in
      let ih = statements-clean ss (suc i) lt (empty_right (a ++ (b ++ d)) rest e) in (
        omega (arith, ih.0),
        and-join (clean_clause s.clause) (all clean_clause (map (λ (s : Statement). s.clause) ss))
            (and-join (clean (variables_of s.clause) (clause_occurrences s.clause)) (within_limits (words.clause_words c) c)
            (occurrences-clean (variables_of s.clause) (clause_occurrences s.clause) (empty_left b d (empty_right a (b ++ d) own)))
            (not-false (within_limits (words.clause_words c) c) (no-fault (not (within_limits (words.clause_words c) c)) 17 s.stop (empty_right b d (empty_right a (b ++ d) own))))) ih.1,
      )

  -- a symbol that is named stands in the signature as it occurs
  abbrev pub named : Symbol → Bool
  named f = is_named f.name g

  abbrev standing : List (List ℕ) → Occurrence → Bool
  standing xs (of_variable x) = ltb (letter_of_name xs x.bytes) 8
  standing xs (of_symbol f k n) =
      ltb (symbol_of_name g f.bytes) (length g) && (same_symbol_kind k (symbol_at g (symbol_of_name g f.bytes)).kind && eqb n (symbol_at g (symbol_of_name g f.bytes)).arity)

  place-below : (w : List ℕ) → is_named w g ≡ true → ltb (symbol_of_name g w) (length g) ≡ true
  place-below w h =
      let r = any→place_that (λ (f : Symbol). same w f.name) g h in
      ap (λ (o : Option ℕ). ltb (or_zero o) (length g)) r.1 ∙ ltb-of-< r.0 (length g) (named-place g w r.0 r.1).0

  all-standing : (xs : List (List ℕ)) (os : List Occurrence) → all (sound xs) os ≡ true → all named (concat_map declares os) ≡ true → all (standing xs) os ≡ true
  all-standing xs [] h k = refl
  all-standing xs (of_variable x ∷ os) h k =
      and-join (standing xs (of_variable x)) (all (standing xs) os) (and_left (sound xs (of_variable x)) (all (sound xs) os) h) (all-standing xs os (and_right (sound xs (of_variable x)) (all (sound xs) os) h) k)
  all-standing xs (of_symbol f l n ∷ os) h k =
      let nm : Bool = is_named f.bytes g in
      and-join (standing xs (of_symbol f l n)) (all (standing xs) os)
      (and-join (ltb (symbol_of_name g f.bytes) (length g)) (sound xs (of_symbol f l n)) (place-below f.bytes (and_left nm (all named (concat_map declares os)) k))
      (and_left (sound xs (of_symbol f l n)) (all (sound xs) os) h))
      (all-standing xs os (and_right (sound xs (of_symbol f l n)) (all (sound xs) os) h) (and_right nm (all named (concat_map declares os)) k))

  function-standing : (xs : List (List ℕ)) (f : Name) (n m : ℕ) → m ≡ n → standing xs (of_symbol f function n) ≡ true → function_of g (symbol_of_name g f.bytes) m ≡ true
  function-standing xs f n m q h =
      let i : ℕ = symbol_of_name g f.bytes in
      let h₂ : (same_symbol_kind function (symbol_at g i).kind && eqb n (symbol_at g i).arity) ≡ true = and_right (ltb i (length g)) (same_symbol_kind function (symbol_at g i).kind && eqb n (symbol_at g i).arity) h in
      and-join (ltb i (length g) && is_function (symbol_at g i).kind) (eqb m (symbol_at g i).arity)
      (and-join (ltb i (length g)) (is_function (symbol_at g i).kind) (and_left (ltb i (length g)) (same_symbol_kind function (symbol_at g i).kind && eqb n (symbol_at g i).arity) h)
      (sym (beq-true (is_function (symbol_at g i).kind)) ∙ and_left (same_symbol_kind function (symbol_at g i).kind) (eqb n (symbol_at g i).arity) h₂))
      (ap (λ (j : ℕ). eqb j (symbol_at g i).arity) q ∙ and_right (same_symbol_kind function (symbol_at g i).kind) (eqb n (symbol_at g i).arity) h₂)

  not-function : (k : Kind) → not (is_function k) ≡ true → is_predicate k ≡ true
  not-function function h = absurd (false≢true h)
  not-function predicate h = refl

  predicate-standing : (xs : List (List ℕ)) (f : Name) (n m : ℕ) → m ≡ n → standing xs (of_symbol f predicate n) ≡ true → predicate_of g (symbol_of_name g f.bytes) m ≡ true
  predicate-standing xs f n m q h =
      let i : ℕ = symbol_of_name g f.bytes in
      let h₂ : (same_symbol_kind predicate (symbol_at g i).kind && eqb n (symbol_at g i).arity) ≡ true = and_right (ltb i (length g)) (same_symbol_kind predicate (symbol_at g i).kind && eqb n (symbol_at g i).arity) h in
      and-join (ltb i (length g) && is_predicate (symbol_at g i).kind) (eqb m (symbol_at g i).arity)
      (and-join (ltb i (length g)) (is_predicate (symbol_at g i).kind) (and_left (ltb i (length g)) (same_symbol_kind predicate (symbol_at g i).kind && eqb n (symbol_at g i).arity) h)
      (not-function (symbol_at g i).kind (sym (beq-not (is_function (symbol_at g i).kind)) ∙ and_left (same_symbol_kind predicate (symbol_at g i).kind) (eqb n (symbol_at g i).arity) h₂)))
      (ap (λ (j : ℕ). eqb j (symbol_at g i).arity) q ∙ and_right (same_symbol_kind predicate (symbol_at g i).kind) (eqb n (symbol_at g i).arity) h₂)

  module _ (xs : List (List ℕ)) where
    abbrev st : Occurrence → Bool
    st = standing xs

    mutual
      term-ok : (t : NameTerm) → all st (term_occurrences t) ≡ true → (sheet.term_ok g (term_over g xs t) && all is_known_letter (words.term_words (term_over g xs t))) ≡ true
      term-ok (name_variable x) h = and-join (ltb (letter_of_name xs x.bytes) 8) true (and_left (st (of_variable x)) true h) refl
      term-ok (name_apply f ts) h =
          let ih : (sheet.terms_ok g (terms_over g xs ts) && all is_known_letter (words.terms_words (terms_over g xs ts))) ≡ true = terms-ok ts (and_right (st (of_symbol f function (term_count ts))) (all st (terms_occurrences ts)) h) in
          let d : function_of g (symbol_of_name g f.bytes) (sheet.count (terms_over g xs ts)) ≡ true =
          function-standing xs f (term_count ts) (sheet.count (terms_over g xs ts)) (count-over g xs ts) (and_left (st (of_symbol f function (term_count ts))) (all st (terms_occurrences ts)) h) in
          and-join (function_of g (symbol_of_name g f.bytes) (sheet.count (terms_over g xs ts)) && sheet.terms_ok g (terms_over g xs ts)) (all is_known_letter (words.terms_words (terms_over g xs ts)))
          (and-join (function_of g (symbol_of_name g f.bytes) (sheet.count (terms_over g xs ts))) (sheet.terms_ok g (terms_over g xs ts)) d
          (and_left (sheet.terms_ok g (terms_over g xs ts)) (all is_known_letter (words.terms_words (terms_over g xs ts))) ih))
          (and_right (sheet.terms_ok g (terms_over g xs ts)) (all is_known_letter (words.terms_words (terms_over g xs ts))) ih)

      terms-ok : (ts : NameTerms) → all st (terms_occurrences ts) ≡ true → (sheet.terms_ok g (terms_over g xs ts) && all is_known_letter (words.terms_words (terms_over g xs ts))) ≡ true
      terms-ok no_terms h = refl
      terms-ok (term_and t ts) h =
          let k : (all st (term_occurrences t) && all st (terms_occurrences ts)) ≡ true = sym (all_append st (term_occurrences t) (terms_occurrences ts)) ∙ h in
          let a = term-ok t (and_left (all st (term_occurrences t)) (all st (terms_occurrences ts)) k) in
          let b = terms-ok ts (and_right (all st (term_occurrences t)) (all st (terms_occurrences ts)) k) in
          both_ok (sheet.term_ok g (term_over g xs t)) (words.term_words (term_over g xs t)) (sheet.terms_ok g (terms_over g xs ts)) (words.terms_words (terms_over g xs ts)) a b

    pair_ok : (t u : NameTerm) → all st (term_occurrences t ++ term_occurrences u) ≡ true
        → ((sheet.term_ok g (term_over g xs t) && sheet.term_ok g (term_over g xs u)) && all is_known_letter (words.term_words (term_over g xs t) ++ words.term_words (term_over g xs u))) ≡ true
    pair_ok t u h =
        let k : (all st (term_occurrences t) && all st (term_occurrences u)) ≡ true = sym (all_append st (term_occurrences t) (term_occurrences u)) ∙ h in
        both_ok (sheet.term_ok g (term_over g xs t)) (words.term_words (term_over g xs t)) (sheet.term_ok g (term_over g xs u)) (words.term_words (term_over g xs u))
        (term-ok t (and_left (all st (term_occurrences t)) (all st (term_occurrences u)) k)) (term-ok u (and_right (all st (term_occurrences t)) (all st (term_occurrences u)) k))

    atom-ok : (a : NameAtom) → all st (atom_occurrences a) ≡ true → (sheet.atom_ok g (atom_over g xs a) && all is_known_letter (words.atom_words (atom_over g xs a))) ≡ true
    atom-ok (name_equal t u) h = pair_ok t u h
    atom-ok (name_holds p ts) h =
        let ih : (sheet.terms_ok g (terms_over g xs ts) && all is_known_letter (words.terms_words (terms_over g xs ts))) ≡ true = terms-ok ts (and_right (st (of_symbol p predicate (term_count ts))) (all st (terms_occurrences ts)) h) in
        let d : predicate_of g (symbol_of_name g p.bytes) (sheet.count (terms_over g xs ts)) ≡ true =
        predicate-standing xs p (term_count ts) (sheet.count (terms_over g xs ts)) (count-over g xs ts) (and_left (st (of_symbol p predicate (term_count ts))) (all st (terms_occurrences ts)) h) in
        and-join (predicate_of g (symbol_of_name g p.bytes) (sheet.count (terms_over g xs ts)) && sheet.terms_ok g (terms_over g xs ts)) (all is_known_letter (words.terms_words (terms_over g xs ts)))
        (and-join (predicate_of g (symbol_of_name g p.bytes) (sheet.count (terms_over g xs ts))) (sheet.terms_ok g (terms_over g xs ts)) d
        (and_left (sheet.terms_ok g (terms_over g xs ts)) (all is_known_letter (words.terms_words (terms_over g xs ts))) ih))
        (and_right (sheet.terms_ok g (terms_over g xs ts)) (all is_known_letter (words.terms_words (terms_over g xs ts))) ih)

    -- a clause's literals one after the other
    abbrev fine : sheet.Clause → Bool
    fine c = sheet.clause_ok g c && all is_known_letter (words.clause_words c)

    one-fine : (b : Bool) (a : sheet.Atom) (c : sheet.Clause) → (sheet.atom_ok g a && all is_known_letter (words.atom_words a)) ≡ true → fine c ≡ true → fine (record { sign = b; atom = a } ∷ c) ≡ true
    one-fine b a c h k = both_ok (sheet.atom_ok g a) (words.atom_words a) (sheet.clause_ok g c) (words.clause_words c) h k

    literals-ok : (c : NameClause) → all st (clause_occurrences c) ≡ true → fine (concat_map (literal_as_written g xs) c) ≡ true
    literals-ok [] h = refl
    literals-ok (never ∷ c) h = literals-ok c h
    literals-ok (plain a ∷ c) h =
        let k : (all st (atom_occurrences a) && all st (clause_occurrences c)) ≡ true = sym (all_append st (atom_occurrences a) (clause_occurrences c)) ∙ h in
        one-fine true (atom_over g xs a) (concat_map (literal_as_written g xs) c) (atom-ok a (and_left (all st (atom_occurrences a)) (all st (clause_occurrences c)) k)) (literals-ok c (and_right (all st (atom_occurrences a)) (all st (clause_occurrences c)) k))
    literals-ok (tilded a ∷ c) h =
        let k : (all st (atom_occurrences a) && all st (clause_occurrences c)) ≡ true = sym (all_append st (atom_occurrences a) (clause_occurrences c)) ∙ h in
        one-fine false (atom_over g xs a) (concat_map (literal_as_written g xs) c) (atom-ok a (and_left (all st (atom_occurrences a)) (all st (clause_occurrences c)) k)) (literals-ok c (and_right (all st (atom_occurrences a)) (all st (clause_occurrences c)) k))
    literals-ok (unequal t u ∷ c) h =
        let os : List Occurrence = term_occurrences t ++ term_occurrences u in
        let k : (all st os && all st (clause_occurrences c)) ≡ true = sym (all_append st os (clause_occurrences c)) ∙ h in
        one-fine false (sheet.equal (term_over g xs t) (term_over g xs u)) (concat_map (literal_as_written g xs) c) (pair_ok t u (and_left (all st os) (all st (clause_occurrences c)) k)) (literals-ok c (and_right (all st os) (all st (clause_occurrences c)) k))

  -- a clause whose occurrences have no faults is over the signature, and has letters A to H
  pub clause-fine : (c : NameClause) → clean (variables_of c) (clause_occurrences c) ≡ true → all named (concat_map declares (clause_occurrences c)) ≡ true
      → (sheet.clause_ok g (clause_over g c) && all is_known_letter (words.clause_words (clause_over g c))) ≡ true
  unfolding clause_over
  clause-fine c h k =
      let xs : List (List ℕ) = variables_of c in
      let os : List Occurrence = clause_occurrences c in
      literals-ok xs c (all-standing xs os (and_left (all (sound xs) os) (all limited (concat_map declares os)) h) k)

  clause-accepted : (c : NameClause) → clean_clause c ≡ true → all named (concat_map declares (clause_occurrences c)) ≡ true → clause_accepted g (clause_over g c) ≡ true
  clause-accepted c h k =
      let xs : List (List ℕ) = variables_of c in
      let os : List Occurrence = clause_occurrences c in
      let d : sheet.Clause = clause_over g c in
      let cl : clean xs os ≡ true = and_left (clean xs os) (within_limits (words.clause_words d) d) h in
      let f : (sheet.clause_ok g d && all is_known_letter (words.clause_words d)) ≡ true = clause-fine c cl k in
      and-join (sheet.clause_ok g d && within_limits (words.clause_words d) d) (all is_known_letter (words.clause_words d))
      (and-join (sheet.clause_ok g d) (within_limits (words.clause_words d) d) (and_left (sheet.clause_ok g d) (all is_known_letter (words.clause_words d)) f)
      (and_right (clean xs os) (within_limits (words.clause_words d) d) h))
      (and_right (sheet.clause_ok g d) (all is_known_letter (words.clause_words d)) f)

-- at most 12 symbols, where each has a place below 12
few : (F : List Symbol) → NamesDiffer F → all (λ (f : Symbol). ltb (or_zero (place_of_name f.name F)) 12) F ≡ true → length F ≤ 12
few F d h = go (true-or-false (ltb 12 (length F)))
  where
    go : (ltb 12 (length F) ≡ true) ⊎ (ltb 12 (length F) ≡ false) → length F ≤ 12
    go (inr e) = ltb-false 12 (length F) e
    go (inl e) =
        let lt : 12 < length F = ltb-true 12 (length F) e in
        let below : ltb (or_zero (place_of_name (symbol_at F 12).name F)) 12 ≡ true = all-at (λ (f : Symbol). ltb (or_zero (place_of_name f.name F)) 12) no_symbol F 12 h lt in
        let q : ltb 12 12 ≡ true = ap (λ (o : Option ℕ). ltb (or_zero o) 12) (sym (place-of-name F d 12 lt)) ∙ below in
        let z : 12 < 12 = ltb-true 12 12 q in
        absurd (omega arith)

module _ (cs : List NameClause) where
  abbrev fs : List Symbol
  fs = first_of_name (λ (f : Symbol). f.name) (declared cs)

  abbrev F : List Symbol
  F = functions fs

  abbrev P : List Symbol
  P = predicates fs

  abbrev g : Signature
  g = F ++ P

  all-functions : all (λ (f : Symbol). is_function f.kind) F ≡ true
  all-functions = select-passes (λ (f : Symbol). is_function f.kind) fs

  all-predicates : all (λ (f : Symbol). is_predicate f.kind) P ≡ true
  all-predicates = select-passes (λ (f : Symbol). is_predicate f.kind) fs

  functions-again : functions g ≡ F
  functions-again =
      select-all (λ (f : Symbol). is_function f.kind) F P all-functions
      (all-imply (λ (f : Symbol). is_predicate f.kind) (λ (f : Symbol). not (is_function f.kind)) P predicate-only all-predicates)

  predicates-again : predicates g ≡ P
  predicates-again =
      select-none (λ (f : Symbol). is_predicate f.kind) F P
      (all-imply (λ (f : Symbol). is_function f.kind) (λ (f : Symbol). not (is_predicate f.kind)) F function-only all-functions) all-predicates

  distinct-names : Fresh fs
  distinct-names = first-fresh (declared cs)

  -- every symbol that occurs is named in the signature
  all_named : all (λ (c : NameClause). all (named g) (concat_map declares (clause_occurrences c))) cs ≡ true
  all_named =
      sym (all-concat_map (named g) (λ (c : NameClause). concat_map declares (clause_occurrences c)) cs)
      ∙ all-imply (λ (f : Symbol). is_named f.name (declared cs)) (named g) (declared cs)
      (λ f h. parts-have (λ (u : Symbol). same f.name u.name) fs (first-has (λ (u : Symbol). u.name) f.name (declared cs) h)) (self-named (declared cs))

  -- and every symbol is declared
  all-origins : sheet.all_declared g ≡ true
  all-origins =
      let q : Symbol → Bool = λ f. sheet.is_from_sheet f.origin in
      let one : (o : Occurrence) → all q (declares o) ≡ true = λ o. elim o as (λ (k : Occurrence). all q (declares k) ≡ true) [ of_variable x ↦ refl | of_symbol f k n ↦ refl ] in
      let inside : (c : NameClause) → all q (concat_map declares (clause_occurrences c)) ≡ true =
      λ c. all-concat_map q declares (clause_occurrences c) ∙ all-every (λ o. all q (declares o)) (clause_occurrences c) one in
      let every : all q (declared cs) ≡ true =
      all-concat_map q (λ (c : NameClause). concat_map declares (clause_occurrences c)) cs ∙ all-every (λ (c : NameClause). all q (concat_map declares (clause_occurrences c))) cs inside in
      let firsts : all q fs ≡ true = first-keeps (λ (f : Symbol). f.name) q (declared cs) every in
      all_append q F P ∙ and-join (all q F) (all q P) (select-keeps q (λ (f : Symbol). is_function f.kind) fs firsts) (select-keeps q (λ (f : Symbol). is_predicate f.kind) fs firsts)

  module _ (count-ok : length cs ≤ 64) (Clean-All : all (clean_clause g) cs ≡ true) where
    declared-limited : all (limited g) (declared cs) ≡ true
    declared-limited =
        all-concat_map (limited g) (λ (c : NameClause). concat_map declares (clause_occurrences c)) cs
        ∙ all-imply (clean_clause g) (λ (c : NameClause). all (limited g) (concat_map declares (clause_occurrences c))) cs
        (λ c h. and_right (all (sound g (variables_of c)) (clause_occurrences c)) (all (limited g) (concat_map declares (clause_occurrences c)))
        (and_left (clean g (variables_of c) (clause_occurrences c)) (within_limits (words.clause_words (clause_over g c)) (clause_over g c)) h)) Clean-All

    all-limited : all (limited g) fs ≡ true
    all-limited = first-keeps (λ (f : Symbol). f.name) (limited g) (declared cs) declared-limited

    all-ok : all symbol_ok g ≡ true
    all-ok =
        let k : all symbol_ok fs ≡ true = all-imply (limited g) symbol_ok fs (λ f. and_left (symbol_ok f) (ltb (place_in_kind g f.kind f.name) 12)) all-limited in
        all_append symbol_ok F P ∙ and-join (all symbol_ok F) (all symbol_ok P) (select-keeps symbol_ok (λ (f : Symbol). is_function f.kind) fs k) (select-keeps symbol_ok (λ (f : Symbol). is_predicate f.kind) fs k)

    function-place : (f : Symbol) → (is_function f.kind && limited g f) ≡ true → ltb (or_zero (place_of_name f.name F)) 12 ≡ true
    function-place f h =
        ap (λ (l : List Symbol). ltb (or_zero (place_of_name f.name l)) 12) (sym functions-again)
        ∙ ap (λ (b : Bool). ltb (or_zero (place_of_name f.name (cond b (functions g) (predicates g)))) 12) (sym (and_left (is_function f.kind) (limited g f) h))
        ∙ and_right (symbol_ok f) (ltb (place_in_kind g f.kind f.name) 12) (and_right (is_function f.kind) (limited g f) h)

    predicate-place : (f : Symbol) → (is_predicate f.kind && limited g f) ≡ true → ltb (or_zero (place_of_name f.name P)) 12 ≡ true
    predicate-place f h =
        ap (λ (l : List Symbol). ltb (or_zero (place_of_name f.name l)) 12) (sym predicates-again)
        ∙ ap (λ (b : Bool). ltb (or_zero (place_of_name f.name (cond b (functions g) (predicates g)))) 12) (sym (false_of_not (is_function f.kind) (predicate-only f (and_left (is_predicate f.kind) (limited g f) h))))
        ∙ and_right (symbol_ok f) (ltb (place_in_kind g f.kind f.name) 12) (and_right (is_predicate f.kind) (limited g f) h)

    well-formed : WellFormed (record { symbols = g; clauses = map (clause_over g) cs })
    well-formed =
        record {
          functions = F;
          predicates = P;
          split = refl;
          function-kinds = all-functions;
          predicate-kinds = all-predicates;
          function-count =
              few F (fresh-differ F (select-fresh (λ (f : Symbol). is_function f.kind) fs distinct-names))
              (all-imply (λ (f : Symbol). is_function f.kind && limited g f) (λ (f : Symbol). ltb (or_zero (place_of_name f.name F)) 12) F function-place
              (all-and (λ (f : Symbol). is_function f.kind) (limited g) F all-functions (select-keeps (limited g) (λ (f : Symbol). is_function f.kind) fs all-limited)));
          predicate-count =
              few P (fresh-differ P (select-fresh (λ (f : Symbol). is_predicate f.kind) fs distinct-names))
              (all-imply (λ (f : Symbol). is_predicate f.kind && limited g f) (λ (f : Symbol). ltb (or_zero (place_of_name f.name P)) 12) P predicate-place
              (all-and (λ (f : Symbol). is_predicate f.kind) (limited g) P all-predicates (select-keeps (limited g) (λ (f : Symbol). is_predicate f.kind) fs all-limited)));
          symbols-ok = all-ok;
          names-differ = fresh-differ g (parts-fresh fs distinct-names);
          origins = all-origins;
          clause-count = omega (arith, length-map cs (clause_over g), count-ok);
          clauses-accepted =
              all_map (clause_accepted g) (clause_over g) cs
              ∙ all-imply (λ (c : NameClause). clean_clause g c && all (named g) (concat_map declares (clause_occurrences c))) (λ (c : NameClause). clause_accepted g (clause_over g c)) cs
              (λ c h. clause-accepted g c (and_left (clean_clause g c) (all (named g) (concat_map declares (clause_occurrences c))) h) (and_right (clean_clause g c) (all (named g) (concat_map declares (clause_occurrences c))) h))
              (all-and (clean_clause g) (λ (c : NameClause). all (named g) (concat_map declares (clause_occurrences c))) cs Clean-All all_named);
        }

-- a text is taken only without faults, and its sheet is the text of the problem
taken-parts : (text : List ℕ) (room : ℕ) (s t : List ℕ) (ds : List Fault) → sheet_in text ds s room ≡ answer t → (ds ≡ []) × (s ≡ t)
taken-parts text room s t (d ∷ ds) e = let z : ◌≡◌ {A = ℕ} 0 1 = cc in absurd (omega arith)
taken-parts text room s t [] e = (refl, go (leb (length s) room) e)
  where
    go : (b : Bool) → cond b (answer s) (refused (record { number = 11; place = record { line = 0; column = 0 }; needed = length s })) ≡ answer t → s ≡ t
    go true e = cc
    go false e = let z : ◌≡◌ {A = ℕ} 0 1 = cc in absurd (omega arith)

-- the clauses of statements without faults are a well-formed problem
pub problem-formed : (ss : List Statement) → faults_from (signature_of (map (λ (s : Statement). s.clause) ss)) 0 ss ≡ [] → WellFormed (problem_of (map (λ (s : Statement). s.clause) ss))
unfolding signature_of problem_of
problem-formed ss e =
    let cs : List NameClause = map (λ (s : Statement). s.clause) ss in
    let k = statements-clean (g cs) ss 0 (omega arith) e in
    well-formed cs (omega (arith, k.0, length-map ss (λ (s : Statement). s.clause))) k.1

pub taken : (text : List ℕ) (room : ℕ) (sheet : List ℕ) → tptp_text text room ≡ answer sheet → read_problem sheet ≡ base.answer (problem_of (clauses_of_file (read_file text)))
unfolding tptp_text faults
taken text room sheet e =
    let f : File = read_file text in
    let cs : List NameClause = clauses_of_file f in
    let s : List ℕ = sheet_text (problem_of cs) in
    let p = taken-parts text room s sheet (faults text) e in
    let a : List Fault = faults_from (signature_of cs) 0 f.statements in
    let b : List Fault = foreign_fault f.foreign in
    let c : List Fault = fault_if (ltb 16384 (length s)) 17 (length text) in
    let le : length s ≤ 16384 = ltb-false 16384 (length s) (no-fault (ltb 16384 (length s)) 17 (length text) (empty_right b c (empty_right a (b ++ c) p.0))) in
    ap read_problem (sym p.1) ∙ sheet-read (problem_of cs) (problem-formed f.statements (empty_left a (b ++ c) p.0)) le

-- Judge on the sheet left
pub judged : (text : List ℕ) (room : ℕ) (sheet case : List ℕ) (k : Case) → tptp_text text room ≡ answer sheet → read_case (problem_of (clauses_of_file (read_file text))).symbols case ≡ base.answer k
    → (judge_answer sheet case ≡ base.answer true)
    ↔ AllNamesValid (meaning (interpretation k.size (problem_of (clauses_of_file (read_file text))).symbols k.values) (problem_of (clauses_of_file (read_file text))).symbols) k.size (clauses_of_file (read_file text))
unfolding judge_answer
judged text room sheet case k e h =
    let p : Problem = problem_of (clauses_of_file (read_file text)) in
    let b : Bool = is_model k.size p.symbols p.clauses k.values in
    let says : judge_answer sheet case ≡ base.answer b = bind-step _ _ p _ (placed-problem sheet p (taken text room sheet e)) (bind-step _ _ k _ (placed-case p.symbols case k h) refl) in
    let m = same-models (clauses_of_file (read_file text)) k.size k.values (read-exactly p.symbols case k h).positive in
    (λ q. m.0 (answer-inj b true (sym says ∙ q)), λ v. says ∙ ap base.answer (m.1 v))

pub models : claims.Models
models = record { taken = taken; same-models = same-models; judged = judged }
