-- The literals of a clause one after the other: what is done, what is left.
use Prim.Native.Nat.{ℕ, ◌≤◌, ◌<◌}
use mathlib.Core.Path.{◌≡◌, refl, sym, ap, ◌∙◌, subst}
use mathlib.Core.Bool.{Bool, true}
use mathlib.Core.List.{List, [], ◌∷◌, ◌++◌, map, map-append, append_assoc, append-nil}
use native.Mathlib.Omega.{arith}
use lib.Dec.{eqb}
use lib.ListN.{length, get_or, drop, replicate, length-append, length-replicate}
use lib.Seq.{drop-append_seam}
use Rattle.theory.specs.Lists.{all, concat_map, place_that}
use Rattle.theory.specs.Syntax.{Signature, Term, variable, apply, Atom, equal, holds, Literal, Clause, atom_variables, variables, atom_ok, clause_ok}
use Rattle.theory.specs.Grammar.{Word, sign, term_words, terms_words, atom_words, clause_words}
use Rattle.theory.specs.Flattening.{merged, turned_atom, turned, function_terms, all_function_terms, to_lift, add_terms, lifted_terms}
use Rattle.theory.specs.Lifted.{within}
use Rattle.theory.proofs.Tests.{and_left, and_right}
use Rattle.theory.proofs.Lists.{all_append, all-distinct, concat_map-append}
use Rattle.theory.proofs.Letters.{merged-length}
use Rattle.theory.proofs.FlatForm.{variables-within}
use Rattle.theory.proofs.Growing.{add_terms-append, add_terms-length, function_terms-words, all_function_terms-words}
use Rattle.syntax.specs.declared.words.ClauseWords.{ClauseWords}
use Rattle.syntax.specs.Codes.{words_in, clause_in}
use Rattle.syntax.specs.Variables.{letters_of, variables_in, is_letter, place_or8}
use Rattle.syntax.proofs.Codes.{length-words_in}
use Rattle.syntax.proofs.Clauses.{clause_ok-clause_in, clause_words-clause_in, variables-clause_in, codes_below}
use Rattle.syntax.proofs.Places.{letters-below}
use Rattle.theory.proofs.Distinct.{length-distinct}
use Rattle.merging.specs.Merged.{Merged}
use Rattle.lifting.specs.Rows.{blank_row}
use Rattle.lifting.specs.Lifts.{Holds, Lifts}
use Rattle.lifting.specs.Reading.{Source}
use Rattle.shallow.specs.declared.literals.Lifting.{Lifting}
use Rattle.shallow.specs.Literals.{blank_literal}
use Rattle.shallow.specs.Flattenable.{Flattenable}
use Rattle.shallow.specs.Shallow.{started, Made, LiteralThere, LiteralMade, ClauseLifted}

-- the lifted terms with those of one more literal
lifted-more : (done : Clause) (k : Literal) → lifted_terms (map turned (done ++ (k ∷ []))) ≡ add_terms (lifted_terms (map turned done)) (to_lift (turned_atom k.atom))
unfolding lifted_terms
lifted-more done k =
    let f : Literal → List Term = λ l. to_lift l.atom in
    ap (λ (c : Clause). add_terms [] (concat_map f c)) (map-append turned done (k ∷ []))
    ∙ ap (add_terms []) (concat_map-append f (map turned done) (turned k ∷ []) ∙ ap (λ (ts : List Term). concat_map f (map turned done) ++ ts) (append-nil (to_lift (turned_atom k.atom))))
    ∙ add_terms-append [] (concat_map f (map turned done)) (to_lift (turned_atom k.atom))

-- no more terms are lifted from a literal than its atom has words
to_lift-words : (a : Atom) → length (to_lift (turned_atom a)) ≤ length (atom_words a)
to_lift-words (equal (variable x) (variable y)) = omega arith
to_lift-words (equal (variable x) (apply f ts)) = omega (arith, length-append (all_function_terms ts) [], all_function_terms-words ts)
to_lift-words (equal (apply f ts) u) =
    omega (arith, length-append (all_function_terms ts) (function_terms u), length-append (terms_words ts) (term_words u), all_function_terms-words ts, function_terms-words u)
to_lift-words (holds p ts) = omega (arith, all_function_terms-words ts)

module _ {arities : List ℕ} {m : ClauseWords} (s : Flattenable arities m) where
  abbrev g : Signature
  g = s.signature

  abbrev xs : List ℕ
  xs = variables_in m

  pub record Progress (l : Lifting) : Type 0 where
    pub owns : l.owns ≡ length (variables_in m)
    pub done : Clause
    pub left : Clause
    pub parts : clause_in s.signature m ≡ done ++ left
    pub next : l.next ≡ length (clause_words done)
    pub room : length (lifted_terms (map turned done)) ≤ l.next
    pub lifts : Lifts s.signature (variables_in m) (lifted_terms (map turned done)) l.table
    pub made : Made s.signature (variables_in m) (lifted_terms (map turned done)) done l

  -- the letters are below 8, so there are at most 8 variables
  module _ (fits : m.count ≤ length m.words) where
    pub own-letters : all is_letter (variables_in m) ≡ true
    unfolding variables_in
    own-letters = all-distinct is_letter (letters_of (words_in m)) (letters-below m.words m.count (codes_below s.signature m s.clause s.small.symbols fits))

    pub own-few : length (variables_in m) ≤ 8
    unfolding variables_in
    own-few = length-distinct 8 (letters_of (words_in m)) (letters-below m.words m.count (codes_below s.signature m s.clause s.small.symbols fits))

  words-split : (done left : Clause) → clause_in g m ≡ done ++ left → words_in m ≡ clause_words done ++ clause_words left
  words-split done left e =
      sym (clause_words-clause_in g m s.clause) ∙ ap clause_words e ∙ concat_map-append (λ (l : Literal). sign l.sign ∷ atom_words l.atom) done left

  -- before the last word a literal is left
  pub record NextLiteral {l : Lifting} (p : Progress l) : Type 0 where
    pub literal : Literal
    pub others : Clause
    pub is : p.left ≡ literal ∷ others

  pub next-literal : m.count ≤ length m.words → {l : Lifting} (p : Progress l) → l.next < m.count → NextLiteral p
  next-literal fits {l} p h = go p.left refl
    where
      go : (left : Clause) → p.left ≡ left → NextLiteral p
      go [] e =
          let w = words-split p.done p.left p.parts ∙ ap (λ (c : Clause). clause_words p.done ++ clause_words c) e in
          absurd (omega (arith, ap length w, length-append (clause_words p.done) [], length-words_in m fits, p.next))
      go (k ∷ ks) e = record { literal = k; others = ks; is = e }

  -- and stands at the place reached
  module _ (place : List ℕ) (fits : m.count ≤ length m.words) (eight : 8 ≤ length place)
      (places : (x : ℕ) → x < 8 → get_or place x 0 ≡ place_or8 (place_that (eqb x) (variables_in m))) {l : Lifting} (p : Progress l) where
    pub source-few : l.owns ≤ 8
    source-few = omega (arith, p.owns, own-few fits)

    abbrev pub source : Source m.words place arities l.owns
    source =
        record {
          signature = s.signature;
          table = s.table;
          small = s.small;
          count = m.count;
          fits = fits;
          short = s.clause.fits;
          variables = variables_in m;
          letters = own-letters fits;
          owned = p.owns;
          few = source-few;
          eight = eight;
          places = places;
        }

    module _ (n : NextLiteral p) where
      whole : clause_in g m ≡ p.done ++ (n.literal ∷ n.others)
      whole = p.parts ∙ ap (λ (c : Clause). p.done ++ c) n.is

      pub literal-ok : atom_ok s.signature n.literal.atom ≡ true
      literal-ok =
          let ok : Literal → Bool = λ l. atom_ok g l.atom in
          and_left (ok n.literal) (all ok n.others)
          (and_right (all ok p.done) (all ok (n.literal ∷ n.others))
          (sym (all_append ok p.done (n.literal ∷ n.others)) ∙ ap (clause_ok g) (sym whole) ∙ clause_ok-clause_in g m s.clause))

      pub literal-own : within (variables_in m) (atom_variables n.literal.atom) ≡ true
      literal-own =
          let own : Literal → Bool = λ l. within (variables_in m) (atom_variables l.atom) in
          and_left (own n.literal) (all own n.others)
          (and_right (all own p.done) (all own (n.literal ∷ n.others))
          (sym (all_append own p.done (n.literal ∷ n.others))
          ∙ ap (all own) (sym whole)
          ∙ ap (λ (ys : List ℕ). all (λ (l : Literal). within ys (atom_variables l.atom)) (clause_in g m)) (sym (variables-clause_in g m s.clause))
          ∙ variables-within (clause_in g m)))

      pub literal-words : drop l.next (words_in m) ≡ sign n.literal.sign ∷ (atom_words n.literal.atom ++ clause_words n.others)
      literal-words =
          ap (λ (i : ℕ). drop i (words_in m)) p.next
          ∙ ap (drop (length (clause_words p.done))) (words-split p.done (n.literal ∷ n.others) whole)
          ∙ drop-append_seam (clause_words p.done) (clause_words (n.literal ∷ n.others))

      pub literal-space : l.count < 16
      literal-space = omega (arith, ap length whole, length-append p.done (n.literal ∷ n.others), s.literals, p.made.count)

      abbrev pub literal-there : LiteralThere m.words place arities l
      literal-there =
          record {
            source = source;
            literal = n.literal;
            ok = literal-ok;
            own = literal-own;
            rest = clause_words n.others;
            words = literal-words;
            found = lifted_terms (map turned p.done);
            lifts = p.lifts;
            room = p.room;
            done = p.done;
            made = p.made;
            space = literal-space;
          }

      -- it is done then
      module _ (r : Lifting) (e : LiteralMade literal-there r) where
        pub further : l.next < r.next
        further = omega (arith, e.next)

        pub progress-more : Progress r
        progress-more =
            let k : Literal = n.literal in
            let found : List Term = lifted_terms (map turned p.done) in
            let joined = sym (lifted-more p.done k) in
            let words : Literal → List Word = λ l. sign l.sign ∷ atom_words l.atom in
            record {
              owns = e.owns ∙ p.owns;
              done = p.done ++ (k ∷ []);
              left = n.others;
              parts = whole ∙ sym (append_assoc p.done (k ∷ []) n.others);
              next = omega (arith, e.next, p.next, ap length (concat_map-append words p.done (k ∷ [])), length-append (clause_words p.done) (clause_words (k ∷ [])), length-append (atom_words k.atom) []);
              room = omega (arith, ap length joined, add_terms-length found (to_lift (turned_atom k.atom)), to_lift-words k.atom, e.next, p.room);
              lifts = subst (λ (ts : List Term). Lifts g xs ts r.table) joined e.lifts;
              made = subst (λ (ts : List Term). Made g xs ts (p.done ++ (k ∷ [])) r) joined e.made;
            }

  -- at the end all are done
  pub progress-end : m.count ≤ length m.words → {l : Lifting} (p : Progress l) → m.count ≤ l.next → p.done ≡ clause_in s.signature m
  progress-end fits {l} p h = go p.left refl
    where
      go : (left : Clause) → p.left ≡ left → p.done ≡ clause_in s.signature m
      go [] e = sym (p.parts ∙ ap (λ (c : Clause). p.done ++ c) e ∙ append-nil p.done)
      go (k ∷ ks) e =
          let w = words-split p.done p.left p.parts ∙ ap (λ (c : Clause). clause_words p.done ++ clause_words c) e in
          absurd (omega (arith, ap length w, length-append (clause_words p.done) (clause_words (k ∷ ks)), length-words_in m fits, p.next))

-- at the beginning none is
none-holds : (ys : List ℕ) → Holds ys [] (record { rows = replicate 64 blank_row; count = 0 })
none-holds ys =
    record {
      rows = length-replicate 64 blank_row;
      count = refl;
      function = λ i l. absurd (omega arith);
      argument = λ i j l k. absurd (omega arith);
    }

pub progress_start : {arities : List ℕ} {m : ClauseWords} (s : Flattenable arities m) (owns : ℕ) → owns ≡ length (variables_in m)
    → Progress s (started owns)
unfolding lifted_terms started
progress_start {arities} {m} s owns e =
    record {
      owns = e;
      done = [];
      left = clause_in s.signature m;
      parts = refl;
      next = refl;
      room = omega arith;
      lifts = record { holds = none-holds (variables_in m); applied = refl; ok = refl; own = refl; closed = refl; once = refl };
      made = record { literals = length-replicate 16 blank_literal; count = refl; made = refl; covered = refl };
    }

-- Step 1 keeps clause words that can be flattened so.
abbrev pub merged-flattenable : {arities : List ℕ} {c m : ClauseWords} (s : Flattenable arities c) → Merged s.signature c m → Flattenable arities m
merged-flattenable {arities} {c} {m} s h =
    record {
      signature = s.signature;
      table = s.table;
      small = s.small;
      clause = h.is_clause;
      literals = omega (arith, ap length h.clause, merged-length (clause_in s.signature c), s.literals);
    }

-- and with all of its literals done the clause is lifted
pub clause-lifted : {arities : List ℕ} {c m : ClauseWords} (s : Flattenable arities c) (h : Merged s.signature c m) → m.count ≤ length m.words
    → {l : Lifting} (p : Progress (merged-flattenable s h) l) → m.count ≤ l.next → ClauseLifted s l
clause-lifted {arities} {c} {m} s h fits {l} p k =
    let d : Clause = merged (clause_in s.signature c) in
    let own : variables_in m ≡ variables d = sym (variables-clause_in s.signature m h.is_clause) ∙ ap variables h.clause in
    let all : p.done ≡ clause_in s.signature m = progress-end (merged-flattenable s h) fits p k in
    let done : p.done ≡ d = all ∙ h.clause in
    record {
      owns = p.owns ∙ ap length own;
      few = omega (arith, p.owns, own-few (merged-flattenable s h) fits);
      room = omega (arith, p.lifts.holds.count, p.room, p.next, ap length (ap clause_words all ∙ clause_words-clause_in s.signature m h.is_clause), length-words_in m fits, h.is_clause.fits);
      lifts =
          subst (λ (ys : List ℕ). Lifts s.signature ys (lifted_terms (map turned d)) l.table) own
          (subst (λ (e : Clause). Lifts s.signature (variables_in m) (lifted_terms (map turned e)) l.table) done p.lifts);
      made =
          subst (λ (ys : List ℕ). Made s.signature ys (lifted_terms (map turned d)) d l) own
          (subst (λ (e : Clause). Made s.signature (variables_in m) (lifted_terms (map turned e)) e l) done p.made);
    }
