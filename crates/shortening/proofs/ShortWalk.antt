-- A line's clause shortened word by word: the words so far and what is left, shortened, are the words of the shortened clause.
use Prim.Native.Nat.{ℕ, ◌+◌, ◌≤◌, ◌<◌}
use mathlib.Core.Path.{◌≡◌, refl, sym, ap, ◌∙◌, subst}
use mathlib.Core.Bool.{true, ◌&&◌}
use mathlib.Core.List.{List, [], ◌∷◌, ◌++◌, append-nil, append_assoc}
use native.Mathlib.Omega.{arith}
use lib.ListN.{length, length-append}
use Rattle.theory.specs.Lists.{all}
use Rattle.theory.specs.Syntax.{Signature, Term, empty, cons, variable, apply, equal, holds, Clause}
use Rattle.theory.specs.Grammar.{Word}
use Rattle.theory.specs.Problem.{max_words}
use Rattle.theory.specs.Flattening.{add_terms}
use Rattle.theory.proofs.Tests.{and-join}
use Rattle.theory.proofs.Lists.{all_append}
use Rattle.theory.proofs.Growing.{add_terms-extends}
use Rattle.syntax.specs.declared.terms.FixedTerms.{FixedTerms}
use Rattle.syntax.specs.Codes.{max_places, code_word, is_known}
use Rattle.clauses.specs.declared.clause.Words.{Words}
use Rattle.clauses.specs.Words.{is_code}
use Rattle.clauses.specs.Clauses.{WordsBounded, Passed, Extends, no_words}
use Rattle.clauses.proofs.Passing.{passed-bounded}
use Rattle.clauses.proofs.Going.{passed_none}
use Rattle.naming.specs.NamedReading.{max_helpers}
use Rattle.shortening.specs.declared.short.ShortWord.{ShortWord}
use Rattle.std.specs.Prelude.{Some, None}
use Rattle.shortening.specs.Left.{Left, terms_left, atom_left, left_words, left_named, short_left, LeftHere}
use Rattle.shortening.specs.Tables.{terms_in, TermsThere}
use Rattle.shortening.specs.ShortLines.{Stepped, ShortStep, LineClause, names_with, short_words, RoomFor, ShortWhole, Shortened}
use Rattle.shortening.proofs.LineWords.{none_left}
use Rattle.shortening.proofs.NamedTable.{length-terms}
use Rattle.shortening.proofs.Codes.{code-more, code-known}

-- no word is left exactly where nothing is
nothing_left : (l : Left) → left_words l ≡ [] → l ≡ terms_left empty []
nothing_left (terms_left empty []) e = refl
nothing_left (terms_left empty (x ∷ c)) e = let n = ap length e in absurd (omega arith)
nothing_left (terms_left (cons (variable x) ts) c) e = let n = ap length e in absurd (omega arith)
nothing_left (terms_left (cons (apply f us) ts) c) e = let n = ap length e in absurd (omega arith)
nothing_left (atom_left (equal t u) c) e = let n = ap length e in absurd (omega arith)
nothing_left (atom_left (holds p ts) c) e = let n = ap length e in absurd (omega arith)

module _ (g g⁺ : Signature) (sheet : List ℕ) (from to : ℕ) (ts : FixedTerms) (c : LineClause g sheet from to) where
  -- all terms that have names in the end
  abbrev N : List Term
  N = names_with g sheet ts c.clause

  -- up to the place `at`
  pub record ShortTo (at : ℕ) (named : FixedTerms) (words : Words) : Type 0 where
    pub here : LeftHere g sheet at to
    pub there : TermsThere g sheet named
    pub found : N ≡ add_terms (terms_in g sheet named) (left_named here.left)
    pub front : List Word
    pub passed : Passed g⁺ front words
    pub known : all (is_known g⁺) front ≡ true
    pub short : front ++ left_words (short_left (length g) N here.left) ≡ short_words g sheet ts c.clause
    pub few : words.count ≤ max_words

  pub begins : (w : Words) → w ≡ no_words → TermsThere g sheet ts → ShortTo from ts w
  begins w e there =
      record {
        here = record { left = terms_left empty c.clause; ok = c.ok; words = c.words };
        there = there;
        found = refl;
        front = [];
        passed = subst (Passed g⁺ []) (sym e) (passed_none g⁺);
        known = refl;
        short = refl;
        few = omega (arith, ap (λ (w : Words). w.count) e);
      }

  module _ (at : ℕ) (named : FixedTerms) (words : Words) (z : ShortTo at named words) where
    pub words-bounded : WordsBounded words
    words-bounded = passed-bounded g⁺ z.front words z.passed (omega (arith, z.few))

    -- the line's end
    pub ends : to ≤ at → ShortWhole g g⁺ sheet ts c.clause (record { words = words; terms = named })
    ends h =
        let l : z.here.left ≡ terms_left empty [] = nothing_left z.here.left (none_left g sheet at to (left_words z.here.left) h z.here.words) in
        let e : z.front ≡ short_words g sheet ts c.clause = sym (append-nil z.front) ∙ ap (λ (l : Left). z.front ++ left_words (short_left (length g) N l)) (sym l) ∙ z.short in
        record {
          there = z.there;
          found = sym (z.found ∙ ap (λ (l : Left). add_terms (terms_in g sheet named) (left_named l)) l);
          passed = subst (λ (ws : List Word). Passed g⁺ ws words) e z.passed;
          known = ap (all (is_known g⁺)) (sym e) ∙ z.known;
        }

    -- too many terms
    pub overflows : ShortStep g sheet at to named z.here.left None → max_helpers < length N
    overflows full = omega (arith, ap length z.found)

    module _ (r : ShortWord) (t : Stepped g sheet at to named z.here.left r) where
      grown : N ≡ add_terms (terms_in g sheet r.terms) (left_named t.next.left)
      grown = z.found ∙ t.found

      zs : List Term
      zs = (add_terms-extends (terms_in g sheet r.terms) (left_named t.next.left)).0

      extends : N ≡ terms_in g sheet r.terms ++ zs
      unfolding zs
      extends = grown ∙ (add_terms-extends (terms_in g sheet r.terms) (left_named t.next.left)).1

      pub code-there : (symbols : ℕ) → RoomFor g sheet from to ts symbols → is_code symbols r.code ≡ true
      code-there symbols room =
          let few : r.terms.count ≤ max_helpers = t.there.table.count in
          let le : r.terms.count ≤ length N = omega (arith, ap length extends, length-append (terms_in g sheet r.terms) zs, length-terms g sheet r.terms t.there) in
          code-more (length g + r.terms.count) symbols r.code (room c r.terms.count le few) t.coded

      -- the words so far with one more, and what is left behind it
      split : (z.front ++ (code_word r.code ∷ [])) ++ left_words (short_left (length g) N t.next.left) ≡ short_words g sheet ts c.clause
      split =
          append_assoc z.front (code_word r.code ∷ []) (left_words (short_left (length g) N t.next.left))
          ∙ ap (λ (l : List Word). z.front ++ l)
          (sym (ap (λ (M : List Term). left_words (short_left (length g) M z.here.left)) extends
          ∙ t.short zs
          ∙ ap (λ (M : List Term). code_word r.code ∷ left_words (short_left (length g) M t.next.left)) (sym extends)))
          ∙ z.short

      module _ (w : Words) (e : Extends g⁺ words (code_word r.code) w) where
        more : Passed g⁺ (z.front ++ (code_word r.code ∷ [])) w
        more = e z.front z.passed

        pub goes_on : length g⁺ ≤ max_places → RoomFor g sheet from to ts (length g⁺) → w.count ≤ max_words → ShortTo (r.end + 1) r.terms w
        goes_on small room few =
            record {
              here = t.next;
              there = t.there;
              found = grown;
              front = z.front ++ (code_word r.code ∷ []);
              passed = more;
              known = all_append (is_known g⁺) z.front (code_word r.code ∷ [])
                  ∙ and-join (all (is_known g⁺) z.front) (is_known g⁺ (code_word r.code) && true) z.known
                  (and-join (is_known g⁺ (code_word r.code)) true (code-known g⁺ r.code small (code-there (length g⁺) room)) refl);
              short = split;
              few = few;
            }

        -- too many words
        pub overlong : max_words < w.count → max_words < length (short_words g sheet ts c.clause)
        overlong h =
            omega (arith, more.count, ap length split, length-append (z.front ++ (code_word r.code ∷ [])) (left_words (short_left (length g) N t.next.left)))

-- what is answered
module _ (g g⁺ : Signature) (sheet : List ℕ) (ts : FixedTerms) (c : Clause) (words : Words) (named : FixedTerms) where
  pub answer-long : max_words < words.count → max_words < length (short_words g sheet ts c) → Shortened g g⁺ sheet ts c (Some (record { words = words; terms = named }))
  answer-long l h = record { long = λ _. h; whole = λ k. absurd (omega arith) }

  pub answer-whole : words.count ≤ max_words → ShortWhole g g⁺ sheet ts c (record { words = words; terms = named }) → Shortened g g⁺ sheet ts c (Some (record { words = words; terms = named }))
  answer-whole l h = record { long = λ k. absurd (omega arith); whole = λ _. h }
