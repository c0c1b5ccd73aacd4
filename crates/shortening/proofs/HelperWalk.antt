-- The words of a helper's own clause: + = constant, then those of its term, one after the other.
use Prim.Native.Nat.{ℕ, ◌+◌, ◌≤◌, ◌<◌}
use mathlib.Core.Path.{◌≡◌, refl, sym, ap, ◌∙◌, subst}
use mathlib.Core.Bool.{true, ◌&&◌}
use mathlib.Core.Option.{some}
use mathlib.Core.List.{List, [], ◌∷◌, ◌++◌, append_assoc, append-nil}
use native.Mathlib.Omega.{arith}
use lib.ListN.{length, length-append}
use Rattle.theory.specs.Lists.{all}
use Rattle.theory.specs.Syntax.{Signature}
use Rattle.theory.specs.Grammar.{Word, sign, equals, symbol, term_words, clause_words}
use Rattle.theory.specs.Problem.{max_words}
use Rattle.theory.proofs.Tests.{ltb-of-<, and-join}
use Rattle.theory.proofs.Lists.{all_append}
use Rattle.syntax.specs.declared.terms.Span.{Span}
use Rattle.syntax.specs.Codes.{max_places, code_word, is_known}
use Rattle.clauses.specs.declared.clause.Words.{Words}
use Rattle.clauses.specs.Words.{is_code}
use Rattle.clauses.specs.Clauses.{WordsBounded, Passed, Extends}
use Rattle.clauses.proofs.Passing.{passed-bounded}
use Rattle.naming.specs.FixedTerms.{helper_clause}
use Rattle.shortening.specs.declared.line.LineWord.{LineWord}
use Rattle.shortening.specs.Spans.{words_between, FirstOf, NextWord}
use Rattle.shortening.specs.Tables.{term_at, TermThere}
use Rattle.shortening.specs.HelperWords.{WordsTo}
use Rattle.shortening.proofs.LineWords.{none_left}
use Rattle.shortening.proofs.Codes.{code-more, code-known}

-- words that were read, up to the place `at` of a line that ends at `to`, of the words ws
pub record ReadTo (g g⁺ : Signature) (sheet : List ℕ) (ws : List Word) (to at : ℕ) (words : Words) : Type 0 where
  pub rest : List Word
  pub left : words_between g sheet at to ≡ some rest
  pub front : List Word
  pub passed : Passed g⁺ front words
  pub known : all (is_known g⁺) front ≡ true
  pub split : front ++ rest ≡ ws
  pub few : words.count ≤ max_words

module _ (g g⁺ : Signature) (sheet : List ℕ) where
  pub begins : (s : Span) (place : ℕ) (w : Words) → place < length g⁺ → TermThere g sheet s → Passed g⁺ (sign true ∷ equals ∷ symbol place ∷ []) w
      → ReadTo g g⁺ sheet (clause_words (helper_clause place (term_at g sheet s))) s.to s.from w
  begins s place w below there passed =
      record {
        rest = term_words (term_at g sheet s);
        left = there.words;
        front = sign true ∷ equals ∷ symbol place ∷ [];
        passed = passed;
        known = and-join (is_known g⁺ (symbol place)) true (ltb-of-< place (length g⁺) below) refl;
        split = ap (λ (l : List Word). sign true ∷ equals ∷ symbol place ∷ l) (sym (append-nil (term_words (term_at g sheet s))));
        few = omega (arith, passed.count);
      }

  module _ (ws : List Word) (to at : ℕ) (words : Words) (z : ReadTo g g⁺ sheet ws to at words) where
    pub words-bounded : WordsBounded words
    words-bounded = passed-bounded g⁺ z.front words z.passed (omega (arith, z.few))

    pub ends : to ≤ at → WordsTo g⁺ ws words
    ends h =
        let e : z.front ≡ ws = sym (append-nil z.front) ∙ ap (λ (l : List Word). z.front ++ l) (sym (none_left g sheet at to z.rest h z.left)) ∙ z.split in
        record {
          long = λ k. absurd (omega (arith, z.few));
          whole = λ _. subst (λ (ws : List Word). Passed g⁺ ws words) e z.passed;
          known = λ _. ap (all (is_known g⁺)) (sym e) ∙ z.known;
        }

    module _ (w : LineWord) (n : NextWord g sheet at to w) where
      abbrev here : FirstOf g sheet at to z.rest w
      here = n.first z.rest z.left

      pub code-there : (symbols : ℕ) → length g ≤ symbols → is_code symbols w.code ≡ true
      code-there symbols le = code-more (length g) symbols w.code le here.coded

      pub moves : at < w.end
      moves = here.filled

      split : (z.front ++ (code_word w.code ∷ [])) ++ here.others ≡ ws
      split = append_assoc z.front (code_word w.code ∷ []) here.others ∙ ap (λ (l : List Word). z.front ++ l) (sym here.words) ∙ z.split

      module _ (v : Words) (e : Extends g⁺ words (code_word w.code) v) where
        more : Passed g⁺ (z.front ++ (code_word w.code ∷ [])) v
        more = e z.front z.passed

        pub goes_on : length g⁺ ≤ max_places → length g ≤ length g⁺ → v.count ≤ max_words → ReadTo g g⁺ sheet ws to (w.end + 1) v
        goes_on small le few =
            record {
              rest = here.others;
              left = here.left;
              front = z.front ++ (code_word w.code ∷ []);
              passed = more;
              known = all_append (is_known g⁺) z.front (code_word w.code ∷ [])
                  ∙ and-join (all (is_known g⁺) z.front) (is_known g⁺ (code_word w.code) && true) z.known
                  (and-join (is_known g⁺ (code_word w.code)) true (code-known g⁺ w.code small (code-there (length g⁺) le)) refl);
              split = split;
              few = few;
            }

        -- too many words
        pub overlong : max_words < v.count → WordsTo g⁺ ws v
        overlong h =
            record {
              long = λ _. omega (arith, more.count, ap length split, length-append (z.front ++ (code_word w.code ∷ [])) here.others);
              whole = λ k. absurd (omega arith);
              known = λ k. absurd (omega arith);
            }
