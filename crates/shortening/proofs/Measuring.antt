-- Limit 7 of a line in the mode: its shortened clause and its helpers' own, measured by their words.
use Prim.Native.Nat.{ℕ, suc, ◌+◌, ◌≤◌, ◌<◌}
use mathlib.Core.Path.{◌≡◌, refl, sym, ap, ◌∙◌}
use mathlib.Core.Logic.{◌⊎◌, inl, inr}
use mathlib.Core.Bool.{Bool, true, false, ◌&&◌}
use mathlib.Core.List.{List, [], ◌∷◌, ◌++◌, map, append-nil}
use native.Mathlib.Numerals.{add-one}
use native.Mathlib.Omega.{arith}
use lib.Dec.{leb}
use lib.ListN.{length, get_or, take, drop, replicate, drop_of_length-le}
use lib.Seq.{drop-cons}
use borrow.Author.Tests.{lt-leb}
use Rattle.theory.specs.Lists.{all}
use Rattle.theory.specs.Syntax.{Signature, Term, variable, Clause, clause_ok}
use Rattle.theory.specs.Grammar.{clause_words}
use Rattle.theory.specs.Flattening.{flatten, variable_count, add_terms}
use Rattle.theory.specs.Problem.{max_words, max_literals, max_variables, within_limits}
use Rattle.theory.proofs.Tests.{leb-true, leb-false, not-true, both_false, true-or-false, and_left, and_right, and-false}
use Rattle.theory.proofs.Lists.{all_append, map_at}
use Rattle.theory.proofs.Grammar.{read_clause-complete}
use Rattle.syntax.specs.declared.signature.Signature as declared
use Rattle.syntax.specs.declared.terms.FixedTerms.{FixedTerms}
use Rattle.syntax.specs.Signatures.{signature_in}
use Rattle.clauses.specs.declared.clause.Words.{Words}
use Rattle.clauses.specs.Names.{Limited}
use Rattle.clauses.specs.Clauses.{WholeClause}
use Rattle.naming.specs.FixedTerms.{clause_named, named_terms, short_clause, helper_clause, helper_clauses, named_clauses}
use Rattle.naming.specs.NamedProblem.{helper_constant}
use Rattle.naming.specs.NamedReading.{is_within, is_within_named, max_helpers}
use Rattle.naming.proofs.Limits.{and-true}
use Rattle.naming.proofs.ShortClauses.{named_clauses-ok}
use Rattle.shortening.specs.declared.short.ShortLine.{ShortLine}
use Rattle.shortening.specs.Tables.{no_span, spans_of, term_at, terms_in, TermsThere}
use Rattle.shortening.specs.ShortLines.{names_with, ShortWhole, ShortRead}
use Rattle.shortening.specs.HelperWords.{HelpersBehind, WordsTo}
use Rattle.shortening.specs.Measured.{Measured}
use Rattle.shortening.proofs.TableWalk.{length-spans, span-at}
use Rattle.shortening.proofs.NamedTable.{length-terms}
use Rattle.shortening.proofs.FewNames.{few-names}
use Rattle.shortening.proofs.HelperSymbols.{signature-behind}
use Rattle.shortening.proofs.MoreSymbols.{helpers-behind, clause-more, helper-ok}

-- too many words
pub too_long : (c : Clause) → max_words < length (clause_words c) → is_within c ≡ false
unfolding within_limits
too_long c h = ap (λ (b : Bool). (b && leb (length c) max_literals) && leb (variable_count (flatten c)) max_variables) (lt-leb (length (clause_words c)) max_words h)

module _ (all⁺ : declared.Signature) (w : Words) (m : Measured all⁺ w) where
  pub measured-long : max_words < w.count → false ≡ is_within m.clause
  measured-long h = sym (too_long m.clause (m.words.long h))

  abbrev pub measured-whole : Limited all⁺ → w.count ≤ max_words → WholeClause all⁺ w
  measured-whole limited few =
      record {
        sheet = m.sheet;
        limited = limited;
        words = clause_words m.clause;
        passed = m.words.whole few;
        known = m.words.known few;
        clause = m.clause;
        read = read_clause-complete (signature_in m.sheet all⁺) m.clause (m.ok few);
      }

-- The helpers' own clauses, one after the other.
module _ (sheet : List ℕ) (s all⁺ : declared.Signature) (h : HelpersBehind s max_helpers all⁺) (ts : FixedTerms) where
  abbrev g : Signature
  g = signature_in sheet s

  abbrev T : List Term
  T = terms_in g sheet ts

  module _ (there : TermsThere g sheet ts) (i : ℕ) (l : i < ts.count) where
    term-at : get_or T i (variable 0) ≡ term_at g sheet (get_or ts.spans i no_span)
    term-at =
        map_at (term_at g sheet) (spans_of ts) i no_span (variable 0) (omega (arith, length-spans sheet ts there.table)) ∙ ap (term_at g sheet) (span-at sheet ts there.table i l)

    -- the next one, and those behind it
    pub next-helper : all is_within (helper_clauses (length g + i) (drop i T))
        ≡ (is_within (helper_clause (length g + i) (term_at g sheet (get_or ts.spans i no_span))) && all is_within (helper_clauses (length g + (i + 1)) (drop (i + 1) T)))
    next-helper =
        let n : suc (length g + i) ≡ length g + (i + 1) = omega arith in
        ap (λ (us : List Term). all is_within (helper_clauses (length g + i) us)) (drop-cons T i (variable 0) (omega (arith, length-terms g sheet ts there)))
        ∙ ap (λ (t : Term). is_within (helper_clause (length g + i) t) && all is_within (helper_clauses (suc (length g + i)) (drop (suc i) T))) term-at
        ∙ ap (λ (k : ℕ). is_within (helper_clause (length g + i) (term_at g sheet (get_or ts.spans i no_span))) && all is_within (helper_clauses k (drop (suc i) T))) n
        ∙ ap (λ (k : ℕ). is_within (helper_clause (length g + i) (term_at g sheet (get_or ts.spans i no_span))) && all is_within (helper_clauses (length g + (i + 1)) (drop k T))) (sym (add-one i))

    -- it is measured by its words
    abbrev pub helper-measured : (w : Words) → WordsTo (signature_in sheet all⁺) (clause_words (helper_clause (length g + i) (term_at g sheet (get_or ts.spans i no_span)))) w → Measured all⁺ w
    helper-measured w words =
        record {
          sheet = sheet;
          clause = helper_clause (length g + i) (term_at g sheet (get_or ts.spans i no_span));
          ok = λ _. ap (λ (k : Signature). clause_ok k (helper_clause (length g + i) (term_at g sheet (get_or ts.spans i no_span)))) (signature-behind s max_helpers all⁺ h sheet)
              ∙ helper-ok g max_helpers i (term_at g sheet (get_or ts.spans i no_span)) (omega (arith, there.table.count)) (there.there i l).ok;
          words = words;
        }

  -- all were measured
  pub no-helper : TermsThere g sheet ts → (i : ℕ) → ts.count ≤ i → true ≡ all is_within (helper_clauses (length g + i) (drop i T))
  no-helper there i l = ap (λ (us : List Term). all is_within (helper_clauses (length g + i) us)) (sym (drop_of_length-le T {i = i} (omega (arith, length-terms g sheet ts there))))

  pub all-helpers : all is_within (helper_clauses (length g) T) ≡ all is_within (helper_clauses (length g + 0) (drop 0 T))
  all-helpers = let e : length g ≡ length g + 0 = omega arith in ap (λ (k : ℕ). all is_within (helper_clauses k T)) e

-- A whole line, with names of its own.
module _ (g : Signature) (sheet : List ℕ) (ts : FixedTerms) (none : ts.count ≡ 0) (c : Clause) where
  pub names-alone : names_with g sheet ts c ≡ named_terms (c ∷ [])
  unfolding named_terms
  names-alone =
      ap (λ (n : ℕ). add_terms (map (term_at g sheet) (take n ts.spans)) (clause_named c)) none ∙ ap (add_terms []) (sym (append-nil (clause_named c)))

  abbrev N : List Term
  N = named_terms (c ∷ [])

  abbrev short : Clause
  short = short_clause (length g) N c

  -- the two parts of the limit
  within_both : is_within_named (length g) c ≡ (all is_within (helper_clauses (length g) N) && (is_within short && true))
  unfolding is_within_named named_clauses
  within_both = all_append is_within (helper_clauses (length g) N) (short ∷ [])

  short-over : is_within short ≡ false → false ≡ is_within_named (length g) c
  short-over e = sym (within_both ∙ ap (λ (b : Bool). all is_within (helper_clauses (length g) N) && (b && true)) e ∙ and-false (all is_within (helper_clauses (length g) N)))

  pub same-short : short_clause (length g) (names_with g sheet ts c) c ≡ short
  same-short = ap (λ (us : List Term). short_clause (length g) us c) names-alone

  -- too many terms
  pub over-full : max_helpers < length (names_with g sheet ts c) → false ≡ is_within_named (length g) c
  over-full h = short-over (not-true (is_within short) (λ e. omega (arith, few-names (length g) c e, ap length names-alone)))

  module _ (s all⁺ : declared.Signature) (q : g ≡ signature_in sheet s) (h : HelpersBehind s max_helpers all⁺) (ok : clause_ok g c ≡ true) (r : ShortLine) (z : ShortRead g (signature_in sheet all⁺) sheet ts c r) where
    pub short_ok : length N ≤ max_helpers → clause_ok (signature_in sheet all⁺) short ≡ true
    unfolding named_clauses
    short_ok few =
        let g⁺ : Signature = g ++ replicate (length N) helper_constant in
        let both : all (clause_ok g⁺) (helper_clauses (length g) N ++ (short ∷ [])) ≡ true =
        ap (λ (k : Signature). all (clause_ok k) (helper_clauses (length g) N ++ (short ∷ []))) (sym (helpers-behind g (length N) N refl)) ∙ named_clauses-ok g (c ∷ []) (ap (λ (b : Bool). b && true) ok) in
        let last : clause_ok g⁺ short ≡ true =
        and_left (clause_ok g⁺ short) true (and_right (all (clause_ok g⁺) (helper_clauses (length g) N)) (clause_ok g⁺ short && true) (sym (all_append (clause_ok g⁺) (helper_clauses (length g) N) (short ∷ [])) ∙ both)) in
        ap (λ (k : Signature). clause_ok k short) (signature-behind s max_helpers all⁺ h sheet ∙ ap (λ (k : Signature). k ++ replicate max_helpers helper_constant) (sym q))
        ∙ clause-more g (length N) max_helpers short few last

    abbrev pub short-measured : Measured all⁺ r.words
    short-measured =
        record {
          sheet = sheet;
          clause = short_clause (length g) (names_with g sheet ts c) c;
          ok = λ few.
              let w : ShortWhole g (signature_in sheet all⁺) sheet ts c r = z.whole few in
              ap (clause_ok (signature_in sheet all⁺)) same-short ∙ short_ok (omega (arith, ap length w.found, ap length names-alone, length-terms g sheet r.terms w.there, w.there.table.count));
          words = record { long = z.long; whole = λ few. (z.whole few).passed; known = λ few. (z.whole few).known };
        }

    -- the shortened clause is over
    pub over-short : is_within (short_clause (length g) (names_with g sheet ts c) c) ≡ false → false ≡ is_within_named (length g) c
    over-short e = short-over (ap is_within (sym same-short) ∙ e)

    -- it is not: all its words were read
    module _ (e : is_within (short_clause (length g) (names_with g sheet ts c) c) ≡ true) where
      few_words : r.words.count ≤ max_words
      few_words = go (true-or-false (leb r.words.count max_words))
        where
          go : (leb r.words.count max_words ≡ true) ⊎ (leb r.words.count max_words ≡ false) → r.words.count ≤ max_words
          go (inl k) = leb-true r.words.count max_words k
          go (inr k) = absurd (both_false e (too_long (short_clause (length g) (names_with g sheet ts c) c) (z.long (leb-false r.words.count max_words k))))

      pub terms-there : TermsThere g sheet r.terms
      terms-there = (z.whole few_words).there

      pub helpers-decide : (b : Bool) → b ≡ all is_within (helper_clauses (length g) (terms_in g sheet r.terms)) → b ≡ is_within_named (length g) c
      helpers-decide b k =
          k
          ∙ ap (λ (us : List Term). all is_within (helper_clauses (length g) us)) ((z.whole few_words).found ∙ names-alone)
          ∙ sym (within_both ∙ ap (λ (x : Bool). all is_within (helper_clauses (length g) N) && (x && true)) (ap is_within (sym same-short) ∙ e) ∙ and-true (all is_within (helper_clauses (length g) N)))
