-- The named terms of clauses, collected one clause after the other.
use Prim.Native.Nat.{ℕ, suc, ◌+◌, ◌≤◌, ◌<◌}
use mathlib.Core.Path.{◌≡◌, sym, ap, ◌∙◌}
use mathlib.Core.Logic.{◌⊎◌, inl, inr}
use mathlib.Core.Bool.{true, false}
use mathlib.Core.List.{List, [], map}
use native.Mathlib.Numerals.{add-one}
use native.Mathlib.Omega.{arith}
use lib.Dec.{leb}
use lib.ListN.{length, get_or, take, drop, length-append, drop_of_length-le}
use lib.Seq.{drop-cons}
use Rattle.theory.specs.Lists.{concat_map}
use Rattle.theory.specs.Syntax.{Signature, Term, Clause}
use Rattle.theory.specs.Flattening.{add_terms}
use Rattle.theory.specs.Problem.{max_words}
use Rattle.theory.proofs.Tests.{true-or-false, leb-true, leb-false}
use Rattle.theory.proofs.Growing.{add_terms-append, add_terms-extends}
use Rattle.syntax.specs.declared.terms.FixedTerms.{FixedTerms}
use Rattle.naming.specs.FixedTerms.{clause_named, named_terms}
use Rattle.naming.specs.NamedReading.{max_helpers, is_within_named}
use Rattle.shortening.specs.declared.short.ShortLine.{ShortLine}
use Rattle.shortening.specs.Tables.{term_at, terms_in, TermsThere}
use Rattle.shortening.specs.ShortLines.{names_with, Shortened, ShortRead}
use Rattle.shortening.proofs.ShortLengths.{short-within}
use Rattle.problem.specs.NamedTerms.{TermsNamed}
use Rattle.std.specs.Prelude.{Some, None}

module _ (g g⁺ : Signature) (sheet : List ℕ) (cs : List Clause) where
  -- those of the clauses before k are in the table
  pub record TermsTo (terms : FixedTerms) (k : ℕ) : Type 0 where
    pub within : k ≤ length cs
    pub there : TermsThere g sheet terms
    pub found : named_terms cs ≡ add_terms (terms_in g sheet terms) (concat_map clause_named (drop k cs))

  pub begins : (terms : FixedTerms) → terms.count ≡ 0 → TermsThere g sheet terms → TermsTo terms 0
  unfolding named_terms
  begins terms e there =
      record { within = omega arith; there = there; found = ap (λ (n : ℕ). add_terms (map (term_at g sheet) (take n terms.spans)) (concat_map clause_named cs)) (sym e) }

  module _ (terms : FixedTerms) (k : ℕ) (z : TermsTo terms k) (l : k < length cs) where
    abbrev c : Clause
    c = get_or cs k []

    -- the next clause's terms, then those of the clauses behind it
    next : named_terms cs ≡ add_terms (names_with g sheet terms c) (concat_map clause_named (drop (k + 1) cs))
    next =
        z.found
        ∙ ap (λ (ds : List Clause). add_terms (terms_in g sheet terms) (concat_map clause_named ds)) (drop-cons cs k [] l)
        ∙ add_terms-append (terms_in g sheet terms) (clause_named c) (concat_map clause_named (drop (suc k) cs))
        ∙ ap (λ (n : ℕ). add_terms (names_with g sheet terms c) (concat_map clause_named (drop n cs))) (sym (add-one k))

    -- too many
    pub overflows : Shortened g g⁺ sheet terms c None → max_helpers < length (named_terms cs)
    overflows full =
        let x = add_terms-extends (names_with g sheet terms c) (concat_map clause_named (drop (k + 1) cs)) in
        omega (arith, full, ap length (next ∙ x.1), length-append (names_with g sheet terms c) x.0)

    module _ (r : ShortLine) (s : ShortRead g g⁺ sheet terms c r) where
      pub goes_on : is_within_named (length g) c ≡ true → TermsTo r.terms (k + 1)
      goes_on within =
          let w = s.whole (few (true-or-false (leb r.words.count max_words))) in
          record {
            within = omega arith;
            there = w.there;
            found = next ∙ ap (λ (found : List Term). add_terms found (concat_map clause_named (drop (k + 1) cs))) (sym w.found);
          }
        where
          few : (leb r.words.count max_words ≡ true) ⊎ (leb r.words.count max_words ≡ false) → r.words.count ≤ max_words
          few (inl h) = leb-true r.words.count max_words h
          few (inr h) = absurd (omega (arith, s.long (leb-false r.words.count max_words h), short-within (length g) (names_with g sheet terms c) c within))

  pub all_named : (terms : FixedTerms) (k : ℕ) → TermsTo terms k → length cs ≤ k → TermsNamed g sheet cs (Some terms)
  all_named terms k z l =
      record {
        full = tt;
        there = z.there;
        found = sym (z.found ∙ ap (λ (ds : List Clause). add_terms (terms_in g sheet terms) (concat_map clause_named ds)) (drop_of_length-le cs {i = k} l));
      }

  pub too_many : max_helpers < length (named_terms cs) → TermsNamed g sheet cs None
  too_many h = record { full = h; there = tt; found = tt }
