-- The clauses of an accepted problem: how many they are, which stands at each place, and that each is within the limits.
use Prim.Native.Nat.{ℕ, ◌+◌, ◌≤◌, ◌<◌}
use mathlib.Core.Path.{◌≡◌, refl, sym, ap, ◌∙◌}
use mathlib.Core.Bool.{Bool, true, false, cond, ◌&&◌}
use mathlib.Core.List.{List, []}
use native.Mathlib.Omega.{arith}
use lib.Dec.{eqb, leb}
use lib.ListN.{length, get_or, take, length-map}
use lib.Seq.{length-take-le, take-take}
use borrow.Author.Tests.{eq-eqb, ne_eqb}
use Rattle.theory.specs.Lists.{all}
use Rattle.theory.specs.Syntax.{Signature, Clause, clause_ok}
use Rattle.theory.specs.Grammar.{clause_words}
use Rattle.theory.specs.Lines.{words_of}
use Rattle.theory.specs.Claims.Grammar.{is_declared}
use Rattle.theory.specs.WellFormed.{is_known_letter, clause_accepted}
use Rattle.theory.proofs.Tests.{eqb-true, eqb-ne, and_right}
use Rattle.theory.proofs.Lists.{all-and, all-imply, all_take}
use Rattle.theory.proofs.Parsing.{read_all-known}
use Rattle.theory.specs.Problem.{max_arity}
use Rattle.syntax.specs.declared.signature.Symbol as symbols
use Rattle.syntax.specs.declared.limits.Problem.{Problem}
use Rattle.syntax.specs.Signatures.{signature_in}
use Rattle.clauses.specs.Names.{Readable}
use Rattle.clauses.proofs.Held.{none-past}
use Rattle.naming.specs.FixedTerms.{named_terms, named_clauses}
use Rattle.naming.specs.NamedReading.{is_within, is_within_named}
use Rattle.naming.proofs.Helpers.{with_helpers}
use Rattle.naming.proofs.Limits.{lines-within}
use Rattle.naming.proofs.Places.{length-named_clauses, named-accepted}
use Rattle.shortening.proofs.NamedTable.{length-terms}
use Rattle.shortening.proofs.HelperSymbols.{signature-behind}
use Rattle.shortening.proofs.MoreSymbols.{helpers-behind}
use Rattle.problem.specs.Problems.{clause_at, sheet_signature, line_count, lines_in, problem_in, LineThere, Accepted}
use Rattle.problem.proofs.LinesThere.{clause-there, clause-of, all-clauses}
use Rattle.problem.proofs.PlainProblem.{declared-whole}

module _ (sheet : List ℕ) (p : Problem) (h : Accepted sheet p) where
  -- the declared symbols, those with the helpers, and the clauses of the lines
  abbrev g : Signature
  g = signature_in sheet (sheet_signature p)

  abbrev g⁺ : Signature
  g⁺ = signature_in sheet p.signature

  abbrev cs : List Clause
  cs = lines_in sheet p

  pub declared-held : (sheet_signature p).count ≤ length p.signature.symbols
  declared-held = omega (arith, h.readable.limited.held)

  -- the declared symbols are readable
  pub declared-readable : Readable sheet (sheet_signature p)
  declared-readable =
      let n : ℕ = (sheet_signature p).count in
      let ys : List symbols.Symbol = p.signature.symbols in
      let front : take n ys ≡ take n (take p.signature.count ys) = sym (take-take n p.signature.count ys (omega arith)) in
      record {
        limited = record {
          count = omega (arith, h.few);
          held = declared-held;
          arities = ap (all (λ (y : symbols.Symbol). leb y.arity max_arity)) front ∙ all_take (λ (y : symbols.Symbol). leb y.arity max_arity) n (take p.signature.count ys) h.readable.limited.arities;
          constants = none-past (sheet_signature p) (λ (y : symbols.Symbol). eqb y.arity 0) h.few;
        };
        names = ap (all (λ (y : symbols.Symbol). leb (y.name + y.length) (length sheet))) front
            ∙ all_take (λ (y : symbols.Symbol). leb (y.name + y.length) (length sheet)) n (take p.signature.count ys) h.readable.names;
      }

  pub line-count : length cs ≡ line_count p
  line-count = length-map (take (line_count p) p.clauses) (clause_at sheet g) ∙ length-take-le (line_count p) p.clauses h.held

  pub line_at : (k : ℕ) (l : k < line_count p) → get_or cs k [] ≡ (h.lines k l).clause
  line_at k l = clause-of sheet g p.clauses (line_count p) h.held k l ∙ clause-there sheet g (get_or p.clauses k 0) (h.lines k l)

  -- a test that every line's clause passes
  lines-all : (q : Clause → Bool) → ((at : ℕ) (t : LineThere sheet g at) → q t.clause ≡ true) → all q cs ≡ true
  lines-all q f =
      all-clauses sheet g p.clauses (line_count p) h.held q
      (λ k l. ap q (clause-there sheet g (get_or p.clauses k 0) (h.lines k l)) ∙ f (get_or p.clauses k 0) (h.lines k l))

  pub lines_ok : all (clause_ok g) cs ≡ true
  lines_ok = lines-all (clause_ok g) (λ at t. t.ok)

  lines-letters : all (λ c. all is_known_letter (clause_words c)) cs ≡ true
  lines-letters =
      lines-all (λ c. all is_known_letter (clause_words c))
      (λ at t. all-imply (λ x. is_declared g x && is_known_letter x) is_known_letter (clause_words t.clause) (λ x. and_right (is_declared g x) (is_known_letter x)) (read_all-known g (words_of t.line.0) (clause_words t.clause) t.words))

  -- read plain
  module _ (none : p.terms.count ≡ 0) where
    pub clauses-plain : (problem_in sheet p).clauses ≡ cs
    unfolding problem_in
    clauses-plain = ap (λ (b : Bool). cond b cs (named_clauses (length g) cs)) (eq-eqb p.terms.count 0 none)

    pub symbols-plain : g ≡ g⁺
    symbols-plain = ap (signature_in sheet) (declared-whole sheet p none)

  -- with helpers
  module _ (some : p.terms.count ≡ 0 → ⊥) where
    pub clauses-named : (problem_in sheet p).clauses ≡ named_clauses (length g) cs
    unfolding problem_in
    clauses-named = ap (λ (b : Bool). cond b cs (named_clauses (length g) cs)) (ne_eqb p.terms.count 0 some)

    pub named_count : length (named_terms cs) ≡ p.terms.count
    named_count = ap length (sym (h.found some)) ∙ length-terms g sheet p.terms h.terms

    pub symbols-named : g⁺ ≡ with_helpers g (named_terms cs)
    symbols-named = signature-behind (sheet_signature p) p.terms.count p.signature h.behind sheet ∙ sym (helpers-behind g p.terms.count (named_terms cs) named_count)

  pub clause-count : length (problem_in sheet p).clauses ≡ p.count
  clause-count = go (eqb p.terms.count 0) refl
    where
      go : (b : Bool) → eqb p.terms.count 0 ≡ b → length (problem_in sheet p).clauses ≡ p.count
      go true e = let z : p.terms.count ≡ 0 = eqb-true p.terms.count 0 e in ap length (clauses-plain z) ∙ omega (arith, line-count)
      go false e =
          let ne : p.terms.count ≡ 0 → ⊥ = eqb-ne p.terms.count 0 e in
          ap length (clauses-named ne) ∙ omega (arith, length-named_clauses (length g) cs, named_count ne, line-count, h.helpers)

  pub clauses-accepted : all (clause_accepted g⁺) (problem_in sheet p).clauses ≡ true
  clauses-accepted = go (eqb p.terms.count 0) refl
    where
      go : (b : Bool) → eqb p.terms.count 0 ≡ b → all (clause_accepted g⁺) (problem_in sheet p).clauses ≡ true
      go true e =
          let z : p.terms.count ≡ 0 = eqb-true p.terms.count 0 e in
          ap (λ (ds : List Clause). all (clause_accepted g⁺) ds) (clauses-plain z)
          ∙ ap (λ (k : Signature). all (clause_accepted k) cs) (sym (symbols-plain z))
          ∙ all-and (λ c. clause_ok g c && is_within c) (λ c. all is_known_letter (clause_words c)) cs
          (all-and (clause_ok g) is_within cs lines_ok (ap (all is_within) (sym (clauses-plain z)) ∙ h.within)) lines-letters
      go false e =
          let ne : p.terms.count ≡ 0 → ⊥ = eqb-ne p.terms.count 0 e in
          let within : all (is_within_named (length g)) cs ≡ true = sym (lines-within g cs lines_ok) ∙ ap (all is_within) (sym (clauses-named ne)) ∙ h.within in
          ap (λ (ds : List Clause). all (clause_accepted g⁺) ds) (clauses-named ne)
          ∙ ap (λ (k : Signature). all (clause_accepted k) (named_clauses (length g) cs)) (symbols-named ne)
          ∙ named-accepted g cs
          (all-and (λ c. clause_ok g c && all is_known_letter (clause_words c)) (is_within_named (length g)) cs (all-and (clause_ok g) (λ c. all is_known_letter (clause_words c)) cs lines_ok lines-letters) within)
