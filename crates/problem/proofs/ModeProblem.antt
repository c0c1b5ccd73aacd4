-- A problem read in the mode: the one handed in with a helper for each term that is named.
use Prim.Native.Nat.{ℕ, zero, suc, ◌+◌, ◌≤◌, ◌<◌}
use mathlib.Core.Path.{◌≡◌, refl, sym, ap, ◌∙◌, subst}
use mathlib.Core.Bool.{Bool, true, false, cond}
use mathlib.Core.List.{List, [], ◌∷◌, ◌++◌, map}
use native.Mathlib.Omega.{arith}
use lib.Dec.{eqb, leb}
use lib.ListN.{length, get_or, take, replicate, length-append, length-replicate}
use lib.Seq.{take-take, take-append_seam, length-take-le}
use borrow.Author.Tests.{le-leb, lt-leb}
use Rattle.theory.specs.Lists.{all, select}
use Rattle.theory.specs.Syntax.{is_function, Symbol, Signature, functions, Term, Clause}
use Rattle.theory.specs.Problem as theory
use Rattle.theory.specs.Refusals.{Answer, answer, refused, at_line, unplaced, ◌>>=◌, check}
use Rattle.theory.proofs.Tests.{eqb-true, and-join}
use Rattle.theory.proofs.Lists.{select-append, select-all}
use Rattle.theory.proofs.Answers.{bind-step, bind-refused, check-of-true, check-of-false}
use Rattle.syntax.specs.declared.limits.Problem.{Problem}
use Rattle.syntax.specs.declared.signature.Symbol as symbols
use Rattle.syntax.specs.declared.signature.Signature as declared
use Rattle.syntax.specs.declared.terms.FixedTerms.{FixedTerms}
use Rattle.syntax.specs.Signatures.{max_declared, symbol_in, signature_in}
use Rattle.clauses.proofs.Held.{count-signature_in}
use Rattle.naming.specs.FixedTerms.{named_terms, named_clauses}
use Rattle.naming.specs.NamedProblem.{helper_constant, in_mode}
use Rattle.naming.specs.NamedReading.{max_helpers, is_within, read_named}
use Rattle.naming.proofs.Limits.{lines-within}
use Rattle.naming.proofs.Places.{none_named}
use Rattle.shortening.specs.Tables.{terms_in, TermsThere}
use Rattle.shortening.specs.HelperWords.{helper_symbol, HelpersBehind}
use Rattle.shortening.proofs.NamedTable.{length-terms}
use Rattle.shortening.proofs.HelperSymbols.{signature-behind, readable-behind}
use Rattle.shortening.proofs.MoreSymbols.{helpers-behind}
use Rattle.problem.specs.declared.sections.SheetFault.{SheetFault}
use Rattle.syntax.specs.Faults.{number_of}
use Rattle.std.specs.Prelude.{Ok, Err}
use Rattle.std.specs.Prelude as rust
use Rattle.problem.specs.Problems.{clause_at, handed_in, sheet_signature, line_count, lines_in, problem_in, reading_of, HandedIn, LineThere, Accepted}
use Rattle.problem.specs.Stages.{ProblemRead, read_lines_in, few_helpers}
use Rattle.problem.proofs.LinesThere.{line-there}
use Rattle.problem.proofs.Handed.{handed-ok, named-limits}

-- the problem with helpers
abbrev pub helped : Problem → declared.Signature → FixedTerms → Problem
helped p s⁺ ts = record { signature = s⁺; functions = p.functions + ts.count; clauses = p.clauses; count = p.count + ts.count; terms = ts; symmetry = false }

module _ (sheet : List ℕ) (p : Problem) (h : HandedIn true sheet p) (s⁺ : declared.Signature) (ts : FixedTerms) (b : HelpersBehind p.signature ts.count s⁺) where
  abbrev s : declared.Signature
  s = p.signature

  abbrev g : Signature
  g = signature_in sheet s

  abbrev cs : List Clause
  cs = (handed_in sheet p).clauses

  abbrev q : Problem
  q = helped p s⁺ ts

  -- before the helpers stand the declared symbols
  front : take (sheet_signature q).count s⁺.symbols ≡ take s.count s.symbols
  front =
      let n : (sheet_signature q).count ≡ s.count = omega (arith, b.count) in
      let full : length (take s.count s.symbols) ≡ s.count = length-take-le s.count s.symbols h.readable.limited.held in
      ap (λ (k : ℕ). take k s⁺.symbols) n
      ∙ sym (take-take s.count s⁺.count s⁺.symbols (omega (arith, b.count)))
      ∙ ap (take s.count) b.symbols
      ∙ ap (λ (k : ℕ). take k (take s.count s.symbols ++ replicate ts.count helper_symbol)) (sym full)
      ∙ take-append_seam (take s.count s.symbols) (replicate ts.count helper_symbol)

  pub same-declared : signature_in sheet (sheet_signature q) ≡ g
  unfolding signature_in
  same-declared = ap (map (symbol_in sheet)) front

  same_lines : lines_in sheet q ≡ cs
  unfolding handed_in
  same_lines =
      let n : line_count q ≡ p.count = omega arith in
      ap (λ (k : Signature). map (clause_at sheet k) (take (line_count q) p.clauses)) same-declared ∙ ap (λ (k : ℕ). map (clause_at sheet g) (take k p.clauses)) n

  module _ (there : TermsThere g sheet ts) (found : terms_in g sheet ts ≡ named_terms cs) where
    counted : length (named_terms cs) ≡ ts.count
    counted = ap length (sym found) ∙ length-terms g sheet ts there

    -- its clauses are those that the mode has
    pub clauses-named : (problem_in sheet q).clauses ≡ named_clauses (length g) cs
    unfolding problem_in
    clauses-named =
        ap (λ (k : Signature). cond (eqb ts.count 0) (lines_in sheet q) (named_clauses (length k) (lines_in sheet q))) same-declared
        ∙ ap (λ (ds : List Clause). cond (eqb ts.count 0) ds (named_clauses (length g) ds)) same_lines
        ∙ go (eqb ts.count 0) refl
      where
        no-terms : (us : List Term) → length us ≡ 0 → us ≡ []
        no-terms [] e = refl
        no-terms (u ∷ us) e = absurd (omega arith)

        go : (x : Bool) → eqb ts.count 0 ≡ x → cond x cs (named_clauses (length g) cs) ≡ named_clauses (length g) cs
        go true e = sym (none_named (length g) cs (no-terms (named_terms cs) (counted ∙ eqb-true ts.count 0 e)))
        go false e = refl

    pub problem-in-mode : problem_in sheet q ≡ in_mode (handed_in sheet p)
    unfolding problem_in in_mode handed_in
    problem-in-mode =
        ap (λ (ds : List Clause). record { symbols = signature_in sheet s⁺; clauses = ds }) clauses-named
        ∙ ap (λ (k : Signature). record { symbols = k; clauses = named_clauses (length g) cs }) (signature-behind s ts.count s⁺ b sheet ∙ sym (helpers-behind g ts.count (named_terms cs) counted))

    functions_more : length (functions (signature_in sheet s⁺)) ≡ length (functions g) + ts.count
    functions_more =
        let test : Symbol → Bool = λ (f : Symbol). is_function f.kind in
        let hs : Signature = replicate ts.count helper_constant in
        ap (λ (k : Signature). length (functions k)) (signature-behind s ts.count s⁺ b sheet)
        ∙ ap length (select-append test g hs ∙ ap (λ (k : Signature). functions g ++ k) (select-all test hs (all-functions ts.count)))
        ∙ length-append (functions g) hs
        ∙ ap (λ (n : ℕ). length (functions g) + n) (length-replicate {A = Symbol} ts.count helper_constant)
      where
        all-functions : (n : ℕ) → all (λ (f : Symbol). is_function f.kind) (replicate n helper_constant) ≡ true
        all-functions zero = refl
        all-functions (suc n) = and-join true (all (λ (f : Symbol). is_function f.kind) (replicate n helper_constant)) refl (all-functions n)

    pub mode-accepted : Accepted sheet q
    mode-accepted =
        record {
          readable = readable-behind s ts.count s⁺ b sheet h.readable h.few (omega (arith, h.few, there.table.count));
          functions = omega (arith, h.functions, functions_more);
          count = omega (arith, h.count, there.table.count);
          few = omega (arith, b.count, h.few);
          behind = record { count = omega (arith, b.count); symbols = b.symbols ∙ ap (λ (l : List symbols.Symbol). l ++ replicate ts.count helper_symbol) (sym front) };
          helpers = omega arith;
          most = omega (arith, h.count);
          held = omega (arith, h.held);
          lines = λ k l. subst (λ (g : Signature). LineThere sheet g (get_or p.clauses k 0)) (sym same-declared) (line-there true sheet g (get_or p.clauses k 0) (h.clauses k (omega arith)));
          terms = subst (λ (g : Signature). TermsThere g sheet ts) (sym same-declared) there;
          found = λ _. ap (λ (k : Signature). terms_in k sheet ts) same-declared ∙ found ∙ ap named_terms (sym same_lines);
          within = ap (all is_within) clauses-named ∙ lines-within g cs (handed-ok true sheet p h) ∙ named-limits sheet p h;
        }

    -- what is answered
    pub mode-read : reading_of sheet (Ok q) ≡ (few_helpers (handed_in sheet p) >>= λ x. answer (in_mode x))
    mode-read =
        ap answer problem-in-mode
        ∙ sym (bind-step (few_helpers (handed_in sheet p)) _ (handed_in sheet p) _
        (bind-step (check (leb (length (named_terms cs)) max_helpers) (unplaced 21)) _ tt _ (check-of-true (leb (length (named_terms cs)) max_helpers) (unplaced 21) (le-leb (length (named_terms cs)) max_helpers (omega (arith, counted, there.table.count)))) refl) refl)

-- too many terms
pub mode-refused : (sheet : List ℕ) (p : Problem) → max_helpers < length (named_terms (handed_in sheet p).clauses) → refused (unplaced 21) ≡ (few_helpers (handed_in sheet p) >>= λ x. answer (in_mode x))
mode-refused sheet p many =
    let cs : List Clause = (handed_in sheet p).clauses in
    sym (bind-refused (few_helpers (handed_in sheet p)) _ (unplaced 21)
    (bind-refused (check (leb (length (named_terms cs)) max_helpers) (unplaced 21)) _ (unplaced 21) (check-of-false (leb (length (named_terms cs)) max_helpers) (unplaced 21) (lt-leb (length (named_terms cs)) max_helpers many))))

-- after the lines
module _ (sheet : List ℕ) (whole : read_named sheet ≡ (read_lines_in true sheet >>= few_helpers)) where
  -- they are refused
  pub lines-refused : (f : SheetFault) → ProblemRead true sheet (read_lines_in true sheet) (Err f) → reading_of sheet (Err f) ≡ (read_named sheet >>= λ x. answer (in_mode x))
  lines-refused f z =
      sym (bind-refused (read_named sheet) _ (at_line (number_of f.fault) f.line) (whole ∙ bind-refused (read_lines_in true sheet) _ (at_line (number_of f.fault) f.line) (sym z.read)))

  -- they are not
  pub lines-taken : (p : Problem) (q : rust.Result Problem SheetFault) → ProblemRead true sheet (read_lines_in true sheet) (Ok p)
      → reading_of sheet q ≡ (few_helpers (handed_in sheet p) >>= λ x. answer (in_mode x)) → reading_of sheet q ≡ (read_named sheet >>= λ x. answer (in_mode x))
  lines-taken p q z e =
      e ∙ ap (λ (a : Answer theory.Problem). a >>= λ x. answer (in_mode x)) (sym (whole ∙ bind-step (read_lines_in true sheet) _ (handed_in sheet p) _ (sym z.read) refl))

pub select-fewer : {A : Type 0} (test : A → Bool) (xs : List A) → length (select test xs) ≤ length xs
select-fewer test [] = omega arith
select-fewer {A = A} test (x ∷ xs) = go (test x) (select-fewer test xs)
  where
    go : (b : Bool) → length (select test xs) ≤ length xs → length (cond b (x ∷ select test xs) (select test xs)) ≤ suc (length xs)
    go true h = omega arith
    go false h = omega arith

pub functions-few : (named : Bool) (sheet : List ℕ) (p : Problem) → HandedIn named sheet p → p.functions ≤ max_declared
functions-few named sheet p h =
    omega (arith, h.functions, select-fewer (λ (f : Symbol). is_function f.kind) (signature_in sheet p.signature), count-signature_in p.signature h.readable.limited sheet, h.few)
