-- The words of a whole clause line: whether they are a clause, and within the limits.
use Prim.Native.Nat.{ℕ, zero, suc, ◌+◌, ◌≤◌, ◌<◌}
use mathlib.Core.Path.{◌≡◌, refl, sym, ap, ◌∙◌}
use mathlib.Core.Bool.{Bool, true, false, cond, ◌&&◌}
use mathlib.Core.Option.{Option, none, some, some-injective}
use mathlib.Core.List.{List, [], ◌∷◌, map}
use native.Mathlib.Omega.{arith}
use lib.Dec.{leb}
use lib.ListN.{length}
use lib.Seq.{take_all}
use borrow.Author.Tests.{le-leb, lt-leb}
use Rattle.theory.specs.Lists.{all, sum}
use Rattle.theory.specs.Syntax.{Kind, function, predicate, Signature, symbol_at, Clause}
use Rattle.theory.specs.Grammar.{Word, sign, equals, symbol, letter, Due, terms, atom, due_after, Grammar, clause, misplaced, unfinished, grammar_from, grammar, read_symbol, read_words, clause_if, read_clause}
use Rattle.theory.specs.Lines.{words_of}
use Rattle.theory.specs.Flattening.{flatten, variable_count}
use Rattle.theory.specs.Refusals.{Answer, answer, at_line, ◌>>=◌, check, or_refuse}
use Rattle.theory.specs.Problem.{max_words, max_literals, max_variables, read_all, within_limits, clause_of}
use Rattle.theory.specs.Claims.Grammar.{is_declared}
use Rattle.theory.specs.WellFormed.{is_known_letter}
use Rattle.theory.proofs.Tests.{leb-true, and_left, and_right}
use Rattle.theory.proofs.Lists.{all-imply}
use Rattle.theory.proofs.Answers.{bind-step, bind-refused, or_refuse-of-some, or_refuse-of-none, check-of-true, check-of-false}
use Rattle.theory.proofs.Parsing.{read_all-known}
use Rattle.syntax.specs.declared.words.ClauseWords.{ClauseWords}
use Rattle.syntax.specs.declared.signature.Signature as declared
use Rattle.std.specs.Prelude.{Ok, Err}
use Rattle.syntax.specs.declared.faults.Fault.TheVariants as fault
use Rattle.syntax.specs.Signatures.{signature_in, Arities, Small}
use Rattle.syntax.specs.Codes.{words_in, clause_in, is_known, IsClause}
use Rattle.shallow.specs.Flattenable.{Flattenable}
use Rattle.clauses.specs.declared.clause.Words.{Words}
use Rattle.clauses.specs.Grammar.{due_in, due_after_all, is_finished}
use Rattle.clauses.specs.Names.{Limited}
use Rattle.clauses.specs.Clauses.{sign_count, Passed, codes_of, WholeClause, AcceptedWords, ClauseRead}

module _ (g : Signature) where
  nothing-due : (ws : List Word) → due_after_all g none ws ≡ none
  unfolding due_after_all
  nothing-due [] = refl
  nothing-due (w ∷ ws) = nothing-due ws

  -- words are a clause exactly if they may end where they do
  finished-clause : (ws : List Word) (i : ℕ) (d : Due) (c : Clause) → clause_if (grammar_from g i d ws) c ≡ cond (is_finished (due_after_all g (some d) ws)) (some c) none
  unfolding due_after_all
  finished-clause [] i (terms zero) c = refl
  finished-clause [] i (terms (suc n)) c = refl
  finished-clause [] i atom c = refl
  finished-clause (w ∷ ws) i d c = go (due_after g d w) (λ e. finished-clause ws (suc i) e c)
    where
      go : (o : Option Due) → ((e : Due) → clause_if (grammar_from g (suc i) e ws) c ≡ cond (is_finished (due_after_all g (some e) ws)) (some c) none)
          → clause_if (elim o as (λ _. Grammar) [ some e ↦ grammar_from g (suc i) e ws | none ↦ misplaced i ]) c ≡ cond (is_finished (due_after_all g o ws)) (some c) none
      go none ih = ap (λ (o : Option Due). cond (is_finished o) (some c) none) (sym (nothing-due ws))
      go (some e) ih = ih e

  -- the grammar's own answer
  clause-of : (t : Grammar) (x c : Clause) → clause_if t x ≡ some c → (t ≡ clause) × (x ≡ c)
  clause-of clause x c e = (refl, some-injective x c e)
  clause-of (misplaced i) x c e = let z : ◌≡◌ {A = ℕ} 0 1 = cc in absurd (omega arith)
  clause-of unfinished x c e = let z : ◌≡◌ {A = ℕ} 0 1 = cc in absurd (omega arith)

  -- a literal was read for each sign
  literal-count : (ws : List Word) → length (read_words g ws).clause ≡ sum (map sign_count ws)
  literal-count [] = refl
  literal-count (sign b ∷ ws) = omega (arith, literal-count ws)
  literal-count (equals ∷ ws) = omega (arith, literal-count ws)
  literal-count (symbol i ∷ ws) = go (symbol_at g i).kind (literal-count ws)
    where
      go : (k : Kind) → length (read_words g ws).clause ≡ sum (map sign_count ws) → length (read_symbol k i (symbol_at g i).arity (read_words g ws)).clause ≡ 0 + sum (map sign_count ws)
      go function h = omega arith
      go predicate h = omega arith
  literal-count (letter x ∷ ws) = omega (arith, literal-count ws)

  known : (w : Word) → (is_declared g w && is_known_letter w) ≡ true → is_known g w ≡ true
  known (sign b) e = refl
  known equals e = refl
  known (symbol i) e = and_left (is_declared g (symbol i)) true e
  known (letter x) e = e

-- Words of a clause that were read, and what their codes are.
module _ (g : Signature) (ws : List Word) (w : Words) (p : Passed g ws w) (c : Clause) (read : read_clause g ws ≡ some c) (ok : all (is_known g) ws ≡ true) where
  written : (read_words g ws).clause ≡ c
  unfolding read_clause
  written = (clause-of g (grammar g ws) (read_words g ws).clause c read).1

  literals-read : length c ≡ w.literals
  literals-read = ap length (sym written) ∙ literal-count g ws ∙ sym p.literals

  -- the three tests of the limits
  limits : (a b d : Bool) → leb (length ws) max_words ≡ a → leb (length c) max_literals ≡ b → leb (variable_count (flatten c)) max_variables ≡ d → within_limits ws c ≡ (a && b && d)
  unfolding within_limits
  limits a b d x y z = rw (x, y, z)

  pub many-words : 64 < w.count → false ≡ within_limits ws c
  many-words k = sym (limits false _ _ (lt-leb (length ws) max_words (omega (arith, p.count))) refl refl)

  module _ (few : w.count ≤ 64) where
    pub many-literals : 16 < w.literals → false ≡ within_limits ws c
    many-literals k = sym (limits true false _ (le-leb (length ws) max_words (omega (arith, p.count))) (lt-leb (length c) max_literals (omega (arith, literals-read))) refl)

    coded-words : words_in (codes_of w) ≡ ws
    coded-words = p.codes ∙ take_all max_words ws (omega (arith, p.count))

    pub clause_in-coded : clause_in g (codes_of w) ≡ c
    unfolding clause_in
    clause_in-coded = ap (λ (ws : List Word). (read_words g ws).clause) coded-words ∙ written

    pub coded-clause : IsClause g (codes_of w)
    unfolding read_clause
    coded-clause = record { fits = few; known = ap (all (is_known g)) coded-words ∙ ok; grammatical = ap (grammar g) coded-words ∙ (clause-of g (grammar g ws) (read_words g ws).clause c read).0 }

    module _ (short : w.literals ≤ 16) where
      pub coded-literals : length (clause_in g (codes_of w)) ≤ max_literals
      coded-literals = omega (arith, ap length clause_in-coded, literals-read)

      -- it can be flattened
      abbrev pub flattenable : (x : ClauseWords) → x ≡ codes_of w → (arities : List ℕ) → Arities g arities → Small g → Flattenable arities x
      flattenable x e arities table small = record { signature = g; table = table; small = small; clause = rw e coded-clause; literals = rw e coded-literals }

      pub by-variables : (x : ClauseWords) → x ≡ codes_of w → (n : ℕ) → n ≡ variable_count (flatten (clause_in g x)) → leb n 10 ≡ within_limits ws c
      by-variables x e n h =
          let k : variable_count (flatten c) ≡ n = sym (h ∙ ap (λ (y : ClauseWords). variable_count (flatten (clause_in g y))) e ∙ ap (λ (d : Clause). variable_count (flatten d)) clause_in-coded) in
          sym (limits true true (leb n 10) (le-leb (length ws) max_words (omega (arith, p.count))) (le-leb (length c) max_literals (omega (arith, literals-read))) (ap (λ (m : ℕ). leb m 10) k))

  -- words within the limits
  pub accepted : within_limits ws c ≡ true → AcceptedWords g (codes_of w)
  unfolding within_limits
  accepted h =
      let x : Bool = leb (length ws) max_words in
      let y : Bool = leb (length c) max_literals in
      let z : Bool = leb (variable_count (flatten c)) max_variables in
      let few : w.count ≤ 64 = omega (arith, p.count, leb-true (length ws) max_words (and_left x y (and_left (x && y) z h))) in
      let short : length c ≤ max_literals = leb-true (length c) max_literals (and_right x y (and_left (x && y) z h)) in
      let low : variable_count (flatten c) ≤ max_variables = leb-true (variable_count (flatten c)) max_variables (and_right (x && y) z h) in
      record {
        clause = coded-clause few;
        literals = omega (arith, ap length (clause_in-coded few));
        variables = omega (arith, ap (λ (d : Clause). variable_count (flatten d)) (clause_in-coded few));
      }

  pub accepted-clause : within_limits ws c ≡ true → clause_in g (codes_of w) ≡ c
  unfolding within_limits
  accepted-clause h =
      let x : Bool = leb (length ws) max_words in
      let y : Bool = leb (length c) max_literals in
      let z : Bool = leb (variable_count (flatten c)) max_variables in
      clause_in-coded (omega (arith, p.count, leb-true (length ws) max_words (and_left x y (and_left (x && y) z h))))

module _ (g : Signature) (value : List ℕ) where
  -- a word is unknown
  pub unknown-word : read_all g (words_of value) ≡ none → ClauseRead g value (Err fault.Word)
  unfolding clause_of
  unknown-word e =
      record {
        read = λ l. sym (bind-refused (or_refuse (read_all g (words_of value)) (at_line 5 l)) _ (at_line 5 l) (or_refuse-of-none (read_all g (words_of value)) (at_line 5 l) e));
        accepted = tt;
      }

  -- all words are known
  module _ (ws : List Word) (e : read_all g (words_of value) ≡ some ws) where
    pub known-words : all (is_known g) ws ≡ true
    known-words = all-imply (λ x. is_declared g x && is_known_letter x) (is_known g) ws (known g) (read_all-known g (words_of value) ws e)

    words-read : (l : ℕ) (a : Answer Clause) → (or_refuse (read_clause g ws) (at_line 6 l) >>= λ c. check (within_limits ws c) (at_line 7 l) >>= λ _. answer c) ≡ a → clause_of g l value ≡ a
    unfolding clause_of
    words-read l a h = bind-step (or_refuse (read_all g (words_of value)) (at_line 5 l)) _ ws a (or_refuse-of-some (read_all g (words_of value)) (at_line 5 l) ws e) h

    module _ (w : Words) (p : Passed g ws w) where
      pub clause-read : (b : Bool) → is_finished (due_in w.due) ≡ b → read_clause g ws ≡ cond b (some (read_words g ws).clause) none
      unfolding read_clause grammar
      clause-read b h = finished-clause g ws 0 (terms 0) (read_words g ws).clause ∙ ap (λ (b : Bool). cond b (some (read_words g ws).clause) none) (ap is_finished (sym p.due) ∙ h)

      -- they are no clause
      pub no-clause : is_finished (due_in w.due) ≡ false → ClauseRead g value (Err fault.Clause)
      no-clause h =
          record {
            read = λ l. sym (words-read l _ (bind-refused (or_refuse (read_clause g ws) (at_line 6 l)) _ (at_line 6 l) (or_refuse-of-none (read_clause g ws) (at_line 6 l) (clause-read false h))));
            accepted = tt;
          }

      -- they are the clause c
      module _ (c : Clause) (read : read_clause g ws ≡ some c) where
        held_to : (l : ℕ) (a : Answer Clause) → (check (within_limits ws c) (at_line 7 l) >>= λ _. answer c) ≡ a → clause_of g l value ≡ a
        held_to l a k = words-read l a (bind-step (or_refuse (read_clause g ws) (at_line 6 l)) _ c a (or_refuse-of-some (read_clause g ws) (at_line 6 l) c read) k)

        pub over : within_limits ws c ≡ false → ClauseRead g value (Err fault.ClauseLimits)
        over h =
            record {
              read = λ l. sym (held_to l _ (bind-refused (check (within_limits ws c) (at_line 7 l)) _ (at_line 7 l) (check-of-false (within_limits ws c) (at_line 7 l) h)));
              accepted = tt;
            }

        pub within : within_limits ws c ≡ true → ClauseRead g value (Ok (codes_of w))
        within h =
            record {
              read = λ l. ap answer (accepted-clause g ws w p c read known-words h) ∙ sym (held_to l _ (bind-step (check (within_limits ws c) (at_line 7 l)) _ tt _ (check-of-true (within_limits ws c) (at_line 7 l) h) refl));
              accepted = accepted g ws w p c read known-words h;
            }

-- the words of a line that are a clause
abbrev pub whole-clause : (sheet : List ℕ) (signature : declared.Signature) → Limited signature → (value : List ℕ) (ws : List Word) → read_all (signature_in sheet signature) (words_of value) ≡ some ws
    → (w : Words) → Passed (signature_in sheet signature) ws w → is_finished (due_in w.due) ≡ true → WholeClause signature w
whole-clause sheet signature limited value ws e w p h =
    let g : Signature = signature_in sheet signature in
    record { sheet = sheet; limited = limited; words = ws; passed = p; known = known-words g value ws e; clause = (read_words g ws).clause; read = clause-read g value ws e w p true h }
