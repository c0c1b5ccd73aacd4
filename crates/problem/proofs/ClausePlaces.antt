-- A clause line: where its clause stands, and the clause lines after it.
use Prim.Native.Nat.{ℕ, suc, ◌+◌, ◌<◌}
use mathlib.Core.Path.{◌≡◌, refl, sym, ap, ◌∙◌}
use mathlib.Core.Bool.{Bool, true, false, cond}
use mathlib.Core.Option.{Option, none, some, some-injective}
use mathlib.Core.List.{List, ◌∷◌}
use native.Mathlib.Numerals.{add-one}
use native.Mathlib.Omega.{arith}
use lib.ListN.{length, drop}
use borrow.Author.Tests.{lt-ltb}
use Rattle.theory.specs.Bytes.{bytes}
use Rattle.theory.specs.Syntax.{Signature, Clause}
use Rattle.theory.specs.Grammar.{Word, Grammar, clause, misplaced, unfinished, grammar, read_words, clause_if, read_clause}
use Rattle.theory.specs.Lines.{Cut, words_of}
use Rattle.theory.specs.Refusals.{Refusal, Answer, answer, at_line, ◌>>=◌, check, or_refuse}
use Rattle.theory.specs.Problem.{key_line, read_all, within_limits, clause_of, clause_lines}
use Rattle.theory.proofs.Answers.{answer-inj, unbind, bind-step, bind-refused, or_refuse-some}
use Rattle.naming.specs.NamedReading.{is_within_named, named_clause_of, named_clause_lines}
use Rattle.text.specs.Lines.{part, LineEnd}
use Rattle.syntax.specs.Codes.{clause_in}
use Rattle.syntax.specs.declared.words.ClauseWords.{ClauseWords}
use Rattle.clauses.specs.Clauses.{ClauseRead}
use Rattle.problem.specs.Lines.{KeyRead}
use Rattle.problem.specs.Problems.{line_or, clause_from, clause_at, clause_of_in, ClauseThere}
use Rattle.problem.specs.ClausePlaces.{LineHeld, clause_lines_in, clause_line_in, clause_value, ClauseValueRead, ClauseLineRead}
use Rattle.syntax.specs.declared.faults.Fault.{Fault}
use Rattle.syntax.specs.Faults.{number_of}
use Rattle.syntax.specs.declared.faults.Fault.TheVariants as fault
use Rattle.std.specs.Prelude.{Some, None, Ok, Err}
use Rattle.std.specs.Prelude as rust

-- what reading a clause plain says
pub plain-held : (g : Signature) (value : List ℕ) (w : ClauseWords) → ClauseRead g value (Ok w) → LineHeld false g value (Ok tt)
plain-held g value w h = record { taken = (clause_in g w, λ l. sym (h.read l)); fault = tt }

pub plain-refused : (g : Signature) (value : List ℕ) (f : Fault) → ClauseRead g value (Err f) → LineHeld false g value (Err f)
plain-refused g value f h = record { taken = tt; fault = λ l. sym (h.read l) }

-- the clause that was answered is that of the line's words
known-clause : (g : Signature) (v : List ℕ) (l : ℕ) (c : Clause) (k : List Word → Clause → Answer Clause)
    → ((ws : List Word) (d : Clause) → k ws d ≡ answer c → d ≡ c)
    → (or_refuse (read_all g (words_of v)) (at_line 5 l) >>= λ ws. or_refuse (read_clause g ws) (at_line 6 l) >>= λ d. k ws d) ≡ answer c
    → (ws : List Word) × ((read_all g (words_of v) ≡ some ws) × (read_clause g ws ≡ some c))
known-clause g v l c k same e =
    unbind (or_refuse (read_all g (words_of v)) (at_line 5 l)) _ c e λ ws h e₁.
    unbind (or_refuse (read_clause g ws) (at_line 6 l)) _ c e₁ λ d h₁ e₂.
    (ws, (or_refuse-some (read_all g (words_of v)) (at_line 5 l) ws h, or_refuse-some (read_clause g ws) (at_line 6 l) d h₁ ∙ ap (λ (x : Clause). some x) (same ws d e₂)))

limit-passed : (b : Bool) (r : Refusal) (d c : Clause) → (check b r >>= λ _. answer d) ≡ answer c → d ≡ c
limit-passed b r d c e = unbind (check b r) _ c e λ _ h e₁. answer-inj d c e₁

pub line-clause : (named : Bool) (g : Signature) (v : List ℕ) (l : ℕ) (c : Clause) → clause_of_in named g l v ≡ answer c → (ws : List Word) × ((read_all g (words_of v) ≡ some ws) × (read_clause g ws ≡ some c))
unfolding clause_of named_clause_of
line-clause false g v l c e = known-clause g v l c (λ ws d. check (within_limits ws d) (at_line 7 l) >>= λ _. answer d) (λ ws d h. limit-passed (within_limits ws d) (at_line 7 l) d c h) e
line-clause true g v l c e = known-clause g v l c (λ ws d. check (is_within_named (length g) d) (at_line 7 l) >>= λ _. answer d) (λ ws d h. limit-passed (is_within_named (length g) d) (at_line 7 l) d c h) e

pub words-clause : (g : Signature) (ws : List Word) (c : Clause) → read_clause g ws ≡ some c → (read_words g ws).clause ≡ c
unfolding read_clause
words-clause g ws c e = go (grammar g ws) e
  where
    go : (t : Grammar) → clause_if t (read_words g ws).clause ≡ some c → (read_words g ws).clause ≡ c
    go clause e = some-injective (read_words g ws).clause c e
    go (misplaced i) e = let z : ◌≡◌ {A = ℕ} 0 1 = cc in absurd (omega arith)
    go unfinished e = let z : ◌≡◌ {A = ℕ} 0 1 = cc in absurd (omega arith)

-- it is the clause at the line's place
pub clause-at : (named : Bool) (sheet : List ℕ) (g : Signature) (at : ℕ) (t : ClauseThere named sheet g at) → clause_at sheet g at ≡ t.clause
clause-at named sheet g at t =
    let r = line-clause named g t.line.0 0 t.clause (t.answered 0) in
    ap (λ (o : Option Cut). clause_from g (read_all g (words_of (line_or o)))) t.cut ∙ ap (clause_from g) r.1.0 ∙ words-clause g r.0 t.clause r.1.1

-- the value is no clause within the limits
pub clause-refused : (named : Bool) (sheet : List ℕ) (from end : ℕ) (g : Signature) (f : Fault) → LineHeld named g (part sheet from end) (Err f) → ClauseValueRead named sheet from end g (Err f)
unfolding clause_value
clause-refused named sheet from end g f h =
    record { read = λ n l. sym (bind-refused (clause_of_in named g l (part sheet from end)) _ (at_line (number_of f) l) (h.fault l)); within = tt }

module _ (named : Bool) (sheet : List ℕ) (from end : ℕ) (g : Signature) (h : LineHeld named g (part sheet from end) (Ok tt)) (line : LineEnd sheet from end) (inside : end < length sheet) where
  there : ClauseThere named sheet g from
  there =
      record {
        within = omega (arith, line.from, line.within);
        line = (part sheet from end, drop (suc end) sheet);
        cut = line.cut ∙ ap (λ (b : Bool). cond b (some (part sheet from end, drop (suc end) sheet)) none) (lt-ltb end (length sheet) inside);
        clause = h.taken.0;
        answered = h.taken.1;
      }

  pub clause-read : ClauseValueRead named sheet from end g (Ok (from, end + 1))
  unfolding clause_value there
  clause-read =
      record {
        read = λ n l. ap (λ (k : ℕ). clause_lines_in named n g (suc l) (drop k sheet) >>= λ r. answer (clause_at sheet g from ∷ r.0, r.1)) (add-one end)
            ∙ ap (λ (k : Clause). clause_lines_in named n g (suc l) (drop (suc end) sheet) >>= λ r. answer (k ∷ r.0, r.1)) (clause-at named sheet g from there)
            ∙ sym (bind-step (clause_of_in named g l (part sheet from end)) _ h.taken.0 _ (h.taken.1 l) refl);
        within = (there, omega arith);
      }

-- one clause line, and those after it
lines_next : (named : Bool) (n : ℕ) (g : Signature) (l : ℕ) (text : List ℕ) → clause_lines_in named (suc n) g l text ≡ (key_line (bytes "clause=") l text >>= λ p. clause_value named g n l p)
unfolding clause_lines named_clause_lines clause_value
lines_next false n g l text = refl
lines_next true n g l text = refl

module _ (named : Bool) (sheet : List ℕ) (at : ℕ) (g : Signature) where
  pub clause-unkeyed : KeyRead sheet at (bytes "clause=") None → ClauseLineRead named sheet at g (Err fault.SheetLine)
  clause-unkeyed h =
      record {
        read = λ n l. sym (lines_next named n g l (drop at sheet) ∙ bind-refused (key_line (bytes "clause=") l (drop at sheet)) _ (at_line 2 l) (sym (h.read l)));
        within = tt;
      }

  pub clause-keyed : (from end : ℕ) (r : rust.Result (ℕ × ℕ) Fault) → KeyRead sheet at (bytes "clause=") (Some (from, end)) → ClauseValueRead named sheet from end g r → ClauseLineRead named sheet at g r
  clause-keyed from end r h v =
      record {
        read = λ n l. sym (lines_next named n g l (drop at sheet)
            ∙ bind-step (key_line (bytes "clause=") l (drop at sheet)) _ (part sheet from end, drop (suc end) sheet) (clause_line_in named sheet g n l r) (sym (h.read l)) (sym (v.read n l)));
        within = v.within;
      }
