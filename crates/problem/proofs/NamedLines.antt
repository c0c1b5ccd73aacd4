-- A clause line in the mode: its words are unknown, no clause, over the limits of the mode, or a clause within them.
use Prim.Native.Nat.{ℕ}
use mathlib.Core.Path.{◌≡◌, refl, sym, ap, ◌∙◌}
use mathlib.Core.Bool.{true, false, ◌&&◌}
use mathlib.Core.Option.{none, some}
use mathlib.Core.List.{List}
use lib.ListN.{length}
use Rattle.theory.specs.Lists.{all}
use Rattle.theory.specs.Lines.{words_of}
use Rattle.theory.specs.Syntax.{Signature, Clause, clause_ok}
use Rattle.theory.specs.Grammar.{Word, clause_words, read_clause}
use Rattle.theory.specs.Refusals.{Answer, answer, at_line, ◌>>=◌, check, or_refuse}
use Rattle.theory.specs.Problem.{read_all}
use Rattle.theory.specs.Claims.Grammar.{is_declared}
use Rattle.theory.specs.WellFormed.{is_known_letter}
use Rattle.theory.proofs.Tests.{and_left}
use Rattle.theory.proofs.Lists.{all-imply}
use Rattle.theory.proofs.Answers.{bind-step, bind-refused, check-of-true, check-of-false, or_refuse-of-some, or_refuse-of-none}
use Rattle.theory.proofs.Parsing.{read_all-known}
use Rattle.theory.proofs.Grammar.{read_clause-sound}
use Rattle.text.specs.Lines.{part}
use Rattle.naming.specs.NamedReading.{is_within_named, named_clause_of}
use Rattle.shortening.specs.Spans.{words_between}
use Rattle.shortening.specs.ShortLines.{LineClause}
use Rattle.problem.specs.ClausePlaces.{LineHeld}
use Rattle.syntax.specs.declared.faults.Fault.TheVariants as fault
use Rattle.std.specs.Prelude.{Ok, Err}

-- words that are read as a clause are its words, and it is over the signature
pub words-of : (g : Signature) (v : List ℕ) (ws : List Word) (c : Clause) → read_all g (words_of v) ≡ some ws → read_clause g ws ≡ some c → (clause_ok g c ≡ true) × (read_all g (words_of v) ≡ some (clause_words c))
words-of g v ws c e h =
    let known : all (is_declared g) ws ≡ true = all-imply (λ x. is_declared g x && is_known_letter x) (is_declared g) ws (λ x. and_left (is_declared g x) (is_known_letter x)) (read_all-known g (words_of v) ws e) in
    let s = read_clause-sound g ws c known h in
    (s.0, e ∙ ap some (sym s.1))

module _ (g : Signature) (v : List ℕ) where
  pub unknown-words : read_all g (words_of v) ≡ none → LineHeld true g v (Err fault.Word)
  unfolding named_clause_of
  unknown-words e =
      record {
        fault = λ l. bind-refused (or_refuse (read_all g (words_of v)) (at_line 5 l)) _ (at_line 5 l) (or_refuse-of-none (read_all g (words_of v)) (at_line 5 l) e);
        taken = tt;
      }

  module _ (ws : List Word) (e : read_all g (words_of v) ≡ some ws) where
    with-words : (l : ℕ) (a : Answer Clause) → (or_refuse (read_clause g ws) (at_line 6 l) >>= λ c. check (is_within_named (length g) c) (at_line 7 l) >>= λ _. answer c) ≡ a → named_clause_of g l v ≡ a
    unfolding named_clause_of
    with-words l a h = bind-step (or_refuse (read_all g (words_of v)) (at_line 5 l)) _ ws a (or_refuse-of-some (read_all g (words_of v)) (at_line 5 l) ws e) h

    pub no-clause : read_clause g ws ≡ none → LineHeld true g v (Err fault.Clause)
    no-clause h =
        record {
          fault = λ l. with-words l _ (bind-refused (or_refuse (read_clause g ws) (at_line 6 l)) _ (at_line 6 l) (or_refuse-of-none (read_clause g ws) (at_line 6 l) h));
          taken = tt;
        }

    module _ (c : Clause) (h : read_clause g ws ≡ some c) where
      with-clause : (l : ℕ) (a : Answer Clause) → (check (is_within_named (length g) c) (at_line 7 l) >>= λ _. answer c) ≡ a → named_clause_of g l v ≡ a
      with-clause l a k = with-words l a (bind-step (or_refuse (read_clause g ws) (at_line 6 l)) _ c a (or_refuse-of-some (read_clause g ws) (at_line 6 l) c h) k)

      pub over : is_within_named (length g) c ≡ false → LineHeld true g v (Err fault.ClauseLimits)
      over k =
          record {
            fault = λ l. with-clause l _ (bind-refused (check (is_within_named (length g) c) (at_line 7 l)) _ (at_line 7 l) (check-of-false (is_within_named (length g) c) (at_line 7 l) k));
            taken = tt;
          }

      pub within : is_within_named (length g) c ≡ true → LineHeld true g v (Ok tt)
      within k =
          record {
            fault = tt;
            taken = (c, λ l. with-clause l _ (bind-step (check (is_within_named (length g) c) (at_line 7 l)) _ tt _ (check-of-true (is_within_named (length g) c) (at_line 7 l) k) refl));
          }

-- the line as the limits are told of it
abbrev pub clause-line : (g : Signature) (sheet : List ℕ) (from end : ℕ) (ws : List Word) (c : Clause) → read_all g (words_of (part sheet from end)) ≡ some ws → read_clause g ws ≡ some c
    → words_between g sheet from end ≡ read_all g (words_of (part sheet from end)) → LineClause g sheet from end
clause-line g sheet from end ws c e h q =
    let w = words-of g (part sheet from end) ws c e h in
    record { clause = c; ok = w.0; words = q ∙ w.1 }

pub between : (g : Signature) (sheet : List ℕ) (from end : ℕ) → words_between g sheet from end ≡ read_all g (words_of (part sheet from end))
unfolding words_between
between g sheet from end = refl
