-- A term that stands in a line, and where its words end.
use Rattle.std.specs.Prelude.{ℕ, ◌+◌, ◌≤◌, ◌<◌, ◌≡◌, true, false, List, ◌++◌}
use Rattle.std.proofs.Math.Option.{some}
use Rattle.theory.specs.Syntax.{Signature, Term, term_ok}
use Rattle.theory.specs.Grammar.{Word, term_words}
use Rattle.naming.specs.FixedTerms.{is_fixed}
use Rattle.std.specs.Prelude as rust
use Rattle.std.specs.Prelude.{Some, None}
use Rattle.shortening.specs.Spans.{words_between}

-- the words between two places are those of a term over the signature, and others behind it
pub record TermHere (g : Signature) (sheet : List ℕ) (at to : ℕ) : Type 0 where
  pub term : Term
  pub rest : List Word
  pub ok : term_ok g term ≡ true
  pub words : words_between g sheet at to ≡ some (term_words term ++ rest)

-- the term has no variable, and ends at the third place
pub record EndsAt (g : Signature) (sheet : List ℕ) (at to : ℕ) (t : TermHere g sheet at to) (end : ℕ) : Type 0 where
  pub fixed : is_fixed t.term ≡ true
  pub from : at < end
  pub within : end ≤ to
  pub words : words_between g sheet at end ≡ some (term_words t.term)
  pub left : words_between g sheet (end + 1) to ≡ some t.rest

-- r is the end of the term, if it has no variable
abbrev pub EndOf : {g : Signature} {sheet : List ℕ} {at to : ℕ} → TermHere g sheet at to → rust.Option ℕ → Type 0
EndOf {g = g} {sheet = sheet} {at = at} {to = to} t (Some end) = EndsAt g sheet at to t end
EndOf t None = is_fixed t.term ≡ false
