-- What was read of a clause line's words.
use Rattle.std.specs.Prelude.{ℕ, ◌*◌, ◌≤◌, ◌<◌, ◌≡◌, true, false, cond, List, [], ◌∷◌, ◌++◌, map, eqb, length, take, replicate}
use Rattle.std.specs.Prelude.{Ok, Err, IfOk, Some, None}
use Rattle.std.specs.Prelude as rust
use Rattle.std.proofs.Math.Option.{none, some}
use Rattle.theory.specs.Lists.{all, sum}
use Rattle.theory.specs.Syntax.{Signature, Clause}
use Rattle.theory.specs.Grammar.{Word, sign, equals, symbol, letter, terms, read_clause}
use Rattle.theory.specs.Flattening.{flatten, variable_count}
use Rattle.theory.specs.Refusals.{Answer, answer, refused, at_line}
use Rattle.theory.specs.Problem.{max_words, max_literals, max_variables, read_all, clause_of}
use Rattle.theory.specs.Problem as theory
use Rattle.syntax.specs.declared.words.ClauseWords.{ClauseWords}
use Rattle.syntax.specs.declared.signature.Signature as declared
use Rattle.syntax.specs.Signatures.{signature_in}
use Rattle.syntax.specs.Codes.{code_word, is_known, clause_in, IsClause}
use Rattle.clauses.specs.declared.grammar.Due.TheVariants.{Terms}
use Rattle.clauses.specs.declared.clause.Words.{Words}
use Rattle.syntax.specs.declared.faults.Fault.{Fault}
use Rattle.syntax.specs.Faults.{number_of}
use Rattle.clauses.specs.Names.{Limited}
use Rattle.clauses.specs.Grammar.{due_in, pending, due_after_all}

-- the number of signs that a word is
abbrev pub sign_count : Word → ℕ
sign_count (sign b) = 1
sign_count equals = 0
sign_count (symbol i) = 0
sign_count (letter x) = 0

-- the counts are small enough to go on
pub record WordsBounded (w : Words) : Type 0 where
  pub count : 2 * w.count < 9223372036854775808
  pub literals : w.literals ≤ w.count
  pub pending : pending w.due ≤ 3 * w.count

-- w is what was read of the words ws
pub record Passed (g : Signature) (ws : List Word) (w : Words) : Type 0 where
  pub count : w.count ≡ length ws
  pub held : length w.words ≡ max_words
  pub codes : map code_word (take w.count w.words) ≡ take max_words ws
  pub literals : w.literals ≡ sum (map sign_count ws)
  pub due : due_in w.due ≡ due_after_all g (some (terms 0)) ws
  pub pending : pending w.due ≤ 3 * w.count

-- r is what was read after the word x more than w, whatever words w was read of
abbrev pub Extends : Signature → Words → Word → Words → Type 0
Extends g w x r = (ws : List Word) → Passed g ws w → Passed g (ws ++ (x ∷ [])) r

-- r is what was read after one word more than w, if the word is known
abbrev pub WordAdded : Signature → List ℕ → Words → rust.Option Words → Type 0
WordAdded g word w (Some r) = (x : Word) × (theory.word_of g word ≡ some x) × Extends g w x r
WordAdded g word w None = theory.word_of g word ≡ none

-- what was read of no words
abbrev pub no_words : Words
no_words = record { words = replicate max_words 0; count = 0; literals = 0; due = Some (Terms 0) }

-- r is what was read of a line's words, if all are known
abbrev pub WordsRead : Signature → List (List ℕ) → rust.Option Words → Type 0
WordsRead g line (Some r) = (ws : List Word) × (read_all g line ≡ some ws) × Passed g ws r
WordsRead g line None = read_all g line ≡ none

-- the codes that were kept of the words
abbrev pub codes_of : Words → ClauseWords
codes_of w = record { words = w.words; count = w.count }

-- w is what was read of the words of a clause, whatever the symbols' names are
pub record WholeClause (signature : declared.Signature) (w : Words) : Type 0 where
  pub sheet : List ℕ
  pub limited : Limited signature
  pub words : List Word
  pub passed : Passed (signature_in sheet signature) words w
  pub known : all (is_known (signature_in sheet signature)) words ≡ true
  pub clause : Clause
  pub read : read_clause (signature_in sheet signature) words ≡ some clause

-- what the value of line l was read to
abbrev pub clause_value_in : Signature → ℕ → rust.Result ClauseWords Fault → Answer Clause
clause_value_in g l (Ok w) = answer (clause_in g w)
clause_value_in g l (Err f) = refused (at_line (number_of f) l)

-- the clause words are a clause within the limits
pub record AcceptedWords (g : Signature) (w : ClauseWords) : Type 0 where
  pub clause : IsClause g w
  pub literals : length (clause_in g w) ≤ max_literals
  pub variables : variable_count (flatten (clause_in g w)) ≤ max_variables

-- r is what the value is read to, whatever the number of its line
pub record ClauseRead (g : Signature) (value : List ℕ) (r : rust.Result ClauseWords Fault) : Type 0 where
  pub read : (l : ℕ) → clause_value_in g l r ≡ clause_of g l value
  pub accepted : IfOk r (AcceptedWords g)
