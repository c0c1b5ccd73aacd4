-- The problem that was read of a sheet, plain or in the mode of named terms.
use Rattle.std.specs.Prelude.{ℕ, ◌+◌, ◌-◌, ◌≤◌, ◌<◌, ◌≡◌, Bool, true, false, cond, List, [], map, eqb, length, get_or, take, drop}
use Rattle.std.proofs.Math.Option.{Option, none, some}
use Rattle.theory.specs.Lists.{all}
use Rattle.theory.specs.Syntax.{Signature, Clause, functions, clause_ok}
use Rattle.theory.specs.Grammar.{Word, clause_words, read_words}
use Rattle.theory.specs.Lines.{Cut, cut_line, words_of}
use Rattle.theory.specs.Refusals.{Answer, answer, refused, at_line}
use Rattle.theory.specs.Problem.{max_clauses, read_all, clause_of}
use Rattle.theory.specs.Problem as theory
use Rattle.naming.specs.FixedTerms.{named_terms, named_clauses}
use Rattle.naming.specs.NamedReading.{max_helpers, is_within, named_clause_of}
use Rattle.syntax.specs.declared.limits.Problem.{Problem}
use Rattle.syntax.specs.declared.signature.Signature as declared
use Rattle.syntax.specs.declared.words.ClauseWords.{ClauseWords}
use Rattle.syntax.specs.Signatures.{max_declared, signature_in}
use Rattle.syntax.specs.Codes.{clause_in}
use Rattle.clauses.specs.Names.{Readable}
use Rattle.clauses.specs.Clauses as clauses
use Rattle.shortening.specs.Tables.{terms_in, TermsThere}
use Rattle.shortening.specs.HelperWords.{HelpersBehind}
use Rattle.problem.specs.declared.sections.SheetFault.{SheetFault}
use Rattle.syntax.specs.Faults.{number_of}
use Rattle.std.specs.Prelude.{Ok, Err}
use Rattle.std.specs.Prelude as rust

-- the bytes of a line; none where no LF ends it
abbrev pub line_or : Option Cut → List ℕ
line_or none = []
line_or (some p) = p.0

-- the clause that known words are; the empty one where a word is unknown
abbrev pub clause_from : Signature → Option (List Word) → Clause
clause_from g none = []
clause_from g (some ws) = (read_words g ws).clause

-- the clause of the line's bytes from a place up to its LF
abbrev pub clause_at : List ℕ → Signature → ℕ → Clause
clause_at sheet g at = clause_from g (read_all g (words_of (line_or (cut_line (drop at sheet)))))

-- the problem as handed in: its symbols, and the clause at each of the first places
unfoldable pub handed_in : List ℕ → Problem → theory.Problem
handed_in sheet p =
    record {
      symbols = signature_in sheet p.signature;
      clauses = map (clause_at sheet (signature_in sheet p.signature)) (take p.count p.clauses);
    }

-- the declared symbols: those before the helpers
abbrev pub sheet_signature : Problem → declared.Signature
sheet_signature p = record { symbols = p.signature.symbols; count = p.signature.count - p.terms.count }

-- the number of clause lines
abbrev pub line_count : Problem → ℕ
line_count p = p.count - p.terms.count

-- the clauses of the lines, as handed in
abbrev pub lines_in : List ℕ → Problem → List Clause
lines_in sheet p = map (clause_at sheet (signature_in sheet (sheet_signature p))) (take (line_count p) p.clauses)

-- the problem of a sheet: its symbols with the helpers, and the clauses of the lines, or those that the mode has for them
unfoldable pub problem_in : List ℕ → Problem → theory.Problem
problem_in sheet p =
    record {
      symbols = signature_in sheet p.signature;
      clauses = cond (eqb p.terms.count 0) (lines_in sheet p) (named_clauses (length (signature_in sheet (sheet_signature p))) (lines_in sheet p));
    }

-- the problem as handed in, or the refusal
abbrev pub handed_reading : List ℕ → rust.Result Problem SheetFault → Answer theory.Problem
handed_reading sheet (Ok p) = answer (handed_in sheet p)
handed_reading sheet (Err f) = refused (at_line (number_of f.fault) f.line)

-- the problem, or the refusal
abbrev pub reading_of : List ℕ → rust.Result Problem SheetFault → Answer theory.Problem
reading_of sheet (Ok p) = answer (problem_in sheet p)
reading_of sheet (Err f) = refused (at_line (number_of f.fault) f.line)

-- a line's clause, with the limits of the mode where `named` says so
abbrev pub clause_of_in : Bool → Signature → ℕ → List ℕ → Answer Clause
clause_of_in false g l v = clause_of g l v
clause_of_in true g l v = named_clause_of g l v

-- a line's bytes from the place up to its LF are a clause within the limits
pub record ClauseThere (named : Bool) (sheet : List ℕ) (g : Signature) (at : ℕ) : Type 0 where
  pub within : at ≤ length sheet
  pub line : Cut
  pub cut : cut_line (drop at sheet) ≡ some line
  pub clause : Clause
  pub answered : (l : ℕ) → clause_of_in named g l line.0 ≡ answer clause

-- a problem as reading the lines of a sheet leaves it, with no helpers yet
pub record HandedIn (named : Bool) (sheet : List ℕ) (p : Problem) : Type 0 where
  pub readable : Readable sheet p.signature
  pub few : p.signature.count ≤ max_declared
  pub functions : p.functions ≡ length (functions (signature_in sheet p.signature))
  pub count : p.count ≤ max_clauses
  pub held : p.count ≤ length p.clauses
  pub clauses : (k : ℕ) → k < p.count → ClauseThere named sheet (signature_in sheet p.signature) (get_or p.clauses k 0)
  pub no-terms : p.terms.count ≡ 0
  pub room : length p.terms.spans ≡ max_helpers

-- a line's bytes from the place up to its LF are a clause
pub record LineThere (sheet : List ℕ) (g : Signature) (at : ℕ) : Type 0 where
  pub within : at ≤ length sheet
  pub line : Cut
  pub cut : cut_line (drop at sheet) ≡ some line
  pub clause : Clause
  pub words : read_all g (words_of line.0) ≡ some (clause_words clause)
  pub ok : clause_ok g clause ≡ true

-- a problem as reading a sheet leaves it: with helpers exactly for the terms that are named, where there are any
pub record Accepted (sheet : List ℕ) (p : Problem) : Type 0 where
  pub readable : Readable sheet p.signature
  pub functions : p.functions ≡ length (functions (signature_in sheet p.signature))
  pub count : p.count ≤ max_clauses + max_helpers
  pub few : (sheet_signature p).count ≤ max_declared
  pub behind : HelpersBehind (sheet_signature p) p.terms.count p.signature
  pub helpers : p.terms.count ≤ p.count
  pub most : line_count p ≤ max_clauses
  pub held : line_count p ≤ length p.clauses
  pub lines : (k : ℕ) → k < line_count p → LineThere sheet (signature_in sheet (sheet_signature p)) (get_or p.clauses k 0)
  pub terms : TermsThere (signature_in sheet (sheet_signature p)) sheet p.terms
  pub found : (p.terms.count ≡ 0 → ⊥) → terms_in (signature_in sheet (sheet_signature p)) sheet p.terms ≡ named_terms (lines_in sheet p)
  pub within : all is_within (problem_in sheet p).clauses ≡ true

-- w are the words of clause k, which is within the limits
pub record WordsOf (sheet : List ℕ) (p : Problem) (k : ℕ) (w : ClauseWords) : Type 0 where
  pub accepted : clauses.AcceptedWords (signature_in sheet p.signature) w
  pub clause : clause_in (signature_in sheet p.signature) w ≡ get_or (problem_in sheet p).clauses k []
