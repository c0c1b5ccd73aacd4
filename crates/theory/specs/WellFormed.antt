-- A problem as a sheet can say it: every problem that is read is well-formed, and a well-formed problem that is written is read back (`Claims/SheetRead`).
use Rattle.std.specs.Prelude.{ℕ, ◌≤◌, ◌<◌, ◌≡◌, Bool, true, ◌&&◌, List, ◌++◌, ltb, leb, length}
use Rattle.theory.specs.Lists.{all}
use Rattle.theory.specs.Syntax.{is_function, is_predicate, all_declared, Symbol, Signature, symbol_at, Clause, clause_ok}
use Rattle.theory.specs.Grammar.{Word, sign, equals, symbol, letter, clause_words}
use Rattle.theory.specs.Problem.{max_symbols, max_clauses, max_arity, is_name, within_limits, Problem}

-- a symbol of at most 3 arguments, with a name
abbrev pub symbol_ok : Symbol → Bool
symbol_ok f = leb f.arity max_arity && is_name f.name

-- no two symbols of the signature have the same name
abbrev pub NamesDiffer : Signature → Type 0
NamesDiffer g = (i j : ℕ) → i < length g → j < length g → (symbol_at g i).name ≡ (symbol_at g j).name → i ≡ j

-- the variable of a letter's word passes the test
abbrev pub letter_passes : (ℕ → Bool) → Word → Bool
letter_passes q (sign b) = true
letter_passes q equals = true
letter_passes q (symbol i) = true
letter_passes q (letter x) = q x

-- a letter's word is one of A to H
abbrev pub is_known_letter : Word → Bool
is_known_letter w = letter_passes (λ x. ltb x 8) w

-- the clause is over the signature, within the limits, and has letters A to H
abbrev pub clause_accepted : Signature → Clause → Bool
clause_accepted g c = clause_ok g c && within_limits (clause_words c) c && all is_known_letter (clause_words c)

-- the problem is well-formed
pub record WellFormed (p : Problem) : Type 0 where
  -- the functions, then the predicates, at most 12 of each
  pub functions : List Symbol
  pub predicates : List Symbol
  pub split : p.symbols ≡ functions ++ predicates
  pub function-kinds : all (λ (f : Symbol). is_function f.kind) functions ≡ true
  pub predicate-kinds : all (λ (f : Symbol). is_predicate f.kind) predicates ≡ true
  pub function-count : length functions ≤ max_symbols
  pub predicate-count : length predicates ≤ max_symbols
  -- each has at most 3 arguments and a name, and no two have the same name
  pub symbols-ok : all symbol_ok p.symbols ≡ true
  pub names-differ : NamesDiffer p.symbols
  -- and is declared
  pub origins : all_declared p.symbols ≡ true
  -- at most 64 clauses, each accepted
  pub clause-count : length p.clauses ≤ max_clauses
  pub clauses-accepted : all (clause_accepted p.symbols) p.clauses ≡ true
