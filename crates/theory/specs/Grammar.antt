-- The words of a clause, what may follow what, and the clause that they are.
-- Words are read backwards, so that a symbol finds its terms already read; that this reads exactly the words of clauses is the claim GrammarExact (Claims/Grammar).
use Rattle.std.specs.Prelude.{ℕ, zero, suc, ◌+◌, Bool, List, [], ◌∷◌, ◌++◌}
use Rattle.std.proofs.Math.Option.{Option, none, some}
use Rattle.theory.specs.Lists.{concat_map}
use Rattle.theory.specs.Syntax.{Kind, function, predicate, Signature, symbol_at, Term, variable, apply, Terms, empty, cons, Atom, equal, holds, Literal, Clause}

-- a word: + or -, =, the symbol at a place of the signature, or a variable letter, A being 0
pub data Word : Type 0 where
  sign : Bool → Word
  equals : Word
  symbol : ℕ → Word
  letter : ℕ → Word

-- a term's words: a variable's letter, or a function and its terms' words
abbrev mutual
  pub term_words : Term → List Word
  term_words (variable x) = letter x ∷ []
  term_words (apply f ts) = symbol f ∷ terms_words ts

  pub terms_words : Terms → List Word
  terms_words empty = []
  terms_words (cons t ts) = term_words t ++ terms_words ts

-- an atom's words: = and two terms, or a predicate and its terms
abbrev pub atom_words : Atom → List Word
atom_words (equal t u) = equals ∷ (term_words t ++ term_words u)
atom_words (holds p ts) = symbol p ∷ terms_words ts

-- a clause's words: for each literal its sign and its atom's words
abbrev pub clause_words : Clause → List Word
clause_words c = concat_map (λ (l : Literal). sign l.sign ∷ atom_words l.atom) c

-- what is due next: so many terms, and with none due a sign or the end; or an atom, after a sign
pub data Due : Type 0 where
  terms : ℕ → Due
  atom : Due

-- what is due after a symbol of this kind and arity where suc n terms are due
abbrev pub due_after_function : Kind → ℕ → ℕ → Option Due
due_after_function function a n = some (terms (a + n))
due_after_function predicate a n = none

-- what is due after such a symbol where an atom is due
abbrev pub due_after_predicate : Kind → ℕ → Option Due
due_after_predicate function a = none
due_after_predicate predicate a = some (terms a)

-- what is due after one more word; none where the word cannot stand there
abbrev pub due_after : Signature → Due → Word → Option Due
due_after g (terms zero) (sign b) = some atom
due_after g (terms zero) equals = none
due_after g (terms zero) (symbol i) = none
due_after g (terms zero) (letter x) = none
due_after g (terms (suc n)) (sign b) = none
due_after g (terms (suc n)) equals = none
due_after g (terms (suc n)) (symbol i) = due_after_function (symbol_at g i).kind (symbol_at g i).arity n
due_after g (terms (suc n)) (letter x) = some (terms n)
due_after g atom (sign b) = none
due_after g atom equals = some (terms 2)
due_after g atom (symbol i) = due_after_predicate (symbol_at g i).kind (symbol_at g i).arity
due_after g atom (letter x) = none

-- words are a clause, or the word at a place cannot stand there, or something is still due at their end
pub data Grammar : Type 0 where
  clause : Grammar
  misplaced : ℕ → Grammar
  unfinished : Grammar

-- what is due at the end
abbrev pub at_end : Due → Grammar
at_end (terms zero) = clause
at_end (terms (suc n)) = unfinished
at_end atom = unfinished

-- the words from place i on, where d is due
abbrev pub grammar_from : Signature → ℕ → Due → List Word → Grammar
grammar_from g i d [] = at_end d
grammar_from g i d (w ∷ ws) = elim (due_after g d w) [ some e ↦ grammar_from g (suc i) e ws | none ↦ misplaced i ]

-- whether the words are a clause
unfoldable pub grammar : Signature → List Word → Grammar
grammar g ws = grammar_from g 0 (terms 0) ws

-- the first n terms
abbrev pub take_terms : ℕ → Terms → Terms
take_terms zero ts = empty
take_terms (suc n) empty = empty
take_terms (suc n) (cons t ts) = cons t (take_terms n ts)

-- the terms after the first n
abbrev pub drop_terms : ℕ → Terms → Terms
drop_terms zero ts = ts
drop_terms (suc n) empty = empty
drop_terms (suc n) (cons t ts) = drop_terms n ts

-- what was read from the end of the words up to here: terms, the atom before them, and the clause behind
pub record Reading : Type 0 where
  pub terms : Terms
  pub atom : Atom
  pub clause : Clause

-- the first two terms as an equality
abbrev pub equality_of : Terms → Atom
equality_of empty = holds 0 empty
equality_of (cons t empty) = holds 0 empty
equality_of (cons t (cons u ts)) = equal t u

-- a symbol takes as many terms as its arity: a function makes a term of them, a predicate an atom
abbrev pub read_symbol : Kind → ℕ → ℕ → Reading → Reading
read_symbol function i a r = record { terms = cons (apply i (take_terms a r.terms)) (drop_terms a r.terms); atom = r.atom; clause = r.clause }
read_symbol predicate i a r = record { terms = drop_terms a r.terms; atom = holds i (take_terms a r.terms); clause = r.clause }

-- one word in front of what was read: it takes what it needs from there
abbrev pub read_word : Signature → Word → Reading → Reading
read_word g (sign b) r = record { terms = r.terms; atom = r.atom; clause = record { sign = b; atom = r.atom } ∷ r.clause }
read_word g equals r = record { terms = drop_terms 2 r.terms; atom = equality_of r.terms; clause = r.clause }
read_word g (symbol i) r = read_symbol (symbol_at g i).kind i (symbol_at g i).arity r
read_word g (letter x) r = record { terms = cons (variable x) r.terms; atom = r.atom; clause = r.clause }

-- the words read from the last to the first
abbrev pub read_words : Signature → List Word → Reading
read_words g [] = record { terms = empty; atom = holds 0 empty; clause = [] }
read_words g (w ∷ ws) = read_word g w (read_words g ws)

-- the clause, if the grammar says that there is one
abbrev pub clause_if : Grammar → Clause → Option Clause
clause_if clause c = some c
clause_if (misplaced i) c = none
clause_if unfinished c = none

-- the clause that the words are, if they are one
unfoldable pub read_clause : Signature → List Word → Option Clause
read_clause g ws = clause_if (grammar g ws) (read_words g ws).clause
