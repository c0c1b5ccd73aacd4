-- What valuing a clause is lent, and what the values of a variable, a function, a predicate and a clause are.
use Rattle.std.specs.Prelude.{ℕ, ◌≤◌, ◌<◌, ◌≡◌, Bool, true, List, map, length}
use Rattle.theory.specs.Lists.{all, elem}
use Rattle.theory.specs.Vectors.{AllBelow}
use Rattle.theory.specs.Syntax.{Signature, Clause, Terms, variable, apply, holds}
use Rattle.theory.specs.Truth.{Interpretation, Assignment, value, values, atom_true, clause_true, assign}
use Rattle.theory.specs.Cells.{cell, interpretation, is_interpretation}
use Rattle.theory.specs.Grammar.{Word, clause, grammar, read_words}
use Rattle.indices.specs.declared.Cell.{Cell}
use Rattle.indices.specs.declared.Element.{Element}
use Rattle.syntax.specs.Signatures.{Small}
use Rattle.syntax.specs.Codes.{code_word, is_known}
use Rattle.syntax.specs.Variables.{letters_of, Places}
use Rattle.interpretation.specs.declared.tables.Tables.{Tables}
use Rattle.interpretation.specs.Tables.{TablesOf}

-- the places of the variables xs
abbrev pub PlacesIn : List ℕ → List ℕ → Type 0
PlacesIn xs place = Places xs (record { place = place; count = length xs })

-- tables lent part by part
abbrev pub tables_in : List ℕ → List Bool → List ℕ → List ℕ → Tables
tables_in arities functions bases cells = record { arities = arities; functions = functions; bases = bases; cells = length cells }

-- the tables of the signature, an interpretation of it at size s, and the places of the variables xs
pub record Lent (g : Signature) (xs : List ℕ) (place : List ℕ) (t : Tables) (cells : List ℕ) (s : ℕ) : Type 0 where
  pub size : s ≤ 8
  pub small : Small g
  pub tables : TablesOf g s t
  pub values : is_interpretation s g cells ≡ true
  pub letters : length place ≡ 8
  pub places : PlacesIn xs place

-- v is the value of the variable x under the choice, whatever variables have these places
abbrev pub IsVariableValue : List ℕ → List ℕ → ℕ → Element → Type 0
IsVariableValue choice place x v = (I : Interpretation) (xs : List ℕ) → PlacesIn xs place → x < 8 → elem x xs ≡ true → v.0 ≡ value I (assign xs choice) (variable x)

-- v is the value of each function at the terms whose cell is c
abbrev pub IsFunctionValue : List ℕ → Cell → Element → Type 0
IsFunctionValue cells c v =
    (s : ℕ) (g : Signature) (ρ : Assignment) (f : ℕ) (ts : Terms) → c.0 ≡ cell s g f (values (interpretation s g cells) ρ ts)
    → v.0 ≡ value (interpretation s g cells) ρ (apply f ts)

-- b is the truth of each predicate at the terms whose cell is c
abbrev pub IsPredicateValue : List ℕ → Cell → Bool → Type 0
IsPredicateValue cells c b =
    (s : ℕ) (g : Signature) (ρ : Assignment) (p : ℕ) (ts : Terms) → c.0 ≡ cell s g p (values (interpretation s g cells) ρ ts)
    → b ≡ atom_true (interpretation s g cells) ρ (holds p ts)

-- a choice of elements for the variables xs
pub record Chosen (xs : List ℕ) (s : ℕ) (choice : List ℕ) : Type 0 where
  pub counted : length choice ≡ length xs
  pub below : AllBelow s choice

-- every letter of the words is one of the variables xs
abbrev pub letters_among : List ℕ → List Word → Bool
letters_among xs ws = all (λ x. elem x xs) (letters_of ws)

-- the words of a clause
pub record ClauseLent (words place arities : List ℕ) (functions : List Bool) (bases cells : List ℕ) (s : ℕ) : Type 0 where
  pub signature : Signature
  pub variables : List ℕ
  pub lent : Lent signature variables place (tables_in arities functions bases cells) cells s
  pub fits : length words ≤ 64
  pub known : all (is_known signature) (map code_word words) ≡ true
  pub letters : letters_among variables (map code_word words) ≡ true
  pub good : grammar signature (map code_word words) ≡ clause

-- the clause that they are
abbrev pub lent_clause : {words place arities : List ℕ} {functions : List Bool} {bases cells : List ℕ} {s : ℕ} → ClauseLent words place arities functions bases cells s → Clause
lent_clause {words = words} c = (read_words c.signature (map code_word words)).clause

-- b is its truth under the choice
abbrev pub IsClauseValue : List ℕ → List ℕ → List ℕ → List Bool → List ℕ → List ℕ → ℕ → List ℕ → Bool → Type 0
IsClauseValue words place arities functions bases cells s choice b =
    (c : ClauseLent words place arities functions bases cells s) → Chosen c.variables s choice
    → b ≡ clause_true (interpretation s c.signature cells) (assign c.variables choice) (lent_clause c)
