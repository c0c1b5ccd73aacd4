-- What occurrences make of the symbols and variables so far: the first fault, or the symbols and variables with theirs.
use Rattle.std.specs.Prelude.{ℕ, ◌≤◌, ◌≡◌, List, [], ◌++◌, length, Ok, Err}
use Rattle.std.specs.Prelude as rust
use Rattle.std.proofs.Math.Option.{none, some}
use Rattle.theory.specs.Lists.{concat_map}
use Rattle.theory.specs.Syntax.{Symbol}
use Rattle.syntax.specs.declared.faults.Fault as syntax
use Rattle.syntax.specs.Faults.{number_of}
use Rattle.tptp.specs.Grammar.{DueToken}
use Rattle.tptp.specs.Trees.{Name}
use Rattle.tptp.specs.Symbols.{Occurrence, declares, names}
use Rattle.tptp.specs.Scanning.{arity_ahead, occurrence_in}
use Rattle.tptp.specs.Tptp.{Fault}
use Rattle.tptp.specs.Claims.Deciding.{first_of_occurrences}
use Rattle.declaring.specs.declared.symbols.Symbols.{Symbols}
use Rattle.declaring.specs.declared.letters.Letters.{Letters}
use Rattle.declaring.specs.Tables.{TableOf, LimitedTable}
use Rattle.declaring.specs.Letters.{LettersOf, Lettered}
use Rattle.scanning.specs.declared.entries.Named.{Named}
use Rattle.scanning.specs.Ahead.{items_at}
use Rattle.scanning.specs.Entries.{occurrences_in}
use Rattle.scanning.specs.Taking.{entries_from}
use Rattle.argument_lists.specs.declared.arity.Arity.{Arity}
use Rattle.argument_lists.specs.Told.{ToldAt}
use Rattle.importing.specs.declared.noting.Noted.{Noted}
use Rattle.importing.specs.declared.faults.TextFault.{TextFault}

-- a fault's number and place
abbrev pub fault_of : TextFault → Fault
fault_of f = record { number = number_of f.fault; place = f.place }

-- the arguments of what a token that ends at a place names, if it is a symbol, and what is told of the lists from there on
pub record NamedArity (text : List ℕ) (end : ℕ) (named : Named) (counts : List ℕ) (r : Arity) : Type 0 where
  pub same : (n : Name) → occurrences_in n r.count named ≡ occurrences_in n (arity_ahead (items_at text end)) named
  pub told : ToldAt text end counts r.told

-- the variables and symbols from a place on up to the statement's full stop, where d is due
abbrev pub occurrences_from : List ℕ → DueToken → ℕ → List Occurrence
occurrences_from text d at = concat_map occurrence_in (entries_from text d at)

-- the symbols that occurrences would declare, and the variables that they name
abbrev pub declared_of : List Occurrence → List Symbol
declared_of os = concat_map declares os

abbrev pub names_of : List Occurrence → List (List ℕ)
names_of os = concat_map names os

-- r are the symbols and variables after the occurrences os, whatever comes after them
pub record OccurrencesTaken (text : List ℕ) (t : Symbols) (v : Letters) (os : List Occurrence) (r : Noted) : Type 0 where
  pub clean : (X : List Symbol) (U : List (List ℕ)) (more : List Occurrence) → TableOf text X t → LettersOf text U v
      → first_of_occurrences X U (os ++ more) ≡ first_of_occurrences (X ++ declared_of os) (U ++ names_of os) more
  pub limited : LimitedTable text r.table
  pub lettered : Lettered text r.letters
  pub table : (X : List Symbol) → TableOf text X t → TableOf text (X ++ declared_of os) r.table
  pub letters : (U : List (List ℕ)) → LettersOf text U v → LettersOf text (U ++ names_of os) r.letters

-- what the occurrences os at a place make of the table and the variables, whatever comes after them
abbrev pub OccurrencesNoted : List ℕ → Symbols → Letters → List Occurrence → ℕ → rust.Result Noted syntax.Fault → Type 0
OccurrencesNoted text t v os start (Ok r) = OccurrencesTaken text t v os r
OccurrencesNoted text t v os start (Err f) = (X : List Symbol) (U : List (List ℕ)) (more : List Occurrence) → TableOf text X t → LettersOf text U v
    → first_of_occurrences X U (os ++ more) ≡ some (record { number = number_of f; place = start })

-- r are the symbols after the occurrences os of a statement, none of which has a fault
pub record StatementTaken (text : List ℕ) (t : Symbols) (os : List Occurrence) (r : Symbols) : Type 0 where
  pub clean : (X : List Symbol) → TableOf text X t → first_of_occurrences X [] os ≡ none
  pub limited : LimitedTable text r
  pub table : (X : List Symbol) → TableOf text X t → TableOf text (X ++ declared_of os) r

-- the first fault of the occurrences os of a statement
pub record StatementRefused (text : List ℕ) (t : Symbols) (os : List Occurrence) (f : TextFault) : Type 0 where
  pub fault : (X : List Symbol) → TableOf text X t → first_of_occurrences X [] os ≡ some (fault_of f)
  pub within : f.place ≤ length text

-- what the occurrences os of a statement make of the table
abbrev pub StatementNoted : List ℕ → Symbols → List Occurrence → rust.Result Symbols TextFault → Type 0
StatementNoted text t os (Ok r) = StatementTaken text t os r
StatementNoted text t os (Err f) = StatementRefused text t os f
