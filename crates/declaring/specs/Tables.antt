-- The table of the symbols that have appeared, and what one occurrence more leaves.
use Rattle.std.specs.Prelude.{ℕ, ◌+◌, ◌-◌, ◌≤◌, ◌≡◌, Bool, true, cond, not, ◌||◌, List, ◌∷◌, ◌++◌, eqb, length, take, drop, Ok, Err, IfOk}
use Rattle.std.specs.Prelude as rust
use Rattle.std.specs.Bool.{beq}
use Rattle.std.proofs.Math.Option.{Option, none, some}
use Rattle.theory.specs.Lists.{all}
use Rattle.theory.specs.Syntax.{functions, predicates}
use Rattle.theory.specs.Syntax as theory
use Rattle.theory.specs.Problem.{max_symbols, is_named}
use Rattle.theory.specs.WellFormed.{symbol_ok, NamesDiffer}
use Rattle.text.specs.Lines.{part}
use Rattle.syntax.specs.declared.signature.Symbol.{Symbol}
use Rattle.syntax.specs.declared.signature.Signature.{Signature}
use Rattle.syntax.specs.Signatures.{kind_of, signature_in}
use Rattle.clauses.specs.Names.{Readable}
use Rattle.tptp.specs.Symbols.{Occurrence, of_symbol, declares}
use Rattle.syntax.specs.declared.faults.Fault as syntax
use Rattle.syntax.specs.Faults.{number_of}
use Rattle.tptp.specs.Tptp.{Fault, occurrence_faults}
use Rattle.tptp.specs.Claims.Order.{first_fault, signature_by}
use Rattle.declaring.specs.declared.symbols.Symbols.{Symbols}

-- the table has the symbols that X would declare
pub record TableOf (text : List ℕ) (X : List theory.Symbol) (t : Symbols) : Type 0 where
  pub symbols : signature_in text t.signature ≡ signature_by X
  pub functions : t.functions ≡ length (functions (signature_by X))

-- the symbols of the table keep the limits of a sheet
pub record LimitedTable (text : List ℕ) (t : Symbols) : Type 0 where
  pub readable : Readable text t.signature
  pub ordered : t.functions ≤ t.signature.count
  pub functions : t.functions ≤ max_symbols
  pub predicates : t.signature.count - t.functions ≤ max_symbols
  pub symbols-ok : all symbol_ok (signature_in text t.signature) ≡ true

-- what such a table says of the symbols that X would declare
pub record TableSays (text : List ℕ) (X : List theory.Symbol) (t : Symbols) : Type 0 where
  pub readable : Readable text t.signature
  pub count : t.signature.count ≡ length (signature_by X)
  -- the functions come first; at most 12 of each kind
  pub functions-first : functions (signature_by X) ≡ take t.functions (signature_by X)
  pub predicates-last : predicates (signature_by X) ≡ drop t.functions (signature_by X)
  pub few-functions : length (functions (signature_by X)) ≤ max_symbols
  pub few-predicates : length (predicates (signature_by X)) ≤ max_symbols
  -- each has at most 3 arguments and a name, no two have the same name, and every name of X is there
  pub symbols-ok : all symbol_ok (signature_by X) ≡ true
  pub names-differ : NamesDiffer (signature_by X)
  pub named : all (λ (f : theory.Symbol). is_named f.name (signature_by X)) X ≡ true

-- the occurrence of a symbol whose name stands from a place up to another
abbrev pub symbol_occurrence : List ℕ → ℕ → ℕ → Bool → ℕ → Occurrence
symbol_occurrence text start end function arity = of_symbol (record { bytes = part text start end; place = start }) (kind_of function) arity

-- the fault that a result tells
abbrev pub fault_at : {A : Type 0} → rust.Result A syntax.Fault → ℕ → Option Fault
fault_at (Ok a) place = none
fault_at (Err f) place = some (record { number = number_of f; place = place })

-- r is the table with the symbol that an occurrence declares
pub record TableWith (text : List ℕ) (t : Symbols) (o : Occurrence) (r : Symbols) : Type 0 where
  pub limited : LimitedTable text r
  pub table : (X : List theory.Symbol) → TableOf text X t → TableOf text (X ++ declares o) r

-- r is what an occurrence makes of the table: its first fault, or the table with the symbol that it declares
pub record SymbolDeclared (text : List ℕ) (t : Symbols) (start : ℕ) (o : Occurrence) (r : rust.Result Symbols syntax.Fault) : Type 0 where
  pub fault : (X : List theory.Symbol) (xs : List (List ℕ)) → TableOf text X t → first_fault (occurrence_faults (signature_by (X ++ declares o)) xs o) ≡ fault_at r start
  pub taken : IfOk r (λ s. TableWith text t o s)

-- the symbol is not of this kind or not of this arity
abbrev pub is_other : Symbol → Bool → ℕ → Bool
is_other y function arity = not (beq function y.function) || not (eqb arity y.arity)

-- how many symbols of a kind there are
abbrev pub count_of_kind : Symbols → Bool → ℕ
count_of_kind t function = cond function t.functions (t.signature.count - t.functions)

-- the symbols that the signature holds
abbrev pub held_in : Signature → List Symbol
held_in s = take s.count s.symbols

-- the list with x behind its first n
abbrev pub insert_at : {A : Type 0} → ℕ → A → List A → List A
insert_at n x xs = take n xs ++ (x ∷ drop n xs)

-- r is the signature with one symbol more, behind the first n
pub record Inserted (s : Signature) (n : ℕ) (y : Symbol) (r : Signature) : Type 0 where
  pub count : r.count ≡ s.count + 1
  pub symbols : held_in r ≡ insert_at n y (held_in s)

-- r is the table with one symbol more, the last of its kind
pub record WithSymbol (t : Symbols) (y : Symbol) (r : Symbols) : Type 0 where
  pub signature : Inserted t.signature (cond y.function t.functions t.signature.count) y r.signature
  pub functions : r.functions ≡ cond y.function (t.functions + 1) t.functions
