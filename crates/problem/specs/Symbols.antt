-- What the reader of symbol lines answers.
use Rattle.std.specs.Prelude.{ℕ, suc, ◌+◌, ◌≤◌, ◌≡◌, not, ◌&&◌, List, [], ◌∷◌, ◌++◌, leb, length, drop}
use Rattle.theory.specs.Syntax.{Kind, Signature}
use Rattle.theory.specs.Syntax as theory
use Rattle.theory.specs.Lines.{Cut}
use Rattle.theory.specs.Refusals.{Answer, answer, refused, at_line, ◌>>=◌, check, or_refuse}
use Rattle.theory.specs.Problem.{max_arity, is_name, symbol_of, is_named, symbol_lines}
use Rattle.text.specs.Lines.{part}
use Rattle.syntax.specs.Signatures.{symbol_in}
use Rattle.syntax.specs.declared.faults.Fault.{Fault}
use Rattle.syntax.specs.Faults.{number_of}
use Rattle.std.specs.Prelude.{Ok, Err}
use Rattle.std.specs.Prelude as rust
use Rattle.syntax.specs.declared.signature.Symbol as code

-- the symbol of a line's value, after the symbols g, and the text after the line
unfoldable pub symbol_value : Kind → Signature → ℕ → Cut → Answer (theory.Symbol × List ℕ)
symbol_value k g l p = do
  f ← or_refuse (symbol_of k p.0) (at_line 2 l)
  _ ← check (leb f.arity max_arity) (at_line 3 l)
  _ ← check (is_name f.name && not (is_named f.name g)) (at_line 4 l)
  answer (f, p.1)

-- what the value of line l was read to
abbrev pub symbol_value_in : List ℕ → ℕ → rust.Result (code.Symbol × ℕ) Fault → Answer (theory.Symbol × List ℕ)
symbol_value_in sheet l (Ok (y, next)) = answer (symbol_in sheet y, drop next sheet)
symbol_value_in sheet l (Err f) = refused (at_line (number_of f) l)

-- what line l was read to, and n symbol lines after it
abbrev pub symbol_line_in : List ℕ → List ℕ → Kind → Signature → ℕ → ℕ → rust.Result (code.Symbol × ℕ) Fault → Answer (Signature × List ℕ)
symbol_line_in sheet key k g n l (Ok (y, next)) = symbol_lines n key k (g ++ (symbol_in sheet y ∷ [])) (suc l) (drop next sheet)
symbol_line_in sheet key k g n l (Err f) = refused (at_line (number_of f) l)

-- the arity is one that a sheet may have, and the name and the next line stand within n bytes
abbrev pub SymbolWithin : ℕ → rust.Result (code.Symbol × ℕ) Fault → Type 0
SymbolWithin n (Ok (y, next)) = (y.arity ≤ max_arity) × ((y.name + y.length ≤ n) × (next ≤ n))
SymbolWithin n (Err f) = Unit {0}

-- r is what the value from one place to another is read to, after the symbols g
pub record ValueDeclared (sheet : List ℕ) (from end : ℕ) (k : Kind) (g : Signature) (r : rust.Result (code.Symbol × ℕ) Fault) : Type 0 where
  pub read : (l : ℕ) → symbol_value_in sheet l r ≡ symbol_value k g l (part sheet from end, drop (suc end) sheet)
  pub within : SymbolWithin (length sheet) r

-- r is what the line from `at` on with this key is read to, after the symbols g
pub record SymbolRead (sheet : List ℕ) (at : ℕ) (key : List ℕ) (k : Kind) (g : Signature) (r : rust.Result (code.Symbol × ℕ) Fault) : Type 0 where
  pub read : (n l : ℕ) → symbol_line_in sheet key k g n l r ≡ symbol_lines (suc n) key k g l (drop at sheet)
  pub within : SymbolWithin (length sheet) r
