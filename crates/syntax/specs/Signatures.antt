-- The signature that the code's symbols stand for. Names are places in a sheet.
use Rattle.std.specs.Prelude.{ℕ, suc, ◌+◌, ◌*◌, ◌≤◌, ◌<◌, ◌≡◌, Bool, true, false, cond, List, [], ◌∷◌, map, length, get_or, take, drop}
use Rattle.theory.specs.Syntax.{Kind, function, predicate, Origin, Signature, symbol_at}
use Rattle.theory.specs.Syntax as theory
use Rattle.theory.specs.Problem.{max_symbols, max_arity}
use Rattle.syntax.specs.Codes.{max_places}
use Rattle.syntax.specs.declared.signature.Symbol.{Symbol}
use Rattle.syntax.specs.declared.signature.Signature as declared

-- the symbols that a sheet may declare, and those of a problem: up to 32 helper constants are behind them
abbrev pub max_declared : ℕ
max_declared = 2 * max_symbols

abbrev pub max_in_all : ℕ
max_in_all = max_declared + 32

-- the cells of all symbols of a problem: a helper has one, any other up to 8 ^ 3
abbrev pub max_cells : ℕ
max_cells = 512 * max_declared + 32

-- the kind that the mark `function` says
abbrev pub kind_of : Bool → Kind
kind_of true = function
kind_of false = predicate

-- the origin that the mark `helper` says
abbrev pub origin_of : Bool → Origin
origin_of true = theory.helper
origin_of false = theory.declared

-- the symbol of a sheet
abbrev pub symbol_in : List ℕ → Symbol → theory.Symbol
symbol_in sheet y = record { kind = kind_of y.function; name = take y.length (drop y.name sheet); arity = y.arity; origin = origin_of y.helper }

-- the signature of a sheet
unfoldable pub signature_in : List ℕ → declared.Signature → Signature
signature_in sheet s = map (symbol_in sheet) (take s.count s.symbols)

-- how many symbols stand before the first helper
abbrev pub declared_count : List Symbol → ℕ
declared_count [] = 0
declared_count (y ∷ ys) = cond y.helper 0 (suc (declared_count ys))

-- those symbols
abbrev pub without_helpers : declared.Signature → declared.Signature
without_helpers s = record { symbols = s.symbols; count = declared_count (take s.count s.symbols) }

-- the arities of symbols
abbrev pub arities_of : List Symbol → List ℕ
arities_of ys = map (λ (y : Symbol). y.arity) ys

-- the table has the arity of each symbol
pub record Arities (g : Signature) (arities : List ℕ) : Type 0 where
  pub within : length g ≤ length arities
  pub arity : (i : ℕ) → i < length g → get_or arities i 0 ≡ (symbol_at g i).arity

-- no more symbols than there are places, and arities as a sheet may have
pub record Small (g : Signature) : Type 0 where
  pub symbols : length g ≤ max_places
  pub arities : (i : ℕ) → i < length g → (symbol_at g i).arity ≤ max_arity
