-- What the reader of a case answers, and what stands in the cells then.
use Rattle.std.specs.Prelude.{ℕ, ◌+◌, ◌^◌, ◌≤◌, ◌≡◌, Bool, cond, List, [], length, take, drop}
use Rattle.std.proofs.Math.Option.{Option, none, some}
use Rattle.theory.specs.Lists.{same}
use Rattle.theory.specs.Syntax.{Kind, Symbol, Signature}
use Rattle.theory.specs.Cells.{table_size, cell_count}
use Rattle.theory.specs.Refusals.{Answer, answer, refused, at_line, ◌>>=◌, check}
use Rattle.theory.specs.CaseText.{equals_sign, read_table, read_tables, Case, size_of}
use Rattle.syntax.specs.declared.signature.Symbol as declared
use Rattle.std.specs.Prelude as rust
use Rattle.std.specs.Prelude.{Some, None, Ok, Err}
use Rattle.syntax.specs.declared.size.DomainSize.{DomainSize}
use Rattle.cases.specs.Values.{values_after}

-- the case that was read into the cells, or the refusal
abbrev pub case_in : Signature → rust.Result DomainSize ℕ → List ℕ → Answer Case
case_in g (Ok s) cells = answer (record { size = s.0; values = take (cell_count s.0 g) cells })
case_in g (Err l) cells = refused (at_line 12 l)

-- the size found, if there is one
abbrev pub size_found : Option ℕ → rust.Option DomainSize
size_found none = None
size_found (some s) = Some (record { 0 = s })

-- the size that follows the key
abbrev pub size_after : Option (List ℕ) → rust.Option DomainSize
size_after none = None
size_after (some v) = size_found (size_of v)

-- the case of size s whose symbols' lines are the text
unfoldable pub case_of_tables : ℕ → Signature → List ℕ → Answer Case
case_of_tables s g text = do
  t ← read_tables s g 3 text
  _ ← check (same t.1 []) (at_line 12 (3 + length g))
  answer (record { size = s; values = t.0 })

-- r says whether n values of the kind stand there; they are in the cells from `base` on, and the cells before it are as they were
pub record ValuesRead (s : ℕ) (k : Kind) (n : ℕ) (bytes : List ℕ) (base : ℕ) (cells cells' : List ℕ) (r : Bool) : Type 0 where
  pub values : values_after s k equals_sign bytes ≡ cond r (some (take n (drop base cells'))) none
  pub front : take base cells' ≡ take base cells

-- what the line l, from which the values vs were read, is read to
abbrev pub table_line_in : List ℕ → ℕ → List ℕ → rust.Option ℕ → Answer ((List ℕ) × List ℕ)
table_line_in case l vs (Some after) = answer (vs, drop after case)
table_line_in case l vs None = refused (at_line 12 l)

-- the next line starts within n bytes
abbrev pub NextTableWithin : ℕ → rust.Option ℕ → Type 0
NextTableWithin n (Some after) = after ≤ n
NextTableWithin n None = Unit {0}

-- a symbol of the sheet, a line that starts within the case, and room for the symbol's table in the cells from `base` on
pub record TableLineLent (s : ℕ) (sheet : List ℕ) (y : declared.Symbol) (case : List ℕ) (at base : ℕ) (cells : List ℕ) : Type 0 where
  pub within : at ≤ length case
  pub named : y.name + y.length ≤ length sheet
  pub arity : y.arity ≤ 3
  pub positive : 1 ≤ s
  pub size : s ≤ 8
  pub room : base + s ^ y.arity ≤ length cells

-- r is what the symbol's line from `at` on is read to
pub record TableRead (s : ℕ) (f : Symbol) (case : List ℕ) (at base : ℕ) (cells cells' : List ℕ) (r : rust.Option ℕ) : Type 0 where
  pub read : (l : ℕ) → table_line_in case l (take (table_size s f) (drop base cells')) r ≡ read_table s f l (drop at case)
  pub front : take base cells' ≡ take base cells
  pub within : NextTableWithin (length case) r
