-- The bits of a valuation that is to be written as a case, and what writing asks of them.
use Rattle.std.specs.Prelude.{ℕ, ◌+◌, ◌*◌, ◌^◌, ◌≤◌, ◌<◌, ◌≡◌, true, List, ltb, length, take}
use Rattle.theory.specs.Lists.{all}
use Rattle.theory.specs.Vectors.{AllBelow}
use Rattle.theory.specs.Syntax as theory
use Rattle.theory.specs.Propositional.{width, prop_count}
use Rattle.theory.specs.CaseText.{table_text, tables_text, case_text}
use Rattle.theory.specs.Valuation.{is_functional, setting_of, read_back}
use Rattle.syntax.specs.declared.signature.Symbol.{Symbol}
use Rattle.syntax.specs.declared.signature.Signature.{Signature}
use Rattle.syntax.specs.Signatures.{kind_of, symbol_in, signature_in}
use Rattle.clauses.specs.Names.{Readable}
use Rattle.valuations.specs.declared.numbering.Numbering.{Numbering}
use Rattle.valuations.specs.Numbers.{NumberingOf}
use Rattle.valuations.specs.Cells.{cell_values}
use Rattle.reading_back.specs.declared.tables.Bits.{Bits}
use Rattle.reading_back.specs.declared.tables.Bits.TheVariants.{Setting, Values}

-- the bits: a setting's bytes, or those of a search's values
abbrev pub bits_held : Bits → List ℕ
bits_held (Setting setting) = setting.now
bits_held (Values values) = setting_of values.now

-- the table of a symbol whose propositional variables start with `from`
abbrev pub table_in : ℕ → Symbol → ℕ → List ℕ → List ℕ
table_in s y from bits = cell_values s (kind_of y.function) (s ^ y.arity) from bits

-- its line in a case
abbrev pub table_line : List ℕ → Symbol → ℕ → ℕ → List ℕ → List ℕ
table_line sheet y from s bits = table_text (symbol_in sheet y) (table_in s y from bits)

-- the symbol's name stands in the sheet, and its bits give each of its cells a value
pub record TableLent (sheet : List ℕ) (y : Symbol) (from s : ℕ) (bits : List ℕ) : Type 0 where
  pub arity : y.arity ≤ 3
  pub positive : 1 ≤ s
  pub size : s ≤ 8
  pub name : y.name + y.length ≤ length sheet
  pub numbered : length bits < 2 ^ 32
  pub block : from + s ^ y.arity * width s (kind_of y.function) ≤ length bits
  pub below : AllBelow 8 (table_in s y from bits)

-- the bits are a valuation of the signature and give each function cell one result
pub record WritableBits (sheet : List ℕ) (y : Signature) (n : Numbering) (s : ℕ) (bits : List ℕ) : Type 0 where
  pub readable : Readable sheet y
  pub positive : 1 ≤ s
  pub size : s ≤ 8
  pub numbered : NumberingOf (signature_in sheet y) s n
  pub counted : length bits ≡ n.count
  pub binary : all (λ b. ltb b 2) bits ≡ true
  pub functional : is_functional s (signature_in sheet y) bits ≡ true

-- the bits of a signature's cells, where they stand at the front of a setting
abbrev pub front_bits : ℕ → theory.Signature → List ℕ → List ℕ
front_bits s g setting = take (prop_count s g) setting

-- the setting's front is a valuation of the signature and gives each function cell one result
pub record FrontLent (sheet : List ℕ) (y : Signature) (s : ℕ) (setting : List ℕ) : Type 0 where
  pub readable : Readable sheet y
  pub positive : 1 ≤ s
  pub size : s ≤ 8
  pub counted : prop_count s (signature_in sheet y) ≤ length setting
  pub binary : all (λ b. ltb b 2) setting ≡ true
  pub functional : is_functional s (signature_in sheet y) (front_bits s (signature_in sheet y) setting) ≡ true

-- the symbols' lines of the case that the bits say, and the whole case
abbrev pub lines_said : List ℕ → Signature → ℕ → List ℕ → List ℕ
lines_said sheet y s bits = tables_text s (signature_in sheet y) (read_back s (signature_in sheet y) bits)

abbrev pub case_said : List ℕ → Signature → ℕ → List ℕ → List ℕ
case_said sheet y s bits = case_text s (signature_in sheet y) (read_back s (signature_in sheet y) bits)
