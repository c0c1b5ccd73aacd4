-- A symbol's line as it is written: the name as it stands in the sheet, then its values.
use Prim.Native.Nat.{ℕ, ◌+◌, ◌*◌, ◌-◌, ◌≤◌, ◌<◌}
use mathlib.Core.Path.{◌≡◌, sym, ap, ◌∙◌}
use mathlib.Core.Bool.{Bool, true, false}
use mathlib.Core.List.{List, [], ◌∷◌, ◌++◌, map}
use native.Mathlib.Omega.{arith}
use lib.ListN.{length, take, drop, length-map, length-append}
use Rattle.theory.specs.Bytes.{LF}
use Rattle.theory.specs.CaseText.{least_byte, equals_sign, table_text}
use Rattle.syntax.specs.declared.signature.Symbol.{Symbol}
use Rattle.syntax.specs.Signatures.{kind_of, symbol_in}
use Rattle.text.specs.Put.{put, put-run}
use Rattle.cases.specs.Writing.{paired}
use Rattle.syntax.proofs.NamesLent.{name-lent, name-length, lent_length}
use Rattle.cases.proofs.Pairs.{length-paired, table-pairs}

module _ (sheet : List ℕ) (y : Symbol) (held : y.name + y.length ≤ length sheet) (table : List ℕ) (some-value : 0 < length table) where
  pub line-length : length (table_text (symbol_in sheet y) table) ≡ y.length + (2 * length table + 1)
  line-length =
      let bs : List ℕ = map (λ (v : ℕ). least_byte (kind_of y.function) + v) table in
      sym (ap length (table-pairs (symbol_in sheet y) table some-value))
      ∙ length-append (symbol_in sheet y).name (paired equals_sign bs ++ (LF ∷ []))
      ∙ omega (
        arith,
        name-length sheet y held,
        length-append (paired equals_sign bs) (LF ∷ []),
        length-paired equals_sign bs,
        length-map table (λ (v : ℕ). least_byte (kind_of y.function) + v),
      )

  pub table-written : (out out₁ out₂ : List ℕ) (at from least : ℕ) → at + length (table_text (symbol_in sheet y) table) ≤ length out → least ≡ least_byte (kind_of y.function)
      → out₁ ≡ put out at (take (y.name + y.length - y.name) (drop y.name sheet)) → from ≡ at + length (take (y.name + y.length - y.name) (drop y.name sheet))
      → out₂ ≡ put out₁ from (paired equals_sign (map (λ (v : ℕ). least + v) table) ++ (LF ∷ [])) → out₂ ≡ put out at (table_text (symbol_in sheet y) table)
  table-written out out₁ out₂ at from least room l p n q =
      let bs : List ℕ = paired equals_sign (map (λ (v : ℕ). least + v) table) ++ (LF ∷ []) in
      let name : List ℕ = take (y.name + y.length - y.name) (drop y.name sheet) in
      put-run out out₁ out₂ at from name bs p n q
      (omega (
        arith,
        lent_length sheet y held,
        line-length,
        length-append (paired equals_sign (map (λ (v : ℕ). least + v) table)) (LF ∷ []),
        length-paired equals_sign (map (λ (v : ℕ). least + v) table),
        length-map table (λ (v : ℕ). least + v),
      ))
      ∙ ap (λ (ks : List ℕ). put out at (ks ++ bs)) (name-lent sheet y)
      ∙ ap (λ (b : ℕ). put out at ((symbol_in sheet y).name ++ (paired equals_sign (map (λ (v : ℕ). b + v) table) ++ (LF ∷ [])))) l
      ∙ ap (put out at) (table-pairs (symbol_in sheet y) table some-value)

-- the least bytes
pub least-small : (function : Bool) → least_byte (kind_of function) ≤ 49
least-small true = omega arith
least-small false = omega arith
