-- The good bytes of a symbol's line: its name is a part of the sheet.
use Prim.Native.Nat.{ℕ, ◌+◌, ◌-◌, ◌^◌, ◌≤◌, ◌<◌}
use mathlib.Core.Path.{◌≡◌, sym, ap, ◌∙◌, subst}
use mathlib.Core.List.{List, [], ◌∷◌}
use native.Mathlib.Omega.{arith}
use lib.ListN.{length, take, drop}
use Rattle.theory.specs.CaseText.{equals_sign}
use Rattle.theory.specs.LineForms.{cell_values, good_line, good_bytes}
use Rattle.theory.specs.DueLines.{table_form}
use Rattle.text.specs.Lines.{part}
use Rattle.text.proofs.Part.{length_part}
use Rattle.syntax.specs.declared.signature.Symbol.{Symbol}
use Rattle.syntax.specs.Signatures.{kind_of, symbol_in}
use Rattle.columns.specs.Good.{KeyMet}
use Rattle.columns.proofs.KeyBytes.{lent-rest}

module _ (sheet line : List ℕ) (y : Symbol) (s r : ℕ) (named : y.name + y.length ≤ length sheet) (m : KeyMet line (part sheet y.name (y.name + y.length)) r) where
  abbrev name : List ℕ
  name = take y.length (drop y.name sheet)

  lent : part sheet y.name (y.name + y.length) ≡ name
  lent = let e : y.name + y.length - y.name ≡ y.length = omega arith in ap (λ (n : ℕ). take n (drop y.name sheet)) e

  met : KeyMet line name r
  met = subst (λ (k : List ℕ). KeyMet line k r) lent m

  long : length name ≡ y.length
  long = sym (ap length lent) ∙ length_part sheet y.name (y.name + y.length) (omega arith) named ∙ omega arith

  pub name-short : r < y.length → r ≡ good_bytes (table_form s (symbol_in sheet y)) line
  name-short h = sym (met.short (omega (arith, long)) (equals_sign ∷ []) (cell_values s (kind_of y.function) (s ^ y.arity)))

  pub name-whole : (n count : ℕ) → y.length ≤ r → count ≡ s ^ y.arity → n ≡ good_line (equals_sign ∷ []) (cell_values s (kind_of y.function) count) (part line r (length line))
      → r + n ≡ good_bytes (table_form s (symbol_in sheet y)) line
  name-whole n count h c e =
      ap (λ (k : ℕ). r + k) (e ∙ ap (good_line (equals_sign ∷ []) (cell_values s (kind_of y.function) count)) (lent-rest line r) ∙ ap (λ (k : ℕ). good_line (equals_sign ∷ []) (cell_values s (kind_of y.function) k) (drop r line)) c)
      ∙ sym (met.whole (omega (arith, long)) (equals_sign ∷ []) (cell_values s (kind_of y.function) (s ^ y.arity)))
