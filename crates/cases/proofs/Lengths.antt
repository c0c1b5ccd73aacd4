-- The length of a case, one symbol more at a time.
use Prim.Native.Nat.{ℕ, suc, ◌+◌, ◌*◌, ◌^◌, ◌≤◌, ◌<◌}
use mathlib.Core.Path.{◌≡◌, refl, sym, ap, ◌∙◌}
use mathlib.Core.List.{List, [], ◌∷◌, map}
use native.Mathlib.Omega.{arith}
use lib.ListN.{length, get_or, take}
use lib.Seq.{take-suc, take-length}
use Rattle.theory.specs.Lists.{sum}
use Rattle.theory.specs.Syntax.{symbol_at, no_symbol}
use Rattle.theory.specs.Syntax as theory
use Rattle.theory.specs.Cells.{table_size}
use Rattle.theory.specs.CaseText.{case_length}
use Rattle.theory.proofs.Lists.{sum-map-append}
use Rattle.syntax.specs.declared.signature.Signature.{Signature}
use Rattle.syntax.specs.Signatures.{symbol_in, signature_in}
use Rattle.clauses.specs.Names.{Readable}
use Rattle.clauses.proofs.Held.{blank, count-signature_in, symbol_at-signature_in, name-within}
use Rattle.syntax.proofs.NamesLent.{name-length}

-- the length of a symbol's line
abbrev line_length : ℕ → theory.Symbol → ℕ
line_length s f = length f.name + 1 + 2 * table_size s f

length_more : (s : ℕ) (g : theory.Signature) (i : ℕ) → i < length g → case_length s (take (suc i) g) ≡ case_length s (take i g) + line_length s (symbol_at g i)
unfolding case_length
length_more s g i h =
    ap (λ (fs : theory.Signature). 14 + sum (map (line_length s) fs)) (take-suc g i no_symbol h)
    ∙ omega (arith, sum-map-append (line_length s) (take i g) (symbol_at g i ∷ []))

-- n is the length of a case with the first i symbols
pub record Measured (s : ℕ) (y : Signature) (i n : ℕ) : Type 0 where
  pub within : n ≤ 14 + 17409 * i
  pub measured : (sheet : List ℕ) → Readable sheet y → n ≡ case_length s (take i (signature_in sheet y))

pub none-measured : (s : ℕ) (y : Signature) → Measured s y 0 14
unfolding case_length
none-measured s y = record { within = omega arith; measured = λ sheet h. refl }

pub one-measured : (s : ℕ) (y : Signature) (i n : ℕ) → i < y.count → s ^ (get_or y.symbols i blank).arity ≤ 512 → (get_or y.symbols i blank).length ≤ 16384 → Measured s y i n
    → Measured s y (i + 1) (n + ((get_or y.symbols i blank).length + 1 + 2 * s ^ (get_or y.symbols i blank).arity))
one-measured s y i n h few short m =
    record {
      within = omega (arith, m.within);
      measured = λ sheet r.
          let g : theory.Signature = signature_in sheet y in
          let z : i + 1 ≡ suc i = omega arith in
          let f : symbol_at g i ≡ symbol_in sheet (get_or y.symbols i blank) = symbol_at-signature_in y r.limited sheet i h in
          omega (
            arith,
            m.measured sheet r,
            length_more s g i (omega (arith, count-signature_in y r.limited sheet)),
            ap (λ (j : ℕ). case_length s (take j g)) z,
            ap (λ (f : theory.Symbol). length f.name) f,
            name-length sheet (get_or y.symbols i blank) (name-within sheet y r i h),
            ap (table_size s) f,
          );
    }

pub all-measured : (s : ℕ) (y : Signature) (i n : ℕ) → i ≡ y.count → Measured s y i n → (sheet : List ℕ) → Readable sheet y → n ≡ case_length s (signature_in sheet y)
all-measured s y i n e m sheet r =
    m.measured sheet r
    ∙ ap (λ (j : ℕ). case_length s (take j (signature_in sheet y))) (e ∙ sym (count-signature_in y r.limited sheet))
    ∙ ap (case_length s) (take-length (signature_in sheet y))
