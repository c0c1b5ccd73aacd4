-- The numbering of the first symbols, one symbol more at a time.
use Prim.Native.Nat.{ℕ, suc, ◌+◌, ◌*◌, ◌^◌, ◌≤◌, ◌<◌}
use mathlib.Core.Path.{◌≡◌, refl, sym, ap, ◌∙◌}
use mathlib.Core.Bool.{Bool, true, false}
use mathlib.Core.List.{List}
use native.Mathlib.Nat.{mul-le-mul}
use native.Mathlib.Omega.{arith}
use lib.ListN.{length, get_or, set, replicate, length-set}
use Rattle.theory.specs.Syntax.{symbol_at}
use Rattle.theory.specs.Syntax as theory
use Rattle.theory.specs.Propositional.{width, block_size, prop_base}
use Rattle.theory.proofs.Numbering.{prop_base-zero, prop_base-suc, prop_base-length}
use Rattle.syntax.specs.declared.signature.Symbol.{Symbol}
use Rattle.syntax.specs.Signatures.{kind_of, symbol_in}
use Rattle.interpretation.proofs.Ranks.{table-within}
use Rattle.interpretation.proofs.Tabling.{set-suc}
use Rattle.valuations.specs.declared.numbering.Numbering.{Numbering}
use Rattle.valuations.specs.Numbers.{NumberingOf}

-- a cell has at most 8 variables
pub width-within : (s : ℕ) (b : Bool) → s ≤ 8 → width s (kind_of b) ≤ 8
width-within s true h = h
width-within s false h = omega arith

-- a symbol has at most 4,096 variables
pub block_within : (s a : ℕ) (b : Bool) → s ≤ 8 → a ≤ 3 → s ^ a * width s (kind_of b) ≤ 4096
block_within s a b h l = omega (arith, mul-le-mul {n₁ = s ^ a} {m₁ = width s (kind_of b)} {n₂ = 512} {m₂ = 8} (table-within s a h l) (width-within s b h))

-- the numbering of the first i symbols
pub record Numbered (g : theory.Signature) (s : ℕ) (n : Numbering) (i : ℕ) : Type 0 where
  pub bases-held : length n.bases ≡ 56
  pub widths-held : length n.widths ≡ 56
  pub base : (j : ℕ) → j < i → get_or n.bases j 0 ≡ prop_base s g j
  pub width : (j : ℕ) → j < i → get_or n.widths j 0 ≡ width s (symbol_at g j).kind
  pub count : n.count ≡ prop_base s g i
  pub within : n.count ≤ 4096 * i

pub none-numbered : (g : theory.Signature) (s : ℕ) → Numbered g s (record { bases = replicate 56 0; widths = replicate 56 0; count = 0 }) 0
none-numbered g s =
    record {
      bases-held = refl;
      widths-held = refl;
      base = λ j l. absurd (omega arith);
      width = λ j l. absurd (omega arith);
      count = sym (prop_base-zero s g);
      within = omega arith;
    }

-- n with one symbol more
abbrev pub with : Numbering → ℕ → ℕ → ℕ → Numbering
with n i w b = record { bases = set n.bases i n.count; widths = set n.widths i w; count = n.count + b }

module _ (g : theory.Signature) (s : ℕ) (n : Numbering) (i : ℕ) (y : Symbol) (sheet : List ℕ) (p : Numbered g s n i) (e : symbol_at g i ≡ symbol_in sheet y) where
  pub one-numbered : i < length g → i < 56 → s ≤ 8 → y.arity ≤ 3 → Numbered g s (with n i (width s (kind_of y.function)) (s ^ y.arity * width s (kind_of y.function))) (suc i)
  one-numbered l few small le =
      record {
        bases-held = length-set n.bases i n.count ∙ p.bases-held;
        widths-held = length-set n.widths i (width s (kind_of y.function)) ∙ p.widths-held;
        base = set-suc 0 n.count n.bases i (λ j b. b ≡ prop_base s g j) (omega (arith, p.bases-held)) p.count p.base;
        width =
            set-suc 0 (width s (kind_of y.function)) n.widths i (λ j w. w ≡ width s (symbol_at g j).kind) (omega (arith, p.widths-held))
            (sym (ap (λ (f : theory.Symbol). width s f.kind) e)) p.width;
        count = omega (arith, p.count, prop_base-suc s g i l, ap (block_size s) e);
        within = omega (arith, p.within, block_within s y.arity y.function small le);
      }

-- all of them
pub all-numbered : (g : theory.Signature) (s : ℕ) (n : Numbering) → length g ≤ 56 → Numbered g s n (length g) → NumberingOf g s n
all-numbered g s n few p =
    record {
      bases-held = omega (arith, p.bases-held);
      base = p.base;
      widths-held = omega (arith, p.widths-held);
      width = p.width;
      count = p.count ∙ prop_base-length s g;
      few = few;
      small = omega (arith, p.within);
    }
