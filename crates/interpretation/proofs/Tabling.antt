-- The tables of the first symbols, one symbol more at a time.
use Prim.Native.Nat.{ℕ, zero, suc, ◌+◌, ◌*◌, ◌-◌, ◌^◌, ◌≤◌, ◌<◌}
use mathlib.Core.Path.{◌≡◌, refl, sym, ap, ◌∙◌, subst}
use mathlib.Core.Bool.{Bool, true, false}
use mathlib.Core.List.{List}
use native.Mathlib.Decide.{ℕ_discrete}
use native.Mathlib.Nat.{pow-zero}
use native.Mathlib.Omega.{arith}
use lib.Dec.{ltb}
use lib.ListN.{length, get_or, set, replicate, length-set}
use lib.Seq.{get_or-set_same, get_or-set_other}
use Rattle.theory.specs.Syntax.{symbol_at}
use Rattle.theory.specs.Syntax as theory
use Rattle.theory.specs.Cells.{table_size, cell_base, cell_count}
use Rattle.theory.proofs.Tests.{ltb-true, ltb-false}
use Rattle.theory.proofs.Numbering.{cell_base-suc, cell_base-length}
use Rattle.syntax.specs.declared.signature.Symbol.{Symbol}
use Rattle.syntax.specs.declared.signature.Signature.{Signature}
use Rattle.syntax.specs.Signatures.{max_declared, max_cells, kind_of, symbol_in, signature_in, Small}
use Rattle.clauses.specs.Names.{Limited}
use Rattle.clauses.proofs.Held.{blank, arity-at, constant-at, count-signature_in, symbol_at-signature_in}
use Rattle.interpretation.specs.declared.tables.Tables.{Tables}
use Rattle.interpretation.specs.Tables.{TablesOf}
use Rattle.interpretation.proofs.Ranks.{table-within}

-- the tables of the first i symbols
pub record Tabled (g : theory.Signature) (s : ℕ) (t : Tables) (i : ℕ) : Type 0 where
  pub arities-held : length t.arities ≡ 56
  pub kinds-held : length t.functions ≡ 56
  pub bases-held : length t.bases ≡ 56
  pub arity : (j : ℕ) → j < i → get_or t.arities j 0 ≡ (symbol_at g j).arity
  pub kind : (j : ℕ) → j < i → kind_of (get_or t.functions j false) ≡ (symbol_at g j).kind
  pub base : (j : ℕ) → j < i → get_or t.bases j 0 ≡ cell_base s g j
  pub cells : t.cells ≡ cell_base s g i
  pub within : t.cells ≤ 512 * i

pub none-tabled : (g : theory.Signature) (s : ℕ) → Tabled g s (record { arities = replicate 56 0; functions = replicate 56 false; bases = replicate 56 0; cells = 0 }) 0
none-tabled g s =
    record {
      arities-held = refl;
      kinds-held = refl;
      bases-held = refl;
      arity = λ j l. absurd (omega arith);
      kind = λ j l. absurd (omega arith);
      base = λ j l. absurd (omega arith);
      cells = refl;
      within = omega arith;
    }

-- t with one symbol more
abbrev pub with : Tables → ℕ → Symbol → ℕ → Tables
with t i y n = record { arities = set t.arities i y.arity; functions = set t.functions i y.function; bases = set t.bases i t.cells; cells = t.cells + n }

-- the elements at places up to i where the one at i is set
pub set-suc : {A : Type 0} (d x : A) (l : List A) (i : ℕ) (P : ℕ → A → Type 0) → i < length l → P i x → ((j : ℕ) → j < i → P j (get_or l j d)) → (j : ℕ) → j < suc i → P j (get_or (set l i x) j d)
set-suc d x l i P h p q j k = elim (ℕ_discrete j i) [
  | yes e ↦ subst (λ (m : ℕ). P m (get_or (set l i x) m d)) (sym e) (subst (λ (a : _). P i a) (sym (get_or-set_same l i x d h)) p)
  | no n ↦ subst (λ (a : _). P j a) (sym (get_or-set_other l i j x d n)) (q j (omega (arith, n)))
]

module _ (g : theory.Signature) (s : ℕ) (t : Tables) (i : ℕ) (y : Symbol) (sheet : List ℕ) (p : Tabled g s t i) (e : symbol_at g i ≡ symbol_in sheet y) where
  pub one-tabled : i < length g → i < 56 → s ≤ 8 → y.arity ≤ 3 → Tabled g s (with t i y (s ^ y.arity)) (suc i)
  one-tabled l few small le =
      record {
        arities-held = length-set t.arities i y.arity ∙ p.arities-held;
        kinds-held = length-set t.functions i y.function ∙ p.kinds-held;
        bases-held = length-set t.bases i t.cells ∙ p.bases-held;
        arity = set-suc 0 y.arity t.arities i (λ j a. a ≡ (symbol_at g j).arity) (omega (arith, p.arities-held)) (sym (ap (λ (f : theory.Symbol). f.arity) e)) p.arity;
        kind =
            set-suc false y.function t.functions i (λ j b. kind_of b ≡ (symbol_at g j).kind) (omega (arith, p.kinds-held)) (sym (ap (λ (f : theory.Symbol). f.kind) e)) p.kind;
        base = set-suc 0 t.cells t.bases i (λ j b. b ≡ cell_base s g j) (omega (arith, p.bases-held)) p.cells p.base;
        cells = omega (arith, p.cells, cell_base-suc s g i l, ap (table_size s) e);
        within = omega (arith, p.within, table-within s y.arity small le);
      }

-- all of them
pub all-tabled : (g : theory.Signature) (s : ℕ) (t : Tables) → length g ≤ 56 → Tabled g s t (length g) → TablesOf g s t
all-tabled g s t few p =
    record {
      arities = record { within = omega (arith, p.arities-held); arity = p.arity };
      kinds-held = omega (arith, p.kinds-held);
      kind = p.kind;
      bases-held = omega (arith, p.bases-held);
      base = p.base;
      cells = p.cells ∙ cell_base-length s g;
    }

-- a small signature has at most 512 cells for each symbol
pub base-within : (g : theory.Signature) (s i : ℕ) → s ≤ 8 → Small g → i ≤ length g → cell_base s g i ≤ 512 * i
base-within g s zero h small l = omega arith
base-within g s (suc i) h small l =
    omega (arith, base-within g s i h small (omega arith), cell_base-suc s g i (omega arith), table-within s (symbol_at g i).arity h (small.arities i (omega arith)))

-- the signature of limited symbols is small
pub limited-small : (sheet : List ℕ) (y : Signature) → Limited y → Small (signature_in sheet y)
limited-small sheet y h =
    record {
      symbols = omega (arith, count-signature_in y h sheet, h.count);
      arities = λ i l. rw (symbol_at-signature_in y h sheet i (omega (arith, count-signature_in y h sheet))) (arity-at y h i (omega (arith, count-signature_in y h sheet)));
    }

-- limited symbols have no more cells than a problem may have: those that are more than a sheet may have are constants
module _ (sheet : List ℕ) (y : Signature) (h : Limited y) (s : ℕ) (small : s ≤ 8) where
  abbrev g : theory.Signature
  g = signature_in sheet y

  next-base : (i : ℕ) → i < y.count → cell_base s g (suc i) ≡ cell_base s g i + s ^ (get_or y.symbols i blank).arity
  next-base i l = cell_base-suc s g i (omega (arith, count-signature_in y h sheet)) ∙ ap (λ (f : theory.Symbol). cell_base s g i + table_size s f) (symbol_at-signature_in y h sheet i l)

  -- what the first i symbols may have
  abbrev most : ℕ → ℕ
  most i = 512 * (i - (i - max_declared)) + (i - max_declared)

  base-limited : (i : ℕ) → i ≤ y.count → cell_base s g i ≤ most i
  base-limited zero l = omega arith
  base-limited (suc i) l = go (ltb i max_declared) refl (base-limited i (omega arith))
    where
      go : (b : Bool) → ltb i max_declared ≡ b → cell_base s g i ≤ most i → cell_base s g (suc i) ≤ most (suc i)
      go true few h' = omega (arith, next-base i l, table-within s (get_or y.symbols i blank).arity small (arity-at y h i l), ltb-true i max_declared few)
      go false past h' =
          let one : s ^ (get_or y.symbols i blank).arity ≡ 1 = ap (λ (n : ℕ). s ^ n) (constant-at y h i (ltb-false i max_declared past) l) ∙ pow-zero s in
          omega (arith, next-base i l, one, ltb-false i max_declared past)

  -- each symbol's table ends among them
  pub table-limited : (i : ℕ) → i < y.count → cell_base s g i + s ^ (get_or y.symbols i blank).arity ≤ max_cells
  table-limited i l = omega (arith, base-limited (suc i) l, next-base i l, h.count)

  pub cells-limited : cell_count s g ≤ max_cells
  cells-limited = omega (arith, base-limited y.count (omega arith), ap (cell_base s g) (count-signature_in y h sheet), cell_base-length s g, h.count)
