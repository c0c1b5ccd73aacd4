-- The reader of the fourth line reads as the definition does.
use Prim.Native.Nat.{ℕ, ◌+◌, ◌<◌}
use mathlib.Core.Path.{◌≡◌, sym, ap, ◌∙◌}
use mathlib.Core.Bool.{true, false}
use mathlib.Core.Option.{some}
use mathlib.Core.List.{List}
use native.Mathlib.Numerals.{add-one}
use native.Mathlib.Omega.{arith}
use lib.ListN.{length, drop}
use Rattle.theory.specs.Bytes.{bytes}
use Rattle.solver.proofs.Options.{read-on, not-read}
use Rattle.text.specs.Lines.{part, LineEnd, StartsWith}
use Rattle.std.specs.Prelude as rust
use Rattle.std.specs.Prelude.{Some, None}
use Rattle.theory.specs.Options.{told}
use Rattle.allowance.specs.FinderProgram.{allowance_of, allowance_line}
use Rattle.input_lines.specs.Lines.{LineRead, ValueRead}
use Rattle.input_lines.proofs.KeyedLines as keyed-lines

-- the value, and what follows its line
module _ (input : List ℕ) (from end : ℕ) (k : end < length input) (c : rust.Option ℕ) (e : told c ≡ allowance_of (part input from end)) where
  pub no_value : c ≡ None → ValueRead allowance_of input from end None
  no_value b = record { read = sym (not-read (allowance_of (part input from end)) _ (sym e ∙ ap told b)); within = tt }

  pub value : (n : ℕ) → c ≡ Some n → ValueRead allowance_of input from end (Some (n, (end + 1)))
  value n b =
      record {
        read = ap (λ (j : ℕ). some (n, drop j input)) (add-one end) ∙ sym (read-on (allowance_of (part input from end)) _ n (sym e ∙ ap told b));
        within = omega arith;
      }

-- the line, its key, and its value
module _ (input : List ℕ) (at end : ℕ) (l : LineEnd input at end) where
  pub no_line : end ≡ length input → LineRead allowance_line input at None
  unfolding allowance_line
  no_line e = record { read = sym (keyed-lines.no_line allowance_of input at end (bytes "allow=") l e); within = tt }

  module _ (h : end ≡ length input → ⊥) where
    pub no_key : StartsWith (part input at end) (bytes "allow=") false → LineRead allowance_line input at None
    unfolding allowance_line
    no_key s = record { read = sym (keyed-lines.no_key allowance_of input at end (bytes "allow=") l h s); within = tt }

    pub keyed : StartsWith (part input at end) (bytes "allow=") true → (r : rust.Option (ℕ × ℕ)) → ValueRead allowance_of input (at + 6) end r → LineRead allowance_line input at r
    unfolding allowance_line
    keyed s r v = record { read = v.read ∙ sym (keyed-lines.keyed allowance_of input at end (bytes "allow=") l h s); within = v.within }
