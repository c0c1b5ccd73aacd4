-- A symbol's line as the code finds it in the case.
use Prim.Native.Nat.{ℕ, suc, ◌+◌, ◌*◌, ◌-◌, ◌^◌, ◌≤◌}
use mathlib.Core.Path.{◌≡◌, refl, sym, ap, ◌∙◌}
use mathlib.Core.Bool.{true, false}
use mathlib.Core.Option.{Option, some}
use mathlib.Core.List.{List}
use native.Mathlib.Nat.{one-le-pow}
use native.Mathlib.Omega.{arith}
use lib.ListN.{length, take, drop}
use Rattle.theory.specs.Lines.{cut_line, after_key}
use Rattle.theory.specs.Cells.{table_size}
use Rattle.theory.specs.Refusals.{answer}
use Rattle.syntax.specs.declared.signature.Symbol.{Symbol}
use Rattle.syntax.specs.Signatures.{kind_of, symbol_in}
use Rattle.text.specs.Lines.{part, LineEnd, StartsWith}
use Rattle.text.proofs.Part.{length_part, drop-part}
use Rattle.std.specs.Prelude.{Some, None}
use Rattle.cases.specs.Reading.{ValuesRead, TableRead}
use Rattle.syntax.proofs.NamesLent.{name-lent, lent_length}
use Rattle.cases.proofs.Cuts.{unended, ended}
use Rattle.cases.proofs.TableLines.{no_line, no_name, other_length, no-values, values-read}

module _ (case : List ℕ) (at end : ℕ) (e : LineEnd case at end) (sheet : List ℕ) (y : Symbol) (s base : ℕ) (cells : List ℕ) where
  -- no LF ends the line
  pub line-fault : end ≡ length case → TableRead s (symbol_in sheet y) case at base cells cells None
  line-fault h = record { read = λ l. sym (no_line s (symbol_in sheet y) l (drop at case) (unended case at end e h)); front = refl; within = tt }

  module _ (h : end ≡ length case → ⊥) where
    cut : cut_line (drop at case) ≡ some (part case at end, drop (suc end) case)
    cut = ended case at end e h

    pub name-fault : StartsWith (part case at end) (take (y.name + y.length - y.name) (drop y.name sheet)) false → TableRead s (symbol_in sheet y) case at base cells cells None
    name-fault w =
        record {
          read = λ l. sym (no_name s (symbol_in sheet y) l (drop at case) _ _ cut (ap (λ (ks : List ℕ). after_key ks (part case at end)) (sym (name-lent sheet y)) ∙ w.found));
          front = refl;
          within = tt;
        }

    module _ (w : StartsWith (part case at end) (take (y.name + y.length - y.name) (drop y.name sheet)) true) (held : y.name + y.length ≤ length sheet) where
      -- the values start within the line
      pub from-within : at + y.length ≤ end
      from-within = omega (arith, w.room refl, lent_length sheet y held, length_part case at end e.from e.within, e.from)

      after-name : after_key (symbol_in sheet y).name (part case at end) ≡ some (part case (at + y.length) end)
      after-name =
          ap (λ (ks : List ℕ). after_key ks (part case at end)) (sym (name-lent sheet y))
          ∙ w.found
          ∙ ap (λ (n : ℕ). some (drop n (part case at end))) (lent_length sheet y held)
          ∙ ap {B = Option (List ℕ)} some (drop-part case at end y.length)

      pub length-fault : (end - (at + y.length) ≡ 2 * s ^ y.arity → ⊥) → TableRead s (symbol_in sheet y) case at base cells cells None
      length-fault d =
          record {
            read = λ l. sym (other_length s (symbol_in sheet y) l (drop at case) _ _ cut _ after-name (λ z. d (sym (length_part case (at + y.length) end from-within e.within) ∙ z)));
            front = refl;
            within = tt;
          }

      module _ (n : end - (at + y.length) ≡ 2 * s ^ y.arity) (pos : 1 ≤ s) (cells' : List ℕ) where
        counted : length (part case (at + y.length) end) ≡ 2 * table_size s (symbol_in sheet y)
        counted = length_part case (at + y.length) end from-within e.within ∙ n

        pub values-fault : ValuesRead s (kind_of y.function) (s ^ y.arity) (part case (at + y.length) end) base cells cells' false → TableRead s (symbol_in sheet y) case at base cells cells' None
        values-fault v =
            record {
              read = λ l. sym (no-values s (symbol_in sheet y) l (drop at case) _ _ cut _ after-name counted (one-le-pow y.arity s pos) v.values);
              front = v.front;
              within = tt;
            }

        pub table-next : ValuesRead s (kind_of y.function) (s ^ y.arity) (part case (at + y.length) end) base cells cells' true → TableRead s (symbol_in sheet y) case at base cells cells' (Some (end + 1))
        table-next v =
            let z : suc end ≡ end + 1 = omega arith in
            record {
              read = λ l. ap (λ (j : ℕ). answer (take (s ^ y.arity) (drop base cells'), drop j case)) (sym z) ∙ sym (values-read s (symbol_in sheet y) l (drop at case) _ _ cut _ after-name counted (one-le-pow y.arity s pos) _ v.values);
              front = v.front;
              within = omega (arith, e.within);
            }
