-- The reader of a key and one digit reads as the definition does.
use Prim.Native.Nat.{ℕ, ◌+◌, ◌-◌, ◌≤◌, ◌<◌}
use mathlib.Core.Path.{◌≡◌, refl, sym, ap, ◌∙◌}
use mathlib.Core.Bool.{Bool, true, false, ◌&&◌, cond}
use mathlib.Core.Option.{none, some}
use mathlib.Core.List.{List, [], ◌∷◌}
use native.Mathlib.Omega.{arith}
use native.Mathlib.Numerals.{add-one}
use lib.Dec.{ltb}
use lib.ListN.{length, get_or, drop}
use Rattle.theory.specs.Bytes.{is_digit}
use Rattle.theory.specs.Program.{digit_of, digit_line}
use Rattle.theory.proofs.Tests.{leb-of-≤, leb-of-<, ltb-of-<, ltb-of-≤}
use Rattle.solver.proofs.Options.{read-on, not-read}
use Rattle.text.specs.Lines.{part, LineEnd, StartsWith}
use Rattle.text.proofs.Part.{length_part, part-cons, part_none}
use Rattle.input_lines.specs.Lines.{LineRead, ValueRead}
use Rattle.input_lines.proofs.KeyedLines as keyed-lines
use Rattle.std.specs.Prelude as rust
use Rattle.std.specs.Prelude.{Some, None}

not-one : (bs : List ℕ) → (length bs ≡ 1 → ⊥) → digit_of bs ≡ none
not-one [] h = refl
not-one (b ∷ []) h = absurd (h refl)
not-one (b ∷ c ∷ bs) h = refl

-- what is no digit is not read
module _ (input : List ℕ) (from end : ℕ) (h : from ≤ end) (k : end < length input) where
  refused-value : digit_of (part input from end) ≡ none → ValueRead digit_of input from end None
  refused-value e = record { read = sym (not-read (digit_of (part input from end)) _ e); within = tt }

  pub other_length : (end - from ≡ 1 → ⊥) → ValueRead digit_of input from end None
  other_length n = refused-value (not-one (part input from end) (λ e. n (sym (length_part input from end h (omega arith)) ∙ e)))

  one : end - from ≡ 1 → part input from end ≡ get_or input from 0 ∷ []
  one n =
      let e : from + 1 ≡ end = omega arith in
      part-cons input from end 0 (omega arith) (omega arith) ∙ ap (λ (a : ℕ). get_or input from 0 ∷ part input a end) e ∙ ap (λ (l : List ℕ). get_or input from 0 ∷ l) (part_none input end)

  no_digit : end - from ≡ 1 → is_digit (get_or input from 0) ≡ false → ValueRead digit_of input from end None
  no_digit n d = refused-value (ap digit_of (one n) ∙ ap (λ (b : Bool). cond b (some (get_or input from 0 - 48)) none) d)

  pub below : end - from ≡ 1 → get_or input from 0 < 48 → ValueRead digit_of input from end None
  below n d = no_digit n (ap (λ (b : Bool). b && ltb (get_or input from 0) 58) (leb-of-< 48 (get_or input from 0) d))

  pub above : end - from ≡ 1 → 48 ≤ get_or input from 0 → 57 < get_or input from 0 → ValueRead digit_of input from end None
  above n c d =
      no_digit n (ap (λ (b : Bool). b && ltb (get_or input from 0) 58) (leb-of-≤ 48 (get_or input from 0) c) ∙ ltb-of-≤ (get_or input from 0) 58 (omega arith))

  pub digit : end - from ≡ 1 → 48 ≤ get_or input from 0 → get_or input from 0 ≤ 57 → ValueRead digit_of input from end (Some ((get_or input from 0 - 48), (end + 1)))
  digit n c d =
      let is : is_digit (get_or input from 0) ≡ true = ap (λ (b : Bool). b && ltb (get_or input from 0) 58) (leb-of-≤ 48 (get_or input from 0) c) ∙ ltb-of-< (get_or input from 0) 58 (omega arith) in
      let e : digit_of (part input from end) ≡ some (get_or input from 0 - 48) = ap digit_of (one n) ∙ ap (λ (b : Bool). cond b (some (get_or input from 0 - 48)) none) is in
      record { read = ap (λ (j : ℕ). some (get_or input from 0 - 48, drop j input)) (add-one end) ∙ sym (read-on (digit_of (part input from end)) _ (get_or input from 0 - 48) e); within = omega arith }

-- the line, its key, and its value
module _ (input : List ℕ) (at end : ℕ) (key : List ℕ) (l : LineEnd input at end) where
  pub no_line : end ≡ length input → LineRead (digit_line key) input at None
  unfolding digit_line
  no_line e = record { read = sym (keyed-lines.no_line digit_of input at end key l e); within = tt }

  module _ (h : end ≡ length input → ⊥) where
    pub no_key : StartsWith (part input at end) key false → LineRead (digit_line key) input at None
    unfolding digit_line
    no_key s = record { read = sym (keyed-lines.no_key digit_of input at end key l h s); within = tt }

    pub keyed : StartsWith (part input at end) key true → (r : rust.Option (ℕ × ℕ)) → ValueRead digit_of input (at + length key) end r → LineRead (digit_line key) input at r
    unfolding digit_line
    keyed s r v = record { read = v.read ∙ sym (keyed-lines.keyed digit_of input at end key l h s); within = v.within }
