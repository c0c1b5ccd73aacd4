-- The lines of a case: what is due on each, the size, and the column of its refusal.
use Prim.Native.Nat.{ℕ, zero, suc, ◌+◌, ◌-◌, ◌≤◌, ◌<◌}
use mathlib.Core.Path.{◌≡◌, refl, sym, ap, ◌∙◌}
use mathlib.Core.Bool.{Bool, true, false, cond}
use mathlib.Core.Option.{none, some}
use mathlib.Core.List.{List, [], ◌∷◌, map}
use native.Mathlib.Omega.{arith}
use lib.Dec.{leb, ltb}
use lib.ListN.{length, get_or, drop, length-drop, length-map, get_or-eq_default}
use lib.Seq.{get_or-drop}
use Rattle.theory.specs.Lists.{or_zero}
use Rattle.theory.specs.Bytes.{bytes}
use Rattle.theory.specs.Syntax.{Signature, Symbol, symbol_at}
use Rattle.theory.specs.Refusals.{refused, at_line, at_place}
use Rattle.theory.specs.CaseText.{size_of, read_case}
use Rattle.theory.specs.LineForms.{LineForm, keyed, no_line, no_bytes, size_digit, is_size_byte, good_bytes}
use Rattle.theory.specs.DueLines.{size_on, table_form, due_in_case}
use Rattle.theory.specs.Columns.{byte_column, case_column, with_columns, placed_case}
use Rattle.theory.proofs.Tests.{and_left, and_right, leb-true, ltb-true}
use Rattle.text.specs.Lines.{part}
use Rattle.text.proofs.Counts.{one_byte}
use Rattle.syntax.specs.declared.terms.Span.{Span}
use Rattle.columns.specs.Lines.{LineAt}
use Rattle.columns.specs.Cases.{due_at_size}

pub refused-placed : (g : Signature) (case : List ℕ) (l c : ℕ) → read_case g case ≡ refused (at_line 12 l) → c ≡ case_column g case l → placed_case g case ≡ refused (at_place 12 (record { line = l; column = c }))
unfolding placed_case
refused-placed g case l c e h = ap (with_columns (λ n l. case_column g case l)) e ∙ ap (λ (c : ℕ). refused (at_place 12 (record { line = l; column = c }))) (sym h)

pub lineless : (g : Signature) (case : List ℕ) (l : ℕ) → l ≡ 0 → 0 ≡ case_column g case l
unfolding case_column
lineless g case l e = ap (case_column g case) (sym e)

-- the column of a line, by its good bytes
pub line-told : (g : Signature) (case : List ℕ) (line s r : ℕ) (there : Span) → (line ≡ 0 → ⊥) → LineAt case (line - 1) there → s ≡ size_on case
    → r ≡ good_bytes (due_at_size s g (line - 1)) (part case there.from there.to) → 1 + r ≡ case_column g case line
unfolding case_column due_in_case byte_column
line-told g case line s r there h at e z =
    let next : suc (line - 1) ≡ line = omega arith in
    let w : 1 + r ≡ suc r = omega arith in
    w
    ∙ ap suc (z ∙ ap (λ (s : ℕ). good_bytes (due_at_size s g (line - 1)) (part case there.from there.to)) e ∙ ap (good_bytes (due_at_size (size_on case) g (line - 1))) (sym at.line))
    ∙ ap (case_column g case) next

-- what is due
module _ (s : ℕ) (g : Signature) (l : ℕ) (bs : List ℕ) where
  pub first-due : (r : ℕ) → l ≡ 0 → r ≡ good_bytes (keyed (bytes "case=1") no_bytes) bs → r ≡ good_bytes (due_at_size s g l) bs
  first-due r e z = z ∙ ap (λ (l : ℕ). good_bytes (due_at_size s g l) bs) (sym e)

  pub second-due : (r : ℕ) → l ≡ 1 → r ≡ good_bytes (keyed (bytes "size=") size_digit) bs → r ≡ good_bytes (due_at_size s g l) bs
  second-due r e z = z ∙ ap (λ (l : ℕ). good_bytes (due_at_size s g l) bs) (sym e)

  module _ (h₀ : l ≡ 0 → ⊥) (h₁ : l ≡ 1 → ⊥) where
    third : due_at_size s g l ≡ get_or (map (table_form s) g) (l - 2) no_line
    third = let e : l ≡ suc (suc (l - 2)) = omega arith in ap (due_at_size s g) e

    pub none-due : length g ≤ l - 2 → 0 ≡ good_bytes (due_at_size s g l) bs
    none-due h = sym (ap (λ (d : LineForm). good_bytes d bs) (third ∙ get_or-eq_default (map (table_form s) g) no_line {n = l - 2} (omega (arith, length-map g (table_form s)))))

    pub table-due : (r : ℕ) (y : Symbol) → l - 2 < length g → symbol_at g (l - 2) ≡ y → r ≡ good_bytes (table_form s y) bs → r ≡ good_bytes (due_at_size s g l) bs
    table-due r y h e z = z ∙ ap (λ (y : Symbol). good_bytes (table_form s y) bs) (sym e) ∙ sym (ap (λ (d : LineForm). good_bytes d bs) (third ∙ at g (l - 2) h))
      where
        at : (g : Signature) (i : ℕ) → i < length g → get_or (map (table_form s) g) i no_line ≡ table_form s (symbol_at g i)
        at [] i h = absurd (omega arith)
        at (f ∷ fs) zero h = refl
        at (f ∷ fs) (suc i) h = at fs i (omega arith)

-- the size behind its key
module _ (line : List ℕ) where
  pub other_length : (length line ≡ 6 → ⊥) → 0 ≡ or_zero (size_of (drop 5 line))
  other_length h = go (drop 5 line) (λ e. h (omega (arith, length-drop 5 line)))
    where
      go : (v : List ℕ) → (length v ≡ 1 → ⊥) → 0 ≡ or_zero (size_of v)
      go [] h = refl
      go (b ∷ []) h = absurd (h refl)
      go (b ∷ c ∷ v) h = refl

  module _ (six : length line ≡ 6) where
    digit : (q : Bool) → q ≡ is_size_byte (get_or line 5 0) → or_zero (size_of (drop 5 line)) ≡ cond q (get_or line 5 0 - 48) 0
    digit q e =
        ap (λ (v : List ℕ). or_zero (size_of v)) (one_byte (drop 5 line) (omega (arith, length-drop 5 line)) ∙ ap (λ (b : ℕ). b ∷ []) (get_or-drop 5 line 0 0))
        ∙ ap (λ (q : Bool). or_zero (cond q (some (get_or line 5 0 - 48)) none)) (sym e)
        ∙ go q
      where
        go : (q : Bool) → or_zero (cond q (some (get_or line 5 0 - 48)) none) ≡ cond q (get_or line 5 0 - 48) 0
        go true = refl
        go false = refl

    pub no_digit : false ≡ is_size_byte (get_or line 5 0) → 0 ≡ or_zero (size_of (drop 5 line))
    no_digit e = sym (digit false e)

    pub size-digit : true ≡ is_size_byte (get_or line 5 0) → get_or line 5 0 - 48 ≡ or_zero (size_of (drop 5 line))
    size-digit e = sym (digit true e)

pub size-bounds : (b : ℕ) → true ≡ is_size_byte b → (49 ≤ b) × (b < 57)
size-bounds b e = (leb-true 49 b (and_left (leb 49 b) (ltb b 57) (sym e)), ltb-true b 57 (and_right (leb 49 b) (ltb b 57) (sym e)))

pub sized_on : (case : List ℕ) (r : ℕ) (there : Span) → LineAt case 1 there → r ≡ or_zero (size_of (drop 5 (part case there.from there.to))) → r ≡ size_on case
unfolding size_on
sized_on case r there at e = e ∙ ap (λ (l : List ℕ). or_zero (size_of (drop 5 l))) (sym at.line)
