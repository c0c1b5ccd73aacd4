-- The text of a case one symbol more at a time, and the table of each symbol.
use Prim.Native.Nat.{ℕ, zero, suc, ◌+◌, ◌≤◌, ◌<◌}
use mathlib.Core.Path.{◌≡◌, refl, sym, ap, ◌∙◌, subst}
use mathlib.Core.Bool.{true}
use mathlib.Core.List.{List, [], ◌∷◌, ◌++◌, append_assoc, append-nil}
use native.Mathlib.Omega.{arith}
use lib.Dec.{ltb}
use lib.ListN.{length, take, drop, length-append, take-append-drop}
use lib.Seq.{take-suc, drop-drop}
use Rattle.theory.specs.Lists.{all}
use Rattle.theory.specs.Vectors.{AllBelow}
use Rattle.theory.specs.Syntax.{Kind, function, predicate, Signature, symbol_at, no_symbol}
use Rattle.theory.specs.Cells.{table_size, cell_count, cell_base, value_count, is_interpretation}
use Rattle.theory.specs.CaseText.{table_text, tables_text, case_text, case_length}
use Rattle.theory.proofs.Tests.{and_left, and_right, ltb-true}
use Rattle.theory.proofs.CaseLengths.{tables-length}
use Rattle.theory.proofs.Tables.{interpretation-split}
use Rattle.cases.specs.Writing.{heading_text}

module _ (s : ℕ) where
  -- the part of the values that belongs to the symbol at place i
  abbrev pub table_of : Signature → List ℕ → ℕ → List ℕ
  table_of g vs i = take (table_size s (symbol_at g i)) (drop (cell_base s g i) vs)

  tables-behind : (fs gs : Signature) (vs : List ℕ) → tables_text s (fs ++ gs) vs ≡ tables_text s fs vs ++ tables_text s gs (drop (cell_count s fs) vs)
  unfolding tables_text
  tables-behind [] gs vs = refl
  tables-behind (f ∷ fs) gs vs =
      let line : List ℕ = table_text f (take (table_size s f) vs) in
      let rest : List ℕ = drop (table_size s f) vs in
      ap (λ (l : List ℕ). line ++ l) (tables-behind fs gs rest ∙ ap (λ (l : List ℕ). tables_text s fs rest ++ tables_text s gs l) (drop-drop (cell_count s fs) (table_size s f) vs))
      ∙ sym (append_assoc line (tables_text s fs rest) (tables_text s gs (drop (cell_count s (f ∷ fs)) vs)))

  -- one symbol's line more
  pub tables_more : (g : Signature) (vs : List ℕ) (i : ℕ) → i < length g → tables_text s (take (suc i) g) vs ≡ tables_text s (take i g) vs ++ table_text (symbol_at g i) (table_of g vs i)
  unfolding tables_text
  tables_more g vs i h =
      ap (λ (l : Signature). tables_text s l vs) (take-suc g i no_symbol h)
      ∙ tables-behind (take i g) (symbol_at g i ∷ []) vs
      ∙ ap (λ (l : List ℕ). tables_text s (take i g) vs ++ l) (append-nil (table_text (symbol_at g i) (table_of g vs i)))

  -- the first symbols' lines are no longer than all
  pub tables-within : (g : Signature) (vs : List ℕ) (i : ℕ) → length (tables_text s (take i g) vs) ≤ length (tables_text s g vs)
  tables-within g vs i =
      let rest : List ℕ = tables_text s (drop i g) (drop (cell_count s (take i g)) vs) in
      omega (
        arith,
        ap (λ (l : Signature). length (tables_text s l vs)) (take-append-drop i g),
        ap length (tables-behind (take i g) (drop i g) vs),
        length-append (tables_text s (take i g) vs) rest,
      )

  -- a case is its heading and the symbols' lines
  pub case-parts : (g : Signature) (vs : List ℕ) → heading_text s ++ tables_text s g vs ≡ case_text s g vs
  unfolding case_text
  case-parts g vs = refl

  pub lines-length : (g : Signature) (vs : List ℕ) → zero < s → is_interpretation s g vs ≡ true → case_length s g ≡ 14 + length (tables_text s g vs)
  unfolding case_length
  lines-length g vs pos h = ap (λ (n : ℕ). 14 + n) (sym (tables-length s g vs pos h))

  -- values in range are below 8 at sizes up to 8
  module _ (small : s ≤ 8) where
    pub count_small : (k : Kind) → value_count s k ≤ 8
    count_small function = small
    count_small predicate = omega arith

    below-8 : (k : Kind) (us : List ℕ) → all (λ d. ltb d (value_count s k)) us ≡ true → AllBelow 8 us
    below-8 k [] h = tt
    below-8 k (u ∷ us) h =
        let r = all (λ d. ltb d (value_count s k)) us in
        (omega (arith, ltb-true u (value_count s k) (and_left (ltb u (value_count s k)) r h), count_small k), below-8 k us (and_right (ltb u (value_count s k)) r h))

    pub table_below : (g : Signature) (vs : List ℕ) (i : ℕ) → i < length g → is_interpretation s g vs ≡ true → AllBelow 8 (table_of g vs i)
    table_below [] vs i h v = absurd (omega arith)
    table_below (f ∷ g) vs zero h v = below-8 f.kind (take (table_size s f) vs) (interpretation-split s f g vs v).0.below
    table_below (f ∷ g) vs (suc i) h v =
        subst (λ (l : List ℕ). AllBelow 8 (take (table_size s (symbol_at g i)) l)) (drop-drop (cell_base s g i) (table_size s f) vs)
        (table_below g (drop (table_size s f) vs) i (omega arith) (interpretation-split s f g vs v).1)
