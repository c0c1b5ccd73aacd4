-- The cells of a case as they are lent: those of the symbols, as many for every sheet, and each value below 8.
use Prim.Native.Nat.{ℕ, ◌-◌, ◌≤◌}
use mathlib.Core.Path.{◌≡◌, sym, ap, ◌∙◌}
use mathlib.Core.Bool.{true, false≢true}
use mathlib.Core.List.{List, [], ◌∷◌, ◌++◌, map, map-map, append-nil}
use native.Mathlib.Omega.{arith}
use lib.Dec.{ltb}
use lib.ListN.{length, take, replicate, length-replicate, drop_of_length-le}
use lib.Seq.{length-take-le}
use Rattle.theory.specs.Lists.{sum, all}
use Rattle.theory.specs.Vectors.{AllBelow}
use Rattle.theory.specs.Syntax.{Kind}
use Rattle.theory.specs.Syntax as theory
use Rattle.theory.specs.Cells.{table_size, cell_count, cell_kinds, value_count, in_range, is_interpretation}
use Rattle.theory.specs.CaseText.{case_text, case_length}
use Rattle.theory.specs.Operations.{over}
use Rattle.theory.proofs.Tests.{and_left, and_right, ltb-true}
use Rattle.theory.proofs.Interpretations.{length-interpretation}
use Rattle.theory.proofs.CaseLengths.{case-lengths}
use Rattle.renumbering.specs.Rearrangements.{is_rearrangement, continued}
use Rattle.renumbering.specs.Renumbering.{renumbered}
use Rattle.renumbering.specs.LeastForm.{least_form}
use Rattle.renumbering.proofs.Rearrangements.{is_rearrangement→, rearrangements}
use Rattle.renumbering.proofs.Renumbering.{renumbered-is, length-renumbered}
use Rattle.renumbering.proofs.LeastForm.{reached, rearrangements-are}
use Rattle.renumbered_cases.specs.RenumberedCases.{entries_of, is_listed}
use Rattle.renumbered_cases.proofs.RenumberedCases.{rearranges}
use Rattle.syntax.specs.declared.signature.Symbol.{Symbol}
use Rattle.syntax.specs.declared.signature.Signature.{Signature}
use Rattle.syntax.specs.Signatures.{symbol_in, signature_in}
use Rattle.text.specs.Put.{put}
use Rattle.answers.proofs.Answering.{put-over}
use Rattle.interpretation.proofs.Tabling.{cells-limited}
use Rattle.reading_back.proofs.CaseLines.{count_small}
use Rattle.case_writer.specs.Writable.{Writable}
use Rattle.rearranging.specs.declared.rearrangement.Rearrangement.{Rearrangement}
use Rattle.rearranging.specs.declared.standing.Standing.TheVariants.{Before}
use Rattle.rearranging.specs.Entries.{rearrangement_in, EntriesHeld}
use Rattle.rearranging.specs.Keeping.{kept_cells}
use Rattle.rearranging.specs.Candidates.{Rearranges, InterpretationLent}
use Rattle.rearranging.specs.All.{lesser_of, Extendable}
use Rattle.rearranging.proofs.Entering.{length-entries}
use Rattle.rearranging.proofs.Keeping.{kept-before}
use Rattle.rearranging.proofs.Least.{least-of-all}
use Rattle.case_forms.specs.Cells.{first_cells, CaseHeld}

-- values in range are below 8 at sizes up to 8
range-below : (s : ℕ) → s ≤ 8 → (ks : List Kind) (vs : List ℕ) → in_range s ks vs ≡ true → AllBelow 8 vs
range-below s h [] [] e = tt
range-below s h [] (d ∷ ds) e = absurd (false≢true e)
range-below s h (k ∷ ks) [] e = tt
range-below s h (k ∷ ks) (d ∷ ds) e =
    (omega (arith, ltb-true d (value_count s k) (and_left (ltb d (value_count s k)) (in_range s ks ds) e), count_small s h k), range-below s h ks ds (and_right (ltb d (value_count s k)) (in_range s ks ds) e))

-- the number of cells does not depend on the sheet
same_count : (s : ℕ) (y : Signature) (a b : List ℕ) → cell_count s (signature_in a y) ≡ cell_count s (signature_in b y)
unfolding signature_in
same_count s y a b =
    let ys : List Symbol = take y.count y.symbols in
    ap sum (map-map (table_size s) (symbol_in a) ys ∙ sym (map-map (table_size s) (symbol_in b) ys))

module _ (sheet : List ℕ) (y : Signature) (s : ℕ) (cells : List ℕ) (w : Writable sheet y s cells) where
  abbrev g : theory.Signature
  g = signature_in sheet y

  pub cells-lent : (held : List ℕ) → length held ≡ length cells → InterpretationLent s y cells held
  unfolding is_interpretation
  cells-lent held e =
      record {
        limited = w.readable.limited;
        positive = w.positive;
        small = w.size;
        values = range-below s w.size (cell_kinds s g) cells w.values;
        counted = λ other. length-interpretation s g cells w.values ∙ same_count s y sheet other;
        room = e;
      }

  -- renumbered, they are a case again
  module _ (r : Rearrangement) (q : Rearranges s r) (held held' : List ℕ) (e : length held ≡ length cells) (t : held' ≡ kept_cells (renumbered s g (rearrangement_in r) cells) held Before) where
    pub is-renumbered : held' ≡ renumbered s g (rearrangement_in r) cells
    is-renumbered = t ∙ kept-before (renumbered s g (rearrangement_in r) cells) held (length-renumbered s g (rearrangement_in r) cells ∙ sym (e ∙ length-interpretation s g cells w.values))

    pub renumbered-writable : Writable sheet y s held'
    renumbered-writable =
        record {
          readable = w.readable;
          positive = w.positive;
          size = w.size;
          values = ap (is_interpretation s g) is-renumbered ∙ renumbered-is s g (rearrangement_in r) (is_rearrangement→ s (rearrangement_in r) q.whole) cells w.values;
        }

  -- the cells written over as many
  pub cells-copied : (old held : List ℕ) → length old ≡ length cells → held ≡ put old 0 cells → held ≡ cells
  cells-copied old held e q =
      q ∙ put-over old cells ∙ ap (λ (l : List ℕ). cells ++ l) (drop_of_length-le old {i = length cells} (omega (arith, e))) ∙ append-nil cells

  -- the least of all renumberings is a case too
  module _ (r : Rearrangement) (none : rearrangement_in r ≡ []) (h : EntriesHeld r) (held held' : List ℕ) (e : held ≡ cells)
      (t : held' ≡ lesser_of held (map (λ p. renumbered s g p cells) (continued s (s - r.count) (rearrangement_in r)))) where
    no-entries : s - r.count ≡ s
    no-entries = let n : r.count ≡ 0 = sym (length-entries r h) ∙ ap length none in omega (arith, n)

    pub is-least : held' ≡ least_form s g cells
    is-least =
        t
        ∙ ap (λ (l : List ℕ). lesser_of l (map (λ p. renumbered s g p cells) (continued s (s - r.count) (rearrangement_in r)))) e
        ∙ ap (λ (n : ℕ). lesser_of cells (map (λ p. renumbered s g p cells) (continued s n (rearrangement_in r)))) no-entries
        ∙ ap (λ (q : List ℕ). lesser_of cells (map (λ p. renumbered s g p cells) (continued s s q))) none
        ∙ least-of-all s g cells

    pub least-writable : Writable sheet y s held'
    least-writable =
        let a = reached s g cells w.values in
        record {
          readable = w.readable;
          positive = w.positive;
          size = w.size;
          values = ap (is_interpretation s g) (is-least ∙ sym a.turned) ∙ renumbered-is s g a.by (is_rearrangement→ s a.by a.rearrangement) cells w.values;
        }

-- no entries begin all rearrangements
pub none-begun : (s : ℕ) (r : Rearrangement) → EntriesHeld r → rearrangement_in r ≡ [] → Extendable s r
none-begun s r h none =
    let n : r.count ≡ 0 = sym (length-entries r h) ∙ ap length none in
    let m : s - r.count ≡ s = omega (arith, n) in
    record {
      entries = h;
      within = omega (arith, n);
      rearranged = ap (λ (k : ℕ). all (is_rearrangement s) (continued s k (rearrangement_in r))) m
          ∙ ap (λ (p : List ℕ). all (is_rearrangement s) (continued s s p)) none
          ∙ ap (all (is_rearrangement s)) (sym (rearrangements s).one_by_one)
          ∙ rearrangements-are s;
    }

-- zeros that are lent
pub part-zeros : (m n : ℕ) → n ≤ m → length (take (n - 0) (replicate {A = ℕ} m 0)) ≡ n
part-zeros m n h = let e : n - 0 ≡ n = omega arith in length-take-le (n - 0) (replicate {A = ℕ} m 0) (omega (arith, h, length-replicate {A = ℕ} m 0)) ∙ e

-- a list that was taken
pub listed-rearranges : (s : ℕ) (list : List ℕ) (r : Rearrangement) → EntriesHeld r → rearrangement_in r ≡ entries_of list → is_listed s list ≡ true → Rearranges s r
listed-rearranges s list r h e l = record { entries = h; whole = ap (is_rearrangement s) e ∙ rearranges s list l }

-- the first cells of a case that is held
module _ (sheet : List ℕ) (y : Signature) (s : ℕ) (cells : List ℕ) (h : CaseHeld sheet y s cells) where
  abbrev symbols : theory.Signature
  symbols = signature_in sheet y

  abbrev first : List ℕ
  first = first_cells s symbols cells

  -- as they are lent
  module _ (n : ℕ) (e : n ≡ cell_count s symbols) where
    pub few : n ≤ 12320
    few = omega (arith, e, cells-limited sheet y h.readable.limited s h.small)

    pub first-end : n ≤ length cells
    first-end = omega (arith, few, h.room)

    first_taken : take (n - 0) cells ≡ first
    first_taken = let z : n - 0 ≡ cell_count s symbols = omega (arith, e) in ap (λ (k : ℕ). take k cells) z

    pub length_part : length (take (n - 0) cells) ≡ n
    length_part = length-take-le (n - 0) cells (omega (arith, first-end)) ∙ omega arith

    pub first-writable : Writable sheet y s (take (n - 0) cells)
    first-writable = record { readable = h.readable; positive = h.positive; size = h.small; values = ap (is_interpretation s symbols) first_taken ∙ h.values }

    -- what was written of them
    pub written-renumbered : (p out out' : List ℕ) → out' ≡ over (case_text s symbols (renumbered s symbols p (take (n - 0) cells))) out → out' ≡ over (case_text s symbols (renumbered s symbols p first)) out
    written-renumbered p out out' o = o ∙ ap (λ (vs : List ℕ). over (case_text s symbols (renumbered s symbols p vs)) out) first_taken

    pub written-least : (out out' : List ℕ) → out' ≡ over (case_text s symbols (least_form s symbols (take (n - 0) cells))) out → out' ≡ over (case_text s symbols (least_form s symbols first)) out
    written-least out out' o = o ∙ ap (λ (vs : List ℕ). over (case_text s symbols (least_form s symbols vs)) out) first_taken

  -- and its length
  pub length-renumbered-case : (p : List ℕ) → is_rearrangement s p ≡ true → length (case_text s symbols (renumbered s symbols p first)) ≡ case_length s symbols
  length-renumbered-case p q = case-lengths s symbols (renumbered s symbols p first) h.positive (renumbered-is s symbols p (is_rearrangement→ s p q) first h.values)

  pub length-least-case : length (case_text s symbols (least_form s symbols first)) ≡ case_length s symbols
  length-least-case =
      let a = reached s symbols first h.values in
      case-lengths s symbols (least_form s symbols first) h.positive (ap (is_interpretation s symbols) (sym a.turned) ∙ renumbered-is s symbols a.by (is_rearrangement→ s a.by a.rearrangement) first h.values)
