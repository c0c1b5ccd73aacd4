-- A case is written symbol by symbol: the lines of the first symbols stand in the output, and the next symbol's table starts behind theirs.
use Prim.Native.Nat.{ℕ, suc, ◌+◌, ◌-◌, ◌^◌, ◌≤◌, ◌<◌}
use mathlib.Core.Path.{◌≡◌, refl, sym, ap, ◌∙◌, subst}
use mathlib.Core.List.{List, ◌++◌}
use native.Mathlib.Nat.{zero-add, one-le-pow}
use native.Mathlib.Numerals.{add-one}
use native.Mathlib.Omega.{arith}
use lib.ListN.{length, get_or, take, drop, length-append, length-take, length-drop, take-append-drop}
use lib.Seq.{take-length}
use Rattle.theory.specs.Vectors.{AllBelow}
use Rattle.theory.specs.Syntax.{symbol_at}
use Rattle.theory.specs.Syntax as theory
use Rattle.theory.specs.Cells.{table_size, cell_base, cell_count}
use Rattle.theory.specs.CaseText.{table_text, tables_text, case_text, case_length}
use Rattle.theory.specs.Operations.{over}
use Rattle.theory.proofs.Lists.{sum-map-append}
use Rattle.theory.proofs.Numbering.{cell_base-suc}
use Rattle.theory.proofs.Interpretations.{length-interpretation}
use Rattle.syntax.specs.declared.signature.Symbol.{Symbol}
use Rattle.syntax.specs.declared.signature.Signature.{Signature}
use Rattle.syntax.specs.Signatures.{symbol_in, signature_in}
use Rattle.clauses.proofs.Held.{blank, count-signature_in, symbol_at-signature_in, name-within}
use Rattle.text.specs.Put.{put, put-none, put-run}
use Rattle.cases.specs.Writing.{heading_text, LineRoom}
use Rattle.reading_back.proofs.CaseLines.{table_of, tables_more, tables-within, case-parts, lines-length, table_below}
use Rattle.case_writer.specs.Writable.{Writable}

-- the first symbols have no more cells than all
pub base-within : (s : ℕ) (g : theory.Signature) (i : ℕ) → cell_base s g i ≤ cell_count s g
base-within s g i = omega (arith, ap (cell_count s) (take-append-drop i g), sum-map-append (table_size s) (take i g) (drop i g))

module _ (sheet : List ℕ) (y : Signature) (s : ℕ) (cells : List ℕ) where
  abbrev g : theory.Signature
  g = signature_in sheet y

  -- the lines of the first i symbols
  abbrev lines : ℕ → List ℕ
  lines i = tables_text s (take i g) cells

  -- they stand in the output from `at` on, e is the place after them, and the next table starts at cell `base`
  pub record Written (out : List ℕ) (at : ℕ) (out' : List ℕ) (e base i : ℕ) : Type 0 where
    pub within : i ≤ y.count
    pub held : length out' ≡ length out
    pub text : out' ≡ put out at (lines i)
    pub cursor : e ≡ at + length (lines i)
    pub reached : base ≡ cell_base s g i

  pub none_written : (out : List ℕ) (at : ℕ) → Written out at out at 0 0
  unfolding tables_text
  none_written out at = record { within = omega arith; held = refl; text = sym (put-none out at); cursor = omega arith; reached = refl }

  module _ (w : Writable sheet y s cells) where
    module _ (i : ℕ) (h : i < y.count) where
      abbrev f : Symbol
      f = get_or y.symbols i blank

      in-signature : i < length g
      in-signature = omega (arith, count-signature_in y w.readable.limited sheet)

      is-symbol : symbol_at g i ≡ symbol_in sheet f
      is-symbol = symbol_at-signature_in y w.readable.limited sheet i h

      -- the table as it is lent
      abbrev lent : ℕ → ℕ → List ℕ
      lent base n = take (base + n - base) (drop base cells)

      module _ (out : List ℕ) (at : ℕ) (out' : List ℕ) (e base : ℕ) (room : at + length (tables_text s g cells) ≤ length out) (v : Written out at out' e base i) (n : ℕ) (k : n ≡ s ^ f.arity) where
        pub table-ends : base + n ≤ length cells
        table-ends = omega (arith, v.reached, k, cell_base-suc s g i in-signature, ap (table_size s) is-symbol, base-within s g (suc i), length-interpretation s g cells w.values)

        is-table : lent base n ≡ table_of s g cells i
        is-table =
            let m : base + n - base ≡ table_size s (symbol_at g i) = omega (arith, k, ap (table_size s) is-symbol) in
            ap (λ (j : ℕ). take j (drop base cells)) m ∙ ap (λ (j : ℕ). take (table_size s (symbol_at g i)) (drop j cells)) v.reached

        abbrev line : List ℕ
        line = table_text (symbol_in sheet f) (lent base n)

        one_more : lines (suc i) ≡ lines i ++ line
        one_more = tables_more s g cells i in-signature ∙ ap (λ (l : List ℕ). lines i ++ l) (ap (λ (f : theory.Symbol). table_text f (table_of s g cells i)) is-symbol ∙ ap (table_text (symbol_in sheet f)) (sym is-table))

        fits : e + length line ≤ length out
        fits = omega (arith, room, v.cursor, ap length one_more, length-append (lines i) line, tables-within s g cells (suc i))

        pub line-room : LineRoom sheet f (lent base n) out' e
        line-room =
            record {
              named = name-within sheet y w.readable i h;
              some-value = omega (arith, k, table-ends, one-le-pow f.arity s w.positive, length-take (base + n - base) (drop base cells), length-drop base cells);
              below = subst (AllBelow 8) (sym is-table) (table_below s w.size g cells i in-signature w.values);
              room = omega (arith, fits, v.held);
            }

        pub line-written : (out'' : List ℕ) (e' : ℕ) → length out'' ≡ length out' → out'' ≡ put out' e line → e' ≡ e + length line → Written out at out'' e' (base + n) (i + 1)
        line-written out'' e' l p q =
            rw add-one
            (record {
              within = h;
              held = l ∙ v.held;
              text = put-run out out' out'' at e (lines i) line v.text v.cursor p fits ∙ ap (put out at) (sym one_more);
              cursor = omega (arith, q, v.cursor, length-append (lines i) line, ap length one_more);
              reached = omega (arith, v.reached, k, cell_base-suc s g i in-signature, ap (table_size s) is-symbol);
            })

    module _ (out : List ℕ) (at : ℕ) (out' : List ℕ) (e base i : ℕ) (v : Written out at out' e base i) (h : y.count ≤ i) where
      all_lines : lines i ≡ tables_text s g cells
      all_lines =
          let c : i ≡ length g = omega (arith, h, v.within, count-signature_in y w.readable.limited sheet) in
          ap lines c ∙ ap (λ (l : theory.Signature). tables_text s l cells) (take-length g)

      pub all-written : out' ≡ put out at (tables_text s g cells)
      all-written = v.text ∙ ap (put out at) all_lines

      pub last-place : e ≡ at + length (tables_text s g cells)
      last-place = v.cursor ∙ ap (λ (l : List ℕ). at + length l) all_lines

    -- heading and lines: the whole case, at the front of the output
    module _ (out : List ℕ) (room : case_length s g ≤ length out) where
      pub heading-fits : 14 ≤ length out
      heading-fits = omega (arith, room, lines-length s g cells w.positive w.values)

      module _ (out' : List ℕ) (at : ℕ) (l : length out' ≡ length out) (p : out' ≡ put out 0 (heading_text s)) (a : at ≡ 14) where
        pub lines_fit : at + length (tables_text s g cells) ≤ length out'
        lines_fit = omega (arith, room, lines-length s g cells w.positive w.values)

        pub case-written : (out'' : List ℕ) → out'' ≡ put out' at (tables_text s g cells) → out'' ≡ over (case_text s g cells) out
        unfolding put
        case-written out'' q =
            put-run out out' out'' 0 at (heading_text s) (tables_text s g cells) p a q (omega (arith, lines_fit))
            ∙ ap (put out 0) (case-parts s g cells)
            ∙ ap (λ (j : ℕ). case_text s g cells ++ drop j out) (zero-add (length (case_text s g cells)))

        pub case-end : (e : ℕ) → e ≡ at + length (tables_text s g cells) → e ≡ case_length s g
        case-end e q = omega (arith, lines-length s g cells w.positive w.values)
