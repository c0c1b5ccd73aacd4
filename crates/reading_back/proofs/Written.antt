-- A case is written symbol by symbol: the lines of the first symbols stand in the output.
use Prim.Native.Nat.{ℕ, suc, ◌+◌, ◌≤◌, ◌<◌}
use mathlib.Core.Path.{◌≡◌, refl, sym, ap, ◌∙◌, subst}
use mathlib.Core.Bool.{true}
use mathlib.Core.List.{List, ◌++◌}
use native.Mathlib.Nat.{zero-add}
use native.Mathlib.Numerals.{add-one}
use native.Mathlib.Omega.{arith}
use lib.ListN.{length, get_or, take, drop, replicate, length-append}
use lib.Seq.{take-length}
use Rattle.theory.specs.Vectors.{AllBelow}
use Rattle.theory.specs.Syntax.{symbol_at}
use Rattle.theory.specs.Syntax as theory
use Rattle.theory.specs.Cells.{table_size, is_interpretation}
use Rattle.theory.specs.Propositional.{block_size, prop_base, prop_count}
use Rattle.theory.specs.CaseText.{table_text, tables_text, case_text, case_length}
use Rattle.theory.specs.Operations.{over}
use Rattle.theory.specs.Valuation.{is_valuation, values_of, read_back}
use Rattle.theory.proofs.Tests.{eqb-of-≡, and-join}
use Rattle.theory.proofs.CaseLengths.{case-lengths}
use Rattle.theory.proofs.Valuations.{read_back-is_interpretation}
use Rattle.syntax.specs.declared.signature.Symbol.{Symbol}
use Rattle.syntax.specs.declared.signature.Signature.{Signature}
use Rattle.syntax.specs.Signatures.{symbol_in, signature_in}
use Rattle.clauses.proofs.Held.{blank, arity-at, count-signature_in, symbol_at-signature_in, name-within}
use Rattle.text.specs.Put.{put, put-none, put-run}
use Rattle.cases.specs.Writing.{heading_text}
use Rattle.valuations.specs.declared.numbering.Numbering.{Numbering}
use Rattle.valuations.proofs.Blocks.{block_room, table-at}
use Rattle.reading_back.specs.Bits.{table_in, TableLent, WritableBits}
use Rattle.reading_back.proofs.CaseLines.{table_of, tables_more, tables-within, case-parts, lines-length, table_below}

module _ (sheet : List ℕ) (y : Signature) (s : ℕ) (bits : List ℕ) where
  -- the lines of the first i symbols
  abbrev lines_up_to : ℕ → List ℕ
  lines_up_to i = tables_text s (take i (signature_in sheet y)) (read_back s (signature_in sheet y) bits)

  -- they stand in the output from `at` on, and e is the place after them
  pub record Written (out : List ℕ) (at : ℕ) (out' : List ℕ) (e i : ℕ) : Type 0 where
    pub within : i ≤ y.count
    pub held : length out' ≡ length out
    pub text : out' ≡ put out at (lines_up_to i)
    pub cursor : e ≡ at + length (lines_up_to i)

  pub none_written : (out : List ℕ) (at : ℕ) → Written out at out at 0
  unfolding tables_text
  none_written out at = record { within = omega arith; held = refl; text = sym (put-none out at); cursor = omega arith }

module _ (sheet : List ℕ) (y : Signature) (n : Numbering) (s : ℕ) (bits : List ℕ) (w : WritableBits sheet y n s bits) where
  abbrev g : theory.Signature
  g = signature_in sheet y

  -- the interpretation that is written
  abbrev vs : List ℕ
  vs = read_back s g bits

  abbrev lines : ℕ → List ℕ
  lines = lines_up_to sheet y s bits

  in-range : is_interpretation s g vs ≡ true
  unfolding is_valuation
  in-range = read_back-is_interpretation s g bits (and-join _ _ (eqb-of-≡ (length bits) (prop_count s g) (w.counted ∙ w.numbered.count)) w.binary) w.functional

  module _ (i : ℕ) (h : i < y.count) where
    abbrev f : Symbol
    f = get_or y.symbols i blank

    in-signature : i < length g
    in-signature = omega (arith, count-signature_in y w.readable.limited sheet)

    is-symbol : symbol_at g i ≡ symbol_in sheet f
    is-symbol = symbol_at-signature_in y w.readable.limited sheet i h

    -- the table read from the symbol's bits is its part of the interpretation
    is-table : table_of s g vs i ≡ table_in s f (get_or n.bases i 0) bits
    is-table =
        table-at s g bits i in-signature
        ∙ ap (λ (f : theory.Symbol). values_of s (replicate (table_size s f) f.kind) (drop (prop_base s g i) bits)) is-symbol
        ∙ ap (λ (j : ℕ). table_in s f j bits) (sym (w.numbered.base i in-signature))

    pub table-lent : TableLent sheet f (get_or n.bases i 0) s bits
    table-lent =
        record {
          arity = arity-at y w.readable.limited i h;
          positive = w.positive;
          size = w.size;
          name = name-within sheet y w.readable i h;
          numbered = omega (arith, w.counted, w.numbered.small);
          block = omega (arith, w.numbered.base i in-signature, w.numbered.count, w.counted, block_room s g i in-signature, ap (block_size s) is-symbol);
          below = subst (AllBelow 8) is-table (table_below s w.size g vs i in-signature in-range);
        }

    abbrev line : List ℕ
    line = table_text (symbol_in sheet f) (table_in s f (get_or n.bases i 0) bits)

    one_more : lines (suc i) ≡ lines i ++ line
    one_more = tables_more s g vs i in-signature ∙ ap (λ (l : List ℕ). lines i ++ l) (ap (λ (f : theory.Symbol). table_text f (table_of s g vs i)) is-symbol ∙ ap (table_text (symbol_in sheet f)) is-table)

    module _ (out : List ℕ) (at : ℕ) (out' : List ℕ) (e : ℕ) (room : at + length (tables_text s g vs) ≤ length out) (v : Written sheet y s bits out at out' e i) where
      fits : e + length line ≤ length out
      fits = omega (arith, room, v.cursor, ap length one_more, length-append (lines i) line, tables-within s g vs (suc i))

      pub line-fits : e + length line ≤ length out'
      line-fits = omega (arith, fits, v.held)

      pub line-written : (out'' : List ℕ) (e' : ℕ) → length out'' ≡ length out' → out'' ≡ put out' e line → e' ≡ e + length line → Written sheet y s bits out at out'' e' (i + 1)
      line-written out'' e' l p q =
          rw add-one
          (record {
            within = h;
            held = l ∙ v.held;
            text = put-run out out' out'' at e (lines i) line v.text v.cursor p fits ∙ ap (put out at) (sym one_more);
            cursor = omega (arith, q, v.cursor, length-append (lines i) line, ap length one_more);
          })

  module _ (out : List ℕ) (at : ℕ) (out' : List ℕ) (e i : ℕ) (v : Written sheet y s bits out at out' e i) (h : y.count ≤ i) where
    all_lines : lines i ≡ tables_text s g vs
    all_lines =
        let c : i ≡ length g = omega (arith, h, v.within, count-signature_in y w.readable.limited sheet) in
        ap lines c ∙ ap (λ (l : theory.Signature). tables_text s l vs) (take-length g)

    pub all-written : out' ≡ put out at (tables_text s g vs)
    all-written = v.text ∙ ap (put out at) all_lines

    pub last-place : e ≡ at + length (tables_text s g vs)
    last-place = v.cursor ∙ ap (λ (l : List ℕ). at + length l) all_lines

  -- the case has its length
  pub text-length : length (case_text s g vs) ≡ case_length s g
  text-length = case-lengths s g vs w.positive in-range

  -- heading and lines: the whole case, at the front of the output
  module _ (out : List ℕ) (room : case_length s g ≤ length out) where
    pub heading-fits : 14 ≤ length out
    heading-fits = omega (arith, room, lines-length s g vs w.positive in-range)

    module _ (out' : List ℕ) (at : ℕ) (l : length out' ≡ length out) (p : out' ≡ put out 0 (heading_text s)) (a : at ≡ 14) where
      pub lines_fit : at + length (tables_text s g vs) ≤ length out'
      lines_fit = omega (arith, room, lines-length s g vs w.positive in-range)

      pub case-written : (out'' : List ℕ) → out'' ≡ put out' at (tables_text s g vs) → out'' ≡ over (case_text s g vs) out
      unfolding put
      case-written out'' q =
          put-run out out' out'' 0 at (heading_text s) (tables_text s g vs) p a q (omega (arith, lines_fit))
          ∙ ap (put out 0) (case-parts s g vs)
          ∙ ap (λ (j : ℕ). case_text s g vs ++ drop j out) (zero-add (length (case_text s g vs)))

      pub case-end : (e : ℕ) → e ≡ at + length (tables_text s g vs) → e ≡ case_length s g
      case-end e q = omega (arith, lines-length s g vs w.positive in-range)
