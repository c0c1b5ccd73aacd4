-- The lines of symbols from one place on, one line more at a time.
use Prim.Native.Nat.{ℕ, ◌+◌, ◌*◌, ◌-◌, ◌≤◌, ◌<◌}
use mathlib.Core.Path.{◌≡◌, sym, ap, ◌∙◌}
use mathlib.Core.List.{List, [], ◌∷◌, ◌++◌, append-nil}
use native.Mathlib.Numerals.{add-one}
use native.Mathlib.Omega.{arith}
use lib.ListN.{length, get_or, take, drop, length-append, length-drop, take-append-drop}
use lib.Seq.{take-suc, take-take, drop-append-le, drop_at, drop-length, length-take-le}
use Rattle.theory.specs.Syntax.{symbol_at, no_symbol}
use Rattle.theory.specs.Syntax as theory
use Rattle.theory.specs.SheetText.{line, symbol_text}
use Rattle.theory.proofs.Lists.{concat_map-append}
use Rattle.syntax.specs.declared.signature.Signature.{Signature}
use Rattle.syntax.specs.Signatures.{symbol_in, signature_in}
use Rattle.clauses.specs.Names.{Readable}
use Rattle.clauses.proofs.Held.{blank, count-signature_in, symbol_at-signature_in}
use Rattle.text.specs.Put.{put, put-run, cursor-run}
use Rattle.sheet_text.specs.Parts.{Named, between, symbol_lines}
use Rattle.sheet_text.proofs.Symbols.{named-at}
use Rattle.sheet_text.proofs.LinesWritten.{same_text}

-- the symbols up to a place between, and those from there on
between_split : (g : theory.Signature) (from i to : ℕ) → from ≤ i → i ≤ to → to ≤ length g → between from to g ≡ between from i g ++ between i to g
between_split g from i to h k l =
    ap (drop from) (sym (take-append-drop i (take to g)) ∙ ap (λ (fs : theory.Signature). fs ++ drop i (take to g)) (take-take i to g k))
    ∙ drop-append-le from (take i g) (drop i (take to g)) (omega (arith, length-take-le i g (omega arith)))

-- the symbol at a place
between-one : (g : theory.Signature) (i : ℕ) → i < length g → between i (i + 1) g ≡ symbol_at g i ∷ []
between-one g i h = rw add-one (ap (drop i) (take-suc g i no_symbol h) ∙ drop_at (take i g) (symbol_at g i ∷ []) i (length-take-le i g (omega arith)))

-- none
between_none : (g : theory.Signature) (from : ℕ) → from ≤ length g → between from from g ≡ []
between_none g from h = ap (λ (n : ℕ). drop n (take from g)) (sym (length-take-le from g h)) ∙ drop-length (take from g)

pub length-between : (g : theory.Signature) (from to : ℕ) → to ≤ length g → length (between from to g) ≡ to - from
length-between g from to h = omega (arith, length-drop from (take to g), length-take-le to g h)

-- the line of the symbol at a place
abbrev pub line_at : List ℕ → List ℕ → Signature → ℕ → List ℕ
line_at key text s i = line key (symbol_text (symbol_in text (get_or s.symbols i blank)))

-- the lines of the symbols from one place up to another
abbrev pub lines_of : List ℕ → List ℕ → Signature → ℕ → ℕ → List ℕ
lines_of key text s from to = symbol_lines key (between from to (signature_in text s))

module _ (key text : List ℕ) (s : Signature) (r : Readable text s) (from : ℕ) where
  pub lines_none : from ≤ s.count → lines_of key text s from from ≡ []
  lines_none h = ap (symbol_lines key) (between_none (signature_in text s) from (omega (arith, count-signature_in s r.limited text)))

  lines_split : (i to : ℕ) → from ≤ i → i ≤ to → to ≤ s.count → lines_of key text s from to ≡ lines_of key text s from i ++ lines_of key text s i to
  lines_split i to h k l =
      let g : theory.Signature = signature_in text s in
      ap (symbol_lines key) (between_split g from i to h k (omega (arith, count-signature_in s r.limited text)))
      ∙ concat_map-append (λ (f : theory.Symbol). line key (symbol_text f)) (between from i g) (between i to g)

  -- one line more
  lines_more : (i : ℕ) → from ≤ i → i < s.count → lines_of key text s from (i + 1) ≡ lines_of key text s from i ++ line_at key text s i
  lines_more i h l =
      let before : List ℕ = lines_of key text s from i in
      lines_split i (i + 1) h (omega arith) (omega arith)
      ∙ ap (λ (fs : theory.Signature). before ++ symbol_lines key fs) (between-one (signature_in text s) i (omega (arith, count-signature_in s r.limited text)))
      ∙ ap (λ (f : theory.Symbol). before ++ symbol_lines key (f ∷ [])) (symbol_at-signature_in s r.limited text i l)
      ∙ ap (λ (v : List ℕ). before ++ v) (append-nil (line_at key text s i))

  pub lines-more-length : (i : ℕ) → from ≤ i → i < s.count → length (lines_of key text s from (i + 1)) ≡ length (lines_of key text s from i) + length (line_at key text s i)
  lines-more-length i h l = ap length (lines_more i h l) ∙ length-append (lines_of key text s from i) (line_at key text s i)

  -- the lines so far and the next one are within all
  pub lines_fit : (i to : ℕ) → from ≤ i → i < to → to ≤ s.count → length (lines_of key text s from i) + length (line_at key text s i) ≤ length (lines_of key text s from to)
  lines_fit i to h k l =
      omega (
        arith,
        lines-more-length i h (omega arith),
        ap length (lines_split (i + 1) to (omega arith) (omega arith) l),
        length-append (lines_of key text s from (i + 1)) (lines_of key text s (i + 1) to),
      )

  -- the line of the symbol at i is written after those before it
  pub line-more-written : (l l' l'' : List ℕ) (at e e' i : ℕ) → from ≤ i → i < s.count → e + length (line_at key text s i) ≤ length l
      → l' ≡ put l at (lines_of key text s from i) → e ≡ at + length (lines_of key text s from i)
      → l'' ≡ put l' e (line_at key text s i) → e' ≡ e + length (line_at key text s i)
      → (l'' ≡ put l at (lines_of key text s from (i + 1))) × (e' ≡ at + length (lines_of key text s from (i + 1)))
  line-more-written l l' l'' at e e' i h k room p n q m =
      let before : List ℕ = lines_of key text s from i in
      let next : List ℕ = line_at key text s i in
      same_text l l'' at e' (before ++ next) (lines_of key text s from (i + 1)) (sym (lines_more i h k)) (put-run l l' l'' at e before next p n q room) (cursor-run at e e' before next n m)

-- n is the length of the lines of the symbols before i
pub record LinesMeasured (key : List ℕ) (s : Signature) (from i n : ℕ) : Type 0 where
  pub within : n + 23 * from ≤ 23 * i
  pub measured : (text : List ℕ) → Readable text s → n ≡ length (lines_of key text s from i)

module _ (key : List ℕ) (s : Signature) (from : ℕ) where
  pub no_lines : from ≤ s.count → LinesMeasured key s from from 0
  no_lines h = record { within = omega arith; measured = λ text r. sym (ap length (lines_none key text s r from h)) }

  pub one_line : (i n m : ℕ) → from ≤ i → i < s.count → m ≤ 23 → ((text : List ℕ) → Named text (get_or s.symbols i blank) → m ≡ length (line_at key text s i)) → LinesMeasured key s from i n
      → LinesMeasured key s from (i + 1) (n + m)
  one_line i n m h l short e k =
      record {
        within = omega (arith, k.within);
        measured = λ text r. omega (arith, k.measured text r, e text (named-at text s r i l), lines-more-length key text s r from i h l);
      }
