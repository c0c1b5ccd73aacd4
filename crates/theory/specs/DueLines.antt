-- What is due on each line of a sheet and of a case, told from the lines before it.
use Rattle.std.specs.Prelude.{ℕ, zero, suc, ◌+◌, List, [], ◌∷◌, ◌++◌, map, length, get_or, drop, replicate}
use Rattle.std.proofs.Math.Option.{Option, none, some}
use Rattle.theory.specs.Lists.{or_zero}
use Rattle.theory.specs.Bytes.{bytes}
use Rattle.theory.specs.Lines.{Cut, cut_line, count_of}
use Rattle.theory.specs.Syntax.{Kind, function, predicate, Symbol, Signature, no_symbol}
use Rattle.theory.specs.Problem.{symbol_of}
use Rattle.theory.specs.Cells.{table_size}
use Rattle.theory.specs.CaseText.{equals_sign, size_of}
use Rattle.theory.specs.LineForms.{no_bytes, count_digits, declaration, any_words, size_digit, cell_values, LineForm, keyed, no_line}

-- the bytes of the line that was cut; the whole text where no LF ends it
abbrev pub cut_or : List ℕ → Option Cut → List ℕ
cut_or text none = text
cut_or text (some p) = p.0

-- the text after the line that was cut
abbrev pub rest_or : Option Cut → List ℕ
rest_or none = []
rest_or (some p) = p.1

-- the bytes of a text's first line, without its LF
abbrev pub first_line : List ℕ → List ℕ
first_line text = cut_or text (cut_line text)

-- the text after n lines
abbrev pub from_line : ℕ → List ℕ → List ℕ
from_line zero text = text
from_line (suc n) text = from_line n (rest_or (cut_line text))

-- the first n lines
abbrev pub first_lines : ℕ → List ℕ → List (List ℕ)
first_lines zero text = []
first_lines (suc n) text = first_line text ∷ first_lines n (rest_or (cut_line text))

-- the count behind this key on the line after n lines; 0 where there is none
unfoldable pub count_on : List ℕ → ℕ → List ℕ → ℕ
count_on key n text = or_zero (count_of (drop (length key) (first_line (from_line n text))))

-- the counts that a sheet says: of functions,
abbrev pub functions_said : List ℕ → ℕ
functions_said text = count_on (bytes "funs=") 1 text

-- of predicates,
abbrev pub predicates_said : List ℕ → ℕ
predicates_said text = count_on (bytes "preds=") (2 + functions_said text) text

-- of clauses
abbrev pub clauses_said : List ℕ → ℕ
clauses_said text = count_on (bytes "clauses=") (3 + functions_said text + predicates_said text) text

-- the lines of a sheet with so many functions, predicates and clauses
abbrev pub lines_with : ℕ → ℕ → ℕ → List LineForm
lines_with f p c =
    keyed (bytes "sheet=1") no_bytes ∷ keyed (bytes "funs=") count_digits ∷
    (replicate f (keyed (bytes "fun=") declaration) ++ (keyed (bytes "preds=") count_digits ∷
    (replicate p (keyed (bytes "pred=") declaration) ++ (keyed (bytes "clauses=") count_digits ∷
    replicate c (keyed (bytes "clause=") any_words)))))

-- what is due on a line of a sheet, the first being line 0
unfoldable pub due_in_sheet : List ℕ → ℕ → LineForm
due_in_sheet text l = get_or (lines_with (functions_said text) (predicates_said text) (clauses_said text)) l no_line

-- the symbol, or none
abbrev pub or_no_symbol : Option Symbol → Symbol
or_no_symbol none = no_symbol
or_no_symbol (some f) = f

-- the symbol that a line with this key declares
abbrev pub symbol_on : Kind → List ℕ → List ℕ → Symbol
symbol_on k key l = or_no_symbol (symbol_of k (drop (length key) l))

-- the symbols that a sheet declares: those of its function lines, then those of its predicate lines
unfoldable pub sheet_symbols : List ℕ → Signature
sheet_symbols text =
    map (symbol_on function (bytes "fun=")) (first_lines (functions_said text) (from_line 2 text))
    ++ map (symbol_on predicate (bytes "pred=")) (first_lines (predicates_said text) (from_line (3 + functions_said text) text))

-- the size on a case's second line; 0 where there is none
unfoldable pub size_on : List ℕ → ℕ
size_on text = or_zero (size_of (drop 5 (first_line (from_line 1 text))))

-- a symbol's line at a size: name=values
abbrev pub table_form : ℕ → Symbol → LineForm
table_form s f = keyed (f.name ++ (equals_sign ∷ [])) (cell_values s f.kind (table_size s f))

-- what is due on a line of a case, the first being line 0
unfoldable pub due_in_case : Signature → List ℕ → ℕ → LineForm
due_in_case g text l = get_or (keyed (bytes "case=1") no_bytes ∷ keyed (bytes "size=") size_digit ∷ map (table_form (size_on text)) g) l no_line
