-- A sheet taken apart: its symbols, and its clause lines byte for byte; the text that it is.
use Rattle.std.specs.Prelude.{ℕ, ◌+◌, cond, List, [], ◌∷◌, ◌++◌, map, eqb, length, drop}
use Rattle.theory.specs.Lists.{concat_map}
use Rattle.theory.specs.Bytes.{bytes, LF, decimal}
use Rattle.theory.specs.Lines.{add_byte}
use Rattle.theory.specs.Syntax.{Symbol, functions, predicates}
use Rattle.theory.specs.Problem.{Problem}
use Rattle.theory.specs.SheetText.{line, symbol_text}

-- the functions, the predicates, and the clause lines as they stand, each without its LF
pub record Sheet : Type 0 where
  pub functions : List Symbol
  pub predicates : List Symbol
  pub lines : List (List ℕ)

-- the lines of a text, each without its LF
abbrev pub cut_lines : List ℕ → List (List ℕ)
cut_lines [] = []
cut_lines (b ∷ bs) = let r = cut_lines bs in cond (eqb b LF) ([] ∷ r) (add_byte b r)

-- the sheet of a text and the problem read from it: the clause lines come after four lines and one for each symbol
unfoldable pub sheet_of : Problem → List ℕ → Sheet
sheet_of p text =
    record {
      functions = functions p.symbols;
      predicates = predicates p.symbols;
      lines = drop (4 + length p.symbols) (cut_lines text);
    }

-- a line with its LF
abbrev pub ended : List ℕ → List ℕ
ended l = l ++ (LF ∷ [])

-- the lines that declare symbols, each without its LF
abbrev pub declaration_lines : List ℕ → List Symbol → List (List ℕ)
declaration_lines key fs = map (λ (f : Symbol). key ++ symbol_text f) fs

-- a count, then the lines counted
abbrev pub section_text : List ℕ → List (List ℕ) → List ℕ
section_text key ls = line key (decimal (length ls)) ++ concat_map ended ls

-- the text of a sheet
unfoldable pub text_of : Sheet → List ℕ
text_of m =
    line (bytes "sheet=1") []
    ++ (line (bytes "funs=") (decimal (length m.functions))
    ++ (concat_map (λ (f : Symbol). line (bytes "fun=") (symbol_text f)) m.functions
    ++ (line (bytes "preds=") (decimal (length m.predicates))
    ++ (concat_map (λ (f : Symbol). line (bytes "pred=") (symbol_text f)) m.predicates
    ++ (line (bytes "clauses=") (decimal (length m.lines))
    ++ concat_map ended m.lines)))))
