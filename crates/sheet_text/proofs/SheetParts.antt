-- A sheet's text by its two parts: its head, then the lines of its clauses.
use Prim.Native.Nat.{ℕ}
use mathlib.Core.Path.{◌≡◌, sym, ap, ◌∙◌}
use mathlib.Core.List.{List, [], ◌++◌, append_assoc}
use lib.ListN.{length, take, drop}
use Rattle.theory.specs.Bytes.{bytes, decimal}
use Rattle.theory.specs.Syntax.{Symbol, functions, predicates}
use Rattle.theory.specs.Problem.{Problem}
use Rattle.theory.specs.SheetText.{line, sheet_text}
use Rattle.sheet_text.specs.Parts.{symbol_lines, kind_text, head_text, clause_line, lines_of_clauses}

regroup : (a b c d e f g : List ℕ) → a ++ (b ++ (c ++ (d ++ (e ++ (f ++ g))))) ≡ (a ++ ((b ++ c) ++ ((d ++ e) ++ f))) ++ g
regroup a b c d e f g = simp append_assoc

-- the first fs symbols are the functions, and the others the predicates
module _ (p : Problem) (fs : ℕ) (first : functions p.symbols ≡ take fs p.symbols) (second : predicates p.symbols ≡ drop fs p.symbols) where
  pub sheet-parts : head_text p.symbols fs (length p.clauses) ++ lines_of_clauses p.symbols p.clauses ≡ sheet_text p
  unfolding sheet_text head_text kind_text clause_line
  sheet-parts = sym (ap (λ (ys : List Symbol). whole ys (predicates p.symbols)) first ∙ ap (λ (ys : List Symbol). whole (take fs p.symbols) ys) second ∙ parts)
    where
      whole : List Symbol → List Symbol → List ℕ
      whole ys zs =
          line (bytes "sheet=1") []
          ++ (line (bytes "funs=") (decimal (length ys))
          ++ (symbol_lines (bytes "fun=") ys
          ++ (line (bytes "preds=") (decimal (length zs))
          ++ (symbol_lines (bytes "pred=") zs
          ++ (line (bytes "clauses=") (decimal (length p.clauses)) ++ lines_of_clauses p.symbols p.clauses)))))

      parts : whole (take fs p.symbols) (drop fs p.symbols) ≡ head_text p.symbols fs (length p.clauses) ++ lines_of_clauses p.symbols p.clauses
      parts =
          regroup (line (bytes "sheet=1") []) (line (bytes "funs=") (decimal (length (take fs p.symbols)))) (symbol_lines (bytes "fun=") (take fs p.symbols))
          (line (bytes "preds=") (decimal (length (drop fs p.symbols)))) (symbol_lines (bytes "pred=") (drop fs p.symbols))
          (line (bytes "clauses=") (decimal (length p.clauses))) (lines_of_clauses p.symbols p.clauses)
