-- The lines of a sheet kind by kind: where those of its functions, its predicates and its clauses stand.
use Prim.Native.Nat.{ℕ, ◌+◌, ◌≤◌}
use mathlib.Core.Path.{◌≡◌, sym, ap, ◌∙◌}
use mathlib.Core.List.{List, [], ◌∷◌, ◌++◌, append_assoc}
use native.Mathlib.Omega.{arith}
use lib.ListN.{length, take, drop, length-append, length-map}
use lib.Seq.{take_at, take-length, drop-append-add, drop-drop}
use Rattle.theory.specs.Lists.{concat_map}
use Rattle.theory.specs.Bytes.{bytes, decimal}
use Rattle.theory.specs.Syntax.{Symbol, functions, predicates}
use Rattle.theory.specs.Refusals.{answer}
use Rattle.theory.specs.Problem.{Problem, read_problem}
use Rattle.theory.specs.SheetText.{symbol_text}
use Rattle.theory.proofs.Parsing.{read_problem-bytes}
use Rattle.sheet_merging.specs.Sheets.{Sheet, cut_lines, sheet_of, ended, declaration_lines, text_of}
use Rattle.sheet_merging.specs.Claims.Sheets.{Sheets}
use Rattle.sheet_merging.proofs.SheetRead.{signature, problem_of, Good, head_lines, head-lines, head-count, sheet-exact}
use Rattle.sheet_merging.proofs.Merging.{sheet-of, sheets}

module _ (m : Sheet) (w : Good m) where
  abbrev F : List (List ℕ)
  F = declaration_lines (bytes "fun=") m.functions

  abbrev P : List (List ℕ)
  P = declaration_lines (bytes "pred=") m.predicates

  abbrev count-line : List ℕ
  count-line = bytes "clauses=" ++ decimal (length m.lines)

  abbrev predicate-part : List (List ℕ)
  predicate-part = P ++ ((count-line ∷ []) ++ m.lines)

  from-functions : drop 2 (cut_lines (text_of m)) ≡ F ++ ((bytes "preds=" ++ decimal (length m.predicates)) ∷ predicate-part)
  from-functions =
      let np : List ℕ = bytes "preds=" ++ decimal (length m.predicates) in
      ap (drop 2) (head-lines m w)
      ∙ append_assoc F (np ∷ (P ++ (count-line ∷ []))) m.lines
      ∙ ap (λ (l : List (List ℕ)). F ++ (np ∷ l)) (append_assoc P (count-line ∷ []) m.lines)

  pub function-lines : take (length m.functions) (drop 2 (cut_lines (text_of m))) ≡ F
  function-lines =
      ap (take (length m.functions)) from-functions
      ∙ take_at F ((bytes "preds=" ++ decimal (length m.predicates)) ∷ predicate-part) (length m.functions) (length-map m.functions (λ (f : Symbol). bytes "fun=" ++ symbol_text f))

  from-predicates : drop (3 + length m.functions) (cut_lines (text_of m)) ≡ predicate-part
  from-predicates =
      let n : 3 + length m.functions ≡ 2 + (length F + 1) = omega (arith, length-map m.functions (λ (f : Symbol). bytes "fun=" ++ symbol_text f)) in
      ap (λ (k : ℕ). drop k (cut_lines (text_of m))) n
      ∙ sym (drop-drop (length F + 1) 2 (cut_lines (text_of m)))
      ∙ ap (drop (length F + 1)) from-functions
      ∙ drop-append-add F ((bytes "preds=" ++ decimal (length m.predicates)) ∷ predicate-part) 1

  pub predicate-lines : take (length m.predicates) (drop (3 + length m.functions) (cut_lines (text_of m))) ≡ P
  predicate-lines =
      ap (take (length m.predicates)) from-predicates
      ∙ take_at P ((count-line ∷ []) ++ m.lines) (length m.predicates) (length-map m.predicates (λ (f : Symbol). bytes "pred=" ++ symbol_text f))

  pub line-total : length (cut_lines (text_of m)) ≡ 4 + length (signature m) + length m.lines
  line-total = ap length (head-lines m w) ∙ length-append (head_lines m w) m.lines ∙ ap (λ (n : ℕ). n + length m.lines) (head-count m w)

-- the lines of a text that is read
pub record LinesByKind (text : List ℕ) (p : Problem) : Type 0 where
  pub ended-lines : concat_map ended (cut_lines text) ≡ text
  pub bytes-within : length text ≤ 16384
  pub function-run : take (length (functions p.symbols)) (drop 2 (cut_lines text)) ≡ declaration_lines (bytes "fun=") (sheet_of p text).functions
  pub predicate-run : take (length (predicates p.symbols)) (drop (3 + length (functions p.symbols)) (cut_lines text)) ≡ declaration_lines (bytes "pred=") (sheet_of p text).predicates
  pub clause-run : take (length p.clauses) (drop (4 + length p.symbols) (cut_lines text)) ≡ (sheet_of p text).lines
  pub in_order : signature (sheet_of p text) ≡ p.symbols
  pub kinds : length p.symbols ≡ length (functions p.symbols) + length (predicates p.symbols)
  pub total : length (cut_lines text) ≡ 4 + length p.symbols + length p.clauses

pub lines-by-kind : (text : List ℕ) (p : Problem) → read_problem text ≡ answer p → LinesByKind text p
unfolding sheet_of problem_of
lines-by-kind text p e =
    let t = sheet-exact text p e in
    let m : Sheet = t.sheet in
    let q : sheet_of p text ≡ m = sheet-of text p t in
    let s : Sheets text p = sheets text p e in
    let f : functions p.symbols ≡ m.functions = ap (λ (m : Sheet). m.functions) q in
    let r : predicates p.symbols ≡ m.predicates = ap (λ (m : Sheet). m.predicates) q in
    let g : p.symbols ≡ signature m = ap (λ (p : Problem). p.symbols) t.problem in
    let lines : drop (4 + length p.symbols) (cut_lines text) ≡ m.lines = ap (λ (m : Sheet). m.lines) q in
    let n : length m.lines ≡ length p.clauses = ap length (sym lines) ∙ s.counted in
    record {
      ended-lines = s.lines;
      bytes-within = read_problem-bytes text p e;
      function-run =
          ap (λ (x : List Symbol). take (length x) (drop 2 (cut_lines text))) f ∙ ap (λ (x : List ℕ). take (length m.functions) (drop 2 (cut_lines x))) t.whole
          ∙ function-lines m t.good ∙ ap (declaration_lines (bytes "fun=")) (sym f);
      predicate-run =
          ap (λ (x : List Symbol). take (length x) (drop (3 + length (functions p.symbols)) (cut_lines text))) r
          ∙ ap (λ (x : List Symbol). take (length m.predicates) (drop (3 + length x) (cut_lines text))) f
          ∙ ap (λ (x : List ℕ). take (length m.predicates) (drop (3 + length m.functions) (cut_lines x))) t.whole
          ∙ predicate-lines m t.good ∙ ap (declaration_lines (bytes "pred=")) (sym r);
      clause-run = ap (λ (k : ℕ). take k (drop (4 + length p.symbols) (cut_lines text))) (sym s.counted) ∙ take-length (drop (4 + length p.symbols) (cut_lines text));
      in_order = ap signature q ∙ sym g;
      kinds = omega (arith, ap length g, length-append m.functions m.predicates, ap length f, ap length r);
      total = omega (arith, ap (λ (x : List ℕ). length (cut_lines x)) t.whole, line-total m t.good, ap length g, n);
    }
