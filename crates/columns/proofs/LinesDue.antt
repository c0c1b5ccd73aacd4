-- What is due on a line of a sheet, by the counts that were read.
use Prim.Native.Nat.{ℕ, ◌+◌, ◌-◌, ◌≤◌, ◌<◌}
use mathlib.Core.Path.{◌≡◌, sym, ap, ◌∙◌}
use mathlib.Core.List.{List}
use native.Mathlib.Omega.{arith}
use lib.ListN.{length, get_or, drop, length-append, length-replicate, get_or-eq_default}
use Rattle.theory.specs.Lists.{or_zero}
use Rattle.theory.specs.Bytes.{bytes}
use Rattle.theory.specs.Lines.{count_of}
use Rattle.theory.specs.LineForms.{no_bytes, count_digits, keyed, no_line}
use Rattle.theory.specs.DueLines.{count_on, predicates_said, clauses_said, lines_with, due_in_sheet}
use Rattle.theory.proofs.DueLines.{heading-due, function_form, predicate_count_form, predicate_form, clause_count_form, clause_form, due-fun, due-preds, due-pred, due-clauses, due-clause}
use Rattle.text.specs.Lines.{part}
use Rattle.syntax.specs.declared.terms.Span.{Span}
use Rattle.columns.specs.Lines.{LineAt}

pub counted-on : (text key : List ℕ) (n r : ℕ) (line : Span) → LineAt text n line → r ≡ or_zero (count_of (drop (length key) (part text line.from line.to))) → r ≡ count_on key n text
unfolding count_on
counted-on text key n r line l e = e ∙ ap (λ (v : List ℕ). or_zero (count_of (drop (length key) v))) (sym l.line)

module _ (text : List ℕ) (l : ℕ) where
  pub due-first : l ≡ 0 → keyed (bytes "sheet=1") no_bytes ≡ due_in_sheet text l
  due-first e = sym (ap (due_in_sheet text) e ∙ (heading-due text).0)

  pub due-second : l ≡ 1 → keyed (bytes "funs=") count_digits ≡ due_in_sheet text l
  due-second e = sym (ap (due_in_sheet text) e ∙ (heading-due text).1)

  module _ (f : ℕ) (F : f ≡ count_on (bytes "funs=") 1 text) where
    pub due-function : (l ≡ 0 → ⊥) → (l ≡ 1 → ⊥) → l < 2 + f → function_form ≡ due_in_sheet text l
    due-function h k lt = sym (due-fun text f (sym F) (l - 2) l (omega arith) (omega arith))

    pub due-predicate-count : l ≡ 2 + f → predicate_count_form ≡ due_in_sheet text l
    due-predicate-count e = sym (due-preds text f (sym F) l (omega arith))

    module _ (p : ℕ) (P : p ≡ count_on (bytes "preds=") (2 + f) text) where
      said : predicates_said text ≡ p
      said = ap (λ (n : ℕ). count_on (bytes "preds=") (2 + n) text) (sym F) ∙ sym P

      pub due-predicate : 2 + f < l → l < 2 + f + 1 + p → predicate_form ≡ due_in_sheet text l
      due-predicate h lt = sym (due-pred text f (sym F) p said (l - (3 + f)) l (omega arith) (omega arith))

      pub due-clause-count : l ≡ 2 + f + 1 + p → clause_count_form ≡ due_in_sheet text l
      due-clause-count e = sym (due-clauses text f (sym F) p said l (omega arith))

      module _ (c : ℕ) (C : c ≡ count_on (bytes "clauses=") (2 + f + 1 + p) text) where
        clauses-said : clauses_said text ≡ c
        clauses-said =
            let n : 3 + f + p ≡ 2 + f + 1 + p = omega arith in
            ap (λ (n : ℕ). count_on (bytes "clauses=") (3 + n + predicates_said text) text) (sym F)
            ∙ ap (λ (n : ℕ). count_on (bytes "clauses=") (3 + f + n) text) said
            ∙ ap (λ (n : ℕ). count_on (bytes "clauses=") n text) n
            ∙ sym C

        pub due-words : 2 + f + 1 + p < l → l ≤ 2 + f + 1 + p + c → clause_form ≡ due_in_sheet text l
        due-words h k = sym (due-clause text f (sym F) p said c clauses-said (l - (4 + f + p)) l (omega arith) (omega arith))

        -- no line is due past the last
        lines : length (lines_with f p c) ≡ 4 + f + p + c
        lines = simp (length-append, length-replicate) (omega arith)

        pub due-nothing : 2 + f + 1 + p + c < l → no_line ≡ due_in_sheet text l
        unfolding due_in_sheet
        due-nothing h =
            sym (ap (λ (n : ℕ). get_or (lines_with n (predicates_said text) (clauses_said text)) l no_line) (sym F)
            ∙ ap (λ (n : ℕ). get_or (lines_with f n (clauses_said text)) l no_line) said
            ∙ ap (λ (n : ℕ). get_or (lines_with f p n) l no_line) clauses-said
            ∙ get_or-eq_default (lines_with f p c) no_line {n = l} (omega (arith, lines)))
