-- The runs of a sheet that was read: they stand in its text, and are its functions', its predicates' and its clauses' lines.
use Prim.Native.Nat.{ℕ, ◌+◌, ◌-◌, ◌≤◌}
use mathlib.Core.Path.{◌≡◌, sym, ap, ◌∙◌}
use mathlib.Core.List.{List}
use native.Mathlib.Omega.{arith}
use lib.ListN.{length, take, drop}
use Rattle.theory.specs.Bytes.{bytes}
use Rattle.theory.specs.Syntax.{functions, predicates}
use Rattle.theory.specs.Syntax as theory
use Rattle.syntax.specs.declared.limits.Problem.{Problem}
use Rattle.syntax.specs.Signatures.{signature_in}
use Rattle.clauses.proofs.Held.{count-signature_in}
use Rattle.problem.specs.Problems.{problem_in}
use Rattle.problem.proofs.Counted.{clause-count}
use Rattle.sheet_merging.specs.Sheets.{cut_lines, declaration_lines}
use Rattle.sheet_merging.proofs.SectionLines.{LinesByKind, lines-by-kind}
use Rattle.uniting.specs.declared.runs.Run.{Run}
use Rattle.uniting.specs.Runs.{Lined, run_lines}
use Rattle.uniting.specs.United.{Sheeted, sheet_in}

module _ (text : List ℕ) (p : Problem) (h : Sheeted text p) where
  abbrev g : theory.Signature
  g = signature_in text p.signature

  kinds : LinesByKind text (problem_in text p)
  kinds = lines-by-kind text (problem_in text p) h.read

  pub lined : Lined text
  lined = record { whole = kinds.ended-lines; short = kinds.bytes-within }

  symbol-count : length g ≡ p.signature.count
  symbol-count = count-signature_in p.signature h.accepted.readable.limited text

  predicate-count : length (predicates g) ≡ p.signature.count - p.functions
  unfolding problem_in
  predicate-count = omega (arith, kinds.kinds, symbol-count, h.accepted.functions)

  total : length (cut_lines text) ≡ 4 + p.signature.count + p.count
  unfolding problem_in
  total = omega (arith, kinds.total, symbol-count, clause-count text p h.accepted)

  pub functions-first : p.functions ≤ p.signature.count
  unfolding problem_in
  functions-first = omega (arith, kinds.kinds, symbol-count, h.accepted.functions)

  pub few-symbols : p.signature.count ≤ 56
  few-symbols = h.accepted.readable.limited.count

  pub functions-stand : 2 + p.functions ≤ length (cut_lines text)
  functions-stand = omega (arith, total, functions-first)

  pub predicates-stand : 3 + p.functions + (p.signature.count - p.functions) ≤ length (cut_lines text)
  predicates-stand = omega (arith, total, functions-first)

  pub clauses-stand : 4 + p.signature.count + p.count ≤ length (cut_lines text)
  clauses-stand = omega (arith, total)

  run-lines : (r : Run) (line count : ℕ) → r.line ≡ line → r.count ≡ count → run_lines text r ≡ take count (drop line (cut_lines text))
  unfolding run_lines
  run-lines r line count l c = ap (λ (n : ℕ). take n (drop r.line (cut_lines text))) c ∙ ap (λ (n : ℕ). take count (drop n (cut_lines text))) l

  pub function-run : (r : Run) → r.line ≡ 2 → r.count ≡ p.functions → run_lines text r ≡ declaration_lines (bytes "fun=") (sheet_in text p).functions
  unfolding problem_in
  function-run r l c = run-lines r 2 (length (functions g)) l (c ∙ h.accepted.functions) ∙ kinds.function-run

  pub predicate-run : (r : Run) → r.line ≡ 3 + p.functions → r.count ≡ p.signature.count - p.functions → run_lines text r ≡ declaration_lines (bytes "pred=") (sheet_in text p).predicates
  unfolding problem_in
  predicate-run r l c =
      run-lines r (3 + length (functions g)) (length (predicates g)) (l ∙ ap (λ (n : ℕ). 3 + n) h.accepted.functions) (c ∙ sym predicate-count) ∙ kinds.predicate-run

  pub clause-run : (r : Run) → r.line ≡ 4 + p.signature.count → r.count ≡ p.count → run_lines text r ≡ (sheet_in text p).lines
  unfolding problem_in
  clause-run r l c =
      run-lines r (4 + length g) (length (problem_in text p).clauses) (l ∙ ap (λ (n : ℕ). 4 + n) (sym symbol-count)) (c ∙ sym (clause-count text p h.accepted)) ∙ kinds.clause-run
