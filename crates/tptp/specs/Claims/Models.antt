-- Models: the sheet that a TPTP text is left as has the models of the text's clauses.
use Rattle.std.specs.Prelude.{ℕ, zero, ◌<◌, ◌≡◌, ◌↔◌, Bool, true, List}
use Rattle.theory.specs.Syntax.{Signature}
use Rattle.theory.specs.Truth.{Interpretation}
use Rattle.theory.specs.Cells.{interpretation, is_model}
use Rattle.theory.specs.Problem.{read_problem}
use Rattle.theory.specs.CaseText.{Case, read_case}
use Rattle.theory.specs.Operations.{judge_answer}
use Rattle.theory.specs.Refusals as base
use Rattle.theory.specs.Refusals.{answer}
use Rattle.tptp.specs.Trees.{NameClause}
use Rattle.tptp.specs.Truth.{Meaning, AllNamesValid}
use Rattle.tptp.specs.Symbols.{symbol_of_name, problem_of}
use Rattle.tptp.specs.Tptp.{read_file, clauses_of_file, tptp_text}

-- what names mean in a case: each its own table
abbrev pub meaning : Interpretation → Signature → Meaning
meaning I g = record { function = λ w. I.function (symbol_of_name g w); relation = λ w. I.relation (symbol_of_name g w) }

-- the theorem
pub record Models : Type 0 where
  -- a text that is taken: Read takes the sheet that is left, as the problem that the text's clauses become
  pub taken : (text : List ℕ) (room : ℕ) (sheet : List ℕ) → tptp_text text room ≡ answer sheet → read_problem sheet ≡ base.answer (problem_of (clauses_of_file (read_file text)))
  -- cell values are a model of the problem that clauses become exactly if every clause is true under every assignment
  pub same-models : (cs : List NameClause) (s : ℕ) (vs : List ℕ) → zero < s
      → (is_model s (problem_of cs).symbols (problem_of cs).clauses vs ≡ true) ↔ AllNamesValid (meaning (interpretation s (problem_of cs).symbols vs) (problem_of cs).symbols) s cs
  -- so Judge says yes to a case of the sheet exactly if every clause of the text is true in it
  pub judged : (text : List ℕ) (room : ℕ) (sheet case : List ℕ) (k : Case) → tptp_text text room ≡ answer sheet → read_case (problem_of (clauses_of_file (read_file text))).symbols case ≡ base.answer k
      → (judge_answer sheet case ≡ base.answer true)
      ↔ AllNamesValid (meaning (interpretation k.size (problem_of (clauses_of_file (read_file text))).symbols k.values) (problem_of (clauses_of_file (read_file text))).symbols) k.size (clauses_of_file (read_file text))
