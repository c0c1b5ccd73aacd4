-- Every line of the table of examples holds by computation. It stands first, so that a wrong definition is refused for what it computes.
use mathlib.Core.Path.{refl}
use Rattle.theory.specs.Bytes.{decimal}
use Rattle.theory.specs.Cells.{cell_kinds, judged, is_model}
use Rattle.theory.specs.Flattening.{merged, lifted_terms, flatten, variable_count}
use Rattle.theory.specs.Propositional.{prop_base, prop_count}
use Rattle.theory.specs.Valuation.{is_valuation, is_functional, read_back}
use Rattle.theory.specs.Refusals.{◌>>=◌}
use Rattle.theory.specs.Grammar.{grammar, read_clause}
use Rattle.theory.specs.Problem.{count_line, is_name, symbol_lines, word_of, within_limits, clause_of, clause_lines, read_problem}
use Rattle.theory.specs.CaseText.{table_text, tables_text, case_text, case_length}
use Rattle.theory.specs.Columns.{placed_problem}
use Rattle.theory.specs.Program.{◌>>?◌}
use Rattle.theory.specs.Examples.{two_constants, nothing_at_all}
use Rattle.solver.specs.SolverLines.{read_positive, read_literal, claim_of, read_claim}
use Rattle.solver.specs.Replies.{each_once, stated_setting, read_reply}
use Rattle.solver.specs.SolverText.{stated_case, solver_text}
use Rattle.solver.specs.Examples.{from, SolverExamples}

pub examples : SolverExamples
unfolding two_constants nothing_at_all from decimal cell_kinds judged is_model merged lifted_terms flatten variable_count prop_base prop_count is_valuation is_functional read_back ◌>>=◌ grammar read_clause count_line is_name symbol_lines word_of within_limits clause_of clause_lines read_problem placed_problem table_text tables_text case_text case_length ◌>>?◌ read_positive read_literal claim_of read_claim each_once stated_setting read_reply stated_case solver_text
examples =
    record {
      taken = refl;
      any_order = refl;
      length = refl;
      output = refl;
      claimed = refl;
      claimed-no-room = refl;
      claimed-output = refl;
      no-model = refl;
      no_result = refl;
      short = refl;
      no-room-last = refl;
      size-first = refl;
      no-variable = refl;
      no-value-line = refl;
      empty = refl;
      missing = refl;
      doubled = refl;
      above = refl;
      far-above = refl;
      no_zero = refl;
      inner-zero = refl;
      minus-zero = refl;
      leading-zero = refl;
      plus = refl;
      two-spaces = refl;
      no_number = refl;
      last-space = refl;
      carriage-return = refl;
      no_end = refl;
      comment-no-end = refl;
      empty-line = refl;
      values-first = refl;
      two-verdicts = refl;
      none-with-values = refl;
      unknown = refl;
    }
