-- Every line of the table of reasons holds by computation. It stands first, so that a wrong definition is refused for what it computes.
use mathlib.Core.Path.{refl}
use Rattle.theory.specs.Cells.{cell_kinds, judged}
use Rattle.theory.specs.Flattening.{flatten, merged, lifted_terms, variable_count}
use Rattle.theory.specs.Refusals.{◌>>=◌}
use Rattle.theory.specs.Grammar.{grammar, read_clause}
use Rattle.theory.specs.Problem.{count_line, is_name, symbol_lines, word_of, within_limits, clause_of, clause_lines, read_problem}
use Rattle.theory.specs.CaseText.{read_table, read_tables, read_case}
use Rattle.theory.specs.LineForms.{good_value, good_line}
use Rattle.theory.specs.DueLines.{count_on, due_in_sheet, sheet_symbols, size_on, due_in_case}
use Rattle.theory.specs.Columns.{byte_column, line_column, sheet_column, case_column, placed_problem, placed_case}
use Rattle.theory.specs.Operations.{explain_answer}
use Rattle.theory.specs.Examples.{two_constants, one_clause, only_a}
use Rattle.theory.specs.ExplainExamples.{turned_letters, less_of_three, ExplainExamples}

pub explain_examples : ExplainExamples
unfolding turned_letters less_of_three two_constants one_clause only_a cell_kinds judged flatten merged lifted_terms variable_count ◌>>=◌ grammar read_clause count_line is_name symbol_lines word_of within_limits clause_of clause_lines read_problem read_table read_tables read_case good_value good_line count_on due_in_sheet sheet_symbols size_on due_in_case byte_column line_column sheet_column case_column placed_problem placed_case explain_answer
explain_examples =
    record {
      model = refl;
      turned = refl;
      merged-literal = refl;
      last-fastest = refl;
      no-letters = refl;
      empty-clause = refl;
      second-clause = refl;
      bad-sheet = refl;
      bad-case = refl;
    }
