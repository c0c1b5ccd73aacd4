-- Every line of the table of settings holds by computation. It stands first, so that a wrong definition is refused for what it computes.
use mathlib.Core.Path.{refl}
use Rattle.theory.specs.Cells.{cell_kinds, judged, is_model}
use Rattle.theory.specs.Flattening.{flatten, merged, lifted_terms, variable_count}
use Rattle.theory.specs.Propositional.{prop_count}
use Rattle.theory.specs.Valuation.{is_valuation, is_functional, read_back, valuation_of}
use Rattle.theory.specs.Refusals.{◌>>=◌}
use Rattle.theory.specs.Grammar.{grammar, read_clause}
use Rattle.theory.specs.Problem.{count_line, is_name, symbol_lines, word_of, within_limits, clause_of, clause_lines, read_problem}
use Rattle.theory.specs.CaseText.{table_text, tables_text, case_text, case_length, read_table, read_tables, read_case}
use Rattle.theory.specs.LineForms.{good_value, good_line}
use Rattle.theory.specs.DueLines.{count_on, due_in_sheet, sheet_symbols, size_on, due_in_case}
use Rattle.theory.specs.Columns.{byte_column, line_column, sheet_column, case_column, placed_problem, placed_case}
use Rattle.theory.specs.Operations.{judge_answer, read_back_text, setting_text}
use Rattle.theory.specs.Examples.{nothing_at_all, nested_terms, no_fixed_point, only_a}
use Rattle.theory.specs.SettingExamples.{also_three, also_three_setting, SettingExamples}

pub setting_examples : SettingExamples
unfolding also_three also_three_setting nothing_at_all nested_terms no_fixed_point only_a cell_kinds judged is_model flatten merged lifted_terms variable_count prop_count is_valuation is_functional read_back valuation_of ◌>>=◌ grammar read_clause count_line is_name symbol_lines word_of within_limits clause_of clause_lines read_problem table_text tables_text case_text case_length read_table read_tables read_case good_value good_line count_on due_in_sheet sheet_symbols size_on due_in_case byte_column line_column sheet_column case_column placed_problem placed_case judge_answer read_back_text setting_text
setting_examples =
    record {
      no-model = refl;
      function-and-predicate = refl;
      back = refl;
      left = refl;
      unary = refl;
      several = refl;
      no-symbols = refl;
      short = refl;
      bad-sheet = refl;
      bad-case = refl;
    }
