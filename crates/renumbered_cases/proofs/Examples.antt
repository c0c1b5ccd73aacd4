-- Every line of the table of examples holds by computation. It stands first, so that a wrong definition is refused for what it computes.
use mathlib.Core.Path.{refl}
use Rattle.theory.specs.Cells.{tabulated}
use Rattle.theory.specs.Flattening.{flatten, merged, lifted_terms, variable_count}
use Rattle.theory.specs.Refusals.{◌>>=◌}
use Rattle.theory.specs.Grammar.{grammar, read_clause}
use Rattle.theory.specs.Problem.{count_line, is_name, symbol_lines, word_of, within_limits, clause_of, clause_lines, read_problem}
use Rattle.theory.specs.CaseText.{table_text, tables_text, case_text, case_length, read_table, read_tables, read_case}
use Rattle.theory.specs.LineForms.{good_value, good_line}
use Rattle.theory.specs.DueLines.{count_on, due_in_sheet, sheet_symbols, size_on, due_in_case}
use Rattle.theory.specs.Columns.{byte_column, line_column, sheet_column, case_column, placed_problem, placed_case}
use Rattle.theory.specs.Examples.{no_fixed_point, only_a}
use Rattle.theory.specs.SettingExamples.{also_three}
use Rattle.renumbering.specs.Rearrangements.{is_rearrangement, rearrangements}
use Rattle.renumbering.specs.Renumbering.{renumbered}
use Rattle.renumbering.specs.LeastForm.{least_form}
use Rattle.renumbered_cases.specs.RenumberedCases.{is_listed, renumbered_text, least_form_text}
use Rattle.renumbered_cases.specs.Examples.{renamed, Examples}

pub examples : Examples
unfolding also_three no_fixed_point only_a tabulated flatten merged lifted_terms variable_count ◌>>=◌ grammar read_clause count_line is_name symbol_lines word_of within_limits clause_of clause_lines read_problem table_text tables_text case_text case_length read_table read_tables read_case good_value good_line count_on due_in_sheet sheet_symbols size_on due_in_case byte_column line_column sheet_column case_column placed_problem placed_case is_rearrangement rearrangements renumbered least_form is_listed renumbered_text least_form_text renamed
examples =
    record {
      renumbers = refl;
      function = refl;
      back = refl;
      left = refl;
      least = refl;
      least-renamed = refl;
      twice = refl;
      zero = refl;
      over = refl;
      few = refl;
      many = refl;
      digits = refl;
      short = refl;
      listed-first = refl;
      short-least = refl;
      bad-sheet = refl;
      bad-case = refl;
      bad-case-least = refl;
    }
