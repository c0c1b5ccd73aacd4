-- Every line of the table of columns holds by computation. It stands first, so that a wrong definition is refused for what it computes.
use mathlib.Core.Path.{refl}
use Rattle.theory.specs.Bytes.{decimal}
use Rattle.theory.specs.Flattening.{flatten, merged, lifted_terms, variable_count}
use Rattle.theory.specs.Refusals.{◌>>=◌}
use Rattle.theory.specs.Grammar.{grammar, read_clause}
use Rattle.theory.specs.Problem.{count_line, is_name, symbol_lines, word_of, within_limits, clause_of, clause_lines, read_problem}
use Rattle.theory.specs.CaseText.{read_table, read_tables, read_case}
use Rattle.theory.specs.LineForms.{good_value, good_line}
use Rattle.theory.specs.DueLines.{count_on, due_in_sheet, sheet_symbols, size_on, due_in_case}
use Rattle.theory.specs.Columns.{byte_column, word_column, first_unknown, first_misplaced, first_over, line_column, sheet_column, case_column, placed_problem, placed_case}
use Rattle.theory.specs.Operations.{find_result}
use Rattle.theory.specs.Program.{refusal_text, printed}
use Rattle.theory.specs.ColumnExamples.{of_sheet, with_clause, of_clause, of_case, ColumnExamples}

pub column_examples : ColumnExamples
unfolding of_sheet with_clause of_clause of_case ◌>>=◌ flatten merged lifted_terms variable_count grammar read_clause count_line is_name symbol_lines word_of within_limits clause_of clause_lines read_problem read_table read_tables read_case good_value good_line count_on due_in_sheet sheet_symbols size_on due_in_case byte_column word_column first_unknown first_misplaced first_over line_column sheet_column case_column placed_problem placed_case decimal find_result refusal_text printed
column_examples =
    record {
      empty = refl;
      no-LF = refl;
      heading = refl;
      no-count = refl;
      no_digit = refl;
      leading-zero = refl;
      three-digits = refl;
      missing = refl;
      no-arity = refl;
      bad-arity = refl;
      two_digits = refl;
      bad-key = refl;
      after-end = refl;
      over-count = refl;
      over-arity = refl;
      empty_name = refl;
      repeated = refl;
      unknown = refl;
      trailing = refl;
      misplaced = refl;
      unfinished = refl;
      words = refl;
      literals = refl;
      variables = refl;
      size = refl;
      value = refl;
      short = refl;
      long = refl;
      extra = refl;
      shown = refl;
    }
