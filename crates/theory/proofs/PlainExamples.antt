-- Every line of the table of Find plain holds by computation. It stands first, so that a wrong definition is refused for what it computes.
use mathlib.Core.Path.{refl}
use Rattle.theory.specs.Bytes.{decimal}
use Rattle.theory.specs.Cells.{cell_kinds, judged, is_model}
use Rattle.theory.specs.Flattening.{merged, lifted_terms, flatten, variable_count}
use Rattle.theory.specs.Refusals.{◌>>=◌}
use Rattle.theory.specs.Grammar.{grammar, read_clause}
use Rattle.theory.specs.Problem.{count_line, is_name, symbol_lines, word_of, within_limits, clause_of, clause_lines, read_problem}
use Rattle.theory.specs.CaseText.{table_text, tables_text, case_text, case_length}
use Rattle.theory.specs.LineForms.{good_value, good_line}
use Rattle.theory.specs.DueLines.{count_on, due_in_sheet}
use Rattle.theory.specs.Columns.{byte_column, line_column, sheet_column, placed_problem}
use Rattle.theory.specs.Least.{least_model, smallest_model, settled}
use Rattle.theory.specs.PlainSearch.{plain_result}
use Rattle.theory.specs.Examples.{two_constants, one_clause, nothing_at_all, no_fixed_point, only_a}
use Rattle.theory.specs.SettledExamples.{differ_and_equal}
use Rattle.theory.specs.PlainExamples.{sixty_four, sixty_five, plain_within, PlainExamples}

pub plain_examples : PlainExamples
unfolding two_constants one_clause nothing_at_all no_fixed_point only_a differ_and_equal sixty_four sixty_five plain_within decimal cell_kinds judged is_model merged lifted_terms flatten variable_count ◌>>=◌ grammar read_clause count_line is_name symbol_lines word_of within_limits clause_of clause_lines read_problem table_text tables_text case_text case_length good_value good_line count_on due_in_sheet byte_column line_column sheet_column placed_problem least_model smallest_model settled plain_result
plain_examples =
    record {
      at_one = refl;
      at-two = refl;
      at-three = refl;
      of-both-kinds = refl;
      without-cells = refl;
      none-settled = refl;
      none-from-two = refl;
      none-with-arguments = refl;
      sixty-four = refl;
      sixty-four-text = refl;
      sixty-five = refl;
      sixty-five-at-high = refl;
      sixty-five-below = refl;
      no-sheet = refl;
      no-sizes = refl;
      too-many-cells = refl;
      too_short = refl;
      output-found = refl;
      output-none = refl;
    }
