-- Every line of the explainer's table holds by computation.
use mathlib.Core.Path.{refl}
use Rattle.theory.specs.Bytes.{decimal}
use Rattle.theory.specs.Cells.{cell_kinds, judged}
use Rattle.theory.specs.Flattening.{flatten, merged, lifted_terms, variable_count}
use Rattle.theory.specs.Refusals.{◌>>=◌}
use Rattle.theory.specs.Grammar.{grammar, read_clause}
use Rattle.theory.specs.Problem.{count_line, is_name, symbol_lines, word_of, within_limits, clause_of, clause_lines, read_problem}
use Rattle.theory.specs.CaseText.{read_table, read_tables, read_case}
use Rattle.theory.specs.LineForms.{good_value, good_line}
use Rattle.theory.specs.DueLines.{count_on, due_in_sheet, sheet_symbols, size_on, due_in_case}
use Rattle.theory.specs.Columns.{word_column, first_unknown, byte_column, line_column, sheet_column, case_column, placed_problem, placed_case}
use Rattle.theory.specs.Operations.{explain_answer}
use Rattle.theory.specs.Program.{refusal_text}
use Rattle.theory.specs.Examples.{one_clause, only_a}
use Rattle.theory.specs.ExplainExamples.{turned_letters, less_of_three}
use Rattle.theory.specs.Explainer.{case_start, letter_lines, reason_text, explained_text, explainer}
use Rattle.theory.specs.ExplainerExamples.{ExplainerExamples}

pub explainer_examples : ExplainerExamples
unfolding decimal turned_letters less_of_three one_clause only_a cell_kinds judged flatten merged lifted_terms variable_count ◌>>=◌ grammar read_clause count_line is_name symbol_lines word_of within_limits clause_of clause_lines read_problem read_table read_tables read_case good_value good_line count_on due_in_sheet sheet_symbols size_on due_in_case word_column first_unknown byte_column line_column sheet_column case_column placed_problem placed_case explain_answer refusal_text case_start letter_lines reason_text explained_text explainer
explainer_examples =
    record {
      yes = refl;
      two-letters = refl;
      three-letters = refl;
      bad-case = refl;
      no-case = refl;
      unended-line = refl;
      swallowed = refl;
    }
