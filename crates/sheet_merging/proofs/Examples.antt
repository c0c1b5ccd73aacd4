-- The examples of merging hold by computation.
use mathlib.Core.Path.{refl}
use Rattle.theory.specs.Bytes.{decimal}
use Rattle.theory.specs.Flattening.{merged, lifted_terms, flatten, variable_count}
use Rattle.theory.specs.Refusals.{◌>>=◌}
use Rattle.theory.specs.Grammar.{grammar, read_clause}
use Rattle.theory.specs.Problem.{count_line, is_name, symbol_lines, word_of, within_limits, clause_of, clause_lines, read_problem}
use Rattle.theory.specs.LineForms.{good_value, good_line}
use Rattle.theory.specs.DueLines.{count_on, due_in_sheet, sheet_symbols}
use Rattle.theory.specs.Columns.{byte_column, word_column, line_column, sheet_column, case_column, placed_problem, placed_case}
use Rattle.theory.specs.Cells.{cell_kinds, judged, is_model}
use Rattle.theory.specs.CaseText.{table_text, tables_text, case_text, read_table, read_tables, read_case}
use Rattle.theory.specs.Operations.{judge_answer}
use Rattle.sheet_merging.specs.Sheets.{sheet_of, text_of}
use Rattle.sheet_merging.specs.Merging.{merged_sheet, agree, within_sheet, merged_text, which_sheet}
use Rattle.sheet_merging.specs.Tables.{tables_for}
use Rattle.sheet_merging.specs.Examples.{machine, clinic, nothing, one_function, empty_clauses, equalities, one_function_and, together, roundabout, two_clauses, agreeable, disagreeable, case_for, Examples}

pub examples : Examples
unfolding two_clauses agreeable disagreeable case_for cell_kinds judged is_model table_text tables_text case_text read_table read_tables read_case judge_answer tables_for machine clinic nothing one_function empty_clauses equalities one_function_and together roundabout decimal merged lifted_terms flatten variable_count ◌>>=◌ grammar read_clause count_line is_name symbol_lines word_of within_limits clause_of clause_lines read_problem good_value good_line count_on due_in_sheet sheet_symbols byte_column word_column line_column sheet_column case_column placed_problem placed_case sheet_of text_of merged_sheet agree within_sheet merged_text which_sheet
examples =
    record {
      one = refl;
      other = refl;
      own = refl;
      nothing-after = refl;
      nothing-before = refl;
      exact-room = refl;
      short-room = refl;
      two-arities = refl;
      two-kinds = refl;
      clauses-64 = refl;
      clauses-65 = refl;
      clauses-128 = refl;
      clauses-shared = refl;
      names-first = refl;
      first-refused = refl;
      first-which = refl;
      second-refused = refl;
      second-which = refl;
      neither-which = refl;
      grouped-left = refl;
      grouped-right = refl;
      machine-case = refl;
      clinic-case = refl;
      agreeable-judged = refl;
      machine-judged = refl;
      clinic-judged = refl;
      disagreeable-judged = refl;
      machine-content = refl;
      clinic-not = refl;
    }
