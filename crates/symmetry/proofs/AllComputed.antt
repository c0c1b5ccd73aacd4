-- Every line of the table of examples (specs/Examples) holds by computation. Its name puts it first, so that a wrong definition is refused for what it computes.
use mathlib.Core.Path.{refl}
use Rattle.theory.specs.Bytes.{decimal}
use Rattle.theory.specs.Cells.{cell_kinds, judged, is_model}
use Rattle.theory.specs.Flattening.{merged, lifted_terms, flatten, variable_count}
use Rattle.theory.specs.Propositional.{prop_base, prop_count}
use Rattle.theory.specs.Instances.{instances}
use Rattle.theory.specs.PropClauses.{function_part, clause_part, parts, prop_clauses, instance_count, literal_count, work_needed}
use Rattle.theory.specs.Dimacs.{literal_text, clause_text, header, dimacs}
use Rattle.theory.specs.Refusals.{◌>>=◌}
use Rattle.theory.specs.Grammar.{grammar, read_clause}
use Rattle.theory.specs.Problem.{count_line, is_name, symbol_lines, word_of, within_limits, clause_of, clause_lines, read_problem}
use Rattle.theory.specs.CaseText.{table_text, tables_text, case_text, case_length}
use Rattle.theory.specs.LineForms.{good_value, good_line}
use Rattle.theory.specs.DueLines.{count_on, due_in_sheet, sheet_symbols}
use Rattle.theory.specs.Columns.{byte_column, word_column, first_unknown, first_misplaced, first_over, line_column, sheet_column, placed_problem}
use Rattle.theory.specs.Least.{least_model, smallest_model, settled}
use Rattle.theory.specs.Operations.{content_of, written_text, find_result}
use Rattle.theory.specs.Examples.{two_constants, nested_terms}
use Rattle.naming.specs.FixedTerms.{named_terms, named_clauses}
use Rattle.naming.specs.NamedProblem.{in_mode, shown_symbols}
use Rattle.naming.specs.NamedReading.{is_within_named, named_clause_of, named_clause_lines, read_named, named_column, placed_named}
use Rattle.naming.specs.NamedOperations.{named_content_of, named_written_text, named_find_result}
use Rattle.symmetry.specs.ConstantClauses.{constant_part, constant_parts, parts_with, prop_clauses_with, instance_count_with, literal_count_with, work_needed_with}
use Rattle.symmetry.specs.Obeying.{obeys, least_obeying, smallest_with}
use Rattle.symmetry.specs.SymmetricOperations.{symmetric_content_of, symmetric_written_text, symmetric_find_result}
use Rattle.symmetry.specs.Examples.{three_constants, function_before, symbols_of, constant_text, Examples}

pub examples : Examples
unfolding two_constants nested_terms decimal cell_kinds judged is_model merged lifted_terms flatten variable_count prop_base prop_count instances function_part clause_part parts prop_clauses instance_count literal_count work_needed literal_text clause_text header dimacs ◌>>=◌ grammar read_clause count_line is_name symbol_lines word_of within_limits clause_of clause_lines read_problem table_text tables_text case_text case_length good_value good_line count_on due_in_sheet sheet_symbols byte_column word_column first_unknown first_misplaced first_over line_column sheet_column placed_problem least_model smallest_model settled find_result named_terms named_clauses in_mode shown_symbols is_within_named named_clause_of named_clause_lines read_named named_column placed_named named_content_of named_written_text named_find_result content_of written_text constant_part constant_parts parts_with prop_clauses_with instance_count_with literal_count_with work_needed_with obeys least_obeying smallest_with symmetric_content_of symmetric_written_text symmetric_find_result three_constants function_before symbols_of constant_text
examples =
    record {
      two-text = refl;
      two-text-short = refl;
      two-text-plain = refl;
      three = refl;
      small = refl;
      one = refl;
      obeying = refl;
      jumping = refl;
      skipping = refl;
      not_first = refl;
      nested-text = refl;
      two-told-no = refl;
      two-refused = refl;
      two-told-yes = refl;
      two_none = refl;
      two-first = refl;
      three-first = refl;
      before-told-no = refl;
      before-told-yes = refl;
      before-named = refl;
    }
