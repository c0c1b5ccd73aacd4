-- Every line of the table of settled searches holds by computation. It stands first, so that a wrong definition is refused for what it computes.
use mathlib.Core.Path.{refl}
use Rattle.theory.specs.Bytes.{decimal}
use Rattle.theory.specs.Cells.{cell_kinds, judged, is_model}
use Rattle.theory.specs.Flattening.{merged, lifted_terms, flatten, variable_count}
use Rattle.theory.specs.Propositional.{prop_base, prop_count}
use Rattle.theory.specs.Instances.{instances}
use Rattle.theory.specs.PropClauses.{function_part, clause_part, parts, prop_clauses, instance_count, literal_count, work_needed}
use Rattle.theory.specs.Refusals.{◌>>=◌}
use Rattle.theory.specs.Grammar.{grammar, read_clause}
use Rattle.theory.specs.Problem.{count_line, is_name, symbol_lines, word_of, within_limits, clause_of, clause_lines, read_problem}
use Rattle.theory.specs.CaseText.{table_text, tables_text, case_text, case_length}
use Rattle.theory.specs.Columns.{placed_problem}
use Rattle.theory.specs.Least.{least_model, smallest_model, settled}
use Rattle.theory.specs.Operations.{find_result}
use Rattle.theory.specs.Examples.{one_clause, no_fixed_point, find_between}
use Rattle.theory.specs.SettledExamples.{one_constant, differ_and_equal, SettledExamples}

pub settled_examples : SettledExamples
unfolding one_constant differ_and_equal one_clause no_fixed_point find_between decimal cell_kinds judged is_model merged lifted_terms flatten variable_count prop_base prop_count instances function_part clause_part parts prop_clauses instance_count literal_count work_needed ◌>>=◌ grammar read_clause count_line is_name symbol_lines word_of within_limits clause_of clause_lines read_problem table_text tables_text case_text case_length placed_problem least_model smallest_model settled find_result
settled_examples =
    record {
      from-three = refl;
      at_one = refl;
      none-to-one = refl;
      none-from-two = refl;
      one-to-one = refl;
      one-from-two = refl;
      two-to-one = refl;
      two-to-two = refl;
      two-to-three = refl;
      two-from-two = refl;
      one_argument = refl;
    }
