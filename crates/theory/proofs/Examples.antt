-- Every line of the table of examples holds by computation. It stands first, so that a wrong definition is refused for what it computes.
use mathlib.Core.Path.{refl}
use Rattle.theory.specs.Bytes.{decimal}
use Rattle.theory.specs.Cells.{cell_kinds, judged, is_model}
use Rattle.theory.specs.Flattening.{merged, lifted_terms, flatten, variable_count}
use Rattle.theory.specs.Propositional.{prop_base, prop_count}
use Rattle.theory.specs.Instances.{instances}
use Rattle.theory.specs.PropClauses.{function_part, clause_part, parts, prop_clauses, instance_count, literal_count, work_needed}
use Rattle.theory.specs.Dimacs.{literal_text, clause_text, header, dimacs}
use Rattle.theory.specs.Valuation.{is_valuation, is_functional, read_back}
use Rattle.theory.specs.Refusals.{◌>>=◌}
use Rattle.theory.specs.Grammar.{grammar, read_clause}
use Rattle.theory.specs.Problem.{count_line, is_name, symbol_lines, word_of, within_limits, clause_of, clause_lines, read_problem}
use Rattle.theory.specs.CaseText.{table_text, tables_text, case_text, case_length, read_table, read_tables, read_case}
use Rattle.theory.specs.Columns.{placed_problem, placed_case}
use Rattle.theory.specs.Least.{least_model, smallest_model, settled}
use Rattle.theory.specs.Operations.{content_of, written_text, read_back_text, judge_answer, find_result}
use Rattle.theory.specs.Examples.{two_constants, one_clause, nothing_at_all, nested_terms, no_fixed_point, only_a, find_between, write_in, read_back_in, flat_clauses, nested_flat, Examples}

pub examples : Examples
unfolding two_constants one_clause nothing_at_all nested_terms no_fixed_point only_a find_between write_in read_back_in flat_clauses nested_flat decimal cell_kinds judged is_model merged lifted_terms flatten variable_count prop_base prop_count instances function_part clause_part parts prop_clauses instance_count literal_count work_needed literal_text clause_text header dimacs is_valuation is_functional read_back ◌>>=◌ grammar read_clause count_line is_name symbol_lines word_of within_limits clause_of clause_lines read_problem table_text tables_text case_text case_length read_table read_tables read_case placed_problem placed_case least_model smallest_model settled content_of written_text read_back_text judge_answer find_result
examples =
    record {
      two-constants-1 = refl;
      two-constants-2 = refl;
      two-constants-text = refl;
      two-constants-back = refl;
      two-constants-length = refl;
      two-constants-short = refl;
      two-constants-14 = refl;
      two-constants-output = refl;
      two-constants-work = refl;
      nested-flat = refl;
      equal-1 = refl;
      equal-1-not-2 = refl;
      equal-2 = refl;
      unequal-each = refl;
      empty-clause = refl;
      no-clause = refl;
      no-clause-length = refl;
      no-fixed-point-1 = refl;
      no-fixed-point-2 = refl;
      no-fixed-point-3 = refl;
      only-a = refl;
    }
