-- Every line of the table of examples (specs/Examples) holds by computation. Its name puts it first, so that a wrong definition is refused for what it computes.
use mathlib.Core.Path.{refl}
use Rattle.theory.specs.Bytes.{decimal}
use Rattle.theory.specs.Cells.{cell_kinds}
use Rattle.theory.specs.Flattening.{merged, lifted_terms, flatten, variable_count}
use Rattle.theory.specs.Propositional.{prop_base, prop_count}
use Rattle.theory.specs.Instances.{instances}
use Rattle.theory.specs.PropClauses.{function_part, clause_part}
use Rattle.theory.specs.Valuation.{read_back}
use Rattle.theory.specs.Refusals.{◌>>=◌}
use Rattle.theory.specs.Grammar.{grammar, read_clause}
use Rattle.theory.specs.Problem.{count_line, is_name, symbol_lines, word_of, within_limits, clause_of, clause_lines, read_problem}
use Rattle.theory.specs.CaseText.{table_text, tables_text, case_text, case_length}
use Rattle.theory.specs.LineForms.{good_value, good_line}
use Rattle.theory.specs.DueLines.{count_on, due_in_sheet, sheet_symbols}
use Rattle.theory.specs.Columns.{byte_column, word_column, first_unknown, first_misplaced, first_over, line_column, sheet_column, placed_problem}
use Rattle.theory.specs.Least.{settled}
use Rattle.theory.specs.Program.{◌>>?◌, digit_line, switch_line, refusal_text, printed}
use Rattle.theory.specs.Walk.{walked, yes_first}
use Rattle.naming.specs.FixedTerms.{named_terms, named_clauses}
use Rattle.naming.specs.NamedProblem.{in_mode, shown_symbols}
use Rattle.naming.specs.NamedReading.{is_within_named, named_clause_of, named_clause_lines, read_named, named_column, placed_named}
use Rattle.theory.specs.Examples.{two_constants, no_fixed_point}
use Rattle.naming.specs.Examples.{many}
use Rattle.symmetry.specs.ConstantClauses.{constant_part, constant_parts, parts_with, prop_clauses_with, instance_count_with, literal_count_with, work_needed_with}
use Rattle.symmetry.specs.Obeying.{searched_with}
use Rattle.symmetry.specs.Examples.{function_before}
use Rattle.allowance.specs.AllowedWalk.{walked_within, searched_within}
use Rattle.allowance.specs.AllowedSearch.{counted_search, search_within}
use Rattle.allowance.specs.AllowedFind.{find_within}
use Rattle.allowance.specs.FinderProgram.{allowance_line, printed_within, finder}
use Rattle.allowance.specs.Examples.{either_or, crowded, unsaid, plainly, function_first, choices_in, Examples}

pub examples : Examples
unfolding decimal cell_kinds merged lifted_terms flatten variable_count prop_base prop_count instances function_part clause_part read_back ◌>>=◌ grammar read_clause count_line is_name symbol_lines word_of within_limits clause_of clause_lines read_problem table_text tables_text case_text case_length good_value good_line count_on due_in_sheet sheet_symbols byte_column word_column first_unknown first_misplaced first_over line_column sheet_column placed_problem settled ◌>>?◌ digit_line switch_line refusal_text printed two_constants walked yes_first named_terms named_clauses in_mode shown_symbols is_within_named named_clause_of named_clause_lines read_named named_column placed_named many constant_part constant_parts parts_with prop_clauses_with instance_count_with literal_count_with work_needed_with searched_with function_before walked_within searched_within counted_search search_within find_within allowance_line printed_within finder no_fixed_point either_or crowded unsaid plainly function_first choices_in
examples =
    record {
      fixed-0 = refl;
      fixed-3-0 = refl;
      either-1 = refl;
      either-2 = refl;
      either-most = refl;
      unsaid-2 = refl;
      unsaid-3 = refl;
      too_many = refl;
      size-first = refl;
      work-later = refl;
      work-within = refl;
      helpers-first = refl;
      none_1 = refl;
      none_2 = refl;
      handed_on-1 = refl;
      handed_on-2 = refl;
      handed_on-3 = refl;
      counted = refl;
      crowded-symmetry = refl;
      before-plain = refl;
      before-named-2 = refl;
      before-named-3 = refl;
      before-symmetry-0 = refl;
      before-symmetry-1 = refl;
      before-both = refl;
      output = refl;
      work = refl;
      program-two = refl;
      program-before-no = refl;
      program-before-yes = refl;
      program-two-lines = refl;
      program-capital = refl;
      program-space = refl;
      program-found = refl;
      program-smaller = refl;
      program-stopped = refl;
      program-none = refl;
      program-most = refl;
      program-24 = refl;
      program-sheet-first = refl;
      program-missing = refl;
      program-leading = refl;
      program-zeros = refl;
      program-empty = refl;
      program-eight = refl;
    }
