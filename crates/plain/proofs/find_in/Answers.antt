-- `find_in` meets its contract: the first check that fails refuses.
use Prim.Native.Nat.{◌≤◌}
use mathlib.Core.Path.{◌≡◌, ap, ◌∙◌}
use native.Mathlib.Omega.{arith}
use lib.ListN.{length}
use Rattle.theory.specs.Cells.{cell_count}
use Rattle.theory.specs.Refusals.{unplaced, needing}
use Rattle.theory.specs.CaseText.{case_length}
use Rattle.theory.specs.PlainSearch.{max_plain_cells}
use Rattle.theory.proofs.Parsing.{read_problem-bytes}
use Rattle.problem.specs.Problems.{problem_in}
use Rattle.plain.specs.Ending.{found_within, found_in}
use Rattle.plain.proofs.Models.{cells_is, all-sizes, length-is}
use Rattle.plain.proofs.Endings.{ends_as, ends-refused, refused-20, refused-11, searches}
use Rattle.plain.proofs.find_in.Goals as goal

pub returns-then-t-gt-MAX : goal.returns-then-t-gt-MAX
returns-then-t-gt-MAX c = let s = c in
    let a = s.args in
    let q = problem_in a.sheet.now a.p in
    let R = length a.output.now in
    let k = c.tables_of-t in
    let count = cells_is a.sheet.now a.p a.range.high.0 k.result.cells (k.ensures a.sheet.now).cells in
    ends-refused (found_in q a.range.low.0 a.range.high.0 R) c.at_line.result (unplaced 20) a.output.now (refused-20 q a.range.low.0 a.range.high.0 R (omega (arith, count, c.if-t-gt-MAX.true))) c.at_line.ensures

pub case_length-length-requires : goal.case_length-length-requires
case_length-length-requires c = let s = c in
    let a = s.args in
    (a.range.within, (a.sheet.now, (s.requires.accepted.readable, read_problem-bytes a.sheet.now (problem_in a.sheet.now a.p) s.requires.read)))

pub returns-then-output-length : goal.returns-then-output-length
returns-then-output-length c = let s = c in
    let a = s.args in
    let q = problem_in a.sheet.now a.p in
    let R = length a.output.now in
    let k = c.tables_of-t in
    let count = cells_is a.sheet.now a.p a.range.high.0 k.result.cells (k.ensures a.sheet.now).cells in
    let few : cell_count a.range.high.0 q.symbols ≤ max_plain_cells = omega (arith, count, c.if-t-gt-MAX.false) in
    let m = c.case_length-length in
    let case : m.result ≡ case_length a.range.high.0 q.symbols = length-is a.sheet.now a.p a.range.high.0 m.result (m.ensures a.sheet.now s.requires.accepted.readable) in
    ends-refused (found_in q a.range.low.0 a.range.high.0 R) c.needing.result (needing 11 (case_length a.range.high.0 q.symbols)) a.output.now (refused-11 q a.range.low.0 a.range.high.0 R few (omega (arith, case, c.if-output-length.true))) (c.needing.ensures ∙ ap (needing 11) case)

pub search_sizes-requires : goal.search_sizes-requires
search_sizes-requires c = let s = c in
    let a = s.args in
    let q = problem_in a.sheet.now a.p in
    let R = length a.output.now in
    let k = c.tables_of-t in
    let count = cells_is a.sheet.now a.p a.range.high.0 k.result.cells (k.ensures a.sheet.now).cells in
    let few : cell_count a.range.high.0 q.symbols ≤ max_plain_cells = omega (arith, count, c.if-t-gt-MAX.false) in
    let m = c.case_length-length in
    let case : m.result ≡ case_length a.range.high.0 q.symbols = length-is a.sheet.now a.p a.range.high.0 m.result (m.ensures a.sheet.now s.requires.accepted.readable) in
    all-sizes a.sheet.now a.p a.range R s.requires few (omega (arith, case, c.if-output-length.false))

pub returns : goal.returns
returns c = let s = c in
    let a = s.args in
    let q = problem_in a.sheet.now a.p in
    let R = length a.output.now in
    let k = c.tables_of-t in
    let count = cells_is a.sheet.now a.p a.range.high.0 k.result.cells (k.ensures a.sheet.now).cells in
    let few : cell_count a.range.high.0 q.symbols ≤ max_plain_cells = omega (arith, count, c.if-t-gt-MAX.false) in
    let m = c.case_length-length in
    let case : m.result ≡ case_length a.range.high.0 q.symbols = length-is a.sheet.now a.p a.range.high.0 m.result (m.ensures a.sheet.now s.requires.accepted.readable) in
    let t = c.search_sizes in
    ends_as (found_in q a.range.low.0 a.range.high.0 R) t.result a.output.now t.new.output (found_within q a.range.low.0 a.range.high.0) (searches q a.range.low.0 a.range.high.0 R few (omega (arith, case, c.if-output-length.false))) t.ensures
