-- `put_found` meets its contract: the first values are those of the declared symbols' variables.
use Prim.Native.Nat.{◌≤◌}
use mathlib.Core.Path.{refl, sym}
use native.Mathlib.Omega.{arith}
use lib.ListN.{length}
use lib.Seq.{length-take-le}
use Rattle.problem.specs.Problems.{problem_in}
use Rattle.finding.proofs.Fitting.{area-room}
use Rattle.finding.proofs.WritingFound.{limited-shown, few, writable, case-room, written-ends}
use Rattle.finding.proofs.sizes.put_found.Goals as goal

pub numbering_of-n-requires : goal.numbering_of-n-requires
numbering_of-n-requires c = let s = c in
    (limited-shown s.args.sheet.now s.args.p c.declared-shown.result s.requires.searchable.accepted.readable c.declared-shown.ensures, s.requires.searchable.within)

pub slice_bounds-write_case-end : goal.slice_bounds-write_case-end
unfolding problem_in
slice_bounds-write_case-end c = let s = c in
    let a = s.args in
    let y = c.declared-shown in
    let n = c.numbering_of-n in
    omega (
      arith,
      few a.sheet.now a.p a.size.0 a.work.now s.requires.searchable s.requires.p_value y.result y.ensures n.result (n.ensures a.sheet.now),
      area-room a.sheet.now a.p a.size.0 (length a.work.now) _ s.requires.searchable refl,
    )

pub slice_bounds-write_case-end-2 : goal.slice_bounds-write_case-end-2
unfolding problem_in
slice_bounds-write_case-end-2 c = let s = c in
    let a = s.args in
    let y = c.declared-shown in
    let n = c.numbering_of-n in
    let le : n.result.count ≤ length a.work.now =
    omega (
      arith,
      few a.sheet.now a.p a.size.0 a.work.now s.requires.searchable s.requires.p_value y.result y.ensures n.result (n.ensures a.sheet.now),
      area-room a.sheet.now a.p a.size.0 (length a.work.now) _ s.requires.searchable refl,
    ) in
    sym (length-take-le n.result.count a.work.now le)

pub write_case-length-requires : goal.write_case-length-requires
write_case-length-requires c = let s = c in
    let a = s.args in
    let y = c.declared-shown in
    let n = c.numbering_of-n in record { writable_bits = writable a.sheet.now a.p a.size.0 a.work.now s.requires.searchable s.requires.p_value y.result y.ensures n.result (n.ensures a.sheet.now); signature_in_bounds = case-room a.sheet.now a.p a.size.0 a.work.now s.requires.searchable s.requires.p_value y.result y.ensures n.result (n.ensures a.sheet.now) (length a.output.now) s.requires.p_in_bounds }

pub returns : goal.returns
returns c = let s = c in
    let a = s.args in
    let y = c.declared-shown in
    let n = c.numbering_of-n in
    let w = c.write_case-length in
    let k = c.clear_all in
    written-ends a.sheet.now a.p a.size.0 a.work.now s.requires.searchable s.requires.p_value y.result y.ensures n.result (n.ensures a.sheet.now)
    w.result a.choices k.new.work a.output.now w.new.out w.ensures.place k.ensures w.ensures.written
