-- `write_text` meets its contract.
use Prim.Native.Nat.{◌≤◌, ◌<◌, ◌^◌}
use mathlib.Core.Path.{ap, ◌∙◌}
use native.Mathlib.Omega.{arith}
use lib.ListN.{length}
use Rattle.theory.specs.Refusals.{needing}
use Rattle.problem.specs.Problems.{problem_in}
use Rattle.encoding.proofs.Bounds.{clauses-few, texts-few}
use Rattle.writing.specs.Texts.{clauses_text, text_within}
use Rattle.answers.proofs.Answering.{refuses, writes}
use Rattle.writing.proofs.Refusing.{too_long, within}
use Rattle.writing.proofs.Written.{needed, needed-small, lines_fit, both-put}
use Rattle.writing.proofs.clause_text.write_text.Goals as goal

pub overflow_cast-clauses : goal.overflow_cast-clauses
overflow_cast-clauses c = let z = c in
    let h = z.requires in
    omega (arith, c.measured-m.ensures.count, clauses-few z.args.sheet.now z.args.p h.sized.accepted z.args.s.0 h.sized.within h.instances h.sized.positive)

pub overflow_add-needed : goal.overflow_add-needed
overflow_add-needed c = let z = c in
    let sheet = z.args.sheet.now in
    let h = z.requires in
    let n = c.numbering_of-n in
    let m = c.measured-m in
    let few = clauses-few sheet z.args.p h.sized.accepted z.args.s.0 h.sized.within h.instances h.sized.positive in
    let short = texts-few sheet z.args.p h.sized.accepted z.args.s.0 h.sized.within h.instances h.sized.positive in
    let v : n.result.count < 2 ^ 32 = omega (arith, (n.ensures sheet).small) in
    let k : m.result.count < 2 ^ 32 = omega (arith, m.ensures.count, few) in
    let l = needed-small n.result.count m.result.count _ _ _ v k c.header_length.ensures m.ensures.length short in
    omega (arith, l)

pub returns-then-output-needed : goal.returns-then-output-needed
unfolding problem_in
returns-then-output-needed c = let z = c in
    let p = problem_in z.args.sheet.now z.args.p in
    let s = z.args.s.0 in
    let used = z.args.p.symmetry in
    let room = length z.args.output.now in
    let n = c.numbering_of-n in
    let m = c.measured-m in
    let e = needed used p s n.result.count m.result.count (n.ensures z.args.sheet.now).count m.ensures.count _ _ c.header_length.ensures m.ensures.length in
    let long : room < length (clauses_text used p s) = omega (arith, c.if-output-needed.true, e) in
    let w = refuses (text_within used p s room) (needing 11 (length (clauses_text used p s))) c.needing.result z.args.output.now (too_long used p s room long) (c.needing.ensures ∙ ap (needing 11) e) in
    record { answer = w.answer; left = w.left }

pub put_clauses-requires : goal.put_clauses-requires
unfolding problem_in
put_clauses-requires c = let z = c in
    let p = problem_in z.args.sheet.now z.args.p in
    let s = z.args.s.0 in
    let used = z.args.p.symmetry in
    let n = c.numbering_of-n in
    let m = c.measured-m in
    let h = c.put_header-at in
    let variables = (n.ensures z.args.sheet.now).count in
    let e = needed used p s n.result.count m.result.count variables m.ensures.count _ _ c.header_length.ensures m.ensures.length in
    let room : length (clauses_text used p s) ≤ length h.new.out = omega (arith, c.if-output-needed.false, e, h.auto.out) in record { writable = (z.requires, n.ensures z.args.sheet.now); size_in_bounds = lines_fit used p s n.result.count m.result.count variables m.ensures.count _ h.result room h.ensures.place }

pub returns : goal.returns
unfolding problem_in
returns c = let z = c in
    let p = problem_in z.args.sheet.now z.args.p in
    let s = z.args.s.0 in
    let used = z.args.p.symmetry in
    let room = length z.args.output.now in
    let n = c.numbering_of-n in
    let m = c.measured-m in
    let h = c.put_header-at in
    let l = c.put_clauses in
    let variables = (n.ensures z.args.sheet.now).count in
    let e = needed used p s n.result.count m.result.count variables m.ensures.count _ _ c.header_length.ensures m.ensures.length in
    let fits : length (clauses_text used p s) ≤ room = omega (arith, c.if-output-needed.false, e) in
    let b = both-put used p s n.result.count m.result.count variables m.ensures.count z.args.output.now _ _ h.result l.result fits h.ensures.written h.ensures.place l.ensures.written l.ensures.place in
    writes (text_within used p s room) (clauses_text used p s) l.result z.args.output.now _ (within used p s room fits) b.0 b.1
