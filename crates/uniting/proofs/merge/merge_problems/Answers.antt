-- `merge_problems` refuses in the order 22, 23, 11, or writes the sheet.
use native.Mathlib.Omega.{arith}
use mathlib.Core.Path.{sym, ◌∙◌}
use lib.ListN.{length}
use Rattle.theory.specs.Refusals.{unplaced, needing}
use Rattle.answers.proofs.Answering.{put-over, refuses, writes}
use Rattle.uniting.specs.United.{united_text}
use Rattle.uniting.proofs.Uniting.{united-measured}
use Rattle.uniting.proofs.Chain.{disagreeing, too_large, too_long, said}
use Rattle.uniting.proofs.merge.merge_problems.Goals as goal

pub returns-then-not-agreed : goal.returns-then-not-agreed
returns-then-not-agreed c = let s = c in
    let a = s.args in
    let differ = sym c.agree-agreed.ensures ∙ c.if-not-agreed.true in
    refuses _ (unplaced 22) c.at_line.result a.output.now (disagreeing a.first.now a.p a.second.now a.q s.requires.0 s.requires.1 (length a.output.now) differ) c.at_line.ensures

pub returns-then-not-within : goal.returns-then-not-within
returns-then-not-within c = let s = c in
    let a = s.args in
    let agreed = sym c.agree-agreed.ensures ∙ c.if-not-agreed.false in
    let u = c.unite-u in
    let n = c.united_length-length in
    let over = sym c.is_within-within.ensures ∙ c.if-not-within.true in
    refuses _ (unplaced 23) c.at_line-then-not-within.result a.output.now
    (too_large a.first.now a.p a.second.now a.q s.requires.0 s.requires.1 (length a.output.now) agreed u.result u.ensures n.result n.ensures over) c.at_line-then-not-within.ensures

pub returns-then-output-length : goal.returns-then-output-length
returns-then-output-length c = let s = c in
    let a = s.args in
    let agreed = sym c.agree-agreed.ensures ∙ c.if-not-agreed.false in
    let u = c.unite-u in
    let n = c.united_length-length in
    let fits = sym c.is_within-within.ensures ∙ c.if-not-within.false in
    refuses _ (needing 11 n.result) c.needing.result a.output.now
    (too_long a.first.now a.p a.second.now a.q s.requires.0 s.requires.1 (length a.output.now) agreed u.result u.ensures n.result n.ensures fits c.if-output-length.true) c.needing.ensures

pub put_united-requires : goal.put_united-requires
put_united-requires c = let a = c.args in
    let u = c.unite-u in
    let n = c.united_length-length in
    (u.ensures.joins, omega (arith, united-measured a.first.now a.second.now u.result u.ensures.joins, n.ensures, c.if-output-length.false))

pub returns : goal.returns
returns c = let s = c in
    let a = s.args in
    let agreed = sym c.agree-agreed.ensures ∙ c.if-not-agreed.false in
    let u = c.unite-u in
    let n = c.united_length-length in
    let fits = sym c.is_within-within.ensures ∙ c.if-not-within.false in
    let w = c.put_united in
    writes _ (united_text a.first.now a.second.now u.result) n.result a.output.now w.new.out
    (said a.first.now a.p a.second.now a.q s.requires.0 s.requires.1 (length a.output.now) agreed u.result u.ensures n.result n.ensures fits c.if-output-length.false)
    (n.ensures ∙ united-measured a.first.now a.second.now u.result u.ensures.joins)
    (w.ensures ∙ put-over a.output.now (united_text a.first.now a.second.now u.result))
