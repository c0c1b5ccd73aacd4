-- `accept_marked`: 18, claimed none, or the setting that the marks are.
use lib.ListN.{length}
use Rattle.theory.specs.Refusals.{unplaced}
use Rattle.accepting.proofs.Outcomes.{refuses, claims}
use Rattle.accepting.proofs.Marked.{marks-fit, marks-few, is-unread, is-claimed, again-fits, setting-lent, is-stated}
use Rattle.accepting.proofs.accept_marked.Goals as goal

pub slice_bounds-read_reply-end : goal.slice_bounds-read_reply-end
slice_bounds-read_reply-end c = let s = c in
    let a = s.args in
    let n = c.numbering_of-n in
    marks-fit a.sheet.now a.p n.result a.size.0 s.requires.0 n.ensures a.marks.now s.requires.1

pub read_reply-requires : goal.read_reply-requires
read_reply-requires c = let s = c in
    let a = s.args in
    let n = c.numbering_of-n in
    marks-few a.sheet.now a.p n.result a.size.0 s.requires.0 n.ensures a.marks.now s.requires.1

pub slice_bounds-accept_setting-end : goal.slice_bounds-accept_setting-end
slice_bounds-accept_setting-end c = let s = c in
    let a = s.args in
    let n = c.numbering_of-n in
    again-fits a.sheet.now a.p n.result a.size.0 s.requires.0 n.ensures a.marks.now s.requires.1 a.text.now _ c.read_reply.result c.read_reply.ensures c.in-States.is _

pub accept_setting-requires : goal.accept_setting-requires
accept_setting-requires c = let s = c in
    let a = s.args in
    let n = c.numbering_of-n in
    setting-lent a.sheet.now a.p n.result a.size.0 s.requires.0 n.ensures a.marks.now s.requires.1 a.text.now _ c.read_reply.result c.read_reply.ensures c.in-States.is _

pub returns-in-Bad : goal.returns-in-Bad
returns-in-Bad c = let s = c in
    let a = s.args in
    let n = c.numbering_of-n in
    refuses _ (unplaced 18) c.at_line.result a.output.now (is-unread a.sheet.now a.p n.result a.size.0 s.requires.0 n.ensures a.marks.now s.requires.1 a.text.now _ c.read_reply.result c.read_reply.ensures (length a.output.now) c.in-Bad.is) c.at_line.ensures

pub returns-in-ClaimsNone : goal.returns-in-ClaimsNone
returns-in-ClaimsNone c = let s = c in
    let a = s.args in
    let n = c.numbering_of-n in
    claims _ a.output.now (is-claimed a.sheet.now a.p n.result a.size.0 s.requires.0 n.ensures a.marks.now s.requires.1 a.text.now _ c.read_reply.result c.read_reply.ensures (length a.output.now) c.in-ClaimsNone.is)

pub returns-in-States : goal.returns-in-States
returns-in-States c = let s = c in
    let a = s.args in
    let n = c.numbering_of-n in
    let p = c.accept_setting in
    is-stated a.sheet.now a.p n.result a.size.0 s.requires.0 n.ensures a.marks.now s.requires.1 a.text.now _ c.read_reply.result c.read_reply.ensures c.in-States.is _ p.result a.output.now _ p.ensures
