-- `note_statement` notes one token after the other, up to the first fault.
use Rattle.std.proofs.Common.{rules}
use mathlib.Core.Path.{◌≡◌}
use Rattle.std.proofs.lemmas.Result.{err_from_is_err_and}
use Rattle.argument_lists.proofs.ToldLists.{nothing-held, told-behind}
use Rattle.argument_lists.proofs.KeptSlices.{kept_still, kept-on, room_kept}
use Rattle.importing.proofs.Mapped.{mapped-err, mapped-ok}
use Rattle.importing.proofs.NotingLoop.{reached-starts, reached-fault, reached-on}
use Rattle.importing.proofs.noting.note_statement.Goals as goal

pub loop-taken-init : goal.loop-taken-init
loop-taken-init c = let z = c in let a = z.args in (reached-starts a.text.now a.before a.at _ z.requires.1.0 z.requires.0 (c.none.ensures.lettered a.text.now) (c.none.ensures.empty a.text.now), (rw c.nothing_told-told.ensures (nothing-held _ _), kept_still _))

pub arity_of-arity-requires : goal.arity_of-arity-requires
arity_of-arity-requires c = let l = c.loop-taken in let t = c.in-Some.ensures in (t.rest.within, (room_kept _ _ l.invariant.1.1 c.requires.1.1, rw c.told_after.ensures (told-behind c.args.text.now l.i c.in-Some.taken.end t.kind _ _ _ _ t.items t.opening l.invariant.1.0)))

pub returns-in_err-noted-clause-noted : goal.returns-in_err-noted-clause-noted
returns-in_err-noted-clause-noted c = let l = c.loop-taken in let a = c.args in
    let p = err_from_is_err_and c.from_residual.result c.from_residual.ensures.1 in
    let m = mapped-err _ c.note_named.result c.map_err.result c.in_err-noted.field-0.0 c.map_err.ensures.cases c.in_err-noted.was in
    let h = m.1.1 in
    let e : c.in_err-noted.field-0.0 ≡ record { fault = m.0; place = c.in-Some.taken.start } = search rules in
    rw (p.1, p.2, e) (reached-fault a.text.now a.before a.at l.i _ _ _ l.invariant.0 _ c.in-Some.ensures _ _ c.arity_of-arity.ensures.told _ (rw m.1.0 at c.note_named.ensures))

pub loop-taken-preserved : goal.loop-taken-preserved
loop-taken-preserved c = let l = c.loop-taken in let a = c.args in let r = c.arity_of-arity in
    let m = mapped-ok _ c.note_named.result c.map_err.result c.in_ok-noted.noted c.map_err.ensures.cases c.in_ok-noted.was in
    (reached-on a.text.now a.before a.at l.i _ _ _ l.invariant.0 _ c.in-Some.ensures _ _ r.ensures.told _ (rw m at c.note_named.ensures), (r.ensures.told.told, kept-on _ _ _ l.invariant.1.1 r.ensures.same_slices))
