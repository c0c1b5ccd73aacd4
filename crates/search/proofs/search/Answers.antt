use mathlib.Core.Path.{refl, sym}
use native.Mathlib.Omega.{arith}
use Rattle.propagation.specs.Clauses.{coded}
use Rattle.search.proofs.LowestUnset.{all_set, variable-is}
use Rattle.search.proofs.Searching.{searching-start, search-none, search-back, back-falls₁, search-found, search-stopped, choice-pushable, inside, search-choice, choice-falls₁}
use Rattle.search.proofs.search.Goals as goal

pub loop-clash-init : goal.loop-clash-init
loop-clash-init c = ((λ cs first k. searching-start c.args.v cs first c.args.len c.args.work.now k), omega arith)

pub propagate-requires : goal.propagate-requires
propagate-requires c =
    record { clauses = coded c.requires.clauses; held = (c.loop-clash.invariant.0 c.requires.clauses c.requires.first c.requires.started).held }

pub backtrack-requires : goal.backtrack-requires
backtrack-requires c =
    let s = c.loop-clash.invariant.0 c.requires.clauses c.requires.first c.requires.started in
    record { clauses = coded c.requires.clauses; held = (c.in-Err.ensures (coded c.requires.clauses) s.held s.calm).held }

pub returns-in_default : goal.returns-in_default
returns-in_default c cs first k =
    let s = c.loop-clash.invariant.0 cs first k in
    let p = c.in-Err.ensures (coded cs) s.held s.calm in
    search-none _ cs first _ _ _ _ _ s _ _ _ _ p refl _ _ _ _ (c.in_default.ensures (coded cs) p.held) refl c.args.allowed c.loop-clash.invariant.1

pub loop-clash-smaller-in-Err : goal.loop-clash-smaller-in-Err
loop-clash-smaller-in-Err c =
    let s = c.loop-clash.invariant.0 c.requires.clauses c.requires.first c.requires.started in
    let p = c.in-Err.ensures (coded c.requires.clauses) s.held s.calm in
    back-falls₁ _ c.requires.clauses c.requires.first _ _ _ _ _ s _ _ _ _ p refl _ _ _ _ (c.in-Some.ensures (coded c.requires.clauses) p.held) refl

pub loop-clash-preserved-in-Err : goal.loop-clash-preserved-in-Err
loop-clash-preserved-in-Err c = (
  (λ cs first k.
      let s = c.loop-clash.invariant.0 cs first k in
      let p = c.in-Err.ensures (coded cs) s.held s.calm in
      search-back _ cs first _ _ _ _ _ s _ _ _ _ p refl _ _ _ _ (c.in-Some.ensures (coded cs) p.held) refl),
  c.loop-clash.invariant.1,
)

pub returns-in_default-unset : goal.returns-in_default-unset
returns-in_default-unset c cs first k =
    let s = c.loop-clash.invariant.0 cs first k in
    let p = c.in-Ok.ensures (coded cs) s.held s.calm in
    search-found _ cs first _ _ _ _ _ s _ _ _ _ p refl (all_set _ (sym c.in_default-unset.ensures)) c.args.allowed c.loop-clash.invariant.1

pub returns-then-allowed-choices : goal.returns-then-allowed-choices
returns-then-allowed-choices c cs first k =
    let s = c.loop-clash.invariant.0 cs first k in
    let p = c.in-Ok.ensures (coded cs) s.held s.calm in
    search-stopped _ cs first _ _ _ _ _ s _ _ _ _ p refl _ (variable-is _ _ (sym c.in-Some-unset.ensures)) c.args.allowed c.if-allowed-choices.true

pub first-requires-clause-variable_lt_v : goal.first-requires-clause-variable_lt_v
first-requires-clause-variable_lt_v c =
    let s = c.loop-clash.invariant.0 c.requires.clauses c.requires.first c.requires.started in
    let p = c.in-Ok.ensures (coded c.requires.clauses) s.held s.calm in
    inside _ c.requires.clauses c.requires.first _ _ _ _ _ s _ _ _ _ p refl _ (variable-is _ _ (sym c.in-Some-unset.ensures))

pub push-requires : goal.push-requires
push-requires c =
    let s = c.loop-clash.invariant.0 c.requires.clauses c.requires.first c.requires.started in
    let p = c.in-Ok.ensures (coded c.requires.clauses) s.held s.calm in
    choice-pushable _ c.requires.clauses c.requires.first _ _ _ _ _ s _ _ _ _ p refl _ (variable-is _ _ (sym c.in-Some-unset.ensures)) _ c.first.ensures _ (omega arith)

pub overflow_add-front : goal.overflow_add-front
overflow_add-front c =
    let s = c.loop-clash.invariant.0 c.requires.clauses c.requires.first c.requires.started in
    let p = c.in-Ok.ensures (coded c.requires.clauses) s.held s.calm in
    omega (arith, p.held.len-v, p.held.small)

pub loop-clash-smaller : goal.loop-clash-smaller
loop-clash-smaller c =
    let s = c.loop-clash.invariant.0 c.requires.clauses c.requires.first c.requires.started in
    let p = c.in-Ok.ensures (coded c.requires.clauses) s.held s.calm in
    choice-falls₁ _ c.requires.clauses c.requires.first _ _ _ _ _ s _ _ _ _ p refl _ (variable-is _ _ (sym c.in-Some-unset.ensures)) _ c.first.ensures _ c.push.ensures

pub loop-clash-preserved : goal.loop-clash-preserved
loop-clash-preserved c = (
  (λ cs first k.
      let s = c.loop-clash.invariant.0 cs first k in
      let p = c.in-Ok.ensures (coded cs) s.held s.calm in
      search-choice _ cs first _ _ _ _ _ s _ _ _ _ p refl _ (variable-is _ _ (sym c.in-Some-unset.ensures)) _ c.first.ensures _ c.push.ensures),
  omega (arith, c.if-allowed-choices.false),
)
