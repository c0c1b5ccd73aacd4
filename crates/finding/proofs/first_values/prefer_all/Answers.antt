use Prim.Native.Nat.{ℕ, ◌<◌}
use mathlib.Core.Path.{◌≡◌, subst}
use native.Mathlib.Numerals.{add-one}
use native.Mathlib.Omega.{arith}
use Rattle.theory.specs.Walk.{yes_first}
use Rattle.propagation.specs.WorkArea.{Prefers}
use Rattle.syntax.specs.Signatures.{signature_in}
use Rattle.clauses.proofs.Held.{arity-at}
use Rattle.finding.proofs.FirstValues.{base-zero, base_more, base-room, base-end, block-first}
use Rattle.finding.proofs.first_values.prefer_all.Goals as goal

pub loop-i-init : goal.loop-i-init
loop-i-init c =
    (base-zero c.args.signature c.requires.limited.0 c.args.size.0 c.args.v c.requires.by_index, λ cs es h. h, λ sheet x l. absurd (omega arith))

pub block_size-requires : goal.block_size-requires
block_size-requires c = (arity-at c.args.signature c.requires.limited.0 c.loop-i.i (omega arith), c.requires.limited.1)

pub overflow_add-end : goal.overflow_add-end
overflow_add-end c =
    let l = c.loop-i in
    omega (arith, base-room c.args.signature c.requires.limited.0 c.args.size.0 c.args.v c.requires.by_index l.i l.from.0 c.block_size.result (omega arith) l.invariant.0 c.block_size.ensures, c.requires.regions.small)

pub prefer-requires-clause-to_le_v : goal.prefer-requires-clause-to_le_v
prefer-requires-clause-to_le_v c =
    let l = c.loop-i in
    base-room c.args.signature c.requires.limited.0 c.args.size.0 c.args.v c.requires.by_index l.i l.from.0 c.block_size.result (omega arith) l.invariant.0 c.block_size.ensures

pub loop-i-preserved : goal.loop-i-preserved
loop-i-preserved c =
    let s = c in
    let l = c.loop-i in
    let b = c.block_size in
    let p = c.prefer in
    let lt : l.i < s.args.signature.count = omega arith in (
      rw add-one (base_more s.args.signature s.requires.limited.0 s.args.size.0 s.args.v s.requires.by_index l.i l.from.0 b.result lt l.invariant.0 b.ensures),
      λ cs es h. p.ensures.clauses cs es (l.invariant.1 cs es h),
      λ sheet.
          p.ensures.values (yes_first s.args.size.0 (signature_in sheet s.args.signature)) (l.invariant.2 sheet)
          (block-first s.args.signature s.requires.limited.0 s.args.size.0 s.args.v s.requires.by_index l.i l.from.0 b.result lt l.invariant.0 b.ensures sheet),
    )

pub returns-clause-values : goal.returns-clause-values
returns-clause-values c sheet =
    let l = c.loop-i in
    let a = c.args in
    let e : l.from.0 ≡ a.v = base-end a.signature c.requires.limited.0 a.size.0 a.v c.requires.by_index l.i l.from.0 (omega arith) l.invariant.0 in
    subst (λ (n : ℕ). Prefers a.v n (yes_first a.size.0 (signature_in sheet a.signature)) l.work) e (l.invariant.2 sheet)
