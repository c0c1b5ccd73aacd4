use mathlib.Core.Path.{◌≡◌}
use mathlib.Core.List.{[]}
use native.Mathlib.Numerals.{add-one}
use native.Mathlib.Omega.{arith}
use lib.ListN.{length, get_or}
use Rattle.syntax.specs.Signatures.{signature_in}
use Rattle.clauses.proofs.Held.{blank, arity-at, count-signature_in, symbol_at-signature_in}
use Rattle.valuations.proofs.Numbered.{block_within, none-numbered, one-numbered, all-numbered}
use Rattle.valuations.proofs.numbering.numbering_of.Goals as goal

pub loop-i-init : goal.loop-i-init
loop-i-init c = λ sheet. none-numbered (signature_in sheet c.args.signature) c.args.size.0

pub block_size-requires : goal.block_size-requires
block_size-requires c = let s = c in
    (arity-at s.args.signature s.requires.0 c.loop-i.i (omega arith), s.requires.1)

pub overflow_add-n : goal.overflow_add-n
overflow_add-n c = let s = c in
    let l = c.loop-i in
    let y = get_or s.args.signature.symbols l.i blank in
    omega (
      arith,
      (l.invariant []).within,
      c.block_size.ensures,
      s.requires.0.count,
      block_within s.args.size.0 y.arity y.function s.requires.1 (arity-at s.args.signature s.requires.0 l.i (omega arith)),
    )

pub loop-i-preserved : goal.loop-i-preserved
loop-i-preserved c = let s = c in
    let g = s.args.signature in
    let l = c.loop-i in
    let a = arity-at g s.requires.0 l.i (omega arith) in
    λ sheet.
    rw (add-one, c.width.ensures, c.block_size.ensures)
    (one-numbered (signature_in sheet g) s.args.size.0 l.n l.i (get_or g.symbols l.i blank) sheet (l.invariant sheet)
    (symbol_at-signature_in g s.requires.0 sheet l.i (omega arith)) (omega (arith, count-signature_in g s.requires.0 sheet)) (omega (arith, s.requires.0.count)) s.requires.1 a)

pub returns : goal.returns
returns c = let s = c in
    let g = s.args.signature in
    λ sheet.
    let e : c.loop-i.i ≡ length (signature_in sheet g) = omega (arith, count-signature_in g s.requires.0 sheet) in
    all-numbered (signature_in sheet g) s.args.size.0 c.loop-i.n (omega (arith, count-signature_in g s.requires.0 sheet, s.requires.0.count))
    (rw e at (c.loop-i.invariant sheet))
