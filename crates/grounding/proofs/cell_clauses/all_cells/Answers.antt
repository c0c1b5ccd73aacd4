use Prim.Native.Nat.{◌+◌}
use mathlib.Core.Path.{sym}
use native.Mathlib.Omega.{arith}
use Rattle.theory.specs.Lists.{concat_map, up_to}
use Rattle.stream.proofs.Streams.{consumes-same, consumed-same, next-consumes, more-consumed, all-consumed}
use lib.ListN.{get_or}
use Rattle.syntax.specs.Signatures.{signature_in}
use Rattle.clauses.proofs.Held.{blank, arity-at}
use Rattle.grounding.specs.CellPart.{cell_part, symbol_clauses}
use Rattle.grounding.proofs.CellWalk.{symbol_part, whole_part, part_at, base-small}
use Rattle.grounding.proofs.cell_clauses.all_cells.Goals as goal

pub symbol_cells-requires : goal.symbol_cells-requires
symbol_cells-requires g c = let s = c in
    let a = s.args in
    let x = a.consumer.now in
    let l = c.loop-i in
    let y = l.consumer in
    let sheet = s.requires.cells_next.0 in record {
      arity_bound = (arity-at a.signature s.requires.limited.0 l.i (omega arith), s.requires.limited.1, base-small a.signature s.requires.limited.0 a.size.0 a.n s.requires.by_index sheet l.i (omega arith));
      consumes = consumes-same g.C.ClauseConsumer.effect (symbol_part a.size.0 (signature_in sheet a.signature) l.i) (symbol_clauses a.size.0 (get_or a.n.bases l.i 0) (get_or a.signature.symbols l.i blank)) y (part_at a.signature s.requires.limited.0 a.size.0 a.n s.requires.by_index sheet l.i (omega arith))
          (next-consumes g.C.ClauseConsumer.effect (symbol_part a.size.0 (signature_in sheet a.signature)) 0 a.signature.count x l.i l.i y (omega arith) (omega arith)
          (consumes-same g.C.ClauseConsumer.effect (cell_part a.size.0 (signature_in sheet a.signature)) (concat_map (symbol_part a.size.0 (signature_in sheet a.signature)) (up_to a.signature.count)) x (whole_part a.signature s.requires.limited.0 a.size.0 a.n s.requires.by_index sheet) s.requires.cells_next.1) (l.invariant sheet));
    }

pub loop-i-preserved : goal.loop-i-preserved
loop-i-preserved g c = let s = c in
    let a = s.args in
    let x = a.consumer.now in
    let l = c.loop-i in
    let y = l.consumer in
    let t = c.symbol_cells in
    let z = t.new.consumer in
    let lt = c.loop-i-test.true in
    λ sheet.
    more-consumed g.C.ClauseConsumer.effect (symbol_part a.size.0 (signature_in sheet a.signature)) 0 a.signature.count x l.i (l.i + 1) l.i y z (omega arith) (omega arith) (l.invariant sheet)
    (consumed-same g.C.ClauseConsumer.effect (symbol_clauses a.size.0 (get_or a.n.bases l.i 0) (get_or a.signature.symbols l.i blank)) (symbol_part a.size.0 (signature_in sheet a.signature) l.i) y z (sym (part_at a.signature s.requires.limited.0 a.size.0 a.n s.requires.by_index sheet l.i (omega arith))) t.ensures)

pub returns : goal.returns
returns g c = let s = c in
    let a = s.args in
    let x = a.consumer.now in
    let l = c.loop-i in
    let y = l.consumer in
    λ sheet.
    consumed-same g.C.ClauseConsumer.effect (concat_map (symbol_part a.size.0 (signature_in sheet a.signature)) (up_to a.signature.count)) (cell_part a.size.0 (signature_in sheet a.signature)) x y (sym (whole_part a.signature s.requires.limited.0 a.size.0 a.n s.requires.by_index sheet))
    (all-consumed g.C.ClauseConsumer.effect (symbol_part a.size.0 (signature_in sheet a.signature)) 0 a.signature.count x l.i y (omega arith) (l.invariant sheet))
