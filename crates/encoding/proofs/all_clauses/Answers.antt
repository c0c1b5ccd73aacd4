use Rattle.encoding.proofs.ThreeParts.{cells-first, twins-next, instances-next, all-taken, numbering-anywhere}
use Rattle.encoding.proofs.all_clauses.Goals as goal

-- `all_clauses` meets its contract.
pub all_cells-requires : goal.all_cells-requires
all_cells-requires g c = let z = c in
    let a = z.args in
    let sheet = a.sheet.now in
    let x = a.consumer.now in record { limited = (z.requires.accepted.0.readable.limited, z.requires.accepted.2); by_index = λ other. numbering-anywhere a.p.signature z.requires.accepted.0.readable.limited sheet other a.size.0 a.n z.requires.numbering_of; cells_next = (sheet, cells-first g.C.ClauseConsumer.effect sheet a.p a.size.0 x z.requires.all_next) }

pub used_constants-requires : goal.used_constants-requires
used_constants-requires g c = let z = c in
    let a = z.args in
    let sheet = a.sheet.now in
    let x = a.consumer.now in
    let t = c.all_cells in
    let y = t.new.consumer in record { limited = (z.requires.accepted.0.readable.limited, z.requires.accepted.1, z.requires.accepted.2); by_index = λ other. numbering-anywhere a.p.signature z.requires.accepted.0.readable.limited sheet other a.size.0 a.n z.requires.numbering_of; used_next = (sheet, twins-next g.C.ClauseConsumer.effect sheet a.p a.size.0 x y z.requires.all_next (t.ensures sheet)) }

pub all_instances-requires : goal.all_instances-requires
all_instances-requires g c = let s = c in
    let a = s.args in
    let sheet = a.sheet.now in
    let x = a.consumer.now in
    let t = c.all_cells in
    let y = t.new.consumer in
    let u = c.used_constants in
    let z = u.new.consumer in record { accepted = (s.requires.accepted.0, s.requires.accepted.2); numbering_of = s.requires.numbering_of; instances_next = instances-next g.C.ClauseConsumer.effect sheet a.p a.size.0 x y z s.requires.all_next (t.ensures sheet) (u.ensures sheet) }

pub returns : goal.returns
returns g c = let a = c.args in
    let sheet = a.sheet.now in
    let x = a.consumer.now in
    let t = c.all_cells in
    let y = t.new.consumer in
    let u = c.used_constants in
    let z = u.new.consumer in
    let i = c.all_instances in
    let w = i.new.consumer in
    all-taken g.C.ClauseConsumer.effect sheet a.p a.size.0 x y z w (t.ensures sheet) (u.ensures sheet) i.ensures
