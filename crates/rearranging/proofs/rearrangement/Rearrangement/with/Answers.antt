-- `with` meets its contract.
use Rattle.rearranging.proofs.Entering.{entry-added, held_with}
use Rattle.rearranging.proofs.rearrangement.Rearrangement.with.Goals as goal

pub returns : goal.returns
returns c = let s = c in
    let a = s.args in
    let f = c.first_place in record { held = held_with a.self s.requires.0 a.d.0 s.requires.1.0 s.requires.1.1 f.result f.ensures; entries = entry-added a.self s.requires.0 a.d.0 s.requires.1.0 s.requires.1.1 f.result f.ensures }
