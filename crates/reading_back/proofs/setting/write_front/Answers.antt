-- `write_front` meets its contract: the setting is cut where the symbols' variables end.
use Rattle.reading_back.proofs.Fronts.{front-bits}
use Rattle.reading_back.proofs.setting.write_front.Goals as goal

pub write_case-requires : goal.write_case-requires
write_case-requires c = let s = c in
    let a = s.args in
    let n = c.numbering_of-n in record { writable_bits = front-bits a.sheet.now a.signature a.size.0 a.setting.now s.requires.front_lent n.result (n.ensures a.sheet.now); signature_in_bounds = s.requires.signature_in_bounds }
