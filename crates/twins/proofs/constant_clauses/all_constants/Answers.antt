-- `all_constants` meets its contract: the constants of the signature, and their clauses.
use mathlib.Core.Path.{◌≡◌, sym}
use native.Mathlib.Omega.{arith}
use lib.ListN.{length}
use Rattle.syntax.specs.Signatures.{signature_in}
use Rattle.stream.proofs.Streams.{consumes-same, consumed-same}
use Rattle.twins.specs.Constants.{held_bases}
use Rattle.twins.specs.TwinPart.{all_twins, twin_part}
use Rattle.twins.proofs.Noting.{bases-are, constants-held}
use Rattle.twins.proofs.TwinWalk.{twins-same}
use borrow.Author.Rules.{rules}
use Rattle.twins.proofs.constant_clauses.all_constants.Goals as goal

pub each_constant-requires : goal.each_constant-requires
each_constant-requires g c = let s = c in
    let a = s.args in
    let x = a.consumer.now in
    let k = c.constants_of-constants in
    let e : length k.result.first ≡ 56 = search rules in
    let sheet = s.requires.twins_next.0 in
    let names = signature_in sheet a.signature in record {
      held = (constants-held a.signature s.requires.limited.0 a.size.0 a.n s.requires.by_index k.result k.ensures (omega (arith, e, k.ensures.few)), s.requires.limited.1, s.requires.limited.2);
      consumes = consumes-same g.C.ClauseConsumer.effect (twin_part a.size.0 names) (all_twins a.size.0 (held_bases k.result)) x
          (twins-same a.size.0 names (held_bases k.result) (bases-are a.signature s.requires.limited.0 a.size.0 a.n s.requires.by_index k.result k.ensures sheet)) s.requires.twins_next.1;
    }

pub returns : goal.returns
returns g c = let s = c in
    let a = s.args in
    let x = a.consumer.now in
    let k = c.constants_of-constants in
    let t = c.each_constant in
    let z = t.new.consumer in
    λ sheet.
    consumed-same g.C.ClauseConsumer.effect (all_twins a.size.0 (held_bases k.result)) (twin_part a.size.0 (signature_in sheet a.signature)) x z
    (sym (twins-same a.size.0 (signature_in sheet a.signature) (held_bases k.result) (bases-are a.signature s.requires.limited.0 a.size.0 a.n s.requires.by_index k.result k.ensures sheet)))
    t.ensures
