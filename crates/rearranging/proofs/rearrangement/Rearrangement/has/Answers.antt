-- `has` meets its contract: an element has a place exactly if it is among the entries.
use Rattle.rearranging.proofs.Entering.{has-elem}
use Rattle.rearranging.proofs.rearrangement.Rearrangement.has.Goals as goal

pub returns : goal.returns
returns c = let s = c in has-elem s.args.self s.requires.0 s.args.d.0 s.requires.1
