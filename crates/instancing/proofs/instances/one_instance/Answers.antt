-- `one_instance` meets its contract.
use mathlib.Core.Path.{sym}
use mathlib.Core.List.{[], ◌∷◌}
use lib.ListN.{take}
use Rattle.theory.specs.Instances.{kept}
use Rattle.stream.specs.Literals.{prop_clause_of}
use Rattle.stream.proofs.Streams.{consumed-same}
use Rattle.forms.specs.LinearForms.{form_instance}
use Rattle.instancing.proofs.instances.one_instance.Goals as goal

pub returns : goal.returns
returns g c = let a = c.args in
    let t = c.take in
    let cs = kept (form_instance a.values.now a.count a.forms.now) in
    consumed-same g.C.ClauseConsumer.effect (prop_clause_of (take c.in-Some.literals c.instance_at.new.codes) ∷ []) cs a.consumer.now t.new.self (sym c.in-Some.ensures.instance) t.ensures
