use mathlib.Core.Path.{◌∙◌, ap}
use native.Mathlib.Omega.{arith}
use Rattle.text.specs.Put.{put, part-put}
use Rattle.text.proofs.writing.put_bytes.Goals as goal

pub returns-clause-written : goal.returns-clause-written
returns-clause-written c =
    let a = c.args in
    part-put a.out.now c.copy_from_slice.new.self a.at _ (omega arith) (omega arith) (omega arith) ∙ ap (put a.out.now a.at) c.copy_from_slice.ensures.after
