-- `solve` meets its contract.
use mathlib.Core.Path.{refl}
use mathlib.Core.Option.{none}
use native.Mathlib.Omega.{arith}
use Rattle.propagation.proofs.Frames.{frame-trans}
use Rattle.search.proofs.Searching.{ends_so}
use Rattle.search.proofs.solve.Goals as goal

pub search-requires : goal.search-requires
search-requires c =
    record {
      clauses = c.requires.clauses;
      first = c.requires.first;
      started = (c.in-Ok.ensures c.requires.clauses c.requires.first c.requires.loaded c.requires.number).started refl;
    }

pub returns-in-Ok : goal.returns-in-Ok
returns-in-Ok c cs first k n =
    let g = c.in-Ok.ensures cs first k n in
    let r = c.search.ensures cs first (g.started refl) in
    record { ends = r.ends; frame = frame-trans g.frame r.frame }

pub returns-in-Err : goal.returns-in-Err
returns-in-Err c cs first k n =
    let g = c.in-Err.ensures cs first k n in
    record { ends = ends_so c.args.v cs first c.args.allowed 0 none (g.failed refl) (omega arith); frame = g.frame }
