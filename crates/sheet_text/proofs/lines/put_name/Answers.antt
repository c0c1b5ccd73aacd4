-- `put_name` meets its contract: the name is lent from the text.
use native.Mathlib.Omega.{arith}
use mathlib.Core.Path.{ap}
use Prim.Native.Nat.{◌+◌, ◌-◌}
use lib.ListN.{length, take, drop}
use Rattle.syntax.specs.Signatures.{symbol_in}
use Rattle.syntax.proofs.NamesLent.{name-lent}
use Rattle.sheet_text.proofs.LinesWritten.{same_text}
use Rattle.sheet_text.proofs.lines.put_name.Goals as goal

pub put_bytes-requires : goal.put_bytes-requires
put_bytes-requires c = let z = c in
    omega (arith, z.requires.1, ap length (name-lent z.args.text.now z.args.symbol))

pub returns : goal.returns
returns c = let z = c in
    let p = c.put_bytes in
    let a = z.args in let both = same_text a.out.now p.new.out a.at p.result (take (a.symbol.name + a.symbol.length - a.symbol.name) (drop a.symbol.name a.text.now)) (symbol_in a.text.now a.symbol).name
    (name-lent a.text.now a.symbol) p.ensures.written p.ensures.place in record { written = both.0; place = both.1 }
