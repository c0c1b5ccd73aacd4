-- `symbol_line` reads the key, then the symbol.
use Rattle.syntax.specs.Signatures.{kind_of, signature_in}
use Rattle.problem.specs.Lines.{ValueWithin}
use Rattle.problem.proofs.SymbolLines.{symbol-unkeyed, symbol-keyed}
use Rattle.clauses.proofs.Refused.{first_refused}
use Rattle.problem.proofs.symbols.symbol_line.Goals as goal
use Rattle.std.specs.Prelude.{Some}

pub symbol_at-requires : goal.symbol_at-requires
symbol_at-requires c = let z = c in
    let a = z.args in
    let h : ValueWithin a.sheet.now (Some (_, _)) = rw c.in_ok-from.ensures.ok_part at c.key_line.ensures.within in (h.0.from, (h.1, z.requires.1))

pub returns-in_err-from : goal.returns-in_err-from
returns-in_err-from c = let z = c in
    let a = z.args in
    let e = c.in_err-from.ensures.ok_part in
    rw (first_refused _ _ _ e c.ok_or.ensures.value c.in_err-from.was c.from_residual.ensures.1) (symbol-unkeyed a.sheet.now a.at a.key.now (kind_of a.function) (signature_in a.sheet.now a.before) (rw e at c.key_line.ensures))

pub returns : goal.returns
returns c = let z = c in
    let a = z.args in
    symbol-keyed a.sheet.now a.at a.key.now (kind_of a.function) (signature_in a.sheet.now a.before) _ _ c.symbol_at.result (rw c.in_ok-from.ensures.ok_part at c.key_line.ensures) c.symbol_at.ensures
