-- `kind_length` meets its contract.
use Prim.Native.Nat.{◌-◌}
use native.Mathlib.Omega.{arith}
use Rattle.sheet_text.proofs.HeadParts.{count-line-short, kind-length}
use Rattle.sheet_text.proofs.head.kind_length.Goals as goal

pub count_line_length-requires : goal.count_line_length-requires
count_line_length-requires c = let s = c in
    let a = s.args in
    omega (arith, s.requires.counting_len_bound.0, count-line-short a.k.counting.now (a.k.to - a.k.from) (omega (arith, s.requires.short_names.0.limited.count, s.requires.short_names.1.within)))

pub overflow_add-result : goal.overflow_add-result
overflow_add-result c = let s = c in
    let a = s.args in
    omega (
      arith,
      s.requires.counting_len_bound.0,
      s.requires.short_names.0.limited.count,
      s.requires.short_names.1.within,
      count-line-short a.k.counting.now (a.k.to - a.k.from) (omega (arith, s.requires.short_names.0.limited.count, s.requires.short_names.1.within)),
      c.count_line_length.ensures,
      c.symbol_lines_length.ensures.short,
    )

pub returns : goal.returns
returns c = let s = c in
    let a = s.args in
    let p = c.count_line_length in
    let q = c.symbol_lines_length in record { length = λ text r. omega (arith, p.ensures, q.ensures.length text r, kind-length a.k.counting.now a.k.key.now text a.signature r a.k.from a.k.to s.requires.short_names.1.within); short = omega (arith, s.requires.counting_len_bound.0, p.ensures, q.ensures.short, count-line-short a.k.counting.now (a.k.to - a.k.from) (omega (arith, s.requires.short_names.0.limited.count, s.requires.short_names.1.within))) }
