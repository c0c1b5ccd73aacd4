-- `head_length` meets its contract.
use mathlib.Core.Path.{ap}
use native.Mathlib.Omega.{arith}
use lib.ListN.{length}
use Rattle.theory.specs.Bytes.{bytes}
use Rattle.syntax.specs.Signatures.{signature_in}
use Rattle.sheet_text.proofs.HeadParts.{count-line-short, kind-same, kind-span, keys-short, head-length}
use Rattle.sheet_text.proofs.head.head_length.Goals as goal

pub kind_length-function_lines-requires : goal.kind_length-function_lines-requires
kind_length-function_lines-requires c = let s = c in
    let e = c.function_kind.ensures in
    record { short_names = (s.requires.0, kind-span _ _ _ _ _ e s.args.signature (omega arith) s.requires.1); counting_len_bound = keys-short _ _ _ _ _ e (omega arith) (omega arith) }

pub kind_length-predicate_lines-requires : goal.kind_length-predicate_lines-requires
kind_length-predicate_lines-requires c = let s = c in
    let e = c.predicate_kind.ensures in
    record { short_names = (s.requires.0, kind-span _ _ _ _ _ e s.args.signature s.requires.1 (omega arith)); counting_len_bound = keys-short _ _ _ _ _ e (omega arith) (omega arith) }

pub count_line_length-requires : goal.count_line_length-requires
count_line_length-requires c = let s = c in
    omega (arith, count-line-short (bytes "clauses=") s.args.clauses (omega (arith, s.ranges.clauses)))

pub overflow_add-result-3 : goal.overflow_add-result-3
overflow_add-result-3 c = let s = c in
    let f = c.function_kind.ensures in
    let g = c.predicate_kind.ensures in
    omega (
      arith,
      s.requires.1,
      s.requires.0.limited.count,
      f.from_is,
      f.to_is,
      g.from_is,
      g.to_is,
      c.kind_length-function_lines.ensures.short,
      c.kind_length-predicate_lines.ensures.short,
      c.count_line_length.ensures,
      count-line-short (bytes "clauses=") s.args.clauses (omega (arith, s.ranges.clauses)),
    )

pub returns : goal.returns
returns c = let s = c in
    let f = c.function_kind.ensures in
    let g = c.predicate_kind.ensures in
    let p = c.kind_length-function_lines in
    let q = c.kind_length-predicate_lines in
    let u = c.count_line_length in
    record {
      length = λ text r.
          omega (
            arith,
            p.ensures.length text r,
            q.ensures.length text r,
            ap length (kind-same _ _ _ _ _ f (signature_in text s.args.signature)),
            ap length (kind-same _ _ _ _ _ g (signature_in text s.args.signature)),
            u.ensures,
            head-length text s.args.signature r s.args.functions s.args.clauses,
          );
      short = omega (
        arith,
        s.requires.1,
        s.requires.0.limited.count,
        f.from_is,
        f.to_is,
        g.from_is,
        g.to_is,
        p.ensures.short,
        q.ensures.short,
        u.ensures,
        count-line-short (bytes "clauses=") s.args.clauses (omega (arith, s.ranges.clauses)),
      );
    }
