-- `put_head` meets its contract.
use mathlib.Core.Path.{ap, ◌∙◌}
use native.Mathlib.Omega.{arith}
use lib.ListN.{length}
use Rattle.syntax.specs.Signatures.{signature_in}
use Rattle.text.specs.Put.{put}
use Rattle.sheet_text.proofs.HeadParts.{kind-same, kind-span, head-length, head-written}
use Rattle.sheet_text.proofs.head.put_head.Goals as goal

pub put_bytes-first-requires : goal.put_bytes-first-requires
put_bytes-first-requires c = let s = c in
    let a = s.args in
    omega (arith, s.requires.clauses_in_bounds, head-length a.text.now a.signature s.requires.readable.0 a.functions a.clauses)

pub put_kind-second-requires : goal.put_kind-second-requires
put_kind-second-requires c = let s = c in
    let a = s.args in
    let p = c.put_bytes-first in
    let f = c.function_kind.ensures in
    record {
      readable = (s.requires.readable.0, kind-span _ _ _ _ _ f a.signature (omega arith) s.requires.readable.1);
      signature_in_bounds = omega (
        arith,
        s.requires.clauses_in_bounds,
        p.ensures.place,
        p.auto.out,
        ap length (kind-same _ _ _ _ _ f (signature_in a.text.now a.signature)),
        head-length a.text.now a.signature s.requires.readable.0 a.functions a.clauses,
      );
    }

pub put_kind-end-requires : goal.put_kind-end-requires
put_kind-end-requires c = let s = c in
    let a = s.args in
    let p = c.put_bytes-first in
    let q = c.put_kind-second in
    let f = c.function_kind.ensures in
    let g = c.predicate_kind-predicates.ensures in
    record {
      readable = (s.requires.readable.0, kind-span _ _ _ _ _ g a.signature s.requires.readable.1 (omega arith));
      signature_in_bounds = omega (
        arith,
        s.requires.clauses_in_bounds,
        p.ensures.place,
        p.auto.out,
        q.ensures.place,
        q.auto.out,
        ap length (kind-same _ _ _ _ _ f (signature_in a.text.now a.signature)),
        ap length (kind-same _ _ _ _ _ g (signature_in a.text.now a.signature)),
        head-length a.text.now a.signature s.requires.readable.0 a.functions a.clauses,
      );
    }

pub put_count_line-requires : goal.put_count_line-requires
put_count_line-requires c = let s = c in
    let a = s.args in
    let p = c.put_bytes-first in
    let q = c.put_kind-second in
    let u = c.put_kind-end in
    omega (
      arith,
      s.requires.clauses_in_bounds,
      p.ensures.place,
      p.auto.out,
      q.ensures.place,
      q.auto.out,
      u.ensures.place,
      u.auto.out,
      ap length (kind-same _ _ _ _ _ c.function_kind.ensures (signature_in a.text.now a.signature)),
      ap length (kind-same _ _ _ _ _ c.predicate_kind-predicates.ensures (signature_in a.text.now a.signature)),
      head-length a.text.now a.signature s.requires.readable.0 a.functions a.clauses,
    )

pub returns : goal.returns
returns c = let s = c in
    let a = s.args in
    let p = c.put_bytes-first in
    let q = c.put_kind-second in
    let u = c.put_kind-end in
    let v = c.put_count_line in
    let f = kind-same _ _ _ _ _ c.function_kind.ensures (signature_in a.text.now a.signature) in
    let g = kind-same _ _ _ _ _ c.predicate_kind-predicates.ensures (signature_in a.text.now a.signature) in
    let both = head-written a.text.now a.signature s.requires.readable.0 a.functions a.clauses a.out.now p.new.out q.new.out u.new.out v.new.out a.at p.result q.result u.result v.result s.requires.clauses_in_bounds
    p.auto.out (q.auto.out ∙ p.auto.out) p.ensures.written p.ensures.place (q.ensures.written ∙ ap (put p.new.out p.result) f) (omega (arith, q.ensures.place, ap length f)) (u.ensures.written ∙ ap (put q.new.out q.result) g)
    (omega (arith, u.ensures.place, ap length g)) v.ensures.written v.ensures.place in
    record { written = both.0; place = both.1 }
