use mathlib.Core.Path.{◌≡◌, refl, sym, ◌∙◌}
use native.Mathlib.Omega.{arith}
use lib.ListN.{length}
use borrow.Author.Rules.{rules}
use Rattle.syntax.specs.Signatures.{signature_in}
use Rattle.text.specs.Put.{put-none}
use Rattle.sheet_text.proofs.WordsBefore.{before-within, before-fits, one-more-written, all-written, writable-at}
use Rattle.sheet_text.proofs.clause_lines.put_clause_line.Goals as goal

pub put_bytes-e-requires : goal.put_bytes-e-requires
put_bytes-e-requires c = let s = c in
    let n : length s.args.words.words ≡ 64 = search rules in
    omega (arith, s.requires.1, before-within (signature_in s.args.text.now s.args.signature) s.args.words (omega (arith, s.requires.0.fits)) 0)

pub loop-i-init : goal.loop-i-init
loop-i-init c = let p = c.put_bytes-e in (refl, sym (put-none p.new.out p.result), omega arith)

pub put_next_word-e-requires : goal.put_next_word-e-requires
put_next_word-e-requires c = let l = c.loop-i in
    let t = c.loop-i-test.true in
    let p = c.put_bytes-e in
    let s = c in
    let n : length s.args.words.words ≡ 64 = search rules in (
      writable-at s.args.signature s.args.words (omega (arith, s.requires.0.fits)) s.args.text.now s.requires.0 l.i t,
      omega (arith, s.requires.1, p.auto.out, p.ensures.place, l.invariant.0, l.invariant.2, before-fits (signature_in s.args.text.now s.args.signature) s.args.words (omega (arith, s.requires.0.fits)) l.i t),
    )

pub loop-i-preserved : goal.loop-i-preserved
loop-i-preserved c = let l = c.loop-i in
    let t = c.loop-i-test.true in
    let p = c.put_bytes-e in
    let q = c.put_next_word-e in
    let s = c in
    let g = signature_in s.args.text.now s.args.signature in
    let n : length s.args.words.words ≡ 64 = search rules in
    let r = one-more-written g s.args.words (omega (arith, s.requires.0.fits)) p.new.out l.out q.new.out p.result l.e q.result l.i t
    (omega (arith, s.requires.1, p.auto.out, p.ensures.place, l.invariant.2, before-fits g s.args.words (omega (arith, s.requires.0.fits)) l.i t)) l.invariant.1 l.invariant.2 q.ensures.written q.ensures.place in
    (q.auto.out ∙ l.invariant.0, r.0, r.1)

pub bounds-out-e : goal.bounds-out-e
bounds-out-e c = let l = c.loop-i in
    let p = c.put_bytes-e in
    let s = c in
    let n : length s.args.words.words ≡ 64 = search rules in
    omega (arith, s.requires.1, p.auto.out, p.ensures.place, l.invariant.0, l.invariant.2, before-within (signature_in s.args.text.now s.args.signature) s.args.words (omega (arith, s.requires.0.fits)) l.i)

pub overflow_add-result : goal.overflow_add-result
overflow_add-result c = let l = c.loop-i in
    let p = c.put_bytes-e in
    let s = c in
    let n : length s.args.words.words ≡ 64 = search rules in
    omega (arith, s.well_formed, s.requires.1, p.ensures.place, l.invariant.2, before-within (signature_in s.args.text.now s.args.signature) s.args.words (omega (arith, s.requires.0.fits)) l.i)

pub returns : goal.returns
returns c = let l = c.loop-i in
    let p = c.put_bytes-e in
    let s = c in
    let n : length s.args.words.words ≡ 64 = search rules in let both = all-written (signature_in s.args.text.now s.args.signature) s.args.words (omega (arith, s.requires.0.fits)) s.args.out.now p.new.out l.out s.args.at p.result l.e l.i c.loop-i-test.false s.requires.1
    p.ensures.written p.ensures.place l.invariant.1 l.invariant.2 in record { written = both.0; place = both.1 }
