use Prim.Native.Nat.{◌<◌}
use mathlib.Core.Path.{sym, ap, ◌∙◌, subst}
use Rattle.std.specs.Prelude.{true, Some, None}
use native.Mathlib.Omega.{arith}
use lib.ListN.{length, get_or}
use Rattle.theory.specs.Syntax.{Clause}
use Rattle.syntax.specs.Signatures.{signature_in}
use Rattle.clauses.proofs.Held.{count-signature_in}
use Rattle.naming.specs.NamedReading.{max_helpers, is_within_named}
use Rattle.shortening.specs.ShortLines.{Shortened}
use Rattle.shortening.proofs.NamedTable.{none-there}
use Rattle.shortening.proofs.HelperSymbols.{limited-behind}
use Rattle.problem.specs.Problems.{handed_in}
use Rattle.problem.proofs.NamedLines.{between}
use Rattle.problem.proofs.LinesThere.{line-there, line_of, named-within}
use Rattle.problem.proofs.Handed.{handed-count, handed-at}
use Rattle.problem.proofs.NamedWalk.{begins, overflows, goes_on, all_named, too_many}
use Rattle.problem.proofs.named_lines.named_terms.Goals as goal

pub with_helpers-all-requires : goal.with_helpers-all-requires
with_helpers-all-requires c = let z = c in (z.requires.readable.limited, omega (arith, z.requires.few))

pub loop-k-init : goal.loop-k-init
loop-k-init c = let z = c in
    let a = z.args in
    let sheet = a.sheet.now in
    let p = a.p in
    let g = signature_in sheet p.signature in
    begins g (signature_in sheet c.with_helpers-all.result) sheet (handed_in sheet p).clauses c.none-terms.result c.none-terms.ensures.count (none-there g sheet c.none-terms.result c.none-terms.ensures.count c.none-terms.ensures.held)

pub offset_bounds-p-k : goal.offset_bounds-p-k
offset_bounds-p-k c = let z = c in omega (arith, z.requires.count)

pub bounds-p-k : goal.bounds-p-k
bounds-p-k c = let z = c in omega (arith, z.requires.count)

pub line_end-end-requires : goal.line_end-end-requires
line_end-end-requires c = let z = c in (z.requires.clauses c.loop-k.k (omega arith)).within

pub shorten-requires : goal.shorten-requires
shorten-requires c = let z = c in
    let a = z.args in
    let sheet = a.sheet.now in
    let p = a.p in
    let g = signature_in sheet p.signature in
    let l = c.loop-k in
    let k : c.loop-k.k < c.args.p.count = omega arith in
    let all⁺ = c.with_helpers-all in
    let e = c.line_end-end in
    let t = line-there true sheet g (get_or p.clauses l.k 0) (z.requires.clauses l.k k) in
    let line = line_of sheet g (get_or p.clauses l.k 0) t e.result e.ensures (between g sheet (get_or p.clauses l.k 0) e.result) in
    let n = count-signature_in p.signature z.requires.readable.limited sheet in
    record {
      line = record { declared = record { readable = z.requires.readable; few = z.requires.few }; within = e.ensures.within; line = line };
      limited = limited-behind p.signature max_helpers all⁺.result all⁺.ensures z.requires.readable.limited z.requires.few (omega (arith, z.requires.few));
      there = l.invariant.there;
      room = λ d i le room. omega (arith, n, all⁺.ensures.count);
    }

pub returns-in_err-line : goal.returns-in_err-line
returns-in_err-line c = let z = c in
    let a = z.args in
    let sheet = a.sheet.now in
    let p = a.p in
    let g = signature_in sheet p.signature in
    let l = c.loop-k in
    let k : c.loop-k.k < c.args.p.count = omega arith in
    let all⁺ = c.with_helpers-all in
    let e = c.line_end-end in
    let t = line-there true sheet g (get_or p.clauses l.k 0) (z.requires.clauses l.k k) in
    let line = line_of sheet g (get_or p.clauses l.k 0) t e.result e.ensures (between g sheet (get_or p.clauses l.k 0) e.result) in
    let cs = (handed_in sheet p).clauses in
    let same = handed-at true sheet p z.requires l.k k in
    let short = subst (λ (d : Clause). Shortened g (signature_in sheet all⁺.result) sheet l.terms d None) (sym same) (c.in_err-line.ensures line) in
    let below : l.k < length cs = omega (arith, handed-count true sheet p z.requires) in
    rw c.from_residual.ensures (too_many g (signature_in sheet all⁺.result) sheet cs (overflows g (signature_in sheet all⁺.result) sheet cs l.terms l.k l.invariant below short))

pub loop-k-preserved : goal.loop-k-preserved
loop-k-preserved c = let z = c in
    let a = z.args in
    let sheet = a.sheet.now in
    let p = a.p in
    let g = signature_in sheet p.signature in
    let l = c.loop-k in
    let k : c.loop-k.k < c.args.p.count = omega arith in
    let all⁺ = c.with_helpers-all in
    let e = c.line_end-end in
    let t = line-there true sheet g (get_or p.clauses l.k 0) (z.requires.clauses l.k k) in
    let line = line_of sheet g (get_or p.clauses l.k 0) t e.result e.ensures (between g sheet (get_or p.clauses l.k 0) e.result) in
    let cs = (handed_in sheet p).clauses in
    let same = handed-at true sheet p z.requires l.k k in
    let short = subst (λ (d : Clause). Shortened g (signature_in sheet all⁺.result) sheet l.terms d (Some c.in_ok-line.line)) (sym same) (c.in_ok-line.ensures line) in
    let below : l.k < length cs = omega (arith, handed-count true sheet p z.requires) in
    goes_on g (signature_in sheet all⁺.result) sheet cs l.terms l.k l.invariant below c.in_ok-line.line short
    (ap (is_within_named (length g)) same ∙ named-within sheet g (get_or p.clauses l.k 0) (z.requires.clauses l.k k))

pub returns : goal.returns
returns c = let z = c in
    let a = z.args in
    let sheet = a.sheet.now in
    let p = a.p in
    let g = signature_in sheet p.signature in
    let l = c.loop-k in
    all_named g (signature_in sheet c.with_helpers-all.result) sheet (handed_in sheet p).clauses l.terms l.k l.invariant (omega (arith, handed-count true sheet p z.requires))
