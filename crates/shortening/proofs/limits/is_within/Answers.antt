-- `is_within` measures the shortened clause, then the helpers' own.
use mathlib.Core.Path.{refl, sym, ◌∙◌}
use native.Mathlib.Omega.{arith}
use Rattle.syntax.specs.Signatures.{signature_in}
use Rattle.clauses.proofs.Held.{count-signature_in}
use Rattle.naming.specs.NamedReading.{max_helpers}
use Rattle.shortening.proofs.NamedTable.{none-there}
use Rattle.shortening.proofs.HelperSymbols.{limited-behind}
use Rattle.shortening.proofs.Measuring.{over-full, short-measured, over-short, terms-there, helpers-decide}
use Rattle.shortening.proofs.limits.is_within.Goals as goal

pub shorten-requires : goal.shorten-requires
shorten-requires c = let z = c in
    let a = z.args in
    let g = signature_in a.sheet.now a.signature in
    let h = c.with_helpers-all in
    let n = count-signature_in a.signature z.requires.declared.readable.limited a.sheet.now in
    record {
      line = z.requires;
      limited = limited-behind a.signature max_helpers h.result h.ensures z.requires.declared.readable.limited z.requires.declared.few (omega (arith, z.requires.declared.few));
      there = none-there g a.sheet.now c.none.result c.none.ensures.count c.none.ensures.held;
      room = λ l k le room. omega (arith, n, h.ensures.count);
    }

pub returns-in_default : goal.returns-in_default
returns-in_default c l = let z = c in
    let a = z.args in
    let g = signature_in a.sheet.now a.signature in
    let all⁺ = c.with_helpers-all in
    let none = c.none in
    over-full g a.sheet.now none.result none.ensures.count l.clause (c.in_default.ensures l)

pub fits-requires : goal.fits-requires
fits-requires c = let z = c in
    let a = z.args in
    let g = signature_in a.sheet.now a.signature in
    let all⁺ = c.with_helpers-all in
    let none = c.none in
    let r = c.in-Some in
    let l = z.requires.line in (
      limited-behind a.signature max_helpers all⁺.result all⁺.ensures z.requires.declared.readable.limited z.requires.declared.few (omega (arith, z.requires.declared.few)),
      short-measured g a.sheet.now none.result none.ensures.count l.clause a.signature all⁺.result refl all⁺.ensures l.ok r.line (r.ensures l),
    )

pub returns-then-not-fits : goal.returns-then-not-fits
returns-then-not-fits c l = let z = c in
    let a = z.args in
    let g = signature_in a.sheet.now a.signature in
    let all⁺ = c.with_helpers-all in
    let none = c.none in
    let r = c.in-Some in
    let m = short-measured g a.sheet.now none.result none.ensures.count l.clause a.signature all⁺.result refl all⁺.ensures l.ok r.line (r.ensures l) in
    over-short g a.sheet.now none.result none.ensures.count l.clause a.signature all⁺.result refl all⁺.ensures l.ok r.line (r.ensures l) (sym (c.fits.ensures m) ∙ c.if-not-fits.true)

pub helpers_fit-requires : goal.helpers_fit-requires
helpers_fit-requires c = let z = c in
    let a = z.args in
    let g = signature_in a.sheet.now a.signature in
    let all⁺ = c.with_helpers-all in
    let none = c.none in
    let r = c.in-Some in
    let l = z.requires.line in
    let m = short-measured g a.sheet.now none.result none.ensures.count l.clause a.signature all⁺.result refl all⁺.ensures l.ok r.line (r.ensures l) in
    record {
      declared = z.requires.declared;
      behind = all⁺.ensures;
      there = terms-there g a.sheet.now none.result none.ensures.count l.clause a.signature all⁺.result refl all⁺.ensures l.ok r.line (r.ensures l) (sym (c.fits.ensures m) ∙ c.if-not-fits.false);
    }

pub returns : goal.returns
returns c l = let z = c in
    let a = z.args in
    let g = signature_in a.sheet.now a.signature in
    let all⁺ = c.with_helpers-all in
    let none = c.none in
    let r = c.in-Some in
    let m = short-measured g a.sheet.now none.result none.ensures.count l.clause a.signature all⁺.result refl all⁺.ensures l.ok r.line (r.ensures l) in
    helpers-decide g a.sheet.now none.result none.ensures.count l.clause a.signature all⁺.result refl all⁺.ensures l.ok r.line (r.ensures l)
    (sym (c.fits.ensures m) ∙ c.if-not-fits.false) c.helpers_fit.result c.helpers_fit.ensures
