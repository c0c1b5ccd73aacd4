use Prim.Native.Nat.{ℕ, ◌+◌}
use mathlib.Core.Path.{sym, ap, ◌∙◌, subst}
use mathlib.Core.Bool.{Bool, ◌&&◌}
use native.Mathlib.Omega.{arith}
use lib.ListN.{length, get_or, drop}
use Rattle.theory.specs.Lists as lists
use Rattle.theory.specs.Grammar.{clause_words}
use Rattle.syntax.specs.Signatures.{signature_in}
use Rattle.clauses.proofs.Held.{count-signature_in}
use Rattle.naming.specs.FixedTerms.{helper_clause, helper_clauses}
use Rattle.naming.specs.NamedReading.{is_within, max_helpers}
use Rattle.shortening.specs.Tables.{no_span, term_at, terms_in}
use Rattle.shortening.specs.HelperWords.{WordsTo}
use Rattle.shortening.proofs.HelperSymbols.{limited-behind}
use Rattle.shortening.proofs.Measuring.{next-helper, helper-measured, no-helper, all-helpers}
use Rattle.shortening.proofs.limits.helpers_fit.Goals as goal

pub loop-i-init : goal.loop-i-init
loop-i-init c = let z = c in let a = z.args in all-helpers a.sheet.now a.signature a.all z.requires.behind a.terms

pub overflow_add-signature : goal.overflow_add-signature
overflow_add-signature c = let z = c in omega (arith, z.requires.declared.few, z.requires.there.table.count, c.loop-i-test.true)

pub offset_bounds-terms-i : goal.offset_bounds-terms-i
offset_bounds-terms-i c = let z = c in omega (arith, z.requires.there.table.count, c.loop-i-test.true)

pub bounds-terms-i : goal.bounds-terms-i
bounds-terms-i c = let z = c in omega (arith, z.requires.there.table.count, c.loop-i-test.true)

pub helper_words-words-requires : goal.helper_words-words-requires
helper_words-words-requires c = let z = c in
    let a = z.args in
    let g = signature_in a.sheet.now a.signature in
    let l = c.loop-i in
    let n = count-signature_in a.signature z.requires.declared.readable.limited a.sheet.now in
    let t = c.loop-i-test.true in
    let limited = limited-behind a.signature max_helpers a.all z.requires.behind z.requires.declared.readable.limited z.requires.declared.few (omega (arith, z.requires.declared.few)) in
    record { readable = z.requires.declared.readable; limited = limited; fewer = omega (arith, z.requires.behind.count); below = omega (arith, z.requires.behind.count, z.requires.there.table.count); there = z.requires.there.there l.i t }

pub fits-requires : goal.fits-requires
fits-requires c = let z = c in
    let a = z.args in
    let g = signature_in a.sheet.now a.signature in
    let l = c.loop-i in
    let n = count-signature_in a.signature z.requires.declared.readable.limited a.sheet.now in
    let w = c.helper_words-words in
    let t = c.loop-i-test.true in
    let m = helper-measured a.sheet.now a.signature a.all z.requires.behind a.terms z.requires.there l.i t w.result
    (subst (λ (k : ℕ). WordsTo (signature_in a.sheet.now a.all) (clause_words (helper_clause (k + l.i) (term_at g a.sheet.now (get_or a.terms.spans l.i no_span)))) w.result) (sym n) w.ensures) in
    (limited-behind a.signature max_helpers a.all z.requires.behind z.requires.declared.readable.limited z.requires.declared.few (omega (arith, z.requires.declared.few)), m)

pub returns-then-not-fits : goal.returns-then-not-fits
returns-then-not-fits c = let z = c in
    let a = z.args in
    let g = signature_in a.sheet.now a.signature in
    let l = c.loop-i in
    let n = count-signature_in a.signature z.requires.declared.readable.limited a.sheet.now in
    let w = c.helper_words-words in
    let t = c.loop-i-test.true in
    let m = helper-measured a.sheet.now a.signature a.all z.requires.behind a.terms z.requires.there l.i t w.result
    (subst (λ (k : ℕ). WordsTo (signature_in a.sheet.now a.all) (clause_words (helper_clause (k + l.i) (term_at g a.sheet.now (get_or a.terms.spans l.i no_span)))) w.result) (sym n) w.ensures) in
    sym (l.invariant ∙ next-helper a.sheet.now a.signature a.all z.requires.behind a.terms z.requires.there l.i t
    ∙ ap (λ (b : Bool). b && lists.all is_within (helper_clauses (length g + (l.i + 1)) (drop (l.i + 1) (terms_in g a.sheet.now a.terms)))) (sym (c.fits.ensures m) ∙ c.if-not-fits.true))

pub loop-i-preserved : goal.loop-i-preserved
loop-i-preserved c = let z = c in
    let a = z.args in
    let g = signature_in a.sheet.now a.signature in
    let l = c.loop-i in
    let n = count-signature_in a.signature z.requires.declared.readable.limited a.sheet.now in
    let w = c.helper_words-words in
    let t = c.loop-i-test.true in
    let m = helper-measured a.sheet.now a.signature a.all z.requires.behind a.terms z.requires.there l.i t w.result
    (subst (λ (k : ℕ). WordsTo (signature_in a.sheet.now a.all) (clause_words (helper_clause (k + l.i) (term_at g a.sheet.now (get_or a.terms.spans l.i no_span)))) w.result) (sym n) w.ensures) in
    l.invariant ∙ next-helper a.sheet.now a.signature a.all z.requires.behind a.terms z.requires.there l.i t
    ∙ ap (λ (b : Bool). b && lists.all is_within (helper_clauses (length g + (l.i + 1)) (drop (l.i + 1) (terms_in g a.sheet.now a.terms)))) (sym (c.fits.ensures m) ∙ c.if-not-fits.false)

pub returns : goal.returns
returns c = let z = c in
    let a = z.args in
    let l = c.loop-i in
    no-helper a.sheet.now a.signature a.all z.requires.behind a.terms z.requires.there l.i c.loop-i-test.false ∙ sym l.invariant
