-- `short_word` looks for a term to name.
use mathlib.Core.Path.{◌≡◌, sym, ap, ◌∙◌, subst}
use mathlib.Core.Bool.{true}
use Prim.Native.Nat.{ℕ}
use native.Mathlib.Omega.{arith}
use Rattle.syntax.specs.Signatures.{signature_in}
use Rattle.syntax.specs.Codes.{code_word}
use Rattle.clauses.specs.Words.{is_code}
use Rattle.shortening.specs.Opening.{is_opening}
use Rattle.clauses.proofs.Held.{count-signature_in}
use Rattle.shortening.specs.ShortLines.{NameGiven}
use Rattle.shortening.proofs.ShortSteps.{coded-here, closed-step, term-here, varying-step, span-within, span-there, named_step}
use Rattle.shortening.proofs.short.short_word.Goals as goal

pub opens_term-requires : goal.opens_term-requires
opens_term-requires c = let z = c in
    let a = z.args in
    let g = signature_in a.sheet.now a.signature in (
      z.requires.declared.readable.limited,
      ap (λ (n : ℕ). is_code n c.next_word-word.result.code) (sym (count-signature_in a.signature z.requires.declared.readable.limited a.sheet.now))
          ∙ coded-here g a.sheet.now a.at a.to c.next_word-word.result c.next_word-word.ensures z.requires.here,
    )

pub returns-then-not-opens_term : goal.returns-then-not-opens_term
returns-then-not-opens_term c l = let z = c in
    let a = z.args in
    let w = c.next_word-word in
    closed-step (signature_in a.sheet.now a.signature) a.sheet.now a.at a.to w.result w.ensures l a.terms z.requires.there (sym (sym (c.opens_term.ensures a.sheet.now) ∙ c.if-not-opens_term.true))

pub fixed_end-requires : goal.fixed_end-requires
fixed_end-requires c = let z = c in
    let a = z.args in
    let w = c.next_word-word in
    record { readable = z.requires.declared.readable; within = z.requires.within; here = term-here (signature_in a.sheet.now a.signature) a.sheet.now a.at a.to w.result w.ensures z.requires.here (sym (c.opens_term.ensures a.sheet.now) ∙ c.if-not-opens_term.false) }

pub name_of-requires : goal.name_of-requires
name_of-requires c = let z = c in
    let a = z.args in
    let w = c.next_word-word in
    let opening : is_opening (signature_in a.sheet.now a.signature) (code_word w.result.code) ≡ true = sym (c.opens_term.ensures a.sheet.now) ∙ c.if-not-opens_term.false in
    let t = term-here (signature_in a.sheet.now a.signature) a.sheet.now a.at a.to w.result w.ensures z.requires.here opening in
    let e = c.in-Some.ensures t in
    (z.requires.declared.few, (z.requires.there.table, span-within (signature_in a.sheet.now a.signature) a.sheet.now a.at a.to w.result w.ensures z.requires.here opening _ e z.requires.within))

pub returns-in-None : goal.returns-in-None
returns-in-None c l = let z = c in
    let a = z.args in
    let w = c.next_word-word in
    let opening : is_opening (signature_in a.sheet.now a.signature) (code_word w.result.code) ≡ true = sym (c.opens_term.ensures a.sheet.now) ∙ c.if-not-opens_term.false in
    let t = term-here (signature_in a.sheet.now a.signature) a.sheet.now a.at a.to w.result w.ensures l opening in
    varying-step (signature_in a.sheet.now a.signature) a.sheet.now a.at a.to w.result w.ensures l opening a.terms z.requires.there (c.in-None.ensures t)

pub returns-in-Some : goal.returns-in-Some
returns-in-Some c l = let z = c in
    let a = z.args in
    let g = signature_in a.sheet.now a.signature in
    let w = c.next_word-word in
    let opening : is_opening g (code_word w.result.code) ≡ true = sym (c.opens_term.ensures a.sheet.now) ∙ c.if-not-opens_term.false in
    let t = term-here g a.sheet.now a.at a.to w.result w.ensures l opening in
    let e = c.in-Some.ensures t in
    let n = count-signature_in a.signature z.requires.declared.readable.limited a.sheet.now in
    named_step g a.sheet.now a.at a.to w.result w.ensures l opening _ e z.requires.within a.terms c.name_of.result (omega (arith, n, z.requires.declared.few))
    (subst (λ (k : ℕ). NameGiven g a.sheet.now k a.terms (record { from = a.at; to = c.in-Some.end }) c.name_of.result) (sym n)
    (c.name_of.ensures g z.requires.there (span-there g a.sheet.now a.at a.to w.result w.ensures l opening _ e z.requires.within)))
