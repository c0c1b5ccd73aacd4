-- `read_case` meets its contract: the first line, the size, the tables.
use Prim.Native.Nat.{ℕ, suc, ◌+◌}
use mathlib.Core.Path.{◌≡◌, sym, ap, ◌∙◌}
use Rattle.theory.proofs.Tests.{false_of_not}
use Rattle.std.proofs.lemmas.Bool.{not-false}
use native.Mathlib.Omega.{arith}
use lib.ListN.{drop}
use Rattle.theory.specs.Bytes.{bytes}
use Rattle.theory.specs.Lines.{cut_line, after_key}
use Rattle.text.specs.Lines.{part}
use Rattle.syntax.specs.Signatures.{signature_in}
use Rattle.cases.specs.Reading.{case_of_tables}
use Rattle.cases.proofs.Cuts.{unended, ended}
use Rattle.cases.proofs.Headings.{no-first, other-first, no_second, no_size, tables-left, size-within}
use Rattle.clauses.proofs.Refused.{first_refused}
use Rattle.cases.proofs.reading.read_case.Goals as goal

pub returns-then-first-case : goal.returns-then-first-case
returns-then-first-case c = let a = c.args in
    sym (no-first (signature_in a.sheet.now a.signature) a.case.now (unended a.case.now 0 _ c.line_end-first.ensures c.if-first-case.true))

pub returns-then-ne : goal.returns-then-ne
returns-then-ne c = let a = c.args in
    sym (other-first (signature_in a.sheet.now a.signature) a.case.now _ _ (ended a.case.now 0 _ c.line_end-first.ensures c.if-first-case.false) (false_of_not _ (sym c.ne.ensures ∙ c.if-ne.true)))

pub returns-then-second-case : goal.returns-then-second-case
returns-then-second-case c = let a = c.args in
    let f = c.line_end-first in
    let n : suc f.result ≡ f.result + 1 = omega arith in
    sym (no_second (signature_in a.sheet.now a.signature) a.case.now _ _ (ended a.case.now 0 _ f.ensures c.if-first-case.false) (not-false _ (sym c.ne.ensures ∙ c.if-ne.false))
    (ap (λ (j : ℕ). cut_line (drop j a.case.now)) n ∙ unended a.case.now _ _ c.line_end-second.ensures c.if-second-case.true))

pub returns-in_err-size : goal.returns-in_err-size
returns-in_err-size c = let a = c.args in
    let f = c.line_end-first in
    let n : suc f.result ≡ f.result + 1 = omega arith in
    rw (first_refused _ _ _ c.in_err-size.ensures.ok_part c.ok_or.ensures.value c.in_err-size.was c.from_residual.ensures.1)
    (sym (no_size (signature_in a.sheet.now a.signature) a.case.now _ _ (ended a.case.now 0 _ f.ensures c.if-first-case.false) (not-false _ (sym c.ne.ensures ∙ c.if-ne.false)) _ _
    (ap (λ (j : ℕ). cut_line (drop j a.case.now)) n ∙ ended a.case.now _ _ c.line_end-second.ensures c.if-second-case.false) (sym c.size_of.ensures ∙ c.in_err-size.ensures.ok_part)))

pub read_tables-requires : goal.read_tables-requires
read_tables-requires c = let s = c in
    let line = part s.args.case.now (c.line_end-first.result + 1) c.line_end-second.result in
    let w = size-within (after_key (bytes "size=") line) _ (sym c.size_of.ensures ∙ c.in_ok-size.ensures.ok_part) in
    (omega (arith, c.line_end-second.ensures.within, c.if-second-case.false), (s.requires.0, (w.0, (w.1, s.requires.1))))

pub returns : goal.returns
returns c = let a = c.args in
    let f = c.line_end-first in
    let n : suc f.result ≡ f.result + 1 = omega arith in
    let m : suc c.line_end-second.result ≡ c.line_end-second.result + 1 = omega arith in
    let g = signature_in a.sheet.now a.signature in
    c.read_tables.ensures ∙ ap (λ (j : ℕ). case_of_tables c.in_ok-size.size.0 g (drop j a.case.now)) (sym m)
    ∙ sym (tables-left g a.case.now _ _ (ended a.case.now 0 _ f.ensures c.if-first-case.false) (not-false _ (sym c.ne.ensures ∙ c.if-ne.false)) _ _
    (ap (λ (j : ℕ). cut_line (drop j a.case.now)) n ∙ ended a.case.now _ _ c.line_end-second.ensures c.if-second-case.false) _ (sym c.size_of.ensures ∙ c.in_ok-size.ensures.ok_part))
