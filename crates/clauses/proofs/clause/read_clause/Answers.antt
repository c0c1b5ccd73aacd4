-- `read_clause` looks for an unknown word, then at the grammar, then at the limits.
use mathlib.Core.Path.{sym, ◌∙◌}
use Rattle.syntax.specs.Signatures.{signature_in}
use Rattle.theory.specs.Lines.{words_of}
use Rattle.std.specs.Prelude.{Some}
use Rattle.clauses.specs.Clauses.{WordsRead}
use Rattle.clauses.proofs.Refused.{first_refused}
use Rattle.clauses.proofs.Finished.{unknown-word, no-clause, whole-clause, over, within}
use Rattle.clauses.proofs.clause.read_clause.Goals as goal

pub returns-in_err-w : goal.returns-in_err-w
returns-in_err-w c = let z = c in
    let e = c.in_err-w.ensures.ok_part in
    rw (first_refused _ _ _ e c.ok_or.ensures.value c.in_err-w.was c.from_residual.ensures.1) (unknown-word (signature_in z.args.sheet.now z.args.signature) z.args.value.now (rw e at c.read_words.ensures))

pub returns-then-not-is_finished : goal.returns-then-not-is_finished
returns-then-not-is_finished c = let z = c in let a = z.args in let g = signature_in a.sheet.now a.signature in let w = c.in_ok-w.w in let k : WordsRead g (words_of a.value.now) (Some w) = rw c.in_ok-w.ensures.ok_part at c.read_words.ensures in no-clause g a.value.now k.0 k.1 w k.2 (sym c.is_finished.ensures ∙ c.if-not-is_finished.true)

pub within_limits-requires : goal.within_limits-requires
within_limits-requires c = let z = c in let a = z.args in let g = signature_in a.sheet.now a.signature in let w = c.in_ok-w.w in let k : WordsRead g (words_of a.value.now) (Some w) = rw c.in_ok-w.ensures.ok_part at c.read_words.ensures in (whole-clause a.sheet.now a.signature z.requires.limited a.value.now k.0 k.1 w k.2 (sym c.is_finished.ensures ∙ c.if-not-is_finished.false))

pub returns-then-not-within_limits : goal.returns-then-not-within_limits
returns-then-not-within_limits c = let z = c in let a = z.args in let g = signature_in a.sheet.now a.signature in let w = c.in_ok-w.w in let k : WordsRead g (words_of a.value.now) (Some w) = rw c.in_ok-w.ensures.ok_part at c.read_words.ensures in let s = (whole-clause a.sheet.now a.signature z.requires.limited a.value.now k.0 k.1 w k.2 (sym c.is_finished.ensures ∙ c.if-not-is_finished.false)) in over g a.value.now k.0 k.1 w k.2 s.clause s.read (sym (c.within_limits.ensures s) ∙ c.if-not-within_limits.true)

pub returns : goal.returns
returns c = let z = c in let a = z.args in let g = signature_in a.sheet.now a.signature in let w = c.in_ok-w.w in let k : WordsRead g (words_of a.value.now) (Some w) = rw c.in_ok-w.ensures.ok_part at c.read_words.ensures in let s = (whole-clause a.sheet.now a.signature z.requires.limited a.value.now k.0 k.1 w k.2 (sym c.is_finished.ensures ∙ c.if-not-is_finished.false)) in rw c.kept_codes.ensures (within g a.value.now k.0 k.1 w k.2 s.clause s.read (sym (c.within_limits.ensures s) ∙ c.if-not-within_limits.false))
