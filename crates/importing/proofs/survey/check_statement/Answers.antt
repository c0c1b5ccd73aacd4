-- `check_statement` looks at the count, the occurrences and the limits, in that order.
use Prim.Native.Nat.{◌<◌}
use native.Mathlib.Omega.{arith}
use Rattle.std.proofs.lemmas.Result.{err_from_is_err_and}
use Rattle.importing.proofs.Checking.{entries_fit-is, whole-clause, too_many, occurrence-faulty, stands, too-wordy, too_large, no-fault}
use Rattle.importing.proofs.survey.check_statement.Goals.{then-w-gt-MAX_WORDS-via-then-w-gt-MAX_WORDS, then-w-gt-MAX_WORDS-via-else-w-gt-MAX_WORDS+then-not-within_limits}
use Rattle.importing.proofs.survey.check_statement.Goals as goal

pub returns-then-count-ge-MAX_CLAUSES-clause-checked : goal.returns-then-count-ge-MAX_CLAUSES-clause-checked
returns-then-count-ge-MAX_CLAUSES-clause-checked c = λ at end w. too_many _ at _ _ end _ w _ c.if-count-ge-MAX_CLAUSES.true

pub returns-in_err-table-clause-checked : goal.returns-in_err-table-clause-checked
returns-in_err-table-clause-checked c = let p = err_from_is_err_and c.from_residual.result c.from_residual.ensures.1 in rw (p.1, p.2) (λ at end w. occurrence-faulty _ at _ _ end _ w _ (omega (arith, c.if-count-ge-MAX_CLAUSES.false)) _ (rw c.in_err-table.was at c.note_statement.ensures.noted))

pub words_of-w-requires : goal.words_of-w-requires
words_of-w-requires c = let z = c in let p = z.requires.0 in let k = stands _ p.at _ _ p.end z.args.count p.whole _ (omega (arith, c.if-count-ge-MAX_CLAUSES.false)) _ (rw c.in_ok-table.was at c.note_statement.ensures.noted) p.symbols p.table in (k.readable, (k.rest, entries_fit-is _ _ _ _ k))

pub within_limits-requires : goal.within_limits-requires
within_limits-requires c = let z = c in let p = z.requires.0 in let k = stands _ p.at _ _ p.end z.args.count p.whole _ (omega (arith, c.if-count-ge-MAX_CLAUSES.false)) _ (rw c.in_ok-table.was at c.note_statement.ensures.noted) p.symbols p.table in whole-clause _ _ _ _ k _ c.words_of-w.ensures c.if-w-gt-MAX_WORDS.false

pub returns-then-w-gt-MAX_WORDS-clause-checked : goal.returns-then-w-gt-MAX_WORDS-clause-checked
returns-then-w-gt-MAX_WORDS-clause-checked c = λ at end w.
    let few : c.args.count < 64 = omega (arith, c.if-count-ge-MAX_CLAUSES.false) in
    let n = (rw c.in_ok-table.was at c.note_statement.ensures.noted) in
    elim c.then-w-gt-MAX_WORDS.branch [
      | then-w-gt-MAX_WORDS-via-then-w-gt-MAX_WORDS b ↦ too-wordy _ at _ _ end _ w _ few _ n _ c.words_of-w.ensures b.if-w-gt-MAX_WORDS.true
      | then-w-gt-MAX_WORDS-via-else-w-gt-MAX_WORDS+then-not-within_limits b ↦ too_large _ at _ _ end _ w _ few _ n _ c.words_of-w.ensures b.if-w-gt-MAX_WORDS.false _ b.within_limits.ensures b.if-not-within_limits.true
    ]

pub returns-clause-checked : goal.returns-clause-checked
returns-clause-checked c = λ at end w. no-fault _ at _ _ end _ w _ (omega (arith, c.if-count-ge-MAX_CLAUSES.false)) _ (rw c.in_ok-table.was at c.note_statement.ensures.noted) _ c.words_of-w.ensures c.if-w-gt-MAX_WORDS.false _ c.within_limits.ensures c.if-not-within_limits.false _ c.kept_codes.ensures
