-- `hold_named` looks for an unknown word, then at the grammar, then at the limits of the mode.
use mathlib.Core.Path.{sym, ◌∙◌}
use Rattle.theory.specs.Grammar.{read_words}
use Rattle.syntax.specs.Signatures.{signature_in}
use Rattle.text.specs.Lines.{part}
use Rattle.theory.specs.Lines.{words_of}
use Rattle.std.specs.Prelude.{Some}
use Rattle.clauses.specs.Clauses.{WordsRead}
use Rattle.clauses.proofs.Refused.{first_refused}
use Rattle.clauses.proofs.Finished.{clause-read}
use Rattle.problem.proofs.NamedLines.{unknown-words, no-clause, over, within, clause-line, between}
use Rattle.problem.proofs.named_lines.hold_named.Goals as goal

pub returns-in_err-w : goal.returns-in_err-w
returns-in_err-w c = let a = c.args in
    let e = c.in_err-w.ensures.ok_part in
    rw (first_refused _ _ _ e c.ok_or.ensures.value c.in_err-w.was c.from_residual.ensures.1) (unknown-words (signature_in a.sheet.now a.signature) (part a.sheet.now a.from a.end) (rw e at c.read_words.ensures))

pub returns-then-not-is_finished : goal.returns-then-not-is_finished
returns-then-not-is_finished c = let a = c.args in
    let g = signature_in a.sheet.now a.signature in
    let v = part a.sheet.now a.from a.end in
    let k : WordsRead g (words_of v) (Some c.in_ok-w.w) = rw c.in_ok-w.ensures.ok_part at c.read_words.ensures in
    no-clause g v k.0 k.1 (clause-read g v k.0 k.1 c.in_ok-w.w k.2 _ (sym c.is_finished.ensures ∙ c.if-not-is_finished.true))

pub is_within-requires : goal.is_within-requires
is_within-requires c = let z = c in
    let a = z.args in
    let g = signature_in a.sheet.now a.signature in
    let v = part a.sheet.now a.from a.end in
    let k : WordsRead g (words_of v) (Some c.in_ok-w.w) = rw c.in_ok-w.ensures.ok_part at c.read_words.ensures in
    record {
      declared = record { readable = z.requires.1.1.0; few = z.requires.1.1.1 };
      within = z.requires.1.0;
      line = clause-line g a.sheet.now a.from a.end k.0 (read_words g k.0).clause k.1
          (clause-read g v k.0 k.1 c.in_ok-w.w k.2 _ (sym c.is_finished.ensures ∙ c.if-not-is_finished.false)) (between g a.sheet.now a.from a.end);
    }

pub returns-then-not-is_within : goal.returns-then-not-is_within
returns-then-not-is_within c = let a = c.args in
    let g = signature_in a.sheet.now a.signature in
    let v = part a.sheet.now a.from a.end in
    let k : WordsRead g (words_of v) (Some c.in_ok-w.w) = rw c.in_ok-w.ensures.ok_part at c.read_words.ensures in
    let r = clause-read g v k.0 k.1 c.in_ok-w.w k.2 _ (sym c.is_finished.ensures ∙ c.if-not-is_finished.false) in
    over g v k.0 k.1 (read_words g k.0).clause r
    (sym (c.is_within.ensures (clause-line g a.sheet.now a.from a.end k.0 (read_words g k.0).clause k.1 r (between g a.sheet.now a.from a.end))) ∙ c.if-not-is_within.true)

pub returns : goal.returns
returns c = let a = c.args in
    let g = signature_in a.sheet.now a.signature in
    let v = part a.sheet.now a.from a.end in
    let k : WordsRead g (words_of v) (Some c.in_ok-w.w) = rw c.in_ok-w.ensures.ok_part at c.read_words.ensures in
    let r = clause-read g v k.0 k.1 c.in_ok-w.w k.2 _ (sym c.is_finished.ensures ∙ c.if-not-is_finished.false) in
    within g v k.0 k.1 (read_words g k.0).clause r
    (sym (c.is_within.ensures (clause-line g a.sheet.now a.from a.end k.0 (read_words g k.0).clause k.1 r (between g a.sheet.now a.from a.end))) ∙ c.if-not-is_within.false)
