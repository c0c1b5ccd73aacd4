-- `after_word` reads the word, and nothing is due after an unknown one.
use Rattle.clauses.proofs.Held.{count-signature_in}
use Rattle.columns.proofs.words.after_word.Goals as goal

pub after-requires : goal.after-requires
after-requires c = let z = c in
    let k = c.in_ok-code.ensures.coded in
    (z.requires.0.limited, (rw (count-signature_in _ z.requires.0.limited z.args.sheet.now) at k, z.requires.1))
