use Prim.Native.Nat.{◌+◌, ◌-◌}
use Rattle.theory.specs.Grammar.{clause_words}
use Rattle.syntax.specs.Signatures.{signature_in}
use Rattle.naming.specs.FixedTerms.{helper_clause}
use Rattle.shortening.specs.Tables.{term_at}
use Rattle.shortening.proofs.HelperWalk.{ReadTo}
use Rattle.shortening.proofs.helpers.helper_words.Given as goal

-- `helper_words` takes + = constant, then the words of the term.
abbrev pub invariant-loop-at : goal.invariant-loop-at
invariant-loop-at l =
    ReadTo (signature_in l.sheet l.signature) (signature_in l.sheet l.all) l.sheet (clause_words (helper_clause l.place (term_at (signature_in l.sheet l.signature) l.sheet (record { from = l.initial.at; to = l.to })))) l.to l.at l.words

abbrev pub decreases-loop-at : goal.decreases-loop-at
decreases-loop-at l =
    l.to + 1 - l.at
