-- What is left of a clause from a word on, as trees: terms and literals that are due.
use Rattle.std.specs.Prelude.{ℕ, ◌≡◌, Bool, true, ◌&&◌, List, ◌++◌}
use Rattle.std.proofs.Math.Option.{some}
use Rattle.theory.specs.Syntax.{Signature, Term, Terms, Atom, Clause, terms_ok, atom_ok, clause_ok}
use Rattle.theory.specs.Grammar.{Word, terms_words, atom_words, clause_words}
use Rattle.naming.specs.FixedTerms.{terms_named, atom_named, clause_named, short_terms, short_atom, short_clause}
use Rattle.shortening.specs.Spans.{words_between}

-- terms that are due and the clause behind them, or an atom that is due and the clause behind it
pub data Left : Type 0 where
  terms_left : Terms → Clause → Left
  atom_left : Atom → Clause → Left

-- their words
abbrev pub left_words : Left → List Word
left_words (terms_left ts c) = terms_words ts ++ clause_words c
left_words (atom_left a c) = atom_words a ++ clause_words c

-- they are over the signature
abbrev pub left_ok : Signature → Left → Bool
left_ok g (terms_left ts c) = terms_ok g ts && clause_ok g c
left_ok g (atom_left a c) = atom_ok g a && clause_ok g c

-- their outermost nameable terms
abbrev pub left_named : Left → List Term
left_named (terms_left ts c) = terms_named ts ++ clause_named c
left_named (atom_left a c) = atom_named a ++ clause_named c

-- names in the place of these
abbrev pub short_left : ℕ → List Term → Left → Left
short_left n named (terms_left ts c) = terms_left (short_terms n named ts) (short_clause n named c)
short_left n named (atom_left a c) = atom_left (short_atom n named a) (short_clause n named c)

-- the words between two places are those of what is left of a clause over the signature
pub record LeftHere (g : Signature) (sheet : List ℕ) (at to : ℕ) : Type 0 where
  pub left : Left
  pub ok : left_ok g left ≡ true
  pub words : words_between g sheet at to ≡ some (left_words left)
