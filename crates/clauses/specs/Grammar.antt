-- What is due after the words of a clause.
use Rattle.std.specs.Prelude.{ℕ, zero, suc, Bool, true, false, List, [], ◌∷◌, Some, None}
use Rattle.std.specs.Prelude as rust
use Rattle.std.proofs.Math.Option.{Option, none, some}
use Rattle.theory.specs.Syntax.{Signature}
use Rattle.theory.specs.Grammar.{Word, terms, atom, due_after}
use Rattle.theory.specs.Grammar as theory
use Rattle.clauses.specs.declared.grammar.Due.{Due}
use Rattle.clauses.specs.declared.grammar.Due.TheVariants.{Terms, Atom}

-- what the code holds to be due
abbrev pub due_in : rust.Option Due → Option theory.Due
due_in (Some (Terms n)) = some (terms n)
due_in (Some Atom) = some atom
due_in None = none

-- the number of terms that are due
abbrev pub pending : rust.Option Due → ℕ
pending (Some (Terms n)) = n
pending (Some Atom) = 0
pending None = 0

-- what is due after one word more; nothing where nothing was
abbrev pub due_next : Signature → Option theory.Due → Word → Option theory.Due
due_next g none w = none
due_next g (some d) w = due_after g d w

-- what is due after all the words
unfoldable pub due_after_all : Signature → Option theory.Due → List Word → Option theory.Due
due_after_all g d [] = d
due_after_all g d (w ∷ ws) = due_after_all g (due_next g d w) ws

-- the words may end there
abbrev pub is_finished : Option theory.Due → Bool
is_finished none = false
is_finished (some (terms zero)) = true
is_finished (some (terms (suc n))) = false
is_finished (some atom) = false
