-- Walk: the walk finds the valuation of the least model, or nothing exactly if there is no model; and unit propagation ends the same in any order.
use Rattle.std.specs.Prelude.{ℕ, zero, pred, ◌<◌, ◌≡◌, true, List, ◌∷◌, set}
use Rattle.std.proofs.Math.Option.{Option, none, some}
use Rattle.theory.specs.Lists.{all}
use Rattle.theory.specs.Syntax.{clause_ok}
use Rattle.theory.specs.Propositional.{PropLiteral, PropClause}
use Rattle.theory.specs.Valuation.{read_back}
use Rattle.theory.specs.Problem.{Problem}
use Rattle.theory.specs.Least.{least_model}
use Rattle.theory.specs.Walk.{Partial, failed, forces, quiet, status, searched}

-- the interpretation that a valuation found is read back as
abbrev pub read_back_found : ℕ → Problem → Option (List ℕ) → Option (List ℕ)
read_back_found s p none = none
read_back_found s p (some σ) = some (read_back s p.symbols σ)

-- the clause is in the list
pub data Member (c : PropClause) : List PropClause → Type 0 where
  here : {cs : List PropClause} → Member c (c ∷ cs)
  there : {d : PropClause} {cs : List PropClause} → Member c cs → Member c (d ∷ cs)

-- how unit propagation ends: a wholly false clause, or a partial valuation under which every clause is quiet
pub data End : Type 0 where
  conflict : End
  stable : Partial → End

-- a run of unit propagation; each step may take any clause that forces a literal
pub data Propagates (cs : List PropClause) : Partial → End → Type 0 where
  fails : {π : Partial} (c : PropClause) → Member c cs → status π c ≡ failed → Propagates cs π conflict
  stops : {π : Partial} → ((c : PropClause) → Member c cs → status π c ≡ quiet) → Propagates cs π (stable π)
  steps : {π : Partial} {o : End} (c : PropClause) (l : PropLiteral) → Member c cs → status π c ≡ forces l
      → Propagates cs (set π (pred l.number) (some l.positive)) o → Propagates cs π o

-- the theorem
pub record Walk : Type 0 where
  -- what the walk finds is read back as the least model
  pub least : (s : ℕ) (p : Problem) → zero < s → all (clause_ok p.symbols) p.clauses ≡ true → read_back_found s p (searched s p).answer ≡ least_model s p
  -- two runs of unit propagation from the same partial valuation end the same
  pub any_order : (cs : List PropClause) (π : Partial) (a b : End) → Propagates cs π a → Propagates cs π b → a ≡ b
