-- A solver's reply over v variables: each variable once, and the setting that is stated so.
use Rattle.std.specs.Prelude.{ℕ, Bool, cond, ◌&&◌, List, map, eqb, leb, length}
use Rattle.std.proofs.Math.Option.{Option, none, some}
use Rattle.theory.specs.Lists.{any, all, select, up_from}
use Rattle.theory.specs.Propositional.{PropLiteral}
use Rattle.theory.specs.Program.{◌>>?◌}
use Rattle.solver.specs.SolverLines.{Claim, unsatisfiable, satisfiable, read_claim}

-- the literals of variable n
abbrev pub literals_at : ℕ → List PropLiteral → List PropLiteral
literals_at n ls = select (λ (l : PropLiteral). eqb l.number n) ls

-- each of the variables 1 to v once, and none above v
unfoldable pub each_once : ℕ → List PropLiteral → Bool
each_once v ls = all (λ n. eqb (length (literals_at n ls)) 1) (up_from 1 v) && all (λ (l : PropLiteral). leb l.number v) ls

-- the literals say yes to variable n
abbrev pub say_yes : List PropLiteral → ℕ → Bool
say_yes ls n = any (λ (l : PropLiteral). l.positive && eqb l.number n) ls

-- the setting of v bytes that the literals state
unfoldable pub stated_setting : ℕ → List PropLiteral → List ℕ
stated_setting v ls = map (λ n. cond (say_yes ls n) 1 0) (up_from 1 v)

-- a reply: it claims that there is no model, or it states a setting
pub data Reply : Type 0 where
  claims_none : Reply
  states : List ℕ → Reply

-- the reply that a claim is, over v variables
abbrev pub reply_of : ℕ → Claim → Option Reply
reply_of v unsatisfiable = some claims_none
reply_of v (satisfiable ls) = cond (each_once v ls) (some (states (stated_setting v ls))) none

-- the reply of a text; none where 18 holds: lines not as laid out, or a variable missing, doubled or above v
unfoldable pub read_reply : ℕ → List ℕ → Option Reply
read_reply v text = read_claim text >>? λ c. reply_of v c
