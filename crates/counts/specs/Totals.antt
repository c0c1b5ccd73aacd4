-- What parts of the written clauses add to I and L.
use Rattle.std.specs.Prelude.{ℕ, ◌+◌, ◌-◌, ◌*◌, ◌^◌, ◌≤◌, min, ◌≡◌, List, map}
use Rattle.theory.specs.Lists.{sum, up_from}
use Rattle.theory.specs.PropClauses.{Part}
use Rattle.counts.specs.declared.Counts.{Counts}

-- r is what the parts add, no more than `most` to either
pub record TotalOf (ps : List Part) (most : ℕ) (r : Counts) : Type 0 where
  pub instances : r.instances ≡ sum (map (λ (p : Part). p.clause_count) ps)
  pub literals : r.literals ≡ sum (map (λ (p : Part). p.literal_count) ps)
  pub few-instances : r.instances ≤ most
  pub few-literals : r.literals ≤ most

-- what the clauses of the i-th constant, counted from 1, add to I and L at size s
abbrev pub clauses_of : ℕ → ℕ → ℕ
clauses_of s i = min i s

abbrev pub literals_of : ℕ → ℕ → ℕ
literals_of s i = min i s + (min i s - 1) * i

-- r is what those of the first n constants add
pub record ConstantsTotal (s n : ℕ) (r : Counts) : Type 0 where
  pub instances : r.instances ≡ sum (map (clauses_of s) (up_from 1 n))
  pub literals : r.literals ≡ sum (map (literals_of s) (up_from 1 n))
  pub few-instances : r.instances ≤ n * 2 ^ 9
  pub few-literals : r.literals ≤ n * 2 ^ 9
