-- Clauses as the search has them: lists of the codes of their literals, each literal once; and the weight of a clause where some literals are false.
use Rattle.std.specs.Prelude.{◌≡◌, false, cond, List, [], ◌∷◌, map, ℕ, suc, pred, ◌+◌, ◌*◌}
use Rattle.theory.specs.Lists.{elem}
use Rattle.theory.specs.Propositional.{PropLiteral, PropClause}

-- the code of a literal: 2x says yes to variable x, 2x + 1 says no, where the first variable is 0
abbrev pub code : PropLiteral → ℕ
code l = 2 * pred l.number + cond l.positive 0 1

-- the codes of a clause, repeats included
abbrev pub codes : PropClause → List ℕ
codes c = map code c

-- a clause with the literal u, once
abbrev pub insert : ℕ → List ℕ → List ℕ
insert u d = cond (elem u d) d (u ∷ d)

-- a clause with each of its literals once
abbrev pub once : List ℕ → List ℕ
once [] = []
once (u ∷ us) = insert u (once us)

-- the clauses as the search has them
abbrev pub coded : List PropClause → List (List ℕ)
coded cs = map (λ c. once (codes c)) cs

-- no literal twice
abbrev pub Distinct : List ℕ → Type 0
Distinct [] = Unit
Distinct (x ∷ xs) = (elem x xs ≡ false) × Distinct xs

-- what holds of each clause of a list
abbrev pub All : (List ℕ → Type 0) → List (List ℕ) → Type 0
All P [] = Unit
All P (c ∷ cs) = P c × All P cs

-- the sum of 64 * x + 1 over the literals x of a clause that are not among the false ones: the number of such literals,
-- and 64 times their sum, which names the literal where there is one
abbrev pub weight : List ℕ → List ℕ → ℕ
weight falses [] = 0
weight falses (x ∷ xs) = cond (elem x falses) 0 (64 * x + 1) + weight falses xs

-- the addresses of the clauses that have x, where the first clause's address is a
abbrev pub holders : ℕ → ℕ → List (List ℕ) → List ℕ
holders a x [] = []
holders a x (c ∷ cs) = cond (elem x c) (a ∷ holders (suc a) x cs) (holders (suc a) x cs)
