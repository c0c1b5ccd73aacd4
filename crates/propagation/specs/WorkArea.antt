-- What a work area holds: the values, the trail, the blocks of occurrences, the first values, and the weights of the clauses.
use Rattle.std.specs.Prelude.{◌≡◌, Bool, true, cond, List, [], ◌∷◌, ◌++◌, map, ℕ, zero, suc, ◌+◌, ◌-◌, ◌*◌, ◌/◌, ◌%◌, ◌≤◌, ◌<◌, ◌^◌, length, get_or, set, take, drop, replicate, eqb}
use Rattle.std.proofs.Math.Seq.{slice}
use Rattle.theory.specs.Lists.{all, elem}
use Rattle.theory.specs.Propositional.{PropClause}
use Rattle.theory.specs.Claims.Counts.{is_numbered}
use Rattle.propagation.specs.Clauses.{Distinct, All, weight, holders, coded}

-- the other literal of the same variable
abbrev pub negated : ℕ → ℕ
negated u = cond (eqb (u % 2) 0) (u + 1) (u - 1)

-- the first n entries of the trail, the newest first; an entry is twice a literal that is true, plus 1 for a choice whose other value is untried
abbrev pub trail : List ℕ → ℕ → ℕ → List ℕ
trail w v zero = []
trail w v (suc n) = get_or w (v + n) 0 ∷ trail w v n

-- the values that the literals of a trail give to v variables: 0 unset, 1 yes, 2 no
abbrev pub values : ℕ → List ℕ → List ℕ
values v [] = replicate v 0
values v (t ∷ ts) = set (values v ts) (t / 2 / 2) (1 + t / 2 % 2)

-- each entry's variable is one of the v, and was unset
abbrev pub Fresh : ℕ → List ℕ → Type 0
Fresh v [] = Unit
Fresh v (t ∷ ts) = (t / 2 / 2 < v) × (get_or (values v ts) (t / 2 / 2) 0 ≡ 0) × Fresh v ts

-- the literals that the entries of a trail make false
abbrev pub falses : List ℕ → List ℕ
falses [] = []
falses (t ∷ ts) = negated (t / 2) ∷ falses ts

-- the literals of a clause that are not among the false ones
abbrev pub live : List ℕ → List ℕ → List ℕ
live falses [] = []
live falses (x ∷ xs) = cond (elem x falses) (live falses xs) (x ∷ live falses xs)

-- every literal is one of the v variables'
abbrev pub Within : ℕ → List ℕ → Type 0
Within v [] = Unit
Within v (x ∷ xs) = (x / 2 < v) × Within v xs

-- what the search asks of a clause; so short, the number of literals left is the weight's remainder by 64
pub record ShortClause (v : ℕ) (c : List ℕ) : Type 0 where
  pub distinct : Distinct c
  pub within : Within v c
  pub short : length c < 64

-- the block of literal x: the addresses of the weights of the clauses that have it
pub record Block (v : ℕ) (cs : List (List ℕ)) (w : List ℕ) (x : ℕ) : Type 0 where
  pub after : 7 * v + length cs ≤ get_or w (2 * v + 2 * x) 0
  pub ordered : get_or w (2 * v + 2 * x) 0 ≤ get_or w (2 * v + 2 * x + 1) 0
  pub within : get_or w (2 * v + 2 * x + 1) 0 ≤ length w
  pub holds : slice (get_or w (2 * v + 2 * x) 0) (get_or w (2 * v + 2 * x + 1) 0) w ≡ holders (7 * v) x cs

-- The regions of a work area for v variables and the clauses cs, len entries of whose trail are set, the first head of them false in their clauses:
--   [0, v)                 the values
--   [v, 2v)                the trail
--   [2v, 6v)               for each literal x, where its block starts (2v + 2x) and ends (2v + 2x + 1)
--   [6v, 7v)               the value that each variable is tried at first, 1 yes and 0 no: `Prefers`, below
--   [7v, 7v + length cs)   the weights of the clauses
--   behind them            the blocks, addresses of weights, rising within a block
-- The clauses themselves are not in memory: cs is what the weights and blocks are those of.
pub record WorkHeld (v : ℕ) (cs : List (List ℕ)) (head len : ℕ) (w : List ℕ) : Type 0 where
  -- a weight is below 2 ^ 31
  pub small : v < 2 ^ 18
  pub clauses : All (ShortClause v) cs
  pub room : 7 * v + length cs ≤ length w
  pub head-len : head ≤ len
  pub len-v : len ≤ v
  pub gives : take v w ≡ values v (trail w v len)
  pub fresh : Fresh v (trail w v len)
  pub weights : w ≡ take (7 * v) w ++ (map (weight (falses (trail w v head))) cs ++ drop (7 * v + length cs) w)
  pub blocks : (x : ℕ) → x < 2 * v → Block v cs w x

-- the regions of v variables are in the work area
pub record Regions (v : ℕ) (w : List ℕ) : Type 0 where
  pub small : v < 2 ^ 18
  pub room : 7 * v ≤ length w

-- the first n variables are tried at the values that `first` says
abbrev pub Prefers : ℕ → ℕ → (ℕ → Bool) → List ℕ → Type 0
Prefers v n first w = (x : ℕ) → x < n → get_or w (6 * v + x) 0 ≡ cond (first x) 1 0

-- a work area before a search: it holds the clauses and the first values, and no variable is set
pub record Loaded (v : ℕ) (cs : List PropClause) (first : ℕ → Bool) (w : List ℕ) : Type 0 where
  pub numbered : all (all (is_numbered v)) cs ≡ true
  pub held : WorkHeld v (coded cs) 0 0 w
  pub prefers : Prefers v v first w

-- from w to w', but for the values, the trail and the weights of m clauses, nothing changes
pub record Frame (v m : ℕ) (w w' : List ℕ) : Type 0 where
  pub long : length w' ≡ length w
  pub bounds : (i : ℕ) → 2 * v ≤ i → i < 7 * v → get_or w' i 0 ≡ get_or w i 0
  pub rest : (i : ℕ) → 7 * v + m ≤ i → get_or w' i 0 ≡ get_or w i 0
