-- A stream of clauses, which a consumer takes one by one. What becomes of them is the consumer's, and so the stream is one thing whatever is done with it.
-- A function that hands on clauses requires `Consumes`, that they come next in some stream and fit, and ensures `Consumed`, that they were taken.
use Rattle.std.specs.Prelude.{ℕ, ◌≡◌, List, ◌++◌}
use Rattle.theory.specs.Lists.{concat_map}
use Rattle.theory.specs.Propositional.{PropClause}
use Rattle.theory.specs.Dimacs.{clause_text}

-- the lines of clauses
abbrev pub texts : List PropClause → List ℕ
texts cs = concat_map clause_text cs

-- what becomes of a stream's clauses: whether all of them fit a consumer that stands so before the first, and how it stands after the first ones
pub record Effect (S : Type 0) : Type 1 where
  pub fits : List PropClause → S → Type 0
  pub after : List PropClause → S → List PropClause → S → Type 0

-- at x, the clauses cs come next in some stream that fits
pub record Consumes {S : Type 0} (e : Effect S) (cs : List PropClause) (x : S) : Type 0 where
  pub clauses : List PropClause
  pub start : S
  pub before : List PropClause
  pub behind : List PropClause
  pub split : clauses ≡ before ++ (cs ++ behind)
  pub so_far : e.after clauses start before x
  pub fits : e.fits clauses start

-- from x to y, the clauses cs were taken, of whatever stream that fits they were the next
abbrev pub Consumed : {S : Type 0} → Effect S → List PropClause → S → S → Type 0
Consumed {S = S} e cs x y =
    (clauses : List PropClause) (start : S) (before behind : List PropClause) → clauses ≡ before ++ (cs ++ behind) → e.fits clauses start → e.after clauses start before x → e.after clauses start (before ++ cs) y
