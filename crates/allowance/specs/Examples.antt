-- Find with an allowance: the table of examples, as one claim that holds by computation (proofs/AllComputed).
use Rattle.std.specs.Prelude.{ℕ, ◌≡◌, Bool, true, false, List, [], ◌∷◌, ◌++◌}
use Rattle.theory.specs.Bytes.{bytes}
use Rattle.theory.specs.Refusals.{Answer, answer, refused, unplaced, needing}
use Rattle.theory.specs.Problem.{read_problem}
use Rattle.theory.specs.Operations.{Search, found, nothing}
use Rattle.theory.specs.Examples.{two_constants, no_fixed_point}
use Rattle.naming.specs.Examples.{many}
use Rattle.symmetry.specs.Examples.{function_before}
use Rattle.allowance.specs.AllowedSearch.{counted_search}
use Rattle.allowance.specs.AllowedFind.{Stoppable, finished, stopped, find_within, allowed_output, allowed_work}
use Rattle.allowance.specs.FinderProgram.{finder}

-- two predicates of which each element has exactly one
unfoldable pub either_or : List ℕ
either_or = bytes "sheet=1\nfuns=0\npreds=2\npred=p/1\npred=q/1\nclauses=2\nclause=+ p A + q A\nclause=- p A - q A\n"

-- three constants that differ
unfoldable pub crowded : List ℕ
crowded = bytes "sheet=1\nfuns=3\nfun=a/0\nfun=b/0\nfun=c/0\npreds=0\nclauses=3\nclause=- = a b\nclause=- = b c\nclause=- = a c\n"

-- a predicate of which nothing is said
unfoldable pub unsaid : List ℕ
unsaid = bytes "sheet=1\nfuns=0\npreds=1\npred=p/1\nclauses=0\n"

-- a search with an allowance, plain and without the constant clauses
unfoldable pub plainly : List ℕ → ℕ → ℕ → ℕ → Answer (Stoppable Search)
plainly sheet low high allowance = find_within false false sheet low high allowance 16000 100

-- a sheet with a function before its constant, which is no fixed point of it; with both switches
unfoldable pub function_first : Bool → Bool → ℕ → Answer (Stoppable Search)
function_first named symmetry allowance = find_within named symmetry function_before 1 2 allowance 16000 100

-- the choices that a search makes without an allowance
unfoldable pub choices_in : List ℕ → ℕ → ℕ → ℕ
choices_in sheet low high = elim (read_problem sheet) [ answer p ↦ (counted_search false p low high).choices | refused r ↦ 0 ]

-- the table
pub record Examples : Type 0 where
  -- what is forced is no choice: f 1 = 2 and f 2 = 1 at size 2; at size 3 there is one
  pub fixed-0 : plainly no_fixed_point 1 3 0 ≡ answer (finished (found 2 (bytes "case=1\nsize=2\nf=2 1\n")) 0)
  pub fixed-3-0 : plainly no_fixed_point 3 3 0 ≡ answer (stopped 3 0)
  -- p 1 = 0 and p 2 = 0 are chosen, q is forced
  pub either-1 : plainly either_or 2 2 1 ≡ answer (stopped 2 1)
  pub either-2 : plainly either_or 2 2 2 ≡ answer (finished (found 2 (bytes "case=1\nsize=2\np=0 0\nq=1 1\n")) 2)
  pub either-most : plainly either_or 2 2 1000000 ≡ answer (finished (found 2 (bytes "case=1\nsize=2\np=0 0\nq=1 1\n")) 2)
  -- a choice is made also where all clauses are true already
  pub unsaid-2 : plainly unsaid 3 3 2 ≡ answer (stopped 3 2)
  pub unsaid-3 : plainly unsaid 3 3 3 ≡ answer (finished (found 3 (bytes "case=1\nsize=3\np=0 0 0\n")) 3)
  -- 24 stands after 8, and before 10 and 11
  pub too_many : plainly either_or 2 2 1000001 ≡ refused (unplaced 24)
  pub size-first : plainly either_or 0 2 1000001 ≡ refused (unplaced 8)
  pub work-later : find_within false false either_or 2 2 1000001 0 0 ≡ refused (unplaced 24)
  pub work-within : find_within false false either_or 2 2 1000000 0 0 ≡ refused (needing 10 64)
  -- in the mode 21 stands before both
  pub helpers-first : find_within true false (many "+ p f f f f f a") 0 9 1000001 0 0 ≡ refused (unplaced 21)
  -- none with its number: the other value of a choice is no choice
  pub none_1 : plainly crowded 1 2 0 ≡ answer (stopped 2 0)
  pub none_2 : plainly crowded 1 2 1 ≡ answer (finished (nothing false) 1)
  -- what is left is handed on from size to size
  pub handed_on-1 : plainly crowded 1 3 1 ≡ answer (stopped 3 1)
  pub handed_on-2 : plainly crowded 1 3 2 ≡ answer (stopped 3 2)
  pub handed_on-3 : plainly crowded 1 3 3 ≡ answer (finished (found 3 (bytes "case=1\nsize=3\na=1\nb=2\nc=3\n")) 3)
  pub counted : choices_in crowded 1 3 ≡ 3
  -- the number depends on both switches
  pub crowded-symmetry : find_within false true crowded 1 3 0 16000 100 ≡ answer (finished (found 3 (bytes "case=1\nsize=3\na=1\nb=2\nc=3\n")) 0)
  pub before-plain : function_first false false 1 ≡ answer (finished (found 2 (bytes "case=1\nsize=2\nf=1 1\nc=2\n")) 1)
  pub before-named-2 : function_first true false 2 ≡ answer (stopped 2 2)
  pub before-named-3 : function_first true false 3 ≡ answer (finished (found 2 (bytes "case=1\nsize=2\nf=1 1\nc=2\n")) 3)
  pub before-symmetry-0 : function_first false true 0 ≡ answer (stopped 2 0)
  pub before-symmetry-1 : function_first false true 1 ≡ answer (finished (found 2 (bytes "case=1\nsize=2\nf=2 1\nc=1\n")) 1)
  pub before-both : function_first true true 1 ≡ answer (finished (found 2 (bytes "case=1\nsize=2\nf=2 1\nc=1\n")) 1)
  -- stopped leaves the output, and zeros in work
  pub output : allowed_output (plainly either_or 2 2 1) (7 ∷ 8 ∷ []) ≡ 7 ∷ 8 ∷ []
  pub work : allowed_work (plainly either_or 2 2 1) (7 ∷ 8 ∷ []) ≡ 0 ∷ 0 ∷ []
  -- the program: document 01's example; its third line, and an 8 where that is missing or not so laid out, before the sheet is read
  pub program-two : finder (bytes "low=1\nhigh=3\nsym=no\nallow=1000000\n" ++ two_constants) ≡ bytes "answer=found\ncase=1\nsize=2\na=1\nb=2\n"
  pub program-before-no : finder (bytes "low=1\nhigh=2\nsym=no\nallow=1\n" ++ function_before) ≡ bytes "answer=found\ncase=1\nsize=2\nf=1 1\nc=2\n"
  pub program-before-yes : finder (bytes "low=1\nhigh=2\nsym=yes\nallow=1\n" ++ function_before) ≡ bytes "answer=found\ncase=1\nsize=2\nf=2 1\nc=1\n"
  pub program-two-lines : finder (bytes "low=1\nhigh=3\nallow=1000000\n" ++ two_constants) ≡ bytes "answer=refused\nreason=8\nline=0\ncolumn=0\n"
  pub program-capital : finder (bytes "low=1\nhigh=3\nsym=Yes\nallow=0\nsheet=2\n") ≡ bytes "answer=refused\nreason=8\nline=0\ncolumn=0\n"
  pub program-space : finder (bytes "low=1\nhigh=3\nsym=no \nallow=0\nsheet=2\n") ≡ bytes "answer=refused\nreason=8\nline=0\ncolumn=0\n"
  -- its fourth line, stopped, and an 8 where the line is missing or not so laid out, before the sheet is read
  pub program-found : finder (bytes "low=2\nhigh=2\nsym=no\nallow=2\n" ++ either_or) ≡ bytes "answer=found\ncase=1\nsize=2\np=0 0\nq=1 1\n"
  pub program-smaller : finder (bytes "low=1\nhigh=2\nsym=no\nallow=1\n" ++ either_or) ≡ bytes "answer=found\ncase=1\nsize=1\np=0\nq=1\n"
  pub program-stopped : finder (bytes "low=2\nhigh=8\nsym=yes\nallow=1\n" ++ either_or) ≡ bytes "answer=stopped\nsize=2\n"
  pub program-none : finder (bytes "low=1\nhigh=2\nsym=yes\nallow=0\n" ++ crowded) ≡ bytes "answer=none\nsettled=no\n"
  pub program-most : finder (bytes "low=2\nhigh=2\nsym=no\nallow=1000000\n" ++ either_or) ≡ bytes "answer=found\ncase=1\nsize=2\np=0 0\nq=1 1\n"
  pub program-24 : finder (bytes "low=2\nhigh=2\nsym=no\nallow=9999999\n" ++ either_or) ≡ bytes "answer=refused\nreason=24\nline=0\ncolumn=0\n"
  pub program-sheet-first : finder (bytes "low=2\nhigh=2\nsym=no\nallow=9999999\nsheet=2\n") ≡ bytes "answer=refused\nreason=2\nline=1\ncolumn=7\n"
  pub program-missing : finder (bytes "low=2\nhigh=2\nsym=no\n" ++ either_or) ≡ bytes "answer=refused\nreason=8\nline=0\ncolumn=0\n"
  pub program-leading : finder (bytes "low=2\nhigh=2\nsym=no\nallow=02\nsheet=2\n") ≡ bytes "answer=refused\nreason=8\nline=0\ncolumn=0\n"
  pub program-zeros : finder (bytes "low=2\nhigh=2\nsym=no\nallow=00\nsheet=2\n") ≡ bytes "answer=refused\nreason=8\nline=0\ncolumn=0\n"
  pub program-empty : finder (bytes "low=2\nhigh=2\nsym=no\nallow=\nsheet=2\n") ≡ bytes "answer=refused\nreason=8\nline=0\ncolumn=0\n"
  pub program-eight : finder (bytes "low=2\nhigh=2\nsym=no\nallow=10000000\nsheet=2\n") ≡ bytes "answer=refused\nreason=8\nline=0\ncolumn=0\n"
