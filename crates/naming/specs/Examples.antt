-- Examples of document 02's slip 9, from the bytes of their sheets to the answers, as one claim that holds by computation (proofs/Examples).
use Rattle.std.specs.Prelude.{ℕ, ◌≡◌, true, false, List, [], ◌∷◌, ◌++◌, map, length}
use Prim.Native.String.{String}
use Rattle.theory.specs.Bytes.{bytes}
use Rattle.theory.specs.Syntax.{Origin, declared, helper, Symbol, Term, variable, apply, empty, cons, equal, holds, Clause}
use Rattle.theory.specs.Refusals.{Refusal, Answer, answer, refused, at_place, unplaced, needing}
use Rattle.theory.specs.Problem.{Problem}
use Rattle.theory.specs.Columns.{placed_problem}
use Rattle.theory.specs.Operations.{found, nothing}
use Rattle.theory.specs.Examples.{two_constants, nested_terms}
use Rattle.naming.specs.FixedTerms.{named_terms}
use Rattle.naming.specs.NamedProblem.{in_mode}
use Rattle.naming.specs.NamedReading.{placed_named}
use Rattle.naming.specs.NamedOperations.{named_written_text, named_read_back_text, named_find_result, find_result_in}

-- two terms of six words in one clause: eleven variables plain, six and two in the mode
unfoldable pub two_towers : List ℕ
two_towers = bytes "sheet=1\nfuns=3\nfun=f/1\nfun=g/1\nfun=a/0\npreds=1\npred=r/2\nclauses=2\nclause=- = f A A\nclause=+ r f f f f f a g g g g g a\n"

-- ten variables plain, eleven in the helper's own clause
unfoldable pub one_tower : List ℕ
one_tower = bytes "sheet=1\nfuns=2\nfun=f/1\nfun=a/0\npreds=0\nclauses=1\nclause=+ = f f f f f f f f f f a a\n"

-- the term f a outermost on both lines and in both places, and once within f f a
unfoldable pub shared : List ℕ
shared = bytes "sheet=1\nfuns=2\nfun=f/1\nfun=a/0\npreds=1\npred=p/1\nclauses=2\nclause=+ = f a A - p f f a\nclause=+ p f a - p f A\n"

-- one clause of 17 literals
unfoldable pub seventeen : List ℕ
seventeen = bytes "sheet=1\nfuns=0\npreds=1\npred=q/0\nclauses=1\nclause=+ q + q + q + q + q + q + q + q + q + q + q + q + q + q + q + q + q\n"

-- four clauses of eight different terms each, and a last clause
unfoldable pub many : String → List ℕ
many last =
    bytes "sheet=1\nfuns=3\nfun=a/0\nfun=f/1\nfun=h/2\npreds=1\npred=p/1\nclauses=5\n"
    ++ (bytes "clause=+ p f a + p f f a + p f f f a + p f f f f a + p h a a + p h a f a + p h a f f a + p h a f f f a\n"
    ++ (bytes "clause=+ p h f a a + p h f a f a + p h f a f f a + p h f f a a + p h f f a f a + p h f f a f f a + p h f f f a a + p h f f f a f a\n"
    ++ (bytes "clause=+ p f h a a + p f h a f a + p f h a f f a + p f h f a a + p f h f a f a + p f h f a f f a + p f h f f a a + p f h f f a f a\n"
    ++ (bytes "clause=+ p f f h a a + p f f h a f a + p f f h a f f a + p f f h f a a + p f f h f a f a + p f f h f a f f a + p f f h f f a a + p f f h f f a f a\n"
    ++ (bytes "clause=" ++ (bytes last ++ bytes "\n"))))))

-- the origins of the symbols of the mode
unfoldable pub origins : Answer Problem → List Origin
origins (refused r) = []
origins (answer p) = map (λ (f : Symbol). f.origin) (in_mode p).symbols

-- the clauses of the mode
unfoldable pub clauses_in : Answer Problem → List Clause
clauses_in (refused r) = []
clauses_in (answer p) = (in_mode p).clauses

-- how many named terms a sheet has, or its refusal
unfoldable pub helpers_in : Answer Problem → Answer ℕ
helpers_in (refused r) = refused r
helpers_in (answer p) = answer (length (named_terms p.clauses))

-- refusal n at a line and a column
unfoldable pub at : ℕ → ℕ → ℕ → Refusal
at n l c = at_place n (record { line = l; column = c })

-- the constant at place i
unfoldable pub constant : ℕ → Term
constant i = apply i empty

-- the table
pub record Examples : Type 0 where
  -- f 0, a 1, b 2, p 3, helpers 4 and 5: + = 4 f a b, + = 5 f b a, + p 4 5
  pub nested-origins : origins (placed_named nested_terms) ≡ declared ∷ declared ∷ declared ∷ declared ∷ helper ∷ helper ∷ []
  pub nested-clauses : clauses_in (placed_named nested_terms)
      ≡ (record { sign = true; atom = equal (constant 4) (apply 0 (cons (constant 1) (cons (constant 2) empty))) } ∷ [])
      ∷ (record { sign = true; atom = equal (constant 5) (apply 0 (cons (constant 2) (cons (constant 1) empty))) } ∷ [])
      ∷ (record { sign = true; atom = holds 3 (cons (constant 4) (cons (constant 5) empty)) } ∷ []) ∷ []
  -- the helpers' cell clauses come after those of the declared functions, their numbers after those of the predicate
  pub nested-text : named_written_text nested_terms 1 66 ≡ answer (bytes "p cnf 6 8\n1 0\n2 0\n3 0\n5 0\n6 0\n-2 -3 -1 5 0\n-3 -2 -1 6 0\n-5 -6 4 0\n")
  pub nested-text-2 : named_written_text nested_terms 2 438 ≡ answer (bytes "p cnf 20 36\n1 2 0\n-1 -2 0\n3 4 0\n-3 -4 0\n5 6 0\n-5 -6 0\n7 8 0\n-7 -8 0\n9 10 0\n-9 -10 0\n11 12 0\n-11 -12 0\n17 18 0\n-17 -18 0\n19 20 0\n-19 -20 0\n-9 -11 -1 17 0\n-9 -11 -2 18 0\n-9 -12 -3 17 0\n-9 -12 -4 18 0\n-10 -11 -5 17 0\n-10 -11 -6 18 0\n-10 -12 -7 17 0\n-10 -12 -8 18 0\n-11 -9 -1 19 0\n-11 -9 -2 20 0\n-11 -10 -3 19 0\n-11 -10 -4 20 0\n-12 -9 -5 19 0\n-12 -9 -6 20 0\n-12 -10 -7 19 0\n-12 -10 -8 20 0\n-17 -19 13 0\n-17 -20 14 0\n-18 -19 15 0\n-18 -20 16 0\n")
  pub nested-text-short : named_written_text nested_terms 1 65 ≡ refused (needing 11 66)
  -- a setting has the helpers' cells, a case does not show them; 13 and 14 look at them
  pub nested-back : named_read_back_text nested_terms 1 (1 ∷ 1 ∷ 1 ∷ 0 ∷ 1 ∷ 1 ∷ []) 30 ≡ answer (bytes "case=1\nsize=1\nf=1\na=1\nb=1\np=0\n")
  pub nested-back-13 : named_read_back_text nested_terms 1 (1 ∷ 1 ∷ 1 ∷ 0 ∷ []) 30 ≡ refused (unplaced 13)
  pub nested-back-14 : named_read_back_text nested_terms 1 (1 ∷ 1 ∷ 1 ∷ 0 ∷ 1 ∷ 0 ∷ []) 30 ≡ refused (unplaced 14)
  pub nested-find : named_find_result nested_terms 1 3 2000 100 ≡ answer (found 1 (bytes "case=1\nsize=1\nf=1\na=1\nb=1\np=1\n"))
  -- without such terms the mode is the plain one
  pub no-terms : find_result_in true two_constants 1 3 16000 100 ≡ find_result_in false two_constants 1 3 16000 100
  -- refused plain, taken in the mode, and the other way round
  pub two-plain : helpers_in (placed_problem two_towers) ≡ refused (at 7 10 1)
  pub two-named : helpers_in (placed_named two_towers) ≡ answer 2
  pub two-find : named_find_result two_towers 1 2 1394 100 ≡ answer (found 2 (bytes "case=1\nsize=2\nf=2 1\ng=1 1\na=1\nr=0 0 1 0\n"))
  pub two-work : named_find_result two_towers 1 2 1393 100 ≡ refused (needing 10 1394)
  pub two_none : named_find_result two_towers 1 1 2000 100 ≡ answer (nothing false)
  pub one_plain : helpers_in (placed_problem one_tower) ≡ answer 1
  pub one-named : helpers_in (placed_named one_tower) ≡ refused (at 7 7 1)
  -- f a and f f a: two helpers; f a stays inside f f a
  pub shared-clauses : clauses_in (placed_named shared)
      ≡ (record { sign = true; atom = equal (constant 3) (apply 0 (cons (constant 1) empty)) } ∷ [])
      ∷ (record { sign = true; atom = equal (constant 4) (apply 0 (cons (apply 0 (cons (constant 1) empty)) empty)) } ∷ [])
      ∷ (record { sign = true; atom = equal (constant 3) (variable 0) } ∷ record { sign = false; atom = holds 2 (cons (constant 4) empty) } ∷ [])
      ∷ (record { sign = true; atom = holds 2 (cons (constant 3) empty) } ∷ record { sign = false; atom = holds 2 (cons (apply 0 (cons (variable 0) empty)) empty) } ∷ []) ∷ []
  -- the column of a 7 is the 17th sign's plain, 1 in the mode
  pub seventeen-plain : helpers_in (placed_problem seventeen) ≡ refused (at 7 6 72)
  pub seventeen-named : helpers_in (placed_named seventeen) ≡ refused (at 7 6 1)
  -- 32 helpers are taken, 33 are 21; a 5, 6 or 7 on the last line wins over 21
  pub many-32 : helpers_in (placed_named (many "+ p f a")) ≡ answer 32
  pub many-33 : helpers_in (placed_named (many "+ p f f f f f a")) ≡ refused (unplaced 21)
  pub many-7 : helpers_in (placed_named (many "+ p f f f f f a + p f f f f f f f f f f a")) ≡ refused (at 7 13 1)
  pub many-6 : helpers_in (placed_named (many "+ p f f f f f a a")) ≡ refused (at 6 13 24)
  -- 21 wins over 8
  pub many-8 : named_find_result (many "+ p f f f f f a") 0 9 0 0 ≡ refused (unplaced 21)
