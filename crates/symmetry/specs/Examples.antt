-- Examples of document 02's slip 10, from the bytes of their sheets to the answers, as one claim that holds by computation (proofs/AllComputed).
use Rattle.std.specs.Prelude.{ℕ, ◌≡◌, true, false, List, [], ◌∷◌, ◌++◌}
use Rattle.theory.specs.Lists.{concat_map}
use Rattle.theory.specs.Bytes.{bytes}
use Rattle.theory.specs.Syntax.{Signature}
use Rattle.theory.specs.PropClauses.{Part}
use Rattle.theory.specs.Dimacs.{clause_text}
use Rattle.theory.specs.Refusals.{Answer, answer, refused, needing}
use Rattle.theory.specs.Problem.{Problem, read_problem}
use Rattle.theory.specs.Operations.{found, nothing}
use Rattle.theory.specs.Examples.{two_constants, nested_terms}
use Rattle.symmetry.specs.ConstantClauses.{constant_parts}
use Rattle.symmetry.specs.Obeying.{obeys, constants_first}
use Rattle.symmetry.specs.SymmetricOperations.{written_text_with, find_result_with}

-- three constants, a function of one argument after the first
unfoldable pub three_constants : List ℕ
three_constants = bytes "sheet=1\nfuns=4\nfun=a/0\nfun=f/1\nfun=b/0\nfun=c/0\npreds=0\nclauses=0\n"

-- f c is not c, where f is declared before c
unfoldable pub function_before : List ℕ
function_before = bytes "sheet=1\nfuns=2\nfun=f/1\nfun=c/0\npreds=0\nclauses=1\nclause=- = f c c\n"

-- the symbols that a sheet declares
unfoldable pub symbols_of : Answer Problem → Signature
symbols_of (refused r) = []
symbols_of (answer p) = p.symbols

-- the text of the constant clauses of a sheet at a size
unfoldable pub constant_text : List ℕ → ℕ → List ℕ
constant_text sheet s = concat_map clause_text (concat_map (λ (p : Part). p.clauses) (constant_parts s (symbols_of (read_problem sheet))))

-- the table
pub record Examples : Type 0 where
  -- after the function cells' clauses: a takes 1, b takes 1 or 2, b is 2 only if a is 1; and no clause for d = 1
  pub two-text : written_text_with false true two_constants 2 71 ≡ answer (bytes "p cnf 4 9\n1 2 0\n-1 -2 0\n3 4 0\n-3 -4 0\n1 0\n3 4 0\n-4 1 0\n-3 -1 0\n-4 -2 0\n")
  pub two-text-short : written_text_with false true two_constants 2 70 ≡ refused (needing 11 71)
  -- not asked, as document 01 writes it
  pub two-text-plain : written_text_with false false two_constants 2 71 ≡ answer (bytes "p cnf 4 6\n1 2 0\n-1 -2 0\n3 4 0\n-3 -4 0\n-3 -1 0\n-4 -2 0\n")
  -- of three constants at size 3; their variables are 1 to 3, 13 to 15 and 16 to 18
  pub three : constant_text three_constants 3 ≡ bytes "1 0\n13 14 0\n-14 1 0\n16 17 18 0\n-17 1 13 0\n-18 2 14 0\n"
  -- at size 2 the third has no larger range than the second, at size 1 none has more than one result
  pub small : constant_text three_constants 2 ≡ bytes "1 0\n7 8 0\n-8 1 0\n9 10 0\n-10 1 7 0\n"
  pub one : constant_text three_constants 1 ≡ bytes "1 0\n3 0\n4 0\n"
  -- a=1, b=2, c=3 obey whatever f is; a=1, b=3, c=2 do not, and nor do a=1, b=1, c=3 or a=2
  pub obeying : obeys 3 (symbols_of (read_problem three_constants)) (0 ∷ 2 ∷ 2 ∷ 2 ∷ 1 ∷ 2 ∷ []) ≡ true
  pub jumping : obeys 3 (symbols_of (read_problem three_constants)) (0 ∷ 2 ∷ 2 ∷ 2 ∷ 2 ∷ 1 ∷ []) ≡ false
  pub skipping : obeys 3 (symbols_of (read_problem three_constants)) (0 ∷ 2 ∷ 2 ∷ 2 ∷ 0 ∷ 2 ∷ []) ≡ false
  pub not_first : obeys 3 (symbols_of (read_problem three_constants)) (1 ∷ 0 ∷ 0 ∷ 0 ∷ 0 ∷ 0 ∷ []) ≡ false
  -- helpers have no constant clauses: those of a and b come after the helpers' cell clauses
  pub nested-text : written_text_with true true nested_terms 2 458 ≡ answer (bytes "p cnf 20 39\n1 2 0\n-1 -2 0\n3 4 0\n-3 -4 0\n5 6 0\n-5 -6 0\n7 8 0\n-7 -8 0\n9 10 0\n-9 -10 0\n11 12 0\n-11 -12 0\n17 18 0\n-17 -18 0\n19 20 0\n-19 -20 0\n9 0\n11 12 0\n-12 9 0\n-9 -11 -1 17 0\n-9 -11 -2 18 0\n-9 -12 -3 17 0\n-9 -12 -4 18 0\n-10 -11 -5 17 0\n-10 -11 -6 18 0\n-10 -12 -7 17 0\n-10 -12 -8 18 0\n-11 -9 -1 19 0\n-11 -9 -2 20 0\n-11 -10 -3 19 0\n-11 -10 -4 20 0\n-12 -9 -5 19 0\n-12 -9 -6 20 0\n-12 -10 -7 19 0\n-12 -10 -8 20 0\n-17 -19 13 0\n-17 -20 14 0\n-18 -19 15 0\n-18 -20 16 0\n")
  -- W at size 3 is 110 without them and 121 with them: with 120 numbers of work Find told yes is refused, told no it is not
  pub two-told-no : find_result_with false false two_constants 1 3 120 100 ≡ answer (found 2 (bytes "case=1\nsize=2\na=1\nb=2\n"))
  pub two-refused : find_result_with false true two_constants 1 3 120 100 ≡ refused (needing 10 121)
  pub two-told-yes : find_result_with false true two_constants 1 3 121 100 ≡ answer (found 2 (bytes "case=1\nsize=2\na=1\nb=2\n"))
  pub two_none : find_result_with false true two_constants 1 1 121 100 ≡ answer (nothing false)
  -- constants before other functions, and not
  pub two-first : constants_first (symbols_of (read_problem two_constants)) ≡ true
  pub three-first : constants_first (symbols_of (read_problem three_constants)) ≡ false
  -- where a function comes before a constant the least model need not obey, here f=1 1, c=2; the least that does is f=2 1, c=1, in the mode too
  pub before-told-no : find_result_with false false function_before 1 2 1000 100 ≡ answer (found 2 (bytes "case=1\nsize=2\nf=1 1\nc=2\n"))
  pub before-told-yes : find_result_with false true function_before 1 2 1000 100 ≡ answer (found 2 (bytes "case=1\nsize=2\nf=2 1\nc=1\n"))
  pub before-named : find_result_with true true function_before 1 2 1000 100 ≡ answer (found 2 (bytes "case=1\nsize=2\nf=2 1\nc=1\n"))
