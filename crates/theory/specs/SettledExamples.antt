-- The mark settled by example, from the bytes of a sheet to what is found, as one claim that holds by computation (proofs/SettledExamples).
use Rattle.std.specs.Prelude.{ℕ, ◌≡◌, true, false, List}
use Rattle.theory.specs.Bytes.{bytes}
use Rattle.theory.specs.Refusals.{answer}
use Rattle.theory.specs.Operations.{found, nothing}
use Rattle.theory.specs.Examples.{one_clause, no_fixed_point, find_between}

-- one constant, of which p holds and does not hold
unfoldable pub one_constant : List ℕ
one_constant = bytes "sheet=1\nfuns=1\nfun=a/0\npreds=1\npred=p/1\nclauses=2\nclause=+ p a\nclause=- p a\n"

-- two constants that differ, and all elements equal
unfoldable pub differ_and_equal : List ℕ
differ_and_equal = bytes "sheet=1\nfuns=2\nfun=a/0\nfun=b/0\npreds=0\nclauses=2\nclause=- = a b\nclause=+ = A B\n"

-- the table
pub record SettledExamples : Type 0 where
  -- all elements are equal: no case from size 3 on is a model, that of size 1 is
  pub from-three : find_between (one_clause "+ = A B") 3 5 ≡ answer (nothing false)
  pub at_one : find_between (one_clause "+ = A B") 1 1 ≡ answer (found 1 (bytes "case=1\nsize=1\n"))
  -- without constants size 1 is enough, and needed
  pub none-to-one : find_between (one_clause "- = A B") 1 1 ≡ answer (nothing true)
  pub none-from-two : find_between (one_clause "- = A B") 2 8 ≡ answer (nothing false)
  -- so it is with one constant
  pub one-to-one : find_between one_constant 1 1 ≡ answer (nothing true)
  pub one-from-two : find_between one_constant 2 3 ≡ answer (nothing false)
  -- two constants: sizes 1 and 2, each of them
  pub two-to-one : find_between differ_and_equal 1 1 ≡ answer (nothing false)
  pub two-to-two : find_between differ_and_equal 1 2 ≡ answer (nothing true)
  pub two-to-three : find_between differ_and_equal 1 3 ≡ answer (nothing true)
  pub two-from-two : find_between differ_and_equal 2 2 ≡ answer (nothing false)
  -- a function of arity 1 is never settled: size 2 has a model here
  pub one_argument : find_between no_fixed_point 1 1 ≡ answer (nothing false)
