-- Find plain by example, from the bytes of a sheet to what is found, as one claim that holds by computation (proofs/PlainExamples).
use Rattle.std.specs.Prelude.{ℕ, ◌≡◌, true, false, List, [], ◌∷◌, ◌++◌}
use Rattle.theory.specs.Lists.{concat_map, up_to}
use Rattle.theory.specs.Bytes.{bytes}
use Rattle.theory.specs.Refusals.{Answer, answer, refused, at_place, unplaced, needing}
use Rattle.theory.specs.Operations.{Search, found, nothing, found_case, find_answer, find_output}
use Rattle.theory.specs.PlainSearch.{plain_result}
use Rattle.theory.specs.Examples.{two_constants, one_clause, nothing_at_all, no_fixed_point, only_a}
use Rattle.theory.specs.SettledExamples.{differ_and_equal}

-- a predicate of arity 3: 64 cells at size 4
unfoldable pub sixty_four : List ℕ
sixty_four = bytes "sheet=1\nfuns=0\npreds=1\npred=p/3\nclauses=0\n"

-- and a constant: one cell more
unfoldable pub sixty_five : List ℕ
sixty_five = bytes "sheet=1\nfuns=1\nfun=a/0\npreds=1\npred=p/3\nclauses=0\n"

-- what is found, given an output of a hundred bytes
unfoldable pub plain_within : List ℕ → ℕ → ℕ → Answer Search
plain_within sheet low high = plain_result sheet low high 100

-- the table
pub record PlainExamples : Type 0 where
  -- the smallest size that has a model, and its least model
  pub at_one : plain_within (one_clause "+ = A B") 1 3 ≡ answer (found 1 (bytes "case=1\nsize=1\n"))
  pub at-two : plain_within two_constants 1 3 ≡ answer (found 2 (bytes "case=1\nsize=2\na=1\nb=2\n"))
  pub at-three : plain_within no_fixed_point 3 3 ≡ answer (found 3 (bytes "case=1\nsize=3\nf=2 1 1\n"))
  pub of-both-kinds : plain_within only_a 2 2 ≡ answer (found 2 (bytes "case=1\nsize=2\na=1\np=1 0\n"))
  pub without-cells : plain_within nothing_at_all 3 5 ≡ answer (found 3 (bytes "case=1\nsize=3\n"))
  -- none, with Find's mark
  pub none-settled : plain_within differ_and_equal 1 2 ≡ answer (nothing true)
  pub none-from-two : plain_within differ_and_equal 2 2 ≡ answer (nothing false)
  pub none-with-arguments : plain_within no_fixed_point 1 1 ≡ answer (nothing false)
  -- 64 cells at high are taken, 65 are not, whatever low is
  pub sixty-four : find_answer (plain_result sixty_four 4 4 144) ≡ answer (found_case 4 144)
  pub sixty-four-text : plain_result sixty_four 4 4 144 ≡ answer (found 4 (bytes "case=1\nsize=4\np=0" ++ (concat_map (λ _. bytes " 0") (up_to 63) ++ bytes "\n")))
  pub sixty-five : plain_result sixty_five 4 4 200 ≡ refused (unplaced 20)
  pub sixty-five-at-high : plain_result sixty_five 1 4 200 ≡ refused (unplaced 20)
  pub sixty-five-below : find_answer (plain_result sixty_five 3 3 75) ≡ answer (found_case 3 74)
  -- the order of refusals: the sheet's, 8, 20, 11
  pub no-sheet : plain_result [] 0 9 0 ≡ refused (at_place 2 (record { line = 1; column = 1 }))
  pub no-sizes : plain_result sixty_five 4 9 0 ≡ refused (unplaced 8)
  pub too-many-cells : plain_result sixty_five 4 4 0 ≡ refused (unplaced 20)
  pub too_short : plain_result sixty_four 1 4 143 ≡ refused (needing 11 144)
  -- the output
  pub output-found : find_output (plain_within two_constants 1 3) (bytes "a lent buffer of thirty bytes.") ≡ bytes "case=1\nsize=2\na=1\nb=2\ny bytes."
  pub output-none : find_output (plain_within two_constants 1 1) (1 ∷ 2 ∷ []) ≡ 1 ∷ 2 ∷ []
