-- The starred examples of document 01, from the bytes of their sheets to the answers, and a case that Judge says no to, as one claim that holds by computation (proofs/Examples).
use Rattle.std.specs.Prelude.{ℕ, ◌≡◌, true, false, List, [], ◌∷◌, ◌++◌, map, replicate}
use Prim.Native.String.{String}
use Rattle.theory.specs.Lists.{up_from}
use Rattle.theory.specs.Bytes.{bytes}
use Rattle.theory.specs.Flattening.{new, flat_predicate, flat_result, FlatClause, flatten}
use Rattle.theory.specs.Refusals.{Answer, answer, refused, unplaced, needing}
use Rattle.theory.specs.Problem.{Problem, read_problem}
use Rattle.theory.specs.Operations.{length_answer, written_text, read_back_text, judge_answer, Search, found, nothing, found_case, find_result, find_answer, find_output, find_work}

-- document 01's sheet: two constants that differ
unfoldable pub two_constants : List ℕ
two_constants = bytes "sheet=1\nfuns=2\nfun=a/0\nfun=b/0\npreds=0\nclauses=1\nclause=- = a b\n"

-- one clause and no symbols
unfoldable pub one_clause : String → List ℕ
one_clause c = bytes "sheet=1\nfuns=0\npreds=0\nclauses=1\nclause=" ++ (bytes c ++ bytes "\n")

-- no clause and no symbol
unfoldable pub nothing_at_all : List ℕ
nothing_at_all = bytes "sheet=1\nfuns=0\npreds=0\nclauses=0\n"

-- 000's Example 3
unfoldable pub nested_terms : List ℕ
nested_terms = bytes "sheet=1\nfuns=3\nfun=f/2\nfun=a/0\nfun=b/0\npreds=1\npred=p/2\nclauses=1\nclause=+ p f a b f b a\n"

-- a function without a fixed point
unfoldable pub no_fixed_point : List ℕ
no_fixed_point = bytes "sheet=1\nfuns=1\nfun=f/1\npreds=0\nclauses=1\nclause=- = f A A\n"

-- p of a alone
unfoldable pub only_a : List ℕ
only_a = bytes "sheet=1\nfuns=1\nfun=a/0\npreds=1\npred=p/1\nclauses=2\nclause=+ p a\nclause=- p A + = A a\n"

-- the sizes, work and output of a search, and what it finds
unfoldable pub find_between : List ℕ → ℕ → ℕ → Answer Search
find_between sheet low high = find_result sheet low high 16000 100

-- the text that Write leaves in a hundred bytes
unfoldable pub write_in : List ℕ → ℕ → Answer (List ℕ)
write_in sheet size = written_text sheet size 100

-- the case that Read back leaves in a hundred bytes
unfoldable pub read_back_in : List ℕ → ℕ → List ℕ → Answer (List ℕ)
read_back_in sheet size setting = read_back_text sheet size setting 100

-- the flattened clauses of a sheet
unfoldable pub flat_clauses : Answer Problem → List FlatClause
flat_clauses (refused r) = []
flat_clauses (answer p) = map flatten p.clauses

-- a ≠ x, b ≠ y, f(x,y) ≠ z, f(y,x) ≠ w, p(z,w); the symbols' places are f 0, a 1, b 2, p 3
unfoldable pub nested_flat : FlatClause
nested_flat =
    record {
      owns = [];
      news = 4;
      literals =
          record { sign = false; atom = flat_result 1 [] (new 0) }
          ∷ record { sign = false; atom = flat_result 2 [] (new 1) }
          ∷ record { sign = false; atom = flat_result 0 (new 0 ∷ new 1 ∷ []) (new 2) }
          ∷ record { sign = false; atom = flat_result 0 (new 1 ∷ new 0 ∷ []) (new 3) }
          ∷ record { sign = true; atom = flat_predicate 3 (new 2 ∷ new 3 ∷ []) } ∷ [];
    }

-- the table
pub record Examples : Type 0 where
  pub two-constants-1 : find_between two_constants 1 1 ≡ answer (nothing false)
  pub two-constants-2 : find_between two_constants 2 2 ≡ answer (found 2 (bytes "case=1\nsize=2\na=1\nb=2\n"))
  pub two-constants-text : write_in two_constants 2 ≡ answer (bytes "p cnf 4 6\n1 2 0\n-1 -2 0\n3 4 0\n-3 -4 0\n-3 -1 0\n-4 -2 0\n")
  pub two-constants-back : read_back_in two_constants 2 (0 ∷ 1 ∷ 1 ∷ 0 ∷ []) ≡ answer (bytes "case=1\nsize=2\na=2\nb=1\n")
  pub two-constants-length : length_answer (write_in two_constants 2) ≡ answer 54
  pub two-constants-short : written_text two_constants 2 53 ≡ refused (needing 11 54)
  pub two-constants-14 : read_back_in two_constants 2 (1 ∷ 1 ∷ 0 ∷ 0 ∷ []) ≡ refused (unplaced 14)
  pub two-constants-output : find_output (find_between two_constants 1 3) (bytes "a lent buffer of thirty bytes.") ≡ bytes "case=1\nsize=2\na=1\nb=2\ny bytes."
  pub two-constants-work : find_work (find_between two_constants 1 3) (7 ∷ 7 ∷ []) ≡ 0 ∷ 0 ∷ []
  pub nested-flat : flat_clauses (read_problem nested_terms) ≡ nested_flat ∷ []
  pub equal-1 : judge_answer (one_clause "+ = A B") (bytes "case=1\nsize=1\n") ≡ answer true
  pub equal-1-not-2 : judge_answer (one_clause "+ = A B") (bytes "case=1\nsize=2\n") ≡ answer false
  pub equal-2 : write_in (one_clause "+ = A B") 2 ≡ answer (bytes "p cnf 0 2\n0\n0\n")
  pub unequal-each : map (write_in (one_clause "- = A B")) (up_from 1 8) ≡ replicate 8 (answer (bytes "p cnf 0 1\n0\n"))
  pub empty-clause : find_between (one_clause "") 1 8 ≡ answer (nothing true)
  pub no-clause : find_between nothing_at_all 3 5 ≡ answer (found 3 (bytes "case=1\nsize=3\n"))
  pub no-clause-length : find_answer (find_between nothing_at_all 3 5) ≡ answer (found_case 3 14)
  pub no-fixed-point-1 : find_between no_fixed_point 1 1 ≡ answer (nothing false)
  pub no-fixed-point-2 : find_between no_fixed_point 1 3 ≡ answer (found 2 (bytes "case=1\nsize=2\nf=2 1\n"))
  pub no-fixed-point-3 : find_between no_fixed_point 3 3 ≡ answer (found 3 (bytes "case=1\nsize=3\nf=2 1 1\n"))
  pub only-a : find_between only_a 2 2 ≡ answer (found 2 (bytes "case=1\nsize=2\na=1\np=1 0\n"))
