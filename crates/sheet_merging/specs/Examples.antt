-- Examples of merging, from the bytes of two sheets to the answer, as one claim that holds by computation.
use Rattle.std.specs.Prelude.{ℕ, ◌≡◌, true, false, List, ◌++◌}
use Prim.Native.String.{String}
use Rattle.theory.specs.Lists.{concat_map, up_to}
use Rattle.theory.specs.Bytes.{bytes, decimal}
use Rattle.theory.specs.Refusals.{Refusal, Answer, answer, refused, at_place, unplaced, needing, ◌>>=◌}
use Rattle.theory.specs.Problem.{read_problem}
use Rattle.theory.specs.CaseText.{case_text, read_case}
use Rattle.theory.specs.Operations.{judge_answer}
use Rattle.sheet_merging.specs.Merging.{merged_text, which_sheet}
use Rattle.sheet_merging.specs.Tables.{tables_for}

-- a is p, and f moves it
unfoldable pub machine : List ℕ
machine = bytes "sheet=1\nfuns=2\nfun=a/0\nfun=f/1\npreds=1\npred=p/1\nclauses=2\nclause=+ p a\nclause=- = f A A\n"

-- f, b and q in another order; its first clause is the machine's, its second is written with another letter
unfoldable pub clinic : List ℕ
clinic = bytes "sheet=1\nfuns=2\nfun=f/1\nfun=b/0\npreds=2\npred=q/2\npred=p/1\nclauses=4\nclause=- = f A A\nclause=- = f B B\nclause=+ q b b\nclause=+ q b b\n"

-- no symbol and no clause
unfoldable pub nothing : List ℕ
nothing = bytes "sheet=1\nfuns=0\npreds=0\nclauses=0\n"

-- one function
unfoldable pub one_function : String → List ℕ
one_function f = bytes "sheet=1\nfuns=1\nfun=" ++ (bytes f ++ bytes "\npreds=0\nclauses=0\n")

-- so many empty clauses
unfoldable pub empty_clauses : ℕ → List ℕ
empty_clauses n = bytes "sheet=1\nfuns=0\npreds=0\nclauses=" ++ (decimal n ++ (bytes "\n" ++ concat_map (λ _. bytes "clause=\n") (up_to n)))

-- so many clauses of another kind
unfoldable pub equalities : ℕ → List ℕ
equalities n = bytes "sheet=1\nfuns=0\npreds=0\nclauses=" ++ (decimal n ++ (bytes "\n" ++ concat_map (λ _. bytes "clause=+ = A A\n") (up_to n)))

-- one function, and so many times one clause
unfoldable pub one_function_and : String → ℕ → String → List ℕ
one_function_and f n c = bytes "sheet=1\nfuns=1\nfun=" ++ (bytes f ++ (bytes "\npreds=0\nclauses=" ++ (decimal n ++ (bytes "\n" ++ concat_map (λ _. bytes c) (up_to n)))))

-- the two together: what both have stands once, what the second alone repeats stands twice
unfoldable pub together : List ℕ
together = bytes "sheet=1\nfuns=3\nfun=a/0\nfun=f/1\nfun=b/0\npreds=2\npred=p/1\npred=q/2\nclauses=5\nclause=+ p a\nclause=- = f A A\nclause=- = f B B\nclause=+ q b b\nclause=+ q b b\n"

-- the other way round
unfoldable pub roundabout : List ℕ
roundabout = bytes "sheet=1\nfuns=3\nfun=f/1\nfun=b/0\nfun=a/0\npreds=2\npred=q/2\npred=p/1\nclauses=5\nclause=- = f A A\nclause=- = f B B\nclause=+ q b b\nclause=+ q b b\nclause=+ p a\n"

-- two clauses, the empty one and an equality
unfoldable pub two_clauses : List ℕ
two_clauses = bytes "sheet=1\nfuns=0\npreds=0\nclauses=2\nclause=\nclause=+ = A A\n"

-- a case of the two together
unfoldable pub agreeable : List ℕ
agreeable = bytes "case=1\nsize=2\na=2\nf=2 1\nb=1\np=0 1\nq=1 0 1 1\n"

-- the same without q at b, b
unfoldable pub disagreeable : List ℕ
disagreeable = bytes "case=1\nsize=2\na=2\nf=2 1\nb=1\np=0 1\nq=0 0 1 1\n"

-- the case of a sheet that a case of the merged sheet has in it
unfoldable pub case_for : List ℕ → List ℕ → List ℕ → Answer (List ℕ)
case_for sheet merged case = do
  p ← read_problem sheet
  m ← read_problem merged
  k ← read_case m.symbols case
  answer (case_text k.size p.symbols (tables_for k.size m.symbols p.symbols k.values))

-- refusal n at a line and a column
abbrev pub at : ℕ → ℕ → ℕ → Refusal
at n l c = at_place n (record { line = l; column = c })

-- the table
pub record Examples : Type 0 where
  pub one : merged_text machine clinic 200 ≡ answer together
  pub other : merged_text clinic machine 200 ≡ answer roundabout
  pub own : merged_text machine machine 200 ≡ answer machine
  pub nothing-after : merged_text clinic nothing 200 ≡ answer clinic
  pub nothing-before : merged_text nothing clinic 200 ≡ answer clinic
  pub exact-room : merged_text machine clinic 152 ≡ answer together
  pub short-room : merged_text machine clinic 151 ≡ refused (needing 11 152)
  pub two-arities : merged_text machine (one_function "f/2") 200 ≡ refused (unplaced 22)
  pub two-kinds : merged_text machine (one_function "p/1") 200 ≡ refused (unplaced 22)
  pub clauses-64 : merged_text (empty_clauses 32) (equalities 32) 9 ≡ refused (needing 11 770)
  pub clauses-65 : merged_text (empty_clauses 32) (equalities 33) 9 ≡ refused (unplaced 23)
  pub clauses-128 : merged_text (empty_clauses 64) (equalities 64) 9 ≡ refused (unplaced 23)
  pub clauses-shared : merged_text (empty_clauses 64) (empty_clauses 64) 9 ≡ refused (needing 11 546)
  -- 22 is told before 23
  pub names-first : merged_text (one_function_and "f/1" 40 "clause=\n") (one_function_and "f/2" 40 "clause=+ = A A\n") 9 ≡ refused (unplaced 22)
  pub first-refused : merged_text (one_function "f/4") (one_function "F/1") 9 ≡ refused (at 3 3 7)
  pub first-which : which_sheet (one_function "f/4") (one_function "F/1") ≡ 1
  pub second-refused : merged_text (one_function "f/3") (one_function "F/1") 9 ≡ refused (at 4 3 5)
  pub second-which : which_sheet (one_function "f/3") (one_function "F/1") ≡ 2
  pub neither-which : which_sheet machine (one_function "f/2") ≡ 0
  -- one grouping may be refused where the other is not: repeats that the first sheet makes old are new without it
  pub grouped-left : (merged_text two_clauses (empty_clauses 40) 99 >>= λ ab. merged_text ab (equalities 40) 99) ≡ answer two_clauses
  pub grouped-right : merged_text (empty_clauses 40) (equalities 40) 9999 ≡ refused (unplaced 23)
  -- cases
  pub machine-case : case_for machine together agreeable ≡ answer (bytes "case=1\nsize=2\na=2\nf=2 1\np=0 1\n")
  pub clinic-case : case_for clinic together agreeable ≡ answer (bytes "case=1\nsize=2\nf=2 1\nb=1\nq=1 0 1 1\np=0 1\n")
  pub agreeable-judged : judge_answer together agreeable ≡ answer true
  pub machine-judged : (case_for machine together agreeable >>= λ c. judge_answer machine c) ≡ answer true
  pub clinic-judged : (case_for clinic together agreeable >>= λ c. judge_answer clinic c) ≡ answer true
  pub disagreeable-judged : judge_answer together disagreeable ≡ answer false
  pub machine-content : (case_for machine together disagreeable >>= λ c. judge_answer machine c) ≡ answer true
  pub clinic-not : (case_for clinic together disagreeable >>= λ c. judge_answer clinic c) ≡ answer false
