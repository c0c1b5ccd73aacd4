-- Examples of document 02's slip 4, from the bytes of a text to the answer, as one claim that holds by computation.
use Rattle.std.specs.Prelude.{ℕ, ◌≡◌, refl, List, ◌++◌}
use Prim.Native.String.{String}
use Rattle.theory.specs.Lists.{concat_map, up_to}
use Rattle.theory.specs.Bytes.{bytes, decimal}
use Rattle.theory.specs.Flattening.{merged, lifted_terms, flatten, variable_count}
use Rattle.theory.specs.Problem.{is_name, within_limits}
use Rattle.theory.specs.Refusals.{Answer, answer, refused, needing}
use Rattle.tptp.specs.Places.{place_of}
use Rattle.tptp.specs.Tokens.{piece_of, tokens}
use Rattle.tptp.specs.Grammar.{due_after_token}
use Rattle.tptp.specs.Trees.{statement_of}
use Rattle.tptp.specs.Symbols.{signature_of, variables_of, clause_over, problem_of}
use Rattle.theory.specs.SheetText.{sheet_text}
use Rattle.tptp.specs.Tptp.{read_file, faults, tptp_text}

-- the answer in an output of three hundred bytes
pub read : String → Answer (List ℕ)
read text = tptp_text (bytes text) 300

-- refusal n at a line and a column
pub at : ℕ → ℕ → ℕ → Answer (List ℕ)
at n l c = refused (record { number = n; place = record { line = l; column = c }; needed = 0 })

-- the table
pub record TptpExamples : Type 0 where
  pub one-clause : read "cnf(a,axiom,p(X)|~q(f(X),b))." ≡ answer (bytes "sheet=1\nfuns=2\nfun=f/1\nfun=b/0\npreds=2\npred=p/1\npred=q/2\nclauses=1\nclause=+ p A - q f A b\n")
  pub empty-clause : read "cnf(a,axiom,$false)." ≡ answer (bytes "sheet=1\nfuns=0\npreds=0\nclauses=1\nclause=\n")
  pub empty-file : read "" ≡ answer (bytes "sheet=1\nfuns=0\npreds=0\nclauses=0\n")
  pub comments : read "% a .\ncnf(1, /* b ) */ lemma, (~ X = f(Y,X) | $false | X != c % |\r\n)) ." ≡ answer (bytes "sheet=1\nfuns=2\nfun=f/2\nfun=c/0\npreds=0\nclauses=1\nclause=- = A f B A - = A c\n")
  pub order-of-symbols : read "cnf(a,b,p(g(Y),X)).\ncnf(c,d,f(X)=a|q(a,X))." ≡ answer (bytes "sheet=1\nfuns=3\nfun=g/1\nfun=f/1\nfun=a/0\npreds=2\npred=p/2\npred=q/2\nclauses=2\nclause=+ p g A B\nclause=+ = f A a + q a A\n")
  pub cnf-is-a-word : read "cnf(cnf,cnf,cnf(X))." ≡ answer (bytes "sheet=1\nfuns=0\npreds=1\npred=cnf/1\nclauses=1\nclause=+ cnf A\n")
  pub short-output : tptp_text (bytes "cnf(a,b,$false).") 40 ≡ refused (needing 11 41)
  pub enough-output : tptp_text (bytes "cnf(a,b,$false).") 41 ≡ answer (bytes "sheet=1\nfuns=0\npreds=0\nclauses=1\nclause=\n")
  pub variable-alone : read "cnf(a,b,\n X)." ≡ at 15 2 3
  pub tilde-unequal : read "cnf(a,b,~ a != b)." ≡ at 15 1 13
  pub tilde-false : read "cnf(a,b,~ $false)." ≡ at 15 1 11
  pub longer-token : read "cnf(a,b,p=>q)." ≡ at 15 1 10
  pub real-name : read "cnf(1.5,b,q)." ≡ at 15 1 5
  pub digits-stop : read "cnf(1.,b,q)." ≡ at 15 1 6
  pub fourth-field : read "cnf(a,b,p,file(x))." ≡ at 15 1 10
  pub two-parentheses : read "cnf(a,b,((p)))." ≡ at 15 1 10
  pub missing-text : read "cnf(a,b,p)\n\n" ≡ at 15 3 1
  pub open-comment : read "cnf(a,b,p).\n/*/" ≡ at 15 2 4
  pub last_word : read "cnf(a,b,p). cn" ≡ at 15 1 13
  pub two-arities : read "cnf(a,b,p(X)|\np(X,Y,Z,W))." ≡ at 16 2 1
  pub two-kinds : read "cnf(a,b,p(p))." ≡ at 16 1 11
  pub arity-four : read "cnf(a,b,q|p(X,Y,Z,fQ))." ≡ at 17 1 11
  pub upper-letter : read "cnf(a,b,q|pQ)." ≡ at 17 1 11
  pub thirteen-bytes : read "cnf(a,b,abcdefghijklm)." ≡ at 17 1 9
  pub ninth-variable : read "cnf(a,b,p(A,B,C)|q(D,E,F)|r(G,H,I))." ≡ at 17 1 33
  pub thirteenth-function : read "cnf(a,b,p(a,b,c)|q(d,e,f)|r(g,h,i)|s(j,k,l)|t(m))." ≡ at 17 1 47
  pub seventeen-literals : read "cnf(a,b,p|p|p|p|p|p|p|p|p|p|p|p|p|p|p|p|p).\ncnf(" ≡ at 17 1 43
  pub eleven-variables : read "cnf(a,b,p(f(f(f(f(f(f(f(f(f(f(X))))))))))))." ≡ at 17 1 44
  pub clause-65 : tptp_text (concat_map (λ _. bytes "cnf(a,b,$false).\n") (up_to 64) ++ bytes "cnf(a,b,p|p(X)).x") 1000 ≡ at 17 65 1
  pub fault-in-own-statement : read "cnf(a,b,p|p(X)|$true)." ≡ at 15 1 16
  pub fault-in-earlier-statement : read "cnf(a,b,p|p(X)).cnf(c,d,$true)." ≡ at 16 1 11

-- every line of the table holds by computation
pub examples : TptpExamples
unfolding read at decimal merged lifted_terms flatten variable_count is_name within_limits place_of piece_of tokens due_after_token statement_of signature_of variables_of clause_over problem_of sheet_text read_file faults tptp_text
examples =
    record {
      one-clause = refl;
      empty-clause = refl;
      empty-file = refl;
      comments = refl;
      order-of-symbols = refl;
      cnf-is-a-word = refl;
      short-output = refl;
      enough-output = refl;
      variable-alone = refl;
      tilde-unequal = refl;
      tilde-false = refl;
      longer-token = refl;
      real-name = refl;
      digits-stop = refl;
      fourth-field = refl;
      two-parentheses = refl;
      missing-text = refl;
      open-comment = refl;
      last_word = refl;
      two-arities = refl;
      two-kinds = refl;
      arity-four = refl;
      upper-letter = refl;
      thirteen-bytes = refl;
      ninth-variable = refl;
      thirteenth-function = refl;
      seventeen-literals = refl;
      eleven-variables = refl;
      clause-65 = refl;
      fault-in-own-statement = refl;
      fault-in-earlier-statement = refl;
    }
