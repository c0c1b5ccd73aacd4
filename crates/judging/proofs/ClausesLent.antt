-- A clause in its words and its variables' places, as the walk holds it while it goes through the choices.
use Prim.Native.Nat.{ℕ, ◌-◌, ◌^◌, ◌≤◌}
use mathlib.Core.Path.{◌≡◌, refl, sym, ap, ◌∙◌}
use mathlib.Core.Bool.{Bool, true}
use mathlib.Core.List.{List, [], map}
use native.Mathlib.Nat.{sub-zero}
use native.Mathlib.Omega.{arith}
use lib.ListN.{length, get_or, take}
use lib.Seq.{length-take-le}
use Rattle.theory.specs.Lists.{elem}
use Rattle.theory.specs.Syntax.{Signature, variables}
use Rattle.theory.specs.Truth.{clause_true, assign}
use Rattle.theory.specs.Cells.{interpretation}
use Rattle.theory.specs.Grammar.{read_words}
use Rattle.theory.proofs.Lists.{elem-all, elem-distinct}
use Rattle.theory.proofs.Distinct.{length-distinct}
use Rattle.syntax.specs.declared.limits.Problem.{Problem}
use Rattle.syntax.specs.declared.words.ClauseWords.{ClauseWords}
use Rattle.syntax.specs.declared.variables.Variables.{Variables}
use Rattle.syntax.specs.Signatures.{Small, signature_in}
use Rattle.syntax.specs.Codes.{code_word, words_in, clause_in}
use Rattle.syntax.specs.Variables.{letters_of, CodesBelow, Places, variables_in}
use Rattle.syntax.proofs.Places.{letters-below}
use Rattle.syntax.proofs.Clauses.{codes_below, variables-clause_in}
use Rattle.clauses.proofs.Held.{small-signature_in}
use Rattle.problem.specs.Problems.{problem_in, Accepted, WordsOf}
use Rattle.truth.specs.Values.{ClauseLent, lent_clause, letters_among}
use Rattle.judging.specs.Failures.{ProblemLent}

-- whether clause k is true under the values v of its variables
abbrev pub true_at : List ℕ → Problem → List ℕ → ℕ → ℕ → List ℕ → Bool
true_at sheet p cells s k v =
    clause_true (interpretation s (problem_in sheet p).symbols cells) (assign (variables (get_or (problem_in sheet p).clauses k [])) v) (get_or (problem_in sheet p).clauses k [])

-- clause k in its words, the first n, with the places of its variables, their count, and how many choices of values they have
pub record ClauseHeld (sheet : List ℕ) (p : Problem) (arities : List ℕ) (functions : List Bool) (bases cells : List ℕ) (s k : ℕ) (words : List ℕ) (n : ℕ) (place : List ℕ) (count choices : ℕ) : Type 0 where
  pub within : n ≤ length words
  pub few : count ≤ 8
  pub lent : ClauseLent (take (n - 0) words) place arities functions bases cells s
  pub counted : count ≡ length lent.variables
  pub own : count ≡ length (variables (get_or (problem_in sheet p).clauses k []))
  pub value : (b : Bool) (v : List ℕ) → b ≡ clause_true (interpretation s lent.signature cells) (assign lent.variables v) (lent_clause lent) → b ≡ true_at sheet p cells s k v
  pub all : choices ≡ s ^ count

-- clause k of the problem, as its words w
module _ (sheet : List ℕ) (p : Problem) (accepted : Accepted sheet p) (k : ℕ) (w : ClauseWords) (h : WordsOf sheet p k w) (held : length w.words ≡ 64) where
  abbrev g : Signature
  g = signature_in sheet p.signature

  small : Small g
  small = small-signature_in p.signature accepted.readable.limited sheet

  pub codes-below : CodesBelow w
  codes-below = codes_below g w h.accepted.clause small.symbols (omega (arith, h.accepted.clause.fits))

  letters-among : letters_among (variables_in w) (words_in w) ≡ true
  unfolding variables_in
  letters-among = elem-all (λ x. elem x (variables_in w)) (letters_of (words_in w)) (λ x e. elem-distinct x (letters_of (words_in w)) e)

  pub own-variables : variables_in w ≡ variables (get_or (problem_in sheet p).clauses k [])
  own-variables = sym (variables-clause_in g w h.accepted.clause) ∙ ap variables h.clause

  -- the clause has as many variables, at most eight
  module _ (v : Variables) (placed : Places (variables_in w) v) where
    pub own-count : v.count ≡ length (variables (get_or (problem_in sheet p).clauses k []))
    own-count = placed.count ∙ ap length own-variables

    pub few-own : v.count ≤ 8
    unfolding variables_in
    few-own = omega (arith, placed.count, length-distinct 8 (letters_of (words_in w)) (letters-below w.words w.count codes-below))

  module _ (v : Variables) (placed : Places (variables_in w) v) (letters : length v.place ≡ 8) {arities : List ℕ} {functions : List Bool} {bases cells : List ℕ} {s : ℕ}
      (lent : ProblemLent sheet p arities functions bases cells s) where
    abbrev clause-lent : ClauseLent (take (w.count - 0) w.words) v.place arities functions bases cells s
    clause-lent =
        record {
          signature = g;
          variables = variables_in w;
          lent =
              record {
                size = lent.size;
                small = small;
                tables = lent.tables;
                values = lent.values;
                letters = letters;
                places = record { count = refl; places = placed.places };
              };
          fits = rw sub-zero (omega (arith, length-take-le w.count w.words (omega (arith, h.accepted.clause.fits)), h.accepted.clause.fits));
          known = rw sub-zero h.accepted.clause.known;
          letters = rw sub-zero letters-among;
          good = rw sub-zero h.accepted.clause.grammatical;
        }

    words-value : (b : Bool) (d : List ℕ) → b ≡ clause_true (interpretation s g cells) (assign (variables_in w) d) (lent_clause clause-lent) → b ≡ true_at sheet p cells s k d
    unfolding clause_in problem_in
    words-value b d e =
        e
        ∙ ap (λ (n : ℕ). clause_true (interpretation s g cells) (assign (variables_in w) d) (read_words g (map code_word (take n w.words))).clause) (sub-zero w.count)
        ∙ ap (clause_true (interpretation s g cells) (assign (variables_in w) d)) h.clause
        ∙ ap (λ (xs : List ℕ). clause_true (interpretation s g cells) (assign xs d) (get_or (problem_in sheet p).clauses k [])) own-variables

    pub clause-held : (choices : ℕ) → choices ≡ s ^ v.count → ClauseHeld sheet p arities functions bases cells s k w.words w.count v.place v.count choices
    clause-held choices e =
        record {
          within = omega (arith, h.accepted.clause.fits);
          few = few-own v placed;
          lent = clause-lent;
          counted = placed.count;
          own = own-count v placed;
          value = words-value;
          all = e;
        }
