-- The limits of a problem that is read, as numbers: of its tables at a size of at most 8, and of each of its clauses.
use Prim.Native.Nat.{ℕ, suc, ◌+◌, ◌≤◌, ◌<◌}
use mathlib.Core.Path.{◌≡◌, refl, sym, ap, ◌∙◌}
use mathlib.Core.Bool.{Bool, true, ◌&&◌}
use mathlib.Core.List.{List, [], ◌∷◌, map}
use native.Mathlib.Nat.{le_trans, pow-le-pow_left, pow-le-pow_right}
use native.Mathlib.Omega.{arith}
use lib.Dec.{ltb, leb}
use lib.ListN.{length, get_or, length-append, length-map}
use Rattle.theory.specs.Lists.{all}
use Rattle.theory.specs.Syntax.{Symbol, Signature, Term, Clause, variables, clause_ok}
use Rattle.theory.specs.Cells.{table_size}
use Rattle.theory.specs.Grammar.{clause_words}
use Rattle.theory.specs.Flattening.{merged, turned, lifted_terms, shallow, definitions, flatten, variable_count}
use Rattle.theory.specs.Problem.{is_name, within_limits, Problem}
use Rattle.theory.specs.WellFormed.{symbol_ok, is_known_letter, clause_accepted, WellFormed}
use Rattle.theory.proofs.Tests.{leb-true, and_left, and_right}
use Rattle.theory.proofs.Lists.{all-at}
use Rattle.theory.proofs.Letters.{variables_pass, clause-letters, variables-pass, merged-passes, merged-length}

-- a symbol has at most 512 cells
pub table_size-within : (s : ℕ) (f : Symbol) → s ≤ 8 → symbol_ok f ≡ true → table_size s f ≤ 512
table_size-within s f le h =
    le_trans (pow-le-pow_left le f.arity) (pow-le-pow_right (omega arith) (leb-true f.arity 3 (and_left (leb f.arity 3) (is_name f.name) h)))

definitions-length : (lifted : List Term) (i : ℕ) (ts : List Term) → length (definitions lifted i ts) ≡ length ts
definitions-length lifted i [] = refl
definitions-length lifted i (t ∷ ts) = ap suc (definitions-length lifted (suc i) ts)

-- a flattened clause has a literal for each new variable, and no more of the others than the clause
pub flat-literals : (c : Clause) → length (flatten c).literals ≤ (flatten c).news + length c
unfolding flatten
flat-literals c =
    let m : Clause = map turned (merged c) in
    let lifted : List Term = lifted_terms m in
    omega (
      arith,
      length-append (definitions lifted 0 lifted) (map (shallow lifted) m),
      definitions-length lifted 0 lifted,
      length-map m (shallow lifted),
      length-map (merged c) turned,
      merged-length c,
    )

owns-pass : (q : ℕ → Bool) (c : Clause) → variables_pass q c ≡ true → all q (flatten c).owns ≡ true
unfolding flatten
owns-pass q c h = variables-pass q (merged c) (merged-passes q c h)

news-within : (c : Clause) → (flatten c).news ≤ variable_count (flatten c)
unfolding variable_count
news-within c = omega arith

-- what holds of each clause
pub record ClauseLimits (g : Signature) (c : Clause) : Type 0 where
  pub over : clause_ok g c ≡ true
  pub words : length (clause_words c) ≤ 64
  pub literals : length c ≤ 16
  pub letters : all (λ x. ltb x 8) (variables c) ≡ true
  pub flat-variables : variable_count (flatten c) ≤ 10
  pub own-letters : all (λ x. ltb x 8) (flatten c).owns ≡ true
  pub flat-count : length (flatten c).literals ≤ 26

pub clause-limits : (g : Signature) (c : Clause) → clause_accepted g c ≡ true → ClauseLimits g c
unfolding within_limits
clause-limits g c h =
    let d : Bool = all is_known_letter (clause_words c) in
    let e : (clause_ok g c && within_limits (clause_words c) c) ≡ true = and_left (clause_ok g c && within_limits (clause_words c) c) d h in
    let l : within_limits (clause_words c) c ≡ true = and_right (clause_ok g c) (within_limits (clause_words c) c) e in
    let x : Bool = leb (length (clause_words c)) 64 in
    let y : Bool = leb (length c) 16 in
    let z : Bool = leb (variable_count (flatten c)) 10 in
    let few : length c ≤ 16 = leb-true (length c) 16 (and_right x y (and_left (x && y) z l)) in
    let flat : variable_count (flatten c) ≤ 10 = leb-true (variable_count (flatten c)) 10 (and_right (x && y) z l) in
    let pass : variables_pass (λ x. ltb x 8) c ≡ true = sym (clause-letters (λ x. ltb x 8) c) ∙ and_right (clause_ok g c && within_limits (clause_words c) c) d h in
    record {
      over = and_left (clause_ok g c) (within_limits (clause_words c) c) e;
      words = leb-true (length (clause_words c)) 64 (and_left x y (and_left (x && y) z l));
      literals = few;
      letters = variables-pass (λ x. ltb x 8) c pass;
      flat-variables = flat;
      own-letters = owns-pass (λ x. ltb x 8) c pass;
      flat-count = omega (arith, flat-literals c, news-within c);
    }

-- the clause at a place
pub clause-at : (p : Problem) → WellFormed p → (i : ℕ) → i < length p.clauses → ClauseLimits p.symbols (get_or p.clauses i [])
clause-at p w i lt = clause-limits p.symbols (get_or p.clauses i []) (all-at (clause_accepted p.symbols) [] p.clauses i w.clauses-accepted lt)
