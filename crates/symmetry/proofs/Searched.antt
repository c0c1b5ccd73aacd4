-- What a search that is not refused found, under both switches: the smallest model that is searched for, of the sheet as handed in.
use Prim.Native.Nat.{ℕ, ◌≤◌}
use mathlib.Core.Path.{◌≡◌, refl, sym, ap, ◌∙◌}
use mathlib.Core.Bool.{Bool, true, false, ◌&&◌}
use mathlib.Core.List.{List, []}
use native.Mathlib.Omega.{arith}
use lib.Dec.{leb}
use Rattle.theory.specs.Refusals.{answer, unplaced}
use Rattle.theory.specs.Problem.{Problem}
use Rattle.theory.specs.WellFormed.{WellFormed}
use Rattle.theory.specs.Operations.{Search, search_of}
use Rattle.theory.proofs.Tests.{leb-true, and_left, and_right}
use Rattle.theory.proofs.Answers.{unbind, answer-inj, check-true}
use Rattle.theory.proofs.Parsing.{read_problem-well_formed, clauses-ok}
use Rattle.theory.proofs.PlacedReading.{problem-read}
use Rattle.naming.specs.NamedOperations.{read_problem_in, placed_in, mode_problem}
use Rattle.naming.specs.Claims.Naming.{Sheet}
use Rattle.naming.proofs.Reading.{Taken, read_named-taken, taken-sheet, named-read}
use Rattle.symmetry.specs.Obeying.{smallest_with, functions_first}
use Rattle.symmetry.specs.SymmetricOperations.{search_in, find_result_with}
use Rattle.symmetry.proofs.Constants.{functions-first}
use Rattle.symmetry.proofs.NamedTwins.{named_twins}
use Rattle.symmetry.proofs.Chains.{find_chain, find-chain}

-- what holds of a problem that is read in either mode
pub record Read (p : Problem) : Type 0 where
  pub sheet : Sheet p
  pub symbols : WellFormed (record { symbols = p.symbols; clauses = [] })

-- its functions come first
pub read_first : (p : Problem) → Read p → functions_first p.symbols ≡ true
read_first p r =
    let w = r.symbols in
    ap functions_first w.split ∙ functions-first w.functions w.predicates w.function-kinds w.predicate-kinds

pub read-in : (named : Bool) (sheet : List ℕ) (p : Problem) → read_problem_in named sheet ≡ answer p → Read p
read-in false sheet p e =
    let w : WellFormed p = read_problem-well_formed sheet p e in
    record {
      sheet = record { declared = w.origins; clauses = clauses-ok p w };
      symbols = record {
        functions = w.functions;
        predicates = w.predicates;
        split = w.split;
        function-kinds = w.function-kinds;
        predicate-kinds = w.predicate-kinds;
        function-count = w.function-count;
        predicate-count = w.predicate-count;
        symbols-ok = w.symbols-ok;
        names-differ = w.names-differ;
        origins = w.origins;
        clause-count = omega arith;
        clauses-accepted = refl;
      };
    }
read-in true sheet p e = let t : Taken p = read_named-taken sheet p e in record { sheet = taken-sheet p t; symbols = t.symbols }

pub placed-read : (named : Bool) (sheet : List ℕ) (p : Problem) → placed_in named sheet ≡ answer p → read_problem_in named sheet ≡ answer p
placed-read false sheet p e = problem-read sheet p e
placed-read true sheet p e = named-read sheet p e

-- a search of the sheet as handed in
pub record SearchedWith (used : Bool) (p : Problem) (low high : ℕ) (r : Search) : Type 0 where
  pub from_one : 1 ≤ low
  pub to-eight : high ≤ 8
  pub ordered : low ≤ high
  pub result : search_of p low high (smallest_with used p low high) ≡ r

-- a call that is not refused has read its sheet
pub chain-reads : (named used : Bool) (sheet : List ℕ) (low high work room : ℕ) (r : Search) → find_result_with named used sheet low high work room ≡ answer r
    → (p : Problem) × (read_problem_in named sheet ≡ answer p)
unfolding find_chain
chain-reads named used sheet low high work room r e =
    unbind _ _ r (sym (find-chain named used sheet low high work room) ∙ e) λ (p : Problem) h _. (p, placed-read named sheet p h)

pub searched-with : (named used : Bool) (sheet : List ℕ) (p : Problem) (low high work room : ℕ) (r : Search) → read_problem_in named sheet ≡ answer p
    → find_result_with named used sheet low high work room ≡ answer r → SearchedWith used p low high r
unfolding find_chain
searched-with named used sheet p low high work room r read e =
    unbind _ _ r (sym (find-chain named used sheet low high work room) ∙ e) λ (t : Problem) h₁ e₁.
    unbind _ _ r e₁ λ (u₁ : Unit {0}) h₂ e₂.
    unbind _ _ r e₂ λ (u₂ : Unit {0}) _ e₃.
    unbind _ _ r e₃ λ (u₃ : Unit {0}) _ e₄.
    unbind _ _ r e₄ λ (u₄ : Unit {0}) _ e₅.
    let same : p ≡ t = answer-inj p t (sym read ∙ placed-read named sheet t h₁) in
    let sizes : (leb 1 low && leb high 8 && leb low high) ≡ true = check-true _ (unplaced 8) u₁ h₂ in
    let both : (leb 1 low && leb high 8) ≡ true = and_left (leb 1 low && leb high 8) (leb low high) sizes in
    let from : 1 ≤ low = leb-true 1 low (and_left (leb 1 low) (leb high 8) both) in
    record {
      from_one = from;
      to-eight = leb-true high 8 (and_right (leb 1 low) (leb high 8) both);
      ordered = leb-true low high (and_right (leb 1 low && leb high 8) (leb low high) sizes);
      result = sym ((named_twins p (read-in named sheet p read).sheet).search named used low high from)
          ∙ ap (λ (p : Problem). search_in named (mode_problem named p) low high (smallest_with used (mode_problem named p) low high)) same
          ∙ answer-inj (search_in named (mode_problem named t) low high (smallest_with used (mode_problem named t) low high)) r e₅;
    }
