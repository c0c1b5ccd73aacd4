-- The sizes from low to high, one after the other: what is left of them gives what all give.
use Prim.Native.Nat.{ℕ, suc, ◌+◌, ◌-◌, ◌≤◌, ◌<◌}
use mathlib.Core.Path.{◌≡◌, refl, ap, ◌∙◌}
use mathlib.Core.Bool.{Bool, true}
use mathlib.Core.Option.{none, some}
use mathlib.Core.List.{List}
use native.Mathlib.Omega.{arith}
use Rattle.theory.specs.Lists.{all, up_from}
use Rattle.theory.specs.Syntax.{clause_ok}
use Rattle.theory.specs.Problem as theory
use Rattle.theory.specs.CaseText.{case_length}
use Rattle.theory.proofs.Monotone.{case_length-grows}
use Rattle.naming.specs.NamedProblem.{shown_symbols}
use Rattle.symmetry.proofs.ConstantClauses.{constant_clauses}
use Rattle.allowance.specs.AllowedWalk.{WalkEnd, ended, stopped, searched_within}
use Rattle.allowance.specs.AllowedSearch.{case_of, Allowed, answered, stopped_at, before, size_within, sizes_within, search_within}
use Rattle.syntax.specs.declared.limits.Problem.{Problem}
use Rattle.problem.specs.Problems.{problem_in}
use Rattle.encoding.proofs.Bounds as bounds
use Rattle.ranges.specs.declared.size_range.SizeRange.{SizeRange}
use Rattle.finding.specs.Searching.{Searchable}
use Rattle.finding.specs.Ending.{SearchableUpTo}

-- the clauses of a problem that was read are over its signature
pub clauses-over : (sheet : List ℕ) (p : Problem) (size n : ℕ) → Searchable sheet p size n → all (clause_ok (problem_in sheet p).symbols) (problem_in sheet p).clauses ≡ true
clauses-over sheet p size n h = bounds.clauses-over sheet p h.accepted size h.within

module _ (sheet : List ℕ) (p : Problem) (r : SizeRange) (work room : ℕ) (h : SearchableUpTo sheet p r.high.0 work room) (size : ℕ) (above : r.low.0 ≤ size) (below : size ≤ r.high.0) where
  abbrev q : theory.Problem
  q = problem_in sheet p

  -- a smaller size is not refused either
  pub size-searchable : Searchable sheet p size work
  size-searchable =
      record {
        accepted = h.searchable.accepted;
        bytes = h.searchable.bytes;
        shows = h.searchable.shows;
        positive = omega (arith, r.positive);
        within = omega (arith, h.searchable.within);
        instances = omega (arith, h.searchable.instances, constant_clauses.instances_grow p.symmetry size r.high.0 q.symbols q.clauses below);
        space = omega (arith, h.searchable.space, constant_clauses.work_grows p.symmetry size r.high.0 q.symbols q.clauses below);
      }

  pub size-case : case_length size (shown_symbols q.symbols) ≤ room
  size-case = omega (arith, h.case, case_length-grows size r.high.0 below (shown_symbols q.symbols))

before-none : (w : Allowed) → w ≡ before 0 w
before-none (answered o m) = let e : m ≡ 0 + m = omega arith in ap (answered o) e
before-none (stopped_at s) = refl

before-before : (m n : ℕ) (w : Allowed) → before m (before n w) ≡ before (m + n) w
before-before m n (answered o k) = let e : m + (n + k) ≡ m + n + k = omega arith in ap (answered o) e
before-before m n (stopped_at s) = refl

-- The search with an allowance, with the constant clauses or without them.
module _ (used : Bool) (p : theory.Problem) (high : ℕ) where
  -- over the sizes from this one on, with so many choices left
  abbrev pub remaining : ℕ → ℕ → Allowed
  remaining size left = sizes_within used p (up_from size (suc high - size)) left

  pub remaining-all : (low a : ℕ) → search_within used p low high a ≡ before 0 (remaining low (a - 0))
  unfolding search_within
  remaining-all low a = let e : a ≡ a - 0 = omega arith in ap (remaining low) e ∙ before-none (remaining low (a - 0))

  module _ (size made a : ℕ) where
    -- after the choices made, the rest of the allowance is left for these sizes
    module _ (le : size ≤ high) where
      remaining-ends : (e : WalkEnd) → searched_within used size p (a - made) ≡ e
          → before made (remaining size (a - made)) ≡ before made (size_within size p (a - made) e (remaining (suc size)))
      remaining-ends e h =
          let m : suc high - size ≡ suc (suc high - suc size) = omega arith in
          ap (λ (k : ℕ). before made (sizes_within used p (up_from size k) (a - made))) m
          ∙ ap (λ (e : WalkEnd). before made (size_within size p (a - made) e (remaining (suc size)))) h

      pub remaining-stopped : searched_within used size p (a - made) ≡ stopped → before made (remaining size (a - made)) ≡ stopped_at size
      remaining-stopped h = remaining-ends stopped h

      pub remaining-found : (σ : List ℕ) (n : ℕ) → searched_within used size p (a - made) ≡ ended (some σ) n
          → before made (remaining size (a - made)) ≡ answered (some (case_of size p σ)) (made + n)
      remaining-found σ n h = remaining-ends (ended (some σ) n) h

      pub remaining-on : (n : ℕ) → searched_within used size p (a - made) ≡ ended none n
          → before made (remaining size (a - made)) ≡ before (made + n) (remaining (suc size) (a - (made + n)))
      remaining-on n h =
          let d : a - made - n ≡ a - (made + n) = omega arith in
          remaining-ends (ended none n) h
          ∙ before-before made n (remaining (suc size) (a - made - n))
          ∙ ap (λ (l : ℕ). before (made + n) (remaining (suc size) l)) d

    pub remaining-done : high < size → before made (remaining size (a - made)) ≡ answered none made
    remaining-done lt =
        let e : suc high - size ≡ 0 = omega arith in
        let m : made + 0 ≡ made = omega arith in
        ap (λ (k : ℕ). before made (sizes_within used p (up_from size k) (a - made))) e ∙ ap (answered none) m
