-- Whether the constant clauses are used is no part of what was read.
use mathlib.Core.Path.{◌≡◌, refl}
use mathlib.Core.Bool.{Bool}
use mathlib.Core.List.{List}
use Prim.Native.Nat.{ℕ}
use Rattle.syntax.specs.declared.limits.Problem.{Problem}
use Rattle.problem.specs.Problems.{problem_in, Accepted}

-- the problem, told so
abbrev pub told : Bool → Problem → Problem
told b p = record { signature = p.signature; functions = p.functions; clauses = p.clauses; count = p.count; terms = p.terms; symmetry = b }

pub accepted-told : (sheet : List ℕ) (p : Problem) (b : Bool) → Accepted sheet p → Accepted sheet (told b p)
unfolding problem_in
accepted-told sheet p b h =
    record {
      readable = h.readable;
      functions = h.functions;
      count = h.count;
      few = h.few;
      behind = h.behind;
      helpers = h.helpers;
      most = h.most;
      held = h.held;
      lines = h.lines;
      terms = h.terms;
      found = h.found;
      within = h.within;
    }

pub problem-told : (sheet : List ℕ) (p : Problem) (b : Bool) → problem_in sheet (told b p) ≡ problem_in sheet p
unfolding problem_in
problem-told sheet p b = refl
