-- A clause flattened has forms.
use Prim.Native.Nat.{ℕ, ◌≤◌}
use mathlib.Core.Path.{◌≡◌, refl, sym, ap, subst, ◌∙◌}
use mathlib.Core.Bool.{true}
use mathlib.Core.List.{List, []}
use native.Mathlib.Omega.{arith}
use lib.ListN.{length, length-map}
use Rattle.theory.specs.Lists.{up_to}
use Rattle.theory.specs.Syntax.{Signature, Clause}
use Rattle.theory.specs.Flattening.{flatten, variable_count}
use Rattle.theory.specs.Flattening as theory
use Rattle.theory.specs.Lifted.{flat_ok, flat_scoped}
use Rattle.theory.proofs.Lists.{length-up_from}
use Rattle.theory.proofs.Limits.{flat-literals}
use Rattle.syntax.specs.declared.words.ClauseWords.{ClauseWords}
use Rattle.syntax.specs.Codes.{clause_in}
use Rattle.syntax.proofs.Clauses.{clause_ok-clause_in}
use Rattle.shallow.specs.Literals.{literal_in}
use Rattle.shallow.specs.Placed.{placed_literal, placed}
use Rattle.flattening.specs.declared.flat.FlatClause.{FlatClause}
use Rattle.flattening.specs.Flat.{WithinLimits, flat_in}
use Rattle.flattening.proofs.PlacedScope.{flattened-scoped, flattened-ok}
use Rattle.valuations.specs.declared.numbering.Numbering.{Numbering}
use Rattle.valuations.specs.Numbers.{NumberingOf}
use Rattle.forms.specs.LinearForms.{Groundable}

-- its literals and variables are counted
count-flat_in : (g : Signature) (r : FlatClause) → length (flat_in g r).literals ≡ r.count
unfolding flat_in
count-flat_in g r = length-map (up_to r.count) (literal_in g r.literals) ∙ length-up_from 0 r.count

variables-flat_in : (g : Signature) (r : FlatClause) → (flat_in g r).news ≡ r.variables
unfolding flat_in
variables-flat_in g r = refl

count-placed : (f : theory.FlatClause) → length (placed f).literals ≡ length f.literals
unfolding placed
count-placed f = length-map f.literals (placed_literal f.owns)

variables-placed : (f : theory.FlatClause) → (placed f).news ≡ variable_count f
unfolding placed
variables-placed f = refl

news-within : (f : theory.FlatClause) → f.news ≤ variable_count f
unfolding variable_count
news-within f = omega arith

module _ {arities : List ℕ} {w : ClauseWords} (s : WithinLimits arities w) (r : FlatClause) (n : Numbering) (size : ℕ) where
  abbrev pub g : Signature
  g = s.clause.signature

  abbrev pub c : Clause
  c = clause_in s.clause.signature w

  pub few-literals : flat_in g r ≡ placed (flatten c) → r.count ≤ 26
  few-literals e =
      omega (
        arith,
        count-flat_in g r,
        ap (λ (f : theory.FlatClause). length f.literals) e,
        count-placed (flatten c),
        flat-literals c,
        news-within (flatten c),
        s.variables,
        s.clause.literals,
      )

  pub few-variables : flat_in g r ≡ placed (flatten c) → r.variables ≤ 10
  few-variables e = omega (arith, variables-flat_in g r, ap (λ (f : theory.FlatClause). f.news) e, variables-placed (flatten c), s.variables)

  pub all-ok : flat_in g r ≡ placed (flatten c) → flat_ok g (flat_in g r).literals ≡ true
  all-ok e = subst (λ (f : theory.FlatClause). flat_ok g f.literals ≡ true) (sym e) (flattened-ok g c (clause_ok-clause_in g w s.clause.clause))

  pub all-scoped : flat_in g r ≡ placed (flatten c) → flat_scoped [] r.variables (flat_in g r).literals ≡ true
  all-scoped e =
      subst (λ (k : ℕ). flat_scoped [] k (flat_in g r).literals ≡ true) (variables-flat_in g r)
      (subst (λ (f : theory.FlatClause). flat_scoped [] f.news f.literals ≡ true) (sym e) (flattened-scoped c))

  -- what `flatten` answers of a clause within the limits
  abbrev pub groundable : flat_in s.clause.signature r ≡ placed (flatten (clause_in s.clause.signature w)) → NumberingOf s.clause.signature size n → size ≤ 8 → Groundable arities r n size
  groundable e numbering h =
      record {
        signature = s.clause.signature;
        table = s.clause.table;
        small = s.clause.small;
        numbering = numbering;
        size = h;
        count = few-literals e;
        few = few-variables e;
        ok = all-ok e;
        scope = all-scoped e;
      }
