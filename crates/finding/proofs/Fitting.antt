-- The clauses of a problem at a size that is not refused fit in the work area that W asks for, and are counted and entered in it.
use Prim.Native.Nat.{ℕ, ◌*◌, ◌≤◌, ◌<◌, ◌^◌}
use mathlib.Core.Path.{◌≡◌, sym, ap, ◌∙◌, subst}
use mathlib.Core.Bool.{true}
use mathlib.Core.List.{List, []}
use native.Mathlib.Omega.{arith}
use lib.ListN.{length, replicate, length-map}
use Rattle.theory.specs.Lists.{all}
use Rattle.theory.specs.Propositional.{PropClause, prop_count}
use Rattle.theory.specs.Claims.Counts.{is_numbered}
use Rattle.propagation.specs.Clauses.{codes}
use Rattle.loading.specs.Filling.{area_end}
use Rattle.loading.specs.Loading.{Tallied, Entered, Boundable}
use Rattle.loading.proofs.Ready.{zeros-tallied, area_end-codes}
use Rattle.syntax.specs.declared.limits.Problem.{Problem}
use Rattle.syntax.specs.Signatures.{signature_in}
use Rattle.problem.specs.Problems.{problem_in}
use Rattle.stream.specs.declared.consumer.Tallying.{Tallying}
use Rattle.stream.specs.declared.consumer.Entering.{Entering}
use Rattle.stream.specs.Literals.{all_codes}
use Rattle.stream.specs.Consuming.{Consumes, Consumed}
use Rattle.stream.specs.Consumers.{TalliedFirst, tallying, EnteredFirst, entering}
use Rattle.encoding.proofs.Bounds as bounds
use Rattle.encoding.proofs.Passes as passes
use Rattle.finding.specs.Searching.{Searchable, sheet_clauses}

module _ (sheet : List ℕ) (p : Problem) (size n v : ℕ) (h : Searchable sheet p size n) (e : v ≡ prop_count size (signature_in sheet p.signature)) where
  abbrev cs : List PropClause
  cs = sheet_clauses size sheet p

  same_count : v ≡ prop_count size (problem_in sheet p).symbols
  unfolding problem_in
  same_count = e

  pub numbered : all (all (is_numbered v)) cs ≡ true
  numbered = ap (λ (k : ℕ). all (all (is_numbered k)) cs) same_count ∙ bounds.all-numbered sheet p h.accepted size h.within h.instances h.positive

  variables-small : v < 2 ^ 18
  variables-small = omega (arith, same_count, bounds.variables-few sheet p h.accepted size h.within)

  area-is : area_end v (all_codes cs) ≡ area_end (prop_count size (problem_in sheet p).symbols) (all_codes cs)
  area-is = ap (λ (k : ℕ). area_end k (all_codes cs)) same_count

  area-within : area_end v (all_codes cs) ≤ n
  area-within = omega (arith, area-is, bounds.area-within sheet p h.accepted size h.within h.positive, h.space)

  -- room for all but the clauses
  pub area-room : 7 * v ≤ n
  area-room = omega (arith, area-within, area_end-codes v cs)

  -- the clauses are counted in a work area of zeros
  module _ (x : Tallying) (m : ℕ) (of : x.variables ≡ v) (count : x.count ≡ 0) (zeros : x.work.now ≡ replicate m 0) (long : length x.work.now ≡ n) where
    none-tallied : Tallied x.variables [] x.work.now
    none-tallied = subst (Tallied x.variables []) (sym zeros) (zeros-tallied x.variables m)

    room : 7 * x.variables ≤ length x.work.now
    room = omega (arith, area-room)

    pub tally-begins : Consumes tallying cs x
    tally-begins = passes.tally-begins sheet p h.accepted size h.within h.instances h.positive x (of ∙ same_count) count room none-tallied

    pub tally-ends : (y : Tallying) → Consumed tallying cs x y → TalliedFirst x cs y
    tally-ends = passes.tally-ends sheet p h.accepted size h.within h.instances h.positive x (of ∙ same_count) count room none-tallied

  -- and entered in one where their blocks are laid out
  module _ (x : Entering) (of : x.variables ≡ v) (count : x.count ≡ 0) (none : Entered x.variables (all_codes cs) [] x.work.now) where
    pub enter-begins : Consumes entering cs x
    enter-begins = passes.enter-begins sheet p h.accepted size h.within h.instances h.positive x (of ∙ same_count) count none

    pub enter-ends : (y : Entering) → Consumed entering cs x y → EnteredFirst cs x cs y
    enter-ends = passes.enter-ends sheet p h.accepted size h.within h.instances h.positive x (of ∙ same_count) count none

  -- the blocks of the counted clauses can be laid out
  pub boundable : (m : ℕ) (work : List ℕ) → length cs ≡ m → length work ≡ n → Tallied v (all_codes cs) work → Boundable v m work
  boundable m work k long t =
      record {
        clauses = all_codes cs;
        tallied = t;
        number = length-map cs codes ∙ k;
        small = variables-small;
        room = omega (arith, area-within);
        fits = omega (arith, area-is, bounds.area-few sheet p h.accepted size h.within h.instances h.positive);
      }
