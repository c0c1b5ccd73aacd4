-- The start and the end of each pass over all clauses of an accepted problem.
use Prim.Native.Nat.{ℕ, ◌+◌, ◌*◌, ◌^◌, ◌≤◌, ◌<◌}
use mathlib.Core.Path.{◌≡◌, refl, sym, subst}
use mathlib.Core.Bool.{true}
use mathlib.Core.List.{List, []}
use native.Mathlib.Omega.{arith}
use lib.ListN.{length}
use Rattle.theory.specs.Lists.{all}
use Rattle.theory.specs.Propositional.{PropClause, prop_count}
use Rattle.theory.specs.Claims.Counts.{is_numbered}
use Rattle.symmetry.specs.ConstantClauses.{prop_clauses_with, instance_count_with}
use Rattle.syntax.specs.declared.limits.Problem.{Problem}
use Rattle.problem.specs.Problems.{problem_in, Accepted}
use Rattle.text.specs.Put.{put-none}
use Rattle.loading.specs.Filling.{area_end}
use Rattle.loading.specs.Loading.{Tallied, Entered}
use Rattle.stream.specs.Literals.{all_codes}
use Rattle.stream.specs.declared.consumer.Measuring.{Measuring}
use Rattle.stream.specs.declared.consumer.Writing.{Writing}
use Rattle.stream.specs.declared.consumer.Tallying.{Tallying}
use Rattle.stream.specs.declared.consumer.Entering.{Entering}
use Rattle.stream.specs.Consuming.{texts, Consumes, Consumed}
use Rattle.stream.specs.Consumers.{MeasuredFirst, measuring, WrittenFirst, writing, AreNumbered, CanTally, TalliedFirst, tallying, CanEnter, EnteredFirst, entering}
use Rattle.stream.proofs.Streams.{stream-begins, stream-ends}
use Rattle.encoding.proofs.Bounds.{clauses-short, clauses-few, literals-few, area-few, all-numbered, texts-few}

module _ (sheet : List ℕ) (p : Problem) (h : Accepted sheet p) (s : ℕ) (high : s ≤ 8)
    (few : instance_count_with p.symmetry s (problem_in sheet p).symbols (problem_in sheet p).clauses ≤ 1000000) (low : 1 ≤ s) where
  -- all clauses, in written order
  abbrev written : List PropClause
  written = prop_clauses_with p.symmetry s (problem_in sheet p).symbols (problem_in sheet p).clauses

  written-numbered : (v : ℕ) → v ≡ prop_count s (problem_in sheet p).symbols → AreNumbered v written
  written-numbered v e = subst (λ (n : ℕ). all (all (is_numbered n)) written ≡ true) (sym e) (all-numbered sheet p h s high few low)

  count-small : length written < 2 ^ 64
  count-small = omega (arith, clauses-few sheet p h s high few low)

  -- Measuring: a start that leaves room is all that is asked.
  module _ (x : Measuring) (room : x.at < 2 ^ 43) (count : x.count ≡ 0) where
    measure-first : MeasuredFirst x [] x
    measure-first = record { at = omega arith; count = count }

    measure-fits : (length written < 2 ^ 64) × (x.at + length (texts written) < 2 ^ 64)
    measure-fits = (count-small, omega (arith, texts-few sheet p h s high few low))

    pub measure-begins : Consumes measuring written x
    measure-begins = stream-begins measuring written x measure-fits measure-first

    pub measure-ends : (y : Measuring) → Consumed measuring written x y → MeasuredFirst x written y
    measure-ends = stream-ends measuring written x measure-fits measure-first

  -- Writing: the text fits in the output.
  module _ (x : Writing) (room : x.at + length (texts written) ≤ length x.output.now) (count : x.count ≡ 0) where
    write-first : WrittenFirst x [] x
    write-first = record { same_reference = refl; at = omega arith; count = count; output = sym (put-none x.output.now x.at) }

    pub write-begins : Consumes writing written x
    write-begins = stream-begins writing written x (count-small, room) write-first

    pub write-ends : (y : Writing) → Consumed writing written x y → WrittenFirst x written y
    write-ends = stream-ends writing written x (count-small, room) write-first

  -- Counting: no clause is counted yet.
  module _ (x : Tallying) (e : x.variables ≡ prop_count s (problem_in sheet p).symbols) (count : x.count ≡ 0) (room : 7 * x.variables ≤ length x.work.now) (none : Tallied x.variables [] x.work.now) where
    tally-first : TalliedFirst x [] x
    tally-first = record { same_reference = refl; variables = refl; count = count; work = none; long = refl }

    tally-fits : CanTally written x
    tally-fits = record { numbered = written-numbered x.variables e; count = count-small; room = room; few = omega (arith, literals-few sheet p h s high few low) }

    pub tally-begins : Consumes tallying written x
    tally-begins = stream-begins tallying written x tally-fits tally-first

    pub tally-ends : (y : Tallying) → Consumed tallying written x y → TalliedFirst x written y
    tally-ends = stream-ends tallying written x tally-fits tally-first

  -- Entering: the blocks are laid out, and no clause is entered yet.
  module _ (x : Entering) (e : x.variables ≡ prop_count s (problem_in sheet p).symbols) (count : x.count ≡ 0) (none : Entered x.variables (all_codes written) [] x.work.now) where
    enter-first : EnteredFirst written x [] x
    enter-first = record { same_reference = refl; variables = refl; count = count; work = none; long = refl }

    enter-fits : CanEnter written x
    enter-fits =
        record {
          numbered = written-numbered x.variables e;
          count = count-small;
          short = clauses-short sheet p h s high;
          room = subst (λ (n : ℕ). area_end n (all_codes written) < 2 ^ 32) (sym e) (area-few sheet p h s high few low);
        }

    pub enter-begins : Consumes entering written x
    enter-begins = stream-begins entering written x enter-fits enter-first

    pub enter-ends : (y : Entering) → Consumed entering written x y → EnteredFirst written x written y
    enter-ends = stream-ends entering written x enter-fits enter-first
