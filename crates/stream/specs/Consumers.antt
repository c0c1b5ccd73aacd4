-- What becomes of a stream's clauses, consumer by consumer.
use Rattle.std.specs.Prelude.{ℕ, ◌+◌, ◌*◌, ◌^◌, ◌≤◌, ◌<◌, ◌≡◌, true, List, ltb, length}
use Rattle.theory.specs.Lists.{all}
use Rattle.theory.specs.Propositional.{PropClause}
use Rattle.theory.specs.Claims.Counts.{is_numbered}
use Rattle.text.specs.Put.{put}
use Rattle.loading.specs.Filling.{literals, area_end}
use Rattle.loading.specs.Loading.{Tallied, Entered}
use Rattle.stream.specs.Literals.{all_codes}
use Rattle.stream.specs.Consuming.{Effect, texts}
use Rattle.stream.specs.declared.consumer.Measuring.{Measuring}
use Rattle.stream.specs.declared.consumer.Writing.{Writing}
use Rattle.stream.specs.declared.consumer.Tallying.{Tallying}
use Rattle.stream.specs.declared.consumer.Entering.{Entering}

-- the first clauses are measured: how many they are and how long their lines
pub record MeasuredFirst (start : Measuring) (cs : List PropClause) (x : Measuring) : Type 0 where
  pub at : x.at ≡ start.at + length (texts cs)
  pub count : x.count ≡ length cs

-- measuring: the number of clauses and the place behind their lines are below 2 ^ 64
abbrev pub measuring : Effect Measuring
measuring =
    record {
      fits = λ cs start. (length cs < 2 ^ 64) × (start.at + length (texts cs) < 2 ^ 64);
      after = λ cs start before x. MeasuredFirst start before x;
    }

-- the first clauses are written: their lines stand in the output, and their number is known
pub record WrittenFirst (start : Writing) (cs : List PropClause) (x : Writing) : Type 0 where
  pub same_reference : x.output.ghost_name ≡ start.output.ghost_name
  pub at : x.at ≡ start.at + length (texts cs)
  pub count : x.count ≡ length cs
  pub output : x.output.now ≡ put start.output.now start.at (texts cs)

-- writing: the lines have room in the output
abbrev pub writing : Effect Writing
writing =
    record {
      fits = λ cs start. (length cs < 2 ^ 64) × (start.at + length (texts cs) ≤ length start.output.now);
      after = λ cs start before x. WrittenFirst start before x;
    }

-- every literal of the clauses is one of so many variables'
abbrev pub AreNumbered : ℕ → List PropClause → Type 0
AreNumbered v cs = all (all (is_numbered v)) cs ≡ true

-- the first clauses are tallied: how often each literal occurs in them, and how many they are
pub record TalliedFirst (start : Tallying) (cs : List PropClause) (x : Tallying) : Type 0 where
  pub same_reference : x.work.ghost_name ≡ start.work.ghost_name
  pub variables : x.variables ≡ start.variables
  pub count : x.count ≡ length cs
  pub work : Tallied start.variables (all_codes cs) x.work.now
  pub long : length x.work.now ≡ length start.work.now

-- all clauses can be tallied: their variables and literals are few enough, and the work area has room
pub record CanTally (cs : List PropClause) (start : Tallying) : Type 0 where
  pub numbered : AreNumbered start.variables cs
  pub count : length cs < 2 ^ 64
  pub room : 7 * start.variables ≤ length start.work.now
  pub few : literals (all_codes cs) < 2 ^ 32

-- tallying: the first pass over the clauses of a search
abbrev pub tallying : Effect Tallying
tallying = record { fits = CanTally; after = λ cs start before x. TalliedFirst start before x }

-- the first clauses, of all, are entered into the work area, and their number is known
pub record EnteredFirst (all : List PropClause) (start : Entering) (cs : List PropClause) (x : Entering) : Type 0 where
  pub same_reference : x.work.ghost_name ≡ start.work.ghost_name
  pub variables : x.variables ≡ start.variables
  pub count : x.count ≡ length cs
  pub work : Entered start.variables (all_codes all) (all_codes cs) x.work.now
  pub long : length x.work.now ≡ length start.work.now

-- all clauses can be entered: none has 64 literals or more, and their area is short enough
pub record CanEnter (cs : List PropClause) (start : Entering) : Type 0 where
  pub numbered : AreNumbered start.variables cs
  pub count : length cs < 2 ^ 64
  pub short : all (λ (c : PropClause). ltb (length c) 64) cs ≡ true
  pub room : area_end start.variables (all_codes cs) < 2 ^ 32

-- entering: the second pass
abbrev pub entering : Effect Entering
entering = record { fits = CanEnter; after = EnteredFirst }
