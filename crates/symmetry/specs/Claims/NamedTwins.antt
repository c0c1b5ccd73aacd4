-- NamedTwins: the constant clauses in the mode of named terms are those of the sheet's constants, so what is searched for in the mode shows what is searched for in the sheet as handed in.
use Rattle.std.specs.Prelude.{ℕ, zero, ◌<◌, ◌≡◌, Bool, List}
use Rattle.theory.specs.Problem.{Problem}
use Rattle.theory.specs.Operations.{search_of}
use Rattle.theory.specs.Claims.Walk.{read_back_found}
use Rattle.naming.specs.NamedProblem.{in_mode, shown_values}
use Rattle.naming.specs.NamedOperations.{mode_problem}
use Rattle.naming.specs.Claims.Naming.{Sheet}
use Rattle.naming.specs.Claims.Finding.{shown_found}
use Rattle.symmetry.specs.ConstantClauses.{constant_places}
use Rattle.symmetry.specs.Obeying.{obeys, least_with, smallest_with, searched_with}
use Rattle.symmetry.specs.SymmetricOperations.{search_in}

-- the theorem, of one problem
pub record NamedTwins (p : Problem) : Type 0 where
  -- helpers are no declared constants
  pub constants : constant_places (in_mode p).symbols ≡ constant_places p.symbols
  -- cell values of the mode obey exactly if what the case shows obeys
  pub obeying : (s : ℕ) (ws : List ℕ) → obeys s (in_mode p).symbols ws ≡ obeys s p.symbols (shown_values s (in_mode p).symbols ws)
  -- the least model that is searched for in the mode shows the sheet's, with one switch on both sides
  pub least : (used : Bool) (s : ℕ) → zero < s → shown_found s (in_mode p).symbols (least_with used s (in_mode p)) ≡ least_with used s p
  -- and the walk finds it
  pub walk : (used : Bool) (s : ℕ) → zero < s → shown_found s (in_mode p).symbols (read_back_found s (in_mode p) (searched_with used s (in_mode p)).answer) ≡ least_with used s p
  -- the result in either mode is the sheet's
  pub search : (named used : Bool) (low high : ℕ) → zero < low
      → search_in named (mode_problem named p) low high (smallest_with used (mode_problem named p) low high) ≡ search_of p low high (smallest_with used p low high)

-- it holds of every problem that a sheet says
abbrev pub NamedTwinsHold : Type 0
NamedTwinsHold = (p : Problem) → Sheet p → NamedTwins p
