-- Examples of renumbering, as one claim that holds by computation (proofs/Examples).
use Rattle.std.specs.Prelude.{ℕ, ◌≡◌, true, false, List, [], ◌∷◌}
use Rattle.theory.specs.Bytes.{bytes}
use Rattle.theory.specs.Syntax.{function, predicate, declared, Signature}
use Rattle.renumbering.specs.Rearrangements.{is_rearrangement, composed, reversed, rearrangements}
use Rattle.renumbering.specs.Renumbering.{renumbered}
use Rattle.renumbering.specs.LeastForm.{least_form}

-- a constant, a function of one argument, a predicate of one argument
abbrev pub symbols : Signature
symbols =
    record { kind = function; name = bytes "a"; arity = 0; origin = declared }
    ∷ record { kind = function; name = bytes "f"; arity = 1; origin = declared }
    ∷ record { kind = predicate; name = bytes "q"; arity = 1; origin = declared }
    ∷ []

-- size 3: a=1, f=2 2 1, q=1 0 0
abbrev pub values : List ℕ
values = 0 ∷ 1 ∷ 1 ∷ 0 ∷ 1 ∷ 0 ∷ 0 ∷ []

-- 1 becomes 3, 2 becomes 1, 3 becomes 2
abbrev pub turn : List ℕ
turn = 2 ∷ 0 ∷ 1 ∷ []

-- the table
pub record Examples : Type 0 where
  pub rearranged : is_rearrangement 3 turn ≡ true
  pub twice : is_rearrangement 3 (2 ∷ 0 ∷ 0 ∷ []) ≡ false
  pub too_large : is_rearrangement 3 (1 ∷ 2 ∷ 3 ∷ []) ≡ false
  pub too_short : is_rearrangement 3 (0 ∷ 1 ∷ []) ≡ false
  -- a=3, f=1 3 1, q=0 0 1
  pub renumbered : renumbered 3 symbols turn values ≡ 2 ∷ 0 ∷ 2 ∷ 0 ∷ 0 ∷ 0 ∷ 1 ∷ []
  pub reversed : reversed 3 turn ≡ 1 ∷ 2 ∷ 0 ∷ []
  pub composed : composed turn (1 ∷ 0 ∷ 2 ∷ []) ≡ 2 ∷ 1 ∷ 0 ∷ []
  pub all : rearrangements 2 ≡ (0 ∷ 1 ∷ []) ∷ (1 ∷ 0 ∷ []) ∷ []
  pub least_form : least_form 3 symbols (2 ∷ 0 ∷ 2 ∷ 0 ∷ 0 ∷ 0 ∷ 1 ∷ []) ≡ values
