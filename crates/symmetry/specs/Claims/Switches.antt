-- Switches: how the answers under different switches compare, on bytes, whatever work and output are lent.
use Rattle.std.specs.Prelude.{ℕ, ◌≡◌, ◌⊎◌, Bool, true, false, List, []}
use Rattle.theory.specs.Refusals.{Refusal, answer, refused, unplaced, needing}
use Rattle.theory.specs.Problem.{Problem}
use Rattle.theory.specs.Operations.{Search, found, nothing}
use Rattle.naming.specs.NamedOperations.{read_problem_in}
use Rattle.symmetry.specs.Obeying.{constants_first}
use Rattle.symmetry.specs.SymmetricOperations.{content_of_with, find_result_with}

-- a result without its case: the size, or none with the mark
abbrev pub without_case : Search → Search
without_case (found s c) = found s []
without_case (nothing b) = nothing b

-- told yes and told no: two answers of Find to one sheet in one mode, the first told no
pub record Told (sheet : List ℕ) (named : Bool) (low high : ℕ) (r r⁺ : Search) : Type 0 where
  pub work : ℕ
  pub room : ℕ
  pub no : find_result_with named false sheet low high work room ≡ answer r
  pub work⁺ : ℕ
  pub room⁺ : ℕ
  pub yes : find_result_with named true sheet low high work⁺ room⁺ ≡ answer r⁺

-- the theorem
pub record Switches : Type 0 where
  -- plain and mode give the same answer under one switch
  pub same_in_both_modes : (symmetry : Bool) (sheet : List ℕ) (low high work room work⁺ room⁺ : ℕ) (r r⁺ : Search)
      → find_result_with false symmetry sheet low high work room ≡ answer r → find_result_with true symmetry sheet low high work⁺ room⁺ ≡ answer r⁺ → r ≡ r⁺
  -- told yes or no: the same size, or both none with the same mark
  pub same_size : (named : Bool) (sheet : List ℕ) (low high : ℕ) (r r⁺ : Search) → Told sheet named low high r r⁺ → without_case r ≡ without_case r⁺
  -- and the same case where all constants are declared before other functions
  pub same_case : (named : Bool) (sheet : List ℕ) (p : Problem) (low high : ℕ) (r r⁺ : Search) → read_problem_in named sheet ≡ answer p → constants_first p.symbols ≡ true
      → Told sheet named low high r r⁺ → r ≡ r⁺
  -- where Find told yes is not refused, told no it is not
  pub not_refused : (named : Bool) (sheet : List ℕ) (low high work room : ℕ) (r⁺ : Search) → find_result_with named true sheet low high work room ≡ answer r⁺
      → (r : Search) × (find_result_with named false sheet low high work room ≡ answer r)
  -- where told no it is not refused, told yes it is refused with 9 or 10 at most
  pub refused_more : (named : Bool) (sheet : List ℕ) (low high work room : ℕ) (r : Search) (e : Refusal) → find_result_with named false sheet low high work room ≡ answer r
      → find_result_with named true sheet low high work room ≡ refused e → (e ≡ unplaced 9) ⊎ ((w : ℕ) × (e ≡ needing 10 w))
  -- likewise Write for its content: asked, it takes what it takes not asked, or refuses it with 9
  pub content_taken : (named : Bool) (sheet : List ℕ) (size : ℕ) (p : Problem) → content_of_with named true sheet size ≡ answer p → content_of_with named false sheet size ≡ answer p
  pub content_refused : (named : Bool) (sheet : List ℕ) (size : ℕ) (p : Problem) (e : Refusal) → content_of_with named false sheet size ≡ answer p
      → content_of_with named true sheet size ≡ refused e → e ≡ unplaced 9
