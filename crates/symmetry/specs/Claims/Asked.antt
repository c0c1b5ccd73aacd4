-- Asked: what the text says that Write leaves when asked for the constant clauses, on bytes and in both modes.
use Rattle.std.specs.Prelude.{ℕ, ◌≡◌, Bool, true, false, ◌&&◌, List}
use Rattle.theory.specs.Valuation.{satisfies_text, is_valuation, read_back}
use Rattle.theory.specs.Refusals.{answer}
use Rattle.theory.specs.Problem.{Problem}
use Rattle.naming.specs.NamedOperations.{mode_problem, read_problem_in}
use Rattle.symmetry.specs.Obeying.{obeys}
use Rattle.symmetry.specs.SymmetricOperations.{written_text_with}

-- a setting satisfies it exactly if it satisfies the text without them, and the case that it is read back as obeys; helpers do not count, being no constants of the sheet
abbrev pub Asked : Type 0
Asked = (named : Bool) (sheet : List ℕ) (p : Problem) (size room room⁺ : ℕ) (text text⁺ σ : List ℕ) → read_problem_in named sheet ≡ answer p
    → written_text_with named false sheet size room ≡ answer text → written_text_with named true sheet size room⁺ ≡ answer text⁺ → is_valuation size (mode_problem named p).symbols σ ≡ true
    → satisfies_text σ text⁺ ≡ (satisfies_text σ text && obeys size (mode_problem named p).symbols (read_back size (mode_problem named p).symbols σ))
