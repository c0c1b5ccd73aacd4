-- The constant clauses, as the code walks through them; xs has for each constant how many variables come before its own.
use Rattle.std.specs.Prelude.{ℕ, suc, ◌+◌, ◌-◌, min, true, false, List, ◌∷◌, map, length, get_or, take}
use Rattle.theory.specs.Lists.{concat_map, up_to}
use Rattle.theory.specs.Syntax.{Signature}
use Rattle.theory.specs.Propositional.{PropClause}
use Rattle.theory.specs.PropClauses.{Part, some_result}
use Rattle.symmetry.specs.ConstantClauses.{constant_parts}
use Rattle.syntax.specs.declared.signature.Signature as declared
use Rattle.syntax.specs.Signatures.{signature_in}
use Rattle.stream.specs.Consuming.{Effect, Consumes, Consumed}

-- the i-th constant, counted from 0, has the result after d only if an earlier one has d
abbrev pub after_clause : List ℕ → ℕ → ℕ → PropClause
after_clause xs i d = record { positive = false; number = 1 + get_or xs i 0 + suc d } ∷ map (λ x. record { positive = true; number = 1 + x + d }) (take i xs)

-- so for the first n results after the first
abbrev pub step_clauses : List ℕ → ℕ → ℕ → List PropClause
step_clauses xs i n = map (after_clause xs i) (up_to n)

-- its clauses at size s
abbrev pub twin_clauses : ℕ → List ℕ → ℕ → List PropClause
twin_clauses s xs i = some_result (min (suc i) s) (1 + get_or xs i 0) ∷ step_clauses xs i (min (suc i) s - 1)

-- those of all constants
abbrev pub all_twins : ℕ → List ℕ → List PropClause
all_twins s xs = concat_map (twin_clauses s xs) (up_to (length xs))

-- the constant clauses of a signature
unfoldable pub twin_part : ℕ → Signature → List PropClause
twin_part s g = concat_map (λ (p : Part). p.clauses) (constant_parts s g)

-- at x, the constant clauses of y come next
abbrev pub TwinsNext : {S : Type 0} → Effect S → declared.Signature → ℕ → S → Type 0
TwinsNext effect y s x = (sheet : List ℕ) × Consumes effect (twin_part s (signature_in sheet y)) x

-- from x to z, they were taken
abbrev pub TwinsTaken : {S : Type 0} → Effect S → declared.Signature → ℕ → S → S → Type 0
TwinsTaken effect y s x z = (sheet : List ℕ) → Consumed effect (twin_part s (signature_in sheet y)) x z
