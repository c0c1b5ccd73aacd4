-- The line and the column of a byte of a text, and refusals that name them.
use Rattle.std.specs.Prelude.{ℕ, zero, suc, Bool, true, false, cond, List, [], ◌∷◌, eqb}
use Rattle.theory.specs.Bytes.{LF}
use Rattle.theory.specs.Refusals.{Place, Answer, refused, at_place}

-- line and column after n more bytes of a text, from line l and column c on: only LF ends a line
abbrev pub place_from : List ℕ → ℕ → ℕ → ℕ → Place
place_from [] zero l c = record { line = l; column = c }
place_from [] (suc n) l c = record { line = l; column = c }
place_from (b ∷ bs) zero l c = record { line = l; column = c }
place_from (b ∷ bs) (suc n) l c = elim (eqb b LF) [ true ↦ place_from bs n (suc l) 1 | false ↦ place_from bs n l (suc c) ]

-- line and column of the byte with n bytes before it
unfoldable pub place_of : List ℕ → ℕ → Place
place_of text n = place_from text n 1 1

-- refusal number m at the byte with n bytes before it
abbrev pub refused_at : {A : Type 0} → List ℕ → ℕ → ℕ → Answer A
refused_at text m n = refused (at_place m (place_of text n))
