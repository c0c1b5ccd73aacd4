-- The explainer program: its output as a function of its input.
use Rattle.std.specs.Prelude.{ℕ, suc, ◌+◌, Bool, true, cond, ◌&&◌, List, [], ◌∷◌, ◌++◌, eqb, take, drop}
use Rattle.std.proofs.Math.Option.{Option, none, some}
use Rattle.theory.specs.Bytes.{bytes, LF, zero_digit, decimal}
use Rattle.theory.specs.Lines.{after_key}
use Rattle.theory.specs.Refusals.{Answer, answer, refused}
use Rattle.theory.specs.CaseText.{equals_sign}
use Rattle.theory.specs.LineForms.{is_some}
use Rattle.theory.specs.Operations.{Reason, explain_answer}
use Rattle.theory.specs.Program.{refusal_text}

-- a case's first line stands here, where a line starts
abbrev pub case_here : Bool → List ℕ → Bool
case_here fresh text = fresh && is_some (after_key (bytes "case=1\n") text)

-- how many bytes stand before the case: it starts with the first line `case=1` and its LF; without such a line it is empty, after all bytes
unfoldable pub case_start : Bool → List ℕ → ℕ
case_start fresh [] = 0
case_start fresh (b ∷ bs) = cond (case_here fresh (b ∷ bs)) 0 (suc (case_start (eqb b LF) bs))

-- a line letter=value: letters from A, values from 1
abbrev pub letter_line : ℕ → ℕ → List ℕ
letter_line x v = (65 + x) ∷ equals_sign ∷ (zero_digit + suc v) ∷ LF ∷ []

-- a line for each letter
unfoldable pub letter_lines : List ℕ → List ℕ → List ℕ
letter_lines [] vs = []
letter_lines (x ∷ xs) [] = []
letter_lines (x ∷ xs) (v ∷ vs) = letter_line x v ++ letter_lines xs vs

-- what is printed for a case that is no model
unfoldable pub reason_text : Reason → List ℕ
reason_text q = (bytes "answer=no\nclause=" ++ decimal q.clause) ++ (LF ∷ letter_lines q.letters q.values)

-- what the program prints for an answer
unfoldable pub explained_text : Answer (Option Reason) → List ℕ
explained_text (answer none) = bytes "answer=yes\n"
explained_text (answer (some q)) = reason_text q
explained_text (refused r) = refusal_text r

-- the answer to an input that is a sheet of n bytes, then a case
abbrev pub explained_from : ℕ → List ℕ → Answer (Option Reason)
explained_from n input = explain_answer (take n input) (drop n input)

-- the output for an input
unfoldable pub explainer : List ℕ → List ℕ
explainer input = explained_text (explained_from (case_start true input) input)
