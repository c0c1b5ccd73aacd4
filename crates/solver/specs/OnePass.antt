-- A reply read in one pass, line by line and word by word, with a value for each variable that was named: how the code reads.
use Rattle.std.specs.Prelude.{ℕ, pred, Bool, cond, not, List, [], ◌∷◌, set}
use Rattle.std.proofs.Math.Option.{Option, none, some}
use Rattle.theory.specs.Lists.{all, same}
use Rattle.theory.specs.Bytes.{bytes}
use Rattle.theory.specs.Lines.{after_key, cut_words}
use Rattle.theory.specs.Propositional.{PropLiteral}
use Rattle.theory.specs.Walk.{Partial, is_unset, literal_is_unset, bytes_of}
use Rattle.theory.specs.Program.{◌>>?◌}
use Rattle.solver.specs.SolverLines.{cut_lines, is_comment, read_literal, end_word, satisfiable_line, unsatisfiable_line}
use Rattle.solver.specs.Replies.{Reply, claims_none, states}

-- a literal sets its variable, which must be there and unset
abbrev pub set_once : Partial → PropLiteral → Option Partial
set_once π l = cond (literal_is_unset π l) (some (set π (pred l.number) (some l.positive))) none

-- every variable is set
abbrev pub all_set : Partial → Bool
all_set π = all (λ o. not (is_unset o)) π

-- how far a reader is: before the s line; after the claim that there is no model; among the numbers; after the 0
pub data Stage : Type 0 where
  unanswered : Stage
  refuted : Stage
  listing : Stage
  complete : Stage

-- what was read so far: how far, and the values of the variables
pub record Heard : Type 0 where
  pub stage : Stage
  pub values : Partial

-- read so far, with these values
abbrev pub heard : Stage → Partial → Heard
heard t π = record { stage = t; values = π }

-- a literal among the numbers
abbrev pub hear_literal : Partial → PropLiteral → Option Heard
hear_literal π l = set_once π l >>? λ τ. some (heard listing τ)

-- a word among the numbers
unfoldable pub hear_number : Partial → List ℕ → Option Heard
hear_number π w = cond (same w end_word) (some (heard complete π)) (read_literal w >>? hear_literal π)

-- a word of a v line; none is due before the s line, and none after the 0
abbrev pub hear_word : Stage → Partial → List ℕ → Option Heard
hear_word unanswered π w = none
hear_word refuted π w = none
hear_word listing π w = hear_number π w
hear_word complete π w = none

-- words in turn
abbrev pub hear_words : Stage → Partial → List (List ℕ) → Option Heard
hear_words t π [] = some (heard t π)
hear_words t π (w ∷ ws) = hear_word t π w >>? λ h. hear_words h.stage h.values ws

-- a line that is no comment
abbrev pub hear_said : Stage → Partial → List ℕ → Option Heard
hear_said unanswered π l = cond (same l satisfiable_line) (some (heard listing π)) (cond (same l unsatisfiable_line) (some (heard refuted π)) none)
hear_said refuted π l = none
hear_said listing π l = after_key (bytes "v ") l >>? λ r. hear_words listing π (cut_words r)
hear_said complete π l = none

-- a line
unfoldable pub hear_line : Stage → Partial → List ℕ → Option Heard
hear_line t π l = cond (is_comment l) (some (heard t π)) (hear_said t π l)

-- the reply at the end of the text
abbrev pub reply_at : Stage → Partial → Option Reply
reply_at unanswered π = none
reply_at refuted π = some claims_none
reply_at listing π = none
reply_at complete π = cond (all_set π) (some (states (bytes_of π))) none

-- lines in turn, then the reply
abbrev pub hear_lines : Stage → Partial → List (List ℕ) → Option Reply
hear_lines t π [] = reply_at t π
hear_lines t π (l ∷ ls) = hear_line t π l >>? λ h. hear_lines h.stage h.values ls

-- the reply of what is left of a text
unfoldable pub hear : Stage → Partial → List ℕ → Option Reply
hear t π text = cut_lines text >>? λ ls. hear_lines t π ls

-- Each of these steps from what was read so far: one word more,
abbrev pub on_word : List ℕ → Heard → Option Heard
on_word w h = hear_word h.stage h.values w

-- words more,
abbrev pub on_words : List (List ℕ) → Heard → Option Heard
on_words ws h = hear_words h.stage h.values ws

-- one line more that is no comment,
abbrev pub on_said : List ℕ → Heard → Option Heard
on_said l h = hear_said h.stage h.values l

-- one line more,
abbrev pub on_line : List ℕ → Heard → Option Heard
on_line l h = hear_line h.stage h.values l

-- the rest of the text,
abbrev pub on_text : List ℕ → Heard → Option Reply
on_text text h = hear h.stage h.values text

-- or its end
abbrev pub on_end : Heard → Option Reply
on_end h = reply_at h.stage h.values
