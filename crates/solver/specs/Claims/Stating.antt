-- Stating: which texts state a setting, and which claim that there is none, said without a reader; the reader takes exactly these.
use Rattle.std.specs.Prelude.{ℕ, suc, ◌≡◌, ◌↔◌, true, not, List, [], ◌∷◌, ◌++◌, map, eqb, ltb, length}
use Rattle.std.proofs.Math.Option.{none, some}
use Rattle.theory.specs.Lists.{all, concat_map, select}
use Rattle.theory.specs.Bytes.{bytes, LF, space}
use Rattle.theory.specs.Propositional.{PropLiteral}
use Rattle.theory.specs.Dimacs.{literal_text}
use Rattle.solver.specs.SolverLines.{is_comment, end_word, satisfiable_line, unsatisfiable_line, is_empty}
use Rattle.solver.specs.Replies.{claims_none, states, read_reply}

-- the text is lines, each ended by LF; those that do not begin with c are the given ones, in order
pub record LaidOut (said : List (List ℕ)) (text : List ℕ) : Type 0 where
  pub lines : List (List ℕ)
  pub unbroken : all (all (λ b. not (eqb b LF))) lines ≡ true
  pub ended : concat_map (λ l. l ++ (LF ∷ [])) lines ≡ text
  pub others : select (λ l. not (is_comment l)) lines ≡ said

-- a v line: v, and each of its words after one space
abbrev pub value_line : List (List ℕ) → List ℕ
value_line ws = bytes "v" ++ concat_map (λ w. space ∷ w) ws

-- xs is ys in some order: its first element stands somewhere in ys, and its others are the others of ys in some order
abbrev pub Reordered : {A : Type 0} → List A → List A → Type 0
Reordered [] ys = ys ≡ []
Reordered {A = A} (x ∷ xs) ys = (before after : List A) × (ys ≡ before ++ (x ∷ after)) × Reordered xs (before ++ after)

-- a setting's literals, from variable n on: n where the byte is 1, -n where it is not
abbrev pub setting_literals : ℕ → List ℕ → List PropLiteral
setting_literals n [] = []
setting_literals n (b ∷ σ) = record { positive = eqb b 1; number = n } ∷ setting_literals (suc n) σ

-- the text states the setting: it says s SATISFIABLE, then, split anywhere into v lines, the setting's numbers in any order and 0
pub record States (σ text : List ℕ) : Type 0 where
  pub literals : List PropLiteral
  pub reordered : Reordered (setting_literals 1 σ) literals
  pub groups : List (List (List ℕ))
  pub non_empty : all (λ ws. not (is_empty ws)) groups ≡ true
  pub split : concat_map (λ ws. ws) groups ≡ map literal_text literals ++ (end_word ∷ [])
  pub laid_out : LaidOut (satisfiable_line ∷ map value_line groups) text

-- the text claims that there is no model: it says s UNSATISFIABLE, without v lines
abbrev pub ClaimsNone : List ℕ → Type 0
ClaimsNone text = LaidOut (unsatisfiable_line ∷ []) text

-- the theorem: what is read is what is stated
pub record Stating (v : ℕ) (text : List ℕ) : Type 0 where
  -- a setting of v bytes is read exactly from the texts that state it
  pub setting : (σ : List ℕ) → length σ ≡ v → all (λ b. ltb b 2) σ ≡ true → (read_reply v text ≡ some (states σ)) ↔ States σ text
  -- what is read is such a setting
  pub is_setting : (σ : List ℕ) → read_reply v text ≡ some (states σ) → (length σ ≡ v) × (all (λ b. ltb b 2) σ ≡ true)
  -- the claim that there is none is read exactly from the texts that make it
  pub none : (read_reply v text ≡ some claims_none) ↔ ClaimsNone text

-- it holds of every text
abbrev pub StatingHolds : Type 0
StatingHolds = (v : ℕ) (text : List ℕ) → Stating v text
