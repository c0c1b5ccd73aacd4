-- The variables of a clause that have appeared, and what one occurrence more leaves.
use Rattle.std.specs.Prelude.{ℕ, ◌+◌, ◌≤◌, ◌<◌, ◌≡◌, true, List, [], ◌∷◌, ◌++◌, map, leb, length, take, drop, Some, None, IfSome}
use Rattle.std.specs.Prelude as rust
use Rattle.theory.specs.Lists.{all}
use Rattle.text.specs.Lines.{part}
use Rattle.tptp.specs.Symbols.{Occurrence, of_variable, first_of_name, letter_of_name}
use Rattle.tptp.specs.Tptp.{max_letters}
use Rattle.declaring.specs.declared.letters.Letter.{Letter}
use Rattle.declaring.specs.declared.letters.Letters.{Letters}
use Rattle.declaring.specs.declared.letters.Lettering.{Lettering}

-- the name of a variable
abbrev pub letter_in : List ℕ → Letter → List ℕ
letter_in text y = take y.length (drop y.name text)

-- the names of the variables, A being the first
abbrev pub letters_in : List ℕ → Letters → List (List ℕ)
letters_in text v = map (letter_in text) (take v.count v.names)

-- at most 8 variables, whose names stand within the text
pub record Lettered (text : List ℕ) (v : Letters) : Type 0 where
  pub count : v.count ≤ max_letters
  pub held : v.count ≤ length v.names
  pub names : all (λ (y : Letter). leb (y.name + y.length) (length text)) (take v.count v.names) ≡ true

-- the variables are those of U
abbrev pub LettersOf : List ℕ → List (List ℕ) → Letters → Type 0
LettersOf text U v = letters_in text v ≡ first_of_name (λ y. y) U

-- the occurrence of a variable whose name stands from a place up to another
abbrev pub variable_occurrence : List ℕ → ℕ → ℕ → Occurrence
variable_occurrence text start end = of_variable (record { bytes = part text start end; place = start })

-- the number of a letter, that of a ninth being 8
abbrev pub letter_number : rust.Option Lettering → ℕ
letter_number (Some r) = r.place
letter_number None = max_letters

-- r are the variables with x, whose letter is no ninth
pub record LetteredWith (text : List ℕ) (v : Letters) (x : List ℕ) (r : Lettering) : Type 0 where
  pub within : r.place < max_letters
  pub lettered : Lettered text r.letters
  pub letters : (U : List (List ℕ)) → LettersOf text U v → LettersOf text (U ++ (x ∷ [])) r.letters

-- r is what an occurrence of the variable x makes of the variables: the number of its letter, and the variables with x where that is no ninth
pub record LetterFound (text : List ℕ) (v : Letters) (x : List ℕ) (r : rust.Option Lettering) : Type 0 where
  pub number : (U : List (List ℕ)) → LettersOf text U v → letter_number r ≡ letter_of_name (first_of_name (λ y. y) (U ++ (x ∷ []))) x
  pub taken : IfSome r (λ l. LetteredWith text v x l)
