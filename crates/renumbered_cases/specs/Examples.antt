-- Renumber and Least form by example, from the bytes of a sheet, a case and a list to those of the case left, as one claim that holds by computation (proofs/Examples).
use Rattle.std.specs.Prelude.{ℕ, ◌≡◌, List, [], ◌∷◌}
use Rattle.theory.specs.Bytes.{bytes}
use Rattle.theory.specs.Refusals.{answer, refused, unplaced, at_place, needing}
use Rattle.theory.specs.Operations.{output_after}
use Rattle.theory.specs.Examples.{no_fixed_point, only_a}
use Rattle.theory.specs.SettingExamples.{also_three}
use Rattle.renumbered_cases.specs.RenumberedCases.{renumbered_text, least_form_text}

-- 1 becomes 2, 2 becomes 3, 3 becomes 1
abbrev pub three_cycle : List ℕ
three_cycle = 2 ∷ 3 ∷ 1 ∷ []

-- the case with a 2 and p of 2 and 3, where 2 is numbered 3 and 3 is numbered 1
unfoldable pub renamed : List ℕ
renamed = bytes "case=1\nsize=3\na=3\np=1 0 1\n"

-- the table
pub record Examples : Type 0 where
  -- results and arguments have their new numbers, truth values stay
  pub renumbers : renumbered_text only_a also_three three_cycle 26 ≡ answer renamed
  pub function : renumbered_text no_fixed_point (bytes "case=1\nsize=3\nf=2 1 3\n") (3 ∷ 1 ∷ 2 ∷ []) 22 ≡ answer (bytes "case=1\nsize=3\nf=3 2 1\n")
  pub back : renumbered_text only_a renamed (3 ∷ 1 ∷ 2 ∷ []) 26 ≡ answer also_three
  -- the bytes after the case are as they were
  pub left : output_after (renumbered_text no_fixed_point (bytes "case=1\nsize=1\nf=1\n") (1 ∷ []) 20) (bytes "....................") ≡ bytes "case=1\nsize=1\nf=1\n.."
  -- both have one least form
  pub least : least_form_text only_a also_three 26 ≡ answer (bytes "case=1\nsize=3\na=1\np=1 0 1\n")
  pub least-renamed : least_form_text only_a renamed 26 ≡ answer (bytes "case=1\nsize=3\na=1\np=1 0 1\n")
  -- no rearrangement of 1 to 3: an entry twice, 0, 4, too few, too many, digits for bytes
  pub twice : renumbered_text only_a also_three (1 ∷ 2 ∷ 2 ∷ []) 26 ≡ refused (unplaced 25)
  pub zero : renumbered_text only_a also_three (0 ∷ 2 ∷ 3 ∷ []) 26 ≡ refused (unplaced 25)
  pub over : renumbered_text only_a also_three (2 ∷ 3 ∷ 4 ∷ []) 26 ≡ refused (unplaced 25)
  pub few : renumbered_text only_a also_three (1 ∷ 2 ∷ []) 26 ≡ refused (unplaced 25)
  pub many : renumbered_text only_a also_three (1 ∷ 2 ∷ 3 ∷ 1 ∷ []) 26 ≡ refused (unplaced 25)
  pub digits : renumbered_text only_a also_three (bytes "231") 26 ≡ refused (unplaced 25)
  -- one byte too few, after 25
  pub short : renumbered_text only_a also_three three_cycle 25 ≡ refused (needing 11 26)
  pub listed-first : renumbered_text only_a also_three [] 25 ≡ refused (unplaced 25)
  pub short-least : least_form_text only_a also_three 25 ≡ refused (needing 11 26)
  -- refusals of the sheet and of the case come before these
  pub bad-sheet : renumbered_text (bytes "sheet=1\nfuns=x\n") also_three [] 0 ≡ refused (at_place 2 (record { line = 2; column = 6 }))
  pub bad-case : renumbered_text only_a (bytes "case=1\nsize=3\na=4\np=0 1 1\n") [] 0 ≡ refused (at_place 12 (record { line = 3; column = 3 }))
  pub bad-case-least : least_form_text only_a (bytes "case=1\nsize=3\na=4\np=0 1 1\n") 0 ≡ refused (at_place 12 (record { line = 3; column = 3 }))
