-- Setting by example, from the bytes of a sheet and a case to those of the setting, as one claim that holds by computation (proofs/SettingExamples).
use Rattle.std.specs.Prelude.{ℕ, ◌≡◌, false, List, [], ◌∷◌}
use Rattle.theory.specs.Bytes.{bytes}
use Rattle.theory.specs.Refusals.{answer, refused, at_place, needing}
use Rattle.theory.specs.Operations.{judge_answer, output_after, read_back_text, setting_text}
use Rattle.theory.specs.Examples.{nothing_at_all, nested_terms, no_fixed_point, only_a}

-- a case of only_a that is no model: a is 2, p holds of 2 and 3
unfoldable pub also_three : List ℕ
also_three = bytes "case=1\nsize=3\na=2\np=0 1 1\n"

-- its setting: a byte for each result of a, then one for each cell of p
unfoldable pub also_three_setting : List ℕ
also_three_setting = 0 ∷ 1 ∷ 0 ∷ 0 ∷ 1 ∷ 1 ∷ []

-- the table
pub record SettingExamples : Type 0 where
  -- a function and a predicate; the case need not be a model, and is read back from its setting
  pub no-model : judge_answer only_a also_three ≡ answer false
  pub function-and-predicate : setting_text only_a also_three 6 ≡ answer also_three_setting
  pub back : read_back_text only_a 3 also_three_setting 100 ≡ answer also_three
  -- the bytes after it are as they were
  pub left : output_after (setting_text only_a (bytes "case=1\nsize=2\na=1\np=1 0\n") 6) (7 ∷ 7 ∷ 7 ∷ 7 ∷ 7 ∷ 7 ∷ []) ≡ 1 ∷ 0 ∷ 1 ∷ 0 ∷ 7 ∷ 7 ∷ []
  -- one cell after the other, a function's with a byte for each result
  pub unary : setting_text no_fixed_point (bytes "case=1\nsize=3\nf=2 1 3\n") 9 ≡ answer (0 ∷ 1 ∷ 0 ∷ 1 ∷ 0 ∷ 0 ∷ 0 ∷ 0 ∷ 1 ∷ [])
  pub several : setting_text nested_terms (bytes "case=1\nsize=2\nf=1 2 2 1\na=2\nb=1\np=0 1 1 0\n") 16
      ≡ answer (1 ∷ 0 ∷ 0 ∷ 1 ∷ 0 ∷ 1 ∷ 1 ∷ 0 ∷ 0 ∷ 1 ∷ 1 ∷ 0 ∷ 0 ∷ 1 ∷ 1 ∷ 0 ∷ [])
  -- V is 0 without symbols, and an empty output is enough
  pub no-symbols : setting_text nothing_at_all (bytes "case=1\nsize=8\n") 0 ≡ answer []
  -- one byte too few, with V at the case's own size as needed length
  pub short : setting_text only_a also_three 5 ≡ refused (needing 11 6)
  -- refusals of the sheet and of the case come before it
  pub bad-sheet : setting_text (bytes "sheet=1\nfuns=x\n") also_three 0 ≡ refused (at_place 2 (record { line = 2; column = 6 }))
  pub bad-case : setting_text only_a (bytes "case=1\nsize=3\na=4\np=0 1 1\n") 0 ≡ refused (at_place 12 (record { line = 3; column = 3 }))
