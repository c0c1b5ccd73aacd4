-- The answer to a clean text, by the length of its sheet.
use Prim.Native.Nat.{ℕ, ◌≤◌, ◌<◌}
use mathlib.Core.Path.{◌≡◌, refl, sym, ap, ◌∙◌}
use mathlib.Core.Bool.{Bool, true, false, cond}
use mathlib.Core.List.{List}
use native.Mathlib.Omega.{arith}
use lib.Dec.{ltb, leb}
use lib.ListN.{length}
use borrow.Author.Tests.{lt-ltb, le-ltb, le-leb, lt-leb}
use Rattle.theory.specs.Refusals.{answer, refused, needing}
use Rattle.tptp.specs.Places.{refused_at}
use Rattle.tptp.specs.Tptp.{tptp_text}
use Rattle.tptp.specs.Claims.Deciding.{sheet_of}
use Rattle.tptp.proofs.Deciding.{by_bytes}
use Rattle.importing.specs.declared.survey.Survey.{Survey}
use Rattle.importing.specs.Surveys.{CleanSurvey}

module _ (text : List ℕ) (r : Survey) (k : CleanSurvey text r) (n room : ℕ) (e : n ≡ length (sheet_of text)) where
  -- by the two tests
  by_tests : (a b : Bool) → ltb 16384 (length (sheet_of text)) ≡ a → leb (length (sheet_of text)) room ≡ b
      → tptp_text text room ≡ cond a (refused_at text 17 (length text)) (cond b (answer (sheet_of text)) (refused (needing 11 (length (sheet_of text)))))
  by_tests a b h j =
      by_bytes text room k.clean k.foreign
      ∙ ap (λ (c : Bool). cond c (refused_at text 17 (length text)) (cond (leb (length (sheet_of text)) room) (answer (sheet_of text)) (refused (needing 11 (length (sheet_of text)))))) h
      ∙ ap (λ (c : Bool). cond a (refused_at text 17 (length text)) (cond c (answer (sheet_of text)) (refused (needing 11 (length (sheet_of text)))))) j

  pub too_large : 16384 < n → tptp_text text room ≡ refused_at text 17 (length text)
  too_large h = by_tests true (leb (length (sheet_of text)) room) (lt-ltb 16384 (length (sheet_of text)) (omega (arith, h, e))) refl

  module _ (small : n ≤ 16384) where
    pub no_room : room < n → tptp_text text room ≡ refused (needing 11 n)
    no_room h =
        by_tests false false (le-ltb 16384 (length (sheet_of text)) (omega (arith, small, e))) (lt-leb (length (sheet_of text)) room (omega (arith, h, e))) ∙ ap (λ (m : ℕ). refused (needing 11 m)) (sym e)

    pub taken : n ≤ room → tptp_text text room ≡ answer (sheet_of text)
    taken h = by_tests false true (le-ltb 16384 (length (sheet_of text)) (omega (arith, small, e))) (le-leb (length (sheet_of text)) room (omega (arith, h, e)))
