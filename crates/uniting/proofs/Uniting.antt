-- The lines of both sheets joined kind by kind: their text, its length, and how it is written.
use Prim.Native.Nat.{ℕ, ◌+◌, ◌≤◌}
use mathlib.Core.Path.{◌≡◌, ◌∙◌}
use mathlib.Core.List.{List, [], ◌++◌, append_assoc}
use native.Mathlib.Omega.{arith}
use lib.ListN.{length, length-append}
use Rattle.theory.specs.Bytes.{bytes}
use Rattle.theory.specs.SheetText.{line}
use Rattle.text.specs.Put.{put}
use Rattle.sheet_text.proofs.LinesWritten.{same_text, two-written}
use Rattle.sheet_merging.specs.Sheets.{section_text}
use Rattle.uniting.specs.declared.joins.Join.{Join}
use Rattle.uniting.specs.declared.united.United.{United}
use Rattle.uniting.specs.Joins.{joined_lines, JoinOf}
use Rattle.uniting.specs.United.{JoinsOf, Small, Moderate, measured_length, united_text}
use Rattle.uniting.proofs.Sections.{section-measured}

module _ (first second : List ℕ) (u : United) (h : JoinsOf first second u) where
  abbrev heading : List ℕ
  heading = line (bytes "sheet=1") []

  abbrev F : List ℕ
  F = section_text (bytes "funs=") (joined_lines first second u.functions)

  abbrev P : List ℕ
  P = section_text (bytes "preds=") (joined_lines first second u.predicates)

  abbrev C : List ℕ
  C = section_text (bytes "clauses=") (joined_lines first second u.clauses)

  pub united-lengths : length (united_text first second u) ≡ 8 + length F + length P + length C
  unfolding united_text
  united-lengths = omega (arith, length-append heading (F ++ (P ++ C)), length-append F (P ++ C), length-append P C)

  -- each part fits where the whole does
  module _ (n : ℕ) (room : length (united_text first second u) ≤ n) where
    pub heading-fits : 0 + length heading ≤ n
    heading-fits = omega (arith, room, united-lengths)

    module _ (a : ℕ) where
      pub functions-fit : a ≡ 0 + length heading → a + length F ≤ n
      functions-fit e = omega (arith, room, united-lengths, e)

      module _ (b : ℕ) where
        pub predicates-fit : a ≡ 0 + length heading → b ≡ a + length F → b + length P ≤ n
        predicates-fit e f = omega (arith, room, united-lengths, e, f)

        pub clauses-fit : (c : ℕ) → a ≡ 0 + length heading → b ≡ a + length F → c ≡ b + length P → c + length C ≤ n
        clauses-fit c e f g = omega (arith, room, united-lengths, e, f, g)

  pub united-measured : measured_length u ≡ length (united_text first second u)
  united-measured =
      omega (
        arith,
        united-lengths,
        section-measured first second (bytes "funs=") u.functions h.functions,
        section-measured first second (bytes "preds=") u.predicates h.predicates,
        section-measured first second (bytes "clauses=") u.clauses h.clauses,
      )

  pub united-moderate : Moderate u
  united-moderate =
      let small : (j : Join) → JoinOf first second j → Small j = λ j k. record { few = k.few; short = k.short } in
      record { functions = small u.functions h.functions; predicates = small u.predicates h.predicates; clauses = small u.clauses h.clauses }

  pub united-written : (out out₁ out₂ out₃ out₄ : List ℕ) (a b c d : ℕ) → length (united_text first second u) ≤ length out
      → out₁ ≡ put out 0 heading → a ≡ 0 + length heading → out₂ ≡ put out₁ a F → b ≡ a + length F → out₃ ≡ put out₂ b P → c ≡ b + length P → out₄ ≡ put out₃ c C → d ≡ c + length C
      → out₄ ≡ put out 0 (united_text first second u)
  unfolding united_text
  united-written out out₁ out₂ out₃ out₄ a b c d room p₁ n₁ p₂ n₂ p₃ n₃ p₄ n₄ =
      let l₁ = length-append heading F in
      let l₂ = length-append (heading ++ F) P in
      let l₃ = length-append ((heading ++ F) ++ P) C in
      let two = two-written out out₁ out₂ 0 a b heading F (omega (arith, united-lengths, l₁)) p₁ n₁ p₂ n₂ in
      let three = two-written out out₂ out₃ 0 b c (heading ++ F) P (omega (arith, united-lengths, l₁, l₂)) two.0 two.1 p₃ n₃ in
      let four = two-written out out₃ out₄ 0 c d ((heading ++ F) ++ P) C (omega (arith, united-lengths, l₁, l₂, l₃)) three.0 three.1 p₄ n₄ in
      let whole : ((heading ++ F) ++ P) ++ C ≡ heading ++ (F ++ (P ++ C)) = append_assoc (heading ++ F) P C ∙ append_assoc heading F (P ++ C) in
      (same_text out out₄ 0 d (((heading ++ F) ++ P) ++ C) (heading ++ (F ++ (P ++ C))) whole four.0 four.1).0
