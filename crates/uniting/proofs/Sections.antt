-- A count and the lines counted, as they are written: the count's line, the first sheet's own lines, the second's that are new.
use Prim.Native.Nat.{ℕ, ◌+◌, ◌≤◌}
use mathlib.Core.Path.{◌≡◌, sym, ap, ◌∙◌}
use mathlib.Core.List.{List, ◌++◌, append_assoc}
use native.Mathlib.Omega.{arith}
use lib.ListN.{length, length-append}
use Rattle.theory.specs.Lists.{same, concat_map}
use Rattle.theory.specs.Bytes.{decimal}
use Rattle.theory.specs.SheetText.{line}
use Rattle.theory.proofs.Lists.{concat_map-append}
use Rattle.text.specs.Put.{put}
use Rattle.text.specs.Lines.{part}
use Rattle.sheet_text.proofs.LinesWritten.{same_text, two-written}
use Rattle.sheet_merging.specs.Sheets.{ended, section_text}
use Rattle.sheet_merging.specs.Merging.{new_to}
use Rattle.uniting.specs.declared.joins.Join.{Join}
use Rattle.uniting.specs.Runs.{run_lines}
use Rattle.uniting.specs.Joins.{new_text, JoinOf, joined_lines}
use Rattle.uniting.proofs.LineRuns.{run-part}

module _ (first second key : List ℕ) (j : Join) (h : JoinOf first second j) where
  abbrev X : List (List ℕ)
  X = run_lines first j.first

  abbrev new : List ℕ
  new = new_text X (run_lines second j.second)

  abbrev head : List ℕ
  head = line key (decimal j.all.count)

  abbrev own : List ℕ
  own = part first j.first.from j.first.to

  pub section-parts : head ++ (own ++ new) ≡ section_text key (joined_lines first second j)
  section-parts =
      ap (λ (n : ℕ). line key (decimal n) ++ (own ++ new)) h.measured.count
      ∙ ap (λ (t : List ℕ). line key (decimal (length (joined_lines first second j))) ++ (t ++ new)) (run-part first j.first h.own)
      ∙ ap (λ (t : List ℕ). line key (decimal (length (joined_lines first second j))) ++ t) (sym (concat_map-append ended X (new_to same X (run_lines second j.second))))

  pub section-lengths : length (section_text key (joined_lines first second j)) ≡ length head + length own + length new
  section-lengths = omega (arith, ap length section-parts, length-append head (own ++ new), length-append own new)

  pub section-measured : length (section_text key (joined_lines first second j)) ≡ length head + j.all.bytes
  section-measured =
      let J : List (List ℕ) = joined_lines first second j in
      length-append (line key (decimal (length J))) (concat_map ended J)
      ∙ ap (λ (n : ℕ). length (line key (decimal n)) + length (concat_map ended J)) (sym h.measured.count)
      ∙ ap (λ (n : ℕ). length head + n) (sym h.measured.bytes)

  pub section-written : (out out₁ out₂ out₃ : List ℕ) (at a b e : ℕ) → at + length (section_text key (joined_lines first second j)) ≤ length out
      → out₁ ≡ put out at head → a ≡ at + length head → out₂ ≡ put out₁ a own → b ≡ a + length own → out₃ ≡ put out₂ b new → e ≡ b + length new
      → (out₃ ≡ put out at (section_text key (joined_lines first second j))) × (e ≡ at + length (section_text key (joined_lines first second j)))
  section-written out out₁ out₂ out₃ at a b e room p₁ n₁ p₂ n₂ p₃ n₃ =
      let front = two-written out out₁ out₂ at a b head own (omega (arith, section-lengths, length-append head own)) p₁ n₁ p₂ n₂ in
      let whole : (head ++ own) ++ new ≡ section_text key (joined_lines first second j) = append_assoc head own new ∙ section-parts in
      let all = two-written out out₂ out₃ at b e (head ++ own) new (omega (arith, ap length whole)) front.0 front.1 p₃ n₃ in
      same_text out out₃ at e ((head ++ own) ++ new) (section_text key (joined_lines first second j)) whole all.0 all.1
