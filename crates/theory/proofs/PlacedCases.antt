-- A case's refusal with its column: the bytes up to its place are no more than 24,903, so that neither line nor column is far.
use Prim.Native.Nat.{ℕ, zero, suc, ◌+◌, ◌≤◌}
use mathlib.Core.Path.{◌≡◌, refl, sym, ap, ◌∙◌}
use mathlib.Core.Bool.{true}
use mathlib.Core.List.{List, ◌∷◌}
use native.Mathlib.Omega.{arith}
use lib.ListN.{length, length-append}
use Rattle.theory.specs.Lists.{all}
use Rattle.theory.specs.Bytes.{LF}
use Rattle.theory.specs.Lines.{Cut, cut_line}
use Rattle.theory.specs.Syntax.{Symbol, Signature}
use Rattle.theory.specs.Refusals.{Refusal, answer, refused, at_line}
use Rattle.theory.specs.Problem.{Problem, read_problem}
use Rattle.theory.specs.CaseText.{case_length, read_case}
use Rattle.theory.specs.DueLines.{rest_or, from_line}
use Rattle.theory.specs.Columns.{byte_column, case_column, placed_case}
use Rattle.theory.proofs.Lines.{in_line, cut-only}
use Rattle.theory.proofs.Parsing.{read_problem-well_formed, names-without}
use Rattle.theory.proofs.CaseLengths.{longest-case}
use Rattle.theory.proofs.CaseRefusals.{case-refusal}
use Rattle.theory.proofs.LinesBefore.{Cuts}
use Rattle.theory.proofs.CaseFaults.{case-misfit}
use Rattle.theory.proofs.CasePlaces.{PlacedWithin, case-within}
use Rattle.theory.proofs.PlacedReading.{plain-case}

-- each line before has its LF
lines-before : (l : ℕ) (text : List ℕ) → Cuts l text → l + length (from_line l text) ≤ length text
lines-before zero text c = omega arith
lines-before (suc l) text c =
    let p : Cut = c.0 in
    let rest : rest_or (cut_line text) ≡ p.1 = ap rest_or c.1 in
    omega (
      arith,
      lines-before l p.1 c.2,
      ap (λ (t : List ℕ). length (from_line l t)) rest,
      ap length (cut-only text p c.1),
      length-append p.0 (LF ∷ p.1),
    )

module _ (sheet : List ℕ) (p : Problem) (read : read_problem sheet ≡ answer p) where
  abbrev g : Signature
  g = p.symbols

  names : all (λ (f : Symbol). all in_line f.name) g ≡ true
  names = names-without p (read_problem-well_formed sheet p read) LF refl

  -- the lines before the one that is refused are ended by LF
  pub line-cuts : (text : List ℕ) (l : ℕ) → read_case g text ≡ refused (at_line 12 (suc l)) → Cuts l text
  line-cuts text l e = (case-misfit g text names l e).cuts

  -- a refusal is that of a line; the bytes before it and its good bytes are no more than the longest case's
  refused-within : (text : List ℕ) (r : Refusal) → read_case g text ≡ refused r → PlacedWithin g text names 24902 r
  unfolding case_length
  refused-within text r e = case-within g text names 24902 (λ s le. longest-case sheet p s read le) r e

  -- the line that a refusal names, and how far that is into the text
  pub record CaseRefused (text : List ℕ) (r : Refusal) : Type 0 where
    pub before : ℕ
    pub is : r ≡ at_line 12 (suc before)
    pub near : length text + case_column g text (suc before) ≤ length (from_line before text) + 24903

  pub case-refused : (text : List ℕ) (r : Refusal) → read_case g text ≡ refused r → CaseRefused text r
  unfolding case_column byte_column
  case-refused text r e =
      let o = case-refusal g text r e in
      let w = refused-within text r e in
      let same : o.line ≡ suc w.before = ap (λ (r : Refusal). r.place.line) (sym o.is) ∙ w.line in
      record { before = w.before; is = o.is ∙ ap (at_line 12) same; near = omega (arith, w.room) }

  pub case-near : (text : List ℕ) (r : Refusal) → placed_case g text ≡ refused r → (r.place.line ≤ 24904) × (r.place.column ≤ 24903)
  case-near text r e =
      let q = plain-case g text r e in
      let c = case-refused text q.plain q.refuses in
      let line : q.plain.place.line ≡ suc c.before = ap (λ (r : Refusal). r.place.line) c.is in
      let b = lines-before c.before text (line-cuts text c.before (q.refuses ∙ ap refused c.is)) in (
        omega (arith, line, ap (λ (r : Refusal). r.place.line) q.placed, b, c.near),
        omega (arith, ap (case_column g text) line, ap (λ (r : Refusal). r.place.column) q.placed, b, c.near),
      )
