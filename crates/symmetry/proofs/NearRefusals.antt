-- What the program needs to know of Find's refusals: no case is longer than its output buffer, so 11 does not occur; and a refusal names a near place.
use Prim.Native.Nat.{ℕ, ◌≤◌}
use mathlib.Core.Path.{◌≡◌, refl, sym, ap, ◌∙◌, subst}
use mathlib.Core.Bool.{Bool, true, false, ◌&&◌, false≢true}
use mathlib.Core.List.{List}
use native.Mathlib.Omega.{arith}
use lib.Dec.{eqb, leb}
use Rattle.theory.specs.Refusals.{Refusal, Answer, answer, refused, unplaced, needing, ◌>>=◌, check}
use Rattle.theory.specs.Problem.{Problem}
use Rattle.theory.specs.CaseText.{case_length}
use Rattle.theory.specs.Columns.{placed_problem}
use Rattle.theory.specs.Operations.{max_size, max_instances, Search, search_of}
use Rattle.theory.specs.Program.{program_work, program_output}
use Rattle.theory.proofs.Tests.{and_left, and_right, leb-true, leb-of-≤, eqb-ne}
use Rattle.theory.proofs.Answers.{bind-step, unrefused, check-true, check-of-true, refused-inj, answer≢refused}
use Rattle.theory.proofs.PlacedReading.{problem-read, plain-problem}
use Rattle.theory.proofs.PlacedRefusals as placed
use Rattle.theory.proofs.SheetRefusals.{sheet-refusal}
use Rattle.theory.proofs.CaseLengths.{longest-case}
use Rattle.symmetry.specs.ConstantClauses.{instance_count_with, work_needed_with}
use Rattle.symmetry.specs.Obeying.{smallest_with}
use Rattle.symmetry.specs.SymmetricOperations.{find_result_with}
use Rattle.symmetry.proofs.Chains.{find_chain, find-chain}

-- a refusal with another number
other : (sheet : List ℕ) (r : Refusal) → placed_problem sheet ≡ refused r → r.number ≡ 11 → ⊥
other sheet r e n =
    let q = plain-problem sheet r e in
    let h = sheet-refusal sheet q.plain q.refuses in
    let m : q.plain.number ≡ 11 = ap (λ (r : Refusal). r.number) q.placed ∙ n in
    let z : leb 11 7 ≡ true = ap (λ (k : ℕ). leb 1 k && leb k 7) (sym m) ∙ h.number in
    false≢true z

-- a check that refuses with another number, and what follows it
passed : {B C : Type 0} (b : Bool) (q : Refusal) (k : Unit {0} → Answer B) (r : Refusal) → (check b q >>= k) ≡ refused r → eqb q.number 11 ≡ false → r.number ≡ 11
    → (b ≡ true → k tt ≡ refused r → C) → C
passed {B = B} b q k r e m n f =
    unrefused (check b q) k r e (λ h. absurd (differs b h)) (λ (u : Unit {0}) h e. f (check-true b q u h) e)
  where
    differs : (b : Bool) → check b q ≡ refused r → ⊥
    differs true h = answer≢refused tt r h
    differs false h = eqb-ne q.number 11 m (ap (λ (r : Refusal). r.number) (refused-inj {A = Unit {0}} q r h) ∙ n)

-- what stands before 11 is refused with another number, and 11's condition does not hold
pub roomy : (used : Bool) (sheet : List ℕ) (low high : ℕ) (r : Refusal) → find_result_with false used sheet low high program_work program_output ≡ refused r → r.number ≡ 11 → ⊥
unfolding find_chain
roomy used sheet low high r e n =
    unrefused (placed_problem sheet) _ r (sym (find-chain false used sheet low high program_work program_output) ∙ e) (λ h. other sheet r h n) λ (p : Problem) h₁ e₁.
    passed (leb 1 low && leb high max_size && leb low high) (unplaced 8) _ r e₁ refl n λ sizes e₂.
    passed (leb (instance_count_with used high p.symbols p.clauses) max_instances) (unplaced 9) _ r e₂ refl n λ _ e₃.
    passed (leb (work_needed_with used high p.symbols p.clauses) program_work) (needing 10 (work_needed_with used high p.symbols p.clauses)) _ r e₃ refl n λ _ e₄.
    let high-8 : high ≤ 8 = leb-true high 8 (and_right (leb 1 low) (leb high 8) (and_left (leb 1 low && leb high 8) (leb low high) sizes)) in
    let room : leb (case_length high p.symbols) program_output ≡ true = leb-of-≤ (case_length high p.symbols) program_output (longest-case sheet p high (problem-read sheet p h₁) high-8) in
    let found : Answer Search = answer (search_of p low high (smallest_with used p low high)) in
    answer≢refused (search_of p low high (smallest_with used p low high)) r
    (sym (bind-step (check (leb (case_length high p.symbols) program_output) (needing 11 (case_length high p.symbols))) (λ _. found) tt found (check-of-true (leb (case_length high p.symbols) program_output) (needing 11 (case_length high p.symbols)) room) refl) ∙ e₄)

-- line and column of a refusal are near
abbrev Near : Refusal → Type 0
Near r = (r.place.line ≤ 93) × (r.place.column ≤ 16385)

-- a check that names no line, and what follows it
unlined : (b : Bool) (q : Refusal) (k : Unit {0} → Answer Search) (r : Refusal) → (check b q >>= k) ≡ refused r → Near q → (k tt ≡ refused r → Near r) → Near r
unlined b q k r e z f = unrefused (check b q) k r e (refusing b) (λ u h e. f e)
  where
    refusing : (b : Bool) → check b q ≡ refused r → Near r
    refusing true h = absurd (answer≢refused tt r h)
    refusing false h = subst Near (refused-inj {A = Unit {0}} q r h) z

pub find-near : (used : Bool) (sheet : List ℕ) (low high work room : ℕ) (r : Refusal) → find_result_with false used sheet low high work room ≡ refused r
    → (r.place.line ≤ 93) × (r.place.column ≤ 16385)
unfolding find_chain
find-near used sheet low high work room r e =
    let zero : (0 ≤ 93) × (0 ≤ 16385) = (omega arith, omega arith) in
    unrefused (placed_problem sheet) _ r (sym (find-chain false used sheet low high work room) ∙ e) (λ h. placed.placed-near sheet r h) λ (p : Problem) h₁ e₁.
    unlined (leb 1 low && leb high max_size && leb low high) (unplaced 8) _ r e₁ zero λ e₂.
    unlined (leb (instance_count_with used high p.symbols p.clauses) max_instances) (unplaced 9) _ r e₂ zero λ e₃.
    unlined (leb (work_needed_with used high p.symbols p.clauses) work) (needing 10 (work_needed_with used high p.symbols p.clauses)) _ r e₃ zero λ e₄.
    unlined (leb (case_length high p.symbols) room) (needing 11 (case_length high p.symbols)) _ r e₄ zero λ e₅.
    absurd (answer≢refused (search_of p low high (smallest_with used p low high)) r e₅)
