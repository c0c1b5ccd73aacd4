-- FinderProgram: a sheet that is too long is refused whatever else it is, and what is refused with an allowance is refused without one, but for 24.
use Prim.Native.Nat.{ℕ, ◌+◌, ◌-◌, ◌≤◌, ◌<◌}
use mathlib.Core.Path.{◌≡◌, refl, sym, ap, ◌∙◌}
use mathlib.Core.Logic.{◌⊎◌, inl, inr}
use mathlib.Core.Bool.{Bool, false}
use mathlib.Core.Option.{Option, none, some}
use mathlib.Core.List.{List, ◌++◌, append_assoc}
use native.Mathlib.Omega.{arith}
use lib.ListN.{length, take, drop, take-append-drop}
use lib.Seq.{take_all, length-take-le, take-append-add}
use Rattle.theory.specs.Refusals.{Refusal, refused, unplaced}
use Rattle.theory.specs.Problem.{max_bytes}
use Rattle.theory.specs.Columns.{placed_problem}
use Rattle.theory.specs.Program.{program_work, program_output}
use Rattle.theory.proofs.Answers.{bind-refused}
use Rattle.theory.proofs.PlacedRefusals as placed
use Rattle.solver.proofs.Options.{none≢some}
use Rattle.symmetry.specs.SymmetricOperations.{find_result_with}
use Rattle.symmetry.proofs.NearRefusals.{roomy, find-near}
use Rattle.allowance.specs.AllowedFind.{find_within}
use Rattle.allowance.specs.FinderProgram.{Question, asked, finds, finder_answer, printed_within, finder}
use Rattle.allowance.specs.Claims.FinderProgram.{input_bytes, FinderProgram}
use Rattle.allowance.proofs.AllowedWalk.{at-most-or-more}
use Rattle.allowance.proofs.AllowedFind.{refused-or-24}
use Rattle.allowance.proofs.FourLines.{with_sheet, Lines, four-lines}

-- a sheet that is too long is refused, whatever else it is
too_long : (used : Bool) (sheet : List ℕ) (low high a work room : ℕ) → max_bytes < length sheet → find_within false used sheet low high a work room ≡ refused (unplaced 1)
unfolding find_within
too_long used sheet low high a work room h = bind-refused (placed_problem sheet) _ (unplaced 1) (placed.too_long sheet h)

-- one byte more than the largest sheet is enough of a sheet
enough : (a : Question) (n : ℕ) → 16385 ≤ n → finds (with_sheet (take n a.sheet) a) ≡ finds a
enough a n le = go (at-most-or-more (length a.sheet) n)
  where
    go : (length a.sheet ≤ n) ⊎ (n < length a.sheet) → finds (with_sheet (take n a.sheet) a) ≡ finds a
    go (inl h) = ap (λ (t : List ℕ). finds (with_sheet t a)) (take_all n a.sheet h)
    go (inr long) =
        let cut : length (take n a.sheet) ≡ n = length-take-le n a.sheet (omega (arith, long)) in
        too_long a.symmetry (take n a.sheet) a.low a.high a.allowance program_work program_output (omega (arith, cut, le))
        ∙ sym (too_long a.symmetry a.sheet a.low a.high a.allowance program_work program_output (omega (arith, long, le)))

-- what is read of the input is enough of it
reads-enough : (o q : Option Question) (input : List ℕ) → asked input ≡ o → asked (take input_bytes input) ≡ q → finder_answer q ≡ finder_answer o
reads-enough none none input e f = refl
reads-enough (some a) q input e f =
    let l : Lines input a = four-lines input a e in
    let n : ℕ = input_bytes - length l.front in
    let short : length l.front ≤ 35 = l.short in
    let sum : input_bytes ≡ length l.front + n = omega (arith, short) in
    let cut : take input_bytes input ≡ l.front ++ take n a.sheet
    = ap (take input_bytes) (sym l.whole) ∙ ap (λ (k : ℕ). take k (l.front ++ a.sheet)) sum ∙ take-append-add l.front a.sheet n in
    ap finder_answer (sym f ∙ ap asked cut ∙ l.again (take n a.sheet)) ∙ enough a n (omega (arith, short))
reads-enough none (some a) input e f =
    let l : Lines (take input_bytes input) a = four-lines (take input_bytes input) a f in
    let front : l.front ++ (a.sheet ++ drop input_bytes input) ≡ input
    = sym (append_assoc l.front a.sheet (drop input_bytes input)) ∙ ap (λ (t : List ℕ). t ++ drop input_bytes input) l.whole ∙ take-append-drop input_bytes input in
    absurd (none≢some (with_sheet (a.sheet ++ drop input_bytes input) a) (sym e ∙ ap asked (sym front) ∙ l.again (a.sheet ++ drop input_bytes input)))

-- line and column of a refusal are near
pub within-near : (used : Bool) (sheet : List ℕ) (low high a work room : ℕ) (r : Refusal) → find_within false used sheet low high a work room ≡ refused r
    → (r.place.line ≤ 93) × (r.place.column ≤ 16385)
within-near used sheet low high a work room r e = go (refused-or-24 false used sheet low high a work room r e)
  where
    go : (find_result_with false used sheet low high work room ≡ refused r) ⊎ (r ≡ unplaced 24) → (r.place.line ≤ 93) × (r.place.column ≤ 16385)
    go (inl h) = find-near used sheet low high work room r h
    go (inr h) =
        let line : r.place.line ≡ 0 = ap (λ (r : Refusal). r.place.line) h in
        let column : r.place.column ≡ 0 = ap (λ (r : Refusal). r.place.column) h in
        (omega (arith, line), omega (arith, column))

-- the theorem
pub finder-program : FinderProgram
unfolding finder
finder-program =
    record {
      reads = λ input. ap printed_within (reads-enough (asked input) (asked (take input_bytes input)) input refl refl);
      roomy = λ (a : Question) r e n. go a r n (refused-or-24 false a.symmetry a.sheet a.low a.high a.allowance program_work program_output r e);
    }
  where
    go : (a : Question) (r : Refusal) → r.number ≡ 11 → (find_result_with false a.symmetry a.sheet a.low a.high program_work program_output ≡ refused r) ⊎ (r ≡ unplaced 24) → ⊥
    go a r n (inl h) = roomy a.symmetry a.sheet a.low a.high r h n
    go a r n (inr h) = let k : r.number ≡ 24 = ap (λ (r : Refusal). r.number) h in omega (arith, n, k)
