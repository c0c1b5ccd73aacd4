-- Columns, of the calls: each refusal is the sheet's, the case's, or one without a place.
use Prim.Native.Nat.{ℕ, suc, ◌-◌, ◌≤◌}
use mathlib.Core.Path.{◌≡◌, refl, sym, ap, ◌∙◌, subst}
use mathlib.Core.Logic.{◌⊎◌, inl, inr}
use mathlib.Core.Bool.{Bool, true, false, cond, ◌&&◌}
use mathlib.Core.Option.{Option, none, some}
use mathlib.Core.List.{List}
use native.Mathlib.Omega.{arith}
use lib.Dec.{eqb, leb}
use lib.ListN.{length}
use Rattle.theory.specs.Propositional.{prop_count}
use Rattle.theory.specs.Dimacs.{dimacs}
use Rattle.theory.specs.Syntax.{Signature}
use Rattle.theory.specs.Cells.{cell_count, is_model}
use Rattle.theory.specs.Valuation.{is_valuation, is_functional, read_back}
use Rattle.theory.specs.Refusals.{Refusal, Answer, answer, refused, at_line, unplaced, needing, ◌>>=◌, check, or_refuse}
use Rattle.theory.specs.Problem.{Problem, read_problem}
use Rattle.theory.specs.CaseText.{case_length}
use Rattle.theory.specs.Columns.{sheet_column, case_column, placed_problem, placed_case}
use Rattle.theory.specs.Operations.{max_size, max_instances, is_size, read_answer, judge_answer, read_back_text, setting_text, Search, found, nothing, find_answer}
use Rattle.theory.specs.PlainSearch.{max_plain_cells, plain_result}
use Rattle.theory.specs.LineForms.{LineForm}
use Rattle.theory.specs.DueLines.{first_line, from_line, due_in_sheet, sheet_symbols}
use Rattle.theory.specs.Claims.Columns.{two_on, twelve_on, ByteBeyondHelp, OverNumber, BadName, WordBeyondHelp, FirstUnknown, OverLimit}
use Rattle.theory.proofs.Answers.{answer≢refused, refused-inj, unrefused}
use Rattle.theory.proofs.PlacedReading.{problem-read, plain-case}
use Rattle.theory.proofs.PlacedRefusals.{refusal-told}
use Rattle.theory.proofs.CaseRefusals.{case-refusal}
use Rattle.theory.proofs.Tests.{true-or-false, eqb-true, eqb-false, eqb-ne}
use Rattle.theory.proofs.SheetFaults.{LineFault, fault-number, sheet-fault}
use Rattle.theory.proofs.SheetRefusals.{sheet-refusal}
use Rattle.theory.proofs.Columns.{two_at, three-at, four-at, five-at, six-at, columns}
use Rattle.theory.proofs.ColumnsWithin.{fault-within, within}
use Rattle.theory.proofs.Explaining.{explaining}
use Rattle.naming.specs.NamedProblem.{in_mode, shown_symbols}
use Rattle.naming.specs.NamedReading.{named_column, placed_named}
use Rattle.naming.specs.NamedOperations.{named_read_back_text, placed_in, mode_problem, read_back_text_in}
use Rattle.naming.proofs.NamedFaults.{named-fault, named-refusal, named-told}
use Rattle.symmetry.specs.ConstantClauses.{prop_clauses_with, instance_count_with, work_needed_with}
use Rattle.symmetry.specs.SymmetricOperations.{shown_in, written_text_with}
use Rattle.symmetry.proofs.Chains.{content_chain, write_chain, write-chain}
use Rattle.allowance.specs.AllowedFind.{max_allowance, find_within}
use Rattle.renumbered_cases.specs.RenumberedCases.{is_listed, renumbered_text, least_form_text}
use Rattle.solver.specs.Replies.{Reply, claims_none, states, read_reply}
use Rattle.solver.specs.SolverText.{Outcome, model_case, claimed_none, stated_case, outcome_of, solver_text, solver_answer}
use Rattle.sheet_merging.specs.Sheets.{Sheet, sheet_of, text_of}
use Rattle.sheet_merging.specs.Merging.{merged_sheet, agree, within_sheet, merged_text, which_sheet}
use Rattle.sheet_merging.proofs.Merging.{merging}
use Rattle.uniting.specs.Calls.{sheet_told}
use Rattle.theorems.proofs.Leaving.{refused-text}
use Rattle.theorems.specs.Columns.{InSheet, OfTheSheet, OfTheCase, NoPlace, OfTwoSheets, in_first, in_second, in_neither, Columns}
use Rattle.theorems.proofs.Unstopped.{allowed-refused}

-- the sheet's refusal
module _ (sheet : List ℕ) (q : Refusal) (e : placed_problem sheet ≡ refused q) where
  told : (n l : ℕ) → q.number ≡ n → q.place.line ≡ l → (read_problem sheet ≡ refused (at_line n l)) × (sheet_column sheet n l ≡ q.place.column)
  told n l number line =
      let t = refusal-told sheet q e in (
        t.0 ∙ ap (λ (n : ℕ). refused (at_line n q.place.line)) number ∙ ap (λ (l : ℕ). refused (at_line n l)) line,
        ap (λ (l : ℕ). sheet_column sheet n l) (sym line) ∙ ap (λ (n : ℕ). sheet_column sheet n q.place.line) (sym number) ∙ t.1,
      )

  in-sheet : (l : ℕ) → q.place.line ≡ suc l → InSheet false sheet l q.number q.place.column
  in-sheet l h =
      let g : Signature = sheet_symbols sheet in
      let d : LineForm = due_in_sheet sheet l in
      let t : List ℕ = first_line (from_line l sheet) in
      record {
        numbered = fault-number sheet q.number l (sheet-fault sheet q.number l (told q.number (suc l) refl h).0).has;
        two = λ n. let e = told 2 (suc l) n h in subst (ByteBeyondHelp two_on sheet l) e.1 (columns.two sheet l e.0);
        three = λ n. let e = told 3 (suc l) n h in subst (OverNumber d t) e.1 (columns.three sheet l e.0);
        four = λ n. let e = told 4 (suc l) n h in subst (BadName sheet l) e.1 (columns.four sheet l e.0);
        five = λ n. let e = told 5 (suc l) n h in subst (FirstUnknown g d t) e.1 (columns.five sheet l e.0);
        six = λ n. let e = told 6 (suc l) n h in subst (WordBeyondHelp g d t) e.1 (columns.six sheet l e.0);
        seven = λ n. let e = told 7 (suc l) n h in subst (OverLimit g d t) e.1 (columns.seven sheet l e.0);
        within = let e = told q.number (suc l) refl h in let w = within sheet q.number l e.0 in (omega (arith, e.1, w.0), omega (arith, e.1, w.1));
      }

  of-the-sheet : OfTheSheet false sheet q
  of-the-sheet =
      record {
        lined = in-sheet;
        unlined = λ h.
            let e = told q.number 0 refl h in
            ((sheet-refusal sheet (at_line q.number 0) e.0).unlined refl, sym e.1 ∙ columns.unplaced sheet q.number);
      }

-- the sheet's refusal in the mode
module _ (sheet : List ℕ) (q : Refusal) (e : placed_named sheet ≡ refused q) where
  named-fault-at : (n l : ℕ) → q.number ≡ n → (n ≡ 7 → ⊥) → q.place.line ≡ suc l → LineFault sheet l n
  named-fault-at n l number other line =
      named-fault sheet n l other ((named-told sheet q e).0 ∙ ap (λ (n : ℕ). refused (at_line n q.place.line)) number ∙ ap (λ (l : ℕ). refused (at_line n l)) line)

  -- the column on a line is the plain one, but for 7
  plain-column : (n l : ℕ) → q.number ≡ n → (n ≡ 7 → ⊥) → q.place.line ≡ suc l → sheet_column sheet n (suc l) ≡ q.place.column
  unfolding named_column
  plain-column n l number other line =
      ap (λ (b : Bool). cond b 1 (sheet_column sheet n (suc l))) (sym (eqb-false n 7 other))
      ∙ ap (λ (l : ℕ). named_column sheet n l) (sym line) ∙ ap (λ (n : ℕ). named_column sheet n q.place.line) (sym number) ∙ (named-told sheet q e).1

  seven-column : (l : ℕ) → q.number ≡ 7 → q.place.line ≡ suc l → q.place.column ≡ 1
  unfolding named_column
  seven-column l number line = sym (named-told sheet q e).1 ∙ ap (λ (n : ℕ). named_column sheet n q.place.line) number ∙ ap (λ (l : ℕ). named_column sheet 7 l) line

  no-column : q.place.line ≡ 0 → q.place.column ≡ 0
  unfolding named_column
  no-column line = sym (named-told sheet q e).1 ∙ ap (λ (l : ℕ). named_column sheet q.number l) line

  named-in-sheet : (l : ℕ) → q.place.line ≡ suc l → InSheet true sheet l q.number q.place.column
  named-in-sheet l h =
      let g : Signature = sheet_symbols sheet in
      let d : LineForm = due_in_sheet sheet l in
      let t : List ℕ = first_line (from_line l sheet) in
      record {
        numbered = number (true-or-false (eqb q.number 7));
        two = λ n. subst (ByteBeyondHelp two_on sheet l) (plain-column 2 l n (λ z. omega (arith, z)) h) (two_at sheet l (named-fault-at 2 l n (λ z. omega (arith, z)) h));
        three = λ n. subst (OverNumber d t) (plain-column 3 l n (λ z. omega (arith, z)) h) (three-at sheet l (named-fault-at 3 l n (λ z. omega (arith, z)) h));
        four = λ n. subst (BadName sheet l) (plain-column 4 l n (λ z. omega (arith, z)) h) (four-at sheet l (named-fault-at 4 l n (λ z. omega (arith, z)) h));
        five = λ n. subst (FirstUnknown g d t) (plain-column 5 l n (λ z. omega (arith, z)) h) (five-at sheet l (named-fault-at 5 l n (λ z. omega (arith, z)) h));
        six = λ n. subst (WordBeyondHelp g d t) (plain-column 6 l n (λ z. omega (arith, z)) h) (six-at sheet l (named-fault-at 6 l n (λ z. omega (arith, z)) h));
        seven = λ n. seven-column l n h;
        within = go (true-or-false (eqb q.number 7));
      }
    where
      number : (eqb q.number 7 ≡ true) ⊎ (eqb q.number 7 ≡ false) → (2 ≤ q.number) × (q.number ≤ 7)
      number (inl k) = let e : q.number ≡ 7 = eqb-true q.number 7 k in (omega (arith, e), omega (arith, e))
      number (inr k) = fault-number sheet q.number l (named-fault-at q.number l refl (eqb-ne q.number 7 k) h).has

      go : (eqb q.number 7 ≡ true) ⊎ (eqb q.number 7 ≡ false) → (1 ≤ q.place.column) × (q.place.column ≤ suc (length (first_line (from_line l sheet))))
      go (inl k) = let c : q.place.column ≡ 1 = seven-column l (eqb-true q.number 7 k) h in (omega (arith, c), omega (arith, c))
      go (inr k) =
          let other : q.number ≡ 7 → ⊥ = eqb-ne q.number 7 k in
          let w = fault-within sheet l q.number (named-fault-at q.number l refl other h) in
          let c : sheet_column sheet q.number (suc l) ≡ q.place.column = plain-column q.number l refl other h in
          (omega (arith, c, w.0), omega (arith, c, w.1))

  of-the-named-sheet : OfTheSheet true sheet q
  of-the-named-sheet =
      record {
        lined = named-in-sheet;
        unlined = λ h. ((named-refusal sheet (at_line q.number q.place.line) (named-told sheet q e).0).unlined h, no-column h);
      }

-- the case's refusal
of-the-case : (sheet case : List ℕ) (p : Problem) (q : Refusal) → read_problem sheet ≡ answer p → placed_case p.symbols case ≡ refused q → OfTheCase sheet case q
of-the-case sheet case p q read e =
    let r = plain-case p.symbols case q e in
    let c = case-refusal p.symbols case r.plain r.refuses in
    let line : c.line ≡ q.place.line = ap (λ (r : Refusal). r.place.line) (sym c.is) ∙ ap (λ (r : Refusal). r.place.line) r.placed in
    let column : case_column p.symbols case c.line ≡ q.place.column =
    ap (λ (r : Refusal). case_column p.symbols case r.place.line) (sym c.is) ∙ ap (λ (r : Refusal). r.place.column) r.placed in
    let one : c.line ≡ suc (c.line - 1) = omega (arith, c.lined) in
    record {
      problem = p;
      sheet_read = read;
      number = sym (ap (λ (r : Refusal). r.number) r.placed) ∙ ap (λ (r : Refusal). r.number) c.is;
      line = c.line - 1;
      lined = sym line ∙ one;
      beyond = subst (ByteBeyondHelp (twelve_on p.symbols) case (c.line - 1)) (ap (case_column p.symbols case) (sym one) ∙ column)
          (columns.twelve sheet case p (c.line - 1) read (r.refuses ∙ ap refused c.is ∙ ap (λ (l : ℕ). refused (at_line 12 l)) one));
    }

-- a check without a place
no_place : (b : Bool) (p q : Refusal) → NoPlace p → check b p ≡ refused q → NoPlace q
no_place true p q n e = absurd (answer≢refused tt q e)
no_place false p q n e = subst NoPlace (refused-inj {A = Unit {0}} p q e) n

-- what refuses is the sheet, or such a check
abbrev Placed : Bool → List ℕ → Refusal → Type 0
Placed named sheet q = OfTheSheet named sheet q ⊎ NoPlace q

-- a check without a place, and what follows it
checked : {B : Type 0} (named : Bool) (sheet : List ℕ) (b : Bool) (p : Refusal) (k : Unit {0} → Answer B) (q : Refusal) → NoPlace p → (check b p >>= k) ≡ refused q → (k tt ≡ refused q → Placed named sheet q) → Placed named sheet q
checked named sheet b p k q n e f = unrefused (check b p) k q e (λ h. inr (no_place b p q n h)) λ u _ e₁. f e₁

-- the sheet's refusal in either mode
sheet-placed : (named : Bool) (sheet : List ℕ) (q : Refusal) → placed_in named sheet ≡ refused q → Placed named sheet q
sheet-placed false sheet q e = inl (of-the-sheet sheet q e)
sheet-placed true sheet q e = inl (of-the-named-sheet sheet q e)

content-placed : (named symmetry : Bool) (sheet : List ℕ) (size : ℕ) (q : Refusal) → content_chain named symmetry sheet size ≡ refused q → Placed named sheet q
unfolding content_chain
content-placed named symmetry sheet size q e =
    unrefused (placed_in named sheet) _ q e (sheet-placed named sheet q) λ (p : Problem) _ e₁.
    let m : Problem = mode_problem named p in
    checked named sheet (is_size size) (unplaced 8) _ q (refl, refl) e₁ λ e₂.
    checked named sheet (leb (instance_count_with symmetry size m.symbols m.clauses) max_instances) (unplaced 9) _ q (refl, refl) e₂ λ e₃. absurd (answer≢refused p q e₃)

write-placed : (named symmetry : Bool) (sheet : List ℕ) (size room : ℕ) (q : Refusal) → written_text_with named symmetry sheet size room ≡ refused q → Placed named sheet q
unfolding write_chain
write-placed named symmetry sheet size room q e =
    unrefused (content_chain named symmetry sheet size) _ q (sym (write-chain named symmetry sheet size room) ∙ e) (content-placed named symmetry sheet size q) λ (p : Problem) _ e₁.
    let m : Problem = mode_problem named p in
    let text : List ℕ = dimacs (prop_count size m.symbols) (prop_clauses_with symmetry size m.symbols m.clauses) in
    checked named sheet (leb (length text) room) (needing 11 (length text)) _ q (refl, refl) e₁ λ e₂. absurd (answer≢refused text q e₂)

find-placed : (named symmetry : Bool) (sheet : List ℕ) (low high a work room : ℕ) (q : Refusal) → find_within named symmetry sheet low high a work room ≡ refused q → Placed named sheet q
unfolding find_within
find-placed named symmetry sheet low high a work room q e =
    unrefused (placed_in named sheet) _ q e (sheet-placed named sheet q) λ (p : Problem) _ e₁.
    let m : Problem = mode_problem named p in
    let w : ℕ = work_needed_with symmetry high m.symbols m.clauses in
    let n : ℕ = case_length high (shown_in named m.symbols) in
    checked named sheet (leb 1 low && leb high max_size && leb low high) (unplaced 8) _ q (refl, refl) e₁ λ e₂.
    checked named sheet (leb a max_allowance) (unplaced 24) _ q (refl, refl) e₂ λ e₀.
    checked named sheet (leb (instance_count_with symmetry high m.symbols m.clauses) max_instances) (unplaced 9) _ q (refl, refl) e₀ λ e₃.
    checked named sheet (leb w work) (needing 10 w) _ q (refl, refl) e₃ λ e₄.
    checked named sheet (leb n room) (needing 11 n) _ q (refl, refl) e₄ λ e₅. absurd (answer≢refused _ q e₅)

read-back-placed : (sheet : List ℕ) (size : ℕ) (setting : List ℕ) (room : ℕ) (q : Refusal) → read_back_text sheet size setting room ≡ refused q → Placed false sheet q
unfolding read_back_text
read-back-placed sheet size setting room q e =
    unrefused (placed_problem sheet) _ q e (λ h. inl (of-the-sheet sheet q h)) λ (p : Problem) _ e₁.
    checked false sheet (is_size size) (unplaced 8) _ q (refl, refl) e₁ λ e₂.
    checked false sheet (is_valuation size p.symbols setting) (unplaced 13) _ q (refl, refl) e₂ λ e₃.
    checked false sheet (is_functional size p.symbols setting) (unplaced 14) _ q (refl, refl) e₃ λ e₄.
    checked false sheet (leb (case_length size p.symbols) room) (needing 11 (case_length size p.symbols)) _ q (refl, refl) e₄ λ e₅. absurd (answer≢refused _ q e₅)

named-read-back-placed : (sheet : List ℕ) (size : ℕ) (setting : List ℕ) (room : ℕ) (q : Refusal) → named_read_back_text sheet size setting room ≡ refused q → Placed true sheet q
unfolding named_read_back_text
named-read-back-placed sheet size setting room q e =
    unrefused (placed_named sheet) _ q e (λ h. inl (of-the-named-sheet sheet q h)) λ (p : Problem) _ e₁.
    let n : ℕ = case_length size (shown_symbols (in_mode p).symbols) in
    checked true sheet (is_size size) (unplaced 8) _ q (refl, refl) e₁ λ e₂.
    checked true sheet (is_valuation size (in_mode p).symbols setting) (unplaced 13) _ q (refl, refl) e₂ λ e₃.
    checked true sheet (is_functional size (in_mode p).symbols setting) (unplaced 14) _ q (refl, refl) e₃ λ e₄.
    checked true sheet (leb n room) (needing 11 n) _ q (refl, refl) e₄ λ e₅. absurd (answer≢refused _ q e₅)

-- in either mode
read-back-placed-in : (named : Bool) (sheet : List ℕ) (size : ℕ) (setting : List ℕ) (room : ℕ) (q : Refusal) → read_back_text_in named sheet size setting room ≡ refused q → Placed named sheet q
read-back-placed-in false sheet size setting room q e = read-back-placed sheet size setting room q e
read-back-placed-in true sheet size setting room q e = named-read-back-placed sheet size setting room q e

plain-placed : (sheet : List ℕ) (low high room : ℕ) (q : Refusal) → plain_result sheet low high room ≡ refused q → Placed false sheet q
unfolding plain_result
plain-placed sheet low high room q e =
    unrefused (placed_problem sheet) _ q e (λ h. inl (of-the-sheet sheet q h)) λ (p : Problem) _ e₁.
    checked false sheet (leb 1 low && leb high max_size && leb low high) (unplaced 8) _ q (refl, refl) e₁ λ e₂.
    checked false sheet (leb (cell_count high p.symbols) max_plain_cells) (unplaced 20) _ q (refl, refl) e₂ λ e₃.
    checked false sheet (leb (case_length high p.symbols) room) (needing 11 (case_length high p.symbols)) _ q (refl, refl) e₃ λ e₄. absurd (answer≢refused _ q e₄)

read-placed : (sheet : List ℕ) (q : Refusal) → read_answer sheet ≡ refused q → OfTheSheet false sheet q
unfolding read_answer
read-placed sheet q e = unrefused (placed_problem sheet) _ q e (of-the-sheet sheet q) λ (p : Problem) _ e₁. absurd (answer≢refused _ q e₁)

judge-placed : (sheet case : List ℕ) (q : Refusal) → judge_answer sheet case ≡ refused q → OfTheSheet false sheet q ⊎ OfTheCase sheet case q
unfolding judge_answer
judge-placed sheet case q e =
    unrefused (placed_problem sheet) _ q e (λ h. inl (of-the-sheet sheet q h)) λ (p : Problem) h₁ e₁.
    unrefused (placed_case p.symbols case) _ q e₁ (λ h. inr (of-the-case sheet case p q (problem-read sheet p h₁) h)) λ k _ e₂. absurd (answer≢refused _ q e₂)

setting-placed : (sheet case : List ℕ) (room : ℕ) (q : Refusal) → setting_text sheet case room ≡ refused q → OfTheSheet false sheet q ⊎ (OfTheCase sheet case q ⊎ NoPlace q)
unfolding setting_text
setting-placed sheet case room q e =
    unrefused (placed_problem sheet) _ q e (λ h. inl (of-the-sheet sheet q h)) λ (p : Problem) h₁ e₁.
    unrefused (placed_case p.symbols case) _ q e₁ (λ h. inr (inl (of-the-case sheet case p q (problem-read sheet p h₁) h))) λ k _ e₂.
    let n : ℕ = prop_count k.size p.symbols in
    unrefused (check (leb n room) (needing 11 n)) _ q e₂ (λ h. inr (inr (no_place (leb n room) (needing 11 n) q (refl, refl) h))) λ u _ e₃. absurd (answer≢refused _ q e₃)

renumber-placed : (sheet case list : List ℕ) (room : ℕ) (q : Refusal) → renumbered_text sheet case list room ≡ refused q → OfTheSheet false sheet q ⊎ (OfTheCase sheet case q ⊎ NoPlace q)
unfolding renumbered_text
renumber-placed sheet case list room q e =
    unrefused (placed_problem sheet) _ q e (λ h. inl (of-the-sheet sheet q h)) λ (p : Problem) h₁ e₁.
    unrefused (placed_case p.symbols case) _ q e₁ (λ h. inr (inl (of-the-case sheet case p q (problem-read sheet p h₁) h))) λ k _ e₂.
    let n : ℕ = case_length k.size p.symbols in
    unrefused (check (is_listed k.size list) (unplaced 25)) _ q e₂ (λ h. inr (inr (no_place (is_listed k.size list) (unplaced 25) q (refl, refl) h))) λ u _ e₃.
    unrefused (check (leb n room) (needing 11 n)) _ q e₃ (λ h. inr (inr (no_place (leb n room) (needing 11 n) q (refl, refl) h))) λ u _ e₄. absurd (answer≢refused _ q e₄)

least-form-placed : (sheet case : List ℕ) (room : ℕ) (q : Refusal) → least_form_text sheet case room ≡ refused q → OfTheSheet false sheet q ⊎ (OfTheCase sheet case q ⊎ NoPlace q)
unfolding least_form_text
least-form-placed sheet case room q e =
    unrefused (placed_problem sheet) _ q e (λ h. inl (of-the-sheet sheet q h)) λ (p : Problem) h₁ e₁.
    unrefused (placed_case p.symbols case) _ q e₁ (λ h. inr (inl (of-the-case sheet case p q (problem-read sheet p h₁) h))) λ k _ e₂.
    let n : ℕ = case_length k.size p.symbols in
    unrefused (check (leb n room) (needing 11 n)) _ q e₂ (λ h. inr (inr (no_place (leb n room) (needing 11 n) q (refl, refl) h))) λ u _ e₃. absurd (answer≢refused _ q e₃)

-- a text that is no reply
unread : (o : Option Reply) (q : Refusal) → or_refuse o (unplaced 18) ≡ refused q → NoPlace q
unread none q e = subst NoPlace (refused-inj {A = Reply} (unplaced 18) q e) (refl, refl)
unread (some r) q e = absurd (answer≢refused r q e)

outcome-placed : (sheet : List ℕ) (p : Problem) (size room : ℕ) (r : Reply) (q : Refusal) → outcome_of p size room r ≡ refused q → Placed false sheet q
unfolding stated_case
outcome-placed sheet p size room claims_none q e = absurd (answer≢refused _ q e)
outcome-placed sheet p size room (states σ) q e =
    checked false sheet (is_functional size p.symbols σ) (unplaced 14) _ q (refl, refl) e λ e₁.
    checked false sheet (is_model size p.symbols p.clauses (read_back size p.symbols σ)) (unplaced 19) _ q (refl, refl) e₁ λ e₂.
    checked false sheet (leb (case_length size p.symbols) room) (needing 11 (case_length size p.symbols)) _ q (refl, refl) e₂ λ e₃. absurd (answer≢refused _ q e₃)

solver-placed : (sheet : List ℕ) (size : ℕ) (text : List ℕ) (room : ℕ) (q : Refusal) → solver_text sheet size text room ≡ refused q → Placed false sheet q
unfolding solver_text
solver-placed sheet size text room q e =
    unrefused (placed_problem sheet) _ q e (λ h. inl (of-the-sheet sheet q h)) λ (p : Problem) _ e₁.
    checked false sheet (is_size size) (unplaced 8) _ q (refl, refl) e₁ λ e₂.
    unrefused (or_refuse (read_reply (prop_count size p.symbols) text) (unplaced 18)) _ q e₂ (λ h. inr (unread (read_reply (prop_count size p.symbols) text) q h)) λ (r : Reply) _ e₃.
    outcome-placed sheet p size room r q e₃

-- two sheets: the first that is refused, else a check without a place
merge-placed : (first second : List ℕ) (room : ℕ) (q : Refusal) → merged_text first second room ≡ refused q → (sheet : ℕ) → sheet ≡ which_sheet first second → OfTwoSheets first second q sheet
unfolding merged_text
merge-placed first second room q e sheet w =
    unrefused (placed_problem first) _ q e (λ h. in_first (w ∙ (merging.first_refused first second room q h).1) (of-the-sheet first q h)) λ (p : Problem) h₁ e₁.
    let read₁ = problem-read first p h₁ in
    unrefused (placed_problem second) _ q e₁ (λ h. in_second (w ∙ (merging.second_refused first second room p q read₁ h).1) (of-the-sheet second q h)) λ (t : Problem) h₂ e₂.
    let none : sheet ≡ 0 = w ∙ merging.both_taken first second p t read₁ (problem-read second t h₂) in
    let m : Sheet = merged_sheet (sheet_of p first) (sheet_of t second) in
    unrefused (check (agree p.symbols t.symbols) (unplaced 22)) _ q e₂ (λ h. in_neither none (no_place (agree p.symbols t.symbols) (unplaced 22) q (refl, refl) h)) λ u _ e₃.
    unrefused (check (within_sheet m) (unplaced 23)) _ q e₃ (λ h. in_neither none (no_place (within_sheet m) (unplaced 23) q (refl, refl) h)) λ v _ e₄.
    unrefused (check (leb (length (text_of m)) room) (needing 11 (length (text_of m)))) _ q e₄ (λ h. in_neither none (no_place (leb (length (text_of m)) room) (needing 11 (length (text_of m))) q (refl, refl) h)) λ x _ e₅.
    absurd (answer≢refused _ q e₅)

-- a solver's answer that is refused is refused
outcome-refused : (a : Answer (Outcome (List ℕ))) (q : Refusal) → solver_answer a ≡ refused q → a ≡ refused q
outcome-refused (answer (model_case t)) q e = absurd (answer≢refused _ q e)
outcome-refused (answer claimed_none) q e = absurd (answer≢refused _ q e)
outcome-refused (refused p) q e = ap refused (refused-inj p q e)

-- a search whose answer is refused is refused
search-refused : (a : Answer Search) (q : Refusal) → find_answer a ≡ refused q → a ≡ refused q
search-refused (answer (found s t)) q e = absurd (answer≢refused _ q e)
search-refused (answer (nothing b)) q e = absurd (answer≢refused _ q e)
search-refused (refused p) q e = ap refused (refused-inj p q e)

pub columns-of-calls : Columns
columns-of-calls =
    record {
      read = λ sheet r c q e. read-placed sheet q (sym c.answer ∙ e);
      judge = λ sheet case r c q e. judge-placed sheet case q (sym c.answer ∙ e);
      explain = λ sheet case r c q e. judge-placed sheet case q (((explaining sheet case).refuses q).0 (sym c.answer ∙ e));
      write = λ sheet size named symmetry r output output' c q e. write-placed named symmetry sheet size (length output) q (refused-text _ q (sym c.answer ∙ e));
      read_back = λ sheet size named setting r output output' c q e. read-back-placed-in named sheet size setting (length output) q (refused-text _ q (sym c.answer ∙ e));
      setting = λ sheet case r output output' c q e. setting-placed sheet case (length output) q (refused-text _ q (sym c.answer ∙ e));
      renumber = λ sheet case list r output output' c q e. renumber-placed sheet case list (length output) q (refused-text _ q (sym c.answer ∙ e));
      least_form = λ sheet case r output output' c q e. least-form-placed sheet case (length output) q (refused-text _ q (sym c.answer ∙ e));
      find = λ sheet low high named symmetry a r work work' output output' c q e. find-placed named symmetry sheet low high a (length work) (length output) q (allowed-refused _ q (sym c.answer ∙ e));
      find_plain = λ sheet low high r output output' c q e. plain-placed sheet low high (length output) q (search-refused _ q (sym c.answer ∙ e));
      from_solver = λ sheet size text r output output' c q e. solver-placed sheet size text (length output) q (outcome-refused _ q (sym c.answer ∙ e));
      merge = λ first second r output output' c q e. merge-placed first second (length output) q (refused-text _ q (sym c.call.answer ∙ e)) (sheet_told r) c.sheet;
    }
