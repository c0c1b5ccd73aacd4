-- Demand 1 of the calls: the numbers of each operation's refusals, check by check, and what a refused call leaves.
use Prim.Native.Nat.{ℕ, ◌+◌, ◌≤◌}
use mathlib.Core.Path.{◌≡◌, refl, sym, ap, subst, ◌∙◌}
use mathlib.Core.Logic.{◌⊎◌, inl, inr}
use mathlib.Core.Bool.{Bool, true, false, cond, ◌&&◌}
use mathlib.Core.Option.{Option, none, some}
use mathlib.Core.List.{List, [], ◌∷◌, ◌++◌}
use native.Mathlib.Omega.{arith}
use lib.Dec.{eqb, leb}
use lib.ListN.{length}
use Rattle.theory.specs.Lists.{all, up_from, elem, same}
use Rattle.theory.specs.Syntax.{Signature}
use Rattle.theory.specs.Cells.{cell_count, is_model}
use Rattle.theory.specs.Propositional.{prop_count}
use Rattle.theory.specs.Dimacs.{dimacs}
use Rattle.theory.specs.Valuation.{is_valuation, is_functional, read_back}
use Rattle.theory.specs.Refusals.{Refusal, Answer, answer, refused, at_place, at_line, unplaced, needing, ◌>>=◌, check, or_refuse}
use Rattle.theory.specs.Problem.{Problem}
use Rattle.theory.specs.Columns.{placed_problem, placed_case}
use Rattle.theory.specs.SheetText.{sheet_text}
use Rattle.theory.specs.CaseText.{case_length}
use Rattle.theory.specs.Operations.{max_size, max_instances, is_size, read_answer, judge_answer, explain_answer, length_answer, output_after, read_back_text, setting_text, Search, found, nothing, find_answer, find_output}
use Rattle.theory.specs.PlainSearch.{max_plain_cells, plain_result}
use Rattle.theory.proofs.Tests.{leb-true, eqb-true, and_left, and_right, or_cases, or_left, or_right}
use Rattle.theory.proofs.Lists.{elem-append, up_from-elem}
use Rattle.theory.proofs.Answers.{answer≢refused, refused-inj, unrefused}
use Rattle.theory.proofs.PlacedReading.{plain-problem, plain-case}
use Rattle.theory.proofs.SheetRefusals.{sheet-refusal}
use Rattle.theory.proofs.CaseRefusals.{case-refusal}
use Rattle.naming.specs.NamedProblem.{in_mode, shown_symbols}
use Rattle.naming.specs.NamedReading.{placed_named}
use Rattle.naming.specs.NamedOperations.{named_read_back_text, placed_in, mode_problem, read_back_text_in}
use Rattle.naming.proofs.NamedFaults.{named-refusal, named-told}
use Rattle.symmetry.specs.ConstantClauses.{prop_clauses_with, instance_count_with, work_needed_with}
use Rattle.symmetry.specs.SymmetricOperations.{shown_in, written_text_with}
use Rattle.symmetry.proofs.Chains.{content_chain, write_chain, write-chain}
use Rattle.allowance.specs.AllowedFind.{max_allowance, Stoppable, finished, stopped, find_within, allowed_answer, allowed_output, allowed_work}
use Rattle.renumbered_cases.specs.RenumberedCases.{is_listed, renumbered_text, least_form_text}
use Rattle.tptp.specs.Symbols.{problem_of}
use Rattle.tptp.specs.Places.{place_of}
use Rattle.tptp.specs.Tptp.{read_file, clauses_of_file, Fault, faults, sheet_in, tptp_text}
use Rattle.solver.specs.Replies.{Reply, claims_none, states, read_reply}
use Rattle.solver.specs.SolverText.{Outcome, model_case, claimed_none, stated_case, outcome_of, solver_text, solver_answer, solver_output}
use Rattle.sheet_merging.specs.Sheets.{Sheet, sheet_of, text_of}
use Rattle.sheet_merging.specs.Merging.{merged_sheet, agree, within_sheet, merged_text}
use Rattle.accepting.specs.Calls.{SolverAnswer, solver_in, OutcomeCall}
use Rattle.answers.specs.Answers.{FindAnswer, WriteAnswer, length_in, find_in}
use Rattle.answers.specs.Calls.{WritingCall, PlainSearchingCall}
use Rattle.finding.specs.Calls.{AllowedAnswer, allowed_in, AllowedCall}
use Rattle.uniting.specs.Calls.{written_in}
use Rattle.theorems.specs.Demand1.{read_numbers, judge_numbers, write_numbers, read_back_numbers, setting_numbers, renumber_numbers, least_form_numbers, find_numbers, plain_numbers, tptp_numbers, solver_numbers, merge_numbers, numbers_in, NumberOf, ResultOr, Demand1}
use Rattle.theorems.proofs.TptpNumbers.{is_tptp_number, text-numbers}

-- the number of every refusal of the answer is one of these
abbrev Within : {A : Type 0} → List ℕ → Answer A → Type 0
Within numbers m = (q : Refusal) → m ≡ refused q → NumberOf numbers q

within-result-or : {A : Type 0} (numbers : List ℕ) (m : Answer A) → Within numbers m → ResultOr (NumberOf numbers) m
within-result-or numbers (answer a) h = tt
within-result-or numbers (refused q) h = h q refl

-- the steps of an operation: a result, something that may refuse, a check
module _ (numbers : List ℕ) where
  ends : {A : Type 0} (a : A) → Within numbers (answer a)
  ends a q e = absurd (answer≢refused a q e)

  then : {A B : Type 0} (m : Answer A) (k : A → Answer B) → Within numbers m → ((a : A) → Within numbers (k a)) → Within numbers (m >>= k)
  then m k h f q e = unrefused m k q e (h q) (λ a _ e. f a q e)

  refuses : {A : Type 0} (p q : Refusal) → NumberOf numbers p → ◌≡◌ {A = Answer A} (refused p) (refused q) → NumberOf numbers q
  refuses {A = A} p q h e = subst (NumberOf numbers) (refused-inj {A = A} p q e) h

  checks : {B : Type 0} (b : Bool) (p : Refusal) (k : Unit {0} → Answer B) → NumberOf numbers p → Within numbers (k tt) → Within numbers (check b p >>= k)
  unfolding ◌>>=◌
  checks true p k h f q e = f q e
  checks {B = B} false p k h f q e = refuses {A = B} p q h e

-- the sheet's refusals are among those of an operation with numbers of its own
sheet-within : (own : List ℕ) (sheet : List ℕ) → Within (up_from 1 7 ++ own) (placed_problem sheet)
sheet-within own sheet q e =
    let r = plain-problem sheet q e in
    let same : r.plain.number ≡ q.number = ap (λ (q : Refusal). q.number) r.placed in
    let h : (leb 1 q.number && leb q.number 7) ≡ true = ap (λ (n : ℕ). leb 1 n && leb n 7) (sym same) ∙ (sheet-refusal sheet r.plain r.refuses).number in
    let low : 1 ≤ q.number = leb-true 1 q.number (and_left (leb 1 q.number) (leb q.number 7) h) in
    let high : q.number ≤ 7 = leb-true q.number 7 (and_right (leb 1 q.number) (leb q.number 7) h) in
    elem-append q.number (up_from 1 7) own ∙ or_left (elem q.number (up_from 1 7)) (elem q.number own) (up_from-elem q.number 1 7 low (omega arith))

-- in the mode with 21
named-within : (own : List ℕ) → elem 21 own ≡ true → (sheet : List ℕ) → Within (up_from 1 7 ++ own) (placed_named sheet)
named-within own h sheet q e = go (or_cases (leb 1 q.number && leb q.number 7) (eqb q.number 21) (named-refusal sheet (at_line q.number q.place.line) (named-told sheet q e).0).number)
  where
    go : ((leb 1 q.number && leb q.number 7) ≡ true) ⊎ (eqb q.number 21 ≡ true) → NumberOf (up_from 1 7 ++ own) q
    go (inl k) =
        let low : 1 ≤ q.number = leb-true 1 q.number (and_left (leb 1 q.number) (leb q.number 7) k) in
        let high : q.number ≤ 7 = leb-true q.number 7 (and_right (leb 1 q.number) (leb q.number 7) k) in
        elem-append q.number (up_from 1 7) own ∙ or_left (elem q.number (up_from 1 7)) (elem q.number own) (up_from-elem q.number 1 7 low (omega arith))
    go (inr k) =
        elem-append q.number (up_from 1 7) own
        ∙ or_right (elem q.number (up_from 1 7)) (elem q.number own) (ap (λ (n : ℕ). elem n own) (eqb-true q.number 21 k) ∙ h)

-- Read
read-within : (sheet : List ℕ) → Within read_numbers (read_answer sheet)
unfolding read_answer
read-within sheet = then read_numbers _ _ (sheet-within [] sheet) λ p. ends read_numbers _

-- a case is refused with 12
case-within : (numbers : List ℕ) → elem 12 numbers ≡ true → (g : Signature) (text : List ℕ) → Within numbers (placed_case g text)
case-within numbers h g text q e =
    let r = plain-case g text q e in
    let number : Refusal → ℕ = λ (q : Refusal). q.number in
    let twelve : 12 ≡ q.number = ap number (sym (case-refusal g text r.plain r.refuses).is) ∙ ap number r.placed in
    subst (λ (n : ℕ). elem n numbers ≡ true) twelve h

-- Judge
judge-within : (sheet case : List ℕ) → Within judge_numbers (judge_answer sheet case)
unfolding judge_answer
judge-within sheet case =
    then judge_numbers _ _ (sheet-within (12 ∷ []) sheet) λ p.
    then judge_numbers _ _ (case-within judge_numbers refl p.symbols case) λ k. ends judge_numbers _

-- Explain
explain-within : (sheet case : List ℕ) → Within judge_numbers (explain_answer sheet case)
unfolding explain_answer
explain-within sheet case =
    then judge_numbers _ _ (sheet-within (12 ∷ []) sheet) λ p.
    then judge_numbers _ _ (case-within judge_numbers refl p.symbols case) λ k. ends judge_numbers _

-- Read back
read-back-within : (sheet : List ℕ) (size : ℕ) (setting : List ℕ) (room : ℕ) → Within read_back_numbers (read_back_text sheet size setting room)
unfolding read_back_text
read-back-within sheet size setting room =
    then read_back_numbers _ _ (sheet-within (8 ∷ 11 ∷ 13 ∷ 14 ∷ []) sheet) λ p.
    checks read_back_numbers (is_size size) (unplaced 8) _ refl
    (checks read_back_numbers (is_valuation size p.symbols setting) (unplaced 13) _ refl
    (checks read_back_numbers (is_functional size p.symbols setting) (unplaced 14) _ refl
    (checks read_back_numbers (leb (case_length size p.symbols) room) (needing 11 (case_length size p.symbols)) _ refl (ends read_back_numbers _))))

-- Read back in the mode
named-read-back-within : (sheet : List ℕ) (size : ℕ) (setting : List ℕ) (room : ℕ) → Within (numbers_in true read_back_numbers) (named_read_back_text sheet size setting room)
unfolding named_read_back_text
named-read-back-within sheet size setting room =
    then (numbers_in true read_back_numbers) _ _ (named-within (8 ∷ 11 ∷ 13 ∷ 14 ∷ 21 ∷ []) refl sheet) λ p.
    checks (numbers_in true read_back_numbers) (is_size size) (unplaced 8) _ refl
    (checks (numbers_in true read_back_numbers) (is_valuation size (in_mode p).symbols setting) (unplaced 13) _ refl
    (checks (numbers_in true read_back_numbers) (is_functional size (in_mode p).symbols setting) (unplaced 14) _ refl
    (checks (numbers_in true read_back_numbers) (leb (case_length size (shown_symbols (in_mode p).symbols)) room) (needing 11 (case_length size (shown_symbols (in_mode p).symbols))) _ refl
    (ends (numbers_in true read_back_numbers) _))))

-- Setting
setting-within : (sheet case : List ℕ) (room : ℕ) → Within setting_numbers (setting_text sheet case room)
unfolding setting_text
setting-within sheet case room =
    then setting_numbers _ _ (sheet-within (11 ∷ 12 ∷ []) sheet) λ p.
    then setting_numbers _ _ (case-within setting_numbers refl p.symbols case) λ k.
    checks setting_numbers (leb (prop_count k.size p.symbols) room) (needing 11 (prop_count k.size p.symbols)) _ refl (ends setting_numbers _)

-- Renumber
renumber-within : (sheet case list : List ℕ) (room : ℕ) → Within renumber_numbers (renumbered_text sheet case list room)
unfolding renumbered_text
renumber-within sheet case list room =
    then renumber_numbers _ _ (sheet-within (11 ∷ 12 ∷ 25 ∷ []) sheet) λ p.
    then renumber_numbers _ _ (case-within renumber_numbers refl p.symbols case) λ k.
    checks renumber_numbers (is_listed k.size list) (unplaced 25) _ refl
    (checks renumber_numbers (leb (case_length k.size p.symbols) room) (needing 11 (case_length k.size p.symbols)) _ refl (ends renumber_numbers _))

-- Least form
least-form-within : (sheet case : List ℕ) (room : ℕ) → Within least_form_numbers (least_form_text sheet case room)
unfolding least_form_text
least-form-within sheet case room =
    then least_form_numbers _ _ (sheet-within (11 ∷ 12 ∷ []) sheet) λ p.
    then least_form_numbers _ _ (case-within least_form_numbers refl p.symbols case) λ k.
    checks least_form_numbers (leb (case_length k.size p.symbols) room) (needing 11 (case_length k.size p.symbols)) _ refl (ends least_form_numbers _)

-- Write and Find, with both switches, by the numbers of the sheet and of each check
module _ (named symmetry : Bool) (sheet : List ℕ) (numbers : List ℕ) (sheets : Within numbers (placed_in named sheet)) (eight : elem 8 numbers ≡ true) (nine : elem 9 numbers ≡ true) (eleven : elem 11 numbers ≡ true) where
  content-within : (size : ℕ) → Within numbers (content_chain named symmetry sheet size)
  unfolding content_chain
  content-within size =
      then numbers _ _ sheets λ (p : Problem).
      let m : Problem = mode_problem named p in
      checks numbers (is_size size) (unplaced 8) _ eight
      (checks numbers (leb (instance_count_with symmetry size m.symbols m.clauses) max_instances) (unplaced 9) _ nine (ends numbers _))

  write-within : (size room : ℕ) → Within numbers (write_chain named symmetry sheet size room)
  unfolding write_chain
  write-within size room =
      then numbers _ _ (content-within size) λ (p : Problem).
      let m : Problem = mode_problem named p in
      let n : ℕ = length (dimacs (prop_count size m.symbols) (prop_clauses_with symmetry size m.symbols m.clauses)) in
      checks numbers (leb n room) (needing 11 n) _ eleven (ends numbers _)

  find-within : elem 10 numbers ≡ true → elem 24 numbers ≡ true → (low high a work room : ℕ) → Within numbers (find_within named symmetry sheet low high a work room)
  unfolding find_within
  find-within ten twenty-four low high a work room =
      then numbers _ _ sheets λ (p : Problem).
      let m : Problem = mode_problem named p in
      let w : ℕ = work_needed_with symmetry high m.symbols m.clauses in
      let n : ℕ = case_length high (shown_in named m.symbols) in
      checks numbers (leb 1 low && leb high max_size && leb low high) (unplaced 8) _ eight
      (checks numbers (leb a max_allowance) (unplaced 24) _ twenty-four
      (checks numbers (leb (instance_count_with symmetry high m.symbols m.clauses) max_instances) (unplaced 9) _ nine
      (checks numbers (leb w work) (needing 10 w) _ ten (checks numbers (leb n room) (needing 11 n) _ eleven (ends numbers _)))))

-- in either mode
write-within-in : (named symmetry : Bool) (sheet : List ℕ) (size room : ℕ) → Within (numbers_in named write_numbers) (written_text_with named symmetry sheet size room)
write-within-in false symmetry sheet size room =
    subst (Within write_numbers) (sym (write-chain false symmetry sheet size room))
    (write-within false symmetry sheet write_numbers (sheet-within (8 ∷ 9 ∷ 11 ∷ []) sheet) refl refl refl size room)
write-within-in true symmetry sheet size room =
    subst (Within (numbers_in true write_numbers)) (sym (write-chain true symmetry sheet size room))
    (write-within true symmetry sheet (numbers_in true write_numbers) (named-within (8 ∷ 9 ∷ 11 ∷ 21 ∷ []) refl sheet) refl refl refl size room)

find-within-in : (named symmetry : Bool) (sheet : List ℕ) (low high a work room : ℕ) → Within (numbers_in named find_numbers) (find_within named symmetry sheet low high a work room)
find-within-in false symmetry sheet low high a work room =
    find-within false symmetry sheet find_numbers (sheet-within (8 ∷ 9 ∷ 10 ∷ 11 ∷ 24 ∷ []) sheet) refl refl refl refl refl low high a work room
find-within-in true symmetry sheet low high a work room =
    find-within true symmetry sheet (numbers_in true find_numbers) (named-within (8 ∷ 9 ∷ 10 ∷ 11 ∷ 24 ∷ 21 ∷ []) refl sheet) refl refl refl refl refl low high a work room

read-back-within-in : (named : Bool) (sheet : List ℕ) (size : ℕ) (setting : List ℕ) (room : ℕ) → Within (numbers_in named read_back_numbers) (read_back_text_in named sheet size setting room)
read-back-within-in false sheet size setting room = read-back-within sheet size setting room
read-back-within-in true sheet size setting room = named-read-back-within sheet size setting room

-- Find plain
plain-within : (sheet : List ℕ) (low high room : ℕ) → Within plain_numbers (plain_result sheet low high room)
unfolding plain_result
plain-within sheet low high room =
    then plain_numbers _ _ (sheet-within (8 ∷ 11 ∷ 20 ∷ []) sheet) λ p.
    checks plain_numbers (leb 1 low && leb high max_size && leb low high) (unplaced 8) _ refl
    (checks plain_numbers (leb (cell_count high p.symbols) max_plain_cells) (unplaced 20) _ refl
    (checks plain_numbers (leb (case_length high p.symbols) room) (needing 11 (case_length high p.symbols)) _ refl (ends plain_numbers _)))

-- From TPTP: 15 to 17 at the first fault, else 11
tptp-within : (text : List ℕ) (room : ℕ) → Within tptp_numbers (tptp_text text room)
unfolding tptp_text
tptp-within text room = go (faults text) (text-numbers text)
  where
    sheet : List ℕ
    sheet = sheet_text (problem_of (clauses_of_file (read_file text)))

    room-or : (b : Bool) (q : Refusal) → cond b (answer sheet) (refused (needing 11 (length sheet))) ≡ refused q → NumberOf tptp_numbers q
    room-or true q e = ends tptp_numbers sheet q e
    room-or false q e = refuses tptp_numbers {A = List ℕ} (needing 11 (length sheet)) q refl e

    go : (fs : List Fault) → all is_tptp_number fs ≡ true → (q : Refusal) → sheet_in text fs sheet room ≡ refused q → NumberOf tptp_numbers q
    go [] h q e = room-or (leb (length sheet) room) q e
    go (f ∷ fs) h q e =
        refuses tptp_numbers {A = List ℕ} (at_place f.number (place_of text f.place)) q
        (or_right (eqb f.number 11) (elem f.number (up_from 15 3)) (and_left (is_tptp_number f) (all is_tptp_number fs) h)) e

-- From solver
stated-within : (p : Problem) (size room : ℕ) (σ : List ℕ) → Within solver_numbers (stated_case p size room σ)
unfolding stated_case
stated-within p size room σ =
    checks solver_numbers (is_functional size p.symbols σ) (unplaced 14) _ refl
    (checks solver_numbers (is_model size p.symbols p.clauses (read_back size p.symbols σ)) (unplaced 19) _ refl
    (checks solver_numbers (leb (case_length size p.symbols) room) (needing 11 (case_length size p.symbols)) _ refl (ends solver_numbers _)))

solver-within : (sheet : List ℕ) (size : ℕ) (text : List ℕ) (room : ℕ) → Within solver_numbers (solver_text sheet size text room)
unfolding solver_text
solver-within sheet size text room =
    then solver_numbers _ _ (sheet-within (8 ∷ 11 ∷ 14 ∷ 18 ∷ 19 ∷ []) sheet) λ p.
    checks solver_numbers (is_size size) (unplaced 8) _ refl
    (then solver_numbers _ _ (unread (read_reply (prop_count size p.symbols) text)) (outcome p))
  where
    unread : (o : Option Reply) → Within solver_numbers (or_refuse o (unplaced 18))
    unread none q e = refuses solver_numbers {A = Reply} (unplaced 18) q refl e
    unread (some r) q e = ends solver_numbers r q e

    outcome : (p : Problem) (r : Reply) → Within solver_numbers (outcome_of p size room r)
    outcome p claims_none = ends solver_numbers claimed_none
    outcome p (states σ) = stated-within p size room σ

-- Merge
merge-within : (first second : List ℕ) (room : ℕ) → Within merge_numbers (merged_text first second room)
unfolding merged_text
merge-within first second room =
    then merge_numbers _ _ (sheet-within (11 ∷ 22 ∷ 23 ∷ []) first) λ p.
    then merge_numbers _ _ (sheet-within (11 ∷ 22 ∷ 23 ∷ []) second) λ q.
    let m : Sheet = merged_sheet (sheet_of p first) (sheet_of q second) in
    checks merge_numbers (agree p.symbols q.symbols) (unplaced 22) _ refl
    (checks merge_numbers (within_sheet m) (unplaced 23) _ refl
    (checks merge_numbers (leb (length (text_of m)) room) (needing 11 (length (text_of m))) _ refl (ends merge_numbers _)))

-- a refused call that writes leaves the output as it was
writing-kept : (numbers : List ℕ) (text : Answer (List ℕ)) (r : WriteAnswer) (output output' : List ℕ) → WritingCall text r output output' → Within numbers text
    → ResultOr (λ q. NumberOf numbers q × (output' ≡ output)) (length_in r)
writing-kept numbers text r output output' w h = subst (ResultOr (λ q. NumberOf numbers q × (output' ≡ output))) (sym w.answer) (go text w.left h)
  where
    go : (text : Answer (List ℕ)) → output' ≡ output_after text output → Within numbers text → ResultOr (λ q. NumberOf numbers q × (output' ≡ output)) (length_answer text)
    go (answer t) l h = tt
    go (refused q) l h = (h q refl, l)

-- a refused search leaves work and output as they were
searching-kept : (numbers : List ℕ) (result : Answer (Stoppable Search)) (r : AllowedAnswer) (work work' output output' : List ℕ) → AllowedCall result r work work' output output' → Within numbers result
    → ResultOr (λ q. NumberOf numbers q × (work' ≡ work) × (output' ≡ output)) (allowed_in r)
searching-kept numbers result r work work' output output' f h =
    subst (ResultOr (λ q. NumberOf numbers q × (work' ≡ work) × (output' ≡ output))) (sym f.answer) (go result f.worked f.left h)
  where
    go : (result : Answer (Stoppable Search)) → work' ≡ allowed_work result work → output' ≡ allowed_output result output → Within numbers result
        → ResultOr (λ q. NumberOf numbers q × (work' ≡ work) × (output' ≡ output)) (allowed_answer result)
    go (answer (finished (found s t) n)) w l h = tt
    go (answer (finished (nothing b) n)) w l h = tt
    go (answer (stopped s n)) w l h = tt
    go (refused q) w l h = (h q refl, w, l)

-- a refused search that is lent no work leaves the output as it was
plain-kept : (numbers : List ℕ) (result : Answer Search) (r : FindAnswer) (output output' : List ℕ) → PlainSearchingCall result r output output' → Within numbers result
    → ResultOr (λ q. NumberOf numbers q × (output' ≡ output)) (find_in r)
plain-kept numbers result r output output' f h = subst (ResultOr (λ q. NumberOf numbers q × (output' ≡ output))) (sym f.answer) (go result f.left h)
  where
    go : (result : Answer Search) → output' ≡ find_output result output → Within numbers result → ResultOr (λ q. NumberOf numbers q × (output' ≡ output)) (find_answer result)
    go (answer (found s t)) l h = tt
    go (answer (nothing b)) l h = tt
    go (refused q) l h = (h q refl, l)

-- a refused answer of a solver leaves the output as it was
outcome-kept : (numbers : List ℕ) (outcome : Answer (Outcome (List ℕ))) (r : SolverAnswer) (output output' : List ℕ) → OutcomeCall outcome r output output' → Within numbers outcome
    → ResultOr (λ q. NumberOf numbers q × (output' ≡ output)) (solver_in r)
outcome-kept numbers outcome r output output' c h = subst (ResultOr (λ q. NumberOf numbers q × (output' ≡ output))) (sym c.answer) (go outcome c.left h)
  where
    go : (outcome : Answer (Outcome (List ℕ))) → output' ≡ solver_output outcome output → Within numbers outcome → ResultOr (λ q. NumberOf numbers q × (output' ≡ output)) (solver_answer outcome)
    go (answer (model_case t)) l h = tt
    go (answer claimed_none) l h = tt
    go (refused q) l h = (h q refl, l)

-- the theorem
pub demand1-of-calls : Demand1
demand1-of-calls =
    record {
      read = λ sheet r c. subst (ResultOr (NumberOf read_numbers)) (sym c.answer) (within-result-or read_numbers (read_answer sheet) (read-within sheet));
      judge = λ sheet case r c. subst (ResultOr (NumberOf judge_numbers)) (sym c.answer) (within-result-or judge_numbers (judge_answer sheet case) (judge-within sheet case));
      explain = λ sheet case r c. subst (ResultOr (NumberOf judge_numbers)) (sym c.answer) (within-result-or judge_numbers (explain_answer sheet case) (explain-within sheet case));
      write = λ sheet size named symmetry r output output' c.
          writing-kept (numbers_in named write_numbers) (written_text_with named symmetry sheet size (length output)) r output output' c (write-within-in named symmetry sheet size (length output));
      read_back = λ sheet size named setting r output output' c.
          writing-kept (numbers_in named read_back_numbers) (read_back_text_in named sheet size setting (length output)) r output output' c (read-back-within-in named sheet size setting (length output));
      setting = λ sheet case r output output' c.
          writing-kept setting_numbers (setting_text sheet case (length output)) r output output' c (setting-within sheet case (length output));
      renumber = λ sheet case list r output output' c.
          writing-kept renumber_numbers (renumbered_text sheet case list (length output)) r output output' c (renumber-within sheet case list (length output));
      least_form = λ sheet case r output output' c.
          writing-kept least_form_numbers (least_form_text sheet case (length output)) r output output' c (least-form-within sheet case (length output));
      find = λ sheet low high named symmetry a r work work' output output' c.
          searching-kept (numbers_in named find_numbers) (find_within named symmetry sheet low high a (length work) (length output)) r work work' output output' c
          (find-within-in named symmetry sheet low high a (length work) (length output));
      find_plain = λ sheet low high r output output' c. plain-kept plain_numbers (plain_result sheet low high (length output)) r output output' c (plain-within sheet low high (length output));
      from_tptp = λ text r output output' c. writing-kept tptp_numbers (tptp_text text (length output)) r output output' c (tptp-within text (length output));
      from_solver = λ sheet size text r output output' c. outcome-kept solver_numbers (solver_text sheet size text (length output)) r output output' c (solver-within sheet size text (length output));
      merge = λ first second r output output' c. writing-kept merge_numbers (merged_text first second (length output)) (written_in r) output output' c.call (merge-within first second (length output));
    }
