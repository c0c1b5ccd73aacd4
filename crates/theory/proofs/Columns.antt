-- The columns of refusals are as claimed.
use Prim.Native.Nat.{ℕ, suc, ◌≤◌}
use mathlib.Core.Path.{◌≡◌, refl, sym, ap, ◌∙◌}
use mathlib.Core.Logic.{◌↔◌}
use mathlib.Core.Bool.{true, not}
use mathlib.Core.List.{List, ◌++◌}
use lib.ListN.{length}
use Rattle.theory.specs.Lists.{all}
use Rattle.theory.specs.Bytes.{LF}
use Rattle.theory.specs.Syntax.{Symbol, Signature}
use Rattle.theory.specs.Refusals.{Refusal, Answer, answer, refused, at_line}
use Rattle.theory.specs.Problem.{max_bytes, Problem, read_problem}
use Rattle.theory.specs.CaseText.{read_case}
use Rattle.theory.specs.DueLines.{first_line, from_line, due_in_sheet, sheet_symbols, due_in_case}
use Rattle.theory.specs.Columns.{line_column, sheet_column, case_column, with_column, with_columns, placed_problem, placed_case}
use Rattle.theory.specs.Claims.Columns.{two_on, twelve_on, ByteBeyondHelp, OverNumber, BadName, WordBeyondHelp, FirstUnknown, OverLimit, without_column, Columns}
use Rattle.theory.proofs.Parsing.{read_problem-well_formed, names-without}
use Rattle.theory.proofs.Lines.{in_line}
use Rattle.theory.proofs.SheetRefusals.{sheet-refusal}
use Rattle.theory.proofs.CaseRefusals.{case-refusal}
use Rattle.theory.proofs.DueLines.{sheet-local, case-local}
use Rattle.theory.proofs.SheetSections.{symbols-declared}
use Rattle.theory.proofs.SheetFaults.{LineFault, sheet-fault}
use Rattle.theory.proofs.CaseFaults.{Misfit, case-misfit}
use Rattle.theory.proofs.Misplaced.{beyond-words}
use Rattle.theory.proofs.WordColumns.{word_at, first-unknown, over-limit}
use Rattle.theory.proofs.SheetAgain.{sheet_reading, sheet-again, problem-read}
use Rattle.theory.proofs.CaseAgain.{case_reading, read_case-parts, case-again}
use Rattle.theory.proofs.ByteColumns.{beyond, sheet-can, read_again}

-- the columns of faults on a line
pub two_at : (sheet : List ℕ) (l : ℕ) → LineFault sheet l 2 → ByteBeyondHelp two_on sheet l (sheet_column sheet 2 (suc l))
unfolding sheet_column line_column
two_at sheet l f = beyond due_in_sheet sheet-local sheet l f.cuts (sheet-can sheet l) f.has

pub three-at : (sheet : List ℕ) (l : ℕ) → LineFault sheet l 3 → OverNumber (due_in_sheet sheet l) (first_line (from_line l sheet)) (sheet_column sheet 3 (suc l))
unfolding sheet_column line_column
three-at sheet l f = f.has

pub four-at : (sheet : List ℕ) (l : ℕ) → LineFault sheet l 4 → BadName sheet l (sheet_column sheet 4 (suc l))
unfolding sheet_column line_column
four-at sheet l f = f.has

pub five-at : (sheet : List ℕ) (l : ℕ) → LineFault sheet l 5 → FirstUnknown (sheet_symbols sheet) (due_in_sheet sheet l) (first_line (from_line l sheet)) (sheet_column sheet 5 (suc l))
unfolding sheet_column line_column
five-at sheet l f = first-unknown (sheet_symbols sheet) (due_in_sheet sheet l) (first_line (from_line l sheet)) f.has.unknown

pub six-at : (sheet : List ℕ) (l : ℕ) → LineFault sheet l 6 → WordBeyondHelp (sheet_symbols sheet) (due_in_sheet sheet l) (first_line (from_line l sheet)) (sheet_column sheet 6 (suc l))
unfolding sheet_column line_column
six-at sheet l f =
    let w = f.has in
    beyond-words (sheet_symbols sheet) (due_in_sheet sheet l) (first_line (from_line l sheet)) w.known w.read w.no_clause

pub seven_at : (sheet : List ℕ) (l : ℕ) → LineFault sheet l 7 → OverLimit (sheet_symbols sheet) (due_in_sheet sheet l) (first_line (from_line l sheet)) (sheet_column sheet 7 (suc l))
unfolding sheet_column line_column
seven_at sheet l f =
    let w = f.has in
    over-limit (sheet_symbols sheet) (due_in_sheet sheet l) (first_line (from_line l sheet)) w.known w.clause w.read w.is w.over

twelve : (sheet case : List ℕ) (p : Problem) (l : ℕ) → read_problem sheet ≡ answer p → read_case p.symbols case ≡ refused (at_line 12 (suc l))
    → ByteBeyondHelp (twelve_on p.symbols) case l (case_column p.symbols case (suc l))
unfolding case_column
twelve sheet case p l a e =
    let names : all (λ (f : Symbol). all in_line f.name) p.symbols ≡ true = names-without p (read_problem-well_formed sheet p a) LF refl in
    let m : Misfit p.symbols case names l = case-misfit p.symbols case names l e in
    beyond (due_in_case p.symbols) (case-local p.symbols) case l m.cuts m.can m.twelve

given-two : (sheet : List ℕ) (n l : ℕ) → read_problem sheet ≡ refused (at_line n (suc l)) → (before t : List ℕ) → before ++ from_line l sheet ≡ sheet → length (before ++ t) ≤ max_bytes
    → (read_problem (before ++ t) ≡ refused (at_line 2 (suc l))) ↔ (two_on (before ++ t) l ≡ true)
given-two sheet n l e before t whole room = (
  λ r. ap not (sheet-fault (before ++ t) 2 l r).has,
  λ h. problem-read (before ++ t) (refused (at_line 2 (suc l))) room (read_again due_in_sheet sheet-local sheet_reading sheet 2 l (sheet-again sheet n l e) before t whole h),
)

given-twelve : (sheet case : List ℕ) (p : Problem) (l : ℕ) → read_problem sheet ≡ answer p → read_case p.symbols case ≡ refused (at_line 12 (suc l)) → (before t : List ℕ) → before ++ from_line l case ≡ case
    → (read_case p.symbols (before ++ t) ≡ refused (at_line 12 (suc l))) ↔ (twelve_on p.symbols (before ++ t) l ≡ true)
given-twelve sheet case p l a e before t whole =
    let g : Signature = p.symbols in
    let names : all (λ (f : Symbol). all in_line f.name) g ≡ true = names-without p (read_problem-well_formed sheet p a) LF refl in (
      λ r. ap not (case-misfit g (before ++ t) names l r).twelve,
      λ h. read_case-parts g (before ++ t) ∙ read_again (due_in_case g) (case-local g) (case_reading g) case 12 l (case-again g case names l e) before t whole h,
    )

-- a refusal without a column, given one and left without it again
column-taken : (c : ℕ) (r : Refusal) → r.place.column ≡ 0 → with_column 0 (with_column c r) ≡ r
column-taken c r e = ap (λ (k : ℕ). with_column k r) (sym e)

without : {A : Type 0} (column : ℕ → ℕ → ℕ) (a : Answer A) → ((r : Refusal) → a ≡ refused r → r.place.column ≡ 0) → without_column (with_columns column a) ≡ a
without column (answer a) h = refl
without column (refused r) h = ap refused (column-taken (column r.number r.place.line) r (h r refl))

problem : (sheet : List ℕ) → without_column (placed_problem sheet) ≡ read_problem sheet
unfolding placed_problem
problem sheet = without (sheet_column sheet) (read_problem sheet) (λ r e. (sheet-refusal sheet r e).column)

case : (g : Signature) (text : List ℕ) → without_column (placed_case g text) ≡ read_case g text
unfolding placed_case
case g text = without (λ n l. case_column g text l) (read_case g text) (λ r e. ap (λ (r : Refusal). r.place.column) (case-refusal g text r e).is)

no_line : (sheet : List ℕ) (n : ℕ) → sheet_column sheet n 0 ≡ 0
unfolding sheet_column
no_line sheet n = refl

pub columns : Columns
columns =
    record {
      two = λ sheet l e. two_at sheet l (sheet-fault sheet 2 l e);
      three = λ sheet l e. three-at sheet l (sheet-fault sheet 3 l e);
      four = λ sheet l e. four-at sheet l (sheet-fault sheet 4 l e);
      five = λ sheet l e. five-at sheet l (sheet-fault sheet 5 l e);
      six = λ sheet l e. six-at sheet l (sheet-fault sheet 6 l e);
      seven = λ sheet l e. seven_at sheet l (sheet-fault sheet 7 l e);
      twelve = twelve;
      given_two = given-two;
      given_twelve = given-twelve;
      words = word_at;
      symbols = symbols-declared;
      problem = problem;
      case = case;
      unplaced = no_line;
    }
