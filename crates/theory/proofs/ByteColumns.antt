-- The columns of 2 and 12: the first byte that nothing after it can clear; and reading again with other text from the line on.
use Prim.Native.Nat.{ℕ, zero, suc, ◌-◌}
use mathlib.Core.Path.{◌≡◌, refl, sym, ap, ◌∙◌}
use mathlib.Core.Bool.{true, false, not}
use mathlib.Core.List.{List, [], ◌∷◌, ◌++◌, append_cancel_right}
use native.Mathlib.Omega.{arith}
use lib.ListN.{get_or, take, replicate}
use Rattle.theory.specs.Refusals.{Answer, refused, at_line}
use Rattle.theory.specs.LineForms.{LineForm, no_line, is_laid_out, good_bytes}
use Rattle.theory.specs.DueLines.{first_line, from_line, functions_said, predicates_said, clauses_said, lines_with, due_in_sheet}
use Rattle.theory.specs.Columns.{byte_column}
use Rattle.theory.specs.Claims.Columns.{ByteBeyondHelp}
use Rattle.theory.proofs.Tests.{false_of_not}
use Rattle.theory.proofs.LineTexts.{CanBeLaidOut, good-within, text-stays, text-clears}
use Rattle.theory.proofs.LinesBefore.{Cuts, Before, before_of, SameLines}
use Rattle.theory.proofs.DueLines.{function_form, predicate_form, clause_form}
use Rattle.theory.proofs.Stopping.{Stops}

-- a line that is not as laid out, where what is due depends on the lines before it only
pub beyond : (due : List ℕ → ℕ → LineForm) → ((l : ℕ) (x y : List ℕ) → SameLines l x y → due x l ≡ due y l) → (text : List ℕ) (l : ℕ) → Cuts l text → CanBeLaidOut (due text l)
    → is_laid_out (due text l) (from_line l text) ≡ false → ByteBeyondHelp (λ x i. not (is_laid_out (due x i) (from_line i x))) text l (byte_column (due text l) (first_line (from_line l text)))
unfolding byte_column
beyond due local text l cuts can h =
    let b : Before l text = before_of l text cuts in
    let d : LineForm = due text l in
    let t : List ℕ = from_line l text in
    let n : ℕ = good_bytes d (first_line t) in
    let there : (u : List ℕ) → not (is_laid_out (due (b.before ++ u) l) (from_line l (b.before ++ u))) ≡ not (is_laid_out d u) =
    λ u. ap (λ (v : List ℕ). not (is_laid_out (due (b.before ++ u) l) v)) (b.from u) ∙ ap (λ (d : LineForm). not (is_laid_out d u)) (local l (b.before ++ u) text (b.lines u)) in
    let c = text-clears d t can in
    let one : suc n - 1 ≡ n = omega arith in
    let w = good-within d (first_line t) in
    record {
      before = b.before;
      whole = b.whole;
      holds = ap not h;
      first = omega arith;
      within = omega (arith, w);
      stays = λ rest k. there (take (suc n) t ++ rest) ∙ ap not (text-stays d t rest can h k);
      clears = (c.0, there (take (suc n - 1) t ++ c.0) ∙ ap (λ (m : ℕ). not (is_laid_out d (take m t ++ c.0))) one ∙ ap not c.1);
    }

-- every line of a sheet can be as laid out
abbrev CanAll : List LineForm → Type 0
CanAll [] = Unit {0}
CanAll (d ∷ ds) = CanBeLaidOut d × CanAll ds

can-block : (n : ℕ) (d : LineForm) (ds : List LineForm) → CanBeLaidOut d → CanAll ds → CanAll (replicate n d ++ ds)
can-block zero d ds c r = r
can-block (suc n) d ds c r = (c, can-block n d ds c r)

can-only : (n : ℕ) (d : LineForm) → CanBeLaidOut d → CanAll (replicate n d)
can-only zero d c = tt
can-only (suc n) d c = (c, can-only n d c)

can-at : (ds : List LineForm) (i : ℕ) → CanAll ds → CanBeLaidOut (get_or ds i no_line)
can-at [] i c = tt
can-at (d ∷ ds) zero c = c.0
can-at (d ∷ ds) (suc i) c = can-at ds i c.1

pub sheet-can : (text : List ℕ) (l : ℕ) → CanBeLaidOut (due_in_sheet text l)
unfolding due_in_sheet
sheet-can text l =
    can-at (lines_with (functions_said text) (predicates_said text) (clauses_said text)) l (
      (refl, tt),
      (
        (refl, tt),
        can-block (functions_said text) function_form _ (refl, tt) (
          (refl, tt),
          can-block (predicates_said text) predicate_form _ (refl, tt)
              ((refl, tt), can-only (clauses_said text) clause_form (refl, tt)),
        ),
      ),
    )

-- the condition with other text from the line on is that the text is not as laid out
condition-there : (due : List ℕ → ℕ → LineForm) → ((l : ℕ) (x y : List ℕ) → SameLines l x y → due x l ≡ due y l) → (text : List ℕ) (l : ℕ) → Cuts l text → (before t : List ℕ) → before ++ from_line l text ≡ text
    → is_laid_out (due (before ++ t) l) (from_line l (before ++ t)) ≡ is_laid_out (due text l) t
condition-there due local text l cuts before t whole =
    let b : Before l text = before_of l text cuts in
    let same : before ≡ b.before = append_cancel_right before b.before (from_line l text) (whole ∙ sym b.whole) in
    ap (λ (c : List ℕ). is_laid_out (due (c ++ t) l) (from_line l (c ++ t))) same
    ∙ ap (is_laid_out (due (b.before ++ t) l)) (b.from t)
    ∙ ap (λ (d : LineForm). is_laid_out d t) (local l (b.before ++ t) text (b.lines t))

-- a reader that stops on a line, read again
pub read_again : {A : Type 0} (due : List ℕ → ℕ → LineForm) → ((l : ℕ) (x y : List ℕ) → SameLines l x y → due x l ≡ due y l) → (K : List ℕ → Answer A) (text : List ℕ) (x l : ℕ) → Stops text (due text) x l K text
    → (before t : List ℕ) → before ++ from_line l text ≡ text → not (is_laid_out (due (before ++ t) l) (from_line l (before ++ t))) ≡ true → K (before ++ t) ≡ refused (at_line x (suc l))
read_again due local K text x l s before t whole h =
    let split : s.taken ++ from_line l text ≡ text = ap (λ (r : List ℕ). s.taken ++ r) s.at.here ∙ s.whole in
    let same : before ≡ s.taken = append_cancel_right before s.taken (from_line l text) (whole ∙ sym split) in
    let faulty : is_laid_out (due text l) t ≡ false = sym (condition-there due local text l s.at.cuts before t whole) ∙ false_of_not (is_laid_out (due (before ++ t) l) (from_line l (before ++ t))) h in
    ap (λ (c : List ℕ). K (c ++ t)) same ∙ s.again t faulty
