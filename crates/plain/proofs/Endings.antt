-- The ends of Find plain: a case was found and written, none was found, or it refuses.
use Prim.Native.Nat.{ℕ, ◌≤◌, ◌<◌}
use mathlib.Core.Path.{◌≡◌, refl, sym, ap, ◌∙◌}
use mathlib.Core.Bool.{Bool, true, false}
use mathlib.Core.Option.{Option, none, some}
use mathlib.Core.List.{List}
use borrow.Author.Tests.{le-leb, lt-leb}
use lib.Dec.{leb}
use lib.ListN.{length}
use Rattle.theory.specs.Cells.{cell_count}
use Rattle.theory.specs.Refusals.{Answer, answer, refused, unplaced, needing}
use Rattle.theory.specs.Refusals as theory
use Rattle.theory.specs.Problem.{Problem}
use Rattle.theory.specs.CaseText.{Case, case_text, case_length}
use Rattle.theory.specs.Columns.{placed_problem}
use Rattle.theory.specs.Least.{least_model, smallest_model, with_size, settled}
use Rattle.theory.specs.Operations.{Search, found, nothing, search_of, found_case, no_case, over, find_answer, find_output}
use Rattle.theory.specs.PlainSearch.{max_plain_cells, plain_result}
use Rattle.theory.proofs.Answers.{bind-step, bind-refused, check-of-true, check-of-false}
use Rattle.theory.proofs.CaseLengths.{case-lengths}
use Rattle.theory.proofs.Least.{least}
use Rattle.answers.specs.declared.Refusal.{Refusal}
use Rattle.std.specs.Prelude.{Ok, Err}
use Rattle.answers.specs.declared.PlainResult.TheVariants as find
use Rattle.answers.specs.Answers.{FindAnswer, refusal_in, find_in}
use Rattle.answers.specs.Calls.{PlainSearchingCall}
use Rattle.ranges.specs.Ranges.{are_sizes}
use Rattle.plain.specs.Ending.{found_within, found_in}

-- what is found, known
module _ (result : Answer Search) (r : FindAnswer) (output output' : List ℕ) where
  pub ends_by : (a : Answer Search) → result ≡ a → find_in r ≡ find_answer a → output' ≡ find_output a output → PlainSearchingCall result r output output'
  ends_by a e f o = record { answer = f ∙ sym (ap find_answer e); left = o ∙ sym (ap (λ (b : Answer Search). find_output b output) e) }

  -- found otherwise, but the same
  pub ends_as : (a : Answer Search) → result ≡ a → PlainSearchingCall a r output output' → PlainSearchingCall result r output output'
  ends_as a e h = ends_by a e h.answer h.left

-- a refusal changes nothing
pub ends-refused : (result : Answer Search) (r : Refusal) (q : theory.Refusal) (output : List ℕ) → result ≡ refused q → refusal_in r ≡ q → PlainSearchingCall result (Err r) output output
ends-refused result r q output e f = ends_by result (Err r) output output (refused q) e (ap (λ (q : theory.Refusal). refused q) f) refl

module _ (p : Problem) (low high : ℕ) (output output' : List ℕ) where
  -- the least model at the smallest size was written
  pub ends_found : (s n : ℕ) (vs : List ℕ) → 1 ≤ s → least_model s p ≡ some vs → n ≡ case_length s p.symbols → output' ≡ over (case_text s p.symbols vs) output
      → smallest_model p low high ≡ with_size s (least_model s p) → PlainSearchingCall (found_within p low high) (Ok (find.Found s n)) output output'
  ends_found s n vs pos m l o e =
      let long : length (case_text s p.symbols vs) ≡ case_length s p.symbols = case-lengths s p.symbols vs pos ((least p).is_least s vs m).0.interpretation in
      ends_by (found_within p low high) (Ok (find.Found s n)) output output'
      (answer (found s (case_text s p.symbols vs)))
      (ap (λ (k : Option Case). answer (search_of p low high k)) (e ∙ ap (with_size s) m))
      (ap (λ (k : ℕ). answer (found_case s k)) (l ∙ sym long))
      o

  -- no size has a model
  pub ends-none : (b : Bool) → smallest_model p low high ≡ none → b ≡ settled p low high → output' ≡ output → PlainSearchingCall (found_within p low high) (Ok (find.Nothing b)) output output'
  ends-none b e t o =
      ends_by (found_within p low high) (Ok (find.Nothing b)) output output'
      (answer (nothing (settled p low high)))
      (ap (λ (k : Option Case). answer (search_of p low high k)) e)
      (ap (λ (b : Bool). answer (no_case b)) t)
      o

-- the checks in order: the first that fails refuses, and where all pass the search decides
module _ (p : Problem) (low high room : ℕ) where
  abbrev cells : ℕ
  cells = cell_count high p.symbols

  abbrev l : ℕ
  l = case_length high p.symbols

  pub refused-20 : max_plain_cells < cells → found_in p low high room ≡ refused (unplaced 20)
  unfolding found_in
  refused-20 e = bind-refused _ _ (unplaced 20) (check-of-false (leb cells max_plain_cells) (unplaced 20) (lt-leb cells max_plain_cells e))

  module _ (few : cells ≤ max_plain_cells) where
    pub refused-11 : room < l → found_in p low high room ≡ refused (needing 11 l)
    unfolding found_in
    refused-11 e =
        bind-step _ _ _ _ (check-of-true (leb cells max_plain_cells) (unplaced 20) (le-leb cells max_plain_cells few))
        (bind-refused _ _ (needing 11 l) (check-of-false (leb l room) (needing 11 l) (lt-leb l room e)))

    pub searches : l ≤ room → found_in p low high room ≡ found_within p low high
    unfolding found_in
    searches e =
        bind-step _ _ _ _ (check-of-true (leb cells max_plain_cells) (unplaced 20) (le-leb cells max_plain_cells few))
        (bind-step _ _ _ _ (check-of-true (leb l room) (needing 11 l) (le-leb l room e)) refl)

module _ (sheet : List ℕ) (low high room : ℕ) where
  -- a sheet that is refused
  pub result-refused : (r : theory.Refusal) → placed_problem sheet ≡ refused r → plain_result sheet low high room ≡ refused r
  unfolding plain_result
  result-refused r e = bind-refused _ _ r e

  module _ (p : Problem) (read : placed_problem sheet ≡ answer p) where
    -- one that was read, at what are no sizes
    pub result-8 : are_sizes low high ≡ false → plain_result sheet low high room ≡ refused (unplaced 8)
    unfolding plain_result
    result-8 e = bind-step _ _ _ _ read (bind-refused _ _ (unplaced 8) (check-of-false (are_sizes low high) (unplaced 8) e))

    -- and at sizes
    pub result-read : are_sizes low high ≡ true → plain_result sheet low high room ≡ found_in p low high room
    unfolding plain_result found_in
    result-read e = bind-step _ _ _ _ read (bind-step _ _ _ _ (check-of-true (are_sizes low high) (unplaced 8) e) refl)
