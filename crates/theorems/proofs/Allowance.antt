-- The allowance, of the calls, from what is proved of the search with an allowance.
use Prim.Native.Nat.{ℕ, zero, ◌≤◌, ◌<◌}
use mathlib.Core.Path.{◌≡◌, refl, sym, ap, ◌∙◌, subst}
use mathlib.Core.Logic.{◌⊎◌, inl, inr}
use mathlib.Core.Bool.{Bool, true, false}
use mathlib.Core.Option.{Option, none}
use mathlib.Core.List.{List}
use native.Mathlib.Omega.{arith}
use lib.ListN.{length, take, drop}
use lib.Seq.{take-append_seam}
use Rattle.std.specs.Prelude.{Ok, Err}
use Rattle.theory.specs.Cells.{is_interpretation}
use Rattle.theory.specs.Least.{least_model}
use Rattle.theory.specs.Claims.Walk.{read_back_found}
use Rattle.theory.specs.Refusals.{Answer, answer, refused}
use Rattle.theory.specs.Problem.{Problem}
use Rattle.theory.specs.Operations.{Search, found, nothing, over, found_case, no_case}
use Rattle.theory.proofs.Answers.{answer≢refused}
use Rattle.theory.proofs.Least.{least}
use Rattle.theory.proofs.CaseText.{OnlyText, read-exactly}
use Rattle.naming.specs.NamedProblem.{in_mode}
use Rattle.naming.specs.NamedOperations.{read_problem_in, mode_problem}
use Rattle.naming.specs.Claims.Finding.{shown_found}
use Rattle.naming.specs.Claims.ReadingBack.{SheetModel}
use Rattle.symmetry.specs.Obeying.{least_with, searched_with}
use Rattle.symmetry.proofs.ConstantClauses.{constant_clauses}
use Rattle.symmetry.proofs.NamedTwins.{named_twins}
use Rattle.symmetry.proofs.Obeying.{twins}
use Rattle.symmetry.proofs.Searched.{Read, read-in, searched-with}
use Rattle.allowance.specs.AllowedFind.{Stoppable, finished, stopped, find_within, allowed_answer, allowed_output, allowed_work}
use Rattle.allowance.specs.Claims.AllowedFind.{choices_needed, AllowedFind}
use Rattle.allowance.proofs.AllowedFind.{allowed-find, same-refusals}
use Rattle.answers.specs.declared.PlainResult.TheVariants as plain
use Rattle.answers.specs.Answers.{FindAnswer, refusal_in}
use Rattle.finding.specs.declared.allowed.FindResult.TheVariants.{Found, Nothing, Stopped}
use Rattle.finding.specs.Calls.{AllowedAnswer, allowed_in, AllowedCall, FindCall}
use Rattle.theorems.specs.Models.{Model}
use Rattle.theorems.specs.Unstopped.{counting}
use Rattle.theorems.specs.Allowance.{Unrefused, IsStopped, StoppedCall, SameWithin, AllowedCalls, Allowance}
use Rattle.theorems.proofs.Models.{is-sheet-model}
use Rattle.theorems.proofs.Unstopped.{result-of, allowed-refused}

-- where the walk of a size finds nothing, no case of that size is a model of the sheet as handed in
module _ (p : Problem) (got : Read p) where
  none-least : (named symmetry : Bool) (t : ℕ) → zero < t → (searched_with symmetry t (mode_problem named p)).answer ≡ none → least_with symmetry t p ≡ none
  none-least false symmetry t pos e = sym (constant_clauses.walk symmetry t p pos got.sheet.clauses) ∙ ap (read_back_found t p) e
  none-least true symmetry t pos e =
      sym ((named_twins p got.sheet).walk symmetry t pos) ∙ ap (λ (o : Option (List ℕ)). shown_found t (in_mode p).symbols (read_back_found t (in_mode p) o)) e

  none_at_all : (symmetry : Bool) (t : ℕ) → zero < t → least_with symmetry t p ≡ none → least_model t p ≡ none
  none_at_all false t pos e = e
  none_at_all true t pos e = ((twins.problems p got.sheet.clauses).no_least t pos).0 e

  no-model-at : (named symmetry : Bool) (t : ℕ) (d : List ℕ) → (searched_with symmetry t (mode_problem named p)).answer ≡ none → Model p t d → ⊥
  no-model-at named symmetry t d e m =
      let j : SheetModel p t d = is-sheet-model p t d m in
      let only : OnlyText p.symbols d j.case = read-exactly p.symbols d j.case j.read in
      let pos : zero < t = subst (λ (s : ℕ). zero < s) j.sized only.positive in
      ((least p).no_least t).0 (none_at_all symmetry t pos (none-least named symmetry t pos e)) j.case.values
      (record { interpretation = ap (λ (s : ℕ). is_interpretation s p.symbols j.case.values) (sym j.sized) ∙ only.interpretation; model = j.model })

-- the search that an answer tells of
found_within : (a : Answer (Stoppable Search)) (size n k : ℕ) → allowed_answer a ≡ answer (finished (found_case size n) k) → (c : List ℕ) × (a ≡ answer (finished (found size c) k)) × (length c ≡ n)
found_within (answer (finished (found s c) m)) size n k e =
    let s≡ : s ≡ size = cc in
    let m≡ : m ≡ k = cc in
    (c, ap (λ (s : ℕ). answer (finished (found s c) m)) s≡ ∙ ap (λ (m : ℕ). answer (finished (found size c) m)) m≡, cc)
found_within (answer (finished (nothing b) m)) size n k e = let z : ◌≡◌ {A = ℕ} 0 1 = cc in absurd (omega arith)
found_within (answer (stopped s m)) size n k e = let z : ◌≡◌ {A = ℕ} 0 1 = cc in absurd (omega arith)
found_within (refused q) size n k e = absurd (answer≢refused _ q (sym e))

none_within : (a : Answer (Stoppable Search)) (b : Bool) (k : ℕ) → allowed_answer a ≡ answer (finished (no_case b) k) → a ≡ answer (finished (nothing b) k)
none_within (answer (finished (found s c) m)) b k e = let z : ◌≡◌ {A = ℕ} 0 1 = cc in absurd (omega arith)
none_within (answer (finished (nothing d) m)) b k e =
    let d≡ : d ≡ b = cc in
    let m≡ : m ≡ k = cc in
    ap (λ (d : Bool). answer (finished (nothing d) m)) d≡ ∙ ap (λ (m : ℕ). answer (finished (nothing b) m)) m≡
none_within (answer (stopped s m)) b k e = let z : ◌≡◌ {A = ℕ} 0 1 = cc in absurd (omega arith)
none_within (refused q) b k e = absurd (answer≢refused _ q (sym e))

stopped-within : (a : Answer (Stoppable Search)) (s n : ℕ) → allowed_answer a ≡ answer (stopped s n) → a ≡ answer (stopped s n)
stopped-within (answer (finished (found t c) m)) s n e = let z : ◌≡◌ {A = ℕ} 0 1 = cc in absurd (omega arith)
stopped-within (answer (finished (nothing d) m)) s n e = let z : ◌≡◌ {A = ℕ} 0 1 = cc in absurd (omega arith)
stopped-within (answer (stopped t m)) s n e =
    let t≡ : t ≡ s = cc in
    let m≡ : m ≡ n = cc in
    ap (λ (t : ℕ). answer (stopped t m)) t≡ ∙ ap (λ (m : ℕ). answer (stopped s m)) m≡
stopped-within (refused q) s n e = absurd (answer≢refused _ q (sym e))

-- answers that say the same are the same
same-allowed : (r s : AllowedAnswer) → allowed_in r ≡ allowed_in s → Unrefused r → r ≡ s
same-allowed (Ok (Found m n k)) (Ok (Found i j l)) e h = let a : m ≡ i = cc in let b : n ≡ j = cc in let c : k ≡ l = cc in cc
same-allowed (Ok (Found m n k)) (Ok (Nothing b l)) e h = let z : ◌≡◌ {A = ℕ} 0 1 = cc in absurd (omega arith)
same-allowed (Ok (Found m n k)) (Ok (Stopped i j)) e h = let z : ◌≡◌ {A = ℕ} 0 1 = cc in absurd (omega arith)
same-allowed (Ok (Found m n k)) (Err q) e h = absurd (answer≢refused _ (refusal_in q) e)
same-allowed (Ok (Nothing b k)) (Ok (Found i j l)) e h = let z : ◌≡◌ {A = ℕ} 0 1 = cc in absurd (omega arith)
same-allowed (Ok (Nothing b k)) (Ok (Nothing d l)) e h = let a : b ≡ d = cc in let c : k ≡ l = cc in cc
same-allowed (Ok (Nothing b k)) (Ok (Stopped i j)) e h = let z : ◌≡◌ {A = ℕ} 0 1 = cc in absurd (omega arith)
same-allowed (Ok (Nothing b k)) (Err q) e h = absurd (answer≢refused _ (refusal_in q) e)
same-allowed (Ok (Stopped m n)) (Ok (Found i j l)) e h = let z : ◌≡◌ {A = ℕ} 0 1 = cc in absurd (omega arith)
same-allowed (Ok (Stopped m n)) (Ok (Nothing d l)) e h = let z : ◌≡◌ {A = ℕ} 0 1 = cc in absurd (omega arith)
same-allowed (Ok (Stopped m n)) (Ok (Stopped i j)) e h = let a : m ≡ i = cc in let b : n ≡ j = cc in cc
same-allowed (Ok (Stopped m n)) (Err q) e h = absurd (answer≢refused _ (refusal_in q) e)
same-allowed (Err q) s e h = absurd (h q refl)

-- a found case stands at the front of the output
stands-within : (a : Answer (Stoppable Search)) (r : AllowedAnswer) (work work' output output' : List ℕ) → AllowedCall a r work work' output output' → (size n k : ℕ) → r ≡ Ok (Found size n k)
    → (c : List ℕ) × (a ≡ answer (finished (found size c) k)) × (take n output' ≡ c)
stands-within a r work work' output output' f size n k e =
    let c = found_within a size n k (sym f.answer ∙ ap allowed_in e) in (
      c.0,
      c.1,
      ap (take n) (f.left ∙ ap (λ (a : Answer (Stoppable Search)). allowed_output a output) c.1) ∙ ap (λ (n : ℕ). take n (over c.0 output)) (sym c.2)
          ∙ take-append_seam c.0 (drop (length c.0) output),
    )

module _ (sheet : List ℕ) (p : Problem) (low high : ℕ) (named symmetry : Bool) (read : read_problem_in named sheet ≡ answer p) where
  -- one call
  module _ (a : ℕ) (r : AllowedAnswer) (work work' output output' : List ℕ) (f : FindCall sheet low high named symmetry a r work work' output output') where
    abbrev result : Answer (Stoppable Search)
    result = find_within named symmetry sheet low high a (length work) (length output)

    law : AllowedFind named symmetry sheet p low high (length work) (length output)
    law = allowed-find named symmetry sheet p low high (length work) (length output) read

    found_number : (size n k : ℕ) → r ≡ Ok (Found size n k) → (k ≡ choices_needed named symmetry p low high) × (k ≤ a)
    found_number size n k e =
        let c = found_within result size n k (sym f.answer ∙ ap allowed_in e) in
        let s = law.same a k (found size c.0) c.1 in
        (s.1, s.2)

    none_number : (b : Bool) (k : ℕ) → r ≡ Ok (Nothing b k) → (k ≡ choices_needed named symmetry p low high) × (k ≤ a)
    none_number b k e =
        let s = law.same a k (nothing b) (none_within result b k (sym f.answer ∙ ap allowed_in e)) in
        (s.1, s.2)

    is-stopped : (s n : ℕ) → r ≡ Ok (Stopped s n) → result ≡ answer (stopped s n)
    is-stopped s n e = stopped-within result s n (sym f.answer ∙ ap allowed_in e)

    stopped_call : (s n : ℕ) → r ≡ Ok (Stopped s n) → StoppedCall named symmetry p low high a s n work work' output output'
    stopped_call s n e =
        let z : result ≡ answer (stopped s n) = is-stopped s n e in
        let u = law.only_too_few a s n z in
        record {
          number = u.0;
          used_up = u.2;
          below = λ t d lo lt m. no-model-at p (read-in named sheet p read) named symmetry t d (u.2.before t lo lt) m;
          cleared = f.worked ∙ ap (λ (a : Answer (Stoppable Search)). allowed_work a work) z;
          unchanged = f.left ∙ ap (λ (a : Answer (Stoppable Search)). allowed_output a output) z;
        }

    too_few : IsStopped r → a < choices_needed named symmetry p low high
    too_few h = (law.only_too_few a h.0 h.1 (is-stopped h.0 h.1 h.2)).1

    stops-if : Unrefused r → a < choices_needed named symmetry p low high → IsStopped r
    stops-if h fewer = go r refl
      where
        go : (s : AllowedAnswer) → r ≡ s → IsStopped r
        go (Ok (Found size n k)) e = let s = found_number size n k e in let number = s.0 in let most = s.1 in absurd (omega (arith, number, most, fewer))
        go (Ok (Nothing b k)) e = let s = none_number b k e in let number = s.0 in let most = s.1 in absurd (omega (arith, number, most, fewer))
        go (Ok (Stopped s n)) e = (s, n, e)
        go (Err q) e = absurd (h q e)

  -- two calls, the second with the larger allowance
  module _ (a b : ℕ) (more : a ≤ b) (r : AllowedAnswer) (work work' output output' : List ℕ) (f : FindCall sheet low high named symmetry a r work work' output output') (h : Unrefused r) (on : IsStopped r → ⊥)
      (s : AllowedAnswer) (area area' other other' : List ℕ) (g : FindCall sheet low high named symmetry b s area area' other other') (k : Unrefused s) where
    one : (x : Search) × (n : ℕ) × (find_within named symmetry sheet low high a (length work) (length output) ≡ answer (finished x n))
    one = result-of _ r f.answer h on

    on-too : IsStopped s → ⊥
    on-too z =
        let t = (law a r work work' output output' f).same a one.1 one.0 one.2 in
        let number : one.1 ≡ choices_needed named symmetry p low high = t.1 in
        let most : one.1 ≤ a = t.2 in
        let fewer : b < choices_needed named symmetry p low high = too_few b s area area' other other' g z in
        omega (arith, number, most, fewer, more)

    other-one : (x : Search) × (n : ℕ) × (find_within named symmetry sheet low high b (length area) (length other) ≡ answer (finished x n))
    other-one = result-of _ s g.answer k on-too

    same-result : find_within named symmetry sheet low high a (length work) (length output) ≡ find_within named symmetry sheet low high b (length area) (length other)
    same-result =
        let t = (law a r work work' output output' f).same a one.1 one.0 one.2 in
        let u = (law b s area area' other other' g).same b other-one.1 other-one.0 other-one.2 in
        let x : one.0 ≡ other-one.0 =
        sym (searched-with named symmetry sheet p low high (length work) (length output) one.0 read t.0).result
        ∙ (searched-with named symmetry sheet p low high (length area) (length other) other-one.0 read u.0).result in
        let n : one.1 ≡ other-one.1 = t.1 ∙ sym u.1 in
        one.2 ∙ ap (λ (x : Search). answer (finished x one.1)) x ∙ ap (λ (n : ℕ). answer (finished other-one.0 n)) n ∙ sym other-one.2

    same-within : SameWithin r output' s other'
    same-within =
        let same : r ≡ s = same-allowed r s (f.answer ∙ ap allowed_answer same-result ∙ sym g.answer) h in
        record {
          same = same;
          case = λ size n k e.
              let c = stands-within _ r work work' output output' f size n k e in
              let d = stands-within _ s area area' other other' g size n k (sym same ∙ e) in
              let t : ◌≡◌ {A = Answer (Stoppable Search)} (answer (finished (found size c.0) k)) (answer (finished (found size d.0) k)) = sym c.1 ∙ same-result ∙ d.1 in
              let same_case : c.0 ≡ d.0 = cc in
              c.2 ∙ same_case ∙ sym d.2;
        }

  allowed-calls : AllowedCalls sheet p low high named symmetry
  allowed-calls =
      record {
        found_number = found_number;
        none_number = none_number;
        stops = λ a r work work' output output' f h. (too_few a r work work' output output' f, stops-if a r work work' output output' f h);
        stopped = stopped_call;
        larger = same-within;
        too_large = λ a r work work' output output' f more sizes. f.answer ∙ ap allowed_answer ((law a r work work' output output' f).too_large a more sizes);
        sizes_first = λ a r work work' output output' f sizes. f.answer ∙ ap allowed_answer ((law a r work work' output output' f).sizes_first a sizes);
      }

every-answer : (r : AllowedAnswer) → IsStopped r ⊎ ((x : FindAnswer) × (k : ℕ) × (r ≡ counting x k))
every-answer (Ok (Found s n k)) = inr (Ok (plain.Found s n), k, refl)
every-answer (Ok (Nothing b k)) = inr (Ok (plain.Nothing b), k, refl)
every-answer (Ok (Stopped s n)) = inl (s, n, refl)
every-answer (Err q) = inr (Err q, 0, refl)

-- the theorem
pub allowance-of-calls : Allowance
allowance-of-calls =
    record {
      calls = allowed-calls;
      same_refusals = λ sheet low high named symmetry a b le le₂ r s work work' area' output output' other' f g q e.
          let z = allowed-refused _ q (sym f.answer ∙ e) in
          g.answer
          ∙ ap allowed_answer ((same-refusals named symmetry sheet low high b (length work) (length output) q le₂).1 ((same-refusals named symmetry sheet low high a (length work) (length output) q le).0 z));
      every_answer = every-answer;
    }
