-- The explainer program needs to read no more than 41,288 bytes of its input.
use Prim.Native.Nat.{ℕ, zero, suc, ◌+◌, ◌-◌, ◌≤◌, ◌<◌}
use mathlib.Core.Path.{◌≡◌, refl, sym, ap, ◌∙◌, subst}
use mathlib.Core.Logic.{◌⊎◌, inl, inr}
use mathlib.Core.Bool.{Bool, true, false, cond, ◌&&◌}
use mathlib.Core.Option.{none}
use mathlib.Core.List.{List, [], ◌∷◌}
use native.Mathlib.Omega.{arith}
use lib.Dec.{eqb, leb}
use lib.ListN.{length, take, drop}
use lib.Seq.{take-nil, take-take, length-take-le}
use Rattle.theory.specs.Bytes.{bytes, LF}
use Rattle.theory.specs.Lines.{after_key}
use Rattle.theory.specs.LineForms.{is_some}
use Rattle.theory.specs.Refusals.{Answer, answer, refused, unplaced, ◌>>=◌}
use Rattle.theory.specs.Problem.{Problem, max_bytes}
use Rattle.theory.specs.Columns.{placed_problem}
use Rattle.theory.specs.Cells.{judged}
use Rattle.theory.specs.CaseText.{Case}
use Rattle.theory.specs.Operations.{reason_of, explain_answer}
use Rattle.theory.specs.Explainer.{case_here, case_start, explained_from, explained_text, explainer}
use Rattle.theory.specs.Claims.Explainer.{explainer_bytes, ExplainerReads}
use Rattle.theory.proofs.Tests.{true-or-false, leb-true, leb-false}
use Rattle.theory.proofs.Answers.{bind-step, bind-refused}
use Rattle.theory.proofs.PlacedReading.{problem-read}
use Rattle.theory.proofs.PlacedRefusals.{too_long}
use Rattle.theory.proofs.CutCases.{cut-case}

-- whether a text begins with a key is seen from as many bytes
key-seen : (key text : List ℕ) (m : ℕ) → length key ≤ m → is_some (after_key key (take m text)) ≡ is_some (after_key key text)
key-seen [] text m h = refl
key-seen (k ∷ ks) text zero h = absurd (omega arith)
key-seen (k ∷ ks) [] (suc m) h = refl
key-seen (k ∷ ks) (b ∷ bs) (suc m) h = go (eqb k b) (key-seen ks bs m (omega arith))
  where
    go : (q : Bool) → is_some (after_key ks (take m bs)) ≡ is_some (after_key ks bs) → is_some (cond q (after_key ks (take m bs)) none) ≡ is_some (cond q (after_key ks bs) none)
    go true e = e
    go false e = refl

-- the case starts within the text
pub start-within : (fresh : Bool) (text : List ℕ) → case_start fresh text ≤ length text
unfolding case_start
start-within fresh [] = omega arith
start-within fresh (b ∷ bs) = go (case_here fresh (b ∷ bs)) (start-within (eqb b LF) bs)
  where
    go : (q : Bool) → case_start (eqb b LF) bs ≤ length bs → cond q 0 (suc (case_start (eqb b LF) bs)) ≤ suc (length bs)
    go true h = omega arith
    go false h = omega arith

-- a text cut after m bytes has its case at the same place, or both have it in the last six of them or later
start-cut : (fresh : Bool) (text : List ℕ) (m : ℕ) → (case_start fresh (take m text) ≡ case_start fresh text) ⊎ ((m ≤ case_start fresh text + 6) × (m ≤ case_start fresh (take m text) + 6))
unfolding case_start
start-cut fresh [] zero = inl refl
start-cut fresh [] (suc m) = inl refl
start-cut fresh (b ∷ bs) zero = inr (omega arith, omega arith)
start-cut fresh (b ∷ bs) (suc m) = go (true-or-false (leb 7 (suc m))) (start-cut (eqb b LF) bs m)
  where
    step : (q : Bool) → (case_start (eqb b LF) (take m bs) ≡ case_start (eqb b LF) bs) ⊎ ((m ≤ case_start (eqb b LF) bs + 6) × (m ≤ case_start (eqb b LF) (take m bs) + 6))
        → (cond q 0 (suc (case_start (eqb b LF) (take m bs))) ≡ cond q 0 (suc (case_start (eqb b LF) bs)))
        ⊎ ((suc m ≤ cond q 0 (suc (case_start (eqb b LF) bs)) + 6) × (suc m ≤ cond q 0 (suc (case_start (eqb b LF) (take m bs))) + 6))
    step true h = inl refl
    step false (inl h) = inl (ap suc h)
    step false (inr h) = inr (omega (arith, h.0), omega (arith, h.1))

    go : (leb 7 (suc m) ≡ true) ⊎ (leb 7 (suc m) ≡ false) → (case_start (eqb b LF) (take m bs) ≡ case_start (eqb b LF) bs) ⊎ ((m ≤ case_start (eqb b LF) bs + 6) × (m ≤ case_start (eqb b LF) (take m bs) + 6))
        → (case_start fresh (b ∷ take m bs) ≡ case_start fresh (b ∷ bs)) ⊎ ((suc m ≤ case_start fresh (b ∷ bs) + 6) × (suc m ≤ case_start fresh (b ∷ take m bs) + 6))
    go (inr h) ih = inr (omega (arith, leb-false 7 (suc m) h), omega (arith, leb-false 7 (suc m) h))
    go (inl h) ih =
        let same : case_here fresh (b ∷ take m bs) ≡ case_here fresh (b ∷ bs) = ap (λ (q : Bool). fresh && q) (key-seen (bytes "case=1\n") (b ∷ bs) (suc m) (leb-true 7 (suc m) h)) in
        subst (λ (q : Bool). (cond q 0 (suc (case_start (eqb b LF) (take m bs))) ≡ case_start fresh (b ∷ bs)) ⊎ ((suc m ≤ case_start fresh (b ∷ bs) + 6) × (suc m ≤ cond q 0 (suc (case_start (eqb b LF) (take m bs))) + 6)))
        (sym same) (step (case_here fresh (b ∷ bs)) ih)

-- a case that is cut after 24,903 bytes or more is explained as the whole one
case-enough : (sheet case : List ℕ) (k : ℕ) → 24903 ≤ k → explain_answer sheet (take k case) ≡ explain_answer sheet case
unfolding explain_answer
case-enough sheet case k h = go (placed_problem sheet) refl
  where
    go : (m : Answer Problem) → placed_problem sheet ≡ m → explain_answer sheet (take k case) ≡ explain_answer sheet case
    go (refused r) e = bind-refused (placed_problem sheet) _ r e ∙ sym (bind-refused (placed_problem sheet) _ r e)
    go (answer p) e =
        bind-step (placed_problem sheet) _ p _ e (ap (λ (m : Answer Case). m >>= λ k. answer (reason_of p.clauses (judged k.size p.symbols p.clauses k.values))) (cut-case sheet p (problem-read sheet p e) case k h))
        ∙ sym (bind-step (placed_problem sheet) _ p _ e refl)

-- a sheet that is too long is refused, whatever else it is and whatever the case
sheet-too-long : (n : ℕ) (input : List ℕ) → n ≤ length input → max_bytes < n → explained_from n input ≡ refused (unplaced 1)
unfolding explain_answer
sheet-too-long n input h long =
    bind-refused (placed_problem (take n input)) _ (unplaced 1) (too_long (take n input) (omega (arith, length-take-le n input h)))

drop-take : (n m : ℕ) (l : List ℕ) → n ≤ m → drop n (take m l) ≡ take (m - n) (drop n l)
drop-take zero m l h = let e : m ≡ m - 0 = omega arith in ap (λ (k : ℕ). take k l) e
drop-take (suc n) zero l h = absurd (omega arith)
drop-take (suc n) (suc m) [] h = sym (take-nil (suc m - suc n))
drop-take (suc n) (suc m) (x ∷ l) h = let e : m - n ≡ suc m - suc n = omega arith in drop-take n m l (omega arith) ∙ ap (λ (k : ℕ). take k (drop n l)) e

module _ (input : List ℕ) where
  abbrev cut : List ℕ
  cut = take explainer_bytes input

  abbrev start : ℕ
  start = case_start true input

  both_long : max_bytes < start → max_bytes < case_start true cut → explained_from (case_start true cut) cut ≡ explained_from start input
  both_long h k = sheet-too-long (case_start true cut) cut (start-within true cut) k ∙ sym (sheet-too-long start input (start-within true input) h)

  -- the sheet stands before the cut, and enough of the case
  within-cut : start ≤ max_bytes → explained_from start cut ≡ explained_from start input
  within-cut h =
      ap (λ (sheet : List ℕ). explain_answer sheet (drop start cut)) (take-take start explainer_bytes input (omega (arith, h)))
      ∙ ap (explain_answer (take start input)) (drop-take start explainer_bytes input (omega (arith, h)))
      ∙ case-enough (take start input) (drop start input) (explainer_bytes - start) (omega (arith, h))

  reads-enough : (case_start true cut ≡ start) ⊎ ((explainer_bytes ≤ start + 6) × (explainer_bytes ≤ case_start true cut + 6)) → (leb start max_bytes ≡ true) ⊎ (leb start max_bytes ≡ false)
      → explained_from (case_start true cut) cut ≡ explained_from start input
  reads-enough (inl e) (inl h) = ap (λ (n : ℕ). explained_from n cut) e ∙ within-cut (leb-true start max_bytes h)
  reads-enough (inl e) (inr h) = let long : max_bytes < start = leb-false start max_bytes h in both_long long (omega (arith, e, long))
  reads-enough (inr e) h = both_long (omega (arith, e.0)) (omega (arith, e.1))

pub explainer-reads : ExplainerReads
unfolding explainer
explainer-reads input = ap explained_text (reads-enough input (start-cut true input explainer_bytes) (true-or-false (leb (case_start true input) max_bytes)))
