-- Find and Find plain answer the same: where neither is refused, both answer what is found of the sheet's problem.
use Prim.Native.Nat.{ℕ}
use mathlib.Core.Path.{◌≡◌, refl, sym, ap, ◌∙◌}
use mathlib.Core.Logic.{◌⊎◌, inl, inr}
use mathlib.Core.Bool.{Bool, false}
use mathlib.Core.List.{List}
use native.Mathlib.Omega.{arith}
use lib.ListN.{length, take, drop}
use lib.Seq.{take-append_seam}
use Rattle.std.specs.Prelude.{Ok, Err}
use Rattle.theory.specs.Refusals.{Answer, answer, refused}
use Rattle.theory.specs.Problem.{Problem}
use Rattle.theory.specs.Columns.{placed_problem}
use Rattle.theory.specs.Least.{smallest_model}
use Rattle.theory.specs.Operations.{Found, found_case, no_case, Search, found, nothing, search_of, find_result, find_answer, find_output}
use Rattle.theory.specs.PlainSearch.{plain_result}
use Rattle.theory.proofs.Answers.{unbind, answer-inj, answer≢refused}
use Rattle.answers.specs.declared.PlainResult.TheVariants as find
use Rattle.answers.specs.Answers.{FindAnswer, refusal_in, find_in}
use Rattle.theorems.specs.SameAnswers.{NotRefused, LeavesFound, SameCase, SameMark, SameAnswersHold}
use Rattle.theorems.proofs.Unstopped.{SearchingCall, unstopped}

-- a result is what is found of the problem that the sheet is read to
pub record Searches (sheet : List ℕ) (low high : ℕ) (x : Search) : Type 0 where
  pub problem : Problem
  pub read : placed_problem sheet ≡ answer problem
  pub result : search_of problem low high (smallest_model problem low high) ≡ x

find-searches : (sheet : List ℕ) (low high work room : ℕ) (x : Search) → find_result sheet low high work room ≡ answer x → Searches sheet low high x
unfolding find_result
find-searches sheet low high work room x e =
    unbind _ _ x e λ (p : Problem) h e₁.
    unbind _ _ x e₁ λ (u₁ : Unit {0}) _ e₂.
    unbind _ _ x e₂ λ (u₂ : Unit {0}) _ e₃.
    unbind _ _ x e₃ λ (u₃ : Unit {0}) _ e₄.
    unbind _ _ x e₄ λ (u₄ : Unit {0}) _ e₅.
    record { problem = p; read = h; result = answer-inj (search_of p low high (smallest_model p low high)) x e₅ }

plain-searches : (sheet : List ℕ) (low high room : ℕ) (x : Search) → plain_result sheet low high room ≡ answer x → Searches sheet low high x
unfolding plain_result
plain-searches sheet low high room x e =
    unbind _ _ x e λ (p : Problem) h e₁.
    unbind _ _ x e₁ λ (u₁ : Unit {0}) _ e₂.
    unbind _ _ x e₂ λ (u₂ : Unit {0}) _ e₃.
    unbind _ _ x e₃ λ (u₃ : Unit {0}) _ e₄.
    record { problem = p; read = h; result = answer-inj (search_of p low high (smallest_model p low high)) x e₄ }

-- the sheet is read to one problem
same-search : (sheet : List ℕ) (low high : ℕ) (x y : Search) → Searches sheet low high x → Searches sheet low high y → x ≡ y
same-search sheet low high x y a b =
    let same : a.problem ≡ b.problem = answer-inj a.problem b.problem (sym a.read ∙ b.read) in
    sym a.result ∙ ap (λ (p : Problem). search_of p low high (smallest_model p low high)) same ∙ b.result

-- a call that is not refused has a result
pub taken : (a : Answer Search) (r : FindAnswer) → find_in r ≡ find_answer a → NotRefused r → (x : Search) × (a ≡ answer x)
taken (answer x) r e h = (x, refl)
taken (refused q) (Ok (find.Found s n)) e h = absurd (answer≢refused (found_case s n) q e)
taken (refused q) (Ok (find.Nothing b)) e h = absurd (answer≢refused (no_case b) q e)
taken (refused q) (Err p) e h = absurd (h p refl)

-- the answers that say a case, or none
pub case-answered : (r : FindAnswer) (s n : ℕ) → find_in r ≡ answer (found_case s n) → r ≡ Ok (find.Found s n)
case-answered (Ok (find.Found t m)) s n e =
    let k : found_case t m ≡ found_case s n = answer-inj (found_case t m) (found_case s n) e in
    let a : t ≡ s = cc in
    let b : m ≡ n = cc in
    ap (λ (t : ℕ). Ok (find.Found t m)) a ∙ ap (λ (m : ℕ). Ok (find.Found s m)) b
case-answered (Ok (find.Nothing b)) s n e = let z : ◌≡◌ {A = ℕ} 0 1 = cc in absurd (omega arith)
case-answered (Err q) s n e = absurd (answer≢refused (found_case s n) (refusal_in q) (sym e))

pub none-answered : (r : FindAnswer) (b : Bool) → find_in r ≡ answer (no_case b) → r ≡ Ok (find.Nothing b)
none-answered (Ok (find.Found s n)) b e = let z : ◌≡◌ {A = ℕ} 0 1 = cc in absurd (omega arith)
none-answered (Ok (find.Nothing d)) b e = let k : d ≡ b = cc in ap (λ (b : Bool). Ok (find.Nothing b)) k
none-answered (Err q) b e = absurd (answer≢refused (no_case b) (refusal_in q) (sym e))

-- a found case stands at the front of the output
leaves-found : (a : Answer Search) (r : FindAnswer) (output output' : List ℕ) (s : ℕ) (c : List ℕ) → a ≡ answer (found s c) → find_in r ≡ find_answer a → output' ≡ find_output a output
    → LeavesFound r output' s c
leaves-found a r output output' s c e f o =
    record {
      answered = case-answered r s (length c) (f ∙ ap find_answer e);
      stands = ap (take (length c)) (o ∙ ap (λ (a : Answer Search). find_output a output) e) ∙ take-append_seam c (drop (length c) output);
    }

-- the theorem
pub same_answers : SameAnswersHold
same_answers sheet low high r work work' output output' f h q plain plain' p k =
    let a : Answer Search = find_result sheet low high (length work) (length output) in
    let b : Answer Search = plain_result sheet low high (length plain) in
    let x = taken a r call.answer h in
    let y = taken b q p.answer k in
    let same : x.0 ≡ y.0 = same-search sheet low high x.0 y.0 (find-searches sheet low high (length work) (length output) x.0 x.1) (plain-searches sheet low high (length plain) y.0 y.1) in
    go x.0 x.1 (y.1 ∙ ap answer (sym same))
  where
    call : SearchingCall (find_result sheet low high (length work) (length output)) r work work' output output'
    call = unstopped sheet low high false false r work work' output output' f h

    go : (x : Search) → find_result sheet low high (length work) (length output) ≡ answer x → plain_result sheet low high (length plain) ≡ answer x → SameCase r q output' plain' ⊎ SameMark r q
    go (found s c) e d =
        inl
        (record {
          size = s;
          case = c;
          find = leaves-found (find_result sheet low high (length work) (length output)) r output output' s c e call.answer call.left;
          find_plain = leaves-found (plain_result sheet low high (length plain)) q plain plain' s c d p.answer p.left;
        })
    go (nothing b) e d = inr (record { settled = b; find = none-answered r b (call.answer ∙ ap find_answer e); find_plain = none-answered q b (p.answer ∙ ap find_answer d) })
