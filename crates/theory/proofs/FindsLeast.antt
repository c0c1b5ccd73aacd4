-- FindsLeast: demand 2 on bytes. Find's case is the least model at the smallest size, and none is said exactly if no case of a searched size is a model.
use Prim.Native.Nat.{ℕ, ◌≤◌, ◌<◌}
use mathlib.Core.Path.{◌≡◌, refl, sym, ap, ◌∙◌, subst}
use mathlib.Core.Logic.{◌⊎◌, inl, inr}
use mathlib.Core.Bool.{Bool, true, ◌&&◌}
use mathlib.Core.Option.{Option, none, some}
use mathlib.Core.List.{List}
use native.Mathlib.Omega.{arith}
use lib.Dec.{leb}
use Rattle.theory.specs.Syntax.{Signature}
use Rattle.theory.specs.Refusals.{Answer, answer, unplaced, check}
use Rattle.theory.specs.Problem.{Problem, read_problem}
use Rattle.theory.specs.CaseText.{Case, case_text}
use Rattle.theory.specs.Columns.{placed_problem}
use Rattle.theory.specs.Least.{smallest_model}
use Rattle.theory.specs.Operations.{Search, found, nothing, search_of, find_result}
use Rattle.theory.specs.Claims.Least.{NotAfter, ModelCells}
use Rattle.theory.specs.Claims.ReadingBack.{ModelText}
use Rattle.theory.specs.Claims.FindsLeast.{LeastText, FindsLeast, FindsLeastHolds}
use Rattle.theory.proofs.Tests.{leb-true, and_left, and_right, lt-or-eq-or-gt}
use Rattle.theory.proofs.Answers.{unbind, answer-inj, check-true}
use Rattle.theory.proofs.PlacedReading.{problem-read}
use Rattle.theory.proofs.Least.{least}
use Rattle.theory.proofs.ModelTexts.{model-text, IsModelText, is-model-text}

-- what a search that is not refused found, and the sizes that it searched
pub record Searched (p : Problem) (low high : ℕ) (r : Search) : Type 0 where
  pub from_one : 1 ≤ low
  pub to-eight : high ≤ 8
  pub ordered : low ≤ high
  pub result : search_of p low high (smallest_model p low high) ≡ r

-- the sheet is read, its sizes are checked, and what is found is answered
pub searched-of : (sheet : List ℕ) (p q : Problem) (low high : ℕ) (r : Search) (u : Unit {0}) → read_problem sheet ≡ answer p → placed_problem sheet ≡ answer q
    → check (leb 1 low && leb high 8 && leb low high) (unplaced 8) ≡ answer u → answer (search_of q low high (smallest_model q low high)) ≡ answer r → Searched p low high r
searched-of sheet p q low high r u read placed checked e =
    let same : p ≡ q = answer-inj p q (sym read ∙ problem-read sheet q placed) in
    let sizes : (leb 1 low && leb high 8 && leb low high) ≡ true = check-true _ (unplaced 8) u checked in
    let both : (leb 1 low && leb high 8) ≡ true = and_left (leb 1 low && leb high 8) (leb low high) sizes in
    record {
      from_one = leb-true 1 low (and_left (leb 1 low) (leb high 8) both);
      to-eight = leb-true high 8 (and_right (leb 1 low) (leb high 8) both);
      ordered = leb-true low high (and_right (leb 1 low && leb high 8) (leb low high) sizes);
      result = ap (λ (p : Problem). search_of p low high (smallest_model p low high)) same ∙ answer-inj (search_of q low high (smallest_model q low high)) r e;
    }

pub searched : (sheet : List ℕ) (p : Problem) (low high work room : ℕ) (r : Search) → read_problem sheet ≡ answer p → find_result sheet low high work room ≡ answer r → Searched p low high r
unfolding find_result
searched sheet p low high work room r read e =
    unbind _ _ r e λ (q : Problem) h₁ e₁.
    unbind _ _ r e₁ λ (u₁ : Unit {0}) h₂ e₂.
    unbind _ _ r e₂ λ (u₂ : Unit {0}) _ e₃.
    unbind _ _ r e₃ λ (u₃ : Unit {0}) _ e₄.
    unbind _ _ r e₄ λ (u₄ : Unit {0}) _ e₅.
    searched-of sheet p q low high r u₁ read h₁ h₂ e₅

module _ (sheet : List ℕ) (p : Problem) (low high : ℕ) (read : read_problem sheet ≡ answer p) where
  abbrev g : Signature
  g = p.symbols

  -- the text of a model of a searched size is that of a model
  model_of : (t : ℕ) (d : List ℕ) (m : ModelText sheet p t d) → ModelCells p t m.case.values
  model_of t d m =
      let i : IsModelText sheet p read t m.case d = is-model-text sheet p read t d m in
      record { interpretation = i.interpretation; model = i.model }

  least-text : (k : Case) → 1 ≤ low → high ≤ 8 → smallest_model p low high ≡ some k → LeastText sheet p low high k.size (case_text k.size g k.values)
  unfolding model-text
  least-text k pos le e =
      let h = (least p).smallest low high k e in
      let l = (least p).is_least k.size k.values h.2 in
      let from : low ≤ k.size = h.0 in
      let to : k.size ≤ high = h.1 in
      record {
        model = model-text sheet p read k.size k.values (omega arith) (omega arith) l.0.interpretation l.0.model;
        searched = (from, to);
        least = λ t d lo hi m. record {
          case = m.case;
          read = m.read;
          after = place t d m lo (lt-or-eq-or-gt k.size t) h.3 l.1;
        };
      }
    where
      place : (t : ℕ) (d : List ℕ) (m : ModelText sheet p t d) → low ≤ t → (k.size < t) ⊎ ((k.size ≡ t) ⊎ (t < k.size))
          → ((s : ℕ) (u : List ℕ) → low ≤ s → s < k.size → ModelCells p s u → ⊥) → ((u : List ℕ) → ModelCells p k.size u → NotAfter k.values u)
          → (k.size < t) ⊎ ((k.size ≡ t) × NotAfter k.values m.case.values)
      place t d m lo (inl lt) smaller first = inl lt
      place t d m lo (inr (inl e)) smaller first =
          inr (e, first m.case.values (subst (λ (s : ℕ). ModelCells p s m.case.values) (sym e) (model_of t d m)))
      place t d m lo (inr (inr gt)) smaller first = absurd (smaller t m.case.values lo gt (model_of t d m))

  finds : (o : Option Case) → smallest_model p low high ≡ o → 1 ≤ low → high ≤ 8 → (s : ℕ) (c : List ℕ) → search_of p low high o ≡ found s c → LeastText sheet p low high s c
  finds none h pos le s c e = let z : ◌≡◌ {A = ℕ} 0 1 = cc in absurd (omega arith)
  finds (some k) h pos le s c e =
      let size : k.size ≡ s = cc in
      let text : case_text k.size g k.values ≡ c = cc in
      subst (λ (s : ℕ). LeastText sheet p low high s c) size (subst (LeastText sheet p low high k.size) text (least-text k pos le h))

  finds-none : (o : Option Case) → smallest_model p low high ≡ o → (b : Bool) → search_of p low high o ≡ nothing b → (t : ℕ) (d : List ℕ) → low ≤ t → t ≤ high → ModelText sheet p t d → ⊥
  finds-none none h b e t d lo hi m = ((least p).no_smallest low high).0 h t m.case.values lo hi (model_of t d m)
  finds-none (some k) h b e t d lo hi m = let z : ◌≡◌ {A = ℕ} 0 1 = cc in absurd (omega arith)

  -- whatever answers so
  module _ (answered : Answer Search) (so : (r : Search) → answered ≡ answer r → Searched p low high r) where
    found-text : (s : ℕ) (c : List ℕ) → answered ≡ answer (found s c) → LeastText sheet p low high s c
    found-text s c e = let r = so (found s c) e in finds (smallest_model p low high) refl r.from_one r.to-eight s c r.result

    pub searched-least : FindsLeast sheet p low high answered
    searched-least =
        record {
          finds = found-text;
          finds_none = λ b e. finds-none (smallest_model p low high) refl b (so (nothing b) e).result;
          none_if = λ h s c e. let l : LeastText sheet p low high s c = found-text s c e in h s c l.searched.0 l.searched.1 l.model;
        }

pub finds-least : FindsLeastHolds
finds-least sheet p low high work room read = searched-least sheet p low high read (find_result sheet low high work room) (λ r e. searched sheet p low high work room r read e)
