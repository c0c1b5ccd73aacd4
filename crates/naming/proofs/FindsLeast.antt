-- FindsLeast, in the mode: what is found is what theory's search finds for the sheet as handed in, and that is least.
use Prim.Native.Nat.{ℕ, ◌≤◌, ◌<◌}
use mathlib.Core.Path.{◌≡◌, refl, sym, ap, ◌∙◌, subst}
use mathlib.Core.Logic.{◌⊎◌, inl, inr}
use mathlib.Core.Bool.{Bool, true}
use mathlib.Core.Option.{Option, none, some}
use mathlib.Core.List.{List}
use native.Mathlib.Omega.{arith}
use Rattle.theory.specs.Syntax.{Signature}
use Rattle.theory.specs.Cells.{is_interpretation}
use Rattle.theory.specs.Refusals.{answer}
use Rattle.theory.specs.Problem.{Problem}
use Rattle.theory.specs.CaseText.{Case, case_text}
use Rattle.theory.specs.Least.{smallest_model}
use Rattle.theory.specs.Operations.{Search, found, nothing, search_of}
use Rattle.theory.specs.Claims.Least.{NotAfter, ModelCells}
use Rattle.theory.proofs.Tests.{lt-or-eq-or-gt}
use Rattle.theory.proofs.Least.{least}
use Rattle.theory.proofs.FindsLeast.{Searched}
use Rattle.theory.proofs.Settling.{none-settled}
use Rattle.theory.proofs.CaseText.{OnlyText, read-own-case, read-exactly}
use Rattle.naming.specs.NamedOperations.{named_find_result}
use Rattle.naming.specs.Claims.ReadingBack.{SheetModel}
use Rattle.naming.specs.Claims.FindsLeast.{NamedLeast, NamedFindsLeastHolds}
use Rattle.naming.proofs.Reading.{taken-ok, Taken, read_named-taken}
use Rattle.naming.proofs.Finding.{named-searched}

module _ (p : Problem) (taken : Taken p) (low high : ℕ) where
  abbrev g : Signature
  g = p.symbols

  -- the values of a model's text are a model
  model_of : (t : ℕ) (d : List ℕ) (m : SheetModel p t d) → ModelCells p t m.case.values
  model_of t d m =
      let only : OnlyText g d m.case = read-exactly g d m.case m.read in
      record { interpretation = ap (λ (s : ℕ). is_interpretation s g m.case.values) (sym m.sized) ∙ only.interpretation; model = m.model }

  least-text : (k : Case) → 1 ≤ low → high ≤ 8 → smallest_model p low high ≡ some k → NamedLeast p low high k.size (case_text k.size g k.values)
  least-text k pos le e =
      let h = (least p).smallest low high k e in
      let l = (least p).is_least k.size k.values h.2 in
      let from : low ≤ k.size = h.0 in
      let to : k.size ≤ high = h.1 in
      record {
        model = record {
          case = record { size = k.size; values = k.values };
          read = read-own-case _ taken.symbols k.size k.values (omega arith) (omega arith) l.0.interpretation;
          sized = refl;
          model = l.0.model;
        };
        searched = (from, to);
        least = λ t d lo hi m. record { case = m.case; read = m.read; after = place t d m lo (lt-or-eq-or-gt k.size t) h.3 l.1 };
      }
    where
      place : (t : ℕ) (d : List ℕ) (m : SheetModel p t d) → low ≤ t → (k.size < t) ⊎ ((k.size ≡ t) ⊎ (t < k.size))
          → ((s : ℕ) (u : List ℕ) → low ≤ s → s < k.size → ModelCells p s u → ⊥) → ((u : List ℕ) → ModelCells p k.size u → NotAfter k.values u)
          → (k.size < t) ⊎ ((k.size ≡ t) × NotAfter k.values m.case.values)
      place t d m lo (inl lt) smaller first = inl lt
      place t d m lo (inr (inl e)) smaller first = inr (e, first m.case.values (subst (λ (s : ℕ). ModelCells p s m.case.values) (sym e) (model_of t d m)))
      place t d m lo (inr (inr gt)) smaller first = absurd (smaller t m.case.values lo gt (model_of t d m))

  finds : (o : Option Case) → smallest_model p low high ≡ o → 1 ≤ low → high ≤ 8 → (s : ℕ) (c : List ℕ) → search_of p low high o ≡ found s c → NamedLeast p low high s c
  finds none h pos le s c e = let z : ◌≡◌ {A = ℕ} 0 1 = cc in absurd (omega arith)
  finds (some k) h pos le s c e =
      let size : k.size ≡ s = cc in
      let text : case_text k.size g k.values ≡ c = cc in
      subst (λ (s : ℕ). NamedLeast p low high s c) size (subst (NamedLeast p low high k.size) text (least-text k pos le h))

  finds-none : (o : Option Case) → smallest_model p low high ≡ o → (b : Bool) → search_of p low high o ≡ nothing b → (t : ℕ) (d : List ℕ) → low ≤ t → t ≤ high → SheetModel p t d → ⊥
  finds-none none h b e t d lo hi m = ((least p).no_smallest low high).0 h t m.case.values lo hi (model_of t d m)
  finds-none (some k) h b e t d lo hi m = let z : ◌≡◌ {A = ℕ} 0 1 = cc in absurd (omega arith)

-- the theorem
pub named-finds-least : NamedFindsLeastHolds
named-finds-least sheet p low high work room read =
    record {
      finds = found-text;
      finds_none = λ b e. finds-none p taken low high (smallest_model p low high) refl b (result (nothing b) e).result;
      none_if = λ h s c e. let l : NamedLeast p low high s c = found-text s c e in h s c l.searched.0 l.searched.1 l.model;
      settles = λ e. none-settled p low high (taken-ok p.symbols p.clauses taken.clauses) (result (nothing true) e);
    }
  where
    taken : Taken p
    taken = read_named-taken sheet p read

    result : (r : Search) → named_find_result sheet low high work room ≡ answer r → Searched p low high r
    result r e = named-searched sheet p low high work room r read e

    found-text : (s : ℕ) (c : List ℕ) → named_find_result sheet low high work room ≡ answer (found s c) → NamedLeast p low high s c
    found-text s c e = let r : Searched p low high (found s c) = result (found s c) e in finds p taken low high (smallest_model p low high) refl r.from_one r.to-eight s c r.result
