-- FindsObeying: what is found told yes is the least model that obeys, and where there is a model there is one that obeys.
use Prim.Native.Nat.{ℕ, zero, ◌≤◌, ◌<◌}
use mathlib.Core.Path.{◌≡◌, refl, sym, ap, ◌∙◌, subst}
use mathlib.Core.Bool.{Bool, true}
use mathlib.Core.Option.{Option, none, some}
use mathlib.Core.List.{List}
use native.Mathlib.Omega.{arith}
use Rattle.theory.specs.Syntax.{Signature}
use Rattle.theory.specs.Cells.{is_interpretation}
use Rattle.theory.specs.Refusals.{answer}
use Rattle.theory.specs.Problem.{Problem}
use Rattle.theory.specs.CaseText.{Case, case_text}
use Rattle.theory.specs.Least.{smallest_model}
use Rattle.theory.specs.Operations.{Search, found, nothing, search_of}
use Rattle.theory.specs.Claims.Least.{ModelCells}
use Rattle.theory.proofs.Least.{least}
use Rattle.theory.proofs.FindsLeast.{Searched}
use Rattle.theory.proofs.Settling.{none-settled}
use Rattle.theory.proofs.CaseText.{OnlyText, read-own-case, read-exactly}
use Rattle.naming.specs.Claims.ReadingBack.{SheetModel}
use Rattle.renumbering.specs.Renumbering.{renumbered}
use Rattle.symmetry.specs.Obeying.{smallest_with}
use Rattle.symmetry.specs.SymmetricOperations.{find_result_with}
use Rattle.symmetry.specs.Claims.Obeying.{Obeying, Renumbered, Twins}
use Rattle.symmetry.specs.Claims.FindsObeying.{ObeyingText, LeastObeyingText, FindsObeyingHolds, EveryModel}
use Rattle.symmetry.proofs.Obeying.{twins}
use Rattle.symmetry.proofs.Searched.{Read, read-in, SearchedWith, searched-with}

module _ (p : Problem) (read : Read p) where
  abbrev g : Signature
  g = p.symbols

  t : Twins p
  t = twins.problems p read.sheet.clauses

  -- the values of a model's text are a model, of a size from 1 to 8
  model_of : (s : ℕ) (c : List ℕ) (m : SheetModel p s c) → ModelCells p s m.case.values
  model_of s c m =
      let only : OnlyText g c m.case = read-exactly g c m.case m.read in
      record { interpretation = ap (λ (s : ℕ). is_interpretation s g m.case.values) (sym m.sized) ∙ only.interpretation; model = m.model }

  obeying-of : (s : ℕ) (c : List ℕ) (m : ObeyingText p s c) → Obeying p s m.model.case.values
  obeying-of s c m = record { model = model_of s c m.model; obeying = m.obeying }

  -- the text of a model that obeys
  text_of : (s : ℕ) (vs : List ℕ) → zero < s → s ≤ 8 → Obeying p s vs → ObeyingText p s (case_text s g vs)
  text_of s vs pos le o =
      record {
        model = record {
          case = record { size = s; values = vs };
          read = read-own-case _ read.symbols s vs pos le o.model.interpretation;
          sized = refl;
          model = o.model.model;
        };
        obeying = o.obeying;
      }

  module _ (low high : ℕ) where
    least-text : (k : Case) → 1 ≤ low → high ≤ 8 → smallest_with true p low high ≡ some k → LeastObeyingText p low high k.size (case_text k.size g k.values)
    unfolding text_of
    least-text k pos le e =
        let h = t.found low high k pos e in
        let l = t.is_least k.size k.values h.2 in
        let from : low ≤ k.size = h.0 in
        let to : k.size ≤ high = h.1 in
        record {
          text = text_of k.size k.values (omega arith) (omega arith) l.0;
          searched = (from, to);
          smallest = λ s d lo hi m. h.3 s m.case.values lo hi (model_of s d m);
          least = λ d m. l.1 m.model.case.values (obeying-of k.size d m);
        }

    finds : (o : Option Case) → smallest_with true p low high ≡ o → 1 ≤ low → high ≤ 8 → (s : ℕ) (c : List ℕ) → search_of p low high o ≡ found s c → LeastObeyingText p low high s c
    finds none h pos le s c e = let z : ◌≡◌ {A = ℕ} 0 1 = cc in absurd (omega arith)
    finds (some k) h pos le s c e =
        let size : k.size ≡ s = cc in
        let text : case_text k.size g k.values ≡ c = cc in
        subst (λ (s : ℕ). LeastObeyingText p low high s c) size (subst (LeastObeyingText p low high k.size) text (least-text k pos le h))

    -- none is said where the search without the constant clauses says none
    none-too : (o : Option Case) → smallest_with true p low high ≡ o → 1 ≤ low → (b : Bool) → search_of p low high o ≡ nothing b → smallest_model p low high ≡ none
    none-too none h pos b e = (t.none_alike low high pos).0 h
    none-too (some k) h pos b e = let z : ◌≡◌ {A = ℕ} 0 1 = cc in absurd (omega arith)

  -- so the search told no found none as well
  as_plain : (low high : ℕ) (b : Bool) → SearchedWith true p low high (nothing b) → Searched p low high (nothing b)
  as_plain low high b r =
      let n : smallest_model p low high ≡ none = none-too low high (smallest_with true p low high) refl r.from_one b r.result in
      let n⁺ : smallest_with true p low high ≡ none = (t.none_alike low high r.from_one).1 n in
      record { from_one = r.from_one; to-eight = r.to-eight; ordered = r.ordered; result = ap (search_of p low high) (n ∙ sym n⁺) ∙ r.result }

-- the theorem
pub finds-obeying : FindsObeyingHolds
finds-obeying named sheet p low high work room read =
    record {
      finds = found-text;
      finds_none = λ b e s d lo hi m.
          let r = result (nothing b) e in
          ((least p).no_smallest low high).0 (none-too p got low high (smallest_with true p low high) refl r.from_one b r.result) s m.case.values lo hi (model_of p got s d m);
      none_if = λ h s c e. let l : LeastObeyingText p low high s c = found-text s c e in h s c l.searched.0 l.searched.1 l.text.model;
      settles = λ e. none-settled p low high got.sheet.clauses (as_plain p got low high true (result (nothing true) e));
    }
  where
    got : Read p
    got = read-in named sheet p read

    result : (r : Search) → find_result_with named true sheet low high work room ≡ answer r → SearchedWith true p low high r
    result r e = searched-with named true sheet p low high work room r read e

    found-text : (s : ℕ) (c : List ℕ) → find_result_with named true sheet low high work room ≡ answer (found s c) → LeastObeyingText p low high s c
    found-text s c e = let r = result (found s c) e in finds p got low high (smallest_with true p low high) refl r.from_one r.to-eight s c r.result

-- every model of a sheet has a renumbering that obeys
pub every-model : EveryModel
unfolding text_of
every-model named sheet p read s c m =
    let got : Read p = read-in named sheet p read in
    let only : OnlyText p.symbols c m.case = read-exactly p.symbols c m.case m.read in
    let pos : zero < s = subst (λ (s : ℕ). zero < s) m.sized only.positive in
    let le : s ≤ 8 = subst (λ (s : ℕ). s ≤ 8) m.sized only.within in
    let r : Renumbered p s m.case.values = (t p got).every_model s m.case.values pos (model_of p got s c m) in
    record {
      by = r.by;
      rearrangement = r.rearrangement;
      text = case_text s p.symbols (renumbered s p.symbols r.by m.case.values);
      obeying = text_of p got s (renumbered s p.symbols r.by m.case.values) pos le r.obeying;
      turned = refl;
    }
