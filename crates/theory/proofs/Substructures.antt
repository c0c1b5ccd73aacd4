-- Substructures: elements of an interpretation that its functions do not lead out of, numbered anew from 0, are an interpretation that embeds into it.
use Prim.Native.Nat.{ℕ, zero, suc, ◌<◌}
use mathlib.Core.Path.{◌≡◌, refl, sym, ap, ◌∙◌}
use mathlib.Core.Bool.{true, not}
use mathlib.Core.List.{List, [], ◌∷◌, map}
use native.Mathlib.Omega.{arith}
use lib.Dec.{eqb}
use lib.ListN.{length, get_or, length-map}
use Rattle.theory.specs.Lists.{all, elem, place_that, or_zero}
use Rattle.theory.specs.Vectors.{AllBelow}
use Rattle.theory.specs.Syntax.{Signature, function_of}
use Rattle.theory.specs.Truth.{Interpretation}
use Rattle.theory.specs.Claims.Flattening.{Closed}
use Rattle.theory.proofs.Tests.{both_false, eqb-true, eqb_same, false_of_not, and_left, and_right, and-join}
use Rattle.theory.proofs.Lists.{any_at}
use Rattle.theory.proofs.Finding.{place_that-some, any→place_that}
use Rattle.theory.proofs.Distinct.{elem-any, once}
use Rattle.theory.proofs.Embeddings.{Embedding}

-- the element with the new number i
abbrev pub element_at : List ℕ → ℕ → ℕ
element_at es i = get_or es i 0

-- the new number of the element d: its first place
abbrev pub place_of : List ℕ → ℕ → ℕ
place_of es d = or_zero (place_that (eqb d) es)

-- the interpretation on the elements es, numbered 0, 1, .. in this order
abbrev pub restricted : List ℕ → Interpretation → Interpretation
restricted es I =
    record {
      function = λ f v. place_of es (I.function f (map (element_at es) v));
      relation = λ p v. I.relation p (map (element_at es) v);
    }

-- the functions lead from elements of the list to elements of the list
abbrev pub ClosedUnder : Signature → Interpretation → List ℕ → Type 0
ClosedUnder g I es = (f : ℕ) (v : List ℕ) → function_of g f (length v) ≡ true → all (λ d. elem d es) v ≡ true → elem (I.function f v) es ≡ true

elem_at : (es : List ℕ) (i : ℕ) → i < length es → elem (element_at es i) es ≡ true
elem_at es i h = elem-any (element_at es i) es ∙ any_at (eqb (element_at es i)) 0 es i h (eqb_same (element_at es i))

all-elem-at : (es v : List ℕ) → AllBelow (length es) v → all (λ d. elem d es) (map (element_at es) v) ≡ true
all-elem-at es [] b = refl
all-elem-at es (i ∷ v) b = and-join (elem (element_at es i) es) (all (λ d. elem d es) (map (element_at es) v)) (elem_at es i b.0) (all-elem-at es v b.1)

-- an element of the list has a place, and stands there
element_place : (es : List ℕ) (d : ℕ) → elem d es ≡ true → (place_of es d < length es) × (element_at es (place_of es d) ≡ d)
element_place es d h =
    let r = any→place_that (eqb d) es (sym (elem-any d es) ∙ h) in
    let q = place_that-some (eqb d) es r.0 0 r.1 in
    rw r.1 (q.0, sym (eqb-true d (element_at es r.0) q.1))

-- elements at different places differ
once-at : (es : List ℕ) → once es ≡ true → (i j : ℕ) → i < length es → j < length es → element_at es i ≡ element_at es j → i ≡ j
once-at [] o i j hi hj e = absurd (omega arith)
once-at (d ∷ es) o zero zero hi hj e = refl
once-at (d ∷ es) o zero (suc j) hi hj e = absurd (both_false (ap (λ (x : ℕ). elem x es) e ∙ elem_at es j (omega arith)) (false_of_not (elem d es) (and_left (not (elem d es)) (once es) o)))
once-at (d ∷ es) o (suc i) zero hi hj e = absurd (both_false (ap (λ (x : ℕ). elem x es) (sym e) ∙ elem_at es i (omega arith)) (false_of_not (elem d es) (and_left (not (elem d es)) (once es) o)))
once-at (d ∷ es) o (suc i) (suc j) hi hj e = ap suc (once-at es (and_right (not (elem d es)) (once es) o) i j (omega arith) (omega arith) e)

module _ (g : Signature) (I : Interpretation) (es : List ℕ) (under : ClosedUnder g I es) where
  -- a function's value at elements of the list is in the list
  inside : (f : ℕ) (v : List ℕ) → function_of g f (length v) ≡ true → AllBelow (length es) v → elem (I.function f (map (element_at es) v)) es ≡ true
  inside f v o b = under f (map (element_at es) v) (ap (function_of g f) (length-map v (element_at es)) ∙ o) (all-elem-at es v b)

  pub restricted-closed : Closed g (length es) (restricted es I)
  restricted-closed f v o b = (element_place es (I.function f (map (element_at es) v)) (inside f v o b)).0

  pub restricted-embedding : once es ≡ true → Embedding g (length es) (restricted es I) I (element_at es)
  restricted-embedding o =
      record {
        one_to_one = once-at es o;
        functions = λ f v h b. (element_place es (I.function f (map (element_at es) v)) (inside f v h b)).1;
        relations = λ p v h b. refl;
      }
