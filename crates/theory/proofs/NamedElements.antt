-- The elements that constants name, or one element where there are no constants: where no function takes arguments, the functions do not lead out of them.
use Prim.Native.Nat.{ℕ, zero, ◌≤◌, ◌<◌}
use mathlib.Core.Path.{◌≡◌, refl, sym, ap, ◌∙◌}
use mathlib.Core.Bool.{Bool, true, false, cond}
use mathlib.Core.List.{List, [], ◌∷◌, map}
use native.Mathlib.Omega.{arith}
use lib.Dec.{eqb, ltb}
use lib.ListN.{length, length-map}
use Rattle.theory.specs.Lists.{all, up_to, elem, distinct}
use Rattle.theory.specs.Syntax.{is_function, Symbol, no_symbol, Signature, symbol_at, functions}
use Rattle.theory.specs.Truth.{Interpretation}
use Rattle.theory.specs.PropClauses.{function_places}
use Rattle.theory.specs.Claims.Flattening.{Closed}
use Rattle.theory.proofs.Tests.{eqb-true, ltb-of-<, and-join, or_right}
use Rattle.theory.proofs.Lists.{all_map, all-elem, all-select, up_to-all, all-distinct, elem-distinct, elem-select, elem-map, select-map, map-places, up_from-elem}
use Rattle.theory.proofs.Declared.{function-kind, function_of→, →function_of}
use Rattle.theory.proofs.Distinct.{once, distinct-once, distinct-shorter}
use Rattle.theory.proofs.Substructures.{ClosedUnder}

-- the elements, or the element 0 where there are none
abbrev inhabited : List ℕ → List ℕ
inhabited [] = 0 ∷ []
inhabited (d ∷ ds) = d ∷ ds

-- the value of each function at no arguments
abbrev constant_values : Interpretation → Signature → List ℕ
constant_values I g = map (λ f. I.function f []) (function_places g)

-- the elements that the constants name, each once; the element 0 where there are no constants
abbrev pub named_elements : Interpretation → Signature → List ℕ
named_elements I g = distinct (inhabited (constant_values I g))

inhabited-below : (s : ℕ) (ds : List ℕ) → zero < s → all (λ d. ltb d s) ds ≡ true → all (λ d. ltb d s) (inhabited ds) ≡ true
inhabited-below s [] pos h = and-join (ltb 0 s) true (ltb-of-< 0 s pos) refl
inhabited-below s (d ∷ ds) pos h = h

inhabited-elem : (d : ℕ) (ds : List ℕ) → elem d ds ≡ true → elem d (inhabited ds) ≡ true
inhabited-elem d [] h = or_right (eqb d 0) false h
inhabited-elem d (e ∷ ds) h = h

inhabited-count : (n : ℕ) (ds : List ℕ) → 1 ≤ n → length ds ≤ n → (1 ≤ length (distinct (inhabited ds))) × (length (distinct (inhabited ds)) ≤ n)
inhabited-count n [] h k = (omega arith, omega arith)
inhabited-count n (d ∷ ds) h k = (omega arith, omega (arith, distinct-shorter (d ∷ ds)))

-- the functions stand at the functions' places
functions-at : (g : Signature) → functions g ≡ map (symbol_at g) (function_places g)
functions-at g =
    ap functions (sym (map-places no_symbol g)) ∙ select-map (λ (f : Symbol). is_function f.kind) (symbol_at g) (up_to (length g))

-- there are at least 1 and at most n of the elements, where there are at most n functions
pub named_count : (I : Interpretation) (g : Signature) (n : ℕ) → 1 ≤ n → length (functions g) ≤ n → (1 ≤ length (named_elements I g)) × (length (named_elements I g) ≤ n)
named_count I g n h k =
    inhabited-count n (constant_values I g) h
    (omega (arith, length-map (function_places g) (λ f. I.function f []), length-map (function_places g) (symbol_at g), ap length (functions-at g)))

pub named-once : (I : Interpretation) (g : Signature) → once (named_elements I g) ≡ true
named-once I g = distinct-once (inhabited (constant_values I g))

module _ (g : Signature) (constants : all (λ (f : Symbol). eqb f.arity 0) (functions g) ≡ true) (I : Interpretation) where
  function-place : (f : ℕ) → f < length g → is_function (symbol_at g f).kind ≡ true → elem f (function_places g) ≡ true
  function-place f h k = elem-select (λ i. is_function (symbol_at g i).kind) (up_to (length g)) f k (up_from-elem f 0 (length g) (omega arith) (omega arith))

  -- a function of the signature has no arguments
  no_arguments : (f : ℕ) → f < length g → is_function (symbol_at g f).kind ≡ true → (symbol_at g f).arity ≡ 0
  no_arguments f h k =
      eqb-true (symbol_at g f).arity 0
      (all-elem (λ f. eqb (symbol_at g f).arity 0) (function_places g) f
      (sym (all_map (λ (f : Symbol). eqb f.arity 0) (symbol_at g) (function_places g)) ∙ ap (all (λ (f : Symbol). eqb f.arity 0)) (sym (functions-at g)) ∙ constants)
      (function-place f h k))

  pub named-under : ClosedUnder g I (named_elements I g)
  named-under f v o h =
      let d = function_of→ g f (length v) o in
      let k : is_function (symbol_at g f).kind ≡ true = ap is_function d.kind in
      at v (d.arity ∙ no_arguments f d.below k) (function-place f d.below k)
    where
      at : (v : List ℕ) → length v ≡ 0 → elem f (function_places g) ≡ true → elem (I.function f v) (named_elements I g) ≡ true
      at [] e k =
          elem-distinct (I.function f []) (inhabited (constant_values I g))
          (inhabited-elem (I.function f []) (constant_values I g) (elem-map (λ f. I.function f []) (function_places g) f k))
      at (x ∷ v) e k = absurd (omega arith)

  -- they are elements where the functions' values are
  pub named-below : (s : ℕ) → zero < s → Closed g s I → all (λ d. ltb d s) (named_elements I g) ≡ true
  named-below s pos closed =
      all-distinct (λ d. ltb d s) (inhabited (constant_values I g))
      (inhabited-below s (constant_values I g) pos
      (all_map (λ d. ltb d s) (λ f. I.function f []) (function_places g)
      ∙ all-select (λ i. is_function (symbol_at g i).kind) (λ f. ltb (I.function f []) s) (up_to (length g))
      ∙ up_to-all (λ i. cond (is_function (symbol_at g i).kind) (ltb (I.function i []) s) true) (length g) (λ f h. go f h (is_function (symbol_at g f).kind) refl)))
    where
      go : (f : ℕ) → f < length g → (b : Bool) → is_function (symbol_at g f).kind ≡ b → cond b (ltb (I.function f []) s) true ≡ true
      go f h true k =
          ltb-of-< (I.function f []) s
          (closed f [] (→function_of g f 0 (record { below = h; kind = function-kind (symbol_at g f).kind k; arity = sym (no_arguments f h k) })) tt)
      go f h false k = refl
