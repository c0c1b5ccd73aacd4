-- A signature with helper constants after its symbols: symbols, cells and values in range.
use Prim.Native.Nat.{ℕ, ◌+◌, ◌*◌, ◌≤◌, ◌<◌}
use mathlib.Core.Path.{◌≡◌, refl, sym, ap, ◌∙◌}
use mathlib.Core.Bool.{Bool, true, not, false≢true}
use mathlib.Core.List.{List, [], ◌∷◌, ◌++◌, append-nil}
use native.Mathlib.Nat.{zero-mul, one-mul, suc-mul, pow-zero}
use native.Mathlib.Omega.{arith}
use lib.Dec.{ltb}
use lib.ListN.{length, take, replicate, length-append, length-map, get_or-append}
use lib.Seq.{take_all, get_or-append-add, take-append-le, take-append-add, length-take-le}
use Rattle.theory.specs.Lists.{select}
use Rattle.theory.specs.Vectors.{AllBelow}
use Rattle.theory.specs.Syntax.{Kind, function, predicate, is_from_sheet, Symbol, Signature, all_declared, no_symbol, symbol_at, Term, variable, apply, Terms, empty, cons, count, function_of, predicate_of, term_ok, terms_ok}
use Rattle.theory.specs.Cells.{table_size, cell_count, cell_base, cell_kinds, value_count, in_range, is_interpretation}
use Rattle.theory.specs.CaseText.{case_text}
use Rattle.theory.specs.Propositional.{block_size, prop_count}
use Rattle.theory.proofs.Tests.{ltb-of-<, and_left, and_right, and-join}
use Rattle.theory.proofs.Lists.{map_at, map-take, sum-map-append, concat_map-append, select-append, select-all, select-none, all_map, all-every}
use Rattle.theory.proofs.Numbering.{length-cell_kinds}
use Rattle.theory.proofs.Declared.{Declared, function_of→, predicate_of→, →function_of, →predicate_of}
use Rattle.naming.specs.NamedProblem.{helper_constant, helper_symbols, shown_symbols, shown_text}

-- the symbols g, then a helper for each term
abbrev pub with_helpers : Signature → List Term → Signature
with_helpers g ts = g ++ helper_symbols ts

-- a case shows all symbols where all are declared
pub shown-declared : (g : Signature) → all_declared g ≡ true → shown_symbols g ≡ g
unfolding shown_symbols
shown-declared g h = select-all (λ (f : Symbol). is_from_sheet f.origin) g h

-- then it shows all values
pub shown-whole : (s : ℕ) (g : Signature) (vs : List ℕ) → all_declared g ≡ true → length vs ≡ cell_count s g → shown_text s g vs ≡ case_text s g vs
shown-whole s g vs h e =
    ap (λ (k : Signature). case_text s k (take (cell_count s k) vs)) (shown-declared g h) ∙ ap (case_text s g) (take_all (cell_count s g) vs (omega (arith, e)))

-- and the declared ones alone where helpers stand behind them
pub shown-with : (g : Signature) (ts : List Term) → all_declared g ≡ true → shown_symbols (with_helpers g ts) ≡ g
unfolding shown_symbols
shown-with g ts h =
    let test : Symbol → Bool = λ f. is_from_sheet f.origin in
    select-append test g (helper_symbols ts)
    ∙ ap (λ (l : Signature). l ++ select test (helper_symbols ts)) (select-all test g h)
    ∙ ap (λ (l : Signature). g ++ l) (select-none test (helper_symbols ts) (all_map (λ (f : Symbol). not (test f)) (λ t. helper_constant) ts ∙ all-every (λ t. true) ts (λ t. refl)))
    ∙ append-nil g

module _ (g : Signature) (ts : List Term) where
  abbrev g⁺ : Signature
  g⁺ = with_helpers g ts

  pub length-with : length g⁺ ≡ length g + length ts
  length-with = length-append g (helper_symbols ts) ∙ ap (λ (n : ℕ). length g + n) (length-map ts (λ t. helper_constant))

  pub symbol-declared : (i : ℕ) → i < length g → symbol_at g⁺ i ≡ symbol_at g i
  symbol-declared i h = get_or-append g (helper_symbols ts) no_symbol i h

  pub symbol-helper : (i : ℕ) → i < length ts → symbol_at g⁺ (length g + i) ≡ helper_constant
  symbol-helper i h = get_or-append-add g (helper_symbols ts) i no_symbol ∙ map_at (λ t. helper_constant) ts i (variable 0) no_symbol h

  pub function-declared : (f n : ℕ) → function_of g f n ≡ true → function_of g⁺ f n ≡ true
  function-declared f n h =
      let d : Declared g f function n = function_of→ g f n h in
      let e : symbol_at g⁺ f ≡ symbol_at g f = symbol-declared f d.below in
      let lt : f < length g = d.below in
      →function_of g⁺ f n (record { below = omega (arith, length-with); kind = ap (λ (u : Symbol). u.kind) e ∙ d.kind; arity = d.arity ∙ ap (λ (u : Symbol). u.arity) (sym e) })

  pub predicate-declared : (p n : ℕ) → predicate_of g p n ≡ true → predicate_of g⁺ p n ≡ true
  predicate-declared p n h =
      let d : Declared g p predicate n = predicate_of→ g p n h in
      let e : symbol_at g⁺ p ≡ symbol_at g p = symbol-declared p d.below in
      let lt : p < length g = d.below in
      →predicate_of g⁺ p n (record { below = omega (arith, length-with); kind = ap (λ (u : Symbol). u.kind) e ∙ d.kind; arity = d.arity ∙ ap (λ (u : Symbol). u.arity) (sym e) })

  pub function-helper : (i : ℕ) → i < length ts → function_of g⁺ (length g + i) 0 ≡ true
  function-helper i h =
      let e : symbol_at g⁺ (length g + i) ≡ helper_constant = symbol-helper i h in
      →function_of g⁺ (length g + i) 0 (record { below = omega (arith, length-with); kind = ap (λ (u : Symbol). u.kind) e; arity = sym (ap (λ (u : Symbol). u.arity) e) })

  -- syntax over the sheet's symbols is over the mode's
  mutual
    pub term-declared : (t : Term) → term_ok g t ≡ true → term_ok g⁺ t ≡ true
    term-declared (variable x) h = refl
    term-declared (apply f us) h =
        and-join (function_of g⁺ f (count us)) (terms_ok g⁺ us) (function-declared f (count us) (and_left (function_of g f (count us)) (terms_ok g us) h))
        (terms-declared us (and_right (function_of g f (count us)) (terms_ok g us) h))

    terms-declared : (us : Terms) → terms_ok g us ≡ true → terms_ok g⁺ us ≡ true
    terms-declared empty h = refl
    terms-declared (cons t us) h =
        and-join (term_ok g⁺ t) (terms_ok g⁺ us) (term-declared t (and_left (term_ok g t) (terms_ok g us) h)) (terms-declared us (and_right (term_ok g t) (terms_ok g us) h))

  -- Cells: the declared ones first, then one for each helper.
  module _ (s : ℕ) where
    count-helpers : (us : List Term) → cell_count s (helper_symbols us) ≡ length us
    count-helpers [] = refl
    count-helpers (u ∷ us) = omega (arith, pow-zero s, count-helpers us)

    pub cell_count-with : cell_count s g⁺ ≡ cell_count s g + length ts
    cell_count-with = sum-map-append (table_size s) g (helper_symbols ts) ∙ ap (λ (n : ℕ). cell_count s g + n) (count-helpers ts)

    -- a helper's cell has s propositional variables
    variables-helpers : (us : List Term) → prop_count s (helper_symbols us) ≡ length us * s
    unfolding prop_count
    variables-helpers [] = sym (zero-mul s)
    variables-helpers (u ∷ us) =
        ap (λ (n : ℕ). n * s + prop_count s (helper_symbols us)) (pow-zero s) ∙ ap (λ (n : ℕ). 1 * s + n) (variables-helpers us) ∙ omega (arith, suc-mul (length us) s, one-mul s)

    pub prop_count-with : prop_count s g⁺ ≡ prop_count s g + length ts * s
    unfolding prop_count
    prop_count-with = sum-map-append (block_size s) g (helper_symbols ts) ∙ ap (λ (n : ℕ). prop_count s g + n) (variables-helpers ts)

    pub cell_base-declared : (i : ℕ) → i < length g → cell_base s g⁺ i ≡ cell_base s g i
    cell_base-declared i h = let le : i ≤ length g = omega arith in ap (cell_count s) (take-append-le i g (helper_symbols ts) le)

    pub cell_base-helper : (i : ℕ) → i < length ts → cell_base s g⁺ (length g + i) ≡ cell_count s g + i
    cell_base-helper i h =
        let le : i ≤ length ts = omega arith in
        ap (cell_count s) (take-append-add g (helper_symbols ts) i ∙ ap (λ (l : Signature). g ++ l) (sym (map-take (λ t. helper_constant) i ts)))
        ∙ sum-map-append (table_size s) g (helper_symbols (take i ts))
        ∙ ap (λ (n : ℕ). cell_count s g + n) (count-helpers (take i ts) ∙ length-take-le i ts le)

    kinds-helpers : (us : List Term) → cell_kinds s (helper_symbols us) ≡ replicate (length us) function
    unfolding cell_kinds
    kinds-helpers [] = refl
    kinds-helpers (u ∷ us) =
        ap (λ (n : ℕ). replicate n function ++ cell_kinds s (helper_symbols us)) (pow-zero s) ∙ ap (λ (l : List Kind). function ∷ l) (kinds-helpers us)

    kinds-with : cell_kinds s g⁺ ≡ cell_kinds s g ++ replicate (length ts) function
    unfolding cell_kinds
    kinds-with = concat_map-append (λ (f : Symbol). replicate (table_size s f) f.kind) g (helper_symbols ts) ∙ ap (λ (l : List Kind). cell_kinds s g ++ l) (kinds-helpers ts)

    -- values in range, one list after the other
    in_range-append : (ks ls : List Kind) (us vs : List ℕ) → in_range s ks us ≡ true → in_range s ls vs ≡ true → in_range s (ks ++ ls) (us ++ vs) ≡ true
    in_range-append [] ls [] vs h k = k
    in_range-append [] ls (d ∷ us) vs h k = absurd (false≢true h)
    in_range-append (x ∷ ks) ls [] vs h k = absurd (false≢true h)
    in_range-append (x ∷ ks) ls (d ∷ us) vs h k =
        and-join (ltb d (value_count s x)) (in_range s (ks ++ ls) (us ++ vs)) (and_left (ltb d (value_count s x)) (in_range s ks us) h)
        (in_range-append ks ls us vs (and_right (ltb d (value_count s x)) (in_range s ks us) h) k)

    in_range-take : (ks ls : List Kind) (ws : List ℕ) → in_range s (ks ++ ls) ws ≡ true → in_range s ks (take (length ks) ws) ≡ true
    in_range-take [] ls ws h = refl
    in_range-take (x ∷ ks) ls [] h = absurd (false≢true h)
    in_range-take (x ∷ ks) ls (d ∷ ws) h =
        and-join (ltb d (value_count s x)) (in_range s ks (take (length ks) ws)) (and_left (ltb d (value_count s x)) (in_range s (ks ++ ls) ws) h)
        (in_range-take ks ls ws (and_right (ltb d (value_count s x)) (in_range s (ks ++ ls) ws) h))

    in_range-elements : (us : List ℕ) → AllBelow s us → in_range s (replicate (length us) function) us ≡ true
    in_range-elements [] b = refl
    in_range-elements (d ∷ us) b = and-join (ltb d s) (in_range s (replicate (length us) function) us) (ltb-of-< d s b.0) (in_range-elements us b.1)

    -- declared cells of an interpretation of the mode are one of the sheet
    pub interpretation-shown : (ws : List ℕ) → is_interpretation s g⁺ ws ≡ true → is_interpretation s g (take (cell_count s g) ws) ≡ true
    unfolding is_interpretation
    interpretation-shown ws h =
        ap (λ (n : ℕ). in_range s (cell_kinds s g) (take n ws)) (sym (length-cell_kinds s g))
        ∙ in_range-take (cell_kinds s g) (replicate (length ts) function) ws (ap (λ (ks : List Kind). in_range s ks ws) (sym kinds-with) ∙ h)

    -- and an element for each helper makes one of the mode
    pub interpretation-with : (vs us : List ℕ) → is_interpretation s g vs ≡ true → length us ≡ length ts → AllBelow s us → is_interpretation s g⁺ (vs ++ us) ≡ true
    unfolding is_interpretation
    interpretation-with vs us h e b =
        ap (λ (ks : List Kind). in_range s ks (vs ++ us)) (kinds-with ∙ ap (λ (n : ℕ). cell_kinds s g ++ replicate n function) (sym e))
        ∙ in_range-append (cell_kinds s g) (replicate (length us) function) vs us h (in_range-elements us b)
