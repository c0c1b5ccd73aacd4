-- What a case shows: the declared symbols, and of a valuation the bits of their cells, which stand before those of the helpers.
use Prim.Native.Nat.{ℕ, zero, suc, ◌+◌, ◌-◌, ◌≤◌}
use mathlib.Core.Path.{◌≡◌, refl, sym, ap, ◌∙◌}
use mathlib.Core.Bool.{Bool, true, false}
use mathlib.Core.List.{List, [], ◌∷◌, ◌++◌, map}
use native.Mathlib.Nat.{zero-add, suc-add}
use native.Mathlib.Omega.{arith}
use lib.Dec.{eqb, leb}
use lib.ListN.{length, take, drop, length-take, take-append-drop}
use lib.Seq.{take-take, length-take-le}
use Rattle.theory.specs.Lists.{all, sum}
use Rattle.theory.specs.Syntax.{Kind}
use Rattle.theory.specs.Syntax as theory
use Rattle.theory.specs.Cells.{cell_count, cell_kinds}
use Rattle.theory.specs.Propositional.{width, prop_count}
use Rattle.theory.specs.CaseText.{case_text, case_length}
use Rattle.theory.specs.Valuation.{has_value, value_of, all_have_values, is_functional, values_of, read_back}
use Rattle.theory.proofs.Tests.{leb-true, leb-false, and_left, and_right, and-join}
use Rattle.theory.proofs.Lists.{all_take, concat_map-append, map-take, sum-map-append}
use Rattle.theory.proofs.Numbering.{length-cell_kinds, widths-total}
use Rattle.naming.specs.NamedProblem.{shown_symbols, shown_text}
use Rattle.syntax.specs.declared.signature.Symbol.{Symbol}
use Rattle.syntax.specs.declared.signature.Signature.{Signature}
use Rattle.syntax.specs.Signatures.{max_declared, symbol_in, signature_in, declared_count, without_helpers}
use Rattle.clauses.specs.Names.{Limited, Readable}
use Rattle.clauses.proofs.Held.{none-past}
use Rattle.problem.specs.Modes.{Shows}
use Rattle.problem.proofs.Showing.{count-within}

-- elements from one place up to another
drop-take : {A : Type 0} (a t : ℕ) (l : List A) → drop a (take (a + t) l) ≡ take t (drop a l)
drop-take zero t l = ap (λ (n : ℕ). take n l) (zero-add t)
drop-take (suc a) t [] = ap (λ (n : ℕ). drop (suc a) (take n [])) (suc-add a t) ∙ none t
  where
    none : {A : Type 0} (t : ℕ) → ◌≡◌ {A = List A} [] (take t [])
    none zero = refl
    none (suc t) = refl
drop-take (suc a) t (x ∷ l) = ap (λ (n : ℕ). drop (suc a) (take n (x ∷ l))) (suc-add a t) ∙ drop-take a t l

module _ (s : ℕ) where
  -- the bits of cells of these kinds
  abbrev total : List Kind → ℕ
  total ks = sum (map (width s) ks)

  -- the first cells have their values from their own bits
  values-front : (ks ls : List Kind) (σ : List ℕ) → values_of s ks (take (total ks) σ) ≡ take (length ks) (values_of s (ks ++ ls) σ)
  values-front [] ls σ = refl
  values-front (k ∷ ks) ls σ =
      let w : ℕ = width s k in
      ap (λ (l : List ℕ). value_of k l ∷ values_of s ks (drop w (take (w + total ks) σ))) (take-take w (w + total ks) σ (omega arith))
      ∙ ap (λ (l : List ℕ). value_of k (take w σ) ∷ values_of s ks l) (drop-take w (total ks) σ)
      ∙ ap (λ (l : List ℕ). value_of k (take w σ) ∷ l) (values-front ks ls (drop w σ))

  have-front : (ks ls : List Kind) (σ : List ℕ) → all_have_values s (ks ++ ls) σ ≡ true → all_have_values s ks (take (total ks) σ) ≡ true
  have-front [] ls σ h = refl
  have-front (k ∷ ks) ls σ h =
      let w : ℕ = width s k in
      let rest : Bool = all_have_values s (ks ++ ls) (drop w σ) in
      and-join _ _
      (ap (has_value k) (take-take w (w + total ks) σ (omega arith)) ∙ and_left (has_value k (take w σ)) rest h)
      (ap (all_have_values s ks) (drop-take w (total ks) σ) ∙ have-front ks ls (drop w σ) (and_right (has_value k (take w σ)) rest h))

module _ (y : Signature) where
  abbrev ys : List Symbol
  ys = take y.count y.symbols

  count_less : declared_count ys ≤ y.count
  count_less = omega (arith, count-within ys, length-take y.count y.symbols)

  -- the declared symbols are the first
  first-symbols : take (declared_count ys) y.symbols ≡ take (declared_count ys) ys
  first-symbols = sym (take-take (declared_count ys) y.count y.symbols count_less)

  first-all : (p : Symbol → Bool) → all p ys ≡ true → all p (take (declared_count ys) y.symbols) ≡ true
  first-all p h = ap (all p) first-symbols ∙ all_take p (declared_count ys) ys h

  -- and as readable as all
  limited-first : Limited y → Limited (without_helpers y)
  limited-first h =
      record {
        count = omega (arith, count_less, h.count);
        held = omega (arith, count_less, h.held);
        arities = first-all _ h.arities;
        constants = go (leb (declared_count ys) max_declared) refl;
      }
    where
      constant : Symbol → Bool
      constant f = eqb f.arity 0

      go : (b : Bool) → leb (declared_count ys) max_declared ≡ b → all constant (drop max_declared (take (declared_count ys) y.symbols)) ≡ true
      go true few = none-past (without_helpers y) constant (leb-true (declared_count ys) max_declared few)
      go false many =
          let past : max_declared + (declared_count ys - max_declared) ≡ declared_count ys = omega (arith, leb-false (declared_count ys) max_declared many) in
          ap (λ (l : List Symbol). all constant (drop max_declared l)) first-symbols
          ∙ ap (λ (n : ℕ). all constant (drop max_declared (take n ys))) (sym past)
          ∙ ap (all constant) (drop-take max_declared (declared_count ys - max_declared) ys)
          ∙ all_take constant (declared_count ys - max_declared) (drop max_declared ys) h.constants

  pub readable-first : (sheet : List ℕ) → Readable sheet y → Readable sheet (without_helpers y)
  readable-first sheet h = record { limited = limited-first h.limited; names = first-all _ h.names }

  module _ (sheet : List ℕ) where
    -- the signature, and its declared symbols
    abbrev G : theory.Signature
    G = signature_in sheet y

    abbrev g : theory.Signature
    g = signature_in sheet (without_helpers y)

    first_signature : g ≡ take (declared_count ys) G
    unfolding signature_in
    first_signature = ap (map (symbol_in sheet)) first-symbols ∙ map-take (symbol_in sheet) (declared_count ys) ys

    -- the helpers behind them
    abbrev rest : theory.Signature
    rest = drop (declared_count ys) G

    both : G ≡ g ++ rest
    both = sym (ap (λ (l : theory.Signature). l ++ rest) first_signature ∙ take-append-drop (declared_count ys) G)

    module _ (s : ℕ) where
      kinds : cell_kinds s G ≡ cell_kinds s g ++ cell_kinds s rest
      unfolding cell_kinds
      kinds = ap (cell_kinds s) both ∙ concat_map-append _ g rest

      -- their variables are among all
      pub variables-first : prop_count s g ≤ prop_count s G
      variables-first = omega (arith, widths-total s g, widths-total s G, ap (total s) kinds, sum-map-append (width s) (cell_kinds s g) (cell_kinds s rest))

      module _ (σ : List ℕ) where
        pub counted-first : length σ ≡ prop_count s G → length (take (prop_count s g) σ) ≡ prop_count s g
        counted-first h = length-take-le (prop_count s g) σ (omega (arith, variables-first))

        pub functional-first : is_functional s G σ ≡ true → is_functional s g (take (prop_count s g) σ) ≡ true
        unfolding is_functional
        functional-first h =
            ap (λ (n : ℕ). all_have_values s (cell_kinds s g) (take n σ)) (sym (widths-total s g))
            ∙ have-front s (cell_kinds s g) (cell_kinds s rest) σ (ap (λ (ks : List Kind). all_have_values s ks σ) (sym kinds) ∙ h)

        -- what is read back of the declared symbols' bits is what a case shows
        values-first : read_back s g (take (prop_count s g) σ) ≡ take (cell_count s g) (read_back s G σ)
        unfolding read_back
        values-first =
            ap (λ (n : ℕ). values_of s (cell_kinds s g) (take n σ)) (sym (widths-total s g))
            ∙ values-front s (cell_kinds s g) (cell_kinds s rest) σ
            ∙ ap (λ (ks : List Kind). take (length (cell_kinds s g)) (values_of s ks σ)) (sym kinds)
            ∙ ap (λ (n : ℕ). take n (values_of s (cell_kinds s G) σ)) (length-cell_kinds s g)

        pub text-first : Shows sheet y → shown_text s G (read_back s G σ) ≡ case_text s g (read_back s g (take (prop_count s g) σ))
        text-first h = ap (λ (k : theory.Signature). case_text s k (take (cell_count s k) (read_back s G σ))) h ∙ ap (case_text s g) (sym values-first)

      pub length-first : Shows sheet y → case_length s (shown_symbols G) ≡ case_length s g
      length-first h = ap (case_length s) h
