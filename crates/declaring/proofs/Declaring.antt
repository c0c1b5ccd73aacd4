-- An occurrence of a symbol: one of a name that has appeared is held to its first kind and arity, a new one to the limits of a sheet.
use Prim.Native.Nat.{ℕ, ◌+◌, ◌-◌, ◌≤◌, ◌<◌}
use mathlib.Core.Path.{◌≡◌, refl, sym, ap, ◌∙◌, subst}
use mathlib.Core.Bool.{Bool, true, false, cond, not, ◌||◌, beq}
use mathlib.Core.Option.{Option, none, some}
use mathlib.Core.List.{List, ◌++◌}
use native.Mathlib.Omega.{arith}
use lib.Dec.{eqb, ltb, leb}
use lib.ListN.{length, get_or}
use borrow.Author.Tests.{not-false}
use Rattle.std.specs.Prelude.{Some, None, Ok, Err}
use Rattle.theory.specs.Options.{told}
use Rattle.syntax.specs.declared.faults.Fault.TheVariants as fault
use Rattle.theory.specs.Lists.{or_zero}
use Rattle.theory.specs.Syntax.{is_function, Signature, no_symbol, symbol_at, functions, predicates}
use Rattle.theory.specs.Syntax as theory
use Rattle.theory.specs.Problem.{is_name, is_named, place_of_name}
use Rattle.theory.specs.WellFormed.{symbol_ok}
use Rattle.theory.proofs.Tests.{eqb-true, eqb_same, beq_same, and_right, or_left, or_right, or-false-right, or-false-join, ltb-of-<, ltb-of-≤, leb-of-≤, leb-of-<}
use Rattle.theory.proofs.Lists.{all-at}
use Rattle.theory.proofs.Names.{named-place}
use Rattle.text.specs.Lines.{part}
use Rattle.syntax.specs.declared.signature.Symbol.{Symbol}
use Rattle.syntax.specs.Signatures.{kind_of, symbol_in, signature_in}
use Rattle.clauses.proofs.Held.{blank, arity-at, symbol_at-signature_in}
use Rattle.problem.proofs.Declaring.{name-found, name-not-found}
use Rattle.tptp.specs.Symbols.{Occurrence, declares}
use Rattle.tptp.specs.Tptp.{fault_if, same_symbol_kind, place_in_kind, occurrence_faults}
use Rattle.tptp.specs.Claims.Order.{first_fault, signature_by}
use Rattle.tptp.proofs.SoFar.{entry}
use Rattle.declaring.specs.declared.symbols.Symbols.{Symbols}
use Rattle.declaring.specs.Tables.{TableOf, LimitedTable, symbol_occurrence, SymbolDeclared, is_other, count_of_kind, insert_at, WithSymbol}
use Rattle.declaring.proofs.Signatures.{entry_more, named-alike, signature-again, signature-more, functions-count, place-more}
use Rattle.declaring.proofs.Tables.{inserted-in, tabled-more, all-count, kind-count, says}

-- the mark says the kind
kind-back : (b : Bool) → is_function (kind_of b) ≡ b
kind-back true = refl
kind-back false = refl

same-kinds : (a b : Bool) → same_symbol_kind (kind_of a) (kind_of b) ≡ beq a b
same-kinds a b = ap (λ (x : Bool). beq x (is_function (kind_of b))) (kind-back a) ∙ ap (beq a) (kind-back b)

-- a place among at most 12 is below 12
place-below : (w : List ℕ) (fs : List theory.Symbol) → length fs ≤ 12 → or_zero (place_of_name w fs) < 12
place-below w fs h = go (place_of_name w fs) refl
  where
    go : (o : Option ℕ) → place_of_name w fs ≡ o → or_zero o < 12
    go none e = omega arith
    go (some i) e = omega (arith, (named-place fs w i e).0)

module _ (text : List ℕ) (t : Symbols) (h : LimitedTable text t) where
  abbrev g₀ : Signature
  g₀ = signature_in text t.signature

  few-of-kind : (X : List theory.Symbol) → TableOf text X t → (fn : Bool) → length (cond (is_function (kind_of fn)) (functions (signature_by X)) (predicates (signature_by X))) ≤ 12
  few-of-kind X T true = (says text X t h T).few-functions
  few-of-kind X T false = (says text X t h T).few-predicates

  module _ (start end : ℕ) (fn : Bool) (arity : ℕ) where
    abbrev w : List ℕ
    w = part text start end

    abbrev o : Occurrence
    o = symbol_occurrence text start end fn arity

    abbrev self : theory.Symbol
    self = record { kind = kind_of fn; name = w; arity = arity; origin = theory.declared }

    -- the two tests of an occurrence
    abbrev differs : theory.Symbol → Bool
    differs s = not (same_symbol_kind (kind_of fn) s.kind) || not (eqb arity s.arity)

    abbrev exceeds : ℕ → Bool
    exceeds n = ltb 3 arity || not (is_name w) || leb 12 n

    within : arity ≤ 3 → is_name w ≡ true → (n : ℕ) → n < 12 → exceeds n ≡ false
    within small good n low =
        or-false-join (ltb 3 arity || not (is_name w)) (leb 12 n) (or-false-join (ltb 3 arity) (not (is_name w)) (ltb-of-≤ 3 arity small) (ap not good)) (leb-of-< 12 n low)

    -- the first fault, by the two tests
    tells : (g : Signature) (xs : List (List ℕ)) (b c : Bool) → differs (entry g w) ≡ b → exceeds (place_in_kind g (kind_of fn) w) ≡ c
        → first_fault (occurrence_faults g xs o) ≡ first_fault (fault_if b 16 start ++ fault_if c 17 start)
    tells g xs b c p q =
        ap (λ (x : Bool). first_fault (fault_if x 16 start ++ fault_if (exceeds (place_in_kind g (kind_of fn) w)) 17 start)) p
        ∙ ap (λ (x : Bool). first_fault (fault_if b 16 start ++ fault_if x 17 start)) q

    -- a name that has appeared
    module _ (i : ℕ) (found : told (Some i) ≡ place_of_name w g₀) (below : i < t.signature.count) where
      abbrev y : Symbol
      y = get_or t.signature.symbols i blank

      there : place_of_name w g₀ ≡ some i
      there = sym found

      module _ (X : List theory.Symbol) (T : TableOf text X t) where
        abbrev next : Signature
        next = signature_by (X ++ declares o)

        stays : next ≡ signature_by X
        stays = signature-again X self (sym (named-alike X w) ∙ ap (is_named w) (sym T.symbols) ∙ name-found w g₀ (Some i) found refl)

        entry_known : entry next w ≡ symbol_in text y
        entry_known =
            ap (λ (g : Signature). entry g w) (stays ∙ sym T.symbols)
            ∙ ap (λ (o : Option ℕ). symbol_at g₀ (or_zero o)) there
            ∙ symbol_at-signature_in t.signature h.readable.limited text i below

        differs-known : differs (entry next w) ≡ is_other y fn arity
        differs-known = ap differs entry_known ∙ ap (λ (b : Bool). not b || not (eqb arity y.arity)) (same-kinds fn y.function)

        -- kept by its first appearance
        kept-known : is_other y fn arity ≡ false → exceeds (place_in_kind next (kind_of fn) w) ≡ false
        kept-known e =
            let same-arity : arity ≡ y.arity = eqb-true arity y.arity (not-false (eqb arity y.arity) (or-false-right (not (beq fn y.function)) (not (eqb arity y.arity)) e)) in
            let small : arity ≤ 3 = omega (arith, arity-at t.signature h.readable.limited i below) in
            let p = named-place g₀ w i there in
            let good : is_name w ≡ true = ap is_name p.1 ∙ and_right (leb (symbol_at g₀ i).arity 3) (is_name (symbol_at g₀ i).name) (all-at symbol_ok no_symbol g₀ i h.symbols-ok p.0) in
            let low : place_in_kind (signature_by X) (kind_of fn) w < 12 = place-below w (cond (is_function (kind_of fn)) (functions (signature_by X)) (predicates (signature_by X))) (few-of-kind X T fn) in
            within small good (place_in_kind next (kind_of fn) w) (subst (λ (g : Signature). place_in_kind g (kind_of fn) w < 12) (sym stays) low)

      pub known-other : is_other y fn arity ≡ true → SymbolDeclared text t start o (Err fault.SymbolUse)
      known-other e =
          record {
            fault = λ X xs T. tells (signature_by (X ++ declares o)) xs true _ (differs-known X T ∙ e) refl;
            taken = tt;
          }

      pub known_same : is_other y fn arity ≡ false → SymbolDeclared text t start o (Ok t)
      known_same e =
          record {
            fault = λ X xs T. tells (signature_by (X ++ declares o)) xs false false (differs-known X T ∙ e) (kept-known X T e);
            taken = record {
              limited = h;
              table = λ X T. record { symbols = T.symbols ∙ sym (stays X T); functions = T.functions ∙ ap (λ (g : Signature). length (functions g)) (sym (stays X T)) };
            };
          }

    -- a new name
    module _ (absent : told {A = ℕ} None ≡ place_of_name w g₀) where
      module _ (X : List theory.Symbol) (T : TableOf text X t) where
        new : is_named w X ≡ false
        new = sym (named-alike X w) ∙ ap (is_named w) (sym T.symbols) ∙ name-not-found w g₀ None absent refl

        abbrev g₁ : Signature
        g₁ = signature_by X

        differs-new : differs (entry (signature_by (X ++ declares o)) w) ≡ false
        differs-new =
            ap (λ (g : Signature). differs (entry g w)) (signature-more X self new)
            ∙ ap differs (entry_more g₁ self (cond (is_function (kind_of fn)) (length (functions g₁)) (length g₁)) (named-alike X w ∙ new))
            ∙ or-false-join (not (same_symbol_kind (kind_of fn) (kind_of fn))) (not (eqb arity arity)) (ap not (beq_same (is_function (kind_of fn)))) (ap not (eqb_same arity))

        exceeds-new : exceeds (place_in_kind (signature_by (X ++ declares o)) (kind_of fn) w) ≡ exceeds (count_of_kind t fn)
        exceeds-new =
            ap exceeds (place-more X self new)
            ∙ ap (λ (b : Bool). exceeds (cond b (length (functions g₁)) (length (predicates g₁)))) (kind-back fn)
            ∙ ap exceeds (kind-count text X t h T fn)

      over : exceeds (count_of_kind t fn) ≡ true → SymbolDeclared text t start o (Err fault.TextLimits)
      over e =
          record {
            fault = λ X xs T. tells (signature_by (X ++ declares o)) xs false true (differs-new X T) (exceeds-new X T ∙ e);
            taken = tt;
          }

      pub over-arity : 3 < arity → SymbolDeclared text t start o (Err fault.TextLimits)
      over-arity k = over (or_left (ltb 3 arity || not (is_name w)) (leb 12 (count_of_kind t fn)) (or_left (ltb 3 arity) (not (is_name w)) (ltb-of-< 3 arity k)))

      pub over-name : is_name w ≡ false → SymbolDeclared text t start o (Err fault.TextLimits)
      over-name e = over (or_left (ltb 3 arity || not (is_name w)) (leb 12 (count_of_kind t fn)) (or_right (ltb 3 arity) (not (is_name w)) (ap not e)))

      pub over-count : 12 ≤ count_of_kind t fn → SymbolDeclared text t start o (Err fault.TextLimits)
      over-count k = over (or_right (ltb 3 arity || not (is_name w)) (leb 12 (count_of_kind t fn)) (leb-of-≤ 12 (count_of_kind t fn) k))

      module _ (r : Symbols) (a : WithSymbol t (record { function = fn; helper = false; arity = arity; name = start; length = end - start }) r) where
        abbrev at : ℕ
        at = cond fn t.functions t.signature.count

        table-new : (X : List theory.Symbol) → TableOf text X t → TableOf text (X ++ declares o) r
        table-new X T =
            let n : at ≡ cond (is_function (kind_of fn)) (length (functions (signature_by X))) (length (signature_by X)) =
            ap (λ (n : ℕ). cond fn n t.signature.count) T.functions
            ∙ ap (λ (n : ℕ). cond fn (length (functions (signature_by X))) n) (all-count text X t h T)
            ∙ ap (λ (b : Bool). cond b (length (functions (signature_by X))) (length (signature_by X))) (sym (kind-back fn)) in
            record {
              symbols = inserted-in text t.signature at _ r.signature a.signature
                  ∙ ap (insert_at at self) T.symbols
                  ∙ ap (λ (n : ℕ). insert_at n self (signature_by X)) n
                  ∙ sym (signature-more X self (new X T));
              functions = a.functions
                  ∙ ap (λ (n : ℕ). cond fn (n + 1) n) T.functions
                  ∙ ap (λ (b : Bool). cond b (length (functions (signature_by X)) + 1) (length (functions (signature_by X)))) (sym (kind-back fn))
                  ∙ sym (functions-count X self (new X T));
            }

        pub new-taken : start ≤ end → end ≤ length text → arity ≤ 3 → is_name w ≡ true → count_of_kind t fn < 12 → SymbolDeclared text t start o (Ok r)
        new-taken ordered inside small good room =
            record {
              fault = λ X xs T. tells (signature_by (X ++ declares o)) xs false false (differs-new X T) (exceeds-new X T ∙ within small good (count_of_kind t fn) room);
              taken = record { limited = tabled-more text t h _ r a small (omega arith) good room; table = table-new };
            }
