-- The constants noted symbol by symbol, and what they are of a signature.
use Prim.Native.Nat.{ℕ, zero, suc, ◌+◌, ◌≤◌, ◌<◌}
use mathlib.Core.Path.{◌≡◌, refl, sym, ap, ap₂, ◌∙◌}
use mathlib.Core.Bool.{Bool, true, false, cond, ◌&&◌, not}
use mathlib.Core.List.{List, [], ◌∷◌, ◌++◌, map, map-append}
use native.Mathlib.Nat.{zero-add}
use native.Mathlib.Omega.{arith}
use lib.Dec.{eqb, leb}
use lib.ListN.{length, get_or, take, length-append}
use lib.Seq.{get_or-take, length-take-le}
use Rattle.std.specs.List.{count_by}
use Rattle.std.proofs.lemmas.List.Sums.{count_by_more_yes, count_by_more_no}
use Rattle.theory.specs.Lists.{all, select, up_from, up_to}
use Rattle.theory.specs.Syntax.{is_function, is_from_sheet, symbol_at}
use Rattle.theory.specs.Propositional.{prop_base}
use Rattle.theory.proofs.Tests.{leb-true, leb-of-≤}
use Rattle.theory.proofs.Lists.{all-at, all_map, all-select, up_to-all, select-append, up_from-append, map-all}
use Rattle.symmetry.specs.ConstantClauses.{is_constant, constant_places}
use Rattle.syntax.specs.declared.signature.Symbol.{Symbol}
use Rattle.syntax.specs.declared.signature.Signature as declared
use Rattle.syntax.specs.Signatures.{kind_of, origin_of, symbol_in, signature_in}
use Rattle.clauses.specs.Names.{Limited}
use Rattle.clauses.proofs.Held.{blank, count-signature_in, symbol_at-signature_in}
use Rattle.valuations.specs.declared.numbering.Numbering.{Numbering}
use Rattle.valuations.specs.Numbers.{max_prop_vars, NumberingOf}
use Rattle.grounding.proofs.CellWalk.{base-small}
use Rattle.twins.specs.declared.constants.Constants.{Constants}
use Rattle.twins.specs.Constants.{constant_mark, marked_at, held_bases, ConstantsOf, Held}

-- one place more
places-more : (p : ℕ → Bool) (i : ℕ) → select p (up_to (suc i)) ≡ select p (up_to i) ++ cond (p i) (i ∷ []) []
places-more p i =
    let n : suc i ≡ i + 1 = omega arith in
    ap (λ (k : ℕ). select p (up_to k)) n
    ∙ ap (select p) (sym (up_from-append 0 i 1))
    ∙ ap (λ (k : ℕ). select p (up_to i ++ (k ∷ []))) (zero-add i)
    ∙ select-append p (up_to i) (i ∷ [])

pub noted_more : (p : ℕ → Bool) (f : ℕ → ℕ) (i j : ℕ) (b : Bool) (x : ℕ) (l l' : List ℕ) → j ≡ suc i → b ≡ p i → x ≡ f i → l ≡ map f (select p (up_to i)) → l' ≡ l ++ cond b (x ∷ []) []
    → l' ≡ map f (select p (up_to j))
noted_more p f i j b x l l' n e k h q =
    q
    ∙ ap₂ (λ (m : List ℕ) (c : Bool). m ++ cond c (x ∷ []) []) h e
    ∙ ap (λ (y : ℕ). map f (select p (up_to i)) ++ cond (p i) (y ∷ []) []) k
    ∙ ap (λ (m : List ℕ). map f (select p (up_to i)) ++ m) (mapped (p i))
    ∙ sym (map-append f (select p (up_to i)) (cond (p i) (i ∷ []) []))
    ∙ ap (map f) (sym (places-more p i))
    ∙ ap (λ (k : ℕ). map f (select p (up_to k))) (sym n)
  where
    mapped : (c : Bool) → cond c (f i ∷ []) [] ≡ map f (cond c (i ∷ []) [])
    mapped true = refl
    mapped false = refl

-- the marked ones of the first n symbols, counted
pub marked-counted : (y : declared.Signature) (n : ℕ) → n ≤ length y.symbols → count_by (λ z. constant_mark z.function z.helper z.arity) (take n y.symbols) ≡ length (select (marked_at y) (up_to n))
marked-counted y zero h = refl
marked-counted y (suc n) h = go (marked_at y n) refl (marked-counted y n (omega arith))
  where
    mark : Symbol → Bool
    mark z = constant_mark z.function z.helper z.arity

    next : suc n ≡ n + 1
    next = omega arith

    places : (b : Bool) → marked_at y n ≡ b → length (select (marked_at y) (up_to (suc n))) ≡ length (select (marked_at y) (up_to n)) + length (cond b (n ∷ []) [])
    places b e =
        ap length (places-more (marked_at y) n)
        ∙ length-append (select (marked_at y) (up_to n)) (cond (marked_at y n) (n ∷ []) [])
        ∙ ap (λ (c : Bool). length (select (marked_at y) (up_to n)) + length (cond c (n ∷ []) [])) e

    go : (b : Bool) → marked_at y n ≡ b → count_by mark (take n y.symbols) ≡ length (select (marked_at y) (up_to n)) → count_by mark (take (suc n) y.symbols) ≡ length (select (marked_at y) (up_to (suc n)))
    go true e before =
        ap (λ (m : ℕ). count_by mark (take m y.symbols)) next
        ∙ count_by_more_yes mark y.symbols n blank (omega arith) e
        ∙ ap (λ (m : ℕ). m + 1) before
        ∙ sym (places true e)
    go false e before =
        ap (λ (m : ℕ). count_by mark (take m y.symbols)) next
        ∙ count_by_more_no mark y.symbols n blank (omega arith) e
        ∙ before
        ∙ omega (arith, places false e)

-- tests that agree below n select the same
select-same : (p q : ℕ → Bool) (a n : ℕ) → ((i : ℕ) → a ≤ i → i < a + n → p i ≡ q i) → select p (up_from a n) ≡ select q (up_from a n)
select-same p q a zero h = refl
select-same p q a (suc n) h =
    ap₂ (λ (b : Bool) (l : List ℕ). cond b (a ∷ l) l) (h a (omega arith) (omega arith)) (select-same p q (suc a) n (λ i l k. h i (omega arith) (omega arith)))

module _ (y : declared.Signature) (h : Limited y) where
  -- a mark says what the symbol is
  marked-symbol : (sheet : List ℕ) (z : Symbol) → is_constant (symbol_in sheet z) ≡ constant_mark z.function z.helper z.arity
  marked-symbol sheet z = go z.function z.helper (eqb z.arity 0)
    where
      go : (b h a : Bool) → (is_function (kind_of b) && a && is_from_sheet (origin_of h)) ≡ (b && a && not h)
      go true true a = refl
      go true false a = refl
      go false h a = refl

  pub places-marked : (sheet : List ℕ) → constant_places (signature_in sheet y) ≡ select (marked_at y) (up_to y.count)
  places-marked sheet =
      ap (λ (n : ℕ). select (λ i. is_constant (symbol_at (signature_in sheet y) i)) (up_to n)) (count-signature_in y h sheet)
      ∙ select-same (λ i. is_constant (symbol_at (signature_in sheet y) i)) (marked_at y) 0 y.count
      (λ i l k. ap is_constant (symbol_at-signature_in y h sheet i (omega arith)) ∙ marked-symbol sheet (get_or y.symbols i blank))

  module _ (size : ℕ) (n : Numbering) (numbering : (sheet : List ℕ) → NumberingOf (signature_in sheet y) size n) (k : Constants) (c : ConstantsOf y n k) where
    -- the bases are those of the declared constants
    pub bases-are : (sheet : List ℕ) → held_bases k ≡ map (prop_base size (signature_in sheet y)) (constant_places (signature_in sheet y))
    bases-are sheet =
        c.bases
        ∙ map-all (λ i. leb (suc i) y.count) (λ i. get_or n.bases i 0) (prop_base size (signature_in sheet y)) (select (marked_at y) (up_to y.count))
        (all-select (marked_at y) (λ i. leb (suc i) y.count) (up_to y.count) ∙ up_to-all (λ i. cond (marked_at y i) (leb (suc i) y.count) true) y.count (λ i l. either (marked_at y i) i l))
        (λ i t. (numbering sheet).base i (omega (arith, leb-true (suc i) y.count t, count-signature_in y h sheet)))
        ∙ ap (map (prop_base size (signature_in sheet y))) (sym (places-marked sheet))
      where
        either : (b : Bool) (i : ℕ) → i < y.count → cond b (leb (suc i) y.count) true ≡ true
        either true i l = leb-of-≤ (suc i) y.count l
        either false i l = refl

    -- few variables come before them
    pub constants-held : k.count ≤ length k.first → Held k
    constants-held held =
        record {
          few = c.few;
          held = held;
          small = λ i l.
              leb-true (get_or k.first i 0) max_prop_vars
              (ap (λ (x : ℕ). leb x max_prop_vars) (sym (get_or-take k.count k.first i 0 l))
              ∙ all-at (λ x. leb x max_prop_vars) 0 (held_bases k) i all_small (omega (arith, length-take-le k.count k.first held)));
        }
      where
        either : (b : Bool) (i : ℕ) → i < y.count → cond b (leb (get_or n.bases i 0) max_prop_vars) true ≡ true
        either true i l = leb-of-≤ (get_or n.bases i 0) max_prop_vars (base-small y h size n numbering [] i l)
        either false i l = refl

        all_small : all (λ x. leb x max_prop_vars) (held_bases k) ≡ true
        all_small =
            ap (all (λ x. leb x max_prop_vars)) c.bases
            ∙ all_map (λ x. leb x max_prop_vars) (λ i. get_or n.bases i 0) (select (marked_at y) (up_to y.count))
            ∙ all-select (marked_at y) (λ i. leb (get_or n.bases i 0) max_prop_vars) (up_to y.count)
            ∙ up_to-all (λ i. cond (marked_at y i) (leb (get_or n.bases i 0) max_prop_vars) true) y.count (λ i l. either (marked_at y i) i l)
