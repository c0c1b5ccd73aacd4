-- Constants: their values after renumbering; where they come first they have the first cells.
use Prim.Native.Nat.{ℕ, zero, suc, ◌^◌, ◌<◌}
use mathlib.Core.Path.{◌≡◌, refl, sym, ap, ◌∙◌, subst}
use mathlib.Core.Bool.{Bool, true, false, cond, not, ◌&&◌}
use mathlib.Core.List.{List, [], ◌∷◌, ◌++◌, map, map-map}
use native.Mathlib.Nat.{pow-zero}
use native.Mathlib.Omega.{arith}
use lib.Dec.{eqb, ltb}
use lib.ListN.{length, get_or}
use Rattle.theory.specs.Lists.{all, select, up_from, up_to}
use Rattle.theory.specs.Vectors.{AllBelow}
use Rattle.theory.specs.Syntax.{Kind, function, is_function, is_predicate, is_from_sheet, Symbol, Signature, symbol_at}
use Rattle.theory.specs.Cells.{cell_count, cell, value_count, is_interpretation}
use Rattle.theory.proofs.Tests.{and_left, and_right, and-join, eqb-true, ltb-true, ltb-of-<}
use Rattle.theory.proofs.Lists.{all_map, all-imply, all-select, up_to-all, map-all, map-cong}
use Rattle.theory.proofs.Vectors.{all→AllBelow}
use Rattle.theory.proofs.Declared.{Declared, function-kind, predicate-kind}
use Rattle.renumbering.specs.Rearrangements.{becomes}
use Rattle.renumbering.specs.Renumbering.{new_value, renumbered}
use Rattle.symmetry.specs.ConstantClauses.{is_constant, constant_places}
use Rattle.symmetry.specs.Obeying.{constant_values, constants_first, functions_first}
use Rattle.renumbering.proofs.Rearrangements.{Rearranged}
use Rattle.renumbering.proofs.Renumbering.{value_in, tables_after}

-- the place has a declared constant
abbrev pub constant_at : Signature → ℕ → Bool
constant_at g i = ltb i (length g) && is_constant (symbol_at g i)

pub constant_at→ : (g : Signature) (i : ℕ) → constant_at g i ≡ true → Declared g i function 0
constant_at→ g i h =
    let a : Bool = ltb i (length g) in
    let c : is_constant (symbol_at g i) ≡ true = and_right a (is_constant (symbol_at g i)) h in
    let k : Bool = is_function (symbol_at g i).kind in
    let n : Bool = eqb (symbol_at g i).arity 0 in
    let b : (k && n) ≡ true = and_left (k && n) (is_from_sheet (symbol_at g i).origin) c in
    record {
      below = ltb-true i (length g) (and_left a (is_constant (symbol_at g i)) h);
      kind = function-kind (symbol_at g i).kind (and_left k n b);
      arity = sym (eqb-true (symbol_at g i).arity 0 (and_right k n b));
    }

pub constant_places-are : (g : Signature) → all (constant_at g) (constant_places g) ≡ true
constant_places-are g =
    all-select (λ i. is_constant (symbol_at g i)) (constant_at g) (up_to (length g))
    ∙ up_to-all (λ i. cond (is_constant (symbol_at g i)) (constant_at g i) true) (length g) (λ i l. go i l (is_constant (symbol_at g i)))
  where
    go : (i : ℕ) → i < length g → (b : Bool) → cond b (ltb i (length g) && b) true ≡ true
    go i l true = and-join (ltb i (length g)) true (ltb-of-< i (length g) l) refl
    go i l false = refl

module _ (s : ℕ) (g : Signature) (vs : List ℕ) where
  pub constants-below : is_interpretation s g vs ≡ true → AllBelow s (constant_values s g vs)
  constants-below h =
      all→AllBelow s (constant_values s g vs)
      (all_map (λ d. ltb d s) (λ c. get_or vs (cell s g c []) 0) (constant_places g)
      ∙ all-imply (constant_at g) (λ c. ltb (get_or vs (cell s g c []) 0) s) (constant_places g)
      (λ c t. let d = constant_at→ g c t in
      ltb-of-< (get_or vs (cell s g c []) 0) s
      (subst (λ (k : Kind). get_or vs (cell s g c []) 0 < value_count s k) d.kind (value_in s g vs h c [] d.below d.arity tt)))
      (constant_places-are g))

  -- renumbering gives each constant the new number of its value
  pub constants-after : (p : List ℕ) → Rearranged s p → constant_values s g (renumbered s g p vs) ≡ map (becomes p) (constant_values s g vs)
  constants-after p r =
      map-all (constant_at g) (λ c. get_or (renumbered s g p vs) (cell s g c []) 0) (λ c. becomes p (get_or vs (cell s g c []) 0)) (constant_places g) (constant_places-are g)
      (λ c t. let d = constant_at→ g c t in
      tables_after s g p r vs c [] d.below d.arity tt ∙ ap (λ (k : Kind). new_value k p (get_or vs (cell s g c []) 0)) d.kind)
      ∙ sym (map-map (becomes p) (λ c. get_or vs (cell s g c []) 0) (constant_places g))

-- one symbol in front
select-shift : (q : ℕ → Bool) (a n : ℕ) → select q (up_from (suc a) n) ≡ map suc (select (λ i. q (suc i)) (up_from a n))
select-shift q a zero = refl
select-shift q a (suc n) = go (q (suc a)) (select-shift q (suc a) n)
  where
    go : (b : Bool) → select q (up_from (suc (suc a)) n) ≡ map suc (select (λ i. q (suc i)) (up_from (suc a) n))
        → cond b (suc a ∷ select q (up_from (suc (suc a)) n)) (select q (up_from (suc (suc a)) n))
        ≡ map suc (cond b (a ∷ select (λ i. q (suc i)) (up_from (suc a) n)) (select (λ i. q (suc i)) (up_from (suc a) n)))
    go true ih = ap (λ l. suc a ∷ l) ih
    go false ih = ih

pub constant_places-cons : (f : Symbol) (g : Signature) → constant_places (f ∷ g) ≡ cond (is_constant f) (0 ∷ map suc (constant_places g)) (map suc (constant_places g))
constant_places-cons f g = ap (λ (l : List ℕ). cond (is_constant f) (0 ∷ l) l) (select-shift (λ i. is_constant (symbol_at (f ∷ g) i)) 0 (length g))

pub no-constants : (g : Signature) → all (λ (h : Symbol). not (is_constant h)) g ≡ true → constant_places g ≡ []
no-constants [] h = refl
no-constants (f ∷ g) h = go (is_constant f) (and_left (not (is_constant f)) (all (λ (h : Symbol). not (is_constant h)) g) h) (constant_places-cons f g) (no-constants g (and_right (not (is_constant f)) (all (λ (h : Symbol). not (is_constant h)) g) h))
  where
    go : (b : Bool) → not b ≡ true → constant_places (f ∷ g) ≡ cond b (0 ∷ map suc (constant_places g)) (map suc (constant_places g)) → constant_places g ≡ [] → constant_places (f ∷ g) ≡ []
    go true k e ih = cc
    go false k e ih = e ∙ ap (map suc) ih

-- no constant stands after another symbol
abbrev constants_in_front : Signature → Bool
constants_in_front [] = true
constants_in_front (f ∷ g) = cond (is_constant f) (constants_in_front g) (all (λ (h : Symbol). not (is_constant h)) g)

predicate-constant : (h : Symbol) → is_predicate h.kind ≡ true → not (is_constant h) ≡ true
predicate-constant h k = ap (λ (b : Kind). not (is_function b && eqb h.arity 0 && is_from_sheet h.origin)) (predicate-kind h.kind k)

in-front : (g : Signature) → functions_first g ≡ true → constants_first g ≡ true → constants_in_front g ≡ true
in-front [] a b = refl
in-front (f ∷ g) a b = go (is_function f.kind) (eqb f.arity 0) (is_from_sheet f.origin) a b (λ x y. in-front g x y)
  where
    go : (k n o : Bool) → cond k (functions_first g) (all (λ (h : Symbol). is_predicate h.kind) g) ≡ true
        → cond (k && not (k && n && o)) (all (λ (h : Symbol). not (is_constant h)) g) (constants_first g) ≡ true → (functions_first g ≡ true → constants_first g ≡ true → constants_in_front g ≡ true)
        → cond (k && n && o) (constants_in_front g) (all (λ (h : Symbol). not (is_constant h)) g) ≡ true
    go true true true x y ih = ih x y
    go true true false x y ih = y
    go true false o x y ih = y
    go false n o x y ih = all-imply (λ (h : Symbol). is_predicate h.kind) (λ (h : Symbol). not (is_constant h)) g predicate-constant x

pub functions-first : (fs ps : Signature) → all (λ (f : Symbol). is_function f.kind) fs ≡ true → all (λ (f : Symbol). is_predicate f.kind) ps ≡ true → functions_first (fs ++ ps) ≡ true
functions-first [] ps a b = start ps b
  where
    start : (ps : Signature) → all (λ (f : Symbol). is_predicate f.kind) ps ≡ true → functions_first ps ≡ true
    start [] b = refl
    start (f ∷ g) b =
        let r : Bool = all (λ (h : Symbol). is_predicate h.kind) g in
        ap (λ (k : Kind). cond (is_function k) (functions_first g) r) (predicate-kind f.kind (and_left (is_predicate f.kind) r b)) ∙ and_right (is_predicate f.kind) r b
functions-first (f ∷ fs) ps a b =
    let r : Bool = all (λ (f : Symbol). is_function f.kind) fs in
    ap (λ (k : Bool). cond k (functions_first (fs ++ ps)) (all (λ (h : Symbol). is_predicate h.kind) (fs ++ ps))) (and_left (is_function f.kind) r a)
    ∙ functions-first fs ps (and_right (is_function f.kind) r a) b

-- where constants come first, their values are the first
values-front : (s : ℕ) (g : Signature) (vs : List ℕ) → constants_in_front g ≡ true → length vs ≡ cell_count s g → (us : List ℕ) × (vs ≡ constant_values s g vs ++ us)
values-front s [] vs c l = (vs, refl)
values-front s (f ∷ g) vs c l = go (is_constant f) refl c (constant_places-cons f g) vs l (λ ws a b. values-front s g ws a b)
  where
    one : is_constant f ≡ true → s ^ f.arity ≡ 1
    one k = ap (λ (n : ℕ). s ^ n) (eqb-true f.arity 0 (and_right (is_function f.kind) (eqb f.arity 0) (and_left (is_function f.kind && eqb f.arity 0) (is_from_sheet f.origin) k))) ∙ pow-zero s

    go : (b : Bool) → is_constant f ≡ b → cond b (constants_in_front g) (all (λ (h : Symbol). not (is_constant h)) g) ≡ true
        → constant_places (f ∷ g) ≡ cond b (0 ∷ map suc (constant_places g)) (map suc (constant_places g)) → (vs : List ℕ) → length vs ≡ cell_count s (f ∷ g)
        → ((ws : List ℕ) → constants_in_front g ≡ true → length ws ≡ cell_count s g → (us : List ℕ) × (ws ≡ constant_values s g ws ++ us))
        → (us : List ℕ) × (vs ≡ constant_values s (f ∷ g) vs ++ us)
    go true k t e [] l ih = absurd (omega (arith, one k))
    go true k t e (d ∷ ws) l ih =
        let r = ih ws t (omega (arith, one k)) in
        let same : map (λ c. get_or (d ∷ ws) (cell s (f ∷ g) c []) 0) (map suc (constant_places g)) ≡ constant_values s g ws =
        map-map (λ c. get_or (d ∷ ws) (cell s (f ∷ g) c []) 0) suc (constant_places g)
        ∙ map-cong (λ c. get_or (d ∷ ws) (cell s (f ∷ g) (suc c) []) 0) (λ c. get_or ws (cell s g c []) 0) (constant_places g)
        (λ c. let n : cell s (f ∷ g) (suc c) [] ≡ suc (cell s g c []) = omega (arith, one k) in ap (λ (i : ℕ). get_or (d ∷ ws) i 0) n) in
        let front : constant_values s (f ∷ g) (d ∷ ws) ≡ d ∷ constant_values s g ws = ap (map (λ c. get_or (d ∷ ws) (cell s (f ∷ g) c []) 0)) e ∙ ap (λ (l : List ℕ). d ∷ l) same in
        (r.0, ap (λ (l : List ℕ). d ∷ l) r.1 ∙ ap (λ (l : List ℕ). l ++ r.0) (sym front))
    go false k t e vs l ih = (vs, ap (λ (l : List ℕ). map (λ c. get_or vs (cell s (f ∷ g) c []) 0) l ++ vs) (sym (e ∙ ap (map suc) (no-constants g t))))

pub constants-front : (s : ℕ) (g : Signature) (vs : List ℕ) → functions_first g ≡ true → constants_first g ≡ true → length vs ≡ cell_count s g → (us : List ℕ) × (vs ≡ constant_values s g vs ++ us)
constants-front s g vs a b l = values-front s g vs (in-front g a b) l
