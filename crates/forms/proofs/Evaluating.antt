-- An instance written form by form.
use Prim.Native.Nat.{ℕ, suc, ◌+◌, ◌-◌, ◌*◌, ◌≤◌, ◌<◌}
use mathlib.Core.Path.{◌≡◌, refl, sym, ap, ap₂, subst, ◌∙◌}
use mathlib.Core.Logic.{◌≢◌}
use mathlib.Core.Bool.{Bool, true, false, cond, beq}
use mathlib.Core.Option.{Option, none, some}
use mathlib.Core.List.{List, [], ◌∷◌, ◌++◌, map-append}
use native.Mathlib.Nat.{add-zero}
use native.Mathlib.Omega.{arith}
use lib.Dec.{eqb}
use lib.ListN.{length, get_or, take, drop, set}
use lib.Seq.{get_or-take, get_or-drop, drop-drop, take-suc-set}
use Rattle.theory.specs.Lists.{prefix}
use Rattle.theory.specs.Propositional.{PropLiteral, PropClause}
use Rattle.theory.specs.Instances.{kept}
use Rattle.theory.proofs.Tests.{eqb-of-≡, eqb-false}
use Rattle.stream.specs.Literals.{literal_of, prop_clause_of}
use Rattle.forms.specs.LinearForms.{code_at, is_true_at, add_form, form_at, form_instance, Safe, AllSafe}

-- number j of the form at a place
pub field : (fs : List ℕ) (at j : ℕ) → j < 10 → get_or (form_at fs at) j 0 ≡ get_or fs (at + j) 0
field fs at j h = get_or-take 10 (drop at fs) j 0 h ∙ get_or-drop at fs j 0

pub kind-field : (fs : List ℕ) (at : ℕ) → get_or (form_at fs at) 0 0 ≡ get_or fs at 0
kind-field fs at = field fs at 0 (omega arith) ∙ ap (λ (k : ℕ). get_or fs k 0) (add-zero at)

-- a place and the coefficient after it, where they are safe
pub place-safe : (fs : List ℕ) (at j : ℕ) → j < 10 → get_or (form_at fs at) j 0 < 10 → get_or fs (at + j) 0 < 10
place-safe fs at j h l = omega (arith, field fs at j h, l)

pub coefficient-safe : (fs : List ℕ) (at j : ℕ) → suc j < 10 → get_or (form_at fs at) (suc j) 0 ≤ 8192 → get_or fs (at + j + 1) 0 ≤ 8192
coefficient-safe fs at j h l =
    let n : at + suc j ≡ at + j + 1 = omega arith in
    omega (arith, field fs at (suc j) h, ap (λ (m : ℕ). get_or fs m 0) n, l)

-- the truth of an equality by its numbers
pub truth-made : (fs : List ℕ) (at : ℕ) (v : List ℕ) (t : Bool) → eqb (get_or fs at 0) 1 ≡ t → is_true_at (form_at fs at) v ≡ beq t (eqb (get_or v (get_or fs (at + 2) 0) 0) (get_or v (get_or fs (at + 4) 0) 0))
truth-made fs at v t e =
    let k : eqb (get_or (form_at fs at) 0 0) 1 ≡ t = ap (λ (n : ℕ). eqb n 1) (kind-field fs at) ∙ e in
    ap (λ (b : Bool). beq b (eqb (get_or v (get_or (form_at fs at) 2 0) 0) (get_or v (get_or (form_at fs at) 4 0) 0))) k
    ∙ ap₂ (λ (m n : ℕ). beq t (eqb (get_or v m 0) (get_or v n 0))) (field fs at 2 (omega arith)) (field fs at 4 (omega arith))

-- literals in front of the rest of an instance
abbrev prefixed : PropClause → Option PropClause → Option PropClause
prefixed [] r = r
prefixed (l ∷ ls) r = prefix l (prefixed ls r)

prefixed-all : (ls : PropClause) → prefixed ls (some []) ≡ some ls
prefixed-all [] = refl
prefixed-all (l ∷ ls) = ap (prefix l) (prefixed-all ls)

prefixed-none : (ls : PropClause) → prefixed ls none ≡ none
prefixed-none [] = refl
prefixed-none (l ∷ ls) = ap (prefix l) (prefixed-none ls)

prefixed-more : (ls : PropClause) (l : PropLiteral) (r : Option PropClause) → prefixed ls (prefix l r) ≡ prefixed (ls ++ (l ∷ [])) r
prefixed-more [] l r = refl
prefixed-more (k ∷ ls) l r = ap (prefix k) (prefixed-more ls l r)

-- the codes of the literals before `at` are written, and so many forms are left
pub record Evaluated (v : List ℕ) (count : ℕ) (fs codes : List ℕ) (written at left : ℕ) : Type 0 where
  pub room : at + left * 10 ≤ length fs
  pub few : written + left ≤ count
  pub safe : AllSafe left (drop at fs)
  pub rest : form_instance v count fs ≡ prefixed (prop_clause_of (take written codes)) (form_instance v left (drop at fs))

module _ (v : List ℕ) (count : ℕ) (fs codes : List ℕ) (written at left : ℕ) (p : Evaluated v count fs codes written at (suc left)) where
  pub first-safe : Safe (form_at fs at)
  first-safe = p.safe.0

  behind : drop 10 (drop at fs) ≡ drop (at + 10) fs
  behind = drop-drop 10 at fs

  safe-behind : AllSafe left (drop (at + 10) fs)
  safe-behind = subst (AllSafe left) behind p.safe.1

  -- what the next form adds
  next : (t q : Bool) → eqb (get_or (form_at fs at) 0 0) 0 ≡ t → is_true_at (form_at fs at) v ≡ q
      → form_instance v count fs
      ≡ prefixed (prop_clause_of (take written codes)) (cond t (prefix (literal_of (code_at (form_at fs at) v)) (form_instance v left (drop (at + 10) fs))) (cond q none (form_instance v left (drop (at + 10) fs))))
  next t q e d =
      p.rest
      ∙ ap (λ (l : List ℕ). prefixed (prop_clause_of (take written codes)) (add_form (form_at fs at) v (form_instance v left l))) behind
      ∙ ap₂ (λ (t q : Bool). prefixed (prop_clause_of (take written codes)) (cond t (prefix (literal_of (code_at (form_at fs at) v)) (form_instance v left (drop (at + 10) fs))) (cond q none (form_instance v left (drop (at + 10) fs))))) e d

  -- a code
  pub one_written : (u : ℕ) → written < length codes → get_or fs at 0 ≡ 0 → u ≡ code_at (form_at fs at) v → Evaluated v count fs (set codes written u) (suc written) (at + 10) left
  one_written u h e c =
      let ls : PropClause = prop_clause_of (take written codes) in
      let r : Option PropClause = form_instance v left (drop (at + 10) fs) in
      let w : prop_clause_of (take (suc written) (set codes written u)) ≡ ls ++ (literal_of u ∷ []) = ap prop_clause_of (take-suc-set codes written u h) ∙ map-append literal_of (take written codes) (u ∷ []) in
      record {
        room = omega (arith, p.room);
        few = omega (arith, p.few);
        safe = safe-behind;
        rest =
            next true (is_true_at (form_at fs at) v) (eqb-of-≡ (get_or (form_at fs at) 0 0) 0 (kind-field fs at ∙ e)) refl
            ∙ ap (λ (u : ℕ). prefixed ls (prefix (literal_of u) r)) (sym c)
            ∙ prefixed-more ls (literal_of u) r
            ∙ ap (λ (ls : PropClause). prefixed ls r) (sym w);
      }

  is-equality : get_or fs at 0 ≢ 0 → eqb (get_or (form_at fs at) 0 0) 0 ≡ false
  is-equality h = eqb-false (get_or (form_at fs at) 0 0) 0 (λ e. h (sym (kind-field fs at) ∙ e))

  -- a false equality
  pub one-left-out : get_or fs at 0 ≢ 0 → is_true_at (form_at fs at) v ≡ false → Evaluated v count fs codes written (at + 10) left
  one-left-out h e =
      record {
        room = omega (arith, p.room);
        few = omega (arith, p.few);
        safe = safe-behind;
        rest = next false false (is-equality h) e;
      }

  -- a true equality
  pub dropped : get_or fs at 0 ≢ 0 → is_true_at (form_at fs at) v ≡ true → kept (form_instance v count fs) ≡ []
  dropped h e = ap kept (next false true (is-equality h) e ∙ prefixed-none (prop_clause_of (take written codes)))

-- The first i of the forms are evaluated.
abbrev pub FirstEvaluated : List ℕ → ℕ → List ℕ → List ℕ → ℕ → ℕ → Type 0
FirstEvaluated v count fs codes written i = Evaluated v count fs codes written (i * 10) (count - i)

module _ (v : List ℕ) (count : ℕ) (fs codes : List ℕ) (written i : ℕ) (p : FirstEvaluated v count fs codes written i) where
  module _ (more : i < count) where
    one_of : Evaluated v count fs codes written (i * 10) (suc (count - (i + 1)))
    one_of = let e : count - i ≡ suc (count - (i + 1)) = omega arith in subst (Evaluated v count fs codes written (i * 10)) e p

    pub safe-here : Safe (form_at fs (i * 10))
    safe-here = first-safe v count fs codes written (i * 10) (count - (i + 1)) one_of

    place : i * 10 + 10 ≡ (i + 1) * 10
    place = omega arith

    pub written_on : (u : ℕ) → written < length codes → get_or fs (i * 10) 0 ≡ 0 → u ≡ code_at (form_at fs (i * 10)) v → FirstEvaluated v count fs (set codes written u) (written + 1) (i + 1)
    written_on u h e c =
        let n : suc written ≡ written + 1 = omega arith in
        rw (← place, ← n) (one_written v count fs codes written (i * 10) (count - (i + 1)) one_of u h e c)

    pub left-out-on : get_or fs (i * 10) 0 ≢ 0 → is_true_at (form_at fs (i * 10)) v ≡ false → FirstEvaluated v count fs codes written (i + 1)
    left-out-on h e = rw (← place) (one-left-out v count fs codes written (i * 10) (count - (i + 1)) one_of h e)

    pub dropped-here : get_or fs (i * 10) 0 ≢ 0 → is_true_at (form_at fs (i * 10)) v ≡ true → kept (form_instance v count fs) ≡ []
    dropped-here = dropped v count fs codes written (i * 10) (count - (i + 1)) one_of

  -- the whole instance
  pub all-evaluated : count ≤ i → kept (form_instance v count fs) ≡ prop_clause_of (take written codes) ∷ []
  all-evaluated h =
      let e : count - i ≡ 0 = omega arith in
      let q : Evaluated v count fs codes written (i * 10) 0 = subst (Evaluated v count fs codes written (i * 10)) e p in
      ap kept (q.rest ∙ prefixed-all (prop_clause_of (take written codes)))

-- the products of a form and its base make up its code
pub code-made : (fs : List ℕ) (at : ℕ) (v : List ℕ) (b x y z w : ℕ) → b ≡ get_or fs (at + 1) 0
    → x ≡ get_or fs (at + 2 + 1) 0 * get_or v (get_or fs (at + 2) 0) 0
    → y ≡ get_or fs (at + 4 + 1) 0 * get_or v (get_or fs (at + 4) 0) 0
    → z ≡ get_or fs (at + 6 + 1) 0 * get_or v (get_or fs (at + 6) 0) 0
    → w ≡ get_or fs (at + 8 + 1) 0 * get_or v (get_or fs (at + 8) 0) 0
    → b + (x + (y + (z + w))) ≡ code_at (form_at fs at) v
code-made fs at v b x y z w eb ex ey ez ew =
    omega (
      arith,
      eb,
      field fs at 1 (omega arith),
      ex,
      made 2 3 (omega arith) (omega arith) (omega arith),
      ey,
      made 4 5 (omega arith) (omega arith) (omega arith),
      ez,
      made 6 7 (omega arith) (omega arith) (omega arith),
      ew,
      made 8 9 (omega arith) (omega arith) (omega arith),
    )
  where
    made : (j k : ℕ) → j + 1 ≡ k → j < 10 → k < 10 → get_or (form_at fs at) k 0 * get_or v (get_or (form_at fs at) j 0) 0 ≡ get_or fs (at + j + 1) 0 * get_or v (get_or fs (at + j) 0) 0
    made j k e hj hk =
        let n : at + k ≡ at + j + 1 = omega arith in
        ap₂ (λ (c d : ℕ). c * get_or v d 0) (field fs at k hk ∙ ap (λ (m : ℕ). get_or fs m 0) n) (field fs at j hj)
