-- The form of a literal says what the literal is under each choice of values.
use Prim.Native.Nat.{ℕ, ◌+◌, ◌*◌, ◌≤◌, ◌<◌}
use mathlib.Core.Path.{◌≡◌, refl, sym, ap, ap₂, subst, ◌∙◌}
use mathlib.Core.Bool.{Bool, true, false, cond}
use mathlib.Core.Option.{Option, none, some}
use mathlib.Core.List.{List, [], ◌∷◌, map}
use native.Mathlib.Nat.{mul_assoc, mul_comm, zero-mul}
use native.Mathlib.Omega.{arith}
use lib.Dec.{ltb}
use lib.ListN.{length, get_or, take}
use lib.Seq.{get_or-take, length-take-le}
use Rattle.theory.specs.Lists.{all, prefix}
use Rattle.theory.specs.Vectors.{rank}
use Rattle.theory.specs.Syntax.{function, predicate, Kind, Signature, symbol_at}
use Rattle.theory.specs.Flattening.{FlatVariable, new}
use Rattle.theory.specs.Lifted.{scoped, flat_atom_ok, flat_atom_scoped}
use Rattle.theory.specs.Propositional.{PropLiteral, PropClause, width, prop_base, prop_variable}
use Rattle.theory.specs.Instances.{flat_value, variable, ground, add_literal}
use Rattle.theory.proofs.Tests.{and_left, and_right, ltb-true}
use Rattle.theory.proofs.Lists.{all_map, all_get_d, map-take}
use Rattle.theory.proofs.Declared.{Declared, function_of→, predicate_of→}
use Rattle.shallow.specs.declared.literals.Shape.{Shape}
use Rattle.shallow.specs.declared.literals.Shape.TheVariants.{Predicate, FunctionResult, VariableEquality}
use Rattle.shallow.specs.declared.literals.Literal.{Literal}
use Rattle.shallow.specs.Literals.{three, atom_with}
use Rattle.shallow.proofs.Written.{arity-small}
use Rattle.valuations.specs.declared.numbering.Numbering.{Numbering}
use Rattle.valuations.proofs.Blocks.{prop_base-within}
use Rattle.stream.specs.Literals.{literal_of}
use Rattle.stream.proofs.Codes.{literal_of-code}
use Rattle.valuations.specs.Numbers.{max_prop_vars}
use Rattle.syntax.specs.Signatures.{max_in_all}
use Rattle.forms.specs.LinearForms.{linear_form, code_at, Safe, Means, LiteralOver, literal_over}
use Rattle.forms.proofs.Weights.{weight-small, place-below, products-rank, coefficient-small}

module _ (k : ℕ) (v : List ℕ) where
  -- values past those of the variables do not count
  value_taken : (i : ℕ) → i < k → flat_value [] (take k v) (new i) ≡ get_or v i 0
  value_taken i h = get_or-take k v i 0 h

  values-taken : (ys : List ℕ) → all (scoped [] k) (map new ys) ≡ true → map (flat_value [] (take k v)) (map new ys) ≡ map (λ (i : ℕ). get_or v i 0) ys
  values-taken [] h = refl
  values-taken (y ∷ ys) h =
      ap₂ (λ (d : ℕ) (ds : List ℕ). d ∷ ds)
      (value_taken y (ltb-true y k (and_left (ltb y k) (all (scoped [] k) (map new ys)) h)))
      (values-taken ys (and_right (ltb y k) (all (scoped [] k) (map new ys)) h))

-- an argument that is there is below the number of variables
argument-below : (k a : ℕ) (xs : List ℕ) → all (scoped [] k) (map new (take a xs)) ≡ true → (j : ℕ) → j < a → a ≤ length xs → get_or xs j 0 < k
argument-below k a xs h j l le =
    let e : all (λ (i : ℕ). ltb i k) (take a xs) ≡ true = sym (all_map (scoped [] k) new (take a xs)) ∙ h in
    let t : ltb (get_or (take a xs) j 0) k ≡ true = all_get_d (λ (i : ℕ). ltb i k) (take a xs) j e (omega (arith, length-take-le a xs le)) in
    omega (arith, ltb-true (get_or (take a xs) j 0) k t, get_or-take a xs j 0 l)

-- a literal in front of the rest of an instance
added : (b : Bool) (n u : ℕ) (r : Option PropClause) → literal_of u ≡ record { positive = b; number = n } → add_literal b (variable n) r ≡ prefix (literal_of u) r
added b n u none e = refl
added b n u (some c) e = ap (λ (l : PropLiteral). some (l ∷ c)) (sym e)

module _ (s : ℕ) (g : Signature) (i : ℕ) (b : Bool) (base arity step x y z w d : ℕ) where
  -- the code of a symbol's form is that of its propositional variable
  symbol-literal : (k : ℕ) (v : List ℕ) (val : ℕ) → base ≡ prop_base s g i → arity ≡ (symbol_at g i).arity → arity ≤ 3 → step ≡ 2 * width s (symbol_at g i).kind
      → all (scoped [] k) (map new (take (symbol_at g i).arity (x ∷ y ∷ z ∷ []))) ≡ true → d * get_or v w 0 ≡ 2 * val
      → literal_of (code_at (linear_form b base step arity x y z w d s) v)
      ≡ record { positive = b; number = prop_variable s g i (map (flat_value [] (take k v)) (map new (take (symbol_at g i).arity (x ∷ y ∷ z ∷ [])))) val }
  symbol-literal k v val eb ea le es h ed =
      let f : ℕ → ℕ = λ i. get_or v i 0 in
      let A : ℕ = (symbol_at g i).arity in
      let W : ℕ = width s (symbol_at g i).kind in
      let vs : List ℕ = map (flat_value [] (take k v)) (map new (take A (x ∷ y ∷ z ∷ []))) in
      let R : ℕ = rank s vs in
      let ev : take arity (f x ∷ f y ∷ f z ∷ []) ≡ vs =
      ap (λ (a : ℕ). take a (f x ∷ f y ∷ f z ∷ [])) ea ∙ sym (map-take f A (x ∷ y ∷ z ∷ [])) ∙ sym (values-taken k v (take A (x ∷ y ∷ z ∷ [])) h) in
      let er : step * rank s (take arity (f x ∷ f y ∷ f z ∷ [])) ≡ 2 * (R * W) =
      ap₂ (λ (m : ℕ) (us : List ℕ). m * rank s us) es ev ∙ mul_assoc 2 W R ∙ ap (λ (m : ℕ). 2 * m) (mul_comm W R) in
      let e : code_at (linear_form b base step arity x y z w d s) v ≡ 2 * (prop_base s g i + (R * W + val)) + cond b 0 1 =
      omega (arith, products-rank s arity step x y z f le, er, eb, ed) in
      ap literal_of e ∙ literal_of-code (prop_base s g i + (R * W + val)) b

-- what is known of a literal's symbol
pub record SymbolOver {arities : List ℕ} {n : Numbering} {s : ℕ} {l : Literal} (o : LiteralOver arities n s l) (k : Kind) (i : ℕ) : Type 0 where
  pub held : i < max_in_all
  pub listed : i < length arities
  pub kind : (symbol_at o.signature i).kind ≡ k
  pub arity : get_or arities i 0 ≡ (symbol_at o.signature i).arity
  pub few : get_or arities i 0 ≤ 3
  pub base : get_or n.bases i 0 ≡ prop_base s o.signature i
  pub small : get_or n.bases i 0 ≤ max_prop_vars
  pub scope : all (scoped [] o.variables) (map new (take (symbol_at o.signature i).arity (three l.arguments))) ≡ true

module _ {arities : List ℕ} {n : Numbering} {s : ℕ} {l : Literal} (o : LiteralOver arities n s l) where
  abbrev g : Signature
  g = o.signature

  abbrev k : ℕ
  k = o.variables

  abbrev x : ℕ
  x = get_or l.arguments 0 0

  abbrev y : ℕ
  y = get_or l.arguments 1 0

  abbrev z : ℕ
  z = get_or l.arguments 2 0

  abbrev xs : List ℕ
  xs = x ∷ y ∷ z ∷ []

  symbol-over : (i m : ℕ) (q : Kind) → Declared g i q m → all (scoped [] k) (map new (take (symbol_at g i).arity xs)) ≡ true → SymbolOver o q i
  symbol-over i m q d h =
      let e : get_or arities i 0 ≡ (symbol_at g i).arity = o.table.arity i d.below in
      let eb : get_or n.bases i 0 ≡ prop_base s g i = o.numbering.base i d.below in
      record {
        held = omega (arith, d.below, o.numbering.few);
        listed = omega (arith, d.below, o.table.within);
        kind = d.kind;
        arity = e;
        few = omega (arith, e, arity-small g o.small i);
        base = eb;
        small = omega (arith, eb, prop_base-within s g i, o.numbering.count, o.numbering.small);
        scope = h;
      }

  pub predicate-over : (p : ℕ) → l.shape ≡ Predicate p → SymbolOver o predicate p
  predicate-over p e =
      let ok : flat_atom_ok g (atom_with g xs (Predicate p)) ≡ true = subst (λ (h : Shape). flat_atom_ok g (atom_with g xs h) ≡ true) e o.ok in
      let scope : flat_atom_scoped [] k (atom_with g xs (Predicate p)) ≡ true = subst (λ (h : Shape). flat_atom_scoped [] k (atom_with g xs h) ≡ true) e o.scope in
      let ys : List FlatVariable = map new (take (symbol_at g p).arity xs) in
      symbol-over p (length ys) predicate (predicate_of→ g p (length ys) ok) scope

  result-scope : (f r : ℕ) → l.shape ≡ FunctionResult f r → flat_atom_scoped [] k (atom_with g xs (FunctionResult f r)) ≡ true
  result-scope f r e = subst (λ (h : Shape). flat_atom_scoped [] k (atom_with g xs h) ≡ true) e o.scope

  pub function-over : (f r : ℕ) → l.shape ≡ FunctionResult f r → SymbolOver o function f
  function-over f r e =
      let ok : flat_atom_ok g (atom_with g xs (FunctionResult f r)) ≡ true = subst (λ (h : Shape). flat_atom_ok g (atom_with g xs h) ≡ true) e o.ok in
      let ys : List FlatVariable = map new (take (symbol_at g f).arity xs) in
      symbol-over f (length ys) function (function_of→ g f (length ys) ok) (and_left (all (scoped [] k) ys) (scoped [] k (new r)) (result-scope f r e))

  result-below : (f r : ℕ) → l.shape ≡ FunctionResult f r → r < k
  result-below f r e =
      let ys : List FlatVariable = map new (take (symbol_at g f).arity xs) in
      ltb-true r k (and_right (all (scoped [] k) ys) (scoped [] k (new r)) (result-scope f r e))

  pub predicate-means : (p : ℕ) → l.shape ≡ Predicate p → Means s g k (literal_over o) (linear_form l.sign (get_or n.bases p 0) 2 (get_or arities p 0) x y z 0 0 s)
  predicate-means p e v r =
      let q = predicate-over p e in
      let es : 2 ≡ 2 * width s (symbol_at g p).kind = ap (λ (h : Kind). 2 * width s h) (sym q.kind) in
      let F : List ℕ = linear_form l.sign (get_or n.bases p 0) 2 (get_or arities p 0) x y z 0 0 s in
      let m : ℕ = prop_variable s g p (map (flat_value [] (take k v)) (map new (take (symbol_at g p).arity xs))) 0 in
      ap (λ (h : Shape). add_literal l.sign (ground s g (flat_value [] (take k v)) (atom_with g xs h)) r) e
      ∙ added l.sign m (code_at F v) r
      (symbol-literal s g p l.sign (get_or n.bases p 0) (get_or arities p 0) 2 x y z 0 0 k v 0 q.base q.arity q.few es q.scope (zero-mul (get_or v 0 0)))

  pub function-means : (f t : ℕ) → l.shape ≡ FunctionResult f t → Means s g k (literal_over o) (linear_form l.sign (get_or n.bases f 0) (2 * s) (get_or arities f 0) x y z t 2 s)
  function-means f t e v r =
      let q = function-over f t e in
      let es : 2 * s ≡ 2 * width s (symbol_at g f).kind = ap (λ (h : Kind). 2 * width s h) (sym q.kind) in
      let F : List ℕ = linear_form l.sign (get_or n.bases f 0) (2 * s) (get_or arities f 0) x y z t 2 s in
      let val : ℕ = flat_value [] (take k v) (new t) in
      let ed : 2 * get_or v t 0 ≡ 2 * val = ap (λ (m : ℕ). 2 * m) (sym (value_taken k v t (result-below f t e))) in
      let m : ℕ = prop_variable s g f (map (flat_value [] (take k v)) (map new (take (symbol_at g f).arity xs))) val in
      ap (λ (h : Shape). add_literal l.sign (ground s g (flat_value [] (take k v)) (atom_with g xs h)) r) e
      ∙ added l.sign m (code_at F v) r
      (symbol-literal s g f l.sign (get_or n.bases f 0) (get_or arities f 0) (2 * s) x y z t 2 k v val q.base q.arity q.few es q.scope ed)

  equality-scope : (t u : ℕ) → l.shape ≡ VariableEquality t u → (t < k) × (u < k)
  equality-scope t u e =
      let scope : flat_atom_scoped [] k (atom_with g xs (VariableEquality t u)) ≡ true = subst (λ (h : Shape). flat_atom_scoped [] k (atom_with g xs h) ≡ true) e o.scope in
      (ltb-true t k (and_left (ltb t k) (ltb u k) scope), ltb-true u k (and_right (ltb t k) (ltb u k) scope))

  -- and it is safe
  linear-safe : (q : Kind) (i : ℕ) → SymbolOver o q i → (b : Bool) (step w d : ℕ) → step ≤ 16 → w < 10 → d ≤ 8192 → Safe (linear_form b (get_or n.bases i 0) step (get_or arities i 0) x y z w d s)
  linear-safe q i h b step w d hs hw hd =
      let a : ℕ = get_or arities i 0 in
      let below : (j : ℕ) → j < 3 → j < a → get_or xs j 0 < 10 =
      λ j l₁ l₂. omega (arith, argument-below k (symbol_at g i).arity xs h.scope j (omega (arith, h.arity)) (omega (arith, h.arity, h.few)), o.few) in
      record {
        x = place-below a 0 x (below 0 (omega arith));
        y = place-below a 1 y (below 1 (omega arith));
        z = place-below a 2 z (below 2 (omega arith));
        w = hw;
        base = bounded b;
        a = coefficient-small step _ hs (weight-small s a 0 o.size h.few);
        b = coefficient-small step _ hs (weight-small s a 1 o.size h.few);
        c = coefficient-small step _ hs (weight-small s a 2 o.size h.few);
        d = hd;
      }
    where
      bounded : (b : Bool) → 2 * get_or n.bases i 0 + cond b 0 1 < 1048576
      bounded true = omega (arith, h.small)
      bounded false = omega (arith, h.small)

  pub predicate-safe : (p : ℕ) → l.shape ≡ Predicate p → Safe (linear_form l.sign (get_or n.bases p 0) 2 (get_or arities p 0) x y z 0 0 s)
  predicate-safe p e = linear-safe predicate p (predicate-over p e) l.sign 2 0 0 (omega arith) (omega arith) (omega arith)

  pub function-safe : (f t : ℕ) → l.shape ≡ FunctionResult f t → Safe (linear_form l.sign (get_or n.bases f 0) (2 * s) (get_or arities f 0) x y z t 2 s)
  function-safe f t e =
      linear-safe function f (function-over f t e) l.sign (2 * s) t 2 (omega (arith, o.size)) (omega (arith, result-below f t e, o.few)) (omega arith)
