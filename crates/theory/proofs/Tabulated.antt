-- Cell values made by a rule from symbol and arguments: each cell has the value of its symbol at its arguments, values in range are an interpretation, and cell values with the same tables are equal.
use Prim.Native.Nat.{ℕ, suc, ◌<◌}
use mathlib.Core.Path.{◌≡◌, refl, sym, ap, ◌∙◌}
use mathlib.Core.Bool.{Bool, true}
use mathlib.Core.List.{List, [], ◌∷◌, ◌++◌, map, map-map}
use native.Mathlib.Omega.{arith}
use lib.Dec.{eqb, ltb}
use lib.ListN.{length, get_or, take, drop, length-append, length-map}
use lib.Seq.{ext_get_or, take_at, drop_at}
use Rattle.theory.specs.Lists.{all, concat_map, up_to, same}
use Rattle.theory.specs.Vectors.{vectors, AllBelow}
use Rattle.theory.specs.Syntax.{Symbol, Signature, symbol_at}
use Rattle.theory.specs.Cells.{cell_count, cell, value_count, is_interpretation, tabulated}
use Rattle.theory.proofs.Tests.{and-join, eqb-true, eqb-of-≡, ltb-of-<}
use Rattle.theory.proofs.Lists.{all_map, all-concat_map, all-up_to, up_to-all, length-up_from, map-places, map-concat_map, concat_map-cong, concat_map-shift, same_refl, same_true}
use Rattle.theory.proofs.Vectors.{all-vectors, vectors-all, length-vectors}
use Rattle.theory.proofs.Numbering.{numbering}
use Rattle.theory.proofs.Tables.{interpretation-join, empty-interpretation}

-- blocks of the same lengths one after the other are equal block by block
blocks-equal : (f h : ℕ → List ℕ) (is : List ℕ) → ((i : ℕ) → length (f i) ≡ length (h i)) → concat_map f is ≡ concat_map h is → all (λ i. same (f i) (h i)) is ≡ true
blocks-equal f h [] l e = refl
blocks-equal f h (i ∷ is) l e =
    let a : List ℕ = concat_map f is in
    let b : List ℕ = concat_map h is in
    let n : ℕ = length (h i) in
    let here : f i ≡ h i = sym (take_at (f i) a n (l i)) ∙ ap (take n) e ∙ take_at (h i) b n refl in
    let later : a ≡ b = sym (drop_at (f i) a n (l i)) ∙ ap (drop n) e ∙ drop_at (h i) b n refl in
    and-join (same (f i) (h i)) (all (λ i. same (f i) (h i)) is) (ap (λ (x : List ℕ). same x (h i)) here ∙ same_refl (h i)) (blocks-equal f h is l later)

-- equal images are equal one by one
images-equal : (f h : List ℕ → ℕ) (vs : List (List ℕ)) → map f vs ≡ map h vs → all (λ v. eqb (f v) (h v)) vs ≡ true
images-equal f h [] e = refl
images-equal f h (v ∷ vs) e =
    let p : f v ≡ h v = cc in
    let q : map f vs ≡ map h vs = cc in
    and-join (eqb (f v) (h v)) (all (λ v. eqb (f v) (h v)) vs) (eqb-of-≡ (f v) (h v) p) (images-equal f h vs q)

module _ (s : ℕ) (g : Signature) where
  abbrev arguments : ℕ → List (List ℕ)
  arguments i = vectors s (symbol_at g i).arity

  same-lengths : (t u : ℕ → List ℕ → ℕ) (is : List ℕ) → length (concat_map (λ i. map (t i) (arguments i)) is) ≡ length (concat_map (λ i. map (u i) (arguments i)) is)
  same-lengths t u [] = refl
  same-lengths t u (i ∷ is) =
      let a : List ℕ = concat_map (λ i. map (t i) (arguments i)) is in
      let b : List ℕ = concat_map (λ i. map (u i) (arguments i)) is in
      omega (arith, length-append (map (t i) (arguments i)) a, length-append (map (u i) (arguments i)) b, length-map (arguments i) (t i), length-map (arguments i) (u i), same-lengths t u is)

  pub length-tabulated : (t : ℕ → List ℕ → ℕ) → length (tabulated s g t) ≡ cell_count s g
  unfolding tabulated
  length-tabulated t = same-lengths t (cell s g) (up_to (length g)) ∙ ap length (numbering.cells s g) ∙ length-up_from 0 (cell_count s g)

  -- cell values are the table of themselves
  tabulated-again : (vs : List ℕ) → length vs ≡ cell_count s g → tabulated s g (λ i v. get_or vs (cell s g i v) 0) ≡ vs
  unfolding tabulated
  tabulated-again vs l =
      let h : ℕ → ℕ = λ c. get_or vs c 0 in
      concat_map-cong (λ i. map (λ v. h (cell s g i v)) (arguments i)) (λ i. map h (map (cell s g i) (arguments i))) (up_to (length g))
      (λ i. sym (map-map h (cell s g i) (arguments i)))
      ∙ sym (map-concat_map h (λ i. map (cell s g i) (arguments i)) (up_to (length g)))
      ∙ ap (map h) (numbering.cells s g ∙ ap up_to (sym l))
      ∙ map-places 0 vs

  -- the value of a cell is the one tabulated for its symbol and arguments
  pub tabulated-at : (t : ℕ → List ℕ → ℕ) (i : ℕ) (v : List ℕ) → i < length g → length v ≡ (symbol_at g i).arity → AllBelow s v → get_or (tabulated s g t) (cell s g i v) 0 ≡ t i v
  unfolding tabulated
  tabulated-at t i v l e b =
      let vs : List ℕ = tabulated s g t in
      let u : ℕ → List ℕ → ℕ = λ i v. get_or vs (cell s g i v) 0 in
      let block : map (u i) (arguments i) ≡ map (t i) (arguments i) =
      same_true (map (u i) (arguments i)) (map (t i) (arguments i))
      (all-up_to (λ i. same (map (u i) (arguments i)) (map (t i) (arguments i))) (length g)
      (blocks-equal (λ i. map (u i) (arguments i)) (λ i. map (t i) (arguments i)) (up_to (length g))
      (λ i. length-map (arguments i) (u i) ∙ sym (length-map (arguments i) (t i))) (tabulated-again vs (length-tabulated t))) i l) in
      eqb-true (u i v) (t i v) (all-vectors s (symbol_at g i).arity (λ v. eqb (u i v) (t i v)) (images-equal (u i) (t i) (arguments i) block) v e b)

  -- a test that each symbol's cell passes at all arguments
  each-cell : (q : ℕ → Bool) → ((i : ℕ) (v : List ℕ) → i < length g → length v ≡ (symbol_at g i).arity → AllBelow s v → q (cell s g i v) ≡ true)
      → (c : ℕ) → c < cell_count s g → q c ≡ true
  each-cell q h c lt =
      all-up_to q (cell_count s g)
      (ap (all q) (sym (numbering.cells s g))
      ∙ all-concat_map q (λ i. map (cell s g i) (arguments i)) (up_to (length g))
      ∙ up_to-all (λ i. all q (map (cell s g i) (arguments i))) (length g)
      (λ i l. all_map q (cell s g i) (arguments i) ∙ vectors-all s (symbol_at g i).arity (λ v. q (cell s g i v)) (λ v e b. h i v l e b))) c lt

  -- cell values with the same tables are equal
  pub same_tables : (us vs : List ℕ) → length us ≡ cell_count s g → length vs ≡ cell_count s g
      → ((i : ℕ) (v : List ℕ) → i < length g → length v ≡ (symbol_at g i).arity → AllBelow s v → get_or us (cell s g i v) 0 ≡ get_or vs (cell s g i v) 0) → us ≡ vs
  same_tables us vs l k h =
      ext_get_or 0 us vs (l ∙ sym k)
      (λ c lt. eqb-true (get_or us c 0) (get_or vs c 0)
      (each-cell (λ c. eqb (get_or us c 0) (get_or vs c 0)) (λ i v a e b. eqb-of-≡ (get_or us (cell s g i v) 0) (get_or vs (cell s g i v) 0) (h i v a e b)) c (omega arith)))

-- the first symbol's table, and the others
tabulated-cons : (s : ℕ) (f : Symbol) (g : Signature) (t : ℕ → List ℕ → ℕ) → tabulated s (f ∷ g) t ≡ map (t 0) (vectors s f.arity) ++ tabulated s g (λ i. t (suc i))
unfolding tabulated
tabulated-cons s f g t = ap (λ (l : List ℕ). map (t 0) (vectors s f.arity) ++ l) (concat_map-shift (λ i. map (t i) (vectors s (symbol_at (f ∷ g) i).arity)) 0 (length g))

-- values in range are an interpretation
pub tabulated-is : (s : ℕ) (g : Signature) (t : ℕ → List ℕ → ℕ)
    → ((i : ℕ) (v : List ℕ) → i < length g → length v ≡ (symbol_at g i).arity → AllBelow s v → t i v < value_count s (symbol_at g i).kind) → is_interpretation s g (tabulated s g t) ≡ true
unfolding tabulated
tabulated-is s [] t h = empty-interpretation s
tabulated-is s (f ∷ g) t h =
    let us : List ℕ = map (t 0) (vectors s f.arity) in
    let small : ℕ → Bool = λ d. ltb d (value_count s f.kind) in
    ap (is_interpretation s (f ∷ g)) (tabulated-cons s f g t)
    ∙ interpretation-join s f g us (tabulated s g (λ i. t (suc i)))
    (record {
      counted = length-map (vectors s f.arity) (t 0) ∙ length-vectors s f.arity;
      below = all_map small (t 0) (vectors s f.arity) ∙ vectors-all s f.arity (λ v. small (t 0 v)) (λ v e b. ltb-of-< (t 0 v) (value_count s f.kind) (h 0 v (omega arith) e b));
    })
    (tabulated-is s g (λ i. t (suc i)) (λ i v l e b. h (suc i) v (omega arith) e b))
