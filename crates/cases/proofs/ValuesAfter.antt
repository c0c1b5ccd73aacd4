-- The values of a line, read one after the other into the cells.
use Prim.Native.Nat.{ℕ, suc, ◌+◌, ◌*◌, ◌-◌, ◌≤◌, ◌<◌}
use mathlib.Core.Path.{◌≡◌, refl, sym, ap, ◌∙◌}
use mathlib.Core.Bool.{Bool, true, false, cond, ◌&&◌}
use mathlib.Core.Option.{Option, none, some}
use mathlib.Core.List.{List, [], ◌∷◌, ◌++◌}
use native.Mathlib.Omega.{arith}
use borrow.Author.Tests.{ne_eqb, eq-eqb}
use lib.Dec.{eqb, leb, ltb}
use lib.ListN.{length, get_or, set, take, drop, length-drop, length-set, drop_of_length-le}
use lib.Seq.{drop-cons, drop-set-add, take-suc-set, take-set-le}
use Rattle.theory.specs.Lists.{prefix}
use Rattle.theory.specs.Bytes.{space}
use Rattle.theory.specs.Syntax.{Kind}
use Rattle.theory.specs.Cells.{value_count}
use Rattle.theory.proofs.Tests.{leb-true, and_left}
use Rattle.theory.specs.CaseText.{least_byte, equals_sign, is_value_byte}
use Rattle.cases.specs.Values.{separator_at, values_after}
use Rattle.cases.specs.Reading.{ValuesRead}

-- the values vs in front of a list, if there is one
abbrev pub prefix_all : List ℕ → Option (List ℕ) → Option (List ℕ)
prefix_all [] o = o
prefix_all (v ∷ vs) o = prefix v (prefix_all vs o)

prefix_all-snoc : (vs : List ℕ) (v : ℕ) (o : Option (List ℕ)) → prefix_all (vs ++ (v ∷ [])) o ≡ prefix_all vs (prefix v o)
prefix_all-snoc [] v o = refl
prefix_all-snoc (u ∷ vs) v o = ap (prefix u) (prefix_all-snoc vs v o)

prefix_all-none : (vs : List ℕ) → prefix_all vs none ≡ none
prefix_all-none [] = refl
prefix_all-none (v ∷ vs) = ap (prefix v) (prefix_all-none vs)

prefix_all-some : (vs : List ℕ) → prefix_all vs (some []) ≡ some vs
prefix_all-some [] = refl
prefix_all-some (v ∷ vs) = ap (prefix v) (prefix_all-some vs)

-- two bytes more
drop-pair : (bytes : List ℕ) (i n : ℕ) → length bytes ≡ 2 * n → i < n
    → drop (2 * i) bytes ≡ get_or bytes (2 * i) 0 ∷ (get_or bytes (2 * i + 1) 0 ∷ drop (2 * (i + 1)) bytes)
drop-pair bytes i n e h =
    let p : suc (2 * i) ≡ 2 * i + 1 = omega arith in
    let q : suc (2 * i + 1) ≡ 2 * (i + 1) = omega arith in
    drop-cons bytes (2 * i) 0 (omega arith)
    ∙ ap (λ (j : ℕ). get_or bytes (2 * i) 0 ∷ drop j bytes) p
    ∙ ap (λ (l : List ℕ). get_or bytes (2 * i) 0 ∷ l) (drop-cons bytes (2 * i + 1) 0 (omega arith))
    ∙ ap (λ (j : ℕ). get_or bytes (2 * i) 0 ∷ (get_or bytes (2 * i + 1) 0 ∷ drop j bytes)) q

-- i values are in the cells, and what is left gives what the whole gives
pub record Stored (s : ℕ) (k : Kind) (n : ℕ) (bytes : List ℕ) (base : ℕ) (cells cells' : List ℕ) (i : ℕ) : Type 0 where
  pub within : i ≤ n
  pub held : length cells' ≡ length cells
  pub rest : values_after s k equals_sign bytes ≡ prefix_all (take i (drop base cells')) (values_after s k (separator_at i) (drop (2 * i) bytes))
  pub front : take base cells' ≡ take base cells

pub none-stored : (s : ℕ) (k : Kind) (n : ℕ) (bytes : List ℕ) (base : ℕ) (cells : List ℕ) → Stored s k n bytes base cells cells 0
none-stored s k n bytes base cells = record { within = omega arith; held = refl; rest = refl; front = refl }

module _ {s : ℕ} {k : Kind} {n : ℕ} {bytes : List ℕ} {base : ℕ} {cells cells' : List ℕ} {i : ℕ} (t : Stored s k n bytes base cells cells' i) (e : length bytes ≡ 2 * n) where
  pub all-stored : i ≡ n → ValuesRead s k n bytes base cells cells' true
  all-stored z =
      let d : drop (2 * i) bytes ≡ [] = drop_of_length-le bytes {i = 2 * i} (omega arith) in
      record {
        values = t.rest ∙ ap (λ (l : List ℕ). prefix_all (take i (drop base cells')) (values_after s k (separator_at i) l)) d ∙ prefix_all-some (take i (drop base cells')) ∙ ap (λ (j : ℕ). some (take j (drop base cells'))) z;
        front = t.front;
      }

  module _ (h : i < n) where
    next : (b : Bool) → (eqb (get_or bytes (2 * i) 0) (separator_at i) && is_value_byte s k (get_or bytes (2 * i + 1) 0)) ≡ b
        → values_after s k equals_sign bytes ≡ prefix_all (take i (drop base cells')) (cond b (prefix (get_or bytes (2 * i + 1) 0 - least_byte k) (values_after s k space (drop (2 * (i + 1)) bytes))) none)
    next b q =
        t.rest
        ∙ ap (λ (l : List ℕ). prefix_all (take i (drop base cells')) (values_after s k (separator_at i) l)) (drop-pair bytes i n e h)
        ∙ ap (λ (b : Bool). prefix_all (take i (drop base cells')) (cond b (prefix (get_or bytes (2 * i + 1) 0 - least_byte k) (values_after s k space (drop (2 * (i + 1)) bytes))) none)) q

    -- a byte that is not as laid out
    not-stored : (eqb (get_or bytes (2 * i) 0) (separator_at i) && is_value_byte s k (get_or bytes (2 * i + 1) 0)) ≡ false → ValuesRead s k n bytes base cells cells' false
    not-stored q = record { values = next false q ∙ prefix_all-none (take i (drop base cells')); front = t.front }

    -- one value more
    one-stored : base + n ≤ length cells → (eqb (get_or bytes (2 * i) 0) (separator_at i) && is_value_byte s k (get_or bytes (2 * i + 1) 0)) ≡ true
        → Stored s k n bytes base cells (set cells' (base + i) (get_or bytes (2 * i + 1) 0 - least_byte k)) (i + 1)
    one-stored room q =
        let v : ℕ = get_or bytes (2 * i + 1) 0 - least_byte k in
        let o : Option (List ℕ) = values_after s k space (drop (2 * (i + 1)) bytes) in
        let z : i + 1 ≡ suc i = omega arith in
        let stored : take (i + 1) (drop base (set cells' (base + i) v)) ≡ take i (drop base cells') ++ (v ∷ []) =
        ap (λ (j : ℕ). take j (drop base (set cells' (base + i) v))) z
        ∙ ap (take (suc i)) (drop-set-add base cells' i v)
        ∙ take-suc-set (drop base cells') i v (omega (arith, length-drop base cells', t.held)) in
        record {
          within = omega arith;
          held = length-set cells' (base + i) v ∙ t.held;
          rest =
              next true q
              ∙ sym (prefix_all-snoc (take i (drop base cells')) v o)
              ∙ ap (λ (l : List ℕ). prefix_all l o) (sym stored)
              ∙ ap (λ (c : ℕ). prefix_all (take (i + 1) (drop base (set cells' (base + i) v))) (values_after s k c (drop (2 * (i + 1)) bytes))) (sym later);
          front = take-set-le base cells' (base + i) v (omega arith) ∙ t.front;
        }
      where
        later : separator_at (i + 1) ≡ space
        later = simp (ne_eqb (i + 1) 0 (λ e. omega arith))

    -- the two tests of a value's bytes, as the code makes them
    module _ (c : ℕ) (sep : c ≡ separator_at i) where
      pub separator-fails : (get_or bytes (2 * i) 0 ≡ c → ⊥) → ValuesRead s k n bytes base cells cells' false
      separator-fails d = not-stored (ap (λ (b : Bool). b && is_value_byte s k (get_or bytes (2 * i + 1) 0)) (ne_eqb (get_or bytes (2 * i) 0) (separator_at i) (λ z. d (z ∙ sym sep))))

      module _ (here : get_or bytes (2 * i) 0 ≡ c) (least most : ℕ) (l : least ≡ least_byte k) (m : most ≡ value_count s k) (r : Bool)
          (v : r ≡ (leb least (get_or bytes (2 * i + 1) 0) && ltb (get_or bytes (2 * i + 1) 0 - least) most)) where
        tested : (eqb (get_or bytes (2 * i) 0) (separator_at i) && is_value_byte s k (get_or bytes (2 * i + 1) 0)) ≡ r
        tested =
            let y : ℕ = get_or bytes (2 * i + 1) 0 in
            ap (λ (b : Bool). b && is_value_byte s k y) (eq-eqb (get_or bytes (2 * i) 0) (separator_at i) (here ∙ sep))
            ∙ sym (v ∙ ap (λ (n : ℕ). leb n y && ltb (y - n) most) l ∙ ap (λ (n : ℕ). leb (least_byte k) y && ltb (y - least_byte k) n) m)

        pub value-fails : r ≡ false → ValuesRead s k n bytes base cells cells' false
        value-fails z = not-stored (tested ∙ z)

        pub value-stored : base + n ≤ length cells → r ≡ true → Stored s k n bytes base cells (set cells' (base + i) (get_or bytes (2 * i + 1) 0 - least)) (i + 1)
        value-stored room z = rw l (one-stored room (tested ∙ z))

-- a byte that is a value is at least the least
pub least-at-most : (y least most : ℕ) (r : Bool) → r ≡ (leb least y && ltb (y - least) most) → r ≡ true → least ≤ y
least-at-most y least most r v z = leb-true least y (and_left (leb least y) (ltb (y - least) most) (sym v ∙ z))
