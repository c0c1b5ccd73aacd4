-- A symbol's line: its name, and then as many values as its table has cells.
use Prim.Native.Nat.{ℕ, suc, ◌+◌, ◌*◌, ◌-◌, ◌<◌}
use mathlib.Core.Path.{◌≡◌, refl, sym, ap, ◌∙◌}
use mathlib.Core.Bool.{Bool, true, false, cond, ◌&&◌}
use mathlib.Core.Logic.{◌⊎◌, inl, inr, ⊎_elim}
use mathlib.Core.Option.{Option, none, some, some-injective}
use mathlib.Core.List.{List, [], ◌∷◌, ◌++◌, map}
use native.Mathlib.Omega.{arith}
use borrow.Author.Tests.{ne_eqb, eq-eqb}
use lib.Dec.{eqb}
use lib.ListN.{length}
use Rattle.theory.specs.Lists.{all, prefix}
use Rattle.theory.specs.Bytes.{space}
use Rattle.theory.specs.Lines.{cut_line, after_key}
use Rattle.theory.specs.Syntax.{Kind, Symbol}
use Rattle.theory.specs.Cells.{table_size}
use Rattle.theory.specs.Refusals.{Answer, answer, refused, at_line, check, ◌>>=◌}
use Rattle.theory.specs.CaseText.{least_byte, equals_sign, spaced, unjoined, is_value_byte, read_table}
use Rattle.theory.proofs.Tests.{eqb-sym, and-join}
use Rattle.theory.proofs.Answers.{bind-step, bind-refused, check-of-true, check-of-false, or_refuse-of-some, or_refuse-of-none}
use Rattle.cases.specs.Values.{values_after}

and-false : (b : Bool) → (b && false) ≡ false
and-false true = refl
and-false false = refl

-- a key in two parts
after_key-append : (ks js bs : List ℕ) (v : List ℕ) → after_key ks bs ≡ some v → after_key (ks ++ js) bs ≡ after_key js v
after_key-append [] js bs v e = ap (after_key js) (some-injective bs v e)
after_key-append (k ∷ ks) js [] v e = let z : ◌≡◌ {A = ℕ} 0 1 = cc in absurd (omega arith)
after_key-append (k ∷ ks) js (b ∷ bs) v e = go (eqb k b) e (after_key-append ks js bs v)
  where
    go : (q : Bool) → cond q (after_key ks bs) none ≡ some v → (after_key ks bs ≡ some v → after_key (ks ++ js) bs ≡ after_key js v) → cond q (after_key (ks ++ js) bs) none ≡ after_key js v
    go true e ih = ih e
    go false e ih = let z : ◌≡◌ {A = ℕ} 0 1 = cc in absurd (omega arith)

after_key-none : (ks js bs : List ℕ) → after_key ks bs ≡ none → after_key (ks ++ js) bs ≡ none
after_key-none [] js bs e = let z : ◌≡◌ {A = ℕ} 0 1 = cc in absurd (omega arith)
after_key-none (k ∷ ks) js [] e = refl
after_key-none (k ∷ ks) js (b ∷ bs) e = go (eqb k b) e (after_key-none ks js bs)
  where
    go : (q : Bool) → cond q (after_key ks bs) none ≡ none → (after_key ks bs ≡ none → after_key (ks ++ js) bs ≡ none) → cond q (after_key (ks ++ js) bs) none ≡ none
    go true e ih = ih e
    go false e ih = refl

-- the bytes of the values, each after its separator
abbrev unpaired : List ℕ → Option (List ℕ)
unpaired [] = none
unpaired (x ∷ []) = none
unpaired (x ∷ b ∷ bs) = cond (eqb x equals_sign) (prefix b (spaced bs)) none

-- two bytes more, one value more
pair-length : (q : Bool) (b n : ℕ) (o : Option (List ℕ)) (r : List ℕ) → ((u : List ℕ) → o ≡ some u → n ≡ 2 * length u) → cond q (prefix b o) none ≡ some r → suc (suc n) ≡ 2 * length r
pair-length false b n o r ih e = let z : ◌≡◌ {A = ℕ} 0 1 = cc in absurd (omega arith)
pair-length true b n none r ih e = let z : ◌≡◌ {A = ℕ} 0 1 = cc in absurd (omega arith)
pair-length true b n (some u) r ih e = omega (arith, ih u refl, ap length (some-injective (b ∷ u) r e))

spaced-length : (bs r : List ℕ) → spaced bs ≡ some r → length bs ≡ 2 * length r
spaced-length [] r e = ap (λ (l : List ℕ). 2 * length l) (some-injective [] r e)
spaced-length (c ∷ []) r e = let z : ◌≡◌ {A = ℕ} 0 1 = cc in absurd (omega arith)
spaced-length (c ∷ b ∷ bs) r e = pair-length (eqb c space) b (length bs) (spaced bs) r (λ u p. spaced-length bs u p) e

unpaired-length : (bs r : List ℕ) → unpaired bs ≡ some r → length bs ≡ 2 * length r
unpaired-length [] r e = let z : ◌≡◌ {A = ℕ} 0 1 = cc in absurd (omega arith)
unpaired-length (c ∷ []) r e = let z : ◌≡◌ {A = ℕ} 0 1 = cc in absurd (omega arith)
unpaired-length (c ∷ b ∷ bs) r e = pair-length (eqb c equals_sign) b (length bs) (spaced bs) r (λ u p. spaced-length bs u p) e

module _ (s : ℕ) (k : Kind) where
  -- the values that bytes are, if all are value bytes
  abbrev values_of : Option (List ℕ) → Option (List ℕ)
  values_of none = none
  values_of (some bs) = cond (all (is_value_byte s k) bs) (some (map (λ b. b - least_byte k) bs)) none

  values_of-prefix : (b : ℕ) (o : Option (List ℕ)) → cond (is_value_byte s k b) (prefix (b - least_byte k) (values_of o)) none ≡ values_of (prefix b o)
  values_of-prefix b none = go (is_value_byte s k b)
    where
      go : (q : Bool) → cond q (prefix (b - least_byte k) none) none ≡ none
      go true = refl
      go false = refl
  values_of-prefix b (some bs) = go (is_value_byte s k b) (all (is_value_byte s k) bs)
    where
      go : (q r : Bool) → cond q (prefix (b - least_byte k) (cond r (some (map (λ b. b - least_byte k) bs)) none)) none ≡ cond (q && r) (some (map (λ b. b - least_byte k) (b ∷ bs))) none
      go true true = refl
      go true false = refl
      go false r = refl

  values-pair : (q : Bool) (b : ℕ) (o p : Option (List ℕ)) → o ≡ values_of p → cond (q && is_value_byte s k b) (prefix (b - least_byte k) o) none ≡ values_of (cond q (prefix b p) none)
  values-pair true b o p e = ap (λ (o : Option (List ℕ)). cond (is_value_byte s k b) (prefix (b - least_byte k) o) none) e ∙ values_of-prefix b p
  values-pair false b o p e = refl

  values_after-spaced : (bs : List ℕ) → values_after s k space bs ≡ values_of (spaced bs)
  values_after-spaced [] = refl
  values_after-spaced (c ∷ []) = refl
  values_after-spaced (c ∷ b ∷ bs) = values-pair (eqb c space) b (values_after s k space bs) (spaced bs) (values_after-spaced bs)

  values_after-unpaired : (bs : List ℕ) → 0 < length bs → values_after s k equals_sign bs ≡ values_of (unpaired bs)
  values_after-unpaired [] h = absurd (omega arith)
  values_after-unpaired (c ∷ []) h = refl
  values_after-unpaired (c ∷ b ∷ bs) h = values-pair (eqb c equals_sign) b (values_after s k space bs) (spaced bs) (values_after-spaced bs)

-- the same in the two steps of the definition
unpaired-some : (bs r : List ℕ) → unpaired bs ≡ some r → (v : List ℕ) × (after_key (equals_sign ∷ []) bs ≡ some v) × (unjoined v ≡ some r)
unpaired-some [] r e = let z : ◌≡◌ {A = ℕ} 0 1 = cc in absurd (omega arith)
unpaired-some (x ∷ []) r e = let z : ◌≡◌ {A = ℕ} 0 1 = cc in absurd (omega arith)
unpaired-some (x ∷ b ∷ bs) r e = go (eqb x equals_sign) refl e
  where
    go : (q : Bool) → eqb x equals_sign ≡ q → cond q (prefix b (spaced bs)) none ≡ some r → (v : List ℕ) × (after_key (equals_sign ∷ []) (x ∷ b ∷ bs) ≡ some v) × (unjoined v ≡ some r)
    go true h e = (b ∷ bs, ap (λ (q : Bool). cond q (some (b ∷ bs)) none) (eqb-sym equals_sign x ∙ h), e)
    go false h e = let z : ◌≡◌ {A = ℕ} 0 1 = cc in absurd (omega arith)

unpaired-none : (bs : List ℕ) → unpaired bs ≡ none → (after_key (equals_sign ∷ []) bs ≡ none) ⊎ ((v : List ℕ) × (after_key (equals_sign ∷ []) bs ≡ some v) × (unjoined v ≡ none))
unpaired-none [] e = inl refl
unpaired-none (x ∷ []) e = go (eqb equals_sign x)
  where
    go : (q : Bool) → (◌≡◌ {A = Option (List ℕ)} (cond q (some []) none) none) ⊎ ((v : List ℕ) × (◌≡◌ {A = Option (List ℕ)} (cond q (some []) none) (some v)) × (unjoined v ≡ none))
    go true = inr ([], refl, refl)
    go false = inl refl
unpaired-none (x ∷ b ∷ bs) e = go (eqb x equals_sign) refl e
  where
    go : (q : Bool) → eqb x equals_sign ≡ q → cond q (prefix b (spaced bs)) none ≡ none
        → (after_key (equals_sign ∷ []) (x ∷ b ∷ bs) ≡ none) ⊎ ((v : List ℕ) × (after_key (equals_sign ∷ []) (x ∷ b ∷ bs) ≡ some v) × (unjoined v ≡ none))
    go true h e = inr (b ∷ bs, ap (λ (q : Bool). cond q (some (b ∷ bs)) none) (eqb-sym equals_sign x ∙ h), e)
    go false h e = inl (ap (λ (q : Bool). cond q (some (b ∷ bs)) none) (eqb-sym equals_sign x ∙ h))

-- what a line is read to, from the bytes behind its name
module _ (s : ℕ) (f : Symbol) (l : ℕ) (text : List ℕ) where
  pub no_line : cut_line text ≡ none → read_table s f l text ≡ refused (at_line 12 l)
  unfolding read_table
  no_line e = bind-refused _ _ (at_line 12 l) (or_refuse-of-none (cut_line text) (at_line 12 l) e)

  module _ (line rest : List ℕ) (e : cut_line text ≡ some (line, rest)) where
    pub no_name : after_key f.name line ≡ none → read_table s f l text ≡ refused (at_line 12 l)
    unfolding read_table
    no_name k =
        bind-step _ _ (line, rest) _ (or_refuse-of-some (cut_line text) (at_line 12 l) (line, rest) e)
        (bind-refused _ _ (at_line 12 l) (or_refuse-of-none _ (at_line 12 l) (after_key-none f.name (equals_sign ∷ []) line k)))

    module _ (bs : List ℕ) (k : after_key f.name line ≡ some bs) where
      no_pairs : unpaired bs ≡ none → read_table s f l text ≡ refused (at_line 12 l)
      unfolding read_table
      no_pairs q =
          bind-step _ _ (line, rest) _ (or_refuse-of-some (cut_line text) (at_line 12 l) (line, rest) e)
          (⊎_elim (λ z. bind-refused _ _ (at_line 12 l) (or_refuse-of-none _ (at_line 12 l) (after_key-append f.name (equals_sign ∷ []) line bs k ∙ z)))
          (λ z. bind-step _ _ z.0 _ (or_refuse-of-some _ (at_line 12 l) z.0 (after_key-append f.name (equals_sign ∷ []) line bs k ∙ z.1)) (bind-refused _ _ (at_line 12 l) (or_refuse-of-none _ (at_line 12 l) z.2)))
          (unpaired-none bs q))

      pairs-read : (r : List ℕ) (a : Answer ((List ℕ) × List ℕ)) → unpaired bs ≡ some r
          → (check (eqb (length r) (table_size s f) && all (is_value_byte s f.kind) r) (at_line 12 l) >>= λ _. answer (map (λ b. b - least_byte f.kind) r, rest)) ≡ a
          → read_table s f l text ≡ a
      unfolding read_table
      pairs-read r a q h =
          let p = unpaired-some bs r q in
          bind-step _ _ (line, rest) a (or_refuse-of-some (cut_line text) (at_line 12 l) (line, rest) e)
          (bind-step _ _ p.0 a (or_refuse-of-some _ (at_line 12 l) p.0 (after_key-append f.name (equals_sign ∷ []) line bs k ∙ p.1))
          (bind-step _ _ r a (or_refuse-of-some _ (at_line 12 l) r p.2) h))

      pairs-refused : (r : List ℕ) → unpaired bs ≡ some r → (eqb (length r) (table_size s f) && all (is_value_byte s f.kind) r) ≡ false → read_table s f l text ≡ refused (at_line 12 l)
      pairs-refused r q h = pairs-read r _ q (bind-refused _ _ (at_line 12 l) (check-of-false _ (at_line 12 l) h))

      -- too many bytes, or too few
      pub other_length : (length bs ≡ 2 * table_size s f → ⊥) → read_table s f l text ≡ refused (at_line 12 l)
      other_length h = go (unpaired bs) refl
        where
          go : (o : Option (List ℕ)) → unpaired bs ≡ o → read_table s f l text ≡ refused (at_line 12 l)
          go none q = no_pairs q
          go (some r) q =
              pairs-refused r q (ap (λ (b : Bool). b && all (is_value_byte s f.kind) r) (ne_eqb (length r) (table_size s f) (λ z. h (unpaired-length bs r q ∙ ap (λ (n : ℕ). 2 * n) z))))

      module _ (n : length bs ≡ 2 * table_size s f) (pos : 0 < table_size s f) where
        values-are : values_after s f.kind equals_sign bs ≡ values_of s f.kind (unpaired bs)
        values-are = values_after-unpaired s f.kind bs (omega arith)

        -- a value not as laid out
        pub no-values : values_after s f.kind equals_sign bs ≡ none → read_table s f l text ≡ refused (at_line 12 l)
        no-values h = go (unpaired bs) refl (sym values-are ∙ h)
          where
            second : (r : List ℕ) (q : Bool) → ◌≡◌ {A = Option (List ℕ)} (cond q (some (map (λ b. b - least_byte f.kind) r)) none) none → (eqb (length r) (table_size s f) && q) ≡ false
            second r true z = let z : ◌≡◌ {A = ℕ} 0 1 = cc in absurd (omega arith)
            second r false z = and-false (eqb (length r) (table_size s f))

            go : (o : Option (List ℕ)) → unpaired bs ≡ o → values_of s f.kind o ≡ none → read_table s f l text ≡ refused (at_line 12 l)
            go none q z = no_pairs q
            go (some r) q z = pairs-refused r q (second r (all (is_value_byte s f.kind) r) z)

        pub values-read : (vs : List ℕ) → values_after s f.kind equals_sign bs ≡ some vs → read_table s f l text ≡ answer (vs, rest)
        values-read vs h = go (unpaired bs) refl (sym values-are ∙ h)
          where
            second : (r : List ℕ) (q : Bool) → all (is_value_byte s f.kind) r ≡ q → ◌≡◌ {A = Option (List ℕ)} (cond q (some (map (λ b. b - least_byte f.kind) r)) none) (some vs)
                → (all (is_value_byte s f.kind) r ≡ true) × (map (λ b. b - least_byte f.kind) r ≡ vs)
            second r true p z = (p, some-injective (map (λ b. b - least_byte f.kind) r) vs z)
            second r false p z = let z : ◌≡◌ {A = ℕ} 0 1 = cc in absurd (omega arith)

            go : (o : Option (List ℕ)) → unpaired bs ≡ o → values_of s f.kind o ≡ some vs → read_table s f l text ≡ answer (vs, rest)
            go none q z = let z : ◌≡◌ {A = ℕ} 0 1 = cc in absurd (omega arith)
            go (some r) q z =
                let p = second r (all (is_value_byte s f.kind) r) refl z in
                pairs-read r _ q
                (bind-step _ _ tt _ (check-of-true _ (at_line 12 l) (and-join (eqb (length r) (table_size s f)) _ (eq-eqb (length r) (table_size s f) (omega (arith, unpaired-length bs r q))) p.0))
                (ap (λ (vs : List ℕ). answer (vs, rest)) p.1))
