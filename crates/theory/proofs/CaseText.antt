-- The text of an interpretation is read as that interpretation, and no other text is.
use Prim.Native.Nat.{ℕ, zero, suc, ◌+◌, ◌-◌, ◌≤◌, ◌<◌}
use mathlib.Core.Path.{◌≡◌, refl, sym, ap, ◌∙◌, subst}
use mathlib.Core.Bool.{Bool, true, false, cond, ◌&&◌}
use mathlib.Core.Option.{Option, none, some, some-injective}
use mathlib.Core.List.{List, [], ◌∷◌, ◌++◌, map, append_assoc, append-nil}
use native.Mathlib.Nat.{one-le-pow}
use native.Mathlib.Omega.{arith}
use lib.Dec.{eqb, ltb, leb}
use lib.ListN.{length, take, drop, length-map, take-append-drop}
use lib.Seq.{take_at, drop_at}
use Rattle.theory.specs.Lists.{all, concat_map, same, prefix}
use Rattle.theory.specs.Bytes.{bytes, LF, space, zero_digit}
use Rattle.theory.specs.Lines.{Cut, cut_line, after_key}
use Rattle.theory.specs.Syntax.{Kind, function, predicate, Symbol, Signature}
use Rattle.theory.specs.Cells.{table_size, value_count, is_interpretation}
use Rattle.theory.specs.Refusals.{Answer, answer, at_line}
use Rattle.theory.specs.Problem.{Problem}
use Rattle.theory.specs.CaseText.{least_byte, joined, equals_sign, table_text, tables_text, case_text, spaced, unjoined, is_value_byte, read_table, read_tables, Case, size_of, read_case}
use Rattle.theory.specs.WellFormed.{WellFormed}
use Rattle.theory.proofs.Tests.{eqb-true, eqb-of-≡, leb-true, leb-of-≤, ltb-true, ltb-of-<, and_left, and_right, and-join}
use Rattle.theory.proofs.Lists.{all_append, same_true}
use Rattle.theory.proofs.First.{prefix-some}
use Rattle.theory.proofs.Answers.{unbind, bind-step, answer-inj, check-true, check-of-true, or_refuse-some, or_refuse-of-some}
use Rattle.theory.proofs.Lines.{in_line, digit-in_line, cut_line-is, cut-only, after-key, key-only}
use Rattle.theory.proofs.Parsing.{names-without}
use Rattle.theory.proofs.Tables.{Table, interpretation-split, interpretation-join, interpretation-empty, empty-interpretation}

-- joining with spaces, and taking apart
spaced-joined : (bs : List ℕ) → spaced (concat_map (λ c. space ∷ c ∷ []) bs) ≡ some bs
spaced-joined [] = refl
spaced-joined (b ∷ bs) = ap (prefix b) (spaced-joined bs)

pub unjoined-joined : (bs : List ℕ) → zero < length bs → unjoined (joined bs) ≡ some bs
unjoined-joined [] h = absurd (omega arith)
unjoined-joined (b ∷ bs) h = ap (prefix b) (spaced-joined bs)

spaced-only : (bs r : List ℕ) → spaced bs ≡ some r → concat_map (λ c. space ∷ c ∷ []) r ≡ bs
spaced-only [] r e = ap (concat_map (λ c. space ∷ c ∷ [])) (sym (some-injective [] r e))
spaced-only (c ∷ []) r e = let z : ◌≡◌ {A = ℕ} 0 1 = cc in absurd (omega arith)
spaced-only (c ∷ b ∷ bs) r e = go (eqb c space) refl e (λ u h. spaced-only bs u h)
  where
    go : (t : Bool) → eqb c space ≡ t → cond t (prefix b (spaced bs)) none ≡ some r → ((u : List ℕ) → spaced bs ≡ some u → concat_map (λ c. space ∷ c ∷ []) u ≡ bs)
        → concat_map (λ c. space ∷ c ∷ []) r ≡ c ∷ b ∷ bs
    go true h z ih =
        let u = prefix-some b (spaced bs) r z in
        ap (concat_map (λ c. space ∷ c ∷ [])) (sym u.2) ∙ ap (λ (l : List ℕ). space ∷ b ∷ l) (ih u.0 u.1) ∙ ap (λ (x : ℕ). x ∷ b ∷ bs) (sym (eqb-true c space h))
    go false h z ih = let z : ◌≡◌ {A = ℕ} 0 1 = cc in absurd (omega arith)

pub unjoined-only : (bs r : List ℕ) → unjoined bs ≡ some r → joined r ≡ bs
unjoined-only [] r e = let z : ◌≡◌ {A = ℕ} 0 1 = cc in absurd (omega arith)
unjoined-only (b ∷ bs) r e =
    let u = prefix-some b (spaced bs) r e in
    ap joined (sym u.2) ∙ ap (λ (l : List ℕ). b ∷ l) (spaced-only bs u.0 u.1)

least≥48 : (k : Kind) → (d : ℕ) × (least_byte k ≡ 48 + d)
least≥48 function = (1, refl)
least≥48 predicate = (0, refl)

value-in_line : (k : Kind) (v : ℕ) → in_line (least_byte k + v) ≡ true
value-in_line k v = let d = least≥48 k in let e : least_byte k + v ≡ 48 + (d.0 + v) = omega (arith, d.1) in ap in_line e ∙ digit-in_line (d.0 + v)

-- the bytes of values of a kind
abbrev value_bytes : Kind → List ℕ → List ℕ
value_bytes k us = map (λ v. least_byte k + v) us

spaced-in_line : (k : Kind) (us : List ℕ) → all in_line (concat_map (λ c. space ∷ c ∷ []) (value_bytes k us)) ≡ true
spaced-in_line k [] = refl
spaced-in_line k (u ∷ us) = and-join (in_line (least_byte k + u)) (all in_line (concat_map (λ c. space ∷ c ∷ []) (value_bytes k us))) (value-in_line k u) (spaced-in_line k us)

joined-in_line : (k : Kind) (us : List ℕ) → all in_line (joined (value_bytes k us)) ≡ true
joined-in_line k [] = refl
joined-in_line k (u ∷ us) = and-join (in_line (least_byte k + u)) (all in_line (concat_map (λ c. space ∷ c ∷ []) (value_bytes k us))) (value-in_line k u) (spaced-in_line k us)

values-of-bytes : (k : Kind) (us : List ℕ) → map (λ b. b - least_byte k) (value_bytes k us) ≡ us
values-of-bytes k [] = refl
values-of-bytes k (u ∷ us) =
    let p : least_byte k + u - least_byte k ≡ u = omega arith in
    let q : map (λ b. b - least_byte k) (value_bytes k us) ≡ us = values-of-bytes k us in
    cc

module _ (s : ℕ) where
  bytes-are-values : (k : Kind) (us : List ℕ) → all (λ d. ltb d (value_count s k)) us ≡ true → all (is_value_byte s k) (value_bytes k us) ≡ true
  bytes-are-values k [] h = refl
  bytes-are-values k (u ∷ us) h =
      let a : ℕ = least_byte k in
      let n : ℕ = value_count s k in
      let e : a + u - a ≡ u = omega arith in
      and-join (leb a (a + u) && ltb (a + u - a) n) (all (is_value_byte s k) (value_bytes k us))
      (and-join (leb a (a + u)) (ltb (a + u - a) n) (leb-of-≤ a (a + u) (omega arith)) (ap (λ (d : ℕ). ltb d n) e ∙ and_left (ltb u n) (all (λ d. ltb d n) us) h))
      (bytes-are-values k us (and_right (ltb u n) (all (λ d. ltb d n) us) h))

  -- bytes of values are those of the values read from them
  bytes-of-values : (k : Kind) (bs : List ℕ) → all (is_value_byte s k) bs ≡ true → value_bytes k (map (λ b. b - least_byte k) bs) ≡ bs
  bytes-of-values k [] h = refl
  bytes-of-values k (b ∷ bs) h =
      let a : ℕ = least_byte k in
      let le : a ≤ b = leb-true a b (and_left (leb a b) (ltb (b - a) (value_count s k)) (and_left (is_value_byte s k b) (all (is_value_byte s k) bs) h)) in
      let p : a + (b - a) ≡ b = omega arith in
      let q : value_bytes k (map (λ b. b - least_byte k) bs) ≡ bs = bytes-of-values k bs (and_right (is_value_byte s k b) (all (is_value_byte s k) bs) h) in
      cc

  values-below : (k : Kind) (bs : List ℕ) → all (is_value_byte s k) bs ≡ true → all (λ d. ltb d (value_count s k)) (map (λ b. b - least_byte k) bs) ≡ true
  values-below k [] h = refl
  values-below k (b ∷ bs) h =
      let n : ℕ = value_count s k in
      and-join (ltb (b - least_byte k) n) (all (λ d. ltb d n) (map (λ b. b - least_byte k) bs))
      (and_right (leb (least_byte k) b) (ltb (b - least_byte k) n) (and_left (is_value_byte s k b) (all (is_value_byte s k) bs) h))
      (values-below k bs (and_right (is_value_byte s k b) (all (is_value_byte s k) bs) h))

  -- a symbol's line is read as its values
  pub read_table-is : zero < s → (f : Symbol) (us : List ℕ) (l : ℕ) (rest : List ℕ) → all in_line f.name ≡ true → Table s f.kind (table_size s f) us
      → read_table s f l (table_text f us ++ rest) ≡ answer (us, rest)
  unfolding read_table table_text
  read_table-is pos f us l rest n t =
      let k : Kind = f.kind in
      let m : ℕ = table_size s f in
      let bs : List ℕ = value_bytes k us in
      let K : List ℕ = f.name ++ (equals_sign ∷ []) in
      let J : List ℕ = joined bs in
      let one : 1 ≤ m = one-le-pow f.arity s pos in
      let lb : length bs ≡ m = length-map us (λ v. least_byte k + v) ∙ t.counted in
      let line_k : all in_line K ≡ true = all_append in_line f.name (equals_sign ∷ []) ∙ and-join (all in_line f.name) true n refl in
      let line : all in_line (K ++ J) ≡ true = all_append in_line K J ∙ and-join (all in_line K) (all in_line J) line_k (joined-in_line k us) in
      let shape : (K ++ (J ++ (LF ∷ []))) ++ rest ≡ (K ++ J) ++ (LF ∷ rest) =
      append_assoc K (J ++ (LF ∷ [])) rest ∙ ap (λ (l : List ℕ). K ++ l) (append_assoc J (LF ∷ []) rest) ∙ sym (append_assoc K J (LF ∷ rest)) in
      let values : (eqb (length bs) m && all (is_value_byte s k) bs) ≡ true =
      and-join (eqb (length bs) m) (all (is_value_byte s k) bs) (eqb-of-≡ (length bs) m lb) (bytes-are-values k us t.below) in
      bind-step _ _ (K ++ J, rest) (answer (us, rest)) (or_refuse-of-some _ (at_line 12 l) (K ++ J, rest) (ap cut_line shape ∙ cut_line-is (K ++ J) rest line))
      (bind-step _ _ J (answer (us, rest)) (or_refuse-of-some _ (at_line 12 l) J (after-key K J))
      (bind-step _ _ bs (answer (us, rest)) (or_refuse-of-some _ (at_line 12 l) bs (unjoined-joined bs (omega arith)))
      (bind-step _ _ tt (answer (us, rest)) (check-of-true _ (at_line 12 l) values) (ap (λ (l : List ℕ). answer (l, rest)) (values-of-bytes k us)))))

  -- from no other line
  pub table-only : (f : Symbol) (l : ℕ) (text : List ℕ) (r : (List ℕ) × List ℕ) → read_table s f l text ≡ answer r → Table s f.kind (table_size s f) r.0 × (table_text f r.0 ++ r.1 ≡ text)
  unfolding read_table table_text
  table-only f l text r e =
      unbind _ _ r e λ (p : Cut) h₁ e₁.
      unbind _ _ r e₁ λ (v : List ℕ) h₂ e₂.
      unbind _ _ r e₂ λ (bs : List ℕ) h₃ e₃.
      unbind _ _ r e₃ λ (u : Unit {0}) h₄ e₄.
      step p v bs (cut-only text p (or_refuse-some (cut_line text) (at_line 12 l) p h₁))
      (key-only K p.0 v (or_refuse-some (after_key K p.0) (at_line 12 l) v h₂))
      (unjoined-only v bs (or_refuse-some (unjoined v) (at_line 12 l) bs h₃))
      (check-true (eqb (length bs) (table_size s f) && all (is_value_byte s f.kind) bs) (at_line 12 l) u h₄)
      (answer-inj (map (λ b. b - least_byte f.kind) bs, p.1) r e₄)
    where
      K : List ℕ
      K = f.name ++ (equals_sign ∷ [])

      step : (p : Cut) (v bs : List ℕ) → p.0 ++ (LF ∷ p.1) ≡ text → K ++ v ≡ p.0 → joined bs ≡ v → (eqb (length bs) (table_size s f) && all (is_value_byte s f.kind) bs) ≡ true
          → (map (λ b. b - least_byte f.kind) bs, p.1) ≡ r → Table s f.kind (table_size s f) r.0 × (table_text f r.0 ++ r.1 ≡ text)
      step p v bs whole key join h q =
          let k : Kind = f.kind in
          let us : List ℕ = map (λ b. b - least_byte k) bs in
          let good : all (is_value_byte s k) bs ≡ true = and_right (eqb (length bs) (table_size s f)) (all (is_value_byte s k) bs) h in
          let counted : length us ≡ table_size s f =
          length-map bs (λ b. b - least_byte k) ∙ eqb-true (length bs) (table_size s f) (and_left (eqb (length bs) (table_size s f)) (all (is_value_byte s k) bs) h) in
          let J : List ℕ = joined bs in
          let back : joined (value_bytes k us) ≡ J = ap joined (bytes-of-values k bs good) in
          let line : K ++ J ≡ p.0 = ap (λ (l : List ℕ). K ++ l) join ∙ key in
          subst (λ (r : (List ℕ) × List ℕ). Table s k (table_size s f) r.0 × ((K ++ (joined (value_bytes k r.0) ++ (LF ∷ []))) ++ r.1 ≡ text)) q (
            record { counted = counted; below = values-below k bs good },
            ap (λ (j : List ℕ). (K ++ (j ++ (LF ∷ []))) ++ p.1) back
                ∙ append_assoc K (J ++ (LF ∷ [])) p.1
                ∙ ap (λ (l : List ℕ). K ++ l) (append_assoc J (LF ∷ []) p.1)
                ∙ sym (append_assoc K J (LF ∷ p.1))
                ∙ ap (λ (l : List ℕ). l ++ (LF ∷ p.1)) line
                ∙ whole,
          )

  -- all lines are read as the interpretation
  pub read-tables : zero < s → (g : Signature) (vs : List ℕ) (l : ℕ) (rest : List ℕ) → all (λ (f : Symbol). all in_line f.name) g ≡ true → is_interpretation s g vs ≡ true
      → read_tables s g l (tables_text s g vs ++ rest) ≡ answer (vs, rest)
  unfolding read_tables tables_text
  read-tables pos [] vs l rest n h = ap (λ (l : List ℕ). answer (l, rest)) (sym (interpretation-empty s vs h))
  read-tables pos (f ∷ g) vs l rest n h =
      let m : ℕ = table_size s f in
      let us : List ℕ = take m vs in
      let ws : List ℕ = drop m vs in
      let r = interpretation-split s f g vs h in
      let T : List ℕ = tables_text s g ws in
      bind-step _ _ (us, T ++ rest) (answer (vs, rest))
      (ap (read_table s f l) (append_assoc (table_text f us) T rest) ∙ read_table-is pos f us l (T ++ rest) (and_left (all in_line f.name) (all (λ (f : Symbol). all in_line f.name) g) n) r.0)
      (bind-step _ _ (ws, rest) (answer (vs, rest)) (read-tables pos g ws (suc l) rest (and_right (all in_line f.name) (all (λ (f : Symbol). all in_line f.name) g) n) r.1)
      (ap (λ (l : List ℕ). answer (l, rest)) (take-append-drop m vs)))

  -- from no other lines
  pub tables-only : (g : Signature) (l : ℕ) (text : List ℕ) (r : (List ℕ) × List ℕ) → read_tables s g l text ≡ answer r
      → (is_interpretation s g r.0 ≡ true) × (tables_text s g r.0 ++ r.1 ≡ text)
  unfolding read_tables tables_text
  tables-only [] l text r e =
      subst (λ (r : (List ℕ) × List ℕ). (is_interpretation s [] r.0 ≡ true) × (r.1 ≡ text)) (answer-inj ([], text) r e) (empty-interpretation s, refl)
  tables-only (f ∷ g) l text r e =
      unbind _ _ r e λ (p : (List ℕ) × List ℕ) h₁ e₁.
      unbind _ _ r e₁ λ (q : (List ℕ) × List ℕ) h₂ e₂.
      step p q (table-only f l text p h₁) (tables-only g (suc l) p.1 q h₂) (answer-inj (p.0 ++ q.0, q.1) r e₂)
    where
      step : (p q : (List ℕ) × List ℕ) → Table s f.kind (table_size s f) p.0 × (table_text f p.0 ++ p.1 ≡ text) → (is_interpretation s g q.0 ≡ true) × (tables_text s g q.0 ++ q.1 ≡ p.1)
          → (p.0 ++ q.0, q.1) ≡ r → (is_interpretation s (f ∷ g) r.0 ≡ true) × (tables_text s (f ∷ g) r.0 ++ r.1 ≡ text)
      step p q a b z =
          let m : ℕ = table_size s f in
          let us : List ℕ = p.0 in
          let ws : List ℕ = q.0 in
          subst (λ (r : (List ℕ) × List ℕ). (is_interpretation s (f ∷ g) r.0 ≡ true) × (tables_text s (f ∷ g) r.0 ++ r.1 ≡ text)) z (
            interpretation-join s f g us ws a.0 b.0,
            ap (λ (t : List ℕ). (table_text f t ++ tables_text s g (drop m (us ++ ws))) ++ q.1) (take_at us ws m a.0.counted)
                ∙ ap (λ (t : List ℕ). (table_text f us ++ tables_text s g t) ++ q.1) (drop_at us ws m a.0.counted)
                ∙ append_assoc (table_text f us) (tables_text s g ws) q.1
                ∙ ap (λ (l : List ℕ). table_text f us ++ l) b.1
                ∙ a.1,
          )

-- the text of an interpretation at a size of 1 to 8 is read as that size and those values
pub read-case : (s : ℕ) (g : Signature) (vs : List ℕ) → zero < s → s ≤ 8 → all (λ (f : Symbol). all in_line f.name) g ≡ true → is_interpretation s g vs ≡ true
    → read_case g (case_text s g vs) ≡ answer (record { size = s; values = vs })
unfolding read_case case_text
read-case s g vs pos le n h =
    let R : Answer Case = answer (record { size = s; values = vs }) in
    let T : List ℕ = tables_text s g vs in
    let line : List ℕ = bytes "size=" ++ ((zero_digit + s) ∷ []) in
    let size : (leb 49 (zero_digit + s) && ltb (zero_digit + s) 57) ≡ true =
    and-join (leb 49 (zero_digit + s)) (ltb (zero_digit + s) 57) (leb-of-≤ 49 (zero_digit + s) (omega arith)) (ltb-of-< (zero_digit + s) 57 (omega arith)) in
    let e : zero_digit + s - zero_digit ≡ s = omega arith in
    let sized : size_of ((zero_digit + s) ∷ []) ≡ some s = ap (λ (q : Bool). cond q (some (zero_digit + s - zero_digit)) none) size ∙ ap {B = Option ℕ} some e in
    bind-step _ _ (bytes "case=1", line ++ (LF ∷ T)) R refl
    (bind-step _ _ tt R refl
    (bind-step _ _ (line, T) R (or_refuse-of-some _ (at_line 12 2) (line, T) (cut_line-is line T (and-join (in_line (zero_digit + s)) true (digit-in_line s) refl)))
    (bind-step _ _ ((zero_digit + s) ∷ []) R refl
    (bind-step _ _ s R (or_refuse-of-some _ (at_line 12 2) s sized)
    (bind-step _ _ (vs, []) R (ap (read_tables s g 3) (sym (append-nil T)) ∙ read-tables s pos g vs 3 [] n h) (bind-step _ _ tt R refl refl))))))

-- so for the symbols of every sheet that is read
pub read-own-case : (p : Problem) → WellFormed p → (s : ℕ) (vs : List ℕ) → zero < s → s ≤ 8 → is_interpretation s p.symbols vs ≡ true
    → read_case p.symbols (case_text s p.symbols vs) ≡ answer (record { size = s; values = vs })
read-own-case p w s vs pos le h = read-case s p.symbols vs pos le (names-without p w LF refl) h

-- what is read from a text is a size of 1 to 8 and an interpretation, and the text is theirs
pub record OnlyText (g : Signature) (text : List ℕ) (k : Case) : Type 0 where
  pub positive : zero < k.size
  pub within : k.size ≤ 8
  pub interpretation : is_interpretation k.size g k.values ≡ true
  pub written : case_text k.size g k.values ≡ text

pub size-only : (v : List ℕ) (s : ℕ) → size_of v ≡ some s → (zero < s) × (s ≤ 8) × (v ≡ (zero_digit + s) ∷ [])
size-only [] s e = let z : ◌≡◌ {A = ℕ} 0 1 = cc in absurd (omega arith)
size-only (b ∷ c ∷ v) s e = let z : ◌≡◌ {A = ℕ} 0 1 = cc in absurd (omega arith)
size-only (b ∷ []) s e = go (leb 49 b && ltb b 57) refl e
  where
    go : (t : Bool) → (leb 49 b && ltb b 57) ≡ t → cond t (some (b - zero_digit)) none ≡ some s → (zero < s) × (s ≤ 8) × (b ∷ [] ≡ (zero_digit + s) ∷ [])
    go true h z =
        let lo : 49 ≤ b = leb-true 49 b (and_left (leb 49 b) (ltb b 57) h) in
        let hi : b < 57 = ltb-true b 57 (and_right (leb 49 b) (ltb b 57) h) in
        let q : b - zero_digit ≡ s = some-injective (b - zero_digit) s z in
        let r : b ≡ zero_digit + s = omega arith in
        (omega arith, omega arith, ap (λ (x : ℕ). x ∷ []) r)
    go false h z = let z : ◌≡◌ {A = ℕ} 0 1 = cc in absurd (omega arith)

pub read-exactly : (g : Signature) (text : List ℕ) (k : Case) → read_case g text ≡ answer k → OnlyText g text k
unfolding read_case case_text
read-exactly g text k e =
    unbind _ _ k e λ (a : Cut) h₁ e₁.
    unbind _ _ k e₁ λ (u₁ : Unit {0}) h₂ e₂.
    unbind _ _ k e₂ λ (b : Cut) h₃ e₃.
    unbind _ _ k e₃ λ (v : List ℕ) h₄ e₄.
    unbind _ _ k e₄ λ (s : ℕ) h₅ e₅.
    unbind _ _ k e₅ λ (t : (List ℕ) × List ℕ) h₆ e₆.
    unbind _ _ k e₆ λ (u₂ : Unit {0}) h₇ e₇.
    subst (OnlyText g text) (answer-inj (record { size = s; values = t.0 }) k e₇)
    (step a b v s t (cut-only text a (or_refuse-some (cut_line text) (at_line 12 1) a h₁))
    (same_true a.0 (bytes "case=1") (check-true (same a.0 (bytes "case=1")) (at_line 12 1) u₁ h₂))
    (cut-only a.1 b (or_refuse-some (cut_line a.1) (at_line 12 2) b h₃))
    (key-only (bytes "size=") b.0 v (or_refuse-some (after_key (bytes "size=") b.0) (at_line 12 2) v h₄))
    (size-only v s (or_refuse-some (size_of v) (at_line 12 2) s h₅))
    (tables-only s g 3 b.1 t h₆)
    (same_true t.1 [] (check-true (same t.1 []) (at_line 12 (3 + length g)) u₂ h₇)))
  where
    step : (a b : Cut) (v : List ℕ) (s : ℕ) (t : (List ℕ) × List ℕ) → a.0 ++ (LF ∷ a.1) ≡ text → a.0 ≡ bytes "case=1" → b.0 ++ (LF ∷ b.1) ≡ a.1 → bytes "size=" ++ v ≡ b.0
        → (zero < s) × (s ≤ 8) × (v ≡ (zero_digit + s) ∷ []) → (is_interpretation s g t.0 ≡ true) × (tables_text s g t.0 ++ t.1 ≡ b.1) → t.1 ≡ []
        → OnlyText g text (record { size = s; values = t.0 })
    step a b v s t c₁ c₂ c₃ c₄ c₅ c₆ c₇ =
        let T : List ℕ = tables_text s g t.0 in
        let tables : T ≡ b.1 = sym (append-nil T) ∙ ap (λ (l : List ℕ). T ++ l) (sym c₇) ∙ c₆.1 in
        let line₂ : bytes "size=" ++ ((zero_digit + s) ∷ []) ≡ b.0 = ap (λ (l : List ℕ). bytes "size=" ++ l) (sym c₅.2) ∙ c₄ in
        record {
          positive = c₅.0;
          within = c₅.1;
          interpretation = c₆.0;
          written =
              ap (λ (l : List ℕ). bytes "case=1" ++ (LF ∷ ((bytes "size=" ++ ((zero_digit + s) ∷ [])) ++ (LF ∷ l)))) tables
              ∙ ap (λ (l : List ℕ). bytes "case=1" ++ (LF ∷ (l ++ (LF ∷ b.1)))) line₂
              ∙ ap (λ (l : List ℕ). bytes "case=1" ++ (LF ∷ l)) c₃
              ∙ ap (λ (l : List ℕ). l ++ (LF ∷ a.1)) (sym c₂)
              ∙ c₁;
        }
