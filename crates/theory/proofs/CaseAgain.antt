-- A case that is refused on a line, with other text from that line on: refused there too, if that text does not begin as laid out.
use Prim.Native.Nat.{ℕ, suc, ◌+◌, ◌-◌, ◌≤◌}
use mathlib.Core.Path.{◌≡◌, refl, sym, ap, ◌∙◌, subst}
use mathlib.Core.Bool.{Bool, true, false, ◌&&◌}
use mathlib.Core.Option.{Option, none, some}
use mathlib.Core.List.{List, [], ◌∷◌, ◌++◌, map, append_assoc}
use native.Mathlib.Omega.{arith}
use lib.Dec.{eqb}
use lib.ListN.{length, get_or}
use Rattle.theory.specs.Lists.{all, same}
use Rattle.theory.specs.Bytes.{bytes, LF}
use Rattle.theory.specs.Syntax.{Symbol, Signature}
use Rattle.theory.specs.Cells.{table_size}
use Rattle.theory.specs.Refusals.{Refusal, Answer, answer, refused, at_line, ◌>>=◌, check, or_refuse}
use Rattle.theory.specs.Lines.{Cut, cut_line, after_key}
use Rattle.theory.specs.CaseText.{least_byte, equals_sign, unjoined, is_value_byte, read_table, read_tables, Case, size_of, read_case}
use Rattle.theory.specs.LineForms.{ValueForm, no_bytes, size_digit, cell_values, LineForm, keyed, no_line, are_cells, has_form, value_has_form, line_has_form, is_laid_out}
use Rattle.theory.specs.DueLines.{size_on, table_form, due_in_case}
use Rattle.theory.proofs.Answers.{unbind, unrefused, answer-inj, bind-step, bind-refused, check-of-false, or_refuse-some, or_refuse-of-some, or_refuse-of-none}
use Rattle.theory.proofs.Lines.{in_line, cut_line-is, cut-only}
use Rattle.theory.proofs.CaseText.{size-only}
use Rattle.theory.proofs.LineTexts.{cut-in_line}
use Rattle.theory.proofs.LinesBefore.{ReadUpTo, at_cut}
use Rattle.theory.proofs.CaseFaults.{key-alone, table-next, tables-next, headings, tables-due, past-tables, sized}
use Rattle.theory.proofs.Stopping.{Took, took_more, none_of, or_refuse-line, check-line, on_line, Stops, stops-here, stops-bind, stops_first, stops-after}

-- a line is taken from a text
abbrev cut_or_refuse : ℕ → List ℕ → Answer Cut
cut_or_refuse l t = or_refuse (cut_line t) (at_line 12 l)

cut-took : (l : ℕ) (t : List ℕ) (p : Cut) → cut_or_refuse l t ≡ answer p → Took (cut_or_refuse l) t p
cut-took l t p e =
    let c : cut_line t ≡ some p = or_refuse-some (cut_line t) (at_line 12 l) p e in
    record {
      taken = p.0 ++ (LF ∷ []);
      whole = append_assoc p.0 (LF ∷ []) p.1 ∙ cut-only t p c;
      again = λ u. or_refuse-of-some _ (at_line 12 l) (p.0, u) (ap cut_line (append_assoc p.0 (LF ∷ []) u) ∙ cut_line-is p.0 u (cut-in_line t p c));
    }

module _ (s : ℕ) (f : Symbol) (l : ℕ) where
  abbrev key : List ℕ
  key = f.name ++ (equals_sign ∷ [])

  abbrev test : List ℕ → Bool
  test bs = eqb (length bs) (table_size s f) && all (is_value_byte s f.kind) bs

  abbrev result : List ℕ → List ℕ
  result bs = map (λ b. b - least_byte f.kind) bs

  read_table-took : (t : List ℕ) (r : (List ℕ) × List ℕ) → read_table s f l t ≡ answer r → Took (read_table s f l) t r
  unfolding read_table
  read_table-took t r e =
      unbind _ _ r e λ (p : Cut) h₁ e₁.
      unbind _ _ r e₁ λ (v : List ℕ) h₂ e₂.
      unbind _ _ r e₂ λ (bs : List ℕ) h₃ e₃.
      unbind _ _ r e₃ λ (x : Unit {0}) h₄ e₄.
      step p v bs x (cut-took l t p h₁) h₂ h₃ h₄ (answer-inj (result bs, p.1) r e₄)
    where
      step : (p : Cut) (v bs : List ℕ) (x : Unit {0}) → Took (cut_or_refuse l) t p → or_refuse (after_key key p.0) (at_line 12 l) ≡ answer v → or_refuse (unjoined v) (at_line 12 l) ≡ answer bs
          → check (test bs) (at_line 12 l) ≡ answer x → (result bs, p.1) ≡ r → Took (read_table s f l) t r
      step p v bs x a h₂ h₃ h₄ q =
          subst (Took (read_table s f l) t) q
          (record {
            taken = a.taken;
            whole = a.whole;
            again = λ u.
                bind-step _ _ (p.0, u) (answer (result bs, u)) (a.again u)
                (bind-step _ _ v (answer (result bs, u)) h₂ (bind-step _ _ bs (answer (result bs, u)) h₃ (bind-step _ _ x (answer (result bs, u)) h₄ refl)));
          })

  read_table-fails : (u : List ℕ) → is_laid_out (table_form s f) u ≡ false → read_table s f l u ≡ refused (at_line 12 l)
  unfolding read_table is_laid_out has_form
  read_table-fails u h = cut (cut_line u) refl h
    where
      x : ValueForm
      x = cell_values s f.kind (table_size s f)

      apart : (p : Cut) (v : List ℕ) → cut_line u ≡ some p → after_key key p.0 ≡ some v → (o : Option (List ℕ)) → unjoined v ≡ o → are_cells s f.kind (table_size s f) o ≡ false
          → read_table s f l u ≡ refused (at_line 12 l)
      apart p v c k none e z =
          bind-step _ _ p (refused (at_line 12 l)) (or_refuse-of-some (cut_line u) (at_line 12 l) p c)
          (bind-step _ _ v (refused (at_line 12 l)) (or_refuse-of-some (after_key key p.0) (at_line 12 l) v k) (bind-refused _ _ (at_line 12 l) (or_refuse-of-none (unjoined v) (at_line 12 l) e)))
      apart p v c k (some bs) e z =
          bind-step _ _ p (refused (at_line 12 l)) (or_refuse-of-some (cut_line u) (at_line 12 l) p c)
          (bind-step _ _ v (refused (at_line 12 l)) (or_refuse-of-some (after_key key p.0) (at_line 12 l) v k)
          (bind-step _ _ bs (refused (at_line 12 l)) (or_refuse-of-some (unjoined v) (at_line 12 l) bs e) (bind-refused _ _ (at_line 12 l) (check-of-false (test bs) (at_line 12 l) z))))

      value : (p : Cut) → cut_line u ≡ some p → (o : Option (List ℕ)) → after_key key p.0 ≡ o → value_has_form x o ≡ false → read_table s f l u ≡ refused (at_line 12 l)
      value p c none e z =
          bind-step _ _ p (refused (at_line 12 l)) (or_refuse-of-some (cut_line u) (at_line 12 l) p c) (bind-refused _ _ (at_line 12 l) (or_refuse-of-none (after_key key p.0) (at_line 12 l) e))
      value p c (some v) e z = apart p v c e (unjoined v) refl z

      cut : (o : Option Cut) → cut_line u ≡ o → line_has_form key x o ≡ false → read_table s f l u ≡ refused (at_line 12 l)
      cut none c z = bind-refused _ _ (at_line 12 l) (or_refuse-of-none (cut_line u) (at_line 12 l) c)
      cut (some p) c z = value p c (after_key key p.0) refl z

  pub read_table-line : (t : List ℕ) (r : Refusal) → read_table s f l t ≡ refused r → r.place.line ≡ l
  unfolding read_table
  read_table-line t r e =
      unrefused _ _ r e (λ h. on_line 12 l r (or_refuse-line (cut_line t) (at_line 12 l) r h)) λ (p : Cut) _ e₁.
      unrefused _ _ r e₁ (λ h. on_line 12 l r (or_refuse-line (after_key key p.0) (at_line 12 l) r h)) λ (v : List ℕ) _ e₂.
      unrefused _ _ r e₂ (λ h. on_line 12 l r (or_refuse-line (unjoined v) (at_line 12 l) r h)) λ (bs : List ℕ) _ e₃.
      unrefused _ _ r e₃ (λ h. on_line 12 l r (check-line (test bs) (at_line 12 l) r h)) λ x _ e₄. let z : ◌≡◌ {A = ℕ} 0 1 = cc in absurd (omega arith)

read_tables-took : (s : ℕ) (fs : Signature) (l : ℕ) (t : List ℕ) (r : (List ℕ) × List ℕ) → read_tables s fs l t ≡ answer r → Took (read_tables s fs l) t r
unfolding read_tables
read_tables-took s [] l t r e = subst (Took (read_tables s [] l) t) (answer-inj ([], t) r e) (record { taken = []; whole = refl; again = λ u. refl })
read_tables-took s (f ∷ fs) l t r e =
    unbind _ _ r e λ (p : (List ℕ) × List ℕ) h₁ e₁.
    unbind _ _ r e₁ λ (q : (List ℕ) × List ℕ) h₂ e₂.
    step p q (read_table-took s f l t p h₁) (read_tables-took s fs (suc l) p.1 q h₂) (answer-inj (p.0 ++ q.0, q.1) r e₂)
  where
    step : (p q : (List ℕ) × List ℕ) → Took (read_table s f l) t p → Took (read_tables s fs (suc l)) p.1 q → (p.0 ++ q.0, q.1) ≡ r → Took (read_tables s (f ∷ fs) l) t r
    step p q a b z =
        subst (Took (read_tables s (f ∷ fs) l) t) z
        (record {
          taken = a.taken ++ b.taken;
          whole = took_more a.taken b.taken p.1 q.1 t a.whole b.whole;
          again = λ u.
              ap (read_tables s (f ∷ fs) l) (append_assoc a.taken b.taken u)
              ∙ bind-step _ _ (p.0, b.taken ++ u) (answer (p.0 ++ q.0, u)) (a.again (b.taken ++ u)) (bind-step _ _ (q.0, u) (answer (p.0 ++ q.0, u)) (b.again u) refl);
        })

-- the reader of cases from each of its parts on
abbrev case_end : ℕ → Signature → (List ℕ) × List ℕ → Answer Case
case_end s g t = check (same t.1 []) (at_line 12 (3 + length g)) >>= λ _. answer (record { size = s; values = t.0 })

abbrev case_tables : Signature → ℕ → List ℕ → Answer Case
case_tables g s t = read_tables s g 3 t >>= case_end s g

abbrev case_size : Signature → Cut → Answer Case
case_size g b = or_refuse (after_key (bytes "size=") b.0) (at_line 12 2) >>= λ v. (or_refuse (size_of v) (at_line 12 2) >>= λ s. case_tables g s b.1)

abbrev case_heading : Signature → Cut → Answer Case
case_heading g a = check (same a.0 (bytes "case=1")) (at_line 12 1) >>= λ _. (cut_or_refuse 2 a.1 >>= case_size g)

abbrev pub case_reading : Signature → List ℕ → Answer Case
case_reading g t = cut_or_refuse 1 t >>= case_heading g

pub read_case-parts : (g : Signature) (t : List ℕ) → read_case g t ≡ case_reading g t
unfolding read_case
read_case-parts g t = refl

heading-fails : (g : Signature) (u : List ℕ) → is_laid_out (keyed (bytes "case=1") no_bytes) u ≡ false → case_reading g u ≡ refused (at_line 12 1)
unfolding is_laid_out
heading-fails g u h = go (cut_line u) refl h
  where
    go : (o : Option Cut) → cut_line u ≡ o → line_has_form (bytes "case=1") no_bytes o ≡ false → case_reading g u ≡ refused (at_line 12 1)
    go none c z = bind-refused _ _ (at_line 12 1) (or_refuse-of-none (cut_line u) (at_line 12 1) c)
    go (some p) c z =
        bind-step _ _ p (refused (at_line 12 1)) (or_refuse-of-some (cut_line u) (at_line 12 1) p c)
        (bind-refused _ _ (at_line 12 1) (check-of-false (same p.0 (bytes "case=1")) (at_line 12 1) (sym (key-alone (bytes "case=1") p.0) ∙ z)))

size-fails : (g : Signature) (u : List ℕ) → is_laid_out (keyed (bytes "size=") size_digit) u ≡ false → (cut_or_refuse 2 u >>= case_size g) ≡ refused (at_line 12 2)
unfolding is_laid_out has_form
size-fails g u h = go (cut_line u) refl h
  where
    value : (p : Cut) → (o : Option (List ℕ)) → after_key (bytes "size=") p.0 ≡ o → value_has_form size_digit o ≡ false → case_size g p ≡ refused (at_line 12 2)
    value p none e z = bind-refused _ _ (at_line 12 2) (or_refuse-of-none (after_key (bytes "size=") p.0) (at_line 12 2) e)
    value p (some v) e z =
        bind-step _ _ v (refused (at_line 12 2)) (or_refuse-of-some (after_key (bytes "size=") p.0) (at_line 12 2) v e)
        (bind-refused _ _ (at_line 12 2) (or_refuse-of-none (size_of v) (at_line 12 2) (none_of (size_of v) z)))

    go : (o : Option Cut) → cut_line u ≡ o → line_has_form (bytes "size=") size_digit o ≡ false → (cut_or_refuse 2 u >>= case_size g) ≡ refused (at_line 12 2)
    go none c z = bind-refused _ _ (at_line 12 2) (or_refuse-of-none (cut_line u) (at_line 12 2) c)
    go (some p) c z = bind-step _ _ p (refused (at_line 12 2)) (or_refuse-of-some (cut_line u) (at_line 12 2) p c) (value p (after_key (bytes "size=") p.0) refl z)

end-fails : (s : ℕ) (g : Signature) (vs u : List ℕ) → is_laid_out no_line u ≡ false → case_end s g (vs, u) ≡ refused (at_line 12 (3 + length g))
unfolding is_laid_out
end-fails s g vs u h = bind-refused _ _ (at_line 12 (3 + length g)) (check-of-false (same u []) (at_line 12 (3 + length g)) h)

module _ (g : Signature) (text : List ℕ) (names : all (λ (f : Symbol). all in_line f.name) g ≡ true) (l : ℕ) where
  abbrev R : Refusal
  R = at_line 12 (suc l)

  abbrev due : ℕ → LineForm
  due = due_in_case g text

  read_tables-stops : (s : ℕ) (fs : Signature) (i m : ℕ) (t : List ℕ) → i ≡ suc m → ReadUpTo text m t → ((j : ℕ) → due (m + j) ≡ get_or (map (table_form s) fs) j no_line) → read_tables s fs i t ≡ refused R
      → Stops text due 12 l (read_tables s fs i) t
  unfolding read_tables
  read_tables-stops s [] i m t q a d e = let z : ◌≡◌ {A = ℕ} 0 1 = cc in absurd (omega arith)
  read_tables-stops s (f ∷ fs) i m t q a d e =
      let m₀ : m + 0 ≡ m = omega arith in
      let d₀ : due m ≡ table_form s f = ap due (sym m₀) ∙ d 0 in
      let d₊ : (j : ℕ) → due (suc m + j) ≡ get_or (map (table_form s) fs) j no_line = λ j. let r : suc m + j ≡ m + suc j = omega arith in ap due r ∙ d (suc j) in
      unrefused (read_table s f i t) _ R e
      (λ h. stops_first text due 12 l (read_table s f i) _ t (stops-here text due 12 l (read_table s f i) i m (table_form s f) t (read_table-line s f i t R h) q a d₀ (read_table-fails s f i)))
      λ (p : (List ℕ) × List ℕ) h₁ e₁.
      stops-bind text due 12 l (read_table s f i) _ t p (read_table-took s f i t p h₁)
      (unrefused (read_tables s fs (suc i) p.1) _ R e₁
      (λ h. stops_first text due 12 l (read_tables s fs (suc i)) _ p.1 (read_tables-stops s fs (suc i) (suc m) p.1 (ap suc q) (table-next g text names s f i m t p a h₁) d₊ h))
      (λ r _ e₂. let z : ◌≡◌ {A = ℕ} 0 1 = cc in absurd (omega arith)))

  pub case-again : read_case g text ≡ refused R → Stops text due 12 l (case_reading g) text
  case-again e₀ =
      let e : case_reading g text ≡ refused R = sym (read_case-parts g text) ∙ e₀ in
      let start : ReadUpTo text 0 text = record { cuts = tt; here = refl } in
      let first : suc l ≡ 1 → Stops text due 12 l (case_reading g) text =
      λ h. stops-here text due 12 l (case_reading g) 1 0 (keyed (bytes "case=1") no_bytes) text h refl start (headings g text names).0 (heading-fails g) in
      unrefused (cut_or_refuse 1 text) (case_heading g) R e (λ h. first (on_line 12 1 R (or_refuse-line (cut_line text) (at_line 12 1) R h))) λ (a : Cut) ha e₁.
      unrefused (check (same a.0 (bytes "case=1")) (at_line 12 1)) _ R e₁ (λ h. first (on_line 12 1 R (check-line (same a.0 (bytes "case=1")) (at_line 12 1) R h))) λ (x : Unit {0}) hx e₂.
      let ca : cut_line text ≡ some a = or_refuse-some (cut_line text) (at_line 12 1) a ha in
      let a₁ : ReadUpTo text 1 a.1 = at_cut text 0 text a start ca in
      let second : suc l ≡ 2 → Stops text due 12 l (λ u. cut_or_refuse 2 u >>= case_size g) a.1 =
      λ h. stops-here text due 12 l (λ u. cut_or_refuse 2 u >>= case_size g) 2 1 (keyed (bytes "size=") size_digit) a.1 h refl a₁ (headings g text names).1 (size-fails g) in
      stops-bind text due 12 l (cut_or_refuse 1) (case_heading g) text a (cut-took 1 text a ha)
      (stops-after text due 12 l (check (same a.0 (bytes "case=1")) (at_line 12 1)) x (λ _ u. cut_or_refuse 2 u >>= case_size g) a.1 hx
      (unrefused (cut_or_refuse 2 a.1) (case_size g) R e₂ (λ h. second (on_line 12 2 R (or_refuse-line (cut_line a.1) (at_line 12 2) R h))) λ (b : Cut) hb e₃.
      unrefused (or_refuse (after_key (bytes "size=") b.0) (at_line 12 2)) _ R e₃ (λ h. second (on_line 12 2 R (or_refuse-line (after_key (bytes "size=") b.0) (at_line 12 2) R h))) λ (v : List ℕ) hv e₄.
      unrefused (or_refuse (size_of v) (at_line 12 2)) _ R e₄ (λ h. second (on_line 12 2 R (or_refuse-line (size_of v) (at_line 12 2) R h))) λ (s : ℕ) hs e₅.
      let cb : cut_line a.1 ≡ some b = or_refuse-some (cut_line a.1) (at_line 12 2) b hb in
      let on : size_on text ≡ s =
      sized g text names b v s a.1 a₁ cb (or_refuse-some (after_key (bytes "size=") b.0) (at_line 12 2) v hv) (or_refuse-some (size_of v) (at_line 12 2) s hs) in
      let a₂ : ReadUpTo text 2 b.1 = at_cut text 1 a.1 b a₁ cb in
      let tables : (i : ℕ) → due (2 + i) ≡ get_or (map (table_form s) g) i no_line = tables-due g text names s on in
      let pos : 1 ≤ s = (size-only v s (or_refuse-some (size_of v) (at_line 12 2) s hs)).0 in
      stops-bind text due 12 l (cut_or_refuse 2) (case_size g) a.1 b (cut-took 2 a.1 b hb)
      (stops-after text due 12 l (or_refuse (after_key (bytes "size=") b.0) (at_line 12 2)) v (λ v u. or_refuse (size_of v) (at_line 12 2) >>= λ s. case_tables g s u) b.1 hv
      (stops-after text due 12 l (or_refuse (size_of v) (at_line 12 2)) s (λ s u. case_tables g s u) b.1 hs
      (unrefused (read_tables s g 3 b.1) (case_end s g) R e₅
      (λ h. stops_first text due 12 l (read_tables s g 3) (case_end s g) b.1 (read_tables-stops s g 3 2 b.1 refl a₂ tables h))
      λ (t : (List ℕ) × List ℕ) ht e₆.
      let l₃ : 3 + length g ≡ suc (2 + length g) = omega arith in
      stops-bind text due 12 l (read_tables s g 3) (case_end s g) b.1 t (read_tables-took s g 3 b.1 t ht)
      (unrefused (check (same t.1 []) (at_line 12 (3 + length g))) _ R e₆
      (λ h. stops-here text due 12 l (λ u. case_end s g (t.0, u)) (3 + length g) (2 + length g) no_line t.1
      (on_line 12 (3 + length g) R (check-line (same t.1 []) (at_line 12 (3 + length g)) R h)) l₃ (tables-next g text names s pos g 3 2 b.1 t a₂ ht)
      (tables (length g) ∙ past-tables g text names s g) (λ u z. end-fails s g t.0 u z))
      (λ y _ e₇. let z : ◌≡◌ {A = ℕ} 0 1 = cc in absurd (omega arith))))))))
