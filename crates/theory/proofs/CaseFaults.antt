-- Where a case is refused: the lines before are ended by LF, and the line is not as laid out.
use Prim.Native.Nat.{ℕ, suc, ◌+◌, ◌≤◌}
use mathlib.Core.Path.{◌≡◌, refl, sym, ap, ◌∙◌, subst}
use mathlib.Core.Bool.{Bool, true, false, cond, ◌&&◌}
use mathlib.Core.Option.{Option, none, some}
use mathlib.Core.List.{List, [], ◌∷◌, ◌++◌, map}
use native.Mathlib.Nat.{one-le-pow}
use native.Mathlib.Omega.{arith}
use lib.Dec.{eqb}
use lib.ListN.{length, get_or, drop}
use Rattle.theory.specs.Lists.{all, same, or_zero}
use Rattle.theory.specs.Bytes.{bytes}
use Rattle.theory.specs.Syntax.{Symbol, Signature}
use Rattle.theory.specs.Cells.{table_size}
use Rattle.theory.specs.Refusals.{Refusal, answer, refused, at_line, check, or_refuse}
use Rattle.theory.specs.Lines.{Cut, cut_line, after_key}
use Rattle.theory.specs.CaseText.{equals_sign, unjoined, is_value_byte, read_table, read_tables, size_of, read_case}
use Rattle.theory.specs.LineForms.{ValueForm, no_bytes, size_digit, cell_values, LineForm, keyed, no_line, is_some, are_cells, has_form, value_has_form, line_has_form, is_laid_out}
use Rattle.theory.specs.DueLines.{cut_or, first_line, from_line, size_on, table_form, due_in_case}
use Rattle.theory.proofs.Tests.{eqb-sym, and_left, and_right, and-join}
use Rattle.theory.proofs.Lists.{all_append}
use Rattle.theory.proofs.Answers.{unbind, answer-inj, or_refuse-some, RefusedSo, bind-so, check-so, or_refuse-so, refused-so}
use Rattle.theory.proofs.Lines.{in_line, key-only}
use Rattle.theory.proofs.CaseText.{size-only}
use Rattle.theory.proofs.LineTexts.{CanBeLaidOut}
use Rattle.theory.proofs.LinesBefore.{Cuts, ReadUpTo, at_cut}

-- a line that is only its key
pub key-alone : (key l : List ℕ) → value_has_form no_bytes (after_key key l) ≡ same l key
unfolding has_form
key-alone [] l = refl
key-alone (k ∷ ks) [] = refl
key-alone (k ∷ ks) (b ∷ bs) = go (eqb k b) (key-alone ks bs) ∙ ap (λ (q : Bool). q && same bs ks) (eqb-sym k b)
  where
    go : (q : Bool) → value_has_form no_bytes (after_key ks bs) ≡ same bs ks → value_has_form no_bytes (cond q (after_key ks bs) none) ≡ (q && same bs ks)
    go true ih = ih
    go false ih = refl

module _ (g : Signature) (text : List ℕ) (names : all (λ (f : Symbol). all in_line f.name) g ≡ true) where
  -- the lines before line l are ended by LF, and it is not as laid out; something is so laid out
  pub record Misfit (l : ℕ) : Type 0 where
    pub cuts : Cuts l text
    pub twelve : is_laid_out (due_in_case g text l) (from_line l text) ≡ false
    pub can : CanBeLaidOut (due_in_case g text l)

  -- the refusal, if it names a line, is of that line
  abbrev Misfits : Refusal → Type 0
  Misfits r = (l : ℕ) → r.place.line ≡ suc l → Misfit l

  misfit : (l m : ℕ) (t : List ℕ) (d : LineForm) → l ≡ suc m → ReadUpTo text m t → due_in_case g text m ≡ d → CanBeLaidOut d → is_laid_out d t ≡ false → Misfits (at_line 12 l)
  misfit l m t d e a q c h i k =
      let s : m ≡ i = omega (arith, e, k) in
      subst Misfit s (record {
        cuts = a.cuts;
        twelve = ap (λ (d : LineForm). is_laid_out d (from_line m text)) q ∙ ap (is_laid_out d) a.here ∙ h;
        can = subst CanBeLaidOut (sym q) c;
      })

  read_table-misfits : (s : ℕ) (f : Symbol) (l m : ℕ) (t : List ℕ) → l ≡ suc m → ReadUpTo text m t → due_in_case g text m ≡ table_form s f → CanBeLaidOut (table_form s f) → RefusedSo Misfits (read_table s f l t)
  unfolding read_table is_laid_out has_form
  read_table-misfits s f l m t e a d c =
      let key : List ℕ = f.name ++ (equals_sign ∷ []) in
      let x : ValueForm = cell_values s f.kind (table_size s f) in
      bind-so Misfits (or_refuse (cut_line t) (at_line 12 l)) _
      (or_refuse-so Misfits (cut_line t) (at_line 12 l) (λ n. misfit l m t (table_form s f) e a d c (ap (line_has_form key x) n)))
      (λ p hp. let cut : cut_line t ≡ some p = or_refuse-some (cut_line t) (at_line 12 l) p hp in
      bind-so Misfits (or_refuse (after_key key p.0) (at_line 12 l)) _
      (or_refuse-so Misfits (after_key key p.0) (at_line 12 l) (λ n. misfit l m t (table_form s f) e a d c (ap (line_has_form key x) cut ∙ ap (value_has_form x) n)))
      (λ v hv. let value : is_laid_out (table_form s f) t ≡ are_cells s f.kind (table_size s f) (unjoined v) =
      ap (line_has_form key x) cut ∙ ap (value_has_form x) (or_refuse-some (after_key key p.0) (at_line 12 l) v hv) in
      bind-so Misfits (or_refuse (unjoined v) (at_line 12 l)) _
      (or_refuse-so Misfits (unjoined v) (at_line 12 l) (λ n. misfit l m t (table_form s f) e a d c (value ∙ ap (are_cells s f.kind (table_size s f)) n)))
      (λ bs hb. bind-so Misfits (check (eqb (length bs) (table_size s f) && all (is_value_byte s f.kind) bs) (at_line 12 l)) _
      (check-so Misfits (eqb (length bs) (table_size s f) && all (is_value_byte s f.kind) bs) (at_line 12 l)
      (λ n. misfit l m t (table_form s f) e a d c (value ∙ ap (are_cells s f.kind (table_size s f)) (or_refuse-some (unjoined v) (at_line 12 l) bs hb) ∙ n)))
      (λ _ _. tt))))

  pub table-next : (s : ℕ) (f : Symbol) (l m : ℕ) (t : List ℕ) (r : (List ℕ) × List ℕ) → ReadUpTo text m t → read_table s f l t ≡ answer r → ReadUpTo text (suc m) r.1
  unfolding read_table
  table-next s f l m t r a e =
      unbind _ _ r e λ (p : Cut) h₁ e₁.
      unbind _ _ r e₁ λ (v : List ℕ) _ e₂.
      unbind _ _ r e₂ λ (bs : List ℕ) _ e₃.
      unbind _ _ r e₃ λ (u : Unit {0}) _ e₄.
      subst (λ (r : (List ℕ) × List ℕ). ReadUpTo text (suc m) r.1) (answer-inj _ r e₄) (at_cut text m t p a (or_refuse-some (cut_line t) (at_line 12 l) p h₁))

  module _ (s : ℕ) (pos : 1 ≤ s) where
    table-can : (f : Symbol) → all in_line f.name ≡ true → CanBeLaidOut (table_form s f)
    table-can f h = (all_append in_line f.name (equals_sign ∷ []) ∙ and-join (all in_line f.name) true h refl, (pos, one-le-pow f.arity s pos))

    -- the lines of the symbols fs, which are due from line m on
    read_tables-misfits : (fs : Signature) (l m : ℕ) (t : List ℕ) → all (λ (f : Symbol). all in_line f.name) fs ≡ true → l ≡ suc m → ReadUpTo text m t
        → ((i : ℕ) → due_in_case g text (m + i) ≡ get_or (map (table_form s) fs) i no_line) → RefusedSo Misfits (read_tables s fs l t)
    unfolding read_tables
    read_tables-misfits [] l m t n e a d = tt
    read_tables-misfits (f ∷ fs) l m t n e a d =
        let m₀ : m + 0 ≡ m = omega arith in
        let d₀ : due_in_case g text m ≡ table_form s f = ap (due_in_case g text) (sym m₀) ∙ d 0 in
        let d₊ : (i : ℕ) → due_in_case g text (suc m + i) ≡ get_or (map (table_form s) fs) i no_line = λ i. let q : suc m + i ≡ m + suc i = omega arith in ap (due_in_case g text) q ∙ d (suc i) in
        bind-so Misfits (read_table s f l t) _ (read_table-misfits s f l m t e a d₀ (table-can f (and_left (all in_line f.name) (all (λ (f : Symbol). all in_line f.name) fs) n)))
        (λ p hp. bind-so Misfits (read_tables s fs (suc l) p.1) _
        (read_tables-misfits fs (suc l) (suc m) p.1 (and_right (all in_line f.name) (all (λ (f : Symbol). all in_line f.name) fs) n) (ap suc e) (table-next s f l m t p a hp) d₊) (λ _ _. tt))

    pub tables-next : (fs : Signature) (l m : ℕ) (t : List ℕ) (r : (List ℕ) × List ℕ) → ReadUpTo text m t → read_tables s fs l t ≡ answer r → ReadUpTo text (m + length fs) r.1
    unfolding read_tables
    tables-next [] l m t r a e =
        let m₀ : m ≡ m + 0 = omega arith in
        subst (λ (r : (List ℕ) × List ℕ). ReadUpTo text (m + 0) r.1) (answer-inj ([], t) r e) (subst (λ (i : ℕ). ReadUpTo text i t) m₀ a)
    tables-next (f ∷ fs) l m t r a e =
        unbind _ _ r e λ (p : (List ℕ) × List ℕ) h₁ e₁.
        unbind _ _ r e₁ λ (q : (List ℕ) × List ℕ) h₂ e₂.
        let m₊ : suc m + length fs ≡ m + suc (length fs) = omega arith in
        let next : ReadUpTo text (suc m + length fs) q.1 = tables-next fs (suc l) (suc m) p.1 q (table-next s f l m t p a h₁) h₂ in
        subst (λ (r : (List ℕ) × List ℕ). ReadUpTo text (m + suc (length fs)) r.1) (answer-inj (p.0 ++ q.0, q.1) r e₂) (subst (λ (i : ℕ). ReadUpTo text i q.1) m₊ next)

  pub headings : (due_in_case g text 0 ≡ keyed (bytes "case=1") no_bytes) × (due_in_case g text 1 ≡ keyed (bytes "size=") size_digit)
  unfolding due_in_case
  headings = (refl, refl)

  pub tables-due : (s : ℕ) → size_on text ≡ s → (i : ℕ) → due_in_case g text (2 + i) ≡ get_or (map (table_form s) g) i no_line
  unfolding due_in_case
  tables-due s e i =
      let q : 2 + i ≡ suc (suc i) = omega arith in
      ap (λ (k : ℕ). get_or (keyed (bytes "case=1") no_bytes ∷ keyed (bytes "size=") size_digit ∷ map (table_form (size_on text)) g) k no_line) q ∙ ap (λ (s : ℕ). get_or (map (table_form s) g) i no_line) e

  pub past-tables : (s : ℕ) (fs : Signature) → get_or (map (table_form s) fs) (length fs) no_line ≡ no_line
  past-tables s [] = refl
  past-tables s (f ∷ fs) = past-tables s fs

  pub sized : (b : Cut) (v : List ℕ) (s : ℕ) (t : List ℕ) → ReadUpTo text 1 t → cut_line t ≡ some b → after_key (bytes "size=") b.0 ≡ some v → size_of v ≡ some s → size_on text ≡ s
  unfolding size_on
  sized b v s t a c k z =
      let dropped : drop 5 b.0 ≡ v = ap (drop 5) (sym (key-only (bytes "size=") b.0 v k)) in
      ap (λ (t : List ℕ). or_zero (size_of (drop 5 (first_line t)))) a.here ∙ ap (λ (o : Option Cut). or_zero (size_of (drop 5 (cut_or t o)))) c ∙ ap (λ (v : List ℕ). or_zero (size_of v)) dropped ∙ ap or_zero z

  read_case-misfits : RefusedSo Misfits (read_case g text)
  unfolding read_case is_laid_out has_form
  read_case-misfits =
      let start : ReadUpTo text 0 text = record { cuts = tt; here = refl } in
      let first : LineForm = keyed (bytes "case=1") no_bytes in
      let second : LineForm = keyed (bytes "size=") size_digit in
      bind-so Misfits (or_refuse (cut_line text) (at_line 12 1)) _
      (or_refuse-so Misfits (cut_line text) (at_line 12 1) (λ n. misfit 1 0 text first refl start headings.0 (refl, tt) (ap (line_has_form (bytes "case=1") no_bytes) n)))
      (λ a ha. let ca : cut_line text ≡ some a = or_refuse-some (cut_line text) (at_line 12 1) a ha in
      let a₁ : ReadUpTo text 1 a.1 = at_cut text 0 text a start ca in
      bind-so Misfits (check (same a.0 (bytes "case=1")) (at_line 12 1)) _
      (check-so Misfits (same a.0 (bytes "case=1")) (at_line 12 1)
      (λ n. misfit 1 0 text first refl start headings.0 (refl, tt) (ap (line_has_form (bytes "case=1") no_bytes) ca ∙ key-alone (bytes "case=1") a.0 ∙ n)))
      (λ _ _. bind-so Misfits (or_refuse (cut_line a.1) (at_line 12 2)) _
      (or_refuse-so Misfits (cut_line a.1) (at_line 12 2) (λ n. misfit 2 1 a.1 second refl a₁ headings.1 (refl, tt) (ap (line_has_form (bytes "size=") size_digit) n)))
      (λ b hb. let cb : cut_line a.1 ≡ some b = or_refuse-some (cut_line a.1) (at_line 12 2) b hb in
      bind-so Misfits (or_refuse (after_key (bytes "size=") b.0) (at_line 12 2)) _
      (or_refuse-so Misfits (after_key (bytes "size=") b.0) (at_line 12 2)
      (λ n. misfit 2 1 a.1 second refl a₁ headings.1 (refl, tt) (ap (line_has_form (bytes "size=") size_digit) cb ∙ ap (value_has_form size_digit) n)))
      (λ v hv. let cv : after_key (bytes "size=") b.0 ≡ some v = or_refuse-some (after_key (bytes "size=") b.0) (at_line 12 2) v hv in
      bind-so Misfits (or_refuse (size_of v) (at_line 12 2)) _
      (or_refuse-so Misfits (size_of v) (at_line 12 2)
      (λ n. misfit 2 1 a.1 second refl a₁ headings.1 (refl, tt) (ap (line_has_form (bytes "size=") size_digit) cb ∙ ap (value_has_form size_digit) cv ∙ ap is_some n)))
      (λ s hs. let cs : size_of v ≡ some s = or_refuse-some (size_of v) (at_line 12 2) s hs in
      let pos : 1 ≤ s = (size-only v s cs).0 in
      let on : size_on text ≡ s = sized b v s a.1 a₁ cb cv cs in
      let a₂ : ReadUpTo text 2 b.1 = at_cut text 1 a.1 b a₁ cb in
      let due : (i : ℕ) → due_in_case g text (2 + i) ≡ get_or (map (table_form s) g) i no_line = tables-due s on in
      bind-so Misfits (read_tables s g 3 b.1) _ (read_tables-misfits s pos g 3 2 b.1 names refl a₂ due)
      (λ t ht. let l₃ : 3 + length g ≡ suc (2 + length g) = omega arith in
      bind-so Misfits (check (same t.1 []) (at_line 12 (3 + length g))) _
      (check-so Misfits (same t.1 []) (at_line 12 (3 + length g))
      (λ n. misfit (3 + length g) (2 + length g) t.1 no_line l₃ (tables-next s pos g 3 2 b.1 t a₂ ht) (due (length g) ∙ past-tables s g) tt n)) (λ _ _. tt)))))))

  -- a refusal of the case is of a line that is not as laid out
  pub case-misfit : (l : ℕ) → read_case g text ≡ refused (at_line 12 (suc l)) → Misfit l
  case-misfit l e = refused-so Misfits (read_case g text) (at_line 12 (suc l)) read_case-misfits e l refl
