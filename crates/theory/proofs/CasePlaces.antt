-- Where a case is refused: the bytes before the line and the good bytes of the line are together no more than those of a longest case.
use Prim.Native.Nat.{ℕ, zero, suc, ◌+◌, ◌*◌, ◌≤◌}
use mathlib.Core.Path.{◌≡◌, refl, sym, ap, ◌∙◌}
use mathlib.Core.Bool.{Bool, true, false, cond}
use mathlib.Core.Option.{some}
use mathlib.Core.List.{List, [], ◌∷◌, ◌++◌, map}
use native.Mathlib.Nat.{one-le-pow}
use native.Mathlib.Omega.{arith}
use lib.Dec.{eqb}
use lib.ListN.{length, get_or, length-append}
use Rattle.theory.specs.Lists.{all, same, sum}
use Rattle.theory.specs.Bytes.{bytes, LF}
use Rattle.theory.specs.Syntax.{Kind, Symbol, Signature}
use Rattle.theory.specs.Cells.{table_size}
use Rattle.theory.specs.Refusals.{Refusal, refused, at_line, check, or_refuse}
use Rattle.theory.specs.Lines.{Cut, cut_line, after_key}
use Rattle.theory.specs.CaseText.{equals_sign, table_text, tables_text, read_table, read_tables, size_of, read_case}
use Rattle.theory.specs.LineForms.{ValueForm, no_bytes, size_digit, cell_values, LineForm, keyed, no_line, passing, is_size_byte, spaced_tests, cell_tests, good_value, good_line, good_bytes}
use Rattle.theory.specs.DueLines.{first_line, from_line, table_form, due_in_case}
use Rattle.theory.proofs.Lists.{same_true}
use Rattle.theory.proofs.Answers.{unrefused, check-true, or_refuse-some}
use Rattle.theory.proofs.Lines.{in_line, cut-only, key-only}
use Rattle.theory.proofs.CaseText.{table-only, tables-only, size-only}
use Rattle.theory.proofs.CaseLengths.{line_length, table-length, tables-length}
use Rattle.theory.proofs.LinesBefore.{ReadUpTo, at_cut}
use Rattle.theory.proofs.Stopping.{or_refuse-line, check-line, on_line}
use Rattle.theory.proofs.CaseFaults.{table-next, tables-next, headings, tables-due, past-tables, sized}
use Rattle.theory.proofs.CaseAgain.{read_table-line}

passing-short : (ts : List (ℕ → Bool)) (bs : List ℕ) → passing ts bs ≤ length ts
passing-short [] bs = omega arith
passing-short (t ∷ ts) [] = omega arith
passing-short (t ∷ ts) (b ∷ bs) = go (t b) (passing-short ts bs)
  where
    go : (q : Bool) → passing ts bs ≤ length ts → cond q (suc (passing ts bs)) 0 ≤ suc (length ts)
    go true h = omega arith
    go false h = omega arith

spaced-tests : (s : ℕ) (k : Kind) (n : ℕ) → length (spaced_tests s k n) ≡ 2 * n
spaced-tests s k zero = refl
spaced-tests s k (suc n) = omega (arith, spaced-tests s k n)

cell-tests : (s : ℕ) (k : Kind) (n : ℕ) → 1 ≤ n → suc (length (cell_tests s k n)) ≡ 2 * n
cell-tests s k zero h = absurd (omega arith)
cell-tests s k (suc n) h = omega (arith, spaced-tests s k n)

-- a line's good bytes are at most those of its key and of its value
line-short : (key : List ℕ) (v : ValueForm) (n : ℕ) → ((w : List ℕ) → good_value v w ≤ n) → (bs : List ℕ) → good_line key v bs ≤ length key + n
unfolding good_line
line-short [] v n h bs = omega (arith, h bs)
line-short (k ∷ ks) v n h [] = omega arith
line-short (k ∷ ks) v n h (b ∷ bs) = go (eqb k b) (line-short ks v n h bs)
  where
    go : (q : Bool) → good_line ks v bs ≤ length ks + n → cond q (suc (good_line ks v bs)) 0 ≤ suc (length ks) + n
    go true j = omega arith
    go false j = omega arith

heading-short : (l : List ℕ) → good_bytes (keyed (bytes "case=1") no_bytes) l ≤ 6
unfolding good_value
heading-short l = line-short (bytes "case=1") no_bytes 0 (λ w. omega arith) l

size-short : (l : List ℕ) → good_bytes (keyed (bytes "size=") size_digit) l ≤ 6
unfolding good_value
size-short l = line-short (bytes "size=") size_digit 1 (λ w. passing-short (is_size_byte ∷ []) w) l

-- the LF of a symbol's line comes after them
table-short : (s : ℕ) (f : Symbol) → 1 ≤ s → (l : List ℕ) → suc (good_bytes (table_form s f) l) ≤ line_length s f
unfolding good_value
table-short s f pos l =
    let n : ℕ = table_size s f in
    let ts : List (ℕ → Bool) = cell_tests s f.kind n in
    let key : List ℕ = f.name ++ (equals_sign ∷ []) in
    omega (
      arith,
      line-short key (cell_values s f.kind n) (length ts) (λ w. passing-short ts w) l,
      cell-tests s f.kind n (one-le-pow f.arity s pos),
      length-append f.name (equals_sign ∷ []),
    )

module _ (g : Signature) (text : List ℕ) (names : all (λ (f : Symbol). all in_line f.name) g ≡ true) (n : ℕ) where
  -- the refusal names a line; the bytes before it and its good bytes are at most n
  pub record PlacedWithin (r : Refusal) : Type 0 where
    pub before : ℕ
    pub line : r.place.line ≡ suc before
    pub room : length text + good_bytes (due_in_case g text before) (first_line (from_line before text)) ≤ length (from_line before text) + n

  within : (l m : ℕ) (t : List ℕ) (d : LineForm) (c : ℕ) → l ≡ suc m → from_line m text ≡ t → due_in_case g text m ≡ d → ((x : List ℕ) → good_bytes d x ≤ c)
      → length text + c ≤ length t + n → (r : Refusal) → r.place.line ≡ l → PlacedWithin r
  within l m t d c e here due short room r k =
      let x : List ℕ = first_line (from_line m text) in
      record { before = m; line = k ∙ e; room = omega (arith, room, short x, ap (λ (d : LineForm). good_bytes d x) due, ap length here) }

  tables-within : (s : ℕ) → 1 ≤ s → (fs : Signature) (l m : ℕ) (t : List ℕ) → l ≡ suc m → ReadUpTo text m t → ((j : ℕ) → due_in_case g text (m + j) ≡ get_or (map (table_form s) fs) j no_line)
      → length text + sum (map (line_length s) fs) ≤ length t + n → (r : Refusal) → read_tables s fs l t ≡ refused r → PlacedWithin r
  unfolding read_tables
  tables-within s pos [] l m t q a d room r e = let z : ◌≡◌ {A = ℕ} 0 1 = cc in absurd (omega arith)
  tables-within s pos (f ∷ fs) l m t q a d room r e =
      let m₀ : m + 0 ≡ m = omega arith in
      let d₀ : due_in_case g text m ≡ table_form s f = ap (due_in_case g text) (sym m₀) ∙ d 0 in
      let d₊ : (j : ℕ) → due_in_case g text (suc m + j) ≡ get_or (map (table_form s) fs) j no_line = λ j. let k : suc m + j ≡ m + suc j = omega arith in ap (due_in_case g text) k ∙ d (suc j) in
      unrefused (read_table s f l t) _ r e
      (λ h. within l m t (table_form s f) (line_length s f) q a.here d₀ (λ x. omega (arith, table-short s f pos x)) (omega (arith, room)) r (read_table-line s f l t r h))
      λ (p : (List ℕ) × List ℕ) h₁ e₁.
      let o = table-only s f l t p h₁ in
      let long : length t ≡ line_length s f + length p.1 = sym (ap length o.1) ∙ length-append (table_text f p.0) p.1 ∙ ap (λ (k : ℕ). k + length p.1) (table-length s f p.0 pos o.0) in
      unrefused (read_tables s fs (suc l) p.1) _ r e₁
      (λ h. tables-within s pos fs (suc l) (suc m) p.1 (ap suc q) (table-next g text names s f l m t p a h₁) d₊ (omega (arith, room, long)) r h)
      (λ x _ e₂. let z : ◌≡◌ {A = ℕ} 0 1 = cc in absurd (omega arith))

  pub case-within : ((s : ℕ) → s ≤ 8 → 14 + sum (map (line_length s) g) ≤ n) → (r : Refusal) → read_case g text ≡ refused r → PlacedWithin r
  unfolding read_case
  case-within longest r e =
      let least : 14 ≤ n = omega (arith, longest 1 (omega arith)) in
      let start : ReadUpTo text 0 text = record { cuts = tt; here = refl } in
      let first : r.place.line ≡ 1 → PlacedWithin r = within 1 0 text (keyed (bytes "case=1") no_bytes) 6 refl refl (headings g text names).0 heading-short (omega arith) r in
      unrefused (or_refuse (cut_line text) (at_line 12 1)) _ r e (λ h. first (on_line 12 1 r (or_refuse-line (cut_line text) (at_line 12 1) r h))) λ (a : Cut) ha e₁.
      unrefused (check (same a.0 (bytes "case=1")) (at_line 12 1)) _ r e₁ (λ h. first (on_line 12 1 r (check-line (same a.0 (bytes "case=1")) (at_line 12 1) r h))) λ (x : Unit {0}) hx e₂.
      let ca : cut_line text ≡ some a = or_refuse-some (cut_line text) (at_line 12 1) a ha in
      let a₁ : ReadUpTo text 1 a.1 = at_cut text 0 text a start ca in
      let seven : length text ≡ 7 + length a.1 =
      sym (ap length (cut-only text a ca)) ∙ length-append a.0 (LF ∷ a.1)
      ∙ omega (arith, ap length (same_true a.0 (bytes "case=1") (check-true (same a.0 (bytes "case=1")) (at_line 12 1) x hx))) in
      let second : r.place.line ≡ 2 → PlacedWithin r = within 2 1 a.1 (keyed (bytes "size=") size_digit) 6 refl a₁.here (headings g text names).1 size-short (omega (arith, seven)) r in
      unrefused (or_refuse (cut_line a.1) (at_line 12 2)) _ r e₂ (λ h. second (on_line 12 2 r (or_refuse-line (cut_line a.1) (at_line 12 2) r h))) λ (b : Cut) hb e₃.
      unrefused (or_refuse (after_key (bytes "size=") b.0) (at_line 12 2)) _ r e₃ (λ h. second (on_line 12 2 r (or_refuse-line (after_key (bytes "size=") b.0) (at_line 12 2) r h))) λ (v : List ℕ) hv e₄.
      unrefused (or_refuse (size_of v) (at_line 12 2)) _ r e₄ (λ h. second (on_line 12 2 r (or_refuse-line (size_of v) (at_line 12 2) r h))) λ (s : ℕ) hs e₅.
      let cb : cut_line a.1 ≡ some b = or_refuse-some (cut_line a.1) (at_line 12 2) b hb in
      let cv : after_key (bytes "size=") b.0 ≡ some v = or_refuse-some (after_key (bytes "size=") b.0) (at_line 12 2) v hv in
      let cs : size_of v ≡ some s = or_refuse-some (size_of v) (at_line 12 2) s hs in
      let so = size-only v s cs in
      let a₂ : ReadUpTo text 2 b.1 = at_cut text 1 a.1 b a₁ cb in
      let fourteen : length text ≡ 14 + length b.1 =
      seven ∙ omega (arith, ap length (cut-only a.1 b cb), length-append b.0 (LF ∷ b.1), ap length (key-only (bytes "size=") b.0 v cv), ap length so.2) in
      let due : (i : ℕ) → due_in_case g text (2 + i) ≡ get_or (map (table_form s) g) i no_line = tables-due g text names s (sized g text names b v s a.1 a₁ cb cv cs) in
      unrefused (read_tables s g 3 b.1) _ r e₅ (λ h. tables-within s so.0 g 3 2 b.1 refl a₂ due (omega (arith, fourteen, longest s so.1)) r h) λ (t : (List ℕ) × List ℕ) ht e₆.
      let o = tables-only s g 3 b.1 t ht in
      let all_read : length b.1 ≡ sum (map (line_length s) g) + length t.1 =
      sym (ap length o.1) ∙ length-append (tables_text s g t.0) t.1 ∙ ap (λ (k : ℕ). k + length t.1) (tables-length s g t.0 so.0 o.0) in
      let a₃ : ReadUpTo text (2 + length g) t.1 = tables-next g text names s so.0 g 3 2 b.1 t a₂ ht in
      unrefused (check (same t.1 []) (at_line 12 (3 + length g))) _ r e₆
      (λ h. within (3 + length g) (2 + length g) t.1 no_line 0 (omega arith) a₃.here (due (length g) ∙ past-tables g text names s g) (λ x. omega arith)
      (omega (arith, fourteen, all_read, longest s so.1)) r (on_line 12 (3 + length g) r (check-line (same t.1 []) (at_line 12 (3 + length g)) r h)))
      (λ y _ e₇. let z : ◌≡◌ {A = ℕ} 0 1 = cc in absurd (omega arith))
