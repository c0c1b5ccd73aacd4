-- A text from a line on: with the bytes before the column something after them makes the line as laid out, with the column's byte nothing does.
use Prim.Native.Nat.{ℕ, zero, suc, ◌≤◌, ◌<◌}
use mathlib.Core.Path.{◌≡◌, refl, sym, ap, ◌∙◌}
use mathlib.Core.Logic.{◌⊎◌, inl, inr}
use mathlib.Core.Bool.{Bool, true, false, cond, not}
use mathlib.Core.Option.{Option, none, some, some-injective}
use mathlib.Core.List.{List, [], ◌∷◌, ◌++◌, append_assoc, append-nil}
use native.Mathlib.Nat.{eq-or-lt_of_le}
use native.Mathlib.Omega.{arith}
use lib.Dec.{eqb}
use lib.ListN.{length, take}
use lib.Seq.{take-append-le}
use Rattle.theory.specs.Lists.{all}
use Rattle.theory.specs.Bytes.{LF}
use Rattle.theory.specs.Lines.{Cut, add_front, cut_line, after_key}
use Rattle.theory.specs.LineForms.{ValueForm, LineForm, keyed, no_line, value_has_form, line_has_form, is_laid_out, good_value, good_line, good_bytes}
use Rattle.theory.specs.DueLines.{cut_or, first_line}
use Rattle.theory.proofs.Tests.{eqb_same, and_left, and_right, and-join, false_of_not}
use Rattle.theory.proofs.Lists.{all_append, all_take}
use Rattle.theory.proofs.Lines.{in_line, cut_line-is, cut-only}
use Rattle.theory.proofs.LineValues.{CanHaveForm, value-within, value_stays, value-clears}

line-within : (key : List ℕ) (v : ValueForm) (bs : List ℕ) → good_line key v bs ≤ length bs
unfolding good_line
line-within [] v bs = value-within v bs
line-within (k ∷ ks) v [] = omega arith
line-within (k ∷ ks) v (b ∷ bs) = go (eqb k b) (line-within ks v bs)
  where
    go : (q : Bool) → good_line ks v bs ≤ length bs → cond q (suc (good_line ks v bs)) 0 ≤ suc (length bs)
    go true h = omega arith
    go false h = omega arith

-- a line's bytes
line_stays : (key : List ℕ) (v : ValueForm) (bs rest : List ℕ) → CanHaveForm v → good_line key v bs < length bs → value_has_form v (after_key key (take (suc (good_line key v bs)) bs ++ rest)) ≡ false
unfolding good_line
line_stays [] v bs rest c h = value_stays v bs rest c h
line_stays (k ∷ ks) v [] rest c h = absurd (omega arith)
line_stays (k ∷ ks) v (b ∷ bs) rest c h = go (eqb k b) h (λ j. line_stays ks v bs rest c j)
  where
    go : (q : Bool) → cond q (suc (good_line ks v bs)) 0 < suc (length bs) → (good_line ks v bs < length bs → value_has_form v (after_key ks (take (suc (good_line ks v bs)) bs ++ rest)) ≡ false)
        → value_has_form v (cond q (after_key ks (take (cond q (suc (good_line ks v bs)) 0) bs ++ rest)) none) ≡ false
    go true j ih = ih (omega arith)
    go false j ih = refl

-- some bytes are such a line
line-whole : (key : List ℕ) (v : ValueForm) → all in_line key ≡ true → CanHaveForm v → (l : List ℕ) × (all in_line l ≡ true) × (value_has_form v (after_key key l) ≡ true)
line-whole [] v h c = let r = value-clears v [] c in (take (good_value v []) [] ++ r.0, short (good_value v []) r.0 r.1, r.2)
  where
    short : (n : ℕ) (l : List ℕ) → all in_line l ≡ true → all in_line (take n [] ++ l) ≡ true
    short zero l e = e
    short (suc n) l e = e
line-whole (k ∷ ks) v h c =
    let r = line-whole ks v (and_right (in_line k) (all in_line ks) h) c in
    (k ∷ r.0, and-join (in_line k) (all in_line r.0) (and_left (in_line k) (all in_line ks) h) r.1, ap (λ (q : Bool). value_has_form v (cond q (after_key ks r.0) none)) (eqb_same k) ∙ r.2)

line-clears : (key : List ℕ) (v : ValueForm) (bs : List ℕ) → all in_line key ≡ true → CanHaveForm v
    → (rest : List ℕ) × (all in_line rest ≡ true) × (value_has_form v (after_key key (take (good_line key v bs) bs ++ rest)) ≡ true)
unfolding good_line
line-clears [] v bs h c = value-clears v bs c
line-clears (k ∷ ks) v [] h c = line-whole (k ∷ ks) v h c
line-clears (k ∷ ks) v (b ∷ bs) h c = go (eqb k b) refl (line-clears ks v bs (and_right (in_line k) (all in_line ks) h) c)
  where
    go : (q : Bool) → eqb k b ≡ q → (rest : List ℕ) × (all in_line rest ≡ true) × (value_has_form v (after_key ks (take (good_line ks v bs) bs ++ rest)) ≡ true)
        → (rest : List ℕ) × (all in_line rest ≡ true) × (value_has_form v (after_key (k ∷ ks) (take (cond q (suc (good_line ks v bs)) 0) (b ∷ bs) ++ rest)) ≡ true)
    go true e r = (r.0, r.1, ap (λ (q : Bool). value_has_form v (cond q (after_key ks (take (good_line ks v bs) bs ++ r.0)) none)) e ∙ r.2)
    go false e r = line-whole (k ∷ ks) v h c

-- a line that is cut has no LF, and so has a text from which none is cut
pub cut-in_line : (t : List ℕ) (p : Cut) → cut_line t ≡ some p → all in_line p.0 ≡ true
cut-in_line [] p e = let z : ◌≡◌ {A = ℕ} 0 1 = cc in absurd (omega arith)
cut-in_line (b ∷ bs) p e = go (eqb b LF) refl (cut_line bs) refl e (λ q k. cut-in_line bs q k)
  where
    go : (t : Bool) → eqb b LF ≡ t → (o : Option Cut) → cut_line bs ≡ o → cond t (some ([], bs)) (add_front b o) ≡ some p
        → ((q : Cut) → cut_line bs ≡ some q → all in_line q.0 ≡ true) → all in_line p.0 ≡ true
    go true h o k z ih = ap (λ (p : Cut). all in_line p.0) (sym (some-injective ([], bs) p z))
    go false h none k z ih = let z : ◌≡◌ {A = ℕ} 0 1 = cc in absurd (omega arith)
    go false h (some q) k z ih =
        ap (λ (p : Cut). all in_line p.0) (sym (some-injective (b ∷ q.0, q.1) p z)) ∙ and-join (in_line b) (all in_line q.0) (ap not h) (ih q k)

uncut-in_line : (t : List ℕ) → cut_line t ≡ none → all in_line t ≡ true
uncut-in_line [] e = refl
uncut-in_line (b ∷ bs) e = go (eqb b LF) refl (cut_line bs) refl e (λ k. uncut-in_line bs k)
  where
    go : (t : Bool) → eqb b LF ≡ t → (o : Option Cut) → cut_line bs ≡ o → cond t (some ([], bs)) (add_front b o) ≡ none
        → (cut_line bs ≡ none → all in_line bs ≡ true) → all in_line (b ∷ bs) ≡ true
    go true h o k z ih = let z : ◌≡◌ {A = ℕ} 0 1 = cc in absurd (omega arith)
    go false h none k z ih = and-join (in_line b) (all in_line bs) (ap not h) (ih k)
    go false h (some q) k z ih = let z : ◌≡◌ {A = ℕ} 0 1 = cc in absurd (omega arith)

-- bytes without LF in front of a text
abbrev cut_behind : List ℕ → Option Cut → Option Cut
cut_behind xs none = none
cut_behind xs (some q) = some (xs ++ q.0, q.1)

cut-append : (xs ys : List ℕ) → all in_line xs ≡ true → cut_line (xs ++ ys) ≡ cut_behind xs (cut_line ys)
cut-append [] ys h = go (cut_line ys)
  where
    go : (o : Option Cut) → o ≡ cut_behind [] o
    go none = refl
    go (some q) = refl
cut-append (x ∷ xs) ys h =
    ap (λ (q : Bool). cond q (some ([], xs ++ ys)) (add_front x (cut_line (xs ++ ys)))) (false_of_not (eqb x LF) (and_left (in_line x) (all in_line xs) h))
    ∙ ap (add_front x) (cut-append xs ys (and_right (in_line x) (all in_line xs) h))
    ∙ go (cut_line ys)
  where
    go : (o : Option Cut) → add_front x (cut_behind xs o) ≡ cut_behind (x ∷ xs) o
    go none = refl
    go (some q) = refl

-- bytes that no line as laid out begins with
stuck : (key : List ℕ) (v : ValueForm) (xs rest : List ℕ) → all in_line xs ≡ true → ((r : List ℕ) → value_has_form v (after_key key (xs ++ r)) ≡ false) → is_laid_out (keyed key v) (xs ++ rest) ≡ false
unfolding is_laid_out
stuck key v xs rest h k = ap (line_has_form key v) (cut-append xs rest h) ∙ go (cut_line rest)
  where
    go : (o : Option Cut) → line_has_form key v (cut_behind xs o) ≡ false
    go none = refl
    go (some q) = k q.0

-- the first line of a text: its front, without LF
record Front (t : List ℕ) : Type 0 where
  pub rest : List ℕ
  pub whole : first_line t ++ rest ≡ t
  pub plain : all in_line (first_line t) ≡ true
  -- it is the whole text, or ended by LF
  pub ended : (rest ≡ []) ⊎ ((after : List ℕ) × (rest ≡ LF ∷ after))

front : (t : List ℕ) → Front t
front t = go (cut_line t) refl
  where
    go : (o : Option Cut) → cut_line t ≡ o → Front t
    go none e =
        let l : first_line t ≡ t = ap (cut_or t) e in
        record { rest = []; whole = append-nil (first_line t) ∙ l; plain = ap (all in_line) l ∙ uncut-in_line t e; ended = inl refl }
    go (some p) e =
        let l : first_line t ≡ p.0 = ap (cut_or t) e in
        record {
          rest = LF ∷ p.1;
          whole = ap (λ (l : List ℕ). l ++ (LF ∷ p.1)) l ∙ cut-only t p e;
          plain = ap (all in_line) l ∙ cut-in_line t p e;
          ended = inr (p.1, refl);
        }

take-one-more : (xs : List ℕ) (y : ℕ) (ys : List ℕ) → take (suc (length xs)) (xs ++ (y ∷ ys)) ≡ xs ++ (y ∷ [])
take-one-more [] y ys = refl
take-one-more (x ∷ xs) y ys = ap (λ (l : List ℕ). x ∷ l) (take-one-more xs y ys)

-- something is so laid out
abbrev pub CanBeLaidOut : LineForm → Type 0
CanBeLaidOut (keyed key v) = (all in_line key ≡ true) × CanHaveForm v
CanBeLaidOut no_line = Unit {0}

pub good-within : (d : LineForm) (l : List ℕ) → good_bytes d l ≤ length l
good-within (keyed key v) l = line-within key v l
good-within no_line l = omega arith

-- with the column's byte every continuation is not as laid out
pub text-stays : (d : LineForm) (t rest : List ℕ) → CanBeLaidOut d → is_laid_out d t ≡ false → suc (good_bytes d (first_line t)) ≤ length t → is_laid_out d (take (suc (good_bytes d (first_line t))) t ++ rest) ≡ false
unfolding is_laid_out
text-stays no_line [] rest c e h = absurd (omega arith)
text-stays no_line (b ∷ t) rest c e h = refl
text-stays (keyed key v) t rest c e h = go (eq-or-lt_of_le (line-within key v l)) f.ended
  where
    l : List ℕ
    l = first_line t

    n : ℕ
    n = good_line key v l

    f : Front t
    f = front t

    go : (n ≡ length l) ⊎ (n < length l) → (f.rest ≡ []) ⊎ ((after : List ℕ) × (f.rest ≡ LF ∷ after)) → is_laid_out (keyed key v) (take (suc n) t ++ rest) ≡ false
    go (inr lt) x =
        let e₁ : take (suc n) t ≡ take (suc n) l = ap (take (suc n)) (sym f.whole) ∙ take-append-le (suc n) l f.rest lt in
        ap (λ (u : List ℕ). is_laid_out (keyed key v) (u ++ rest)) e₁
        ∙ stuck key v (take (suc n) l) rest (all_take in_line (suc n) l f.plain) (λ r. line_stays key v l r c.1 lt)
    go (inl q) (inl x) =
        let e₁ : length t ≡ length l = ap length (sym f.whole) ∙ ap (λ (r : List ℕ). length (l ++ r)) x ∙ ap length (append-nil l) in
        absurd (omega (arith, e₁, h, q))
    go (inl q) (inr x) =
        let whole : t ≡ l ++ (LF ∷ x.0) = sym f.whole ∙ ap (λ (r : List ℕ). l ++ r) x.1 in
        let e₁ : take (suc n) t ≡ l ++ (LF ∷ []) = ap (λ (k : ℕ). take (suc k) t) q ∙ ap (take (suc (length l))) whole ∙ take-one-more l LF x.0 in
        let same : value_has_form v (after_key key l) ≡ false = sym (ap (line_has_form key v) (ap cut_line whole ∙ cut_line-is l x.0 f.plain)) ∙ e in
        ap (λ (u : List ℕ). is_laid_out (keyed key v) (u ++ rest)) e₁
        ∙ ap (is_laid_out (keyed key v)) (append_assoc l (LF ∷ []) rest)
        ∙ ap (line_has_form key v) (cut_line-is l rest f.plain)
        ∙ same

-- with the bytes before it some continuation is
pub text-clears : (d : LineForm) (t : List ℕ) → CanBeLaidOut d → (rest : List ℕ) × (is_laid_out d (take (good_bytes d (first_line t)) t ++ rest) ≡ true)
unfolding is_laid_out
text-clears no_line t c = ([], refl)
text-clears (keyed key v) t c =
    let l : List ℕ = first_line t in
    let n : ℕ = good_line key v l in
    let f : Front t = front t in
    let r = line-clears key v l c.0 c.1 in
    let xs : List ℕ = take n l ++ r.0 in
    let e : take n t ≡ take n l = ap (take n) (sym f.whole) ∙ take-append-le n l f.rest (line-within key v l) in
    let plain : all in_line xs ≡ true = all_append in_line (take n l) r.0 ∙ and-join (all in_line (take n l)) (all in_line r.0) (all_take in_line n l f.plain) r.1 in (
      r.0 ++ (LF ∷ []),
      ap (λ (u : List ℕ). is_laid_out (keyed key v) (u ++ (r.0 ++ (LF ∷ [])))) e
          ∙ ap (is_laid_out (keyed key v)) (sym (append_assoc (take n l) r.0 (LF ∷ [])))
          ∙ ap (line_has_form key v) (cut_line-is xs [] plain)
          ∙ r.2,
    )
