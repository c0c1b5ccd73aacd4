-- The columns of a number over its limit, and of a name that is none or is declared on an earlier line.
use Prim.Native.Nat.{ℕ, zero, suc, ◌+◌, ◌-◌, ◌≤◌, ◌<◌}
use mathlib.Core.Path.{◌≡◌, refl, sym, ap, ◌∙◌, subst}
use mathlib.Core.Logic.{◌⊎◌, inl, inr}
use mathlib.Core.Bool.{Bool, true, false, cond, not, ◌&&◌, ◌||◌}
use mathlib.Core.Option.{none, some, some-injective}
use mathlib.Core.List.{List, [], ◌∷◌, ◌++◌}
use native.Mathlib.Omega.{arith}
use lib.Dec.{eqb, leb}
use lib.ListN.{length, get_or, take, drop, length-append, length-take}
use lib.Seq.{get_or-append-add}
use Rattle.theory.specs.Lists.{same}
use Rattle.theory.specs.Bytes.{zero_digit, is_digit}
use Rattle.theory.specs.Syntax.{Kind, declared, Symbol, Signature}
use Rattle.theory.specs.Refusals.{answer, at_line}
use Rattle.theory.specs.Lines.{Cut, count_of}
use Rattle.theory.specs.Problem.{max_arity, is_name, symbol_of, is_named, symbol_lines}
use Rattle.theory.specs.LineForms.{count_digits, declaration, LineForm, keyed}
use Rattle.theory.specs.DueLines.{first_line, from_line, due_in_sheet}
use Rattle.theory.specs.Columns.{value_column, number_column}
use Rattle.theory.specs.Claims.Columns.{limit_of, OverNumber, DeclaredOn, BadName}
use Rattle.theory.proofs.Tests.{true-or-false, true_of_not, eqb-true, leb-true, leb-false, and_left, and_right, or_cases}
use Rattle.theory.proofs.Lists.{any_append, same_true}
use Rattle.theory.proofs.Answers.{unbind, answer-inj, or_refuse-some}
use Rattle.theory.proofs.LinesBefore.{ReadUpTo}
use Rattle.theory.proofs.SheetLines.{KeyCut, key-cut, at_next}

-- bytes that are read as a symbol: a name, / and a digit
record SymbolIn (k : Kind) (v : List ℕ) (f : Symbol) : Type 0 where
  long : 2 ≤ length v
  slash : get_or v (length v - 2) 0 ≡ 47
  digit : is_digit (get_or v (suc (length v - 2)) 0) ≡ true
  is : f ≡ record { kind = k; name = take (length v - 2) v; arity = get_or v (suc (length v - 2)) 0 - zero_digit; origin = declared }

symbol-in : (k : Kind) (v : List ℕ) (f : Symbol) → symbol_of k v ≡ some f → SymbolIn k v f
symbol-in k v f e = go (test && is_digit last) refl e
  where
    last : ℕ
    last = get_or v (suc (length v - 2)) 0

    test : Bool
    test = leb 2 (length v) && eqb (get_or v (length v - 2) 0) 47

    made : Symbol
    made = record { kind = k; name = take (length v - 2) v; arity = last - zero_digit; origin = declared }

    go : (q : Bool) → (test && is_digit last) ≡ q → cond q (some made) none ≡ some f → SymbolIn k v f
    go false h z = let q : ◌≡◌ {A = ℕ} 0 1 = cc in absurd (omega arith)
    go true h z =
        let both : test ≡ true = and_left test (is_digit last) h in
        record {
          long = leb-true 2 (length v) (and_left (leb 2 (length v)) _ both);
          slash = eqb-true (get_or v (length v - 2) 0) 47 (and_right (leb 2 (length v)) _ both);
          digit = and_right test (is_digit last) h;
          is = sym (some-injective made f z);
        }

one_less : (n : ℕ) → suc n - 1 ≡ n
one_less n = omega arith

pub over-count : (key t v rest : List ℕ) (n : ℕ) → KeyCut key t v rest → count_of v ≡ some n → leb n (limit_of key) ≡ false
    → OverNumber (keyed key count_digits) (first_line t) (number_column (keyed key count_digits) (first_line t))
over-count key t v rest n k c o =
    let value : drop (suc (length key) - 1) (first_line t) ≡ v = ap (λ (i : ℕ). drop i (first_line t)) (one_less (length key)) ∙ k.dropped in
    inl (record {
      key = key;
      due = refl;
      behind = refl;
      whole = ap (λ (u : List ℕ). key ++ u) value ∙ k.whole;
      count = n;
      read = ap count_of value ∙ c;
      over = leb-false n (limit_of key) o;
    })

pub over-arity : (key t v rest : List ℕ) (k : Kind) (f : Symbol) → KeyCut key t v rest → symbol_of k v ≡ some f → leb f.arity max_arity ≡ false
    → OverNumber (keyed key declaration) (first_line t) (number_column (keyed key declaration) (first_line t))
over-arity key t v rest k f y s o =
    let b = symbol-in k v f s in
    let l : List ℕ = first_line t in
    let long : length l ≡ length key + length v = sym (ap length y.whole) ∙ length-append key v in
    let at : (i j : ℕ) → i ≡ length key + j → get_or l i 0 ≡ get_or v j 0 =
    λ i j e. ap (λ (u : List ℕ). get_or u i 0) (sym y.whole) ∙ ap (λ (i : ℕ). get_or (key ++ v) i 0) e ∙ get_or-append-add key v j 0 in
    let last : get_or l (length l - 1) 0 ≡ get_or v (suc (length v - 2)) 0 = at (length l - 1) (suc (length v - 2)) (omega (arith, long, b.long)) in
    let arity : f.arity ≡ get_or l (length l - 1) 0 - zero_digit = ap (λ (f : Symbol). f.arity) b.is ∙ ap (λ (d : ℕ). d - zero_digit) (sym last) in
    let over : max_arity < f.arity = leb-false f.arity max_arity o in
    inr (record {
      key = key;
      due = refl;
      last = refl;
      second = omega (arith, long, b.long);
      slash = at (length l - 2) (length v - 2) (omega (arith, long, b.long)) ∙ b.slash;
      digit = ap is_digit last ∙ b.digit;
      over = omega (arith, over, arity);
    })

module _ (text : List ℕ) where
  -- a line that declares a symbol
  declares-on : (key : List ℕ) (k : Kind) (m : ℕ) (t v rest : List ℕ) (f : Symbol) → ReadUpTo text m t → due_in_sheet text m ≡ keyed key declaration → KeyCut key t v rest → symbol_of k v ≡ some f
      → (here : DeclaredOn text m (suc (length key))) × (here.declared ≡ f)
  declares-on key k m t v rest f a d y s =
      let b = symbol-in k v f s in
      let l : List ℕ = first_line (from_line m text) in
      let here : l ≡ first_line t = ap first_line a.here in
      let value : drop (suc (length key) - 1) l ≡ v = ap (λ (i : ℕ). drop i l) (one_less (length key)) ∙ ap (drop (length key)) here ∙ y.dropped in
      let name : f.name ≡ take (length v - 2) v = ap (λ (f : Symbol). f.name) b.is in
      let long : length f.name ≡ length v - 2 = ap length name ∙ length-take (length v - 2) v ∙ omega arith in (
        record {
          key = key;
          due = d;
          behind = refl;
          whole = ap (λ (u : List ℕ). key ++ u) value ∙ y.whole ∙ sym here;
          kind = k;
          declared = f;
          read = ap (symbol_of k) value ∙ s;
          starts = ap (take (length f.name)) value ∙ ap (λ (n : ℕ). take n v) long ∙ sym name;
        },
        refl,
      )

  -- each name of the symbols g is declared on a line before line m
  abbrev pub NamedBefore : Signature → ℕ → Type 0
  NamedBefore g m = (w : List ℕ) → is_named w g ≡ true → (i : ℕ) × (c : ℕ) × (i < m) × (there : DeclaredOn text i c) × (there.declared.name ≡ w)

  pub named_none : (m : ℕ) → NamedBefore [] m
  named_none m w e = let z : ◌≡◌ {A = ℕ} 0 1 = cc in absurd (omega arith)

  pub named-later : (g : Signature) (m n : ℕ) → m ≤ n → NamedBefore g m → NamedBefore g n
  named-later g m n h b w e = let r = b w e in (r.0, r.1, omega (arith, h, r.2), r.3, r.4)

  -- with a line that declares a symbol, its name is too
  pub named-one : (key : List ℕ) (k : Kind) (g : Signature) (m : ℕ) (t v rest : List ℕ) (f : Symbol) → ReadUpTo text m t → due_in_sheet text m ≡ keyed key declaration → KeyCut key t v rest
      → symbol_of k v ≡ some f → NamedBefore g m → NamedBefore (g ++ (f ∷ [])) (suc m)
  named-one key k g m t v rest f a d y s b w e =
      go (declares-on key k m t v rest f a d y s) (or_cases (is_named w g) (is_named w (f ∷ [])) (sym (any_append (λ (f : Symbol). same w f.name) g (f ∷ [])) ∙ e))
    where
      only : (q : Bool) → (q || false) ≡ true → q ≡ true
      only true z = refl
      only false z = z

      go : (here : DeclaredOn text m (suc (length key))) × (here.declared ≡ f) → (is_named w g ≡ true) ⊎ (is_named w (f ∷ []) ≡ true)
          → (i : ℕ) × (c : ℕ) × (i < suc m) × (there : DeclaredOn text i c) × (there.declared.name ≡ w)
      go r (inl h) = named-later g m (suc m) (omega arith) b w h
      go r (inr h) = (m, suc (length key), omega arith, r.0, ap (λ (f : Symbol). f.name) r.1 ∙ sym (same_true w f.name (only (same w f.name) h)))

  -- and with n such lines their names are
  pub named-lines : (n : ℕ) (key : List ℕ) (k : Kind) (g : Signature) (l m : ℕ) (t : List ℕ) (r : Signature × List ℕ) → ReadUpTo text m t
      → ((i : ℕ) → i < n → due_in_sheet text (m + i) ≡ keyed key declaration) → NamedBefore g m → symbol_lines n key k g l t ≡ answer r → NamedBefore r.0 (m + n)
  unfolding symbol_lines
  named-lines zero key k g l m t r a d b e = subst (λ (r : Signature × List ℕ). NamedBefore r.0 (m + 0)) (answer-inj (g, t) r e) (named-later g m (m + 0) (omega arith) b)
  named-lines (suc n) key k g l m t r a d b e =
      let m₀ : m + 0 ≡ m = omega arith in
      let d₀ : due_in_sheet text m ≡ keyed key declaration = ap (due_in_sheet text) (sym m₀) ∙ d 0 (omega arith) in
      let d₊ : (i : ℕ) → i < n → due_in_sheet text (suc m + i) ≡ keyed key declaration =
      λ i h. let q : suc m + i ≡ m + suc i = omega arith in ap (due_in_sheet text) q ∙ d (suc i) (omega arith) in
      let m₊ : suc m + n ≡ m + suc n = omega arith in
      unbind _ _ r e λ (p : Cut) h₁ e₁.
      unbind _ _ r e₁ λ (f : Symbol) h₂ e₂.
      unbind _ _ r e₂ λ (u₁ : Unit {0}) _ e₃.
      unbind _ _ r e₃ λ (u₂ : Unit {0}) _ e₄.
      let y = key-cut key l t p h₁ in
      let more = named-one key k g m t p.0 p.1 f a d₀ y (or_refuse-some (symbol_of k p.0) (at_line 2 l) f h₂) b in
      subst (NamedBefore r.0) m₊ (named-lines n key k (g ++ (f ∷ [])) (suc l) (suc m) p.1 r (at_next text m key t p.0 p.1 a y) d₊ more e₄)

  -- the fault of a line whose number is over its limit
  pub over-number : (m : ℕ) (t : List ℕ) (d : LineForm) → ReadUpTo text m t → due_in_sheet text m ≡ d → OverNumber d (first_line t) (number_column d (first_line t))
      → OverNumber (due_in_sheet text m) (first_line (from_line m text)) (number_column (due_in_sheet text m) (first_line (from_line m text)))
  over-number m t d a e o =
      subst (λ (c : LineForm). OverNumber c (first_line (from_line m text)) (number_column c (first_line (from_line m text)))) (sym e)
      (subst (λ (u : List ℕ). OverNumber d (first_line u) (number_column d (first_line u))) (sym a.here) o)

  -- the fault of a line whose name is none, or is one of those before
  pub bad-name : (key : List ℕ) (k : Kind) (g : Signature) (m : ℕ) (t v rest : List ℕ) (f : Symbol) → ReadUpTo text m t → due_in_sheet text m ≡ keyed key declaration → KeyCut key t v rest
      → symbol_of k v ≡ some f → NamedBefore g m → (is_name f.name && not (is_named f.name g)) ≡ false → BadName text m (value_column (due_in_sheet text m))
  bad-name key k g m t v rest f a d y s b e =
      let r = declares-on key k m t v rest f a d y s in
      subst (λ (c : LineForm). BadName text m (value_column c)) (sym d) (record { here = r.0; bad = go r.0 r.1 (true-or-false (is_name f.name)) })
    where
      go : (here : DeclaredOn text m (suc (length key))) → here.declared ≡ f → (is_name f.name ≡ true) ⊎ (is_name f.name ≡ false)
          → (is_name here.declared.name ≡ false) ⊎ ((i : ℕ) × (c : ℕ) × (i < m) × (there : DeclaredOn text i c) × (there.declared.name ≡ here.declared.name))
      go here q (inr h) = inl (ap (λ (f : Symbol). is_name f.name) q ∙ h)
      go here q (inl h) =
          let z : not (is_named f.name g) ≡ false = sym (ap (λ (b : Bool). b && not (is_named f.name g)) h) ∙ e in
          let r = b f.name (true_of_not (is_named f.name g) z) in
          inr (r.0, r.1, r.2, r.3, r.4 ∙ sym (ap (λ (f : Symbol). f.name) q))
