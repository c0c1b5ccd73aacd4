-- Lines of a sheet: what is written is read back, and what is read was so written.
use Prim.Native.Nat.{ℕ, suc, ◌+◌, ◌*◌, ◌-◌, ◌/◌, ◌%◌, ◌≤◌, ◌<◌}
use mathlib.Core.Path.{◌≡◌, refl, sym, ap, ◌∙◌, subst}
use mathlib.Core.Logic.{◌≢◌}
use mathlib.Core.Bool.{Bool, true, false, cond, not, ◌&&◌}
use mathlib.Core.Option.{none, some, some-injective}
use mathlib.Core.List.{List, [], ◌∷◌, ◌++◌, append_assoc}
use native.Mathlib.Omega.{arith}
use lib.Dec.{eqb, ltb, leb}
use lib.ListN.{length, get_or, take, drop, length-drop, take-append-drop}
use lib.Seq.{drop-cons}
use Rattle.theory.specs.Lists.{all, concat_map}
use Rattle.theory.specs.Bytes.{LF, zero_digit, is_digit, digits, decimal}
use Rattle.theory.specs.Lines.{Cut, cut_line, after_key, count_of, add_byte}
use Rattle.theory.specs.Syntax.{Kind, declared, Symbol}
use Rattle.theory.specs.Refusals.{answer, at_line}
use Rattle.theory.specs.Problem.{key_line, count_line, symbol_of}
use Rattle.theory.specs.WellFormed.{symbol_ok}
use Rattle.theory.specs.SheetText.{symbol_text}
use Rattle.theory.proofs.Tests.{eqb-true, eqb-ne, ltb-true, ltb-of-<, ltb-of-≤, leb-true, and_left, and_right, and-join, false_of_not}
use Rattle.theory.proofs.Lists.{all_append}
use Rattle.theory.proofs.Answers.{unbind, answer-inj, check-true, or_refuse-some}
use Rattle.theory.proofs.LineTexts.{cut-in_line}
use Rattle.theory.proofs.Lines.{in_line, cut-only, key-only}
use Rattle.theory.proofs.SheetRead.{count-of, symbol-in_line}
use Rattle.sheet_merging.specs.Sheets.{cut_lines, ended}

-- a line of a key and a count
abbrev pub count_text : List ℕ → ℕ → List ℕ
count_text key n = ended (key ++ decimal n)

-- a line of a key and a symbol
abbrev pub declaration_text : List ℕ → Symbol → List ℕ
declaration_text key f = ended (key ++ symbol_text f)

pub ended-shape : (l rest : List ℕ) → ended l ++ rest ≡ l ++ (LF ∷ rest)
ended-shape l rest = append_assoc l (LF ∷ []) rest

-- the lines of a text that begins with a line
pub cut_lines-line : (l rest : List ℕ) → all in_line l ≡ true → cut_lines (ended l ++ rest) ≡ l ∷ cut_lines rest
cut_lines-line l rest h = ap cut_lines (ended-shape l rest) ∙ go l h
  where
    go : (l : List ℕ) → all in_line l ≡ true → cut_lines (l ++ (LF ∷ rest)) ≡ l ∷ cut_lines rest
    go [] h = refl
    go (b ∷ l) h =
        ap (λ (q : Bool). cond q ([] ∷ cut_lines (l ++ (LF ∷ rest))) (add_byte b (cut_lines (l ++ (LF ∷ rest))))) (false_of_not (eqb b LF) (and_left (in_line b) (all in_line l) h))
        ∙ ap (add_byte b) (go l (and_right (in_line b) (all in_line l) h))

pub cut_lines-lines : (ls : List (List ℕ)) (rest : List ℕ) → all (all in_line) ls ≡ true → cut_lines (concat_map ended ls ++ rest) ≡ ls ++ cut_lines rest
cut_lines-lines [] rest h = refl
cut_lines-lines (l ∷ ls) rest h =
    ap cut_lines (append_assoc (ended l) (concat_map ended ls) rest)
    ∙ cut_lines-line l (concat_map ended ls ++ rest) (and_left (all in_line l) (all (all in_line) ls) h)
    ∙ ap (λ (m : List (List ℕ)). l ∷ m) (cut_lines-lines ls rest (and_right (all in_line l) (all (all in_line) ls) h))

-- what a line was
pub record KeyLine (key v text rest : List ℕ) : Type 0 where
  pub whole : text ≡ ended (key ++ v) ++ rest
  pub within : all in_line (key ++ v) ≡ true

pub key-exact : (key text : List ℕ) (l : ℕ) (r : Cut) → key_line key l text ≡ answer r → KeyLine key r.0 text r.1
key-exact key text l r e =
    unbind _ _ r e λ (p : Cut) h₁ e₁.
    unbind _ _ r e₁ λ (v : List ℕ) h₂ e₂.
    step p v (or_refuse-some (cut_line text) (at_line 2 l) p h₁) (or_refuse-some (after_key key p.0) (at_line 2 l) v h₂) (answer-inj (v, p.1) r e₂)
  where
    step : (p : Cut) (v : List ℕ) → cut_line text ≡ some p → after_key key p.0 ≡ some v → (v, p.1) ≡ r → KeyLine key r.0 text r.1
    step p v c k q =
        let line : key ++ v ≡ p.0 = key-only key p.0 v k in
        subst (λ (r : Cut). KeyLine key r.0 text r.1) q
        (record {
          whole = sym (cut-only text p c) ∙ ap (λ (l : List ℕ). l ++ (LF ∷ p.1)) (sym line) ∙ sym (ended-shape (key ++ v) p.1);
          within = ap (all in_line) line ∙ cut-in_line text p c;
        })

pub count-in_line : (key : List ℕ) (n : ℕ) → all in_line key ≡ true → n < 100 → all in_line (key ++ decimal n) ≡ true
count-in_line key n hk lt = all_append in_line key (decimal n) ∙ and-join (all in_line key) (all in_line (decimal n)) hk (count-of n lt).1

-- a count is read from no other digits than its own
one-digit : (n k : ℕ) → n < 10 → digits (suc k) n ≡ (48 + n) ∷ []
one-digit n k lt = ap (λ (q : Bool). elim q as (λ _. List ℕ) [ true ↦ (48 + n) ∷ [] | false ↦ digits k (n / 10) ++ ((48 + n % 10) ∷ []) ]) (ltb-of-< n 10 lt)

two_digits : (n k : ℕ) → 10 ≤ n → n < 100 → digits (suc (suc k)) n ≡ (48 + n / 10) ∷ (48 + n % 10) ∷ []
two_digits n k lo hi =
    ap (λ (q : Bool). elim q as (λ _. List ℕ) [ true ↦ (48 + n) ∷ [] | false ↦ digits (suc k) (n / 10) ++ ((48 + n % 10) ∷ []) ]) (ltb-of-≤ n 10 lo)
    ∙ ap (λ (l : List ℕ). l ++ ((48 + n % 10) ∷ [])) (one-digit (n / 10) k (omega arith))

digit-range : (a : ℕ) → is_digit a ≡ true → (48 ≤ a) × (a < 58)
digit-range a h = (leb-true 48 a (and_left (leb 48 a) (ltb a 58) h), ltb-true a 58 (and_right (leb 48 a) (ltb a 58) h))

pub count-only : (ds : List ℕ) (n : ℕ) → count_of ds ≡ some n → ds ≡ decimal n
unfolding decimal
count-only [] n e = let z : ◌≡◌ {A = ℕ} 0 1 = cc in absurd (omega arith)
count-only (a ∷ []) n e = go (is_digit a) refl e
  where
    go : (b : Bool) → is_digit a ≡ b → cond b (some (a - zero_digit)) none ≡ some n → a ∷ [] ≡ digits (suc n) n
    go true h z =
        let q : a - 48 ≡ n = some-injective (a - 48) n z in
        let r = digit-range a h in
        let back : a ≡ 48 + n = omega (arith, r.0) in
        ap (λ (a : ℕ). a ∷ []) back ∙ sym (one-digit n n (omega (arith, r.0, r.1)))
    go false h z = let q : ◌≡◌ {A = ℕ} 0 1 = cc in absurd (omega arith)
count-only (a ∷ b ∷ []) n e = go (is_digit a && is_digit b && not (eqb a zero_digit)) refl e
  where
    go : (t : Bool) → (is_digit a && is_digit b && not (eqb a zero_digit)) ≡ t → cond t (some ((a - zero_digit) * 10 + (b - zero_digit))) none ≡ some n → a ∷ b ∷ [] ≡ digits (suc n) n
    go true h z =
        let q : (a - 48) * 10 + (b - 48) ≡ n = some-injective ((a - 48) * 10 + (b - 48)) n z in
        let two : (is_digit a && is_digit b) ≡ true = and_left (is_digit a && is_digit b) (not (eqb a 48)) h in
        let r = digit-range a (and_left (is_digit a) (is_digit b) two) in
        let s = digit-range b (and_right (is_digit a) (is_digit b) two) in
        let ne : a ≢ 48 = eqb-ne a 48 (false_of_not (eqb a 48) (and_right (is_digit a && is_digit b) (not (eqb a 48)) h)) in
        let front : 48 + n / 10 ≡ a = omega (arith, r.0, r.1, s.0, s.1) in
        let back : 48 + n % 10 ≡ b = omega (arith, r.0, r.1, s.0, s.1) in
        let k : suc n ≡ suc (suc (n - 1)) = omega (arith, r.0, r.1, s.0, s.1) in
        sym (ap (λ (m : ℕ). digits m n) k ∙ two_digits n (n - 1) (omega (arith, r.0, r.1, s.0, s.1)) (omega (arith, r.0, r.1, s.0, s.1))
        ∙ ap (λ (x : ℕ). x ∷ (48 + n % 10) ∷ []) front ∙ ap (λ (y : ℕ). a ∷ y ∷ []) back)
    go false h z = let q : ◌≡◌ {A = ℕ} 0 1 = cc in absurd (omega arith)
count-only (a ∷ b ∷ c ∷ ds) n e = let z : ◌≡◌ {A = ℕ} 0 1 = cc in absurd (omega arith)

pub count-exact : (key text : List ℕ) (limit l : ℕ) (r : ℕ × List ℕ) → count_line key limit l text ≡ answer r → (text ≡ count_text key r.0 ++ r.1) × (r.0 ≤ limit)
unfolding count_line
count-exact key text limit l r e =
    unbind _ _ r e λ (p : Cut) h₁ e₁.
    unbind _ _ r e₁ λ (n : ℕ) h₂ e₂.
    unbind _ _ r e₂ λ (u : Unit {0}) h₃ e₃.
    step p n (key-exact key text l p h₁) (count-only p.0 n (or_refuse-some (count_of p.0) (at_line 2 l) n h₂)) (leb-true n limit (check-true (leb n limit) (at_line 3 l) u h₃)) (answer-inj (n, p.1) r e₃)
  where
    step : (p : Cut) (n : ℕ) → KeyLine key p.0 text p.1 → p.0 ≡ decimal n → n ≤ limit → (n, p.1) ≡ r → (text ≡ count_text key r.0 ++ r.1) × (r.0 ≤ limit)
    step p n k d le q =
        subst (λ (r : ℕ × List ℕ). (text ≡ count_text key r.0 ++ r.1) × (r.0 ≤ limit)) q
        (k.whole ∙ ap (λ (v : List ℕ). ended (key ++ v) ++ p.1) d, le)

pub declaration-in_line : (key : List ℕ) → all in_line key ≡ true → (f : Symbol) → symbol_ok f ≡ true → all in_line (key ++ symbol_text f) ≡ true
declaration-in_line key hk f h = all_append in_line key (symbol_text f) ∙ and-join (all in_line key) (all in_line (symbol_text f)) hk (symbol-in_line f h)

-- a symbol is read from no other bytes
last-two : (v : List ℕ) → 2 ≤ length v → v ≡ take (length v - 2) v ++ (get_or v (length v - 2) 0 ∷ get_or v (suc (length v - 2)) 0 ∷ [])
last-two v le =
    let n : ℕ = length v - 2 in
    sym (take-append-drop n v)
    ∙ ap (λ (l : List ℕ). take n v ++ l) (drop-cons v n 0 (omega arith) ∙ ap (λ (l : List ℕ). get_or v n 0 ∷ l) (drop-cons v (suc n) 0 (omega arith) ∙ ap (λ (l : List ℕ). get_or v (suc n) 0 ∷ l) (gone (drop (suc (suc n)) v) (length-drop (suc (suc n)) v ∙ omega arith))))
  where
    gone : (l : List ℕ) → length l ≡ 0 → l ≡ []
    gone [] e = refl
    gone (x ∷ l) e = absurd (omega arith)

pub symbol-only : (k : Kind) (v : List ℕ) (f : Symbol) → symbol_of k v ≡ some f → v ≡ symbol_text f
symbol-only k v f e = go (leb 2 (length v) && eqb (get_or v (length v - 2) 0) 47 && is_digit (get_or v (suc (length v - 2)) 0)) refl e
  where
    n : ℕ
    n = length v - 2

    go : (b : Bool) → (leb 2 (length v) && eqb (get_or v (length v - 2) 0) 47 && is_digit (get_or v (suc (length v - 2)) 0)) ≡ b
        → cond b (some (record { kind = k; name = take (length v - 2) v; arity = get_or v (suc (length v - 2)) 0 - zero_digit; origin = declared })) none ≡ some f → v ≡ symbol_text f
    go true h z =
        let d : ℕ = get_or v (suc (length v - 2)) 0 in
        let two : (leb 2 (length v) && eqb (get_or v (length v - 2) 0) 47) ≡ true = and_left (leb 2 (length v) && eqb (get_or v (length v - 2) 0) 47) (is_digit d) h in
        let le : 2 ≤ length v = leb-true 2 (length v) (and_left (leb 2 (length v)) (eqb (get_or v (length v - 2) 0) 47) two) in
        let slash : get_or v (length v - 2) 0 ≡ 47 = eqb-true (get_or v (length v - 2) 0) 47 (and_right (leb 2 (length v)) (eqb (get_or v (length v - 2) 0) 47) two) in
        let r = digit-range d (and_right (leb 2 (length v) && eqb (get_or v (length v - 2) 0) 47) (is_digit d) h) in
        let back : d ≡ 48 + (d - 48) = omega (arith, r.0) in
        let q : record { kind = k; name = take (length v - 2) v; arity = d - zero_digit; origin = declared } ≡ f = some-injective (record { kind = k; name = take (length v - 2) v; arity = d - zero_digit; origin = declared }) f z in
        last-two v le
        ∙ ap (λ (x : ℕ). take (length v - 2) v ++ (x ∷ d ∷ [])) slash
        ∙ ap (λ (x : ℕ). take (length v - 2) v ++ (47 ∷ x ∷ [])) back
        ∙ ap symbol_text q
    go false h z = let q : ◌≡◌ {A = ℕ} 0 1 = cc in absurd (omega arith)
