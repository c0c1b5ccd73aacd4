-- The four lines of the finder's input: the bytes that they are read from, whatever follows them.
use Prim.Native.Nat.{ℕ, ◌+◌, ◌≤◌, ◌<◌}
use mathlib.Core.Path.{◌≡◌, refl, sym, ap, ◌∙◌}
use mathlib.Core.Bool.{Bool, true, false, cond, not, ◌&&◌, ◌||◌}
use mathlib.Core.Option.{Option, none, some, some-injective}
use mathlib.Core.List.{List, [], ◌∷◌, ◌++◌, append_assoc}
use native.Mathlib.Omega.{arith}
use lib.Dec.{eqb, ltb}
use lib.ListN.{length, length-append}
use Rattle.theory.specs.Lists.{all}
use Rattle.theory.specs.Bytes.{bytes, LF, zero_digit, is_digit}
use Rattle.theory.specs.Lines.{Cut, add_front, cut_line, after_key}
use Rattle.theory.specs.Least.{or_else}
use Rattle.theory.specs.Program.{digit_of, ◌>>?◌, digit_line, switch_line}
use Rattle.theory.proofs.Tests.{and_left, and_right, ltb-true}
use Rattle.theory.proofs.Lines.{cut-only, after-key, key-only}
use Rattle.solver.proofs.Options.{none≢some, read-on, was_read, cond-some}
use Rattle.allowance.specs.FinderProgram.{spelled, allowance_of, allowance_line, Question, asked}

-- a line is cut off in the same way whatever follows it
cut_again : (text rest : List ℕ) (p : Cut) → cut_line text ≡ some p → cut_line (p.0 ++ (LF ∷ rest)) ≡ some (p.0, rest)
cut_again [] rest p e = absurd (none≢some p e)
cut_again (b ∷ bs) rest p e = go (eqb b LF) refl (cut_line bs) refl e (λ q k. cut_again bs rest q k)
  where
    go : (t : Bool) → eqb b LF ≡ t → (o : Option Cut) → cut_line bs ≡ o → cond t (some ([], bs)) (add_front b o) ≡ some p
        → ((q : Cut) → cut_line bs ≡ some q → cut_line (q.0 ++ (LF ∷ rest)) ≡ some (q.0, rest)) → cut_line (p.0 ++ (LF ∷ rest)) ≡ some (p.0, rest)
    go true h o k z ih =
        let line : [] ≡ p.0 = ap (λ (q : Cut). q.0) (some-injective ([], bs) p z) in
        ap (λ (l : List ℕ). cut_line (l ++ (LF ∷ rest))) (sym line) ∙ ap (λ (l : List ℕ). some (l, rest)) line
    go false h none k z ih = absurd (none≢some p z)
    go false h (some q) k z ih =
        let line : b ∷ q.0 ≡ p.0 = ap (λ (q : Cut). q.0) (some-injective (b ∷ q.0, q.1) p z) in
        ap (λ (l : List ℕ). cut_line (l ++ (LF ∷ rest))) (sym line)
        ∙ ap (λ (t : Bool). cond t (some ([], q.0 ++ (LF ∷ rest))) (add_front b (cut_line (q.0 ++ (LF ∷ rest))))) h
        ∙ ap (add_front b) (ih q k)
        ∙ ap (λ (l : List ℕ). some (l, rest)) line

-- the bytes at the front of a text, k at most, from which this is read whatever follows them
record Front {A : Type 0} (read : List ℕ → Option (A × List ℕ)) (k : ℕ) (text : List ℕ) (r : A × List ℕ) : Type 0 where
  front : List ℕ
  whole : front ++ r.1 ≡ text
  short : length front ≤ k
  again : (rest : List ℕ) → read (front ++ rest) ≡ some (r.0, rest)

-- a line of a key and a value that is read from what follows the key
abbrev value_line : {A : Type 0} → List ℕ → (List ℕ → Option A) → List ℕ → Option (A × List ℕ)
value_line key value text = cut_line text >>? λ p. after_key key p.0 >>? λ v. value v >>? λ d. some (d, p.1)

module _ {A : Type 0} (key : List ℕ) (value : List ℕ → Option A) (k : ℕ) (bound : (v : List ℕ) (d : A) → value v ≡ some d → length v ≤ k) where
  value-front : (text : List ℕ) (r : A × List ℕ) → value_line key value text ≡ some r → Front (value_line key value) (length key + k + 1) text r
  value-front text r e =
      let p = was_read (cut_line text) _ r e in
      let v = was_read (after_key key p.0.0) _ r p.2 in
      let d = was_read (value v.0) _ r v.2 in
      let same : (d.0, p.0.1) ≡ r = some-injective (d.0, p.0.1) r d.2 in
      let first : d.0 ≡ r.0 = ap (λ (q : A × List ℕ). q.0) same in
      let later : r.1 ≡ p.0.1 = sym (ap (λ (q : A × List ℕ). q.1) same) in
      let keyed : length p.0.0 ≡ length key + length v.0 = ap length (sym (key-only key p.0.0 v.0 v.1)) ∙ length-append key v.0 in
      let few : length v.0 ≤ k = bound v.0 d.0 d.1 in
      let line : length (p.0.0 ++ (LF ∷ [])) ≡ length p.0.0 + 1 = length-append p.0.0 (LF ∷ []) in
      record {
        front = p.0.0 ++ (LF ∷ []);
        whole = append_assoc p.0.0 (LF ∷ []) r.1 ∙ ap (λ (t : List ℕ). p.0.0 ++ (LF ∷ t)) later ∙ cut-only text p.0 p.1;
        short = omega (arith, keyed, few, line);
        again = λ rest.
            read-on (cut_line ((p.0.0 ++ (LF ∷ [])) ++ rest)) _ (p.0.0, rest) (ap cut_line (append_assoc p.0.0 (LF ∷ []) rest) ∙ cut_again text rest p.0 p.1)
            ∙ read-on (after_key key p.0.0) _ v.0 v.1
            ∙ read-on (value v.0) _ d.0 d.1
            ∙ ap (λ (d : A). some (d, rest)) first;
      }

digit-short : (v : List ℕ) (d : ℕ) → digit_of v ≡ some d → length v ≤ 1
digit-short [] d e = absurd (none≢some d e)
digit-short (b ∷ []) d e = omega arith
digit-short (b ∷ c ∷ v) d e = absurd (none≢some d e)

allowance-short : (v : List ℕ) (n : ℕ) → allowance_of v ≡ some n → length v ≤ 7
allowance-short [] n e = absurd (none≢some n e)
allowance-short (b ∷ bs) n e =
    let digits : Bool = all is_digit (b ∷ bs) in
    let seven : Bool = ltb (length bs) 7 in
    let leading : Bool = not (eqb b zero_digit) || eqb (length bs) 0 in
    let all_true : (digits && seven && leading) ≡ true = (cond-some (digits && seven && leading) (some (spelled 0 (b ∷ bs))) n e).0 in
    let few : length bs < 7 = ltb-true (length bs) 7 (and_right digits seven (and_left (digits && seven) leading all_true)) in
    omega (arith, few)

digit-front : (key text : List ℕ) (r : ℕ × List ℕ) → digit_line key text ≡ some r → Front (digit_line key) (length key + 1 + 1) text r
unfolding digit_line
digit-front key text r e = value-front key digit_of 1 digit-short text r e

allowance-front : (text : List ℕ) (r : ℕ × List ℕ) → allowance_line text ≡ some r → Front allowance_line (length (bytes "allow=") + 7 + 1) text r
unfolding allowance_line
allowance-front text r e = value-front (bytes "allow=") allowance_of 7 allowance-short text r e

switch-front : (text : List ℕ) (r : Bool × List ℕ) → switch_line text ≡ some r → Front switch_line 8 text r
unfolding switch_line ◌>>?◌
switch-front text r e = go (after_key (bytes "sym=yes\n") text) refl (after_key (bytes "sym=no\n") text) refl e
  where
    go : (o : Option (List ℕ)) → after_key (bytes "sym=yes\n") text ≡ o → (q : Option (List ℕ)) → after_key (bytes "sym=no\n") text ≡ q
        → or_else (o >>? λ rest. some (true, rest)) (q >>? λ rest. some (false, rest)) ≡ some r → Front switch_line 8 text r
    go (some later) h q k e =
        let same : (true, later) ≡ r = some-injective (true, later) r e in
        let n : length (bytes "sym=yes\n") ≡ 8 = refl in
        record {
          front = bytes "sym=yes\n";
          whole = ap (λ (r : Bool × List ℕ). bytes "sym=yes\n" ++ r.1) (sym same) ∙ key-only (bytes "sym=yes\n") text later h;
          short = omega (arith, n);
          again = λ rest.
              ap (λ (o : Option (List ℕ)). or_else (o >>? λ rest. some (true, rest)) (after_key (bytes "sym=no\n") (bytes "sym=yes\n" ++ rest) >>? λ rest. some (false, rest))) (after-key (bytes "sym=yes\n") rest)
              ∙ ap (λ (r : Bool × List ℕ). some (r.0, rest)) same;
        }
    go none h (some later) k e =
        let same : (false, later) ≡ r = some-injective (false, later) r e in
        let n : length (bytes "sym=no\n") ≡ 7 = refl in
        record {
          front = bytes "sym=no\n";
          whole = ap (λ (r : Bool × List ℕ). bytes "sym=no\n" ++ r.1) (sym same) ∙ key-only (bytes "sym=no\n") text later k;
          short = omega (arith, n);
          again = λ rest. ap (λ (o : Option (List ℕ)). o >>? λ rest. some (false, rest)) (after-key (bytes "sym=no\n") rest) ∙ ap (λ (r : Bool × List ℕ). some (r.0, rest)) same;
        }
    go none h none k e = absurd (none≢some r e)

-- the question with another sheet
abbrev pub with_sheet : List ℕ → Question → Question
with_sheet sheet a = record { low = a.low; high = a.high; symmetry = a.symmetry; allowance = a.allowance; sheet = sheet }

-- the four lines of a question that was read
pub record Lines (input : List ℕ) (a : Question) : Type 0 where
  pub front : List ℕ
  pub whole : front ++ a.sheet ≡ input
  pub short : length front ≤ 35
  pub again : (rest : List ℕ) → asked (front ++ rest) ≡ some (with_sheet rest a)

pub four-lines : (input : List ℕ) (a : Question) → asked input ≡ some a → Lines input a
four-lines input q e =
    let low = was_read (digit_line (bytes "low=") input) _ q e in
    let high = was_read (digit_line (bytes "high=") low.0.1) _ q low.2 in
    let switch = was_read (switch_line high.0.1) _ q high.2 in
    let allow = was_read (allowance_line switch.0.1) _ q switch.2 in
    let f₁ = digit-front (bytes "low=") input low.0 low.1 in
    let f₂ = digit-front (bytes "high=") low.0.1 high.0 high.1 in
    let f₃ = switch-front high.0.1 switch.0 switch.1 in
    let f₄ = allowance-front switch.0.1 allow.0 allow.1 in
    let lines : Question = record { low = low.0.0; high = high.0.0; symmetry = switch.0.0; allowance = allow.0.0; sheet = allow.0.1 } in
    let asks : lines ≡ q = some-injective lines q allow.2 in
    let n₁ : length (bytes "low=") ≡ 4 = refl in
    let n₂ : length (bytes "high=") ≡ 5 = refl in
    let n₄ : length (bytes "allow=") ≡ 6 = refl in
    record {
      front = f₁.front ++ (f₂.front ++ (f₃.front ++ f₄.front));
      whole = together f₁.front f₂.front f₃.front f₄.front q.sheet
          ∙ ap (λ (q : Question). f₁.front ++ (f₂.front ++ (f₃.front ++ (f₄.front ++ q.sheet)))) (sym asks)
          ∙ ap (λ (l : List ℕ). f₁.front ++ (f₂.front ++ (f₃.front ++ l))) f₄.whole
          ∙ ap (λ (l : List ℕ). f₁.front ++ (f₂.front ++ l)) f₃.whole
          ∙ ap (λ (l : List ℕ). f₁.front ++ l) f₂.whole
          ∙ f₁.whole;
      short = omega (
        arith,
        length-append f₁.front (f₂.front ++ (f₃.front ++ f₄.front)),
        length-append f₂.front (f₃.front ++ f₄.front),
        length-append f₃.front f₄.front,
        f₁.short,
        f₂.short,
        f₃.short,
        f₄.short,
        n₁,
        n₂,
        n₄,
      );
      again = λ rest.
          ap asked (together f₁.front f₂.front f₃.front f₄.front rest)
          ∙ read-on (digit_line (bytes "low=") (f₁.front ++ (f₂.front ++ (f₃.front ++ (f₄.front ++ rest))))) _ (low.0.0, f₂.front ++ (f₃.front ++ (f₄.front ++ rest))) (f₁.again (f₂.front ++ (f₃.front ++ (f₄.front ++ rest))))
          ∙ read-on (digit_line (bytes "high=") (f₂.front ++ (f₃.front ++ (f₄.front ++ rest)))) _ (high.0.0, f₃.front ++ (f₄.front ++ rest)) (f₂.again (f₃.front ++ (f₄.front ++ rest)))
          ∙ read-on (switch_line (f₃.front ++ (f₄.front ++ rest))) _ (switch.0.0, f₄.front ++ rest) (f₃.again (f₄.front ++ rest))
          ∙ read-on (allowance_line (f₄.front ++ rest)) _ (allow.0.0, rest) (f₄.again rest)
          ∙ ap (λ (q : Question). some (with_sheet rest q)) asks;
    }
  where
    together : (a b c d e : List ℕ) → (a ++ (b ++ (c ++ d))) ++ e ≡ a ++ (b ++ (c ++ (d ++ e)))
    together a b c d e =
        append_assoc a (b ++ (c ++ d)) e ∙ ap (λ (l : List ℕ). a ++ l) (append_assoc b (c ++ d) e ∙ ap (λ (l : List ℕ). b ++ l) (append_assoc c d e))
