-- Laws of lines and keys: what is cut from a text, and the only text from which it is cut.
use Prim.Native.Nat.{ℕ, ◌+◌}
use mathlib.Core.Path.{◌≡◌, refl, sym, ap, ◌∙◌}
use mathlib.Core.Bool.{Bool, true, false, cond, not}
use mathlib.Core.Option.{Option, none, some, some-injective}
use mathlib.Core.List.{List, [], ◌∷◌, ◌++◌}
use native.Mathlib.Omega.{arith}
use lib.Dec.{eqb}
use Rattle.theory.specs.Lists.{all}
use Rattle.theory.specs.Bytes.{LF}
use Rattle.theory.specs.Lines.{Cut, add_front, cut_line, after_key}
use Rattle.theory.proofs.Tests.{eqb-true, eqb-false, eqb_same, and_left, and_right, false_of_not}

-- the byte does not end a line
abbrev pub in_line : ℕ → Bool
in_line b = not (eqb b LF)

pub digit-in_line : (d : ℕ) → in_line (48 + d) ≡ true
digit-in_line d = ap not (eqb-false (48 + d) LF (λ e. omega arith))

-- a line that is ended by LF is cut off
pub cut_line-is : (xs ys : List ℕ) → all in_line xs ≡ true → cut_line (xs ++ (LF ∷ ys)) ≡ some (xs, ys)
cut_line-is [] ys h = refl
cut_line-is (x ∷ xs) ys h =
    ap (λ (q : Bool). cond q (some ([], xs ++ (LF ∷ ys))) (add_front x (cut_line (xs ++ (LF ∷ ys))))) (false_of_not (eqb x LF) (and_left (in_line x) (all in_line xs) h))
    ∙ ap (add_front x) (cut_line-is xs ys (and_right (in_line x) (all in_line xs) h))

-- and from no other text
pub cut-only : (text : List ℕ) (p : Cut) → cut_line text ≡ some p → p.0 ++ (LF ∷ p.1) ≡ text
cut-only [] p e = let z : ◌≡◌ {A = ℕ} 0 1 = cc in absurd (omega arith)
cut-only (b ∷ bs) p e = go (eqb b LF) refl (cut_line bs) refl e (λ q k. cut-only bs q k)
  where
    whole : Cut → List ℕ
    whole p = p.0 ++ (LF ∷ p.1)

    go : (t : Bool) → eqb b LF ≡ t → (o : Option Cut) → cut_line bs ≡ o → cond t (some ([], bs)) (add_front b o) ≡ some p
        → ((q : Cut) → cut_line bs ≡ some q → whole q ≡ bs) → whole p ≡ b ∷ bs
    go true h o k z ih = ap whole (sym (some-injective ([], bs) p z)) ∙ ap (λ (x : ℕ). x ∷ bs) (sym (eqb-true b LF h))
    go false h none k z ih = let z : ◌≡◌ {A = ℕ} 0 1 = cc in absurd (omega arith)
    go false h (some q) k z ih = ap whole (sym (some-injective (b ∷ q.0, q.1) p z)) ∙ ap (λ (l : List ℕ). b ∷ l) (ih q k)

-- what follows a key
pub after-key : (ks bs : List ℕ) → after_key ks (ks ++ bs) ≡ some bs
after-key [] bs = refl
after-key (k ∷ ks) bs = ap (λ (q : Bool). cond q (after_key ks (ks ++ bs)) none) (eqb_same k) ∙ after-key ks bs

-- follows no other key
pub key-only : (ks bs v : List ℕ) → after_key ks bs ≡ some v → ks ++ v ≡ bs
key-only [] bs v e = sym (some-injective bs v e)
key-only (k ∷ ks) [] v e = let z : ◌≡◌ {A = ℕ} 0 1 = cc in absurd (omega arith)
key-only (k ∷ ks) (b ∷ bs) v e = go (eqb k b) refl e (λ h. key-only ks bs v h)
  where
    go : (t : Bool) → eqb k b ≡ t → cond t (after_key ks bs) none ≡ some v → (after_key ks bs ≡ some v → ks ++ v ≡ bs) → k ∷ (ks ++ v) ≡ b ∷ bs
    go true h z ih = let p : k ≡ b = eqb-true k b h in let q : ks ++ v ≡ bs = ih z in cc
    go false h z ih = let z : ◌≡◌ {A = ℕ} 0 1 = cc in absurd (omega arith)
