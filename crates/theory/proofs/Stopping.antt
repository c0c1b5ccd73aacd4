-- Reading a text up to a line, and again with other text from that line on.
use Prim.Native.Nat.{ℕ, suc}
use mathlib.Core.Path.{◌≡◌, refl, sym, ap, ◌∙◌, subst}
use mathlib.Core.Bool.{Bool, true, false}
use mathlib.Core.Option.{Option, none, some}
use mathlib.Core.List.{List, [], ◌++◌, append_assoc}
use native.Mathlib.Omega.{arith}
use Rattle.theory.specs.Refusals.{Refusal, Answer, answer, refused, at_line, ◌>>=◌, check, or_refuse}
use Rattle.theory.specs.LineForms.{LineForm, is_some, is_laid_out}
use Rattle.theory.proofs.Answers.{refused-inj, bind-step, bind-refused}
use Rattle.theory.proofs.LinesBefore.{ReadUpTo}

-- what a reader took from a text: with other text behind it, it reads the same and leaves that text
pub record Took {A : Type 0} (R : List ℕ → Answer (A × List ℕ)) (t : List ℕ) (r : A × List ℕ) : Type 0 where
  pub taken : List ℕ
  pub whole : taken ++ r.1 ≡ t
  pub again : (u : List ℕ) → R (taken ++ u) ≡ answer (r.0, u)

-- one reader's part after another's
pub took_more : (a b c u t : List ℕ) → a ++ c ≡ t → b ++ u ≡ c → (a ++ b) ++ u ≡ t
took_more a b c u t e h = append_assoc a b u ∙ ap (λ (x : List ℕ). a ++ x) h ∙ e

pub none_of : {A : Type 0} (o : Option A) → is_some o ≡ false → o ≡ none
none_of none e = refl
none_of (some a) e = let z : ◌≡◌ {A = ℕ} 0 1 = cc in absurd (omega arith)

-- the line that a reader of one line names
pub or_refuse-line : {A : Type 0} (o : Option A) (q r : Refusal) → or_refuse o q ≡ refused r → q ≡ r
or_refuse-line {A} none q r e = refused-inj {A = A} q r e
or_refuse-line (some a) q r e = let z : ◌≡◌ {A = ℕ} 0 1 = cc in absurd (omega arith)

pub check-line : (b : Bool) (q r : Refusal) → check b q ≡ refused r → q ≡ r
check-line true q r e = let z : ◌≡◌ {A = ℕ} 0 1 = cc in absurd (omega arith)
check-line false q r e = refused-inj {A = Unit {0}} q r e

-- a refusal on line l is on this line
pub on_line : (x l : ℕ) (r : Refusal) → at_line x l ≡ r → r.place.line ≡ l
on_line x l r e = ap (λ (r : Refusal). r.place.line) (sym e)

module _ (text : List ℕ) (due : ℕ → LineForm) (x l : ℕ) where
  -- a reader comes from t to line l; with other text there, not as laid out, it is refused with x
  pub record Stops {A : Type 0} (K : List ℕ → Answer A) (t : List ℕ) : Type 0 where
    pub taken : List ℕ
    pub rest : List ℕ
    pub whole : taken ++ rest ≡ t
    pub at : ReadUpTo text l rest
    pub again : (u : List ℕ) → is_laid_out (due l) u ≡ false → K (taken ++ u) ≡ refused (at_line x (suc l))

  -- the line is here
  pub stops-here : {A : Type 0} (K : List ℕ → Answer A) (k m : ℕ) (d : LineForm) (t : List ℕ) → suc l ≡ k → k ≡ suc m → ReadUpTo text m t → due m ≡ d
      → ((u : List ℕ) → is_laid_out d u ≡ false → K u ≡ refused (at_line x k)) → Stops K t
  stops-here K k m d t e h a q f =
      let same : m ≡ l = omega (arith, e, h) in
      record {
        taken = [];
        rest = t;
        whole = refl;
        at = subst (λ (i : ℕ). ReadUpTo text i t) same a;
        again = λ u z.
            f u (ap (λ (d : LineForm). is_laid_out d u) (sym q) ∙ ap (λ (i : ℕ). is_laid_out (due i) u) same ∙ z)
            ∙ ap (λ (i : ℕ). refused (at_line x i)) (sym e);
      }

  pub stops-bind : {A B : Type 0} (P : List ℕ → Answer (A × List ℕ)) (K : A × List ℕ → Answer B) (t : List ℕ) (r : A × List ℕ) → Took P t r → Stops (λ u. K (r.0, u)) r.1 → Stops (λ u. P u >>= K) t
  stops-bind P K t r a s =
      record {
        taken = a.taken ++ s.taken;
        rest = s.rest;
        whole = took_more a.taken s.taken r.1 s.rest t a.whole s.whole;
        at = s.at;
        again = λ u z.
            ap (λ (x : List ℕ). P x >>= K) (append_assoc a.taken s.taken u)
            ∙ bind-step (P (a.taken ++ (s.taken ++ u))) K (r.0, s.taken ++ u) (refused (at_line x (suc l))) (a.again (s.taken ++ u)) (s.again u z);
      }

  pub stops_first : {A B : Type 0} (P : List ℕ → Answer A) (K : A → Answer B) (t : List ℕ) → Stops P t → Stops (λ u. P u >>= K) t
  stops_first P K t s = record { taken = s.taken; rest = s.rest; whole = s.whole; at = s.at; again = λ u z. bind-refused (P (s.taken ++ u)) K (at_line x (suc l)) (s.again u z) }

  -- a step that does not look at the text
  pub stops-after : {A B : Type 0} (m : Answer A) (a : A) (K : A → List ℕ → Answer B) (t : List ℕ) → m ≡ answer a → Stops (K a) t → Stops (λ u. m >>= λ y. K y u) t
  stops-after m a K t e s =
      record { taken = s.taken; rest = s.rest; whole = s.whole; at = s.at; again = λ u z. bind-step m (λ y. K y (s.taken ++ u)) a (refused (at_line x (suc l))) e (s.again u z) }
