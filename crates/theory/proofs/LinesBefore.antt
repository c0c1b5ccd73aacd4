-- The lines before a line: other text after them leaves them as they are.
use Prim.Native.Nat.{ℕ, zero, suc, ◌<◌}
use mathlib.Core.Path.{◌≡◌, refl, sym, ap, ◌∙◌}
use mathlib.Core.Option.{Option, some}
use mathlib.Core.List.{List, [], ◌∷◌, ◌++◌, append_assoc}
use native.Mathlib.Omega.{arith}
use Rattle.theory.specs.Bytes.{LF}
use Rattle.theory.specs.Lines.{Cut, cut_line}
use Rattle.theory.specs.DueLines.{cut_or, rest_or, first_line, from_line}
use Rattle.theory.proofs.Lines.{cut_line-is, cut-only}
use Rattle.theory.proofs.LineTexts.{cut-in_line}

-- the first l lines are ended by LF
abbrev pub Cuts : ℕ → List ℕ → Type 0
Cuts zero text = Unit {0}
Cuts (suc l) text = (p : Cut) × (cut_line text ≡ some p) × Cuts l p.1

-- one line more
cuts-more : (l : ℕ) (text : List ℕ) (p : Cut) → Cuts l text → cut_line (from_line l text) ≡ some p → Cuts (suc l) text × (from_line (suc l) text ≡ p.1)
cuts-more zero text p c e = ((p, e, tt), ap rest_or e)
cuts-more (suc l) text p c e =
    let q : Cut = c.0 in
    let r : rest_or (cut_line text) ≡ q.1 = ap rest_or c.1 in
    let h = cuts-more l q.1 p c.2 (ap (λ (t : List ℕ). cut_line (from_line l t)) (sym r) ∙ e) in
    ((q, c.1, h.0), ap (from_line (suc l)) r ∙ h.1)

module _ (text : List ℕ) where
  -- where reading has come to: t is the text from line l on, and the lines before are ended by LF
  pub record ReadUpTo (l : ℕ) (t : List ℕ) : Type 0 where
    pub cuts : Cuts l text
    pub here : from_line l text ≡ t

  pub at_cut : (l : ℕ) (t : List ℕ) (p : Cut) → ReadUpTo l t → cut_line t ≡ some p → ReadUpTo (suc l) p.1
  at_cut l t p a e = let m = cuts-more l text p a.cuts (ap cut_line a.here ∙ e) in record { cuts = m.0; here = m.1 }

-- the bytes before a line, and what other text behind them leaves
pub record Before (l : ℕ) (text : List ℕ) : Type 0 where
  pub before : List ℕ
  pub whole : before ++ from_line l text ≡ text
  pub from : (t : List ℕ) → from_line l (before ++ t) ≡ t
  pub lines : (t : List ℕ) (i : ℕ) → i < l → first_line (from_line i (before ++ t)) ≡ first_line (from_line i text)

pub before_of : (l : ℕ) (text : List ℕ) → Cuts l text → Before l text
before_of zero text c = record { before = []; whole = refl; from = λ t. refl; lines = λ t i h. absurd (omega arith) }
before_of (suc l) text c = step c.0 c.1 (before_of l c.0.1 c.2)
  where
    step : (p : Cut) → cut_line text ≡ some p → Before l p.1 → Before (suc l) text
    step p e b =
        let front : List ℕ = p.0 in
        let plain = cut-in_line text p e in
        let r : rest_or (cut_line text) ≡ p.1 = ap rest_or e in
        let shape : (t : List ℕ) → (front ++ (LF ∷ b.before)) ++ t ≡ front ++ (LF ∷ (b.before ++ t)) = λ t. append_assoc front (LF ∷ b.before) t in
        let cut : (t : List ℕ) → cut_line ((front ++ (LF ∷ b.before)) ++ t) ≡ some (front, b.before ++ t) = λ t. ap cut_line (shape t) ∙ cut_line-is front (b.before ++ t) plain in
        record {
          before = front ++ (LF ∷ b.before);
          whole =
              ap (λ (u : List ℕ). (front ++ (LF ∷ b.before)) ++ from_line l u) r
              ∙ shape (from_line l p.1)
              ∙ ap (λ (u : List ℕ). front ++ (LF ∷ u)) b.whole
              ∙ cut-only text p e;
          from = λ t. ap (λ (o : Option Cut). from_line l (rest_or o)) (cut t) ∙ b.from t;
          lines = λ t i h. at t i h b (cut t) r;
        }
      where
        at : (t : List ℕ) (i : ℕ) → i < suc l → (b : Before l p.1)
            → cut_line ((p.0 ++ (LF ∷ b.before)) ++ t) ≡ some (p.0, b.before ++ t) → rest_or (cut_line text) ≡ p.1
            → first_line (from_line i ((p.0 ++ (LF ∷ b.before)) ++ t)) ≡ first_line (from_line i text)
        at t zero h b k r = ap (cut_or ((p.0 ++ (LF ∷ b.before)) ++ t)) k ∙ sym (ap (cut_or text) e)
        at t (suc i) h b k r = ap (λ (o : Option Cut). first_line (from_line i (rest_or o))) k ∙ b.lines t i (omega arith) ∙ ap (λ (u : List ℕ). first_line (from_line i u)) (sym r)

-- two texts have the same first l lines
abbrev pub SameLines : ℕ → List ℕ → List ℕ → Type 0
SameLines l x y = (i : ℕ) → i < l → first_line (from_line i x) ≡ first_line (from_line i y)
