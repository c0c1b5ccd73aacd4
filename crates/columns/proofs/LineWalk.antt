-- The lines of a text, passed one after the other.
use Prim.Native.Nat.{ℕ, zero, suc, ◌+◌, ◌-◌, ◌≤◌, ◌<◌}
use mathlib.Core.Path.{◌≡◌, refl, sym, ap, ◌∙◌}
use mathlib.Core.Logic.{⊎_elim}
use mathlib.Core.Option.{Option}
use mathlib.Core.List.{List, []}
use native.Mathlib.Numerals.{add-one}
use native.Mathlib.Omega.{arith}
use lib.Dec.{eqb}
use lib.Seq.{take_all}
use lib.ListN.{length, drop, length-drop, drop_of_length-le}
use Rattle.theory.specs.Lines.{Cut, cut_line}
use Rattle.theory.specs.DueLines.{cut_or, rest_or, first_line, from_line}
use Rattle.theory.proofs.Tests.{true-or-false, eqb-true, eqb-ne}
use Rattle.text.specs.Lines.{part, LineEnd}
use Rattle.cases.proofs.Cuts.{unended, ended}
use Rattle.columns.specs.Lines.{LineStart, LineAt}

-- i of n lines are passed, up to `at`
pub record Gone (text : List ℕ) (n at i : ℕ) : Type 0 where
  pub before : i ≤ n
  pub within : at ≤ length text
  pub same : from_line n text ≡ from_line (n - i) (drop at text)

-- past the last line there are only empty ones
no_more : (n : ℕ) → from_line n [] ≡ []
no_more zero = refl
no_more (suc n) = no_more n

module _ (text : List ℕ) (n : ℕ) where
  pub none-gone : Gone text n 0 0
  none-gone = let e : n ≡ n - 0 = omega arith in record { before = omega arith; within = omega arith; same = ap (λ (k : ℕ). from_line k text) e }

  module _ (at i : ℕ) (g : Gone text n at i) where
    pub all-gone : n ≤ i → LineStart text n at
    all-gone h = let e : n - i ≡ 0 = omega arith in record { within = g.within; here = g.same ∙ ap (λ (k : ℕ). from_line k (drop at text)) e }

    module _ (end : ℕ) (h : i < n) (l : LineEnd text at end) where
      left : n - i ≡ suc (n - (i + 1))
      left = omega arith

      step : from_line n text ≡ from_line (n - (i + 1)) (rest_or (cut_line (drop at text)))
      step = g.same ∙ ap (λ (k : ℕ). from_line k (drop at text)) left

      pub line-gone : (end ≡ length text → ⊥) → Gone text n (end + 1) (i + 1)
      line-gone k =
          record {
            before = omega arith;
            within = omega (arith, l.within, k);
            same = step ∙ ap (λ (o : Option Cut). from_line (n - (i + 1)) (rest_or o)) (ended text at end l k) ∙ ap (λ (j : ℕ). from_line (n - (i + 1)) (drop j text)) (sym (add-one end));
          }

      pub text-gone : end ≡ length text → LineStart text n end
      text-gone k =
          record {
            within = l.within;
            here =
                step
                ∙ ap (λ (o : Option Cut). from_line (n - (i + 1)) (rest_or o)) (unended text at end l k)
                ∙ no_more (n - (i + 1))
                ∙ sym (drop_of_length-le text {i = end} (omega arith));
          }

-- the line at a place, by where it ends
pub line-there : (text : List ℕ) (n from to : ℕ) → LineStart text n from → LineEnd text from to → LineAt text n (record { from = from; to = to })
line-there text n from to s l =
    record {
      from = l.from;
      within = l.within;
      line = ap first_line s.here ∙ ⊎_elim (λ e. last (eqb-true to (length text) e)) (λ e. other (eqb-ne to (length text) e)) (true-or-false (eqb to (length text)));
    }
  where
    other : (to ≡ length text → ⊥) → first_line (drop from text) ≡ part text from to
    other k = ap (cut_or (drop from text)) (ended text from to l k)

    last : to ≡ length text → first_line (drop from text) ≡ part text from to
    last k = ap (cut_or (drop from text)) (unended text from to l k) ∙ sym (take_all (to - from) (drop from text) (omega (arith, length-drop from text)))
