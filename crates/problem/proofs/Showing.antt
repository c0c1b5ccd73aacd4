-- The declared symbols stand before the first helper.
use Prim.Native.Nat.{ℕ, suc, ◌≤◌}
use mathlib.Core.Path.{◌≡◌, refl, sym, ap, ◌∙◌}
use mathlib.Core.Bool.{Bool, true, false, cond}
use mathlib.Core.List.{List, [], ◌∷◌, map}
use native.Mathlib.Omega.{arith}
use lib.ListN.{length, get_or, take, drop, length-take}
use lib.Seq.{take-take}
use Rattle.theory.specs.Syntax.{helper, is_from_sheet, all_declared, no_symbol, Term}
use Rattle.theory.specs.Syntax as theory
use Rattle.theory.proofs.Tests.{and_left, and_right}
use Rattle.naming.specs.NamedProblem.{shown_symbols}
use Rattle.naming.proofs.Helpers.{with_helpers, shown-with}
use Rattle.syntax.specs.declared.signature.Symbol.{Symbol}
use Rattle.syntax.specs.declared.signature.Signature.{Signature}
use Rattle.syntax.specs.Signatures.{origin_of, symbol_in, signature_in, declared_count, without_helpers}
use Rattle.problem.specs.Modes.{Shows}

-- the mark `helper` says the origin
declared-mark : (b : Bool) → is_from_sheet (origin_of b) ≡ true → b ≡ false
declared-mark true e = sym e
declared-mark false e = refl

helper-mark : (b : Bool) → is_from_sheet (origin_of b) ≡ false → b ≡ true
helper-mark true e = refl
helper-mark false e = sym e

pub count-within : (ys : List Symbol) → declared_count ys ≤ length ys
count-within [] = omega arith
count-within (y ∷ ys) = go y.helper (count-within ys)
  where
    go : (b : Bool) → declared_count ys ≤ length ys → cond b 0 (suc (declared_count ys)) ≤ suc (length ys)
    go true h = omega arith
    go false h = omega arith

module _ (sheet : List ℕ) where
  -- symbols that are declared ones with helpers behind them: those before the first helper
  declared-front : (ys : List Symbol) (g : theory.Signature) (ts : List Term) → map (symbol_in sheet) ys ≡ with_helpers g ts → all_declared g ≡ true → map (symbol_in sheet) (take (declared_count ys) ys) ≡ g
  declared-front [] [] ts e h = refl
  declared-front [] (f ∷ g) ts e h = let z : ◌≡◌ {A = ℕ} 0 1 = cc in absurd (omega arith)
  declared-front (y ∷ ys) [] [] e h = let z : ◌≡◌ {A = ℕ} 0 1 = cc in absurd (omega arith)
  declared-front (y ∷ ys) [] (t ∷ ts) e h =
      let is : is_from_sheet (origin_of y.helper) ≡ false = ap (λ (g : theory.Signature). is_from_sheet (get_or g 0 no_symbol).origin) e in
      ap (λ (b : Bool). map (symbol_in sheet) (take (cond b 0 (suc (declared_count ys))) (y ∷ ys))) (helper-mark y.helper is)
  declared-front (y ∷ ys) (f ∷ g) ts e h =
      let same : symbol_in sheet y ≡ f = ap (λ (g : theory.Signature). get_or g 0 no_symbol) e in
      let is : is_from_sheet (origin_of y.helper) ≡ true = ap (λ (f : theory.Symbol). is_from_sheet f.origin) same ∙ and_left (is_from_sheet f.origin) (all_declared g) h in
      ap (λ (b : Bool). map (symbol_in sheet) (take (cond b 0 (suc (declared_count ys))) (y ∷ ys))) (declared-mark y.helper is)
      ∙ ap (λ (f : theory.Symbol). f ∷ map (symbol_in sheet) (take (declared_count ys) ys)) same
      ∙ ap (λ (g : theory.Signature). f ∷ g) (declared-front ys g ts (ap (drop 1) e) (and_right (is_from_sheet f.origin) (all_declared g) h))

  -- of a signature
  pub declared-are : (s : Signature) (g : theory.Signature) (ts : List Term) → signature_in sheet s ≡ with_helpers g ts → all_declared g ≡ true → signature_in sheet (without_helpers s) ≡ g
  unfolding signature_in
  declared-are s g ts e h =
      let ys : List Symbol = take s.count s.symbols in
      ap (map (symbol_in sheet)) (sym (take-take (declared_count ys) s.count s.symbols (omega (arith, count-within ys, length-take s.count s.symbols))))
      ∙ declared-front ys g ts e h

  pub shows : (s : Signature) (g : theory.Signature) (ts : List Term) → signature_in sheet s ≡ with_helpers g ts → all_declared g ≡ true → Shows sheet s
  shows s g ts e h = ap shown_symbols e ∙ shown-with g ts h ∙ sym (declared-are s g ts e h)
