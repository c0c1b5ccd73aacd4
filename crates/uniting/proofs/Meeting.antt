-- A test of a sheet's symbols, place after place.
use Prim.Native.Nat.{ℕ, zero, suc, ◌+◌}
use mathlib.Core.Path.{◌≡◌, sym, ap, ◌∙◌}
use mathlib.Core.Bool.{Bool, ◌&&◌}
use mathlib.Core.List.{List}
use native.Mathlib.Numerals.{add-one}
use native.Mathlib.Omega.{arith}
use lib.ListN.{length, get_or, drop, drop_of_length-le}
use lib.Seq.{drop-cons}
use Rattle.std.specs.List.{list_all, range_with_len}
use Rattle.theory.specs.Lists.{all}
use Rattle.theory.specs.Syntax.{no_symbol}
use Rattle.theory.specs.Syntax as theory
use Rattle.syntax.specs.declared.signature.Signature.{Signature}
use Rattle.syntax.specs.Signatures.{symbol_in, signature_in}
use Rattle.clauses.specs.Names.{Limited}
use Rattle.clauses.proofs.Held.{blank, count-signature_in, symbol_at-signature_in}

module _ (p : theory.Symbol → Bool) (text : List ℕ) (s : Signature) (h : Limited s) where
  -- the test of the symbol at a place
  abbrev pub at-place : ℕ → Bool
  at-place i = p (symbol_in text (get_or s.symbols i blank))

  -- all places are all symbols
  pub all-places : list_all at-place (range_with_len 0 s.count) ≡ all p (signature_in text s)
  all-places = from s.count 0 (omega arith)
    where
      g : theory.Signature
      g = signature_in text s

      count : length g ≡ s.count
      count = count-signature_in s h text

      from : (n a : ℕ) → a + n ≡ s.count → list_all at-place (range_with_len a n) ≡ all p (drop a g)
      from zero a e = sym (ap (all p) (drop_of_length-le g {i = a} (omega (arith, count, e))))
      from (suc n) a e =
          ap (λ (b : Bool). b && list_all at-place (range_with_len (a + 1) n)) (ap p (sym (symbol_at-signature_in s h text a (omega (arith, e)))))
          ∙ ap (λ (b : Bool). p (get_or g a no_symbol) && b) (from n (a + 1) (omega (arith, e)) ∙ ap (λ (k : ℕ). all p (drop k g)) (add-one a))
          ∙ sym (ap (all p) (drop-cons g a no_symbol (omega (arith, count, e))))
