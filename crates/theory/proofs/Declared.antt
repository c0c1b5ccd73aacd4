-- Declared symbols: what the tests `function_of` and `predicate_of` say of a place of the signature.
use Prim.Native.Nat.{ℕ, ◌<◌}
use mathlib.Core.Path.{◌≡◌, refl, ap}
use mathlib.Core.Bool.{Bool, true, ◌&&◌, false≢true}
use lib.Dec.{eqb, ltb}
use lib.ListN.{length}
use Rattle.theory.specs.Syntax.{Kind, function, predicate, is_function, is_predicate, Signature, symbol_at, function_of, predicate_of}
use Rattle.theory.proofs.Tests.{eqb-true, eqb-of-≡, ltb-true, ltb-of-<, and_left, and_right, and-join}

-- the symbol at place i, of this kind and with n arguments, is declared
pub record Declared (g : Signature) (i : ℕ) (k : Kind) (n : ℕ) : Type 0 where
  pub below : i < length g
  pub kind : (symbol_at g i).kind ≡ k
  pub arity : n ≡ (symbol_at g i).arity

pub function-kind : (k : Kind) → is_function k ≡ true → k ≡ function
function-kind function h = refl
function-kind predicate h = absurd (false≢true h)

pub predicate-kind : (k : Kind) → is_predicate k ≡ true → k ≡ predicate
predicate-kind function h = absurd (false≢true h)
predicate-kind predicate h = refl

module _ (g : Signature) (i n : ℕ) where
  abbrev within : Bool
  within = ltb i (length g)

  abbrev fits : Bool
  fits = eqb n (symbol_at g i).arity

  declared : (q : Bool) (k : Kind) → (q ≡ true → (symbol_at g i).kind ≡ k) → (within && q && fits) ≡ true → Declared g i k n
  declared q k f h =
      let h₁ : (within && q) ≡ true = and_left (within && q) fits h in
      record {
        below = ltb-true i (length g) (and_left within q h₁);
        kind = f (and_right within q h₁);
        arity = eqb-true n (symbol_at g i).arity (and_right (within && q) fits h);
      }

  pub function_of→ : function_of g i n ≡ true → Declared g i function n
  function_of→ h = declared (is_function (symbol_at g i).kind) function (function-kind (symbol_at g i).kind) h

  pub predicate_of→ : predicate_of g i n ≡ true → Declared g i predicate n
  predicate_of→ h = declared (is_predicate (symbol_at g i).kind) predicate (predicate-kind (symbol_at g i).kind) h

  -- and the other way: a function, and a predicate, of n arguments passes its test
  pub →function_of : Declared g i function n → function_of g i n ≡ true
  →function_of d =
      and-join (within && is_function (symbol_at g i).kind) fits
      (and-join within (is_function (symbol_at g i).kind) (ltb-of-< i (length g) d.below) (ap is_function d.kind)) (eqb-of-≡ n (symbol_at g i).arity d.arity)

  pub →predicate_of : Declared g i predicate n → predicate_of g i n ≡ true
  →predicate_of d =
      and-join (within && is_predicate (symbol_at g i).kind) fits
      (and-join within (is_predicate (symbol_at g i).kind) (ltb-of-< i (length g) d.below) (ap is_predicate d.kind)) (eqb-of-≡ n (symbol_at g i).arity d.arity)
