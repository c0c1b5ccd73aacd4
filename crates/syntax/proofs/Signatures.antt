-- Laws of the signature: its length, and the arities that a table has of it.
use Prim.Native.Nat.{ℕ, suc, ◌+◌, ◌≤◌, ◌<◌}
use mathlib.Core.Path.{◌≡◌, refl, sym, ap, ◌∙◌}
use mathlib.Core.Bool.{Bool, true, false, cond, not}
use mathlib.Core.List.{List, [], ◌∷◌, ◌++◌, map, map-append}
use native.Mathlib.Omega.{arith}
use lib.ListN.{length, get_or, take, set, length-map}
use lib.Seq.{take-suc, take-suc-set, get_or-take, length-take-le}
use Rattle.std.specs.List.{prefix_len}
use Rattle.theory.specs.Syntax.{symbol_at, no_symbol}
use Rattle.theory.specs.Syntax as theory
use Rattle.theory.proofs.Lists.{map_at}
use Rattle.syntax.specs.declared.signature.Symbol.{Symbol}
use Rattle.syntax.specs.declared.signature.Signature as declared
use Rattle.syntax.specs.Signatures.{symbol_in, signature_in, declared_count, arities_of, Arities}

-- what stands past the symbols
abbrev blank : Symbol
blank = record { function = false; helper = false; arity = 0; name = 0; length = 0 }

-- the arity of one symbol more
pub arities_of-more : (ys : List Symbol) (arities : List ℕ) (i : ℕ) → i < length ys → i < length arities → take i arities ≡ arities_of (take i ys)
    → take (suc i) (set arities i (get_or ys i blank).arity) ≡ arities_of (take (suc i) ys)
arities_of-more ys arities i h k e =
    take-suc-set arities i (get_or ys i blank).arity k
    ∙ ap (λ (l : List ℕ). l ++ ((get_or ys i blank).arity ∷ [])) e
    ∙ sym (ap arities_of (take-suc ys i blank h) ∙ map-append (λ (y : Symbol). y.arity) (take i ys) (get_or ys i blank ∷ []))

-- the declared symbols are those before the first helper
pub declared-prefix : (ys : List Symbol) → prefix_len (λ (y : Symbol). not y.helper) ys ≡ declared_count ys
declared-prefix [] = refl
declared-prefix (y ∷ ys) = go y.helper (declared-prefix ys)
  where
    go : (b : Bool) → prefix_len (λ (y : Symbol). not y.helper) ys ≡ declared_count ys → cond (not b) (1 + prefix_len (λ (y : Symbol). not y.helper) ys) 0 ≡ cond b 0 (suc (declared_count ys))
    go true e = refl
    go false e = omega (arith, e)

-- a sheet's signature has the symbols' number
pub length-signature_in : (sheet : List ℕ) (s : declared.Signature) → s.count ≤ length s.symbols → length (signature_in sheet s) ≡ s.count
unfolding signature_in
length-signature_in sheet s h = length-map (take s.count s.symbols) (symbol_in sheet) ∙ length-take-le s.count s.symbols h

-- a table of the symbols' arities is one of the signature's, whatever the sheet
pub arities-signature_in : (sheet : List ℕ) (s : declared.Signature) (arities : List ℕ) → s.count ≤ length s.symbols → s.count ≤ length arities
    → take s.count arities ≡ arities_of (take s.count s.symbols) → Arities (signature_in sheet s) arities
unfolding signature_in
arities-signature_in sheet s arities h k e =
    let n = length-signature_in sheet s h in
    record {
      within = omega (arith, n);
      arity = λ i l. at i (omega (arith, n));
    }
  where
    at : (i : ℕ) → i < s.count → get_or arities i 0 ≡ (symbol_at (map (symbol_in sheet) (take s.count s.symbols)) i).arity
    at i l =
        let m : i < length (take s.count s.symbols) = omega (arith, length-take-le s.count s.symbols h) in
        sym (get_or-take s.count arities i 0 l)
        ∙ ap (λ (l : List ℕ). get_or l i 0) e
        ∙ map_at (λ (y : Symbol). y.arity) (take s.count s.symbols) i blank 0 m
        ∙ ap (λ (y : theory.Symbol). y.arity) (sym (map_at (symbol_in sheet) (take s.count s.symbols) i blank no_symbol m))
