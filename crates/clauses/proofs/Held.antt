-- Laws of a sheet's symbols as the code holds them: the symbol at a place, one symbol more.
use Prim.Native.Nat.{ℕ, ◌+◌, ◌-◌, ◌≤◌, ◌<◌}
use mathlib.Core.Path.{◌≡◌, sym, ap, ◌∙◌}
use mathlib.Core.Bool.{Bool, true, false}
use mathlib.Core.List.{List}
use native.Mathlib.Omega.{arith}
use lib.Dec.{eqb, leb}
use lib.ListN.{length, get_or, take, drop, length-take, length-drop, length-map, drop_of_length-le}
use lib.Seq.{get_or-take, get_or-drop, length-take-le}
use Rattle.theory.specs.Lists.{all}
use Rattle.theory.specs.Syntax.{symbol_at, no_symbol}
use Rattle.theory.specs.Syntax as theory
use Rattle.theory.proofs.Tests.{leb-true, eqb-true}
use Rattle.theory.proofs.Lists.{all-at, map_at}
use Rattle.syntax.specs.declared.signature.Symbol.{Symbol}
use Rattle.syntax.specs.declared.signature.Signature.{Signature}
use Rattle.syntax.specs.Signatures.{max_declared, symbol_in, signature_in, arities_of, Arities, Small}
use Rattle.syntax.proofs.Signatures.{length-signature_in, arities-signature_in}
use Rattle.clauses.specs.Names.{Limited, Readable}

-- what stands past the symbols
abbrev pub blank : Symbol
blank = record { function = false; helper = false; arity = 0; name = 0; length = 0 }

-- no symbol is past those that a sheet may have where there are no more
pub none-past : (s : Signature) (p : Symbol → Bool) → s.count ≤ max_declared → all p (drop max_declared (take s.count s.symbols)) ≡ true
none-past s p h = ap (all p) (drop_of_length-le (take s.count s.symbols) {i = max_declared} (omega (arith, length-take s.count s.symbols)))

module _ (s : Signature) (h : Limited s) where
  front : length (take s.count s.symbols) ≡ s.count
  front = length-take-le s.count s.symbols h.held

  pub arity-at : (i : ℕ) → i < s.count → (get_or s.symbols i blank).arity ≤ 3
  arity-at i l =
      leb-true (get_or s.symbols i blank).arity 3
      (ap (λ (y : Symbol). leb y.arity 3) (sym (get_or-take s.count s.symbols i blank l))
      ∙ all-at (λ (y : Symbol). leb y.arity 3) blank (take s.count s.symbols) i h.arities (omega (arith, front)))

  -- past those that a sheet may have, all are constants
  pub constant-at : (i : ℕ) → max_declared ≤ i → i < s.count → (get_or s.symbols i blank).arity ≡ 0
  constant-at i past l =
      let ys : List Symbol = take s.count s.symbols in
      let e : max_declared + (i - max_declared) ≡ i = omega arith in
      eqb-true (get_or s.symbols i blank).arity 0
      (ap (λ (y : Symbol). eqb y.arity 0)
      (sym (get_or-drop max_declared ys (i - max_declared) blank ∙ ap (λ (j : ℕ). get_or ys j blank) e ∙ get_or-take s.count s.symbols i blank l))
      ∙ all-at (λ (y : Symbol). eqb y.arity 0) blank (drop max_declared ys) (i - max_declared) h.constants (omega (arith, length-drop max_declared ys, front)))

  pub count-signature_in : (sheet : List ℕ) → length (signature_in sheet s) ≡ s.count
  count-signature_in sheet = length-signature_in sheet s h.held

  pub symbol_at-signature_in : (sheet : List ℕ) (i : ℕ) → i < s.count → symbol_at (signature_in sheet s) i ≡ symbol_in sheet (get_or s.symbols i blank)
  unfolding signature_in
  symbol_at-signature_in sheet i l =
      map_at (symbol_in sheet) (take s.count s.symbols) i blank no_symbol (omega (arith, front))
      ∙ ap (symbol_in sheet) (get_or-take s.count s.symbols i blank l)

  pub small-signature_in : (sheet : List ℕ) → Small (signature_in sheet s)
  small-signature_in sheet =
      record {
        symbols = omega (arith, count-signature_in sheet, h.count);
        arities = λ i l.
            let k : i < s.count = omega (arith, count-signature_in sheet) in
            omega (arith, ap (λ (y : theory.Symbol). y.arity) (symbol_at-signature_in sheet i k), arity-at i k);
      }

  -- the arities that were taken out are those of the signature
  pub arities-held : (sheet arities : List ℕ) → take s.count arities ≡ arities_of (take s.count s.symbols) → Arities (signature_in sheet s) arities
  arities-held sheet arities e =
      arities-signature_in sheet s arities h.held
      (omega (arith, ap length e, length-map (take s.count s.symbols) (λ (y : Symbol). y.arity), front, length-take s.count arities)) e

pub name-within : (sheet : List ℕ) (s : Signature) → Readable sheet s → (i : ℕ) → i < s.count
    → (get_or s.symbols i blank).name + (get_or s.symbols i blank).length ≤ length sheet
name-within sheet s h i l =
    leb-true ((get_or s.symbols i blank).name + (get_or s.symbols i blank).length) (length sheet)
    (ap within (sym (get_or-take s.count s.symbols i blank l))
    ∙ all-at within blank (take s.count s.symbols) i h.names (omega (arith, front s h.limited)))
  where
    within : Symbol → Bool
    within y = leb (y.name + y.length) (length sheet)
