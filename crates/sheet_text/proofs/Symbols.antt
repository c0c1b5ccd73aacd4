-- The symbols as the code holds them: what is known of the symbol at a place.
use Prim.Native.Nat.{ℕ, ◌+◌, ◌≤◌, ◌<◌}
use mathlib.Core.Path.{◌≡◌, sym, ap, ◌∙◌}
use mathlib.Core.Bool.{Bool, true, ◌&&◌}
use mathlib.Core.List.{List, [], ◌∷◌}
use native.Mathlib.Omega.{arith}
use lib.Dec.{leb, ltb}
use lib.ListN.{length, get_or, take}
use lib.Seq.{get_or-take, length-take-le}
use Rattle.theory.specs.Lists.{all}
use Rattle.theory.specs.Syntax as theory
use Rattle.theory.specs.Problem.{is_lower, is_name_byte, is_name}
use Rattle.theory.proofs.Tests.{leb-true, leb-of-≤, ltb-true, and_left, and_right}
use Rattle.theory.proofs.Lists.{all-at, all-and, all-imply, all_map}
use Rattle.syntax.specs.declared.signature.Symbol.{Symbol}
use Rattle.syntax.specs.declared.signature.Signature.{Signature}
use Rattle.syntax.specs.Signatures.{symbol_in, signature_in}
use Rattle.syntax.proofs.NamesLent.{name-length}
use Rattle.clauses.specs.Names.{Readable}
use Rattle.clauses.proofs.Held.{blank, arity-at, name-within}
use Rattle.sheet_text.specs.Parts.{Named, ShortNames}

-- the symbols of a signature that is readable in a text
pub named-at : (text : List ℕ) (s : Signature) → Readable text s → (i : ℕ) → i < s.count → Named text (get_or s.symbols i blank)
named-at text s h i l = record { within = name-within text s h i l; arity = arity-at s h.limited i l }

pub short-at : (s : Signature) → ShortNames s → (i : ℕ) → i < s.count → (get_or s.symbols i blank).length ≤ 12
short-at s h i l =
    leb-true (get_or s.symbols i blank).length 12
    (ap short (sym (get_or-take s.count s.symbols i blank l))
    ∙ all-at short blank (take s.count s.symbols) i h.short (omega (arith, length-take-le s.count s.symbols h.limited.held)))
  where
    short : Symbol → Bool
    short y = leb y.length 12

-- names as a sheet has them are short
short-name : (w : List ℕ) → is_name w ≡ true → length w ≤ 12
unfolding is_name
short-name [] e = omega arith
short-name (b ∷ bs) e = omega (arith, ltb-true (length bs) 12 (and_right (is_lower b && all is_name_byte bs) (ltb (length bs) 12) e))

pub short-names : (text : List ℕ) (s : Signature) → Readable text s → all (λ (f : theory.Symbol). is_name f.name) (signature_in text s) ≡ true → ShortNames s
unfolding signature_in
short-names text s r h =
    let ys = take s.count s.symbols in
    record {
      limited = r.limited;
      short = all-imply (λ (y : Symbol). within y && named y) (λ (y : Symbol). leb y.length 12) ys one
          (all-and within named ys r.names (sym (all_map (λ (f : theory.Symbol). is_name f.name) (symbol_in text) ys) ∙ h));
    }
  where
    within : Symbol → Bool
    within y = leb (y.name + y.length) (length text)

    named : Symbol → Bool
    named y = is_name (symbol_in text y).name

    one : (y : Symbol) → (within y && named y) ≡ true → leb y.length 12 ≡ true
    one y e =
        let k = leb-true (y.name + y.length) (length text) (and_left (within y) (named y) e) in
        leb-of-≤ y.length 12 (omega (arith, short-name (symbol_in text y).name (and_right (within y) (named y) e), name-length text y k))
