use Prim.Native.Nat.{ℕ, zero, suc, ◌+◌, ◌*◌, ◌^◌, ◌≤◌, ◌<◌}
use mathlib.Core.Path.{◌≡◌, refl, sym, ap, ◌∙◌}
use mathlib.Core.Bool.{Bool, ◌&&◌}
use mathlib.Core.List.{List, []}
use native.Mathlib.Numerals.{add-one}
use native.Mathlib.Omega.{arith}
use lib.ListN.{length, get_or, drop, replicate}
use Rattle.std.proofs.Common.{rules, tests}
use Rattle.std.specs.List.{list_all, range_with_len}
use Rattle.std.proofs.lemmas.Iterator.{YieldsList-from_range, serves_from_Range}
use Rattle.std.proofs.lemmas.Iterator.Search.{all_from_yields_List}
use Rattle.theory.specs.Syntax as theory
use Rattle.theory.specs.Propositional.{block_size, width}
use Rattle.theory.specs.Valuation.{all_have_values, is_functional}
use Rattle.syntax.specs.declared.signature.Signature.{Signature}
use Rattle.syntax.specs.Signatures.{kind_of, signature_in, symbol_in}
use Rattle.clauses.specs.Names.{Limited}
use Rattle.clauses.proofs.Held.{blank, arity-at, count-signature_in, symbol_at-signature_in}
use Rattle.valuations.specs.declared.numbering.Numbering.{Numbering}
use Rattle.valuations.specs.Numbers.{NumberingOf}
use Rattle.valuations.proofs.Blocks.{functional_at, functional_from, functional-from-start, functional-from, functional-to-end, block_room, functional-at}
use Rattle.valuations.proofs.valuation.is_functional.Goals as goal

-- the test of the symbol at a place
module _ (y : Signature) (n : Numbering) (s : ℕ) (setting : List ℕ) where
  abbrev at-place : ℕ → Bool
  at-place i = all_have_values s (replicate (s ^ (get_or y.symbols i blank).arity) (kind_of (get_or y.symbols i blank).function)) (drop (get_or n.bases i 0) setting)

  module _ (h : Limited y) (sheet : List ℕ) (numbers : NumberingOf (signature_in sheet y) s n) where
    abbrev g : theory.Signature
    g = signature_in sheet y

    -- all places are all cells
    all-places : list_all at-place (range_with_len 0 y.count) ≡ is_functional s g setting
    all-places = from y.count 0 (omega arith) ∙ sym (functional-from-start s g setting)
      where
        count : length g ≡ y.count
        count = count-signature_in y h sheet

        from : (k a : ℕ) → a + k ≡ y.count → list_all at-place (range_with_len a k) ≡ functional_from s g setting a
        from zero a e = let m : a ≡ length g = omega (arith, count, e) in sym (ap (functional_from s g setting) m ∙ functional-to-end s g setting)
        from (suc k) a e =
            let lt : a < length g = omega (arith, count, e) in
            let one = functional-at s g setting a (get_or n.bases a 0) (symbol_in sheet (get_or y.symbols a blank)) (at-place a) (symbol_at-signature_in y h sheet a (omega (arith, e))) (numbers.base a lt) refl in
            ap (λ (b : Bool). b && list_all at-place (range_with_len (a + 1) k)) (sym one)
            ∙ ap (λ (b : Bool). functional_at s g setting a && b) (from k (a + 1) (omega (arith, e)) ∙ ap (functional_from s g setting) (add-one a))
            ∙ sym (functional-from s g setting a lt)

-- `is_functional` tests each symbol.
pub all-requires-clause-callable : goal.all-requires-clause-callable
all-requires-clause-callable c = let s = c in
    let a = s.args in
    let g = signature_in [] a.signature in
    serves_from_Range (λ x q k. search (rules, tests)) (λ x low high.
    let lt : x < length g = omega (arith, high, count-signature_in a.signature s.requires.limited.0 []) in
    let arity = arity-at a.signature s.requires.limited.0 x high in
    let few = s.requires.limited.0.count in
    let small : length a.setting.now < 2 ^ 32 = omega (arith, s.requires.setting_len, (s.requires.by_index []).small) in
    let y = get_or a.signature.symbols x blank in
    let room : get_or a.n.bases x 0 + a.size.0 ^ y.arity * width a.size.0 (kind_of y.function) ≤ length a.setting.now = omega (
      arith,
      (s.requires.by_index []).base x lt,
      (s.requires.by_index []).count,
      s.requires.setting_len,
      block_room a.size.0 g x lt,
      ap (block_size a.size.0) (symbol_at-signature_in a.signature s.requires.limited.0 [] x high),
    ) in
    search (rules, tests, arity, few, small, room, s.requires.limited.1))

pub returns : goal.returns
returns c = let s = c in
    let a = s.args in
    λ sheet.
    all_from_yields_List (at-place a.signature a.n a.size.0 a.setting.now) _ _ _ c.all.ensures.ran (YieldsList-from_range 0 a.signature.count a.signature.count (cc) (omega arith)) (λ x b q k. search (rules, tests))
    ∙ all-places a.signature a.n a.size.0 a.setting.now s.requires.limited.0 sheet (s.requires.by_index sheet)
