-- The place of a name among symbols, one symbol after the other.
use Prim.Native.Nat.{ℕ, suc, ◌+◌, ◌-◌, ◌≤◌, ◌<◌}
use mathlib.Core.Path.{◌≡◌, refl, sym, ap, ◌∙◌}
use mathlib.Core.Bool.{Bool, true, false, cond}
use mathlib.Core.Option.{none, some}
use mathlib.Core.List.{List}
use native.Mathlib.Numerals.{add-one}
use native.Mathlib.Omega.{arith}
use lib.Dec.{ltb}
use lib.ListN.{length, get_or, drop, drop_of_length-le}
use lib.Seq.{drop-cons}
use borrow.Author.Tests.{lt-ltb, le-ltb}
use Rattle.theory.specs.Lists.{same, place_at}
use Rattle.theory.specs.Syntax.{Symbol, Signature, symbol_at, no_symbol}
use Rattle.theory.specs.Problem.{place_of_name}
use Rattle.syntax.specs.declared.signature.Signature as declared
use Rattle.syntax.specs.Signatures.{symbol_in, signature_in}
use Rattle.clauses.specs.Names.{Limited}
use Rattle.clauses.proofs.Held.{blank, count-signature_in, symbol_at-signature_in}

-- r is the place of the first symbol from i on that has the name, or the number of symbols
pub record NameFrom (name : List ℕ) (g : Signature) (i r : ℕ) : Type 0 where
  pub from : i ≤ r
  pub place : place_of_name name (drop i g) ≡ cond (ltb r (length g)) (some (r - i)) none

module _ (name : List ℕ) (g : Signature) (i : ℕ) where
  first : i < length g → place_of_name name (drop i g) ≡ place_at (same name (symbol_at g i).name) (place_of_name name (drop (i + 1) g))
  first h = rw (add-one, drop-cons g i no_symbol h)

  pub name-here : i < length g → same name (symbol_at g i).name ≡ true → NameFrom name g i i
  name-here h e = let z : 0 ≡ i - i = omega arith in record {
    from = omega arith;
    place = first h ∙ ap (λ (b : Bool). place_at b (place_of_name name (drop (i + 1) g))) e ∙ ap some z ∙ ap (λ (b : Bool). cond b (some (i - i)) none) (sym (lt-ltb i (length g) h));
  }

  pub name-nowhere : length g ≡ i → NameFrom name g i i
  name-nowhere e = record {
    from = omega arith;
    place = ap (place_of_name name) (drop_of_length-le g {i = i} (omega arith)) ∙ ap (λ (b : Bool). cond b (some (i - i)) none) (sym (le-ltb i (length g) (omega arith)));
  }

  pub name-on : (r : ℕ) → i < length g → same name (symbol_at g i).name ≡ false → NameFrom name g (i + 1) r → NameFrom name g i r
  name-on r h e z =
      let later : i + 1 ≤ r = z.from in
      let s : suc (r - (i + 1)) ≡ r - i = omega arith in
      record {
        from = omega arith;
        place = first h ∙ ap (λ (b : Bool). place_at b (place_of_name name (drop (i + 1) g))) e ∙ ap (place_at false) z.place ∙ go (ltb r (length g)) s;
      }
    where
      go : (b : Bool) → suc (r - (i + 1)) ≡ r - i → place_at false (cond b (some (r - (i + 1))) none) ≡ cond b (some (r - i)) none
      go true s = ap some s
      go false s = refl

module _ (name sheet : List ℕ) (s : declared.Signature) (h : Limited s) (i : ℕ) where
  -- the test on the symbol that the code holds
  pub same_at : (b : Bool) → i < s.count → same name (symbol_in sheet (get_or s.symbols i blank)).name ≡ b → same name (symbol_at (signature_in sheet s) i).name ≡ b
  same_at b l e = ap (λ (f : Symbol). same name f.name) (symbol_at-signature_in s h sheet i l) ∙ e

  -- the answer for all symbols
  found : NameFrom name (signature_in sheet s) 0 i → place_of_name name (signature_in sheet s) ≡ cond (ltb i s.count) (some i) none
  found z =
      let e : i - 0 ≡ i = omega arith in
      z.place ∙ ap (λ (n : ℕ). cond (ltb i (length (signature_in sheet s))) (some n) none) e ∙ ap (λ (n : ℕ). cond (ltb i n) (some i) none) (count-signature_in s h sheet)

  -- the first symbol that has the name
  pub found-here : i < s.count → NameFrom name (signature_in sheet s) 0 i → some i ≡ place_of_name name (signature_in sheet s)
  found-here l z = sym (found z ∙ ap (λ (b : Bool). cond b (some i) none) (lt-ltb i s.count l))

  -- no symbol has it
  pub found-none : s.count ≤ i → NameFrom name (signature_in sheet s) 0 i → none ≡ place_of_name name (signature_in sheet s)
  found-none l z = sym (found z ∙ ap (λ (b : Bool). cond b (some i) none) (le-ltb i s.count l))
