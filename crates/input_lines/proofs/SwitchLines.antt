-- The reader of the third line reads as the definition does.
use Prim.Native.Nat.{ℕ, ◌+◌, ◌-◌, ◌≤◌}
use mathlib.Core.Path.{◌≡◌, refl, sym, ap, subst, ◌∙◌}
use mathlib.Core.Bool.{Bool, true, false}
use mathlib.Core.Option.{Option, none, some}
use mathlib.Core.List.{List}
use native.Mathlib.Omega.{arith}
use lib.ListN.{length, take, drop, length-drop}
use lib.Seq.{drop-drop}
use Rattle.theory.specs.Bytes.{bytes}
use Rattle.theory.specs.Lines.{after_key}
use Rattle.theory.specs.Least.{or_else}
use Rattle.theory.specs.Program.{◌>>?◌, switch_line}
use Rattle.text.specs.Lines.{StartsWith}
use Rattle.input_lines.specs.Lines.{LineRead}
use Rattle.input_lines.proofs.LentRest.{rest}
use Rattle.std.specs.Prelude.{Some, None}

module _ (input : List ℕ) (at : ℕ) (h : at ≤ length input) where
  -- the reader of keys says whether the part that it is lent begins with the key
  abbrev pub Says : List ℕ → Bool → Type 0
  Says key b = StartsWith (take (length input - at) (drop at input)) key b

  begins : (key : List ℕ) (r b : Bool) → Says key r → r ≡ b → StartsWith (drop at input) key b
  begins key r b s e = subst (λ (l : List ℕ). StartsWith l key b) (rest input at h) (subst (Says key) e s)

  -- what follows each of the two lines, where it stands at the place
  abbrev saying : Option (List ℕ) → Option (List ℕ) → Option (Bool × List ℕ)
  saying o q = or_else (o >>? λ rest. some (true, rest)) (q >>? λ rest. some (false, rest))

  switched : (o q : Option (List ℕ)) → after_key (bytes "sym=yes\n") (drop at input) ≡ o → after_key (bytes "sym=no\n") (drop at input) ≡ q → switch_line (drop at input) ≡ saying o q
  unfolding switch_line
  switched o q e f = ap (λ (o : Option (List ℕ)). saying o (after_key (bytes "sym=no\n") (drop at input))) e ∙ ap (saying o) f

  pub says-yes : (r : Bool) → Says (bytes "sym=yes\n") r → r ≡ true → LineRead switch_line input at (Some (true, (at + 8)))
  unfolding ◌>>?◌
  says-yes r s e =
      let t = begins (bytes "sym=yes\n") r true s e in
      record {
        read = ap (λ (l : List ℕ). some (true, l)) (sym (drop-drop 8 at input)) ∙ sym (switched (some (drop 8 (drop at input))) (after_key (bytes "sym=no\n") (drop at input)) t.found refl);
        within = omega (arith, t.room refl, length-drop at input, h);
      }

  module _ (q : Bool) (s : Says (bytes "sym=yes\n") q) (d : q ≡ false) where
    not_yes : after_key (bytes "sym=yes\n") (drop at input) ≡ none
    not_yes = (begins (bytes "sym=yes\n") q false s d).found

    pub says-no : (r : Bool) → Says (bytes "sym=no\n") r → r ≡ true → LineRead switch_line input at (Some (false, (at + 7)))
    unfolding ◌>>?◌
    says-no r s e =
        let t = begins (bytes "sym=no\n") r true s e in
        record {
          read = ap (λ (l : List ℕ). some (false, l)) (sym (drop-drop 7 at input)) ∙ sym (switched none (some (drop 7 (drop at input))) not_yes t.found);
          within = omega (arith, t.room refl, length-drop at input, h);
        }

    pub says-neither : (r : Bool) → Says (bytes "sym=no\n") r → r ≡ false → LineRead switch_line input at None
    unfolding ◌>>?◌
    says-neither r s e = record { read = sym (switched none none not_yes (begins (bytes "sym=no\n") r false s e).found); within = tt }
