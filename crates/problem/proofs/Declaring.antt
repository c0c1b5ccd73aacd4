-- The symbol that a line's value declares: its last two bytes, its arity, its name.
use Prim.Native.Nat.{ℕ, suc, ◌+◌, ◌-◌, ◌≤◌, ◌<◌}
use mathlib.Core.Path.{◌≡◌, refl, sym, ap, ◌∙◌}
use mathlib.Core.Bool.{Bool, true, false, cond, not, ◌&&◌}
use mathlib.Core.Option.{Option, none, some}
use mathlib.Core.List.{List}
use native.Mathlib.Numerals.{add-one}
use native.Mathlib.Omega.{arith}
use lib.Dec.{eqb, ltb, leb}
use lib.ListN.{length, get_or, take, drop}
use borrow.Author.Tests.{le-leb, lt-leb, eq-eqb, ne_eqb}
use Rattle.theory.specs.Lists.{same}
use Rattle.theory.specs.Bytes.{is_digit}
use Rattle.theory.specs.Syntax.{declared, Signature, Symbol, no_symbol}
use Rattle.theory.specs.Refusals.{Answer, answer, at_line, ◌>>=◌, check, or_refuse}
use Rattle.theory.specs.Problem.{max_arity, is_name, symbol_of, is_named, place_of_name}
use Rattle.theory.proofs.Tests.{ltb-true, and_right}
use Rattle.theory.proofs.Lists.{any_at}
use Rattle.theory.proofs.Finding.{place_that-some, place_that-none}
use Rattle.theory.proofs.Answers.{bind-step, bind-refused, or_refuse-of-some, or_refuse-of-none, check-of-true, check-of-false}
use Rattle.text.specs.Lines.{part}
use Rattle.text.proofs.Part.{length_part, get_d_part, take-part}
use Rattle.syntax.specs.Signatures.{kind_of}
use Rattle.problem.specs.Symbols.{symbol_value, ValueDeclared}
use Rattle.std.specs.Prelude.{Some, None, Ok, Err, is_some}
use Rattle.std.specs.Prelude as rust
use Rattle.theory.specs.Options.{told}
use Rattle.syntax.specs.declared.faults.Fault.TheVariants as fault

pub digit-below : (a : ℕ) → is_digit a ≡ true → a < 58
digit-below a e = ltb-true a 58 (and_right (leb 48 a) (ltb a 58) e)

-- a name whose place was found is that of a symbol, and no other is
pub name-found : (w : List ℕ) (g : Signature) (o : rust.Option ℕ) → told o ≡ place_of_name w g → is_some o ≡ true → is_named w g ≡ true
name-found w g (Some i) e h =
    let s = place_that-some (λ (f : Symbol). same w f.name) g i no_symbol (sym e) in
    any_at (λ (f : Symbol). same w f.name) no_symbol g i s.0 s.1
name-found w g None e h = let z : ◌≡◌ {A = ℕ} 0 1 = cc in absurd (omega arith)

pub name-not-found : (w : List ℕ) (g : Signature) (o : rust.Option ℕ) → told o ≡ place_of_name w g → is_some o ≡ false → is_named w g ≡ false
name-not-found w g (Some i) e h = let z : ◌≡◌ {A = ℕ} 0 1 = cc in absurd (omega arith)
name-not-found w g None e h = place_that-none (λ (f : Symbol). same w f.name) g (sym e)

module _ (sheet : List ℕ) (from end : ℕ) (function : Bool) (g : Signature) (ordered : from ≤ end) (inside : end < length sheet) where
  value : List ℕ
  value = part sheet from end

  -- the symbol, if the last two bytes are as laid out
  laid_out : Bool → Option Symbol
  laid_out b = cond b (some (record { kind = kind_of function; name = take (length value - 2) value; arity = get_or value (suc (length value - 2)) 0 - 48; origin = declared })) none

  count : length value ≡ end - from
  unfolding value
  count = length_part sheet from end ordered (omega arith)

  -- a value without / and a digit at its end
  no_symbol-is : symbol_of (kind_of function) value ≡ none → ValueDeclared sheet from end (kind_of function) g (Err fault.SheetLine)
  unfolding value symbol_value
  no_symbol-is e =
      record {
        read = λ l. sym (bind-refused (or_refuse (symbol_of (kind_of function) (part sheet from end)) (at_line 2 l)) _ (at_line 2 l) (or_refuse-of-none (symbol_of (kind_of function) (part sheet from end)) (at_line 2 l) e));
        within = tt;
      }

  pub value-short : end - from < 2 → ValueDeclared sheet from end (kind_of function) g (Err fault.SheetLine)
  unfolding laid_out
  value-short h = no_symbol-is (ap (λ (b : Bool). laid_out (b && eqb (get_or value (length value - 2) 0) 47 && is_digit (get_or value (suc (length value - 2)) 0))) (lt-leb 2 (length value) (omega (arith, count))))

  module _ (long : 2 ≤ end - from) where
    slash : get_or value (length value - 2) 0 ≡ get_or sheet (end - 2) 0
    unfolding value
    slash =
        let e : from + (length value - 2) ≡ end - 2 = omega (arith, count) in
        get_d_part sheet from end (length value - 2) 0 (omega (arith, count)) ∙ ap (λ (i : ℕ). get_or sheet i 0) e

    digit : get_or value (suc (length value - 2)) 0 ≡ get_or sheet (end - 2 + 1) 0
    unfolding value
    digit =
        let e : from + suc (length value - 2) ≡ end - 2 + 1 = omega (arith, count) in
        get_d_part sheet from end (suc (length value - 2)) 0 (omega (arith, count)) ∙ ap (λ (i : ℕ). get_or sheet i 0) e

    front : take (length value - 2) value ≡ part sheet from (end - 2)
    unfolding value
    front =
        let e : from + (length value - 2) ≡ end - 2 = omega (arith, count) in
        take-part sheet from end (length value - 2) (omega (arith, count)) ∙ ap (part sheet from) e

    -- the test on the last two bytes
    tested : (b d : Bool) → eqb (get_or sheet (end - 2) 0) 47 ≡ b → is_digit (get_or sheet (end - 2 + 1) 0) ≡ d → symbol_of (kind_of function) value ≡ laid_out (b && d)
    unfolding laid_out
    tested b d p q =
        ap (λ (t : Bool). laid_out (t && eqb (get_or value (length value - 2) 0) 47 && is_digit (get_or value (suc (length value - 2)) 0))) (le-leb 2 (length value) (omega (arith, count)))
        ∙ ap (λ (x : ℕ). laid_out (eqb x 47 && is_digit (get_or value (suc (length value - 2)) 0))) slash
        ∙ ap (λ (x : ℕ). laid_out (eqb (get_or sheet (end - 2) 0) 47 && is_digit x)) digit
        ∙ ap (λ (t : Bool). laid_out (t && is_digit (get_or sheet (end - 2 + 1) 0))) p
        ∙ ap (λ (t : Bool). laid_out (b && t)) q

    pub value-unslashed : (get_or sheet (end - 2) 0 ≡ 47 → ⊥) → ValueDeclared sheet from end (kind_of function) g (Err fault.SheetLine)
    unfolding laid_out
    value-unslashed h = no_symbol-is (tested false (is_digit (get_or sheet (end - 2 + 1) 0)) (ne_eqb (get_or sheet (end - 2) 0) 47 h) refl)

    module _ (slashed : get_or sheet (end - 2) 0 ≡ 47) where
      pub value-undigited : is_digit (get_or sheet (end - 2 + 1) 0) ≡ false → ValueDeclared sheet from end (kind_of function) g (Err fault.SheetLine)
      unfolding laid_out
      value-undigited h = no_symbol-is (tested true false (eq-eqb (get_or sheet (end - 2) 0) 47 slashed) h)

      module _ (digited : is_digit (get_or sheet (end - 2 + 1) 0) ≡ true) where
        -- the symbol that the code reads
        symbol : Symbol
        symbol = record { kind = kind_of function; name = part sheet from (end - 2); arity = get_or sheet (end - 2 + 1) 0 - 48; origin = declared }

        symbol-read : symbol_of (kind_of function) value ≡ some symbol
        unfolding laid_out symbol
        symbol-read =
            tested true true (eq-eqb (get_or sheet (end - 2) 0) 47 slashed) digited
            ∙ ap (λ (x : ℕ). some (record { kind = kind_of function; name = take (length value - 2) value; arity = x - 48; origin = declared })) digit
            ∙ ap (λ (w : List ℕ). some (record { kind = kind_of function; name = w; arity = get_or sheet (end - 2 + 1) 0 - 48; origin = declared })) front

        limited : (l : ℕ) (r : Answer (Symbol × List ℕ))
            → (check (leb symbol.arity max_arity) (at_line 3 l) >>= λ _. check (is_name symbol.name && not (is_named symbol.name g)) (at_line 4 l) >>= λ _. answer (symbol, drop (suc end) sheet)) ≡ r
            → symbol_value (kind_of function) g l (part sheet from end, drop (suc end) sheet) ≡ r
        unfolding symbol_value value
        limited l r e = bind-step (or_refuse (symbol_of (kind_of function) (part sheet from end)) (at_line 2 l)) _ symbol r (or_refuse-of-some (symbol_of (kind_of function) (part sheet from end)) (at_line 2 l) symbol symbol-read) e

        pub arity-over : 3 < get_or sheet (end - 2 + 1) 0 - 48 → ValueDeclared sheet from end (kind_of function) g (Err fault.CountOrArity)
        unfolding symbol
        arity-over h =
            record {
              read = λ l. sym (limited l _ (bind-refused (check (leb symbol.arity max_arity) (at_line 3 l)) _ (at_line 3 l) (check-of-false (leb symbol.arity max_arity) (at_line 3 l) (lt-leb symbol.arity 3 h))));
              within = tt;
            }

        module _ (small : get_or sheet (end - 2 + 1) 0 - 48 ≤ 3) where
          named : (l : ℕ) (r : Answer (Symbol × List ℕ)) → (check (is_name symbol.name && not (is_named symbol.name g)) (at_line 4 l) >>= λ _. answer (symbol, drop (suc end) sheet)) ≡ r
              → symbol_value (kind_of function) g l (part sheet from end, drop (suc end) sheet) ≡ r
          unfolding symbol
          named l r e = limited l r (bind-step (check (leb symbol.arity max_arity) (at_line 3 l)) _ tt r (check-of-true (leb symbol.arity max_arity) (at_line 3 l) (le-leb symbol.arity 3 small)) e)

          misnamed : (is_name symbol.name && not (is_named symbol.name g)) ≡ false → ValueDeclared sheet from end (kind_of function) g (Err fault.Name)
          misnamed e =
              record {
                read = λ l. sym (named l _ (bind-refused (check (is_name symbol.name && not (is_named symbol.name g)) (at_line 4 l)) _ (at_line 4 l) (check-of-false _ (at_line 4 l) e)));
                within = tt;
              }

          pub name-bad : is_name (part sheet from (end - 2)) ≡ false → ValueDeclared sheet from end (kind_of function) g (Err fault.Name)
          unfolding symbol
          name-bad e = misnamed (ap (λ (b : Bool). b && not (is_named symbol.name g)) e)

          module _ (good : is_name (part sheet from (end - 2)) ≡ true) where
            pub name-repeated : is_named (part sheet from (end - 2)) g ≡ true → ValueDeclared sheet from end (kind_of function) g (Err fault.Name)
            unfolding symbol
            name-repeated e = misnamed (ap (λ (b : Bool). b && not (is_named symbol.name g)) good ∙ ap not e)

            pub symbol-declared : is_named (part sheet from (end - 2)) g ≡ false
                → ValueDeclared sheet from end (kind_of function) g (Ok (record { function = function; helper = false; arity = get_or sheet (end - 2 + 1) 0 - 48; name = from; length = end - 2 - from }, end + 1))
            unfolding symbol
            symbol-declared e =
                record {
                  read = λ l. sym (named l _ (bind-step (check (is_name symbol.name && not (is_named symbol.name g)) (at_line 4 l)) _ tt _
                      (check-of-true _ (at_line 4 l) (ap (λ (b : Bool). b && not (is_named symbol.name g)) good ∙ ap not e))
                      (ap (λ (n : ℕ). answer (symbol, drop n sheet)) (sym (add-one end)))));
                  within = (small, (omega arith, omega arith));
                }
