-- The variables of a clause: where one stands, and one occurrence more.
use Prim.Native.Nat.{ℕ, ◌+◌, ◌≤◌, ◌<◌}
use mathlib.Core.Path.{◌≡◌, refl, sym, ap, ◌∙◌}
use mathlib.Core.Bool.{Bool, true}
use mathlib.Core.Option.{none, some}
use Rattle.std.specs.Prelude.{Some, None}
use Rattle.theory.specs.Options.{told}
use mathlib.Core.List.{List, [], ◌∷◌, ◌++◌, map, map-append}
use native.Mathlib.Omega.{arith}
use lib.Dec.{leb}
use lib.ListN.{length, get_or, take, length-append, length-take, length-map}
use lib.Seq.{length-take-le}
use Rattle.theory.specs.Lists.{any, all, same, place_that, or_zero}
use Rattle.theory.proofs.Tests.{leb-true, leb-of-≤, and-join}
use Rattle.theory.proofs.Lists.{all_append, all-at, any_at, same_refl}
use Rattle.theory.proofs.Finding.{place_that-some, place_that-none, place_that-snoc}
use Rattle.tptp.specs.Symbols.{first_of_name, letter_of_name}
use Rattle.declaring.specs.declared.letters.Letter.{Letter}
use Rattle.declaring.specs.declared.letters.Letters as declared
use Rattle.declaring.specs.Letters.{letter_in, letters_in, Lettered, LettersOf, LetterFound}
use Rattle.declaring.proofs.Appearing.{first_alike, first-new, first-again}

module _ (text : List ℕ) (v : declared.Letters) (h : Lettered text v) where
  front : length (take v.count v.names) ≡ v.count
  front = length-take-le v.count v.names h.held

  count-letters : length (letters_in text v) ≡ v.count
  count-letters = length-map (take v.count v.names) (letter_in text) ∙ front

  -- the name of a variable that is among them stands within the text
  pub letter-within : (y : Letter) (i : ℕ) → i < length (take v.count v.names) → y ≡ get_or (take v.count v.names) i y → y.name + y.length ≤ length text
  letter-within y i l e =
      leb-true (y.name + y.length) (length text) (ap inside e ∙ all-at inside y (take v.count v.names) i h.names l)
    where
      inside : Letter → Bool
      inside z = leb (z.name + z.length) (length text)

  module _ (x : List ℕ) where
    -- a variable that has appeared
    module _ (i : ℕ) (p : told (Some i) ≡ place_that (same x) (letters_in text v)) where
      pub letter-again : LetterFound text v x (Some (record { letters = v; place = i }))
      letter-again = record { number = λ U L. at U L; taken = record { within = omega (arith, h.count, (place_that-some (same x) (letters_in text v) i [] there).0, count-letters); lettered = h; letters = λ U L. L ∙ sym (stays U L) } }
        where
          there : place_that (same x) (letters_in text v) ≡ some i
          there = sym p

          stays : (U : List (List ℕ)) → LettersOf text U v → first_of_name (λ y. y) (U ++ (x ∷ [])) ≡ first_of_name (λ y. y) U
          stays U L =
              let s = place_that-some (same x) (letters_in text v) i [] there in
              first-again (λ (y : List ℕ). y) U x (sym (first_alike (λ (y : List ℕ). y) x U) ∙ ap (any (same x)) (sym L) ∙ any_at (same x) [] (letters_in text v) i s.0 s.1)

          at : (U : List (List ℕ)) → LettersOf text U v → i ≡ letter_of_name (first_of_name (λ y. y) (U ++ (x ∷ []))) x
          at U L = sym (ap (λ (l : List (List ℕ)). letter_of_name l x) (stays U L ∙ sym L) ∙ ap or_zero there)

    -- a new one
    module _ (p : told {A = ℕ} None ≡ place_that (same x) (letters_in text v)) where
      grows : (U : List (List ℕ)) → LettersOf text U v → first_of_name (λ y. y) (U ++ (x ∷ [])) ≡ letters_in text v ++ (x ∷ [])
      grows U L =
          let nowhere : place_that (same x) (letters_in text v) ≡ none = sym p in
          first-new (λ (y : List ℕ). y) U x (sym (first_alike (λ (y : List ℕ). y) x U) ∙ ap (any (same x)) (sym L) ∙ place_that-none (same x) (letters_in text v) nowhere)
          ∙ ap (λ (l : List (List ℕ)). l ++ (x ∷ [])) (sym L)

      place-new : (U : List (List ℕ)) → LettersOf text U v → v.count ≡ letter_of_name (first_of_name (λ y. y) (U ++ (x ∷ []))) x
      place-new U L =
          let nowhere : place_that (same x) (letters_in text v) ≡ none = sym p in
          sym count-letters ∙ sym (ap (λ (l : List (List ℕ)). letter_of_name l x) (grows U L) ∙ ap or_zero (place_that-snoc (same x) (letters_in text v) x nowhere (same_refl x)))

      pub letter-ninth : 8 ≤ v.count → LetterFound text v x None
      letter-ninth k = let e : 8 ≡ v.count = omega (arith, h.count) in record { number = λ U L. e ∙ place-new U L; taken = tt }

      pub letter-new : (y : Letter) (r : declared.Letters) → letter_in text y ≡ x → y.name + y.length ≤ length text → v.count < 8
          → r.count ≡ v.count + 1 → take r.count r.names ≡ take v.count v.names ++ (y ∷ []) → LetterFound text v x (Some (record { letters = r; place = v.count }))
      letter-new y r e inside k n q =
          record {
            number = place-new;
            taken = record {
              within = omega arith;
              lettered = record {
                count = omega (arith, n);
                held = omega (arith, n, ap length q, length-append (take v.count v.names) (y ∷ []), front, length-take r.count r.names);
                names = ap (all within) q
                    ∙ all_append within (take v.count v.names) (y ∷ [])
                    ∙ and-join (all within (take v.count v.names)) (all within (y ∷ [])) h.names (and-join (within y) true (leb-of-≤ (y.name + y.length) (length text) inside) refl);
              };
              letters = λ U L.
                  ap (map (letter_in text)) q ∙ map-append (letter_in text) (take v.count v.names) (y ∷ [])
                  ∙ ap (λ (w : List ℕ). letters_in text v ++ (w ∷ [])) e ∙ sym (grows U L);
            };
          }
        where
          within : Letter → Bool
          within y = leb (y.name + y.length) (length text)
