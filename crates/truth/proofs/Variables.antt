-- The variables of a literal's terms are valued from the first to the last, up to the next sign.
use Prim.Native.Nat.{ℕ, zero, suc, ◌+◌, ◌-◌, ◌≤◌, ◌<◌}
use mathlib.Core.Path.{◌≡◌, sym, ap, ◌∙◌, subst}
use mathlib.Core.Logic.{inl, inr, ⊎_elim}
use mathlib.Core.Bool.{true}
use mathlib.Core.List.{List, [], ◌∷◌, map}
use native.Mathlib.Omega.{arith}
use lib.ListN.{length, get_or, set, drop}
use lib.Seq.{get_or-set_same, get_or-set_other}
use Rattle.theory.specs.Lists.{all, elem}
use Rattle.theory.specs.Truth.{assign}
use Rattle.theory.specs.Grammar.{Word, letter}
use Rattle.theory.proofs.Tests.{and_left, and_right}
use Rattle.theory.proofs.Lists.{all_append}
use Rattle.syntax.specs.Codes.{plus_code, letter_code, code_of, code_word}
use Rattle.syntax.specs.Variables.{letter_of, letters_of}
use Rattle.syntax.proofs.Codes.{code_of-word_of, word_of-letter, known-below}
use Rattle.syntax.proofs.Places.{place-below}
use Rattle.truth.specs.Values.{letters_among}
use Rattle.truth.specs.Steps.{terms_end, VariablesHeld, Tail, VariablesLent, VariablesValued}
use Rattle.truth.proofs.Standing.{end-within, known_at, words-from, le_split, goes_on, stops}

letters-drop : (xs : List ℕ) (ws : List Word) (i : ℕ) → letters_among xs ws ≡ true → letters_among xs (drop i ws) ≡ true
letters-drop xs [] zero h = h
letters-drop xs [] (suc i) h = h
letters-drop xs (w ∷ ws) zero h = h
letters-drop xs (w ∷ ws) (suc i) h =
    letters-drop xs ws i
    (and_right (all (λ x. elem x xs) (letter_of w)) (letters_among xs ws) (sym (all_append (λ x. elem x xs) (letter_of w) (letters_of ws)) ∙ h))

-- the variables before place i are valued, and from place k on there are only variables
pub record ValuedTo {words : List ℕ} {from : ℕ} {place choice : List ℕ} (v : VariablesLent words from place choice) (k i : ℕ) (held : List ℕ) : Type 0 where
  pub within : i ≤ terms_end v.there
  pub tail : Tail words from k i
  pub values : VariablesHeld (assign v.variables choice) words from i held

module _ {words : List ℕ} {from : ℕ} {place choice : List ℕ} (v : VariablesLent words from place choice) where
  -- a letter of the clause
  module _ (i : ℕ) (below : i < length words) (letters : letter_code ≤ get_or words i 0) where
    pub letter-below : get_or words i 0 - letter_code < 8
    letter-below = omega (arith, known-below v.signature v.small.symbols (get_or words i 0) (known_at v.there i below))

    pub letter-occurs : elem (get_or words i 0 - letter_code) v.variables ≡ true
    letter-occurs =
        let x : ℕ = get_or words i 0 - letter_code in
        let e : drop i (map code_word words) ≡ letter x ∷ drop (suc i) (map code_word words) =
        words-from v.there i below ∙ ap (λ (w : Word). w ∷ drop (suc i) (map code_word words)) (word_of-letter (get_or words i 0) letters) in
        and_left (elem x v.variables) (letters_among v.variables (drop (suc i) (map code_word words)))
        (sym (ap (letters_among v.variables) e) ∙ letters-drop v.variables (map code_word words) i v.letters)

    pub letter-placed : get_or place (get_or words i 0 - letter_code) 0 < length choice
    letter-placed = omega (arith, place-below v.variables _ v.places (get_or words i 0 - letter_code) letter-below letter-occurs, v.counted)

  module _ {k i : ℕ} {held : List ℕ} (h : ValuedTo v k i held) (below : i < length words) where
    start : from ≤ i
    start = omega (arith, h.tail.start, h.tail.within)

    -- one variable more
    pub letter-valued : letter_code ≤ get_or words i 0 → i < length held → (y : ℕ) → y ≡ assign v.variables choice (get_or words i 0 - letter_code) → ValuedTo v k (i + 1) (set held i y)
    letter-valued l room y e =
        record {
          within = omega (arith, goes_on v.there i start h.within below (inr l));
          tail =
              record {
                start = h.tail.start;
                within = omega (arith, h.tail.within);
                letters = λ j a b. ⊎_elim (λ q. h.tail.letters j a q) (λ q. rw q l) (le_split j i (omega arith));
              };
          values =
              λ j x a b c. ⊎_elim (λ q. get_or-set_other held i j y 0 (λ z. omega arith) ∙ h.values j x a q c)
              (λ q. let n : get_or words i 0 - letter_code ≡ x = omega (arith, code_of-word_of (get_or words j 0), ap code_of c, ap (λ (j : ℕ). get_or words j 0) q) in ap (λ (j : ℕ). get_or (set held i y) j 0) q ∙ get_or-set_same held i y 0 room ∙ e ∙ ap (assign v.variables choice) n) (le_split j i (omega arith));
        }

    -- a function is passed
    pub function-passed : get_or words i 0 < plus_code → ValuedTo v (i + 1) (i + 1) held
    function-passed l =
        record {
          within = omega (arith, goes_on v.there i start h.within below (inl l));
          tail = record { start = omega (arith, start); within = omega arith; letters = λ j a b. absurd (omega arith) };
          values =
              λ j x a b c. ⊎_elim (λ q. h.values j x a q c)
              (λ q. absurd (omega (arith, code_of-word_of (get_or words j 0), ap code_of c, ap (λ (j : ℕ). get_or words j 0) q))) (le_split j i (omega arith));
        }

    -- at a sign the terms end
    pub sign-ends : plus_code ≤ get_or words i 0 → get_or words i 0 < letter_code → VariablesValued v (record { tail = k; end = i }) held
    sign-ends l m = record { end = stops v.there i start h.within below v.small.symbols l m; tail = h.tail; values = h.values }

  -- and at the clause's end
  pub clause-ends : {k i : ℕ} {held : List ℕ} → ValuedTo v k i held → length words ≤ i → VariablesValued v (record { tail = k; end = length words }) held
  clause-ends {k = k} {i = i} {held = held} h l =
      let e : i ≡ length words = omega (arith, h.within, end-within v.there) in
      subst (λ (n : ℕ). VariablesValued v (record { tail = k; end = n }) held) e (record { end = omega (arith, h.within, end-within v.there); tail = h.tail; values = h.values })
