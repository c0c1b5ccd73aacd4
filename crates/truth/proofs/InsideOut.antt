-- The terms of a literal are valued from inside out: of the words from a place on, the values of the terms that they are stand in order.
use Prim.Native.Nat.{ℕ, zero, suc, ◌+◌, ◌-◌, ◌≤◌, ◌<◌}
use mathlib.Core.Path.{◌≡◌, sym, ap, ◌∙◌, subst}
use mathlib.Core.List.{List, ◌∷◌, map}
use native.Mathlib.Omega.{arith}
use lib.ListN.{length, get_or, set, drop, length-set, length-take}
use lib.Seq.{set-get_or, get_or-set_other}
use Rattle.theory.specs.Vectors.{rank, AllBelow}
use Rattle.theory.specs.Syntax.{Signature, symbol_at, Terms, apply, count}
use Rattle.theory.specs.Truth.{Interpretation, Assignment, value, values}
use Rattle.theory.specs.Cells.{cell, interpretation}
use Rattle.theory.specs.Grammar.{Word, symbol, letter, take_terms, read_words}
use Rattle.theory.proofs.DueWords.{taken}
use Rattle.text.specs.Lines.{part}
use Rattle.text.proofs.Part.{part_none, length_part, take-part}
use Rattle.syntax.specs.Codes.{letter_code, code_word}
use Rattle.syntax.proofs.Codes.{word_of-letter}
use Rattle.interpretation.proofs.Ranks.{all_below-take}
use Rattle.truth.specs.Steps.{terms_end, VariablesHeld, TermsLent, TermsValued}
use Rattle.truth.proofs.Standing.{end-within, words-from, enough, IsFunction, is-function, none_read, all_read}
use Rattle.truth.proofs.Stack.{Held, held-count, held-take, letter-held, function-held}
use Rattle.truth.proofs.SymbolCells.{cell-is, cell-within, element-at}

-- a part that ends n places behind its start is no longer
pub few-arguments : (held : List ℕ) (top n : ℕ) → n ≤ 3 → length (part held top (top + n)) ≤ 3
few-arguments held top n h = omega (arith, length-take (top + n - top) (drop top held))

module _ {words : List ℕ} {from k : ℕ} {arities bases cells : List ℕ} {s : ℕ} {held₀ : List ℕ} (t : TermsLent words from k arities bases cells s held₀) where
  abbrev ws : List Word
  ws = map code_word words

  abbrev g : Signature
  g = t.signature

  abbrev ρ : Assignment
  ρ = t.assignment

  abbrev I : Interpretation
  I = interpretation s t.signature cells

  -- the words from place i on are valued, their values stand from top on; those before it have their variables valued
  pub record ValuedFrom (i top : ℕ) (held : List ℕ) : Type 0 where
    pub start : from ≤ i
    pub ahead : i ≤ top
    pub room : terms_end t.there ≤ length held
    pub terms : Held g I ρ s (terms_end t.there) (drop i ws) held top
    pub variables : VariablesHeld ρ words from i held

  room₀ : terms_end t.there ≤ length held₀
  room₀ = omega (arith, t.room, end-within t.there)

  -- a variable among the words
  module _ (j : ℕ) (start : from ≤ j) (below : j < terms_end t.there) (letters : letter_code ≤ get_or words j 0) where
    words-letter : letter (get_or words j 0 - letter_code) ∷ drop (suc j) ws ≡ drop j ws
    words-letter = sym (words-from t.there j (omega (arith, end-within t.there)) ∙ ap (λ (w : Word). w ∷ drop (suc j) ws) (word_of-letter (get_or words j 0) letters))

    letter-below : ρ (get_or words j 0 - letter_code) < s
    letter-below = t.below j (get_or words j 0 - letter_code) start below (word_of-letter (get_or words j 0) letters)

  -- the last n words, where they are variables
  tail-held : (n j : ℕ) → j + n ≡ terms_end t.there → k ≤ j → Held g I ρ s (terms_end t.there) (drop j ws) held₀ j
  tail-held zero j q l =
      let e : j ≡ terms_end t.there = omega arith in
      rw e
      (record {
        within = omega arith;
        terms = part_none held₀ (terms_end t.there) ∙ sym (ap (values I ρ) (none_read t.there));
        below = subst (AllBelow s) (sym (part_none held₀ (terms_end t.there))) tt;
      })
  tail-held (suc n) j q l =
      let b : j < terms_end t.there = omega arith in
      let a : from ≤ j = omega (arith, t.tail.start) in
      let c : letter_code ≤ get_or words j 0 = t.tail.letters j l b in
      let v : get_or held₀ j 0 ≡ ρ (get_or words j 0 - letter_code) = t.variables j (get_or words j 0 - letter_code) a b (word_of-letter (get_or words j 0) c) in
      let e : suc j - 1 ≡ j = omega arith in
      let h : Held g I ρ s (terms_end t.there) (letter (get_or words j 0 - letter_code) ∷ drop (suc j) ws) (set held₀ j (get_or held₀ j 0)) j =
      rw e at (letter-held g I ρ s (terms_end t.there) (drop (suc j) ws) held₀ (suc j) room₀ (tail-held n (suc j) (omega arith) (omega arith)) (get_or words j 0 - letter_code) (get_or held₀ j 0) v (rw v (letter-below j a b c)) (omega arith)) in
      subst (λ (l : List ℕ). Held g I ρ s (terms_end t.there) (drop j ws) l j) (set-get_or held₀ j 0) (subst (λ (us : List Word). Held g I ρ s (terms_end t.there) us (set held₀ j (get_or held₀ j 0)) j) (words-letter j a b c) h)

  -- the variables at the end have their values already
  pub tail-valued : ValuedFrom k k held₀
  tail-valued =
      record {
        start = t.tail.start;
        ahead = omega arith;
        room = room₀;
        terms = tail-held (terms_end t.there - k) k (omega (arith, t.tail.within)) (omega arith);
        variables = λ j x a b c. t.variables j x a (omega (arith, t.tail.within)) c;
      }

  -- the word before place i
  module _ {i top : ℕ} {held : List ℕ} (h : ValuedFrom i top held) (more : from < i) where
    pub word_below : i - 1 < length words
    word_below = omega (arith, h.ahead, h.terms.within, end-within t.there)

    last : suc (i - 1) ≡ i
    last = omega arith

    inside : i - 1 < terms_end t.there
    inside = omega (arith, h.ahead, h.terms.within)

    started : from ≤ i - 1
    started = omega arith

    -- the values of the variables before it are not touched
    untouched : (j y : ℕ) → i - 1 ≤ j → VariablesHeld ρ words from (i - 1) (set held j y)
    untouched n y q j x a b c = get_or-set_other held n j y 0 (λ z. omega arith) ∙ h.variables j x a (omega arith) c

    -- a variable has its value, which is put in front
    pub variable-valued : letter_code ≤ get_or words (i - 1) 0 → ValuedFrom (i - 1) (top - 1) (set held (top - 1) (get_or held (i - 1) 0))
    variable-valued letters =
        let x : ℕ = get_or words (i - 1) 0 - letter_code in
        let v : get_or held (i - 1) 0 ≡ ρ x = h.variables (i - 1) x started (omega arith) (word_of-letter (get_or words (i - 1) 0) letters) in
        let e : letter x ∷ drop i ws ≡ drop (i - 1) ws = ap (λ (n : ℕ). letter x ∷ drop n ws) (sym last) ∙ words-letter (i - 1) started inside letters in
        record {
          start = started;
          ahead = omega (arith, h.ahead);
          room = omega (arith, h.room, length-set held (top - 1) (get_or held (i - 1) 0));
          terms =
              subst (λ (us : List Word). Held g I ρ s (terms_end t.there) us (set held (top - 1) (get_or held (i - 1) 0)) (top - 1)) e
              (letter-held g I ρ s (terms_end t.there) (drop i ws) held top h.room h.terms x (get_or held (i - 1) 0) v (rw v (letter-below (i - 1) started inside letters)) (omega (arith, h.ahead)));
          variables = untouched (top - 1) (get_or held (i - 1) 0) (omega (arith, h.ahead));
        }

    -- a function
    module _ (symbols : get_or words (i - 1) 0 < letter_code) where
      is : IsFunction t.there (i - 1) started inside
      is = is-function t.there (i - 1) started inside symbols

      pub function-declared : get_or words (i - 1) 0 < length t.signature
      function-declared = is.declared

      arity-is : get_or arities (get_or words (i - 1) 0) 0 ≡ (symbol_at g (get_or words (i - 1) 0)).arity
      arity-is = t.table.arity (get_or words (i - 1) 0) is.declared

      pub arity-small : get_or arities (get_or words (i - 1) 0) 0 ≤ 3
      arity-small = omega (arith, arity-is, t.interprets.small.arities (get_or words (i - 1) 0) is.declared)

      arity-enough : get_or arities (get_or words (i - 1) 0) 0 ≤ count (read_words g (drop i ws)).terms
      arity-enough =
          omega (
            arith,
            arity-is,
            enough t.there (i - 1) word_below,
            ap (taken g) is.symbol,
            ap (λ (n : ℕ). count (read_words g (drop n ws)).terms) last,
          )

      pub arguments-within : top + get_or arities (get_or words (i - 1) 0) 0 ≤ terms_end t.there
      arguments-within = omega (arith, arity-enough, held-count g I ρ s (terms_end t.there) (drop i ws) held top h.room h.terms)

      -- its arguments, as they are lent, are the values of the terms that it takes
      abbrev arguments : List ℕ
      arguments = part held top (top + get_or arities (get_or words (i - 1) 0) 0)

      abbrev taken-terms : Terms
      taken-terms = take_terms (get_or arities (get_or words (i - 1) 0) 0) (read_words g (drop i ws)).terms

      arguments-are : arguments ≡ values I ρ taken-terms
      arguments-are = held-take g I ρ s (terms_end t.there) (drop i ws) held top h.room h.terms (get_or arities (get_or words (i - 1) 0) 0) arity-enough

      arguments-length : length (part held top (top + get_or arities (get_or words (i - 1) 0) 0)) ≡ get_or arities (get_or words (i - 1) 0) 0
      arguments-length = omega (arith, length_part held top (top + get_or arities (get_or words (i - 1) 0) 0) (omega arith) (omega (arith, arguments-within, h.room)))

      pub arguments-below : AllBelow s (part held top (top + get_or arities (get_or words (i - 1) 0) 0))
      arguments-below =
          subst (AllBelow s) (take-part held top (terms_end t.there) (get_or arities (get_or words (i - 1) 0) 0) (omega (arith, arguments-within)))
          (all_below-take s (get_or arities (get_or words (i - 1) 0) 0) (part held top (terms_end t.there)) h.terms.below)

      -- its value is put in place of theirs
      module _ (c : ℕ) (e : c ≡ get_or bases (get_or words (i - 1) 0) 0 + rank s (part held top (top + get_or arities (get_or words (i - 1) 0) 0))) where
        pub function-cell : c < length cells
        function-cell = cell-within t.interprets (get_or words (i - 1) 0) is.declared arguments (arguments-length ∙ arity-is) arguments-below c e

        pub function-valued : (v : ℕ) → ((ts : Terms) → c ≡ cell s g (get_or words (i - 1) 0) (values I ρ ts) → v ≡ value I ρ (apply (get_or words (i - 1) 0) ts))
            → ValuedFrom (i - 1) (top + get_or arities (get_or words (i - 1) 0) 0 - 1) (set held (top + get_or arities (get_or words (i - 1) 0) 0 - 1) v)
        function-valued v q =
            let f : ℕ = get_or words (i - 1) 0 in
            let a : ℕ = get_or arities f 0 in
            let at : c ≡ cell s g f (values I ρ taken-terms) = cell-is t.interprets f is.declared arguments (arguments-length ∙ arity-is) arguments-below c e ∙ ap (cell s g f) arguments-are in
            let b : v < s = rw (q taken-terms at, ← at) (element-at t.interprets f is.declared arguments (arguments-length ∙ arity-is) arguments-below c e is.kind) in
            let u : symbol f ∷ drop i ws ≡ drop (i - 1) ws =
            ap (λ (n : ℕ). symbol f ∷ drop n ws) (sym last) ∙ sym (words-from t.there (i - 1) word_below ∙ ap (λ (w : Word). w ∷ drop (suc (i - 1)) ws) is.symbol) in
            record {
              start = started;
              ahead = omega (arith, h.ahead);
              room = omega (arith, h.room, length-set held (top + a - 1) v);
              terms =
                  subst (λ (us : List Word). Held g I ρ s (terms_end t.there) us (set held (top + a - 1) v) (top + a - 1)) u
                  (function-held g I ρ s (terms_end t.there) (drop i ws) held top h.room h.terms f a v is.kind arity-is arity-enough (q taken-terms at) b (omega (arith, h.ahead)));
              variables = untouched (top + a - 1) v (omega (arith, h.ahead));
            }

  -- at the first word the values are those of all terms
  pub all-valued : {i top : ℕ} {held : List ℕ} → ValuedFrom i top held → i ≤ from → TermsValued t top held
  all-valued {i = i} h q =
      let e : i ≡ from = omega (arith, h.start) in
      record {
        within = h.terms.within;
        terms = h.terms.terms ∙ ap (λ (i : ℕ). values I ρ (read_words g (drop i ws)).terms) e ∙ ap (values I ρ) (all_read t.there);
        below = h.terms.below;
      }
