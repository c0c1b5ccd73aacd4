-- The words of a term, passed one after the other with a count of the terms that are due.
use Prim.Native.Nat.{ℕ, ◌+◌, ◌-◌, ◌≤◌, ◌<◌}
use mathlib.Core.Path.{◌≡◌, refl, sym, ap, ◌∙◌}
use mathlib.Core.Logic.{◌⊎◌, inl, inr}
use mathlib.Core.Bool.{Bool, true, false, ◌&&◌}
use mathlib.Core.Option.{some}
use mathlib.Core.List.{List, [], ◌∷◌, ◌++◌, append-nil}
use native.Mathlib.Omega.{arith}
use lib.ListN.{length, drop}
use Rattle.theory.specs.Syntax.{Signature, symbol_at, variable, apply, Terms, empty, cons, count, function_of, term_ok, terms_ok}
use Rattle.theory.specs.Grammar.{Word, letter, symbol, term_words, terms_words}
use Rattle.theory.proofs.Tests.{and_left, and_right, and-join}
use Rattle.theory.proofs.Declared.{function_of→}
use Rattle.theory.proofs.Grammar.{append_terms}
use Rattle.syntax.specs.declared.signature.Signature as declared
use Rattle.syntax.specs.Signatures.{signature_in}
use Rattle.clauses.specs.Names.{Limited}
use Rattle.clauses.proofs.Held.{count-signature_in}
use Rattle.syntax.specs.Codes.{code_of, code_word}
use Rattle.syntax.proofs.Codes.{code_of-word_of}
use Rattle.naming.specs.FixedTerms.{is_fixed, are_fixed}
use Rattle.shortening.specs.declared.line.LineWord.{LineWord}
use Rattle.shortening.specs.Spans.{words_between, FirstOf, NextWord}
use Rattle.shortening.specs.FixedEnds.{TermHere, EndsAt}
use Rattle.shortening.proofs.LineWords.{none_left, words-front}
use Rattle.shortening.proofs.Views.{append-words, append-ok}

-- a symbol's place is below the codes of letters
pub few-places : (sheet : List ℕ) (s : declared.Signature) → Limited s → length (signature_in sheet s) < code_of (letter 0)
few-places sheet s h = omega (arith, count-signature_in s h sheet, h.count)

append-fixed : (ts us : Terms) → are_fixed (append_terms ts us) ≡ (are_fixed ts && are_fixed us)
append-fixed empty us = refl
append-fixed (cons t ts) us = go (is_fixed t) (append-fixed ts us)
  where
    go : (b : Bool) → are_fixed (append_terms ts us) ≡ (are_fixed ts && are_fixed us) → (b && are_fixed (append_terms ts us)) ≡ ((b && are_fixed ts) && are_fixed us)
    go true h = h
    go false h = refl

append-count : (ts us : Terms) → count (append_terms ts us) ≡ count ts + count us
append-count empty us = omega arith
append-count (cons t ts) us = omega (arith, append-count ts us)

module _ (g : Signature) (sheet : List ℕ) (at to : ℕ) (t : TermHere g sheet at to) where
  -- from the place `next` on these terms are due, and the term has no variable exactly if they have none
  pub record Scanned (next due : ℕ) : Type 0 where
    pub due-terms : Terms
    pub counted : count due-terms ≡ due
    pub positive : 0 < due
    pub ok : terms_ok g due-terms ≡ true
    pub words : words_between g sheet next to ≡ some (terms_words due-terms ++ t.rest)
    pub same : is_fixed t.term ≡ are_fixed due-terms
    pub from : at ≤ next
    pub bound : due + at ≤ next + 1

  pub starts : Scanned at 1
  starts =
      record {
        due-terms = cons t.term empty;
        counted = refl;
        positive = omega arith;
        ok = and-join (term_ok g t.term) true t.ok refl;
        words = t.words ∙ ap (λ (l : List Word). some (l ++ t.rest)) (sym (append-nil (term_words t.term)));
        same = and-true (is_fixed t.term);
        from = omega arith;
        bound = omega arith;
      }
    where
      and-true : (b : Bool) → b ≡ (b && true)
      and-true true = refl
      and-true false = refl

  -- the terms left behind a function of them
  record Behind (c : ℕ) (others : List Word) (due : ℕ) : Type 0 where
    pub left : Terms
    pub declared : c < length g
    pub counted : count left + 1 ≡ due + (symbol_at g c).arity
    pub ok : terms_ok g left ≡ true
    pub words : others ≡ terms_words left ++ t.rest
    pub same : is_fixed t.term ≡ are_fixed left

  module _ (small : length g < code_of (letter 0)) (next due : ℕ) (z : Scanned next due) (w : LineWord) (n : NextWord g sheet next to w) where
    abbrev here : FirstOf g sheet next to (terms_words z.due-terms ++ t.rest) w
    here = n.first (terms_words z.due-terms ++ t.rest) z.words

    -- the first word is a letter, and the term has a variable; or it is a function
    seen : ((code_of (letter 0) ≤ w.code) × (is_fixed t.term ≡ false)) ⊎ Behind w.code here.others due
    seen = go z.due-terms z.counted z.ok z.same here.others here.words
      where
        first : List Word → Word
        first [] = letter 0
        first (x ∷ xs) = x

        go : (ts : Terms) → count ts ≡ due → terms_ok g ts ≡ true → is_fixed t.term ≡ are_fixed ts → (others : List Word) → terms_words ts ++ t.rest ≡ code_word w.code ∷ others
            → ((code_of (letter 0) ≤ w.code) × (is_fixed t.term ≡ false)) ⊎ Behind w.code others due
        go empty k ok same others e = absurd (omega (arith, z.positive))
        go (cons (variable x) us) k ok same others e =
            let c : letter x ≡ code_word w.code = ap first e in
            inl (omega (arith, ap code_of c, code_of-word_of w.code), same)
        go (cons (apply h vs) us) k ok same others e =
            let c : symbol h ≡ code_word w.code = ap first e in
            let q : h ≡ w.code = ap code_of c ∙ code_of-word_of w.code in
            let o : term_ok g (apply h vs) ≡ true = and_left (term_ok g (apply h vs)) (terms_ok g us) ok in
            let d = function_of→ g h (count vs) (and_left (function_of g h (count vs)) (terms_ok g vs) o) in
            inr (record {
              left = append_terms vs us;
              declared = omega (arith, d.below);
              counted = omega (arith, append-count vs us, d.arity, ap (λ (i : ℕ). (symbol_at g i).arity) q);
              ok = append-ok g vs us (and_right (function_of g h (count vs)) (terms_ok g vs) o) (and_right (term_ok g (apply h vs)) (terms_ok g us) ok);
              words = sym (ap (drop 1) e) ∙ ap (λ (l : List Word). l ++ t.rest) (sym (append-words vs us));
              same = same ∙ sym (append-fixed vs us);
            })

    pub varies : code_of (letter 0) ≤ w.code → is_fixed t.term ≡ false
    varies h = go seen
      where
        go : ((code_of (letter 0) ≤ w.code) × (is_fixed t.term ≡ false)) ⊎ Behind w.code here.others due → is_fixed t.term ≡ false
        go (inl v) = v.1
        go (inr b) = absurd (omega (arith, b.declared))

    module _ (h : w.code < code_of (letter 0)) where
      behind : Behind w.code here.others due
      behind = go seen
        where
          go : ((code_of (letter 0) ≤ w.code) × (is_fixed t.term ≡ false)) ⊎ Behind w.code here.others due → Behind w.code here.others due
          go (inl v) = absurd (omega (arith, v.0))
          go (inr b) = b

      pub function-there : w.code < length g
      function-there = behind.declared

      module _ (a : ℕ) (e : a ≡ (symbol_at g w.code).arity) where
        -- terms are still due
        pub goes_on : a ≤ 3 → (due - 1 + a ≡ 0 → ⊥) → Scanned (w.end + 1) (due - 1 + a)
        goes_on few more =
            record {
              due-terms = behind.left;
              counted = omega (arith, behind.counted, z.positive);
              positive = omega arith;
              ok = behind.ok;
              words = here.left ∙ ap some behind.words;
              same = behind.same;
              from = omega (arith, z.from, here.filled);
              bound = omega (arith, z.bound, here.filled, z.positive);
            }

        -- none is
        pub ends : to ≤ length sheet → due - 1 + a ≡ 0 → EndsAt g sheet at to t w.end
        ends inside last =
            let none : behind.left ≡ empty = no-terms behind.left (omega (arith, behind.counted, z.positive)) in
            let rest : here.others ≡ t.rest = behind.words ∙ ap (λ (ts : Terms). terms_words ts ++ t.rest) none in
            record {
              fixed = behind.same ∙ ap are_fixed none;
              from = omega (arith, z.from, here.filled);
              within = n.within;
              words = words-front g sheet at w.end to (term_words t.term) t.rest (omega (arith, z.from, here.filled)) n.within inside here.spaced t.words (here.left ∙ ap some rest);
              left = here.left ∙ ap some rest;
            }
          where
            no-terms : (ts : Terms) → count ts ≡ 0 → ts ≡ empty
            no-terms empty e = refl
            no-terms (cons t ts) e = absurd (omega arith)

  -- the line does not end where terms are due
  pub not-ended : (next due : ℕ) → Scanned next due → to ≤ next → ⊥
  not-ended next due z h = go z.due-terms z.counted (none_left g sheet next to (terms_words z.due-terms ++ t.rest) h z.words)
    where
      go : (ts : Terms) → count ts ≡ due → terms_words ts ++ t.rest ≡ [] → ⊥
      go empty k e = omega (arith, z.positive)
      go (cons (variable x) us) k e = let n = ap length e in omega arith
      go (cons (apply f vs) us) k e = let n = ap length e in omega arith
