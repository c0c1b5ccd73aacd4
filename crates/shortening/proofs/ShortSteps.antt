-- One word of the shortened clause: the word that stands there, or the name of the term that does.
use Prim.Native.Nat.{ℕ, ◌+◌, ◌≤◌}
use mathlib.Core.Path.{◌≡◌, sym, ap, ◌∙◌, subst}
use mathlib.Core.Logic.{inl, inr}
use mathlib.Core.Bool.{true, false}
use mathlib.Core.Option.{some}
use mathlib.Core.List.{List, [], ◌∷◌, ◌++◌}
use native.Mathlib.Omega.{arith}
use lib.Dec.{ltb}
use lib.ListN.{length, drop, length-append}
use Rattle.theory.specs.Syntax.{Signature, Term, apply, Terms}
use Rattle.theory.specs.Grammar.{Word, letter, symbol, term_words}
use Rattle.theory.specs.Flattening.{add_term, add_terms}
use Rattle.theory.proofs.Tests.{both_false, ltb-of-<, or_left}
use Rattle.theory.proofs.Growing.{add_terms-extends}
use Rattle.syntax.specs.declared.terms.Span.{Span}
use Rattle.syntax.specs.declared.terms.FixedTerms.{FixedTerms}
use Rattle.syntax.specs.Signatures.{max_declared}
use Rattle.syntax.specs.Codes.{code_word}
use Rattle.syntax.proofs.Codes.{word_of-symbol}
use Rattle.clauses.specs.Words.{is_fixed_code, is_code}
use Rattle.naming.specs.FixedTerms.{is_fixed, name_of}
use Rattle.naming.specs.NamedReading.{max_helpers}
use Rattle.shortening.specs.declared.line.LineWord.{LineWord}
use Rattle.shortening.specs.declared.short.ShortWord.{ShortWord}
use Rattle.std.specs.Prelude as rust
use Rattle.std.specs.Prelude.{Some, None}
use Rattle.shortening.specs.Opening.{is_opening}
use Rattle.shortening.specs.Spans.{words_between, FirstOf, NextWord}
use Rattle.shortening.specs.FixedEnds.{TermHere, EndsAt}
use Rattle.shortening.specs.Left.{Left, left_words, left_named, short_left, LeftHere}
use Rattle.shortening.specs.Tables.{SpanWithin, term_at, terms_in, TermThere, TermsThere}
use Rattle.shortening.specs.ShortLines.{NameGiven, ShortStep}
use Rattle.shortening.proofs.Codes.{code-more}
use Rattle.shortening.proofs.Views.{Passes, Names, Opens, View, view}
use Rattle.shortening.proofs.NamedTable.{term-there}

module _ (g : Signature) (sheet : List ℕ) (at to : ℕ) (w : LineWord) (n : NextWord g sheet at to w) (l : LeftHere g sheet at to) where
  abbrev here : FirstOf g sheet at to (left_words l.left) w
  here = n.first (left_words l.left) l.words

  abbrev first : List Word → Word
  first [] = letter 0
  first (x ∷ xs) = x

  pub coded-here : is_code (length g) w.code ≡ true
  coded-here = here.coded

  -- the word there is passed
  passed-step : (ts : FixedTerms) → TermsThere g sheet ts → (next : Left) → Passes g l.left (code_word w.code) next
      → ShortStep g sheet at to ts l.left (Some (record { code = w.code; end = w.end; terms = ts }))
  passed-step ts there next p =
      record {
        from = here.filled;
        within = n.within;
        next = record { left = next; ok = p.ok; words = here.left ∙ ap some (ap (drop 1) (sym here.words ∙ p.words)) };
        there = there;
        found = ap (add_terms (terms_in g sheet ts)) p.named;
        short = λ zs. p.short (length g) (terms_in g sheet ts ++ zs);
        coded = code-more (length g) (length g + ts.count) w.code (omega arith) here.coded;
      }

  -- the first word of what is left
  same_word : (x : Word) (ws : List Word) → left_words l.left ≡ x ∷ ws → x ≡ code_word w.code
  same_word x ws e = ap first (sym e ∙ here.words)

  -- it begins no term with arguments
  pub closed-step : (ts : FixedTerms) → TermsThere g sheet ts → false ≡ is_opening g (code_word w.code) → ShortStep g sheet at to ts l.left (Some (record { code = w.code; end = w.end; terms = ts }))
  closed-step ts there closed = go (view g l.left l.ok)
    where
      go : View g l.left → ShortStep g sheet at to ts l.left (Some (record { code = w.code; end = w.end; terms = ts }))
      go (inl e) = absurd (omega (arith, ap length (sym e ∙ here.words)))
      go (inr (inl v)) = passed-step ts there v.1.0 (subst (λ (x : Word). Passes g l.left x v.1.0) (same_word v.0 (left_words v.1.0) v.1.1.1.words) v.1.1.1)
      go (inr (inr v)) = absurd (both_false v.1.1.1.0 (ap (is_opening g) (same_word (symbol v.0) _ v.1.1.1.1.words) ∙ sym closed))

  -- it begins one
  pub record OpenHere : Type 0 where
    pub f : ℕ
    pub us : Terms
    pub next : Left
    pub opens : Opens g l.left (apply f us) next

  pub open-here : is_opening g (code_word w.code) ≡ true → OpenHere
  open-here opening = go (view g l.left l.ok)
    where
      go : View g l.left → OpenHere
      go (inl e) = absurd (omega (arith, ap length (sym e ∙ here.words)))
      go (inr (inl v)) = absurd (both_false opening (ap (is_opening g) (sym (same_word v.0 (left_words v.1.0) v.1.1.1.words)) ∙ v.1.1.0))
      go (inr (inr v)) = record { f = v.0; us = v.1.0; next = v.1.1.0; opens = v.1.1.1.1 }

  module _ (opening : is_opening g (code_word w.code) ≡ true) where
    abbrev o : OpenHere
    o = open-here opening

    abbrev pub term-here : TermHere g sheet at to
    term-here = record { term = apply o.f o.us; rest = left_words o.next; ok = o.opens.term; words = l.words ∙ ap some o.opens.words }

    -- the term has a variable
    pub varying-step : (ts : FixedTerms) → TermsThere g sheet ts → is_fixed term-here.term ≡ false → ShortStep g sheet at to ts l.left (Some (record { code = w.code; end = w.end; terms = ts }))
    varying-step ts there e =
        let v = o.opens.other e in
        passed-step ts there v.1.0 (subst (λ (x : Word). Passes g l.left x v.1.0) (same_word (symbol v.0) (left_words v.1.0) v.1.1.words) v.1.1)

    -- the term has none, and ends at a place
    module _ (end : ℕ) (e : EndsAt g sheet at to term-here end) (inside : to ≤ length sheet) where
      abbrev span : Span
      span = record { from = at; to = end }

      names : Names g l.left (apply o.f o.us) o.next
      names = o.opens.fixed e.fixed

      pub span-within : SpanWithin sheet span
      span-within = record { from = omega (arith, e.from); to = omega (arith, e.within) }

      both : (term_at g sheet span ≡ apply o.f o.us) × TermThere g sheet span
      both = term-there g sheet span (apply o.f o.us) span-within e.words names.term names.nameable

      pub span-there : TermThere g sheet span
      span-there = both.1

      -- it is named
      pub named_step : (ts : FixedTerms) (r : rust.Option ShortWord) → length g ≤ max_declared → NameGiven g sheet (length g) ts span r → ShortStep g sheet at to ts l.left r
      named_step ts r few given = go r given
        where
          t : Term
          t = term_at g sheet span

          added : left_named l.left ≡ t ∷ left_named o.next
          added = names.named ∙ ap (λ (u : Term). u ∷ left_named o.next) (sym both.0)

          longer : length (add_term (terms_in g sheet ts) t) ≤ length (add_terms (add_term (terms_in g sheet ts) t) (left_named o.next))
          longer = let x = add_terms-extends (add_term (terms_in g sheet ts) t) (left_named o.next) in omega (arith, ap length x.1, length-append (add_term (terms_in g sheet ts) t) x.0)

          go : (r : rust.Option ShortWord) → NameGiven g sheet (length g) ts span r → ShortStep g sheet at to ts l.left r
          go None full = omega (arith, longer, ap length (ap (add_terms (terms_in g sheet ts)) added))
          go (Some r) m =
              let room : r.terms.count ≤ max_helpers = m.there.table.count in
              record {
                from = omega (arith, e.from, m.end);
                within = omega (arith, e.within, m.end);
                next = record { left = o.next; ok = names.ok; words = ap (λ (k : ℕ). words_between g sheet (k + 1) to) m.end ∙ e.left };
                there = m.there;
                found = ap (add_terms (terms_in g sheet ts)) added ∙ ap (λ (found : List Term). add_terms found (left_named o.next)) (sym m.added);
                short = λ zs.
                    let N : List Term = terms_in g sheet r.terms ++ zs in
                    let rest : List Word = left_words (short_left (length g) N o.next) in
                    names.short (length g) N
                    ∙ ap (λ (u : Term). term_words (name_of (length g) N u) ++ rest) (sym both.0)
                    ∙ ap (λ (u : Term). term_words u ++ rest) (m.name zs)
                    ∙ ap (λ (x : Word). x ∷ rest) (sym (word_of-symbol r.code (omega (arith, m.code))));
                coded = or_left (ltb r.code (length g + r.terms.count)) (is_fixed_code r.code) (ltb-of-< r.code (length g + r.terms.count) m.code);
              }
