-- The readers step by step: a variable, a function and its terms, no term, a term and the rest.
use Prim.Native.Nat.{ℕ, zero, suc, ◌+◌, ◌-◌, ◌≤◌, ◌<◌}
use mathlib.Core.Path.{◌≡◌, refl, sym, ap, ◌∙◌, subst}
use mathlib.Core.Logic.{◌⊎◌, inl, inr, ⊎_elim, ◌≢◌}
use mathlib.Core.Bool.{true, ◌&&◌}
use mathlib.Core.List.{List, [], ◌∷◌, ◌++◌, append_assoc}
use native.Mathlib.Nat.{add-zero}
use native.Mathlib.Omega.{arith}
use lib.ListN.{length, get_or, replicate, length-append, get_or-replicate}
use Rattle.theory.proofs.FlatForm.{within-left, within-right}
use Rattle.theory.specs.Lists.{elem}
use Rattle.theory.specs.Syntax.{Signature, symbol_at, Term, variable, apply, Terms, empty, cons, count, function_of, term_variables, terms_variables, term_ok, terms_ok}
use Rattle.theory.specs.Grammar.{Word, letter, symbol, term_words, terms_words}
use Rattle.theory.specs.Flattening.{function_terms, all_function_terms, add_term, add_terms, variable_for, place_or0}
use Rattle.theory.specs.Lifted.{within}
use Rattle.theory.proofs.Tests.{ltb-true, and_left, and_right}
use Rattle.theory.proofs.Lists.{all-elem}
use Rattle.theory.proofs.Declared.{function_of→}
use Rattle.theory.proofs.LiftedTerms.{add_terms-adds}
use Rattle.theory.proofs.Growing.{add_terms-append, add_terms-length, function_terms-words, all_function_terms-words, variable_for-grown}
use Rattle.syntax.specs.Codes.{letter_code, code_of}
use Rattle.syntax.specs.Variables.{is_letter, place_or8}
use Rattle.syntax.proofs.Codes.{code_of-word_of}
use Rattle.lifting.specs.declared.table.Row.{Row}
use Rattle.lifting.specs.declared.table.Table.{Table}
use Rattle.lifting.specs.declared.terms.Lifted.{Lifted}
use Rattle.lifting.specs.declared.terms.AllLifted.{AllLifted}
use Rattle.lifting.specs.Places.{place_in, places}
use Rattle.lifting.specs.Rows.{row_of, shared}
use Rattle.lifting.specs.Lifts.{Lifts}
use Rattle.lifting.specs.Reading.{words_from, TermThere, TermsThere, TermLifted, TermsLifted}
use Rattle.lifting.proofs.Standing.{own-place}
use Rattle.lifting.proofs.Sharing.{shared-variable, shared-lifts}
use Rattle.lifting.proofs.Words.{words-fit, words-after, first_below, first_word, first-after}

-- a term has a first word
starts : (u : Term) (rest : List Word) → (w : Word) × (ws : List Word) × (term_words u ++ rest ≡ w ∷ ws)
starts (variable x) rest = (letter x, rest, refl)
starts (apply f ts) rest = (symbol f, terms_words ts ++ rest, refl)

has_word : (u : Term) → 1 ≤ length (term_words u)
has_word (variable x) = omega arith
has_word (apply f ts) = omega arith

module _ {codes place arities : List ℕ} {owns at : ℕ} {t : Table} (s : TermThere codes place arities owns at t) where
  abbrev code : ℕ
  code = get_or codes at 0

  abbrev xs : List ℕ
  xs = s.source.variables

  abbrev g : Signature
  g = s.source.signature

  pub before-end : at < s.source.count
  before-end = let w = starts s.term s.rest in first_below codes s.source.count s.source.fits at w.0 w.1 (s.words ∙ w.2)

  pub inside : at < length codes
  inside = omega (arith, before-end, s.source.fits)

  -- the term is a variable, or a function followed by terms, and its first word's code says which
  pub record VariableTerm : Type 0 where
    pub x : ℕ
    pub is : s.term ≡ variable x
    pub coded : get_or codes at 0 ≡ letter_code + x
    pub own : elem x s.source.variables ≡ true

  pub record FunctionTerm : Type 0 where
    pub arguments : Terms
    pub is : s.term ≡ apply (get_or codes at 0) arguments
    pub below : get_or codes at 0 < length s.source.signature
    pub arity : count arguments ≡ (symbol_at s.source.signature (get_or codes at 0)).arity

  split : VariableTerm ⊎ FunctionTerm
  split = go s.term refl
    where
      go : (u : Term) → s.term ≡ u → VariableTerm ⊎ FunctionTerm
      go (variable x) e =
          let w = first_word codes s.source.count s.source.fits at (letter x) s.rest (s.words ∙ ap (λ (u : Term). term_words u ++ s.rest) e) in
          inl (record {
            x = x;
            is = e;
            coded = sym (code_of-word_of code) ∙ ap code_of w;
            own = and_left (elem x xs) true (ap (λ (u : Term). within xs (term_variables u)) (sym e) ∙ s.own);
          })
      go (apply f us) e =
          let w = first_word codes s.source.count s.source.fits at (symbol f) (terms_words us ++ s.rest) (s.words ∙ ap (λ (u : Term). term_words u ++ s.rest) e) in
          let c : f ≡ code = sym (ap code_of w) ∙ code_of-word_of code in
          let d = function_of→ g f (count us) (and_left (function_of g f (count us)) (terms_ok g us) (ap (term_ok g) (sym e) ∙ s.ok)) in
          inr (record {
            arguments = us;
            is = e ∙ ap (λ (f : ℕ). apply f us) c;
            below = subst (λ (f : ℕ). f < length g) c d.below;
            arity = d.arity ∙ ap (λ (f : ℕ). (symbol_at g f).arity) c;
          })

  pub variable-term : letter_code ≤ get_or codes at 0 → VariableTerm
  variable-term h = ⊎_elim (λ v. v) (λ p. absurd (omega (arith, p.below, s.source.small.symbols))) split

  pub function-term : get_or codes at 0 < letter_code → FunctionTerm
  function-term h = ⊎_elim (λ v. absurd (omega (arith, v.coded))) (λ p. p) split

  -- a variable is read to its place
  pub letter-inside : letter_code ≤ get_or codes at 0 → get_or codes at 0 - letter_code < length place
  letter-inside h =
      let v = variable-term h in
      omega (arith, v.coded, s.source.eight, ltb-true v.x 8 (all-elem is_letter xs v.x s.source.letters v.own))

  pub letter-lifted : letter_code ≤ get_or codes at 0 → TermLifted s (record { variable = get_or place (get_or codes at 0 - letter_code) 0; next = at + 1 }) t
  letter-lifted h = go (variable-term h)
    where
      go : VariableTerm → TermLifted s (record { variable = get_or place (get_or codes at 0 - letter_code) 0; next = at + 1 }) t
      go v =
          let x : ℕ = v.x in
          let e : code - letter_code ≡ x = omega (arith, v.coded) in
          let p = own-place xs x v.own in
          record {
            next = ap (λ (u : Term). at + length (term_words u)) (sym v.is);
            lifts = subst (λ (u : Term). Lifts g xs (add_terms s.found (function_terms u)) t) (sym v.is) s.lifts;
            variable =
                ap (λ (i : ℕ). get_or place i 0) e
                ∙ s.source.places x (ltb-true x 8 (all-elem is_letter xs x s.source.letters v.own))
                ∙ ap place_or8 p.found
                ∙ sym (ap place_or0 p.found)
                ∙ ap (λ (u : Term). place_in xs (variable_for (add_terms s.found (function_terms u)) u)) (sym v.is);
          }

  -- a function's terms stand behind it
  pub function-inside : get_or codes at 0 < letter_code → get_or codes at 0 < length arities
  function-inside h = omega (arith, (function-term h).below, s.source.table.within)

  pub words-behind : (p : FunctionTerm) → words_from codes s.source.count at ≡ symbol code ∷ (terms_words p.arguments ++ s.rest)
  words-behind p = s.words ∙ ap (λ (u : Term). term_words u ++ s.rest) p.is

  abbrev pub arguments-there : FunctionTerm → TermsThere codes place arities owns (at + 1) (get_or arities (get_or codes at 0) 0) t
  arguments-there p =
      record {
        source = s.source;
        terms = p.arguments;
        counted = p.arity ∙ sym (s.source.table.arity code p.below);
        ok = and_right (function_of g code (count p.arguments)) (terms_ok g p.arguments) (ap (term_ok g) (sym p.is) ∙ s.ok);
        own = ap (λ (u : Term). within xs (term_variables u)) (sym p.is) ∙ s.own;
        rest = s.rest;
        words = first-after codes s.source.count s.source.fits at (symbol code) (terms_words p.arguments ++ s.rest) (words-behind p);
        found = s.found;
        lifts = s.lifts;
        room = omega (arith, s.room);
      }

  -- there is room for one term more
  pub share-room : (p : FunctionTerm) (r : AllLifted) (m : Table) → TermsLifted (arguments-there p) r m → m.count < 64
  share-room p r m e =
      let us : List Term = all_function_terms p.arguments in
      omega (
        arith,
        e.lifts.holds.count,
        add_terms-length s.found us,
        all_function_terms-words p.arguments,
        s.room,
        words-fit codes s.source.count s.source.fits at (symbol code ∷ terms_words p.arguments) s.rest (words-behind p) (omega (arith, before-end)),
        s.source.short,
      )

  -- and it is shared
  pub function-lifted : (p : FunctionTerm) (r : AllLifted) (m : Table) → TermsLifted (arguments-there p) r m
      → TermLifted s (record { variable = owns + row_of m (record { function = get_or codes at 0; arguments = r.variables }); next = r.next }) (shared m (record { function = get_or codes at 0; arguments = r.variables }))
  function-lifted p r m e =
      let us : Terms = p.arguments in
      let row : Row = record { function = code; arguments = r.variables } in
      let this : Term = apply code us in
      let before : List Term = add_terms s.found (all_function_terms us) in
      let ok : term_ok g this ≡ true = ap (term_ok g) (sym p.is) ∙ s.ok in
      let own : within xs (terms_variables us) ≡ true = ap (λ (u : Term). within xs (term_variables u)) (sym p.is) ∙ s.own in
      let added : add_term before this ≡ add_terms s.found (function_terms this) = sym (add_terms-append s.found (all_function_terms us) (this ∷ [])) in
      let n : r.next ≡ at + suc (length (terms_words us)) = omega (arith, e.next) in
      record {
        next = n ∙ ap (λ (u : Term). at + length (term_words u)) (sym p.is);
        lifts =
            subst (λ (u : Term). Lifts g xs (add_terms s.found (function_terms u)) (shared m row)) (sym p.is)
            (subst (λ (l : List Term). Lifts g xs l (shared m row)) added
            (shared-lifts g s.source.small xs before m e.lifts code us ok own (add_terms-adds s.found (all_function_terms us)) r.variables e.variables (share-room p r m e)));
        variable =
            ap (λ (n : ℕ). n + row_of m row) s.source.owned
            ∙ shared-variable g s.source.small xs before m e.lifts code us ok own (add_terms-adds s.found (all_function_terms us)) r.variables e.variables (share-room p r m e)
            ∙ ap (λ (l : List Term). place_in xs (variable_for l this)) added
            ∙ ap (λ (u : Term). place_in xs (variable_for (add_terms s.found (function_terms u)) u)) (sym p.is);
      }

no-terms : (ts : Terms) → count ts ≡ 0 → ts ≡ empty
no-terms empty e = refl
no-terms (cons t ts) e = absurd (omega arith)

module _ {codes place arities : List ℕ} {owns at n : ℕ} {t : Table} (s : TermsThere codes place arities owns at n t) where
  -- no term is due
  pub none-lifted : n ≡ 0 → TermsLifted s (record { variables = replicate 3 0; next = at }) t
  none-lifted h = go (no-terms s.terms (s.counted ∙ h))
    where
      go : s.terms ≡ empty → TermsLifted s (record { variables = replicate 3 0; next = at }) t
      go e =
          let z : (j : ℕ) → j < 3 → get_or (replicate 3 0) j 0 ≡ get_or {A = ℕ} [] j 0 = λ j k. get_or-replicate 3 j 0 0 k in
          record {
            next = sym (add-zero at) ∙ ap (λ (us : Terms). at + length (terms_words us)) (sym e);
            lifts = subst (λ (us : Terms). Lifts s.source.signature s.source.variables (add_terms s.found (all_function_terms us)) t) (sym e) s.lifts;
            variables = λ j k. z j k ∙ ap (λ (us : Terms). get_or (places s.source.variables (add_terms s.found (all_function_terms us)) us) j 0) (sym e);
          }

  -- one is, and the rest
  pub record MoreTerms : Type 0 where
    pub first : Term
    pub others : Terms
    pub is : s.terms ≡ cons first others

  pub more-terms : n ≢ 0 → MoreTerms
  more-terms h = go s.terms refl
    where
      go : (us : Terms) → s.terms ≡ us → MoreTerms
      go empty e = absurd (h (sym s.counted ∙ ap count e))
      go (cons u us) e = record { first = u; others = us; is = e }

  module _ (p : MoreTerms) where
    pub words-there : words_from codes s.source.count at ≡ term_words p.first ++ (terms_words p.others ++ s.rest)
    words-there = s.words ∙ ap (λ (us : Terms). terms_words us ++ s.rest) p.is ∙ append_assoc (term_words p.first) (terms_words p.others) s.rest

    pub all-ok : (term_ok s.source.signature p.first && terms_ok s.source.signature p.others) ≡ true
    all-ok = ap (terms_ok s.source.signature) (sym p.is) ∙ s.ok

    pub all_own : within s.source.variables (terms_variables (cons p.first p.others)) ≡ true
    all_own = ap (λ (us : Terms). within s.source.variables (terms_variables us)) (sym p.is) ∙ s.own

    abbrev pub first-there : TermThere codes place arities owns at t
    first-there =
        record {
          source = s.source;
          term = p.first;
          ok = and_left (term_ok s.source.signature p.first) (terms_ok s.source.signature p.others) all-ok;
          own = within-left s.source.variables (term_variables p.first) (terms_variables p.others) all_own;
          rest = terms_words p.others ++ s.rest;
          words = words-there;
          found = s.found;
          lifts = s.lifts;
          room = s.room;
        }

    module _ (r : Lifted) (m : Table) (e : TermLifted first-there r m) where
      -- the words left are fewer
      pub further : at < r.next
      further = omega (arith, e.next, has_word p.first)

      abbrev pub rest-there : TermsThere codes place arities owns r.next (n - 1) m
      rest-there =
          record {
            source = s.source;
            terms = p.others;
            counted = omega (arith, ap count p.is, s.counted);
            ok = and_right (term_ok s.source.signature p.first) (terms_ok s.source.signature p.others) all-ok;
            own = within-right s.source.variables (term_variables p.first) (terms_variables p.others) all_own;
            rest = s.rest;
            words =
                ap (words_from codes s.source.count) e.next
                ∙ words-after codes s.source.count s.source.fits at (term_words p.first) (terms_words p.others ++ s.rest) words-there;
            found = add_terms s.found (function_terms p.first);
            lifts = e.lifts;
            room = omega (arith, add_terms-length s.found (function_terms p.first), function_terms-words p.first, s.room, e.next);
          }

      pub more-lifted : (q : AllLifted) (last : Table) → TermsLifted rest-there q last
          → TermsLifted s (record { variables = r.variable ∷ (get_or q.variables 0 0 ∷ (get_or q.variables 1 0 ∷ [])); next = q.next }) last
      more-lifted q last d =
          record {
            next = n₂ ∙ ap (λ (us : Terms). at + length (terms_words us)) (sym p.is);
            lifts = subst (λ (us : Terms). Lifts g xs (add_terms s.found (all_function_terms us)) last) (sym p.is) (subst (λ (l : List Term). Lifts g xs l last) all d.lifts);
            variables = λ j k.
                at-place j k ∙ ap (λ (l : List Term). get_or (places xs l (cons u us)) j 0) all ∙ ap (λ (us : Terms). get_or (places xs (add_terms s.found (all_function_terms us)) us) j 0) (sym p.is);
          }
        where
          g : Signature
          g = s.source.signature

          xs : List ℕ
          xs = s.source.variables

          u : Term
          u = p.first

          us : Terms
          us = p.others

          one : List Term
          one = add_terms s.found (function_terms u)

          two : List Term
          two = add_terms one (all_function_terms us)

          all : two ≡ add_terms s.found (all_function_terms (cons u us))
          all = sym (add_terms-append s.found (function_terms u) (all_function_terms us))

          n₂ : q.next ≡ at + length (terms_words (cons u us))
          n₂ = omega (arith, d.next, e.next, length-append (term_words u) (terms_words us))

          at-place : (j : ℕ) → j < 3
              → get_or (r.variable ∷ (get_or q.variables 0 0 ∷ (get_or q.variables 1 0 ∷ []))) j 0 ≡ get_or (places xs two (cons u us)) j 0
          at-place zero k = e.variable ∙ ap (place_in xs) (sym (variable_for-grown one (all_function_terms us) u (add_terms-adds s.found (function_terms u))))
          at-place (suc zero) k = d.variables 0 (omega arith)
          at-place (suc (suc zero)) k = d.variables 1 (omega arith)
          at-place (suc (suc (suc j))) k = absurd (omega arith)
