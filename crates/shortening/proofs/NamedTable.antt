-- The terms of a table: equal exactly if their bytes are, looked up, and added.
use Prim.Native.Nat.{ℕ, suc, ◌+◌, ◌<◌}
use mathlib.Core.Path.{◌≡◌, refl, sym, ap, ◌∙◌, subst}
use mathlib.Core.Logic.{◌⊎◌, inl, inr}
use mathlib.Core.Bool.{Bool, true, cond}
use mathlib.Core.Option.{Option, none, some}
use mathlib.Core.List.{List, [], ◌∷◌, ◌++◌, map, map-append, append-nil}
use native.Mathlib.Nat.{eq-or-lt_of_le}
use native.Mathlib.Omega.{arith}
use lib.ListN.{length, get_or, length-map, get_or-append}
use lib.Seq.{get_or-take, get_or-append_seam}
use Rattle.theory.specs.Lists.{same, place_at, place_that}
use Rattle.theory.specs.Syntax.{Signature, Term, variable, apply, empty, term_ok}
use Rattle.theory.specs.Grammar.{Word, Reading, term_words, read_words}
use Rattle.theory.specs.Flattening.{same_term, add_term, place_or0}
use Rattle.theory.specs.Lines.{words_of}
use Rattle.theory.specs.Problem.{read_all}
use Rattle.theory.specs.Columns.{or_no_words}
use Rattle.theory.specs.SheetText.{word_text, words_text}
use Rattle.theory.proofs.Tests.{iff→≡}
use Rattle.theory.proofs.Lists.{same_refl, same_true, any_at}
use Rattle.theory.proofs.Finding.{place_that-some, place_that-none, place_that-append, place_that-snoc}
use Rattle.theory.proofs.Grammar.{term-read}
use Rattle.theory.proofs.LiftedTerms.{same_term-true, same_term-of-≡, same_term-same}
use Rattle.syntax.specs.declared.terms.Span.{Span}
use Rattle.syntax.specs.declared.terms.FixedTerms.{FixedTerms}
use Rattle.naming.specs.FixedTerms.{is_nameable, name_of}
use Rattle.naming.specs.NamedReading.{max_helpers}
use Rattle.shortening.specs.Spans.{words_between}
use Rattle.std.specs.Prelude as rust
use Rattle.std.specs.Prelude.{Some, None}
use Rattle.theory.specs.Options.{told}
use Rattle.shortening.specs.Tables.{bytes_at, no_span, SpanWithin, spans_of, PlaceOf, first_term, term_at, terms_in, TermThere, TermsThere}
use Rattle.shortening.proofs.CutWords.{bytes-known}
use Rattle.shortening.proofs.TableWalk.{alike, length-spans, span-at}

-- the same test of elements and of what they are mapped to
place_that-map : {A B : Type 0} (p : A → Bool) (q : B → Bool) (f : A → B) (d : A) (xs : List A) → ((i : ℕ) → i < length xs → p (get_or xs i d) ≡ q (f (get_or xs i d))) → place_that p xs ≡ place_that q (map f xs)
place_that-map p q f d [] h = refl
place_that-map p q f d (x ∷ xs) h =
    ap (λ (b : Bool). place_at b (place_that p xs)) (h 0 (omega arith)) ∙ ap (place_at (q (f x))) (place_that-map p q f d xs (λ i l. h (suc i) (omega arith)))

module _ (g : Signature) (sheet : List ℕ) where
  -- the term of a span whose words are known
  term_of : (s : Span) (t : Term) → words_between g sheet s.from s.to ≡ some (term_words t) → term_ok g t ≡ true → term_at g sheet s ≡ t
  unfolding term_at
  term_of s t e ok =
      ap (λ (o : Option (List Word)). first_term (read_words g (or_no_words o)).terms) e
      ∙ ap (λ (ws : List Word). first_term (read_words g ws).terms) (sym (append-nil (term_words t)))
      ∙ ap (λ (r : Reading). first_term r.terms) (term-read g t [] ok)

  pub term-there : (s : Span) (t : Term) → SpanWithin sheet s → words_between g sheet s.from s.to ≡ some (term_words t) → term_ok g t ≡ true → is_nameable t ≡ true → (term_at g sheet s ≡ t) × TermThere g sheet s
  term-there s t within e ok nameable =
      let q : term_at g sheet s ≡ t = term_of s t e ok in
      (q, record { within = within; words = e ∙ ap (λ (u : Term). some (term_words u)) (sym q); ok = ap (term_ok g) q ∙ ok; nameable = ap is_nameable q ∙ nameable })

  -- bytes are equal exactly if the terms are
  alike_same : (s u : Span) → TermThere g sheet s → TermThere g sheet u → alike sheet s u ≡ same_term (term_at g sheet s) (term_at g sheet u)
  unfolding words_between
  alike_same s u hs hu = iff→≡ (alike sheet s u) (same_term (term_at g sheet s) (term_at g sheet u)) there back
    where
      bytes : (s : Span) → TermThere g sheet s → bytes_at sheet s ≡ words_text (map (word_text g) (term_words (term_at g sheet s)))
      bytes s h = bytes-known g (bytes_at sheet s) (term_words (term_at g sheet s)) h.words

      there : alike sheet s u ≡ true → same_term (term_at g sheet s) (term_at g sheet u) ≡ true
      there e =
          let b : bytes_at sheet u ≡ bytes_at sheet s = same_true (bytes_at sheet u) (bytes_at sheet s) e in
          same_term-of-≡ (term_at g sheet s) (term_at g sheet u) (sym (term_of u (term_at g sheet s) (ap (λ (v : List ℕ). known v) b ∙ hs.words) hs.ok))
        where
          known : List ℕ → Option (List Word)
          known v = read_all g (words_of v)

      back : same_term (term_at g sheet s) (term_at g sheet u) ≡ true → alike sheet s u ≡ true
      back e =
          let t : term_at g sheet s ≡ term_at g sheet u = same_term-true (term_at g sheet s) (term_at g sheet u) e in
          let b : bytes_at sheet u ≡ bytes_at sheet s = bytes u hu ∙ ap (λ (t : Term). words_text (map (word_text g) (term_words t))) (sym t) ∙ sym (bytes s hs) in
          ap (λ (v : List ℕ). same v (bytes_at sheet s)) b ∙ same_refl (bytes_at sheet s)

  pub none-there : (ts : FixedTerms) → ts.count ≡ 0 → length ts.spans ≡ max_helpers → TermsThere g sheet ts
  none-there ts e held =
      record {
        table = record { held = held; count = omega (arith, e); within = λ i l. absurd (omega (arith, e)) };
        there = λ i l. absurd (omega (arith, e));
      }

  module _ (ts : FixedTerms) (h : TermsThere g sheet ts) where
    pub length-terms : length (terms_in g sheet ts) ≡ ts.count
    length-terms = length-map (spans_of ts) (term_at g sheet) ∙ length-spans sheet ts h.table

    there-at : (i : ℕ) → i < length (spans_of ts) → TermThere g sheet (get_or (spans_of ts) i no_span)
    there-at i l =
        let k : i < ts.count = omega (arith, length-spans sheet ts h.table) in
        subst (TermThere g sheet) (sym (span-at sheet ts h.table i k)) (h.there i k)

    module _ (s : Span) (there : TermThere g sheet s) where
      abbrev t : Term
      t = term_at g sheet s

      abbrev found : List Term
      found = terms_in g sheet ts

      -- the place of the bytes is that of the term
      term-place : (r : rust.Option ℕ) → PlaceOf sheet ts s r → place_that (same_term t) found ≡ told r
      term-place r e = sym (place_that-map (alike sheet s) (same_term t) (term_at g sheet) no_span (spans_of ts) (λ i l. alike_same s (get_or (spans_of ts) i no_span) there (there-at i l))) ∙ e

      -- an equal term is there
      module _ (r : ℕ) (e : PlaceOf sheet ts s (Some r)) where
        at-place : place_that (same_term t) found ≡ some r
        at-place = term-place (Some r) e

        pub old-added : add_term found t ≡ found
        old-added =
            let p = place_that-some (same_term t) found r (variable 0) at-place in
            ap (λ (b : Bool). cond b found (found ++ (t ∷ []))) (any_at (same_term t) (variable 0) found r p.0 p.1)

        pub old-name : (n : ℕ) (zs : List Term) → name_of n (found ++ zs) t ≡ apply (n + r) empty
        old-name n zs = ap (λ (o : Option ℕ). apply (n + place_or0 o) empty) (place_that-append (same_term t) found zs r at-place)

      -- none is
      module _ (e : PlaceOf sheet ts s None) where
        no_place : place_that (same_term t) found ≡ none
        no_place = term-place None e

        pub new-added : add_term found t ≡ found ++ (t ∷ [])
        new-added = ap (λ (b : Bool). cond b found (found ++ (t ∷ []))) (place_that-none (same_term t) found no_place)

        pub new-name : (n : ℕ) (zs : List Term) → name_of n ((found ++ (t ∷ [])) ++ zs) t ≡ apply (n + ts.count) empty
        new-name n zs =
            ap (λ (o : Option ℕ). apply (n + place_or0 o) empty)
            (place_that-append (same_term t) (found ++ (t ∷ [])) zs ts.count (place_that-snoc (same_term t) found t no_place (same_term-same t) ∙ ap (λ (k : ℕ). some k) length-terms))

      -- the table with the term
      module _ (r : FixedTerms) (held : length r.spans ≡ max_helpers) (count : r.count ≡ ts.count + 1) (more : spans_of r ≡ spans_of ts ++ (s ∷ [])) where
        pub with-terms : terms_in g sheet r ≡ found ++ (t ∷ [])
        with-terms = ap (map (term_at g sheet)) more ∙ map-append (term_at g sheet) (spans_of ts) (s ∷ [])

        pub with-there : ts.count < max_helpers → TermsThere g sheet r
        with-there room =
            record {
              table = record { held = held; count = omega (arith, count); within = λ i l. (at i l).within };
              there = at;
            }
          where
            at : (i : ℕ) → i < r.count → TermThere g sheet (get_or r.spans i no_span)
            at i l = subst (TermThere g sheet) (sym (sym (get_or-take r.count r.spans i no_span l) ∙ ap (λ (l : List Span). get_or l i no_span) more)) (go (eq-or-lt_of_le {n = i} {m = ts.count} (omega (arith, count))))
              where
                full : length (spans_of ts) ≡ ts.count
                full = length-spans sheet ts h.table

                go : (i ≡ ts.count) ⊎ (i < ts.count) → TermThere g sheet (get_or (spans_of ts ++ (s ∷ [])) i no_span)
                go (inl e) = subst (TermThere g sheet) (sym (ap (λ (j : ℕ). get_or (spans_of ts ++ (s ∷ [])) j no_span) (e ∙ sym full) ∙ get_or-append_seam (spans_of ts) s [] no_span)) there
                go (inr k) = let q : i < length (spans_of ts) = omega (arith, full) in subst (TermThere g sheet) (sym (get_or-append (spans_of ts) (s ∷ []) no_span i q)) (there-at i q)
