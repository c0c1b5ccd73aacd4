-- Words that are no clause: up to the first that cannot stand there nothing after them helps, before it something does.
use Prim.Native.Nat.{ℕ, zero, suc, ◌+◌, ◌<◌}
use mathlib.Core.Path.{◌≡◌, refl, sym, ap, ◌∙◌, subst}
use mathlib.Core.Bool.{true, false, not}
use mathlib.Core.Option.{Option, none, some, some-injective}
use mathlib.Core.List.{List, [], ◌∷◌, ◌++◌}
use native.Mathlib.Omega.{arith}
use lib.ListN.{length, take, replicate}
use Rattle.theory.specs.Lists.{prefix}
use Rattle.theory.specs.Syntax.{Signature, Clause}
use Rattle.theory.specs.Grammar.{Word, equals, letter, Due, terms, atom, due_after, Grammar, clause, misplaced, unfinished, grammar_from, grammar, read_words, clause_if, read_clause}
use Rattle.theory.specs.Problem.{word_of, read_all}
use Rattle.theory.specs.LineForms.{LineForm, is_some}
use Rattle.theory.specs.Columns.{line_words, word_column, word_or, or_no_words, misplaced_at, first_misplaced}
use Rattle.theory.specs.Claims.Columns.{known_clause, six_on, WordBeyondHelp}

-- words that are known, one list after the other
abbrev both_known : Option (List Word) → Option (List Word) → Option (List Word)
both_known none o = none
both_known (some us) none = none
both_known (some us) (some vs) = some (us ++ vs)

-- one word more in front
abbrev pub word_onto : Option Word → Option (List Word) → Option (List Word)
word_onto none m = none
word_onto (some x) m = prefix x m

module _ (g : Signature) where
  pub read_all-cons : (w : List ℕ) (ws : List (List ℕ)) → read_all g (w ∷ ws) ≡ word_onto (word_of g w) (read_all g ws)
  read_all-cons w ws = go (word_of g w)
    where
      go : (o : Option Word) → (elim o as (λ _. Option (List Word)) [ some x ↦ prefix x (read_all g ws) | none ↦ none ]) ≡ word_onto o (read_all g ws)
      go none = refl
      go (some x) = refl

  read_all-append : (xs ys : List (List ℕ)) → read_all g (xs ++ ys) ≡ both_known (read_all g xs) (read_all g ys)
  read_all-append [] ys = go (read_all g ys)
    where
      go : (o : Option (List Word)) → o ≡ both_known (some []) o
      go none = refl
      go (some vs) = refl
  read_all-append (x ∷ xs) ys = read_all-cons x (xs ++ ys) ∙ ap (word_onto (word_of g x)) (read_all-append xs ys) ∙ go (word_of g x) (read_all g xs) (read_all g ys) ∙ ap (λ (m : Option (List Word)). both_known m (read_all g ys)) (sym (read_all-cons x xs))
    where
      go : (o : Option Word) (a b : Option (List Word)) → word_onto o (both_known a b) ≡ both_known (word_onto o a) b
      go none a b = refl
      go (some w) none b = refl
      go (some w) (some us) none = refl
      go (some w) (some us) (some vs) = refl

  -- the first words of known ones
  read_all-take : (i : ℕ) (ws : List (List ℕ)) (us : List Word) → read_all g ws ≡ some us → read_all g (take i ws) ≡ some (take i us)
  read_all-take zero ws us e = refl
  read_all-take (suc i) [] us e = ap (λ (us : List Word). some (take (suc i) us)) (some-injective [] us e)
  read_all-take (suc i) (w ∷ ws) us e = read_all-cons w (take i ws) ∙ go (word_of g w) (read_all g ws) refl (sym (read_all-cons w ws) ∙ e) (λ vs h. read_all-take i ws vs h)
    where
      go : (o : Option Word) (m : Option (List Word)) → read_all g ws ≡ m → word_onto o m ≡ some us → ((vs : List Word) → read_all g ws ≡ some vs → read_all g (take i ws) ≡ some (take i vs))
          → word_onto o (read_all g (take i ws)) ≡ some (take (suc i) us)
      go none m h z ih = let z : ◌≡◌ {A = ℕ} 0 1 = cc in absurd (omega arith)
      go (some x) none h z ih = let z : ◌≡◌ {A = ℕ} 0 1 = cc in absurd (omega arith)
      go (some x) (some vs) h z ih = ap (prefix x) (ih vs h) ∙ ap (λ (us : List Word). some (take (suc i) us)) (some-injective (x ∷ vs) us z)

  pub read_all-length : (ws : List (List ℕ)) (us : List Word) → read_all g ws ≡ some us → length us ≡ length ws
  read_all-length [] us e = ap length (sym (some-injective [] us e))
  read_all-length (w ∷ ws) us e = go (word_of g w) (read_all g ws) refl (sym (read_all-cons w ws) ∙ e) (λ vs h. read_all-length ws vs h)
    where
      go : (o : Option Word) (m : Option (List Word)) → read_all g ws ≡ m → word_onto o m ≡ some us → ((vs : List Word) → read_all g ws ≡ some vs → length vs ≡ length ws) → length us ≡ suc (length ws)
      go none m h z ih = let z : ◌≡◌ {A = ℕ} 0 1 = cc in absurd (omega arith)
      go (some x) none h z ih = let z : ◌≡◌ {A = ℕ} 0 1 = cc in absurd (omega arith)
      go (some x) (some vs) h z ih = ap length (sym (some-injective (x ∷ vs) us z)) ∙ ap suc (ih vs h)

  -- what completes a clause: letters, after = where an atom is due
  abbrev ending_bytes : Due → List (List ℕ)
  ending_bytes (terms n) = replicate n (65 ∷ [])
  ending_bytes atom = (61 ∷ []) ∷ (65 ∷ []) ∷ (65 ∷ []) ∷ []

  abbrev ending_words : Due → List Word
  ending_words (terms n) = replicate n (letter 0)
  ending_words atom = equals ∷ letter 0 ∷ letter 0 ∷ []

  letters-known : (n : ℕ) → read_all g (replicate n (65 ∷ [])) ≡ some (replicate n (letter 0))
  unfolding word_of
  letters-known zero = refl
  letters-known (suc n) = ap (prefix (letter 0)) (letters-known n)

  completion-known : (d : Due) → read_all g (ending_bytes d) ≡ some (ending_words d)
  unfolding word_of
  completion-known (terms n) = letters-known n
  completion-known atom = refl

  letters-complete : (n i : ℕ) → grammar_from g i (terms n) (replicate n (letter 0)) ≡ clause
  letters-complete zero i = refl
  letters-complete (suc n) i = letters-complete n (suc i)

  completes : (d : Due) (i : ℕ) → grammar_from g i d (ending_words d) ≡ clause
  completes (terms n) i = letters-complete n i
  completes atom i = refl

  -- the words up to place i, from place j on where d is due: what is due after them
  abbrev Leads : ℕ → Due → List Word → ℕ → Type 0
  Leads j d us i = (e : Due) × ((more : List Word) → grammar_from g j d (take i us ++ more) ≡ grammar_from g (j + i) e more)

  -- the word at place i cannot stand there
  pub record Wrong (j : ℕ) (d : Due) (us : List Word) (m : ℕ) : Type 0 where
    pub at : ℕ
    pub place : m ≡ j + at
    pub among : at < length us
    pub leads : Leads j d us at
    pub stuck : (more : List Word) → grammar_from g j d (take (suc at) us ++ more) ≡ misplaced m

  -- a word behind which one can go on
  lead : (j : ℕ) (d e : Due) (w : Word) (us : List Word) (i : ℕ) → due_after g d w ≡ some e → Leads (suc j) e us i → Leads j d (w ∷ us) (suc i)
  lead j d e w us i h r =
      let q : suc j + i ≡ j + suc i = omega arith in
      (r.0, λ more. step h (take i us ++ more) ∙ r.1 more ∙ ap (λ (k : ℕ). grammar_from g k r.0 more) q)
    where
      step : due_after g d w ≡ some e → (vs : List Word) → grammar_from g j d (w ∷ vs) ≡ grammar_from g (suc j) e vs
      step h vs = ap (λ (o : Option Due). elim o as (λ _. Grammar) [ some e ↦ grammar_from g (suc j) e vs | none ↦ misplaced j ]) h

  wrong-at : (us : List Word) (j : ℕ) (d : Due) (m : ℕ) → grammar_from g j d us ≡ misplaced m → Wrong j d us m
  wrong-at [] j (terms zero) m e = let z : ◌≡◌ {A = ℕ} 0 1 = cc in absurd (omega arith)
  wrong-at [] j (terms (suc n)) m e = let z : ◌≡◌ {A = ℕ} 0 1 = cc in absurd (omega arith)
  wrong-at [] j atom m e = let z : ◌≡◌ {A = ℕ} 0 1 = cc in absurd (omega arith)
  wrong-at (w ∷ us) j d m e = go (due_after g d w) refl e (λ x h. wrong-at us (suc j) x m h)
    where
      after : Option Due → List Word → Grammar
      after o vs = elim o as (λ _. Grammar) [ some e ↦ grammar_from g (suc j) e vs | none ↦ misplaced j ]

      go : (o : Option Due) → due_after g d w ≡ o → after o us ≡ misplaced m → ((x : Due) → grammar_from g (suc j) x us ≡ misplaced m → Wrong (suc j) x us m) → Wrong j d (w ∷ us) m
      go none h z ih =
          let q : j ≡ m = cc in
          record {
            at = 0;
            place = omega (arith, q);
            among = omega arith;
            leads = (d, λ more. let r : j ≡ j + 0 = omega arith in ap (λ (k : ℕ). grammar_from g k d more) r);
            stuck = λ more. ap (λ (o : Option Due). after o more) h ∙ ap misplaced q;
          }
      go (some x) h z ih =
          let r = ih x z in
          record {
            at = suc r.at;
            place = omega (arith, r.place);
            among = omega (arith, r.among);
            leads = lead j d x w us r.at h r.leads;
            stuck = λ more. ap (λ (o : Option Due). after o (take (suc r.at) us ++ more)) h ∙ r.stuck more;
          }

  unfinished-leads : (us : List Word) (j : ℕ) (d : Due) → grammar_from g j d us ≡ unfinished → Leads j d us (length us)
  unfinished-leads [] j d e = (d, λ more. let r : j ≡ j + 0 = omega arith in ap (λ (k : ℕ). grammar_from g k d more) r)
  unfinished-leads (w ∷ us) j d e = go (due_after g d w) refl e (λ x h. unfinished-leads us (suc j) x h)
    where
      go : (o : Option Due) → due_after g d w ≡ o → (elim o as (λ _. Grammar) [ some e ↦ grammar_from g (suc j) e us | none ↦ misplaced j ]) ≡ unfinished
          → ((x : Due) → grammar_from g (suc j) x us ≡ unfinished → Leads (suc j) x us (length us)) → Leads j d (w ∷ us) (suc (length us))
      go none h z ih = let z : ◌≡◌ {A = ℕ} 0 1 = cc in absurd (omega arith)
      go (some x) h z ih = lead j d x w us (length us) h (ih x z)

  -- known words that are no clause
  module _ (ws : List (List ℕ)) (us : List Word) (known : read_all g ws ≡ some us) where
    six-of : (m : Option (List Word)) (ws : List (List ℕ)) → read_all g ws ≡ m → six_on g ws ≡ not (is_some (known_clause g m))
    six-of m ws e = ap (λ (m : Option (List Word)). not (is_some (known_clause g m))) e

    six-none : (vs : List Word) (k : Grammar) → grammar g vs ≡ k → is_some (clause_if k (read_words g vs).clause) ≡ is_some (read_clause g vs)
    unfolding read_clause
    six-none vs k e = ap (λ (k : Grammar). is_some (clause_if k (read_words g vs).clause)) (sym e)

    -- what leads on can be completed
    leads-clear : (i : ℕ) → Leads 0 (terms 0) us i → (rest : List (List ℕ)) × (six_on g (take i ws ++ rest) ≡ false)
    unfolding grammar
    leads-clear i r =
        let e : Due = r.0 in
        let vs : List Word = take i us ++ ending_words e in
        let read : read_all g (take i ws ++ ending_bytes e) ≡ some vs =
        read_all-append (take i ws) (ending_bytes e) ∙ ap (λ (m : Option (List Word)). both_known m (read_all g (ending_bytes e))) (read_all-take i ws us known) ∙ ap (both_known (some (take i us))) (completion-known e) in
        let good : grammar g vs ≡ clause = r.1 (ending_words e) ∙ completes e (0 + i) in
        (ending_bytes e, six-of (some vs) (take i ws ++ ending_bytes e) read ∙ ap not (sym (six-none vs clause good)))

    stuck-stays : (i m : ℕ) → ((more : List Word) → grammar_from g 0 (terms 0) (take (suc i) us ++ more) ≡ misplaced m) → (rest : List (List ℕ)) → six_on g (take (suc i) ws ++ rest) ≡ true
    unfolding grammar
    stuck-stays i m h rest = go (read_all g rest) refl
      where
        go : (o : Option (List Word)) → read_all g rest ≡ o → six_on g (take (suc i) ws ++ rest) ≡ true
        go o e =
            let read : read_all g (take (suc i) ws ++ rest) ≡ both_known (some (take (suc i) us)) o =
            read_all-append (take (suc i) ws) rest ∙ ap (λ (m : Option (List Word)). both_known m (read_all g rest)) (read_all-take (suc i) ws us known) ∙ ap (both_known (some (take (suc i) us))) e in
            six-of (both_known (some (take (suc i) us)) o) (take (suc i) ws ++ rest) read ∙ by o
          where
            by : (o : Option (List Word)) → not (is_some (known_clause g (both_known (some (take (suc i) us)) o))) ≡ true
            by none = refl
            by (some vs) = ap not (sym (six-none (take (suc i) us ++ vs) (misplaced m) (h vs)))

-- the column of a clause line whose words are no clause
pub beyond-words : (g : Signature) (d : LineForm) (l : List ℕ) (us : List Word) → read_all g (line_words d l) ≡ some us → read_clause g us ≡ none
    → WordBeyondHelp g d l (word_or d l (suc (length l)) (first_misplaced g (line_words d l)))
unfolding read_clause first_misplaced grammar
beyond-words g d l us known none' = go (grammar g us) refl
  where
    ws : List (List ℕ)
    ws = line_words d l

    n : length us ≡ length ws
    n = read_all-length g ws us known

    holds : six_on g ws ≡ true
    holds = six-of g ws us known (some us) ws known ∙ ap (λ (c : Option Clause). not (is_some c)) none'

    at : (k : Grammar) → grammar g us ≡ k → misplaced_at (grammar g (or_no_words (read_all g ws))) ≡ misplaced_at k
    at k e = ap (λ (m : Option (List Word)). misplaced_at (grammar g (or_no_words m))) known ∙ ap misplaced_at e

    go : (k : Grammar) → grammar g us ≡ k → WordBeyondHelp g d l (word_or d l (suc (length l)) (misplaced_at (grammar g (or_no_words (read_all g ws)))))
    go clause e =
        let z : some (read_words g us).clause ≡ none = ap (λ (k : Grammar). clause_if k (read_words g us).clause) (sym e) ∙ none' in
        let q : ◌≡◌ {A = ℕ} 0 1 = cc in absurd (omega arith)
    go (misplaced m) e =
        let w = wrong-at g us 0 (terms 0) m e in
        let p : m ≡ w.at = omega (arith, w.place) in
        let column : word_or d l (suc (length l)) (misplaced_at (grammar g (or_no_words (read_all g ws)))) ≡ word_column d l w.at =
        ap (word_or d l (suc (length l))) (at (misplaced m) e) ∙ ap (word_column d l) p in
        record {
          place = w.at;
          among = omega (arith, n, w.among);
          holds = holds;
          at_word = λ _. column;
          at_end = λ q. absurd (omega (arith, n, w.among, q));
          stays = λ rest _. stuck-stays g ws us known w.at m w.stuck rest;
          clears = leads-clear g ws us known w.at w.leads;
        }
    go unfinished e =
        let r = unfinished-leads g us 0 (terms 0) e in
        record {
          place = length ws;
          among = omega arith;
          holds = holds;
          at_word = λ q. absurd (omega arith);
          at_end = λ _. ap (word_or d l (suc (length l))) (at unfinished e);
          stays = λ rest q. absurd (omega arith);
          clears = leads-clear g ws us known (length ws) (subst (Leads g 0 (terms 0) us) n r);
        }
