-- The words that are read as a clause are exactly the words of that clause.
use Prim.Native.Nat.{ℕ, zero, suc, ◌+◌, ◌≤◌}
use mathlib.Core.Path.{◌≡◌, refl, sym, ap, ◌∙◌, subst}
use mathlib.Core.Bool.{true, ◌&&◌}
use mathlib.Core.Option.{Option, none, some, some-injective}
use mathlib.Core.List.{List, [], ◌∷◌, ◌++◌, append_assoc, append-nil}
use native.Mathlib.Nat.{add-zero, zero-add, suc-add}
use native.Mathlib.Omega.{arith}
use lib.Dec.{eqb, ltb}
use lib.ListN.{length, length-append}
use Rattle.theory.specs.Lists.{all}
use Rattle.theory.specs.Syntax.{Kind, function, predicate, is_function, is_predicate, Signature, symbol_at, Term, variable, apply, Terms, empty, cons, Atom, equal, holds, Clause, count, function_of, predicate_of, term_ok, terms_ok, atom_ok, clause_ok}
use Rattle.theory.specs.Grammar.{Word, sign, equals, symbol, letter, term_words, terms_words, atom_words, clause_words, Due, terms, atom, due_after_function, due_after_predicate, due_after, Grammar, clause, misplaced, unfinished, grammar_from, grammar, take_terms, drop_terms, Reading, equality_of, read_symbol, read_word, read_words, clause_if, read_clause}
use Rattle.theory.specs.Claims.Grammar.{is_declared}
use Rattle.theory.specs.Claims.Grammar as claims
use Rattle.theory.proofs.Tests.{eqb-of-≡, and_left, and_right, and-join}
use Rattle.theory.proofs.Declared.{function_of→, predicate_of→}

-- terms one after the other
abbrev pub append_terms : Terms → Terms → Terms
append_terms empty us = us
append_terms (cons t ts) us = cons t (append_terms ts us)

take-append : (ts us : Terms) → take_terms (count ts) (append_terms ts us) ≡ ts
take-append empty us = refl
take-append (cons t ts) us = ap (cons t) (take-append ts us)

drop-append : (ts us : Terms) → drop_terms (count ts) (append_terms ts us) ≡ us
drop-append empty us = refl
drop-append (cons t ts) us = drop-append ts us

count-take : (n : ℕ) (ts : Terms) → n ≤ count ts → count (take_terms n ts) ≡ n
count-take zero ts h = refl
count-take (suc n) empty h = absurd (omega arith)
count-take (suc n) (cons t ts) h = ap suc (count-take n ts (omega arith))

count-drop : (n m : ℕ) (ts : Terms) → count ts ≡ n + m → count (drop_terms n ts) ≡ m
count-drop zero m ts h = h ∙ zero-add m
count-drop (suc n) m empty h = absurd (omega arith)
count-drop (suc n) m (cons t ts) h = count-drop n m ts (omega arith)

words-take-drop : (n : ℕ) (ts : Terms) → terms_words (take_terms n ts) ++ terms_words (drop_terms n ts) ≡ terms_words ts
words-take-drop zero ts = refl
words-take-drop (suc n) empty = refl
words-take-drop (suc n) (cons t ts) =
    append_assoc (term_words t) (terms_words (take_terms n ts)) (terms_words (drop_terms n ts)) ∙ ap (λ (l : List Word). term_words t ++ l) (words-take-drop n ts)

ok-take : (g : Signature) (n : ℕ) (ts : Terms) → terms_ok g ts ≡ true → terms_ok g (take_terms n ts) ≡ true
ok-take g zero ts h = refl
ok-take g (suc n) empty h = refl
ok-take g (suc n) (cons t ts) h =
    and-join (term_ok g t) (terms_ok g (take_terms n ts)) (and_left (term_ok g t) (terms_ok g ts) h) (ok-take g n ts (and_right (term_ok g t) (terms_ok g ts) h))

ok-drop : (g : Signature) (n : ℕ) (ts : Terms) → terms_ok g ts ≡ true → terms_ok g (drop_terms n ts) ≡ true
ok-drop g zero ts h = h
ok-drop g (suc n) empty h = refl
ok-drop g (suc n) (cons t ts) h = ok-drop g n ts (and_right (term_ok g t) (terms_ok g ts) h)

module _ (g : Signature) where
  -- a word that may stand there is passed
  pass : (i : ℕ) (d e : Due) (w : Word) (ws : List Word) → due_after g d w ≡ some e → grammar_from g i d (w ∷ ws) ≡ grammar_from g (suc i) e ws
  pass i d e w ws h = ap (λ (o : Option Due). elim o as (λ _. Grammar) [ some e ↦ grammar_from g (suc i) e ws | none ↦ misplaced i ]) h

  -- the words of a term that is due are passed
  mutual
    pub term-passed : (t : Term) (i n : ℕ) (ws : List Word) → term_ok g t ≡ true
        → grammar_from g i (terms (suc n)) (term_words t ++ ws) ≡ grammar_from g (i + length (term_words t)) (terms n) ws
    term-passed (variable x) i n ws h = let e : suc i ≡ i + 1 = omega arith in ap (λ (j : ℕ). grammar_from g j (terms n) ws) e
    term-passed (apply f ts) i n ws h =
        let k = function_of→ g f (count ts) (and_left (function_of g f (count ts)) (terms_ok g ts) h) in
        let due : due_after g (terms (suc n)) (symbol f) ≡ some (terms (count ts + n)) =
        ap (λ (k : Kind). due_after_function k (symbol_at g f).arity n) k.kind ∙ ap (λ (a : ℕ). some (terms (a + n))) (sym k.arity) in
        let e : suc i + length (terms_words ts) ≡ i + suc (length (terms_words ts)) = omega arith in
        pass i (terms (suc n)) (terms (count ts + n)) (symbol f) (terms_words ts ++ ws) due
        ∙ terms-passed ts (suc i) n ws (and_right (function_of g f (count ts)) (terms_ok g ts) h)
        ∙ ap (λ (j : ℕ). grammar_from g j (terms n) ws) e

    pub terms-passed : (ts : Terms) (i n : ℕ) (ws : List Word) → terms_ok g ts ≡ true
        → grammar_from g i (terms (count ts + n)) (terms_words ts ++ ws) ≡ grammar_from g (i + length (terms_words ts)) (terms n) ws
    terms-passed empty i n ws h = rw (zero-add, add-zero)
    terms-passed (cons t ts) i n ws h =
        let e : i + length (term_words t) + length (terms_words ts) ≡ i + length (term_words t ++ terms_words ts) = omega (arith, length-append (term_words t) (terms_words ts)) in
        ap (λ (m : ℕ). grammar_from g i (terms m) ((term_words t ++ terms_words ts) ++ ws)) (suc-add (count ts) n)
        ∙ ap (grammar_from g i (terms (suc (count ts + n)))) (append_assoc (term_words t) (terms_words ts) ws)
        ∙ term-passed t i (count ts + n) (terms_words ts ++ ws) (and_left (term_ok g t) (terms_ok g ts) h)
        ∙ terms-passed ts (i + length (term_words t)) n ws (and_right (term_ok g t) (terms_ok g ts) h)
        ∙ ap (λ (j : ℕ). grammar_from g j (terms n) ws) e

  pub atom-passed : (a : Atom) (i : ℕ) (ws : List Word) → atom_ok g a ≡ true → grammar_from g i atom (atom_words a ++ ws) ≡ grammar_from g (i + length (atom_words a)) (terms 0) ws
  atom-passed (equal t u) i ws h =
      let e : suc i + length (term_words t) + length (term_words u) ≡ i + suc (length (term_words t ++ term_words u)) = omega (arith, length-append (term_words t) (term_words u)) in
      ap (grammar_from g (suc i) (terms 2)) (append_assoc (term_words t) (term_words u) ws)
      ∙ term-passed t (suc i) 1 (term_words u ++ ws) (and_left (term_ok g t) (term_ok g u) h)
      ∙ term-passed u (suc i + length (term_words t)) 0 ws (and_right (term_ok g t) (term_ok g u) h)
      ∙ ap (λ (j : ℕ). grammar_from g j (terms 0) ws) e
  atom-passed (holds p ts) i ws h =
      let k = predicate_of→ g p (count ts) (and_left (predicate_of g p (count ts)) (terms_ok g ts) h) in
      let due : due_after g atom (symbol p) ≡ some (terms (count ts + 0)) =
      ap (λ (k : Kind). due_after_predicate k (symbol_at g p).arity) k.kind ∙ ap (λ (a : ℕ). some (terms a)) (sym k.arity ∙ sym (add-zero (count ts))) in
      let e : suc i + length (terms_words ts) ≡ i + suc (length (terms_words ts)) = omega arith in
      pass i atom (terms (count ts + 0)) (symbol p) (terms_words ts ++ ws) due
      ∙ terms-passed ts (suc i) 0 ws (and_right (predicate_of g p (count ts)) (terms_ok g ts) h)
      ∙ ap (λ (j : ℕ). grammar_from g j (terms 0) ws) e

  -- the words of a clause are a clause
  pub clause-passed : (c : Clause) (i : ℕ) → clause_ok g c ≡ true → grammar_from g i (terms 0) (clause_words c) ≡ clause
  clause-passed [] i h = refl
  clause-passed (l ∷ c) i h =
      atom-passed l.atom (suc i) (clause_words c) (and_left (atom_ok g l.atom) (clause_ok g c) h)
      ∙ clause-passed c (suc i + length (atom_words l.atom)) (and_right (atom_ok g l.atom) (clause_ok g c) h)

  -- what was read, with terms in front
  abbrev with_terms : Terms → Reading → Reading
  with_terms ts r = record { terms = append_terms ts r.terms; atom = r.atom; clause = r.clause }

  -- the words of a term are read as that term
  mutual
    pub term-read : (t : Term) (ws : List Word) → term_ok g t ≡ true → read_words g (term_words t ++ ws) ≡ with_terms (cons t empty) (read_words g ws)
    term-read (variable x) ws h = refl
    term-read (apply f ts) ws h =
        let k = function_of→ g f (count ts) (and_left (function_of g f (count ts)) (terms_ok g ts) h) in
        let r : Reading = read_words g ws in
        let us : Terms = append_terms ts r.terms in
        ap (read_symbol (symbol_at g f).kind f (symbol_at g f).arity) (terms-read ts ws (and_right (function_of g f (count ts)) (terms_ok g ts) h))
        ∙ ap (λ (k : Kind). read_symbol k f (symbol_at g f).arity (with_terms ts r)) k.kind
        ∙ ap (λ (a : ℕ). read_symbol function f a (with_terms ts r)) (sym k.arity)
        ∙ ap (λ (vs : Terms). record { terms = cons (apply f vs) (drop_terms (count ts) us); atom = r.atom; clause = r.clause }) (take-append ts r.terms)
        ∙ ap (λ (vs : Terms). record { terms = cons (apply f ts) vs; atom = r.atom; clause = r.clause }) (drop-append ts r.terms)

    pub terms-read : (ts : Terms) (ws : List Word) → terms_ok g ts ≡ true → read_words g (terms_words ts ++ ws) ≡ with_terms ts (read_words g ws)
    terms-read empty ws h = refl
    terms-read (cons t ts) ws h =
        ap (read_words g) (append_assoc (term_words t) (terms_words ts) ws)
        ∙ term-read t (terms_words ts ++ ws) (and_left (term_ok g t) (terms_ok g ts) h)
        ∙ ap (with_terms (cons t empty)) (terms-read ts ws (and_right (term_ok g t) (terms_ok g ts) h))

  pub atom-read : (a : Atom) (ws : List Word) → atom_ok g a ≡ true
      → read_words g (atom_words a ++ ws) ≡ record { terms = (read_words g ws).terms; atom = a; clause = (read_words g ws).clause }
  atom-read (equal t u) ws h =
      ap (λ (ws : List Word). read_word g equals (read_words g ws)) (append_assoc (term_words t) (term_words u) ws)
      ∙ ap (read_word g equals) (term-read t (term_words u ++ ws) (and_left (term_ok g t) (term_ok g u) h)
      ∙ ap (with_terms (cons t empty)) (term-read u ws (and_right (term_ok g t) (term_ok g u) h)))
  atom-read (holds p ts) ws h =
      let k = predicate_of→ g p (count ts) (and_left (predicate_of g p (count ts)) (terms_ok g ts) h) in
      let r : Reading = read_words g ws in
      let us : Terms = append_terms ts r.terms in
      ap (read_symbol (symbol_at g p).kind p (symbol_at g p).arity) (terms-read ts ws (and_right (predicate_of g p (count ts)) (terms_ok g ts) h))
      ∙ ap (λ (k : Kind). read_symbol k p (symbol_at g p).arity (with_terms ts r)) k.kind
      ∙ ap (λ (a : ℕ). read_symbol predicate p a (with_terms ts r)) (sym k.arity)
      ∙ ap (λ (vs : Terms). record { terms = drop_terms (count ts) us; atom = holds p vs; clause = r.clause }) (take-append ts r.terms)
      ∙ ap (λ (vs : Terms). record { terms = vs; atom = holds p ts; clause = r.clause }) (drop-append ts r.terms)

  -- the words of a clause are read as that clause
  pub clause-read : (c : Clause) → clause_ok g c ≡ true → (read_words g (clause_words c)).clause ≡ c
  clause-read [] h = refl
  clause-read (l ∷ c) h =
      ap (λ (r : Reading). record { sign = l.sign; atom = r.atom } ∷ r.clause) (atom-read l.atom (clause_words c) (and_left (atom_ok g l.atom) (clause_ok g c) h))
      ∙ ap (λ (c : Clause). l ∷ c) (clause-read c (and_right (atom_ok g l.atom) (clause_ok g c) h))

  -- where n terms are due, just n were read; their words and those of the clause behind are the words
  pub record TermsRead (n : ℕ) (ws : List Word) (r : Reading) : Type 0 where
    pub counted : count r.terms ≡ n
    pub words : terms_words r.terms ++ clause_words r.clause ≡ ws
    pub terms-ok : terms_ok g r.terms ≡ true
    pub clause-ok : clause_ok g r.clause ≡ true

  -- where an atom is due, it was read and no term before it
  pub record AtomRead (ws : List Word) (r : Reading) : Type 0 where
    pub none_left : r.terms ≡ empty
    pub words : atom_words r.atom ++ clause_words r.clause ≡ ws
    pub atom-ok : atom_ok g r.atom ≡ true
    pub clause-ok : clause_ok g r.clause ≡ true

  abbrev pub DueRead : Due → List Word → Reading → Type 0
  DueRead (terms n) ws r = TermsRead n ws r
  DueRead atom ws r = AtomRead ws r

  no-terms : (ts : Terms) → count ts ≡ 0 → ts ≡ empty
  no-terms empty e = refl
  no-terms (cons t ts) e = absurd (omega arith)

  drop_all : (n : ℕ) (ts : Terms) → count ts ≡ n → drop_terms n ts ≡ empty
  drop_all n ts e = no-terms (drop_terms n ts) (count-drop n 0 ts (e ∙ sym (add-zero n)))

  take-all-words : (n : ℕ) (ts : Terms) → count ts ≡ n → terms_words (take_terms n ts) ≡ terms_words ts
  take-all-words n ts e =
      sym (append-nil (terms_words (take_terms n ts))) ∙ ap (λ (us : Terms). terms_words (take_terms n ts) ++ terms_words us) (sym (drop_all n ts e)) ∙ words-take-drop n ts

  function-read : (i n : ℕ) (ws : List Word) (r : Reading) → ltb i (length g) ≡ true → (symbol_at g i).kind ≡ function → TermsRead ((symbol_at g i).arity + n) ws r
      → TermsRead (suc n) (symbol i ∷ ws) (read_symbol function i (symbol_at g i).arity r)
  function-read i n ws r lt k h =
      let a : ℕ = (symbol_at g i).arity in
      let taken : count (take_terms a r.terms) ≡ a = count-take a r.terms (omega (arith, h.counted)) in
      let declared : function_of g i (count (take_terms a r.terms)) ≡ true =
      and-join (ltb i (length g) && is_function (symbol_at g i).kind) (eqb (count (take_terms a r.terms)) a)
      (and-join (ltb i (length g)) (is_function (symbol_at g i).kind) lt (ap is_function k)) (eqb-of-≡ (count (take_terms a r.terms)) a taken) in
      record {
        counted = ap suc (count-drop a n r.terms h.counted);
        words = ap (λ (l : List Word). symbol i ∷ l) (ap (λ (l : List Word). l ++ clause_words r.clause) (words-take-drop a r.terms) ∙ h.words);
        terms-ok =
            and-join (function_of g i (count (take_terms a r.terms)) && terms_ok g (take_terms a r.terms)) (terms_ok g (drop_terms a r.terms))
            (and-join (function_of g i (count (take_terms a r.terms))) (terms_ok g (take_terms a r.terms)) declared (ok-take g a r.terms h.terms-ok))
            (ok-drop g a r.terms h.terms-ok);
        clause-ok = h.clause-ok;
      }

  predicate-read : (i : ℕ) (ws : List Word) (r : Reading) → ltb i (length g) ≡ true → (symbol_at g i).kind ≡ predicate → TermsRead (symbol_at g i).arity ws r
      → AtomRead (symbol i ∷ ws) (read_symbol predicate i (symbol_at g i).arity r)
  predicate-read i ws r lt k h =
      let a : ℕ = (symbol_at g i).arity in
      let taken : count (take_terms a r.terms) ≡ a = count-take a r.terms (omega (arith, h.counted)) in
      let declared : predicate_of g i (count (take_terms a r.terms)) ≡ true =
      and-join (ltb i (length g) && is_predicate (symbol_at g i).kind) (eqb (count (take_terms a r.terms)) a)
      (and-join (ltb i (length g)) (is_predicate (symbol_at g i).kind) lt (ap is_predicate k)) (eqb-of-≡ (count (take_terms a r.terms)) a taken) in
      record {
        none_left = drop_all a r.terms h.counted;
        words = ap (λ (l : List Word). symbol i ∷ l) (ap (λ (l : List Word). l ++ clause_words r.clause) (take-all-words a r.terms h.counted) ∙ h.words);
        atom-ok = and-join (predicate_of g i (count (take_terms a r.terms))) (terms_ok g (take_terms a r.terms)) declared (ok-take g a r.terms h.terms-ok);
        clause-ok = h.clause-ok;
      }

  equality-read : (ws : List Word) (ts : Terms) (a : Atom) (c : Clause) → TermsRead 2 ws (record { terms = ts; atom = a; clause = c })
      → AtomRead (equals ∷ ws) (record { terms = drop_terms 2 ts; atom = equality_of ts; clause = c })
  equality-read ws empty a c h = absurd (omega (arith, h.counted))
  equality-read ws (cons t empty) a c h = absurd (omega (arith, h.counted))
  equality-read ws (cons t (cons u ts)) a c h =
      let e : ts ≡ empty = no-terms ts (omega (arith, h.counted)) in
      record {
        none_left = e;
        words = ap (λ (l : List Word). equals ∷ ((term_words t ++ l) ++ clause_words c)) (sym (append-nil (term_words u)) ∙ ap (λ (vs : Terms). term_words u ++ terms_words vs) (sym e)) ∙ ap (λ (l : List Word). equals ∷ l) h.words;
        atom-ok =
            and-join (term_ok g t) (term_ok g u) (and_left (term_ok g t) (term_ok g u && terms_ok g ts) h.terms-ok)
            (and_left (term_ok g u) (terms_ok g ts) (and_right (term_ok g t) (term_ok g u && terms_ok g ts) h.terms-ok));
        clause-ok = h.clause-ok;
      }

  -- one word more
  word_read : (d e : Due) (w : Word) (ws : List Word) (r : Reading) → is_declared g w ≡ true → due_after g d w ≡ some e → DueRead e ws r → DueRead d (w ∷ ws) (read_word g w r)
  word_read (terms zero) (terms n) (sign b) ws r k q h = let z : ◌≡◌ {A = ℕ} 0 1 = cc in absurd (omega arith)
  word_read (terms zero) atom (sign b) ws r k q h =
      record {
        counted = ap count h.none_left;
        words = ap (λ (ts : Terms). terms_words ts ++ (sign b ∷ (atom_words r.atom ++ clause_words r.clause))) h.none_left ∙ ap (λ (l : List Word). sign b ∷ l) h.words;
        terms-ok = ap (terms_ok g) h.none_left;
        clause-ok = and-join (atom_ok g r.atom) (clause_ok g r.clause) h.atom-ok h.clause-ok;
      }
  word_read (terms zero) e equals ws r k q h = let z : ◌≡◌ {A = ℕ} 0 1 = cc in absurd (omega arith)
  word_read (terms zero) e (symbol i) ws r k q h = let z : ◌≡◌ {A = ℕ} 0 1 = cc in absurd (omega arith)
  word_read (terms zero) e (letter x) ws r k q h = let z : ◌≡◌ {A = ℕ} 0 1 = cc in absurd (omega arith)
  word_read (terms (suc n)) e (sign b) ws r k q h = let z : ◌≡◌ {A = ℕ} 0 1 = cc in absurd (omega arith)
  word_read (terms (suc n)) e equals ws r k q h = let z : ◌≡◌ {A = ℕ} 0 1 = cc in absurd (omega arith)
  word_read (terms (suc n)) e (symbol i) ws r k q h = go (symbol_at g i).kind refl q
    where
      go : (t : Kind) → (symbol_at g i).kind ≡ t → due_after_function t (symbol_at g i).arity n ≡ some e → TermsRead (suc n) (symbol i ∷ ws) (read_symbol t i (symbol_at g i).arity r)
      go function p q = function-read i n ws r k p (subst (λ (d : Due). DueRead d ws r) (sym (some-injective (terms ((symbol_at g i).arity + n)) e q)) h)
      go predicate p q = let z : ◌≡◌ {A = ℕ} 0 1 = cc in absurd (omega arith)
  word_read (terms (suc n)) e (letter x) ws r k q h =
      let b : TermsRead n ws r = subst (λ (d : Due). DueRead d ws r) (sym (some-injective (terms n) e q)) h in
      record {
        counted = ap suc b.counted;
        words = ap (λ (l : List Word). letter x ∷ l) b.words;
        terms-ok = b.terms-ok;
        clause-ok = b.clause-ok;
      }
  word_read atom e (sign b) ws r k q h = let z : ◌≡◌ {A = ℕ} 0 1 = cc in absurd (omega arith)
  word_read atom e equals ws r k q h =
      equality-read ws r.terms r.atom r.clause (subst (λ (d : Due). DueRead d ws r) (sym (some-injective (terms 2) e q)) h)
  word_read atom e (symbol i) ws r k q h = go (symbol_at g i).kind refl q
    where
      go : (t : Kind) → (symbol_at g i).kind ≡ t → due_after_predicate t (symbol_at g i).arity ≡ some e → AtomRead (symbol i ∷ ws) (read_symbol t i (symbol_at g i).arity r)
      go function p q = let z : ◌≡◌ {A = ℕ} 0 1 = cc in absurd (omega arith)
      go predicate p q = predicate-read i ws r k p (subst (λ (d : Due). DueRead d ws r) (sym (some-injective (terms (symbol_at g i).arity) e q)) h)
  word_read atom e (letter x) ws r k q h = let z : ◌≡◌ {A = ℕ} 0 1 = cc in absurd (omega arith)

  -- words that are a clause from here on are those of what was read
  pub words-read : (ws : List Word) (i : ℕ) (d : Due) → all (is_declared g) ws ≡ true → grammar_from g i d ws ≡ clause → DueRead d ws (read_words g ws)
  words-read [] i (terms zero) k h = record { counted = refl; words = refl; terms-ok = refl; clause-ok = refl }
  words-read [] i (terms (suc n)) k h = let z : ◌≡◌ {A = ℕ} 0 1 = cc in absurd (omega arith)
  words-read [] i atom k h = let z : ◌≡◌ {A = ℕ} 0 1 = cc in absurd (omega arith)
  words-read (w ∷ ws) i d k h = go (due_after g d w) refl h (λ e. words-read ws (suc i) e (and_right (is_declared g w) (all (is_declared g) ws) k))
    where
      go : (o : Option Due) → due_after g d w ≡ o → (elim o as (λ _. Grammar) [ some e ↦ grammar_from g (suc i) e ws | none ↦ misplaced i ]) ≡ clause
          → ((e : Due) → grammar_from g (suc i) e ws ≡ clause → DueRead e ws (read_words g ws)) → DueRead d (w ∷ ws) (read_word g w (read_words g ws))
      go none q z ih = let z : ◌≡◌ {A = ℕ} 0 1 = cc in absurd (omega arith)
      go (some e) q z ih = word_read d e w ws (read_words g ws) (and_left (is_declared g w) (all (is_declared g) ws) k) q (ih e z)

  clause-of : (t : Grammar) (a c : Clause) → clause_if t a ≡ some c → (t ≡ clause) × (a ≡ c)
  clause-of clause a c e = (refl, some-injective a c e)
  clause-of (misplaced i) a c e = let z : ◌≡◌ {A = ℕ} 0 1 = cc in absurd (omega arith)
  clause-of unfinished a c e = let z : ◌≡◌ {A = ℕ} 0 1 = cc in absurd (omega arith)

  -- what is read is a clause over the signature, and the words are its words
  pub read_clause-sound : (ws : List Word) (c : Clause) → all (is_declared g) ws ≡ true → read_clause g ws ≡ some c → (clause_ok g c ≡ true) × (clause_words c ≡ ws)
  unfolding read_clause grammar
  read_clause-sound ws c k e =
      let p = clause-of (grammar g ws) (read_words g ws).clause c e in
      let h : TermsRead 0 ws (read_words g ws) = words-read ws 0 (terms 0) k p.0 in
      let z : (read_words g ws).terms ≡ empty = no-terms (read_words g ws).terms h.counted in (
        ap (clause_ok g) (sym p.1) ∙ h.clause-ok,
        ap clause_words (sym p.1) ∙ ap (λ (ts : Terms). terms_words ts ++ clause_words (read_words g ws).clause) (sym z) ∙ h.words,
      )

  -- every clause over the signature is read from its words
  pub read_clause-complete : (c : Clause) → clause_ok g c ≡ true → read_clause g (clause_words c) ≡ some c
  unfolding read_clause grammar
  read_clause-complete c h = ap (λ (t : Grammar). clause_if t (read_words g (clause_words c)).clause) (clause-passed c 0 h) ∙ ap some (clause-read c h)

pub grammar-exact : claims.GrammarExact
grammar-exact =
    record {
      exact = λ g ws c k. (read_clause-sound g ws c k, λ p. ap (read_clause g) (sym p.1) ∙ read_clause-complete g c p.0);
    }
