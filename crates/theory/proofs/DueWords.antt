-- Along the words of a clause: what is due at each place, and that the words from there on have it.
use Prim.Native.Nat.{ℕ, zero, suc, ◌+◌, ◌≤◌}
use mathlib.Core.Path.{◌≡◌, refl, sym, ap, ◌∙◌, subst}
use mathlib.Core.Bool.{true}
use mathlib.Core.Option.{Option, none, some, some-injective}
use mathlib.Core.List.{List, [], ◌∷◌}
use native.Mathlib.Nat.{add-zero, zero-add}
use native.Mathlib.Omega.{arith}
use lib.ListN.{length, drop}
use Rattle.theory.specs.Lists.{all}
use Rattle.theory.specs.Syntax.{Kind, function, predicate, Signature, symbol_at, Terms, empty, cons, count}
use Rattle.theory.specs.Grammar.{Word, sign, equals, symbol, letter, Due, terms, atom, due_after_function, due_after_predicate, due_after, Grammar, clause, misplaced, grammar_from, grammar, drop_terms, read_symbol, read_words}
use Rattle.theory.specs.Claims.Grammar.{is_declared}
use Rattle.theory.proofs.Lists.{all_drop}
use Rattle.theory.proofs.Grammar.{DueRead, words-read}

-- the number of terms behind a word that it takes
abbrev pub taken : Signature → Word → ℕ
taken g (sign b) = 0
taken g equals = 2
taken g (symbol i) = (symbol_at g i).arity
taken g (letter x) = 0

count-drop_terms : (n : ℕ) (ts : Terms) → count (drop_terms n ts) ≤ count ts
count-drop_terms zero ts = omega arith
count-drop_terms (suc n) empty = omega arith
count-drop_terms (suc n) (cons t ts) = omega (arith, count-drop_terms n ts)

module _ (g : Signature) where
  -- no more terms were read than there are words
  pub terms-words : (ws : List Word) → count (read_words g ws).terms ≤ length ws
  terms-words [] = omega arith
  terms-words (sign b ∷ ws) = omega (arith, terms-words ws)
  terms-words (equals ∷ ws) = omega (arith, terms-words ws, count-drop_terms 2 (read_words g ws).terms)
  terms-words (symbol i ∷ ws) = go (symbol_at g i).kind (terms-words ws)
    where
      go : (k : Kind) → count (read_words g ws).terms ≤ length ws → count (read_symbol k i (symbol_at g i).arity (read_words g ws)).terms ≤ suc (length ws)
      go function h = omega (arith, count-drop_terms (symbol_at g i).arity (read_words g ws).terms)
      go predicate h = omega (arith, count-drop_terms (symbol_at g i).arity (read_words g ws).terms)
  terms-words (letter x ∷ ws) = omega (arith, terms-words ws)

  -- what is due after the first word
  pub word-passed : (w : Word) (ws : List Word) (i : ℕ) (d : Due) → grammar_from g i d (w ∷ ws) ≡ clause
      → (e : Due) × (due_after g d w ≡ some e) × (grammar_from g (suc i) e ws ≡ clause)
  word-passed w ws i d h = go (due_after g d w) refl h
    where
      go : (o : Option Due) → due_after g d w ≡ o → (elim o as (λ _. Grammar) [ some e ↦ grammar_from g (suc i) e ws | none ↦ misplaced i ]) ≡ clause
          → (e : Due) × (due_after g d w ≡ some e) × (grammar_from g (suc i) e ws ≡ clause)
      go none q z = let z : ◌≡◌ {A = ℕ} 0 1 = cc in absurd (omega arith)
      go (some e) q z = (e, q, z)

  -- what is due after a word includes what it takes
  pub taken-due : (d e : Due) (w : Word) (ws : List Word) → due_after g d w ≡ some e → DueRead g e ws (read_words g ws) → taken g w ≤ count (read_words g ws).terms
  taken-due (terms zero) e (sign b) ws q r = omega arith
  taken-due (terms zero) e equals ws q r = let z : ◌≡◌ {A = ℕ} 0 1 = cc in absurd (omega arith)
  taken-due (terms zero) e (symbol i) ws q r = let z : ◌≡◌ {A = ℕ} 0 1 = cc in absurd (omega arith)
  taken-due (terms zero) e (letter x) ws q r = omega arith
  taken-due (terms (suc n)) e (sign b) ws q r = omega arith
  taken-due (terms (suc n)) e equals ws q r = let z : ◌≡◌ {A = ℕ} 0 1 = cc in absurd (omega arith)
  taken-due (terms (suc n)) e (symbol i) ws q r = go (symbol_at g i).kind q
    where
      go : (k : Kind) → due_after_function k (symbol_at g i).arity n ≡ some e → (symbol_at g i).arity ≤ count (read_words g ws).terms
      go function q =
          let b : DueRead g (terms ((symbol_at g i).arity + n)) ws (read_words g ws) =
          subst (λ (d : Due). DueRead g d ws (read_words g ws)) (sym (some-injective (terms ((symbol_at g i).arity + n)) e q)) r in
          omega (arith, b.counted)
      go predicate q = let z : ◌≡◌ {A = ℕ} 0 1 = cc in absurd (omega arith)
  taken-due (terms (suc n)) e (letter x) ws q r = omega arith
  taken-due atom e (sign b) ws q r = omega arith
  taken-due atom e equals ws q r =
      let b : DueRead g (terms 2) ws (read_words g ws) = subst (λ (d : Due). DueRead g d ws (read_words g ws)) (sym (some-injective (terms 2) e q)) r in
      omega (arith, b.counted)
  taken-due atom e (symbol i) ws q r = go (symbol_at g i).kind q
    where
      go : (k : Kind) → due_after_predicate k (symbol_at g i).arity ≡ some e → (symbol_at g i).arity ≤ count (read_words g ws).terms
      go function q = let z : ◌≡◌ {A = ℕ} 0 1 = cc in absurd (omega arith)
      go predicate q =
          let b : DueRead g (terms (symbol_at g i).arity) ws (read_words g ws) =
          subst (λ (d : Due). DueRead g d ws (read_words g ws)) (sym (some-injective (terms (symbol_at g i).arity) e q)) r in
          omega (arith, b.counted)
  taken-due atom e (letter x) ws q r = omega arith

  -- what is due at place i, that the words from there on are good for it, and that they are read so
  pub record DueAt (ws : List Word) (i : ℕ) : Type 0 where
    pub due : Due
    pub rest : grammar_from g i due (drop i ws) ≡ clause
    pub read : DueRead g due (drop i ws) (read_words g (drop i ws))

  due-from : (ws : List Word) (j : ℕ) (d : Due) → grammar_from g j d ws ≡ clause → (i : ℕ) → i ≤ length ws → (e : Due) × (grammar_from g (j + i) e (drop i ws) ≡ clause)
  due-from ws j d h zero l = (d, ap (λ (k : ℕ). grammar_from g k d ws) (add-zero j) ∙ h)
  due-from [] j d h (suc i) l = absurd (omega arith)
  due-from (w ∷ ws) j d h (suc i) l =
      let p = word-passed w ws j d h in
      let r = due-from ws (suc j) p.0 p.2 i (omega arith) in
      let e : j + suc i ≡ suc j + i = omega arith in
      (r.0, ap (λ (k : ℕ). grammar_from g k r.0 (drop i ws)) e ∙ r.1)

  module _ (ws : List Word) (declared : all (is_declared g) ws ≡ true) (good : grammar g ws ≡ clause) where
    pub due-at : (i : ℕ) → i ≤ length ws → DueAt ws i
    unfolding grammar
    due-at i l =
        let r = due-from ws 0 (terms 0) good i l in
        let h : grammar_from g i r.0 (drop i ws) ≡ clause = ap (λ (k : ℕ). grammar_from g k r.0 (drop i ws)) (sym (zero-add i)) ∙ r.1 in
        record { due = r.0; rest = h; read = words-read g (drop i ws) i r.0 (all_drop (is_declared g) i ws declared) h }
