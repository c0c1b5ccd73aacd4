-- The words of a literal's terms are variables and functions; behind them stands a sign, or the clause ends.
use Prim.Native.Nat.{ℕ, suc, ◌+◌, ◌-◌, ◌≤◌, ◌<◌}
use mathlib.Core.Path.{◌≡◌, refl, sym, ap, ◌∙◌}
use mathlib.Core.Logic.{◌⊎◌, inl, inr, ⊎_elim}
use mathlib.Core.Bool.{Bool, true, false, false≢true}
use mathlib.Core.List.{List, [], ◌∷◌, map}
use native.Mathlib.Omega.{arith}
use lib.ListN.{length, get_or, take, drop, length-map, length-drop, length-append}
use lib.Seq.{drop-cons, drop-drop, drop-append_seam, take-append_seam, get_or-take, get_or-drop}
use Rattle.theory.specs.Lists.{all}
use Rattle.theory.specs.Syntax.{function, is_function, Signature, symbol_at, Term, variable, apply, Terms, empty, cons, Clause, count, function_of, term_ok, terms_ok, atom_ok, clause_ok}
use Rattle.theory.specs.Grammar.{Word, sign, equals, symbol, letter, term_words, terms_words, clause_words, Reading, read_words}
use Rattle.theory.specs.Claims.Grammar.{is_declared}
use Rattle.theory.proofs.Tests.{ltb-true, and_left, and_right, and-join, lt-or-eq-or-gt}
use Rattle.theory.proofs.Lists.{all_append, all-at, all_drop, map_at}
use Rattle.theory.proofs.Declared.{function-kind, function_of→}
use Rattle.theory.proofs.Grammar.{append_terms, terms-read, atom-read, words-read}
use Rattle.theory.proofs.DueWords.{DueAt, due-at, taken, taken-due, word-passed}
use Rattle.syntax.specs.Codes.{max_places, plus_code, letter_code, code_of, code_word, is_known}
use Rattle.syntax.proofs.Codes.{code_of-word_of, known-declared}
use Rattle.truth.specs.Steps.{TermsStand, terms_end}

-- a word of a term: a variable's letter, or a function
abbrev is_term_word : Signature → Word → Bool
is_term_word g (sign b) = false
is_term_word g equals = false
is_term_word g (symbol f) = is_function (symbol_at g f).kind
is_term_word g (letter x) = true

mutual
  term_words-is : (g : Signature) (t : Term) → term_ok g t ≡ true → all (is_term_word g) (term_words t) ≡ true
  term_words-is g (variable x) h = refl
  term_words-is g (apply f ts) h =
      let d = function_of→ g f (count ts) (and_left (function_of g f (count ts)) (terms_ok g ts) h) in
      and-join (is_function (symbol_at g f).kind) (all (is_term_word g) (terms_words ts)) (ap is_function d.kind)
      (terms-words g ts (and_right (function_of g f (count ts)) (terms_ok g ts) h))

  terms-words : (g : Signature) (ts : Terms) → terms_ok g ts ≡ true → all (is_term_word g) (terms_words ts) ≡ true
  terms-words g empty h = refl
  terms-words g (cons t ts) h =
      all_append (is_term_word g) (term_words t) (terms_words ts)
      ∙ and-join (all (is_term_word g) (term_words t)) (all (is_term_word g) (terms_words ts)) (term_words-is g t (and_left (term_ok g t) (terms_ok g ts) h))
      (terms-words g ts (and_right (term_ok g t) (terms_ok g ts) h))

pub le_split : (j e : ℕ) → j ≤ e → (j < e) ⊎ (j ≡ e)
le_split j e h = ⊎_elim inl (λ r. inr (⊎_elim (λ q. q) (λ q. absurd (omega arith)) r)) (lt-or-eq-or-gt j e)

append-empty : (ts : Terms) → append_terms ts empty ≡ ts
append-empty empty = refl
append-empty (cons t ts) = ap (cons t) (append-empty ts)

-- a clause's words are read with no term left
clause-terms : (g : Signature) (c : Clause) → clause_ok g c ≡ true → (read_words g (clause_words c)).terms ≡ empty
clause-terms g [] h = refl
clause-terms g (l ∷ c) h =
    ap (λ (r : Reading). r.terms) (atom-read g l.atom (clause_words c) (and_left (atom_ok g l.atom) (clause_ok g c) h))
    ∙ clause-terms g c (and_right (atom_ok g l.atom) (clause_ok g c) h)

module _ {g : Signature} {words : List ℕ} {i : ℕ} (t : TermsStand g words i) where
  abbrev ws : List Word
  ws = map code_word words

  pub end-within : terms_end t ≤ length words
  end-within = omega (arith, t.within, length-map words code_word, length-drop i ws, ap length t.stand, length-append (terms_words t.terms) (clause_words t.behind))

  -- the literals behind
  pub behind-stand : drop (terms_end t) ws ≡ clause_words t.behind
  behind-stand = sym (drop-drop (length (terms_words t.terms)) i ws) ∙ ap (drop (length (terms_words t.terms))) t.stand ∙ drop-append_seam (terms_words t.terms) (clause_words t.behind)

  -- no term is read from the words behind, and just the terms from all of them
  pub none_read : (read_words g (drop (terms_end t) ws)).terms ≡ empty
  none_read = ap (λ (ws : List Word). (read_words g ws).terms) behind-stand ∙ clause-terms g t.behind t.behind-ok

  pub all_read : (read_words g (drop i ws)).terms ≡ t.terms
  all_read =
      ap (λ (ws : List Word). (read_words g ws).terms) t.stand
      ∙ ap (λ (r : Reading). r.terms) (terms-read g t.terms (clause_words t.behind) t.ok)
      ∙ ap (append_terms t.terms) (clause-terms g t.behind t.behind-ok)
      ∙ append-empty t.terms

  module _ (j : ℕ) (below : j < length words) where
    word_at : get_or ws j equals ≡ code_word (get_or words j 0)
    word_at = map_at code_word words j 0 equals below

    pub words-from : drop j ws ≡ code_word (get_or words j 0) ∷ drop (suc j) ws
    words-from = drop-cons ws j equals (omega (arith, length-map words code_word)) ∙ ap (λ (w : Word). w ∷ drop (suc j) ws) word_at

    pub known_at : is_known g (code_word (get_or words j 0)) ≡ true
    known_at = ap (is_known g) (sym word_at) ∙ all-at (is_known g) equals ws j t.known (omega (arith, length-map words code_word))

    -- what a word takes has been read behind it
    pub enough : taken g (code_word (get_or words j 0)) ≤ count (read_words g (drop (suc j) ws)).terms
    enough =
        let w : Word = code_word (get_or words j 0) in
        let d : DueAt g ws j = due-at g ws (known-declared g ws t.known) t.good j (omega (arith, length-map words code_word)) in
        let p = word-passed g w (drop (suc j) ws) j d.due (rw words-from at d.rest) in
        taken-due g d.due p.0 w (drop (suc j) ws) p.1
        (words-read g (drop (suc j) ws) (suc j) p.0 (all_drop (is_declared g) (suc j) ws (known-declared g ws t.known)) p.2)

  -- a word of the terms
  module _ (j : ℕ) (from : i ≤ j) (below : j < terms_end t) where
    is-term-word : is_term_word g (code_word (get_or words j 0)) ≡ true
    is-term-word =
        let n : ℕ = length (terms_words t.terms) in
        let k : j - i < n = omega (arith, below) in
        let e : i + (j - i) ≡ j = omega arith in
        let a : take n (drop i ws) ≡ terms_words t.terms = ap (take n) t.stand ∙ take-append_seam (terms_words t.terms) (clause_words t.behind) in
        let b : get_or (terms_words t.terms) (j - i) equals ≡ get_or ws j equals =
        ap (λ (l : List Word). get_or l (j - i) equals) (sym a) ∙ get_or-take n (drop i ws) (j - i) equals k ∙ get_or-drop i ws (j - i) equals ∙ ap (λ (k : ℕ). get_or ws k equals) e in
        ap (is_term_word g) (sym (word_at j (omega (arith, end-within))) ∙ sym b) ∙ all-at (is_term_word g) equals (terms_words t.terms) (j - i) (terms-words g t.terms t.ok) k

    -- it is a variable, or a declared function
    pub record IsFunction : Type 0 where
      pub symbol : code_word (get_or words j 0) ≡ symbol (get_or words j 0)
      pub declared : get_or words j 0 < length g
      pub kind : (symbol_at g (get_or words j 0)).kind ≡ function

    split : (letter_code ≤ get_or words j 0) ⊎ IsFunction
    split = go (code_word (get_or words j 0)) refl (code_of-word_of (get_or words j 0)) (known_at j (omega (arith, end-within))) is-term-word
      where
        go : (w : Word) → code_word (get_or words j 0) ≡ w → code_of w ≡ get_or words j 0 → is_known g w ≡ true → is_term_word g w ≡ true → (letter_code ≤ get_or words j 0) ⊎ IsFunction
        go (sign b) e k d h = absurd (false≢true h)
        go equals e k d h = absurd (false≢true h)
        go (symbol f) e k d h =
            inr (record {
              symbol = e ∙ ap symbol k;
              declared = omega (arith, ltb-true f (length g) d);
              kind = ap (λ (f : ℕ). (symbol_at g f).kind) (sym k) ∙ function-kind (symbol_at g f).kind h;
            })
        go (letter x) e k d h = inl (omega arith)

    pub is-function : get_or words j 0 < letter_code → IsFunction
    is-function h = ⊎_elim (λ k. absurd (omega arith)) (λ f. f) split

  -- the word behind the terms is a sign
  end-sign : terms_end t < length words → (plus_code ≤ get_or words (terms_end t) 0) × (get_or words (terms_end t) 0 < letter_code)
  end-sign h = go t.behind behind-stand
    where
      coded : (b : Bool) → code_of (sign b) ≡ get_or words (terms_end t) 0 → (plus_code ≤ get_or words (terms_end t) 0) × (get_or words (terms_end t) 0 < letter_code)
      coded true e = (omega arith, omega arith)
      coded false e = (omega arith, omega arith)

      go : (c : Clause) → drop (terms_end t) ws ≡ clause_words c → (plus_code ≤ get_or words (terms_end t) 0) × (get_or words (terms_end t) 0 < letter_code)
      go [] e = absurd (omega (arith, ap length e, length-drop (terms_end t) ws, length-map words code_word))
      go (l ∷ c) e =
          coded l.sign
          (sym (ap code_of (ap (λ (l : List Word). get_or l 0 equals) (sym (words-from (terms_end t) h) ∙ e))) ∙ code_of-word_of (get_or words (terms_end t) 0))

  -- whether the terms go on is told by the word
  module _ (j : ℕ) (from : i ≤ j) (within : j ≤ terms_end t) (below : j < length words) where
    pub goes_on : (get_or words j 0 < plus_code) ⊎ (letter_code ≤ get_or words j 0) → j < terms_end t
    goes_on h = ⊎_elim (λ k. k) (λ k. let e : j ≡ terms_end t = k in let q = end-sign (rw e at below) in absurd (⊎_elim (λ m. omega (arith, q, ap (λ (j : ℕ). get_or words j 0) e)) (λ m. omega (arith, q, ap (λ (j : ℕ). get_or words j 0) e)) h)) (le_split j (terms_end t) within)

    pub stops : length g ≤ max_places → plus_code ≤ get_or words j 0 → get_or words j 0 < letter_code → j ≡ terms_end t
    stops small h k = ⊎_elim (λ m. let f = is-function j from m k in absurd (omega (arith, f.declared))) (λ m. m) (le_split j (terms_end t) within)
