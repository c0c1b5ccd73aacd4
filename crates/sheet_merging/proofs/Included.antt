-- A signature within another: each symbol has a place there, and a line that is a clause over the one is the same clause over the other, its symbols moved.
use Prim.Native.Nat.{ℕ, ◌+◌, ◌-◌, ◌≤◌, ◌<◌}
use mathlib.Core.Path.{◌≡◌, refl, sym, ap, ◌∙◌, subst}
use mathlib.Core.Logic.{◌⊎◌, inl, inr}
use mathlib.Core.Bool.{Bool, true, false, cond, ◌&&◌}
use mathlib.Core.Option.{Option, none, some, some-injective}
use mathlib.Core.List.{List, [], ◌∷◌, map}
use native.Mathlib.Omega.{arith}
use lib.Dec.{eqb, ltb, leb}
use lib.ListN.{length}
use Rattle.theory.specs.Lists.{prefix}
use Rattle.theory.specs.Lines.{words_of}
use Rattle.theory.specs.Syntax.{Kind, is_function, is_predicate, Symbol, Signature, no_symbol, symbol_at, Term, variable, apply, Terms, empty, cons, Atom, equal, holds, Clause, count, function_of, predicate_of, term_ok, terms_ok, atom_ok, clause_ok}
use Rattle.theory.specs.Grammar.{Word, sign, equals, symbol, letter, clause_words, read_clause}
use Rattle.theory.specs.Flattening.{place_or0}
use Rattle.theory.specs.Problem.{place_of_name, name_word, word_of, read_all}
use Rattle.theory.specs.Claims.Grammar.{is_declared}
use Rattle.theory.specs.WellFormed.{NamesDiffer, is_known_letter}
use Rattle.theory.proofs.Tests.{true-or-false, ltb-true, ltb-of-<, ltb-of-≤, ltb-false, and_left, and_right, and-join}
use Rattle.theory.proofs.Lists.{all-imply}
use Rattle.theory.proofs.Names.{named-place}
use Rattle.theory.proofs.Grammar.{read_clause-sound, read_clause-complete}
use Rattle.theory.proofs.Parsing.{read_all-known}
use Rattle.theory.proofs.Renamed.{renamed_term, renamed_terms}
use Rattle.theory.proofs.SheetWords.{place-of-name}
use Rattle.sheet_merging.proofs.Among.{In, in-at, at_in}
use Rattle.sheet_merging.proofs.Moving.{move_atom, move_clause, move_word, clause-words, count-moved, limits-moved}
use Rattle.sheet_merging.proofs.SheetRead.{clause_at, line_ok, line_ok-is, ok-line, ReadSo, clause-line, line-clause}

-- every symbol of g is one of h
abbrev pub Included : Signature → Signature → Type 0
Included g h = (u : Symbol) → In u g → In u h

-- the place in h of the symbol at place i of g; places past the end of g go past the end of h
unfoldable pub place_in : Signature → Signature → ℕ → ℕ
place_in g h i = cond (ltb i (length g)) (place_or0 (place_of_name (symbol_at g i).name h)) (i + length h)

module _ (g h : Signature) (dg : NamesDiffer g) (dh : NamesDiffer h) (inc : Included g h) where
  abbrev π : ℕ → ℕ
  π = place_in g h

  -- the symbol at its new place
  pub record Moved (i : ℕ) : Type 0 where
    pub below : π i < length h
    pub same : symbol_at h (π i) ≡ symbol_at g i
    pub found : place_of_name (symbol_at g i).name h ≡ some (π i)

  pub moved : (i : ℕ) → i < length g → Moved i
  unfolding place_in
  moved i lt =
      let r = in-at no_symbol (symbol_at g i) h (inc (symbol_at g i) (at_in no_symbol g i lt)) in
      let j : ℕ = r.0 in
      let found : place_of_name (symbol_at g i).name h ≡ some j = ap (λ (f : Symbol). place_of_name f.name h) (sym r.2) ∙ place-of-name h dh j r.1 in
      let q : place_in g h i ≡ j = ap (λ (b : Bool). cond b (place_or0 (place_of_name (symbol_at g i).name h)) (i + length h)) (ltb-of-< i (length g) lt) ∙ ap place_or0 found in
      record {
        below = subst (λ (k : ℕ). k < length h) (sym q) r.1;
        same = ap (symbol_at h) q ∙ r.2;
        found = found ∙ ap {B = Option ℕ} some (sym q);
      }

  past : (i : ℕ) → length g ≤ i → π i ≡ i + length h
  unfolding place_in
  past i le = ap (λ (b : Bool). cond b (place_or0 (place_of_name (symbol_at g i).name h)) (i + length h)) (ltb-of-≤ i (length g) le)

  -- no two are moved to one place
  pub apart : (i j : ℕ) → π i ≡ π j → i ≡ j
  apart i j e = go (true-or-false (ltb i (length g))) (true-or-false (ltb j (length g)))
    where
      go : (ltb i (length g) ≡ true) ⊎ (ltb i (length g) ≡ false) → (ltb j (length g) ≡ true) ⊎ (ltb j (length g) ≡ false) → i ≡ j
      go (inl a) (inl b) =
          let x = moved i (ltb-true i (length g) a) in
          let y = moved j (ltb-true j (length g) b) in
          dg i j (ltb-true i (length g) a) (ltb-true j (length g) b) (ap (λ (f : Symbol). f.name) (sym x.same ∙ ap (symbol_at h) e ∙ y.same))
      go (inl a) (inr b) =
          let x : π i < length h = (moved i (ltb-true i (length g) a)).below in
          let y : π j ≡ j + length h = past j (ltb-false j (length g) b) in
          absurd (omega (arith, x, y, e))
      go (inr a) (inl b) =
          let x : π i ≡ i + length h = past i (ltb-false i (length g) a) in
          let y : π j < length h = (moved j (ltb-true j (length g) b)).below in
          absurd (omega (arith, x, y, e))
      go (inr a) (inr b) =
          let x : π i ≡ i + length h = past i (ltb-false i (length g) a) in
          let y : π j ≡ j + length h = past j (ltb-false j (length g) b) in
          omega (arith, x, y, e)

  -- words
  name-moved : (w : List ℕ) (x : Word) (o : Option ℕ) → place_of_name w g ≡ o → name_word o ≡ some x → name_word (place_of_name w h) ≡ some (move_word π x)
  name-moved w x none k e = let z : ◌≡◌ {A = ℕ} 0 1 = cc in absurd (omega arith)
  name-moved w x (some i) k e =
      let s = named-place g w i k in
      ap name_word (ap (λ (w : List ℕ). place_of_name w h) s.1 ∙ (moved i s.0).found) ∙ ap (λ (y : Word). some (move_word π y)) (some-injective (symbol i) x e)

  word_moved : (w : List ℕ) (x : Word) → word_of g w ≡ some x → word_of h w ≡ some (move_word π x)
  unfolding word_of
  word_moved [] x e = let z : ◌≡◌ {A = ℕ} 0 1 = cc in absurd (omega arith)
  word_moved (b ∷ c ∷ w) x e = name-moved (b ∷ c ∷ w) x (place_of_name (b ∷ c ∷ w) g) refl e
  word_moved (b ∷ []) x e = go (eqb b 43) (eqb b 45) (eqb b 61) (leb 65 b && ltb b 73) e
    where
      r : Option Word
      r = name_word (place_of_name (b ∷ []) g)

      s : Option Word
      s = name_word (place_of_name (b ∷ []) h)

      is : (y : Word) → some y ≡ some x → some (move_word π y) ≡ some (move_word π x)
      is y q = ap (λ (y : Word). some (move_word π y)) (some-injective y x q)

      go : (p q m t : Bool) → cond p (some (sign true)) (cond q (some (sign false)) (cond m (some equals) (cond t (some (letter (b - 65))) r))) ≡ some x
          → cond p (some (sign true)) (cond q (some (sign false)) (cond m (some equals) (cond t (some (letter (b - 65))) s))) ≡ some (move_word π x)
      go true q m t e = is (sign true) e
      go false true m t e = is (sign false) e
      go false false true t e = is equals e
      go false false false true e = is (letter (b - 65)) e
      go false false false false e = name-moved (b ∷ []) x (place_of_name (b ∷ []) g) refl e

  words-moved : (vs : List (List ℕ)) (ws : List Word) → read_all g vs ≡ some ws → read_all h vs ≡ some (map (move_word π) ws)
  words-moved [] ws e = ap (λ (ws : List Word). some (map (move_word π) ws)) (some-injective [] ws e)
  words-moved (v ∷ vs) ws e = go (word_of g v) refl (read_all g vs) refl e (λ us. words-moved vs us)
    where
      go : (o : Option Word) → word_of g v ≡ o → (m : Option (List Word)) → read_all g vs ≡ m → (elim o as (λ _. Option (List Word)) [ some x ↦ prefix x m | none ↦ none ]) ≡ some ws
          → ((us : List Word) → read_all g vs ≡ some us → read_all h vs ≡ some (map (move_word π) us)) → read_all h (v ∷ vs) ≡ some (map (move_word π) ws)
      go none k m l e ih = let z : ◌≡◌ {A = ℕ} 0 1 = cc in absurd (omega arith)
      go (some x) k none l e ih = let z : ◌≡◌ {A = ℕ} 0 1 = cc in absurd (omega arith)
      go (some x) k (some us) l e ih =
          ap (λ (o : Option Word). elim o as (λ _. Option (List Word)) [ some x ↦ prefix x (read_all h vs) | none ↦ none ]) (word_moved v x k)
          ∙ ap (prefix (move_word π x)) (ih us l)
          ∙ ap (λ (ws : List Word). some (map (move_word π) ws)) (some-injective (x ∷ us) ws e)

  -- a clause over g is one over h
  shape-moved : (is : Kind → Bool) (f n : ℕ) → (ltb f (length g) && is (symbol_at g f).kind && eqb n (symbol_at g f).arity) ≡ true
      → (ltb (π f) (length h) && is (symbol_at h (π f)).kind && eqb n (symbol_at h (π f)).arity) ≡ true
  shape-moved is f n k =
      let here : Bool = ltb f (length g) in
      let kind : Bool = is (symbol_at g f).kind in
      let arity : Bool = eqb n (symbol_at g f).arity in
      let m = moved f (ltb-true f (length g) (and_left here kind (and_left (here && kind) arity k))) in
      ap (λ (u : Symbol). ltb (π f) (length h) && is u.kind && eqb n u.arity) m.same
      ∙ and-join (ltb (π f) (length h) && kind) arity
      (and-join (ltb (π f) (length h)) kind (ltb-of-< (π f) (length h) m.below) (and_right here kind (and_left (here && kind) arity k)))
      (and_right (here && kind) arity k)

  mutual
    term-ok : (t : Term) → term_ok g t ≡ true → term_ok h (renamed_term π t) ≡ true
    term-ok (variable x) k = refl
    term-ok (apply f ts) k =
        and-join (function_of h (π f) (count (renamed_terms π ts))) (terms_ok h (renamed_terms π ts))
        (ap (function_of h (π f)) (count-moved π ts) ∙ shape-moved is_function f (count ts) (and_left (function_of g f (count ts)) (terms_ok g ts) k))
        (terms-ok ts (and_right (function_of g f (count ts)) (terms_ok g ts) k))

    terms-ok : (ts : Terms) → terms_ok g ts ≡ true → terms_ok h (renamed_terms π ts) ≡ true
    terms-ok empty k = refl
    terms-ok (cons t ts) k =
        and-join (term_ok h (renamed_term π t)) (terms_ok h (renamed_terms π ts)) (term-ok t (and_left (term_ok g t) (terms_ok g ts) k)) (terms-ok ts (and_right (term_ok g t) (terms_ok g ts) k))

  atom-ok : (a : Atom) → atom_ok g a ≡ true → atom_ok h (move_atom π a) ≡ true
  atom-ok (equal t u) k = and-join (term_ok h (renamed_term π t)) (term_ok h (renamed_term π u)) (term-ok t (and_left (term_ok g t) (term_ok g u) k)) (term-ok u (and_right (term_ok g t) (term_ok g u) k))
  atom-ok (holds p ts) k =
      and-join (predicate_of h (π p) (count (renamed_terms π ts))) (terms_ok h (renamed_terms π ts))
      (ap (predicate_of h (π p)) (count-moved π ts) ∙ shape-moved is_predicate p (count ts) (and_left (predicate_of g p (count ts)) (terms_ok g ts) k))
      (terms-ok ts (and_right (predicate_of g p (count ts)) (terms_ok g ts) k))

  pub clause-ok : (c : Clause) → clause_ok g c ≡ true → clause_ok h (move_clause π c) ≡ true
  clause-ok [] k = refl
  clause-ok (l ∷ c) k = and-join (atom_ok h (move_atom π l.atom)) (clause_ok h (move_clause π c)) (atom-ok l.atom (and_left (atom_ok g l.atom) (clause_ok g c) k)) (clause-ok c (and_right (atom_ok g l.atom) (clause_ok g c) k))

  -- what is read over g is read over h, moved
  read-moved : (v : List ℕ) (c : Clause) → ReadSo g v c → (clause_ok g c ≡ true) × ReadSo h v (move_clause π c)
  read-moved v c r =
      let known = read_all-known g (words_of v) r.words r.known in
      let s = read_clause-sound g r.words c (all-imply (λ x. is_declared g x && is_known_letter x) (is_declared g) r.words (λ x. and_left (is_declared g x) (is_known_letter x)) known) r.grammatical in
      let ws : List Word = map (move_word π) r.words in
      let spelled : clause_words (move_clause π c) ≡ ws = clause-words π c ∙ ap (map (move_word π)) s.1 in (
        s.0,
        record {
          words = ws;
          known = words-moved (words_of v) r.words r.known;
          grammatical = ap (read_clause h) (sym spelled) ∙ read_clause-complete h (move_clause π c) (clause-ok c s.0);
          limits = limits-moved π apart r.words c ∙ r.limits;
        },
      )

  -- a line that is a clause over g is one over h
  pub record LineMoved (l : List ℕ) : Type 0 where
    pub ok : line_ok h l ≡ true
    pub clause : clause_at h l ≡ move_clause π (clause_at g l)
    pub over : clause_ok g (clause_at g l) ≡ true

  pub line-moved : (l : List ℕ) → line_ok g l ≡ true → LineMoved l
  line-moved l k =
      let o = ok-line g l k in
      let c : Clause = clause_at g l in
      let r = clause-line g l c o.1 in
      let m = read-moved r.value c r.read in
      let z = line_ok-is h l (move_clause π c) o.0 (line-clause h l (move_clause π c) (record { value = r.value; whole = r.whole; read = m.1 })) in
      record { ok = z.0; clause = z.1; over = m.0 }
