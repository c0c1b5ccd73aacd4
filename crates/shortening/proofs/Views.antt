-- What stands first in what is left of a clause: a word to pass, or a term to name.
use Prim.Native.Nat.{ℕ}
use mathlib.Core.Path.{◌≡◌, refl, sym, ap, ◌∙◌}
use mathlib.Core.Logic.{◌⊎◌, inl, inr}
use mathlib.Core.Bool.{Bool, true, false, cond, ◌&&◌, false≢true}
use mathlib.Core.List.{List, [], ◌∷◌, ◌++◌, append_assoc, append-nil}
use native.Mathlib.Omega.{arith}
use lib.Dec.{ltb}
use Rattle.theory.specs.Syntax.{Kind, is_function, Signature, symbol_at, Term, variable, apply, Terms, empty, cons, equal, holds, Clause, count, function_of, predicate_of, term_ok, terms_ok, atom_ok, clause_ok}
use Rattle.theory.specs.Grammar.{Word, sign, equals, symbol, letter, term_words, terms_words, clause_words}
use Rattle.theory.proofs.Tests.{ltb-of-<, and_left, and_right, and-false, and-join}
use Rattle.theory.proofs.Declared.{function_of→, predicate_of→}
use Rattle.theory.proofs.Grammar.{append_terms}
use Rattle.naming.specs.FixedTerms.{is_fixed, is_nameable, term_named, terms_named, clause_named, name_of, short_term, short_terms, short_clause}
use Rattle.shortening.specs.Left.{Left, terms_left, atom_left, left_words, left_ok, left_named, short_left}
use Rattle.shortening.specs.Opening.{is_opening}

-- the word w stands first and begins no nameable term: next is left behind it
pub record Passes (g : Signature) (l : Left) (w : Word) (next : Left) : Type 0 where
  pub words : left_words l ≡ w ∷ left_words next
  pub ok : left_ok g next ≡ true
  pub named : left_named l ≡ left_named next
  pub short : (n : ℕ) (ts : List Term) → left_words (short_left n ts l) ≡ w ∷ left_words (short_left n ts next)

-- the nameable term t stands first: next is left behind it
pub record Names (g : Signature) (l : Left) (t : Term) (next : Left) : Type 0 where
  pub nameable : is_nameable t ≡ true
  pub words : left_words l ≡ term_words t ++ left_words next
  pub term : term_ok g t ≡ true
  pub ok : left_ok g next ≡ true
  pub named : left_named l ≡ t ∷ left_named next
  pub short : (n : ℕ) (ts : List Term) → left_words (short_left n ts l) ≡ term_words (name_of n ts t) ++ left_words (short_left n ts next)

-- a term with arguments stands first: it is named, or its first word is passed
pub record Opens (g : Signature) (l : Left) (t : Term) (next : Left) : Type 0 where
  pub words : left_words l ≡ term_words t ++ left_words next
  pub term : term_ok g t ≡ true
  pub fixed : is_fixed t ≡ true → Names g l t next
  pub other : is_fixed t ≡ false → (f : ℕ) × ((after : Left) × Passes g l (symbol f) after)

-- terms one after the other
pub append-words : (ts us : Terms) → terms_words (append_terms ts us) ≡ terms_words ts ++ terms_words us
append-words empty us = refl
append-words (cons t ts) us = ap (λ (l : List Word). term_words t ++ l) (append-words ts us) ∙ sym (append_assoc (term_words t) (terms_words ts) (terms_words us))

append-named : (ts us : Terms) → terms_named (append_terms ts us) ≡ terms_named ts ++ terms_named us
append-named empty us = refl
append-named (cons t ts) us = ap (λ (l : List Term). term_named t ++ l) (append-named ts us) ∙ sym (append_assoc (term_named t) (terms_named ts) (terms_named us))

append-short : (n : ℕ) (named : List Term) (ts us : Terms) → short_terms n named (append_terms ts us) ≡ append_terms (short_terms n named ts) (short_terms n named us)
append-short n named empty us = refl
append-short n named (cons t ts) us = ap (cons (short_term n named t)) (append-short n named ts us)

module _ (g : Signature) where
  pub append-ok : (ts us : Terms) → terms_ok g ts ≡ true → terms_ok g us ≡ true → terms_ok g (append_terms ts us) ≡ true
  append-ok empty us h k = k
  append-ok (cons t ts) us h k =
      and-join (term_ok g t) (terms_ok g (append_terms ts us)) (and_left (term_ok g t) (terms_ok g ts) h) (append-ok ts us (and_right (term_ok g t) (terms_ok g ts) h) k)

  -- the parts of what is over the signature
  module _ (t : Term) (ts : Terms) (c : Clause) (h : left_ok g (terms_left (cons t ts) c) ≡ true) where
    first-ok : term_ok g t ≡ true
    first-ok = and_left (term_ok g t) (terms_ok g ts) (and_left (term_ok g t && terms_ok g ts) (clause_ok g c) h)

    others-ok : terms_ok g ts ≡ true
    others-ok = and_right (term_ok g t) (terms_ok g ts) (and_left (term_ok g t && terms_ok g ts) (clause_ok g c) h)

    rest_ok : left_ok g (terms_left ts c) ≡ true
    rest_ok = and-join (terms_ok g ts) (clause_ok g c) others-ok (and_right (term_ok g t && terms_ok g ts) (clause_ok g c) h)

  -- a function's own word is passed where its term is not named
  function-passed : (f : ℕ) (us ts : Terms) (c : Clause) → is_nameable (apply f us) ≡ false → left_ok g (terms_left (cons (apply f us) ts) c) ≡ true
      → Passes g (terms_left (cons (apply f us) ts) c) (symbol f) (terms_left (append_terms us ts) c)
  function-passed f us ts c e h =
      record {
        words = ap (λ (l : List Word). symbol f ∷ l ++ clause_words c) (sym (append-words us ts));
        ok = and-join (terms_ok g (append_terms us ts)) (clause_ok g c)
            (append-ok us ts (and_right (function_of g f (count us)) (terms_ok g us) (first-ok (apply f us) ts c h)) (others-ok (apply f us) ts c h))
            (and_right (term_ok g (apply f us) && terms_ok g ts) (clause_ok g c) h);
        named = ap (λ (b : Bool). (cond b (apply f us ∷ []) (terms_named us) ++ terms_named ts) ++ clause_named c) e
            ∙ ap (λ (l : List Term). l ++ clause_named c) (sym (append-named us ts));
        short = λ n named.
            let d : Clause = short_clause n named c in
            ap (λ (b : Bool). (term_words (cond b (name_of n named (apply f us)) (apply f (short_terms n named us))) ++ terms_words (short_terms n named ts)) ++ clause_words d) e
            ∙ ap (λ (l : List Word). symbol f ∷ l ++ clause_words d) (sym (append-words (short_terms n named us) (short_terms n named ts)))
            ∙ ap (λ (us : Terms). symbol f ∷ terms_words us ++ clause_words d) (sym (append-short n named us ts));
      }

  -- a term that is named
  term-named : (t : Term) (ts : Terms) (c : Clause) → is_nameable t ≡ true → left_ok g (terms_left (cons t ts) c) ≡ true → Names g (terms_left (cons t ts) c) t (terms_left ts c)
  term-named t ts c e h =
      record {
        nameable = e;
        words = append_assoc (term_words t) (terms_words ts) (clause_words c);
        term = first-ok t ts c h;
        ok = rest_ok t ts c h;
        named = ap (λ (l : List Term). (l ++ terms_named ts) ++ clause_named c) (alone t e);
        short = λ n named.
            ap (λ (u : Term). (term_words u ++ terms_words (short_terms n named ts)) ++ clause_words (short_clause n named c)) (name n named t e)
            ∙ append_assoc (term_words (name_of n named t)) (terms_words (short_terms n named ts)) (clause_words (short_clause n named c));
      }
    where
      alone : (t : Term) → is_nameable t ≡ true → term_named t ≡ t ∷ []
      alone (variable x) e = absurd (false≢true e)
      alone (apply f us) e = ap (λ (b : Bool). cond b (apply f us ∷ []) (terms_named us)) e

      name : (n : ℕ) (named : List Term) (t : Term) → is_nameable t ≡ true → short_term n named t ≡ name_of n named t
      name n named (variable x) e = absurd (false≢true e)
      name n named (apply f us) e = ap (λ (b : Bool). cond b (name_of n named (apply f us)) (apply f (short_terms n named us))) e

  -- what stands first: nothing, a word that begins no term with arguments, or such a term
  abbrev pub View : Left → Type 0
  View l = (left_words l ≡ []) ⊎ (((w : Word) × ((next : Left) × ((is_opening g w ≡ false) × Passes g l w next))) ⊎ ((f : ℕ) × ((us : Terms) × ((next : Left) × ((is_opening g (symbol f) ≡ true) × Opens g l (apply f us) next)))))

  -- a function with arguments
  opening : (f : ℕ) (us ts : Terms) (c : Clause) → is_opening g (symbol f) ≡ true → is_nameable (apply f us) ≡ is_fixed (apply f us) → left_ok g (terms_left (cons (apply f us) ts) c) ≡ true
      → View (terms_left (cons (apply f us) ts) c)
  opening f us ts c o same h =
      inr (inr (
        f,
        (
          us,
          (
            terms_left ts c,
            (
              o,
              record {
                words = append_assoc (term_words (apply f us)) (terms_words ts) (clause_words c);
                term = first-ok (apply f us) ts c h;
                fixed = λ e. term-named (apply f us) ts c (same ∙ e) h;
                other = λ e. (f, (terms_left (append_terms us ts) c, function-passed f us ts c (same ∙ e) h));
              },
            ),
          ),
        ),
      ))

  pub view : (l : Left) → left_ok g l ≡ true → View l
  view (terms_left empty []) h = inl refl
  view (terms_left empty (l ∷ c)) h = inr (inl (sign l.sign, (atom_left l.atom c, (refl, record { words = refl; ok = h; named = refl; short = λ n ts. refl }))))
  view (terms_left (cons (variable x) ts) c) h = inr (inl (letter x, (terms_left ts c, (refl, record { words = refl; ok = rest_ok (variable x) ts c h; named = refl; short = λ n ts. refl }))))
  view (terms_left (cons (apply f empty) ts) c) h =
      let d = function_of→ g f 0 (and_left (function_of g f 0) true (first-ok (apply f empty) ts c h)) in
      inr (inl (symbol f, (terms_left ts c, (closed (is_function (symbol_at g f).kind) (symbol_at g f).arity d.arity, function-passed f empty ts c refl h))))
    where
      closed : (b : Bool) (a : ℕ) → 0 ≡ a → (b && ltb 0 a) ≡ false
      closed b a e = ap (λ (n : ℕ). b && ltb 0 n) (sym e) ∙ and-false b
  view (terms_left (cons (apply f (cons u us)) ts) c) h =
      let d = function_of→ g f (count (cons u us)) (and_left (function_of g f (count (cons u us))) (terms_ok g (cons u us)) (first-ok (apply f (cons u us)) ts c h)) in
      opening f (cons u us) ts c (and-join (is_function (symbol_at g f).kind) (ltb 0 (symbol_at g f).arity) (ap is_function d.kind) (ltb-of-< 0 (symbol_at g f).arity (omega (arith, d.arity)))) refl h
  view (atom_left (equal t u) c) h =
      inr (inl (
        equals,
        (
          terms_left (cons t (cons u empty)) c,
          (
            refl,
            record {
              words = ap (λ (l : List Word). equals ∷ (term_words t ++ l) ++ clause_words c) (sym (append-nil (term_words u)));
              ok = and-join (term_ok g t && (term_ok g u && true)) (clause_ok g c)
                  (and-join (term_ok g t) (term_ok g u && true) (and_left (term_ok g t) (term_ok g u) (and_left (term_ok g t && term_ok g u) (clause_ok g c) h))
                  (and-join (term_ok g u) true (and_right (term_ok g t) (term_ok g u) (and_left (term_ok g t && term_ok g u) (clause_ok g c) h)) refl))
                  (and_right (term_ok g t && term_ok g u) (clause_ok g c) h);
              named = ap (λ (l : List Term). (term_named t ++ l) ++ clause_named c) (sym (append-nil (term_named u)));
              short = λ n ts. ap (λ (l : List Word). equals ∷ (term_words (short_term n ts t) ++ l) ++ clause_words (short_clause n ts c)) (sym (append-nil (term_words (short_term n ts u))));
            },
          ),
        ),
      ))
  view (atom_left (holds p ts) c) h =
      let a : atom_ok g (holds p ts) ≡ true = and_left (atom_ok g (holds p ts)) (clause_ok g c) h in
      let d = predicate_of→ g p (count ts) (and_left (predicate_of g p (count ts)) (terms_ok g ts) a) in
      inr (inl (
        symbol p,
        (
          terms_left ts c,
          (
            ap (λ (k : Kind). is_function k && ltb 0 (symbol_at g p).arity) d.kind,
            record {
              words = refl;
              ok = and-join (terms_ok g ts) (clause_ok g c) (and_right (predicate_of g p (count ts)) (terms_ok g ts) a) (and_right (atom_ok g (holds p ts)) (clause_ok g c) h);
              named = refl;
              short = λ n ts. refl;
            },
          ),
        ),
      ))
