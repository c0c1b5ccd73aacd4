-- A literal step by step: its sign, and then an equality or a predicate.
use Prim.Native.Nat.{ℕ, suc, ◌+◌, ◌<◌}
use mathlib.Core.Path.{◌≡◌, refl, sym, ap, ◌∙◌, subst}
use mathlib.Core.Logic.{◌⊎◌, inl, inr, ⊎_elim, ◌≢◌}
use mathlib.Core.Bool.{Bool, true, false, ◌&&◌}
use mathlib.Core.List.{List, ◌∷◌, ◌++◌, map, append_assoc}
use native.Mathlib.Omega.{arith}
use lib.Dec.{eqb}
use lib.ListN.{length, get_or, take}
use Rattle.theory.specs.Lists.{elem}
use Rattle.theory.specs.Syntax.{Signature, symbol_at, Term, Terms, Atom, equal, holds, count, predicate_of, term_variables, atom_variables, term_ok, terms_ok, atom_ok}
use Rattle.theory.specs.Syntax as theory
use Rattle.theory.specs.Grammar.{Word, sign, equals, symbol, term_words, terms_words, atom_words}
use Rattle.theory.specs.Flattening.{all_function_terms, add_terms, FlatVariable, new, variables_for, flat_predicate}
use Rattle.theory.specs.Lifted.{within}
use Rattle.theory.proofs.Tests.{and_left, and_right}
use Rattle.theory.proofs.Lists.{all_append}
use Rattle.theory.proofs.Declared.{predicate_of→}
use Rattle.syntax.specs.Codes.{plus_code, equals_code, code_of, code_word}
use Rattle.syntax.proofs.Codes.{code_of-word_of}
use Rattle.lifting.specs.declared.table.Table.{Table}
use Rattle.lifting.specs.declared.terms.AllLifted.{AllLifted}
use Rattle.lifting.specs.Reading.{words_from, TermsThere, TermsLifted}
use Rattle.lifting.proofs.Words.{first_below, first_word, first-after}
use Rattle.shallow.specs.declared.literals.Shape.TheVariants.{Predicate}
use Rattle.shallow.specs.declared.literals.Literal.{Literal}
use Rattle.shallow.specs.declared.literals.Lifting.{Lifting}
use Rattle.shallow.specs.Placed.{placed_variable}
use Rattle.shallow.specs.Shallow.{with_literal, LiteralThere, EqualityThere, LiteralAdded, LiteralMade, EqualityMade}
use Rattle.shallow.specs.Literals.{three}
use Rattle.shallow.proofs.Written.{literal-added, arguments-right}

-- the code of a sign says which it is
sign-code : (n : ℕ) (b : Bool) → code_word n ≡ sign b → eqb n plus_code ≡ b
sign-code n true e = ap (λ (n : ℕ). eqb n plus_code) (sym (code_of-word_of n) ∙ ap code_of e)
sign-code n false e = ap (λ (n : ℕ). eqb n plus_code) (sym (code_of-word_of n) ∙ ap code_of e)

-- an atom has a first word
starts : (a : Atom) (rest : List Word) → (w : Word) × (ws : List Word) × (atom_words a ++ rest ≡ w ∷ ws)
starts (equal t u) rest = (equals, (term_words t ++ term_words u) ++ rest, refl)
starts (holds p ts) rest = (symbol p, terms_words ts ++ rest, refl)

module _ {codes place arities : List ℕ} {l : Lifting} (s : LiteralThere codes place arities l) where
  abbrev g : Signature
  g = s.source.signature

  abbrev xs : List ℕ
  xs = s.source.variables

  abbrev n : ℕ
  n = s.source.count

  abbrev p : ℕ
  p = get_or codes (l.next + 1) 0

  pub signed : eqb (get_or codes l.next 0) plus_code ≡ s.literal.sign
  signed = sign-code (get_or codes l.next 0) s.literal.sign (first_word codes n s.source.fits l.next (sign s.literal.sign) (atom_words s.literal.atom ++ s.rest) s.words)

  atom-words : words_from codes n (l.next + 1) ≡ atom_words s.literal.atom ++ s.rest
  atom-words = first-after codes n s.source.fits l.next (sign s.literal.sign) (atom_words s.literal.atom ++ s.rest) s.words

  pub atom-before-end : l.next + 1 < s.source.count
  atom-before-end = let w = starts s.literal.atom s.rest in first_below codes n s.source.fits (l.next + 1) w.0 w.1 (atom-words ∙ w.2)

  -- the atom is an equality, or a predicate followed by terms, and its first word's code says which
  pub record EqualityAtom : Type 0 where
    pub left : Term
    pub right : Term
    pub is : s.literal.atom ≡ equal left right
    pub coded : get_or codes (l.next + 1) 0 ≡ equals_code
    pub words : words_from codes s.source.count (l.next + 2) ≡ term_words left ++ (term_words right ++ s.rest)

  pub record PredicateAtom : Type 0 where
    pub arguments : Terms
    pub is : s.literal.atom ≡ holds (get_or codes (l.next + 1) 0) arguments
    pub below : get_or codes (l.next + 1) 0 < length s.source.signature
    pub arity : count arguments ≡ (symbol_at s.source.signature (get_or codes (l.next + 1) 0)).arity
    pub words : words_from codes s.source.count (l.next + 2) ≡ terms_words arguments ++ s.rest

  -- the words behind the first
  behind : (w : Word) (ws : List Word) → atom_words s.literal.atom ++ s.rest ≡ w ∷ ws → (code_word p ≡ w) × (words_from codes n (l.next + 2) ≡ ws)
  behind w ws e =
      let k : l.next + 2 ≡ l.next + 1 + 1 = omega arith in (
        first_word codes n s.source.fits (l.next + 1) w ws (atom-words ∙ e),
        ap (words_from codes n) k ∙ first-after codes n s.source.fits (l.next + 1) w ws (atom-words ∙ e),
      )

  split : EqualityAtom ⊎ PredicateAtom
  split = go s.literal.atom refl
    where
      go : (a : Atom) → s.literal.atom ≡ a → EqualityAtom ⊎ PredicateAtom
      go (equal t u) e =
          let w = behind equals ((term_words t ++ term_words u) ++ s.rest) (ap (λ (a : Atom). atom_words a ++ s.rest) e) in
          inl (record { left = t; right = u; is = e; coded = sym (code_of-word_of p) ∙ ap code_of w.0; words = w.1 ∙ append_assoc (term_words t) (term_words u) s.rest })
      go (holds q ts) e =
          let w = behind (symbol q) (terms_words ts ++ s.rest) (ap (λ (a : Atom). atom_words a ++ s.rest) e) in
          let c : q ≡ p = sym (ap code_of w.0) ∙ code_of-word_of p in
          let d = predicate_of→ g q (count ts) (and_left (predicate_of g q (count ts)) (terms_ok g ts) (ap (atom_ok g) (sym e) ∙ s.ok)) in
          inr (record {
            arguments = ts;
            is = e ∙ ap (λ (q : ℕ). holds q ts) c;
            below = subst (λ (q : ℕ). q < length g) c d.below;
            arity = d.arity ∙ ap (λ (q : ℕ). (symbol_at g q).arity) c;
            words = w.1;
          })

  pub equality-atom : get_or codes (l.next + 1) 0 ≡ equals_code → EqualityAtom
  equality-atom h = ⊎_elim (λ e. e) (λ q. absurd (omega (arith, q.below, s.source.small.symbols))) split

  pub predicate-atom : get_or codes (l.next + 1) 0 ≢ equals_code → PredicateAtom
  predicate-atom h = ⊎_elim (λ e. absurd (h e.coded)) (λ q. q) split

  -- the terms of an equality
  module _ (q : EqualityAtom) where
    pub both_ok : (term_ok s.source.signature q.left && term_ok s.source.signature q.right) ≡ true
    both_ok = ap (atom_ok g) (sym q.is) ∙ s.ok

    pub both_own : (within s.source.variables (term_variables q.left) && within s.source.variables (term_variables q.right)) ≡ true
    both_own = sym (all_append (λ y. elem y xs) (term_variables q.left) (term_variables q.right)) ∙ ap (λ (a : Atom). within xs (atom_variables a)) (sym q.is) ∙ s.own

    abbrev pub equality-there : EqualityThere codes place arities l (eqb (get_or codes l.next 0) plus_code) (l.next + 2)
    equality-there =
        record {
          source = s.source;
          left = q.left;
          right = q.right;
          left-ok = and_left (term_ok s.source.signature q.left) (term_ok s.source.signature q.right) both_ok;
          right-ok = and_right (term_ok s.source.signature q.left) (term_ok s.source.signature q.right) both_ok;
          left-own = and_left (within s.source.variables (term_variables q.left)) (within s.source.variables (term_variables q.right)) both_own;
          right-own = and_right (within s.source.variables (term_variables q.left)) (within s.source.variables (term_variables q.right)) both_own;
          rest = s.rest;
          words = q.words;
          found = s.found;
          lifts = s.lifts;
          room = omega (arith, s.room);
          done = s.done;
          made = s.made;
          space = s.space;
        }

    pub equality-made : (r : Lifting) → EqualityMade equality-there r → LiteralMade s r
    equality-made r e =
        let k : ℕ = length (term_words q.left ++ term_words q.right) in
        let end : l.next + 2 + k ≡ l.next + suc (suc k) = omega arith in
        subst (λ (a : Atom). LiteralAdded g xs s.found s.done l (record { sign = s.literal.sign; atom = a }) (l.next + suc (length (atom_words a))) r) (sym q.is)
        (subst (λ (b : Bool). LiteralAdded g xs s.found s.done l (record { sign = b; atom = equal q.left q.right }) (l.next + suc (suc k)) r) signed
        (subst (λ (i : ℕ). LiteralAdded g xs s.found s.done l (record { sign = eqb (get_or codes l.next 0) plus_code; atom = equal q.left q.right }) i r) end e))

  -- the terms of a predicate
  module _ (q : PredicateAtom) where
    pub inside-arities : get_or codes (l.next + 1) 0 < length arities
    inside-arities = omega (arith, q.below, s.source.table.within)

    abbrev pub predicate-there : TermsThere codes place arities l.owns (l.next + 2) (get_or arities (get_or codes (l.next + 1) 0) 0) l.table
    predicate-there =
        record {
          source = s.source;
          terms = q.arguments;
          counted = q.arity ∙ sym (s.source.table.arity (get_or codes (l.next + 1) 0) q.below);
          ok = and_right (predicate_of s.source.signature (get_or codes (l.next + 1) 0) (count q.arguments)) (terms_ok s.source.signature q.arguments)
              (ap (atom_ok s.source.signature) (sym q.is) ∙ s.ok);
          own = ap (λ (a : Atom). within s.source.variables (atom_variables a)) (sym q.is) ∙ s.own;
          rest = s.rest;
          words = q.words;
          found = s.found;
          lifts = s.lifts;
          room = omega (arith, s.room);
        }

    pub predicate-made : (r : AllLifted) (m : Table) → TermsLifted predicate-there r m
        → LiteralMade s
        (with_literal l (record { sign = eqb (get_or codes l.next 0) plus_code; shape = Predicate (get_or codes (l.next + 1) 0); arguments = r.variables }) m r.next)
    predicate-made r m e =
        let ts : Terms = q.arguments in
        let more : List Term = add_terms s.found (all_function_terms ts) in
        let c : Literal = record { sign = eqb (get_or codes l.next 0) plus_code; shape = Predicate p; arguments = r.variables } in
        let k : theory.Literal = record { sign = s.literal.sign; atom = holds p ts } in
        let arguments : map new (take (symbol_at g p).arity (three r.variables)) ≡ map (placed_variable xs) (variables_for more ts) =
        arguments-right g s.source.small xs more ts p r.variables q.arity e.variables in
        let end : r.next ≡ l.next + suc (suc (length (terms_words ts))) = omega (arith, e.next) in
        subst (λ (a : Atom). LiteralAdded g xs s.found s.done l (record { sign = s.literal.sign; atom = a }) (l.next + suc (length (atom_words a))) (with_literal l c m r.next))
        (sym q.is)
        (subst (λ (i : ℕ). LiteralAdded g xs s.found s.done l k i (with_literal l c m r.next)) end
        (literal-added g s.source.small xs s.found s.done l s.made s.space k c
        (ap (λ (b : Bool). record { sign = b; atom = flat_predicate p (map new (take (symbol_at g p).arity (three r.variables))) }) signed
        ∙ ap (λ (ys : List FlatVariable). record { sign = s.literal.sign; atom = flat_predicate p ys }) arguments)
        m e.lifts r.next))
