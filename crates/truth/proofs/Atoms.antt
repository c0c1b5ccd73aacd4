-- The atom that a literal's first word and the values of its terms stand for.
use Prim.Native.Nat.{ℕ, ◌+◌, ◌<◌}
use mathlib.Core.Path.{◌≡◌, refl, sym, ap, ◌∙◌, subst}
use mathlib.Core.List.{List}
use lib.ListN.{length, get_or}
use Rattle.theory.specs.Vectors.{rank}
use Rattle.theory.specs.Syntax.{predicate, Signature, symbol_at, Terms, Atom, equal, holds, count, predicate_of, terms_ok, atom_ok}
use Rattle.theory.specs.Truth.{Interpretation, values}
use Rattle.theory.specs.Cells.{interpretation}
use Rattle.theory.proofs.Tests.{and_left}
use Rattle.theory.proofs.Declared.{Declared, predicate_of→}
use Rattle.syntax.specs.Codes.{equals_code, code_of}
use Rattle.syntax.proofs.Codes.{code_of-word_of}
use Rattle.truth.specs.Steps.{atom_word, atom_terms, AtomLent}
use Rattle.truth.proofs.Stack.{length-values}
use Rattle.truth.proofs.SymbolCells.{cell-within}

module _ {word : ℕ} {bases cells : List ℕ} {s : ℕ} {held : List ℕ} (a : AtomLent word bases cells s held) where
  abbrev g : Signature
  g = a.signature

  abbrev I : Interpretation
  I = interpretation s a.signature cells

  -- the code of the atom's first word
  code_is : (b : Atom) → a.atom ≡ b → code_of (atom_word b) ≡ word
  code_is b q = sym (ap code_of (a.begins ∙ ap atom_word q)) ∙ code_of-word_of word

  declared : (p : ℕ) (ts : Terms) → a.atom ≡ holds p ts → Declared a.signature p predicate (count ts)
  declared p ts q = predicate_of→ g p (count ts) (and_left (predicate_of g p (count ts)) (terms_ok g ts) (ap (atom_ok g) (sym q) ∙ a.ok))

  -- a predicate and its terms
  pub record IsPredicate : Type 0 where
    pub terms : Terms
    pub is : a.atom ≡ holds word terms
    pub values : held ≡ values I a.assignment terms
    pub below : word < length a.signature
    pub arity : length held ≡ (symbol_at a.signature word).arity

  pub is-predicate : (word ≡ equals_code → ⊥) → IsPredicate
  is-predicate e = go a.atom refl
    where
      go : (b : Atom) → a.atom ≡ b → IsPredicate
      go (equal t u) q = absurd (e (sym (code_is (equal t u) q)))
      go (holds p ts) q =
          let k : p ≡ word = code_is (holds p ts) q in
          let v : held ≡ values I a.assignment ts = a.terms ∙ ap (λ (b : Atom). values I a.assignment (atom_terms b)) q in
          record {
            terms = ts;
            is = q ∙ ap (λ (p : ℕ). holds p ts) k;
            values = v;
            below = subst (λ (p : ℕ). p < length g) k (declared p ts q).below;
            arity = ap length v ∙ length-values I a.assignment ts ∙ (declared p ts q).arity ∙ ap (λ (p : ℕ). (symbol_at g p).arity) k;
          }

  -- the cell of a predicate at the values of its terms
  module _ (p : IsPredicate) (c : ℕ) (e : c ≡ get_or bases word 0 + rank s held) where
    pub predicate-cell : c < length cells
    predicate-cell = cell-within a.interprets word p.below held p.arity a.below c e
