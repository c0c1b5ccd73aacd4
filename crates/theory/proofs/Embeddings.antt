-- Embeddings: a map of elements that is one to one and keeps the declared symbols keeps the truth of every clause.
use Prim.Native.Nat.{ℕ, ◌<◌}
use mathlib.Core.Path.{◌≡◌, refl, sym, ap, ap₂, ◌∙◌}
use mathlib.Core.Bool.{true, ◌||◌, beq}
use mathlib.Core.List.{List, [], ◌∷◌, map}
use lib.Dec.{eqb}
use lib.ListN.{length, get_or}
use Rattle.theory.specs.Lists.{all}
use Rattle.theory.specs.Vectors.{AllBelow}
use Rattle.theory.specs.Syntax.{Term, variable, apply, Terms, empty, cons, Atom, equal, holds, Clause, Signature, count, function_of, predicate_of, term_ok, terms_ok, atom_ok, clause_ok}
use Rattle.theory.specs.Truth.{Interpretation, Assignment, value, values, atom_true, clause_true}
use Rattle.theory.specs.Problem.{Problem}
use Rattle.theory.specs.Claims.Flattening.{Closed}
use Rattle.theory.specs.Claims.Settling.{Falsifies}
use Rattle.theory.proofs.Tests.{eqb-true, eqb-of-≡, iff→≡, and_left, and_right}
use Rattle.theory.proofs.Lists.{all-at}
use Rattle.theory.proofs.Flattening.{length-values, value-lt, values-lt}

-- φ sends the elements 0 to s - 1 of I to different elements of J, and keeps every declared symbol
pub record Embedding (g : Signature) (s : ℕ) (I J : Interpretation) (φ : ℕ → ℕ) : Type 0 where
  pub one_to_one : (d e : ℕ) → d < s → e < s → φ d ≡ φ e → d ≡ e
  pub functions : (f : ℕ) (v : List ℕ) → function_of g f (length v) ≡ true → AllBelow s v → φ (I.function f v) ≡ J.function f (map φ v)
  pub relations : (p : ℕ) (v : List ℕ) → predicate_of g p (length v) ≡ true → AllBelow s v → I.relation p v ≡ J.relation p (map φ v)

-- the assignment that gives each variable the element that φ makes of its own
abbrev along : (ℕ → ℕ) → Assignment → Assignment
along φ ρ = λ x. φ (ρ x)

module _ (g : Signature) (s : ℕ) (I J : Interpretation) (φ : ℕ → ℕ) (m : Embedding g s I J φ) (closed : Closed g s I) where
  module _ (ρ : Assignment) (below : (x : ℕ) → ρ x < s) where
    mutual
      keeps-term : (t : Term) → term_ok g t ≡ true → φ (value I ρ t) ≡ value J (along φ ρ) t
      keeps-term (variable x) h = refl
      keeps-term (apply f ts) h =
          let ok : terms_ok g ts ≡ true = and_right (function_of g f (count ts)) (terms_ok g ts) h in
          m.functions f (values I ρ ts) (ap (function_of g f) (length-values g s I closed ρ below ts) ∙ and_left (function_of g f (count ts)) (terms_ok g ts) h)
          (values-lt g s I closed ρ below ts ok)
          ∙ ap (J.function f) (keeps-terms ts ok)

      keeps-terms : (ts : Terms) → terms_ok g ts ≡ true → map φ (values I ρ ts) ≡ values J (along φ ρ) ts
      keeps-terms empty h = refl
      keeps-terms (cons t ts) h =
          ap₂ (λ (d : ℕ) (v : List ℕ). d ∷ v) (keeps-term t (and_left (term_ok g t) (terms_ok g ts) h)) (keeps-terms ts (and_right (term_ok g t) (terms_ok g ts) h))

    -- different elements go to different ones, so an equality is kept
    keeps-eqb : (d e : ℕ) → d < s → e < s → eqb d e ≡ eqb (φ d) (φ e)
    keeps-eqb d e ld le =
        iff→≡ (eqb d e) (eqb (φ d) (φ e)) (λ q. eqb-of-≡ (φ d) (φ e) (ap φ (eqb-true d e q)))
        (λ q. eqb-of-≡ d e (m.one_to_one d e ld le (eqb-true (φ d) (φ e) q)))

    keeps-atom : (a : Atom) → atom_ok g a ≡ true → atom_true I ρ a ≡ atom_true J (along φ ρ) a
    keeps-atom (equal t u) h =
        let okt : term_ok g t ≡ true = and_left (term_ok g t) (term_ok g u) h in
        let oku : term_ok g u ≡ true = and_right (term_ok g t) (term_ok g u) h in
        keeps-eqb (value I ρ t) (value I ρ u) (value-lt g s I closed ρ below t okt) (value-lt g s I closed ρ below u oku)
        ∙ ap₂ eqb (keeps-term t okt) (keeps-term u oku)
    keeps-atom (holds p ts) h =
        let ok : terms_ok g ts ≡ true = and_right (predicate_of g p (count ts)) (terms_ok g ts) h in
        m.relations p (values I ρ ts) (ap (predicate_of g p) (length-values g s I closed ρ below ts) ∙ and_left (predicate_of g p (count ts)) (terms_ok g ts) h)
        (values-lt g s I closed ρ below ts ok)
        ∙ ap (J.relation p) (keeps-terms ts ok)

    -- a clause is as true in J under the elements that φ makes as it is in I
    pub keeps-clause : (c : Clause) → clause_ok g c ≡ true → clause_true I ρ c ≡ clause_true J (along φ ρ) c
    keeps-clause [] h = refl
    keeps-clause (l ∷ c) h =
        ap₂ ◌||◌ (ap (beq l.sign) (keeps-atom l.atom (and_left (atom_ok g l.atom) (clause_ok g c) h)))
        (keeps-clause c (and_right (atom_ok g l.atom) (clause_ok g c) h))

-- what I falsifies with the elements 0 to s - 1, J falsifies with those that they go to
pub falsified-up : (p : Problem) → all (clause_ok p.symbols) p.clauses ≡ true → (s : ℕ) (I : Interpretation) → Closed p.symbols s I
    → (E : ℕ → Type 0) (J : Interpretation) (φ : ℕ → ℕ) → Embedding p.symbols s I J φ → ((d : ℕ) → d < s → E (φ d)) → Falsifies p (λ d. d < s) I → Falsifies p E J
falsified-up p ok s I closed E J φ m into f =
    record {
      clause = f.clause;
      among = f.among;
      assignment = along φ f.assignment;
      elements = λ x. into (f.assignment x) (f.elements x);
      fails =
          sym (keeps-clause p.symbols s I J φ m closed f.assignment f.elements (get_or p.clauses f.clause []) (all-at (clause_ok p.symbols) [] p.clauses f.clause ok f.among))
          ∙ f.fails;
    }
