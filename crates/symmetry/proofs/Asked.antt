-- Asked: the text that Write leaves when asked says its clauses, and a setting satisfies them exactly if it satisfies those without and obeys.
use Prim.Native.Nat.{ℕ, zero, ◌<◌}
use mathlib.Core.Path.{◌≡◌, refl, sym, ap, ◌∙◌}
use mathlib.Core.Bool.{Bool, true, false, ◌&&◌}
use mathlib.Core.List.{List}
use lib.Dec.{leb}
use Rattle.theory.specs.Lists.{all}
use Rattle.theory.specs.Syntax.{Signature, Clause, clause_ok}
use Rattle.theory.specs.Cells.{is_model}
use Rattle.theory.specs.Propositional.{PropLiteral, prop_count}
use Rattle.theory.specs.PropClauses.{prop_clauses}
use Rattle.theory.specs.Dimacs.{dimacs, clauses_of}
use Rattle.theory.specs.Valuation.{satisfies, satisfies_text, is_valuation, is_functional, read_back}
use Rattle.theory.specs.Refusals.{answer, unplaced}
use Rattle.theory.specs.Problem.{Problem}
use Rattle.theory.specs.Operations.{is_size}
use Rattle.theory.specs.Claims.Counts.{is_numbered}
use Rattle.theory.proofs.Tests.{leb-true, and_left}
use Rattle.theory.proofs.Lists.{all-imply}
use Rattle.theory.proofs.Answers.{unbind, answer-inj, check-true}
use Rattle.theory.proofs.Dimacs.{is_positive, read-dimacs, written-clauses}
use Rattle.theory.proofs.Encoding.{encoding}
use Rattle.naming.specs.NamedOperations.{mode_problem, read_problem_in}
use Rattle.naming.proofs.Naming.{naming}
use Rattle.symmetry.specs.ConstantClauses.{prop_clauses_with}
use Rattle.symmetry.specs.Obeying.{obeys}
use Rattle.symmetry.specs.SymmetricOperations.{written_text_with}
use Rattle.symmetry.specs.Claims.Asked.{Asked}
use Rattle.symmetry.proofs.ConstantClauses.{constant_clauses}
use Rattle.symmetry.proofs.Chains.{content_chain, write_chain, write-chain}
use Rattle.symmetry.proofs.Searched.{Read, read-in, placed-read}

-- the text says its clauses
text_says : (s : ℕ) (g : Signature) (cs : List Clause) → zero < s → all (clause_ok g) cs ≡ true → clauses_of (dimacs (prop_count s g) (prop_clauses_with true s g cs)) ≡ prop_clauses_with true s g cs
text_says s g cs pos ok =
    let v : ℕ = prop_count s g in
    read-dimacs v (prop_clauses_with true s g cs)
    (all-imply (all (is_numbered v)) (all is_positive) (prop_clauses_with true s g cs)
    (λ c h. all-imply (is_numbered v) is_positive c (λ (l : PropLiteral) k. and_left (leb 1 l.number) (leb l.number v) k) h)
    (constant_clauses.numbers s g cs pos ok))

-- a setting satisfies it exactly if it satisfies the text without them, and what it is read back as obeys
satisfied-with : (s : ℕ) (g : Signature) (cs : List Clause) → zero < s → all (clause_ok g) cs ≡ true → (σ : List ℕ) → is_valuation s g σ ≡ true
    → satisfies_text σ (dimacs (prop_count s g) (prop_clauses_with true s g cs)) ≡ (satisfies_text σ (dimacs (prop_count s g) (prop_clauses s g cs)) && obeys s g (read_back s g σ))
unfolding satisfies_text
satisfied-with s g cs pos ok σ h =
    let f : Bool = is_functional s g σ in
    let m : Bool = is_model s g cs (read_back s g σ) in
    let o : Bool = obeys s g (read_back s g σ) in
    ap (satisfies σ) (text_says s g cs pos ok)
    ∙ constant_clauses.used s g cs pos ok σ h
    ∙ assoc f m o
    ∙ ap (λ (b : Bool). b && o) (sym ((encoding s g cs pos ok).satisfying σ h) ∙ ap (satisfies σ) (sym (written-clauses (prop_count s g) s g cs)))
  where
    assoc : (a b c : Bool) → (a && (b && c)) ≡ ((a && b) && c)
    assoc true b c = refl
    assoc false b c = refl

-- the text that Write leaves, and the size that it takes
record Written (named used : Bool) (p : Problem) (size : ℕ) (text : List ℕ) : Type 0 where
  sized : zero < size
  said : dimacs (prop_count size (mode_problem named p).symbols) (prop_clauses_with used size (mode_problem named p).symbols (mode_problem named p).clauses) ≡ text

written : (named used : Bool) (sheet : List ℕ) (p : Problem) (size room : ℕ) (text : List ℕ) → read_problem_in named sheet ≡ answer p → written_text_with named used sheet size room ≡ answer text
    → Written named used p size text
unfolding write_chain content_chain
written named used sheet p size room text read e =
    unbind _ _ text (sym (write-chain named used sheet size room) ∙ e) λ (t : Problem) h₁ e₁.
    unbind _ _ t h₁ λ (a : Problem) k₁ f₁.
    unbind _ _ t f₁ λ (u₁ : Unit {0}) k₂ f₂.
    unbind _ _ t f₂ λ (u₂ : Unit {0}) _ f₃.
    unbind _ _ text e₁ λ (u₃ : Unit {0}) _ e₂.
    let same : p ≡ t = answer-inj p t (sym read ∙ placed-read named sheet a k₁ ∙ f₃) in
    let of : Problem → List ℕ = λ p. dimacs (prop_count size (mode_problem named p).symbols) (prop_clauses_with used size (mode_problem named p).symbols (mode_problem named p).clauses) in
    record {
      sized = leb-true 1 size (and_left (leb 1 size) (leb size 8) (check-true (is_size size) (unplaced 8) u₁ k₂));
      said = ap of same ∙ answer-inj (of t) text e₂;
    }

-- the mode's clauses are over the mode's symbols
mode-ok : (named : Bool) (p : Problem) (s : ℕ) → zero < s → Read p → all (clause_ok (mode_problem named p).symbols) (mode_problem named p).clauses ≡ true
mode-ok false p s pos r = r.sheet.clauses
mode-ok true p s pos r = (naming p s pos r.sheet).clauses

-- the theorem
pub asked : Asked
asked named sheet p size room room⁺ text text⁺ σ read e e⁺ h =
    let w = written named false sheet p size room text read e in
    let w⁺ = written named true sheet p size room⁺ text⁺ read e⁺ in
    let q : Problem = mode_problem named p in
    let pos : zero < size = w.sized in
    ap (satisfies_text σ) (sym w⁺.said)
    ∙ satisfied-with size q.symbols q.clauses pos (mode-ok named p size pos (read-in named sheet p read)) σ h
    ∙ ap (λ (t : List ℕ). satisfies_text σ t && obeys size q.symbols (read_back size q.symbols σ))
    (ap (dimacs (prop_count size q.symbols)) (sym (constant_clauses.not_used size q.symbols q.clauses)) ∙ w.said)
