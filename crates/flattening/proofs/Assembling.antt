-- A flattened clause put together step by step.
use Prim.Native.Nat.{ℕ, suc, ◌+◌, ◌<◌}
use mathlib.Core.Path.{◌≡◌, refl, sym, ap, ◌∙◌, subst}
use mathlib.Core.Bool.{Bool, true, false}
use native.Mathlib.Nat.{zero-add}
use native.Mathlib.Omega.{arith}
use lib.Dec.{ltb}
use lib.ListN.{length, get_or, set, length-set}
use lib.Seq.{get_or-set_same, get_or-set_other}
use Rattle.theory.specs.Problem.{max_literals, max_variables}
use Rattle.theory.proofs.Tests.{ltb-true, ltb-false}
use Rattle.shallow.specs.declared.literals.Literal.{Literal}
use Rattle.shallow.specs.declared.literals.Lifting.{Lifting}
use Rattle.shallow.specs.Literals.{no_literal}
use Rattle.flattening.specs.declared.flat.FlatClause.{FlatClause}
use Rattle.flattening.specs.Assembled.{empty_flat, definition_at, shallow_at, LiteralsPut, Assembled}

-- what holds of the numbers below i and of i holds of those below suc i
below_suc : (P : ℕ → Type 0) (i : ℕ) → ((k : ℕ) → k < i → P k) → P i → (k : ℕ) → k < suc i → P k
below_suc P i f p k h = go (ltb k i) refl
  where
    go : (b : Bool) → ltb k i ≡ b → P k
    go true e = f k (ltb-true k i e)
    go false e = let q : i ≡ k = omega (arith, ltb-false k i e) in subst P q p

-- none is put
pub put-start : (c : FlatClause) (at : ℕ) (literal : ℕ → Literal) → length c.literals ≡ max_variables + max_literals → LiteralsPut c at 0 literal c
put-start c at literal long = record { long = long; count = refl; variables = refl; written = λ i b. absurd (omega arith); kept = λ k b. refl }

-- one more is
pub put-more : (c : FlatClause) (at i : ℕ) (literal : ℕ → Literal) (r : FlatClause) → LiteralsPut c at i literal r → at + i < max_variables + max_literals
    → LiteralsPut c at (suc i) literal (record { literals = set r.literals (at + i) (literal i); count = r.count; variables = r.variables })
put-more c at i literal r h b =
    let other : (m : ℕ) → (m ≡ at + i → ⊥) → get_or (set r.literals (at + i) (literal i)) m no_literal ≡ get_or r.literals m no_literal =
    λ m d. get_or-set_other r.literals (at + i) m (literal i) no_literal d in
    record {
      long = length-set r.literals (at + i) (literal i) ∙ h.long;
      count = h.count;
      variables = h.variables;
      written =
          below_suc (λ m. get_or (set r.literals (at + i) (literal i)) (at + m) no_literal ≡ literal m) i
          (λ m l. other (at + m) (λ e. omega arith) ∙ h.written m l) (get_or-set_same r.literals (at + i) (literal i) no_literal (omega (arith, h.long)));
      kept = λ m l. other m (λ e. omega arith) ∙ h.kept m l;
    }

empty-count : (count variables : ℕ) → (empty_flat count variables).count ≡ count
unfolding empty_flat
empty-count count variables = refl

empty-variables : (count variables : ℕ) → (empty_flat count variables).variables ≡ variables
unfolding empty_flat
empty-variables count variables = refl

-- the definitions put into an empty clause, then the literals behind them
pub assembled-end : (l : Lifting) (d r : FlatClause)
    → LiteralsPut (empty_flat (l.table.count + l.count) (l.owns + l.table.count)) 0 l.table.count (definition_at l.table l.owns) d
    → LiteralsPut d l.table.count l.count (shallow_at l) r → Assembled l r
assembled-end l d r h k =
    record {
      count = k.count ∙ h.count ∙ empty-count (l.table.count + l.count) (l.owns + l.table.count);
      variables = k.variables ∙ h.variables ∙ empty-variables (l.table.count + l.count) (l.owns + l.table.count);
      definition = λ i b. k.kept i b ∙ ap (λ (j : ℕ). get_or d.literals j no_literal) (sym (zero-add i)) ∙ h.written i b;
      literal = k.written;
    }
