-- Renaming functions alone: the predicates stay, and limit 7 says the same of a clause.
use Prim.Native.Nat.{ℕ}
use mathlib.Core.Path.{◌≡◌}
use Rattle.theory.specs.Syntax.{Atom, Clause}
use Rattle.theory.specs.Grammar.{clause_words}
use Rattle.theory.proofs.Renamed.{word_count, limits-renamed}
use Rattle.theory.proofs.Renamed as symbols
use Rattle.naming.specs.NamedReading.{is_within}

-- put ρ f for every function f of an atom
abbrev pub renamed_atom : (ℕ → ℕ) → Atom → Atom
renamed_atom ρ a = symbols.renamed_atom ρ (λ p. p) a

-- in a clause
abbrev pub renamed_clause : (ℕ → ℕ) → Clause → Clause
renamed_clause ρ c = symbols.renamed_clause ρ (λ p. p) c

pub within-renamed : (ρ : ℕ → ℕ) → ((f h : ℕ) → ρ f ≡ ρ h → f ≡ h) → (c : Clause) → is_within (renamed_clause ρ c) ≡ is_within c
within-renamed ρ apart c = limits-renamed ρ (λ p. p) apart (clause_words (renamed_clause ρ c)) (clause_words c) c (word_count ρ (λ p. p) c)
