-- A sheet's symbols have at most 55,296 propositional variables: 12 functions of 4,096 each and 12 predicates of 512 each.
use Prim.Native.Nat.{ℕ, ◌*◌, ◌≤◌}
use mathlib.Core.Path.{◌≡◌, sym, ap, ◌∙◌}
use mathlib.Core.Bool.{true, ◌&&◌, false≢true}
use mathlib.Core.List.{List, map}
use native.Mathlib.Nat.{mul-le-mul}
use native.Mathlib.Omega.{arith}
use Rattle.theory.specs.Lists.{all, sum}
use Rattle.theory.specs.Syntax.{Kind, function, predicate, is_function, is_predicate, Symbol}
use Rattle.theory.specs.Cells.{table_size}
use Rattle.theory.specs.Propositional.{width, block_size, prop_count}
use Rattle.theory.specs.Refusals.{answer}
use Rattle.theory.specs.Problem.{Problem, read_problem}
use Rattle.theory.specs.WellFormed.{symbol_ok, WellFormed}
use Rattle.theory.proofs.Tests.{and_left, and_right}
use Rattle.theory.proofs.Lists.{all_append, all-and, sum-map-append, sum-within}
use Rattle.theory.proofs.Limits.{table_size-within}
use Rattle.theory.proofs.Parsing.{read_problem-well_formed}

module _ (s : ℕ) (le : s ≤ 8) where
  function-block : (f : Symbol) → (symbol_ok f && is_function f.kind) ≡ true → block_size s f ≤ 4096
  function-block f h =
      omega (arith, mul-le-mul {n₁ = table_size s f} {m₁ = width s f.kind} {n₂ = 512} {m₂ = 8} (table_size-within s f le (and_left (symbol_ok f) (is_function f.kind) h)) (wide f.kind))
    where
      wide : (k : Kind) → width s k ≤ 8
      wide function = le
      wide predicate = omega arith

  predicate-block : (f : Symbol) → (symbol_ok f && is_predicate f.kind) ≡ true → block_size s f ≤ 512
  predicate-block f h = go f.kind (and_right (symbol_ok f) (is_predicate f.kind) h) (table_size-within s f le (and_left (symbol_ok f) (is_predicate f.kind) h))
    where
      go : (k : Kind) → is_predicate k ≡ true → table_size s f ≤ 512 → table_size s f * width s k ≤ 512
      go function e t = absurd (false≢true e)
      go predicate e t = omega arith

-- the theorem
pub most-variables : (sheet : List ℕ) (p : Problem) (s : ℕ) → read_problem sheet ≡ answer p → s ≤ 8 → prop_count s p.symbols ≤ 55296
unfolding prop_count
most-variables sheet p s e le =
    let w : WellFormed p = read_problem-well_formed sheet p e in
    let ok : (all symbol_ok w.functions && all symbol_ok w.predicates) ≡ true = sym (all_append symbol_ok w.functions w.predicates) ∙ ap (all symbol_ok) (sym w.split) ∙ w.symbols-ok in
    let fs : all (λ (f : Symbol). symbol_ok f && is_function f.kind) w.functions ≡ true =
    all-and symbol_ok (λ (f : Symbol). is_function f.kind) w.functions (and_left (all symbol_ok w.functions) (all symbol_ok w.predicates) ok) w.function-kinds in
    let ps : all (λ (f : Symbol). symbol_ok f && is_predicate f.kind) w.predicates ≡ true =
    all-and symbol_ok (λ (f : Symbol). is_predicate f.kind) w.predicates (and_right (all symbol_ok w.functions) (all symbol_ok w.predicates) ok) w.predicate-kinds in
    omega (
      arith,
      ap (λ (g : List Symbol). sum (map (block_size s) g)) w.split,
      sum-map-append (block_size s) w.functions w.predicates,
      sum-within (block_size s) (λ (f : Symbol). symbol_ok f && is_function f.kind) 4096 w.functions (function-block s le) fs,
      sum-within (block_size s) (λ (f : Symbol). symbol_ok f && is_predicate f.kind) 512 w.predicates (predicate-block s le) ps,
      w.function-count,
      w.predicate-count,
    )
