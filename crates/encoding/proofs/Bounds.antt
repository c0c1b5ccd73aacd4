-- What an accepted problem's clauses need, within the limits: variables, clauses, literals, work, bytes of text.
use Prim.Native.Nat.{ℕ, ◌^◌, ◌≤◌, ◌<◌}
use mathlib.Core.Path.{◌≡◌, sym, ap, ◌∙◌}
use mathlib.Core.Bool.{Bool, true, false, ◌&&◌}
use mathlib.Core.List.{List, map}
use native.Mathlib.Nat.{mul-le-mul}
use native.Mathlib.Omega.{arith}
use lib.Dec.{leb, ltb}
use lib.ListN.{length, take, replicate, length-map, length-replicate}
use Rattle.theory.specs.Lists.{all, sum, up_to, concat_map}
use Rattle.theory.specs.Syntax.{Kind, function, predicate, Symbol, Signature, Term, variable, Clause, clause_ok, symbol_at}
use Rattle.theory.specs.Cells.{table_size}
use Rattle.theory.specs.Flattening.{flatten}
use Rattle.theory.specs.Propositional.{PropClause, width, block_size, prop_count}
use Rattle.theory.specs.Instances.{instances}
use Rattle.theory.specs.PropClauses.{Part, prop_clauses}
use Rattle.theory.specs.Claims.Counts.{is_numbered}
use Rattle.theory.specs.WellFormed.{clause_accepted}
use Rattle.theory.proofs.Tests.{and_left, and_right, and-join, leb-true, ltb-of-<}
use Rattle.theory.proofs.Lists.{all_map, all-imply, sum-within, length-up_from}
use Rattle.theory.proofs.Parts.{tables, all-prop_clauses}
use Rattle.theory.proofs.Limits.{clause-limits}
use Rattle.theory.proofs.Counts.{counts}
use Rattle.symmetry.specs.ConstantClauses.{is_constant, constant_places, constant_parts, prop_clauses_with, instance_count_with, literal_count_with, work_needed_with}
use Rattle.symmetry.proofs.ConstantCounts.{not-used-clauses, not-used-literals, constants-short}
use Rattle.symmetry.proofs.ConstantClauses.{all-with, constant_clauses}
use Rattle.symmetry.proofs.NamedTwins.{constants-with}
use Rattle.syntax.specs.declared.limits.Problem.{Problem}
use Rattle.syntax.specs.Signatures.{symbol_in, signature_in}
use Rattle.clauses.proofs.Held.{count-signature_in}
use Rattle.syntax.proofs.Signatures.{length-signature_in}
use Rattle.shortening.proofs.HelperSymbols.{signature-behind}
use Rattle.shortening.proofs.MoreSymbols.{helpers-behind}
use Rattle.problem.specs.Problems.{sheet_signature, problem_in, Accepted}
use Rattle.propagation.specs.Clauses.{codes}
use Rattle.loading.specs.Filling.{literals, area_end}
use Rattle.loading.proofs.Ready.{area_end-codes}
use Rattle.stream.specs.Literals.{all_codes}
use Rattle.stream.specs.Consuming.{texts}
use Rattle.interpretation.proofs.Ranks.{table-within}
use Rattle.valuations.specs.Numbers.{max_prop_vars}
use Rattle.problem.proofs.Counted.{clauses-accepted}
use Rattle.problem.proofs.ModeProblem.{select-fewer}
use Rattle.encoding.proofs.Lengths.{is_short, instances-short, all_short, short-literals, texts-length}

block_within : (s : ℕ) (f : Symbol) → s ≤ 8 → leb f.arity 3 ≡ true → block_size s f ≤ 4096
block_within s f h e = omega (arith, mul-le-mul {n₁ = table_size s f} {m₁ = width s f.kind} {n₂ = 512} {m₂ = 8} (table-within s f.arity h (leb-true f.arity 3 e)) (wide f.kind))
  where
    wide : (k : Kind) → width s k ≤ 8
    wide function = h
    wide predicate = omega arith

-- what is written is within I and L, with the constant clauses or without
module _ (s : ℕ) (g : Signature) (cs : List Clause) (low : 1 ≤ s) where
  clauses-within : (b : Bool) → length (prop_clauses_with b s g cs) ≤ instance_count_with b s g cs
  clauses-within true = constant_clauses.clauses s g cs low
  clauses-within false = omega (arith, ap (λ (l : List PropClause). length l) (constant_clauses.not_used s g cs), counts.clauses s g cs, not-used-clauses s g cs)

  literals-within : (b : Bool) → sum (map length (prop_clauses_with b s g cs)) ≤ literal_count_with b s g cs
  literals-within true = constant_clauses.literals s g cs low
  literals-within false = omega (arith, ap (λ (l : List PropClause). sum (map length l)) (constant_clauses.not_used s g cs), counts.literals s g cs, not-used-literals s g cs)

  -- and has no number above V
  numbers-within : all (clause_ok g) cs ≡ true → (b : Bool) → all (all (is_numbered (prop_count s g))) (prop_clauses_with b s g cs) ≡ true
  numbers-within ok true = constant_clauses.numbers s g cs low ok
  numbers-within ok false = ap (all (all (is_numbered (prop_count s g)))) (constant_clauses.not_used s g cs) ∙ counts.numbers s g cs low ok

-- short clauses stay short with those of few constants
module _ (s : ℕ) (g : Signature) (cs : List Clause) (high : s ≤ 8) (few : length (constant_places g) ≤ 26) (plain : all is_short (prop_clauses s g cs) ≡ true) where
  short-with : (b : Bool) → all is_short (prop_clauses_with b s g cs) ≡ true
  short-with false = ap (all is_short) (constant_clauses.not_used s g cs) ∙ plain
  short-with true =
      let A : Bool = all is_short (tables s g) in
      let C : Bool = all is_short (concat_map (λ (p : Part). p.clauses) (constant_parts s g)) in
      let I : Bool = all (λ c. all is_short (instances s g (flatten c))) cs in
      let both : (A && I) ≡ true = sym (all-prop_clauses s g is_short cs) ∙ plain in
      all-with s g cs is_short ∙ and-join A (C && I) (and_left A I both) (and-join C I (constants-short s 26 g (omega arith) few) (and_right A I both))

module _ (sheet : List ℕ) (p : Problem) (h : Accepted sheet p) (s : ℕ) (high : s ≤ 8) where
  abbrev g : Signature
  g = (problem_in sheet p).symbols

  abbrev cs : List Clause
  cs = (problem_in sheet p).clauses

  -- all clauses, in written order
  abbrev written : List PropClause
  written = prop_clauses_with p.symmetry s g cs

  -- there are few variables
  pub variables-few : prop_count s g ≤ max_prop_vars
  unfolding prop_count problem_in signature_in
  variables-few =
      let small : all (λ (f : Symbol). leb f.arity 3) g ≡ true =
      all_map (λ (f : Symbol). leb f.arity 3) (symbol_in sheet) (take p.signature.count p.signature.symbols) ∙ h.readable.limited.arities in
      omega (
        arith,
        sum-within (block_size s) (λ (f : Symbol). leb f.arity 3) 4096 g (λ f. block_within s f high) small,
        count-signature_in p.signature h.readable.limited sheet,
        h.readable.limited.count,
      )

  -- each clause is within the limits
  within : all (clause_accepted g) cs ≡ true
  unfolding problem_in
  within = clauses-accepted sheet p h

  -- and over the signature
  pub clauses-over : all (clause_ok g) cs ≡ true
  clauses-over = all-imply (clause_accepted g) (clause_ok g) cs (λ c a. (clause-limits g c a).over) within

  -- helpers are no declared constants
  constants-few : length (constant_places g) ≤ 26
  unfolding problem_in
  constants-few =
      let h₀ : Signature = signature_in sheet (sheet_signature p) in
      let ts : List Term = replicate p.terms.count (variable 0) in
      let same : constant_places g ≡ constant_places h₀ =
      ap constant_places (signature-behind (sheet_signature p) p.terms.count p.signature h.behind sheet ∙ sym (helpers-behind h₀ p.terms.count ts (length-replicate {A = Term} p.terms.count (variable 0))))
      ∙ constants-with h₀ ts in
      omega (
        arith,
        ap (λ (l : List ℕ). length l) same,
        select-fewer (λ i. is_constant (symbol_at h₀ i)) (up_to (length h₀)),
        length-up_from 0 (length h₀),
        length-signature_in sheet (sheet_signature p) (omega (arith, h.readable.limited.held)),
        h.few,
      )

  plain-short : all is_short (prop_clauses s g cs) ≡ true
  plain-short =
      all_short s g cs high
      (all-imply (clause_accepted g) (λ c. all is_short (instances s g (flatten c))) cs (λ c a. instances-short s g (flatten c) (clause-limits g c a).flat-count) within)

  written-short : all is_short written ≡ true
  written-short = short-with s g cs high constants-few plain-short p.symmetry

  pub clauses-short : all (λ (c : PropClause). ltb (length c) 64) written ≡ true
  clauses-short =
      all-imply is_short (λ (c : PropClause). ltb (length c) 64) written (λ c e. ltb-of-< (length c) 64 (omega (arith, leb-true (length c) 26 e))) written-short

  -- they need no more work than is asked for
  pub area-within : 1 ≤ s → area_end (prop_count s g) (all_codes written) ≤ work_needed_with p.symmetry s g cs
  unfolding work_needed_with
  area-within low = omega (arith, area_end-codes (prop_count s g) written, clauses-within s g cs low p.symmetry, literals-within s g cs low p.symmetry)

  module _ (few : instance_count_with p.symmetry s g cs ≤ 1000000) (low : 1 ≤ s) where
    pub clauses-few : length written ≤ 1000000
    clauses-few = omega (arith, clauses-within s g cs low p.symmetry)

    pub literals-few : literals (all_codes written) ≤ 26000000
    literals-few = omega (arith, short-literals written written-short, clauses-few)

    pub area-few : area_end (prop_count s g) (all_codes written) < 2 ^ 32
    area-few = omega (arith, variables-few, clauses-few, literals-few, length-map written codes)

    pub all-numbered : all (all (is_numbered (prop_count s g))) written ≡ true
    all-numbered = numbers-within s g cs low clauses-over p.symmetry

    pub texts-few : length (texts written) < 2 ^ 43
    texts-few = omega (arith, texts-length (prop_count s g) variables-few written written-short all-numbered, clauses-few)
