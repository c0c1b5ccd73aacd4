-- What parts add to I and L, one part more at a time.
use Prim.Native.Nat.{ℕ, zero, suc, ◌+◌, ◌-◌, ◌*◌, ◌/◌, ◌^◌, ◌≤◌, ◌<◌}
use mathlib.Core.Path.{◌≡◌, refl, sym, ap, ◌∙◌, subst}
use mathlib.Core.Bool.{Bool, true, false, cond}
use mathlib.Core.List.{List, [], ◌∷◌, ◌++◌, map, map-append}
use native.Mathlib.Nat.{mul-le-mul, le_trans, pow-le-pow_left, pow-le-pow_right}
use native.Mathlib.Omega.{arith}
use lib.ListN.{length, get_or, take, length-map}
use lib.Seq.{take-suc, take-length}
use Rattle.theory.specs.Lists.{sum, select, up_from, up_to}
use Rattle.theory.specs.Syntax.{is_function, Signature, symbol_at, Clause}
use Rattle.theory.specs.Syntax as theory
use Rattle.theory.specs.Flattening.{flatten, variable_count}
use Rattle.theory.specs.Flattening as flat
use Rattle.theory.specs.PropClauses.{Part, function_part, clause_part, function_places}
use Rattle.theory.proofs.Lists.{sum-map-append, select-append, up_from-append, length-up_from}
use Rattle.theory.proofs.Limits.{flat-literals}
use Rattle.symmetry.specs.ConstantClauses.{constant_places, constant_parts, parts_with, instance_count_with, literal_count_with}
use Rattle.symmetry.proofs.ConstantCounts.{clauses-added, literals-added}
use Rattle.syntax.specs.declared.signature.Symbol.{Symbol}
use Rattle.syntax.specs.declared.limits.Problem.{Problem}
use Rattle.syntax.specs.declared.words.ClauseWords.{ClauseWords}
use Rattle.syntax.specs.Signatures.{max_in_all, kind_of, symbol_in, signature_in, arities_of}
use Rattle.clauses.proofs.Held.{arities-held, small-signature_in}
use Rattle.problem.specs.Problems.{problem_in, Accepted, WordsOf}
use Rattle.shallow.specs.Placed.{placed, placed_literal}
use Rattle.shallow.specs.Literals.{literal_in}
use Rattle.flattening.specs.declared.flat.FlatClause.{FlatClause}
use Rattle.flattening.specs.Flat.{flat_in, WithinLimits}
use Rattle.interpretation.proofs.Ranks.{power-within, table-within}
use Rattle.counts.specs.declared.Counts.{Counts}
use Rattle.counts.specs.Totals.{TotalOf, clauses_of, literals_of, ConstantsTotal}

-- nothing yet
pub none-total : (r : Counts) → r.instances ≡ 0 → r.literals ≡ 0 → TotalOf [] 0 r
none-total r i l = record { instances = i; literals = l; few-instances = omega arith; few-literals = omega arith }

-- some parts after others
pub both-total : (ps qs : List Part) (m n : ℕ) (a b r : Counts) → TotalOf ps m a → TotalOf qs n b
    → r.instances ≡ a.instances + b.instances → r.literals ≡ a.literals + b.literals → TotalOf (ps ++ qs) (m + n) r
both-total ps qs m n a b r p q i l =
    record {
      instances = omega (arith, i, p.instances, q.instances, sum-map-append (λ (x : Part). x.clause_count) ps qs);
      literals = omega (arith, l, p.literals, q.literals, sum-map-append (λ (x : Part). x.literal_count) ps qs);
      few-instances = omega (arith, i, p.few-instances, q.few-instances);
      few-literals = omega (arith, l, p.few-literals, q.few-literals);
    }

pub total-within : (ps : List Part) (m n : ℕ) (r : Counts) → m ≤ n → TotalOf ps m r → TotalOf ps n r
total-within ps m n r h p =
    record {
      instances = p.instances;
      literals = p.literals;
      few-instances = omega (arith, p.few-instances);
      few-literals = omega (arith, p.few-literals);
    }

-- the parts of the functions among the symbols before place i
abbrev pub functions_before : ℕ → Signature → ℕ → List Part
functions_before s g i = map (function_part s g) (select (λ j. is_function (symbol_at g j).kind) (up_to i))

-- what the symbol at place i has
abbrev pub function_at : ℕ → Signature → ℕ → List Part
function_at s g i = map (function_part s g) (select (λ j. is_function (symbol_at g j).kind) (i ∷ []))

functions_more : (s : ℕ) (g : Signature) (i : ℕ) → functions_before s g (i + 1) ≡ functions_before s g i ++ function_at s g i
functions_more s g i =
    let p : ℕ → Bool = λ j. is_function (symbol_at g j).kind in
    let z : 0 + i ≡ i = omega arith in
    ap (λ (l : List ℕ). map (function_part s g) (select p l)) (sym (up_from-append 0 i 1) ∙ ap (λ (k : ℕ). up_to i ++ (k ∷ [])) z)
    ∙ ap (map (function_part s g)) (select-append p (up_to i) (i ∷ []))
    ∙ map-append (function_part s g) (select p (up_to i)) (select p (i ∷ []))

-- one symbol more
pub one_function : (s : ℕ) (g : Signature) (i : ℕ) (a b r : Counts) → TotalOf (functions_before s g i) (i * 2 ^ 15) a → TotalOf (function_at s g i) (2 ^ 15) b
    → r.instances ≡ a.instances + b.instances → r.literals ≡ a.literals + b.literals → TotalOf (functions_before s g (i + 1)) ((i + 1) * 2 ^ 15) r
one_function s g i a b r p q e f =
    subst (λ (ps : List Part). TotalOf ps ((i + 1) * 2 ^ 15) r) (sym (functions_more s g i))
    (total-within (functions_before s g i ++ function_at s g i) (i * 2 ^ 15 + 2 ^ 15) ((i + 1) * 2 ^ 15) r (omega arith)
    (both-total (functions_before s g i) (function_at s g i) (i * 2 ^ 15) (2 ^ 15) a b r p q e f))

-- all symbols
pub all-functions : (s : ℕ) (g : Signature) (i : ℕ) (r : Counts) → i ≡ length g → i ≤ max_in_all → TotalOf (functions_before s g i) (i * 2 ^ 15) r
    → TotalOf (map (function_part s g) (function_places g)) (2 ^ 30) r
all-functions s g i r e h p =
    total-within (map (function_part s g) (function_places g)) (i * 2 ^ 15) (2 ^ 30) r (omega arith) (subst (λ (k : ℕ). TotalOf (functions_before s g k) (i * 2 ^ 15) r) e p)

-- s(s-1) without a difference that may not exist
pub square-less : (s : ℕ) → s * s - s ≡ s * (s - 1)
square-less zero = refl
square-less (suc k) = let e : suc k - 1 ≡ k = omega arith in omega (arith, ap (λ (m : ℕ). suc k * m) e)

pub square-within : (s : ℕ) → s ≤ 8 → s * s ≤ 64
square-within s h = mul-le-mul {n₁ = s} {m₁ = s} {n₂ = 8} {m₂ = 8} h h

pub le-square : (s : ℕ) → s ≤ s * s
le-square zero = omega arith
le-square (suc k) = omega (arith, mul-le-mul {n₁ = 1} {m₁ = suc k} {n₂ = suc k} {m₂ = suc k} (omega arith) (omega arith))

pairs-within : (s : ℕ) → s ≤ 8 → s * (s - 1) ≤ 56
pairs-within s h = mul-le-mul {n₁ = s} {m₁ = s - 1} {n₂ = 8} {m₂ = 7} h (omega arith)

-- a function's clauses, as the code has them
pub function-instances : (s a n : ℕ) → n ≡ s ^ a → n * (1 + (s * s - s) / 2) ≡ s ^ a * (1 + s * (s - 1) / 2)
function-instances s a n e = rw (e, square-less s)

-- they and their literals are few
pub function-few : (s a : ℕ) → s ≤ 8 → a ≤ 3 → s ^ a * (1 + s * (s - 1) / 2) ≤ 2 ^ 15
function-few s a h l =
    omega (arith, mul-le-mul {n₁ = s ^ a} {m₁ = 1 + s * (s - 1) / 2} {n₂ = 512} {m₂ = 29} (table-within s a h l) (omega (arith, pairs-within s h)))

pub function-few-literals : (s a : ℕ) → s ≤ 8 → a ≤ 3 → s ^ (a + 2) ≤ 2 ^ 15
function-few-literals s a h l =
    let p : 8 ^ (a + 2) ≤ 8 ^ 5 = pow-le-pow_right (omega arith) {i = a + 2} {j = 5} (omega arith) in
    le_trans (pow-le-pow_left h (a + 2)) p

-- a symbol's counts are those of its parts
pub symbol-total : (s : ℕ) (g : Signature) (i : ℕ) (sheet : List ℕ) (y : Symbol) (r : Counts) → symbol_at g i ≡ symbol_in sheet y
    → r.instances ≡ cond y.function (s ^ y.arity * (1 + s * (s - 1) / 2)) 0 → r.literals ≡ cond y.function (s ^ (y.arity + 2)) 0
    → r.instances ≤ 2 ^ 15 → r.literals ≤ 2 ^ 15 → TotalOf (function_at s g i) (2 ^ 15) r
unfolding function_part
symbol-total s g i sheet y r e p q few few-l =
    record {
      instances = p ∙ sym (ap (λ (f : theory.Symbol). sum (map (λ (x : Part). x.clause_count) (map (function_part s g) (cond (is_function f.kind) (i ∷ []) [])))) e ∙ instances-of y.function);
      literals = q ∙ sym (ap (λ (f : theory.Symbol). sum (map (λ (x : Part). x.literal_count) (map (function_part s g) (cond (is_function f.kind) (i ∷ []) [])))) e ∙ literals-of y.function);
      few-instances = few;
      few-literals = few-l;
    }
  where
    arity : (symbol_at g i).arity ≡ y.arity
    arity = ap (λ (f : theory.Symbol). f.arity) e

    instances-of : (b : Bool) → sum (map (λ (x : Part). x.clause_count) (map (function_part s g) (cond (is_function (kind_of b)) (i ∷ []) []))) ≡ cond b (s ^ y.arity * (1 + s * (s - 1) / 2)) 0
    instances-of true = omega (arith, ap (λ (a : ℕ). s ^ a * (1 + s * (s - 1) / 2)) arity)
    instances-of false = refl

    literals-of : (b : Bool) → sum (map (λ (x : Part). x.literal_count) (map (function_part s g) (cond (is_function (kind_of b)) (i ∷ []) []))) ≡ cond b (s ^ (y.arity + 2)) 0
    literals-of true = omega (arith, ap (λ (a : ℕ). s ^ (a + 2)) arity)
    literals-of false = refl

-- one number more
sum_more : (f : ℕ → ℕ) (i : ℕ) → sum (map f (up_from 1 (i + 1))) ≡ sum (map f (up_from 1 i)) + f (i + 1)
sum_more f i =
    let e : 1 + i ≡ i + 1 = omega arith in
    ap (λ (l : List ℕ). sum (map f l)) (sym (up_from-append 1 i 1)) ∙ sum-map-append f (up_from 1 i) (up_from (1 + i) 1) ∙ omega (arith, ap f e)

-- no constant yet, and one more
pub no-constant : (s : ℕ) (r : Counts) → r.instances ≡ 0 → r.literals ≡ 0 → ConstantsTotal s 0 r
no-constant s r i l = record { instances = i; literals = l; few-instances = omega arith; few-literals = omega arith }

pub one-constant : (s i : ℕ) (a b r : Counts) → ConstantsTotal s i a → b.instances ≡ clauses_of s (i + 1) → b.literals ≡ literals_of s (i + 1) → b.instances ≤ 2 ^ 9 → b.literals ≤ 2 ^ 9
    → r.instances ≡ a.instances + b.instances → r.literals ≡ a.literals + b.literals → ConstantsTotal s (i + 1) r
one-constant s i a b r p e f few few-l m n =
    record {
      instances = omega (arith, m, p.instances, e, sum_more (clauses_of s) i);
      literals = omega (arith, n, p.literals, f, sum_more (literals_of s) i);
      few-instances = omega (arith, m, p.few-instances, few);
      few-literals = omega (arith, n, p.few-literals, few-l);
    }

-- all constants of a signature
pub constants-total : (s n : ℕ) (g : Signature) (r : Counts) → n ≡ length (constant_places g) → n ≤ max_in_all → ConstantsTotal s n r → TotalOf (constant_parts s g) (2 ^ 15) r
constants-total s n g r e h p =
    record {
      instances = p.instances ∙ ap (λ (k : ℕ). sum (map (clauses_of s) (up_from 1 k))) e ∙ sym (clauses-added s g);
      literals = p.literals ∙ ap (λ (k : ℕ). sum (map (literals_of s) (up_from 1 k))) e ∙ sym (literals-added s g);
      few-instances = omega (arith, p.few-instances);
      few-literals = omega (arith, p.few-literals);
    }

-- a constant's literals are few
pub constant-few : (m i : ℕ) → m ≤ 8 → i ≤ max_in_all → (m - 1) * i ≤ 392
constant-few m i h l = mul-le-mul {n₁ = m - 1} {m₁ = i} {n₂ = 7} {m₂ = 56} (omega arith) l

-- A clause's counts, by its flattened clause.
module _ (g : Signature) (c : Clause) (r : FlatClause) (e : flat_in g r ≡ placed (flatten c)) where
  pub flat-variables : r.variables ≡ variable_count (flatten c)
  unfolding flat_in placed
  flat-variables = ap (λ (f : flat.FlatClause). f.news) e

  flat-count : r.count ≡ length (flatten c).literals
  unfolding flat_in placed
  flat-count =
      sym (length-map (up_to r.count) (literal_in g r.literals) ∙ length-up_from 0 r.count)
      ∙ ap (λ (f : flat.FlatClause). length f.literals) e
      ∙ length-map (flatten c).literals (placed_literal (flatten c).owns)

  module _ (variables : variable_count (flatten c) ≤ 10) (literals : length c ≤ 16) (s : ℕ) (size : s ≤ 8) (n : ℕ) (power : n ≡ s ^ r.variables) where
    few : r.count ≤ 26
    unfolding variable_count
    few = omega (arith, flat-count, flat-literals c)

    few-instances : n ≤ 1073741824
    few-instances = omega (arith, power-within s r.variables size (omega (arith, flat-variables)))

    pub literals-few : n * r.count ≤ 26 * 2 ^ 30
    literals-few = omega (arith, mul-le-mul {n₁ = n} {m₁ = r.count} {n₂ = 1073741824} {m₂ = 26} few-instances few)

    pub clause-total : (d : Clause) → c ≡ d → TotalOf (clause_part s g d ∷ []) (26 * 2 ^ 30) (record { instances = n; literals = n * r.count })
    unfolding clause_part
    clause-total d same =
        let i : n ≡ s ^ variable_count (flatten d) = power ∙ ap (λ (k : ℕ). s ^ k) (flat-variables ∙ ap (λ (c : Clause). variable_count (flatten c)) same) in
        let l : r.count ≡ length (flatten d).literals = flat-count ∙ ap (λ (c : Clause). length (flatten c).literals) same in
        let m : n * r.count ≡ s ^ variable_count (flatten d) * length (flatten d).literals = rw (i, l) in
        record {
          instances = omega (arith, i);
          literals = omega (arith, m);
          few-instances = omega (arith, few-instances);
          few-literals = literals-few;
        }

-- one clause more
pub one-clause : (s : ℕ) (g : Signature) (cs : List Clause) (k : ℕ) (a b r : Counts) → k < length cs
    → TotalOf (map (clause_part s g) (take k cs)) (k * (26 * 2 ^ 30)) a → TotalOf (clause_part s g (get_or cs k []) ∷ []) (26 * 2 ^ 30) b
    → r.instances ≡ a.instances + b.instances → r.literals ≡ a.literals + b.literals
    → TotalOf (map (clause_part s g) (take (k + 1) cs)) ((k + 1) * (26 * 2 ^ 30)) r
one-clause s g cs k a b r h p q e f =
    let n : k + 1 ≡ suc k = omega arith in
    let more : map (clause_part s g) (take (k + 1) cs) ≡ map (clause_part s g) (take k cs) ++ (clause_part s g (get_or cs k []) ∷ []) =
    ap (λ (j : ℕ). map (clause_part s g) (take j cs)) n ∙ ap (map (clause_part s g)) (take-suc cs k [] h) ∙ map-append (clause_part s g) (take k cs) (get_or cs k [] ∷ []) in
    subst (λ (ps : List Part). TotalOf ps ((k + 1) * (26 * 2 ^ 30)) r) (sym more)
    (total-within (map (clause_part s g) (take k cs) ++ (clause_part s g (get_or cs k []) ∷ [])) (k * (26 * 2 ^ 30) + 26 * 2 ^ 30) ((k + 1) * (26 * 2 ^ 30)) r (omega arith)
    (both-total (map (clause_part s g) (take k cs)) (clause_part s g (get_or cs k []) ∷ []) (k * (26 * 2 ^ 30)) (26 * 2 ^ 30) a b r p q e f))

-- all clauses
pub all-clauses : (s : ℕ) (g : Signature) (cs : List Clause) (k : ℕ) (r : Counts) → k ≡ length cs → k ≤ 96 → TotalOf (map (clause_part s g) (take k cs)) (k * (26 * 2 ^ 30)) r
    → TotalOf (map (clause_part s g) cs) (3 * 2 ^ 40 - 1) r
all-clauses s g cs k r e h p =
    total-within (map (clause_part s g) cs) (k * (26 * 2 ^ 30)) (3 * 2 ^ 40 - 1) r (omega arith)
    (subst (λ (ds : List Clause). TotalOf (map (clause_part s g) ds) (k * (26 * 2 ^ 30)) r) (ap (λ (j : ℕ). take j cs) e ∙ take-length cs) p)

-- The clauses of an accepted problem.
module _ (sheet : List ℕ) (p : Problem) (h : Accepted sheet p) where
  -- its words can be flattened
  abbrev pub words-within : (k : ℕ) (w : ClauseWords) (arities : List ℕ) → WordsOf sheet p k w
      → take p.signature.count arities ≡ arities_of (take p.signature.count p.signature.symbols) → WithinLimits arities w
  words-within k w arities o e =
      record {
        clause =
            record {
              signature = signature_in sheet p.signature;
              table = arities-held p.signature h.readable.limited sheet arities e;
              small = small-signature_in p.signature h.readable.limited sheet;
              clause = o.accepted.clause;
              literals = o.accepted.literals;
            };
        variables = o.accepted.variables;
      }

  -- functions, constants and clauses together
  pub problem-total : (s : ℕ) (r : Counts) (m : ℕ)
      → TotalOf (map (function_part s (signature_in sheet p.signature)) (function_places (signature_in sheet p.signature)) ++ (cond p.symmetry (constant_parts s (signature_in sheet p.signature)) [] ++ map (clause_part s (signature_in sheet p.signature)) (problem_in sheet p).clauses)) m r
      → (r.instances ≡ instance_count_with p.symmetry s (problem_in sheet p).symbols (problem_in sheet p).clauses) × (r.literals ≡ literal_count_with p.symmetry s (problem_in sheet p).symbols (problem_in sheet p).clauses)
  unfolding problem_in instance_count_with literal_count_with parts_with
  problem-total s r m t = (t.instances, t.literals)
