-- A clause's limits do not depend on the numbers of its predicates, so they can be told before all functions of a text are known.
use Prim.Native.Nat.{ℕ, zero, suc, ◌+◌}
use mathlib.Core.Path.{◌≡◌, refl, sym, ap, ◌∙◌}
use mathlib.Core.Bool.{Bool, true, false, ◌&&◌}
use mathlib.Core.Option.{Option, none, some}
use mathlib.Core.List.{List, [], ◌∷◌, map}
use native.Mathlib.Omega.{arith}
use lib.Dec.{leb}
use lib.ListN.{length, length-map, length-append}
use Rattle.theory.specs.Lists.{distinct}
use Rattle.theory.specs.Syntax.{Term, Atom, equal, holds, Literal, Clause, atom_variables, variables}
use Rattle.theory.specs.Grammar.{atom_words, clause_words}
use Rattle.theory.specs.Flattening.{rename_literal, unequal_variables, Unequal, leftmost_at, leftmost, merge_found, merge, merged, turned_atom, turned, to_lift, add_terms, lifted_terms, flatten, variable_count}
use Rattle.theory.specs.Problem.{within_limits}
use Rattle.theory.proofs.Lists.{concat_map-map, concat_map-cong}

-- a literal with the predicate 0 for its own
abbrev pub blank_atom : Atom → Atom
blank_atom (equal t u) = equal t u
blank_atom (holds p ts) = holds 0 ts

abbrev pub blank : Literal → Literal
blank l = record { sign = l.sign; atom = blank_atom l.atom }

abbrev pub skeleton : Clause → Clause
skeleton c = map blank c

-- step 1
unequal-blank : (b : Bool) (a : Atom) → unequal_variables b (blank_atom a) ≡ unequal_variables b a
unequal-blank true a = refl
unequal-blank false (equal t u) = refl
unequal-blank false (holds p ts) = refl

abbrev rest_blank : Option Unequal → Option Unequal
rest_blank none = none
rest_blank (some r) = some (record { x = r.x; y = r.y; rest = skeleton r.rest })

leftmost_at-blank : (l : Literal) (ls : Clause) (o : Option (ℕ × ℕ)) (r : Option Unequal) → leftmost_at (blank l) (skeleton ls) o (rest_blank r) ≡ rest_blank (leftmost_at l ls o r)
leftmost_at-blank l ls (some p) r = refl
leftmost_at-blank l ls none (some r) = refl
leftmost_at-blank l ls none none = refl

leftmost-blank : (c : Clause) → leftmost (skeleton c) ≡ rest_blank (leftmost c)
leftmost-blank [] = refl
leftmost-blank (l ∷ ls) =
    ap (λ (o : Option (ℕ × ℕ)). leftmost_at (blank l) (skeleton ls) o (leftmost (skeleton ls))) (unequal-blank l.sign l.atom)
    ∙ ap (leftmost_at (blank l) (skeleton ls) (unequal_variables l.sign l.atom)) (leftmost-blank ls)
    ∙ leftmost_at-blank l ls (unequal_variables l.sign l.atom) (leftmost ls)

rename-blank : (x y : ℕ) (c : Clause) → map (rename_literal x y) (skeleton c) ≡ skeleton (map (rename_literal x y) c)
rename-blank x y [] = refl
rename-blank x y (l ∷ c) = go l.atom (rename-blank x y c)
  where
    go : (a : Atom) → map (rename_literal x y) (skeleton c) ≡ skeleton (map (rename_literal x y) c)
        → rename_literal x y (blank (record { sign = l.sign; atom = a })) ∷ map (rename_literal x y) (skeleton c) ≡ blank (rename_literal x y (record { sign = l.sign; atom = a })) ∷ skeleton (map (rename_literal x y) c)
    go (equal t u) ih = ap (λ (d : Clause). rename_literal x y (record { sign = l.sign; atom = equal t u }) ∷ d) ih
    go (holds p ts) ih = ap (λ (d : Clause). rename_literal x y (record { sign = l.sign; atom = holds 0 ts }) ∷ d) ih

merge-blank : (n : ℕ) (c : Clause) → merge n (skeleton c) ≡ skeleton (merge n c)
merge-blank zero c = refl
merge-blank (suc n) c = ap (merge_found (merge n) (skeleton c)) (leftmost-blank c) ∙ go (leftmost c) (λ d. merge-blank n d)
  where
    go : (o : Option Unequal) → ((d : Clause) → merge n (skeleton d) ≡ skeleton (merge n d)) → merge_found (merge n) (skeleton c) (rest_blank o) ≡ skeleton (merge_found (merge n) c o)
    go none ih = refl
    go (some r) ih = ap (merge n) (rename-blank r.x r.y r.rest) ∙ ih (map (rename_literal r.x r.y) r.rest)

merged-blank : (c : Clause) → merged (skeleton c) ≡ skeleton (merged c)
unfolding merged
merged-blank c = ap (λ (n : ℕ). merge n (skeleton c)) (length-map c blank) ∙ merge-blank (length c) c

-- variables and lifted terms
variables-blank : (c : Clause) → variables (skeleton c) ≡ variables c
variables-blank c =
    ap distinct (concat_map-map (λ (l : Literal). atom_variables l.atom) blank c ∙ concat_map-cong (λ (l : Literal). atom_variables (blank_atom l.atom)) (λ (l : Literal). atom_variables l.atom) c (λ l. same l.atom))
  where
    same : (a : Atom) → atom_variables (blank_atom a) ≡ atom_variables a
    same (equal t u) = refl
    same (holds p ts) = refl

lifted-blank : (c : Clause) → lifted_terms (map turned (skeleton c)) ≡ lifted_terms (map turned c)
unfolding lifted_terms
lifted-blank c =
    ap (add_terms [])
    (concat_map-map (λ (l : Literal). to_lift l.atom) turned (skeleton c)
    ∙ concat_map-map (λ (l : Literal). to_lift (turned_atom l.atom)) blank c
    ∙ concat_map-cong (λ (l : Literal). to_lift (turned_atom (blank_atom l.atom))) (λ (l : Literal). to_lift (turned_atom l.atom)) c (λ l. same l.atom)
    ∙ sym (concat_map-map (λ (l : Literal). to_lift l.atom) turned c))
  where
    same : (a : Atom) → to_lift (turned_atom (blank_atom a)) ≡ to_lift (turned_atom a)
    same (equal t u) = refl
    same (holds p ts) = refl

count-blank : (c : Clause) → variable_count (flatten (skeleton c)) ≡ variable_count (flatten c)
unfolding variable_count flatten
count-blank c =
    let e : merged (skeleton c) ≡ skeleton (merged c) = merged-blank c in
    ap (λ (m : Clause). length (variables m) + length (lifted_terms (map turned m))) e
    ∙ ap (λ (xs : List ℕ). length xs + length (lifted_terms (map turned (skeleton (merged c))))) (variables-blank (merged c))
    ∙ ap (λ (ts : List Term). length (variables (merged c)) + length ts) (lifted-blank (merged c))

words-blank : (c : Clause) → length (clause_words (skeleton c)) ≡ length (clause_words c)
words-blank [] = refl
words-blank (l ∷ c) =
    let one : length (atom_words (blank_atom l.atom)) ≡ length (atom_words l.atom) = same l.atom in
    let ih : length (clause_words (skeleton c)) ≡ length (clause_words c) = words-blank c in
    ap suc (length-append (atom_words (blank_atom l.atom)) (clause_words (skeleton c)) ∙ omega (arith, one, ih) ∙ sym (length-append (atom_words l.atom) (clause_words c)))
  where
    same : (a : Atom) → length (atom_words (blank_atom a)) ≡ length (atom_words a)
    same (equal t u) = refl
    same (holds p ts) = refl

-- the limits of a clause are those of its skeleton
pub limits-skeleton : (c : Clause) → within_limits (clause_words (skeleton c)) (skeleton c) ≡ within_limits (clause_words c) c
unfolding within_limits
limits-skeleton c =
    ap (λ (n : ℕ). leb n 64 && leb (length (skeleton c)) 16 && leb (variable_count (flatten (skeleton c))) 10) (words-blank c)
    ∙ ap (λ (n : ℕ). leb (length (clause_words c)) 64 && leb n 16 && leb (variable_count (flatten (skeleton c))) 10) (length-map c blank)
    ∙ ap (λ (n : ℕ). leb (length (clause_words c)) 64 && leb (length c) 16 && leb n 10) (count-blank c)

-- clauses with one skeleton have the same limits
pub limits-same : (c d : Clause) → skeleton c ≡ skeleton d → within_limits (clause_words c) c ≡ within_limits (clause_words d) d
limits-same c d e = sym (limits-skeleton c) ∙ ap (λ (k : Clause). within_limits (clause_words k) k) e ∙ limits-skeleton d
