-- What is put together is the flattened clause: the definitions of the lifted terms, then the shallow literals.
use Prim.Native.Nat.{ℕ, suc, ◌+◌, ◌≤◌, ◌<◌}
use mathlib.Core.Path.{◌≡◌, refl, sym, ap, ◌∙◌}
use mathlib.Core.Bool.{true, false, false≢true}
use mathlib.Core.List.{List, [], ◌∷◌, ◌++◌, map, map-append, map-map}
use native.Mathlib.Nat.{add-zero, zero-add}
use native.Mathlib.Omega.{arith}
use lib.ListN.{length, get_or, take}
use Rattle.theory.specs.Lists.{up_from, up_to}
use Rattle.theory.specs.Syntax.{Signature, symbol_at, Term, variable, apply, Clause, count, function_of, variables, term_ok, terms_ok}
use Rattle.theory.specs.Syntax as theory
use Rattle.theory.specs.Flattening.{merged, turned, lifted_terms, FlatVariable, new, variables_for, flat_result, FlatLiteral, term_equals, shallow, definitions, flatten, variable_count}
use Rattle.theory.specs.Lifted.{is_apply}
use Rattle.theory.proofs.Tests.{and_left}
use Rattle.theory.proofs.Lists.{all-at, map-up_from, map-add-up_from, up_from-append}
use Rattle.theory.proofs.Letters.{merged-length}
use Rattle.theory.proofs.Declared.{function_of→}
use Rattle.syntax.specs.declared.words.ClauseWords.{ClauseWords}
use Rattle.syntax.specs.Signatures.{Small}
use Rattle.syntax.specs.Codes.{clause_in}
use Rattle.lifting.specs.declared.table.Row.{Row}
use Rattle.lifting.specs.Rows.{row_at}
use Rattle.lifting.specs.Places.{places}
use Rattle.lifting.specs.Lifts.{outer, inner, Lifts}
use Rattle.lifting.proofs.Sharing.{SameThree}
use Rattle.shallow.specs.declared.literals.Lifting.{Lifting}
use Rattle.shallow.specs.Placed.{placed_variable, placed_literal, placed}
use Rattle.shallow.specs.Literals.{three, literal_in, literal_with}
use Rattle.shallow.specs.Flattenable.{Flattenable}
use Rattle.shallow.specs.Shallow.{Made, ClauseLifted}
use Rattle.shallow.proofs.Written.{arguments-right}
use Rattle.flattening.specs.declared.flat.FlatClause.{FlatClause}
use Rattle.flattening.specs.Flat.{flat_in}
use Rattle.flattening.specs.Assembled.{definition_at, Assemblable, Assembled}

-- literals that are those of the terms ts from number a on
read-definitions : (xs : List ℕ) (lifted : List Term) (f : ℕ → FlatLiteral) (ts : List Term) (a : ℕ)
    → ((i : ℕ) → i < length ts → f (a + i) ≡ placed_literal xs (record { sign = false; atom = term_equals lifted (get_or ts i (variable 0)) (new (a + i)) }))
    → map f (up_from a (length ts)) ≡ map (placed_literal xs) (definitions lifted a ts)
read-definitions xs lifted f [] a h = refl
read-definitions xs lifted f (t ∷ ts) a h =
    let D : ℕ → FlatLiteral = λ n. placed_literal xs (record { sign = false; atom = term_equals lifted t (new n) }) in
    let p : f a ≡ D a = ap f (sym (add-zero a)) ∙ h 0 (omega arith) ∙ ap D (add-zero a) in
    let q : map f (up_from (suc a) (length ts)) ≡ map (placed_literal xs) (definitions lifted (suc a) ts) =
    read-definitions xs lifted f ts (suc a)
    (λ i l. let e : suc a + i ≡ a + suc i = omega arith in
    ap f e ∙ h (suc i) (omega arith) ∙ ap (λ (n : ℕ). placed_literal xs (record { sign = false; atom = term_equals lifted (get_or ts i (variable 0)) (new n) })) (sym e)) in
    ap (λ (u : FlatLiteral). u ∷ map f (up_from (suc a) (length ts))) p ∙ ap (λ (us : List FlatLiteral). D a ∷ us) q

module _ (g : Signature) (small : Small g) (xs : List ℕ) (lifted : List Term) (m : Clause) (l : Lifting) (owned : l.owns ≡ length xs) (lifts : Lifts g xs lifted l.table)
    (made : Made g xs lifted m l) (fit : Assemblable l) (r : FlatClause) (a : Assembled l r) where
  abbrev read : ℕ → FlatLiteral
  read = literal_in g r.literals

  -- the row of a lifted term
  row-right : (i : ℕ) → i < length lifted → (u : Term) → get_or lifted i (variable 0) ≡ u → is_apply u ≡ true → term_ok g u ≡ true
      → literal_with g (definition_at l.table l.owns i) ≡ placed_literal xs (record { sign = false; atom = term_equals lifted u (new i) })
  row-right i h (variable x) e k o = absurd (false≢true k)
  row-right i h (apply f us) e k o =
      let d = function_of→ g f (count us) (and_left (function_of g f (count us)) (terms_ok g us) o) in
      let row : Row = row_at l.table i in
      let F : row.function ≡ f = lifts.holds.function i h ∙ ap outer e in
      let same : SameThree row.arguments (places xs lifted us) =
      λ j b. lifts.holds.argument i j h b ∙ ap (λ (u : Term). get_or (places xs lifted (inner u)) j 0) e in
      ap (λ (n : ℕ). record { sign = false; atom = flat_result n (map new (take (symbol_at g n).arity (three row.arguments))) (new (l.owns + i)) }) F
      ∙ ap (λ (ys : List FlatVariable). record { sign = false; atom = flat_result f ys (new (l.owns + i)) }) (arguments-right g small xs lifted us f row.arguments d.arity same)
      ∙ ap (λ (n : ℕ). record { sign = false; atom = flat_result f (map (placed_variable xs) (variables_for lifted us)) (new (n + i)) }) owned

  definition-right : (i : ℕ) → i < length lifted → read i ≡ placed_literal xs (record { sign = false; atom = term_equals lifted (get_or lifted i (variable 0)) (new i) })
  definition-right i h =
      ap (literal_with g) (a.definition i (omega (arith, lifts.holds.count)))
      ∙ row-right i h (get_or lifted i (variable 0)) refl (all-at is_apply (variable 0) lifted i lifts.applied h) (all-at (term_ok g) (variable 0) lifted i lifts.ok h)

  literal-right : (j : ℕ) → j < l.count → read (l.table.count + j) ≡ literal_in g l.literals j
  literal-right j h = ap (literal_with g) (a.literal j h)

  -- all literals
  pub literals-right : map read (up_to r.count) ≡ map (placed_literal xs) (definitions lifted 0 lifted ++ map (shallow lifted) (map turned m))
  literals-right =
      let t : ℕ = l.table.count in
      let n : ℕ = l.count in
      let z : 0 + t ≡ t + 0 = omega arith in
      let D : ℕ → ℕ → FlatLiteral = λ i n. placed_literal xs (record { sign = false; atom = term_equals lifted (get_or lifted i (variable 0)) (new n) }) in
      let first : map read (up_from 0 t) ≡ map (placed_literal xs) (definitions lifted 0 lifted) =
      ap (λ (k : ℕ). map read (up_from 0 k)) lifts.holds.count
      ∙ read-definitions xs lifted read lifted 0 (λ i h. ap read (zero-add i) ∙ definition-right i h ∙ ap (D i) (sym (zero-add i))) in
      let second : map read (up_from (0 + t) n) ≡ map (placed_literal xs) (map (shallow lifted) (map turned m)) =
      ap (λ (k : ℕ). map read (up_from k n)) z
      ∙ ap (map read) (sym (map-add-up_from t 0 n))
      ∙ map-map read (λ i. t + i) (up_from 0 n)
      ∙ map-up_from (λ i. read (t + i)) (literal_in g l.literals) 0 n (λ i b h. literal-right i (omega arith))
      ∙ made.made
      ∙ sym (map-map (placed_literal xs) (λ (k : theory.Literal). shallow lifted (turned k)) m)
      ∙ ap (map (placed_literal xs)) (sym (map-map (shallow lifted) turned m)) in
      ap (λ (k : ℕ). map read (up_from 0 k)) a.count
      ∙ ap (map read) (sym (up_from-append 0 t n))
      ∙ map-append read (up_from 0 t) (up_from (0 + t) n)
      ∙ ap (λ (us : List FlatLiteral). us ++ map read (up_from (0 + t) n)) first
      ∙ ap (λ (us : List FlatLiteral). map (placed_literal xs) (definitions lifted 0 lifted) ++ us) second
      ∙ sym (map-append (placed_literal xs) (definitions lifted 0 lifted) (map (shallow lifted) (map turned m)))

module _ {arities : List ℕ} {c : ClauseWords} (s : Flattenable arities c) (l : Lifting) (h : ClauseLifted s l) where
  -- the number of variables
  pub variables-right : l.owns + l.table.count ≡ variable_count (flatten (clause_in s.signature c))
  unfolding flatten variable_count
  variables-right = ap (λ (n : ℕ). n + l.table.count) h.owns ∙ ap (λ (n : ℕ). length (variables (merged (clause_in s.signature c))) + n) h.lifts.holds.count

  -- within the limits there is room for all
  pub assemblable : variable_count (flatten (clause_in s.signature c)) ≤ 10 → Assemblable l
  assemblable k =
      record {
        terms = omega (arith, variables-right);
        literals = omega (arith, h.made.count, merged-length (clause_in s.signature c), s.literals);
        few = h.few;
      }

  -- and it is the flattened clause
  pub flattened : Assemblable l → (r : FlatClause) → Assembled l r → flat_in s.signature r ≡ placed (flatten (clause_in s.signature c))
  unfolding flat_in placed flatten variable_count
  flattened fit r a =
      let d : Clause = merged (clause_in s.signature c) in
      let xs : List ℕ = variables d in
      let lifted : List Term = lifted_terms (map turned d) in
      let read : ℕ → FlatLiteral = literal_in s.signature r.literals in
      let n : r.variables ≡ length xs + length lifted = a.variables ∙ ap (λ (n : ℕ). n + l.table.count) h.owns ∙ ap (λ (n : ℕ). length xs + n) h.lifts.holds.count in
      ap (λ (n : ℕ). record { owns = []; news = n; literals = map read (up_to r.count) }) n
      ∙ ap (λ (ls : List FlatLiteral). record { owns = []; news = length xs + length lifted; literals = ls })
      (literals-right s.signature s.small xs lifted d l h.owns h.lifts h.made fit r a)
