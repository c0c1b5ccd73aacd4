-- An equality step by step: two variables, a variable and a function, a function and a term.
use Prim.Native.Nat.{ℕ, ◌+◌, ◌-◌, ◌≤◌}
use mathlib.Core.Path.{◌≡◌, refl, sym, ap, ◌∙◌, subst}
use mathlib.Core.Bool.{Bool}
use mathlib.Core.List.{List, ◌++◌, map, append-nil}
use native.Mathlib.Omega.{arith}
use lib.ListN.{length, get_or, take, replicate, length-append}
use Rattle.theory.specs.Syntax.{Signature, symbol_at, Term, variable, apply, Terms, equal}
use Rattle.theory.specs.Syntax as theory
use Rattle.theory.specs.Grammar.{letter, term_words, terms_words}
use Rattle.theory.specs.Flattening.{turned_atom, turned, function_terms, all_function_terms, to_lift, add_terms, FlatVariable, own, new, variable_for, variables_for, flat_result, flat_equality, shallow}
use Rattle.theory.proofs.LiftedTerms.{add_terms-adds}
use Rattle.theory.proofs.Growing.{add_terms-append, add_terms-length, all_function_terms-words, variables_for-grown}
use Rattle.lifting.specs.declared.table.Table.{Table}
use Rattle.lifting.specs.declared.terms.Lifted.{Lifted}
use Rattle.lifting.specs.declared.terms.AllLifted.{AllLifted}
use Rattle.lifting.specs.Places.{place_in, places}
use Rattle.lifting.specs.Lifts.{Lifts}
use Rattle.lifting.specs.Reading.{words_from, TermThere, TermLifted, TermsLifted}
use Rattle.lifting.proofs.Words.{words-after, first-after}
use Rattle.lifting.proofs.Steps.{VariableTerm, FunctionTerm, variable-term, letter-lifted, arguments-there}
use Rattle.shallow.specs.declared.literals.Shape.TheVariants.{FunctionResult, VariableEquality}
use Rattle.shallow.specs.declared.literals.Literal.{Literal}
use Rattle.shallow.specs.declared.literals.Lifting.{Lifting}
use Rattle.shallow.specs.Placed.{placed_variable, placed_literal}
use Rattle.shallow.specs.Shallow.{with_literal, EqualityThere, LiteralAdded, EqualityMade}
use Rattle.shallow.specs.Literals.{three, literal_with}
use Rattle.syntax.specs.Codes.{letter_code}
use Rattle.shallow.proofs.Written.{literal-added, arguments-right}

-- a variable is read to its place
own_at : {codes place arities : List ℕ} {owns at : ℕ} {t : Table} (s : TermThere codes place arities owns at t) (h : letter_code ≤ get_or codes at 0) (v : VariableTerm s)
    → get_or place (get_or codes at 0 - letter_code) 0 ≡ place_in s.source.variables (own v.x)
own_at s h v = (letter-lifted s h).variable ∙ ap (λ (u : Term). place_in s.source.variables (variable_for (add_terms s.found (function_terms u)) u)) v.is

module _ {codes place arities : List ℕ} {l : Lifting} {b : Bool} {at : ℕ} (s : EqualityThere codes place arities l b at) where
  abbrev g : Signature
  g = s.source.signature

  abbrev xs : List ℕ
  xs = s.source.variables

  -- the literal of two terms, and the terms found with those lifted from it
  abbrev literal : Term → Term → theory.Literal
  literal u w = record { sign = b; atom = equal u w }

  abbrev more : Term → Term → List Term
  more u w = add_terms s.found (to_lift (turned_atom (equal u w)))

  -- the code's literal is that of two terms that the sides are
  made_of : (u w : Term) → s.left ≡ u → s.right ≡ w → (c : Literal) → literal_with g c ≡ placed_literal xs (shallow (more u w) (turned (literal u w)))
      → (t : Table) → Lifts g xs (more u w) t → (next : ℕ) → next ≡ at + length (term_words u ++ term_words w) → EqualityMade s (with_literal l c t next)
  made_of u w eu ew c right t lifts next e =
      let r : Lifting = with_literal l c t next in
      subst (λ (z : Term). LiteralAdded g xs s.found s.done l (literal z s.right) (at + length (term_words z ++ term_words s.right)) r) (sym eu)
      (subst (λ (z : Term). LiteralAdded g xs s.found s.done l (literal u z) (at + length (term_words u ++ term_words z)) r) (sym ew)
      (subst (λ (n : ℕ). LiteralAdded g xs s.found s.done l (literal u w) n r) e
      (literal-added g s.source.small xs s.found s.done l s.made s.space (literal u w) c right t lifts next)))

  -- the left side
  abbrev pub left_there : TermThere codes place arities l.owns at l.table
  left_there =
      record {
        source = s.source;
        term = s.left;
        ok = s.left-ok;
        own = s.left-own;
        rest = term_words s.right ++ s.rest;
        words = s.words;
        found = s.found;
        lifts = s.lifts;
        room = s.room;
      }

  -- is a variable: the right side stands behind it
  module _ (v : VariableTerm left_there) where
    abbrev pub right_there : TermThere codes place arities l.owns (at + 1) l.table
    right_there =
        record {
          source = s.source;
          term = s.right;
          ok = s.right-ok;
          own = s.right-own;
          rest = s.rest;
          words =
              first-after codes s.source.count s.source.fits at (letter v.x) (term_words s.right ++ s.rest)
              (s.words ∙ ap (λ (u : Term). term_words u ++ (term_words s.right ++ s.rest)) v.is);
          found = s.found;
          lifts = s.lifts;
          room = omega (arith, s.room);
        }

    -- and is a variable too
    pub variables-made : letter_code ≤ get_or codes at 0 → letter_code ≤ get_or codes (at + 1) 0
        → EqualityMade s
        (with_literal l (record { sign = b; shape = VariableEquality (get_or place (get_or codes at 0 - letter_code) 0) (get_or place (get_or codes (at + 1) 0 - letter_code) 0); arguments = replicate 3 0 }) l.table (at + 1 + 1))
    variables-made h k =
        let w = variable-term right_there k in
        made_of (variable v.x) (variable w.x) v.is w.is
        (record { sign = b; shape = VariableEquality (get_or place (get_or codes at 0 - letter_code) 0) (get_or place (get_or codes (at + 1) 0 - letter_code) 0); arguments = replicate 3 0 })
        (ap (λ (i : ℕ). record { sign = b; atom = flat_equality (new i) (new (get_or place (get_or codes (at + 1) 0 - letter_code) 0)) }) (own_at left_there h v)
        ∙ ap (λ (i : ℕ). record { sign = b; atom = flat_equality (new (place_in xs (own v.x))) (new i) }) (own_at right_there k w))
        l.table s.lifts (at + 1 + 1) (omega arith)

    -- or a function, and the equality is turned
    module _ (q : FunctionTerm right_there) (r : AllLifted) (m : Table) (e : TermsLifted (arguments-there right_there q) r m) where
      abbrev f : ℕ
      f = get_or codes (at + 1) 0

      abbrev ts : Terms
      ts = q.arguments

      all : add_terms s.found (all_function_terms ts) ≡ more (variable v.x) (apply f ts)
      all = ap (add_terms s.found) (sym (append-nil (all_function_terms ts)))

      arguments : map new (take (symbol_at g f).arity (three r.variables)) ≡ map (placed_variable xs) (variables_for (more (variable v.x) (apply f ts)) ts)
      arguments =
          arguments-right g s.source.small xs (more (variable v.x) (apply f ts)) ts f r.variables q.arity
          (λ j k. e.variables j k ∙ ap (λ (found : List Term). get_or (places xs found ts) j 0) all)

      pub turned-made : letter_code ≤ get_or codes at 0
          → EqualityMade s
          (with_literal l (record { sign = b; shape = FunctionResult (get_or codes (at + 1) 0) (get_or place (get_or codes at 0 - letter_code) 0); arguments = r.variables }) m r.next)
      turned-made h =
          made_of (variable v.x) (apply f ts) v.is q.is (record { sign = b; shape = FunctionResult f (get_or place (get_or codes at 0 - letter_code) 0); arguments = r.variables })
          (ap (λ (i : ℕ). record { sign = b; atom = flat_result f (map new (take (symbol_at g f).arity (three r.variables))) (new i) }) (own_at left_there h v)
          ∙ ap (λ (ys : List FlatVariable). record { sign = b; atom = flat_result f ys (new (place_in xs (own v.x))) }) arguments)
          m (subst (λ (found : List Term). Lifts g xs found m) all e.lifts) r.next (omega (arith, e.next))

  -- is a function: the right side stands behind its terms
  module _ (p : FunctionTerm left_there) (r : AllLifted) (m : Table) (e : TermsLifted (arguments-there left_there p) r m) where
    abbrev inner : List Term
    inner = add_terms s.found (all_function_terms p.arguments)

    pub second-room : length (add_terms s.found (all_function_terms p.arguments)) ≤ r.next
    second-room = omega (arith, e.next, add_terms-length s.found (all_function_terms p.arguments), all_function_terms-words p.arguments, s.room)

    abbrev pub second-there : TermThere codes place arities l.owns r.next m
    second-there =
        record {
          source = s.source;
          term = s.right;
          ok = s.right-ok;
          own = s.right-own;
          rest = s.rest;
          words =
              ap (words_from codes s.source.count) e.next
              ∙ words-after codes s.source.count s.source.fits (at + 1) (terms_words p.arguments) (term_words s.right ++ s.rest) (arguments-there left_there p).words;
          found = inner;
          lifts = e.lifts;
          room = second-room;
        }

    module _ (y : Lifted) (n : Table) (d : TermLifted second-there y n) where
      abbrev this : Term
      this = apply (get_or codes at 0) p.arguments

      joined : add_terms inner (function_terms s.right) ≡ more this s.right
      joined = sym (add_terms-append s.found (all_function_terms p.arguments) (function_terms s.right))

      standing : map new (take (symbol_at g (get_or codes at 0)).arity (three r.variables)) ≡ map (placed_variable xs) (variables_for (more this s.right) p.arguments)
      standing =
          arguments-right g s.source.small xs (more this s.right) p.arguments (get_or codes at 0) r.variables p.arity
          (λ j k. e.variables j k
          ∙ ap (λ (ys : List FlatVariable). get_or (map (place_in xs) ys) j 0) (sym (variables_for-grown inner (function_terms s.right) p.arguments (add_terms-adds s.found (all_function_terms p.arguments))))
          ∙ ap (λ (found : List Term). get_or (places xs found p.arguments) j 0) joined)

      pub result-made : EqualityMade s (with_literal l (record { sign = b; shape = FunctionResult (get_or codes at 0) y.variable; arguments = r.variables }) n y.next)
      result-made =
          made_of this s.right p.is refl (record { sign = b; shape = FunctionResult (get_or codes at 0) y.variable; arguments = r.variables })
          (ap (λ (i : ℕ). record { sign = b; atom = flat_result (get_or codes at 0) (map new (take (symbol_at g (get_or codes at 0)).arity (three r.variables))) (new i) })
          (d.variable ∙ ap (λ (found : List Term). place_in xs (variable_for found s.right)) joined)
          ∙ ap (λ (ys : List FlatVariable). record { sign = b; atom = flat_result (get_or codes at 0) ys (new (place_in xs (variable_for (more this s.right) s.right))) }) standing)
          n (subst (λ (found : List Term). Lifts g xs found n) joined d.lifts) y.next
          (omega (arith, d.next, e.next, length-append (terms_words p.arguments) (term_words s.right)))
