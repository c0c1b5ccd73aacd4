-- Symbols at other places: with different places for different functions, a clause has as many words, literals and flattened variables as before.
use Prim.Native.Nat.{ℕ, zero, suc, ◌+◌}
use mathlib.Core.Path.{◌≡◌, refl, sym, ap, ◌∙◌}
use mathlib.Core.Bool.{Bool, true, false, cond, ◌&&◌}
use mathlib.Core.Option.{Option, none, some}
use mathlib.Core.List.{List, [], ◌∷◌, ◌++◌, map, map-append}
use native.Mathlib.Omega.{arith}
use lib.Dec.{eqb, leb}
use lib.ListN.{length, length-append, length-map}
use Rattle.theory.specs.Lists.{any, concat_map, distinct}
use Rattle.theory.specs.Syntax.{Term, variable, apply, Terms, empty, cons, Atom, equal, holds, Literal, Clause, term_variables, terms_variables, atom_variables, variables}
use Rattle.theory.specs.Grammar.{Word, term_words, terms_words, atom_words, clause_words}
use Rattle.theory.specs.Flattening.{rename_term, rename_terms, rename_atom, rename_literal, unequal_variables, Unequal, leftmost_at, leftmost, merge_found, merge, merged, turned_atom, turned, function_terms, all_function_terms, to_lift, same_term, same_terms, add_term, add_terms, lifted_terms, flatten, variable_count}
use Rattle.theory.specs.Problem.{within_limits}
use Rattle.theory.proofs.Tests.{eqb-true, eqb_same, iff→≡}
use Rattle.theory.proofs.Lists.{any-map, any-cong, map-concat_map, concat_map-map, concat_map-cong}

-- put ρ f for every function f
abbrev mutual
  pub renamed_term : (ℕ → ℕ) → Term → Term
  renamed_term ρ (variable x) = variable x
  renamed_term ρ (apply f ts) = apply (ρ f) (renamed_terms ρ ts)

  pub renamed_terms : (ℕ → ℕ) → Terms → Terms
  renamed_terms ρ empty = empty
  renamed_terms ρ (cons t ts) = cons (renamed_term ρ t) (renamed_terms ρ ts)

-- in an atom, and σ p for its predicate p
abbrev pub renamed_atom : (ℕ → ℕ) → (ℕ → ℕ) → Atom → Atom
renamed_atom ρ σ (equal t u) = equal (renamed_term ρ t) (renamed_term ρ u)
renamed_atom ρ σ (holds p ts) = holds (σ p) (renamed_terms ρ ts)

-- in a literal
abbrev pub renamed_literal : (ℕ → ℕ) → (ℕ → ℕ) → Literal → Literal
renamed_literal ρ σ l = record { sign = l.sign; atom = renamed_atom ρ σ l.atom }

-- in a clause
abbrev pub renamed_clause : (ℕ → ℕ) → (ℕ → ℕ) → Clause → Clause
renamed_clause ρ σ c = map (renamed_literal ρ σ) c

module _ (ρ σ : ℕ → ℕ) where
  -- Words: as many.
  mutual
    term_words-is : (t : Term) → length (term_words (renamed_term ρ t)) ≡ length (term_words t)
    term_words-is (variable x) = refl
    term_words-is (apply f ts) = ap suc (terms-words ts)

    terms-words : (ts : Terms) → length (terms_words (renamed_terms ρ ts)) ≡ length (terms_words ts)
    terms-words empty = refl
    terms-words (cons t ts) =
        omega (arith, length-append (term_words (renamed_term ρ t)) (terms_words (renamed_terms ρ ts)), length-append (term_words t) (terms_words ts), term_words-is t, terms-words ts)

  atom-words : (a : Atom) → length (atom_words (renamed_atom ρ σ a)) ≡ length (atom_words a)
  atom-words (equal t u) =
      omega (arith, length-append (term_words (renamed_term ρ t)) (term_words (renamed_term ρ u)), length-append (term_words t) (term_words u), term_words-is t, term_words-is u)
  atom-words (holds p ts) = ap suc (terms-words ts)

  pub word_count : (c : Clause) → length (clause_words (renamed_clause ρ σ c)) ≡ length (clause_words c)
  word_count [] = refl
  word_count (l ∷ c) =
      omega (arith, length-append (atom_words (renamed_atom ρ σ l.atom)) (clause_words (renamed_clause ρ σ c)), length-append (atom_words l.atom) (clause_words c), atom-words l.atom, word_count c)

  -- Variables: the same.
  mutual
    term-variables : (t : Term) → term_variables (renamed_term ρ t) ≡ term_variables t
    term-variables (variable x) = refl
    term-variables (apply f ts) = terms-variables ts

    terms-variables : (ts : Terms) → terms_variables (renamed_terms ρ ts) ≡ terms_variables ts
    terms-variables empty = refl
    terms-variables (cons t ts) =
        ap (λ (l : List ℕ). l ++ terms_variables (renamed_terms ρ ts)) (term-variables t) ∙ ap (λ (l : List ℕ). term_variables t ++ l) (terms-variables ts)

  atom-variables : (a : Atom) → atom_variables (renamed_atom ρ σ a) ≡ atom_variables a
  atom-variables (equal t u) =
      ap (λ (l : List ℕ). l ++ term_variables (renamed_term ρ u)) (term-variables t) ∙ ap (λ (l : List ℕ). term_variables t ++ l) (term-variables u)
  atom-variables (holds p ts) = terms-variables ts

  pub clause-variables : (c : Clause) → variables (renamed_clause ρ σ c) ≡ variables c
  clause-variables c =
      ap distinct (concat_map-map (λ (l : Literal). atom_variables l.atom) (renamed_literal ρ σ) c
      ∙ concat_map-cong (λ (l : Literal). atom_variables (renamed_atom ρ σ l.atom)) (λ (l : Literal). atom_variables l.atom) c (λ l. atom-variables l.atom))

  -- Step 1: renaming variables, and with it merging, goes through.
  mutual
    term-renames : (x y : ℕ) (t : Term) → rename_term x y (renamed_term ρ t) ≡ renamed_term ρ (rename_term x y t)
    term-renames x y (variable z) = refl
    term-renames x y (apply f ts) = ap (apply (ρ f)) (terms-rename x y ts)

    terms-rename : (x y : ℕ) (ts : Terms) → rename_terms x y (renamed_terms ρ ts) ≡ renamed_terms ρ (rename_terms x y ts)
    terms-rename x y empty = refl
    terms-rename x y (cons t ts) =
        ap (λ (u : Term). cons u (rename_terms x y (renamed_terms ρ ts))) (term-renames x y t) ∙ ap (cons (renamed_term ρ (rename_term x y t))) (terms-rename x y ts)

  atom-renames : (x y : ℕ) (a : Atom) → rename_atom x y (renamed_atom ρ σ a) ≡ renamed_atom ρ σ (rename_atom x y a)
  atom-renames x y (equal t u) =
      ap (λ (v : Term). equal v (rename_term x y (renamed_term ρ u))) (term-renames x y t) ∙ ap (equal (renamed_term ρ (rename_term x y t))) (term-renames x y u)
  atom-renames x y (holds p ts) = ap (holds (σ p)) (terms-rename x y ts)

  clause-renames : (x y : ℕ) (c : Clause) → map (rename_literal x y) (renamed_clause ρ σ c) ≡ renamed_clause ρ σ (map (rename_literal x y) c)
  clause-renames x y [] = refl
  clause-renames x y (l ∷ c) =
      ap (λ (a : Atom). record { sign = l.sign; atom = a } ∷ map (rename_literal x y) (renamed_clause ρ σ c)) (atom-renames x y l.atom)
      ∙ ap (λ (d : Clause). renamed_literal ρ σ (rename_literal x y l) ∷ d) (clause-renames x y c)

  unequal-same : (b : Bool) (a : Atom) → unequal_variables b (renamed_atom ρ σ a) ≡ unequal_variables b a
  unequal-same true a = refl
  unequal-same false (equal (variable x) (variable y)) = refl
  unequal-same false (equal (variable x) (apply f ts)) = refl
  unequal-same false (equal (apply f ts) u) = refl
  unequal-same false (holds p ts) = refl

  -- the leftmost negative equality, with the rest renamed
  abbrev renamed_unequal : Option Unequal → Option Unequal
  renamed_unequal none = none
  renamed_unequal (some r) = some (record { x = r.x; y = r.y; rest = renamed_clause ρ σ r.rest })

  leftmost_at-renamed : (l : Literal) (c : Clause) (o : Option (ℕ × ℕ)) (r : Option Unequal)
      → leftmost_at (renamed_literal ρ σ l) (renamed_clause ρ σ c) o (renamed_unequal r) ≡ renamed_unequal (leftmost_at l c o r)
  leftmost_at-renamed l c (some p) r = refl
  leftmost_at-renamed l c none (some r) = refl
  leftmost_at-renamed l c none none = refl

  leftmost-renamed : (c : Clause) → leftmost (renamed_clause ρ σ c) ≡ renamed_unequal (leftmost c)
  leftmost-renamed [] = refl
  leftmost-renamed (l ∷ c) =
      ap (λ (o : Option (ℕ × ℕ)). leftmost_at (renamed_literal ρ σ l) (renamed_clause ρ σ c) o (leftmost (renamed_clause ρ σ c))) (unequal-same l.sign l.atom)
      ∙ ap (leftmost_at (renamed_literal ρ σ l) (renamed_clause ρ σ c) (unequal_variables l.sign l.atom)) (leftmost-renamed c)
      ∙ leftmost_at-renamed l c (unequal_variables l.sign l.atom) (leftmost c)

  merge_found-renamed : (n : ℕ) → ((c : Clause) → merge n (renamed_clause ρ σ c) ≡ renamed_clause ρ σ (merge n c)) → (c : Clause) (o : Option Unequal)
      → merge_found (merge n) (renamed_clause ρ σ c) (renamed_unequal o) ≡ renamed_clause ρ σ (merge_found (merge n) c o)
  merge_found-renamed n ih c none = refl
  merge_found-renamed n ih c (some r) = ap (merge n) (clause-renames r.x r.y r.rest) ∙ ih (map (rename_literal r.x r.y) r.rest)

  merge-renamed : (n : ℕ) (c : Clause) → merge n (renamed_clause ρ σ c) ≡ renamed_clause ρ σ (merge n c)
  merge-renamed zero c = refl
  merge-renamed (suc n) c = ap (merge_found (merge n) (renamed_clause ρ σ c)) (leftmost-renamed c) ∙ merge_found-renamed n (merge-renamed n) c (leftmost c)

  merged-renamed : (c : Clause) → merged (renamed_clause ρ σ c) ≡ renamed_clause ρ σ (merged c)
  unfolding merged
  merged-renamed c = ap (λ (n : ℕ). merge n (renamed_clause ρ σ c)) (length-map c (renamed_literal ρ σ)) ∙ merge-renamed (length c) c

  -- Step 2: the terms to lift are renamed.
  turned-renamed : (a : Atom) → turned_atom (renamed_atom ρ σ a) ≡ renamed_atom ρ σ (turned_atom a)
  turned-renamed (equal (variable x) (variable y)) = refl
  turned-renamed (equal (variable x) (apply f ts)) = refl
  turned-renamed (equal (apply f ts) u) = refl
  turned-renamed (holds p ts) = refl

  clause-turned : (c : Clause) → map turned (renamed_clause ρ σ c) ≡ renamed_clause ρ σ (map turned c)
  clause-turned [] = refl
  clause-turned (l ∷ c) =
      ap (λ (a : Atom). record { sign = l.sign; atom = a } ∷ map turned (renamed_clause ρ σ c)) (turned-renamed l.atom)
      ∙ ap (λ (d : Clause). renamed_literal ρ σ (turned l) ∷ d) (clause-turned c)

  mutual
    function_terms-renamed : (t : Term) → function_terms (renamed_term ρ t) ≡ map (renamed_term ρ) (function_terms t)
    function_terms-renamed (variable x) = refl
    function_terms-renamed (apply f ts) =
        ap (λ (l : List Term). l ++ (apply (ρ f) (renamed_terms ρ ts) ∷ [])) (all_function_terms-renamed ts)
        ∙ sym (map-append (renamed_term ρ) (all_function_terms ts) (apply f ts ∷ []))

    all_function_terms-renamed : (ts : Terms) → all_function_terms (renamed_terms ρ ts) ≡ map (renamed_term ρ) (all_function_terms ts)
    all_function_terms-renamed empty = refl
    all_function_terms-renamed (cons t ts) =
        ap (λ (l : List Term). l ++ all_function_terms (renamed_terms ρ ts)) (function_terms-renamed t)
        ∙ ap (λ (l : List Term). map (renamed_term ρ) (function_terms t) ++ l) (all_function_terms-renamed ts)
        ∙ sym (map-append (renamed_term ρ) (function_terms t) (all_function_terms ts))

  to_lift-renamed : (a : Atom) → to_lift (renamed_atom ρ σ a) ≡ map (renamed_term ρ) (to_lift a)
  to_lift-renamed (equal (variable x) u) = refl
  to_lift-renamed (equal (apply f ts) u) =
      ap (λ (l : List Term). l ++ function_terms (renamed_term ρ u)) (all_function_terms-renamed ts)
      ∙ ap (λ (l : List Term). map (renamed_term ρ) (all_function_terms ts) ++ l) (function_terms-renamed u)
      ∙ sym (map-append (renamed_term ρ) (all_function_terms ts) (function_terms u))
  to_lift-renamed (holds p ts) = all_function_terms-renamed ts

  -- Equal terms are those that were equal, where different functions have different places.
  module _ (apart : (f h : ℕ) → ρ f ≡ ρ h → f ≡ h) where
    eqb-renamed : (f h : ℕ) → eqb (ρ f) (ρ h) ≡ eqb f h
    eqb-renamed f h =
        iff→≡ (eqb (ρ f) (ρ h)) (eqb f h) (λ e. ap (eqb f) (sym (apart f h (eqb-true (ρ f) (ρ h) e))) ∙ eqb_same f)
        (λ e. ap (λ (i : ℕ). eqb (ρ f) (ρ i)) (sym (eqb-true f h e)) ∙ eqb_same (ρ f))

    mutual
      same-renamed : (t u : Term) → same_term (renamed_term ρ t) (renamed_term ρ u) ≡ same_term t u
      same-renamed (variable x) (variable y) = refl
      same-renamed (variable x) (apply h us) = refl
      same-renamed (apply f ts) (variable y) = refl
      same-renamed (apply f ts) (apply h us) =
          ap (λ (b : Bool). b && same_terms (renamed_terms ρ ts) (renamed_terms ρ us)) (eqb-renamed f h) ∙ ap (λ (b : Bool). eqb f h && b) (sames-renamed ts us)

      sames-renamed : (ts us : Terms) → same_terms (renamed_terms ρ ts) (renamed_terms ρ us) ≡ same_terms ts us
      sames-renamed empty empty = refl
      sames-renamed empty (cons u us) = refl
      sames-renamed (cons t ts) empty = refl
      sames-renamed (cons t ts) (cons u us) =
          ap (λ (b : Bool). b && same_terms (renamed_terms ρ ts) (renamed_terms ρ us)) (same-renamed t u) ∙ ap (λ (b : Bool). same_term t u && b) (sames-renamed ts us)

    add_term-renamed : (found : List Term) (t : Term) → add_term (map (renamed_term ρ) found) (renamed_term ρ t) ≡ map (renamed_term ρ) (add_term found t)
    add_term-renamed found t =
        ap (λ (b : Bool). cond b (map (renamed_term ρ) found) (map (renamed_term ρ) found ++ (renamed_term ρ t ∷ [])))
        (any-map (same_term (renamed_term ρ t)) (renamed_term ρ) found ∙ any-cong (λ u. same_term (renamed_term ρ t) (renamed_term ρ u)) (same_term t) found (same-renamed t))
        ∙ go (any (same_term t) found)
      where
        go : (b : Bool) → cond b (map (renamed_term ρ) found) (map (renamed_term ρ) found ++ (renamed_term ρ t ∷ [])) ≡ map (renamed_term ρ) (cond b found (found ++ (t ∷ [])))
        go true = refl
        go false = sym (map-append (renamed_term ρ) found (t ∷ []))

    add_terms-renamed : (found ts : List Term) → add_terms (map (renamed_term ρ) found) (map (renamed_term ρ) ts) ≡ map (renamed_term ρ) (add_terms found ts)
    add_terms-renamed found [] = refl
    add_terms-renamed found (t ∷ ts) = ap (λ (l : List Term). add_terms l (map (renamed_term ρ) ts)) (add_term-renamed found t) ∙ add_terms-renamed (add_term found t) ts

    lifted-renamed : (c : Clause) → lifted_terms (renamed_clause ρ σ c) ≡ map (renamed_term ρ) (lifted_terms c)
    unfolding lifted_terms
    lifted-renamed c =
        ap (add_terms []) (concat_map-map (λ (l : Literal). to_lift l.atom) (renamed_literal ρ σ) c
        ∙ concat_map-cong (λ (l : Literal). to_lift (renamed_atom ρ σ l.atom)) (λ (l : Literal). map (renamed_term ρ) (to_lift l.atom)) c (λ l. to_lift-renamed l.atom)
        ∙ sym (map-concat_map (renamed_term ρ) (λ (l : Literal). to_lift l.atom) c))
        ∙ add_terms-renamed [] (concat_map (λ (l : Literal). to_lift l.atom) c)

    -- the flattened clause has as many variables
    count-renamed : (c : Clause) → variable_count (flatten (renamed_clause ρ σ c)) ≡ variable_count (flatten c)
    unfolding flatten variable_count
    count-renamed c =
        let m : merged (renamed_clause ρ σ c) ≡ renamed_clause ρ σ (merged c) = merged-renamed c in
        ap (λ (d : Clause). length (variables d) + length (lifted_terms (map turned d))) m
        ∙ ap (λ (l : List ℕ). length l + length (lifted_terms (map turned (renamed_clause ρ σ (merged c))))) (clause-variables (merged c))
        ∙ ap (λ (d : Clause). length (variables (merged c)) + length (lifted_terms d)) (clause-turned (merged c))
        ∙ ap (λ (l : List Term). length (variables (merged c)) + length l) (lifted-renamed (map turned (merged c)))
        ∙ ap (λ (n : ℕ). length (variables (merged c)) + n) (length-map (lifted_terms (map turned (merged c))) (renamed_term ρ))

    -- and limit 7 says the same of it, with as many words
    pub limits-renamed : (vs ws : List Word) (c : Clause) → length vs ≡ length ws → within_limits vs (renamed_clause ρ σ c) ≡ within_limits ws c
    unfolding within_limits
    limits-renamed vs ws c e =
        ap (λ (n : ℕ). leb n 64 && leb (length (renamed_clause ρ σ c)) 16 && leb (variable_count (flatten (renamed_clause ρ σ c))) 10) e
        ∙ ap (λ (n : ℕ). leb (length ws) 64 && leb n 16 && leb (variable_count (flatten (renamed_clause ρ σ c))) 10) (length-map c (renamed_literal ρ σ))
        ∙ ap (λ (n : ℕ). leb (length ws) 64 && leb (length c) 16 && leb n 10) (count-renamed c)
