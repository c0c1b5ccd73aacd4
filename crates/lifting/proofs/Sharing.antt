-- Sharing: an equal row is in the table exactly if an equal term is found.
use Prim.Native.Nat.{ℕ, ◌+◌, ◌≤◌, ◌<◌}
use mathlib.Core.Path.{◌≡◌, refl, sym, ap, ◌∙◌, subst}
use mathlib.Core.Bool.{Bool, true, false, cond, false≢true}
use mathlib.Core.List.{List, [], ◌∷◌, ◌++◌, map}
use native.Mathlib.Omega.{arith}
use lib.Dec.{ltb}
use lib.ListN.{length, get_or, take, length-append, length-set, get_or-append}
use lib.Seq.{ext_get_or, length-take-le, get_or-take, get_or-set_same, get_or-set_other, get_or-append_seam}
use borrow.Author.Tests.{le-ltb}
use Rattle.theory.specs.Lists.{all, place_that}
use Rattle.theory.specs.Syntax.{Signature, symbol_at, Term, variable, apply, Terms, count, function_of, term_variables, terms_variables, term_ok, terms_ok}
use Rattle.theory.specs.Flattening.{place_or0, function_terms, all_function_terms, same_term, add_term, variable_for}
use Rattle.theory.specs.Lifted.{within, among, covered, covered_all, is_apply}
use Rattle.theory.proofs.Tests.{iff→≡, ltb-true, ltb-false, ltb-of-<, and_left, and-join}
use Rattle.theory.proofs.Lists.{all-at, all_append, all-imply}
use Rattle.theory.proofs.Finding.{place_that-snoc, any→place_that-none}
use Rattle.theory.proofs.Declared.{function_of→}
use Rattle.theory.proofs.LiftedTerms.{same_term-true, same_term-of-≡, add_terms-adds, add_terms-all, add_terms-different, Place, place, covered-arguments}
use Rattle.theory.proofs.Growing.{variables_for-append, among-grown}
use Rattle.syntax.specs.Signatures.{Small}
use Rattle.lifting.specs.declared.table.Row.{Row}
use Rattle.lifting.specs.declared.table.Table.{Table}
use Rattle.lifting.specs.Places.{place_in, places}
use Rattle.lifting.specs.Rows.{no_row, row_at, same_row, row_of, with_row}
use Rattle.lifting.specs.Lifts.{outer, inner, Holds, Lifts}
use Rattle.lifting.proofs.Rows.{row-function, row-arguments, arguments-row, place_or, same_place}
use Rattle.lifting.proofs.Standing.{length-places, places-inj}

-- the first three numbers of the lists are the same
abbrev pub SameThree : List ℕ → List ℕ → Type 0
SameThree us vs = (j : ℕ) → j < 3 → get_or us j 0 ≡ get_or vs j 0

same-three : (us vs : List ℕ) → length us ≡ length vs → length us ≤ 3 → SameThree us vs → us ≡ vs
same-three us vs e h s = ext_get_or 0 us vs e (λ i l. s i (omega arith))

-- the term f(ts), whose arguments' function terms are found, and the arguments that its row has
module _ (g : Signature) (small : Small g) (xs : List ℕ) (found : List Term) (t : Table) (h : Lifts g xs found t)
    (f : ℕ) (ts : Terms) (ok : term_ok g (apply f ts) ≡ true) (own : within xs (terms_variables ts) ≡ true) (inside : covered_all found ts ≡ true)
    (vs : List ℕ) (same : SameThree vs (places xs found ts)) (room : t.count < 64) where
  abbrev this : Term
  this = apply f ts

  abbrev row : Row
  row = record { function = f; arguments = vs }

  few : count ts ≤ 3
  few =
      let d = function_of→ g f (count ts) (and_left (function_of g f (count ts)) (terms_ok g ts) ok) in
      omega (arith, d.arity, small.arities f d.below)

  -- a function term that is found and has this row is this term
  row-term : (u : Term) → is_apply u ≡ true → term_ok g u ≡ true → within xs (term_variables u) ≡ true → covered found u ≡ true → outer u ≡ f
      → SameThree (places xs found (inner u)) vs → same_term this u ≡ true
  row-term (variable x) a o w c e s = absurd (false≢true a)
  row-term (apply d us) a o w c e s =
      let p = function_of→ g f (count ts) (and_left (function_of g f (count ts)) (terms_ok g ts) ok) in
      let q = function_of→ g d (count us) (and_left (function_of g d (count us)) (terms_ok g us) o) in
      let n : count us ≡ count ts = q.arity ∙ ap (λ (i : ℕ). (symbol_at g i).arity) e ∙ sym p.arity in
      let k : places xs found us ≡ places xs found ts =
      same-three (places xs found us) (places xs found ts) (length-places xs found us ∙ n ∙ sym (length-places xs found ts)) (omega (arith, length-places xs found us, few))
      (λ j l. s j l ∙ same j l) in
      let r : us ≡ ts = places-inj xs found us ts (covered-arguments found d us c) inside w own k in
      same_term-of-≡ this (apply d us) (cc)

  -- row i is its row exactly if the i-th term is it
  row_same : (i : ℕ) → i < length found → same_row (get_or (take t.count t.rows) i no_row) row ≡ same_term this (get_or found i (variable 0))
  row_same i l =
      let u : Term = get_or found i (variable 0) in
      ap (λ (x : Row). same_row x row) (get_or-take t.count t.rows i no_row (omega (arith, h.holds.count)))
      ∙ iff→≡ (same_row (row_at t i) row) (same_term this u)
      (λ e. row-term u (all-at is_apply (variable 0) found i h.applied l) (all-at (term_ok g) (variable 0) found i h.ok l)
      (all-at (λ u. within xs (term_variables u)) (variable 0) found i h.own l) (all-at (covered found) (variable 0) found i h.closed l)
      (sym (h.holds.function i l) ∙ row-function (row_at t i) row e)
      (λ j k. sym (h.holds.argument i j l k) ∙ row-arguments (row_at t i) row e j k))
      (λ e. let r : u ≡ this = sym (same_term-true this u e) in
      arguments-row (row_at t i) row (h.holds.function i l ∙ ap outer r)
      (λ j k. h.holds.argument i j l k ∙ ap (λ (u : Term). get_or (places xs found (inner u)) j 0) r ∙ sym (same j k)))

  -- so the search finds the term's place
  row-place : row_of t row ≡ place_or (length found) (place_that (same_term this) found)
  row-place =
      same_place (λ x. same_row x row) (same_term this) (take t.count t.rows) found no_row (variable 0) (length-take-le t.count t.rows (omega (arith, room, h.holds.rows)) ∙ h.holds.count) row_same

  row_old : (q : Place found this) → row_of t row ≡ q.at
  row_old q = row-place ∙ ap (place_or (length found)) q.found

  row_new : among found this ≡ false → row_of t row ≡ length found
  row_new e = row-place ∙ ap (place_or (length found)) (any→place_that-none (same_term this) found e)

  -- the variable of the row stands for the term
  pub shared-variable : length xs + row_of t row ≡ place_in xs (variable_for (add_term found this) this)
  shared-variable = go (among found this) refl
    where
      go : (b : Bool) → among found this ≡ b → length xs + row_of t row ≡ place_in xs (variable_for (cond b found (found ++ (this ∷ []))) this)
      go true e = let q = place found this e in ap (λ (n : ℕ). length xs + n) (row_old q ∙ sym (ap place_or0 q.found))
      go false e =
          ap (λ (n : ℕ). length xs + n)
          (row_new e ∙ sym (ap place_or0 (place_that-snoc (same_term this) found this (any→place_that-none (same_term this) found e) (same_term-of-≡ this this refl))))

  -- the table with a new row holds the terms with this one
  abbrev more : List Term
  more = found ++ (this ∷ [])

  at_old : (i : ℕ) → i < length found → get_or more i (variable 0) ≡ get_or found i (variable 0)
  at_old i l = get_or-append found (this ∷ []) (variable 0) i l

  at_new : get_or more (length found) (variable 0) ≡ this
  at_new = get_or-append_seam found this [] (variable 0)

  last : (i : ℕ) → i < length more → ltb i (length found) ≡ false → i ≡ length found
  last i l e = omega (arith, ltb-false i (length found) e, length-append found (this ∷ []))

  places-kept : (us : Terms) → covered_all found us ≡ true → places xs more us ≡ places xs found us
  places-kept us c = ap (map (place_in xs)) (variables_for-append found (this ∷ []) us c)

  inner-covered : (u : Term) → covered found u ≡ true → covered_all found (inner u) ≡ true
  inner-covered (variable x) c = refl
  inner-covered (apply d us) c = covered-arguments found d us c

  row-kept : (i : ℕ) → i < length found → row_at (with_row t row) i ≡ row_at t i
  row-kept i l = get_or-set_other t.rows t.count i row no_row (λ q. omega (arith, q, h.holds.count))

  row-added : (i : ℕ) → i ≡ length found → row_at (with_row t row) i ≡ row
  row-added i e = ap (row_at (with_row t row)) (e ∙ sym h.holds.count) ∙ get_or-set_same t.rows t.count row no_row (omega (arith, h.holds.rows))

  function-new : (i : ℕ) → i < length more → (b : Bool) → ltb i (length found) ≡ b → (row_at (with_row t row) i).function ≡ outer (get_or more i (variable 0))
  function-new i l true e =
      let k : i < length found = ltb-true i (length found) e in
      ap (λ (r : Row). r.function) (row-kept i k) ∙ h.holds.function i k ∙ ap outer (sym (at_old i k))
  function-new i l false e =
      let k : i ≡ length found = last i l e in
      ap (λ (r : Row). r.function) (row-added i k) ∙ ap outer (sym (ap (λ (n : ℕ). get_or more n (variable 0)) k ∙ at_new))

  argument-new : (i j : ℕ) → i < length more → j < 3 → (b : Bool) → ltb i (length found) ≡ b
      → get_or (row_at (with_row t row) i).arguments j 0 ≡ get_or (places xs more (inner (get_or more i (variable 0)))) j 0
  argument-new i j l k true e =
      let m : i < length found = ltb-true i (length found) e in
      let u : Term = get_or found i (variable 0) in
      ap (λ (r : Row). get_or r.arguments j 0) (row-kept i m)
      ∙ h.holds.argument i j m k
      ∙ ap (λ (l : List ℕ). get_or l j 0) (sym (places-kept (inner u) (inner-covered u (all-at (covered found) (variable 0) found i h.closed m))))
      ∙ ap (λ (u : Term). get_or (places xs more (inner u)) j 0) (sym (at_old i m))
  argument-new i j l k false e =
      let m : i ≡ length found = last i l e in
      ap (λ (r : Row). get_or r.arguments j 0) (row-added i m)
      ∙ same j k
      ∙ ap (λ (l : List ℕ). get_or l j 0) (sym (places-kept ts inside))
      ∙ ap (λ (u : Term). get_or (places xs more (inner u)) j 0) (sym (ap (λ (n : ℕ). get_or more n (variable 0)) m ∙ at_new))

  new-holds : Holds xs more (with_row t row)
  new-holds =
      record {
        rows = length-set t.rows t.count row ∙ h.holds.rows;
        count = omega (arith, h.holds.count, length-append found (this ∷ []));
        function = λ i l. function-new i l (ltb i (length found)) refl;
        argument = λ i j l k. argument-new i j l k (ltb i (length found)) refl;
      }

  shared-holds : Holds xs (add_term found this) (cond (ltb (row_of t row) t.count) t (with_row t row))
  shared-holds = go (among found this) refl
    where
      go : (b : Bool) → among found this ≡ b → Holds xs (cond b found (found ++ (this ∷ []))) (cond (ltb (row_of t row) t.count) t (with_row t row))
      go true e =
          let q = place found this e in
          subst (λ (b : Bool). Holds xs found (cond b t (with_row t row))) (sym (ltb-of-< (row_of t row) t.count (omega (arith, row_old q, q.below, h.holds.count)))) h.holds
      go false e =
          subst (λ (b : Bool). Holds xs more (cond b t (with_row t row))) (sym (le-ltb (row_of t row) t.count (omega (arith, row_new e, h.holds.count)))) new-holds

  old-covered : all (covered (add_term found this)) found ≡ true
  old-covered = all-imply (covered found) (covered (add_term found this)) found (λ u c. among-grown found (this ∷ []) (function_terms u) c) h.closed

  new-covered : covered (add_term found this) this ≡ true
  new-covered =
      all_append (among (add_term found this)) (all_function_terms ts) (this ∷ [])
      ∙ and-join (all (among (add_term found this)) (all_function_terms ts)) (all (among (add_term found this)) (this ∷ [])) (among-grown found (this ∷ []) (all_function_terms ts) inside)
      (add_terms-adds found (this ∷ []))

  -- and the terms with this one are again such terms
  pub shared-lifts : Lifts g xs (add_term found this) (cond (ltb (row_of t row) t.count) t (with_row t row))
  shared-lifts =
      record {
        holds = shared-holds;
        applied = add_terms-all is_apply found (this ∷ []) h.applied refl;
        ok = add_terms-all (term_ok g) found (this ∷ []) h.ok (and-join (term_ok g this) true ok refl);
        own = add_terms-all (λ u. within xs (term_variables u)) found (this ∷ []) h.own (and-join (within xs (terms_variables ts)) true own refl);
        closed = add_terms-all (covered (add_term found this)) found (this ∷ []) old-covered (and-join (covered (add_term found this) this) true new-covered refl);
        once = add_terms-different found (this ∷ []) h.once;
      }
