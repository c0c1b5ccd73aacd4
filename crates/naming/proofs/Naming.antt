-- Naming: in a model of the mode's problem each helper has its term's value, and so shortened clauses are as true as the clauses.
use Prim.Native.Nat.{ℕ, zero, suc, ◌+◌, ◌<◌}
use mathlib.Core.Path.{◌≡◌, refl, sym, ap, ◌∙◌, subst}
use mathlib.Core.Logic.{◌↔◌, ◌⊎◌, inl, inr}
use mathlib.Core.Bool.{Bool, true, false, cond, ◌||◌, beq, false≢true}
use mathlib.Core.List.{List, [], ◌∷◌, ◌++◌, map}
use native.Mathlib.Nat.{add-zero}
use native.Mathlib.Omega.{arith}
use lib.Dec.{eqb}
use lib.ListN.{length, get_or, take, drop, length-map, length-drop, take-append-drop}
use lib.Seq.{get_or-take, get_or-drop, get_or-append-add, ext_get_or, take_at}
use Rattle.theory.specs.Lists.{all}
use Rattle.theory.specs.Vectors.{rank, AllBelow}
use Rattle.theory.specs.Syntax.{Term, variable, apply, Terms, empty, cons, Atom, equal, holds, Clause, Signature, all_declared, count, function_of, predicate_of, term_ok, terms_ok, atom_ok, clause_ok}
use Rattle.theory.specs.Truth.{Interpretation, Assignment, value, values, atom_true, literal_true, clause_true}
use Rattle.theory.specs.Cells.{cell_count, cell_base, cell, is_interpretation, interpretation}
use Rattle.theory.specs.Grammar.{Word, Reading, term_words, read_words}
use Rattle.theory.specs.Problem.{Problem}
use Rattle.theory.specs.Claims.Truth.{AllValid}
use Rattle.theory.specs.Claims.Flattening.{Closed}
use Rattle.theory.specs.Claims.Least.{ModelCells}
use Rattle.theory.proofs.Tests.{eqb-true, eqb-of-≡, beq-true, and_left, and_right, or_cases, or_left}
use Rattle.theory.proofs.Lists.{all-at, map_at}
use Rattle.theory.proofs.Numbering.{cell_below}
use Rattle.theory.proofs.Declared.{function_of→, predicate_of→}
use Rattle.theory.proofs.Truth.{truth}
use Rattle.theory.specs.Lifted.{among}
use Rattle.theory.proofs.LiftedTerms.{same_term-true, same_term-of-≡}
use Rattle.theory.proofs.Grammar.{term-read}
use Rattle.theory.proofs.Flattening.{value-lt, values-lt}
use Rattle.theory.proofs.Interpretations.{length-interpretation, interpretation-closed}
use Rattle.naming.specs.FixedTerms.{is_fixed, is_nameable, term_named, terms_named, atom_named, named_terms, name_of, short_term, short_terms, short_atom, short_clause, helper_clause, helper_clauses, named_clauses}
use Rattle.naming.specs.NamedProblem.{in_mode, shown_values}
use Rattle.naming.specs.Claims.Naming.{fixed_value, extended, NamingHolds, WordForWord}
use Rattle.naming.proofs.NamedTerms.{fixed-value, named-fixed, named_ok, named-covers, literal-covers}
use Rattle.naming.proofs.ShortClauses.{name-place, covered-first, covered-rest, covered-left, covered-right, atoms_covered, clause_covered, named_clauses-ok}
use Rattle.naming.proofs.Helpers.{with_helpers, shown-with, cell_count-with, prop_count-with, cell_base-declared, cell_base-helper, interpretation-shown, interpretation-with}

-- every clause of two lists
module _ (I : Interpretation) (s : ℕ) where
  all_valid-join : (cs ds : List Clause) → AllValid I s cs → AllValid I s ds → AllValid I s (cs ++ ds)
  all_valid-join [] ds h k = k
  all_valid-join (c ∷ cs) ds h k = (h.0, all_valid-join cs ds h.1 k)

  all_valid-left : (cs ds : List Clause) → AllValid I s (cs ++ ds) → AllValid I s cs
  all_valid-left [] ds h = tt
  all_valid-left (c ∷ cs) ds h = (h.0, all_valid-left cs ds h.1)

  all_valid-right : (cs ds : List Clause) → AllValid I s (cs ++ ds) → AllValid I s ds
  all_valid-right [] ds h = h
  all_valid-right (c ∷ cs) ds h = all_valid-right cs ds h.1

-- Cell values ws of the mode at size s, and what a case shows of them.
module _ (g : Signature) (ts : List Term) (s : ℕ) (pos : zero < s) (ws : List ℕ) (i⁺ : is_interpretation s (with_helpers g ts) ws ≡ true) where
  abbrev n : ℕ
  n = cell_count s g

  abbrev h⁺ : Signature
  h⁺ = with_helpers g ts

  abbrev vs : List ℕ
  vs = take n ws

  abbrev I⁺ : Interpretation
  I⁺ = interpretation s h⁺ ws

  abbrev I : Interpretation
  I = interpretation s g vs

  closed : Closed g s I
  closed = interpretation-closed s g vs (interpretation-shown g ts s ws i⁺)

  -- the cells of declared symbols have the same values
  cell_same : (f : ℕ) (v : List ℕ) → f < length g → cell s g f v < n → get_or ws (cell s h⁺ f v) 0 ≡ get_or vs (cell s g f v) 0
  cell_same f v lt b = ap (λ (c : ℕ). get_or ws (c + rank s v) 0) (cell_base-declared g ts s f lt) ∙ sym (get_or-take n ws (cell s g f v) 0 b)

  function-same : (f : ℕ) (v : List ℕ) → function_of g f (length v) ≡ true → AllBelow s v → I⁺.function f v ≡ I.function f v
  function-same f v o b = let d = function_of→ g f (length v) o in cell_same f v d.below (cell_below s g f v d.below d.arity b)

  relation-same : (p : ℕ) (v : List ℕ) → predicate_of g p (length v) ≡ true → AllBelow s v → I⁺.relation p v ≡ I.relation p v
  relation-same p v o b = let d = predicate_of→ g p (length v) o in ap (λ (x : ℕ). eqb x 1) (cell_same p v d.below (cell_below s g p v d.below d.arity b))

  -- the helper of number j has the value of its own cell
  helper-value : (j : ℕ) → j < length ts → I⁺.function (length g + j) [] ≡ get_or ws (n + j) 0
  helper-value j lt = ap (λ (c : ℕ). get_or ws c 0) (add-zero (cell_base s h⁺ (length g + j)) ∙ cell_base-helper g ts s j lt)

  -- syntax over the sheet's symbols has the same values and truth
  module _ (ρ : Assignment) (below : (x : ℕ) → ρ x < s) where
    length-values : (us : Terms) → length (values I ρ us) ≡ count us
    length-values empty = refl
    length-values (cons t us) = ap suc (length-values us)

    mutual
      value_same : (t : Term) → term_ok g t ≡ true → value I⁺ ρ t ≡ value I ρ t
      value_same (variable x) h = refl
      value_same (apply f us) h =
          let k : terms_ok g us ≡ true = and_right (function_of g f (count us)) (terms_ok g us) h in
          ap (I⁺.function f) (values_same us k)
          ∙ function-same f (values I ρ us) (ap (function_of g f) (length-values us) ∙ and_left (function_of g f (count us)) (terms_ok g us) h) (values-lt g s I closed ρ below us k)

      values_same : (us : Terms) → terms_ok g us ≡ true → values I⁺ ρ us ≡ values I ρ us
      values_same empty h = refl
      values_same (cons t us) h =
          let p : value I⁺ ρ t ≡ value I ρ t = value_same t (and_left (term_ok g t) (terms_ok g us) h) in
          let q : values I⁺ ρ us ≡ values I ρ us = values_same us (and_right (term_ok g t) (terms_ok g us) h) in
          cc

    atom-same : (a : Atom) → atom_ok g a ≡ true → atom_true I⁺ ρ a ≡ atom_true I ρ a
    atom-same (equal t u) h =
        ap (λ (x : ℕ). eqb x (value I⁺ ρ u)) (value_same t (and_left (term_ok g t) (term_ok g u) h))
        ∙ ap (λ (x : ℕ). eqb (value I ρ t) x) (value_same u (and_right (term_ok g t) (term_ok g u) h))
    atom-same (holds p us) h =
        let k : terms_ok g us ≡ true = and_right (predicate_of g p (count us)) (terms_ok g us) h in
        ap (I⁺.relation p) (values_same us k)
        ∙ relation-same p (values I ρ us) (ap (predicate_of g p) (length-values us) ∙ and_left (predicate_of g p (count us)) (terms_ok g us) h) (values-lt g s I closed ρ below us k)

    clause-same : (c : Clause) → clause_ok g c ≡ true → clause_true I⁺ ρ c ≡ clause_true I ρ c
    clause-same [] h = refl
    clause-same (l ∷ c) h =
        ap (λ (b : Bool). beq l.sign b || clause_true I⁺ ρ c) (atom-same l.atom (and_left (atom_ok g l.atom) (clause_ok g c) h))
        ∙ ap (λ (b : Bool). literal_true I ρ l || b) (clause-same c (and_right (atom_ok g l.atom) (clause_ok g c) h))

    -- where each helper has its term's value, shortened syntax has the same values and truth
    module _ (filled : (j : ℕ) → j < length ts → I⁺.function (length g + j) [] ≡ value I⁺ ρ (get_or ts j (variable 0))) where
      name-value : (t : Term) → among ts t ≡ true → value I⁺ ρ (name_of (length g) ts t) ≡ value I⁺ ρ t
      name-value t h =
          let q = name-place g ts t h in
          ap (value I⁺ ρ) q.3 ∙ filled q.0 q.1 ∙ ap (value I⁺ ρ) q.2

      mutual
        short-value : (t : Term) → all (among ts) (term_named t) ≡ true → value I⁺ ρ (short_term (length g) ts t) ≡ value I⁺ ρ t
        short-value (variable x) k = refl
        short-value (apply f us) k = go (is_nameable (apply f us)) k (λ c. short-values us c)
          where
            go : (b : Bool) → all (among ts) (cond b (apply f us ∷ []) (terms_named us)) ≡ true
                → (all (among ts) (terms_named us) ≡ true → values I⁺ ρ (short_terms (length g) ts us) ≡ values I⁺ ρ us)
                → value I⁺ ρ (cond b (name_of (length g) ts (apply f us)) (apply f (short_terms (length g) ts us))) ≡ value I⁺ ρ (apply f us)
            go true c ih = name-value (apply f us) (and_left (among ts (apply f us)) true c)
            go false c ih = ap (I⁺.function f) (ih c)

        short-values : (us : Terms) → all (among ts) (terms_named us) ≡ true → values I⁺ ρ (short_terms (length g) ts us) ≡ values I⁺ ρ us
        short-values empty k = refl
        short-values (cons t us) k =
            let p : value I⁺ ρ (short_term (length g) ts t) ≡ value I⁺ ρ t = short-value t (covered-first g ts t us k) in
            let q : values I⁺ ρ (short_terms (length g) ts us) ≡ values I⁺ ρ us = short-values us (covered-rest g ts t us k) in
            cc

      short_atom-true : (a : Atom) → all (among ts) (atom_named a) ≡ true → atom_true I⁺ ρ (short_atom (length g) ts a) ≡ atom_true I⁺ ρ a
      short_atom-true (equal t u) k =
          ap (λ (x : ℕ). eqb x (value I⁺ ρ (short_term (length g) ts u))) (short-value t (covered-left g ts t u k))
          ∙ ap (λ (x : ℕ). eqb (value I⁺ ρ t) x) (short-value u (covered-right g ts t u k))
      short_atom-true (holds p us) k = ap (I⁺.relation p) (short-values us k)

      short_clause-true : (c : Clause) → atoms_covered g ts c ≡ true → clause_true I⁺ ρ (short_clause (length g) ts c) ≡ clause_true I⁺ ρ c
      short_clause-true [] k = refl
      short_clause-true (l ∷ c) k =
          let here : Bool = all (among ts) (atom_named l.atom) in
          ap (λ (b : Bool). beq l.sign b || clause_true I⁺ ρ (short_clause (length g) ts c)) (short_atom-true l.atom (and_left here (atoms_covered g ts c) k))
          ∙ ap (λ (b : Bool). literal_true I⁺ ρ l || b) (short_clause-true c (and_right here (atoms_covered g ts c) k))

  -- each helper's cell has the value of its term
  abbrev Filled : Type 0
  Filled = (j : ℕ) → j < length ts → get_or ws (n + j) 0 ≡ fixed_value s g vs (get_or ts j (variable 0))

  -- the assignment of the element 0
  abbrev zeros : Assignment
  zeros x = 0

  module _ (terms-ok : all (term_ok g) ts ≡ true) (terms-fixed : all is_fixed ts ≡ true) where
    -- so the helper has it under every assignment
    filled-under : Filled → (ρ : Assignment) (j : ℕ) → j < length ts → I⁺.function (length g + j) [] ≡ value I⁺ ρ (get_or ts j (variable 0))
    filled-under f ρ j lt =
        let t : Term = get_or ts j (variable 0) in
        helper-value j lt ∙ f j lt ∙ sym (value_same zeros (λ x. pos) t (all-at (term_ok g) (variable 0) ts j terms-ok lt))
        ∙ fixed-value I⁺ zeros ρ t (all-at is_fixed (variable 0) ts j terms-fixed lt)

    -- the shortened clauses are valid exactly if the clauses are
    shortened-valid : Filled → (cs : List Clause) → all (clause_ok g) cs ≡ true → all (clause_covered g ts) cs ≡ true → AllValid I⁺ s (map (short_clause (length g) ts) cs) ↔ AllValid I s cs
    shortened-valid f cs ok cov = (down cs ok cov, up cs ok cov)
      where
        same : (c : Clause) → clause_ok g c ≡ true → clause_covered g ts c ≡ true → (ρ : Assignment) → ((x : ℕ) → ρ x < s) → clause_true I⁺ ρ (short_clause (length g) ts c) ≡ clause_true I ρ c
        same c h k ρ below = short_clause-true ρ below (filled-under f ρ) c (literal-covers ts c k) ∙ clause-same ρ below c h

        down : (cs : List Clause) → all (clause_ok g) cs ≡ true → all (clause_covered g ts) cs ≡ true → AllValid I⁺ s (map (short_clause (length g) ts) cs) → AllValid I s cs
        down [] ok cov a = tt
        down (c ∷ cs) ok cov a =
            let h : clause_ok g c ≡ true = and_left (clause_ok g c) (all (clause_ok g) cs) ok in
            let k : clause_covered g ts c ≡ true = and_left (clause_covered g ts c) (all (clause_covered g ts) cs) cov in
            (λ ρ below. sym (same c h k ρ below) ∙ a.0 ρ below, down cs (and_right (clause_ok g c) (all (clause_ok g) cs) ok) (and_right (clause_covered g ts c) (all (clause_covered g ts) cs) cov) a.1)

        up : (cs : List Clause) → all (clause_ok g) cs ≡ true → all (clause_covered g ts) cs ≡ true → AllValid I s cs → AllValid I⁺ s (map (short_clause (length g) ts) cs)
        up [] ok cov a = tt
        up (c ∷ cs) ok cov a =
            let h : clause_ok g c ≡ true = and_left (clause_ok g c) (all (clause_ok g) cs) ok in
            let k : clause_covered g ts c ≡ true = and_left (clause_covered g ts c) (all (clause_covered g ts) cs) cov in
            (λ ρ below. same c h k ρ below ∙ a.0 ρ below, up cs (and_right (clause_ok g c) (all (clause_ok g) cs) ok) (and_right (clause_covered g ts c) (all (clause_covered g ts) cs) cov) a.1)

    -- a helper's own clause is true exactly if it has its term's value
    helper-true : (ρ : Assignment) (i : ℕ) (t : Term) → clause_true I⁺ ρ (helper_clause i t) ≡ true → I⁺.function i [] ≡ value I⁺ ρ t
    helper-true ρ i t h = go (or_cases (beq true b) false h)
      where
        b : Bool
        b = eqb (I⁺.function i []) (value I⁺ ρ t)

        go : (beq true b ≡ true) ⊎ (false ≡ true) → I⁺.function i [] ≡ value I⁺ ρ t
        go (inl k) = eqb-true (I⁺.function i []) (value I⁺ ρ t) (sym (beq-true b) ∙ k)
        go (inr k) = absurd (false≢true k)

    true-helper : (ρ : Assignment) (i : ℕ) (t : Term) → I⁺.function i [] ≡ value I⁺ ρ t → clause_true I⁺ ρ (helper_clause i t) ≡ true
    true-helper ρ i t e =
        let b : Bool = eqb (I⁺.function i []) (value I⁺ ρ t) in
        or_left (beq true b) false (beq-true b ∙ eqb-of-≡ (I⁺.function i []) (value I⁺ ρ t) e)

    -- the helpers' clauses from place i on
    helpers-true : (us : List Term) (i : ℕ) → AllValid I⁺ s (helper_clauses i us) → (j : ℕ) → j < length us → I⁺.function (i + j) [] ≡ value I⁺ zeros (get_or us j (variable 0))
    helpers-true [] i a j lt = absurd (omega arith)
    helpers-true (u ∷ us) i a zero lt = ap (λ (m : ℕ). I⁺.function m []) (add-zero i) ∙ helper-true zeros i u (a.0 zeros (λ x. pos))
    helpers-true (u ∷ us) i a (suc j) lt =
        let e : i + suc j ≡ suc i + j = omega arith in
        ap (λ (m : ℕ). I⁺.function m []) e ∙ helpers-true us (suc i) a.1 j (omega arith)

    true-helpers : (us : List Term) (i : ℕ) → ((ρ : Assignment) (j : ℕ) → j < length us → I⁺.function (i + j) [] ≡ value I⁺ ρ (get_or us j (variable 0))) → AllValid I⁺ s (helper_clauses i us)
    true-helpers [] i f = tt
    true-helpers (u ∷ us) i f = (
      λ ρ below. true-helper ρ i u (ap (λ (m : ℕ). I⁺.function m []) (sym (add-zero i)) ∙ f ρ 0 (omega arith)),
      true-helpers us (suc i) (λ ρ j lt. let e : suc i + j ≡ i + suc j = omega arith in ap (λ (m : ℕ). I⁺.function m []) e ∙ f ρ (suc j) (omega arith)),
    )

    -- the helpers' clauses are valid exactly if each helper's cell has the value of its term
    helpers-valid : AllValid I⁺ s (helper_clauses (length g) ts) ↔ Filled
    helpers-valid = (
      λ a j lt.
          let t : Term = get_or ts j (variable 0) in
          sym (helper-value j lt) ∙ helpers-true ts (length g) a j lt ∙ value_same zeros (λ x. pos) t (all-at (term_ok g) (variable 0) ts j terms-ok lt),
      λ f. true-helpers ts (length g) (λ ρ j lt. filled-under f ρ j lt),
    )

    -- the mode's clauses are valid exactly if the helpers' cells are so filled and the sheet's clauses are valid
    pub mode-valid : (cs : List Clause) → all (clause_ok g) cs ≡ true → all (clause_covered g ts) cs ≡ true
        → AllValid I⁺ s (helper_clauses (length g) ts ++ map (short_clause (length g) ts) cs) ↔ (Filled × AllValid I s cs)
    mode-valid cs ok cov = (
      λ a.
          let f : Filled = helpers-valid.0 (all_valid-left I⁺ s (helper_clauses (length g) ts) (map (short_clause (length g) ts) cs) a) in
          (f, (shortened-valid f cs ok cov).0 (all_valid-right I⁺ s (helper_clauses (length g) ts) (map (short_clause (length g) ts) cs) a)),
      λ r. all_valid-join I⁺ s (helper_clauses (length g) ts) (map (short_clause (length g) ts) cs) (helpers-valid.1 r.0) ((shortened-valid r.0 cs ok cov).1 r.1),
    )

    -- filled cells are the values of the terms, in order
    pub filled-values : Filled → ws ≡ vs ++ map (fixed_value s g vs) ts
    filled-values f =
        let len : length ws ≡ n + length ts = length-interpretation s h⁺ ws i⁺ ∙ cell_count-with g ts s in
        let e : length (drop n ws) ≡ length (map (fixed_value s g vs) ts) = length-drop n ws ∙ omega (arith, length-map ts (fixed_value s g vs)) in
        let rest : drop n ws ≡ map (fixed_value s g vs) ts =
        ext_get_or 0 (drop n ws) (map (fixed_value s g vs) ts) e
        (λ j lt. get_or-drop n ws j 0 ∙ f j (omega (arith, length-map ts (fixed_value s g vs))) ∙ sym (map_at (fixed_value s g vs) ts j (variable 0) 0 (omega (arith, length-map ts (fixed_value s g vs))))) in
        sym (take-append-drop n ws) ∙ ap (λ (l : List ℕ). vs ++ l) rest

-- what a case shows are the cells of the sheet's symbols
pub shown-values : (s : ℕ) (p : Problem) (ws : List ℕ) → all_declared p.symbols ≡ true → shown_values s (in_mode p).symbols ws ≡ take (cell_count s p.symbols) ws
unfolding in_mode
shown-values s p ws d = ap (λ (g : Signature). take (cell_count s g) ws) (shown-with p.symbols (named_terms p.clauses) d)

module _ (p : Problem) (s : ℕ) (pos : zero < s) (ok : all (clause_ok p.symbols) p.clauses ≡ true) where
  abbrev g : Signature
  g = p.symbols

  abbrev cs : List Clause
  cs = p.clauses

  abbrev ts : List Term
  ts = named_terms p.clauses

  abbrev q : Problem
  q = in_mode p

  values-below : (vs : List ℕ) → is_interpretation s g vs ≡ true → (us : List Term) → all (term_ok g) us ≡ true → AllBelow s (map (fixed_value s g vs) us)
  values-below vs i [] h = tt
  values-below vs i (u ∷ us) h = (
    value-lt g s (interpretation s g vs) (interpretation-closed s g vs i) (λ x. 0) (λ x. pos) u (and_left (term_ok g u) (all (term_ok g) us) h),
    values-below vs i us (and_right (term_ok g u) (all (term_ok g) us) h),
  )

  take-extended : (vs : List ℕ) → is_interpretation s g vs ≡ true → take (cell_count s g) (extended s p vs) ≡ vs
  unfolding extended
  take-extended vs i = take_at vs (map (fixed_value s g vs) ts) (cell_count s g) (length-interpretation s g vs i)

  extends : (vs : List ℕ) → ModelCells p s vs → ModelCells q s (extended s p vs)
  unfolding extended in_mode named_clauses
  extends vs m =
      let us : List ℕ = map (fixed_value s g vs) ts in
      let ws : List ℕ = vs ++ us in
      let front : take (cell_count s g) ws ≡ vs = take-extended vs m.interpretation in
      let len : length vs ≡ cell_count s g = length-interpretation s g vs m.interpretation in
      let i⁺ : is_interpretation s (with_helpers g ts) ws ≡ true =
      interpretation-with g ts s vs us m.interpretation (length-map ts (fixed_value s g vs)) (values-below vs m.interpretation ts (named_ok g cs ok)) in
      let filled : Filled g ts s pos ws i⁺ =
      λ j lt.
      ap (λ (n : ℕ). get_or ws (n + j) 0) (sym len) ∙ get_or-append-add vs us j 0 ∙ map_at (fixed_value s g vs) ts j (variable 0) 0 lt
      ∙ ap (λ (v : List ℕ). fixed_value s g v (get_or ts j (variable 0))) (sym front) in
      let valid : AllValid (interpretation s g (take (cell_count s g) ws)) s cs =
      subst (λ (v : List ℕ). AllValid (interpretation s g v) s cs) (sym front) ((truth.model s g cs vs pos).0 m.model) in
      record {
        interpretation = i⁺;
        model = (truth.model s (with_helpers g ts) (named_clauses (length g) cs) ws pos).1 ((mode-valid g ts s pos ws i⁺ (named_ok g cs ok) (named-fixed cs) cs ok (named-covers cs)).1 (filled, valid));
      }

  restricts : (ws : List ℕ) → ModelCells q s ws → ModelCells p s (take (cell_count s g) ws) × (extended s p (take (cell_count s g) ws) ≡ ws)
  unfolding extended in_mode named_clauses
  restricts ws m =
      let r =
      (mode-valid g ts s pos ws m.interpretation (named_ok g cs ok) (named-fixed cs) cs ok (named-covers cs)).0
      ((truth.model s (with_helpers g ts) (named_clauses (length g) cs) ws pos).0 m.model) in (
        record {
          interpretation = interpretation-shown g ts s ws m.interpretation;
          model = (truth.model s g cs (take (cell_count s g) ws) pos).1 r.1;
        },
        sym (filled-values g ts s pos ws m.interpretation (named_ok g cs ok) (named-fixed cs) r.0),
      )

-- the theorem
pub naming : NamingHolds
unfolding in_mode
naming p s pos h =
    let ok : all (clause_ok p.symbols) p.clauses ≡ true = h.clauses in
    record {
      symbols = shown-with p.symbols (named_terms p.clauses) h.declared;
      variables = prop_count-with p.symbols (named_terms p.clauses) s;
      clauses = named_clauses-ok p.symbols p.clauses ok;
      extends = λ vs m. (extends p s pos ok vs m, shown-values s p (extended s p vs) h.declared ∙ take-extended p s pos ok vs m.interpretation);
      restricts = λ ws m. subst (λ (v : List ℕ). ModelCells p s v × (extended s p v ≡ ws)) (sym (shown-values s p ws h.declared)) (restricts p s pos ok ws m);
    }

-- equal terms are those written alike
pub word-for-word : WordForWord
word-for-word g t u ht hu = (λ h. ap term_words (same_term-true t u h), λ h. same_term-of-≡ t u (alike h))
  where
    alike : term_words t ≡ term_words u → t ≡ u
    alike h =
        let e = sym (term-read g t [] ht) ∙ ap (λ (ws : List Word). read_words g (ws ++ [])) h ∙ term-read g u [] hu in
        let k : cons t empty ≡ cons u empty = ap (λ (r : Reading). r.terms) e in
        cc
