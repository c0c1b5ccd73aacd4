-- A case of the two sheets made one is a model exactly if its tables for each sheet's symbols are.
use Prim.Native.Nat.{ℕ, zero, suc, ◌≤◌, ◌<◌}
use mathlib.Core.Path.{◌≡◌, refl, sym, ap, ◌∙◌, subst}
use mathlib.Core.Logic.{◌⊎◌, inl, inr, ◌↔◌}
use mathlib.Core.Bool.{Bool, true, false, not, ◌&&◌, ◌||◌, beq}
use mathlib.Core.List.{List, [], ◌∷◌, map}
use lib.Dec.{eqb}
use lib.ListN.{length}
use Rattle.theory.specs.Lists.{any, all, same}
use Rattle.theory.specs.Vectors.{vectors, AllBelow}
use Rattle.theory.specs.Syntax.{function, Signature, Term, variable, apply, Terms, empty, cons, Atom, equal, holds, Clause, count, function_of, predicate_of, term_ok, terms_ok, atom_ok, clause_ok, variables}
use Rattle.theory.specs.Truth.{Interpretation, Assignment, value, values, atom_true, literal_true, clause_true, assign}
use Rattle.theory.specs.Cells.{is_interpretation, interpretation}
use Rattle.theory.specs.Refusals.{Answer, answer}
use Rattle.theory.specs.Problem.{Problem, read_problem}
use Rattle.theory.specs.CaseText.{Case, case_text, read_case}
use Rattle.theory.specs.Operations.{judge_answer}
use Rattle.theory.specs.Claims.Flattening.{Closed}
use Rattle.theory.specs.WellFormed.{NamesDiffer}
use Rattle.theory.proofs.Tests.{true-or-false, iff→≡, and_left, and_right, and-join}
use Rattle.theory.proofs.Lists.{all_map, all_append, same_true}
use Rattle.theory.proofs.Vectors.{all-vectors, vectors-all}
use Rattle.theory.proofs.Declared.{function_of→, predicate_of→}
use Rattle.theory.proofs.PlacedReading.{placed-problem, placed-case}
use Rattle.theory.proofs.Answers.{answer-inj, bind-step}
use Rattle.theory.proofs.Truth.{is_valid, assign-lt, is_model-all}
use Rattle.theory.proofs.Flattening.{values-lt}
use Rattle.theory.proofs.Interpretations.{interpretation-closed}
use Rattle.theory.proofs.Parsing.{read_problem-well_formed}
use Rattle.theory.proofs.CaseText.{read-own-case, read-exactly}
use Rattle.theory.proofs.Renamed.{renamed_term, renamed_terms, clause-variables}
use Rattle.sheet_merging.specs.Sheets.{Sheet}
use Rattle.sheet_merging.specs.Merging.{new_to, joined, merged_sheet, agree}
use Rattle.sheet_merging.specs.Tables.{tables_for}
use Rattle.sheet_merging.specs.Claims.Models.{model_of, Merge, ModelsHold}
use Rattle.sheet_merging.proofs.SheetRead.{clause_at, line_ok, signature, problem_of, Good}
use Rattle.sheet_merging.proofs.Moving.{move_atom, move_clause}
use Rattle.sheet_merging.proofs.Among.{In, in_left, in_right, in-select, select_in, all_in, in_all, any-in}
use Rattle.sheet_merging.proofs.Included.{Included, place_in, line-moved}
use Rattle.sheet_merging.proofs.Merging.{first-included, second-included, merged-differ, merge-exact, merge-read}
use Rattle.sheet_merging.proofs.Tables.{tables-good, tables-cell}

length-values : (I : Interpretation) (ρ : Assignment) (ts : Terms) → length (values I ρ ts) ≡ count ts
length-values I ρ empty = refl
length-values I ρ (cons t ts) = ap suc (length-values I ρ ts)

-- truth of a clause and of the clause moved
module _ (s : ℕ) (g h : Signature) (dh : NamesDiffer h) (dg : NamesDiffer g) (inc : Included h g) (vs : List ℕ) (pos : zero < s) (good : is_interpretation s g vs ≡ true) where
  abbrev π : ℕ → ℕ
  π = place_in h g

  abbrev whole : Interpretation
  whole = interpretation s g vs

  abbrev part : Interpretation
  part = interpretation s h (tables_for s g h vs)

  part-closed : Closed h s part
  part-closed = interpretation-closed s h (tables_for s g h vs) (tables-good s g h dh dg inc vs pos good)

  function_alike : (f : ℕ) (v : List ℕ) → function_of h f (length v) ≡ true → AllBelow s v → whole.function (π f) v ≡ part.function f v
  function_alike f v o b = let d = function_of→ h f (length v) o in sym (tables-cell s g h dh dg inc vs pos good f v d.below d.arity b)

  relation-alike : (p : ℕ) (v : List ℕ) → predicate_of h p (length v) ≡ true → AllBelow s v → whole.relation (π p) v ≡ part.relation p v
  relation-alike p v o b = let d = predicate_of→ h p (length v) o in ap (λ (n : ℕ). eqb n 1) (sym (tables-cell s g h dh dg inc vs pos good p v d.below d.arity b))

  module _ (ρ : Assignment) (below : (x : ℕ) → ρ x < s) where
    mutual
      value-moved : (t : Term) → term_ok h t ≡ true → value whole ρ (renamed_term π t) ≡ value part ρ t
      value-moved (variable x) k = refl
      value-moved (apply f ts) k =
          let kf : function_of h f (count ts) ≡ true = and_left (function_of h f (count ts)) (terms_ok h ts) k in
          let kt : terms_ok h ts ≡ true = and_right (function_of h f (count ts)) (terms_ok h ts) k in
          ap (whole.function (π f)) (values_moved ts kt)
          ∙ function_alike f (values part ρ ts) (ap (function_of h f) (length-values part ρ ts) ∙ kf) (values-lt h s part part-closed ρ below ts kt)

      values_moved : (ts : Terms) → terms_ok h ts ≡ true → values whole ρ (renamed_terms π ts) ≡ values part ρ ts
      values_moved empty k = refl
      values_moved (cons t ts) k =
          ap (λ (d : ℕ). d ∷ values whole ρ (renamed_terms π ts)) (value-moved t (and_left (term_ok h t) (terms_ok h ts) k))
          ∙ ap (λ (v : List ℕ). value part ρ t ∷ v) (values_moved ts (and_right (term_ok h t) (terms_ok h ts) k))

    atom-moved : (a : Atom) → atom_ok h a ≡ true → atom_true whole ρ (move_atom π a) ≡ atom_true part ρ a
    atom-moved (equal t u) k =
        ap (λ (n : ℕ). eqb n (value whole ρ (renamed_term π u))) (value-moved t (and_left (term_ok h t) (term_ok h u) k))
        ∙ ap (λ (n : ℕ). eqb (value part ρ t) n) (value-moved u (and_right (term_ok h t) (term_ok h u) k))
    atom-moved (holds p ts) k =
        let kp : predicate_of h p (count ts) ≡ true = and_left (predicate_of h p (count ts)) (terms_ok h ts) k in
        let kt : terms_ok h ts ≡ true = and_right (predicate_of h p (count ts)) (terms_ok h ts) k in
        ap (whole.relation (π p)) (values_moved ts kt)
        ∙ relation-alike p (values part ρ ts) (ap (predicate_of h p) (length-values part ρ ts) ∙ kp) (values-lt h s part part-closed ρ below ts kt)

    clause-moved : (c : Clause) → clause_ok h c ≡ true → clause_true whole ρ (move_clause π c) ≡ clause_true part ρ c
    clause-moved [] k = refl
    clause-moved (l ∷ c) k =
        ap (λ (b : Bool). beq l.sign b || clause_true whole ρ (move_clause π c)) (atom-moved l.atom (and_left (atom_ok h l.atom) (clause_ok h c) k))
        ∙ ap (λ (b : Bool). literal_true part ρ l || b) (clause-moved c (and_right (atom_ok h l.atom) (clause_ok h c) k))

  -- the clause is true under all values of its variables, here as there
  pub valid-moved : (c : Clause) → clause_ok h c ≡ true → is_valid whole s (move_clause π c) ≡ is_valid part s c
  valid-moved c k =
      let xs : List ℕ = variables c in
      let n : ℕ = length xs in
      ap (λ (ys : List ℕ). all (λ v. clause_true whole (assign ys v) (move_clause π c)) (vectors s (length ys))) (clause-variables π π c)
      ∙ iff→≡ (all (λ v. clause_true whole (assign xs v) (move_clause π c)) (vectors s n)) (all (λ v. clause_true part (assign xs v) c) (vectors s n))
      (λ e. vectors-all s n (λ v. clause_true part (assign xs v) c)
      (λ v l b. sym (clause-moved (assign xs v) (λ x. assign-lt s xs v x pos b) c k) ∙ all-vectors s n (λ v. clause_true whole (assign xs v) (move_clause π c)) e v l b))
      (λ e. vectors-all s n (λ v. clause_true whole (assign xs v) (move_clause π c))
      (λ v l b. clause-moved (assign xs v) (λ x. assign-lt s xs v x pos b) c k ∙ all-vectors s n (λ v. clause_true part (assign xs v) c) e v l b))

  -- so for the lines of a sheet with these symbols
  pub lines-moved : (ls : List (List ℕ)) → all (line_ok h) ls ≡ true → all (λ l. is_valid whole s (clause_at g l)) ls ≡ all (λ l. is_valid part s (clause_at h l)) ls
  lines-moved [] k = refl
  lines-moved (l ∷ ls) k =
      let m = line-moved h g dh dg inc l (and_left (line_ok h l) (all (line_ok h) ls) k) in
      let e : is_valid whole s (clause_at g l) ≡ is_valid part s (clause_at h l) = ap (is_valid whole s) m.clause ∙ valid-moved (clause_at h l) m.over in
      ap (λ (b : Bool). b && all (λ l. is_valid whole s (clause_at g l)) ls) e
      ∙ ap (λ (b : Bool). is_valid part s (clause_at h l) && b) (lines-moved ls (and_right (line_ok h l) (all (line_ok h) ls) k))

-- a test that all lines pass, of two sheets made one
joined-lines : (p : List ℕ → Bool) (xs ys : List (List ℕ)) → all p (joined same xs ys) ≡ (all p xs && all p ys)
joined-lines p xs ys =
    iff→≡ (all p (joined same xs ys)) (all p xs && all p ys)
    (λ e. and-join (all p xs) (all p ys) (in_all p xs (λ x k. all_in p (joined same xs ys) x e (in_left x xs (new_to same xs ys) k))) (in_all p ys (λ y k. second y k e)))
    (λ e. all_append p xs (new_to same xs ys) ∙ and-join (all p xs) (all p (new_to same xs ys)) (and_left (all p xs) (all p ys) e)
    (in_all p (new_to same xs ys) (λ y k. all_in p ys y (and_right (all p xs) (all p ys) e) (in-select (λ y. not (any (same y) xs)) y ys k).0)))
  where
    second : (y : List ℕ) → In y ys → all p (joined same xs ys) ≡ true → p y ≡ true
    second y k e = go (true-or-false (any (same y) xs))
      where
        go : (any (same y) xs ≡ true) ⊎ (any (same y) xs ≡ false) → p y ≡ true
        go (inl h) =
            let r = any-in (same y) xs h in
            ap p (same_true y r.0 r.2) ∙ all_in p (joined same xs ys) r.0 e (in_left r.0 xs (new_to same xs ys) r.1)
        go (inr h) = all_in p (joined same xs ys) y e (in_right y xs (new_to same xs ys) (select_in (λ y. not (any (same y) xs)) y ys k (ap not h)))

-- a model of a sheet: every line holds
model-lines : (s : ℕ) (m : Sheet) (vs : List ℕ) → model_of s (problem_of m) vs ≡ all (λ l. is_valid (interpretation s (signature m) vs) s (clause_at (signature m) l)) m.lines
unfolding problem_of
model-lines s m vs =
    is_model-all s (signature m) (map (clause_at (signature m)) m.lines) vs
    ∙ all_map (is_valid (interpretation s (signature m) vs) s) (clause_at (signature m)) m.lines

-- of good sheets
module _ (a b : Sheet) (wa : Good a) (wb : Good b) (ag : agree (signature a) (signature b) ≡ true) (s : ℕ) (vs : List ℕ) (pos : zero < s) where
  abbrev m : Sheet
  m = merged_sheet a b

  abbrev g : Signature
  g = signature m

  dm : NamesDiffer g
  dm = merged-differ a b wa wb ag

  module _ (good : is_interpretation s g vs ≡ true) where
    pub sheet-models : model_of s (problem_of m) vs ≡ (model_of s (problem_of a) (tables_for s g (signature a) vs) && model_of s (problem_of b) (tables_for s g (signature b) vs))
    unfolding merged_sheet
    sheet-models =
        let p : List ℕ → Bool = λ l. is_valid (interpretation s g vs) s (clause_at g l) in
        model-lines s m vs
        ∙ joined-lines p a.lines b.lines
        ∙ ap (λ (x : Bool). x && all p b.lines) (lines-moved s g (signature a) wa.names-differ dm (first-included a b wa wb ag) vs pos good a.lines wa.lines_ok ∙ sym (model-lines s a (tables_for s g (signature a) vs)))
        ∙ ap (λ (x : Bool). model_of s (problem_of a) (tables_for s g (signature a) vs) && x) (lines-moved s g (signature b) wb.names-differ dm (second-included a b wa wb ag) vs pos good b.lines wb.lines_ok ∙ sym (model-lines s b (tables_for s g (signature b) vs)))

    pub first-tables : is_interpretation s (signature a) (tables_for s g (signature a) vs) ≡ true
    first-tables = tables-good s g (signature a) wa.names-differ dm (first-included a b wa wb ag) vs pos good

    pub second-tables : is_interpretation s (signature b) (tables_for s g (signature b) vs) ≡ true
    second-tables = tables-good s g (signature b) wb.names-differ dm (second-included a b wa wb ag) vs pos good

-- of three problems: the tables are cases, and the case is a model exactly if both are
abbrev Law : Problem → Problem → Problem → ℕ → List ℕ → Type 0
Law p q m s vs =
    is_interpretation s m.symbols vs ≡ true
    → (is_interpretation s p.symbols (tables_for s m.symbols p.symbols vs) ≡ true)
    × (is_interpretation s q.symbols (tables_for s m.symbols q.symbols vs) ≡ true)
    × (model_of s m vs ≡ (model_of s p (tables_for s m.symbols p.symbols vs) && model_of s q (tables_for s m.symbols q.symbols vs)))

sheet-law : (a b : Sheet) → Good a → Good b → agree (signature a) (signature b) ≡ true → (s : ℕ) (vs : List ℕ) → zero < s → Law (problem_of a) (problem_of b) (problem_of (merged_sheet a b)) s vs
unfolding problem_of
sheet-law a b wa wb ag s vs pos good = (first-tables a b wa wb ag s vs pos good, second-tables a b wa wb ag s vs pos good, sheet-models a b wa wb ag s vs pos good)

merge-law : (r : Merge) (s : ℕ) (vs : List ℕ) → zero < s → Law r.p r.q r.m s vs
merge-law r s vs pos =
    let x = merge-exact r.first r.second r.merged r.room r.answered in
    let a : Sheet = x.t.sheet in
    let b : Sheet = x.u.sheet in
    let ep : r.p ≡ problem_of a = answer-inj r.p x.p (sym r.read_first ∙ x.read₁) ∙ x.t.problem in
    let eq : r.q ≡ problem_of b = answer-inj r.q x.q (sym r.read_second ∙ x.read₂) ∙ x.u.problem in
    let em : r.m ≡ problem_of (merged_sheet a b) = answer-inj r.m (problem_of (merged_sheet a b)) (sym r.read_merged ∙ merge-read r.first r.second r.merged x) in
    subst (λ (p : Problem). Law p r.q r.m s vs) (sym ep)
    (subst (λ (q : Problem). Law (problem_of a) q r.m s vs) (sym eq)
    (subst (λ (m : Problem). Law (problem_of a) (problem_of b) m s vs) (sym em)
    (sheet-law a b x.t.good x.u.good x.agreed s vs pos)))

-- what Judge says
judge-case : (sheet : List ℕ) (p : Problem) (case : List ℕ) (k : Case) → read_problem sheet ≡ answer p → read_case p.symbols case ≡ answer k → judge_answer sheet case ≡ answer (model_of k.size p k.values)
unfolding judge_answer
judge-case sheet p case k e₁ e₂ = bind-step _ _ p _ (placed-problem sheet p e₁) (bind-step _ _ k _ (placed-case p.symbols case k e₂) refl)

judge-tables : (sheet : List ℕ) (p : Problem) (s : ℕ) (vs : List ℕ) → read_problem sheet ≡ answer p → zero < s → s ≤ 8 → is_interpretation s p.symbols vs ≡ true
    → judge_answer sheet (case_text s p.symbols vs) ≡ answer (model_of s p vs)
judge-tables sheet p s vs e pos le h =
    judge-case sheet p (case_text s p.symbols vs) (record { size = s; values = vs }) e (read-own-case p (read_problem-well_formed sheet p e) s vs pos le h)

merge-judged : (r : Merge) (case : List ℕ) (k : Case) → read_case r.m.symbols case ≡ answer k
    → (judge_answer r.merged case ≡ answer true)
    ↔ ((judge_answer r.first (case_text k.size r.p.symbols (tables_for k.size r.m.symbols r.p.symbols k.values)) ≡ answer true)
    × (judge_answer r.second (case_text k.size r.q.symbols (tables_for k.size r.m.symbols r.q.symbols k.values)) ≡ answer true))
merge-judged r case k e =
    let o = read-exactly r.m.symbols case k e in
    let law = merge-law r k.size k.values o.positive o.interpretation in
    let us : List ℕ = tables_for k.size r.m.symbols r.p.symbols k.values in
    let ws : List ℕ = tables_for k.size r.m.symbols r.q.symbols k.values in
    let x : Bool = model_of k.size r.p us in
    let y : Bool = model_of k.size r.q ws in
    let z : Bool = model_of k.size r.m k.values in
    let jm : judge_answer r.merged case ≡ answer z = judge-case r.merged r.m case k r.read_merged e in
    let jp : judge_answer r.first (case_text k.size r.p.symbols us) ≡ answer x = judge-tables r.first r.p k.size us r.read_first o.positive o.within law.0 in
    let jq : judge_answer r.second (case_text k.size r.q.symbols ws) ≡ answer y = judge-tables r.second r.q k.size ws r.read_second o.positive o.within law.1 in (
      λ h.
          let both : (x && y) ≡ true = sym law.2 ∙ answer-inj z true (sym jm ∙ h) in
          (jp ∙ ap {B = Answer Bool} answer (and_left x y both), jq ∙ ap {B = Answer Bool} answer (and_right x y both)),
      λ h. jm ∙ ap {B = Answer Bool} answer (law.2 ∙ and-join x y (answer-inj x true (sym jp ∙ h.0)) (answer-inj y true (sym jq ∙ h.1))),
    )

pub models : ModelsHold
models r =
    record {
      first_tables = λ s vs pos good. (merge-law r s vs pos good).0;
      second_tables = λ s vs pos good. (merge-law r s vs pos good).1;
      model = λ s vs pos good. (merge-law r s vs pos good).2;
      judged = merge-judged r;
    }
