-- Two sheets made one are a good sheet; nothing changes nothing; three may be grouped either way.
use Prim.Native.Nat.{ℕ, ◌≤◌, ◌<◌}
use mathlib.Core.Path.{◌≡◌, refl, sym, ap, ◌∙◌, subst}
use mathlib.Core.Logic.{◌⊎◌, inl, inr, ◌↔◌}
use mathlib.Core.Bool.{Bool, true, false, not, ◌&&◌, ◌||◌, beq, false≢true, true≢false}
use mathlib.Core.List.{List, [], ◌∷◌, ◌++◌, map}
use native.Mathlib.Omega.{arith}
use lib.Dec.{eqb, leb}
use lib.ListN.{length, get_or, length-map}
use Rattle.theory.specs.Lists.{any, all, same, concat_map}
use Rattle.theory.specs.Bytes.{bytes}
use Rattle.theory.specs.Syntax.{Kind, function, predicate, is_function, is_predicate, Origin, declared, is_from_sheet, Symbol, Signature, all_declared, no_symbol, Clause}
use Rattle.theory.specs.Refusals.{Refusal, Answer, answer, refused, unplaced, needing}
use Rattle.theory.specs.Problem.{clause_of, Problem, read_problem}
use Rattle.theory.specs.Columns.{placed_problem}
use Rattle.theory.specs.WellFormed.{symbol_ok, NamesDiffer}
use Rattle.theory.proofs.Tests.{true-or-false, both_false, eqb-true, beq-≡, leb-true, leb-of-≤, and_left, and_right, and-join, false_of_not, or_left, or_right, beq_same, eqb-of-≡}
use Rattle.theory.proofs.Lists.{all_append, all-at, map_at, all-every, same_true, same_refl}
use Rattle.theory.proofs.Declared.{predicate-kind}
use Rattle.theory.proofs.PlacedReading.{placed-problem, problem-read}
use Rattle.theory.proofs.SheetRead.{origin-of}
use Rattle.theory.proofs.Answers.{unbind, answer-inj, bind-step, bind-refused, check-true, check-of-true}
use Rattle.sheet_merging.specs.Sheets.{Sheet, cut_lines, sheet_of, ended, text_of}
use Rattle.sheet_merging.specs.Merging.{new_to, joined, same_name, merged_sheet, same_shape, agree, within_sheet, merged_text, refused_sheet, which_sheet}
use Rattle.sheet_merging.specs.Claims.Sheets as sheet_claims
use Rattle.sheet_merging.specs.Claims.Merging as claims
use Rattle.sheet_merging.proofs.Joining.{joined-nothing, nothing-joined, joined-grouped}
use Rattle.sheet_merging.proofs.SheetRead.{clause_at, line_ok, ok-line, so-read, clause-line, signature, problem_of, Good, sheet-read, text-lines, sheet-again, TextOf, sheet-exact}
use Rattle.sheet_merging.proofs.Among.{In, in-at, at_in, in-append, in_left, in_right, in-select, select_in, all_in, in_all, any-in, in-any, Clear, Distinct, distinct_append, distinct-left, distinct-right, distinct-clear, distinct-select, differ-distinct, distinct-differ}
use Rattle.sheet_merging.proofs.Included.{Included, line-moved}

same_kind : (k l : Kind) → is_function k ≡ is_function l → k ≡ l
same_kind function function e = refl
same_kind function predicate e = absurd (true≢false e)
same_kind predicate function e = absurd (false≢true e)
same_kind predicate predicate e = refl

-- of two agreeing signatures: symbols of one name are of one kind and arity
one-shape : (g h : Signature) → agree g h ≡ true → (u f : Symbol) → In u h → In f g → u.name ≡ f.name → (u.kind ≡ f.kind) × (u.arity ≡ f.arity)
unfolding agree
one-shape g h ag u f hu hf e =
    let inner : all (λ (f : Symbol). not (same_name u f) || same_shape u f) g ≡ true = all_in (λ (v : Symbol). all (λ (f : Symbol). not (same_name v f) || same_shape v f) g) h u ag hu in
    let test : (not (same_name u f) || same_shape u f) ≡ true = all_in (λ (f : Symbol). not (same_name u f) || same_shape u f) g f inner hf in
    let named : same_name u f ≡ true = ap (λ (w : List ℕ). same w f.name) e ∙ same_refl f.name in
    let shape : same_shape u f ≡ true = ap (λ (b : Bool). not b || same_shape u f) (sym named) ∙ test in
    let kinds : Bool = beq (is_function u.kind) (is_function f.kind) in
    let arities : Bool = eqb u.arity f.arity in
    (same_kind u.kind f.kind (beq-≡ (is_function u.kind) (is_function f.kind) (and_left kinds arities shape)), eqb-true u.arity f.arity (and_right kinds arities shape))

-- and they are one symbol, where all are declared
pub one_symbol : (g h : Signature) → all_declared g ≡ true → all_declared h ≡ true → agree g h ≡ true → (u f : Symbol) → In u h → In f g → u.name ≡ f.name → u ≡ f
one_symbol g h og oh ag u f hu hf e =
    let shape = one-shape g h ag u f hu hf e in
    let from : (f : Symbol) (g : Signature) → all_declared g ≡ true → In f g → f.origin ≡ declared = λ f g o k. origin-of f.origin (all_in (λ (f : Symbol). is_from_sheet f.origin) g f o k) in
    ap (λ (k : Kind). record { kind = k; name = u.name; arity = u.arity; origin = u.origin }) shape.0
    ∙ ap (λ (w : List ℕ). record { kind = f.kind; name = w; arity = u.arity; origin = u.origin }) e
    ∙ ap (λ (n : ℕ). record { kind = f.kind; name = f.name; arity = n; origin = u.origin }) shape.1
    ∙ ap (λ (o : Origin). record { kind = f.kind; name = f.name; arity = f.arity; origin = o }) (from u h oh hu ∙ sym (from f g og hf))

-- symbols of one kind joined
module _ (xs ys : List Symbol) (one : (u f : Symbol) → In u ys → In f xs → u.name ≡ f.name → u ≡ f) where
  -- every symbol of the second is there
  second-in : (u : Symbol) → In u ys → In u (joined same_name xs ys)
  second-in u h = go (true-or-false (any (same_name u) xs))
    where
      go : (any (same_name u) xs ≡ true) ⊎ (any (same_name u) xs ≡ false) → In u (joined same_name xs ys)
      go (inl e) =
          let r = any-in (same_name u) xs e in
          let q : u ≡ r.0 = one u r.0 h r.1 (same_true u.name r.0.name r.2) in
          in_left u xs (new_to same_name xs ys) (subst (λ (v : Symbol). In v xs) (sym q) r.1)
      go (inr e) = in_right u xs (new_to same_name xs ys) (select_in (λ y. not (any (same_name y) xs)) u ys h (ap not e))

  joined-clear : Clear xs (new_to same_name xs ys)
  joined-clear f u hf hu e =
      let r = in-select (λ y. not (any (same_name y) xs)) u ys hu in
      both_false (in-any (same_name u) xs f hf (ap (same u.name) e ∙ same_refl u.name)) (false_of_not (any (same_name u) xs) r.1)

  joined-distinct : Distinct xs → Distinct ys → Distinct (joined same_name xs ys)
  joined-distinct dx dy = distinct_append xs (new_to same_name xs ys) dx (distinct-select (λ y. not (any (same_name y) xs)) ys dy) joined-clear

joined-all : {A : Type 0} (alike : A → A → Bool) (p : A → Bool) (xs ys : List A) → all p xs ≡ true → all p ys ≡ true → all p (joined alike xs ys) ≡ true
joined-all {A = A} alike p xs ys hx hy =
    in_all p (joined alike xs ys) λ u k. go u (in-append u xs (new_to alike xs ys) k)
  where
    go : (u : A) → In u xs ⊎ In u (new_to alike xs ys) → p u ≡ true
    go u (inl k) = all_in p xs u hx k
    go u (inr k) = all_in p ys u hy (in-select (λ y. not (any (alike y) xs)) u ys k).0

joined_in : {A : Type 0} (alike : A → A → Bool) (xs ys : List A) (u : A) → In u (joined alike xs ys) → In u xs ⊎ In u ys
joined_in {A = A} alike xs ys u k = go (in-append u xs (new_to alike xs ys) k)
  where
    go : In u xs ⊎ In u (new_to alike xs ys) → In u xs ⊎ In u ys
    go (inl k) = inl k
    go (inr k) = inr (in-select (λ y. not (any (alike y) xs)) u ys k).0

module _ (a b : Sheet) (wa : Good a) (wb : Good b) (ag : agree (signature a) (signature b) ≡ true) where
  abbrev m : Sheet
  m = merged_sheet a b

  da : Distinct (signature a)
  da = differ-distinct (signature a) wa.names-differ

  db : Distinct (signature b)
  db = differ-distinct (signature b) wb.names-differ

  one_function : (u f : Symbol) → In u b.functions → In f a.functions → u.name ≡ f.name → u ≡ f
  one_function u f hu hf = one_symbol (signature a) (signature b) wa.origins wb.origins ag u f (in_left u b.functions b.predicates hu) (in_left f a.functions a.predicates hf)

  one-predicate : (u f : Symbol) → In u b.predicates → In f a.predicates → u.name ≡ f.name → u ≡ f
  one-predicate u f hu hf = one_symbol (signature a) (signature b) wa.origins wb.origins ag u f (in_right u b.functions b.predicates hu) (in_right f a.functions a.predicates hf)

  -- every symbol of the first, and of the second, is one of the two made one
  pub first-included : Included (signature a) (signature m)
  unfolding merged_sheet
  first-included u h = go (in-append u a.functions a.predicates h)
    where
      go : In u a.functions ⊎ In u a.predicates → In u (signature m)
      go (inl k) = in_left u m.functions m.predicates (in_left u a.functions (new_to same_name a.functions b.functions) k)
      go (inr k) = in_right u m.functions m.predicates (in_left u a.predicates (new_to same_name a.predicates b.predicates) k)

  pub second-included : Included (signature b) (signature m)
  unfolding merged_sheet
  second-included u h = go (in-append u b.functions b.predicates h)
    where
      go : In u b.functions ⊎ In u b.predicates → In u (signature m)
      go (inl k) = in_left u m.functions m.predicates (second-in a.functions b.functions one_function u k)
      go (inr k) = in_right u m.functions m.predicates (second-in a.predicates b.predicates one-predicate u k)

  function-in : (s : Sheet) → Good s → (f : Symbol) → In f s.functions → is_function f.kind ≡ true
  function-in s w f k = all_in (λ (f : Symbol). is_function f.kind) s.functions f w.function-kinds k

  predicate-in : (s : Sheet) → Good s → (f : Symbol) → In f s.predicates → is_function f.kind ≡ false
  predicate-in s w f k = ap is_function (predicate-kind f.kind (all_in (λ (f : Symbol). is_predicate f.kind) s.predicates f w.predicate-kinds k))

  kinds-clear : Clear m.functions m.predicates
  unfolding merged_sheet
  kinds-clear f u hf hu e = go (joined_in same_name a.functions b.functions f hf) (joined_in same_name a.predicates b.predicates u hu)
    where
      go : In f a.functions ⊎ In f b.functions → In u a.predicates ⊎ In u b.predicates → ⊥
      go (inl x) (inl y) = distinct-clear a.functions a.predicates da f u x y e
      go (inl x) (inr y) =
          let q : u ≡ f = one_symbol (signature a) (signature b) wa.origins wb.origins ag u f (in_right u b.functions b.predicates y) (in_left f a.functions a.predicates x) (sym e) in
          both_false (function-in a wa f x) (ap (λ (v : Symbol). is_function v.kind) (sym q) ∙ predicate-in b wb u y)
      go (inr x) (inl y) =
          let q : f ≡ u = one_symbol (signature a) (signature b) wa.origins wb.origins ag f u (in_left f b.functions b.predicates x) (in_right u a.functions a.predicates y) e in
          both_false (function-in b wb f x) (ap (λ (v : Symbol). is_function v.kind) q ∙ predicate-in a wa u y)
      go (inr x) (inr y) = distinct-clear b.functions b.predicates db f u x y e

  pub merged-differ : NamesDiffer (signature m)
  unfolding merged_sheet
  merged-differ =
      distinct-differ (signature m)
      (distinct_append m.functions m.predicates
      (joined-distinct a.functions b.functions one_function (distinct-left a.functions a.predicates da) (distinct-left b.functions b.predicates db))
      (joined-distinct a.predicates b.predicates one-predicate (distinct-right a.functions a.predicates da) (distinct-right b.functions b.predicates db))
      kinds-clear)

  -- the lines of both are clauses over it
  first-lines : all (line_ok (signature m)) a.lines ≡ true
  first-lines = in_all (line_ok (signature m)) a.lines λ l k. (line-moved (signature a) (signature m) wa.names-differ merged-differ first-included l (all_in (line_ok (signature a)) a.lines l wa.lines_ok k)).ok

  second-lines : all (line_ok (signature m)) b.lines ≡ true
  second-lines = in_all (line_ok (signature m)) b.lines λ l k. (line-moved (signature b) (signature m) wb.names-differ merged-differ second-included l (all_in (line_ok (signature b)) b.lines l wb.lines_ok k)).ok

  -- what holds of every symbol of both holds of every one of the two made one
  merged-all : (q : Symbol → Bool) → all q (signature a) ≡ true → all q (signature b) ≡ true → all q (signature m) ≡ true
  unfolding merged_sheet
  merged-all q ha hb =
      let oa = sym (all_append q a.functions a.predicates) ∙ ha in
      let ob = sym (all_append q b.functions b.predicates) ∙ hb in
      all_append q m.functions m.predicates
      ∙ and-join (all q m.functions) (all q m.predicates)
      (joined-all same_name q a.functions b.functions (and_left (all q a.functions) (all q a.predicates) oa) (and_left (all q b.functions) (all q b.predicates) ob))
      (joined-all same_name q a.predicates b.predicates (and_right (all q a.functions) (all q a.predicates) oa) (and_right (all q b.functions) (all q b.predicates) ob))

  module _ (within : within_sheet m ≡ true) where
    abbrev t₁ : Bool
    t₁ = leb (length m.functions) 12

    abbrev t₂ : Bool
    t₂ = leb (length m.predicates) 12

    abbrev t₃ : Bool
    t₃ = leb (length m.lines) 64

    abbrev t₄ : Bool
    t₄ = leb (length (text_of m)) 16384

    limits : (t₁ ≡ true) × (t₂ ≡ true) × (t₃ ≡ true) × (t₄ ≡ true)
    unfolding within_sheet
    limits =
        let h₃ : (t₁ && t₂ && t₃) ≡ true = and_left (t₁ && t₂ && t₃) t₄ within in
        let h₂ : (t₁ && t₂) ≡ true = and_left (t₁ && t₂) t₃ h₃ in
        (and_left t₁ t₂ h₂, and_right t₁ t₂ h₂, and_right (t₁ && t₂) t₃ h₃, and_right (t₁ && t₂ && t₃) t₄ within)

    pub merged-good : Good m
    unfolding merged_sheet
    merged-good =
        record {
          function-kinds = joined-all same_name (λ (f : Symbol). is_function f.kind) a.functions b.functions wa.function-kinds wb.function-kinds;
          predicate-kinds = joined-all same_name (λ (f : Symbol). is_predicate f.kind) a.predicates b.predicates wa.predicate-kinds wb.predicate-kinds;
          function-count = leb-true (length m.functions) 12 limits.0;
          predicate-count = leb-true (length m.predicates) 12 limits.1;
          line-count = leb-true (length m.lines) 64 limits.2;
          symbols-ok = merged-all symbol_ok wa.symbols-ok wb.symbols-ok;
          names-differ = merged-differ;
          origins = merged-all (λ (f : Symbol). is_from_sheet f.origin) wa.origins wb.origins;
          lines_ok = joined-all same (line_ok (signature m)) a.lines b.lines first-lines second-lines;
          byte-count = leb-true (length (text_of m)) 16384 limits.3;
        }

-- a good sheet is within the limits
good-within : (m : Sheet) → Good m → within_sheet m ≡ true
unfolding within_sheet
good-within m w =
    let t₁ : Bool = leb (length m.functions) 12 in
    let t₂ : Bool = leb (length m.predicates) 12 in
    let t₃ : Bool = leb (length m.lines) 64 in
    let t₄ : Bool = leb (length (text_of m)) 16384 in
    and-join (t₁ && t₂ && t₃) t₄
    (and-join (t₁ && t₂) t₃ (and-join t₁ t₂ (leb-of-≤ (length m.functions) 12 w.function-count) (leb-of-≤ (length m.predicates) 12 w.predicate-count)) (leb-of-≤ (length m.lines) 64 w.line-count))
    (leb-of-≤ (length (text_of m)) 16384 w.byte-count)

-- the sheet that was taken apart is the good one
pub sheet-of : (text : List ℕ) (p : Problem) (t : TextOf text p) → sheet_of p text ≡ t.sheet
sheet-of text p t = ap (λ (q : Problem). sheet_of q text) t.problem ∙ ap (sheet_of (problem_of t.sheet)) t.whole ∙ sheet-again t.sheet t.good

sheet-lines : (m : Sheet) → Good m → (i : ℕ) → i < length (problem_of m).clauses
    → (v : List ℕ) × (get_or m.lines i [] ≡ bytes "clause=" ++ v) × (clause_of (problem_of m).symbols 0 v ≡ answer (get_or (problem_of m).clauses i []))
unfolding problem_of
sheet-lines m w i lt =
    let g : Signature = signature m in
    let l : List ℕ = get_or m.lines i [] in
    let hl : i < length m.lines = omega (arith, length-map m.lines (clause_at g)) in
    let r = clause-line g l (clause_at g l) (ok-line g l (all-at (line_ok g) [] m.lines i w.lines_ok hl)).1 in
    (r.value, r.whole, so-read g 0 r.value (clause_at g l) r.read ∙ ap {B = Answer Clause} answer (sym (map_at (clause_at g) m.lines i [] [] hl)))

lines-counted : (m : Sheet) → length m.lines ≡ length (problem_of m).clauses
unfolding problem_of
lines-counted m = sym (length-map m.lines (clause_at (signature m)))

pub sheets : sheet_claims.SheetsHold
sheets text p e =
    let t = sheet-exact text p e in
    let q : sheet_of p text ≡ t.sheet = sheet-of text p t in
    record {
      exact = ap text_of q ∙ sym t.whole;
      lines = ap (λ (l : List ℕ). concat_map ended (cut_lines l)) t.whole ∙ text-lines t.sheet t.good ∙ sym t.whole;
      counted = ap (λ (m : Sheet). length m.lines) q ∙ lines-counted t.sheet ∙ ap (λ (p : Problem). length p.clauses) (sym t.problem);
      line =
          subst (λ (m : Sheet). (i : ℕ) → i < length p.clauses → (v : List ℕ) × (get_or m.lines i [] ≡ bytes "clause=" ++ v) × (clause_of p.symbols 0 v ≡ answer (get_or p.clauses i []))) (sym q)
          (subst (λ (p : Problem). (i : ℕ) → i < length p.clauses → (v : List ℕ) × (get_or t.sheet.lines i [] ≡ bytes "clause=" ++ v) × (clause_of p.symbols 0 v ≡ answer (get_or p.clauses i []))) (sym t.problem)
          (sheet-lines t.sheet t.good));
    }

symbols-of : (text : List ℕ) (p : Problem) (t : TextOf text p) → p.symbols ≡ signature t.sheet
unfolding problem_of
symbols-of text p t = ap (λ (q : Problem). q.symbols) t.problem

-- what Merge does with two good sheets
merge-answer : (first second : List ℕ) (p q : Problem) (room : ℕ) (t : TextOf first p) (u : TextOf second q) → read_problem first ≡ answer p → read_problem second ≡ answer q
    → agree (signature t.sheet) (signature u.sheet) ≡ true → within_sheet (merged_sheet t.sheet u.sheet) ≡ true → length (text_of (merged_sheet t.sheet u.sheet)) ≤ room
    → merged_text first second room ≡ answer (text_of (merged_sheet t.sheet u.sheet))
unfolding merged_text
merge-answer first second p q room t u e₁ e₂ ag wi le =
    let m : Sheet = merged_sheet (sheet_of p first) (sheet_of q second) in
    let n : Sheet = merged_sheet t.sheet u.sheet in
    let same : m ≡ n = ap (λ (s : Sheet). merged_sheet s (sheet_of q second)) (sheet-of first p t) ∙ ap (merged_sheet t.sheet) (sheet-of second q u) in
    bind-step _ _ p _ (placed-problem first p e₁)
    (bind-step _ _ q _ (placed-problem second q e₂)
    (bind-step _ _ tt _ (check-of-true (agree p.symbols q.symbols) (unplaced 22) (ap (λ (g : Signature). agree g q.symbols) (symbols-of first p t) ∙ ap (agree (signature t.sheet)) (symbols-of second q u) ∙ ag))
    (bind-step _ _ tt _ (check-of-true (within_sheet m) (unplaced 23) (ap within_sheet same ∙ wi))
    (bind-step _ _ tt _ (check-of-true (leb (length (text_of m)) room) (needing 11 (length (text_of m))) (ap (λ (s : Sheet). leb (length (text_of s)) room) same ∙ leb-of-≤ (length (text_of n)) room le))
    (ap (λ (s : Sheet). answer (text_of s)) same)))))

-- a text that Merge leaves
pub record MergeOf (first second text : List ℕ) : Type 0 where
  pub p : Problem
  pub q : Problem
  pub read₁ : read_problem first ≡ answer p
  pub read₂ : read_problem second ≡ answer q
  pub t : TextOf first p
  pub u : TextOf second q
  pub agreed : agree (signature t.sheet) (signature u.sheet) ≡ true
  pub within : within_sheet (merged_sheet t.sheet u.sheet) ≡ true
  pub whole : text ≡ text_of (merged_sheet t.sheet u.sheet)

pub merge-exact : (first second text : List ℕ) (room : ℕ) → merged_text first second room ≡ answer text → MergeOf first second text
unfolding merged_text
merge-exact first second text room e =
    unbind _ _ text e λ (p : Problem) placed₁ e₁.
    unbind _ _ text e₁ λ (q : Problem) placed₂ e₂.
    unbind _ _ text e₂ λ (u₁ : Unit {0}) h₃ e₃.
    unbind _ _ text e₃ λ (u₂ : Unit {0}) h₄ e₄.
    unbind _ _ text e₄ λ (u₃ : Unit {0}) h₅ e₅.
    let h₁ = problem-read first p placed₁ in
    let h₂ = problem-read second q placed₂ in
    step p q h₁ h₂ (sheet-exact first p h₁) (sheet-exact second q h₂) (check-true (agree p.symbols q.symbols) (unplaced 22) u₁ h₃)
    (check-true (within_sheet (merged_sheet (sheet_of p first) (sheet_of q second))) (unplaced 23) u₂ h₄)
    (answer-inj (text_of (merged_sheet (sheet_of p first) (sheet_of q second))) text e₅)
  where
    step : (p q : Problem) → read_problem first ≡ answer p → read_problem second ≡ answer q → TextOf first p → TextOf second q → agree p.symbols q.symbols ≡ true
        → within_sheet (merged_sheet (sheet_of p first) (sheet_of q second)) ≡ true → text_of (merged_sheet (sheet_of p first) (sheet_of q second)) ≡ text → MergeOf first second text
    step p q e₁ e₂ t u ag wi w =
        let same : merged_sheet (sheet_of p first) (sheet_of q second) ≡ merged_sheet t.sheet u.sheet =
        ap (λ (s : Sheet). merged_sheet s (sheet_of q second)) (sheet-of first p t) ∙ ap (merged_sheet t.sheet) (sheet-of second q u) in
        record {
          p = p;
          q = q;
          read₁ = e₁;
          read₂ = e₂;
          t = t;
          u = u;
          agreed = ap (λ (g : Signature). agree g (signature u.sheet)) (sym (symbols-of first p t)) ∙ ap (agree p.symbols) (sym (symbols-of second q u)) ∙ ag;
          within = ap within_sheet (sym same) ∙ wi;
          whole = sym w ∙ ap text_of same;
        }

module _ (first second text : List ℕ) (r : MergeOf first second text) where
  pub merge-good : Good (merged_sheet r.t.sheet r.u.sheet)
  merge-good = merged-good r.t.sheet r.u.sheet r.t.good r.u.good r.agreed r.within

  pub merge-read : read_problem text ≡ answer (problem_of (merged_sheet r.t.sheet r.u.sheet))
  merge-read = ap read_problem r.whole ∙ sheet-read (merged_sheet r.t.sheet r.u.sheet) merge-good

  merge-again : sheet_of (problem_of (merged_sheet r.t.sheet r.u.sheet)) text ≡ merged_sheet r.t.sheet r.u.sheet
  merge-again = ap (sheet_of (problem_of (merged_sheet r.t.sheet r.u.sheet))) r.whole ∙ sheet-again (merged_sheet r.t.sheet r.u.sheet) merge-good

-- what is read from one text is one problem, and one sheet
same-sheet : (text : List ℕ) (p : Problem) (t : TextOf text p) (m : Sheet) → read_problem text ≡ answer p → read_problem text ≡ answer (problem_of m) → sheet_of (problem_of m) text ≡ m → t.sheet ≡ m
same-sheet text p t m e e₂ again = sym (sheet-of text p t) ∙ ap (λ (q : Problem). sheet_of q text) (answer-inj p (problem_of m) (sym e ∙ e₂)) ∙ again

-- its symbols are those of both
among_in : (f : Symbol) (g : Signature) → claims.IsAmong f g → In f g
among_in f g a = subst (λ (u : Symbol). In u g) a.2 (at_in no_symbol g a.0 a.1)

merge-symbols : (first second text : List ℕ) (r : MergeOf first second text) (g h : Signature) → g ≡ signature r.t.sheet → h ≡ signature r.u.sheet → (f : Symbol)
    → claims.IsAmong f (problem_of (merged_sheet r.t.sheet r.u.sheet)).symbols ↔ (claims.IsAmong f g ⊎ claims.IsAmong f h)
unfolding problem_of merged_sheet
merge-symbols first second text r g h eg eh f = (λ k. down (in-append f m.functions m.predicates (among_in f (signature m) k)), up)
  where
    a : Sheet
    a = r.t.sheet

    b : Sheet
    b = r.u.sheet

    m : Sheet
    m = merged_sheet a b

    in-first : In f (signature a) → claims.IsAmong f g ⊎ claims.IsAmong f h
    in-first k = inl (in-at no_symbol f g (subst (λ (s : Signature). In f s) (sym eg) k))

    in-second : In f (signature b) → claims.IsAmong f g ⊎ claims.IsAmong f h
    in-second k = inr (in-at no_symbol f h (subst (λ (s : Signature). In f s) (sym eh) k))

    functions : In f a.functions ⊎ In f b.functions → claims.IsAmong f g ⊎ claims.IsAmong f h
    functions (inl k) = in-first (in_left f a.functions a.predicates k)
    functions (inr k) = in-second (in_left f b.functions b.predicates k)

    predicates : In f a.predicates ⊎ In f b.predicates → claims.IsAmong f g ⊎ claims.IsAmong f h
    predicates (inl k) = in-first (in_right f a.functions a.predicates k)
    predicates (inr k) = in-second (in_right f b.functions b.predicates k)

    down : In f m.functions ⊎ In f m.predicates → claims.IsAmong f g ⊎ claims.IsAmong f h
    down (inl k) = functions (joined_in same_name a.functions b.functions f k)
    down (inr k) = predicates (joined_in same_name a.predicates b.predicates f k)

    up : claims.IsAmong f g ⊎ claims.IsAmong f h → claims.IsAmong f (signature m)
    up (inl k) = in-at no_symbol f (signature m) (first-included a b r.t.good r.u.good r.agreed f (subst (λ (s : Signature). In f s) eg (among_in f g k)))
    up (inr k) = in-at no_symbol f (signature m) (second-included a b r.t.good r.u.good r.agreed f (subst (λ (s : Signature). In f s) eh (among_in f h k)))

merge-taken : (first second text : List ℕ) (p q : Problem) (room : ℕ) → read_problem first ≡ answer p → read_problem second ≡ answer q
    → merged_text first second room ≡ answer text → claims.Taken first second p q text
merge-taken first second text p q room e₁ e₂ e =
    let r = merge-exact first second text room e in
    let n : Sheet = merged_sheet r.t.sheet r.u.sheet in
    let a : sheet_of p first ≡ r.t.sheet = ap (λ (s : Problem). sheet_of s first) (answer-inj p r.p (sym e₁ ∙ r.read₁)) ∙ sheet-of first r.p r.t in
    let b : sheet_of q second ≡ r.u.sheet = ap (λ (s : Problem). sheet_of s second) (answer-inj q r.q (sym e₂ ∙ r.read₂)) ∙ sheet-of second r.q r.u in
    let pa : p.symbols ≡ signature r.t.sheet = ap (λ (s : Problem). s.symbols) (answer-inj p r.p (sym e₁ ∙ r.read₁)) ∙ symbols-of first r.p r.t in
    let qa : q.symbols ≡ signature r.u.sheet = ap (λ (s : Problem). s.symbols) (answer-inj q r.q (sym e₂ ∙ r.read₂)) ∙ symbols-of second r.q r.u in
    record {
      problem = problem_of n;
      read = merge-read first second text r;
      symbols = merge-symbols first second text r p.symbols q.symbols pa qa;
      parts = merge-again first second text r ∙ sym (ap (λ (s : Sheet). merged_sheet s (sheet_of q second)) a ∙ ap (merged_sheet r.t.sheet) b);
    }

-- a sheet without symbols and clauses
abbrev no_sheet : Sheet
no_sheet = record { functions = []; predicates = []; lines = [] }

append-none : {A : Type 0} (xs ys : List A) → [] ≡ xs ++ ys → (xs ≡ []) × (ys ≡ [])
append-none [] ys e = (refl, sym e)
append-none (x ∷ xs) ys e = let z : ◌≡◌ {A = ℕ} 0 1 = cc in absurd (omega arith)

map-none : {A B : Type 0} (f : A → B) (xs : List A) → [] ≡ map f xs → xs ≡ []
map-none f [] e = refl
map-none f (x ∷ xs) e = let z : ◌≡◌ {A = ℕ} 0 1 = cc in absurd (omega arith)

none-sheet : (text : List ℕ) (t : TextOf text claims.no_problem) → t.sheet ≡ no_sheet
unfolding problem_of
none-sheet text t =
    let m : Sheet = t.sheet in
    let r = append-none m.functions m.predicates (ap (λ (p : Problem). p.symbols) t.problem) in
    let l : m.lines ≡ [] = map-none (clause_at (signature m)) m.lines (ap (λ (p : Problem). p.clauses) t.problem) in
    ap (λ (f : List Symbol). record { functions = f; predicates = m.predicates; lines = m.lines }) r.0
    ∙ ap (λ (f : List Symbol). record { functions = []; predicates = f; lines = m.lines }) r.1
    ∙ ap (λ (f : List (List ℕ)). record { functions = []; predicates = []; lines = f }) l

merged-nothing : (m : Sheet) → merged_sheet m no_sheet ≡ m
unfolding merged_sheet
merged-nothing m =
    ap (λ (f : List Symbol). record { functions = f; predicates = joined same_name m.predicates []; lines = joined same m.lines [] }) (joined-nothing same_name m.functions)
    ∙ ap (λ (f : List Symbol). record { functions = m.functions; predicates = f; lines = joined same m.lines [] }) (joined-nothing same_name m.predicates)
    ∙ ap (λ (f : List (List ℕ)). record { functions = m.functions; predicates = m.predicates; lines = f }) (joined-nothing same m.lines)

nothing-merged : (m : Sheet) → merged_sheet no_sheet m ≡ m
unfolding merged_sheet
nothing-merged m =
    ap (λ (f : List Symbol). record { functions = f; predicates = joined same_name [] m.predicates; lines = joined same [] m.lines }) (nothing-joined same_name m.functions)
    ∙ ap (λ (f : List Symbol). record { functions = m.functions; predicates = f; lines = joined same [] m.lines }) (nothing-joined same_name m.predicates)
    ∙ ap (λ (f : List (List ℕ)). record { functions = m.functions; predicates = m.predicates; lines = f }) (nothing-joined same m.lines)

same-through : (x y z : List ℕ) → same x y ≡ true → same y z ≡ true → same x z ≡ true
same-through x y z h k = ap (λ (w : List ℕ). same w z) (same_true x y h) ∙ k

merged-grouped : (a b c : Sheet) → merged_sheet (merged_sheet a b) c ≡ merged_sheet a (merged_sheet b c)
unfolding merged_sheet
merged-grouped a b c =
    let names : (x y z : Symbol) → same_name x y ≡ true → same_name y z ≡ true → same_name x z ≡ true = λ x y z. same-through x.name y.name z.name in
    ap (λ (f : List Symbol). record { functions = f; predicates = joined same_name (joined same_name a.predicates b.predicates) c.predicates; lines = joined same (joined same a.lines b.lines) c.lines })
    (joined-grouped same_name names a.functions b.functions c.functions)
    ∙ ap (λ (f : List Symbol). record { functions = joined same_name a.functions (joined same_name b.functions c.functions); predicates = f; lines = joined same (joined same a.lines b.lines) c.lines })
    (joined-grouped same_name names a.predicates b.predicates c.predicates)
    ∙ ap (λ (f : List (List ℕ)). record { functions = joined same_name a.functions (joined same_name b.functions c.functions); predicates = joined same_name a.predicates (joined same_name b.predicates c.predicates); lines = f })
    (joined-grouped same same-through a.lines b.lines c.lines)

agree-none : (g : Signature) → agree [] g ≡ true
unfolding agree
agree-none g = all-every (λ (v : Symbol). true) g (λ v. refl)

nothing-after : (sheet none : List ℕ) (p : Problem) (room : ℕ) → read_problem sheet ≡ answer p → read_problem none ≡ answer claims.no_problem → length sheet ≤ room → merged_text sheet none room ≡ answer sheet
unfolding agree
nothing-after sheet none p room e₁ e₂ le =
    let t = sheet-exact sheet p e₁ in
    let u = sheet-exact none claims.no_problem e₂ in
    let m : Sheet = merged_sheet t.sheet u.sheet in
    let q : m ≡ t.sheet = ap (merged_sheet t.sheet) (none-sheet none u) ∙ merged-nothing t.sheet in
    let text : text_of m ≡ sheet = ap text_of q ∙ sym t.whole in
    merge-answer sheet none p claims.no_problem room t u e₁ e₂ (ap (λ (s : Sheet). agree (signature t.sheet) (signature s)) (none-sheet none u))
    (ap within_sheet q ∙ good-within t.sheet t.good) (subst (λ (l : List ℕ). length l ≤ room) (sym text) le)
    ∙ ap {B = Answer (List ℕ)} answer text

nothing-before : (none sheet : List ℕ) (p : Problem) (room : ℕ) → read_problem none ≡ answer claims.no_problem → read_problem sheet ≡ answer p → length sheet ≤ room → merged_text none sheet room ≡ answer sheet
nothing-before none sheet p room e₁ e₂ le =
    let t = sheet-exact none claims.no_problem e₁ in
    let u = sheet-exact sheet p e₂ in
    let m : Sheet = merged_sheet t.sheet u.sheet in
    let q : m ≡ u.sheet = ap (λ (s : Sheet). merged_sheet s u.sheet) (none-sheet none t) ∙ nothing-merged u.sheet in
    let text : text_of m ≡ sheet = ap text_of q ∙ sym u.whole in
    merge-answer none sheet claims.no_problem p room t u e₁ e₂ (ap (λ (s : Sheet). agree (signature s) (signature u.sheet)) (none-sheet none t) ∙ agree-none (signature u.sheet))
    (ap within_sheet q ∙ good-within u.sheet u.good) (subst (λ (l : List ℕ). length l ≤ room) (sym text) le)
    ∙ ap {B = Answer (List ℕ)} answer text

grouped : (a b c ab bc left right : List ℕ) (r₁ r₂ r₃ r₄ : ℕ)
    → merged_text a b r₁ ≡ answer ab → merged_text ab c r₂ ≡ answer left → merged_text b c r₃ ≡ answer bc → merged_text a bc r₄ ≡ answer right → left ≡ right
grouped a b c ab bc left right r₁ r₂ r₃ r₄ e₁ e₂ e₃ e₄ =
    let x = merge-exact a b ab r₁ e₁ in
    let y = merge-exact ab c left r₂ e₂ in
    let z = merge-exact b c bc r₃ e₃ in
    let w = merge-exact a bc right r₄ e₄ in
    let AB : Sheet = merged_sheet x.t.sheet x.u.sheet in
    let BC : Sheet = merged_sheet z.t.sheet z.u.sheet in
    -- the sheets that the two ways start from
    let ab-is : y.t.sheet ≡ AB = same-sheet ab y.p y.t AB y.read₁ (merge-read a b ab x) (merge-again a b ab x) in
    let bc-is : w.u.sheet ≡ BC = same-sheet bc w.q w.u BC w.read₂ (merge-read b c bc z) (merge-again b c bc z) in
    let a-is : x.t.sheet ≡ w.t.sheet = sym (sheet-of a x.p x.t) ∙ ap (λ (q : Problem). sheet_of q a) (answer-inj x.p w.p (sym x.read₁ ∙ w.read₁)) ∙ sheet-of a w.p w.t in
    let b-is : x.u.sheet ≡ z.t.sheet = sym (sheet-of b x.q x.u) ∙ ap (λ (q : Problem). sheet_of q b) (answer-inj x.q z.p (sym x.read₂ ∙ z.read₁)) ∙ sheet-of b z.p z.t in
    let c-is : y.u.sheet ≡ z.u.sheet = sym (sheet-of c y.q y.u) ∙ ap (λ (q : Problem). sheet_of q c) (answer-inj y.q z.q (sym y.read₂ ∙ z.read₂)) ∙ sheet-of c z.q z.u in
    y.whole
    ∙ ap text_of (
    ap (λ (s : Sheet). merged_sheet s y.u.sheet) ab-is
    ∙ merged-grouped x.t.sheet x.u.sheet y.u.sheet
    ∙ ap (λ (s : Sheet). merged_sheet s (merged_sheet x.u.sheet y.u.sheet)) a-is
    ∙ ap (λ (s : Sheet). merged_sheet w.t.sheet (merged_sheet s y.u.sheet)) b-is
    ∙ ap (λ (s : Sheet). merged_sheet w.t.sheet (merged_sheet z.t.sheet s)) c-is
    ∙ ap (merged_sheet w.t.sheet) (sym bc-is))
    ∙ sym w.whole

-- refusals
first-refused : (first second : List ℕ) (room : ℕ) (r : Refusal) → placed_problem first ≡ refused r → (merged_text first second room ≡ refused r) × (which_sheet first second ≡ 1)
unfolding merged_text which_sheet
first-refused first second room r e = (bind-refused _ _ r e, ap (λ (a : Answer Problem). refused_sheet a (placed_problem second)) e)

second-refused : (first second : List ℕ) (room : ℕ) (p : Problem) (r : Refusal) → read_problem first ≡ answer p → placed_problem second ≡ refused r
    → (merged_text first second room ≡ refused r) × (which_sheet first second ≡ 2)
unfolding merged_text which_sheet
second-refused first second room p r e₁ e₂ =
    let e = placed-problem first p e₁ in
    (bind-step _ _ p _ e (bind-refused _ _ r e₂), ap (λ (a : Answer Problem). refused_sheet a (placed_problem second)) e ∙ ap (refused_sheet (answer p)) e₂)

both-taken : (first second : List ℕ) (p q : Problem) → read_problem first ≡ answer p → read_problem second ≡ answer q → which_sheet first second ≡ 0
unfolding which_sheet
both-taken first second p q e₁ e₂ = ap (λ (a : Answer Problem). refused_sheet a (placed_problem second)) (placed-problem first p e₁) ∙ ap (refused_sheet (answer p)) (placed-problem second q e₂)

-- 22
shared-agree : (g h : Signature) → ((f u : Symbol) → claims.IsAmong f g → claims.IsAmong u h → f.name ≡ u.name → (f.kind ≡ u.kind) × (f.arity ≡ u.arity)) → agree g h ≡ true
unfolding agree
shared-agree g h k =
    in_all (λ (v : Symbol). all (λ (f : Symbol). not (same_name v f) || same_shape v f) g) h λ v hv.
    in_all (λ (f : Symbol). not (same_name v f) || same_shape v f) g λ f hf.
    go v f hv hf (true-or-false (same_name v f))
  where
    go : (v f : Symbol) → In v h → In f g → (same_name v f ≡ true) ⊎ (same_name v f ≡ false) → (not (same_name v f) || same_shape v f) ≡ true
    go v f hv hf (inl e) =
        let r = k f v (in-at no_symbol f g hf) (in-at no_symbol v h hv) (sym (same_true v.name f.name e)) in
        or_right (not (same_name v f)) (same_shape v f)
        (and-join (beq (is_function v.kind) (is_function f.kind)) (eqb v.arity f.arity)
        (ap (λ (l : Kind). beq (is_function v.kind) (is_function l)) r.0 ∙ beq_same (is_function v.kind))
        (eqb-of-≡ v.arity f.arity (sym r.1)))
    go v f hv hf (inr e) = or_left (not (same_name v f)) (same_shape v f) (ap not e)

agree-shared : (g h : Signature) → (agree g h ≡ true) ↔ ((f u : Symbol) → claims.IsAmong f g → claims.IsAmong u h → f.name ≡ u.name → (f.kind ≡ u.kind) × (f.arity ≡ u.arity))
agree-shared g h = (
  λ ag f u hf hu e. let r = one-shape g h ag u f (among_in u h hu) (among_in f g hf) (sym e) in (sym r.0, sym r.1),
  shared-agree g h,
)

pub merging : claims.Merging
merging = record { first_refused = first-refused; second_refused = second-refused; both_taken = both-taken; shared = agree-shared; taken = merge-taken; nothing_after = nothing-after; nothing_before = nothing-before; grouped = grouped }
