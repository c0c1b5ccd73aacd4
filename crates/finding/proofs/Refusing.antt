-- Find's checks in order: the first that fails refuses, and where all pass the search decides.
use Prim.Native.Nat.{ℕ, suc, ◌+◌, ◌-◌, ◌*◌, ◌≤◌, ◌<◌}
use mathlib.Core.Path.{◌≡◌, refl, sym, ap, ◌∙◌}
use mathlib.Core.Bool.{Bool, true, false, ◌&&◌}
use mathlib.Core.Option.{Option, none, some}
use mathlib.Core.List.{List}
use native.Mathlib.Omega.{arith}
use borrow.Author.Tests.{le-leb, lt-leb}
use lib.Dec.{leb}
use Rattle.theory.specs.Syntax.{all_declared}
use Rattle.theory.specs.Propositional.{prop_count}
use Rattle.theory.specs.Refusals.{Refusal, Answer, answer, refused, unplaced, needing, ◌>>=◌, check}
use Rattle.theory.specs.Problem.{Problem}
use Rattle.theory.specs.CaseText.{Case, case_length}
use Rattle.theory.specs.Cells.{cell_kinds, is_interpretation, is_model}
use Rattle.theory.specs.Least.{candidates, least_model, with_size}
use Rattle.theory.specs.Operations.{max_instances, Search, found, search_of}
use Rattle.theory.proofs.Tests.{leb-true, and_left}
use Rattle.theory.proofs.Answers.{bind-step, bind-refused, check-of-true, check-of-false}
use Rattle.theory.proofs.Interpretations.{length-interpretation}
use Rattle.theory.proofs.First.{first_of-least, first_some}
use Rattle.theory.proofs.Least.{in-in_range, with_size-some}
use Rattle.naming.specs.NamedProblem.{shown_symbols}
use Rattle.naming.specs.NamedOperations.{named_search_of, placed_in, mode_problem}
use Rattle.naming.proofs.Helpers.{shown-declared, shown-whole}
use Rattle.symmetry.specs.ConstantClauses.{instance_count_with, literal_count_with, work_needed_with}
use Rattle.symmetry.specs.Obeying.{obeys, least_obeying, least_with, smallest_with}
use Rattle.symmetry.proofs.Searched.{read-in, placed-read}
use Rattle.allowance.specs.AllowedSearch.{counted_search, Allowed, answered, stopped_at, search_within}
use Rattle.allowance.specs.AllowedFind.{max_allowance, Stoppable, finished, within_in, find_within}
use Rattle.allowance.proofs.Allowance.{allowance}
use Rattle.syntax.specs.declared.limits.Problem as code
use Rattle.syntax.specs.declared.signature.Signature.{Signature}
use Rattle.syntax.specs.Signatures.{signature_in, without_helpers}
use Rattle.problem.specs.Problems.{problem_in}
use Rattle.problem.specs.Modes.{Shows}
use Rattle.ranges.specs.Ranges.{are_sizes}
use Rattle.ranges.specs.declared.size_range.SizeRange.{SizeRange}
use Rattle.finding.specs.Ending.{found_in, found_within, ProblemShown, SearchableUpTo}

module _ (used : Bool) (p : Problem) (low high allowance work room : ℕ) where
  abbrev i : ℕ
  i = instance_count_with used high p.symbols p.clauses

  abbrev w : ℕ
  w = work_needed_with used high p.symbols p.clauses

  abbrev l : ℕ
  l = case_length high (shown_symbols p.symbols)

  pub refused-24 : max_allowance < allowance → found_in used p low high allowance work room ≡ refused (unplaced 24)
  unfolding found_in
  refused-24 e = bind-refused _ _ (unplaced 24) (check-of-false (leb allowance max_allowance) (unplaced 24) (lt-leb allowance max_allowance e))

  module _ (allowed : allowance ≤ max_allowance) where
    taken : check (leb allowance max_allowance) (unplaced 24) ≡ answer tt
    taken = check-of-true (leb allowance max_allowance) (unplaced 24) (le-leb allowance max_allowance allowed)

    pub refused-9 : max_instances < i → found_in used p low high allowance work room ≡ refused (unplaced 9)
    unfolding found_in
    refused-9 e = bind-step _ _ _ _ taken (bind-refused _ _ (unplaced 9) (check-of-false (leb i max_instances) (unplaced 9) (lt-leb i max_instances e)))

    module _ (few : i ≤ max_instances) where
      pub refused-10 : work < w → found_in used p low high allowance work room ≡ refused (needing 10 w)
      unfolding found_in
      refused-10 e =
          bind-step _ _ _ _ taken (bind-step _ _ _ _ (check-of-true (leb i max_instances) (unplaced 9) (le-leb i max_instances few))
          (bind-refused _ _ (needing 10 w) (check-of-false (leb w work) (needing 10 w) (lt-leb w work e))))

      module _ (enough : w ≤ work) where
        pub refused-11 : room < l → found_in used p low high allowance work room ≡ refused (needing 11 l)
        unfolding found_in
        refused-11 e =
            bind-step _ _ _ _ taken (bind-step _ _ _ _ (check-of-true (leb i max_instances) (unplaced 9) (le-leb i max_instances few))
            (bind-step _ _ _ _ (check-of-true (leb w work) (needing 10 w) (le-leb w work enough))
            (bind-refused _ _ (needing 11 l) (check-of-false (leb l room) (needing 11 l) (lt-leb l room e)))))

        pub searches : l ≤ room → found_in used p low high allowance work room ≡ found_within used p low high allowance work room
        unfolding found_in
        searches e =
            bind-step _ _ _ _ taken (bind-step _ _ _ _ (check-of-true (leb i max_instances) (unplaced 9) (le-leb i max_instances few))
            (bind-step _ _ _ _ (check-of-true (leb w work) (needing 10 w) (le-leb w work enough))
            (bind-step _ _ _ _ (check-of-true (leb l room) (needing 11 l) (le-leb l room e)) refl)))

-- what is found is an interpretation
least-in-range : (used : Bool) (s : ℕ) (p : Problem) (vs : List ℕ) → least_with used s p ≡ some vs → is_interpretation s p.symbols vs ≡ true
unfolding least_obeying least_model is_interpretation
least-in-range true s p vs e =
    in-in_range s (cell_kinds s p.symbols) vs (first_some (candidates s p.symbols) (λ v. is_model s p.symbols p.clauses v && obeys s p.symbols v) vs e).0
least-in-range false s p vs e = in-in_range s (cell_kinds s p.symbols) vs (first_some (candidates s p.symbols) (is_model s p.symbols p.clauses) vs e).0

smallest-in-range : (used : Bool) (p : Problem) (low high : ℕ) (k : Case) → smallest_with used p low high ≡ some k → is_interpretation k.size p.symbols k.values ≡ true
unfolding smallest_with
smallest-in-range used p low high k e =
    let r = first_of-least (λ s. with_size s (least_with used s p)) low (suc high - low) k e in
    let w = with_size-some r.0 (least_with used r.0 p) k r.3 in
    least-in-range used k.size p k.values (ap (λ (s : ℕ). least_with used s p) (sym w.0) ∙ w.1)

-- what is found where a case shows all symbols
plain-search : (used : Bool) (p : Problem) (low high : ℕ) → all_declared p.symbols ≡ true → search_of p low high (smallest_with used p low high) ≡ named_search_of p low high (smallest_with used p low high)
plain-search used p low high h = go (smallest_with used p low high) refl
  where
    go : (o : Option Case) → smallest_with used p low high ≡ o → search_of p low high o ≡ named_search_of p low high o
    go none e = refl
    go (some k) e =
        ap (found k.size) (sym (shown-whole k.size p.symbols k.values h (length-interpretation k.size p.symbols k.values (smallest-in-range used p low high k e))))

-- with an allowance
plain-within : (used : Bool) (p : Problem) (low high a : ℕ) → all_declared p.symbols ≡ true → (counted_search used p low high).case ≡ smallest_with used p low high
    → within_in false p low high a (search_within used p low high a) ≡ within_in true p low high a (search_within used p low high a)
plain-within used p low high a h plain = go (search_within used p low high a) refl
  where
    go : (w : Allowed) → search_within used p low high a ≡ w → within_in false p low high a w ≡ within_in true p low high a w
    go (stopped_at s) e = refl
    go (answered o n) e =
        let same : o ≡ smallest_with used p low high = ((allowance used p low high).only a o n e).0 ∙ plain in
        ap (λ (o : Option Case). finished (search_of p low high o) n) same
        ∙ ap (λ (r : Search). finished r n) (plain-search used p low high h)
        ∙ sym (ap (λ (o : Option Case). finished (named_search_of p low high o) n) same)

-- and checked
plain-found : (used : Bool) (p : Problem) (low high a work room : ℕ) → all_declared p.symbols ≡ true → (counted_search used p low high).case ≡ smallest_with used p low high
    → (check (leb a max_allowance) (unplaced 24) >>= λ _. check (leb (instance_count_with used high p.symbols p.clauses) max_instances) (unplaced 9)
    >>= λ _. check (leb (work_needed_with used high p.symbols p.clauses) work) (needing 10 (work_needed_with used high p.symbols p.clauses))
    >>= λ _. check (leb (case_length high p.symbols) room) (needing 11 (case_length high p.symbols)) >>= λ _. answer (within_in false p low high a (search_within used p low high a)))
    ≡ found_in used p low high a work room
unfolding found_in
plain-found used p low high a work room h plain =
    let all : ℕ → Stoppable Search → Answer (Stoppable Search) = λ n r. check (leb a max_allowance) (unplaced 24) >>= λ _. check (leb (instance_count_with used high p.symbols p.clauses) max_instances) (unplaced 9) >>= λ _.
    check (leb (work_needed_with used high p.symbols p.clauses) work) (needing 10 (work_needed_with used high p.symbols p.clauses)) >>= λ _. check (leb n room) (needing 11 n) >>= λ _. answer r in
    ap (λ (n : ℕ). all n (within_in false p low high a (search_within used p low high a))) (ap (case_length high) (sym (shown-declared p.symbols h)))
    ∙ ap (all (case_length high (shown_symbols p.symbols))) (plain-within used p low high a h plain)

-- the whole call, of both modes, told yes or no
module _ (sheet : List ℕ) (low high a work room : ℕ) (used : Bool) where
  -- a sheet that is refused
  pub result-refused : (named : Bool) (r : Refusal) → placed_in named sheet ≡ refused r → find_within named used sheet low high a work room ≡ refused r
  unfolding find_within
  result-refused named r e = bind-refused _ _ r e

  module _ (p : Problem) where
    -- one that was read, at what are no sizes
    pub result-8 : (named : Bool) → placed_in named sheet ≡ answer p → are_sizes low high ≡ false → find_within named used sheet low high a work room ≡ refused (unplaced 8)
    unfolding find_within
    result-8 named read e = bind-step _ _ _ _ read (bind-refused _ _ (unplaced 8) (check-of-false (are_sizes low high) (unplaced 8) e))

    -- and at sizes
    pub result-read : (named : Bool) → placed_in named sheet ≡ answer p → all_declared p.symbols ≡ true → are_sizes low high ≡ true
        → find_within named used sheet low high a work room ≡ found_in used (mode_problem named p) low high a work room
    unfolding find_within found_in
    result-read false read h e =
        let pos : 1 ≤ low = leb-true 1 low (and_left (leb 1 low) (leb high 8) (and_left (leb 1 low && leb high 8) (leb low high) e)) in
        let plain = (allowance used p low high).plain pos (read-in false sheet p (placed-read false sheet p read)).sheet.clauses in
        bind-step _ _ _ _ read (bind-step _ _ _ _ (check-of-true (are_sizes low high) (unplaced 8) e) (plain-found used p low high a work room h plain))
    result-read true read h e = bind-step _ _ _ _ read (bind-step _ _ _ _ (check-of-true (are_sizes low high) (unplaced 8) e) refl)

-- W, as the code has it
pub work-is : (sheet : List ℕ) (p : code.Problem) (size v i l n : ℕ) → v ≡ prop_count size (signature_in sheet p.signature)
    → i ≡ instance_count_with p.symmetry size (problem_in sheet p).symbols (problem_in sheet p).clauses → l ≡ literal_count_with p.symmetry size (problem_in sheet p).symbols (problem_in sheet p).clauses
    → n ≡ l + 2 * i + 8 * v + 16 → n ≡ work_needed_with p.symmetry size (problem_in sheet p).symbols (problem_in sheet p).clauses
unfolding work_needed_with problem_in
work-is sheet p size v i l n e f g h = omega (arith, e, f, g, h)

-- the length of a case, which shows the declared symbols y
pub length-is : (sheet : List ℕ) (p : code.Problem) (size n : ℕ) (y : Signature) → Shows sheet p.signature → y ≡ without_helpers p.signature → n ≡ case_length size (signature_in sheet y)
    → n ≡ case_length size (shown_symbols (problem_in sheet p).symbols)
unfolding problem_in
length-is sheet p size n y h is e = e ∙ ap (λ (y : Signature). case_length size (signature_in sheet y)) is ∙ sym (ap (case_length size) h)

-- all checks passed
pub all-sizes : (sheet : List ℕ) (p : code.Problem) (r : SizeRange) (work room : ℕ) → ProblemShown sheet p
    → instance_count_with p.symmetry r.high.0 (problem_in sheet p).symbols (problem_in sheet p).clauses ≤ max_instances → work_needed_with p.symmetry r.high.0 (problem_in sheet p).symbols (problem_in sheet p).clauses ≤ work
    → case_length r.high.0 (shown_symbols (problem_in sheet p).symbols) ≤ room → SearchableUpTo sheet p r.high.0 work room
all-sizes sheet p r work room h few enough case =
    record {
      searchable =
          record {
            accepted = h.accepted;
            bytes = h.bytes;
            shows = h.shows;
            positive = omega (arith, r.positive, r.ordered);
            within = r.within;
            instances = few;
            space = enough;
          };
      case = case;
    }
