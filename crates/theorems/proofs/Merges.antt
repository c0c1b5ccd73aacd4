-- Merge, of the calls, from what is proved of its definition.
use Prim.Native.Nat.{ℕ, ◌≤◌}
use mathlib.Core.Path.{◌≡◌, refl, sym, ap, ◌∙◌}
use mathlib.Core.Logic.{◌↔◌}
use mathlib.Core.Bool.{Bool, true, false, ◌&&◌}
use mathlib.Core.List.{List}
use native.Mathlib.Omega.{arith}
use lib.Dec.{leb}
use lib.ListN.{length}
use Rattle.theory.specs.Refusals.{answer, refused, unplaced, needing, check}
use Rattle.theory.specs.Problem.{Problem, read_problem}
use Rattle.theory.specs.CaseText.{Case, read_case}
use Rattle.theory.specs.Cells.{is_interpretation}
use Rattle.theory.specs.Operations.{length_answer}
use Rattle.theory.proofs.Tests.{both_false, not-true, leb-true, leb-of-≤, and_left, and_right}
use Rattle.theory.proofs.Answers.{bind-step, bind-refused, check-true, check-of-true, check-of-false, answer≢refused, unrefused}
use Rattle.theory.proofs.PlacedReading.{placed-problem}
use Rattle.theory.proofs.CaseText.{read-exactly, read-own-case}
use Rattle.theory.proofs.Parsing.{read_problem-well_formed}
use Rattle.answers.specs.Answers.{length_in}
use Rattle.sheet_merging.specs.Sheets.{Sheet, sheet_of, text_of}
use Rattle.sheet_merging.specs.Merging.{merged_sheet, agree, within_sheet, merged_text}
use Rattle.sheet_merging.specs.Tables.{tables_for}
use Rattle.sheet_merging.specs.Claims.Models.{Merge, Models}
use Rattle.sheet_merging.proofs.Merging.{merging}
use Rattle.sheet_merging.proofs.Models.{models}
use Rattle.uniting.specs.Calls.{MergeAnswer, written_in, MergeCall}
use Rattle.theorems.specs.Models.{Model}
use Rattle.theorems.specs.Merges.{MergedAs, case_for, NamesAgree, FitsOneSheet, MergeOfTwo, Merges}
use Rattle.theorems.proofs.Leaving.{leaves, left-text, refused-text}
use Rattle.theorems.proofs.Refusing.{other-number, refusing}
use Rattle.theorems.proofs.Models.{judged-is-model, model-is-judged}

-- the text that a call left is the one that the definition answers
text-left : (first second text : List ℕ) (a : MergedAs first second text) → merged_text first second (length a.output) ≡ answer text
text-left first second text a = left-text (merged_text first second (length a.output)) (written_in a.answer) a.output a.output' a.call.call text a.leaves

-- what goes into a sheet
module _ (m : Sheet) where
  fits : within_sheet m ≡ true → FitsOneSheet m
  unfolding within_sheet
  fits h =
      let a : Bool = leb (length m.functions) 12 in
      let b : Bool = leb (length m.predicates) 12 in
      let c : Bool = leb (length m.lines) 64 in
      let d : Bool = leb (length (text_of m)) 16384 in
      let abc : (a && b && c) ≡ true = and_left (a && b && c) d h in
      let ab : (a && b) ≡ true = and_left (a && b) c abc in
      record {
        functions = leb-true (length m.functions) 12 (and_left a b ab);
        predicates = leb-true (length m.predicates) 12 (and_right a b ab);
        clauses = leb-true (length m.lines) 64 (and_right (a && b) c abc);
        bytes = leb-true (length (text_of m)) 16384 (and_right (a && b && c) d h);
      }

  within-if : FitsOneSheet m → within_sheet m ≡ true
  unfolding within_sheet
  within-if f = rw (leb-of-≤ (length m.functions) 12 f.functions, leb-of-≤ (length m.predicates) 12 f.predicates, leb-of-≤ (length m.lines) 64 f.clauses, leb-of-≤ (length (text_of m)) 16384 f.bytes) refl

module _ (first second : List ℕ) (p q : Problem) (e : read_problem first ≡ answer p) (f : read_problem second ≡ answer q) where
  -- 22
  disagreeing : (room : ℕ) → agree p.symbols q.symbols ≡ false → merged_text first second room ≡ refused (unplaced 22)
  unfolding merged_text
  disagreeing room h = bind-step _ _ p _ (placed-problem first p e) (bind-step _ _ q _ (placed-problem second q f) (bind-refused _ _ (unplaced 22) (check-of-false _ (unplaced 22) h)))

  agreeing : (room : ℕ) → merged_text first second room ≡ refused (unplaced 22) → agree p.symbols q.symbols ≡ false
  unfolding merged_text
  agreeing room h = not-true (agree p.symbols q.symbols) λ ag.
      let m : Sheet = merged_sheet (sheet_of p first) (sheet_of q second) in
      let within : Bool = within_sheet m in
      let room-left : Bool = leb (length (text_of m)) room in
      let rest = bind-step _ _ p _ (placed-problem first p e) (bind-step _ _ q _ (placed-problem second q f) (bind-step _ _ tt _ (check-of-true _ (unplaced 22) ag) refl)) in
      unrefused (check within (unplaced 23)) _ (unplaced 22) (sym rest ∙ h) (λ z. other-number 22 within (unplaced 23) (λ n. absurd (omega (arith, n))) z) λ u _ e₁.
      unrefused (check room-left (needing 11 (length (text_of m)))) _ (unplaced 22) e₁ (λ z. other-number 22 room-left (needing 11 (length (text_of m))) (λ n. absurd (omega (arith, n))) z) λ v _ e₂.
      answer≢refused _ (unplaced 22) e₂

  differing : (r : MergeAnswer) (output output' : List ℕ) → MergeCall first second r output output' → (length_in (written_in r) ≡ refused (unplaced 22)) ↔ (NamesAgree p q → ⊥)
  differing r output output' c = (
    λ h ag. both_false ((merging.shared p.symbols q.symbols).1 ag) (agreeing (length output) (refused-text _ (unplaced 22) (sym c.call.answer ∙ h))),
    λ ne. c.call.answer ∙ ap length_answer (disagreeing (length output) (not-true (agree p.symbols q.symbols) (λ ag. ne ((merging.shared p.symbols q.symbols).0 ag)))),
  )

  -- 23
  abbrev both : Sheet
  both = merged_sheet (sheet_of p first) (sheet_of q second)

  over-limits : (room : ℕ) → agree p.symbols q.symbols ≡ true → within_sheet both ≡ false → merged_text first second room ≡ refused (unplaced 23)
  unfolding merged_text
  over-limits room ag h =
      bind-step _ _ p _ (placed-problem first p e)
      (bind-step _ _ q _ (placed-problem second q f) (bind-step _ _ tt _ (check-of-true _ (unplaced 22) ag) (bind-refused _ _ (unplaced 23) (check-of-false _ (unplaced 23) h))))

  only-over : (room : ℕ) → merged_text first second room ≡ refused (unplaced 23) → (agree p.symbols q.symbols ≡ true) × (within_sheet both ≡ false)
  unfolding merged_text
  only-over room h =
      let ag : Bool = agree p.symbols q.symbols in
      let within : Bool = within_sheet both in
      let room-left : Bool = leb (length (text_of both)) room in
      let rest = bind-step _ _ p _ (placed-problem first p e) (bind-step _ _ q _ (placed-problem second q f) refl) in
      unrefused (check ag (unplaced 22)) _ (unplaced 23) (sym rest ∙ h) (λ z. absurd (other-number 23 ag (unplaced 22) (λ n. absurd (omega (arith, n))) z)) λ u hu e₁.
      unrefused (check within (unplaced 23)) _ (unplaced 23) e₁ (λ z. (check-true ag (unplaced 22) u hu, refusing within (unplaced 23) (unplaced 23) z)) λ v _ e₂.
      unrefused (check room-left (needing 11 (length (text_of both)))) _ (unplaced 23) e₂ (λ z. absurd (other-number 23 room-left (needing 11 (length (text_of both))) (λ n. absurd (omega (arith, n))) z)) λ x _ e₃.
      absurd (answer≢refused _ (unplaced 23) e₃)

  too_large : (r : MergeAnswer) (output output' : List ℕ) → MergeCall first second r output output' → (length_in (written_in r) ≡ refused (unplaced 23)) ↔ (NamesAgree p q × (FitsOneSheet both → ⊥))
  too_large r output output' c = (
    λ h.
        let t = only-over (length output) (refused-text _ (unplaced 23) (sym c.call.answer ∙ h)) in
        ((merging.shared p.symbols q.symbols).0 t.0, λ w. both_false (within-if both w) t.1),
    λ x. c.call.answer ∙ ap length_answer (over-limits (length output) ((merging.shared p.symbols q.symbols).1 x.0) (not-true (within_sheet both) (λ w. x.1 (fits both w)))),
  )

  -- a case's tables for a sheet's symbols
  module _ (text : List ℕ) (a : MergedAs first second text) (m : Problem) (g : read_problem text ≡ answer m) (case : List ℕ) (k : Case) (r : read_case m.symbols case ≡ answer k) where
    abbrev merge : Merge
    merge =
        record {
          first = first;
          second = second;
          merged = text;
          p = p;
          q = q;
          m = m;
          room = length a.output;
          read_first = e;
          read_second = f;
          answered = text-left first second text a;
          read_merged = g;
        }

    abbrev part : Problem → Case
    part t = record { size = k.size; values = tables_for k.size m.symbols t.symbols k.values }

    part-read : (sheet : List ℕ) (t : Problem) → read_problem sheet ≡ answer t → is_interpretation k.size t.symbols (part t).values ≡ true → read_case t.symbols (case_for t m k) ≡ answer (part t)
    part-read sheet t h i =
        let o = read-exactly m.symbols case k r in
        read-own-case t (read_problem-well_formed sheet t h) k.size (part t).values o.positive o.within i

    model-iff : Model m k.size case ↔ (Model p k.size (case_for p m k) × Model q k.size (case_for q m k))
    model-iff =
        let o = read-exactly m.symbols case k r in
        let t : Models merge = models merge in
        let own = part-read first p e (t.first_tables k.size k.values o.positive o.interpretation) in
        let other = part-read second q f (t.second_tables k.size k.values o.positive o.interpretation) in
        let j = t.judged case k r in (
          λ x.
              let both = j.0 (model-is-judged text m g k.size case x).model in (
                judged-is-model first p e k.size (case_for p m k) (record { case = part p; read = own; sized = refl; model = both.0 }),
                judged-is-model second q f k.size (case_for q m k) (record { case = part q; read = other; sized = refl; model = both.1 }),
              ),
          λ x.
              judged-is-model text m g k.size case
              (record {
                case = k;
                read = r;
                sized = refl;
                model = j.1 ((model-is-judged first p e k.size (case_for p m k) x.0).model, (model-is-judged second q f k.size (case_for q m k) x.1).model);
              }),
        )

  two : MergeOfTwo first second p q
  two =
      record {
        sheet = λ text a. merging.taken first second text p q (length a.output) e f (text-left first second text a);
        model = λ text a m g case k r. model-iff text a m g case k r;
        differing = differing;
        too_large = too_large;
        neither = λ r output output' c. c.sheet ∙ merging.both_taken first second p q e f;
      }

pub merges : Merges
merges =
    record {
      two = two;
      first_refused = λ first second q e r output output' c. let t = merging.first_refused first second (length output) q e in (c.call.answer ∙ ap length_answer t.0, c.sheet ∙ t.1);
      second_refused = λ first second p q e f r output output' c. let t = merging.second_refused first second (length output) p q e f in (c.call.answer ∙ ap length_answer t.0, c.sheet ∙ t.1);
      nothing_after = λ sheet none p e f r output output' c fits.
          leaves (merged_text sheet none (length output)) (written_in r) output output' c.call sheet (merging.nothing_after sheet none p (length output) e f fits);
      nothing_before = λ none sheet p e f r output output' c fits.
          leaves (merged_text none sheet (length output)) (written_in r) output output' c.call sheet (merging.nothing_before none sheet p (length output) e f fits);
      grouped = λ a b c ab bc left right x y z w.
          merging.grouped a b c ab bc left right (length x.output) (length y.output) (length z.output) (length w.output)
          (text-left a b ab x) (text-left ab c left y) (text-left b c bc z) (text-left a bc right w);
    }
