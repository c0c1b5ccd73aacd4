-- What Merge answers of two sheets that are taken: at each of its refusals, and where it writes.
use Prim.Native.Nat.{ℕ, ◌≤◌, ◌<◌}
use mathlib.Core.Path.{◌≡◌, refl, sym, ap, ◌∙◌}
use mathlib.Core.Bool.{Bool, true, false, ◌&&◌}
use mathlib.Core.List.{List}
use native.Mathlib.Omega.{arith}
use lib.Dec.{leb}
use lib.ListN.{length}
use Rattle.theory.specs.Syntax.{Signature, all_declared}
use Rattle.theory.specs.Refusals.{Answer, answer, refused, unplaced, needing}
use Rattle.theory.specs.Columns.{placed_problem}
use Rattle.theory.proofs.Tests.{leb-of-≤, leb-of-<}
use Rattle.theory.proofs.Answers.{bind-step, bind-refused, check-of-true, check-of-false}
use Rattle.theory.proofs.PlacedReading.{placed-problem}
use Rattle.theory.proofs.Parsing.{read_problem-well_formed}
use Rattle.syntax.specs.declared.limits.Problem.{Problem}
use Rattle.syntax.specs.Signatures.{signature_in}
use Rattle.problem.specs.Problems.{problem_in}
use Rattle.sheet_merging.specs.Sheets.{Sheet, text_of}
use Rattle.sheet_merging.specs.Merging.{merged_sheet, agree, within_sheet, merged_text}
use Rattle.sheet_merging.proofs.SheetRead.{signature}
use Rattle.sheet_merging.proofs.SectionLines.{lines-by-kind}
use Rattle.sheet_merging.proofs.JoinedLines.{function-lines, predicate-lines, clause-lines, MergedLines, merged-lines}
use Rattle.uniting.specs.declared.united.United.{United}
use Rattle.uniting.specs.Joins.{joined_lines}
use Rattle.uniting.specs.United.{Sheeted, sheet_in, UnitedOf, measured_length, united_text}
use Rattle.uniting.proofs.Uniting.{united-measured}

-- two sheets that are taken
module _ (first : List ℕ) (p : Problem) (second : List ℕ) (q : Problem) (h : Sheeted first p) (k : Sheeted second q) (room : ℕ) where
  abbrev a : Sheet
  a = sheet_in first p

  abbrev b : Sheet
  b = sheet_in second q

  abbrev m : Sheet
  m = merged_sheet a b

  abbrev agreeing : Bool
  agreeing = agree (signature_in first p.signature) (signature_in second q.signature)

  one : placed_problem first ≡ answer (problem_in first p)
  one = placed-problem first (problem_in first p) h.read

  two : placed_problem second ≡ answer (problem_in second q)
  two = placed-problem second (problem_in second q) k.read

  pub disagreeing : agreeing ≡ false → merged_text first second room ≡ refused (unplaced 22)
  unfolding merged_text problem_in
  disagreeing e = bind-step _ _ _ _ one (bind-step _ _ _ _ two (bind-refused _ _ (unplaced 22) (check-of-false _ (unplaced 22) e)))

  module _ (ag : agreeing ≡ true) where
    pub over-limits : within_sheet m ≡ false → merged_text first second room ≡ refused (unplaced 23)
    unfolding merged_text problem_in
    over-limits e = bind-step _ _ _ _ one (bind-step _ _ _ _ two (bind-step _ _ tt _ (check-of-true _ (unplaced 22) ag) (bind-refused _ _ (unplaced 23) (check-of-false _ (unplaced 23) e))))

    pub no_room : within_sheet m ≡ true → room < length (text_of m) → merged_text first second room ≡ refused (needing 11 (length (text_of m)))
    unfolding merged_text problem_in
    no_room e lt =
        bind-step _ _ _ _ one
        (bind-step _ _ _ _ two
        (bind-step _ _ tt _ (check-of-true _ (unplaced 22) ag)
        (bind-step _ _ tt _ (check-of-true _ (unplaced 23) e) (bind-refused _ _ (needing 11 (length (text_of m))) (check-of-false _ (needing 11 (length (text_of m))) (leb-of-< (length (text_of m)) room lt))))))

    pub text-said : within_sheet m ≡ true → length (text_of m) ≤ room → merged_text first second room ≡ answer (text_of m)
    unfolding merged_text problem_in
    text-said e le =
        bind-step _ _ _ _ one
        (bind-step _ _ _ _ two
        (bind-step _ _ tt _ (check-of-true _ (unplaced 22) ag)
        (bind-step _ _ tt _ (check-of-true _ (unplaced 23) e) (bind-step _ _ tt _ (check-of-true _ (needing 11 (length (text_of m))) (leb-of-≤ (length (text_of m)) room le)) refl))))

    same-order : agree (signature a) (signature b) ≡ true
    unfolding problem_in
    same-order =
        ap (λ (g : Signature). agree g (signature b)) (lines-by-kind first (problem_in first p) h.read).in_order
        ∙ ap (agree (signature_in first p.signature)) (lines-by-kind second (problem_in second q) k.read).in_order
        ∙ ag

    -- and all symbols are declared
    own-declared : all_declared (signature a) ≡ true
    own-declared = ap all_declared (lines-by-kind first (problem_in first p) h.read).in_order ∙ (read_problem-well_formed first (problem_in first p) h.read).origins

    other-declared : all_declared (signature b) ≡ true
    other-declared = ap all_declared (lines-by-kind second (problem_in second q) k.read).in_order ∙ (read_problem-well_formed second (problem_in second q) k.read).origins

    -- by the lines that were joined
    module _ (u : United) (w : UnitedOf first p second q u) where
      lines : MergedLines m (joined_lines first second u.functions) (joined_lines first second u.predicates) (joined_lines first second u.clauses)
      lines =
          merged-lines m (joined_lines first second u.functions) (joined_lines first second u.predicates) (joined_lines first second u.clauses)
          (w.functions ∙ function-lines a b own-declared other-declared same-order) (w.predicates ∙ predicate-lines a b own-declared other-declared same-order) (w.clauses ∙ clause-lines a b own-declared other-declared same-order)

      pub united-text : united_text first second u ≡ text_of m
      unfolding united_text
      united-text = lines.text

      pub united-length : measured_length u ≡ length (text_of m)
      united-length = united-measured first second u w.joins ∙ ap length united-text

      -- and by what was measured
      module _ (n : ℕ) (measured : n ≡ measured_length u) where
        abbrev fits : Bool
        fits = leb u.functions.all.count 12 && leb u.predicates.all.count 12 && leb u.clauses.all.count 64 && leb n 16384

        long : n ≡ length (text_of m)
        long = measured ∙ united-length

        within_by : within_sheet m ≡ fits
        unfolding within_sheet
        within_by =
            let f : length m.functions ≡ u.functions.all.count = sym (w.joins.functions.measured.count ∙ lines.functions) in
            let r : length m.predicates ≡ u.predicates.all.count = sym (w.joins.predicates.measured.count ∙ lines.predicates) in
            let c : length m.lines ≡ u.clauses.all.count = sym (w.joins.clauses.measured.count ∙ lines.lines) in
            ap (λ (n : ℕ). leb n 12 && leb (length m.predicates) 12 && leb (length m.lines) 64 && leb (length (text_of m)) 16384) f
            ∙ ap (λ (n : ℕ). leb u.functions.all.count 12 && leb n 12 && leb (length m.lines) 64 && leb (length (text_of m)) 16384) r
            ∙ ap (λ (n : ℕ). leb u.functions.all.count 12 && leb u.predicates.all.count 12 && leb n 64 && leb (length (text_of m)) 16384) c
            ∙ ap (λ (n : ℕ). leb u.functions.all.count 12 && leb u.predicates.all.count 12 && leb u.clauses.all.count 64 && leb n 16384) (sym long)

        pub too_large : fits ≡ false → merged_text first second room ≡ refused (unplaced 23)
        too_large e = over-limits (within_by ∙ e)

        pub too_long : fits ≡ true → room < n → merged_text first second room ≡ refused (needing 11 n)
        too_long e lt = no_room (within_by ∙ e) (omega (arith, long)) ∙ ap (λ (n : ℕ). refused (needing 11 n)) (sym long)

        pub said : fits ≡ true → n ≤ room → merged_text first second room ≡ answer (united_text first second u)
        said e le = text-said (within_by ∙ e) (omega (arith, long)) ∙ ap {B = Answer (List ℕ)} answer (sym united-text)
