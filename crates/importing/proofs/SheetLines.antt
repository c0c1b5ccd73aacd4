-- The sheet of a clean text: a head over the table's symbols, and the lines of its clauses.
use Prim.Native.Nat.{ℕ, ◌+◌, ◌-◌, ◌≤◌}
use mathlib.Core.Path.{◌≡◌, refl, sym, ap, ◌∙◌, subst}
use mathlib.Core.Bool.{true, ◌&&◌}
use mathlib.Core.Option.{none}
use mathlib.Core.List.{List, [], ◌∷◌, ◌++◌, map}
use native.Mathlib.Omega.{arith}
use lib.Dec.{leb}
use lib.ListN.{length, take, drop, length-append, length-map}
use Rattle.theory.specs.Lists.{all, concat_map}
use Rattle.theory.specs.Syntax.{Symbol, Signature, Clause, clause_ok, functions, predicates}
use Rattle.theory.specs.Grammar.{clause_words}
use Rattle.theory.specs.Problem.{Problem, is_name, within_limits}
use Rattle.theory.specs.WellFormed.{symbol_ok, is_known_letter, clause_accepted, WellFormed}
use Rattle.theory.proofs.Tests.{and_left, and_right}
use Rattle.theory.proofs.Lists.{all_map, all-and, all-concat_map, all-imply, concat_map-map}
use Rattle.text.specs.Put.{put, put-run}
use Rattle.syntax.specs.Signatures.{signature_in}
use Rattle.tptp.specs.Trees.{NameClause, Statement}
use Rattle.tptp.specs.Symbols.{clause_over, signature_of, problem_of}
use Rattle.tptp.specs.Scanning.{clause_entries}
use Rattle.tptp.specs.Tptp.{read_file, clauses_of_file, faults_from}
use Rattle.tptp.specs.Claims.Order.{declared_by, signature_by}
use Rattle.tptp.specs.Claims.Deciding.{first_of_statements, declared_in, sheet_of}
use Rattle.tptp.proofs.Order.{order}
use Rattle.tptp.proofs.Taken.{named, problem-formed}
use Rattle.declaring.specs.declared.symbols.Symbols.{Symbols}
use Rattle.declaring.specs.Tables.{TableOf, LimitedTable, TableSays}
use Rattle.declaring.proofs.Tables.{says}
use Rattle.sheet_text.specs.Parts.{ShortNames, head_text, clause_line, lines_of_clauses}
use Rattle.sheet_text.proofs.Symbols.{short-names}
use Rattle.sheet_text.proofs.SheetParts.{sheet-parts}
use Rattle.importing.specs.declared.survey.Survey.{Survey}
use Rattle.importing.specs.Entered.{entries_fit}
use Rattle.importing.specs.Surveys.{lines_in, CleanSurvey, LinesHeld}
use Rattle.importing.proofs.Standing.{clause-fits}
use Rattle.importing.proofs.LineTexts.{line_text, line_of}
use Rattle.importing.proofs.Checking.{none-empty}

-- a table within the limits has short names
pub short : (text : List ℕ) (t : Symbols) → LimitedTable text t → ShortNames t.signature
short text t h =
    short-names text t.signature h.readable
    (all-imply symbol_ok (λ (f : Symbol). is_name f.name) (signature_in text t.signature) (λ f. and_right (leb f.arity 3) (is_name f.name)) h.symbols-ok)

-- the lines of statements
abbrev pub lines_of : List Statement → List ℕ
lines_of ss = concat_map (λ (s : Statement). line_text s.clause) ss

-- where each entry has a word, they are the lines of the clauses
lines-over : (g : Signature) (ss : List Statement) → all (λ (s : Statement). entries_fit g [] (clause_entries s.clause)) ss ≡ true
    → lines_of ss ≡ lines_of_clauses g (map (clause_over g) (map (λ (s : Statement). s.clause) ss))
lines-over g [] h = refl
lines-over g (s ∷ ss) h =
    let rest = all (λ (s : Statement). entries_fit g [] (clause_entries s.clause)) ss in
    ap (λ (l : List ℕ). l ++ lines_of ss) (sym (line_of g s.clause (and_left (entries_fit g [] (clause_entries s.clause)) rest h)))
    ∙ ap (λ (l : List ℕ). clause_line g (clause_words (clause_over g s.clause)) ++ l) (lines-over g ss (and_right (entries_fit g [] (clause_entries s.clause)) rest h))

module _ (text : List ℕ) (clean : first_of_statements text ≡ none) (t : Symbols) (h : LimitedTable text t) (T : TableOf text (declared_in (read_file text).statements) t) where
  abbrev ss : List Statement
  ss = (read_file text).statements

  abbrev cs : List NameClause
  cs = clauses_of_file (read_file text)

  abbrev p : Problem
  p = problem_of cs

  abbrev g : Signature
  g = p.symbols

  told : TableSays text (declared_in ss) t
  told = says text (declared_in ss) t h T

  same-symbols : signature_by (declared_in ss) ≡ g
  unfolding signature_of problem_of
  same-symbols = ap signature_by (sym (concat_map-map (λ (c : NameClause). declared_by c) (λ (s : Statement). s.clause) ss))

  formed : WellFormed p
  formed = problem-formed ss (none-empty (faults_from (signature_of cs) 0 ss) (sym (order.stream ss) ∙ clean))

  -- each clause is accepted, and its symbols are named
  accepted : all (λ (s : Statement). clause_accepted g (clause_over g s.clause)) ss ≡ true
  unfolding problem_of
  accepted =
      sym (all_map (λ (c : NameClause). clause_accepted g (clause_over g c)) (λ (s : Statement). s.clause) ss) ∙ sym (all_map (clause_accepted g) (clause_over g) cs) ∙ formed.clauses-accepted

  all_named : all (λ (s : Statement). all (named g) (declared_by s.clause)) ss ≡ true
  all_named =
      sym (all-concat_map (named g) (λ (s : Statement). declared_by s.clause) ss) ∙ subst (λ (u : Signature). all (named u) (declared_in ss) ≡ true) same-symbols told.named

  fits : all (λ (s : Statement). entries_fit g [] (clause_entries s.clause)) ss ≡ true
  fits =
      all-imply (λ (s : Statement). clause_accepted g (clause_over g s.clause) && all (named g) (declared_by s.clause)) (λ (s : Statement). entries_fit g [] (clause_entries s.clause)) ss
      (λ s k.
      let c : Clause = clause_over g s.clause in
      let taken = and_left (clause_accepted g c) (all (named g) (declared_by s.clause)) k in
      clause-fits g s.clause (and_right (clause_ok g c && within_limits (clause_words c) c) (all is_known_letter (clause_words c)) taken) (and_right (clause_accepted g c) (all (named g) (declared_by s.clause)) k))
      (all-and (λ (s : Statement). clause_accepted g (clause_over g s.clause)) (λ (s : Statement). all (named g) (declared_by s.clause)) ss accepted all_named)

  pub all_lines : lines_of ss ≡ lines_in text
  unfolding problem_of
  all_lines = lines-over g ss fits

  -- the head, then the lines, are the sheet
  pub sheet-is : (n : ℕ) → n ≡ length ss → head_text (signature_in text t.signature) t.functions n ++ lines_in text ≡ sheet_of text
  unfolding problem_of
  sheet-is n e =
      let u : signature_in text t.signature ≡ g = T.symbols ∙ same-symbols in
      let m : n ≡ length p.clauses = e ∙ sym (length-map ss (λ (s : Statement). s.clause)) ∙ sym (length-map cs (clause_over g)) in
      ap (λ (v : Signature). head_text v t.functions n ++ lines_in text) u
      ∙ ap (λ (k : ℕ). head_text g t.functions k ++ lines_in text) m
      ∙ sheet-parts p t.functions (subst (λ (v : Signature). functions v ≡ take t.functions v) same-symbols told.functions-first)
      (subst (λ (v : Signature). predicates v ≡ drop t.functions v) same-symbols told.predicates-last)

-- of a clean survey
pub sheet-of : (text : List ℕ) (r : Survey) → CleanSurvey text r → head_text (signature_in text r.table.signature) r.table.functions r.count ++ lines_in text ≡ sheet_of text
sheet-of text r k = sheet-is text k.clean r.table k.limited k.table r.count k.count

-- the length of it, and its two parts written one after the other
module _ (text : List ℕ) (r : Survey) (k : CleanSurvey text r) where
  abbrev head : List ℕ
  head = head_text (signature_in text r.table.signature) r.table.functions r.count

  pub sheet-length-is : length (sheet_of text) ≡ length head + r.length
  sheet-length-is = ap length (sym (sheet-of text r k)) ∙ length-append head (lines_in text) ∙ ap (λ (n : ℕ). length head + n) (sym k.measured)

  module _ (lines : List ℕ) (held : LinesHeld text lines r) (room : length (sheet_of text) ≤ length lines) where
    -- the lines as they are lent
    pub lent : take (r.length - 0) lines ≡ lines_in text
    lent = let n : r.length - 0 ≡ r.length = omega arith in ap (λ (m : ℕ). take m lines) n ∙ held (omega (arith, room, sheet-length-is))

    pub sheet-written : (l l' l'' : List ℕ) (e : ℕ) → length (sheet_of text) ≤ length l → l' ≡ put l 0 head → e ≡ 0 + length head → l'' ≡ put l' e (take (r.length - 0) lines) → l'' ≡ put l 0 (sheet_of text)
    sheet-written l l' l'' e fits p n q =
        put-run l l' l'' 0 e head (take (r.length - 0) lines) p n q (omega (arith, n, fits, sheet-length-is, ap length lent, k.measured))
        ∙ ap (λ (v : List ℕ). put l 0 (head ++ v)) lent
        ∙ ap (put l 0) (sheet-of text r k)
