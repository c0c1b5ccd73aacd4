-- The survey statement by statement: those up to a place are whole and clean.
use Prim.Native.Nat.{ℕ, suc, ◌+◌, ◌*◌, ◌≤◌}
use mathlib.Core.Path.{◌≡◌, refl, sym, ap, ◌∙◌, subst}
use mathlib.Core.Option.{Option, none, some}
use mathlib.Core.List.{List, [], ◌∷◌, ◌++◌, append_assoc, append-nil}
use native.Mathlib.Omega.{arith}
use lib.ListN.{length, take, length-append}
use Rattle.theory.specs.Syntax.{Symbol}
use Rattle.theory.specs.Least.{or_else}
use Rattle.theory.specs.Problem.{max_clauses}
use Rattle.theory.proofs.Lists.{concat_map-append}
use Rattle.text.specs.Put.{put, take_put}
use Rattle.syntax.specs.Signatures.{signature_in}
use Rattle.syntax.specs.Codes.{words_in}
use Rattle.tptp.specs.Grammar.{statement}
use Rattle.tptp.specs.Trees.{Statement, statement_of}
use Rattle.tptp.specs.Tptp.{File, foreign_at, with_statement, read_file, Fault}
use Rattle.tptp.specs.Claims.Order.{declared_by, first_fault_from}
use Rattle.tptp.specs.Claims.Deciding.{first_of_statements, declared_in}
use Rattle.tptp.proofs.Deciding.{by-statement, by-foreign, after-clean}
use Rattle.tokens.specs.NextTokens.{tokens_at}
use Rattle.statements.specs.Follows.{own_tokens, file_at, ForeignFrom, WholeAt}
use Rattle.statements.proofs.Wholes.{file-begins, file-whole, file-ends, file-foreign}
use Rattle.declaring.specs.declared.symbols.Symbols.{Symbols}
use Rattle.declaring.specs.Tables.{TableOf, LimitedTable}
use Rattle.sheet_text.specs.Parts.{Writable, clause_line}
use Rattle.syntax.specs.declared.faults.Fault.TheVariants as fault
use Rattle.importing.specs.declared.faults.TextFault.{TextFault}
use Rattle.importing.specs.declared.survey.Checked.{Checked}
use Rattle.importing.specs.Surveys.{LineWords, StatementStands, StatementClean, StatementFaulty, lines_in, CleanSurvey, LinesHeld, TextRefused}
use Rattle.importing.specs.Noting.{fault_of}
use Rattle.importing.proofs.LineTexts.{line_text, line_of}
use Rattle.importing.proofs.SheetLines.{lines_of, all_lines}

-- the statements before a place are whole and clean, and their lines stand at the front, where they have room there
pub record SurveyedTo (text : List ℕ) (table : Symbols) (count len at : ℕ) (lines : List ℕ) : Type 0 where
  pub done : List Statement
  pub statements : (read_file text).statements ≡ done ++ (file_at text at).statements
  pub foreign : (read_file text).foreign ≡ (file_at text at).foreign
  pub clean : first_fault_from [] 0 done ≡ none
  pub limited : LimitedTable text table
  pub declared : TableOf text (declared_in done) table
  pub counted : count ≡ length done
  pub few : count ≤ max_clauses
  pub measured : len ≡ length (lines_of done)
  pub small : len ≤ 840 * count
  pub held : len ≤ length lines → take len lines ≡ lines_of done
  pub within : at ≤ length text

pub begins : (text : List ℕ) (table : Symbols) (lines : List ℕ) → LimitedTable text table → TableOf text [] table → SurveyedTo text table 0 0 0 lines
begins text table lines h T =
    record {
      done = [];
      statements = ap (λ (f : File). f.statements) (file-begins text);
      foreign = ap (λ (f : File). f.foreign) (file-begins text);
      clean = refl;
      limited = h;
      declared = T;
      counted = refl;
      few = omega arith;
      measured = refl;
      small = omega arith;
      held = λ _. refl;
      within = omega arith;
    }

module _ (text : List ℕ) (table : Symbols) (count len at : ℕ) (lines : List ℕ) (q : SurveyedTo text table count len at lines) where
  abbrev X : List Symbol
  X = declared_in q.done

  -- the first fault is that of the statements from the place on
  first-of-rest : (rest : List Statement) → (file_at text at).statements ≡ rest → first_of_statements text ≡ first_fault_from X count rest
  first-of-rest rest e =
      let n : 0 + length q.done ≡ count = omega (arith, q.counted) in
      ap (first_fault_from [] 0) (q.statements ∙ ap (λ (ss : List Statement). q.done ++ ss) e)
      ∙ after-clean q.done rest [] 0 q.clean
      ∙ ap (λ (k : ℕ). first_fault_from X k rest) n

  pub ends : tokens_at text at ≡ [] → CleanSurvey text (record { table = table; count = count; length = len }) × LinesHeld text lines (record { table = table; count = count; length = len })
  ends h =
      let f : file_at text at ≡ foreign_at none = file-ends text at h in
      let all : q.done ≡ (read_file text).statements = sym (q.statements ∙ ap (λ (f : File). q.done ++ f.statements) f ∙ append-nil q.done) in
      let clean : first_of_statements text ≡ none = ap (first_fault_from [] 0) (sym all) ∙ q.clean in
      let T : TableOf text (declared_in (read_file text).statements) table = subst (λ (ss : List Statement). TableOf text (declared_in ss) table) all q.declared in
      let same_lines : lines_of q.done ≡ lines_in text = ap lines_of all ∙ all_lines text clean table q.limited T in (
        record {
          foreign = q.foreign ∙ ap (λ (f : File). f.foreign) f;
          clean = clean;
          limited = q.limited;
          table = T;
          count = q.counted ∙ ap length all;
          few = q.few;
          measured = q.measured ∙ ap length same_lines;
          short = omega (arith, q.small, q.few);
        },
        λ h. q.held h ∙ same_lines,
      )

  pub foreign_next : (p : ℕ) → ForeignFrom text statement at p → TextRefused text (record { fault = fault.Token; place = p })
  foreign_next p h =
      let f : file_at text at ≡ foreign_at (some p) = file-foreign text at p h in
      record {
        refused = λ room. by-foreign text room p (first-of-rest [] (ap (λ (f : File). f.statements) f)) (q.foreign ∙ ap (λ (f : File). f.foreign) f);
        within = h.within;
      }

  -- a whole statement next
  module _ (start stop end : ℕ) (w : WholeAt text at start stop end) where
    abbrev s : Statement
    s = statement_of (own_tokens text at)

    next : file_at text at ≡ with_statement s (file_at text end)
    next = file-whole text at stop end w.whole

    pub standing : StatementStands text start stop table
    standing = record { at = at; end = end; whole = w; limited = q.limited; symbols = X; table = q.declared }

    pub faulty : (f : TextFault) → StatementFaulty text s count table f → TextRefused text f
    faulty f k =
        let rest : List Statement = (file_at text end).statements in
        record {
          refused = λ room.
              by-statement text room (fault_of f)
              (first-of-rest (s ∷ rest) (ap (λ (f : File). f.statements) next)
              ∙ ap (λ (o : Option Fault). or_else o (first_fault_from (X ++ declared_by s.clause) (suc count) rest)) (k.fault X q.declared));
          within = k.within;
        }

    module _ (r : Checked) (k : StatementClean text s count table r) where
      abbrev done₁ : List Statement
      done₁ = q.done ++ (s ∷ [])

      abbrev line : List ℕ
      line = clause_line (signature_in text r.table.signature) (words_in r.words)

      own-clean : first_fault_from [] 0 done₁ ≡ none
      own-clean =
          let n : 0 + length q.done ≡ count = omega (arith, q.counted) in
          after-clean q.done (s ∷ []) [] 0 q.clean
          ∙ ap (λ (k : ℕ). first_fault_from X k (s ∷ [])) n
          ∙ ap (λ (o : Option Fault). or_else o none) (k.clean X q.declared)

      both-declared : declared_in done₁ ≡ X ++ declared_by s.clause
      both-declared = concat_map-append (λ (s : Statement). declared_by s.clause) q.done (s ∷ []) ∙ ap (λ (ys : List Symbol). X ++ ys) (append-nil (declared_by s.clause))

      own-words : LineWords text r.table.signature s.clause r.words
      own-words = k.words X q.declared

      both-lines : lines_of q.done ++ line ≡ lines_of done₁
      both-lines =
          let g = signature_in text r.table.signature in
          ap (λ (l : List ℕ). lines_of q.done ++ l) (ap (clause_line g) own-words.words ∙ line_of g s.clause own-words.fit ∙ sym (append-nil (line_text s.clause)))
          ∙ sym (concat_map-append (λ (s : Statement). line_text s.clause) q.done (s ∷ []))

      pub line-writable : Writable text r.table.signature r.words
      line-writable = own-words.writable

      pub on : (lines' : List ℕ) (m : ℕ) → length lines' ≡ length lines → m ≡ len + length line → m ≤ len + 840 → (m ≤ length lines → lines' ≡ put lines len line) → SurveyedTo text r.table (count + 1) m end lines'
      on lines' m same e short put-so =
          record {
            done = done₁;
            statements = q.statements ∙ ap (λ (f : File). q.done ++ f.statements) next ∙ sym (append_assoc q.done (s ∷ []) (file_at text end).statements);
            foreign = q.foreign ∙ ap (λ (f : File). f.foreign) next;
            clean = own-clean;
            limited = k.limited;
            declared = subst (λ (Y : List Symbol). TableOf text Y r.table) (sym both-declared) (k.table X q.declared);
            counted = omega (arith, q.counted, length-append q.done (s ∷ []));
            few = omega (arith, k.few);
            measured = omega (arith, e, q.measured, ap length both-lines, length-append (lines_of q.done) line);
            small = omega (arith, short, q.small);
            held = λ h.
                let room : m ≤ length lines = omega (arith, h, same) in
                ap (λ (n : ℕ). take n lines') e
                ∙ ap (take (len + length line)) (put-so room)
                ∙ take_put lines len line (omega (arith, room, e))
                ∙ ap (λ (l : List ℕ). l ++ line) (q.held (omega (arith, room, e)))
                ∙ both-lines;
            within = w.whole.within;
          }
