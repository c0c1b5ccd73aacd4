-- One whole statement: what is told of it by its cnf, its occurrences and its limits.
use Prim.Native.Nat.{ℕ, ◌+◌, ◌≤◌, ◌<◌}
use mathlib.Core.Path.{◌≡◌, refl, sym, ap, ◌∙◌, subst}
use mathlib.Core.Bool.{Bool, true, false, not, ◌&&◌}
use mathlib.Core.Option.{Option, none, some}
use mathlib.Core.List.{List, [], ◌∷◌, ◌++◌}
use native.Mathlib.Omega.{arith}
use lib.Dec.{leb}
use lib.ListN.{length}
use lib.Seq.{take_all}
use borrow.Author.Tests.{le-leb, lt-leb}
use Rattle.theory.specs.Lists.{all, concat_map}
use Rattle.theory.specs.Syntax as theory
use Rattle.theory.specs.Grammar.{Word, clause_words}
use Rattle.theory.specs.Flattening.{flatten, variable_count}
use Rattle.theory.specs.Least.{or_else}
use Rattle.theory.specs.Problem.{within_limits}
use Rattle.theory.specs.WellFormed.{is_known_letter}
use Rattle.theory.proofs.Tests.{and_left, and_right}
use Rattle.theory.proofs.Lists.{all_append}
use Rattle.theory.proofs.Grammar.{read_clause-complete}
use Rattle.syntax.specs.declared.signature.Signature.{Signature}
use Rattle.syntax.specs.Signatures.{signature_in}
use Rattle.syntax.specs.declared.words.ClauseWords.{ClauseWords}
use Rattle.syntax.specs.Codes.{words_in, is_known}
use Rattle.clauses.specs.declared.clause.Words.{Words}
use Rattle.clauses.specs.Names.{Readable}
use Rattle.clauses.specs.Clauses.{Passed, codes_of, WholeClause}
use Rattle.tptp.specs.Grammar.{opening}
use Rattle.tptp.specs.Trees.{NameClause, Statement, statement_of}
use Rattle.tptp.specs.Symbols.{Occurrence, clause_occurrences, variables_of, clause_over}
use Rattle.tptp.specs.Scanning.{clause_entries, occurrence_in}
use Rattle.tptp.specs.Tptp.{Fault, fault_if}
use Rattle.tptp.specs.Claims.Order.{first_fault, declared_by, signature_by}
use Rattle.tptp.specs.Claims.Deciding.{first_of_occurrences, first_of_limits}
use Rattle.tptp.proofs.Stepping.{entry-occurrences}
use Rattle.tptp.proofs.Deciding.{one_by_one, of-statement}
use Rattle.tptp.proofs.Taken.{named, clean, occurrences-clean, clause-fine}
use Rattle.statements.specs.Follows.{own_tokens, Inside, WholeAt}
use Rattle.statements.proofs.Wholes.{statement-start, statement-stop}
use Rattle.scanning.specs.Taking.{entries_from}
use Rattle.scanning.proofs.WholeEntered.{whole-entries}
use Rattle.declaring.specs.declared.symbols.Symbols.{Symbols}
use Rattle.declaring.specs.Tables.{TableOf, LimitedTable}
use Rattle.declaring.proofs.Tables.{says}
use Rattle.importing.specs.declared.faults.TextFault.{TextFault}
use Rattle.syntax.specs.declared.faults.Fault.TheVariants as fault
use Rattle.importing.specs.Entered.{entry_words, entries_fit}
use Rattle.importing.specs.Words.{StatementCoded}
use Rattle.importing.specs.Noting.{fault_of, occurrences_from, declared_of, StatementTaken, StatementRefused}
use Rattle.importing.specs.Surveys.{LineWords, fault_after, StatementClean, StatementFaulty}
use Rattle.importing.proofs.EntryLists.{words-length, clause-words}
use Rattle.importing.proofs.Standing.{clause-fits, entries-known}

-- the clause c stands from a place on, and is over the signature
pub record ClauseStands (text : List ℕ) (s : Signature) (at : ℕ) (c : NameClause) : Type 0 where
  pub rest : Inside text opening at
  pub entered : entries_from text opening at ≡ clause_entries c
  pub readable : Readable text s
  pub fit : entries_fit (signature_in text s) [] (clause_entries c) ≡ true
  pub over : theory.clause_ok (signature_in text s) (clause_over (signature_in text s) c) ≡ true

-- its words
module _ (text : List ℕ) (s : Signature) (at : ℕ) (c : NameClause) (k : ClauseStands text s at c) where
  abbrev g : theory.Signature
  g = signature_in text s

  abbrev over : theory.Clause
  over = clause_over g c

  pub entries_fit-is : entries_fit g [] (entries_from text opening at) ≡ true
  entries_fit-is = ap (entries_fit g []) k.entered ∙ k.fit

  module _ (w : Words) (coded : StatementCoded g (entries_from text opening at) w) where
    abbrev words_are : entry_words g [] (entries_from text opening at) ≡ clause_words over
    words_are = ap (entry_words g []) k.entered ∙ clause-words g c

    abbrev words-known : all (is_known g) (clause_words over) ≡ true
    words-known = ap (all (is_known g)) (sym (clause-words g c)) ∙ entries-known g c k.fit

    pub too_long : 64 < w.count → within_limits (clause_words over) over ≡ false
    unfolding within_limits
    too_long h =
        let n : length (clause_words over) ≡ length (entries_from text opening at) = ap length (sym words_are) ∙ words-length g (entries_from text opening at) [] in
        ap (λ (b : Bool). b && leb (length over) 16 && leb (variable_count (flatten over)) 10) (lt-leb (length (clause_words over)) 64 (omega (arith, coded.long h, n)))

    module _ (h : w.count ≤ 64) where
      abbrev whole : Passed g (clause_words over) w
      whole = subst (λ (ws : List Word). Passed g ws w) words_are (coded.whole h)

      abbrev pub whole-clause : WholeClause s w
      whole-clause = record { sheet = text; limited = k.readable.limited; words = clause_words over; passed = whole; known = words-known; clause = over; read = read_clause-complete g over k.over }

      pub line-words : LineWords text s c (codes_of w)
      line-words =
          let codes : words_in (codes_of w) ≡ clause_words over = whole.codes ∙ take_all 64 (clause_words over) (omega (arith, h, whole.count)) in
          record { writable = record { readable = k.readable; fits = h; known = ap (all (is_known g)) codes ∙ words-known }; words = codes; fit = k.fit }

-- no fault is first only of none
pub none-empty : (fs : List Fault) → first_fault fs ≡ none → fs ≡ []
none-empty [] e = refl
none-empty (f ∷ fs) e = let z : ◌≡◌ {A = ℕ} 0 1 = cc in absurd (omega arith)

-- a clause without faults of occurrences stands over the symbols that have then appeared
module _ (text : List ℕ) (c : NameClause) (X : List theory.Symbol) (t : Symbols) (h : LimitedTable text t) (T : TableOf text (X ++ declared_by c) t) where
  abbrev sofar : theory.Signature
  sofar = signature_by (X ++ declared_by c)

  own-named : all (named sofar) (declared_by c) ≡ true
  own-named = and_right (all (named sofar) X) (all (named sofar) (declared_by c)) (sym (all_append (named sofar) X (declared_by c)) ∙ (says text (X ++ declared_by c) t h T).named)

  stands_after : (at : ℕ) → Inside text opening at → entries_from text opening at ≡ clause_entries c → first_of_occurrences X [] (clause_occurrences c) ≡ none → ClauseStands text t.signature at c
  unfolding variables_of
  stands_after at rest entered None-found =
      let d : theory.Clause = clause_over sofar c in
      let sound : clean sofar (variables_of c) (clause_occurrences c) ≡ true = occurrences-clean sofar (variables_of c) (clause_occurrences c) (none-empty _ (one_by_one (clause_occurrences c) X [] ∙ None-found)) in
      let fine : (theory.clause_ok sofar d && all is_known_letter (clause_words d)) ≡ true = clause-fine sofar c sound own-named in
      record {
        rest = rest;
        entered = entered;
        readable = h.readable;
        fit = ap (λ (u : theory.Signature). entries_fit u [] (clause_entries c)) T.symbols ∙ clause-fits sofar c (and_right (theory.clause_ok sofar d) (all is_known_letter (clause_words d)) fine) own-named;
        over = ap (λ (u : theory.Signature). theory.clause_ok u (clause_over u c)) T.symbols ∙ and_left (theory.clause_ok sofar d) (all is_known_letter (clause_words d)) fine;
      }

-- a whole statement after i others
module _ (text : List ℕ) (at start stop end i : ℕ) (w : WholeAt text at start stop end) (t : Symbols) where
  abbrev s : Statement
  s = statement_of (own_tokens text at)

  own-occurrences : occurrences_from text opening (start + 3) ≡ clause_occurrences s.clause
  own-occurrences = ap (concat_map occurrence_in) (whole-entries text at start stop end w) ∙ entry-occurrences s.clause

  -- refused with the limits of a text
  limits-at : (p : ℕ) → p ≤ length text → ((X : List theory.Symbol) → TableOf text X t → fault_after X i s ≡ some (record { number = 17; place = p })) → StatementFaulty text s i t (record { fault = fault.TextLimits; place = p })
  limits-at p l told = record { fault = told; within = l }

  -- one clause too many
  pub too_many : 64 ≤ i → StatementFaulty text s i t (record { fault = fault.TextLimits; place = start })
  too_many h =
      limits-at start (omega (arith, w.past, w.whole.within)) λ X T.
      of-statement X i s
      ∙ ap (λ (b : Bool). or_else (first_fault (fault_if b 17 s.start)) (or_else (first_of_occurrences X [] (clause_occurrences s.clause)) (first_of_limits X s))) (le-leb 64 i h)
      ∙ ap (λ (p : ℕ). some (record { number = 17; place = p })) (statement-start text at start stop end w)

  module _ (few : i < 64) where
    after-cnf : (X : List theory.Symbol) (o : Option Fault) → first_of_occurrences X [] (occurrences_from text opening (start + 3)) ≡ o → fault_after X i s ≡ or_else o (first_of_limits X s)
    after-cnf X o e =
        of-statement X i s
        ∙ ap (λ (b : Bool). or_else (first_fault (fault_if b 17 s.start)) (or_else (first_of_occurrences X [] (clause_occurrences s.clause)) (first_of_limits X s))) (lt-leb 64 i few)
        ∙ ap (λ (o : Option Fault). or_else o (first_of_limits X s)) (ap (first_of_occurrences X []) (sym own-occurrences) ∙ e)

    -- a symbol or a variable has a fault
    pub occurrence-faulty : (f : TextFault) → StatementRefused text t (occurrences_from text opening (start + 3)) f → StatementFaulty text s i t f
    occurrence-faulty f n = record { fault = λ X T. after-cnf X (some (fault_of f)) (n.fault X T); within = n.within }

    module _ (noted : Symbols) (n : StatementTaken text t (occurrences_from text opening (start + 3)) noted) where
      own-table : (X : List theory.Symbol) → TableOf text X t → TableOf text (X ++ declared_by s.clause) noted
      own-table X T = subst (λ (os : List Occurrence). TableOf text (X ++ declared_of os) noted) own-occurrences (n.table X T)

      pub stands : (X : List theory.Symbol) → TableOf text X t → ClauseStands text noted.signature (start + 3) s.clause
      stands X T =
          stands_after text s.clause X noted n.limited (own-table X T) (start + 3) w.rest (whole-entries text at start stop end w) (ap (first_of_occurrences X []) (sym own-occurrences) ∙ n.clean X T)

      -- the clause over the symbols of the table
      abbrev clause : theory.Clause
      clause = clause_over (signature_in text noted.signature) s.clause

      by-limits : (fits : Bool) (X : List theory.Symbol) → TableOf text X t → within_limits (clause_words clause) clause ≡ fits → fault_after X i s ≡ first_fault (fault_if (not fits) 17 stop)
      by-limits fits X T e =
          after-cnf X none (n.clean X T)
          ∙ ap (λ (u : theory.Signature). first_fault (fault_if (not (within_limits (clause_words (clause_over u s.clause)) (clause_over u s.clause))) 17 s.stop)) (sym (own-table X T).symbols)
          ∙ ap (λ (b : Bool). first_fault (fault_if (not b) 17 s.stop)) e
          ∙ ap (λ (p : ℕ). first_fault (fault_if (not fits) 17 p)) (statement-stop text at stop end w.whole)

      module _ (v : Words) (coded : StatementCoded (signature_in text noted.signature) (entries_from text opening (start + 3)) v) where
        over-limit : ((X : List theory.Symbol) → TableOf text X t → within_limits (clause_words clause) clause ≡ false) → StatementFaulty text s i t (record { fault = fault.TextLimits; place = stop })
        over-limit told = limits-at stop (omega (arith, w.whole.later, w.whole.within)) λ X T. by-limits false X T (told X T)

        -- too many words
        pub too-wordy : 64 < v.count → StatementFaulty text s i t (record { fault = fault.TextLimits; place = stop })
        too-wordy h = over-limit λ X T. too_long text noted.signature (start + 3) s.clause (stands X T) v coded h

        module _ (h : v.count ≤ 64) (fits : Bool) (told : (k : WholeClause noted.signature v) → fits ≡ within_limits k.words k.clause) where
          limits : (X : List theory.Symbol) → TableOf text X t → within_limits (clause_words clause) clause ≡ fits
          limits X T = sym (told (whole-clause text noted.signature (start + 3) s.clause (stands X T) v coded h))

          -- too many literals or flattened variables
          pub too_large : fits ≡ false → StatementFaulty text s i t (record { fault = fault.TextLimits; place = stop })
          too_large over = over-limit λ X T. limits X T ∙ over

          pub no-fault : fits ≡ true → (ws : ClauseWords) → ws ≡ codes_of v → StatementClean text s i t (record { table = noted; words = ws })
          no-fault within ws e =
              record {
                clean = λ X T. by-limits true X T (limits X T ∙ within);
                limited = n.limited;
                table = own-table;
                words = λ X T. subst (LineWords text noted.signature s.clause) (sym e) (line-words text noted.signature (start + 3) s.clause (stands X T) v coded h);
                few = few;
              }
