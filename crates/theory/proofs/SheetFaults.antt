-- Where a sheet is refused: the lines before are ended by LF, and the line has the condition of the number given.
use Prim.Native.Nat.{ℕ, zero, suc, ◌+◌, ◌≤◌, ◌<◌}
use mathlib.Core.Path.{◌≡◌, refl, sym, ap, ◌∙◌, subst}
use mathlib.Core.Bool.{false, ◌&&◌, not}
use mathlib.Core.Option.{Option, none, some}
use mathlib.Core.List.{List, [], ◌∷◌, ◌++◌}
use native.Mathlib.Omega.{arith}
use lib.Dec.{leb}
use lib.ListN.{length, drop}
use Rattle.theory.specs.Lists.{same}
use Rattle.theory.specs.Bytes.{bytes}
use Rattle.theory.specs.Syntax.{Kind, function, predicate, Signature, Clause}
use Rattle.theory.specs.Refusals.{Refusal, answer, refused, at_line, unplaced, check, or_refuse}
use Rattle.theory.specs.Lines.{Cut, cut_line, after_key, count_of, words_of}
use Rattle.theory.specs.Grammar.{Word, read_clause}
use Rattle.theory.specs.Problem.{max_bytes, max_symbols, max_clauses, max_arity, key_line, count_line, is_name, symbol_of, is_named, symbol_lines, read_all, within_limits, clause_of, clause_lines, nothing_left, read_problem}
use Rattle.theory.specs.LineForms.{ValueForm, no_bytes, count_digits, declaration, any_words, LineForm, keyed, no_line, is_some, has_form, value_has_form, line_has_form, is_laid_out}
use Rattle.theory.specs.DueLines.{first_line, from_line, count_on, functions_said, predicates_said, clauses_said, due_in_sheet, sheet_symbols}
use Rattle.theory.specs.Columns.{value_column, number_column, line_words}
use Rattle.theory.specs.Claims.Columns.{limit_of, OverNumber, BadName}
use Rattle.theory.proofs.Answers.{or_refuse-some, RefusedSo, bind-so, check-so, or_refuse-so, refused-so}
use Rattle.theory.proofs.LinesBefore.{Cuts, ReadUpTo}
use Rattle.theory.proofs.DueLines.{function_form, clause_form, heading-due, due-fun, due-preds, due-pred, due-clauses, due-clause, due-end}
use Rattle.theory.proofs.SheetLines.{any-kind, KeyCut, key-cut, key-form, at_next, count_cut, declared-lines, clauses-next, declared-read}
use Rattle.theory.proofs.SymbolColumns.{over-count, over-arity, NamedBefore, named_none, named-later, named-one, named-lines, over-number, bad-name}

module _ (text : List ℕ) where
  -- the words of line l
  abbrev words_on : ℕ → List (List ℕ)
  words_on l = line_words (due_in_sheet text l) (first_line (from_line l text))

  -- a clause is due on line l, and a word of it is unknown
  pub record UnknownOn (l : ℕ) : Type 0 where
    pub due : due_in_sheet text l ≡ clause_form
    pub unknown : read_all (sheet_symbols text) (words_on l) ≡ none

  -- its words are known and no clause
  pub record NoClauseOn (l : ℕ) : Type 0 where
    pub due : due_in_sheet text l ≡ clause_form
    pub known : List Word
    pub read : read_all (sheet_symbols text) (words_on l) ≡ some known
    pub no_clause : read_clause (sheet_symbols text) known ≡ none

  -- its words are a clause, over a limit
  pub record OverOn (l : ℕ) : Type 0 where
    pub due : due_in_sheet text l ≡ clause_form
    pub known : List Word
    pub read : read_all (sheet_symbols text) (words_on l) ≡ some known
    pub clause : Clause
    pub is : read_clause (sheet_symbols text) known ≡ some clause
    pub over : within_limits known clause ≡ false

  -- line l has the condition of refusal n; no other refusal names a line of a sheet
  abbrev pub HasFault : ℕ → ℕ → Type 0
  HasFault zero l = ⊥
  HasFault (suc zero) l = ⊥
  HasFault (suc (suc zero)) l = is_laid_out (due_in_sheet text l) (from_line l text) ≡ false
  HasFault (suc (suc (suc zero))) l = OverNumber (due_in_sheet text l) (first_line (from_line l text)) (number_column (due_in_sheet text l) (first_line (from_line l text)))
  HasFault (suc (suc (suc (suc zero)))) l = BadName text l (value_column (due_in_sheet text l))
  HasFault (suc (suc (suc (suc (suc zero))))) l = UnknownOn l
  HasFault (suc (suc (suc (suc (suc (suc zero)))))) l = NoClauseOn l
  HasFault (suc (suc (suc (suc (suc (suc (suc zero))))))) l = OverOn l
  HasFault (suc (suc (suc (suc (suc (suc (suc (suc n)))))))) l = ⊥

  -- the numbers that a line can have
  pub fault-number : (n l : ℕ) → HasFault n l → (2 ≤ n) × (n ≤ 7)
  fault-number zero l f = absurd f
  fault-number (suc zero) l f = absurd f
  fault-number (suc (suc zero)) l f = (omega arith, omega arith)
  fault-number (suc (suc (suc zero))) l f = (omega arith, omega arith)
  fault-number (suc (suc (suc (suc zero)))) l f = (omega arith, omega arith)
  fault-number (suc (suc (suc (suc (suc zero))))) l f = (omega arith, omega arith)
  fault-number (suc (suc (suc (suc (suc (suc zero)))))) l f = (omega arith, omega arith)
  fault-number (suc (suc (suc (suc (suc (suc (suc zero))))))) l f = (omega arith, omega arith)
  fault-number (suc (suc (suc (suc (suc (suc (suc (suc n)))))))) l f = absurd f

  -- from 5 on a clause is due
  pub clause-due : (n l : ℕ) → 5 ≤ n → HasFault n l → due_in_sheet text l ≡ clause_form
  clause-due zero l h f = absurd f
  clause-due (suc zero) l h f = absurd f
  clause-due (suc (suc zero)) l h f = absurd (omega arith)
  clause-due (suc (suc (suc zero))) l h f = absurd (omega arith)
  clause-due (suc (suc (suc (suc zero)))) l h f = absurd (omega arith)
  clause-due (suc (suc (suc (suc (suc zero))))) l h f = f.due
  clause-due (suc (suc (suc (suc (suc (suc zero)))))) l h f = f.due
  clause-due (suc (suc (suc (suc (suc (suc (suc zero))))))) l h f = f.due
  clause-due (suc (suc (suc (suc (suc (suc (suc (suc n)))))))) l h f = absurd f

  -- the lines before line l are ended by LF, and it has the condition of n
  pub record LineFault (l n : ℕ) : Type 0 where
    pub cuts : Cuts l text
    pub has : HasFault n l

  -- the refusal, if it names a line, is of a fault there
  abbrev pub LineFaults : Refusal → Type 0
  LineFaults r = (l : ℕ) → r.place.line ≡ suc l → LineFault l r.number

  -- a refusal on a line
  pub site : (n l m : ℕ) (t : List ℕ) → l ≡ suc m → ReadUpTo text m t → HasFault n m → LineFaults (at_line n l)
  site n l m t e a f i h = let q : m ≡ i = omega (arith, e, h) in subst (λ (k : ℕ). LineFault k n) q (record { cuts = a.cuts; has = f })

  -- a line that is not as laid out
  not-laid : (l m : ℕ) (t : List ℕ) (d : LineForm) → l ≡ suc m → ReadUpTo text m t → due_in_sheet text m ≡ d → is_laid_out d t ≡ false → LineFaults (at_line 2 l)
  not-laid l m t d e a q h = site 2 l m t e a (ap (λ (d : LineForm). is_laid_out d (from_line m text)) q ∙ ap (is_laid_out d) a.here ∙ h)

  pub key_line-faults : (key : List ℕ) (x : ValueForm) (l m : ℕ) (t : List ℕ) → l ≡ suc m → ReadUpTo text m t → due_in_sheet text m ≡ keyed key x → RefusedSo LineFaults (key_line key l t)
  unfolding is_laid_out
  key_line-faults key x l m t e a d =
      bind-so LineFaults (or_refuse (cut_line t) (at_line 2 l)) _
      (or_refuse-so LineFaults (cut_line t) (at_line 2 l) (λ n. not-laid l m t (keyed key x) e a d (ap (line_has_form key x) n)))
      (λ p h. let c : cut_line t ≡ some p = or_refuse-some (cut_line t) (at_line 2 l) p h in
      bind-so LineFaults (or_refuse (after_key key p.0) (at_line 2 l)) _
      (or_refuse-so LineFaults (after_key key p.0) (at_line 2 l) (λ n. not-laid l m t (keyed key x) e a d (ap (line_has_form key x) c ∙ ap (value_has_form x) n))) (λ v _. tt))

  count_line-faults : (key : List ℕ) (l m : ℕ) (t : List ℕ) → l ≡ suc m → ReadUpTo text m t → due_in_sheet text m ≡ keyed key count_digits → RefusedSo LineFaults (count_line key (limit_of key) l t)
  unfolding count_line has_form
  count_line-faults key l m t e a d =
      bind-so LineFaults (key_line key l t) _ (key_line-faults key count_digits l m t e a d)
      (λ p h. let k = key-cut key l t p h in
      bind-so LineFaults (or_refuse (count_of p.0) (at_line 2 l)) _
      (or_refuse-so LineFaults (count_of p.0) (at_line 2 l) (λ n. not-laid l m t (keyed key count_digits) e a d (key-form key t p.0 p.1 count_digits k ∙ ap is_some n)))
      (λ n hn. bind-so LineFaults (check (leb n (limit_of key)) (at_line 3 l)) _
      (check-so LineFaults (leb n (limit_of key)) (at_line 3 l)
      (λ z. site 3 l m t e a (over-number text m t (keyed key count_digits) a d (over-count key t p.0 p.1 n k (or_refuse-some (count_of p.0) (at_line 2 l) n hn) z)))) (λ _ _. tt)))

  -- n lines of symbols
  symbol_lines-faults : (n : ℕ) (key : List ℕ) (k : Kind) (g : Signature) (l m : ℕ) (t : List ℕ) → l ≡ suc m → ReadUpTo text m t → ((i : ℕ) → i < n → due_in_sheet text (m + i) ≡ keyed key declaration) → NamedBefore text g m
      → RefusedSo LineFaults (symbol_lines n key k g l t)
  unfolding symbol_lines has_form
  symbol_lines-faults zero key k g l m t e a d b = tt
  symbol_lines-faults (suc n) key k g l m t e a d b =
      let m₀ : m + 0 ≡ m = omega arith in
      let d₀ : due_in_sheet text m ≡ keyed key declaration = ap (due_in_sheet text) (sym m₀) ∙ d 0 (omega arith) in
      let d₊ : (i : ℕ) → i < n → due_in_sheet text (suc m + i) ≡ keyed key declaration =
      λ i h. let q : suc m + i ≡ m + suc i = omega arith in ap (due_in_sheet text) q ∙ d (suc i) (omega arith) in
      bind-so LineFaults (key_line key l t) _ (key_line-faults key declaration l m t e a d₀)
      (λ p h. let y = key-cut key l t p h in
      bind-so LineFaults (or_refuse (symbol_of k p.0) (at_line 2 l)) _
      (or_refuse-so LineFaults (symbol_of k p.0) (at_line 2 l)
      (λ z. not-laid l m t (keyed key declaration) e a d₀ (key-form key t p.0 p.1 declaration y ∙ any-kind k p.0 ∙ ap is_some z)))
      (λ f hf. let s : symbol_of k p.0 ≡ some f = or_refuse-some (symbol_of k p.0) (at_line 2 l) f hf in
      bind-so LineFaults (check (leb f.arity max_arity) (at_line 3 l)) _
      (check-so LineFaults (leb f.arity max_arity) (at_line 3 l) (λ z. site 3 l m t e a (over-number text m t (keyed key declaration) a d₀ (over-arity key t p.0 p.1 k f y s z))))
      (λ _ _. bind-so LineFaults (check (is_name f.name && not (is_named f.name g)) (at_line 4 l)) _
      (check-so LineFaults (is_name f.name && not (is_named f.name g)) (at_line 4 l) (λ z. site 4 l m t e a (bad-name text key k g m t p.0 p.1 f a d₀ y s b z)))
      (λ _ _. symbol_lines-faults n key k (g ++ (f ∷ [])) (suc l) (suc m) p.1 (ap suc e) (at_next text m key t p.0 p.1 a y) d₊ (named-one text key k g m t p.0 p.1 f a d₀ y s b)))))

  -- the value of a clause line
  pub clause_of-faults : (g : Signature) (l m : ℕ) (t v rest : List ℕ) → l ≡ suc m → ReadUpTo text m t → KeyCut (bytes "clause=") t v rest → g ≡ sheet_symbols text → due_in_sheet text m ≡ clause_form
      → RefusedSo LineFaults (clause_of g l v)
  unfolding clause_of
  clause_of-faults g l m t v rest e a y q d =
      bind-so LineFaults (or_refuse (read_all g (words_of v)) (at_line 5 l)) _ (or_refuse-so LineFaults (read_all g (words_of v)) (at_line 5 l) (λ z. site 5 l m t e a (record { due = d; unknown = reads none z })))
      (λ ws h. let k = or_refuse-some (read_all g (words_of v)) (at_line 5 l) ws h in
      bind-so LineFaults (or_refuse (read_clause g ws) (at_line 6 l)) _ (or_refuse-so LineFaults (read_clause g ws) (at_line 6 l) (λ z. site 6 l m t e a (record { due = d; known = ws; read = reads (some ws) k; no_clause = clauses ws none z })))
      (λ c hc. bind-so LineFaults (check (within_limits ws c) (at_line 7 l)) _
      (check-so LineFaults (within_limits ws c) (at_line 7 l) (λ z. site 7 l m t e a (record { due = d; known = ws; read = reads (some ws) k; clause = c; is = clauses ws (some c) (or_refuse-some (read_clause g ws) (at_line 6 l) c hc); over = z }))) (λ _ _. tt)))
    where
      same-words : line_words (due_in_sheet text m) (first_line (from_line m text)) ≡ words_of v
      same-words = ap (λ (d : LineForm). line_words d (first_line (from_line m text))) d ∙ ap (λ (t : List ℕ). words_of (drop 7 (first_line t))) a.here ∙ ap words_of y.dropped

      reads : (o : Option (List Word)) → read_all g (words_of v) ≡ o → read_all (sheet_symbols text) (line_words (due_in_sheet text m) (first_line (from_line m text))) ≡ o
      reads o h = ap (read_all (sheet_symbols text)) same-words ∙ ap (λ (g : Signature). read_all g (words_of v)) (sym q) ∙ h

      clauses : (ws : List Word) (o : Option Clause) → read_clause g ws ≡ o → read_clause (sheet_symbols text) ws ≡ o
      clauses ws o h = ap (λ (g : Signature). read_clause g ws) (sym q) ∙ h

  clause_lines-faults : (n : ℕ) (g : Signature) (l m : ℕ) (t : List ℕ) → l ≡ suc m → ReadUpTo text m t → g ≡ sheet_symbols text → ((i : ℕ) → i < n → due_in_sheet text (m + i) ≡ clause_form)
      → RefusedSo LineFaults (clause_lines n g l t)
  unfolding clause_lines
  clause_lines-faults zero g l m t e a q d = tt
  clause_lines-faults (suc n) g l m t e a q d =
      let m₀ : m + 0 ≡ m = omega arith in
      let d₀ : due_in_sheet text m ≡ clause_form = ap (due_in_sheet text) (sym m₀) ∙ d 0 (omega arith) in
      let d₊ : (i : ℕ) → i < n → due_in_sheet text (suc m + i) ≡ clause_form =
      λ i h. let r : suc m + i ≡ m + suc i = omega arith in ap (due_in_sheet text) r ∙ d (suc i) (omega arith) in
      bind-so LineFaults (key_line (bytes "clause=") l t) _ (key_line-faults (bytes "clause=") any_words l m t e a d₀)
      (λ p h. let y = key-cut (bytes "clause=") l t p h in
      bind-so LineFaults (clause_of g l p.0) _ (clause_of-faults g l m t p.0 p.1 e a y q d₀)
      (λ c _. bind-so LineFaults (clause_lines n g (suc l) p.1) _ (clause_lines-faults n g (suc l) (suc m) p.1 (ap suc e) (at_next text m (bytes "clause=") t p.0 p.1 a y) q d₊) (λ _ _. tt)))

  heading-faults : (a : Cut) → key_line (bytes "sheet=1") 1 text ≡ answer a → same a.0 [] ≡ false → LineFaults (at_line 2 1)
  unfolding has_form due_in_sheet
  heading-faults a h e =
      not-laid 1 0 text (keyed (bytes "sheet=1") no_bytes) refl (record { cuts = tt; here = refl }) refl (key-form (bytes "sheet=1") text a.0 a.1 no_bytes (key-cut (bytes "sheet=1") 1 text a h) ∙ e)

  pub end-faults : (l m : ℕ) (t : List ℕ) → l ≡ suc m → ReadUpTo text m t → due_in_sheet text m ≡ no_line → RefusedSo LineFaults (nothing_left l t)
  unfolding is_laid_out
  end-faults l m t e a d = check-so LineFaults (same t []) (at_line 2 l) (not-laid l m t no_line e a d)

  read_problem-faults : RefusedSo LineFaults (read_problem text)
  unfolding read_problem
  read_problem-faults =
      let start : ReadUpTo text 0 text = record { cuts = tt; here = refl } in
      bind-so LineFaults (check (leb (length text) max_bytes) (unplaced 1)) _ (check-so LineFaults (leb (length text) max_bytes) (unplaced 1) (λ _ l e. absurd (omega arith)))
      (λ _ _. bind-so LineFaults (key_line (bytes "sheet=1") 1 text) _ (key_line-faults (bytes "sheet=1") no_bytes 1 0 text refl start (heading-due text).0)
      (λ a ha. let a₁ : ReadUpTo text 1 a.1 = at_next text 0 (bytes "sheet=1") text a.0 a.1 start (key-cut (bytes "sheet=1") 1 text a ha) in
      bind-so LineFaults (nothing_left 1 a.0) _ (check-so LineFaults (same a.0 []) (at_line 2 1) (heading-faults a ha))
      (λ _ _. bind-so LineFaults (count_line (bytes "funs=") max_symbols 2 a.1) _ (count_line-faults (bytes "funs=") 2 1 a.1 refl a₁ (heading-due text).1)
      (λ f hf. let cf = count_cut text (bytes "funs=") max_symbols 2 1 a.1 f a₁ hf in
      let F : functions_said text ≡ f.0 = cf.counted in
      let due₁ : (i : ℕ) → i < f.0 → due_in_sheet text (2 + i) ≡ function_form = λ i h. due-fun text f.0 F i (2 + i) h (omega arith) in
      bind-so LineFaults (symbol_lines f.0 (bytes "fun=") function [] 3 f.1) _
      (symbol_lines-faults f.0 (bytes "fun=") function [] 3 2 f.1 refl cf.next due₁ (named_none text 2))
      (λ fs hfs. let df = declared-lines text f.0 (bytes "fun=") function [] 3 2 f.1 fs cf.next hfs in
      let l₁ : 3 + f.0 ≡ suc (2 + f.0) = omega arith in
      bind-so LineFaults (count_line (bytes "preds=") max_symbols (3 + f.0) fs.1) _
      (count_line-faults (bytes "preds=") (3 + f.0) (2 + f.0) fs.1 l₁ df.next (due-preds text f.0 F (2 + f.0) (omega arith)))
      (λ p hp. let cp = count_cut text (bytes "preds=") max_symbols (3 + f.0) (2 + f.0) fs.1 p df.next hp in
      let P : predicates_said text ≡ p.0 = ap (λ (n : ℕ). count_on (bytes "preds=") (2 + n) text) F ∙ cp.counted in
      let m₂ : ℕ = suc (2 + f.0) in
      let l₂ : 4 + f.0 ≡ suc m₂ = omega arith in
      let named : NamedBefore text fs.0 m₂ = named-later text fs.0 (2 + f.0) m₂ (omega arith) (named-lines text f.0 (bytes "fun=") function [] 3 2 f.1 fs cf.next due₁ (named_none text 2) hfs) in
      bind-so LineFaults (symbol_lines p.0 (bytes "pred=") predicate fs.0 (4 + f.0) p.1) _
      (symbol_lines-faults p.0 (bytes "pred=") predicate fs.0 (4 + f.0) m₂ p.1 l₂ cp.next (λ i h. due-pred text f.0 F p.0 P i (m₂ + i) h (omega arith)) named)
      (λ g hg. let dg = declared-lines text p.0 (bytes "pred=") predicate fs.0 (4 + f.0) m₂ p.1 g cp.next hg in
      let l₃ : 4 + f.0 + p.0 ≡ suc (m₂ + p.0) = omega arith in
      bind-so LineFaults (count_line (bytes "clauses=") max_clauses (4 + f.0 + p.0) g.1) _
      (count_line-faults (bytes "clauses=") (4 + f.0 + p.0) (m₂ + p.0) g.1 l₃ dg.next (due-clauses text f.0 F p.0 P (m₂ + p.0) (omega arith)))
      (λ c hc. let cc' = count_cut text (bytes "clauses=") max_clauses (4 + f.0 + p.0) (m₂ + p.0) g.1 c dg.next hc in
      let m₃ : 3 + f.0 + p.0 ≡ m₂ + p.0 = omega arith in
      let C : clauses_said text ≡ c.0 =
      ap (λ (n : ℕ). count_on (bytes "clauses=") (3 + n + predicates_said text) text) F ∙ ap (λ (n : ℕ). count_on (bytes "clauses=") (3 + f.0 + n) text) P ∙ ap (λ (n : ℕ). count_on (bytes "clauses=") n text) m₃ ∙ cc'.counted in
      let m₄ : ℕ = suc (m₂ + p.0) in
      let l₄ : 5 + f.0 + p.0 ≡ suc m₄ = omega arith in
      bind-so LineFaults (clause_lines c.0 g.0 (5 + f.0 + p.0) c.1) _
      (clause_lines-faults c.0 g.0 (5 + f.0 + p.0) m₄ c.1 l₄ cc'.next (declared-read text f.0 p.0 f.1 p.1 fs g F P cf.next cp.next df dg)
      (λ i h. due-clause text f.0 F p.0 P c.0 C i (m₄ + i) h (omega arith)))
      (λ cs hcs. let l₅ : 5 + f.0 + p.0 + c.0 ≡ suc (m₄ + c.0) = omega arith in
      bind-so LineFaults (nothing_left (5 + f.0 + p.0 + c.0) cs.1) _
      (end-faults (5 + f.0 + p.0 + c.0) (m₄ + c.0) cs.1 l₅ (clauses-next text c.0 g.0 (5 + f.0 + p.0) m₄ c.1 cs cc'.next hcs)
      (due-end text f.0 F p.0 P c.0 C (m₄ + c.0) (omega arith))) (λ _ _. tt))))))))))

  -- a refusal of the sheet is of a fault on its line
  pub sheet-fault : (n l : ℕ) → read_problem text ≡ refused (at_line n (suc l)) → LineFault l n
  sheet-fault n l e = refused-so LineFaults (read_problem text) (at_line n (suc l)) read_problem-faults e l refl
