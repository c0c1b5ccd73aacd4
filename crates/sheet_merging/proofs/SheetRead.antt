-- Sheets and their texts: a sheet that is as it should be is read from its text, and every text that is read is that of such a sheet.
use Prim.Native.Nat.{ℕ, zero, suc, ◌+◌, ◌≤◌, ◌<◌}
use mathlib.Core.Path.{◌≡◌, refl, sym, ap, ◌∙◌, subst}
use mathlib.Core.Bool.{Bool, true, false, not, ◌&&◌, false≢true}
use mathlib.Core.Option.{some}
use mathlib.Core.List.{List, [], ◌∷◌, ◌++◌, map, append_assoc, append-nil}
use native.Mathlib.Omega.{arith}
use lib.Dec.{leb}
use lib.ListN.{length, drop, length-append, length-map, get_or-append}
use lib.Seq.{drop-append_seam, drop_at}
use Rattle.theory.specs.Lists.{all, same, concat_map}
use Rattle.theory.specs.Bytes.{bytes, decimal}
use Rattle.theory.specs.Lines.{Cut, after_key, words_of}
use Rattle.theory.specs.Syntax.{Kind, function, predicate, is_function, is_predicate, is_from_sheet, Symbol, Signature, all_declared, no_symbol, symbol_at, Clause, functions, predicates}
use Rattle.theory.specs.Grammar.{Word, read_clause}
use Rattle.theory.specs.Refusals.{Answer, answer, refused, at_line, unplaced, ◌>>=◌, or_refuse}
use Rattle.theory.specs.Problem.{symbol_of, symbol_lines, read_all, within_limits, clause_of, clause_lines, Problem, read_problem}
use Rattle.theory.proofs.Tests.{leb-of-≤, and_left, and_right, and-join}
use Rattle.theory.proofs.Lists.{all_append, all-imply, all_map, concat_map-map, concat_map-append, same_true, select-append, select-all, select-none}
use Rattle.theory.proofs.Declared.{function-kind, predicate-kind}
use Rattle.theory.proofs.Answers.{unbind, answer-inj, bind-step, check-true, check-of-true, or_refuse-some, or_refuse-of-some}
use Rattle.theory.proofs.Lines.{in_line, after-key, key-only}
use Rattle.theory.proofs.SheetRead.{line_read, count-read, symbols-read}
use Rattle.theory.proofs.Parsing.{Added, symbol_lines-added, read_problem-bytes}
use Rattle.theory.specs.WellFormed.{symbol_ok, NamesDiffer}
use Rattle.theory.specs.SheetText.{symbol_text}
use Rattle.sheet_merging.specs.Sheets.{Sheet, cut_lines, sheet_of, ended, text_of}
use Rattle.sheet_merging.proofs.SheetLines.{count_text, declaration_text, cut_lines-line, cut_lines-lines, KeyLine, key-exact, count-in_line, count-exact, declaration-in_line, symbol-only}

-- The clause that a clause line is read as, on whatever line of the sheet it stands.
unfoldable pub line_clause : Signature → List ℕ → Answer Clause
line_clause g l = or_refuse (after_key (bytes "clause=") l) (at_line 2 0) >>= λ v. clause_of g 0 v

abbrev pub clause_in : Answer Clause → Clause
clause_in (answer c) = c
clause_in (refused r) = []

abbrev pub is_answered : Answer Clause → Bool
is_answered (answer c) = true
is_answered (refused r) = false

unfoldable pub clause_at : Signature → List ℕ → Clause
clause_at g l = clause_in (line_clause g l)

unfoldable pub line_ok : Signature → List ℕ → Bool
line_ok g l = all in_line l && is_answered (line_clause g l)

pub line_ok-is : (g : Signature) (l : List ℕ) (c : Clause) → all in_line l ≡ true → line_clause g l ≡ answer c → (line_ok g l ≡ true) × (clause_at g l ≡ c)
unfolding line_ok clause_at
line_ok-is g l c h e = (and-join (all in_line l) (is_answered (line_clause g l)) h (ap is_answered e), ap clause_in e)

pub ok-line : (g : Signature) (l : List ℕ) → line_ok g l ≡ true → (all in_line l ≡ true) × (line_clause g l ≡ answer (clause_at g l))
unfolding line_ok clause_at
ok-line g l h = (and_left (all in_line l) (is_answered (line_clause g l)) h, go (line_clause g l) (and_right (all in_line l) (is_answered (line_clause g l)) h))
  where
    go : (a : Answer Clause) → is_answered a ≡ true → a ≡ answer (clause_in a)
    go (answer c) k = refl
    go (refused r) k = absurd (false≢true k)

-- how a clause is read, without the line's number
pub record ReadSo (g : Signature) (v : List ℕ) (c : Clause) : Type 0 where
  pub words : List Word
  pub known : read_all g (words_of v) ≡ some words
  pub grammatical : read_clause g words ≡ some c
  pub limits : within_limits words c ≡ true

pub read-so : (g : Signature) (l : ℕ) (v : List ℕ) (c : Clause) → clause_of g l v ≡ answer c → ReadSo g v c
unfolding clause_of
read-so g l v c e =
    unbind _ _ c e λ (ws : List Word) h₁ e₁.
    unbind _ _ c e₁ λ (d : Clause) h₂ e₂.
    unbind _ _ c e₂ λ (u : Unit {0}) h₃ e₃.
    subst (ReadSo g v) (answer-inj d c e₃)
    (record {
      words = ws;
      known = or_refuse-some (read_all g (words_of v)) (at_line 5 l) ws h₁;
      grammatical = or_refuse-some (read_clause g ws) (at_line 6 l) d h₂;
      limits = check-true (within_limits ws d) (at_line 7 l) u h₃;
    })

pub so-read : (g : Signature) (l : ℕ) (v : List ℕ) (c : Clause) → ReadSo g v c → clause_of g l v ≡ answer c
unfolding clause_of
so-read g l v c r =
    bind-step _ _ r.words _ (or_refuse-of-some (read_all g (words_of v)) (at_line 5 l) r.words r.known)
    (bind-step _ _ c _ (or_refuse-of-some (read_clause g r.words) (at_line 6 l) c r.grammatical)
    (bind-step _ _ tt _ (check-of-true (within_limits r.words c) (at_line 7 l) r.limits) refl))

-- what follows the key of a clause line, and the clause that it is
pub record ClauseLine (g : Signature) (l : List ℕ) (c : Clause) : Type 0 where
  pub value : List ℕ
  pub whole : l ≡ bytes "clause=" ++ value
  pub read : ReadSo g value c

pub clause-line : (g : Signature) (l : List ℕ) (c : Clause) → line_clause g l ≡ answer c → ClauseLine g l c
unfolding line_clause
clause-line g l c e =
    unbind _ _ c e λ (v : List ℕ) h₁ e₁.
    record {
      value = v;
      whole = sym (key-only (bytes "clause=") l v (or_refuse-some (after_key (bytes "clause=") l) (at_line 2 0) v h₁));
      read = read-so g 0 v c e₁;
    }

pub line-clause : (g : Signature) (l : List ℕ) (c : Clause) → ClauseLine g l c → line_clause g l ≡ answer c
unfolding line_clause
line-clause g l c r =
    bind-step _ _ r.value _
    (or_refuse-of-some (after_key (bytes "clause=") l) (at_line 2 0) r.value (ap (after_key (bytes "clause=")) r.whole ∙ after-key (bytes "clause=") r.value))
    (so-read g 0 r.value c r.read)

-- lines of clauses are read
pub lines-read : (g : Signature) (ls : List (List ℕ)) (n : ℕ) (rest : List ℕ) → all (line_ok g) ls ≡ true
    → clause_lines (length ls) g n (concat_map ended ls ++ rest) ≡ answer (map (clause_at g) ls, rest)
unfolding clause_lines
lines-read g [] n rest h = refl
lines-read g (l ∷ ls) n rest h =
    let ok = ok-line g l (and_left (line_ok g l) (all (line_ok g) ls) h) in
    let c : Clause = clause_at g l in
    let r = clause-line g l c ok.1 in
    let v : List ℕ = r.value in
    ap (clause_lines (suc (length ls)) g n) (append_assoc (ended l) (concat_map ended ls) rest ∙ ap (λ (l : List ℕ). ended l ++ (concat_map ended ls ++ rest)) r.whole)
    ∙ bind-step _ _ (v, concat_map ended ls ++ rest) _ (line_read (bytes "clause=") v (concat_map ended ls ++ rest) n refl (ap (all in_line) (sym r.whole) ∙ ok.0))
    (bind-step _ _ c _ (so-read g n v c r.read)
    (bind-step _ _ (map (clause_at g) ls, rest) _ (lines-read g ls (suc n) rest (and_right (line_ok g l) (all (line_ok g) ls) h)) refl))

-- and from no other text
pub record LinesOf (n : ℕ) (g : Signature) (text : List ℕ) (r : (List Clause) × List ℕ) : Type 0 where
  pub lines : List (List ℕ)
  pub counted : length lines ≡ n
  pub ok : all (line_ok g) lines ≡ true
  pub clauses : r.0 ≡ map (clause_at g) lines
  pub whole : text ≡ concat_map ended lines ++ r.1

pub lines-exact : (n : ℕ) (g : Signature) (l : ℕ) (text : List ℕ) (r : (List Clause) × List ℕ) → clause_lines n g l text ≡ answer r → LinesOf n g text r
unfolding clause_lines
lines-exact zero g l text r e =
    let q : ([], text) ≡ r = answer-inj ([], text) r e in
    record { lines = []; counted = refl; ok = refl; clauses = ap (λ (r : (List Clause) × List ℕ). r.0) (sym q); whole = ap (λ (r : (List Clause) × List ℕ). r.1) q }
lines-exact (suc n) g l text r e =
    unbind _ _ r e λ (p : Cut) h₁ e₁.
    unbind _ _ r e₁ λ (c : Clause) h₂ e₂.
    unbind _ _ r e₂ λ (cs : (List Clause) × List ℕ) h₃ e₃.
    step p c cs (key-exact (bytes "clause=") text l p h₁) (read-so g l p.0 c h₂) (lines-exact n g (suc l) p.1 cs h₃) (answer-inj (c ∷ cs.0, cs.1) r e₃)
  where
    step : (p : Cut) (c : Clause) (cs : (List Clause) × List ℕ) → KeyLine (bytes "clause=") p.0 text p.1 → ReadSo g p.0 c → LinesOf n g p.1 cs → (c ∷ cs.0, cs.1) ≡ r
        → LinesOf (suc n) g text r
    step p c cs k so ih q =
        let line : List ℕ = bytes "clause=" ++ p.0 in
        let o = line_ok-is g line c k.within (line-clause g line c (record { value = p.0; whole = refl; read = so })) in
        record {
          lines = line ∷ ih.lines;
          counted = ap suc ih.counted;
          ok = and-join (line_ok g line) (all (line_ok g) ih.lines) o.0 ih.ok;
          clauses =
              ap (λ (r : (List Clause) × List ℕ). r.0) (sym q)
              ∙ ap (λ (d : Clause). d ∷ cs.0) (sym o.1) ∙ ap (λ (ds : List Clause). clause_at g line ∷ ds) ih.clauses;
          whole =
              k.whole ∙ ap (λ (t : List ℕ). ended line ++ t) ih.whole ∙ sym (append_assoc (ended line) (concat_map ended ih.lines) cs.1)
              ∙ ap (λ (r : (List Clause) × List ℕ). (ended line ++ concat_map ended ih.lines) ++ r.1) q;
        }

-- lines of symbols are read from no other text than theirs
record SymbolsOf (key : List ℕ) (g : Signature) (text : List ℕ) (r : Signature × List ℕ) : Type 0 where
  pub symbols : List Symbol
  pub after : r.0 ≡ g ++ symbols
  pub whole : text ≡ concat_map (declaration_text key) symbols ++ r.1

symbols-found : (n : ℕ) (key : List ℕ) (k : Kind) (g : Signature) (l : ℕ) (text : List ℕ) (r : Signature × List ℕ) → symbol_lines n key k g l text ≡ answer r → SymbolsOf key g text r
unfolding symbol_lines
symbols-found zero key k g l text r e =
    let q : (g, text) ≡ r = answer-inj (g, text) r e in
    record { symbols = []; after = ap (λ (r : Signature × List ℕ). r.0) (sym q) ∙ sym (append-nil g); whole = ap (λ (r : Signature × List ℕ). r.1) q }
symbols-found (suc n) key k g l text r e =
    unbind _ _ r e λ (p : Cut) h₁ e₁.
    unbind _ _ r e₁ λ (f : Symbol) h₂ e₂.
    unbind _ _ r e₂ λ (u₁ : Unit {0}) h₃ e₃.
    unbind _ _ r e₃ λ (u₂ : Unit {0}) h₄ e₄.
    step p f (key-exact key text l p h₁) (symbol-only k p.0 f (or_refuse-some (symbol_of k p.0) (at_line 2 l) f h₂)) (symbols-found n key k (g ++ (f ∷ [])) (suc l) p.1 r e₄)
  where
    step : (p : Cut) (f : Symbol) → KeyLine key p.0 text p.1 → p.0 ≡ symbol_text f → SymbolsOf key (g ++ (f ∷ [])) p.1 r → SymbolsOf key g text r
    step p f kl q ih =
        record {
          symbols = f ∷ ih.symbols;
          after = ih.after ∙ append_assoc g (f ∷ []) ih.symbols;
          whole =
              kl.whole ∙ ap (λ (v : List ℕ). ended (key ++ v) ++ p.1) q ∙ ap (λ (t : List ℕ). declaration_text key f ++ t) ih.whole
              ∙ sym (append_assoc (declaration_text key f) (concat_map (declaration_text key) ih.symbols) r.1);
        }

symbols-exact : (n : ℕ) (key : List ℕ) (k : Kind) (g : Signature) (l : ℕ) (text : List ℕ) (r : Signature × List ℕ) → symbol_lines n key k g l text ≡ answer r
    → (a : Added k n g r.0) → text ≡ concat_map (declaration_text key) a.added ++ r.1
symbols-exact n key k g l text r e a =
    let s = symbols-found n key k g l text r e in
    let same : s.symbols ≡ a.added =
    sym (drop-append_seam g s.symbols) ∙ ap (λ (h : Signature). drop (length g) h) (sym s.after ∙ a.whole) ∙ drop-append_seam g a.added in
    s.whole ∙ ap (λ (fs : List Symbol). concat_map (declaration_text key) fs ++ r.1) same

-- the symbols of a sheet, functions first
abbrev pub signature : Sheet → Signature
signature m = m.functions ++ m.predicates

-- the problem that a sheet is read as
unfoldable pub problem_of : Sheet → Problem
problem_of m = record { symbols = signature m; clauses = map (clause_at (signature m)) m.lines }

-- a sheet that is as it should be
pub record Good (m : Sheet) : Type 0 where
  pub function-kinds : all (λ (f : Symbol). is_function f.kind) m.functions ≡ true
  pub predicate-kinds : all (λ (f : Symbol). is_predicate f.kind) m.predicates ≡ true
  pub function-count : length m.functions ≤ 12
  pub predicate-count : length m.predicates ≤ 12
  pub line-count : length m.lines ≤ 64
  pub symbols-ok : all symbol_ok (signature m) ≡ true
  pub names-differ : NamesDiffer (signature m)
  pub origins : all_declared (signature m) ≡ true
  pub lines_ok : all (line_ok (signature m)) m.lines ≡ true
  pub byte-count : length (text_of m) ≤ 16384

-- the parts of a signature in which the names differ
pub differ-left : (g h : Signature) → NamesDiffer (g ++ h) → NamesDiffer g
differ-left g h d i j hi hj e =
    let n : length (g ++ h) ≡ length g + length h = length-append g h in
    let at : (i : ℕ) → i < length g → symbol_at (g ++ h) i ≡ symbol_at g i = λ i lt. get_or-append g h no_symbol i lt in
    d i j (omega (arith, n, hi)) (omega (arith, n, hj)) (ap (λ (f : Symbol). f.name) (at i hi) ∙ e ∙ sym (ap (λ (f : Symbol). f.name) (at j hj)))

module _ (m : Sheet) (w : Good m) where
  abbrev fs : List Symbol
  fs = m.functions

  abbrev ps : List Symbol
  ps = m.predicates

  abbrev ls : List (List ℕ)
  ls = m.lines

  abbrev g : Signature
  g = signature m

  -- the text from each part on
  abbrev from_lines : List ℕ
  from_lines = concat_map ended ls

  abbrev from_count : List ℕ
  from_count = count_text (bytes "clauses=") (length ls) ++ from_lines

  abbrev from_symbols : List ℕ
  from_symbols = concat_map (declaration_text (bytes "pred=")) ps ++ from_count

  abbrev from_predicates : List ℕ
  from_predicates = count_text (bytes "preds=") (length ps) ++ from_symbols

  abbrev from_names : List ℕ
  from_names = concat_map (declaration_text (bytes "fun=")) fs ++ from_predicates

  abbrev from_functions : List ℕ
  from_functions = count_text (bytes "funs=") (length fs) ++ from_names

  ok-functions : all symbol_ok fs ≡ true
  ok-functions = and_left (all symbol_ok fs) (all symbol_ok ps) (sym (all_append symbol_ok fs ps) ∙ w.symbols-ok)

  ok-predicates : all symbol_ok ps ≡ true
  ok-predicates = and_right (all symbol_ok fs) (all symbol_ok ps) (sym (all_append symbol_ok fs ps) ∙ w.symbols-ok)

  from-sheet : (all_declared fs ≡ true) × (all_declared ps ≡ true)
  from-sheet =
      let both : (all_declared fs && all_declared ps) ≡ true = sym (all_append (λ (f : Symbol). is_from_sheet f.origin) fs ps) ∙ w.origins in
      (and_left (all_declared fs) (all_declared ps) both, and_right (all_declared fs) (all_declared ps) both)

  lines-last : clause_lines (length ls) g (5 + length fs + length ps) from_lines ≡ answer (map (clause_at g) ls, [])
  lines-last = ap (clause_lines (length ls) g (5 + length fs + length ps)) (sym (append-nil from_lines)) ∙ lines-read g ls (5 + length fs + length ps) [] w.lines_ok

  -- a good sheet is read from its text
  pub sheet-read : read_problem (text_of m) ≡ answer (problem_of m)
  unfolding read_problem text_of problem_of
  sheet-read =
      bind-step _ _ tt _ (check-of-true (leb (length (text_of m)) 16384) (unplaced 1) (leb-of-≤ (length (text_of m)) 16384 w.byte-count))
      (bind-step _ _ ([], from_functions) _ (line_read (bytes "sheet=1") [] from_functions 1 refl refl)
      (bind-step _ _ tt _ refl
      (bind-step _ _ (length fs, from_names) _ (count-read (bytes "funs=") from_names 12 (length fs) 2 refl w.function-count (omega arith))
      (bind-step _ _ (fs, from_predicates) _ (symbols-read (bytes "fun=") refl function fs [] 3 from_predicates w.function-kinds from-sheet.0 ok-functions (differ-left fs ps w.names-differ))
      (bind-step _ _ (length ps, from_symbols) _ (count-read (bytes "preds=") from_symbols 12 (length ps) (3 + length fs) refl w.predicate-count (omega arith))
      (bind-step _ _ (g, from_count) _ (symbols-read (bytes "pred=") refl predicate ps fs (4 + length fs) from_count w.predicate-kinds from-sheet.1 ok-predicates w.names-differ)
      (bind-step _ _ (length ls, from_lines) _ (count-read (bytes "clauses=") from_lines 64 (length ls) (4 + length fs + length ps) refl w.line-count (omega arith))
      (bind-step _ _ (map (clause_at g) ls, []) _ lines-last (bind-step _ _ tt _ refl refl)))))))))

  -- the lines of its text
  abbrev symbol_line : List ℕ → Symbol → List ℕ
  symbol_line key f = key ++ symbol_text f

  abbrev pub head_lines : List (List ℕ)
  head_lines =
      bytes "sheet=1" ∷ (bytes "funs=" ++ decimal (length fs)) ∷ (map (symbol_line (bytes "fun=")) fs
      ++ ((bytes "preds=" ++ decimal (length ps)) ∷ (map (symbol_line (bytes "pred=")) ps ++ ((bytes "clauses=" ++ decimal (length ls)) ∷ []))))

  symbol-lines : (key : List ℕ) → all in_line key ≡ true → (us : List Symbol) → all symbol_ok us ≡ true → (rest : List ℕ)
      → cut_lines (concat_map (declaration_text key) us ++ rest) ≡ map (symbol_line key) us ++ cut_lines rest
  symbol-lines key hk us h rest =
      ap (λ (t : List ℕ). cut_lines (t ++ rest)) (sym (concat_map-map ended (symbol_line key) us))
      ∙ cut_lines-lines (map (symbol_line key) us) rest
      (all_map (all in_line) (symbol_line key) us ∙ all-imply symbol_ok (λ (f : Symbol). all in_line (symbol_line key f)) us (λ f k. declaration-in_line key hk f k) h)

  lines-whole : cut_lines from_lines ≡ ls
  lines-whole =
      ap cut_lines (sym (append-nil from_lines))
      ∙ cut_lines-lines ls [] (all-imply (line_ok g) (all in_line) ls (λ l k. (ok-line g l k).0) w.lines_ok) ∙ append-nil ls

  pub head-lines : cut_lines (text_of m) ≡ head_lines ++ ls
  unfolding text_of
  head-lines =
      let F : List (List ℕ) = map (symbol_line (bytes "fun=")) fs in
      let P : List (List ℕ) = map (symbol_line (bytes "pred=")) ps in
      let nf : List ℕ = bytes "funs=" ++ decimal (length fs) in
      let np : List ℕ = bytes "preds=" ++ decimal (length ps) in
      let nc : List ℕ = bytes "clauses=" ++ decimal (length ls) in
      let e₅ : cut_lines from_count ≡ nc ∷ ls =
      cut_lines-line nc from_lines (count-in_line (bytes "clauses=") (length ls) refl (omega (arith, w.line-count))) ∙ ap (λ (l : List (List ℕ)). nc ∷ l) lines-whole in
      let e₄ : cut_lines from_symbols ≡ P ++ (nc ∷ ls) = symbol-lines (bytes "pred=") refl ps ok-predicates from_count ∙ ap (λ (l : List (List ℕ)). P ++ l) e₅ in
      let e₃ : cut_lines from_predicates ≡ np ∷ (P ++ (nc ∷ ls)) =
      cut_lines-line np from_symbols (count-in_line (bytes "preds=") (length ps) refl (omega (arith, w.predicate-count))) ∙ ap (λ (l : List (List ℕ)). np ∷ l) e₄ in
      let e₂ : cut_lines from_names ≡ F ++ (np ∷ (P ++ (nc ∷ ls))) = symbol-lines (bytes "fun=") refl fs ok-functions from_predicates ∙ ap (λ (l : List (List ℕ)). F ++ l) e₃ in
      let e₁ : cut_lines from_functions ≡ nf ∷ (F ++ (np ∷ (P ++ (nc ∷ ls)))) =
      cut_lines-line nf from_names (count-in_line (bytes "funs=") (length fs) refl (omega (arith, w.function-count))) ∙ ap (λ (l : List (List ℕ)). nf ∷ l) e₂ in
      cut_lines-line (bytes "sheet=1") from_functions refl
      ∙ ap (λ (l : List (List ℕ)). bytes "sheet=1" ∷ l) e₁
      ∙ ap (λ (l : List (List ℕ)). bytes "sheet=1" ∷ nf ∷ (F ++ (np ∷ l))) (sym (append_assoc P (nc ∷ []) ls))
      ∙ ap (λ (l : List (List ℕ)). bytes "sheet=1" ∷ nf ∷ l) (sym (append_assoc F (np ∷ (P ++ (nc ∷ []))) ls))

  -- and its text is those lines, each with its LF
  pub text-lines : concat_map ended (cut_lines (text_of m)) ≡ text_of m
  unfolding text_of
  text-lines =
      let F : List (List ℕ) = map (symbol_line (bytes "fun=")) fs in
      let P : List (List ℕ) = map (symbol_line (bytes "pred=")) ps in
      let nf : List ℕ = bytes "funs=" ++ decimal (length fs) in
      let np : List ℕ = bytes "preds=" ++ decimal (length ps) in
      let nc : List ℕ = bytes "clauses=" ++ decimal (length ls) in
      let symbols : (key : List ℕ) (us : List Symbol) (rest : List (List ℕ)) → concat_map ended (map (symbol_line key) us ++ rest) ≡ concat_map (declaration_text key) us ++ concat_map ended rest =
      λ key us rest. concat_map-append ended (map (symbol_line key) us) rest ∙ ap (λ (t : List ℕ). t ++ concat_map ended rest) (concat_map-map ended (symbol_line key) us) in
      ap (concat_map ended) (head-lines
      ∙ ap (λ (l : List (List ℕ)). bytes "sheet=1" ∷ nf ∷ l) (append_assoc F (np ∷ (P ++ (nc ∷ []))) ls)
      ∙ ap (λ (l : List (List ℕ)). bytes "sheet=1" ∷ nf ∷ (F ++ (np ∷ l))) (append_assoc P (nc ∷ []) ls))
      ∙ ap (λ (t : List ℕ). ended (bytes "sheet=1") ++ (ended nf ++ t)) (symbols (bytes "fun=") fs (np ∷ (P ++ (nc ∷ ls)))
      ∙ ap (λ (t : List ℕ). concat_map (declaration_text (bytes "fun=")) fs ++ (ended np ++ t)) (symbols (bytes "pred=") ps (nc ∷ ls)))

  pub head-count : length head_lines ≡ 4 + length g
  head-count =
      let F : List (List ℕ) = map (symbol_line (bytes "fun=")) fs in
      let P : List (List ℕ) = map (symbol_line (bytes "pred=")) ps in
      let np : List ℕ = bytes "preds=" ++ decimal (length ps) in
      let nc : List ℕ = bytes "clauses=" ++ decimal (length ls) in
      omega (arith, length-append F (np ∷ (P ++ (nc ∷ []))), length-append P (nc ∷ []), length-map fs (symbol_line (bytes "fun=")), length-map ps (symbol_line (bytes "pred=")), length-append fs ps)

  functions-of : functions g ≡ fs
  functions-of =
      select-append (λ (f : Symbol). is_function f.kind) fs ps
      ∙ ap (λ (l : List Symbol). l ++ functions ps) (select-all (λ (f : Symbol). is_function f.kind) fs w.function-kinds)
      ∙ ap (λ (l : List Symbol). fs ++ l) (select-none (λ (f : Symbol). is_function f.kind) ps
      (all-imply (λ (f : Symbol). is_predicate f.kind) (λ (f : Symbol). not (is_function f.kind)) ps (λ f h. ap (λ (k : Kind). not (is_function k)) (predicate-kind f.kind h)) w.predicate-kinds))
      ∙ append-nil fs

  predicates-of : predicates g ≡ ps
  predicates-of =
      select-append (λ (f : Symbol). is_predicate f.kind) fs ps
      ∙ ap (λ (l : List Symbol). l ++ predicates ps) (select-none (λ (f : Symbol). is_predicate f.kind) fs
      (all-imply (λ (f : Symbol). is_function f.kind) (λ (f : Symbol). not (is_predicate f.kind)) fs (λ f h. ap (λ (k : Kind). not (is_predicate k)) (function-kind f.kind h)) w.function-kinds))
      ∙ select-all (λ (f : Symbol). is_predicate f.kind) ps w.predicate-kinds

  -- a good sheet is taken apart from its text
  pub sheet-again : sheet_of (problem_of m) (text_of m) ≡ m
  unfolding sheet_of problem_of
  sheet-again =
      let e : drop (4 + length g) (cut_lines (text_of m)) ≡ ls =
      ap (λ (l : List (List ℕ)). drop (4 + length g) l) head-lines ∙ drop_at head_lines ls (4 + length g) head-count in
      ap (λ (f : List Symbol). record { functions = f; predicates = predicates g; lines = drop (4 + length g) (cut_lines (text_of m)) }) functions-of
      ∙ ap (λ (p : List Symbol). record { functions = fs; predicates = p; lines = drop (4 + length g) (cut_lines (text_of m)) }) predicates-of
      ∙ ap (λ (l : List (List ℕ)). record { functions = fs; predicates = ps; lines = l }) e

-- every text that is read is that of a good sheet
pub record TextOf (text : List ℕ) (p : Problem) : Type 0 where
  pub sheet : Sheet
  pub good : Good sheet
  pub whole : text ≡ text_of sheet
  pub problem : p ≡ problem_of sheet

sheet-shape : (text : List ℕ) (a f : List ℕ) (nf np nc : ℕ) (fs ps : List Symbol) (ls : List (List ℕ)) (t₁ t₂ t₃ t₄ t₅ t₆ : List ℕ)
    → text ≡ ended (bytes "sheet=1" ++ a) ++ t₁ → a ≡ [] → t₁ ≡ count_text (bytes "funs=") nf ++ t₂ → t₂ ≡ concat_map (declaration_text (bytes "fun=")) fs ++ t₃
    → t₃ ≡ count_text (bytes "preds=") np ++ t₄ → t₄ ≡ concat_map (declaration_text (bytes "pred=")) ps ++ t₅ → t₅ ≡ count_text (bytes "clauses=") nc ++ t₆ → t₆ ≡ concat_map ended ls
    → length fs ≡ nf → length ps ≡ np → length ls ≡ nc
    → text ≡ text_of (record { functions = fs; predicates = ps; lines = ls })
unfolding text_of
sheet-shape text a f nf np nc fs ps ls t₁ t₂ t₃ t₄ t₅ t₆ e ea e₁ e₂ e₃ e₄ e₅ e₆ hf hp hc =
    let q₅ : t₅ ≡ count_text (bytes "clauses=") (length ls) ++ concat_map ended ls = e₅ ∙ ap (λ (t : List ℕ). count_text (bytes "clauses=") nc ++ t) e₆ ∙ ap (λ (n : ℕ). count_text (bytes "clauses=") n ++ concat_map ended ls) (sym hc) in
    let q₄ : t₄ ≡ concat_map (declaration_text (bytes "pred=")) ps ++ (count_text (bytes "clauses=") (length ls) ++ concat_map ended ls) = e₄ ∙ ap (λ (t : List ℕ). concat_map (declaration_text (bytes "pred=")) ps ++ t) q₅ in
    let q₃ : t₃ ≡ count_text (bytes "preds=") (length ps) ++ (concat_map (declaration_text (bytes "pred=")) ps ++ (count_text (bytes "clauses=") (length ls) ++ concat_map ended ls)) =
    e₃ ∙ ap (λ (t : List ℕ). count_text (bytes "preds=") np ++ t) q₄ ∙ ap (λ (n : ℕ). count_text (bytes "preds=") n ++ (concat_map (declaration_text (bytes "pred=")) ps ++ (count_text (bytes "clauses=") (length ls) ++ concat_map ended ls))) (sym hp) in
    e ∙ ap (λ (v : List ℕ). ended (bytes "sheet=1" ++ v) ++ t₁) ea
    ∙ ap (λ (t : List ℕ). ended (bytes "sheet=1") ++ t) (e₁ ∙ ap (λ (n : ℕ). count_text (bytes "funs=") n ++ t₂) (sym hf))
    ∙ ap (λ (t : List ℕ). ended (bytes "sheet=1") ++ (count_text (bytes "funs=") (length fs) ++ t)) (e₂ ∙ ap (λ (t : List ℕ). concat_map (declaration_text (bytes "fun=")) fs ++ t) q₃)

pub sheet-exact : (text : List ℕ) (p : Problem) → read_problem text ≡ answer p → TextOf text p
unfolding read_problem problem_of
sheet-exact text t e =
    unbind _ _ t e λ (u₁ : Unit {0}) _ e₁.
    unbind _ _ t e₁ λ (a : Cut) h₂ e₂.
    unbind _ _ t e₂ λ (u₂ : Unit {0}) h₃ e₃.
    unbind _ _ t e₃ λ (f : ℕ × List ℕ) h₄ e₄.
    unbind _ _ t e₄ λ (fs : Signature × List ℕ) h₅ e₅.
    unbind _ _ t e₅ λ (p : ℕ × List ℕ) h₆ e₆.
    unbind _ _ t e₆ λ (g : Signature × List ℕ) h₇ e₇.
    unbind _ _ t e₇ λ (c : ℕ × List ℕ) h₈ e₈.
    unbind _ _ t e₈ λ (cs : (List Clause) × List ℕ) h₉ e₉.
    unbind _ _ t e₉ λ (u₃ : Unit {0}) h₁₀ e₁₀.
    step a f fs p g c cs (key-exact (bytes "sheet=1") text 1 a h₂) (same_true a.0 [] (check-true (same a.0 []) (at_line 2 1) u₂ h₃))
    (count-exact (bytes "funs=") a.1 12 2 f h₄) (symbol_lines-added f.0 (bytes "fun=") function [] 3 f.1 fs h₅)
    (symbols-exact f.0 (bytes "fun=") function [] 3 f.1 fs h₅)
    (count-exact (bytes "preds=") fs.1 12 (3 + f.0) p h₆) (symbol_lines-added p.0 (bytes "pred=") predicate fs.0 (4 + f.0) p.1 g h₇)
    (symbols-exact p.0 (bytes "pred=") predicate fs.0 (4 + f.0) p.1 g h₇)
    (count-exact (bytes "clauses=") g.1 64 (4 + f.0 + p.0) c h₈)
    (lines-exact c.0 g.0 (5 + f.0 + p.0) c.1 cs h₉)
    (same_true cs.1 [] (check-true (same cs.1 []) (at_line 2 (5 + f.0 + p.0 + c.0)) u₃ h₁₀))
    (answer-inj (record { symbols = g.0; clauses = cs.0 }) t e₁₀)
  where
    step : (a : Cut) (f : ℕ × List ℕ) (fs : Signature × List ℕ) (p : ℕ × List ℕ) (g : Signature × List ℕ) (c : ℕ × List ℕ) (cs : (List Clause) × List ℕ)
        → KeyLine (bytes "sheet=1") a.0 text a.1 → a.0 ≡ []
        → (a.1 ≡ count_text (bytes "funs=") f.0 ++ f.1) × (f.0 ≤ 12) → (af : Added function f.0 [] fs.0)
        → ((af : Added function f.0 [] fs.0) → f.1 ≡ concat_map (declaration_text (bytes "fun=")) af.added ++ fs.1)
        → (fs.1 ≡ count_text (bytes "preds=") p.0 ++ p.1) × (p.0 ≤ 12) → (ap' : Added predicate p.0 fs.0 g.0)
        → ((ap' : Added predicate p.0 fs.0 g.0) → p.1 ≡ concat_map (declaration_text (bytes "pred=")) ap'.added ++ g.1)
        → (g.1 ≡ count_text (bytes "clauses=") c.0 ++ c.1) × (c.0 ≤ 64)
        → LinesOf c.0 g.0 c.1 cs → cs.1 ≡ []
        → record { symbols = g.0; clauses = cs.0 } ≡ t → TextOf text t
    step a f fs p g c cs k ka cf af sf cp ap' sp cc' ll last q =
        let m : Sheet = record { functions = af.added; predicates = ap'.added; lines = ll.lines } in
        let sig : g.0 ≡ af.added ++ ap'.added = ap'.whole ∙ ap (λ (l : List Symbol). l ++ ap'.added) af.whole in
        let whole : text ≡ text_of m =
        sheet-shape text a.0 [] f.0 p.0 c.0 af.added ap'.added ll.lines a.1 f.1 fs.1 p.1 g.1 c.1
        k.whole ka cf.0 (sf af) cp.0 (sp ap') cc'.0 (ll.whole ∙ ap (λ (t : List ℕ). concat_map ended ll.lines ++ t) last ∙ append-nil (concat_map ended ll.lines))
        af.counted ap'.counted ll.counted in
        record {
          sheet = m;
          good =
              record {
                function-kinds = af.kinds;
                predicate-kinds = ap'.kinds;
                function-count = omega (arith, af.counted, cf.1);
                predicate-count = omega (arith, ap'.counted, cp.1);
                line-count = omega (arith, ll.counted, cc'.1);
                symbols-ok = all_append symbol_ok af.added ap'.added ∙ and-join (all symbol_ok af.added) (all symbol_ok ap'.added) af.shaped ap'.shaped;
                names-differ = subst NamesDiffer sig (ap'.differ (af.differ (λ i j hi. absurd (omega arith))));
                origins =
                    all_append (λ (f : Symbol). is_from_sheet f.origin) af.added ap'.added
                    ∙ and-join (all_declared af.added) (all_declared ap'.added) af.origins ap'.origins;
                lines_ok = ap (λ (h : Signature). all (line_ok h) ll.lines) (sym sig) ∙ ll.ok;
                byte-count = subst (λ (t : List ℕ). length t ≤ 16384) whole (read_problem-bytes text t e);
              };
          whole = whole;
          problem =
              sym q ∙ ap (λ (d : List Clause). record { symbols = g.0; clauses = d }) ll.clauses
              ∙ ap (λ (h : Signature). record { symbols = h; clauses = map (clause_at h) ll.lines }) sig;
        }
