-- The head of a sheet, up to its count of clauses, is read alike in both modes; what it gave, and where its clauses stand.
use Prim.Native.Nat.{ℕ, suc, ◌+◌, ◌≤◌, ◌<◌}
use mathlib.Core.Path.{◌≡◌, refl, ap, ◌∙◌, subst}
use mathlib.Core.List.{List, []}
use native.Mathlib.Omega.{arith}
use lib.Dec.{leb}
use lib.ListN.{length}
use Rattle.theory.specs.Bytes.{bytes}
use Rattle.theory.specs.Lines.{Cut}
use Rattle.theory.specs.Syntax.{function, predicate, Signature}
use Rattle.theory.specs.Refusals.{Refusal, Answer, answer, refused, unplaced, ◌>>=◌, check}
use Rattle.theory.specs.Problem.{max_bytes, max_symbols, max_clauses, key_line, count_line, symbol_lines, clause_lines, Problem, nothing_left, read_problem}
use Rattle.theory.specs.WellFormed.{WellFormed}
use Rattle.theory.specs.LineForms.{no_line}
use Rattle.theory.specs.DueLines.{count_on, clauses_said, predicates_said, due_in_sheet, sheet_symbols}
use Rattle.theory.proofs.Answers.{unbind, bind-refused, answer-inj}
use Rattle.theory.proofs.LinesBefore.{ReadUpTo}
use Rattle.theory.proofs.DueLines.{clause_form, due-clause, due-end}
use Rattle.theory.proofs.Parsing.{symbol_lines-added, count_line-limit, well-formed}
use Rattle.theory.proofs.SheetLines.{count_cut}
use Rattle.theory.proofs.SheetSections.{SectionsRead, sections-said}
use Rattle.naming.specs.FixedTerms.{named_terms}
use Rattle.naming.specs.NamedReading.{max_helpers, named_clause_lines, read_named}

-- what the head gave: the counts, the symbols, and the text from the first clause on
pub record Head : Type 0 where
  pub functions : ℕ
  pub predicates : ℕ
  pub symbols : Signature
  pub clauses : ℕ
  pub rest : List ℕ

-- the line of the first clause
abbrev pub first_clause : Head → ℕ
first_clause h = 5 + h.functions + h.predicates

unfoldable pub head : List ℕ → Answer Head
head text = do
  _ ← check (leb (length text) max_bytes) (unplaced 1)
  a ← key_line (bytes "sheet=1") 1 text
  _ ← nothing_left 1 a.0
  f ← count_line (bytes "funs=") max_symbols 2 a.1
  fs ← symbol_lines f.0 (bytes "fun=") function [] 3 f.1
  p ← count_line (bytes "preds=") max_symbols (3 + f.0) fs.1
  g ← symbol_lines p.0 (bytes "pred=") predicate fs.0 (4 + f.0) p.1
  c ← count_line (bytes "clauses=") max_clauses (4 + f.0 + p.0) g.1
  answer (record { functions = f.0; predicates = p.0; symbols = g.0; clauses = c.0; rest = c.1 })

-- the rest, plain
unfoldable pub plain_rest : Head → Answer Problem
plain_rest h = do
  cs ← clause_lines h.clauses h.symbols (first_clause h) h.rest
  _ ← nothing_left (first_clause h + h.clauses) cs.1
  answer (record { symbols = h.symbols; clauses = cs.0 })

-- and in the mode
unfoldable pub named_rest : Head → Answer Problem
named_rest h = do
  cs ← named_clause_lines h.clauses h.symbols (first_clause h) h.rest
  _ ← nothing_left (first_clause h + h.clauses) cs.1
  _ ← check (leb (length (named_terms cs.0)) max_helpers) (unplaced 21)
  answer (record { symbols = h.symbols; clauses = cs.0 })

-- one step of a chain goes to the head
module _ {E B : Type 0} (t : E → Answer B) where
  step : {A : Type 0} (m : Answer A) (k : A → Answer B) (e : A → Answer E) → ((a : A) → k a ≡ (e a >>= t)) → (m >>= k) ≡ ((m >>= e) >>= t)
  unfolding ◌>>=◌
  step (answer a) k e h = h a
  step (refused r) k e h = refl

  last : (x : E) → t x ≡ (answer x >>= t)
  unfolding ◌>>=◌
  last x = refl

pub plain-parts : (text : List ℕ) → read_problem text ≡ (head text >>= plain_rest)
unfolding read_problem head plain_rest
plain-parts text =
    step plain_rest _ _ _ λ _. step plain_rest _ _ _ λ a. step plain_rest _ _ _ λ _. step plain_rest _ _ _ λ f. step plain_rest _ _ _ λ fs. step plain_rest _ _ _ λ p. step plain_rest _ _ _ λ g. step plain_rest _ _ _ λ c.
    last plain_rest (record { functions = f.0; predicates = p.0; symbols = g.0; clauses = c.0; rest = c.1 })

pub named-parts : (text : List ℕ) → read_named text ≡ (head text >>= named_rest)
unfolding read_named head named_rest
named-parts text =
    step named_rest _ _ _ λ _. step named_rest _ _ _ λ a. step named_rest _ _ _ λ _. step named_rest _ _ _ λ f. step named_rest _ _ _ λ fs. step named_rest _ _ _ λ p. step named_rest _ _ _ λ g. step named_rest _ _ _ λ c.
    last named_rest (record { functions = f.0; predicates = p.0; symbols = g.0; clauses = c.0; rest = c.1 })

-- a head that is refused is refused plain
pub head-refused : (text : List ℕ) (r : Refusal) → head text ≡ refused r → read_problem text ≡ refused r
head-refused text r e = plain-parts text ∙ bind-refused (head text) plain_rest r e

-- a head that was read: its counts are within the limits, its symbols are the sheet's and as they may be, and the clauses are due behind it
pub record HeadRead (text : List ℕ) (h : Head) : Type 0 where
  pub functions : h.functions ≤ max_symbols
  pub predicates : h.predicates ≤ max_symbols
  pub clauses : h.clauses ≤ max_clauses
  pub symbols : h.symbols ≡ sheet_symbols text
  pub formed : WellFormed (record { symbols = h.symbols; clauses = [] })
  pub first : ℕ
  pub line : first_clause h ≡ suc first
  pub next : ReadUpTo text first h.rest
  pub due : (i : ℕ) → i < h.clauses → due_in_sheet text (first + i) ≡ clause_form
  pub end : due_in_sheet text (first + h.clauses) ≡ no_line

counted : (text : List ℕ) (s : SectionsRead text) (c : ℕ × List ℕ) → count_line (bytes "clauses=") max_clauses (4 + s.function_count.0 + s.predicate_count.0) s.symbols.1 ≡ answer c
    → HeadRead text (record { functions = s.function_count.0; predicates = s.predicate_count.0; symbols = s.symbols.0; clauses = c.0; rest = c.1 })
counted text s c h =
    let f : ℕ = s.function_count.0 in
    let p : ℕ = s.predicate_count.0 in
    let said = sections-said text s in
    let m : ℕ = 3 + f + p in
    let cut = count_cut text (bytes "clauses=") max_clauses (4 + f + p) m s.symbols.1 c said.next h in
    let C : clauses_said text ≡ c.0 =
    ap (λ (n : ℕ). count_on (bytes "clauses=") (3 + n + predicates_said text) text) said.functions ∙ ap (λ (n : ℕ). count_on (bytes "clauses=") (3 + f + n) text) said.predicates ∙ cut.counted in
    let most-f : f ≤ max_symbols = count_line-limit (bytes "funs=") max_symbols 2 s.heading.1 s.function_count s.functions_counted in
    let most-p : p ≤ max_symbols = count_line-limit (bytes "preds=") max_symbols (3 + f) s.functions.1 s.predicate_count s.predicates_counted in
    record {
      functions = most-f;
      predicates = most-p;
      clauses = count_line-limit (bytes "clauses=") max_clauses (4 + f + p) s.symbols.1 c h;
      symbols = said.symbols;
      formed = well-formed f p 0 s.functions.0 s.symbols.0 [] most-f most-p (omega arith)
          (symbol_lines-added f (bytes "fun=") function [] 3 s.function_count.1 s.functions s.functions_read)
          (symbol_lines-added p (bytes "pred=") predicate s.functions.0 (4 + f) s.predicate_count.1 s.symbols s.predicates_read)
          (refl, refl);
      first = suc m;
      line = omega arith;
      next = cut.next;
      due = λ i lt. due-clause text f said.functions p said.predicates c.0 C i (suc m + i) lt (omega arith);
      end = due-end text f said.functions p said.predicates c.0 C (suc m + c.0) (omega arith);
    }

pub head_read : (text : List ℕ) (h : Head) → head text ≡ answer h → HeadRead text h
unfolding head
head_read text h e =
    unbind _ _ h e λ (u₁ : Unit {0}) _ e₁.
    unbind _ _ h e₁ λ (a : Cut) ha e₂.
    unbind _ _ h e₂ λ (u₂ : Unit {0}) hu e₃.
    unbind _ _ h e₃ λ (f : ℕ × List ℕ) hf e₄.
    unbind _ _ h e₄ λ (fs : Signature × List ℕ) hfs e₅.
    unbind _ _ h e₅ λ (p : ℕ × List ℕ) hp e₆.
    unbind _ _ h e₆ λ (g : Signature × List ℕ) hg e₇.
    unbind _ _ h e₇ λ (c : ℕ × List ℕ) hc e₈.
    let s : SectionsRead text = record {
      heading = a;
      headed = ha;
      alone = hu;
      function_count = f;
      functions_counted = hf;
      functions = fs;
      functions_read = hfs;
      predicate_count = p;
      predicates_counted = hp;
      symbols = g;
      predicates_read = hg;
    } in
    subst (HeadRead text) (answer-inj (record { functions = f.0; predicates = p.0; symbols = g.0; clauses = c.0; rest = c.1 }) h e₈) (counted text s c hc)
