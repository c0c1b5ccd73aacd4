-- A whole sheet is read part by part.
use Prim.Native.Nat.{ℕ, suc, ◌+◌, ◌≤◌, ◌<◌}
use mathlib.Core.Path.{◌≡◌, refl, sym, ap, ◌∙◌}
use mathlib.Core.Bool.{Bool, true, false}
use mathlib.Core.List.{List, [], ◌∷◌}
use native.Mathlib.Numerals.{add-one}
use native.Mathlib.Omega.{arith}
use lib.Dec.{leb}
use lib.ListN.{length, drop}
use lib.Seq.{drop-cons}
use borrow.Author.Tests.{lt-leb, le-leb}
use Rattle.theory.specs.Lists.{same}
use Rattle.theory.specs.Bytes.{bytes}
use Rattle.theory.specs.Syntax.{Kind, function, predicate, Signature}
use Rattle.theory.specs.Refusals.{Answer, answer, refused, at_line, unplaced, ◌>>=◌, check}
use Rattle.theory.specs.Problem.{Problem, max_bytes, max_symbols, max_clauses, key_line, count_line, symbol_lines, nothing_left, read_problem}
use Rattle.theory.proofs.Answers.{bind-step, bind-refused, check-of-true, check-of-false}
use Rattle.naming.specs.NamedReading.{read_named}
use Rattle.syntax.specs.declared.limits.Problem as code
use Rattle.problem.specs.declared.sections.SheetFault.{SheetFault}
use Rattle.std.specs.Prelude as rust
use Rattle.problem.specs.Sections.{Rest, lines_from, section_from}
use Rattle.problem.specs.ClausePlaces.{clause_lines_in}
use Rattle.problem.specs.Stages.{ProblemRead, clause_lines_from, clauses_from, predicates_from, functions_from, read_lines_in, few_helpers}

-- steps that agree for every result agree
bind-same : {A B : Type 0} (m : Answer A) (f h : A → Answer B) → ((a : A) → f a ≡ h a) → (m >>= f) ≡ (m >>= h)
unfolding ◌>>=◌
bind-same (answer a) f h e = e a
bind-same (refused r) f h e = refl

-- two steps, then a third that looks at what both gave
regroup : {A B C D : Type 0} (m : Answer A) (f : A → Answer B) (h : A → B → C) (k : C → Answer D) → (m >>= λ a. f a >>= λ b. k (h a b)) ≡ ((m >>= λ a. f a >>= λ b. answer (h a b)) >>= k)
unfolding ◌>>=◌
regroup {B = B} (answer a) f h k = go (f a)
  where
    go : (o : Answer B) → (o >>= λ b. k (h a b)) ≡ ((o >>= λ b. answer (h a b)) >>= k)
    go (answer b) = refl
    go (refused r) = refl
regroup (refused r) f h k = refl

-- steps one after the other, however they are grouped
bind_assoc : {A B C : Type 0} (m : Answer A) (f : A → Answer B) (k : B → Answer C) → (m >>= λ a. f a >>= k) ≡ ((m >>= f) >>= k)
unfolding ◌>>=◌
bind_assoc (answer a) f k = refl
bind_assoc (refused r) f k = refl

bind-answer : {A : Type 0} (m : Answer A) → (m >>= answer) ≡ m
unfolding ◌>>=◌
bind-answer (answer a) = refl
bind-answer (refused r) = refl

-- a last step after a result that needs no more
bind-last : {A C D : Type 0} (m : Answer A) (x : C) (tail : C → Answer D) → (m >>= λ _. tail x) ≡ ((m >>= λ _. answer x) >>= tail)
unfolding ◌>>=◌
bind-last (answer a) x tail = refl
bind-last (refused r) x tail = refl

-- the clauses, from line l on, and a last step
clauses-part : (named : Bool) (tail : Problem → Answer Problem) (g : Signature) (l next : ℕ) (text : List ℕ) → next ≡ l + 1
    → (count_line (bytes "clauses=") max_clauses l text >>= λ c. clause_lines_in named c.0 g next c.1 >>= λ cs. nothing_left (next + c.0) cs.1 >>= λ _. tail (record { symbols = g; clauses = cs.0 }))
    ≡ (clauses_from named g l text >>= tail)
unfolding clauses_from clause_lines_from
clauses-part named tail g l next text e =
    ap (λ (n : ℕ). count_line (bytes "clauses=") max_clauses l text >>= λ c. clause_lines_in named c.0 g n c.1 >>= λ cs. nothing_left (n + c.0) cs.1 >>= λ _. tail (record { symbols = g; clauses = cs.0 })) e
    ∙ bind-same (count_line (bytes "clauses=") max_clauses l text) _ _
    (λ c. bind-same (clause_lines_in named c.0 g (l + 1) c.1) _ _ (λ cs. bind-last (nothing_left (l + 1 + c.0) cs.1) (record { symbols = g; clauses = cs.0 }) tail)
    ∙ bind_assoc (clause_lines_in named c.0 g (l + 1) c.1) (λ cs. nothing_left (l + 1 + c.0) cs.1 >>= λ _. answer (record { symbols = g; clauses = cs.0 })) tail)
    ∙ bind_assoc (count_line (bytes "clauses=") max_clauses l text) (λ c. clause_lines_from named c.0 g (l + 1) c.1) tail

-- the symbols of one kind from line l on, then the rest
section-part : (counting key : List ℕ) (k : Kind) (g : Signature) (l next : ℕ) (text : List ℕ) (rest : ℕ × List ℕ → Signature × List ℕ → Answer Problem) (after : Rest → Answer Problem) → next ≡ l + 1
    → ((c : ℕ × List ℕ) (s : Signature × List ℕ) → rest c s ≡ after (s.0, next + c.0, s.1))
    → (count_line counting max_symbols l text >>= λ c. symbol_lines c.0 key k g next c.1 >>= λ s. rest c s) ≡ (section_from counting key k g l text >>= after)
unfolding section_from lines_from
section-part counting key k g l next text rest after e h =
    bind-same (count_line counting max_symbols l text) _ _ (λ c. bind-same (symbol_lines c.0 key k g next c.1) _ _ (λ s. h c s))
    ∙ ap (λ (n : ℕ). count_line counting max_symbols l text >>= λ c. symbol_lines c.0 key k g n c.1 >>= λ s. after (s.0, n + c.0, s.1)) e
    ∙ regroup (count_line counting max_symbols l text) (λ c. symbol_lines c.0 key k g (l + 1) c.1) (λ c s. (s.0, l + 1 + c.0, s.1)) after

-- the rest of a sheet after its first line, and a last step
functions-part : (named : Bool) (tail : Problem → Answer Problem) (text : List ℕ)
    → (do
      f ← count_line (bytes "funs=") max_symbols 2 text
      fs ← symbol_lines f.0 (bytes "fun=") function [] 3 f.1
      p ← count_line (bytes "preds=") max_symbols (3 + f.0) fs.1
      g ← symbol_lines p.0 (bytes "pred=") predicate fs.0 (4 + f.0) p.1
      c ← count_line (bytes "clauses=") max_clauses (4 + f.0 + p.0) g.1
      cs ← clause_lines_in named c.0 g.0 (5 + f.0 + p.0) c.1
      _ ← nothing_left (5 + f.0 + p.0 + c.0) cs.1
      tail (record { symbols = g.0; clauses = cs.0 }))
    ≡ (functions_from named 2 text >>= tail)
unfolding functions_from predicates_from
functions-part named tail text =
    section-part (bytes "funs=") (bytes "fun=") function [] 2 3 text _ (λ s. predicates_from named s.0 s.1 s.2 >>= tail) refl
    (λ f fs. section-part (bytes "preds=") (bytes "pred=") predicate fs.0 (3 + f.0) (4 + f.0) fs.1 _ (λ s. clauses_from named s.0 s.1 s.2 >>= tail) (omega arith)
    (λ p g. clauses-part named tail g.0 (4 + f.0 + p.0) (5 + f.0 + p.0) g.1 (omega arith))
    ∙ bind_assoc (section_from (bytes "preds=") (bytes "pred=") predicate fs.0 (3 + f.0) fs.1) (λ s. clauses_from named s.0 s.1 s.2) tail)
    ∙ bind_assoc (section_from (bytes "funs=") (bytes "fun=") function [] 2 text) (λ s. predicates_from named s.0 s.1 s.2) tail

-- a whole sheet, and a last step
whole_part : (named : Bool) (tail : Problem → Answer Problem) (text : List ℕ)
    → (check (leb (length text) max_bytes) (unplaced 1) >>= λ _. key_line (bytes "sheet=1") 1 text >>= λ a. nothing_left 1 a.0 >>= λ _. functions_from named 2 a.1 >>= tail) ≡ (read_lines_in named text >>= tail)
unfolding read_lines_in
whole_part named tail text =
    bind-same (check (leb (length text) max_bytes) (unplaced 1)) _ _
    (λ _. bind-same (key_line (bytes "sheet=1") 1 text) _ _ (λ a. bind_assoc (nothing_left 1 a.0) (λ _. functions_from named 2 a.1) tail)
    ∙ bind_assoc (key_line (bytes "sheet=1") 1 text) (λ a. nothing_left 1 a.0 >>= λ _. functions_from named 2 a.1) tail)
    ∙ bind_assoc (check (leb (length text) max_bytes) (unplaced 1)) (λ _. key_line (bytes "sheet=1") 1 text >>= λ a. nothing_left 1 a.0 >>= λ _. functions_from named 2 a.1) tail

-- read plain, there is no last step
pub lines-plain : (text : List ℕ) → read_lines_in false text ≡ read_problem text
unfolding read_problem
lines-plain text =
    sym (bind-same (check (leb (length text) max_bytes) (unplaced 1)) _ _
    (λ _. bind-same (key_line (bytes "sheet=1") 1 text) _ _ (λ a. bind-same (nothing_left 1 a.0) _ _ (λ _. functions-part false answer a.1)))
    ∙ whole_part false answer text
    ∙ bind-answer (read_lines_in false text))

-- in the mode it is 21
pub lines-named : (text : List ℕ) → read_named text ≡ (read_lines_in true text >>= few_helpers)
unfolding read_named
lines-named text =
    bind-same (check (leb (length text) max_bytes) (unplaced 1)) _ _
    (λ _. bind-same (key_line (bytes "sheet=1") 1 text) _ _ (λ a. bind-same (nothing_left 1 a.0) _ _ (λ _. functions-part true few_helpers a.1)))
    ∙ whole_part true few_helpers text

module _ (named : Bool) (text : List ℕ) where
  -- too many bytes
  pub sheet-long : 16384 < length text → read_lines_in named text ≡ refused (at_line 1 0)
  unfolding read_lines_in
  sheet-long h = bind-refused (check (leb (length text) max_bytes) (unplaced 1)) _ (unplaced 1) (check-of-false (leb (length text) max_bytes) (unplaced 1) (lt-leb (length text) max_bytes h))

  module _ (h : length text ≤ 16384) where
    measured : (a : Answer Problem) → (key_line (bytes "sheet=1") 1 text >>= λ p. nothing_left 1 p.0 >>= λ _. functions_from named 2 p.1) ≡ a → read_lines_in named text ≡ a
    unfolding read_lines_in
    measured a e = bind-step (check (leb (length text) max_bytes) (unplaced 1)) _ tt a (check-of-true (leb (length text) max_bytes) (unplaced 1) (le-leb (length text) max_bytes h)) e

    -- another first line
    pub sheet-unkeyed : key_line (bytes "sheet=1") 1 text ≡ refused (at_line 2 1) → read_lines_in named text ≡ refused (at_line 2 1)
    sheet-unkeyed e = measured _ (bind-refused (key_line (bytes "sheet=1") 1 text) _ (at_line 2 1) e)

    module _ (v t : List ℕ) (e : key_line (bytes "sheet=1") 1 text ≡ answer (v, t)) where
      pub sheet-longer : 0 < length v → read_lines_in named text ≡ refused (at_line 2 1)
      sheet-longer l = measured _ (bind-step (key_line (bytes "sheet=1") 1 text) _ (v, t) _ e (bind-refused (nothing_left 1 v) _ (at_line 2 1) (check-of-false (same v []) (at_line 2 1) (ap (λ (w : List ℕ). same w []) (drop-cons v 0 0 l)))))

      pub sheet-begun : length v ≤ 0 → read_lines_in named text ≡ functions_from named 2 t
      sheet-begun l = measured _ (bind-step (key_line (bytes "sheet=1") 1 text) _ (v, t) _ e (bind-step (nothing_left 1 v) _ tt _ (check-of-true (same v []) (at_line 2 1) (empty v l)) refl))
        where
          empty : (v : List ℕ) → length v ≤ 0 → same v [] ≡ true
          empty [] l = refl
          empty (b ∷ v) l = absurd (omega arith)

pub begun : (named : Bool) (sheet : List ℕ) (a : Answer Problem) (next : ℕ) (r : rust.Result code.Problem SheetFault) → a ≡ functions_from named 2 (drop (suc next) sheet) → ProblemRead named sheet (functions_from named 2 (drop (next + 1) sheet)) r
    → ProblemRead named sheet a r
begun named sheet a next r e p = record { read = p.read ∙ ap (λ (n : ℕ). functions_from named 2 (drop n sheet)) (add-one next) ∙ sym e; handed = p.handed }
