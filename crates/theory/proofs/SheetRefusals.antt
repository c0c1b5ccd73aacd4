-- A sheet is refused with 1 and no line, or with one of the numbers 2 to 7 at one of the first 93 lines; without a column.
use Prim.Native.Nat.{ℕ, zero, suc, ◌+◌, ◌≤◌}
use mathlib.Core.Path.{◌≡◌, refl}
use mathlib.Core.Bool.{true, ◌&&◌, not}
use mathlib.Core.List.{List, [], ◌∷◌, ◌++◌}
use native.Mathlib.Omega.{arith}
use lib.Dec.{leb}
use lib.ListN.{length}
use Rattle.theory.specs.Lists.{same}
use Rattle.theory.specs.Bytes.{bytes}
use Rattle.theory.specs.Lines.{cut_line, after_key, count_of, words_of}
use Rattle.theory.specs.Syntax.{Kind, function, predicate, Signature}
use Rattle.theory.specs.Grammar.{read_clause}
use Rattle.theory.specs.Refusals.{Refusal, refused, at_line, unplaced, check, or_refuse}
use Rattle.theory.specs.Problem.{max_bytes, max_symbols, max_clauses, max_arity, key_line, count_line, is_name, symbol_of, is_named, symbol_lines, read_all, within_limits, clause_of, clause_lines, nothing_left, read_problem}
use Rattle.theory.proofs.Answers.{RefusedSo, bind-so, check-so, or_refuse-so, refused-so}
use Rattle.theory.proofs.Parsing.{count_line-limit}

-- a line that a sheet may have
abbrev pub SheetLine : ℕ → Type 0
SheetLine l = (1 ≤ l) × (l ≤ 93)

-- a refusal's number is one of 1 to 7, and a sheet has no more than 93 lines; 1 alone names none
pub record OfSheet (r : Refusal) : Type 0 where
  pub number : (leb 1 r.number && leb r.number 7) ≡ true
  pub line : r.place.line ≤ 93
  pub column : r.place.column ≡ 0
  pub needed : r.needed ≡ 0
  pub unlined : r.place.line ≡ 0 → r.number ≡ 1

pub of-line : (n l : ℕ) → (leb 1 n && leb n 7) ≡ true → SheetLine l → OfSheet (at_line n l)
of-line n l e h = record { number = e; line = h.1; column = refl; needed = refl; unlined = λ z. absurd (omega (arith, z, h.0)) }

-- the sheet is too long
of_none : OfSheet (unplaced 1)
of_none = record { number = refl; line = omega arith; column = refl; needed = refl; unlined = λ _. refl }

pub key_line-so : (key : List ℕ) (l : ℕ) (text : List ℕ) → SheetLine l → RefusedSo OfSheet (key_line key l text)
key_line-so key l text h =
    let two : OfSheet (at_line 2 l) = of-line 2 l refl h in
    bind-so OfSheet (or_refuse (cut_line text) (at_line 2 l)) _ (or_refuse-so OfSheet (cut_line text) (at_line 2 l) (λ _. two))
    (λ p _. bind-so OfSheet (or_refuse (after_key key p.0) (at_line 2 l)) _ (or_refuse-so OfSheet (after_key key p.0) (at_line 2 l) (λ _. two)) (λ v _. tt))

count_line-so : (key : List ℕ) (limit l : ℕ) (text : List ℕ) → SheetLine l → RefusedSo OfSheet (count_line key limit l text)
unfolding count_line
count_line-so key limit l text h =
    bind-so OfSheet (key_line key l text) _ (key_line-so key l text h)
    (λ p _. bind-so OfSheet (or_refuse (count_of p.0) (at_line 2 l)) _ (or_refuse-so OfSheet (count_of p.0) (at_line 2 l) (λ _. of-line 2 l refl h))
    (λ n _. bind-so OfSheet (check (leb n limit) (at_line 3 l)) _ (check-so OfSheet (leb n limit) (at_line 3 l) (λ _. of-line 3 l refl h)) (λ _ _. tt)))

symbol_lines-so : (n : ℕ) (key : List ℕ) (k : Kind) (g : Signature) (l : ℕ) (text : List ℕ) → 1 ≤ l → l + n ≤ 94 → RefusedSo OfSheet (symbol_lines n key k g l text)
unfolding symbol_lines
symbol_lines-so zero key k g l text one h = tt
symbol_lines-so (suc n) key k g l text one h =
    let here : SheetLine l = (one, omega arith) in
    bind-so OfSheet (key_line key l text) _ (key_line-so key l text here)
    (λ p _. bind-so OfSheet (or_refuse (symbol_of k p.0) (at_line 2 l)) _ (or_refuse-so OfSheet (symbol_of k p.0) (at_line 2 l) (λ _. of-line 2 l refl here))
    (λ f _. bind-so OfSheet (check (leb f.arity max_arity) (at_line 3 l)) _ (check-so OfSheet (leb f.arity max_arity) (at_line 3 l) (λ _. of-line 3 l refl here))
    (λ _ _. bind-so OfSheet (check (is_name f.name && not (is_named f.name g)) (at_line 4 l)) _ (check-so OfSheet (is_name f.name && not (is_named f.name g)) (at_line 4 l) (λ _. of-line 4 l refl here))
    (λ _ _. symbol_lines-so n key k (g ++ (f ∷ [])) (suc l) p.1 (omega arith) (omega arith)))))

clause_of-so : (g : Signature) (l : ℕ) (v : List ℕ) → SheetLine l → RefusedSo OfSheet (clause_of g l v)
unfolding clause_of
clause_of-so g l v h =
    bind-so OfSheet (or_refuse (read_all g (words_of v)) (at_line 5 l)) _ (or_refuse-so OfSheet (read_all g (words_of v)) (at_line 5 l) (λ _. of-line 5 l refl h))
    (λ ws _. bind-so OfSheet (or_refuse (read_clause g ws) (at_line 6 l)) _ (or_refuse-so OfSheet (read_clause g ws) (at_line 6 l) (λ _. of-line 6 l refl h))
    (λ c _. bind-so OfSheet (check (within_limits ws c) (at_line 7 l)) _ (check-so OfSheet (within_limits ws c) (at_line 7 l) (λ _. of-line 7 l refl h)) (λ _ _. tt)))

clause_lines-so : (n : ℕ) (g : Signature) (l : ℕ) (text : List ℕ) → 1 ≤ l → l + n ≤ 94 → RefusedSo OfSheet (clause_lines n g l text)
unfolding clause_lines
clause_lines-so zero g l text one h = tt
clause_lines-so (suc n) g l text one h =
    let here : SheetLine l = (one, omega arith) in
    bind-so OfSheet (key_line (bytes "clause=") l text) _ (key_line-so (bytes "clause=") l text here)
    (λ p _. bind-so OfSheet (clause_of g l p.0) _ (clause_of-so g l p.0 here)
    (λ c _. bind-so OfSheet (clause_lines n g (suc l) p.1) _ (clause_lines-so n g (suc l) p.1 (omega arith) (omega arith)) (λ r _. tt)))

pub nothing_left-so : (l : ℕ) (text : List ℕ) → SheetLine l → RefusedSo OfSheet (nothing_left l text)
nothing_left-so l text h = check-so OfSheet (same text []) (at_line 2 l) (λ _. of-line 2 l refl h)

read_problem-so : (text : List ℕ) → RefusedSo OfSheet (read_problem text)
unfolding read_problem
read_problem-so text =
    bind-so OfSheet (check (leb (length text) max_bytes) (unplaced 1)) _ (check-so OfSheet (leb (length text) max_bytes) (unplaced 1) (λ _. of_none))
    (λ _ _. bind-so OfSheet (key_line (bytes "sheet=1") 1 text) _ (key_line-so (bytes "sheet=1") 1 text (omega arith, omega arith))
    (λ a _. bind-so OfSheet (nothing_left 1 a.0) _ (nothing_left-so 1 a.0 (omega arith, omega arith))
    (λ _ _. bind-so OfSheet (count_line (bytes "funs=") max_symbols 2 a.1) _ (count_line-so (bytes "funs=") max_symbols 2 a.1 (omega arith, omega arith))
    (λ f ef. let f-12 = count_line-limit (bytes "funs=") max_symbols 2 a.1 f ef in
    bind-so OfSheet (symbol_lines f.0 (bytes "fun=") function [] 3 f.1) _ (symbol_lines-so f.0 (bytes "fun=") function [] 3 f.1 (omega arith) (omega (arith, f-12)))
    (λ fs _. bind-so OfSheet (count_line (bytes "preds=") max_symbols (3 + f.0) fs.1) _ (count_line-so (bytes "preds=") max_symbols (3 + f.0) fs.1 (omega arith, omega (arith, f-12)))
    (λ p ep. let p-12 = count_line-limit (bytes "preds=") max_symbols (3 + f.0) fs.1 p ep in
    bind-so OfSheet (symbol_lines p.0 (bytes "pred=") predicate fs.0 (4 + f.0) p.1) _ (symbol_lines-so p.0 (bytes "pred=") predicate fs.0 (4 + f.0) p.1 (omega arith) (omega (arith, f-12, p-12)))
    (λ g _. bind-so OfSheet (count_line (bytes "clauses=") max_clauses (4 + f.0 + p.0) g.1) _ (count_line-so (bytes "clauses=") max_clauses (4 + f.0 + p.0) g.1 (omega arith, omega (arith, f-12, p-12)))
    (λ c ec. let c-64 = count_line-limit (bytes "clauses=") max_clauses (4 + f.0 + p.0) g.1 c ec in
    bind-so OfSheet (clause_lines c.0 g.0 (5 + f.0 + p.0) c.1) _ (clause_lines-so c.0 g.0 (5 + f.0 + p.0) c.1 (omega arith) (omega (arith, f-12, p-12, c-64)))
    (λ cs _. bind-so OfSheet (nothing_left (5 + f.0 + p.0 + c.0) cs.1) _ (nothing_left-so (5 + f.0 + p.0 + c.0) cs.1 (omega arith, omega (arith, f-12, p-12, c-64))) (λ _ _. tt))))))))))

pub sheet-refusal : (text : List ℕ) (r : Refusal) → read_problem text ≡ refused r → OfSheet r
sheet-refusal text r e = refused-so OfSheet (read_problem text) r (read_problem-so text) e
