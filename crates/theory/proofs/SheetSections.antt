-- The sections of a sheet whose symbols were read: what each of them gave, and that these are the symbols that the sheet declares.
use Prim.Native.Nat.{ℕ, zero, suc, ◌+◌, ◌≤◌, ◌<◌}
use mathlib.Core.Path.{◌≡◌, refl, sym, ap, ◌∙◌, subst}
use mathlib.Core.Bool.{◌&&◌, not}
use mathlib.Core.List.{List, [], ◌∷◌, ◌++◌}
use native.Mathlib.Omega.{arith}
use lib.Dec.{leb}
use lib.ListN.{length}
use Rattle.theory.specs.Lists.{same}
use Rattle.theory.specs.Bytes.{bytes}
use Rattle.theory.specs.Syntax.{Kind, function, predicate, Signature, Clause}
use Rattle.theory.specs.Refusals.{Refusal, Answer, answer, refused, at_line, unplaced, check, or_refuse}
use Rattle.theory.specs.Lines.{Cut, cut_line, after_key, count_of}
use Rattle.theory.specs.Problem.{max_bytes, max_symbols, max_arity, key_line, count_line, is_name, symbol_of, is_named, symbol_lines, Problem, nothing_left, read_problem}
use Rattle.theory.specs.DueLines.{count_on, functions_said, predicates_said, sheet_symbols}
use Rattle.theory.proofs.Answers.{unbind, unrefused, answer-inj, RefusedSo, bind-so, check-so, or_refuse-so, refused-so}
use Rattle.theory.proofs.LinesBefore.{ReadUpTo}
use Rattle.theory.proofs.SheetLines.{key-cut, at_next, count_cut, declared-lines, declared-read}

-- what each part gave, from the first line to the last predicate
pub record SectionsRead (text : List ℕ) : Type 0 where
  pub heading : Cut
  pub headed : key_line (bytes "sheet=1") 1 text ≡ answer heading
  pub alone : nothing_left 1 heading.0 ≡ answer tt
  pub function_count : ℕ × List ℕ
  pub functions_counted : count_line (bytes "funs=") max_symbols 2 heading.1 ≡ answer function_count
  pub functions : Signature × List ℕ
  pub functions_read : symbol_lines function_count.0 (bytes "fun=") function [] 3 function_count.1 ≡ answer functions
  pub predicate_count : ℕ × List ℕ
  pub predicates_counted : count_line (bytes "preds=") max_symbols (3 + function_count.0) functions.1 ≡ answer predicate_count
  pub symbols : Signature × List ℕ
  pub predicates_read : symbol_lines predicate_count.0 (bytes "pred=") predicate functions.0 (4 + function_count.0) predicate_count.1 ≡ answer symbols

-- the counts that the sheet says, its symbols, and the line after them
pub record SectionsSaid (text : List ℕ) (s : SectionsRead text) : Type 0 where
  pub functions : functions_said text ≡ s.function_count.0
  pub predicates : predicates_said text ≡ s.predicate_count.0
  pub symbols : s.symbols.0 ≡ sheet_symbols text
  pub next : ReadUpTo text (3 + s.function_count.0 + s.predicate_count.0) s.symbols.1

pub sections-said : (text : List ℕ) (s : SectionsRead text) → SectionsSaid text s
sections-said text s =
    let f : ℕ × List ℕ = s.function_count in
    let fs : Signature × List ℕ = s.functions in
    let p : ℕ × List ℕ = s.predicate_count in
    let m : ℕ = suc (2 + f.0) in
    let a : ReadUpTo text 1 s.heading.1 =
    at_next text 0 (bytes "sheet=1") text s.heading.0 s.heading.1 (record { cuts = tt; here = refl }) (key-cut (bytes "sheet=1") 1 text s.heading s.headed) in
    let cf = count_cut text (bytes "funs=") max_symbols 2 1 s.heading.1 f a s.functions_counted in
    let df = declared-lines text f.0 (bytes "fun=") function [] 3 2 f.1 fs cf.next s.functions_read in
    let cp = count_cut text (bytes "preds=") max_symbols (3 + f.0) (2 + f.0) fs.1 p df.next s.predicates_counted in
    let dp = declared-lines text p.0 (bytes "pred=") predicate fs.0 (4 + f.0) m p.1 s.symbols cp.next s.predicates_read in
    let P : predicates_said text ≡ p.0 = ap (λ (n : ℕ). count_on (bytes "preds=") (2 + n) text) cf.counted ∙ cp.counted in
    let place : m + p.0 ≡ 3 + f.0 + p.0 = omega arith in
    record {
      functions = cf.counted;
      predicates = P;
      symbols = declared-read text f.0 p.0 f.1 p.1 fs s.symbols cf.counted P cf.next cp.next df dp;
      next = subst (λ (i : ℕ). ReadUpTo text i s.symbols.1) place dp.next;
    }

-- a refusal before the clauses
abbrev IsEarly : Refusal → Type 0
IsEarly r = r.number < 5

key_line-early : (key : List ℕ) (l : ℕ) (t : List ℕ) → RefusedSo IsEarly (key_line key l t)
key_line-early key l t =
    bind-so IsEarly (or_refuse (cut_line t) (at_line 2 l)) _ (or_refuse-so IsEarly (cut_line t) (at_line 2 l) (λ _. omega arith))
    (λ p _. bind-so IsEarly (or_refuse (after_key key p.0) (at_line 2 l)) _ (or_refuse-so IsEarly (after_key key p.0) (at_line 2 l) (λ _. omega arith)) (λ v _. tt))

count_line-early : (key : List ℕ) (limit l : ℕ) (t : List ℕ) → RefusedSo IsEarly (count_line key limit l t)
unfolding count_line
count_line-early key limit l t =
    bind-so IsEarly (key_line key l t) _ (key_line-early key l t)
    (λ p _. bind-so IsEarly (or_refuse (count_of p.0) (at_line 2 l)) _ (or_refuse-so IsEarly (count_of p.0) (at_line 2 l) (λ _. omega arith))
    (λ n _. bind-so IsEarly (check (leb n limit) (at_line 3 l)) _ (check-so IsEarly (leb n limit) (at_line 3 l) (λ _. omega arith)) (λ _ _. tt)))

symbol_lines-early : (n : ℕ) (key : List ℕ) (k : Kind) (g : Signature) (l : ℕ) (t : List ℕ) → RefusedSo IsEarly (symbol_lines n key k g l t)
unfolding symbol_lines
symbol_lines-early zero key k g l t = tt
symbol_lines-early (suc n) key k g l t =
    bind-so IsEarly (key_line key l t) _ (key_line-early key l t)
    (λ p _. bind-so IsEarly (or_refuse (symbol_of k p.0) (at_line 2 l)) _ (or_refuse-so IsEarly (symbol_of k p.0) (at_line 2 l) (λ _. omega arith))
    (λ f _. bind-so IsEarly (check (leb f.arity max_arity) (at_line 3 l)) _ (check-so IsEarly (leb f.arity max_arity) (at_line 3 l) (λ _. omega arith))
    (λ _ _. bind-so IsEarly (check (is_name f.name && not (is_named f.name g)) (at_line 4 l)) _ (check-so IsEarly (is_name f.name && not (is_named f.name g)) (at_line 4 l) (λ _. omega arith))
    (λ _ _. symbol_lines-early n key k (g ++ (f ∷ [])) (suc l) p.1))))

module _ (text : List ℕ) where
  -- a sheet that is refused with 5 or more
  module _ (n l : ℕ) (late : 5 ≤ n) where
    abbrev R : Refusal
    R = at_line n l

    -- is not refused by a part before its clauses
    not-early : {A B : Type 0} (m : Answer A) → RefusedSo IsEarly m → m ≡ refused R → B
    not-early m h e = let q : n < 5 = refused-so IsEarly m R h e in absurd (omega arith)

    pub sections-refused : read_problem text ≡ refused R → SectionsRead text
    unfolding read_problem
    sections-refused e =
        unrefused (check (leb (length text) max_bytes) (unplaced 1)) _ R e (not-early _ (check-so IsEarly (leb (length text) max_bytes) (unplaced 1) (λ _. omega arith))) λ (u₁ : Unit {0}) _ e₁.
        unrefused (key_line (bytes "sheet=1") 1 text) _ R e₁ (not-early _ (key_line-early (bytes "sheet=1") 1 text)) λ (a : Cut) ha e₂.
        unrefused (nothing_left 1 a.0) _ R e₂ (not-early _ (check-so IsEarly (same a.0 []) (at_line 2 1) (λ _. omega arith))) λ (u₂ : Unit {0}) hu e₃.
        unrefused (count_line (bytes "funs=") max_symbols 2 a.1) _ R e₃ (not-early _ (count_line-early (bytes "funs=") max_symbols 2 a.1)) λ (f : ℕ × List ℕ) hf e₄.
        unrefused (symbol_lines f.0 (bytes "fun=") function [] 3 f.1) _ R e₄ (not-early _ (symbol_lines-early f.0 (bytes "fun=") function [] 3 f.1)) λ (fs : Signature × List ℕ) hfs e₅.
        unrefused (count_line (bytes "preds=") max_symbols (3 + f.0) fs.1) _ R e₅ (not-early _ (count_line-early (bytes "preds=") max_symbols (3 + f.0) fs.1)) λ (p : ℕ × List ℕ) hp e₆.
        unrefused (symbol_lines p.0 (bytes "pred=") predicate fs.0 (4 + f.0) p.1) _ R e₆ (not-early _ (symbol_lines-early p.0 (bytes "pred=") predicate fs.0 (4 + f.0) p.1))
        λ (g : Signature × List ℕ) hg _.
        record {
          heading = a;
          headed = ha;
          alone = hu;
          function_count = f;
          functions_counted = hf;
          functions = fs;
          functions_read = hfs;
          predicate_count = p;
          predicates_counted = hp;
          symbols = g;
          predicates_read = hg;
        }

  -- a sheet that is read
  pub sections-answered : (t : Problem) → read_problem text ≡ answer t → (s : SectionsRead text) × (t.symbols ≡ s.symbols.0)
  unfolding read_problem
  sections-answered t e =
      unbind _ _ t e λ (u₁ : Unit {0}) _ e₁.
      unbind _ _ t e₁ λ (a : Cut) ha e₂.
      unbind _ _ t e₂ λ (u₂ : Unit {0}) hu e₃.
      unbind _ _ t e₃ λ (f : ℕ × List ℕ) hf e₄.
      unbind _ _ t e₄ λ (fs : Signature × List ℕ) hfs e₅.
      unbind _ _ t e₅ λ (p : ℕ × List ℕ) hp e₆.
      unbind _ _ t e₆ λ (g : Signature × List ℕ) hg e₇.
      unbind _ _ t e₇ λ (c : ℕ × List ℕ) _ e₈.
      unbind _ _ t e₈ λ (cs : (List Clause) × List ℕ) _ e₉.
      unbind _ _ t e₉ λ (u₃ : Unit {0}) _ e₁₀. (
        record {
          heading = a;
          headed = ha;
          alone = hu;
          function_count = f;
          functions_counted = hf;
          functions = fs;
          functions_read = hfs;
          predicate_count = p;
          predicates_counted = hp;
          symbols = g;
          predicates_read = hg;
        },
        ap (λ (t : Problem). t.symbols) (sym (answer-inj (record { symbols = g.0; clauses = cs.0 }) t e₁₀)),
      )

  pub symbols-declared : (t : Problem) → read_problem text ≡ answer t → t.symbols ≡ sheet_symbols text
  symbols-declared t e = let s = sections-answered t e in s.1 ∙ (sections-said text s.0).symbols
