-- Two sheets made one (document 02, slip 11): the first sheet's symbols and clauses, then the second's that are new.
use Rattle.std.specs.Prelude.{ℕ, Bool, not, ◌&&◌, ◌||◌, List, ◌++◌, eqb, leb, length}
use Rattle.std.specs.Bool.{beq}
use Rattle.theory.specs.Lists.{any, all, select, same}
use Rattle.theory.specs.Syntax.{is_function, Symbol, Signature}
use Rattle.theory.specs.Refusals.{Answer, answer, refused, unplaced, needing, ◌>>=◌, check}
use Rattle.theory.specs.Problem.{max_bytes, max_symbols, max_clauses, Problem}
use Rattle.theory.specs.Columns.{placed_problem}
use Rattle.sheet_merging.specs.Sheets.{Sheet, sheet_of, text_of}

-- the elements of ys that are new: none of xs is alike
abbrev pub new_to : {A : Type 0} → (A → A → Bool) → List A → List A → List A
new_to alike xs ys = select (λ y. not (any (alike y) xs)) ys

-- those of xs, then those of ys that are new; repeats within xs and within ys stay
abbrev pub joined : {A : Type 0} → (A → A → Bool) → List A → List A → List A
joined alike xs ys = xs ++ new_to alike xs ys

-- the two symbols have one name
abbrev pub same_name : Symbol → Symbol → Bool
same_name f h = same f.name h.name

-- the two sheets made one: symbols are told apart by their names, clauses by their bytes
unfoldable pub merged_sheet : Sheet → Sheet → Sheet
merged_sheet a b =
    record {
      functions = joined same_name a.functions b.functions;
      predicates = joined same_name a.predicates b.predicates;
      lines = joined same a.lines b.lines;
    }

-- the two symbols are of the same kind and arity
abbrev pub same_shape : Symbol → Symbol → Bool
same_shape f h = beq (is_function f.kind) (is_function h.kind) && eqb f.arity h.arity

-- the two symbols may stand in one sheet: they have two names, or they are of the same kind and arity
abbrev pub may_meet : Symbol → Symbol → Bool
may_meet v u = not (same_name v u) || same_shape v u

-- a shared name has the same kind and arity in both; otherwise refusal 22
unfoldable pub agree : Signature → Signature → Bool
agree g h = all (λ (v : Symbol). all (may_meet v) g) h

-- at most 12 functions, 12 predicates, 64 clauses and 16,384 bytes; otherwise refusal 23
unfoldable pub within_sheet : Sheet → Bool
within_sheet m = leb (length m.functions) max_symbols && leb (length m.predicates) max_symbols && leb (length m.lines) max_clauses && leb (length (text_of m)) max_bytes

-- the text that Merge leaves, given an output of so many bytes: the first sheet's numbers, the second's, 22, 23, 11
unfoldable pub merged_text : List ℕ → List ℕ → ℕ → Answer (List ℕ)
merged_text first second room = do
  p ← placed_problem first
  q ← placed_problem second
  let m : Sheet = merged_sheet (sheet_of p first) (sheet_of q second)
  _ ← check (agree p.symbols q.symbols) (unplaced 22)
  _ ← check (within_sheet m) (unplaced 23)
  _ ← check (leb (length (text_of m)) room) (needing 11 (length (text_of m)))
  answer (text_of m)

-- the sheet of the two that is refused by its own numbers, the first before the second; 0 where both are taken
abbrev pub refused_sheet : Answer Problem → Answer Problem → ℕ
refused_sheet (refused r) b = 1
refused_sheet (answer p) (refused r) = 2
refused_sheet (answer p) (answer q) = 0

-- which sheet a refusal of Merge speaks of: 1 or 2, and 0 with 22, 23 and 11
unfoldable pub which_sheet : List ℕ → List ℕ → ℕ
which_sheet first second = refused_sheet (placed_problem first) (placed_problem second)
