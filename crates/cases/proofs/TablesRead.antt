-- The symbols' lines one after the other: the values read so far stand at the front of the cells.
use Prim.Native.Nat.{ℕ, suc, ◌+◌, ◌≤◌, ◌<◌}
use mathlib.Core.Path.{◌≡◌, refl, sym, ap, ◌∙◌}
use mathlib.Core.Bool.{false}
use mathlib.Core.List.{List, [], ◌∷◌, ◌++◌, append_assoc, append-nil}
use native.Mathlib.Omega.{arith}
use lib.ListN.{length, take, drop, drop_of_length-le, length-drop}
use lib.Seq.{drop-cons, take-add}
use Rattle.theory.specs.Lists.{same}
use Rattle.theory.specs.Syntax.{Symbol, Signature, symbol_at, no_symbol}
use Rattle.theory.specs.Cells.{table_size, cell_count, cell_base}
use Rattle.theory.specs.Refusals.{Refusal, Answer, answer, refused, at_line, ◌>>=◌}
use Rattle.theory.specs.CaseText.{read_table, read_tables}
use Rattle.theory.proofs.Answers.{bind-step, bind-refused, check-of-true, check-of-false}
use Rattle.theory.proofs.Numbering.{cell_base-suc, cell_base-length}
use Rattle.std.specs.Prelude.{Some, None}
use Rattle.cases.specs.Reading.{case_of_tables, TableRead}

-- the values vs before those that were read
abbrev after : List ℕ → Answer ((List ℕ) × List ℕ) → Answer ((List ℕ) × List ℕ)
after vs (answer p) = answer (vs ++ p.0, p.1)
after vs (refused r) = refused r

after_none : (x : Answer ((List ℕ) × List ℕ)) → after [] x ≡ x
after_none (answer p) = refl
after_none (refused r) = refl

after-after : (vs us : List ℕ) (x : Answer ((List ℕ) × List ℕ)) → after vs (after us x) ≡ after (vs ++ us) x
after-after vs us (answer p) = ap (λ (l : List ℕ). answer (l, p.1)) (sym (append_assoc vs us p.0))
after-after vs us (refused r) = refl

after-bind : (us : List ℕ) (x : Answer ((List ℕ) × List ℕ)) → (x >>= λ r. answer (us ++ r.0, r.1)) ≡ after us x
unfolding ◌>>=◌
after-bind us (answer p) = refl
after-bind us (refused r) = refl

module _ (s : ℕ) (f : Symbol) (fs : Signature) (l : ℕ) (text : List ℕ) where
  next-table : (us rest : List ℕ) → read_table s f l text ≡ answer (us, rest) → read_tables s (f ∷ fs) l text ≡ after us (read_tables s fs (suc l) rest)
  unfolding read_tables
  next-table us rest e = bind-step _ _ (us, rest) _ e (after-bind us (read_tables s fs (suc l) rest))

  no_table : (r : Refusal) → read_table s f l text ≡ refused r → read_tables s (f ∷ fs) l text ≡ refused r
  unfolding read_tables
  no_table r e = bind-refused _ _ r e

-- the lines of the first i symbols are read
pub record TablesRead (s : ℕ) (g : Signature) (case : List ℕ) (at next base : ℕ) (cells : List ℕ) (i : ℕ) : Type 0 where
  pub counted : i ≤ length g
  pub based : base ≡ cell_base s g i
  pub within : next ≤ length case
  pub rest : read_tables s g 3 (drop at case) ≡ after (take base cells) (read_tables s (drop i g) (3 + i) (drop next case))

pub none_read : (s : ℕ) (g : Signature) (case : List ℕ) (at : ℕ) (cells : List ℕ) → at ≤ length case → TablesRead s g case at at 0 cells 0
none_read s g case at cells h = record { counted = omega arith; based = refl; within = h; rest = sym (after_none (read_tables s g 3 (drop at case))) }

module _ {s : ℕ} {g : Signature} {case : List ℕ} {at next base : ℕ} {cells : List ℕ} {i : ℕ} (t : TablesRead s g case at next base cells i) where
  module _ (h : i < length g) (f : Symbol) (e : symbol_at g i ≡ f) where
    symbols : drop i g ≡ f ∷ drop (suc i) g
    symbols = drop-cons g i no_symbol h ∙ ap (λ (f : Symbol). f ∷ drop (suc i) g) e

    pub table-fault : {cells' : List ℕ} → TableRead s f case next base cells cells' None → refused (at_line 12 (3 + i)) ≡ case_of_tables s g (drop at case)
    unfolding case_of_tables
    table-fault w =
        sym (bind-refused _ _ (at_line 12 (3 + i))
        (t.rest
        ∙ ap (λ (fs : Signature). after (take base cells) (read_tables s fs (3 + i) (drop next case))) symbols
        ∙ ap (after (take base cells)) (no_table s f (drop (suc i) g) (3 + i) (drop next case) (at_line 12 (3 + i)) (sym (w.read (3 + i))))))

    pub table-read : {cells' : List ℕ} (to : ℕ) → TableRead s f case next base cells cells' (Some to) → TablesRead s g case at to (base + table_size s f) cells' (i + 1)
    table-read {cells'} to w =
        let us : List ℕ = take (table_size s f) (drop base cells') in
        let z : i + 1 ≡ suc i = omega arith in
        let y : suc (3 + i) ≡ 3 + suc i = omega arith in
        let stands : take (base + table_size s f) cells' ≡ take base cells ++ us = take-add base (table_size s f) cells' ∙ ap (λ (l : List ℕ). l ++ us) w.front in
        rw z
        (record {
          counted = h;
          based = omega (arith, t.based, cell_base-suc s g i h, ap (table_size s) e);
          within = w.within;
          rest =
              t.rest
              ∙ ap (λ (fs : Signature). after (take base cells) (read_tables s fs (3 + i) (drop next case))) symbols
              ∙ ap (after (take base cells)) (next-table s f (drop (suc i) g) (3 + i) (drop next case) us (drop to case) (sym (w.read (3 + i))))
              ∙ after-after (take base cells) us (read_tables s (drop (suc i) g) (suc (3 + i)) (drop to case))
              ∙ ap (λ (vs : List ℕ). after vs (read_tables s (drop (suc i) g) (suc (3 + i)) (drop to case))) (sym stands)
              ∙ ap (λ (l : ℕ). after (take (base + table_size s f) cells') (read_tables s (drop (suc i) g) l (drop to case))) y;
        })

  -- all of them are
  module _ (h : i ≡ length g) where
    all-tables : read_tables s g 3 (drop at case) ≡ answer (take (cell_count s g) cells, drop next case)
    unfolding read_tables
    all-tables =
        let d : drop i g ≡ [] = drop_of_length-le g {i = i} (omega arith) in
        let b : base ≡ cell_count s g = t.based ∙ ap (cell_base s g) h ∙ cell_base-length s g in
        t.rest
        ∙ ap (λ (fs : Signature). after (take base cells) (read_tables s fs (3 + i) (drop next case))) d
        ∙ ap (λ (vs : List ℕ). answer (vs, drop next case)) (append-nil (take base cells))
        ∙ ap (λ (n : ℕ). answer (take n cells, drop next case)) b

    pub bytes_after : (next ≡ length case → ⊥) → refused (at_line 12 (3 + i)) ≡ case_of_tables s g (drop at case)
    unfolding case_of_tables
    bytes_after d =
        ap (λ (n : ℕ). refused (at_line 12 (3 + n))) h
        ∙ sym (bind-step _ _ _ _ all-tables
        (bind-refused _ _ (at_line 12 (3 + length g)) (check-of-false _ (at_line 12 (3 + length g)) (more (drop next case) (omega (arith, length-drop next case, t.within, d))))))
      where
        more : (l : List ℕ) → 0 < length l → same l [] ≡ false
        more [] q = absurd (omega arith)
        more (x ∷ l) q = refl

    pub case-ends : next ≡ length case → answer (record { size = s; values = take (cell_count s g) cells }) ≡ case_of_tables s g (drop at case)
    unfolding case_of_tables
    case-ends z =
        let d : drop next case ≡ [] = drop_of_length-le case {i = next} (omega arith) in
        sym (bind-step _ _ _ _ all-tables (bind-step _ _ tt _ (check-of-true _ (at_line 12 (3 + length g)) (ap (λ (l : List ℕ). same l []) d)) refl))
