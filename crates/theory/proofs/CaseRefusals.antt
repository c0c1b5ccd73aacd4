-- A case is refused with 12, and the refusal names a line and no column.
use Prim.Native.Nat.{ℕ, suc, ◌+◌, ◌≤◌}
use mathlib.Core.Path.{◌≡◌, refl}
use mathlib.Core.Bool.{◌&&◌}
use mathlib.Core.List.{List, [], ◌∷◌, ◌++◌}
use native.Mathlib.Omega.{arith}
use lib.Dec.{eqb}
use lib.ListN.{length}
use Rattle.theory.specs.Lists.{all, same}
use Rattle.theory.specs.Bytes.{bytes}
use Rattle.theory.specs.Syntax.{Symbol, Signature}
use Rattle.theory.specs.Cells.{table_size}
use Rattle.theory.specs.Refusals.{Refusal, refused, at_line, check, or_refuse}
use Rattle.theory.specs.Lines.{cut_line, after_key}
use Rattle.theory.specs.CaseText.{equals_sign, unjoined, is_value_byte, read_table, read_tables, size_of, read_case}
use Rattle.theory.proofs.Answers.{RefusedSo, bind-so, check-so, or_refuse-so, refused-so}

-- refusal 12 at some line
pub record OfCase (r : Refusal) : Type 0 where
  pub line : ℕ
  pub is : r ≡ at_line 12 line
  pub lined : 1 ≤ line

at-line : (l : ℕ) → 1 ≤ l → OfCase (at_line 12 l)
at-line l one = record { line = l; is = refl; lined = one }

read_table-so : (s : ℕ) (f : Symbol) (l : ℕ) (text : List ℕ) → 1 ≤ l → RefusedSo OfCase (read_table s f l text)
unfolding read_table
read_table-so s f l text one =
    bind-so OfCase (or_refuse (cut_line text) (at_line 12 l)) _ (or_refuse-so OfCase (cut_line text) (at_line 12 l) (λ _. at-line l one))
    (λ p _. bind-so OfCase (or_refuse (after_key (f.name ++ (equals_sign ∷ [])) p.0) (at_line 12 l)) _
    (or_refuse-so OfCase (after_key (f.name ++ (equals_sign ∷ [])) p.0) (at_line 12 l) (λ _. at-line l one))
    (λ v _. bind-so OfCase (or_refuse (unjoined v) (at_line 12 l)) _ (or_refuse-so OfCase (unjoined v) (at_line 12 l) (λ _. at-line l one))
    (λ bs _. bind-so OfCase (check (eqb (length bs) (table_size s f) && all (is_value_byte s f.kind) bs) (at_line 12 l)) _
    (check-so OfCase (eqb (length bs) (table_size s f) && all (is_value_byte s f.kind) bs) (at_line 12 l) (λ _. at-line l one)) (λ _ _. tt))))

read_tables-so : (s : ℕ) (g : Signature) (l : ℕ) (text : List ℕ) → 1 ≤ l → RefusedSo OfCase (read_tables s g l text)
unfolding read_tables
read_tables-so s [] l text one = tt
read_tables-so s (f ∷ fs) l text one =
    bind-so OfCase (read_table s f l text) _ (read_table-so s f l text one)
    (λ p _. bind-so OfCase (read_tables s fs (suc l) p.1) _ (read_tables-so s fs (suc l) p.1 (omega arith)) (λ _ _. tt))

read_case-so : (g : Signature) (text : List ℕ) → RefusedSo OfCase (read_case g text)
unfolding read_case
read_case-so g text =
    bind-so OfCase (or_refuse (cut_line text) (at_line 12 1)) _ (or_refuse-so OfCase (cut_line text) (at_line 12 1) (λ _. at-line 1 (omega arith)))
    (λ a _. bind-so OfCase (check (same a.0 (bytes "case=1")) (at_line 12 1)) _ (check-so OfCase (same a.0 (bytes "case=1")) (at_line 12 1) (λ _. at-line 1 (omega arith)))
    (λ _ _. bind-so OfCase (or_refuse (cut_line a.1) (at_line 12 2)) _ (or_refuse-so OfCase (cut_line a.1) (at_line 12 2) (λ _. at-line 2 (omega arith)))
    (λ b _. bind-so OfCase (or_refuse (after_key (bytes "size=") b.0) (at_line 12 2)) _ (or_refuse-so OfCase (after_key (bytes "size=") b.0) (at_line 12 2) (λ _. at-line 2 (omega arith)))
    (λ v _. bind-so OfCase (or_refuse (size_of v) (at_line 12 2)) _ (or_refuse-so OfCase (size_of v) (at_line 12 2) (λ _. at-line 2 (omega arith)))
    (λ s _. bind-so OfCase (read_tables s g 3 b.1) _ (read_tables-so s g 3 b.1 (omega arith))
    (λ t _. bind-so OfCase (check (same t.1 []) (at_line 12 (3 + length g))) _ (check-so OfCase (same t.1 []) (at_line 12 (3 + length g)) (λ _. at-line (3 + length g) (omega arith))) (λ _ _. tt)))))))

pub case-refusal : (g : Signature) (text : List ℕ) (r : Refusal) → read_case g text ≡ refused r → OfCase r
case-refusal g text r e = refused-so OfCase (read_case g text) r (read_case-so g text) e
