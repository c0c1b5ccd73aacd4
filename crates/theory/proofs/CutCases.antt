-- A case that is cut after 24,903 bytes or more is read, or refused, as the whole one.
use Prim.Native.Nat.{ℕ, suc, ◌+◌, ◌-◌, ◌≤◌, ◌<◌}
use mathlib.Core.Path.{◌≡◌, refl, sym, ap, ◌∙◌}
use mathlib.Core.Logic.{◌⊎◌, inl, inr}
use mathlib.Core.Bool.{Bool, true, false, false≢true}
use mathlib.Core.List.{List, ◌++◌, append_assoc, append_cancel_right}
use native.Mathlib.Omega.{arith}
use lib.Dec.{leb}
use lib.ListN.{length, take, drop, take-append-drop, length-append}
use lib.Seq.{take_all, take-take, take-append-add, length-take-le}
use Rattle.theory.specs.Syntax.{Signature}
use Rattle.theory.specs.Refusals.{Refusal, Answer, answer, refused, at_line}
use Rattle.theory.specs.Problem.{Problem, read_problem}
use Rattle.theory.specs.CaseText.{Case, read_case}
use Rattle.theory.specs.DueLines.{from_line}
use Rattle.theory.specs.Columns.{case_column, with_column, with_columns, placed_case}
use Rattle.theory.specs.Claims.Columns.{twelve_on, ByteBeyondHelp}
use Rattle.theory.proofs.Tests.{true-or-false, leb-true, leb-false}
use Rattle.theory.proofs.CaseText.{read-exactly}
use Rattle.theory.proofs.CaseLengths.{case-lengths, longest-case}
use Rattle.theory.proofs.LinesBefore.{Before, before_of}
use Rattle.theory.proofs.Columns.{columns}
use Rattle.theory.proofs.PlacedCases.{line-cuts, case-refused}

-- with a column's bytes in front, no column of the same line comes after it
not_after : (condition : List ℕ → ℕ → Bool) (x y : List ℕ) (l c d : ℕ) → (a : ByteBeyondHelp condition x l c) → (b : ByteBeyondHelp condition y l d) → b.before ≡ a.before
    → c ≤ length (from_line l x) → take c (from_line l y) ≡ take c (from_line l x) → d ≤ c
not_after condition x y l c d a b same h e = go (true-or-false (leb d c))
  where
    go : (leb d c ≡ true) ⊎ (leb d c ≡ false) → d ≤ c
    go (inl k) = leb-true d c k
    go (inr k) =
        let lt : c < d = leb-false d c k in
        let u : List ℕ = take (d - 1) (from_line l y) in
        let rest : List ℕ = b.clears.0 in
        let front : u ++ rest ≡ take c (from_line l x) ++ (drop c u ++ rest) =
        ap (λ (v : List ℕ). v ++ rest) (sym (take-append-drop c u))
        ∙ append_assoc (take c u) (drop c u) rest
        ∙ ap (λ (v : List ℕ). v ++ (drop c u ++ rest)) (take-take c (d - 1) (from_line l y) (omega arith) ∙ e) in
        let z : condition (b.before ++ (u ++ rest)) l ≡ true =
        ap (λ (v : List ℕ). condition (v ++ (u ++ rest)) l) same
        ∙ ap (λ (v : List ℕ). condition (a.before ++ v) l) front
        ∙ a.stays (drop c u ++ rest) h in
        absurd (false≢true (sym b.clears.1 ∙ z))

-- a text that goes on beyond the column, cut behind it, has the same column
same-column : (condition : List ℕ → ℕ → Bool) (x y : List ℕ) (l c d j : ℕ) → (a : ByteBeyondHelp condition x l c) → (b : ByteBeyondHelp condition y l d) → b.before ≡ a.before
    → c ≤ j → j ≤ length (from_line l x) → from_line l y ≡ take j (from_line l x) → d ≡ c
same-column condition x y l c d j a b same c-j j-t cut =
    let d-c : d ≤ c = not_after condition x y l c d a b same (omega arith) (ap (take c) cut ∙ take-take c j (from_line l x) c-j) in
    let d-u : d ≤ length (from_line l y) = omega (arith, d-c, ap length cut, length-take-le j (from_line l x) j-t) in
    let c-d : c ≤ d = not_after condition y x l d c b a (sym same) d-u (sym (ap (take d) cut ∙ take-take d j (from_line l x) (omega (arith, d-c)))) in
    omega (arith, d-c, c-d)

module _ (sheet : List ℕ) (p : Problem) (read : read_problem sheet ≡ answer p) where
  abbrev g : Signature
  g = p.symbols

  -- a case that is read is no longer than the longest
  read_short : (text : List ℕ) (k : Case) → read_case g text ≡ answer k → length text ≤ 24902
  read_short text k e =
      let o = read-exactly g text k e in
      omega (arith, ap length o.written, case-lengths k.size g k.values o.positive o.interpretation, longest-case sheet p k.size read o.within)

  module _ (text : List ℕ) (k : ℕ) (enough : 24903 ≤ k) (long : k < length text) where
    -- refused on the same line, at the same column
    same_place : (l : ℕ) → read_case g text ≡ refused (at_line 12 (suc l)) → length text + case_column g text (suc l) ≤ length (from_line l text) + 24903
        → (read_case g (take k text) ≡ refused (at_line 12 (suc l))) × (case_column g (take k text) (suc l) ≡ case_column g text (suc l))
    same_place l e near =
        let f : Before l text = before_of l text (line-cuts sheet p read text l e) in
        let before : List ℕ = f.before in
        let t : List ℕ = from_line l text in
        let c : ℕ = case_column g text (suc l) in
        let a : ByteBeyondHelp (twelve_on g) text l c = columns.twelve sheet text p l read e in
        let parts : length text ≡ length before + length t = sym (ap length f.whole) ∙ length-append before t in
        let j : ℕ = k - length before in
        let u : List ℕ = take j t in
        let sum : k ≡ length before + j = omega (arith, near, parts, enough) in
        let cut : take k text ≡ before ++ u = ap (λ (i : ℕ). take i text) sum ∙ ap (take (length before + j)) (sym f.whole) ∙ take-append-add before t j in
        let c-j : c ≤ j = omega (arith, near, parts, enough) in
        let j-t : j ≤ length t = omega (arith, sum, parts, long) in
        let own : a.before ≡ before = append_cancel_right a.before before t (a.whole ∙ sym f.whole) in
        let split : take c t ++ drop c u ≡ u = ap (λ (v : List ℕ). v ++ drop c u) (sym (take-take c j t c-j)) ∙ take-append-drop c u in
        let holds : twelve_on g (before ++ u) l ≡ true =
        ap (λ (v : List ℕ). twelve_on g (before ++ v) l) (sym split) ∙ ap (λ (v : List ℕ). twelve_on g (v ++ (take c t ++ drop c u)) l) (sym own) ∙ a.stays (drop c u) (omega (arith, c-j, j-t)) in
        let again : read_case g (before ++ u) ≡ refused (at_line 12 (suc l)) = (columns.given_twelve sheet text p l read e before u f.whole).1 holds in
        (ap (read_case g) cut ∙ again, ap (λ (x : List ℕ). case_column g x (suc l)) cut ∙ column before u j (f.from u) again own c-j j-t refl)
      where
        column : (before u : List ℕ) (j : ℕ) → from_line l (before ++ u) ≡ u → read_case g (before ++ u) ≡ refused (at_line 12 (suc l)) → (columns.twelve sheet text p l read e).before ≡ before
            → case_column g text (suc l) ≤ j → j ≤ length (from_line l text) → u ≡ take j (from_line l text) → case_column g (before ++ u) (suc l) ≡ case_column g text (suc l)
        column before u j from again own c-j j-t is =
            let a = columns.twelve sheet text p l read e in
            let b = columns.twelve sheet (before ++ u) p l read again in
            let its : b.before ≡ before = append_cancel_right b.before before u (ap (λ (v : List ℕ). b.before ++ v) (sym from) ∙ b.whole) in
            same-column (twelve_on g) text (before ++ u) l (case_column g text (suc l)) (case_column g (before ++ u) (suc l)) j a b (its ∙ sym own) c-j j-t (from ∙ is)

    whole-refused : (r : Refusal) → read_case g text ≡ refused r → placed_case g (take k text) ≡ placed_case g text
    unfolding placed_case
    whole-refused r e =
        let q = case-refused sheet p read text r e in
        let l : ℕ = q.before in
        let R : Refusal = at_line 12 (suc l) in
        let e₁ : read_case g text ≡ refused R = e ∙ ap refused q.is in
        let s = same_place l e₁ q.near in
        ap (with_columns (λ _ m. case_column g (take k text) m)) s.0
        ∙ ap (λ (c : ℕ). refused (with_column c R)) s.1
        ∙ sym (ap (with_columns (λ _ m. case_column g text m)) e₁)

  -- what comes after that many bytes changes nothing
  pub cut-case : (text : List ℕ) (k : ℕ) → 24903 ≤ k → placed_case g (take k text) ≡ placed_case g text
  cut-case text k enough = go (true-or-false (leb (length text) k)) (read_case g text) refl
    where
      go : (leb (length text) k ≡ true) ⊎ (leb (length text) k ≡ false) → (m : Answer Case) → read_case g text ≡ m → placed_case g (take k text) ≡ placed_case g text
      go (inl h) m e = ap (placed_case g) (take_all k text (leb-true (length text) k h))
      go (inr h) (answer q) e = absurd (omega (arith, read_short text q e, enough, leb-false (length text) k h))
      go (inr h) (refused r) e = whole-refused text k enough (leb-false (length text) k h) r e
