-- The written text is read as the clauses written, wherever their numbers are at least 1; and the clauses of a call have such numbers.
use Prim.Native.Nat.{ℕ, zero, suc, ◌+◌, ◌*◌, ◌-◌, ◌/◌, ◌%◌, ◌≤◌, ◌<◌}
use mathlib.Core.Path.{◌≡◌, refl, sym, ap, ◌∙◌}
use mathlib.Core.Bool.{Bool, true, false, cond, not, ◌&&◌, beq, false≢true}
use mathlib.Core.Option.{Option, none, some}
use mathlib.Core.List.{List, [], ◌∷◌, ◌++◌, map, append_assoc, append-nil}
use native.Mathlib.Nat.{zero-mul}
use native.Mathlib.Omega.{arith}
use lib.Dec.{eqb, ltb, leb}
use lib.ListN.{length}
use Rattle.theory.specs.Lists.{all, concat_map, up_from, up_to}
use Rattle.theory.specs.Vectors.{vectors, rank}
use Rattle.theory.specs.Bytes.{bytes, LF, space, zero_digit, digits, decimal}
use Rattle.theory.specs.Syntax.{Signature, symbol_at, Clause}
use Rattle.theory.specs.Flattening.{FlatVariable, FlatAtom, flat_predicate, flat_result, flat_equality, FlatLiteral, flatten, variable_count}
use Rattle.theory.specs.Propositional.{PropLiteral, PropClause, width, prop_base, prop_variable}
use Rattle.theory.specs.Instances.{flat_value, Ground, known, variable, ground, add_literal, instance, kept, instances}
use Rattle.theory.specs.PropClauses.{some_result, not_both, not_two, cell_clauses, prop_clauses}
use Rattle.theory.specs.Dimacs.{minus, literal_text, clause_text, header, dimacs, Byte, dash, digit, gap, classify, Token, push, end_token, read_byte, read_clauses, after_line, clauses_of}
use Rattle.theory.proofs.Tests.{eqb-false, ltb-true, ltb-false, ltb-of-<, leb-true, leb-of-≤, and_left, and_right, and-join}
use Rattle.theory.proofs.Lists.{all_append, all_map, all-concat_map, all-every}
use Rattle.theory.proofs.Parts.{tables, tables←, all-prop_clauses}
use Rattle.theory.proofs.Lines.{in_line, digit-in_line}

classify-digit : (d : ℕ) → d < 10 → classify (48 + d) ≡ digit d
classify-digit d h =
    let a : eqb (48 + d) 45 ≡ false = eqb-false (48 + d) 45 (λ e. omega arith) in
    let b : (leb 48 (48 + d) && ltb (48 + d) 58) ≡ true =
    and-join (leb 48 (48 + d)) (ltb (48 + d) 58) (leb-of-≤ 48 (48 + d) (omega arith)) (ltb-of-< (48 + d) 58 (omega arith)) in
    let e : 48 + d - 48 ≡ d = omega arith in
    ap (λ (q : Bool). cond q dash (cond (leb 48 (48 + d) && ltb (48 + d) 58) (digit (48 + d - 48)) gap)) a
    ∙ ap (λ (q : Bool). cond q (digit (48 + d - 48)) gap) b ∙ ap digit e

read-digit : (d : ℕ) (bs : List ℕ) (t : Option Token) (c : PropClause) → d < 10 → read_clauses ((48 + d) ∷ bs) t c ≡ read_clauses bs (push t d) c
read-digit d bs t c h = ap (λ (b : Byte). read_byte b t c (read_clauses bs)) (classify-digit d h)

-- a state in which a number with this sign begins
abbrev Begins : Option Token → Bool → Type 0
Begins t b = (d : ℕ) → push t d ≡ some (record { negative = b; size = d })

read-digits : (k n : ℕ) → n < k → (bs : List ℕ) (t : Option Token) (b : Bool) (c : PropClause) → Begins t b
    → read_clauses (digits k n ++ bs) t c ≡ read_clauses bs (some (record { negative = b; size = n })) c
read-digits zero n h bs t b c s = absurd (omega arith)
read-digits (suc k) n h bs t b c s = go (ltb n 10) refl (λ lt bs. read-digits k (n / 10) lt bs t b c s)
  where
    go : (q : Bool) → ltb n 10 ≡ q → (n / 10 < k → (bs : List ℕ) → read_clauses (digits k (n / 10) ++ bs) t c ≡ read_clauses bs (some (record { negative = b; size = n / 10 })) c)
        → read_clauses ((elim q as (λ _. List ℕ) [ true ↦ (48 + n) ∷ [] | false ↦ digits k (n / 10) ++ ((48 + n % 10) ∷ []) ]) ++ bs) t c ≡ read_clauses bs (some (record { negative = b; size = n })) c
    go true e ih = read-digit n bs t c (ltb-true n 10 e) ∙ ap (λ (t : Option Token). read_clauses bs t c) (s n)
    go false e ih =
        let ge : 10 ≤ n = ltb-false n 10 e in
        let m : n / 10 * 10 + n % 10 ≡ n = omega arith in
        ap (λ (l : List ℕ). read_clauses l t c) (append_assoc (digits k (n / 10)) ((48 + n % 10) ∷ []) bs)
        ∙ ih (omega arith) ((48 + n % 10) ∷ bs)
        ∙ read-digit (n % 10) bs (some (record { negative = b; size = n / 10 })) c (omega arith)
        ∙ ap (λ (m : ℕ). read_clauses bs (some (record { negative = b; size = m })) c) m

-- the literal's number is at least 1
abbrev pub is_positive : PropLiteral → Bool
is_positive l = leb 1 l.number

positive-suc : (n : ℕ) → leb 1 n ≡ true → (m : ℕ) × (n ≡ suc m)
positive-suc n h = let le : 1 ≤ n = leb-true 1 n h in (n - 1, omega arith)

read-literal : (l : PropLiteral) → is_positive l ≡ true → (bs : List ℕ) (c : PropClause) → read_clauses (literal_text l ++ (space ∷ bs)) none c ≡ read_clauses bs none (c ++ (l ∷ []))
unfolding literal_text decimal
read-literal l pos bs c = go l.positive refl
  where
    m : (m : ℕ) × (l.number ≡ suc m)
    m = positive-suc l.number pos

    ended : (b : Bool) → not b ≡ l.positive → end_token b l.number c (read_clauses bs none) ≡ read_clauses bs none (c ++ (l ∷ []))
    ended b h =
        ap (λ (n : ℕ). end_token b n c (read_clauses bs none)) m.1
        ∙ ap (λ (q : Bool). read_clauses bs none (c ++ (record { positive = q; number = suc m.0 } ∷ []))) h
        ∙ ap (λ (n : ℕ). read_clauses bs none (c ++ (record { positive = l.positive; number = n } ∷ []))) (sym m.1)

    go : (q : Bool) → l.positive ≡ q → read_clauses ((cond q [] (minus ∷ []) ++ decimal l.number) ++ (space ∷ bs)) none c ≡ read_clauses bs none (c ++ (l ∷ []))
    go true h = read-digits (suc l.number) l.number (omega arith) (space ∷ bs) none false c (λ d. refl) ∙ ended false (sym h)
    go false h =
        read-digits (suc l.number) l.number (omega arith) (space ∷ bs) (some (record { negative = true; size = 0 })) true c
        (λ d. ap (λ (m : ℕ). some (record { negative = true; size = m })) (omega (arith, zero-mul 10)))
        ∙ ended true (sym h)

read-clause : (ls : PropClause) → all is_positive ls ≡ true → (bs : List ℕ) (c : PropClause) → read_clauses (clause_text ls ++ bs) none c ≡ (c ++ ls) ∷ read_clauses bs none []
unfolding clause_text
read-clause [] h bs c = ap (λ (d : PropClause). d ∷ read_clauses bs none []) (sym (append-nil c))
read-clause (l ∷ ls) h bs c =
    let rest : List ℕ = clause_text ls ++ bs in
    let body : List ℕ = concat_map (λ l. literal_text l ++ (space ∷ [])) ls in
    let shape : clause_text (l ∷ ls) ++ bs ≡ literal_text l ++ (space ∷ rest) =
    ap (λ (t : List ℕ). t ++ bs) (append_assoc (literal_text l ++ (space ∷ [])) body (zero_digit ∷ LF ∷ []))
    ∙ append_assoc (literal_text l ++ (space ∷ [])) (clause_text ls) bs
    ∙ append_assoc (literal_text l) (space ∷ []) rest in
    ap (λ (t : List ℕ). read_clauses t none c) shape
    ∙ read-literal l (and_left (is_positive l) (all is_positive ls) h) rest c
    ∙ read-clause ls (and_right (is_positive l) (all is_positive ls) h) bs (c ++ (l ∷ []))
    ∙ ap (λ (d : PropClause). d ∷ read_clauses bs none []) (append_assoc c (l ∷ []) ls)

read-clauses : (ps : List PropClause) → all (all is_positive) ps ≡ true → read_clauses (concat_map clause_text ps) none [] ≡ ps
read-clauses [] h = refl
read-clauses (c ∷ ps) h =
    read-clause c (and_left (all is_positive c) (all (all is_positive) ps) h) (concat_map clause_text ps) []
    ∙ ap (λ (l : List PropClause). c ∷ l) (read-clauses ps (and_right (all is_positive c) (all (all is_positive) ps) h))

after_line-is : (xs bs : List ℕ) → all in_line xs ≡ true → after_line (xs ++ (LF ∷ bs)) ≡ bs
after_line-is [] bs h = refl
after_line-is (x ∷ xs) bs h = go (eqb x LF) refl (after_line-is xs bs (and_right (in_line x) (all in_line xs) h))
  where
    go : (q : Bool) → eqb x LF ≡ q → after_line (xs ++ (LF ∷ bs)) ≡ bs → cond q (xs ++ (LF ∷ bs)) (after_line (xs ++ (LF ∷ bs))) ≡ bs
    go true e ih = absurd (false≢true (ap not (sym e) ∙ and_left (in_line x) (all in_line xs) h))
    go false e ih = ih

digits-in_line : (k n : ℕ) → all in_line (digits k n) ≡ true
digits-in_line zero n = refl
digits-in_line (suc k) n = go (ltb n 10) (digits-in_line k (n / 10))
  where
    go : (q : Bool) → all in_line (digits k (n / 10)) ≡ true
        → all in_line (elim q as (λ _. List ℕ) [ true ↦ (48 + n) ∷ [] | false ↦ digits k (n / 10) ++ ((48 + n % 10) ∷ []) ]) ≡ true
    go true ih = and-join (in_line (48 + n)) true (digit-in_line n) refl
    go false ih =
        all_append in_line (digits k (n / 10)) ((48 + n % 10) ∷ [])
        ∙ and-join (all in_line (digits k (n / 10))) (in_line (48 + n % 10) && true) ih (and-join (in_line (48 + n % 10)) true (digit-in_line (n % 10)) refl)

after-header : (v m : ℕ) (bs : List ℕ) → after_line (header v m ++ bs) ≡ bs
unfolding header decimal
after-header v m bs =
    let x : List ℕ = bytes "p cnf " in
    let y : List ℕ = decimal v ++ (space ∷ decimal m) in
    let hy : all in_line y ≡ true =
    all_append in_line (decimal v) (space ∷ decimal m)
    ∙ and-join (all in_line (decimal v)) (all in_line (space ∷ decimal m)) (digits-in_line (suc v) v) (digits-in_line (suc m) m) in
    let shape : header v m ++ bs ≡ (x ++ y) ++ (LF ∷ bs) =
    ap (λ (l : List ℕ). x ++ l)
    (append_assoc (decimal v) (space ∷ (decimal m ++ (LF ∷ []))) bs
    ∙ ap (λ (l : List ℕ). decimal v ++ (space ∷ l)) (append_assoc (decimal m) (LF ∷ []) bs)
    ∙ sym (append_assoc (decimal v) (space ∷ decimal m) (LF ∷ bs))) in
    ap after_line shape ∙ after_line-is (x ++ y) bs hy

-- the text is read as the clauses written
pub read-dimacs : (v : ℕ) (ps : List PropClause) → all (all is_positive) ps ≡ true → clauses_of (dimacs v ps) ≡ ps
unfolding clauses_of dimacs
read-dimacs v ps h = ap (λ (t : List ℕ). read_clauses t none []) (after-header v (length ps) (concat_map clause_text ps)) ∙ read-clauses ps h

positive-add : (n m : ℕ) → n ≡ 1 + m → leb 1 n ≡ true
positive-add n m e = leb-of-≤ 1 n (omega arith)

some_result-positive : (s n : ℕ) → all is_positive (some_result s (1 + n)) ≡ true
some_result-positive s n =
    all_map is_positive (λ d. record { positive = true; number = 1 + n + d }) (up_to s) ∙ all-every (λ d. leb 1 (1 + n + d)) (up_to s) (λ d. positive-add (1 + n + d) (n + d) (omega arith))

not_two-positive : (s n : ℕ) → all (all is_positive) (not_two s (1 + n)) ≡ true
not_two-positive s n =
    let row : ℕ → List PropClause = λ d. map (λ e. not_both (1 + n) d e) (up_from (suc d) (s - suc d)) in
    all-concat_map (all is_positive) row (up_to s)
    ∙ all-every (λ d. all (all is_positive) (row d)) (up_to s)
    (λ d. all_map (all is_positive) (λ e. not_both (1 + n) d e) (up_from (suc d) (s - suc d))
    ∙ all-every (λ e. all is_positive (not_both (1 + n) d e)) (up_from (suc d) (s - suc d))
    (λ e. and-join (leb 1 (1 + n + d)) (leb 1 (1 + n + e) && true) (positive-add (1 + n + d) (n + d) (omega arith))
    (and-join (leb 1 (1 + n + e)) true (positive-add (1 + n + e) (n + e) (omega arith)) refl)))

cell_clauses-positive : (s n : ℕ) → all (all is_positive) (cell_clauses s (1 + n)) ≡ true
cell_clauses-positive s n = and-join (all is_positive (some_result s (1 + n))) (all (all is_positive) (not_two s (1 + n))) (some_result-positive s n) (not_two-positive s n)

-- a propositional variable has a number of at least 1
abbrev ground_positive : Ground → Bool
ground_positive (known b) = true
ground_positive (variable n) = leb 1 n

ground-positive : (s : ℕ) (g : Signature) (ν : FlatVariable → ℕ) (a : FlatAtom) → ground_positive (ground s g ν a) ≡ true
ground-positive s g ν (flat_predicate p xs) = positive-add (prop_variable s g p (map ν xs) 0) (prop_base s g p + (rank s (map ν xs) * width s (symbol_at g p).kind + 0)) refl
ground-positive s g ν (flat_result f xs y) = positive-add (prop_variable s g f (map ν xs) (ν y)) (prop_base s g f + (rank s (map ν xs) * width s (symbol_at g f).kind + ν y)) refl
ground-positive s g ν (flat_equality x y) = refl

instance-positive : (s : ℕ) (g : Signature) (ν : FlatVariable → ℕ) (ls : List FlatLiteral) → all (all is_positive) (kept (instance s g ν ls)) ≡ true
instance-positive s g ν [] = refl
instance-positive s g ν (l ∷ ls) = go (ground s g ν l.atom) (ground-positive s g ν l.atom) (instance s g ν ls) (instance-positive s g ν ls)
  where
    go : (a : Ground) → ground_positive a ≡ true → (o : Option PropClause) → all (all is_positive) (kept o) ≡ true → all (all is_positive) (kept (add_literal l.sign a o)) ≡ true
    go (known b) p o h = pick (beq l.sign b)
      where
        pick : (q : Bool) → all (all is_positive) (kept (cond q none o)) ≡ true
        pick true = refl
        pick false = h
    go (variable n) p none h = refl
    go (variable n) p (some c) h = and-join (leb 1 n && all is_positive c) true (and-join (leb 1 n) (all is_positive c) p (and_left (all is_positive c) true h)) refl

instances-positive : (s : ℕ) (g : Signature) (c : Clause) → all (all is_positive) (instances s g (flatten c)) ≡ true
unfolding instances
instances-positive s g c =
    let f : List ℕ → List PropClause = λ v. kept (instance s g (flat_value (flatten c).owns v) (flatten c).literals) in
    all-concat_map (all is_positive) f (vectors s (variable_count (flatten c)))
    ∙ all-every (λ v. all (all is_positive) (f v)) (vectors s (variable_count (flatten c))) (λ v. instance-positive s g (flat_value (flatten c).owns v) (flatten c).literals)

-- every number of a call's clauses is at least 1
pub prop_clauses-positive : (s : ℕ) (g : Signature) (cs : List Clause) → all (all is_positive) (prop_clauses s g cs) ≡ true
prop_clauses-positive s g cs =
    let q : PropClause → Bool = all is_positive in
    all-prop_clauses s g q cs
    ∙ and-join (all q (tables s g)) (all (λ c. all q (instances s g (flatten c))) cs)
    (tables← s g q (λ i r _ _ _. cell_clauses-positive s (prop_base s g i + r * s)))
    (all-every (λ c. all q (instances s g (flatten c))) cs (instances-positive s g))

-- so the text of a call says its clauses
pub written-clauses : (v s : ℕ) (g : Signature) (cs : List Clause) → clauses_of (dimacs v (prop_clauses s g cs)) ≡ prop_clauses s g cs
written-clauses v s g cs = read-dimacs v (prop_clauses s g cs) (prop_clauses-positive s g cs)
