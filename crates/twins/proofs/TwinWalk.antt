-- The constant clauses, one more at a time: the codes of a clause, a constant's clauses, and those of a signature as the code has them.
use Prim.Native.Nat.{ℕ, suc, ◌+◌, ◌-◌, ◌*◌, ◌≤◌, ◌<◌, min}
use mathlib.Core.Path.{◌≡◌, refl, sym, ap, ap₂, ◌∙◌}
use mathlib.Core.Bool.{true, false}
use mathlib.Core.List.{List, [], ◌∷◌, ◌++◌, map, map-map, map-append, append_assoc}
use native.Mathlib.Nat.{zero-mul}
use native.Mathlib.Numerals.{add-one}
use native.Mathlib.Omega.{arith}
use lib.ListN.{length, get_or, take, set, length-append, length-map}
use lib.Seq.{take-suc, take-suc-set, get_or-take, take_at, get_or-append_seam, length-take-le}
use Rattle.theory.specs.Lists.{concat_map, up_from, up_to}
use Rattle.theory.specs.Syntax.{Signature, symbol_at}
use Rattle.theory.specs.Propositional.{PropLiteral, PropClause, width, prop_base, prop_variable}
use Rattle.theory.specs.PropClauses.{Part, some_result}
use Rattle.theory.proofs.Lists.{map-cong}
use Rattle.symmetry.specs.ConstantClauses.{constant_places, constant_is, range_clause, only_after, range_of, constant_part, constant_parts_after, constant_parts}
use Rattle.stream.specs.Literals.{literal_of, prop_clause_of}
use Rattle.grounding.proofs.CellWalk.{cell-literal}
use Rattle.twins.specs.declared.constants.Constants.{Constants}
use Rattle.twins.specs.Constants.{held_bases}
use Rattle.twins.specs.TwinPart.{after_clause, step_clauses, twin_clauses, all_twins, twin_part}

-- yes to the result d
abbrev pub yes : ℕ → ℕ → PropLiteral
yes d x = record { positive = true; number = 1 + x + d }

-- the first literals of a constant's clause: not the result after d, then yes to d of the first j
abbrev pub some_after : List ℕ → ℕ → ℕ → ℕ → PropClause
some_after xs i d j = record { positive = false; number = 1 + get_or xs i 0 + suc d } ∷ map (yes d) (take j xs)

-- the first
pub after-begins : (k : Constants) (i d y u : ℕ) (us : List ℕ) → i < k.count → 0 < length us → y ≡ get_or k.first i 0 + (d + 1) → u ≡ 2 * y + 1 → prop_clause_of (take 1 (set us 0 u)) ≡ some_after (held_bases k) i d 0
after-begins k i d y u us l h e q =
    let n : y ≡ get_or (held_bases k) i 0 + suc d = e ∙ ap (λ (x : ℕ). x + (d + 1)) (sym (get_or-take k.count k.first i 0 l)) ∙ omega arith in
    ap prop_clause_of (take-suc-set us 0 u h) ∙ ap (λ (m : PropLiteral). m ∷ []) (cell-literal (get_or (held_bases k) i 0) (suc d) y u false n q)

-- one literal more
pub after_more : (k : Constants) (i d j j' y u : ℕ) (us : List ℕ) → j' ≡ suc j → j < length (held_bases k) → j < k.count → suc j < length us → y ≡ get_or k.first j 0 + d → u ≡ 2 * y + 0
    → prop_clause_of (take (suc j) us) ≡ some_after (held_bases k) i d j → prop_clause_of (take (suc j') (set us j' u)) ≡ some_after (held_bases k) i d j'
after_more k i d j j' y u us m l c h e q f =
    let n : y ≡ get_or (held_bases k) j 0 + d = e ∙ ap (λ (x : ℕ). x + d) (sym (get_or-take k.count k.first j 0 c)) in
    ap (λ (t : ℕ). prop_clause_of (take (suc t) (set us t u))) m
    ∙ ap prop_clause_of (take-suc-set us (suc j) u h)
    ∙ map-append literal_of (take (suc j) us) (u ∷ [])
    ∙ ap₂ (λ (c : PropClause) (m : PropLiteral). c ++ (m ∷ [])) f (cell-literal (get_or (held_bases k) j 0) d y u true n q)
    ∙ ap (λ (c : PropClause). record { positive = false; number = 1 + get_or (held_bases k) i 0 + suc d } ∷ c)
    (sym (map-append (yes d) (take j (held_bases k)) (get_or (held_bases k) j 0 ∷ [])) ∙ ap (map (yes d)) (sym (take-suc (held_bases k) j 0 l)))
    ∙ ap (some_after (held_bases k) i d) (sym m)

-- all of them
pub after-done : (k : Constants) (i d j : ℕ) (us : List ℕ) → j ≡ i → prop_clause_of (take (suc j) us) ≡ some_after (held_bases k) i d j → prop_clause_of (take (suc i) us) ≡ after_clause (held_bases k) i d
after-done k i d j us e f = ap (λ (t : ℕ). prop_clause_of (take (suc t) us)) (sym e) ∙ f ∙ ap (some_after (held_bases k) i d) e

pub after-whole : (k : Constants) (i d : ℕ) (us : List ℕ) → prop_clause_of (take (suc i) us) ≡ after_clause (held_bases k) i d → prop_clause_of (take (i + 1) us) ≡ after_clause (held_bases k) i d
after-whole k i d us e = ap (λ (n : ℕ). prop_clause_of (take n us)) (add-one i) ∙ e

-- a constant's clauses, as the code has them
module _ (s : ℕ) (g : Signature) where
  variable-is : (c d : ℕ) → prop_variable s g c [] d ≡ 1 + prop_base s g c + d
  variable-is c d = omega (arith, zero-mul (width s (symbol_at g c).kind))

  bases : List ℕ → List ℕ
  bases cs = map (prop_base s g) cs

  range_same : (n c : ℕ) → range_clause s g n c ≡ some_result n (1 + prop_base s g c)
  range_same n c =
      map-cong (constant_is s g c) (λ d. record { positive = true; number = 1 + prop_base s g c + d }) (up_to n)
      (λ d. ap (λ (k : ℕ). record { positive = true; number = k }) (variable-is c d))

  -- where the earlier ones stand before it in a list
  module _ (xs earlier : List ℕ) (c : ℕ) (at : get_or xs (length earlier) 0 ≡ prop_base s g c) (before : take (length earlier) xs ≡ map (prop_base s g) earlier) where
    after_same : (d : ℕ) → only_after s g earlier c d ≡ after_clause xs (length earlier) d
    after_same d =
        ap₂ (λ (k : ℕ) (l : PropClause). record { positive = false; number = k } ∷ l) (variable-is c (suc d) ∙ ap (λ (x : ℕ). 1 + x + suc d) (sym at))
        (map-cong (λ a. constant_is s g a d) (λ a. yes d (prop_base s g a)) earlier (λ a. ap (λ (k : ℕ). record { positive = true; number = k }) (variable-is a d))
        ∙ sym (map-map (yes d) (prop_base s g) earlier)
        ∙ ap (map (yes d)) (sym before))

    part_same : (constant_part s g earlier c).clauses ≡ twin_clauses s xs (length earlier)
    unfolding constant_part
    part_same =
        ap₂ (λ (r : PropClause) (l : List PropClause). r ∷ l) (range_same (range_of s earlier) c ∙ ap (λ (x : ℕ). some_result (range_of s earlier) (1 + x)) (sym at))
        (map-cong (only_after s g earlier c) (after_clause xs (length earlier)) (up_to (range_of s earlier - 1)) after_same)

  parts_same : (cs earlier : List ℕ) (xs : List ℕ) (n : ℕ) → xs ≡ map (prop_base s g) (earlier ++ cs) → n ≡ length earlier
      → concat_map (λ (p : Part). p.clauses) (constant_parts_after s g earlier cs) ≡ concat_map (twin_clauses s xs) (up_from n (length cs))
  parts_same [] earlier xs n e m = refl
  parts_same (c ∷ cs) earlier xs n e m =
      let split : xs ≡ map (prop_base s g) earlier ++ (prop_base s g c ∷ map (prop_base s g) cs) = e ∙ map-append (prop_base s g) earlier (c ∷ cs) in
      let len : length (map (prop_base s g) earlier) ≡ length earlier = length-map earlier (prop_base s g) in
      let at : get_or xs (length earlier) 0 ≡ prop_base s g c =
      ap₂ (λ (l : List ℕ) (k : ℕ). get_or l k 0) split (sym len) ∙ get_or-append_seam (map (prop_base s g) earlier) (prop_base s g c) (map (prop_base s g) cs) 0 in
      let before : take (length earlier) xs ≡ map (prop_base s g) earlier =
      ap (take (length earlier)) split ∙ take_at (map (prop_base s g) earlier) (prop_base s g c ∷ map (prop_base s g) cs) (length earlier) len in
      ap₂ (λ (a b : List PropClause). a ++ b)
      (part_same xs earlier c at before ∙ ap (twin_clauses s xs) (sym m))
      (parts_same cs (earlier ++ (c ∷ [])) xs (suc n) (e ∙ ap (map (prop_base s g)) (sym (append_assoc earlier (c ∷ []) cs))) (ap suc m ∙ sym (length-append earlier (c ∷ []) ∙ omega arith)))

  pub twins-same : (xs : List ℕ) → xs ≡ map (prop_base s g) (constant_places g) → twin_part s g ≡ all_twins s xs
  unfolding twin_part constant_parts
  twins-same xs e =
      parts_same (constant_places g) [] xs 0 e refl
      ∙ ap (λ (n : ℕ). concat_map (twin_clauses s xs) (up_to n)) (sym (ap length e ∙ length-map (constant_places g) (prop_base s g)))

-- the further results one by one
pub steps-one-by-one : (xs : List ℕ) (i n : ℕ) → concat_map (λ d. after_clause xs i d ∷ []) (up_to n) ≡ step_clauses xs i n
steps-one-by-one xs i n = go (up_to n)
  where
    go : (ds : List ℕ) → concat_map (λ d. after_clause xs i d ∷ []) ds ≡ map (after_clause xs i) ds
    go [] = refl
    go (d ∷ ds) = ap (λ (l : List PropClause). after_clause xs i d ∷ l) (go ds)

-- a constant's clauses: the range, then the further results
pub range-and-steps : (k : Constants) (i size m : ℕ) (us : List ℕ) → i < k.count → m ≡ min (i + 1) size → prop_clause_of (take m us) ≡ some_result m (1 + get_or k.first i 0)
    → twin_clauses size (held_bases k) i ≡ (prop_clause_of (take m us) ∷ []) ++ step_clauses (held_bases k) i (m - 1)
range-and-steps k i size m us l h e =
    let n : min (suc i) size ≡ m = omega arith in
    ap (λ (q : ℕ). some_result q (1 + get_or (held_bases k) i 0) ∷ step_clauses (held_bases k) i (q - 1)) n
    ∙ ap (λ (x : ℕ). some_result m (1 + x) ∷ step_clauses (held_bases k) i (m - 1)) (get_or-take k.count k.first i 0 l)
    ∙ ap (λ (r : PropClause). r ∷ step_clauses (held_bases k) i (m - 1)) (sym e)

-- all constants, as many as are held
pub twins-counted : (k : Constants) (s : ℕ) → k.count ≤ length k.first → all_twins s (held_bases k) ≡ concat_map (twin_clauses s (held_bases k)) (up_to k.count)
twins-counted k s h = ap (λ (n : ℕ). concat_map (twin_clauses s (held_bases k)) (up_to n)) (length-take-le k.count k.first h)
