-- The clauses of the function cells, one more at a time.
use Prim.Native.Nat.{ℕ, suc, ◌+◌, ◌*◌, ◌^◌, ◌≤◌, ◌<◌}
use mathlib.Core.Path.{◌≡◌, refl, sym, ap, ap₂, ◌∙◌}
use mathlib.Core.Bool.{Bool, true, false, cond}
use mathlib.Core.List.{List, [], ◌∷◌, ◌++◌, map, map-append}
use native.Mathlib.Nat.{mul-le-mul}
use native.Mathlib.Omega.{arith}
use lib.ListN.{length, get_or, take, set, length-map}
use lib.Seq.{take-suc-set}
use Rattle.theory.specs.Lists.{concat_map, up_to, select}
use Rattle.theory.specs.Syntax.{is_function, Signature, symbol_at}
use Rattle.theory.specs.Syntax as theory
use Rattle.theory.specs.Cells.{table_size}
use Rattle.theory.specs.Propositional.{PropLiteral, PropClause, prop_base}
use Rattle.theory.specs.PropClauses.{some_result, not_both, function_part}
use Rattle.theory.proofs.Lists.{length-up_from, up_from-append}
use Rattle.syntax.specs.declared.signature.Symbol.{Symbol}
use Rattle.syntax.specs.declared.signature.Signature as declared
use Rattle.syntax.specs.Signatures.{kind_of, symbol_in, signature_in}
use Rattle.clauses.specs.Names.{Limited}
use Rattle.clauses.proofs.Held.{blank, count-signature_in, symbol_at-signature_in}
use Rattle.stream.specs.Literals.{literal_of, prop_clause_of}
use Rattle.stream.proofs.Codes.{literal_of-code}
use Rattle.valuations.specs.declared.numbering.Numbering.{Numbering}
use Rattle.valuations.specs.Numbers.{max_prop_vars, NumberingOf}
use Rattle.valuations.proofs.Blocks.{prop_base-within}
use Rattle.grounding.specs.CellPart.{row_clauses, symbol_clauses, cell_part}

-- the literal of a cell's variable y for the result d, the cell's first variable being x
pub cell-literal : (x d y u : ℕ) (b : Bool) → y ≡ x + d → u ≡ 2 * y + cond b 0 1 → literal_of u ≡ record { positive = b; number = 1 + x + d }
cell-literal x d y u b h e =
    let n : 1 + y ≡ 1 + x + d = omega arith in
    ap literal_of e ∙ literal_of-code y b ∙ ap (λ (k : ℕ). record { positive = b; number = k }) n

-- not d or not e
pub pair-clause : (x d e y z a b : ℕ) → y ≡ x + d → z ≡ x + e → a ≡ 2 * y + 1 → b ≡ 2 * z + 1 → prop_clause_of (a ∷ b ∷ []) ≡ not_both (1 + x) d e
pair-clause x d e y z a b h k p q = ap₂ (λ (l m : PropLiteral). l ∷ m ∷ []) (cell-literal x d y a false h p) (cell-literal x e z b false k q)

-- some result, one result more
pub result-more : (x d y u : ℕ) (us : List ℕ) → d < length us → prop_clause_of (take d us) ≡ some_result d (1 + x) → y ≡ x + d → u ≡ 2 * y + 0 → prop_clause_of (take (suc d) (set us d u)) ≡ some_result (suc d) (1 + x)
result-more x d y u us h e k p =
    ap prop_clause_of (take-suc-set us d u h)
    ∙ map-append literal_of (take d us) (u ∷ [])
    ∙ ap₂ (λ (c : PropClause) (l : PropLiteral). c ++ (l ∷ [])) e (cell-literal x d y u true k p)
    ∙ sym whole
  where
    positive : ℕ → PropLiteral
    positive d = record { positive = true; number = 1 + x + d }

    whole : some_result (suc d) (1 + x) ≡ some_result d (1 + x) ++ (positive d ∷ [])
    whole =
        let n : d + 1 ≡ suc d = omega arith in
        let z : 0 + d ≡ d = omega arith in
        ap (λ (k : ℕ). map positive (up_to k)) (sym n)
        ∙ ap (map positive) (sym (up_from-append 0 d 1) ∙ ap (λ (k : ℕ). up_to d ++ (k ∷ [])) z)
        ∙ map-append positive (up_to d) (d ∷ [])

-- a list of clauses one by one
pub one_by_one : (f : ℕ → PropClause) (xs : List ℕ) → concat_map (λ x. f x ∷ []) xs ≡ map f xs
one_by_one f [] = refl
one_by_one f (x ∷ xs) = ap (λ (l : List PropClause). f x ∷ l) (one_by_one f xs)

-- what the symbol at place i adds
abbrev pub symbol_part : ℕ → Signature → ℕ → List PropClause
symbol_part s g i = cond (is_function (symbol_at g i).kind) (function_part s g i).clauses []

pub cell_part-symbols : (s : ℕ) (g : Signature) → cell_part s g ≡ concat_map (symbol_part s g) (up_to (length g))
unfolding cell_part
cell_part-symbols s g = selected (λ i. (function_part s g i).clauses) (λ i. is_function (symbol_at g i).kind) (up_to (length g))
  where
    selected : (f : ℕ → List PropClause) (p : ℕ → Bool) (xs : List ℕ) → concat_map f (select p xs) ≡ concat_map (λ x. cond (p x) (f x) []) xs
    selected f p [] = refl
    selected f p (x ∷ xs) = go (p x) (selected f p xs)
      where
        go : (b : Bool) → concat_map f (select p xs) ≡ concat_map (λ x. cond (p x) (f x) []) xs → concat_map f (cond b (x ∷ select p xs) (select p xs)) ≡ cond b (f x) [] ++ concat_map (λ x. cond (p x) (f x) []) xs
        go true e = ap (λ (l : List PropClause). f x ++ l) e
        go false e = e

-- as the code has it
pub symbol_part-clauses : (s : ℕ) (g : Signature) (i base : ℕ) (sheet : List ℕ) (y : Symbol) → symbol_at g i ≡ symbol_in sheet y → base ≡ prop_base s g i → symbol_part s g i ≡ symbol_clauses s base y
unfolding function_part
symbol_part-clauses s g i base sheet y e p =
    ap (λ (f : theory.Symbol). cond (is_function f.kind) (row_clauses s (prop_base s g i) (table_size s f)) []) e
    ∙ ap (λ (b : Bool). cond b (row_clauses s (prop_base s g i) (s ^ y.arity)) []) (marked y.function)
    ∙ ap (λ (n : ℕ). symbol_clauses s n y) (sym p)
  where
    marked : (b : Bool) → is_function (kind_of b) ≡ b
    marked true = refl
    marked false = refl

-- the first variable of a row is small
pub row_small : (r s : ℕ) → r < 512 → s ≤ 8 → r * s ≤ 4096
row_small r s h l = omega (arith, mul-le-mul {n₁ = r} {m₁ = s} {n₂ = 512} {m₂ = 8} (omega arith) l)

-- some result has a literal for each
pub length_some : (s n : ℕ) (us : List ℕ) → prop_clause_of us ≡ some_result s n → s ≡ length us
length_some s n us e =
    sym (length-up_from 0 s)
    ∙ sym (length-map (up_to s) (λ d. record { positive = true; number = n + d }))
    ∙ ap length (sym e)
    ∙ length-map us literal_of

-- All symbols, as the code has them.
module _ (y : declared.Signature) (h : Limited y) (size : ℕ) (n : Numbering) (numbering : (sheet : List ℕ) → NumberingOf (signature_in sheet y) size n) (sheet : List ℕ) where
  pub whole_part : cell_part size (signature_in sheet y) ≡ concat_map (symbol_part size (signature_in sheet y)) (up_to y.count)
  whole_part = cell_part-symbols size (signature_in sheet y) ∙ ap (λ (k : ℕ). concat_map (symbol_part size (signature_in sheet y)) (up_to k)) (count-signature_in y h sheet)

  pub part_at : (i : ℕ) → i < y.count → symbol_part size (signature_in sheet y) i ≡ symbol_clauses size (get_or n.bases i 0) (get_or y.symbols i blank)
  part_at i l =
      symbol_part-clauses size (signature_in sheet y) i (get_or n.bases i 0) sheet (get_or y.symbols i blank) (symbol_at-signature_in y h sheet i l)
      ((numbering sheet).base i (omega (arith, count-signature_in y h sheet)))

  pub base-small : (i : ℕ) → i < y.count → get_or n.bases i 0 ≤ max_prop_vars
  base-small i l =
      omega (
        arith,
        (numbering sheet).base i (omega (arith, count-signature_in y h sheet)),
        prop_base-within size (signature_in sheet y) i,
        (numbering sheet).count,
        (numbering sheet).small,
      )
