-- Valuations (document 01: settings): a byte for each propositional variable; which clauses they satisfy, the interpretation that they are read back as, and
-- the valuation that an interpretation has.
use Rattle.std.specs.Prelude.{ℕ, zero, suc, Bool, true, cond, ◌&&◌, List, [], ◌∷◌, ◌++◌, map, eqb, ltb, length, get_or, take, drop, replicate}
use Rattle.std.specs.Bool.{beq}
use Rattle.theory.specs.Lists.{any, all, select}
use Rattle.theory.specs.Syntax.{Kind, function, predicate, Signature}
use Rattle.theory.specs.Cells.{cell_kinds}
use Rattle.theory.specs.Propositional.{PropLiteral, PropClause, width, prop_count}
use Rattle.theory.specs.Dimacs.{clauses_of}

-- the valuation says yes to variable n: byte n, counted from 1, is 1
abbrev pub says : List ℕ → ℕ → Bool
says σ n = eqb (get_or (0 ∷ σ) n 0) 1

-- n is true if byte n is 1, and -n if it is 0
abbrev pub satisfies_literal : List ℕ → PropLiteral → Bool
satisfies_literal σ l = beq l.positive (says σ l.number)

-- one of the clause's numbers is true
abbrev pub satisfies_clause : List ℕ → PropClause → Bool
satisfies_clause σ c = any (satisfies_literal σ) c

-- the valuation satisfies every clause
unfoldable pub satisfies : List ℕ → List PropClause → Bool
satisfies σ cs = all (satisfies_clause σ) cs

-- the valuation satisfies every clause of a written text
unfoldable pub satisfies_text : List ℕ → List ℕ → Bool
satisfies_text σ text = satisfies σ (clauses_of text)

-- V bytes, 0 or 1; otherwise refusal 13
unfoldable pub is_valuation : ℕ → Signature → List ℕ → Bool
is_valuation s g σ = eqb (length σ) (prop_count s g) && all (λ b. ltb b 2) σ

-- the bytes of one cell give it a value: a function's cell exactly one result, a predicate's cell always
abbrev pub has_value : Kind → List ℕ → Bool
has_value function bits = eqb (length (select (eqb 1) bits)) 1
has_value predicate bits = true

-- the place of the first 1
abbrev pub first_one : List ℕ → ℕ
first_one [] = 0
first_one (b ∷ bs) = cond (eqb b 1) 0 (suc (first_one bs))

-- that value: the one result whose byte is 1 for a function's cell, the byte itself for a predicate's
abbrev pub value_of : Kind → List ℕ → ℕ
value_of function bits = first_one bits
value_of predicate bits = get_or bits 0 0

-- every cell, of these kinds in order, has a value
abbrev pub all_have_values : ℕ → List Kind → List ℕ → Bool
all_have_values s [] σ = true
all_have_values s (k ∷ ks) σ = has_value k (take (width s k) σ) && all_have_values s ks (drop (width s k) σ)

-- each function cell has exactly one result; otherwise refusal 14
unfoldable pub is_functional : ℕ → Signature → List ℕ → Bool
is_functional s g σ = all_have_values s (cell_kinds s g) σ

-- the values of the cells of these kinds
abbrev pub values_of : ℕ → List Kind → List ℕ → List ℕ
values_of s [] σ = []
values_of s (k ∷ ks) σ = value_of k (take (width s k) σ) ∷ values_of s ks (drop (width s k) σ)

-- the interpretation that a valuation is read back as: its cell values
unfoldable pub read_back : ℕ → Signature → List ℕ → List ℕ
read_back s g σ = values_of s (cell_kinds s g) σ

-- n bytes, 1 at place d and 0 elsewhere
abbrev pub one_hot : ℕ → ℕ → List ℕ
one_hot zero d = []
one_hot (suc n) zero = 1 ∷ replicate n 0
one_hot (suc n) (suc d) = 0 ∷ one_hot n d

-- the bytes that give a cell the value d: 1 for the one result of a function's cell, the value itself for a predicate's
abbrev pub bits_of : ℕ → Kind → ℕ → List ℕ
bits_of s function d = one_hot s d
bits_of s predicate d = d ∷ []

-- the bytes that give the cells of these kinds these values
abbrev pub bits_of_cells : ℕ → List Kind → List ℕ → List ℕ
bits_of_cells s [] vs = []
bits_of_cells s (k ∷ ks) [] = []
bits_of_cells s (k ∷ ks) (d ∷ ds) = bits_of s k d ++ bits_of_cells s ks ds

-- the valuation of an interpretation, given by its cell values: the one that is read back as it
unfoldable pub valuation_of : ℕ → Signature → List ℕ → List ℕ
valuation_of s g vs = bits_of_cells s (cell_kinds s g) vs

-- the bytes of a search's values: 1 for yes
abbrev pub setting_of : List ℕ → List ℕ
setting_of zs = map (λ z. cond (eqb z 1) 1 0) zs
