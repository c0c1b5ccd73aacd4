-- The constant clauses of source 000 (document 02, slip 10): a part of the written clauses for each declared constant; elements count from 0.
use Rattle.std.specs.Prelude.{ℕ, suc, ◌+◌, ◌-◌, ◌*◌, min, Bool, true, false, cond, ◌&&◌, List, [], ◌∷◌, ◌++◌, map, eqb, length}
use Rattle.theory.specs.Lists.{select, concat_map, up_to, sum}
use Rattle.theory.specs.Syntax.{is_function, is_from_sheet, Symbol, Signature, symbol_at, Clause}
use Rattle.theory.specs.Propositional.{PropLiteral, PropClause, prop_count, prop_variable}
use Rattle.theory.specs.PropClauses.{Part, function_part, clause_part, function_places}

-- a declared constant: a function of the sheet without arguments; a helper is none
abbrev pub is_constant : Symbol → Bool
is_constant f = is_function f.kind && eqb f.arity 0 && is_from_sheet f.origin

-- the places of the declared constants, in order
abbrev pub constant_places : Signature → List ℕ
constant_places g = select (λ i. is_constant (symbol_at g i)) (up_to (length g))

-- the constant at place c has the result d
abbrev pub constant_is : ℕ → Signature → ℕ → ℕ → PropLiteral
constant_is s g c d = record { positive = true; number = prop_variable s g c [] d }

-- the constant at place c has not the result d
abbrev pub constant_is_not : ℕ → Signature → ℕ → ℕ → PropLiteral
constant_is_not s g c d = record { positive = false; number = prop_variable s g c [] d }

-- the constant at place c takes one of the first n results
abbrev pub range_clause : ℕ → Signature → ℕ → ℕ → PropClause
range_clause s g n c = map (constant_is s g c) (up_to n)

-- it has the result after d only if an earlier constant has d
abbrev pub only_after : ℕ → Signature → List ℕ → ℕ → ℕ → PropClause
only_after s g earlier c d = constant_is_not s g c (suc d) ∷ map (λ a. constant_is s g a d) earlier

-- the smaller of the constant's number i, counted from 1, and s
abbrev pub range_of : ℕ → List ℕ → ℕ
range_of s earlier = min (suc (length earlier)) s

-- the clauses of the constant at place c: its range, then each further result rising; in I min(i, s), in L min(i, s) + (min(i, s) - 1)·i
unfoldable pub constant_part : ℕ → Signature → List ℕ → ℕ → Part
constant_part s g earlier c =
    record {
      clauses = range_clause s g (range_of s earlier) c ∷ map (only_after s g earlier c) (up_to (range_of s earlier - 1));
      clause_count = range_of s earlier;
      literal_count = range_of s earlier + (range_of s earlier - 1) * suc (length earlier);
    }

-- the parts of the constants at the places cs, in order, after the earlier ones
abbrev pub constant_parts_after : ℕ → Signature → List ℕ → List ℕ → List Part
constant_parts_after s g earlier [] = []
constant_parts_after s g earlier (c ∷ cs) = constant_part s g earlier c ∷ constant_parts_after s g (earlier ++ (c ∷ [])) cs

-- the parts of all declared constants
unfoldable pub constant_parts : ℕ → Signature → List Part
constant_parts s g = constant_parts_after s g [] (constant_places g)

-- the parts in written order, with the constant clauses where they are used: the function cells, the constants, the instances
unfoldable pub parts_with : Bool → ℕ → Signature → List Clause → List Part
parts_with used s g cs = map (function_part s g) (function_places g) ++ (cond used (constant_parts s g) [] ++ map (clause_part s g) cs)

-- the clauses of a call, in written order
unfoldable pub prop_clauses_with : Bool → ℕ → Signature → List Clause → List PropClause
prop_clauses_with used s g cs = concat_map (λ (p : Part). p.clauses) (parts_with used s g cs)

-- I
unfoldable pub instance_count_with : Bool → ℕ → Signature → List Clause → ℕ
instance_count_with used s g cs = sum (map (λ (p : Part). p.clause_count) (parts_with used s g cs))

-- L
unfoldable pub literal_count_with : Bool → ℕ → Signature → List Clause → ℕ
literal_count_with used s g cs = sum (map (λ (p : Part). p.literal_count) (parts_with used s g cs))

-- W
unfoldable pub work_needed_with : Bool → ℕ → Signature → List Clause → ℕ
work_needed_with used s g cs = literal_count_with used s g cs + 2 * instance_count_with used s g cs + 8 * prop_count s g + 16
