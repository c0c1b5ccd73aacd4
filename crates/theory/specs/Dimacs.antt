-- The written text of propositional clauses, in DIMACS, and what a reader takes from such a text.
use Rattle.std.specs.Prelude.{ℕ, zero, suc, ◌+◌, ◌*◌, ◌-◌, Bool, true, false, cond, not, List, [], ◌∷◌, ◌++◌, eqb, length}
use Rattle.std.proofs.Math.Option.{Option, none, some}
use Rattle.theory.specs.Lists.{concat_map}
use Rattle.theory.specs.Bytes.{bytes, LF, space, zero_digit, is_digit, decimal}
use Rattle.theory.specs.Propositional.{PropLiteral, PropClause}

-- the byte of a minus sign
abbrev pub minus : ℕ
minus = 45

-- n or -n
unfoldable pub literal_text : PropLiteral → List ℕ
literal_text l = cond l.positive [] (minus ∷ []) ++ decimal l.number

-- a clause's line: each number and a space, then 0
unfoldable pub clause_text : PropClause → List ℕ
clause_text c = concat_map (λ l. literal_text l ++ (space ∷ [])) c ++ (zero_digit ∷ LF ∷ [])

-- the first line: p cnf V M
unfoldable pub header : ℕ → ℕ → List ℕ
header v m = bytes "p cnf " ++ (decimal v ++ (space ∷ (decimal m ++ (LF ∷ []))))

-- the text of the clauses ps over v variables
unfoldable pub dimacs : ℕ → List PropClause → List ℕ
dimacs v ps = header v (length ps) ++ concat_map clause_text ps

-- Reading such a text: a byte is a minus sign, a digit, or a gap between numbers.
pub data Byte : Type 0 where
  dash : Byte
  digit : ℕ → Byte
  gap : Byte

-- which of the three a byte is
abbrev pub classify : ℕ → Byte
classify b = cond (eqb b minus) dash (cond (is_digit b) (digit (b - zero_digit)) gap)

-- the number being read
pub record Token : Type 0 where
  pub negative : Bool
  pub size : ℕ

-- one more digit
abbrev pub push : Option Token → ℕ → Option Token
push none d = some (record { negative = false; size = d })
push (some t) d = some (record { negative = t.negative; size = t.size * 10 + d })

-- a number ends: 0 ends the clause, any other number is one more literal
abbrev pub end_token : Bool → ℕ → PropClause → (PropClause → List PropClause) → List PropClause
end_token b zero c go = c ∷ go []
end_token b (suc n) c go = go (c ++ (record { positive = not b; number = suc n } ∷ []))

-- one byte read, after the number t and in the clause c
abbrev pub read_byte : Byte → Option Token → PropClause → (Option Token → PropClause → List PropClause) → List PropClause
read_byte dash t c go = go (some (record { negative = true; size = 0 })) c
read_byte (digit d) t c go = go (push t d) c
read_byte gap none c go = go none c
read_byte gap (some t) c go = end_token t.negative t.size c (go none)

-- the clauses of the bytes, after the number t and in the clause c
abbrev pub read_clauses : List ℕ → Option Token → PropClause → List PropClause
read_clauses [] t c = []
read_clauses (b ∷ bs) t c = read_byte (classify b) t c (read_clauses bs)

-- what follows the first line
abbrev pub after_line : List ℕ → List ℕ
after_line [] = []
after_line (b ∷ bs) = cond (eqb b LF) bs (after_line bs)

-- the clauses of a text
unfoldable pub clauses_of : List ℕ → List PropClause
clauses_of text = read_clauses (after_line text) none []
