-- Texts as lists of bytes: literals, decimal numbers, one-digit numbers.
use Rattle.std.specs.Prelude.{ℕ, zero, suc, ◌+◌, ◌/◌, ◌%◌, Bool, true, false, ◌&&◌, List, [], ◌∷◌, ◌++◌, ltb, leb}
use Prim.Native.Char.{code}
use Prim.Native.String.{String}
use Prim.Native.String as string

-- the bytes of a quoted text
abbrev pub bytes : String → List ℕ
bytes string.[] = []
bytes (string.◌∷◌ c s) = code c ∷ bytes s

-- the byte that ends a line
abbrev pub LF : ℕ
LF = 10

-- the byte that parts words and values
abbrev pub space : ℕ
space = 32

-- the byte of the digit 0
abbrev pub zero_digit : ℕ
zero_digit = 48

-- the byte is a digit
abbrev pub is_digit : ℕ → Bool
is_digit b = leb 48 b && ltb b 58

-- the number in decimal, with at most k digits
abbrev pub digits : ℕ → ℕ → List ℕ
digits zero n = []
digits (suc k) n = elim (ltb n 10) [ true ↦ (48 + n) ∷ [] | false ↦ digits k (n / 10) ++ ((48 + n % 10) ∷ []) ]

-- the number in decimal
unfoldable pub decimal : ℕ → List ℕ
decimal n = digits (suc n) n
