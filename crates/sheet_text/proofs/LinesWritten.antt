-- A line as it is written: a key, what follows it, LF.
use Prim.Native.Nat.{ℕ, ◌+◌, ◌≤◌}
use mathlib.Core.Path.{◌≡◌, refl, ap, ◌∙◌}
use mathlib.Core.List.{List, [], ◌∷◌, ◌++◌, append_assoc}
use native.Mathlib.Omega.{arith}
use lib.ListN.{length, set, length-append}
use Rattle.theory.specs.Bytes.{LF, zero_digit}
use Rattle.theory.specs.SheetText.{line, symbol_text}
use Rattle.syntax.specs.declared.signature.Symbol.{Symbol}
use Rattle.syntax.specs.Signatures.{symbol_in}
use Rattle.text.specs.Put.{put, put-run, cursor-run, put-cursor, cursor-more}

-- what is written, said otherwise
pub same_text : (l l' : List ℕ) (at e : ℕ) (v t : List ℕ) → v ≡ t → l' ≡ put l at v → e ≡ at + length v → (l' ≡ put l at t) × (e ≡ at + length t)
same_text l l' at e v t s p n = (p ∙ ap (put l at) s, omega (arith, ap length s))

-- a second text is written after a first
pub two-written : (l l' l'' : List ℕ) (at a b : ℕ) (v w : List ℕ) → at + length (v ++ w) ≤ length l → l' ≡ put l at v → a ≡ at + length v → l'' ≡ put l' a w → b ≡ a + length w
    → (l'' ≡ put l at (v ++ w)) × (b ≡ at + length (v ++ w))
two-written l l' l'' at a b v w room p n q m = (put-run l l' l'' at a v w p n q (omega (arith, length-append v w)), cursor-run at a b v w n m)

pub line-length : (key v : List ℕ) → length (line key v) ≡ length key + length v + 1
line-length key v = omega (arith, length-append key (v ++ (LF ∷ [])), length-append v (LF ∷ []))

-- the key at `at`, v at a, LF at b
pub line-written : (l l' l'' : List ℕ) (at a b : ℕ) (key v : List ℕ) → l' ≡ put l at key → a ≡ at + length key → l'' ≡ put l' a v → b ≡ a + length v → at + length (line key v) ≤ length l
    → (set l'' b LF ≡ put l at (line key v)) × (b + 1 ≡ at + length (line key v))
line-written l l' l'' at a b key v p n q m h = (
  put-cursor l l'' at b (key ++ v) (line key v) LF (put-run l l' l'' at a key v p n q (omega (arith, line-length key v))) (cursor-run at a b key v n m) (omega (arith, line-length key v)) (append_assoc key v (LF ∷ [])),
  omega (arith, line-length key v),
)

pub symbol-length : (text : List ℕ) (y : Symbol) → length (symbol_text (symbol_in text y)) ≡ length (symbol_in text y).name + 2
symbol-length text y = length-append (symbol_in text y).name (47 ∷ (zero_digit + y.arity) ∷ [])

-- / and the digit after the name
pub symbol-written : (text : List ℕ) (y : Symbol) (l l' : List ℕ) (at e : ℕ) → l' ≡ put l at (symbol_in text y).name → e ≡ at + length (symbol_in text y).name → at + length (symbol_text (symbol_in text y)) ≤ length l
    → (set (set l' e 47) (e + 1) (zero_digit + y.arity) ≡ put l at (symbol_text (symbol_in text y))) × (e + 2 ≡ at + length (symbol_text (symbol_in text y)))
symbol-written text y l l' at e p n h =
    let name = (symbol_in text y).name in (
      put-cursor l (set l' e 47) at (e + 1) (name ++ (47 ∷ [])) (symbol_text (symbol_in text y)) (zero_digit + y.arity)
          (put-cursor l l' at e name (name ++ (47 ∷ [])) 47 p n (omega (arith, symbol-length text y)) refl)
          (cursor-more at e name (name ++ (47 ∷ [])) 47 n refl)
          (omega (arith, symbol-length text y))
          (append_assoc name (47 ∷ []) ((zero_digit + y.arity) ∷ [])),
      omega (arith, symbol-length text y),
    )
