-- A symbol's name as it is lent from the text.
use Prim.Native.Nat.{ℕ, ◌+◌, ◌-◌, ◌≤◌}
use mathlib.Core.Path.{◌≡◌, ap, ◌∙◌}
use mathlib.Core.List.{List}
use native.Mathlib.Omega.{arith}
use lib.ListN.{length, take, drop, length-drop}
use lib.Seq.{length-take-le}
use Rattle.syntax.specs.declared.signature.Symbol.{Symbol}
use Rattle.syntax.specs.Signatures.{symbol_in}

pub name-lent : (text : List ℕ) (y : Symbol) → take (y.name + y.length - y.name) (drop y.name text) ≡ (symbol_in text y).name
name-lent text y = let z : y.name + y.length - y.name ≡ y.length = omega arith in ap (λ (n : ℕ). take n (drop y.name text)) z

-- a name that stands within the text has its length
pub name-length : (text : List ℕ) (y : Symbol) → y.name + y.length ≤ length text → length (symbol_in text y).name ≡ y.length
name-length text y h = length-take-le y.length (drop y.name text) (omega (arith, length-drop y.name text))

pub lent_length : (text : List ℕ) (y : Symbol) → y.name + y.length ≤ length text → length (take (y.name + y.length - y.name) (drop y.name text)) ≡ y.length
lent_length text y h = ap length (name-lent text y) ∙ name-length text y h
