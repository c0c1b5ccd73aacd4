-- Renumbered interpretations (document 02, slip 13): elements get new numbers, and every table says of the new numbers what it said of the old.
use Rattle.std.specs.Prelude.{ℕ, List, map, get_or}
use Rattle.theory.specs.Syntax.{Kind, function, predicate, Signature, symbol_at}
use Rattle.theory.specs.Cells.{cell, tabulated}
use Rattle.renumbering.specs.Rearrangements.{becomes, comes_from}

-- a value after renumbering: a function's is an element and gets its new number, a predicate's stays
abbrev pub new_value : Kind → List ℕ → ℕ → ℕ
new_value function p d = becomes p d
new_value predicate p d = d

-- the value at the new numbers v: the new value of the old one, at the elements that v come from
abbrev pub value_after : ℕ → Signature → List ℕ → List ℕ → ℕ → List ℕ → ℕ
value_after s g p vs i v = new_value (symbol_at g i).kind p (get_or vs (cell s g i (map (comes_from p) v)) 0)

-- the interpretation renumbered by p: element d becomes the entry of p at place d
unfoldable pub renumbered : ℕ → Signature → List ℕ → List ℕ → List ℕ
renumbered s g p vs = tabulated s g (value_after s g p vs)
