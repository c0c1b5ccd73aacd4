-- What is told of the lists that open next, place by place in a text.
use Rattle.std.specs.Prelude.{ℕ, ◌+◌, ◌≡◌, Bool, cond, List, leb}
use Rattle.tptp.specs.Scanning.{arity_ahead}
use Rattle.scanning.specs.Ahead.{items_at}
use Rattle.argument_lists.specs.Lists.{list_arities, Held}
use Rattle.std.specs.declared.ops.Range.{Range}
use Rattle.argument_lists.specs.declared.arity.Arity.{Arity}

-- places of the counts that are those of the lists that open next
abbrev pub ToldPlaces : Type 0
ToldPlaces = Range ℕ

-- nothing is told
abbrev pub none_told : ToldPlaces
none_told = record { start = 0; end = 0 }

-- behind a token: the list that it opens is passed
abbrev pub told_after : ToldPlaces → Bool → ToldPlaces
told_after t opens = cond opens (cond (leb t.end t.start) t (record { start = t.start + 1; end = t.end })) t

-- what is told from a place on is true
abbrev pub ToldAt : List ℕ → ℕ → List ℕ → ToldPlaces → Type 0
ToldAt text at counts t = Held counts t.start t.end (list_arities (items_at text at))

-- the arguments of a symbol that ends at a place, and what is told from there on
pub record ArityTold (text : List ℕ) (at : ℕ) (counts : List ℕ) (r : Arity) : Type 0 where
  pub count : r.count ≡ arity_ahead (items_at text at)
  pub told : ToldAt text at counts r.told
