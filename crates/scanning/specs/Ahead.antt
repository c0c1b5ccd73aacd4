-- What the tokens from a place on show.
use Rattle.std.specs.Prelude.{ℕ, Bool, List, map, Option, Some, None}
use Rattle.tptp.specs.Written.{Item, item}
use Rattle.tptp.specs.Scanning as scanning
use Rattle.tokens.specs.NextTokens.{tokens_at}

-- the items of the tokens from a place on
abbrev pub items_at : List ℕ → ℕ → List Item
items_at text at = map item (tokens_at text at)

-- the relation between a literal's two terms, if it has a second
abbrev pub relation_in : Option Bool → scanning.Relation
relation_in None = scanning.unrelated
relation_in (Some b) = scanning.related b
