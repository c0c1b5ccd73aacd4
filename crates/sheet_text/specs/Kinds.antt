-- The symbols of one kind in a sheet's head.
use Rattle.std.specs.Prelude.{ℕ, ◌≡◌, List}
use Rattle.sheet_text.specs.declared.head.Kind.{Kind}

-- k has these keys and places
pub record IsKind (k : Kind) (counting key : List ℕ) (from to : ℕ) : Type 0 where
  pub counting_is : k.counting.now ≡ counting
  pub key_is : k.key.now ≡ key
  pub from_is : k.from ≡ from
  pub to_is : k.to ≡ to
