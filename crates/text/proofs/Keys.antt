-- Whether a line begins with a key.
use mathlib.Core.Path.{◌≡◌, refl, sym, ap, ◌∙◌}
use mathlib.Core.Bool.{Bool, true, false, cond, ◌&&◌}
use mathlib.Core.Option.{none, some}
use mathlib.Core.List.{List, [], ◌∷◌}
use Prim.Native.Nat.{ℕ, ◌≤◌}
use lib.Dec.{eqb}
use lib.ListN.{length, drop}
use Rattle.std.specs.List.{starts_with}
use Rattle.theory.specs.Lines.{after_key}
use Rattle.text.specs.Lines.{StartsWith}

-- what follows the key is there exactly if the line begins with it
found : (key line : List ℕ) → after_key key line ≡ cond (starts_with eqb line key) (some (drop (length key) line)) none
found [] line = refl
found (k ∷ ks) [] = refl
found (k ∷ ks) (b ∷ bs) = go (eqb k b) (found ks bs)
  where
    go : (t : Bool) → after_key ks bs ≡ cond (starts_with eqb bs ks) (some (drop (length ks) bs)) none
        → cond t (after_key ks bs) none ≡ cond (t && starts_with eqb bs ks) (some (drop (length ks) bs)) none
    go true ih = ih
    go false ih = refl

pub key_met : (line key : List ℕ) (r : Bool) → r ≡ starts_with eqb line key → (r ≡ true → length key ≤ length line) → StartsWith line key r
key_met line key r e h = record {
  found = found key line ∙ ap (λ (b : Bool). cond b (some (drop (length key) line)) none) (sym e);
  room = h;
}
