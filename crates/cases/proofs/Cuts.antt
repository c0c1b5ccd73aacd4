-- The line from a place on, by where it ends.
use Prim.Native.Nat.{ℕ, suc}
use mathlib.Core.Path.{◌≡◌, ap, ◌∙◌}
use mathlib.Core.Bool.{Bool, cond}
use mathlib.Core.Option.{none, some}
use mathlib.Core.List.{List}
use native.Mathlib.Omega.{arith}
use borrow.Author.Tests.{lt-ltb, le-ltb}
use lib.ListN.{length, drop}
use Rattle.theory.specs.Lines.{cut_line}
use Rattle.text.specs.Lines.{part, LineEnd}

module _ (text : List ℕ) (at end : ℕ) (e : LineEnd text at end) where
  pub unended : end ≡ length text → cut_line (drop at text) ≡ none
  unended h = e.cut ∙ ap (λ (b : Bool). cond b (some (part text at end, drop (suc end) text)) none) (le-ltb end (length text) (omega arith))

  pub ended : (end ≡ length text → ⊥) → cut_line (drop at text) ≡ some (part text at end, drop (suc end) text)
  ended h = e.cut ∙ ap (λ (b : Bool). cond b (some (part text at end, drop (suc end) text)) none) (lt-ltb end (length text) (omega (arith, e.within, h)))
