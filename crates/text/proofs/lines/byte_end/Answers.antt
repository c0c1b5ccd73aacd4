use Prim.Native.Nat.{ℕ}
use mathlib.Core.Path.{◌≡◌, ◌∙◌}
use mathlib.Core.List.{List}
use lib.Dec.{eqb}
use lib.ListN.{drop}
use Rattle.std.specs.List.{position}
use Rattle.std.proofs.Common.{rules, tests}
use Rattle.std.proofs.lemmas.Iterator.{YieldsList-from_slice}
use Rattle.std.proofs.lemmas.Iterator.Search.{position_from_yields_List}
use Rattle.text.proofs.Part.{rest_all}
use Rattle.text.proofs.Ends.{place-or-length, end-found}
use Rattle.text.proofs.lines.byte_end.Goals as goal

-- `byte_end` is the place that `position` finds in what is left.
pub returns : goal.returns
returns c =
    let a = c.args in
    let bs : List ℕ = drop a.at a.text.now in
    let all = rest_all a.at a.text.now in
    let found : c.position.result ≡ position (λ b. eqb b a.byte) bs =
    position_from_yields_List (λ b. eqb b a.byte) _ _ _ c.position.ensures.ran (YieldsList-from_slice bs (cc)) (λ x b q k. search (rules, tests)) in
    end-found a.text.now a.at a.byte _ c.requires
    (rw (found, all) at c.unwrap_or.ensures ∙ place-or-length (λ b. eqb b a.byte) bs)
