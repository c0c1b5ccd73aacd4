use Prim.Native.Nat.{ℕ}
use mathlib.Core.Path.{◌≡◌, sym, ap, ◌∙◌}
use mathlib.Core.List.{List}
use lib.ListN.{length, drop}
use Rattle.std.proofs.lemmas.Iterator.Adapters.{option_map_id}
use Rattle.std.specs.List.{find, range_with_len}
use native.Mathlib.Omega.{arith}
use Rattle.std.proofs.Common.{rules, tests}
use Rattle.std.proofs.lemmas.Iterator.{YieldsList-from_range}
use Rattle.std.proofs.lemmas.Iterator.Search.{find_from_yields_List}
use Rattle.text.proofs.Part.{rest_all}
use Rattle.tokens.proofs.CommentEnds.{closes_at, behind, end-found, told-behind}
use Rattle.tokens.proofs.comments.comment_rest.Goals as goal

-- `comment_rest` is the first place at which */ stands in what is left.
pub returns : goal.returns
returns c =
    let a = c.args in
    let bs : List ℕ = drop a.at a.text.now in
    let all = rest_all a.at a.text.now in
    let found : c.find-place.result ≡ find (closes_at bs) (range_with_len 0 (length bs)) =
    sym (option_map_id _) ∙ find_from_yields_List (closes_at bs) _ _ c.find-place.result c.find-place.ensures.ran (YieldsList-from_range 0 (length bs) (length bs) (cc) (omega arith)) (λ x b q k. search (rules, tests)) in
    told-behind _ _ _ c.map.ensures.cases (λ i j k. search (rules, tests)) ∙ ap behind found ∙ end-found bs
