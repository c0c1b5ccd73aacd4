use Prim.Native.Nat.{◌+◌, ◌≤◌}
use mathlib.Core.Path.{◌≡◌, ap, ◌∙◌}
use mathlib.Core.List.{List}
use lib.ListN.{length, take}
use Rattle.std.proofs.Common.{rules, tests}
use Rattle.std.specs.List.{position}
use Rattle.std.proofs.lemmas.Iterator.{YieldsList-from_slice}
use Rattle.std.proofs.lemmas.Iterator.Adapters.{serves_from_places}
use Rattle.std.proofs.lemmas.Iterator.Search.{position_from_yields_List}
use Rattle.theory.specs.Lists.{same}
use Rattle.theory.specs.Options.{told}
use Rattle.text.proofs.Positions.{told-position, place-mapped}
use Rattle.declaring.specs.declared.letters.Letter.{Letter}
use Rattle.declaring.specs.Letters.{letter_in}
use Rattle.declaring.proofs.Lettering.{letter-within}
use Rattle.declaring.proofs.letters.find_letter.Goals as goal

-- `find_letter` is the first place at which a variable has the name.
pub position-requires-clause-callable : goal.position-requires-clause-callable
position-requires-clause-callable c = let a = c.args in
    serves_from_places (YieldsList-from_slice (take a.letters.count a.letters.names) (cc)) (λ y q k. search (rules, tests)) (λ y i l e. let h : y.now.name + y.now.length ≤ length a.text.now = letter-within a.text.now a.letters c.requires y.now i l e in search rules)

pub returns : goal.returns
returns c = let a = c.args in
    let names : List Letter = take a.letters.count a.letters.names in
    let found : c.position.result ≡ position (λ (y : Letter). same a.name.now (letter_in a.text.now y)) names =
    position_from_yields_List (λ (y : Letter). same a.name.now (letter_in a.text.now y)) _ _ _ c.position.ensures.ran (YieldsList-from_slice names (cc)) (λ x b q k. search (rules, tests)) in
    ap told found ∙ told-position (λ (y : Letter). same a.name.now (letter_in a.text.now y)) names ∙ place-mapped (same a.name.now) (letter_in a.text.now) names
