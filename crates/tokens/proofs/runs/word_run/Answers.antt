use lib.ListN.{drop}
use mathlib.Core.Path.{◌≡◌, ◌∙◌}
use native.Mathlib.Omega.{arith}
use Rattle.std.proofs.Common.{rules, tests}
use Rattle.std.proofs.lemmas.Iterator.{YieldsList-from_slice}
use Rattle.std.proofs.lemmas.Iterator.Consumers.{count_from_yields_List}
use Rattle.std.proofs.lemmas.Iterator.Search.{YieldsList-from_take_while}
use Rattle.tptp.specs.Tokens.{run, is_word_byte}
use Rattle.text.proofs.Part.{rest_all}
use Rattle.tokens.proofs.ByteRuns.{taken-run}
use Rattle.tokens.proofs.PieceStarts.{run_room}
use Rattle.tokens.proofs.runs.word_run.Goals as goal

-- `word_run` counts what `take_while` leaves.
pub returns : goal.returns
returns c =
    let a = c.args in
    let bs = drop a.at a.text.now in
    let e = rest_all a.at a.text.now in
    let v : c.count.result ≡ run is_word_byte bs =
    count_from_yields_List c.take_while.result _ c.count.ensures.ran (YieldsList-from_take_while _ is_word_byte (YieldsList-from_slice bs (cc)) c.take_while.ensures.closure c.take_while.ensures.done (λ x b q k. search (rules, tests))) ∙ taken-run is_word_byte bs
    in
    record { value = v; within = run_room is_word_byte a.text.now a.at _ (omega arith) v }
