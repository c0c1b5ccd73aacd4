-- A whole statement is entered, from the place after its cnf on, as the clause that it is.
use Prim.Native.Nat.{ℕ, ◌+◌}
use mathlib.Core.Path.{◌≡◌, sym, ap, ◌∙◌}
use mathlib.Core.Bool.{true, false}
use mathlib.Core.Option.{some}
use mathlib.Core.List.{List, [], ◌∷◌, ◌++◌, map}
use lib.ListN.{length}
use Rattle.tptp.specs.Tokens.{full_stop, TptpToken, is}
use Rattle.tptp.specs.Grammar.{statement, opening, due_after_token}
use Rattle.tptp.specs.Trees.{statement_of}
use Rattle.theory.specs.Bytes.{bytes}
use Rattle.tptp.specs.Written.{Item, lower, item}
use Rattle.tptp.specs.Scanning.{entries, clause_entries}
use Rattle.tptp.specs.Tptp.{with_statement, file_from}
use Rattle.tptp.specs.Claims.Places.{due_after_tokens}
use Rattle.tptp.proofs.Shapes.{cnf-shown}
use Rattle.tptp.proofs.Entered.{statement-entries}
use Rattle.tokens.specs.NextTokens.{tokens_at}
use Rattle.statements.specs.Follows.{up_to_stop, own_tokens, file_at, WholeAt}
use Rattle.scanning.specs.Ahead.{items_at}
use Rattle.scanning.specs.Taking.{entries_from}

-- cnf adds nothing, and ( is due after it
cnf-adds : (p : ℕ) (us : List Item) (i : Item) → i ≡ lower (record { bytes = bytes "cnf"; place = p }) → entries (i ∷ us) statement ≡ entries us opening
unfolding due_after_token
cnf-adds p us i e = ap (λ (j : Item). entries (j ∷ us) statement) e

pub whole-entries : (text : List ℕ) (at start stop end : ℕ) → WholeAt text at start stop end → entries_from text opening (start + 3) ≡ clause_entries (statement_of (own_tokens text at)).clause
whole-entries text at start stop end w =
    let t : TptpToken = w.cnf in
    let rest : List TptpToken = elim (is full_stop t) as (λ _. List TptpToken) [ true ↦ [] | false ↦ up_to_stop (tokens_at text (start + 3)) ] in
    let own : own_tokens text at ≡ t ∷ rest = ap up_to_stop w.listed in
    let all : tokens_at text at ≡ (t ∷ rest) ++ tokens_at text end = w.whole.parted ∙ ap (λ (ts : List TptpToken). ts ++ tokens_at text end) own in
    let due : due_after_tokens statement (t ∷ rest) ≡ some statement = sym (ap (due_after_tokens statement) own) ∙ w.whole.stands in
    let file : file_from (length text) ((t ∷ rest) ++ tokens_at text end) [] statement ≡ with_statement (statement_of (own_tokens text at)) (file_at text end) =
    ap (λ (ts : List TptpToken). file_from (length text) ts [] statement) (sym all) ∙ w.whole.file [] in
    sym (cnf-adds t.place (items_at text (start + 3)) (item t) (cnf-shown t w.begins))
    ∙ ap (λ (ts : List TptpToken). entries (map item ts) statement) (sym w.listed ∙ all)
    ∙ statement-entries (length text) t rest (tokens_at text end) (statement_of (own_tokens text at)) (file_at text end) due file
