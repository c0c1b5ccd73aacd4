-- The tokens of a whole statement are entered as its clause, whatever follows it.
use Prim.Native.Nat.{ℕ}
use mathlib.Core.Path.{◌≡◌, sym, ap, ◌∙◌}
use mathlib.Core.Option.{some}
use mathlib.Core.List.{List, [], ◌∷◌, ◌++◌, map, append_assoc, map-append}
use native.Mathlib.Omega.{arith}
use Rattle.theory.specs.Lists.{concat_map}
use Rattle.tptp.specs.Tokens.{TptpToken}
use Rattle.tptp.specs.Grammar.{statement}
use Rattle.tptp.specs.Trees.{NameClause, Statement}
use Rattle.tptp.specs.Written.{Item, item, Layout, statement_items, written_clause}
use Rattle.tptp.specs.Scanning.{entries, clause_entries}
use Rattle.tptp.specs.Tptp.{File, with_statement, file_from}
use Rattle.tptp.specs.Claims.Places.{due_after_tokens}
use Rattle.tptp.proofs.Statements.{map-split, one-read}
use Rattle.tptp.proofs.Shapes.{shown-statements}
use Rattle.tptp.proofs.Scanning.{enter-statement}

-- the clause of the first statement of a file
abbrev first_clause : List Statement → NameClause
first_clause [] = []
first_clause (s ∷ ss) = s.clause

pub statement-entries : (n : ℕ) (t : TptpToken) (ts b : List TptpToken) (s : Statement) (f : File) → due_after_tokens statement (t ∷ ts) ≡ some statement
    → file_from n ((t ∷ ts) ++ b) [] statement ≡ with_statement s f → entries (map item ((t ∷ ts) ++ b)) statement ≡ clause_entries s.clause
statement-entries n t ts b s f h e = let r = shown-statements (t ∷ ts) h in go r.0 r.1
  where
    go : (ls : List Layout) → map item (t ∷ ts) ≡ concat_map statement_items ls → entries (map item ((t ∷ ts) ++ b)) statement ≡ clause_entries s.clause
    go [] q = let z : ◌≡◌ {A = ℕ} 0 1 = cc in absurd (omega arith)
    go (l ∷ ls) q =
        let r = map-split (statement_items l) (concat_map statement_items ls) (t ∷ ts) q in
        let o = one-read l n r.0 (r.1 ++ b) r.3 in
        let shape : (t ∷ ts) ++ b ≡ r.0 ++ (r.1 ++ b) = ap (λ (us : List TptpToken). us ++ b) r.2 ∙ append_assoc r.0 r.1 b in
        let same : with_statement s f ≡ with_statement o.0 (file_from n (r.1 ++ b) [] statement) = sym e ∙ ap (λ (us : List TptpToken). file_from n us [] statement) shape ∙ o.2 in
        let own : written_clause l ≡ s.clause = sym (ap (λ (x : File). first_clause x.statements) same ∙ o.1) in
        let items : map item ((t ∷ ts) ++ b) ≡ statement_items l ++ map item (r.1 ++ b) =
        ap (map item) shape ∙ map-append item r.0 (r.1 ++ b) ∙ ap (λ (us : List Item). us ++ map item (r.1 ++ b)) r.3 in
        ap (λ (us : List Item). entries us statement) items ∙ enter-statement l (map item (r.1 ++ b)) ∙ ap clause_entries own
