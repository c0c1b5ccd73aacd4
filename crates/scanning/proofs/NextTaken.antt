-- The next token of a whole statement: it is there, it may stand there, and it adds what looking ahead tells.
use Prim.Native.Nat.{ℕ}
use mathlib.Core.Path.{◌≡◌, refl, sym, ap, ◌∙◌}
use mathlib.Core.Bool.{Bool, true, false}
use mathlib.Core.Option.{Option, none, some}
use mathlib.Core.List.{List, [], ◌∷◌, ◌++◌}
use native.Mathlib.Omega.{arith}
use Rattle.tptp.specs.Tokens.{TokenKind, left_paren, full_stop, TptpToken}
use Rattle.tptp.specs.Grammar.{DueToken, statement, moves, due_after_token, may_end}
use Rattle.tptp.specs.Trees.{Name}
use Rattle.tptp.specs.Written.{Item, item_of}
use Rattle.tptp.specs.Scanning.{token_of, same_token_kind, arity_ahead, spot, Entry, entries_at, entries}
use Rattle.tptp.specs.Claims.Places.{due_after_tokens}
use Rattle.tptp.proofs.Statements.{kind-shown}
use Rattle.tokens.specs.Pieces.{kind_in}
use Rattle.tokens.specs.NextTokens.{token_in, NextFound}
use Rattle.std.specs.Prelude.{Some}
use Rattle.tokens.specs.declared.next.Token.{Token}
use Rattle.statements.specs.Dues.{kind_token, moved_by}
use Rattle.statements.specs.Follows.{up_to_stop, own_tokens, Inside}
use Rattle.statements.proofs.Moves.{due-moves}
use Rattle.statements.proofs.Inside.{goes-inside}
use Rattle.scanning.specs.Ahead.{items_at}
use Rattle.scanning.specs.Entries.{entries_in}
use Rattle.scanning.specs.Taking.{name_in, entries_from, TokenTaken}
use Rattle.scanning.specs.declared.entries.Entries.{Entries}
use Rattle.scanning.proofs.Lookahead.{items-next}

-- what is due inside a statement after an item, by its kind
due-by-kind : (d : DueToken) (t : TptpToken) (k : TokenKind) → may_end d ≡ false → t.kind ≡ k → due_after_token d t ≡ moved_by (moves d) k
due-by-kind d t k m e = sym (due-moves d t.kind t.name t.place m) ∙ ap (moved_by (moves d)) e

-- the entries of an item and those after it
goes_on : (d e : DueToken) (k : TokenKind) (n : Name) (us : List Item) → may_end d ≡ false → same_token_kind full_stop k ≡ false → moved_by (moves d) k ≡ some e → entries (item_of k n ∷ us) d ≡ entries_at (spot d) (item_of k n) us ++ entries us e
goes_on d e k n us m h q =
    let shown : (token_of (item_of k n)).kind ≡ k = kind-shown k n in
    ap (λ (b : Bool). entries_at (spot d) (item_of k n) us ++ (elim b as (λ _. List Entry) [ true ↦ [] | false ↦ elim (due_after_token d (token_of (item_of k n))) as (λ _. List Entry) [ some e ↦ entries us e | none ↦ [] ] ])) (ap (same_token_kind full_stop) shown ∙ h)
    ∙ ap (λ (o : Option DueToken). entries_at (spot d) (item_of k n) us ++ (elim o as (λ _. List Entry) [ some e ↦ entries us e | none ↦ [] ])) (due-by-kind d (token_of (item_of k n)) k m shown ∙ q)

module _ (text : List ℕ) (d : DueToken) (at : ℕ) (u : Token) (f : NextFound text at (Some u)) (i : Inside text d at) where
  abbrev it : TptpToken
  it = token_in text u

  items : items_at text at ≡ item_of (kind_in u.kind) (name_in text u.start u.end) ∷ items_at text u.end
  items = items-next text at u f

  -- the kind is all that the code looks at
  by_kind : (o : Option DueToken) → o ≡ due_after_token d (kind_token (kind_in u.kind) false) → moved_by (moves d) (kind_in u.kind) ≡ o
  by_kind o h = sym (due-by-kind d (kind_token (kind_in u.kind) false) (kind_in u.kind) i.inside refl) ∙ sym h

  own_first : (q : Bool) → same_token_kind full_stop (kind_in u.kind) ≡ q → own_tokens text at ≡ it ∷ (elim q as (λ _. List TptpToken) [ true ↦ [] | false ↦ own_tokens text u.end ])
  own_first q h = ap up_to_stop f.listed ∙ ap (λ (q : Bool). it ∷ (elim q as (λ _. List TptpToken) [ true ↦ [] | false ↦ own_tokens text u.end ])) h

  stands-first : (o : Option DueToken) → due_after_token d it ≡ o → same_token_kind full_stop (kind_in u.kind) ≡ false → (elim o as (λ _. Option DueToken) [ some x ↦ due_after_tokens x (own_tokens text u.end) | none ↦ none ]) ≡ some statement
  stands-first o h g = sym (ap (λ (x : Option DueToken). elim x as (λ _. Option DueToken) [ some y ↦ due_after_tokens y (own_tokens text u.end) | none ↦ none ]) h) ∙ sym (ap (due_after_tokens d) (own_first false g)) ∙ i.stands

  due-it : (o : Option DueToken) → o ≡ due_after_token d (kind_token (kind_in u.kind) false) → due_after_token d it ≡ o
  due-it o h = due-by-kind d it (kind_in u.kind) i.inside refl ∙ by_kind o h

  pub not-misplaced : none ≡ due_after_token d (kind_token (kind_in u.kind) false) → same_token_kind full_stop (kind_in u.kind) ≡ false → ⊥
  not-misplaced h g = let q : none ≡ some statement = stands-first none (due-it none h) g in cc

  pub token-taken : (x : DueToken) (es : Entries) → some x ≡ due_after_token d (kind_token (kind_in u.kind) false) → same_token_kind full_stop (kind_in u.kind) ≡ false
      → ((n : Name) → entries_in n (arity_ahead (items_at text u.end)) es ≡ entries_at (spot d) (item_of (kind_in u.kind) n) (items_at text u.end)) → (opens : Bool) → opens ≡ same_token_kind left_paren (kind_in u.kind)
      → TokenTaken text d at es opens u.start u.end x
  token-taken x es h g a opens o =
      let j = goes-inside d x it g i.inside (due-it (some x) h) in
      record {
        kind = kind_in u.kind;
        items = items;
        opening = o;
        adds =
            ap (λ (us : List Item). entries us d) items
            ∙ goes_on d x (kind_in u.kind) (name_in text u.start u.end) (items_at text u.end) i.inside g (by_kind (some x) h)
            ∙ ap (λ (l : List Entry). l ++ entries_from text x u.end) (sym (a (name_in text u.start u.end)));
        rest =
            record {
              stands = stands-first (some x) (due-it (some x) h) g;
              inside = j.0;
              lists = omega (arith, j.1, i.lists, f.within.1.1.0);
              within = f.within.1.1.1;
            };
        long = f.within.1.0;
        past = f.within.1.1.0;
      }
