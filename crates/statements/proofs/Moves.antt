-- What is due after a token of a kind: two lists of moves joined, and the kind as all that is looked at.
use Prim.Native.Nat.{ℕ, zero, suc}
use mathlib.Core.Path.{◌≡◌, refl, ap, ◌∙◌}
use mathlib.Core.Bool.{Bool, true, false, true≢false}
use mathlib.Core.Option.{Option, none, some}
use mathlib.Core.List.{List, [], ◌∷◌, ◌++◌}
use Rattle.std.specs.Prelude.{Some, None}
use Rattle.std.specs.Prelude as rust
use Rattle.std.specs.Option.{option_or}
use Rattle.theory.specs.Lists.{first_that}
use Rattle.tptp.specs.Tokens.{TokenKind}
use Rattle.tptp.specs.Grammar.{first, second, DueToken, Move, statement, opening, name, name_comma, role, role_comma, clause, literal, literal_end, term, word_end, term_end, equality, closing, stop, may_end, moves, due_after_token}
use Rattle.statements.specs.Dues.{after_in, kind_token, moved_by}
use Rattle.statements.specs.declared.due.Due.{Due}

module _ (k : TokenKind) where
  -- some moves, else others
  abbrev or_moves : List Move → Option DueToken → Option DueToken
  or_moves ns (some d) = some d
  or_moves ns none = moved_by ns k

  pub joined : (ms ns : List Move) → or_moves ns (moved_by ms k) ≡ moved_by (ms ++ ns) k
  joined [] ns = refl
  joined (m ∷ ms) ns = go (m.0 (kind_token k false)) (joined ms ns)
    where
      go : (q : Bool) → or_moves ns (moved_by ms k) ≡ moved_by (ms ++ ns) k
          → or_moves ns (elim (elim q as (λ _. Option Move) [ true ↦ some m | false ↦ first_that (λ (m : Move). m.0 (kind_token k false)) ms ]) as (λ _. Option DueToken) [ some m ↦ some m.1 | none ↦ none ])
          ≡ (elim (elim q as (λ _. Option Move) [ true ↦ some m | false ↦ first_that (λ (m : Move). m.0 (kind_token k false)) (ms ++ ns) ]) as (λ _. Option DueToken) [ some m ↦ some m.1 | none ↦ none ])
      go true h = refl
      go false h = h

  -- what the code's `or` leaves due
  pub either-moves : (o p : rust.Option Due) (ms ns : List Move) → after_in o ≡ moved_by ms k → after_in p ≡ moved_by ns k → after_in (option_or o p) ≡ moved_by (ms ++ ns) k
  either-moves (Some d) p ms ns e h = ap (or_moves ns) e ∙ joined ms ns
  either-moves None p ms ns e h = h ∙ ap (or_moves ns) e ∙ joined ms ns

-- but for cnf, the kind of the token is all that is looked at
pub due-moves : (d : DueToken) (k : TokenKind) (w : List ℕ) (p : ℕ) → may_end d ≡ false → moved_by (moves d) k ≡ due_after_token d (record { kind = k; name = w; place = p })
unfolding due_after_token
due-moves statement k w p h = absurd (true≢false h)
due-moves opening k w p h = refl
due-moves name k w p h = refl
due-moves name_comma k w p h = refl
due-moves role k w p h = refl
due-moves role_comma k w p h = refl
due-moves clause k w p h = refl
due-moves (literal b) k w p h = refl
due-moves (literal_end b) k w p h = refl
due-moves (term b s n) k w p h = refl
due-moves (word_end b (first true) zero) k w p h = refl
due-moves (word_end b (first false) zero) k w p h = refl
due-moves (word_end b second zero) k w p h = refl
due-moves (word_end b s (suc n)) k w p h = refl
due-moves (term_end b (first true) zero) k w p h = refl
due-moves (term_end b (first false) zero) k w p h = refl
due-moves (term_end b second zero) k w p h = refl
due-moves (term_end b s (suc n)) k w p h = refl
due-moves (equality b true) k w p h = refl
due-moves (equality b false) k w p h = refl
due-moves closing k w p h = refl
due-moves stop k w p h = refl
