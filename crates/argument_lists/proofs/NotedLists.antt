-- The lists of a text, noted token by token.
use Prim.Native.Nat.{ℕ, ◌+◌, ◌≤◌}
use mathlib.Core.Path.{◌≡◌, subst}
use mathlib.Core.List.{List, ◌∷◌}
use native.Mathlib.Omega.{arith}
use lib.ListN.{length}
use Rattle.tptp.specs.Trees.{Name}
use Rattle.tptp.specs.Written.{Item, item_of}
use Rattle.tokens.specs.Pieces.{kind_in}
use Rattle.tokens.specs.NextTokens.{NextFound}
use Rattle.std.specs.Prelude.{Some, None}
use Rattle.tokens.specs.declared.next.Token.{Token}
use Rattle.scanning.specs.Ahead.{items_at}
use Rattle.scanning.proofs.Lookahead.{items-next, items-none, next-further}
use Rattle.argument_lists.specs.Lists.{from_open, Held}
use Rattle.argument_lists.specs.Passing.{Telling}
use Rattle.argument_lists.specs.declared.pass.Pass.{Pass}
use Rattle.argument_lists.proofs.Passes.{ended_held, over-held}

-- of the lists from `at` on, those up to place i are noted
pub record ListsNoted (text : List ℕ) (at i : ℕ) (counts links : List ℕ) (p : Pass) : Type 0 where
  pub telling : Telling (from_open (items_at text at)) (items_at text i) counts links p
  pub some : 1 ≤ p.count
  pub few : p.beyond ≤ i
  pub within : i ≤ length text

module _ (text : List ℕ) (at i : ℕ) (counts links : List ℕ) (p : Pass) (q : ListsNoted text at i counts links p) where
  pub noted-ends : NextFound text i None → Held counts 0 p.count (from_open (items_at text at))
  noted-ends f = ended_held _ _ counts links p (items-none text i f) q.telling

  -- one token more
  pub noted-next : (u : Token) → NextFound text i (Some u) → (counts' links' : List ℕ) (p' : Pass)
      → ((ns : List ℕ) (w : Name) (us : List Item) → Telling ns (item_of (kind_in u.kind) w ∷ us) counts links p → Telling ns us counts' links' p')
      → p.count ≤ p'.count → p'.beyond ≤ p.beyond + 1 → ListsNoted text at u.end counts' links' p'
  noted-next u f counts' links' p' step c b =
      let z = next-further text i u f in
      record {
        telling = step _ _ _ (subst (λ (us : List Item). Telling (from_open (items_at text at)) us counts links p) (items-next text i u f) q.telling);
        some = omega (arith, q.some, c);
        few = omega (arith, q.few, b, z.0);
        within = z.1;
      }

pub noted-over : (text : List ℕ) (at i : ℕ) (counts links : List ℕ) (p : Pass) → ListsNoted text at i counts links p → p.innermost ≡ None → Held counts 0 p.count (from_open (items_at text at))
noted-over text at i counts links p q e = over-held _ _ counts links p e q.telling
