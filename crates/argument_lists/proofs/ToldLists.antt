-- What is told of the lists that open next, passed behind a token.
use Prim.Native.Nat.{ℕ, suc, ◌+◌, ◌≤◌, ◌<◌}
use mathlib.Core.Path.{◌≡◌, refl, sym, ap, ◌∙◌, subst}
use mathlib.Core.Bool.{Bool, true, false, cond}
use mathlib.Core.List.{List, ◌∷◌}
use native.Mathlib.Omega.{arith}
use borrow.Author.Tests.{leb-true, leb-false}
use lib.Dec.{leb}
use lib.ListN.{get_or}
use Rattle.tptp.specs.Tokens.{TokenKind, left_paren}
use Rattle.tptp.specs.Trees.{Name}
use Rattle.tptp.specs.Written.{item_of}
use Rattle.tptp.specs.Scanning.{same_token_kind}
use Rattle.scanning.specs.Ahead.{items_at}
use Rattle.argument_lists.specs.Lists.{list_arities, Counts, Held}
use Rattle.argument_lists.specs.Told.{ToldPlaces, told_after, ToldAt}
use Rattle.argument_lists.proofs.Passes.{lists-open, lists-on}

-- of nothing all is true
pub nothing-held : (counts ns : List ℕ) → Held counts 0 0 ns
nothing-held counts ns = record { ordered = omega arith; within = omega arith; told = λ j lt. absurd (omega (arith, lt)) }

-- the first list behind
pub held-passed : (counts : List ℕ) (t : ToldPlaces) (n : ℕ) (ns : List ℕ) → Held counts t.start t.end (n ∷ ns) → Held counts (told_after t true).start (told_after t true).end ns
held-passed counts t n ns h = go (leb t.end t.start) refl
  where
    go : (b : Bool) → leb t.end t.start ≡ b
        → Held counts (cond b t (record { start = t.start + 1; end = t.end })).start (cond b t (record { start = t.start + 1; end = t.end })).end ns
    go true e = let le : t.end ≤ t.start = leb-true t.end t.start e in record { ordered = h.ordered; within = h.within; told = λ j lt. absurd (omega (arith, le, lt)) }
    go false e =
        let lt : t.start < t.end = leb-false t.end t.start e in
        record {
          ordered = omega (arith, lt);
          within = h.within;
          told = λ j k.
              let i : t.start + suc j ≡ t.start + 1 + j = omega arith in
              subst (λ (m : ℕ). Counts (get_or counts m 0) 0 (get_or ns j 0)) i (h.told (suc j) (omega (arith, k)));
        }

-- behind a token
pub told-behind : (text : List ℕ) (at end : ℕ) (k : TokenKind) (w : Name) (opens : Bool) (counts : List ℕ) (t : ToldPlaces) → items_at text at ≡ item_of k w ∷ items_at text end → opens ≡ same_token_kind left_paren k
    → ToldAt text at counts t → ToldAt text end counts (told_after t opens)
told-behind text at end k w true counts t i o h =
    held-passed counts t _ _ (subst (Held counts t.start t.end) (ap list_arities i ∙ lists-open k w (items_at text end) (sym o)) h)
told-behind text at end k w false counts t i o h = subst (Held counts t.start t.end) (ap list_arities i ∙ lists-on k w (items_at text end) (sym o)) h
