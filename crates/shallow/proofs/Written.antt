-- A literal written after the others: what it stands for, and that the others stay.
use Prim.Native.Nat.{ℕ, zero, suc, ◌+◌, ◌≤◌, ◌<◌}
use mathlib.Core.Path.{◌≡◌, refl, sym, ap, ◌∙◌}
use mathlib.Core.Bool.{Bool, true, false, ◌&&◌}
use mathlib.Core.List.{List, [], ◌∷◌, ◌++◌, map, map-append, map-map}
use native.Mathlib.Nat.{zero-add}
use native.Mathlib.Omega.{arith}
use lib.Dec.{ltb}
use lib.ListN.{length, get_or, take, length-set, length-append, get_or-eq_default}
use lib.Seq.{ext_get_or, length-take-le, get_or-take, get_or-set_same, get_or-set_other}
use Rattle.theory.specs.Lists.{all, up_from, up_to}
use Rattle.theory.specs.Syntax.{Signature, no_symbol, symbol_at, Term, Terms, Clause, count}
use Rattle.theory.specs.Syntax as theory
use Rattle.theory.specs.Flattening.{turned_atom, turned, to_lift, add_terms, new, variables_for, FlatAtom, FlatLiteral, shallow}
use Rattle.theory.specs.Lifted.{covered_atom}
use Rattle.theory.proofs.Tests.{ltb-true, ltb-false, and-join}
use Rattle.theory.proofs.Lists.{all_append, all-imply, map-up_from, map-all, up_from-append}
use Rattle.theory.proofs.LiftedTerms.{add_terms-adds}
use Rattle.theory.proofs.Growing.{among-grown, shallow_atom-grown}
use Rattle.syntax.specs.Signatures.{Small}
use Rattle.lifting.specs.declared.table.Table.{Table}
use Rattle.lifting.specs.Places.{place_in, places}
use Rattle.lifting.specs.Lifts.{Lifts}
use Rattle.lifting.proofs.Sharing.{SameThree}
use Rattle.lifting.proofs.Standing.{length-places}
use Rattle.shallow.specs.declared.literals.Literal.{Literal}
use Rattle.shallow.specs.declared.literals.Lifting.{Lifting}
use Rattle.shallow.specs.Placed.{placed_variable, placed_literal}
use Rattle.shallow.specs.Literals.{three, no_literal, literal_in, literal_with}
use Rattle.shallow.specs.Shallow.{with_literal, Made, LiteralAdded}

-- no symbol of a small signature has more than three arguments
pub arity-small : (g : Signature) → Small g → (i : ℕ) → (symbol_at g i).arity ≤ 3
arity-small g small i = go (ltb i (length g)) refl
  where
    go : (b : Bool) → ltb i (length g) ≡ b → (symbol_at g i).arity ≤ 3
    go true e = small.arities i (ltb-true i (length g) e)
    go false e = let z : (symbol_at g i).arity ≡ 0 = ap (λ (s : theory.Symbol). s.arity) (get_or-eq_default g no_symbol (ltb-false i (length g) e)) in omega arith

pub get_d-three : (xs : List ℕ) (j : ℕ) → j < 3 → get_or (three xs) j 0 ≡ get_or xs j 0
get_d-three xs zero h = refl
get_d-three xs (suc zero) h = refl
get_d-three xs (suc (suc zero)) h = refl
get_d-three xs (suc (suc (suc j))) h = absurd (omega arith)

-- so many of them as there are places
pub take-three : (vs ps : List ℕ) (n : ℕ) → length ps ≡ n → n ≤ 3 → SameThree vs ps → take n (three vs) ≡ ps
take-three vs ps n e h s =
    ext_get_or 0 (take n (three vs)) ps (length-take-le n (three vs) h ∙ sym e)
    (λ i l. let k : i < n = omega (arith, l, length-take-le n (three vs) h) in get_or-take n (three vs) i 0 k ∙ get_d-three vs i (omega arith) ∙ s i (omega arith))

-- one literal more
module _ (g : Signature) (small : Small g) (xs : List ℕ) (found : List Term) (done : Clause) (l : Lifting) (h : Made g xs found done l) (space : l.count < 16)
    (k : theory.Literal) where
  -- the terms found with those lifted from it
  abbrev more : List Term
  more = add_terms found (to_lift (turned_atom k.atom))

  covered_more : all (λ (m : theory.Literal). covered_atom more (turned_atom m.atom)) (done ++ (k ∷ [])) ≡ true
  covered_more =
      let p : theory.Literal → Bool = λ m. covered_atom more (turned_atom m.atom) in
      all_append p done (k ∷ [])
      ∙ and-join (all p done) (p k && true)
      (all-imply (λ (m : theory.Literal). covered_atom found (turned_atom m.atom)) p done (λ m c. among-grown found (to_lift (turned_atom k.atom)) (to_lift (turned_atom m.atom)) c) h.covered)
      (and-join (p k) true (add_terms-adds found (to_lift (turned_atom k.atom))) refl)

  module _ (c : Literal) (right : literal_with g c ≡ placed_literal xs (shallow more (turned k))) (t : Table) (lifts : Lifts g xs more t) (next : ℕ) where
    abbrev r : Lifting
    r = with_literal l c t next

    old : (i : ℕ) → i < l.count → literal_in g r.literals i ≡ literal_in g l.literals i
    old i m = ap (literal_with g) (get_or-set_other l.literals l.count i c no_literal (λ e. omega arith))

    last : literal_in g r.literals l.count ≡ placed_literal xs (shallow more (turned k))
    last = ap (literal_with g) (get_or-set_same l.literals l.count c no_literal (omega (arith, h.literals))) ∙ right

    all_made : map (literal_in g r.literals) (up_to (l.count + 1)) ≡ map (λ (m : theory.Literal). placed_literal xs (shallow more (turned m))) (done ++ (k ∷ []))
    all_made =
        let F : List Term → theory.Literal → FlatLiteral = λ found m. placed_literal xs (shallow found (turned m)) in
        let read : ℕ → FlatLiteral = literal_in g r.literals in
        ap (map read) (sym (up_from-append 0 l.count 1))
        ∙ map-append read (up_from 0 l.count) (up_from (0 + l.count) 1)
        ∙ ap (λ (us : List FlatLiteral). us ++ (read (0 + l.count) ∷ []))
        (map-up_from read (literal_in g l.literals) 0 l.count (λ i a b. old i (omega arith))
        ∙ h.made
        ∙ map-all (λ (m : theory.Literal). covered_atom found (turned_atom m.atom)) (F found) (F more) done h.covered
        (λ m c. ap (λ (a : FlatAtom). placed_literal xs (record { sign = m.sign; atom = a })) (sym (shallow_atom-grown found (to_lift (turned_atom k.atom)) m.atom c))))
        ∙ ap (λ (u : FlatLiteral). map (F more) done ++ (u ∷ [])) (ap read (zero-add l.count) ∙ last)
        ∙ sym (map-append (F more) done (k ∷ []))

    -- is made shallow after the others
    pub literal-added : LiteralAdded g xs found done l k next r
    literal-added =
        record {
          next = refl;
          owns = refl;
          lifts = lifts;
          made =
              record {
                literals = length-set l.literals l.count c ∙ h.literals;
                count = omega (arith, h.count, length-append done (k ∷ []));
                made = all_made;
                covered = covered_more;
              };
        }

-- the arguments of a literal stand for the places of its terms
pub map-places : (xs : List ℕ) (found : List Term) (ts : Terms) → map new (places xs found ts) ≡ map (placed_variable xs) (variables_for found ts)
map-places xs found ts = map-map new (place_in xs) (variables_for found ts)

pub arguments-right : (g : Signature) → Small g → (xs : List ℕ) (found : List Term) (ts : Terms) (p : ℕ) (vs : List ℕ) → count ts ≡ (symbol_at g p).arity → SameThree vs (places xs found ts)
    → map new (take (symbol_at g p).arity (three vs)) ≡ map (placed_variable xs) (variables_for found ts)
arguments-right g small xs found ts p vs e s =
    ap (map new) (take-three vs (places xs found ts) (symbol_at g p).arity (length-places xs found ts ∙ e) (arity-small g small p) s) ∙ map-places xs found ts
