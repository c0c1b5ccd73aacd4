-- Each variable once, told in one pass: each literal sets its variable, which must be there and unset; in the end all are set.
use Prim.Native.Nat.{ℕ, zero, suc, pred, ◌+◌, ◌≤◌, ◌<◌}
use mathlib.Core.Path.{◌≡◌, refl, sym, ap, ap₂, ◌∙◌}
use mathlib.Core.Bool.{Bool, true, false, cond, ◌&&◌, ◌||◌, false≢true}
use mathlib.Core.Option.{Option, none, some, some-injective}
use mathlib.Core.List.{List, [], ◌∷◌, map}
use mathlib.Core.Logic.{◌≢◌}
use native.Mathlib.Omega.{arith}
use lib.Dec.{eqb, leb}
use lib.ListN.{length, get_or, set, replicate, length-set, length-replicate}
use lib.Seq.{get_or-set_same, get_or-set_other}
use Rattle.theory.specs.Lists.{all, up_from}
use Rattle.theory.specs.Propositional.{PropLiteral}
use Rattle.theory.specs.Walk.{Partial, lookup, is_unset, is_set_to, literal_is_unset, byte_of, bytes_of}
use Rattle.theory.specs.Program.{◌>>?◌}
use Rattle.theory.proofs.Tests.{eqb-true, eqb-of-≡, eqb-false, eqb-ne, leb-true, leb-of-≤, and_left, and_right, and-join}
use Rattle.theory.proofs.Lists.{all-up_from, up_from-all}
use Rattle.theory.proofs.Unset.{literal-place}
use Rattle.solver.specs.Replies.{literals_at, each_once, say_yes, stated_setting}
use Rattle.solver.specs.OnePass.{set_once, all_set}
use Rattle.solver.proofs.Options.{none≢some, read-on, not-read, was_read, cond-some}

-- each literal in turn
abbrev pub set_in_turn : Partial → List PropLiteral → Option Partial
set_in_turn π [] = some π
set_in_turn π (l ∷ ls) = set_once π l >>? λ τ. set_in_turn τ ls

-- the variable at a place
abbrev at : Partial → ℕ → Option Bool
at π i = get_or π i (some false)

inside : (π : Partial) (i : ℕ) → at π i ≡ none → i < length π
inside [] i e = absurd (none≢some false (sym e))
inside (o ∷ π) zero e = omega arith
inside (o ∷ π) (suc i) e = omega (arith, inside π i e)

-- a literal above the variables sets none: a reader may stop at the digit that makes its number too large
pub set-above : (π : Partial) (l : PropLiteral) → length π < l.number → set_once π l ≡ none
set-above π l h = go (set_once π l) refl
  where
    go : (o : Option Partial) → set_once π l ≡ o → set_once π l ≡ none
    go none e = e
    go (some τ) e =
        let c = cond-some (literal_is_unset π l) (some (set π (pred l.number) (some l.positive))) τ e in
        let r = literal-place π l c.0 in
        let n : l.number ≡ suc r.0 = r.1 in
        absurd (omega (arith, n, inside π r.0 r.2))

-- 1 for a variable that is set
abbrev held : Option Bool → ℕ
held none = 0
held (some b) = 1

record SetBy (π : Partial) (l : PropLiteral) (τ : Partial) : Type 0 where
  place : ℕ
  number : l.number ≡ suc place
  unset : at π place ≡ none
  set_to : τ ≡ set π place (some l.positive)

set-by : (π : Partial) (l : PropLiteral) (τ : Partial) → set_once π l ≡ some τ → SetBy π l τ
set-by π l τ e =
    let c = cond-some (literal_is_unset π l) (some (set π (pred l.number) (some l.positive))) τ e in
    let r = literal-place π l c.0 in
    record {
      place = r.0;
      number = r.1;
      unset = r.2;
      set_to = sym (some-injective (set π (pred l.number) (some l.positive)) τ c.1) ∙ ap (λ (n : ℕ). set π (pred n) (some l.positive)) r.1;
    }

-- what setting in turn leaves: a variable set for each literal of it, yes where one says so, and every literal is of a variable that is there
record SetsAll (π : Partial) (ls : List PropLiteral) (τ : Partial) : Type 0 where
  sized : length τ ≡ length π
  counted : (i : ℕ) → i < length π → held (at π i) + length (literals_at (suc i) ls) ≡ held (at τ i)
  valued : (i : ℕ) → i < length π → is_set_to true (at τ i) ≡ (is_set_to true (at π i) || say_yes ls (suc i))
  within : all (λ (l : PropLiteral). leb l.number (length π)) ls ≡ true

sets-all : (π : Partial) (ls : List PropLiteral) (τ : Partial) → set_in_turn π ls ≡ some τ → SetsAll π ls τ
sets-all π [] τ e =
    let z : π ≡ τ = some-injective π τ e in
    record {
      sized = ap (λ (π : Partial). length π) (sym z);
      counted = λ i lt. let y : held (at π i) ≡ held (at τ i) = ap (λ (π : Partial). held (at π i)) z in omega (arith, y);
      valued = λ i lt. ap (λ (π : Partial). is_set_to true (at π i)) (sym z) ∙ or_off (is_set_to true (at π i));
      within = refl;
    }
  where
    or_off : (b : Bool) → b ≡ (b || false)
    or_off true = refl
    or_off false = refl
sets-all π (l ∷ ls) τ e =
    let a = was_read (set_once π l) (λ τ. set_in_turn τ ls) τ e in
    step a.0 (set-by π l a.0 a.1) (sets-all a.0 ls τ a.2)
  where
    step : (π' : Partial) → SetBy π l π' → SetsAll π' ls τ → SetsAll π (l ∷ ls) τ
    step π' m r =
        let j : ℕ = m.place in
        let j-in : j < length π = inside π j m.unset in
        let size : length π' ≡ length π = ap (λ (π : Partial). length π) m.set_to ∙ length-set π j (some l.positive) in
        record {
          sized = r.sized ∙ size;
          counted = λ i lt. count i lt (eqb l.number (suc i)) refl (r.counted i (omega arith));
          valued = λ i lt. value i lt (eqb l.number (suc i)) refl (r.valued i (omega arith));
          within = and-join (leb l.number (length π)) (all (λ (l : PropLiteral). leb l.number (length π)) ls) (leb-of-≤ l.number (length π) (omega (arith, m.number)))
              (ap (λ (n : ℕ). all (λ (l : PropLiteral). leb l.number n) ls) (sym size) ∙ r.within);
        }
      where
        here : (i : ℕ) → eqb l.number (suc i) ≡ true → (at π i ≡ none) × (at π' i ≡ some l.positive)
        here i q =
            let z : l.number ≡ suc i = eqb-true l.number (suc i) q in
            let n : l.number ≡ suc m.place = m.number in
            let k : m.place ≡ i = omega arith in (
              ap (at π) (sym k) ∙ m.unset,
              ap (λ (π : Partial). at π i) m.set_to ∙ ap (λ (j : ℕ). at (set π m.place (some l.positive)) j) (sym k)
                  ∙ get_or-set_same π m.place (some l.positive) (some false) (inside π m.place m.unset),
            )

        there : (i : ℕ) → eqb l.number (suc i) ≡ false → at π' i ≡ at π i
        there i q =
            let ne : l.number ≢ suc i = eqb-ne l.number (suc i) q in
            let n : l.number ≡ suc m.place = m.number in
            ap (λ (π : Partial). at π i) m.set_to ∙ get_or-set_other π m.place i (some l.positive) (some false) (λ k. omega arith)

        count : (i : ℕ) → i < length π → (b : Bool) → eqb l.number (suc i) ≡ b → held (at π' i) + length (literals_at (suc i) ls) ≡ held (at τ i)
            → held (at π i) + length (cond b (l ∷ literals_at (suc i) ls) (literals_at (suc i) ls)) ≡ held (at τ i)
        count i lt true q k =
            let h = here i q in
            let e₁ : held (at π i) ≡ 0 = ap held h.0 in
            let e₂ : held (at π' i) ≡ 1 = ap held h.1 in
            omega (arith, e₁, e₂, k)
        count i lt false q k = ap (λ (o : Option Bool). held o + length (literals_at (suc i) ls)) (sym (there i q)) ∙ k

        value : (i : ℕ) → i < length π → (b : Bool) → eqb l.number (suc i) ≡ b → is_set_to true (at τ i) ≡ (is_set_to true (at π' i) || say_yes ls (suc i))
            → is_set_to true (at τ i) ≡ (is_set_to true (at π i) || (l.positive && b || say_yes ls (suc i)))
        value i lt true q k =
            let h = here i q in
            k ∙ ap (λ (o : Option Bool). is_set_to true o || say_yes ls (suc i)) h.1 ∙ plain l.positive (say_yes ls (suc i))
            ∙ ap (λ (o : Option Bool). is_set_to true o || (l.positive && true || say_yes ls (suc i))) (sym h.0)
          where
            plain : (a b : Bool) → (is_set_to true (some a) || b) ≡ (a && true || b)
            plain true b = refl
            plain false b = refl
        value i lt false q k =
            k ∙ ap (λ (o : Option Bool). is_set_to true o || say_yes ls (suc i)) (there i q) ∙ ap (λ (b : Bool). is_set_to true (at π i) || (b || say_yes ls (suc i))) (no l.positive)
          where
            no : (a : Bool) → false ≡ (a && false)
            no true = refl
            no false = refl

-- literals of variables that are there, of which none is set twice, are all taken
sets-taken : (π : Partial) (ls : List PropLiteral) → all (λ (l : PropLiteral). leb 1 l.number) ls ≡ true → all (λ (l : PropLiteral). leb l.number (length π)) ls ≡ true
    → ((i : ℕ) → i < length π → held (at π i) + length (literals_at (suc i) ls) ≤ 1) → (τ : Partial) × (set_in_turn π ls ≡ some τ)
sets-taken π [] pos up h = (π, refl)
sets-taken π (l ∷ ls) pos up h =
    let lo : 1 ≤ l.number = leb-true 1 l.number (and_left (leb 1 l.number) (all (λ (l : PropLiteral). leb 1 l.number) ls) pos) in
    let hi : l.number ≤ length π = leb-true l.number (length π) (and_left (leb l.number (length π)) (all (λ (l : PropLiteral). leb l.number (length π)) ls) up) in
    go l.number refl lo hi (λ τ size k. sets-taken τ ls (and_right (leb 1 l.number) (all (λ (l : PropLiteral). leb 1 l.number) ls) pos)
    (ap (λ (n : ℕ). all (λ (l : PropLiteral). leb l.number n) ls) size ∙ and_right (leb l.number (length π)) (all (λ (l : PropLiteral). leb l.number (length π)) ls) up) k)
  where
    go : (n : ℕ) → l.number ≡ n → 1 ≤ n → n ≤ length π
        → ((τ : Partial) → length τ ≡ length π → ((i : ℕ) → i < length τ → held (at τ i) + length (literals_at (suc i) ls) ≤ 1) → (σ : Partial) × (set_in_turn τ ls ≡ some σ))
        → (σ : Partial) × (set_in_turn π (l ∷ ls) ≡ some σ)
    go zero z lo hi ih = absurd (omega arith)
    go (suc j) z lo hi ih =
        let first : held (at π j) + length (literals_at (suc j) (l ∷ ls)) ≤ 1 = h j (omega arith) in
        let mine : length (literals_at (suc j) (l ∷ ls)) ≡ suc (length (literals_at (suc j) ls)) =
        ap (λ (b : Bool). length (cond b (l ∷ literals_at (suc j) ls) (literals_at (suc j) ls))) (eqb-of-≡ l.number (suc j) z) in
        let unset : at π j ≡ none = is-unset (at π j) (omega (arith, first, mine)) in
        let τ : Partial = set π j (some l.positive) in
        let size : length τ ≡ length π = length-set π j (some l.positive) in
        let m : set_once π l ≡ some τ =
        ap (λ (n : ℕ). cond (is_unset (lookup π n)) (some (set π (pred n) (some l.positive))) none) z ∙ ap (λ (o : Option Bool). cond (is_unset o) (some τ) none) unset in
        let r = ih τ size (λ i lt. rest i (omega arith) (eqb i j) refl (h i (omega arith)) (omega (arith, first, mine))) in
        (r.0, read-on (set_once π l) (λ τ. set_in_turn τ ls) τ m ∙ r.1)
      where
        is-unset : (o : Option Bool) → held o ≡ 0 → o ≡ none
        is-unset none e = refl
        is-unset (some b) e = absurd (omega (arith, e))

        rest : (i : ℕ) → i < length π → (b : Bool) → eqb i j ≡ b → held (at π i) + length (literals_at (suc i) (l ∷ ls)) ≤ 1 → length (literals_at (suc j) ls) ≡ 0
            → held (at (set π j (some l.positive)) i) + length (literals_at (suc i) ls) ≤ 1
        rest i lt true q k none_left =
            let e : i ≡ j = eqb-true i j q in
            let a : held (at (set π j (some l.positive)) i) ≡ 1 =
            ap (λ (i : ℕ). held (at (set π j (some l.positive)) i)) e ∙ ap held (get_or-set_same π j (some l.positive) (some false) (omega arith)) in
            let c : length (literals_at (suc i) ls) ≡ 0 = ap (λ (i : ℕ). length (literals_at (suc i) ls)) e ∙ none_left in
            omega (arith, a, c)
        rest i lt false q k none_left =
            let ne : i ≢ j = eqb-ne i j q in
            let a : held (at (set π j (some l.positive)) i) ≡ held (at π i) = ap held (get_or-set_other π j i (some l.positive) (some false) ne) in
            let c : length (literals_at (suc i) (l ∷ ls)) ≡ length (literals_at (suc i) ls) =
            ap (λ (b : Bool). length (cond b (l ∷ literals_at (suc i) ls) (literals_at (suc i) ls))) (eqb-false l.number (suc i) (λ y. omega arith)) in
            omega (arith, a, c, k)

-- all are set exactly if each is
every_set : (τ : Partial) → ((i : ℕ) → i < length τ → held (at τ i) ≡ 1) → all_set τ ≡ true
every_set [] h = refl
every_set (none ∷ τ) h = absurd (omega (arith, h 0 (omega arith)))
every_set (some b ∷ τ) h = every_set τ (λ i lt. h (suc i) (omega arith))

each_set : (τ : Partial) → all_set τ ≡ true → (i : ℕ) → i < length τ → held (at τ i) ≡ 1
each_set [] h i lt = absurd (omega arith)
each_set (none ∷ τ) h i lt = absurd (false≢true h)
each_set (some b ∷ τ) h zero lt = refl
each_set (some b ∷ τ) h (suc i) lt = each_set τ h i (omega arith)

-- the bytes of the values
set-bytes : (τ : Partial) (f : ℕ → Bool) (a : ℕ) → ((i : ℕ) → i < length τ → is_set_to true (at τ i) ≡ f (a + i)) → bytes_of τ ≡ map (λ n. cond (f n) 1 0) (up_from a (length τ))
set-bytes [] f a h = refl
set-bytes (o ∷ τ) f a h =
    let e : a + 0 ≡ a = omega arith in
    ap₂ (λ (b : ℕ) (bs : List ℕ). b ∷ bs) (byte o ∙ ap (λ (q : Bool). cond q 1 0) (h 0 (omega arith) ∙ ap f e))
    (set-bytes τ f (suc a) (λ i lt. let s : a + suc i ≡ suc a + i = omega arith in h (suc i) (omega arith) ∙ ap f s))
  where
    byte : (o : Option Bool) → byte_of o ≡ cond (is_set_to true o) 1 0
    byte none = refl
    byte (some true) = refl
    byte (some false) = refl

module _ (v : ℕ) (ls : List PropLiteral) where
  abbrev blank : Partial
  blank = replicate v none

  blank-at : (n i : ℕ) → i < n → at (replicate n none) i ≡ none
  blank-at zero i h = absurd (omega arith)
  blank-at (suc n) zero h = refl
  blank-at (suc n) (suc i) h = blank-at n i (omega arith)

  -- where all are set after all literals, each variable is there once
  once-of-set : (τ : Partial) → set_in_turn blank ls ≡ some τ → all_set τ ≡ true → each_once v ls ≡ true
  unfolding each_once
  once-of-set τ e full =
      let r : SetsAll blank ls τ = sets-all blank ls τ e in
      let size : length blank ≡ v = length-replicate v none in
      let sized : length τ ≡ length blank = r.sized in
      and-join (all (λ n. eqb (length (literals_at n ls)) 1) (up_from 1 v)) (all (λ (l : PropLiteral). leb l.number v) ls)
      (up_from-all (λ n. eqb (length (literals_at n ls)) 1) 1 v (λ n lo hi. at-number n lo hi r (omega arith)))
      (ap (λ (n : ℕ). all (λ (l : PropLiteral). leb l.number n) ls) (sym size) ∙ r.within)
    where
      at-number : (n : ℕ) → 1 ≤ n → n < 1 + v → SetsAll blank ls τ → length τ ≡ v → eqb (length (literals_at n ls)) 1 ≡ true
      at-number zero lo hi r size = absurd (omega arith)
      at-number (suc i) lo hi r size =
          let inner : length blank ≡ v = length-replicate v none in
          let k : held (at blank i) + length (literals_at (suc i) ls) ≡ held (at τ i) = r.counted i (omega arith) in
          let o : held (at blank i) ≡ 0 = ap held (blank-at v i (omega arith)) in
          let f : held (at τ i) ≡ 1 = each_set τ full i (omega arith) in
          eqb-of-≡ (length (literals_at (suc i) ls)) 1 (omega (arith, k, o, f))

  -- each variable once: all literals are taken and all variables set, with the setting's bytes
  set-of-once : all (λ (l : PropLiteral). leb 1 l.number) ls ≡ true → each_once v ls ≡ true → (τ : Partial) × (set_in_turn blank ls ≡ some τ) × (all_set τ ≡ true) × (bytes_of τ ≡ stated_setting v ls)
  unfolding each_once stated_setting
  set-of-once pos h =
      let size : length blank ≡ v = length-replicate v none in
      let counts : all (λ n. eqb (length (literals_at n ls)) 1) (up_from 1 v) ≡ true = and_left (all (λ n. eqb (length (literals_at n ls)) 1) (up_from 1 v)) (all (λ (l : PropLiteral). leb l.number v) ls) h in
      let upper : all (λ (l : PropLiteral). leb l.number v) ls ≡ true = and_right (all (λ n. eqb (length (literals_at n ls)) 1) (up_from 1 v)) (all (λ (l : PropLiteral). leb l.number v) ls) h in
      let one : (i : ℕ) → i < v → length (literals_at (suc i) ls) ≡ 1 =
      λ i lt. eqb-true (length (literals_at (suc i) ls)) 1 (all-up_from (λ n. eqb (length (literals_at n ls)) 1) 1 v counts (suc i) (omega arith) (omega arith)) in
      let t = sets-taken blank ls pos (ap (λ (n : ℕ). all (λ (l : PropLiteral). leb l.number n) ls) size ∙ upper)
      (λ i lt. let o : held (at blank i) ≡ 0 = ap held (blank-at v i (omega arith)) in omega (arith, o, one i (omega arith))) in
      let τ : Partial = t.0 in
      let r : SetsAll blank ls τ = sets-all blank ls τ t.1 in
      let sized : length τ ≡ v = r.sized ∙ size in (
        τ,
        t.1,
        every_set τ (λ i lt. let o : held (at blank i) ≡ 0 = ap held (blank-at v i (omega arith)) in
            let k : held (at blank i) + length (literals_at (suc i) ls) ≡ held (at τ i) = r.counted i (omega arith) in
            let n : length (literals_at (suc i) ls) ≡ 1 = one i (omega arith) in omega (arith, o, k, n)),
        set-bytes τ (say_yes ls) 1 (λ i lt. r.valued i (omega arith) ∙ ap (λ (o : Option Bool). is_set_to true o || say_yes ls (suc i)) (blank-at v i (omega arith)) ∙ ap (say_yes ls) (next i))
            ∙ ap (λ (n : ℕ). map (λ n. cond (say_yes ls n) 1 0) (up_from 1 n)) sized,
      )
    where
      next : (i : ℕ) → suc i ≡ 1 + i
      next i = omega arith

  -- the setting that literals state, told in one pass
  pub setting : all (λ (l : PropLiteral). leb 1 l.number) ls ≡ true
      → (set_in_turn blank ls >>? λ π. cond (all_set π) (some (bytes_of π)) none) ≡ cond (each_once v ls) (some (stated_setting v ls)) none
  setting pos = go (each_once v ls) refl (set_in_turn blank ls) refl
    where
      full : Partial → Option (List ℕ)
      full π = cond (all_set π) (some (bytes_of π)) none

      go : (b : Bool) → each_once v ls ≡ b → (o : Option Partial) → set_in_turn blank ls ≡ o → (set_in_turn blank ls >>? full) ≡ cond b (some (stated_setting v ls)) none
      go true h o k =
          let r = set-of-once pos h in
          read-on (set_in_turn blank ls) full r.0 r.1 ∙ ap (λ (b : Bool). cond b (some (bytes_of r.0)) none) r.2 ∙ ap some r.3
      go false h none k = not-read (set_in_turn blank ls) full k
      go false h (some τ) k = read-on (set_in_turn blank ls) full τ k ∙ off (all_set τ) refl
        where
          off : (b : Bool) → all_set τ ≡ b → cond b (some (bytes_of τ)) none ≡ none
          off true e = absurd (false≢true (sym h ∙ once-of-set τ k e))
          off false e = refl
