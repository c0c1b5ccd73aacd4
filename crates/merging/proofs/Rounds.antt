-- One round of step 1 on clause words is one round on their clause.
use Prim.Native.Nat.{ℕ, suc, ◌+◌, ◌-◌, ◌≤◌, ◌<◌}
use mathlib.Core.Path.{◌≡◌, refl, sym, ap, ◌∙◌, subst}
use mathlib.Core.Logic.{◌≢◌}
use mathlib.Core.Bool.{Bool, true, false, cond, false≢true}
use mathlib.Core.Option.{Option, none, some}
use mathlib.Core.List.{List, [], ◌∷◌, ◌++◌, map, map-append}
use native.Mathlib.Nat.{add-zero}
use native.Mathlib.Omega.{arith}
use lib.Dec.{eqb, ltb}
use lib.ListN.{length, get_or, take, drop, length-map, length-drop}
use lib.Seq.{get_or-drop, drop-cons}
use Rattle.theory.specs.Lists.{all}
use Rattle.theory.specs.Syntax.{Signature, Clause, clause_ok}
use Rattle.theory.specs.Grammar.{Word, letter, equals, clause_words}
use Rattle.theory.specs.Flattening.{Unequal, rename_literal, leftmost}
use Rattle.theory.specs.Flattening as theory
use Rattle.theory.proofs.Lists.{all_append, all_take, all_drop, all-at, map_at, map-take, map-drop}
use Rattle.theory.proofs.Tests.{eqb-true, eqb-ne, and-join}
use Rattle.theory.proofs.Merging.{rename-clause_ok, leftmost-ok, merged-round, merged-end}
use Rattle.syntax.specs.declared.words.ClauseWords.{ClauseWords}
use Rattle.syntax.specs.Codes.{code_word, words_in, clause_in, is_known, IsClause}
use Rattle.syntax.proofs.Codes.{length-words_in, words_in-at}
use Rattle.syntax.proofs.Clauses.{clause_ok-clause_in, clause_words-clause_in, clause_words-is_clause, clause_in-clause_words}
use Rattle.merging.specs.Unequal.{is_unequal, starts_unequal, unequal_place}
use Rattle.merging.specs.Merged.{renamed_code, without_at, Merged}
use Rattle.merging.proofs.Leftmost.{Leftmost, leftmost-none, leftmost-some}
use Rattle.merging.proofs.Renaming.{rename_word, clause-renamed, known-renamed, codes-renamed}

starts-long : (ws : List Word) → starts_unequal ws ≡ true → 4 ≤ length ws
starts-long [] e = absurd (false≢true e)
starts-long (s ∷ []) e = absurd (false≢true e)
starts-long (s ∷ (t ∷ [])) e = absurd (false≢true e)
starts-long (s ∷ (t ∷ (u ∷ []))) e = absurd (false≢true e)
starts-long (s ∷ (t ∷ (u ∷ (v ∷ ws)))) e = omega arith

-- a place that is found leaves room for the four words
place-within : (ws : List Word) → unequal_place ws ≢ length ws → unequal_place ws + 4 ≤ length ws
unfolding unequal_place
place-within [] h = absurd (h refl)
place-within (w ∷ ws) h = go (starts_unequal (w ∷ ws)) refl h (place-within ws)
  where
    go : (b : Bool) → starts_unequal (w ∷ ws) ≡ b → cond b 0 (suc (unequal_place ws)) ≢ suc (length ws) → (unequal_place ws ≢ length ws → unequal_place ws + 4 ≤ length ws)
        → cond b 0 (suc (unequal_place ws)) + 4 ≤ suc (length ws)
    go true e k ih = omega (arith, starts-long (w ∷ ws) e)
    go false e k ih = omega (arith, ih (λ q. k (ap suc q)))

place_short : (ws : List Word) → length ws ≤ 3 → unequal_place ws ≡ length ws
place_short ws h = go (eqb (unequal_place ws) (length ws)) refl
  where
    go : (b : Bool) → eqb (unequal_place ws) (length ws) ≡ b → unequal_place ws ≡ length ws
    go true e = eqb-true (unequal_place ws) (length ws) e
    go false e = absurd (omega (arith, place-within ws (eqb-ne (unequal_place ws) (length ws) e)))

starts-four : (ws : List Word) → 3 < length ws → starts_unequal ws ≡ is_unequal (get_or ws 0 equals) (get_or ws 1 equals) (get_or ws 2 equals) (get_or ws 3 equals)
starts-four [] h = absurd (omega arith)
starts-four (a ∷ []) h = absurd (omega arith)
starts-four (a ∷ (b ∷ [])) h = absurd (omega arith)
starts-four (a ∷ (b ∷ (c ∷ []))) h = absurd (omega arith)
starts-four (a ∷ (b ∷ (c ∷ (d ∷ ws)))) h = refl

place-starts : (ws : List Word) → starts_unequal ws ≡ true → unequal_place ws ≡ 0
unfolding unequal_place
place-starts [] e = refl
place-starts (w ∷ ws) e = ap (λ (b : Bool). cond b 0 (suc (unequal_place ws))) e

-- the walk over the words of w: the four from place i on are tested
module _ (w : ClauseWords) (fits : w.count ≤ length w.words) (i : ℕ) (h : i + 3 < w.count) where
  pub starts-at : starts_unequal (drop i (words_in w))
      ≡ is_unequal (code_word (get_or w.words i 0)) (code_word (get_or w.words (i + 1) 0)) (code_word (get_or w.words (i + 2) 0)) (code_word (get_or w.words (i + 3) 0))
  starts-at =
      let ws : List Word = words_in w in
      let n : length ws ≡ w.count = length-words_in w fits in
      let a : get_or (drop i ws) 0 equals ≡ code_word (get_or w.words i 0) =
      get_or-drop i ws 0 equals ∙ ap (λ (j : ℕ). get_or ws j equals) (add-zero i) ∙ words_in-at w fits i equals (omega arith) in
      let b : get_or (drop i ws) 1 equals ≡ code_word (get_or w.words (i + 1) 0) = get_or-drop i ws 1 equals ∙ words_in-at w fits (i + 1) equals (omega arith) in
      let c : get_or (drop i ws) 2 equals ≡ code_word (get_or w.words (i + 2) 0) = get_or-drop i ws 2 equals ∙ words_in-at w fits (i + 2) equals (omega arith) in
      let d : get_or (drop i ws) 3 equals ≡ code_word (get_or w.words (i + 3) 0) = get_or-drop i ws 3 equals ∙ words_in-at w fits (i + 3) equals (omega arith) in
      starts-four (drop i ws) (simp length-drop (omega arith))
      ∙ ap (λ (v : Word). is_unequal v (get_or (drop i ws) 1 equals) (get_or (drop i ws) 2 equals) (get_or (drop i ws) 3 equals)) a
      ∙ ap (λ (v : Word). is_unequal (code_word (get_or w.words i 0)) v (get_or (drop i ws) 2 equals) (get_or (drop i ws) 3 equals)) b
      ∙ ap (λ (v : Word). is_unequal (code_word (get_or w.words i 0)) (code_word (get_or w.words (i + 1) 0)) v (get_or (drop i ws) 3 equals)) c
      ∙ ap (λ (v : Word). is_unequal (code_word (get_or w.words i 0)) (code_word (get_or w.words (i + 1) 0)) (code_word (get_or w.words (i + 2) 0)) v) d

  pub place-hit : unequal_place (words_in w) ≡ i + unequal_place (drop i (words_in w)) → starts_unequal (drop i (words_in w)) ≡ true → unequal_place (words_in w) ≡ i
  place-hit e k = e ∙ ap (λ (n : ℕ). i + n) (place-starts (drop i (words_in w)) k) ∙ add-zero i

  pub place-miss : unequal_place (words_in w) ≡ i + unequal_place (drop i (words_in w)) → starts_unequal (drop i (words_in w)) ≡ false
      → unequal_place (words_in w) ≡ suc i + unequal_place (drop (suc i) (words_in w))
  unfolding unequal_place
  place-miss e k =
      let ws : List Word = words_in w in
      let l : i < length ws = omega (arith, length-words_in w fits) in
      let c : drop i ws ≡ get_or ws i equals ∷ drop (suc i) ws = drop-cons ws i equals l in
      let p : unequal_place (drop i ws) ≡ suc (unequal_place (drop (suc i) ws)) =
      ap unequal_place c ∙ ap (λ (b : Bool). cond b 0 (suc (unequal_place (drop (suc i) ws)))) (ap starts_unequal (sym c) ∙ k) in
      omega (arith, e, p)

-- fewer than four are left
pub place_none : (w : ClauseWords) → w.count ≤ length w.words → (i : ℕ) → i ≤ w.count → w.count ≤ i + 3
    → unequal_place (words_in w) ≡ i + unequal_place (drop i (words_in w)) → unequal_place (words_in w) ≡ w.count
place_none w fits i h k e =
    let n : length (words_in w) ≡ w.count = length-words_in w fits in
    let d : length (drop i (words_in w)) ≡ length (words_in w) - i = length-drop i (words_in w) in
    omega (arith, e, place_short (drop i (words_in w)) (omega arith))

pub place-room : (w : ClauseWords) → w.count ≤ length w.words → (at : ℕ) → at ≡ unequal_place (words_in w) → at ≢ w.count → at + 4 ≤ w.count
place-room w fits at e d =
    let n : length (words_in w) ≡ w.count = length-words_in w fits in
    omega (arith, e, n, place-within (words_in w) (λ q. d (e ∙ q ∙ n)))

-- what stays the same from round to round
pub record Round (g : Signature) (c w : ClauseWords) : Type 0 where
  pub is_clause : IsClause g w
  pub same : theory.merged (clause_in g w) ≡ theory.merged (clause_in g c)

map-deleted : {A B : Type 0} (f : A → B) (xs : List A) (at : ℕ) → map f (take at xs ++ drop (at + 4) xs) ≡ take at (map f xs) ++ drop (at + 4) (map f xs)
map-deleted {A} {B} f xs at =
    map-append f (take at xs) (drop (at + 4) xs)
    ∙ ap (λ (ys : List B). ys ++ map f (drop (at + 4) xs)) (map-take f at xs)
    ∙ ap (λ (ys : List B). take at (map f xs) ++ ys) (map-drop f (at + 4) xs)

words_left : (ns : List ℕ) (u : Unequal) (l : Leftmost (map code_word ns) u) → map code_word (without_at ns l.at) ≡ clause_words (map (rename_literal u.x u.y) u.rest)
words_left ns u l =
    let at : ℕ = l.at in
    let n : length (map code_word ns) ≡ length ns = length-map ns code_word in
    let x : code_word (get_or ns (at + 2) 0) ≡ letter u.x = sym (map_at code_word ns (at + 2) 0 equals (omega (arith, l.within))) ∙ l.first in
    let y : code_word (get_or ns (at + 3) 0) ≡ letter u.y = sym (map_at code_word ns (at + 3) 0 equals (omega (arith, l.within))) ∙ l.second in
    let f : ℕ → ℕ = renamed_code (get_or ns (at + 2) 0) (get_or ns (at + 3) 0) in
    let r : Word → Word = rename_word u.x u.y in
    let ws : List Word = map code_word ns in
    map-deleted code_word (map f ns) at
    ∙ ap (λ (vs : List Word). take at vs ++ drop (at + 4) vs) (codes-renamed (get_or ns (at + 2) 0) (get_or ns (at + 3) 0) u.x u.y x y ns)
    ∙ sym (map-deleted r ws at)
    ∙ ap (map r) l.rest
    ∙ clause-renamed u.x u.y u.rest

module _ (g : Signature) (w : ClauseWords) (fits : w.count ≤ length w.words) (h : IsClause g w) where
  words-of : clause_words (clause_in g w) ≡ words_in w
  words-of = clause_words-clause_in g w h

  -- no place is found exactly if nothing is left to merge
  pub leftmost-end : unequal_place (words_in w) ≡ w.count → leftmost (clause_in g w) ≡ none
  leftmost-end e = go (leftmost (clause_in g w)) refl
    where
      go : (o : Option Unequal) → leftmost (clause_in g w) ≡ o → o ≡ none
      go none k = refl
      go (some r) k =
          let l = leftmost-some (clause_in g w) r k in
          absurd (omega (arith, l.within, l.place, ap unequal_place words-of, ap length words-of, length-words_in w fits))

  pub leftmost-more : unequal_place (words_in w) ≢ w.count → (r : Unequal) × (leftmost (clause_in g w) ≡ some r)
  leftmost-more d = go (leftmost (clause_in g w)) refl
    where
      go : (o : Option Unequal) → leftmost (clause_in g w) ≡ o → (r : Unequal) × (leftmost (clause_in g w) ≡ some r)
      go none k = absurd (d (sym (ap unequal_place words-of) ∙ leftmost-none (clause_in g w) k ∙ ap length words-of ∙ length-words_in w fits))
      go (some r) k = (r, k)

  leftmost-at : (u : Unequal) → leftmost (clause_in g w) ≡ some u → Leftmost (words_in w) u
  leftmost-at u k = subst (λ (ws : List Word). Leftmost ws u) words-of (leftmost-some (clause_in g w) u k)

  -- the words left by a round are those of the clause left
  pub round-words : (u : Unequal) → leftmost (clause_in g w) ≡ some u
      → map code_word (without_at (take w.count w.words) (unequal_place (words_in w))) ≡ clause_words (map (rename_literal u.x u.y) u.rest)
  round-words u k =
      let l = leftmost-at u k in
      ap (λ (at : ℕ). map code_word (without_at (take w.count w.words) at)) l.place ∙ words_left (take w.count w.words) u l

  -- and known
  pub round-known : (u : Unequal) → leftmost (clause_in g w) ≡ some u → all (is_known g) (clause_words (map (rename_literal u.x u.y) u.rest)) ≡ true
  round-known u k =
      let l = leftmost-at u k in
      let ws : List Word = words_in w in
      let x : ltb u.x 8 ≡ true = ap (is_known g) (sym l.first) ∙ all-at (is_known g) equals ws (l.at + 2) h.known (omega (arith, l.within)) in
      let kept : all (is_known g) (clause_words u.rest) ≡ true =
      ap (all (is_known g)) (sym l.rest)
      ∙ all_append (is_known g) (take l.at ws) (drop (l.at + 4) ws)
      ∙ and-join (all (is_known g) (take l.at ws)) (all (is_known g) (drop (l.at + 4) ws)) (all_take (is_known g) l.at ws h.known) (all_drop (is_known g) (l.at + 4) ws h.known) in
      ap (all (is_known g)) (sym (clause-renamed u.x u.y u.rest)) ∙ known-renamed u.x u.y g x (clause_words u.rest) kept

-- at the end nothing is left to merge
pub round-end : (g : Signature) (c w : ClauseWords) → w.count ≤ length w.words → unequal_place (words_in w) ≡ w.count → Round g c w → Merged g c w
round-end g c w fits e h =
    record { is_clause = h.is_clause; clause = sym (merged-end (clause_in g w) (leftmost-end g w fits h.is_clause e)) ∙ h.same }

-- else a round keeps what stays the same
pub round-more : (g : Signature) (c w r : ClauseWords) (at : ℕ) → w.count ≤ length w.words → at ≡ unequal_place (words_in w) → at ≢ w.count → r.count ≡ w.count - 4
    → take r.count r.words ≡ without_at (take w.count w.words) at → Round g c w → Round g c r
round-more g c w r at fits k d n e h =
    let p = leftmost-more g w fits h.is_clause (λ q. d (k ∙ q)) in
    let u = p.0 in
    let rest : Clause = map (rename_literal u.x u.y) u.rest in
    let ok : clause_ok g rest ≡ true = rename-clause_ok g u.x u.y u.rest ∙ leftmost-ok g (clause_in g w) u p.1 (clause_ok-clause_in g w h.is_clause) in
    let ws : words_in r ≡ clause_words rest = ap (map code_word) (e ∙ ap (without_at (take w.count w.words)) k) ∙ round-words g w fits h.is_clause u p.1 in
    let known : all (is_known g) (words_in r) ≡ true = ap (all (is_known g)) ws ∙ round-known g w fits h.is_clause u p.1 in
    record {
      is_clause = clause_words-is_clause g r rest (omega (arith, h.is_clause.fits)) known ok ws;
      same = ap theory.merged (clause_in-clause_words g r rest ok ws) ∙ sym (merged-round (clause_in g w) u p.1) ∙ h.same;
    }
