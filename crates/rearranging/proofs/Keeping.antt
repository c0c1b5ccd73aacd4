-- Laws of keeping the lesser: cells behind others, a candidate that comes first or last, and the whole of two lists.
use Prim.Native.Nat.{ℕ, suc, ◌+◌, ◌≤◌, ◌<◌}
use mathlib.Core.Path.{◌≡◌, refl, sym, ap, ◌∙◌}
use mathlib.Core.Bool.{Bool, true, false, cond, ◌&&◌, ◌||◌}
use mathlib.Core.List.{List, [], ◌∷◌, ◌++◌, append-nil}
use native.Mathlib.Omega.{arith}
use lib.Dec.{eqb, ltb}
use lib.ListN.{length, get_or, take, drop, set, length-append, length-drop, take-append-drop, drop_of_length-le}
use lib.Seq.{length-take-le, take_all, take-add, drop-drop, drop-cons}
use Rattle.theory.proofs.Tests.{eqb-true, eqb-of-≡, ltb-true, ltb-false, both_false}
use Rattle.renumbering.specs.LeastForm.{not_after}
use Rattle.text.specs.Put.{put, put-none, put_front, drop-put, put-run}
use Rattle.rearranging.specs.declared.standing.Standing.{Standing}
use Rattle.rearranging.specs.declared.standing.Standing.TheVariants.{Same, Before, After}
use Rattle.rearranging.specs.Keeping.{standing_after, kept_value, stands, kept_cells, CandidateTaken}

kept-after : (us ws : List ℕ) → kept_cells us ws After ≡ ws
kept-after [] ws = refl
kept-after (u ∷ us) [] = refl
kept-after (u ∷ us) (w ∷ ws) = ap (λ (l : List ℕ). w ∷ l) (kept-after us ws)

stands_after : (us ws : List ℕ) → stands us ws After ≡ After
stands_after [] ws = refl
stands_after (u ∷ us) [] = refl
stands_after (u ∷ us) (w ∷ ws) = stands_after us ws

-- told Before, the candidate is kept
pub kept-before : (us ws : List ℕ) → length us ≡ length ws → kept_cells us ws Before ≡ us
kept-before [] [] e = refl
kept-before [] (w ∷ ws) e = absurd (omega (arith, e))
kept-before (u ∷ us) [] e = absurd (omega (arith, e))
kept-before (u ∷ us) (w ∷ ws) e = ap (λ (l : List ℕ). u ∷ l) (kept-before us ws (omega (arith, e)))

-- told Same, the lesser of both is
pub kept-lesser : (us ws : List ℕ) → length us ≡ length ws → kept_cells us ws Same ≡ cond (not_after us ws) us ws
kept-lesser [] [] e = refl
kept-lesser [] (w ∷ ws) e = absurd (omega (arith, e))
kept-lesser (u ∷ us) [] e = absurd (omega (arith, e))
kept-lesser (u ∷ us) (w ∷ ws) e = go (ltb u w) refl (ltb w u) refl (eqb u w) refl (kept-lesser us ws (omega (arith, e)))
  where
    equal : u ≡ w → (t : Bool) → kept_cells us ws Same ≡ cond t us ws → w ∷ kept_cells us ws Same ≡ cond t (u ∷ us) (w ∷ ws)
    equal z true ih = ap (λ (l : List ℕ). w ∷ l) ih ∙ ap (λ (x : ℕ). x ∷ us) (sym z)
    equal z false ih = ap (λ (l : List ℕ). w ∷ l) ih

    go : (a : Bool) → ltb u w ≡ a → (b : Bool) → ltb w u ≡ b → (c : Bool) → eqb u w ≡ c → kept_cells us ws Same ≡ cond (not_after us ws) us ws
        → cond a u w ∷ kept_cells us ws (cond a Before (cond b After Same)) ≡ cond (a || (c && not_after us ws)) (u ∷ us) (w ∷ ws)
    go true h b k c m ih = ap (λ (l : List ℕ). u ∷ l) (kept-before us ws (omega (arith, e)))
    go false h true k true m ih = absurd (omega (arith, ltb-true w u k, eqb-true u w m))
    go false h true k false m ih = ap (λ (l : List ℕ). w ∷ l) (kept-after us ws)
    go false h false k true m ih = equal (eqb-true u w m) (not_after us ws) ih
    go false h false k false m ih = let z : u ≡ w = omega (arith, ltb-false u w h, ltb-false w u k) in absurd (both_false (eqb-of-≡ u w z) m)

length-kept : (us ws : List ℕ) (q : Standing) → length (kept_cells us ws q) ≡ length ws
length-kept [] ws q = refl
length-kept (u ∷ us) [] q = refl
length-kept (u ∷ us) (w ∷ ws) q = ap suc (length-kept us ws (standing_after q u w))

kept_append : (us vs ws xs : List ℕ) (q : Standing) → length us ≡ length ws → kept_cells (us ++ vs) (ws ++ xs) q ≡ kept_cells us ws q ++ kept_cells vs xs (stands us ws q)
kept_append [] vs [] xs q e = refl
kept_append [] vs (w ∷ ws) xs q e = absurd (omega (arith, e))
kept_append (u ∷ us) vs [] xs q e = absurd (omega (arith, e))
kept_append (u ∷ us) vs (w ∷ ws) xs q e = ap (λ (l : List ℕ). kept_value q u w ∷ l) (kept_append us vs ws xs (standing_after q u w) (omega (arith, e)))

stands-append : (us vs ws xs : List ℕ) (q : Standing) → length us ≡ length ws → stands (us ++ vs) (ws ++ xs) q ≡ stands vs xs (stands us ws q)
stands-append [] vs [] xs q e = refl
stands-append [] vs (w ∷ ws) xs q e = absurd (omega (arith, e))
stands-append (u ∷ us) vs [] xs q e = absurd (omega (arith, e))
stands-append (u ∷ us) vs (w ∷ ws) xs q e = stands-append us vs ws xs (standing_after q u w) (omega (arith, e))

-- cells that are taken from a place on
pub none-taken : (at : ℕ) (held : List ℕ) (q : Standing) → CandidateTaken [] at held held q q
none-taken at held q = record { left = sym (put-none held at); onto = refl }

pub one-taken : (u at : ℕ) (held : List ℕ) (q : Standing) → at < length held
    → CandidateTaken (u ∷ []) at held (set held at (kept_value q u (get_or held at 0))) q (standing_after q u (get_or held at 0))
one-taken u at held q h =
    let w : ℕ = get_or held at 0 in
    let x : ℕ = kept_value q u w in
    let here : take 1 (drop at held) ≡ w ∷ [] = ap (take 1) (drop-cons held at 0 h) in
    record {
      left = ap (λ (l : List ℕ). set l at x) (sym (put-none held (suc at))) ∙ put_front held at [] x h ∙ ap (λ (ws : List ℕ). put held at (kept_cells (u ∷ []) ws q)) (sym here);
      onto = ap (λ (ws : List ℕ). stands (u ∷ []) ws q) (sym here);
    }

module _ (us : List ℕ) (at : ℕ) (held held' : List ℕ) (q q' : Standing) (a : CandidateTaken us at held held' q q') where
  -- the cells that they were held against
  abbrev old : List ℕ
  old = take (length us) (drop at held)

  module _ (ws : List ℕ) (e : ℕ) (held'' : List ℕ) (q'' : Standing) (place : e ≡ at + length us) (b : CandidateTaken ws e held' held'' q' q'') (room : at + (length us + length ws) ≤ length held) where
    length-old : length old ≡ length us
    length-old = length-take-le (length us) (drop at held) (omega (arith, room, length-drop at held))

    abbrev new : List ℕ
    new = kept_cells us old q

    length-new : length new ≡ length us
    length-new = length-kept us old q ∙ length-old

    behind : drop e held' ≡ drop (at + length us) held
    behind =
        let i : e ≡ at + length new = omega (arith, place, length-new) in
        let j : at + length new ≡ at + length us = omega (arith, length-new) in
        ap (λ (l : List ℕ). drop e l) a.left ∙ ap (λ (i : ℕ). drop i (put held at new)) i ∙ drop-put held at new (omega (arith, room, length-new)) ∙ ap (λ (i : ℕ). drop i held) j

    abbrev next : List ℕ
    next = take (length ws) (drop (at + length us) held)

    both : take (length (us ++ ws)) (drop at held) ≡ old ++ next
    both =
        ap (λ (n : ℕ). take n (drop at held)) (length-append us ws)
        ∙ take-add (length us) (length ws) (drop at held)
        ∙ ap (λ (l : List ℕ). old ++ take (length ws) l) (drop-drop (length us) at held)

    against : take (length ws) (drop e held') ≡ next
    against = ap (take (length ws)) behind

    length-next : length next ≡ length ws
    length-next = length-take-le (length ws) (drop (at + length us) held) (omega (arith, room, length-drop (at + length us) held))

    pub more-taken : CandidateTaken (us ++ ws) at held held'' q q''
    more-taken =
        let behind-kept : List ℕ = kept_cells ws (take (length ws) (drop e held')) q' in
        let n : length behind-kept ≡ length ws = length-kept ws (take (length ws) (drop e held')) q' ∙ ap length against ∙ length-next in
        record {
          left = put-run held held' held'' at e new behind-kept a.left (omega (arith, place, length-new)) b.left (omega (arith, room, place, n))
              ∙ ap (put held at)
              (ap (λ (l : List ℕ). new ++ kept_cells ws l q') against
              ∙ ap (λ (q : Standing). new ++ kept_cells ws next q) a.onto
              ∙ sym (ap (λ (l : List ℕ). kept_cells (us ++ ws) l q) both ∙ kept_append us ws old next q (sym length-old)));
          onto = b.onto
              ∙ ap (λ (l : List ℕ). stands ws l q') against
              ∙ ap (stands ws next) a.onto
              ∙ sym (ap (λ (l : List ℕ). stands (us ++ ws) l q) both ∙ stands-append us ws old next q (sym length-old));
        }

  -- all cells
  pub all-taken : at ≡ 0 → length us ≡ length held → held' ≡ kept_cells us held q
  unfolding put
  all-taken z l =
      let ws : List ℕ = kept_cells us held q in
      let n : length ws ≡ length held = length-kept us held q in
      let whole : take (length us) held ≡ held = take_all (length us) held (omega (arith, l)) in
      let past : length held ≤ 0 + length ws = omega (arith, n) in
      a.left
      ∙ ap (λ (i : ℕ). put held i (kept_cells us (take (length us) (drop i held)) q)) z
      ∙ ap (λ (l : List ℕ). put held 0 (kept_cells us l q)) whole
      ∙ ap (λ (l : List ℕ). ws ++ l) (drop_of_length-le held {i = 0 + length ws} past)
      ∙ append-nil ws

-- nothing changes once what is held stays
pub after-taken : (us : List ℕ) (at : ℕ) (held : List ℕ) → at + length us ≤ length held → CandidateTaken us at held held After After
unfolding put
after-taken us at held h =
    let n : ℕ = length us in
    let ws : List ℕ = take n (drop at held) in
    let m : length ws ≡ n = length-take-le n (drop at held) (omega (arith, h, length-drop at held)) in
    record {
      left = sym
          (ap (put held at) (kept-after us ws)
          ∙ ap (λ (m : ℕ). take at held ++ (ws ++ drop (at + m) held)) m
          ∙ ap (λ (l : List ℕ). take at held ++ (ws ++ l)) (sym (drop-drop n at held))
          ∙ ap (λ (l : List ℕ). take at held ++ l) (take-append-drop n (drop at held))
          ∙ take-append-drop at held);
      onto = sym (stands_after us ws);
    }
