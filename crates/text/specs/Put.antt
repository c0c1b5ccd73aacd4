-- A list with other elements from a place on: what a run of stores at a cursor leaves.
use Rattle.std.specs.Prelude.{◌≡◌, refl, get_or}
use Rattle.std.proofs.Common.{sym, ◌∙◌, add-one, take-append-drop, drop-cons, drop-drop, take-suc}
use Rattle.std.proofs.Math.Path.{ap}
use mathlib.Core.List.{List, [], ◌∷◌, ◌++◌, append_assoc}
use Prim.Native.Nat.{ℕ, suc, ◌+◌, ◌-◌, ◌≤◌, ◌<◌}
use Rattle.std.proofs.Math.Nat.{add-zero}
use native.Mathlib.Omega.{arith}
use Rattle.std.proofs.Math.ListN.{length, set, take, drop, length-append, length-drop, get_or-append}
use Rattle.std.proofs.Math.Seq.{set_at, length-take-le, take_at, drop_at, get_or-take}

module _ {A : Type 0} where
  -- l with the elements vs from `at` on
  unfoldable pub put : List A → ℕ → List A → List A
  put l at vs = take at l ++ (vs ++ drop (at + length vs) l)

  pub put-none : (l : List A) (at : ℕ) → put l at [] ≡ l
  unfolding put
  put-none l at = rw add-zero (take-append-drop at l)

  pub length-put : (l : List A) (at : ℕ) (vs : List A) → at + length vs ≤ length l → length (put l at vs) ≡ length l
  unfolding put
  length-put l at vs h =
      length-append (take at l) (vs ++ drop (at + length vs) l)
      ∙ omega (arith, length-take-le at l (omega arith), length-append vs (drop (at + length vs) l), length-drop (at + length vs) l)

  front : (l : List A) (at : ℕ) (vs : List A) → at + length vs ≤ length l → length (take at l ++ vs) ≡ at + length vs
  front l at vs h = length-append (take at l) vs ∙ omega (arith, length-take-le at l (omega arith))

  -- one more element after those that stand there
  pub put-more : (l : List A) (at : ℕ) (vs : List A) (x : A) → at + length vs < length l → set (put l at vs) (at + length vs) x ≡ put l at (vs ++ (x ∷ []))
  unfolding put
  put-more l at vs x h =
      ap (λ (k : List A). set k (at + length vs) x) (sym (append_assoc (take at l) vs (drop (at + length vs) l)) ∙ ap (λ (k : List A). (take at l ++ vs) ++ k) (drop-cons l (at + length vs) x h))
      ∙ set_at (take at l ++ vs) (get_or l (at + length vs) x) (drop (suc (at + length vs)) l) x (at + length vs) (front l at vs (omega arith))
      ∙ append_assoc (take at l) vs (x ∷ drop (suc (at + length vs)) l)
      ∙ ap (λ (k : List A). take at l ++ k) (sym (append_assoc vs (x ∷ []) (drop (at + length (vs ++ (x ∷ []))) l) ∙ ap (λ (k : ℕ). vs ++ (x ∷ drop k l)) longer))
    where
      longer : at + length (vs ++ (x ∷ [])) ≡ suc (at + length vs)
      longer = omega (arith, length-append vs (x ∷ []))

  -- one more element before those that stand there
  pub put_front : (l : List A) (at : ℕ) (vs : List A) (x : A) → at < length l → set (put l (suc at) vs) at x ≡ put l at (x ∷ vs)
  unfolding put
  put_front l at vs x h =
      let e : suc at + length vs ≡ at + suc (length vs) = omega arith in
      ap (λ (k : List A). set (k ++ (vs ++ drop (suc at + length vs) l)) at x) (take-suc l at x h)
      ∙ ap (λ (k : List A). set k at x) (append_assoc (take at l) (get_or l at x ∷ []) (vs ++ drop (suc at + length vs) l))
      ∙ set_at (take at l) (get_or l at x) (vs ++ drop (suc at + length vs) l) x at (length-take-le at l (omega arith))
      ∙ ap (λ (k : ℕ). take at l ++ (x ∷ (vs ++ drop k l))) e

  -- what stands before the place is as it was
  pub take_put : (l : List A) (at : ℕ) (vs : List A) → at + length vs ≤ length l → take (at + length vs) (put l at vs) ≡ take at l ++ vs
  unfolding put
  take_put l at vs h =
      ap (take (at + length vs)) (sym (append_assoc (take at l) vs (drop (at + length vs) l)))
      ∙ take_at (take at l ++ vs) (drop (at + length vs) l) (at + length vs) (front l at vs h)

  pub drop-put : (l : List A) (at : ℕ) (vs : List A) → at + length vs ≤ length l → drop (at + length vs) (put l at vs) ≡ drop (at + length vs) l
  unfolding put
  drop-put l at vs h =
      ap (drop (at + length vs)) (sym (append_assoc (take at l) vs (drop (at + length vs) l)))
      ∙ drop_at (take at l ++ vs) (drop (at + length vs) l) (at + length vs) (front l at vs h)

  -- a second run of stores after the first
  pub put-put : (l : List A) (at : ℕ) (vs ws : List A) → at + length vs + length ws ≤ length l → put (put l at vs) (at + length vs) ws ≡ put l at (vs ++ ws)
  unfolding put
  put-put l at vs ws h =
      ap (λ (k : List A). k ++ (ws ++ drop (at + length vs + length ws) (put l at vs))) (take_put l at vs (omega arith))
      ∙ ap (λ (k : List A). (take at l ++ vs) ++ (ws ++ k)) later
      ∙ append_assoc (take at l) vs (ws ++ drop (at + length (vs ++ ws)) l)
      ∙ ap (λ (k : List A). take at l ++ k) (sym (append_assoc vs ws (drop (at + length (vs ++ ws)) l)))
    where
      both : at + length vs + length ws ≡ at + length (vs ++ ws)
      both = omega (arith, length-append vs ws)

      later : drop (at + length vs + length ws) (put l at vs) ≡ drop (at + length (vs ++ ws)) l
      later =
          sym (drop-drop (length ws) (at + length vs) (put l at vs))
          ∙ ap (drop (length ws)) (drop-put l at vs (omega arith))
          ∙ drop-drop (length ws) (at + length vs) l
          ∙ ap (λ (k : ℕ). drop k l) both

  -- elsewhere it is as it was
  pub get_d-put-before : (l : List A) (at : ℕ) (vs : List A) (i : ℕ) (d : A) → i < at → at + length vs ≤ length l → get_or (put l at vs) i d ≡ get_or l i d
  unfolding put
  get_d-put-before l at vs i d h k =
      get_or-append (take at l) (vs ++ drop (at + length vs) l) d i (omega (arith, length-take-le at l (omega arith)))
      ∙ get_or-take at l i d h

  -- a loop's turn: the store of the next element
  pub put_step : (l l' : List A) (at i : ℕ) (vs vs' : List A) (x : A) → l' ≡ put l at vs → length vs ≡ i → at + i < length l → vs ++ (x ∷ []) ≡ vs' → set l' (at + i) x ≡ put l at vs'
  put_step l l' at i vs vs' x e n h m =
      ap (λ (k : List A). set k (at + i) x) e
      ∙ ap (λ (k : ℕ). set (put l at vs) (at + k) x) (sym n)
      ∙ put-more l at vs x (omega arith)
      ∙ ap (put l at) m

  pub take_more : (l : List A) (i : ℕ) (d : A) → i < length l → take i l ++ (get_or l i d ∷ []) ≡ take (i + 1) l
  take_more l i d h = rw (add-one, take-suc l i d h)

  -- what a callee that was lent the part from a to e left of it, said of the whole
  pub part-put : (l vs : List A) (a e : ℕ) → a ≤ e → e ≤ length l → length vs ≡ e - a → take a l ++ (vs ++ drop (e - a) (drop a l)) ≡ put l a vs
  unfolding put
  part-put l vs a e h k n = rw (drop-drop, n)

  -- the same at a cursor e, which is the place after what was stored
  pub put-cursor : (l l' : List A) (at e : ℕ) (vs vs' : List A) (x : A) → l' ≡ put l at vs → e ≡ at + length vs → e < length l → vs ++ (x ∷ []) ≡ vs' → set l' e x ≡ put l at vs'
  put-cursor l l' at e vs vs' x p n h m =
      ap (λ (k : ℕ). set l' k x) n ∙ put_step l l' at (length vs) vs vs' x p refl (omega arith) m

  -- the cursor after one more element
  pub cursor-more : (at e : ℕ) (vs vs' : List A) (x : A) → e ≡ at + length vs → vs ++ (x ∷ []) ≡ vs' → e + 1 ≡ at + length vs'
  cursor-more at e vs vs' x n m = omega (arith, length-append vs (x ∷ []), ap length m)

  -- a callee's run of stores at the cursor
  pub put-run : (l l' l'' : List A) (at e : ℕ) (vs ws : List A) → l' ≡ put l at vs → e ≡ at + length vs → l'' ≡ put l' e ws → e + length ws ≤ length l → l'' ≡ put l at (vs ++ ws)
  put-run l l' l'' at e vs ws p n q h = q ∙ ap (λ (k : List A). put k e ws) p ∙ ap (λ (k : ℕ). put (put l at vs) k ws) n ∙ put-put l at vs ws (omega arith)

  pub cursor-run : (at e e' : ℕ) (vs ws : List A) → e ≡ at + length vs → e' ≡ e + length ws → e' ≡ at + length (vs ++ ws)
  cursor-run at e e' vs ws n m = omega (arith, length-append vs ws)

  -- a whole text from the start on: what a public contract says of the buffer
  pub from_start : (l l' : List A) (r : ℕ) (vs : List A) → l' ≡ put l 0 vs → r ≡ 0 + length vs → length vs ≤ length l → (r ≡ length vs) × ((take r l' ≡ vs) × (drop r l' ≡ drop r l))
  from_start l l' r vs p n h = (
    omega arith,
    (
      ap (λ (k : List A). take r k) p ∙ ap (λ (k : ℕ). take k (put l 0 vs)) n ∙ take_put l 0 vs (omega arith),
      ap (λ (k : List A). drop r k) p ∙ ap (λ (k : ℕ). drop k (put l 0 vs)) n ∙ drop-put l 0 vs (omega arith) ∙ ap (λ (k : ℕ). drop k l) (sym n),
    ),
  )
