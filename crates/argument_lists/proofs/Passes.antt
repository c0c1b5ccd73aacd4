-- What a token does to the lists of a pass.
use Prim.Native.Nat.{ℕ, zero, suc, ◌+◌, ◌-◌, ◌≤◌, ◌<◌}
use mathlib.Core.Path.{◌≡◌, refl, sym, ap, ◌∙◌, subst}
use mathlib.Core.Bool.{Bool, true, false, cond}
use mathlib.Core.List.{List, [], ◌∷◌}
use native.Mathlib.Omega.{arith}
use native.Mathlib.Numerals.{add-one}
use native.Mathlib.Nat.{add-zero, zero-add}
use borrow.Author.Tests.{eqb-true, eqb-false, ne_eqb}
use lib.Dec.{eqb}
use lib.ListN.{length, get_or, set, drop, length-set}
use lib.Seq.{get_or-set_same, get_or-set_other, get_or-drop, drop-drop}
use Rattle.std.specs.Prelude.{Option, Some, None}
use Rattle.tptp.specs.Tokens.{TokenKind, lower_word, upper_word, digits, falsum, left_paren, right_paren, comma, full_stop, bar, tilde, equal_sign, unequal_sign, foreign, open_comment, kind_number}
use Rattle.tptp.specs.Trees.{Name}
use Rattle.tptp.specs.Written.{Item, item_of}
use Rattle.tptp.specs.Scanning.{same_token_kind, commas}
use Rattle.scanning.proofs.Lookahead.{commas-open, commas-stop, commas-close, commas-inner, commas-one, commas-other, no-commas}
use Rattle.argument_lists.specs.Lists.{max_lists, many, list_arities, from_open, Room, Counts, Held}
use Rattle.argument_lists.specs.Passing.{link_to, Falling, Linked, to_come, Telling, Tellable}
use Rattle.argument_lists.specs.declared.pass.Pass.{Pass}

one_less : (d : ℕ) → suc d - 1 ≡ d
one_less d = omega arith

-- a kind is one kind only
other-kind : (l m k : TokenKind) → same_token_kind l k ≡ true → same_token_kind m l ≡ false → same_token_kind m k ≡ false
other-kind l m k e f = ap (eqb (kind_number m)) (sym (eqb-true (kind_number l) (kind_number k) e)) ∙ f

-- the lists that open in a token and what follows it
pub lists-first : (k : TokenKind) (w : Name) (us : List Item) → list_arities (item_of k w ∷ us) ≡ cond (same_token_kind left_paren k) (suc (commas us 0) ∷ list_arities us) (list_arities us)
lists-first lower_word w us = refl
lists-first upper_word w us = refl
lists-first digits w us = refl
lists-first falsum w us = refl
lists-first left_paren w us = refl
lists-first right_paren w us = refl
lists-first comma w us = refl
lists-first full_stop w us = refl
lists-first bar w us = refl
lists-first tilde w us = refl
lists-first equal_sign w us = refl
lists-first unequal_sign w us = refl
lists-first foreign w us = refl
lists-first open_comment w us = refl

module _ (k : TokenKind) (w : Name) (us : List Item) where
  pub lists-open : same_token_kind left_paren k ≡ true → list_arities (item_of k w ∷ us) ≡ suc (commas us 0) ∷ list_arities us
  lists-open l = lists-first k w us ∙ ap (λ (b : Bool). cond b (suc (commas us 0) ∷ list_arities us) (list_arities us)) l

  pub lists-on : same_token_kind left_paren k ≡ false → list_arities (item_of k w ∷ us) ≡ list_arities us
  lists-on l = lists-first k w us ∙ ap (λ (b : Bool). cond b (suc (commas us 0) ∷ list_arities us) (list_arities us)) l

  -- the arguments to come after the token, by those of each open list
  come-by : (f : ℕ → ℕ) → ((d : ℕ) → f (suc d) ≡ suc (f d)) → ((d : ℕ) → commas (item_of k w ∷ us) d ≡ commas us (f d))
      → (s : List ℕ) (d j : ℕ) → to_come s d (item_of k w ∷ us) j ≡ to_come s (f d) us j
  come-by f h c [] d j = refl
  come-by f h c (x ∷ s) d j =
      ap (λ (n : ℕ). cond (eqb x j) n (to_come s (suc d) (item_of k w ∷ us) j)) (c d)
      ∙ ap (cond (eqb x j) (commas us (f d))) (come-by f h c s (suc d) j ∙ ap (λ (n : ℕ). to_come s n us j) (h d))

  come-open : (s : List ℕ) (d j : ℕ) → same_token_kind left_paren k ≡ true → to_come s d (item_of k w ∷ us) j ≡ to_come s (suc d) us j
  come-open s d j l = come-by suc (λ _. refl) (λ e. commas-open k w us e l ∙ ap (commas us) (add-one e)) s d j

  -- inside a list that is open inside the innermost
  come-close : (s : List ℕ) (d j : ℕ) → same_token_kind right_paren k ≡ true → to_come s (suc d) (item_of k w ∷ us) j ≡ to_come s d us j
  come-close [] d j r = refl
  come-close (x ∷ s) d j r =
      let e : commas (item_of k w ∷ us) (suc d) ≡ commas us d = commas-close k w us (suc d) (λ z. absurd (omega (arith, z))) (other-kind right_paren left_paren k r refl) r ∙ ap (commas us) (one_less d) in
      ap (λ (n : ℕ). cond (eqb x j) n (to_come s (suc (suc d)) (item_of k w ∷ us) j)) e ∙ ap (cond (eqb x j) (commas us d)) (come-close s (suc d) j r)

  -- a token that is no parenthesis
  come-inner : same_token_kind left_paren k ≡ false → same_token_kind right_paren k ≡ false → (s : List ℕ) (d j : ℕ) → to_come s (suc d) (item_of k w ∷ us) j ≡ to_come s (suc d) us j
  come-inner l r [] d j = refl
  come-inner l r (x ∷ s) d j =
      ap (λ (n : ℕ). cond (eqb x j) n (to_come s (suc (suc d)) (item_of k w ∷ us) j)) (commas-inner k w us (suc d) (λ z. absurd (omega (arith, z))) l r)
      ∙ ap (cond (eqb x j) (commas us (suc d))) (come-inner l r s (suc d) j)

  -- nor a comma
  come-other : same_token_kind left_paren k ≡ false → same_token_kind right_paren k ≡ false → same_token_kind comma k ≡ false → (s : List ℕ) (d j : ℕ) → to_come s d (item_of k w ∷ us) j ≡ to_come s d us j
  come-other l r c [] d j = refl
  come-other l r c (x ∷ s) zero j =
      ap (λ (n : ℕ). cond (eqb x j) n (to_come s 1 (item_of k w ∷ us) j)) (commas-other k w us 0 refl l r c) ∙ ap (cond (eqb x j) (commas us 0)) (come-inner l r s 0 j)
  come-other l r c (x ∷ s) (suc d) j = come-inner l r (x ∷ s) d j

-- a list that is not open has no argument to come
pub not-open : (s : List ℕ) (n d : ℕ) (us : List Item) (j : ℕ) → Falling n s → n ≤ j → to_come s d us j ≡ 0
not-open [] n d us j f h = refl
not-open (x ∷ s) n d us j f h =
    ap (λ (b : Bool). cond b (commas us d) (to_come s (suc d) us j)) (ne_eqb x j (λ e. absurd (omega (arith, e, f.0, h)))) ∙ not-open s x (suc d) us j f.1 (omega (arith, f.0, h))

-- nor has one where nothing is left
pub none-to-come : (s : List ℕ) (d j : ℕ) → to_come s d [] j ≡ 0
none-to-come [] d j = refl
none-to-come (x ∷ s) d j = ap (λ (n : ℕ). cond (eqb x j) n (to_come s (suc d) [] j)) (no-commas d) ∙ go (eqb x j) (none-to-come s (suc d) j)
  where
    go : (b : Bool) → to_come s (suc d) [] j ≡ 0 → cond b 0 (to_come s (suc d) [] j) ≡ 0
    go true e = refl
    go false e = e

-- a link stored behind those of the open lists
linked-set : (links : List ℕ) (n v o : ℕ) (s : List ℕ) (m : ℕ) → Falling m s → m ≤ n → Linked links o s → Linked (set links n v) o s
linked-set links n v o [] m f h l = l
linked-set links n v o (x ∷ s) m f h l =
    (l.0, subst (λ (q : ℕ). Linked (set links n v) q s) (sym (get_or-set_other links n x v 0 (λ e. absurd (omega (arith, e, f.0, h))))) (linked-set links n v (get_or links x 0) s x f.1 (omega (arith, f.0, h)) l.1))

-- an open list is one of those noted
pub innermost-noted : (links : List ℕ) (o : ℕ) (s : List ℕ) (n : ℕ) → Linked links o s → Falling n s → o ≤ n
innermost-noted links o [] n l f = omega (arith, l)
innermost-noted links o (x ∷ s) n l f = omega (arith, l.0, f.0)

-- so it has a place in the counts and in the links
pub record Placed (counts links : List ℕ) (k : ℕ) : Type 0 where
  pub few : k < max_lists
  pub in_counts : k < length counts
  pub in_links : k < length links

pub link-few : (counts links : List ℕ) (p : Pass) → Tellable counts links p → link_to p.innermost ≤ max_lists
link-few counts links p t = let s = t.1.1 in omega (arith, innermost-noted links (link_to p.innermost) s.stack p.count s.linked s.falling, s.few)

pub innermost-placed : (counts links : List ℕ) (p : Pass) (k : ℕ) → Tellable counts links p → p.innermost ≡ Some k → Placed counts links k
innermost-placed counts links p k t e =
    let s = t.1.1 in
    let n : link_to p.innermost ≤ p.count = innermost-noted links (link_to p.innermost) s.stack p.count s.linked s.falling in
    let i : link_to p.innermost ≡ suc k = ap link_to e in
    record { few = omega (arith, n, i, s.few); in_counts = omega (arith, n, i, s.few, s.room.counts-long); in_links = omega (arith, n, i, s.few, s.room.links-long) }

-- where no noted list is open, none has an argument to come
none_open : (links : List ℕ) (o : ℕ) (s : List ℕ) → o ≡ 0 → Linked links o s → (d : ℕ) (us : List Item) (j : ℕ) → to_come s d us j ≡ 0
none_open links o [] e h d us j = refl
none_open links o (x ∷ s) e h d us j = absurd (omega (arith, e, h.0))

falls : (s : List ℕ) (m n : ℕ) → Falling m s → m ≤ n → Falling n s
falls [] m n f h = f
falls (x ∷ s) m n f h = (omega (arith, f.0, h), f.1)

-- as many counted and to come as were before
counted : (c m m' n : ℕ) → m ≡ m' → Counts c m n → Counts c m' n
counted c m m' n e k = record { few = λ h. k.few h ∙ ap (λ (q : ℕ). c + q) e; more = k.more }

module _ (ns : List ℕ) (k : TokenKind) (w : Name) (us : List Item) (counts links : List ℕ) (p : Pass) (t : Telling ns (item_of k w ∷ us) counts links p) where
  abbrev n : ℕ
  n = p.count

  -- the lists that open further on
  left-on : same_token_kind left_paren k ≡ false → n < max_lists → drop n ns ≡ list_arities us
  left-on l h = (t.left h).1 ∙ lists-on k w us l

  -- a list for which there is no room
  pub opened-beyond : same_token_kind left_paren k ≡ true → max_lists ≤ n → Telling ns us counts links (record { count = n; innermost = p.innermost; beyond = p.beyond + 1 })
  opened-beyond l h =
      record {
        stack = t.stack;
        falling = t.falling;
        linked = t.linked;
        told = λ j lt. counted _ _ _ _ (come-open k w us t.stack p.beyond j l ∙ ap (λ (d : ℕ). to_come t.stack d us j) (sym (add-one p.beyond))) (t.told j lt);
        left = λ lt. absurd (omega (arith, lt, h));
        few = t.few;
        room = t.room;
      }

  -- a list that is noted
  module _ (l : same_token_kind left_paren k ≡ true) (h : n < max_lists) where
    hc : length counts ≡ max_lists
    hc = t.room.counts-long

    hl : length links ≡ max_lists
    hl = t.room.links-long

    next-lists : drop n ns ≡ suc (commas us 0) ∷ list_arities us
    next-lists = (t.left h).1 ∙ lists-open k w us l

    own-arity : get_or ns n 0 ≡ suc (commas us 0)
    own-arity = ap (λ (i : ℕ). get_or ns i 0) (sym (add-zero n)) ∙ sym (get_or-drop n ns 0 0) ∙ ap (λ (xs : List ℕ). get_or xs 0 0) next-lists

    noted-told : (b : Bool) (j : ℕ) → eqb n j ≡ b → j < n + 1 → Counts (get_or (set counts n 1) j 0) (cond b (commas us 0) (to_come t.stack 1 us j)) (get_or ns j 0)
    noted-told true j e lt =
        let q : n ≡ j = eqb-true n j e in
        let c : get_or (set counts n 1) j 0 ≡ 1 = ap (λ (i : ℕ). get_or (set counts n 1) i 0) (sym q) ∙ get_or-set_same counts n 1 0 (omega (arith, h, hc)) in
        let a : get_or ns j 0 ≡ suc (commas us 0) = ap (λ (i : ℕ). get_or ns i 0) (sym q) ∙ own-arity in
        record { few = λ _. omega (arith, c, a); more = λ m. absurd (omega (arith, c, m)) }
    noted-told false j e lt =
        let ne : j ≡ n → ⊥ = λ q. eqb-false n j e (sym q) in
        let b0 : p.beyond ≡ 0 = (t.left h).0 in
        let old = counted _ _ _ _ (ap (λ (d : ℕ). to_come t.stack d (item_of k w ∷ us) j) b0 ∙ come-open k w us t.stack 0 j l) (t.told j (below ne lt)) in
        subst (λ (c : ℕ). Counts c (to_come t.stack 1 us j) (get_or ns j 0)) (sym (get_or-set_other counts n j 1 0 ne)) old
      where
        below : (j ≡ n → ⊥) → j < n + 1 → j < n
        below ne lt = omega (arith, lt, ne)

    abbrev o : ℕ
    o = link_to p.innermost

    pub opened-noted : Telling ns us (set counts n 1) (set links n (link_to p.innermost)) (record { count = n + 1; innermost = Some n; beyond = 0 })
    opened-noted =
        record {
          stack = n ∷ t.stack;
          falling = (omega arith, t.falling);
          linked = (refl, subst (λ (v : ℕ). Linked (set links n o) v t.stack) (sym (get_or-set_same links n o 0 (omega (arith, h, hl)))) (linked-set links n o o t.stack n t.falling (omega arith) t.linked));
          told = λ j lt. noted-told (eqb n j) j refl lt;
          left = λ _. (refl, sym (drop-drop 1 n ns) ∙ ap (drop 1) next-lists);
          few = omega (arith, h);
          room = record { counts-long = length-set counts n 1 ∙ hc; links-long = length-set links n o ∙ hl };
        }

  -- nothing but what is to come has changed
  goes_on : same_token_kind left_paren k ≡ false → ((j : ℕ) → to_come t.stack p.beyond (item_of k w ∷ us) j ≡ to_come t.stack p.beyond us j) → Telling ns us counts links p
  goes_on l e =
      record {
        stack = t.stack;
        falling = t.falling;
        linked = t.linked;
        told = λ j lt. counted _ _ _ _ (e j) (t.told j lt);
        left = λ lt. ((t.left lt).0, left-on l lt);
        few = t.few;
        room = t.room;
      }

  nothing-open : p.innermost ≡ None → (d : ℕ) (vs : List Item) (j : ℕ) → to_come t.stack d vs j ≡ 0
  nothing-open e = none_open links (link_to p.innermost) t.stack (ap link_to e) t.linked

  pub closed-beyond : same_token_kind right_paren k ≡ true → (p.beyond ≡ 0 → ⊥) → Telling ns us counts links (record { count = n; innermost = p.innermost; beyond = p.beyond - 1 })
  closed-beyond r ne =
      let e : p.beyond ≡ suc (p.beyond - 1) = omega (arith, ne) in
      record {
        stack = t.stack;
        falling = t.falling;
        linked = t.linked;
        told = λ j lt. counted _ _ _ _ (ap (λ (d : ℕ). to_come t.stack d (item_of k w ∷ us) j) e ∙ come-close k w us t.stack (p.beyond - 1) j r) (t.told j lt);
        left = λ lt. absurd (ne (t.left lt).0);
        few = t.few;
        room = t.room;
      }

  pub closed-outside : same_token_kind right_paren k ≡ true → p.innermost ≡ None → Telling ns us counts links p
  closed-outside r e = goes_on (other-kind right_paren left_paren k r refl) (λ j. nothing-open e p.beyond (item_of k w ∷ us) j ∙ sym (nothing-open e p.beyond us j))

  -- the innermost list is closed
  close-step : (x : ℕ) (s : List ℕ) (j : ℕ) → Falling x s → same_token_kind right_paren k ≡ true → to_come (x ∷ s) 0 (item_of k w ∷ us) j ≡ to_come s 0 us j
  close-step x s j f r = go (eqb x j) refl
    where
      go : (b : Bool) → eqb x j ≡ b → cond b (commas (item_of k w ∷ us) 0) (to_come s 1 (item_of k w ∷ us) j) ≡ to_come s 0 us j
      go true e = commas-stop k w us 0 refl (other-kind right_paren left_paren k r refl) r ∙ sym (not-open s x 0 us j f (omega (arith, eqb-true x j e)))
      go false e = come-close k w us s 0 j r

  pub closed-noted : same_token_kind right_paren k ≡ true → p.beyond ≡ 0 → (i : ℕ) → p.innermost ≡ Some i → (around : Option ℕ) → link_to around ≡ get_or links i 0
      → Telling ns us counts links (record { count = n; innermost = around; beyond = 0 })
  closed-noted r b i e around a = go t.stack t.falling t.linked (λ j lt. counted _ _ _ _ (ap (λ (d : ℕ). to_come t.stack d (item_of k w ∷ us) j) b) (t.told j lt))
    where
      go : (s : List ℕ) → Falling n s → Linked links (link_to p.innermost) s → ((j : ℕ) → j < n → Counts (get_or counts j 0) (to_come s 0 (item_of k w ∷ us) j) (get_or ns j 0))
          → Telling ns us counts links (record { count = n; innermost = around; beyond = 0 })
      go [] f h told = absurd (omega (arith, h, ap link_to e))
      go (x ∷ s) f h told =
          let q : x ≡ i = omega (arith, h.0, ap link_to e) in
          record {
            stack = s;
            falling = falls s x n f.1 (omega (arith, f.0));
            linked = subst (λ (v : ℕ). Linked links v s) (ap (λ (m : ℕ). get_or links m 0) q ∙ sym a) h.1;
            told = λ j lt. counted _ _ _ _ (close-step x s j f.1 r) (told j lt);
            left = λ lt. (refl, left-on (other-kind right_paren left_paren k r refl) lt);
            few = t.few;
            room = t.room;
          }

  pub argument-beyond : same_token_kind comma k ≡ true → (p.beyond ≡ 0 → ⊥) → Telling ns us counts links p
  argument-beyond c ne =
      let l : same_token_kind left_paren k ≡ false = other-kind comma left_paren k c refl in
      let e : p.beyond ≡ suc (p.beyond - 1) = omega (arith, ne) in
      goes_on l (λ j. ap (λ (d : ℕ). to_come t.stack d (item_of k w ∷ us) j) e ∙ come-inner k w us l (other-kind comma right_paren k c refl) t.stack (p.beyond - 1) j ∙ ap (λ (d : ℕ). to_come t.stack d us j) (sym e))

  pub argument-outside : same_token_kind comma k ≡ true → p.innermost ≡ None → Telling ns us counts links p
  argument-outside c e = goes_on (other-kind comma left_paren k c refl) (λ j. nothing-open e p.beyond (item_of k w ∷ us) j ∙ sym (nothing-open e p.beyond us j))

  -- the innermost list has one argument more: v arguments are counted of it now
  module _ (c : same_token_kind comma k ≡ true) (b : p.beyond ≡ 0) (i : ℕ) (g : p.innermost ≡ Some i) where
    -- one of the arguments to come is here
    argument-come : (x : ℕ) (s : List ℕ) (j : ℕ) → to_come (x ∷ s) 0 (item_of k w ∷ us) j ≡ cond (eqb x j) (suc (commas us 0)) (to_come s 1 us j)
    argument-come x s j =
        let l : same_token_kind left_paren k ≡ false = other-kind comma left_paren k c refl in
        let r : same_token_kind right_paren k ≡ false = other-kind comma right_paren k c refl in
        ap (λ (m : ℕ). cond (eqb x j) m (to_come s 1 (item_of k w ∷ us) j)) (commas-one k w us 0 refl l r c) ∙ ap (cond (eqb x j) (suc (commas us 0))) (come-inner k w us l r s 0 j)

    argument-counted : (counts' : List ℕ) → length counts' ≡ max_lists → ((j : ℕ) → (j ≡ i → ⊥) → get_or counts' j 0 ≡ get_or counts j 0)
        → ((m a : ℕ) → Counts (get_or counts i 0) (suc m) a → Counts (get_or counts' i 0) m a) → Telling ns us counts' links p
    argument-counted counts' long same more = go t.stack t.falling t.linked (λ j lt. counted _ _ _ _ (ap (λ (d : ℕ). to_come t.stack d (item_of k w ∷ us) j) b) (t.told j lt))
      where
        by : (x : ℕ) (s : List ℕ) (j : ℕ) → x ≡ i → (q : Bool) → eqb x j ≡ q → Counts (get_or counts j 0) (cond q (suc (commas us 0)) (to_come s 1 us j)) (get_or ns j 0)
            → Counts (get_or counts' j 0) (cond q (commas us 0) (to_come s 1 us j)) (get_or ns j 0)
        by x s j e true f h =
            let g : j ≡ i = sym (eqb-true x j f) ∙ e in
            subst (λ (m : ℕ). Counts (get_or counts' m 0) (commas us 0) (get_or ns j 0)) (sym g) (more (commas us 0) (get_or ns j 0) (subst (λ (m : ℕ). Counts (get_or counts m 0) (suc (commas us 0)) (get_or ns j 0)) g h))
        by x s j e false f h = subst (λ (m : ℕ). Counts m (to_come s 1 us j) (get_or ns j 0)) (sym (same j (λ g. eqb-false x j f (e ∙ sym g)))) h

        go : (s : List ℕ) → Falling n s → Linked links (link_to p.innermost) s → ((j : ℕ) → j < n → Counts (get_or counts j 0) (to_come s 0 (item_of k w ∷ us) j) (get_or ns j 0)) → Telling ns us counts' links p
        go [] f h told = absurd (omega (arith, h, ap link_to g))
        go (x ∷ s) f h told =
            let e : x ≡ i = omega (arith, h.0, ap link_to g) in
            record {
              stack = x ∷ s;
              falling = f;
              linked = h;
              told = λ j lt. counted _ _ _ _ (ap (λ (d : ℕ). to_come (x ∷ s) d us j) (sym b)) (by x s j e (eqb x j) refl (counted _ _ _ _ (argument-come x s j) (told j lt)));
              left = λ lt. (b, left-on (other-kind comma left_paren k c refl) lt);
              few = t.few;
              room = record { counts-long = long; links-long = t.room.links-long };
            }

    pub argument-one : i < length counts → get_or counts i 0 < many → Telling ns us (set counts i (get_or counts i 0 + 1)) links p
    argument-one h lt =
        let e = get_or-set_same counts i (get_or counts i 0 + 1) 0 h in
        argument-counted (set counts i (get_or counts i 0 + 1)) (length-set counts i (get_or counts i 0 + 1) ∙ t.room.counts-long) (λ j d. get_or-set_other counts i j (get_or counts i 0 + 1) 0 d)
        (λ m a q. record { few = λ f. omega (arith, e, f, q.few lt); more = λ f. omega (arith, e, f, q.few lt) })

    pub argument-many : many ≤ get_or counts i 0 → Telling ns us counts links p
    argument-many le = argument-counted counts t.room.counts-long (λ j d. refl) (λ m a q. record { few = λ f. absurd (omega (arith, le, f)); more = q.more })

  -- any other token
  pub other-token : same_token_kind left_paren k ≡ false → same_token_kind right_paren k ≡ false → same_token_kind comma k ≡ false → Telling ns us counts links p
  other-token l r c = goes_on l (λ j. come-other k w us l r c t.stack p.beyond j)

-- where no argument is to come of any list, what is noted is told
noted-held : (ns : List ℕ) (us : List Item) (counts links : List ℕ) (p : Pass) (t : Telling ns us counts links p) → ((j : ℕ) → to_come t.stack p.beyond us j ≡ 0) → Held counts 0 p.count ns
noted-held ns us counts links p t none =
    record {
      ordered = omega arith;
      within = t.few;
      told = λ j lt. subst (λ (i : ℕ). Counts (get_or counts i 0) 0 (get_or ns j 0)) (sym (zero-add j)) (counted _ _ _ _ (none j) (t.told j (omega (arith, lt))));
    }

pub ended_held : (ns : List ℕ) (us : List Item) (counts links : List ℕ) (p : Pass) → us ≡ [] → Telling ns us counts links p → Held counts 0 p.count ns
ended_held ns us counts links p e t = noted-held ns us counts links p t (λ j. ap (λ (vs : List Item). to_come t.stack p.beyond vs j) e ∙ none-to-come t.stack p.beyond j)

pub over-held : (ns : List ℕ) (us : List Item) (counts links : List ℕ) (p : Pass) → p.innermost ≡ None → Telling ns us counts links p → Held counts 0 p.count ns
over-held ns us counts links p e t = noted-held ns us counts links p t (λ j. none_open links (link_to p.innermost) t.stack (ap link_to e) t.linked p.beyond us j)

-- before the ( of the first list
pub pass-begins : (w : Name) (us : List Item) (counts links : List ℕ) → Room counts links → Telling (from_open us) (item_of left_paren w ∷ us) counts links (record { count = 0; innermost = None; beyond = 0 })
pass-begins w us counts links h = record { stack = []; falling = tt; linked = refl; told = λ j lt. absurd (omega (arith, lt)); left = λ _. (refl, refl); few = omega arith; room = h }
