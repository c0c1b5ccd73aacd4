-- Where a line and a word end, byte by byte.
use mathlib.Core.Path.{◌≡◌, refl, sym, ap, ◌∙◌, subst}
use mathlib.Core.Bool.{Bool, true, false, cond, not}
use mathlib.Core.Option.{Option, none, some}
use mathlib.Core.List.{List, [], ◌∷◌}
use Prim.Native.Nat.{ℕ, zero, suc, ◌+◌, ◌-◌, ◌≤◌, ◌<◌}
use native.Mathlib.Numerals.{add-one}
use native.Mathlib.Omega.{arith}
use lib.Dec.{eqb, ltb}
use lib.ListN.{length, get_or, drop, drop_of_length-le, length-drop}
use lib.Seq.{drop-cons, get_or-drop}
use Rattle.std.specs.List.{position, position_or_len}
use Rattle.std.specs.Prelude.{Some, None, unwrap_or}
use Rattle.std.proofs.lemmas.List.Sums.{fails_before_first, passes_at_first, prefix_len-le-length}
use Rattle.std.proofs.lemmas.Bool.{eqb-true}
use borrow.Author.Tests.{lt-ltb, le-ltb, ltb-true, ltb-false, eq-eqb, ne_eqb}
use Rattle.theory.specs.Bytes.{LF, space}
use Rattle.theory.specs.Lines.{Cut, add_front, cut_line, add_byte, cut_words}
use Rattle.text.specs.Lines.{part, ByteEnd, LineEnd, WordEnd}
use Rattle.text.proofs.Part.{part_none, part-cons}

module _ (text : List ℕ) (i : ℕ) where
  -- a line ends at its LF
  pub line-ends : i < length text → get_or text i 0 ≡ LF → LineEnd text i i
  line-ends h e = record {
    from = omega arith;
    within = omega arith;
    cut = ap cut_line (drop-cons text i 0 h)
        ∙ ap (λ (b : Bool). cond b (some ([], drop (suc i) text)) (add_front (get_or text i 0) (cut_line (drop (suc i) text)))) (eq-eqb (get_or text i 0) LF e)
        ∙ ap (λ (l : List ℕ). some (l, drop (suc i) text)) (sym (part_none text i))
        ∙ ap (λ (b : Bool). cond b (some (part text i i, drop (suc i) text)) none) (sym (lt-ltb i (length text) h));
  }

  -- no LF is left at the end of the text
  pub line-unended : length text ≡ i → LineEnd text i i
  line-unended e = record {
    from = omega arith;
    within = omega arith;
    cut = ap cut_line (drop_of_length-le text {i = i} (omega arith))
        ∙ ap (λ (b : Bool). cond b (some (part text i i, drop (suc i) text)) none) (sym (le-ltb i (length text) (omega arith)));
  }

  -- a line goes on past any other byte
  pub line_on : (r : ℕ) → i < length text → (get_or text i 0 ≡ LF → ⊥) → LineEnd text (i + 1) r → LineEnd text i r
  line_on r h ne z = let from : i + 1 ≤ r = z.from in record {
    from = omega arith;
    within = z.within;
    cut = ap cut_line (drop-cons text i 0 h)
        ∙ ap (λ (b : Bool). cond b (some ([], drop (suc i) text)) (add_front x (cut_line (drop (suc i) text)))) (ne_eqb x LF ne)
        ∙ ap (λ (n : ℕ). add_front x (cut_line (drop n text))) (sym (add-one i))
        ∙ ap (add_front x) z.cut
        ∙ go (ltb r (length text))
        ∙ ap (λ (l : List ℕ). cond (ltb r (length text)) (some (l, drop (suc r) text)) none) (sym (part-cons text i r 0 (omega arith) z.within));
  }
    where
      x : ℕ
      x = get_or text i 0

      go : (b : Bool) → add_front x (cond b (some (part text (i + 1) r, drop (suc r) text)) none) ≡ cond b (some (x ∷ part text (i + 1) r, drop (suc r) text)) none
      go true = refl
      go false = refl

-- a line that goes on past a byte ends where it ends from the next byte on
line-next : (text : List ℕ) (i r : ℕ) → i < r → LineEnd text i r → LineEnd text (i + 1) r
line-next text i r l z =
    record {
      from = omega arith;
      within = z.within;
      cut = ap (λ (n : ℕ). cut_line (drop n text)) (add-one i) ∙ go (eqb x LF) (cut_line (drop (suc i) text)) (ltb r (length text)) whole;
    }
  where
    x : ℕ
    x = get_or text i 0

    whole : cond (eqb x LF) (some ([], drop (suc i) text)) (add_front x (cut_line (drop (suc i) text))) ≡ cond (ltb r (length text)) (some (x ∷ part text (i + 1) r, drop (suc r) text)) none
    whole =
        ap cut_line (sym (drop-cons text i 0 (omega (arith, z.within)))) ∙ z.cut
        ∙ ap (λ (w : List ℕ). cond (ltb r (length text)) (some (w, drop (suc r) text)) none) (part-cons text i r 0 l z.within)

    size : Option Cut → ℕ
    size none = 0
    size (some p) = length p.0

    shorter : Option Cut → Option Cut
    shorter none = none
    shorter (some p) = some (drop 1 p.0, p.1)

    go : (e : Bool) (o : Option Cut) (b : Bool) → cond e (some ([], drop (suc i) text)) (add_front x o) ≡ cond b (some (x ∷ part text (i + 1) r, drop (suc r) text)) none
        → o ≡ cond b (some (part text (i + 1) r, drop (suc r) text)) none
    go true o true h = absurd (omega (arith, ap size h))
    go true o false h = let z : ◌≡◌ {A = ℕ} 0 1 = cc in absurd (omega arith)
    go false none true h = let z : ◌≡◌ {A = ℕ} 0 1 = cc in absurd (omega arith)
    go false none false h = refl
    go false (some p) true h = ap shorter h
    go false (some p) false h = let z : ◌≡◌ {A = ℕ} 0 1 = cc in absurd (omega arith)

-- and so from any place within it
pub line-later : (text : List ℕ) (i r k : ℕ) → i + k ≤ r → LineEnd text i r → LineEnd text (i + k) r
line-later text i r zero l z = let e : i ≡ i + 0 = omega arith in rw (← e) z
line-later text i r (suc k) l z = let e : i + 1 + k ≡ i + suc k = omega arith in rw (← e) (line-later text (i + 1) r k (omega arith) (line-next text i r (omega arith) z))

module _ (line : List ℕ) (i : ℕ) where
  -- a word ends at a space
  pub word-ends : i < length line → get_or line i 0 ≡ space → WordEnd line i i
  word-ends h e = record {
    from = omega arith;
    within = omega arith;
    cut = ap cut_words (drop-cons line i 0 h)
        ∙ ap (λ (b : Bool). cond b ([] ∷ rest) (add_byte (get_or line i 0) rest)) (eq-eqb (get_or line i 0) space e)
        ∙ ap (λ (w : List ℕ). w ∷ rest) (sym (part_none line i))
        ∙ ap (λ (b : Bool). part line i i ∷ cond b rest []) (sym (lt-ltb i (length line) h));
  }
    where
      rest : List (List ℕ)
      rest = cut_words (drop (suc i) line)

  -- and at the end of the line
  pub word-unended : length line ≡ i → WordEnd line i i
  word-unended e = record {
    from = omega arith;
    within = omega arith;
    cut = ap cut_words (drop_of_length-le line {i = i} (omega arith))
        ∙ ap (λ (w : List ℕ). w ∷ []) (sym (part_none line i))
        ∙ ap (λ (b : Bool). part line i i ∷ cond b (cut_words (drop (suc i) line)) []) (sym (le-ltb i (length line) (omega arith)));
  }

  -- a word goes on past any other byte
  pub word_on : (r : ℕ) → i < length line → (get_or line i 0 ≡ space → ⊥) → WordEnd line (i + 1) r → WordEnd line i r
  word_on r h ne z = let from : i + 1 ≤ r = z.from in record {
    from = omega arith;
    within = z.within;
    cut = ap cut_words (drop-cons line i 0 h)
        ∙ ap (λ (b : Bool). cond b ([] ∷ cut_words (drop (suc i) line)) (add_byte x (cut_words (drop (suc i) line)))) (ne_eqb x space ne)
        ∙ ap (λ (n : ℕ). add_byte x (cut_words (drop n line))) (sym (add-one i))
        ∙ ap (add_byte x) z.cut
        ∙ ap (λ (w : List ℕ). w ∷ cond (ltb r (length line)) (cut_words (drop (suc r) line)) []) (sym (part-cons line i r 0 (omega arith) z.within));
  }
    where
      x : ℕ
      x = get_or line i 0

-- the place of the byte, from the next place on
next-end : (text : List ℕ) (byte at r : ℕ) → at < r → ByteEnd text at byte r → ByteEnd text (at + 1) byte r
next-end text byte at r h e = record { from = omega arith; within = e.within; before = λ k a b. e.before k (omega arith) b; here = e.here }

-- the place of the first LF from `at` on is where the line ends
pub line-to : (text : List ℕ) (at r : ℕ) → ByteEnd text at LF r → LineEnd text at r
line-to text at r e = go (r - at) at (let f : at ≤ r = e.from in omega arith) e
  where
    ended : (b : Bool) → ltb r (length text) ≡ b → ByteEnd text r LF r → LineEnd text r r
    ended true t e = let h : r < length text = ltb-true r (length text) t in line-ends text r h (e.here h)
    ended false t e = line-unended text r (omega (arith, e.within, ltb-false r (length text) t))

    go : (n at : ℕ) → r ≡ at + n → ByteEnd text at LF r → LineEnd text at r
    go zero at p e = let q : at ≡ r = omega arith in subst (λ (a : ℕ). LineEnd text a r) (sym q) (ended (ltb r (length text)) refl (subst (λ (a : ℕ). ByteEnd text a LF r) q e))
    go (suc n) at p e = line_on text at r (omega (arith, e.within)) (e.before at (omega arith) (omega arith)) (go n (at + 1) (omega arith) (next-end text LF at r (omega arith) e))

-- the place of the first space from `at` on is where the word ends
pub word-to : (line : List ℕ) (at r : ℕ) → ByteEnd line at space r → WordEnd line at r
word-to line at r e = go (r - at) at (let f : at ≤ r = e.from in omega arith) e
  where
    ended : (b : Bool) → ltb r (length line) ≡ b → ByteEnd line r space r → WordEnd line r r
    ended true t e = let h : r < length line = ltb-true r (length line) t in word-ends line r h (e.here h)
    ended false t e = word-unended line r (omega (arith, e.within, ltb-false r (length line) t))

    go : (n at : ℕ) → r ≡ at + n → ByteEnd line at space r → WordEnd line at r
    go zero at p e = let q : at ≡ r = omega arith in subst (λ (a : ℕ). WordEnd line a r) (sym q) (ended (ltb r (length line)) refl (subst (λ (a : ℕ). ByteEnd line a space r) q e))
    go (suc n) at p e = word_on line at r (omega (arith, e.within)) (e.before at (omega arith) (omega arith)) (go n (at + 1) (omega arith) (next-end line space at r (omega arith) e))

-- the first place that passes, or else the length
pub place-or-length : (p : ℕ → Bool) (xs : List ℕ) → unwrap_or (position p xs) (length xs) ≡ position_or_len p xs
place-or-length p xs = go (ltb n (length xs)) refl
  where
    n : ℕ
    n = position_or_len p xs

    go : (b : Bool) → ltb n (length xs) ≡ b → unwrap_or (cond b (Some n) None) (length xs) ≡ n
    go true e = refl
    go false e = omega (arith, prefix_len-le-length (λ x. not (p x)) xs, ltb-false n (length xs) e)

-- the first place of a byte in what is left of a text, as a place of the text
pub end-found : (text : List ℕ) (at byte n : ℕ) → at ≤ length text → n ≡ position_or_len (λ b. eqb b byte) (drop at text) → ByteEnd text at byte (at + n)
end-found text at byte n h e =
    let size : length (drop at text) ≡ length text - at = length-drop at text in
    let most : position_or_len (λ b. eqb b byte) (drop at text) ≤ length (drop at text) = prefix_len-le-length _ (drop at text) in
    record {
      from = omega arith;
      within = omega arith;
      before = λ k a b g.
          let f : eqb (get_or (drop at text) (k - at) 0) byte ≡ false = fails_before_first (λ b. eqb b byte) (drop at text) (k - at) 0 (omega arith) in
          let m : get_or (drop at text) (k - at) 0 ≡ get_or text (at + (k - at)) 0 = get_or-drop at text (k - at) 0 in
          let p : at + (k - at) ≡ k = omega arith in
          let t : eqb (get_or text k 0) byte ≡ true = eq-eqb _ _ g in
          cc;
      here = λ l.
          let f : eqb (get_or (drop at text) n 0) byte ≡ true = rw e (passes_at_first (λ b. eqb b byte) (drop at text) 0 (omega arith)) in
          sym (get_or-drop at text n 0) ∙ eqb-true _ byte f;
    }
