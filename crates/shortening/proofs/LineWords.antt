-- A line's words from a place on, taken one after the other.
use Prim.Native.Nat.{ℕ, suc, ◌+◌, ◌-◌, ◌≤◌, ◌<◌}
use mathlib.Core.Path.{◌≡◌, refl, sym, ap, ◌∙◌}
use mathlib.Core.Bool.{Bool, true, false, cond}
use mathlib.Core.Option.{some, some-injective}
use mathlib.Core.List.{List, [], ◌∷◌, ◌++◌, append_cancel_right, append-nil}
use native.Mathlib.Omega.{arith}
use lib.Dec.{ltb}
use lib.ListN.{length, get_or, take, drop, take-append-drop}
use lib.Seq.{get_or-append_seam}
use borrow.Author.Tests.{lt-ltb, le-ltb, ltb-true, ltb-false}
use Rattle.theory.specs.Bytes.{space}
use Rattle.theory.specs.Lines.{cut_words, words_of}
use Rattle.theory.specs.Syntax.{Signature}
use Rattle.theory.specs.Grammar.{Word}
use Rattle.theory.specs.Problem.{word_of, read_all}
use Rattle.theory.specs.SheetText.{words_text}
use Rattle.text.specs.Lines.{part, WordEnd}
use Rattle.text.proofs.Part.{length_part, get_d_part, part-cons, take-part, drop-part}
use Rattle.shortening.specs.Spans.{words_between, CodeOf, FirstOf, NextWord}
use Rattle.shortening.proofs.CutWords.{text-cut, text-more, cut-append, cut-filled, first-known, known-cut, known-split}

-- a known word has a byte
known-filled : (g : Signature) (v : List ℕ) (x : Word) → word_of g v ≡ some x → 0 < length v
unfolding word_of
known-filled g [] x h = let z : ◌≡◌ {A = ℕ} 0 1 = cc in absurd (omega arith)
known-filled g (b ∷ v) x h = omega arith

-- no words are left at the end
pub past_end : (g : Signature) (sheet : List ℕ) (at to : ℕ) → to ≤ at → words_between g sheet at to ≡ some []
unfolding words_between
past_end g sheet at to h = let z : to - at ≡ 0 = omega arith in ap (λ (n : ℕ). read_all g (words_of (take n (drop at sheet)))) z

pub none_left : (g : Signature) (sheet : List ℕ) (at to : ℕ) (ws : List Word) → to ≤ at → words_between g sheet at to ≡ some ws → ws ≡ []
none_left g sheet at to ws h e = sym (some-injective [] ws (sym (past_end g sheet at to h) ∙ e))

module _ (sheet : List ℕ) (at to k : ℕ) (lt : at < to) (inside : to ≤ length sheet) (e : WordEnd (part sheet at to) 0 k) where
  abbrev v : List ℕ
  v = part sheet at to

  filled : length v ≡ to - at
  filled = length_part sheet at to (omega arith) inside

  pub ends-within : at + k ≤ to
  ends-within = omega (arith, e.within, filled)

  front : part v 0 k ≡ part sheet at (at + k)
  front = let z : k - 0 ≡ k = omega arith in ap (λ (n : ℕ). take n v) z ∙ take-part sheet at to k (omega (arith, e.within, filled))

  behind : drop (suc k) v ≡ part sheet (at + k + 1) to
  behind = let z : at + suc k ≡ at + k + 1 = omega arith in drop-part sheet at to (suc k) ∙ ap (λ (n : ℕ). part sheet n to) z

  -- the words: the first, and those behind its space
  pub cut-more : at + k < to → cut_words v ≡ part sheet at (at + k) ∷ cut_words (part sheet (at + k + 1) to)
  cut-more h =
      e.cut
      ∙ ap (λ (b : Bool). part v 0 k ∷ cond b (cut_words (drop (suc k) v)) []) (lt-ltb k (length v) (omega (arith, filled)))
      ∙ ap (λ (w : List ℕ). w ∷ cut_words (drop (suc k) v)) front
      ∙ ap (λ (w : List ℕ). part sheet at (at + k) ∷ cut_words w) behind

  cut-last : to ≤ at + k → cut_words v ≡ part sheet at (at + k) ∷ []
  cut-last h =
      e.cut
      ∙ ap (λ (b : Bool). part v 0 k ∷ cond b (cut_words (drop (suc k) v)) []) (le-ltb k (length v) (omega (arith, filled)))
      ∙ ap (λ (w : List ℕ). w ∷ []) front

  -- the byte behind it is a space
  space-there : at + k < to → get_or sheet (at + k) 0 ≡ space
  space-there h =
      let w : List ℕ = part sheet at (at + k) in
      let l : length w ≡ k = length_part sheet at (at + k) (omega arith) (omega arith) ∙ omega arith in
      sym (get_d_part sheet at to k 0 (omega arith))
      ∙ ap (λ (u : List ℕ). get_or u k 0) (sym (text-cut v) ∙ ap words_text (cut-more h) ∙ text-more w (part sheet (at + k + 1) to))
      ∙ ap (λ (n : ℕ). get_or (w ++ (space ∷ part sheet (at + k + 1) to)) n 0) (sym l)
      ∙ get_or-append_seam w space (part sheet (at + k + 1) to) 0

  module _ (g : Signature) (ws : List Word) (known : words_between g sheet at to ≡ some ws) where
    known-pieces : read_all g (cut_words v) ≡ some ws
    unfolding words_between
    known-pieces = ap (read_all g) (sym (cut-filled v (omega (arith, filled)))) ∙ known

    -- the word there, and those behind it
    word_at : (c : ℕ) → CodeOf g (part sheet at (at + k)) c → (vs : List (List ℕ)) → cut_words v ≡ part sheet at (at + k) ∷ vs
        → ((us : List Word) → read_all g vs ≡ some us → words_between g sheet (at + k + 1) to ≡ some us) → FirstOf g sheet at to ws (record { code = c; end = at + k })
    word_at c coded vs cut left =
        let f = first-known g (part sheet at (at + k)) vs ws (ap (read_all g) (sym cut) ∙ known-pieces) in
        let x = coded f.first f.word in
        record {
          others = f.others;
          words = f.all ∙ ap (λ (w : Word). w ∷ f.others) (sym x.0);
          coded = x.1;
          filled = omega (arith, known-filled g (part sheet at (at + k)) f.first f.word, length_part sheet at (at + k) (omega arith) (omega (arith, ends-within)));
          left = left f.others f.rest;
          spaced = space-there;
        }

    first_of : (c : ℕ) → CodeOf g (part sheet at (at + k)) c → FirstOf g sheet at to ws (record { code = c; end = at + k })
    unfolding words_between
    first_of c coded = go (ltb (at + k) to) refl
      where
        go : (b : Bool) → ltb (at + k) to ≡ b → FirstOf g sheet at to ws (record { code = c; end = at + k })
        go true h = word_at c coded (cut_words (part sheet (at + k + 1) to)) (cut-more (ltb-true (at + k) to h)) (known-cut g (part sheet (at + k + 1) to))
        go false h = let last : to ≤ at + k = ltb-false (at + k) to h in word_at c coded [] (cut-last last) (λ us k. past_end g sheet _ to (omega arith) ∙ k)

  pub next_word : (g : Signature) (c : ℕ) → CodeOf g (part sheet at (at + k)) c → NextWord g sheet at to (record { code = c; end = at + k })
  next_word g c coded = record { from = omega arith; within = ends-within; first = λ ws known. first_of g ws known c coded }

-- two parts with a place between
part-split : (s : List ℕ) (a e f : ℕ) → a ≤ e → e ≤ f → part s a e ++ part s e f ≡ part s a f
part-split s a e f h k =
    let z : a + (e - a) ≡ e = omega arith in
    ap (λ (n : ℕ). part s a n ++ part s n f) (sym z)
    ∙ ap (λ (l : List ℕ). l ++ part s (a + (e - a)) f) (sym (take-part s a f (e - a) (omega arith)))
    ∙ ap (λ (l : List ℕ). take (e - a) (part s a f) ++ l) (sym (drop-part s a f (e - a)))
    ∙ take-append-drop (e - a) (part s a f)

-- words that end at a place, in front of those behind it
pub words-front : (g : Signature) (sheet : List ℕ) (at end to : ℕ) (us ws : List Word) → at < end → end ≤ to → to ≤ length sheet → (end < to → get_or sheet end 0 ≡ space)
    → words_between g sheet at to ≡ some (us ++ ws) → words_between g sheet (end + 1) to ≡ some ws → words_between g sheet at end ≡ some us
unfolding words_between
words-front g sheet at end to us ws from within inside spaced all rest = go (ltb end to) refl
  where
    finish : (w u : List ℕ) → (a : List Word) × ((b : List Word) × ((read_all g (cut_words w) ≡ some a) × ((read_all g (cut_words u) ≡ some b) × (us ++ ws ≡ a ++ b)))) → read_all g (words_of u) ≡ some ws
        → read_all g (words_of w) ≡ some us
    finish w u r known =
        let same : r.1.0 ≡ ws = some-injective r.1.0 ws (sym (known-cut g u r.1.0 r.1.1.1.0) ∙ known) in
        let front : r.0 ≡ us = append_cancel_right r.0 us ws (ap (λ (l : List Word). r.0 ++ l) (sym same) ∙ sym r.1.1.1.1) in
        known-cut g w us (r.1.1.0 ∙ ap some front)

    go : (b : Bool) → ltb end to ≡ b → read_all g (words_of (part sheet at end)) ≡ some us
    go true h =
        let lt : end < to = ltb-true end to h in
        let w : List ℕ = part sheet at end in
        let u : List ℕ = part sheet (end + 1) to in
        let whole : part sheet at to ≡ w ++ (space ∷ u) =
        sym (part-split sheet at end to (omega arith) (omega arith)) ∙ ap (λ (l : List ℕ). w ++ l) (part-cons sheet end to 0 lt inside ∙ ap (λ (b : ℕ). b ∷ u) (spaced lt)) in
        let cut : cut_words (part sheet at to) ≡ cut_words w ++ cut_words u = ap cut_words whole ∙ cut-append w u in
        finish w u
        (known-split g (cut_words w) (cut_words u) (us ++ ws) (ap (read_all g) (sym cut ∙ sym (cut-filled (part sheet at to) (omega (arith, length_part sheet at to (omega arith) inside)))) ∙ all)) rest
    go false h =
        let e : end ≡ to = omega (arith, ltb-false end to h) in
        let none : ws ≡ [] = none_left g sheet (end + 1) to ws (omega arith) rest in
        ap (λ (n : ℕ). read_all g (words_of (part sheet at n))) e ∙ all ∙ ap (λ (l : List Word). some (us ++ l)) none ∙ ap some (append-nil us)
