-- Bytes cut into words at their spaces: the words with spaces between are the bytes again, and known words have their text.
use Prim.Native.Nat.{ℕ, ◌+◌, ◌-◌, ◌≤◌, ◌<◌}
use mathlib.Core.Path.{◌≡◌, refl, sym, ap, ◌∙◌}
use mathlib.Core.Bool.{Bool, true, false, cond, ◌&&◌}
use mathlib.Core.Option.{Option, none, some, some-injective}
use mathlib.Core.List.{List, [], ◌∷◌, ◌++◌, map}
use native.Mathlib.Omega.{arith}
use lib.Dec.{eqb, ltb, leb}
use lib.ListN.{length}
use Rattle.theory.specs.Lists.{concat_map}
use Rattle.theory.specs.Bytes.{space}
use Rattle.theory.specs.Lines.{add_byte, cut_words, words_of}
use Rattle.theory.specs.Syntax.{Signature}
use Rattle.theory.specs.Grammar.{Word, sign, equals, symbol, letter}
use Rattle.theory.specs.Problem.{place_of_name, name_word, word_of, read_all}
use Rattle.theory.specs.SheetText.{word_text, words_text}
use Rattle.theory.proofs.Tests.{eqb-true, leb-true, and_left}
use Rattle.theory.proofs.Names.{named-place}
use Rattle.theory.proofs.Misplaced.{word_onto, read_all-cons}

-- there is a first word
first-cut : (v : List ℕ) → (w : List ℕ) × ((ws : List (List ℕ)) × (cut_words v ≡ w ∷ ws))
first-cut [] = ([], ([], refl))
first-cut (b ∷ v) = go (eqb b space) (cut_words v)
  where
    go : (q : Bool) (r : List (List ℕ)) → (w : List ℕ) × ((ws : List (List ℕ)) × (cond q ([] ∷ r) (add_byte b r) ≡ w ∷ ws))
    go true r = ([], (r, refl))
    go false [] = (b ∷ [], ([], refl))
    go false (w ∷ ws) = (b ∷ w, (ws, refl))

-- the words with one space between are the bytes
pub text-cut : (v : List ℕ) → words_text (cut_words v) ≡ v
text-cut [] = refl
text-cut (b ∷ v) = let f = first-cut v in go (eqb b space) refl (cut_words v) f.0 f.1.0 f.1.1 (text-cut v)
  where
    go : (q : Bool) → eqb b space ≡ q → (r : List (List ℕ)) (w : List ℕ) (ws : List (List ℕ)) → r ≡ w ∷ ws → words_text r ≡ v → words_text (cond q ([] ∷ r) (add_byte b r)) ≡ b ∷ v
    go true e r w ws k ih =
        ap (λ (r : List (List ℕ)). words_text ([] ∷ r)) k
        ∙ ap (λ (r : List ℕ). space ∷ r) (sym (ap words_text k) ∙ ih)
        ∙ ap (λ (a : ℕ). a ∷ v) (sym (eqb-true b space e))
    go false e r w ws k ih = ap (λ (r : List (List ℕ)). words_text (add_byte b r)) k ∙ ap (λ (r : List ℕ). b ∷ r) (sym (ap words_text k) ∙ ih)

-- a word in front of them
pub text-more : (w v : List ℕ) → words_text (w ∷ cut_words v) ≡ w ++ (space ∷ v)
text-more w v = let f = first-cut v in ap (λ (l : List ℕ). w ++ l) (ap (concat_map (λ (v : List ℕ). space ∷ v)) f.1.1 ∙ ap (λ (l : List ℕ). space ∷ l) (sym (ap words_text f.1.1) ∙ text-cut v))

-- a space between parts the words
pub cut-append : (v w : List ℕ) → cut_words (v ++ (space ∷ w)) ≡ cut_words v ++ cut_words w
cut-append [] w = refl
cut-append (b ∷ v) w = let f = first-cut v in go (eqb b space) (cut_words (v ++ (space ∷ w))) (cut_words v) f.0 f.1.0 f.1.1 (cut-append v w)
  where
    go : (q : Bool) (r s : List (List ℕ)) (x : List ℕ) (xs : List (List ℕ)) → s ≡ x ∷ xs → r ≡ s ++ cut_words w → cond q ([] ∷ r) (add_byte b r) ≡ cond q ([] ∷ s) (add_byte b s) ++ cut_words w
    go true r s x xs k h = ap (λ (r : List (List ℕ)). [] ∷ r) h
    go false r s x xs k h = ap (add_byte b) (h ∙ ap (λ (s : List (List ℕ)). s ++ cut_words w) k) ∙ ap (λ (s : List (List ℕ)). add_byte b s ++ cut_words w) (sym k)

pub cut-filled : (v : List ℕ) → 0 < length v → words_of v ≡ cut_words v
cut-filled [] h = absurd (omega arith)
cut-filled (b ∷ v) h = refl

module _ (g : Signature) where
  -- a known word is written as its text
  pub known-text : (w : List ℕ) (x : Word) → word_of g w ≡ some x → w ≡ word_text g x
  unfolding word_of
  known-text [] x e = let z : ◌≡◌ {A = ℕ} 0 1 = cc in absurd (omega arith)
  known-text (b ∷ c ∷ w) x e = named (b ∷ c ∷ w) (place_of_name (b ∷ c ∷ w) g) refl x e
    where
      named : (w : List ℕ) (o : Option ℕ) → place_of_name w g ≡ o → (x : Word) → name_word o ≡ some x → w ≡ word_text g x
      named w none h x e = let z : ◌≡◌ {A = ℕ} 0 1 = cc in absurd (omega arith)
      named w (some i) h x e = (named-place g w i h).1 ∙ ap (word_text g) (some-injective (symbol i) x e)
  known-text (b ∷ []) x e = plus (eqb b 43) refl e
    where
      named : (o : Option ℕ) → place_of_name (b ∷ []) g ≡ o → name_word o ≡ some x → b ∷ [] ≡ word_text g x
      named none h e = let z : ◌≡◌ {A = ℕ} 0 1 = cc in absurd (omega arith)
      named (some i) h e = (named-place g (b ∷ []) i h).1 ∙ ap (word_text g) (some-injective (symbol i) x e)

      fourth : (q : Bool) → (leb 65 b && ltb b 73) ≡ q → cond q (some (letter (b - 65))) (name_word (place_of_name (b ∷ []) g)) ≡ some x → b ∷ [] ≡ word_text g x
      fourth true h e =
          let l : 65 ≤ b = leb-true 65 b (and_left (leb 65 b) (ltb b 73) h) in
          let s : b ≡ 65 + (b - 65) = omega arith in
          ap (λ (b : ℕ). b ∷ []) s ∙ ap (word_text g) (some-injective (letter (b - 65)) x e)
      fourth false h e = named (place_of_name (b ∷ []) g) refl e

      third : (q : Bool) → eqb b 61 ≡ q → cond q (some equals) (cond (leb 65 b && ltb b 73) (some (letter (b - 65))) (name_word (place_of_name (b ∷ []) g))) ≡ some x → b ∷ [] ≡ word_text g x
      third true h e = ap (λ (b : ℕ). b ∷ []) (eqb-true b 61 h) ∙ ap (word_text g) (some-injective equals x e)
      third false h e = fourth (leb 65 b && ltb b 73) refl e

      second : (q : Bool) → eqb b 45 ≡ q → cond q (some (sign false)) (cond (eqb b 61) (some equals) (cond (leb 65 b && ltb b 73) (some (letter (b - 65))) (name_word (place_of_name (b ∷ []) g)))) ≡ some x → b ∷ [] ≡ word_text g x
      second true h e = ap (λ (b : ℕ). b ∷ []) (eqb-true b 45 h) ∙ ap (word_text g) (some-injective (sign false) x e)
      second false h e = third (eqb b 61) refl e

      plus : (q : Bool) → eqb b 43 ≡ q
          → cond q (some (sign true)) (cond (eqb b 45) (some (sign false)) (cond (eqb b 61) (some equals) (cond (leb 65 b && ltb b 73) (some (letter (b - 65))) (name_word (place_of_name (b ∷ []) g))))) ≡ some x
          → b ∷ [] ≡ word_text g x
      plus true h e = ap (λ (b : ℕ). b ∷ []) (eqb-true b 43 h) ∙ ap (word_text g) (some-injective (sign true) x e)
      plus false h e = second (eqb b 45) refl e

  -- the first of known words, and the others
  pub record FirstKnown (w : List ℕ) (ws : List (List ℕ)) (us : List Word) : Type 0 where
    pub first : Word
    pub others : List Word
    pub word : word_of g w ≡ some first
    pub rest : read_all g ws ≡ some others
    pub all : us ≡ first ∷ others

  pub first-known : (w : List ℕ) (ws : List (List ℕ)) (us : List Word) → read_all g (w ∷ ws) ≡ some us → FirstKnown w ws us
  first-known w ws us e = go (word_of g w) refl (read_all g ws) refl (sym (read_all-cons g w ws) ∙ e)
    where
      go : (o : Option Word) → word_of g w ≡ o → (m : Option (List Word)) → read_all g ws ≡ m → word_onto o m ≡ some us → FirstKnown w ws us
      go none h m k z = let q : ◌≡◌ {A = ℕ} 0 1 = cc in absurd (omega arith)
      go (some x) h none k z = let q : ◌≡◌ {A = ℕ} 0 1 = cc in absurd (omega arith)
      go (some x) h (some xs) k z = record { first = x; others = xs; word = h; rest = k; all = sym (some-injective (x ∷ xs) us z) }

  -- pieces that are known words are the words of the bytes
  pub known-cut : (v : List ℕ) (us : List Word) → read_all g (cut_words v) ≡ some us → read_all g (words_of v) ≡ some us
  unfolding word_of
  known-cut [] us e = nothing (first-known [] [] us e)
    where
      nothing : FirstKnown [] [] us → read_all g [] ≡ some us
      nothing f = let h = f.word in let z : ◌≡◌ {A = ℕ} 0 1 = cc in absurd (omega arith)
  known-cut (b ∷ v) us e = e

  -- known words in two runs
  pub known-split : (vs ws : List (List ℕ)) (us : List Word) → read_all g (vs ++ ws) ≡ some us → (a : List Word) × ((b : List Word) × ((read_all g vs ≡ some a) × ((read_all g ws ≡ some b) × (us ≡ a ++ b))))
  known-split [] ws us e = ([], (us, (refl, (e, refl))))
  known-split (v ∷ vs) ws us e =
      let f = first-known v (vs ++ ws) us e in
      let r = known-split vs ws f.others f.rest in (
        f.first ∷ r.0,
        (
          r.1.0,
          (
            read_all-cons g v vs ∙ ap (λ (o : Option Word). word_onto o (read_all g vs)) f.word ∙ ap (word_onto (some f.first)) r.1.1.0,
            (r.1.1.1.0, f.all ∙ ap (λ (l : List Word). f.first ∷ l) r.1.1.1.1),
          ),
        ),
      )

  -- known words are their texts
  pub known-texts : (ws : List (List ℕ)) (us : List Word) → read_all g ws ≡ some us → ws ≡ map (word_text g) us
  known-texts [] us e = ap (map (word_text g)) (some-injective [] us e)
  known-texts (w ∷ ws) us e =
      let f = first-known w ws us e in
      let p : w ≡ word_text g f.first = known-text w f.first f.word in
      let q : ws ≡ map (word_text g) f.others = known-texts ws f.others f.rest in
      let r : w ∷ ws ≡ word_text g f.first ∷ map (word_text g) f.others = cc in
      r ∙ ap (map (word_text g)) (sym f.all)

  -- bytes of known words are the text of these words
  pub bytes-known : (v : List ℕ) (us : List Word) → read_all g (words_of v) ≡ some us → v ≡ words_text (map (word_text g) us)
  bytes-known [] us e = ap (λ (us : List Word). words_text (map (word_text g) us)) (some-injective [] us e)
  bytes-known (b ∷ v) us e = sym (text-cut (b ∷ v)) ∙ ap words_text (known-texts (cut_words (b ∷ v)) us e)
