-- A clause's line, one word more at a time.
use Prim.Native.Nat.{ℕ, suc, ◌+◌, ◌*◌, ◌≤◌, ◌<◌}
use mathlib.Core.Path.{◌≡◌, refl, sym, ap, ◌∙◌}
use mathlib.Core.List.{List, [], ◌∷◌, ◌++◌, append_assoc, append-nil, map, map-append}
use native.Mathlib.Numerals.{add-one}
use native.Mathlib.Omega.{arith}
use lib.ListN.{length, get_or, set, take, drop, length-append, length-map, take-append-drop}
use lib.Seq.{take-suc, take_all, length-take-le}
use Rattle.theory.specs.Lists.{concat_map}
use Rattle.theory.specs.Bytes.{bytes, LF, space}
use Rattle.theory.specs.Syntax as theory
use Rattle.theory.specs.Grammar.{Word, equals}
use Rattle.theory.specs.SheetText.{line, word_text, words_text}
use Rattle.theory.proofs.Lists.{concat_map-append}
use Rattle.syntax.specs.declared.signature.Signature.{Signature}
use Rattle.syntax.specs.declared.words.ClauseWords.{ClauseWords}
use Rattle.syntax.specs.Signatures.{signature_in}
use Rattle.syntax.specs.Codes.{code_word, words_in}
use Rattle.syntax.proofs.Codes.{length-words_in, words_in-at, known_at}
use Rattle.text.specs.Put.{put, put-run, cursor-run}
use Rattle.sheet_text.specs.Parts.{Writable, WritableWord, clause_line, spaced}
use Rattle.sheet_text.proofs.LinesWritten.{same_text, line-length, line-written}

-- a space before each
abbrev after_space : List ℕ → List ℕ
after_space v = space ∷ v

words-joined : (xs ys : List (List ℕ)) → length (words_text xs) ≤ length (words_text (xs ++ ys))
words-joined [] ys = omega arith
words-joined (x ∷ xs) ys =
    omega (
      arith,
      length-append x (concat_map after_space xs),
      length-append x (concat_map after_space (xs ++ ys)),
      ap length (concat_map-append after_space xs ys),
      length-append (concat_map after_space xs) (concat_map after_space ys),
    )

-- one word more
words_more : (ws : List (List ℕ)) (w : List ℕ) → words_text (ws ++ (w ∷ [])) ≡ words_text ws ++ spaced (length ws) w
words_more [] w = append-nil w
words_more (v ∷ ws) w =
    ap (λ (l : List ℕ). v ++ l) (concat_map-append after_space ws (w ∷ []) ∙ ap (λ (l : List ℕ). concat_map after_space ws ++ l) (append-nil (space ∷ w)))
    ∙ sym (append_assoc v (concat_map after_space ws) (space ∷ w))

-- the text of the words before i
abbrev pub words_before : theory.Signature → ClauseWords → ℕ → List ℕ
words_before g w i = words_text (map (word_text g) (take i (words_in w)))

-- the word at i as it stands after them
abbrev pub word_at : theory.Signature → ClauseWords → ℕ → List ℕ
word_at g w i = spaced i (word_text g (code_word (get_or w.words i 0)))

module _ (g : theory.Signature) (w : ClauseWords) (held : w.count ≤ length w.words) where
  pub before_more : (i : ℕ) → i < w.count → words_before g w (suc i) ≡ words_before g w i ++ word_at g w i
  before_more i h =
      let long = length-words_in w held in
      let few : length (map (word_text g) (take i (words_in w))) ≡ i = length-map (take i (words_in w)) (word_text g) ∙ length-take-le i (words_in w) (omega (arith, long)) in
      ap (λ (ws : List Word). words_text (map (word_text g) ws)) (take-suc (words_in w) i equals (omega (arith, long)))
      ∙ ap words_text (map-append (word_text g) (take i (words_in w)) (get_or (words_in w) i equals ∷ []))
      ∙ words_more (map (word_text g) (take i (words_in w))) (word_text g (get_or (words_in w) i equals))
      ∙ ap (λ (n : ℕ). words_before g w i ++ spaced n (word_text g (get_or (words_in w) i equals))) few
      ∙ ap (λ (v : Word). words_before g w i ++ spaced i (word_text g v)) (words_in-at w held i equals h)

  -- they are all
  pub before-all : (i : ℕ) → w.count ≤ i → line (bytes "clause=") (words_before g w i) ≡ clause_line g (words_in w)
  unfolding clause_line
  before-all i h = ap (λ (ws : List Word). line (bytes "clause=") (words_text (map (word_text g) ws))) (take_all i (words_in w) (omega (arith, length-words_in w held)))

  -- they are within the line
  pub before-within : (i : ℕ) → 8 + length (words_before g w i) ≤ length (clause_line g (words_in w))
  unfolding clause_line
  before-within i =
      omega (
        arith,
        line-length (bytes "clause=") (words_text (map (word_text g) (words_in w))),
        words-joined (map (word_text g) (take i (words_in w))) (map (word_text g) (drop i (words_in w))),
        ap (λ (ws : List (List ℕ)). length (words_text ws)) (sym (map-append (word_text g) (take i (words_in w)) (drop i (words_in w)))),
        ap (λ (ws : List Word). length (words_text (map (word_text g) ws))) (take-append-drop i (words_in w)),
      )

  before-more-length : (i : ℕ) → i < w.count → length (words_before g w (suc i)) ≡ length (words_before g w i) + length (word_at g w i)
  before-more-length i h = ap length (before_more i h) ∙ length-append (words_before g w i) (word_at g w i)

  -- and so with the next one
  pub before-fits : (i : ℕ) → i < w.count → 8 + length (words_before g w i) + length (word_at g w i) ≤ length (clause_line g (words_in w))
  before-fits i h = omega (arith, before-within (suc i), before-more-length i h)

  -- the word at i is written after those before it
  pub one-more-written : (l l' l'' : List ℕ) (a e e' i : ℕ) → i < w.count → e + length (word_at g w i) ≤ length l → l' ≡ put l a (words_before g w i) → e ≡ a + length (words_before g w i)
      → l'' ≡ put l' e (word_at g w i) → e' ≡ e + length (word_at g w i) → (l'' ≡ put l a (words_before g w (i + 1))) × (e' ≡ a + length (words_before g w (i + 1)))
  one-more-written l l' l'' a e e' i h room p n q m =
      let more = before_more i h in
      (rw (add-one, more) (put-run l l' l'' a e (words_before g w i) (word_at g w i) p n q room), rw (add-one, more) (cursor-run a e e' (words_before g w i) (word_at g w i) n m))

  -- all words are written after the key, and LF after them
  pub all-written : (l l' l'' : List ℕ) (at a b i : ℕ) → w.count ≤ i → at + length (clause_line g (words_in w)) ≤ length l → l' ≡ put l at (bytes "clause=") → a ≡ at + 7
      → l'' ≡ put l' a (words_before g w i) → b ≡ a + length (words_before g w i) → (set l'' b LF ≡ put l at (clause_line g (words_in w))) × (b + 1 ≡ at + length (clause_line g (words_in w)))
  all-written l l' l'' at a b i h room p n q m =
      let e = before-all i h in
      let r = line-written l l' l'' at a b (bytes "clause=") (words_before g w i) p n q m (omega (arith, ap length e)) in
      same_text l (set l'' b LF) at (b + 1) (line (bytes "clause=") (words_before g w i)) (clause_line g (words_in w)) e r.0 r.1

-- n is the length of the line with the words before i
pub record WordsMeasured (s : Signature) (w : ClauseWords) (i n : ℕ) : Type 0 where
  pub within : n ≤ 8 + 13 * i
  pub measured : (text : List ℕ) → Writable text s w → n ≡ length (line (bytes "clause=") (words_before (signature_in text s) w i))

pub no_words : (s : Signature) (w : ClauseWords) → WordsMeasured s w 0 8
no_words s w = record { within = omega arith; measured = λ text h. refl }

module _ (s : Signature) (w : ClauseWords) (held : w.count ≤ length w.words) where
  pub writable-at : (text : List ℕ) → Writable text s w → (i : ℕ) → i < w.count → WritableWord text s (get_or w.words i 0)
  writable-at text h i l = record { readable = h.readable; known = known_at w held (signature_in text s) i h.known l }

  pub one_word : (i n m : ℕ) → i < w.count → m ≤ 13 → ((text : List ℕ) → WritableWord text s (get_or w.words i 0) → m ≡ length (word_at (signature_in text s) w i)) → WordsMeasured s w i n
      → WordsMeasured s w (i + 1) (n + m)
  one_word i n m l short e h =
      record {
        within = omega (arith, h.within);
        measured = λ text r.
            let g : theory.Signature = signature_in text s in
            let z : i + 1 ≡ suc i = omega arith in
            omega (
              arith,
              h.measured text r,
              e text (writable-at text r i l),
              line-length (bytes "clause=") (words_before g w i),
              line-length (bytes "clause=") (words_before g w (suc i)),
              before-more-length g w held i l,
              ap (λ (j : ℕ). length (line (bytes "clause=") (words_before g w j))) z,
            );
      }

  pub all_words : (i n : ℕ) → i ≡ w.count → WordsMeasured s w i n → (text : List ℕ) → Writable text s w → n ≡ length (clause_line (signature_in text s) (words_in w))
  all_words i n e h text r = h.measured text r ∙ ap length (before-all (signature_in text s) w held i (omega arith))
