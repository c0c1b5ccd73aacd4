-- A word's text by its code: the name of the symbol at that place, or else the code's byte.
use Prim.Native.Nat.{ℕ, zero, suc, ◌+◌, ◌-◌, ◌≤◌, ◌<◌}
use mathlib.Core.Path.{◌≡◌, refl, sym, ap, ◌∙◌}
use mathlib.Core.Bool.{true, false}
use mathlib.Core.List.{List, [], ◌∷◌}
use native.Mathlib.Omega.{arith}
use lib.ListN.{length, get_or, set}
use Rattle.theory.specs.Bytes.{space}
use Rattle.theory.specs.Syntax as theory
use Rattle.theory.specs.Grammar.{Word, sign, equals, symbol, letter}
use Rattle.theory.specs.SheetText.{word_text}
use Rattle.theory.proofs.Tests.{ltb-true}
use Rattle.syntax.specs.declared.signature.Signature.{Signature}
use Rattle.syntax.specs.Signatures.{symbol_in, signature_in}
use Rattle.syntax.specs.Codes.{max_places, code_of, code_word, is_known}
use Rattle.syntax.proofs.Codes.{word_of-symbol, code_of-word_of}
use Rattle.clauses.proofs.Held.{blank, name-within, count-signature_in, symbol_at-signature_in}
use Rattle.text.specs.Put.{put, put-none, put-run, put-cursor}
use Rattle.sheet_text.specs.Parts.{WritableWord, spaced}
use Rattle.syntax.proofs.NamesLent.{name-length}

module _ (text : List ℕ) (s : Signature) (code : ℕ) (h : WritableWord text s code) where
  -- the code is a symbol's place
  pub name-word : code < s.count → word_text (signature_in text s) (code_word code) ≡ (symbol_in text (get_or s.symbols code blank)).name
  name-word l =
      ap (word_text (signature_in text s)) (word_of-symbol code (omega (arith, h.readable.limited.count)))
      ∙ ap (λ (f : theory.Symbol). f.name) (symbol_at-signature_in s h.readable.limited text code l)

  -- it is no symbol's place
  past-places : s.count ≤ code → (w : Word) → code_of w ≡ code → is_known (signature_in text s) w ≡ true → (max_places ≤ code) × (word_text (signature_in text s) w ≡ (code - max_places) ∷ [])
  past-places l (sign true) e k = (omega arith, ap (λ (n : ℕ). (n - max_places) ∷ []) e)
  past-places l (sign false) e k = (omega arith, ap (λ (n : ℕ). (n - max_places) ∷ []) e)
  past-places l equals e k = (omega arith, ap (λ (n : ℕ). (n - max_places) ∷ []) e)
  past-places l (symbol i) e k = absurd (omega (arith, ltb-true i (length (signature_in text s)) k, count-signature_in s h.readable.limited text))
  past-places l (letter x) e k = let b : 65 + x ≡ code - max_places = omega arith in (omega arith, ap (λ (n : ℕ). n ∷ []) b)

  pub byte-code : s.count ≤ code → max_places ≤ code
  byte-code l = (past-places l (code_word code) (code_of-word_of code) h.known).0

  pub byte_word : s.count ≤ code → word_text (signature_in text s) (code_word code) ≡ (code - max_places) ∷ []
  byte_word l = (past-places l (code_word code) (code_of-word_of code) h.known).1

  pub name-word-length : code < s.count → (get_or s.symbols code blank).length ≡ length (word_text (signature_in text s) (code_word code))
  name-word-length l = sym (ap length (name-word l) ∙ name-length text (get_or s.symbols code blank) (name-within text s h.readable code l))

  pub byte-word-length : s.count ≤ code → 1 ≡ length (word_text (signature_in text s) (code_word code))
  byte-word-length l = sym (ap length (byte_word l))

-- the text t is one byte
pub byte-written : (l : List ℕ) (at b : ℕ) (t : List ℕ) → t ≡ b ∷ [] → at + length t ≤ length l → (set l at b ≡ put l at t) × (at + 1 ≡ at + length t)
byte-written l at b t e room = (put-cursor l l at at [] t b (sym (put-none l at)) (omega arith) (omega (arith, ap length e)) (sym e), omega (arith, ap length e))

-- the first word stands as it is
pub spaced-first : (i : ℕ) (w : List ℕ) → i ≡ 0 → spaced i w ≡ w
spaced-first zero w e = refl
spaced-first (suc i) w e = absurd (omega arith)

-- any other after a space
pub spaced-other : (i : ℕ) (w : List ℕ) → (i ≡ 0 → ⊥) → spaced i w ≡ space ∷ w
spaced-other zero w n = absurd (n refl)
spaced-other (suc i) w n = refl

pub spaced-written : (l l' : List ℕ) (at e : ℕ) (t w : List ℕ) → t ≡ space ∷ w → at + length t ≤ length l → l' ≡ put (set l at space) (at + 1) w → e ≡ at + 1 + length w
    → (l' ≡ put l at t) × (e ≡ at + length t)
spaced-written l l' at e t w s room p n =
    let first = put-cursor l l at at [] (space ∷ []) space (sym (put-none l at)) (omega arith) (omega (arith, ap length s)) refl in
    (put-run l (set l at space) l' at (at + 1) (space ∷ []) w first (omega arith) p (omega (arith, ap length s)) ∙ ap (put l at) (sym s), omega (arith, ap length s))
