-- Putting a letter for another in words and in codes.
use Prim.Native.Nat.{ℕ, ◌+◌}
use mathlib.Core.Path.{◌≡◌, refl, sym, ap, ◌∙◌}
use mathlib.Core.Logic.{◌≢◌}
use mathlib.Core.Bool.{Bool, true, false, cond}
use mathlib.Core.List.{List, [], ◌∷◌, ◌++◌, map, map-append}
use lib.Dec.{eqb, ltb}
use Rattle.theory.specs.Lists.{all}
use Rattle.theory.specs.Syntax.{Signature, Term, variable, apply, Terms, empty, cons, Atom, equal, holds, Clause}
use Rattle.theory.specs.Grammar.{Word, sign, equals, symbol, letter, term_words, terms_words, atom_words, clause_words}
use Rattle.theory.specs.Flattening.{rename, rename_term, rename_terms, rename_atom, rename_literal}
use Rattle.theory.proofs.Tests.{eqb-true, eqb_same, eqb-ne, eqb-false, and_left, and_right, and-join}
use Rattle.syntax.specs.Codes.{letter_code, code_of, code_word, is_known}
use Rattle.syntax.proofs.Codes.{code_of-word_of}
use Rattle.merging.specs.Merged.{renamed_code}

-- put the letter x for y
abbrev pub rename_word : ℕ → ℕ → Word → Word
rename_word x y (sign b) = sign b
rename_word x y equals = equals
rename_word x y (symbol i) = symbol i
rename_word x y (letter z) = letter (rename x y z)

module _ (x y : ℕ) where
  abbrev rename_words : List Word → List Word
  rename_words ws = map (rename_word x y) ws

  mutual
    term-renamed : (t : Term) → rename_words (term_words t) ≡ term_words (rename_term x y t)
    term-renamed (variable z) = refl
    term-renamed (apply f ts) = ap (λ (ws : List Word). symbol f ∷ ws) (terms-renamed ts)

    terms-renamed : (ts : Terms) → rename_words (terms_words ts) ≡ terms_words (rename_terms x y ts)
    terms-renamed empty = refl
    terms-renamed (cons t ts) =
        map-append (rename_word x y) (term_words t) (terms_words ts)
        ∙ ap (λ (ws : List Word). ws ++ rename_words (terms_words ts)) (term-renamed t)
        ∙ ap (λ (ws : List Word). term_words (rename_term x y t) ++ ws) (terms-renamed ts)

  atom-renamed : (a : Atom) → rename_words (atom_words a) ≡ atom_words (rename_atom x y a)
  atom-renamed (equal t u) =
      ap (λ (ws : List Word). equals ∷ ws)
      (map-append (rename_word x y) (term_words t) (term_words u)
      ∙ ap (λ (ws : List Word). ws ++ rename_words (term_words u)) (term-renamed t)
      ∙ ap (λ (ws : List Word). term_words (rename_term x y t) ++ ws) (term-renamed u))
  atom-renamed (holds p ts) = ap (λ (ws : List Word). symbol p ∷ ws) (terms-renamed ts)

  -- in the words of a clause it is put for the variable
  pub clause-renamed : (c : Clause) → rename_words (clause_words c) ≡ clause_words (map (rename_literal x y) c)
  clause-renamed [] = refl
  clause-renamed (l ∷ c) =
      ap (λ (ws : List Word). sign l.sign ∷ ws)
      (map-append (rename_word x y) (atom_words l.atom) (clause_words c)
      ∙ ap (λ (ws : List Word). ws ++ rename_words (clause_words c)) (atom-renamed l.atom)
      ∙ ap (λ (ws : List Word). atom_words (rename_atom x y l.atom) ++ ws) (clause-renamed c))

  -- known words stay known
  pub known-renamed : (g : Signature) → ltb x 8 ≡ true → (ws : List Word) → all (is_known g) ws ≡ true → all (is_known g) (rename_words ws) ≡ true
  known-renamed g h [] k = refl
  known-renamed g h (w ∷ ws) k =
      and-join (is_known g (rename_word x y w)) (all (is_known g) (rename_words ws)) (one w (and_left (is_known g w) (all (is_known g) ws) k))
      (known-renamed g h ws (and_right (is_known g w) (all (is_known g) ws) k))
    where
      go : (z : ℕ) (b : Bool) → ltb z 8 ≡ true → ltb (cond b x z) 8 ≡ true
      go z true l = h
      go z false l = l

      one : (w : Word) → is_known g w ≡ true → is_known g (rename_word x y w) ≡ true
      one (sign b) l = refl
      one equals l = refl
      one (symbol i) l = l
      one (letter z) l = go z (eqb z y) l

-- the same in codes of letters
module _ (a b x y : ℕ) (ea : code_word a ≡ letter x) (eb : code_word b ≡ letter y) where
  code-renamed : (n : ℕ) → code_word (renamed_code a b n) ≡ rename_word x y (code_word n)
  code-renamed n = go (eqb n b) refl
    where
      other : n ≢ b → (w : Word) → code_of w ≡ n → w ≡ rename_word x y w
      other d (sign s) e = refl
      other d equals e = refl
      other d (symbol i) e = refl
      other d (letter z) e =
          let k : letter_code + y ≡ b = ap code_of (sym eb) ∙ code_of-word_of b in
          ap (λ (t : Bool). letter (cond t x z)) (sym (eqb-false z y (λ q. d (sym e ∙ ap (λ (m : ℕ). letter_code + m) q ∙ k))))

      go : (t : Bool) → eqb n b ≡ t → code_word (cond t a n) ≡ rename_word x y (code_word n)
      go true e = ea ∙ sym (ap (λ (m : ℕ). rename_word x y (code_word m)) (eqb-true n b e) ∙ ap (rename_word x y) eb ∙ ap (λ (t : Bool). letter (cond t x y)) (eqb_same y))
      go false e = other (eqb-ne n b e) (code_word n) (code_of-word_of n)

  pub codes-renamed : (ns : List ℕ) → map code_word (map (renamed_code a b) ns) ≡ map (rename_word x y) (map code_word ns)
  codes-renamed [] = refl
  codes-renamed (n ∷ ns) =
      let p : code_word (renamed_code a b n) ≡ rename_word x y (code_word n) = code-renamed n in
      let q : map code_word (map (renamed_code a b) ns) ≡ map (rename_word x y) (map code_word ns) = codes-renamed ns in
      ap (λ (w : Word). w ∷ map code_word (map (renamed_code a b) ns)) p ∙ ap (λ (ws : List Word). rename_word x y (code_word n) ∷ ws) q
