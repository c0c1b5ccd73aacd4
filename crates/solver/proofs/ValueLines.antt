-- v lines and their numbers: words that are laid out as a solver's values are read as these words and numbers, and no other lines are.
use Prim.Native.Nat.{ℕ}
use mathlib.Core.Path.{◌≡◌, refl, sym, ap, ap₂, ◌∙◌}
use mathlib.Core.Bool.{Bool, true, false, cond, not, false≢true}
use mathlib.Core.Option.{some, some-injective}
use mathlib.Core.List.{List, [], ◌∷◌, ◌++◌, map}
use lib.Dec.{eqb, leb}
use Rattle.theory.specs.Lists.{all, concat_map, same, prefix}
use Rattle.theory.specs.Bytes.{bytes, space}
use Rattle.theory.specs.Lines.{after_key, add_byte, cut_words}
use Rattle.theory.specs.Propositional.{PropLiteral}
use Rattle.theory.specs.Dimacs.{literal_text}
use Rattle.theory.specs.Program.{◌>>?◌}
use Rattle.theory.proofs.Tests.{eqb-true, leb-true, leb-of-≤, and_left, and_right, and-join}
use Rattle.theory.proofs.Lists.{same_true}
use Rattle.theory.proofs.Lines.{key-only}
use Rattle.theory.proofs.SheetWords.{is_piece, words-cut}
use Rattle.solver.specs.SolverLines.{read_literal, end_word, read_numbers, value_words, is_empty}
use Rattle.solver.specs.Claims.Stating.{value_line}
use Rattle.solver.proofs.Options.{none≢some, read-on, was_read, cond-some, prefix-some}
use Rattle.solver.proofs.Decimals.{read-literal, only-literal}

-- the words of a v line: at least one
abbrev pub is_group : List (List ℕ) → Bool
is_group ws = not (is_empty ws)

-- words after the first, each after one space
abbrev following : List (List ℕ) → List ℕ
following ws = concat_map (λ w. space ∷ w) ws

-- every text is words with one space between
pub words-of : (r : List ℕ) → (w : List ℕ) × (ws : List (List ℕ)) × (cut_words r ≡ w ∷ ws) × (w ++ following ws ≡ r)
words-of [] = ([], [], refl, refl)
words-of (b ∷ bs) = go (eqb b space) refl (words-of bs)
  where
    go : (q : Bool) → eqb b space ≡ q → (w : List ℕ) × (ws : List (List ℕ)) × (cut_words bs ≡ w ∷ ws) × (w ++ following ws ≡ bs)
        → (w : List ℕ) × (ws : List (List ℕ)) × (cond q ([] ∷ cut_words bs) (add_byte b (cut_words bs)) ≡ w ∷ ws) × (w ++ following ws ≡ b ∷ bs)
    go true h r = ([], cut_words bs, refl, ap following r.2 ∙ ap₂ (λ (c : ℕ) (l : List ℕ). c ∷ l) (sym (eqb-true b space h)) r.3)
    go false h r = (b ∷ r.0, r.1, ap (add_byte b) r.2, ap (λ (l : List ℕ). b ∷ l) r.3)

-- v lines are read as their words
pub read-values : (groups : List (List (List ℕ))) → all is_group groups ≡ true → all (all is_piece) groups ≡ true
    → value_words (map value_line groups) ≡ some (concat_map (λ ws. ws) groups)
read-values [] n h = refl
read-values ([] ∷ groups) n h = absurd (false≢true n)
read-values (([] ∷ ws) ∷ groups) n h = absurd (false≢true h)
read-values (((b ∷ w) ∷ ws) ∷ groups) n h =
    let r : List ℕ = b ∷ (w ++ following ws) in
    let cut : cut_words r ≡ (b ∷ w) ∷ ws = words-cut ((b ∷ w) ∷ ws) (and_left (all is_piece ((b ∷ w) ∷ ws)) (all (all is_piece) groups) h) in
    let rest : List (List ℕ) = concat_map (λ ws. ws) groups in
    read-on (some r) (λ r. value_words (map value_line groups) >>? λ vs. some (cut_words r ++ vs)) r refl
    ∙ read-on (value_words (map value_line groups)) (λ vs. some (cut_words r ++ vs)) rest
    (read-values groups n (and_right (all is_piece ((b ∷ w) ∷ ws)) (all (all is_piece) groups) h))
    ∙ ap (λ (l : List (List ℕ)). some (l ++ rest)) cut

-- and no other lines are
pub only-values : (ls : List (List ℕ)) (ws : List (List ℕ)) → value_words ls ≡ some ws
    → (groups : List (List (List ℕ))) × (all is_group groups ≡ true) × (map value_line groups ≡ ls) × (concat_map (λ ws. ws) groups ≡ ws)
only-values [] ws e = ([], refl, refl, some-injective [] ws e)
only-values (l ∷ ls) ws e =
    let a = was_read (after_key (bytes "v ") l) (λ r. value_words ls >>? λ vs. some (cut_words r ++ vs)) ws e in
    let r : List ℕ = a.0 in
    let b = was_read (value_words ls) (λ vs. some (cut_words r ++ vs)) ws a.2 in
    let ih = only-values ls b.0 b.1 in
    let c = words-of r in
    let z : cut_words r ++ b.0 ≡ ws = some-injective (cut_words r ++ b.0) ws b.2 in (
      (c.0 ∷ c.1) ∷ ih.0,
      ih.1,
      ap₂ (λ (k : List ℕ) (ks : List (List ℕ)). k ∷ ks) (ap (λ (t : List ℕ). bytes "v " ++ t) c.3 ∙ key-only (bytes "v ") l r a.1) ih.2,
      ap (λ (t : List (List ℕ)). (c.0 ∷ c.1) ++ t) ih.3 ∙ ap (λ (t : List (List ℕ)). t ++ b.0) (sym c.2) ∙ z,
    )

-- the literal's number is at least 1
abbrev pub is_positive : PropLiteral → Bool
is_positive l = leb 1 l.number

-- numbers and a last 0 are read as these numbers
pub read-numbers : (ls : List PropLiteral) → all is_positive ls ≡ true → read_numbers (map literal_text ls ++ (end_word ∷ [])) ≡ some ls
read-numbers [] h = refl
read-numbers (l ∷ []) h = read-on (read_literal (literal_text l)) (λ l. prefix l (some [])) l (read-literal l (leb-true 1 l.number (and_left (is_positive l) true h)))
read-numbers (l ∷ m ∷ ls) h =
    read-on (read_literal (literal_text l)) (λ l. prefix l (read_numbers (map literal_text (m ∷ ls) ++ (end_word ∷ [])))) l
    (read-literal l (leb-true 1 l.number (and_left (is_positive l) (all is_positive (m ∷ ls)) h)))
    ∙ ap (prefix l) (read-numbers (m ∷ ls) (and_right (is_positive l) (all is_positive (m ∷ ls)) h))

-- and no other words are
pub only-numbers : (ws : List (List ℕ)) (ls : List PropLiteral) → read_numbers ws ≡ some ls → (map literal_text ls ++ (end_word ∷ []) ≡ ws) × (all is_positive ls ≡ true)
only-numbers [] ls e = absurd (none≢some ls e)
only-numbers (w ∷ []) ls e =
    let c = cond-some (same w end_word) (some []) ls e in
    let z : [] ≡ ls = some-injective [] ls c.1 in
    (ap (λ (ls : List PropLiteral). map literal_text ls ++ (end_word ∷ [])) (sym z) ∙ ap (λ (w : List ℕ). w ∷ []) (sym (same_true w end_word c.0)), ap (all is_positive) (sym z))
only-numbers (w ∷ x ∷ ws) ls e =
    let a = was_read (read_literal w) (λ l. prefix l (read_numbers (x ∷ ws))) ls e in
    let b = prefix-some a.0 (read_numbers (x ∷ ws)) ls a.2 in
    let ih = only-numbers (x ∷ ws) b.0 b.1 in
    let o = only-literal w a.0 a.1 in
    let z : a.0 ∷ b.0 ≡ ls = b.2 in (
      ap (λ (ls : List PropLiteral). map literal_text ls ++ (end_word ∷ [])) (sym z) ∙ ap₂ (λ (w : List ℕ) (ws : List (List ℕ)). w ∷ ws) o.0 ih.0,
      ap (all is_positive) (sym z) ∙ and-join (is_positive a.0) (all is_positive b.0) (leb-of-≤ 1 a.0.number o.1) ih.1,
    )
