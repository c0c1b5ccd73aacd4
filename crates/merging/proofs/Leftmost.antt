-- In a clause's words `- = A B` begins just where a literal is a negative equality of two variables.
use Prim.Native.Nat.{ℕ, suc, ◌+◌, ◌≤◌}
use mathlib.Core.Path.{◌≡◌, refl, sym, ap, ◌∙◌, subst}
use mathlib.Core.Bool.{Bool, true, false, cond, not, ◌&&◌}
use mathlib.Core.Option.{Option, none, some, some-injective}
use mathlib.Core.List.{List, [], ◌∷◌, ◌++◌, append_assoc}
use native.Mathlib.Nat.{zero-add, suc-add, add_assoc}
use native.Mathlib.Omega.{arith}
use lib.ListN.{length, get_or, take, drop, length-append}
use lib.Seq.{take-append-add, drop-append-add, get_or-append-add}
use Rattle.theory.specs.Lists.{all}
use Rattle.theory.specs.Syntax.{Term, variable, apply, Terms, empty, cons, Atom, equal, holds, Literal, Clause}
use Rattle.theory.specs.Grammar.{Word, sign, equals, symbol, letter, term_words, terms_words, atom_words, clause_words}
use Rattle.theory.specs.Flattening.{Unequal, unequal_variables, leftmost_at, leftmost}
use Rattle.theory.proofs.Tests.{false_of_not, and_left, and_right, and-join}
use Rattle.theory.proofs.Lists.{all_append}
use Rattle.merging.specs.Unequal.{is_minus, is_equals, is_variable, starts_unequal, unequal_place}

-- words do not begin so where one of the first three is another
first-other : (s : Word) (ws : List Word) → is_minus s ≡ false → starts_unequal (s ∷ ws) ≡ false
first-other s [] h = refl
first-other s (e ∷ []) h = refl
first-other s (e ∷ (x ∷ [])) h = refl
first-other s (e ∷ (x ∷ (y ∷ ws))) h = ap (λ (b : Bool). b && (is_equals e && (is_variable x && is_variable y))) h

second-other : (i : ℕ) (ws : List Word) → starts_unequal (sign false ∷ (symbol i ∷ ws)) ≡ false
second-other i [] = refl
second-other i (x ∷ []) = refl
second-other i (x ∷ (y ∷ ws)) = refl

third-other : (i : ℕ) (ws : List Word) → starts_unequal (sign false ∷ (equals ∷ (symbol i ∷ ws))) ≡ false
third-other i [] = refl
third-other i (y ∷ ws) = refl

-- the words before the next sign are passed
abbrev not_minus : Word → Bool
not_minus w = not (is_minus w)

passed : (us ws : List Word) → all not_minus us ≡ true → unequal_place (us ++ ws) ≡ length us + unequal_place ws
unfolding unequal_place
passed [] ws h = sym (zero-add (unequal_place ws))
passed (u ∷ us) ws h =
    ap (λ (b : Bool). cond b 0 (suc (unequal_place (us ++ ws)))) (first-other u (us ++ ws) (false_of_not (is_minus u) (and_left (not_minus u) (all not_minus us) h)))
    ∙ ap suc (passed us ws (and_right (not_minus u) (all not_minus us) h))
    ∙ sym (suc-add (length us) (unequal_place ws))

mutual
  term-passes : (t : Term) → all not_minus (term_words t) ≡ true
  term-passes (variable x) = refl
  term-passes (apply f ts) = terms-pass ts

  terms-pass : (ts : Terms) → all not_minus (terms_words ts) ≡ true
  terms-pass empty = refl
  terms-pass (cons t ts) =
      all_append not_minus (term_words t) (terms_words ts) ∙ and-join (all not_minus (term_words t)) (all not_minus (terms_words ts)) (term-passes t) (terms-pass ts)

atom-passes : (a : Atom) → all not_minus (atom_words a) ≡ true
atom-passes (equal t u) =
    all_append not_minus (term_words t) (term_words u) ∙ and-join (all not_minus (term_words t)) (all not_minus (term_words u)) (term-passes t) (term-passes u)
atom-passes (holds p ts) = terms-pass ts

-- a literal that is no negative equality of variables
other-literal : (b : Bool) (a : Atom) (ws : List Word) → unequal_variables b a ≡ none → starts_unequal (sign b ∷ (atom_words a ++ ws)) ≡ false
other-literal true a ws e = first-other (sign true) (atom_words a ++ ws) refl
other-literal false (equal (variable x) (variable y)) ws e = let z : ◌≡◌ {A = ℕ} 0 1 = cc in absurd (omega arith)
other-literal false (equal (variable x) (apply f ts)) ws e = refl
other-literal false (equal (apply f ts) u) ws e = third-other f ((terms_words ts ++ term_words u) ++ ws)
other-literal false (holds p ts) ws e = second-other p (terms_words ts ++ ws)

literal-passed : (b : Bool) (a : Atom) (ws : List Word) → unequal_variables b a ≡ none
    → unequal_place ((sign b ∷ atom_words a) ++ ws) ≡ length (sign b ∷ atom_words a) + unequal_place ws
unfolding unequal_place
literal-passed b a ws e =
    ap (λ (t : Bool). cond t 0 (suc (unequal_place (atom_words a ++ ws)))) (other-literal b a ws e)
    ∙ ap suc (passed (atom_words a) ws (atom-passes a))
    ∙ sym (suc-add (length (atom_words a)) (unequal_place ws))

-- and one that is: its words
unequal-words : (b : Bool) (a : Atom) (p : ℕ × ℕ) → unequal_variables b a ≡ some p
    → sign b ∷ atom_words a ≡ sign false ∷ (equals ∷ (letter p.0 ∷ (letter p.1 ∷ [])))
unequal-words false (equal (variable x) (variable y)) p e =
    ap (λ (q : ℕ × ℕ). sign false ∷ (equals ∷ (letter q.0 ∷ (letter q.1 ∷ [])))) (some-injective {A = ℕ × ℕ} (x, y) p e)
unequal-words false (equal (variable x) (apply f ts)) p e = let z : ◌≡◌ {A = ℕ} 0 1 = cc in absurd (omega arith)
unequal-words false (equal (apply f ts) u) p e = let z : ◌≡◌ {A = ℕ} 0 1 = cc in absurd (omega arith)
unequal-words false (holds q ts) p e = let z : ◌≡◌ {A = ℕ} 0 1 = cc in absurd (omega arith)
unequal-words true a p e = let z : ◌≡◌ {A = ℕ} 0 1 = cc in absurd (omega arith)

-- with no such literal there is no such place
pub leftmost-none : (c : Clause) → leftmost c ≡ none → unequal_place (clause_words c) ≡ length (clause_words c)
unfolding unequal_place
leftmost-none [] e = refl
leftmost-none (l ∷ c) e = go (unequal_variables l.sign l.atom) refl (leftmost c) refl e (λ k. leftmost-none c k)
  where
    go : (o : Option (ℕ × ℕ)) → unequal_variables l.sign l.atom ≡ o → (m : Option Unequal) → leftmost c ≡ m → leftmost_at l c o m ≡ none
        → (leftmost c ≡ none → unequal_place (clause_words c) ≡ length (clause_words c)) → unequal_place (clause_words (l ∷ c)) ≡ length (clause_words (l ∷ c))
    go (some p) q m k z ih = let z : ◌≡◌ {A = ℕ} 0 1 = cc in absurd (omega arith)
    go none q (some r) k z ih = let z : ◌≡◌ {A = ℕ} 0 1 = cc in absurd (omega arith)
    go none q none k z ih =
        literal-passed l.sign l.atom (clause_words c) q
        ∙ ap (λ (n : ℕ). length (sign l.sign ∷ atom_words l.atom) + n) (ih k)
        ∙ sym (length-append (sign l.sign ∷ atom_words l.atom) (clause_words c))

-- with one the leftmost place is its own: there stand its variables, and the other words are those of the other literals
pub record Leftmost (ws : List Word) (r : Unequal) : Type 0 where
  pub at : ℕ
  pub place : unequal_place ws ≡ at
  pub within : at + 4 ≤ length ws
  pub first : get_or ws (at + 2) equals ≡ letter r.x
  pub second : get_or ws (at + 3) equals ≡ letter r.y
  pub rest : take at ws ++ drop (at + 4) ws ≡ clause_words r.rest

unequal-here : (x y : ℕ) (c : Clause) → Leftmost (sign false ∷ (equals ∷ (letter x ∷ (letter y ∷ clause_words c)))) (record { x = x; y = y; rest = c })
unfolding unequal_place
unequal-here x y c = record { at = 0; place = refl; within = omega arith; first = refl; second = refl; rest = refl }

unequal-there : (l : Literal) (ws : List Word) (r : Unequal) → unequal_variables l.sign l.atom ≡ none → Leftmost ws r
    → Leftmost ((sign l.sign ∷ atom_words l.atom) ++ ws) (record { x = r.x; y = r.y; rest = l ∷ r.rest })
unequal-there l ws r q h =
    let us : List Word = sign l.sign ∷ atom_words l.atom in
    let n : ℕ = length us in
    record {
      at = n + h.at;
      place = literal-passed l.sign l.atom ws q ∙ ap (λ (k : ℕ). n + k) h.place;
      within = omega (arith, length-append us ws, h.within);
      first = ap (λ (k : ℕ). get_or (us ++ ws) k equals) (add_assoc n h.at 2) ∙ get_or-append-add us ws (h.at + 2) equals ∙ h.first;
      second = ap (λ (k : ℕ). get_or (us ++ ws) k equals) (add_assoc n h.at 3) ∙ get_or-append-add us ws (h.at + 3) equals ∙ h.second;
      rest =
          ap (λ (k : ℕ). take (n + h.at) (us ++ ws) ++ drop k (us ++ ws)) (add_assoc n h.at 4)
          ∙ ap (λ (vs : List Word). vs ++ drop (n + (h.at + 4)) (us ++ ws)) (take-append-add us ws h.at)
          ∙ ap (λ (vs : List Word). (us ++ take h.at ws) ++ vs) (drop-append-add us ws (h.at + 4))
          ∙ append_assoc us (take h.at ws) (drop (h.at + 4) ws)
          ∙ ap (λ (vs : List Word). us ++ vs) h.rest;
    }

pub leftmost-some : (c : Clause) (r : Unequal) → leftmost c ≡ some r → Leftmost (clause_words c) r
leftmost-some [] r e = let z : ◌≡◌ {A = ℕ} 0 1 = cc in absurd (omega arith)
leftmost-some (l ∷ c) r e = go (unequal_variables l.sign l.atom) refl (leftmost c) refl e (λ q k. leftmost-some c q k)
  where
    go : (o : Option (ℕ × ℕ)) → unequal_variables l.sign l.atom ≡ o → (m : Option Unequal) → leftmost c ≡ m → leftmost_at l c o m ≡ some r
        → ((q : Unequal) → leftmost c ≡ some q → Leftmost (clause_words c) q) → Leftmost (clause_words (l ∷ c)) r
    go (some p) q m k z ih =
        subst (Leftmost (clause_words (l ∷ c))) (some-injective (record { x = p.0; y = p.1; rest = c }) r z)
        (subst (λ (us : List Word). Leftmost (us ++ clause_words c) (record { x = p.0; y = p.1; rest = c })) (sym (unequal-words l.sign l.atom p q)) (unequal-here p.0 p.1 c))
    go none q none k z ih = let z : ◌≡◌ {A = ℕ} 0 1 = cc in absurd (omega arith)
    go none q (some s) k z ih =
        subst (Leftmost (clause_words (l ∷ c))) (some-injective (record { x = s.x; y = s.y; rest = l ∷ s.rest }) r z)
        (unequal-there l (clause_words c) s q (ih s k))
