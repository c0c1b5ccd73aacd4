-- The values of terms as their words are taken from the last to the first: each word takes its values from the front of those held and puts its own there.
use Prim.Native.Nat.{ℕ, zero, suc, ◌+◌, ◌-◌, ◌≤◌, ◌<◌}
use mathlib.Core.Path.{◌≡◌, refl, sym, ap, ◌∙◌, subst}
use mathlib.Core.List.{List, ◌∷◌}
use native.Mathlib.Omega.{arith}
use lib.ListN.{length, set, take, drop, length-set}
use lib.Seq.{drop-set-lt, get_or-set_same}
use Rattle.theory.specs.Vectors.{AllBelow}
use Rattle.theory.specs.Syntax.{Kind, function, Signature, symbol_at, Terms, empty, cons, count}
use Rattle.theory.specs.Truth.{Interpretation, Assignment, value, values}
use Rattle.theory.specs.Grammar.{Word, symbol, letter, take_terms, drop_terms, Reading, read_symbol, read_words}
use Rattle.theory.proofs.Vectors.{all_below-drop}
use Rattle.text.specs.Lines.{part}
use Rattle.text.proofs.Part.{length_part, part-cons, drop-part, take-part}

module _ (I : Interpretation) (ρ : Assignment) where
  pub values-take : (n : ℕ) (ts : Terms) → take n (values I ρ ts) ≡ values I ρ (take_terms n ts)
  values-take zero ts = refl
  values-take (suc n) empty = refl
  values-take (suc n) (cons t ts) = ap (λ (l : List ℕ). value I ρ t ∷ l) (values-take n ts)

  pub values-drop : (n : ℕ) (ts : Terms) → drop n (values I ρ ts) ≡ values I ρ (drop_terms n ts)
  values-drop zero ts = refl
  values-drop (suc n) empty = refl
  values-drop (suc n) (cons t ts) = values-drop n ts

  pub length-values : (ts : Terms) → length (values I ρ ts) ≡ count ts
  length-values empty = refl
  length-values (cons t ts) = ap suc (length-values ts)

-- a value put in front
part-push : (l : List ℕ) (k e x : ℕ) → k < e → e ≤ length l → part (set l k x) k e ≡ x ∷ part l (k + 1) e
part-push l k e x h r =
    part-cons (set l k x) k e 0 h (omega (arith, length-set l k x))
    ∙ ap (λ (y : ℕ). y ∷ part (set l k x) (k + 1) e) (get_or-set_same l k x 0 (omega arith))
    ∙ ap (λ (m : List ℕ). x ∷ take (e - (k + 1)) m) (drop-set-lt (k + 1) l k x (omega arith))

-- from top up to e stand the values of the terms that are read from the words ws
pub record Held (g : Signature) (I : Interpretation) (ρ : Assignment) (s e : ℕ) (ws : List Word) (held : List ℕ) (top : ℕ) : Type 0 where
  pub within : top ≤ e
  pub terms : part held top e ≡ values I ρ (read_words g ws).terms
  pub below : AllBelow s (part held top e)

module _ (g : Signature) (I : Interpretation) (ρ : Assignment) (s e : ℕ) (ws : List Word) (held : List ℕ) (top : ℕ) (room : e ≤ length held) (h : Held g I ρ s e ws held top) where
  -- as many values as terms were read
  pub held-count : top + count (read_words g ws).terms ≡ e
  held-count = omega (arith, h.within, length_part held top e h.within room, ap length h.terms, length-values I ρ (read_words g ws).terms)

  -- the values of the first terms
  pub held-take : (n : ℕ) → n ≤ count (read_words g ws).terms → part held top (top + n) ≡ values I ρ (take_terms n (read_words g ws).terms)
  held-take n k = sym (take-part held top e n (omega (arith, held-count))) ∙ ap (take n) h.terms ∙ values-take I ρ n (read_words g ws).terms

  -- and of those after them
  held-drop : (n : ℕ) → part held (top + n) e ≡ values I ρ (drop_terms n (read_words g ws).terms)
  held-drop n = sym (drop-part held top e n) ∙ ap (drop n) h.terms ∙ values-drop I ρ n (read_words g ws).terms

  below-drop : (n : ℕ) → AllBelow s (part held (top + n) e)
  below-drop n = subst (AllBelow s) (drop-part held top e n) (all_below-drop s n (part held top e) h.below)

  -- a variable puts its value
  pub letter-held : (x v : ℕ) → v ≡ ρ x → v < s → 0 < top → Held g I ρ s e (letter x ∷ ws) (set held (top - 1) v) (top - 1)
  letter-held x v q b r =
      let n : top - 1 + 1 ≡ top = omega arith in
      let d : part (set held (top - 1) v) (top - 1) e ≡ v ∷ part held top e =
      part-push held (top - 1) e v (omega (arith, h.within)) room ∙ ap (λ (j : ℕ). v ∷ part held j e) n in
      record {
        within = omega (arith, h.within);
        terms = d ∙ ap (λ (l : List ℕ). v ∷ l) h.terms ∙ ap (λ (y : ℕ). y ∷ values I ρ (read_words g ws).terms) q;
        below = subst (AllBelow s) (sym d) (b, h.below);
      }

  -- a function takes as many as its arity and puts its value
  pub function-held : (f a v : ℕ) → (symbol_at g f).kind ≡ function → a ≡ (symbol_at g f).arity → a ≤ count (read_words g ws).terms → v ≡ I.function f (values I ρ (take_terms a (read_words g ws).terms))
      → v < s → 0 < top → Held g I ρ s e (symbol f ∷ ws) (set held (top + a - 1) v) (top + a - 1)
  function-held f a v kind ar enough q b r =
      let n : top + a - 1 + 1 ≡ top + a = omega arith in
      let d : part (set held (top + a - 1) v) (top + a - 1) e ≡ v ∷ part held (top + a) e =
      part-push held (top + a - 1) e v (omega (arith, held-count)) room ∙ ap (λ (j : ℕ). v ∷ part held j e) n in
      let read : read_words g (symbol f ∷ ws) ≡ read_symbol function f a (read_words g ws) =
      ap (λ (k : Kind). read_symbol k f (symbol_at g f).arity (read_words g ws)) kind ∙ ap (λ (j : ℕ). read_symbol function f j (read_words g ws)) (sym ar) in
      record {
        within = omega (arith, held-count);
        terms =
            d
            ∙ ap (λ (l : List ℕ). v ∷ l) (held-drop a)
            ∙ ap (λ (y : ℕ). y ∷ values I ρ (drop_terms a (read_words g ws).terms)) q
            ∙ ap (λ (q : Reading). values I ρ q.terms) (sym read);
        below = subst (AllBelow s) (sym d) (b, below-drop a);
      }
