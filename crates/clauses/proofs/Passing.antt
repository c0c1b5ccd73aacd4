-- What was read of the words of a clause line, one word after the other.
use Prim.Native.Nat.{ℕ, ◌+◌, ◌*◌, ◌≤◌, ◌<◌}
use mathlib.Core.Path.{◌≡◌, refl, sym, ap, ◌∙◌}
use mathlib.Core.Bool.{Bool, true, false}
use mathlib.Core.Option.{Option, some}
use mathlib.Core.List.{List, [], ◌∷◌, ◌++◌, map, map-append}
use native.Mathlib.Nat.{add-zero}
use native.Mathlib.Numerals.{add-one}
use native.Mathlib.Omega.{arith}
use lib.Dec.{ltb}
use lib.ListN.{length, take, set, length-append, length-set}
use lib.Seq.{take-suc-set, take_all, set_out, take-append-le}
use borrow.Author.Tests.{ltb-true, ltb-false}
use Rattle.theory.specs.Lists.{sum}
use Rattle.theory.specs.Syntax.{Signature}
use Rattle.theory.specs.Grammar.{Word, sign, equals, symbol, letter, terms, Due}
use Rattle.theory.specs.Problem.{max_words}
use Rattle.theory.proofs.Lists.{sum-map-append}
use Rattle.syntax.specs.Codes.{code_word}
use Rattle.clauses.specs.declared.clause.Words.{Words}
use Rattle.clauses.specs.Grammar.{due_in, pending, due_next, due_after_all}
use Rattle.clauses.specs.Clauses.{sign_count, WordsBounded, Passed}

due_after_all-more : (g : Signature) (d : Option Due) (ws : List Word) (x : Word) → due_after_all g d (ws ++ (x ∷ [])) ≡ due_next g (due_after_all g d ws) x
unfolding due_after_all
due_after_all-more g d [] x = refl
due_after_all-more g d (w ∷ ws) x = due_after_all-more g (due_next g d w) ws x

signs-more : (ws : List Word) (x : Word) → sum (map sign_count (ws ++ (x ∷ []))) ≡ sum (map sign_count ws) + sign_count x
signs-more ws x = sum-map-append sign_count ws (x ∷ []) ∙ ap (λ (n : ℕ). sum (map sign_count ws) + n) (add-zero (sign_count x))

-- the codes with one more, of which 64 are held
codes-more : (ws : List Word) (cs : List ℕ) (n c : ℕ) → n ≡ length ws → length cs ≡ max_words → map code_word (take n cs) ≡ take max_words ws
    → map code_word (take (n + 1) (set cs n c)) ≡ take max_words (ws ++ (code_word c ∷ []))
codes-more ws cs n c e h k = go (ltb n max_words) refl
  where
    go : (b : Bool) → ltb n max_words ≡ b → map code_word (take (n + 1) (set cs n c)) ≡ take max_words (ws ++ (code_word c ∷ []))
    go true t =
        let l : n < max_words = ltb-true n max_words t in
        ap (λ (m : ℕ). map code_word (take m (set cs n c))) (add-one n)
        ∙ ap (map code_word) (take-suc-set cs n c (omega arith))
        ∙ map-append code_word (take n cs) (c ∷ [])
        ∙ ap (λ (l : List Word). l ++ (code_word c ∷ [])) (k ∙ take_all max_words ws (omega arith))
        ∙ sym (take_all max_words (ws ++ (code_word c ∷ [])) (omega (arith, length-append ws (code_word c ∷ []))))
    go false t =
        let l : max_words ≤ n = ltb-false n max_words t in
        ap (λ (l : List ℕ). map code_word (take (n + 1) l)) (set_out cs n c (omega arith))
        ∙ ap (map code_word) (take_all (n + 1) cs (omega arith) ∙ sym (take_all n cs (omega arith)))
        ∙ k
        ∙ sym (take-append-le max_words ws (code_word c ∷ []) (omega arith))

-- one word more was read
pub passed-more : (g : Signature) (ws : List Word) (w r : Words) (c : ℕ) → Passed g ws w
    → r.words ≡ set w.words w.count c → r.count ≡ w.count + 1 → r.literals ≡ w.literals + sign_count (code_word c)
    → due_in r.due ≡ due_next g (due_in w.due) (code_word c) → pending r.due ≤ pending w.due + 3
    → Passed g (ws ++ (code_word c ∷ [])) r
passed-more g ws w r c p words count literals due bound =
    record {
      count = count ∙ omega (arith, p.count, length-append ws (code_word c ∷ []));
      held = ap length words ∙ length-set w.words w.count c ∙ p.held;
      codes = ap (λ (l : List ℕ). map code_word (take r.count l)) words
          ∙ ap (λ (n : ℕ). map code_word (take n (set w.words w.count c))) count
          ∙ codes-more ws w.words w.count c p.count p.held p.codes;
      literals = literals ∙ ap (λ (n : ℕ). n + sign_count (code_word c)) p.literals ∙ sym (signs-more ws (code_word c));
      due = due ∙ ap (λ (d : Option Due). due_next g d (code_word c)) p.due ∙ sym (due_after_all-more g (some (terms 0)) ws (code_word c));
      pending = omega (arith, p.pending);
    }

sign_small : (w : Word) → sign_count w ≤ 1
sign_small (sign b) = omega arith
sign_small equals = omega arith
sign_small (symbol i) = omega arith
sign_small (letter x) = omega arith

pub signs-small : (c : ℕ) → sign_count (code_word c) ≤ 1
signs-small c = sign_small (code_word c)

signs-bounded : (ws : List Word) → sum (map sign_count ws) ≤ length ws
signs-bounded [] = omega arith
signs-bounded (w ∷ ws) = omega (arith, sign_small w, signs-bounded ws)

pub passed-bounded : (g : Signature) (ws : List Word) (w : Words) → Passed g ws w → 2 * w.count < 9223372036854775808 → WordsBounded w
passed-bounded g ws w p h = record { count = h; literals = omega (arith, p.literals, p.count, signs-bounded ws); pending = p.pending }
