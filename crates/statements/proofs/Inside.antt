-- Inside a statement: only a full stop leads out of it, and one token opens one list at most.
use Prim.Native.Nat.{ℕ, zero, suc, ◌≤◌}
use mathlib.Core.Path.{◌≡◌, refl, sym, ap, ◌∙◌}
use mathlib.Core.Bool.{Bool, true, false, true≢false, false≢true}
use mathlib.Core.Option.{Option, none, some, some-injective}
use mathlib.Core.List.{List, [], ◌∷◌, ◌++◌}
use native.Mathlib.Omega.{arith}
use Rattle.theory.specs.Lists.{first_that}
use Rattle.tptp.specs.Tokens.{TokenKind, lower_word, upper_word, digits, falsum, left_paren, right_paren, comma, full_stop, bar, tilde, equal_sign, unequal_sign, foreign, open_comment, TptpToken, is}
use Rattle.tptp.specs.Grammar.{Side, first, second, DueToken, Move, statement, opening, name, name_comma, role, role_comma, clause, literal, literal_end, term, word_end, term_end, equality, closing, stop, after_literal, relations, after_term, begins_term, begins_literal, moves, due_after_token, may_end}
use Rattle.tptp.specs.Scanning.{same_token_kind}
use Rattle.statements.specs.Dues.{open_lists}

-- inside a statement, with one list more at most
abbrev Fine : ℕ → DueToken → Type 0
Fine n e = (may_end e ≡ false) × (open_lists e ≤ suc n)

abbrev EachFine : ℕ → List Move → Type 0
EachFine n [] = Unit {0}
EachFine n (m ∷ ms) = Fine n m.1 × EachFine n ms

fine-both : (n : ℕ) (ms ns : List Move) → EachFine n ms → EachFine n ns → EachFine n (ms ++ ns)
fine-both n [] ns h k = k
fine-both n (m ∷ ms) ns h k = (h.0, fine-both n ms ns h.1 k)

fine-first : (n : ℕ) (t : TptpToken) (ms : List Move) (e : DueToken) → EachFine n ms
    → (elim (first_that (λ (m : Move). m.0 t) ms) as (λ _. Option DueToken) [ some m ↦ some m.1 | none ↦ none ]) ≡ some e → Fine n e
fine-first n t [] e h k = cc
fine-first n t (m ∷ ms) e h k = go (m.0 t) k (λ x. fine-first n t ms e h.1 x)
  where
    go : (q : Bool)
        → (elim (elim q as (λ _. Option Move) [ true ↦ some m | false ↦ first_that (λ (m : Move). m.0 t) ms ]) as (λ _. Option DueToken) [ some m ↦ some m.1 | none ↦ none ]) ≡ some e
        → ((elim (first_that (λ (m : Move). m.0 t) ms) as (λ _. Option DueToken) [ some m ↦ some m.1 | none ↦ none ]) ≡ some e → Fine n e)
        → Fine n e
    go true k ih =
        let x : m.1 ≡ e = some-injective m.1 e k in
        (ap may_end (sym x) ∙ h.0.0, let y : open_lists m.1 ≡ open_lists e = ap open_lists x in omega (arith, h.0.1))
    go false k ih = ih k

literal-fine : (n : ℕ) (b : Bool) → EachFine n (after_literal b)
literal-fine n true = ((refl, omega arith), ((refl, omega arith), tt))
literal-fine n false = ((refl, omega arith), ((refl, omega arith), tt))

relations-fine : (n : ℕ) (b c : Bool) → EachFine n (relations b c)
relations-fine n b true = ((refl, omega arith), tt)
relations-fine n b false = ((refl, omega arith), ((refl, omega arith), tt))

term-fine : (b : Bool) (s : Side) (n : ℕ) → EachFine n (after_term b s n)
term-fine b (first c) zero = fine-both 0 (relations b c) (after_literal b) (relations-fine 0 b c) (literal-fine 0 b)
term-fine b second zero = literal-fine 0 b
term-fine b s (suc n) = ((refl, omega arith), ((refl, omega arith), tt))

begins-fine : (b : Bool) (s : Side) (n : ℕ) → EachFine n (begins_term b s n)
begins-fine b (first c) zero = ((refl, omega arith), ((refl, omega arith), tt))
begins-fine b (first c) (suc n) = ((refl, omega arith), ((refl, omega arith), tt))
begins-fine b second n = ((refl, omega arith), ((refl, omega arith), tt))

begins-literal-fine : (b : Bool) → EachFine 0 (begins_literal b)
begins-literal-fine b = ((refl, omega arith), ((refl, omega arith), begins-fine b (first false) 0))

-- a token that is no full stop leads on inside the statement
pub goes-inside : (d e : DueToken) (t : TptpToken) → is full_stop t ≡ false → may_end d ≡ false → due_after_token d t ≡ some e → (may_end e ≡ false) × (open_lists e ≤ suc (open_lists d))
unfolding due_after_token
goes-inside statement e t h m k = absurd (true≢false m)
goes-inside opening e t h m k = fine-first 0 t (moves opening) e ((refl, omega arith), tt) k
goes-inside name e t h m k = fine-first 0 t (moves name) e ((refl, omega arith), ((refl, omega arith), tt)) k
goes-inside name_comma e t h m k = fine-first 0 t (moves name_comma) e ((refl, omega arith), tt) k
goes-inside role e t h m k = fine-first 0 t (moves role) e ((refl, omega arith), tt) k
goes-inside role_comma e t h m k = fine-first 0 t (moves role_comma) e ((refl, omega arith), tt) k
goes-inside clause e t h m k = fine-first 0 t (moves clause) e ((refl, omega arith), begins-literal-fine false) k
goes-inside (literal b) e t h m k = fine-first 0 t (moves (literal b)) e (begins-literal-fine b) k
goes-inside (literal_end b) e t h m k = fine-first 0 t (moves (literal_end b)) e (literal-fine 0 b) k
goes-inside (term b s n) e t h m k = fine-first n t (moves (term b s n)) e (begins-fine b s n) k
goes-inside (word_end b s n) e t h m k = fine-first n t (moves (word_end b s n)) e ((refl, omega arith), term-fine b s n) k
goes-inside (term_end b s n) e t h m k = fine-first n t (moves (term_end b s n)) e (term-fine b s n) k
goes-inside (equality b c) e t h m k = fine-first 0 t (moves (equality b c)) e (relations-fine 0 b c) k
goes-inside closing e t h m k = fine-first 0 t (moves closing) e ((refl, omega arith), tt) k
goes-inside stop e t h m k = absurd (false≢true (refused (is full_stop t) h k))
  where
    refused : (q : Bool) → q ≡ false → (elim (elim q as (λ _. Option Move) [ true ↦ some (is full_stop, statement) | false ↦ none ]) as (λ _. Option DueToken) [ some m ↦ some m.1 | none ↦ none ]) ≡ some e → false ≡ true
    refused true h k = sym h
    refused false h k = cc

pub stop-kind : (k : TokenKind) → same_token_kind full_stop k ≡ true → k ≡ full_stop
stop-kind full_stop e = refl
stop-kind lower_word e = absurd (false≢true e)
stop-kind upper_word e = absurd (false≢true e)
stop-kind digits e = absurd (false≢true e)
stop-kind falsum e = absurd (false≢true e)
stop-kind left_paren e = absurd (false≢true e)
stop-kind right_paren e = absurd (false≢true e)
stop-kind comma e = absurd (false≢true e)
stop-kind bar e = absurd (false≢true e)
stop-kind tilde e = absurd (false≢true e)
stop-kind equal_sign e = absurd (false≢true e)
stop-kind unequal_sign e = absurd (false≢true e)
stop-kind foreign e = absurd (false≢true e)
stop-kind open_comment e = absurd (false≢true e)

stops_at : (d e : DueToken) (w : List ℕ) (p : ℕ) → due_after_token d (record { kind = full_stop; name = w; place = p }) ≡ some e → e ≡ statement
unfolding due_after_token
stops_at statement e w p h = cc
stops_at opening e w p h = cc
stops_at name e w p h = cc
stops_at name_comma e w p h = cc
stops_at role e w p h = cc
stops_at role_comma e w p h = cc
stops_at clause e w p h = cc
stops_at (literal b) e w p h = cc
stops_at (literal_end b) e w p h = cc
stops_at (term b s n) e w p h = cc
stops_at (word_end b (first true) zero) e w p h = cc
stops_at (word_end b (first false) zero) e w p h = cc
stops_at (word_end b second zero) e w p h = cc
stops_at (word_end b s (suc n)) e w p h = cc
stops_at (term_end b (first true) zero) e w p h = cc
stops_at (term_end b (first false) zero) e w p h = cc
stops_at (term_end b second zero) e w p h = cc
stops_at (term_end b s (suc n)) e w p h = cc
stops_at (equality b true) e w p h = cc
stops_at (equality b false) e w p h = cc
stops_at closing e w p h = cc
stops_at stop e w p h = sym (some-injective statement e h)

-- a full stop that may stand ends the statement
pub stops : (d e : DueToken) (t : TptpToken) → is full_stop t ≡ true → due_after_token d t ≡ some e → e ≡ statement
stops d e t h k = stops_at d e t.name t.place (ap (λ (x : TokenKind). due_after_token d (record { kind = x; name = t.name; place = t.place })) (sym (stop-kind t.kind h)) ∙ k)
