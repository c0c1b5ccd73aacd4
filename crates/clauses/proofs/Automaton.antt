-- What is due after one word, by the word's code.
use Prim.Native.Nat.{ℕ, suc, ◌+◌, ◌-◌, ◌≤◌, ◌<◌}
use mathlib.Core.Path.{◌≡◌, refl, sym, ap, ◌∙◌}
use mathlib.Core.Logic.{◌⊎◌, inl, inr}
use mathlib.Core.Bool.{Bool, true, false, ◌&&◌, ◌||◌}
use mathlib.Core.Option.{Option, none, some}
use mathlib.Core.List.{List}
use native.Mathlib.Omega.{arith}
use lib.Dec.{eqb, ltb, leb}
use lib.ListN.{get_or}
use borrow.Author.Tests.{eqb-true, ltb-true, leb-true}
use Rattle.theory.specs.Syntax.{Kind, symbol_at}
use Rattle.theory.specs.Syntax as theory
use Rattle.theory.specs.Grammar.{Word, symbol, terms, atom, Due, due_after_function, due_after_predicate, due_after}
use Rattle.theory.proofs.Tests.{or_cases, and_left}
use Rattle.syntax.specs.declared.signature.Signature.{Signature}
use Rattle.syntax.specs.Signatures.{max_in_all, kind_of, signature_in}
use Rattle.syntax.specs.Codes.{plus_code, minus_code, equals_code, letter_code, past_letters, code_word}
use Rattle.syntax.proofs.Codes.{word_of-symbol, word_of-letter}
use Rattle.clauses.specs.Names.{Limited}
use Rattle.clauses.specs.Words.{is_fixed_code, is_code}
use Rattle.clauses.proofs.Held.{blank, symbol_at-signature_in}

-- the codes of words
pub code-cases : {P : Type 0} (n c : ℕ) → (c < n → P) → (c ≡ plus_code → P) → (c ≡ minus_code → P) → (c ≡ equals_code → P) → (letter_code ≤ c → P) → is_code n c ≡ true → P
code-cases {P} n c name plus minus equality variable e = first (or_cases (ltb c n) (is_fixed_code c) e)
  where
    fourth : (eqb c equals_code ≡ true) ⊎ ((leb letter_code c && ltb c past_letters) ≡ true) → P
    fourth (inl e) = equality (eqb-true c equals_code e)
    fourth (inr e) = variable (leb-true letter_code c (and_left (leb letter_code c) (ltb c past_letters) e))

    third : (eqb c minus_code ≡ true) ⊎ ((eqb c equals_code || (leb letter_code c && ltb c past_letters)) ≡ true) → P
    third (inl e) = minus (eqb-true c minus_code e)
    third (inr e) = fourth (or_cases (eqb c equals_code) (leb letter_code c && ltb c past_letters) e)

    second : (eqb c plus_code ≡ true) ⊎ ((eqb c minus_code || (eqb c equals_code || (leb letter_code c && ltb c past_letters))) ≡ true) → P
    second (inl e) = plus (eqb-true c plus_code e)
    second (inr e) = third (or_cases (eqb c minus_code) (eqb c equals_code || (leb letter_code c && ltb c past_letters)) e)

    first : (ltb c n ≡ true) ⊎ (is_fixed_code c ≡ true) → P
    first (inl e) = name (ltb-true c n e)
    first (inr e) = second (or_cases (eqb c plus_code) (eqb c minus_code || (eqb c equals_code || (leb letter_code c && ltb c past_letters))) e)

module _ (n c : ℕ) (small : n ≤ max_in_all) (coded : is_code n c ≡ true) where
  -- the codes below that of + are those of symbols
  pub symbol-code : c < plus_code → c < n
  symbol-code h = code-cases n c (λ l. l) (λ e. absurd (omega arith)) (λ e. absurd (omega arith)) (λ e. absurd (omega arith)) (λ l. absurd (omega arith)) coded

  module _ (g : theory.Signature) where
    -- neither a sign nor = is a term
    pub no-term : (m : ℕ) → plus_code ≤ c → c < letter_code → none ≡ due_after g (terms (suc m)) (code_word c)
    no-term m h k = code-cases n c (λ l. absurd (omega arith)) (at refl) (at refl) (at refl) (λ l. absurd (omega arith)) coded
      where
        at : {k : ℕ} → none ≡ due_after g (terms (suc m)) (code_word k) → c ≡ k → none ≡ due_after g (terms (suc m)) (code_word c)
        at e h = e ∙ ap (λ (n : ℕ). due_after g (terms (suc m)) (code_word n)) (sym h)

    -- neither a sign nor a letter is an atom
    pub no-atom : (c ≡ equals_code → ⊥) → plus_code ≤ c → none ≡ due_after g atom (code_word c)
    no-atom ne h = code-cases n c (λ l. absurd (omega arith)) (at refl) (at refl) (λ e. absurd (ne e)) (λ l. ap (due_after g atom) (sym (word_of-letter c l))) coded
      where
        at : {k : ℕ} → none ≡ due_after g atom (code_word k) → c ≡ k → none ≡ due_after g atom (code_word c)
        at e h = e ∙ ap (λ (n : ℕ). due_after g atom (code_word n)) (sym h)

-- a letter is a term
pub letter-term : (g : theory.Signature) (c m : ℕ) → letter_code ≤ c → some (terms m) ≡ due_after g (terms (suc m)) (code_word c)
letter-term g c m h = ap (due_after g (terms (suc m))) (sym (word_of-letter c h))

pub equals-atom : (g : theory.Signature) (c : ℕ) → c ≡ equals_code → some (terms 2) ≡ due_after g atom (code_word c)
equals-atom g c e = ap (λ (n : ℕ). due_after g atom (code_word n)) (sym e)

module _ (sheet : List ℕ) (s : Signature) (h : Limited s) (c : ℕ) (below : c < plus_code) (held : c < s.count) where
  -- a symbol where a term, and where an atom, is due
  after-symbol : (d : Due) (f : Kind → ℕ → Option Due) → ((i : ℕ) → due_after (signature_in sheet s) d (symbol i) ≡ f (symbol_at (signature_in sheet s) i).kind (symbol_at (signature_in sheet s) i).arity)
      → due_after (signature_in sheet s) d (code_word c) ≡ f (kind_of (get_or s.symbols c blank).function) (get_or s.symbols c blank).arity
  after-symbol d f e =
      ap (due_after (signature_in sheet s) d) (word_of-symbol c below) ∙ e c ∙ ap (λ (y : theory.Symbol). f y.kind y.arity) (symbol_at-signature_in s h sheet c held)

  pub function-term : (m : ℕ) → (get_or s.symbols c blank).function ≡ true → some (terms ((get_or s.symbols c blank).arity + m)) ≡ due_after (signature_in sheet s) (terms (suc m)) (code_word c)
  function-term m e = sym (after-symbol (terms (suc m)) (λ k a. due_after_function k a m) (λ i. refl) ∙ ap (λ (b : Bool). due_after_function (kind_of b) (get_or s.symbols c blank).arity m) e)

  pub predicate-no-term : (m : ℕ) → (get_or s.symbols c blank).function ≡ false → none ≡ due_after (signature_in sheet s) (terms (suc m)) (code_word c)
  predicate-no-term m e = sym (after-symbol (terms (suc m)) (λ k a. due_after_function k a m) (λ i. refl) ∙ ap (λ (b : Bool). due_after_function (kind_of b) (get_or s.symbols c blank).arity m) e)

  pub function-no-atom : (get_or s.symbols c blank).function ≡ true → none ≡ due_after (signature_in sheet s) atom (code_word c)
  function-no-atom e = sym (after-symbol atom due_after_predicate (λ i. refl) ∙ ap (λ (b : Bool). due_after_predicate (kind_of b) (get_or s.symbols c blank).arity) e)

  pub predicate-atom : (get_or s.symbols c blank).function ≡ false → some (terms (get_or s.symbols c blank).arity) ≡ due_after (signature_in sheet s) atom (code_word c)
  predicate-atom e = sym (after-symbol atom due_after_predicate (λ i. refl) ∙ ap (λ (b : Bool). due_after_predicate (kind_of b) (get_or s.symbols c blank).arity) e)

-- a number of terms due that is not 0
pub some-due : (g : theory.Signature) (n : ℕ) (w : Word) (d : Option Due) → (n ≡ 0 → ⊥) → d ≡ due_after g (terms (suc (n - 1))) w → d ≡ due_after g (terms n) w
some-due g n w d h e = let p : suc (n - 1) ≡ n = omega arith in e ∙ ap (λ (k : ℕ). due_after g (terms k) w) p
