-- The codes of words that begin terms with arguments.
use Prim.Native.Nat.{ℕ, ◌≤◌, ◌<◌}
use mathlib.Core.Path.{◌≡◌, refl, sym, ap, ◌∙◌}
use mathlib.Core.Bool.{Bool, true, false, ◌&&◌}
use mathlib.Core.List.{List}
use native.Mathlib.Omega.{arith}
use lib.Dec.{ltb}
use lib.ListN.{get_or}
use Rattle.theory.specs.Syntax.{is_function}
use Rattle.theory.specs.Syntax as theory
use Rattle.theory.specs.Grammar.{sign}
use Rattle.syntax.specs.declared.signature.Signature.{Signature}
use Rattle.syntax.specs.Signatures.{kind_of, signature_in}
use Rattle.syntax.specs.Codes.{code_of, code_word}
use Rattle.syntax.proofs.Codes.{word_of-symbol, word_of-letter}
use Rattle.clauses.specs.Names.{Limited}
use Rattle.clauses.specs.Words.{is_code}
use Rattle.clauses.proofs.Held.{blank, symbol_at-signature_in}
use Rattle.clauses.proofs.Automaton.{code-cases}
use Rattle.shortening.specs.Opening.{is_opening}

-- neither a sign nor = nor a letter begins one
pub fixed-closed : (g : theory.Signature) (n c : ℕ) → n < code_of (sign true) → is_code n c ≡ true → code_of (sign true) ≤ c → false ≡ is_opening g (code_word c)
fixed-closed g n c small coded h =
    code-cases n c (λ l. absurd (omega arith)) (at refl) (at refl) (at refl) (λ l. ap (is_opening g) (sym (word_of-letter c l))) coded
  where
    at : {k : ℕ} → false ≡ is_opening g (code_word k) → c ≡ k → false ≡ is_opening g (code_word c)
    at e h = e ∙ ap (λ (n : ℕ). is_opening g (code_word n)) (sym h)

module _ (sheet : List ℕ) (s : Signature) (h : Limited s) (c : ℕ) (below : c < code_of (sign true)) (held : c < s.count) where
  -- a symbol does, if it is a function and has arguments
  pub symbol-opens : is_opening (signature_in sheet s) (code_word c) ≡ (is_function (kind_of (get_or s.symbols c blank).function) && ltb 0 (get_or s.symbols c blank).arity)
  symbol-opens =
      ap (is_opening (signature_in sheet s)) (word_of-symbol c below) ∙ ap (λ (y : theory.Symbol). is_function y.kind && ltb 0 y.arity) (symbol_at-signature_in s h sheet c held)

  pub predicate-closed : (get_or s.symbols c blank).function ≡ false → false ≡ is_opening (signature_in sheet s) (code_word c)
  predicate-closed e = sym (symbol-opens ∙ ap (λ (b : Bool). is_function (kind_of b) && ltb 0 (get_or s.symbols c blank).arity) e)

  pub function-opens : (get_or s.symbols c blank).function ≡ true → ltb 0 (get_or s.symbols c blank).arity ≡ is_opening (signature_in sheet s) (code_word c)
  function-opens e = sym (symbol-opens ∙ ap (λ (b : Bool). is_function (kind_of b) && ltb 0 (get_or s.symbols c blank).arity) e)
