-- GrammarExact: the words that are read as a clause are exactly the words of that clause.
use Rattle.std.specs.Prelude.{◌≡◌, ◌↔◌, Bool, true, List, ltb, length}
use Rattle.std.proofs.Math.Option.{some}
use Rattle.theory.specs.Lists.{all}
use Rattle.theory.specs.Syntax.{Signature, Clause, clause_ok}
use Rattle.theory.specs.Grammar.{Word, sign, equals, symbol, letter, clause_words, read_clause}

-- a symbol's word means a symbol of the signature
abbrev pub is_declared : Signature → Word → Bool
is_declared g (sign b) = true
is_declared g equals = true
is_declared g (symbol i) = ltb i (length g)
is_declared g (letter x) = true

-- the theorem
pub record GrammarExact : Type 0 where
  -- words of declared symbols are read as c exactly if c is a clause over the signature and they are its words
  pub exact : (g : Signature) (ws : List Word) (c : Clause) → all (is_declared g) ws ≡ true
      → (read_clause g ws ≡ some c) ↔ ((clause_ok g c ≡ true) × (clause_words c ≡ ws))
