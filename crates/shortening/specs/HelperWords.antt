-- Helper constants behind the symbols of a signature, and the words of their own clauses.
use Rattle.std.specs.Prelude.{ℕ, ◌+◌, ◌≤◌, ◌<◌, ◌≡◌, true, List, ◌++◌, length, take, replicate}
use Rattle.theory.specs.Lists.{all}
use Rattle.theory.specs.Syntax as theory
use Rattle.theory.specs.Grammar.{Word}
use Rattle.theory.specs.Problem.{max_words}
use Rattle.syntax.specs.declared.signature.Symbol.{Symbol}
use Rattle.syntax.specs.declared.signature.Signature.{Signature}
use Rattle.syntax.specs.Codes.{is_known}
use Rattle.clauses.specs.declared.clause.Words.{Words}
use Rattle.clauses.specs.Clauses.{Passed}

-- a helper: a constant without a name
abbrev pub helper_symbol : Symbol
helper_symbol = record { function = true; helper = true; arity = 0; name = 0; length = 0 }

-- r has n helpers behind the symbols of s
pub record HelpersBehind (s : Signature) (n : ℕ) (r : Signature) : Type 0 where
  pub count : r.count ≡ s.count + n
  pub symbols : take r.count r.symbols ≡ take s.count s.symbols ++ replicate n helper_symbol

-- w was read of the words ws, all of them where they are no more than a clause may have
pub record WordsTo (g : theory.Signature) (ws : List Word) (w : Words) : Type 0 where
  pub long : max_words < w.count → max_words < length ws
  pub whole : w.count ≤ max_words → Passed g ws w
  pub known : w.count ≤ max_words → all (is_known g) ws ≡ true
