-- The words that begin a term with arguments.
use Rattle.std.specs.Prelude.{Bool, false, ◌&&◌, ltb}
use Rattle.theory.specs.Syntax.{is_function, Signature, symbol_at}
use Rattle.theory.specs.Grammar.{Word, sign, equals, symbol, letter}

-- the word is a function that has arguments
abbrev pub is_opening : Signature → Word → Bool
is_opening g (sign b) = false
is_opening g equals = false
is_opening g (symbol i) = is_function (symbol_at g i).kind && ltb 0 (symbol_at g i).arity
is_opening g (letter x) = false
