use mathlib.Core.List.{map}
use lib.ListN.{take}
use Rattle.theory.specs.Lists.{distinct}
use Rattle.syntax.specs.Codes.{code_word}
use Rattle.syntax.specs.Variables.{letters_of, Places}
use Rattle.syntax.proofs.variables.variables_of.Given as goal

-- `variables_of` meets its contract: the letters of the words before i have their places.
abbrev pub invariant-loop-i : goal.invariant-loop-i
invariant-loop-i l =
    Places (distinct (letters_of (map code_word (take l.i l.c.words)))) l.found
