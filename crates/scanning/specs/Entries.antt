-- The entries that the code's enums stand for.
use Rattle.std.specs.Prelude.{ℕ, Bool, true, false, cond, not, List, [], ◌∷◌, ◌++◌, map}
use Rattle.theory.specs.Grammar.{Word}
use Rattle.theory.specs.Grammar as words
use Rattle.syntax.specs.Signatures.{kind_of}
use Rattle.tptp.specs.Tokens.{TokenKind, upper_word}
use Rattle.tptp.specs.Trees.{Name}
use Rattle.tptp.specs.Written.{Item}
use Rattle.tptp.specs.Symbols.{Occurrence, of_variable, of_symbol}
use Rattle.tptp.specs.Scanning.{Entry, mark, occurs, Relation, unrelated, related, same_token_kind, relation_ahead}
use Rattle.tptp.specs.Scanning as scanning
use Rattle.scanning.specs.declared.entries.Spot.{Spot}
use Rattle.scanning.specs.declared.entries.Spot.TheVariants.{AtomStart, InTerm, Elsewhere}
use Rattle.scanning.specs.declared.entries.Marks.{Marks}
use Rattle.scanning.specs.declared.entries.Marks.TheVariants.{None, Sign, Equality}
use Rattle.scanning.specs.declared.entries.Named.{Named}
use Rattle.scanning.specs.declared.entries.Named.TheVariants.{Nothing, Variable, Symbol}
use Rattle.scanning.specs.declared.entries.Entries.{Entries}

abbrev pub spot_in : Spot → scanning.Spot
spot_in (AtomStart c) = scanning.atom_start c
spot_in InTerm = scanning.in_term
spot_in Elsewhere = scanning.elsewhere

-- the marks in front of a literal
abbrev pub marks_in : Marks → List Word
marks_in None = []
marks_in (Sign b) = words.sign b ∷ []
marks_in (Equality b) = words.sign b ∷ words.equals ∷ []

-- what occurs with this name, a symbol having so many arguments
abbrev pub occurrences_in : Name → ℕ → Named → List Occurrence
occurrences_in n a Nothing = []
occurrences_in n a Variable = of_variable n ∷ []
occurrences_in n a (Symbol f) = of_symbol n (kind_of f) a ∷ []

-- the entries of the token with this name, and with so many arguments if it is a symbol
abbrev pub entries_in : Name → ℕ → Entries → List Entry
entries_in n a e = map mark (marks_in e.marks) ++ map occurs (occurrences_in n a e.named)

-- nothing in front
abbrev pub unmarked : Named → Entries
unmarked w = record { marks = None; named = w }

-- a word of this kind: a variable or a symbol
abbrev pub word_named : TokenKind → Bool → Named
word_named k f = cond (same_token_kind upper_word k) Variable (Symbol f)

-- a literal's first word of this kind before these items, by the relation that follows
abbrev pub atom_before : Bool → TokenKind → Relation → Entries
atom_before c k unrelated = record { marks = Sign (not c); named = word_named k false }
atom_before c k (related q) = record { marks = Equality (cond q (not c) false); named = word_named k true }

abbrev pub atom_entries : Bool → TokenKind → List Item → Entries
atom_entries c k us = atom_before c k (relation_ahead us 0)
