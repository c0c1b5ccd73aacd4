-- The words of a clause told token by token, by looking ahead: a literal's sign and =, each variable, each symbol with its arguments and whether it is a function or a predicate.
-- No tree is made and no list is kept.
use Rattle.std.specs.Prelude.{ℕ, zero, suc, Bool, true, false, not, List, [], ◌∷◌, ◌++◌, map, eqb}
use Rattle.std.proofs.Math.Option.{none, some}
use Rattle.theory.specs.Lists.{concat_map}
use Rattle.theory.specs.Syntax.{Kind, function, predicate, Signature}
use Rattle.theory.specs.Grammar.{Word, equals, symbol, letter}
use Rattle.theory.specs.Grammar as words
use Rattle.tptp.specs.Tokens.{TokenKind, lower_word, upper_word, left_paren, right_paren, comma, full_stop, equal_sign, unequal_sign, kind_number, TptpToken, is}
use Rattle.tptp.specs.Grammar.{first, second, DueToken, statement, opening, name, name_comma, role, role_comma, clause, literal, literal_end, term, word_end, term_end, equality, closing, stop, due_after_token}
use Rattle.tptp.specs.Trees.{NameAtom, name_holds, name_equal, NameLiteral, never, plain, tilded, unequal, NameClause}
use Rattle.tptp.specs.Written.{Item, lower, upper, sign}
use Rattle.tptp.specs.Symbols.{Occurrence, of_variable, of_symbol, literal_occurrences, letter_of_name, symbol_of_name}

-- a token that shows the item
abbrev pub token_of : Item → TptpToken
token_of (lower n) = record { kind = lower_word; name = n.bytes; place = n.place }
token_of (upper n) = record { kind = upper_word; name = n.bytes; place = n.place }
token_of (sign k) = record { kind = k; name = []; place = 0 }

-- the two kinds are the same
abbrev pub same_token_kind : TokenKind → TokenKind → Bool
same_token_kind k l = eqb (kind_number k) (kind_number l)

-- the commas of the argument list that is open here, n lists being open inside it
abbrev pub commas : List Item → ℕ → ℕ
commas [] zero = 0
commas [] (suc n) = 0
commas (lower x ∷ us) zero = commas us zero
commas (upper x ∷ us) zero = commas us zero
commas (lower x ∷ us) (suc n) = commas us (suc n)
commas (upper x ∷ us) (suc n) = commas us (suc n)
commas (sign k ∷ us) zero =
    elim (same_token_kind left_paren k) [ true ↦ commas us 1 | false ↦ elim (same_token_kind right_paren k) [ true ↦ 0 | false ↦ elim (same_token_kind comma k) [ true ↦ suc (commas us zero) | false ↦ commas us zero ] ] ]
commas (sign k ∷ us) (suc n) = elim (same_token_kind left_paren k) [ true ↦ commas us (suc (suc n)) | false ↦ elim (same_token_kind right_paren k) [ true ↦ commas us n | false ↦ commas us (suc n) ] ]

-- how many arguments follow a word
abbrev pub arity_ahead : List Item → ℕ
arity_ahead [] = 0
arity_ahead (lower x ∷ us) = 0
arity_ahead (upper x ∷ us) = 0
arity_ahead (sign k ∷ us) = elim (same_token_kind left_paren k) [ true ↦ suc (commas us 0) | false ↦ 0 ]

-- what stands between a literal's two terms: = (true) or != (false); or the literal has no second term
pub data Relation : Type 0 where
  unrelated : Relation
  related : Bool → Relation

-- the relation that a sign is
abbrev pub relation_of : TokenKind → Relation
relation_of k = elim (same_token_kind equal_sign k) [ true ↦ related true | false ↦ elim (same_token_kind unequal_sign k) [ true ↦ related false | false ↦ unrelated ] ]

-- the relation that follows, when the n open lists have ended
abbrev pub relation_ahead : List Item → ℕ → Relation
relation_ahead [] zero = unrelated
relation_ahead [] (suc n) = unrelated
relation_ahead (lower x ∷ us) zero = unrelated
relation_ahead (upper x ∷ us) zero = unrelated
relation_ahead (lower x ∷ us) (suc n) = relation_ahead us (suc n)
relation_ahead (upper x ∷ us) (suc n) = relation_ahead us (suc n)
relation_ahead (sign k ∷ us) zero = elim (same_token_kind left_paren k) [ true ↦ relation_ahead us 1 | false ↦ relation_of k ]
relation_ahead (sign k ∷ us) (suc n) =
    elim (same_token_kind left_paren k) [ true ↦ relation_ahead us (suc (suc n)) | false ↦ elim (same_token_kind right_paren k) [ true ↦ relation_ahead us n | false ↦ relation_ahead us (suc n) ] ]

-- where a word stands: as an atom or a literal's first term, ~ standing before it or not; as another term; or in no clause
pub data Spot : Type 0 where
  atom_start : Bool → Spot
  in_term elsewhere : Spot

-- where a token stands, if this is due
abbrev pub spot : DueToken → Spot
spot clause = atom_start false
spot (literal b) = atom_start false
spot (term b (first c) zero) = atom_start c
spot (term b second zero) = in_term
spot (term b s (suc n)) = in_term
spot statement = elsewhere
spot opening = elsewhere
spot name = elsewhere
spot name_comma = elsewhere
spot role = elsewhere
spot role_comma = elsewhere
spot (literal_end b) = elsewhere
spot (word_end b s n) = elsewhere
spot (term_end b s n) = elsewhere
spot (equality b c) = elsewhere
spot closing = elsewhere
spot stop = elsewhere

-- a word of the sheet's clause before names are numbered: a sign or =, or what a variable or symbol becomes
pub data Entry : Type 0 where
  mark : Word → Entry
  occurs : Occurrence → Entry

-- a literal's sign, and = before the terms of an equality; the Bool tells whether ~ stands before it
abbrev pub marks : Bool → Relation → List Entry
marks c unrelated = mark (words.sign (not c)) ∷ []
marks c (related true) = mark (words.sign (not c)) ∷ mark equals ∷ []
marks c (related false) = mark (words.sign false) ∷ mark equals ∷ []

-- a word that = or != follows is a function, else a predicate
abbrev pub kind_before : Relation → Kind
kind_before unrelated = predicate
kind_before (related b) = function

-- what an item adds, before these items
abbrev pub entries_at : Spot → Item → List Item → List Entry
entries_at elsewhere (lower n) us = []
entries_at elsewhere (upper n) us = []
entries_at elsewhere (sign k) us = []
entries_at in_term (lower n) us = occurs (of_symbol n function (arity_ahead us)) ∷ []
entries_at in_term (upper n) us = occurs (of_variable n) ∷ []
entries_at in_term (sign k) us = []
entries_at (atom_start c) (lower n) us = marks c (relation_ahead us 0) ++ (occurs (of_symbol n (kind_before (relation_ahead us 0)) (arity_ahead us)) ∷ [])
entries_at (atom_start c) (upper n) us = marks c (relation_ahead us 0) ++ (occurs (of_variable n) ∷ [])
entries_at (atom_start c) (sign k) us = []

-- the entries from here on up to the statement's full stop, where d is due
abbrev pub entries : List Item → DueToken → List Entry
entries [] d = []
entries (i ∷ us) d =
    entries_at (spot d) i us
    ++ (elim (is full_stop (token_of i)) as (λ _. List Entry) [ true ↦ [] | false ↦ elim (due_after_token d (token_of i)) as (λ _. List Entry) [ some e ↦ entries us e | none ↦ [] ] ])

-- the signs and = of a literal
abbrev pub atom_marks : NameAtom → List Word
atom_marks (name_holds p ts) = []
atom_marks (name_equal t u) = equals ∷ []

abbrev pub literal_marks : NameLiteral → List Word
literal_marks never = []
literal_marks (plain a) = words.sign true ∷ atom_marks a
literal_marks (tilded a) = words.sign false ∷ atom_marks a
literal_marks (unequal t u) = words.sign false ∷ equals ∷ []

-- the entries of a clause as its tree has them
abbrev pub literal_entries : NameLiteral → List Entry
literal_entries l = map mark (literal_marks l) ++ map occurs (literal_occurrences l)

abbrev pub clause_entries : NameClause → List Entry
clause_entries c = concat_map literal_entries c

-- the variables and symbols among entries
abbrev pub occurrence_in : Entry → List Occurrence
occurrence_in (mark w) = []
occurrence_in (occurs o) = o ∷ []

-- the word that an entry becomes over a signature, the variables xs becoming letters
abbrev pub occurrence_word : Signature → List (List ℕ) → Occurrence → Word
occurrence_word g xs (of_variable x) = letter (letter_of_name xs x.bytes)
occurrence_word g xs (of_symbol f k n) = symbol (symbol_of_name g f.bytes)

abbrev pub entry_word : Signature → List (List ℕ) → Entry → Word
entry_word g xs (mark w) = w
entry_word g xs (occurs o) = occurrence_word g xs o
