-- How clauses and statements are written: the concrete syntax of the trees, as what tokens show.
use Rattle.std.specs.Prelude.{ℕ, Bool, true, false, cond, List, [], ◌∷◌, ◌++◌, map}
use Rattle.std.proofs.Math.Option.{Option, none, some}
use Rattle.theory.specs.Lists.{concat_map}
use Rattle.theory.specs.Bytes.{bytes}
use Rattle.tptp.specs.Tokens.{TokenKind, lower_word, upper_word, digits, falsum, left_paren, right_paren, comma, full_stop, bar, tilde, equal_sign, unequal_sign, foreign, open_comment, TptpToken}
use Rattle.tptp.specs.Trees.{Name, NameTerm, name_variable, name_apply, NameTerms, no_terms, term_and, NameAtom, name_holds, name_equal, NameLiteral, never, plain, tilded, unequal, NameClause, name_of}

-- what a token shows: a word with its name and place, or its kind alone
pub data Item : Type 0 where
  lower : Name → Item
  upper : Name → Item
  sign : TokenKind → Item

-- what a token of this kind and name shows
abbrev pub item_of : TokenKind → Name → Item
item_of lower_word n = lower n
item_of upper_word n = upper n
item_of digits n = sign digits
item_of falsum n = sign falsum
item_of left_paren n = sign left_paren
item_of right_paren n = sign right_paren
item_of comma n = sign comma
item_of full_stop n = sign full_stop
item_of bar n = sign bar
item_of tilde n = sign tilde
item_of equal_sign n = sign equal_sign
item_of unequal_sign n = sign unequal_sign
item_of foreign n = sign foreign
item_of open_comment n = sign open_comment

-- what a token shows
abbrev pub item : TptpToken → Item
item t = item_of t.kind (name_of t)

-- a term: a variable, or a function and its arguments
abbrev mutual
  pub term_items : NameTerm → List Item
  term_items (name_variable x) = upper x ∷ []
  term_items (name_apply f ts) = lower f ∷ list_items ts

  -- arguments: nothing, or terms in parentheses with commas between
  pub list_items : NameTerms → List Item
  list_items no_terms = []
  list_items (term_and t ts) = sign left_paren ∷ (term_items t ++ more_items ts)

  -- the arguments after the first
  pub more_items : NameTerms → List Item
  more_items no_terms = sign right_paren ∷ []
  more_items (term_and t ts) = sign comma ∷ (term_items t ++ more_items ts)

-- an atom: a predicate and its arguments, or term = term
abbrev pub atom_items : NameAtom → List Item
atom_items (name_holds p ts) = lower p ∷ list_items ts
atom_items (name_equal t u) = term_items t ++ (sign equal_sign ∷ term_items u)

-- a literal: $false, atom, ~ atom, or term != term
abbrev pub literal_items : NameLiteral → List Item
literal_items never = sign falsum ∷ []
literal_items (plain a) = atom_items a
literal_items (tilded a) = sign tilde ∷ atom_items a
literal_items (unequal t u) = term_items t ++ (sign unequal_sign ∷ term_items u)

-- a statement as it is written: the place of cnf, the clause's name (none for digits), its role, whether the clause is in parentheses, its first literal and the others
pub record Layout : Type 0 where
  pub start : ℕ
  pub name : Option Name
  pub role : Name
  pub wrapped : Bool
  pub first : NameLiteral
  pub others : List NameLiteral

-- its clause
abbrev pub written_clause : Layout → NameClause
written_clause l = l.first ∷ l.others

-- the clause's name: a lower word or digits
abbrev pub clause_name : Option Name → Item
clause_name (some n) = lower n
clause_name none = sign digits

-- a clause: literals with | between
abbrev pub clause_items : Layout → List Item
clause_items l = literal_items l.first ++ concat_map (λ (k : NameLiteral). sign bar ∷ literal_items k) l.others

-- cnf ( name , role , clause ) .
abbrev pub statement_items : Layout → List Item
statement_items l =
    lower (record { bytes = bytes "cnf"; place = l.start })
    ∷ sign left_paren ∷ clause_name l.name ∷ sign comma ∷ lower l.role ∷ sign comma
    ∷ (cond l.wrapped (sign left_paren ∷ (clause_items l ++ (sign right_paren ∷ []))) (clause_items l) ++ (sign right_paren ∷ sign full_stop ∷ []))
