-- Clauses of TPTP as trees over names, and the tree that the tokens of a statement are.
use Rattle.std.specs.Prelude.{ℕ, zero, suc, ◌-◌, Bool, true, false, cond, List, [], ◌∷◌, ◌++◌, length, get_or, drop}
use Rattle.tptp.specs.Tokens.{TokenKind, lower_word, upper_word, digits, falsum, left_paren, right_paren, comma, full_stop, bar, tilde, equal_sign, unequal_sign, foreign, open_comment, TptpToken, is}

-- a name where it stands in the text: its bytes, and how many bytes stand before it
pub record Name : Type 0 where
  pub bytes : List ℕ
  pub place : ℕ

-- A term is a variable, or a function with its arguments.
mutual
  pub data NameTerm : Type 0 where
    name_variable : Name → NameTerm
    name_apply : Name → NameTerms → NameTerm

  pub data NameTerms : Type 0 where
    no_terms : NameTerms
    term_and : NameTerm → NameTerms → NameTerms

-- An atom is a predicate with its arguments, or an equality of two terms.
pub data NameAtom : Type 0 where
  name_holds : Name → NameTerms → NameAtom
  name_equal : NameTerm → NameTerm → NameAtom

-- A literal is $false, an atom, ~ and an atom, or an inequality of two terms.
pub data NameLiteral : Type 0 where
  never : NameLiteral
  plain : NameAtom → NameLiteral
  tilded : NameAtom → NameLiteral
  unequal : NameTerm → NameTerm → NameLiteral

-- a clause: its literals
abbrev pub NameClause : Type 0
NameClause = List NameLiteral

-- a statement: the place of its cnf, its clause, the place of its full stop; its name and its role are forgotten
pub record Statement : Type 0 where
  pub start : ℕ
  pub clause : NameClause
  pub stop : ℕ

-- what stands before a literal's terms or between them: nothing or = (bare), ~ (negative), or != (differing)
pub data Mark : Type 0 where
  bare negative differing : Mark

-- what was read from the end of the tokens up to here
pub record TreeReading : Type 0 where
  -- the lists of terms that end further on and have not begun yet, the innermost first; the last is that of the literal
  pub lists : List NameTerms
  -- the arguments that begin just here
  pub arguments : NameTerms
  -- the mark of the literal
  pub mark : Mark
  -- the literals further on
  pub literals : NameClause

-- the innermost list
abbrev pub innermost_list : List NameTerms → NameTerms
innermost_list [] = no_terms
innermost_list (ts ∷ l) = ts

-- the lists outside it
abbrev pub outer_lists : List NameTerms → List NameTerms
outer_lists [] = []
outer_lists (ts ∷ l) = l

-- a term in front of the innermost list
abbrev pub in_front : NameTerm → List NameTerms → List NameTerms
in_front t l = term_and t (innermost_list l) ∷ outer_lists l

-- a predicate with its arguments
abbrev pub atom_of : NameTerm → NameAtom
atom_of (name_apply p ts) = name_holds p ts
atom_of (name_variable x) = name_holds x no_terms

-- an atom, or ~ and an atom
abbrev pub signed : Mark → NameAtom → NameLiteral
signed bare a = plain a
signed negative a = tilded a
signed differing a = plain a

-- two terms: equal, or not equal
abbrev pub relation : Mark → NameTerm → NameTerm → NameLiteral
relation bare t u = plain (name_equal t u)
relation negative t u = tilded (name_equal t u)
relation differing t u = unequal t u

-- the literal of a mark and its terms: none is $false, one is an atom, two are an equality
abbrev pub marked_literal : Mark → NameTerms → NameLiteral
marked_literal m no_terms = never
marked_literal m (term_and t no_terms) = signed m (atom_of t)
marked_literal m (term_and t (term_and u ts)) = relation m t u

-- the name that a token is
abbrev pub name_of : TptpToken → Name
name_of t = record { bytes = t.name; place = t.place }

-- the literal that begins just here in front of those further on
abbrev pub closed : TreeReading → NameClause
closed r = marked_literal r.mark (innermost_list r.lists) ∷ r.literals

-- a token of this kind and name in front of what was read
abbrev pub read_kind : TokenKind → Name → TreeReading → TreeReading
read_kind lower_word n r = record { lists = in_front (name_apply n r.arguments) r.lists; arguments = no_terms; mark = r.mark; literals = r.literals }
read_kind upper_word n r = record { lists = in_front (name_variable n) r.lists; arguments = no_terms; mark = r.mark; literals = r.literals }
read_kind left_paren n r = record { lists = outer_lists r.lists; arguments = innermost_list r.lists; mark = r.mark; literals = r.literals }
read_kind right_paren n r = record { lists = no_terms ∷ r.lists; arguments = no_terms; mark = r.mark; literals = r.literals }
read_kind bar n r = record { lists = no_terms ∷ outer_lists r.lists; arguments = no_terms; mark = bare; literals = closed r }
read_kind tilde n r = record { lists = r.lists; arguments = no_terms; mark = negative; literals = r.literals }
read_kind unequal_sign n r = record { lists = r.lists; arguments = no_terms; mark = differing; literals = r.literals }
read_kind equal_sign n r = r
read_kind comma n r = r
read_kind falsum n r = r
read_kind full_stop n r = r
read_kind digits n r = r
read_kind foreign n r = r
read_kind open_comment n r = r

-- the tokens read from the last to the first
abbrev pub read_tokens : List TptpToken → TreeReading
read_tokens [] = record { lists = []; arguments = no_terms; mark = bare; literals = [] }
read_tokens (t ∷ ts) = read_kind t.kind (name_of t) (read_tokens ts)

-- the tokens after the parenthesis round the whole clause, if there is one
abbrev pub inside : List TptpToken → List TptpToken
inside [] = []
inside (t ∷ ts) = cond (is left_paren t) ts (t ∷ ts)

-- what stands for a token past the end
abbrev pub no_token : TptpToken
no_token = record { kind = foreign; name = []; place = 0 }

-- the statement that the tokens are: the clause stands after cnf ( name , role ,
unfoldable pub statement_of : List TptpToken → Statement
statement_of ts =
    record {
      start = (get_or ts 0 no_token).place;
      clause = closed (read_tokens (inside (drop 6 ts)));
      stop = (get_or ts (length ts - 1) no_token).place;
    }
