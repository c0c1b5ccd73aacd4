-- What is written is read: the tokens of a clause are read as that clause.
use mathlib.Core.Path.{◌≡◌, refl, ap, ◌∙◌}
use mathlib.Core.List.{List, [], ◌∷◌, ◌++◌, map, append_assoc}
use Rattle.theory.specs.Lists.{concat_map}
use Rattle.tptp.specs.Tokens.{TokenKind, lower_word, upper_word, digits, falsum, left_paren, right_paren, comma, full_stop, bar, tilde, equal_sign, unequal_sign, foreign, open_comment, TptpToken, is}
use Rattle.tptp.specs.Trees.{Name, NameTerm, name_variable, name_apply, NameTerms, no_terms, term_and, NameAtom, name_holds, name_equal, NameLiteral, never, plain, tilded, unequal, NameClause, Mark, bare, negative, differing, TreeReading, outer_lists, in_front, marked_literal, name_of, closed, read_kind, read_tokens}
use Rattle.tptp.specs.Written.{Item, lower, upper, sign, item_of, item, term_items, list_items, more_items, atom_items, literal_items}

-- any name
abbrev no_name : Name
no_name = record { bytes = []; place = 0 }

-- an item in front of what was read
abbrev pub read_item : Item → TreeReading → TreeReading
read_item (lower n) r = read_kind lower_word n r
read_item (upper n) r = read_kind upper_word n r
read_item (sign k) r = read_kind k no_name r

abbrev pub read_items : List Item → TreeReading
read_items [] = record { lists = []; arguments = no_terms; mark = bare; literals = [] }
read_items (i ∷ is) = read_item i (read_items is)

read-kind : (k : TokenKind) (n : Name) (r : TreeReading) → read_kind k n r ≡ read_item (item_of k n) r
read-kind lower_word n r = refl
read-kind upper_word n r = refl
read-kind digits n r = refl
read-kind falsum n r = refl
read-kind left_paren n r = refl
read-kind right_paren n r = refl
read-kind comma n r = refl
read-kind full_stop n r = refl
read-kind bar n r = refl
read-kind tilde n r = refl
read-kind equal_sign n r = refl
read-kind unequal_sign n r = refl
read-kind foreign n r = refl
read-kind open_comment n r = refl

-- what is read depends on what the tokens show
pub tokens-read : (ts : List TptpToken) → read_tokens ts ≡ read_items (map item ts)
tokens-read [] = refl
tokens-read (t ∷ ts) = read-kind t.kind (name_of t) (read_tokens ts) ∙ ap (read_item (item t)) (tokens-read ts)

-- a term in front of what was read
abbrev onto : NameTerm → TreeReading → TreeReading
onto t r = record { lists = in_front t r.lists; arguments = no_terms; mark = r.mark; literals = r.literals }

mutual
  term-read : (t : NameTerm) (is : List Item) → (read_items is).arguments ≡ no_terms → read_items (term_items t ++ is) ≡ onto t (read_items is)
  term-read (name_variable x) is h = refl
  term-read (name_apply f ts) is h = ap (read_kind lower_word f) (list_read ts is h)

  list_read : (ts : NameTerms) (is : List Item) → (read_items is).arguments ≡ no_terms
      → read_items (list_items ts ++ is) ≡ record { lists = (read_items is).lists; arguments = ts; mark = (read_items is).mark; literals = (read_items is).literals }
  list_read no_terms is h = ap (λ (ts : NameTerms). record { lists = (read_items is).lists; arguments = ts; mark = (read_items is).mark; literals = (read_items is).literals }) h
  list_read (term_and t ts) is h =
      ap (λ (l : List Item). read_kind left_paren no_name (read_items l)) (append_assoc (term_items t) (more_items ts) is)
      ∙ ap (read_kind left_paren no_name) (term-read t (more_items ts ++ is) (ap (λ (r : TreeReading). r.arguments) (more-read ts is)) ∙ ap (onto t) (more-read ts is))

  more-read : (ts : NameTerms) (is : List Item)
      → read_items (more_items ts ++ is) ≡ record { lists = ts ∷ (read_items is).lists; arguments = no_terms; mark = (read_items is).mark; literals = (read_items is).literals }
  more-read no_terms is = refl
  more-read (term_and t ts) is =
      ap read_items (append_assoc (term_items t) (more_items ts) is)
      ∙ term-read t (more_items ts ++ is) (ap (λ (r : TreeReading). r.arguments) (more-read ts is)) ∙ ap (onto t) (more-read ts is)

-- what was read where a literal has ended
abbrev pub ended : List NameTerms → NameClause → TreeReading
ended o ls = record { lists = no_terms ∷ o; arguments = no_terms; mark = bare; literals = ls }

-- a literal was read: its mark and its terms
pub record LiteralRead (o : List NameTerms) (ls : NameClause) (l : NameLiteral) (r : TreeReading) : Type 0 where
  pub whole : closed r ≡ l ∷ ls
  pub outside : outer_lists r.lists ≡ o

module _ (o : List NameTerms) (ls : NameClause) where
  -- the reading with these terms and this mark
  abbrev with : Mark → NameTerms → TreeReading
  with m ts = record { lists = ts ∷ o; arguments = no_terms; mark = m; literals = ls }

  pair_read : (k : TokenKind) (m : Mark) (t u : NameTerm) (is : List Item) → read_kind k no_name (with bare (term_and u no_terms)) ≡ with m (term_and u no_terms) → read_items is ≡ ended o ls
      → read_items ((term_items t ++ (sign k ∷ term_items u)) ++ is) ≡ with m (term_and t (term_and u no_terms))
  pair_read k m t u is q h =
      let second : read_items (sign k ∷ (term_items u ++ is)) ≡ with m (term_and u no_terms) =
      ap (read_kind k no_name) (term-read u is (ap (λ (r : TreeReading). r.arguments) h) ∙ ap (onto u) h) ∙ q in
      ap read_items (append_assoc (term_items t) (sign k ∷ term_items u) is)
      ∙ term-read t (sign k ∷ (term_items u ++ is)) (ap (λ (r : TreeReading). r.arguments) second) ∙ ap (onto t) second

  atom-read : (a : NameAtom) (is : List Item) → read_items is ≡ ended o ls → (ts : NameTerms) × (read_items (atom_items a ++ is) ≡ with bare ts) × (marked_literal bare ts ≡ plain a) × (marked_literal negative ts ≡ tilded a)
  atom-read (name_holds p ts) is h =
      (term_and (name_apply p ts) no_terms, ap (read_kind lower_word p) (list_read ts is (ap (λ (r : TreeReading). r.arguments) h) ∙ ap (λ (r : TreeReading). record { lists = r.lists; arguments = ts; mark = r.mark; literals = r.literals }) h), refl, refl)
  atom-read (name_equal t u) is h = (term_and t (term_and u no_terms), pair_read equal_sign bare t u is refl h, refl, refl)

  literal-read : (l : NameLiteral) (is : List Item) → read_items is ≡ ended o ls → LiteralRead o ls l (read_items (literal_items l ++ is))
  literal-read never is h = record { whole = ap closed h; outside = ap (λ (r : TreeReading). outer_lists r.lists) h }
  literal-read (plain a) is h =
      let r = atom-read a is h in
      record { whole = ap closed r.1 ∙ ap (λ (l : NameLiteral). l ∷ ls) r.2; outside = ap (λ (r : TreeReading). outer_lists r.lists) r.1 }
  literal-read (tilded a) is h =
      let r = atom-read a is h in
      record {
        whole = ap (λ (r : TreeReading). closed (read_kind tilde no_name r)) r.1 ∙ ap (λ (l : NameLiteral). l ∷ ls) r.3;
        outside = ap (λ (r : TreeReading). outer_lists r.lists) r.1;
      }
  literal-read (unequal t u) is h =
      let r = pair_read unequal_sign differing t u is refl h in
      record { whole = ap closed r; outside = ap (λ (r : TreeReading). outer_lists r.lists) r }

-- the literals after the first
others-read : (o : List NameTerms) (ls : NameClause) (is : List Item) → read_items is ≡ ended o [] → read_items (concat_map (λ (k : NameLiteral). sign bar ∷ literal_items k) ls ++ is) ≡ ended o ls
others-read o [] is h = h
others-read o (l ∷ ls) is h =
    let more : List Item = concat_map (λ (k : NameLiteral). sign bar ∷ literal_items k) ls in
    let r = literal-read o ls l (more ++ is) (others-read o ls is h) in
    ap (λ (x : List Item). read_kind bar no_name (read_items x)) (append_assoc (literal_items l) more is)
    ∙ ap (λ (c : NameClause). record { lists = no_terms ∷ outer_lists (read_items (literal_items l ++ (more ++ is))).lists; arguments = no_terms; mark = bare; literals = c }) r.whole
    ∙ ap (λ (o : List NameTerms). ended o (l ∷ ls)) r.outside

-- a clause's literals are read as the clause
pub clause-read : (l : NameLiteral) (ls : NameClause) (is : List Item) (o : List NameTerms) → read_items is ≡ ended o []
    → closed (read_items (literal_items l ++ (concat_map (λ (k : NameLiteral). sign bar ∷ literal_items k) ls ++ is))) ≡ l ∷ ls
clause-read l ls is o h = (literal-read o ls l (concat_map (λ (k : NameLiteral). sign bar ∷ literal_items k) ls ++ is) (others-read o ls is h)).whole
