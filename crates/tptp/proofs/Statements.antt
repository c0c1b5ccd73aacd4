-- Statements that are written are read, one after the other.
use Prim.Native.Nat.{ℕ}
use mathlib.Core.Path.{◌≡◌, refl, sym, ap, ◌∙◌}
use mathlib.Core.Bool.{Bool, true, false, cond, not}
use mathlib.Core.Option.{Option, none, some, some-injective}
use mathlib.Core.List.{List, [], ◌∷◌, ◌++◌, map, append_assoc, append-nil}
use native.Mathlib.Omega.{arith}
use lib.ListN.{length, drop}
use Rattle.theory.specs.Lists.{all, concat_map}
use Rattle.theory.specs.Bytes.{bytes}
use Rattle.theory.proofs.Tests.{and_left, and_right, and-join, false_of_not}
use Rattle.theory.proofs.Lists.{map-drop}
use Rattle.theory.proofs.Lists as lists
use Rattle.tptp.specs.Tokens.{TokenKind, lower_word, upper_word, digits, falsum, left_paren, right_paren, comma, full_stop, bar, tilde, equal_sign, unequal_sign, foreign, open_comment, TptpToken, is, tokens}
use Rattle.tptp.specs.Grammar.{DueToken, statement, due_after_token}
use Rattle.tptp.specs.Trees.{Name, name_of, NameTerm, name_variable, name_apply, NameTerms, no_terms, term_and, NameAtom, name_holds, name_equal, NameLiteral, never, plain, tilded, unequal, NameClause, Statement, closed, inside, statement_of}
use Rattle.tptp.specs.Written.{Item, lower, sign, item_of, item, term_items, list_items, more_items, atom_items, literal_items, Layout, clause_name, clause_items, written_clause, statement_items}
use Rattle.tptp.specs.Tptp.{File, with_statement, file_from, read_file, clauses_of_file}
use Rattle.tptp.specs.Scanning.{token_of}
use Rattle.tptp.specs.Claims.Places.{due_after_tokens}
use Rattle.tptp.proofs.Places.{going}
use Rattle.tptp.proofs.Reading.{read_items, tokens-read, clause-read}
use Rattle.tptp.proofs.Following.{due_items, due-shown, statement-due}

-- tokens that show one list after another are one list after another
pub map-split : (us vs : List Item) (ts : List TptpToken) → map item ts ≡ us ++ vs → (a : List TptpToken) × (b : List TptpToken) × (ts ≡ a ++ b) × (map item a ≡ us) × (map item b ≡ vs)
map-split [] vs ts e = ([], ts, refl, refl, e)
map-split (u ∷ us) vs [] e = let z : ◌≡◌ {A = ℕ} 0 1 = cc in absurd (omega arith)
map-split (u ∷ us) vs (t ∷ ts) e =
    let h : item t ≡ u = cc in
    let k : map item ts ≡ us ++ vs = cc in
    let r = map-split us vs ts k in
    (t ∷ r.0, r.1, ap (λ (l : List TptpToken). t ∷ l) r.2, ap (λ (l : List Item). item t ∷ l) r.3 ∙ ap (λ (i : Item). i ∷ us) h, r.4)

-- tokens that may stand one list after another
pub all_split : (a c : List TptpToken) (d x : DueToken) → due_after_tokens d (a ++ c) ≡ some x → (e : DueToken) × (due_after_tokens d a ≡ some e) × (due_after_tokens e c ≡ some x)
all_split [] c d x h = (d, refl, h)
all_split (t ∷ a) c d x h = go (due_after_token d t) refl h (λ f k. all_split a c f x k)
  where
    go : (o : Option DueToken) → due_after_token d t ≡ o → (elim o as (λ _. Option DueToken) [ some f ↦ due_after_tokens f (a ++ c) | none ↦ none ]) ≡ some x
        → ((f : DueToken) → due_after_tokens f (a ++ c) ≡ some x → (e : DueToken) × (due_after_tokens f a ≡ some e) × (due_after_tokens e c ≡ some x))
        → (e : DueToken) × (due_after_tokens d (t ∷ a) ≡ some e) × (due_after_tokens e c ≡ some x)
    go none q h ih = let z : ◌≡◌ {A = ℕ} 0 1 = cc in absurd (omega arith)
    go (some f) q h ih =
        let r = ih f h in
        (r.0, ap (λ (o : Option DueToken). elim o as (λ _. Option DueToken) [ some f ↦ due_after_tokens f a | none ↦ none ]) q ∙ r.1, r.2)

-- the token is no full stop
abbrev pub goes_on : TptpToken → Bool
goes_on t = not (is full_stop t)

-- tokens up to a full stop are a statement of the file
pub whole-statement : (n : ℕ) (a b : List TptpToken) (t : TptpToken) (before : List TptpToken) (d e f : DueToken) → all goes_on a ≡ true → is full_stop t ≡ true → due_after_tokens d a ≡ some e → due_after_token e t ≡ some f
    → file_from n (a ++ (t ∷ b)) before d ≡ with_statement (statement_of ((before ++ a) ++ (t ∷ []))) (file_from n b [] f)
whole-statement n [] b t before d e f g h k m =
    let q : due_after_token d t ≡ some f = ap (λ (d : DueToken). due_after_token d t) (some-injective d e k) ∙ m in
    ap (going n t b before) q
    ∙ ap (λ (q : Bool). elim q as (λ _. File) [ true ↦ with_statement (statement_of (before ++ (t ∷ []))) (file_from n b [] f) | false ↦ file_from n b (before ++ (t ∷ [])) f ]) h
    ∙ ap (λ (l : List TptpToken). with_statement (statement_of (l ++ (t ∷ []))) (file_from n b [] f)) (sym (append-nil before))
whole-statement n (u ∷ a) b t before d e f g h k m = go (due_after_token d u) refl k (λ x y. whole-statement n a b t (before ++ (u ∷ [])) x e f (and_right (goes_on u) (all goes_on a) g) h y m)
  where
    go : (o : Option DueToken) → due_after_token d u ≡ o → (elim o as (λ _. Option DueToken) [ some f ↦ due_after_tokens f a | none ↦ none ]) ≡ some e
        → ((x : DueToken) → due_after_tokens x a ≡ some e → file_from n (a ++ (t ∷ b)) (before ++ (u ∷ [])) x ≡ with_statement (statement_of (((before ++ (u ∷ [])) ++ a) ++ (t ∷ []))) (file_from n b [] f))
        → file_from n (u ∷ (a ++ (t ∷ b))) before d ≡ with_statement (statement_of ((before ++ (u ∷ a)) ++ (t ∷ []))) (file_from n b [] f)
    go none q k ih = let z : ◌≡◌ {A = ℕ} 0 1 = cc in absurd (omega arith)
    go (some x) q k ih =
        ap (going n u (a ++ (t ∷ b)) before) q
        ∙ ap (λ (q : Bool). elim q as (λ _. File) [ true ↦ with_statement (statement_of (before ++ (u ∷ []))) (file_from n (a ++ (t ∷ b)) [] x) | false ↦ file_from n (a ++ (t ∷ b)) (before ++ (u ∷ [])) x ])
        (false_of_not (is full_stop u) (and_left (goes_on u) (all goes_on a) g))
        ∙ ih x k
        ∙ ap (λ (l : List TptpToken). with_statement (statement_of (l ++ (t ∷ []))) (file_from n b [] f)) (append_assoc before (u ∷ []) a)

-- a token has the kind that it shows
pub kind-shown : (k : TokenKind) (n : Name) → (token_of (item_of k n)).kind ≡ k
kind-shown lower_word n = refl
kind-shown upper_word n = refl
kind-shown digits n = refl
kind-shown falsum n = refl
kind-shown left_paren n = refl
kind-shown right_paren n = refl
kind-shown comma n = refl
kind-shown full_stop n = refl
kind-shown bar n = refl
kind-shown tilde n = refl
kind-shown equal_sign n = refl
kind-shown unequal_sign n = refl
kind-shown foreign n = refl
kind-shown open_comment n = refl

is-shown : (k : TokenKind) (t : TptpToken) → is k (token_of (item t)) ≡ is k t
is-shown k t = ap (λ (l : TokenKind). is k (record { kind = l; name = []; place = 0 })) (kind-shown t.kind (name_of t))

-- the item is no full stop
abbrev on : Item → Bool
on i = not (is full_stop (token_of i))

shown-on : (ts : List TptpToken) (us : List Item) → map item ts ≡ us → all on us ≡ true → all goes_on ts ≡ true
shown-on ts us e h = go ts (ap (all on) e ∙ h)
  where
    go : (ts : List TptpToken) → all on (map item ts) ≡ true → all goes_on ts ≡ true
    go [] h = refl
    go (t ∷ ts) h = and-join (goes_on t) (all goes_on ts) (ap not (sym (is-shown full_stop t)) ∙ and_left (on (item t)) (all on (map item ts)) h) (go ts (and_right (on (item t)) (all on (map item ts)) h))

both-on : (us vs : List Item) → all on us ≡ true → all on vs ≡ true → all on (us ++ vs) ≡ true
both-on us vs h k = lists.all_append on us vs ∙ and-join (all on us) (all on vs) h k

mutual
  term-on : (t : NameTerm) → all on (term_items t) ≡ true
  term-on (name_variable x) = refl
  term-on (name_apply f ts) = list_on ts

  list_on : (ts : NameTerms) → all on (list_items ts) ≡ true
  list_on no_terms = refl
  list_on (term_and t ts) = both-on (term_items t) (more_items ts) (term-on t) (more-on ts)

  more-on : (ts : NameTerms) → all on (more_items ts) ≡ true
  more-on no_terms = refl
  more-on (term_and t ts) = both-on (term_items t) (more_items ts) (term-on t) (more-on ts)

atom-on : (a : NameAtom) → all on (atom_items a) ≡ true
atom-on (name_holds p ts) = list_on ts
atom-on (name_equal t u) = both-on (term_items t) (sign equal_sign ∷ term_items u) (term-on t) (term-on u)

literal-on : (l : NameLiteral) → all on (literal_items l) ≡ true
literal-on never = refl
literal-on (plain a) = atom-on a
literal-on (tilded a) = atom-on a
literal-on (unequal t u) = both-on (term_items t) (sign unequal_sign ∷ term_items u) (term-on t) (term-on u)

others-on : (ls : List NameLiteral) → all on (concat_map (λ (k : NameLiteral). sign bar ∷ literal_items k) ls) ≡ true
others-on [] = refl
others-on (l ∷ ls) = both-on (literal_items l) (concat_map (λ (k : NameLiteral). sign bar ∷ literal_items k) ls) (literal-on l) (others-on ls)

module _ (l : Layout) where
  abbrev more : List Item
  more = concat_map (λ (k : NameLiteral). sign bar ∷ literal_items k) l.others

  clause-on : all on (clause_items l) ≡ true
  clause-on = both-on (literal_items l.first) more (literal-on l.first) (others-on l.others)

  -- the statement without its full stop
  abbrev inner : Bool → List Item
  inner w = cond w (sign left_paren ∷ (clause_items l ++ (sign right_paren ∷ []))) (clause_items l) ++ (sign right_paren ∷ [])

  abbrev front : List Item
  front =
      lower (record { bytes = bytes "cnf"; place = l.start })
      ∷ sign left_paren ∷ clause_name l.name ∷ sign comma ∷ lower l.role ∷ sign comma ∷ inner l.wrapped

  front-stop : statement_items l ≡ front ++ (sign full_stop ∷ [])
  front-stop =
      ap (λ (us : List Item). lower (record { bytes = bytes "cnf"; place = l.start }) ∷ sign left_paren ∷ clause_name l.name ∷ sign comma ∷ lower l.role ∷ sign comma ∷ us)
      (sym (append_assoc (cond l.wrapped (sign left_paren ∷ (clause_items l ++ (sign right_paren ∷ []))) (clause_items l)) (sign right_paren ∷ []) (sign full_stop ∷ [])))

  inner-on : (w : Bool) → all on (inner w) ≡ true
  inner-on true = both-on (clause_items l ++ (sign right_paren ∷ [])) (sign right_paren ∷ []) (both-on (clause_items l) (sign right_paren ∷ []) clause-on refl) refl
  inner-on false = both-on (clause_items l) (sign right_paren ∷ []) clause-on refl

  front-on : all on front ≡ true
  front-on = go l.name
    where
      go : (o : Option Name) → all on (clause_name o ∷ sign comma ∷ lower l.role ∷ sign comma ∷ inner l.wrapped) ≡ true
      go (some n) = inner-on l.wrapped
      go none = inner-on l.wrapped

  -- the parenthesis round the clause is left out
  abbrev inside_items : List Item → List Item
  inside_items [] = []
  inside_items (i ∷ us) = cond (is left_paren (token_of i)) us (i ∷ us)

  inside-shown : (ts : List TptpToken) → map item (inside ts) ≡ inside_items (map item ts)
  inside-shown [] = refl
  inside-shown (t ∷ ts) = go (is left_paren t) (is left_paren (token_of (item t))) (is-shown left_paren t)
    where
      go : (p q : Bool) → q ≡ p → map item (cond p ts (t ∷ ts)) ≡ cond q (map item ts) (item t ∷ map item ts)
      go true q e = sym (ap (λ (q : Bool). cond q (map item ts) (item t ∷ map item ts)) e)
      go false q e = sym (ap (λ (q : Bool). cond q (map item ts) (item t ∷ map item ts)) e)

  no-paren : (k : NameLiteral) (us : List Item) → inside_items (literal_items k ++ us) ≡ literal_items k ++ us
  no-paren never us = refl
  no-paren (plain (name_holds p ts)) us = refl
  no-paren (plain (name_equal (name_variable x) u)) us = refl
  no-paren (plain (name_equal (name_apply f ts) u)) us = refl
  no-paren (tilded a) us = refl
  no-paren (unequal (name_variable x) u) us = refl
  no-paren (unequal (name_apply f ts) u) us = refl

  body-read : (w : Bool) → closed (read_items (inside_items (cond w (sign left_paren ∷ (clause_items l ++ (sign right_paren ∷ []))) (clause_items l) ++ (sign right_paren ∷ sign full_stop ∷ [])))) ≡ written_clause l
  body-read true =
      let rest : List Item = sign right_paren ∷ sign full_stop ∷ [] in
      ap (λ (us : List Item). closed (read_items us)) (append_assoc (clause_items l) (sign right_paren ∷ []) rest ∙ append_assoc (literal_items l.first) more (sign right_paren ∷ rest))
      ∙ clause-read l.first l.others (sign right_paren ∷ rest) (no_terms ∷ []) refl
  body-read false =
      let rest : List Item = sign right_paren ∷ sign full_stop ∷ [] in
      ap (λ (us : List Item). closed (read_items (inside_items us))) (append_assoc (literal_items l.first) more rest)
      ∙ ap (λ (us : List Item). closed (read_items us)) (no-paren l.first (more ++ rest))
      ∙ clause-read l.first l.others rest [] refl

  statement-read : (ts : List TptpToken) → map item ts ≡ statement_items l → (statement_of ts).clause ≡ written_clause l
  unfolding statement_of
  statement-read ts e =
      ap closed (tokens-read (inside (drop 6 ts)))
      ∙ ap (λ (us : List Item). closed (read_items us)) (inside-shown (drop 6 ts) ∙ ap inside_items (map-drop item 6 ts ∙ ap (drop 6) e))
      ∙ body-read l.wrapped

  -- a statement that is written is the next statement of the file
  pub one-read : (n : ℕ) (ts b : List TptpToken) → map item ts ≡ statement_items l → (s : Statement) × (s.clause ≡ written_clause l) × (file_from n (ts ++ b) [] statement ≡ with_statement s (file_from n b [] statement))
  one-read n ts b e = go (map-split front (sign full_stop ∷ []) ts (e ∙ front-stop))
    where
      follows : due_after_tokens statement ts ≡ some statement
      follows = due-shown ts statement ∙ ap (due_items statement) (e ∙ sym (append-nil (statement_items l))) ∙ statement-due l []

      Goal : Type 0
      Goal = (s : Statement) × (s.clause ≡ written_clause l) × (file_from n (ts ++ b) [] statement ≡ with_statement s (file_from n b [] statement))

      single : (d : DueToken) (t : TptpToken) → due_after_tokens d (t ∷ []) ≡ some statement → due_after_token d t ≡ some statement
      single d t h = one (due_after_token d t) h
        where
          one : (o : Option DueToken) → (elim o as (λ _. Option DueToken) [ some e ↦ some e | none ↦ none ]) ≡ some statement → o ≡ some statement
          one (some f) h = h
          one none h = h

      at-stop : (a : List TptpToken) (t : TptpToken) → ts ≡ a ++ (t ∷ []) → map item a ≡ front → item t ≡ sign full_stop → Goal
      at-stop a t q h k =
          let r = all_split a (t ∷ []) statement statement (ap (due_after_tokens statement) (sym q) ∙ follows) in
          let stopped : is full_stop t ≡ true = sym (is-shown full_stop t) ∙ ap (λ (i : Item). is full_stop (token_of i)) k in
          let w = whole-statement n a b t [] statement r.0 statement (shown-on a front h front-on) stopped r.1 (single r.0 t r.2) in (
            statement_of (a ++ (t ∷ [])),
            statement-read (a ++ (t ∷ [])) (ap (map item) (sym q) ∙ e),
            ap (λ (x : List TptpToken). file_from n (x ++ b) [] statement) q ∙ ap (λ (x : List TptpToken). file_from n x [] statement) (append_assoc a (t ∷ []) b) ∙ w,
          )

      go : (a : List TptpToken) × (c : List TptpToken) × (ts ≡ a ++ c) × (map item a ≡ front) × (map item c ≡ sign full_stop ∷ []) → Goal
      go r = last r.1 r.2 r.4
        where
          last : (c : List TptpToken) → ts ≡ r.0 ++ c → map item c ≡ sign full_stop ∷ [] → Goal
          last [] q k = let z : ◌≡◌ {A = ℕ} 0 1 = cc in absurd (omega arith)
          last (t ∷ []) q k = at-stop r.0 t q r.3 (cc)
          last (t ∷ u ∷ c) q k = let z : ◌≡◌ {A = ℕ} 0 1 = cc in absurd (omega arith)

-- all statements are read
file-read : (n : ℕ) (ls : List Layout) (ts : List TptpToken) → map item ts ≡ concat_map statement_items ls
    → ((file_from n ts [] statement).foreign ≡ none) × (map (λ (s : Statement). s.clause) (file_from n ts [] statement).statements ≡ map written_clause ls)
file-read n [] [] e = (refl, refl)
file-read n [] (t ∷ ts) e = let z : ◌≡◌ {A = ℕ} 0 1 = cc in absurd (omega arith)
file-read n (l ∷ ls) ts e =
    let r = map-split (statement_items l) (concat_map statement_items ls) ts e in
    let o = one-read l n r.0 r.1 r.3 in
    let ih = file-read n ls r.1 r.4 in
    let q : file_from n ts [] statement ≡ with_statement o.0 (file_from n r.1 [] statement) = ap (λ (ts : List TptpToken). file_from n ts [] statement) r.2 ∙ o.2 in (
      ap (λ (f : File). f.foreign) q ∙ ih.0,
      ap (λ (f : File). map (λ (s : Statement). s.clause) f.statements) q ∙ ap (λ (c : NameClause). c ∷ map (λ (s : Statement). s.clause) (file_from n r.1 [] statement).statements) o.1
          ∙ ap (λ (cs : List NameClause). written_clause l ∷ cs) ih.1,
    )

pub read : (text : List ℕ) (ls : List Layout) → map item (tokens text) ≡ concat_map statement_items ls → ((read_file text).foreign ≡ none) × (clauses_of_file (read_file text) ≡ map written_clause ls)
unfolding read_file
read text ls e = file-read (length text) ls (tokens text) e
