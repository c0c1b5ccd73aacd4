-- What is written may stand where it stands: the tokens of a statement are followed to the next statement.
use Prim.Native.Nat.{ℕ, zero, suc}
use mathlib.Core.Path.{◌≡◌, refl, ap, ◌∙◌}
use mathlib.Core.Bool.{Bool, true, false, cond, not, false≢true}
use mathlib.Core.Option.{Option, none, some}
use mathlib.Core.List.{List, [], ◌∷◌, ◌++◌, map, append_assoc}
use Rattle.theory.specs.Lists.{concat_map, first_that}
use Rattle.theory.specs.Bytes.{bytes}
use Rattle.theory.proofs.Tests.{false_of_not}
use Rattle.tptp.specs.Tokens.{TokenKind, lower_word, upper_word, digits, falsum, left_paren, right_paren, comma, full_stop, bar, tilde, equal_sign, unequal_sign, foreign, open_comment, TptpToken, is}
use Rattle.tptp.specs.Grammar.{Side, first, second, DueToken, statement, opening, name, name_comma, role, role_comma, clause, literal, literal_end, term, word_end, term_end, equality, closing, stop, Move, is_cnf, after_term, after_variable, due_after_token}
use Rattle.tptp.specs.Trees.{Name, NameTerm, name_variable, name_apply, NameTerms, no_terms, term_and, NameAtom, name_holds, name_equal, NameLiteral, never, plain, tilded, unequal}
use Rattle.tptp.specs.Written.{Item, lower, sign, item_of, item, term_items, list_items, more_items, atom_items, literal_items, Layout, clause_items, statement_items, clause_name}
use Rattle.tptp.specs.Scanning.{token_of}
use Rattle.tptp.specs.Claims.Places.{due_after_tokens}

-- what is due after items
abbrev pub due_items : DueToken → List Item → Option DueToken
due_items d is = due_after_tokens d (map token_of is)

-- what is due depends on the kind of the token, and for cnf on its name
same-due : (d : DueToken) (k : TokenKind) (w v : List ℕ) (p q : ℕ) → is_cnf (record { kind = k; name = w; place = p }) ≡ is_cnf (record { kind = k; name = v; place = q })
    → due_after_token d (record { kind = k; name = w; place = p }) ≡ due_after_token d (record { kind = k; name = v; place = q })
unfolding due_after_token
same-due statement k w v p q h = ap (λ (b : Bool). elim (elim b as (λ _. Option ((TptpToken → Bool) × DueToken)) [ true ↦ some (is_cnf, opening) | false ↦ none ]) as (λ _. Option DueToken) [ some m ↦ some m.1 | none ↦ none ]) h
same-due opening k w v p q h = refl
same-due name k w v p q h = refl
same-due name_comma k w v p q h = refl
same-due role k w v p q h = refl
same-due role_comma k w v p q h = refl
same-due clause k w v p q h = refl
same-due (literal b) k w v p q h = refl
same-due (literal_end b) k w v p q h = refl
same-due (term b s n) k w v p q h = refl
same-due (word_end b (first true) zero) k w v p q h = refl
same-due (word_end b (first false) zero) k w v p q h = refl
same-due (word_end b second zero) k w v p q h = refl
same-due (word_end b s (suc n)) k w v p q h = refl
same-due (term_end b (first true) zero) k w v p q h = refl
same-due (term_end b (first false) zero) k w v p q h = refl
same-due (term_end b second zero) k w v p q h = refl
same-due (term_end b s (suc n)) k w v p q h = refl
same-due (equality b true) k w v p q h = refl
same-due (equality b false) k w v p q h = refl
same-due closing k w v p q h = refl
same-due stop k w v p q h = refl

shown-due : (d : DueToken) (k : TokenKind) (w : List ℕ) (p : ℕ) → due_after_token d (record { kind = k; name = w; place = p }) ≡ due_after_token d (token_of (item_of k (record { bytes = w; place = p })))
shown-due d lower_word w p = refl
shown-due d upper_word w p = refl
shown-due d digits w p = same-due d digits w [] p 0 refl
shown-due d falsum w p = same-due d falsum w [] p 0 refl
shown-due d left_paren w p = same-due d left_paren w [] p 0 refl
shown-due d right_paren w p = same-due d right_paren w [] p 0 refl
shown-due d comma w p = same-due d comma w [] p 0 refl
shown-due d full_stop w p = same-due d full_stop w [] p 0 refl
shown-due d bar w p = same-due d bar w [] p 0 refl
shown-due d tilde w p = same-due d tilde w [] p 0 refl
shown-due d equal_sign w p = same-due d equal_sign w [] p 0 refl
shown-due d unequal_sign w p = same-due d unequal_sign w [] p 0 refl
shown-due d foreign w p = same-due d foreign w [] p 0 refl
shown-due d open_comment w p = same-due d open_comment w [] p 0 refl

-- what is due depends on what the tokens show
pub due-shown : (ts : List TptpToken) (d : DueToken) → due_after_tokens d ts ≡ due_items d (map item ts)
due-shown [] d = refl
due-shown (t ∷ ts) d =
    ap (λ (o : Option DueToken). elim o as (λ _. Option DueToken) [ some e ↦ due_after_tokens e ts | none ↦ none ]) (shown-due d t.kind t.name t.place)
    ∙ go (due_after_token d (token_of (item t))) (λ e. due-shown ts e)
  where
    go : (o : Option DueToken) → ((e : DueToken) → due_after_tokens e ts ≡ due_items e (map item ts))
        → ◌≡◌ {A = Option DueToken} (elim o as (λ _. Option DueToken) [ some e ↦ due_after_tokens e ts | none ↦ none ]) (elim o as (λ _. Option DueToken) [ some e ↦ due_items e (map item ts) | none ↦ none ])
    go (some e) ih = ih e
    go none ih = refl

-- items that go on, and not with (
abbrev pub goes : List Item → Bool
goes [] = false
goes (i ∷ us) = not (is left_paren (token_of i))

word-ends : (b : Bool) (s : Side) (n : ℕ) (us : List Item) → goes us ≡ true → due_items (word_end b s n) us ≡ due_items (term_end b s n) us
unfolding due_after_token
word-ends b s n [] h = absurd (false≢true h)
word-ends b s n (i ∷ us) h =
    let t : TptpToken = token_of i in
    ap (λ (q : Bool).
    elim (elim (elim q as (λ _. Option Move) [ true ↦ some (is left_paren, term b s (suc n)) | false ↦ first_that (λ (m : Move). m.0 t) (after_term b s n) ]) as (λ _. Option DueToken) [ some m ↦ some m.1 | none ↦ none ])
    as (λ _. Option DueToken) [ some e ↦ due_items e us | none ↦ none ])
    (false_of_not (is left_paren t) h)

-- what is due after a term
abbrev pub term_done : NameTerm → Bool → Side → ℕ → DueToken
term_done (name_variable x) b s n = after_variable b s n
term_done (name_apply f ts) b s n = term_end b s n

pub done-inside : (t : NameTerm) (b : Bool) (s : Side) (n : ℕ) → term_done t b s (suc n) ≡ term_end b s (suc n)
done-inside (name_variable x) b (first c) n = refl
done-inside (name_variable x) b second n = refl
done-inside (name_apply f ts) b s n = refl

pub more-goes : (ts : NameTerms) (us : List Item) → goes (more_items ts ++ us) ≡ true
more-goes no_terms us = refl
more-goes (term_and t ts) us = refl

mutual
  unfolding due_after_token

  term-due : (t : NameTerm) (b : Bool) (s : Side) (n : ℕ) (us : List Item) → goes us ≡ true → due_items (term b s n) (term_items t ++ us) ≡ due_items (term_done t b s n) us
  term-due (name_variable x) b s n us h = refl
  term-due (name_apply f ts) b s n us h = list-due ts b s n us h

  list-due : (ts : NameTerms) (b : Bool) (s : Side) (n : ℕ) (us : List Item) → goes us ≡ true → due_items (word_end b s n) (list_items ts ++ us) ≡ due_items (term_end b s n) us
  list-due no_terms b s n us h = word-ends b s n us h
  list-due (term_and t ts) b s n us h =
      ap (due_items (term b s (suc n))) (append_assoc (term_items t) (more_items ts) us)
      ∙ term-due t b s (suc n) (more_items ts ++ us) (more-goes ts us)
      ∙ ap (λ (d : DueToken). due_items d (more_items ts ++ us)) (done-inside t b s n)
      ∙ more-due ts b s n us

  more-due : (ts : NameTerms) (b : Bool) (s : Side) (n : ℕ) (us : List Item) → due_items (term_end b s (suc n)) (more_items ts ++ us) ≡ due_items (term_end b s n) us
  more-due no_terms b s n us = refl
  more-due (term_and t ts) b s n us =
      ap (due_items (term b s (suc n))) (append_assoc (term_items t) (more_items ts) us)
      ∙ term-due t b s (suc n) (more_items ts ++ us) (more-goes ts us)
      ∙ ap (λ (d : DueToken). due_items d (more_items ts ++ us)) (done-inside t b s n)
      ∙ more-due ts b s n us

-- what ends a literal: | or )
abbrev pub end_kind : Bool → TokenKind
end_kind true = bar
end_kind false = right_paren

pub end_goes : (e : Bool) (us : List Item) → goes (sign (end_kind e) ∷ us) ≡ true
end_goes true us = refl
end_goes false us = refl

literal-ends : (b : Bool) (s : Side) (e : Bool) (us : List Item) → due_items (term_end b s zero) (sign (end_kind e) ∷ us) ≡ due_items (literal_end b) (sign (end_kind e) ∷ us)
unfolding due_after_token
literal-ends b (first true) true us = refl
literal-ends b (first false) true us = refl
literal-ends b second true us = refl
literal-ends b (first true) false us = refl
literal-ends b (first false) false us = refl
literal-ends b second false us = refl

pub done-second : (t : NameTerm) (b : Bool) (n : ℕ) → term_done t b second n ≡ term_end b second n
done-second (name_variable x) b n = refl
done-second (name_apply f ts) b n = refl

-- = after a literal's first term
equals-due : (t : NameTerm) (b c : Bool) (us : List Item) → due_items (term_done t b (first c) zero) (sign equal_sign ∷ us) ≡ due_items (term b second zero) us
unfolding due_after_token
equals-due (name_variable x) b true us = refl
equals-due (name_variable x) b false us = refl
equals-due (name_apply f ts) b true us = refl
equals-due (name_apply f ts) b false us = refl

unequals-due : (t : NameTerm) (b : Bool) (us : List Item) → due_items (term_done t b (first false) zero) (sign unequal_sign ∷ us) ≡ due_items (term b second zero) us
unfolding due_after_token
unequals-due (name_variable x) b us = refl
unequals-due (name_apply f ts) b us = refl

second-due : (u : NameTerm) (b e : Bool) (us : List Item) → due_items (term b second zero) (term_items u ++ (sign (end_kind e) ∷ us)) ≡ due_items (literal_end b) (sign (end_kind e) ∷ us)
second-due u b e us =
    term-due u b second zero (sign (end_kind e) ∷ us) (end_goes e us)
    ∙ ap (λ (d : DueToken). due_items d (sign (end_kind e) ∷ us)) (done-second u b zero) ∙ literal-ends b second e us

atom-due : (a : NameAtom) (b c e : Bool) (us : List Item) → due_items (term b (first c) zero) (atom_items a ++ (sign (end_kind e) ∷ us)) ≡ due_items (literal_end b) (sign (end_kind e) ∷ us)
unfolding due_after_token
atom-due (name_holds p ts) b c e us = list-due ts b (first c) zero (sign (end_kind e) ∷ us) (end_goes e us) ∙ literal-ends b (first c) e us
atom-due (name_equal t u) b c e us =
    ap (due_items (term b (first c) zero)) (append_assoc (term_items t) (sign equal_sign ∷ term_items u) (sign (end_kind e) ∷ us))
    ∙ term-due t b (first c) zero (sign equal_sign ∷ (term_items u ++ (sign (end_kind e) ∷ us))) refl
    ∙ equals-due t b c (term_items u ++ (sign (end_kind e) ∷ us))
    ∙ second-due u b e us

-- a term or an atom may begin a literal
begins-term : (t : NameTerm) (b : Bool) (us : List Item) → due_items (literal b) (term_items t ++ us) ≡ due_items (term b (first false) zero) (term_items t ++ us)
unfolding due_after_token
begins-term (name_variable x) b us = refl
begins-term (name_apply f ts) b us = refl

begins-atom : (a : NameAtom) (b : Bool) (us : List Item) → due_items (literal b) (atom_items a ++ us) ≡ due_items (term b (first false) zero) (atom_items a ++ us)
unfolding due_after_token
begins-atom (name_holds p ts) b us = refl
begins-atom (name_equal (name_variable x) u) b us = refl
begins-atom (name_equal (name_apply f ts) u) b us = refl

literal-due : (l : NameLiteral) (b e : Bool) (us : List Item) → due_items (literal b) (literal_items l ++ (sign (end_kind e) ∷ us)) ≡ due_items (literal_end b) (sign (end_kind e) ∷ us)
unfolding due_after_token
literal-due never b e us = refl
literal-due (plain a) b e us = begins-atom a b (sign (end_kind e) ∷ us) ∙ atom-due a b false e us
literal-due (tilded a) b e us = atom-due a b true e us
literal-due (unequal t u) b e us =
    ap (due_items (literal b)) (append_assoc (term_items t) (sign unequal_sign ∷ term_items u) (sign (end_kind e) ∷ us))
    ∙ begins-term t b (sign unequal_sign ∷ (term_items u ++ (sign (end_kind e) ∷ us)))
    ∙ term-due t b (first false) zero (sign unequal_sign ∷ (term_items u ++ (sign (end_kind e) ∷ us))) refl
    ∙ unequals-due t b (term_items u ++ (sign (end_kind e) ∷ us))
    ∙ second-due u b e us

-- a clause, up to the ) after it
literals-due : (l : NameLiteral) (ls : List NameLiteral) (b : Bool) (us : List Item)
    → due_items (literal b) (literal_items l ++ (concat_map (λ (k : NameLiteral). sign bar ∷ literal_items k) ls ++ (sign right_paren ∷ us))) ≡ due_items (literal_end b) (sign right_paren ∷ us)
unfolding due_after_token
literals-due l [] b us = literal-due l b false us
literals-due l (k ∷ ls) b us =
    let more : List Item = concat_map (λ (k : NameLiteral). sign bar ∷ literal_items k) ls in
    literal-due l b true ((literal_items k ++ more) ++ (sign right_paren ∷ us))
    ∙ ap (due_items (literal b)) (append_assoc (literal_items k) more (sign right_paren ∷ us))
    ∙ literals-due k ls b us

begins-clause : (l : NameLiteral) (us : List Item) → due_items clause (literal_items l ++ us) ≡ due_items (literal false) (literal_items l ++ us)
unfolding due_after_token
begins-clause never us = refl
begins-clause (plain (name_holds p ts)) us = refl
begins-clause (plain (name_equal (name_variable x) u)) us = refl
begins-clause (plain (name_equal (name_apply f ts) u)) us = refl
begins-clause (tilded a) us = refl
begins-clause (unequal (name_variable x) u) us = refl
begins-clause (unequal (name_apply f ts) u) us = refl

-- what stands after the role's comma
abbrev pub body_items : Layout → List Item
body_items l = cond l.wrapped (sign left_paren ∷ (clause_items l ++ (sign right_paren ∷ []))) (clause_items l) ++ (sign right_paren ∷ sign full_stop ∷ [])

body-due : (l : Layout) (w : Bool) (us : List Item)
    → due_items clause ((cond w (sign left_paren ∷ (clause_items l ++ (sign right_paren ∷ []))) (clause_items l) ++ (sign right_paren ∷ sign full_stop ∷ [])) ++ us) ≡ due_items statement us
unfolding due_after_token
body-due l true us =
    let more : List Item = concat_map (λ (k : NameLiteral). sign bar ∷ literal_items k) l.others in
    let rest : List Item = sign right_paren ∷ sign full_stop ∷ us in
    let shape : ((clause_items l ++ (sign right_paren ∷ [])) ++ (sign right_paren ∷ sign full_stop ∷ [])) ++ us ≡ literal_items l.first ++ (more ++ (sign right_paren ∷ rest)) =
    append_assoc (clause_items l ++ (sign right_paren ∷ [])) (sign right_paren ∷ sign full_stop ∷ []) us
    ∙ append_assoc (clause_items l) (sign right_paren ∷ []) rest
    ∙ append_assoc (literal_items l.first) more (sign right_paren ∷ rest) in
    ap (due_items (literal true)) shape ∙ literals-due l.first l.others true rest
body-due l false us =
    let more : List Item = concat_map (λ (k : NameLiteral). sign bar ∷ literal_items k) l.others in
    let rest : List Item = sign full_stop ∷ us in
    let shape : (clause_items l ++ (sign right_paren ∷ sign full_stop ∷ [])) ++ us ≡ literal_items l.first ++ (more ++ (sign right_paren ∷ rest)) =
    append_assoc (clause_items l) (sign right_paren ∷ sign full_stop ∷ []) us ∙ append_assoc (literal_items l.first) more (sign right_paren ∷ rest) in
    ap (due_items clause) shape ∙ begins-clause l.first (more ++ (sign right_paren ∷ rest)) ∙ literals-due l.first l.others false rest

-- a statement is followed to the next
pub statement-due : (l : Layout) (us : List Item) → due_items statement (statement_items l ++ us) ≡ due_items statement us
unfolding due_after_token
statement-due l us = go l.name
  where
    go : (o : Option Name) → due_items name (clause_name o ∷ sign comma ∷ lower l.role ∷ sign comma ∷ (body_items l ++ us)) ≡ due_items statement us
    go (some n) = body-due l l.wrapped us
    go none = body-due l l.wrapped us

pub statements-due : (ls : List Layout) → due_items statement (concat_map statement_items ls) ≡ some statement
statements-due [] = refl
statements-due (l ∷ ls) = statement-due l (concat_map statement_items ls) ∙ statements-due ls
