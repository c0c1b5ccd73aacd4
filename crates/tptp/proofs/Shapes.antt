-- Tokens that may stand where they stand show statements as they are written.
use Prim.Native.Nat.{ℕ, zero, suc}
use mathlib.Core.Path.{◌≡◌, refl, sym, ap, ◌∙◌, subst}
use mathlib.Core.Logic.{◌⊎◌, inl, inr}
use mathlib.Core.Bool.{Bool, true, false, cond, ◌&&◌, false≢true, true≢false}
use mathlib.Core.Option.{Option, none, some, some-injective}
use mathlib.Core.List.{List, [], ◌∷◌, ◌++◌, map, append_assoc}
use native.Mathlib.Omega.{arith}
use lib.ListN.{length, get_or}
use Rattle.theory.specs.Lists.{same, concat_map, first_that}
use Rattle.theory.specs.Bytes.{bytes}
use Rattle.theory.proofs.Tests.{eqb-true, and_left, and_right}
use Rattle.theory.proofs.Lists.{same_true}
use Rattle.tptp.specs.Tokens.{TokenKind, lower_word, upper_word, digits, falsum, left_paren, right_paren, comma, full_stop, bar, tilde, equal_sign, unequal_sign, foreign, open_comment, kind_number, TptpToken, is, tokens}
use Rattle.tptp.specs.Grammar.{Side, first, second, DueToken, statement, opening, name, name_comma, role, role_comma, clause, literal, literal_end, term, word_end, term_end, equality, closing, stop, Move, is_cnf, after_literal, relations, after_term, after_variable, begins_term, begins_literal, moves, due_after_token, may_end}
use Rattle.tptp.specs.Trees.{Name, name_of, NameTerm, name_variable, name_apply, NameTerms, no_terms, term_and, name_holds, name_equal, NameLiteral, never, plain, tilded, unequal}
use Rattle.tptp.specs.Written.{Item, lower, upper, sign, item_of, item, term_items, list_items, more_items, literal_items, Layout, clause_name, statement_items}
use Rattle.tptp.specs.Tptp.{read_file}
use Rattle.tptp.specs.Claims.Places.{due_after_tokens}
use Rattle.tptp.specs.Claims.Syntax as claims
use Rattle.tptp.proofs.Places.{first-misplaced, stays, ends}
use Rattle.tptp.proofs.Statements.{read}

-- a kind is told by its number
kinds : List TokenKind
kinds = lower_word ∷ upper_word ∷ digits ∷ falsum ∷ left_paren ∷ right_paren ∷ comma ∷ full_stop ∷ bar ∷ tilde ∷ equal_sign ∷ unequal_sign ∷ foreign ∷ open_comment ∷ []

kind_at : (k : TokenKind) → get_or kinds (kind_number k) foreign ≡ k
unfolding kinds
kind_at lower_word = refl
kind_at upper_word = refl
kind_at digits = refl
kind_at falsum = refl
kind_at left_paren = refl
kind_at right_paren = refl
kind_at comma = refl
kind_at full_stop = refl
kind_at bar = refl
kind_at tilde = refl
kind_at equal_sign = refl
kind_at unequal_sign = refl
kind_at foreign = refl
kind_at open_comment = refl

-- what a token of this kind shows
shows : (k : TokenKind) (t : TptpToken) → is k t ≡ true → item t ≡ item_of k (name_of t)
shows k t h =
    let e : t.kind ≡ k = sym (kind_at t.kind) ∙ ap (λ (n : ℕ). get_or kinds n foreign) (sym (eqb-true (kind_number k) (kind_number t.kind) h)) ∙ kind_at k in
    ap (λ (l : TokenKind). item_of l (name_of t)) e

-- one of the moves takes the token
abbrev Chosen : List Move → TptpToken → DueToken → Type 0
Chosen [] t e = ⊥
Chosen (m ∷ ms) t e = ((m.0 t ≡ true) × (m.1 ≡ e)) ⊎ Chosen ms t e

chosen : (d e : DueToken) (t : TptpToken) → due_after_token d t ≡ some e → Chosen (moves d) t e
unfolding due_after_token
chosen d e t h = among (moves d) h
  where
    among : (ms : List Move) → (elim (first_that (λ (m : Move). m.0 t) ms) as (λ _. Option DueToken) [ some m ↦ some m.1 | none ↦ none ]) ≡ some e → Chosen ms t e
    among [] h = let z : ◌≡◌ {A = ℕ} 0 1 = cc in absurd (omega arith)
    among (m ∷ ms) h = go (m.0 t) refl h (λ k. among ms k)
      where
        go : (b : Bool) → m.0 t ≡ b → (elim (elim b as (λ _. Option Move) [ true ↦ some m | false ↦ first_that (λ (m : Move). m.0 t) ms ]) as (λ _. Option DueToken) [ some m ↦ some m.1 | none ↦ none ]) ≡ some e
            → ((elim (first_that (λ (m : Move). m.0 t) ms) as (λ _. Option DueToken) [ some m ↦ some m.1 | none ↦ none ]) ≡ some e → Chosen ms t e)
            → ((m.0 t ≡ true) × (m.1 ≡ e)) ⊎ Chosen ms t e
        go true q h ih = inl (q, some-injective m.1 e h)
        go false q h ih = inr (ih h)

-- The shapes of what is left, where something is due.
abbrev following : List Layout → List Item
following ls = concat_map statement_items ls

abbrev others : List NameLiteral → List Item
others ks = concat_map (λ (k : NameLiteral). sign bar ∷ literal_items k) ks

abbrev tail : Bool → List Layout → List Item
tail true ls = sign right_paren ∷ sign right_paren ∷ sign full_stop ∷ following ls
tail false ls = sign right_paren ∷ sign full_stop ∷ following ls

abbrev RestLiterals : Bool → List Item → Type 0
RestLiterals b us = (ks : List NameLiteral) × (ls : List Layout) × (us ≡ others ks ++ tail b ls)

abbrev RestLiteral : Bool → List Item → Type 0
RestLiteral b us = (l : NameLiteral) × (vs : List Item) × (us ≡ literal_items l ++ vs) × RestLiterals b vs

-- = or, not after ~, !=
abbrev relation_kind : Bool → TokenKind
relation_kind true = unequal_sign
relation_kind false = equal_sign

abbrev RestRelation : Bool → Bool → List Item → Type 0
RestRelation b c us = (q : Bool) × (u : NameTerm) × (vs : List Item) × (us ≡ sign (relation_kind q) ∷ (term_items u ++ vs)) × RestLiterals b vs × ((c && q) ≡ false)

abbrev RestTerm : Bool → Side → ℕ → List Item → Type 0
RestTerm b (first c) zero us = RestRelation b c us ⊎ RestLiterals b us
RestTerm b second zero us = RestLiterals b us
RestTerm b s (suc n) us = (ts : NameTerms) × (vs : List Item) × (us ≡ more_items ts ++ vs) × RestTerm b s n vs

-- after a variable
abbrev RestVariable : Bool → Side → ℕ → List Item → Type 0
RestVariable b (first c) zero us = RestRelation b c us
RestVariable b (first c) (suc n) us = RestTerm b (first c) (suc n) us
RestVariable b second n us = RestTerm b second n us

-- after a term
abbrev After : NameTerm → Bool → Side → ℕ → List Item → Type 0
After (name_variable x) b s n us = RestVariable b s n us
After (name_apply f ts) b s n us = RestTerm b s n us

abbrev RestClause : List Item → Type 0
RestClause us = (w : Bool) × (vs : List Item) × (us ≡ cond w (sign left_paren ∷ vs) vs) × RestLiteral w vs

abbrev Rest : DueToken → List Item → Type 0
Rest statement us = (ls : List Layout) × (us ≡ following ls)
Rest opening us = (o : Option Name) × (r : Name) × (vs : List Item) × (us ≡ sign left_paren ∷ clause_name o ∷ sign comma ∷ lower r ∷ sign comma ∷ vs) × RestClause vs
Rest name us = (o : Option Name) × (r : Name) × (vs : List Item) × (us ≡ clause_name o ∷ sign comma ∷ lower r ∷ sign comma ∷ vs) × RestClause vs
Rest name_comma us = (r : Name) × (vs : List Item) × (us ≡ sign comma ∷ lower r ∷ sign comma ∷ vs) × RestClause vs
Rest role us = (r : Name) × (vs : List Item) × (us ≡ lower r ∷ sign comma ∷ vs) × RestClause vs
Rest role_comma us = (vs : List Item) × (us ≡ sign comma ∷ vs) × RestClause vs
Rest clause us = RestClause us
Rest (literal b) us = RestLiteral b us
Rest (literal_end b) us = RestLiterals b us
Rest (term b s n) us = (t : NameTerm) × (vs : List Item) × (us ≡ term_items t ++ vs) × After t b s n vs
Rest (word_end b s n) us = (ts : NameTerms) × (vs : List Item) × (us ≡ list_items ts ++ vs) × RestTerm b s n vs
Rest (term_end b s n) us = RestTerm b s n us
Rest (equality b c) us = RestRelation b c us
Rest closing us = (ls : List Layout) × (us ≡ sign right_paren ∷ sign full_stop ∷ following ls)
Rest stop us = (ls : List Layout) × (us ≡ sign full_stop ∷ following ls)

-- what is due next is what the move says
moved : (d e : DueToken) (us : List Item) → d ≡ e → Rest e us → Rest d us
moved d e us q r = subst (λ (d : DueToken). Rest d us) (sym q) r

-- one item in front
front : (i j : Item) (us vs : List Item) → i ≡ j → us ≡ vs → i ∷ us ≡ j ∷ vs
front i j us vs p q = cc

after-inside : (t : NameTerm) (b : Bool) (s : Side) (n : ℕ) (us : List Item) → After t b s (suc n) us → RestTerm b s (suc n) us
after-inside (name_variable x) b (first c) n us r = r
after-inside (name_variable x) b second n us r = r
after-inside (name_apply f ts) b s n us r = r

after-second : (t : NameTerm) (b : Bool) (us : List Item) → After t b second zero us → RestLiterals b us
after-second (name_variable x) b us r = r
after-second (name_apply f ts) b us r = r

step-literals : (b : Bool) (e : DueToken) (t : TptpToken) (us : List Item) → Chosen (after_literal b) t e → Rest e us → RestLiterals b (item t ∷ us)
step-literals b e t us (inl c) r =
    let l = moved (literal b) e us c.1 r in
    let rest = l.3 in (
      l.0 ∷ rest.0,
      rest.1,
      front (item t) (sign bar) us ((literal_items l.0 ++ others rest.0) ++ tail b rest.1) (shows bar t c.0)
          (l.2 ∙ ap (λ (vs : List Item). literal_items l.0 ++ vs) rest.2 ∙ sym (append_assoc (literal_items l.0) (others rest.0) (tail b rest.1))),
    )
step-literals true e t us (inr (inl c)) r =
    let l = moved closing e us c.1 r in
    ([], l.0, front (item t) (sign right_paren) us (sign right_paren ∷ sign full_stop ∷ following l.0) (shows right_paren t c.0) l.1)
step-literals false e t us (inr (inl c)) r =
    let l = moved stop e us c.1 r in
    ([], l.0, front (item t) (sign right_paren) us (sign full_stop ∷ following l.0) (shows right_paren t c.0) l.1)
step-literals true e t us (inr (inr c)) r = absurd c
step-literals false e t us (inr (inr c)) r = absurd c

step-relation : (q b c : Bool) (e : DueToken) (t : TptpToken) (us : List Item) → (c && q) ≡ false → is (relation_kind q) t ≡ true → item t ≡ sign (relation_kind q) → term b second zero ≡ e → Rest e us → RestRelation b c (item t ∷ us)
step-relation q b c e t us ok h k m r =
    let l = moved (term b second zero) e us m r in
    (q, l.0, l.1, front (item t) (sign (relation_kind q)) us (term_items l.0 ++ l.1) k l.2, after-second l.0 b l.1 l.3, ok)

and-false : (c : Bool) → (c && false) ≡ false
and-false true = refl
and-false false = refl

step-relations : (b c : Bool) (e : DueToken) (t : TptpToken) (us : List Item) → Chosen (relations b c) t e → Rest e us → RestRelation b c (item t ∷ us)
step-relations b true e t us (inl c) r = step-relation false b true e t us refl c.0 (shows equal_sign t c.0) c.1 r
step-relations b true e t us (inr c) r = absurd c
step-relations b false e t us (inl c) r = step-relation false b false e t us refl c.0 (shows equal_sign t c.0) c.1 r
step-relations b false e t us (inr (inl c)) r = step-relation true b false e t us refl c.0 (shows unequal_sign t c.0) c.1 r
step-relations b false e t us (inr (inr c)) r = absurd c

step_end : (b : Bool) (s : Side) (n : ℕ) (e : DueToken) (t : TptpToken) (us : List Item) → Chosen (after_term b s n) t e → Rest e us → RestTerm b s n (item t ∷ us)
step_end b (first true) zero e t us (inl c) r = inl (step-relations b true e t us (inl c) r)
step_end b (first true) zero e t us (inr c) r = inr (step-literals b e t us c r)
step_end b (first false) zero e t us (inl c) r = inl (step-relations b false e t us (inl c) r)
step_end b (first false) zero e t us (inr (inl c)) r = inl (step-relations b false e t us (inr (inl c)) r)
step_end b (first false) zero e t us (inr (inr c)) r = inr (step-literals b e t us c r)
step_end b second zero e t us c r = step-literals b e t us c r
step_end b s (suc n) e t us (inl c) r =
    let l = moved (term b s (suc n)) e us c.1 r in
    let rest = after-inside l.0 b s n l.1 l.3 in (
      term_and l.0 rest.0,
      rest.1,
      front (item t) (sign comma) us ((term_items l.0 ++ more_items rest.0) ++ rest.1) (shows comma t c.0)
          (l.2 ∙ ap (λ (vs : List Item). term_items l.0 ++ vs) rest.2 ∙ sym (append_assoc (term_items l.0) (more_items rest.0) rest.1)),
      rest.3,
    )
step_end b s (suc n) e t us (inr (inl c)) r = (no_terms, us, front (item t) (sign right_paren) us us (shows right_paren t c.0) refl, moved (term_end b s n) e us c.1 r)
step_end b s (suc n) e t us (inr (inr c)) r = absurd c

variable-rest : (b : Bool) (s : Side) (n : ℕ) (us : List Item) → Rest (after_variable b s n) us → RestVariable b s n us
variable-rest b (first c) zero us r = r
variable-rest b (first c) (suc n) us r = r
variable-rest b second n us r = r

step-term : (b : Bool) (s : Side) (n : ℕ) (e : DueToken) (t : TptpToken) (us : List Item) → Chosen (begins_term b s n) t e → Rest e us → Rest (term b s n) (item t ∷ us)
step-term b s n e t us (inl c) r =
    let l = moved (word_end b s n) e us c.1 r in
    (name_apply (name_of t) l.0, l.1, front (item t) (lower (name_of t)) us (list_items l.0 ++ l.1) (shows lower_word t c.0) l.2, l.3)
step-term b s n e t us (inr (inl c)) r =
    (name_variable (name_of t), us, front (item t) (upper (name_of t)) us us (shows upper_word t c.0) refl, variable-rest b s n us (moved (after_variable b s n) e us c.1 r))
step-term b s n e t us (inr (inr c)) r = absurd c

-- a literal from its first term on
pair-shape : (k : TokenKind) (t u : NameTerm) (us vs : List Item) → us ≡ sign k ∷ (term_items u ++ vs) → term_items t ++ us ≡ (term_items t ++ (sign k ∷ term_items u)) ++ vs
pair-shape k t u us vs q = ap (λ (us : List Item). term_items t ++ us) q ∙ sym (append_assoc (term_items t) (sign k ∷ term_items u) vs)

plain-relation : (b : Bool) (t : NameTerm) (us : List Item) → RestRelation b false us → RestLiteral b (term_items t ++ us)
plain-relation b t us r = go r.0 r.3
  where
    go : (q : Bool) → us ≡ sign (relation_kind q) ∷ (term_items r.1 ++ r.2) → RestLiteral b (term_items t ++ us)
    go true h = (unequal t r.1, r.2, pair-shape unequal_sign t r.1 us r.2 h, r.4)
    go false h = (plain (name_equal t r.1), r.2, pair-shape equal_sign t r.1 us r.2 h, r.4)

plain-literal : (b : Bool) (t : NameTerm) (us : List Item) → After t b (first false) zero us → RestLiteral b (term_items t ++ us)
plain-literal b (name_variable x) us r = plain-relation b (name_variable x) us r
plain-literal b (name_apply f ts) us (inl r) = plain-relation b (name_apply f ts) us r
plain-literal b (name_apply f ts) us (inr r) = (plain (name_holds f ts), us, refl, r)

negated-relation : (b : Bool) (t : NameTerm) (us : List Item) → RestRelation b true us → RestLiteral b (sign tilde ∷ (term_items t ++ us))
negated-relation b t us r = go r.0 r.3 r.5
  where
    go : (q : Bool) → us ≡ sign (relation_kind q) ∷ (term_items r.1 ++ r.2) → (true && q) ≡ false → RestLiteral b (sign tilde ∷ (term_items t ++ us))
    go true h k = absurd (true≢false k)
    go false h k = (tilded (name_equal t r.1), r.2, ap (λ (vs : List Item). sign tilde ∷ vs) (pair-shape equal_sign t r.1 us r.2 h), r.4)

negated-literal : (b : Bool) (t : NameTerm) (us : List Item) → After t b (first true) zero us → RestLiteral b (sign tilde ∷ (term_items t ++ us))
negated-literal b (name_variable x) us r = negated-relation b (name_variable x) us r
negated-literal b (name_apply f ts) us (inl r) = negated-relation b (name_apply f ts) us r
negated-literal b (name_apply f ts) us (inr r) = (tilded (name_holds f ts), us, refl, r)

step-literal : (b : Bool) (e : DueToken) (t : TptpToken) (us : List Item) → Chosen (begins_literal b) t e → Rest e us → RestLiteral b (item t ∷ us)
step-literal b e t us (inl c) r = (never, us, front (item t) (sign falsum) us us (shows falsum t c.0) refl, moved (literal_end b) e us c.1 r)
step-literal b e t us (inr (inl c)) r =
    let l = moved (term b (first true) zero) e us c.1 r in
    subst (RestLiteral b) (sym (front (item t) (sign tilde) us (term_items l.0 ++ l.1) (shows tilde t c.0) l.2)) (negated-literal b l.0 l.1 l.3)
step-literal b e t us (inr (inr c)) r =
    let l = step-term b (first false) zero e t us c r in
    subst (RestLiteral b) (sym l.2) (plain-literal b l.0 l.1 l.3)

-- a whole statement in front of those that follow
layout : (p : ℕ) (o : Option Name) (r : Name) (us : List Item) → RestClause us
    → (ls : List Layout) × (lower (record { bytes = bytes "cnf"; place = p }) ∷ sign left_paren ∷ clause_name o ∷ sign comma ∷ lower r ∷ sign comma ∷ us ≡ following ls)
layout p o r us c = go c.0 c.2 c.3
  where
    header : List Item → List Item
    header vs = lower (record { bytes = bytes "cnf"; place = p }) ∷ sign left_paren ∷ clause_name o ∷ sign comma ∷ lower r ∷ sign comma ∷ vs

    vs : List Item
    vs = c.1

    made : Bool → NameLiteral → List NameLiteral → Layout
    made w l ks = record { start = p; name = o; role = r; wrapped = w; first = l; others = ks }

    go : (w : Bool) → us ≡ cond w (sign left_paren ∷ vs) vs → RestLiteral w vs → (ls : List Layout) × (header us ≡ following ls)
    go true h x =
        let l : NameLiteral = x.0 in
        let ks : List NameLiteral = x.3.0 in
        let ls : List Layout = x.3.1 in
        let rest : List Item = sign right_paren ∷ sign full_stop ∷ following ls in
        let clauses : List Item = literal_items l ++ others ks in
        let shape : vs ≡ ((clauses ++ (sign right_paren ∷ [])) ++ (sign right_paren ∷ sign full_stop ∷ [])) ++ following ls =
        x.2 ∙ ap (λ (y : List Item). literal_items l ++ y) x.3.2 ∙ sym (append_assoc (literal_items l) (others ks) (sign right_paren ∷ rest))
        ∙ sym (append_assoc clauses (sign right_paren ∷ []) rest)
        ∙ sym (append_assoc (clauses ++ (sign right_paren ∷ [])) (sign right_paren ∷ sign full_stop ∷ []) (following ls)) in
        (made true l ks ∷ ls, ap header (h ∙ ap (λ (y : List Item). sign left_paren ∷ y) shape))
    go false h x =
        let l : NameLiteral = x.0 in
        let ks : List NameLiteral = x.3.0 in
        let ls : List Layout = x.3.1 in
        let rest : List Item = sign right_paren ∷ sign full_stop ∷ following ls in
        let clauses : List Item = literal_items l ++ others ks in
        let shape : vs ≡ (clauses ++ (sign right_paren ∷ sign full_stop ∷ [])) ++ following ls =
        x.2 ∙ ap (λ (y : List Item). literal_items l ++ y) x.3.2 ∙ sym (append_assoc (literal_items l) (others ks) rest)
        ∙ sym (append_assoc clauses (sign right_paren ∷ sign full_stop ∷ []) (following ls)) in
        (made false l ks ∷ ls, ap header (h ∙ shape))

pub cnf-shown : (t : TptpToken) → is_cnf t ≡ true → item t ≡ lower (record { bytes = bytes "cnf"; place = t.place })
cnf-shown t h =
    shows lower_word t (and_left (is lower_word t) (same t.name (bytes "cnf")) h)
    ∙ ap (λ (w : List ℕ). lower (record { bytes = w; place = t.place })) (same_true t.name (bytes "cnf") (and_right (is lower_word t) (same t.name (bytes "cnf")) h))

-- one token more
step : (d e : DueToken) (t : TptpToken) (us : List Item) → Chosen (moves d) t e → Rest e us → Rest d (item t ∷ us)
step statement e t us (inl c) r =
    let l = moved opening e us c.1 r in
    let x = layout t.place l.0 l.1 l.2 l.4 in
    (x.0, front (item t) (lower (record { bytes = bytes "cnf"; place = t.place })) us (sign left_paren ∷ clause_name l.0 ∷ sign comma ∷ lower l.1 ∷ sign comma ∷ l.2) (cnf-shown t c.0) l.3 ∙ x.1)
step statement e t us (inr c) r = absurd c
step opening e t us (inl c) r =
    let l = moved name e us c.1 r in
    (l.0, l.1, l.2, front (item t) (sign left_paren) us (clause_name l.0 ∷ sign comma ∷ lower l.1 ∷ sign comma ∷ l.2) (shows left_paren t c.0) l.3, l.4)
step opening e t us (inr c) r = absurd c
step name e t us (inl c) r =
    let l = moved name_comma e us c.1 r in
    (some (name_of t), l.0, l.1, front (item t) (lower (name_of t)) us (sign comma ∷ lower l.0 ∷ sign comma ∷ l.1) (shows lower_word t c.0) l.2, l.3)
step name e t us (inr (inl c)) r =
    let l = moved name_comma e us c.1 r in
    (none, l.0, l.1, front (item t) (sign digits) us (sign comma ∷ lower l.0 ∷ sign comma ∷ l.1) (shows digits t c.0) l.2, l.3)
step name e t us (inr (inr c)) r = absurd c
step name_comma e t us (inl c) r =
    let l = moved role e us c.1 r in
    (l.0, l.1, front (item t) (sign comma) us (lower l.0 ∷ sign comma ∷ l.1) (shows comma t c.0) l.2, l.3)
step name_comma e t us (inr c) r = absurd c
step role e t us (inl c) r =
    let l = moved role_comma e us c.1 r in
    (name_of t, l.0, front (item t) (lower (name_of t)) us (sign comma ∷ l.0) (shows lower_word t c.0) l.1, l.2)
step role e t us (inr c) r = absurd c
step role_comma e t us (inl c) r = (us, front (item t) (sign comma) us us (shows comma t c.0) refl, moved clause e us c.1 r)
step role_comma e t us (inr c) r = absurd c
step clause e t us (inl c) r = (true, us, front (item t) (sign left_paren) us us (shows left_paren t c.0) refl, moved (literal true) e us c.1 r)
step clause e t us (inr c) r = (false, item t ∷ us, refl, step-literal false e t us c r)
step (literal b) e t us c r = step-literal b e t us c r
step (literal_end b) e t us c r = step-literals b e t us c r
step (term b s n) e t us c r = step-term b s n e t us c r
step (word_end b s n) e t us (inl c) r =
    let l = moved (term b s (suc n)) e us c.1 r in
    let rest = after-inside l.0 b s n l.1 l.3 in (
      term_and l.0 rest.0,
      rest.1,
      front (item t) (sign left_paren) us ((term_items l.0 ++ more_items rest.0) ++ rest.1) (shows left_paren t c.0)
          (l.2 ∙ ap (λ (vs : List Item). term_items l.0 ++ vs) rest.2 ∙ sym (append_assoc (term_items l.0) (more_items rest.0) rest.1)),
      rest.3,
    )
step (word_end b s n) e t us (inr c) r = (no_terms, item t ∷ us, refl, step_end b s n e t us c r)
step (term_end b s n) e t us c r = step_end b s n e t us c r
step (equality b c) e t us h r = step-relations b c e t us h r
step closing e t us (inl c) r =
    let l = moved stop e us c.1 r in
    (l.0, front (item t) (sign right_paren) us (sign full_stop ∷ following l.0) (shows right_paren t c.0) l.1)
step closing e t us (inr c) r = absurd c
step stop e t us (inl c) r =
    let l = moved statement e us c.1 r in
    (l.0, front (item t) (sign full_stop) us (following l.0) (shows full_stop t c.0) l.1)
step stop e t us (inr c) r = absurd c

-- tokens that may stand, up to where a statement is due
rest : (ts : List TptpToken) (d : DueToken) → due_after_tokens d ts ≡ some statement → Rest d (map item ts)
rest [] d h = moved d statement [] (some-injective d statement h) ([], refl)
rest (t ∷ ts) d h = go (due_after_token d t) refl h (λ e k. rest ts e k)
  where
    go : (o : Option DueToken) → due_after_token d t ≡ o → (elim o as (λ _. Option DueToken) [ some e ↦ due_after_tokens e ts | none ↦ none ]) ≡ some statement
        → ((e : DueToken) → due_after_tokens e ts ≡ some statement → Rest e (map item ts)) → Rest d (item t ∷ map item ts)
    go none q h ih = let z : ◌≡◌ {A = ℕ} 0 1 = cc in absurd (omega arith)
    go (some e) q h ih = step d e t (map item ts) (chosen d e t q) (ih e h)

pub shown-statements : (ts : List TptpToken) → due_after_tokens statement ts ≡ some statement → (ls : List Layout) × (map item ts ≡ concat_map statement_items ls)
shown-statements ts h = rest ts statement h

-- only where a statement is due the text may end
may-end : (d : DueToken) → may_end d ≡ true → d ≡ statement
may-end statement h = refl
may-end opening h = absurd (false≢true h)
may-end name h = absurd (false≢true h)
may-end name_comma h = absurd (false≢true h)
may-end role h = absurd (false≢true h)
may-end role_comma h = absurd (false≢true h)
may-end clause h = absurd (false≢true h)
may-end (literal b) h = absurd (false≢true h)
may-end (literal_end b) h = absurd (false≢true h)
may-end (term b s n) h = absurd (false≢true h)
may-end (word_end b s n) h = absurd (false≢true h)
may-end (term_end b s n) h = absurd (false≢true h)
may-end (equality b c) h = absurd (false≢true h)
may-end closing h = absurd (false≢true h)
may-end stop h = absurd (false≢true h)

pub written : (text : List ℕ) → (read_file text).foreign ≡ none → (ls : List Layout) × (map item (tokens text) ≡ concat_map statement_items ls)
written text h = go (first-misplaced (tokens text) statement)
  where
    ended : (e : DueToken) (b : Bool) → may_end e ≡ b → cond b none (some (length text)) ≡ none → may_end e ≡ true
    ended e true q k = q
    ended e false q k = let z : ◌≡◌ {A = ℕ} 0 1 = cc in absurd (omega arith)

    go : ((e : DueToken) × (due_after_tokens statement (tokens text) ≡ some e))
        ⊎ ((a : List TptpToken) × (t : TptpToken) × (b : List TptpToken) × (e : DueToken) × (tokens text ≡ a ++ (t ∷ b)) × (due_after_tokens statement a ≡ some e) × (due_after_token e t ≡ none))
        → (ls : List Layout) × (map item (tokens text) ≡ concat_map statement_items ls)
    go (inl r) =
        let m : may_end r.0 ≡ true = ended r.0 (may_end r.0) refl (sym (ends text r.0 r.1) ∙ h) in
        shown-statements (tokens text) (r.1 ∙ ap {B = Option DueToken} some (may-end r.0 m))
    go (inr r) =
        let q : ◌≡◌ {A = Option ℕ} (some r.1.place) none = sym (stays text r.0 r.2 r.1 r.4 (r.3, r.5, r.6)) ∙ h in
        let z : ◌≡◌ {A = ℕ} 0 1 = cc in
        absurd (omega arith)

pub syntax : claims.Syntax
syntax = record { read = read; written = written }
