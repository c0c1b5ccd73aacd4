-- Looking ahead tells what the tree says: the words of a statement's clause, its variables and symbols with their kinds and arities.
use Prim.Native.Nat.{ℕ, zero, suc}
use mathlib.Core.Path.{◌≡◌, refl, sym, ap, ◌∙◌}
use mathlib.Core.Bool.{Bool, true, false, cond, false≢true}
use mathlib.Core.Option.{Option, none, some}
use mathlib.Core.List.{List, [], ◌∷◌, ◌++◌, map, append_assoc, append-nil, map-append}
use Rattle.theory.specs.Lists.{concat_map, first_that}
use Rattle.theory.specs.Syntax.{function, predicate}
use Rattle.theory.proofs.Tests.{false_of_not}
use Rattle.tptp.specs.Tokens.{TokenKind, left_paren, right_paren, comma, full_stop, bar, equal_sign, unequal_sign, is}
use Rattle.tptp.specs.Grammar.{Side, first, second, DueToken, statement, name, clause, literal, literal_end, term, word_end, term_end, Move, after_term, due_after_token}
use Rattle.tptp.specs.Trees.{Name, NameTerm, name_variable, name_apply, NameTerms, no_terms, term_and, NameAtom, name_holds, name_equal, NameLiteral, never, plain, tilded, unequal}
use Rattle.tptp.specs.Written.{Item, lower, upper, sign, term_items, list_items, more_items, atom_items, literal_items, Layout, clause_name, clause_items, written_clause, statement_items}
use Rattle.tptp.specs.Symbols.{Occurrence, of_variable, of_symbol, term_count, term_occurrences, terms_occurrences}
use Rattle.tptp.specs.Scanning.{token_of, commas, arity_ahead, Relation, unrelated, related, relation_ahead, Spot, in_term, elsewhere, spot, Entry, occurs, marks, kind_before, entries_at, entries, literal_entries, clause_entries}
use Rattle.tptp.proofs.Following.{goes, term_done, done-inside, done-second, more-goes, end_kind, end_goes, body_items}

-- counting commas
commas-open : (us : List Item) (n : ℕ) → commas (sign left_paren ∷ us) n ≡ commas us (suc n)
commas-open us zero = refl
commas-open us (suc n) = refl

commas-lower : (x : Name) (us : List Item) (n : ℕ) → commas (lower x ∷ us) n ≡ commas us n
commas-lower x us zero = refl
commas-lower x us (suc n) = refl

commas-upper : (x : Name) (us : List Item) (n : ℕ) → commas (upper x ∷ us) n ≡ commas us n
commas-upper x us zero = refl
commas-upper x us (suc n) = refl

mutual
  commas-term : (t : NameTerm) (us : List Item) (n : ℕ) → commas (term_items t ++ us) n ≡ commas us n
  commas-term (name_variable x) us n = commas-upper x us n
  commas-term (name_apply f ts) us n = commas-lower f (list_items ts ++ us) n ∙ commas-list ts us n

  commas-list : (ts : NameTerms) (us : List Item) (n : ℕ) → commas (list_items ts ++ us) n ≡ commas us n
  commas-list no_terms us n = refl
  commas-list (term_and t ts) us n =
      commas-open ((term_items t ++ more_items ts) ++ us) n ∙ ap (λ (l : List Item). commas l (suc n)) (append_assoc (term_items t) (more_items ts) us)
      ∙ commas-term t (more_items ts ++ us) (suc n) ∙ commas-more ts us n

  commas-more : (ts : NameTerms) (us : List Item) (n : ℕ) → commas (more_items ts ++ us) (suc n) ≡ commas us n
  commas-more no_terms us n = refl
  commas-more (term_and t ts) us n =
      ap (λ (l : List Item). commas l (suc n)) (append_assoc (term_items t) (more_items ts) us) ∙ commas-term t (more_items ts ++ us) (suc n) ∙ commas-more ts us n

count-more : (ts : NameTerms) (us : List Item) → commas (more_items ts ++ us) 0 ≡ term_count ts
count-more no_terms us = refl
count-more (term_and t ts) us =
    ap (λ (l : List Item). suc (commas l 0)) (append_assoc (term_items t) (more_items ts) us) ∙ ap suc (commas-term t (more_items ts ++ us) 0 ∙ count-more ts us)

-- the arity is the number of terms in the list
arity-list : (ts : NameTerms) (us : List Item) → goes us ≡ true → arity_ahead (list_items ts ++ us) ≡ term_count ts
arity-list no_terms [] h = absurd (false≢true h)
arity-list no_terms (lower x ∷ us) h = refl
arity-list no_terms (upper x ∷ us) h = refl
arity-list no_terms (sign k ∷ us) h = ap (λ (b : Bool). elim b as (λ _. ℕ) [ true ↦ suc (commas us 0) | false ↦ 0 ]) (false_of_not (is left_paren (token_of (sign k))) h)
arity-list (term_and t ts) us h =
    ap (λ (l : List Item). suc (commas l 0)) (append_assoc (term_items t) (more_items ts) us) ∙ ap suc (commas-term t (more_items ts ++ us) 0 ∙ count-more ts us)

mutual
  relation-term : (t : NameTerm) (us : List Item) (n : ℕ) → relation_ahead (term_items t ++ us) (suc n) ≡ relation_ahead us (suc n)
  relation-term (name_variable x) us n = refl
  relation-term (name_apply f ts) us n = relation-inside ts us n

  relation-inside : (ts : NameTerms) (us : List Item) (n : ℕ) → relation_ahead (list_items ts ++ us) (suc n) ≡ relation_ahead us (suc n)
  relation-inside no_terms us n = refl
  relation-inside (term_and t ts) us n =
      ap (λ (l : List Item). relation_ahead l (suc (suc n))) (append_assoc (term_items t) (more_items ts) us) ∙ relation-term t (more_items ts ++ us) (suc n) ∙ relation-more ts us (suc n)

  relation-more : (ts : NameTerms) (us : List Item) (n : ℕ) → relation_ahead (more_items ts ++ us) (suc n) ≡ relation_ahead us n
  relation-more no_terms us n = refl
  relation-more (term_and t ts) us n =
      ap (λ (l : List Item). relation_ahead l (suc n)) (append_assoc (term_items t) (more_items ts) us) ∙ relation-term t (more_items ts ++ us) n ∙ relation-more ts us n

relation-list : (ts : NameTerms) (us : List Item) → relation_ahead (list_items ts ++ us) 0 ≡ relation_ahead us 0
relation-list no_terms us = refl
relation-list (term_and t ts) us =
    ap (λ (l : List Item). relation_ahead l 1) (append_assoc (term_items t) (more_items ts) us) ∙ relation-term t (more_items ts ++ us) 0 ∙ relation-more ts us 0

-- the entries of occurrences
abbrev all-occur : List Occurrence → List Entry
all-occur os = map occurs os

two-occur : (os ps : List Occurrence) (es : List Entry) → all-occur os ++ (all-occur ps ++ es) ≡ all-occur (os ++ ps) ++ es
two-occur os ps es = sym (append_assoc (all-occur os) (all-occur ps) es) ∙ ap (λ (l : List Entry). l ++ es) (sym (map-append occurs os ps))

-- what follows a word without arguments is what follows the term
enter-word : (b : Bool) (s : Side) (n : ℕ) (us : List Item) → goes us ≡ true → entries us (word_end b s n) ≡ entries us (term_end b s n)
unfolding due_after_token
enter-word b s n [] h = absurd (false≢true h)
enter-word b s n (i ∷ us) h =
    ap (λ (q : Bool).
    entries_at elsewhere i us ++
    (elim (is full_stop (token_of i)) as (λ _. List Entry) [
      | true ↦ []
      | false ↦ elim
          (elim (elim q as (λ _. Option Move) [ true ↦ some (is left_paren, term b s (suc n)) | false ↦ first_that (λ (m : Move). m.0 (token_of i)) (after_term b s n) ]) as (λ _. Option DueToken) [ some m ↦ some m.1 | none ↦ none ])
          as (λ _. List Entry) [ some e ↦ entries us e | none ↦ [] ]
    ]))
    (false_of_not (is left_paren (token_of i)) h)

mutual
  unfolding due_after_token

  enter-term : (t : NameTerm) (b : Bool) (s : Side) (n : ℕ) (us : List Item) → spot (term b s n) ≡ in_term → goes us ≡ true
      → entries (term_items t ++ us) (term b s n) ≡ all-occur (term_occurrences t) ++ entries us (term_done t b s n)
  enter-term (name_variable x) b s n us q h = ap (λ (p : Spot). entries_at p (upper x) us ++ entries us (term_done (name_variable x) b s n)) q
  enter-term (name_apply f ts) b s n us q h =
      ap (λ (p : Spot). entries_at p (lower f) (list_items ts ++ us) ++ entries (list_items ts ++ us) (word_end b s n)) q
      ∙ ap (λ (k : ℕ). occurs (of_symbol f function k) ∷ entries (list_items ts ++ us) (word_end b s n)) (arity-list ts us h)
      ∙ ap (λ (es : List Entry). occurs (of_symbol f function (term_count ts)) ∷ es) (enter-list ts b s n us h)

  enter-list : (ts : NameTerms) (b : Bool) (s : Side) (n : ℕ) (us : List Item) → goes us ≡ true → entries (list_items ts ++ us) (word_end b s n) ≡ all-occur (terms_occurrences ts) ++ entries us (term_end b s n)
  enter-list no_terms b s n us h = enter-word b s n us h
  enter-list (term_and t ts) b s n us h =
      ap (λ (l : List Item). entries l (term b s (suc n))) (append_assoc (term_items t) (more_items ts) us)
      ∙ enter-term t b s (suc n) (more_items ts ++ us) refl (more-goes ts us)
      ∙ ap (λ (d : DueToken). all-occur (term_occurrences t) ++ entries (more_items ts ++ us) d) (done-inside t b s n)
      ∙ ap (λ (es : List Entry). all-occur (term_occurrences t) ++ es) (enter-more ts b s n us)
      ∙ two-occur (term_occurrences t) (terms_occurrences ts) (entries us (term_end b s n))

  enter-more : (ts : NameTerms) (b : Bool) (s : Side) (n : ℕ) (us : List Item) → entries (more_items ts ++ us) (term_end b s (suc n)) ≡ all-occur (terms_occurrences ts) ++ entries us (term_end b s n)
  enter-more no_terms b s n us = refl
  enter-more (term_and t ts) b s n us =
      ap (λ (l : List Item). entries l (term b s (suc n))) (append_assoc (term_items t) (more_items ts) us)
      ∙ enter-term t b s (suc n) (more_items ts ++ us) refl (more-goes ts us)
      ∙ ap (λ (d : DueToken). all-occur (term_occurrences t) ++ entries (more_items ts ++ us) d) (done-inside t b s n)
      ∙ ap (λ (es : List Entry). all-occur (term_occurrences t) ++ es) (enter-more ts b s n us)
      ∙ two-occur (term_occurrences t) (terms_occurrences ts) (entries us (term_end b s n))

-- a literal's first term, where this relation follows it
enter-first : (t : NameTerm) (b c r : Bool) (us : List Item) → goes us ≡ true → relation_ahead us 0 ≡ related r
    → entries (term_items t ++ us) (term b (first c) zero) ≡ marks c (related r) ++ (all-occur (term_occurrences t) ++ entries us (term_done t b (first c) zero))
unfolding due_after_token
enter-first (name_variable x) b c r us h q =
    ap (λ (z : Relation). (marks c z ++ (occurs (of_variable x) ∷ [])) ++ entries us (term_done (name_variable x) b (first c) zero)) q
    ∙ append_assoc (marks c (related r)) (occurs (of_variable x) ∷ []) (entries us (term_done (name_variable x) b (first c) zero))
enter-first (name_apply f ts) b c r us h q =
    let rest : List Entry = entries (list_items ts ++ us) (word_end b (first c) zero) in
    ap (λ (z : Relation). (marks c z ++ (occurs (of_symbol f (kind_before z) (arity_ahead (list_items ts ++ us))) ∷ [])) ++ rest) (relation-list ts us ∙ q)
    ∙ ap (λ (k : ℕ). (marks c (related r) ++ (occurs (of_symbol f function k) ∷ [])) ++ rest) (arity-list ts us h)
    ∙ append_assoc (marks c (related r)) (occurs (of_symbol f function (term_count ts)) ∷ []) rest
    ∙ ap (λ (es : List Entry). marks c (related r) ++ (occurs (of_symbol f function (term_count ts)) ∷ es)) (enter-list ts b (first c) zero us h)

enter-ends : (b : Bool) (s : Side) (e : Bool) (us : List Item) → entries (sign (end_kind e) ∷ us) (term_end b s zero) ≡ entries (sign (end_kind e) ∷ us) (literal_end b)
unfolding due_after_token
enter-ends b (first true) true us = refl
enter-ends b (first false) true us = refl
enter-ends b second true us = refl
enter-ends b (first true) false us = refl
enter-ends b (first false) false us = refl
enter-ends b second false us = refl

enter-equals : (t : NameTerm) (b c : Bool) (us : List Item) → entries (sign equal_sign ∷ us) (term_done t b (first c) zero) ≡ entries us (term b second zero)
unfolding due_after_token
enter-equals (name_variable x) b true us = refl
enter-equals (name_variable x) b false us = refl
enter-equals (name_apply f ts) b true us = refl
enter-equals (name_apply f ts) b false us = refl

enter-unequals : (t : NameTerm) (b : Bool) (us : List Item) → entries (sign unequal_sign ∷ us) (term_done t b (first false) zero) ≡ entries us (term b second zero)
unfolding due_after_token
enter-unequals (name_variable x) b us = refl
enter-unequals (name_apply f ts) b us = refl

enter-second : (u : NameTerm) (b e : Bool) (us : List Item) → entries (term_items u ++ (sign (end_kind e) ∷ us)) (term b second zero) ≡ all-occur (term_occurrences u) ++ entries (sign (end_kind e) ∷ us) (literal_end b)
enter-second u b e us =
    enter-term u b second zero (sign (end_kind e) ∷ us) refl (end_goes e us)
    ∙ ap (λ (d : DueToken). all-occur (term_occurrences u) ++ entries (sign (end_kind e) ∷ us) d) (done-second u b zero)
    ∙ ap (λ (es : List Entry). all-occur (term_occurrences u) ++ es) (enter-ends b second e us)

-- two terms with = or != between
enter-pair : (k : TokenKind) (r : Bool) (t u : NameTerm) (b c e : Bool) (us : List Item) → goes (sign k ∷ (term_items u ++ (sign (end_kind e) ∷ us))) ≡ true
    → relation_ahead (sign k ∷ (term_items u ++ (sign (end_kind e) ∷ us))) 0 ≡ related r
    → entries (sign k ∷ (term_items u ++ (sign (end_kind e) ∷ us))) (term_done t b (first c) zero) ≡ entries (term_items u ++ (sign (end_kind e) ∷ us)) (term b second zero)
    → entries ((term_items t ++ (sign k ∷ term_items u)) ++ (sign (end_kind e) ∷ us)) (term b (first c) zero)
    ≡ marks c (related r) ++ (all-occur (term_occurrences t ++ term_occurrences u) ++ entries (sign (end_kind e) ∷ us) (literal_end b))
enter-pair k r t u b c e us g q m =
    ap (λ (l : List Item). entries l (term b (first c) zero)) (append_assoc (term_items t) (sign k ∷ term_items u) (sign (end_kind e) ∷ us))
    ∙ enter-first t b c r (sign k ∷ (term_items u ++ (sign (end_kind e) ∷ us))) g q
    ∙ ap (λ (es : List Entry). marks c (related r) ++ (all-occur (term_occurrences t) ++ es)) (m ∙ enter-second u b e us)
    ∙ ap (λ (es : List Entry). marks c (related r) ++ es) (two-occur (term_occurrences t) (term_occurrences u) (entries (sign (end_kind e) ∷ us) (literal_end b)))

end-unrelated : (e : Bool) (us : List Item) → relation_ahead (sign (end_kind e) ∷ us) 0 ≡ unrelated
end-unrelated true us = refl
end-unrelated false us = refl

-- an atom after ~ or not
abbrev signed : Bool → NameAtom → NameLiteral
signed true a = tilded a
signed false a = plain a

enter-atom : (a : NameAtom) (b c e : Bool) (us : List Item) → entries (atom_items a ++ (sign (end_kind e) ∷ us)) (term b (first c) zero) ≡ literal_entries (signed c a) ++ entries (sign (end_kind e) ∷ us) (literal_end b)
unfolding due_after_token
enter-atom (name_equal t u) b c e us =
    enter-pair equal_sign true t u b c e us refl refl (enter-equals t b c (term_items u ++ (sign (end_kind e) ∷ us))) ∙ shape c
  where
    rest : List Entry
    rest = all-occur (term_occurrences t ++ term_occurrences u) ++ entries (sign (end_kind e) ∷ us) (literal_end b)

    shape : (c : Bool) → marks c (related true) ++ rest ≡ literal_entries (signed c (name_equal t u)) ++ entries (sign (end_kind e) ∷ us) (literal_end b)
    shape true = refl
    shape false = refl
enter-atom (name_holds p ts) b c e us =
    let vs : List Item = sign (end_kind e) ∷ us in
    let rest : List Entry = entries (list_items ts ++ vs) (word_end b (first c) zero) in
    ap (λ (z : Relation). (marks c z ++ (occurs (of_symbol p (kind_before z) (arity_ahead (list_items ts ++ vs))) ∷ [])) ++ rest) (relation-list ts vs ∙ end-unrelated e us)
    ∙ ap (λ (k : ℕ). (marks c unrelated ++ (occurs (of_symbol p predicate k) ∷ [])) ++ rest) (arity-list ts vs (end_goes e us))
    ∙ ap (λ (es : List Entry). (marks c unrelated ++ (occurs (of_symbol p predicate (term_count ts)) ∷ [])) ++ es)
    (enter-list ts b (first c) zero vs (end_goes e us) ∙ ap (λ (es : List Entry). all-occur (terms_occurrences ts) ++ es) (enter-ends b (first c) e us))
    ∙ shape c
  where
    shape : (c : Bool)
        → (marks c unrelated ++ (occurs (of_symbol p predicate (term_count ts)) ∷ [])) ++ (all-occur (terms_occurrences ts) ++ entries (sign (end_kind e) ∷ us) (literal_end b))
        ≡ literal_entries (signed c (name_holds p ts)) ++ entries (sign (end_kind e) ∷ us) (literal_end b)
    shape true = refl
    shape false = refl

enter-begins : (l : NameLiteral) (us : List Item) → entries (literal_items l ++ us) clause ≡ entries (literal_items l ++ us) (literal false)
unfolding due_after_token
enter-begins never us = refl
enter-begins (plain (name_holds p ts)) us = refl
enter-begins (plain (name_equal (name_variable x) u)) us = refl
enter-begins (plain (name_equal (name_apply f ts) u)) us = refl
enter-begins (tilded a) us = refl
enter-begins (unequal (name_variable x) u) us = refl
enter-begins (unequal (name_apply f ts) u) us = refl

enter-plain : (a : NameAtom) (b : Bool) (us : List Item) → entries (atom_items a ++ us) (literal b) ≡ entries (atom_items a ++ us) (term b (first false) zero)
unfolding due_after_token
enter-plain (name_holds p ts) b us = refl
enter-plain (name_equal (name_variable x) u) b us = refl
enter-plain (name_equal (name_apply f ts) u) b us = refl

enter-differs : (t : NameTerm) (us vs : List Item) (b : Bool) → entries ((term_items t ++ us) ++ vs) (literal b) ≡ entries ((term_items t ++ us) ++ vs) (term b (first false) zero)
unfolding due_after_token
enter-differs (name_variable x) us vs b = refl
enter-differs (name_apply f ts) us vs b = refl

enter-literal : (l : NameLiteral) (b e : Bool) (us : List Item) → entries (literal_items l ++ (sign (end_kind e) ∷ us)) (literal b) ≡ literal_entries l ++ entries (sign (end_kind e) ∷ us) (literal_end b)
unfolding due_after_token
enter-literal never b e us = refl
enter-literal (plain a) b e us = enter-plain a b (sign (end_kind e) ∷ us) ∙ enter-atom a b false e us
enter-literal (tilded a) b e us = enter-atom a b true e us
enter-literal (unequal t u) b e us =
    enter-differs t (sign unequal_sign ∷ term_items u) (sign (end_kind e) ∷ us) b
    ∙ enter-pair unequal_sign false t u b false e us refl refl (enter-unequals t b (term_items u ++ (sign (end_kind e) ∷ us)))

enter-literals : (l : NameLiteral) (ls : List NameLiteral) (b : Bool) (us : List Item)
    → entries (literal_items l ++ (concat_map (λ (k : NameLiteral). sign bar ∷ literal_items k) ls ++ (sign right_paren ∷ us))) (literal b) ≡ clause_entries (l ∷ ls) ++ entries (sign right_paren ∷ us) (literal_end b)
unfolding due_after_token
enter-literals l [] b us =
    enter-literal l b false us ∙ ap (λ (es : List Entry). es ++ entries (sign right_paren ∷ us) (literal_end b)) (sym (append-nil (literal_entries l)))
enter-literals l (k ∷ ls) b us =
    let more : List Item = concat_map (λ (k : NameLiteral). sign bar ∷ literal_items k) ls in
    enter-literal l b true ((literal_items k ++ more) ++ (sign right_paren ∷ us))
    ∙ ap (λ (us : List Item). literal_entries l ++ entries us (literal b)) (append_assoc (literal_items k) more (sign right_paren ∷ us))
    ∙ ap (λ (es : List Entry). literal_entries l ++ es) (enter-literals k ls b us)
    ∙ sym (append_assoc (literal_entries l) (clause_entries (k ∷ ls)) (entries (sign right_paren ∷ us) (literal_end b)))

enter-body : (l : Layout) (w : Bool) (us : List Item)
    → entries ((cond w (sign left_paren ∷ (clause_items l ++ (sign right_paren ∷ []))) (clause_items l) ++ (sign right_paren ∷ sign full_stop ∷ [])) ++ us) clause ≡ clause_entries (written_clause l)
unfolding due_after_token
enter-body l true us =
    let more : List Item = concat_map (λ (k : NameLiteral). sign bar ∷ literal_items k) l.others in
    let rest : List Item = sign right_paren ∷ sign full_stop ∷ us in
    let shape : ((clause_items l ++ (sign right_paren ∷ [])) ++ (sign right_paren ∷ sign full_stop ∷ [])) ++ us ≡ literal_items l.first ++ (more ++ (sign right_paren ∷ rest)) =
    append_assoc (clause_items l ++ (sign right_paren ∷ [])) (sign right_paren ∷ sign full_stop ∷ []) us
    ∙ append_assoc (clause_items l) (sign right_paren ∷ []) rest
    ∙ append_assoc (literal_items l.first) more (sign right_paren ∷ rest) in
    ap (λ (us : List Item). entries us (literal true)) shape ∙ enter-literals l.first l.others true rest ∙ append-nil (clause_entries (written_clause l))
enter-body l false us =
    let more : List Item = concat_map (λ (k : NameLiteral). sign bar ∷ literal_items k) l.others in
    let rest : List Item = sign full_stop ∷ us in
    let shape : (clause_items l ++ (sign right_paren ∷ sign full_stop ∷ [])) ++ us ≡ literal_items l.first ++ (more ++ (sign right_paren ∷ rest)) =
    append_assoc (clause_items l) (sign right_paren ∷ sign full_stop ∷ []) us ∙ append_assoc (literal_items l.first) more (sign right_paren ∷ rest) in
    ap (λ (us : List Item). entries us clause) shape ∙ enter-begins l.first (more ++ (sign right_paren ∷ rest)) ∙ enter-literals l.first l.others false rest ∙ append-nil (clause_entries (written_clause l))

-- the entries of a statement, whatever follows it
pub enter-statement : (l : Layout) (us : List Item) → entries (statement_items l ++ us) statement ≡ clause_entries (written_clause l)
unfolding due_after_token
enter-statement l us = go l.name
  where
    go : (o : Option Name) → entries (clause_name o ∷ sign comma ∷ lower l.role ∷ sign comma ∷ (body_items l ++ us)) name ≡ clause_entries (written_clause l)
    go (some n) = enter-body l l.wrapped us
    go none = enter-body l l.wrapped us
