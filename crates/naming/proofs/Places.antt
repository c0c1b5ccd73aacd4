-- The mode's clauses one by one: how many, which at each place, each within the limits and with letters A to H; and none but the sheet's where no term is named.
use Prim.Native.Nat.{ℕ, zero, suc, ◌+◌, ◌≤◌, ◌<◌}
use mathlib.Core.Path.{◌≡◌, refl, sym, ap, ◌∙◌}
use mathlib.Core.Bool.{Bool, true, false, cond, ◌&&◌, false≢true}
use mathlib.Core.List.{List, [], ◌∷◌, ◌++◌, map}
use native.Mathlib.Nat.{add-zero}
use native.Mathlib.Omega.{arith}
use lib.ListN.{length, get_or, length-append, length-map, get_or-append}
use lib.Seq.{get_or-append-add}
use Rattle.theory.specs.Lists.{all}
use Rattle.theory.specs.Syntax.{Signature, Term, variable, apply, Terms, empty, cons, Atom, equal, holds, Literal, Clause, clause_ok}
use Rattle.theory.specs.Grammar.{term_words, terms_words, atom_words, clause_words}
use Rattle.theory.specs.Lifted.{among}
use Rattle.theory.specs.Problem.{Problem}
use Rattle.theory.specs.WellFormed.{is_known_letter, clause_accepted}
use Rattle.theory.proofs.Parsing.{at-most-24}
use Rattle.theory.proofs.Tests.{and_left, and_right, and-join}
use Rattle.theory.proofs.Lists.{all_append, all-and, all-imply, all_map, map_at}
use Rattle.naming.specs.FixedTerms.{is_fixed, are_fixed, is_nameable, term_named, terms_named, atom_named, clause_named, named_terms, name_of, short_term, short_terms, short_atom, short_clause, helper_clause, helper_clauses, named_clauses}
use Rattle.naming.specs.NamedProblem.{in_mode}
use Rattle.naming.specs.NamedReading.{is_within}
use Rattle.naming.proofs.NamedTerms.{named-fixed, named-covers, literal-covers}
use Rattle.naming.proofs.Helpers.{with_helpers, length-with}
use Rattle.naming.proofs.ShortClauses.{named_clauses-ok}
use Rattle.naming.proofs.Reading.{is_taken, taken-ok, taken-letters, taken-within, Taken}

length-helper_clauses : (i : ℕ) (ts : List Term) → length (helper_clauses i ts) ≡ length ts
length-helper_clauses i [] = refl
length-helper_clauses i (t ∷ ts) = ap suc (length-helper_clauses (suc i) ts)

helper_clauses-at : (i : ℕ) (ts : List Term) (k : ℕ) → k < length ts → get_or (helper_clauses i ts) k [] ≡ helper_clause (i + k) (get_or ts k (variable 0))
helper_clauses-at i [] k h = absurd (omega arith)
helper_clauses-at i (t ∷ ts) zero h = ap (λ (j : ℕ). helper_clause j t) (sym (add-zero i))
helper_clauses-at i (t ∷ ts) (suc k) h =
    let e : suc i + k ≡ i + suc k = omega arith in
    helper_clauses-at (suc i) ts k (omega arith) ∙ ap (λ (j : ℕ). helper_clause j (get_or ts k (variable 0))) e

module _ (n : ℕ) (cs : List Clause) where
  abbrev ts : List Term
  ts = named_terms cs

  pub length-named_clauses : length (named_clauses n cs) ≡ length ts + length cs
  unfolding named_clauses
  length-named_clauses =
      length-append (helper_clauses n ts) (map (short_clause n ts) cs)
      ∙ ap (λ (k : ℕ). k + length (map (short_clause n ts) cs)) (length-helper_clauses n ts)
      ∙ ap (λ (k : ℕ). length ts + k) (length-map cs (short_clause n ts))

  -- the helpers' own clauses come first
  pub helper-at : (k : ℕ) → k < length ts → get_or (named_clauses n cs) k [] ≡ helper_clause (n + k) (get_or ts k (variable 0))
  unfolding named_clauses
  helper-at k h =
      get_or-append (helper_clauses n ts) (map (short_clause n ts) cs) [] k (omega (arith, h, length-helper_clauses n ts)) ∙ helper_clauses-at n ts k h

  -- then the sheet's, shortened
  pub short-at : (k : ℕ) → k < length cs → get_or (named_clauses n cs) (length ts + k) [] ≡ short_clause n ts (get_or cs k [])
  unfolding named_clauses
  short-at k h =
      ap (λ (m : ℕ). get_or (named_clauses n cs) (m + k) []) (sym (length-helper_clauses n ts))
      ∙ get_or-append-add (helper_clauses n ts) (map (short_clause n ts) cs) k []
      ∙ map_at (short_clause n ts) cs k [] [] h

-- Where no term is named a clause stays as it is.
module _ (n : ℕ) (ts : List Term) where
  mutual
    term-kept : (t : Term) → all (among []) (term_named t) ≡ true → short_term n ts t ≡ t
    term-kept (variable x) h = refl
    term-kept (apply f us) h = go (is_nameable (apply f us)) h (λ k. terms-kept us k)
      where
        go : (b : Bool) → all (among []) (cond b (apply f us ∷ []) (terms_named us)) ≡ true → (all (among []) (terms_named us) ≡ true → short_terms n ts us ≡ us)
            → cond b (name_of n ts (apply f us)) (apply f (short_terms n ts us)) ≡ apply f us
        go true k ih = absurd (false≢true k)
        go false k ih = ap (apply f) (ih k)

    terms-kept : (us : Terms) → all (among []) (terms_named us) ≡ true → short_terms n ts us ≡ us
    terms-kept empty h = refl
    terms-kept (cons t us) h =
        let both : (all (among []) (term_named t) && all (among []) (terms_named us)) ≡ true = sym (all_append (among []) (term_named t) (terms_named us)) ∙ h in
        ap (λ (u : Term). cons u (short_terms n ts us)) (term-kept t (and_left (all (among []) (term_named t)) (all (among []) (terms_named us)) both))
        ∙ ap (cons t) (terms-kept us (and_right (all (among []) (term_named t)) (all (among []) (terms_named us)) both))

  atom-kept : (a : Atom) → all (among []) (atom_named a) ≡ true → short_atom n ts a ≡ a
  atom-kept (equal t u) h =
      let both : (all (among []) (term_named t) && all (among []) (term_named u)) ≡ true = sym (all_append (among []) (term_named t) (term_named u)) ∙ h in
      ap (λ (v : Term). equal v (short_term n ts u)) (term-kept t (and_left (all (among []) (term_named t)) (all (among []) (term_named u)) both))
      ∙ ap (equal t) (term-kept u (and_right (all (among []) (term_named t)) (all (among []) (term_named u)) both))
  atom-kept (holds p us) h = ap (holds p) (terms-kept us h)

  clause-kept : (c : Clause) → all (λ (l : Literal). all (among []) (atom_named l.atom)) c ≡ true → short_clause n ts c ≡ c
  clause-kept [] h = refl
  clause-kept (l ∷ c) h =
      let here : Bool = all (among []) (atom_named l.atom) in
      let rest : Bool = all (λ (l : Literal). all (among []) (atom_named l.atom)) c in
      ap (λ (a : Atom). record { sign = l.sign; atom = a } ∷ short_clause n ts c) (atom-kept l.atom (and_left here rest h)) ∙ ap (λ (d : Clause). l ∷ d) (clause-kept c (and_right here rest h))

  clauses-kept : (cs : List Clause) → all (λ c. all (among []) (clause_named c)) cs ≡ true → map (short_clause n ts) cs ≡ cs
  clauses-kept [] h = refl
  clauses-kept (c ∷ cs) h =
      ap (λ (d : Clause). d ∷ map (short_clause n ts) cs) (clause-kept c (literal-covers [] c (and_left (all (among []) (clause_named c)) (all (λ c. all (among []) (clause_named c)) cs) h)))
      ∙ ap (λ (ds : List Clause). c ∷ ds) (clauses-kept cs (and_right (all (among []) (clause_named c)) (all (λ c. all (among []) (clause_named c)) cs) h))

pub none_named : (n : ℕ) (cs : List Clause) → named_terms cs ≡ [] → named_clauses n cs ≡ cs
unfolding named_clauses
none_named n cs e =
    ap (λ (ts : List Term). helper_clauses n ts ++ map (short_clause n ts) cs) e
    ∙ clauses-kept n [] cs (ap (λ (ts : List Term). all (λ c. all (among ts) (clause_named c)) cs) (sym e) ∙ named-covers cs)

-- Letters: a term without variables has none, and shortening adds none.
mutual
  fixed-letters : (t : Term) → is_fixed t ≡ true → all is_known_letter (term_words t) ≡ true
  fixed-letters (variable x) h = absurd (false≢true h)
  fixed-letters (apply f ts) h = fixeds-letters ts h

  fixeds-letters : (ts : Terms) → are_fixed ts ≡ true → all is_known_letter (terms_words ts) ≡ true
  fixeds-letters empty h = refl
  fixeds-letters (cons t ts) h =
      all_append is_known_letter (term_words t) (terms_words ts)
      ∙ and-join (all is_known_letter (term_words t)) (all is_known_letter (terms_words ts)) (fixed-letters t (and_left (is_fixed t) (are_fixed ts) h)) (fixeds-letters ts (and_right (is_fixed t) (are_fixed ts) h))

helpers-letters : (i : ℕ) (ts : List Term) → all is_fixed ts ≡ true → all (λ c. all is_known_letter (clause_words c)) (helper_clauses i ts) ≡ true
helpers-letters i [] h = refl
helpers-letters i (t ∷ ts) h =
    and-join (all is_known_letter (clause_words (helper_clause i t))) (all (λ c. all is_known_letter (clause_words c)) (helper_clauses (suc i) ts))
    (all_append is_known_letter (term_words t) [] ∙ and-join (all is_known_letter (term_words t)) true (fixed-letters t (and_left (is_fixed t) (all is_fixed ts) h)) refl)
    (helpers-letters (suc i) ts (and_right (is_fixed t) (all is_fixed ts) h))

module _ (n : ℕ) (ts : List Term) where
  mutual
    short-letters : (t : Term) → all is_known_letter (term_words t) ≡ true → all is_known_letter (term_words (short_term n ts t)) ≡ true
    short-letters (variable x) h = h
    short-letters (apply f us) h = go (is_nameable (apply f us)) (shorts-letters us h)
      where
        go : (b : Bool) → all is_known_letter (terms_words (short_terms n ts us)) ≡ true → all is_known_letter (term_words (cond b (name_of n ts (apply f us)) (apply f (short_terms n ts us)))) ≡ true
        go true k = refl
        go false k = k

    shorts-letters : (us : Terms) → all is_known_letter (terms_words us) ≡ true → all is_known_letter (terms_words (short_terms n ts us)) ≡ true
    shorts-letters empty h = refl
    shorts-letters (cons t us) h =
        let both : (all is_known_letter (term_words t) && all is_known_letter (terms_words us)) ≡ true = sym (all_append is_known_letter (term_words t) (terms_words us)) ∙ h in
        all_append is_known_letter (term_words (short_term n ts t)) (terms_words (short_terms n ts us))
        ∙ and-join (all is_known_letter (term_words (short_term n ts t))) (all is_known_letter (terms_words (short_terms n ts us)))
        (short-letters t (and_left (all is_known_letter (term_words t)) (all is_known_letter (terms_words us)) both)) (shorts-letters us (and_right (all is_known_letter (term_words t)) (all is_known_letter (terms_words us)) both))

  atom-letters : (a : Atom) → all is_known_letter (atom_words a) ≡ true → all is_known_letter (atom_words (short_atom n ts a)) ≡ true
  atom-letters (equal t u) h =
      let both : (all is_known_letter (term_words t) && all is_known_letter (term_words u)) ≡ true = sym (all_append is_known_letter (term_words t) (term_words u)) ∙ h in
      all_append is_known_letter (term_words (short_term n ts t)) (term_words (short_term n ts u))
      ∙ and-join (all is_known_letter (term_words (short_term n ts t))) (all is_known_letter (term_words (short_term n ts u)))
      (short-letters t (and_left (all is_known_letter (term_words t)) (all is_known_letter (term_words u)) both)) (short-letters u (and_right (all is_known_letter (term_words t)) (all is_known_letter (term_words u)) both))
  atom-letters (holds p us) h = shorts-letters us h

  clause-letters : (c : Clause) → all is_known_letter (clause_words c) ≡ true → all is_known_letter (clause_words (short_clause n ts c)) ≡ true
  clause-letters [] h = refl
  clause-letters (l ∷ c) h =
      let here : Bool = all is_known_letter (atom_words l.atom) in
      let rest : Bool = all is_known_letter (clause_words c) in
      let both : (here && rest) ≡ true = sym (all_append is_known_letter (atom_words l.atom) (clause_words c)) ∙ h in
      all_append is_known_letter (atom_words (short_atom n ts l.atom)) (clause_words (short_clause n ts c))
      ∙ and-join (all is_known_letter (atom_words (short_atom n ts l.atom))) (all is_known_letter (clause_words (short_clause n ts c)))
      (atom-letters l.atom (and_left here rest both)) (clause-letters c (and_right here rest both))

named-letters : (n : ℕ) (cs : List Clause) → all (λ c. all is_known_letter (clause_words c)) cs ≡ true → all (λ c. all is_known_letter (clause_words c)) (named_clauses n cs) ≡ true
unfolding named_clauses
named-letters n cs h =
    let known : Clause → Bool = λ c. all is_known_letter (clause_words c) in
    let ts : List Term = named_terms cs in
    all_append known (helper_clauses n ts) (map (short_clause n ts) cs)
    ∙ and-join (all known (helper_clauses n ts)) (all known (map (short_clause n ts) cs)) (helpers-letters n ts (named-fixed cs))
    (all_map known (short_clause n ts) cs ∙ all-imply known (λ c. known (short_clause n ts c)) cs (clause-letters n ts) h)

-- the clauses that the mode has, of clauses that are taken, are accepted over the mode's symbols
pub named-accepted : (g : Signature) (cs : List Clause) → all (is_taken g) cs ≡ true → all (clause_accepted (with_helpers g (named_terms cs))) (named_clauses (length g) cs) ≡ true
named-accepted g cs h =
    let ds : List Clause = named_clauses (length g) cs in
    let g⁺ : Signature = with_helpers g (named_terms cs) in
    all-and (λ c. clause_ok g⁺ c && is_within c) (λ c. all is_known_letter (clause_words c)) ds
    (all-and (clause_ok g⁺) is_within ds (named_clauses-ok g cs (taken-ok g cs h)) (taken-within g cs h)) (named-letters (length g) cs (taken-letters g cs h))

-- a problem of the mode has at most 56 symbols and 96 clauses
pub mode-counts : (p : Problem) → Taken p → (length (in_mode p).symbols ≤ 56) × (length (in_mode p).clauses ≤ 96)
unfolding in_mode
mode-counts p t = (
  omega (arith, length-with p.symbols (named_terms p.clauses), at-most-24 (record { symbols = p.symbols; clauses = [] }) t.symbols, t.helpers),
  omega (arith, length-named_clauses (length p.symbols) p.clauses, t.count, t.helpers),
)
