-- What the readers find at a place of the words, and what they answer.
use Rattle.std.specs.Prelude.{ℕ, ◌+◌, ◌≤◌, ◌<◌, ◌≡◌, true, List, ◌++◌, map, eqb, length, get_or, take, drop}
use Rattle.theory.specs.Lists.{all, place_that}
use Rattle.theory.specs.Syntax.{Signature, Term, Terms, count, term_variables, terms_variables, term_ok, terms_ok}
use Rattle.theory.specs.Grammar.{Word, term_words, terms_words}
use Rattle.theory.specs.Problem.{max_words}
use Rattle.theory.specs.Flattening.{function_terms, all_function_terms, add_terms, variable_for}
use Rattle.theory.specs.Lifted.{within}
use Rattle.syntax.specs.Codes.{code_word}
use Rattle.syntax.specs.Signatures.{Arities, Small}
use Rattle.syntax.specs.Variables.{is_letter, place_or8}
use Rattle.lifting.specs.declared.table.Table.{Table}
use Rattle.lifting.specs.declared.terms.Reading.{Reading}
use Rattle.lifting.specs.declared.terms.Lifted.{Lifted}
use Rattle.lifting.specs.declared.terms.AllLifted.{AllLifted}
use Rattle.lifting.specs.Places.{place_in, places}
use Rattle.lifting.specs.Lifts.{Lifts}

-- what the readers' lists stand for: a signature, the codes of the clause's words, and its own variables
pub record Source (codes place arities : List ℕ) (owns : ℕ) : Type 0 where
  pub signature : Signature
  pub table : Arities signature arities
  pub small : Small signature
  pub count : ℕ
  pub fits : count ≤ length codes
  pub short : count ≤ max_words
  pub variables : List ℕ
  pub letters : all is_letter variables ≡ true
  pub owned : owns ≡ length variables
  pub few : owns ≤ 8
  pub eight : 8 ≤ length place
  pub places : (x : ℕ) → x < 8 → get_or place x 0 ≡ place_or8 (place_that (eqb x) variables)

-- the clause's words
abbrev pub words_from : List ℕ → ℕ → ℕ → List Word
words_from codes n at = drop at (map code_word (take n codes))

-- a term stands at the place, and the table holds the terms found before
pub record TermThere (codes place arities : List ℕ) (owns at : ℕ) (t : Table) : Type 0 where
  pub source : Source codes place arities owns
  pub term : Term
  pub ok : term_ok source.signature term ≡ true
  pub own : within source.variables (term_variables term) ≡ true
  pub rest : List Word
  pub words : words_from codes source.count at ≡ term_words term ++ rest
  pub found : List Term
  pub lifts : Lifts source.signature source.variables found t
  pub room : length found ≤ at

-- n terms do
pub record TermsThere (codes place arities : List ℕ) (owns at n : ℕ) (t : Table) : Type 0 where
  pub source : Source codes place arities owns
  pub terms : Terms
  pub counted : count terms ≡ n
  pub ok : terms_ok source.signature terms ≡ true
  pub own : within source.variables (terms_variables terms) ≡ true
  pub rest : List Word
  pub words : words_from codes source.count at ≡ terms_words terms ++ rest
  pub found : List Term
  pub lifts : Lifts source.signature source.variables found t
  pub room : length found ≤ at

-- the same of what is lent
abbrev pub TermAt : Reading → ℕ → ℕ → Table → Type 0
TermAt r owns at t = TermThere r.words.now r.place.now r.arities.now owns at t

abbrev pub TermsAt : Reading → ℕ → ℕ → ℕ → Table → Type 0
TermsAt r owns at n t = TermsThere r.words.now r.place.now r.arities.now owns at n t

module _ {codes place arities : List ℕ} {owns at : ℕ} {t : Table} where
  -- the term's function terms are found too, and its variable stands for it; `after` is the table afterwards
  pub record TermLifted (s : TermThere codes place arities owns at t) (r : Lifted) (after : Table) : Type 0 where
    pub next : r.next ≡ at + length (term_words s.term)
    pub lifts : Lifts s.source.signature s.source.variables (add_terms s.found (function_terms s.term)) after
    pub variable : r.variable ≡ place_in s.source.variables (variable_for (add_terms s.found (function_terms s.term)) s.term)

module _ {codes place arities : List ℕ} {owns at n : ℕ} {t : Table} where
  -- the terms' function terms are found too, and the variables stand for the first three; `after` is the table afterwards
  pub record TermsLifted (s : TermsThere codes place arities owns at n t) (r : AllLifted) (after : Table) : Type 0 where
    pub next : r.next ≡ at + length (terms_words s.terms)
    pub lifts : Lifts s.source.signature s.source.variables (add_terms s.found (all_function_terms s.terms)) after
    pub variables : (j : ℕ) → j < 3
        → get_or r.variables j 0 ≡ get_or (places s.source.variables (add_terms s.found (all_function_terms s.terms)) s.terms) j 0
