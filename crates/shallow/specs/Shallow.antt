-- The literals made shallow so far, and what the next one adds.
use Rattle.std.specs.Prelude.{ℕ, ◌+◌, ◌≤◌, ◌<◌, ◌≡◌, Bool, true, List, [], ◌∷◌, ◌++◌, map, length, set, replicate}
use Rattle.theory.specs.Lists.{all, up_to}
use Rattle.theory.specs.Syntax.{Signature, Term, equal, Clause, term_variables, atom_variables, variables, term_ok, atom_ok}
use Rattle.theory.specs.Syntax as theory
use Rattle.theory.specs.Grammar.{Word, sign, term_words, atom_words}
use Rattle.theory.specs.Problem.{max_words, max_literals}
use Rattle.theory.specs.Flattening.{merged, turned_atom, turned, to_lift, add_terms, lifted_terms, shallow}
use Rattle.theory.specs.Lifted.{within, covered_atom}
use Rattle.syntax.specs.declared.words.ClauseWords.{ClauseWords}
use Rattle.syntax.specs.Codes.{clause_in}
use Rattle.lifting.specs.declared.table.Table.{Table}
use Rattle.lifting.specs.declared.terms.Reading.{Reading}
use Rattle.lifting.specs.Rows.{blank_row}
use Rattle.lifting.specs.Lifts.{Lifts}
use Rattle.lifting.specs.Reading.{Source, words_from}
use Rattle.shallow.specs.declared.literals.Literal.{Literal}
use Rattle.shallow.specs.declared.literals.Lifting.{Lifting}
use Rattle.shallow.specs.Placed.{placed_literal}
use Rattle.shallow.specs.Literals.{blank_literal, literal_in}
use Rattle.shallow.specs.Flattenable.{Flattenable}

-- before the first literal
unfoldable pub started : ℕ → Lifting
started owns =
    record {
      literals = replicate max_literals blank_literal;
      count = 0;
      owns = owns;
      table = record { rows = replicate max_words blank_row; count = 0 };
      next = 0;
    }

-- one literal more, and the lifted terms after it
abbrev pub with_literal : Lifting → Literal → Table → ℕ → Lifting
with_literal l k t next =
    record {
      literals = set l.literals l.count k;
      count = l.count + 1;
      owns = l.owns;
      table = t;
      next = next;
    }

-- the literals `done` are made shallow with the terms found, and what is to be lifted from them is found
pub record Made (g : Signature) (xs : List ℕ) (found : List Term) (done : Clause) (l : Lifting) : Type 0 where
  pub literals : length l.literals ≡ max_literals
  pub count : l.count ≡ length done
  pub made : map (literal_in g l.literals) (up_to l.count) ≡ map (λ (k : theory.Literal). placed_literal xs (shallow found (turned k))) done
  pub covered : all (λ (k : theory.Literal). covered_atom found (turned_atom k.atom)) done ≡ true

-- a literal stands at the place reached
pub record LiteralThere (codes place arities : List ℕ) (l : Lifting) : Type 0 where
  pub source : Source codes place arities l.owns
  pub literal : theory.Literal
  pub ok : atom_ok source.signature literal.atom ≡ true
  pub own : within source.variables (atom_variables literal.atom) ≡ true
  pub rest : List Word
  pub words : words_from codes source.count l.next ≡ sign literal.sign ∷ (atom_words literal.atom ++ rest)
  pub found : List Term
  pub lifts : Lifts source.signature source.variables found l.table
  pub room : length found ≤ l.next
  pub done : Clause
  pub made : Made source.signature source.variables found done l
  pub space : l.count < max_literals

-- the two terms of an equality stand at a place
pub record EqualityThere (codes place arities : List ℕ) (l : Lifting) (b : Bool) (at : ℕ) : Type 0 where
  pub source : Source codes place arities l.owns
  pub left : Term
  pub right : Term
  pub left-ok : term_ok source.signature left ≡ true
  pub right-ok : term_ok source.signature right ≡ true
  pub left-own : within source.variables (term_variables left) ≡ true
  pub right-own : within source.variables (term_variables right) ≡ true
  pub rest : List Word
  pub words : words_from codes source.count at ≡ term_words left ++ (term_words right ++ rest)
  pub found : List Term
  pub lifts : Lifts source.signature source.variables found l.table
  pub room : length found ≤ at
  pub done : Clause
  pub made : Made source.signature source.variables found done l
  pub space : l.count < max_literals

-- the same of what is lent
abbrev pub LiteralAt : Reading → Lifting → Type 0
LiteralAt r l = LiteralThere r.words.now r.place.now r.arities.now l

abbrev pub EqualityAt : Reading → Lifting → Bool → ℕ → Type 0
EqualityAt r l b at = EqualityThere r.words.now r.place.now r.arities.now l b at

-- the literal k is made shallow and what is to be lifted from it is found, its words ending at `end`
pub record LiteralAdded (g : Signature) (xs : List ℕ) (found : List Term) (done : Clause) (l : Lifting) (k : theory.Literal) (end : ℕ) (r : Lifting) : Type 0 where
  pub next : r.next ≡ end
  pub owns : r.owns ≡ l.owns
  pub lifts : Lifts g xs (add_terms found (to_lift (turned_atom k.atom))) r.table
  pub made : Made g xs (add_terms found (to_lift (turned_atom k.atom))) (done ++ (k ∷ [])) r

-- the literal that stands there is added
abbrev pub LiteralMade : {codes place arities : List ℕ} {l : Lifting} → LiteralThere codes place arities l → Lifting → Type 0
LiteralMade {codes} {place} {arities} {l} s r =
    LiteralAdded s.source.signature s.source.variables s.found s.done l s.literal (l.next + length (sign s.literal.sign ∷ atom_words s.literal.atom)) r

-- the equality of two terms, or that they differ
abbrev pub equality_literal : Bool → Term → Term → theory.Literal
equality_literal b t u = record { sign = b; atom = equal t u }

-- that of the two terms that stand there is added
abbrev pub EqualityMade : {codes place arities : List ℕ} {l : Lifting} {b : Bool} {at : ℕ} → EqualityThere codes place arities l b at → Lifting → Type 0
EqualityMade {codes} {place} {arities} {l} {b} {at} s r =
    LiteralAdded s.source.signature s.source.variables s.found s.done l (equality_literal b s.left s.right) (at + length (term_words s.left ++ term_words s.right)) r

-- all literals of the clause after step 1 are made shallow
pub record ClauseLifted {arities : List ℕ} {w : ClauseWords} (s : Flattenable arities w) (r : Lifting) : Type 0 where
  pub owns : r.owns ≡ length (variables (merged (clause_in s.signature w)))
  pub few : r.owns ≤ 8
  pub room : r.table.count ≤ max_words
  pub lifts : Lifts s.signature (variables (merged (clause_in s.signature w))) (lifted_terms (map turned (merged (clause_in s.signature w)))) r.table
  pub made : Made s.signature (variables (merged (clause_in s.signature w))) (lifted_terms (map turned (merged (clause_in s.signature w)))) (merged (clause_in s.signature w)) r
