-- A clause's literals are valued from the left: as long as none is true, those left have the truth of the clause.
use Prim.Native.Nat.{ℕ, ◌+◌, ◌-◌, ◌≤◌, ◌<◌}
use mathlib.Core.Path.{◌≡◌, refl, sym, ap, ◌∙◌, subst}
use mathlib.Core.Bool.{Bool, true, false, ◌||◌, ◌&&◌}
use mathlib.Core.List.{List, [], ◌∷◌, ◌++◌, map, append-nil}
use native.Mathlib.Nat.{add-zero}
use native.Mathlib.Omega.{arith}
use lib.ListN.{length, get_or, drop, length-map, length-drop}
use lib.Seq.{drop-drop, get_or-drop}
use Rattle.theory.specs.Vectors.{AllBelow}
use Rattle.theory.specs.Syntax.{Signature, Atom, equal, holds, Literal, Clause, count, predicate_of, term_ok, terms_ok, atom_ok, clause_ok}
use Rattle.theory.specs.Truth.{Interpretation, Assignment, atom_true, literal_true, clause_true, assign}
use Rattle.theory.specs.Cells.{interpretation}
use Rattle.theory.specs.Grammar.{Word, sign, equals, letter, term_words, terms_words, atom_words, clause_words, Grammar, clause_if, read_clause}
use Rattle.theory.proofs.Tests.{and_left, and_right, and-join}
use Rattle.theory.proofs.Lists.{map_at}
use Rattle.theory.proofs.Grammar.{read_clause-sound}
use Rattle.text.specs.Lines.{part}
use Rattle.syntax.specs.Codes.{letter_code, code_of, code_word}
use Rattle.syntax.proofs.Codes.{code_of-word_of, known-declared}
use Rattle.syntax.proofs.Places.{assign-placed}
use Rattle.interpretation.proofs.Ranks.{all_below-at}
use Rattle.truth.specs.declared.values.TermsSpan.{TermsSpan}
use Rattle.truth.specs.Values.{Chosen, ClauseLent, lent_clause}
use Rattle.truth.specs.Steps.{Interprets, TermsStand, VariablesHeld, Tail, VariablesLent, VariablesValued, TermsLent, TermsValued, atom_word, atom_terms, AtomLent, IsAtomValue}
use Rattle.truth.proofs.Standing.{end-within, behind-stand}
use Rattle.truth.proofs.Variables.{letter-below, letter-occurs, letter-placed}

-- an atom's words are its first word and those of its terms
atom-words : (a : Atom) → atom_words a ≡ atom_word a ∷ terms_words (atom_terms a)
atom-words (equal t u) = ap (λ (us : List Word). equals ∷ (term_words t ++ us)) (sym (append-nil (term_words u)))
atom-words (holds p ts) = refl

pub atom-terms : (g : Signature) (a : Atom) → atom_ok g a ≡ true → terms_ok g (atom_terms a) ≡ true
atom-terms g (equal t u) h =
    and-join (term_ok g t) (term_ok g u && true) (and_left (term_ok g t) (term_ok g u) h) (and-join (term_ok g u) true (and_right (term_ok g t) (term_ok g u) h) refl)
atom-terms g (holds p ts) h = and_right (predicate_of g p (count ts)) (terms_ok g ts) h

module _ {words place arities : List ℕ} {functions : List Bool} {bases cells : List ℕ} {s : ℕ} (c : ClauseLent words place arities functions bases cells s) {choice : List ℕ} (chosen : Chosen c.variables s choice) where
  abbrev ws : List Word
  ws = map code_word words

  abbrev g : Signature
  g = c.signature

  abbrev I : Interpretation
  I = interpretation s c.signature cells

  abbrev ρ : Assignment
  ρ = assign c.variables choice

  -- from place i on stand literals that have the truth of the clause
  pub record LiteralsLeft (i : ℕ) : Type 0 where
    pub literals : Clause
    pub ok : clause_ok c.signature literals ≡ true
    pub stand : drop i (map code_word words) ≡ clause_words literals
    pub same : clause_true (interpretation s c.signature cells) (assign c.variables choice) (lent_clause c) ≡ clause_true (interpretation s c.signature cells) (assign c.variables choice) literals

  pub all_left : LiteralsLeft 0
  unfolding read_clause
  all_left =
      let r = read_clause-sound g ws (lent_clause c) (known-declared g ws c.known) (ap (λ (t : Grammar). clause_if t (lent_clause c)) c.good) in
      record {
        literals = lent_clause c;
        ok = r.0;
        stand = sym r.1;
        same = refl;
      }

  -- no literal is left at the end
  pub none_left : (i : ℕ) → length words ≤ i → LiteralsLeft i → false ≡ clause_true (interpretation s c.signature cells) (assign c.variables choice) (lent_clause c)
  none_left i h l = go l.literals l.stand l.same
    where
      go : (d : Clause) → drop i ws ≡ clause_words d → clause_true I ρ (lent_clause c) ≡ clause_true I ρ d → false ≡ clause_true I ρ (lent_clause c)
      go [] e q = sym q
      go (m ∷ d) e q = absurd (omega (arith, ap length e, length-drop i ws, length-map words code_word))

  -- the literal from place i on, and those behind it
  pub record LiteralHere (i : ℕ) : Type 0 where
    pub literal : Literal
    pub behind : Clause
    pub ok : atom_ok c.signature literal.atom ≡ true
    pub behind-ok : clause_ok c.signature behind ≡ true
    pub stand : drop i (map code_word words) ≡ sign literal.sign ∷ (atom_word literal.atom ∷ (terms_words (atom_terms literal.atom) ++ clause_words behind))
    pub same : clause_true (interpretation s c.signature cells) (assign c.variables choice) (lent_clause c) ≡ (literal_true (interpretation s c.signature cells) (assign c.variables choice) literal || clause_true (interpretation s c.signature cells) (assign c.variables choice) behind)

  pub literal-here : (i : ℕ) → i < length words → LiteralsLeft i → LiteralHere i
  literal-here i h l = go l.literals l.ok l.stand l.same
    where
      go : (d : Clause) → clause_ok g d ≡ true → drop i ws ≡ clause_words d → clause_true I ρ (lent_clause c) ≡ clause_true I ρ d → LiteralHere i
      go [] k e q = absurd (omega (arith, ap length e, length-drop i ws, length-map words code_word))
      go (m ∷ d) k e q =
          record {
            literal = m;
            behind = d;
            ok = and_left (atom_ok g m.atom) (clause_ok g d) k;
            behind-ok = and_right (atom_ok g m.atom) (clause_ok g d) k;
            stand = e ∙ ap (λ (us : List Word). sign m.sign ∷ (us ++ clause_words d)) (atom-words m.atom);
            same = q;
          }

  module _ {i : ℕ} (n : LiteralHere i) where
    pub two-words : i + 2 ≤ length words
    two-words = omega (arith, ap length n.stand, length-drop i ws, length-map words code_word)

    word_at : (k : ℕ) → i + k < length words → code_word (get_or words (i + k) 0) ≡ get_or (drop i ws) k equals
    word_at k h = sym (map_at code_word words (i + k) 0 equals h) ∙ sym (get_or-drop i ws k equals)

    sign_at : code_word (get_or words i 0) ≡ sign n.literal.sign
    sign_at = ap (λ (j : ℕ). code_word (get_or words j 0)) (sym (add-zero i)) ∙ word_at 0 (omega (arith, two-words)) ∙ ap (λ (us : List Word). get_or us 0 equals) n.stand

    pub atom-at : code_word (get_or words (i + 1) 0) ≡ atom_word n.literal.atom
    atom-at = word_at 1 (omega (arith, two-words)) ∙ ap (λ (us : List Word). get_or us 1 equals) n.stand

    -- its terms
    abbrev pub terms-there : TermsStand c.signature words (i + 2)
    terms-there =
        record {
          within = two-words;
          known = c.known;
          good = c.good;
          terms = atom_terms n.literal.atom;
          ok = atom-terms g n.literal.atom n.ok;
          behind = n.behind;
          behind-ok = n.behind-ok;
          stand = sym (drop-drop 2 i ws) ∙ ap (drop 2) n.stand;
        }

    abbrev pub variables-lent : VariablesLent words (i + 2) place choice
    variables-lent =
        record {
          signature = c.signature;
          small = c.lent.small;
          there = terms-there;
          variables = c.variables;
          letters = c.letters;
          eight = c.lent.letters;
          places = c.lent.places;
          counted = chosen.counted;
        }

    pub interprets : Interprets c.signature bases cells s
    interprets =
        record {
          size = c.lent.size;
          small = c.lent.small;
          bases-held = c.lent.tables.bases-held;
          base = c.lent.tables.base;
          values = c.lent.values;
        }

    pub chosen-below : (j x : ℕ) → j < length words → code_word (get_or words j 0) ≡ letter x → ρ x < s
    chosen-below j x h e =
        let k : get_or words j 0 ≡ letter_code + x = sym (code_of-word_of (get_or words j 0)) ∙ ap code_of e in
        let m : get_or words j 0 - letter_code ≡ x = omega arith in
        let l : letter_code ≤ get_or words j 0 = omega arith in
        let b : ρ (get_or words j 0 - letter_code) < s =
        rw (assign-placed c.variables _ c.lent.places (get_or words j 0 - letter_code) (letter-below variables-lent j h l) (letter-occurs variables-lent j h l) choice)
        (all_below-at s choice (get_or place (get_or words j 0 - letter_code) 0) (letter-placed variables-lent j h l) chosen.below) in
        rw m at b

    -- a true literal makes the clause true; behind a false one the others are left
    pub true-literal : (b : Bool) → b ≡ literal_true I ρ n.literal → b ≡ true → true ≡ clause_true (interpretation s c.signature cells) (assign c.variables choice) (lent_clause c)
    true-literal b e k = sym (n.same ∙ ap (λ (b : Bool). b || clause_true I ρ n.behind) (sym e ∙ k))

    pub false-literal : {r : TermsSpan} {held : List ℕ} → VariablesValued variables-lent r held → (b : Bool) → b ≡ literal_true I ρ n.literal → b ≡ false → LiteralsLeft r.end
    false-literal v b e k =
        record {
          literals = n.behind;
          ok = n.behind-ok;
          stand = ap (λ (e : ℕ). drop e ws) v.end ∙ behind-stand terms-there;
          same = n.same ∙ ap (λ (b : Bool). b || clause_true I ρ n.behind) (sym e ∙ k);
        }

    pub goes_on : {r : TermsSpan} {held : List ℕ} → VariablesValued variables-lent r held → (i < r.end) × (r.end ≤ length words)
    goes_on v = (omega (arith, v.end), omega (arith, v.end, end-within terms-there))

    -- with its variables valued, its terms
    module _ {r : TermsSpan} {held : List ℕ} (v : VariablesValued variables-lent r held) (long : length held ≡ 64) where
      abbrev pub terms-lent : TermsLent words (i + 2) r.tail arities bases cells s held
      terms-lent =
          record {
            signature = c.signature;
            interprets = interprets;
            table = c.lent.tables.arities;
            there = terms-there;
            room = omega (arith, c.fits, long);
            tail = subst (Tail words (i + 2) r.tail) v.end v.tail;
            assignment = assign c.variables choice;
            below = λ j x a b e. chosen-below j x (omega (arith, end-within terms-there)) e;
            variables = subst (λ (e : ℕ). VariablesHeld ρ words (i + 2) e held) v.end v.values;
          }

      -- with its terms valued, its atom
      module _ {top : ℕ} {held' : List ℕ} (t : TermsValued terms-lent top held') where
        pub top_within : top ≤ r.end
        top_within = omega (arith, t.within, v.end)

        abbrev pub atom-lent : AtomLent (get_or words (i + 1) 0) bases cells s (part held' top r.end)
        atom-lent =
            record {
              signature = c.signature;
              interprets = interprets;
              assignment = assign c.variables choice;
              atom = n.literal.atom;
              ok = n.ok;
              begins = atom-at;
              terms = ap (part held' top) v.end ∙ t.terms;
              below = subst (λ (e : ℕ). AllBelow s (part held' top e)) (sym v.end) t.below;
            }

        -- and with its atom valued, itself
        pub literal-is : (atom b : Bool) → IsAtomValue (get_or words (i + 1) 0) bases cells s (part held' top r.end) atom
            → ((I : Interpretation) (ρ : Assignment) (l : Literal) → code_word (get_or words i 0) ≡ sign l.sign → atom ≡ atom_true I ρ l.atom → b ≡ literal_true I ρ l)
            → b ≡ literal_true (interpretation s c.signature cells) (assign c.variables choice) n.literal
        literal-is atom b a h = h I ρ n.literal sign_at (a atom-lent)
