-- The words of a clause of an accepted problem: read again from its place, or with names in the place of terms.
use Prim.Native.Nat.{ℕ, ◌+◌, ◌≤◌, ◌<◌}
use mathlib.Core.Path.{◌≡◌, refl, sym, ap, ◌∙◌, subst}
use mathlib.Core.Logic.{◌⊎◌, inl, inr}
use mathlib.Core.Bool.{Bool, true, false, cond}
use mathlib.Core.Option.{Option, none, some, some-injective}
use mathlib.Core.List.{List, [], ◌∷◌, ◌++◌}
use native.Mathlib.Omega.{arith}
use lib.Dec.{leb}
use lib.ListN.{length, get_or}
use Rattle.theory.specs.Lists.{all}
use Rattle.theory.specs.Syntax.{Signature, Term, variable, Clause, clause_ok}
use Rattle.theory.specs.Grammar.{Word, clause_words, read_words, read_clause}
use Rattle.theory.specs.Lines.{words_of}
use Rattle.theory.specs.Flattening.{add_term, add_terms}
use Rattle.theory.specs.Lifted.{among}
use Rattle.theory.specs.Problem.{max_words, read_all, within_limits}
use Rattle.std.specs.Prelude.{Some, None}
use Rattle.std.specs.Prelude as rust
use Rattle.theory.proofs.Tests.{true-or-false, leb-true, leb-false, and_left, and_right}
use Rattle.theory.proofs.Lists.{all-at, map_at}
use Rattle.theory.proofs.Grammar.{clause-read, read_clause-complete}
use Rattle.text.specs.Lines.{part, LineEnd}
use Rattle.syntax.specs.declared.limits.Problem.{Problem}
use Rattle.syntax.specs.declared.signature.Signature as declared
use Rattle.syntax.specs.Signatures.{signature_in}
use Rattle.syntax.specs.Codes.{clause_in}
use Rattle.clauses.specs.declared.clause.Words.{Words}
use Rattle.clauses.specs.Clauses.{codes_of, WordsRead, AcceptedWords}
use Rattle.clauses.proofs.Finished as finished
use Rattle.naming.specs.FixedTerms.{clause_named, named_terms, short_clause, helper_clause, named_clauses}
use Rattle.naming.specs.NamedReading.{is_within}
use Rattle.naming.proofs.NamedTerms.{named-covers}
use Rattle.naming.proofs.ShortClauses.{named_clauses-ok}
use Rattle.naming.proofs.Places.{helper-at, short-at}
use Rattle.shortening.specs.declared.short.ShortLine.{ShortLine}
use Rattle.shortening.specs.Tables.{no_span, spans_of, term_at}
use Rattle.shortening.specs.ShortLines.{LineClause, names_with, RoomFor, Shortened, ShortRead}
use Rattle.shortening.specs.HelperWords.{WordsTo}
use Rattle.shortening.specs.Asked.{ShortAsked, HelperAsked}
use Rattle.shortening.proofs.TableWalk.{length-spans, span-at}
use Rattle.shortening.proofs.ShortLengths.{words-within}
use Rattle.problem.specs.Problems.{sheet_signature, line_count, lines_in, problem_in, Accepted, WordsOf}
use Rattle.syntax.proofs.Signatures.{length-signature_in}
use Rattle.problem.proofs.NamedLines.{between}
use Rattle.problem.proofs.LinesThere.{same_line, line_of}
use Rattle.problem.proofs.Counted.{line-count, line_at, lines_ok, clauses-plain, symbols-plain, clauses-named, named_count, symbols-named, clause-count, declared-held, declared-readable}

-- words of a clause within the limits
words-accepted : (g : Signature) (c : Clause) (w : Words) → clause_ok g c ≡ true → WordsTo g (clause_words c) w → is_within c ≡ true → AcceptedWords g (codes_of w) × (clause_in g (codes_of w) ≡ c)
words-accepted g c w ok words within =
    let few : w.count ≤ max_words = go (true-or-false (leb w.count max_words)) in
    let read : read_clause g (clause_words c) ≡ some c = read_clause-complete g c ok in
    (finished.accepted g (clause_words c) w (words.whole few) c read (words.known few) within, finished.accepted-clause g (clause_words c) w (words.whole few) c read (words.known few) within)
  where
    go : (leb w.count max_words ≡ true) ⊎ (leb w.count max_words ≡ false) → w.count ≤ max_words
    go (inl e) = leb-true w.count max_words e
    go (inr e) = absurd (omega (arith, words.long (leb-false w.count max_words e), words-within c within))

-- words are known or not
not-both : (ws : List Word) (o : Option (List Word)) → o ≡ none → o ≡ some ws → ⊥
not-both ws o h e = let z : ◌≡◌ {A = ℕ} 0 1 = cc in omega arith

-- terms that are all there add none
none-added : (found ts : List Term) → all (among found) ts ≡ true → add_terms found ts ≡ found
none-added found [] h = refl
none-added found (t ∷ ts) h =
    let e : add_term found t ≡ found = ap (λ (b : Bool). cond b found (found ++ (t ∷ []))) (and_left (among found t) (all (among found) ts) h) in
    ap (λ (fs : List Term). add_terms fs ts) e ∙ none-added found ts (and_right (among found t) (all (among found) ts) h)

module _ (sheet : List ℕ) (p : Problem) (h : Accepted sheet p) where
  abbrev g : Signature
  g = signature_in sheet (sheet_signature p)

  abbrev g⁺ : Signature
  g⁺ = signature_in sheet p.signature

  abbrev cs : List Clause
  cs = lines_in sheet p

  within-at : (k : ℕ) → k < p.count → is_within (get_or (problem_in sheet p).clauses k []) ≡ true
  within-at k l = all-at is_within [] (problem_in sheet p).clauses k h.within (omega (arith, clause-count sheet p h))

  -- Read plain: the clause line is read again.
  module _ (none : p.terms.count ≡ 0) (k : ℕ) (l : k < p.count) where
    below : k < line_count p
    below = omega (arith, none)

    plain-clause : get_or (problem_in sheet p).clauses k [] ≡ (h.lines k below).clause
    plain-clause = ap (λ (ds : List Clause). get_or ds k []) (clauses-plain sheet p h none) ∙ line_at sheet p h k below

    -- the line's words, the same that were read when it was taken
    module _ (end : ℕ) (e : LineEnd sheet (get_or p.clauses k 0) end) where
      abbrev bytes : List ℕ
      bytes = part sheet (get_or p.clauses k 0) end

      abbrev there : Clause
      there = (h.lines k below).clause

      same-symbols : g ≡ g⁺
      same-symbols = symbols-plain sheet p h none

      read : read_all g⁺ (words_of bytes) ≡ some (clause_words there)
      read =
          let t = h.lines k below in
          ap (λ (s : Signature). read_all s (words_of bytes)) (sym same-symbols) ∙ ap (λ (u : List ℕ). read_all g (words_of u)) (sym (same_line sheet (get_or p.clauses k 0) end t.line t.cut e)) ∙ t.words

      ok : clause_ok g⁺ there ≡ true
      ok = ap (λ (s : Signature). clause_ok s there) (sym same-symbols) ∙ (h.lines k below).ok

      pub words-there : WordsRead g⁺ (words_of bytes) None → ⊥
      words-there u = not-both (clause_words there) (read_all g⁺ (words_of bytes)) u read

      pub words-again : (w : Words) → WordsRead g⁺ (words_of bytes) (Some w) → WordsOf sheet p k (codes_of w)
      words-again w t =
          let ws = t.0 in
          let same : ws ≡ clause_words there = some-injective ws (clause_words there) (sym t.1 ∙ read) in
          let clause : read_clause g⁺ ws ≡ some there = ap (read_clause g⁺) same ∙ read_clause-complete g⁺ there ok in
          let known = finished.known-words g⁺ bytes ws t.1 in
          let within : within_limits ws there ≡ true = ap (λ (us : List Word). within_limits us there) same ∙ ap is_within (sym plain-clause) ∙ within-at k l in
          record { accepted = finished.accepted g⁺ ws w t.2 there clause known within; clause = finished.accepted-clause g⁺ ws w t.2 there clause known within ∙ sym plain-clause }

  -- With helpers.
  module _ (some⁺ : p.terms.count ≡ 0 → ⊥) where
    ok_at : (k : ℕ) → k < p.count → clause_ok g⁺ (get_or (problem_in sheet p).clauses k []) ≡ true
    ok_at k l =
        all-at (clause_ok g⁺) [] (problem_in sheet p).clauses k
        (ap (λ (ds : List Clause). all (clause_ok g⁺) ds) (clauses-named sheet p h some⁺)
        ∙ ap (λ (s : Signature). all (clause_ok s) (named_clauses (length g) cs)) (symbols-named sheet p h some⁺)
        ∙ named_clauses-ok g cs (lines_ok sheet p h))
        (omega (arith, clause-count sheet p h))

    -- words of the clause at a place
    words-at : (k : ℕ) → k < p.count → (c : Clause) → get_or (problem_in sheet p).clauses k [] ≡ c → (w : Words) → WordsTo g⁺ (clause_words c) w → WordsOf sheet p k (codes_of w)
    words-at k l c e w words =
        let r = words-accepted g⁺ c w (ap (clause_ok g⁺) (sym e) ∙ ok_at k l) words (ap is_within (sym e) ∙ within-at k l) in
        record { accepted = r.0; clause = r.1 ∙ sym e }

    -- a helper's own clause
    pub helper-again : (k : ℕ) → k < p.terms.count → (w : Words) → WordsTo g⁺ (clause_words (helper_clause (length g + k) (term_at g sheet (get_or p.terms.spans k no_span)))) w → WordsOf sheet p k (codes_of w)
    helper-again k l w words =
        words-at k (omega (arith, h.helpers)) (helper_clause (length g + k) (term_at g sheet (get_or p.terms.spans k no_span)))
        (ap (λ (ds : List Clause). get_or ds k []) (clauses-named sheet p h some⁺)
        ∙ helper-at (length g) cs k (omega (arith, named_count sheet p h some⁺))
        ∙ ap (λ (us : List Term). helper_clause (length g + k) (get_or us k (variable 0))) (sym (h.found some⁺))
        ∙ ap (helper_clause (length g + k)) (map_at (term_at g sheet) (spans_of p.terms) k no_span (variable 0) (omega (arith, length-spans sheet p.terms h.terms.table)) ∙ ap (term_at g sheet) (span-at sheet p.terms h.terms.table k l)))
        w words

    module _ (k : ℕ) (l : k < line_count p) where
      abbrev c : Clause
      c = (h.lines k l).clause

      -- all its terms have names
      named-there : names_with g sheet p.terms c ≡ named_terms cs
      named-there =
          let covered : all (among (named_terms cs)) (clause_named (get_or cs k [])) ≡ true = all-at (λ d. all (among (named_terms cs)) (clause_named d)) [] cs k (named-covers cs) (omega (arith, line-count sheet p h)) in
          ap (λ (found : List Term). add_terms found (clause_named c)) (h.found some⁺)
          ∙ none-added (named_terms cs) (clause_named c) (ap (λ (d : Clause). all (among (named_terms cs)) (clause_named d)) (sym (line_at sheet p h k l)) ∙ covered)

      -- and there is a constant for each
      pub names-room : (from to : ℕ) → LineClause g sheet from to → ((d : LineClause g sheet from to) → d.clause ≡ c) → RoomFor g sheet from to p.terms p.signature.count
      names-room from to z same d i le room =
          let n : length (names_with g sheet p.terms d.clause) ≡ p.terms.count =
          ap (λ (x : Clause). length (names_with g sheet p.terms x)) (same d) ∙ ap length named-there ∙ named_count sheet p h some⁺ in
          omega (arith, h.behind.count, length-signature_in sheet (sheet_signature p) (declared-held sheet p h))

      -- the shortened clause
      pub short-again : (r : ShortLine) → ShortRead g g⁺ sheet p.terms c r → WordsOf sheet p (p.terms.count + k) (codes_of r.words)
      short-again r s =
          words-at (p.terms.count + k) (omega (arith, h.helpers)) (short_clause (length g) (names_with g sheet p.terms c) c)
          (ap (λ (ds : List Clause). get_or ds (p.terms.count + k) []) (clauses-named sheet p h some⁺)
          ∙ ap (λ (n : ℕ). get_or (named_clauses (length g) cs) (n + k) []) (sym (named_count sheet p h some⁺))
          ∙ short-at (length g) cs k (omega (arith, line-count sheet p h))
          ∙ ap (short_clause (length g) (named_terms cs)) (line_at sheet p h k l)
          ∙ ap (λ (us : List Term). short_clause (length g) us c) (sym named-there))
          r.words (record { long = s.long; whole = λ few. (s.whole few).passed; known = λ few. (s.whole few).known })

      pub never-full : Shortened g g⁺ sheet p.terms c None → ⊥
      never-full full = omega (arith, full, ap length named-there, named_count sheet p h some⁺, h.terms.table.count)

-- a line has one clause
line-unique : (g : Signature) (sheet : List ℕ) (from to : ℕ) (a b : LineClause g sheet from to) → a.clause ≡ b.clause
line-unique g sheet from to a b =
    sym (clause-read g a.clause a.ok)
    ∙ ap (λ (ws : List Word). (read_words g ws).clause) (some-injective (clause_words a.clause) (clause_words b.clause) (sym a.words ∙ b.words))
    ∙ clause-read g b.clause b.ok

-- What is asked and told of a line and of a helper, where the declared symbols are d.
abbrev ShortAsks : List ℕ → Problem → ℕ → ℕ → declared.Signature → Type 0
ShortAsks sheet p from end d = ShortAsked sheet d p.signature from end p.terms

abbrev pub ShortTells : List ℕ → Problem → ℕ → ℕ → rust.Option ShortLine → declared.Signature → Type 0
ShortTells sheet p from end r d = (l : LineClause (signature_in sheet d) sheet from end) → Shortened (signature_in sheet d) (signature_in sheet p.signature) sheet p.terms l.clause r

abbrev HelperAsks : List ℕ → Problem → ℕ → declared.Signature → Type 0
HelperAsks sheet p k d = HelperAsked sheet d p.signature (d.count + k) (get_or p.terms.spans k no_span)

abbrev pub HelperTells : List ℕ → Problem → ℕ → Words → declared.Signature → Type 0
HelperTells sheet p k w d = WordsTo (signature_in sheet p.signature) (clause_words (helper_clause (d.count + k) (term_at (signature_in sheet d) sheet (get_or p.terms.spans k no_span)))) w

module _ (sheet : List ℕ) (p : Problem) (h : Accepted sheet p) (d : declared.Signature) (same : d ≡ sheet_signature p) where
  pub helper-asks : (k : ℕ) → k < p.terms.count → HelperAsked sheet d p.signature (d.count + k) (get_or p.terms.spans k no_span)
  helper-asks k l =
      subst (HelperAsks sheet p k) (sym same)
      (record { readable = declared-readable sheet p h; limited = h.readable.limited; fewer = omega (arith, h.behind.count); below = omega (arith, h.behind.count); there = h.terms.there k l })

  pub helper-told : (k : ℕ) → k < p.terms.count → (w : Words) → HelperTells sheet p k w d → WordsOf sheet p k (codes_of w)
  helper-told k l w t =
      helper-again sheet p h (λ e. omega arith) k l w
      (ap-place (subst (HelperTells sheet p k w) same t))
    where
      ap-place : HelperTells sheet p k w (sheet_signature p)
          → WordsTo (signature_in sheet p.signature) (clause_words (helper_clause (length (signature_in sheet (sheet_signature p)) + k) (term_at (signature_in sheet (sheet_signature p)) sheet (get_or p.terms.spans k no_span)))) w
      ap-place =
          subst (λ (n : ℕ). WordsTo (signature_in sheet p.signature) (clause_words (helper_clause (n + k) (term_at (signature_in sheet (sheet_signature p)) sheet (get_or p.terms.spans k no_span)))) w)
          (sym (length-signature_in sheet (sheet_signature p) (declared-held sheet p h)))

  module _ (some⁺ : p.terms.count ≡ 0 → ⊥) (k : ℕ) (l : k < line_count p) (end : ℕ) (e : LineEnd sheet (get_or p.clauses k 0) end) where
    abbrev at : ℕ
    at = get_or p.clauses k 0

    abbrev line : LineClause (signature_in sheet (sheet_signature p)) sheet at end
    line = line_of sheet (signature_in sheet (sheet_signature p)) at (h.lines k l) end e (between (signature_in sheet (sheet_signature p)) sheet at end)

    pub short-asks : ShortAsked sheet d p.signature at end p.terms
    short-asks =
        subst (ShortAsks sheet p at end) (sym same)
        (record {
          line = record { declared = record { readable = declared-readable sheet p h; few = h.few }; within = e.within; line = line };
          limited = h.readable.limited;
          there = h.terms;
          room = names-room sheet p h some⁺ k l at end line (λ x. line-unique (signature_in sheet (sheet_signature p)) sheet at end x line);
        })

    pub short-told : (r : ShortLine) → ShortTells sheet p at end (Some r) d → WordsOf sheet p (p.terms.count + k) (codes_of r.words)
    short-told r t = short-again sheet p h some⁺ k l r (subst (ShortTells sheet p at end (Some r)) same t line)

    pub short-there : ShortTells sheet p at end None d → ⊥
    short-there t = never-full sheet p h some⁺ k l (subst (ShortTells sheet p at end None) same t line)
