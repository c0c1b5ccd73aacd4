-- Reading: the reader of the mode goes in step with the plain one; only limit 7 and 21 differ.
use Prim.Native.Nat.{ℕ, zero, suc, ◌≤◌}
use mathlib.Core.Path.{◌≡◌, refl, sym, ap, ◌∙◌, subst}
use mathlib.Core.Bool.{Bool, true, false, ◌&&◌}
use mathlib.Core.Option.{some}
use mathlib.Core.List.{List, [], ◌∷◌, ◌++◌}
use native.Mathlib.Nat.{add-zero}
use native.Mathlib.Omega.{arith}
use lib.Dec.{leb}
use lib.ListN.{length}
use Rattle.theory.specs.Lists.{all}
use Rattle.theory.specs.Bytes.{bytes}
use Rattle.theory.specs.Lines.{Cut, cut_line, after_key, words_of}
use Rattle.theory.specs.Syntax.{Signature, Clause, clause_ok}
use Rattle.theory.specs.Grammar.{Word, clause_words, read_clause}
use Rattle.theory.specs.Refusals.{Refusal, Answer, answer, refused, at_line, unplaced, ◌>>=◌}
use Rattle.theory.specs.Problem.{max_clauses, key_line, read_all, clause_of, clause_lines, Problem, read_problem}
use Rattle.theory.specs.Columns.{with_columns}
use Rattle.theory.specs.WellFormed.{is_known_letter, WellFormed}
use Rattle.theory.specs.Claims.Grammar.{is_declared}
use Rattle.theory.proofs.Tests.{leb-true, leb-of-≤, and_left, and_right, and-join}
use Rattle.theory.proofs.Lists.{all_append, all-imply}
use Rattle.theory.proofs.Answers.{unbind, bind-step, answer-inj, check-true, check-of-true, or_refuse-some, RefusedSo, bind-so, check-so, or_refuse-so, refused-so}
use Rattle.theory.proofs.PlacedReading.{answered}
use Rattle.theory.proofs.Grammar.{read_clause-sound}
use Rattle.theory.proofs.Parsing.{read_all-known, read_problem-well_formed, clauses-ok}
use Rattle.naming.specs.FixedTerms.{named_terms, named_clauses}
use Rattle.naming.specs.NamedProblem.{in_mode}
use Rattle.naming.specs.NamedReading.{max_helpers, is_within, is_within_named, named_clause_of, named_clause_lines, read_named, named_column, placed_named}
use Rattle.naming.specs.Claims.Naming.{Sheet}
use Rattle.naming.specs.Claims.Reading.{Reading, OverLine, SevenStands}
use Rattle.naming.proofs.SheetHead.{Head, first_clause, head, plain_rest, named_rest, plain-parts, named-parts, HeadRead, head_read}
use Rattle.naming.proofs.Limits.{and-true, lines-within}

-- two answered chains that begin with the same step
unbind₂ : {A B D C : Type 0} (m : Answer A) (k : A → Answer B) (h : A → Answer D) (b : B) (d : D) → (m >>= k) ≡ answer b → (m >>= h) ≡ answer d
    → ((a : A) → m ≡ answer a → k a ≡ answer b → h a ≡ answer d → C) → C
unfolding ◌>>=◌
unbind₂ (answer a) k h b d e f go = go a refl e f
unbind₂ (refused r) k h b d e f go = let z : ◌≡◌ {A = ℕ} 0 1 = cc in absurd (omega arith)

clause-same : (g : Signature) (l : ℕ) (v : List ℕ) (c d : Clause) → clause_of g l v ≡ answer c → named_clause_of g l v ≡ answer d → c ≡ d
unfolding clause_of named_clause_of
clause-same g l v c d e f =
    unbind₂ _ _ _ c d e f λ (ws : List Word) _ e₁ f₁.
    unbind₂ _ _ _ c d e₁ f₁ λ (r : Clause) _ e₂ f₂.
    unbind _ _ c e₂ λ (u : Unit {0}) _ e₃.
    unbind _ _ d f₂ λ (u' : Unit {0}) _ f₃.
    sym (answer-inj r c e₃) ∙ answer-inj r d f₃

lines_same : (n : ℕ) (g : Signature) (l : ℕ) (text : List ℕ) (r q : (List Clause) × List ℕ) → clause_lines n g l text ≡ answer r → named_clause_lines n g l text ≡ answer q → r ≡ q
unfolding clause_lines named_clause_lines
lines_same zero g l text r q e f = sym (answer-inj ([], text) r e) ∙ answer-inj ([], text) q f
lines_same (suc n) g l text r q e f =
    unbind₂ _ _ _ r q e f λ (p : Cut) _ e₁ f₁.
    unbind _ _ r e₁ λ (c : Clause) h₂ e₂.
    unbind _ _ q f₁ λ (d : Clause) k₂ f₂.
    unbind _ _ r e₂ λ (cs : (List Clause) × List ℕ) h₃ e₃.
    unbind _ _ q f₂ λ (ds : (List Clause) × List ℕ) k₃ f₃.
    let x : c ≡ d = clause-same g l p.0 c d h₂ k₂ in
    let y : cs ≡ ds = lines_same n g (suc l) p.1 cs ds h₃ k₃ in
    sym (answer-inj (c ∷ cs.0, cs.1) r e₃)
    ∙ ap (λ (c : Clause). (c ∷ cs.0, cs.1)) x
    ∙ ap (λ (cs : (List Clause) × List ℕ). (d ∷ cs.0, cs.1)) y
    ∙ answer-inj (d ∷ ds.0, ds.1) q f₃

rest-same : (h : Head) (p q : Problem) → plain_rest h ≡ answer p → named_rest h ≡ answer q → p ≡ q
unfolding plain_rest named_rest
rest-same h p q e f =
    unbind _ _ p e λ (cs : (List Clause) × List ℕ) h₁ e₁.
    unbind _ _ q f λ (ds : (List Clause) × List ℕ) k₁ f₁.
    unbind _ _ p e₁ λ (u : Unit {0}) _ e₂.
    unbind _ _ q f₁ λ (u₁ : Unit {0}) _ f₂.
    unbind _ _ q f₂ λ (u₂ : Unit {0}) _ f₃.
    sym (answer-inj (record { symbols = h.symbols; clauses = cs.0 }) p e₂)
    ∙ ap (λ (cs : (List Clause) × List ℕ). record { symbols = h.symbols; clauses = cs.0 }) (lines_same h.clauses h.symbols (first_clause h) h.rest cs ds h₁ k₁)
    ∙ answer-inj (record { symbols = h.symbols; clauses = ds.0 }) q f₃

read_same : (sheet : List ℕ) (p q : Problem) → read_problem sheet ≡ answer p → read_named sheet ≡ answer q → p ≡ q
read_same sheet p q e f = unbind₂ (head sheet) plain_rest named_rest p q (sym (plain-parts sheet) ∙ e) (sym (named-parts sheet) ∙ f) λ (h : Head) _ e₁ f₁. rest-same h p q e₁ f₁

-- the words of a clause line are those of its clause: over the symbols, with letters A to H
words-taken : (g : Signature) (v : List ℕ) (ws : List Word) (c : Clause) → read_all g (words_of v) ≡ some ws → read_clause g ws ≡ some c → (clause_ok g c ≡ true) × (all is_known_letter (clause_words c) ≡ true)
words-taken g v ws c h k =
    let known : all (λ x. is_declared g x && is_known_letter x) ws ≡ true = read_all-known g (words_of v) ws h in
    let sound = read_clause-sound g ws c (all-imply (λ x. is_declared g x && is_known_letter x) (is_declared g) ws (λ x. and_left (is_declared g x) (is_known_letter x)) known) k in
    (sound.0, ap (all is_known_letter) sound.1 ∙ all-imply (λ x. is_declared g x && is_known_letter x) is_known_letter ws (λ x. and_right (is_declared g x) (is_known_letter x)) known)

-- a clause that is taken: over the symbols, with letters A to H, within the limits of the mode
abbrev pub is_taken : Signature → Clause → Bool
is_taken g c = clause_ok g c && all is_known_letter (clause_words c) && is_within_named (length g) c

clause-taken : (g : Signature) (l : ℕ) (v : List ℕ) (c : Clause) → named_clause_of g l v ≡ answer c → is_taken g c ≡ true
unfolding named_clause_of
clause-taken g l v c e =
    unbind _ _ c e λ (ws : List Word) h₁ e₁.
    unbind _ _ c e₁ λ (d : Clause) h₂ e₂.
    unbind _ _ c e₂ λ (u : Unit {0}) h₃ e₃.
    let s = words-taken g v ws d (or_refuse-some (read_all g (words_of v)) (at_line 5 l) ws h₁) (or_refuse-some (read_clause g ws) (at_line 6 l) d h₂) in
    ap (is_taken g) (sym (answer-inj d c e₃))
    ∙ and-join (clause_ok g d && all is_known_letter (clause_words d)) (is_within_named (length g) d) (and-join (clause_ok g d) (all is_known_letter (clause_words d)) s.0 s.1)
    (check-true (is_within_named (length g) d) (at_line 7 l) u h₃)

lines-taken : (n : ℕ) (g : Signature) (l : ℕ) (text : List ℕ) (r : (List Clause) × List ℕ) → named_clause_lines n g l text ≡ answer r → (length r.0 ≡ n) × (all (is_taken g) r.0 ≡ true)
unfolding named_clause_lines
lines-taken zero g l text r e =
    let q : [] ≡ r.0 = ap (λ (r : (List Clause) × List ℕ). r.0) (answer-inj ([], text) r e) in
    (ap length (sym q), ap (all (is_taken g)) (sym q))
lines-taken (suc n) g l text r e =
    unbind _ _ r e λ (p : Cut) _ e₁.
    unbind _ _ r e₁ λ (c : Clause) h₂ e₂.
    unbind _ _ r e₂ λ (cs : (List Clause) × List ℕ) h₃ e₃.
    let q : c ∷ cs.0 ≡ r.0 = ap (λ (r : (List Clause) × List ℕ). r.0) (answer-inj (c ∷ cs.0, cs.1) r e₃) in
    let rest = lines-taken n g (suc l) p.1 cs h₃ in
    (ap length (sym q) ∙ ap suc rest.0, ap (all (is_taken g)) (sym q) ∙ and-join (is_taken g c) (all (is_taken g) cs.0) (clause-taken g l p.0 c h₂) rest.1)

-- what they are, part by part
module _ (g : Signature) (cs : List Clause) (h : all (is_taken g) cs ≡ true) where
  pub taken-ok : all (clause_ok g) cs ≡ true
  taken-ok =
      all-imply (is_taken g) (clause_ok g) cs
      (λ c k. and_left (clause_ok g c) (all is_known_letter (clause_words c)) (and_left (clause_ok g c && all is_known_letter (clause_words c)) (is_within_named (length g) c) k)) h

  pub taken-letters : all (λ c. all is_known_letter (clause_words c)) cs ≡ true
  taken-letters =
      all-imply (is_taken g) (λ c. all is_known_letter (clause_words c)) cs
      (λ c k. and_right (clause_ok g c) (all is_known_letter (clause_words c)) (and_left (clause_ok g c && all is_known_letter (clause_words c)) (is_within_named (length g) c) k)) h

  pub taken-within : all is_within (named_clauses (length g) cs) ≡ true
  taken-within = lines-within g cs taken-ok ∙ all-imply (is_taken g) (is_within_named (length g)) cs (λ c. and_right (clause_ok g c && all is_known_letter (clause_words c)) (is_within_named (length g) c)) h

-- clauses that the plain reader takes are taken in the mode where they are within its limits
clause-takes : (g : Signature) (l : ℕ) (v : List ℕ) (c : Clause) → clause_of g l v ≡ answer c → is_within_named (length g) c ≡ true → named_clause_of g l v ≡ answer c
unfolding clause_of named_clause_of
clause-takes g l v c e w =
    unbind _ _ c e λ (ws : List Word) h₁ e₁.
    unbind _ _ c e₁ λ (d : Clause) h₂ e₂.
    unbind _ _ c e₂ λ (u : Unit {0}) _ e₃.
    bind-step _ _ ws (answer c) h₁
    (bind-step _ _ d (answer c) h₂
    (bind-step _ _ tt (answer c) (check-of-true (is_within_named (length g) d) (at_line 7 l) (ap (is_within_named (length g)) (answer-inj d c e₃) ∙ w)) e₃))

lines-take : (n : ℕ) (g : Signature) (l : ℕ) (text : List ℕ) (r : (List Clause) × List ℕ)
    → clause_lines n g l text ≡ answer r → all (is_within_named (length g)) r.0 ≡ true → named_clause_lines n g l text ≡ answer r
unfolding clause_lines named_clause_lines
lines-take zero g l text r e w = e
lines-take (suc n) g l text r e w =
    unbind _ _ r e λ (p : Cut) h₁ e₁.
    unbind _ _ r e₁ λ (c : Clause) h₂ e₂.
    unbind _ _ r e₂ λ (cs : (List Clause) × List ℕ) h₃ e₃.
    let k : all (is_within_named (length g)) (c ∷ cs.0) ≡ true = ap (λ (r : (List Clause) × List ℕ). all (is_within_named (length g)) r.0) (answer-inj (c ∷ cs.0, cs.1) r e₃) ∙ w in
    bind-step _ _ p (answer r) h₁
    (bind-step _ _ c (answer r) (clause-takes g l p.0 c h₂ (and_left (is_within_named (length g) c) (all (is_within_named (length g)) cs.0) k))
    (bind-step _ _ cs (answer r) (lines-take n g (suc l) p.1 cs h₃ (and_right (is_within_named (length g) c) (all (is_within_named (length g)) cs.0) k)) e₃))

rest-takes : (h : Head) (p : Problem) → plain_rest h ≡ answer p → all (is_within_named (length p.symbols)) p.clauses ≡ true → length (named_terms p.clauses) ≤ 32 → named_rest h ≡ answer p
unfolding plain_rest named_rest
rest-takes h p e w few =
    unbind _ _ p e λ (cs : (List Clause) × List ℕ) h₁ e₁.
    unbind _ _ p e₁ λ (u : Unit {0}) h₂ e₂.
    let q : record { symbols = h.symbols; clauses = cs.0 } ≡ p = answer-inj (record { symbols = h.symbols; clauses = cs.0 }) p e₂ in
    let within : all (is_within_named (length h.symbols)) cs.0 ≡ true = ap (λ (p : Problem). all (is_within_named (length p.symbols)) p.clauses) q ∙ w in
    let helpers : leb (length (named_terms cs.0)) 32 ≡ true = ap (λ (p : Problem). leb (length (named_terms p.clauses)) 32) q ∙ leb-of-≤ (length (named_terms p.clauses)) 32 few in
    bind-step _ _ cs (answer p) (lines-take h.clauses h.symbols (first_clause h) h.rest cs h₁ within)
    (bind-step _ _ u (answer p) h₂ (bind-step _ _ tt (answer p) (check-of-true _ (unplaced 21) helpers) e₂))

read-takes : (sheet : List ℕ) (p : Problem) → read_problem sheet ≡ answer p → all (is_within_named (length p.symbols)) p.clauses ≡ true → length (named_terms p.clauses) ≤ 32 → read_named sheet ≡ answer p
read-takes sheet p e w few =
    unbind (head sheet) plain_rest p (sym (plain-parts sheet) ∙ e) λ (h : Head) k e₁. named-parts sheet ∙ bind-step (head sheet) named_rest h (answer p) k (rest-takes h p e₁ w few)

-- what holds of a problem read in the mode: its symbols are as in a plain problem without clauses
pub record Taken (p : Problem) : Type 0 where
  pub symbols : WellFormed (record { symbols = p.symbols; clauses = [] })
  pub count : length p.clauses ≤ max_clauses
  pub clauses : all (is_taken p.symbols) p.clauses ≡ true
  pub helpers : length (named_terms p.clauses) ≤ max_helpers

rest-taken : (sheet : List ℕ) (h : Head) (p : Problem) → HeadRead sheet h → named_rest h ≡ answer p → Taken p
unfolding named_rest
rest-taken sheet h p b e =
    unbind _ _ p e λ (cs : (List Clause) × List ℕ) h₁ e₁.
    unbind _ _ p e₁ λ (u₁ : Unit {0}) _ e₂.
    unbind _ _ p e₂ λ (u₂ : Unit {0}) h₃ e₃.
    let t = lines-taken h.clauses h.symbols (first_clause h) h.rest cs h₁ in
    subst Taken (answer-inj (record { symbols = h.symbols; clauses = cs.0 }) p e₃)
    (record {
      symbols = b.formed;
      count = omega (arith, t.0, b.clauses);
      clauses = t.1;
      helpers = leb-true (length (named_terms cs.0)) 32 (check-true _ (unplaced 21) u₂ h₃);
    })

pub read_named-taken : (sheet : List ℕ) (p : Problem) → read_named sheet ≡ answer p → Taken p
read_named-taken sheet p e = unbind (head sheet) named_rest p (sym (named-parts sheet) ∙ e) λ (h : Head) k e₁. rest-taken sheet h p (head_read sheet h k) e₁

-- so it is a problem as a sheet says it
pub taken-sheet : (p : Problem) → Taken p → Sheet p
taken-sheet p t = record { declared = t.symbols.origins; clauses = taken-ok p.symbols p.clauses t.clauses }

-- with columns the same is read
pub named-read : (sheet : List ℕ) (p : Problem) → placed_named sheet ≡ answer p → read_named sheet ≡ answer p
unfolding placed_named
named-read sheet p e = answered (named_column sheet) (read_named sheet) p e

pub placed-named : (sheet : List ℕ) (p : Problem) → read_named sheet ≡ answer p → placed_named sheet ≡ answer p
unfolding placed_named
placed-named sheet p e = ap (with_columns (named_column sheet)) e

-- the mode's clauses are those of the sheet's lines
mode-within : (p : Problem) → all (clause_ok p.symbols) p.clauses ≡ true → all is_within (in_mode p).clauses ≡ all (is_within_named (length p.symbols)) p.clauses
unfolding in_mode
mode-within p ok = lines-within p.symbols p.clauses ok

taken-limits : (p : Problem) → Taken p → all is_within (in_mode p).clauses ≡ true
unfolding in_mode
taken-limits p t = taken-within p.symbols p.clauses t.clauses

-- the theorem
pub reading : (sheet : List ℕ) → Reading sheet
reading sheet =
    record {
      same = read_same sheet;
      clauses = λ p e. taken-ok p.symbols p.clauses (read_named-taken sheet p e).clauses;
      helpers = λ p e. (read_named-taken sheet p e).helpers;
      limits = λ p e. taken-limits p (read_named-taken sheet p e);
      takes = λ p e w. read-takes sheet p e (sym (mode-within p (clauses-ok p (read_problem-well_formed sheet p e))) ∙ w);
    }

-- A 7 on a clause line: the lines before it are taken, and with its clause the mode is over the limits.
module _ (g : Signature) where
  -- a clause behind clauses that are taken: all are within the limits exactly if it is
  last_within : (cs : List Clause) (c : Clause) → all (is_taken g) cs ≡ true → clause_ok g c ≡ true → all is_within (named_clauses (length g) (cs ++ (c ∷ []))) ≡ is_within_named (length g) c
  last_within cs c h ok =
      let n : ℕ = length g in
      lines-within g (cs ++ (c ∷ [])) (all_append (clause_ok g) cs (c ∷ []) ∙ and-join (all (clause_ok g) cs) (clause_ok g c && true) (taken-ok g cs h) (and-join (clause_ok g c) true ok refl))
      ∙ all_append (is_within_named n) cs (c ∷ [])
      ∙ ap (λ (b : Bool). b && (is_within_named n c && true)) (sym (lines-within g cs (taken-ok g cs h)) ∙ taken-within g cs h)
      ∙ and-true (is_within_named n c)

  -- line `first` is the one
  first-over : (first : ℕ) (text : List ℕ) (p : Cut) (ws : List Word) (c : Clause) → key_line (bytes "clause=") first text ≡ answer p → read_all g (words_of p.0) ≡ some ws → read_clause g ws ≡ some c
      → is_within_named (length g) c ≡ false → OverLine g first text first
  unfolding named_clause_lines
  first-over first text p ws c h₁ h₂ h₃ e =
      record {
        before = 0;
        here = sym (add-zero first);
        clauses = [];
        rest = text;
        taken = refl;
        line = p;
        cut = h₁;
        words = ws;
        known = h₂;
        clause = c;
        read = h₃;
        within = taken-within g [] refl;
        over = last_within [] c refl (words-taken g p.0 ws c h₂ h₃).0 ∙ e;
      }

  -- it is one of the lines after `first`
  later-over : (first : ℕ) (text : List ℕ) (l : ℕ) (p : Cut) (c : Clause) → key_line (bytes "clause=") first text ≡ answer p → named_clause_of g first p.0 ≡ answer c
      → OverLine g (suc first) p.1 l → OverLine g first text l
  unfolding named_clause_lines
  later-over first text l p c h₁ h₂ o =
      let cs : List Clause = c ∷ o.clauses in
      let d : Clause = o.clause in
      let ok : clause_ok g d ≡ true = (words-taken g o.line.0 o.words d o.known o.read).0 in
      let lines : named_clause_lines (suc o.before) g first text ≡ answer (cs, o.rest) =
      bind-step _ _ p _ h₁ (bind-step _ _ c _ h₂ (bind-step _ _ (o.clauses, o.rest) _ o.taken refl)) in
      let behind : all (is_taken g) o.clauses ≡ true = (lines-taken o.before g (suc first) p.1 (o.clauses, o.rest) o.taken).1 in
      let all-taken : all (is_taken g) cs ≡ true = (lines-taken (suc o.before) g first text (cs, o.rest) lines).1 in
      record {
        before = suc o.before;
        here = o.here ∙ omega arith;
        clauses = cs;
        rest = o.rest;
        taken = lines;
        line = o.line;
        cut = o.cut;
        words = o.words;
        known = o.known;
        clause = d;
        read = o.read;
        within = taken-within g cs all-taken;
        over = last_within cs d all-taken ok ∙ sym (last_within o.clauses d behind ok) ∙ o.over;
      }

  -- a 7 stands on the first line over the limits
  abbrev SevenSo : ℕ → List ℕ → Refusal → Type 0
  SevenSo first text r = r.number ≡ 7 → OverLine g first text r.place.line

  seven : (n first : ℕ) (text : List ℕ) → RefusedSo (SevenSo first text) (named_clause_lines n g first text)
  unfolding named_clause_lines named_clause_of
  seven zero first text = tt
  seven (suc n) first text =
      bind-so (SevenSo first text) _ _ (bind-so (SevenSo first text) _ _ (or_refuse-so (SevenSo first text) (cut_line text) (at_line 2 first) (λ h e. absurd (omega (arith, e))))
      (λ p h. bind-so (SevenSo first text) _ _ (or_refuse-so (SevenSo first text) (after_key (bytes "clause=") p.0) (at_line 2 first) (λ h e. absurd (omega (arith, e)))) (λ v h. tt)))
      (λ p h₁. bind-so (SevenSo first text) (named_clause_of g first p.0) _ (clause-so p h₁)
      (λ c h₂. bind-so (SevenSo first text) (named_clause_lines n g (suc first) p.1) _ (later p h₁ c h₂ (seven n (suc first) p.1)) (λ r h₃. tt)))
    where
      clause-so : (p : Cut) → key_line (bytes "clause=") first text ≡ answer p → RefusedSo (SevenSo first text) (named_clause_of g first p.0)
      clause-so p h₁ =
          bind-so (SevenSo first text) _ _ (or_refuse-so (SevenSo first text) (read_all g (words_of p.0)) (at_line 5 first) (λ h e. absurd (omega (arith, e))))
          (λ ws h₂. bind-so (SevenSo first text) _ _ (or_refuse-so (SevenSo first text) (read_clause g ws) (at_line 6 first) (λ h e. absurd (omega (arith, e))))
          (λ c h₃. bind-so (SevenSo first text) _ _ (check-so (SevenSo first text) (is_within_named (length g) c) (at_line 7 first)
          (λ h _. first-over first text p ws c h₁ (or_refuse-some (read_all g (words_of p.0)) (at_line 5 first) ws h₂) (or_refuse-some (read_clause g ws) (at_line 6 first) c h₃) h)) (λ u h₄. tt)))

      later : (p : Cut) → key_line (bytes "clause=") first text ≡ answer p → (c : Clause) → named_clause_of g first p.0 ≡ answer c
          → RefusedSo (SevenSo (suc first) p.1) (named_clause_lines n g (suc first) p.1) → RefusedSo (SevenSo first text) (named_clause_lines n g (suc first) p.1)
      later p h₁ c h₂ s = go (named_clause_lines n g (suc first) p.1) s
        where
          go : (m : Answer ((List Clause) × List ℕ)) → RefusedSo (SevenSo (suc first) p.1) m → RefusedSo (SevenSo first text) m
          go (answer a) s = tt
          go (refused r) s = λ e. later-over first text r.place.line p c h₁ h₂ (s e)

pub seven-stands : SevenStands
seven-stands n g first text l e = refused-so (SevenSo g first text) (named_clause_lines n g first text) (at_line 7 l) (seven g n first text) e refl
