-- Where a sheet is refused in the mode: with a number other than 7 the line has the condition of that number; the numbers and lines of all refusals; where 7 stands.
use Prim.Native.Nat.{ℕ, zero, suc, ◌+◌, ◌≤◌, ◌<◌}
use mathlib.Core.Logic.{◌⊎◌, inl, inr}
use mathlib.Core.Path.{◌≡◌, refl, sym, ap, ◌∙◌, subst}
use mathlib.Core.Bool.{true, ◌&&◌, ◌||◌}
use mathlib.Core.List.{List, [], ◌∷◌}
use native.Mathlib.Omega.{arith}
use lib.Dec.{eqb, leb}
use lib.ListN.{length}
use Rattle.theory.specs.Bytes.{bytes}
use Rattle.theory.specs.Lines.{Cut, words_of}
use Rattle.theory.specs.Syntax.{Signature, Clause}
use Rattle.theory.specs.Grammar.{Word, read_clause}
use Rattle.theory.specs.Refusals.{Refusal, Answer, answer, refused, at_line, unplaced, check, or_refuse}
use Rattle.theory.specs.Problem.{key_line, read_all, clause_of, nothing_left}
use Rattle.theory.specs.LineForms.{any_words}
use Rattle.theory.specs.DueLines.{due_in_sheet, sheet_symbols}
use Rattle.theory.proofs.Tests.{or_left}
use Rattle.theory.proofs.Answers.{unbind, bind-refused, bind-step, answer-inj, unrefused, RefusedSo, bind-so, check-so, or_refuse-so, refused-so}
use Rattle.theory.proofs.PlacedReading.{refusal}
use Rattle.theory.proofs.PlacedRefusals.{at-its-line}
use Rattle.theory.proofs.LinesBefore.{ReadUpTo}
use Rattle.theory.proofs.DueLines.{clause_form}
use Rattle.theory.proofs.SheetLines.{key-cut, at_next}
use Rattle.theory.proofs.SheetRefusals.{SheetLine, OfSheet, of-line, key_line-so, nothing_left-so, sheet-refusal}
use Rattle.theory.proofs.SheetFaults.{LineFault, LineFaults, key_line-faults, clause_of-faults, end-faults, sheet-fault}
use Rattle.naming.specs.FixedTerms.{named_terms}
use Rattle.naming.specs.NamedReading.{max_helpers, is_within_named, named_clause_of, named_clause_lines, read_named, named_column, placed_named}
use Rattle.naming.proofs.SheetHead.{Head, first_clause, head, named_rest, named-parts, head-refused, HeadRead, head_read}

-- what holds of a refusal holds of the answer's
so-imply : {A : Type 0} (P Q : Refusal → Type 0) → ((r : Refusal) → P r → Q r) → (m : Answer A) → RefusedSo P m → RefusedSo Q m
so-imply P Q f (answer a) h = tt
so-imply P Q f (refused r) h = f r h

-- a refusal of a clause's value with another number than 7 is the plain one
clause-refused : (g : Signature) (l : ℕ) (v : List ℕ) (r : Refusal) → (r.number ≡ 7 → ⊥) → named_clause_of g l v ≡ refused r → clause_of g l v ≡ refused r
unfolding clause_of named_clause_of
clause-refused g l v r other e =
    unrefused (or_refuse (read_all g (words_of v)) (at_line 5 l)) _ r e (λ h. bind-refused _ _ r h) λ (ws : List Word) h₁ e₁.
    bind-step _ _ ws (refused r) h₁
    (unrefused (or_refuse (read_clause g ws) (at_line 6 l)) _ r e₁ (λ h. bind-refused _ _ r h) λ (c : Clause) h₂ e₂.
    bind-step _ _ c (refused r) h₂
    (unrefused (check (is_within_named (length g) c) (at_line 7 l)) _ r e₂ (λ h. absurd (other (seven (is_within_named (length g) c) h))) λ (u : Unit {0}) _ e₃.
    let z : ◌≡◌ {A = ℕ} 0 1 = cc in absurd (omega arith)))
  where
    seven : (b : _) → check b (at_line 7 l) ≡ refused r → r.number ≡ 7
    seven b h = refused-so (λ q. q.number ≡ 7) (check b (at_line 7 l)) r (check-so (λ q. q.number ≡ 7) b (at_line 7 l) (λ _. refl)) h

module _ (text : List ℕ) where
  -- a refusal that names a line, with another number than 7, is of a fault there
  abbrev NamedFaults : Refusal → Type 0
  NamedFaults r = (r.number ≡ 7 → ⊥) → LineFaults text r

  plain-fault : {A : Type 0} (m : Answer A) → RefusedSo (LineFaults text) m → RefusedSo NamedFaults m
  plain-fault m h = so-imply (LineFaults text) NamedFaults (λ r f _. f) m h

  clause-faults : (g : Signature) (l m : ℕ) (t : List ℕ) (p : Cut) → l ≡ suc m → ReadUpTo text m t → key_line (bytes "clause=") l t ≡ answer p → g ≡ sheet_symbols text → due_in_sheet text m ≡ clause_form
      → RefusedSo NamedFaults (named_clause_of g l p.0)
  clause-faults g l m t p e a h q d = go (named_clause_of g l p.0) refl
    where
      go : (o : Answer Clause) → named_clause_of g l p.0 ≡ o → RefusedSo NamedFaults o
      go (answer c) k = tt
      go (refused r) k = λ other. refused-so (LineFaults text) (clause_of g l p.0) r (clause_of-faults text g l m t p.0 p.1 e a (key-cut (bytes "clause=") l t p h) q d) (clause-refused g l p.0 r other k)

  lines-faults : (n : ℕ) (g : Signature) (l m : ℕ) (t : List ℕ) → l ≡ suc m → ReadUpTo text m t → g ≡ sheet_symbols text → ((i : ℕ) → i < n → due_in_sheet text (m + i) ≡ clause_form)
      → RefusedSo NamedFaults (named_clause_lines n g l t)
  unfolding named_clause_lines
  lines-faults zero g l m t e a q d = tt
  lines-faults (suc n) g l m t e a q d =
      let m₀ : m + 0 ≡ m = omega arith in
      let d₀ : due_in_sheet text m ≡ clause_form = ap (due_in_sheet text) (sym m₀) ∙ d 0 (omega arith) in
      let d₊ : (i : ℕ) → i < n → due_in_sheet text (suc m + i) ≡ clause_form =
      λ i h. let r : suc m + i ≡ m + suc i = omega arith in ap (due_in_sheet text) r ∙ d (suc i) (omega arith) in
      bind-so NamedFaults (key_line (bytes "clause=") l t) _ (plain-fault (key_line (bytes "clause=") l t) (key_line-faults text (bytes "clause=") any_words l m t e a d₀))
      (λ p h. bind-so NamedFaults (named_clause_of g l p.0) _ (clause-faults g l m t p e a h q d₀)
      (λ c _. bind-so NamedFaults (named_clause_lines n g (suc l) p.1) _
      (lines-faults n g (suc l) (suc m) p.1 (ap suc e) (at_next text m (bytes "clause=") t p.0 p.1 a (key-cut (bytes "clause=") l t p h)) q d₊) (λ _ _. tt)))

  lines_next : (n : ℕ) (g : Signature) (l m : ℕ) (t : List ℕ) (r : (List Clause) × List ℕ) → ReadUpTo text m t → named_clause_lines n g l t ≡ answer r → ReadUpTo text (m + n) r.1
  unfolding named_clause_lines
  lines_next zero g l m t r a e =
      let m₀ : m ≡ m + 0 = omega arith in
      subst (λ (r : (List Clause) × List ℕ). ReadUpTo text (m + 0) r.1) (answer-inj ([], t) r e) (subst (λ (i : ℕ). ReadUpTo text i t) m₀ a)
  lines_next (suc n) g l m t r a e =
      unbind _ _ r e λ (p : Cut) h₁ e₁.
      unbind _ _ r e₁ λ (c : Clause) _ e₂.
      unbind _ _ r e₂ λ (cs : (List Clause) × List ℕ) h₃ e₃.
      let m₁ : suc m + n ≡ m + suc n = omega arith in
      let there : ReadUpTo text (suc m + n) cs.1 = lines_next n g (suc l) (suc m) p.1 cs (at_next text m (bytes "clause=") t p.0 p.1 a (key-cut (bytes "clause=") l t p h₁)) h₃ in
      subst (λ (r : (List Clause) × List ℕ). ReadUpTo text (m + suc n) r.1) (answer-inj (c ∷ cs.0, cs.1) r e₃) (subst (λ (i : ℕ). ReadUpTo text i cs.1) m₁ there)

  rest-faults : (h : Head) → HeadRead text h → RefusedSo NamedFaults (named_rest h)
  unfolding named_rest
  rest-faults h b =
      let l : ℕ = first_clause h in
      let m : ℕ = b.first in
      let after : l + h.clauses ≡ suc (m + h.clauses) = omega (arith, b.line) in
      bind-so NamedFaults (named_clause_lines h.clauses h.symbols l h.rest) _ (lines-faults h.clauses h.symbols l m h.rest b.line b.next b.symbols b.due)
      (λ cs hcs. bind-so NamedFaults (nothing_left (l + h.clauses) cs.1) _
      (plain-fault (nothing_left (l + h.clauses) cs.1) (end-faults text (l + h.clauses) (m + h.clauses) cs.1 after (lines_next h.clauses h.symbols l m h.rest cs b.next hcs) b.end))
      (λ _ _. bind-so NamedFaults (check (leb (length (named_terms cs.0)) max_helpers) (unplaced 21)) _
      (check-so NamedFaults (leb (length (named_terms cs.0)) max_helpers) (unplaced 21) (λ _ _ i z. absurd (omega (arith, z)))) (λ _ _. tt)))

  -- a refusal with another number than 7 is of a fault on its line
  pub named-fault : (n l : ℕ) → (n ≡ 7 → ⊥) → read_named text ≡ refused (at_line n (suc l)) → LineFault text l n
  named-fault n l other e =
      unrefused (head text) named_rest (at_line n (suc l)) (sym (named-parts text) ∙ e) (λ h. sheet-fault text n l (head-refused text (at_line n (suc l)) h))
      λ (h : Head) k e₁. refused-so NamedFaults (named_rest h) (at_line n (suc l)) (rest-faults h (head_read text h k)) e₁ other l refl

-- a refusal of the mode: its number is one of 1 to 7 or 21, at one of the first 93 lines, without a column; 1 and 21 alone name no line
pub record OfNamed (r : Refusal) : Type 0 where
  pub number : (leb 1 r.number && leb r.number 7 || eqb r.number 21) ≡ true
  pub line : r.place.line ≤ 93
  pub column : r.place.column ≡ 0
  pub needed : r.needed ≡ 0
  pub unlined : r.place.line ≡ 0 → (r.number ≡ 1) ⊎ (r.number ≡ 21)

of-sheet : (r : Refusal) → OfSheet r → OfNamed r
of-sheet r h =
    record {
      number = or_left (leb 1 r.number && leb r.number 7) (eqb r.number 21) h.number;
      line = h.line;
      column = h.column;
      needed = h.needed;
      unlined = λ z. inl (h.unlined z);
    }

clause-so : (g : Signature) (l : ℕ) (v : List ℕ) → SheetLine l → RefusedSo OfSheet (named_clause_of g l v)
unfolding named_clause_of
clause-so g l v h =
    bind-so OfSheet (or_refuse (read_all g (words_of v)) (at_line 5 l)) _ (or_refuse-so OfSheet (read_all g (words_of v)) (at_line 5 l) (λ _. of-line 5 l refl h))
    (λ ws _. bind-so OfSheet (or_refuse (read_clause g ws) (at_line 6 l)) _ (or_refuse-so OfSheet (read_clause g ws) (at_line 6 l) (λ _. of-line 6 l refl h))
    (λ c _. bind-so OfSheet (check (is_within_named (length g) c) (at_line 7 l)) _ (check-so OfSheet (is_within_named (length g) c) (at_line 7 l) (λ _. of-line 7 l refl h)) (λ _ _. tt)))

lines-so : (n : ℕ) (g : Signature) (l : ℕ) (text : List ℕ) → 1 ≤ l → l + n ≤ 94 → RefusedSo OfSheet (named_clause_lines n g l text)
unfolding named_clause_lines
lines-so zero g l text one h = tt
lines-so (suc n) g l text one h =
    let here : SheetLine l = (one, omega arith) in
    bind-so OfSheet (key_line (bytes "clause=") l text) _ (key_line-so (bytes "clause=") l text here)
    (λ p _. bind-so OfSheet (named_clause_of g l p.0) _ (clause-so g l p.0 here)
    (λ c _. bind-so OfSheet (named_clause_lines n g (suc l) p.1) _ (lines-so n g (suc l) p.1 (omega arith) (omega arith)) (λ r _. tt)))

rest-so : (text : List ℕ) (h : Head) → HeadRead text h → RefusedSo OfNamed (named_rest h)
unfolding named_rest
rest-so text h b =
    let l : ℕ = first_clause h in
    bind-so OfNamed (named_clause_lines h.clauses h.symbols l h.rest) _
    (so-imply OfSheet OfNamed of-sheet (named_clause_lines h.clauses h.symbols l h.rest) (lines-so h.clauses h.symbols l h.rest (omega arith) (omega (arith, b.functions, b.predicates, b.clauses))))
    (λ cs _. bind-so OfNamed (nothing_left (l + h.clauses) cs.1) _ (so-imply OfSheet OfNamed of-sheet (nothing_left (l + h.clauses) cs.1) (nothing_left-so (l + h.clauses) cs.1 (omega arith, omega (arith, b.functions, b.predicates, b.clauses))))
    (λ _ _. bind-so OfNamed (check (leb (length (named_terms cs.0)) max_helpers) (unplaced 21)) _
    (check-so OfNamed (leb (length (named_terms cs.0)) max_helpers) (unplaced 21) (λ _. record { number = refl; line = omega arith; column = refl; needed = refl; unlined = λ _. inr refl })) (λ _ _. tt)))

pub named-refusal : (text : List ℕ) (r : Refusal) → read_named text ≡ refused r → OfNamed r
named-refusal text r e =
    unrefused (head text) named_rest r (sym (named-parts text) ∙ e) (λ h. of-sheet r (sheet-refusal text r (head-refused text r h)))
    λ (h : Head) k e₁. refused-so OfNamed (named_rest h) r (rest-so text h (head_read text h k)) e₁

-- with columns: what is refused without them, and the column
pub named-told : (sheet : List ℕ) (r : Refusal) → placed_named sheet ≡ refused r
    → (read_named sheet ≡ refused (at_line r.number r.place.line)) × (named_column sheet r.number r.place.line ≡ r.place.column)
unfolding placed_named
named-told sheet r e =
    let q = refusal (named_column sheet) (read_named sheet) r e in
    let number : q.plain.number ≡ r.number = ap (λ (r : Refusal). r.number) q.placed in
    let line : q.plain.place.line ≡ r.place.line = ap (λ (r : Refusal). r.place.line) q.placed in
    let of : OfNamed q.plain = named-refusal sheet q.plain q.refuses in (
      q.refuses ∙ ap refused (at-its-line q.plain of.column of.needed) ∙ ap (λ (n : ℕ). refused (at_line n q.plain.place.line)) number
          ∙ ap (λ (l : ℕ). refused (at_line r.number l)) line,
      ap (λ (l : ℕ). named_column sheet r.number l) (sym line) ∙ ap (λ (n : ℕ). named_column sheet n q.plain.place.line) (sym number) ∙ ap (λ (r : Refusal). r.place.column) q.placed,
    )
