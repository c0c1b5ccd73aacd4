-- Places of 15.
use Prim.Native.Nat.{ℕ, suc}
use mathlib.Core.Path.{◌≡◌, refl, sym, ap, ◌∙◌}
use mathlib.Core.Logic.{◌⊎◌, inl, inr}
use mathlib.Core.Bool.{Bool, true, false, cond, not, ◌||◌, false≢true}
use mathlib.Core.Option.{Option, none, some, some-injective}
use mathlib.Core.List.{List, [], ◌∷◌, ◌++◌}
use native.Mathlib.Omega.{arith}
use lib.Dec.{eqb, ltb, leb}
use lib.ListN.{length}
use Rattle.theory.specs.Lists.{all, concat_map}
use Rattle.theory.specs.Syntax.{Signature, symbol_at}
use Rattle.theory.specs.Grammar as words
use Rattle.theory.specs.Problem.{is_name, within_limits}
use Rattle.theory.specs.Refusals.{Refusal, Answer, answer, refused, needing}
use Rattle.theory.proofs.Tests.{and_left, and-join, eqb-of-≡}
use Rattle.theory.proofs.Lists.{all-concat_map, all-every}
use Rattle.theory.proofs.Lists as lists
use Rattle.tptp.specs.Places.{refused_at}
use Rattle.tptp.specs.Tokens.{full_stop, TptpToken, is, tokens_from, tokens}
use Rattle.tptp.specs.Grammar.{DueToken, statement, due_after_token, may_end}
use Rattle.tptp.specs.Trees.{Statement, statement_of}
use Rattle.tptp.specs.Symbols.{Occurrence, of_variable, of_symbol, clause_occurrences, signature_of, variables_of, letter_of_name, symbol_of_name, clause_over, problem_of}
use Rattle.theory.specs.SheetText.{sheet_text}
use Rattle.tptp.specs.Tptp.{File, foreign_at, with_statement, file_from, read_file, clauses_of_file, Fault, fault_if, same_symbol_kind, place_in_kind, occurrence_faults, faults_from, foreign_fault, faults, sheet_in, tptp_text}
use Rattle.tptp.specs.Claims.Places.{due_after_tokens, Misplaced, AtToken, AtEnd}
use Rattle.tptp.specs.Claims.Places as claims
use Rattle.tptp.proofs.Finishing.{finish, finishes}

-- the file from a token on, by what the token leaves due
abbrev pub going : ℕ → TptpToken → List TptpToken → List TptpToken → Option DueToken → File
going n t ts before o =
    elim o as (λ _. File) [
      | none ↦ foreign_at (some t.place)
      | some e ↦ elim (is full_stop t) as (λ _. File) [ true ↦ with_statement (statement_of (before ++ (t ∷ []))) (file_from n ts [] e) | false ↦ file_from n ts (before ++ (t ∷ [])) e ]
    ]

all-step : (d e : DueToken) (t : TptpToken) (ts : List TptpToken) → due_after_token d t ≡ some e → due_after_tokens d (t ∷ ts) ≡ due_after_tokens e ts
all-step d e t ts h = ap (λ (o : Option DueToken). elim o as (λ _. Option DueToken) [ some e ↦ due_after_tokens e ts | none ↦ none ]) h

-- one more token after others
pub all_append : (a c : List TptpToken) (d e : DueToken) → due_after_tokens d a ≡ some e → due_after_tokens d (a ++ c) ≡ due_after_tokens e c
all_append [] c d e h = ap (λ (d : DueToken). due_after_tokens d c) (some-injective d e h)
all_append (t ∷ a) c d e h = go (due_after_token d t) refl h (λ f k. all_append a c f e k)
  where
    go : (o : Option DueToken) → due_after_token d t ≡ o → (elim o as (λ _. Option DueToken) [ some f ↦ due_after_tokens f a | none ↦ none ]) ≡ some e → ((f : DueToken) → due_after_tokens f a ≡ some e → due_after_tokens f (a ++ c) ≡ due_after_tokens e c)
        → due_after_tokens d (t ∷ (a ++ c)) ≡ due_after_tokens e c
    go none q h ih = let z : ◌≡◌ {A = ℕ} 0 1 = cc in absurd (omega arith)
    go (some f) q h ih = all-step d f t (a ++ c) q ∙ ih f h

-- at a misplaced token the file ends, whatever follows and however long the text
stays-from : (n m : ℕ) (a b b' : List TptpToken) (t : TptpToken) (before : List TptpToken) (d e : DueToken) → due_after_tokens d a ≡ some e → due_after_token e t ≡ none
    → (file_from n (a ++ (t ∷ b)) before d ≡ file_from m (a ++ (t ∷ b')) before d) × ((file_from n (a ++ (t ∷ b)) before d).foreign ≡ some t.place)
stays-from n m [] b b' t before d e h k =
    let q : due_after_token d t ≡ none = ap (λ (d : DueToken). due_after_token d t) (some-injective d e h) ∙ k in
    (ap (going n t b before) q ∙ sym (ap (going m t b' before) q), ap (λ (o : Option DueToken). (going n t b before o).foreign) q)
stays-from n m (u ∷ a) b b' t before d e h k = go (due_after_token d u) refl h (is full_stop u) refl (λ before f x. stays-from n m a b b' t before f e x k)
  where
    xs : List TptpToken
    xs = a ++ (t ∷ b)

    ys : List TptpToken
    ys = a ++ (t ∷ b')

    Same : File → File → Type 0
    Same f f' = (f ≡ f') × (f.foreign ≡ some t.place)

    step : (f : DueToken) (q : Bool) → ((before : List TptpToken) → Same (file_from n xs before f) (file_from m ys before f))
        → Same (elim q as (λ _. File) [ true ↦ with_statement (statement_of (before ++ (u ∷ []))) (file_from n xs [] f) | false ↦ file_from n xs (before ++ (u ∷ [])) f ])
        (elim q as (λ _. File) [ true ↦ with_statement (statement_of (before ++ (u ∷ []))) (file_from m ys [] f) | false ↦ file_from m ys (before ++ (u ∷ [])) f ])
    step f true ih = let r = ih [] in (ap (with_statement (statement_of (before ++ (u ∷ [])))) r.0, r.1)
    step f false ih = ih (before ++ (u ∷ []))

    go : (o : Option DueToken) → due_after_token d u ≡ o → (elim o as (λ _. Option DueToken) [ some f ↦ due_after_tokens f a | none ↦ none ]) ≡ some e → (q : Bool) → is full_stop u ≡ q
        → ((before : List TptpToken) (f : DueToken) → due_after_tokens f a ≡ some e → Same (file_from n xs before f) (file_from m ys before f))
        → Same (going n u xs before o) (going m u ys before o)
    go none q h p r ih = let z : ◌≡◌ {A = ℕ} 0 1 = cc in absurd (omega arith)
    go (some f) q h p r ih = step f (is full_stop u) (λ before. ih before f h)

-- tokens that all may stand: the 15 depends on what is due at the end
ends-from : (n : ℕ) (ts before : List TptpToken) (d e : DueToken) → due_after_tokens d ts ≡ some e → (file_from n ts before d).foreign ≡ cond (may_end e) none (some n)
ends-from n [] before d e h = ap (λ (d : DueToken). cond (may_end d) none (some n)) (some-injective d e h)
ends-from n (t ∷ ts) before d e h = go (due_after_token d t) h (λ before f x. ends-from n ts before f e x)
  where
    step : (f : DueToken) (q : Bool) → ((before : List TptpToken) → (file_from n ts before f).foreign ≡ cond (may_end e) none (some n))
        → (elim q as (λ _. File) [ true ↦ with_statement (statement_of (before ++ (t ∷ []))) (file_from n ts [] f) | false ↦ file_from n ts (before ++ (t ∷ [])) f ]).foreign ≡ cond (may_end e) none (some n)
    step f true ih = ih []
    step f false ih = ih (before ++ (t ∷ []))

    go : (o : Option DueToken) → (elim o as (λ _. Option DueToken) [ some f ↦ due_after_tokens f ts | none ↦ none ]) ≡ some e
        → ((before : List TptpToken) (f : DueToken) → due_after_tokens f ts ≡ some e → (file_from n ts before f).foreign ≡ cond (may_end e) none (some n)) → (going n t ts before o).foreign ≡ cond (may_end e) none (some n)
    go none h ih = let z : ◌≡◌ {A = ℕ} 0 1 = cc in absurd (omega arith)
    go (some f) h ih = step f (is full_stop t) (λ before. ih before f h)

-- tokens all may stand, or the first that may not is one of them
pub first-misplaced : (ts : List TptpToken) (d : DueToken)
    → ((e : DueToken) × (due_after_tokens d ts ≡ some e)) ⊎ ((a : List TptpToken) × (t : TptpToken) × (b : List TptpToken) × (e : DueToken) × (ts ≡ a ++ (t ∷ b)) × (due_after_tokens d a ≡ some e) × (due_after_token e t ≡ none))
first-misplaced [] d = inl (d, refl)
first-misplaced (t ∷ ts) d = go (due_after_token d t) refl (λ f. first-misplaced ts f)
  where
    Result : DueToken → List TptpToken → Type 0
    Result d ts = ((e : DueToken) × (due_after_tokens d ts ≡ some e)) ⊎ ((a : List TptpToken) × (t : TptpToken) × (b : List TptpToken) × (e : DueToken) × (ts ≡ a ++ (t ∷ b)) × (due_after_tokens d a ≡ some e) × (due_after_token e t ≡ none))

    more : (f : DueToken) → due_after_token d t ≡ some f → Result f ts → Result d (t ∷ ts)
    more f q (inl r) = inl (r.0, all-step d f t ts q ∙ r.1)
    more f q (inr r) = inr (t ∷ r.0, r.1, r.2, r.3, ap (λ (l : List TptpToken). t ∷ l) r.4, all-step d f t r.0 q ∙ r.5, r.6)

    go : (o : Option DueToken) → due_after_token d t ≡ o → ((f : DueToken) → Result f ts) → Result d (t ∷ ts)
    go none q ih = inr ([], t, ts, d, refl, refl, q)
    go (some f) q ih = more f q (ih f)

-- the faults of a file in a text of n bytes
abbrev faults_of : ℕ → File → List Fault
faults_of n f =
    faults_from (signature_of (clauses_of_file f)) 0 f.statements ++ (foreign_fault f.foreign ++ fault_if (ltb 16384 (length (sheet_text (problem_of (clauses_of_file f))))) 17 n)

-- faults of statements are 16 and 17
abbrev not15 : Fault → Bool
not15 f = not (eqb f.number 15)

if-not15 : (b : Bool) (n i : ℕ) → not (eqb n 15) ≡ true → all not15 (fault_if b n i) ≡ true
if-not15 true n i h = and-join (not (eqb n 15)) true h refl
if-not15 false n i h = refl

both-not15 : (xs ys : List Fault) → all not15 xs ≡ true → all not15 ys ≡ true → all not15 (xs ++ ys) ≡ true
both-not15 xs ys h k = lists.all_append not15 xs ys ∙ and-join (all not15 xs) (all not15 ys) h k

occurrence-not15 : (g : Signature) (xs : List (List ℕ)) (o : Occurrence) → all not15 (occurrence_faults g xs o) ≡ true
occurrence-not15 g xs (of_variable x) = if-not15 (leb 8 (letter_of_name xs x.bytes)) 17 x.place refl
occurrence-not15 g xs (of_symbol f k n) =
    let h = symbol_at g (symbol_of_name g f.bytes) in
    both-not15 (fault_if (not (same_symbol_kind k h.kind) || not (eqb n h.arity)) 16 f.place) (fault_if (ltb 3 n || not (is_name f.bytes) || leb 12 (place_in_kind g k f.bytes)) 17 f.place)
    (if-not15 (not (same_symbol_kind k h.kind) || not (eqb n h.arity)) 16 f.place refl)
    (if-not15 (ltb 3 n || not (is_name f.bytes) || leb 12 (place_in_kind g k f.bytes)) 17 f.place refl)

faults-not15 : (g : Signature) (i : ℕ) (ss : List Statement) → all not15 (faults_from g i ss) ≡ true
faults-not15 g i [] = refl
faults-not15 g i (s ∷ ss) =
    let c = clause_over g s.clause in
    let a : List Fault = fault_if (leb 64 i) 17 s.start in
    let b : List Fault = concat_map (occurrence_faults g (variables_of s.clause)) (clause_occurrences s.clause) in
    let d : List Fault = fault_if (not (within_limits (words.clause_words c) c)) 17 s.stop in
    both-not15 (a ++ (b ++ d)) (faults_from g (suc i) ss)
    (both-not15 a (b ++ d) (if-not15 (leb 64 i) 17 s.start refl)
    (both-not15 b d
    (all-concat_map not15 (occurrence_faults g (variables_of s.clause)) (clause_occurrences s.clause)
    ∙ all-every (λ o. all not15 (occurrence_faults g (variables_of s.clause) o)) (clause_occurrences s.clause) (occurrence-not15 g (variables_of s.clause)))
    (if-not15 (not (within_limits (words.clause_words c) c)) 17 s.stop refl)))
    (faults-not15 g (suc i) ss)

abbrev number_of : {A : Type 0} → Answer A → ℕ
number_of (answer a) = 0
number_of (refused r) = r.number

-- the first fault is the 15 exactly where statements have none
no-earlier : (text sheet : List ℕ) (room : ℕ) (xs ys : List Fault) → all not15 xs ≡ true → number_of (sheet_in text (xs ++ ys) sheet room) ≡ 15 → xs ≡ []
no-earlier text sheet room [] ys h e = refl
no-earlier text sheet room (x ∷ xs) ys h e = absurd (false≢true (ap not (sym (eqb-of-≡ x.number 15 e)) ∙ and_left (not15 x) (all not15 xs) h))

-- where statements have none, a 15 is that of the text
then-foreign : (text sheet : List ℕ) (room : ℕ) (o : Option ℕ) (b : Bool) (n : ℕ) → number_of (sheet_in text (foreign_fault o ++ fault_if b 17 n) sheet room) ≡ 15
    → (p : ℕ) × (o ≡ some p) × (sheet_in text (foreign_fault o ++ fault_if b 17 n) sheet room ≡ refused_at text 15 p)
then-foreign text sheet room (some p) b n e = (p, refl, refl)
then-foreign text sheet room none true n e = absurd (omega (arith, e))
then-foreign text sheet room none false n e = absurd (go (leb (length sheet) room) e)
  where
    go : (q : Bool) → number_of (cond q (answer sheet) (refused (needing 11 (length sheet)))) ≡ 15 → ⊥
    go true e = omega (arith, e)
    go false e = omega (arith, e)

faults-of : (text : List ℕ) → faults text ≡ faults_of (length text) (read_file text)
unfolding faults
faults-of text = refl

first-15 : (text sheet : List ℕ) (room n p : ℕ) (f : File) → faults_from (signature_of (clauses_of_file f)) 0 f.statements ≡ [] → f.foreign ≡ some p → sheet_in text (faults_of n f) sheet room ≡ refused_at text 15 p
first-15 text sheet room n p f h k =
    let last : List Fault = fault_if (ltb 16384 (length (sheet_text (problem_of (clauses_of_file f))))) 17 n in
    ap (λ (l : List Fault). sheet_in text (l ++ (foreign_fault f.foreign ++ last)) sheet room) h ∙ ap (λ (o : Option ℕ). sheet_in text (foreign_fault o ++ last) sheet room) k

-- an answer 15 is the 15 of the text
pub at-foreign : (text : List ℕ) (room : ℕ) (r : Refusal) → tptp_text text room ≡ refused r → r.number ≡ 15 → (p : ℕ) × ((read_file text).foreign ≡ some p) × (tptp_text text room ≡ refused_at text 15 p)
unfolding tptp_text
at-foreign text room r h k =
    let f : File = read_file text in
    let s : List ℕ = sheet_text (problem_of (clauses_of_file f)) in
    let xs : List Fault = faults_from (signature_of (clauses_of_file f)) 0 f.statements in
    let last : Bool = ltb 16384 (length s) in
    let ys : List Fault = foreign_fault f.foreign ++ fault_if last 17 (length text) in
    let number : number_of (sheet_in text (xs ++ ys) s room) ≡ 15 = ap (λ (l : List Fault). number_of (sheet_in text l s room)) (sym (faults-of text)) ∙ ap number_of h ∙ k in
    let z : xs ≡ [] = no-earlier text s room xs ys (faults-not15 (signature_of (clauses_of_file f)) 0 f.statements) number in
    let e : sheet_in text (xs ++ ys) s room ≡ sheet_in text ys s room = ap (λ (l : List Fault). sheet_in text (l ++ ys) s room) z in
    let q = then-foreign text s room f.foreign last (length text) (sym (ap number_of e) ∙ number) in
    (q.0, q.1, ap (λ (l : List Fault). sheet_in text l s room) (faults-of text) ∙ e ∙ q.2)

pub stays : (text : List ℕ) (a b : List TptpToken) (t : TptpToken) → tokens text ≡ a ++ (t ∷ b) → Misplaced a t → (read_file text).foreign ≡ some t.place
unfolding read_file
stays text a b t e m =
    ap (λ (ts : List TptpToken). (file_from (length text) ts [] statement).foreign) e ∙ (stays-from (length text) (length text) a b b t [] statement m.0 m.1 m.2).1

same-file : (text text' : List ℕ) (a b b' : List TptpToken) (t : TptpToken) → tokens text ≡ a ++ (t ∷ b) → tokens text' ≡ a ++ (t ∷ b') → Misplaced a t → read_file text ≡ read_file text'
unfolding read_file
same-file text text' a b b' t e e' m =
    ap (λ (ts : List TptpToken). file_from (length text) ts [] statement) e
    ∙ (stays-from (length text) (length text') a b b' t [] statement m.0 m.1 m.2).0
    ∙ sym (ap (λ (ts : List TptpToken). file_from (length text') ts [] statement) e')

pub answer-stays : (text text' : List ℕ) (room room' : ℕ) (a b b' : List TptpToken) (t : TptpToken) → tokens text ≡ a ++ (t ∷ b) → tokens text' ≡ a ++ (t ∷ b') → Misplaced a t
    → tptp_text text room ≡ refused_at text 15 t.place → tptp_text text' room' ≡ refused_at text' 15 t.place
unfolding tptp_text
answer-stays text text' room room' a b b' t e e' m h =
    let f : File = read_file text in
    let f' : File = read_file text' in
    let s : List ℕ = sheet_text (problem_of (clauses_of_file f)) in
    let s' : List ℕ = sheet_text (problem_of (clauses_of_file f')) in
    let none_before : faults_from (signature_of (clauses_of_file f)) 0 f.statements ≡ [] =
    no-earlier text s room (faults_from (signature_of (clauses_of_file f)) 0 f.statements) (foreign_fault f.foreign ++ fault_if (ltb 16384 (length s)) 17 (length text))
    (faults-not15 (signature_of (clauses_of_file f)) 0 f.statements) (ap (λ (l : List Fault). number_of (sheet_in text l s room)) (sym (faults-of text)) ∙ ap number_of h) in
    ap (λ (l : List Fault). sheet_in text' l s' room') (faults-of text')
    ∙ first-15 text' s' room' (length text') t.place f' (ap (λ (f : File). faults_from (signature_of (clauses_of_file f)) 0 f.statements) (sym (same-file text text' a b b' t e e' m)) ∙ none_before)
    (stays text' a b' t e' m)

pub ends : (text : List ℕ) (e : DueToken) → due_after_tokens statement (tokens text) ≡ some e → (read_file text).foreign ≡ cond (may_end e) none (some (length text))
unfolding read_file
ends text e h = ends-from (length text) (tokens text) [] statement e h

pub where-it-is : (text : List ℕ) (p : ℕ) → (read_file text).foreign ≡ some p → AtToken text p ⊎ AtEnd text p
where-it-is text p h = go (first-misplaced (tokens text) statement)
  where
    at-end : (e : DueToken) (b : Bool) → may_end e ≡ b → due_after_tokens statement (tokens text) ≡ some e → cond b none (some (length text)) ≡ some p → AtEnd text p
    at-end e true q k z = let y : ◌≡◌ {A = ℕ} 0 1 = cc in absurd (omega arith)
    at-end e false q k z = (e, k, q, sym (some-injective (length text) p z))

    go : ((e : DueToken) × (due_after_tokens statement (tokens text) ≡ some e))
        ⊎ ((a : List TptpToken) × (t : TptpToken) × (b : List TptpToken) × (e : DueToken) × (tokens text ≡ a ++ (t ∷ b)) × (due_after_tokens statement a ≡ some e) × (due_after_token e t ≡ none))
        → AtToken text p ⊎ AtEnd text p
    go (inl r) = inr (at-end r.0 (may_end r.0) refl r.1 (sym (ends text r.0 r.1) ∙ h))
    go (inr r) =
        let m : Misplaced r.0 r.1 = (r.3, r.5, r.6) in
        inl (r.0, r.1, r.2, r.4, m, some-injective r.1.place p (sym (stays text r.0 r.2 r.1 r.4 m) ∙ h))

pub places : claims.PlacesOf15
places =
    record {
      where-it-is = where-it-is;
      stays = stays;
      answer-stays = answer-stays;
      missing = λ text d h k. ends text d h ∙ ap (λ (b : Bool). cond b none (some (length text))) k;
      finished = λ text d h k. ends text d h ∙ ap (λ (b : Bool). cond b none (some (length text))) k;
      completed = λ a d h. (tokens_from (finish d) 0 0, all_append a (tokens_from (finish d) 0 0) statement d h ∙ finishes d 0);
    }
