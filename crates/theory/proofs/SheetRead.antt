-- A well-formed problem of few enough bytes is read from its text.
use Prim.Native.Nat.{ℕ, suc, ◌+◌, ◌-◌, ◌≤◌, ◌<◌}
use mathlib.Core.Path.{◌≡◌, refl, sym, ap, ◌∙◌, subst}
use mathlib.Core.Bool.{Bool, true, false, cond, not, ◌&&◌, false≢true}
use mathlib.Core.Option.{Option, none, some}
use mathlib.Core.List.{List, [], ◌∷◌, ◌++◌, append_assoc, append-nil}
use native.Mathlib.Omega.{arith}
use lib.Dec.{eqb, ltb, leb}
use lib.ListN.{length, get_or, take, length-append, get_or-append}
use lib.Seq.{get_or-append_seam}
use Rattle.theory.specs.Lists.{all, same, select, concat_map, up_to}
use Rattle.theory.specs.Bytes.{bytes, LF, zero_digit, is_digit, decimal}
use Rattle.theory.specs.Lines.{cut_line, after_key, count_of}
use Rattle.theory.specs.Syntax.{Kind, function, predicate, is_function, is_predicate, Origin, declared, helper, is_from_sheet, Symbol, Signature, all_declared, no_symbol, symbol_at, Clause, functions, predicates}
use Rattle.theory.specs.Problem.{key_line, count_line, is_name, symbol_of, is_named, symbol_lines, clause_lines, Problem, read_problem}
use Rattle.theory.specs.Refusals.{answer, at_line, unplaced}
use Rattle.theory.specs.WellFormed.{symbol_ok, clause_accepted, WellFormed, NamesDiffer}
use Rattle.theory.proofs.Tests.{not-true, eqb-true, eqb-false, ltb-of-<, leb-true, leb-of-≤, and_left, and_right, and-join, false_of_not}
use Rattle.theory.proofs.Lists.{all_append, all-imply, all-up_to}
use Rattle.theory.proofs.Finding.{any→place_that}
use Rattle.theory.proofs.Names.{name-without, named-place}
use Rattle.theory.proofs.Declared.{function-kind, predicate-kind}
use Rattle.theory.proofs.Answers.{bind-step, check-of-true, or_refuse-of-some}
use Rattle.theory.proofs.Lines.{in_line, cut_line-is, after-key}
use Rattle.theory.proofs.Parsing.{is_kind}
use Rattle.theory.specs.SheetText.{line, symbol_text, clause_words_text, sheet_text}
use Rattle.theory.specs.Claims.SheetRead as claims
use Rattle.theory.proofs.SheetWords.{clause-in_line, clause-read}

-- a line is read by its key
pub line_read : (key v rest : List ℕ) (l : ℕ) → all in_line key ≡ true → all in_line v ≡ true → key_line key l (line key v ++ rest) ≡ answer (v, rest)
line_read key v rest l hk hv =
    let shape : line key v ++ rest ≡ (key ++ v) ++ (LF ∷ rest) =
    append_assoc key (v ++ (LF ∷ [])) rest ∙ ap (λ (t : List ℕ). key ++ t) (append_assoc v (LF ∷ []) rest) ∙ sym (append_assoc key v (LF ∷ rest)) in
    let whole : all in_line (key ++ v) ≡ true = all_append in_line key v ∙ and-join (all in_line key) (all in_line v) hk hv in
    let cut : cut_line (line key v ++ rest) ≡ some (key ++ v, rest) = ap cut_line shape ∙ cut_line-is (key ++ v) rest whole in
    bind-step _ _ (key ++ v, rest) _ (or_refuse-of-some (cut_line (line key v ++ rest)) (at_line 2 l) (key ++ v, rest) cut)
    (bind-step _ _ v _ (or_refuse-of-some (after_key key (key ++ v)) (at_line 2 l) v (after-key key v)) refl)

-- a count below 100 is read from its digits
abbrev count_good : ℕ → Bool
count_good n = elim (count_of (decimal n)) as (λ _. Bool) [ some m ↦ eqb m n | none ↦ false ]

counts-good : all (λ n. count_good n && all in_line (decimal n)) (up_to 100) ≡ true
unfolding decimal
counts-good = refl

pub count-of : (n : ℕ) → n < 100 → (count_of (decimal n) ≡ some n) × (all in_line (decimal n) ≡ true)
count-of n lt =
    let h : (count_good n && all in_line (decimal n)) ≡ true = all-up_to (λ n. count_good n && all in_line (decimal n)) 100 counts-good n lt in
    (go (count_of (decimal n)) (and_left (count_good n) (all in_line (decimal n)) h), and_right (count_good n) (all in_line (decimal n)) h)
  where
    go : (o : Option ℕ) → (elim o as (λ _. Bool) [ some m ↦ eqb m n | none ↦ false ]) ≡ true → o ≡ some n
    go (some m) e = ap {B = Option ℕ} some (eqb-true m n e)
    go none e = absurd (false≢true e)

pub count-read : (key rest : List ℕ) (limit n l : ℕ) → all in_line key ≡ true → n ≤ limit → limit < 100 → count_line key limit l (line key (decimal n) ++ rest) ≡ answer (n, rest)
unfolding count_line
count-read key rest limit n l hk le lt =
    let c = count-of n (omega arith) in
    bind-step _ _ (decimal n, rest) _ (line_read key (decimal n) rest l hk c.1)
    (bind-step _ _ n _ (or_refuse-of-some (count_of (decimal n)) (at_line 2 l) n c.0)
    (bind-step _ _ tt _ (check-of-true (leb n limit) (at_line 3 l) (leb-of-≤ n limit le)) refl))

-- the last two bytes of a symbol's text
name-taken : (w : List ℕ) (x y : ℕ) → take (length w) (w ++ (x ∷ y ∷ [])) ≡ w
name-taken [] x y = refl
name-taken (b ∷ w) x y = ap (λ (l : List ℕ). b ∷ l) (name-taken w x y)

last_byte : (w : List ℕ) (x y : ℕ) → get_or (w ++ (x ∷ y ∷ [])) (suc (length w)) 0 ≡ y
last_byte [] x y = refl
last_byte (b ∷ w) x y = last_byte w x y

kind-of : (k l : Kind) → is_kind k l ≡ true → l ≡ k
kind-of function l h = function-kind l h
kind-of predicate l h = predicate-kind l h

pub origin-of : (o : Origin) → is_from_sheet o ≡ true → o ≡ declared
origin-of declared h = refl
origin-of helper h = absurd (false≢true h)

-- a name, / and a digit d are read as these
pub symbol-made : (k : Kind) (w : List ℕ) (d : ℕ) → 48 ≤ d → d < 58 → symbol_of k (w ++ (47 ∷ d ∷ [])) ≡ some (record { kind = k; name = w; arity = d - zero_digit; origin = declared })
symbol-made k w d lo hi = found (length (w ++ (47 ∷ d ∷ [])) - 2) n
  where
    v : List ℕ
    v = w ++ (47 ∷ d ∷ [])

    len : length v ≡ length w + 2
    len = length-append w (47 ∷ d ∷ [])

    n : length v - 2 ≡ length w
    n = omega (arith, len)

    enough : leb 2 (length v) ≡ true
    enough = leb-of-≤ 2 (length v) (omega (arith, len))

    digit : is_digit d ≡ true
    digit = and-join (leb 48 d) (ltb d 58) (leb-of-≤ 48 d lo) (ltb-of-< d 58 hi)

    tested : ℕ → ℕ → ℕ → Option Symbol
    tested x y m = cond (leb 2 (length v) && eqb x 47 && is_digit y) (some (record { kind = k; name = take m v; arity = y - zero_digit; origin = declared })) none

    found : (m : ℕ) → m ≡ length w → tested (get_or v m 0) (get_or v (suc m) 0) m ≡ some (record { kind = k; name = w; arity = d - zero_digit; origin = declared })
    found m e =
        ap (λ (m : ℕ). tested (get_or v m 0) (get_or v (suc m) 0) m) e
        ∙ ap (λ (x : ℕ). tested x (get_or v (suc (length w)) 0) (length w)) (get_or-append_seam w 47 (d ∷ []) 0)
        ∙ ap (λ (y : ℕ). tested 47 y (length w)) (last_byte w 47 d)
        ∙ ap (λ (q : Bool). cond (q && true && is_digit d) (some (record { kind = k; name = take (length w) v; arity = d - zero_digit; origin = declared })) none) enough
        ∙ ap (λ (q : Bool). cond q (some (record { kind = k; name = take (length w) v; arity = d - zero_digit; origin = declared })) none) digit
        ∙ ap (λ (u : List ℕ). some (record { kind = k; name = u; arity = d - zero_digit; origin = declared })) (name-taken w 47 d)

symbol-of : (k : Kind) (f : Symbol) → is_kind k f.kind ≡ true → is_from_sheet f.origin ≡ true → f.arity ≤ 3 → symbol_of k (symbol_text f) ≡ some f
symbol-of k f h o le =
    let ar : zero_digit + f.arity - zero_digit ≡ f.arity = omega arith in
    symbol-made k f.name (zero_digit + f.arity) (omega arith) (omega arith)
    ∙ ap (λ (a : ℕ). some (record { kind = k; name = f.name; arity = a; origin = declared })) ar
    ∙ ap (λ (l : Kind). some (record { kind = l; name = f.name; arity = f.arity; origin = declared })) (sym (kind-of k f.kind h))
    ∙ ap (λ (m : Origin). some (record { kind = f.kind; name = f.name; arity = f.arity; origin = m })) (sym (origin-of f.origin o))

-- a name that no earlier symbol has
new-name : (g : Signature) (f : Symbol) (fs : List Symbol) → NamesDiffer (g ++ (f ∷ fs)) → is_named f.name g ≡ false
new-name g f fs d = not-true (is_named f.name g) λ e.
    let r = any→place_that (λ (u : Symbol). same f.name u.name) g e in
    let s = named-place g f.name r.0 r.1 in
    let whole : length (g ++ (f ∷ fs)) ≡ length g + suc (length fs) = length-append g (f ∷ fs) in
    let here : symbol_at (g ++ (f ∷ fs)) r.0 ≡ symbol_at g r.0 = get_or-append g (f ∷ fs) no_symbol r.0 s.0 in
    let there : symbol_at (g ++ (f ∷ fs)) (length g) ≡ f = get_or-append_seam g f fs no_symbol in
    let q : r.0 ≡ length g =
    d r.0 (length g) (omega (arith, whole, s.0)) (omega (arith, whole))
    (ap (λ (u : Symbol). u.name) here ∙ sym s.1 ∙ sym (ap (λ (u : Symbol). u.name) there)) in
    omega (arith, q, s.0)

pub symbol-in_line : (f : Symbol) → symbol_ok f ≡ true → all in_line (symbol_text f) ≡ true
symbol-in_line f h =
    let d : ℕ = zero_digit + f.arity in
    all_append in_line f.name (47 ∷ d ∷ [])
    ∙ and-join (all in_line f.name) (all in_line (47 ∷ d ∷ [])) (name-without LF f.name refl (and_right (leb f.arity 3) (is_name f.name) h))
    (and-join (in_line d) true (ap not (eqb-false d LF (λ e. omega arith))) refl)

-- lines of symbols of one kind are read, after the symbols g
pub symbols-read : (key : List ℕ) → all in_line key ≡ true → (k : Kind) (fs : List Symbol) (g : Signature) (l : ℕ) (rest : List ℕ)
    → all (λ (f : Symbol). is_kind k f.kind) fs ≡ true → all_declared fs ≡ true → all symbol_ok fs ≡ true → NamesDiffer (g ++ fs)
    → symbol_lines (length fs) key k g l (concat_map (λ (f : Symbol). line key (symbol_text f)) fs ++ rest) ≡ answer (g ++ fs, rest)
unfolding symbol_lines
symbols-read key hk k [] g l rest kinds from ok d = ap (λ (g : Signature). answer (g, rest)) (sym (append-nil g))
symbols-read key hk k (f ∷ fs) g l rest kinds from ok d =
    let more : List ℕ = concat_map (λ (f : Symbol). line key (symbol_text f)) fs in
    let shape : (line key (symbol_text f) ++ more) ++ rest ≡ line key (symbol_text f) ++ (more ++ rest) = append_assoc (line key (symbol_text f)) more rest in
    let okf : symbol_ok f ≡ true = and_left (symbol_ok f) (all symbol_ok fs) ok in
    let ar : leb f.arity 3 ≡ true = and_left (leb f.arity 3) (is_name f.name) okf in
    let named : (is_name f.name && not (is_named f.name g)) ≡ true =
    and-join (is_name f.name) (not (is_named f.name g)) (and_right (leb f.arity 3) (is_name f.name) okf) (ap not (new-name g f fs d)) in
    let whole : (g ++ (f ∷ [])) ++ fs ≡ g ++ (f ∷ fs) = append_assoc g (f ∷ []) fs in
    ap (symbol_lines (suc (length fs)) key k g l) shape
    ∙ bind-step _ _ (symbol_text f, more ++ rest) _ (line_read key (symbol_text f) (more ++ rest) l hk (symbol-in_line f okf))
    (bind-step _ _ f _ (or_refuse-of-some (symbol_of k (symbol_text f)) (at_line 2 l) f
    (symbol-of k f (and_left (is_kind k f.kind) (all (λ (f : Symbol). is_kind k f.kind) fs) kinds) (and_left (is_from_sheet f.origin) (all_declared fs) from) (leb-true f.arity 3 ar)))
    (bind-step _ _ tt _ (check-of-true (leb f.arity 3) (at_line 3 l) ar)
    (bind-step _ _ tt _ (check-of-true (is_name f.name && not (is_named f.name g)) (at_line 4 l) named)
    (symbols-read key hk k fs (g ++ (f ∷ [])) (suc l) rest (and_right (is_kind k f.kind) (all (λ (f : Symbol). is_kind k f.kind) fs) kinds)
    (and_right (is_from_sheet f.origin) (all_declared fs) from) (and_right (symbol_ok f) (all symbol_ok fs) ok)
    (subst NamesDiffer (sym whole) d)
    ∙ ap (λ (g : Signature). answer (g, rest)) whole))))

-- lines of clauses are read
clauses-read : (g : Signature) → all symbol_ok g ≡ true → NamesDiffer g → (cs : List Clause) (l : ℕ) (rest : List ℕ) → all (clause_accepted g) cs ≡ true
    → clause_lines (length cs) g l (concat_map (λ (c : Clause). line (bytes "clause=") (clause_words_text g c)) cs ++ rest) ≡ answer (cs, rest)
unfolding clause_lines
clauses-read g ok d [] l rest h = refl
clauses-read g ok d (c ∷ cs) l rest h =
    let one : List ℕ = line (bytes "clause=") (clause_words_text g c) in
    let more : List ℕ = concat_map (λ (c : Clause). line (bytes "clause=") (clause_words_text g c)) cs in
    let hc : clause_accepted g c ≡ true = and_left (clause_accepted g c) (all (clause_accepted g) cs) h in
    ap (clause_lines (suc (length cs)) g l) (append_assoc one more rest)
    ∙ bind-step _ _ (clause_words_text g c, more ++ rest) _ (line_read (bytes "clause=") (clause_words_text g c) (more ++ rest) l refl (clause-in_line g ok c hc))
    (bind-step _ _ c _ (clause-read g ok c hc d l)
    (bind-step _ _ (cs, rest) _ (clauses-read g ok d cs (suc l) rest (and_right (clause_accepted g c) (all (clause_accepted g) cs) h)) refl))

-- functions, then predicates: each kind is what was put together
pub select-all : (p : Symbol → Bool) (fs gs : List Symbol) → all p fs ≡ true → all (λ f. not (p f)) gs ≡ true → select p (fs ++ gs) ≡ fs
select-all p [] [] h k = refl
select-all p [] (g ∷ gs) h k =
    let e : p g ≡ false = false_of_not (p g) (and_left (not (p g)) (all (λ f. not (p f)) gs) k) in
    ap (λ (b : Bool). cond b (g ∷ select p gs) (select p gs)) e ∙ select-all p [] gs h (and_right (not (p g)) (all (λ f. not (p f)) gs) k)
select-all p (f ∷ fs) gs h k =
    ap (λ (b : Bool). cond b (f ∷ select p (fs ++ gs)) (select p (fs ++ gs))) (and_left (p f) (all p fs) h)
    ∙ ap (λ (l : List Symbol). f ∷ l) (select-all p fs gs (and_right (p f) (all p fs) h) k)

pub select-none : (p : Symbol → Bool) (fs gs : List Symbol) → all (λ f. not (p f)) fs ≡ true → all p gs ≡ true → select p (fs ++ gs) ≡ gs
select-none p [] gs h k = ap (select p) (sym (append-nil gs)) ∙ select-all p gs [] k refl
select-none p (f ∷ fs) gs h k =
    ap (λ (b : Bool). cond b (f ∷ select p (fs ++ gs)) (select p (fs ++ gs))) (false_of_not (p f) (and_left (not (p f)) (all (λ f. not (p f)) fs) h))
    ∙ select-none p fs gs (and_right (not (p f)) (all (λ f. not (p f)) fs) h) k

pub function-only : (f : Symbol) → is_function f.kind ≡ true → not (is_predicate f.kind) ≡ true
function-only f h = ap (λ (k : Kind). not (is_predicate k)) (function-kind f.kind h)

pub predicate-only : (f : Symbol) → is_predicate f.kind ≡ true → not (is_function f.kind) ≡ true
predicate-only f h = ap (λ (k : Kind). not (is_function k)) (predicate-kind f.kind h)

module _ (p : Problem) (w : WellFormed p) where
  abbrev fs : List Symbol
  fs = w.functions

  abbrev ps : List Symbol
  ps = w.predicates

  abbrev g : Signature
  g = p.symbols

  abbrev cs : List Clause
  cs = p.clauses

  pub functions-of : functions g ≡ fs
  functions-of =
      ap functions w.split
      ∙ select-all (λ (f : Symbol). is_function f.kind) fs ps w.function-kinds
      (all-imply (λ (f : Symbol). is_predicate f.kind) (λ (f : Symbol). not (is_function f.kind)) ps predicate-only w.predicate-kinds)

  pub predicates-of : predicates g ≡ ps
  predicates-of =
      ap predicates w.split
      ∙ select-none (λ (f : Symbol). is_predicate f.kind) fs ps
      (all-imply (λ (f : Symbol). is_function f.kind) (λ (f : Symbol). not (is_predicate f.kind)) fs function-only w.function-kinds) w.predicate-kinds

  -- the text from each part on
  abbrev from_clauses : List ℕ
  from_clauses = concat_map (λ (c : Clause). line (bytes "clause=") (clause_words_text g c)) cs

  abbrev from_count : List ℕ
  from_count = line (bytes "clauses=") (decimal (length cs)) ++ from_clauses

  abbrev from_predicates : List Symbol → List ℕ
  from_predicates ps = line (bytes "preds=") (decimal (length ps)) ++ (concat_map (λ (f : Symbol). line (bytes "pred=") (symbol_text f)) ps ++ from_count)

  abbrev from_functions : List Symbol → List Symbol → List ℕ
  from_functions fs ps = line (bytes "funs=") (decimal (length fs)) ++ (concat_map (λ (f : Symbol). line (bytes "fun=") (symbol_text f)) fs ++ from_predicates ps)

  text_of : sheet_text p ≡ line (bytes "sheet=1") [] ++ from_functions fs ps
  unfolding sheet_text
  text_of =
      ap (λ (fs : List Symbol). line (bytes "sheet=1") [] ++ from_functions fs (predicates g)) functions-of
      ∙ ap (λ (ps : List Symbol). line (bytes "sheet=1") [] ++ from_functions fs ps) predicates-of

  from-sheet : (all_declared fs ≡ true) × (all_declared ps ≡ true)
  from-sheet =
      let both : (all_declared fs && all_declared ps) ≡ true = sym (all_append (λ (f : Symbol). is_from_sheet f.origin) fs ps) ∙ ap all_declared (sym w.split) ∙ w.origins in
      (and_left (all_declared fs) (all_declared ps) both, and_right (all_declared fs) (all_declared ps) both)

  ok-functions : all symbol_ok fs ≡ true
  ok-functions = and_left (all symbol_ok fs) (all symbol_ok ps) (sym (all_append symbol_ok fs ps) ∙ ap (all symbol_ok) (sym w.split) ∙ w.symbols-ok)

  ok-predicates : all symbol_ok ps ≡ true
  ok-predicates = and_right (all symbol_ok fs) (all symbol_ok ps) (sym (all_append symbol_ok fs ps) ∙ ap (all symbol_ok) (sym w.split) ∙ w.symbols-ok)

  differ-all : NamesDiffer (fs ++ ps)
  differ-all = subst NamesDiffer w.split w.names-differ

  -- the functions alone differ too
  differ-functions : NamesDiffer fs
  differ-functions i j hi hj e =
      let n : length (fs ++ ps) ≡ length fs + length ps = length-append fs ps in
      let at : (i : ℕ) → i < length fs → symbol_at (fs ++ ps) i ≡ symbol_at fs i = λ i h. get_or-append fs ps no_symbol i h in
      differ-all i j (omega (arith, n, hi)) (omega (arith, n, hj)) (ap (λ (f : Symbol). f.name) (at i hi) ∙ e ∙ sym (ap (λ (f : Symbol). f.name) (at j hj)))

  clauses-last : clause_lines (length cs) g (5 + length fs + length ps) from_clauses ≡ answer (cs, [])
  clauses-last =
      ap (clause_lines (length cs) g (5 + length fs + length ps)) (sym (append-nil from_clauses))
      ∙ clauses-read g w.symbols-ok w.names-differ cs (5 + length fs + length ps) [] w.clauses-accepted

  predicates-read : symbol_lines (length ps) (bytes "pred=") predicate fs (4 + length fs) (concat_map (λ (f : Symbol). line (bytes "pred=") (symbol_text f)) ps ++ from_count) ≡ answer (g, from_count)
  predicates-read =
      symbols-read (bytes "pred=") refl predicate ps fs (4 + length fs) from_count w.predicate-kinds from-sheet.1 ok-predicates differ-all
      ∙ ap (λ (g : Signature). answer (g, from_count)) (sym w.split)

  pub sheet-read : length (sheet_text p) ≤ 16384 → read_problem (sheet_text p) ≡ answer p
  unfolding read_problem
  sheet-read le =
      let le₂ : length (line (bytes "sheet=1") [] ++ from_functions fs ps) ≤ 16384 = subst (λ (t : List ℕ). length t ≤ 16384) text_of le in
      ap read_problem text_of
      ∙ bind-step _ _ tt _ (check-of-true (leb (length (line (bytes "sheet=1") [] ++ from_functions fs ps)) 16384) (unplaced 1) (leb-of-≤ (length (line (bytes "sheet=1") [] ++ from_functions fs ps)) 16384 le₂))
      (bind-step _ _ ([], from_functions fs ps) _ (line_read (bytes "sheet=1") [] (from_functions fs ps) 1 refl refl)
      (bind-step _ _ tt _ refl
      (bind-step _ _ (length fs, concat_map (λ (f : Symbol). line (bytes "fun=") (symbol_text f)) fs ++ from_predicates ps) _
      (count-read (bytes "funs=") (concat_map (λ (f : Symbol). line (bytes "fun=") (symbol_text f)) fs ++ from_predicates ps) 12 (length fs) 2 refl w.function-count (omega arith))
      (bind-step _ _ (fs, from_predicates ps) _ (symbols-read (bytes "fun=") refl function fs [] 3 (from_predicates ps) w.function-kinds from-sheet.0 ok-functions differ-functions)
      (bind-step _ _ (length ps, concat_map (λ (f : Symbol). line (bytes "pred=") (symbol_text f)) ps ++ from_count) _
      (count-read (bytes "preds=") (concat_map (λ (f : Symbol). line (bytes "pred=") (symbol_text f)) ps ++ from_count) 12 (length ps) (3 + length fs) refl w.predicate-count (omega arith))
      (bind-step _ _ (g, from_count) _ predicates-read
      (bind-step _ _ (length cs, from_clauses) _ (count-read (bytes "clauses=") from_clauses 64 (length cs) (4 + length fs + length ps) refl w.clause-count (omega arith))
      (bind-step _ _ (cs, []) _ clauses-last (bind-step _ _ tt _ refl refl)))))))))

pub sheet_read : claims.SheetRead
sheet_read = record { read = λ p w le. sheet-read p w le }
