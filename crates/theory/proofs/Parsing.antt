-- What holds of every problem that is read from a sheet: its symbols, its clauses, and their limits.
use Prim.Native.Nat.{ℕ, zero, suc, ◌+◌, ◌-◌, ◌≤◌, ◌<◌}
use mathlib.Core.Path.{◌≡◌, refl, sym, ap, ◌∙◌, subst}
use mathlib.Core.Logic.{◌⊎◌, inl, inr}
use mathlib.Core.Bool.{Bool, true, false, cond, not, ◌&&◌}
use mathlib.Core.Option.{Option, none, some, some-injective}
use mathlib.Core.List.{List, [], ◌∷◌, ◌++◌, append_assoc, append-nil}
use native.Mathlib.Omega.{arith}
use lib.Dec.{eqb, ltb, leb}
use lib.ListN.{length, get_or, take, length-append, get_or-append}
use lib.Seq.{get_or-append_seam}
use Rattle.theory.specs.Lists.{all, same, prefix}
use Rattle.theory.specs.Bytes.{bytes, zero_digit, is_digit}
use Rattle.theory.specs.Lines.{Cut, words_of}
use Rattle.theory.specs.Syntax.{Kind, function, predicate, is_function, is_predicate, declared, is_from_sheet, Symbol, Signature, all_declared, no_symbol, symbol_at, Clause, clause_ok}
use Rattle.theory.specs.Grammar.{Word, sign, equals, symbol, letter, clause_words, read_clause}
use Rattle.theory.specs.Refusals.{answer, at_line, unplaced}
use Rattle.theory.specs.Problem.{count_line, is_name_byte, is_name, symbol_of, is_named, symbol_lines, place_of_name, name_word, word_of, read_all, within_limits, clause_of, clause_lines, Problem, read_problem}
use Rattle.theory.specs.WellFormed.{symbol_ok, NamesDiffer, is_known_letter, clause_accepted, WellFormed}
use Rattle.theory.specs.Claims.Grammar.{is_declared}
use Rattle.theory.proofs.Tests.{both_false, false_of_not, lt-or-eq-or-gt, leb-true, ltb-true, ltb-of-<, and_left, and_right, and-join}
use Rattle.theory.proofs.Lists.{all_append, all-imply, all-at, any_at, same_refl}
use Rattle.theory.proofs.Answers.{unbind, answer-inj, check-true, or_refuse-some}
use Rattle.theory.proofs.Names.{name-without, named-place}
use Rattle.theory.proofs.Grammar.{read_clause-sound}

-- the two kinds are the same
abbrev pub is_kind : Kind → Kind → Bool
is_kind function k = is_function k
is_kind predicate k = is_predicate k

is_kind-refl : (k : Kind) → is_kind k k ≡ true
is_kind-refl function = refl
is_kind-refl predicate = refl

-- what n lines of symbols of one kind add to the signature g
pub record Added (k : Kind) (n : ℕ) (g r : Signature) : Type 0 where
  pub added : List Symbol
  pub whole : r ≡ g ++ added
  pub counted : length added ≡ n
  pub kinds : all (λ (f : Symbol). is_kind k f.kind) added ≡ true
  pub shaped : all symbol_ok added ≡ true
  pub origins : all_declared added ≡ true
  pub differ : NamesDiffer g → NamesDiffer r

-- a symbol of this kind that is read passes a test that every declared one passes
symbol_of-passes : (q : Symbol → Bool) (k : Kind) → ((w : List ℕ) (n : ℕ) → q (record { kind = k; name = w; arity = n; origin = declared }) ≡ true) → (v : List ℕ) (f : Symbol) → symbol_of k v ≡ some f → q f ≡ true
symbol_of-passes q k h v f e = go (leb 2 (length v) && eqb (get_or v (length v - 2) 0) 47 && is_digit (get_or v (suc (length v - 2)) 0)) e
  where
    go : (b : Bool) → cond b (some (record { kind = k; name = take (length v - 2) v; arity = get_or v (suc (length v - 2)) 0 - zero_digit; origin = declared })) none ≡ some f → q f ≡ true
    go true e =
        ap q (sym (some-injective (record { kind = k; name = take (length v - 2) v; arity = get_or v (suc (length v - 2)) 0 - zero_digit; origin = declared }) f e)) ∙ h (take (length v - 2) v) (get_or v (suc (length v - 2)) 0 - zero_digit)
    go false e = let z : ◌≡◌ {A = ℕ} 0 1 = cc in absurd (omega arith)

differ-snoc : (g : Signature) (f : Symbol) → is_named f.name g ≡ false → NamesDiffer g → NamesDiffer (g ++ (f ∷ []))
differ-snoc g f h d i j hi hj e = go (lt-or-eq-or-gt i (length g)) (lt-or-eq-or-gt j (length g))
  where
    n : length (g ++ (f ∷ [])) ≡ suc (length g)
    n = length-append g (f ∷ []) ∙ omega arith

    here : (i : ℕ) → i < length g → symbol_at (g ++ (f ∷ [])) i ≡ symbol_at g i
    here i lt = get_or-append g (f ∷ []) no_symbol i lt

    last : (i : ℕ) → i ≡ length g → symbol_at (g ++ (f ∷ [])) i ≡ f
    last i q = ap (symbol_at (g ++ (f ∷ []))) q ∙ get_or-append_seam g f [] no_symbol

    new : (i : ℕ) → i < length g → (symbol_at g i).name ≡ f.name → ⊥
    new i lt q = both_false (any_at (λ (u : Symbol). same f.name u.name) no_symbol g i lt (ap (same f.name) q ∙ same_refl f.name)) h

    go : (i < length g) ⊎ ((i ≡ length g) ⊎ (length g < i)) → (j < length g) ⊎ ((j ≡ length g) ⊎ (length g < j)) → i ≡ j
    go (inl a) (inl b) = d i j a b (ap (λ (u : Symbol). u.name) (sym (here i a)) ∙ e ∙ ap (λ (u : Symbol). u.name) (here j b))
    go (inl a) (inr (inl b)) = absurd (new i a (ap (λ (u : Symbol). u.name) (sym (here i a)) ∙ e ∙ ap (λ (u : Symbol). u.name) (last j b)))
    go (inl a) (inr (inr b)) = absurd (omega (arith, n))
    go (inr (inl a)) (inl b) = absurd (new j b (ap (λ (u : Symbol). u.name) (sym (here j b)) ∙ sym e ∙ ap (λ (u : Symbol). u.name) (last i a)))
    go (inr (inl a)) (inr (inl b)) = a ∙ sym b
    go (inr (inl a)) (inr (inr b)) = absurd (omega (arith, n))
    go (inr (inr a)) b = absurd (omega (arith, n))

pub symbol_lines-added : (n : ℕ) (key : List ℕ) (k : Kind) (g : Signature) (l : ℕ) (text : List ℕ) (r : Signature × List ℕ) → symbol_lines n key k g l text ≡ answer r → Added k n g r.0
unfolding symbol_lines
symbol_lines-added zero key k g l text r e =
    let q : g ≡ r.0 = ap (λ (r : Signature × List ℕ). r.0) (answer-inj (g, text) r e) in
    record {
      added = [];
      whole = sym q ∙ sym (append-nil g);
      counted = refl;
      kinds = refl;
      shaped = refl;
      origins = refl;
      differ = λ d. subst NamesDiffer q d;
    }
symbol_lines-added (suc n) key k g l text r e =
    unbind _ _ r e λ (p : Cut) _ e₁.
    unbind _ _ r e₁ λ (f : Symbol) h₂ e₂.
    unbind _ _ r e₂ λ (u₁ : Unit {0}) h₃ e₃.
    unbind _ _ r e₃ λ (u₂ : Unit {0}) h₄ e₄.
    step p.0 f (or_refuse-some (symbol_of k p.0) (at_line 2 l) f h₂) (check-true (leb f.arity 3) (at_line 3 l) u₁ h₃)
    (check-true (is_name f.name && not (is_named f.name g)) (at_line 4 l) u₂ h₄)
    (symbol_lines-added n key k (g ++ (f ∷ [])) (suc l) p.1 r e₄)
  where
    step : (v : List ℕ) (f : Symbol) → symbol_of k v ≡ some f → leb f.arity 3 ≡ true → (is_name f.name && not (is_named f.name g)) ≡ true → Added k n (g ++ (f ∷ [])) r.0 → Added k (suc n) g r.0
    step v f a b c ih =
        record {
          added = f ∷ ih.added;
          whole = ih.whole ∙ append_assoc g (f ∷ []) ih.added;
          counted = ap suc ih.counted;
          kinds = and-join (is_kind k f.kind) (all (λ (f : Symbol). is_kind k f.kind) ih.added) (symbol_of-passes (λ (f : Symbol). is_kind k f.kind) k (λ w n. is_kind-refl k) v f a) ih.kinds;
          shaped =
              and-join (symbol_ok f) (all symbol_ok ih.added)
              (and-join (leb f.arity 3) (is_name f.name) b (and_left (is_name f.name) (not (is_named f.name g)) c)) ih.shaped;
          origins =
              and-join (is_from_sheet f.origin) (all_declared ih.added)
              (symbol_of-passes (λ (f : Symbol). is_from_sheet f.origin) k (λ w n. refl) v f a) ih.origins;
          differ = λ d. ih.differ (differ-snoc g f (false_of_not (is_named f.name g) (and_right (is_name f.name) (not (is_named f.name g)) c)) d);
        }

name-known : (g : Signature) (w : List ℕ) (x : Word) (o : Option ℕ) → place_of_name w g ≡ o → name_word o ≡ some x → (is_declared g x && is_known_letter x) ≡ true
name-known g w x none h e = let z : ◌≡◌ {A = ℕ} 0 1 = cc in absurd (omega arith)
name-known g w x (some i) h e =
    ap (λ (y : Word). is_declared g y && is_known_letter y) (sym (some-injective (symbol i) x e))
    ∙ and-join (ltb i (length g)) true (ltb-of-< i (length g) (named-place g w i h).0) refl

-- a word that is known means a declared symbol or one of the eight letters
pub word_of-known : (g : Signature) (w : List ℕ) (x : Word) → word_of g w ≡ some x → (is_declared g x && is_known_letter x) ≡ true
unfolding word_of
word_of-known g [] x e = let z : ◌≡◌ {A = ℕ} 0 1 = cc in absurd (omega arith)
word_of-known g (b ∷ c ∷ w) x e = name-known g (b ∷ c ∷ w) x (place_of_name (b ∷ c ∷ w) g) refl e
word_of-known g (b ∷ []) x e = go (eqb b 43) (eqb b 45) (eqb b 61) (leb 65 b && ltb b 73) refl e
  where
    r : Option Word
    r = name_word (place_of_name (b ∷ []) g)

    is : (y : Word) → (is_declared g y && is_known_letter y) ≡ true → some y ≡ some x → (is_declared g x && is_known_letter x) ≡ true
    is y h q = ap (λ (y : Word). is_declared g y && is_known_letter y) (sym (some-injective y x q)) ∙ h

    go : (p q s t : Bool) → (leb 65 b && ltb b 73) ≡ t → cond p (some (sign true)) (cond q (some (sign false)) (cond s (some equals) (cond t (some (letter (b - 65))) r))) ≡ some x
        → (is_declared g x && is_known_letter x) ≡ true
    go true q s t h e = is (sign true) refl e
    go false true s t h e = is (sign false) refl e
    go false false true t h e = is equals refl e
    go false false false true h e =
        let hi : b < 73 = ltb-true b 73 (and_right (leb 65 b) (ltb b 73) h) in
        let lo : 65 ≤ b = leb-true 65 b (and_left (leb 65 b) (ltb b 73) h) in
        is (letter (b - 65)) (ltb-of-< (b - 65) 8 (omega arith)) e
    go false false false false h e = name-known g (b ∷ []) x (place_of_name (b ∷ []) g) refl e

pub read_all-known : (g : Signature) (vs : List (List ℕ)) (ws : List Word) → read_all g vs ≡ some ws → all (λ x. is_declared g x && is_known_letter x) ws ≡ true
read_all-known g [] ws e = ap (all (λ x. is_declared g x && is_known_letter x)) (sym (some-injective [] ws e))
read_all-known g (v ∷ vs) ws e = go (word_of g v) refl (read_all g vs) refl e (λ us. read_all-known g vs us)
  where
    known : Word → Bool
    known x = is_declared g x && is_known_letter x

    go : (o : Option Word) → word_of g v ≡ o → (m : Option (List Word)) → read_all g vs ≡ m → (elim o as (λ _. Option (List Word)) [ some x ↦ prefix x m | none ↦ none ]) ≡ some ws
        → ((us : List Word) → read_all g vs ≡ some us → all known us ≡ true) → all known ws ≡ true
    go none h m k e ih = let z : ◌≡◌ {A = ℕ} 0 1 = cc in absurd (omega arith)
    go (some x) h none k e ih = let z : ◌≡◌ {A = ℕ} 0 1 = cc in absurd (omega arith)
    go (some x) h (some us) k e ih = ap (all known) (sym (some-injective (x ∷ us) ws e)) ∙ and-join (known x) (all known us) (word_of-known g v x h) (ih us k)

pub clause_of-accepted : (g : Signature) (l : ℕ) (v : List ℕ) (c : Clause) → clause_of g l v ≡ answer c → clause_accepted g c ≡ true
unfolding clause_of
clause_of-accepted g l v c e =
    unbind _ _ c e λ (ws : List Word) h₁ e₁.
    unbind _ _ c e₁ λ (d : Clause) h₂ e₂.
    unbind _ _ c e₂ λ (u : Unit {0}) h₃ e₃.
    step ws (read_all-known g (words_of v) ws (or_refuse-some (read_all g (words_of v)) (at_line 5 l) ws h₁)) d (or_refuse-some (read_clause g ws) (at_line 6 l) d h₂)
    (check-true (within_limits ws d) (at_line 7 l) u h₃) (answer-inj d c e₃)
  where
    step : (ws : List Word) → all (λ x. is_declared g x && is_known_letter x) ws ≡ true → (d : Clause) → read_clause g ws ≡ some d → within_limits ws d ≡ true → d ≡ c → clause_accepted g c ≡ true
    step ws k d r lim q =
        let s = read_clause-sound g ws d (all-imply (λ x. is_declared g x && is_known_letter x) (is_declared g) ws (λ x. and_left (is_declared g x) (is_known_letter x)) k) r in
        let lim₂ : within_limits (clause_words d) d ≡ true = ap (λ (ws : List Word). within_limits ws d) s.1 ∙ lim in
        let letters : all is_known_letter (clause_words d) ≡ true =
        ap (all is_known_letter) s.1 ∙ all-imply (λ x. is_declared g x && is_known_letter x) is_known_letter ws (λ x. and_right (is_declared g x) (is_known_letter x)) k in
        ap (clause_accepted g) (sym q)
        ∙ and-join (clause_ok g d && within_limits (clause_words d) d) (all is_known_letter (clause_words d)) (and-join (clause_ok g d) (within_limits (clause_words d) d) s.0 lim₂) letters

pub clause_lines-accepted : (n : ℕ) (g : Signature) (l : ℕ) (text : List ℕ) (r : (List Clause) × List ℕ) → clause_lines n g l text ≡ answer r
    → (length r.0 ≡ n) × (all (clause_accepted g) r.0 ≡ true)
unfolding clause_lines
clause_lines-accepted zero g l text r e =
    let q : [] ≡ r.0 = ap (λ (r : (List Clause) × List ℕ). r.0) (answer-inj ([], text) r e) in
    (ap length (sym q), ap (all (clause_accepted g)) (sym q))
clause_lines-accepted (suc n) g l text r e =
    unbind _ _ r e λ (p : Cut) _ e₁.
    unbind _ _ r e₁ λ (c : Clause) h₂ e₂.
    unbind _ _ r e₂ λ (cs : (List Clause) × List ℕ) h₃ e₃.
    step c (clause_of-accepted g l p.0 c h₂) cs (clause_lines-accepted n g (suc l) p.1 cs h₃) (ap (λ (r : (List Clause) × List ℕ). r.0) (answer-inj (c ∷ cs.0, cs.1) r e₃))
  where
    step : (c : Clause) → clause_accepted g c ≡ true → (cs : (List Clause) × List ℕ) → (length cs.0 ≡ n) × (all (clause_accepted g) cs.0 ≡ true) → c ∷ cs.0 ≡ r.0
        → (length r.0 ≡ suc n) × (all (clause_accepted g) r.0 ≡ true)
    step c h cs ih q = (ap length (sym q) ∙ ap suc ih.0, ap (all (clause_accepted g)) (sym q) ∙ and-join (clause_accepted g c) (all (clause_accepted g) cs.0) h ih.1)

pub count_line-limit : (key : List ℕ) (limit l : ℕ) (text : List ℕ) (r : ℕ × List ℕ) → count_line key limit l text ≡ answer r → r.0 ≤ limit
unfolding count_line
count_line-limit key limit l text r e =
    unbind _ _ r e λ (p : Cut) _ e₁.
    unbind _ _ r e₁ λ (n : ℕ) _ e₂.
    unbind _ _ r e₂ λ (u : Unit {0}) h₃ e₃.
    subst (λ (m : ℕ). m ≤ limit) (ap (λ (r : ℕ × List ℕ). r.0) (answer-inj (n, p.1) r e₃)) (leb-true n limit (check-true (leb n limit) (at_line 3 l) u h₃))

-- every problem that is read is well-formed
pub well-formed : (f p c : ℕ) (fs g : Signature) (cs : List Clause) → f ≤ 12 → p ≤ 12 → c ≤ 64 → Added function f [] fs → Added predicate p fs g → (length cs ≡ c) × (all (clause_accepted g) cs ≡ true)
    → WellFormed (record { symbols = g; clauses = cs })
well-formed f p c fs g cs hf hp hc af ap' h =
    let e : fs ≡ af.added = af.whole in
    let s : g ≡ af.added ++ ap'.added = ap'.whole ∙ ap (λ (l : List Symbol). l ++ ap'.added) e in
    record {
      functions = af.added;
      predicates = ap'.added;
      split = s;
      function-kinds = af.kinds;
      predicate-kinds = ap'.kinds;
      function-count = omega (arith, af.counted);
      predicate-count = omega (arith, ap'.counted);
      symbols-ok = ap (all symbol_ok) s ∙ all_append symbol_ok af.added ap'.added ∙ and-join (all symbol_ok af.added) (all symbol_ok ap'.added) af.shaped ap'.shaped;
      names-differ = ap'.differ (af.differ (λ i j hi. absurd (omega arith)));
      origins = ap all_declared s ∙ all_append (λ (f : Symbol). is_from_sheet f.origin) af.added ap'.added ∙ and-join (all_declared af.added) (all_declared ap'.added) af.origins ap'.origins;
      clause-count = omega (arith, h.0);
      clauses-accepted = h.1;
    }

pub read_problem-well_formed : (text : List ℕ) (p : Problem) → read_problem text ≡ answer p → WellFormed p
unfolding read_problem
read_problem-well_formed text t e =
    unbind _ _ t e λ (u₁ : Unit {0}) _ e₁.
    unbind _ _ t e₁ λ (a : Cut) _ e₂.
    unbind _ _ t e₂ λ (u₂ : Unit {0}) _ e₃.
    unbind _ _ t e₃ λ (f : ℕ × List ℕ) h₄ e₄.
    unbind _ _ t e₄ λ (fs : Signature × List ℕ) h₅ e₅.
    unbind _ _ t e₅ λ (p : ℕ × List ℕ) h₆ e₆.
    unbind _ _ t e₆ λ (g : Signature × List ℕ) h₇ e₇.
    unbind _ _ t e₇ λ (c : ℕ × List ℕ) h₈ e₈.
    unbind _ _ t e₈ λ (cs : (List Clause) × List ℕ) h₉ e₉.
    unbind _ _ t e₉ λ (u₃ : Unit {0}) _ e₁₀.
    subst WellFormed (answer-inj (record { symbols = g.0; clauses = cs.0 }) t e₁₀)
    (well-formed f.0 p.0 c.0 fs.0 g.0 cs.0
    (count_line-limit (bytes "funs=") 12 2 a.1 f h₄)
    (count_line-limit (bytes "preds=") 12 (3 + f.0) fs.1 p h₆)
    (count_line-limit (bytes "clauses=") 64 (4 + f.0 + p.0) g.1 c h₈)
    (symbol_lines-added f.0 (bytes "fun=") function [] 3 f.1 fs h₅)
    (symbol_lines-added p.0 (bytes "pred=") predicate fs.0 (4 + f.0) p.1 g h₇)
    (clause_lines-accepted c.0 g.0 (5 + f.0 + p.0) c.1 cs h₉))

-- a sheet that is read has at most 16,384 bytes
pub read_problem-bytes : (text : List ℕ) (p : Problem) → read_problem text ≡ answer p → length text ≤ 16384
unfolding read_problem
read_problem-bytes text p e = unbind _ _ p e λ (u : Unit {0}) h _. leb-true (length text) 16384 (check-true (leb (length text) 16384) (unplaced 1) u h)

module _ (p : Problem) (w : WellFormed p) where
  abbrev g : Signature
  g = p.symbols

  pub symbol-count : length g ≡ length w.functions + length w.predicates
  symbol-count = ap length w.split ∙ length-append w.functions w.predicates

  pub at-most-24 : length g ≤ 24
  at-most-24 = omega (arith, symbol-count, w.function-count, w.predicate-count)

  -- the symbol at a place: its arity, its name, and its kind by its place
  pub arity-at : (i : ℕ) → i < length g → (symbol_at g i).arity ≤ 3
  arity-at i lt = let f : Symbol = symbol_at g i in leb-true f.arity 3 (and_left (leb f.arity 3) (is_name f.name) (all-at symbol_ok no_symbol g i w.symbols-ok lt))

  -- a byte that is no name byte, as LF, space and =, is in no name
  pub names-without : (x : ℕ) → is_name_byte x ≡ false → all (λ (f : Symbol). all (λ b. not (eqb b x)) f.name) g ≡ true
  names-without x h =
      all-imply symbol_ok (λ (f : Symbol). all (λ b. not (eqb b x)) f.name) g (λ f k. name-without x f.name h (and_right (leb f.arity 3) (is_name f.name) k)) w.symbols-ok

  -- every clause: over the signature, within the limits, with letters A to H
  pub clauses-ok : all (clause_ok g) p.clauses ≡ true
  clauses-ok =
      all-imply (clause_accepted g) (clause_ok g) p.clauses
      (λ c h. and_left (clause_ok g c) (within_limits (clause_words c) c) (and_left (clause_ok g c && within_limits (clause_words c) c) (all is_known_letter (clause_words c)) h)) w.clauses-accepted
