-- A sheet that is refused on a line, with other text from that line on: refused with 2 there, if that text does not begin as laid out.
use Prim.Native.Nat.{ℕ, zero, suc, ◌+◌, ◌≤◌, ◌<◌}
use mathlib.Core.Path.{◌≡◌, refl, sym, ap, ◌∙◌, subst}
use mathlib.Core.Bool.{false, ◌&&◌, not}
use mathlib.Core.Option.{Option, none, some}
use mathlib.Core.List.{List, [], ◌∷◌, ◌++◌, append_assoc}
use native.Mathlib.Omega.{arith}
use lib.Dec.{leb}
use lib.ListN.{length}
use Rattle.theory.specs.Lists.{same}
use Rattle.theory.specs.Bytes.{bytes, LF}
use Rattle.theory.specs.Syntax.{Kind, function, predicate, Symbol, Signature, Clause}
use Rattle.theory.specs.Refusals.{Refusal, Answer, answer, refused, at_line, unplaced, ◌>>=◌, check, or_refuse}
use Rattle.theory.specs.Lines.{Cut, cut_line, after_key, count_of, words_of}
use Rattle.theory.specs.Grammar.{Word, read_clause}
use Rattle.theory.specs.Problem.{max_bytes, max_symbols, max_clauses, max_arity, key_line, count_line, is_name, symbol_of, is_named, symbol_lines, read_all, within_limits, clause_of, clause_lines, Problem, nothing_left, read_problem}
use Rattle.theory.specs.LineForms.{ValueForm, no_bytes, count_digits, declaration, any_words, keyed, no_line, has_form, value_has_form, line_has_form, is_laid_out}
use Rattle.theory.specs.DueLines.{count_on, functions_said, predicates_said, clauses_said, due_in_sheet}
use Rattle.theory.proofs.Tests.{leb-of-≤}
use Rattle.theory.proofs.Answers.{unbind, unrefused, answer-inj, bind-step, bind-refused, check-of-true, check-of-false, or_refuse-some, or_refuse-of-some, or_refuse-of-none}
use Rattle.theory.proofs.Lines.{cut_line-is, cut-only}
use Rattle.theory.proofs.LineTexts.{cut-in_line}
use Rattle.theory.proofs.LinesBefore.{ReadUpTo}
use Rattle.theory.proofs.DueLines.{heading-due, due-fun, due-preds, due-pred, due-clauses, due-clause, due-end}
use Rattle.theory.proofs.SheetLines.{any-kind, key-cut, at_next, count_cut, declared-lines, clauses-next}
use Rattle.theory.proofs.Stopping.{Took, took_more, none_of, or_refuse-line, check-line, on_line, Stops, stops-here, stops-bind, stops_first, stops-after}

key_line-took : (key : List ℕ) (l : ℕ) (t : List ℕ) (r : Cut) → key_line key l t ≡ answer r → Took (key_line key l) t r
key_line-took key l t r e =
    unbind _ _ r e λ (p : Cut) h₁ e₁.
    unbind _ _ r e₁ λ (v : List ℕ) h₂ e₂.
    step p v (or_refuse-some (cut_line t) (at_line 2 l) p h₁) h₂ (answer-inj (v, p.1) r e₂)
  where
    step : (p : Cut) (v : List ℕ) → cut_line t ≡ some p → or_refuse (after_key key p.0) (at_line 2 l) ≡ answer v → (v, p.1) ≡ r → Took (key_line key l) t r
    step p v c k q =
        subst (Took (key_line key l) t) q
        (record {
          taken = p.0 ++ (LF ∷ []);
          whole = append_assoc p.0 (LF ∷ []) p.1 ∙ cut-only t p c;
          again = λ u. bind-step _ _ (p.0, u) (answer (v, u)) (or_refuse-of-some _ (at_line 2 l) (p.0, u) (ap cut_line (append_assoc p.0 (LF ∷ []) u) ∙ cut_line-is p.0 u (cut-in_line t p c))) (bind-step _ _ v (answer (v, u)) k refl);
        })

count_line-took : (key : List ℕ) (limit l : ℕ) (t : List ℕ) (r : ℕ × List ℕ) → count_line key limit l t ≡ answer r → Took (count_line key limit l) t r
unfolding count_line
count_line-took key limit l t r e =
    unbind _ _ r e λ (p : Cut) h₁ e₁.
    unbind _ _ r e₁ λ (n : ℕ) h₂ e₂.
    unbind _ _ r e₂ λ (x : Unit {0}) h₃ e₃.
    step p n x (key_line-took key l t p h₁) h₂ h₃ (answer-inj (n, p.1) r e₃)
  where
    step : (p : Cut) (n : ℕ) (x : Unit {0}) → Took (key_line key l) t p → or_refuse (count_of p.0) (at_line 2 l) ≡ answer n → check (leb n limit) (at_line 3 l) ≡ answer x → (n, p.1) ≡ r
        → Took (count_line key limit l) t r
    step p n x k h₂ h₃ q =
        subst (Took (count_line key limit l) t) q
        (record {
          taken = k.taken;
          whole = k.whole;
          again = λ u. bind-step _ _ (p.0, u) (answer (n, u)) (k.again u) (bind-step _ _ n (answer (n, u)) h₂ (bind-step _ _ x (answer (n, u)) h₃ refl));
        })

symbol_lines-took : (n : ℕ) (key : List ℕ) (k : Kind) (g : Signature) (l : ℕ) (t : List ℕ) (r : Signature × List ℕ) → symbol_lines n key k g l t ≡ answer r → Took (symbol_lines n key k g l) t r
unfolding symbol_lines
symbol_lines-took zero key k g l t r e =
    subst (Took (symbol_lines zero key k g l) t) (answer-inj (g, t) r e) (record { taken = []; whole = refl; again = λ u. refl })
symbol_lines-took (suc n) key k g l t r e =
    unbind _ _ r e λ (p : Cut) h₁ e₁.
    unbind _ _ r e₁ λ (f : Symbol) h₂ e₂.
    unbind _ _ r e₂ λ (x : Unit {0}) h₃ e₃.
    unbind _ _ r e₃ λ (y : Unit {0}) h₄ e₄.
    let a = key_line-took key l t p h₁ in
    let b = symbol_lines-took n key k (g ++ (f ∷ [])) (suc l) p.1 r e₄ in
    record {
      taken = a.taken ++ b.taken;
      whole = took_more a.taken b.taken p.1 r.1 t a.whole b.whole;
      again = λ u.
          ap (symbol_lines (suc n) key k g l) (append_assoc a.taken b.taken u)
          ∙ bind-step _ _ (p.0, b.taken ++ u) (answer (r.0, u)) (a.again (b.taken ++ u))
          (bind-step _ _ f (answer (r.0, u)) h₂ (bind-step _ _ x (answer (r.0, u)) h₃ (bind-step _ _ y (answer (r.0, u)) h₄ (b.again u))));
    }

clause_lines-took : (n : ℕ) (g : Signature) (l : ℕ) (t : List ℕ) (r : (List Clause) × List ℕ) → clause_lines n g l t ≡ answer r → Took (clause_lines n g l) t r
unfolding clause_lines
clause_lines-took zero g l t r e = subst (Took (clause_lines zero g l) t) (answer-inj ([], t) r e) (record { taken = []; whole = refl; again = λ u. refl })
clause_lines-took (suc n) g l t r e =
    unbind _ _ r e λ (p : Cut) h₁ e₁.
    unbind _ _ r e₁ λ (c : Clause) h₂ e₂.
    unbind _ _ r e₂ λ (q : (List Clause) × List ℕ) h₃ e₃.
    step p c q (key_line-took (bytes "clause=") l t p h₁) h₂ (clause_lines-took n g (suc l) p.1 q h₃) (answer-inj (c ∷ q.0, q.1) r e₃)
  where
    step : (p : Cut) (c : Clause) (q : (List Clause) × List ℕ) → Took (key_line (bytes "clause=") l) t p → clause_of g l p.0 ≡ answer c → Took (clause_lines n g (suc l)) p.1 q → (c ∷ q.0, q.1) ≡ r
        → Took (clause_lines (suc n) g l) t r
    step p c q a h b z =
        subst (Took (clause_lines (suc n) g l) t) z
        (record {
          taken = a.taken ++ b.taken;
          whole = took_more a.taken b.taken p.1 q.1 t a.whole b.whole;
          again = λ u.
              ap (clause_lines (suc n) g l) (append_assoc a.taken b.taken u)
              ∙ bind-step _ _ (p.0, b.taken ++ u) (answer (c ∷ q.0, u)) (a.again (b.taken ++ u))
              (bind-step _ _ c (answer (c ∷ q.0, u)) h (bind-step _ _ (q.0, u) (answer (c ∷ q.0, u)) (b.again u) refl));
        })

-- a line that is not as laid out is refused: for its key or LF, or for what follows the key
key-fails : {C : Type 0} (key : List ℕ) (v : ValueForm) (l : ℕ) (u : List ℕ) → is_laid_out (keyed key v) u ≡ false → (key_line key l u ≡ refused (at_line 2 l) → C)
    → ((r : Cut) → key_line key l u ≡ answer r → has_form v r.0 ≡ false → C) → C
unfolding is_laid_out
key-fails {C} key v l u h f k = cut (cut_line u) refl h
  where
    value : (p : Cut) → cut_line u ≡ some p → (o : Option (List ℕ)) → after_key key p.0 ≡ o → value_has_form v o ≡ false → C
    value p c none e z = f (bind-step _ _ p (refused (at_line 2 l)) (or_refuse-of-some (cut_line u) (at_line 2 l) p c) (bind-refused _ _ (at_line 2 l) (or_refuse-of-none (after_key key p.0) (at_line 2 l) e)))
    value p c (some w) e z =
        k (w, p.1)
        (bind-step _ _ p (answer (w, p.1)) (or_refuse-of-some (cut_line u) (at_line 2 l) p c) (bind-step _ _ w (answer (w, p.1)) (or_refuse-of-some (after_key key p.0) (at_line 2 l) w e) refl)) z

    cut : (o : Option Cut) → cut_line u ≡ o → line_has_form key v o ≡ false → C
    cut none c z = f (bind-refused _ _ (at_line 2 l) (or_refuse-of-none (cut_line u) (at_line 2 l) c))
    cut (some p) c z = value p c (after_key key p.0) refl z

count_line-fails : (key : List ℕ) (limit l : ℕ) (u : List ℕ) → is_laid_out (keyed key count_digits) u ≡ false → count_line key limit l u ≡ refused (at_line 2 l)
unfolding count_line has_form
count_line-fails key limit l u h =
    key-fails key count_digits l u h (λ e. bind-refused _ _ (at_line 2 l) e)
    (λ r e z. bind-step _ _ r (refused (at_line 2 l)) e (bind-refused _ _ (at_line 2 l) (or_refuse-of-none (count_of r.0) (at_line 2 l) (none_of (count_of r.0) z))))

symbol_lines-fails : (n : ℕ) (key : List ℕ) (k : Kind) (g : Signature) (l : ℕ) (u : List ℕ) → is_laid_out (keyed key declaration) u ≡ false → symbol_lines (suc n) key k g l u ≡ refused (at_line 2 l)
unfolding symbol_lines has_form
symbol_lines-fails n key k g l u h =
    key-fails key declaration l u h (λ e. bind-refused _ _ (at_line 2 l) e)
    (λ r e z. bind-step _ _ r (refused (at_line 2 l)) e (bind-refused _ _ (at_line 2 l) (or_refuse-of-none (symbol_of k r.0) (at_line 2 l) (none_of (symbol_of k r.0) (sym (any-kind k r.0) ∙ z)))))

clause_lines-fails : (n : ℕ) (g : Signature) (l : ℕ) (u : List ℕ) → is_laid_out (keyed (bytes "clause=") any_words) u ≡ false → clause_lines (suc n) g l u ≡ refused (at_line 2 l)
unfolding clause_lines has_form
clause_lines-fails n g l u h =
    key-fails (bytes "clause=") any_words l u h (λ e. bind-refused _ _ (at_line 2 l) e) (λ r e z. let q : ◌≡◌ {A = ℕ} 0 1 = cc in absurd (omega arith))

key_line-line : (key : List ℕ) (l : ℕ) (t : List ℕ) (r : Refusal) → key_line key l t ≡ refused r → r.place.line ≡ l
key_line-line key l t r e =
    unrefused _ _ r e (λ h. on_line 2 l r (or_refuse-line (cut_line t) (at_line 2 l) r h)) λ (p : Cut) _ e₁.
    unrefused _ _ r e₁ (λ h. on_line 2 l r (or_refuse-line (after_key key p.0) (at_line 2 l) r h)) λ v _ e₂. let z : ◌≡◌ {A = ℕ} 0 1 = cc in absurd (omega arith)

count_line-line : (key : List ℕ) (limit l : ℕ) (t : List ℕ) (r : Refusal) → count_line key limit l t ≡ refused r → r.place.line ≡ l
unfolding count_line
count_line-line key limit l t r e =
    unrefused _ _ r e (λ h. key_line-line key l t r h) λ (p : Cut) _ e₁.
    unrefused _ _ r e₁ (λ h. on_line 2 l r (or_refuse-line (count_of p.0) (at_line 2 l) r h)) λ (n : ℕ) _ e₂.
    unrefused _ _ r e₂ (λ h. on_line 3 l r (check-line (leb n limit) (at_line 3 l) r h)) λ x _ e₃. let z : ◌≡◌ {A = ℕ} 0 1 = cc in absurd (omega arith)

clause_of-line : (g : Signature) (l : ℕ) (v : List ℕ) (r : Refusal) → clause_of g l v ≡ refused r → r.place.line ≡ l
unfolding clause_of
clause_of-line g l v r e =
    unrefused _ _ r e (λ h. on_line 5 l r (or_refuse-line (read_all g (words_of v)) (at_line 5 l) r h)) λ (ws : List Word) _ e₁.
    unrefused _ _ r e₁ (λ h. on_line 6 l r (or_refuse-line (read_clause g ws) (at_line 6 l) r h)) λ (c : Clause) _ e₂.
    unrefused _ _ r e₂ (λ h. on_line 7 l r (check-line (within_limits ws c) (at_line 7 l) r h)) λ x _ e₃. let z : ◌≡◌ {A = ℕ} 0 1 = cc in absurd (omega arith)

-- the reader of sheets from each of its parts on
abbrev sheet_end : ℕ → Signature → (List Clause) × List ℕ → Answer Problem
sheet_end l g cs = do
  _ ← nothing_left l cs.1
  answer (record { symbols = g; clauses = cs.0 })

abbrev sheet_clauses : ℕ → ℕ → Signature → ℕ × List ℕ → Answer Problem
sheet_clauses f p g c = clause_lines c.0 g (5 + f + p) c.1 >>= sheet_end (5 + f + p + c.0) g

abbrev sheet_clause_count : ℕ → ℕ → Signature × List ℕ → Answer Problem
sheet_clause_count f p g = count_line (bytes "clauses=") max_clauses (4 + f + p) g.1 >>= sheet_clauses f p g.0

abbrev sheet_predicates : ℕ → Signature → ℕ × List ℕ → Answer Problem
sheet_predicates f fs p = symbol_lines p.0 (bytes "pred=") predicate fs (4 + f) p.1 >>= sheet_clause_count f p.0

abbrev sheet_predicate_count : ℕ → Signature × List ℕ → Answer Problem
sheet_predicate_count f fs = count_line (bytes "preds=") max_symbols (3 + f) fs.1 >>= sheet_predicates f fs.0

abbrev sheet_functions : ℕ × List ℕ → Answer Problem
sheet_functions f = symbol_lines f.0 (bytes "fun=") function [] 3 f.1 >>= sheet_predicate_count f.0

abbrev sheet_heading : Cut → Answer Problem
sheet_heading a = nothing_left 1 a.0 >>= λ _. (count_line (bytes "funs=") max_symbols 2 a.1 >>= sheet_functions)

abbrev pub sheet_reading : List ℕ → Answer Problem
sheet_reading t = key_line (bytes "sheet=1") 1 t >>= sheet_heading

read_problem-parts : (t : List ℕ) → read_problem t ≡ (check (leb (length t) max_bytes) (unplaced 1) >>= λ _. sheet_reading t)
unfolding read_problem
read_problem-parts t = refl

heading-fails : (u : List ℕ) → is_laid_out (keyed (bytes "sheet=1") no_bytes) u ≡ false → sheet_reading u ≡ refused (at_line 2 1)
unfolding has_form
heading-fails u h =
    key-fails (bytes "sheet=1") no_bytes 1 u h (λ e. bind-refused _ _ (at_line 2 1) e)
    (λ r e z. bind-step _ _ r (refused (at_line 2 1)) e (bind-refused _ _ (at_line 2 1) (check-of-false (same r.0 []) (at_line 2 1) z)))

end-fails : (l : ℕ) (g : Signature) (cs : List Clause) (u : List ℕ) → is_laid_out no_line u ≡ false → sheet_end l g (cs, u) ≡ refused (at_line 2 l)
unfolding is_laid_out
end-fails l g cs u h = bind-refused _ _ (at_line 2 l) (check-of-false (same u []) (at_line 2 l) h)

module _ (text : List ℕ) (n l : ℕ) where
  abbrev R : Refusal
  R = at_line n (suc l)

  symbol_lines-stops : (c : ℕ) (key : List ℕ) (k : Kind) (g : Signature) (i m : ℕ) (t : List ℕ) → i ≡ suc m → ReadUpTo text m t → ((j : ℕ) → j < c → due_in_sheet text (m + j) ≡ keyed key declaration)
      → symbol_lines c key k g i t ≡ refused R → Stops text (due_in_sheet text) 2 l (symbol_lines c key k g i) t
  unfolding symbol_lines
  symbol_lines-stops zero key k g i m t q a d e = let z : ◌≡◌ {A = ℕ} 0 1 = cc in absurd (omega arith)
  symbol_lines-stops (suc c) key k g i m t q a d e =
      let m₀ : m + 0 ≡ m = omega arith in
      let d₀ : due_in_sheet text m ≡ keyed key declaration = ap (due_in_sheet text) (sym m₀) ∙ d 0 (omega arith) in
      let here : suc l ≡ i → Stops text (due_in_sheet text) 2 l (symbol_lines (suc c) key k g i) t = λ h. stops-here text (due_in_sheet text) 2 l (symbol_lines (suc c) key k g i) i m (keyed key declaration) t h q a d₀ (λ u z. symbol_lines-fails c key k g i u z) in
      unrefused _ _ R e (λ h. here (key_line-line key i t R h)) λ (p : Cut) h₁ e₁.
      unrefused _ _ R e₁ (λ h. here (on_line 2 i R (or_refuse-line (symbol_of k p.0) (at_line 2 i) R h))) λ (f : Symbol) h₂ e₂.
      unrefused _ _ R e₂ (λ h. here (on_line 3 i R (check-line (leb f.arity max_arity) (at_line 3 i) R h))) λ (x : Unit {0}) h₃ e₃.
      unrefused _ _ R e₃ (λ h. here (on_line 4 i R (check-line (is_name f.name && not (is_named f.name g)) (at_line 4 i) R h))) λ (y : Unit {0}) h₄ e₄.
      let next : ReadUpTo text (suc m) p.1 = at_next text m key t p.0 p.1 a (key-cut key i t p h₁) in
      let d₊ : (j : ℕ) → j < c → due_in_sheet text (suc m + j) ≡ keyed key declaration =
      λ j h. let r : suc m + j ≡ m + suc j = omega arith in ap (due_in_sheet text) r ∙ d (suc j) (omega arith) in
      stops-bind text (due_in_sheet text) 2 l (key_line key i) _ t p (key_line-took key i t p h₁)
      (stops-after text (due_in_sheet text) 2 l _ f _ p.1 h₂ (stops-after text (due_in_sheet text) 2 l _ x _ p.1 h₃ (stops-after text (due_in_sheet text) 2 l _ y _ p.1 h₄ (symbol_lines-stops c key k (g ++ (f ∷ [])) (suc i) (suc m) p.1 (ap suc q) next d₊ e₄))))

  clause_lines-stops : (c : ℕ) (g : Signature) (i m : ℕ) (t : List ℕ) → i ≡ suc m → ReadUpTo text m t → ((j : ℕ) → j < c → due_in_sheet text (m + j) ≡ keyed (bytes "clause=") any_words)
      → clause_lines c g i t ≡ refused R → Stops text (due_in_sheet text) 2 l (clause_lines c g i) t
  unfolding clause_lines
  clause_lines-stops zero g i m t q a d e = let z : ◌≡◌ {A = ℕ} 0 1 = cc in absurd (omega arith)
  clause_lines-stops (suc c) g i m t q a d e =
      let m₀ : m + 0 ≡ m = omega arith in
      let d₀ : due_in_sheet text m ≡ keyed (bytes "clause=") any_words = ap (due_in_sheet text) (sym m₀) ∙ d 0 (omega arith) in
      let here : suc l ≡ i → Stops text (due_in_sheet text) 2 l (clause_lines (suc c) g i) t = λ h. stops-here text (due_in_sheet text) 2 l (clause_lines (suc c) g i) i m (keyed (bytes "clause=") any_words) t h q a d₀ (λ u z. clause_lines-fails c g i u z) in
      unrefused _ _ R e (λ h. here (key_line-line (bytes "clause=") i t R h)) λ (p : Cut) h₁ e₁.
      unrefused _ _ R e₁ (λ h. here (clause_of-line g i p.0 R h)) λ (x : Clause) h₂ e₂.
      let next : ReadUpTo text (suc m) p.1 = at_next text m (bytes "clause=") t p.0 p.1 a (key-cut (bytes "clause=") i t p h₁) in
      let d₊ : (j : ℕ) → j < c → due_in_sheet text (suc m + j) ≡ keyed (bytes "clause=") any_words =
      λ j h. let r : suc m + j ≡ m + suc j = omega arith in ap (due_in_sheet text) r ∙ d (suc j) (omega arith) in
      stops-bind text (due_in_sheet text) 2 l (key_line (bytes "clause=") i) _ t p (key_line-took (bytes "clause=") i t p h₁)
      (stops-after text (due_in_sheet text) 2 l _ x _ p.1 h₂
      (unrefused _ _ R e₂ (λ h. stops_first text (due_in_sheet text) 2 l (clause_lines c g (suc i)) _ p.1 (clause_lines-stops c g (suc i) (suc m) p.1 (ap suc q) next d₊ h))
      (λ r _ e₃. let z : ◌≡◌ {A = ℕ} 0 1 = cc in absurd (omega arith))))

  -- a sheet that is refused on line l stops there
  sheet-stops : sheet_reading text ≡ refused R → Stops text (due_in_sheet text) 2 l sheet_reading text
  sheet-stops e =
      let start : ReadUpTo text 0 text = record { cuts = tt; here = refl } in
      let first : suc l ≡ 1 → Stops text (due_in_sheet text) 2 l sheet_reading text = λ h. stops-here text (due_in_sheet text) 2 l sheet_reading 1 0 (keyed (bytes "sheet=1") no_bytes) text h refl start (heading-due text).0 heading-fails in
      unrefused (key_line (bytes "sheet=1") 1 text) sheet_heading R e (λ h. first (key_line-line (bytes "sheet=1") 1 text R h)) λ (a : Cut) ha e₁.
      unrefused (nothing_left 1 a.0) _ R e₁ (λ h. first (on_line 2 1 R (check-line (same a.0 []) (at_line 2 1) R h))) λ (x : Unit {0}) hx e₂.
      let a₁ : ReadUpTo text 1 a.1 = at_next text 0 (bytes "sheet=1") text a.0 a.1 start (key-cut (bytes "sheet=1") 1 text a ha) in
      stops-bind text (due_in_sheet text) 2 l (key_line (bytes "sheet=1") 1) sheet_heading text a (key_line-took (bytes "sheet=1") 1 text a ha)
      (stops-after text (due_in_sheet text) 2 l (nothing_left 1 a.0) x (λ _ u. count_line (bytes "funs=") max_symbols 2 u >>= sheet_functions) a.1 hx
      (unrefused (count_line (bytes "funs=") max_symbols 2 a.1) sheet_functions R e₂
      (λ h. stops_first text (due_in_sheet text) 2 l (count_line (bytes "funs=") max_symbols 2) sheet_functions a.1
      (stops-here text (due_in_sheet text) 2 l (count_line (bytes "funs=") max_symbols 2) 2 1 (keyed (bytes "funs=") count_digits) a.1 (count_line-line (bytes "funs=") max_symbols 2 a.1 R h) refl a₁ (heading-due text).1
      (count_line-fails (bytes "funs=") max_symbols 2)))
      λ (f : ℕ × List ℕ) hf e₃.
      let cf = count_cut text (bytes "funs=") max_symbols 2 1 a.1 f a₁ hf in
      let F : functions_said text ≡ f.0 = cf.counted in
      stops-bind text (due_in_sheet text) 2 l (count_line (bytes "funs=") max_symbols 2) sheet_functions a.1 f (count_line-took (bytes "funs=") max_symbols 2 a.1 f hf)
      (unrefused (symbol_lines f.0 (bytes "fun=") function [] 3 f.1) (sheet_predicate_count f.0) R e₃
      (λ h. stops_first text (due_in_sheet text) 2 l (symbol_lines f.0 (bytes "fun=") function [] 3) (sheet_predicate_count f.0) f.1
      (symbol_lines-stops f.0 (bytes "fun=") function [] 3 2 f.1 refl cf.next (λ i k. due-fun text f.0 F i (2 + i) k (omega arith)) h))
      λ (fs : Signature × List ℕ) hfs e₄.
      let df = declared-lines text f.0 (bytes "fun=") function [] 3 2 f.1 fs cf.next hfs in
      let l₁ : 3 + f.0 ≡ suc (2 + f.0) = omega arith in
      stops-bind text (due_in_sheet text) 2 l (symbol_lines f.0 (bytes "fun=") function [] 3) (sheet_predicate_count f.0) f.1 fs (symbol_lines-took f.0 (bytes "fun=") function [] 3 f.1 fs hfs)
      (unrefused (count_line (bytes "preds=") max_symbols (3 + f.0) fs.1) (sheet_predicates f.0 fs.0) R e₄
      (λ h. stops_first text (due_in_sheet text) 2 l (count_line (bytes "preds=") max_symbols (3 + f.0)) (sheet_predicates f.0 fs.0) fs.1
      (stops-here text (due_in_sheet text) 2 l (count_line (bytes "preds=") max_symbols (3 + f.0)) (3 + f.0) (2 + f.0) (keyed (bytes "preds=") count_digits) fs.1
      (count_line-line (bytes "preds=") max_symbols (3 + f.0) fs.1 R h) l₁ df.next (due-preds text f.0 F (2 + f.0) (omega arith)) (count_line-fails (bytes "preds=") max_symbols (3 + f.0))))
      λ (p : ℕ × List ℕ) hp e₅.
      let cp = count_cut text (bytes "preds=") max_symbols (3 + f.0) (2 + f.0) fs.1 p df.next hp in
      let P : predicates_said text ≡ p.0 = ap (λ (i : ℕ). count_on (bytes "preds=") (2 + i) text) F ∙ cp.counted in
      let m₂ : ℕ = suc (2 + f.0) in
      let l₂ : 4 + f.0 ≡ suc m₂ = omega arith in
      stops-bind text (due_in_sheet text) 2 l (count_line (bytes "preds=") max_symbols (3 + f.0)) (sheet_predicates f.0 fs.0) fs.1 p (count_line-took (bytes "preds=") max_symbols (3 + f.0) fs.1 p hp)
      (unrefused (symbol_lines p.0 (bytes "pred=") predicate fs.0 (4 + f.0) p.1) (sheet_clause_count f.0 p.0) R e₅
      (λ h. stops_first text (due_in_sheet text) 2 l (symbol_lines p.0 (bytes "pred=") predicate fs.0 (4 + f.0)) (sheet_clause_count f.0 p.0) p.1
      (symbol_lines-stops p.0 (bytes "pred=") predicate fs.0 (4 + f.0) m₂ p.1 l₂ cp.next (λ i k. due-pred text f.0 F p.0 P i (m₂ + i) k (omega arith)) h))
      λ (g : Signature × List ℕ) hg e₆.
      let dg = declared-lines text p.0 (bytes "pred=") predicate fs.0 (4 + f.0) m₂ p.1 g cp.next hg in
      let l₃ : 4 + f.0 + p.0 ≡ suc (m₂ + p.0) = omega arith in
      stops-bind text (due_in_sheet text) 2 l (symbol_lines p.0 (bytes "pred=") predicate fs.0 (4 + f.0)) (sheet_clause_count f.0 p.0) p.1 g
      (symbol_lines-took p.0 (bytes "pred=") predicate fs.0 (4 + f.0) p.1 g hg)
      (unrefused (count_line (bytes "clauses=") max_clauses (4 + f.0 + p.0) g.1) (sheet_clauses f.0 p.0 g.0) R e₆
      (λ h. stops_first text (due_in_sheet text) 2 l (count_line (bytes "clauses=") max_clauses (4 + f.0 + p.0)) (sheet_clauses f.0 p.0 g.0) g.1
      (stops-here text (due_in_sheet text) 2 l (count_line (bytes "clauses=") max_clauses (4 + f.0 + p.0)) (4 + f.0 + p.0) (m₂ + p.0) (keyed (bytes "clauses=") count_digits) g.1
      (count_line-line (bytes "clauses=") max_clauses (4 + f.0 + p.0) g.1 R h) l₃ dg.next (due-clauses text f.0 F p.0 P (m₂ + p.0) (omega arith))
      (count_line-fails (bytes "clauses=") max_clauses (4 + f.0 + p.0))))
      λ (c : ℕ × List ℕ) hc e₇.
      let cn = count_cut text (bytes "clauses=") max_clauses (4 + f.0 + p.0) (m₂ + p.0) g.1 c dg.next hc in
      let m₃ : 3 + f.0 + p.0 ≡ m₂ + p.0 = omega arith in
      let C : clauses_said text ≡ c.0 =
      ap (λ (i : ℕ). count_on (bytes "clauses=") (3 + i + predicates_said text) text) F
      ∙ ap (λ (i : ℕ). count_on (bytes "clauses=") (3 + f.0 + i) text) P
      ∙ ap (λ (i : ℕ). count_on (bytes "clauses=") i text) m₃
      ∙ cn.counted in
      let m₄ : ℕ = suc (m₂ + p.0) in
      let l₄ : 5 + f.0 + p.0 ≡ suc m₄ = omega arith in
      let l₅ : 5 + f.0 + p.0 + c.0 ≡ suc (m₄ + c.0) = omega arith in
      stops-bind text (due_in_sheet text) 2 l (count_line (bytes "clauses=") max_clauses (4 + f.0 + p.0)) (sheet_clauses f.0 p.0 g.0) g.1 c (count_line-took (bytes "clauses=") max_clauses (4 + f.0 + p.0) g.1 c hc)
      (unrefused (clause_lines c.0 g.0 (5 + f.0 + p.0) c.1) (sheet_end (5 + f.0 + p.0 + c.0) g.0) R e₇
      (λ h. stops_first text (due_in_sheet text) 2 l (clause_lines c.0 g.0 (5 + f.0 + p.0)) (sheet_end (5 + f.0 + p.0 + c.0) g.0) c.1
      (clause_lines-stops c.0 g.0 (5 + f.0 + p.0) m₄ c.1 l₄ cn.next (λ i k. due-clause text f.0 F p.0 P c.0 C i (m₄ + i) k (omega arith)) h))
      λ (cs : (List Clause) × List ℕ) hcs e₈.
      stops-bind text (due_in_sheet text) 2 l (clause_lines c.0 g.0 (5 + f.0 + p.0)) (sheet_end (5 + f.0 + p.0 + c.0) g.0) c.1 cs (clause_lines-took c.0 g.0 (5 + f.0 + p.0) c.1 cs hcs)
      (unrefused (nothing_left (5 + f.0 + p.0 + c.0) cs.1) _ R e₈
      (λ h. stops-here text (due_in_sheet text) 2 l (λ u. sheet_end (5 + f.0 + p.0 + c.0) g.0 (cs.0, u)) (5 + f.0 + p.0 + c.0) (m₄ + c.0) no_line cs.1
      (on_line 2 (5 + f.0 + p.0 + c.0) R (check-line (same cs.1 []) (at_line 2 (5 + f.0 + p.0 + c.0)) R h)) l₅
      (clauses-next text c.0 g.0 (5 + f.0 + p.0) m₄ c.1 cs cn.next hcs) (due-end text f.0 F p.0 P c.0 C (m₄ + c.0) (omega arith))
      (λ u z. end-fails (5 + f.0 + p.0 + c.0) g.0 cs.0 u z))
      (λ y _ e₉. let z : ◌≡◌ {A = ℕ} 0 1 = cc in absurd (omega arith))))))))))

  -- the same of the whole reader, within the limit of bytes
  pub sheet-again : read_problem text ≡ refused R → Stops text (due_in_sheet text) 2 l sheet_reading text
  sheet-again e =
      unrefused (check (leb (length text) max_bytes) (unplaced 1)) (λ _. sheet_reading text) R (sym (read_problem-parts text) ∙ e)
      (λ h. let q : 0 ≡ suc l = ap (λ (r : Refusal). r.place.line) (check-line (leb (length text) max_bytes) (unplaced 1) R h) in absurd (omega arith))
      (λ x _ h. sheet-stops h)

pub problem-read : (t : List ℕ) (r : Answer Problem) → length t ≤ max_bytes → sheet_reading t ≡ r → read_problem t ≡ r
problem-read t r h e = read_problem-parts t ∙ bind-step _ _ tt r (check-of-true (leb (length t) max_bytes) (unplaced 1) (leb-of-≤ (length t) max_bytes h)) e
