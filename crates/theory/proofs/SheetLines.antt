-- Lines of a sheet that were read: how far reading has come, the counts and the symbols that they say.
use Prim.Native.Nat.{ℕ, zero, suc, ◌+◌, ◌-◌}
use mathlib.Core.Path.{◌≡◌, refl, sym, ap, ◌∙◌, subst}
use mathlib.Core.Bool.{Bool, true, false, cond, ◌&&◌}
use mathlib.Core.Option.{Option, none, some}
use mathlib.Core.List.{List, [], ◌∷◌, ◌++◌, map, append_assoc, append-nil}
use native.Mathlib.Omega.{arith}
use lib.Dec.{eqb, leb}
use lib.ListN.{length, get_or, take, drop}
use lib.Seq.{drop_at}
use Rattle.theory.specs.Lists.{or_zero}
use Rattle.theory.specs.Bytes.{bytes, zero_digit, is_digit}
use Rattle.theory.specs.Syntax.{Kind, function, predicate, declared, Symbol, Signature, Clause}
use Rattle.theory.specs.Refusals.{answer, at_line}
use Rattle.theory.specs.Lines.{Cut, cut_line, after_key, count_of}
use Rattle.theory.specs.Problem.{key_line, count_line, symbol_of, symbol_lines, clause_lines}
use Rattle.theory.specs.LineForms.{ValueForm, keyed, is_some, has_form, value_has_form, line_has_form, is_laid_out}
use Rattle.theory.specs.DueLines.{cut_or, rest_or, first_line, from_line, first_lines, count_on, functions_said, predicates_said, or_no_symbol, symbol_on, sheet_symbols}
use Rattle.theory.proofs.Answers.{unbind, answer-inj, or_refuse-some}
use Rattle.theory.proofs.Lines.{key-only}
use Rattle.theory.proofs.LinesBefore.{ReadUpTo, at_cut}

-- whether a line declares a symbol does not depend on the kind
pub any-kind : (k : Kind) (v : List ℕ) → is_some (symbol_of function v) ≡ is_some (symbol_of k v)
any-kind k v =
    let n : ℕ = length v - 2 in
    let d : ℕ = get_or v (suc n) 0 in
    go (leb 2 (length v) && eqb (get_or v n 0) 47 && is_digit d) (record { kind = function; name = take n v; arity = d - zero_digit; origin = declared }) (record { kind = k; name = take n v; arity = d - zero_digit; origin = declared })
  where
    go : (b : Bool) (f g : Symbol) → is_some (cond b (some f) none) ≡ is_some (cond b (some g) none)
    go true f g = refl
    go false f g = refl

-- a text's line, and the text behind what follows its key
pub record KeyCut (key t v rest : List ℕ) : Type 0 where
  pub cut : Cut
  pub cuts : cut_line t ≡ some cut
  pub value : after_key key cut.0 ≡ some v
  pub behind : cut.1 ≡ rest
  -- the line is the key and what follows it
  pub whole : key ++ v ≡ first_line t
  pub dropped : drop (length key) (first_line t) ≡ v

pub key-cut : (key : List ℕ) (l : ℕ) (t : List ℕ) (r : Cut) → key_line key l t ≡ answer r → KeyCut key t r.0 r.1
key-cut key l t r e =
    unbind _ _ r e λ (p : Cut) h₁ e₁.
    unbind _ _ r e₁ λ (v : List ℕ) h₂ e₂.
    step p v (or_refuse-some (cut_line t) (at_line 2 l) p h₁) (or_refuse-some (after_key key p.0) (at_line 2 l) v h₂) (answer-inj (v, p.1) r e₂)
  where
    step : (p : Cut) (v : List ℕ) → cut_line t ≡ some p → after_key key p.0 ≡ some v → (v, p.1) ≡ r → KeyCut key t r.0 r.1
    step p v c a q =
        subst (λ (r : Cut). KeyCut key t r.0 r.1) q
        (record {
          cut = p;
          cuts = c;
          value = a;
          behind = refl;
          whole = key-only key p.0 v a ∙ sym (ap (cut_or t) c);
          dropped = ap (λ (o : Option Cut). drop (length key) (cut_or t o)) c ∙ ap (drop (length key)) (sym (key-only key p.0 v a)) ∙ drop_at key v (length key) refl;
        })

-- whether a line with its key is as laid out
pub key-form : (key t v rest : List ℕ) (x : ValueForm) → KeyCut key t v rest → is_laid_out (keyed key x) t ≡ has_form x v
unfolding is_laid_out
key-form key t v rest x k = ap (line_has_form key x) k.cuts ∙ ap (value_has_form x) k.value

module _ (text : List ℕ) where
  pub at_next : (l : ℕ) (key t v rest : List ℕ) → ReadUpTo text l t → KeyCut key t v rest → ReadUpTo text (suc l) rest
  at_next l key t v rest a k = subst (ReadUpTo text (suc l)) k.behind (at_cut text l t k.cut a k.cuts)

  -- a count that is read
  pub record CountCut (key : List ℕ) (m : ℕ) (r : ℕ × List ℕ) : Type 0 where
    pub counted : count_on key m text ≡ r.0
    pub next : ReadUpTo text (suc m) r.1

  pub count_cut : (key : List ℕ) (limit l m : ℕ) (t : List ℕ) (r : ℕ × List ℕ) → ReadUpTo text m t → count_line key limit l t ≡ answer r → CountCut key m r
  unfolding count_line count_on
  count_cut key limit l m t r a e =
      unbind _ _ r e λ (p : Cut) h₁ e₁.
      unbind _ _ r e₁ λ (n : ℕ) h₂ e₂.
      unbind _ _ r e₂ λ (u : Unit {0}) _ e₃.
      step p n (key-cut key l t p h₁) (or_refuse-some (count_of p.0) (at_line 2 l) n h₂) (answer-inj (n, p.1) r e₃)
    where
      step : (p : Cut) (n : ℕ) → KeyCut key t p.0 p.1 → count_of p.0 ≡ some n → (n, p.1) ≡ r → CountCut key m r
      step p n k c q =
          subst (CountCut key m) q
          (record {
            counted = ap (λ (t : List ℕ). or_zero (count_of (drop (length key) (first_line t)))) a.here ∙ ap (λ (v : List ℕ). or_zero (count_of v)) k.dropped ∙ ap or_zero c;
            next = at_next m key t p.0 p.1 a k;
          })

  -- n lines of symbols that are read: they are added to those before
  pub record LinesDeclared (n : ℕ) (key : List ℕ) (k : Kind) (g : Signature) (m : ℕ) (t : List ℕ) (r : Signature × List ℕ) : Type 0 where
    pub added : r.0 ≡ g ++ map (symbol_on k key) (first_lines n t)
    pub next : ReadUpTo text (m + n) r.1

  pub declared-lines : (n : ℕ) (key : List ℕ) (k : Kind) (g : Signature) (l m : ℕ) (t : List ℕ) (r : Signature × List ℕ) → ReadUpTo text m t → symbol_lines n key k g l t ≡ answer r → LinesDeclared n key k g m t r
  unfolding symbol_lines
  declared-lines zero key k g l m t r a e =
      let m₀ : m ≡ m + 0 = omega arith in
      subst (LinesDeclared 0 key k g m t) (answer-inj (g, t) r e) (record { added = sym (append-nil g); next = subst (λ (i : ℕ). ReadUpTo text i t) m₀ a })
  declared-lines (suc n) key k g l m t r a e =
      unbind _ _ r e λ (p : Cut) h₁ e₁.
      unbind _ _ r e₁ λ (f : Symbol) h₂ e₂.
      unbind _ _ r e₂ λ (u₁ : Unit {0}) _ e₃.
      unbind _ _ r e₃ λ (u₂ : Unit {0}) _ e₄.
      let y = key-cut key l t p h₁ in
      step p f y (or_refuse-some (symbol_of k p.0) (at_line 2 l) f h₂) (declared-lines n key k (g ++ (f ∷ [])) (suc l) (suc m) p.1 r (at_next m key t p.0 p.1 a y) e₄)
    where
      step : (p : Cut) (f : Symbol) → KeyCut key t p.0 p.1 → symbol_of k p.0 ≡ some f → LinesDeclared n key k (g ++ (f ∷ [])) (suc m) p.1 r → LinesDeclared (suc n) key k g m t r
      step p f y s ih =
          let here : symbol_on k key (first_line t) ≡ f = ap (λ (v : List ℕ). or_no_symbol (symbol_of k v)) y.dropped ∙ ap or_no_symbol s in
          let rest : rest_or (cut_line t) ≡ p.1 = ap rest_or y.cuts ∙ y.behind in
          let m₊ : suc m + n ≡ m + suc n = omega arith in
          record {
            added =
                ih.added
                ∙ append_assoc g (f ∷ []) (map (symbol_on k key) (first_lines n p.1))
                ∙ ap (λ (h : Symbol). g ++ (h ∷ map (symbol_on k key) (first_lines n p.1))) (sym here)
                ∙ ap (λ (u : List ℕ). g ++ (symbol_on k key (first_line t) ∷ map (symbol_on k key) (first_lines n u))) (sym rest);
            next = subst (λ (i : ℕ). ReadUpTo text i r.1) m₊ ih.next;
          }

  pub clauses-next : (n : ℕ) (g : Signature) (l m : ℕ) (t : List ℕ) (r : (List Clause) × List ℕ) → ReadUpTo text m t → clause_lines n g l t ≡ answer r → ReadUpTo text (m + n) r.1
  unfolding clause_lines
  clauses-next zero g l m t r a e =
      let m₀ : m ≡ m + 0 = omega arith in
      subst (λ (r : (List Clause) × List ℕ). ReadUpTo text (m + 0) r.1) (answer-inj ([], t) r e) (subst (λ (i : ℕ). ReadUpTo text i t) m₀ a)
  clauses-next (suc n) g l m t r a e =
      unbind _ _ r e λ (p : Cut) h₁ e₁.
      unbind _ _ r e₁ λ (c : Clause) _ e₂.
      unbind _ _ r e₂ λ (cs : (List Clause) × List ℕ) h₃ e₃.
      let next : ReadUpTo text (suc m + n) cs.1 = clauses-next n g (suc l) (suc m) p.1 cs (at_next m (bytes "clause=") t p.0 p.1 a (key-cut (bytes "clause=") l t p h₁)) h₃ in
      let m₊ : suc m + n ≡ m + suc n = omega arith in
      subst (λ (r : (List Clause) × List ℕ). ReadUpTo text (m + suc n) r.1) (answer-inj (c ∷ cs.0, cs.1) r e₃) (subst (λ (i : ℕ). ReadUpTo text i cs.1) m₊ next)

  -- the symbols that were read are those that the sheet declares
  pub declared-read : (f p : ℕ) (ft pt : List ℕ) (fs g : Signature × List ℕ) → functions_said text ≡ f → predicates_said text ≡ p → ReadUpTo text 2 ft → ReadUpTo text (suc (2 + f)) pt
      → LinesDeclared f (bytes "fun=") function [] 2 ft fs → LinesDeclared p (bytes "pred=") predicate fs.0 (suc (2 + f)) pt g → g.0 ≡ sheet_symbols text
  unfolding sheet_symbols
  declared-read f p ft pt fs g F P af ap' df dp =
      let three : 3 + f ≡ suc (2 + f) = omega arith in
      let predicates' : map (symbol_on predicate (bytes "pred=")) (first_lines p pt) ≡ map (symbol_on predicate (bytes "pred=")) (first_lines (predicates_said text) (from_line (3 + functions_said text) text)) =
      ap (λ (t : List ℕ). map (symbol_on predicate (bytes "pred=")) (first_lines p t)) (sym ap'.here)
      ∙ ap (λ (i : ℕ). map (symbol_on predicate (bytes "pred=")) (first_lines p (from_line i text))) (sym three)
      ∙ ap (λ (i : ℕ). map (symbol_on predicate (bytes "pred=")) (first_lines p (from_line (3 + i) text))) (sym F)
      ∙ ap (λ (n : ℕ). map (symbol_on predicate (bytes "pred=")) (first_lines n (from_line (3 + functions_said text) text))) (sym P) in
      dp.added
      ∙ ap (λ (s : Signature). s ++ map (symbol_on predicate (bytes "pred=")) (first_lines p pt)) df.added
      ∙ ap (λ (t : List ℕ). map (symbol_on function (bytes "fun=")) (first_lines f t) ++ map (symbol_on predicate (bytes "pred=")) (first_lines p pt)) (sym af.here)
      ∙ ap (λ (n : ℕ). map (symbol_on function (bytes "fun=")) (first_lines n (from_line 2 text)) ++ map (symbol_on predicate (bytes "pred=")) (first_lines p pt)) (sym F)
      ∙ ap (λ (s : Signature). map (symbol_on function (bytes "fun=")) (first_lines (functions_said text) (from_line 2 text)) ++ s) predicates'
