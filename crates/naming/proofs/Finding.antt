-- Finding: helper cells come last in cell order, so the least model of the mode shows the least model of the sheet.
use Prim.Native.Nat.{ℕ, zero, suc, ◌-◌, ◌≤◌, ◌<◌}
use mathlib.Core.Path.{◌≡◌, refl, sym, ap, ◌∙◌, subst}
use mathlib.Core.Logic.{◌⊎◌, inl, inr}
use mathlib.Core.Bool.{Bool, true, ◌&&◌}
use mathlib.Core.Option.{Option, none, some}
use mathlib.Core.List.{List, [], ◌∷◌}
use native.Mathlib.Nat.{suc_inj}
use native.Mathlib.Omega.{arith}
use lib.Dec.{leb}
use lib.ListN.{length, take}
use Rattle.theory.specs.Lists.{elem, up_from}
use Rattle.theory.specs.Syntax.{Kind, Signature}
use Rattle.theory.specs.Cells.{cell_count, cell_kinds, value_count, is_interpretation, is_model}
use Rattle.theory.specs.Refusals.{answer, unplaced}
use Rattle.theory.specs.Problem.{Problem, read_problem}
use Rattle.theory.specs.CaseText.{Case, case_text}
use Rattle.theory.specs.Least.{or_else, first_of, first_list, candidates, least_model, with_size, smallest_model, settled}
use Rattle.theory.specs.Operations.{Search, found, nothing, search_of, find_result}
use Rattle.theory.specs.Claims.Least.{NotAfter, ModelCells}
use Rattle.theory.proofs.Tests.{both_false, leb-true, and_left, and_right, and-join}
use Rattle.theory.proofs.Lists.{elem-here, elem-there, elem-up_from}
use Rattle.theory.proofs.Answers.{unbind, answer-inj, check-true}
use Rattle.theory.proofs.First.{In, Ordered, first_cong, none_first, first_some, first-least}
use Rattle.theory.proofs.Least.{values, in_range-in, in-in_range}
use Rattle.theory.proofs.Walk.{walk}
use Rattle.theory.proofs.FindsLeast.{Searched, searched}
use Rattle.theory.proofs.PlacedReading.{problem-read}
use Rattle.theory.proofs.Interpretations.{length-interpretation}
use Rattle.naming.specs.NamedProblem.{in_mode, shown_symbols, shown_values}
use Rattle.naming.specs.NamedReading.{read_named}
use Rattle.naming.specs.NamedOperations.{named_search_of, named_find_result}
use Rattle.naming.specs.Claims.Naming.{extended, Sheet, Naming}
use Rattle.naming.specs.Claims.Finding.{shown_found, FindingHolds, SameAnswers}
use Rattle.naming.proofs.Naming.{naming}
use Rattle.naming.proofs.Settled.{same-mark}
use Rattle.naming.proofs.Limits.{and-true}
use Rattle.naming.proofs.Reading.{reading, read_named-taken, taken-sheet, named-read}

-- two lists of one length, neither before the other, are equal
not_after-both : (u v : List ℕ) → length u ≡ length v → NotAfter u v → NotAfter v u → u ≡ v
not_after-both [] [] e h k = refl
not_after-both [] (c ∷ v) e h k = absurd k
not_after-both (d ∷ u) [] e h k = absurd h
not_after-both (d ∷ u) (c ∷ v) e h k = go h k (λ a b. not_after-both u v (suc_inj e) a b)
  where
    go : (d < c) ⊎ ((d ≡ c) × NotAfter u v) → (c < d) ⊎ ((c ≡ d) × NotAfter v u) → (NotAfter u v → NotAfter v u → u ≡ v) → d ∷ u ≡ c ∷ v
    go (inl a) (inl b) ih = absurd (omega arith)
    go (inl a) (inr b) ih = let z : c ≡ d = b.0 in absurd (omega arith)
    go (inr a) (inl b) ih = let z : d ≡ c = a.0 in absurd (omega arith)
    go (inr a) (inr b) ih = let z : d ≡ c = a.0 in let w : u ≡ v = ih a.1 b.1 in cc

-- the order of two lists holds of their first parts
not_after-take : (n : ℕ) (u v : List ℕ) → NotAfter u v → NotAfter (take n u) (take n v)
not_after-take zero u v h = tt
not_after-take (suc n) [] v h = tt
not_after-take (suc n) (d ∷ u) [] h = absurd h
not_after-take (suc n) (d ∷ u) (c ∷ v) h = go h (λ k. not_after-take n u v k)
  where
    go : (d < c) ⊎ ((d ≡ c) × NotAfter u v) → (NotAfter u v → NotAfter (take n u) (take n v)) → (d < c) ⊎ ((d ≡ c) × NotAfter (take n u) (take n v))
    go (inl a) ih = inl a
    go (inr a) ih = inr (a.0, ih a.1)

-- the case that the mode shows
abbrev pub shown_case : Signature → Option Case → Option Case
shown_case g none = none
shown_case g (some k) = some (record { size = k.size; values = shown_values k.size g k.values })

shown_case-or_else : (g : Signature) (a b : Option Case) → shown_case g (or_else a b) ≡ or_else (shown_case g a) (shown_case g b)
shown_case-or_else g none b = refl
shown_case-or_else g (some k) b = refl

pub shown_case-sized : (g : Signature) (s : ℕ) (o : Option (List ℕ)) → shown_case g (with_size s o) ≡ with_size s (shown_found s g o)
shown_case-sized g s none = refl
shown_case-sized g s (some ws) = refl

pub shown_case-first : (g : Signature) (f h : ℕ → Option Case) (ds : List ℕ) → ((d : ℕ) → elem d ds ≡ true → shown_case g (f d) ≡ h d) → shown_case g (first_of f ds) ≡ first_of h ds
shown_case-first g f h [] e = refl
shown_case-first g f h (d ∷ ds) e =
    let a : shown_case g (f d) ≡ h d = e d (elem-here d ds) in
    let b : shown_case g (first_of f ds) ≡ first_of h ds = shown_case-first g f h ds (λ c k. e c (elem-there c d ds k)) in
    shown_case-or_else g (f d) (first_of f ds) ∙ ap (λ (o : Option Case). or_else o (shown_case g (first_of f ds))) a ∙ ap (λ (o : Option Case). or_else (h d) o) b

-- what is shown of a search of q is a search of p, where q shows p's symbols and has p's mark
pub shown-search : (p q : Problem) (low high : ℕ) → shown_symbols q.symbols ≡ p.symbols → settled q low high ≡ settled p low high → (o : Option Case)
    → named_search_of q low high o ≡ search_of p low high (shown_case q.symbols o)
shown-search p q low high e m none = ap nothing m
shown-search p q low high e m (some k) = ap (λ (g : Signature). found k.size (case_text k.size g (shown_values k.size q.symbols k.values))) e

-- the least model of size s that obeys a further test
abbrev pub least_obeying : ℕ → Problem → (List ℕ → Bool) → Option (List ℕ)
least_obeying s p obeys = first_list (candidates s p.symbols) (λ vs. is_model s p.symbols p.clauses vs && obeys vs)

-- each cell's values are 0, 1, .. in order
ordered : (s : ℕ) (ks : List Kind) → Ordered (values s ks)
ordered s [] = tt
ordered s (k ∷ ks) = ((value_count s k, refl), ordered s ks)

module _ (p : Problem) (sheet : Sheet p) where
  -- the mode's problem, and its symbols
  abbrev q : Problem
  q = in_mode p

  abbrev g⁺ : Signature
  g⁺ = (in_mode p).symbols

  module _ (s : ℕ) (pos : zero < s) (obeys : List ℕ → Bool) where
    -- a model that passes a further test
    abbrev test : Problem → (List ℕ → Bool) → List ℕ → Bool
    test r f vs = is_model s r.symbols r.clauses vs && f vs

    -- what is shown obeys
    abbrev shown_obeys : List ℕ → Bool
    shown_obeys ws = obeys (shown_values s g⁺ ws)

    t : Naming p s
    t = naming p s pos sheet

    -- a list that passes the test is in range exactly if it is a model that obeys
    to-model : (r : Problem) (f : List ℕ → Bool) (v : List ℕ) → In v (candidates s r.symbols) → test r f v ≡ true → ModelCells r s v × (f v ≡ true)
    unfolding is_interpretation
    to-model r f v i h =
        let a : Bool = is_model s r.symbols r.clauses v in
        (record { interpretation = in-in_range s (cell_kinds s r.symbols) v i; model = and_left a (f v) h }, and_right a (f v) h)

    of-model : (r : Problem) (f : List ℕ → Bool) (v : List ℕ) → ModelCells r s v → f v ≡ true → In v (candidates s r.symbols) × (test r f v ≡ true)
    unfolding is_interpretation
    of-model r f v m h = (in_range-in s (cell_kinds s r.symbols) v m.interpretation, and-join (is_model s r.symbols r.clauses v) (f v) m.model h)

    -- extended, and as shown
    up : (v : List ℕ) → In v (candidates s p.symbols) → test p obeys v ≡ true → In (extended s p v) (candidates s (g⁺)) × (test q shown_obeys (extended s p v) ≡ true)
    up v i h =
        let m = to-model p obeys v i h in
        let x = t.extends v m.0 in
        of-model q shown_obeys (extended s p v) x.0 (ap obeys x.1 ∙ m.1)

    down : (w : List ℕ) → In w (candidates s (g⁺)) → test q shown_obeys w ≡ true → In (shown_values s g⁺ w) (candidates s p.symbols) × (test p obeys (shown_values s g⁺ w) ≡ true)
    down w i h =
        let m = to-model q shown_obeys w i h in
        of-model p obeys (shown_values s g⁺ w) (t.restricts w m.0).0 m.1

    -- the least model of the mode that obeys a test of what a case shows, shows the least model of the sheet that obeys it
    pub obeying-shown : shown_found s g⁺ (least_obeying s q shown_obeys) ≡ least_obeying s p obeys
    obeying-shown = go (least_obeying s q shown_obeys) refl (least_obeying s p obeys) refl
      where
        dss⁺ : List (List ℕ)
        dss⁺ = candidates s (g⁺)

        dss : List (List ℕ)
        dss = candidates s p.symbols

        go : (o⁺ : Option (List ℕ)) → least_obeying s q shown_obeys ≡ o⁺ → (o : Option (List ℕ)) → least_obeying s p obeys ≡ o → shown_found s g⁺ o⁺ ≡ o
        go none e⁺ none e = refl
        go none e⁺ (some v) e =
            let r = first_some dss (test p obeys) v e in
            let x = up v r.0 r.1 in
            absurd (both_false x.1 (none_first dss⁺ (test q shown_obeys) e⁺ (extended s p v) x.0))
        go (some w) e⁺ none e =
            let r = first_some dss⁺ (test q shown_obeys) w e⁺ in
            let x = down w r.0 r.1 in
            absurd (both_false x.1 (none_first dss (test p obeys) e (shown_values s g⁺ w) x.0))
        go (some w) e⁺ (some v) e =
            let r⁺ = first_some dss⁺ (test q shown_obeys) w e⁺ in
            let r = first_some dss (test p obeys) v e in
            let u : List ℕ = shown_values s g⁺ w in
            let d = down w r⁺.0 r⁺.1 in
            let x = up v r.0 r.1 in
            let mv = to-model p obeys v r.0 r.1 in
            let mu = to-model p obeys u d.0 d.1 in
            let after : NotAfter v u = first-least dss (test p obeys) v (ordered s (cell_kinds s p.symbols)) e u d.0 d.1 in
            let whole : NotAfter w (extended s p v) =
            first-least dss⁺ (test q shown_obeys) w (ordered s (cell_kinds s (g⁺))) e⁺ (extended s p v) x.0 x.1 in
            let before : NotAfter u v = subst (NotAfter u) (t.extends v mv.0).1 (not_after-take (cell_count s (shown_symbols g⁺)) w (extended s p v) whole) in
            let len : length u ≡ length v = length-interpretation s p.symbols u mu.0.interpretation ∙ sym (length-interpretation s p.symbols v mv.0.interpretation) in
            ap some (not_after-both u v len before after)

  -- without a further test
  least-obeying : (s : ℕ) (r : Problem) → least_model s r ≡ least_obeying s r (λ vs. true)
  unfolding least_model
  least-obeying s r =
      first_cong (candidates s r.symbols) (is_model s r.symbols r.clauses) (λ vs. is_model s r.symbols r.clauses vs && true)
      (λ vs i. sym (and-true (is_model s r.symbols r.clauses vs)))

  least-shown : (s : ℕ) → zero < s → shown_found s g⁺ (least_model s q) ≡ least_model s p
  least-shown s pos = ap (shown_found s g⁺) (least-obeying s q) ∙ obeying-shown s pos (λ vs. true) ∙ sym (least-obeying s p)

  smallest-shown : (low high : ℕ) → 1 ≤ low → shown_case g⁺ (smallest_model q low high) ≡ smallest_model p low high
  unfolding smallest_model
  smallest-shown low high h =
      shown_case-first g⁺ (λ s. with_size s (least_model s q)) (λ s. with_size s (least_model s p)) (up_from low (suc high - low))
      (λ s k.
      let r = elem-up_from s low (suc high - low) k in
      shown_case-sized g⁺ s (least_model s q) ∙ ap (with_size s) (least-shown s (omega (arith, r.0))))

  same-search : (low high : ℕ) → 1 ≤ low → named_search_of q low high (smallest_model q low high) ≡ search_of p low high (smallest_model p low high)
  same-search low high h =
      shown-search p q low high (naming p 1 (omega arith) sheet).symbols (same-mark p sheet.clauses low high) (smallest_model q low high)
      ∙ ap (search_of p low high) (smallest-shown low high h)

-- the theorem on lists
pub finding : FindingHolds
finding p sheet =
    record {
      least = least-shown p sheet;
      walk = λ s pos. ap (shown_found s (in_mode p).symbols) (walk.least s (in_mode p) pos (naming p s pos sheet).clauses) ∙ least-shown p sheet s pos;
      mark = same-mark p sheet.clauses;
      search = same-search p sheet;
    }

-- what a search that is not refused found in the mode, and the sizes that it searched
pub named-searched : (sheet : List ℕ) (p : Problem) (low high work room : ℕ) (r : Search) → read_named sheet ≡ answer p → named_find_result sheet low high work room ≡ answer r → Searched p low high r
unfolding named_find_result
named-searched sheet p low high work room r read e =
    unbind _ _ r e λ (t : Problem) h₁ e₁.
    unbind _ _ r e₁ λ (u₁ : Unit {0}) h₂ e₂.
    unbind _ _ r e₂ λ (u₂ : Unit {0}) _ e₃.
    unbind _ _ r e₃ λ (u₃ : Unit {0}) _ e₄.
    unbind _ _ r e₄ λ (u₄ : Unit {0}) _ e₅.
    let same : p ≡ t = answer-inj p t (sym read ∙ named-read sheet t h₁) in
    let sizes : (leb 1 low && leb high 8 && leb low high) ≡ true = check-true _ (unplaced 8) u₁ h₂ in
    let both : (leb 1 low && leb high 8) ≡ true = and_left (leb 1 low && leb high 8) (leb low high) sizes in
    let from : 1 ≤ low = leb-true 1 low (and_left (leb 1 low) (leb high 8) both) in
    record {
      from_one = from;
      to-eight = leb-true high 8 (and_right (leb 1 low) (leb high 8) both);
      ordered = leb-true low high (and_right (leb 1 low && leb high 8) (leb low high) sizes);
      result = sym ((finding p (taken-sheet p (read_named-taken sheet p read))).search low high from)
          ∙ ap (λ (p : Problem). named_search_of (in_mode p) low high (smallest_model (in_mode p) low high)) same
          ∙ answer-inj (named_search_of (in_mode t) low high (smallest_model (in_mode t) low high)) r e₅;
    }

-- a call that is not refused has read its sheet
plain-reads : (sheet : List ℕ) (low high work room : ℕ) (r : Search) → find_result sheet low high work room ≡ answer r → (p : Problem) × (read_problem sheet ≡ answer p)
unfolding find_result
plain-reads sheet low high work room r e = unbind _ _ r e λ (p : Problem) h _. (p, problem-read sheet p h)

named-reads : (sheet : List ℕ) (low high work room : ℕ) (r : Search) → named_find_result sheet low high work room ≡ answer r → (p : Problem) × (read_named sheet ≡ answer p)
unfolding named_find_result
named-reads sheet low high work room r e = unbind _ _ r e λ (p : Problem) h _. (p, named-read sheet p h)

-- the theorem on bytes
pub same-answers : SameAnswers
same-answers sheet low high work room work⁺ room⁺ r r⁺ e e⁺ =
    let a = plain-reads sheet low high work room r e in
    let b = named-reads sheet low high work⁺ room⁺ r⁺ e⁺ in
    sym (searched sheet a.0 low high work room r a.1 e).result
    ∙ ap (λ (p : Problem). search_of p low high (smallest_model p low high)) ((reading sheet).same a.0 b.0 a.1 b.1)
    ∙ (named-searched sheet b.0 low high work⁺ room⁺ r⁺ b.1 e⁺).result
