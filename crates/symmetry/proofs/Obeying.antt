-- Models that obey the constant clauses: the theorem TwinsHold.
use Prim.Native.Nat.{ℕ, zero, suc, ◌-◌, ◌≤◌, ◌<◌}
use mathlib.Core.Path.{◌≡◌, refl, sym, ap, ◌∙◌, subst₂}
use mathlib.Core.Logic.{◌⊎◌, inl, inr}
use mathlib.Core.Bool.{Bool, true, false, ◌&&◌}
use mathlib.Core.Option.{Option, none, some}
use mathlib.Core.List.{List, ◌++◌, map}
use native.Mathlib.Omega.{arith}
use Rattle.theory.specs.Lists.{all, elem, up_from}
use Rattle.theory.specs.Syntax.{Signature, clause_ok}
use Rattle.theory.specs.Cells.{cell_kinds, is_interpretation, is_model}
use Rattle.theory.specs.Problem.{Problem}
use Rattle.theory.specs.CaseText.{Case}
use Rattle.theory.specs.Least.{candidates, least_model, with_size, smallest_model}
use Rattle.theory.specs.Claims.Least.{NotAfter, ModelCells}
use Rattle.theory.proofs.Tests.{true-or-false, both_false, and_left, and_right, and-join}
use Rattle.theory.proofs.Lists.{elem-up_from}
use Rattle.theory.proofs.First.{In, first_of-cong, first_of-none, none-first_of, first_of-least, first_some, first-none, none_first, first-least}
use Rattle.theory.proofs.Least.{in_range-in, in-in_range, ordered, with_size-some, with_size-none, least}
use Rattle.theory.proofs.Parsing.{read_problem-well_formed, clauses-ok}
use Rattle.theory.proofs.Interpretations.{length-interpretation}
use Rattle.renumbering.specs.Rearrangements.{is_rearrangement, becomes, comes_from, reversed}
use Rattle.renumbering.specs.Renumbering.{renumbered}
use Rattle.symmetry.specs.Obeying.{stepwise, constant_values, obeys, least_obeying, smallest_with, constants_first, functions_first}
use Rattle.symmetry.specs.Claims.Obeying.{Obeying, Renumbered, Twins, TwinsHold}
use Rattle.renumbering.proofs.Rearrangements.{is_rearrangement→, reversed-at, reversed-is}
use Rattle.renumbering.proofs.Renumbering.{map-agree, renumbered-is, length-renumbered, model-kept}
use Rattle.renumbering.proofs.ValueOrder.{not_after-antisym}
use Rattle.symmetry.proofs.Appearance.{appearance, appearance-is, appearance-stepwise, appearance-before}
use Rattle.symmetry.proofs.Constants.{constants-below, constants-after, constants-front, functions-first}

-- the renumbering of an interpretation by the first appearance of elements as values of its constants
module _ (s : ℕ) (g : Signature) (vs : List ℕ) (h : is_interpretation s g vs ≡ true) where
  abbrev pub naming : List ℕ
  naming = reversed s (appearance s (constant_values s g vs))

  pub naming-is : is_rearrangement s naming ≡ true
  naming-is = reversed-is s (appearance s (constant_values s g vs)) (appearance-is s (constant_values s g vs) (constants-below s g vs h))

  pub constants-named : constant_values s g (renumbered s g naming vs) ≡ map (comes_from (appearance s (constant_values s g vs))) (constant_values s g vs)
  constants-named =
      let xs : List ℕ = constant_values s g vs in
      constants-after s g vs naming (is_rearrangement→ s naming naming-is)
      ∙ map-agree s (becomes naming) (comes_from (appearance s xs)) (reversed-at s (appearance s xs)) xs (constants-below s g vs h)

  pub naming-obeys : obeys s g (renumbered s g naming vs) ≡ true
  unfolding obeys
  naming-obeys = ap (stepwise 0) constants-named ∙ appearance-stepwise s (constant_values s g vs)

  -- it comes before an interpretation that does not obey, where constants come first
  pub naming-before : functions_first g ≡ true → constants_first g ≡ true → obeys s g vs ≡ false → NotAfter vs (renumbered s g naming vs) → ⊥
  unfolding obeys
  naming-before b c f a =
      let xs : List ℕ = constant_values s g vs in
      let old = constants-front s g vs b c (length-interpretation s g vs h) in
      let new = constants-front s g (renumbered s g naming vs) b c (length-renumbered s g naming vs) in
      appearance-before s xs old.0 new.0 f
      (subst₂ (λ (u w : List ℕ). NotAfter u w) old.1 (new.1 ∙ ap (λ (l : List ℕ). l ++ new.0) constants-named) a)

false-and : (a b : Bool) → a ≡ false → (a && b) ≡ false
false-and true b e = absurd (both_false refl e)
false-and false b e = refl

module _ (p : Problem) (ok : all (clause_ok p.symbols) p.clauses ≡ true) where
  abbrev g : Signature
  g = p.symbols

  abbrev is_obeying : ℕ → List ℕ → Bool
  is_obeying s v = is_model s g p.clauses v && obeys s g v

  every-model : (s : ℕ) (v : List ℕ) → zero < s → ModelCells p s v → Renumbered p s v
  every-model s v pos m =
      let h = m.interpretation in
      let q : List ℕ = naming s g v h in
      let k : is_rearrangement s q ≡ true = naming-is s g v h in
      record {
        by = q;
        rearrangement = k;
        obeying = record {
          model = record {
            interpretation = renumbered-is s g q (is_rearrangement→ s q k) v h;
            model = model-kept s g p.clauses q v pos ok k h ∙ m.model;
          };
          obeying = naming-obeys s g v h;
        };
      }

  in-range : (s : ℕ) (v : List ℕ) → is_interpretation s g v ≡ true → In v (candidates s g)
  unfolding is_interpretation
  in-range s v h = in_range-in s (cell_kinds s g) v h

  of_range : (s : ℕ) (v : List ℕ) → In v (candidates s g) → is_interpretation s g v ≡ true
  unfolding is_interpretation
  of_range s v i = in-in_range s (cell_kinds s g) v i

  obeying→ : (s : ℕ) (v : List ℕ) → Obeying p s v → is_obeying s v ≡ true
  obeying→ s v o = and-join (is_model s g p.clauses v) (obeys s g v) o.model.model o.obeying

  is-least : (s : ℕ) (v : List ℕ) → least_obeying s p ≡ some v → Obeying p s v × ((u : List ℕ) → Obeying p s u → NotAfter v u)
  unfolding least_obeying
  is-least s v e =
      let r = first_some (candidates s g) (is_obeying s) v e in (
        record {
          model = record { interpretation = of_range s v r.0; model = and_left (is_model s g p.clauses v) (obeys s g v) r.1 };
          obeying = and_right (is_model s g p.clauses v) (obeys s g v) r.1;
        },
        λ u o. first-least (candidates s g) (is_obeying s) v (ordered s (cell_kinds s g)) e u (in-range s u o.model.interpretation) (obeying→ s u o),
      )

  none→ : (s : ℕ) → zero < s → least_obeying s p ≡ none → least_model s p ≡ none
  unfolding least_obeying
  none→ s pos e = go (least_model s p) refl
    where
      go : (o : Option (List ℕ)) → least_model s p ≡ o → least_model s p ≡ none
      go none k = k
      go (some v) k =
          let t = every-model s v pos ((least p).is_least s v k).0 in
          let u : List ℕ = renumbered s g t.by v in
          absurd (both_false (obeying→ s u t.obeying) (none_first (candidates s g) (is_obeying s) e u (in-range s u t.obeying.model.interpretation)))

  none← : (s : ℕ) → least_model s p ≡ none → least_obeying s p ≡ none
  unfolding least_obeying least_model
  none← s e =
      first-none (candidates s g) (is_obeying s)
      (λ v i. false-and (is_model s g p.clauses v) (obeys s g v) (none_first (candidates s g) (is_model s g p.clauses) e v i))

  obeys-first : (s : ℕ) (v : List ℕ) → zero < s → functions_first g ≡ true → constants_first g ≡ true → least_model s p ≡ some v → obeys s g v ≡ true
  unfolding every-model
  obeys-first s v pos b c e = go (true-or-false (obeys s g v))
    where
      go : (obeys s g v ≡ true) ⊎ (obeys s g v ≡ false) → obeys s g v ≡ true
      go (inl t) = t
      go (inr f) =
          let l = (least p).is_least s v e in
          let t = every-model s v pos l.0 in
          absurd (naming-before s g v l.0.interpretation b c f (l.1 (renumbered s g t.by v) t.obeying.model))

  same-least : (s : ℕ) → zero < s → functions_first g ≡ true → constants_first g ≡ true → least_obeying s p ≡ least_model s p
  same-least s pos b c = go (least_model s p) refl (least_obeying s p) refl
    where
      go : (o : Option (List ℕ)) → least_model s p ≡ o → (q : Option (List ℕ)) → least_obeying s p ≡ q → least_obeying s p ≡ least_model s p
      go none e q k = none← s e ∙ sym e
      go (some v) e none k = let z = none→ s pos k in k ∙ sym z
      go (some v) e (some w) k =
          let l = (least p).is_least s v e in
          let r = is-least s w k in
          let o : Obeying p s v = record { model = l.0; obeying = obeys-first s v pos b c e } in
          let same : w ≡ v = not_after-antisym w v (r.1 v o) (l.1 w r.0.model) in
          k ∙ ap (λ (x : List ℕ). some x) same ∙ sym e

  -- over the sizes low to high
  abbrev sizes : ℕ → ℕ → List ℕ
  sizes low high = up_from low (suc high - low)

  size-from : (low high s : ℕ) → elem s (sizes low high) ≡ true → low ≤ s
  size-from low high s h = (elem-up_from s low (suc high - low) h).0

  none-alike→ : (low high : ℕ) → zero < low → smallest_with true p low high ≡ none → smallest_model p low high ≡ none
  unfolding smallest_with smallest_model
  none-alike→ low high pos e =
      first_of-none (λ s. with_size s (least_model s p)) (sizes low high)
      (λ s h. ap (with_size s) (none→ s (omega (arith, size-from low high s h)) (with_size-none s (least_obeying s p) (none-first_of (λ s. with_size s (least_obeying s p)) (sizes low high) e s h))))

  none-alike← : (low high : ℕ) → smallest_model p low high ≡ none → smallest_with true p low high ≡ none
  unfolding smallest_with smallest_model
  none-alike← low high e =
      first_of-none (λ s. with_size s (least_obeying s p)) (sizes low high)
      (λ s h. ap (with_size s) (none← s (with_size-none s (least_model s p) (none-first_of (λ s. with_size s (least_model s p)) (sizes low high) e s h))))

  found-least : (low high : ℕ) (k : Case) → zero < low → smallest_with true p low high ≡ some k
      → (low ≤ k.size) × (k.size ≤ high) × (least_obeying k.size p ≡ some k.values) × ((s : ℕ) (u : List ℕ) → low ≤ s → s < k.size → ModelCells p s u → ⊥)
  unfolding smallest_with
  found-least low high k pos e =
      let f : ℕ → Option Case = λ s. with_size s (least_obeying s p) in
      let r = first_of-least f low (suc high - low) k e in
      let w = with_size-some r.0 (least_obeying r.0 p) k r.3 in
      let z : r.0 ≡ k.size = w.0 in (
        omega (arith, r.1),
        omega (arith, r.1, r.2),
        ap (λ (s : ℕ). least_obeying s p) (sym z) ∙ w.1,
        λ s u lo hi m. ((least p).no_least s).0 (none→ s (omega arith) (with_size-none s (least_obeying s p) (r.4 s lo (omega arith)))) u m,
      )

  same_case : (low high : ℕ) → zero < low → functions_first g ≡ true → constants_first g ≡ true → smallest_with true p low high ≡ smallest_model p low high
  unfolding smallest_with smallest_model
  same_case low high pos b c =
      first_of-cong (λ s. with_size s (least_obeying s p)) (λ s. with_size s (least_model s p)) (sizes low high)
      (λ s h. ap (with_size s) (same-least s (omega (arith, size-from low high s h)) b c))

  not-used : (low high : ℕ) → smallest_with false p low high ≡ smallest_model p low high
  unfolding smallest_with smallest_model
  not-used low high = refl

twins-of : (p : Problem) → all (clause_ok p.symbols) p.clauses ≡ true → Twins p
twins-of p ok =
    record {
      every_model = every-model p ok;
      is_least = is-least p ok;
      no_least = λ s pos. (none→ p ok s pos, none← p ok s);
      obeys_first = obeys-first p ok;
      same_least = same-least p ok;
      not_used = not-used p ok;
      none_alike = λ low high pos. (none-alike→ p ok low high pos, none-alike← p ok low high);
      found = found-least p ok;
      same_case = same_case p ok;
    }

-- the theorem
pub twins : TwinsHold
twins =
    record {
      problems = twins-of;
      sheets = λ sheet p e.
          let w = read_problem-well_formed sheet p e in
          (twins-of p (clauses-ok p w), ap functions_first w.split ∙ functions-first w.functions w.predicates w.function-kinds w.predicate-kinds);
    }
