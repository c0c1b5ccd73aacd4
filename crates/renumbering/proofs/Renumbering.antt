-- Renumbering: what becomes of the tables, of the truth of clauses and of models; the theorem RenumberingHolds.
use Prim.Native.Nat.{ℕ, zero, ◌<◌}
use mathlib.Core.Path.{◌≡◌, refl, sym, ap, ◌∙◌, subst}
use mathlib.Core.Bool.{true}
use mathlib.Core.List.{List, [], ◌∷◌, map, map-map, map-id}
use lib.Dec.{eqb}
use lib.ListN.{length, get_or, length-map}
use Rattle.theory.specs.Lists.{all}
use Rattle.theory.specs.Vectors.{AllBelow}
use Rattle.theory.specs.Syntax.{Kind, function, predicate, Signature, symbol_at, Clause, clause_ok}
use Rattle.theory.specs.Truth.{Interpretation, Assignment}
use Rattle.theory.specs.Cells.{cell_count, cell, value_count, is_interpretation, interpretation, is_model}
use Rattle.theory.specs.Claims.Truth.{Valid, AllValid}
use Rattle.theory.proofs.Tests.{iff→≡, and_left, and_right}
use Rattle.theory.proofs.Truth.{agree-clause, truth}
use Rattle.theory.proofs.Declared.{function_of→, predicate_of→}
use Rattle.theory.proofs.Numbering.{cell_below, kind-at-cell}
use Rattle.theory.proofs.Interpretations.{length-interpretation, value-below, interpretation-closed}
use Rattle.theory.proofs.Embeddings.{Embedding, keeps-clause}
use Rattle.theory.proofs.Tabulated.{length-tabulated, tabulated-at, same_tables, tabulated-is}
use Rattle.renumbering.specs.Rearrangements.{is_rearrangement, becomes, comes_from, unchanged, composed, reversed}
use Rattle.renumbering.specs.Renumbering.{new_value, value_after, renumbered}
use Rattle.renumbering.specs.Claims.Renumbering as claims
use Rattle.renumbering.proofs.Rearrangements.{Rearranged, is_rearrangement→, unchanged-at, composed-at, unchanged-is, composed-is, reversed-is, from-unchanged, from-composed, rearrangements}

-- numbers below s, one by one
map_below : (s : ℕ) (f : ℕ → ℕ) → ((d : ℕ) → d < s → f d < s) → (v : List ℕ) → AllBelow s v → AllBelow s (map f v)
map_below s f h [] b = tt
map_below s f h (d ∷ v) b = (h d b.0, map_below s f h v b.1)

pub map-agree : (s : ℕ) (f h : ℕ → ℕ) → ((d : ℕ) → d < s → f d ≡ h d) → (v : List ℕ) → AllBelow s v → map f v ≡ map h v
map-agree s f h e [] b = refl
map-agree s f h e (d ∷ v) b = let p : f d ≡ h d = e d b.0 in let q : map f v ≡ map h v = map-agree s f h e v b.1 in cc

map-twice : (s : ℕ) (f h k : ℕ → ℕ) → ((d : ℕ) → d < s → h (f d) ≡ k d) → (v : List ℕ) → AllBelow s v → map h (map f v) ≡ map k v
map-twice s f h k e v b = map-map h f v ∙ map-agree s (λ d. h (f d)) k e v b

module _ (s : ℕ) (g : Signature) where
  -- the old value of a cell is in the range of its symbol's kind
  pub value_in : (vs : List ℕ) → is_interpretation s g vs ≡ true → (i : ℕ) (v : List ℕ) → i < length g → length v ≡ (symbol_at g i).arity → AllBelow s v
      → get_or vs (cell s g i v) 0 < value_count s (symbol_at g i).kind
  value_in vs h i v l e b =
      subst (λ (k : Kind). get_or vs (cell s g i v) 0 < value_count s k) (kind-at-cell s g i v l e b) (value-below s g vs h (cell s g i v) (cell_below s g i v l e b))

  module _ (p : List ℕ) (r : Rearranged s p) where
    new_value-in : (k : Kind) (d : ℕ) → d < value_count s k → new_value k p d < value_count s k
    new_value-in function d h = r.below d h
    new_value-in predicate d h = h

    pub becomes-below : (v : List ℕ) → AllBelow s v → AllBelow s (map (becomes p) v)
    becomes-below v b = map_below s (becomes p) r.below v b

    pub from-below : (v : List ℕ) → AllBelow s v → AllBelow s (map (comes_from p) v)
    from-below v b = map_below s (comes_from p) r.from_below v b

    back-all : (v : List ℕ) → AllBelow s v → map (comes_from p) (map (becomes p) v) ≡ v
    back-all v b = map-twice s (becomes p) (comes_from p) (λ d. d) r.back v b ∙ map-id v

    module _ (vs : List ℕ) where
      pub after-at : (i : ℕ) (v : List ℕ) → i < length g → length v ≡ (symbol_at g i).arity → AllBelow s v → get_or (renumbered s g p vs) (cell s g i v) 0 ≡ value_after s g p vs i v
      unfolding renumbered
      after-at i v l e b = tabulated-at s g (value_after s g p vs) i v l e b

      pub tables_after : (i : ℕ) (v : List ℕ) → i < length g → length v ≡ (symbol_at g i).arity → AllBelow s v
          → get_or (renumbered s g p vs) (cell s g i (map (becomes p) v)) 0 ≡ new_value (symbol_at g i).kind p (get_or vs (cell s g i v) 0)
      tables_after i v l e b =
          after-at i (map (becomes p) v) l (length-map v (becomes p) ∙ e) (becomes-below v b)
          ∙ ap (λ (u : List ℕ). new_value (symbol_at g i).kind p (get_or vs (cell s g i u) 0)) (back-all v b)

      pub renumbered-is : is_interpretation s g vs ≡ true → is_interpretation s g (renumbered s g p vs) ≡ true
      unfolding renumbered
      renumbered-is h =
          tabulated-is s g (value_after s g p vs) (λ i v l e b.
          new_value-in (symbol_at g i).kind (get_or vs (cell s g i (map (comes_from p) v)) 0)
          (value_in vs h i (map (comes_from p) v) l (length-map v (comes_from p) ∙ e) (from-below v b)))

  pub length-renumbered : (p vs : List ℕ) → length (renumbered s g p vs) ≡ cell_count s g
  unfolding renumbered
  length-renumbered p vs = length-tabulated s g (value_after s g p vs)

  pub stays : (vs : List ℕ) → is_interpretation s g vs ≡ true → renumbered s g (unchanged s) vs ≡ vs
  stays vs h =
      let r = is_rearrangement→ s (unchanged s) (unchanged-is s) in
      same_tables s g (renumbered s g (unchanged s) vs) vs (length-renumbered (unchanged s) vs) (length-interpretation s g vs h)
      (λ i v l e b.
      after-at (unchanged s) r vs i v l e b
      ∙ ap (λ (u : List ℕ). new_value (symbol_at g i).kind (unchanged s) (get_or vs (cell s g i u) 0)) (map-agree s (comes_from (unchanged s)) (λ d. d) (from-unchanged s) v b ∙ map-id v)
      ∙ same (symbol_at g i).kind (get_or vs (cell s g i v) 0) (value_in vs h i v l e b))
    where
      same : (k : Kind) (d : ℕ) → d < value_count s k → new_value k (unchanged s) d ≡ d
      same function d lt = unchanged-at s d lt
      same predicate d lt = refl

  pub composes : (p q vs : List ℕ) → is_rearrangement s p ≡ true → is_rearrangement s q ≡ true → is_interpretation s g vs ≡ true
      → renumbered s g q (renumbered s g p vs) ≡ renumbered s g (composed p q) vs
  composes p q vs hp hq h =
      let a = is_rearrangement→ s p hp in
      let c = is_rearrangement→ s q hq in
      let d = is_rearrangement→ s (composed p q) (composed-is s p q hp hq) in
      same_tables s g (renumbered s g q (renumbered s g p vs)) (renumbered s g (composed p q) vs) (length-renumbered q (renumbered s g p vs)) (length-renumbered (composed p q) vs)
      (λ i v l e b.
      let k : Kind = (symbol_at g i).kind in
      let u : List ℕ = map (comes_from q) v in
      let w : List ℕ = map (comes_from p) u in
      let m : AllBelow s u = from-below q c v b in
      let n : length u ≡ (symbol_at g i).arity = length-map v (comes_from q) ∙ e in
      after-at q c (renumbered s g p vs) i v l e b
      ∙ ap (new_value k q) (after-at p a vs i u l n m)
      ∙ twice a k (get_or vs (cell s g i w) 0) (value_in vs h i w l (length-map u (comes_from p) ∙ n) (from-below p a u m))
      ∙ ap (λ (x : List ℕ). new_value k (composed p q) (get_or vs (cell s g i x) 0)) (map-twice s (comes_from q) (comes_from p) (comes_from (composed p q)) (λ x y. sym (from-composed s p q hp hq x y)) v b)
      ∙ sym (after-at (composed p q) d vs i v l e b))
    where
      twice : Rearranged s p → (k : Kind) (d : ℕ) → d < value_count s k → new_value k q (new_value k p d) ≡ new_value k (composed p q) d
      twice a function d lt = sym (composed-at s p q a d lt)
      twice a predicate d lt = refl

  pub comes_back : (p vs : List ℕ) → is_rearrangement s p ≡ true → is_interpretation s g vs ≡ true → renumbered s g (reversed s p) (renumbered s g p vs) ≡ vs
  comes_back p vs hp h =
      composes p (reversed s p) vs hp (reversed-is s p hp) h ∙ ap (λ (q : List ℕ). renumbered s g q vs) ((rearrangements s).there_and_back p hp) ∙ stays vs h

  -- truth: what each element becomes keeps every symbol, so under the renamed assignment the renumbered interpretation says what the old one says
  module _ (p vs : List ℕ) (r : Rearranged s p) (h : is_interpretation s g vs ≡ true) where
    abbrev old : Interpretation
    old = interpretation s g vs

    abbrev new : Interpretation
    new = interpretation s g (renumbered s g p vs)

    kept : Embedding g s old new (becomes p)
    kept =
        record {
          one_to_one = λ d e a b q. sym (r.back d a) ∙ ap (comes_from p) q ∙ r.back e b;
          functions = λ f v o b.
              let d = function_of→ g f (length v) o in
              ap (λ (k : Kind). new_value k p (get_or vs (cell s g f v) 0)) (sym d.kind) ∙ sym (tables_after p r vs f v d.below d.arity b);
          relations = λ q v o b.
              let d = predicate_of→ g q (length v) o in
              ap (λ (n : ℕ). eqb n 1)
              (ap (λ (k : Kind). new_value k p (get_or vs (cell s g q v) 0)) (sym d.kind) ∙ sym (tables_after p r vs q v d.below d.arity b));
        }

    valid-after : (c : Clause) → clause_ok g c ≡ true → Valid old s c → Valid new s c
    valid-after c ok k τ b =
        let ρ : Assignment = λ x. comes_from p (τ x) in
        let l : (x : ℕ) → ρ x < s = λ x. r.from_below (τ x) (b x) in
        agree-clause τ (λ x. becomes p (ρ x)) new c (λ x e. sym (r.there (τ x) (b x))) ∙ sym (keeps-clause g s old new (becomes p) kept (interpretation-closed s g vs h) ρ l c ok) ∙ k ρ l

    all-valid-after : (cs : List Clause) → all (clause_ok g) cs ≡ true → AllValid old s cs → AllValid new s cs
    all-valid-after [] ok k = tt
    all-valid-after (c ∷ cs) ok k =
        (valid-after c (and_left (clause_ok g c) (all (clause_ok g) cs) ok) k.0, all-valid-after cs (and_right (clause_ok g c) (all (clause_ok g) cs) ok) k.1)

    model-after : (cs : List Clause) → zero < s → all (clause_ok g) cs ≡ true → is_model s g cs vs ≡ true → is_model s g cs (renumbered s g p vs) ≡ true
    model-after cs pos ok m = (truth.model s g cs (renumbered s g p vs) pos).1 (all-valid-after cs ok ((truth.model s g cs vs pos).0 m))

  pub model-kept : (cs : List Clause) (p vs : List ℕ) → zero < s → all (clause_ok g) cs ≡ true → is_rearrangement s p ≡ true → is_interpretation s g vs ≡ true
      → is_model s g cs (renumbered s g p vs) ≡ is_model s g cs vs
  model-kept cs p vs pos ok hp h =
      let a = is_rearrangement→ s p hp in
      let b = is_rearrangement→ s (reversed s p) (reversed-is s p hp) in
      iff→≡ (is_model s g cs (renumbered s g p vs)) (is_model s g cs vs)
      (λ t. ap (is_model s g cs) (sym (comes_back p vs hp h)) ∙ model-after (reversed s p) (renumbered s g p vs) b (renumbered-is p a vs h) cs pos ok t)
      (λ t. model-after p vs a h cs pos ok t)

-- the theorem
pub renumbering : claims.RenumberingHolds
renumbering =
    record {
      rearrangements = rearrangements;
      renumbering = λ s g.
          record {
            tables = λ p vs i v hp l e b. tables_after s g p (is_rearrangement→ s p hp) vs i v l e b;
            interpreted = λ p vs hp h. renumbered-is s g p (is_rearrangement→ s p hp) vs h;
            model = model-kept s g;
            composes = composes s g;
            stays = stays s g;
            comes_back = comes_back s g;
          };
    }
