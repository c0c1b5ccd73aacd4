-- Laws of streams: nothing taken, one list of clauses after another, and what of a list is still to be taken.
use Prim.Native.Nat.{ℕ, suc, ◌+◌, ◌-◌, ◌<◌}
use mathlib.Core.Path.{◌≡◌, sym, ap, ◌∙◌, subst}
use mathlib.Core.List.{List, [], ◌∷◌, ◌++◌, append_assoc, append-nil}
use native.Mathlib.Omega.{arith}
use Rattle.theory.specs.Lists.{concat_map, up_from}
use Rattle.theory.specs.Propositional.{PropClause}
use Rattle.theory.proofs.Lists.{concat_map-append, up_from-append}
use Rattle.stream.specs.Consuming.{Effect, Consumes, Consumed}

module _ {S : Type 0} (effect : Effect S) where
  -- nothing taken
  pub none-consumed : (x : S) → Consumed effect [] x x
  none-consumed x all start before behind split fits a = rw append-nil a

  -- one list of clauses after another
  pub both-consumed : (cs ds : List PropClause) (x y z : S) → Consumed effect cs x y → Consumed effect ds y z → Consumed effect (cs ++ ds) x z
  both-consumed cs ds x y z p q all start before behind split fits a =
      let s₁ : all ≡ before ++ (cs ++ (ds ++ behind)) = split ∙ ap (λ (l : List PropClause). before ++ l) (append_assoc cs ds behind) in
      let s₂ : all ≡ (before ++ cs) ++ (ds ++ behind) = s₁ ∙ sym (append_assoc before cs (ds ++ behind)) in
      subst (λ (l : List PropClause). effect.after all start l z) (append_assoc before cs ds) (q all start (before ++ cs) behind s₂ fits (p all start before (ds ++ behind) s₁ fits a))

  -- the first clauses of a list come next
  pub first-consumes : (cs ds : List PropClause) (x : S) → Consumes effect (cs ++ ds) x → Consumes effect cs x
  first-consumes cs ds x h =
      record {
        clauses = h.clauses;
        start = h.start;
        before = h.before;
        behind = ds ++ h.behind;
        split = h.split ∙ ap (λ (l : List PropClause). h.before ++ l) (append_assoc cs ds h.behind);
        so_far = h.so_far;
        fits = h.fits;
      }

  -- and when they are taken, the rest
  pub rest-consumes : (cs ds : List PropClause) (x y : S) → Consumes effect (cs ++ ds) x → Consumed effect cs x y → Consumes effect ds y
  rest-consumes cs ds x y h p =
      let split : h.clauses ≡ h.before ++ (cs ++ (ds ++ h.behind)) = h.split ∙ ap (λ (l : List PropClause). h.before ++ l) (append_assoc cs ds h.behind) in
      record {
        clauses = h.clauses;
        start = h.start;
        before = h.before ++ cs;
        behind = h.behind;
        split = split ∙ sym (append_assoc h.before cs (ds ++ h.behind));
        so_far = p h.clauses h.start h.before (ds ++ h.behind) split h.fits h.so_far;
        fits = h.fits;
      }

  -- a list known by another name
  pub consumes-same : (cs ds : List PropClause) (x : S) → cs ≡ ds → Consumes effect cs x → Consumes effect ds x
  consumes-same cs ds x e h = subst (λ (l : List PropClause). Consumes effect l x) e h

  pub consumed-same : (cs ds : List PropClause) (x y : S) → cs ≡ ds → Consumed effect cs x y → Consumed effect ds x y
  consumed-same cs ds x y e h = subst (λ (l : List PropClause). Consumed effect l x y) e h

  -- A whole stream, from a consumer that stands as it did before the first clause.
  module _ (cs : List PropClause) (x : S) (fits : effect.fits cs x) (none : effect.after cs x [] x) where
    pub stream-begins : Consumes effect cs x
    stream-begins =
        record {
          clauses = cs;
          start = x;
          before = [];
          behind = [];
          split = sym (append-nil cs);
          so_far = none;
          fits = fits;
        }

    pub stream-ends : (y : S) → Consumed effect cs x y → effect.after cs x cs y
    stream-ends y p = p cs x [] [] (sym (append-nil cs)) fits none

  -- The clauses f a, f (a + 1), .., n lists one after the other, of which i are taken; k is a + i.
  module _ (f : ℕ → List PropClause) (a n : ℕ) (x : S) where
    pub begun-consumed : (i : ℕ) → i ≡ 0 → Consumed effect (concat_map f (up_from a i)) x x
    begun-consumed i e = consumed-same [] (concat_map f (up_from a i)) x x (ap (λ (m : ℕ). concat_map f (up_from a m)) (sym e)) (none-consumed x)

    pub next-consumes : (i k : ℕ) (y : S) → i < n → k ≡ a + i → Consumes effect (concat_map f (up_from a n)) x → Consumed effect (concat_map f (up_from a i)) x y → Consumes effect (f k) y
    next-consumes i k y l e h p =
        first-consumes (f k) (concat_map f (up_from (suc (a + i)) (n - suc i))) y
        (rest-consumes (concat_map f (up_from a i)) (f k ++ concat_map f (up_from (suc (a + i)) (n - suc i))) x y (consumes-same (concat_map f (up_from a n)) _ x whole h) p)
      where
        count : i + suc (n - suc i) ≡ n
        count = omega arith

        whole : concat_map f (up_from a n) ≡ concat_map f (up_from a i) ++ (f k ++ concat_map f (up_from (suc (a + i)) (n - suc i)))
        whole =
            ap (λ (m : ℕ). concat_map f (up_from a m)) (sym count)
            ∙ ap (concat_map f) (sym (up_from-append a i (suc (n - suc i))))
            ∙ concat_map-append f (up_from a i) (up_from (a + i) (suc (n - suc i)))
            ∙ ap (λ (m : ℕ). concat_map f (up_from a i) ++ (f m ++ concat_map f (up_from (suc (a + i)) (n - suc i)))) (sym e)

    pub more-consumed : (i j k : ℕ) (y z : S) → j ≡ suc i → k ≡ a + i → Consumed effect (concat_map f (up_from a i)) x y → Consumed effect (f k) y z → Consumed effect (concat_map f (up_from a j)) x z
    more-consumed i j k y z d e p q =
        consumed-same (concat_map f (up_from a i) ++ f k) (concat_map f (up_from a j)) x z (sym whole) (both-consumed (concat_map f (up_from a i)) (f k) x y z p q)
      where
        count : j ≡ i + 1
        count = omega arith

        whole : concat_map f (up_from a j) ≡ concat_map f (up_from a i) ++ f k
        whole =
            ap (λ (m : ℕ). concat_map f (up_from a m)) count
            ∙ ap (concat_map f) (sym (up_from-append a i 1))
            ∙ concat_map-append f (up_from a i) ((a + i) ∷ [])
            ∙ ap (λ (l : List PropClause). concat_map f (up_from a i) ++ l) (append-nil (f (a + i)))
            ∙ ap (λ (m : ℕ). concat_map f (up_from a i) ++ f m) (sym e)

    pub all-consumed : (i : ℕ) (y : S) → i ≡ n → Consumed effect (concat_map f (up_from a i)) x y → Consumed effect (concat_map f (up_from a n)) x y
    all-consumed i y e p = consumed-same (concat_map f (up_from a i)) (concat_map f (up_from a n)) x y (ap (λ (m : ℕ). concat_map f (up_from a m)) e) p
