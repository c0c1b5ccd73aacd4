-- Choosing the bytes of each cell, yes first for a function and no first for a predicate, is choosing the cell's values in order.
use Prim.Native.Nat.{ℕ, zero, suc}
use mathlib.Core.Path.{◌≡◌, refl, sym, ap, ◌∙◌}
use mathlib.Core.Bool.{Bool, true, false, cond, ◌&&◌, and_assoc}
use mathlib.Core.Option
use mathlib.Core.Option.{Option, none, some}
use mathlib.Core.List.{List, [], ◌∷◌, ◌++◌, map}
use native.Mathlib.Omega.{arith}
use lib.Dec.{eqb, eqb-suc-zero, eqb-suc-suc}
use lib.ListN.{length, get_or, take, drop, replicate, length-replicate, length-append}
use Rattle.theory.specs.Lists.{select, concat_map, up_from, up_to, sum, prefix}
use Rattle.theory.specs.Syntax.{Kind, function, predicate, is_function}
use Rattle.theory.specs.Propositional.{width}
use Rattle.theory.specs.Valuation.{first_one, all_have_values, values_of}
use Rattle.theory.specs.Least.{or_else, first_of, first_list}
use Rattle.theory.proofs.Lists.{map-concat_map, concat_map-cong}
use Rattle.theory.proofs.First.{In, or_else-none, first_of-cong, first_cong, first-none}
use Rattle.theory.proofs.Least.{values}
use Rattle.theory.proofs.Completions.{options, completions}

-- laws of an answer under a function
map-or_else : {A B : Type 0} (h : A → B) (a b : Option A) → Option.map h (or_else a b) ≡ or_else (Option.map h a) (Option.map h b)
map-or_else h none b = refl
map-or_else h (some a) b = refl

map-first_of : {A B : Type 0} (h : A → B) (f : ℕ → Option A) (ds : List ℕ) → Option.map h (first_of f ds) ≡ first_of (λ d. Option.map h (f d)) ds
map-first_of h f [] = refl
map-first_of {B = B} h f (d ∷ ds) = map-or_else h (f d) (first_of f ds) ∙ ap (λ (o : Option B). or_else (Option.map h (f d)) o) (map-first_of h f ds)

map-prefix : {B : Type 0} (h : List ℕ → B) (d : ℕ) (o : Option (List ℕ)) → Option.map h (prefix d o) ≡ Option.map (λ v. h (d ∷ v)) o
map-prefix h d none = refl
map-prefix h d (some v) = refl

prefix-map : (d : ℕ) (h : List ℕ → List ℕ) (o : Option (List ℕ)) → Option.map (λ v. d ∷ h v) o ≡ prefix d (Option.map h o)
prefix-map d h none = refl
prefix-map d h (some v) = refl

first_of-shift : {A : Type 0} (f : ℕ → Option A) (a n : ℕ) → first_of f (up_from (suc a) n) ≡ first_of (λ d. f (suc d)) (up_from a n)
first_of-shift f a zero = refl
first_of-shift {A = A} f a (suc n) = ap (λ (o : Option A). or_else (f (suc a)) o) (first_of-shift f (suc a) n)

-- the bytes of a variable that is tried at yes first
abbrev yes : List ℕ
yes = options true none

-- how many of the first n bytes are 1
abbrev ones : ℕ → List ℕ → ℕ
ones n σ = length (select (eqb 1) (take n σ))

module _ {X : Type 0} (R : List (List ℕ)) where
  -- n bytes none of which may be 1
  zeros-first : (n : ℕ) (h : List ℕ → X) (t q : List ℕ → Bool)
      → ((σ : List ℕ) → In σ (replicate n yes ++ R) → q σ ≡ (eqb (ones n σ) 0 && t (drop n σ)))
      → Option.map (λ σ. h (drop n σ)) (first_list (replicate n yes ++ R) q) ≡ Option.map h (first_list R t)
  zeros-first zero h t q e = ap (Option.map h) (first_cong R q t e)
  zeros-first (suc n) h t q e =
      let rest : ℕ → Option (List ℕ) = λ b. first_list (replicate n yes ++ R) (λ σ. q (b ∷ σ)) in
      let H : List ℕ → X = λ σ. h (drop (suc n) σ) in
      let one : rest 1 ≡ none =
      first-none (replicate n yes ++ R) (λ σ. q (1 ∷ σ)) (λ σ m. e (1 ∷ σ) (refl, m) ∙ ap (λ (b : Bool). b && t (drop n σ)) (eqb-suc-zero (ones n σ))) in
      ap (λ (o : Option (List ℕ)). Option.map H (or_else (prefix 1 o) (or_else (prefix 0 (rest 0)) none))) one
      ∙ ap (Option.map H) (or_else-none (prefix 0 (rest 0)))
      ∙ map-prefix H 0 (rest 0)
      ∙ zeros-first n h t (λ σ. q (0 ∷ σ)) (λ σ m. e (0 ∷ σ) (refl, m))

  -- n bytes of which exactly one is 1: its place is chosen, the lowest first
  one-first : (n : ℕ) (h : ℕ → List ℕ → X) (t : ℕ → List ℕ → Bool) (q : List ℕ → Bool)
      → ((σ : List ℕ) → In σ (replicate n yes ++ R) → q σ ≡ (eqb (ones n σ) 1 && t (first_one (take n σ)) (drop n σ)))
      → Option.map (λ σ. h (first_one (take n σ)) (drop n σ)) (first_list (replicate n yes ++ R) q) ≡ first_of (λ d. Option.map (h d) (first_list R (t d))) (up_to n)
  one-first zero h t q e = ap (Option.map (h 0)) (first-none R q e)
  one-first (suc n) h t q e =
      let rest : ℕ → Option (List ℕ) = λ b. first_list (replicate n yes ++ R) (λ σ. q (b ∷ σ)) in
      let H : List ℕ → X = λ σ. h (first_one (take (suc n) σ)) (drop (suc n) σ) in
      let G : ℕ → Option X = λ d. Option.map (h d) (first_list R (t d)) in
      let here : Option.map H (prefix 1 (rest 1)) ≡ G 0 =
      map-prefix H 1 (rest 1)
      ∙ zeros-first n (h 0) (t 0) (λ σ. q (1 ∷ σ)) (λ σ m. e (1 ∷ σ) (refl, m) ∙ ap (λ (b : Bool). b && t 0 (drop n σ)) (eqb-suc-suc (ones n σ) 0)) in
      let later : Option.map H (or_else (prefix 0 (rest 0)) none) ≡ first_of G (up_from 1 n) =
      ap (Option.map H) (or_else-none (prefix 0 (rest 0))) ∙ map-prefix H 0 (rest 0)
      ∙ one-first n (λ d. h (suc d)) (λ d. t (suc d)) (λ σ. q (0 ∷ σ)) (λ σ m. e (0 ∷ σ) (refl, m))
      ∙ sym (first_of-shift G 0 n) in
      map-or_else H (prefix 1 (rest 1)) (or_else (prefix 0 (rest 0)) none)
      ∙ ap (λ (o : Option X). or_else o (Option.map H (or_else (prefix 0 (rest 0)) none))) here
      ∙ ap (λ (o : Option X). or_else (G 0) o) later

module _ (s : ℕ) where
  -- the bytes of a cell's variables, in the order in which they are tried
  abbrev cell_options : Kind → List (List ℕ)
  cell_options k = replicate (width s k) (options (is_function k) none)

  -- the bytes of the variables of cells of these kinds
  abbrev pub chunks : List Kind → List (List ℕ)
  chunks ks = concat_map cell_options ks

  -- the first bytes that give each cell a value and pass have the first values that pass
  pub chunks-first : (ks : List Kind) (q r : List ℕ → Bool) → ((σ : List ℕ) → In σ (chunks ks) → q σ ≡ (all_have_values s ks σ && r (values_of s ks σ)))
      → Option.map (values_of s ks) (first_list (chunks ks) q) ≡ first_list (values s ks) r
  chunks-first [] q r e = ap (λ (b : Bool). Option.map (values_of s []) (cond b (some []) none)) (e [] tt) ∙ go (r [])
    where
      go : (b : Bool) → Option.map (values_of s []) (cond b (some []) none) ≡ cond b (some []) none
      go true = refl
      go false = refl
  chunks-first (function ∷ ks) q r e =
      one-first (chunks ks) s (λ d w. d ∷ values_of s ks w) rest q (λ σ m. e σ m ∙ and_assoc (eqb (ones s σ) 1) (all_have_values s ks (drop s σ)) (r (values_of s (function ∷ ks) σ)))
      ∙ first_of-cong (λ d. Option.map (λ w. d ∷ values_of s ks w) (first_list (chunks ks) (rest d))) (λ d. prefix d (first_list (values s ks) (λ v. r (d ∷ v)))) (up_to s)
      (λ d m. prefix-map d (values_of s ks) (first_list (chunks ks) (rest d)) ∙ ap (prefix d) (chunks-first ks (rest d) (λ v. r (d ∷ v)) (λ σ i. refl)))
    where
      rest : ℕ → List ℕ → Bool
      rest d w = all_have_values s ks w && r (d ∷ values_of s ks w)
  chunks-first (predicate ∷ ks) q r e =
      map-first_of (values_of s (predicate ∷ ks)) (λ b. prefix b (rest b)) (up_to 2)
      ∙ first_of-cong (λ b. Option.map (values_of s (predicate ∷ ks)) (prefix b (rest b))) (λ b. prefix b (first_list (values s ks) (λ v. r (b ∷ v)))) (up_to 2)
      (λ b m.
      map-prefix (values_of s (predicate ∷ ks)) b (rest b) ∙ prefix-map b (values_of s ks) (rest b)
      ∙ ap (prefix b) (chunks-first ks (λ σ. q (b ∷ σ)) (λ v. r (b ∷ v)) (λ σ i. e (b ∷ σ) (m, i))))
    where
      rest : ℕ → Option (List ℕ)
      rest b = first_list (chunks ks) (λ σ. q (b ∷ σ))

  -- the value that each variable is tried at first
  abbrev first_values : List Kind → List Bool
  first_values ks = concat_map (λ k. replicate (width s k) (is_function k)) ks

  length-first_values : (ks : List Kind) → length (first_values ks) ≡ sum (map (width s) ks)
  length-first_values [] = refl
  length-first_values (k ∷ ks) =
      length-append (replicate (width s k) (is_function k)) (first_values ks)
      ∙ omega (arith, length-replicate (width s k) (is_function k), length-first_values ks)

  map-replicate : {A B : Type 0} (f : A → B) (n : ℕ) (a : A) → map f (replicate n a) ≡ replicate n (f a)
  map-replicate f zero a = refl
  map-replicate {B = B} f (suc n) a = ap (λ (l : List B). f a ∷ l) (map-replicate f n a)

  completions-first_values : (bs : List Bool) → completions (λ i. get_or bs i false) (replicate (length bs) none) ≡ map (λ b. options b none) bs
  completions-first_values [] = refl
  completions-first_values (b ∷ bs) = ap (λ (l : List (List ℕ)). options b none ∷ l) (completions-first_values bs)

  -- the walk tries the bytes of cells of these kinds in that order
  pub completions-chunks : (ks : List Kind) → completions (λ i. get_or (first_values ks) i false) (replicate (sum (map (width s) ks)) none) ≡ chunks ks
  completions-chunks ks =
      ap (λ (n : ℕ). completions (λ i. get_or (first_values ks) i false) (replicate n none)) (sym (length-first_values ks))
      ∙ completions-first_values (first_values ks)
      ∙ map-concat_map (λ b. options b none) (λ k. replicate (width s k) (is_function k)) ks
      ∙ concat_map-cong (λ k. map (λ b. options b none) (replicate (width s k) (is_function k))) cell_options ks
      (λ k. map-replicate (λ b. options b none) (width s k) (is_function k))
