-- Guesses: the values still to be tried at a cell give what the filling from that cell on answers.
use Prim.Native.Nat.{ℕ, suc, ◌+◌, ◌-◌, ◌≤◌, ◌<◌}
use mathlib.Core.Path.{◌≡◌, refl, sym, ap, ◌∙◌}
use mathlib.Core.Bool.{Bool, true, false, cond, false≢true}
use mathlib.Core.Option.{Option, none, some}
use mathlib.Core.List.{List, [], ◌∷◌, ◌++◌, map, append_assoc, append-nil}
use native.Mathlib.Nat.{le_refl}
use native.Mathlib.Omega.{arith}
use lib.ListN.{length, get_or, set, take, drop, drop_of_length-le}
use lib.Seq.{lt-length-set, take-suc, drop-cons, get_or-set_same, take-set-le, drop-set-lt}
use Rattle.theory.specs.Lists.{up_from, up_to, prefix}
use Rattle.theory.specs.Cells.{is_model}
use Rattle.theory.specs.Least.{or_else, first_of, first_list}
use Rattle.theory.proofs.First.{first_of-cong, first_cong}
use Rattle.syntax.specs.declared.limits.Problem.{Problem}
use Rattle.problem.specs.Problems.{problem_in}
use Rattle.text.specs.Put.{put, put-none}
use Rattle.plain.specs.declared.cells.PlainCells.{PlainCells}
use Rattle.std.specs.Prelude as rust
use Rattle.std.specs.Prelude.{Ok, Err, is_ok}
use Rattle.plain.specs.Filling.{filled_from, filling}

-- the guess d at a cell
module _ (values : List ℕ) (at d : ℕ) (h : at < length values) where
  pub guess-taken : take (at + 1) (set values at d) ≡ take at values ++ (d ∷ [])
  guess-taken =
      let e : at + 1 ≡ suc at = omega arith in
      ap (λ (n : ℕ). take n (set values at d)) e
      ∙ take-suc (set values at d) at 0 (lt-length-set values at d h)
      ∙ ap (λ (l : List ℕ). l ++ (get_or (set values at d) at 0 ∷ [])) (take-set-le at values at d (le_refl at))
      ∙ ap (λ (x : ℕ). take at values ++ (x ∷ [])) (get_or-set_same values at d 0 h)

  guess-put : (v : List ℕ) → put (set values at d) (at + 1) v ≡ put values at (d ∷ v)
  unfolding put
  guess-put v =
      let e : at + 1 + length v ≡ at + suc (length v) = omega arith in
      ap (λ (l : List ℕ). l ++ (v ++ drop (at + 1 + length v) (set values at d))) guess-taken
      ∙ ap (λ (l : List ℕ). (take at values ++ (d ∷ [])) ++ (v ++ l)) (drop-set-lt (at + 1 + length v) values at d (omega arith))
      ∙ append_assoc (take at values) (d ∷ []) (v ++ drop (at + 1 + length v) values)
      ∙ ap (λ (n : ℕ). take at values ++ (d ∷ (v ++ drop n values))) e

module _ (sheet : List ℕ) (p : Problem) (s : ℕ) (choices values : List ℕ) (at : ℕ) where
  abbrev model : List ℕ → Bool
  model v = is_model s (problem_in sheet p).symbols (problem_in sheet p).clauses v

  -- what follows the guess d
  abbrev pub after : ℕ → Option (List ℕ)
  after d = prefix d (filled_from sheet p s choices (set values at d) (at + 1))

  -- all values are still to be tried
  pub begins : at < length choices → at < length values → filled_from sheet p s choices values at ≡ first_of after (up_from 0 (get_or choices at 0 - 0))
  unfolding filled_from
  begins h k =
      let e : suc at ≡ at + 1 = omega arith in
      let z : get_or choices at 0 ≡ get_or choices at 0 - 0 = omega arith in
      ap (λ (l : List ℕ). first_list (map up_to l) (λ v. model (take at values ++ v))) (drop-cons choices at 0 h)
      ∙ ap (λ (n : ℕ). first_list (up_to (get_or choices at 0) ∷ map up_to (drop n choices)) (λ v. model (take at values ++ v))) e
      ∙ first_of-cong (λ d. prefix d (first_list rest (λ v. model (take at values ++ (d ∷ v))))) after (up_to (get_or choices at 0)) (λ d _. ap (prefix d) (first_cong rest (λ v. model (take at values ++ (d ∷ v))) (λ v. model (take (at + 1) (set values at d) ++ v)) (λ v _. ap model (same d v))))
      ∙ ap (λ (n : ℕ). first_of after (up_from 0 n)) z
    where
      rest : List (List ℕ)
      rest = map up_to (drop (at + 1) choices)

      same : (d : ℕ) (v : List ℕ) → take at values ++ (d ∷ v) ≡ take (at + 1) (set values at d) ++ v
      same d v = sym (ap (λ (l : List ℕ). l ++ v) (guess-taken values at d k) ∙ append_assoc (take at values) (d ∷ []) v)

  -- every cell is filled
  full : length choices ≤ at → filled_from sheet p s choices values at ≡ cond (model (take at values)) (some []) none
  unfolding filled_from
  full h =
      ap (λ (l : List ℕ). first_list (map up_to l) (λ v. model (take at values ++ v))) (drop_of_length-le choices {i = at} h)
      ∙ ap (λ (l : List ℕ). cond (model l) (some []) none) (append-nil (take at values))

-- the values from d on, of n
module _ (f : ℕ → Option (List ℕ)) (n d : ℕ) where
  one_more : d < n → first_of f (up_from d (n - d)) ≡ or_else (f d) (first_of f (up_from (d + 1) (n - (d + 1))))
  one_more h =
      let e : n - d ≡ suc (n - (d + 1)) = omega arith in
      let z : suc d ≡ d + 1 = omega arith in
      ap (λ (k : ℕ). first_of f (up_from d k)) e ∙ ap (λ (m : ℕ). or_else (f d) (first_of f (up_from m (n - (d + 1))))) z

  pub hit : d < n → (v : List ℕ) → f d ≡ some v → first_of f (up_from d (n - d)) ≡ f d
  hit h v e = one_more h ∙ ap (λ (o : Option (List ℕ)). or_else o (first_of f (up_from (d + 1) (n - (d + 1))))) e ∙ sym e

  pub on : d < n → f d ≡ none → first_of f (up_from d (n - d)) ≡ first_of f (up_from (d + 1) (n - (d + 1)))
  on h e = one_more h ∙ ap (λ (o : Option (List ℕ)). or_else o (first_of f (up_from (d + 1) (n - (d + 1))))) e

  pub ends : n ≤ d → first_of f (up_from d (n - d)) ≡ none
  ends h = let e : n - d ≡ 0 = omega arith in ap (λ (k : ℕ). first_of f (up_from d k)) e

-- a full case is a model, or it is none
pub judged-full : (sheet : List ℕ) (p : Problem) (s : ℕ) (choices : List ℕ) (cells : PlainCells) (at : ℕ) (b : Bool) → length choices ≤ at
    → b ≡ is_model s (problem_in sheet p).symbols (problem_in sheet p).clauses (take at cells.values) → cond {A = rust.Result PlainCells PlainCells} b (Ok cells) (Err cells) ≡ filling cells at (filled_from sheet p s choices cells.values at)
judged-full sheet p s choices cells at b h e = go b ∙ ap (filling cells at) (sym (full sheet p s choices cells.values at h ∙ ap (λ (c : Bool). cond c (some []) none) (sym e)))
  where
    go : (b : Bool) → cond {A = rust.Result PlainCells PlainCells} b (Ok cells) (Err cells) ≡ filling cells at (cond b (some []) none)
    go true = ap {B = rust.Result PlainCells PlainCells} (λ (l : List ℕ). Ok (record { values = l })) (sym (put-none cells.values at))
    go false = refl

-- what the filling after the guess d tells, the tables being the old ones before it
module _ (sheet : List ℕ) (p : Problem) (s : ℕ) (choices : List ℕ) (old cells : PlainCells) (at d : ℕ) (r : rust.Result PlainCells PlainCells) (same : cells ≡ old)
    (e : r ≡ filling (record { values = set cells.values at d }) (at + 1) (filled_from sheet p s choices (set cells.values at d) (at + 1))) where
  abbrev rest : PlainCells → Option (List ℕ)
  rest k = filled_from sheet p s choices (set k.values at d) (at + 1)

  of-old : r ≡ filling (record { values = set old.values at d }) (at + 1) (rest old)
  of-old = e ∙ ap (λ (k : PlainCells). filling (record { values = set k.values at d }) (at + 1) (rest k)) same

  pub guess-found : at < length old.values → is_ok r ≡ true → (r ≡ filling old at (prefix d (rest old))) × ((v : List ℕ) × (prefix d (rest old) ≡ some v))
  guess-found h b = go (rest old) of-old
    where
      go : (x : Option (List ℕ)) → r ≡ filling (record { values = set old.values at d }) (at + 1) x → (r ≡ filling old at (prefix d x)) × ((v : List ℕ) × (prefix d x ≡ some v))
      go none k = absurd (false≢true (sym (ap (λ (o : rust.Result PlainCells PlainCells). is_ok o) k) ∙ b))
      go (some v) k = (k ∙ ap {B = rust.Result PlainCells PlainCells} (λ (l : List ℕ). Ok (record { values = l })) (guess-put old.values at d h v), (d ∷ v, refl))

  pub guess-missed : is_ok r ≡ false → prefix d (rest old) ≡ none
  guess-missed b = go (rest old) of-old
    where
      go : (x : Option (List ℕ)) → r ≡ filling (record { values = set old.values at d }) (at + 1) x → prefix d x ≡ none
      go none k = refl
      go (some v) k = absurd (false≢true (sym b ∙ ap (λ (o : rust.Result PlainCells PlainCells). is_ok o) k))
