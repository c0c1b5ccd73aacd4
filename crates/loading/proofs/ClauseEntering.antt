-- A turn of entering a clause: one literal more of it, from its last to its first.
use mathlib.Core.Path.{◌≡◌, refl, sym, ap, ◌∙◌, subst, subst⁻¹}
use mathlib.Core.Bool.{Bool, true, false, cond}
use mathlib.Core.List.{List, [], ◌∷◌, ◌++◌, map, append-nil, map-append}
use Prim.Native.Nat.{ℕ, zero, suc, ◌+◌, ◌*◌, ◌<◌, ◌^◌}
use native.Mathlib.Omega.{arith}
use lib.Dec.{eqb}
use Rattle.std.proofs.lemmas.List.{append_assoc}
use lib.ListN.{length, get_or, length-append, length-map}
use lib.Seq.{get_or-append_seam, length-slice}
use Rattle.theory.specs.Lists.{elem}
use Rattle.theory.proofs.Lists.{sum-map-append, elem-here}
use Rattle.theory.proofs.Tests.{or_right}
use Rattle.propagation.specs.Clauses.{holders, once}
use Rattle.propagation.proofs.Once.{once-length}
use Rattle.loading.specs.Filling.{from, to, occurs, occurrences, Filling, enters}
use Rattle.loading.specs.Loading.{Entered, Enterable, LiteralEnterable}
use Rattle.loading.proofs.Occurrences.{elem-occurs, holders-≤}
use Rattle.loading.proofs.Entering.{holders-snoc}
use Rattle.loading.proofs.Filled.{opened, enters-filling}

elem_at : (c : List ℕ) (i : ℕ) → i < length c → elem (get_or c i 0) c ≡ true
elem_at [] i h = absurd (omega arith)
elem_at (x ∷ xs) zero h = elem-here x xs
elem_at (x ∷ xs) (suc i) h = or_right (eqb (get_or xs i 0) x) (elem (get_or xs i 0) xs) (elem_at xs i (omega arith))

-- the literals of the clause are in, but for the rest, which are the first of them
abbrev pub EntersBut : ℕ → List ℕ → ℕ → List ℕ → List ℕ → List ℕ → Type 0
EntersBut v clause number w₀ w rest =
    (done : List ℕ) × (rest ++ done ≡ clause)
    × ((es ds : List (List ℕ)) → Entered v (es ++ (clause ∷ ds)) es w₀ → length es ≡ number
    → Filling v (es ++ (clause ∷ ds)) (map once es ++ (once done ∷ [])) w)

pub entering-start : (v : ℕ) (clause : List ℕ) (number : ℕ) (w : List ℕ) → EntersBut v clause number w w clause
entering-start v clause number w =
    ([], append-nil clause, λ es ds f n. opened v (es ++ (clause ∷ ds)) (map once es) w f (omega (arith, length-map es once, length-append es (clause ∷ ds))))

module _ (v : ℕ) (clause : List ℕ) (number : ℕ) (w₀ w : List ℕ) (rest : List ℕ) (u : ℕ) (e : Enterable v clause number w₀)
    (g : EntersBut v clause number w₀ w (rest ++ (u ∷ []))) where
  abbrev done : List ℕ
  done = g.0

  abbrev d : List ℕ
  d = once done

  whole : rest ++ (u ∷ done) ≡ clause
  whole = sym (append_assoc rest (u ∷ []) done) ∙ g.1

  long : length clause ≡ length rest + suc (length done)
  long = ap length (sym whole) ∙ length-append rest (u ∷ done)

  here : get_or clause (length rest) 0 ≡ u
  here = ap (λ (l : List ℕ). get_or l (length rest) 0) (sym whole) ∙ get_or-append_seam rest u done 0

  go : length rest < length clause
  go = omega (arith, long)

  is : u < 2 * v
  is = rw here at (e.range (length rest) go)

  has : elem u clause ≡ true
  has = rw here at (elem_at clause (length rest) go)

  d-short : length d < 63
  d-short = omega (arith, once-length done, long, e.short)

  module _ (es ds : List (List ℕ)) (f : Entered v (es ++ (clause ∷ ds)) es w₀) (n : length es ≡ number) where
    abbrev cs : List (List ℕ)
    cs = es ++ (clause ∷ ds)

    filling : Filling v cs (map once es ++ (d ∷ [])) w
    filling = g.2 es ds f n

    many : occurrences u cs ≡ occurrences u es + (occurs u clause + occurrences u ds)
    many = sum-map-append (occurs u) es (clause ∷ ds)

    -- the block of u has room for this clause
    space : elem u d ≡ false → to v u w < from v u w + occurrences u cs
    space a =
        let s : length (holders (7 * v) u (map once es ++ (d ∷ []))) ≡ length (holders (7 * v) u (map once es)) =
        ap length (holders-snoc u (map once es) d (7 * v) ∙ ap (λ (b : Bool). holders (7 * v) u (map once es) ++ cond b ((7 * v + length (map once es)) ∷ []) []) a ∙ append-nil (holders (7 * v) u (map once es))) in
        let l = length-slice (from v u w) (to v u w) w (omega (arith, filling.within u is, filling.room u is)) in
        omega (arith, l, ap length (filling.holds u is), s, holders-≤ (7 * v) u es, many, elem-occurs u clause has, filling.ordered u is)

  pub literal-enterable : LiteralEnterable v u (7 * v + number) w
  literal-enterable =
      record {
        cs = e.before ++ (clause ∷ e.after);
        es = map once e.before;
        d = d;
        filling = filling e.before e.after e.entered e.at;
        literal = is;
        at = omega (arith, e.at, length-map e.before once);
        space = space e.before e.after e.entered e.at;
        short = d-short;
        fits = e.fits;
      }

  pub entering-turn : (w' : List ℕ) → w' ≡ enters v u (7 * v + number) w → EntersBut v clause number w₀ w' rest
  entering-turn w' k = (
    u ∷ done,
    whole,
    λ es ds f n.
        let c : 7 * v + length (map once es) ≡ 7 * v + number = omega (arith, n, length-map es once) in
        let r = enters-filling v (es ++ (clause ∷ ds)) (map once es) d w (filling es ds f n) u is (space es ds f n) d-short (elem u d) refl in
        subst⁻¹ (λ (l : List ℕ). Filling v (es ++ (clause ∷ ds)) (map once es ++ (once (u ∷ done) ∷ [])) l) (k ∙ ap (λ (k : ℕ). enters v u k w) (sym c)) r,
  )

pub entering-done : (v : ℕ) (clause : List ℕ) (number : ℕ) (w₀ w : List ℕ) → EntersBut v clause number w₀ w []
    → (es ds : List (List ℕ)) → Entered v (es ++ (clause ∷ ds)) es w₀ → length es ≡ number → Entered v (es ++ (clause ∷ ds)) (es ++ (clause ∷ [])) w
entering-done v clause number w₀ w g es ds f n =
    subst⁻¹ (λ (l : List (List ℕ)). Filling v (es ++ (clause ∷ ds)) l w) (map-append once es (clause ∷ []))
    (subst (λ (c : List ℕ). Filling v (es ++ (clause ∷ ds)) (map once es ++ (once c ∷ [])) w) g.1 (g.2 es ds f n))

pub address-fits : (v : ℕ) (clause : List ℕ) (number : ℕ) (w : List ℕ) → Enterable v clause number w → 7 * v + number < 2 ^ 32
address-fits v clause number w e = omega (arith, e.fits, e.at, length-append e.before (clause ∷ e.after))
