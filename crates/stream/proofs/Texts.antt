-- Laws of the text of a clause, one literal at a time.
use Prim.Native.Nat.{ℕ, suc, ◌+◌, ◌/◌, ◌%◌, ◌≤◌, ◌<◌}
use mathlib.Core.Path.{◌≡◌, refl, sym, ap, ◌∙◌}
use mathlib.Core.Bool.{Bool, true, false}
use mathlib.Core.List.{List, [], ◌∷◌, ◌++◌, append_assoc, append-nil, map-append}
use native.Mathlib.Omega.{arith}
use borrow.Author.Tests.{eq-eqb, ne_eqb, ltb-true, ltb-false}
use lib.Dec.{ltb}
use lib.ListN.{length, get_or, set, take, drop, length-append, take-append-drop}
use lib.Seq.{take-suc, take-length}
use Rattle.theory.specs.Lists.{concat_map}
use Rattle.theory.specs.Bytes.{bytes, decimal, space}
use Rattle.theory.specs.Propositional.{PropClause}
use Rattle.theory.specs.Dimacs.{minus, literal_text, clause_text, header}
use Rattle.theory.proofs.Lists.{concat_map-append}
use Rattle.text.specs.Put.{put, put-none, put-run, put-cursor, cursor-run, cursor-more}
use Rattle.stream.specs.Literals.{literal_of, prop_clause_of, literal_spaced}

-- an odd code says no
pub spaced-no : (u : ℕ) → u % 2 ≡ 1 → literal_spaced (literal_of u) ≡ minus ∷ (decimal (u / 2 + 1) ++ (space ∷ []))
unfolding literal_text
spaced-no u e = rw (ne_eqb (u % 2) 0 (λ z. absurd (omega arith)))

-- an even one yes
pub spaced-yes : (u : ℕ) → (u % 2 ≡ 1 → ⊥) → literal_spaced (literal_of u) ≡ decimal (u / 2 + 1) ++ (space ∷ [])
unfolding literal_text
spaced-yes u n = let e : u % 2 ≡ 0 = omega (arith, n) in rw (eq-eqb (u % 2) 0 e)

pub length-spaced : (u : ℕ) → length (literal_spaced (literal_of u)) ≡ length (decimal (u / 2 + 1)) + 1 + u % 2
length-spaced u = go (ltb (u % 2) 1) refl
  where
    plain : length (decimal (u / 2 + 1) ++ (space ∷ [])) ≡ length (decimal (u / 2 + 1)) + 1
    plain = length-append (decimal (u / 2 + 1)) (space ∷ [])

    go : (b : Bool) → ltb (u % 2) 1 ≡ b → length (literal_spaced (literal_of u)) ≡ length (decimal (u / 2 + 1)) + 1 + u % 2
    go true e = let lt : u % 2 < 1 = ltb-true (u % 2) 1 e in omega (arith, ap length (spaced-yes u (λ z. absurd (omega arith))), plain)
    go false e = let ge : 1 ≤ u % 2 = ltb-false (u % 2) 1 e in omega (arith, ap length (spaced-no u (omega arith)), plain)

-- the literals of a clause's line
abbrev pub body : PropClause → List ℕ
body c = concat_map literal_spaced c

pub clause_text-body : (c : PropClause) → clause_text c ≡ body c ++ (48 ∷ 10 ∷ [])
unfolding clause_text
clause_text-body c = refl

-- one literal more
pub body_more : (us : List ℕ) (i : ℕ) → i < length us → body (prop_clause_of (take (suc i) us)) ≡ body (prop_clause_of (take i us)) ++ literal_spaced (literal_of (get_or us i 0))
body_more us i h =
    ap (λ (l : List ℕ). body (prop_clause_of l)) (take-suc us i 0 h)
    ∙ ap body (map-append literal_of (take i us) (get_or us i 0 ∷ []))
    ∙ concat_map-append literal_spaced (prop_clause_of (take i us)) (literal_of (get_or us i 0) ∷ [])
    ∙ ap (λ (l : List ℕ). body (prop_clause_of (take i us)) ++ l) (append-nil (literal_spaced (literal_of (get_or us i 0))))

-- the literals so far and the next one are within the line
pub body-fits : (us : List ℕ) (i : ℕ) → i < length us
    → length (body (prop_clause_of (take i us))) + length (literal_spaced (literal_of (get_or us i 0))) + 2 ≤ length (clause_text (prop_clause_of us))
body-fits us i h =
    omega (
      arith,
      ap length (clause_text-body (prop_clause_of us)),
      length-append (body (prop_clause_of us)) (48 ∷ 10 ∷ []),
      ap length whole,
      length-append (body (prop_clause_of (take (suc i) us))) (body (prop_clause_of (drop (suc i) us))),
      ap length (body_more us i h),
      length-append (body (prop_clause_of (take i us))) (literal_spaced (literal_of (get_or us i 0))),
    )
  where
    whole : body (prop_clause_of us) ≡ body (prop_clause_of (take (suc i) us)) ++ body (prop_clause_of (drop (suc i) us))
    whole =
        ap (λ (l : List ℕ). body (prop_clause_of l)) (sym (take-append-drop (suc i) us))
        ∙ ap body (map-append literal_of (take (suc i) us) (drop (suc i) us))
        ∙ concat_map-append literal_spaced (prop_clause_of (take (suc i) us)) (prop_clause_of (drop (suc i) us))

-- all literals, and the line's end
pub body-all : (us : List ℕ) (i : ℕ) → i ≡ length us → body (prop_clause_of (take i us)) ++ (48 ∷ 10 ∷ []) ≡ clause_text (prop_clause_of us)
body-all us i e = ap (λ (j : ℕ). body (prop_clause_of (take j us)) ++ (48 ∷ 10 ∷ [])) e ∙ ap (λ (l : List ℕ). body (prop_clause_of l) ++ (48 ∷ 10 ∷ [])) (take-length us) ∙ sym (clause_text-body (prop_clause_of us))

-- A run of stores that writes a header: the first word, a number and a space, a number, the line's end.
module _ (v m : ℕ) where
  parts : header v m ≡ ((bytes "p cnf " ++ (decimal v ++ (space ∷ []))) ++ decimal m) ++ (10 ∷ [])
  unfolding header
  parts =
      ap (λ (l : List ℕ). bytes "p cnf " ++ l) (sym (append_assoc (decimal v) (space ∷ []) (decimal m ++ (10 ∷ []))))
      ∙ sym (append_assoc (bytes "p cnf ") (decimal v ++ (space ∷ [])) (decimal m ++ (10 ∷ [])))
      ∙ sym (append_assoc (bytes "p cnf " ++ (decimal v ++ (space ∷ []))) (decimal m) (10 ∷ []))

  pub length-header : length (header v m) ≡ 8 + length (decimal v) + length (decimal m)
  length-header =
      ap length parts
      ∙ length-append ((bytes "p cnf " ++ (decimal v ++ (space ∷ []))) ++ decimal m) (10 ∷ [])
      ∙ omega (
        arith,
        length-append (bytes "p cnf " ++ (decimal v ++ (space ∷ []))) (decimal m),
        length-append (bytes "p cnf ") (decimal v ++ (space ∷ [])),
        length-append (decimal v) (space ∷ []),
      )

  pub header-written : (l l₁ l₂ l₃ : List ℕ) (at a b e : ℕ) → at + length (header v m) ≤ length l
      → l₁ ≡ put l at (bytes "p cnf ") → a ≡ at + 6
      → l₂ ≡ put l₁ a (decimal v ++ (space ∷ [])) → b ≡ a + length (decimal v ++ (space ∷ []))
      → l₃ ≡ put l₂ b (decimal m) → e ≡ b + length (decimal m)
      → (set l₃ e 10 ≡ put l at (header v m)) × (e + 1 ≡ at + length (header v m))
  header-written l l₁ l₂ l₃ at a b e room p₁ n₁ p₂ n₂ p₃ n₃ =
      let c = length-append (decimal v) (space ∷ []) in
      let q₂ = put-run l l₁ l₂ at a (bytes "p cnf ") (decimal v ++ (space ∷ [])) p₁ n₁ p₂ (omega (arith, length-header)) in
      let m₂ = cursor-run at a b (bytes "p cnf ") (decimal v ++ (space ∷ [])) n₁ n₂ in
      let q₃ = put-run l l₂ l₃ at b (bytes "p cnf " ++ (decimal v ++ (space ∷ []))) (decimal m) q₂ m₂ p₃ (omega (arith, length-header)) in
      let m₃ = cursor-run at b e (bytes "p cnf " ++ (decimal v ++ (space ∷ []))) (decimal m) m₂ n₃ in (
        put-cursor l l₃ at e ((bytes "p cnf " ++ (decimal v ++ (space ∷ []))) ++ decimal m) (header v m) 10 q₃ m₃ (omega (arith, length-header)) (sym parts),
        omega (arith, length-header),
      )

-- a literal that says no
pub no-written : (l l' : List ℕ) (at e u : ℕ) → u % 2 ≡ 1 → at < length l → at + length (literal_spaced (literal_of u)) ≤ length l
    → l' ≡ put (set l at minus) (at + 1) (decimal (u / 2 + 1) ++ (space ∷ [])) → e ≡ at + 1 + length (decimal (u / 2 + 1) ++ (space ∷ []))
    → (l' ≡ put l at (literal_spaced (literal_of u))) × (e ≡ at + length (literal_spaced (literal_of u)))
no-written l l' at e u odd h room p n =
    let s = spaced-no u odd in
    let d = decimal (u / 2 + 1) ++ (space ∷ []) in
    let first = put-cursor l l at at [] (minus ∷ []) minus (sym (put-none l at)) (omega arith) h refl in (
      put-run l (set l at minus) l' at (at + 1) (minus ∷ []) d first (omega arith) p (omega (arith, ap length s)) ∙ ap (put l at) (sym s),
      omega (arith, ap length s),
    )

-- the end of a clause's line
pub line-ended : (l l' : List ℕ) (at e : ℕ) (us : List ℕ) (i : ℕ) → i ≡ length us → at + length (clause_text (prop_clause_of us)) ≤ length l
    → l' ≡ put l at (body (prop_clause_of (take i us))) → e ≡ at + length (body (prop_clause_of (take i us)))
    → (set (set l' e 48) (e + 1) 10 ≡ put l at (clause_text (prop_clause_of us))) × (e + 2 ≡ at + length (clause_text (prop_clause_of us)))
line-ended l l' at e us i z room p n =
    let b = body (prop_clause_of (take i us)) in
    let long = length-append b (48 ∷ 10 ∷ []) in
    let whole = body-all us i z in
    let one = put-cursor l l' at e b (b ++ (48 ∷ [])) 48 p n (omega (arith, ap length whole)) refl in
    let on = cursor-more at e b (b ++ (48 ∷ [])) 48 n refl in (
      put-cursor l (set l' e 48) at (e + 1) (b ++ (48 ∷ [])) (clause_text (prop_clause_of us)) 10 one on (omega (arith, ap length whole)) (append_assoc b (48 ∷ []) (10 ∷ []) ∙ whole),
      omega (arith, ap length whole),
    )

-- the room for the line's end
pub end_fits : (us : List ℕ) (i : ℕ) → i ≡ length us → length (body (prop_clause_of (take i us))) + 2 ≡ length (clause_text (prop_clause_of us))
end_fits us i e = sym (length-append (body (prop_clause_of (take i us))) (48 ∷ 10 ∷ [])) ∙ ap length (body-all us i e)
