-- Lines of a solver's text: lines that are each ended by LF are cut into these lines, and no other text is.
use Prim.Native.Nat.{ℕ}
use mathlib.Core.Path.{◌≡◌, refl, sym, ap, ap₂, ◌∙◌}
use mathlib.Core.Bool.{Bool, true, false, cond, not, ◌&&◌}
use mathlib.Core.Option.{Option, none, some, some-injective}
use mathlib.Core.List.{List, [], ◌∷◌, ◌++◌, append_assoc}
use lib.Dec.{eqb}
use Rattle.theory.specs.Lists.{all, concat_map, prefix}
use Rattle.theory.specs.Bytes.{LF}
use Rattle.theory.proofs.Tests.{eqb-true, and_left, and_right, and-join, false_of_not}
use Rattle.theory.proofs.Lines.{in_line}
use Rattle.solver.specs.SolverLines.{onto_line, cut_lines}
use Rattle.solver.proofs.Options.{none≢some}

-- the bytes of a line
abbrev pub ended : List ℕ → List ℕ
ended l = l ++ (LF ∷ [])

pub onto-front : (b : ℕ) (l : List ℕ) (o : Option (List (List ℕ))) → onto_line b (prefix l o) ≡ prefix (b ∷ l) o
onto-front b l none = refl
onto-front b l (some ls) = refl

read-line : (l rest : List ℕ) → all in_line l ≡ true → cut_lines (l ++ (LF ∷ rest)) ≡ prefix l (cut_lines rest)
read-line [] rest h = refl
read-line (b ∷ l) rest h =
    ap (λ (q : Bool). cond q (prefix [] (cut_lines (l ++ (LF ∷ rest)))) (onto_line b (cut_lines (l ++ (LF ∷ rest))))) (false_of_not (eqb b LF) (and_left (in_line b) (all in_line l) h))
    ∙ ap (onto_line b) (read-line l rest (and_right (in_line b) (all in_line l) h)) ∙ onto-front b l (cut_lines rest)

-- lines, each ended by LF, are read as these lines
pub read-lines : (ls : List (List ℕ)) → all (all in_line) ls ≡ true → cut_lines (concat_map ended ls) ≡ some ls
read-lines [] h = refl
read-lines (l ∷ ls) h =
    ap cut_lines (append_assoc l (LF ∷ []) (concat_map ended ls))
    ∙ read-line l (concat_map ended ls) (and_left (all in_line l) (all (all in_line) ls) h)
    ∙ ap (prefix l) (read-lines ls (and_right (all in_line l) (all (all in_line) ls) h))

-- and no other text is
pub only-lines : (text : List ℕ) (ls : List (List ℕ)) → cut_lines text ≡ some ls → (concat_map ended ls ≡ text) × (all (all in_line) ls ≡ true)
only-lines [] ls e =
    let z : [] ≡ ls = some-injective [] ls e in
    (ap (concat_map ended) (sym z), ap (all (all in_line)) (sym z))
only-lines (b ∷ bs) ls e = go (eqb b LF) refl (cut_lines bs) refl e (λ ks k. only-lines bs ks k)
  where
    go : (q : Bool) → eqb b LF ≡ q → (o : Option (List (List ℕ))) → cut_lines bs ≡ o → cond q (prefix [] o) (onto_line b o) ≡ some ls
        → ((ks : List (List ℕ)) → cut_lines bs ≡ some ks → (concat_map ended ks ≡ bs) × (all (all in_line) ks ≡ true))
        → (concat_map ended ls ≡ b ∷ bs) × (all (all in_line) ls ≡ true)
    go true h none k e ih = absurd (none≢some ls e)
    go true h (some ks) k e ih =
        let r = ih ks k in
        let z : [] ∷ ks ≡ ls = some-injective ([] ∷ ks) ls e in
        (ap (concat_map ended) (sym z) ∙ ap₂ (λ (c : ℕ) (l : List ℕ). c ∷ l) (sym (eqb-true b LF h)) r.0, ap (all (all in_line)) (sym z) ∙ r.1)
    go false h none k e ih = absurd (none≢some ls e)
    go false h (some []) k e ih = absurd (none≢some ls e)
    go false h (some (l ∷ ks)) k e ih =
        let r = ih (l ∷ ks) k in
        let z : (b ∷ l) ∷ ks ≡ ls = some-injective ((b ∷ l) ∷ ks) ls e in (
          ap (concat_map ended) (sym z) ∙ ap (λ (t : List ℕ). b ∷ t) r.0,
          ap (all (all in_line)) (sym z)
              ∙ and-join (in_line b && all in_line l) (all (all in_line) ks)
              (and-join (in_line b) (all in_line l) (ap not h) (and_left (all in_line l) (all (all in_line) ks) r.1))
              (and_right (all in_line l) (all (all in_line) ks) r.1),
        )
