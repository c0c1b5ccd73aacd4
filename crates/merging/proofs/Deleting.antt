-- Codes renamed in place, one after the other, and four of them deleted, those after them moved up.
use Prim.Native.Nat.{ℕ, suc, ◌+◌, ◌-◌, ◌≤◌, ◌<◌}
use mathlib.Core.Path.{◌≡◌, sym, ap, ◌∙◌}
use mathlib.Core.List.{List, [], ◌∷◌, ◌++◌, map}
use native.Mathlib.Omega.{arith}
use lib.ListN.{length, get_or, take, drop, set, length-map, length-drop}
use lib.Seq.{length-take-le, take-suc, drop-cons, set_at, append_snoc, get_or-append_seam, get_or-take, take_at, drop_at, take-take, take-add, paste, take-paste}
use Rattle.theory.proofs.Lists.{get_d_map, map-take}
use Rattle.std.specs.List.{copy_within}
use Rattle.merging.specs.Merged.{renamed_code, deleted_at, without_at}

-- the first i codes are renamed, the others as they were
abbrev pub renamed_to : (ℕ → ℕ) → List ℕ → ℕ → List ℕ
renamed_to f ns i = take i (map f ns) ++ drop i ns

module _ (f : ℕ → ℕ) (ns : List ℕ) (i : ℕ) (h : i < length ns) where
  long : length (take i (map f ns)) ≡ i
  long = length-take-le i (map f ns) (omega (arith, length-map ns f))

  split : renamed_to f ns i ≡ take i (map f ns) ++ (get_or ns i 0 ∷ drop (suc i) ns)
  split = ap (λ (r : List ℕ). take i (map f ns) ++ r) (drop-cons ns i 0 h)

  -- the next one is as it was
  renamed-next : get_or (renamed_to f ns i) i 0 ≡ get_or ns i 0
  renamed-next =
      ap (λ (r : List ℕ). get_or r i 0) split
      ∙ ap (λ (j : ℕ). get_or (take i (map f ns) ++ (get_or ns i 0 ∷ drop (suc i) ns)) j 0) (sym long)
      ∙ get_or-append_seam (take i (map f ns)) (get_or ns i 0) (drop (suc i) ns) 0

  -- and is renamed
  renamed-more : set (renamed_to f ns i) i (f (get_or ns i 0)) ≡ renamed_to f ns (suc i)
  renamed-more =
      ap (λ (r : List ℕ). set r i (f (get_or ns i 0))) split
      ∙ set_at (take i (map f ns)) (get_or ns i 0) (drop (suc i) ns) (f (get_or ns i 0)) i long
      ∙ sym (append_snoc (take i (map f ns)) (f (get_or ns i 0)) (drop (suc i) ns))
      ∙ ap (λ (r : List ℕ). r ++ drop (suc i) ns)
      (ap (λ (n : ℕ). take i (map f ns) ++ (n ∷ [])) (sym (get_d_map f ns i h)) ∙ sym (take-suc (map f ns) i 0 (omega (arith, length-map ns f))))

  pub renamed_step : (out : List ℕ) → out ≡ renamed_to f ns i → set out i (f (get_or out i 0)) ≡ renamed_to f ns (suc i)
  renamed_step out e =
      ap (λ (r : List ℕ). set r i (f (get_or r i 0))) e ∙ ap (λ (n : ℕ). set (renamed_to f ns i) i (f n)) renamed-next ∙ renamed-more

-- all of the first n are
pub renamed-all : (f : ℕ → ℕ) (ns : List ℕ) (n : ℕ) → n ≤ length ns → take n (renamed_to f ns n) ≡ map f (take n ns)
renamed-all f ns n h = take_at (take n (map f ns)) (drop n ns) n (length-take-le n (map f ns) (omega (arith, length-map ns f))) ∙ sym (map-take f n ns)

-- the codes from `at + 4` to n + 4 are moved up by four: the first n are then those left of n + 4
pub moved_all : (ns : List ℕ) (at n : ℕ) → at ≤ n → n + 4 ≤ length ns → take n (copy_within ns (at + 4) (n + 4) at) ≡ deleted_at (take (n + 4) ns) at
moved_all ns at n from h =
    let s : List ℕ = drop (at + 4) ns in
    let j : n + 4 - (at + 4) ≡ n - at = omega arith in
    let k : at + (n - at) ≡ n = omega arith in
    let d : length s ≡ length ns - (at + 4) = length-drop (at + 4) ns in
    let e : at + 4 + (n - at) ≡ n + 4 = omega arith in
    let w : length (take (at + 4) ns) ≡ at + 4 = length-take-le (at + 4) ns (omega arith) in
    let moved : drop (at + 4) (take (n + 4) ns) ≡ take (n - at) s =
    ap (λ (j : ℕ). drop (at + 4) (take j ns)) (sym e)
    ∙ ap (drop (at + 4)) (take-add (at + 4) (n - at) ns)
    ∙ drop_at (take (at + 4) ns) (take (n - at) s) (at + 4) w in
    ap (λ (i : ℕ). take n (paste ns at s i)) j
    ∙ ap (λ (i : ℕ). take i (paste ns at s (n - at))) (sym k)
    ∙ take-paste ns at s (n - at) (omega arith) (omega arith)
    ∙ ap (λ (r : List ℕ). r ++ take (n - at) s) (sym (take-take at (n + 4) ns (omega arith)))
    ∙ ap (λ (r : List ℕ). take at (take (n + 4) ns) ++ r) (sym moved)

-- the first n codes renamed and four of them deleted, by what stands in the whole list
pub without_at-first : (ns : List ℕ) (n at : ℕ) → at + 4 ≤ n
    → deleted_at (map (renamed_code (get_or ns (at + 2) 0) (get_or ns (at + 3) 0)) (take n ns)) at ≡ without_at (take n ns) at
without_at-first ns n at h =
    let x : get_or ns (at + 2) 0 ≡ get_or (take n ns) (at + 2) 0 = sym (get_or-take n ns (at + 2) 0 (omega arith)) in
    let y : get_or ns (at + 3) 0 ≡ get_or (take n ns) (at + 3) 0 = sym (get_or-take n ns (at + 3) 0 (omega arith)) in
    ap (λ (a : ℕ). deleted_at (map (renamed_code a (get_or ns (at + 3) 0)) (take n ns)) at) x
    ∙ ap (λ (b : ℕ). deleted_at (map (renamed_code (get_or (take n ns) (at + 2) 0) b) (take n ns)) at) y
