-- Two bytes written at the cursor.
use Prim.Native.Nat.{ℕ, ◌+◌, ◌<◌}
use mathlib.Core.Path.{◌≡◌, refl}
use mathlib.Core.List.{List, [], ◌∷◌, ◌++◌}
use native.Mathlib.Omega.{arith}
use lib.ListN.{length, set}
use Rattle.text.specs.Put.{put, put-cursor, cursor-more}

pub two-more : (l l' : List ℕ) (at e : ℕ) (vs : List ℕ) (x y : ℕ) → l' ≡ put l at vs → e ≡ at + length vs → e + 1 < length l → set (set l' e x) (e + 1) y ≡ put l at ((vs ++ (x ∷ [])) ++ (y ∷ []))
two-more l l' at e vs x y p n h =
    put-cursor l (set l' e x) at (e + 1) (vs ++ (x ∷ [])) ((vs ++ (x ∷ [])) ++ (y ∷ [])) y
    (put-cursor l l' at e vs (vs ++ (x ∷ [])) x p n (omega arith) refl)
    (cursor-more at e vs (vs ++ (x ∷ [])) x n refl)
    h
    refl
