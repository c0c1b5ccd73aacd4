-- A candidate's cells against those held, cell by cell: what is kept, and how the candidate stands then.
use Rattle.std.specs.Prelude.{ℕ, ◌≡◌, cond, List, [], ◌∷◌, ltb, length, take, drop}
use Rattle.text.specs.Put.{put}
use Rattle.rearranging.specs.declared.standing.Standing.{Standing}
use Rattle.rearranging.specs.declared.standing.Standing.TheVariants.{Same, Before, After}

-- the standing after one cell more, of the candidate's value u and the value w held
abbrev pub standing_after : Standing → ℕ → ℕ → Standing
standing_after Same u w = cond (ltb u w) Before (cond (ltb w u) After Same)
standing_after Before u w = Before
standing_after After u w = After

-- the value that is kept there
abbrev pub kept_value : Standing → ℕ → ℕ → ℕ
kept_value Same u w = cond (ltb u w) u w
kept_value Before u w = u
kept_value After u w = w

-- the standing after the candidate's cells us against the cells ws
abbrev pub stands : List ℕ → List ℕ → Standing → Standing
stands [] ws q = q
stands (u ∷ us) [] q = q
stands (u ∷ us) (w ∷ ws) q = stands us ws (standing_after q u w)

-- the values that are kept
abbrev pub kept_cells : List ℕ → List ℕ → Standing → List ℕ
kept_cells [] ws q = ws
kept_cells (u ∷ us) [] q = []
kept_cells (u ∷ us) (w ∷ ws) q = kept_value q u w ∷ kept_cells us ws (standing_after q u w)

-- the candidate's cells us were taken from place `at` on
pub record CandidateTaken (us : List ℕ) (at : ℕ) (held held' : List ℕ) (q q' : Standing) : Type 0 where
  pub left : held' ≡ put held at (kept_cells us (take (length us) (drop at held)) q)
  pub onto : q' ≡ stands us (take (length us) (drop at held)) q
