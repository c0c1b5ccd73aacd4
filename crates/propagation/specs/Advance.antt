-- One literal of the trail made false in its clauses, and the clauses looked at; and what propagation to the end gives.
use Rattle.std.specs.Prelude.{◌≡◌, Bool, true, false, List, [], ℕ, ◌+◌, ◌*◌, ◌/◌, ◌<◌, length, get_or, Result, Ok, Err}
use Rattle.std.proofs.Math.Seq.{slice}
use Rattle.propagation.specs.declared.Front.{Front}
use Rattle.propagation.specs.Weights.{changed, less}
use Rattle.propagation.specs.Units.{Visit, scanned}
use Rattle.propagation.specs.WorkArea.{negated, trail, values, falses, WorkHeld, Frame}
use Rattle.propagation.specs.Forcing.{Forces, Void, Quiet}

-- the literal that the entry at head makes false
abbrev pub sinking : ℕ → ℕ → List ℕ → ℕ
sinking v head w = negated (get_or w (v + head) 0 / 2)

-- w with the weights of the clauses that have x lowered by x's part
abbrev pub sunk : ℕ → ℕ → List ℕ → List ℕ
sunk v x w =
    changed (less (64 * x + 1)) (slice (get_or w (2 * v + 2 * x) 0) (get_or w (2 * v + 2 * x + 1) 0) w) w

abbrev pub sunk_scanned : ℕ → ℕ → ℕ → List ℕ → Visit
sunk_scanned v x len w =
    scanned v (slice (get_or w (2 * v + 2 * x) 0) (get_or w (2 * v + 2 * x + 1) 0) (sunk v x w)) len (sunk v x w)

abbrev pub advanced : ℕ → ℕ → ℕ → List ℕ → Visit
advanced v head len w = sunk_scanned v (sinking v head w) len w

-- a work area that holds some clauses
pub record Ready (v head len : ℕ) (w : List ℕ) : Type 0 where
  pub clauses : List (List ℕ)
  pub held : WorkHeld v clauses head len w

-- every clause is quiet after the first head entries
abbrev pub Calm : ℕ → List (List ℕ) → ℕ → ℕ → List ℕ → Type 0
Calm v cs head len w =
    (i : ℕ) → i < length cs → Quiet (falses (trail w v head)) (values v (trail w v len)) (get_or cs i [])

-- From w, a trail of len entries of which start had been made false in their clauses, to w': only forced entries
-- are new, and either a clause is wholly false or every entry is made false and every clause is quiet.
pub record Propagated (v : ℕ) (cs : List (List ℕ)) (start len : ℕ) (w : List ℕ) (head' len' : ℕ) (clash : Bool) (w' : List ℕ) : Type 0 where
  pub held : WorkHeld v cs head' len' w'
  pub frame : Frame v (length cs) w w'
  pub forces : Forces v cs (trail w v len) (trail w' v len')
  pub calm : clash ≡ false → (head' ≡ len') × Calm v cs head' len' w'
  pub void : clash ≡ true → Void cs (falses (trail w' v len'))
  pub ahead : clash ≡ true → start < head'

-- of whatever clauses the work area holds that are quiet
abbrev pub PropagatesFrom : ℕ → ℕ → ℕ → List ℕ → Result ℕ Front → List ℕ → Type 0
PropagatesFrom v start len w (Ok n) w' =
    (cs : List (List ℕ)) → WorkHeld v cs start len w → Calm v cs start len w → Propagated v cs start len w n n false w'
PropagatesFrom v start len w (Err front) w' =
    (cs : List (List ℕ)) → WorkHeld v cs start len w → Calm v cs start len w → Propagated v cs start len w front.head front.len true w'
