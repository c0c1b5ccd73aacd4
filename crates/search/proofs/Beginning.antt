-- Looking at every clause once, from an empty trail.
use mathlib.Core.Path.{◌≡◌, refl, ap, ◌∙◌, subst⁻¹}
use mathlib.Core.Bool.{Bool, true, false, true≢false, false≢true}
use mathlib.Core.List.{List, []}
use Prim.Native.Nat.{◌≤◌, ℕ, ◌+◌, ◌-◌, ◌*◌, ◌/◌, ◌%◌, ◌<◌}
use native.Mathlib.Omega.{arith}
use borrow.Author.Tests.{eqb-true, eqb-false}
use lib.Dec.{eqb}
use lib.ListN.{length, length-map, get_or}
use Rattle.propagation.specs.Clauses.{codes, once, coded}
use Rattle.propagation.specs.Units.{visited, Visitable, set_count}
use Rattle.propagation.specs.WorkArea.{trail, values, falses, ShortClause, WorkHeld, Loaded, Frame}
use Rattle.propagation.specs.Forcing.{Forces, no_more, Void, Quiet}
use Rattle.propagation.proofs.Frames.{trail-length, frame-none, frame-trans}
use Rattle.propagation.proofs.Trails.{values-count}
use Rattle.propagation.proofs.Lives.{one-names, all-at}
use Rattle.propagation.proofs.Holds.{weight-at}
use Rattle.propagation.proofs.Visits.{Looked, visit-at, forces-trans, quiet-on}
use Rattle.theory.specs.Propositional.{PropClause}
use Rattle.search.proofs.Walks.{from_start, from-void}
use Rattle.search.proofs.Kept.{frame-coded, frame-prefers}
use Rattle.search.specs.Search.{Begun}

-- what holds after the clauses below address q
pub record Beginning (v : ℕ) (cs : List (List ℕ)) (w₀ : List ℕ) (q n : ℕ) (w : List ℕ) : Type 0 where
  pub held : WorkHeld v cs 0 n w
  pub frame : Frame v (length cs) w₀ w
  pub forces : Forces v cs [] (trail w v n)
  pub quiet : (i : ℕ) → i < length cs → 7 * v + i < q → Quiet [] (values v (trail w v n)) (get_or cs i [])

pub beginning-start : (v : ℕ) (cs : List (List ℕ)) (q : ℕ) (w : List ℕ) → q ≡ 7 * v → WorkHeld v cs 0 0 w → Beginning v cs w q 0 w
beginning-start v cs q w e h = record { held = h; frame = frame-none v (length cs) w; forces = no_more; quiet = λ i is k. absurd (omega (arith, e, k)) }

module _ (v : ℕ) (cs : List (List ℕ)) (w₀ : List ℕ) (to q n : ℕ) (w : List ℕ) (end : to ≡ 7 * v + length cs) (from : 7 * v ≤ q) (g : Beginning v cs w₀ q n w) where
  module _ (go : q < to) where
    abbrev i : ℕ
    i = q - 7 * v

    is : i < length cs
    is = omega (arith, end)

    at : q ≡ 7 * v + i
    at = omega arith

    begin-visitable : Visitable v q n w
    begin-visitable =
        record {
          within = omega (arith, end, g.held.room);
          lists = omega (arith, g.held.room);
          variables = omega (arith, g.held.small);
          names =
              subst⁻¹ (λ (m : ℕ). get_or w m 0 % 64 ≡ 1 → get_or w m 0 / 64 / 2 < v) at
              (subst⁻¹ (λ (m : ℕ). m % 64 ≡ 1 → m / 64 / 2 < v) (weight-at v cs 0 n w g.held i is) (one-names v [] (get_or cs i []) (all-at (ShortClause v) cs i g.held.clauses is)));
          counts = ap set_count g.held.gives ∙ values-count v (trail w v n) g.held.fresh ∙ trail-length v w n;
        }

    module _ (n' : ℕ) (clash : Bool) (w' : List ℕ) (r : record { len = n'; clash = clash; mem = w' } ≡ visited v q n w) where
      looked : Looked v cs w 0 [] (trail w v n) (λ l. Quiet [] l (get_or cs i [])) (record { len = n'; clash = clash; mem = w' })
      looked = subst⁻¹ (Looked v cs w 0 [] (trail w v n) (λ l. Quiet [] l (get_or cs i []))) r (visit-at v cs 0 n w [] g.held refl q i is at)

      forces' : Forces v cs [] (trail w' v n')
      forces' = forces-trans g.forces looked.forces

      beginning-turn : clash ≡ false → Beginning v cs w₀ (q + 1) n' w'
      beginning-turn e =
          record {
            held = looked.held;
            frame = frame-trans g.frame looked.frame;
            forces = forces';
            quiet = λ j js k. by j js k (eqb j i) refl;
          }
        where
          by : (j : ℕ) → j < length cs → 7 * v + j < q + 1 → (b : Bool) → eqb j i ≡ b → Quiet [] (values v (trail w' v n')) (get_or cs j [])
          by j js k true p = subst⁻¹ (λ (m : ℕ). Quiet [] (values v (trail w' v n')) (get_or cs m [])) (eqb-true j i p) (looked.good e)
          by j js k false p = quiet-on [] (get_or cs j []) looked.forces (g.quiet j js (omega (arith, eqb-false j i p, k)))

      stopped : clash ≡ true → WorkHeld v cs 0 n' w' × Frame v (length cs) w₀ w' × Forces v cs [] (trail w' v n') × Void cs (falses (trail w' v n'))
      stopped e = (looked.held, frame-trans g.frame looked.frame, forces', looked.void e)

-- what the weights of the clauses take is in the work area
pub loaded-room : (v : ℕ) (cs : List PropClause) (first : ℕ → Bool) (w : List ℕ) → Loaded v cs first w → 7 * v + length cs ≤ length w
loaded-room v cs first w k = omega (arith, k.held.room, length-map cs (λ c. once (codes c)))

-- the same of the theory's clauses
module _ (v : ℕ) (cs : List PropClause) (first : ℕ → Bool) (w₀ : List ℕ) (loaded : Loaded v cs first w₀) (to q n : ℕ) (w : List ℕ) (end : to ≡ 7 * v + length cs)
    (from : 7 * v ≤ q) (g : Beginning v (coded cs) w₀ q n w) where
  end-coded : to ≡ 7 * v + length (coded cs)
  end-coded = omega (arith, end, length-map cs (λ c. once (codes c)))

  pub begun-visitable : q < to → Visitable v q n w
  begun-visitable go = begin-visitable v (coded cs) w₀ to q n w end-coded from g go

  pub begun-turn : (go : q < to) (n' : ℕ) (w' : List ℕ) → record { len = n'; clash = false; mem = w' } ≡ visited v q n w → Beginning v (coded cs) w₀ (q + 1) n' w'
  begun-turn go n' w' r = beginning-turn v (coded cs) w₀ to q n w end-coded from g go n' false w' r refl

  -- a wholly false clause: the walk finds nothing
  pub begun-stop : (go : q < to) (n' : ℕ) (w' : List ℕ) → record { len = n'; clash = true; mem = w' } ≡ visited v q n w → Begun v cs first n' true w₀ w'
  begun-stop go n' w' r =
      let (h, f, s, z) = stopped v (coded cs) w₀ to q n w end-coded from g go n' true w' r refl in
      record {
        frame = frame-coded cs f;
        started = λ k. absurd (true≢false k);
        failed = λ k. from_start v cs first loaded.numbered (trail w' v n') s h.fresh ∙ from-void v cs first loaded.numbered (trail w' v n') h.fresh z;
      }

  -- every clause is quiet: a search can start
  pub begun-done : to ≤ q → Begun v cs first n false w₀ w
  begun-done past =
      record {
        frame = frame-coded cs g.frame;
        started = λ k. record {
          numbered = loaded.numbered;
          held = g.held;
          prefers = frame-prefers first loaded.prefers g.frame;
          calm = λ i is. g.quiet i is (omega (arith, end-coded, is, past));
          forces = g.forces;
        };
        failed = λ k. absurd (false≢true k);
      }
