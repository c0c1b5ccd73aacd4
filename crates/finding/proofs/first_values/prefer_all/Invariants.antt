use Prim.Native.Nat.{ℕ}
use mathlib.Core.Path.{◌≡◌}
use mathlib.Core.List.{List}
use Rattle.theory.specs.Propositional.{prop_base}
use Rattle.theory.specs.Walk.{yes_first}
use Rattle.propagation.specs.WorkArea.{Prefers}
use Rattle.loading.specs.Loading.{KeepsClauses}
use Rattle.syntax.specs.Signatures.{signature_in}
use Rattle.finding.proofs.first_values.prefer_all.Given as goal

-- `prefer_all` meets its contract: the first values of the symbols before i are told.
abbrev pub invariant-loop-i : goal.invariant-loop-i
invariant-loop-i l =
    ((sheet : List ℕ) → l.from.0 ≡ prop_base l.size.0 (signature_in sheet l.signature) l.i)
    × KeepsClauses l.v l.initial.work l.work
    × ((sheet : List ℕ) → Prefers l.v l.from.0 (yes_first l.size.0 (signature_in sheet l.signature)) l.work)
