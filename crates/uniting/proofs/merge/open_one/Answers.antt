-- `open_one` tells the sheet beside its refusal.
use mathlib.Core.Path.{◌≡◌, refl, sym, ◌∙◌}
use mathlib.Core.Bool.{false}
use mathlib.Core.List.{List}
use Prim.Native.Nat.{ℕ}
use Rattle.std.proofs.Common.{rules}
use Rattle.std.specs.Prelude as rust
use Rattle.std.specs.Prelude.{Ok, Err, Some}
use Rattle.std.specs.Result.{MatchResult, IsErrAnd}
use Rattle.syntax.specs.declared.limits.Problem.{Problem}
use Rattle.answers.specs.declared.Refusal.{Refusal}
use Rattle.problem.proofs.ModeRead.{plain_in}
use Rattle.columns.specs.Opened.{SheetOpened}
use Rattle.uniting.specs.declared.merge.WhichSheet.{WhichSheet}
use Rattle.uniting.specs.declared.merge.MergeRefusal.{MergeRefusal}
use Rattle.uniting.specs.Calls.{OneOpened}
use Rattle.uniting.proofs.merge.open_one.Goals as goal

module _ (which : WhichSheet) (sheet : List ℕ) (P : Refusal → MergeRefusal → Type 0) (told : (r : Refusal) (m : MergeRefusal) → P r m → m ≡ record { refusal = r; sheet = Some which }) where
  opened : (r : rust.Result Problem Refusal) (q : rust.Result Problem MergeRefusal) → MatchResult r (λ p. q ≡ Ok p) (λ e. IsErrAnd q (P e)) → SheetOpened false sheet r → OneOpened which sheet q
  opened (Ok p) q h o = rw h (record { sheeted = record { accepted = o.accepted; read = sym (plain_in sheet) ∙ o.read }; refused = tt })
  opened (Err e) (Ok p) h o = absurd h
  opened (Err e) (Err m) h o =
      let t = told e m h in
      record { sheeted = tt; refused = rw t (o.refused, refl) }

pub returns : goal.returns
returns c = opened c.args.which c.args.sheet.now _ (λ r m h. search rules) _ _ c.map_err.ensures.cases c.open_sheet.ensures
