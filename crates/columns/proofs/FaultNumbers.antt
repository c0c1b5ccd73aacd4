-- Faults of other names have other numbers.
use Prim.Native.Nat.{ℕ, ◌-◌}
use mathlib.Core.Path.{◌≡◌, refl, sym, ap, ◌∙◌}
use mathlib.Core.List.{[], ◌∷◌}
use Rattle.std.specs.Prelude.{get_or}
use Rattle.syntax.specs.declared.faults.Fault.{Fault}
use Rattle.syntax.specs.declared.faults.Fault.TheVariants as fault
use Rattle.syntax.specs.Faults.{number_of}

-- the fault of a number
abbrev named : ℕ → Fault
named n =
    get_or
    (fault.SheetLength
    ∷ fault.SheetLine
    ∷ fault.CountOrArity
    ∷ fault.Name
    ∷ fault.Word
    ∷ fault.Clause
    ∷ fault.ClauseLimits
    ∷ fault.Size
    ∷ fault.Instances
    ∷ fault.WorkLength
    ∷ fault.OutputLength
    ∷ fault.CaseLine
    ∷ fault.Setting
    ∷ fault.Cell
    ∷ fault.Token
    ∷ fault.SymbolUse
    ∷ fault.TextLimits
    ∷ fault.Reply
    ∷ fault.NoModel
    ∷ fault.PlainCells
    ∷ fault.Helpers
    ∷ fault.Disagreement
    ∷ fault.MergedLimits
    ∷ fault.Allowance
    ∷ fault.Renumbering
    ∷ []) (n - 1) fault.SheetLength

back : (f : Fault) → named (number_of f) ≡ f
back fault.SheetLength = refl
back fault.SheetLine = refl
back fault.CountOrArity = refl
back fault.Name = refl
back fault.Word = refl
back fault.Clause = refl
back fault.ClauseLimits = refl
back fault.Size = refl
back fault.Instances = refl
back fault.WorkLength = refl
back fault.OutputLength = refl
back fault.CaseLine = refl
back fault.Setting = refl
back fault.Cell = refl
back fault.Token = refl
back fault.SymbolUse = refl
back fault.TextLimits = refl
back fault.Reply = refl
back fault.NoModel = refl
back fault.PlainCells = refl
back fault.Helpers = refl
back fault.Disagreement = refl
back fault.MergedLimits = refl
back fault.Allowance = refl
back fault.Renumbering = refl

pub same-number : (f g : Fault) → number_of f ≡ number_of g → f ≡ g
same-number f g e = sym (back f) ∙ ap named e ∙ back g
