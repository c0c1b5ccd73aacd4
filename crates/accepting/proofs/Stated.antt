-- What comes of a setting that is stated, at the symbols that the sheet was read to.
use Prim.Native.Nat.{ℕ, ◌≤◌, ◌<◌}
use mathlib.Core.Path.{◌≡◌, sym, ap, ◌∙◌, subst}
use mathlib.Core.Bool.{true, false}
use mathlib.Core.List.{List, []}
use lib.ListN.{length}
use Rattle.theory.specs.Syntax.{Signature}
use Rattle.theory.specs.Cells.{is_model}
use Rattle.theory.specs.Valuation.{is_functional, read_back}
use Rattle.theory.specs.Refusals.{refused, unplaced, needing}
use Rattle.theory.specs.CaseText.{case_text, case_length}
use Rattle.theory.specs.Operations.{over}
use Rattle.syntax.specs.declared.limits.Problem.{Problem}
use Rattle.syntax.specs.Signatures.{signature_in}
use Rattle.problem.specs.Problems.{problem_in}
use Rattle.valuations.specs.declared.numbering.Numbering.{Numbering}
use Rattle.valuations.proofs.Bits.{is-binary}
use Rattle.reading_back.specs.Bits.{WritableBits, case_said}
use Rattle.reading_back.proofs.Written.{text-length}
use Rattle.solver.specs.SolverText.{stated_case}
use Rattle.std.specs.Prelude.{Ok}
use Rattle.accepting.specs.declared.SolverResult.TheVariants.{Case}
use Rattle.accepting.specs.Accepting.{SettingLent, FunctionalSetting, StatedCall}
use Rattle.accepting.proofs.Judged.{setting-counted}
use Rattle.accepting.proofs.Outcomes.{accepts}
use Rattle.accepting.proofs.Chain as chain

module _ (sheet : List ℕ) (p : Problem) (n : Numbering) (s : ℕ) (σ : List ℕ) (h : SettingLent sheet p n s σ) (room : ℕ) where
  abbrev g : Signature
  g = signature_in sheet p.signature

  pub not-functional : is_functional s g σ ≡ false → stated_case (problem_in sheet p) s room σ ≡ refused (unplaced 14)
  unfolding problem_in
  not-functional e = chain.not-functional (problem_in sheet p) s room σ e

  module _ (functional : is_functional s g σ ≡ true) where
    pub functional-setting : FunctionalSetting sheet p n s σ
    functional-setting = record { lent = h; functional = functional }

    pub writable : WritableBits sheet p.signature n s σ
    writable =
        record {
          readable = h.sized.accepted.readable;
          positive = h.sized.positive;
          size = h.sized.size;
          numbered = h.numbered sheet;
          counted = setting-counted sheet p n s σ h;
          binary = is-binary s g σ h.valuation;
          functional = functional;
        }

    pub no-model : is_model s (problem_in sheet p).symbols (problem_in sheet p).clauses (read_back s (problem_in sheet p).symbols σ) ≡ false → stated_case (problem_in sheet p) s room σ ≡ refused (unplaced 19)
    unfolding problem_in
    no-model e = chain.no-model (problem_in sheet p) s room σ functional e

    module _ (model : is_model s (problem_in sheet p).symbols (problem_in sheet p).clauses (read_back s (problem_in sheet p).symbols σ) ≡ true) where
      pub no_room : room < case_length s g → stated_case (problem_in sheet p) s room σ ≡ refused (needing 11 (case_length s g))
      unfolding problem_in
      no_room e = chain.no_room (problem_in sheet p) s room σ functional model e

-- the case is written
pub case-written : (sheet : List ℕ) (p : Problem) (n : Numbering) (s : ℕ) (σ : List ℕ) (h : SettingLent sheet p n s σ) (functional : is_functional s (signature_in sheet p.signature) σ ≡ true)
    → is_model s (problem_in sheet p).symbols (problem_in sheet p).clauses (read_back s (problem_in sheet p).symbols σ) ≡ true
    → (out out' : List ℕ) (r : ℕ) → case_length s (signature_in sheet p.signature) ≤ length out → r ≡ case_length s (signature_in sheet p.signature)
    → out' ≡ over (case_said sheet p.signature s σ) out → StatedCall sheet p s σ (Ok (Case r)) out out'
unfolding problem_in
case-written sheet p n s σ h functional model out out' r room e o =
    let g : Signature = signature_in sheet p.signature in
    accepts _ (case_text s g (read_back s g σ)) r out out' (chain.case-said (problem_in sheet p) s (length out) σ functional model room)
    (e ∙ sym (text-length sheet p.signature n s σ (writable sheet p n s σ h (length out) functional)))
    o
