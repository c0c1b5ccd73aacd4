-- A model that was found is written, and the work area cleared.
use Prim.Native.Nat.{ℕ, ◌≤◌}
use mathlib.Core.Path.{◌≡◌, refl, sym, ap, ◌∙◌, subst}
use mathlib.Core.Bool.{true}
use mathlib.Core.Option.{some}
use mathlib.Core.List.{List}
use native.Mathlib.Omega.{arith}
use lib.ListN.{length, take, replicate}
use lib.Seq.{take-take}
use Rattle.theory.specs.Syntax as theory
use Rattle.theory.specs.Propositional.{prop_count}
use Rattle.theory.specs.Valuation.{is_valuation, is_functional, setting_of}
use Rattle.theory.specs.CaseText.{case_length}
use Rattle.theory.specs.Refusals.{answer}
use Rattle.theory.specs.Operations.{found_case, over}
use Rattle.theory.proofs.Tests.{eqb-of-≡, and-join}
use Rattle.theory.proofs.Lists.{map-take}
use Rattle.naming.specs.NamedProblem.{shown_symbols}
use Rattle.symmetry.specs.Obeying.{searched_with}
use Rattle.allowance.specs.AllowedFind.{finished}
use Rattle.syntax.specs.declared.limits.Problem.{Problem}
use Rattle.syntax.specs.declared.signature.Signature.{Signature}
use Rattle.syntax.specs.Signatures.{signature_in, without_helpers}
use Rattle.clauses.specs.Names.{Limited, Readable}
use Rattle.problem.specs.Problems.{problem_in}
use Rattle.valuations.specs.declared.numbering.Numbering.{Numbering}
use Rattle.valuations.specs.Numbers.{NumberingOf}
use Rattle.reading_back.specs.Bits.{WritableBits, FrontLent, case_said}
use Rattle.reading_back.specs.Settings.{SizedSymbols}
use Rattle.reading_back.proofs.Fronts.{front-is, front-bits, front-lent, shown-said, shown-long}
use Rattle.reading_back.proofs.Shown.{readable-first, variables-first}
use Rattle.finding.specs.Searching.{Searchable}
use Rattle.std.specs.Prelude.{Ok}
use Rattle.finding.specs.declared.allowed.FindResult.TheVariants as find
use Rattle.finding.specs.Ending.{Ends, case_found}
use Rattle.finding.proofs.Found.{FoundAt, found_at}
use Rattle.finding.proofs.SizeBySize.{clauses-over}
use Rattle.finding.proofs.Endings.{ends_by}

-- the variables of a problem
abbrev variables_of : List ℕ → Problem → ℕ → ℕ
variables_of sheet p size = prop_count size (problem_in sheet p).symbols

-- the declared symbols are as limited as all
pub limited-shown : (sheet : List ℕ) (p : Problem) (y : Signature) → Readable sheet p.signature → y ≡ without_helpers p.signature → Limited y
limited-shown sheet p y h is = subst Limited (sym is) (readable-first p.signature sheet h).limited

-- y are the declared symbols of the problem, n their numbering, and the search has left its values at the front of the work area
module _ (sheet : List ℕ) (p : Problem) (size : ℕ) (work : List ℕ) (h : Searchable sheet p size (length work)) (e : (searched_with p.symmetry size (problem_in sheet p)).answer ≡ some (setting_of (take (variables_of sheet p size) work)))
    (y : Signature) (is : y ≡ without_helpers p.signature) (n : Numbering) (numbering : NumberingOf (signature_in sheet y) size n) where
  abbrev G : theory.Signature
  G = signature_in sheet p.signature

  -- the valuation that was found
  abbrev σ : List ℕ
  σ = setting_of (take (variables_of sheet p size) work)

  found : FoundAt p.symmetry size (problem_in sheet p) σ
  found = found_at p.symmetry size (problem_in sheet p) h.positive (clauses-over sheet p size (length work) h) σ e

  symbols : SizedSymbols sheet p.signature size
  symbols = record { readable = h.accepted.readable; bytes = h.bytes; shows = h.shows; positive = h.positive; within = h.within }

  valuation : is_valuation size G σ ≡ true
  unfolding problem_in is_valuation
  valuation = and-join _ _ (eqb-of-≡ (length σ) (prop_count size G) found.sized) found.binary

  functional : is_functional size G σ ≡ true
  unfolding problem_in
  functional = found.functional

  lent : FrontLent sheet y size σ
  lent = front-lent sheet p.signature size σ symbols y is valuation functional

  -- the declared symbols' variables are among all
  pub few : n.count ≤ variables_of sheet p size
  unfolding problem_in
  few = omega (arith, numbering.count, ap (λ (y : Signature). prop_count size (signature_in sheet y)) is, variables-first p.signature sheet size)

  -- their values, and the bits of these
  values-are : setting_of (take n.count work) ≡ take n.count σ
  values-are =
      ap setting_of (sym (take-take n.count (variables_of sheet p size) work few))
      ∙ map-take _ n.count (take (variables_of sheet p size) work)

  pub writable : WritableBits sheet y n size (setting_of (take n.count work))
  writable = subst (WritableBits sheet y n size) (sym values-are) (front-bits sheet y size σ lent n numbering)

  pub case-room : (room : ℕ) → case_length size (shown_symbols (problem_in sheet p).symbols) ≤ room → case_length size (signature_in sheet y) ≤ room
  unfolding problem_in
  case-room room l = omega (arith, ap (λ (y : Signature). case_length size (signature_in sheet y)) is, ap (case_length size) h.shows)

  pub written-ends : (length' choices : ℕ) (work' output output' : List ℕ) → length' ≡ case_length size (signature_in sheet y) → work' ≡ replicate (length work) 0
      → output' ≡ over (case_said sheet y size (setting_of (take n.count work))) output
      → Ends (λ _ _. answer (case_found (problem_in sheet p) size (take (variables_of sheet p size) work) choices)) (Ok (find.Found size length' choices)) work work' output output'
  unfolding problem_in
  written-ends length' choices work' output output' l w o =
      let it = answer (case_found (problem_in sheet p) size (take (variables_of sheet p size) work) choices) in
      ends_by (λ _ _. it) (Ok (find.Found size length' choices)) work work' output output' it refl
      (ap (λ (k : ℕ). answer (finished (found_case size k) choices)) (l ∙ shown-long sheet p.signature size σ symbols y is valuation functional))
      w
      (o
      ∙ ap (λ (τ : List ℕ). over (case_said sheet y size τ) output) (values-are ∙ front-is sheet y size σ lent n numbering)
      ∙ ap (λ (t : List ℕ). over t output) (shown-said sheet p.signature size σ symbols y is valuation functional))
