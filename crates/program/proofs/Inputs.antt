-- The input line by line: two digit lines, the line that says yes or no, the line that says how many choices are allowed, then the sheet.
use Prim.Native.Nat.{ℕ, ◌-◌, ◌≤◌}
use mathlib.Core.Path.{◌≡◌, sym, ap, ◌∙◌}
use mathlib.Core.Bool.{Bool, false}
use mathlib.Core.Option.{Option, none, some}
use mathlib.Core.List.{List}
use lib.ListN.{length, take, drop}
use Rattle.std.specs.Prelude.{Some, None, Ok, Err}
use Rattle.std.specs.Prelude as rust
use Rattle.theory.specs.Bytes.{bytes}
use Rattle.theory.specs.Refusals.{refused, unplaced}
use Rattle.theory.specs.Program.{◌>>?◌, digit_line, switch_line}
use Rattle.solver.proofs.Options.{read-on, not-read}
use Rattle.allowance.specs.AllowedFind.{find_within}
use Rattle.allowance.specs.FinderProgram.{allowance_line, Question, asked, finder_answer, printed_within, finder}
use Rattle.syntax.specs.declared.faults.Fault.{Fault}
use Rattle.input_lines.specs.Lines.{line_in, LineRead}
use Rattle.input_lines.proofs.LentRest.{rest}
use Rattle.program.specs.declared.Question as code
use Rattle.program.specs.Asked.{asked_in}

-- what is asked from the fourth line on,
abbrev asked_allowance : ℕ → ℕ → Bool → List ℕ → Option Question
asked_allowance low high symmetry text = allowance_line text >>? λ d. some (record { low = low; high = high; symmetry = symmetry; allowance = d.0; sheet = d.1 })

-- from the third,
abbrev asked_switch : ℕ → ℕ → List ℕ → Option Question
asked_switch low high text = switch_line text >>? λ c. asked_allowance low high c.0 c.1

-- and from the second
abbrev asked_high : ℕ → List ℕ → Option Question
asked_high low text = digit_line (bytes "high=") text >>? λ b. asked_switch low b.0 b.1

-- any of the lines, and what is read after it
module _ {A : Type 0} (reads : List ℕ → Option (A × List ℕ)) (input : List ℕ) (at : ℕ) (r : rust.Option (A × ℕ)) (h : LineRead reads input at r) where
  pub next-within : (x : A) (next : ℕ) → r ≡ Some (x, next) → next ≤ length input
  next-within x next e = rw e at h.within

  module _ (after : A × List ℕ → Option Question) where
    not-said : r ≡ None → (reads (drop at input) >>? after) ≡ none
    not-said e = not-read (reads (drop at input)) after (sym h.read ∙ ap (line_in input) e)

    said : (x : A) (next : ℕ) → r ≡ Some (x, next) → (reads (drop at input) >>? after) ≡ after (x, drop next input)
    said x next e = read-on (reads (drop at input)) after (x, drop next input) (sym h.read ∙ ap (line_in input) e)

module _ (input : List ℕ) (r : rust.Option (ℕ × ℕ)) (h : LineRead (digit_line (bytes "low=")) input 0 r) where
  pub no_low : r ≡ None → asked input ≡ none
  no_low e = not-said _ input 0 r h (λ a. asked_high a.0 a.1) e

  pub low-said : (d next : ℕ) → r ≡ Some (d, next) → asked input ≡ asked_high d (drop next input)
  low-said d next e = said _ input 0 r h (λ a. asked_high a.0 a.1) d next e

module _ (input : List ℕ) (at low : ℕ) (r : rust.Option (ℕ × ℕ)) (h : LineRead (digit_line (bytes "high=")) input at r) where
  pub no_high : r ≡ None → asked_high low (drop at input) ≡ none
  no_high e = not-said _ input at r h (λ b. asked_switch low b.0 b.1) e

  pub high-said : (d next : ℕ) → r ≡ Some (d, next) → asked_high low (drop at input) ≡ asked_switch low d (drop next input)
  high-said d next e = said _ input at r h (λ b. asked_switch low b.0 b.1) d next e

module _ (input : List ℕ) (at low high : ℕ) (r : rust.Option (Bool × ℕ)) (h : LineRead switch_line input at r) where
  pub no_switch : r ≡ None → asked_switch low high (drop at input) ≡ none
  no_switch e = not-said _ input at r h (λ c. asked_allowance low high c.0 c.1) e

  pub switch-said : (b : Bool) (next : ℕ) → r ≡ Some (b, next) → asked_switch low high (drop at input) ≡ asked_allowance low high b (drop next input)
  switch-said b next e = said _ input at r h (λ c. asked_allowance low high c.0 c.1) b next e

module _ (input : List ℕ) (at low high : ℕ) (symmetry : Bool) (r : rust.Option (ℕ × ℕ)) (h : LineRead allowance_line input at r) where
  -- the question with the sheet after the line
  abbrev whole : ℕ × List ℕ → Option Question
  whole d = some (record { low = low; high = high; symmetry = symmetry; allowance = d.0; sheet = d.1 })

  pub no_allowance : r ≡ None → asked_allowance low high symmetry (drop at input) ≡ none
  no_allowance e = not-said _ input at r h whole e

  pub allowance-said : (n next : ℕ) → r ≡ Some (n, next)
      → asked_allowance low high symmetry (drop at input) ≡ some (record { low = low; high = high; symmetry = symmetry; allowance = n; sheet = drop next input })
  allowance-said n next e = said _ input at r h whole n next e

-- the sheet is lent from its place on
pub answers : (input : List ℕ) (q : code.Question) → q.sheet ≤ length input → asked_in input (Ok q) ≡ asked input
    → printed_within (find_within false q.symmetry (take (length input - q.sheet) (drop q.sheet input)) q.low q.high q.allowance 16000 24902) ≡ finder input
unfolding finder
answers input q h e =
    ap (λ (sheet : List ℕ). printed_within (find_within false q.symmetry sheet q.low q.high q.allowance 16000 24902)) (rest input q.sheet h)
    ∙ ap (λ (o : Option Question). printed_within (finder_answer o)) e

pub refuses : (input : List ℕ) (f : Fault) → asked_in input (Err f) ≡ asked input → printed_within (refused (unplaced 8)) ≡ finder input
unfolding finder
refuses input f e = ap (λ (o : Option Question). printed_within (finder_answer o)) e
