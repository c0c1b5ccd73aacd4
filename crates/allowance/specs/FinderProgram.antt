-- The finder program: its output as a function of its input, whose fourth line is Find's allowance. It has no mode of named terms.
use Rattle.std.specs.Prelude.{ℕ, ◌+◌, ◌*◌, ◌-◌, Bool, false, cond, not, ◌&&◌, ◌||◌, List, [], ◌∷◌, ◌++◌, eqb, ltb, length}
use Rattle.std.proofs.Math.Option.{Option, none, some}
use Rattle.theory.specs.Lists.{all}
use Rattle.theory.specs.Bytes.{bytes, LF, zero_digit, is_digit, decimal}
use Rattle.theory.specs.Lines.{cut_line, after_key}
use Rattle.theory.specs.Refusals.{Answer, answer, refused, unplaced}
use Rattle.theory.specs.Operations.{Search}
use Rattle.theory.specs.Program.{program_work, program_output, ◌>>?◌, digit_line, switch_line, printed}
use Rattle.allowance.specs.AllowedFind.{Stoppable, finished, stopped, find_within}

-- the number n with these digits behind its own
abbrev pub spelled : ℕ → List ℕ → ℕ
spelled n [] = n
spelled n (b ∷ bs) = spelled (n * 10 + (b - zero_digit)) bs

-- the number of one to seven digits without leading zero
abbrev pub allowance_of : List ℕ → Option ℕ
allowance_of [] = none
allowance_of (b ∷ bs) = cond (all is_digit (b ∷ bs) && ltb (length bs) 7 && (not (eqb b zero_digit) || eqb (length bs) 0)) (some (spelled 0 (b ∷ bs))) none

-- the line that says how many choices are allowed, and the text after it
unfoldable pub allowance_line : List ℕ → Option (ℕ × List ℕ)
allowance_line text = cut_line text >>? λ p. after_key (bytes "allow=") p.0 >>? λ v. allowance_of v >>? λ n. some (n, p.1)

-- what is asked: the two sizes, whether the constant clauses are used, how many choices are allowed, and the sheet
pub record Question : Type 0 where
  pub low : ℕ
  pub high : ℕ
  pub symmetry : Bool
  pub allowance : ℕ
  pub sheet : List ℕ

-- the four lines and the sheet
abbrev pub asked : List ℕ → Option Question
asked input =
    digit_line (bytes "low=") input >>? λ a.
    digit_line (bytes "high=") a.1 >>? λ b.
    switch_line b.1 >>? λ c.
    allowance_line c.1 >>? λ d.
    some (record { low = a.0; high = b.0; symmetry = c.0; allowance = d.0; sheet = d.1 })

-- what Find answers to a question
abbrev pub finds : Question → Answer (Stoppable Search)
finds a = find_within false a.symmetry a.sheet a.low a.high a.allowance program_work program_output

-- the answer to the input; a line that is not so laid out is 8, before the sheet is read
abbrev pub finder_answer : Option Question → Answer (Stoppable Search)
finder_answer none = refused (unplaced 8)
finder_answer (some a) = finds a

-- what the program prints for an answer; the number of choices is not printed
unfoldable pub printed_within : Answer (Stoppable Search) → List ℕ
printed_within (answer (finished r n)) = printed (answer r)
printed_within (answer (stopped s n)) = bytes "answer=stopped\nsize=" ++ (decimal s ++ (LF ∷ []))
printed_within (refused r) = printed (refused r)

-- the output for an input
unfoldable pub finder : List ℕ → List ℕ
finder input = printed_within (finder_answer (asked input))
