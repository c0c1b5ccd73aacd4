-- FinderProgram: the finder program needs to read no more than 16,420 bytes of its input, and its output buffer is never too short.
use Rattle.std.specs.Prelude.{ℕ, ◌≡◌, List, take}
use Rattle.theory.specs.Refusals.{Refusal, refused}
use Rattle.allowance.specs.FinderProgram.{Question, finds, finder}

-- four lines, at most 35 bytes together, the largest sheet, and one byte more
abbrev pub input_bytes : ℕ
input_bytes = 16420

-- the theorem
pub record FinderProgram : Type 0 where
  -- what comes after that many bytes changes nothing
  pub reads : (input : List ℕ) → finder (take input_bytes input) ≡ finder input
  -- 11 does not occur
  pub roomy : (a : Question) (r : Refusal) → finds a ≡ refused r → r.number ≡ 11 → ⊥
