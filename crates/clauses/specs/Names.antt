-- Symbols as reading leaves them: places of names within the sheet.
use Rattle.std.specs.Prelude.{ℕ, ◌+◌, ◌≤◌, ◌≡◌, true, List, eqb, leb, length, take, drop}
use Rattle.theory.specs.Lists.{all}
use Rattle.theory.specs.Problem.{max_arity}
use Rattle.syntax.specs.declared.signature.Symbol.{Symbol}
use Rattle.syntax.specs.declared.signature.Signature.{Signature}
use Rattle.syntax.specs.Signatures.{max_declared, max_in_all}

-- no more symbols than a problem may have, with arities as a sheet may have; those that are more than a sheet may have are constants
pub record Limited (s : Signature) : Type 0 where
  pub count : s.count ≤ max_in_all
  pub held : s.count ≤ length s.symbols
  pub arities : all (λ (y : Symbol). leb y.arity max_arity) (take s.count s.symbols) ≡ true
  pub constants : all (λ (y : Symbol). eqb y.arity 0) (drop max_declared (take s.count s.symbols)) ≡ true

-- and their names stand within the sheet
pub record Readable (sheet : List ℕ) (s : Signature) : Type 0 where
  pub limited : Limited s
  pub names : all (λ (y : Symbol). leb (y.name + y.length) (length sheet)) (take s.count s.symbols) ≡ true
