-- The declared constants as the code holds them.
use Rattle.std.specs.Prelude.{ℕ, ◌≤◌, ◌<◌, ◌≡◌, Bool, ◌&&◌, not, List, map, eqb, length, get_or, take}
use Rattle.theory.specs.Lists.{select, up_to}
use Rattle.syntax.specs.declared.signature.Signature.{Signature}
use Rattle.syntax.specs.Signatures.{max_in_all}
use Rattle.clauses.proofs.Held.{blank}
use Rattle.valuations.specs.declared.numbering.Numbering.{Numbering}
use Rattle.valuations.specs.Numbers.{max_prop_vars}
use Rattle.twins.specs.declared.constants.Constants.{Constants}

-- a function of the sheet without arguments
abbrev pub constant_mark : Bool → Bool → ℕ → Bool
constant_mark function helper arity = function && eqb arity 0 && not helper

-- the symbol at place i is one
abbrev pub marked_at : Signature → ℕ → Bool
marked_at y i = constant_mark (get_or y.symbols i blank).function (get_or y.symbols i blank).helper (get_or y.symbols i blank).arity

-- how many variables come before those of each
abbrev pub held_bases : Constants → List ℕ
held_bases k = take k.count k.first

-- k has the constants of the signature, by the numbering n
pub record ConstantsOf (y : Signature) (n : Numbering) (k : Constants) : Type 0 where
  pub bases : held_bases k ≡ map (λ i. get_or n.bases i 0) (select (marked_at y) (up_to y.count))
  pub few : k.count ≤ max_in_all

-- they are no more than a problem may have, with few variables before theirs
pub record Held (k : Constants) : Type 0 where
  pub few : k.count ≤ max_in_all
  pub held : k.count ≤ length k.first
  pub small : (i : ℕ) → i < k.count → get_or k.first i 0 ≤ max_prop_vars
