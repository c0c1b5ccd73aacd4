-- Linear forms for the literals of a flattened clause, and the instance that they give.
use Rattle.std.specs.Prelude.{ℕ, zero, suc, ◌+◌, ◌*◌, ◌^◌, ◌≤◌, ◌<◌, ◌≡◌, Bool, true, cond, List, [], ◌∷◌, eqb, get_or, take, drop}
use Rattle.std.specs.Bool.{beq}
use Rattle.std.proofs.Math.Option.{Option, none, some}
use Rattle.theory.specs.Lists.{prefix}
use Rattle.theory.specs.Syntax.{Signature}
use Rattle.theory.specs.Flattening.{FlatLiteral}
use Rattle.theory.specs.Flattening as theory
use Rattle.theory.specs.Lifted.{flat_atom_ok, flat_ok, flat_atom_scoped, flat_scoped}
use Rattle.theory.specs.Propositional.{PropClause}
use Rattle.theory.specs.Instances.{flat_value, ground, add_literal, instance}
use Rattle.syntax.specs.Signatures.{Arities, Small}
use Rattle.shallow.specs.declared.literals.Literal.{Literal}
use Rattle.shallow.specs.Literals.{literal_with}
use Rattle.flattening.specs.declared.flat.FlatClause.{FlatClause}
use Rattle.flattening.specs.Flat.{flat_in}
use Rattle.valuations.specs.declared.numbering.Numbering.{Numbering}
use Rattle.valuations.specs.Numbers.{NumberingOf}
use Rattle.stream.specs.Literals.{literal_of}

-- how often argument j of so many counts in their rank
abbrev pub rank_weight : ℕ → ℕ → ℕ → ℕ
rank_weight s zero j = 0
rank_weight s (suc arity) zero = s ^ arity
rank_weight s (suc arity) (suc j) = rank_weight s arity j

-- the place x of argument j of so many, or 0 where there are fewer
abbrev pub argument_place : ℕ → ℕ → ℕ → ℕ
argument_place zero j x = 0
argument_place (suc arity) zero x = x
argument_place (suc arity) (suc j) x = argument_place arity j x

-- the form of an equality
abbrev pub equality_form : Bool → ℕ → ℕ → List ℕ
equality_form positive x y = cond positive 1 2 ∷ 0 ∷ x ∷ 0 ∷ y ∷ 0 ∷ 0 ∷ 0 ∷ 0 ∷ 0 ∷ []

-- the form of a symbol at the arguments among x, y and z: their rank counts `step` times, the value at w counts d times
abbrev pub linear_form : Bool → ℕ → ℕ → ℕ → ℕ → ℕ → ℕ → ℕ → ℕ → ℕ → List ℕ
linear_form positive base step arity x y z w d s =
    0 ∷ (2 * base + cond positive 0 1)
    ∷ argument_place arity 0 x ∷ (step * rank_weight s arity 0)
    ∷ argument_place arity 1 y ∷ (step * rank_weight s arity 1)
    ∷ argument_place arity 2 z ∷ (step * rank_weight s arity 2)
    ∷ w ∷ d ∷ []

-- the code of a form under the values v
abbrev pub code_at : List ℕ → List ℕ → ℕ
code_at f v =
    get_or f 1 0
    + (get_or f 3 0 * get_or v (get_or f 2 0) 0
    + (get_or f 5 0 * get_or v (get_or f 4 0) 0
    + (get_or f 7 0 * get_or v (get_or f 6 0) 0
    + get_or f 9 0 * get_or v (get_or f 8 0) 0)))

-- the truth of an equality under the values v
abbrev pub is_true_at : List ℕ → List ℕ → Bool
is_true_at f v = beq (eqb (get_or f 0 0) 1) (eqb (get_or v (get_or f 2 0) 0) (get_or v (get_or f 4 0) 0))

-- one form more: a true equality drops the instance, a false one is dropped
abbrev pub add_form : List ℕ → List ℕ → Option PropClause → Option PropClause
add_form f v r = cond (eqb (get_or f 0 0) 0) (prefix (literal_of (code_at f v)) r) (cond (is_true_at f v) none r)

-- the form from a place on
abbrev pub form_at : List ℕ → ℕ → List ℕ
form_at fs at = take 10 (drop at fs)

-- the instance of so many forms under the values v, or none where it is dropped
abbrev pub form_instance : List ℕ → ℕ → List ℕ → Option PropClause
form_instance v zero fs = some []
form_instance v (suc n) fs = add_form (form_at fs 0) v (form_instance v n (drop 10 fs))

-- the places are among ten, and the code of every ten bytes is a small number
pub record Safe (f : List ℕ) : Type 0 where
  pub x : get_or f 2 0 < 10
  pub y : get_or f 4 0 < 10
  pub z : get_or f 6 0 < 10
  pub w : get_or f 8 0 < 10
  pub base : get_or f 1 0 < 2 ^ 20
  pub a : get_or f 3 0 ≤ 8192
  pub b : get_or f 5 0 ≤ 8192
  pub c : get_or f 7 0 ≤ 8192
  pub d : get_or f 9 0 ≤ 8192

-- each of so many forms is so
abbrev pub AllSafe : ℕ → List ℕ → Type 0
AllSafe zero fs = Unit {0}
AllSafe (suc n) fs = Safe (form_at fs 0) × AllSafe n (drop 10 fs)

-- the form says of a literal over k variables what it is under each choice of values
abbrev pub Means : ℕ → Signature → ℕ → FlatLiteral → List ℕ → Type 0
Means s g k l f = (v : List ℕ) (r : Option PropClause) → add_literal l.sign (ground s g (flat_value [] (take k v)) l.atom) r ≡ add_form f v r

-- so many forms give every instance of the flattened clause; values past those of its variables do not count
abbrev pub Linear : ℕ → Signature → theory.FlatClause → ℕ → List ℕ → Type 0
Linear s g c n fs = (v : List ℕ) → instance s g (flat_value [] (take c.news v)) c.literals ≡ form_instance v n fs

-- a literal over a signature and at most 10 variables
pub record LiteralOver (arities : List ℕ) (n : Numbering) (s : ℕ) (l : Literal) : Type 0 where
  pub signature : Signature
  pub table : Arities signature arities
  pub small : Small signature
  pub numbering : NumberingOf signature s n
  pub size : s ≤ 8
  pub variables : ℕ
  pub few : variables ≤ 10
  pub ok : flat_atom_ok signature (literal_with signature l).atom ≡ true
  pub scope : flat_atom_scoped [] variables (literal_with signature l).atom ≡ true

-- the literal
abbrev pub literal_over : {arities : List ℕ} {n : Numbering} {s : ℕ} {l : Literal} → LiteralOver arities n s l → FlatLiteral
literal_over {l = l} o = literal_with o.signature l

-- a flattened clause over a signature, with places for variables, within the limits
pub record Groundable (arities : List ℕ) (c : FlatClause) (n : Numbering) (s : ℕ) : Type 0 where
  pub signature : Signature
  pub table : Arities signature arities
  pub small : Small signature
  pub numbering : NumberingOf signature s n
  pub size : s ≤ 8
  pub count : c.count ≤ 26
  pub few : c.variables ≤ 10
  pub ok : flat_ok signature (flat_in signature c).literals ≡ true
  pub scope : flat_scoped [] c.variables (flat_in signature c).literals ≡ true
