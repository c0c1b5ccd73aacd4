-- The first values, symbol by symbol: all variables of a symbol are tried at the same value first.
use Prim.Native.Nat.{ℕ, zero, suc, ◌+◌, ◌*◌, ◌-◌, ◌^◌, ◌≤◌, ◌<◌}
use mathlib.Core.Path.{◌≡◌, refl, sym, ap, ◌∙◌}
use mathlib.Core.Bool.{Bool, true, false}
use mathlib.Core.List.{List, [], ◌∷◌, ◌++◌}
use native.Mathlib.Omega.{arith}
use native.Mathlib.Nat.{not-suc-le-zero, suc-mul}
use lib.ListN.{length, get_or, replicate, length-replicate, get_or-replicate, replicate-append-replicate, get_or-append}
use lib.Seq.{get_or-append-add}
use Rattle.theory.specs.Lists.{concat_map}
use Rattle.theory.specs.Syntax.{Kind, is_function, Symbol, Signature, symbol_at}
use Rattle.theory.specs.Cells.{table_size, cell_kinds}
use Rattle.theory.specs.Propositional.{width, block_size, prop_base, prop_count}
use Rattle.theory.specs.Walk.{yes_first}
use Rattle.theory.proofs.Lists.{concat_map-append}
use Rattle.theory.proofs.Numbering.{prop_base-zero, prop_base-suc, prop_base-length}
use Rattle.syntax.specs.declared.signature.Symbol as declared-symbol
use Rattle.syntax.specs.declared.signature.Signature as declared
use Rattle.syntax.specs.Signatures.{kind_of, signature_in}
use Rattle.clauses.specs.Names.{Limited}
use Rattle.clauses.proofs.Held.{blank, count-signature_in, symbol_at-signature_in}
use Rattle.valuations.proofs.Blocks.{block_room}

-- the first values of cells of these kinds
abbrev values : ℕ → List Kind → List Bool
values s ks = concat_map (λ k. replicate (width s k) (is_function k)) ks

values-alike : (s n : ℕ) (k : Kind) → values s (replicate n k) ≡ replicate (n * width s k) (is_function k)
values-alike s zero k = let e : 0 ≡ 0 * width s k = omega arith in ap (λ (m : ℕ). replicate m (is_function k)) e
values-alike s (suc n) k =
    let e : width s k + n * width s k ≡ suc n * width s k = omega (arith, suc-mul n (width s k)) in
    ap (λ (l : List Bool). replicate (width s k) (is_function k) ++ l) (values-alike s n k)
    ∙ replicate-append-replicate (width s k) (n * width s k) (is_function k)
    ∙ ap (λ (m : ℕ). replicate m (is_function k)) e

-- one symbol in front
values-more : (s : ℕ) (f : Symbol) (g : Signature) → values s (cell_kinds s (f ∷ g)) ≡ replicate (block_size s f) (is_function f.kind) ++ values s (cell_kinds s g)
unfolding cell_kinds
values-more s f g =
    concat_map-append (λ k. replicate (width s k) (is_function k)) (replicate (table_size s f) f.kind) (cell_kinds s g)
    ∙ ap (λ (l : List Bool). l ++ values s (cell_kinds s g)) (values-alike s (table_size s f) f.kind)

value-at : (s : ℕ) (g : Signature) (i x : ℕ) → i < length g → x < block_size s (symbol_at g i) → get_or (values s (cell_kinds s g)) (prop_base s g i + x) false ≡ is_function (symbol_at g i).kind
unfolding prop_base prop_count
value-at s [] i x h l = absurd (not-suc-le-zero h)
value-at s (f ∷ g) zero x h l =
    let z : 0 + x ≡ x = omega arith in
    ap (λ (n : ℕ). get_or (values s (cell_kinds s (f ∷ g))) n false) z
    ∙ ap (λ (bs : List Bool). get_or bs x false) (values-more s f g)
    ∙ get_or-append (replicate (block_size s f) (is_function f.kind)) (values s (cell_kinds s g)) false x (omega (arith, length-replicate (block_size s f) (is_function f.kind)))
    ∙ get_or-replicate (block_size s f) x (is_function f.kind) false l
value-at s (f ∷ g) (suc i) x h l =
    let b : List Bool = replicate (block_size s f) (is_function f.kind) in
    let e : (block_size s f + prop_base s g i) + x ≡ length b + (prop_base s g i + x) = omega (arith, length-replicate (block_size s f) (is_function f.kind)) in
    ap (λ (bs : List Bool). get_or bs ((block_size s f + prop_base s g i) + x) false) (values-more s f g)
    ∙ ap (λ (n : ℕ). get_or (b ++ values s (cell_kinds s g)) n false) e
    ∙ get_or-append-add b (values s (cell_kinds s g)) (prop_base s g i + x) false
    ∙ value-at s g i x (omega arith) l

-- the first values of the variables of the symbol at place i
pub symbol-first : (s : ℕ) (g : Signature) (i x : ℕ) → i < length g → prop_base s g i ≤ x → x < prop_base s g i + block_size s (symbol_at g i) → yes_first s g x ≡ is_function (symbol_at g i).kind
unfolding yes_first
symbol-first s g i x h low high =
    let e : x ≡ prop_base s g i + (x - prop_base s g i) = omega arith in
    ap (λ (n : ℕ). get_or (values s (cell_kinds s g)) n false) e ∙ value-at s g i (x - prop_base s g i) h (omega arith)

-- the kind that a mark says
pub marked : (b : Bool) → is_function (kind_of b) ≡ b
marked true = refl
marked false = refl

-- Symbol by symbol, as the code has them: `from` is the first variable of the symbol at place i, b the number of its variables.
module _ (y : declared.Signature) (h : Limited y) (size v : ℕ) (total : (sheet : List ℕ) → v ≡ prop_count size (signature_in sheet y)) where
  abbrev g : List ℕ → Signature
  g sheet = signature_in sheet y

  -- so many variables come before the symbol at place i
  abbrev pub Base : ℕ → ℕ → Type 0
  Base i from = (sheet : List ℕ) → from ≡ prop_base size (signature_in sheet y) i

  abbrev symbol : ℕ → declared-symbol.Symbol
  symbol i = get_or y.symbols i blank

  pub base-zero : Base 0 0
  base-zero sheet = sym (prop_base-zero size (g sheet))

  module _ (i from b : ℕ) (l : i < y.count) (base : Base i from) (e : b ≡ size ^ (symbol i).arity * width size (kind_of (symbol i).function)) where
    block : (sheet : List ℕ) → block_size size (symbol_at (g sheet) i) ≡ b
    block sheet = ap (block_size size) (symbol_at-signature_in y h sheet i l) ∙ sym e

    within : (sheet : List ℕ) → i < length (g sheet)
    within sheet = omega (arith, count-signature_in y h sheet)

    pub base_more : Base (suc i) (from + b)
    base_more sheet = omega (arith, base sheet, block sheet, prop_base-suc size (g sheet) i (within sheet))

    pub base-room : from + b ≤ v
    base-room = omega (arith, base [], block [], total [], block_room size (g []) i (within []))

    pub block-first : (sheet : List ℕ) (x : ℕ) → from ≤ x → x < from + b → yes_first size (g sheet) x ≡ (symbol i).function
    block-first sheet x low high =
        symbol-first size (g sheet) i x (within sheet) (omega (arith, base sheet)) (omega (arith, base sheet, block sheet))
        ∙ ap (λ (f : Symbol). is_function f.kind) (symbol_at-signature_in y h sheet i l)
        ∙ marked (symbol i).function

  pub base-end : (i from : ℕ) → i ≡ y.count → Base i from → from ≡ v
  base-end i from e base =
      let k : i ≡ length (g []) = e ∙ sym (count-signature_in y h []) in
      base [] ∙ ap (prop_base size (g [])) k ∙ prop_base-length size (g []) ∙ sym (total [])
