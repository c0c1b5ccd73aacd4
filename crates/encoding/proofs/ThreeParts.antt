-- All clauses are those of the function cells, the constant clauses where they are used, and the instances; and a numbering does not depend on names.
use Prim.Native.Nat.{ℕ, ◌<◌}
use mathlib.Core.Path.{◌≡◌, refl, sym, ap, ap₂, ◌∙◌}
use mathlib.Core.Bool.{Bool, true, false, cond}
use mathlib.Core.List.{List, [], ◌++◌, map, map-map}
use native.Mathlib.Omega.{arith}
use lib.ListN.{take}
use Rattle.theory.specs.Lists.{sum, concat_map}
use Rattle.theory.specs.Syntax.{Signature, symbol_at}
use Rattle.theory.specs.Syntax as theory
use Rattle.theory.specs.Propositional.{PropClause, width, block_size, prop_base, prop_count}
use Rattle.theory.specs.PropClauses.{Part, function_part, clause_part, function_places}
use Rattle.theory.specs.Problem.{Problem}
use Rattle.theory.proofs.Lists.{concat_map-append, concat_map-map, map-take}
use Rattle.symmetry.specs.ConstantClauses.{constant_parts, parts_with, prop_clauses_with}
use Rattle.syntax.specs.declared.limits.Problem as limits
use Rattle.syntax.specs.declared.signature.Symbol.{Symbol}
use Rattle.syntax.specs.declared.signature.Signature as declared
use Rattle.syntax.specs.Signatures.{symbol_in, signature_in}
use Rattle.clauses.specs.Names.{Limited}
use Rattle.clauses.proofs.Held.{count-signature_in, symbol_at-signature_in}
use Rattle.problem.specs.Problems.{problem_in}
use Rattle.stream.specs.Consuming.{Effect, Consumes, Consumed}
use Rattle.stream.proofs.Streams.{both-consumed, first-consumes, rest-consumes, consumes-same, consumed-same}
use Rattle.grounding.specs.CellPart.{cell_part}
use Rattle.valuations.specs.declared.numbering.Numbering.{Numbering}
use Rattle.valuations.specs.Numbers.{NumberingOf}
use Rattle.instancing.specs.InstancePart.{instance_part}
use Rattle.twins.specs.TwinPart.{twin_part}
use Rattle.encoding.specs.Passes.{twins_used}

-- the constant clauses where they are used
twins-used : (b : Bool) (s : ℕ) (g : Signature) → concat_map (λ (p : Part). p.clauses) (cond b (constant_parts s g) []) ≡ cond b (twin_part s g) []
unfolding twin_part
twins-used true s g = refl
twins-used false s g = refl

pub three-parts : (b : Bool) (s : ℕ) (q : Problem) → prop_clauses_with b s q.symbols q.clauses ≡ cell_part s q.symbols ++ (cond b (twin_part s q.symbols) [] ++ instance_part s q)
unfolding prop_clauses_with parts_with clause_part cell_part instance_part
three-parts b s q =
    let g : Signature = q.symbols in
    let clauses : Part → List PropClause = λ p. p.clauses in
    let twins : List Part = cond b (constant_parts s g) [] in
    let rest : List Part = map (clause_part s g) q.clauses in
    concat_map-append clauses (map (function_part s g) (function_places g)) (twins ++ rest)
    ∙ ap₂ (λ (xs ys : List PropClause). xs ++ ys) (concat_map-map clauses (function_part s g) (function_places g))
    (concat_map-append clauses twins rest ∙ ap₂ (λ (xs ys : List PropClause). xs ++ ys) (twins-used b s g) (concat_map-map clauses (clause_part s g) q.clauses))

-- Taking all clauses, as those three parts.
module _ {S : Type 0} (effect : Effect S) (sheet : List ℕ) (p : limits.Problem) (s : ℕ) where
  abbrev written : List PropClause
  written = prop_clauses_with p.symmetry s (problem_in sheet p).symbols (problem_in sheet p).clauses

  abbrev cells : List PropClause
  cells = cell_part s (signature_in sheet p.signature)

  abbrev twins : List PropClause
  twins = twins_used s sheet p

  abbrev rest : List PropClause
  rest = instance_part s (problem_in sheet p)

  whole : written ≡ cells ++ (twins ++ rest)
  unfolding problem_in
  whole = three-parts p.symmetry s (problem_in sheet p)

  pub cells-first : (x : S) → Consumes effect written x → Consumes effect cells x
  cells-first x h = first-consumes effect cells (twins ++ rest) x (consumes-same effect written (cells ++ (twins ++ rest)) x whole h)

  after-cells : (x y : S) → Consumes effect written x → Consumed effect cells x y → Consumes effect (twins ++ rest) y
  after-cells x y h c = rest-consumes effect cells (twins ++ rest) x y (consumes-same effect written (cells ++ (twins ++ rest)) x whole h) c

  pub twins-next : (x y : S) → Consumes effect written x → Consumed effect cells x y → Consumes effect twins y
  twins-next x y h c = first-consumes effect twins rest y (after-cells x y h c)

  pub instances-next : (x y z : S) → Consumes effect written x → Consumed effect cells x y → Consumed effect twins y z → Consumes effect rest z
  instances-next x y z h c d = rest-consumes effect twins rest y z (after-cells x y h c) d

  pub all-taken : (x y z w : S) → Consumed effect cells x y → Consumed effect twins y z → Consumed effect rest z w → Consumed effect written x w
  all-taken x y z w c d e =
      consumed-same effect (cells ++ (twins ++ rest)) written x w (sym whole) (both-consumed effect cells (twins ++ rest) x y w c (both-consumed effect twins rest y z w d e))

-- The signature of the same symbols in another sheet.
module _ (y : declared.Signature) (h : Limited y) (a b : List ℕ) (s : ℕ) where
  first : (ys : List Symbol) → prop_count s (map (symbol_in a) ys) ≡ prop_count s (map (symbol_in b) ys)
  unfolding prop_count
  first ys = ap sum (map-map (block_size s) (symbol_in a) ys ∙ sym (map-map (block_size s) (symbol_in b) ys))

  same_count : prop_count s (signature_in a y) ≡ prop_count s (signature_in b y)
  unfolding signature_in
  same_count = first (take y.count y.symbols)

  same_base : (i : ℕ) → prop_base s (signature_in a y) i ≡ prop_base s (signature_in b y) i
  unfolding signature_in prop_base
  same_base i =
      let ys : List Symbol = take y.count y.symbols in
      ap (prop_count s) (sym (map-take (symbol_in a) i ys)) ∙ first (take i ys) ∙ ap (prop_count s) (map-take (symbol_in b) i ys)

  same_width : (i : ℕ) → i < y.count → width s (symbol_at (signature_in a y) i).kind ≡ width s (symbol_at (signature_in b y) i).kind
  same_width i l =
      ap (λ (f : theory.Symbol). width s f.kind) (symbol_at-signature_in y h a i l)
      ∙ sym (ap (λ (f : theory.Symbol). width s f.kind) (symbol_at-signature_in y h b i l))

  pub numbering-anywhere : (n : Numbering) → NumberingOf (signature_in a y) s n → NumberingOf (signature_in b y) s n
  numbering-anywhere n o =
      let la = count-signature_in y h a in
      let lb = count-signature_in y h b in
      record {
        bases-held = omega (arith, o.bases-held, la, lb);
        base = λ i l. o.base i (omega (arith, la, lb)) ∙ same_base i;
        widths-held = omega (arith, o.widths-held, la, lb);
        width = λ i l. o.width i (omega (arith, la, lb)) ∙ same_width i (omega (arith, lb));
        count = o.count ∙ same_count;
        few = omega (arith, o.few, la, lb);
        small = o.small;
      }
