-- The cell values of an interpretation: in range, and as an interpretation they embed into it, each element as itself.
use Prim.Native.Nat.{ℕ, ◌<◌}
use mathlib.Core.Path.{◌≡◌, refl, sym, ap, ◌∙◌}
use mathlib.Core.Bool.{Bool, true, false, cond}
use mathlib.Core.List.{List, map-id}
use native.Mathlib.Omega.{arith}
use lib.Dec.{eqb}
use lib.ListN.{length}
use Rattle.theory.specs.Vectors.{AllBelow}
use Rattle.theory.specs.Syntax.{Kind, function, predicate, Signature, symbol_at}
use Rattle.theory.specs.Truth.{Interpretation}
use Rattle.theory.specs.Cells.{value_count, is_interpretation, tabulated, interpretation}
use Rattle.theory.specs.Claims.Flattening.{Closed}
use Rattle.theory.proofs.Tests.{byte-is}
use Rattle.theory.proofs.Declared.{function_of→, predicate_of→, →function_of}
use Rattle.theory.proofs.Embeddings.{Embedding}
use Rattle.theory.proofs.Tabulated.{tabulated-at, tabulated-is}

-- the value at the arguments v of a symbol of this kind at place i: a function's element, a predicate's truth as 1 or 0
abbrev table_value : Interpretation → Kind → ℕ → List ℕ → ℕ
table_value I function i v = I.function i v
table_value I predicate i v = cond (I.relation i v) 1 0

-- the cell values of an interpretation of size s
abbrev pub interpretation_cells : ℕ → Signature → Interpretation → List ℕ
interpretation_cells s g I = tabulated s g (λ i. table_value I (symbol_at g i).kind i)

-- a truth as a number
bit_below : (b : Bool) → cond b 1 0 < 2
bit_below true = omega arith
bit_below false = omega arith

module _ (s : ℕ) (g : Signature) (I : Interpretation) where
  pub cells-in_range : Closed g s I → is_interpretation s g (interpretation_cells s g I) ≡ true
  cells-in_range closed = tabulated-is s g (λ i. table_value I (symbol_at g i).kind i) (λ i v h e b. below i v h e b (symbol_at g i).kind refl)
    where
      below : (i : ℕ) (v : List ℕ) → i < length g → length v ≡ (symbol_at g i).arity → AllBelow s v → (k : Kind) → (symbol_at g i).kind ≡ k → table_value I k i v < value_count s k
      below i v h e b function q = closed i v (→function_of g i (length v) (record { below = h; kind = q; arity = e })) b
      below i v h e b predicate q = bit_below (I.relation i v)

  pub cells-embedding : Embedding g s (interpretation s g (interpretation_cells s g I)) I (λ d. d)
  cells-embedding =
      record {
        one_to_one = λ d e hd he q. q;
        functions = λ f v o b.
            let d = function_of→ g f (length v) o in
            tabulated-at s g (λ i. table_value I (symbol_at g i).kind i) f v d.below d.arity b
            ∙ ap (λ (k : Kind). table_value I k f v) d.kind
            ∙ ap (I.function f) (sym (map-id v));
        relations = λ p v o b.
            let d = predicate_of→ g p (length v) o in
            ap (λ (n : ℕ). eqb n 1) (tabulated-at s g (λ i. table_value I (symbol_at g i).kind i) p v d.below d.arity b ∙ ap (λ (k : Kind). table_value I k p v) d.kind)
            ∙ byte-is (I.relation p v)
            ∙ ap (I.relation p) (sym (map-id v));
      }
