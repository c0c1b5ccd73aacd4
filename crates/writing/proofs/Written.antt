-- The written text: a header, then the clauses' lines.
use Prim.Native.Nat.{ℕ, ◌+◌, ◌^◌, ◌≤◌, ◌<◌}
use mathlib.Core.Path.{◌≡◌, refl, sym, ap, ◌∙◌}
use mathlib.Core.Bool.{Bool}
use mathlib.Core.List.{List, ◌++◌}
use native.Mathlib.Nat.{zero-add}
use native.Mathlib.Omega.{arith}
use lib.ListN.{length, length-append}
use Rattle.theory.specs.Propositional.{prop_count}
use Rattle.theory.specs.Dimacs.{header, dimacs}
use Rattle.theory.specs.Problem as theory
use Rattle.theory.specs.Operations.{over}
use Rattle.text.specs.Put.{put, put-run}
use Rattle.stream.specs.Consuming.{texts}
use Rattle.text.proofs.Decimal.{decimal-within}
use Rattle.stream.proofs.Texts.{length-header}
use Rattle.writing.specs.Texts.{clauses_at, clauses_text}

-- what is put from the start on
put-over : (out t : List ℕ) → put out 0 t ≡ over t out
unfolding put
put-over out t = rw zero-add refl

-- the first line is short
header-small : (v m : ℕ) → v < 2 ^ 32 → m < 2 ^ 32 → length (header v m) ≤ 28
header-small v m h k = omega (arith, length-header v m, decimal-within 9 v (omega arith), decimal-within 9 m (omega arith))

-- the length of the text fits its type
pub needed-small : (v m a b n : ℕ) → v < 2 ^ 32 → m < 2 ^ 32 → a ≡ length (header v m) → b ≡ n → n < 2 ^ 43 → a + b < 2 ^ 64
needed-small v m a b n h k e f l = omega (arith, header-small v m h k)

module _ (used : Bool) (p : theory.Problem) (s v m : ℕ) (variables : v ≡ prop_count s p.symbols) (clauses : m ≡ length (clauses_at used p s)) where
  parts : clauses_text used p s ≡ header v m ++ texts (clauses_at used p s)
  unfolding dimacs
  parts = ap (λ (k : ℕ). header k (length (clauses_at used p s)) ++ texts (clauses_at used p s)) (sym variables) ∙ ap (λ (k : ℕ). header v k ++ texts (clauses_at used p s)) (sym clauses)

  -- its length
  pub needed : (a b : ℕ) → a ≡ length (header v m) → b ≡ length (texts (clauses_at used p s)) → a + b ≡ length (clauses_text used p s)
  needed a b e f = omega (arith, ap length parts, length-append (header v m) (texts (clauses_at used p s)))

  -- the header put, and the lines after it
  pub both-put : (out out₁ out₂ : List ℕ) (at end : ℕ) → length (clauses_text used p s) ≤ length out
      → out₁ ≡ put out 0 (header v m) → at ≡ 0 + length (header v m)
      → out₂ ≡ put out₁ at (texts (clauses_at used p s)) → end ≡ at + length (texts (clauses_at used p s))
      → (end ≡ length (clauses_text used p s)) × (out₂ ≡ over (clauses_text used p s) out)
  both-put out out₁ out₂ at end room p₁ n₁ p₂ n₂ =
      let long = length-append (header v m) (texts (clauses_at used p s)) in (
        omega (arith, ap length parts, long),
        put-run out out₁ out₂ 0 at (header v m) (texts (clauses_at used p s)) p₁ n₁ p₂ (omega (arith, ap length parts, long))
            ∙ ap (put out 0) (sym parts)
            ∙ put-over out (clauses_text used p s),
      )

  -- the lines have room after the header
  pub lines_fit : (room at : ℕ) → length (clauses_text used p s) ≤ room → at ≡ 0 + length (header v m) → at + length (texts (clauses_at used p s)) ≤ room
  lines_fit room at h e = omega (arith, ap length parts, length-append (header v m) (texts (clauses_at used p s)))
