-- The table of spans, by place.
use Prim.Native.Nat.{ℕ, ◌<◌}
use mathlib.Core.Path.{◌≡◌, ap, ◌∙◌}
use mathlib.Core.Bool.{Bool}
use mathlib.Core.List.{List}
use native.Mathlib.Omega.{arith}
use lib.ListN.{length, get_or}
use lib.Seq.{get_or-take, length-take-le}
use Rattle.theory.specs.Lists.{same}
use Rattle.syntax.specs.declared.terms.Span.{Span}
use Rattle.syntax.specs.declared.terms.FixedTerms.{FixedTerms}
use Rattle.shortening.specs.Tables.{bytes_at, no_span, spans_of, TableWithin}

-- the span has the bytes of this one
abbrev pub alike : List ℕ → Span → Span → Bool
alike sheet s u = same (bytes_at sheet u) (bytes_at sheet s)

module _ (sheet : List ℕ) (ts : FixedTerms) (h : TableWithin sheet ts) where
  pub length-spans : length (spans_of ts) ≡ ts.count
  length-spans = length-take-le ts.count ts.spans (omega (arith, h.count, h.held))

  pub span-at : (i : ℕ) → i < ts.count → get_or (spans_of ts) i no_span ≡ get_or ts.spans i no_span
  span-at i l = get_or-take ts.count ts.spans i no_span l

  -- the test at a place of the table
  pub alike_at : (s : Span) (i : ℕ) (b : Bool) → i < ts.count → alike sheet s (get_or ts.spans i no_span) ≡ b → alike sheet s (get_or (spans_of ts) i no_span) ≡ b
  alike_at s i b l e = ap (alike sheet s) (span-at i l) ∙ e
