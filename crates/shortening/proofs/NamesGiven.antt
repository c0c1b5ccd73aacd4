-- The name of a term: that of an equal one in the table, or a new one.
use Prim.Native.Nat.{ℕ, ◌+◌, ◌<◌}
use mathlib.Core.Path.{◌≡◌, refl, sym, ap, ◌∙◌}
use Rattle.std.specs.Prelude.{Some, None}
use mathlib.Core.List.{List, [], ◌∷◌, ◌++◌}
use native.Mathlib.Omega.{arith}
use lib.ListN.{length, length-append}
use Rattle.theory.specs.Syntax.{Signature, Term}
use Rattle.syntax.specs.declared.terms.Span.{Span}
use Rattle.syntax.specs.declared.terms.FixedTerms.{FixedTerms}
use Rattle.naming.specs.FixedTerms.{name_of}
use Rattle.naming.specs.NamedReading.{max_helpers}
use Rattle.shortening.specs.Tables.{spans_of, PlaceOf, term_at, terms_in, TermThere, TermsThere}
use Rattle.shortening.specs.ShortLines.{NameGiven}
use Rattle.shortening.proofs.NamedTable.{length-terms, old-added, old-name, new-added, new-name, with-terms, with-there}

module _ (g : Signature) (sheet : List ℕ) (n : ℕ) (ts : FixedTerms) (s : Span) (h : TermsThere g sheet ts) (there : TermThere g sheet s) where
  -- an equal term is in the table
  pub old-given : (i : ℕ) → PlaceOf sheet ts s (Some i) → i < ts.count → NameGiven g sheet n ts s (Some (record { code = n + i; end = s.to; terms = ts }))
  old-given i e l =
      record {
        end = refl;
        there = h;
        added = sym (old-added g sheet ts h s there i e);
        name = λ zs. old-name g sheet ts h s there i e n zs;
        code = omega arith;
      }

  module _ (e : PlaceOf sheet ts s None) where
    -- none is, and there is no room
    pub none-given : ts.count ≡ max_helpers → NameGiven g sheet n ts s None
    none-given all = omega (arith, ap length (new-added g sheet ts h s there e), length-append (terms_in g sheet ts) (term_at g sheet s ∷ []), length-terms g sheet ts h)

    -- none is: it gets the next place
    pub new-given : (ts.count ≡ max_helpers → ⊥) → (us : FixedTerms) → length us.spans ≡ max_helpers → us.count ≡ ts.count + 1 → spans_of us ≡ spans_of ts ++ (s ∷ [])
        → NameGiven g sheet n ts s (Some (record { code = n + ts.count; end = s.to; terms = us }))
    new-given room us held count more =
        let w : terms_in g sheet us ≡ terms_in g sheet ts ++ (term_at g sheet s ∷ []) = with-terms g sheet ts h s there us held count more in
        record {
          end = refl;
          there = with-there g sheet ts h s there us held count more (omega (arith, h.table.count));
          added = w ∙ sym (new-added g sheet ts h s there e);
          name = λ zs. ap (λ (found : List Term). name_of n (found ++ zs) (term_at g sheet s)) w ∙ new-name g sheet ts h s there e n zs;
          code = omega (arith, count);
        }
