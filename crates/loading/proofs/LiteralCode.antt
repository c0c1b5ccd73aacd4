-- What is written where a literal is entered fits.
use mathlib.Core.Path.{◌≡◌, refl, sym, ap, ◌∙◌}
use mathlib.Core.Bool.{false}
use mathlib.Core.List.{List, [], ◌∷◌, ◌++◌}
use Prim.Native.Nat.{ℕ, ◌+◌, ◌*◌, ◌<◌, ◌^◌}
use native.Mathlib.Omega.{arith}
use lib.ListN.{length, get_or, length-append}
use lib.Seq.{get_or-append_seam}
use Rattle.theory.specs.Lists.{elem}
use Rattle.propagation.specs.Clauses.{weight}
use Rattle.propagation.specs.WorkArea.{ShortClause}
use Rattle.propagation.proofs.Lives.{weight-small}
use Rattle.loading.specs.Filling.{from, to, ends_with}
use Rattle.loading.specs.Loading.{LiteralEnterable}
use Rattle.loading.proofs.Entering.{all-last}
use Rattle.loading.proofs.Filled.{test}

module _ (v u c : ℕ) (w : List ℕ) (e : LiteralEnterable v u c w) where
  many : length (e.es ++ (e.d ∷ [])) ≡ length e.es + 1
  many = length-append e.es (e.d ∷ [])

  pub weight-fits : get_or w c 0 + 64 * u + 1 < 2 ^ 32
  weight-fits =
      let k = all-last (ShortClause v) e.es e.d e.filling.clauses in
      let o : get_or w c 0 ≡ weight [] e.d =
      ap (λ (n : ℕ). get_or w n 0) e.at ∙ e.filling.weights (length e.es) (omega (arith, many)) ∙ ap (weight []) (get_or-append_seam e.es e.d [] []) in
      omega (arith, o, weight-small v [] e.d e.filling.small k.within, e.short, e.literal, e.filling.small)

  is-elem : ends_with (from v u w) (to v u w) c w ≡ elem u e.d
  is-elem = ap (λ (n : ℕ). ends_with (from v u w) (to v u w) n w) e.at ∙ test v e.cs e.es e.d w e.filling u e.literal (elem u e.d) refl

  module _ (t : ends_with (from v u w) (to v u w) c w ≡ false) where
    pub end_below : to v u w < length w
    end_below = omega (arith, e.space (sym is-elem ∙ t), e.filling.room u e.literal)

    pub end_fits : to v u w + 1 < 2 ^ 32
    end_fits = omega (arith, e.space (sym is-elem ∙ t), e.filling.inner u e.literal, e.fits)
