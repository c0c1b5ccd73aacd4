-- A line of a key and a value: where it is read, and what it is read to, whatever the value is.
use Prim.Native.Nat.{ℕ, suc, ◌+◌, ◌≤◌}
use mathlib.Core.Path.{◌≡◌, refl, ap, ◌∙◌}
use mathlib.Core.Bool.{Bool, true, false, cond}
use mathlib.Core.Option.{Option, none, some}
use mathlib.Core.List.{List}
use native.Mathlib.Omega.{arith}
use lib.ListN.{length, drop}
use Rattle.theory.specs.Lines.{cut_line, after_key}
use Rattle.theory.specs.Program.{◌>>?◌}
use Rattle.theory.proofs.Tests.{ltb-of-<, ltb-of-≤}
use Rattle.solver.proofs.Options.{read-on, not-read}
use Rattle.text.specs.Lines.{part, LineEnd, StartsWith}
use Rattle.text.proofs.Part.{length_part, drop-part}

-- the number that a value is read to, and the text after its line
abbrev pub keyed_line : (List ℕ → Option ℕ) → List ℕ → List ℕ → Option (ℕ × List ℕ)
keyed_line of key text = cut_line text >>? λ p. after_key key p.0 >>? λ v. of v >>? λ n. some (n, p.1)

module _ (of : List ℕ → Option ℕ) (input : List ℕ) (at end : ℕ) (key : List ℕ) (l : LineEnd input at end) where
  pub no_line : end ≡ length input → keyed_line of key (drop at input) ≡ none
  no_line e =
      let cut : cut_line (drop at input) ≡ none = l.cut ∙ ap (λ (b : Bool). cond b (some (part input at end, drop (suc end) input)) none) (ltb-of-≤ end (length input) (omega arith)) in
      not-read (cut_line (drop at input)) _ cut

  module _ (h : end ≡ length input → ⊥) where
    cut : cut_line (drop at input) ≡ some (part input at end, drop (suc end) input)
    cut = l.cut ∙ ap (λ (b : Bool). cond b (some (part input at end, drop (suc end) input)) none) (ltb-of-< end (length input) (omega (arith, l.within)))

    pub no_key : StartsWith (part input at end) key false → keyed_line of key (drop at input) ≡ none
    no_key s = read-on (cut_line (drop at input)) _ (part input at end, drop (suc end) input) cut ∙ not-read (after_key key (part input at end)) _ s.found

    pub value-from : StartsWith (part input at end) key true → at + length key ≤ end
    value-from s = omega (arith, s.room refl, length_part input at end l.from l.within, l.from)

    pub keyed : StartsWith (part input at end) key true → keyed_line of key (drop at input) ≡ (of (part input (at + length key) end) >>? λ n. some (n, drop (suc end) input))
    keyed s =
        let value : after_key key (part input at end) ≡ some (part input (at + length key) end) = s.found ∙ ap some (drop-part input at end (length key)) in
        read-on (cut_line (drop at input)) _ (part input at end, drop (suc end) input) cut ∙ read-on (after_key key (part input at end)) _ (part input (at + length key) end) value
