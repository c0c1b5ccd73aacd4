-- Where the case starts in an input, byte by byte: the bytes from a place on say how much farther.
use Prim.Native.Nat.{ℕ, suc, ◌+◌, ◌≤◌, ◌<◌}
use mathlib.Core.Path.{◌≡◌, refl, sym, ap, ◌∙◌}
use mathlib.Core.Bool.{Bool, true, false, cond}
use mathlib.Core.Option.{none, some}
use mathlib.Core.List.{List}
use native.Mathlib.Numerals.{add-one}
use native.Mathlib.Omega.{arith}
use lib.Dec.{eqb}
use lib.ListN.{length, get_or, drop, drop_of_length-le}
use lib.Seq.{drop-cons}
use Rattle.theory.specs.Bytes.{bytes, LF}
use Rattle.theory.specs.LineForms.{is_some}
use Rattle.theory.specs.Explainer.{case_here, case_start}
use Rattle.text.specs.Lines.{StartsWith}

pub begins : (fresh : Bool) (text : List ℕ) (r : Bool) → fresh ≡ true → StartsWith text (bytes "case=1\n") r → r ≡ case_here fresh text
begins fresh text r e s = sym (ap (λ (b : Bool). case_here b text) e ∙ ap is_some s.found ∙ found r)
  where
    found : (r : Bool) → is_some (cond r (some (drop 7 text)) none) ≡ r
    found true = refl
    found false = refl

module _ (input : List ℕ) where
  -- the case does not start before place i
  pub record Unstarted (i : ℕ) (fresh : Bool) : Type 0 where
    pub within : i ≤ length input
    pub farther : case_start true input ≡ i + case_start fresh (drop i input)

  pub unstarted : Unstarted 0 true
  unstarted = record { within = omega arith; farther = omega arith }

  module _ (i : ℕ) (fresh : Bool) (u : Unstarted i fresh) where
    next : i < length input → case_start fresh (drop i input) ≡ cond (case_here fresh (drop i input)) 0 (suc (case_start (eqb (get_or input i 0) LF) (drop (suc i) input)))
    unfolding case_start
    next h = let e = drop-cons input i 0 h in ap (case_start fresh) e ∙ ap (λ (t : List ℕ). cond (case_here fresh t) 0 (suc (case_start (eqb (get_or input i 0) LF) (drop (suc i) input)))) (sym e)

    pub starts : i < length input → case_here fresh (drop i input) ≡ true → i ≡ case_start true input
    starts h e = omega (arith, u.farther, next h ∙ ap (λ (b : Bool). cond b 0 (suc (case_start (eqb (get_or input i 0) LF) (drop (suc i) input)))) e)

    pub goes_on : i < length input → case_here fresh (drop i input) ≡ false → Unstarted (i + 1) (eqb (get_or input i 0) LF)
    goes_on h e =
        let one : case_start fresh (drop i input) ≡ suc (case_start (eqb (get_or input i 0) LF) (drop (i + 1) input)) =
        next h ∙ ap (λ (b : Bool). cond b 0 (suc (case_start (eqb (get_or input i 0) LF) (drop (suc i) input)))) e ∙ ap (λ (k : ℕ). suc (case_start (eqb (get_or input i 0) LF) (drop k input))) (sym (add-one i)) in
        record { within = omega arith; farther = omega (arith, u.farther, one) }

    pub never : length input ≤ i → i ≡ case_start true input
    unfolding case_start
    never h = omega (arith, u.farther, ap (case_start fresh) (drop_of_length-le input {i = i} h))
