-- The front of a setting that holds the bits of a signature's cells, as Read back cuts it off and writes it.
use Prim.Native.Nat.{ℕ, ◌≤◌, ◌<◌}
use mathlib.Core.Path.{◌≡◌, sym, ap, ◌∙◌, subst}
use mathlib.Core.Bool.{true}
use mathlib.Core.List.{List}
use native.Mathlib.Omega.{arith}
use lib.Dec.{ltb}
use lib.ListN.{length, take}
use lib.Seq.{length-take-le}
use Rattle.theory.specs.Syntax as theory
use Rattle.theory.specs.Refusals.{refused, needing}
use Rattle.theory.specs.Propositional.{prop_count}
use Rattle.theory.specs.CaseText.{case_length}
use Rattle.theory.specs.Operations.{over}
use Rattle.theory.specs.Valuation.{is_valuation, is_functional, read_back}
use Rattle.theory.proofs.Tests.{eqb-of-≡, and-join}
use Rattle.theory.proofs.Lists.{all_take}
use Rattle.theory.proofs.CaseLengths.{case-lengths}
use Rattle.theory.proofs.Valuations.{read_back-is_interpretation}
use Rattle.naming.specs.NamedProblem.{shown_symbols, shown_text}
use Rattle.std.specs.Prelude.{Ok}
use Rattle.answers.specs.Calls.{WritingCall}
use Rattle.answers.proofs.Answering.{writes}
use Rattle.syntax.specs.declared.signature.Signature.{Signature}
use Rattle.syntax.specs.Signatures.{signature_in, without_helpers}
use Rattle.clauses.specs.Names.{Readable}
use Rattle.valuations.specs.declared.numbering.Numbering.{Numbering}
use Rattle.valuations.specs.Numbers.{NumberingOf}
use Rattle.valuations.proofs.Bits.{is-counted, is-binary}
use Rattle.reading_back.specs.Bits.{WritableBits, front_bits, FrontLent, case_said}
use Rattle.reading_back.specs.Settings.{SizedSymbols, text_said}
use Rattle.reading_back.proofs.Shown.{readable-first, variables-first, counted-first, functional-first, text-first, length-first}
use Rattle.reading_back.proofs.Answered.{no_room, text-said}

-- the setting is cut where the numbering ends
module _ (sheet : List ℕ) (y : Signature) (s : ℕ) (setting : List ℕ) (h : FrontLent sheet y s setting) (n : Numbering) (numbered : NumberingOf (signature_in sheet y) s n) where
  abbrev front : List ℕ
  front = take n.count setting

  pub front-is : front ≡ front_bits s (signature_in sheet y) setting
  front-is = ap (λ (k : ℕ). take k setting) numbered.count

  pub front_length : n.count ≡ length front
  front_length = sym (length-take-le n.count setting (omega (arith, numbered.count, h.counted)))

  pub front-bits : WritableBits sheet y n s front
  front-bits =
      record {
        readable = h.readable;
        positive = h.positive;
        size = h.size;
        numbered = numbered;
        counted = sym front_length;
        binary = all_take (λ b. ltb b 2) n.count setting h.binary;
        functional = ap (is_functional s (signature_in sheet y)) front-is ∙ h.functional;
      }

  pub front-said : (output : List ℕ) → over (case_said sheet y s front) output ≡ over (case_said sheet y s (front_bits s (signature_in sheet y) setting)) output
  front-said output = ap (λ (σ : List ℕ). over (case_said sheet y s σ) output) front-is

-- the case that a setting says, of the declared symbols y₀
module _ (sheet : List ℕ) (y : Signature) (s : ℕ) (setting : List ℕ) (h : SizedSymbols sheet y s) (y₀ : Signature) (is : y₀ ≡ without_helpers y) where
  abbrev G : theory.Signature
  G = signature_in sheet y

  pub readable-shown : Readable sheet y₀
  readable-shown = subst (Readable sheet) (sym is) (readable-first y sheet h.readable)

  module _ (valuation : is_valuation s G setting ≡ true) (functional : is_functional s G setting ≡ true) where
    first-lent : FrontLent sheet (without_helpers y) s setting
    first-lent =
        record {
          readable = readable-first y sheet h.readable;
          positive = h.positive;
          size = h.within;
          counted = omega (arith, is-counted s G setting valuation, variables-first y sheet s);
          binary = is-binary s G setting valuation;
          functional = functional-first y sheet s setting functional;
        }

    -- the case that the front says has its length
    abbrev g : theory.Signature
    g = signature_in sheet (without_helpers y)

    abbrev σ : List ℕ
    σ = front_bits s g setting

    first-length : length (case_said sheet (without_helpers y) s σ) ≡ case_length s g
    unfolding is_valuation
    first-length =
        case-lengths s g (read_back s g σ) h.positive
        (read_back-is_interpretation s g σ
        (and-join _ _ (eqb-of-≡ (length σ) (prop_count s g) (counted-first y sheet s setting (is-counted s G setting valuation))) (all_take (λ b. ltb b 2) (prop_count s g) setting first-lent.binary))
        first-lent.functional)

    pub front-lent : FrontLent sheet y₀ s setting
    front-lent = subst (λ (y : Signature). FrontLent sheet y s setting) (sym is) first-lent

    -- what is written is what a case shows, and as long
    pub shown-said : case_said sheet y₀ s (front_bits s (signature_in sheet y₀) setting) ≡ shown_text s G (read_back s G setting)
    shown-said = ap (λ (y : Signature). case_said sheet y s (front_bits s (signature_in sheet y) setting)) is ∙ sym (text-first y sheet s setting h.shows)

    pub shown-long : case_length s (signature_in sheet y₀) ≡ length (shown_text s G (read_back s G setting))
    shown-long = ap (λ (y : Signature). case_length s (signature_in sheet y)) is ∙ sym first-length ∙ ap length (sym (text-first y sheet s setting h.shows))

    module _ (room n : ℕ) (measured : n ≡ case_length s (signature_in sheet y₀)) where
      length-is : n ≡ case_length s (shown_symbols G)
      length-is = measured ∙ ap (λ (y : Signature). case_length s (signature_in sheet y)) is ∙ sym (length-first y sheet s h.shows)

      pub shown-too-long : room < n → text_said s G setting room ≡ refused (needing 11 n)
      shown-too-long l = no_room s G setting room valuation functional (omega (arith, length-is)) ∙ ap (λ (k : ℕ). refused (needing 11 k)) (sym length-is)

    pub shown-written : (out out' : List ℕ) (n : ℕ) → n ≡ case_length s (signature_in sheet y₀) → n ≤ length out → out' ≡ over (case_said sheet y₀ s (front_bits s (signature_in sheet y₀) setting)) out
        → WritingCall (text_said s G setting (length out)) (Ok n) out out'
    shown-written out out' n measured l put =
        writes _ (shown_text s G (read_back s G setting)) n out out' (text-said s G setting (length out) valuation functional (omega (arith, length-is (length out) n measured))) (measured ∙ shown-long)
        (put ∙ ap (λ (t : List ℕ). over t out) shown-said)
