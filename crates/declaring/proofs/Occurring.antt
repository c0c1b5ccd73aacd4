-- One occurrence of a walk: it has a fault, which is the first, or the walk goes on with the symbols and variables up to it.
use Prim.Native.Nat.{ℕ}
use mathlib.Core.Path.{◌≡◌, refl, sym, ap, ◌∙◌, subst}
use mathlib.Core.Bool.{Bool}
use mathlib.Core.Option.{Option, none, some}
use mathlib.Core.List.{List, ◌∷◌, ◌++◌, append-nil}
use lib.Dec.{leb}
use borrow.Author.Tests.{lt-leb}
use Rattle.std.specs.Prelude.{Some, None, Ok, Err}
use Rattle.syntax.specs.declared.faults.Fault as syntax
use Rattle.syntax.specs.Faults.{number_of}
use Rattle.theory.specs.Syntax.{Symbol, Signature}
use Rattle.theory.specs.Least.{or_else}
use Rattle.text.specs.Lines.{part}
use Rattle.tptp.specs.Symbols.{Occurrence, declares, names, first_of_name}
use Rattle.tptp.specs.Tptp.{Fault, fault_if, occurrence_faults}
use Rattle.tptp.specs.Claims.Order.{first_fault, signature_by}
use Rattle.tptp.specs.Claims.Deciding.{first_of_occurrences}
use Rattle.declaring.specs.declared.symbols.Symbols.{Symbols}
use Rattle.declaring.specs.declared.letters.Letters.{Letters}
use Rattle.declaring.specs.declared.letters.Lettering.{Lettering}
use Rattle.declaring.specs.Tables.{TableOf, SymbolDeclared, symbol_occurrence}
use Rattle.declaring.specs.Letters.{LettersOf, LetterFound, letter_number, variable_occurrence}
use Rattle.std.specs.Prelude as rust

-- the first fault of a walk, by that of its first occurrence
walk : (X : List Symbol) (U : List (List ℕ)) (o : Occurrence) (os : List Occurrence) (f : Option Fault)
    → first_fault (occurrence_faults (signature_by (X ++ declares o)) (first_of_name (λ y. y) (U ++ names o)) o) ≡ f
    → first_of_occurrences X U (o ∷ os) ≡ or_else f (first_of_occurrences (X ++ declares o) (U ++ names o) os)
walk X U o os f e = ap (λ (q : Option Fault). or_else q (first_of_occurrences (X ++ declares o) (U ++ names o) os)) e

module _ (text : List ℕ) (start end : ℕ) where
  -- a symbol
  module _ (fn : Bool) (arity : ℕ) (t : Symbols) (X : List Symbol) (T : TableOf text X t) (U : List (List ℕ)) (os : List Occurrence) where
    abbrev o : Occurrence
    o = symbol_occurrence text start end fn arity

    pub symbol-passed : (s : Symbols) → SymbolDeclared text t start o (Ok s) → first_of_occurrences X U (o ∷ os) ≡ first_of_occurrences (X ++ declares o) (U ++ names o) os
    symbol-passed s d = walk X U o os none (d.fault X (first_of_name (λ y. y) (U ++ names o)) T)

    pub symbol-refused : (f : syntax.Fault) → SymbolDeclared text t start o (Err f) → first_of_occurrences X U (o ∷ os) ≡ some (record { number = number_of f; place = start })
    symbol-refused f d = walk X U o os (some (record { number = number_of f; place = start })) (d.fault X (first_of_name (λ y. y) (U ++ names o)) T)

  -- which leaves the variables
  pub letters-kept : (fn : Bool) (arity : ℕ) (U : List (List ℕ)) (v : Letters) → LettersOf text U v → LettersOf text (U ++ names (symbol_occurrence text start end fn arity)) v
  letters-kept fn arity U v L = L ∙ ap (first_of_name (λ y. y)) (sym (append-nil U))

  -- a variable
  module _ (v : Letters) (U : List (List ℕ)) (L : LettersOf text U v) where
    abbrev variable : Occurrence
    variable = variable_occurrence text start end

    -- its fault, if there is one, is a 17
    letter-fault : (r : rust.Option Lettering) → LetterFound text v (part text start end) r → (g : Signature) (b : Bool) → leb 8 (letter_number r) ≡ b → first_fault (occurrence_faults g (first_of_name (λ y. y) (U ++ names variable)) variable) ≡ first_fault (fault_if b 17 start)
    letter-fault r d g b e = ap (λ (n : ℕ). first_fault (fault_if (leb 8 n) 17 start)) (sym (d.number U L)) ∙ ap (λ (q : Bool). first_fault (fault_if q 17 start)) e

    pub variable-clean : (r : Lettering) → LetterFound text v (part text start end) (Some r) → (g : Signature) → first_fault (occurrence_faults g (first_of_name (λ y. y) (U ++ names variable)) variable) ≡ none
    variable-clean r d g = letter-fault (Some r) d g _ (lt-leb 8 r.place d.taken.within)

    pub variable-faulty : LetterFound text v (part text start end) None → (g : Signature) → first_fault (occurrence_faults g (first_of_name (λ y. y) (U ++ names variable)) variable) ≡ some (record { number = 17; place = start })
    variable-faulty d g = letter-fault None d g _ refl

    module _ (X : List Symbol) (os : List Occurrence) where
      pub variable-passed : (r : Lettering) → LetterFound text v (part text start end) (Some r) → first_of_occurrences X U (variable ∷ os) ≡ first_of_occurrences (X ++ declares variable) (U ++ names variable) os
      variable-passed r d = walk X U variable os none (variable-clean r d (signature_by (X ++ declares variable)))

      pub variable-refused : LetterFound text v (part text start end) None → first_of_occurrences X U (variable ∷ os) ≡ some (record { number = 17; place = start })
      variable-refused d = walk X U variable os (some (record { number = 17; place = start })) (variable-faulty d (signature_by (X ++ declares variable)))

  -- which leaves the symbols
  pub table_kept : (X : List Symbol) (t : Symbols) → TableOf text X t → TableOf text (X ++ declares (variable_occurrence text start end)) t
  table_kept X t T = subst (λ (Y : List Symbol). TableOf text Y t) (sym (append-nil X)) T
