-- A sheet that is refused: what its number says of the line, and its column.
use Prim.Native.Nat.{ℕ, zero, suc, ◌-◌, ◌≤◌, ◌<◌}
use mathlib.Core.Path.{◌≡◌, refl, sym, ap, ◌∙◌, subst}
use mathlib.Core.Logic.{inl, inr, ⊎_elim}
use mathlib.Core.Bool.{Bool, true, false, cond}
use mathlib.Core.List.{List}
use native.Mathlib.Omega.{arith}
use lib.Dec.{leb}
use lib.ListN.{length}
use borrow.Author.Tests.{eq-eqb, ne_eqb}
use Rattle.theory.specs.Syntax.{Signature}
use Rattle.theory.specs.Refusals.{refused, at_line, at_place}
use Rattle.theory.specs.Problem.{read_all, read_problem}
use Rattle.theory.specs.LineForms.{LineForm}
use Rattle.theory.specs.DueLines.{first_line, from_line, due_in_sheet, sheet_symbols}
use Rattle.theory.specs.Columns.{is_declaration, line_words, line_column, sheet_column, with_columns, placed_problem}
use Rattle.theory.specs.Claims.Columns.{OverNumber}
use Rattle.theory.proofs.Tests.{both_false, true-or-false, leb-true, leb-false}
use Rattle.theory.proofs.SheetFaults.{HasFault, LineFault, sheet-fault, clause-due}
use Rattle.naming.specs.NamedReading.{read_named, named_column, placed_named}
use Rattle.naming.specs.NamedOperations.{read_problem_in}
use Rattle.naming.proofs.NamedFaults.{named-fault}
use Rattle.text.specs.Lines.{part}
use Rattle.syntax.specs.declared.signature.Signature as declared
use Rattle.syntax.specs.Signatures.{signature_in}
use Rattle.columns.specs.declared.due.SheetLine.{SheetLine}
use Rattle.columns.specs.declared.due.SheetLine.TheVariants.{Clause}
use Rattle.syntax.specs.declared.terms.Span.{Span}
use Rattle.columns.specs.Lines.{LineAt}
use Rattle.columns.specs.Due.{form_of}
use Rattle.columns.specs.Sheets.{ByteRefused, LineRefused, SymbolsFound, KnownFrom6, WordsRefused}

pub refused-placed : (sheet : List ℕ) (n l c : ℕ) → read_problem sheet ≡ refused (at_line n l) → c ≡ sheet_column sheet n l → placed_problem sheet ≡ refused (at_place n (record { line = l; column = c }))
unfolding placed_problem
refused-placed sheet n l c e h = ap (with_columns (sheet_column sheet)) e ∙ ap (λ (c : ℕ). refused (at_place n (record { line = l; column = c }))) (sym h)

pub lineless : (sheet : List ℕ) (n l : ℕ) → l ≡ 0 → 0 ≡ sheet_column sheet n l
unfolding sheet_column
lineless sheet n l e = ap (sheet_column sheet n) (sym e)

-- the numbers 5 to 7, and what they say of the words
module _ (text : List ℕ) (l : ℕ) where
  abbrev words : List (List ℕ)
  words = line_words (due_in_sheet text l) (first_line (from_line l text))

  late-words : (n : ℕ) → 5 ≤ n → HasFault text n l → (n ≤ 7) × KnownFrom6 (sheet_symbols text) n words
  late-words zero h f = absurd f
  late-words (suc zero) h f = absurd f
  late-words (suc (suc zero)) h f = absurd (omega arith)
  late-words (suc (suc (suc zero))) h f = absurd (omega arith)
  late-words (suc (suc (suc (suc zero)))) h f = absurd (omega arith)
  late-words (suc (suc (suc (suc (suc zero))))) h f = (omega arith, λ k. absurd (omega arith))
  late-words (suc (suc (suc (suc (suc (suc zero)))))) h f = (omega arith, λ k. (f.known, f.read))
  late-words (suc (suc (suc (suc (suc (suc (suc zero))))))) h f = (omega arith, λ k. (f.known, f.read))
  late-words (suc (suc (suc (suc (suc (suc (suc (suc n)))))))) h f = absurd f

-- a number over its limit in a line that declares a symbol is its arity
arity-there : (d : LineForm) (l : List ℕ) (c : ℕ) → OverNumber d l c → is_declaration d ≡ true → 2 ≤ length l
arity-there d l c (inl o) e = absurd (both_false e (ap is_declaration o.due))
arity-there d l c (inr o) e = omega (arith, o.last, o.second)

-- the line of a refusal has its condition, in both modes
line-fault : (sheet : List ℕ) (n l : ℕ) (named : Bool) → read_problem_in named sheet ≡ refused (at_line n (suc l)) → (named ≡ true → n ≡ 7 → ⊥) → LineFault sheet l n
line-fault sheet n l false e other = sheet-fault sheet n l e
line-fault sheet n l true e other = named-fault sheet n l (other refl) e

-- the column of a 7 with named terms, and of any other
pub seven-told : (sheet : List ℕ) (n l : ℕ) → n ≡ 7 → (l ≡ 0 → ⊥) → 1 ≡ named_column sheet n l
unfolding named_column
seven-told sheet n zero e h = absurd (h refl)
seven-told sheet n (suc l) e h = sym (ap (λ (b : Bool). cond b 1 (sheet_column sheet n (suc l))) (eq-eqb n 7 e))

pub other-told : (sheet : List ℕ) (n l r : ℕ) → (n ≡ 7 → ⊥) → (l ≡ 0 → ⊥) → r ≡ sheet_column sheet n l → r ≡ named_column sheet n l
unfolding named_column
other-told sheet n zero r ne h e = absurd (h refl)
other-told sheet n (suc l) r ne h e = e ∙ sym (ap (λ (b : Bool). cond b 1 (sheet_column sheet n (suc l))) (ne_eqb n 7 ne))

pub named-lineless : (sheet : List ℕ) (n l : ℕ) → l ≡ 0 → 0 ≡ named_column sheet n l
unfolding named_column
named-lineless sheet n l e = ap (named_column sheet n) (sym e)

pub named-placed : (sheet : List ℕ) (n l c : ℕ) → read_named sheet ≡ refused (at_line n l) → c ≡ named_column sheet n l → placed_named sheet ≡ refused (at_place n (record { line = l; column = c }))
unfolding placed_named
named-placed sheet n l c e h = ap (with_columns (named_column sheet)) e ∙ ap (λ (c : ℕ). refused (at_place n (record { line = l; column = c }))) (sym h)

-- a sheet that is refused on a line
module _ (sheet : List ℕ) (n line : ℕ) (there : Span) (e : LineRefused sheet n line) (h : line ≡ 0 → ⊥) (at : LineAt sheet (line - 1) there) where
  abbrev bytes : List ℕ
  bytes = part sheet there.from there.to

  next : line ≡ suc (line - 1)
  next = omega arith

  fault : HasFault sheet n (line - 1)
  fault = (line-fault sheet n (line - 1) e.named (e.refusal ∙ ap (λ (l : ℕ). refused (at_line n l)) next) e.other).has

  -- the column of the line
  told : (d : LineForm) (r : ℕ) → d ≡ due_in_sheet sheet (line - 1) → r ≡ line_column (sheet_symbols sheet) d bytes n → r ≡ sheet_column sheet n line
  unfolding sheet_column
  told d r q z =
      z
      ∙ ap (λ (d : LineForm). line_column (sheet_symbols sheet) d bytes n) q
      ∙ ap (λ (l : List ℕ). line_column (sheet_symbols sheet) (due_in_sheet sheet (line - 1)) l n) (sym at.line)
      ∙ ap (sheet_column sheet n) (sym next)

  -- none of 5 to 7 is one of 1 to 4
  pub early : (n ≡ 5 → ⊥) → (n ≡ 6 → ⊥) → (n ≡ 7 → ⊥) → n < 5
  early h₅ h₆ h₇ = ⊎_elim (λ e. late (leb-true 5 n e)) (λ e. leb-false 5 n e) (true-or-false (leb 5 n))
    where
      late : 5 ≤ n → n < 5
      late h = let w : n ≤ 7 = (late-words sheet (line - 1) n h fault).0 in omega (arith, h, w, h₅, h₆, h₇)

  module _ (due : SheetLine) (q : form_of due ≡ due_in_sheet sheet (line - 1)) where
    pub byte-refused : n < 5 → ByteRefused due n bytes
    byte-refused lt =
        record {
          most = lt;
          arity = λ three d.
              let f : HasFault sheet 3 (line - 1) = subst (λ (n : ℕ). HasFault sheet n (line - 1)) three fault in
              let k : 2 ≤ length (first_line (from_line (line - 1) sheet)) = arity-there _ _ _ f (ap is_declaration (sym q) ∙ d) in
              omega (arith, k, ap length at.line);
        }

    pub byte-told : (r : ℕ) → ((g : Signature) → r ≡ line_column g (form_of due) bytes n) → r ≡ sheet_column sheet n line
    byte-told r z = told (form_of due) r q (z (sheet_symbols sheet))

  module _ (late : 5 ≤ n) (s : declared.Signature) (f : SymbolsFound sheet s) where
    due : form_of Clause ≡ due_in_sheet sheet (line - 1)
    due = sym (clause-due sheet n (line - 1) late fault)

    pub words-refused : WordsRefused (signature_in sheet s) n bytes
    words-refused =
        let w = late-words sheet (line - 1) n late fault in
        record {
          least = late;
          most = w.0;
          known = λ k.
              let us = w.1 k in (
                us.0,
                ap (λ (g : Signature). read_all g (line_words (form_of Clause) bytes)) f.symbols
                    ∙ ap (λ (d : LineForm). read_all (sheet_symbols sheet) (line_words d bytes)) due
                    ∙ ap (λ (l : List ℕ). read_all (sheet_symbols sheet) (line_words (due_in_sheet sheet (line - 1)) l)) (sym at.line)
                    ∙ us.1,
              );
        }

    pub words-told : (r : ℕ) → r ≡ line_column (signature_in sheet s) (form_of Clause) bytes n → r ≡ sheet_column sheet n line
    words-told r z = told (form_of Clause) r due (z ∙ ap (λ (g : Signature). line_column g (form_of Clause) bytes n) f.symbols)
