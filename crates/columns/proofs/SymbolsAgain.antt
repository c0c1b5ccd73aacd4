-- The symbols of a sheet that is refused for a clause, read again section by section.
use Prim.Native.Nat.{ℕ, ◌+◌, ◌≤◌}
use mathlib.Core.Path.{◌≡◌, refl, sym, ap, ◌∙◌}
use mathlib.Core.Bool.{Bool, true, false}
use mathlib.Core.List.{List, []}
use native.Mathlib.Omega.{arith}
use lib.ListN.{drop}
use Rattle.theory.specs.Bytes.{bytes}
use Rattle.theory.specs.Syntax.{function, predicate}
use Rattle.theory.specs.Refusals.{Answer, answer, refused, at_line}
use Rattle.theory.specs.Problem.{max_symbols, count_line, symbol_lines}
use Rattle.theory.specs.DueLines.{from_line}
use Rattle.theory.proofs.Answers.{bind-step, unrefused, answer-inj, answer≢refused}
use Rattle.theory.proofs.SheetLines.{key-cut, at_next}
use Rattle.theory.proofs.SheetSections.{SectionsRead, sections-refused, sections-said}
use Rattle.naming.specs.NamedOperations.{read_problem_in}
use Rattle.naming.proofs.SheetHead.{Head, head, named_rest, named-parts, head-refused}
use Rattle.syntax.specs.Signatures.{signature_in}
use Rattle.problem.specs.declared.sections.Section.{Section}
use Rattle.problem.specs.Sections.{Rest, lines_from, section_from, SectionRead}
use Rattle.columns.specs.Lines.{LineStart}
use Rattle.columns.specs.Sheets.{ClauseRefused, SymbolsFound}
use Rattle.columns.proofs.HeadSections.{head-sections}
use Rattle.problem.specs.declared.sections.SheetFault.{SheetFault}
use Rattle.syntax.specs.Faults.{number_of}
use Rattle.std.specs.Prelude.{Ok, Err}
use Rattle.std.specs.Prelude as rust

-- what the code holds of a section that was answered
section-held : (sheet : List ℕ) (most last : ℕ) (a : Answer Rest) (r : Section) (x : Rest) → SectionRead sheet most last a (Ok r) → a ≡ answer x → (signature_in sheet r.signature, r.line, drop r.next sheet) ≡ x
section-held sheet most last a r x h e = answer-inj _ x (h.read ∙ e)

-- it is not refused
section-kept : (sheet : List ℕ) (most last : ℕ) (a : Answer Rest) (f : SheetFault) (x : Rest) → SectionRead sheet most last a (Err f) → a ≡ answer x → ⊥
section-kept sheet most last a f x h e = answer≢refused x (at_line (number_of f.fault) f.line) (sym (h.read ∙ e))

module _ (sheet : List ℕ) (s : SectionsRead sheet) where
  -- the number of the line behind the functions
  abbrev after : ℕ
  after = 2 + 1 + s.function_count.0

  functions-answered : section_from (bytes "funs=") (bytes "fun=") function [] 2 s.heading.1 ≡ answer (s.functions.0, after, s.functions.1)
  unfolding section_from lines_from
  functions-answered = bind-step _ _ s.function_count _ s.functions_counted (bind-step _ _ s.functions _ s.functions_read refl)

  predicates-answered : section_from (bytes "preds=") (bytes "pred=") predicate s.functions.0 after s.functions.1 ≡ answer (s.symbols.0, after + 1 + s.predicate_count.0, s.symbols.1)
  unfolding section_from lines_from
  predicates-answered =
      let e : after ≡ 3 + s.function_count.0 = omega arith in
      let d : after + 1 ≡ 4 + s.function_count.0 = omega arith in
      bind-step _ _ s.predicate_count _ (ap (λ (l : ℕ). count_line (bytes "preds=") max_symbols l s.functions.1) e ∙ s.predicates_counted)
      (bind-step _ _ s.symbols _ (ap (λ (l : ℕ). symbol_lines s.predicate_count.0 (bytes "pred=") predicate s.functions.0 l s.predicate_count.1) d ∙ s.predicates_read) refl)

  second-line : from_line 1 sheet ≡ s.heading.1
  second-line = (at_next sheet 0 (bytes "sheet=1") sheet s.heading.0 s.heading.1 (record { cuts = tt; here = refl }) (key-cut (bytes "sheet=1") 1 sheet s.heading s.headed)).here

  module _ (at most last : ℕ) (start : LineStart sheet 1 at) where
    functions-there : section_from (bytes "funs=") (bytes "fun=") function [] 2 (drop at sheet) ≡ answer (s.functions.0, after, s.functions.1)
    functions-there = ap (section_from (bytes "funs=") (bytes "fun=") function [] 2) (sym start.here ∙ second-line) ∙ functions-answered

    kept : (f : SheetFault) → SectionRead sheet most last (section_from (bytes "funs=") (bytes "fun=") function [] 2 (drop at sheet)) (Err f) → ⊥
    kept f h = section-kept sheet most last _ f _ h functions-there

    module _ (most' last' : ℕ) (f : Section) (functions : SectionRead sheet most last (section_from (bytes "funs=") (bytes "fun=") function [] 2 (drop at sheet)) (Ok f)) where
      predicates-there : section_from (bytes "preds=") (bytes "pred=") predicate (signature_in sheet f.signature) f.line (drop f.next sheet) ≡ answer (s.symbols.0, after + 1 + s.predicate_count.0, s.symbols.1)
      predicates-there =
          let held : ◌≡◌ {A = Rest} (signature_in sheet f.signature, f.line, drop f.next sheet) (s.functions.0, after, s.functions.1) = section-held sheet most last _ f _ functions functions-there in
          ap (λ (x : Rest). section_from (bytes "preds=") (bytes "pred=") predicate x.0 x.1 x.2) held ∙ predicates-answered

      all_kept : (e : SheetFault) → SectionRead sheet most' last' (section_from (bytes "preds=") (bytes "pred=") predicate (signature_in sheet f.signature) f.line (drop f.next sheet)) (Err e) → ⊥
      all_kept e h = section-kept sheet most' last' _ e _ h predicates-there

      found : (p : Section) → SectionRead sheet most' last' (section_from (bytes "preds=") (bytes "pred=") predicate (signature_in sheet f.signature) f.line (drop f.next sheet)) (Ok p) → SymbolsFound sheet p.signature
      found p predicates =
          record { readable = predicates.held.readable; symbols = ap (λ (x : Rest). x.0) (section-held sheet most' last' _ p _ predicates predicates-there) ∙ (sections-said sheet s).symbols }

-- the sections of a sheet that is refused with 5 or more were read, in both modes
sections-in : (sheet : List ℕ) (n l : ℕ) → 5 ≤ n → (named : Bool) → read_problem_in named sheet ≡ refused (at_line n l) → SectionsRead sheet
sections-in sheet n l late false e = sections-refused sheet n l late e
sections-in sheet n l late true e =
    unrefused (head sheet) named_rest (at_line n l) (sym (named-parts sheet) ∙ e) (λ h. sections-refused sheet n l late (head-refused sheet (at_line n l) h))
    λ (h : Head) k _. head-sections sheet h k

module _ (sheet : List ℕ) (at most last : ℕ) (c : ClauseRefused sheet) (start : LineStart sheet 1 at) where
  sections : SectionsRead sheet
  sections = sections-in sheet c.number c.line c.late c.refusal.named c.refusal.refusal

  pub functions-kept : (r : rust.Result Section SheetFault) → SectionRead sheet most last (section_from (bytes "funs=") (bytes "fun=") function [] 2 (drop at sheet)) r → ((f : Section) → r ≡ Ok f → ⊥) → ⊥
  functions-kept (Ok f) h other = other f refl
  functions-kept (Err e) h other = kept sheet sections at most last start e h

  module _ (most' last' : ℕ) (f : Section) (functions : SectionRead sheet most last (section_from (bytes "funs=") (bytes "fun=") function [] 2 (drop at sheet)) (Ok f)) where
    pub symbols-kept : (r : rust.Result Section SheetFault) → SectionRead sheet most' last' (section_from (bytes "preds=") (bytes "pred=") predicate (signature_in sheet f.signature) f.line (drop f.next sheet)) r → ((p : Section) → r ≡ Ok p → ⊥) → ⊥
    symbols-kept (Ok p) h other = other p refl
    symbols-kept (Err e) h other = all_kept sheet sections at most last start most' last' f functions e h

    pub symbols-found : (p : Section) → SectionRead sheet most' last' (section_from (bytes "preds=") (bytes "pred=") predicate (signature_in sheet f.signature) f.line (drop f.next sheet)) (Ok p) → SymbolsFound sheet p.signature
    symbols-found = found sheet sections at most last start most' last' f functions
