-- The parts of a sheet, read one after the other.
use Prim.Native.Nat.{ℕ, ◌+◌}
use mathlib.Core.Path.{◌≡◌, refl, sym, ap, ◌∙◌}
use mathlib.Core.Bool.{Bool, true, not, true≢false}
use mathlib.Core.List.{List, [], ◌++◌, append-nil}
use lib.ListN.{length, drop}
use Rattle.theory.specs.Bytes.{bytes}
use Rattle.theory.specs.Syntax.{Kind, function, predicate, is_function, is_predicate, Signature, Symbol, functions}
use Rattle.theory.specs.Refusals.{Answer, answer, at_line, ◌>>=◌}
use Rattle.theory.specs.Problem.{max_symbols, max_clauses, count_line, symbol_lines}
use Rattle.theory.specs.Problem as theory
use Rattle.theory.proofs.Lists.{all-imply, select-append, select-all, select-none}
use Rattle.theory.proofs.Answers.{answer-inj, unbind, bind-step, bind-refused}
use Rattle.theory.proofs.Parsing.{Added, symbol_lines-added}
use Rattle.syntax.specs.Signatures.{signature_in}
use Rattle.problem.specs.declared.sections.Section.{Section}
use Rattle.syntax.specs.declared.limits.Problem as code
use Rattle.problem.specs.Lines.{CountRead}
use Rattle.problem.specs.Sections.{Rest, lines_from, section_from, SectionRead}
use Rattle.problem.specs.Stages.{ProblemRead, clause_lines_from, clauses_from}
use Rattle.problem.proofs.ClauseTaking.{reading-refused}
use Rattle.syntax.specs.declared.faults.Fault.{Fault}
use Rattle.syntax.specs.Faults.{number_of}
use Rattle.problem.specs.declared.sections.SheetFault.{SheetFault}
use Rattle.std.specs.Prelude.{Ok, Err}
use Rattle.std.specs.Prelude as rust

-- the clauses: their count line is faulty, or so many lines follow
module _ (named : Bool) (sheet : List ℕ) (at line : ℕ) (g : Signature) where
  pub clauses-uncounted : (f : Fault) → CountRead sheet at (bytes "clauses=") max_clauses (Err f) → ProblemRead named sheet (clauses_from named g line (drop at sheet)) (Err (record { fault = f; line = line }))
  unfolding clauses_from
  clauses-uncounted f h =
      reading-refused named sheet _ _ (bind-refused (count_line (bytes "clauses=") max_clauses line (drop at sheet)) _ (at_line (number_of f) line) (sym (h.read line)))

  pub clauses-counted : (r : rust.Result code.Problem SheetFault) (n next : ℕ) → CountRead sheet at (bytes "clauses=") max_clauses (Ok (n, next))
      → ProblemRead named sheet (clause_lines_from named n g (line + 1) (drop next sheet)) r → ProblemRead named sheet (clauses_from named g line (drop at sheet)) r
  unfolding clauses_from
  clauses-counted r n next h p =
      record {
        read = p.read ∙ sym (bind-step (count_line (bytes "clauses=") max_clauses line (drop at sheet)) _ (n, drop next sheet) _ (sym (h.read line)) refl);
        handed = p.handed;
      }

-- what follows a section that was read
module _ (named : Bool) (sheet : List ℕ) (most last : ℕ) (a : Answer Rest) (k : Rest → Answer theory.Problem) where
  pub section-refused : (f : SheetFault) → SectionRead sheet most last a (Err f) → ProblemRead named sheet (a >>= k) (Err f)
  section-refused f h = reading-refused named sheet _ f (bind-refused a k (at_line (number_of f.fault) f.line) (sym h.read))

  pub section-read : (s : Section) (r : rust.Result code.Problem SheetFault) → SectionRead sheet most last a (Ok s) → ProblemRead named sheet (k (signature_in sheet s.signature, s.line, drop s.next sheet)) r
      → ProblemRead named sheet (a >>= k) r
  section-read s r h p = record { read = p.read ∙ sym (bind-step a k _ _ (sym h.read) refl); handed = p.handed }

-- the symbols that a section adds
section-added : (counting key : List ℕ) (k : Kind) (g : Signature) (l : ℕ) (text : List ℕ) (r : Rest) → section_from counting key k g l text ≡ answer r → (n : ℕ) × Added k n g r.0
unfolding section_from lines_from
section-added counting key k g l text r e =
    unbind (count_line counting max_symbols l text) _ r e λ (c : ℕ × List ℕ) h e₁.
    unbind (symbol_lines c.0 key k g (l + 1) c.1) _ r e₁ λ (s : Signature × List ℕ) h₁ e₂.
    let q : s.0 ≡ r.0 = ap (λ (x : Rest). x.0) (answer-inj _ r e₂) in
    (c.0, rw q at (symbol_lines-added c.0 key k g (l + 1) c.1 s h₁))

-- functions only, where there were none
pub functions-added : (counting key : List ℕ) (l : ℕ) (text : List ℕ) (r : Rest) → section_from counting key function [] l text ≡ answer r → length (functions r.0) ≡ length r.0
functions-added counting key l text r e =
    let a = section-added counting key function [] l text r e in
    ap length (ap functions a.1.whole ∙ select-all (λ (f : Symbol). is_function f.kind) a.1.added a.1.kinds ∙ sym a.1.whole)

-- predicates after functions
pub predicates-added : (counting key : List ℕ) (g : Signature) (l : ℕ) (text : List ℕ) (r : Rest) → section_from counting key predicate g l text ≡ answer r → functions r.0 ≡ functions g
predicates-added counting key g l text r e =
    let a = section-added counting key predicate g l text r e in
    ap functions a.1.whole
    ∙ select-append (λ (f : Symbol). is_function f.kind) g a.1.added
    ∙ ap (λ (l : List Symbol). functions g ++ l) (select-none (λ (f : Symbol). is_function f.kind) a.1.added (all-imply (λ (f : Symbol). is_predicate f.kind) (λ (f : Symbol). not (is_function f.kind)) a.1.added (λ f h. other f.kind h) a.1.kinds))
    ∙ append-nil (functions g)
  where
    other : (k : Kind) → is_predicate k ≡ true → not (is_function k) ≡ true
    other function h = absurd (true≢false (sym h))
    other predicate h = refl
