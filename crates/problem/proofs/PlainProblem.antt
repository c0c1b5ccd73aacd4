-- A problem read plain: it is the one handed in, without helpers.
use Prim.Native.Nat.{ℕ, ◌-◌}
use mathlib.Core.Path.{◌≡◌, sym, ap, ◌∙◌, subst}
use mathlib.Core.Bool.{Bool, false, cond}
use mathlib.Core.List.{List, map}
use native.Mathlib.Omega.{arith}
use lib.ListN.{length, get_or, take}
use borrow.Author.Tests.{eq-eqb}
use Rattle.theory.specs.Lists.{all}
use Rattle.theory.specs.Syntax.{Signature, Clause}
use Rattle.theory.specs.Problem as theory
use Rattle.theory.specs.Refusals.{Answer, answer}
use Rattle.syntax.specs.declared.limits.Problem.{Problem}
use Rattle.syntax.specs.declared.signature.Signature as declared
use Rattle.syntax.specs.Signatures.{signature_in}
use Rattle.naming.specs.FixedTerms.{named_clauses}
use Rattle.naming.specs.NamedReading.{is_within}
use Rattle.shortening.specs.HelperWords.{HelpersBehind}
use Rattle.shortening.proofs.NamedTable.{none-there}
use Rattle.shortening.proofs.HelperSymbols.{none-behind}
use Rattle.problem.specs.declared.sections.SheetFault.{SheetFault}
use Rattle.std.specs.Prelude.{Ok, Err, IfOk}
use Rattle.std.specs.Prelude as rust
use Rattle.problem.specs.Problems.{clause_at, handed_in, sheet_signature, line_count, lines_in, problem_in, reading_of, HandedIn, LineThere, Accepted}
use Rattle.problem.specs.Stages.{ProblemRead}
use Rattle.problem.proofs.LinesThere.{line-there}
use Rattle.problem.proofs.Handed.{plain-limits}

module _ (sheet : List ℕ) (p : Problem) (none : p.terms.count ≡ 0) where
  pub declared-whole : sheet_signature p ≡ p.signature
  declared-whole = let e : p.signature.count - p.terms.count ≡ p.signature.count = omega (arith, none) in ap (λ (n : ℕ). record { symbols = p.signature.symbols; count = n }) e

  same-symbols : signature_in sheet (sheet_signature p) ≡ signature_in sheet p.signature
  same-symbols = ap (signature_in sheet) declared-whole

  lines-handed : lines_in sheet p ≡ (handed_in sheet p).clauses
  unfolding handed_in
  lines-handed =
      let e : line_count p ≡ p.count = omega (arith, none) in
      ap (λ (g : Signature). map (clause_at sheet g) (take (line_count p) p.clauses)) same-symbols ∙ ap (λ (n : ℕ). map (clause_at sheet (signature_in sheet p.signature)) (take n p.clauses)) e

  pub problem-handed : problem_in sheet p ≡ handed_in sheet p
  unfolding problem_in handed_in
  problem-handed =
      let g : Signature = signature_in sheet p.signature in
      ap (λ (b : Bool). record { symbols = g; clauses = cond b (lines_in sheet p) (named_clauses (length (signature_in sheet (sheet_signature p))) (lines_in sheet p)) }) (eq-eqb p.terms.count 0 none)
      ∙ ap (λ (cs : List Clause). record { symbols = g; clauses = cs }) lines-handed

pub plain-accepted : (sheet : List ℕ) (p : Problem) → HandedIn false sheet p → Accepted sheet p
plain-accepted sheet p h =
    let g : Signature = signature_in sheet (sheet_signature p) in
    let q : g ≡ signature_in sheet p.signature = same-symbols sheet p h.no-terms in
    record {
      readable = h.readable;
      functions = h.functions;
      count = omega (arith, h.count);
      few = omega (arith, h.few, h.no-terms);
      behind = subst (λ (s : declared.Signature). HelpersBehind s p.terms.count p.signature) (sym (declared-whole sheet p h.no-terms))
          (subst (λ (n : ℕ). HelpersBehind p.signature n p.signature) (sym h.no-terms) (none-behind p.signature));
      helpers = omega (arith, h.no-terms);
      most = omega (arith, h.count);
      held = omega (arith, h.held);
      lines = λ k l. subst (λ (g : Signature). LineThere sheet g (get_or p.clauses k 0)) (sym q) (line-there false sheet (signature_in sheet p.signature) (get_or p.clauses k 0) (h.clauses k (omega (arith, h.no-terms))));
      terms = none-there g sheet p.terms h.no-terms h.room;
      found = λ ne. absurd (ne h.no-terms);
      within = ap (λ (x : theory.Problem). all is_within x.clauses) (problem-handed sheet p h.no-terms) ∙ plain-limits sheet p h;
    }

-- what was read plain
pub plain-read : (sheet : List ℕ) (a : Answer theory.Problem) (r : rust.Result Problem SheetFault) → ProblemRead false sheet a r → (reading_of sheet r ≡ a) × IfOk r (Accepted sheet)
plain-read sheet a (Ok p) z =
    let h : HandedIn false sheet p = z.handed in
    (ap answer (problem-handed sheet p h.no-terms) ∙ z.read, plain-accepted sheet p h)
plain-read sheet a (Err f) z = (z.read, tt)
