-- Clause lines one after the other: what is left gives what all give.
use Prim.Native.Nat.{ℕ, suc, ◌+◌, ◌-◌, ◌≤◌, ◌<◌}
use mathlib.Core.Path.{◌≡◌, refl, sym, ap, ◌∙◌}
use mathlib.Core.Logic.{◌⊎◌, inl, inr}
use mathlib.Core.Bool.{Bool, true, false}
use mathlib.Core.List.{List, [], ◌∷◌, ◌++◌, map, map-append, append_assoc, append-nil}
use native.Mathlib.Nat.{eq-or-lt_of_le}
use native.Mathlib.Numerals.{add-one}
use native.Mathlib.Omega.{arith}
use lib.ListN.{length, get_or, set, take, drop, replicate, length-set, length-replicate, drop_of_length-le}
use lib.Seq.{take-suc-set, get_or-set_same, get_or-set_other, drop-cons}
use Rattle.theory.specs.Lists.{same}
use Rattle.theory.specs.Syntax.{Signature, Clause, functions}
use Rattle.theory.specs.Refusals.{Answer, answer, refused, at_line, ◌>>=◌}
use Rattle.theory.specs.Problem.{clause_lines, nothing_left}
use Rattle.theory.specs.Problem as theory
use Rattle.naming.specs.NamedReading.{named_clause_lines}
use Rattle.theory.proofs.Answers.{bind-step, bind-refused, check-of-true, check-of-false}
use Rattle.syntax.specs.declared.signature.Signature as declared
use Rattle.syntax.specs.declared.terms.FixedTerms.{FixedTerms}
use Rattle.syntax.specs.Signatures.{max_declared, signature_in}
use Rattle.clauses.specs.Names.{Readable}
use Rattle.problem.specs.Problems.{clause_at, handed_in, ClauseThere}
use Rattle.problem.specs.Stages.{ProblemRead, clause_lines_from}
use Rattle.problem.specs.ClausePlaces.{clause_lines_in, ClauseLineRead}
use Rattle.syntax.specs.declared.faults.Fault.{Fault}
use Rattle.syntax.specs.Faults.{number_of}
use Rattle.syntax.specs.declared.faults.Fault.TheVariants as fault
use Rattle.std.specs.Prelude.{Ok, Err}
use Rattle.problem.specs.declared.sections.SheetFault.{SheetFault}

-- a refusal that was read
pub reading-refused : (named : Bool) (sheet : List ℕ) (a : Answer theory.Problem) (f : SheetFault) → a ≡ refused (at_line (number_of f.fault) f.line) → ProblemRead named sheet a (Err f)
reading-refused named sheet a f e = record { read = sym e; handed = tt }

-- no more lines
no_lines : (named : Bool) (g : Signature) (l : ℕ) (text : List ℕ) → clause_lines_in named 0 g l text ≡ answer ([], text)
unfolding clause_lines named_clause_lines
no_lines false g l text = refl
no_lines true g l text = refl

-- clauses cs in front of those that follow
abbrev pub infront : List Clause → Answer ((List Clause) × List ℕ) → Answer ((List Clause) × List ℕ)
infront cs m = m >>= λ r. answer (cs ++ r.0, r.1)

infront-none : (m : Answer ((List Clause) × List ℕ)) → m ≡ infront [] m
unfolding ◌>>=◌
infront-none (answer r) = refl
infront-none (refused r) = refl

infront-one : (cs : List Clause) (c : Clause) (m : Answer ((List Clause) × List ℕ)) → infront cs (m >>= λ r. answer (c ∷ r.0, r.1)) ≡ infront (cs ++ (c ∷ [])) m
unfolding ◌>>=◌
infront-one cs c (answer r) = ap (λ (l : List Clause). answer (l, r.1)) (sym (append_assoc cs (c ∷ []) r.0))
infront-one cs c (refused r) = refl

-- after i of n lines from `at` on: where their clauses stand, and the next line
pub record Taken (named : Bool) (sheet : List ℕ) (at line n : ℕ) (g : Signature) (starts : List ℕ) (next i : ℕ) : Type 0 where
  pub within : i ≤ n
  pub inside : next ≤ length sheet
  pub held : length starts ≡ 64
  pub there : (k : ℕ) → k < i → ClauseThere named sheet g (get_or starts k 0)
  pub rest : clause_lines_in named n g line (drop at sheet) ≡ infront (map (clause_at sheet g) (take i starts)) (clause_lines_in named (n - i) g (line + i) (drop next sheet))

module _ (named : Bool) (sheet : List ℕ) (at line n : ℕ) (g : Signature) where
  pub begins : at ≤ length sheet → Taken named sheet at line n g (replicate 64 0) at 0
  begins l =
      let a : n ≡ n - 0 = omega arith in
      let b : line ≡ line + 0 = omega arith in
      record {
        within = omega arith;
        inside = l;
        held = length-replicate {A = ℕ} 64 0;
        there = λ k h. absurd (omega arith);
        rest = infront-none (clause_lines_in named n g line (drop at sheet))
            ∙ ap (λ (m : ℕ). infront [] (clause_lines_in named m g line (drop at sheet))) a
            ∙ ap (λ (m : ℕ). infront [] (clause_lines_in named (n - 0) g m (drop at sheet))) b;
      }

  module _ (starts : List ℕ) (next i : ℕ) (z : Taken named sheet at line n g starts next i) where
    front : List Clause
    front = map (clause_at sheet g) (take i starts)

    module _ (l : i < n) where
      -- the next line, and those after it
      first : clause_lines_in named n g line (drop at sheet) ≡ infront front (clause_lines_in named (suc (n - (i + 1))) g (line + i) (drop next sheet))
      unfolding front
      first =
          let e : n - i ≡ suc (n - (i + 1)) = omega arith in
          z.rest ∙ ap (λ (m : ℕ). infront front (clause_lines_in named m g (line + i) (drop next sheet))) e

      pub turn : n ≤ 64 → (from after : ℕ) → ClauseLineRead named sheet next g (Ok (from, after)) → Taken named sheet at line n g (set starts i from) after (i + 1)
      unfolding front
      turn small from after h =
          let e : suc (line + i) ≡ line + (i + 1) = omega arith in
          record {
            within = omega arith;
            inside = h.within.1;
            held = length-set starts i from ∙ z.held;
            there = later;
            rest = first
                ∙ ap (infront front) (sym (h.read (n - (i + 1)) (line + i)))
                ∙ infront-one front (clause_at sheet g from) (clause_lines_in named (n - (i + 1)) g (suc (line + i)) (drop after sheet))
                ∙ ap (λ (cs : List Clause). infront cs (clause_lines_in named (n - (i + 1)) g (suc (line + i)) (drop after sheet))) (sym longer)
                ∙ ap (λ (m : ℕ). infront (map (clause_at sheet g) (take (i + 1) (set starts i from))) (clause_lines_in named (n - (i + 1)) g m (drop after sheet))) e;
          }
        where
          longer : map (clause_at sheet g) (take (i + 1) (set starts i from)) ≡ front ++ (clause_at sheet g from ∷ [])
          longer =
              ap (λ (m : ℕ). map (clause_at sheet g) (take m (set starts i from))) (add-one i)
              ∙ ap (map (clause_at sheet g)) (take-suc-set starts i from (omega (arith, z.held)))
              ∙ map-append (clause_at sheet g) (take i starts) (from ∷ [])

          later : (k : ℕ) → k < i + 1 → ClauseThere named sheet g (get_or (set starts i from) k 0)
          later k below = go (eq-or-lt_of_le {n = k} {m = i} (omega arith))
            where
              go : (k ≡ i) ⊎ (k < i) → ClauseThere named sheet g (get_or (set starts i from) k 0)
              go (inl e) = rw (e, get_or-set_same starts i from 0 (omega (arith, z.held))) h.within.0
              go (inr before) = rw (get_or-set_other starts i k from 0 (λ e. omega arith)) (z.there k before)

      -- the next line is faulty
      pub faults : (f : Fault) → ClauseLineRead named sheet next g (Err f) → ProblemRead named sheet (clause_lines_from named n g line (drop at sheet)) (Err (record { fault = f; line = line + i }))
      unfolding clause_lines_from
      faults f h =
          reading-refused named sheet _ _
          (bind-refused (clause_lines_in named n g line (drop at sheet)) _ (at_line (number_of f) (line + i))
          (first ∙ bind-refused (clause_lines_in named (suc (n - (i + 1))) g (line + i) (drop next sheet)) _ (at_line (number_of f) (line + i)) (sym (h.read (n - (i + 1)) (line + i)))))

    module _ (l : n ≤ i) where
      -- all lines were read
      whole : clause_lines_in named n g line (drop at sheet) ≡ answer (map (clause_at sheet g) (take n starts), drop next sheet)
      whole =
          let e : n - i ≡ 0 = omega arith in
          let b : i ≡ n = omega (arith, z.within) in
          z.rest
          ∙ ap (λ (m : ℕ). infront (map (clause_at sheet g) (take i starts)) (clause_lines_in named m g (line + i) (drop next sheet))) e
          ∙ bind-step (clause_lines_in named 0 g (line + i) (drop next sheet)) _ ([], drop next sheet) _ (no_lines named g (line + i) (drop next sheet)) refl
          ∙ ap (λ (cs : List Clause). answer (cs, drop next sheet)) (append-nil (map (clause_at sheet g) (take i starts)))
          ∙ ap (λ (m : ℕ). answer (map (clause_at sheet g) (take m starts), drop next sheet)) b

      after-all : (a : Answer theory.Problem) → (nothing_left (line + n) (drop next sheet) >>= λ _. answer (record { symbols = g; clauses = map (clause_at sheet g) (take n starts) })) ≡ a
          → clause_lines_from named n g line (drop at sheet) ≡ a
      unfolding clause_lines_from
      after-all a h = bind-step (clause_lines_in named n g line (drop at sheet)) _ (map (clause_at sheet g) (take n starts), drop next sheet) a whole h

      -- bytes after the end
      pub bytes_left : next < length sheet → ProblemRead named sheet (clause_lines_from named n g line (drop at sheet)) (Err (record { fault = fault.SheetLine; line = line + n }))
      bytes_left h =
          reading-refused named sheet _ _
          (after-all _ (bind-refused (nothing_left (line + n) (drop next sheet)) _ (at_line 2 (line + n)) (check-of-false (same (drop next sheet) []) (at_line 2 (line + n)) (ap (λ (t : List ℕ). same t []) (drop-cons sheet next 0 h)))))

-- nothing stands after the last clause line
pub all-taken : (named : Bool) (sheet : List ℕ) (at line n : ℕ) (s : declared.Signature) (count : ℕ) (starts : List ℕ) (next i : ℕ) → Taken named sheet at line n (signature_in sheet s) starts next i → n ≤ i
    → n ≤ 64 → length sheet ≤ next → Readable sheet s → s.count ≤ max_declared → count ≡ length (functions (signature_in sheet s)) → (terms : FixedTerms) → terms.count ≡ 0 → length terms.spans ≡ 32
    → ProblemRead named sheet (clause_lines_from named n (signature_in sheet s) line (drop at sheet)) (Ok (record { signature = s; functions = count; clauses = starts; count = n; terms = terms; symmetry = false }))
unfolding handed_in
all-taken named sheet at line n s count starts next i z l small end readable few counted terms none room =
    record {
      read = sym (after-all named sheet at line n (signature_in sheet s) starts next i z l _
          (bind-step (nothing_left (line + n) (drop next sheet)) _ tt _
          (check-of-true (same (drop next sheet) []) (at_line 2 (line + n)) (ap (λ (t : List ℕ). same t []) (drop_of_length-le sheet {i = next} end))) refl));
      handed = record {
        readable = readable;
        few = few;
        functions = counted;
        count = small;
        held = omega (arith, z.held);
        clauses = λ k h. z.there k (omega arith);
        no-terms = none;
        room = room;
      };
    }
