-- Symbol lines one after the other: what is left gives what all give.
use Prim.Native.Nat.{ℕ, suc, ◌+◌, ◌-◌, ◌≤◌, ◌<◌}
use mathlib.Core.Path.{◌≡◌, refl, sym, ap, ◌∙◌}
use mathlib.Core.Bool.{Bool, true, ◌&&◌}
use mathlib.Core.List.{List, [], ◌∷◌, ◌++◌, map, map-append}
use native.Mathlib.Omega.{arith}
use lib.Dec.{eqb, leb}
use lib.ListN.{length, take, drop, length-take, length-append}
use lib.Seq.{length-take-le}
use borrow.Author.Tests.{le-leb}
use Rattle.theory.specs.Lists.{all}
use Rattle.theory.specs.Syntax.{Kind}
use Rattle.theory.specs.Syntax as theory
use Rattle.theory.specs.Refusals.{at_line}
use Rattle.theory.specs.Problem.{max_symbols, count_line, symbol_lines}
use Rattle.theory.proofs.Tests.{and-join}
use Rattle.theory.proofs.Lists.{all_append}
use Rattle.theory.proofs.Answers.{bind-step, bind-refused}
use Rattle.syntax.specs.declared.signature.Symbol.{Symbol}
use Rattle.syntax.specs.declared.signature.Signature.{Signature}
use Rattle.syntax.specs.Signatures.{symbol_in, signature_in}
use Rattle.problem.specs.declared.sections.Section.{Section}
use Rattle.problem.specs.Lines.{CountRead}
use Rattle.clauses.specs.Names.{Readable}
use Rattle.clauses.proofs.Held.{none-past}
use Rattle.problem.specs.Symbols.{SymbolRead}
use Rattle.problem.specs.Sections.{lines_from, section_from, section_in, SectionHeld, SectionRead}
use Rattle.syntax.specs.declared.faults.Fault.{Fault}
use Rattle.syntax.specs.Faults.{number_of}
use Rattle.problem.specs.declared.sections.SheetFault.{SheetFault}
use Rattle.std.specs.Prelude.{Ok, Err}
use Rattle.std.specs.Prelude as rust

-- no symbol
pub signature_in-none : (sheet : List ℕ) (s : Signature) → s.count ≡ 0 → signature_in sheet s ≡ []
unfolding signature_in
signature_in-none sheet s e = ap (λ (n : ℕ). map (symbol_in sheet) (take n s.symbols)) e

pub readable-none : (sheet : List ℕ) (s : Signature) → s.count ≡ 0 → Readable sheet s
readable-none sheet s e =
    record {
      limited = record {
        count = omega arith;
        held = omega arith;
        arities = ap (λ (n : ℕ). all (λ (y : Symbol). leb y.arity 3) (take n s.symbols)) e;
        constants = none-past s (λ (y : Symbol). eqb y.arity 0) (omega arith);
      };
      names = ap (λ (n : ℕ). all (λ (y : Symbol). leb (y.name + y.length) (length sheet)) (take n s.symbols)) e;
    }

-- one symbol more
module _ (sheet : List ℕ) (s r : Signature) (y : Symbol) (h : Readable sheet s) (count : r.count ≡ s.count + 1) (symbols : take r.count r.symbols ≡ take s.count s.symbols ++ (y ∷ [])) where
  pub signature_in-more : signature_in sheet r ≡ signature_in sheet s ++ (symbol_in sheet y ∷ [])
  unfolding signature_in
  signature_in-more = ap (map (symbol_in sheet)) symbols ∙ map-append (symbol_in sheet) (take s.count s.symbols) (y ∷ [])

  all_more : (p : Symbol → Bool) → all p (take s.count s.symbols) ≡ true → p y ≡ true → all p (take r.count r.symbols) ≡ true
  all_more p e k =
      ap (all p) symbols ∙ all_append p (take s.count s.symbols) (y ∷ []) ∙ and-join (all p (take s.count s.symbols)) (p y && true) e (and-join (p y) true k refl)

  pub readable-more : r.count ≤ 24 → y.arity ≤ 3 → y.name + y.length ≤ length sheet → Readable sheet r
  readable-more small arity name =
      record {
        limited = record {
          count = omega arith;
          held = omega (arith, ap length symbols, length-append (take s.count s.symbols) (y ∷ []), length-take r.count r.symbols, length-take-le s.count s.symbols h.limited.held);
          arities = all_more (λ (y : Symbol). leb y.arity 3) h.limited.arities (le-leb y.arity 3 arity);
          constants = none-past r (λ (y : Symbol). eqb y.arity 0) small;
        };
        names = all_more (λ (y : Symbol). leb (y.name + y.length) (length sheet)) h.names (le-leb (y.name + y.length) (length sheet) name);
      }

-- after i of n lines from `at` on: the symbols s, and the next line
pub record Reached (sheet : List ℕ) (at line : ℕ) (key : List ℕ) (k : Kind) (n : ℕ) (before s : Signature) (next i : ℕ) : Type 0 where
  pub within : i ≤ n
  pub readable : Readable sheet s
  pub count : s.count ≡ before.count + i
  pub inside : next ≤ length sheet
  pub rest : symbol_lines n key k (signature_in sheet before) line (drop at sheet) ≡ symbol_lines (n - i) key k (signature_in sheet s) (line + i) (drop next sheet)

module _ (sheet : List ℕ) (at line : ℕ) (key : List ℕ) (k : Kind) (n : ℕ) (before : Signature) where
  pub begins : Readable sheet before → at ≤ length sheet → Reached sheet at line key k n before before at 0
  begins h l =
      let a : n ≡ n - 0 = omega arith in
      let b : line ≡ line + 0 = omega arith in
      record {
        within = omega arith;
        readable = h;
        count = omega arith;
        inside = l;
        rest = ap (λ (m : ℕ). symbol_lines m key k (signature_in sheet before) line (drop at sheet)) a ∙ ap (λ (m : ℕ). symbol_lines (n - 0) key k (signature_in sheet before) m (drop at sheet)) b;
      }

  module _ (s : Signature) (next i : ℕ) (z : Reached sheet at line key k n before s next i) where
    module _ (l : i < n) where
      -- the next line, and those after it
      first : symbol_lines n key k (signature_in sheet before) line (drop at sheet) ≡ symbol_lines (suc (n - (i + 1))) key k (signature_in sheet s) (line + i) (drop next sheet)
      first =
          let e : n - i ≡ suc (n - (i + 1)) = omega arith in
          z.rest ∙ ap (λ (m : ℕ). symbol_lines m key k (signature_in sheet s) (line + i) (drop next sheet)) e

      pub turn : (r : Signature) (y : Symbol) (after : ℕ) → SymbolRead sheet next key k (signature_in sheet s) (Ok (y, after)) → before.count + n ≤ 24
          → r.count ≡ s.count + 1 → take r.count r.symbols ≡ take s.count s.symbols ++ (y ∷ []) → Reached sheet at line key k n before r after (i + 1)
      turn r y after h small count symbols =
          let e : suc (line + i) ≡ line + (i + 1) = omega arith in
          record {
            within = omega arith;
            readable = readable-more sheet s r y z.readable count symbols (omega (arith, z.count)) h.within.0 h.within.1.0;
            count = omega (arith, z.count);
            inside = h.within.1.1;
            rest = first ∙ sym (h.read (n - (i + 1)) (line + i))
                ∙ ap (λ (g : theory.Signature). symbol_lines (n - (i + 1)) key k g (suc (line + i)) (drop after sheet)) (sym (signature_in-more sheet s r y z.readable count symbols))
                ∙ ap (λ (m : ℕ). symbol_lines (n - (i + 1)) key k (signature_in sheet r) m (drop after sheet)) e;
          }

      -- the next line is faulty
      pub faults : (f : Fault) → SymbolRead sheet next key k (signature_in sheet s) (Err f)
          → SectionRead sheet (before.count + n) (line + n) (lines_from n key k (signature_in sheet before) line (drop at sheet)) (Err (record { fault = f; line = line + i }))
      unfolding lines_from
      faults f h =
          record {
            read = sym (bind-refused (symbol_lines n key k (signature_in sheet before) line (drop at sheet)) _ (at_line (number_of f) (line + i)) (first ∙ sym (h.read (n - (i + 1)) (line + i))));
            held = tt;
            refused = omega arith;
          }

    pub ends : n ≤ i → SectionRead sheet (before.count + n) (line + n) (lines_from n key k (signature_in sheet before) line (drop at sheet)) (Ok (record { signature = s; next = next; line = line + n }))
    unfolding lines_from symbol_lines
    ends l =
        let e : n - i ≡ 0 = omega arith in
        record {
          read = sym (bind-step (symbol_lines n key k (signature_in sheet before) line (drop at sheet)) _ (signature_in sheet s, drop next sheet) _
              (z.rest ∙ ap (λ (m : ℕ). symbol_lines m key k (signature_in sheet s) (line + i) (drop next sheet)) e) refl);
          held = record { readable = z.readable; count = omega (arith, z.count, z.within); line = omega arith; next = z.inside };
          refused = tt;
        }

module _ (sheet : List ℕ) (at line : ℕ) (counting key : List ℕ) (k : Kind) (before : Signature) where
  -- the count line is faulty
  pub uncounted : (f : Fault) → CountRead sheet at counting max_symbols (Err f)
      → SectionRead sheet (before.count + 12) (line + 13) (section_from counting key k (signature_in sheet before) line (drop at sheet)) (Err (record { fault = f; line = line }))
  unfolding section_from
  uncounted f h =
      record {
        read = sym (bind-refused (count_line counting max_symbols line (drop at sheet)) _ (at_line (number_of f) line) (sym (h.read line)));
        held = tt;
        refused = omega arith;
      }

  -- so many symbol lines follow it
  module _ (n next : ℕ) (h : CountRead sheet at counting max_symbols (Ok (n, next))) where
    whole : (r : rust.Result Section SheetFault) → SectionRead sheet (before.count + n) (line + 1 + n) (lines_from n key k (signature_in sheet before) (line + 1) (drop next sheet)) r
        → section_in sheet r ≡ section_from counting key k (signature_in sheet before) line (drop at sheet)
    unfolding section_from
    whole r s = s.read ∙ sym (bind-step (count_line counting max_symbols line (drop at sheet)) _ (n, drop next sheet) _ (sym (h.read line)) refl)

    pub counted : (r : rust.Result Section SheetFault) → SectionRead sheet (before.count + n) (line + 1 + n) (lines_from n key k (signature_in sheet before) (line + 1) (drop next sheet)) r
        → SectionRead sheet (before.count + 12) (line + 13) (section_from counting key k (signature_in sheet before) line (drop at sheet)) r
    counted (Ok t) s =
        record {
          read = whole (Ok t) s;
          held = let o : SectionHeld sheet (before.count + n) (line + 1 + n) t = s.held in
              record { readable = o.readable; count = omega (arith, o.count, h.within.0); line = omega (arith, o.line, h.within.0); next = o.next };
          refused = tt;
        }
    counted (Err f) s = record { read = whole (Err f) s; held = tt; refused = omega (arith, s.refused, h.within.0) }
