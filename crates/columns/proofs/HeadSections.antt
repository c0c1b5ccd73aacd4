-- The sections of a sheet whose head was read.
use Prim.Native.Nat.{ℕ}
use mathlib.Core.Path.{◌≡◌}
use mathlib.Core.List.{List}
use Rattle.theory.specs.Lines.{Cut}
use Rattle.theory.specs.Syntax.{Signature}
use Rattle.theory.specs.Refusals.{answer}
use Rattle.theory.proofs.Answers.{unbind}
use Rattle.theory.proofs.SheetSections.{SectionsRead}
use Rattle.naming.proofs.SheetHead.{Head, head}

pub head-sections : (text : List ℕ) (h : Head) → head text ≡ answer h → SectionsRead text
unfolding head
head-sections text h e =
    unbind _ _ h e λ (u₁ : Unit {0}) _ e₁.
    unbind _ _ h e₁ λ (a : Cut) ha e₂.
    unbind _ _ h e₂ λ (u₂ : Unit {0}) hu e₃.
    unbind _ _ h e₃ λ (f : ℕ × List ℕ) hf e₄.
    unbind _ _ h e₄ λ (fs : Signature × List ℕ) hfs e₅.
    unbind _ _ h e₅ λ (p : ℕ × List ℕ) hp e₆.
    unbind _ _ h e₆ λ (g : Signature × List ℕ) hg _.
    record {
      heading = a;
      headed = ha;
      alone = hu;
      function_count = f;
      functions_counted = hf;
      functions = fs;
      functions_read = hfs;
      predicate_count = p;
      predicates_counted = hp;
      symbols = g;
      predicates_read = hg;
    }
