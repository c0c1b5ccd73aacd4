-- One word of a clause line: when its code is that of the word, and when it is unknown.
use Prim.Native.Nat.{ℕ, ◌≤◌, ◌<◌}
use mathlib.Core.Path.{◌≡◌, refl, ap, ◌∙◌}
use mathlib.Core.Bool.{true, false}
use mathlib.Core.Option.{none, some}
use mathlib.Core.List.{List}
use native.Mathlib.Omega.{arith}
use lib.Dec.{ltb}
use lib.ListN.{length, get_or}
use borrow.Author.Tests.{lt-ltb}
use Rattle.theory.specs.Syntax.{Signature}
use Rattle.theory.specs.Problem.{place_of_name, name_word}
use Rattle.theory.proofs.Tests.{or_left, or_right}
use Rattle.syntax.specs.Signatures.{max_in_all}
use Rattle.syntax.specs.Codes.{fixed_code}
use Rattle.syntax.proofs.Codes.{word_of-symbol}
use Rattle.std.specs.Prelude.{Some, None}
use Rattle.clauses.specs.Words.{is_fixed_code, is_fixed_word, WordRead}
use Rattle.clauses.proofs.Fixed.{fixed-length, fixed-one, fixed-behind, fixed_word, name-word, empty-word}

module _ (g : Signature) (w : List ℕ) where
  pub word-empty : length w ≡ 0 → WordRead g w None
  word-empty e = record { read = empty-word g w e; coded = refl }

  pub word-fixed : is_fixed_word w ≡ true → WordRead g w (Some (fixed_code (get_or w 0 0)))
  word-fixed e =
      record {
        read = fixed_word g w e;
        coded = or_right (ltb (fixed_code (get_or w 0 0)) (length g)) (is_fixed_code (fixed_code (get_or w 0 0))) (fixed-behind (get_or w 0 0) ∙ fixed-one w (fixed-length w e) ∙ e);
      }

  module _ (filled : length w ≡ 0 → ⊥) (other : is_fixed_word w ≡ false) where
    pub word-named : (i : ℕ) → some i ≡ place_of_name w g → i < length g → length g ≤ max_in_all → WordRead g w (Some i)
    word-named i place h small =
        record {
          read = ap some (word_of-symbol i (omega arith)) ∙ ap name_word place ∙ name-word g w filled other;
          coded = or_left (ltb i (length g)) (is_fixed_code i) (lt-ltb i (length g) h);
        }

    pub word-unknown : none ≡ place_of_name w g → WordRead g w None
    word-unknown place = record { read = ap name_word place ∙ name-word g w filled other; coded = refl }
