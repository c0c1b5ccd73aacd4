-- What Read back answers and leaves at each of its refusals, and where it writes.
use Prim.Native.Nat.{ℕ, ◌≤◌, ◌<◌}
use mathlib.Core.Path.{◌≡◌, refl, sym, ap, ◌∙◌}
use mathlib.Core.Bool.{Bool, true, false}
use mathlib.Core.List.{List}
use lib.Dec.{leb}
use Rattle.theory.specs.Syntax.{Signature, all_declared}
use Rattle.theory.specs.Refusals.{Refusal, Answer, answer, refused, unplaced, needing, ◌>>=◌, check}
use Rattle.theory.specs.Problem.{Problem}
use Rattle.theory.specs.CaseText.{case_text, case_length}
use Rattle.theory.specs.Valuation.{is_valuation, is_functional, read_back}
use Rattle.theory.specs.Operations.{is_size, read_back_text}
use Rattle.theory.proofs.Tests.{leb-of-≤, leb-of-<}
use Rattle.theory.proofs.Answers.{bind-step, bind-refused, check-of-true, check-of-false}
use Rattle.naming.specs.NamedProblem.{shown_symbols, shown_text}
use Rattle.naming.specs.NamedOperations.{named_read_back_text, placed_in, mode_problem, read_back_text_in}
use Rattle.naming.proofs.Helpers.{shown-declared, shown-whole}
use Rattle.reading_back.specs.Settings.{text_said}
use Rattle.reading_back.proofs.Bits.{length-read_back}

module _ (s : ℕ) (g : Signature) (setting : List ℕ) (room : ℕ) where
  pub no-valuation : is_valuation s g setting ≡ false → text_said s g setting room ≡ refused (unplaced 13)
  unfolding text_said
  no-valuation h = bind-refused _ _ (unplaced 13) (check-of-false _ (unplaced 13) h)

  module _ (valuation : is_valuation s g setting ≡ true) where
    pub not-functional : is_functional s g setting ≡ false → text_said s g setting room ≡ refused (unplaced 14)
    unfolding text_said
    not-functional h = bind-step _ _ tt _ (check-of-true _ (unplaced 13) valuation) (bind-refused _ _ (unplaced 14) (check-of-false _ (unplaced 14) h))

    module _ (functional : is_functional s g setting ≡ true) where
      pub no_room : room < case_length s (shown_symbols g) → text_said s g setting room ≡ refused (needing 11 (case_length s (shown_symbols g)))
      unfolding text_said
      no_room h =
          bind-step _ _ tt _ (check-of-true _ (unplaced 13) valuation)
          (bind-step _ _ tt _ (check-of-true _ (unplaced 14) functional)
          (bind-refused _ _ (needing 11 (case_length s (shown_symbols g))) (check-of-false _ (needing 11 (case_length s (shown_symbols g))) (leb-of-< (case_length s (shown_symbols g)) room h))))

      pub text-said : case_length s (shown_symbols g) ≤ room → text_said s g setting room ≡ answer (shown_text s g (read_back s g setting))
      unfolding text_said
      text-said h =
          bind-step _ _ tt _ (check-of-true _ (unplaced 13) valuation)
          (bind-step _ _ tt _ (check-of-true _ (unplaced 14) functional)
          (bind-step _ _ tt _ (check-of-true _ (needing 11 (case_length s (shown_symbols g))) (leb-of-≤ (case_length s (shown_symbols g)) room h)) refl))

-- what a setting says where a case shows all symbols
plain-said : (s : ℕ) (g : Signature) (setting : List ℕ) (room : ℕ) → all_declared g ≡ true
    → (check (is_valuation s g setting) (unplaced 13) >>= λ _. check (is_functional s g setting) (unplaced 14) >>= λ _. check (leb (case_length s g) room) (needing 11 (case_length s g)) >>= λ _. answer (case_text s g (read_back s g setting)))
    ≡ text_said s g setting room
unfolding text_said
plain-said s g setting room h =
    let said : ℕ → List ℕ → Answer (List ℕ) = λ n t. check (is_valuation s g setting) (unplaced 13) >>= λ _. check (is_functional s g setting) (unplaced 14) >>= λ _. check (leb n room) (needing 11 n) >>= λ _. answer t in
    ap (λ (n : ℕ). said n (case_text s g (read_back s g setting))) (ap (case_length s) (sym (shown-declared g h)))
    ∙ ap (said (case_length s (shown_symbols g))) (sym (shown-whole s g (read_back s g setting) h (length-read_back s g setting)))

-- the whole call, of both modes
module _ (sheet : List ℕ) (n : ℕ) (setting : List ℕ) (room : ℕ) where
  pub sheet-refusal : (named : Bool) (q : Refusal) → placed_in named sheet ≡ refused q → read_back_text_in named sheet n setting room ≡ refused q
  unfolding read_back_text named_read_back_text
  sheet-refusal false q e = bind-refused _ _ q e
  sheet-refusal true q e = bind-refused _ _ q e

  module _ (p : Problem) where
    pub size-refusal : (named : Bool) → placed_in named sheet ≡ answer p → is_size n ≡ false → read_back_text_in named sheet n setting room ≡ refused (unplaced 8)
    unfolding read_back_text named_read_back_text
    size-refusal false e h = bind-step _ _ p _ e (bind-refused _ _ (unplaced 8) (check-of-false _ (unplaced 8) h))
    size-refusal true e h = bind-step _ _ p _ e (bind-refused _ _ (unplaced 8) (check-of-false _ (unplaced 8) h))

    pub setting-left : (named : Bool) → placed_in named sheet ≡ answer p → all_declared p.symbols ≡ true → is_size n ≡ true → read_back_text_in named sheet n setting room ≡ text_said n (mode_problem named p).symbols setting room
    unfolding read_back_text named_read_back_text text_said
    setting-left false e d h = bind-step _ _ p _ e (bind-step _ _ tt _ (check-of-true _ (unplaced 8) h) (plain-said n p.symbols setting room d))
    setting-left true e d h = bind-step _ _ p _ e (bind-step _ _ tt _ (check-of-true _ (unplaced 8) h) refl)
