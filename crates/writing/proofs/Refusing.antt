-- Write's answers, check by check.
use Prim.Native.Nat.{ℕ, ◌≤◌, ◌<◌}
use mathlib.Core.Path.{◌≡◌, refl, sym, ◌∙◌}
use mathlib.Core.Bool.{Bool, true, false}
use mathlib.Core.List.{List}
use lib.Dec.{leb}
use lib.ListN.{length}
use Rattle.theory.specs.Refusals.{Answer, answer, refused, unplaced, needing, check, ◌>>=◌}
use Rattle.theory.specs.Refusals as theory
use Rattle.theory.specs.Problem.{Problem}
use Rattle.theory.specs.Operations.{max_instances, is_size}
use Rattle.theory.proofs.Tests.{leb-of-≤, leb-of-<}
use Rattle.theory.proofs.Answers.{bind-step, bind-refused, check-of-true, check-of-false}
use Rattle.naming.specs.NamedOperations.{placed_in, mode_problem}
use Rattle.symmetry.specs.SymmetricOperations.{written_text_with}
use Rattle.symmetry.proofs.Chains.{content_chain, write_chain, write-chain}
use Rattle.writing.specs.Texts.{instances_at, clauses_text, text_within, text_at}

module _ (used : Bool) (p : Problem) (s room : ℕ) where
  -- 11
  pub too_long : room < length (clauses_text used p s) → text_within used p s room ≡ refused (needing 11 (length (clauses_text used p s)))
  too_long h = bind-refused _ _ _ (check-of-false (leb (length (clauses_text used p s)) room) (needing 11 (length (clauses_text used p s))) (leb-of-< (length (clauses_text used p s)) room h))

  pub within : length (clauses_text used p s) ≤ room → text_within used p s room ≡ answer (clauses_text used p s)
  within h = bind-step _ _ tt _ (check-of-true (leb (length (clauses_text used p s)) room) (needing 11 (length (clauses_text used p s))) (leb-of-≤ (length (clauses_text used p s)) room h)) refl

  -- 9
  pub too_many : max_instances < instances_at used p s → text_at used p s room ≡ refused (unplaced 9)
  too_many h = bind-refused _ _ _ (check-of-false (leb (instances_at used p s) max_instances) (unplaced 9) (leb-of-< (instances_at used p s) max_instances h))

  pub not-too-many : instances_at used p s ≤ max_instances → text_at used p s room ≡ text_within used p s room
  not-too-many h = bind-step _ _ tt _ (check-of-true (leb (instances_at used p s) max_instances) (unplaced 9) (leb-of-≤ (instances_at used p s) max_instances h)) refl

module _ (sheet : List ℕ) (s room : ℕ) (named used : Bool) where
  -- 9 of a problem as handed in
  abbrev counted : Problem → Answer Problem
  counted p = check (leb (instances_at used (mode_problem named p) s) max_instances) (unplaced 9) >>= λ _. answer p

  -- Write's chain, of both modes
  abbrev chain : Answer (List ℕ)
  chain = (placed_in named sheet >>= λ p. check (is_size s) (unplaced 8) >>= λ _. counted p) >>= λ p. text_within used (mode_problem named p) s room

  -- 1 to 7, and 21
  refused-first : (q : theory.Refusal) → placed_in named sheet ≡ refused q → chain ≡ refused q
  refused-first q e = bind-refused _ _ q (bind-refused _ _ q e)

  module _ (p : Problem) (read : placed_in named sheet ≡ answer p) where
    -- 8
    refused-8 : is_size s ≡ false → chain ≡ refused (unplaced 8)
    refused-8 h = bind-refused _ _ (unplaced 8) (bind-step _ _ p _ read (bind-refused _ _ (unplaced 8) (check-of-false (is_size s) (unplaced 8) h)))

    -- what is left to check at a checked size
    sized : is_size s ≡ true → chain ≡ text_at used (mode_problem named p) s room
    sized h = go (leb (instances_at used (mode_problem named p) s) max_instances) refl
      where
        content : (placed_in named sheet >>= λ p. check (is_size s) (unplaced 8) >>= λ _. counted p) ≡ counted p
        content = bind-step _ _ p _ read (bind-step _ _ tt _ (check-of-true (is_size s) (unplaced 8) h) refl)

        go : (b : Bool) → leb (instances_at used (mode_problem named p) s) max_instances ≡ b → chain ≡ text_at used (mode_problem named p) s room
        go true t =
            let taken = check-of-true (leb (instances_at used (mode_problem named p) s) max_instances) (unplaced 9) t in
            bind-step _ _ p _ (content ∙ bind-step _ _ tt (answer p) taken refl) (sym (bind-step _ _ tt _ taken refl))
        go false t =
            let many = check-of-false (leb (instances_at used (mode_problem named p) s) max_instances) (unplaced 9) t in
            bind-refused _ _ (unplaced 9) (content ∙ bind-refused _ _ (unplaced 9) many) ∙ sym (bind-refused _ _ (unplaced 9) many)

-- it is what the definition says
is-chain : (sheet : List ℕ) (s room : ℕ) (named used : Bool) → written_text_with named used sheet s room ≡ chain sheet s room named used
unfolding write_chain content_chain
is-chain sheet s room named used = write-chain named used sheet s room

module _ (sheet : List ℕ) (s room : ℕ) (named used : Bool) where
  pub sheet-refusal : (q : theory.Refusal) → placed_in named sheet ≡ refused q → written_text_with named used sheet s room ≡ refused q
  sheet-refusal q e = is-chain sheet s room named used ∙ refused-first sheet s room named used q e

  pub size-refusal : (p : Problem) → placed_in named sheet ≡ answer p → is_size s ≡ false → written_text_with named used sheet s room ≡ refused (unplaced 8)
  size-refusal p e h = is-chain sheet s room named used ∙ refused-8 sheet s room named used p e h

  pub sized-text : (p : Problem) → placed_in named sheet ≡ answer p → is_size s ≡ true → written_text_with named used sheet s room ≡ text_at used (mode_problem named p) s room
  sized-text p e h = is-chain sheet s room named used ∙ sized sheet s room named used p e h
