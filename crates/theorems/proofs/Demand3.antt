-- Demand 3 of the calls, from demand 3 of the texts.
use Prim.Native.Nat.{ℕ, ◌≤◌}
use mathlib.Core.Path.{◌≡◌, refl, sym, ap, ◌∙◌}
use mathlib.Core.Logic.{◌↔◌}
use mathlib.Core.Bool.{Bool, true, false}
use mathlib.Core.List.{List}
use native.Mathlib.Nat.{le_refl}
use native.Mathlib.Omega.{arith}
use lib.Dec.{leb}
use lib.ListN.{length}
use Rattle.theory.specs.Refusals.{answer, needing}
use Rattle.theory.specs.Problem.{Problem, read_problem}
use Rattle.theory.specs.CaseText.{case_length}
use Rattle.theory.specs.Operations.{content_of, written_text, read_back_text}
use Rattle.theory.specs.Claims.ReadingBack.{Satisfying}
use Rattle.theory.proofs.Tests.{leb-of-≤}
use Rattle.theory.proofs.Answers.{unbind, bind-step, answer-inj, check-of-true}
use Rattle.theory.proofs.PlacedReading.{problem-read}
use Rattle.theory.proofs.ReadingBack.{reading-back}
use Rattle.naming.specs.NamedProblem.{in_mode, shown_symbols}
use Rattle.naming.specs.NamedReading.{read_named}
use Rattle.naming.specs.NamedOperations.{named_content_of, named_written_text, named_read_back_text, mode_problem, content_of_in, written_text_in, read_back_text_in}
use Rattle.naming.proofs.Reading.{read_named-taken, taken-sheet, named-read}
use Rattle.naming.proofs.Naming.{naming}
use Rattle.naming.proofs.ReadingBack.{named-reading-back}
use Rattle.theorems.specs.Texts.{clauses_text}
use Rattle.theorems.specs.Models.{Model}
use Rattle.theorems.specs.Demand3.{ReadBackAs, AlwaysReadBackAs, Demand3, Demand3Holds}
use Rattle.theorems.proofs.Leaving.{leaves, left-text}
use Rattle.theorems.proofs.Models.{judged-is-model, model-is-judged, sheet-model-is, is-sheet-model}

-- an accepted sheet and size
content-read : (sheet : List ℕ) (size : ℕ) (p : Problem) → content_of sheet size ≡ answer p → read_problem sheet ≡ answer p
unfolding content_of
content-read sheet size p e =
    unbind _ _ p e λ (q : Problem) h e₁.
    unbind _ _ p e₁ λ (u₁ : Unit {0}) _ e₂.
    unbind _ _ p e₂ λ (u₂ : Unit {0}) _ e₃.
    problem-read sheet q h ∙ e₃

-- and in the mode
named-content-read : (sheet : List ℕ) (size : ℕ) (p : Problem) → named_content_of sheet size ≡ answer p → read_named sheet ≡ answer p
unfolding named_content_of
named-content-read sheet size p e =
    unbind _ _ p e λ (q : Problem) h e₁.
    unbind _ _ p e₁ λ (u₁ : Unit {0}) _ e₂.
    unbind _ _ p e₂ λ (u₂ : Unit {0}) _ e₃.
    named-read sheet q h ∙ e₃

-- Write leaves the clauses in an output that is large enough
written : (named : Bool) (sheet : List ℕ) (size room : ℕ) (p : Problem) → content_of_in named sheet size ≡ answer p → length (clauses_text (mode_problem named p) size) ≤ room
    → written_text_in named sheet size room ≡ answer (clauses_text (mode_problem named p) size)
unfolding written_text named_written_text
written false sheet size room p c fits =
    bind-step _ _ p _ c (bind-step _ _ tt _ (check-of-true (leb (length (clauses_text p size)) room) (needing 11 (length (clauses_text p size))) (leb-of-≤ (length (clauses_text p size)) room fits)) refl)
written true sheet size room p c fits =
    let n : ℕ = length (clauses_text (in_mode p) size) in
    bind-step _ _ p _ c (bind-step _ _ tt _ (check-of-true (leb n room) (needing 11 n) (leb-of-≤ n room fits)) refl)

-- what is read back stands in every output that is large enough
pub read-back-in : (sheet : List ℕ) (size room : ℕ) (σ c : List ℕ) (p : Problem) → read_problem sheet ≡ answer p → read_back_text sheet size σ room ≡ answer c
    → (enough : ℕ) → case_length size p.symbols ≤ enough → read_back_text sheet size σ enough ≡ answer c
unfolding read_back_text
read-back-in sheet size room σ c p read e enough fits =
    unbind _ _ c e λ (q : Problem) h e₁.
    unbind _ _ c e₁ λ (u₁ : Unit {0}) h₁ e₂.
    unbind _ _ c e₂ λ (u₂ : Unit {0}) h₂ e₃.
    unbind _ _ c e₃ λ (u₃ : Unit {0}) h₃ e₄.
    unbind _ _ c e₄ λ (u₄ : Unit {0}) _ e₅.
    let same : p ≡ q = answer-inj p q (sym read ∙ problem-read sheet q h) in
    let fits' : case_length size q.symbols ≤ enough = rw same at fits in
    bind-step _ _ q _ h
    (bind-step _ _ u₁ _ h₁
    (bind-step _ _ u₂ _ h₂
    (bind-step _ _ u₃ _ h₃ (bind-step _ _ tt _ (check-of-true (leb (case_length size q.symbols) enough) (needing 11 (case_length size q.symbols)) (leb-of-≤ (case_length size q.symbols) enough fits')) e₅))))

named-read-back-in : (sheet : List ℕ) (size room : ℕ) (σ c : List ℕ) (p : Problem) → read_named sheet ≡ answer p → named_read_back_text sheet size σ room ≡ answer c
    → (enough : ℕ) → case_length size p.symbols ≤ enough → named_read_back_text sheet size σ enough ≡ answer c
unfolding named_read_back_text
named-read-back-in sheet size room σ c p read e enough fits =
    unbind _ _ c e λ (q : Problem) h e₁.
    unbind _ _ c e₁ λ (u₁ : Unit {0}) h₁ e₂.
    unbind _ _ c e₂ λ (u₂ : Unit {0}) h₂ e₃.
    unbind _ _ c e₃ λ (u₃ : Unit {0}) h₃ e₄.
    unbind _ _ c e₄ λ (u₄ : Unit {0}) _ e₅.
    let same : p ≡ q = answer-inj p q (sym read ∙ named-read sheet q h) in
    let shown : shown_symbols (in_mode q).symbols ≡ p.symbols =
    ap (λ (q : Problem). shown_symbols (in_mode q).symbols) (sym same) ∙ (naming p 1 (omega arith) (taken-sheet p (read_named-taken sheet p read))).symbols in
    let n : ℕ = case_length size (shown_symbols (in_mode q).symbols) in
    let fits' : n ≤ enough = rw (sym shown) at fits in
    bind-step _ _ q _ h
    (bind-step _ _ u₁ _ h₁ (bind-step _ _ u₂ _ h₂ (bind-step _ _ u₃ _ h₃ (bind-step _ _ tt _ (check-of-true (leb n enough) (needing 11 n) (leb-of-≤ n enough fits')) e₅))))

-- what is read back of a sheet that is not refused stands in every output that is large enough, in either mode
stands : (named : Bool) (sheet : List ℕ) (size room : ℕ) (σ c : List ℕ) (p : Problem) → content_of_in named sheet size ≡ answer p → read_back_text_in named sheet size σ room ≡ answer c
    → (enough : ℕ) → case_length size p.symbols ≤ enough → read_back_text_in named sheet size σ enough ≡ answer c
stands false sheet size room σ c p content e enough fits = read-back-in sheet size room σ c p (content-read sheet size p content) e enough fits
stands true sheet size room σ c p content e enough fits = named-read-back-in sheet size room σ c p (named-content-read sheet size p content) e enough fits

-- demand 3 of the texts, in either mode: what is read back in an output of just the case's length
record OnTexts (named : Bool) (sheet : List ℕ) (p : Problem) (size : ℕ) (text : List ℕ) : Type 0 where
  equal : (σ τ c d : List ℕ) → Satisfying (mode_problem named p) size text σ → Satisfying (mode_problem named p) size text τ
      → read_back_text_in named sheet size σ (case_length size p.symbols) ≡ answer c → read_back_text_in named sheet size τ (case_length size p.symbols) ≡ answer d → (σ ≡ τ) ↔ (c ≡ d)
  reads_back : (σ : List ℕ) → Satisfying (mode_problem named p) size text σ → (c : List ℕ) × (read_back_text_in named sheet size σ (case_length size p.symbols) ≡ answer c) × Model p size c
  onto : (c : List ℕ) → Model p size c → (σ : List ℕ) × Satisfying (mode_problem named p) size text σ × (read_back_text_in named sheet size σ (case_length size p.symbols) ≡ answer c)
      × ((τ : List ℕ) → Satisfying (mode_problem named p) size text τ → read_back_text_in named sheet size τ (case_length size p.symbols) ≡ answer c → τ ≡ σ)

on_texts : (named : Bool) (sheet : List ℕ) (p : Problem) (size room : ℕ) (text : List ℕ) → content_of_in named sheet size ≡ answer p → written_text_in named sheet size room ≡ answer text → OnTexts named sheet p size text
on_texts false sheet p size room text content t =
    let d = reading-back sheet p size room (case_length size p.symbols) text content t (le_refl (case_length size p.symbols)) in
    let read : read_problem sheet ≡ answer p = content-read sheet size p content in
    record {
      equal = d.equal;
      reads_back = λ σ s. let r = d.reads_back σ s in (r.0, r.1, judged-is-model sheet p read size r.0 r.2);
      onto = λ c m. d.onto c (model-is-judged sheet p read size c m);
    }
on_texts true sheet p size room text content t =
    let d = named-reading-back sheet p size room (case_length size p.symbols) text content t (le_refl (case_length size p.symbols)) in
    record {
      equal = d.equal;
      reads_back = λ σ s. let r = d.reads_back σ s in (r.0, r.1, sheet-model-is p size r.0 r.2);
      onto = λ c m. d.onto c (is-sheet-model p size c m);
    }

module _ (named : Bool) (sheet : List ℕ) (p : Problem) (size : ℕ) (text : List ℕ) (content : content_of_in named sheet size ≡ answer p) (d : OnTexts named sheet p size text) where
  abbrev needed : ℕ
  needed = case_length size p.symbols

  -- a call that leaves a case reads it back in an output of just that length too
  left-case : (σ c : List ℕ) → ReadBackAs sheet size named σ c → read_back_text_in named sheet size σ needed ≡ answer c
  left-case σ c b =
      let room : ℕ = length b.output in
      stands named sheet size room σ c p content (left-text (read_back_text_in named sheet size σ room) b.answer b.output b.output' b.call c b.leaves) needed (le_refl needed)

  -- and the other way
  leaves-case : (σ c : List ℕ) → read_back_text_in named sheet size σ needed ≡ answer c → AlwaysReadBackAs sheet p size named σ c
  leaves-case σ c e r output output' b fits =
      leaves (read_back_text_in named sheet size σ (length output)) r output output' b c (stands named sheet size needed σ c p content e (length output) fits)

  of_calls : Demand3 sheet p size named text
  of_calls =
      record {
        equal = λ σ τ c e sσ sτ a b. d.equal σ τ c e sσ sτ (left-case σ c a) (left-case τ e b);
        reads_back = λ σ s. let r = d.reads_back σ s in (r.0, r.2, leaves-case σ r.0 r.1);
        onto = λ c m. let r = d.onto c m in (r.0, r.1, leaves-case r.0 c r.2, λ τ s b. r.3 τ s (left-case τ c b));
      }

-- the theorem
pub demand3-of-calls : Demand3Holds
demand3-of-calls sheet p size named content r output output' w fits =
    let text : List ℕ = clauses_text (mode_problem named p) size in
    let t : written_text_in named sheet size (length output) ≡ answer text = written named sheet size (length output) p content fits in (
      leaves (written_text_in named sheet size (length output)) r output output' w text t,
      of_calls named sheet p size text content (on_texts named sheet p size (length output) text content t),
    )
