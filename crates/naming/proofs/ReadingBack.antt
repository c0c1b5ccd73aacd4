-- ReadingBack, in the mode: theory's encoding for the mode's problem, and Naming.
use Prim.Native.Nat.{ℕ, zero, ◌≤◌, ◌<◌}
use mathlib.Core.Path.{◌≡◌, refl, sym, ap, ◌∙◌, subst}
use mathlib.Core.Bool.{Bool, true, ◌&&◌}
use mathlib.Core.List.{List}
use lib.Dec.{leb}
use Rattle.theory.specs.Syntax.{Signature}
use Rattle.theory.specs.Cells.{is_interpretation, is_model}
use Rattle.theory.specs.Propositional.{prop_count}
use Rattle.theory.specs.PropClauses.{prop_clauses}
use Rattle.theory.specs.Dimacs.{dimacs}
use Rattle.theory.specs.Valuation.{satisfies, satisfies_text, is_valuation, is_functional, read_back}
use Rattle.theory.specs.Refusals.{answer, unplaced, needing}
use Rattle.theory.specs.Problem.{Problem}
use Rattle.theory.specs.CaseText.{Case, case_text, case_length, read_case}
use Rattle.theory.specs.Operations.{is_size}
use Rattle.theory.specs.Claims.Encoding.{Encoding}
use Rattle.theory.specs.Claims.Least.{ModelCells}
use Rattle.theory.specs.Claims.ReadingBack.{Satisfying, ModelText}
use Rattle.theory.proofs.Tests.{leb-true, leb-of-≤, and_left, and_right, and-join}
use Rattle.theory.proofs.Answers.{unbind, bind-step, answer-inj, check-true, check-of-true}
use Rattle.theory.proofs.Dimacs.{written-clauses}
use Rattle.theory.proofs.CaseText.{OnlyText, read-own-case, read-exactly}
use Rattle.theory.proofs.ModelTexts.{model-text, IsModelText, is-model-text}
use Rattle.theory.proofs.Encoding.{encoding}
use Rattle.naming.specs.NamedProblem.{in_mode, shown_symbols, shown_values, shown_text}
use Rattle.naming.specs.NamedReading.{read_named}
use Rattle.naming.specs.NamedOperations.{named_content_of, named_written_text, named_read_back_text}
use Rattle.naming.specs.Claims.Naming.{extended, Naming}
use Rattle.naming.specs.Claims.ReadingBack.{SheetModel, NamedReadingBack, NamedReadingBackHolds, JudgedModels}
use Rattle.naming.proofs.Naming.{naming}
use Rattle.naming.proofs.Reading.{Taken, read_named-taken, taken-sheet, named-read, placed-named}

-- a sheet and size that are not refused for their content
content-accepted : (sheet : List ℕ) (size : ℕ) (p : Problem) → named_content_of sheet size ≡ answer p → (read_named sheet ≡ answer p) × (is_size size ≡ true)
unfolding named_content_of
content-accepted sheet size p e =
    unbind _ _ p e λ (q : Problem) h₁ e₁.
    unbind _ _ p e₁ λ (u₁ : Unit {0}) h₂ e₂.
    unbind _ _ p e₂ λ (u₂ : Unit {0}) _ e₃.
    (named-read sheet q h₁ ∙ e₃, check-true (is_size size) (unplaced 8) u₁ h₂)

-- the text that Write leaves is that of the mode's clauses
written-text : (sheet : List ℕ) (size room : ℕ) (p : Problem) (text : List ℕ) → named_content_of sheet size ≡ answer p → named_written_text sheet size room ≡ answer text
    → dimacs (prop_count size (in_mode p).symbols) (prop_clauses size (in_mode p).symbols (in_mode p).clauses) ≡ text
unfolding named_written_text
written-text sheet size room p text c e =
    unbind _ _ text e λ (q : Problem) h₁ e₁.
    unbind _ _ text e₁ λ (u : Unit {0}) _ e₂.
    let same : p ≡ q = answer-inj p q (sym c ∙ h₁) in
    ap (λ (p : Problem). dimacs (prop_count size (in_mode p).symbols) (prop_clauses size (in_mode p).symbols (in_mode p).clauses)) same
    ∙ answer-inj (dimacs (prop_count size (in_mode q).symbols) (prop_clauses size (in_mode q).symbols (in_mode q).clauses)) text e₂

module _ (sheet : List ℕ) (p : Problem) (size : ℕ) (text : List ℕ) (room : ℕ)
    (read : read_named sheet ≡ answer p) (sized : is_size size ≡ true)
    (written : dimacs (prop_count size (in_mode p).symbols) (prop_clauses size (in_mode p).symbols (in_mode p).clauses) ≡ text)
    (fits : case_length size p.symbols ≤ room) where
  abbrev g : Signature
  g = p.symbols

  abbrev q : Problem
  q = in_mode p

  pos : zero < size
  pos = leb-true 1 size (and_left (leb 1 size) (leb size 8) sized)

  le-8 : size ≤ 8
  le-8 = leb-true size 8 (and_right (leb 1 size) (leb size 8) sized)

  taken : Taken p
  taken = read_named-taken sheet p read

  names : Naming p size
  names = naming p size pos (taken-sheet p taken)

  enc : Encoding size q.symbols q.clauses
  enc = encoding size q.symbols q.clauses pos names.clauses

  -- a setting satisfies the text exactly if it satisfies the clauses
  text-satisfied : (σ : List ℕ) → satisfies_text σ text ≡ satisfies σ (prop_clauses size q.symbols q.clauses)
  unfolding satisfies_text
  text-satisfied σ = ap (satisfies_text σ) (sym written) ∙ ap (satisfies σ) (written-clauses (prop_count size q.symbols) size q.symbols q.clauses)

  -- the values that a setting is read back as, and those that the case shows
  abbrev back : List ℕ → List ℕ
  back σ = read_back size q.symbols σ

  abbrev front : List ℕ → List ℕ
  front σ = shown_values size q.symbols (back σ)

  -- what a satisfying setting is read back as
  record Back (σ : List ℕ) : Type 0 where
    functional : is_functional size q.symbols σ ≡ true
    model : ModelCells p size (front σ)
    whole : extended size p (front σ) ≡ back σ

  read_as : (σ : List ℕ) → Satisfying (in_mode p) size text σ → Back σ
  read_as σ h =
      let a : Bool = is_functional size q.symbols σ in
      let b : Bool = is_model size q.symbols q.clauses (back σ) in
      let e : (a && b) ≡ true = sym (enc.satisfying σ h.setting) ∙ sym (text-satisfied σ) ∙ h.satisfied in
      let m : ModelCells q size (back σ) = record { interpretation = enc.reads_back σ h.setting (and_left a b e); model = and_right a b e } in
      let r = names.restricts (back σ) m in
      record { functional = and_left a b e; model = r.0; whole = r.1 }

  -- the text that is read back shows the sheet's symbols
  shown-text : (ws : List ℕ) → shown_text size q.symbols ws ≡ case_text size g (shown_values size q.symbols ws)
  shown-text ws = ap (λ (g : Signature). case_text size g (shown_values size q.symbols ws)) names.symbols

  read_back-is : (σ : List ℕ) → is_valuation size q.symbols σ ≡ true → is_functional size q.symbols σ ≡ true → named_read_back_text sheet size σ room ≡ answer (case_text size g (front σ))
  unfolding named_read_back_text
  read_back-is σ v f =
      let r = answer (shown_text size q.symbols (back σ)) in
      let fit : leb (case_length size (shown_symbols q.symbols)) room ≡ true = ap (λ (g : Signature). leb (case_length size g) room) names.symbols ∙ leb-of-≤ (case_length size g) room fits in
      bind-step _ _ p r (placed-named sheet p read)
      (bind-step _ _ tt r (check-of-true _ (unplaced 8) sized)
      (bind-step _ _ tt r (check-of-true _ (unplaced 13) v)
      (bind-step _ _ tt r (check-of-true _ (unplaced 14) f)
      (bind-step _ _ tt r (check-of-true _ (needing 11 (case_length size (shown_symbols q.symbols))) fit) refl))))
      ∙ ap answer (shown-text (back σ))

  own : (vs : List ℕ) → is_interpretation size g vs ≡ true → read_case g (case_text size g vs) ≡ answer (record { size = size; values = vs })
  own vs h = read-own-case _ taken.symbols size vs pos le-8 h

  reads-back : (σ : List ℕ) → Satisfying (in_mode p) size text σ → (c : List ℕ) × (named_read_back_text sheet size σ room ≡ answer c) × SheetModel p size c
  reads-back σ h =
      let b : Back σ = read_as σ h in (
        case_text size g (front σ),
        read_back-is σ h.setting b.functional,
        record { case = record { size = size; values = front σ }; read = own (front σ) b.model.interpretation; sized = refl; model = b.model.model },
      )

  -- two of them with the same text are equal
  one-to-one : (σ τ c d : List ℕ) → Satisfying (in_mode p) size text σ → Satisfying (in_mode p) size text τ
      → named_read_back_text sheet size σ room ≡ answer c → named_read_back_text sheet size τ room ≡ answer d → c ≡ d → σ ≡ τ
  one-to-one σ τ c d hσ hτ rσ rτ e =
      let bσ : Back σ = read_as σ hσ in
      let bτ : Back τ = read_as τ hτ in
      let u : List ℕ = front σ in
      let v : List ℕ = front τ in
      let cσ : case_text size g u ≡ c = answer-inj (case_text size g u) c (sym (read_back-is σ hσ.setting bσ.functional) ∙ rσ) in
      let cτ : case_text size g v ≡ d = answer-inj (case_text size g v) d (sym (read_back-is τ hτ.setting bτ.functional) ∙ rτ) in
      let ku : Case = record { size = size; values = u } in
      let kv : Case = record { size = size; values = v } in
      let k : ku ≡ kv =
      answer-inj ku kv (sym (own u bσ.model.interpretation) ∙ ap (read_case g) (cσ ∙ e ∙ sym cτ) ∙ own v bτ.model.interpretation) in
      enc.one_to_one σ τ hσ.setting bσ.functional hτ.setting bτ.functional
      (sym bσ.whole ∙ ap (λ (k : Case). extended size p k.values) k ∙ bτ.whole)

  -- each model is read back from one of them, and from no other
  onto : (c : List ℕ) → SheetModel p size c
      → (σ : List ℕ) × Satisfying (in_mode p) size text σ × (named_read_back_text sheet size σ room ≡ answer c)
      × ((τ : List ℕ) → Satisfying (in_mode p) size text τ → named_read_back_text sheet size τ room ≡ answer c → τ ≡ σ)
  onto c m =
      let vs : List ℕ = m.case.values in
      let only : OnlyText g c m.case = read-exactly g c m.case m.read in
      let i : is_interpretation size g vs ≡ true = ap (λ (s : ℕ). is_interpretation s g vs) (sym m.sized) ∙ only.interpretation in
      let x = names.extends vs (record { interpretation = i; model = m.model }) in
      let r = enc.onto (extended size p vs) x.0.interpretation in
      let σ : List ℕ = r.0 in
      let same : back σ ≡ extended size p vs = r.3 in
      let a : Bool = is_functional size q.symbols σ in
      let b : Bool = is_model size q.symbols q.clauses (back σ) in
      let holds : (a && b) ≡ true = and-join a b r.2 (ap (is_model size q.symbols q.clauses) same ∙ x.0.model) in
      let sat : Satisfying (in_mode p) size text σ = record { setting = r.1; satisfied = text-satisfied σ ∙ enc.satisfying σ r.1 ∙ holds } in
      let values : front σ ≡ vs = ap (shown_values size q.symbols) same ∙ x.1 in
      let as_written : case_text size g vs ≡ c = ap (λ (s : ℕ). case_text s g vs) (sym m.sized) ∙ only.written in
      let rb : named_read_back_text sheet size σ room ≡ answer c = read_back-is σ r.1 r.2 ∙ ap answer (ap (case_text size g) values ∙ as_written) in
      (σ, sat, rb, λ τ hτ rτ. one-to-one τ σ c c hτ sat rτ rb refl)

  read-back-whole : NamedReadingBack sheet p size text room
  read-back-whole =
      record {
        reads_back = reads-back;
        equal = λ σ τ c d hσ hτ rσ rτ. (
          λ e. answer-inj c d (sym rσ ∙ ap (λ (σ : List ℕ). named_read_back_text sheet size σ room) e ∙ rτ),
          λ e. one-to-one σ τ c d hσ hτ rσ rτ e,
        );
        onto = onto;
      }

-- the theorem
pub named-reading-back : NamedReadingBackHolds
named-reading-back sheet p size room₁ room₂ text content written fits =
    let a = content-accepted sheet size p content in
    read-back-whole sheet p size text room₂ a.0 a.1 (written-text sheet size room₁ p text content written) fits

-- models of the sheet are what Judge says yes to
pub judged-models : JudgedModels
judged-models sheet p size c read = (to, from)
  where
    to : SheetModel p size c → ModelText sheet p size c
    to m =
        let g : Signature = p.symbols in
        let only : OnlyText g c m.case = read-exactly g c m.case m.read in
        let vs : List ℕ = m.case.values in
        let i : is_interpretation size g vs ≡ true = ap (λ (s : ℕ). is_interpretation s g vs) (sym m.sized) ∙ only.interpretation in
        subst (ModelText sheet p size) (ap (λ (s : ℕ). case_text s g vs) (sym m.sized) ∙ only.written)
        (model-text sheet p read size vs (subst (λ (s : ℕ). zero < s) m.sized only.positive) (subst (λ (s : ℕ). s ≤ 8) m.sized only.within) i m.model)

    from : ModelText sheet p size c → SheetModel p size c
    from m = let i : IsModelText sheet p read size m.case c = is-model-text sheet p read size c m in record { case = m.case; read = m.read; sized = m.sized; model = i.model }
