-- ReadingBack: demand 3 on bytes. The settings that satisfy the text that Write leaves are read back, one to one, to the models of the sheet as handed in.
use Prim.Native.Nat.{ℕ, zero, ◌≤◌, ◌<◌}
use mathlib.Core.Path.{◌≡◌, refl, sym, ap, ◌∙◌}
use mathlib.Core.Bool.{Bool, true, ◌&&◌}
use mathlib.Core.List.{List}
use lib.Dec.{leb}
use Rattle.theory.specs.Syntax.{Signature}
use Rattle.theory.specs.Cells.{is_interpretation, is_model}
use Rattle.theory.specs.Propositional.{prop_count}
use Rattle.theory.specs.PropClauses.{prop_clauses}
use Rattle.theory.specs.Dimacs.{dimacs}
use Rattle.theory.specs.Valuation.{satisfies, satisfies_text, is_valuation, is_functional, read_back}
use Rattle.theory.specs.Refusals.{answer, unplaced, needing}
use Rattle.theory.specs.Problem.{Problem, read_problem}
use Rattle.theory.specs.CaseText.{Case, case_text, case_length, read_case}
use Rattle.theory.specs.Operations.{is_size, content_of, written_text, read_back_text}
use Rattle.theory.specs.Claims.Encoding.{Encoding}
use Rattle.theory.specs.Claims.ReadingBack.{Satisfying, ModelText, ReadingBack, ReadingBackHolds}
use Rattle.theory.specs.WellFormed.{WellFormed}
use Rattle.theory.proofs.Tests.{leb-true, leb-of-≤, and_left, and_right, and-join}
use Rattle.theory.proofs.Answers.{unbind, bind-step, answer-inj, check-true, check-of-true}
use Rattle.theory.proofs.PlacedReading.{placed-problem, problem-read}
use Rattle.theory.proofs.Dimacs.{written-clauses}
use Rattle.theory.proofs.Parsing.{read_problem-well_formed, clauses-ok}
use Rattle.theory.proofs.ModelTexts.{read-own, model-text, IsModelText, is-model-text}
use Rattle.theory.proofs.Encoding.{encoding}

-- a sheet and size that are not refused for their content
content-accepted : (sheet : List ℕ) (size : ℕ) (p : Problem) → content_of sheet size ≡ answer p → (read_problem sheet ≡ answer p) × (is_size size ≡ true)
unfolding content_of
content-accepted sheet size p e =
    unbind _ _ p e λ (q : Problem) h₁ e₁.
    unbind _ _ p e₁ λ (u₁ : Unit {0}) h₂ e₂.
    unbind _ _ p e₂ λ (u₂ : Unit {0}) _ e₃.
    (problem-read sheet q h₁ ∙ e₃, check-true (is_size size) (unplaced 8) u₁ h₂)

-- the text that Write leaves is that of the clauses
written-text : (sheet : List ℕ) (size room : ℕ) (p : Problem) (text : List ℕ) → content_of sheet size ≡ answer p → written_text sheet size room ≡ answer text
    → dimacs (prop_count size p.symbols) (prop_clauses size p.symbols p.clauses) ≡ text
unfolding written_text
written-text sheet size room p text c e =
    unbind _ _ text e λ (q : Problem) h₁ e₁.
    unbind _ _ text e₁ λ (u : Unit {0}) _ e₂.
    let same : p ≡ q = answer-inj p q (sym c ∙ h₁) in
    ap (λ (p : Problem). dimacs (prop_count size p.symbols) (prop_clauses size p.symbols p.clauses)) same
    ∙ answer-inj (dimacs (prop_count size q.symbols) (prop_clauses size q.symbols q.clauses)) text e₂

-- the case that Read back leaves, in an output that is large enough
pub case-left : (sheet : List ℕ) (p : Problem) (size : ℕ) → read_problem sheet ≡ answer p → is_size size ≡ true
    → (σ : List ℕ) → is_valuation size p.symbols σ ≡ true → is_functional size p.symbols σ ≡ true
    → (room : ℕ) → case_length size p.symbols ≤ room → read_back_text sheet size σ room ≡ answer (case_text size p.symbols (read_back size p.symbols σ))
unfolding read_back_text
case-left sheet p size read sized σ v f room fits =
    let n : ℕ = case_length size p.symbols in
    let r = answer (case_text size p.symbols (read_back size p.symbols σ)) in
    bind-step _ _ p r (placed-problem sheet p read)
    (bind-step _ _ tt r (check-of-true _ (unplaced 8) sized)
    (bind-step _ _ tt r (check-of-true _ (unplaced 13) v)
    (bind-step _ _ tt r (check-of-true _ (unplaced 14) f)
    (bind-step _ _ tt r (check-of-true _ (needing 11 n) (leb-of-≤ n room fits)) refl))))

module _ (sheet : List ℕ) (p : Problem) (size : ℕ) (text : List ℕ) (room : ℕ)
    (read : read_problem sheet ≡ answer p) (sized : is_size size ≡ true)
    (written : dimacs (prop_count size p.symbols) (prop_clauses size p.symbols p.clauses) ≡ text)
    (fits : case_length size p.symbols ≤ room) where
  abbrev g : Signature
  g = p.symbols

  pos : zero < size
  pos = leb-true 1 size (and_left (leb 1 size) (leb size 8) sized)

  le-8 : size ≤ 8
  le-8 = leb-true size 8 (and_right (leb 1 size) (leb size 8) sized)

  w : WellFormed p
  w = read_problem-well_formed sheet p read

  enc : Encoding size g p.clauses
  enc = encoding size g p.clauses pos (clauses-ok p w)

  -- a setting satisfies the text exactly if it satisfies the clauses
  text-satisfied : (σ : List ℕ) → satisfies_text σ text ≡ satisfies σ (prop_clauses size g p.clauses)
  unfolding satisfies_text
  text-satisfied σ =
      ap (satisfies_text σ) (sym written) ∙ ap (satisfies σ) (written-clauses (prop_count size g) size g p.clauses)

  -- what a satisfying setting is read back as
  record Back (σ : List ℕ) : Type 0 where
    functional : is_functional size g σ ≡ true
    interpretation : is_interpretation size g (read_back size g σ) ≡ true
    model : is_model size g p.clauses (read_back size g σ) ≡ true

  back : (σ : List ℕ) → Satisfying p size text σ → Back σ
  back σ h =
      let a : Bool = is_functional size g σ in
      let b : Bool = is_model size g p.clauses (read_back size g σ) in
      let e : (a && b) ≡ true = sym (enc.satisfying σ h.setting) ∙ sym (text-satisfied σ) ∙ h.satisfied in
      record {
        functional = and_left a b e;
        interpretation = enc.reads_back σ h.setting (and_left a b e);
        model = and_right a b e;
      }

  read_back-is : (σ : List ℕ) → is_valuation size g σ ≡ true → is_functional size g σ ≡ true → read_back_text sheet size σ room ≡ answer (case_text size g (read_back size g σ))
  read_back-is σ v f = case-left sheet p size read sized σ v f room fits

  own : (vs : List ℕ) → is_interpretation size g vs ≡ true → read_case g (case_text size g vs) ≡ answer (record { size = size; values = vs })
  own vs h = read-own sheet p read size vs pos le-8 h

  reads-back : (σ : List ℕ) → Satisfying p size text σ → (c : List ℕ) × (read_back_text sheet size σ room ≡ answer c) × ModelText sheet p size c
  reads-back σ h =
      let b : Back σ = back σ h in
      (case_text size g (read_back size g σ), read_back-is σ h.setting b.functional, model-text sheet p read size (read_back size g σ) pos le-8 b.interpretation b.model)

  -- two of them with the same text are equal
  one-to-one : (σ τ c d : List ℕ) → Satisfying p size text σ → Satisfying p size text τ → read_back_text sheet size σ room ≡ answer c → read_back_text sheet size τ room ≡ answer d → c ≡ d → σ ≡ τ
  one-to-one σ τ c d hσ hτ rσ rτ e =
      let bσ : Back σ = back σ hσ in
      let bτ : Back τ = back τ hτ in
      let u : List ℕ = read_back size g σ in
      let v : List ℕ = read_back size g τ in
      let cσ : case_text size g u ≡ c = answer-inj (case_text size g u) c (sym (read_back-is σ hσ.setting bσ.functional) ∙ rσ) in
      let cτ : case_text size g v ≡ d = answer-inj (case_text size g v) d (sym (read_back-is τ hτ.setting bτ.functional) ∙ rτ) in
      let ku : Case = record { size = size; values = u } in
      let kv : Case = record { size = size; values = v } in
      let k : ku ≡ kv =
      answer-inj ku kv
      (sym (own u bσ.interpretation) ∙ ap (read_case g) (cσ ∙ e ∙ sym cτ) ∙ own v bτ.interpretation) in
      enc.one_to_one σ τ hσ.setting bσ.functional hτ.setting bτ.functional (ap (λ (k : Case). k.values) k)

  -- each model text is read back from one of them, and from no other
  onto : (c : List ℕ) → ModelText sheet p size c
      → (σ : List ℕ) × Satisfying p size text σ × (read_back_text sheet size σ room ≡ answer c) × ((τ : List ℕ) → Satisfying p size text τ → read_back_text sheet size τ room ≡ answer c → τ ≡ σ)
  onto c m =
      let i : IsModelText sheet p read size m.case c = is-model-text sheet p read size c m in
      let r = enc.onto m.case.values i.interpretation in
      let σ : List ℕ = r.0 in
      let same : read_back size g σ ≡ m.case.values = r.3 in
      let holds : (is_functional size g σ && is_model size g p.clauses (read_back size g σ)) ≡ true =
      and-join (is_functional size g σ) (is_model size g p.clauses (read_back size g σ)) r.2 (ap (is_model size g p.clauses) same ∙ i.model) in
      let sat : Satisfying p size text σ = record { setting = r.1; satisfied = text-satisfied σ ∙ enc.satisfying σ r.1 ∙ holds } in
      let rb : read_back_text sheet size σ room ≡ answer c = read_back-is σ r.1 r.2 ∙ ap answer (ap (case_text size g) same ∙ i.written_as) in
      (σ, sat, rb, λ τ hτ rτ. one-to-one τ σ c c hτ sat rτ rb refl)

  read-back-whole : ReadingBack sheet p size text room
  read-back-whole =
      record {
        reads_back = reads-back;
        equal = λ σ τ c d hσ hτ rσ rτ. (
          λ e. answer-inj c d (sym rσ ∙ ap (λ (σ : List ℕ). read_back_text sheet size σ room) e ∙ rτ),
          λ e. one-to-one σ τ c d hσ hτ rσ rτ e,
        );
        onto = onto;
      }

pub reading-back : ReadingBackHolds
reading-back sheet p size room₁ room₂ text content written fits =
    let a = content-accepted sheet size p content in
    read-back-whole sheet p size text room₂ a.0 a.1 (written-text sheet size room₁ p text content written) fits
