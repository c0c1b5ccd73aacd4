-- The lines of a text one after the other: what is left gives what the whole text gives.
use Prim.Native.Nat.{ℕ, suc, ◌+◌, ◌-◌, ◌≤◌, ◌<◌}
use mathlib.Core.Path.{◌≡◌, refl, sym, ap, ◌∙◌}
use mathlib.Core.Bool.{Bool, true, false, cond}
use mathlib.Core.Option.{Option, none, some}
use mathlib.Core.List.{List, [], ◌∷◌}
use native.Mathlib.Numerals.{add-one}
use native.Mathlib.Omega.{arith}
use lib.Dec.{eqb}
use lib.ListN.{length, drop, replicate, length-drop, drop_of_length-le}
use lib.Seq.{take_all}
use Rattle.theory.specs.Lists.{same}
use Rattle.theory.specs.Bytes.{bytes}
use Rattle.theory.specs.Lines.{Cut, cut_line, cut_words}
use Rattle.theory.specs.Walk.{Partial}
use Rattle.theory.specs.Program.{◌>>?◌}
use Rattle.theory.proofs.Tests.{eqb-sym, ltb-of-<, ltb-of-≤}
use Rattle.text.specs.Lines.{part, LineEnd, StartsWith}
use Rattle.solver.specs.SolverLines.{is_comment, satisfiable_line, unsatisfiable_line}
use Rattle.solver.specs.Replies.{read_reply}
use Rattle.solver.specs.OnePass.{unanswered, refuted, listing, Heard, heard, hear_words, hear_said, hear_line, hear, on_line, on_said, on_text, on_end}
use Rattle.solver.proofs.Options.{none≢some, bind-nothing, bind-same}
use Rattle.solver.proofs.OnePass.{hear-line, hear-end, one-pass}
use Rattle.replies.specs.Hearing.{values_in, heard_in}
use Rattle.replies.proofs.Marks.{none-set}
use Rattle.replies.specs.declared.stages.Stage as code
use Rattle.replies.specs.declared.stages.Stage.TheVariants.{Unanswered}

-- the line begins with c exactly if what it is told by says so
comment-told : (line : List ℕ) (r : Bool) → StartsWith line (99 ∷ []) r → is_comment line ≡ r
comment-told [] true s = absurd (none≢some [] s.found)
comment-told [] false s = refl
comment-told (b ∷ bs) r s = eqb-sym b 99 ∙ go (eqb 99 b) r s.found
  where
    go : (q r : Bool) → cond q (some bs) none ≡ cond r (some bs) none → q ≡ r
    go true true e = refl
    go true false e = absurd (none≢some bs (sym e))
    go false true e = absurd (none≢some bs e)
    go false false e = refl

module _ (line : List ℕ) (o : Option Heard) (r : Bool) (s : StartsWith line (99 ∷ []) r) where
  -- a comment changes nothing
  pub ignored : r ≡ true → o ≡ (o >>? on_line line)
  unfolding hear_line ◌>>?◌
  ignored h = go o
    where
      told : is_comment line ≡ true
      told = comment-told line r s ∙ h

      go : (o : Option Heard) → o ≡ (o >>? on_line line)
      go none = refl
      go (some k) = sym (ap (λ (q : Bool). cond q (some (heard k.stage k.values)) (on_said line k)) told)

  -- any other line is said
  pub not-ignored : r ≡ false → (o >>? on_said line) ≡ (o >>? on_line line)
  unfolding hear_line
  not-ignored h = bind-same o (on_said line) (on_line line) (λ k _. sym (ap (λ (q : Bool). cond q (some (heard k.stage k.values)) (on_said line k)) (comment-told line r s ∙ h)))

module _ (line : List ℕ) (π : Partial) where
  pub says-model : same line satisfiable_line ≡ true → some (heard listing π) ≡ hear_said unanswered π line
  says-model e = sym (ap (λ (q : Bool). cond q (some (heard listing π)) (cond (same line unsatisfiable_line) (some (heard refuted π)) none)) e)

  pub says_none : same line satisfiable_line ≡ false → same line unsatisfiable_line ≡ true → some (heard refuted π) ≡ hear_said unanswered π line
  says_none e f =
      sym (ap (λ (q : Bool). cond q (some (heard listing π)) (cond (same line unsatisfiable_line) (some (heard refuted π)) none)) e
      ∙ ap (λ (q : Bool). cond q (some (heard refuted π)) none) f)

  pub says_nothing : same line satisfiable_line ≡ false → same line unsatisfiable_line ≡ false → none ≡ hear_said unanswered π line
  says_nothing e f =
      sym (ap (λ (q : Bool). cond q (some (heard listing π)) (cond (same line unsatisfiable_line) (some (heard refuted π)) none)) e
      ∙ ap (λ (q : Bool). cond q (some (heard refuted π)) none) f)

  module _ (r : Bool) (s : StartsWith line (bytes "v ") r) where
    pub no-values : r ≡ false → none ≡ hear_said listing π line
    unfolding ◌>>?◌
    no-values h = sym (ap (λ (o : Option (List ℕ)). o >>? λ v. hear_words listing π (cut_words v)) (s.found ∙ ap (λ (q : Bool). cond q (some (drop 2 line)) none) h))

    pub some-values : r ≡ true → hear_words listing π (cut_words (part line 2 (length line))) ≡ hear_said listing π line
    unfolding ◌>>?◌
    some-values h =
        ap (λ (v : List ℕ). hear_words listing π (cut_words v)) (take_all (length line - 2) (drop 2 line) (omega (arith, length-drop 2 line)))
        ∙ sym (ap (λ (o : Option (List ℕ)). o >>? λ v. hear_words listing π (cut_words v)) (s.found ∙ ap (λ (q : Bool). cond q (some (drop 2 line)) none) h))

-- a line more from what was read so far
step : (o : Option Heard) (text : List ℕ) → (text ≡ [] → ⊥) → (o >>? on_text text) ≡ (cut_line text >>? λ p. (o >>? on_line p.0) >>? on_text p.1)
unfolding ◌>>?◌
step none text n = sym (bind-nothing (cut_line text))
step (some h) text n = hear-line h.stage h.values text n

module _ (text : List ℕ) (π : Partial) where
  -- up to a place: how far it is, with which marks; the text left gives what all gives
  pub record LinesTo (stage : code.Stage) (marks : List ℕ) (at : ℕ) : Type 0 where
    pub within : at ≤ length text
    pub rest : hear unanswered π text ≡ (heard_in stage marks >>? on_text (drop at text))

  pub begins : (marks : List ℕ) → values_in marks ≡ π → LinesTo Unanswered marks 0
  unfolding ◌>>?◌
  begins marks e = record { within = omega arith; rest = ap (λ (π : Partial). hear unanswered π text) (sym e) }

  module _ (stage : code.Stage) (marks : List ℕ) (at end : ℕ) (z : LinesTo stage marks at) (h : at < length text) (l : LineEnd text at end) where
    cut : hear unanswered π text ≡ (cut_line (drop at text) >>? λ p. (heard_in stage marks >>? on_line p.0) >>? on_text p.1)
    cut = z.rest ∙ step (heard_in stage marks) (drop at text) (λ e. omega (arith, length-drop at text, ap length e))

    -- no LF ends the line
    pub unended : end ≡ length text → (none >>? on_end) ≡ hear unanswered π text
    unfolding ◌>>?◌
    unended e =
        sym (cut ∙ ap (λ (o : Option Cut). o >>? λ p. (heard_in stage marks >>? on_line p.0) >>? on_text p.1)
        (l.cut ∙ ap (λ (q : Bool). cond q (some (part text at end, drop (suc end) text)) none) (ltb-of-≤ end (length text) (omega arith))))

    pub one_more : (end ≡ length text → ⊥) → (r : code.Stage) (marks' : List ℕ) → heard_in r marks' ≡ (heard_in stage marks >>? on_line (part text at end)) → LinesTo r marks' (end + 1)
    unfolding ◌>>?◌
    one_more ne r marks' e =
        let lt : end < length text = omega (arith, l.within) in
        record {
          within = omega arith;
          rest = cut
              ∙ ap (λ (o : Option Cut). o >>? λ p. (heard_in stage marks >>? on_line p.0) >>? on_text p.1)
              (l.cut ∙ ap (λ (q : Bool). cond q (some (part text at end, drop (suc end) text)) none) (ltb-of-< end (length text) lt))
              ∙ ap (λ (o : Option Heard). o >>? on_text (drop (suc end) text)) (sym e)
              ∙ ap (λ (n : ℕ). heard_in r marks' >>? on_text (drop n text)) (sym (add-one end));
        }

  pub ends : (stage : code.Stage) (marks : List ℕ) (at : ℕ) → LinesTo stage marks at → length text ≤ at → (heard_in stage marks >>? on_end) ≡ hear unanswered π text
  ends stage marks at z l =
      sym (z.rest ∙ ap (λ (t : List ℕ). heard_in stage marks >>? on_text t) (drop_of_length-le text {i = at} l)
      ∙ bind-same (heard_in stage marks) (on_text []) on_end (λ h _. hear-end h.stage h.values))

-- from the first line on, where no variable is set
pub from-none : (text marks marks' : List ℕ) → marks' ≡ replicate (length marks) 2 → hear unanswered (values_in marks') text ≡ read_reply (length marks) text
from-none text marks marks' e = ap (λ (π : Partial). hear unanswered π text) (ap values_in e ∙ none-set (length marks)) ∙ one-pass (length marks) text
