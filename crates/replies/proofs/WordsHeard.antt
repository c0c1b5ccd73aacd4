-- The words of a v line one after the other: what is left gives what the whole line gives.
use Prim.Native.Nat.{ℕ, ◌+◌, ◌≤◌, ◌<◌}
use mathlib.Core.Path.{◌≡◌, refl, sym, ap, ◌∙◌}
use mathlib.Core.Bool.{Bool, cond}
use mathlib.Core.Option.{Option, none, some}
use mathlib.Core.List.{List, []}
use native.Mathlib.Omega.{arith}
use lib.ListN.{length, drop}
use Rattle.theory.specs.Lines.{cut_words}
use Rattle.theory.specs.Walk.{Partial}
use Rattle.theory.specs.Program.{◌>>?◌}
use Rattle.theory.proofs.Tests.{leb-of-≤, leb-of-<}
use Rattle.word_reader.specs.WordsLeft.{words_left, FirstWord}
use Rattle.solver.specs.OnePass.{listing, Heard, hear_words, on_word, on_words}
use Rattle.solver.proofs.Options.{bind-bind}
use Rattle.replies.specs.Hearing.{values_in, heard_in}
use Rattle.replies.specs.declared.stages.Stage.{Stage}
use Rattle.replies.specs.declared.stages.Stage.TheVariants.{Listing}

no_words : (o : Option Heard) → (o >>? on_words []) ≡ o
unfolding ◌>>?◌
no_words none = refl
no_words (some h) = refl

module _ (value : List ℕ) (π : Partial) where
  -- up to a place: how far it is, with which marks; the words left give what all give
  pub record HeardTo (stage : Stage) (marks : List ℕ) (at : ℕ) : Type 0 where
    pub within : at ≤ length value + 1
    pub rest : hear_words listing π (cut_words value) ≡ (heard_in stage marks >>? on_words (words_left value at))

  pub begins : (marks : List ℕ) → values_in marks ≡ π → HeardTo Listing marks 0
  unfolding ◌>>?◌
  begins marks e =
      record {
        within = omega arith;
        rest = ap (λ (π : Partial). hear_words listing π (cut_words value)) (sym e)
            ∙ ap (λ (b : Bool). hear_words listing (values_in marks) (cond b (cut_words value) [])) (sym (leb-of-≤ 0 (length value) (omega arith)));
      }

  pub one_more : (stage : Stage) (marks : List ℕ) (at : ℕ) (word : List ℕ) → HeardTo stage marks at → FirstWord value at word → (r : Stage) (marks' : List ℕ)
      → heard_in r marks' ≡ (heard_in stage marks >>? on_word word) → HeardTo r marks' (at + length word + 1)
  one_more stage marks at word z f r marks' e =
      record {
        within = omega (arith, f.within);
        rest = z.rest
            ∙ ap (λ (ws : List (List ℕ)). heard_in stage marks >>? on_words ws) f.first
            ∙ sym (bind-bind (heard_in stage marks) (on_word word) (on_words (words_left value (at + length word + 1))))
            ∙ ap (λ (o : Option Heard). o >>? on_words (words_left value (at + length word + 1))) (sym e);
      }

  pub ends : (stage : Stage) (marks : List ℕ) (at : ℕ) → HeardTo stage marks at → length value < at → heard_in stage marks ≡ hear_words listing π (cut_words value)
  ends stage marks at z l =
      sym (z.rest ∙ ap (λ (b : Bool). heard_in stage marks >>? on_words (cond b (cut_words (drop at value)) [])) (leb-of-< at (length value) l) ∙ no_words (heard_in stage marks))
