-- A clause of an accepted problem, flattened: it is within the limits, and its forms give its instances.
use Prim.Native.Nat.{ℕ}
use mathlib.Core.Path.{◌≡◌, refl, sym, ap, ◌∙◌, subst}
use mathlib.Core.List.{List, [], map}
use native.Mathlib.Nat.{zero-add}
use lib.ListN.{take}
use Rattle.theory.specs.Lists.{concat_map, up_to}
use Rattle.theory.specs.Vectors.{vectors}
use Rattle.theory.specs.Syntax.{Signature, Clause}
use Rattle.theory.specs.Flattening.{flatten, variable_count}
use Rattle.theory.specs.Instances.{flat_value, instance, kept, instances}
use Rattle.syntax.specs.declared.limits.Problem.{Problem}
use Rattle.syntax.specs.declared.words.ClauseWords.{ClauseWords}
use Rattle.syntax.specs.Signatures.{signature_in, arities_of}
use Rattle.syntax.specs.Codes.{clause_in}
use Rattle.shallow.specs.Literals.{literal_in}
use Rattle.shallow.specs.Placed.{placed}
use Rattle.flattening.specs.declared.flat.FlatClause.{FlatClause}
use Rattle.flattening.specs.Flat.{flat_in, WithinLimits}
use Rattle.flattening.proofs.PlacedInstances.{instances-flattened}
use Rattle.clauses.proofs.Held.{small-signature_in, arities-held}
use Rattle.problem.specs.Problems.{problem_in, Accepted, WordsOf}
use Rattle.forms.specs.LinearForms.{form_instance, Linear}
use Rattle.instancing.specs.ClauseForms.{FormsOf, all_instances}
use Rattle.instancing.specs.InstancePart.{instances_of}

-- the number of variables as the code holds it
pub variables-flat : (g : Signature) (f : FlatClause) → (flat_in g f).news ≡ f.variables
unfolding flat_in
variables-flat g f = refl

-- the instances of a flattened clause with places for variables
instances-flat : (s : ℕ) (g : Signature) (f : FlatClause) → instances s g (flat_in g f) ≡ concat_map (λ v. kept (instance s g (flat_value [] v) (flat_in g f).literals)) (vectors s f.variables)
unfolding instances flat_in variable_count
instances-flat s g f = ap (λ (n : ℕ). concat_map (λ v. kept (instance s g (flat_value [] v) (map (literal_in g f.literals) (up_to f.count)))) (vectors s n)) (zero-add f.variables)

module _ (sheet : List ℕ) (p : Problem) (h : Accepted sheet p) (arities : List ℕ) (held : take p.signature.count arities ≡ arities_of (take p.signature.count p.signature.symbols))
    (k : ℕ) (w : ClauseWords) (words : WordsOf sheet p k w) where
  abbrev pub signature : Signature
  signature = signature_in sheet p.signature

  abbrev pub words-within : WithinLimits arities w
  words-within =
      record {
        clause =
            record {
              signature = signature;
              table = arities-held p.signature h.readable.limited sheet arities held;
              small = small-signature_in p.signature h.readable.limited sheet;
              clause = words.accepted.clause;
              literals = words.accepted.literals;
            };
        variables = words.accepted.variables;
      }

  module _ (f : FlatClause) (e : flat_in signature f ≡ placed (flatten (clause_in signature w))) (s count : ℕ) (fs : List ℕ) (linear : Linear s signature (flat_in signature f) count fs) where
    abbrev pub words-forms : FormsOf s f.variables count fs
    words-forms =
        record {
          signature = signature;
          literals = (flat_in signature f).literals;
          linear = subst (λ (m : ℕ). (v : List ℕ) → instance s signature (flat_value [] (take m v)) (flat_in signature f).literals ≡ form_instance v count fs) (variables-flat signature f) linear;
        }

    pub words-instances : all_instances words-forms ≡ instances_of s (problem_in sheet p) k
    unfolding instances_of problem_in
    words-instances =
        sym (instances-flat s signature f)
        ∙ ap (instances s signature) e
        ∙ instances-flattened s signature (clause_in signature w)
        ∙ ap (λ (c : Clause). instances s signature (flatten c)) words.clause
