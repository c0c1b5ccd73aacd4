-- Order: the first fault of whole statements can be told statement by statement, by the symbols that have appeared up to the end of each.
use Rattle.std.specs.Prelude.{ℕ, suc, ◌≡◌, List, [], ◌∷◌, ◌++◌, map}
use Rattle.std.proofs.Math.Option.{Option, none, some}
use Rattle.theory.specs.Lists.{concat_map}
use Rattle.theory.specs.Syntax.{Symbol, Signature, functions, predicates}
use Rattle.theory.specs.Least.{or_else}
use Rattle.tptp.specs.Trees.{NameClause, Statement}
use Rattle.tptp.specs.Symbols.{declares, clause_occurrences, first_of_name, signature_of}
use Rattle.tptp.specs.Tptp.{Fault, statement_faults, faults_from}

-- the first of a list
abbrev pub first_fault : List Fault → Option Fault
first_fault [] = none
first_fault (f ∷ fs) = some f

-- the symbols that a clause's occurrences would declare
abbrev pub declared_by : NameClause → List Symbol
declared_by c = concat_map declares (clause_occurrences c)

-- the signature of symbols in order of first appearance
abbrev pub signature_by : List Symbol → Signature
signature_by xs = functions (first_of_name (λ (f : Symbol). f.name) xs) ++ predicates (first_of_name (λ (f : Symbol). f.name) xs)

-- the first fault of statements, i others and the symbols xs being before them; what comes later is not looked at
abbrev pub first_fault_from : List Symbol → ℕ → List Statement → Option Fault
first_fault_from xs i [] = none
first_fault_from xs i (s ∷ ss) =
    let own = first_fault (statement_faults (signature_by (xs ++ declared_by s.clause)) i s) in
    let later = first_fault_from (xs ++ declared_by s.clause) (suc i) ss in
    or_else own later

-- the theorem
pub record Order : Type 0 where
  pub stream : (ss : List Statement) → first_fault_from [] 0 ss ≡ first_fault (faults_from (signature_of (map (λ (s : Statement). s.clause) ss)) 0 ss)
