-- A problem as handed in: how many clauses it has, which stands at each place, and what each passes.
use Prim.Native.Nat.{ℕ, ◌<◌}
use mathlib.Core.Path.{◌≡◌, ap, ◌∙◌}
use mathlib.Core.Bool.{Bool, true, false}
use mathlib.Core.List.{List, []}
use lib.ListN.{length, get_or, take, length-map}
use lib.Seq.{length-take-le}
use Rattle.theory.specs.Lists.{all}
use Rattle.theory.specs.Syntax.{Signature, Clause, clause_ok}
use Rattle.syntax.specs.declared.limits.Problem.{Problem}
use Rattle.syntax.specs.Signatures.{signature_in}
use Rattle.naming.specs.NamedReading.{is_within, is_within_named}
use Rattle.problem.specs.Problems.{clause_at, handed_in, ClauseThere, HandedIn}
use Rattle.problem.proofs.ClausePlaces.{clause-at}
use Rattle.problem.proofs.LinesThere.{line-there, plain-within, named-within, clause-of, all-clauses}

module _ (named : Bool) (sheet : List ℕ) (p : Problem) (h : HandedIn named sheet p) where
  abbrev g : Signature
  g = signature_in sheet p.signature

  pub handed-count : length (handed_in sheet p).clauses ≡ p.count
  unfolding handed_in
  handed-count = length-map (take p.count p.clauses) (clause_at sheet g) ∙ length-take-le p.count p.clauses h.held

  pub handed-at : (k : ℕ) (l : k < p.count) → get_or (handed_in sheet p).clauses k [] ≡ (h.clauses k l).clause
  unfolding handed_in
  handed-at k l = clause-of sheet g p.clauses p.count h.held k l ∙ clause-at named sheet g (get_or p.clauses k 0) (h.clauses k l)

  -- a test that every clause there passes
  handed-all : (q : Clause → Bool) → ((at : ℕ) (t : ClauseThere named sheet g at) → q t.clause ≡ true) → all q (handed_in sheet p).clauses ≡ true
  unfolding handed_in
  handed-all q f =
      all-clauses sheet g p.clauses p.count h.held q
      (λ k l. ap q (clause-at named sheet g (get_or p.clauses k 0) (h.clauses k l)) ∙ f (get_or p.clauses k 0) (h.clauses k l))

  pub handed-ok : all (clause_ok g) (handed_in sheet p).clauses ≡ true
  handed-ok = handed-all (clause_ok g) (λ at t. line_ok at t)
    where
      line_ok : (at : ℕ) (t : ClauseThere named sheet g at) → clause_ok g t.clause ≡ true
      line_ok at t = (line-there named sheet g at t).ok

pub plain-limits : (sheet : List ℕ) (p : Problem) → HandedIn false sheet p → all is_within (handed_in sheet p).clauses ≡ true
plain-limits sheet p h = handed-all false sheet p h is_within (plain-within sheet (signature_in sheet p.signature))

pub named-limits : (sheet : List ℕ) (p : Problem) → HandedIn true sheet p → all (is_within_named (length (signature_in sheet p.signature))) (handed_in sheet p).clauses ≡ true
named-limits sheet p h = handed-all true sheet p h (is_within_named (length (signature_in sheet p.signature))) (named-within sheet (signature_in sheet p.signature))
