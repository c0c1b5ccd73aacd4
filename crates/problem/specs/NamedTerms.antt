-- The terms of clauses that have names, as the code holds them.
use Rattle.std.specs.Prelude.{ℕ, ◌<◌, ◌≡◌, List, length}
use Rattle.theory.specs.Syntax.{Signature, Clause}
use Rattle.naming.specs.FixedTerms.{named_terms}
use Rattle.naming.specs.NamedReading.{max_helpers}
use Rattle.shortening.specs.Tables.{terms_in, TermsThere}
use Rattle.syntax.specs.declared.terms.FixedTerms.{FixedTerms}
use Rattle.std.specs.Prelude.{IfSome, IfNone}
use Rattle.std.specs.Prelude as rust

-- r has the terms of the clauses that are named; or there are more than 32
pub record TermsNamed (g : Signature) (sheet : List ℕ) (cs : List Clause) (r : rust.Option FixedTerms) : Type 0 where
  pub full : IfNone r (max_helpers < length (named_terms cs))
  pub there : IfSome r (TermsThere g sheet)
  pub found : IfSome r (λ ts. terms_in g sheet ts ≡ named_terms cs)
