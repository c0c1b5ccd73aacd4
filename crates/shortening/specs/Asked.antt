-- What the functions over a line are lent: the symbols that a sheet declares, a line that is a clause, a table of terms.
use Rattle.std.specs.Prelude.{ℕ, ◌≤◌, ◌<◌, List, length}
use Rattle.syntax.specs.declared.signature.Signature.{Signature}
use Rattle.syntax.specs.declared.terms.Span.{Span}
use Rattle.syntax.specs.declared.terms.FixedTerms.{FixedTerms}
use Rattle.syntax.specs.Signatures.{max_declared, signature_in}
use Rattle.clauses.specs.Names.{Limited, Readable}
use Rattle.naming.specs.NamedReading.{max_helpers}
use Rattle.shortening.specs.FixedEnds.{TermHere}
use Rattle.shortening.specs.Left.{LeftHere}
use Rattle.shortening.specs.Tables.{TermThere, TermsThere}
use Rattle.shortening.specs.ShortLines.{LineClause, RoomFor}
use Rattle.shortening.specs.HelperWords.{HelpersBehind}

-- the symbols are as a sheet declares them: no helpers are among them
pub record Declared (sheet : List ℕ) (s : Signature) : Type 0 where
  pub readable : Readable sheet s
  pub few : s.count ≤ max_declared

-- a term starts at a place of a line
pub record TermAsked (sheet : List ℕ) (s : Signature) (at to : ℕ) : Type 0 where
  pub readable : Readable sheet s
  pub within : to ≤ length sheet
  pub here : TermHere (signature_in sheet s) sheet at to

-- a word of a clause starts at a place of a line
pub record WordAsked (sheet : List ℕ) (s : Signature) (terms : FixedTerms) (at to : ℕ) : Type 0 where
  pub declared : Declared sheet s
  pub from : at < to
  pub within : to ≤ length sheet
  pub there : TermsThere (signature_in sheet s) sheet terms
  pub here : LeftHere (signature_in sheet s) sheet at to

-- a line is a clause
pub record LineAsked (sheet : List ℕ) (s : Signature) (from to : ℕ) : Type 0 where
  pub declared : Declared sheet s
  pub within : to ≤ length sheet
  pub line : LineClause (signature_in sheet s) sheet from to

-- and its terms may have names behind the declared symbols: all has a constant for each
pub record ShortAsked (sheet : List ℕ) (s all : Signature) (from to : ℕ) (terms : FixedTerms) : Type 0 where
  pub line : LineAsked sheet s from to
  pub limited : Limited all
  pub there : TermsThere (signature_in sheet s) sheet terms
  pub room : RoomFor (signature_in sheet s) sheet from to terms all.count

-- a term that has the constant at a place as its name
pub record HelperAsked (sheet : List ℕ) (s all : Signature) (place : ℕ) (term : Span) : Type 0 where
  pub readable : Readable sheet s
  pub limited : Limited all
  pub fewer : s.count ≤ all.count
  pub below : place < all.count
  pub there : TermThere (signature_in sheet s) sheet term

-- terms, and a helper for each behind the declared symbols
pub record HelpersAsked (sheet : List ℕ) (s all : Signature) (terms : FixedTerms) : Type 0 where
  pub declared : Declared sheet s
  pub behind : HelpersBehind s max_helpers all
  pub there : TermsThere (signature_in sheet s) sheet terms
