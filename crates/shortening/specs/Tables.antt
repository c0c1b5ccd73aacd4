-- Terms by the bytes that they are: the table of those that have names.
use Rattle.std.specs.Prelude.{ℕ, ◌≤◌, ◌<◌, ◌≡◌, true, List, map, length, get_or, take}
use Rattle.std.proofs.Math.Option.{some}
use Rattle.std.specs.Prelude as rust
use Rattle.theory.specs.Lists.{same, place_that}
use Rattle.theory.specs.Syntax.{Signature, Term, variable, Terms, empty, cons, term_ok}
use Rattle.theory.specs.Grammar.{term_words, read_words}
use Rattle.theory.specs.Columns.{or_no_words}
use Rattle.theory.specs.Options.{told}
use Rattle.text.specs.Lines.{part}
use Rattle.syntax.specs.declared.terms.Span.{Span}
use Rattle.syntax.specs.declared.terms.FixedTerms.{FixedTerms}
use Rattle.naming.specs.FixedTerms.{is_nameable}
use Rattle.naming.specs.NamedReading.{max_helpers}
use Rattle.shortening.specs.Spans.{words_between}

-- the bytes of a span
abbrev pub bytes_at : List ℕ → Span → List ℕ
bytes_at sheet s = part sheet s.from s.to

-- what stands past the table
abbrev pub no_span : Span
no_span = record { from = 0; to = 0 }

-- the span stands within the sheet
pub record SpanWithin (sheet : List ℕ) (s : Span) : Type 0 where
  pub from : s.from ≤ s.to
  pub to : s.to ≤ length sheet

-- the spans of a table
abbrev pub spans_of : FixedTerms → List Span
spans_of ts = take ts.count ts.spans

-- the table has room for 32 spans, and those in it stand within the sheet
pub record TableWithin (sheet : List ℕ) (ts : FixedTerms) : Type 0 where
  pub held : length ts.spans ≡ max_helpers
  pub count : ts.count ≤ max_helpers
  pub within : (i : ℕ) → i < ts.count → SpanWithin sheet (get_or ts.spans i no_span)

-- r is the place of the first span with these bytes
abbrev pub PlaceOf : List ℕ → FixedTerms → Span → rust.Option ℕ → Type 0
PlaceOf sheet ts s r = place_that (λ (u : Span). same (bytes_at sheet u) (bytes_at sheet s)) (spans_of ts) ≡ told r

-- the first term, if there is one
abbrev pub first_term : Terms → Term
first_term empty = variable 0
first_term (cons t ts) = t

-- the term that the words of a span are
unfoldable pub term_at : Signature → List ℕ → Span → Term
term_at g sheet s = first_term (read_words g (or_no_words (words_between g sheet s.from s.to))).terms

-- the terms of a table
abbrev pub terms_in : Signature → List ℕ → FixedTerms → List Term
terms_in g sheet ts = map (term_at g sheet) (spans_of ts)

-- the span is a term over the signature that has a name
pub record TermThere (g : Signature) (sheet : List ℕ) (s : Span) : Type 0 where
  pub within : SpanWithin sheet s
  pub words : words_between g sheet s.from s.to ≡ some (term_words (term_at g sheet s))
  pub ok : term_ok g (term_at g sheet s) ≡ true
  pub nameable : is_nameable (term_at g sheet s) ≡ true

-- all spans of the table are
pub record TermsThere (g : Signature) (sheet : List ℕ) (ts : FixedTerms) : Type 0 where
  pub table : TableWithin sheet ts
  pub there : (i : ℕ) → i < ts.count → TermThere g sheet (get_or ts.spans i no_span)
