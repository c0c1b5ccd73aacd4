use mathlib.Core.List.{map}
use Rattle.tptp.specs.Scanning.{occurs}
use Rattle.scanning.specs.Entries.{marks_in, occurrences_in}
use Rattle.scanning.specs.Taking.{name_in}
use Rattle.importing.proofs.Coding.{marked-coded}
use Rattle.importing.proofs.words.with_entries.Goals as goal

-- `with_entries` takes the marks, then what is named.
pub returns : goal.returns
returns c = let a = c.args in λ n. marked-coded a.text.now a.signature a.c (marks_in a.entries.marks) (map occurs (occurrences_in (name_in a.text.now a.start a.end) n a.entries.named)) _ c.with_marks.ensures _ (c.with_named.ensures n)
