-- `symbols_again` reads both sections.
use mathlib.Core.Path.{◌≡◌}
use mathlib.Core.List.{[]}
use lib.ListN.{drop}
use Rattle.theory.specs.Bytes.{bytes}
use Rattle.theory.specs.Syntax.{function}
use Rattle.syntax.specs.Signatures.{signature_in}
use Rattle.problem.specs.Sections.{section_from, SectionRead}
use Rattle.problem.proofs.SectionLines.{signature_in-none}
use Rattle.columns.proofs.SymbolsAgain.{functions-kept, symbols-kept, symbols-found}
use Rattle.columns.proofs.sheet.symbols_again.Goals as goal

pub unreachable-requires : goal.unreachable-requires
unreachable-requires c = let a = c.args in
    let none : signature_in a.sheet.now c.empty.result ≡ [] = signature_in-none a.sheet.now c.empty.result c.empty.ensures in
    let s : SectionRead a.sheet.now _ _ (section_from (bytes "funs=") (bytes "fun=") function [] 2 (drop c.line_start-at.result a.sheet.now)) _ = rw none at c.read_section.ensures in
    functions-kept a.sheet.now c.line_start-at.result _ _ c.requires c.line_start-at.ensures _ s c.in_default.not-Ok

pub unreachable-requires-in_default-read_section : goal.unreachable-requires-in_default-read_section
unreachable-requires-in_default-read_section c = let a = c.args in
    let none : signature_in a.sheet.now c.empty.result ≡ [] = signature_in-none a.sheet.now c.empty.result c.empty.ensures in
    let s : SectionRead a.sheet.now _ _ (section_from (bytes "funs=") (bytes "fun=") function [] 2 (drop c.line_start-at.result a.sheet.now)) _ = rw none at c.in-Ok.ensures in
    symbols-kept a.sheet.now c.line_start-at.result _ _ c.requires c.line_start-at.ensures _ _ _ s _ c.read_section-2.ensures c.in_default-read_section.not-Ok

pub returns : goal.returns
returns c = let a = c.args in
    let none : signature_in a.sheet.now c.empty.result ≡ [] = signature_in-none a.sheet.now c.empty.result c.empty.ensures in
    let s : SectionRead a.sheet.now _ _ (section_from (bytes "funs=") (bytes "fun=") function [] 2 (drop c.line_start-at.result a.sheet.now)) _ = rw none at c.in-Ok.ensures in
    symbols-found a.sheet.now c.line_start-at.result _ _ c.requires c.line_start-at.ensures _ _ _ s _ c.in-Ok-read_section.ensures
