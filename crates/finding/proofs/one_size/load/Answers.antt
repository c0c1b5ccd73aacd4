use mathlib.Core.Path.{sym, subst}
use native.Mathlib.Omega.{arith}
use lib.ListN.{length}
use Rattle.theory.specs.Walk.{yes_first}
use Rattle.syntax.specs.Signatures.{signature_in}
use Rattle.loading.proofs.Ready.{entered-loaded}
use Rattle.stream.specs.Literals.{all_codes}
use Rattle.finding.specs.Searching.{Searchable, sheet_clauses}
use Rattle.finding.proofs.Fitting.{numbered}
use Rattle.finding.proofs.one_size.load.Goals as goal

-- `load` meets its contract.
pub count_clauses-m-requires : goal.count_clauses-m-requires
count_clauses-m-requires c = let s = c in record { searchable = s.requires.searchable; numbering_of = s.requires.by_index s.args.sheet.now }

pub enter_clauses-requires : goal.enter_clauses-requires
enter_clauses-requires c = let s = c in
    let a = s.args in
    let k = c.count_clauses-m in record { searchable = subst (Searchable a.sheet.now a.p a.size.0) (sym k.auto.work) s.requires.searchable; numbering_of = s.requires.by_index a.sheet.now; p_len = k.ensures.number; tallied = k.ensures.tallied }

pub prefer_all-requires : goal.prefer_all-requires
prefer_all-requires c = let s = c in
    let a = s.args in
    let k = c.count_clauses-m in
    let e = c.enter_clauses in record { limited = (s.requires.searchable.accepted.readable.limited, s.requires.searchable.within); by_index = λ text. (s.requires.by_index text).count; regions = record { small = e.ensures.small; room = omega (arith, e.ensures.size) } }

pub returns : goal.returns
returns c = let s = c in
    let a = s.args in
    let k = c.count_clauses-m in
    let e = c.enter_clauses in
    let f = c.prefer_all in
    let cs = sheet_clauses a.size.0 a.sheet.now a.p in record {
      number = k.ensures.number;
      loaded = entered-loaded a.n.count cs (yes_first a.size.0 (signature_in a.sheet.now a.p.signature)) f.new.work
          (numbered a.sheet.now a.p a.size.0 (length a.work.now) a.n.count s.requires.searchable (s.requires.by_index a.sheet.now).count) (f.ensures.clauses (all_codes cs) (all_codes cs) e.ensures) (f.ensures.values a.sheet.now);
    }
