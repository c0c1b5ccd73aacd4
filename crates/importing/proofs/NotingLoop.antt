-- The occurrences of a statement, noted one after the other.
use Prim.Native.Nat.{ℕ}
use mathlib.Core.Path.{◌≡◌, refl, sym, ap, ◌∙◌, subst}
use mathlib.Core.Bool.{Bool}
use mathlib.Core.List.{List, [], ◌∷◌, ◌++◌, map, append_assoc, append-nil}
use native.Mathlib.Omega.{arith}
use Rattle.std.specs.Prelude.{Some, Ok, Err}
use Rattle.syntax.specs.declared.faults.Fault as syntax
use Rattle.theory.specs.Lists.{concat_map}
use Rattle.theory.specs.Syntax.{Symbol}
use Rattle.theory.proofs.Lists.{concat_map-append}
use Rattle.tptp.specs.Grammar.{DueToken, opening}
use Rattle.tptp.specs.Trees.{Name}
use Rattle.tptp.specs.Symbols.{Occurrence, declares, names}
use Rattle.tptp.specs.Scanning.{arity_ahead, mark, occurs, occurrence_in}
use Rattle.tptp.specs.Claims.Deciding.{first_of_occurrences}
use Rattle.tptp.proofs.Stepping.{marks-occur-not, occur-all}
use Rattle.declaring.specs.declared.symbols.Symbols.{Symbols}
use Rattle.declaring.specs.declared.letters.Letters.{Letters}
use Rattle.declaring.specs.Tables.{TableOf, LimitedTable, SymbolDeclared, symbol_occurrence}
use Rattle.declaring.specs.Letters.{LettersOf, Lettered}
use Rattle.declaring.proofs.Occurring.{symbol-passed, symbol-refused, letters-kept}
use Rattle.statements.specs.Dues.{due_token_in}
use Rattle.statements.specs.Follows.{Inside}
use Rattle.scanning.specs.declared.entries.Entries.{Entries}
use Rattle.scanning.specs.Entries.{marks_in, occurrences_in, entries_in}
use Rattle.scanning.specs.Ahead.{items_at}
use Rattle.scanning.specs.Taking.{name_in, entries_from, TakenFrom}
use Rattle.scanning.specs.declared.taking.Taken.{Taken}
use Rattle.argument_lists.specs.declared.arity.Arity.{Arity}
use Rattle.importing.specs.declared.noting.Noted.{Noted}
use Rattle.importing.specs.Noting.{NamedArity, occurrences_from, declared_of, names_of, OccurrencesTaken, OccurrencesNoted, StatementTaken, StatementRefused}

module _ (text : List ℕ) (t : Symbols) (v : Letters) where
  module _ (start end : ℕ) where
    -- a symbol
    module _ (fn : Bool) (arity : ℕ) where
      pub symbol-noted : (s : Symbols) → Lettered text v → SymbolDeclared text t start (symbol_occurrence text start end fn arity) (Ok s)
          → OccurrencesTaken text t v (symbol_occurrence text start end fn arity ∷ []) (record { table = s; letters = v })
      symbol-noted s k d =
          record {
            clean = λ X U more T L. symbol-passed text start end fn arity t X T U more s d;
            limited = d.taken.limited;
            lettered = k;
            table = d.taken.table;
            letters = λ U L. letters-kept text start end fn arity U v L;
          }

      pub symbol-faulty : (f : syntax.Fault) → SymbolDeclared text t start (symbol_occurrence text start end fn arity) (Err f)
          → OccurrencesNoted text t v (symbol_occurrence text start end fn arity ∷ []) start (Err f)
      symbol-faulty f d X U more T L = symbol-refused text start end fn arity t X T U more f d

-- what occurs among the entries of a token
entry-occurs : (n : Name) (a : ℕ) (e : Entries) → concat_map occurrence_in (entries_in n a e) ≡ occurrences_in n a e.named
entry-occurs n a e =
    concat_map-append occurrence_in (map mark (marks_in e.marks)) (map occurs (occurrences_in n a e.named))
    ∙ ap (λ (l : List Occurrence). l ++ concat_map occurrence_in (map occurs (occurrences_in n a e.named))) (marks-occur-not (marks_in e.marks))
    ∙ occur-all (occurrences_in n a e.named)

module _ (text : List ℕ) (before : Symbols) (at : ℕ) where
  abbrev all-occur : List Occurrence
  all-occur = occurrences_from text opening at

  -- up to place i, where d is due, the table and the variables are these
  pub record Reached (i : ℕ) (d : DueToken) (t : Symbols) (v : Letters) : Type 0 where
    pub rest : Inside text d i
    pub limited : LimitedTable text t
    pub lettered : Lettered text v
    pub done : List Occurrence
    pub whole : all-occur ≡ done ++ occurrences_from text d i
    pub letters : LettersOf text (names_of done) v
    pub table : (X : List Symbol) → TableOf text X before → TableOf text (X ++ declared_of done) t
    pub walk : (X : List Symbol) → TableOf text X before → first_of_occurrences X [] all-occur ≡ first_of_occurrences (X ++ declared_of done) (names_of done) (occurrences_from text d i)

  pub reached-starts : (v : Letters) → Inside text opening at → LimitedTable text before → Lettered text v → LettersOf text [] v → Reached at opening before v
  reached-starts v i h k l =
      record {
        rest = i;
        limited = h;
        lettered = k;
        done = [];
        whole = refl;
        letters = l;
        table = λ X T. subst (λ (Y : List Symbol). TableOf text Y before) (sym (append-nil X)) T;
        walk = λ X T. ap (λ (Y : List Symbol). first_of_occurrences Y [] all-occur) (sym (append-nil X));
      }

  module _ (i : ℕ) (d : DueToken) (t : Symbols) (v : Letters) (q : Reached i d t v) where
    -- the full stop
    pub reached-stop : entries_from text d i ≡ [] → StatementTaken text before all-occur t
    reached-stop e =
        let none_left : occurrences_from text d i ≡ [] = ap (concat_map occurrence_in) e in
        let all : all-occur ≡ q.done = q.whole ∙ ap (λ (l : List Occurrence). q.done ++ l) none_left ∙ append-nil q.done in
        record {
          clean = λ X T. q.walk X T ∙ ap (first_of_occurrences (X ++ declared_of q.done) (names_of q.done)) none_left;
          limited = q.limited;
          table = λ X T. subst (λ (os : List Occurrence). TableOf text (X ++ declared_of os) t) (sym all) (q.table X T);
        }

    -- one token more
    module _ (k : Taken) (taken : TakenFrom text d i (Some k)) (counts : List ℕ) (y : Arity) (m : NamedArity text k.end k.entries.named counts y) where
      abbrev name : Name
      name = name_in text k.start k.end

      abbrev here : List Occurrence
      here = occurrences_in name y.count k.entries.named

      abbrev next : DueToken
      next = due_token_in k.due

      abbrev later : List Occurrence
      later = occurrences_from text next k.end

      parted : occurrences_from text d i ≡ here ++ later
      parted =
          ap (concat_map occurrence_in) taken.adds ∙ concat_map-append occurrence_in (entries_in name (arity_ahead (items_at text k.end)) k.entries) (entries_from text next k.end)
          ∙ ap (λ (l : List Occurrence). l ++ later) (entry-occurs name (arity_ahead (items_at text k.end)) k.entries ∙ sym (m.same name))

      walked : (X : List Symbol) → TableOf text X before → first_of_occurrences X [] all-occur ≡ first_of_occurrences (X ++ declared_of q.done) (names_of q.done) (here ++ later)
      walked X T = q.walk X T ∙ ap (first_of_occurrences (X ++ declared_of q.done) (names_of q.done)) parted

      pub reached-fault : (f : syntax.Fault) → OccurrencesNoted text t v here k.start (Err f) → StatementRefused text before all-occur (record { fault = f; place = k.start })
      reached-fault f n =
          record {
            fault = λ X T. walked X T ∙ n (X ++ declared_of q.done) (names_of q.done) later (q.table X T) q.letters;
            within = omega (arith, taken.long, taken.rest.within);
          }

      pub reached-on : (r : Noted) → OccurrencesTaken text t v here r → Reached k.end next r.table r.letters
      reached-on r n =
          let D : List Symbol = declared_of q.done in
          let N : List (List ℕ) = names_of q.done in
          let both-declared : declared_of (q.done ++ here) ≡ D ++ declared_of here = concat_map-append declares q.done here in
          let both-named : names_of (q.done ++ here) ≡ N ++ names_of here = concat_map-append names q.done here in
          record {
            rest = taken.rest;
            limited = n.limited;
            lettered = n.lettered;
            done = q.done ++ here;
            whole = q.whole ∙ ap (λ (l : List Occurrence). q.done ++ l) parted ∙ sym (append_assoc q.done here later);
            letters = subst (λ (W : List (List ℕ)). LettersOf text W r.letters) (sym both-named) (n.letters N q.letters);
            table = λ X T. subst (λ (Y : List Symbol). TableOf text Y r.table) (append_assoc X D (declared_of here) ∙ ap (λ (Y : List Symbol). X ++ Y) (sym both-declared)) (n.table (X ++ D) (q.table X T));
            walk = λ X T.
                walked X T ∙ n.clean (X ++ D) N later (q.table X T) q.letters
                ∙ ap (λ (Y : List Symbol). first_of_occurrences Y (N ++ names_of here) later) (append_assoc X D (declared_of here) ∙ ap (λ (Y : List Symbol). X ++ Y) (sym both-declared))
                ∙ ap (λ (W : List (List ℕ)). first_of_occurrences (X ++ declared_of (q.done ++ here)) W later) (sym both-named);
          }
