-- The words of a statement's clause, read token by token.
use Prim.Native.Nat.{ℕ, ◌≤◌, ◌<◌}
use mathlib.Core.Path.{◌≡◌, refl, sym, ap, ◌∙◌, subst}
use mathlib.Core.Bool.{true, ◌&&◌}
use mathlib.Core.List.{List, [], ◌++◌, append_assoc, append-nil}
use native.Mathlib.Omega.{arith}
use lib.ListN.{length, length-append}
use Rattle.std.specs.Prelude.{Some}
use Rattle.theory.specs.Syntax as theory
use Rattle.theory.specs.Grammar.{Word}
use Rattle.theory.proofs.Tests.{and_left, and_right}
use Rattle.syntax.specs.declared.signature.Signature.{Signature}
use Rattle.syntax.specs.Signatures.{signature_in}
use Rattle.clauses.specs.Names.{Readable}
use Rattle.clauses.specs.Clauses.{Passed}
use Rattle.tptp.specs.Grammar.{DueToken, opening}
use Rattle.tptp.specs.Scanning.{Entry, arity_ahead}
use Rattle.statements.specs.Dues.{due_token_in}
use Rattle.statements.specs.Follows.{Inside}
use Rattle.scanning.specs.Ahead.{items_at}
use Rattle.scanning.specs.Entries.{entries_in}
use Rattle.scanning.specs.Taking.{name_in, entries_from, TakenFrom}
use Rattle.scanning.specs.declared.taking.Taken.{Taken}
use Rattle.importing.specs.declared.words.Coding.{Coding}
use Rattle.importing.specs.Entered.{entry_words, entries_fit}
use Rattle.importing.specs.Words.{CodingOf, Ready, Coded, StatementCoded}
use Rattle.importing.proofs.EntryLists.{names_in, fit-both, words-both, words-length}

module _ (text : List ℕ) (s : Signature) (at : ℕ) where
  abbrev g : theory.Signature
  g = signature_in text s

  -- the words of the whole clause
  abbrev all_words : List Word
  all_words = entry_words g [] (entries_from text opening at)

  -- up to place i, where d is due, c was read
  pub record Reached (i : ℕ) (d : DueToken) (c : Coding) : Type 0 where
    pub rest : Inside text d i
    pub variables : List (List ℕ)
    pub words : List Word
    pub coding : CodingOf text s variables words c
    pub fit : entries_fit g variables (entries_from text d i) ≡ true
    pub whole : all_words ≡ words ++ entry_words g variables (entries_from text d i)

  pub reached-starts : (c : Coding) → Inside text opening at → CodingOf text s [] [] c → entries_fit g [] (entries_from text opening at) ≡ true → Reached at opening c
  reached-starts c r k f = record { rest = r; variables = []; words = []; coding = k; fit = f; whole = refl }

  module _ (i : ℕ) (d : DueToken) (c : Coding) (q : Reached i d c) where
    -- more words than a clause may have
    pub reached-long : 64 < c.words.count → StatementCoded g (entries_from text opening at) c.words
    reached-long h =
        let more : List Word = entry_words g q.variables (entries_from text d i) in
        record {
          whole = λ k. absurd (omega arith);
          long = λ _. omega (arith, q.coding.passed.count, ap length q.whole, length-append q.words more, words-length g (entries_from text opening at) []);
        }

    -- the full stop
    pub reached-stop : c.words.count ≤ 64 → entries_from text d i ≡ [] → StatementCoded g (entries_from text opening at) c.words
    reached-stop h e =
        let all : all_words ≡ q.words = q.whole ∙ ap (λ (es : List Entry). q.words ++ entry_words g q.variables es) e ∙ append-nil q.words in
        record { whole = λ _. subst (λ (l : List Word). Passed g l c.words) (sym all) q.coding.passed; long = λ k. absurd (omega arith) }

    -- one token more
    module _ (k : Taken) (t : TakenFrom text d i (Some k)) where
      abbrev here : List Entry
      here = entries_in (name_in text k.start k.end) (arity_ahead (items_at text k.end)) k.entries

      abbrev later : List Entry
      later = entries_from text (due_token_in k.due) k.end

      parted : (entries_fit g q.variables here && entries_fit g (q.variables ++ names_in here) later) ≡ true
      parted = sym (ap (entries_fit g q.variables) t.adds ∙ fit-both g here later q.variables) ∙ q.fit

      fit-here : entries_fit g q.variables here ≡ true
      fit-here = and_left (entries_fit g q.variables here) (entries_fit g (q.variables ++ names_in here) later) parted

      pub reached-ready : Readable text s → c.words.count ≤ 64 → Ready text s c 64 here
      reached-ready r h = record { readable = r; variables = q.variables; words = q.words; coding = q.coding; few = h; fit = fit-here }

      pub reached-on : (r : Coding) → Coded text s c here r → Reached k.end (due_token_in k.due) r
      reached-on r coded =
          record {
            rest = t.rest;
            variables = q.variables ++ names_in here;
            words = q.words ++ entry_words g q.variables here;
            coding = coded q.variables q.words q.coding fit-here;
            fit = and_right (entries_fit g q.variables here) (entries_fit g (q.variables ++ names_in here) later) parted;
            whole =
                q.whole
                ∙ ap (λ (l : List Entry). q.words ++ entry_words g q.variables l) t.adds
                ∙ ap (λ (l : List Word). q.words ++ l) (words-both g here later q.variables)
                ∙ sym (append_assoc q.words (entry_words g q.variables here) (entry_words g (q.variables ++ names_in here) later));
          }
