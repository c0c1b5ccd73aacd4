-- A statement token by token: what one more token does to the file, and what one whole statement does.
use Prim.Native.Nat.{ℕ, ◌-◌, ◌≤◌, ◌<◌}
use mathlib.Core.Path.{◌≡◌, refl, sym, ap, ◌∙◌}
use mathlib.Core.Bool.{Bool, true, false}
use mathlib.Core.Option.{Option, none, some}
use mathlib.Core.List.{List, [], ◌∷◌, ◌++◌, append_assoc}
use native.Mathlib.Omega.{arith}
use lib.ListN.{length, get_or, length-append}
use lib.Seq.{get_or_at}
use Rattle.tptp.specs.Tokens.{full_stop, TptpToken, is, tokens}
use Rattle.tptp.specs.Grammar.{DueToken, statement, due_after_token}
use Rattle.tptp.specs.Trees.{no_token, statement_of}
use Rattle.tptp.specs.Tptp.{File, foreign_at, with_statement, file_from, read_file}
use Rattle.tptp.specs.Claims.Places.{due_after_tokens}
use Rattle.tptp.proofs.Places.{going}
use Rattle.tokens.specs.NextTokens.{tokens_at}
use Rattle.statements.specs.Follows.{up_to_stop, own_tokens, file_due, file_at, WholeFrom, ForeignFrom, WholeAt}

-- the file is that from the first place on
pub file-begins : (text : List ℕ) → read_file text ≡ file_at text 0
unfolding read_file tokens
file-begins text = refl

module _ (text : List ℕ) (d : DueToken) (at end : ℕ) (t : TptpToken) (l : tokens_at text at ≡ t ∷ tokens_at text end) where
  abbrev n : ℕ
  n = length text

  -- the file by what the token leaves due
  first_goes : (before : List TptpToken) (o : Option DueToken) → due_after_token d t ≡ o → file_due text at before d ≡ going n t (tokens_at text end) before o
  first_goes before o e = ap (λ (ts : List TptpToken). file_from n ts before d) l ∙ ap (going n t (tokens_at text end) before) e

  abbrev onward : List TptpToken → DueToken → Bool → File
  onward before e q = elim q as (λ _. File) [ true ↦ with_statement (statement_of (before ++ (t ∷ []))) (file_due text end [] e) | false ↦ file_due text end (before ++ (t ∷ [])) e ]

  own_first : (q : Bool) → is full_stop t ≡ q → own_tokens text at ≡ t ∷ (elim q as (λ _. List TptpToken) [ true ↦ [] | false ↦ own_tokens text end ])
  own_first q e = ap up_to_stop l ∙ ap (λ (q : Bool). t ∷ (elim q as (λ _. List TptpToken) [ true ↦ [] | false ↦ own_tokens text end ])) e

  -- a token that cannot stand there is a 15
  pub misplaced : due_after_token d t ≡ none → t.place ≤ length text → ForeignFrom text d at t.place
  misplaced e h = record { file = λ before. first_goes before none e; within = h }

  -- a full stop that may stand ends the statement
  pub whole-ends : due_after_token d t ≡ some statement → is full_stop t ≡ true → at ≤ t.place → t.place ≤ end → at < end → end ≤ length text → WholeFrom text d at t.place end
  whole-ends e h a b p w = record {
    parted = l ∙ ap (λ (ts : List TptpToken). ts ++ tokens_at text end) (sym own);
    stands = ap (due_after_tokens d) own ∙ ap (λ (o : Option DueToken). elim o as (λ _. Option DueToken) [ some e ↦ some e | none ↦ none ]) e;
    file = λ before. first_goes before (some statement) e ∙ ap (onward before statement) h ∙ ap (λ (ts : List TptpToken). with_statement (statement_of (before ++ ts)) (file_at text end)) (sym own);
    front = [];
    final = t;
    ended = own;
    placed = refl;
    from = a;
    past = p;
    later = b;
    within = w;
  }
    where
      own : own_tokens text at ≡ t ∷ []
      own = own_first true h

  module _ (e : DueToken) (m : due_after_token d t ≡ some e) (g : is full_stop t ≡ false) (p : at < end) where
    own_on : own_tokens text at ≡ t ∷ own_tokens text end
    own_on = own_first false g

    on : (before : List TptpToken) → file_due text at before d ≡ file_due text end (before ++ (t ∷ [])) e
    on before = first_goes before (some e) m ∙ ap (onward before e) g

    -- what follows one token more
    pub foreign-on : (q : ℕ) → ForeignFrom text e end q → ForeignFrom text d at q
    foreign-on q f = record { file = λ before. on before ∙ f.file (before ++ (t ∷ [])); within = f.within }

    pub whole-on : (stop past : ℕ) → WholeFrom text e end stop past → WholeFrom text d at stop past
    whole-on stop past w = record {
      parted = l ∙ ap (λ (ts : List TptpToken). t ∷ ts) w.parted ∙ ap (λ (ts : List TptpToken). ts ++ tokens_at text past) (sym own_on);
      stands = ap (due_after_tokens d) own_on ∙ ap (λ (o : Option DueToken). elim o as (λ _. Option DueToken) [ some e ↦ due_after_tokens e (own_tokens text end) | none ↦ none ]) m ∙ w.stands;
      file = λ before.
          on before ∙ w.file (before ++ (t ∷ []))
          ∙ ap (λ (ts : List TptpToken). with_statement (statement_of ts) (file_at text past)) (append_assoc before (t ∷ []) (own_tokens text end) ∙ ap (λ (ts : List TptpToken). before ++ ts) (sym own_on));
      front = t ∷ w.front;
      final = w.final;
      ended = own_on ∙ ap (λ (ts : List TptpToken). t ∷ ts) w.ended;
      placed = w.placed;
      from = omega (arith, w.from);
      past = omega (arith, w.past);
      later = w.later;
      within = w.within;
    }

-- For callers: the file from a place on, by the statement that is followed from there on.

-- one whole statement in front of the file from its end on
pub file-whole : (text : List ℕ) (at stop end : ℕ) → WholeFrom text statement at stop end → file_at text at ≡ with_statement (statement_of (own_tokens text at)) (file_at text end)
file-whole text at stop end w = w.file []

-- no statement and no 15 where no tokens are left
pub file-ends : (text : List ℕ) (at : ℕ) → tokens_at text at ≡ [] → file_at text at ≡ foreign_at none
file-ends text at e = ap (λ (ts : List TptpToken). file_from (length text) ts [] statement) e

-- a 15 in the statement
pub file-foreign : (text : List ℕ) (at p : ℕ) → ForeignFrom text statement at p → file_at text at ≡ foreign_at (some p)
file-foreign text at p f = f.file []

-- where a whole statement's full stop is
pub statement-stop : (text : List ℕ) (at stop end : ℕ) → WholeFrom text statement at stop end → (statement_of (own_tokens text at)).stop ≡ stop
unfolding statement_of
statement-stop text at stop end w = last (own_tokens text at) w.ended ∙ w.placed
  where
    last : (ts : List TptpToken) → ts ≡ w.front ++ (w.final ∷ []) → (get_or ts (length ts - 1) no_token).place ≡ w.final.place
    last ts e =
        let m : length w.front ≡ length ts - 1 = omega (arith, ap length e, length-append w.front (w.final ∷ [])) in
        ap (λ (us : List TptpToken). (get_or us (length ts - 1) no_token).place) e ∙ ap (λ (x : TptpToken). x.place) (get_or_at w.front w.final [] no_token (length ts - 1) m)

-- where it begins
pub statement-start : (text : List ℕ) (at start stop end : ℕ) → WholeAt text at start stop end → (statement_of (own_tokens text at)).start ≡ start
unfolding statement_of
statement-start text at start stop end w = ap (λ (ts : List TptpToken). (get_or (up_to_stop ts) 0 no_token).place) w.listed ∙ w.started
