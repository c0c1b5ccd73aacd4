-- The next token and what the code makes of it, inside a statement and at its begin.
use Prim.Native.Nat.{ℕ, ◌+◌, ◌≤◌}
use mathlib.Core.Path.{◌≡◌, refl, sym, ap, ◌∙◌, subst}
use mathlib.Core.Bool.{Bool, true, false}
use mathlib.Core.Option.{Option, none, some}
use mathlib.Core.List.{List, [], ◌∷◌}
use native.Mathlib.Omega.{arith}
use lib.Dec.{eqb}
use lib.ListN.{length}
use Rattle.theory.specs.Lists.{same}
use Rattle.theory.specs.Bytes.{bytes}
use Rattle.theory.proofs.Tests.{eqb-true, and_left, and_right}
use Rattle.theory.proofs.Lists.{same_true}
use Rattle.text.proofs.Part.{length_part}
use Rattle.text.specs.Lines.{part}
use Rattle.tptp.specs.Tokens.{lower_word, full_stop, kind_number, TptpToken, is}
use Rattle.tptp.specs.Grammar.{DueToken, Move, statement, opening, is_cnf, due_after_token, may_end}
use Rattle.tptp.specs.Scanning.{same_token_kind}
use Rattle.tokens.specs.Pieces.{kind_in}
use Rattle.tokens.specs.NextTokens.{tokens_at, token_in, NextFound}
use Rattle.std.specs.Prelude.{Some}
use Rattle.tokens.specs.declared.next.Token.{Token}
use Rattle.statements.specs.Dues.{kind_token, open_lists}
use Rattle.statements.specs.Follows.{WholeFrom, ForeignFrom, OneOn, Inside, FollowedTo}
use Rattle.statements.specs.declared.follow.Followed.TheVariants as followed
use Rattle.statements.proofs.Moves.{due-moves}
use Rattle.statements.proofs.Inside.{goes-inside, stops}
use Rattle.statements.proofs.Wholes.{misplaced, whole-ends, whole-on, foreign-on}

module _ (text : List ℕ) (at : ℕ) (d : DueToken) (u : Token) (f : NextFound text at (Some u)) where
  abbrev it : TptpToken
  it = token_in text u

  module _ (m : may_end d ≡ false) where
    -- the kind is all that is looked at
    after-it : (o : Option DueToken) → o ≡ due_after_token d (kind_token (kind_in u.kind) false) → due_after_token d it ≡ o
    after-it o e = sym (due-moves d (kind_in u.kind) (part text u.start u.end) u.start m) ∙ due-moves d (kind_in u.kind) [] 0 m ∙ sym e

    pub step-misplaced : none ≡ due_after_token d (kind_token (kind_in u.kind) false) → ForeignFrom text d at u.start
    step-misplaced e = misplaced text d at u.end it f.listed (after-it none e) (omega (arith, f.within.1.0, f.within.1.1.1))

    pub step-stops : (x : DueToken) → some x ≡ due_after_token d (kind_token (kind_in u.kind) false) → same_token_kind full_stop (kind_in u.kind) ≡ true → WholeFrom text d at u.start u.end
    step-stops x e h =
        whole-ends text d at u.end it f.listed (after-it (some x) e ∙ ap (λ (y : DueToken). some y) (stops d x it h (after-it (some x) e))) h f.within.0 f.within.1.0 f.within.1.1.0 f.within.1.1.1

    pub step-on : (x : DueToken) → open_lists d ≤ at → some x ≡ due_after_token d (kind_token (kind_in u.kind) false) → same_token_kind full_stop (kind_in u.kind) ≡ false → OneOn text d x at u.end
    step-on x l e h =
        let i = goes-inside d x it h m (after-it (some x) e) in
        record {
          token = it;
          listed = f.listed;
          moves = after-it (some x) e;
          goes_on = h;
          inside = i.0;
          lists = omega (arith, i.1, f.within.1.1.0);
          past = f.within.1.1.0;
          within = f.within.1.1.1;
        }

-- what follows place i, where d is due, decides what follows `at`, where a statement's ( is due
pub record Going (text : List ℕ) (at i : ℕ) (d : DueToken) : Type 0 where
  pub within : i ≤ length text
  pub lists : open_lists d ≤ i
  pub inside : may_end d ≡ false
  pub foreigns : (p : ℕ) → ForeignFrom text d i p → ForeignFrom text opening at p
  pub wholes : (stop end : ℕ) → WholeFrom text d i stop end → WholeFrom text opening at stop end

pub going_on : (text : List ℕ) (at i end : ℕ) (d e : DueToken) → OneOn text d e i end → Going text at i d → Going text at end e
going_on text at i end d e o g = record {
  within = o.within;
  lists = o.lists;
  inside = o.inside;
  foreigns = λ p f. g.foreigns p (foreign-on text d i end o.token o.listed e o.moves o.goes_on o.past p f);
  wholes = λ s p w. g.wholes s p (whole-on text d i end o.token o.listed e o.moves o.goes_on o.past s p w);
}

module _ (text : List ℕ) (at : ℕ) (u : Token) (f : NextFound text at (Some u)) where
  abbrev first : TptpToken
  first = token_in text u

  begun : (q : Bool) → is_cnf first ≡ q → due_after_token statement first ≡ (elim q as (λ _. Option DueToken) [ true ↦ some opening | false ↦ none ])
  unfolding due_after_token
  begun q e = ap (λ (q : Bool). elim (elim q as (λ _. Option Move) [ true ↦ some (is_cnf, opening) | false ↦ none ]) as (λ _. Option DueToken) [ some m ↦ some m.1 | none ↦ none ]) e ∙ go q
    where
      go : (q : Bool)
          → ◌≡◌ {A = Option DueToken} (elim (elim q as (λ _. Option Move) [ true ↦ some (is_cnf, opening) | false ↦ none ]) as (λ _. Option DueToken) [ some m ↦ some m.1 | none ↦ none ])
          (elim q as (λ _. Option DueToken) [ true ↦ some opening | false ↦ none ])
      go true = refl
      go false = refl

  -- cnf is no full stop
  no_stop : is_cnf first ≡ true → is full_stop first ≡ false
  no_stop e = ap (eqb 7) (sym (eqb-true 0 (kind_number (kind_in u.kind)) (and_left (is lower_word first) (same (part text u.start u.end) (bytes "cnf")) e)))

  pub follow-other : is_cnf first ≡ false → ForeignFrom text statement at u.start
  follow-other e = misplaced text statement at u.end first f.listed (begun false e) (omega (arith, f.within.1.0, f.within.1.1.1))

  pub follow-foreign : is_cnf first ≡ true → (p : ℕ) → ForeignFrom text opening u.end p → ForeignFrom text statement at p
  follow-foreign e p g = foreign-on text statement at u.end first f.listed opening (begun true e) (no_stop e) f.within.1.1.0 p g

  -- cnf has three bytes
  three : is_cnf first ≡ true → u.end ≡ u.start + 3
  three e =
      let n : length (part text u.start u.end) ≡ 3 = ap length (same_true (part text u.start u.end) (bytes "cnf") (and_right (is lower_word first) (same (part text u.start u.end) (bytes "cnf")) e)) in
      omega (arith, n, length_part text u.start u.end f.within.1.0 f.within.1.1.1, f.within.1.0)

  pub follow-whole : is_cnf first ≡ true → (stop past : ℕ) → WholeFrom text opening u.end stop past → FollowedTo text at (followed.Whole u.start stop past)
  follow-whole e stop past w = record {
    whole = whole-on text statement at u.end first f.listed opening (begun true e) (no_stop e) f.within.1.1.0 stop past w;
    cnf = first;
    listed = f.listed ∙ ap (λ (n : ℕ). first ∷ tokens_at text n) (three e);
    begins = e;
    started = refl;
    rest = subst (Inside text opening) (three e) (record { stands = w.stands; inside = refl; lists = omega arith; within = f.within.1.1.1 });
    from = f.within.0;
    past = omega (arith, f.within.1.0, w.past);
  }
