-- Clause lines at their places: the clause that stands there, its words, and the limits that it is within.
use Prim.Native.Nat.{ℕ, suc, ◌≤◌, ◌<◌}
use mathlib.Core.Path.{◌≡◌, refl, sym, ap, ◌∙◌}
use mathlib.Core.Bool.{Bool, true, false, cond}
use mathlib.Core.Option.{Option, none, some, some-injective}
use mathlib.Core.List.{List, [], ◌∷◌, map}
use native.Mathlib.Omega.{arith}
use lib.Dec.{ltb}
use lib.ListN.{length, get_or, take, drop}
use lib.Seq.{get_or-take, length-take-le}
use Rattle.theory.specs.Lists.{all}
use Rattle.theory.specs.Syntax.{Signature, Clause}
use Rattle.theory.specs.Grammar.{Word, clause_words, read_clause}
use Rattle.theory.specs.Lines.{Cut, cut_line, words_of}
use Rattle.theory.specs.Refusals.{at_line, check, or_refuse}
use Rattle.theory.specs.Problem.{read_all, within_limits, clause_of}
use Rattle.theory.proofs.Tests.{and-join}
use Rattle.theory.proofs.Lists.{all_map, map_at}
use Rattle.theory.proofs.Answers.{unbind, check-true, answer-inj, or_refuse-some}
use Rattle.theory.proofs.Grammar.{clause-read}
use Rattle.text.specs.Lines.{part, LineEnd}
use Rattle.naming.specs.NamedReading.{is_within, is_within_named, named_clause_of}
use Rattle.shortening.specs.Spans.{words_between}
use Rattle.shortening.specs.ShortLines.{LineClause}
use Rattle.problem.specs.Problems.{line_or, clause_from, clause_at, ClauseThere, LineThere}
use Rattle.problem.proofs.ClausePlaces.{line-clause}
use Rattle.problem.proofs.NamedLines.{words-of}

-- the line ends where it was cut
pub same_line : (sheet : List ℕ) (at end : ℕ) (line : Cut) → cut_line (drop at sheet) ≡ some line → LineEnd sheet at end → line.0 ≡ part sheet at end
same_line sheet at end line cut e = go (ltb end (length sheet)) (sym cut ∙ e.cut)
  where
    go : (b : Bool) → some line ≡ cond b (some (part sheet at end, drop (suc end) sheet)) none → line.0 ≡ part sheet at end
    go true h = ap (λ (p : Cut). p.0) (some-injective line (part sheet at end, drop (suc end) sheet) h)
    go false h = let z : ◌≡◌ {A = ℕ} 0 1 = cc in absurd (omega arith)

-- a clause within the limits is a clause
abbrev pub line-there : (named : Bool) (sheet : List ℕ) (g : Signature) (at : ℕ) → ClauseThere named sheet g at → LineThere sheet g at
line-there named sheet g at t =
    let r = line-clause named g t.line.0 0 t.clause (t.answered 0) in
    let w = words-of g t.line.0 r.0 t.clause r.1.0 r.1.1 in
    record { within = t.within; line = t.line; cut = t.cut; clause = t.clause; words = w.1; ok = w.0 }

module _ (sheet : List ℕ) (g : Signature) (at : ℕ) (t : LineThere sheet g at) where
  pub clause-there : clause_at sheet g at ≡ t.clause
  clause-there =
      ap (λ (o : Option Cut). clause_from g (read_all g (words_of (line_or o)))) t.cut ∙ ap (clause_from g) t.words ∙ clause-read g t.clause t.ok

  -- its words, from its place up to its end
  abbrev pub line_of : (end : ℕ) → LineEnd sheet at end → words_between g sheet at end ≡ read_all g (words_of (part sheet at end)) → LineClause g sheet at end
  line_of end e q =
      record { clause = t.clause; ok = t.ok; words = q ∙ ap (λ (v : List ℕ). read_all g (words_of v)) (sym (same_line sheet at end t.line t.cut e)) ∙ t.words }

-- the limits that it is within
pub plain-within : (sheet : List ℕ) (g : Signature) (at : ℕ) (t : ClauseThere false sheet g at) → is_within t.clause ≡ true
unfolding clause_of
plain-within sheet g at t =
    let v : List ℕ = t.line.0 in
    unbind (or_refuse (read_all g (words_of v)) (at_line 5 0)) _ t.clause (t.answered 0) λ ws h e₁.
    unbind (or_refuse (read_clause g ws) (at_line 6 0)) _ t.clause e₁ λ d h₁ e₂.
    unbind (check (within_limits ws d) (at_line 7 0)) _ t.clause e₂ λ u h₂ e₃.
    let q : d ≡ t.clause = answer-inj d t.clause e₃ in
    let known : read_all g (words_of v) ≡ some ws = or_refuse-some (read_all g (words_of v)) (at_line 5 0) ws h in
    let read : read_clause g ws ≡ some d = or_refuse-some (read_clause g ws) (at_line 6 0) d h₁ in
    let words : ws ≡ clause_words d = some-injective ws (clause_words d) (sym known ∙ (words-of g v ws d known read).1) in
    ap is_within (sym q) ∙ ap (λ (ws : List Word). within_limits ws d) (sym words) ∙ check-true (within_limits ws d) (at_line 7 0) u h₂

pub named-within : (sheet : List ℕ) (g : Signature) (at : ℕ) (t : ClauseThere true sheet g at) → is_within_named (length g) t.clause ≡ true
unfolding named_clause_of
named-within sheet g at t =
    let v : List ℕ = t.line.0 in
    unbind (or_refuse (read_all g (words_of v)) (at_line 5 0)) _ t.clause (t.answered 0) λ ws h e₁.
    unbind (or_refuse (read_clause g ws) (at_line 6 0)) _ t.clause e₁ λ d h₁ e₂.
    unbind (check (is_within_named (length g) d) (at_line 7 0)) _ t.clause e₂ λ u h₂ e₃.
    ap (is_within_named (length g)) (sym (answer-inj d t.clause e₃)) ∙ check-true (is_within_named (length g) d) (at_line 7 0) u h₂

-- The clauses at places.
module _ (sheet : List ℕ) (g : Signature) (places : List ℕ) (n : ℕ) (held : n ≤ length places) where
  abbrev cs : List Clause
  cs = map (clause_at sheet g) (take n places)

  pub clause-of : (k : ℕ) → k < n → get_or cs k [] ≡ clause_at sheet g (get_or places k 0)
  clause-of k l =
      map_at (clause_at sheet g) (take n places) k 0 [] (omega (arith, length-take-le n places held)) ∙ ap (clause_at sheet g) (get_or-take n places k 0 l)

  -- a test that each passes
  pub all-clauses : (q : Clause → Bool) → ((k : ℕ) → k < n → q (clause_at sheet g (get_or places k 0)) ≡ true) → all q cs ≡ true
  all-clauses q h =
      all_map q (clause_at sheet g) (take n places)
      ∙ at_all (λ at. q (clause_at sheet g at)) (take n places)
      (λ k l. let i : k < n = omega (arith, length-take-le n places held) in ap (λ (at : ℕ). q (clause_at sheet g at)) (get_or-take n places k 0 i) ∙ h k i)
    where
      at_all : (q : ℕ → Bool) (xs : List ℕ) → ((i : ℕ) → i < length xs → q (get_or xs i 0) ≡ true) → all q xs ≡ true
      at_all q [] h = refl
      at_all q (x ∷ xs) h = and-join (q x) (all q xs) (h 0 (omega arith)) (at_all q xs (λ i l. h (suc i) (omega arith)))
