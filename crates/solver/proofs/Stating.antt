-- A setting is read exactly from the texts that state it, and the claim that there is none exactly from the texts that make it: the theorem Stating.
use Prim.Native.Nat.{ℕ, ◌+◌, ◌≤◌}
use mathlib.Core.Path.{◌≡◌, refl, sym, ap, ◌∙◌, subst}
use mathlib.Core.Bool.{Bool, true, false, cond, not, ◌&&◌}
use mathlib.Core.Option.{Option, none, some, some-injective}
use mathlib.Core.List.{List, [], ◌∷◌, ◌++◌, map}
use native.Mathlib.Omega.{arith}
use lib.Dec.{ltb, leb}
use lib.ListN.{length, length-append}
use Rattle.theory.specs.Lists.{all, concat_map, select, same}
use Rattle.theory.specs.Bytes.{space, decimal}
use Rattle.theory.specs.Propositional.{PropLiteral}
use Rattle.theory.specs.Dimacs.{minus, literal_text}
use Rattle.theory.specs.Program.{◌>>?◌}
use Rattle.theory.proofs.Tests.{eqb-false, ltb-true, ltb-false, ltb-of-<, leb-of-≤, and_left, and_right, and-join}
use Rattle.theory.proofs.Lists.{all_append, all_map, all-every, all-concat_map, same_true}
use Rattle.theory.proofs.SheetWords.{is_not, is_piece}
use Rattle.text.proofs.Decimal.{decimal-length-small, decimal-length-large}
use Rattle.solver.specs.SolverLines.{cut_lines, is_comment, end_word, read_numbers, value_words, Claim, unsatisfiable, satisfiable, satisfiable_line, unsatisfiable_line, is_empty, claim_of, read_claim}
use Rattle.solver.specs.Replies.{each_once, stated_setting, claims_none, states, reply_of, read_reply}
use Rattle.solver.specs.Claims.Stating.{LaidOut, value_line, Reordered, setting_literals, States, ClaimsNone, StatingHolds}
use Rattle.solver.proofs.Options.{none≢some, read-on, was_read, cond-some}
use Rattle.solver.proofs.Decimals.{literal-bytes}
use Rattle.solver.proofs.Lines.{read-lines, only-lines}
use Rattle.solver.proofs.ValueLines.{is_group, read-values, only-values, is_positive, read-numbers, only-numbers}
use Rattle.solver.proofs.Orders.{all-reordered, literals-range, reordered-once, reordered-states, once-reordered, stated-setting}

-- a line that is not ignored
abbrev is_said : List ℕ → Bool
is_said l = not (is_comment l)

-- what a text says is what its lines say that are no comments
laid_out-is : (said : List (List ℕ)) (text : List ℕ) → LaidOut said text → read_claim text ≡ claim_of said
unfolding read_claim
laid_out-is said text l =
    read-on (cut_lines text) (λ ls. claim_of (select is_said ls)) l.lines (ap cut_lines (sym l.ended) ∙ read-lines l.lines l.unbroken) ∙ ap claim_of l.others

-- and a text that says something has lines
only-laid-out : (text : List ℕ) (c : Claim) → read_claim text ≡ some c → (said : List (List ℕ)) × LaidOut said text × (claim_of said ≡ some c)
unfolding read_claim
only-laid-out text c e =
    let a = was_read (cut_lines text) (λ ls. claim_of (select is_said ls)) c e in
    let o = only-lines text a.0 a.1 in
    (select is_said a.0, record { lines = a.0; unbroken = o.1; ended = o.0; others = refl }, a.2)

-- the text of a literal is a word
literal-piece : (l : PropLiteral) → is_piece (literal_text l) ≡ true
unfolding literal_text
literal-piece l =
    and-join (ltb 0 (length (literal_text l))) (all (is_not space) (literal_text l)) (ltb-of-< 0 (length (literal_text l)) (omega (arith, length-append (cond l.positive [] (minus ∷ [])) (decimal l.number), decimal-some l.number)))
    (literal-bytes (is_not space) refl (λ d lt. ap not (eqb-false (48 + d) space (λ e. omega arith))) l)
  where
    decimal-some : (n : ℕ) → 1 ≤ length (decimal n)
    decimal-some n = go (ltb n 10) refl
      where
        go : (q : Bool) → ltb n 10 ≡ q → 1 ≤ length (decimal n)
        go true e = omega (arith, decimal-length-small n (ltb-true n 10 e))
        go false e = omega (arith, decimal-length-large n (ltb-false n 10 e))

-- the words of a model are words
model-words : (ls : List PropLiteral) → all is_piece (map literal_text ls ++ (end_word ∷ [])) ≡ true
model-words ls =
    let words : all is_piece (map literal_text ls) ≡ true = all_map is_piece literal_text ls ∙ all-every (λ l. is_piece (literal_text l)) ls literal-piece in
    all_append is_piece (map literal_text ls) (end_word ∷ []) ∙ and-join (all is_piece (map literal_text ls)) true words refl

-- the claim of an s line and v lines that have the numbers of a model
model-claim : (ls : List PropLiteral) (groups : List (List (List ℕ))) → all is_positive ls ≡ true → all is_group groups ≡ true
    → concat_map (λ ws. ws) groups ≡ map literal_text ls ++ (end_word ∷ []) → claim_of (satisfiable_line ∷ map value_line groups) ≡ some (satisfiable ls)
unfolding claim_of
model-claim ls groups pos n s =
    let words : all (all is_piece) groups ≡ true = sym (all-concat_map is_piece (λ ws. ws) groups) ∙ ap (all is_piece) s ∙ model-words ls in
    let ws : List (List ℕ) = concat_map (λ ws. ws) groups in
    read-on (value_words (map value_line groups)) (λ ws. read_numbers ws >>? λ numbers. some (satisfiable numbers)) ws (read-values groups n words)
    ∙ read-on (read_numbers ws) (λ numbers. some (satisfiable numbers)) ls (ap read_numbers s ∙ read-numbers ls pos)

satisfiable-inj : (ls ms : List PropLiteral) → some (satisfiable ls) ≡ some (satisfiable ms) → ls ≡ ms
satisfiable-inj ls ms e = let z : satisfiable ls ≡ satisfiable ms = some-injective (satisfiable ls) (satisfiable ms) e in cc

different : (ls : List PropLiteral) → some unsatisfiable ≡ some (satisfiable ls) → ⊥
different ls e =
    let z : unsatisfiable ≡ satisfiable ls = some-injective unsatisfiable (satisfiable ls) e in
    let y : ◌≡◌ {A = ℕ} 0 1 = cc in omega arith

-- the lines of a claim that there is a model
only-model : (said : List (List ℕ)) (ls : List PropLiteral) → claim_of said ≡ some (satisfiable ls)
    → (groups : List (List (List ℕ))) × (satisfiable_line ∷ map value_line groups ≡ said) × (all is_group groups ≡ true)
    × (concat_map (λ ws. ws) groups ≡ map literal_text ls ++ (end_word ∷ [])) × (all is_positive ls ≡ true)
unfolding claim_of
only-model [] ls e = absurd (none≢some (satisfiable ls) e)
only-model (l ∷ ks) ls e = go (same l satisfiable_line) refl (same l unsatisfiable_line && is_empty ks) e
  where
    model : Option Claim
    model = value_words ks >>? λ ws. read_numbers ws >>? λ numbers. some (satisfiable numbers)

    go : (q : Bool) → same l satisfiable_line ≡ q → (r : Bool) → cond q model (cond r (some unsatisfiable) none) ≡ some (satisfiable ls)
        → (groups : List (List (List ℕ))) × (satisfiable_line ∷ map value_line groups ≡ l ∷ ks) × (all is_group groups ≡ true)
        × (concat_map (λ ws. ws) groups ≡ map literal_text ls ++ (end_word ∷ [])) × (all is_positive ls ≡ true)
    go true h r e =
        let a = was_read (value_words ks) (λ ws. read_numbers ws >>? λ numbers. some (satisfiable numbers)) (satisfiable ls) e in
        let b = was_read (read_numbers a.0) (λ numbers. some (satisfiable numbers)) (satisfiable ls) a.2 in
        let z : b.0 ≡ ls = satisfiable-inj b.0 ls b.2 in
        let v = only-values ks a.0 a.1 in
        let n = only-numbers a.0 b.0 b.1 in
        let first : satisfiable_line ≡ l = sym (same_true l satisfiable_line h) in
        let lines : map value_line v.0 ≡ ks = v.2 in
        (v.0, cc, v.1, v.3 ∙ sym n.0 ∙ ap (λ (ls : List PropLiteral). map literal_text ls ++ (end_word ∷ [])) z, ap (all is_positive) (sym z) ∙ n.1)
    go false h true e = absurd (different ls e)
    go false h false e = absurd (none≢some (satisfiable ls) e)

-- the lines of a claim that there is none
only_none : (said : List (List ℕ)) → claim_of said ≡ some unsatisfiable → said ≡ unsatisfiable_line ∷ []
unfolding claim_of
only_none [] e = absurd (none≢some unsatisfiable e)
only_none (l ∷ ks) e = go (same l satisfiable_line) refl (same l unsatisfiable_line && is_empty ks) refl e
  where
    model : Option Claim
    model = value_words ks >>? λ ws. read_numbers ws >>? λ numbers. some (satisfiable numbers)

    go : (q : Bool) → same l satisfiable_line ≡ q → (r : Bool) → (same l unsatisfiable_line && is_empty ks) ≡ r → cond q model (cond r (some unsatisfiable) none) ≡ some unsatisfiable
        → l ∷ ks ≡ unsatisfiable_line ∷ []
    go true h r k e =
        let a = was_read (value_words ks) (λ ws. read_numbers ws >>? λ numbers. some (satisfiable numbers)) unsatisfiable e in
        let b = was_read (read_numbers a.0) (λ numbers. some (satisfiable numbers)) unsatisfiable a.2 in
        absurd (different b.0 (sym b.2))
    go false h true k e =
        let first : l ≡ unsatisfiable_line = same_true l unsatisfiable_line (and_left (same l unsatisfiable_line) (is_empty ks) k) in
        let rest : ks ≡ [] = empty ks (and_right (same l unsatisfiable_line) (is_empty ks) k) in
        cc
      where
        empty : (ks : List (List ℕ)) → is_empty ks ≡ true → ks ≡ []
        empty [] e = refl
        empty (k ∷ ks) e = cc
    go false h false k e = absurd (none≢some unsatisfiable e)

module _ (v : ℕ) (text : List ℕ) where
  -- what a text states is read
  stated-read : (σ : List ℕ) → length σ ≡ v → all (λ b. ltb b 2) σ ≡ true → States σ text → read_reply v text ≡ some (states σ)
  unfolding read_reply
  stated-read σ e h s =
      let ls : List PropLiteral = s.literals in
      let pos : all is_positive ls ≡ true =
      sym (all-reordered is_positive (setting_literals 1 σ) ls s.reordered) ∙ literals-range (λ n. leb 1 n) 1 σ (λ m lo hi. leb-of-≤ 1 m lo) in
      read-on (read_claim text) (λ c. reply_of v c) (satisfiable ls)
      (laid_out-is (satisfiable_line ∷ map value_line s.groups) text s.laid_out ∙ model-claim ls s.groups pos s.non_empty s.split)
      ∙ ap (λ (q : Bool). cond q (some (states (stated_setting v ls))) none) (reordered-once v σ ls e s.reordered)
      ∙ ap (λ (σ : List ℕ). some (states σ)) (reordered-states v σ ls e h s.reordered)

  -- what is read: which literals, and that they have each variable once
  read-literals : (σ : List ℕ) → read_reply v text ≡ some (states σ) → (ls : List PropLiteral) × (read_claim text ≡ some (satisfiable ls)) × (each_once v ls ≡ true) × (stated_setting v ls ≡ σ)
  unfolding read_reply
  read-literals σ e = let a = was_read (read_claim text) (λ c. reply_of v c) (states σ) e in go a.0 a.1 a.2
    where
      go : (c : Claim) → read_claim text ≡ some c → reply_of v c ≡ some (states σ)
          → (ls : List PropLiteral) × (read_claim text ≡ some (satisfiable ls)) × (each_once v ls ≡ true) × (stated_setting v ls ≡ σ)
      go unsatisfiable h k =
          let z : claims_none ≡ states σ = some-injective claims_none (states σ) k in
          let y : ◌≡◌ {A = ℕ} 0 1 = cc in absurd (omega arith)
      go (satisfiable ls) h k =
          let c = cond-some (each_once v ls) (some (states (stated_setting v ls))) (states σ) k in
          let z : states (stated_setting v ls) ≡ states σ = some-injective (states (stated_setting v ls)) (states σ) c.1 in
          (ls, h, c.0, cc)

  read-stated : (σ : List ℕ) → read_reply v text ≡ some (states σ) → States σ text
  read-stated σ e =
      let r = read-literals σ e in
      let ls : List PropLiteral = r.0 in
      let l = only-laid-out text (satisfiable ls) r.1 in
      let m = only-model l.0 ls l.2 in
      record {
        literals = ls;
        reordered = subst (λ (σ : List ℕ). Reordered (setting_literals 1 σ) ls) r.3 (once-reordered v ls m.4 r.2);
        groups = m.0;
        non_empty = m.2;
        split = m.3;
        laid_out = subst (λ (said : List (List ℕ)). LaidOut said text) (sym m.1) l.1;
      }

  read-setting : (σ : List ℕ) → read_reply v text ≡ some (states σ) → (length σ ≡ v) × (all (λ b. ltb b 2) σ ≡ true)
  read-setting σ e =
      let r = read-literals σ e in
      let s = stated-setting v r.0 in
      (ap length (sym r.3) ∙ s.0, ap (all (λ b. ltb b 2)) (sym r.3) ∙ s.1)

  claimed-read : ClaimsNone text → read_reply v text ≡ some claims_none
  unfolding read_reply claim_of
  claimed-read l = read-on (read_claim text) (λ c. reply_of v c) unsatisfiable (laid_out-is (unsatisfiable_line ∷ []) text l)

  read-claimed : read_reply v text ≡ some claims_none → ClaimsNone text
  unfolding read_reply
  read-claimed e = let a = was_read (read_claim text) (λ c. reply_of v c) claims_none e in go a.0 a.1 a.2
    where
      go : (c : Claim) → read_claim text ≡ some c → reply_of v c ≡ some claims_none → ClaimsNone text
      go unsatisfiable h k =
          let l = only-laid-out text unsatisfiable h in
          subst (λ (said : List (List ℕ)). LaidOut said text) (only_none l.0 l.2) l.1
      go (satisfiable ls) h k =
          let c = cond-some (each_once v ls) (some (states (stated_setting v ls))) claims_none k in
          let z : states (stated_setting v ls) ≡ claims_none = some-injective (states (stated_setting v ls)) claims_none c.1 in
          let y : ◌≡◌ {A = ℕ} 0 1 = cc in absurd (omega arith)

-- the theorem
pub stating : StatingHolds
stating v text =
    record {
      setting = λ σ e h. (read-stated v text σ, stated-read v text σ e h);
      is_setting = read-setting v text;
      none = (read-claimed v text, claimed-read v text);
    }
