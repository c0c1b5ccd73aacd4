-- The result that an answer of the search stands for, and the case in the output.
use Prim.Native.Nat.{ℕ, ◌+◌, ◌≤◌}
use mathlib.Core.Path.{◌≡◌, refl, sym, ap, ◌∙◌, subst}
use mathlib.Core.Bool.{Bool}
use mathlib.Core.List.{List, ◌++◌}
use native.Mathlib.Omega.{arith}
use lib.ListN.{length, take, drop, take-append-drop, length-append, length-drop}
use lib.Seq.{take_at, drop_at, drop-drop, length-take-le}
use Rattle.theory.specs.Refusals.{Answer, answer, refused, at_place}
use Rattle.theory.specs.Bytes.{bytes}
use Rattle.theory.specs.Operations.{Search, found, nothing, over, Found, found_case, no_case}
use Rattle.theory.specs.Program.{refusal_text, printed}
use Rattle.theory.proofs.Answers.{refused-inj, answer≢refused}
use Rattle.syntax.specs.Faults.{number_of}
use Rattle.answers.specs.declared.Refusal as answers
use Rattle.answers.specs.Answers.{refusal_in}
use Rattle.allowance.specs.AllowedFind.{Stoppable, finished, stopped, allowed_answer, allowed_output}
use Rattle.allowance.specs.FinderProgram.{printed_within}
use Rattle.finding.specs.declared.allowed.FindResult.TheVariants as find
use Rattle.finding.specs.Calls.{AllowedAnswer, allowed_in}
use Rattle.printing.specs.Reports.{Responds, Reportable}
use Rattle.std.specs.Prelude.{Ok, Err}

-- a case was found: it stands from place 13 on, and what comes after it is as it was before
pub record WasFound (before output : List ℕ) (result : Answer (Stoppable Search)) (n : ℕ) : Type 0 where
  pub size : ℕ
  pub choices : ℕ
  pub is : result ≡ answer (finished (found size (take n (drop 13 output))) choices)
  pub room : 13 + n ≤ length output
  pub after : drop (13 + n) output ≡ drop (13 + n) before

module _ (output : List ℕ) (a : AllowedAnswer) (r : Reportable a output) where
  -- what the search was lent, and left
  behind : drop 13 output ≡ allowed_output r.result (drop 13 r.before)
  behind = ap (drop 13) r.left ∙ drop_at (take 13 r.before) (allowed_output r.result (drop 13 r.before)) 13 (length-take-le 13 r.before (omega (arith, r.kept)))

  was-found : (s n k : ℕ) → a ≡ Ok (find.Found s n k) → WasFound r.before output r.result n
  was-found s n k e = go r.result refl (sym (ap allowed_in e) ∙ r.answered) behind
    where
      go : (q : Answer (Stoppable Search)) → r.result ≡ q → answer (finished (found_case s n) k) ≡ allowed_answer q → drop 13 output ≡ allowed_output q (drop 13 r.before) → WasFound r.before output r.result n
      go (answer (finished (found t text) m)) p h l =
          let lent : List ℕ = drop 13 r.before in
          let long : n ≡ length text = cc in
          let stands : take n (drop 13 output) ≡ text = ap (take n) l ∙ ap (λ (k : ℕ). take k (over text lent)) long ∙ take_at text (drop (length text) lent) (length text) refl in
          let rest : drop n (drop 13 output) ≡ drop n lent =
          ap (drop n) l ∙ ap (λ (k : ℕ). drop k (over text lent)) long ∙ drop_at text (drop (length text) lent) (length text) refl ∙ ap (λ (k : ℕ). drop k lent) (sym long) in
          record {
            size = t;
            choices = m;
            is = p ∙ ap (λ (x : List ℕ). answer (finished (found t x) m)) (sym stands);
            room = omega (arith, long, ap length l, length-append text (drop (length text) lent), length-drop 13 output, r.long);
            after = sym (drop-drop n 13 output) ∙ rest ∙ drop-drop n 13 r.before;
          }
      go (answer (finished (nothing b) m)) p h l = let z : ◌≡◌ {A = ℕ} 0 1 = cc in absurd (omega arith)
      go (answer (stopped t m)) p h l = let z : ◌≡◌ {A = ℕ} 0 1 = cc in absurd (omega arith)
      go (refused q) p h l = absurd (answer≢refused (finished (found_case s n) k) q h)

  was-none : (b : Bool) (k : ℕ) → a ≡ Ok (find.Nothing b k) → r.result ≡ answer (finished (nothing b) k)
  was-none b k e = go r.result refl (sym (ap allowed_in e) ∙ r.answered)
    where
      go : (q : Answer (Stoppable Search)) → r.result ≡ q → answer (finished (no_case b) k) ≡ allowed_answer q → r.result ≡ answer (finished (nothing b) k)
      go (answer (finished (found t text) m)) p h = let z : ◌≡◌ {A = ℕ} 0 1 = cc in absurd (omega arith)
      go (answer (finished (nothing d) m)) p h =
          let e : d ≡ b = cc in
          let f : m ≡ k = cc in
          p ∙ ap (λ (x : Bool). answer (finished (nothing x) m)) e ∙ ap (λ (m : ℕ). answer (finished (nothing b) m)) f
      go (answer (stopped t m)) p h = let z : ◌≡◌ {A = ℕ} 0 1 = cc in absurd (omega arith)
      go (refused q) p h = absurd (answer≢refused (finished (no_case b) k) q h)

  was-stopped : (s n : ℕ) → a ≡ Ok (find.Stopped s n) → r.result ≡ answer (stopped s n)
  was-stopped s n e = go r.result refl (sym (ap allowed_in e) ∙ r.answered)
    where
      go : (q : Answer (Stoppable Search)) → r.result ≡ q → answer (stopped s n) ≡ allowed_answer q → r.result ≡ answer (stopped s n)
      go (answer (finished (found t text) m)) p h = let z : ◌≡◌ {A = ℕ} 0 1 = cc in absurd (omega arith)
      go (answer (finished (nothing d) m)) p h = let z : ◌≡◌ {A = ℕ} 0 1 = cc in absurd (omega arith)
      go (answer (stopped t m)) p h =
          let e : t ≡ s = cc in
          let f : m ≡ n = cc in
          p ∙ ap (λ (t : ℕ). answer (stopped t m)) e ∙ ap (λ (m : ℕ). answer (stopped s m)) f
      go (refused q) p h = absurd (answer≢refused (stopped s n) q h)

  was-refused : (q : answers.Refusal) → a ≡ Err q → r.result ≡ refused (refusal_in q)
  was-refused q e = go r.result refl (sym (ap allowed_in e) ∙ r.answered)
    where
      go : (m : Answer (Stoppable Search)) → r.result ≡ m → refused (refusal_in q) ≡ allowed_answer m → r.result ≡ refused (refusal_in q)
      go (answer (finished (found t text) m)) p h = absurd (answer≢refused (finished (found_case t (length text)) m) (refusal_in q) (sym h))
      go (answer (finished (nothing d) m)) p h = absurd (answer≢refused (finished (no_case d) m) (refusal_in q) (sym h))
      go (answer (stopped t m)) p h = absurd (answer≢refused (stopped t m) (refusal_in q) (sym h))
      go (refused x) p h = p ∙ ap refused (sym (refused-inj {A = Stoppable Found} (refusal_in q) x h))

  -- what is printed over the output after the search is printed over the output before it
  pub found-responds : (s n m k : ℕ) (output' : List ℕ) → a ≡ Ok (find.Found s n m)
      → Responds (printed (answer (found 0 (take n (drop 13 output))))) k output output' → Responds (printed_within r.result) k r.before output'
  unfolding printed printed_within
  found-responds s n m k output' e h =
      let w = was-found s n m e in
      let case : List ℕ = take n (drop 13 output) in
      let text : List ℕ = bytes "answer=found\n" ++ case in
      let same : printed_within r.result ≡ text = ap printed_within w.is in
      let long : length text ≡ 13 + n = length-append (bytes "answer=found\n") case ∙ omega (arith, length-take-le n (drop 13 output) (omega (arith, length-drop 13 output, w.room))) in
      record {
        counted = h.counted ∙ ap length (sym same);
        within = h.within;
        left =
            h.left
            ∙ ap (λ (j : ℕ). text ++ drop j output) long
            ∙ ap (λ (t : List ℕ). text ++ t) w.after
            ∙ ap (λ (j : ℕ). text ++ drop j r.before) (sym long)
            ∙ ap (λ (t : List ℕ). over t r.before) (sym same);
      }

  -- a search that writes nothing leaves the output as it was
  unwritten : (q : Answer (Stoppable Search)) → r.result ≡ q → allowed_output q (drop 13 r.before) ≡ drop 13 r.before → output ≡ r.before
  unwritten q e f =
      r.left
      ∙ ap (λ (x : Answer (Stoppable Search)). take 13 r.before ++ allowed_output x (drop 13 r.before)) e
      ∙ ap (λ (l : List ℕ). take 13 r.before ++ l) f
      ∙ take-append-drop 13 r.before

  pub none-responds : (b : Bool) (m k : ℕ) (output' : List ℕ) → a ≡ Ok (find.Nothing b m) → Responds (printed (answer (nothing b))) k output output'
      → Responds (printed_within r.result) k r.before output'
  unfolding printed_within
  none-responds b m k output' e h =
      let is = was-none b m e in
      subst (λ (l : List ℕ). Responds (printed_within r.result) k l output') (unwritten (answer (finished (nothing b) m)) is refl)
      (subst (λ (x : Answer (Stoppable Search)). Responds (printed_within x) k output output') (sym is) h)

  pub stopped-responds : (s n k : ℕ) (output' : List ℕ) → a ≡ Ok (find.Stopped s n) → Responds (printed_within (answer (stopped s 0))) k output output'
      → Responds (printed_within r.result) k r.before output'
  unfolding printed_within
  stopped-responds s n k output' e h =
      let is = was-stopped s n e in
      subst (λ (l : List ℕ). Responds (printed_within r.result) k l output') (unwritten (answer (stopped s n)) is refl)
      (subst (λ (x : Answer (Stoppable Search)). Responds (printed_within x) k output output') (sym is) h)

  pub refused-responds : (q : answers.Refusal) (k : ℕ) (output' : List ℕ) → a ≡ Err q → Responds (refusal_text (at_place (number_of q.fault) (record { line = q.line; column = q.column }))) k output output'
      → Responds (printed_within r.result) k r.before output'
  unfolding printed printed_within refusal_text
  refused-responds q k output' e h =
      let is = was-refused q e in
      subst (λ (l : List ℕ). Responds (printed_within r.result) k l output') (unwritten (refused (refusal_in q)) is refl)
      (subst (λ (x : Answer (Stoppable Search)). Responds (printed_within x) k output output') (sym is) h)
