-- A reason byte by byte says that reason; and an answer that is refused has none.
use Prim.Native.Nat.{ℕ, suc, ◌+◌, ◌-◌}
use mathlib.Core.Path.{◌≡◌, refl, ap, ◌∙◌}
use mathlib.Core.Option.{Option}
use mathlib.Core.List.{List, [], ◌∷◌, map}
use native.Mathlib.Omega.{arith}
use lib.ListN.{length, take, drop, replicate, length-map}
use lib.Seq.{take_at}
use Rattle.theory.specs.Refusals.{Answer, refused}
use Rattle.theory.specs.Operations.{Reason}
use Rattle.answers.specs.declared.Refusal.{Refusal}
use Rattle.std.specs.Prelude.{Err}
use Rattle.answers.specs.Answers.{refusal_in, reason_in, eight, reason_bytes}
use Rattle.answers.specs.Calls.{ReasoningCall}

-- what was put into bytes is taken out of them
module _ (up down : ℕ → ℕ) (back : (x : ℕ) → down (up x) ≡ x) where
  each_back : (xs : List ℕ) → map down (map up xs) ≡ xs
  each_back [] = refl
  each_back (x ∷ xs) = let p : down (up x) ≡ x = back x in let q : map down (map up xs) ≡ xs = each_back xs in cc

  bytes_back : (xs : List ℕ) (n : ℕ) → length xs ≡ n → map down (take n (eight (map up xs))) ≡ xs
  bytes_back xs n e = ap (map down) (take_at (map up xs) (drop (length (map up xs)) (replicate 8 0)) n (length-map xs up ∙ e)) ∙ each_back xs

pub reason-said : (q : Reason) → length q.values ≡ length q.letters → reason_in (reason_bytes q) ≡ q
reason-said q e =
    let p : map (λ b. b - 65) (take (length q.letters) (eight (map (λ x. 65 + x) q.letters))) ≡ q.letters = bytes_back (λ x. 65 + x) (λ b. b - 65) (λ x. omega arith) q.letters (length q.letters) refl in
    let r : map (λ b. b - 1) (take (length q.letters) (eight (map suc q.values))) ≡ q.values = bytes_back suc (λ b. b - 1) (λ x. omega arith) q.values (length q.letters) e in
    ap (λ (xs : List ℕ). record { clause = q.clause; letters = xs; values = map (λ b. b - 1) (take (length q.letters) (eight (map suc q.values))) }) p
    ∙ ap (λ (vs : List ℕ). record { clause = q.clause; letters = q.letters; values = vs }) r

pub refuses-reason : (a : Answer (Option Reason)) (r : Refusal) → a ≡ refused (refusal_in r) → ReasoningCall a (Err r)
refuses-reason a r e = rw e (record { answer = refl; beside = refl })
