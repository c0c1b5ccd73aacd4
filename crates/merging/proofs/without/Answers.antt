use Prim.Native.Nat.{ℕ, ◌+◌, ◌-◌}
use mathlib.Core.Path.{◌≡◌, refl, ap, ◌∙◌}
use mathlib.Core.List.{List, map}
use native.Mathlib.Numerals.{add-one}
use native.Mathlib.Omega.{arith}
use lib.ListN.{length, get_or, take, length-set}
use borrow.Author.Rules.{rules}
use Rattle.merging.specs.Merged.{renamed_code, deleted_at}
use Rattle.merging.proofs.Deleting.{renamed_to, renamed_step, renamed-all, without_at-first}
use Rattle.merging.proofs.without.Goals as goal

pub loop-i-init : goal.loop-i-init
loop-i-init c = (refl, search rules, refl)

pub bounds-w-i : goal.bounds-w-i
bounds-w-i c = omega (arith, c.loop-i.invariant.0, c.requires.0, c.loop-i-test.true)

pub bounds-w-i-in-loop-i : goal.bounds-w-i-in-loop-i
bounds-w-i-in-loop-i c = omega (arith, c.loop-i.invariant.0, c.requires.0, c.loop-i-test.true)

pub loop-i-preserved : goal.loop-i-preserved
loop-i-preserved c = let l = c.loop-i in
    let s = c in
    let a = s.args in
    let n : length a.w.words ≡ 64 = search rules in
    let f : ℕ → ℕ = renamed_code (get_or a.w.words (a.at + 2) 0) (get_or a.w.words (a.at + 3) 0) in
    let t = c.loop-i-test.true in (
      l.invariant.0,
      simp length-set l.invariant.1,
      rw (add-one, c.renamed.ensures) (renamed_step f a.w.words l.i (omega (arith, t, l.invariant.0, s.requires.0)) l.w.words l.invariant.2),
    )

pub deleted-requires : goal.deleted-requires
deleted-requires c = let s = c in
    (omega (arith, c.loop-i.invariant.0, s.requires.0), omega (arith, c.loop-i.invariant.0, s.requires.1))

pub returns : goal.returns
returns c = let l = c.loop-i in
    let s = c in
    let a = s.args in
    let n : length a.w.words ≡ 64 = search rules in
    let f : ℕ → ℕ = renamed_code (get_or a.w.words (a.at + 2) 0) (get_or a.w.words (a.at + 3) 0) in
    let e : l.i ≡ a.w.count = omega (arith, l.invariant.0) in
    let all : take l.w.count l.w.words ≡ map f (take a.w.count a.w.words) =
    ap (λ (j : ℕ). take j l.w.words) l.invariant.0
    ∙ ap (take a.w.count) (l.invariant.2 ∙ ap (renamed_to f a.w.words) e)
    ∙ renamed-all f a.w.words a.w.count (omega (arith, s.requires.0)) in record { count = c.deleted.ensures.count ∙ ap (λ (j : ℕ). j - 4) l.invariant.0; words = c.deleted.ensures.words ∙ ap (λ (ns : List ℕ). deleted_at ns a.at) all ∙ without_at-first a.w.words a.w.count a.at s.requires.1 }
