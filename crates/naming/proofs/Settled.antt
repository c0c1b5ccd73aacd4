-- The mark settled is the same with and without helpers: where there are helpers, some function has an argument.
use Prim.Native.Nat.{ℕ, suc}
use mathlib.Core.Path.{◌≡◌, refl, sym, ap, ◌∙◌}
use mathlib.Core.Bool.{Bool, true, false, cond, ◌&&◌, false≢true}
use mathlib.Core.List.{List, [], ◌∷◌, ◌++◌, append-nil}
use native.Mathlib.Omega.{arith}
use lib.Dec.{eqb, leb}
use lib.ListN.{length}
use Rattle.theory.specs.Lists.{all}
use Rattle.theory.specs.Syntax.{Kind, function, is_function, Symbol, Signature, no_symbol, symbol_at, functions, Term, variable, apply, empty, cons, count, function_of, term_ok, terms_ok, clause_ok}
use Rattle.theory.specs.Problem.{Problem}
use Rattle.theory.specs.Least.{settled}
use Rattle.theory.proofs.Tests.{eqb-true, not-true, and_left, and-false}
use Rattle.theory.proofs.Lists.{all_append, all-at, all_map, all-every, all-select, select-append, select-all}
use Rattle.theory.proofs.Declared.{Declared, function_of→}
use Rattle.naming.specs.FixedTerms.{is_nameable, named_terms}
use Rattle.naming.specs.NamedProblem.{helper_constant, helper_symbols, in_mode}
use Rattle.naming.proofs.NamedTerms.{named-nameable, named_ok}
use Rattle.naming.proofs.Helpers.{with_helpers}

-- no function has an argument
abbrev constants_only : Signature → Bool
constants_only g = all (λ (f : Symbol). eqb f.arity 0) (functions g)

-- a nameable term begins with a function that has an argument
has-arguments : (g : Signature) (t : Term) → is_nameable t ≡ true → term_ok g t ≡ true → constants_only g ≡ false
has-arguments g (variable x) h k = absurd (false≢true h)
has-arguments g (apply f empty) h k = absurd (false≢true h)
has-arguments g (apply f (cons u us)) h k = not-true (constants_only g) none_has
  where
    none_has : constants_only g ≡ true → ⊥
    none_has c =
        let d : Declared g f function (suc (count us)) = function_of→ g f (suc (count us)) (and_left (function_of g f (suc (count us))) (terms_ok g (cons u us)) k) in
        let test : Symbol → Bool = λ s. cond (is_function s.kind) (eqb s.arity 0) true in
        let here : test (symbol_at g f) ≡ true =
        all-at test no_symbol g f (sym (all-select (λ (s : Symbol). is_function s.kind) (λ (s : Symbol). eqb s.arity 0) g) ∙ c) d.below in
        let none : eqb (symbol_at g f).arity 0 ≡ true = ap (λ (q : Kind). cond (is_function q) (eqb (symbol_at g f).arity 0) true) (sym d.kind) ∙ here in
        let z : (symbol_at g f).arity ≡ 0 = eqb-true (symbol_at g f).arity 0 none in
        let a : suc (count us) ≡ (symbol_at g f).arity = d.arity in
        omega arith

functions-with : (g : Signature) (ts : List Term) → functions (with_helpers g ts) ≡ functions g ++ helper_symbols ts
functions-with g ts =
    let test : Symbol → Bool = λ f. is_function f.kind in
    select-append test g (helper_symbols ts)
    ∙ ap (λ (l : Signature). functions g ++ l) (select-all test (helper_symbols ts) (all_map test (λ t. helper_constant) ts ∙ all-every (λ t. true) ts (λ t. refl)))

constants_only-with : (g : Signature) (ts : List Term) → constants_only (with_helpers g ts) ≡ (constants_only g && all (λ (f : Symbol). eqb f.arity 0) (helper_symbols ts))
constants_only-with g ts =
    let test : Symbol → Bool = λ f. eqb f.arity 0 in
    ap (all test) (functions-with g ts) ∙ all_append test (functions g) (helper_symbols ts)

-- what settled says of the symbols
abbrev settled_for : Signature → ℕ → ℕ → Bool
settled_for g low high = eqb low 1 && constants_only g && leb (length (functions g)) high

settled-with : (g : Signature) (ts : List Term) (low high : ℕ) → all is_nameable ts ≡ true → all (term_ok g) ts ≡ true → settled_for (with_helpers g ts) low high ≡ settled_for g low high
settled-with g [] low high h k = ap (λ (g : Signature). settled_for g low high) (append-nil g)
settled-with g (t ∷ ts) low high h k =
    let none : constants_only g ≡ false = has-arguments g t (and_left (is_nameable t) (all is_nameable ts) h) (and_left (term_ok g t) (all (term_ok g) ts) k) in
    ap (λ (b : Bool). eqb low 1 && b && leb (length (functions (with_helpers g (t ∷ ts)))) high)
    (constants_only-with g (t ∷ ts) ∙ ap (λ (b : Bool). b && all (λ (f : Symbol). eqb f.arity 0) (helper_symbols (t ∷ ts))) none)
    ∙ ap (λ (b : Bool). b && leb (length (functions (with_helpers g (t ∷ ts)))) high) (and-false (eqb low 1))
    ∙ ap (λ (b : Bool). b && leb (length (functions g)) high) (sym (and-false (eqb low 1)))
    ∙ ap (λ (b : Bool). eqb low 1 && b && leb (length (functions g)) high) (sym none)

pub same-mark : (p : Problem) → all (clause_ok p.symbols) p.clauses ≡ true → (low high : ℕ) → settled (in_mode p) low high ≡ settled p low high
unfolding settled in_mode
same-mark p ok low high =
    settled-with p.symbols (named_terms p.clauses) low high (named-nameable p.clauses) (named_ok p.symbols p.clauses ok)
