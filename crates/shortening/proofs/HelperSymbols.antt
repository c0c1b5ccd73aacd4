-- A signature with helpers behind its symbols: one helper more, what it stands for, and that it is within the limits.
use Prim.Native.Nat.{ℕ, zero, suc, ◌+◌, ◌-◌, ◌≤◌}
use mathlib.Core.Path.{◌≡◌, refl, sym, ap, ◌∙◌}
use mathlib.Core.Bool.{Bool, true}
use mathlib.Core.List.{List, [], ◌∷◌, ◌++◌, map, map-append, append_assoc, append-nil}
use native.Mathlib.Omega.{arith}
use lib.Dec.{eqb, leb}
use lib.ListN.{length, take, drop, replicate, length-append, length-take, length-replicate, replicate-append-replicate}
use lib.Seq.{length-take-le, drop-append-add}
use Rattle.theory.specs.Lists.{all}
use Rattle.theory.specs.Syntax as theory
use Rattle.theory.specs.Problem.{max_arity}
use Rattle.theory.proofs.Tests.{leb-of-≤, and-join}
use Rattle.theory.proofs.Lists.{all_append, all_drop}
use Rattle.syntax.specs.declared.signature.Symbol.{Symbol}
use Rattle.syntax.specs.declared.signature.Signature.{Signature}
use Rattle.syntax.specs.Signatures.{max_declared, max_in_all, symbol_in, signature_in}
use Rattle.clauses.specs.Names.{Limited, Readable}
use Rattle.naming.specs.NamedProblem.{helper_constant}
use Rattle.shortening.specs.HelperWords.{helper_symbol, HelpersBehind}

pub none-behind : (s : Signature) → HelpersBehind s 0 s
none-behind s = record { count = omega arith; symbols = sym (append-nil (take s.count s.symbols)) }

pub one-behind : (s a r : Signature) (i : ℕ) (h : Symbol) → HelpersBehind s i a → h ≡ helper_symbol → r.count ≡ a.count + 1 → take r.count r.symbols ≡ take a.count a.symbols ++ (h ∷ []) → HelpersBehind s (i + 1) r
one-behind s a r i h z e count symbols =
    record {
      count = omega (arith, count, z.count);
      symbols = symbols
          ∙ ap (λ (l : List Symbol). l ++ (h ∷ [])) z.symbols
          ∙ append_assoc (take s.count s.symbols) (replicate i helper_symbol) (h ∷ [])
          ∙ ap (λ (y : Symbol). take s.count s.symbols ++ (replicate i helper_symbol ++ (y ∷ []))) e
          ∙ ap (λ (l : List Symbol). take s.count s.symbols ++ l) (replicate-append-replicate i 1 helper_symbol);
    }

-- what all helpers pass
all-helpers : (p : Symbol → Bool) → p helper_symbol ≡ true → (n : ℕ) → all p (replicate n helper_symbol) ≡ true
all-helpers p h zero = refl
all-helpers p h (suc n) = and-join (p helper_symbol) (all p (replicate n helper_symbol)) h (all-helpers p h n)

map-replicate : (f : Symbol → theory.Symbol) (n : ℕ) (y : Symbol) → map f (replicate n y) ≡ replicate n (f y)
map-replicate f zero y = refl
map-replicate f (suc n) y = ap (λ (l : List theory.Symbol). f y ∷ l) (map-replicate f n y)

module _ (s : Signature) (n : ℕ) (r : Signature) (h : HelpersBehind s n r) where
  -- the signature that it stands for
  pub signature-behind : (sheet : List ℕ) → signature_in sheet r ≡ signature_in sheet s ++ replicate n helper_constant
  unfolding signature_in
  signature-behind sheet =
      ap (map (symbol_in sheet)) h.symbols
      ∙ map-append (symbol_in sheet) (take s.count s.symbols) (replicate n helper_symbol)
      ∙ ap (λ (l : List theory.Symbol). map (symbol_in sheet) (take s.count s.symbols) ++ l) (map-replicate (symbol_in sheet) n helper_symbol)

  module _ (limited : Limited s) where
    front : length (take s.count s.symbols) ≡ s.count
    front = length-take-le s.count s.symbols limited.held

    -- a test that the symbols and helpers pass
    both : (p : Symbol → Bool) → all p (take s.count s.symbols) ≡ true → p helper_symbol ≡ true → all p (take r.count r.symbols) ≡ true
    both p old new =
        ap (all p) h.symbols
        ∙ all_append p (take s.count s.symbols) (replicate n helper_symbol)
        ∙ and-join (all p (take s.count s.symbols)) (all p (replicate n helper_symbol)) old (all-helpers p new n)

    pub limited-behind : s.count ≤ max_declared → s.count + n ≤ max_in_all → Limited r
    limited-behind few room =
        record {
          count = omega (arith, h.count);
          held = omega (arith, h.count, ap length h.symbols, length-append (take s.count s.symbols) (replicate n helper_symbol), front, length-replicate {A = Symbol} n helper_symbol, length-take r.count r.symbols);
          arities = both (λ (y : Symbol). leb y.arity max_arity) limited.arities refl;
          constants = constants;
        }
      where
        constants : all (λ (y : Symbol). eqb y.arity 0) (drop max_declared (take r.count r.symbols)) ≡ true
        constants =
            let e : max_declared ≡ length (take s.count s.symbols) + (max_declared - s.count) = omega (arith, front) in
            let test : Symbol → Bool = λ (y : Symbol). eqb y.arity 0 in
            ap (λ (l : List Symbol). all test (drop max_declared l)) h.symbols
            ∙ ap (λ (k : ℕ). all test (drop k (take s.count s.symbols ++ replicate n helper_symbol))) e
            ∙ ap (all test) (drop-append-add (take s.count s.symbols) (replicate n helper_symbol) (max_declared - s.count))
            ∙ all_drop test (max_declared - s.count) (replicate n helper_symbol) (all-helpers test refl n)

  pub readable-behind : (sheet : List ℕ) → Readable sheet s → s.count ≤ max_declared → s.count + n ≤ max_in_all → Readable sheet r
  readable-behind sheet readable few room =
      record {
        limited = limited-behind readable.limited few room;
        names = both readable.limited (λ (y : Symbol). leb (y.name + y.length) (length sheet)) readable.names (leb-of-≤ 0 (length sheet) (omega arith));
      }
