-- The table of symbols: empty, with one symbol more, and what it says of the symbols that have appeared.
use Prim.Native.Nat.{ℕ, ◌+◌, ◌-◌, ◌≤◌, ◌<◌}
use mathlib.Core.Path.{◌≡◌, refl, sym, ap, ◌∙◌}
use mathlib.Core.Bool.{Bool, true, false, cond}
use mathlib.Core.List.{List, [], map}
use native.Mathlib.Omega.{arith}
use lib.Dec.{eqb, leb}
use lib.ListN.{length, take, drop, length-take}
use Rattle.theory.specs.Lists.{all}
use Rattle.theory.specs.Syntax.{Signature, functions, predicates}
use Rattle.theory.specs.Syntax as theory
use Rattle.theory.specs.Problem.{is_name, is_named}
use Rattle.theory.specs.WellFormed.{symbol_ok}
use Rattle.theory.proofs.Tests.{leb-of-≤, and-join}
use Rattle.theory.proofs.Lists.{all-imply}
use Rattle.syntax.specs.declared.signature.Symbol.{Symbol}
use Rattle.syntax.specs.declared.signature.Signature as syntax
use Rattle.syntax.specs.Signatures.{symbol_in, signature_in}
use Rattle.clauses.proofs.Held.{none-past, count-signature_in}
use Rattle.tptp.specs.Symbols.{first_of_name}
use Rattle.tptp.specs.Claims.Order.{signature_by}
use Rattle.tptp.proofs.Fresh.{first-fresh, parts-fresh, fresh-differ, self-named}
use Rattle.declaring.specs.declared.symbols.Symbols.{Symbols}
use Rattle.declaring.specs.Tables.{TableOf, LimitedTable, TableSays, count_of_kind, held_in, insert_at, Inserted, WithSymbol}
use Rattle.declaring.proofs.Signatures.{named-alike, kinds-count, functions-first, predicates-last}
use Rattle.declaring.proofs.Inserting.{length-insert, all_insert, map-insert}

-- no symbols
module _ (text : List ℕ) (s : syntax.Signature) (e : s.count ≡ 0) where
  none-held : held_in s ≡ []
  none-held = ap (λ (n : ℕ). take n s.symbols) e

  none-there : signature_in text s ≡ []
  unfolding signature_in
  none-there = ap (map (symbol_in text)) none-held

  pub none-tabled : LimitedTable text (record { signature = s; functions = 0 })
  none-tabled =
      record {
        readable = record {
          limited = record {
            count = omega arith;
            held = omega arith;
            arities = ap (all (λ (y : Symbol). leb y.arity 3)) none-held;
            constants = none-past s (λ (y : Symbol). eqb y.arity 0) (omega arith);
          };
          names = ap (all (λ (y : Symbol). leb (y.name + y.length) (length text))) none-held;
        };
        ordered = omega arith;
        functions = omega arith;
        predicates = omega arith;
        symbols-ok = ap (all symbol_ok) none-there;
      }

  pub none-table : TableOf text [] (record { signature = s; functions = 0 })
  none-table = record { symbols = none-there; functions = refl }

-- the signature with the symbol put in
pub inserted-in : (text : List ℕ) (s : syntax.Signature) (n : ℕ) (y : Symbol) (r : syntax.Signature) → Inserted s n y r → signature_in text r ≡ insert_at n (symbol_in text y) (signature_in text s)
unfolding signature_in
inserted-in text s n y r h = ap (map (symbol_in text)) h.symbols ∙ map-insert (symbol_in text) n y (held_in s)

-- a symbol within the limits, put into a table that is not full, leaves one
module _ (text : List ℕ) (t : Symbols) (h : LimitedTable text t) (y : Symbol) (r : Symbols) (a : WithSymbol t y r) where
  abbrev at : ℕ
  at = cond y.function t.functions t.signature.count

  old-count : length (held_in t.signature) ≡ t.signature.count
  old-count = omega (arith, length-take t.signature.count t.signature.symbols, h.readable.limited.held)

  -- all symbols pass a test if the new one does
  held_all : (p : Symbol → Bool) → all p (held_in t.signature) ≡ true → p y ≡ true → all p (held_in r.signature) ≡ true
  held_all p k q = ap (all p) a.signature.symbols ∙ all_insert p at y (held_in t.signature) k q

  counts : (function : Bool) → y.function ≡ function → count_of_kind t function < 12 → (r.functions ≤ r.signature.count) × ((r.functions ≤ 12) × (r.signature.count - r.functions ≤ 12))
  counts true e k =
      let n : r.functions ≡ t.functions + 1 = a.functions ∙ ap (λ (b : Bool). cond b (t.functions + 1) t.functions) e in
      (omega (arith, h.ordered, a.signature.count), (omega arith, omega (arith, h.predicates, a.signature.count)))
  counts false e k =
      let n : r.functions ≡ t.functions = a.functions ∙ ap (λ (b : Bool). cond b (t.functions + 1) t.functions) e in
      (omega (arith, h.ordered, a.signature.count), (omega (arith, h.functions), omega (arith, h.ordered, a.signature.count)))

  pub tabled-more : y.arity ≤ 3 → y.name + y.length ≤ length text → is_name (symbol_in text y).name ≡ true → count_of_kind t y.function < 12 → LimitedTable text r
  tabled-more arity within name room =
      let c = counts y.function refl room in
      record {
        readable = record {
          limited = record {
            count = omega (arith, c);
            held = omega (arith, ap length a.signature.symbols, length-insert at y (held_in t.signature), old-count, a.signature.count, length-take r.signature.count r.signature.symbols);
            arities = held_all (λ (y : Symbol). leb y.arity 3) h.readable.limited.arities (leb-of-≤ y.arity 3 arity);
            constants = none-past r.signature (λ (y : Symbol). eqb y.arity 0) (omega (arith, c));
          };
          names = held_all (λ (y : Symbol). leb (y.name + y.length) (length text)) h.readable.names (leb-of-≤ (y.name + y.length) (length text) within);
        };
        ordered = c.0;
        functions = c.1.0;
        predicates = c.1.1;
        symbols-ok = ap (all symbol_ok) (inserted-in text t.signature at y r.signature a.signature)
            ∙ all_insert symbol_ok at (symbol_in text y) (signature_in text t.signature) h.symbols-ok (and-join (leb y.arity 3) (is_name (symbol_in text y).name) (leb-of-≤ y.arity 3 arity) name);
      }

-- a table says where the symbols of X stand
module _ (text : List ℕ) (X : List theory.Symbol) (t : Symbols) (h : LimitedTable text t) (T : TableOf text X t) where
  abbrev g : Signature
  g = signature_by X

  pub all-count : t.signature.count ≡ length g
  all-count = sym (count-signature_in t.signature h.readable.limited text) ∙ ap length T.symbols

  -- how many symbols of a kind there are
  pub kind-count : (fn : Bool) → cond fn (length (functions g)) (length (predicates g)) ≡ count_of_kind t fn
  kind-count true = sym T.functions
  kind-count false = omega (arith, kinds-count X, T.functions, all-count)

  pub says : TableSays text X t
  says =
      record {
        readable = h.readable;
        count = all-count;
        functions-first = functions-first X ∙ ap (λ (n : ℕ). take n g) (sym T.functions);
        predicates-last = predicates-last X ∙ ap (λ (n : ℕ). drop n g) (sym T.functions);
        few-functions = omega (arith, kind-count true, h.functions);
        few-predicates = omega (arith, kind-count false, h.predicates);
        symbols-ok = ap (all symbol_ok) (sym T.symbols) ∙ h.symbols-ok;
        names-differ = fresh-differ g (parts-fresh (first_of_name (λ (f : theory.Symbol). f.name) X) (first-fresh X));
        named = all-imply (λ (f : theory.Symbol). is_named f.name X) (λ (f : theory.Symbol). is_named f.name g) X (λ f k. named-alike X f.name ∙ k) (self-named X);
      }
