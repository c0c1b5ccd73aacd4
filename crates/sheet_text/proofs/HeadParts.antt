-- The head of a sheet by its parts: the first line, the functions, the predicates, how many clauses.
use Prim.Native.Nat.{ℕ, ◌+◌, ◌-◌, ◌^◌, ◌≤◌, ◌<◌}
use mathlib.Core.Path.{◌≡◌, sym, ap, ◌∙◌}
use mathlib.Core.List.{List, ◌++◌}
use native.Mathlib.Omega.{arith}
use lib.ListN.{length, drop, length-append}
use lib.Seq.{take_all}
use Rattle.theory.specs.Bytes.{bytes, decimal}
use Rattle.theory.specs.Syntax as theory
use Rattle.theory.specs.SheetText.{line}
use Rattle.syntax.specs.declared.signature.Signature.{Signature}
use Rattle.syntax.specs.Signatures.{signature_in}
use Rattle.clauses.specs.Names.{Readable}
use Rattle.clauses.proofs.Held.{count-signature_in}
use Rattle.text.specs.Put.{put}
use Rattle.text.proofs.Decimal.{decimal-within}
use Rattle.sheet_text.specs.declared.head.Kind.{Kind}
use Rattle.sheet_text.specs.Kinds.{IsKind}
use Rattle.sheet_text.specs.Parts.{Span, between, kind_text, head_text}
use Rattle.sheet_text.proofs.LinesWritten.{same_text, two-written, line-length}
use Rattle.sheet_text.proofs.SymbolLines.{lines_of, length-between}

-- a line with a count is short
pub count-line-short : (key : List ℕ) (n : ℕ) → n < 2 ^ 32 → length (line key (decimal n)) ≤ length key + 11
count-line-short key n h = omega (arith, line-length key (decimal n), decimal-within 9 n (omega arith))

-- the symbols of one kind
module _ (counting key text : List ℕ) (s : Signature) (r : Readable text s) (from to : ℕ) (h : to ≤ s.count) where
  pub kind-parts : line counting (decimal (to - from)) ++ lines_of key text s from to ≡ kind_text counting key (between from to (signature_in text s))
  unfolding kind_text
  kind-parts =
      ap (λ (n : ℕ). line counting (decimal n) ++ lines_of key text s from to) (sym (length-between (signature_in text s) from to (omega (arith, count-signature_in s r.limited text))))

  pub kind-length : length (kind_text counting key (between from to (signature_in text s))) ≡ length (line counting (decimal (to - from))) + length (lines_of key text s from to)
  kind-length = sym (ap length kind-parts) ∙ length-append (line counting (decimal (to - from))) (lines_of key text s from to)

  pub kind-written : (l l' l'' : List ℕ) (at a b : ℕ) → at + length (kind_text counting key (between from to (signature_in text s))) ≤ length l
      → l' ≡ put l at (line counting (decimal (to - from))) → a ≡ at + length (line counting (decimal (to - from)))
      → l'' ≡ put l' a (lines_of key text s from to) → b ≡ a + length (lines_of key text s from to)
      → (l'' ≡ put l at (kind_text counting key (between from to (signature_in text s)))) × (b ≡ at + length (kind_text counting key (between from to (signature_in text s))))
  kind-written l l' l'' at a b room p n q m =
      let v : List ℕ = line counting (decimal (to - from)) in
      let w : List ℕ = lines_of key text s from to in
      let r = two-written l l' l'' at a b v w (omega (arith, ap length kind-parts)) p n q m in
      same_text l l'' at b (v ++ w) (kind_text counting key (between from to (signature_in text s))) kind-parts r.0 r.1

-- the symbols of a kind whose keys and places are told
module _ (k : Kind) (counting key : List ℕ) (from to : ℕ) (e : IsKind k counting key from to) where
  pub kind-same : (g : theory.Signature) → kind_text k.counting.now k.key.now (between k.from k.to g) ≡ kind_text counting key (between from to g)
  kind-same g =
      ap (λ (v : List ℕ). kind_text v k.key.now (between k.from k.to g)) e.counting_is
      ∙ ap (λ (v : List ℕ). kind_text counting v (between k.from k.to g)) e.key_is
      ∙ ap (λ (n : ℕ). kind_text counting key (between n k.to g)) e.from_is
      ∙ ap (λ (n : ℕ). kind_text counting key (between from n g)) e.to_is

  pub kind-span : (s : Signature) → from ≤ to → to ≤ s.count → Span s k.from k.to
  kind-span s h l = record { ordered = omega (arith, e.from_is, e.to_is); within = omega (arith, e.to_is) }

  pub keys-short : length counting ≤ 8 → length key ≤ 8 → (length k.counting.now ≤ 8) × (length k.key.now ≤ 8)
  keys-short h l = (omega (arith, ap length e.counting_is), omega (arith, ap length e.key_is))

-- the functions, the predicates, and how many clauses
abbrev pub function_lines : List ℕ → Signature → ℕ → List ℕ
function_lines text s functions = kind_text (bytes "funs=") (bytes "fun=") (between 0 functions (signature_in text s))

abbrev pub predicate_lines : List ℕ → Signature → ℕ → List ℕ
predicate_lines text s functions = kind_text (bytes "preds=") (bytes "pred=") (between functions s.count (signature_in text s))

abbrev pub clauses_line : ℕ → List ℕ
clauses_line clauses = line (bytes "clauses=") (decimal clauses)

module _ (text : List ℕ) (s : Signature) (r : Readable text s) (functions clauses : ℕ) where
  head-parts : bytes "sheet=1\n" ++ (function_lines text s functions ++ (predicate_lines text s functions ++ clauses_line clauses)) ≡ head_text (signature_in text s) functions clauses
  unfolding head_text
  head-parts =
      ap (λ (fs : theory.Signature). bytes "sheet=1\n" ++ (function_lines text s functions ++ (kind_text (bytes "preds=") (bytes "pred=") (drop functions fs) ++ clauses_line clauses)))
      (take_all s.count (signature_in text s) (omega (arith, count-signature_in s r.limited text)))

  pub head-length : length (head_text (signature_in text s) functions clauses) ≡ 8 + length (function_lines text s functions) + length (predicate_lines text s functions) + length (clauses_line clauses)
  head-length =
      sym (ap length head-parts) ∙ omega (arith, length-append (function_lines text s functions) (predicate_lines text s functions ++ clauses_line clauses), length-append (predicate_lines text s functions) (clauses_line clauses))

  pub head-written : (l l₁ l₂ l₃ l₄ : List ℕ) (at a b c d : ℕ) → at + length (head_text (signature_in text s) functions clauses) ≤ length l
      → length l₁ ≡ length l → length l₂ ≡ length l
      → l₁ ≡ put l at (bytes "sheet=1\n") → a ≡ at + 8
      → l₂ ≡ put l₁ a (function_lines text s functions) → b ≡ a + length (function_lines text s functions)
      → l₃ ≡ put l₂ b (predicate_lines text s functions) → c ≡ b + length (predicate_lines text s functions)
      → l₄ ≡ put l₃ c (clauses_line clauses) → d ≡ c + length (clauses_line clauses)
      → (l₄ ≡ put l at (head_text (signature_in text s) functions clauses)) × (d ≡ at + length (head_text (signature_in text s) functions clauses))
  head-written l l₁ l₂ l₃ l₄ at a b c d room k₁ k₂ p₁ n₁ p₂ n₂ p₃ n₃ p₄ n₄ =
      let m₃ = length-append (predicate_lines text s functions) (clauses_line clauses) in
      let m₂ = length-append (function_lines text s functions) (predicate_lines text s functions ++ clauses_line clauses) in
      let w₃ = two-written l₂ l₃ l₄ b c d (predicate_lines text s functions) (clauses_line clauses) (omega (arith, head-length)) p₃ n₃ p₄ n₄ in
      let w₂ = two-written l₁ l₂ l₄ a b d (function_lines text s functions) (predicate_lines text s functions ++ clauses_line clauses) (omega (arith, head-length)) p₂ n₂ w₃.0 w₃.1 in
      let w₁ = two-written l l₁ l₄ at a d (bytes "sheet=1\n") (function_lines text s functions ++ (predicate_lines text s functions ++ clauses_line clauses)) (omega (arith, head-length)) p₁ n₁ w₂.0 w₂.1 in
      same_text l l₄ at d (bytes "sheet=1\n" ++ (function_lines text s functions ++ (predicate_lines text s functions ++ clauses_line clauses))) (head_text (signature_in text s) functions clauses) head-parts w₁.0 w₁.1
