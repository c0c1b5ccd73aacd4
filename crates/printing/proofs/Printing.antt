-- What the program's writers leave is what is printed.
use Prim.Native.Nat.{ℕ, ◌+◌, ◌≤◌, ◌<◌, ◌^◌}
use mathlib.Core.Path.{◌≡◌, sym, ap, ◌∙◌}
use mathlib.Core.Bool.{Bool, true, false}
use mathlib.Core.List.{List, [], ◌∷◌, ◌++◌, append_assoc}
use native.Mathlib.Nat.{zero-add}
use native.Mathlib.Omega.{arith}
use lib.ListN.{length, set, take, drop, take-append-drop, length-append, length-drop}
use lib.Seq.{length-take-le, drop-drop}
use Rattle.theory.specs.Bytes.{bytes, LF, decimal}
use Rattle.theory.specs.Refusals.{Refusal, answer, at_place}
use Rattle.theory.specs.Operations.{over, found, nothing}
use Rattle.theory.specs.Program.{refusal_text, printed}
use Rattle.allowance.specs.AllowedFind.{stopped}
use Rattle.allowance.specs.FinderProgram.{printed_within}
use Rattle.text.specs.Put.{put, put-cursor, put-run, cursor-run}
use Rattle.answers.proofs.Answering.{put-over}
use Rattle.text.proofs.Decimal.{decimal-within}
use Rattle.printing.specs.Reports.{Responds}

-- a number of 32 bits has at most ten digits
pub digits : (n : ℕ) → n < 2 ^ 32 → length (decimal n) ≤ 10
digits n h = decimal-within 9 n (omega arith)

-- a text that was put at the start of the output
pub responds : (l l' : List ℕ) (r : ℕ) (text : List ℕ) → l' ≡ put l 0 text → r ≡ 0 + length text → Responds text r l l'
responds l l' r text p n =
    let left : l' ≡ over text l = p ∙ put-over l text in
    record { counted = n ∙ zero-add (length text); within = omega (arith, n, ap length left, length-append text (drop (length text) l)); left = left }

-- a key and a number
pub field : (l l₁ l₂ : List ℕ) (at a r : ℕ) (key : List ℕ) (n : ℕ) → l₁ ≡ put l at key → a ≡ at + length key → l₂ ≡ put l₁ a (decimal n) → r ≡ a + length (decimal n)
    → at + length key + length (decimal n) ≤ length l → (l₂ ≡ put l at (key ++ decimal n)) × (r ≡ at + length (key ++ decimal n))
field l l₁ l₂ at a r key n p e q f h =
    (put-run l l₁ l₂ at a key (decimal n) p e q (omega arith), cursor-run at a r key (decimal n) e f)

abbrev reason : List ℕ
reason = bytes "answer=refused\nreason="

abbrev line : List ℕ
line = bytes "\nline="

pub reason-short : (n : ℕ) → n < 256 → length (reason ++ decimal n) ≤ 32
reason-short n h = omega (arith, length-append reason (decimal n), digits n (omega arith))

abbrev column : List ℕ
column = bytes "\ncolumn="

pub line-short : (m : ℕ) → m < 2 ^ 32 → length (line ++ decimal m) ≤ 16
line-short m h = omega (arith, length-append line (decimal m), digits m h)

pub column-short : (m : ℕ) → m < 2 ^ 32 → length (column ++ decimal m) ≤ 18
column-short m h = omega (arith, length-append column (decimal m), digits m h)

pub stopped-short : (n : ℕ) → n < 2 ^ 32 → length (bytes "answer=stopped\nsize=" ++ decimal n) ≤ 30
stopped-short n h = omega (arith, length-append (bytes "answer=stopped\nsize=") (decimal n), digits n h)

-- a refusal with this number, line and column
abbrev refusal_at : ℕ → ℕ → ℕ → Refusal
refusal_at n m k = at_place n (record { line = m; column = k })

refusal-text : (n m k : ℕ) → (((reason ++ decimal n) ++ (line ++ decimal m)) ++ (column ++ decimal k)) ++ (LF ∷ []) ≡ refusal_text (refusal_at n m k)
unfolding refusal_text
refusal-text n m k =
    let end : List ℕ = (column ++ decimal k) ++ (LF ∷ []) in
    append_assoc ((reason ++ decimal n) ++ (line ++ decimal m)) (column ++ decimal k) (LF ∷ [])
    ∙ append_assoc (reason ++ decimal n) (line ++ decimal m) end
    ∙ append_assoc reason (decimal n) ((line ++ decimal m) ++ end)
    ∙ ap (λ (t : List ℕ). reason ++ (decimal n ++ t)) (append_assoc line (decimal m) end ∙ ap (λ (t : List ℕ). line ++ (decimal m ++ t)) (append_assoc column (decimal k) (LF ∷ [])))

-- a refusal's number, line and column
pub refusal : (l l₁ l₂ l₃ : List ℕ) (a b c n m k : ℕ) → n < 256 → m < 2 ^ 32 → k < 2 ^ 32 → 80 ≤ length l
    → l₁ ≡ put l 0 (reason ++ decimal n) → a ≡ 0 + length (reason ++ decimal n) → l₂ ≡ put l₁ a (line ++ decimal m) → b ≡ a + length (line ++ decimal m)
    → l₃ ≡ put l₂ b (column ++ decimal k) → c ≡ b + length (column ++ decimal k) → Responds (refusal_text (refusal_at n m k)) (c + 1) l (set l₃ c LF)
refusal l l₁ l₂ l₃ a b c n m k hn hm hk h p e q f r g =
    let x = reason-short n hn in
    let y = line-short m hm in
    let z = column-short k hk in
    let both : List ℕ = (reason ++ decimal n) ++ (line ++ decimal m) in
    let all : List ℕ = both ++ (column ++ decimal k) in
    let text : List ℕ = refusal_text (refusal_at n m k) in
    let p₂ : l₂ ≡ put l 0 both = put-run l l₁ l₂ 0 a (reason ++ decimal n) (line ++ decimal m) p e q (omega (arith, x, y, e)) in
    let e₂ : b ≡ 0 + length both = cursor-run 0 a b (reason ++ decimal n) (line ++ decimal m) e f in
    let p₃ : l₃ ≡ put l 0 all = put-run l l₂ l₃ 0 b both (column ++ decimal k) p₂ e₂ r (omega (arith, x, y, z, e, f, e₂)) in
    let e₃ : c ≡ 0 + length all = cursor-run 0 b c both (column ++ decimal k) e₂ g in
    let p₄ : set l₃ c LF ≡ put l 0 text = put-cursor l l₃ 0 c all text LF p₃ e₃ (omega (arith, e, f, g, x, y, z)) (refusal-text n m k) in
    let e₄ : c + 1 ≡ 0 + length text = omega (arith, e₃, length-append all (LF ∷ []), ap length (refusal-text n m k)) in
    responds l (set l₃ c LF) (c + 1) text p₄ e₄

abbrev stopped-at : List ℕ
stopped-at = bytes "answer=stopped\nsize="

-- stopped, and at which size
pub stopped-size : (l l₁ : List ℕ) (a n : ℕ) → n < 2 ^ 32 → 80 ≤ length l → l₁ ≡ put l 0 (stopped-at ++ decimal n) → a ≡ 0 + length (stopped-at ++ decimal n)
    → Responds (printed_within (answer (stopped n 0))) (a + 1) l (set l₁ a LF)
unfolding printed_within
stopped-size l l₁ a n hn h p e =
    let x : length (stopped-at ++ decimal n) ≤ 30 = stopped-short n hn in
    let text : List ℕ = stopped-at ++ (decimal n ++ (LF ∷ [])) in
    let joined : (stopped-at ++ decimal n) ++ (LF ∷ []) ≡ text = append_assoc stopped-at (decimal n) (LF ∷ []) in
    let p₂ : set l₁ a LF ≡ put l 0 text = put-cursor l l₁ 0 a (stopped-at ++ decimal n) text LF p e (omega (arith, e, x)) joined in
    let e₂ : a + 1 ≡ 0 + length text = omega (arith, e, length-append (stopped-at ++ decimal n) (LF ∷ []), ap length joined) in
    responds l (set l₁ a LF) (a + 1) text p₂ e₂

abbrev none : List ℕ
none = bytes "answer=none\nsettled="

-- none, and the mark settled
pub settled-yes : (l l₁ l₂ : List ℕ) (a r : ℕ) (b : Bool) → b ≡ true → 24915 ≤ length l → l₁ ≡ put l 0 none → a ≡ 0 + length none → l₂ ≡ put l₁ a (bytes "yes\n") → r ≡ a + length (bytes "yes\n")
    → Responds (printed (answer (nothing b))) r l l₂
unfolding printed
settled-yes l l₁ l₂ a r true t h p e q f =
    responds l l₂ r (none ++ bytes "yes\n") (put-run l l₁ l₂ 0 a none (bytes "yes\n") p e q (omega arith)) (cursor-run 0 a r none (bytes "yes\n") e f)
settled-yes l l₁ l₂ a r false t h p e q f = let z : ◌≡◌ {A = Bool} false true = t in absurd (false-true z)
  where
    false-true : false ≡ true → ⊥
    false-true z = let n : ◌≡◌ {A = ℕ} 0 1 = cc in absurd (omega arith)

pub settled-no : (l l₁ l₂ : List ℕ) (a r : ℕ) (b : Bool) → b ≡ false → 24915 ≤ length l → l₁ ≡ put l 0 none → a ≡ 0 + length none → l₂ ≡ put l₁ a (bytes "no\n") → r ≡ a + length (bytes "no\n")
    → Responds (printed (answer (nothing b))) r l l₂
unfolding printed
settled-no l l₁ l₂ a r false t h p e q f =
    responds l l₂ r (none ++ bytes "no\n") (put-run l l₁ l₂ 0 a none (bytes "no\n") p e q (omega arith)) (cursor-run 0 a r none (bytes "no\n") e f)
settled-no l l₁ l₂ a r true t h p e q f = let n : ◌≡◌ {A = ℕ} 0 1 = cc in absurd (omega arith)

abbrev found-line : List ℕ
found-line = bytes "answer=found\n"

-- the outcome's line, and the case that stands after it
pub found-case : (l l₁ : List ℕ) (a n s : ℕ) → 13 + n ≤ length l → l₁ ≡ put l 0 found-line → a ≡ 0 + length found-line
    → Responds (printed (answer (found s (take n (drop 13 l))))) (a + n) l l₁
unfolding printed
found-case l l₁ a n s h p e =
    let case : List ℕ = take n (drop 13 l) in
    let long : length (found-line ++ case) ≡ 13 + n = length-append found-line case ∙ omega (arith, length-take-le n (drop 13 l) (omega (arith, length-drop 13 l))) in
    let left : l₁ ≡ over (found-line ++ case) l =
    p
    ∙ put-over l found-line
    ∙ ap (λ (t : List ℕ). found-line ++ t) (sym (take-append-drop n (drop 13 l)))
    ∙ sym (append_assoc found-line case (drop n (drop 13 l)))
    ∙ ap (λ (t : List ℕ). (found-line ++ case) ++ t) (drop-drop n 13 l ∙ ap (λ (k : ℕ). drop k l) (sym long))
    in
    record { counted = omega (arith, e, long); within = omega (arith, e, long, ap length left, length-append (found-line ++ case) (drop (length (found-line ++ case)) l)); left = left }
