-- What is due on a line of a sheet or of a case: its place among the lines tells it, and the lines before it fix it.
use Prim.Native.Nat.{ℕ, zero, suc, ◌+◌, ◌≤◌, ◌<◌}
use mathlib.Core.Path.{◌≡◌, refl, sym, ap, ◌∙◌}
use mathlib.Core.Logic.{◌⊎◌, inl, inr}
use mathlib.Core.List.{List, ◌∷◌, ◌++◌, map}
use native.Mathlib.Omega.{arith}
use lib.ListN.{length, get_or, drop, replicate, get_or-replicate, length-replicate, get_or-eq_default}
use Rattle.theory.specs.Lists.{or_zero}
use Rattle.theory.specs.Bytes.{bytes}
use Rattle.theory.specs.Syntax.{Signature}
use Rattle.theory.specs.Lines.{count_of}
use Rattle.theory.specs.CaseText.{size_of}
use Rattle.theory.specs.LineForms.{no_bytes, count_digits, declaration, any_words, LineForm, keyed, no_line}
use Rattle.theory.specs.DueLines.{first_line, from_line, count_on, functions_said, predicates_said, clauses_said, lines_with, due_in_sheet, size_on, table_form, due_in_case}
use Rattle.theory.proofs.LinesBefore.{SameLines}

-- the lines of a sheet behind its first two
abbrev pub function_form : LineForm
function_form = keyed (bytes "fun=") declaration

abbrev pub predicate_count_form : LineForm
predicate_count_form = keyed (bytes "preds=") count_digits

abbrev pub predicate_form : LineForm
predicate_form = keyed (bytes "pred=") declaration

abbrev pub clause_count_form : LineForm
clause_count_form = keyed (bytes "clauses=") count_digits

abbrev pub clause_form : LineForm
clause_form = keyed (bytes "clause=") any_words

-- n times the same, then one, then others
module _ {A : Type 0} (d e z : A) where
  block_in : (n : ℕ) (xs : List A) (i : ℕ) → i < n → get_or (replicate n d ++ (e ∷ xs)) i z ≡ d
  block_in zero xs i h = absurd (omega arith)
  block_in (suc n) xs zero h = refl
  block_in (suc n) xs (suc i) h = block_in n xs i (omega arith)

  block-end : (n : ℕ) (xs : List A) → get_or (replicate n d ++ (e ∷ xs)) n z ≡ e
  block-end zero xs = refl
  block-end (suc n) xs = block-end n xs

  block-past : (n : ℕ) (xs : List A) (j i : ℕ) → i ≡ suc (n + j) → get_or (replicate n d ++ (e ∷ xs)) i z ≡ get_or xs j z
  block-past n xs j zero q = absurd (omega arith)
  block-past zero xs j (suc i) q = let r : i ≡ j = omega arith in ap (λ (k : ℕ). get_or xs k z) r
  block-past (suc n) xs j (suc i) q = block-past n xs j i (omega arith)

  -- what comes after does not matter up to the one
  block-front : (n : ℕ) (xs ys : List A) (i : ℕ) → i ≤ n → get_or (replicate n d ++ (e ∷ xs)) i z ≡ get_or (replicate n d ++ (e ∷ ys)) i z
  block-front zero xs ys zero h = refl
  block-front zero xs ys (suc i) h = absurd (omega arith)
  block-front (suc n) xs ys zero h = refl
  block-front (suc n) xs ys (suc i) h = block-front n xs ys i (omega arith)

module _ (text : List ℕ) where
  pub heading-due : (due_in_sheet text 0 ≡ keyed (bytes "sheet=1") no_bytes) × (due_in_sheet text 1 ≡ keyed (bytes "funs=") count_digits)
  unfolding due_in_sheet
  heading-due = (refl, refl)

  -- what is due on each line, by its place among them
  module _ (f : ℕ) (F : functions_said text ≡ f) where
    -- the lines behind those of the functions
    after : List LineForm
    after = replicate (predicates_said text) predicate_form ++ (clause_count_form ∷ replicate (clauses_said text) clause_form)

    due-past : (i m : ℕ) → m ≡ suc (suc i) → due_in_sheet text m ≡ get_or (replicate f function_form ++ (predicate_count_form ∷ after)) i no_line
    unfolding due_in_sheet after
    due-past i m q = ap (λ (k : ℕ). get_or (lines_with (functions_said text) (predicates_said text) (clauses_said text)) k no_line) q ∙ ap (λ (k : ℕ). get_or (replicate k function_form ++ (predicate_count_form ∷ after)) i no_line) F

    pub due-fun : (i m : ℕ) → i < f → m ≡ suc (suc i) → due_in_sheet text m ≡ function_form
    due-fun i m h q = due-past i m q ∙ block_in function_form predicate_count_form no_line f after i h

    pub due-preds : (m : ℕ) → m ≡ suc (suc f) → due_in_sheet text m ≡ predicate_count_form
    due-preds m q = due-past f m q ∙ block-end function_form predicate_count_form no_line f after

    module _ (p : ℕ) (P : predicates_said text ≡ p) where
      due-past-preds : (i m : ℕ) → m ≡ suc (suc (suc (f + i))) → due_in_sheet text m ≡ get_or (replicate p predicate_form ++ (clause_count_form ∷ replicate (clauses_said text) clause_form)) i no_line
      unfolding after
      due-past-preds i m q =
          due-past (suc (f + i)) m q ∙ block-past function_form predicate_count_form no_line f after i (suc (f + i)) refl
          ∙ ap (λ (k : ℕ). get_or (replicate k predicate_form ++ (clause_count_form ∷ replicate (clauses_said text) clause_form)) i no_line) P

      pub due-pred : (i m : ℕ) → i < p → m ≡ suc (suc (suc (f + i))) → due_in_sheet text m ≡ predicate_form
      due-pred i m h q = due-past-preds i m q ∙ block_in predicate_form clause_count_form no_line p (replicate (clauses_said text) clause_form) i h

      pub due-clauses : (m : ℕ) → m ≡ suc (suc (suc (f + p))) → due_in_sheet text m ≡ clause_count_form
      due-clauses m q = due-past-preds p m q ∙ block-end predicate_form clause_count_form no_line p (replicate (clauses_said text) clause_form)

      module _ (c : ℕ) (C : clauses_said text ≡ c) where
        due-past-clauses : (i m : ℕ) → m ≡ suc (suc (suc (f + suc (p + i)))) → due_in_sheet text m ≡ get_or (replicate c clause_form) i no_line
        due-past-clauses i m q =
            due-past-preds (suc (p + i)) m q ∙ block-past predicate_form clause_count_form no_line p (replicate (clauses_said text) clause_form) i (suc (p + i)) refl
            ∙ ap (λ (k : ℕ). get_or (replicate k clause_form) i no_line) C

        pub due-clause : (i m : ℕ) → i < c → m ≡ suc (suc (suc (f + suc (p + i)))) → due_in_sheet text m ≡ clause_form
        due-clause i m h q = due-past-clauses i m q ∙ get_or-replicate c i clause_form no_line h

        pub due-end : (m : ℕ) → m ≡ suc (suc (suc (f + suc (p + c)))) → due_in_sheet text m ≡ no_line
        due-end m q =
            let n : length (replicate c clause_form) ≡ c = length-replicate c clause_form in
            due-past-clauses c m q ∙ get_or-eq_default (replicate c clause_form) no_line {n = c} (omega (arith, n))

le-or-gt : (i n : ℕ) → (i ≤ n) ⊎ ((j : ℕ) × (i ≡ suc (n + j)))
le-or-gt zero n = inl (omega arith)
le-or-gt (suc i) zero = inr (i, omega arith)
le-or-gt (suc i) (suc n) = go (le-or-gt i n)
  where
    go : (i ≤ n) ⊎ ((j : ℕ) × (i ≡ suc (n + j))) → (suc i ≤ suc n) ⊎ ((j : ℕ) × (suc i ≡ suc (suc n + j)))
    go (inl h) = inl (omega arith)
    go (inr r) = inr (r.0, omega (arith, r.1))

count_same : (key : List ℕ) (n : ℕ) (x y : List ℕ) → first_line (from_line n x) ≡ first_line (from_line n y) → count_on key n x ≡ count_on key n y
unfolding count_on
count_same key n x y e = ap (λ (l : List ℕ). or_zero (count_of (drop (length key) l))) e

-- what is due on a line of a sheet depends on the lines before it only
pub sheet-local : (l : ℕ) (x y : List ℕ) → SameLines l x y → due_in_sheet x l ≡ due_in_sheet y l
unfolding due_in_sheet
sheet-local zero x y h = refl
sheet-local (suc zero) x y h = refl
sheet-local (suc (suc m)) x y h = functions (le-or-gt m f)
  where
    f : ℕ
    f = functions_said x

    -- the lines behind the counts of predicates, and behind those of clauses
    after : ℕ → ℕ → List LineForm
    after p c = replicate p predicate_form ++ (clause_count_form ∷ replicate c clause_form)

    ef : f ≡ functions_said y
    ef = count_same (bytes "funs=") 1 x y (h 1 (omega arith))

    -- with the same count of functions
    P : List ℕ → ℕ
    P t = count_on (bytes "preds=") (2 + f) t

    C : ℕ → List ℕ → ℕ
    C p t = count_on (bytes "clauses=") (3 + f + p) t

    as_y : get_or (replicate f function_form ++ (predicate_count_form ∷ after (P y) (C (P y) y))) m no_line ≡ get_or (lines_with (functions_said y) (predicates_said y) (clauses_said y)) (suc (suc m)) no_line
    as_y =
        ap (λ (k : ℕ). get_or (replicate k function_form ++ (predicate_count_form ∷ after (count_on (bytes "preds=") (2 + k) y) (count_on (bytes "clauses=") (3 + k + count_on (bytes "preds=") (2 + k) y) y))) m no_line) ef

    predicates : (j : ℕ) → m ≡ suc (f + j) → P x ≡ P y → (j ≤ P x) ⊎ ((i : ℕ) × (j ≡ suc (P x + i))) → get_or (after (P x) (C (P x) x)) j no_line ≡ get_or (after (P y) (C (P y) y)) j no_line
    predicates j q e (inl k) =
        block-front predicate_form clause_count_form no_line (P x) (replicate (C (P x) x) clause_form) (replicate (C (P y) y) clause_form) j k ∙ ap (λ (p : ℕ). get_or (after p (C (P y) y)) j no_line) e
    predicates j q e (inr r) =
        let c : C (P x) x ≡ C (P x) y = count_same (bytes "clauses=") (3 + f + P x) x y (h (3 + f + P x) (omega (arith, q, r.1))) in
        ap (λ (n : ℕ). get_or (after (P x) n) j no_line) c ∙ ap (λ (p : ℕ). get_or (after p (C p y)) j no_line) e

    functions : (m ≤ f) ⊎ ((j : ℕ) × (m ≡ suc (f + j)))
        → get_or (lines_with f (predicates_said x) (clauses_said x)) (suc (suc m)) no_line ≡ get_or (lines_with (functions_said y) (predicates_said y) (clauses_said y)) (suc (suc m)) no_line
    functions (inl k) = block-front function_form predicate_count_form no_line f (after (P x) (C (P x) x)) (after (P y) (C (P y) y)) m k ∙ as_y
    functions (inr r) =
        let j : ℕ = r.0 in
        let e : P x ≡ P y = count_same (bytes "preds=") (2 + f) x y (h (2 + f) (omega (arith, r.1))) in
        block-past function_form predicate_count_form no_line f (after (P x) (C (P x) x)) j m r.1
        ∙ predicates j r.1 e (le-or-gt j (P x))
        ∙ sym (block-past function_form predicate_count_form no_line f (after (P y) (C (P y) y)) j m r.1)
        ∙ as_y

-- the same of a case
pub case-local : (g : Signature) (l : ℕ) (x y : List ℕ) → SameLines l x y → due_in_case g x l ≡ due_in_case g y l
unfolding due_in_case size_on
case-local g zero x y h = refl
case-local g (suc zero) x y h = refl
case-local g (suc (suc m)) x y h =
    let e : size_on x ≡ size_on y = ap (λ (l : List ℕ). or_zero (size_of (drop 5 l))) (h 1 (omega arith)) in
    ap (λ (s : ℕ). get_or (map (table_form s) g) m no_line) e
