-- The first two lines of a case: case=1 and its size.
use Prim.Native.Nat.{ℕ, ◌-◌, ◌≤◌, ◌<◌}
use mathlib.Core.Path.{◌≡◌, refl, sym, ap, ◌∙◌}
use mathlib.Core.Bool.{Bool, true, false, cond, ◌&&◌}
use mathlib.Core.Option.{Option, none, some, some-injective}
use mathlib.Core.List.{List, [], ◌∷◌}
use native.Mathlib.Omega.{arith}
use borrow.Author.Tests.{lt-leb}
use lib.Dec.{leb, ltb}
use lib.ListN.{length, get_or, drop, length-drop}
use lib.Seq.{get_or-drop}
use Rattle.theory.specs.Lists.{same}
use Rattle.theory.specs.Bytes.{bytes}
use Rattle.theory.specs.Lines.{cut_line, after_key}
use Rattle.theory.specs.Syntax.{Signature}
use Rattle.theory.specs.Refusals.{Refusal, Answer, refused, at_line, or_refuse, ◌>>=◌}
use Rattle.theory.specs.CaseText.{Case, size_of, read_case}
use Rattle.theory.specs.Operations.{is_size}
use Rattle.theory.proofs.Tests.{iff→≡, ltb-true, ltb-of-<, leb-true, leb-of-≤, and_left, and_right, and-join}
use Rattle.theory.proofs.Answers.{bind-step, bind-refused, check-of-true, check-of-false, or_refuse-of-some, or_refuse-of-none}
use Rattle.text.specs.Lines.{StartsWith}
use Rattle.syntax.specs.declared.size.DomainSize.{DomainSize}
use Rattle.std.specs.Prelude.{Some, None}
use Rattle.syntax.specs.Sizes.{checked_size}
use Rattle.cases.specs.Reading.{size_found, size_after, case_of_tables}

-- the byte 48 + s says the size s
size-byte : (b : ℕ) → 48 ≤ b → is_size (b - 48) ≡ (leb 49 b && ltb b 57)
size-byte b h =
    iff→≡ (is_size (b - 48)) (leb 49 b && ltb b 57)
    (λ e. and-join (leb 49 b) (ltb b 57) (leb-of-≤ 49 b (omega (arith, leb-true 1 (b - 48) (and_left (leb 1 (b - 48)) (leb (b - 48) 8) e)))) (ltb-of-< b 57 (omega (arith, leb-true (b - 48) 8 (and_right (leb 1 (b - 48)) (leb (b - 48) 8) e)))))
    (λ e. and-join (leb 1 (b - 48)) (leb (b - 48) 8) (leb-of-≤ 1 (b - 48) (omega (arith, leb-true 49 b (and_left (leb 49 b) (ltb b 57) e)))) (leb-of-≤ (b - 48) 8 (omega (arith, ltb-true b 57 (and_right (leb 49 b) (ltb b 57) e)))))

-- the size of a line, as the code finds it
module _ (line : List ℕ) where
  pub no_key : StartsWith line (bytes "size=") false → None ≡ size_after (after_key (bytes "size=") line)
  no_key w = sym (ap size_after w.found)

  module _ (w : StartsWith line (bytes "size=") true) where
    after : after_key (bytes "size=") line ≡ some (drop 5 line)
    after = w.found

    pub other_length : (length line ≡ 6 → ⊥) → None ≡ size_after (after_key (bytes "size=") line)
    other_length h = sym (ap size_after after ∙ go (drop 5 line) (λ e. h (omega (arith, length-drop 5 line, w.room refl))))
      where
        go : (v : List ℕ) → (length v ≡ 1 → ⊥) → size_after (some v) ≡ None
        go [] h = refl
        go (b ∷ []) h = absurd (h refl)
        go (b ∷ c ∷ v) h = refl

    module _ (n : length line ≡ 6) where
      one_byte : (v : List ℕ) → length v ≡ 1 → v ≡ get_or v 0 0 ∷ []
      one_byte [] e = absurd (omega arith)
      one_byte (b ∷ []) e = refl
      one_byte (b ∷ c ∷ v) e = absurd (omega arith)

      digit : size_after (after_key (bytes "size=") line) ≡ size_after (some (get_or line 5 0 ∷ []))
      digit =
          ap size_after
          (after
          ∙ ap {B = Option (List ℕ)} some (one_byte (drop 5 line) (omega (arith, length-drop 5 line)))
          ∙ ap (λ (b : ℕ). some (b ∷ [])) (get_or-drop 5 line 0 0))

      pub no_digit : get_or line 5 0 < 48 → None ≡ size_after (after_key (bytes "size=") line)
      no_digit h = sym (digit ∙ ap (λ (b : Bool). size_found (cond (b && ltb (get_or line 5 0) 57) (some (get_or line 5 0 - 48)) none)) (lt-leb 49 (get_or line 5 0) (omega arith)))

      pub digit-checked : 48 ≤ get_or line 5 0 → checked_size (get_or line 5 0 - 48) ≡ size_after (after_key (bytes "size=") line)
      digit-checked h = found (is_size (get_or line 5 0 - 48)) ∙ ap (λ (b : Bool). size_found (cond b (some (get_or line 5 0 - 48)) none)) (size-byte (get_or line 5 0) h) ∙ sym digit
        where
          found : (b : Bool) → cond b (Some (record { 0 = get_or line 5 0 - 48 })) None ≡ size_found (cond b (some (get_or line 5 0 - 48)) none)
          found true = refl
          found false = refl

-- a size that follows the key is one of 1 to 8
size_of-within : (v : List ℕ) (s : ℕ) → size_of v ≡ some s → (1 ≤ s) × (s ≤ 8)
size_of-within [] s e = let z : ◌≡◌ {A = ℕ} 0 1 = cc in absurd (omega arith)
size_of-within (b ∷ []) s e = go (leb 49 b && ltb b 57) refl e
  where
    go : (q : Bool) → (leb 49 b && ltb b 57) ≡ q → cond q (some (b - 48)) none ≡ some s → (1 ≤ s) × (s ≤ 8)
    go true h e =
        let z : b - 48 ≡ s = some-injective (b - 48) s e in
        (omega (arith, leb-true 49 b (and_left (leb 49 b) (ltb b 57) h)), omega (arith, ltb-true b 57 (and_right (leb 49 b) (ltb b 57) h)))
    go false h e = let z : ◌≡◌ {A = ℕ} 0 1 = cc in absurd (omega arith)
size_of-within (b ∷ c ∷ v) s e = let z : ◌≡◌ {A = ℕ} 0 1 = cc in absurd (omega arith)

found-is : (o : Option ℕ) (s : DomainSize) → size_found o ≡ Some s → o ≡ some s.0
found-is none s e = let z : ◌≡◌ {A = ℕ} 0 1 = cc in absurd (omega arith)
found-is (some t) s e = cc

found_none : (o : Option ℕ) → size_found o ≡ None → o ≡ none
found_none none e = refl
found_none (some t) e = let z : ◌≡◌ {A = ℕ} 0 1 = cc in absurd (omega arith)

pub size-within : (o : Option (List ℕ)) (s : DomainSize) → size_after o ≡ Some s → (1 ≤ s.0) × (s.0 ≤ 8)
size-within none s e = let z : ◌≡◌ {A = ℕ} 0 1 = cc in absurd (omega arith)
size-within (some v) s e = size_of-within v s.0 (found-is (size_of v) s e)

-- going on with the size that follows the key
module _ (r : Refusal) (k : ℕ → Answer Case) where
  unsized : (o : Option (List ℕ)) → size_after o ≡ None → (or_refuse o r >>= λ v. (or_refuse (size_of v) r >>= k)) ≡ refused r
  unsized none z = bind-refused _ _ r refl
  unsized (some v) z = bind-step _ _ v _ refl (bind-refused _ _ r (or_refuse-of-none (size_of v) r (found_none (size_of v) z)))

  sized : (o : Option (List ℕ)) (s : DomainSize) → size_after o ≡ Some s → (or_refuse o r >>= λ v. (or_refuse (size_of v) r >>= k)) ≡ k s.0
  sized none s z = let z : ◌≡◌ {A = ℕ} 0 1 = cc in absurd (omega arith)
  sized (some v) s z = bind-step _ _ v _ refl (bind-step _ _ s.0 _ (or_refuse-of-some (size_of v) r s.0 (found-is (size_of v) s z)) refl)

-- what the case is read to
module _ (g : Signature) (text : List ℕ) where
  pub no-first : cut_line text ≡ none → read_case g text ≡ refused (at_line 12 1)
  unfolding read_case
  no-first e = bind-refused _ _ (at_line 12 1) (or_refuse-of-none _ (at_line 12 1) e)

  module _ (a rest : List ℕ) (e : cut_line text ≡ some (a, rest)) where
    pub other-first : same a (bytes "case=1") ≡ false → read_case g text ≡ refused (at_line 12 1)
    unfolding read_case
    other-first h = bind-step _ _ (a, rest) _ (or_refuse-of-some _ (at_line 12 1) (a, rest) e) (bind-refused _ _ (at_line 12 1) (check-of-false _ (at_line 12 1) h))

    module _ (h : same a (bytes "case=1") ≡ true) where
      pub no_second : cut_line rest ≡ none → read_case g text ≡ refused (at_line 12 2)
      unfolding read_case
      no_second k =
          bind-step _ _ (a, rest) _ (or_refuse-of-some _ (at_line 12 1) (a, rest) e)
          (bind-step _ _ tt _ (check-of-true _ (at_line 12 1) h) (bind-refused _ _ (at_line 12 2) (or_refuse-of-none _ (at_line 12 2) k)))

      module _ (b tables : List ℕ) (k : cut_line rest ≡ some (b, tables)) where
        pub no_size : size_after (after_key (bytes "size=") b) ≡ None → read_case g text ≡ refused (at_line 12 2)
        unfolding read_case
        no_size z =
            bind-step _ _ (a, rest) _ (or_refuse-of-some _ (at_line 12 1) (a, rest) e)
            (bind-step _ _ tt _ (check-of-true _ (at_line 12 1) h)
            (bind-step _ _ (b, tables) _ (or_refuse-of-some _ (at_line 12 2) (b, tables) k) (unsized (at_line 12 2) _ (after_key (bytes "size=") b) z)))

        pub tables-left : (s : DomainSize) → size_after (after_key (bytes "size=") b) ≡ Some s → read_case g text ≡ case_of_tables s.0 g tables
        unfolding read_case case_of_tables
        tables-left s z =
            bind-step _ _ (a, rest) _ (or_refuse-of-some _ (at_line 12 1) (a, rest) e)
            (bind-step _ _ tt _ (check-of-true _ (at_line 12 1) h)
            (bind-step _ _ (b, tables) _ (or_refuse-of-some _ (at_line 12 2) (b, tables) k) (sized (at_line 12 2) (λ s. case_of_tables s g tables) (after_key (bytes "size=") b) s z)))
