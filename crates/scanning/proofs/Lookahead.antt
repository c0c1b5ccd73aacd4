-- Looking ahead token by token: what a token and the lists open before it leave to be counted, and what the loops keep.
use Prim.Native.Nat.{ℕ, zero, suc, ◌+◌, ◌-◌, ◌≤◌, ◌<◌}
use mathlib.Core.Path.{◌≡◌, refl, ap, ◌∙◌}
use mathlib.Core.Bool.{Bool, true, false, cond}
use mathlib.Core.List.{List, [], ◌∷◌, map}
use native.Mathlib.Omega.{arith}
use lib.ListN.{length}
use Rattle.tptp.specs.Tokens.{TokenKind, lower_word, upper_word, digits, falsum, left_paren, right_paren, comma, full_stop, bar, tilde, equal_sign, unequal_sign, foreign, open_comment}
use Rattle.tptp.specs.Trees.{Name, name_of}
use Rattle.tptp.specs.Written.{Item, item_of, item}
use Rattle.tptp.specs.Scanning.{same_token_kind, commas, relation_ahead}
use Rattle.tokens.specs.Pieces.{kind_in}
use Rattle.tokens.specs.NextTokens.{token_in, NextFound}
use Rattle.std.specs.Prelude.{Some, None}
use Rattle.tokens.specs.declared.next.Token.{Token}
use Rattle.scanning.specs.Ahead.{items_at}

-- in the list itself
commas-outside : (k : TokenKind) (w : Name) (us : List Item) → commas (item_of k w ∷ us) 0 ≡ cond (same_token_kind left_paren k) (commas us 1) (cond (same_token_kind right_paren k) 0 (cond (same_token_kind comma k) (suc (commas us 0)) (commas us 0)))
commas-outside lower_word w us = refl
commas-outside upper_word w us = refl
commas-outside digits w us = refl
commas-outside falsum w us = refl
commas-outside left_paren w us = refl
commas-outside right_paren w us = refl
commas-outside comma w us = refl
commas-outside full_stop w us = refl
commas-outside bar w us = refl
commas-outside tilde w us = refl
commas-outside equal_sign w us = refl
commas-outside unequal_sign w us = refl
commas-outside foreign w us = refl
commas-outside open_comment w us = refl

-- in lists inside it
commas-inside : (k : TokenKind) (w : Name) (us : List Item) (m : ℕ) → commas (item_of k w ∷ us) (suc m) ≡ cond (same_token_kind left_paren k) (commas us (suc (suc m))) (cond (same_token_kind right_paren k) (commas us m) (commas us (suc m)))
commas-inside lower_word w us m = refl
commas-inside upper_word w us m = refl
commas-inside digits w us m = refl
commas-inside falsum w us m = refl
commas-inside left_paren w us m = refl
commas-inside right_paren w us m = refl
commas-inside comma w us m = refl
commas-inside full_stop w us m = refl
commas-inside bar w us m = refl
commas-inside tilde w us m = refl
commas-inside equal_sign w us m = refl
commas-inside unequal_sign w us m = refl
commas-inside foreign w us m = refl
commas-inside open_comment w us m = refl

-- the items from a place on begin with that of the next token
abbrev name_at : List ℕ → Token → Name
name_at text t = name_of (token_in text t)

pub items-next : (text : List ℕ) (i : ℕ) (t : Token) → NextFound text i (Some t) → items_at text i ≡ item_of (kind_in t.kind) (name_at text t) ∷ items_at text t.end
items-next text i t f = ap (map item) f.listed

pub items-none : (text : List ℕ) (i : ℕ) → NextFound text i None → items_at text i ≡ []
items-none text i f = ap (map item) f.listed

pub next-further : (text : List ℕ) (i : ℕ) (t : Token) → NextFound text i (Some t) → (i < t.end) × (t.end ≤ length text)
next-further text i t f = (f.within.1.1.0, f.within.1.1.1)

-- what is looked for from `at` on is what is looked for from place i on with so many lists open
pub record Relating (text : List ℕ) (at i m : ℕ) : Type 0 where
  pub same : relation_ahead (items_at text at) 0 ≡ relation_ahead (items_at text i) m
  pub few : m ≤ i
  pub within : i ≤ length text

-- the commas of the list open at `at` are n and those from place i on with so many lists open
pub record Counting (text : List ℕ) (at i m n : ℕ) : Type 0 where
  pub same : commas (items_at text at) 0 ≡ n + commas (items_at text i) m
  pub few : m + n ≤ i
  pub within : i ≤ length text

pub no-commas : (m : ℕ) → commas [] m ≡ 0
no-commas zero = refl
no-commas (suc m) = refl

module _ (k : TokenKind) (w : Name) (us : List Item) where
  abbrev here : List Item
  here = item_of k w ∷ us

  pub commas-open : (m : ℕ) → same_token_kind left_paren k ≡ true → commas here m ≡ commas us (m + 1)
  commas-open zero l = commas-outside k w us ∙ ap (λ (b : Bool). cond b (commas us 1) (cond (same_token_kind right_paren k) 0 (cond (same_token_kind comma k) (suc (commas us 0)) (commas us 0)))) l
  commas-open (suc m) l =
      let e : suc (suc m) ≡ suc m + 1 = omega arith in
      commas-inside k w us m ∙ ap (λ (b : Bool). cond b (commas us (suc (suc m))) (cond (same_token_kind right_paren k) (commas us m) (commas us (suc m)))) l ∙ ap (commas us) e

  -- in the list itself
  commas-here : (b c : Bool) → same_token_kind left_paren k ≡ false → same_token_kind right_paren k ≡ b → same_token_kind comma k ≡ c → commas here 0 ≡ cond b 0 (cond c (suc (commas us 0)) (commas us 0))
  commas-here b c l r e =
      commas-outside k w us
      ∙ ap (λ (x : Bool). cond x (commas us 1) (cond (same_token_kind right_paren k) 0 (cond (same_token_kind comma k) (suc (commas us 0)) (commas us 0)))) l
      ∙ ap (λ (x : Bool). cond x 0 (cond (same_token_kind comma k) (suc (commas us 0)) (commas us 0))) r
      ∙ ap (λ (x : Bool). cond b 0 (cond x (suc (commas us 0)) (commas us 0))) e

  -- in a list inside it
  commas-within : (m : ℕ) (b : Bool) → same_token_kind left_paren k ≡ false → same_token_kind right_paren k ≡ b → commas here (suc m) ≡ cond b (commas us m) (commas us (suc m))
  commas-within m b l r =
      commas-inside k w us m ∙ ap (λ (x : Bool). cond x (commas us (suc (suc m))) (cond (same_token_kind right_paren k) (commas us m) (commas us (suc m)))) l
      ∙ ap (λ (x : Bool). cond x (commas us m) (commas us (suc m))) r

  pub commas-stop : (m : ℕ) → m ≡ 0 → same_token_kind left_paren k ≡ false → same_token_kind right_paren k ≡ true → commas here m ≡ 0
  commas-stop zero z l r = commas-here true (same_token_kind comma k) l r refl
  commas-stop (suc m) z l r = absurd (omega arith)

  pub commas-close : (m : ℕ) → (m ≡ 0 → ⊥) → same_token_kind left_paren k ≡ false → same_token_kind right_paren k ≡ true → commas here m ≡ commas us (m - 1)
  commas-close zero z l r = absurd (z refl)
  commas-close (suc m) z l r = let n : m ≡ suc m - 1 = omega arith in commas-within m true l r ∙ ap (commas us) n

  pub commas-inner : (m : ℕ) → (m ≡ 0 → ⊥) → same_token_kind left_paren k ≡ false → same_token_kind right_paren k ≡ false → commas here m ≡ commas us m
  commas-inner zero z l r = absurd (z refl)
  commas-inner (suc m) z l r = commas-within m false l r

  pub commas-one : (m : ℕ) → m ≡ 0 → same_token_kind left_paren k ≡ false → same_token_kind right_paren k ≡ false → same_token_kind comma k ≡ true → commas here m ≡ suc (commas us m)
  commas-one zero z l r e = commas-here false true l r e
  commas-one (suc m) z l r e = absurd (omega arith)

  pub commas-other : (m : ℕ) → m ≡ 0 → same_token_kind left_paren k ≡ false → same_token_kind right_paren k ≡ false → same_token_kind comma k ≡ false → commas here m ≡ commas us m
  commas-other zero z l r e = commas-here false false l r e
  commas-other (suc m) z l r e = absurd (omega arith)
