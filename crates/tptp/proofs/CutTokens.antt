-- The tokens of a text that is cut between two pieces: those of the bytes before the cut, then those after it.
use Prim.Native.Nat.{ℕ, zero, suc, ◌+◌, ◌-◌, ◌≤◌}
use mathlib.Core.Path.{◌≡◌, refl, sym, ap, ◌∙◌, subst}
use mathlib.Core.List.{List, [], ◌∷◌, ◌++◌, append_assoc}
use native.Mathlib.Omega.{arith}
use native.Mathlib.Nat.{add-zero}
use lib.ListN.{length}
use lib.Seq.{take-append-le, drop-append_seam}
use Rattle.theory.specs.Bytes.{LF}
use Rattle.tptp.specs.Tokens.{TokenKind, TptpToken, Piece, gap, token, unclosed, piece_of, more_bytes, piece_tokens, tokens_from}
use Rattle.tptp.proofs.Stepping.{skipped}
use Rattle.tptp.proofs.Cutting.{fits, Parted, Lines, piece_cut, blank-parted, line-ends}

-- the bytes x, before r, are whole pieces, the first n of them of a piece that began before; blanks and comments among them end j bytes before r
abbrev pub Closed : ℕ → List ℕ → List ℕ → ℕ → Type 0
Closed j [] r zero = Unit {0}
Closed j [] r (suc n) = ⊥
Closed j (b ∷ x) r zero = fits j (length x) (piece_of b (x ++ r)) × Closed j x r (more_bytes (piece_of b (x ++ r)) (x ++ r))
Closed j (b ∷ x) r (suc n) = Closed j x r n

-- the tokens of whole pieces: those that they have before a line's end
abbrev pub tokens_before : List ℕ → ℕ → ℕ → List TptpToken
tokens_before x n i = tokens_from (x ++ (LF ∷ [])) n i

pub fits-within : (j m : ℕ) (p : Piece) → fits j m p → fits 0 m p
fits-within j m (gap n) h = omega (arith, h)
fits-within j m (token k n) h = h
fits-within j m unclosed h = h

-- the length of a piece that ends is not told by the bytes after it
pub more_same : (j m : ℕ) (bs cs : List ℕ) (p : Piece) → fits j m p → more_bytes p bs ≡ more_bytes p cs
more_same j m bs cs (gap n) h = refl
more_same j m bs cs (token k n) h = refl
more_same j m bs cs unclosed h = absurd h

pub closed-within : (j : ℕ) (x r : List ℕ) (n : ℕ) → Closed j x r n → n ≤ length x
closed-within j [] r zero h = omega arith
closed-within j [] r (suc n) h = absurd h
closed-within j (b ∷ x) r zero h = omega arith
closed-within j (b ∷ x) r (suc n) h = omega (arith, closed-within j x r n h)

pub closed-weaker : (j : ℕ) (x r : List ℕ) (n : ℕ) → Closed j x r n → Closed 0 x r n
closed-weaker j [] r zero h = tt
closed-weaker j [] r (suc n) h = h
closed-weaker j (b ∷ x) r zero h = (fits-within j (length x) (piece_of b (x ++ r)) h.0, closed-weaker j x r (more_bytes (piece_of b (x ++ r)) (x ++ r)) h.1)
closed-weaker j (b ∷ x) r (suc n) h = closed-weaker j x r n h

-- bytes of one piece that began before
pub closed-own : (j : ℕ) (x r : List ℕ) → Closed j x r (length x)
closed-own j [] r = tt
closed-own j (b ∷ x) r = closed-own j x r

-- what follows whole pieces may be changed
module _ (r c : List ℕ) (j : ℕ) (parted : Parted c) (line : Lines j r c) where
  pub closed-cut : (x : List ℕ) (n : ℕ) → Closed j x r n → Closed j x c n
  closed-cut [] zero h = tt
  closed-cut [] (suc n) h = h
  closed-cut (b ∷ x) zero h =
      let p : Piece = piece_of b (x ++ r) in
      let e : piece_of b (x ++ c) ≡ p = piece_cut r c j parted line b x h.0 in
      let k : Closed j x c (more_bytes p (x ++ c)) = subst (Closed j x c) (more_same j (length x) (x ++ r) (x ++ c) p h.0) (closed-cut x (more_bytes p (x ++ r)) h.1) in
      subst (λ (q : Piece). fits j (length x) q × Closed j x c (more_bytes q (x ++ c))) (sym e) (h.0, k)
  closed-cut (b ∷ x) (suc n) h = closed-cut x n h

line-end-parted : (c : List ℕ) → Parted (LF ∷ c)
line-end-parted c = blank-parted LF c refl

pub closed-line : (r c x : List ℕ) (n : ℕ) → Closed 0 x r n → Closed 0 x (LF ∷ c) n
closed-line r c x n h = closed-cut r (LF ∷ c) 0 (line-end-parted c) (line-ends r (LF ∷ c) refl) x n h

-- a piece that ends before a cut is the same before a line's end
pub piece-line : (r : List ℕ) (b : ℕ) (x : List ℕ) → fits 0 (length x) (piece_of b (x ++ r)) → piece_of b (x ++ (LF ∷ [])) ≡ piece_of b (x ++ r)
piece-line r b x h = piece_cut r (LF ∷ []) 0 (line-end-parted []) (line-ends r (LF ∷ []) refl) b x h

-- a line's end has no token
pub line-end-none : (c : List ℕ) (i : ℕ) → tokens_from (LF ∷ c) 0 i ≡ tokens_from c 0 (suc i)
unfolding piece_of
line-end-none c i = refl

-- the tokens of one more piece in front
pub before-step : (r : List ℕ) (b : ℕ) (x : List ℕ) (i : ℕ) (p : Piece) → piece_of b (x ++ r) ≡ p → fits 0 (length x) p
    → tokens_before (b ∷ x) 0 i ≡ piece_tokens p i (b ∷ (x ++ r)) ++ tokens_before x (more_bytes p (x ++ r)) (suc i)
before-step r b x i p e h =
    ap (λ (q : Piece). piece_tokens q i (b ∷ (x ++ (LF ∷ []))) ++ tokens_before x (more_bytes q (x ++ (LF ∷ []))) (suc i)) (piece-line r b x (subst (fits 0 (length x)) (sym e) h) ∙ e) ∙ go p h
  where
    named : (k : TokenKind) (n : ℕ) → n ≤ suc (length x) → piece_tokens (token k n) i (b ∷ (x ++ (LF ∷ []))) ≡ piece_tokens (token k n) i (b ∷ (x ++ r))
    named k n le = ap (λ (w : List ℕ). record { kind = k; name = w; place = i } ∷ []) (take-append-le n (b ∷ x) (LF ∷ []) le ∙ sym (take-append-le n (b ∷ x) r le))

    go : (q : Piece) → fits 0 (length x) q
        → piece_tokens q i (b ∷ (x ++ (LF ∷ []))) ++ tokens_before x (more_bytes q (x ++ (LF ∷ []))) (suc i) ≡ piece_tokens q i (b ∷ (x ++ r)) ++ tokens_before x (more_bytes q (x ++ r)) (suc i)
    go (gap n) h = refl
    go (token k n) h = ap (λ (ts : List TptpToken). ts ++ tokens_before x (n - 1) (suc i)) (named k n h)
    go unclosed h = absurd h

-- the law: the tokens before the cut, then those after it
pub tokens-cut : (x r : List ℕ) (n i : ℕ) → Closed 0 x r n → tokens_from (x ++ r) n i ≡ tokens_before x n i ++ tokens_from r 0 (i + length x)
tokens-cut [] r zero i h = ap (tokens_from r 0) (sym (add-zero i)) ∙ ap (λ (ts : List TptpToken). ts ++ tokens_from r 0 (i + 0)) (sym (line-end-none [] i))
tokens-cut [] r (suc n) i h = absurd h
tokens-cut (b ∷ x) r zero i h =
    let p : Piece = piece_of b (x ++ r) in
    let n : ℕ = more_bytes p (x ++ r) in
    let k : suc i + length x ≡ i + suc (length x) = omega arith in
    ap (λ (ts : List TptpToken). piece_tokens p i (b ∷ (x ++ r)) ++ ts) (tokens-cut x r n (suc i) h.1)
    ∙ sym (append_assoc (piece_tokens p i (b ∷ (x ++ r))) (tokens_before x n (suc i)) (tokens_from r 0 (suc i + length x)))
    ∙ ap (λ (ts : List TptpToken). ts ++ tokens_from r 0 (suc i + length x)) (sym (before-step r b x i p refl h.0))
    ∙ ap (λ (m : ℕ). tokens_before (b ∷ x) 0 i ++ tokens_from r 0 m) k
tokens-cut (b ∷ x) r (suc n) i h =
    let k : suc i + length x ≡ i + suc (length x) = omega arith in
    tokens-cut x r n (suc i) h ∙ ap (λ (m : ℕ). tokens_before x n (suc i) ++ tokens_from r 0 m) k

-- bytes of one piece that began before have no token of their own
pub own-none : (x : List ℕ) (i : ℕ) → tokens_before x (length x) i ≡ []
own-none x i = skipped (x ++ (LF ∷ [])) (length x) i ∙ ap (λ (bs : List ℕ). tokens_from bs 0 (i + length x)) (drop-append_seam x (LF ∷ [])) ∙ line-end-none [] (i + length x)
