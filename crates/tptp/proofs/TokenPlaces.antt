-- Where a token of a text stands: between whole pieces, cut out by its place and its length; a comment without end after them.
use Prim.Native.Nat.{ℕ, zero, suc, ◌+◌, ◌-◌, ◌≤◌}
use mathlib.Core.Path.{◌≡◌, refl, sym, ap, ◌∙◌, subst}
use mathlib.Core.Logic.{◌⊎◌, inl, inr}
use mathlib.Core.Bool.{false}
use mathlib.Core.Option.{none}
use mathlib.Core.List.{List, [], ◌∷◌, ◌++◌, append_assoc, append-nil, head-eq_of_cons-eq, tail-eq_of_cons-eq}
use native.Mathlib.Omega.{arith}
use native.Mathlib.Nat.{add-zero}
use lib.Dec.{eqb}
use lib.ListN.{length, take, drop, length-append, take-append-drop}
use lib.Seq.{length-take-le, drop-length}
use Rattle.tptp.specs.Tokens.{TokenKind, open_comment, kind_number, TptpToken, Piece, gap, token, unclosed, to_comment_end, piece_of, more_bytes, piece_tokens, tokens_from}
use Rattle.tptp.proofs.Stepping.{skipped}
use Rattle.tptp.proofs.PieceSizes.{Sized, piece-sized, Opening, piece-opening}
use Rattle.tptp.proofs.Cutting.{fits}
use Rattle.tptp.proofs.CutTokens.{Closed, tokens_before, fits-within, closed-within, closed-own, line-end-none, before-step, own-none}

-- whole pieces x before r, with these tokens
pub record Cut (j n i : ℕ) (x r : List ℕ) (ts : List TptpToken) : Type 0 where
  pub closed : Closed j x r n
  pub before : tokens_before x n i ≡ ts

-- the token t after the tokens a
pub record TokenAt (text : List ℕ) (n i : ℕ) (a : List TptpToken) (t : TptpToken) : Type 0 where
  pub front : List ℕ
  pub own : List ℕ
  pub rest : List ℕ
  pub bytes : text ≡ front ++ (own ++ rest)
  pub place : t.place ≡ i + length front
  pub name : t.name ≡ own
  pub filled : 1 ≤ length own
  pub kind : eqb (kind_number open_comment) (kind_number t.kind) ≡ false
  pub starts : Cut 0 n i front (own ++ rest) a
  pub ends : Cut 1 n i (front ++ own) rest (a ++ (t ∷ []))

-- a comment without end after the tokens a
pub record CommentAt (text : List ℕ) (n i : ℕ) (a : List TptpToken) (t : TptpToken) : Type 0 where
  pub front : List ℕ
  pub inside : List ℕ
  pub bytes : text ≡ front ++ (47 ∷ 42 ∷ inside)
  pub place : t.place ≡ i + length text
  pub name : t.name ≡ []
  pub unended : to_comment_end inside ≡ none
  pub starts : Cut 0 n i front (47 ∷ 42 ∷ inside) a

-- tokens of one piece and later ones: the token t is of the piece, or later
abbrev Split : List TptpToken → List TptpToken → List TptpToken → TptpToken → List TptpToken → Type 0
Split us ts a t b = ((us ≡ t ∷ []) × (a ≡ [])) ⊎ ((a' : List TptpToken) × (a ≡ us ++ a') × (ts ≡ a' ++ (t ∷ b)))

split_one : (u : TptpToken) (ts a b : List TptpToken) (t : TptpToken) → u ∷ ts ≡ a ++ (t ∷ b) → Split (u ∷ []) ts a t b
split_one u ts [] b t e = inl (ap (λ (v : TptpToken). v ∷ []) (head-eq_of_cons-eq e), refl)
split_one u ts (v ∷ a) b t e = inr (a, ap (λ (w : TptpToken). w ∷ a) (sym (head-eq_of_cons-eq e)), tail-eq_of_cons-eq e)

split-piece : (p : Piece) (i : ℕ) (text : List ℕ) (ts a b : List TptpToken) (t : TptpToken) → piece_tokens p i text ++ ts ≡ a ++ (t ∷ b) → Split (piece_tokens p i text) ts a t b
split-piece (gap n) i text ts a b t e = inr (a, refl, e)
split-piece (token k n) i text ts a b t e = split_one (record { kind = k; name = take n text; place = i }) ts a b t e
split-piece unclosed i text ts a b t e = split_one (record { kind = open_comment; name = []; place = i + length text }) ts a b t e

none-there : (a b : List TptpToken) (t : TptpToken) → [] ≡ a ++ (t ∷ b) → ⊥
none-there a b t e = omega (arith, ap length e, length-append a (t ∷ b))

-- after a comment without end there is nothing
after-unclosed : (bs : List ℕ) (i : ℕ) → tokens_from bs (length bs) i ≡ []
after-unclosed bs i = skipped bs (length bs) i ∙ ap (λ (cs : List ℕ). tokens_from cs 0 (i + length bs)) (drop-length bs)

-- a piece that has j bytes after it before the cut
piece-fits : (j m : ℕ) (bs : List ℕ) (p : Piece) → Sized (suc (length bs)) p → (p ≡ unclosed → ⊥) → more_bytes p bs + j ≤ m → fits j m p
piece-fits j m bs (gap n) s c h = omega (arith, s.0, h)
piece-fits j m bs (token k n) s c h = omega (arith, s.0, h)
piece-fits j m bs unclosed s c h = absurd (c refl)

-- one more piece in front of whole pieces
cut_step : (j b i : ℕ) (bs x r : List ℕ) (p : Piece) (ts : List TptpToken) → bs ≡ x ++ r → piece_of b bs ≡ p → fits j (length x) p → Cut j (more_bytes p bs) (suc i) x r ts
    → Cut j 0 i (b ∷ x) r (piece_tokens p i (b ∷ bs) ++ ts)
cut_step j b i bs x r p ts e q f u =
    subst (λ (cs : List ℕ). piece_of b cs ≡ p → Cut j (more_bytes p cs) (suc i) x r ts → Cut j 0 i (b ∷ x) r (piece_tokens p i (b ∷ cs) ++ ts)) (sym e) here q u
  where
    here : piece_of b (x ++ r) ≡ p → Cut j (more_bytes p (x ++ r)) (suc i) x r ts → Cut j 0 i (b ∷ x) r (piece_tokens p i (b ∷ (x ++ r)) ++ ts)
    here q u =
        record {
          closed = subst (λ (v : Piece). fits j (length x) v × Closed j x r (more_bytes v (x ++ r))) (sym q) (f, u.closed);
          before = before-step r b x i p q (fits-within j (length x) p f) ∙ ap (λ (l : List TptpToken). piece_tokens p i (b ∷ (x ++ r)) ++ l) u.before;
        }

-- what stands between whole pieces, a piece p in front
module _ (b : ℕ) (bs : List ℕ) (i : ℕ) (p : Piece) (is-it : piece_of b bs ≡ p) (ends : p ≡ unclosed → ⊥) (a : List TptpToken) (t : TptpToken) where
  fits_in : (j m : ℕ) → more_bytes p bs + j ≤ m → fits j m p
  fits_in j m h = piece-fits j m bs p (subst (Sized (suc (length bs))) is-it (piece-sized b bs)) ends h

  token-after : TokenAt bs (more_bytes p bs) (suc i) a t → TokenAt (b ∷ bs) 0 i (piece_tokens p i (b ∷ bs) ++ a) t
  token-after u =
      let x : List ℕ = u.front in
      let y : List ℕ = u.own in
      let r : List ℕ = u.rest in
      let n : ℕ = more_bytes p bs in
      let k : n ≤ length x = closed-within 0 x (y ++ r) n u.starts.closed in
      let us : List TptpToken = piece_tokens p i (b ∷ bs) in
      record {
        front = b ∷ x;
        own = y;
        rest = r;
        bytes = ap (λ (l : List ℕ). b ∷ l) u.bytes;
        place = let h : t.place ≡ suc i + length x = u.place in omega (arith, h);
        name = u.name;
        filled = u.filled;
        kind = u.kind;
        starts = cut_step 0 b i bs x (y ++ r) p a u.bytes is-it (fits_in 0 (length x) (omega (arith, k))) u.starts;
        ends = subst (Cut 1 0 i ((b ∷ x) ++ y) r) (sym (append_assoc us a (t ∷ [])))
            (cut_step 1 b i bs (x ++ y) r p (a ++ (t ∷ [])) (u.bytes ∙ sym (append_assoc x y r)) is-it (fits_in 1 (length (x ++ y)) (omega (arith, k, length-append x y, u.filled))) u.ends);
      }

  comment-after : CommentAt bs (more_bytes p bs) (suc i) a t → CommentAt (b ∷ bs) 0 i (piece_tokens p i (b ∷ bs) ++ a) t
  comment-after u =
      let x : List ℕ = u.front in
      let r : List ℕ = 47 ∷ 42 ∷ u.inside in
      let n : ℕ = more_bytes p bs in
      let k : n ≤ length x = closed-within 0 x r n u.starts.closed in
      record {
        front = b ∷ x;
        inside = u.inside;
        bytes = ap (λ (l : List ℕ). b ∷ l) u.bytes;
        place = let h : t.place ≡ suc i + length bs = u.place in omega (arith, h);
        name = u.name;
        unended = u.unended;
        starts = cut_step 0 b i bs x r p a u.bytes is-it (fits_in 0 (length x) (omega (arith, k))) u.starts;
      }

-- a byte of a piece that began before in front
token-skip : (b : ℕ) (bs : List ℕ) (n i : ℕ) (a : List TptpToken) (t : TptpToken) → TokenAt bs n (suc i) a t → TokenAt (b ∷ bs) (suc n) i a t
token-skip b bs n i a t u =
    let h : t.place ≡ suc i + length u.front = u.place in
    record {
      front = b ∷ u.front;
      own = u.own;
      rest = u.rest;
      bytes = ap (λ (l : List ℕ). b ∷ l) u.bytes;
      place = omega (arith, h);
      name = u.name;
      filled = u.filled;
      kind = u.kind;
      starts = record { closed = u.starts.closed; before = u.starts.before };
      ends = record { closed = u.ends.closed; before = u.ends.before };
    }

comment-skip : (b : ℕ) (bs : List ℕ) (n i : ℕ) (a : List TptpToken) (t : TptpToken) → CommentAt bs n (suc i) a t → CommentAt (b ∷ bs) (suc n) i a t
comment-skip b bs n i a t u =
    let h : t.place ≡ suc i + length bs = u.place in
    record {
      front = b ∷ u.front;
      inside = u.inside;
      bytes = ap (λ (l : List ℕ). b ∷ l) u.bytes;
      place = omega (arith, h);
      name = u.name;
      unended = u.unended;
      starts = record { closed = u.starts.closed; before = u.starts.before };
    }

-- nothing before the first piece
cut-start : (i : ℕ) (r : List ℕ) → Cut 0 0 i [] r []
cut-start i r = record { closed = tt; before = line-end-none [] i }

-- a token that is the first piece
token-first : (b : ℕ) (bs : List ℕ) (i : ℕ) (k : TokenKind) (n : ℕ) → piece_of b bs ≡ token k n → TokenAt (b ∷ bs) 0 i [] (record { kind = k; name = take n (b ∷ bs); place = i })
token-first b bs i k zero q = absurd (omega (arith, (subst (Sized (suc (length bs))) q (piece-sized b bs)).0))
token-first b bs i k (suc n) q =
    let y : List ℕ = take n bs in
    let r : List ℕ = drop n bs in
    let le : suc n ≤ suc (length bs) = (subst (Sized (suc (length bs))) q (piece-sized b bs)).1 in
    let l : length y ≡ suc n - 1 = omega (arith, length-take-le n bs (omega (arith, le))) in
    record {
      front = [];
      own = b ∷ y;
      rest = r;
      bytes = ap (λ (l : List ℕ). b ∷ l) (sym (take-append-drop n bs));
      place = sym (add-zero i);
      name = refl;
      filled = omega arith;
      kind = subst (Opening b bs) q (piece-opening b bs);
      starts = cut-start i ((b ∷ y) ++ r);
      ends = cut_step 1 b i bs y r (token k (suc n)) [] (sym (take-append-drop n bs)) q (omega (arith, l))
          (record { closed = subst (Closed 1 y r) l (closed-own 1 y r); before = ap (λ (m : ℕ). tokens_before y m (suc i)) (sym l) ∙ own-none y (suc i) });
    }

comment-first : (b : ℕ) (bs : List ℕ) (i : ℕ) → piece_of b bs ≡ unclosed → CommentAt (b ∷ bs) 0 i [] (record { kind = open_comment; name = []; place = i + length (b ∷ bs) })
comment-first b bs i q =
    let o : Opening b bs unclosed = subst (Opening b bs) q (piece-opening b bs) in
    record {
      front = [];
      inside = o.0;
      bytes = ap (λ (c : ℕ). c ∷ bs) o.1 ∙ ap (λ (l : List ℕ). 47 ∷ l) o.2;
      place = refl;
      name = refl;
      unended = o.3;
      starts = cut-start i (47 ∷ 42 ∷ o.0);
    }

-- where a token stands
pub located : (text : List ℕ) (n i : ℕ) (a b : List TptpToken) (t : TptpToken) → tokens_from text n i ≡ a ++ (t ∷ b) → TokenAt text n i a t ⊎ CommentAt text n i a t
located [] zero i a b t e = absurd (none-there a b t e)
located [] (suc n) i a b t e = absurd (none-there a b t e)
located (c ∷ bs) zero i a b t e =
    go (piece_of c bs) refl (λ n a e. located bs n (suc i) a b t e) (split-piece (piece_of c bs) i (c ∷ bs) (tokens_from bs (more_bytes (piece_of c bs) bs) (suc i)) a b t e)
  where
    Result : List ℕ → ℕ → ℕ → List TptpToken → TptpToken → Type 0
    Result text n i a t = TokenAt text n i a t ⊎ CommentAt text n i a t

    Later : Type 0
    Later = (n : ℕ) (a : List TptpToken) → tokens_from bs n (suc i) ≡ a ++ (t ∷ b) → Result bs n (suc i) a t

    later : (p : Piece) → piece_of c bs ≡ p → (p ≡ unclosed → ⊥) → (a' : List TptpToken) → Result bs (more_bytes p bs) (suc i) a' t → a ≡ piece_tokens p i (c ∷ bs) ++ a' → Result (c ∷ bs) 0 i a t
    later p q h a' (inl u) k = inl (subst (λ (l : List TptpToken). TokenAt (c ∷ bs) 0 i l t) (sym k) (token-after c bs i p q h a' t u))
    later p q h a' (inr u) k = inr (subst (λ (l : List TptpToken). CommentAt (c ∷ bs) 0 i l t) (sym k) (comment-after c bs i p q h a' t u))

    go : (p : Piece) → piece_of c bs ≡ p → Later → Split (piece_tokens p i (c ∷ bs)) (tokens_from bs (more_bytes p bs) (suc i)) a t b → Result (c ∷ bs) 0 i a t
    go (gap n) q ih (inl s) = absurd (omega (arith, ap length s.0))
    go (gap n) q ih (inr s) = later (gap n) q (λ z. let y : ◌≡◌ {A = ℕ} 0 1 = cc in omega arith) s.0 (ih (n - 1) s.0 s.2) s.1
    go (token k n) q ih (inl s) =
        inl (subst (λ (l : List TptpToken). TokenAt (c ∷ bs) 0 i l t) (sym s.1) (subst (TokenAt (c ∷ bs) 0 i []) (head-eq_of_cons-eq s.0) (token-first c bs i k n q)))
    go (token k n) q ih (inr s) = later (token k n) q (λ z. let y : ◌≡◌ {A = ℕ} 0 1 = cc in omega arith) s.0 (ih (n - 1) s.0 s.2) s.1
    go unclosed q ih (inl s) =
        inr (subst (λ (l : List TptpToken). CommentAt (c ∷ bs) 0 i l t) (sym s.1) (subst (CommentAt (c ∷ bs) 0 i []) (head-eq_of_cons-eq s.0) (comment-first c bs i q)))
    go unclosed q ih (inr s) = absurd (none-there s.0 b t (sym (after-unclosed bs (suc i)) ∙ s.2))
located (c ∷ bs) (suc n) i a b t e = go (located bs n (suc i) a b t e)
  where
    go : TokenAt bs n (suc i) a t ⊎ CommentAt bs n (suc i) a t → TokenAt (c ∷ bs) (suc n) i a t ⊎ CommentAt (c ∷ bs) (suc n) i a t
    go (inl u) = inl (token-skip c bs n i a t u)
    go (inr u) = inr (comment-skip c bs n i a t u)

-- a text is whole pieces, or its last token is a comment without end
pub whole-or-open : (x : List ℕ) (n i : ℕ) → n ≤ length x → Closed 0 x [] n ⊎ ((a : List TptpToken) × (t : TptpToken) × (tokens_from (x ++ []) n i ≡ a ++ (t ∷ [])) × (t.kind ≡ open_comment))
whole-or-open [] zero i h = inl tt
whole-or-open [] (suc n) i h = absurd (omega (arith, h))
whole-or-open (b ∷ x) (suc n) i h = whole-or-open x n (suc i) (omega (arith, h))
whole-or-open (b ∷ x) zero i h = go (piece_of b (x ++ [])) refl (λ n h. whole-or-open x n (suc i) h)
  where
    Open : List ℕ → ℕ → ℕ → Type 0
    Open text n i = (a : List TptpToken) × (t : TptpToken) × (tokens_from text n i ≡ a ++ (t ∷ [])) × (t.kind ≡ open_comment)

    same_length : length (x ++ []) ≡ length x
    same_length = ap length (append-nil x)

    Here : Piece → Type 0
    Here p = (fits 0 (length x) p × Closed 0 x [] (more_bytes p (x ++ []))) ⊎ ((a : List TptpToken) × (t : TptpToken) × (piece_tokens p i (b ∷ (x ++ [])) ++ tokens_from (x ++ []) (more_bytes p (x ++ [])) (suc i) ≡ a ++ (t ∷ [])) × (t.kind ≡ open_comment))

    later : (p : Piece) → fits 0 (length x) p → Closed 0 x [] (more_bytes p (x ++ [])) ⊎ Open (x ++ []) (more_bytes p (x ++ [])) (suc i) → Here p
    later p f (inl c) = inl (f, c)
    later p f (inr o) =
        let us : List TptpToken = piece_tokens p i (b ∷ (x ++ [])) in
        inr (us ++ o.0, o.1, ap (λ (ts : List TptpToken). us ++ ts) o.2 ∙ sym (append_assoc us o.0 (o.1 ∷ [])), o.3)

    go : (p : Piece) → piece_of b (x ++ []) ≡ p → ((n : ℕ) → n ≤ length x → Closed 0 x [] n ⊎ Open (x ++ []) n (suc i)) → Here p
    go (gap n) q ih =
        let s : (1 ≤ n) × (n ≤ suc (length (x ++ []))) = subst (Sized (suc (length (x ++ [])))) q (piece-sized b (x ++ [])) in
        later (gap n) (omega (arith, same_length)) (ih (n - 1) (omega (arith, same_length)))
    go (token k n) q ih =
        let s : (1 ≤ n) × (n ≤ suc (length (x ++ []))) = subst (Sized (suc (length (x ++ [])))) q (piece-sized b (x ++ [])) in
        later (token k n) (omega (arith, same_length)) (ih (n - 1) (omega (arith, same_length)))
    go unclosed q ih =
        let u : TptpToken = record { kind = open_comment; name = []; place = i + length (b ∷ (x ++ [])) } in
        inr ([], u, ap (λ (ts : List TptpToken). u ∷ ts) (after-unclosed (x ++ []) (suc i)), refl)
