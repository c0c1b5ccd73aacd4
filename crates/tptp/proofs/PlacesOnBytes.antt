-- Places of 15, on bytes.
use Prim.Native.Nat.{ℕ, zero, suc, ◌+◌, ◌≤◌}
use mathlib.Core.Path.{◌≡◌, refl, sym, ap, ◌∙◌, subst}
use mathlib.Core.Logic.{◌⊎◌, inl, inr}
use mathlib.Core.Bool.{Bool, true, false, false≢true}
use mathlib.Core.Option.{none, some}
use mathlib.Core.List.{List, [], ◌∷◌, ◌++◌, append_assoc}
use native.Mathlib.Omega.{arith}
use lib.Dec.{eqb}
use lib.ListN.{length, take, drop, length-append, take-append-drop}
use lib.Seq.{take_at, drop_at}
use Rattle.theory.specs.Bytes.{bytes, LF}
use Rattle.theory.specs.Refusals.{Place, Refusal, refused}
use Rattle.tptp.specs.Places.{place_from, place_of, refused_at}
use Rattle.tptp.specs.Tokens.{TokenKind, open_comment, kind_number, TptpToken, tokens_from, tokens}
use Rattle.tptp.specs.Grammar.{DueToken, statement}
use Rattle.tptp.specs.Tptp.{tptp_text}
use Rattle.tptp.specs.Claims.Places.{due_after_tokens, Misplaced, AtToken, AtEnd}
use Rattle.tptp.specs.Claims.Deciding.{first_of_statements}
use Rattle.tptp.specs.Claims.PlacesOnBytes.{end_of, TokenEnds, blank_or_nothing, Completable, BeyondHelp, MissingText}
use Rattle.tptp.specs.Claims.PlacesOnBytes as claims
use Rattle.tptp.proofs.Cutting.{Parted, nothing-parted, blank-parted, line-ends, line_before}
use Rattle.tptp.proofs.CutTokens.{Closed, closed-weaker, closed-cut, tokens-cut}
use Rattle.tptp.proofs.TokenPlaces.{TokenAt, CommentAt, located}
use Rattle.tptp.proofs.Places.{at-foreign, answer-stays, stays, where-it-is}
use Rattle.tptp.proofs.Deciding.{by-foreign}
use Rattle.tptp.proofs.Completing.{completes, completes-comment, completes-all, misplaced-open}

-- the line and column of a place are told by the bytes before it
same_place : (z r c : List ℕ) (n l k : ℕ) → n ≤ length z → place_from (z ++ r) n l k ≡ place_from (z ++ c) n l k
same_place [] r c n l k h = start n (omega (arith, h)) r ∙ sym (start n (omega (arith, h)) c)
  where
    start : (n : ℕ) → n ≡ 0 → (r : List ℕ) → place_from r n l k ≡ record { line = l; column = k }
    start zero e [] = refl
    start zero e (b ∷ r) = refl
    start (suc n) e r = absurd (omega (arith, e))
same_place (b ∷ z) r c zero l k h = refl
same_place (b ∷ z) r c (suc n) l k h = go (eqb b LF) (λ l k. same_place z r c n l k (omega (arith, h)))
  where
    next : Bool → List ℕ → Place
    next q bs = elim q [ true ↦ place_from bs n (suc l) 1 | false ↦ place_from bs n l (suc k) ]

    go : (q : Bool) → ((l k : ℕ) → place_from (z ++ r) n l k ≡ place_from (z ++ c) n l k) → next q (z ++ r) ≡ next q (z ++ c)
    go true ih = ih (suc l) 1
    go false ih = ih l (suc k)

same-refusal : (z r c : List ℕ) (m n : ℕ) → n ≤ length z → refused_at {A = List ℕ} (z ++ r) m n ≡ refused_at (z ++ c) m n
unfolding place_of
same-refusal z r c m n h = ap (λ (w : Place). refused (record { number = m; place = w; needed = 0 })) (same_place z r c n 1 1 h)

-- where a token ends in two texts after the same bytes, and these are whole pieces in one, they are in the other
ends-too : (z r c : List ℕ) → Closed 0 z r 0 → TokenEnds (z ++ c) (length z) → Closed 0 z c 0
unfolding tokens
ends-too z r c h (t, (a, b, e), k) = go (located (z ++ c) 0 0 a b t e)
  where
    nothing : (c : List ℕ) → length c ≡ 0 → Closed 0 z c 0
    nothing [] e = closed-cut r [] 0 nothing-parted (line-ends r [] refl) z 0 h
    nothing (d ∷ c) e = absurd (omega (arith, e))

    go : TokenAt (z ++ c) 0 0 a t ⊎ CommentAt (z ++ c) 0 0 a t → Closed 0 z c 0
    go (inl u) =
        let y : List ℕ = u.front ++ u.own in
        let l : length y ≡ length z = omega (arith, length-append u.front u.own, u.place, ap length u.name, k) in
        let q : y ++ u.rest ≡ z ++ c = append_assoc u.front u.own u.rest ∙ sym u.bytes in
        let front : y ≡ z = sym (take_at y u.rest (length z) l) ∙ ap (take (length z)) q ∙ take_at z c (length z) refl in
        let back : u.rest ≡ c = sym (drop_at y u.rest (length z) l) ∙ ap (drop (length z)) q ∙ drop_at z c (length z) refl in
        let w : Closed 0 y u.rest 0 = closed-weaker 1 y u.rest 0 u.ends.closed in
        subst (λ (x : List ℕ). Closed 0 x c 0) front (subst (λ (x : List ℕ). Closed 0 y x 0) back w)
    go (inr u) = nothing c (omega (arith, length-append z c, u.place, ap length u.name, k))

-- a 15 at a token
module _ (text : List ℕ) (room : ℕ) (r : Refusal) (a b : List TptpToken) (t : TptpToken) (is-refused : tptp_text text room ≡ refused r) (there : tokens text ≡ a ++ (t ∷ b)) (misplaced : Misplaced a t)
    (at-token : tptp_text text room ≡ refused_at text 15 t.place) (u : TokenAt text 0 0 a t) where
  up_to : List ℕ
  up_to = u.front ++ u.own

  text-is : text ≡ up_to ++ u.rest
  unfolding up_to
  text-is = u.bytes ∙ sym (append_assoc u.front u.own u.rest)

  length-up_to : length up_to ≡ end_of t
  unfolding up_to
  length-up_to = omega (arith, length-append u.front u.own, u.place, ap length u.name)

  take-up_to : take (end_of t) text ≡ up_to
  take-up_to = ap (take (end_of t)) text-is ∙ take_at up_to u.rest (end_of t) length-up_to

  closed-up_to : Closed 1 up_to u.rest 0
  unfolding up_to
  closed-up_to = u.ends.closed

  -- the token stands in each text in which the bytes up to its end are whole pieces
  there-too : (c : List ℕ) → Closed 0 up_to c 0 → tokens (up_to ++ c) ≡ a ++ (t ∷ tokens_from c 0 (0 + length up_to))
  unfolding tokens up_to
  there-too c h =
      tokens-cut up_to c 0 0 h
      ∙ ap (λ (ts : List TptpToken). ts ++ tokens_from c 0 (0 + length up_to)) u.ends.before
      ∙ append_assoc a (t ∷ []) (tokens_from c 0 (0 + length up_to))

  still-refused : (c : List ℕ) (room' : ℕ) → Closed 0 up_to c 0 → tptp_text (up_to ++ c) room' ≡ refused r
  still-refused c room' h =
      let le : t.place ≤ length up_to = omega (arith, length-up_to) in
      answer-stays text (up_to ++ c) room room' a b (tokens_from c 0 (0 + length up_to)) t there (there-too c h) misplaced at-token
      ∙ same-refusal up_to c u.rest 15 t.place le
      ∙ ap (λ (l : List ℕ). refused_at l 15 t.place) (sym text-is)
      ∙ sym at-token
      ∙ is-refused

  beyond-help : BeyondHelp text r
  beyond-help =
      record {
        token = t;
        has = (a, b, there);
        starts = omega (arith, u.filled, ap length u.name);
        ends = omega (arith, length-up_to, ap length text-is, length-append up_to u.rest);
        place = let q : r ≡ record { number = 15; place = place_of text t.place; needed = 0 } = cc in ap (λ (r : Refusal). r.place) q;
        stays = λ text' room' same ends.
            let c : List ℕ = drop (end_of t) text' in
            let e : text' ≡ up_to ++ c = sym (take-append-drop (end_of t) text') ∙ ap (λ (l : List ℕ). l ++ c) (same ∙ take-up_to) in
            let h : TokenEnds (up_to ++ c) (length up_to) = subst (TokenEnds (up_to ++ c)) (sym length-up_to) (subst (λ (l : List ℕ). TokenEnds l (end_of t)) e ends) in
            ap (λ (l : List ℕ). tptp_text l room') e ∙ still-refused c room' (ends-too up_to u.rest c (closed-weaker 1 up_to u.rest 0 closed-up_to) h);
        stays-before-blank = λ c room' h.
            ap (λ (l : List ℕ). tptp_text (l ++ c) room') take-up_to ∙ still-refused c room' (closed-weaker 1 up_to c 0 (closed-cut u.rest c 1 (parted c h) (line_before u.rest c) up_to 0 closed-up_to));
        before = subst (λ (l : List ℕ). Completable (l ++ bytes "\n")) (sym take-front) (completes u.front (u.own ++ u.rest) a misplaced.0 u.starts misplaced.1);
      }
    where
      parted : (c : List ℕ) → blank_or_nothing c ≡ true → Parted c
      parted [] h = nothing-parted
      parted (b ∷ c) h = blank-parted b c h

      take-front : take t.place text ≡ u.front
      take-front = let l : length u.front ≡ t.place = omega (arith, u.place) in ap (take t.place) u.bytes ∙ take_at u.front (u.own ++ u.rest) t.place l

-- a 15 at the end of the text
missing-text : (text : List ℕ) (room : ℕ) (r : Refusal) → tptp_text text room ≡ refused r → tptp_text text room ≡ refused_at text 15 (length text) → Completable (text ++ bytes "\n") ⊎ Completable (text ++ bytes "*/") → MissingText text r
missing-text text room r h e c =
    let q : r ≡ record { number = 15; place = place_of text (length text); needed = 0 } = cc in
    record { place = ap (λ (r : Refusal). r.place) q; all = c }

where-on-bytes : (text : List ℕ) (room : ℕ) (r : Refusal) → tptp_text text room ≡ refused r → r.number ≡ 15 → BeyondHelp text r ⊎ MissingText text r
unfolding tokens
where-on-bytes text room r h k =
    let f = at-foreign text room r h k in
    go f.0 f.2 (where-it-is text f.0 f.1)
  where
    at : (p : ℕ) → tptp_text text room ≡ refused_at text 15 p → (a : List TptpToken) (t : TptpToken) (b : List TptpToken) → tokens text ≡ a ++ (t ∷ b) → Misplaced a t → t.place ≡ p → TokenAt text 0 0 a t ⊎ CommentAt text 0 0 a t
        → BeyondHelp text r ⊎ MissingText text r
    at p e a t b there m q (inl u) = inl (beyond-help text room r a b t h there m (e ∙ ap (refused_at text 15) (sym q)) u)
    at p e a t b there m q (inr u) =
        let l : p ≡ length text = omega (arith, q, u.place) in
        inr (missing-text text room r h (e ∙ ap (refused_at text 15) l) (inr (completes-comment text a t m.0 u m.1)))

    go : (p : ℕ) → tptp_text text room ≡ refused_at text 15 p → AtToken text p ⊎ AtEnd text p → BeyondHelp text r ⊎ MissingText text r
    go p e (inl (a, t, b, there, m, q)) = at p e a t b there m q (located text 0 0 a b t there)
    go p e (inr (d, due, m, q)) = inr (missing-text text room r h (e ∙ ap (refused_at text 15) q) (inl (completes-all text d due)))

unclosed : (text : List ℕ) (room : ℕ) (a : List TptpToken) (t : TptpToken) (d : DueToken) → tokens text ≡ a ++ (t ∷ []) → t.kind ≡ open_comment
    → due_after_tokens statement a ≡ some d → first_of_statements text ≡ none → (tptp_text text room ≡ refused_at text 15 (length text)) × Completable (text ++ bytes "*/")
unfolding tokens
unclosed text room a t d there k due h = go (located text 0 0 a [] t there)
  where
    m : Misplaced a t
    m = (d, due, misplaced-open d t k)

    go : TokenAt text 0 0 a t ⊎ CommentAt text 0 0 a t → (tptp_text text room ≡ refused_at text 15 (length text)) × Completable (text ++ bytes "*/")
    go (inl u) = absurd (false≢true (sym u.kind ∙ ap (λ (l : TokenKind). eqb (kind_number open_comment) (kind_number l)) k))
    go (inr u) = let l : t.place ≡ length text = omega (arith, u.place) in (by-foreign text room (length text) h (stays text a [] t there m ∙ ap some l), completes-comment text a t d u due)

pub places-on-bytes : claims.PlacesOnBytes
places-on-bytes = record { where-it-is = where-on-bytes; unclosed = unclosed }
