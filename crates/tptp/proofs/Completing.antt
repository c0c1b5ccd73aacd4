-- Whole pieces whose tokens may begin a file, and such pieces before a comment without end, can be completed to a text without a 15.
use Prim.Native.Nat.{ℕ, zero, suc, ◌+◌, ◌-◌}
use mathlib.Core.Path.{◌≡◌, refl, sym, ap, ◌∙◌}
use mathlib.Core.Logic.{◌⊎◌, inl, inr}
use mathlib.Core.Bool.{Bool, true, false, ◌&&◌}
use mathlib.Core.Option.{Option, none, some}
use mathlib.Core.List.{List, [], ◌∷◌, ◌++◌, append_assoc, append-nil}
use native.Mathlib.Omega.{arith}
use lib.Dec.{eqb}
use lib.ListN.{length, drop}
use lib.Seq.{drop-append-add}
use Rattle.theory.specs.Bytes.{bytes, LF}
use Rattle.tptp.specs.Tokens.{TokenKind, open_comment, TptpToken, to_comment_end, Piece, gap, comment_piece, piece_of, more_bytes, piece_tokens, tokens_from, tokens}
use Rattle.tptp.specs.Grammar.{first, second, DueToken, statement, opening, name, name_comma, role, role_comma, clause, literal, literal_end, term, word_end, term_end, equality, closing, stop, due_after_token}
use Rattle.tptp.specs.Tptp.{read_file}
use Rattle.tptp.specs.Claims.Places.{due_after_tokens}
use Rattle.tptp.specs.Claims.PlacesOnBytes.{Without15, Completable}
use Rattle.tptp.proofs.Stepping.{next-piece}
use Rattle.tptp.proofs.Cutting.{comment-parted, line-goes-on}
use Rattle.tptp.proofs.CutTokens.{Closed, tokens_before, closed-cut, closed-line, line-end-none, tokens-cut}
use Rattle.tptp.proofs.TokenPlaces.{Cut, CommentAt, whole-or-open}
use Rattle.tptp.proofs.Finishing.{finish, finishes}
use Rattle.tptp.proofs.Places.{all_append, at-foreign, ends}

-- a text whose tokens are whole statements
pub without-15 : (text : List ℕ) → due_after_tokens statement (tokens text) ≡ some statement → Without15 text
without-15 text h =
    let e : (read_file text).foreign ≡ none = ends text statement h in
    record { whole = e; other = λ room r k q. let z : none ≡ some (at-foreign text room r k q).0 = sym e ∙ (at-foreign text room r k q).1 in let y : ◌≡◌ {A = ℕ} 0 1 = cc in omega arith }

-- bytes with the tokens a, and after them what is due
completed-by : (bs : List ℕ) (a : List TptpToken) (d : DueToken) (i : ℕ) → tokens (bs ++ finish d) ≡ a ++ tokens_from (finish d) 0 i → due_after_tokens statement a ≡ some d → Completable bs
completed-by bs a d i e h = (finish d, without-15 (bs ++ finish d) (ap (due_after_tokens statement) e ∙ all_append a (tokens_from (finish d) 0 i) statement d h ∙ finishes d i))

-- whole pieces are completed on a new line
pub completes : (x r : List ℕ) (a : List TptpToken) (d : DueToken) → Cut 0 0 0 x r a → due_after_tokens statement a ≡ some d → Completable (x ++ bytes "\n")
unfolding tokens
completes x r a d u h =
    let c : List ℕ = LF ∷ finish d in
    let i : ℕ = 0 + length x in
    completed-by (x ++ bytes "\n") a d (suc i)
    (ap (λ (l : List ℕ). tokens_from l 0 0) (append_assoc x (LF ∷ []) (finish d))
    ∙ tokens-cut x c 0 0 (closed-line r (finish d) x 0 u.closed)
    ∙ ap (λ (ts : List TptpToken). ts ++ tokens_from c 0 i) u.before
    ∙ ap (λ (ts : List TptpToken). a ++ ts) (line-end-none (finish d) i)) h

-- how far the end is from a byte that begins it, or the bytes after which do
abbrev farther : Bool → Option ℕ → Option ℕ
farther q o = elim q [ true ↦ some 2 | false ↦ elim o [ some m ↦ some (suc m) | none ↦ none ] ]

one_more : (q : Bool) (o o' : Option ℕ) (n : ℕ) → farther q o ≡ none → (o ≡ none → o' ≡ some n) → farther q o' ≡ some (suc n)
one_more true o o' n e f = let z : ◌≡◌ {A = ℕ} 0 1 = cc in absurd (omega arith)
one_more false (some m) o' n e f = let z : ◌≡◌ {A = ℕ} 0 1 = cc in absurd (omega arith)
one_more false none o' n e f = ap (farther false) (f refl)

-- where a comment had no end, */ is its end
comment-closed : (y c : List ℕ) → to_comment_end y ≡ none → to_comment_end (y ++ (42 ∷ 47 ∷ c)) ≡ some (length y + 2)
comment-closed [] c e = refl
comment-closed (b ∷ []) c e = one_more (eqb b 42 && false) none (to_comment_end (42 ∷ 47 ∷ c)) 2 e (λ _. refl)
comment-closed (b ∷ d ∷ y) c e =
    let k : suc (length (d ∷ y) + 2) ≡ length (b ∷ d ∷ y) + 2 = omega arith in
    one_more (eqb b 42 && eqb 47 d) (to_comment_end (d ∷ y)) (to_comment_end ((d ∷ y) ++ (42 ∷ 47 ∷ c))) (length (d ∷ y) + 2) e (comment-closed (d ∷ y) c) ∙ ap some k

-- the tokens after a comment that is closed so
comment-passed : (y c : List ℕ) (i : ℕ) → to_comment_end y ≡ none → (k : ℕ) × (tokens_from (47 ∷ 42 ∷ (y ++ (42 ∷ 47 ∷ c))) 0 i ≡ tokens_from c 0 k)
unfolding piece_of
comment-passed y c i e =
    let bs : List ℕ = y ++ (42 ∷ 47 ∷ c) in
    let n : ℕ = 2 + (length y + 2) - 1 in
    let k : n ≡ length (42 ∷ y) + 2 = omega arith in
    let p : piece_of 47 (42 ∷ bs) ≡ gap (2 + (length y + 2)) = ap comment_piece (comment-closed y c e) in (
      suc i + n,
      next-piece 47 (42 ∷ bs) i ∙ ap (λ (q : Piece). piece_tokens q i (47 ∷ 42 ∷ bs) ++ tokens_from (drop (more_bytes q (42 ∷ bs)) (42 ∷ bs)) 0 (suc i + more_bytes q (42 ∷ bs))) p
          ∙ ap (λ (l : List ℕ). tokens_from l 0 (suc i + n)) (ap (λ (m : ℕ). drop m (42 ∷ bs)) k ∙ drop-append-add (42 ∷ y) (42 ∷ 47 ∷ c) 2),
    )

-- whole pieces before a comment without end are completed after the comment's end
pub completes-comment : (text : List ℕ) (a : List TptpToken) (t : TptpToken) (d : DueToken) → CommentAt text 0 0 a t → due_after_tokens statement a ≡ some d → Completable (text ++ bytes "*/")
unfolding tokens
completes-comment text a t d u h = completed-by (text ++ bytes "*/") a d passed.0 e h
  where
    x : List ℕ
    x = u.front

    y : List ℕ
    y = u.inside

    r : List ℕ
    r = 47 ∷ 42 ∷ (y ++ (42 ∷ 47 ∷ finish d))

    passed : (k : ℕ) × (tokens_from r 0 (0 + length x) ≡ tokens_from (finish d) 0 k)
    passed = comment-passed y (finish d) (0 + length x) u.unended

    bytes-are : (text ++ bytes "*/") ++ finish d ≡ x ++ r
    bytes-are =
        append_assoc text (bytes "*/") (finish d)
        ∙ ap (λ (l : List ℕ). l ++ (42 ∷ 47 ∷ finish d)) u.bytes
        ∙ append_assoc x (47 ∷ 42 ∷ y) (42 ∷ 47 ∷ finish d)

    e : tokens_from ((text ++ bytes "*/") ++ finish d) 0 0 ≡ a ++ tokens_from (finish d) 0 passed.0
    e =
        ap (λ (l : List ℕ). tokens_from l 0 0) bytes-are
        ∙ tokens-cut x r 0 0 (closed-cut (47 ∷ 42 ∷ y) r 0 (comment-parted (y ++ (42 ∷ 47 ∷ finish d))) (line-goes-on (47 ∷ 42 ∷ y) r refl) x 0 u.starts.closed)
        ∙ ap (λ (ts : List TptpToken). ts ++ tokens_from r 0 (0 + length x)) u.starts.before
        ∙ ap (λ (ts : List TptpToken). a ++ ts) passed.1

-- a comment without end may stand nowhere
never-open : (d : DueToken) (w : List ℕ) (i : ℕ) → due_after_token d (record { kind = open_comment; name = w; place = i }) ≡ none
unfolding due_after_token
never-open statement w i = refl
never-open opening w i = refl
never-open name w i = refl
never-open name_comma w i = refl
never-open role w i = refl
never-open role_comma w i = refl
never-open clause w i = refl
never-open (literal b) w i = refl
never-open (literal_end b) w i = refl
never-open (term b s n) w i = refl
never-open (word_end b (first true) zero) w i = refl
never-open (word_end b (first false) zero) w i = refl
never-open (word_end b (first c) (suc n)) w i = refl
never-open (word_end b second zero) w i = refl
never-open (word_end b second (suc n)) w i = refl
never-open (term_end b (first true) zero) w i = refl
never-open (term_end b (first false) zero) w i = refl
never-open (term_end b (first c) (suc n)) w i = refl
never-open (term_end b second zero) w i = refl
never-open (term_end b second (suc n)) w i = refl
never-open (equality b true) w i = refl
never-open (equality b false) w i = refl
never-open closing w i = refl
never-open stop w i = refl

pub misplaced-open : (d : DueToken) (t : TptpToken) → t.kind ≡ open_comment → due_after_token d t ≡ none
misplaced-open d t e = ap (λ (k : TokenKind). due_after_token d (record { kind = k; name = t.name; place = t.place })) e ∙ never-open d t.name t.place

-- so tokens that all may stand have none
no-open : (a b : List TptpToken) (t : TptpToken) (d e : DueToken) → t.kind ≡ open_comment → due_after_tokens d (a ++ (t ∷ b)) ≡ some e → ⊥
no-open [] b t d e k h =
    let z : none ≡ some e = sym (ap (λ (o : Option DueToken). elim o as (λ _. Option DueToken) [ some f ↦ due_after_tokens f b | none ↦ none ]) (misplaced-open d t k)) ∙ h in
    let y : ◌≡◌ {A = ℕ} 0 1 = cc in
    omega arith
no-open (u ∷ a) b t d e k h = go (due_after_token d u) (λ f x. no-open a b t f e k x) h
  where
    go : (o : Option DueToken) → ((f : DueToken) → due_after_tokens f (a ++ (t ∷ b)) ≡ some e → ⊥) → (elim o as (λ _. Option DueToken) [ some f ↦ due_after_tokens f (a ++ (t ∷ b)) | none ↦ none ]) ≡ some e → ⊥
    go none ih h = let y : ◌≡◌ {A = ℕ} 0 1 = cc in omega arith
    go (some f) ih h = ih f h

-- a text whose tokens all may stand is completed
pub completes-all : (text : List ℕ) (d : DueToken) → due_after_tokens statement (tokens text) ≡ some d → Completable (text ++ bytes "\n")
unfolding tokens
completes-all text d h = go (whole-or-open text 0 0 (omega arith))
  where
    go : Closed 0 text [] 0 ⊎ ((a : List TptpToken) × (t : TptpToken) × (tokens_from (text ++ []) 0 0 ≡ a ++ (t ∷ [])) × (t.kind ≡ open_comment)) → Completable (text ++ bytes "\n")
    go (inl c) =
        let e : tokens_before text 0 0 ≡ tokens_from text 0 0 =
        sym (append-nil (tokens_before text 0 0)) ∙ sym (tokens-cut text [] 0 0 c) ∙ ap (λ (l : List ℕ). tokens_from l 0 0) (append-nil text) in
        completes text [] (tokens_from text 0 0) d (record { closed = c; before = e }) h
    go (inr o) =
        absurd (no-open o.0 [] o.1 statement d o.3 (ap (due_after_tokens statement) (sym o.2 ∙ ap (λ (l : List ℕ). tokens_from l 0 0) (append-nil text)) ∙ h))
