-- Values with their separators, written one more at a time; a table's text made of them.
use Prim.Native.Nat.{ℕ, suc, ◌+◌, ◌*◌, ◌≤◌, ◌<◌}
use mathlib.Core.Path.{◌≡◌, refl, sym, ap, ◌∙◌}
use mathlib.Core.Bool.{Bool, cond}
use mathlib.Core.List.{List, [], ◌∷◌, ◌++◌, append_assoc, map, map-append}
use native.Mathlib.Omega.{arith}
use lib.Dec.{eqb-suc-zero}
use lib.ListN.{length, get_or, set, take, length-map, length-set}
use lib.Seq.{take-suc, take-length, length-take-le}
use Rattle.theory.specs.Lists.{concat_map}
use Rattle.theory.specs.Bytes.{LF, space}
use Rattle.theory.specs.Syntax.{Symbol}
use Rattle.theory.specs.CaseText.{least_byte, joined, equals_sign, table_text}
use Rattle.text.specs.Put.{put, put-none, put-cursor}
use Rattle.cases.specs.Values.{separator_at}
use Rattle.cases.specs.Writing.{paired}
use Rattle.cases.proofs.TwoMore.{two-more}

pub length-paired : (c : ℕ) (bs : List ℕ) → length (paired c bs) ≡ 2 * length bs
length-paired c [] = refl
length-paired c (b ∷ bs) = omega (arith, length-paired space bs)

paired-space : (bs : List ℕ) (b : ℕ) → paired space (bs ++ (b ∷ [])) ≡ paired space bs ++ (space ∷ b ∷ [])
paired-space [] b = refl
paired-space (a ∷ bs) b = ap (λ (l : List ℕ). space ∷ a ∷ l) (paired-space bs b)

paired-snoc : (bs : List ℕ) (b : ℕ) → paired equals_sign (bs ++ (b ∷ [])) ≡ paired equals_sign bs ++ (separator_at (length bs) ∷ b ∷ [])
paired-snoc [] b = refl
paired-snoc (a ∷ bs) b =
    ap (λ (l : List ℕ). equals_sign ∷ a ∷ l) (paired-space bs b)
    ∙ ap (λ (z : Bool). equals_sign ∷ a ∷ (paired space bs ++ (cond z equals_sign space ∷ b ∷ []))) (sym (eqb-suc-zero (length bs)))

-- the pairs of the first values and of one more
pub paired-more : (least : ℕ) (vs : List ℕ) (i : ℕ) → i < length vs
    → (paired equals_sign (map (λ (v : ℕ). least + v) (take i vs)) ++ (separator_at i ∷ [])) ++ ((least + get_or vs i 0) ∷ []) ≡ paired equals_sign (map (λ (v : ℕ). least + v) (take (i + 1) vs))
paired-more least vs i h =
    let bs : List ℕ = map (λ (v : ℕ). least + v) (take i vs) in
    let n : length bs ≡ i = length-map (take i vs) (λ (v : ℕ). least + v) ∙ length-take-le i vs (omega arith) in
    let z : suc i ≡ i + 1 = omega arith in
    append_assoc (paired equals_sign bs) (separator_at i ∷ []) ((least + get_or vs i 0) ∷ [])
    ∙ ap (λ (j : ℕ). paired equals_sign bs ++ (separator_at j ∷ (least + get_or vs i 0) ∷ [])) (sym n)
    ∙ sym (paired-snoc bs (least + get_or vs i 0))
    ∙ ap (paired equals_sign) (sym (map-append (λ (v : ℕ). least + v) (take i vs) (get_or vs i 0 ∷ [])))
    ∙ ap (λ (l : List ℕ). paired equals_sign (map (λ (v : ℕ). least + v) l)) (sym (take-suc vs i 0 h))
    ∙ ap (λ (j : ℕ). paired equals_sign (map (λ (v : ℕ). least + v) (take j vs))) z

paired-spaced : (bs : List ℕ) → paired space bs ≡ concat_map (λ c. space ∷ c ∷ []) bs
paired-spaced [] = refl
paired-spaced (b ∷ bs) = ap (λ (l : List ℕ). space ∷ b ∷ l) (paired-spaced bs)

paired-joined : (bs : List ℕ) → 0 < length bs → paired equals_sign bs ≡ equals_sign ∷ joined bs
paired-joined [] h = absurd (omega arith)
paired-joined (b ∷ bs) h = ap (λ (l : List ℕ). equals_sign ∷ b ∷ l) (paired-spaced bs)

-- a table's text is the name, the pairs and LF
pub table-pairs : (f : Symbol) (vs : List ℕ) → 0 < length vs
    → f.name ++ (paired equals_sign (map (λ (v : ℕ). least_byte f.kind + v) vs) ++ (LF ∷ [])) ≡ table_text f vs
unfolding table_text
table-pairs f vs h =
    let bs : List ℕ = map (λ (v : ℕ). least_byte f.kind + v) vs in
    ap (λ (l : List ℕ). f.name ++ (l ++ (LF ∷ []))) (paired-joined bs (omega (arith, length-map vs (λ (v : ℕ). least_byte f.kind + v))))
    ∙ sym (append_assoc f.name (equals_sign ∷ []) (joined bs ++ (LF ∷ [])))

-- the values before i are written with their separators, and e is the cursor after them
pub record Written (out₀ : List ℕ) (at least : ℕ) (table out : List ℕ) (e i : ℕ) : Type 0 where
  pub within : i ≤ length table
  pub held : length out ≡ length out₀
  pub bytes : out ≡ put out₀ at (paired equals_sign (map (λ (v : ℕ). least + v) (take i table)))
  pub cursor : e ≡ at + 2 * i

pub none_written : (out : List ℕ) (at least : ℕ) (table : List ℕ) → Written out at least table out at 0
none_written out at least table = record { within = omega arith; held = refl; bytes = sym (put-none out at); cursor = omega arith }

module _ {out₀ : List ℕ} {at least : ℕ} {table out : List ℕ} {e i : ℕ} (w : Written out₀ at least table out e i) (room : at + (2 * length table + 1) ≤ length out₀) where
  pairs-length : length (paired equals_sign (map (λ (v : ℕ). least + v) (take i table))) ≡ 2 * i
  pairs-length =
      length-paired equals_sign (map (λ (v : ℕ). least + v) (take i table))
      ∙ ap (λ (n : ℕ). 2 * n) (length-map (take i table) (λ (v : ℕ). least + v) ∙ length-take-le i table w.within)

  pub value_written : (c : ℕ) → c ≡ separator_at i → i < length table → Written out₀ at least table (set (set out e c) (e + 1) (least + get_or table i 0)) (e + 2) (i + 1)
  value_written c q h =
      let vs : List ℕ = paired equals_sign (map (λ (v : ℕ). least + v) (take i table)) in
      record {
        within = omega arith;
        held = length-set (set out e c) (e + 1) (least + get_or table i 0) ∙ length-set out e c ∙ w.held;
        bytes =
            two-more out₀ out at e vs c (least + get_or table i 0) w.bytes (w.cursor ∙ ap (λ (n : ℕ). at + n) (sym pairs-length)) (omega (arith, w.cursor))
            ∙ ap (λ (c : ℕ). put out₀ at ((vs ++ (c ∷ [])) ++ ((least + get_or table i 0) ∷ []))) q
            ∙ ap (put out₀ at) (paired-more least table i h);
        cursor = omega (arith, w.cursor);
      }

  pub all-written : i ≡ length table → set out e LF ≡ put out₀ at (paired equals_sign (map (λ (v : ℕ). least + v) table) ++ (LF ∷ []))
  all-written z =
      let vs : List ℕ = paired equals_sign (map (λ (v : ℕ). least + v) (take i table)) in
      put-cursor out₀ out at e vs (vs ++ (LF ∷ [])) LF w.bytes (w.cursor ∙ ap (λ (n : ℕ). at + n) (sym pairs-length)) (omega (arith, w.cursor)) refl
      ∙ ap (λ (l : List ℕ). put out₀ at (paired equals_sign (map (λ (v : ℕ). least + v) l) ++ (LF ∷ []))) (ap (λ (n : ℕ). take n table) z ∙ take-length table)
