-- The merged sheet's text by lines: symbols that agree are joined as their lines are, byte for byte.
use Prim.Native.Nat.{ℕ, ◌+◌, ◌-◌}
use mathlib.Core.Path.{◌≡◌, refl, sym, ap, ◌∙◌}
use mathlib.Core.Logic.{inl, inr}
use mathlib.Core.Bool.{Bool, true, false, cond, not, ◌||◌}
use mathlib.Core.List.{List, [], ◌∷◌, ◌++◌, append_assoc, map-append}
use native.Mathlib.Omega.{arith}
use lib.ListN.{length, take, drop, length-append, length-map}
use lib.Seq.{drop-append_seam}
use Rattle.theory.specs.Lists.{any, same, concat_map}
use Rattle.theory.specs.Bytes.{bytes, zero_digit, decimal}
use Rattle.theory.specs.Syntax.{Symbol, all_declared}
use Rattle.theory.specs.SheetText.{line, symbol_text}
use Rattle.theory.proofs.Tests.{iff→≡}
use Rattle.theory.proofs.Lists.{concat_map-map, same_true, same_refl}
use Rattle.sheet_merging.specs.Sheets.{Sheet, ended, declaration_lines, section_text, text_of}
use Rattle.sheet_merging.specs.Merging.{new_to, joined, same_name, merged_sheet, agree}
use Rattle.sheet_merging.proofs.SheetRead.{signature}
use Rattle.sheet_merging.proofs.Among.{In, in_left, in_right}
use Rattle.sheet_merging.proofs.Merging.{one_symbol}

-- the name before the last two bytes
name-before : (w : List ℕ) (x y : ℕ) → take (length (w ++ (x ∷ y ∷ [])) - 2) (w ++ (x ∷ y ∷ [])) ≡ w
name-before w x y = let e : length (w ++ (x ∷ y ∷ [])) - 2 ≡ length w = omega (arith, length-append w (x ∷ y ∷ [])) in ap (λ (n : ℕ). take n (w ++ (x ∷ y ∷ []))) e ∙ front w
  where
    front : (w : List ℕ) → take (length w) (w ++ (x ∷ y ∷ [])) ≡ w
    front [] = refl
    front (b ∷ w) = ap (λ (l : List ℕ). b ∷ l) (front w)

module _ (key : List ℕ) where
  abbrev declared : Symbol → List ℕ
  declared f = key ++ symbol_text f

  -- two symbols have one line exactly if they have one name
  same_line : (u f : Symbol) → (u.name ≡ f.name → u ≡ f) → same (declared u) (declared f) ≡ same_name u f
  same_line u f one = iff→≡ (same (declared u) (declared f)) (same_name u f) names lines
    where
      names : same (declared u) (declared f) ≡ true → same_name u f ≡ true
      names e =
          let t : symbol_text u ≡ symbol_text f = sym (drop-append_seam key (symbol_text u)) ∙ ap (λ (l : List ℕ). drop (length key) l) (same_true (declared u) (declared f) e) ∙ drop-append_seam key (symbol_text f) in
          let n : u.name ≡ f.name = sym (name-before u.name 47 (zero_digit + u.arity)) ∙ ap (λ (l : List ℕ). take (length l - 2) l) t ∙ name-before f.name 47 (zero_digit + f.arity) in
          ap (λ (w : List ℕ). same w f.name) n ∙ same_refl f.name

      lines : same_name u f ≡ true → same (declared u) (declared f) ≡ true
      lines e = ap (λ (v : Symbol). same (declared v) (declared f)) (one (same_true u.name f.name e)) ∙ same_refl (declared f)

  any-line : (u : Symbol) (xs : List Symbol) → ((f : Symbol) → In f xs → u.name ≡ f.name → u ≡ f) → any (same (declared u)) (declaration_lines key xs) ≡ any (same_name u) xs
  any-line u [] one = refl
  any-line u (f ∷ xs) one =
      ap (λ (b : Bool). b || any (same (declared u)) (declaration_lines key xs)) (same_line u f (one f (inl refl)))
      ∙ ap (λ (b : Bool). same_name u f || b) (any-line u xs (λ g k. one g (inr k)))

  new-lines : (xs ys : List Symbol) → ((u f : Symbol) → In u ys → In f xs → u.name ≡ f.name → u ≡ f) → new_to same (declaration_lines key xs) (declaration_lines key ys) ≡ declaration_lines key (new_to same_name xs ys)
  new-lines xs [] one = refl
  new-lines xs (u ∷ ys) one =
      ap (λ (b : Bool). cond (not b) (declared u ∷ new_to same (declaration_lines key xs) (declaration_lines key ys)) (new_to same (declaration_lines key xs) (declaration_lines key ys))) (any-line u xs (λ f k. one u f (inl refl) k))
      ∙ ap (λ (l : List (List ℕ)). cond (not (any (same_name u) xs)) (declared u ∷ l) l) (new-lines xs ys (λ v f h. one v f (inr h)))
      ∙ go (not (any (same_name u) xs)) (new_to same_name xs ys)
    where
      go : (b : Bool) (us : List Symbol) → cond b (declared u ∷ declaration_lines key us) (declaration_lines key us) ≡ declaration_lines key (cond b (u ∷ us) us)
      go true us = refl
      go false us = refl

  pub joined-lines : (xs ys : List Symbol) → ((u f : Symbol) → In u ys → In f xs → u.name ≡ f.name → u ≡ f) → joined same (declaration_lines key xs) (declaration_lines key ys) ≡ declaration_lines key (joined same_name xs ys)
  joined-lines xs ys one = ap (λ (l : List (List ℕ)). declaration_lines key xs ++ l) (new-lines xs ys one) ∙ sym (map-append declared xs (new_to same_name xs ys))

-- the sections of a sheet's text
text-sections : (m : Sheet)
    → line (bytes "sheet=1") [] ++ (section_text (bytes "funs=") (declaration_lines (bytes "fun=") m.functions) ++ (section_text (bytes "preds=") (declaration_lines (bytes "pred=") m.predicates) ++ section_text (bytes "clauses=") m.lines))
    ≡ text_of m
unfolding text_of
text-sections m =
    let fs : List Symbol = m.functions in
    let ps : List Symbol = m.predicates in
    let rest : List ℕ = section_text (bytes "clauses=") m.lines in
    let fun : List ℕ = concat_map (λ (f : Symbol). line (bytes "fun=") (symbol_text f)) fs in
    let pred : List ℕ = concat_map (λ (f : Symbol). line (bytes "pred=") (symbol_text f)) ps in
    let funs : List ℕ = line (bytes "funs=") (decimal (length fs)) in
    let preds : List ℕ = line (bytes "preds=") (decimal (length ps)) in
    let f : section_text (bytes "funs=") (declaration_lines (bytes "fun=") fs) ≡ funs ++ fun =
    ap (λ (n : ℕ). line (bytes "funs=") (decimal n) ++ concat_map ended (declaration_lines (bytes "fun=") fs)) (length-map fs (λ (f : Symbol). bytes "fun=" ++ symbol_text f))
    ∙ ap (λ (t : List ℕ). funs ++ t) (concat_map-map ended (λ (f : Symbol). bytes "fun=" ++ symbol_text f) fs) in
    let p : section_text (bytes "preds=") (declaration_lines (bytes "pred=") ps) ≡ preds ++ pred =
    ap (λ (n : ℕ). line (bytes "preds=") (decimal n) ++ concat_map ended (declaration_lines (bytes "pred=") ps)) (length-map ps (λ (f : Symbol). bytes "pred=" ++ symbol_text f))
    ∙ ap (λ (t : List ℕ). preds ++ t) (concat_map-map ended (λ (f : Symbol). bytes "pred=" ++ symbol_text f) ps) in
    ap (λ (t : List ℕ). line (bytes "sheet=1") [] ++ (t ++ (section_text (bytes "preds=") (declaration_lines (bytes "pred=") ps) ++ rest))) f
    ∙ ap (λ (t : List ℕ). line (bytes "sheet=1") [] ++ ((funs ++ fun) ++ (t ++ rest))) p
    ∙ ap (λ (t : List ℕ). line (bytes "sheet=1") [] ++ t) (append_assoc funs fun ((preds ++ pred) ++ rest))
    ∙ ap (λ (t : List ℕ). line (bytes "sheet=1") [] ++ (funs ++ (fun ++ t))) (append_assoc preds pred rest)

-- two sheets that agree, made one line by line
module _ (a b : Sheet) (oa : all_declared (signature a) ≡ true) (ob : all_declared (signature b) ≡ true) (ag : agree (signature a) (signature b) ≡ true) where
  abbrev m : Sheet
  m = merged_sheet a b

  pub function-lines : joined same (declaration_lines (bytes "fun=") a.functions) (declaration_lines (bytes "fun=") b.functions) ≡ declaration_lines (bytes "fun=") m.functions
  unfolding merged_sheet
  function-lines =
      joined-lines (bytes "fun=") a.functions b.functions
      (λ u f hu hf. one_symbol (signature a) (signature b) oa ob ag u f (in_left u b.functions b.predicates hu) (in_left f a.functions a.predicates hf))

  pub predicate-lines : joined same (declaration_lines (bytes "pred=") a.predicates) (declaration_lines (bytes "pred=") b.predicates) ≡ declaration_lines (bytes "pred=") m.predicates
  unfolding merged_sheet
  predicate-lines =
      joined-lines (bytes "pred=") a.predicates b.predicates
      (λ u f hu hf. one_symbol (signature a) (signature b) oa ob ag u f (in_right u b.functions b.predicates hu) (in_right f a.functions a.predicates hf))

  pub clause-lines : joined same a.lines b.lines ≡ m.lines
  unfolding merged_sheet
  clause-lines = refl

-- the text of joined lines F, P and L, and their counts
pub record MergedLines (m : Sheet) (F P L : List (List ℕ)) : Type 0 where
  pub functions : length F ≡ length m.functions
  pub predicates : length P ≡ length m.predicates
  pub lines : length L ≡ length m.lines
  pub text : line (bytes "sheet=1") [] ++ (section_text (bytes "funs=") F ++ (section_text (bytes "preds=") P ++ section_text (bytes "clauses=") L)) ≡ text_of m

pub merged-lines : (m : Sheet) (F P L : List (List ℕ)) → F ≡ declaration_lines (bytes "fun=") m.functions → P ≡ declaration_lines (bytes "pred=") m.predicates → L ≡ m.lines → MergedLines m F P L
merged-lines m F P L f p l =
    record {
      functions = ap length f ∙ length-map m.functions (λ (f : Symbol). bytes "fun=" ++ symbol_text f);
      predicates = ap length p ∙ length-map m.predicates (λ (f : Symbol). bytes "pred=" ++ symbol_text f);
      lines = ap length l;
      text =
          ap (λ (F : List (List ℕ)). line (bytes "sheet=1") [] ++ (section_text (bytes "funs=") F ++ (section_text (bytes "preds=") P ++ section_text (bytes "clauses=") L))) f
          ∙ ap (λ (P : List (List ℕ)). line (bytes "sheet=1") [] ++ (section_text (bytes "funs=") (declaration_lines (bytes "fun=") m.functions) ++ (section_text (bytes "preds=") P ++ section_text (bytes "clauses=") L))) p
          ∙ ap (λ (L : List (List ℕ)). line (bytes "sheet=1") [] ++ (section_text (bytes "funs=") (declaration_lines (bytes "fun=") m.functions) ++ (section_text (bytes "preds=") (declaration_lines (bytes "pred=") m.predicates) ++ section_text (bytes "clauses=") L))) l
          ∙ text-sections m;
    }
