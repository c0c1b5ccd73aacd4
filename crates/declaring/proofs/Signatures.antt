-- The signature of symbols in order of first appearance, and one symbol more: its name has appeared, or it comes last of its kind.
use Prim.Native.Nat.{ℕ, ◌+◌}
use mathlib.Core.Path.{◌≡◌, refl, sym, ap, ◌∙◌}
use mathlib.Core.Bool.{Bool, true, false, cond, ◌||◌}
use mathlib.Core.Option.{Option, some}
use mathlib.Core.List.{List, [], ◌∷◌, ◌++◌, append-nil, append_assoc}
use native.Mathlib.Omega.{arith}
use lib.ListN.{length, take, drop, length-append, take-append-drop}
use lib.Seq.{take_at, drop_at, get_or-append_seam}
use Rattle.theory.specs.Lists.{same, select, or_zero}
use Rattle.theory.specs.Syntax.{Kind, function, predicate, is_function, is_predicate, Symbol, Signature, no_symbol, symbol_at, functions, predicates}
use Rattle.theory.specs.Problem.{is_named, place_of_name}
use Rattle.theory.proofs.Tests.{or-false-left, or-false-join}
use Rattle.theory.proofs.Lists.{any_append, select-append, same_refl}
use Rattle.theory.proofs.Finding.{place_that-append, place_that-snoc, any→place_that-none}
use Rattle.tptp.specs.Symbols.{first_of_name}
use Rattle.tptp.specs.Tptp.{place_in_kind}
use Rattle.tptp.specs.Claims.Order.{signature_by}
use Rattle.tptp.proofs.Fresh.{parts-have}
use Rattle.tptp.proofs.SoFar.{functions-back, predicates-back, entry}
use Rattle.declaring.specs.Tables.{insert_at}
use Rattle.declaring.proofs.Appearing.{select-fails, first_alike, first-new, first-again}
use Rattle.declaring.proofs.Inserting.{insert-last}

abbrev name_of : Symbol → List ℕ
name_of f = f.name

-- the first symbols of each name
abbrev firsts : List Symbol → List Symbol
firsts X = first_of_name name_of X

-- the functions, then the predicates
module _ (fs : List Symbol) where
  -- no other symbols are among them
  parts-alike : (w : List ℕ) → is_named w (functions fs ++ predicates fs) ≡ is_named w fs
  parts-alike w = go (is_named w fs) refl
    where
      go : (b : Bool) → is_named w fs ≡ b → is_named w (functions fs ++ predicates fs) ≡ b
      go true e = parts-have (λ (f : Symbol). same w f.name) fs e
      go false e =
          any_append (λ (f : Symbol). same w f.name) (functions fs) (predicates fs)
          ∙ or-false-join (is_named w (functions fs)) (is_named w (predicates fs)) (select-fails (λ (f : Symbol). same w f.name) (λ (f : Symbol). is_function f.kind) fs e)
          (select-fails (λ (f : Symbol). same w f.name) (λ (f : Symbol). is_predicate f.kind) fs e)

-- a symbol behind the functions F, or behind the predicates P, is put in at that place of both together
put_in : (k : Kind) (f : Symbol) (F P : List Symbol) (n : ℕ) → length F ≡ n
    → (F ++ cond (is_function k) (f ∷ []) []) ++ (P ++ cond (is_predicate k) (f ∷ []) []) ≡ insert_at (cond (is_function k) n (length (F ++ P))) f (F ++ P)
put_in function f F P n e =
    ap (λ (fs : List Symbol). (F ++ (f ∷ [])) ++ fs) (append-nil P)
    ∙ append_assoc F (f ∷ []) P
    ∙ ap (λ (fs : List Symbol). fs ++ (f ∷ P)) (sym (take_at F P n e))
    ∙ ap (λ (fs : List Symbol). take n (F ++ P) ++ (f ∷ fs)) (sym (drop_at F P n e))
put_in predicate f F P n e =
    ap (λ (fs : List Symbol). fs ++ (P ++ (f ∷ []))) (append-nil F)
    ∙ sym (append_assoc F P (f ∷ []))
    ∙ sym (insert-last (F ++ P) (length (F ++ P)) f (omega arith))

-- a new symbol is found behind the others
place-last : (fs : List Symbol) (f : Symbol) → is_named f.name fs ≡ false → place_of_name f.name (fs ++ (f ∷ [])) ≡ some (length fs)
place-last fs f h = place_that-snoc (λ (u : Symbol). same f.name u.name) fs f (any→place_that-none (λ (u : Symbol). same f.name u.name) fs h) (same_refl f.name)

-- and is the symbol with its name, wherever it is put in
pub entry_more : (g : Signature) (f : Symbol) (n : ℕ) → is_named f.name g ≡ false → entry (insert_at n f g) f.name ≡ f
entry_more g f n h =
    let Q : List Symbol = take n g in
    let R : List Symbol = drop n g in
    let parts : (is_named f.name Q || is_named f.name R) ≡ false = sym (any_append (λ (u : Symbol). same f.name u.name) Q R) ∙ ap (is_named f.name) (take-append-drop n g) ∙ h in
    let found : place_of_name f.name (Q ++ (f ∷ R)) ≡ some (length Q) =
    ap (place_of_name f.name) (sym (append_assoc Q (f ∷ []) R))
    ∙ place_that-append (λ (u : Symbol). same f.name u.name) (Q ++ (f ∷ [])) R (length Q) (place-last Q f (or-false-left (is_named f.name Q) (is_named f.name R) parts)) in
    ap (λ (o : Option ℕ). symbol_at (Q ++ (f ∷ R)) (or_zero o)) found ∙ get_or-append_seam Q f R no_symbol

module _ (X : List Symbol) where
  -- the signature has the names that have appeared
  pub named-alike : (w : List ℕ) → is_named w (signature_by X) ≡ is_named w X
  named-alike w = parts-alike (firsts X) w ∙ first_alike name_of w X

  -- as many symbols as functions and predicates
  pub kinds-count : length (signature_by X) ≡ length (functions (signature_by X)) + length (predicates (signature_by X))
  kinds-count =
      length-append (functions (firsts X)) (predicates (firsts X))
      ∙ ap (λ (n : ℕ). n + length (predicates (firsts X))) (ap length (sym (functions-back (firsts X))))
      ∙ ap (λ (n : ℕ). length (functions (signature_by X)) + n) (ap length (sym (predicates-back (firsts X))))

  -- the functions come first
  pub functions-first : functions (signature_by X) ≡ take (length (functions (signature_by X))) (signature_by X)
  functions-first = functions-back (firsts X) ∙ sym (take_at (functions (firsts X)) (predicates (firsts X)) (length (functions (signature_by X))) (ap length (sym (functions-back (firsts X)))))

  pub predicates-last : predicates (signature_by X) ≡ drop (length (functions (signature_by X))) (signature_by X)
  predicates-last = predicates-back (firsts X) ∙ sym (drop_at (functions (firsts X)) (predicates (firsts X)) (length (functions (signature_by X))) (ap length (sym (functions-back (firsts X)))))

  module _ (f : Symbol) where
    abbrev more : List Symbol
    more = X ++ (f ∷ [])

    pub signature-again : is_named f.name X ≡ true → signature_by more ≡ signature_by X
    signature-again h = ap (λ (fs : List Symbol). functions fs ++ predicates fs) (first-again name_of X f h)

    module _ (new : is_named f.name X ≡ false) where
      functions_more : functions (signature_by more) ≡ functions (signature_by X) ++ cond (is_function f.kind) (f ∷ []) []
      functions_more =
          functions-back (firsts more)
          ∙ ap functions (first-new name_of X f new)
          ∙ select-append (λ (f : Symbol). is_function f.kind) (firsts X) (f ∷ [])
          ∙ ap (λ (fs : List Symbol). fs ++ cond (is_function f.kind) (f ∷ []) []) (sym (functions-back (firsts X)))

      predicates-more : predicates (signature_by more) ≡ predicates (signature_by X) ++ cond (is_predicate f.kind) (f ∷ []) []
      predicates-more =
          predicates-back (firsts more)
          ∙ ap predicates (first-new name_of X f new)
          ∙ select-append (λ (f : Symbol). is_predicate f.kind) (firsts X) (f ∷ [])
          ∙ ap (λ (fs : List Symbol). fs ++ cond (is_predicate f.kind) (f ∷ []) []) (sym (predicates-back (firsts X)))

      -- where it comes: behind the functions, or behind all
      pub signature-more : signature_by more ≡ insert_at (cond (is_function f.kind) (length (functions (signature_by X))) (length (signature_by X))) f (signature_by X)
      signature-more =
          ap (λ (fs : List Symbol). functions fs ++ predicates fs) (first-new name_of X f new)
          ∙ ap (λ (fs : List Symbol). fs ++ predicates (firsts X ++ (f ∷ []))) (select-append (λ (f : Symbol). is_function f.kind) (firsts X) (f ∷ []))
          ∙ ap (λ (fs : List Symbol). (functions (firsts X) ++ cond (is_function f.kind) (f ∷ []) []) ++ fs) (select-append (λ (f : Symbol). is_predicate f.kind) (firsts X) (f ∷ []))
          ∙ put_in f.kind f (functions (firsts X)) (predicates (firsts X)) (length (functions (signature_by X))) (ap length (sym (functions-back (firsts X))))

      -- one more of its kind
      pub functions-count : length (functions (signature_by more)) ≡ cond (is_function f.kind) (length (functions (signature_by X)) + 1) (length (functions (signature_by X)))
      functions-count = ap length functions_more ∙ go f.kind
        where
          F : List Symbol
          F = functions (signature_by X)

          go : (k : Kind) → length (F ++ cond (is_function k) (f ∷ []) []) ≡ cond (is_function k) (length F + 1) (length F)
          go function = length-append F (f ∷ [])
          go predicate = ap length (append-nil F)

      -- its place among its kind
      pub place-more : place_in_kind (signature_by more) f.kind f.name ≡ cond (is_function f.kind) (length (functions (signature_by X))) (length (predicates (signature_by X)))
      place-more =
          ap (λ (fs : List Symbol). or_zero (place_of_name f.name (cond (is_function f.kind) fs (predicates (signature_by more))))) functions_more
          ∙ ap (λ (fs : List Symbol). or_zero (place_of_name f.name (cond (is_function f.kind) (F ++ cond (is_function f.kind) (f ∷ []) []) fs))) predicates-more
          ∙ go f.kind
        where
          F : List Symbol
          F = functions (signature_by X)

          P : List Symbol
          P = predicates (signature_by X)

          unnamed : (q : Symbol → Bool) → is_named f.name (select q (signature_by X)) ≡ false
          unnamed q = select-fails (λ (u : Symbol). same f.name u.name) q (signature_by X) (named-alike f.name ∙ new)

          go : (k : Kind) → or_zero (place_of_name f.name (cond (is_function k) (F ++ cond (is_function k) (f ∷ []) []) (P ++ cond (is_predicate k) (f ∷ []) []))) ≡ cond (is_function k) (length F) (length P)
          go function = ap or_zero (place-last F f (unnamed (λ (f : Symbol). is_function f.kind)))
          go predicate = ap or_zero (place-last P f (unnamed (λ (f : Symbol). is_predicate f.kind)))
