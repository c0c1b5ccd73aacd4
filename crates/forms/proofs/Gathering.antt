-- The forms of a flattened clause one after the other.
use Prim.Native.Nat.{ℕ, zero, suc, ◌+◌, ◌*◌, ◌≤◌, ◌<◌}
use mathlib.Core.Path.{◌≡◌, refl, sym, ap, subst, ◌∙◌}
use mathlib.Core.Bool.{Bool, true, false}
use mathlib.Core.List.{List, [], ◌++◌, map}
use native.Mathlib.Omega.{arith}
use lib.Dec.{ltb}
use lib.ListN.{length, get_or, take, drop, length-drop, take-append-drop}
use lib.Seq.{paste, length-paste, length_paste_head, length-take-le, take_all, take_at, drop_at, take-append-le, drop-append-le, drop-drop}
use Rattle.theory.specs.Lists.{up_from, up_to}
use Rattle.theory.specs.Syntax.{Signature}
use Rattle.theory.specs.Flattening.{FlatLiteral}
use Rattle.theory.specs.Lifted.{flat_atom_ok, flat_atom_scoped}
use Rattle.theory.specs.Instances.{flat_value, instance}
use Rattle.theory.proofs.Tests.{ltb-true, ltb-false}
use Rattle.theory.proofs.Lists.{all_map, all-up_to}
use Rattle.shallow.specs.Literals.{no_literal, literal_in}
use Rattle.flattening.specs.declared.flat.FlatClause.{FlatClause}
use Rattle.flattening.specs.Flat.{flat_in}
use Rattle.valuations.specs.declared.numbering.Numbering.{Numbering}
use Rattle.forms.specs.LinearForms.{add_form, form_at, form_instance, Safe, AllSafe, Means, Linear, LiteralOver, literal_over, Groundable}

-- A form written after the others.
front : (p q : List ℕ) (at : ℕ) → at + 10 ≤ length p → form_at (p ++ q) at ≡ form_at p at
front p q at h =
    ap (take 10) (drop-append-le at p q (omega arith))
    ∙ take-append-le 10 (drop at p) q (omega (arith, length-drop at p))

module _ (fs form : List ℕ) (at : ℕ) (room : at + 10 ≤ length fs) (ten : length form ≡ 10) where
  pub form-there : form_at (paste fs at form 10) at ≡ form
  form-there =
      let n : length (take at fs ++ take 10 form) ≡ at + 10 = length_paste_head fs at form 10 (omega arith) (omega (arith, ten)) in
      ap (take 10) (drop-append-le at (take at fs ++ take 10 form) (drop (at + 10) fs) (omega (arith, n)) ∙ ap (λ (l : List ℕ). l ++ drop (at + 10) fs) (drop_at (take at fs) (take 10 form) at (length-take-le at fs (omega arith))))
      ∙ take_at (take 10 form) (drop (at + 10) fs) 10 (length-take-le 10 form (omega (arith, ten)))
      ∙ take_all 10 form (omega (arith, ten))

  pub form-before : (k : ℕ) → k + 10 ≤ at → form_at (paste fs at form 10) k ≡ form_at fs k
  form-before k h =
      let n : length (take at fs ++ take 10 form) ≡ at + 10 = length_paste_head fs at form 10 (omega arith) (omega (arith, ten)) in
      let m : length (take at fs) ≡ at = length-take-le at fs (omega arith) in
      front (take at fs ++ take 10 form) (drop (at + 10) fs) k (omega (arith, n))
      ∙ front (take at fs) (take 10 form) k (omega (arith, m))
      ∙ sym (front (take at fs) (drop at fs) k (omega (arith, m)))
      ∙ ap (λ (l : List ℕ). form_at l k) (take-append-drop at fs)

-- Facts about each form give facts about all.
pub all-safe : (n at : ℕ) (fs : List ℕ) → ((j : ℕ) → j < n → Safe (form_at fs (at + j * 10))) → AllSafe n (drop at fs)
all-safe zero at fs h = tt
all-safe (suc n) at fs h =
    let e : at + 0 * 10 ≡ at = omega arith in
    let next : (j : ℕ) → j < n → Safe (form_at fs (at + 10 + j * 10)) =
    λ j l. let d : at + suc j * 10 ≡ at + 10 + j * 10 = omega arith in subst (λ (k : ℕ). Safe (form_at fs k)) d (h (suc j) (omega arith)) in
    (subst (λ (k : ℕ). Safe (form_at fs k)) e (h 0 (omega arith)), subst (AllSafe n) (sym (drop-drop 10 at fs)) (all-safe n (at + 10) fs next))

pub all-mean : (s : ℕ) (g : Signature) (k : ℕ) (L : ℕ → FlatLiteral) (v : List ℕ) (n a at : ℕ) (fs : List ℕ) → ((j : ℕ) → j < n → Means s g k (L (a + j)) (form_at fs (at + j * 10)))
    → instance s g (flat_value [] (take k v)) (map L (up_from a n)) ≡ form_instance v n (drop at fs)
all-mean s g k L v zero a at fs h = refl
all-mean s g k L v (suc n) a at fs h =
    let e : at + 0 * 10 ≡ at = omega arith in
    let z : a + 0 ≡ a = omega arith in
    let first : Means s g k (L a) (form_at fs at) = subst (λ (i : ℕ). Means s g k (L a) (form_at fs i)) e (subst (λ (i : ℕ). Means s g k (L i) (form_at fs (at + 0 * 10))) z (h 0 (omega arith))) in
    let next : (j : ℕ) → j < n → Means s g k (L (suc a + j)) (form_at fs (at + 10 + j * 10)) =
    λ j l.
    let d : at + suc j * 10 ≡ at + 10 + j * 10 = omega arith in
    let c : a + suc j ≡ suc a + j = omega arith in
    subst (λ (i : ℕ). Means s g k (L (suc a + j)) (form_at fs i)) d (subst (λ (i : ℕ). Means s g k (L i) (form_at fs (at + suc j * 10))) c (h (suc j) (omega arith))) in
    first v (instance s g (flat_value [] (take k v)) (map L (up_from (suc a) n)))
    ∙ ap (add_form (form_at fs at) v) (all-mean s g k L v n (suc a) (at + 10) fs next ∙ ap (form_instance v n) (sym (drop-drop 10 at fs)))

module _ {arities : List ℕ} {c : FlatClause} {n : Numbering} {s : ℕ} (o : Groundable arities c n s) (i : ℕ) (h : i < c.count) where
  abbrev g : Signature
  g = o.signature

  abbrev read : ℕ → FlatLiteral
  read = literal_in g c.literals

  pub literal-ok : flat_atom_ok g (literal_in g c.literals i).atom ≡ true
  unfolding flat_in
  literal-ok = all-up_to (λ (j : ℕ). flat_atom_ok g (read j).atom) c.count (sym (all_map (λ (l : FlatLiteral). flat_atom_ok g l.atom) read (up_to c.count)) ∙ o.ok) i h

  pub literal-scope : flat_atom_scoped [] c.variables (literal_in g c.literals i).atom ≡ true
  unfolding flat_in
  literal-scope =
      all-up_to (λ (j : ℕ). flat_atom_scoped [] c.variables (read j).atom) c.count
      (sym (all_map (λ (l : FlatLiteral). flat_atom_scoped [] c.variables l.atom) read (up_to c.count)) ∙ o.scope) i h

  -- literal i is over the same signature
  abbrev pub literal-over : LiteralOver arities n s (get_or c.literals i no_literal)
  literal-over =
      record {
        signature = o.signature;
        table = o.table;
        small = o.small;
        numbering = o.numbering;
        size = o.size;
        variables = c.variables;
        few = o.few;
        ok = literal-ok;
        scope = literal-scope;
      }

  pub read-means : (f : List ℕ) → ((q : LiteralOver arities n s (get_or c.literals i no_literal)) → Means s q.signature q.variables (literal_over q) f) → Means s g c.variables (read i) f
  read-means f m = m literal-over

-- the forms of the first i literals are written
pub record Gathered (arities : List ℕ) (c : FlatClause) (n : Numbering) (s i : ℕ) (fs : List ℕ) : Type 0 where
  pub within : i ≤ c.count
  pub held : length fs ≡ 260
  pub safe : (j : ℕ) → j < i → Safe (form_at fs (j * 10))
  pub means : (o : Groundable arities c n s) → (j : ℕ) → j < i → Means s o.signature c.variables (literal_in o.signature c.literals j) (form_at fs (j * 10))

module _ (arities : List ℕ) (c : FlatClause) (n : Numbering) (s i : ℕ) (fs form : List ℕ) (p : Gathered arities c n s i fs) (h : i < c.count) (few : c.count ≤ 26) (ten : length form ≡ 10) where
  abbrev written : List ℕ
  written = paste fs (i * 10) form 10

  room : i * 10 + 10 ≤ length fs
  room = omega (arith, p.held)

  here : (P : List ℕ → Type 0) → P form → P (form_at written (i * 10))
  here P q = subst P (sym (form-there fs form (i * 10) room ten)) q

  before : (P : List ℕ → Type 0) (j : ℕ) → j < i → P (form_at fs (j * 10)) → P (form_at written (j * 10))
  before P j l q = subst P (sym (form-before fs form (i * 10) room ten (j * 10) (omega arith))) q

  one_more : (P : ℕ → List ℕ → Type 0) → P i form → ((j : ℕ) → j < i → P j (form_at fs (j * 10))) → (j : ℕ) → j < suc i → P j (form_at written (j * 10))
  one_more P q r j l = go (ltb j i) refl
    where
      go : (b : Bool) → ltb j i ≡ b → P j (form_at written (j * 10))
      go true e = let b : j < i = ltb-true j i e in before (P j) j b (r j b)
      go false e = let d : i ≡ j = omega (arith, ltb-false j i e) in subst (λ (m : ℕ). P m (form_at written (m * 10))) d (here (P i) q)

  pub one-gathered : Safe form
      → ((q : LiteralOver arities n s (get_or c.literals i no_literal)) → Means s q.signature q.variables (literal_over q) form)
      → Gathered arities c n s (suc i) written
  one-gathered safe means =
      record {
        within = omega arith;
        held = length-paste fs (i * 10) form 10 room (omega (arith, ten)) ∙ p.held;
        safe = one_more (λ j f. Safe f) safe p.safe;
        means = λ o.
            one_more (λ j f. Means s o.signature c.variables (literal_in o.signature c.literals j) f) (read-means o i h form means) (p.means o);
      }

-- all of them
pub gathered-safe : (arities : List ℕ) (c : FlatClause) (n : Numbering) (s : ℕ) (fs : List ℕ) → Gathered arities c n s c.count fs → AllSafe c.count fs
gathered-safe arities c n s fs p = all-safe c.count 0 fs (λ j l. let e : j * 10 ≡ 0 + j * 10 = omega arith in subst (λ (k : ℕ). Safe (form_at fs k)) e (p.safe j l))

pub gathered-linear : (arities : List ℕ) (c : FlatClause) (n : Numbering) (s : ℕ) (fs : List ℕ) → Gathered arities c n s c.count fs
    → (o : Groundable arities c n s) → Linear s o.signature (flat_in o.signature c) c.count fs
unfolding flat_in
gathered-linear arities c n s fs p o v =
    let g : Signature = o.signature in
    let read : ℕ → FlatLiteral = literal_in g c.literals in
    all-mean s g c.variables read v c.count 0 0 fs
    (λ j l.
    let e : j * 10 ≡ 0 + j * 10 = omega arith in
    let z : j ≡ 0 + j = omega arith in
    subst (λ (k : ℕ). Means s g c.variables (read (0 + j)) (form_at fs k)) e (subst (λ (k : ℕ). Means s g c.variables (read k) (form_at fs (j * 10))) z (p.means o j l)))
