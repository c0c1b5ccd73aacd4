-- One clause of a stream, at each consumer that lends a slice: what is asked, and that the clause is then taken.
use Prim.Native.Nat.{ℕ, suc, ◌+◌, ◌^◌, ◌≤◌, ◌<◌}
use mathlib.Core.Path.{◌≡◌, sym, ap, ◌∙◌, subst}
use mathlib.Core.Bool.{Bool, true, ◌&&◌}
use mathlib.Core.List.{List, [], ◌∷◌, ◌++◌, map-append, append-nil}
use native.Mathlib.Omega.{arith}
use lib.Dec.{ltb}
use lib.ListN.{length, length-append, length-map}
use Rattle.theory.specs.Lists.{all}
use Rattle.theory.specs.Propositional.{PropClause}
use Rattle.theory.specs.Dimacs.{clause_text}
use Rattle.theory.specs.Claims.Counts.{is_numbered}
use Rattle.theory.proofs.Tests.{and_left, and_right, ltb-true}
use Rattle.theory.proofs.Lists.{all_append, concat_map-append, sum-map-append}
use Rattle.propagation.specs.Clauses.{codes}
use Rattle.text.specs.Put.{put, put-run, length-put}
use Rattle.loading.specs.Filling.{literals, area_end}
use Rattle.loading.specs.Loading.{Tallied, Entered, Tallyable, Enterable}
use Rattle.stream.specs.Literals.{literal_of, prop_clause_of, all_codes}
use Rattle.stream.specs.declared.consumer.Writing.{Writing}
use Rattle.stream.specs.declared.consumer.Tallying.{Tallying}
use Rattle.stream.specs.declared.consumer.Entering.{Entering}
use Rattle.stream.specs.Consuming.{texts, Consumes}
use Rattle.stream.specs.Consumers.{WrittenFirst, writing, TalliedFirst, tallying, EnteredFirst, entering}
use Rattle.stream.proofs.Codes.{codes-clause_of, numbered-in-range}

-- one clause more at the end
count-snoc : (cs : List PropClause) (c : PropClause) (n : ℕ) → n ≡ length cs → n + 1 ≡ length (cs ++ (c ∷ []))
count-snoc cs c n e = omega (arith, length-append cs (c ∷ []))

texts-snoc : (cs : List PropClause) (c : PropClause) → texts (cs ++ (c ∷ [])) ≡ texts cs ++ clause_text c
texts-snoc cs c = concat_map-append clause_text cs (c ∷ []) ∙ ap (λ (l : List ℕ). texts cs ++ l) (append-nil (clause_text c))

length-texts-snoc : (cs : List PropClause) (c : PropClause) → length (texts (cs ++ (c ∷ []))) ≡ length (texts cs) + length (clause_text c)
length-texts-snoc cs c = ap length (texts-snoc cs c) ∙ length-append (texts cs) (clause_text c)

codes-snoc : (cs : List PropClause) (us : List ℕ) → all_codes (cs ++ (prop_clause_of us ∷ [])) ≡ all_codes cs ++ (us ∷ [])
codes-snoc cs us = map-append codes cs (prop_clause_of us ∷ []) ∙ ap (λ (l : List ℕ). all_codes cs ++ (l ∷ [])) (codes-clause_of us)

-- A stream's clauses, with one in the middle.
module _ (cs before after : List PropClause) (us : List ℕ) (split : cs ≡ before ++ (prop_clause_of us ∷ after)) where
  length-split : length cs ≡ length before + suc (length after)
  length-split = ap length split ∙ length-append before (prop_clause_of us ∷ after)

  texts-within : length (texts before) + length (clause_text (prop_clause_of us)) ≤ length (texts cs)
  texts-within =
      omega (
        arith,
        ap (λ (l : List PropClause). length (texts l)) split,
        ap length (concat_map-append clause_text before (prop_clause_of us ∷ after)),
        length-append (texts before) (clause_text (prop_clause_of us) ++ texts after),
        length-append (clause_text (prop_clause_of us)) (texts after),
      )

  codes-split : all_codes cs ≡ all_codes before ++ (us ∷ all_codes after)
  codes-split = ap all_codes split ∙ map-append codes before (prop_clause_of us ∷ after) ∙ ap (λ (l : List ℕ). all_codes before ++ (l ∷ all_codes after)) (codes-clause_of us)

  literals-within : literals (all_codes before) + length us ≤ literals (all_codes cs)
  literals-within = omega (arith, ap literals codes-split, sum-map-append length (all_codes before) (us ∷ all_codes after))

  -- what every clause of the stream passes, this one does
  passes : (p : PropClause → Bool) → all p cs ≡ true → p (prop_clause_of us) ≡ true
  passes p h =
      and_left (p (prop_clause_of us)) (all p after)
      (and_right (all p before) (p (prop_clause_of us) && all p after) (sym (all_append p before (prop_clause_of us ∷ after)) ∙ ap (all p) (sym split) ∙ h))

-- A line is written.
module _ (us : List ℕ) (x : Writing) where
  pub write-fits : Consumes writing (prop_clause_of us ∷ []) x → x.at + length (clause_text (prop_clause_of us)) ≤ length x.output.now
  write-fits h =
      let within = texts-within h.clauses h.before h.behind us h.split in
      omega (arith, h.so_far.at, h.fits.1, within, ap length h.so_far.output, length-put h.start.output.now h.start.at (texts h.before) (omega (arith, h.fits.1, within)))

module _ (us : List ℕ) (cs before behind : List PropClause) (start x y : Writing) (split : cs ≡ before ++ (prop_clause_of us ∷ behind)) where
  pub written : start.at + length (texts cs) ≤ length start.output.now → WrittenFirst start before x
      → y.output.ghost_name ≡ x.output.ghost_name → y.output.now ≡ put x.output.now x.at (clause_text (prop_clause_of us)) → y.at ≡ x.at + length (clause_text (prop_clause_of us))
      → y.count ≡ x.count + 1 → WrittenFirst start (before ++ (prop_clause_of us ∷ [])) y
  written fits a r p n m =
      record {
        same_reference = r ∙ a.same_reference;
        at = omega (arith, a.at, length-texts-snoc before (prop_clause_of us));
        count = m ∙ count-snoc before (prop_clause_of us) x.count a.count;
        output =
            put-run start.output.now x.output.now y.output.now start.at x.at (texts before) (clause_text (prop_clause_of us)) a.output a.at p
            (omega (arith, a.at, fits, texts-within cs before behind us split))
            ∙ ap (put start.output.now start.at) (sym (texts-snoc before (prop_clause_of us)));
      }

-- Its literals are counted.
module _ (us : List ℕ) (x : Tallying) where
  pub tally-fits : Consumes tallying (prop_clause_of us ∷ []) x → Tallyable x.variables us x.work.now
  tally-fits h =
      let same = h.so_far.variables in
      record {
        seen = all_codes h.before;
        tallied = subst (λ (n : ℕ). Tallied n (all_codes h.before) x.work.now) (sym same) h.so_far.work;
        range = numbered-in-range x.variables us (subst (λ (n : ℕ). all (is_numbered n) (prop_clause_of us) ≡ true) (sym same) (passes h.clauses h.before h.behind us h.split (all (is_numbered h.start.variables)) h.fits.numbered));
        room = omega (arith, h.fits.room, same, h.so_far.long);
        fits = omega (arith, h.fits.few, literals-within h.clauses h.before h.behind us h.split);
      }

module _ (us : List ℕ) (before : List PropClause) (start x y : Tallying) where
  pub tallied : TalliedFirst start before x → y.work.ghost_name ≡ x.work.ghost_name → y.variables ≡ x.variables → y.count ≡ x.count + 1 → length y.work.now ≡ length x.work.now
      → ((seen : List (List ℕ)) → Tallied x.variables seen x.work.now → Tallied x.variables (seen ++ (us ∷ [])) y.work.now)
      → TalliedFirst start (before ++ (prop_clause_of us ∷ [])) y
  tallied a r v n k t =
      record {
        same_reference = r ∙ a.same_reference;
        variables = v ∙ a.variables;
        count = n ∙ count-snoc before (prop_clause_of us) x.count a.count;
        work =
            subst (λ (l : List (List ℕ)). Tallied start.variables l y.work.now) (sym (codes-snoc before us))
            (subst (λ (n : ℕ). Tallied n (all_codes before ++ (us ∷ [])) y.work.now) a.variables
            (t (all_codes before) (subst (λ (n : ℕ). Tallied n (all_codes before) x.work.now) (sym a.variables) a.work)));
        long = k ∙ a.long;
      }

-- It is entered.
module _ (us : List ℕ) (x : Entering) where
  pub enter-fits : Consumes entering (prop_clause_of us ∷ []) x → Enterable x.variables us x.count x.work.now
  enter-fits h =
      let same = h.so_far.variables in
      let all_codes-is = codes-split h.clauses h.before h.behind us h.split in
      record {
        before = all_codes h.before;
        after = all_codes h.behind;
        entered =
            subst (λ (l : List (List ℕ)). Entered x.variables l (all_codes h.before) x.work.now) all_codes-is
            (subst (λ (n : ℕ). Entered n (all_codes h.clauses) (all_codes h.before) x.work.now) (sym same) h.so_far.work);
        at = length-map h.before codes ∙ sym h.so_far.count;
        range = numbered-in-range x.variables us (subst (λ (n : ℕ). all (is_numbered n) (prop_clause_of us) ≡ true) (sym same) (passes h.clauses h.before h.behind us h.split (all (is_numbered h.start.variables)) h.fits.numbered));
        short = omega (arith, ltb-true (length (prop_clause_of us)) 64 (passes h.clauses h.before h.behind us h.split (λ (c : PropClause). ltb (length c) 64) h.fits.short), length-map us literal_of);
        fits = subst (λ (l : List (List ℕ)). area_end x.variables l < 2 ^ 32) all_codes-is (subst (λ (n : ℕ). area_end n (all_codes h.clauses) < 2 ^ 32) (sym same) h.fits.room);
      }

module _ (us : List ℕ) (cs before behind : List PropClause) (start x y : Entering) (split : cs ≡ before ++ (prop_clause_of us ∷ behind)) where
  pub entered : EnteredFirst cs start before x → y.work.ghost_name ≡ x.work.ghost_name → y.variables ≡ x.variables → y.count ≡ x.count + 1 → length y.work.now ≡ length x.work.now
      → ((es ds : List (List ℕ)) → Entered x.variables (es ++ (us ∷ ds)) es x.work.now → length es ≡ x.count → Entered x.variables (es ++ (us ∷ ds)) (es ++ (us ∷ [])) y.work.now)
      → EnteredFirst cs start (before ++ (prop_clause_of us ∷ [])) y
  entered a r v n k t =
      let all_codes-is = codes-split cs before behind us split in
      record {
        same_reference = r ∙ a.same_reference;
        variables = v ∙ a.variables;
        count = n ∙ count-snoc before (prop_clause_of us) x.count a.count;
        work =
            subst (λ (l : List (List ℕ)). Entered start.variables (all_codes cs) l y.work.now) (sym (codes-snoc before us))
            (subst (λ (n : ℕ). Entered n (all_codes cs) (all_codes before ++ (us ∷ [])) y.work.now) a.variables
            (subst (λ (l : List (List ℕ)). Entered x.variables l (all_codes before ++ (us ∷ [])) y.work.now) (sym all_codes-is)
            (t (all_codes before) (all_codes behind)
            (subst (λ (l : List (List ℕ)). Entered x.variables l (all_codes before) x.work.now) all_codes-is
            (subst (λ (n : ℕ). Entered n (all_codes cs) (all_codes before) x.work.now) (sym a.variables) a.work))
            (length-map before codes ∙ sym a.count))));
        long = k ∙ a.long;
      }
