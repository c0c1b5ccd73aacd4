-- A reply read in one pass is the reply that the definitions read: the theorem OnePass; and the steps of that pass from left to right.
use Prim.Native.Nat.{ℕ}
use mathlib.Core.Path.{◌≡◌, refl, sym, ap, ◌∙◌}
use mathlib.Core.Bool.{Bool, true, false, cond, not, ◌&&◌}
use mathlib.Core.Option.{Option, none, some, some-injective}
use mathlib.Core.List.{List, [], ◌∷◌, ◌++◌}
use native.Mathlib.Omega.{arith}
use lib.Dec.{eqb}
use lib.ListN.{replicate}
use Rattle.theory.specs.Lists.{select, same, prefix}
use Rattle.theory.specs.Bytes.{bytes, LF}
use Rattle.theory.specs.Lines.{Cut, add_front, cut_line, after_key, cut_words}
use Rattle.theory.specs.Propositional.{PropLiteral}
use Rattle.theory.specs.Walk.{Partial, bytes_of}
use Rattle.theory.specs.Program.{◌>>?◌}
use Rattle.theory.proofs.Lists.{same_true}
use Rattle.solver.specs.SolverLines.{onto_line, cut_lines, is_comment, read_positive, read_literal, end_word, read_numbers, value_words, unsatisfiable, satisfiable, satisfiable_line, unsatisfiable_line, is_empty, claim_of, read_claim}
use Rattle.solver.specs.Replies.{each_once, stated_setting, Reply, states, reply_of, read_reply}
use Rattle.solver.specs.OnePass.{set_once, all_set, Stage, unanswered, refuted, listing, complete, Heard, heard, hear_literal, hear_number, hear_word, hear_words, hear_said, hear_line, reply_at, hear_lines, hear, on_words, on_text, on_end}
use Rattle.solver.specs.Claims.OnePass.{OnePassHolds}
use Rattle.solver.proofs.Options.{none≢some, bind-nothing, bind-same, bind-bind}
use Rattle.solver.proofs.Lines.{onto-front}
use Rattle.solver.proofs.ValueLines.{words-of, only-numbers}
use Rattle.solver.proofs.Setting.{set_in_turn, setting}

-- a line, then the lines of the rest
abbrev with_rest : Cut → Option (List (List ℕ))
with_rest p = prefix p.0 (cut_lines p.1)

-- the lines of a text are its first line and the lines of the rest
cut-first : (text : List ℕ) → (text ≡ [] → ⊥) → cut_lines text ≡ (cut_line text >>? with_rest)
unfolding ◌>>?◌
cut-first [] h = absurd (h refl)
cut-first (b ∷ []) h = go (eqb b LF)
  where
    go : (q : Bool) → cond q (prefix [] (some [])) (onto_line b (some [])) ≡ (◌>>?◌ {A = Cut} (cond q (some ([], [])) none) with_rest)
    go true = refl
    go false = refl
cut-first (b ∷ c ∷ bs) h = go (eqb b LF) (cut_line (c ∷ bs)) (cut-first (c ∷ bs) (λ e. let z : ◌≡◌ {A = ℕ} 0 1 = cc in omega arith))
  where
    go : (q : Bool) (o : Option Cut) → cut_lines (c ∷ bs) ≡ (o >>? with_rest)
        → cond q (prefix [] (cut_lines (c ∷ bs))) (onto_line b (cut_lines (c ∷ bs))) ≡ (◌>>?◌ {A = Cut} (cond q (some ([], c ∷ bs)) (add_front b o)) with_rest)
    go true o ih = refl
    go false none ih = ap (onto_line b) ih
    go false (some p) ih = ap (onto_line b) ih ∙ onto-front b p.0 (cut_lines p.1)

-- one line more: the rest of the text gives what the whole gives
pub hear-line : (t : Stage) (π : Partial) (text : List ℕ) → (text ≡ [] → ⊥) → hear t π text ≡ (cut_line text >>? λ p. hear_line t π p.0 >>? on_text p.1)
unfolding hear ◌>>?◌
hear-line t π text n = ap (λ (o : Option (List (List ℕ))). o >>? λ ls. hear_lines t π ls) (cut-first text n) ∙ go (cut_line text)
  where
    first : (l : List ℕ) (o : Option (List (List ℕ))) → (prefix l o >>? λ ls. hear_lines t π ls) ≡ (hear_line t π l >>? λ h. o >>? λ ls. hear_lines h.stage h.values ls)
    first l none = sym (bind-nothing (hear_line t π l))
    first l (some ls) = refl

    go : (o : Option Cut) → ((o >>? with_rest) >>? λ ls. hear_lines t π ls) ≡ (o >>? λ p. hear_line t π p.0 >>? λ h. cut_lines p.1 >>? λ ls. hear_lines h.stage h.values ls)
    go none = refl
    go (some p) = first p.0 (cut_lines p.1)

pub hear-end : (t : Stage) (π : Partial) → hear t π [] ≡ reply_at t π
unfolding hear ◌>>?◌
hear-end t π = refl

-- lines that are no comments
abbrev hear_saids : Stage → Partial → List (List ℕ) → Option Reply
hear_saids t π [] = reply_at t π
hear_saids t π (l ∷ ls) = hear_said t π l >>? λ h. hear_saids h.stage h.values ls

no-comments : (t : Stage) (π : Partial) (ls : List (List ℕ)) → hear_lines t π ls ≡ hear_saids t π (select (λ l. not (is_comment l)) ls)
unfolding ◌>>?◌ hear_line
no-comments t π [] = refl
no-comments t π (l ∷ ls) = go (is_comment l) (no-comments t π ls) (λ (h : Heard). no-comments h.stage h.values ls)
  where
    rest : List (List ℕ)
    rest = select (λ l. not (is_comment l)) ls

    go : (q : Bool) → hear_lines t π ls ≡ hear_saids t π rest → ((h : Heard) → hear_lines h.stage h.values ls ≡ hear_saids h.stage h.values rest)
        → (cond q (some (heard t π)) (hear_said t π l) >>? λ h. hear_lines h.stage h.values ls) ≡ hear_saids t π (cond (not q) (l ∷ rest) rest)
    go true e f = e
    go false e f = bind-same (hear_said t π l) (λ h. hear_lines h.stage h.values ls) (λ h. hear_saids h.stage h.values rest) (λ h _. f h)

pub hear-append : (t : Stage) (π : Partial) (ws vs : List (List ℕ)) → hear_words t π (ws ++ vs) ≡ (hear_words t π ws >>? on_words vs)
unfolding ◌>>?◌
hear-append t π [] vs = refl
hear-append t π (w ∷ ws) vs =
    bind-same (hear_word t π w) (on_words (ws ++ vs)) (λ h. on_words ws h >>? on_words vs) (λ h _. hear-append h.stage h.values ws vs)
    ∙ sym (bind-bind (hear_word t π w) (on_words ws) (on_words vs))

-- after the s line of a model
abbrev Among : Stage → Type 0
Among unanswered = ⊥
Among refuted = ⊥
Among listing = Unit {0}
Among complete = Unit {0}

among : (h k : Heard) → Among h.stage → some h ≡ some k → Among k.stage
among h k a e = let z : h ≡ k = some-injective h k e in rw (ap (λ (h : Heard). h.stage) z) at a

among-word : (t : Stage) (π : Partial) (w : List ℕ) (k : Heard) → Among t → hear_word t π w ≡ some k → Among k.stage
unfolding ◌>>?◌ hear_number
among-word unanswered π w k a e = absurd a
among-word refuted π w k a e = absurd a
among-word complete π w k a e = absurd (none≢some k e)
among-word listing π w k a e = go (same w end_word) (read_literal w) e
  where
    put : (o : Option Partial) → (o >>? λ τ. some (heard listing τ)) ≡ some k → Among k.stage
    put none e = absurd (none≢some k e)
    put (some τ) e = among (heard listing τ) k tt e

    go : (q : Bool) (o : Option PropLiteral)
        → cond q (some (heard complete π)) (o >>? hear_literal π) ≡ some k → Among k.stage
    go true o e = among (heard complete π) k tt e
    go false none e = absurd (none≢some k e)
    go false (some l) e = put (set_once π l) e

among-words : (t : Stage) (π : Partial) (ws : List (List ℕ)) (k : Heard) → Among t → hear_words t π ws ≡ some k → Among k.stage
unfolding ◌>>?◌
among-words t π [] k a e = among (heard t π) k a e
among-words t π (w ∷ ws) k a e = go (hear_word t π w) refl e (λ (h : Heard) b f. among-words h.stage h.values ws k b f)
  where
    go : (o : Option Heard) → hear_word t π w ≡ o → (o >>? on_words ws) ≡ some k → ((h : Heard) → Among h.stage → on_words ws h ≡ some k → Among k.stage) → Among k.stage
    go none z e ih = absurd (none≢some k e)
    go (some h) z e ih = ih h (among-word t π w h a z) e

-- v lines are their words
value-lines : (t : Stage) (π : Partial) (ls : List (List ℕ)) → Among t → hear_saids t π ls ≡ (value_words ls >>? λ ws. hear_words t π ws >>? on_end)
unfolding ◌>>?◌
value-lines t π [] a = refl
value-lines t π (l ∷ ls) a = by t a (λ (h : Heard) b. value-lines h.stage h.values ls b)
  where
    words : List ℕ → Option (List (List ℕ))
    words r = value_words ls >>? λ ws. some (cut_words r ++ ws)

    closed : (o : Option (List ℕ)) → none ≡ ((o >>? words) >>? λ ws. hear_words complete π ws >>? on_end)
    closed none = refl
    closed (some r) = after (value_words ls) (cut_words r) (words-of r).0 (words-of r).1 (words-of r).2
      where
        after : (o : Option (List (List ℕ))) (cs : List (List ℕ)) (w : List ℕ) (us : List (List ℕ)) → cs ≡ w ∷ us
            → none ≡ ((o >>? λ ws. some (cs ++ ws)) >>? λ ws. hear_words complete π ws >>? on_end)
        after none cs w us e = refl
        after (some ws) cs w us e = ap (λ (cs : List (List ℕ)). hear_words complete π (cs ++ ws) >>? on_end) (sym e)

    ongoing : (o : Option (List ℕ)) → ((h : Heard) → Among h.stage → hear_saids h.stage h.values ls ≡ (value_words ls >>? λ ws. on_words ws h >>? on_end))
        → ((o >>? λ r. hear_words listing π (cut_words r)) >>? λ h. hear_saids h.stage h.values ls) ≡ ((o >>? words) >>? λ ws. hear_words listing π ws >>? on_end)
    ongoing none ih = refl
    ongoing (some r) ih =
        body (hear_words listing π (cut_words r)) refl
        ∙ sym (bind-bind (value_words ls) (λ ws. some (cut_words r ++ ws)) (λ ws. hear_words listing π ws >>? on_end)
        ∙ bind-same (value_words ls) (λ ws. hear_words listing π (cut_words r ++ ws) >>? on_end) (λ ws. (hear_words listing π (cut_words r) >>? on_words ws) >>? on_end)
        (λ ws _. ap (λ (q : Option Heard). q >>? on_end) (hear-append listing π (cut_words r) ws)))
      where
        body : (o : Option Heard) → hear_words listing π (cut_words r) ≡ o → (o >>? λ h. hear_saids h.stage h.values ls) ≡ (value_words ls >>? λ ws. (o >>? on_words ws) >>? on_end)
        body none e = sym (bind-nothing (value_words ls))
        body (some h) e = ih h (among-words listing π (cut_words r) h tt e)

    by : (t : Stage) → Among t → ((h : Heard) → Among h.stage → hear_saids h.stage h.values ls ≡ (value_words ls >>? λ ws. on_words ws h >>? on_end))
        → (hear_said t π l >>? λ h. hear_saids h.stage h.values ls) ≡ ((after_key (bytes "v ") l >>? words) >>? λ ws. hear_words t π ws >>? on_end)
    by unanswered a ih = absurd a
    by refuted a ih = absurd a
    by listing a ih = ongoing (after_key (bytes "v ") l) ih
    by complete a ih = closed (after_key (bytes "v ") l)

-- the reply of values that are all set
abbrev taken : Partial → Option Reply
taken π = cond (all_set π) (some (states (bytes_of π))) none

-- the words of a model are its numbers
model-numbers : (π : Partial) (ws : List (List ℕ)) → (hear_words listing π ws >>? on_end) ≡ (read_numbers ws >>? λ ls. set_in_turn π ls >>? taken)
unfolding ◌>>?◌ read_positive read_literal hear_number
model-numbers π [] = refl
model-numbers π (w ∷ []) = go (same w end_word) (read_literal w)
  where
    put : (o : Option Partial) → (((o >>? λ τ. some (heard listing τ)) >>? on_words []) >>? on_end) ≡ none
    put none = refl
    put (some τ) = refl

    go : (q : Bool) (o : Option PropLiteral)
        → ((cond q (some (heard complete π)) (o >>? hear_literal π) >>? on_words []) >>? on_end)
        ≡ (cond q (some []) none >>? λ ls. set_in_turn π ls >>? taken)
    go true o = refl
    go false none = refl
    go false (some l) = put (set_once π l)
model-numbers π (w ∷ x ∷ ws) = go (same w end_word) refl (read_literal w) refl (λ τ. model-numbers τ (x ∷ ws))
  where
    numbers : Option (List PropLiteral)
    numbers = read_numbers (x ∷ ws)

    put : (l : PropLiteral) (o : Option Partial) → ((τ : Partial) → (hear_words listing τ (x ∷ ws) >>? on_end) ≡ (numbers >>? λ ls. set_in_turn τ ls >>? taken))
        → (((o >>? λ τ. some (heard listing τ)) >>? on_words (x ∷ ws)) >>? on_end) ≡ (numbers >>? λ ls. (o >>? λ τ. set_in_turn τ ls) >>? taken)
    put l none ih = sym (bind-nothing numbers)
    put l (some τ) ih = ih τ

    front : (l : PropLiteral) (o : Option (List PropLiteral)) → (o >>? λ ls. (set_once π l >>? λ τ. set_in_turn τ ls) >>? taken) ≡ (prefix l o >>? λ ls. set_in_turn π ls >>? taken)
    front l none = refl
    front l (some ls) = refl

    go : (q : Bool) → same w end_word ≡ q → (o : Option PropLiteral) → read_literal w ≡ o
        → ((τ : Partial) → (hear_words listing τ (x ∷ ws) >>? on_end) ≡ (numbers >>? λ ls. set_in_turn τ ls >>? taken))
        → ((cond q (some (heard complete π)) (o >>? hear_literal π) >>? on_words (x ∷ ws)) >>? on_end)
        ≡ ((o >>? λ l. prefix l numbers) >>? λ ls. set_in_turn π ls >>? taken)
    go true e none h ih = refl
    go true e (some l) h ih = absurd (none≢some l (sym (ap read_literal (same_true w end_word e)) ∙ h))
    go false e none h ih = refl
    go false e (some l) h ih = put l (set_once π l) ih ∙ front l numbers

-- numbers that set all variables state the setting
model-reply : (v : ℕ) (ws : List (List ℕ)) (ls : List PropLiteral) → read_numbers ws ≡ some ls → (set_in_turn (replicate v none) ls >>? taken) ≡ reply_of v (satisfiable ls)
unfolding ◌>>?◌
model-reply v ws ls e =
    let said : Option (List ℕ) → Option Reply = λ o. o >>? λ σ. some (states σ) in
    stated (set_in_turn (replicate v none) ls) ∙ ap said (setting v ls (only-numbers ws ls e).1) ∙ sym (one (each_once v ls) (stated_setting v ls))
  where
    one : (b : Bool) (σ : List ℕ) → cond b (some (states σ)) none ≡ (cond b (some σ) none >>? λ σ. some (states σ))
    one true σ = refl
    one false σ = refl

    stated : (o : Option Partial) → (o >>? taken) ≡ ((o >>? λ π. cond (all_set π) (some (bytes_of π)) none) >>? λ σ. some (states σ))
    stated none = refl
    stated (some π) = one (all_set π) (bytes_of π)

-- the lines that are no comments
said-reply : (v : ℕ) (said : List (List ℕ)) → hear_saids unanswered (replicate v none) said ≡ (claim_of said >>? λ c. reply_of v c)
unfolding ◌>>?◌ claim_of
said-reply v [] = refl
said-reply v (l ∷ ls) = go (same l satisfiable_line) (same l unsatisfiable_line) ls
  where
    π : Partial
    π = replicate v none

    go : (q r : Bool) (ls : List (List ℕ))
        → (cond q (some (heard listing π)) (cond r (some (heard refuted π)) none) >>? λ h. hear_saids h.stage h.values ls)
        ≡ (cond q (value_words ls >>? λ ws. read_numbers ws >>? λ numbers. some (satisfiable numbers)) (cond (r && is_empty ls) (some unsatisfiable) none) >>? λ c. reply_of v c)
    go true r ls =
        value-lines listing π ls tt
        ∙ bind-same (value_words ls) (λ ws. hear_words listing π ws >>? on_end) (λ ws. read_numbers ws >>? λ ns. reply_of v (satisfiable ns))
        (λ ws _. model-numbers π ws ∙ bind-same (read_numbers ws) (λ ns. set_in_turn π ns >>? taken) (λ ns. reply_of v (satisfiable ns)) (λ ns e. model-reply v ws ns e))
        ∙ sym (bind-bind (value_words ls) (λ ws. read_numbers ws >>? λ numbers. some (satisfiable numbers)) (λ c. reply_of v c)
        ∙ bind-same (value_words ls) (λ ws. (read_numbers ws >>? λ numbers. some (satisfiable numbers)) >>? λ c. reply_of v c) (λ ws. read_numbers ws >>? λ ns. reply_of v (satisfiable ns))
        (λ ws _. bind-bind (read_numbers ws) (λ numbers. some (satisfiable numbers)) (λ c. reply_of v c)))
    go false true [] = refl
    go false true (k ∷ ks) = refl
    go false false ls = refl

-- the theorem
pub one-pass : OnePassHolds
unfolding hear read_reply read_claim ◌>>?◌
one-pass v text =
    let said : List (List ℕ) → List (List ℕ) = λ ls. select (λ l. not (is_comment l)) ls in
    bind-same (cut_lines text) (λ ls. hear_lines unanswered (replicate v none) ls) (λ ls. claim_of (said ls) >>? λ c. reply_of v c)
    (λ ls _. no-comments unanswered (replicate v none) ls ∙ said-reply v (said ls))
    ∙ sym (bind-bind (cut_lines text) (λ ls. claim_of (said ls)) (λ c. reply_of v c))
