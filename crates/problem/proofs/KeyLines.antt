-- A line's key and value, and the count that a value is.
use Prim.Native.Nat.{ℕ, suc, ◌+◌, ◌≤◌, ◌<◌}
use mathlib.Core.Path.{◌≡◌, refl, sym, ap, ◌∙◌}
use mathlib.Core.Bool.{Bool, true, false, cond}
use mathlib.Core.Option.{none, some}
use mathlib.Core.List.{List}
use native.Mathlib.Numerals.{add-one}
use native.Mathlib.Omega.{arith}
use lib.Dec.{leb}
use lib.ListN.{length, drop}
use borrow.Author.Tests.{lt-ltb, le-ltb, le-leb, lt-leb}
use Rattle.theory.specs.Lines.{Cut, cut_line, after_key, count_of}
use Rattle.theory.specs.Refusals.{Answer, answer, at_line, ◌>>=◌, check, or_refuse}
use Rattle.theory.specs.Problem.{key_line, count_line}
use Rattle.theory.proofs.Answers.{bind-step, bind-refused, or_refuse-of-some, or_refuse-of-none, check-of-true, check-of-false}
use Rattle.text.specs.Lines.{part, LineEnd, StartsWith}
use Rattle.text.proofs.Ends.{line-later}
use Rattle.text.proofs.Part.{drop-part, length_part}
use Rattle.problem.specs.Lines.{KeyRead, count_value, count_line_in, CountRead, ValueCounted}
use Rattle.std.specs.Prelude.{Some, None, Ok, Err}
use Rattle.syntax.specs.declared.faults.Fault.TheVariants as fault
use Rattle.std.specs.Prelude as rust
use Rattle.syntax.specs.declared.faults.Fault.{Fault}

module _ (sheet : List ℕ) (at end : ℕ) (key_bytes : List ℕ) (e : LineEnd sheet at end) where
  -- no LF ends the line
  pub no_line : end ≡ length sheet → KeyRead sheet at key_bytes None
  no_line h =
      record {
        read = λ l. sym (bind-refused (or_refuse (cut_line (drop at sheet)) (at_line 2 l)) _ (at_line 2 l) (or_refuse-of-none (cut_line (drop at sheet)) (at_line 2 l)
            (e.cut ∙ ap (λ (b : Bool). cond b (some (part sheet at end, drop (suc end) sheet)) none) (le-ltb end (length sheet) (omega arith)))));
        within = tt;
      }

  module _ (h : end ≡ length sheet → ⊥) where
    cut : cut_line (drop at sheet) ≡ some (part sheet at end, drop (suc end) sheet)
    cut = e.cut ∙ ap (λ (b : Bool). cond b (some (part sheet at end, drop (suc end) sheet)) none) (lt-ltb end (length sheet) (omega (arith, e.within)))

    line-cut : (l : ℕ) (r : Answer Cut) → (or_refuse (after_key key_bytes (part sheet at end)) (at_line 2 l) >>= λ v. answer (v, drop (suc end) sheet)) ≡ r → key_line key_bytes l (drop at sheet) ≡ r
    line-cut l r k = bind-step (or_refuse (cut_line (drop at sheet)) (at_line 2 l)) _ _ r (or_refuse-of-some (cut_line (drop at sheet)) (at_line 2 l) _ cut) k

    -- the line begins with another key
    pub no_key : StartsWith (part sheet at end) key_bytes false → KeyRead sheet at key_bytes None
    no_key s =
        record {
          read = λ l. sym (line-cut l _ (bind-refused (or_refuse (after_key key_bytes (part sheet at end)) (at_line 2 l)) _ (at_line 2 l) (or_refuse-of-none (after_key key_bytes (part sheet at end)) (at_line 2 l) s.found)));
          within = tt;
        }

    pub key-value : StartsWith (part sheet at end) key_bytes true → KeyRead sheet at key_bytes (Some ((at + length key_bytes), end))
    key-value s =
        record {
          read = λ l. sym (line-cut l _ (bind-step (or_refuse (after_key key_bytes (part sheet at end)) (at_line 2 l)) _ _ _ (or_refuse-of-some (after_key key_bytes (part sheet at end)) (at_line 2 l) _ s.found)
              (ap (λ (v : List ℕ). answer (v, drop (suc end) sheet)) (drop-part sheet at end (length key_bytes)))));
          within = (line-later sheet at end (length key_bytes) (omega (arith, s.room refl, length_part sheet at end e.from e.within, e.from)) e, omega (arith, e.within));
        }

module _ (sheet : List ℕ) (from end limit : ℕ) where
  -- the value is no count
  pub no-count : none ≡ count_of (part sheet from end) → ValueCounted sheet from end limit (Err fault.SheetLine)
  unfolding count_value
  no-count e =
      record {
        read = λ l. sym (bind-refused (or_refuse (count_of (part sheet from end)) (at_line 2 l)) _ (at_line 2 l) (or_refuse-of-none (count_of (part sheet from end)) (at_line 2 l) (sym e)));
        within = tt;
      }

  module _ (n : ℕ) (e : some n ≡ count_of (part sheet from end)) where
    counted : (l : ℕ) (r : Answer (ℕ × List ℕ)) → (check (leb n limit) (at_line 3 l) >>= λ _. answer (n, drop (suc end) sheet)) ≡ r → count_value limit l (part sheet from end, drop (suc end) sheet) ≡ r
    unfolding count_value
    counted l r k = bind-step (or_refuse (count_of (part sheet from end)) (at_line 2 l)) _ n r (or_refuse-of-some (count_of (part sheet from end)) (at_line 2 l) n (sym e)) k

    pub count-over : limit < n → ValueCounted sheet from end limit (Err fault.CountOrArity)
    count-over h =
        record {
          read = λ l. sym (counted l _ (bind-refused (check (leb n limit) (at_line 3 l)) _ (at_line 3 l) (check-of-false (leb n limit) (at_line 3 l) (lt-leb n limit h))));
          within = tt;
        }

    pub count-read : n ≤ limit → end < length sheet → ValueCounted sheet from end limit (Ok (n, (end + 1)))
    count-read h k =
        record {
          read = λ l. sym (counted l _ (bind-step (check (leb n limit) (at_line 3 l)) _ tt _ (check-of-true (leb n limit) (at_line 3 l) (le-leb n limit h))
              (ap (λ (m : ℕ). answer (n, drop m sheet)) (sym (add-one end)))));
          within = (h, omega arith);
        }

module _ (sheet : List ℕ) (at : ℕ) (key_bytes : List ℕ) (limit : ℕ) where
  pub count-unkeyed : KeyRead sheet at key_bytes None → CountRead sheet at key_bytes limit (Err fault.SheetLine)
  unfolding count_line
  count-unkeyed h = record { read = λ l. sym (bind-refused (key_line key_bytes l (drop at sheet)) _ (at_line 2 l) (sym (h.read l))); within = tt }

  pub count-keyed : (from end : ℕ) (r : rust.Result (ℕ × ℕ) Fault) → KeyRead sheet at key_bytes (Some (from, end)) → ValueCounted sheet from end limit r → CountRead sheet at key_bytes limit r
  unfolding count_line count_value
  count-keyed from end r h v =
      record {
        read = λ l. sym (bind-step (key_line key_bytes l (drop at sheet)) _ (part sheet from end, drop (suc end) sheet) (count_line_in sheet l r) (sym (h.read l)) (sym (v.read l)));
        within = v.within;
      }
