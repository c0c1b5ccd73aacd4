-- A symbol line, and the symbol lines after it.
use Prim.Native.Nat.{ℕ, suc}
use mathlib.Core.Path.{◌≡◌, refl, sym, ap, ◌∙◌}
use mathlib.Core.Bool.{Bool, true, false, not, ◌&&◌}
use mathlib.Core.Option.{Option, none, some}
use mathlib.Core.List.{List, [], ◌∷◌, ◌++◌}
use lib.Dec.{leb}
use lib.ListN.{drop}
use Rattle.theory.specs.Syntax.{Kind, Signature, Symbol}
use Rattle.theory.specs.Lines.{Cut}
use Rattle.theory.specs.Refusals.{Answer, answer, refused, at_line, ◌>>=◌, check, or_refuse}
use Rattle.theory.specs.Problem.{max_arity, is_name, symbol_of, is_named, key_line, symbol_lines}
use Rattle.theory.proofs.Answers.{bind-step, bind-refused}
use Rattle.text.specs.Lines.{part}
use Rattle.syntax.specs.Signatures.{symbol_in}
use Rattle.problem.specs.Lines.{KeyRead}
use Rattle.problem.specs.Symbols.{symbol_value, symbol_value_in, symbol_line_in, ValueDeclared, SymbolRead}
use Rattle.std.specs.Prelude.{Some, None, Ok, Err}
use Rattle.syntax.specs.declared.faults.Fault.TheVariants as fault
use Rattle.std.specs.Prelude as rust
use Rattle.syntax.specs.declared.signature.Symbol as code
use Rattle.syntax.specs.declared.faults.Fault.{Fault}
use Rattle.syntax.specs.Faults.{number_of}

-- a line whose key and value were read: the symbol of the value, then the lines after it
line-of-value : (n : ℕ) (key_bytes : List ℕ) (k : Kind) (g : Signature) (l : ℕ) (text : List ℕ) (p : Cut) → key_line key_bytes l text ≡ answer p
    → symbol_lines (suc n) key_bytes k g l text ≡ (symbol_value k g l p >>= λ y. symbol_lines n key_bytes k (g ++ (y.0 ∷ [])) (suc l) y.1)
unfolding symbol_lines symbol_value ◌>>=◌
line-of-value n key_bytes k g l text p e = bind-step (key_line key_bytes l text) _ p _ e (laid (symbol_of k p.0))
  where
    rest : Symbol → Answer (Signature × List ℕ)
    rest f = symbol_lines n key_bytes k (g ++ (f ∷ [])) (suc l) p.1

    held : (f : Symbol) (a b : Bool)
        → (check a (at_line 3 l) >>= λ _. check b (at_line 4 l) >>= λ _. rest f)
        ≡ ((check a (at_line 3 l) >>= λ _. check b (at_line 4 l) >>= λ _. answer (f, p.1)) >>= λ (y : Symbol × List ℕ). symbol_lines n key_bytes k (g ++ (y.0 ∷ [])) (suc l) y.1)
    held f true true = refl
    held f true false = refl
    held f false b = refl

    laid : (o : Option Symbol)
        → (or_refuse o (at_line 2 l) >>= λ f. check (leb f.arity max_arity) (at_line 3 l) >>= λ _. check (is_name f.name && not (is_named f.name g)) (at_line 4 l) >>= λ _. rest f)
        ≡ ((or_refuse o (at_line 2 l) >>= λ f. check (leb f.arity max_arity) (at_line 3 l) >>= λ _. check (is_name f.name && not (is_named f.name g)) (at_line 4 l) >>= λ _. answer (f, p.1))
        >>= λ (y : Symbol × List ℕ). symbol_lines n key_bytes k (g ++ (y.0 ∷ [])) (suc l) y.1)
    laid none = refl
    laid (some f) = held f (leb f.arity max_arity) (is_name f.name && not (is_named f.name g))

module _ (sheet : List ℕ) (at : ℕ) (key_bytes : List ℕ) (k : Kind) (g : Signature) where
  pub symbol-unkeyed : KeyRead sheet at key_bytes None → SymbolRead sheet at key_bytes k g (Err fault.SheetLine)
  unfolding symbol_lines
  symbol-unkeyed h = record { read = λ n l. sym (bind-refused (key_line key_bytes l (drop at sheet)) _ (at_line 2 l) (sym (h.read l))); within = tt }

  pub symbol-keyed : (from end : ℕ) (r : rust.Result (code.Symbol × ℕ) Fault) → KeyRead sheet at key_bytes (Some (from, end)) → ValueDeclared sheet from end k g r → SymbolRead sheet at key_bytes k g r
  symbol-keyed from end r h v =
      record {
        read = λ n l. sym (line-of-value n key_bytes k g l (drop at sheet) (part sheet from end, drop (suc end) sheet) (sym (h.read l))
            ∙ ap (λ (m : Answer (Symbol × List ℕ)). m >>= λ y. symbol_lines n key_bytes k (g ++ (y.0 ∷ [])) (suc l) y.1) (sym (v.read l))
            ∙ each r n l);
        within = v.within;
      }
    where
      each : (r : rust.Result (code.Symbol × ℕ) Fault) (n l : ℕ) → (symbol_value_in sheet l r >>= λ y. symbol_lines n key_bytes k (g ++ (y.0 ∷ [])) (suc l) y.1) ≡ symbol_line_in sheet key_bytes k g n l r
      each (Ok (y, next)) n l = bind-step (answer (symbol_in sheet y, drop next sheet)) _ _ _ refl refl
      each (Err f) n l = bind-refused (refused (at_line (number_of f) l)) _ _ refl
