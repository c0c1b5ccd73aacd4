-- The text of a problem (document 01: a sheet).
use Rattle.std.specs.Prelude.{ℕ, ◌+◌, true, false, List, [], ◌∷◌, ◌++◌, map, length}
use Rattle.theory.specs.Lists.{concat_map}
use Rattle.theory.specs.Bytes.{bytes, LF, space, zero_digit, decimal}
use Rattle.theory.specs.Syntax.{Symbol, Signature, symbol_at, Clause, functions, predicates}
use Rattle.theory.specs.Grammar.{Word, sign, equals, symbol, letter, clause_words}
use Rattle.theory.specs.Problem.{Problem}

-- a line: a key and what follows it
abbrev pub line : List ℕ → List ℕ → List ℕ
line key v = key ++ (v ++ (LF ∷ []))

-- a symbol: its name, / and its arity
abbrev pub symbol_text : Symbol → List ℕ
symbol_text f = f.name ++ (47 ∷ (zero_digit + f.arity) ∷ [])

-- a word: +, -, =, the symbol's name, or the letter
abbrev pub word_text : Signature → Word → List ℕ
word_text g (sign true) = bytes "+"
word_text g (sign false) = bytes "-"
word_text g equals = bytes "="
word_text g (symbol i) = (symbol_at g i).name
word_text g (letter x) = (65 + x) ∷ []

-- words with one space between
abbrev pub words_text : List (List ℕ) → List ℕ
words_text [] = []
words_text (w ∷ ws) = w ++ concat_map (λ (v : List ℕ). space ∷ v) ws

-- a clause: its words
abbrev pub clause_words_text : Signature → Clause → List ℕ
clause_words_text g c = words_text (map (word_text g) (clause_words c))

-- sheet=1, the functions, the predicates, the clauses
unfoldable pub sheet_text : Problem → List ℕ
sheet_text p =
    let fs = functions p.symbols in
    let ps = predicates p.symbols in
    line (bytes "sheet=1") []
    ++ (line (bytes "funs=") (decimal (length fs))
    ++ (concat_map (λ (f : Symbol). line (bytes "fun=") (symbol_text f)) fs
    ++ (line (bytes "preds=") (decimal (length ps))
    ++ (concat_map (λ (f : Symbol). line (bytes "pred=") (symbol_text f)) ps
    ++ (line (bytes "clauses=") (decimal (length p.clauses))
    ++ concat_map (λ (c : Clause). line (bytes "clause=") (clause_words_text p.symbols c)) p.clauses)))))
