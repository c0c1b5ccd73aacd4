-- Syntax: a text has no 15 exactly if its tokens show statements as they are written; the file's clauses are then those of the statements.
use Rattle.std.specs.Prelude.{◌≡◌, List, map, ℕ}
use Rattle.std.proofs.Math.Option.{Option, none}
use Rattle.theory.specs.Lists.{concat_map}
use Rattle.tptp.specs.Tokens.{TptpToken, tokens}
use Rattle.tptp.specs.Written.{Item, item, Layout, statement_items, written_clause}
use Rattle.tptp.specs.Tptp.{read_file, clauses_of_file}

-- the theorem
pub record Syntax : Type 0 where
  -- statements that are written are read
  pub read : (text : List ℕ) (ls : List Layout) → map item (tokens text) ≡ concat_map statement_items ls → ((read_file text).foreign ≡ none) × (clauses_of_file (read_file text) ≡ map written_clause ls)
  -- a text without a 15 has statements written
  pub written : (text : List ℕ) → (read_file text).foreign ≡ none → (ls : List Layout) × (map item (tokens text) ≡ concat_map statement_items ls)
