-- How many arguments each list has that opens in a run of items, and what is told of them ahead.
use Rattle.std.specs.Prelude.{ℕ, suc, ◌+◌, ◌≤◌, ◌<◌, ◌≡◌, true, false, List, [], ◌∷◌, length, get_or}
use Rattle.tptp.specs.Tokens.{left_paren}
use Rattle.tptp.specs.Written.{Item, lower, upper, sign}
use Rattle.tptp.specs.Scanning.{same_token_kind, commas}
use Rattle.argument_lists.specs.declared.pass.Lists.{Lists}

-- how many lists are noted in one pass, and from which number on arguments are too many to be counted
abbrev pub max_lists : ℕ
max_lists = 16384

abbrev pub many : ℕ
many = 4

-- the arguments of each list that opens here, in order
abbrev pub list_arities : List Item → List ℕ
list_arities [] = []
list_arities (lower x ∷ us) = list_arities us
list_arities (upper x ∷ us) = list_arities us
list_arities (sign k ∷ us) = elim (same_token_kind left_paren k) as (λ _. List ℕ) [ true ↦ suc (commas us 0) ∷ list_arities us | false ↦ list_arities us ]

-- the arguments of the list that is open here, and of each that opens
abbrev pub from_open : List Item → List ℕ
from_open us = suc (commas us 0) ∷ list_arities us

-- room for the lists of one pass
pub record Room (counts links : List ℕ) : Type 0 where
  pub counts-long : length counts ≡ max_lists
  pub links-long : length links ≡ max_lists

-- the two slices are those that were lent, each as long as it was
pub record KeepsSlices (old new : Lists) : Type 0 where
  pub counts_reference : new.counts.ghost_name ≡ old.counts.ghost_name
  pub links_reference : new.links.ghost_name ≡ old.links.ghost_name
  pub counts_length : length new.counts.now ≡ length old.counts.now
  pub links_length : length new.links.now ≡ length old.links.now

-- c arguments are counted of a list that has n, and m are still to come; many are at least so many
pub record Counts (c m n : ℕ) : Type 0 where
  pub few : c < many → n ≡ c + m
  pub more : many ≤ c → many ≤ n

-- of the lists that open next, with ns arguments, those from one place of the counts up to another are told
pub record Held (counts : List ℕ) (from to : ℕ) (ns : List ℕ) : Type 0 where
  pub ordered : from ≤ to
  pub within : to ≤ max_lists
  pub told : (j : ℕ) → from + j < to → Counts (get_or counts (from + j) 0) 0 (get_or ns j 0)
