-- The two slices of the lists stay those that were lent.
use mathlib.Core.Path.{refl, ◌∙◌}
use Rattle.argument_lists.specs.Lists.{Room, KeepsSlices}
use Rattle.argument_lists.specs.declared.pass.Lists.{Lists}

-- nothing was done to them
pub kept_still : (a : Lists) → KeepsSlices a a
kept_still a = record { counts_reference = refl; links_reference = refl; counts_length = refl; links_length = refl }

-- one step after the other
pub kept-on : (a b c : Lists) → KeepsSlices a b → KeepsSlices b c → KeepsSlices a c
kept-on a b c k l =
    record {
      counts_reference = l.counts_reference ∙ k.counts_reference;
      links_reference = l.links_reference ∙ k.links_reference;
      counts_length = l.counts_length ∙ k.counts_length;
      links_length = l.links_length ∙ k.links_length;
    }

-- there is room as before
pub room_kept : (a b : Lists) → KeepsSlices a b → Room a.counts.now a.links.now → Room b.counts.now b.links.now
room_kept a b k r = record { counts-long = k.counts_length ∙ r.counts-long; links-long = k.links_length ∙ r.links-long }
