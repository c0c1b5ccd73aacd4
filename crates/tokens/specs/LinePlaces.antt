-- The place that the code's line and column are.
use Rattle.theory.specs.Refusals as theory
use Rattle.tokens.specs.declared.places.Place.{Place}

abbrev pub place_in : Place → theory.Place
place_in p = record { line = p.line; column = p.column }
