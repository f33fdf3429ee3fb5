-- What the router's state means: the rows of its table, and its places, the newest first.
use Rattle.std.specs.Prelude.{List, []}
use Rattle.table.specs.declared.Row.{Row}
use Rattle.place.specs.declared.Place.{Place}

pub record View : Type 0 where
  pub rows : List Row
  pub places : List Place

-- 'A fresh router has no waits and owes nothing.'
abbrev pub fresh : List Row → View
fresh rows = record { rows = rows; places = [] }
