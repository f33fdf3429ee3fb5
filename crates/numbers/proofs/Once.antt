-- The law leaves one array of numbers for a view.
use Prim.Native.Nat.{ℕ, ◌<◌}
use mathlib.Core.Path.{◌≡◌, sym, ◌∙◌}
use mathlib.Core.List.{List}
use native.Mathlib.Omega.{arith}
use lib.Seq.{ext_get_or}
use Rattle.table.specs.declared.Row.{Row}
use Rattle.place.specs.declared.Place.{Place}
use Rattle.numbers.specs.Numbers.{Counted}

pub counted-once : (rows : List Row) (ps : List Place) (n m : List ℕ) → Counted rows ps n → Counted rows ps m → n ≡ m
counted-once rows ps n m c d = ext_get_or 0 n m (c.long ∙ sym d.long) (λ j l. let k : j < 128 = omega (arith, c.long) in c.each j k ∙ sym (d.each j k))
