-- The mark is set by adding it, where it is not set.
use Rattle.std.proofs.Common.{rules, arith}
use Rattle.lists.proofs.Arrays.{changed-past, changed-now, changed-already}
use Rattle.place.proofs.Numbers.{pack-unpack, marked, marked-already}
use Rattle.places.specs.Places.{pack, unpack, owing}
use Rattle.router_changes.proofs.owe.Goals as goal

pub returns-then-n-at : goal.returns-then-n-at
returns-then-n-at c = changed-past 48 pack unpack _ _ c.requires owing _ c.if-n-at.true

pub returns-then-x-lt-MARK : goal.returns-then-x-lt-MARK
returns-then-x-lt-MARK c =
    changed-now 48 pack unpack _ _ c.requires owing _ _ (search rules) (pack-unpack _ (omega arith)) (marked _ (search rules))

pub returns-else-x-lt-MARK : goal.returns-else-x-lt-MARK
returns-else-x-lt-MARK c =
    changed-already 48 pack unpack _ _ c.requires owing _ (search rules) (marked-already _ (search rules))
