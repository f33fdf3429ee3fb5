-- The loop keeps what a look from here on finds.
use Rattle.std.proofs.Common.{◌+◌, ◌-◌, ◌≡◌}
use Rattle.lists.specs.Least.{gap, gap_in}
use Rattle.store_entries.proofs.lowest_unset.Given as goal

abbrev pub invariant-loop-number : goal.invariant-loop-number
invariant-loop-number l = gap_in (l.from + 256 - l.number) l.number l.used ≡ gap l.from l.used
