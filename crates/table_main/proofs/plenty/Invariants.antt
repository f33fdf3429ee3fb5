-- The place stays in the array.
use Rattle.std.proofs.Common.{◌≤◌, ◌-◌}
use Rattle.table_main.proofs.plenty.Given as goal

abbrev pub invariant-loop-i : goal.invariant-loop-i
invariant-loop-i l = l.i ≤ 17

abbrev pub decreases-loop-i : goal.decreases-loop-i
decreases-loop-i l = 17 - l.i
