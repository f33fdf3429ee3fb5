-- The search goes back to the start.
use Rattle.std.proofs.Common.{◌≤◌, length}
use Rattle.inputs.proofs.bare_length.Given as goal

abbrev pub invariant-loop-i : goal.invariant-loop-i
invariant-loop-i l = l.i ≤ length l.text

abbrev pub decreases-loop-i : goal.decreases-loop-i
decreases-loop-i l = l.i
