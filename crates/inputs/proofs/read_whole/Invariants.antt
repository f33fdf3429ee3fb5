-- Each read that hands over something leaves less room.
use Rattle.std.proofs.Common.{◌≡◌, ◌≤◌, ◌-◌, length}
use Rattle.inputs.proofs.read_whole.Given as goal

abbrev pub invariant-loop-length : goal.invariant-loop-length
invariant-loop-length g l = (l.length ≤ length l.buf) × (length l.buf ≡ length l.initial.buf)

abbrev pub decreases-loop-length : goal.decreases-loop-length
decreases-loop-length g l = length l.buf - l.length
