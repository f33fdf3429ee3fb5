-- Each input that could not be read leaves fewer.
use Rattle.std.proofs.Common.{◌≡◌, ◌≤◌, ◌-◌, length}
use Rattle.inputs.proofs.next.Given as goal

abbrev pub invariant-loop-rt : goal.invariant-loop-rt
invariant-loop-rt l = (l.from ≤ l.i) × (length l.buf ≡ length l.initial.buf)

abbrev pub decreases-loop-rt : goal.decreases-loop-rt
decreases-loop-rt l = l.count - l.i
