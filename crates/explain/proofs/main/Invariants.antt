-- Each input leaves fewer.
use Rattle.std.proofs.Common.{◌≡◌, ◌-◌, length}
use Rattle.explain.proofs.main.Given as goal

abbrev pub invariant-loop-rt : goal.invariant-loop-rt
invariant-loop-rt l = 65537 ≡ length l.input

abbrev pub decreases-loop-rt : goal.decreases-loop-rt
decreases-loop-rt l = l.count - l.i
