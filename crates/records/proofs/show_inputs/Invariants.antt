-- Each input leaves fewer; the store is the one that was kept last.
use Rattle.std.proofs.Common.{◌≡◌, ◌-◌, length}
use Rattle.records.specs.Records.{Held}
use Rattle.records.proofs.show_inputs.Given as goal

abbrev pub invariant-loop-rt : goal.invariant-loop-rt
invariant-loop-rt l = Held l.book l.area l.last l.kept × (65537 ≡ length l.input)

abbrev pub decreases-loop-rt : goal.decreases-loop-rt
decreases-loop-rt l = l.count - l.i
