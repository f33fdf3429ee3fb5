-- The buffers have their lengths, and the bench is sound. The measure is what is left of the input.
use Rattle.std.proofs.Common.{◌≡◌, ◌-◌, length}
use Rattle.bench.specs.Bench.{Sound}
use Rattle.workbench.proofs.show.Given as goal

abbrev pub invariant-loop-rt : goal.invariant-loop-rt
invariant-loop-rt l = (2048 ≡ length l.work) × (98048 ≡ length l.area) × Sound l.bench l.area

abbrev pub decreases-loop-rt : goal.decreases-loop-rt
decreases-loop-rt l = length l.input - l.bench.at
