-- Each page leaves fewer items.
use Rattle.std.proofs.Common.{length}
use Rattle.run.specs.State.{Ready, items_in}
use Rattle.explain.proofs.show.Given as goal

abbrev pub invariant-loop-rt : goal.invariant-loop-rt
invariant-loop-rt l = Ready l.session

abbrev pub decreases-loop-rt : goal.decreases-loop-rt
decreases-loop-rt l = length (items_in l.input l.session)
