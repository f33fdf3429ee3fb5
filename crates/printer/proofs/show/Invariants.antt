-- Each page leaves fewer lines.
use Rattle.std.proofs.Common.{length}
use Rattle.run.specs.State.{Ready}
use Rattle.transcript.specs.Prescribed.{lines_left}
use Rattle.printer.proofs.show.Given as goal

abbrev pub invariant-loop-rt : goal.invariant-loop-rt
invariant-loop-rt l = Ready l.session

abbrev pub decreases-loop-rt : goal.decreases-loop-rt
decreases-loop-rt l = length (lines_left l.input l.session)
