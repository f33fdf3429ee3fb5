-- The state keeps its law; a turn leaves fewer items.
use Rattle.std.proofs.Common.{length}
use Rattle.run.specs.State.{Ready, items_in}
use Rattle.picture.proofs.count_rows.Given as goal

abbrev pub invariant-loop-turn : goal.invariant-loop-turn
invariant-loop-turn l = Ready l.next

abbrev pub decreases-loop-turn : goal.decreases-loop-turn
decreases-loop-turn l = length (items_in l.input l.next)
