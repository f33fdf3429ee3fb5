-- What is used of the page is the rows up to the state; a turn leaves fewer items.
use Rattle.std.proofs.Common.{length}
use Rattle.run.specs.State.{items_in}
use Rattle.picture.proofs.Front.{Going}
use Rattle.picture.proofs.fill_page.Given as goal

abbrev pub invariant-loop-used : goal.invariant-loop-used
invariant-loop-used l = Going l.input l.sheet l.initial.page l.initial.next l.page l.next l.used

abbrev pub decreases-loop-used : goal.decreases-loop-used
decreases-loop-used l = length (items_in l.input l.next)
