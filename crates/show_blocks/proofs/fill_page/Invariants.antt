-- The page holds whole blocks, from one state to the next; each leaves fewer items.
use Rattle.std.proofs.Common.{length}
use Rattle.run.specs.State.{items_in}
use Rattle.blocks.proofs.Room.{Going}
use Rattle.show_blocks.proofs.fill_page.Given as goal

abbrev pub invariant-loop-used : goal.invariant-loop-used
invariant-loop-used l = Going l.input l.fn.page l.fn.session l.page l.next l.used

abbrev pub decreases-loop-used : goal.decreases-loop-used
decreases-loop-used l = length (items_in l.input l.next)
