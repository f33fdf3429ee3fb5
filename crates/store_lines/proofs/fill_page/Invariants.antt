-- The page holds whole lines, the first ones that were left, and the store is the one that they leave.
use Rattle.std.proofs.Common.{◌-◌, length}
use Rattle.ledger.proofs.Filling.{Going}
use Rattle.store_lines.proofs.fill_page.Given as goal

abbrev pub invariant-loop-page : goal.invariant-loop-page
invariant-loop-page l = Going l.input l.fn.page l.fn.area l.fn.b l.fn.cursor.at l.fn.cursor.number l.page l.area l.book l.at l.number l.used l.count

abbrev pub decreases-loop-page : goal.decreases-loop-page
decreases-loop-page l = length l.input - l.at
