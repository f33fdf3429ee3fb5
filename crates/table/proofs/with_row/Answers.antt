-- `table::with_row` meets its contract: each arm by the test that led there. Assumes nothing.
use borrow.Author.Tests.{le-ltb, lt-ltb}
use Rattle.table.specs.Table.{with_row}
use Rattle.table.proofs.with_row.Goals as goal

pub returns-then-at-lt16 : goal.returns-then-at-lt16
unfolding with_row
returns-then-at-lt16 c = simp (lt-ltb _ _ c.if-at-lt16.true, c.from.ensures)

pub returns-else-at-lt16 : goal.returns-else-at-lt16
unfolding with_row
returns-else-at-lt16 c = simp (le-ltb _ _ c.if-at-lt16.false)
