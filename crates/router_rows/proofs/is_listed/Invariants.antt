-- What is known so far is what the rows passed tell.
use Rattle.std.proofs.Common.{◌≡◌}
use Rattle.lists.specs.Lists.{some_of}
use Rattle.table.specs.Table.{is_at, rows_of}
use Rattle.router_rows.proofs.is_listed.Given as goal

abbrev pub invariant-loop-cell : goal.invariant-loop-cell
invariant-loop-cell l = l.found ≡ some_of (is_at l.handler) (rows_of l.cells l.cell-index)
