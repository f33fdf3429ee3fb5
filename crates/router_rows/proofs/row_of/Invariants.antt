-- What is known so far is what the rows passed tell.
use Rattle.std.proofs.Common.{◌≡◌}
use Rattle.lists.specs.Lists.{find}
use Rattle.table.specs.Table.{is_at, rows_of}
use Rattle.router_rows.proofs.row_of.Given as goal

abbrev pub invariant-loop-i : goal.invariant-loop-i
invariant-loop-i l = l.found ≡ find (is_at l.handler) (rows_of l.cells l.i)
