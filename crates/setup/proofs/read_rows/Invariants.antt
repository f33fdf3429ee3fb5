-- The rows so far, with those that are still to read, are all of them.
use Rattle.std.proofs.Common.{◌≡◌, drop}
use Rattle.table.specs.Table.{with_rows, rows_read}
use Rattle.setup.proofs.read_rows.Given as goal

abbrev pub invariant-loop-row : goal.invariant-loop-row
invariant-loop-row l = with_rows l.held (drop l.row-index l.rows) ≡ rows_read l.rows
