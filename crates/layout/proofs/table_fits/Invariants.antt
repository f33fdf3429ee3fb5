-- The rows from here on come to what all rows come to.
use Rattle.std.proofs.Common.{◌≡◌}
use Rattle.layout.proofs.Tables.{rows_from}
use Rattle.layout.specs.Judged.{table_fits}
use Rattle.layout.proofs.table_fits.Given as goal

abbrev pub invariant-loop-i : goal.invariant-loop-i
invariant-loop-i l = rows_from l.img l.i ≡ table_fits l.img
