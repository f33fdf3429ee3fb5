use Rattle.std.proofs.Common.{◌≡◌, ◌+◌, ◌-◌, ◌≤◌, length}
use Rattle.run.specs.Start.{heading_of}
use Rattle.run.proofs.Rows.{rows_from}
use Rattle.session_begun.proofs.read_rows.Given as goal

-- the rows from each place on give what all of them give
abbrev pub invariant-loop-address : goal.invariant-loop-address
invariant-loop-address l = (l.at ≤ length l.input) × (l.number ≤ l.at + 1) × (rows_from l.input l.rows l.number l.at ≡ heading_of l.input)

abbrev pub decreases-loop-address : goal.decreases-loop-address
decreases-loop-address l = length l.input - l.at
