-- The identifiers given so far, and those that are left to give, are those of the whole Create.
use Rattle.std.proofs.Common.{◌≡◌, ◌≤◌, length}
use Rattle.file_commands.proofs.Making.{Making}
use Rattle.file_commands.proofs.create.Given as goal

abbrev pub invariant-loop-i : goal.invariant-loop-i
invariant-loop-i l = (l.i-end ≡ l.n) × (l.n ≤ 16) × (length l.ids ≡ 16) × Making l.n l.keymax l.recmax l.fn.b l.ids l.next l.i
