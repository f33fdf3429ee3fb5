-- The rows that are out, and those that are left to take out, are those of all words.
use Rattle.std.proofs.Common.{◌/◌, ◌≡◌, length}
use Rattle.file_commands.proofs.Leaving.{Leaving}
use Rattle.file_commands.proofs.left_of.Given as goal

abbrev pub invariant-loop-i : goal.invariant-loop-i
invariant-loop-i l = (l.i-end ≡ length l.ids / 2) × Leaving l.fn.b l.ids l.i-end l.left l.i
