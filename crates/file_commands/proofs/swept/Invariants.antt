-- What is kept so far and what is left to see come to the whole walk.
use Rattle.std.proofs.Common.{◌≡◌, length}
use Rattle.book.specs.Book.{entries_of}
use Rattle.file_commands.proofs.Sweeping.{Going}
use Rattle.file_commands.proofs.swept.Given as goal

abbrev pub invariant-loop-i : goal.invariant-loop-i
invariant-loop-i l = (l.i-end ≡ length (entries_of l.b)) × Going l.b.kinds (entries_of l.b) l.fn.area l.area l.next l.i
