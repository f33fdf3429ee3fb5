-- What is written and the entries that are left are all of them.
use Rattle.std.proofs.Common.{◌+◌, ◌*◌, ◌≡◌, ◌≤◌, length, drop}
use Rattle.book.specs.Book.{entries_of}
use Rattle.layout.specs.Layout.{entry_bytes, flat}
use Rattle.lists.specs.Lists.{over}
use Rattle.image.proofs.put_entries.Given as goal

abbrev pub invariant-loop-i : goal.invariant-loop-i
invariant-loop-i l =
    (l.i ≤ length (entries_of l.b)) × (length l.out ≡ length l.fn.out)
    × (over l.out (64 + l.i * 6) (flat entry_bytes (drop l.i (entries_of l.b))) ≡ over l.fn.out 64 (flat entry_bytes (entries_of l.b)))
