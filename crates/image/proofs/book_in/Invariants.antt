-- The entries so far are the first of the image.
use Rattle.std.proofs.Common.{◌≡◌, ◌≤◌, take}
use Rattle.book.specs.Book.{book_of}
use Rattle.layout.specs.Judged.{count_in, entries_in, table_in}
use Rattle.image.proofs.book_in.Given as goal

abbrev pub invariant-loop-i : goal.invariant-loop-i
invariant-loop-i l = (l.i ≤ count_in l.img) × (l.next ≡ book_of (table_in l.img) (take l.i (entries_in l.img)))
