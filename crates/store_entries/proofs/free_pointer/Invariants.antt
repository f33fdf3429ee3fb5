-- The loop marks the pointers of the entries.
use Rattle.std.proofs.Common.{◌≡◌, drop, length}
use Rattle.book.specs.Book.{pointers_of}
use Rattle.lists.proofs.Least.{Marks}
use Rattle.store_entries.proofs.free_pointer.Given as goal

abbrev pub invariant-loop-x : goal.invariant-loop-x
invariant-loop-x l = (length l.used ≡ 257) × Marks l.used (pointers_of l.f (drop l.x-index l.x-items)) (pointers_of l.f l.x-items)
