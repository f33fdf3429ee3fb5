-- The loop marks the slots of the entries.
use Rattle.std.proofs.Common.{◌≡◌, drop, length}
use Rattle.book.specs.Book.{slots_of}
use Rattle.lists.proofs.Least.{Marks}
use Rattle.store_entries.proofs.free_slot.Given as goal

abbrev pub invariant-loop-x : goal.invariant-loop-x
invariant-loop-x l = (length l.used ≡ 257) × Marks l.used (slots_of (drop l.x-index l.x-items)) (slots_of l.x-items)
