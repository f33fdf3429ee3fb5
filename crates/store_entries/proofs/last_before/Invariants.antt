-- The loop keeps what a search from here downwards finds.
use Rattle.std.proofs.Common.{◌≡◌, length, take}
use Rattle.book.specs.Book.{entries_of, in_file}
use Rattle.lists.specs.ByPlace.{last}
use Rattle.store_entries.proofs.last_before.Given as goal

abbrev pub invariant-loop-i : goal.invariant-loop-i
invariant-loop-i l = (length l.b.entries ≡ 256) × (last (in_file l.f) (take l.i l.b.entries) ≡ last (in_file l.f) (take l.«end» (entries_of l.b)))
