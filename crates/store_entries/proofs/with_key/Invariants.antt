-- The loop keeps what a search from here on finds.
use Rattle.std.proofs.Common.{◌≡◌, drop, length}
use Rattle.book.specs.Book.{entries_of, key_at}
use Rattle.lists.specs.ByPlace.{place}
use Rattle.store_entries.proofs.with_key.Given as goal

abbrev pub invariant-loop-i : goal.invariant-loop-i
invariant-loop-i l = (length l.b.entries ≡ 256) × (place (key_at l.area l.f l.key) l.i (drop l.i (entries_of l.b)) ≡ place (key_at l.area l.f l.key) l.from (drop l.from (entries_of l.b)))
