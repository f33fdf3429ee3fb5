-- The loop keeps what a search from here on finds.
use Rattle.std.proofs.Common.{◌≡◌, drop, length}
use Rattle.book.specs.Book.{entries_of, meant}
use Rattle.lists.specs.ByPlace.{place}
use Rattle.store_entries.proofs.first_from.Given as goal

abbrev pub invariant-loop-i : goal.invariant-loop-i
invariant-loop-i l = (length l.b.entries ≡ 256) × (place (meant l.f l.p) l.i (drop l.i (entries_of l.b)) ≡ place (meant l.f l.p) l.from (drop l.from (entries_of l.b)))
