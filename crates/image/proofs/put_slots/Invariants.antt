-- What is written and the slots that are left are all of them.
use Rattle.std.proofs.Common.{◌+◌, ◌*◌, ◌≡◌, ◌≤◌, length, drop}
use Rattle.book.specs.Book.{entries_of}
use Rattle.image.specs.Image.{slot_bytes}
use Rattle.layout.specs.Layout.{flat}
use Rattle.lists.specs.Lists.{over}
use Rattle.image.proofs.put_slots.Given as goal

abbrev pub invariant-loop-i : goal.invariant-loop-i
invariant-loop-i l =
    (l.i ≤ length (entries_of l.b)) × (length l.out ≡ length l.fn.out)
    × (over l.out (l.from + l.i * 383) (flat (slot_bytes l.area) (drop l.i (entries_of l.b))) ≡ over l.fn.out l.from (flat (slot_bytes l.area) (entries_of l.b)))
