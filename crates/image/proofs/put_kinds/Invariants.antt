-- What is written and the rows that are left are the whole table.
use Rattle.std.proofs.Common.{◌+◌, ◌*◌, ◌≡◌, length, drop}
use Rattle.layout.specs.Layout.{flat, kind_bytes}
use Rattle.lists.specs.Lists.{over}
use Rattle.image.proofs.put_kinds.Given as goal

abbrev pub invariant-loop-i : goal.invariant-loop-i
invariant-loop-i l =
    (length l.out ≡ length l.fn.out)
    × (over l.out (14 + l.i * 3) (flat kind_bytes (drop l.i l.kind-items)) ≡ over l.fn.out 14 (flat kind_bytes l.kind-items))
