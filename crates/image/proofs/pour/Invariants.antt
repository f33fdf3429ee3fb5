-- What is poured and the slots that are left are all of them.
use Rattle.std.proofs.Common.{◌+◌, ◌*◌, ◌≡◌, ◌≤◌, length, drop}
use Rattle.image.proofs.Restores.{slot_at}
use Rattle.image.specs.Image.{poured}
use Rattle.layout.specs.Judged.{count_in, entries_in}
use Rattle.image.proofs.pour.Given as goal

abbrev pub invariant-loop-i : goal.invariant-loop-i
invariant-loop-i l =
    (l.i ≤ count_in l.img)
    × (length l.area ≡ 98048)
    × (poured (drop l.i (entries_in l.img)) (drop (slot_at l.img l.i) l.img) l.area ≡ poured (entries_in l.img) (drop (64 + count_in l.img * 6) l.img) l.fn.area)
