-- The first rows are those of the image.
use Rattle.std.proofs.Common.{◌≤◌}
use Rattle.image.proofs.Restores.{Begun}
use Rattle.layout.specs.Judged.{table_in}
use Rattle.image.proofs.with_kinds.Given as goal

abbrev pub invariant-loop-i : goal.invariant-loop-i
invariant-loop-i l = (l.i ≤ 16) × Begun (table_in l.img) l.i l.next
