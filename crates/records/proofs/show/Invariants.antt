-- Each page leaves fewer bytes. Before each line, the image of the store that it tells of was kept.
use Rattle.std.proofs.Common.{◌≡◌, ◌-◌, length}
use Rattle.ledger.specs.Ledger.{Counted}
use Rattle.records.specs.Records.{Held}
use Rattle.records.proofs.show.Given as goal

abbrev pub invariant-loop-rt : goal.invariant-loop-rt
invariant-loop-rt l = (4096 ≡ length l.page) × Held l.book l.area l.last l.kept × Counted l.cursor

abbrev pub decreases-loop-rt : goal.decreases-loop-rt
decreases-loop-rt l = 65536 - l.cursor.at
