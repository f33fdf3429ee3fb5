-- The words of the identifiers so far stand at the start.
use Rattle.std.proofs.Common.{◌≡◌, ◌≤◌, length}
use Rattle.store.proofs.Writes.{Placed}
use Rattle.store_answers.proofs.put_ids.Given as goal

abbrev pub invariant-loop-i : goal.invariant-loop-i
invariant-loop-i l = (l.n ≤ 16) × (length l.ids ≡ 16) × (32 ≤ length l.fn.body) × Placed l.fn.body l.ids l.body l.i
