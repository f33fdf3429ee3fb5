-- The folder's part ends at a byte that was seen.
use Rattle.std.proofs.Common.{◌-◌, ◌≤◌, length}
use Rattle.vault.proofs.folder_length.Given as goal

abbrev pub invariant-loop-i : goal.invariant-loop-i
invariant-loop-i l = (l.i ≤ length l.path) × (l.n ≤ l.i)

abbrev pub decreases-loop-i : goal.decreases-loop-i
decreases-loop-i l = length l.path - l.i
