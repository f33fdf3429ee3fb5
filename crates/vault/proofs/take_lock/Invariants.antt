-- Each turn is one try less.
use Rattle.std.proofs.Common.{◌-◌}
use Rattle.vault.proofs.take_lock.Given as goal

abbrev pub decreases-loop-tries : goal.decreases-loop-tries
decreases-loop-tries l = 8 - l.tries
