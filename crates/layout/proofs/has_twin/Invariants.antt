-- The entries from here on come to what the later ones all come to.
use Rattle.std.proofs.Common.{◌+◌, ◌≡◌}
use Rattle.layout.specs.Judged.{twin_from}
use Rattle.layout.proofs.has_twin.Given as goal

abbrev pub invariant-loop-j : goal.invariant-loop-j
invariant-loop-j l = twin_from l.img l.i l.j ≡ twin_from l.img l.i (l.i + 1)
