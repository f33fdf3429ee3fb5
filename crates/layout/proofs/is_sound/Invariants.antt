-- The entries from here on come to what all entries come to.
use Rattle.std.proofs.Common.{◌≡◌}
use Rattle.layout.proofs.Sounds.{sound_from}
use Rattle.layout.proofs.is_sound.Given as goal

abbrev pub invariant-loop-i : goal.invariant-loop-i
invariant-loop-i l = sound_from l.img l.i ≡ sound_from l.img 0
