-- The bytes so far stand in the buffer, and the rest is still to be scanned.
use Rattle.hexes.proofs.Reading.{Going}
use Rattle.session_hex_reader.proofs.read.Given as goal

abbrev pub invariant-loop-i : goal.invariant-loop-i
invariant-loop-i l = Going l.text l.initial.to l.to l.mode l.count l.i
